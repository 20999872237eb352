use Rattle.std.proofs.Common.{◌≡◌, ℕ, ◌≤◌, Option, Some, None, IsSomeAnd, List, length, map, take, drop, refl, sym, ◌∙◌, ap, subst, arith}
use Rattle.std.specs.List.{slice_get}
use Rattle.std.proofs.Math.IntN.{ℤ}
use Rattle.std.proofs.Math.Seq.{take-length}
use Rattle.std.proofs.lemmas.List.{drop_all, length-map}
use Rattle.std.proofs.lemmas.Option.{slice_get-map}
use Rattle.std.specs.Option.{option_map}
use Rattle.fl_base.specs.declared.types.Geometry.{Geometry}
use Rattle.fl_flash.specs.Flash.{FlashState}
use Rattle.fl_model.specs.Bare.{bare, bare_table}
use Rattle.fl_model.specs.Facts.{FitsPlan}
use Rattle.fl_model.specs.Record.{RowLayout}
use Rattle.fl_model.specs.Row.{Row, stored_row}
use Rattle.fl_model.specs.Table as model
use Rattle.fl_model.specs.Table.{Entry}
use Rattle.fl_model.proofs.Lists.{each-at, take_none, take-one_more}
use Rattle.fl_page.specs.Header.{page_count}
use Rattle.fl_page.specs.Page.{IsGoodPage, rows_in}
use Rattle.fl_page.specs.View.{page_of, layout_of_page, count_of}
use Rattle.fl_frame.specs.Watched.{IsWatched}
use Rattle.fl_page.proofs.RowsFrom.{length-rows_from}
use Rattle.fl_table.specs.Look.{layout_in}
use Rattle.fl_table.specs.Standing.{Stands}
use Rattle.fl_table.proofs.SealAnswers.{plan-self, same-then}
use Rattle.fl_parts.proofs.Sizes.{table-fits, view-fits}
use Rattle.fl_rlc.specs.Joining.{all_taken}
use Rattle.fl_rlc.specs.Offering.{AreOffered}
use Rattle.fl_rlc.proofs.Joined.{taken-push, joined-is}
use Rattle.fl_rlc.proofs.OfferedRecords.{offered-next}
use Rattle.fl_rlc.proofs.PutFrames.{blobs-same}
use Rattle.fl_rlc.proofs.TakenRecord.{fits-bare, room-for}
use Rattle.fl_rlc.proofs.Sizes.{few-bytes}
use Rattle.fl_rlc.proofs.join.join_rows.Goals as goal

-- the record of a row
record Found (es : List Entry) (i key : ℕ) (values : List ℤ) : Type 0 where
  entry : Entry
  is : slice_get es i ≡ Some entry
  key_is : entry.kept.key ≡ key
  values_is : entry.kept.values ≡ values

found : (es : List Entry) (i key : ℕ) (values : List ℤ) → IsSomeAnd (slice_get (map stored_row es) i) (λ row. (key ≡ row.key) × (values ≡ row.values)) → Found es i key values
found es i key values h = by-entry (slice_get es i) refl (subst (λ (o : Option Row). IsSomeAnd o (λ row. (key ≡ row.key) × (values ≡ row.values))) (slice_get-map stored_row es i) h)
  where
    by-entry : (o : Option Entry) → slice_get es i ≡ o → IsSomeAnd (option_map stored_row o) (λ row. (key ≡ row.key) × (values ≡ row.values)) → Found es i key values
    by-entry None e k = absurd k
    by-entry (Some entry) e k = record { entry = entry; is = e; key_is = sym k.0; values_is = sym k.1 }

pub loop-i-init : goal.loop-i-init
loop-i-init g c = record {
  still = refl;
  same = plan-self c.args.table.now;
  lies = c.requires.lies;
  running = c.requires.running;
  calm = refl;
  few = omega (arith, c.requires.none);
  offers = λ after h. h;
  joins = λ first plan table_now rose device watched s page rows.
      subst (λ (es : List Entry). Stands c.args.table.now (g.F.Flash.state c.args.flash.now) first (bare plan) (all_taken (bare_table table_now) es)) (sym (take_none table_now.logged)) s;
}

pub record_at-record-requires : goal.record_at-record-requires
record_at-record-requires g c =
    let rows = ap (λ (rs : List Row). length rs) c.view.ensures.rows in
    let view = c.view.result in
    let bytes = c.args.buf.now.bytes in
    let count : c.rows-i-end.result ≡ page_count c.args.buf.now.bytes =
    c.rows-i-end.ensures ∙ omega (arith, rows, length-rows_from (count_of view) (layout_of_page view) (drop 16 (page_of view)), length-rows_from (page_count bytes) (layout_in c.args.table.now) (drop 16 bytes)) in (
      table-fits g.row.KNOTS g.row.SLOTS c.loop-i.table.few_knots c.loop-i.table.few_slots,
      (
        subst (λ (l : RowLayout). IsGoodPage l c.args.number c.args.buf.now.bytes) (sym c.loop-i.invariant.same.layout) c.requires.good,
        (omega (arith, c.requires.size, (g.met.F.Flash.serves c.args.flash.now).page_greatest), omega (arith, count, c.loop-i-test.true)),
      ),
    )

pub take_record-requires : goal.take_record-requires
take_record-requires g c =
    let rows = ap (λ (rs : List Row). length rs) c.view.ensures.rows in
    let view = c.view.result in
    let bytes = c.args.buf.now.bytes in
    let count : c.rows-i-end.result ≡ page_count c.args.buf.now.bytes =
    c.rows-i-end.ensures ∙ omega (arith, rows, length-rows_from (count_of view) (layout_of_page view) (drop 16 (page_of view)), length-rows_from (page_count bytes) (layout_in c.args.table.now) (drop 16 bytes)) in
    let page : length c.args.buf.now.bytes ≡ c.loop-i.table.geometry.page = c.requires.size ∙ ap (λ (x : Geometry). x.page) (c.requires.lies.geometry ∙ sym c.loop-i.invariant.same.geometry) in (
      table-fits g.row.KNOTS g.row.SLOTS c.loop-i.table.few_knots c.loop-i.table.few_slots,
      (
        c.loop-i.invariant.running,
        (
          blobs-same c.args.table.now c.loop-i.table c.loop-i.invariant.same ∙ c.requires.no_blobs,
          (
            room-for c.loop-i.table c.args.buf.now.bytes c.args.number c.loop-i.i (subst (λ (l : RowLayout). IsGoodPage l c.args.number c.args.buf.now.bytes) (sym c.loop-i.invariant.same.layout) c.requires.good) page c.loop-i.invariant.few (omega (arith, count, c.loop-i-test.true)),
            c.loop-i.invariant.lies,
          ),
        ),
      ),
    )

pub loop-i-preserved : goal.loop-i-preserved
loop-i-preserved g c =
    let old = g.F.Flash.state c.args.flash.now in
    let now = g.F.Flash.state c.loop-i.flash in
    let next = g.F.Flash.state c.take_record.new.flash in
    let here : g.F.Flash.state c.take_record.new.flash ≡ g.F.Flash.state c.args.flash.now = c.take_record.ensures.still ∙ c.loop-i.invariant.still in
    record {
      still = here;
      same = same-then c.args.table.now c.loop-i.table c.take_record.new.table c.loop-i.invariant.same c.take_record.ensures.same;
      lies = c.take_record.ensures.lies;
      running = c.take_record.ensures.running;
      calm = c.take_record.ensures.calm ∙ c.loop-i.invariant.calm;
      few = omega (arith, c.take_record.ensures.pending, c.loop-i.invariant.few);
      offers = λ after h.
          c.loop-i.invariant.offers after
          (offered-next c.loop-i.i (rows_in (layout_in c.args.table.now) c.args.buf.now.bytes) c.loop-i.table c.take_record.new.table after c.record_at-record.result.key c.record_at-record.result.values.items
          (subst (λ (l : RowLayout). IsSomeAnd (slice_get (rows_in l c.args.buf.now.bytes) c.loop-i.i) (λ row. (c.record_at-record.result.key ≡ row.key) × (c.record_at-record.result.values.items ≡ row.values))) c.loop-i.invariant.same.layout c.record_at-record.ensures)
          c.take_record.ensures.offers h);
      joins = λ first plan table_now rose device watched s page rows.
          let es = table_now.logged in
          let at = found es c.loop-i.i c.record_at-record.result.key c.record_at-record.result.values.items
          (subst (λ (rs : List Row). IsSomeAnd (slice_get rs c.loop-i.i) (λ row. (c.record_at-record.result.key ≡ row.key) × (c.record_at-record.result.values.items ≡ row.values)))
          (ap (λ (l : RowLayout). rows_in l c.args.buf.now.bytes) c.loop-i.invariant.same.layout ∙ rows) c.record_at-record.ensures) in
          let watched_now = subst (λ (f : FlashState). IsWatched f (g.F.Flash.state c.take_record.new.flash) rose device) (sym c.loop-i.invariant.still) (subst (λ (f : FlashState). IsWatched (g.F.Flash.state c.args.flash.now) f rose device) (sym here) watched) in
          let k = c.take_record.ensures.takes first (bare plan) (all_taken (bare_table table_now) (take c.loop-i.i es)) rose device at.entry watched_now (c.loop-i.invariant.joins first plan table_now rose device watched s page rows)
          (fits-bare plan at.entry (each-at (FitsPlan plan) es c.loop-i.i at.entry page.fit at.is)) at.key_is at.values_is in
          subst (λ (x : model.Table). Stands c.take_record.new.table (g.F.Flash.state c.take_record.new.flash) first (bare plan) x)
          (sym (taken-push (bare_table table_now) (take c.loop-i.i es) at.entry) ∙ ap (all_taken (bare_table table_now)) (sym (take-one_more es c.loop-i.i at.entry at.is))) k;
    }

pub returns-clause-offers : goal.returns-clause-offers
returns-clause-offers g c =
    let view = c.view.result in
    let bytes = c.args.buf.now.bytes in
    let rows = rows_in (layout_in c.args.table.now) c.args.buf.now.bytes in
    let all = ap (λ (rs : List Row). length rs) c.view.ensures.rows in
    let count : c.rows-i-end.result ≡ page_count c.args.buf.now.bytes =
    c.rows-i-end.ensures ∙ omega (arith, all, length-rows_from (count_of view) (layout_of_page view) (drop 16 (page_of view)), length-rows_from (page_count bytes) (layout_in c.args.table.now) (drop 16 bytes)) in
    let done : length (rows_in (layout_in c.args.table.now) c.args.buf.now.bytes) ≤ c.loop-i.i =
    omega (arith, c.loop-i.auto.i-end, c.loop-i-test.false, count, length-rows_from (page_count bytes) (layout_in c.args.table.now) (drop 16 bytes)) in
    c.loop-i.invariant.offers c.loop-i.table (subst (λ (rs : List Row). AreOffered c.loop-i.table rs c.loop-i.table) (sym (drop_all c.loop-i.i rows done)) refl)

pub returns-clause-joins : goal.returns-clause-joins
returns-clause-joins g c = λ first plan table_now rose device watched s none page rows.
    let es = table_now.logged in
    let view = c.view.result in
    let bytes = c.args.buf.now.bytes in
    let count : c.rows-i-end.result ≡ page_count c.args.buf.now.bytes =
    let all = ap (λ (rs : List Row). length rs) c.view.ensures.rows in
    c.rows-i-end.ensures ∙ omega (arith, all, length-rows_from (count_of view) (layout_of_page view) (drop 16 (page_of view)), length-rows_from (page_count bytes) (layout_in c.args.table.now) (drop 16 bytes)) in
    let as_many : page_count c.args.buf.now.bytes ≡ length table_now.logged =
    sym (length-rows_from (page_count bytes) (layout_in c.args.table.now) (drop 16 bytes)) ∙ (ap (λ (rs : List Row). length rs) rows ∙ length-map es stored_row) in
    let end : c.loop-i.i ≡ length table_now.logged = omega (arith, c.loop-i.auto.i-end, c.loop-i-test.false, count, as_many) in
    let before = subst (λ (f : FlashState). IsWatched (g.F.Flash.state c.args.flash.now) f rose device) c.loop-i.invariant.still watched in
    subst (λ (x : model.Table). Stands c.loop-i.table (g.F.Flash.state c.loop-i.flash) first (bare plan) x)
    (ap (λ (n : ℕ). all_taken (bare_table table_now) (take n es)) end ∙ (ap (all_taken (bare_table table_now)) (take-length es) ∙ sym (joined-is plan table_now none page)))
    (c.loop-i.invariant.joins first plan table_now rose device before s page rows)

pub returns-clause-still : goal.returns-clause-still
returns-clause-still g c = c.loop-i.invariant.still

pub returns-clause-same : goal.returns-clause-same
returns-clause-same g c = c.loop-i.invariant.same

pub returns-clause-lies : goal.returns-clause-lies
returns-clause-lies g c = c.loop-i.invariant.lies

pub returns-clause-running : goal.returns-clause-running
returns-clause-running g c = c.loop-i.invariant.running

pub returns-clause-calm : goal.returns-clause-calm
returns-clause-calm g c = c.loop-i.invariant.calm

pub rows-i-end-requires : goal.rows-i-end-requires
rows-i-end-requires g c = view-fits

pub view-requires : goal.view-requires
view-requires g c = (table-fits g.row.KNOTS g.row.SLOTS c.args.table.now.few_knots c.args.table.now.few_slots, (c.requires.good, few-bytes _ _ (c.requires.size ∙ ap (λ (x : Geometry). x.page) c.requires.lies.geometry) c.args.table.now.served.page_greatest))
