use Rattle.std.proofs.Common.{◌≡◌, ℕ, ◌≤◌, true, List, IsTrue, refl, sym, ◌∙◌, ap, subst, length}
use Rattle.std.proofs.lemmas.Result.{err_from_is_err_and}
use Rattle.fl_flash.specs.Flash.{FlashState}
use Rattle.fl_model.specs.Bare.{bare, bare_table}
use Rattle.fl_model.specs.Layout.{committed}
use Rattle.fl_model.specs.Record.{RowLayout, row_layout, layout_len}
use Rattle.fl_page.specs.Page.{IsGoodPage, rows_in}
use Rattle.fl_frame.specs.Causes.{ReadFails}
use Rattle.fl_frame.specs.Reads.{OnlyReads}
use Rattle.fl_ring.proofs.Founds.{same_pages}
use Rattle.fl_ring.proofs.RepairSteps.{device_still}
use Rattle.fl_table.specs.Look.{layout_in}
use Rattle.fl_table.proofs.Apart.{stands-pages}
use Rattle.fl_frame.proofs.WatchedInTurn.{watched-then}
use Rattle.fl_parts.proofs.Refused.{page-page}
use Rattle.fl_table.proofs.SealAnswers.{plan-self}
use Rattle.fl_parts.proofs.Sizes.{table-fits}
use Rattle.fl_table.proofs.ReadsKeepTable.{lies-moved}
use Rattle.fl_rlc.specs.Memory.{page_in}
use Rattle.fl_rlc.specs.Offering.{AreOffered}
use Rattle.fl_rlc.specs.Pages.{log_body}
use Rattle.fl_rlc.specs.Replaying.{MayStand, IsBad}
use Rattle.fl_rlc.proofs.NewestRead.{never-bad, bad-of_pages, bad-no_flash, read-fails, newest-read}
use Rattle.fl_rlc.proofs.OfferedRecords.{none-joined}
use Rattle.fl_base.specs.declared.types.Geometry.{Geometry}
use Rattle.fl_rlc.proofs.Sizes.{some-bytes, few-bytes}
use Rattle.fl_rlc.proofs.replay.join_newest.Goals as goal

pub returns-in_err-read-clause-unjoined : goal.returns-in_err-read-clause-unjoined
returns-in_err-read-clause-unjoined g c = λ none. refl

pub returns-in_err-check_page-clause-unjoined : goal.returns-in_err-check_page-clause-unjoined
returns-in_err-check_page-clause-unjoined g c = λ none. refl

pub returns-clause-unjoined : goal.returns-clause-unjoined
returns-clause-unjoined g c = λ none. none-joined _ c.args.table.now c.join_rows.new.table c.join_rows.ensures.offers none

pub returns-in_err-read-clause-joins : goal.returns-in_err-read-clause-joins
returns-in_err-read-clause-joins g c = λ first plan table rose device watched s none newest.
    let p = err_from_is_err_and c.from_residual.result c.from_residual.ensures.1 in
    rw (p.1, p.2) (read-fails (g.F.Flash.state c.args.flash.now) (g.F.Flash.state c.read.new.flash) c.in_err-read.field-0.0 rose watched.on watched.risen c.in_err-read.ensures.fails)

-- ---- the page isn't read

pub returns-in_err-read-clause-reads : goal.returns-in_err-read-clause-reads
returns-in_err-read-clause-reads g c = c.in_err-read.ensures.reads

pub returns-in_err-read-clause-same : goal.returns-in_err-read-clause-same
returns-in_err-read-clause-same g c = plan-self c.args.table.now

pub returns-in_err-read-clause-lies : goal.returns-in_err-read-clause-lies
returns-in_err-read-clause-lies g c = lies-moved c.args.table.now (g.F.Flash.state c.args.flash.now) (g.F.Flash.state c.read.new.flash) c.in_err-read.ensures.reads.goes c.requires.table_lies

pub returns-in_err-read-clause-room : goal.returns-in_err-read-clause-room
returns-in_err-read-clause-room g c = c.in_err-read.ensures.room

pub returns-in_err-read-clause-running : goal.returns-in_err-read-clause-running
returns-in_err-read-clause-running g c = c.requires.running

pub returns-in_err-read-clause-calm : goal.returns-in_err-read-clause-calm
returns-in_err-read-clause-calm g c = refl

pub returns-in_err-read-clause-stands : goal.returns-in_err-read-clause-stands
returns-in_err-read-clause-stands g c = let p = err_from_is_err_and c.from_residual.result c.from_residual.ensures.1 in rw p.1 tt

pub returns-in_err-read-clause-offers : goal.returns-in_err-read-clause-offers
returns-in_err-read-clause-offers g c = let p = err_from_is_err_and c.from_residual.result c.from_residual.ensures.1 in rw p.1 tt

pub returns-in_err-read-clause-power : goal.returns-in_err-read-clause-power
returns-in_err-read-clause-power g c = let p = err_from_is_err_and c.from_residual.result c.from_residual.ensures.1 in rw p.1 tt

pub returns-in_err-read-clause-bad : goal.returns-in_err-read-clause-bad
returns-in_err-read-clause-bad g c = let p = err_from_is_err_and c.from_residual.result c.from_residual.ensures.1 in rw (p.1, p.2) tt

pub returns-in_err-read-clause-fails : goal.returns-in_err-read-clause-fails
returns-in_err-read-clause-fails g c = let p = err_from_is_err_and c.from_residual.result c.from_residual.ensures.1 in rw (p.1, p.2) c.in_err-read.ensures.fails

pub returns-in_err-read-clause-only : goal.returns-in_err-read-clause-only
returns-in_err-read-clause-only g c = let p = err_from_is_err_and c.from_residual.result c.from_residual.ensures.1 in rw (p.1, p.2) refl

-- ---- the page is bad

pub returns-in_err-check_page-clause-same : goal.returns-in_err-check_page-clause-same
returns-in_err-check_page-clause-same g c = plan-self c.args.table.now

pub returns-in_err-check_page-clause-lies : goal.returns-in_err-check_page-clause-lies
returns-in_err-check_page-clause-lies g c = lies-moved c.args.table.now (g.F.Flash.state c.args.flash.now) (g.F.Flash.state c.read.new.flash) c.in_ok-read.ensures.reads.goes c.requires.table_lies

pub returns-in_err-check_page-clause-joins : goal.returns-in_err-check_page-clause-joins
returns-in_err-check_page-clause-joins g c = λ first plan table rose device watched s none newest.
    let t = c.args.table.now in
    let bytes : c.bytes.result.now ≡ committed (log_body plan c.args.number table.logged) = c.bytes.ensures ∙ (c.in_ok-read.ensures.page watched.told ∙ newest.bytes) in
    let read = newest-read t (g.F.Flash.state c.args.flash.now) first plan table c.args.number c.requires.no_blobs s newest.page newest.small in
    let bad = subst (λ (l : RowLayout). IsBad l c.args.number c.bytes.result.now c.in_err-check_page.field-0.0) (c.schema.ensures.exact ∙ sym s.planned.layout) c.in_err-check_page.ensures.bad in
    absurd (never-bad (row_layout plan) c.args.number (committed (log_body plan c.args.number table.logged)) c.in_err-check_page.field-0.0 read.stands
    (subst (λ (b : List ℕ). IsBad (row_layout plan) c.args.number b c.in_err-check_page.field-0.0) bytes bad))

pub returns-in_err-check_page-clause-bad : goal.returns-in_err-check_page-clause-bad
returns-in_err-check_page-clause-bad g c =
    let p = err_from_is_err_and c.from_residual-in_err-check_page.result c.from_residual-in_err-check_page.ensures.1 in
    rw (p.1, p.2) (page-page c.in_err-check_page.field-0.0 (λ e. IsTrue (g.F.Flash.state c.args.flash.now).media.tells → IsBad (layout_in c.args.table.now) c.args.number (page_in c.args.log.now (g.F.Flash.state c.args.flash.now) c.args.number) e)
    (λ told. subst (λ (b : List ℕ). IsBad (layout_in c.args.table.now) c.args.number b c.in_err-check_page.field-0.0) (c.bytes.ensures ∙ c.in_ok-read.ensures.page told)
    (subst (λ (l : RowLayout). IsBad l c.args.number c.bytes.result.now c.in_err-check_page.field-0.0) c.schema.ensures.exact c.in_err-check_page.ensures.bad)))

pub returns-in_err-check_page-clause-fails : goal.returns-in_err-check_page-clause-fails
returns-in_err-check_page-clause-fails g c =
    let p = err_from_is_err_and c.from_residual-in_err-check_page.result c.from_residual-in_err-check_page.ensures.1 in
    rw (p.1, p.2) (bad-no_flash _ c.args.number c.bytes.result.now c.in_err-check_page.field-0.0 (λ e. ReadFails (g.F.Flash.state c.args.flash.now) e (g.F.Flash.state c.read.new.flash)) c.in_err-check_page.ensures.bad)

pub returns-in_err-check_page-clause-only : goal.returns-in_err-check_page-clause-only
returns-in_err-check_page-clause-only g c =
    let p = err_from_is_err_and c.from_residual-in_err-check_page.result c.from_residual-in_err-check_page.ensures.1 in
    rw (p.1, p.2) (bad-of_pages _ c.args.number c.bytes.result.now c.in_err-check_page.field-0.0 c.in_err-check_page.ensures.bad)

pub returns-in_err-check_page-clause-reads : goal.returns-in_err-check_page-clause-reads
returns-in_err-check_page-clause-reads g c = c.in_ok-read.ensures.reads

pub returns-in_err-check_page-clause-room : goal.returns-in_err-check_page-clause-room
returns-in_err-check_page-clause-room g c = c.in_ok-read.ensures.room

pub returns-in_err-check_page-clause-running : goal.returns-in_err-check_page-clause-running
returns-in_err-check_page-clause-running g c = c.requires.running

pub returns-in_err-check_page-clause-calm : goal.returns-in_err-check_page-clause-calm
returns-in_err-check_page-clause-calm g c = refl

pub returns-in_err-check_page-clause-stands : goal.returns-in_err-check_page-clause-stands
returns-in_err-check_page-clause-stands g c = let p = err_from_is_err_and c.from_residual-in_err-check_page.result c.from_residual-in_err-check_page.ensures.1 in rw p.1 tt

pub returns-in_err-check_page-clause-offers : goal.returns-in_err-check_page-clause-offers
returns-in_err-check_page-clause-offers g c = let p = err_from_is_err_and c.from_residual-in_err-check_page.result c.from_residual-in_err-check_page.ensures.1 in rw p.1 tt

pub returns-in_err-check_page-clause-power : goal.returns-in_err-check_page-clause-power
returns-in_err-check_page-clause-power g c = let p = err_from_is_err_and c.from_residual-in_err-check_page.result c.from_residual-in_err-check_page.ensures.1 in rw p.1 tt

-- ---- its records join

pub join_rows-requires : goal.join_rows-requires
join_rows-requires g c =
    let t = c.args.table.now in
    let goes = c.in_ok-read.ensures.reads.goes in (
      table-fits g.row.KNOTS g.row.SLOTS c.args.table.now.few_knots c.args.table.now.few_slots,
      (
        c.requires.running,
        (
          c.requires.none,
          (
            c.requires.no_blobs,
            (
              lies-moved c.args.table.now (g.F.Flash.state c.args.flash.now) (g.F.Flash.state c.read.new.flash) c.in_ok-read.ensures.reads.goes c.requires.table_lies,
              (
                subst (λ (b : List ℕ). IsGoodPage (layout_in c.args.table.now) c.args.number b) c.bytes.ensures (subst (λ (l : RowLayout). IsGoodPage l c.args.number c.bytes.result.now) c.schema.ensures.exact c.in_ok-check_page.ensures.stands.good),
                c.in_ok-read.ensures.room ∙ (c.requires.room ∙ sym (ap (λ x. x.page) goes.geometry)),
              ),
            ),
          ),
        ),
      ),
    )

pub returns-clause-offers : goal.returns-clause-offers
returns-clause-offers g c = λ told.
    subst (λ (b : List ℕ). AreOffered c.args.table.now (rows_in (layout_in c.args.table.now) b) c.join_rows.new.table) (c.in_ok-read.ensures.page told) c.join_rows.ensures.offers

pub returns-clause-joins : goal.returns-clause-joins
returns-clause-joins g c = λ first plan table rose device watched s none newest.
    let t = c.args.table.now in
    let old = g.F.Flash.state c.args.flash.now in
    let mid = g.F.Flash.state c.read.new.flash in
    let new = g.F.Flash.state c.join_rows.new.flash in
    let reads = c.in_ok-read.ensures.reads in
    let bytes : c.read.new.buf.bytes ≡ committed (log_body plan c.args.number table.logged) = c.in_ok-read.ensures.page watched.told ∙ newest.bytes in
    let read = newest-read t old first plan table c.args.number c.requires.no_blobs s newest.page newest.small in
    let rows : rows_in (layout_in c.args.table.now) c.read.new.buf.bytes ≡ _ = ap (λ (b : List ℕ). rows_in (layout_in t) b) bytes ∙ (ap (λ (l : RowLayout). rows_in l (committed (log_body plan c.args.number table.logged))) (sym s.planned.layout) ∙ read.rows) in
    c.join_rows.ensures.joins first plan table rose device (watched-then old mid new rose device device watched reads.goes c.in_ok-read.ensures.power (device_still old mid 1 device reads watched.counts))
    (stands-pages old mid (same_pages old mid 1 reads) t first (bare plan) (bare_table table) s) none newest.page.page rows

pub returns-clause-reads : goal.returns-clause-reads
returns-clause-reads g c = subst (λ (f : FlashState). OnlyReads (g.F.Flash.state c.args.flash.now) 1 f) (sym c.join_rows.ensures.still) c.in_ok-read.ensures.reads

pub returns-clause-same : goal.returns-clause-same
returns-clause-same g c = c.join_rows.ensures.same

pub returns-clause-lies : goal.returns-clause-lies
returns-clause-lies g c = c.join_rows.ensures.lies

pub returns-clause-room : goal.returns-clause-room
returns-clause-room g c = c.in_ok-read.ensures.room

pub returns-clause-running : goal.returns-clause-running
returns-clause-running g c = c.join_rows.ensures.running

pub returns-clause-calm : goal.returns-clause-calm
returns-clause-calm g c = c.join_rows.ensures.calm

pub returns-clause-stands : goal.returns-clause-stands
returns-clause-stands g c = λ told.
    subst (λ (b : List ℕ). MayStand (layout_in c.args.table.now) c.args.number b) (c.bytes.ensures ∙ c.in_ok-read.ensures.page told)
    (subst (λ (l : RowLayout). MayStand l c.args.number c.bytes.result.now) c.schema.ensures.exact c.in_ok-check_page.ensures.stands)

pub returns-clause-bad : goal.returns-clause-bad
returns-clause-bad g c = tt

pub returns-clause-fails : goal.returns-clause-fails
returns-clause-fails g c = tt

pub returns-clause-only : goal.returns-clause-only
returns-clause-only g c = tt

pub returns-clause-power : goal.returns-clause-power
returns-clause-power g c = subst (λ (f : FlashState). f.is_on ≡ true) (sym c.join_rows.ensures.still) c.in_ok-read.ensures.power

-- ---- what the calls ask for

pub read-requires-clause-mounted : goal.read-requires-clause-mounted
read-requires-clause-mounted g c = c.requires.mounted

pub read-requires-clause-lies : goal.read-requires-clause-lies
read-requires-clause-lies g c = c.requires.lies

pub read-requires-clause-room : goal.read-requires-clause-room
read-requires-clause-room g c = c.requires.room

pub schema-requires : goal.schema-requires
schema-requires g c = table-fits g.row.KNOTS g.row.SLOTS c.args.table.now.few_knots c.args.table.now.few_slots

pub check_page-requires-clause-row : goal.check_page-requires-clause-row
check_page-requires-clause-row g c = subst (λ (l : RowLayout). 1 ≤ layout_len l) (sym c.schema.ensures.exact) c.args.table.now.some_row

pub check_page-requires-clause-least : goal.check_page-requires-clause-least
check_page-requires-clause-least g c =
    let n : length c.bytes.result.now ≡ c.args.table.now.geometry.page =
    ap (λ (b : List ℕ). length b) c.bytes.ensures ∙ (c.in_ok-read.ensures.room ∙ (c.requires.room ∙ ap (λ (x : Geometry). x.page) c.requires.table_lies.geometry)) in
    some-bytes _ _ _ n c.args.table.now.room_for_row

pub check_page-requires-clause-most : goal.check_page-requires-clause-most
check_page-requires-clause-most g c =
    let n : length c.bytes.result.now ≡ c.args.table.now.geometry.page =
    ap (λ (b : List ℕ). length b) c.bytes.ensures ∙ (c.in_ok-read.ensures.room ∙ (c.requires.room ∙ ap (λ (x : Geometry). x.page) c.requires.table_lies.geometry)) in
    few-bytes _ _ n c.args.table.now.served.page_greatest
