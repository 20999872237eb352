-- A record joins the pending ones, and pages that are full.
use Rattle.std.proofs.Common.{◌≡◌, ℕ, ◌+◌, ◌-◌, ◌*◌, ◌/◌, ◌<◌, ◌≤◌, Bool, true, List, [], length, refl, sym, ◌∙◌, ap, subst, arith, inl, inr}
use Rattle.std.proofs.Math.Nat.{le-div_iff_mul-le, add-mul}
use Rattle.std.proofs.lemmas.Bool.{cases_lt}
use Rattle.fl_flash.specs.Flash.{FlashState, page_at}
use Rattle.fl_model.specs.Record.{Record, Plan, RowLayout, layout_len, row_len, rows_per_page}
use Rattle.fl_model.specs.Table.{Table, RingName, after_seals, make_room_seals, with_room, fill_seals, join_seals, put_joined, table_seals, flushed, put_record}
use Rattle.fl_model.specs.Puts.{TablePuts, TablePutGoesOn}
use Rattle.fl_model.specs.Within.{seals_within, TablePerforms}
use Rattle.fl_model.specs.Work.{Device, PartEnd, Whole, PartProgress}
use Rattle.fl_frame.specs.Device.{SameDevice}
use Rattle.fl_parts.proofs.Plain.{table-parts}
use Rattle.fl_model.proofs.TableSeals.{idle-table_seals}
use Rattle.fl_flash.specs.declared.flash.FlashFault.{FlashFault}
use Rattle.fl_schema.specs.Schema.{layout_of}
use Rattle.fl_parts.specs.Failing.{Breaks, BySeals}
use Rattle.fl_parts.proofs.InTurn.{join_is}
use Rattle.fl_table.specs.Outcomes.{Finishes}
use Rattle.fl_parts.specs.Pages.{KeptStand}
use Rattle.fl_table.specs.Standing.{Stands}
use Rattle.fl_table.specs.declared.table.Table as code
use Rattle.fl_parts.proofs.KeptPagesStay.{kept-same, kept-then}
use Rattle.fl_table.proofs.SealAnswers.{writer-count}

-- a page has room for one row more just where fewer rows are pending than it holds
module _ {KNOTS SLOTS : ℕ} (t : code.Table KNOTS SLOTS) (f : FlashState) (first : ℕ) (plan : Plan) (table : Table) (s : Stands t f first plan table) where
  len : ℕ
  len = layout_len (layout_of t.schema)

  per_page : rows_per_page plan ≡ (t.geometry.page - 24) / layout_len (layout_of t.schema)
  per_page = ap (λ g. (g.page - 24) / row_len plan) s.planned.geometry ∙ ap (λ (l : RowLayout). (t.geometry.page - 24) / layout_len l) s.planned.layout

  count : t.writer.count ≡ table.pending
  count = writer-count t f first plan table s

  one_more : (table.pending + 1) * layout_len (layout_of t.schema) ≡ table.pending * layout_len (layout_of t.schema) + layout_len (layout_of t.schema)
  one_more = add-mul table.pending 1 (layout_len (layout_of t.schema)) ∙ omega arith

  end : t.writer.end ≡ 16 + table.pending * layout_len (layout_of t.schema)
  end = t.rows_end ∙ ap (λ n. 16 + n * layout_len (layout_of t.schema)) count

  pub has-room : t.writer.end + layout_len (layout_of t.schema) ≤ length t.writer.body → table.pending < rows_per_page plan
  has-room le =
      let fits : table.pending + 1 ≤ (t.geometry.page - 24) / layout_len (layout_of t.schema) = (le-div_iff_mul-le {x = table.pending + 1} {y = t.geometry.page - 24} t.some_row).1 (omega (arith, le, end, one_more, t.page)) in
      omega (arith, fits, per_page)

  pub is-full : length t.writer.body < t.writer.end + layout_len (layout_of t.schema) → table.pending ≡ rows_per_page plan
  is-full lt =
      let facts = table-parts plan table s.planned.log s.facts in
      elim (cases_lt table.pending (rows_per_page plan)) [
        | inl less ↦
            let fits : (table.pending + 1) * layout_len (layout_of t.schema) ≤ t.geometry.page - 24 = (le-div_iff_mul-le {x = table.pending + 1} {y = t.geometry.page - 24} t.some_row).0 (omega (arith, less, per_page)) in
            absurd (omega (arith, fits, lt, end, one_more, t.page, t.room_for_row))
        | inr more ↦ omega (arith, more, facts.few_pending)
      ]

  -- some rows fill it
  pub some-full : length t.writer.body < t.writer.end + layout_len (layout_of t.schema) → table.pending ≡ 0 → ⊥
  some-full lt e =
      let none : table.pending * layout_len (layout_of t.schema) ≡ 0 * layout_len (layout_of t.schema) = ap (λ n. n * layout_len (layout_of t.schema)) e in
      absurd (omega (arith, none, end, lt, t.page, t.room_for_row))

-- the same seals
pub finishes-as : {KNOTS SLOTS : ℕ} (first : ℕ) (plan : Plan) (rings others : List RingName) (table : Table) (rose : Bool) (device : Device) (t : code.Table KNOTS SLOTS) (old new : FlashState) → rings ≡ others →
    Finishes first plan (BySeals plan rings table rose device) table (after_seals plan rings table) t old new → Finishes first plan (BySeals plan others table rose device) table (after_seals plan others table) t old new
finishes-as first plan rings others table rose device t old new e h =
    subst (λ (rs : List RingName). Finishes first plan (BySeals plan rs table rose device) table (after_seals plan rs table) t old new) e h

-- no operation
pub finishes-none : {KNOTS SLOTS : ℕ} (f : FlashState) (first : ℕ) (plan : Plan) (rings : List RingName) (table : Table) (rose : Bool) (device : Device) (t : code.Table KNOTS SLOTS) → rings ≡ [] → Stands t f first plan table → SameDevice f device → f.is_on ≡ true →
    Finishes first plan (BySeals plan rings table rose device) table (after_seals plan rings table) t f f
finishes-none f first plan rings table rose device t none stands counts power =
    finishes-as first plan [] rings table rose device t f f (sym none)
    (record { now = record { end = Whole; device = device; state = table }; did = (refl, refl, refl); whole = refl; counts = counts; power = power; stands = stands; stand = kept-same first plan table table (page_at f) (page_at f) refl refl refl (λ ring n. refl) })

-- nothing is pending
pub flush-idle : {KNOTS SLOTS : ℕ} (f : FlashState) (first : ℕ) (plan : Plan) (table : Table) (rose : Bool) (device : Device) (t : code.Table KNOTS SLOTS) → table.pending ≡ 0 → Stands t f first plan table → SameDevice f device → f.is_on ≡ true →
    Finishes first plan (BySeals plan (table_seals plan table) table rose device) table (flushed plan table) t f f
flush-idle f first plan table rose device t none stands counts power = finishes-none f first plan (table_seals plan table) table rose device t (idle-table_seals plan table none) stands counts power

module _ (first : ℕ) (plan : Plan) (item : Record) (table : Table) (rose : Bool) (device : Device) (unlogged : plan.log_blocks ≡ 0) where
  module _ {KNOTS SLOTS : ℕ} (room : code.Table KNOTS SLOTS) (old mid : FlashState) (h : Finishes first plan (BySeals plan (make_room_seals plan table) table rose device) table (with_room plan table) room old mid) where
    -- all seals that make room were done
    puts : (now : PartProgress Table) → BySeals plan (fill_seals plan (put_joined plan item table)) (put_joined plan item table) rose h.now.device now → TablePuts plan rose item device table now
    puts now did = (
      h.now,
      h.did,
      subst (λ (e : PartEnd Table). TablePutGoesOn e h.now now (TablePerforms plan rose (seals_within plan (join_seals plan (put_joined plan item table)) (put_joined plan item table)) h.now.device (put_joined plan item table) now)) (sym h.whole)
          (subst (λ (rs : List RingName). TablePerforms plan rose (seals_within plan rs (put_joined plan item table)) h.now.device (put_joined plan item table) now) (sym (join_is first plan item table rose device unlogged)) did),
    )

    pub put-breaks : (fault : FlashFault) (new : FlashState) → Breaks first plan (BySeals plan (fill_seals plan (put_joined plan item table)) (put_joined plan item table) rose h.now.device) fault new → Breaks first plan (TablePuts plan rose item device table) fault new
    put-breaks fault new k = record { now = k.now; did = puts k.now k.did; answer = k.answer; counts = k.counts; rests = k.rests }

    pub put-finishes : (t : code.Table KNOTS SLOTS) (new : FlashState) →
        Finishes first plan (BySeals plan (fill_seals plan (put_joined plan item table)) (put_joined plan item table) rose h.now.device) (with_room plan table) (after_seals plan (fill_seals plan (put_joined plan item table)) (put_joined plan item table)) t mid new →
        Finishes first plan (TablePuts plan rose item device table) table (put_record plan item table) t old new
    put-finishes t new k =
        let after = after_seals plan (fill_seals plan (put_joined plan item table)) (put_joined plan item table) in
        let is : after ≡ put_record plan item table = ap (λ (rs : List RingName). after_seals plan rs (put_joined plan item table)) (sym (join_is first plan item table rose device unlogged)) in
        record {
          now = k.now;
          did = puts k.now k.did;
          whole = k.whole;
          counts = k.counts;
          power = k.power;
          stands = subst (λ (x : Table). Stands t new first plan x) is k.stands;
          stand = subst (λ (x : Table). KeptStand first plan table x (page_at old) (page_at new)) is
              (kept-then first plan table (with_room plan table) after (page_at old) (page_at mid) (page_at new) h.stands.facts k.stands.facts h.stand k.stand);
        }
