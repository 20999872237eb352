-- The model's facts hold of a table of which the rules give theirs, where it is as runs leave it.
use Rattle.std.proofs.Common.{◌≡◌, ◌⊎◌, inl, inr, ℕ, ◌+◌, ◌-◌, ◌<◌, ◌≤◌, Bool, true, false, cond, ◌||◌, nat_le, Option, Some, None, IfSome, List, [], length, filter, sym, ◌∙◌, ap, subst, arith}
use Rattle.std.specs.List.{slice_get, AllByRecursion}
use Rattle.std.proofs.lemmas.Bool.{cases_lt, le-leb, true≢false, or_parts}
use Rattle.fl_model.specs.Agrees.{BlobsOf, reach_of}
use Rattle.fl_model.specs.Facts.{IsTable, counts_in}
use Rattle.fl_model.specs.Log.{IsLog, last_key}
use Rattle.fl_model.specs.Record.{Plan}
use Rattle.fl_model.specs.Ring.{Ring, IsRing, oldest}
use Rattle.fl_model.specs.Table.{Table, Entry, RingName, DataRing, IndexRing, VarRing, LogRing, shape_of, ring_of, written, has_rows, is_after, is_ring_spent, is_rows_spent, is_spent, owed, spent_from, lose}
use Rattle.fl_model.proofs.Lists.{slice_get-some, slice_get-front, each-at}
use Rattle.fl_model.proofs.StandingPages.{stands-kept}
use Rattle.fl_check.specs.SoundImages.{BlobsLead, PagesFit, NumbersAreLeft, IsAsRunsLeave, StandsSettled}

-- ---- one number

fits-torn : (ring : Ring) → nat_le spent_from ring.next ≡ false → ring.next + cond ring.torn 1 0 ≤ spent_from
fits-torn ring unspent = elim (cases_lt ring.next spent_from) [
  | inl lt ↦ by_torn ring.torn lt
  | inr ge ↦ absurd (true≢false (sym (le-leb spent_from ring.next ge) ∙ unspent))
]
  where
    by_torn : (b : Bool) → ring.next < spent_from → ring.next + cond b 1 0 ≤ spent_from
    by_torn true lt = omega (arith, lt)
    by_torn false lt = omega (arith, lt)

-- ---- a table

module _ (plan : Plan) (table : Table) (lost : table ≡ lose table) where
  pending : table.pending ≡ 0
  pending = ap (λ (t : Table). t.pending) lost

  no_content : length table.buffered ≡ 0
  no_content = ap (λ (t : Table). length t.buffered) lost

  no_entries : length table.waiting ≡ 0
  no_entries = ap (λ (t : Table). length t.waiting) lost

  unspent-left : is_spent table ≡ false → NumbersAreLeft plan table
  unspent-left none = record { each = each; listed = λ low some. let few = rows_few in omega (arith, few) }
    where
      logs : ((is_rows_spent table || is_ring_spent table.var) ≡ false) × (is_ring_spent table.log ≡ false)
      logs = or_parts (is_rows_spent table || is_ring_spent table.var) (is_ring_spent table.log) none

      vars : (is_rows_spent table ≡ false) × (is_ring_spent table.var ≡ false)
      vars = or_parts (is_rows_spent table) (is_ring_spent table.var) logs.0

      indexes : (nat_le spent_from table.rows.next ≡ false) × (is_ring_spent table.index ≡ false)
      indexes = or_parts (nat_le spent_from table.rows.next) (is_ring_spent table.index) vars.0

      rows_few : table.rows.next + cond table.rows.torn 1 0 ≤ spent_from
      rows_few = fits-torn table.rows indexes.0

      of_ring : (o : Option Ring) → is_ring_spent o ≡ false → IfSome o (λ ring. ring.next + cond ring.torn 1 0 ≤ 4294967292)
      of_ring None left = tt
      of_ring (Some ring) left = let few = fits-torn ring left in omega (arith, few)

      each : (name : RingName) → IfSome (ring_of name table) (λ ring. ring.next + cond ring.torn 1 0 ≤ 4294967292)
      each DataRing = let few = rows_few in omega (arith, few)
      each IndexRing = of_ring table.index indexes.1
      each VarRing = of_ring table.var vars.1
      each LogRing = of_ring table.log logs.1

  module _ (fit : PagesFit plan table) where
    -- ---- a log that isn't there

    unlogged : table.log ≡ None → IsLog table
    unlogged none = record {
      ascending = subst (AllByRecursion (λ (entry : Entry). entry.kept.key ≤ last_key table.logged)) (sym nothing) tt;
      whole = inl (none_owed ∙ sym nothing);
      safe = λ some. absurd (some none_owed);
    }
      where
        nothing : table.logged ≡ []
        nothing = fit.logged_some (ap has_rows none)

        none_owed : owed table ≡ []
        none_owed = ap (λ (l : List Entry). filter (λ (entry : Entry). is_after (written table) entry) l) nothing

    -- ---- the blobs

    -- where a blob begins
    begins : (ring : Ring) → AllByRecursion (λ count. (count ≡ 0) ⊎ (count ≡ 1)) ring.counts → BlobsLead plan table ring → (i : ℕ) (entry : Entry) (blob : List ℕ) → slice_get table.entries i ≡ Some entry →
        entry.kept.blob ≡ Some blob → 0 < length blob → (oldest ring ≤ entry.page → slice_get ring.counts (entry.page - oldest ring) ≡ Some 0 → ⊥) →
        (entry.page < oldest ring) ⊎ ((oldest ring ≤ entry.page) × (slice_get ring.counts (entry.page - oldest ring) ≡ Some 1) × (entry.page + reach_of plan entry blob < ring.next))
    begins ring ones leads i entry blob here is some void = elim (cases_lt entry.page (oldest ring)) [
      | inl gone ↦ inl gone
      | inr ge ↦ inr (ge, at_one ge, (leads i entry blob here is some).reaches (stands-kept ring entry.page ge (at_one ge)))
    ]
      where
        by_count : oldest ring ≤ entry.page → (count : ℕ) → slice_get ring.counts (entry.page - oldest ring) ≡ Some count → (count ≡ 0) ⊎ (count ≡ 1) → slice_get ring.counts (entry.page - oldest ring) ≡ Some 1
        by_count ge count at (inl none) = absurd (void ge (at ∙ ap (λ (n : ℕ). Some n) none))
        by_count ge count at (inr one) = at ∙ ap (λ (n : ℕ). Some n) one

        at_one : oldest ring ≤ entry.page → slice_get ring.counts (entry.page - oldest ring) ≡ Some 1
        at_one ge =
            let lead = leads i entry blob here is some in
            let written = lead.written in
            let count = slice_get-some ring.counts (entry.page - oldest ring) (omega (arith, ge, written)) in
            by_count ge count.0 count.1 (each-at (λ (count : ℕ). (count ≡ 0) ⊎ (count ≡ 1)) ring.counts (entry.page - oldest ring) count.0 ones count.1)

    blobs-begin : IsAsRunsLeave plan table → (i : ℕ) (entry : Entry) (blob : List ℕ) → slice_get (written table) i ≡ Some entry → entry.kept.blob ≡ Some blob → 0 < length blob →
        IfSome table.var (λ ring. (entry.page < oldest ring)
        ⊎ ((oldest ring ≤ entry.page) × (slice_get ring.counts (entry.page - oldest ring) ≡ Some 1) × (entry.page + reach_of plan entry blob < ring.next)))
    blobs-begin left i entry blob at is some = by_ring table.var fit.var_counts fit.blobs (left.begin i entry blob here is some)
      where
        here : slice_get table.entries i ≡ Some entry
        here = slice_get-front (length table.entries - table.pending) table.entries i entry at

        by_ring : (o : Option Ring) → AllByRecursion (λ count. (count ≡ 0) ⊎ (count ≡ 1)) (counts_in o) → IfSome o (BlobsLead plan table) → IfSome o (λ ring. oldest ring ≤ entry.page → slice_get ring.counts (entry.page - oldest ring) ≡ Some 0 → ⊥) →
            IfSome o (λ ring. (entry.page < oldest ring) ⊎ ((oldest ring ≤ entry.page) × (slice_get ring.counts (entry.page - oldest ring) ≡ Some 1) × (entry.page + reach_of plan entry blob < ring.next)))
        by_ring None ones leads void = tt
        by_ring (Some ring) ones leads void = begins ring ones leads i entry blob here is some void

    blobs-stand : IfSome table.var (BlobsOf plan table)
    blobs-stand = by_ring table.var fit.blobs
      where
        by_ring : (o : Option Ring) → IfSome o (BlobsLead plan table) → IfSome o (BlobsOf plan table)
        by_ring None leads = tt
        by_ring (Some ring) leads = λ i entry blob here is some stands. (leads i entry blob here is some).holds stands

    -- ---- all facts

    module _ (rows : IsRing (shape_of plan DataRing) table.rows) (index : IfSome table.index (IsRing (shape_of plan IndexRing))) (var : IfSome table.var (IsRing (shape_of plan VarRing))) (log : IfSome table.log (IsRing (shape_of plan LogRing))) where
      facts : IsAsRunsLeave plan table → IsLog table → IsTable plan table
      facts left is_log = record {
        rows = rows;
        index = index;
        var = var;
        log = log;
        has_rings = fit.has_rings;
        index_counts = fit.index_counts;
        var_counts = fit.var_counts;
        log_counts = fit.log_counts;
        index_each = fit.index_each;
        var_each = fit.var_each;
        log_each = fit.log_each;
        index_fit = fit.index_fit;
        var_fit = fit.var_fit;
        log_fit = fit.log_fit;
        logged_some = fit.logged_some;
        logged = is_log;
        fit = fit.fit;
        counted = let none = pending in omega (arith, fit.counted, none);
        few_pending = let none = pending in omega (arith, none);
        few_rows = fit.few_rows;
        ascending = fit.ascending;
        fill = let none = no_content in omega (arith, none);
        waiting = λ has. let none = no_entries in omega (arith, none);
        firsts = fit.firsts;
        listed = let none = no_entries in omega (arith, fit.listed, none);
        blobs = blobs-begin left;
        numbers = left.numbers.each;
        numbers_pending = λ some. absurd (some pending);
        numbers_listed = left.numbers.listed;
        agrees = record {
          listed = fit.tell;
          waiting = λ j n lt at. absurd (let none = no_entries in let never : ⊥ = omega (arith, lt, none) in never);
          blobs = blobs-stand;
        };
      }

      pub stands-settled : StandsSettled plan table
      stands-settled = record { settled = λ left is_log. record { facts = facts left is_log; lost = lost }; unspent = unspent-left; unlogged = unlogged }
