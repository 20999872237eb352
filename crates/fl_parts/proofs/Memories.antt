-- What a seal makes of what a table holds in memory.
use Rattle.std.proofs.Common.{◌≡◌, ◌≢◌, ℕ, zero, suc, ◌+◌, ◌-◌, ◌*◌, ◌%◌, ◌<◌, Bool, true, false, cond, Some, None, List, [], ◌∷◌, ◌++◌, length, take, drop, get_or, set, refl, sym, ◌∙◌, ap, arith, inl, inr, length-append, length-drop, get_or-set_other, get_or-set_same}
use Rattle.std.proofs.lemmas.List.{take-append-le, drop_all}
use Rattle.std.proofs.lemmas.List.Sums.{sum_by-take-drop}
use Rattle.std.proofs.Math.Nat.{mod-lt, add-mul}
use Rattle.std.specs.List.{slice_get, last_or, sum}
use Rattle.fl_model.specs.Record.{Plan}
use Rattle.fl_model.specs.Ring as model
use Rattle.fl_model.specs.Table.{Table, Entry, DataRing, shape_of, pending_entries, last_entry, after_seal}
use Rattle.fl_model.proofs.Lists.{slice_get-drop, slice_get-push, slice_get-short}
use Rattle.fl_model.proofs.Sealed.{full-long}
use Rattle.fl_ring.proofs.Modulo.{apart}

-- nothing is pending behind a seal
pub none-pending : (plan : Plan) (table : Table) → pending_entries (after_seal plan DataRing table) ≡ []
none-pending plan table = drop_all (length (after_seal plan DataRing table).entries - 0) (after_seal plan DataRing table).entries (omega arith)

-- the last of a list stays where not all is dropped
last_drop : (k : ℕ) (es : List Entry) → k < length es → last_or None (drop k es) ≡ last_or None es
last_drop zero [] h = refl
last_drop zero (e ∷ es) h = refl
last_drop (suc k) [] h = absurd (omega arith)
last_drop (suc k) (e ∷ []) h = absurd (omega arith)
last_drop (suc k) (e ∷ f ∷ es) h = last_drop k (f ∷ es) (omega arith)

pub last-sealed : (plan : Plan) (table : Table) → model.IsShape (shape_of plan DataRing) → sum table.rows.counts + table.pending ≡ length table.entries → 0 < table.pending →
    last_entry (after_seal plan DataRing table) ≡ last_entry table
last-sealed plan table shape counted some = by_test (model.is_full (shape_of plan DataRing) (model.extended table.pending table.rows)) refl
  where
    by_test : (b : Bool) → model.is_full (shape_of plan DataRing) (model.extended table.pending table.rows) ≡ b →
        last_or None (drop (sum (cond b (take plan.geometry.block (table.rows.counts ++ table.pending ∷ [])) [])) table.entries) ≡ last_or None table.entries
    by_test true e =
        let long = full-long (shape_of plan DataRing) (model.extended table.pending table.rows) shape e in
        let len = length-append table.rows.counts (table.pending ∷ []) in
        let front : take plan.geometry.block (table.rows.counts ++ table.pending ∷ []) ≡ take plan.geometry.block table.rows.counts =
        take-append-le plan.geometry.block table.rows.counts (table.pending ∷ []) (omega (arith, long, len, shape.pages)) in
        let split = sum_by-take-drop (λ (n : ℕ). n) table.rows.counts plan.geometry.block in
        last_drop (sum (take plan.geometry.block (table.rows.counts ++ table.pending ∷ []))) table.entries (omega (arith, ap sum front, split, counted, some))
    by_test false e = last_drop 0 table.entries (omega (arith, counted, some))

-- a ring keeps fewer pages than it has room for
pub few-kept : (plan : Plan) (table : Table) → model.IsShape (shape_of plan DataRing) → model.IsRing (shape_of plan DataRing) table.rows → length table.rows.counts < plan.data_blocks * plan.geometry.block
few-kept plan table shape facts =
    let small : table.rows.next % plan.geometry.block < plan.geometry.block = mod-lt table.rows.next (let k : 0 < plan.geometry.block = omega (arith, shape.pages) in k) in
    let last : (plan.data_blocks - 1 + 1) * plan.geometry.block ≡ (plan.data_blocks - 1) * plan.geometry.block + plan.geometry.block = add-mul (plan.data_blocks - 1) 1 plan.geometry.block ∙ omega arith in
    let same : plan.data_blocks - 1 + 1 ≡ plan.data_blocks = omega (arith, shape.blocks) in
    omega (arith, facts.kept, small, last, ap (λ n. n * plan.geometry.block) same)

-- the places of the pages of a ring differ
module _ (plan : Plan) (table : Table) (counts : List ℕ) (shape : model.IsShape (shape_of plan DataRing)) (facts : model.IsRing (shape_of plan DataRing) table.rows)
    (room : length counts ≡ plan.data_blocks * plan.geometry.block)
    (were : (i count : ℕ) → slice_get table.rows.counts i ≡ Some count → get_or counts ((model.oldest table.rows + i) % (plan.data_blocks * plan.geometry.block)) 0 ≡ count) where
  few : length table.rows.counts < plan.data_blocks * plan.geometry.block
  few = few-kept plan table shape facts

  -- with the new page
  at_all : (j c : ℕ) → slice_get (table.rows.counts ++ table.pending ∷ []) j ≡ Some c →
      get_or (set counts (table.rows.next % (plan.data_blocks * plan.geometry.block)) table.pending) ((model.oldest table.rows + j) % (plan.data_blocks * plan.geometry.block)) 0 ≡ c
  at_all j c e = elim (slice_get-push table.rows.counts table.pending j c e) [
    | inl old ↦
        let lt = slice_get-short table.rows.counts j c old in
        let some : 0 < plan.data_blocks * plan.geometry.block = omega (arith, few) in
        let ne : (model.oldest table.rows + j) % (plan.data_blocks * plan.geometry.block) ≢ table.rows.next % (plan.data_blocks * plan.geometry.block) =
        apart (plan.data_blocks * plan.geometry.block) (model.oldest table.rows + j) table.rows.next (omega (arith, lt, facts.not_negative)) (omega (arith, lt, few, facts.not_negative)) in
        get_or-set_other counts (table.rows.next % (plan.data_blocks * plan.geometry.block)) ((model.oldest table.rows + j) % (plan.data_blocks * plan.geometry.block)) table.pending 0 ne ∙ were j c old
    | inr here ↦
        let some : 0 < plan.data_blocks * plan.geometry.block = omega (arith, few) in
        let at : model.oldest table.rows + j ≡ table.rows.next = omega (arith, here.0, facts.not_negative) in
        let lt : table.rows.next % (plan.data_blocks * plan.geometry.block) < length counts = omega (arith, mod-lt table.rows.next some, room) in
        ap (λ n. get_or (set counts (table.rows.next % (plan.data_blocks * plan.geometry.block)) table.pending) (n % (plan.data_blocks * plan.geometry.block)) 0) at
        ∙ (get_or-set_same counts (table.rows.next % (plan.data_blocks * plan.geometry.block)) table.pending 0 lt ∙ here.1)
  ]

  pub counts-sealed : (i c : ℕ) → slice_get (after_seal plan DataRing table).rows.counts i ≡ Some c →
      get_or (set counts (table.rows.next % (plan.data_blocks * plan.geometry.block)) table.pending) ((model.oldest (after_seal plan DataRing table).rows + i) % (plan.data_blocks * plan.geometry.block)) 0 ≡ c
  counts-sealed i c = by_test (model.is_full (shape_of plan DataRing) (model.extended table.pending table.rows)) refl
    where
      more : length (table.rows.counts ++ table.pending ∷ []) ≡ length table.rows.counts + 1
      more = length-append table.rows.counts (table.pending ∷ [])

      by_test : (b : Bool) → model.is_full (shape_of plan DataRing) (model.extended table.pending table.rows) ≡ b →
          let now = cond b (record (model.extended table.pending table.rows) { counts = drop plan.geometry.block (table.rows.counts ++ table.pending ∷ []); dirty = true }) (model.extended table.pending table.rows) in
          slice_get now.counts i ≡ Some c →
          get_or (set counts (table.rows.next % (plan.data_blocks * plan.geometry.block)) table.pending) ((model.oldest now + i) % (plan.data_blocks * plan.geometry.block)) 0 ≡ c
      by_test true e k =
          let long = full-long (shape_of plan DataRing) (model.extended table.pending table.rows) shape e in
          let old : table.rows.next + 1 - length (drop plan.geometry.block (table.rows.counts ++ table.pending ∷ [])) + i ≡ model.oldest table.rows + (plan.geometry.block + i) =
          omega (arith, more, long, length-drop plan.geometry.block (table.rows.counts ++ table.pending ∷ []), facts.not_negative) in
          ap (λ n. get_or (set counts (table.rows.next % (plan.data_blocks * plan.geometry.block)) table.pending) (n % (plan.data_blocks * plan.geometry.block)) 0) old
          ∙ at_all (plan.geometry.block + i) c (sym (slice_get-drop plan.geometry.block (table.rows.counts ++ table.pending ∷ []) i) ∙ k)
      by_test false e k =
          let old : table.rows.next + 1 - length (table.rows.counts ++ table.pending ∷ []) + i ≡ model.oldest table.rows + i = omega (arith, more, facts.not_negative) in
          ap (λ n. get_or (set counts (table.rows.next % (plan.data_blocks * plan.geometry.block)) table.pending) (n % (plan.data_blocks * plan.geometry.block)) 0) old
          ∙ at_all i c k
