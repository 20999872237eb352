-- What the operations of a seal and of a repair make of the data ring, as a list of bodies and as a table.
use Rattle.std.proofs.Common.{◌≡◌, ℕ, ◌+◌, ◌-◌, ◌<◌, ◌≤◌, Bool, true, false, cond, Option, Some, None, List, [], ◌∷◌, ◌++◌, length, take, drop, refl, sym, ◌∙◌, ap, arith, length-append, length-drop}
use Rattle.std.proofs.lemmas.List.{take_all}
use Rattle.std.specs.List.{sum}
use Rattle.fl_model.specs.Record.{Plan}
use Rattle.fl_model.specs.Ring as model
use Rattle.fl_model.specs.Table.{Table, Entry, DataRing, shape_of, with_ring, seal_buffer, seal_page, written, pending_entries, lose}
use Rattle.fl_model.specs.Layout.{data_body}
use Rattle.fl_model.proofs.Pages.{page_with, pages_from, pages-length, pages-push, pages-drop, pages-front}
use Rattle.fl_model.proofs.Lists.{drop_none}
use Rattle.fl_model.proofs.Sealed.{full-long}
use Rattle.fl_ring.specs.Ring.{RingState, is_due, is_due_at, appended, trimmed, sealed, voided, begun, erased}
use Rattle.fl_parts.proofs.States.{shape_in, state_of, page-some}

-- the state of a data ring whose records are these
abbrev pub ring_state : Plan → model.Ring → List Entry → RingState
ring_state plan ring entries = record {
  kept = pages_from plan (model.oldest ring) entries ring.counts;
  next = ring.next;
  torn = ring.torn;
  dirty = ring.dirty;
}

module _ (first : ℕ) (plan : Plan) (ring : model.Ring) (entries : List Entry) (count : ℕ) (x : Option (List ℕ)) (shape : model.IsShape (shape_of plan DataRing)) (known : length ring.counts ≤ ring.next)
    (page : x ≡ page_with plan ring.next count (drop (sum ring.counts) entries)) where
  abbrev all : List ℕ
  all = ring.counts ++ count ∷ []

  abbrev kept : List (Option (List ℕ))
  kept = pages_from plan (model.oldest ring) entries ring.counts ++ x ∷ []

  more : length (ring.counts ++ count ∷ []) ≡ length ring.counts + 1
  more = length-append ring.counts (count ∷ [])

  as_long : length (pages_from plan (model.oldest ring) entries ring.counts ++ x ∷ []) ≡ length (ring.counts ++ count ∷ [])
  as_long = omega (arith, length-append (pages_from plan (model.oldest ring) entries ring.counts) (x ∷ []), pages-length plan (model.oldest ring) entries ring.counts, more)

  -- with the new page
  pushed : pages_from plan (model.oldest ring) entries ring.counts ++ x ∷ [] ≡ pages_from plan (model.oldest ring) entries (ring.counts ++ count ∷ [])
  pushed =
      let at : model.oldest ring + length ring.counts ≡ ring.next = omega (arith, known) in
      ap (λ (y : Option (List ℕ)). pages_from plan (model.oldest ring) entries ring.counts ++ y ∷ []) (page ∙ ap (λ n. page_with plan n count (drop (sum ring.counts) entries)) (sym at))
      ∙ sym (pages-push plan (model.oldest ring) entries ring.counts count)

  same_test : is_due (shape_in first plan) (appended (ring_state plan ring entries) x) ≡ model.is_full (shape_of plan DataRing) (model.extended count ring)
  same_test = ap (λ n. is_due_at (shape_in first plan) (ring.next + 1) n) as_long

  pub state-appended : trimmed (shape_in first plan) (appended (ring_state plan ring entries) x)
      ≡ ring_state plan (model.sealed (shape_of plan DataRing) count ring) (drop (sum (model.given_up (shape_of plan DataRing) count ring)) entries)
  state-appended =
      ap (λ b. cond b (record { kept = drop plan.geometry.block (pages_from plan (model.oldest ring) entries ring.counts ++ x ∷ []); next = ring.next + 1; torn = false; dirty = true })
      (record { kept = pages_from plan (model.oldest ring) entries ring.counts ++ x ∷ []; next = ring.next + 1; torn = false; dirty = ring.dirty })) same_test
      ∙ by_test (model.is_full (shape_of plan DataRing) (model.extended count ring)) refl
    where
      by_test : (b : Bool) → model.is_full (shape_of plan DataRing) (model.extended count ring) ≡ b →
          cond b (record { kept = drop plan.geometry.block (pages_from plan (model.oldest ring) entries ring.counts ++ x ∷ []); next = ring.next + 1; torn = false; dirty = true })
          (record { kept = pages_from plan (model.oldest ring) entries ring.counts ++ x ∷ []; next = ring.next + 1; torn = false; dirty = ring.dirty })
          ≡ ring_state plan (cond b (record (model.extended count ring) { counts = drop plan.geometry.block (ring.counts ++ count ∷ []); dirty = true }) (model.extended count ring))
          (drop (sum (cond b (take plan.geometry.block (ring.counts ++ count ∷ [])) [])) entries)
      by_test true e =
          let long : plan.geometry.block ≤ length (ring.counts ++ count ∷ []) = let two = full-long (shape_of plan DataRing) (model.extended count ring) shape e in omega (arith, two) in
          let old : model.oldest ring + plan.geometry.block ≡ ring.next + 1 - length (drop plan.geometry.block (ring.counts ++ count ∷ [])) =
          omega (arith, known, more, long, length-drop plan.geometry.block (ring.counts ++ count ∷ [])) in
          ap (λ (k : List (Option (List ℕ))). record { kept = k; next = ring.next + 1; torn = false; dirty = true })
          (ap (drop plan.geometry.block) pushed
          ∙ (pages-drop plan (model.oldest ring) entries (ring.counts ++ count ∷ []) plan.geometry.block long
          ∙ ap (λ n. pages_from plan n (drop (sum (take plan.geometry.block (ring.counts ++ count ∷ []))) entries) (drop plan.geometry.block (ring.counts ++ count ∷ []))) old))
      by_test false e =
          let old : model.oldest ring ≡ ring.next + 1 - length (ring.counts ++ count ∷ []) = omega (arith, known, more) in
          ap (λ (k : List (Option (List ℕ))). record { kept = k; next = ring.next + 1; torn = false; dirty = ring.dirty })
          (pushed ∙ (ap (λ n. pages_from plan n entries (ring.counts ++ count ∷ [])) old
          ∙ ap (λ (es : List Entry). pages_from plan (ring.next + 1 - length (ring.counts ++ count ∷ [])) es (ring.counts ++ count ∷ [])) (sym (drop_none entries))))

-- pending records stand behind the written ones
lost-state : (plan : Plan) (table : Table) → sum table.rows.counts + table.pending ≡ length table.entries → state_of plan (lose table) ≡ ring_state plan table.rows table.entries
lost-state plan table counted =
    ap (λ (k : List (Option (List ℕ))). record { kept = k; next = table.rows.next; torn = table.rows.torn; dirty = table.rows.dirty })
    (pages-front plan (model.oldest table.rows) table.entries table.rows.counts (length table.entries - table.pending) (omega (arith, counted)))

-- a seal of the pending rows
pub state-sealed : (first : ℕ) (plan : Plan) (table : Table) → model.IsShape (shape_of plan DataRing) → length table.rows.counts ≤ table.rows.next → sum table.rows.counts + table.pending ≡ length table.entries → 0 < table.pending →
    sealed (shape_in first plan) (state_of plan (lose table)) (data_body plan table.rows.next (pending_entries table)) ≡ state_of plan (lose (seal_buffer plan DataRing table))
state-sealed first plan table shape known counted some =
    ap (λ (s : RingState). sealed (shape_in first plan) s (data_body plan table.rows.next (pending_entries table))) (lost-state plan table counted)
    ∙ (state-appended first plan table.rows table.entries table.pending (Some (data_body plan table.rows.next (pending_entries table))) shape known (sym here)
    ∙ ap (λ (es : List Entry). ring_state plan (model.sealed (shape_of plan DataRing) table.pending table.rows) es) (sym whole))
  where
    at : length table.entries - table.pending ≡ sum table.rows.counts
    at = omega (arith, counted)

    rest : take table.pending (drop (sum table.rows.counts) table.entries) ≡ pending_entries table
    rest = take_all table.pending (drop (sum table.rows.counts) table.entries) (omega (arith, counted, length-drop (sum table.rows.counts) table.entries)) ∙ ap (λ n. drop n table.entries) (sym at)

    here : page_with plan table.rows.next table.pending (drop (sum table.rows.counts) table.entries) ≡ Some (data_body plan table.rows.next (pending_entries table))
    here = page-some plan table.rows.next table.pending (drop (sum table.rows.counts) table.entries) some ∙ ap (λ (es : List Entry). Some (data_body plan table.rows.next es)) rest

    whole : written (seal_buffer plan DataRing table) ≡ drop (sum (model.given_up (shape_of plan DataRing) table.pending table.rows)) table.entries
    whole = let es = drop (sum (model.given_up (shape_of plan DataRing) table.pending table.rows)) table.entries in take_all (length es - 0) es (omega arith)

-- a torn page is given up, in a table where nothing is pending
pub state-voided : (first : ℕ) (plan : Plan) (table : Table) → model.IsShape (shape_of plan DataRing) → length table.rows.counts ≤ table.rows.next →
    voided (shape_in first plan) (state_of plan table) ≡ state_of plan (seal_page plan DataRing 0 table)
state-voided first plan table shape known =
    state-appended first plan table.rows table.entries 0 None shape known refl

pub state-begun : (plan : Plan) (table : Table) → begun (state_of plan (lose table)) ≡ state_of plan (lose (with_ring DataRing model.begun table))
state-begun plan table = refl

pub state-erased : (plan : Plan) (table : Table) → erased (state_of plan (lose table)) ≡ state_of plan (lose (with_ring DataRing model.erased table))
state-erased plan table = refl
