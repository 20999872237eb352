-- The rows of the kept pages as one list: their keys ascend where those of the pages do.
use Rattle.std.proofs.Common.{◌≡◌, ℕ, zero, suc, ◌+◌, ◌<◌, ◌≤◌, ◌++◌, true, false, Option, Some, None, List, [], ◌∷◌, length, map, get_or, slice_get, refl, sym, ◌∙◌, ap, subst, arith}
use Rattle.std.specs.List.{flat_map}
use Rattle.std.proofs.lemmas.Bool.{cond-true, cond-false, lt-ltb, ltb-true}
use Rattle.std.proofs.lemmas.List.{map-append}
use Rattle.std.proofs.lemmas.Option.{none-some, same_Some}
use Rattle.fl_mark.specs.Mark.{state_of_page}
use Rattle.fl_model.specs.Query.{is_above}
use Rattle.fl_model.specs.Record.{RowLayout}
use Rattle.fl_model.specs.Row.{Row, stored_row}
use Rattle.fl_model.specs.Table.{Entry}
use Rattle.fl_page.specs.Page.{rows_in}
use Rattle.fl_page.specs.Steps.{Ascends}
use Rattle.fl_ring.specs.Newest.{commits}
use Rattle.fl_ring.specs.Ring.{Shape}
use Rattle.fl_rules.specs.Marks.{kept_page}
use Rattle.fl_rules.specs.Rising.{last_in, last_key, KeysAscend}
use Rattle.fl_rules.specs.declared.marks.Marks.{Marks}

join : (before : Option ℕ) (rows others : List Row) → Ascends before rows → Ascends (last_in before rows) others → Ascends before (rows ++ others)
join before [] others front back = back
join before (row ∷ rows) others front back = (front.0, join (Some row.key) rows others front.1 back)

pub map-flat : {A B C : Type 0} (f : B → C) (g : A → List B) (xs : List A) → map f (flat_map g xs) ≡ flat_map (λ x. map f (g x)) xs
map-flat f g [] = refl
map-flat f g (x ∷ xs) = map-append f (g x) (flat_map g xs) ∙ ap (λ (l : List _). map f (g x) ++ l) (map-flat f g xs)

module _ (layout : RowLayout) (rows_of : Option (List ℕ) → List Row) where
  -- a kept page has these rows, and a void one none
  abbrev pub HasRowsOf : List ℕ → Option (List ℕ) → Type 0
  HasRowsOf page None = (commits (state_of_page page) ≡ false) × (rows_of None ≡ [])
  HasRowsOf page (Some body) = (commits (state_of_page page) ≡ true) × (rows_in layout page ≡ rows_of (Some body))

  module _ (page : ℕ → List ℕ) (r : Shape) (m : Marks) (rising : KeysAscend layout page r m) where
    pub rows-ascend : (kept : List (Option (List ℕ))) (k : ℕ) → k + length kept ≤ m.kept → ((i : ℕ) → i < length kept → HasRowsOf (page (kept_page r m (k + i))) (get_or kept i None)) →
        Ascends (last_key layout page r m k) (flat_map rows_of kept)
    rows-ascend [] k few has = tt
    rows-ascend (x ∷ kept) k few has =
        let rest : Ascends (last_key layout page r m (suc k)) (flat_map rows_of kept) =
        rows-ascend kept (suc k) (omega (arith, few)) (λ i lt. subst (λ (j : ℕ). HasRowsOf (page (kept_page r m j)) (get_or kept i None)) (let e : k + suc i ≡ suc k + i = omega arith in e) (has (suc i) (omega (arith, lt)))) in
        by_page x (subst (λ (j : ℕ). HasRowsOf (page (kept_page r m j)) x) (let e : k + 0 ≡ k = omega arith in e) (has 0 (omega arith))) rest
      where
        here : List ℕ
        here = page (kept_page r m k)

        by_page : (x : Option (List ℕ)) → HasRowsOf (page (kept_page r m k)) x → Ascends (last_key layout page r m (suc k)) (flat_map rows_of kept) → Ascends (last_key layout page r m k) (rows_of x ++ flat_map rows_of kept)
        by_page None void rest =
            subst (λ (l : List Row). Ascends (last_key layout page r m k) (l ++ flat_map rows_of kept)) (sym void.1)
            (subst (λ (b : Option ℕ). Ascends b (flat_map rows_of kept)) (cond-false (commits (state_of_page (page (kept_page r m k)))) (last_in (last_key layout page r m k) (rows_in layout (page (kept_page r m k)))) (last_key layout page r m k) void.0) rest)
        by_page (Some body) whole rest =
            subst (λ (l : List Row). Ascends (last_key layout page r m k) (l ++ flat_map rows_of kept)) whole.1
            (join (last_key layout page r m k) (rows_in layout (page (kept_page r m k))) (flat_map rows_of kept) (rising k (omega (arith, few)) whole.0)
            (subst (λ (b : Option ℕ). Ascends b (flat_map rows_of kept)) (cond-true (commits (state_of_page (page (kept_page r m k)))) (last_in (last_key layout page r m k) (rows_in layout (page (kept_page r m k)))) (last_key layout page r m k) whole.0) rest))

-- ---- entries whose rows ascend

above-first : (above : Option ℕ) (entries : List Entry) (j : ℕ) (b : Entry) → Ascends above (map stored_row entries) → slice_get entries j ≡ Some b → is_above above b.kept.key ≡ true
above-first above [] j b rising at = absurd (none-some b at)
above-first above (entry ∷ entries) zero b rising at = subst (λ (e : Entry). is_above above e.kept.key ≡ true) (same_Some entry b at) rising.0
above-first None (entry ∷ entries) (suc j) b rising at = refl
above-first (Some low) (entry ∷ entries) (suc j) b rising at =
    let over = ltb-true entry.kept.key b.kept.key (above-first (Some entry.kept.key) entries j b rising.1 at) in
    lt-ltb low b.kept.key (omega (arith, over, ltb-true low entry.kept.key rising.0))

pub keys-rise : (above : Option ℕ) (entries : List Entry) → Ascends above (map stored_row entries) →
    (i j : ℕ) (a b : Entry) → i < j → slice_get entries i ≡ Some a → slice_get entries j ≡ Some b → a.kept.key < b.kept.key
keys-rise above [] rising i j a b less at then = absurd (none-some a at)
keys-rise above (entry ∷ entries) rising i zero a b less at then = absurd (omega (arith, less))
keys-rise above (entry ∷ entries) rising zero (suc j) a b less at then =
    subst (λ (e : Entry). e.kept.key < b.kept.key) (same_Some entry a at) (ltb-true entry.kept.key b.kept.key (above-first (Some entry.kept.key) entries j b rising.1 then))
keys-rise above (entry ∷ entries) rising (suc i) (suc j) a b less at then = keys-rise (Some entry.kept.key) entries rising.1 i j a b (omega (arith, less)) at then
