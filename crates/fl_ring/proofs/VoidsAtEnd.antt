-- The void pages at the end of a ring, as the model counts them.
use Rattle.std.proofs.Common.{◌≡◌, ℕ, suc, ◌+◌, ◌<◌, Bool, true, false, ◌==◌, cond, List, [], ◌∷◌, map, length, fold, get_or, is_some, Option, Some, None, IfSome, inl, inr, refl, sym, ◌∙◌, ap, arith, if◌then◌else◌}
use Rattle.std.specs.List.{list_any}
use Rattle.std.proofs.lemmas.Bool.{cases_Bool, cond-true, cond-false, ne_eqb}
use Rattle.fl_model.specs.MountLimit as limit
use Rattle.fl_ring.specs.Counts.{page_count, ring_counts, HoldsSome}
use Rattle.fl_ring.specs.Numbers.{voids_at_end}
use Rattle.fl_ring.specs.Ring.{RingState}

abbrev step : ℕ → ℕ → ℕ
step n count = if count == 0 then n + 1 else 0

abbrev Each : (List ℕ → ℕ) → List (Option (List ℕ)) → Type 0
Each count_of kept = (i : ℕ) → i < length kept → IfSome (get_or kept i None) (λ body. 0 < count_of body)

-- after so many void pages
voids_fold : (count_of : List ℕ → ℕ) (kept : List (Option (List ℕ))) (n : ℕ) → Each count_of kept → fold step n (map (page_count count_of) kept) ≡ cond (list_any is_some kept) (voids_at_end kept) (n + length kept)
voids_fold count_of [] n each = omega arith
voids_fold count_of (None ∷ kept) n each = voids_fold count_of kept (n + 1) (λ i lt. each (suc i) (omega (arith, lt))) ∙ by_any (list_any is_some kept)
  where
    by_any : (b : Bool) → cond b (voids_at_end kept) (n + 1 + length kept) ≡ cond b (cond b (voids_at_end kept) (suc (length kept))) (n + suc (length kept))
    by_any true = refl
    by_any false = omega arith
voids_fold count_of (Some body ∷ kept) n each =
    let some : 0 < count_of body = each 0 (omega arith) in
    let begins : step n (count_of body) ≡ 0 = cond-false (count_of body == 0) (n + 1) 0 (ne_eqb (count_of body) 0 (λ e. absurd (let never : ⊥ = omega (arith, e, some) in never))) in
    ap (λ (k : ℕ). fold step k (map (page_count count_of) kept)) begins ∙ voids_fold count_of kept 0 (λ i lt. each (suc i) (omega (arith, lt))) ∙ by_any (list_any is_some kept)
  where
    by_any : (b : Bool) → cond b (voids_at_end kept) (0 + length kept) ≡ cond b (voids_at_end kept) (length kept)
    by_any true = refl
    by_any false = omega arith

-- all of them, where none is committed
all_void : (kept : List (Option (List ℕ))) → list_any is_some kept ≡ false → voids_at_end kept ≡ length kept
all_void [] none = refl
all_void (Some body ∷ kept) none = absurd (let e = none in cc e)
all_void (None ∷ kept) none = cond-false (list_any is_some kept) (voids_at_end kept) (suc (length kept)) none

pub voids_are : (count_of : List ℕ → ℕ) (s : RingState) → HoldsSome count_of s → limit.voids_at_end (ring_counts count_of s).counts ≡ voids_at_end s.kept
voids_are count_of s some = voids_fold count_of s.kept 0 some ∙ elim (cases_Bool (list_any is_some s.kept)) [
  | inl is ↦ cond-true (list_any is_some s.kept) (voids_at_end s.kept) (0 + length s.kept) is
  | inr none ↦ cond-false (list_any is_some s.kept) (voids_at_end s.kept) (0 + length s.kept) none ∙ (let e : 0 + length s.kept ≡ length s.kept = omega arith in e) ∙ sym (all_void s.kept none)
]
