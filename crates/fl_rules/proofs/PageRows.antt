-- The rows of a page, one after another.
use Rattle.std.proofs.Common.{◌≡◌, ◌↔◌, ℕ, zero, suc, ◌+◌, ◌≤◌, Bool, true, false, ◌&&◌, Option, Some, unwrap_or, List, [], ◌∷◌, length, take, drop, slice_get, sym, subst, ap, ◌∙◌, arith, pos}
use Rattle.std.specs.List.{fold}
use Rattle.std.proofs.lemmas.Bool.{ltb-true}
use Rattle.std.proofs.lemmas.List.{take_all, drop_all}
use Rattle.std.proofs.lemmas.Option.{none-some, same_Some}
use Rattle.fl_bitmap.specs.Bucket.{with_value, bitmap_in}
use Rattle.fl_bitmap.specs.declared.buckets.Buckets.{Buckets}
use Rattle.fl_model.specs.Query.{is_above}
use Rattle.fl_model.specs.Row.{Row}
use Rattle.fl_page.specs.Steps.{Ascends}
use Rattle.fl_page.proofs.RowsFrom.{drop-row}
use Rattle.fl_rules.specs.DataPage.{is_plain, are_plain}

-- ---- keys

-- one row on
pub ascends-next : (first last : Option ℕ) (rows : List Row) (i : ℕ) (row : Row) → slice_get rows i ≡ Some row → is_above last row.key ≡ true
    → (Ascends first rows ↔ Ascends last (drop i rows)) → Ascends first rows ↔ Ascends (Some row.key) (drop (i + 1) rows)
ascends-next first last rows i row e up same =
    let split = drop-row rows i row e in (
      λ all. (subst (Ascends last) split (same.0 all)).1,
      λ rest. same.1 (subst (Ascends last) (sym split) (up, rest)),
    )

-- a key that isn't above the one before
pub ascends-bad : (first : Option ℕ) (before : ℕ) (rows : List Row) (i : ℕ) (row : Row) → slice_get rows i ≡ Some row → row.key ≤ before
    → (Ascends first rows ↔ Ascends (Some before) (drop i rows)) → Ascends first rows → ⊥
ascends-bad first before rows i row e le same all =
    let here = (subst (Ascends (Some before)) (drop-row rows i row e) (same.0 all)).0 in
    let above = ltb-true before row.key here in
    omega (arith, le, above)

pub ascends-end : (first last : Option ℕ) (rows : List Row) (i : ℕ) → length rows ≤ i → (Ascends first rows ↔ Ascends last (drop i rows)) → Ascends first rows
ascends-end first last rows i le same = same.1 (subst (Ascends last) (sym (drop_all i rows le)) tt)

-- ---- references

pub plain-next : (rows : List Row) (i : ℕ) (row : Row) → slice_get rows i ≡ Some row → is_plain row.blob ≡ true → are_plain rows ≡ are_plain (drop i rows)
    → are_plain rows ≡ are_plain (drop (i + 1) rows)
plain-next rows i row e plain same = same ∙ ap are_plain (drop-row rows i row e) ∙ ap (λ (b : Bool). b && are_plain (drop (i + 1) rows)) plain

pub plain-bad : (rows : List Row) (i : ℕ) (row : Row) → slice_get rows i ≡ Some row → is_plain row.blob ≡ false → are_plain rows ≡ are_plain (drop i rows)
    → are_plain rows ≡ false
plain-bad rows i row e not_plain same = same ∙ ap are_plain (drop-row rows i row e) ∙ ap (λ (b : Bool). b && are_plain (drop (i + 1) rows)) not_plain

pub plain-end : (rows : List Row) (i : ℕ) → length rows ≤ i → are_plain rows ≡ are_plain (drop i rows) → are_plain rows ≡ true
plain-end rows i le same = same ∙ ap are_plain (drop_all i rows le)

-- ---- the bitmap

abbrev bits_onto : Buckets → ℕ → List Row → ℕ
bits_onto buckets bits rows = fold (λ bits row. with_value buckets bits (unwrap_or (slice_get row.values 0) (pos 0))) bits rows

pub bitmap-next : (buckets : Buckets) (rows : List Row) (i : ℕ) (row : Row) → slice_get rows i ≡ Some row
    → bitmap_in (Some buckets) (take (i + 1) rows) ≡ with_value buckets (bitmap_in (Some buckets) (take i rows)) (unwrap_or (slice_get row.values 0) (pos 0))
bitmap-next buckets rows i row e = onto 0 rows i e
  where
    onto : (bits : ℕ) (rows : List Row) (i : ℕ) → slice_get rows i ≡ Some row
        → bits_onto buckets bits (take (i + 1) rows) ≡ with_value buckets (bits_onto buckets bits (take i rows)) (unwrap_or (slice_get row.values 0) (pos 0))
    onto bits [] i e = absurd (none-some row e)
    onto bits (x ∷ rows) zero e = ap (λ (r : Row). with_value buckets bits (unwrap_or (slice_get r.values 0) (pos 0))) (same_Some x row e)
    onto bits (x ∷ rows) (suc i) e =
        ap (λ k. bits_onto buckets bits (take k (x ∷ rows))) (let k : suc i + 1 ≡ suc (i + 1) = omega arith in k)
        ∙ onto (with_value buckets bits (unwrap_or (slice_get x.values 0) (pos 0))) rows i e

pub bitmap-end : (buckets : Buckets) (rows : List Row) (n : ℕ) → length rows ≤ n → bitmap_in (Some buckets) (take n rows) ≡ bitmap_in (Some buckets) rows
bitmap-end buckets rows n le = ap (bitmap_in (Some buckets)) (take_all n rows le)
