-- The columns that a projection lists, and the fields that it makes of a row.
use Rattle.std.proofs.Common.{◌≡◌, ℕ, zero, suc, ◌+◌, ◌<◌, ◌≤◌, Bool, true, false, cond, nat_lt, Option, Some, None, ℤ, List, [], ◌∷◌, ◌++◌, length, map, take, slice_index, refl, ◌∙◌, ap, arith}
use Rattle.std.proofs.lemmas.Bool.Decides.{nat_tests}
use Rattle.fl_model.specs.Record.{RowLayout}
use Rattle.fl_queries.specs.Asked.{lacked_column}

-- one field more
pub take-fields : (f : ℕ → ℤ) (columns : List ℕ) (i : ℕ) → i < length columns → take i (map f columns) ++ f (slice_index columns i) ∷ [] ≡ take (i + 1) (map f columns)
take-fields f [] i lt = absurd (omega (arith, lt))
take-fields f (column ∷ columns) zero lt = refl
take-fields f (column ∷ columns) (suc i) lt =
    let same : suc (i + 1) ≡ suc i + 1 = omega arith in
    ap (λ (vs : List ℤ). f column ∷ vs) (take-fields f columns i (omega (arith, lt))) ∙ ap (λ n. take n (map f (column ∷ columns))) same

-- no column is lacked, so each is there
lacks-no : (b : Bool) (column : ℕ) (rest : Option ℕ) → cond b (Some column) rest ≡ None → (b ≡ false) × (rest ≡ None)
lacks-no true column rest none = absurd (no none)
  where
    no : ◌≡◌ {A = Option ℕ} (Some column) None → ⊥
    no e = cc
lacks-no false column rest none = (refl, none)

pub lacks-none : (layout : RowLayout) (columns : List ℕ) (i : ℕ) → lacked_column layout columns ≡ None → i < length columns → slice_index columns i ≤ length layout.columns
lacks-none layout [] i none lt = absurd (omega (arith, lt))
lacks-none layout (column ∷ columns) zero none lt =
    let is : nat_lt (length layout.columns) column ≡ false = (lacks-no (nat_lt (length layout.columns) column) column (lacked_column layout columns) none).0 in
    let le : column ≤ length layout.columns = grind (arith, nat_tests, is) in
    le
lacks-none layout (column ∷ columns) (suc i) none lt =
    lacks-none layout columns i (lacks-no (nat_lt (length layout.columns) column) column (lacked_column layout columns) none).1 (omega (arith, lt))
