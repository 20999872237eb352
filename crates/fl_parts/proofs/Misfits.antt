-- The first value that doesn't fit, from a place on.
use Rattle.std.proofs.Common.{◌≡◌, ℕ, zero, suc, ◌+◌, ◌<◌, ◌≤◌, cond, Some, None, List, [], ◌∷◌, length, drop, get_or, refl, ◌∙◌, ap, arith}
use Rattle.std.proofs.Math.IntN.{ℤ}
use Rattle.std.specs.List.{slice_get}
use Rattle.std.proofs.lemmas.Option.{none-some}
use Rattle.std.proofs.lemmas.List.{drop_all}
use Rattle.fl_model.specs.Record.{Column, fits, first_misfit}

misfit_suc : (n i : ℕ) (columns : List Column) (values : List ℤ) (c : Column) (d : ℤ) → slice_get columns i ≡ Some c → i < length values →
    first_misfit n (drop i columns) (drop i values) ≡ cond (fits c (get_or values i d)) (first_misfit (n + 1) (drop (suc i) columns) (drop (suc i) values)) (Some n)
misfit_suc n i [] values c d e lt = absurd (none-some c e)
misfit_suc n i (column ∷ columns) [] c d e lt = absurd (omega arith)
misfit_suc n zero (column ∷ columns) (value ∷ values) c d e lt =
    let same : column ≡ c = cc in
    ap (λ (k : Column). cond (fits k value) (first_misfit (n + 1) columns values) (Some n)) same
misfit_suc n (suc i) (column ∷ columns) (value ∷ values) c d e lt = misfit_suc n i columns values c d e (omega arith)

pub misfit-at : (n i : ℕ) (columns : List Column) (values : List ℤ) (c : Column) (d : ℤ) → slice_get columns i ≡ Some c → i < length values →
    first_misfit n (drop i columns) (drop i values) ≡ cond (fits c (get_or values i d)) (first_misfit (n + 1) (drop (i + 1) columns) (drop (i + 1) values)) (Some n)
misfit-at n i columns values c d e lt =
    misfit_suc n i columns values c d e lt
    ∙ ap (λ (k : ℕ). cond (fits c (get_or values i d)) (first_misfit (n + 1) (drop k columns) (drop k values)) (Some n)) (let s : suc i ≡ i + 1 = omega arith in s)

pub misfit-end : (n i : ℕ) (columns : List Column) (values : List ℤ) → length values ≤ i → first_misfit n (drop i columns) (drop i values) ≡ None
misfit-end n i columns values le = ap (first_misfit n (drop i columns)) (drop_all i values le) ∙ none (drop i columns)
  where
    none : (cs : List Column) → first_misfit n cs [] ≡ None
    none [] = refl
    none (c ∷ cs) = refl
