use Rattle.std.proofs.Common.{ℕ, zero, suc, ◌≡◌, ◌<◌, ◌≤◌, [], ◌∷◌, length, arith, rules}
use Rattle.std.specs.List.{slice_index}
use Rattle.fl_page.specs.View.{layout_of_page}
use Rattle.fl_storage_tests.proofs.operators.projects_rows.Goals as goal

in_range : (columns : ℕ) → columns ≡ 1 → (i : ℕ) → i < 2 → slice_index (1 ∷ 0 ∷ []) i ≤ columns
in_range columns one zero below = omega (arith, one)
in_range columns one (suc zero) below = omega arith
in_range columns one (suc (suc i)) below = absurd (omega (arith, below))

pub new-fields-requires : goal.new-fields-requires
new-fields-requires g c =
    let one : length (layout_of_page c.new-2.result.view).columns ≡ 1 = search rules in
    in_range (length (layout_of_page c.new-2.result.view).columns) one
