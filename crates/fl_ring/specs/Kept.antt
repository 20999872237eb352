-- The bytes of the pages of a ring that are kept.
use Rattle.std.specs.Prelude.{◌≡◌, ℕ, ◌<◌, ◌≤◌, List}
use Rattle.fl_model.specs.Ring.{Ring, oldest}

-- Over seals, which never take a number back, the numbers go on, and each page that was kept and still is has the bytes that
-- it had, committed or void. (A mount may number a ring whose pages are all void anew.)
pub record PagesStand (old : Ring) (old_at : ℕ → List ℕ) (new : Ring) (new_at : ℕ → List ℕ) : Type 0 where
  pub later : oldest old ≤ oldest new
  pub further : old.next ≤ new.next
  pub bytes : (number : ℕ) → oldest new ≤ number → number < old.next → new_at number ≡ old_at number
