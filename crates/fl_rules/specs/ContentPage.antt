-- Pages of variable data that are whole, by their bytes.
use Rattle.std.specs.Prelude.{◌≡◌, ℕ, ◌-◌, ◌<◌, ◌≤◌, List, ◌++◌, length, take}
use Rattle.fl_model.specs.Row.{le}
use Rattle.fl_rules.specs.Endings.{IsEnded}

-- a committed page with this number, which says to have some bytes of content, as many as it has room for at most
pub record IsContentPage (number : ℕ) (page : List ℕ) : Type 0 where
  pub used : ℕ
  pub some : 0 < used
  pub most : used ≤ length page - 16
  pub head : take 8 page ≡ le 4 number ++ le 2 used ++ le 2 0
  pub marks : IsEnded page
