-- Index pages that are whole, by their bytes.
use Rattle.std.specs.Prelude.{◌≡◌, ℕ, ◌^◌, ◌<◌, List, length}
use Rattle.fl_model.specs.Layout.{IndexEntry, index_body, committed}
use Rattle.fl_model.specs.Record.{Plan, entries_per_page}

-- a committed index page of a table with this number, which lists as many data pages as it has room for
pub record IsIndexPage (plan : Plan) (number : ℕ) (page : List ℕ) : Type 0 where
  pub first : ℕ
  pub entries : List IndexEntry
  pub small : first < 2 ^ 32
  pub full : length entries ≡ entries_per_page plan
  pub bytes : page ≡ committed (index_body plan number first entries)
