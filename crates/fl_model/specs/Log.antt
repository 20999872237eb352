-- What a table with a log keeps in each state, so that a mount finds the records of its log.
use Rattle.std.specs.Prelude.{◌≡◌, ℕ, ◌<◌, ◌≤◌, false, ◌⊎◌, None, IfSome, option_map, unwrap_or, List, [], ◌∷◌, ◌++◌}
use Rattle.std.specs.List.{AllByRecursion, last_or}
use Rattle.fl_model.specs.Ring.{Ring}
use Rattle.fl_model.specs.Table.{Table, Entry, owed}

-- the key of the last of these records, or 0
abbrev pub last_key : List Entry → ℕ
last_key entries = unwrap_or (option_map (λ entry. entry.kept.key) (last_or None entries)) 0

-- The newest page of the log with records is its last page, or the one before it. Only in the second case was the page after
-- it torn, so no mount adds another void page, and so none gives up the page with the records.
abbrev pub IsSafe : Ring → Type 0
IsSafe ring =
    (others : List ℕ) × (count : ℕ) × (0 < count)
    × ((ring.counts ≡ others ++ count ∷ []) ⊎ ((ring.counts ≡ others ++ count ∷ 0 ∷ []) × (ring.torn ≡ false)))

-- the records of the log
pub record IsLog (table : Table) : Type 0 where
  -- the last of them has the greatest key
  pub ascending : AllByRecursion (λ entry. entry.kept.key ≤ last_key table.logged) table.logged
  -- no data page has any of them; or all of them are in data pages, and then the page after these isn't torn
  pub whole : (owed table ≡ table.logged) ⊎ ((owed table ≡ []) × (table.rows.torn ≡ false))
  -- while no data page has them, no mount gives them up
  pub safe : (owed table ≡ [] → ⊥) → IfSome table.log IsSafe
