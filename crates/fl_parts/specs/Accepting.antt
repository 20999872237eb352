-- What an accepted record is to a table that has room for it.
use Rattle.std.specs.Prelude.{◌≡◌, ℕ, ◌<◌, ◌≤◌, IsTrue, ℤ, Option, Some, None, List, length}
use Rattle.std.specs.List.{last_or}
use Rattle.fl_model.specs.Record.{Plan, has_var, key_limit, first_misfit, rows_per_page}
use Rattle.fl_model.specs.Table.{Table, Entry, spent_from}

pub record IsAcceptedBy (plan : Plan) (table : Table) (key : ℕ) (values : List ℤ) (blob : Option (List ℕ)) : Type 0 where
  pub above : (last : Entry) → last_or None table.entries ≡ Some last → last.kept.key < key
  pub fits : key ≤ key_limit plan
  pub as_many : length values ≡ length plan.columns
  pub values_fit : first_misfit 1 plan.columns values ≡ None
  pub blob_fits : (bytes : List ℕ) → blob ≡ Some bytes → IsTrue (has_var plan) × (length bytes ≤ plan.blob_limit)
  pub room : table.pending < rows_per_page plan
  pub left : table.rows.next ≤ spent_from
