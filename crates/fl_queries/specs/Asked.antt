-- What an operator over a range of keys is asked for.
use Rattle.std.specs.Prelude.{ℕ, nat_lt, Option, None, List, length, map, find}
use Rattle.fl_base.specs.declared.types.KeyRange.{KeyRange}
use Rattle.fl_model.specs.Query.{selected}
use Rattle.fl_model.specs.Record.{Record, RowLayout}
use Rattle.fl_model.specs.Table.{Table}

-- the records that it is given
abbrev pub asked_records : KeyRange → Table → List Record
asked_records range table = map (λ entry. entry.kept) (selected range None table.entries)

-- the first column that rows of this layout don't have; column 0 is the key
abbrev pub lacked_column : RowLayout → List ℕ → Option ℕ
lacked_column layout columns = find (λ column. nat_lt (length layout.columns) column) columns
