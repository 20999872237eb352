-- What is exported is read back.
use Rattle.std.specs.Prelude.{◌≡◌, ◌≤◌, None, Ok, length, map}
use Rattle.std.specs.List.{AllByRecursion}
use Rattle.fl_base.specs.declared.types.KeyRange.{KeyRange}
use Rattle.fl_csv.specs.Laws.{Fits}
use Rattle.fl_csv.specs.Lines.{text_puts}
use Rattle.fl_model.specs.Query.{Lost, blob_of, selected}
use Rattle.fl_model.specs.Record.{Plan, has_var}
use Rattle.fl_model.specs.Table.{Table, Entry}
use Rattle.fl_export.specs.Text.{table_text}

-- a record that a line can tell, and whose blob isn't gone
pub record IsWhole (plan : Plan) (table : Table) (entry : Entry) : Type 0 where
  pub fits : Fits (length plan.columns) (has_var plan) entry.kept
  pub there : blob_of table entry ≡ Lost → ⊥

-- the text of an export, read line by line, means just the records that it selects, where none of their blobs is gone
abbrev pub ExportsReadBack : Type 0
ExportsReadBack = (plan : Plan) (table : Table) (range : KeyRange) → length plan.columns ≤ 8 → AllByRecursion (IsWhole plan table) (selected range None table.entries)
    → text_puts (length plan.columns) (has_var plan) (table_text plan table range) ≡ map (λ entry. Ok entry.kept) (selected range None table.entries)
