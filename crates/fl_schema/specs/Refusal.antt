-- Why a schema is refused: the first reason that applies.
use Rattle.std.specs.Prelude.{ℕ, nat_lt, ◌==◌, Option, Some, None, length, if◌then◌else◌}
use Rattle.fl_model.specs.Record.{RowLayout, layout_len}
use Rattle.fl_schema.specs.declared.schema.SchemaRefusal.{SchemaRefusal}
use Rattle.fl_schema.specs.declared.schema.SchemaRefusal.TheVariants.{NoColumn, TooManyColumns, RowTooLong}

abbrev pub refusal_of : ℕ → RowLayout → ℕ → Option SchemaRefusal
refusal_of limit layout room =
    if length layout.columns == 0 then Some NoColumn
    else (if nat_lt limit (length layout.columns) then Some (TooManyColumns limit)
    else (if nat_lt room (layout_len layout) then Some (RowTooLong (layout_len layout) room) else None))
