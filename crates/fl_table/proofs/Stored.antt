-- The pending rows of a table that has none.
use Rattle.std.proofs.Common.{◌≡◌, ℕ, ◌+◌, ◌*◌, [], ◌∙◌, ap, arith}
use Rattle.fl_model.specs.Record.{layout_len}
use Rattle.fl_schema.specs.Schema.{layout_of}
use Rattle.fl_table.specs.Memory.{pending_in, PendingAre}
use Rattle.fl_table.specs.declared.table.Table.{Table}
use Rattle.fl_parts.proofs.Writers.{gathers-none}

-- no row is pending where none is counted
pub pending-none : {KNOTS SLOTS : ℕ} (u : Table KNOTS SLOTS) → pending_in u ≡ 0 → PendingAre u []
pending-none u none =
    let end : u.writer.end ≡ 16 + 0 * layout_len (layout_of u.schema) = u.rows_end ∙ ap (λ (n : ℕ). 16 + n * layout_len (layout_of u.schema)) none in
    gathers-none (layout_of u.schema) u.writer none (omega (arith, end)) u.blank_rest
