-- The pending rows by their bytes, and whether a key is pending.
use Rattle.std.proofs.Common.{◌≡◌, ℕ, Option, Some, None, option_map, List, length, drop, map, sym, ◌∙◌, ap, subst}
use Rattle.std.specs.Prelude.{MatchOption, nat_le, unwrap_or, false}
use Rattle.std.specs.List.{slice_get}
use Rattle.fl_find.specs.Rows.{RowsRise, HasKey, LacksKey}
use Rattle.fl_flash.specs.Flash.{FlashState}
use Rattle.fl_model.specs.Record.{Plan}
use Rattle.fl_model.specs.Row.{Row, stored_row}
use Rattle.fl_model.specs.Table as model
use Rattle.fl_model.specs.Table.{pending_entries}
use Rattle.fl_page.specs.Page.{rows_from}
use Rattle.fl_page.proofs.RowBytes.{rows_from-rows}
use Rattle.fl_schema.specs.Schema.{types_of}
use Rattle.fl_page.proofs.RowsFrom.{length-rows_from}
use Rattle.fl_table.specs.Finding.{is_pending_in}
use Rattle.fl_table.specs.Look.{layout_in, buffered_rows}
use Rattle.fl_table.specs.Memory.{pending_in}
use Rattle.fl_table.specs.Standing.{Stands}
use Rattle.fl_table.specs.declared.table.Table.{Table}
use Rattle.fl_parts.proofs.PendingRows.{pending-rise}

pub length-buffered : {KNOTS SLOTS : ℕ} (t : Table KNOTS SLOTS) → length (buffered_rows t) ≡ pending_in t
length-buffered t = length-rows_from (pending_in t) (layout_in t) (drop 16 t.writer.body)

-- with no row in the buffer no key is pending
pub none-pending : {KNOTS SLOTS : ℕ} (t : Table KNOTS SLOTS) (key : ℕ) → pending_in t ≡ 0 → false ≡ is_pending_in t key
none-pending t key none =
    sym (ap (λ n. unwrap_or (option_map (λ (row : Row). nat_le row.key key) (slice_get (rows_from n (layout_in t) (drop 16 t.writer.body)) 0)) false) none)

-- .. and else the first row decides
pub first-pending : {KNOTS SLOTS : ℕ} (t : Table KNOTS SLOTS) (key : ℕ) (row : Row) → slice_get (buffered_rows t) 0 ≡ Some row → nat_le row.key key ≡ is_pending_in t key
first-pending t key row here = sym (ap (λ (o : Option Row). unwrap_or (option_map (λ row. nat_le row.key key) o) false) here)

module _ {KNOTS SLOTS : ℕ} (t : Table KNOTS SLOTS) (f : FlashState) (first : ℕ) (plan : Plan) (table : model.Table) (stands : Stands t f first plan table) where
  -- they are those of the model
  pub buffered-stored : buffered_rows t ≡ map stored_row (pending_entries table)
  buffered-stored =
      let gathers = stands.memory.gathers in
      ap (λ n. rows_from n (layout_in t) (drop 16 t.writer.body)) gathers.count
      ∙ (ap (rows_from (length (map stored_row (pending_entries table))) (layout_in t)) gathers.bytes
      ∙ rows_from-rows t.schema.key (types_of t.schema) t.schema.blobs (map stored_row (pending_entries table)) _ gathers.storable)

  pub found-stored : (key : ℕ) (place : Option ℕ) → MatchOption place (RowsRise (buffered_rows t) → LacksKey (buffered_rows t) key) (λ i. HasKey (buffered_rows t) key i) →
      MatchOption place (LacksKey (map stored_row (pending_entries table)) key) (λ i. HasKey (map stored_row (pending_entries table)) key i)
  found-stored key None h =
      (subst (λ (rows : List Row). RowsRise rows → LacksKey rows key) buffered-stored h) (pending-rise plan table stands.facts)
  found-stored key (Some i) h = subst (λ (rows : List Row). HasKey rows key i) buffered-stored h
