use Rattle.std.proofs.Common.{◌≡◌, ℕ, ◌+◌, ◌-◌, ◌*◌, ◌<◌, ◌≤◌, mul-le-mul_right, Some, List, take, drop, ap, map, sym, ◌∙◌, arith}
use Rattle.std.proofs.lemmas.List.{drop-drop}
use Rattle.fl_model.specs.Record.{RowLayout, layout_len}
use Rattle.fl_model.specs.Row.{row_in, stored_row}
use Rattle.fl_model.specs.Table.{pending_entries}
use Rattle.fl_schema.specs.Schema.{layout_of, types_of, bytes_of}
use Rattle.fl_page.proofs.RowBytes.{slice_get-rows_from}
use Rattle.fl_parts.proofs.Sizes.{schema-fits}
use Rattle.fl_table.proofs.table.Table.pending_row.Goals as goal

-- a row before the last ends before them
row-within : (i count n end : ℕ) → i < count → end ≡ 16 + count * n → 16 + (i + 1) * n ≤ end
row-within i count n end lt is =
    let more : i + 1 ≤ count = omega (arith, lt) in
    let rows = mul-le-mul_right n more in
    omega (arith, is, rows)

pub row-requires : goal.row-requires
row-requires g c = (schema-fits, row-within _ _ _ _ c.requires.within c.args.self.now.rows_end)

pub returns-clause-layout : goal.returns-clause-layout
returns-clause-layout g c = c.row.ensures.layout

pub returns-clause-row : goal.returns-clause-row
returns-clause-row g c =
    let schema = c.args.self.now.schema in
    let i = c.args.i in
    let n = layout_len (layout_of c.args.self.now.schema) in
    let body = c.args.self.now.writer.body in
    let one : 16 + (i + 1) * n - (16 + i * n) ≡ n = omega arith in
    slice_get-rows_from schema.key (types_of schema) schema.blobs c.args.self.now.writer.count i (drop 16 body) c.requires.within
    ∙ ap (λ (l : List ℕ). Some (row_in (layout_of c.args.self.now.schema) l)) (ap (λ (l : List ℕ). take n l) (drop-drop (i * n) 16 body) ∙ sym (ap (λ (k : ℕ). take k (drop (16 + i * n) body)) one) ∙ sym c.row.ensures.bytes)
    ∙ ap (λ (l : RowLayout). Some (row_in l (bytes_of c.row.result))) (sym c.row.ensures.layout)

pub returns-clause-stands : goal.returns-clause-stands
returns-clause-stands g c = λ f first plan table stands. c.row.ensures.row (map stored_row (pending_entries table)) stands.memory.gathers
