use Rattle.std.proofs.Common.{◌≡◌, ℕ, ◌+◌, ◌*◌, ◌≤◌, Some, List, slice_range, ap, sym, ◌∙◌, arith}
use Rattle.fl_model.specs.Record.{RowLayout, layout_len}
use Rattle.fl_model.specs.Row.{row_in}
use Rattle.fl_schema.specs.Schema.{types_of, layout_of, layout_of_row, bytes_of}
use Rattle.fl_page.specs.WriterState.{WriterState}
use Rattle.fl_page.proofs.WriterSteps.{row_part, row_gathered}
use Rattle.fl_page.proofs.writer.PageWriter.row.Goals as goal

pub returns-clause-bytes : goal.returns-clause-bytes
returns-clause-bytes g c =
    let i = c.args.i in
    let n = c.row_len-len.result in
    let size : n ≡ layout_len (layout_of c.args.schema.now) = c.row_len-len.ensures in
    let ends : c.self.inside.end ≡ c.args.self.now.end = ap (λ (w : WriterState). w.end) c.self.view_is in
    let within : 16 + (i + 1) * n ≤ c.self.inside.end = omega (arith, c.requires.within, ends, ap (λ (k : ℕ). (i + 1) * k) size) in
    c.of.ensures.bytes
    ∙ row_part c.deref.result.now i n c.self.inside.end within
    ∙ ap (λ (l : List ℕ). slice_range l (16 + i * n) (16 + (i + 1) * n)) (c.deref.ensures.value ∙ ap (λ (w : WriterState). w.body) c.self.view_is)
    ∙ ap (λ (k : ℕ). slice_range c.args.self.now.body (16 + i * k) (16 + (i + 1) * k)) size

pub returns-clause-row : goal.returns-clause-row
returns-clause-row g c = λ rows is.
    let schema = c.args.schema.now in
    let layout : layout_of_row c.of.result ≡ layout_of c.args.schema.now = c.of.ensures.layout ∙ c.kind.ensures in
    row_gathered schema.key (types_of schema) schema.blobs rows c.args.self.now c.args.i c.requires.within is
    ∙ ap (λ (l : List ℕ). Some (row_in (layout_of c.args.schema.now) l)) (sym (returns-clause-bytes g c))
    ∙ ap (λ (l : RowLayout). Some (row_in l (bytes_of c.of.result))) (sym layout)
