use Rattle.std.proofs.Common.{◌≡◌, ℕ, List, length, sym, ◌∙◌, ap, subst}
use Rattle.std.proofs.lemmas.List.{length-map}
use Rattle.fl_base.specs.Causes.{Appends, AppendsFront}
use Rattle.fl_base.proofs.Appended.{front-more}
use Rattle.fl_csv.specs.Text.{header_text}
use Rattle.fl_schema.specs.Schema.{layout_of, types_of}
use Rattle.fl_schema.specs.Types.{column_of}
use Rattle.fl_script.proofs.SinkPieces.{written-err, written-behind}
use Rattle.fl_salvage.specs.Text.{form_of, pages_text}
use Rattle.fl_salvage.proofs.rows.write_table.Goals as goal

pub returns-in_err-header_line-clause-writes : goal.returns-in_err-header_line-clause-writes
returns-in_err-header_line-clause-writes g c tells =
    let schema = c.args.table.now.schema in
    let columns : c.columns.result ≡ length (layout_of c.args.table.now.schema).columns = c.columns.ensures ∙ sym (length-map (types_of schema) column_of) in
    let head : header_text c.columns.result c.has_blobs.result ≡ header_text (length (layout_of c.args.table.now.schema).columns) (layout_of c.args.table.now.schema).blobs =
    ap (λ (n : ℕ). header_text n c.has_blobs.result) columns ∙ ap (header_text (length (layout_of schema).columns)) c.has_blobs.ensures in
    written-err _ _ _ _ c.from_residual.ensures.0
    (front-more (g.K.Sink.written c.args.out.now) (g.K.Sink.written c.header_line.new.out) (header_text (length (layout_of schema).columns) (layout_of schema).blobs) (pages_text (form_of c.args.table.now) (g.M.Media.state c.args.media.now).content c.args.numbers.now)
    (subst (λ (l : List ℕ). AppendsFront (g.K.Sink.written c.args.out.now) (g.K.Sink.written c.header_line.new.out) l) head c.in_err-header_line.ensures.text))

pub returns-clause-writes : goal.returns-clause-writes
returns-clause-writes g c tells =
    let schema = c.args.table.now.schema in
    let columns : c.columns.result ≡ length (layout_of c.args.table.now.schema).columns = c.columns.ensures ∙ sym (length-map (types_of schema) column_of) in
    let head : header_text c.columns.result c.has_blobs.result ≡ header_text (length (layout_of c.args.table.now.schema).columns) (layout_of c.args.table.now.schema).blobs =
    ap (λ (n : ℕ). header_text n c.has_blobs.result) columns ∙ ap (header_text (length (layout_of schema).columns)) c.has_blobs.ensures in
    written-behind (g.K.Sink.written c.args.out.now) (g.K.Sink.written c.header_line.new.out) (g.K.Sink.written c.write_pages.new.out) (header_text (length (layout_of schema).columns) (layout_of schema).blobs)
    (pages_text (form_of c.args.table.now) (g.M.Media.state c.args.media.now).content c.args.numbers.now) c.write_pages.result
    (subst (λ (l : List ℕ). Appends (g.K.Sink.written c.args.out.now) (g.K.Sink.written c.header_line.new.out) l) head c.in_ok-header_line.ensures.text) (c.write_pages.ensures.writes tells)
