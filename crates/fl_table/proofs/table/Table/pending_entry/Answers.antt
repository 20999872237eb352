use Rattle.std.proofs.Common.{◌∷◌, length, map, sym, ◌∙◌, ap, arith, mul-le-mul_right}
use Rattle.fl_model.specs.Record.{layout_len}
use Rattle.fl_model.specs.Row.{Row, stored_row}
use Rattle.fl_model.specs.Table.{pending_entries}
use Rattle.fl_schema.specs.Schema.{layout_of, row_of}
use Rattle.fl_table.proofs.Counted.{first-is}
use Rattle.fl_parts.proofs.FullEntries.{full-pending}
use Rattle.fl_parts.proofs.Pointed.{first-key}
use Rattle.fl_table.proofs.SealAnswers.{writer-count, pending-length}
use Rattle.fl_parts.proofs.Writers.{few-rows}
use Rattle.fl_table.proofs.table.Table.pending_entry.Goals as goal

pub row-requires : goal.row-requires
row-requires g c =
    let t = c.args.self.now in
    (omega arith, omega (arith, t.rows_end, mul-le-mul_right (layout_len (layout_of t.schema)) c.requires.some))

pub overflow_cast-result : goal.overflow_cast-result
overflow_cast-result g c =
    let t = c.args.self.now in
    omega (arith, c.count.ensures, few-rows t.writer.count _ t.writer.end (length t.writer.body) t.rows_end t.rows_room t.some_row (omega (arith, t.page, t.served.page_greatest)))

pub returns : goal.returns
returns g c = record {
  stands = λ f first plan table stands.
      full-pending (record { first_key = c.key.result; count = c.count.result; blob_end = c.args.self.now.blob_end }) (pending_entries table) (row_of c.row.result).key
      (first-key table (row_of c.row.result) (c.row.ensures.row (map stored_row (pending_entries table)) stands.memory.gathers)) c.key.ensures
      (c.count.ensures ∙ (writer-count c.args.self.now f first plan table stands ∙ sym (pending-length plan table stands.facts.counted))) stands.memory.blob_end;
  first = λ row rows gathers. c.key.ensures ∙ ap (λ (r : Row). r.key) (sym (first-is rows row (row_of c.row.result) (c.row.ensures.row (row ∷ rows) gathers)));
}
