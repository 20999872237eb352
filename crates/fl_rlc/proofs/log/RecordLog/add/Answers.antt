use Rattle.std.proofs.Common.{None, arith, ap}
use Rattle.fl_model.specs.Record.{layout_len}
use Rattle.fl_model.specs.Row.{Row, bytes_of_row}
use Rattle.fl_page.specs.WriterState.{WriterState}
use Rattle.fl_schema.specs.Schema.{layout_of, types_of}
use Rattle.fl_schema.proofs.RoundTrip.{length-bytes_of_row}
use Rattle.fl_parts.proofs.Writers.{rest-push}
use Rattle.fl_rlc.specs.Memory.{kept_rows, rows_in}
use Rattle.fl_rlc.proofs.log.RecordLog.add.Goals as goal

pub returns-clause-joins : goal.returns-clause-joins
returns-clause-joins c = λ rows gathers.
    let layout = layout_of c.args.schema.now in
    c.push_row.ensures.rows (kept_rows layout (rows_in c.args.self.now) rows) (c.make_room.ensures.rows rows gathers)

pub invariant_of-self : goal.invariant_of-self
invariant_of-self c =
    let v = c.make_room.new.self in
    let s = c.args.schema.now in
    let row : Row = record { key = c.args.key; values = c.args.values.now; blob = None } in
    record {
      served = v.served;
      some_blocks = v.some_blocks;
      body = omega (arith, c.push_row.ensures.size, v.body);
      rows_begin = omega (arith, ap (λ (w : WriterState). w.end) c.push_row.ensures.exact, v.rows_begin);
      rows_room = omega (arith, ap (λ (w : WriterState). w.end) c.push_row.ensures.exact, c.push_row.ensures.size, c.make_room.ensures.room);
      blank_rest = rest-push v.rows c.push_row.new.self (bytes_of_row (layout_of s) row) (layout_len (layout_of s)) c.push_row.ensures.exact
          (length-bytes_of_row s.key (types_of s) s.blobs row c.requires.fits) c.make_room.ensures.room c.push_row.ensures.size v.blank_rest;
      lies = v.lies;
    }
