use Rattle.std.proofs.Common.{sym, ap, ◌∙◌, arith}
use Rattle.std.proofs.lemmas.Option.{same_Some}
use Rattle.fl_model.specs.Row.{Row}
use Rattle.fl_model.proofs.Lists.{slice_get-short}
use Rattle.fl_schema.specs.Schema.{row_of}
use Rattle.fl_table.specs.Look.{buffered_rows}
use Rattle.fl_table.proofs.PendingKey.{length-buffered}
use Rattle.fl_parts.proofs.PendingRows.{lacks-beyond}
use Rattle.fl_parts.proofs.Sizes.{table-fits}
use Rattle.fl_table.proofs.table.Table.pending_place.Goals as goal

pub returns-then-place-pending_rows-clause-found : goal.returns-then-place-pending_rows-clause-found
returns-then-place-pending_rows-clause-found g c = λ up.
    let rows = buffered_rows c.args.self.now in
    lacks-beyond rows c.args.key c.pending_below-place.result (c.pending_below-place.ensures.below up) (c.pending_below-place.ensures.at_least up) up
    (λ row e k. let short = slice_get-short rows c.pending_below-place.result row e in omega (arith, short, length-buffered c.args.self.now, c.pending_rows.ensures.exact, c.if-place-pending_rows.true))

pub returns-then-key-clause-found : goal.returns-then-key-clause-found
returns-then-key-clause-found g c = λ up.
    lacks-beyond (buffered_rows c.args.self.now) c.args.key c.pending_below-place.result (c.pending_below-place.ensures.below up) (c.pending_below-place.ensures.at_least up) up
    (λ row e k. c.if-key.true (c.key.ensures ∙ (ap (λ (r : Row). r.key) (same_Some (row_of c.pending_row.result) row (sym c.pending_row.ensures.row ∙ e)) ∙ k)))

pub returns-clause-found : goal.returns-clause-found
returns-clause-found g c = record {
  row = row_of c.pending_row.result;
  here = c.pending_row.ensures.row;
  key_is = sym c.key.ensures ∙ c.if-key.false;
}

pub pending_below-place-requires : goal.pending_below-place-requires
pending_below-place-requires g c = table-fits g.row.KNOTS g.row.SLOTS c.args.self.now.few_knots c.args.self.now.few_slots

pub pending_rows-requires : goal.pending_rows-requires
pending_rows-requires g c = table-fits g.row.KNOTS g.row.SLOTS c.args.self.now.few_knots c.args.self.now.few_slots
