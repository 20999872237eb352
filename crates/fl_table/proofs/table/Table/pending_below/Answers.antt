use Rattle.std.proofs.Common.{arith}
use Rattle.fl_schema.specs.Schema.{row_of}
use Rattle.fl_model.proofs.Lists.{slice_get-short}
use Rattle.fl_table.specs.Look.{buffered_rows}
use Rattle.fl_table.proofs.PendingKey.{length-buffered}
use Rattle.fl_parts.proofs.PendingRows.{below-middle, above-middle}
use Rattle.fl_parts.proofs.Sizes.{table-fits}
use Rattle.fl_table.proofs.table.Table.pending_below.Goals as goal

pub loop-low-init : goal.loop-low-init
loop-low-init g c = record {
  order = omega arith;
  within = omega (arith, c.pending_rows-high.ensures.exact);
  below = λ up i row less e. absurd (omega (arith, less));
  at_least = λ up i row from e.
      let short = slice_get-short (buffered_rows c.args.self.now) i row e in
      absurd (omega (arith, from, short, length-buffered c.args.self.now, c.pending_rows-high.ensures.exact));
}

pub loop-low-preserved-then-key : goal.loop-low-preserved-then-key
loop-low-preserved-then-key g c = record {
  order = omega (arith, c.loop-low-test.true);
  within = c.loop-low.invariant.within;
  below = λ up. below-middle (buffered_rows c.args.self.now) _ c.args.key (row_of c.pending_row.result) up c.pending_row.ensures.row (omega (arith, c.if-key.true, c.key.ensures));
  at_least = c.loop-low.invariant.at_least;
}

pub loop-low-preserved : goal.loop-low-preserved
loop-low-preserved g c = record {
  order = omega (arith, c.loop-low.invariant.order);
  within = omega (arith, c.loop-low.invariant.order, c.loop-low.invariant.within);
  below = c.loop-low.invariant.below;
  at_least = λ up. above-middle (buffered_rows c.args.self.now) _ c.args.key (row_of c.pending_row.result) up c.pending_row.ensures.row (omega (arith, c.if-key.false, c.key.ensures));
}

pub returns-clause-at_least : goal.returns-clause-at_least
returns-clause-at_least g c = λ up i row from e. c.loop-low.invariant.at_least up i row (omega (arith, c.loop-low-test.false, c.loop-low.invariant.order, from)) e

pub pending_rows-high-requires : goal.pending_rows-high-requires
pending_rows-high-requires g c = table-fits g.row.KNOTS g.row.SLOTS c.args.self.now.few_knots c.args.self.now.few_slots
