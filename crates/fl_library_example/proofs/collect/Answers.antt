use Rattle.std.proofs.Common.{sym, subst}
use Rattle.fl_cursor.specs.Cursor.{IsReady}
use Rattle.fl_frame.specs.Contents.{Contents}
use Rattle.fl_library_example.proofs.collect.Goals as goal

pub loop-preserved : goal.loop-preserved
loop-preserved g c = record {
  ready = subst (λ (k : Contents). IsReady c.advance.new.self k) (sym c.advance.ensures.reads_only.contents) (c.in_ok-advance.ensures.goes.ready _ c.loop.invariant.ready);
  columns = rw c.in_ok-advance.ensures.goes.keeps.table c.loop.invariant.columns;
}
