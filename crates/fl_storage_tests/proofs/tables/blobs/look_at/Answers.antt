use Rattle.fl_frame.proofs.CallsInTurn.{stays-then}
use Rattle.fl_table.proofs.ReadsKeepTable.{lies-still}
use Rattle.fl_storage_tests.proofs.tables.blobs.look_at.Goals as goal

pub returns-in_default-step-clause-goes : goal.returns-in_default-step-clause-goes
returns-in_default-step-clause-goes g c =
    stays-then (g.F.Flash.state c.args.flash.now) (g.F.Flash.state c.blob_at.new.flash) (g.F.Flash.state c.step.new.flash) c.blob_at.ensures.reads.goes
    (stays-then (g.F.Flash.state c.blob_at.new.flash) (g.F.Flash.state c.loop.flash) (g.F.Flash.state c.step.new.flash) c.loop.invariant.goes c.step.ensures.reads.goes)

pub returns-in_default-step-clause-lies : goal.returns-in_default-step-clause-lies
returns-in_default-step-clause-lies g c = lies-still c.args.table.now (g.F.Flash.state c.loop.flash) (g.F.Flash.state c.step.new.flash) 1 c.step.ensures.reads c.loop.invariant.lies

pub returns-then-is_empty-clause-goes : goal.returns-then-is_empty-clause-goes
returns-then-is_empty-clause-goes g c =
    stays-then (g.F.Flash.state c.args.flash.now) (g.F.Flash.state c.blob_at.new.flash) (g.F.Flash.state c.step.new.flash) c.blob_at.ensures.reads.goes
    (stays-then (g.F.Flash.state c.blob_at.new.flash) (g.F.Flash.state c.loop.flash) (g.F.Flash.state c.step.new.flash) c.loop.invariant.goes c.step.ensures.reads.goes)

pub returns-then-is_empty-clause-lies : goal.returns-then-is_empty-clause-lies
returns-then-is_empty-clause-lies g c = lies-still c.args.table.now (g.F.Flash.state c.loop.flash) (g.F.Flash.state c.step.new.flash) 1 c.step.ensures.reads c.loop.invariant.lies

pub returns-in_default-strip_prefix-clause-goes : goal.returns-in_default-strip_prefix-clause-goes
returns-in_default-strip_prefix-clause-goes g c =
    stays-then (g.F.Flash.state c.args.flash.now) (g.F.Flash.state c.blob_at.new.flash) (g.F.Flash.state c.step.new.flash) c.blob_at.ensures.reads.goes
    (stays-then (g.F.Flash.state c.blob_at.new.flash) (g.F.Flash.state c.loop.flash) (g.F.Flash.state c.step.new.flash) c.loop.invariant.goes c.step.ensures.reads.goes)

pub returns-in_default-strip_prefix-clause-lies : goal.returns-in_default-strip_prefix-clause-lies
returns-in_default-strip_prefix-clause-lies g c = lies-still c.args.table.now (g.F.Flash.state c.loop.flash) (g.F.Flash.state c.step.new.flash) 1 c.step.ensures.reads c.loop.invariant.lies

pub loop-preserved : goal.loop-preserved
loop-preserved g c = record {
  goes = stays-then (g.F.Flash.state c.blob_at.new.flash) (g.F.Flash.state c.loop.flash) (g.F.Flash.state c.step.new.flash) c.loop.invariant.goes c.step.ensures.reads.goes;
  lies = lies-still c.args.table.now (g.F.Flash.state c.loop.flash) (g.F.Flash.state c.step.new.flash) 1 c.step.ensures.reads c.loop.invariant.lies;
  held = c.step.ensures.lies;
}
