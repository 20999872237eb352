use Rattle.std.proofs.Common.{refl, arith, le_trans}
use Rattle.fl_base.proofs.Risen.{rose-back}
use Rattle.fl_frame.proofs.CallsInTurn.{goes-same, stays, stays-then}
use Rattle.fl_session.proofs.CausesInTurn.{caused-into, caused-next}
use Rattle.fl_session.proofs.FailedReads.{done-write, read-commands, read-failed, read-script, script-pending, script-rows, script-write, unread}
use Rattle.fl_session.proofs.Nexts.{runs-runnable}
use Rattle.fl_session.proofs.Loops.{in_hand-first, all_done-next, ends-in_reply, then-in_hand, then-done, then-ends}
use Rattle.fl_session.proofs.RanTo.{ran_to-all, ran_to-into, ran_to-next, ran_to-none}
use Rattle.fl_session.proofs.commands.run_commands.Goals as goal

pub lines-init : goal.lines-init
lines-init g c = record {
  numbered = c.requires.numbered;
  reads = c.requires.reads;
  source_later = omega arith;
  sink_later = omega arith;
  sound = c.requires.sound;
  goes = stays _ _ (goes-same _);
  runs = λ config left e ended. in_hand-first _ _ _ left _ (ran_to-none config _ (g.T.Executor.flash c.args.session.now) _ c.requires.unread) e ended refl refl refl refl refl;
  causes = λ left e ended. in_hand-first _ _ _ left _ (refl, refl) e ended refl refl refl refl refl;
}

pub returns-in-Err-clause-runs : goal.returns-in-Err-clause-runs
returns-in-Err-clause-runs g c = λ config left e ended.
    ends-in_reply _ _ _ _ _ _ _ (c.lines.invariant.runs config left e ended) (runs-runnable _ _ c.lines.invariant.reads)
    (ran_to-into config _ _ _ _ (g.T.Executor.flash c.args.session.now) (g.T.Executor.flash c.lines.session) (g.T.Executor.flash c.execute.new.self) _ _ _ _ c.in-Err.field-0 c.in-Err.is (record { hold = g.met.T.Executor.tables_hold _ config; later = c.execute.ensures.goes.faults; executes = c.execute.ensures.step config }) (record { goes = stays-then _ _ _ c.lines.invariant.goes c.execute.ensures.goes; device = g.met.T.Executor.same_device _ config }))

pub returns-in-Err-clause-causes : goal.returns-in-Err-clause-causes
returns-in-Err-clause-causes g c = λ left e ended.
    ends-in_reply _ _ _ _ _ _ _ (c.lines.invariant.causes left e ended) (runs-runnable _ _ c.lines.invariant.reads)
    (caused-into _ _ _ _ _ _ _ _ c.in-Err.field-0 c.in-Err.is (g.T.Executor.is_powered _ c.lines.invariant.sound) c.execute.ensures.cause)

pub overflow_add-line : goal.overflow_add-line
overflow_add-line g c = omega (arith, c.lines.invariant.numbered)

pub lines-preserved : goal.lines-preserved
lines-preserved g c =
    let n = rw c.in-Ok-Some.field-0-is at c.in-Ok-Some.ensures in
    let shrinks = n.advances.shrinks n.next.0 in
    let runnable = runs-runnable _ _ c.lines.invariant.reads in
    record {
      numbered = omega (arith, c.lines.invariant.numbered, shrinks);
      reads = n.next.1;
      source_later = le_trans c.lines.invariant.source_later n.advances.later;
      sink_later = le_trans c.lines.invariant.sink_later c.execute.ensures.sink.later;
      sound = c.execute.ensures.sound;
      goes = stays-then _ _ _ c.lines.invariant.goes c.execute.ensures.goes;
      runs = λ config left e ended.
          then-in_hand _ _ _ _ _ _ _ _ _ _ _
          (all_done-next _ _ _ _ _ _ _ (c.lines.invariant.runs config left e ended) runnable (omega (arith, c.lines.invariant.numbered))
          (ran_to-next config _ _ _ _ (g.T.Executor.flash c.args.session.now) (g.T.Executor.flash c.lines.session) (g.T.Executor.flash c.execute.new.self) _ _ _ _ c.in-Ok.is (record { hold = g.met.T.Executor.tables_hold _ config; later = c.execute.ensures.goes.faults; executes = c.execute.ensures.step config })))
          n;
      causes = λ left e ended.
          then-in_hand _ _ _ _ _ _ _ _ _ _ _
          (all_done-next _ _ _ _ _ _ _ (c.lines.invariant.causes left e ended) runnable (omega (arith, c.lines.invariant.numbered))
          (λ commands few h. caused-next _ _ _ _ _ _ _ _ c.in-Ok.is (g.T.Executor.is_powered _ c.lines.invariant.sound) c.execute.ensures.cause commands h))
          n;
    }

pub returns-in-Ok-None-clause-runs : goal.returns-in-Ok-None-clause-runs
returns-in-Ok-None-clause-runs g c = λ config left e ended.
    then-done _ _ _ _ _ _ _ _ _ _
    (all_done-next _ _ _ _ _ _ _ (c.lines.invariant.runs config left e ended) (runs-runnable _ _ c.lines.invariant.reads) (omega (arith, c.lines.invariant.numbered))
    (ran_to-all config _ _ _ _ (g.T.Executor.flash c.args.session.now) (g.T.Executor.flash c.lines.session) (g.T.Executor.flash c.execute.new.self) _ _ _ _ c.in-Ok.is (record { hold = g.met.T.Executor.tables_hold _ config; later = c.execute.ensures.goes.faults; executes = c.execute.ensures.step config }) (record { goes = stays-then _ _ _ c.lines.invariant.goes c.execute.ensures.goes; device = g.met.T.Executor.same_device _ config })))
    (rw c.in-Ok-None.field-0-is at c.in-Ok-None.ensures)

pub returns-in-Ok-None-clause-causes : goal.returns-in-Ok-None-clause-causes
returns-in-Ok-None-clause-causes g c = λ left e ended.
    then-done _ _ _ _ _ _ _ _ _ _
    (all_done-next _ _ _ _ _ _ _ (c.lines.invariant.causes left e ended) (runs-runnable _ _ c.lines.invariant.reads) (omega (arith, c.lines.invariant.numbered))
    (λ commands few h. caused-next _ _ _ _ _ _ _ _ c.in-Ok.is (g.T.Executor.is_powered _ c.lines.invariant.sound) c.execute.ensures.cause commands h))
    (rw c.in-Ok-None.field-0-is at c.in-Ok-None.ensures)

pub returns-in-Err-next_run-clause-runs : goal.returns-in-Err-next_run-clause-runs
returns-in-Err-next_run-clause-runs g c = λ config left e ended.
    then-ends _ _ _ _ _ _ _ _ _ _ _ c.in-Err-next_run.status
    (all_done-next _ _ _ _ _ _ _ (c.lines.invariant.runs config left e ended) (runs-runnable _ _ c.lines.invariant.reads) (omega (arith, c.lines.invariant.numbered))
    (ran_to-all config _ _ _ _ (g.T.Executor.flash c.args.session.now) (g.T.Executor.flash c.lines.session) (g.T.Executor.flash c.execute.new.self) _ _ _ _ c.in-Ok.is (record { hold = g.met.T.Executor.tables_hold _ config; later = c.execute.ensures.goes.faults; executes = c.execute.ensures.step config }) (record { goes = stays-then _ _ _ c.lines.invariant.goes c.execute.ensures.goes; device = g.met.T.Executor.same_device _ config })))
    c.in-Err-next_run.ensures

pub returns-in-Err-next_run-clause-causes : goal.returns-in-Err-next_run-clause-causes
returns-in-Err-next_run-clause-causes g c = λ left e ended.
    then-ends _ _ _ _ _ _ _ _ _ _ _ c.in-Err-next_run.status
    (all_done-next _ _ _ _ _ _ _ (c.lines.invariant.causes left e ended) (runs-runnable _ _ c.lines.invariant.reads) (omega (arith, c.lines.invariant.numbered))
    (λ commands few h. caused-next _ _ _ _ _ _ _ _ c.in-Ok.is (g.T.Executor.is_powered _ c.lines.invariant.sound) c.execute.ensures.cause commands h))
    c.in-Err-next_run.ensures

pub execute-requires : goal.execute-requires
execute-requires g c = record { sound = c.lines.invariant.sound; runnable = c.lines.invariant.reads.runnable }

-- ---- what the status tells where the sink failed

pub returns-in-Err-clause-tells : goal.returns-in-Err-clause-tells
returns-in-Err-clause-tells g c = λ config m h. tt

pub returns-in-Err-clause-rows : goal.returns-in-Err-clause-rows
returns-in-Err-clause-rows g c = tt

pub returns-in-Err-clause-read : goal.returns-in-Err-clause-read
returns-in-Err-clause-read g c = λ e. absurd (unread _ e (λ h. h))

pub returns-in-Err-clause-write : goal.returns-in-Err-clause-write
returns-in-Err-clause-write g c = λ e. rose-back _ _ _ c.lines.invariant.sink_later c.in-Err.ensures.sink.failed

pub returns-in-Err-clause-statuses : goal.returns-in-Err-clause-statuses
returns-in-Err-clause-statuses g c = tt

pub returns-in-Err-clause-later : goal.returns-in-Err-clause-later
returns-in-Err-clause-later g c = (c.lines.invariant.source_later, le_trans c.lines.invariant.sink_later c.execute.ensures.sink.later)

pub returns-in-Err-clause-goes : goal.returns-in-Err-clause-goes
returns-in-Err-clause-goes g c = stays-then _ _ _ c.lines.invariant.goes c.execute.ensures.goes

-- .. where the script ended

pub returns-in-Ok-None-clause-tells : goal.returns-in-Ok-None-clause-tells
returns-in-Ok-None-clause-tells g c = c.pending.ensures.holds

pub returns-in-Ok-None-clause-rows : goal.returns-in-Ok-None-clause-rows
returns-in-Ok-None-clause-rows g c = c.pending.ensures.cause

pub returns-in-Ok-None-clause-read : goal.returns-in-Ok-None-clause-read
returns-in-Ok-None-clause-read g c = λ e. absurd (unread _ e (λ h. h))

pub returns-in-Ok-None-clause-write : goal.returns-in-Ok-None-clause-write
returns-in-Ok-None-clause-write g c = λ e. absurd (done-write _ e)

pub returns-in-Ok-None-clause-statuses : goal.returns-in-Ok-None-clause-statuses
returns-in-Ok-None-clause-statuses g c = tt

pub returns-in-Ok-None-clause-later : goal.returns-in-Ok-None-clause-later
returns-in-Ok-None-clause-later g c = (le_trans c.lines.invariant.source_later c.next_run.ensures.advances.later, le_trans c.lines.invariant.sink_later c.execute.ensures.sink.later)

pub returns-in-Ok-None-clause-goes : goal.returns-in-Ok-None-clause-goes
returns-in-Ok-None-clause-goes g c = stays-then _ _ _ c.lines.invariant.goes c.execute.ensures.goes

-- .. and where a line isn't read

pub returns-in-Err-next_run-clause-tells : goal.returns-in-Err-next_run-clause-tells
returns-in-Err-next_run-clause-tells g c = λ config m h.
    let n = c.in-Err-next_run.ensures in
    script-pending c.in-Err-next_run.status (read-script n.given _ _ _ c.in-Err-next_run.status n.next) config m

pub returns-in-Err-next_run-clause-rows : goal.returns-in-Err-next_run-clause-rows
returns-in-Err-next_run-clause-rows g c =
    let n = c.in-Err-next_run.ensures in
    script-rows c.in-Err-next_run.status (read-script n.given _ _ _ c.in-Err-next_run.status n.next) (g.T.Executor.state c.execute.new.self)

pub returns-in-Err-next_run-clause-read : goal.returns-in-Err-next_run-clause-read
returns-in-Err-next_run-clause-read g c = λ e.
    let n = c.in-Err-next_run.ensures in
    rose-back _ _ _ c.lines.invariant.source_later (n.advances.failed (read-failed n.given _ _ _ c.in-Err-next_run.status n.next e))

pub returns-in-Err-next_run-clause-write : goal.returns-in-Err-next_run-clause-write
returns-in-Err-next_run-clause-write g c = λ e.
    let n = c.in-Err-next_run.ensures in
    absurd (script-write c.in-Err-next_run.status (read-script n.given _ _ _ c.in-Err-next_run.status n.next) e)

pub returns-in-Err-next_run-clause-statuses : goal.returns-in-Err-next_run-clause-statuses
returns-in-Err-next_run-clause-statuses g c =
    let n = c.in-Err-next_run.ensures in
    read-commands n.given _ _ _ c.in-Err-next_run.status n.next

pub returns-in-Err-next_run-clause-later : goal.returns-in-Err-next_run-clause-later
returns-in-Err-next_run-clause-later g c = (le_trans c.lines.invariant.source_later c.in-Err-next_run.ensures.advances.later, le_trans c.lines.invariant.sink_later c.execute.ensures.sink.later)

pub returns-in-Err-next_run-clause-goes : goal.returns-in-Err-next_run-clause-goes
returns-in-Err-next_run-clause-goes g c = stays-then _ _ _ c.lines.invariant.goes c.execute.ensures.goes
