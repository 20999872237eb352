use Rattle.std.proofs.Common.{refl, arith}
use Rattle.fl_session.proofs.NextCommand.{ran-none}
use Rattle.fl_session.proofs.whole_run.run_first.Goals as goal

pub returns-in-Some-clause-runs : goal.returns-in-Some-clause-runs
returns-in-Some-clause-runs g c = λ configured. rw c.in-Some.is (λ left e ended. c.run_commands.ensures.runs configured left e ended)

pub returns-in-Some-clause-causes : goal.returns-in-Some-clause-causes
returns-in-Some-clause-causes g c = rw c.in-Some.is (λ left e ended. c.run_commands.ensures.causes left e ended)

pub returns-in-None-clause-runs : goal.returns-in-None-clause-runs
returns-in-None-clause-runs g c = λ configured.
    rw c.in-None.is (record { pending = c.pending.result; done = refl; untaken = refl; runs = λ old s ready. (ran-none configured old _ _ _ _ s, λ low. omega arith) })

pub returns-in-None-clause-causes : goal.returns-in-None-clause-causes
returns-in-None-clause-causes g c = rw c.in-None.is (record { pending = c.pending.result; done = refl; untaken = refl; runs = (refl, refl) })

pub returns-in-Some-clause-tells : goal.returns-in-Some-clause-tells
returns-in-Some-clause-tells g c = c.run_commands.ensures.tells

pub returns-in-Some-clause-rows : goal.returns-in-Some-clause-rows
returns-in-Some-clause-rows g c = c.run_commands.ensures.rows

pub returns-in-Some-clause-goes : goal.returns-in-Some-clause-goes
returns-in-Some-clause-goes g c = c.run_commands.ensures.goes

pub returns-in-Some-clause-read : goal.returns-in-Some-clause-read
returns-in-Some-clause-read g c = c.run_commands.ensures.read

pub returns-in-Some-clause-write : goal.returns-in-Some-clause-write
returns-in-Some-clause-write g c = c.run_commands.ensures.write

pub returns-in-Some-clause-statuses : goal.returns-in-Some-clause-statuses
returns-in-Some-clause-statuses g c = c.run_commands.ensures.statuses

pub returns-in-Some-clause-later : goal.returns-in-Some-clause-later
returns-in-Some-clause-later g c = c.run_commands.ensures.later
