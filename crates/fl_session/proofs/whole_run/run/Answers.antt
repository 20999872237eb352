use Rattle.std.proofs.Common.{◌≡◌, None, map, string_bytes, rules}
use Rattle.fl_session.specs.Words.{image_named}
use Rattle.fl_session.proofs.CompleteRuns.{completes}
use Rattle.fl_session.proofs.whole_run.run.Goals as goal

pub returns-clause-complete : goal.returns-clause-complete
returns-clause-complete g c = λ text config commands told l place named own s k m.
    completes 64 text config commands _ c.run_script.result (c.run_script.ensures.ends text told l) place own c.run_script.ensures.words
    (λ e. s (c.run_script.ensures.read e)) (λ e. k (c.run_script.ensures.write e)) (λ e. m (c.run_script.ensures.make e))

pub returns-then-is_none-clause-complete : goal.returns-then-is_none-clause-complete
returns-then-is_none-clause-complete g c =
    let none : image_named (map (λ word. string_bytes word) c.args.words.now) ≡ None = search rules in
    λ text config commands told l place named own s k m. absurd (named none)

pub returns-clause-run : goal.returns-clause-run
returns-clause-run g c = c.run_script.ensures.ends

pub returns-clause-script : goal.returns-clause-script
returns-clause-script g c = c.run_script.ensures.script

pub returns-clause-causes : goal.returns-clause-causes
returns-clause-causes g c = c.run_script.ensures.causes

pub returns-clause-read : goal.returns-clause-read
returns-clause-read g c = c.run_script.ensures.read

pub returns-clause-write : goal.returns-clause-write
returns-clause-write g c = c.run_script.ensures.write

pub returns-clause-make : goal.returns-clause-make
returns-clause-make g c = c.run_script.ensures.make

pub returns-clause-early : goal.returns-clause-early
returns-clause-early g c = c.run_script.ensures.early

pub returns-clause-goes : goal.returns-clause-goes
returns-clause-goes g c = c.run_script.ensures.goes

pub returns-clause-later : goal.returns-clause-later
returns-clause-later g c = c.run_script.ensures.later
