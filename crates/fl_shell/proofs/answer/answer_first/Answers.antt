use Rattle.std.proofs.Common.{ℕ, List, Some, Ok, Err, Result, ◌∙◌, refl, subst}
use Rattle.fl_base.specs.Causes.{HasCause}
use Rattle.fl_base.specs.declared.stream.SinkFailed.{SinkFailed}
use Rattle.fl_session.specs.Execute.{Executes}
use Rattle.fl_script.specs.Written.{Written}
use Rattle.fl_shell.specs.Caused.{first_said}
use Rattle.fl_shell.specs.Heard.{Kept}
use Rattle.fl_shell.specs.Talk.{groups_of}
use Rattle.fl_shell.proofs.FirstKey.{first-heard, first-unheard}
use Rattle.fl_session.specs.Caused.{Caused}
use Rattle.fl_shell.proofs.answer.answer_first.Goals as goal

pub execute-executed-requires-clause-runnable : goal.execute-executed-requires-clause-runnable
execute-executed-requires-clause-runnable g c = record { within = refl; runs = refl }

pub returns-in-Ok-clause-first : goal.returns-in-Ok-clause-first
returns-in-Ok-clause-first g c = λ config m here.
    let E = g.E.Executor in
    let K = g.K.Sink in
    let x = c.execute-executed.new in
    let e = subst (λ (k : Kept). Executes {E = SinkFailed} config m (groups_of c.args.name) (E.stands x.self config) (E.flash c.args.session.now) (E.flash x.self) (Some k.text) (Some x.out.text) (Ok tt)) c.new-heard.ensures (c.in-Ok.ensures.step config m here) in
    first-heard {E = SinkFailed} config m c.args.name (E.stands x.self config) (E.flash c.args.session.now) (E.flash x.self) x.out (K.written c.args.out.now) (K.written c.write_first.new.out) c.write_first.result
    (g.met.E.Executor.tables_hold _ config m here) (g.met.E.Executor.keys_fit _ config m here) e (λ said short same. c.write_first.ensures.text said short (c.bytes-replies.ensures.text ∙ same))

pub returns-in-Err-clause-first : goal.returns-in-Err-clause-first
returns-in-Err-clause-first g c = λ config m here.
    let E = g.E.Executor in
    let x = c.execute-executed.new in
    let failed : Result (Unit {0}) SinkFailed = Err c.in-Err.field-0 in
    let e = subst (λ (k : Kept). Executes {E = SinkFailed} config m (groups_of c.args.name) (E.stands x.self config) (E.flash c.args.session.now) (E.flash x.self) (Some k.text) (Some x.out.text) failed) c.new-heard.ensures (c.in-Err.ensures.step config m here) in
    let cause = subst (λ (k : Kept). HasCause k.faults x.out.faults failed) c.new-heard.ensures c.in-Err.ensures.sink in
    absurd (first-unheard {T = Unit {0}} config m c.args.name (E.stands x.self config) (E.flash c.args.session.now) (E.flash x.self) x.out c.in-Err.field-0 (g.met.E.Executor.tables_hold _ config m here) (g.met.E.Executor.keys_fit _ config m here) e c.bytes-replies.ensures.full cause)

pub returns-in-Ok-clause-told : goal.returns-in-Ok-clause-told
returns-in-Ok-clause-told g c =
    let E = g.E.Executor in
    let x = c.execute-executed.new in
    record {
      said = x.out.text;
      asked = Ok tt;
      cause = subst (λ (k : Kept). Caused {E = SinkFailed} (groups_of c.args.name) (E.state c.args.session.now) (E.state x.self) (Some k.text) (Some x.out.text) (Ok tt)) c.new-heard.ensures c.in-Ok.ensures.cause;
      written = subst (λ (l : List ℕ). Written (g.K.Sink.written c.args.out.now) (g.K.Sink.written c.write_first.new.out) c.write_first.result (first_said l)) c.bytes-replies.ensures.text c.write_first.ensures.exact;
    }

pub returns-in-Err-clause-told : goal.returns-in-Err-clause-told
returns-in-Err-clause-told g c =
    let E = g.E.Executor in
    let x = c.execute-executed.new in
    record {
      said = x.out.text;
      asked = Err c.in-Err.field-0;
      cause = subst (λ (k : Kept). Caused {E = SinkFailed} (groups_of c.args.name) (E.state c.args.session.now) (E.state x.self) (Some k.text) (Some x.out.text) (Err c.in-Err.field-0)) c.new-heard.ensures c.in-Err.ensures.cause;
      written = c.write_all.ensures.text;
    }
