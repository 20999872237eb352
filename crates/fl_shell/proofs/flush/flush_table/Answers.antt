use Rattle.std.proofs.Common.{Some, Ok, Err, Result, refl, ◌∙◌, ap, subst}
use Rattle.fl_base.specs.Causes.{HasCause}
use Rattle.fl_base.specs.declared.stream.SinkFailed.{SinkFailed}
use Rattle.fl_model.specs.Record.{bytes_equal}
use Rattle.fl_words.specs.Command as command
use Rattle.fl_words.specs.Reply as reply
use Rattle.fl_words.specs.Reply.{text}
use Rattle.fl_session.specs.Execute.{Executes}
use Rattle.fl_shell.specs.Heard.{Kept}
use Rattle.fl_shell.proofs.TableFlushes.{flushed-one, flush-heard}
use Rattle.fl_session.specs.Caused.{Caused}
use Rattle.fl_shell.proofs.flush.flush_table.Goals as goal

pub returns-in-Ok-clause-flushes : goal.returns-in-Ok-clause-flushes
returns-in-Ok-clause-flushes g c = λ config m here.
    let E = g.E.Executor in
    let x = c.execute-executed.new in
    let e = subst (λ (k : Kept). Executes {E = SinkFailed} config m (command.Flush c.args.name) (E.stands x.self config) (E.flash c.args.session.now) (E.flash x.self) (Some k.text) (Some x.out.text) (Ok tt)) c.new-heard.ensures (c.in-Ok.ensures.step config m here) in
    flushed-one config m c.args.name (E.stands x.self config) (E.flash c.args.session.now) (E.flash x.self) x.out c.is.result e (c.is.ensures ∙ ap (λ t. bytes_equal t (text reply.Done)) c.bytes-answer.ensures.text)

pub returns-in-Err-clause-flushes : goal.returns-in-Err-clause-flushes
returns-in-Err-clause-flushes g c = λ config m here.
    let E = g.E.Executor in
    let x = c.execute-executed.new in
    let failed : Result (Unit {0}) SinkFailed = Err c.in-Err.field-0 in
    let e = subst (λ (k : Kept). Executes {E = SinkFailed} config m (command.Flush c.args.name) (E.stands x.self config) (E.flash c.args.session.now) (E.flash x.self) (Some k.text) (Some x.out.text) failed) c.new-heard.ensures (c.in-Err.ensures.step config m here) in
    let cause = subst (λ (k : Kept). HasCause k.faults x.out.faults failed) c.new-heard.ensures c.in-Err.ensures.sink in
    absurd (flush-heard {T = Unit {0}} config m c.args.name (E.stands x.self config) (E.flash c.args.session.now) (E.flash x.self) x.out c.in-Err.field-0 e c.bytes-answer.ensures.full cause)

pub returns-in-Ok-clause-told : goal.returns-in-Ok-clause-told
returns-in-Ok-clause-told g c =
    let E = g.E.Executor in
    let x = c.execute-executed.new in
    record {
      said = x.out.text;
      asked = Ok tt;
      cause = subst (λ (k : Kept). Caused {E = SinkFailed} (command.Flush c.args.name) (E.state c.args.session.now) (E.state x.self) (Some k.text) (Some x.out.text) (Ok tt)) c.new-heard.ensures c.in-Ok.ensures.cause;
      done_is = c.is.ensures ∙ ap (λ t. bytes_equal t (text reply.Done)) c.bytes-answer.ensures.text;
    }

pub returns-in-Err-clause-told : goal.returns-in-Err-clause-told
returns-in-Err-clause-told g c =
    let E = g.E.Executor in
    let x = c.execute-executed.new in
    record {
      said = x.out.text;
      asked = Err c.in-Err.field-0;
      cause = subst (λ (k : Kept). Caused {E = SinkFailed} (command.Flush c.args.name) (E.state c.args.session.now) (E.state x.self) (Some k.text) (Some x.out.text) (Err c.in-Err.field-0)) c.new-heard.ensures c.in-Err.ensures.cause;
      done_is = refl;
    }
