use Rattle.std.proofs.Common.{◌≡◌, false, None, Ok, refl, sym, subst}
use Rattle.fl_base.specs.declared.stream.SinkFailed.{SinkFailed}
use Rattle.fl_words.specs.Grammar.{command_of}
use Rattle.fl_reason.specs.Reason.{Explains, configures}
use Rattle.fl_script.specs.CommandView.{command_view}
use Rattle.fl_shell.proofs.Runnable.{to_run}
use Rattle.fl_shell.proofs.LineAnswer.{refused-turn, ran-turn, refused-none, runs-some, no-fault}
use Rattle.fl_shell.specs.Caused.{CausedRun}
use Rattle.fl_shell.proofs.answer.answer_command.Goals as goal

pub execute-requires-clause-runnable : goal.execute-requires-clause-runnable
execute-requires-clause-runnable g c =
    let line = c.args.line.now in
    let command = command_view c.in-Ok.command c.read_line.new.into in
    let e : Explains (command_of line) None = subst (λ r. Explains (command_of line) r) c.in_default.is c.line_reason.ensures in
    let reads : command_of line ≡ Ok command = sym c.in-Ok.ensures.command in
    let same : e.0 ≡ command = cc (e.1, reads) in
    (to_run line command reads (subst (λ x. configures x ≡ false) same e.2)).runnable

pub returns-in-Some-clause-turn : goal.returns-in-Some-clause-turn
returns-in-Some-clause-turn g c = λ config m own here.
    refused-turn config m c.args.line.now _ _ _ _ _ own (refused-none c.args.line.now c.in-Some.reason (subst (λ r. Explains (command_of c.args.line.now) r) c.in-Some.is c.line_reason.ensures)) here c.refuse.ensures.text

pub returns-in-Ok-clause-turn : goal.returns-in-Ok-clause-turn
returns-in-Ok-clause-turn g c = λ config m own here.
    let line = c.args.line.now in
    let command = command_view c.in-Ok.command c.read_line.new.into in
    let e : Explains (command_of line) None = subst (λ r. Explains (command_of line) r) c.in_default.is c.line_reason.ensures in
    let reads : command_of line ≡ Ok command = sym c.in-Ok.ensures.command in
    let same : e.0 ≡ command = cc (e.1, reads) in
    ran-turn config m line command _ _ _ _ _ _ own (runs-some line command reads (to_run line command reads (subst (λ x. configures x ≡ false) same e.2)).runnable.runs) (c.execute.ensures.step config m here)

pub returns-in-Err-clause-turn : goal.returns-in-Err-clause-turn
returns-in-Err-clause-turn g c = λ config m own here.
    let e : Explains (command_of c.args.line.now) None = subst (λ r. Explains (command_of c.args.line.now) r) c.in_default.is c.line_reason.ensures in
    no-fault c.args.line.now _ e (sym c.in-Err.ensures.command)

pub returns-in-Some-clause-told : goal.returns-in-Some-clause-told
returns-in-Some-clause-told g c =
    let E = g.E.Executor in
    let none = refused-none c.args.line.now c.in-Some.reason (subst (λ r. Explains (command_of c.args.line.now) r) c.in-Some.is c.line_reason.ensures) in
    subst (λ o. CausedRun {E = SinkFailed} o (E.state c.args.session.now) (E.state c.args.session.now) (g.K.Sink.written c.args.out.now) (g.K.Sink.written c.refuse.new.out) c.refuse.result) (sym none) (c.refuse.ensures.text, refl)

pub returns-in-Ok-clause-told : goal.returns-in-Ok-clause-told
returns-in-Ok-clause-told g c =
    let E = g.E.Executor in
    let line = c.args.line.now in
    let command = command_view c.in-Ok.command c.read_line.new.into in
    let e : Explains (command_of line) None = subst (λ r. Explains (command_of line) r) c.in_default.is c.line_reason.ensures in
    let reads : command_of line ≡ Ok command = sym c.in-Ok.ensures.command in
    let same : e.0 ≡ command = cc (e.1, reads) in
    let run = runs-some line command reads (to_run line command reads (subst (λ x. configures x ≡ false) same e.2)).runnable.runs in
    subst (λ o. CausedRun {E = SinkFailed} o (E.state c.args.session.now) (E.state c.execute.new.self) (g.K.Sink.written c.args.out.now) (g.K.Sink.written c.execute.new.out) c.execute.result) (sym run) c.execute.ensures.cause

pub returns-in-Err-clause-told : goal.returns-in-Err-clause-told
returns-in-Err-clause-told g c =
    let e : Explains (command_of c.args.line.now) None = subst (λ r. Explains (command_of c.args.line.now) r) c.in_default.is c.line_reason.ensures in
    no-fault c.args.line.now _ e (sym c.in-Err.ensures.command)
