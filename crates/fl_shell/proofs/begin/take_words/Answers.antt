use Rattle.std.proofs.Common.{sym, subst}
use Rattle.fl_words.specs.Grammar.{command_of}
use Rattle.fl_shell.specs.Begin.{step_command}
use Rattle.fl_shell.specs.Leading.{TakesBy}
use Rattle.fl_shell.proofs.LeadingLines.{caused-on, refused-step, takes-on}
use Rattle.fl_shell.proofs.begin.take_words.Goals as goal

pub returns-in-Ok : goal.returns-in-Ok
returns-in-Ok g c = record {
  takes = subst (λ r. TakesBy c.args.config.now (step_command c.args.config.now r) c.take_command.result c.take_command.new.config (g.K.Sink.written c.args.out.now) (g.K.Sink.written c.take_command.new.out)) c.in-Ok.ensures.command c.take_command.ensures.takes;
  cause = c.take_command.ensures.cause;
}

pub returns-in-Err : goal.returns-in-Err
returns-in-Err g c =
    let K = g.K.Sink in
    let lines = c.args.config.now in
    let line = c.args.line.now in
    let refused = c.refuse_line.ensures.refuses _ (sym c.in-Err.ensures.command) in
    record {
      takes = takes-on lines lines (step_command lines (command_of line)) (K.written c.args.out.now) (K.written c.refuse_line.new.out) c.refuse_line.result c.goes_on.result c.goes_on.ensures
          (refused-step lines line _ (K.written c.args.out.now) (K.written c.refuse_line.new.out) c.refuse_line.result (sym c.in-Err.ensures.command) refused);
      cause = caused-on (K.faults c.args.out.now) (K.faults c.refuse_line.new.out) c.refuse_line.result c.goes_on.result c.goes_on.ensures c.refuse_line.ensures.cause;
    }
