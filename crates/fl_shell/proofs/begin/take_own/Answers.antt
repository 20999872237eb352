use Rattle.std.proofs.Common.{sym, subst}
use Rattle.fl_shell.specs.Begin.{step_asked}
use Rattle.fl_shell.specs.Leading.{TakesBy}
use Rattle.fl_shell.specs.OwnView.{own_view}
use Rattle.fl_shell.proofs.LeadingLines.{asked-other, caused-on, echo-step, misformed-step, takes-on}
use Rattle.fl_shell.proofs.begin.take_own.Goals as goal

pub returns-in-Echo : goal.returns-in-Echo
returns-in-Echo g c =
    let K = g.K.Sink in
    let lines = c.args.config.now in
    record {
      takes = takes-on lines lines (step_asked (own_view c.args.own.now)) (K.written c.args.out.now) (K.written c.write_line.new.out) c.write_line.result c.goes_on.result c.goes_on.ensures
          (echo-step lines c.args.own.now c.in-Echo.word (K.written c.args.out.now) (K.written c.write_line.new.out) c.write_line.result c.in-Echo.is c.write_line.ensures.text);
      cause = caused-on (K.faults c.args.out.now) (K.faults c.write_line.new.out) c.write_line.result c.goes_on.result c.goes_on.ensures c.write_line.ensures.cause;
    }

pub returns-in-Misformed : goal.returns-in-Misformed
returns-in-Misformed g c =
    let K = g.K.Sink in
    let lines = c.args.config.now in
    record {
      takes = takes-on lines lines (step_asked (own_view c.args.own.now)) (K.written c.args.out.now) (K.written c.refuse.new.out) c.refuse.result c.goes_on-in-Misformed.result c.goes_on-in-Misformed.ensures
          (misformed-step lines c.args.own.now (K.written c.args.out.now) (K.written c.refuse.new.out) c.refuse.result c.in-Misformed.is c.refuse.ensures.text);
      cause = caused-on (K.faults c.args.out.now) (K.faults c.refuse.new.out) c.refuse.result c.goes_on-in-Misformed.result c.goes_on-in-Misformed.ensures c.refuse.ensures.cause;
    }

pub returns-in_default : goal.returns-in_default
returns-in_default g c = record {
  takes = subst (λ s. TakesBy c.args.config.now s c.end_with.result c.args.config.now (g.K.Sink.written c.args.out.now) (g.K.Sink.written c.end_with.new.out)) (sym (asked-other c.args.own.now (λ word e. c.in_default.not-Echo word e) (λ form e. c.in_default.not-Misformed form e))) c.end_with.ensures.takes;
  cause = c.end_with.ensures.cause;
}
