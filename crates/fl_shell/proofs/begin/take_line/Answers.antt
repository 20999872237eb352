use Rattle.std.proofs.Common.{◌≡◌, None, Some, ap, sym, ◌∙◌, subst}
use Rattle.std.specs.Prelude.{option_map}
use Rattle.fl_shell.specs.Begin.{step_own}
use Rattle.fl_shell.specs.Leading.{TakesBy}
use Rattle.fl_shell.specs.Own.{own_of}
use Rattle.fl_shell.specs.OwnView.{own_view}
use Rattle.fl_shell.proofs.begin.take_line.Goals as goal

pub returns-in-None : goal.returns-in-None
returns-in-None g c =
    let line = c.args.line.now in
    let is : own_of line ≡ None = sym c.own_of.ensures ∙ ap (option_map own_view) c.in-None.is in
    record {
      takes = subst (λ o. TakesBy c.args.config.now (step_own c.args.config.now o line) c.take_words.result c.take_words.new.config (g.K.Sink.written c.args.out.now) (g.K.Sink.written c.take_words.new.out)) (sym is) c.take_words.ensures.takes;
      cause = c.take_words.ensures.cause;
    }

pub returns-in-Some : goal.returns-in-Some
returns-in-Some g c =
    let line = c.args.line.now in
    let is : own_of line ≡ Some (own_view c.in-Some.own) = sym c.own_of.ensures ∙ ap (option_map own_view) c.in-Some.is in
    record {
      takes = subst (λ o. TakesBy c.args.config.now (step_own c.args.config.now o line) c.take_own.result c.args.config.now (g.K.Sink.written c.args.out.now) (g.K.Sink.written c.take_own.new.out)) (sym is) c.take_own.ensures.takes;
      cause = c.take_own.ensures.cause;
    }
