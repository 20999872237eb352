use Rattle.std.proofs.Common.{◌≡◌, None, Some, ap, sym, ◌∙◌}
use Rattle.std.specs.Prelude.{option_map}
use Rattle.fl_shell.specs.Own.{own_of}
use Rattle.fl_shell.specs.OwnView.{own_view}
use Rattle.fl_shell.proofs.CausedLines.{line-as}
use Rattle.fl_shell.proofs.LineAnswer.{turn-for}
use Rattle.fl_shell.proofs.answer.answer.Goals as goal

pub answer_own-requires : goal.answer_own-requires
answer_own-requires g c = record { sound = c.requires.sound; whole = c.requires.whole }

pub returns-in-None : goal.returns-in-None
returns-in-None g c = record {
  sound = c.answer_command.ensures.sound;
  goes = c.answer_command.ensures.goes;
  cause = c.answer_command.ensures.cause;
  told = line-as _ _ _ _ _ c.args.line.now None (sym c.own_of.ensures ∙ ap (option_map own_view) c.in-None.is) c.answer_command.ensures.told;
  turn = λ configured m makes here.
      let own_is : own_of c.args.line.now ≡ None = sym c.own_of.ensures ∙ ap (option_map own_view) c.in-None.is in
      turn-for configured m c.args.line.now None _ _ _ _ _ _ own_is (c.answer_command.ensures.turn configured m own_is here);
}

pub returns-in-Some : goal.returns-in-Some
returns-in-Some g c = record {
  sound = c.answer_own.ensures.sound;
  goes = c.answer_own.ensures.goes;
  cause = c.answer_own.ensures.cause;
  told = line-as _ _ _ _ _ c.args.line.now (Some (own_view c.in-Some.own)) (sym c.own_of.ensures ∙ ap (option_map own_view) c.in-Some.is) (c.answer_own.ensures.told c.args.line.now);
  turn = λ configured m makes here.
      let own_is : own_of c.args.line.now ≡ Some (own_view c.in-Some.own) = sym c.own_of.ensures ∙ ap (option_map own_view) c.in-Some.is in
      turn-for configured m c.args.line.now (Some (own_view c.in-Some.own)) _ _ _ _ _ _ own_is (c.answer_own.ensures.turn configured m c.args.line.now makes own_is here);
}
