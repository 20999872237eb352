use Rattle.std.proofs.Common.{ap, refl}
use Rattle.fl_frame.proofs.CallsInTurn.{goes-same, stays}
use Rattle.fl_shell.specs.Own.{Echo, First, Last, Describe, Misformed}
use Rattle.fl_shell.specs.OwnView.{own_view}
use Rattle.fl_shell.specs.Refusal.{line_of}
use Rattle.fl_shell.specs.Talk.{last_text}
use Rattle.fl_shell.proofs.CausedLines.{own-as}
use Rattle.fl_shell.proofs.LineAnswer.{turn-as, silent-turn, first-turn, describe-turn}
use Rattle.fl_shell.proofs.answer.answer_own.Goals as goal

pub returns-in-Echo : goal.returns-in-Echo
returns-in-Echo g c = record {
  sound = c.requires.sound;
  goes = stays _ _ (goes-same _);
  cause = c.write_line.ensures.cause;
  told = λ line. own-as _ _ _ _ _ (own_view c.args.own.now) (Echo c.in-Echo.word.now) line (ap own_view c.in-Echo.is) (c.write_line.ensures.text, refl);
  turn = λ configured m line makes own_is here.
      turn-as configured m line (own_view c.args.own.now) (Echo c.in-Echo.word.now) _ _ _ _ _ _ (ap own_view c.in-Echo.is) own_is
      (λ is. silent-turn configured m line (Echo c.in-Echo.word.now) _ _ _ _ _ (line_of c.in-Echo.word.now) is refl (refl, refl) here c.write_line.ensures.text);
}

pub returns-in-First : goal.returns-in-First
returns-in-First g c = record {
  sound = c.answer_first.ensures.sound;
  goes = c.answer_first.ensures.goes;
  cause = c.answer_first.ensures.cause;
  told = λ line. own-as _ _ _ _ _ (own_view c.args.own.now) (First c.in-First.name) line (ap own_view c.in-First.is) c.answer_first.ensures.told;
  turn = λ configured m line makes own_is here.
      turn-as configured m line (own_view c.args.own.now) (First c.in-First.name) _ _ _ _ _ _ (ap own_view c.in-First.is) own_is
      (λ is. first-turn configured m line c.in-First.name _ _ _ _ _ _ is (c.answer_first.ensures.first configured m here));
}

pub returns-in-Last : goal.returns-in-Last
returns-in-Last g c = record {
  sound = c.requires.sound;
  goes = stays _ _ (goes-same _);
  cause = c.answer_last.ensures.cause;
  told = λ line. own-as _ _ _ _ _ (own_view c.args.own.now) (Last c.in-Last.name) line (ap own_view c.in-Last.is) (c.answer_last.ensures.told, refl);
  turn = λ configured m line makes own_is here.
      turn-as configured m line (own_view c.args.own.now) (Last c.in-Last.name) _ _ _ _ _ _ (ap own_view c.in-Last.is) own_is
      (λ is. silent-turn configured m line (Last c.in-Last.name) _ _ _ _ _ (last_text configured m c.in-Last.name) is refl (refl, refl) here (c.answer_last.ensures.text configured m here));
}

pub returns-in-Describe : goal.returns-in-Describe
returns-in-Describe g c = record {
  sound = c.describe.ensures.sound;
  goes = c.describe.ensures.goes;
  cause = c.describe.ensures.cause;
  told = λ line. own-as _ _ _ _ _ (own_view c.args.own.now) Describe line (ap own_view c.in-Describe.is) (c.describe.ensures.told, c.describe.ensures.looks);
  turn = λ configured m line makes own_is here.
      turn-as configured m line (own_view c.args.own.now) Describe _ _ _ _ _ _ (ap own_view c.in-Describe.is) own_is
      (λ is. describe-turn configured m line _ _ _ _ _ _ is (c.describe.ensures.text configured m makes here));
}

pub returns-in-Misformed : goal.returns-in-Misformed
returns-in-Misformed g c = record {
  sound = c.requires.sound;
  goes = stays _ _ (goes-same _);
  cause = c.refuse.ensures.cause;
  told = λ line. own-as _ _ _ _ _ (own_view c.args.own.now) Misformed line (ap own_view c.in-Misformed.is) (c.refuse.ensures.text, refl);
  turn = λ configured m line makes own_is here.
      let refused = c.refuse.ensures.text in
      turn-as configured m line (own_view c.args.own.now) Misformed _ _ _ _ _ _ (ap own_view c.in-Misformed.is) own_is
      (λ is. silent-turn configured m line Misformed _ _ _ _ _ refused.0 is refl (refl, refused.1) here refused.2);
}
