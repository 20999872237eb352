use Rattle.std.proofs.Common.{◌≡◌, ◌≤◌, ◌^◌, ℕ, List, Some}
use Rattle.fl_config.specs.Whole.{Makes}
use Rattle.fl_flash.specs.Flash.{Stays}
use Rattle.fl_machine.specs.Machine.{Machine}
use Rattle.fl_model.specs.Record.{Config}
use Rattle.fl_session.specs.Execute.{IsReady}
use Rattle.fl_words.specs.Grammar.{lines_of}
use Rattle.fl_shell.specs.Reading.{IsGivenAs, IsLeft, rest_in}
use Rattle.fl_shell.specs.Talking.{with_hand}
use Rattle.fl_shell.proofs.CausedLines as caused
use Rattle.fl_shell.proofs.TalkLoop.{InHand}
use Rattle.fl_shell.proofs.talk.talk.Given as goal

abbrev pub invariant-lines : goal.invariant-lines
invariant-lines g l =
    let E = g.E.Executor in
    let S = g.S.Source in
    let K = g.K.Sink in
    record {
      source_later : S.faults l.fn.input ≤ S.faults l.input;
      sink_later : K.faults l.fn.out ≤ K.faults l.out;
      sound : E.sound l.session;
      goes : Stays (E.flash l.fn.session) (E.flash l.session);
      input : (left : List ℕ) (total : ℕ) → S.left l.fn.input ≡ Some left → IsLeft l.fn.lines left (2 ^ 44) total → (rest : List ℕ) × (S.left l.input ≡ Some rest) × IsLeft l.lines rest (2 ^ 44) total;
      told : (left hand : List ℕ) (total : ℕ) → S.left l.fn.input ≡ Some left → IsLeft l.fn.lines left (2 ^ 44) total → IsGivenAs hand l.fn.lines.line →
          caused.InHand (with_hand l.fn.in_hand hand (lines_of (rest_in l.fn.lines left))) total (E.state l.fn.session) (E.state l.session) (K.written l.fn.out) (K.written l.out) l.has_line l.lines (S.left l.input);
      talks : (configured : Config) (old : Machine) (left hand : List ℕ) (total : ℕ) → Makes l.config configured → IsReady configured old → E.stands l.fn.session configured old → (E.flash l.fn.session).work.reads ≡ 0 →
          l.fn.lines.most ≤ 2 ^ 44 → S.left l.fn.input ≡ Some left → IsLeft l.fn.lines left (2 ^ 44) total → IsGivenAs hand l.fn.lines.line →
          InHand configured old (with_hand l.fn.in_hand hand (lines_of (rest_in l.fn.lines left))) total (E.stands l.session configured) (E.flash l.fn.session).media.content (E.flash l.fn.session).media.faults (E.flash l.session)
          (K.written l.fn.out) (K.written l.out) l.has_line l.lines (S.left l.input);
    }

abbrev pub decreases-lines : goal.decreases-lines
decreases-lines g l = l.lines.most
