use Rattle.std.proofs.Common.{◌≡◌, ℕ, ◌+◌, ◌^◌, ◌<◌, ◌≤◌, List, [], ◌++◌, Some, true}
use Rattle.fl_model.specs.Record.{Config}
use Rattle.fl_flash.specs.Flash.{Stays}
use Rattle.fl_script.specs.CommandView.{command_view}
use Rattle.fl_session.specs.CausedEach.{CausedEach}
use Rattle.fl_session.specs.Next.{IsToRun}
use Rattle.fl_session.specs.Run.{tail_of}
use Rattle.fl_session.proofs.Loops.{InHand}
use Rattle.fl_session.proofs.RanTo.{RanTo}
use Rattle.fl_session.proofs.commands.run_commands.Given as goal

abbrev pub invariant-lines : goal.invariant-lines
invariant-lines g l =
    let T = g.T.Executor in
    let S = g.S.Source in
    let K = g.K.Sink in
    record {
      numbered : l.line + l.lines.most < 2 ^ 32;
      reads : IsToRun l.lines.line (command_view l.command l.room);
      source_later : S.faults l.fn.script ≤ S.faults l.script;
      sink_later : K.faults l.fn.out ≤ K.faults l.out;
      sound : T.sound l.session;
      goes : Stays (T.flash l.fn.session) (T.flash l.session);
      runs : (config : Config) (left : List ℕ) → S.left l.fn.script ≡ Some left → (l.fn.lines.closed ≡ true → l.fn.lines.ahead ++ left ≡ []) →
          InHand (tail_of l.fn.number l.fn.lines left)
          (RanTo config (T.stands l.fn.session config) (T.stands l.session config) (T.flash l.fn.session) (T.flash l.session) (K.written l.fn.out) (K.written l.out))
          l.line l.lines (S.left l.script);
      causes : (left : List ℕ) → S.left l.fn.script ≡ Some left → (l.fn.lines.closed ≡ true → l.fn.lines.ahead ++ left ≡ []) →
          InHand (tail_of l.fn.number l.fn.lines left)
          (λ commands. CausedEach commands (T.state l.fn.session) (T.state l.session) (K.written l.fn.out) (K.written l.out))
          l.line l.lines (S.left l.script);
    }

abbrev pub decreases-lines : goal.decreases-lines
decreases-lines g l = l.lines.most
