use Rattle.std.proofs.Common.{◌≡◌, ℕ, ◌+◌, ◌^◌, ◌<◌, ◌≤◌, List, Some}
use Rattle.fl_session.proofs.ConfigLines.{Configured}
use Rattle.fl_session.proofs.begin.read_config.Given as goal

abbrev pub invariant-lines : goal.invariant-lines
invariant-lines g l =
    let S = g.S.Source in
    record {
      numbered : l.number + l.lines.most < 2 ^ 32;
      later : S.faults l.fn.script ≤ S.faults l.script;
      configured : (knots : ℕ) (text : List ℕ) → S.left l.fn.script ≡ Some text → Configured knots text (l.config) l.number l.lines (S.left l.script);
    }

abbrev pub decreases-lines : goal.decreases-lines
decreases-lines g l = l.lines.most
