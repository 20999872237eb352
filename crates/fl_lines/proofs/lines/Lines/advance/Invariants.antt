use Rattle.std.proofs.Common.{◌≡◌, ℕ, ◌-◌, ◌≤◌, false, List, ◌++◌, length, Some}
use Rattle.fl_lines.proofs.Untouched.{Untouched}
use Rattle.fl_lines.proofs.lines.Lines.advance.Given as goal

abbrev pub invariant-bytes : goal.invariant-bytes
invariant-bytes g l =
    let S = g.S.Source in
    record {
      is_open : l.self.closed ≡ false;
      was_open : l.fn.self.closed ≡ false;
      most : l.self.most ≡ l.fn.self.most;
      first : Untouched l.fn.self l.self l.fn.script l.script;
      later : S.faults l.fn.script ≤ S.faults l.script;
      told : (left : List ℕ) → S.left l.fn.script ≡ Some left → (now : List ℕ) × (S.left l.script ≡ Some now) × (l.fn.self.ahead ++ left ≡ l.self.ahead ++ now);
    }

abbrev pub decreases-bytes : goal.decreases-bytes
decreases-bytes g l = l.self.most - length l.self.ahead
