use Rattle.std.proofs.Common.{◌≡◌, ◌≤◌, ℕ, List, Some}
use Rattle.fl_shell.specs.Reading.{IsLeft}
use Rattle.fl_shell.proofs.NextLine.{LeftOver}
use Rattle.fl_shell.proofs.next_line.next_line.Given as goal

abbrev pub invariant-pieces : goal.invariant-pieces
invariant-pieces g l =
    let S = g.S.Source in
    record {
      later : S.faults l.fn.input ≤ S.faults l.input;
      most : l.lines.most ≤ l.fn.lines.most;
      left : (left : List ℕ) → S.left l.fn.input ≡ Some left → (most total : ℕ) → IsLeft l.fn.lines left most total → LeftOver l.fn.lines left most total l.is_rest l.lines (S.left l.input);
    }

abbrev pub decreases-pieces : goal.decreases-pieces
decreases-pieces g l = l.lines.most
