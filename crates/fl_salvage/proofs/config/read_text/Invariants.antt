use Rattle.std.proofs.Common.{◌≡◌, ℕ, ◌≤◌, ◌-◌, List, Some, length}
use Rattle.fl_base.proofs.SourceToEnd.{SoFar}
use Rattle.fl_salvage.proofs.config.read_text.Given as goal

abbrev pub invariant-bytes : goal.invariant-bytes
invariant-bytes g l = record {
  most : l.len ≤ 4097;
  size : length l.into ≡ 4097;
  later : g.S.Source.faults l.fn.input ≤ g.S.Source.faults l.input;
  read : (text : List ℕ) → g.S.Source.left l.fn.input ≡ Some text → SoFar text (g.S.Source.left l.input) l.len l.into;
}

abbrev pub decreases-bytes : goal.decreases-bytes
decreases-bytes g l = 4097 - l.len
