use Rattle.std.proofs.Common.{◌≡◌, ◌≤◌, ◌^◌, ℕ, List, Some}
use Rattle.fl_words.specs.Grammar.{lines_of}
use Rattle.fl_shell.specs.Reading.{IsLeft, rest_in}
use Rattle.fl_shell.proofs.LeadingLines.{LedSoFar}
use Rattle.fl_shell.proofs.begin.of_lines.Given as goal

abbrev pub invariant-lines : goal.invariant-lines
invariant-lines g l =
    let S = g.S.Source in
    let K = g.K.Sink in
    record {
      source_later : S.faults l.fn.input ≤ S.faults l.input;
      sink_later : K.faults l.fn.out ≤ K.faults l.out;
      fewer : l.lines.most ≤ l.fn.lines.most;
      led : (left : List ℕ) (total : ℕ) → S.left l.fn.input ≡ Some left → IsLeft l.fn.lines left (2 ^ 44) total →
          LedSoFar (lines_of (rest_in l.fn.lines left)) total l.config l.lines (S.left l.input) (K.written l.fn.out) (K.written l.out);
    }

abbrev pub decreases-lines : goal.decreases-lines
decreases-lines g l = l.lines.most
