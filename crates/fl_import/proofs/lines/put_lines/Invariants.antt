use Rattle.std.proofs.Common.{◌+◌, ◌^◌, ◌<◌, ◌≤◌, ℕ, List, [], ◌∷◌, IsTrue}
use Rattle.fl_flash.specs.Flash.{Goes, page_at}
use Rattle.fl_rlc.specs.Table.{IsSamePlan, LiesOn, OutsideStands}
use Rattle.fl_import.specs.Taking.{TakesSoFar}
use Rattle.fl_import.proofs.AllLines.{SoFar}
use Rattle.fl_import.proofs.lines.put_lines.Given as goal

abbrev pub invariant-lines : goal.invariant-lines
invariant-lines g l =
    let F = g.F.Flash in
    let S = g.S.Source in
    let K = g.K.Sink in
    record {
      goes : Goes (F.state l.fn.flash) (F.state l.flash);
      same : IsSamePlan l.fn.table l.table;
      lies : LiesOn l.table (F.state l.flash);
      outside : IsTrue (F.state l.fn.flash).media.tells → OutsideStands l.fn.table (page_at (F.state l.fn.flash)) (page_at (F.state l.flash));
      input : S.faults l.fn.input ≤ S.faults l.input;
      output : K.faults l.fn.out ≤ K.faults l.out;
      few : l.taken.line + l.lines.most ≤ 2 ^ 24;
      some : 1 ≤ l.taken.line;
      rows : l.taken.rows < l.taken.line;
      gone : l.taken.gone ≤ l.taken.rows;
      far : (text names : List ℕ) → TakesSoFar l.form.columns l.form.blobs text (names ∷ []) l.fn.lines (S.left l.fn.input) →
          SoFar l.gone l.taken l.form text l.fn.table (F.state l.fn.flash) l.table (F.state l.flash) (K.written l.fn.out) (K.written l.out) l.lines (S.left l.input);
    }

abbrev pub decreases-lines : goal.decreases-lines
decreases-lines g l = l.lines.most
