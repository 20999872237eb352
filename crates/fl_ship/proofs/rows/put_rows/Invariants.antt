use Rattle.std.proofs.Common.{◌≡◌, ◌+◌, ◌<◌, ◌≤◌, ℕ, true, IsTrue, Some}
use Rattle.fl_flash.specs.Flash.{Goes, page_at}
use Rattle.fl_model.specs.Query.{is_above}
use Rattle.fl_ops.specs.Inputs.{Continues}
use Rattle.fl_frame.specs.Contents.{contents_of, OnlyReads}
use Rattle.fl_rlc.specs.Table.{is_running, table_in, IsSamePlan, LiesOn, OutsideStands}
use Rattle.fl_table.specs.Look.{last_key_in}
use Rattle.fl_ship.specs.Rows.{HaveRisen}
use Rattle.fl_ship.proofs.RowsSoFar.{Far}
use Rattle.fl_ship.proofs.rows.put_rows.Given as goal

abbrev pub invariant-puts : goal.invariant-puts
invariant-puts g l =
    let A = g.A.Flash in
    let B = g.B.Flash in
    let H = g.R.RowHere in
    let R = g.R.Rows in
    let held = contents_of (A.state l.fn.from) in
    record {
      counts : OnlyReads (A.state l.fn.from) (A.state l.from);
      goes : Goes (B.state l.fn.onto) (B.state l.onto);
      same : IsSamePlan l.fn.to l.to;
      lies : LiesOn l.to (B.state l.onto);
      outside : IsTrue (B.state l.fn.onto).media.tells → OutsideStands l.fn.to (page_at (B.state l.fn.onto)) (page_at (B.state l.onto));
      running : is_running l.to ≡ true;
      power : (B.state l.fn.onto).is_on ≡ true → (B.state l.onto).is_on ≡ true;
      above : (last key : ℕ) → last_key_in (table_in l.to) ≡ Some last → is_above (H.above l.rows) key ≡ true → last < key;
      input : Continues R.names H.schema H.above R.ready R.told R.passes held l.fn.rows l.rows;
      reads : R.told l.fn.rows held → (A.state l.from).work.reads + R.most l.rows held ≤ (A.state l.fn.from).work.reads + R.most l.fn.rows held;
      numbers : HaveRisen l.fn.to l.shipped l.to;
      far : Far (R.told l.fn.rows held) (R.left l.fn.rows held) (R.left l.rows held) l.shipped l.fn.to (B.state l.fn.onto) l.to (B.state l.onto);
    }
