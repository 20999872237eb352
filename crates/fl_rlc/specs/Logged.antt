-- A mounted table with a log, and one that isn't mounted, and the state of the model for which it stands with its flash.
use Rattle.std.specs.Prelude.{◌≡◌, ◌⊎◌, ℕ, ◌+◌, ◌<◌, Option, Some, None, IfSome, IsTrue, List, [], ◌∷◌, ◌++◌}
use Rattle.fl_flash.specs.Flash.{FlashState, page_at}
use Rattle.fl_model.specs.Bare.{bare, bare_table}
use Rattle.fl_model.specs.Facts.{IsTable, IsSettled}
use Rattle.fl_model.specs.Image.{IsRingImage, HoldsLogged}
use Rattle.fl_model.specs.Record.{Plan, blocks_of}
use Rattle.fl_model.specs.Table as model
use Rattle.fl_model.specs.Table.{LogRing, shape_of, pending_entries, owed, is_rows_spent}
use Rattle.fl_parts.specs.Pages.{HoldsTable, bytes_in}
use Rattle.fl_table.specs.Standing as without_log
use Rattle.fl_rlc.specs.Standing as of_log
use Rattle.fl_rlc.specs.declared.log.RecordLog.{RecordLog}
use Rattle.fl_rlc.specs.declared.table.LoggedTable.{LoggedTable}

-- the log's last page has the pending records, and no others
pub record HasPending (table : model.Table) : Type 0 where
  pub some : 0 < table.pending
  pub same : table.logged ≡ pending_entries table
  pub last : IfSome table.log (λ ring. (others : List ℕ) × (count : ℕ) × (0 < count) × (ring.counts ≡ others ++ count ∷ []))

-- or nothing is pending, and the log has no record that no data page has; only where no page can be sealed any more it may
pub record OwesNothing (table : model.Table) : Type 0 where
  pub none : table.pending ≡ 0
  pub paid : (owed table ≡ []) ⊎ IsTrue (is_rows_spent table)

-- what the log of a mounted table has
abbrev pub IsKept : model.Table → Type 0
IsKept table = HasPending table ⊎ OwesNothing table

abbrev pub LogStands : Option RecordLog → FlashState → ℕ → Plan → model.Table → Type 0
LogStands None f first plan table = plan.log_blocks ≡ 0
LogStands (Some l) f first plan table = of_log.Stands l f first plan table × IsKept table

pub record Stands {KNOTS SLOTS : ℕ} (t : LoggedTable KNOTS SLOTS) (f : FlashState) (first : ℕ) (plan : Plan) (table : model.Table) : Type 0 where
  -- the table without its log
  pub unlogged : without_log.Stands t.table f first (bare plan) (bare_table table)
  pub facts : IsTable plan table
  pub log : LogStands t.log f (first + blocks_of (bare plan)) plan table

-- a flash stands for a table that isn't mounted
pub record Rests (f : FlashState) (first : ℕ) (plan : Plan) (table : model.Table) : Type 0 where
  pub settled : IsSettled plan table
  pub pages : HoldsTable (page_at f) first plan table
  pub log : IfSome table.log (λ ring. IsRingImage (shape_of plan LogRing) ring (bytes_in (page_at f) first plan LogRing) (HoldsLogged plan table ring))
