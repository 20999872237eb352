-- Sound tables, and what a mount finds there.
use Rattle.std.specs.Prelude.{◌≡◌, ℕ, ◌+◌, ◌≤◌, IsTrue, Option, Some, None, length}
use Rattle.fl_base.specs.declared.types.RingPlace.{RingPlace}
use Rattle.fl_check.specs.SoundImages.{AreBehind, AreNumbered, IsAsRunsLeave, NumbersAreLeft, PagesFit, StandsSettled, TableImage}
use Rattle.fl_check.specs.Whole.{Fits, LogFits, IsFinding}
use Rattle.fl_check.specs.declared.finding.Finding.TheVariants.{Sound}
use Rattle.fl_flash.specs.Flash.{FlashState, page_at}
use Rattle.fl_flash.specs.Places.{extent}
use Rattle.fl_model.specs.Bare.{bare, bare_table}
use Rattle.fl_model.specs.Log.{IsLog}
use Rattle.fl_model.specs.Record.{Plan, blocks_of}
use Rattle.fl_model.specs.Table.{Table, full_pages}
use Rattle.fl_plan.specs.Plan.{IsConfigOf, IsRingAt}
use Rattle.fl_plan.specs.declared.table_config.TableConfig.{TableConfig}
use Rattle.fl_rlc.specs.Logged.{Rests}
use Rattle.fl_rlc.specs.Memory.{IsPlanned}
use Rattle.fl_rlc.specs.MountingApart.{RestApart}
use Rattle.fl_rlc.specs.declared.log.RecordLog.{RecordLog}
use Rattle.fl_parts.specs.Pages.{RestsToMount}

-- a table as it is configured lies on a flash with its log, if it has one, and the flash's medium reaches to its end and is told
pub record LiesOn (config : TableConfig) (log : Option RingPlace) (f : FlashState) (plan : Plan) : Type 0 where
  pub fits : Fits config f
  pub reaches : f.start + extent f.geometry f.blocks ≤ length f.media.content
  pub tells : IsTrue f.media.tells
  pub config_is : IsConfigOf config (bare plan)
  pub log_fits : LogFits log f
  pub log_at : IsRingAt log (config.rows.first_block + plan.data_blocks + plan.index_blocks + plan.var_blocks) plan.log_blocks

-- A table whose image the flash's pages are, with the numbers that the rules give to them, and as many rows, kept data pages and void ones
-- as were told. Its rings other than the log are such that their mount ends as the model says. Where it is as runs leave it, the flash
-- stands for it.
pub record HasTable (config : TableConfig) (log : Option RingPlace) (f : FlashState) (plan : Plan) (rows pages voids : ℕ) : Type 0 where
  pub table : Table
  pub image : TableImage config log (page_at f) plan table
  pub fit : PagesFit plan table
  pub numbered : AreNumbered config log (page_at f) table
  pub behind : AreBehind plan table
  pub stands : StandsSettled plan table
  -- of a table without variable data, and so of each with a log, numbers that are left are all of it
  pub as_left : plan.var_blocks ≡ 0 → NumbersAreLeft plan table → IsAsRunsLeave plan table
  -- what the mount of these rings asks, which is all that there is of a table without a log
  pub mounts : RestsToMount f config.rows.first_block (bare plan) (bare_table table)
  pub alone : log ≡ None → bare_table table ≡ table
  pub rests : IsAsRunsLeave plan table → IsLog table → Rests f config.rows.first_block plan table
  -- .. and apart from it for its log, whatever records that has
  pub apart : IsAsRunsLeave plan table → (place : RingPlace) (l : RecordLog) → log ≡ Some place → IsPlanned l (config.rows.first_block + blocks_of (bare plan)) plan → RestApart l f config.rows.first_block plan table
  pub rows_are : length table.entries ≡ rows
  pub pages_are : length table.rows.counts ≡ pages
  pub voids_are : full_pages table.rows.counts + voids ≡ pages

abbrev pub SoundTablesMount : Type 0
SoundTablesMount =
    (config : TableConfig) (log : Option RingPlace) (f : FlashState) (plan : Plan) (rows pages voids : ℕ) → LiesOn config log f plan → IsFinding config log (page_at f) (Sound rows pages voids) → HasTable config log f plan rows pages voids

-- a table for which a flash stands between runs is as runs leave it, and so is its log
abbrev pub TablesAreAsRunsLeave : Type 0
TablesAreAsRunsLeave = (f : FlashState) (first : ℕ) (plan : Plan) (table : Table) → Rests f first plan table → IsAsRunsLeave plan table × IsLog table
