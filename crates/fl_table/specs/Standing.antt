-- A mounted table, and the state of the model for which it stands with its flash.
use Rattle.std.specs.Prelude.{◌≡◌, ℕ, ◌+◌, false}
use Rattle.fl_find.specs.Standing.{HasPoints}
use Rattle.fl_flash.specs.Flash.{FlashState, page_at}
use Rattle.fl_model.specs.Record.{Plan}
use Rattle.fl_model.specs.Table as model
use Rattle.fl_model.specs.Table.{lose, pending_entries, last_entry}
use Rattle.fl_model.specs.Facts.{IsTable}
use Rattle.fl_model.specs.Mount.{ready}
use Rattle.fl_table.specs.declared.table.Table.{Table}
use Rattle.fl_parts.specs.Bitmaps.{Stand}
use Rattle.fl_parts.specs.Blobs as variable
use Rattle.fl_parts.specs.Mountable.{IsPaged}
use Rattle.fl_parts.specs.Pages.{HoldsTable}
use Rattle.fl_table.specs.Memory.{InMemory, IsPlanned}

-- A table as a mount leaves it, whose numbers fit, but may be spent, and of which a blob may begin on a void page: what it has in memory
-- is what its pages tell.
pub record StandsAsTold {KNOTS SLOTS : ℕ} (t : Table KNOTS SLOTS) (f : FlashState) (first : ℕ) (plan : Plan) (table : model.Table) : Type 0 where
  pub planned : IsPlanned t first plan
  pub paged : IsPaged plan table
  -- no row is pending, and no byte of a blob waits
  pub started : table ≡ ready plan (lose table)
  pub whole : table.rows.torn ≡ false
  pub clean : table.rows.dirty ≡ false
  pub pages : HoldsTable (page_at f) first plan (lose table)
  pub memory : InMemory t plan table
  pub bitmaps : Stand t.bitmaps f (first + plan.data_blocks) plan table
  pub blobs : variable.StandInPages t.blobs f (first + plan.data_blocks + plan.index_blocks) plan table
  pub points : HasPoints table

pub record Stands {KNOTS SLOTS : ℕ} (t : Table KNOTS SLOTS) (f : FlashState) (first : ℕ) (plan : Plan) (table : model.Table) : Type 0 where
  pub planned : IsPlanned t first plan
  pub facts : IsTable plan table
  -- no page is torn and no block waits for its erase
  pub whole : table.rows.torn ≡ false
  pub clean : table.rows.dirty ≡ false
  -- pending rows are in memory alone
  pub pages : HoldsTable (page_at f) first plan (lose table)
  pub memory : InMemory t plan table
  -- the index ring, and the entries that wait
  pub bitmaps : Stand t.bitmaps f (first + plan.data_blocks) plan table
  -- the ring of variable data, and the bytes that wait
  pub blobs : variable.Stand t.blobs f (first + plan.data_blocks + plan.index_blocks) plan table
  -- the index goes with the pages
  pub points : HasPoints table
