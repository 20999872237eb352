-- Pages on a flash that hold the rows of a table, and a table whose points are those of its pages.
use Rattle.std.specs.Prelude.{◌≡◌, ℕ, ◌+◌, List, ◌++◌, map, slice_get, Some, IsTrue}
use Rattle.fl_flash.specs.Flash.{FlashState}
use Rattle.fl_mark.specs.Mark.{state_of_page}
use Rattle.fl_mark.specs.declared.page_state.PageState.TheVariants.{Committed}
use Rattle.fl_model.specs.Record.{Plan, RowLayout}
use Rattle.fl_model.specs.Ring as model
use Rattle.fl_model.specs.Row.{stored_row}
use Rattle.fl_model.specs.Table.{Table, Entry, lose}
use Rattle.fl_model.specs.Facts.{IsTable}
use Rattle.fl_model.specs.Image.{rows_at}
use Rattle.fl_model.specs.Spline.{points_of}
use Rattle.fl_page.specs.Page.{IsGoodPage}
use Rattle.fl_ring.specs.Place.{shape_of, next_of, oldest_of}
use Rattle.fl_ring.specs.declared.ring.Ring.{Ring}
use Rattle.fl_spline.specs.Points.{last_of}
use Rattle.fl_find.specs.Pages.{rows_on, bytes_at}

-- a page with this number that has just the rows of these entries
pub record HoldsEntries (layout : RowLayout) (number : ℕ) (entries : List Entry) (page : List ℕ) : Type 0 where
  pub good : state_of_page page ≡ Committed → IsGoodPage layout number page
  pub rows : rows_on layout page ≡ map stored_row entries

-- a ring on a flash that tells its bytes: its kept pages hold the rows of a table that aren't pending
pub record HoldsPages (layout : RowLayout) (ring : Ring) (f : FlashState) (plan : Plan) (table : Table) : Type 0 where
  pub tells : IsTrue f.media.tells
  pub facts : IsTable plan table
  pub next : next_of ring ≡ table.rows.next
  pub oldest : oldest_of ring ≡ model.oldest table.rows
  pub pages : (i count : ℕ) → slice_get table.rows.counts i ≡ Some count →
      HoldsEntries layout (model.oldest table.rows + i) (rows_at (lose table) i count) (bytes_at (shape_of ring) f (model.oldest table.rows + i))

-- the points are those of the kept pages with rows, after those of pages that were given up since
pub record HasPoints (table : Table) : Type 0 where
  pub older : List (ℕ × ℕ)
  pub points : table.points ≡ older ++ points_of table
  pub last : last_of table.points ≡ last_of (points_of table)
