-- The pages that a table keeps.
use Rattle.std.specs.Prelude.{◌≡◌, ℕ, ◌+◌, ◌<◌, Some, None, List, map, slice_get}
use Rattle.fl_model.specs.Facts.{IsTable}
use Rattle.fl_model.specs.Image.{HoldsRows, HoldsEntries as HoldsListing, HoldsContent}
use Rattle.fl_model.specs.Record.{Plan}
use Rattle.fl_model.specs.Ring.{Ring, oldest}
use Rattle.fl_model.specs.Row.{stored_row}
use Rattle.fl_model.specs.Table.{Table}
use Rattle.fl_page.specs.Steps.{Ascends}
use Rattle.fl_rules.specs.ContentPage.{IsContentPage}
use Rattle.fl_rules.specs.DataPage.{HoldsEntries}
use Rattle.fl_rules.specs.IndexPage.{IsIndexPage}

pub record KeptPagesAreGood : Type 0 where
  pub rows : (plan : Plan) (table : Table) (i count : ℕ) (page : List ℕ) → IsTable plan table →
      slice_get table.rows.counts i ≡ Some count → 0 < count → HoldsRows plan table i count page → HoldsEntries plan (oldest table.rows + i) page
  pub keys : (plan : Plan) (table : Table) → IsTable plan table → Ascends None (map stored_row table.entries)
  pub index : (plan : Plan) (table : Table) (ring : Ring) (i count : ℕ) (page : List ℕ) → IsTable plan table →
      HoldsListing plan table ring i count page → IsIndexPage plan (oldest ring + i) page
  pub content : (plan : Plan) (table : Table) (ring : Ring) (i count : ℕ) (page : List ℕ) → IsTable plan table →
      HoldsContent table ring i count page → IsContentPage (oldest ring + i) page
