-- The row of a key in a page, and the entry that a lookup finds.
use Rattle.std.specs.Prelude.{◌≡◌, ℕ, ◌<◌, true, Option, Some, None, IfSome, Result, Ok, Err, List, slice_get}
use Rattle.fl_flash.specs.Buffer.{BufferState}
use Rattle.fl_flash.specs.Flash.{FlashState}
use Rattle.fl_model.specs.Record.{Plan, RowLayout}
use Rattle.fl_model.specs.Row.{Row, stored_row}
use Rattle.fl_model.specs.Table.{Table, Entry, written}
use Rattle.fl_model.specs.Query.{entry_at}
use Rattle.fl_model.specs.Spline.{retained, is_covered, lookup_reads}
use Rattle.fl_page.specs.declared.fault.ReadFault.{ReadFault}
use Rattle.fl_page.specs.declared.fault.ReadFault.TheVariants as fault
use Rattle.fl_ring.specs.Ring.{Shape}
use Rattle.fl_search.specs.Search.{RoseBy, RoseSome}
use Rattle.fl_find.specs.Pages.{bytes_at, rows_on}
use Rattle.fl_find.specs.declared.row.PageRow.{PageRow}

-- rows in the order of their keys
abbrev pub RowsRise : List Row → Type 0
RowsRise rows = (i j : ℕ) (a b : Row) → i < j → slice_get rows i ≡ Some a → slice_get rows j ≡ Some b → a.key < b.key

-- the row at an index has the key
pub record HasKey (rows : List Row) (key index : ℕ) : Type 0 where
  pub row : Row
  pub here : slice_get rows index ≡ Some row
  pub key_is : row.key ≡ key

-- no row has it
abbrev pub LacksKey : List Row → ℕ → Type 0
LacksKey rows key = (i : ℕ) (row : Row) → slice_get rows i ≡ Some row → row.key ≡ key → ⊥

-- The row of a key is one of this page; or there is none since there is no page, or since the page has no such row, which
-- is told where its rows rise.
abbrev pub IsOn : RowLayout → Shape → FlashState → ℕ → Option ℕ → Option PageRow → Type 0
IsOn layout shape f key None None = Unit {0}
IsOn layout shape f key None (Some at) = ⊥
IsOn layout shape f key (Some page) None = RowsRise (rows_on layout (bytes_at shape f page)) → LacksKey (rows_on layout (bytes_at shape f page)) key
IsOn layout shape f key (Some page) (Some at) = at.number ≡ page

-- the buffer holds the row of the entry with the key
pub record HoldsEntry (layout : RowLayout) (table : Table) (key : ℕ) (buf : BufferState) (at : PageRow) : Type 0 where
  pub entry : Entry
  pub found : entry_at key (written table) ≡ Some entry
  pub row : slice_get (rows_on layout buf.bytes) at.row ≡ Some (stored_row entry)

-- the entry that isn't pending and has the key, or none where there is none
abbrev pub IsEntry : RowLayout → Table → ℕ → Option PageRow → BufferState → Type 0
IsEntry layout table key None buf = entry_at key (written table) ≡ None
IsEntry layout table key (Some at) buf = HoldsEntry layout table key buf at

-- a lookup ended; the count of reads rose from one number to another
pub record IsLookedUp (knots : ℕ) (plan : Plan) (layout : RowLayout) (table : Table) (key before now : ℕ) (at : Option PageRow) (buf : BufferState) : Type 0 where
  pub entry : IsEntry layout table key at buf
  pub exact : is_covered (retained knots plan.error table.points) key ≡ true → RoseBy (lookup_reads knots plan table key) before now
  pub some : IfSome at (λ row. RoseSome before now)

-- it ends so unless the flash fails; no page is bad
abbrev pub LooksUp : ℕ → Plan → RowLayout → Table → ℕ → ℕ → ℕ → Result (Option PageRow) ReadFault → BufferState → Type 0
LooksUp knots plan layout table key before now (Ok at) buf = IsLookedUp knots plan layout table key before now at buf
LooksUp knots plan layout table key before now (Err (fault.Flash e)) buf = Unit {0}
LooksUp knots plan layout table key before now (Err (fault.BadPage bad)) buf = ⊥
