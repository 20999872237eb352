-- The row that a lookup found, over any bytes and on any medium.
use Rattle.std.specs.Prelude.{◌≡◌, ℕ, ◌<◌, ◌≤◌, IsTrue, Some, slice_get}
use Rattle.fl_flash.specs.Flash.{FlashState}
use Rattle.fl_model.specs.Row.{Row}
use Rattle.fl_table.specs.Finding.{IsAnswered, rows_at}
use Rattle.fl_table.specs.Look.{buffered_rows, oldest_in}
use Rattle.fl_table.specs.Memory.{next_in}
use Rattle.fl_table.specs.declared.find.RowAt.{RowAt}
use Rattle.fl_table.specs.declared.find.RowAt.TheVariants as placed
use Rattle.fl_table.specs.declared.table.Table.{Table}

-- a row stands at a place: among the pending ones, or on a kept page, by its bytes where the flash tells them
abbrev pub StandsAt : Table 64 64 → FlashState → RowAt → Row → Type 0
StandsAt t f (placed.Pending i) row = slice_get (buffered_rows t) i ≡ Some row
StandsAt t f (placed.InPage place) row =
    (oldest_in t ≤ place.number) × (place.number < next_in t) × (IsTrue f.media.tells → slice_get (rows_at t f place.number) place.row ≡ Some row)

-- a row with the key stands where the lookup found it, and this holds of it
pub record FindsRow (t : Table 64 64) (key : ℕ) (f : FlashState) (Holds : Row → Type 0) : Type 0 where
  pub row : Row
  pub holds : Holds row
  pub key_is : row.key ≡ key
  pub place : RowAt
  pub here : StandsAt t f place row
  pub answers : IsAnswered t f key (Some place)
