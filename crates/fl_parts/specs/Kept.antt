-- A kept page that was read, over any bytes and for a table of the model.
use Rattle.std.specs.Prelude.{◌≡◌, ℕ, ◌<◌, Bool, true, false, Option, None, Some, Result, Ok, Err, List, map}
use Rattle.fl_mark.specs.Mark.{state_of_page}
use Rattle.fl_mark.specs.declared.page_state.PageState.TheVariants.{Committed}
use Rattle.fl_model.specs.Image.{rows_at}
use Rattle.fl_model.specs.Record.{Plan, RowLayout, row_layout}
use Rattle.fl_model.specs.Row.{stored_row}
use Rattle.fl_model.specs.Table as model
use Rattle.fl_page.specs.Page.{IsGoodPage, bad_page, rows_in}
use Rattle.fl_page.specs.declared.fault.ReadFault.{ReadFault}
use Rattle.fl_page.specs.declared.fault.ReadFault.TheVariants.{Flash, BadPage}

-- what holds where no read failed
abbrev pub IfRead : Result Bool ReadFault → Type 0 → Type 0
IfRead (Ok found) P = P
IfRead (Err (BadPage bad)) P = P
IfRead (Err (Flash fault)) P = Unit {0}

-- the buffer holds the flash page that was read, and none where the read failed
abbrev pub IsHeldAt : ℕ → Result Bool ReadFault → Option ℕ → Type 0
IsHeldAt at (Ok found) holds = holds ≡ Some at
IsHeldAt at (Err (BadPage bad)) holds = holds ≡ Some at
IsHeldAt at (Err (Flash fault)) holds = holds ≡ None

-- The bytes that were read for the page with this number: a page with rows, one that isn't committed, or one that is
-- committed and has another number or no count that a page has.
abbrev pub IsFound : RowLayout → ℕ → List ℕ → Result Bool ReadFault → Type 0
IsFound layout number page (Ok true) = (state_of_page page ≡ Committed) × IsGoodPage layout number page
IsFound layout number page (Ok false) = state_of_page page ≡ Committed → ⊥
IsFound layout number page (Err (BadPage bad)) =
    (state_of_page page ≡ Committed) × (IsGoodPage layout number page → ⊥) × (bad ≡ bad_page number page)
IsFound layout number page (Err (Flash fault)) = Unit {0}

-- The bytes of the i-th kept page of a table, which has so many rows: they are its rows, and no page is bad.
abbrev pub ShowsRows : Plan → model.Table → ℕ → ℕ → List ℕ → Result Bool ReadFault → Type 0
ShowsRows plan table i count page (Ok true) =
    (0 < count) × (rows_in (row_layout plan) page ≡ map stored_row (rows_at table i count))
ShowsRows plan table i count page (Ok false) = count ≡ 0
ShowsRows plan table i count page (Err (BadPage bad)) = ⊥
ShowsRows plan table i count page (Err (Flash fault)) = Unit {0}
