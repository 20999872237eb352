-- The load of the entries of an index page, over any bytes and for a table of the model.
use Rattle.std.specs.Prelude.{◌≡◌, ℕ, ◌+◌, ◌-◌, ◌^◌, ◌<◌, ◌≤◌, min, Some, None, IsTrue, List, slice_get}
use Rattle.fl_flash.specs.Flash.{FlashState}
use Rattle.fl_mark.specs.Mark.{state_of_page}
use Rattle.fl_mark.specs.declared.page_state.PageState.TheVariants.{Committed}
use Rattle.fl_model.specs.Agrees.{is_told}
use Rattle.fl_model.specs.Image.{rows_at}
use Rattle.fl_model.specs.Mount.{index_end}
use Rattle.fl_model.specs.Record.{Plan, entries_per_page}
use Rattle.fl_model.specs.Ring as rings
use Rattle.fl_model.specs.Table.{Table}
use Rattle.fl_index.specs.declared.index.BitmapIndex.{BitmapIndex}
use Rattle.fl_index.specs.declared.load.Loaded.{Loaded}
use Rattle.fl_index.specs.declared.load.Loaded.TheVariants.{Nothing, Listing, Bad}
use Rattle.fl_index.specs.Looking.{bad_page, TellsRows}
use Rattle.fl_index.specs.Memory.{first_in, first_waiting, form_in, found_waiting, per_page, waiting_in}
use Rattle.fl_index.specs.Page.{found_at, page_first, IsGoodPage}
use Rattle.fl_index.specs.Standing.{StandsBelow}

-- The entries of the index page with this number and these bytes are those that wait: each of a data page below 2^32 - 1.
pub record HoldsEntriesOf (index : BitmapIndex) (number : ℕ) (page : List ℕ) (first : ℕ) (now : BitmapIndex) : Type 0 where
  pub committed : state_of_page page ≡ Committed
  pub good : IsGoodPage (per_page index) number page
  pub first_is : first ≡ page_first page
  pub remembered : first_in now number ≡ Some first
  pub begin : first_waiting now ≡ first
  pub many : waiting_in now ≡ min (per_page index) (2 ^ 32 - 1 - first)
  pub each : (j : ℕ) → j < waiting_in now → found_waiting now j ≡ found_at (form_in index) page j

-- an index page that lists no data page: no entry waits
pub record HoldsNone (number : ℕ) (now : BitmapIndex) : Type 0 where
  pub remembered : first_in now number ≡ None
  pub many : waiting_in now ≡ 0

-- What the bytes of the kept index page with a number say, and what is in memory then: a page that isn't committed lists nothing,
-- and one that is committed has to have its number and its count.
abbrev pub IsLoaded : BitmapIndex → ℕ → List ℕ → Loaded → BitmapIndex → Type 0
IsLoaded index number page Nothing now = (state_of_page page ≡ Committed → ⊥) × HoldsNone number now
IsLoaded index number page (Listing first) now = HoldsEntriesOf index number page first now
IsLoaded index number page (Bad first bad) now =
    (state_of_page page ≡ Committed) × (IsGoodPage (per_page index) number page → ⊥) × (bad ≡ bad_page number page) × HoldsNone number now × (first ≡ page_first page)

-- The loaded entries are those of so many data pages from one on, all before the end of the index: each kept one that has to be told
-- is told by its entry.
pub record TellsListed (plan : Plan) (table : Table) (first : ℕ) (index : BitmapIndex) : Type 0 where
  pub begin : first_waiting index ≡ first
  pub many : waiting_in index ≡ entries_per_page plan
  pub ends : first + entries_per_page plan ≤ index_end plan table
  pub each : (n rows : ℕ) → first ≤ rings.oldest table.rows + n → rings.oldest table.rows + n < first + entries_per_page plan →
      slice_get table.rows.counts n ≡ Some rows → IsTrue (is_told plan rows) →
      TellsRows plan (rows_at table n rows) (found_waiting index (rings.oldest table.rows + n - first))

-- For a table of the model, of whose index pages those below a number were loaded: so is this one then, and it isn't bad.
abbrev pub Loads : ℕ → Plan → Table → ℕ → Loaded → BitmapIndex → FlashState → Type 0
Loads first plan table number Nothing now new = StandsBelow (number + 1) now new first plan table
Loads first plan table number (Listing begin) now new = StandsBelow (number + 1) now new first plan table × TellsListed plan table begin now
Loads first plan table number (Bad begin bad) now new = ⊥
