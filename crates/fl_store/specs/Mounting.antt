-- What a mount of the tables did, over any bytes.
use Rattle.std.specs.Prelude.{◌≡◌, ℕ, false, zero, suc, ◌+◌, Some, IfSome, Result, Ok, Err, List, take, slice_get, sum_by}
use Rattle.fl_flash.specs.Flash.{FlashState}
use Rattle.fl_index.specs.Memory as memory
use Rattle.fl_rlc.specs.Memory.{log_shape}
use Rattle.fl_rlc.specs.Mounting.{FindsPages, RefusesPages}
use Rattle.fl_rlc.specs.Table.{IsSamePlan, is_logged, log_in, repairs_in, table_in}
use Rattle.fl_rlc.specs.declared.table.LoggedTable.{LoggedTable}
use Rattle.fl_table.specs.BlobAt.{data_in}
use Rattle.fl_parts.specs.Bitmaps.{IsOutside}
use Rattle.fl_table.specs.Memory.{ring_shape}
use Rattle.fl_table.specs.Look.{index_in}
use Rattle.fl_table.specs.declared.counts.Mounted.{Mounted}
use Rattle.fl_var.specs.Memory.{var_shape}
use Rattle.fl_store.specs.declared.tables.BadMount.{BadMount}
use Rattle.fl_store.specs.declared.tables.Entry.{Entry}

-- the table at this place was mounted, and its pages were found
pub record MountsAt (at : ℕ) (old new : List Entry) (f g : FlashState) : Type 0 where
  pub was : Entry
  pub here : slice_get old at ≡ Some was
  pub now : Entry
  pub there : slice_get new at ≡ Some now
  pub named : now.name ≡ was.name
  pub same : IsSamePlan was.table now.table
  pub mounted : Mounted
  pub found : FindsPages was.table f mounted now.table g

-- so many tables were mounted in their order, each on the flash that the one before it left
abbrev pub MountsInTurn : ℕ → List Entry → List Entry → FlashState → FlashState → Type 0
MountsInTurn zero old new f g = g ≡ f
MountsInTurn (suc n) old new f g = (left : FlashState) × MountsInTurn n old new f left × MountsAt n old new left g

-- the tables before this one were mounted so, and it was refused on the flash that they left
pub record RefusesAt (old new : List Entry) (bad : BadMount) (f g : FlashState) : Type 0 where
  pub entry : Entry
  pub here : slice_get old bad.at ≡ Some entry
  pub named : entry.name ≡ bad.name
  pub left : FlashState
  pub before : MountsInTurn bad.at old new f left
  pub refused : RefusesPages entry.table left bad.fault g

-- the tables that a mount came to: all, or those up to the one that was refused
abbrev pub tried : Result (Unit {0}) BadMount → List Entry → List Entry
tried (Ok done) entries = entries
tried (Err bad) entries = take (bad.at + 1) entries

-- how often their mounts program at most, and how often they erase
abbrev pub repairs_of : List Entry → ℕ
repairs_of entries = sum_by (λ entry. repairs_in entry.table) entries

-- none of these tables has a log
abbrev pub AreUnlogged : List Entry → Type 0
AreUnlogged entries = (i : ℕ) (entry : Entry) → slice_get entries i ≡ Some entry → is_logged entry.table ≡ false

-- a flash page outside the rings of a table
pub record IsBeside (t : LoggedTable 64 64) (page : ℕ) : Type 0 where
  pub ring : IsOutside (ring_shape (table_in t)) page
  pub index : IfSome (index_in (table_in t)) (λ index. IsOutside (memory.ring_shape index) page)
  pub var : IfSome (data_in (table_in t)) (λ var. IsOutside (var_shape var) page)
  pub log : IfSome (log_in t) (λ log. IsOutside (log_shape log) page)

-- each page outside the rings of all these tables stands
abbrev pub OutsideStands : List Entry → (ℕ → List ℕ) → (ℕ → List ℕ) → Type 0
OutsideStands entries old new = (page : ℕ) → ((i : ℕ) (entry : Entry) → slice_get entries i ≡ Some entry → IsBeside entry.table page) → new page ≡ old page

-- no table has another name
abbrev pub AreSameNames : List Entry → List Entry → Type 0
AreSameNames old new = (i : ℕ) (was now : Entry) → slice_get old i ≡ Some was → slice_get new i ≡ Some now → now.name ≡ was.name

-- .. or became one of another plan
abbrev pub AreSamePlans : List Entry → List Entry → Type 0
AreSamePlans old new = (i : ℕ) (was now : Entry) → slice_get old i ≡ Some was → slice_get new i ≡ Some now → IsSamePlan was.table now.table
