-- The records that a load puts, one after another, over any bytes and on any medium.
use Rattle.std.specs.Prelude.{◌≡◌, ℕ, zero, suc, ◌+◌, true, unwrap_or, Option, None, Some, Result, Ok, Err}
use Rattle.fl_base.specs.Generator.{next_random}
use Rattle.fl_flash.specs.Flash.{FlashState}
use Rattle.fl_machine.specs.Step.{load_values}
use Rattle.fl_model.specs.Row.{Row}
use Rattle.fl_frame.specs.Causes.{CausedBy}
use Rattle.fl_rlc.specs.Paged.{HasMadePage, PutLogged}
use Rattle.fl_rlc.specs.Refusal.{NeedsNoOperation, RefusedSame, put_refusal}
use Rattle.fl_rlc.specs.Rows.{HaveLogged}
use Rattle.fl_rlc.specs.Table.{IsSamePlan, MayPut, log_in, rings_in, table_in}
use Rattle.fl_rlc.specs.declared.table.LoggedTable.{LoggedTable}
use Rattle.fl_ring.specs.Written.{Writes}
use Rattle.fl_table.specs.BlobAt.{data_in}
use Rattle.fl_parts.specs.Blobs.{most_pages}
use Rattle.fl_table.specs.Look.{last_key_in, layout_in}
use Rattle.fl_table.specs.Memory.{HasRoom}
use Rattle.fl_table.specs.Refusal.{RefusesAs}
use Rattle.fl_table.specs.Stored.{Stores}
use Rattle.fl_table.specs.declared.faults.PutRefusal.{PutRefusal}
use Rattle.fl_table.specs.declared.faults.PutRefusal.TheVariants as put
use Rattle.fl_session.specs.Load.{load_key}

-- the pseudo-random number that makes the key of the record behind so many
abbrev pub random_at : ℕ → ℕ → ℕ
random_at seed zero = next_random seed
random_at seed (suc n) = next_random (random_at seed n)

-- the row of the record behind so many, into a table, and why the table refuses it, if it does
abbrev pub next_row : LoggedTable 64 64 → ℕ → ℕ → ℕ → Row
next_row t step seed n = record {
  key = load_key (unwrap_or (last_key_in (table_in t)) 0) step (random_at seed n);
  values = load_values (n + 1) seed 1 (layout_in (table_in t)).columns;
  blob = None;
}

abbrev pub refusal_of : LoggedTable 64 64 → Row → Option PutRefusal
refusal_of t row = put_refusal t row.key row.values None

-- its put tried a seal of each ring at most
abbrev pub WritesOne : LoggedTable 64 64 → FlashState → FlashState → Type 0
WritesOne t f g = Writes (MayPut t None) 0 (rings_in t + most_pages (data_in (table_in t)) None) f g

-- It was put. It is the table's last record, and pending, the only one where the page of pending rows had no room for it; it needs the
-- flash only if that page was full or the table has a log.
pub record LoadsNext (step seed n : ℕ) (t : LoggedTable 64 64) (f : FlashState) (u : LoggedTable 64 64) (g : FlashState) : Type 0 where
  pub accepted : refusal_of t (next_row t step seed n) ≡ None
  pub last : last_key_in (table_in u) ≡ Some (next_row t step seed n).key
  pub stores : Stores (table_in t) (next_row t step seed n).key (next_row t step seed n).values None (table_in u)
  pub logs : HaveLogged (layout_in (table_in t)) (next_row t step seed n) (log_in t) (log_in u)
  pub quiet : NeedsNoOperation t None → g ≡ f
  pub power : f.is_on ≡ true → g.is_on ≡ true
  pub log_page : PutLogged t (next_row t step seed n) f g
  pub sealed : (HasRoom (table_in t) → ⊥) → HasMadePage t None f g
  pub writes : WritesOne t f g
  pub same : IsSamePlan t u

-- so many were put
abbrev pub Loads : ℕ → ℕ → ℕ → LoggedTable 64 64 → FlashState → LoggedTable 64 64 → FlashState → Type 0
Loads step seed zero t f u g = (u ≡ t) × (g ≡ f)
Loads step seed (suc n) t f u g = (mid : LoggedTable 64 64) × (m : FlashState) × Loads step seed n t f mid m × LoadsNext step seed n mid m u g

-- What became of the one behind them: none was asked for; or the table refuses it, and nothing changes; or an operation failed.
abbrev pub LoadEnds : ℕ → ℕ → ℕ → LoggedTable 64 64 → FlashState → Result (Unit {0}) PutRefusal → LoggedTable 64 64 → FlashState → Type 0
LoadEnds step seed n t f (Ok done) u g = (u ≡ t) × (g ≡ f)
LoadEnds step seed n t f (Err refusal) u g = RefusesAs (refusal_of t (next_row t step seed n)) (Err refusal) × RefusedSame t f refusal u g × WritesOne t f g

-- so many were put, and then it ended
pub record PutsRecords (step seed n : ℕ) (t : LoggedTable 64 64) (f : FlashState) (outcome : Result (Unit {0}) PutRefusal) (u : LoggedTable 64 64) (g : FlashState) : Type 0 where
  pub left : LoggedTable 64 64
  pub left_f : FlashState
  pub puts : Loads step seed n t f left left_f
  pub ends : LoadEnds step seed n left left_f outcome u g

-- a fault of the flash has its cause in the load, and none is refused as stopped, by a table that runs
abbrev pub LoadFails : FlashState → FlashState → PutRefusal → Type 0
LoadFails f g (put.Flash fault) = CausedBy f fault g
LoadFails f g put.Stopped = ⊥
LoadFails f g _ = Unit {0}
