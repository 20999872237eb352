-- What a call of one table leaves of all tables in memory.
use Rattle.std.proofs.Common.{◌≡◌, ℕ, zero, suc, ◌≤◌, Bool, true, false, not, ◌&&◌, ◌||◌, None, Some, Result, Ok, Err, List, [], ◌∷◌, length, refl, sym, ◌∙◌, ap, subst, arith, OnOk, option_map, unwrap_or, slice_get, length-set}
use Rattle.fl_model.specs.Record.{Record, RowLayout}
use Rattle.fl_rlc.specs.Rows.{AreBegun, HaveLogged}
use Rattle.fl_rlc.specs.Table.{IsSamePlan, is_running, is_stopped, log_in, table_in}
use Rattle.fl_rlc.specs.declared.table.LoggedTable.{LoggedTable}
use Rattle.fl_table.specs.BlobAt.{has_blobs}
use Rattle.fl_parts.proofs.BlobsOfTable.{same-some}
use Rattle.fl_table.specs.Causes.{flush_breaks, put_breaks}
use Rattle.fl_table.specs.Look.{last_key_in, layout_in}
use Rattle.fl_table.specs.Memory.{pending_in}
use Rattle.fl_table.specs.Stored.{IsEmptied, Stores}
use Rattle.fl_table.specs.declared.faults.FlushFault.{FlushFault}
use Rattle.fl_table.specs.declared.faults.PutRefusal.{PutRefusal}
use Rattle.fl_store.specs.Calls.{RunsAt}
use Rattle.fl_store.specs.InMemory.{AreSameTables, Becomes, Flushes, GoesOn, LeavesOthers, Takes}
use Rattle.fl_store.specs.Mounting.{AreSameNames, AreSamePlans}
use Rattle.fl_store.specs.Tables.{entries_with}
use Rattle.fl_store.specs.declared.tables.Entry.{Entry}
use Rattle.fl_store.proofs.Planned.{names-still, names-with, plans-still, plans-with}
use Rattle.fl_store.proofs.TablesChanged.{set-elsewhere, set-here, some-is}
use Rattle.fl_store.proofs.TablesLie.{runs-with}

-- ---- what is asked of each table

-- what each table answers as it did, the one at a place does
asked-same : {X : Type 0} (ask : Entry → X) (none : X) (old new : List Entry) → length new ≡ length old → ((i : ℕ) (was now : Entry) → slice_get old i ≡ Some was → slice_get new i ≡ Some now → ask now ≡ ask was) → (at : ℕ) →
    unwrap_or (option_map ask (slice_get new at)) none ≡ unwrap_or (option_map ask (slice_get old at)) none
asked-same ask none [] [] many each at = refl
asked-same ask none [] (now ∷ new) many each at = absurd (omega (arith, many))
asked-same ask none (was ∷ old) [] many each at = absurd (omega (arith, many))
asked-same ask none (was ∷ old) (now ∷ new) many each zero = each 0 was now refl refl
asked-same ask none (was ∷ old) (now ∷ new) many each (suc at) = asked-same ask none old new (omega (arith, many)) (λ i. each (suc i)) at

pub tables-same : (old new : List Entry) → length new ≡ length old → AreSameNames old new → AreSamePlans old new → AreSameTables old new
tables-same old new many names plans = record {
  names = names;
  plans = plans;
  columns = asked-same (λ (e : Entry). length (layout_in (table_in e.table)).columns) 0 old new many (λ i was now p q. ap (λ (l : RowLayout). length l.columns) (plans i was now p q).table.layout);
  blobs = asked-same (λ (e : Entry). has_blobs (table_in e.table)) false old new many (λ i was now p q. same-some (table_in was.table).blobs (table_in now.table).blobs (plans i was now p q).table.blobs);
}

-- ---- a call of the table at a place

module _ (entries : List Entry) (at : ℕ) (entry : Entry) (u : LoggedTable 64 64) (here : slice_get entries at ≡ Some entry) where
  abbrev now_there : Entry
  now_there = record { name = entry.name; table = u }

  pub same-after : IsSamePlan entry.table u → AreSameTables entries (entries_with entries at entry u)
  same-after same =
      tables-same entries (entries_with entries at entry u) (length-set entries at now_there) (names-with entries entries at entry u here (names-still entries))
      (plans-with entries entries at entry u here same (plans-still entries))

  becomes : (P : LoggedTable 64 64 → LoggedTable 64 64 → Type 0) → P entry.table u → Becomes P entries at (entries_with entries at entry u)
  becomes P h was now p q =
      let was_is : entry ≡ was = some-is (slice_get entries at) entry was here p in
      let now_is : now_there ≡ now = set-here entries at now_there now q in
      subst (λ (x : Entry). P x.table now.table) was_is (subst (λ (x : Entry). P entry.table x.table) now_is h)

  pub leaves-others : (breaks : Bool) → is_running u ≡ (is_running entry.table && not breaks) → is_stopped u ≡ (breaks || is_stopped entry.table) → LeavesOthers breaks entries at (entries_with entries at entry u)
  leaves-others breaks running stopped = record {
    others = λ i other. set-elsewhere entries at i now_there other;
    own = becomes (GoesOn breaks) (record { running = running; stopped = stopped });
  }

  still-run : is_running u ≡ (is_running entry.table && true) → (i : ℕ) → RunsAt entries i → RunsAt (entries_with entries at entry u) i
  still-run is i runs = runs-with entries at entry u here i runs (λ own. is ∙ ap (λ b. b && true) (subst (RunsAt entries) (sym own) runs entry here))

  pub put-runs : (result : Result (Unit {0}) PutRefusal) → is_running u ≡ (is_running entry.table && not (put_breaks result)) → OnOk result ((i : ℕ) → RunsAt entries i → RunsAt (entries_with entries at entry u) i)
  put-runs (Ok done) is = still-run is
  put-runs (Err e) is = tt

  pub flush-runs : (result : Result (Unit {0}) FlushFault) → is_running u ≡ (is_running entry.table && not (flush_breaks result)) → OnOk result ((i : ℕ) → RunsAt entries i → RunsAt (entries_with entries at entry u) i)
  flush-runs (Ok done) is = still-run is
  flush-runs (Err e) is = tt

  pub put-takes : (item : Record) (result : Result (Unit {0}) PutRefusal) → OnOk result (last_key_in (table_in u) ≡ Some item.key) → OnOk result (Stores (table_in entry.table) item.key item.values item.blob (table_in u)) →
      OnOk result (HaveLogged (layout_in (table_in entry.table)) (record { key = item.key; values = item.values; blob = None }) (log_in entry.table) (log_in u)) → OnOk result (Becomes (Takes item) entries at (entries_with entries at entry u))
  put-takes item (Ok done) last stores logs = becomes (Takes item) (record { last = last; stores = stores; logs = logs })
  put-takes item (Err e) last stores logs = tt

  pub flush-flushes : (result : Result (Unit {0}) FlushFault) → OnOk result (pending_in (table_in u) ≡ 0) → last_key_in (table_in u) ≡ last_key_in (table_in entry.table) → OnOk result (1 ≤ pending_in (table_in entry.table) → IsEmptied (table_in entry.table) (table_in u)) →
      OnOk result (1 ≤ pending_in (table_in entry.table) → AreBegun (log_in entry.table) (log_in u)) → OnOk result (Becomes Flushes entries at (entries_with entries at entry u))
  flush-flushes (Ok done) none last seals begins = becomes Flushes (record { none = none; last = last; seals = seals; begins = begins })
  flush-flushes (Err e) none last seals begins = tt
