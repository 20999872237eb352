-- A store after a call of one of its tables, which leaves the pages of the others.
use Rattle.std.proofs.Common.{◌≡◌, ℕ, ◌<◌, Bool, true, false, IsTrue, IfErr, IsErrAnd, Some, Result, Ok, Err, List, length, map, get_or, refl, sym, ◌∙◌, ap, subst, MatchBool, OnOk, option_map, slice_get}
use Rattle.std.proofs.lemmas.List.{length-map}
use Rattle.std.proofs.lemmas.Option.{slice_get-map, slice_get_read}
use Rattle.std.proofs.lemmas.Iterator.Adapters.{option_map_id}
use Rattle.fl_flash.specs.Flash.{FlashState, Goes, page_at}
use Rattle.fl_model.specs.Record.{Config, Plan, Record}
use Rattle.fl_model.specs.Row.{Row}
use Rattle.fl_model.specs.Table as model
use Rattle.fl_model.specs.Table.{flushed, lose, put_record}
use Rattle.fl_model.specs.Within.{with_table}
use Rattle.fl_model.specs.Work.{Device}
use Rattle.fl_model.proofs.Among.{changed-there, changed-elsewhere}
use Rattle.fl_rlc.specs.Logged.{Rests, Stands}
use Rattle.fl_rlc.specs.Outcomes as outcomes
use Rattle.fl_rlc.specs.Paged.{PutLogged}
use Rattle.fl_rlc.specs.Refusal.{RefusedSame}
use Rattle.fl_rlc.specs.Table.{IsSamePlan, OutsideStands, log_in, table_in}
use Rattle.fl_rlc.specs.declared.table.LoggedTable.{LoggedTable}
use Rattle.fl_rlc.proofs.PutFrames.{logged-same}
use Rattle.fl_table.specs.declared.faults.FlushFault.{FlushFault}
use Rattle.fl_table.specs.declared.faults.FlushFault.TheVariants as flush
use Rattle.fl_table.specs.declared.faults.PutRefusal.{PutRefusal}
use Rattle.fl_table.specs.declared.faults.PutRefusal.TheVariants as put
use Rattle.fl_store.specs.Calls.{Located, PutEnds, FlushEnds, IsRefusedSame}
use Rattle.fl_store.specs.Store.{Holds}
use Rattle.fl_store.specs.Tables.{first_of, entries_with, EntryStands, TablesStand}
use Rattle.fl_store.specs.declared.tables.Entry.{Entry}
use Rattle.fl_store.proofs.CallsInTurn.{planned-same}
use Rattle.fl_store.proofs.TablesChanged.{entry-off, length-changed, set-same, some-is, tables-changed}
use Rattle.fl_store.proofs.Worked.{medium-goes}

-- The tables, over two flashes.
module _ (plans : List Plan) (tables : List model.Table) (entries : List Entry) (at : ℕ) (entry : Entry) (plan : Plan) (table : model.Table) (u : LoggedTable 64 64) (f g : FlashState) (h : TablesStand f (λ i. true) plans entries tables)
    (here : slice_get entries at ≡ Some entry) (plan_is : slice_get plans at ≡ Some plan) (table_is : slice_get tables at ≡ Some table) (goes : Goes f g) (same : IsSamePlan entry.table u) (outside : OutsideStands entry.table (page_at f) (page_at g)) where
  stood : EntryStands entry f true (first_of plans at) plan table
  stood = h.each at plan entry table plan_is here table_is

  abbrev now_there : Entry
  now_there = record { name = entry.name; table = u }

  entry-now : (mounted : Bool) (after : model.Table) → MatchBool mounted (Stands u g (first_of plans at) plan after) (Rests g (first_of plans at) plan after) → (other : Plan) → slice_get plans at ≡ Some other → EntryStands now_there g mounted (first_of plans at) other after
  entry-now mounted after on_flash other e =
      subst (λ p. EntryStands now_there g mounted (first_of plans at) p after) (some-is (slice_get plans at) plan other plan_is e)
      (record { named = stood.named; geometry = stood.geometry ∙ sym goes.geometry; planned = planned-same entry.table u (first_of plans at) plan stood.planned same; on_flash = on_flash })

  -- the operations of one of them were done
  pub tables-done : (after : model.Table) → Stands u g (first_of plans at) plan after → TablesStand g (λ i. true) plans (entries_with entries at entry u) (with_table at tables after)
  tables-done after stands =
      tables-changed f g (λ i. true) (λ i. true) plans entries tables (with_table at tables after) at entry now_there (λ x. x) after
      h here outside goes.geometry (length-changed at after tables) (changed-there at table after tables table_is)
      (λ i other. changed-elsewhere at i after tables other ∙ sym (option_map_id (slice_get tables i)))
      (entry-now true after stands) (λ i p e x other k. k)

  -- .. or one failed, and what was in memory is lost
  pub tables-broken : (state : model.Table) → Rests g (first_of plans at) plan (lose state) → TablesStand g (λ i. false) plans (entries_with entries at entry u) (map lose (with_table at tables state))
  tables-broken state rests =
      let left = with_table at tables state in
      tables-changed f g (λ i. true) (λ i. false) plans entries tables (map lose left) at entry now_there lose (lose state)
      h here outside goes.geometry (length-map left lose ∙ length-changed at state tables)
      (slice_get-map lose left at ∙ ap (option_map lose) (changed-there at table state tables table_is))
      (λ i other. slice_get-map lose left i ∙ ap (option_map lose) (changed-elsewhere at i state tables other))
      (entry-now false (lose state) rests) (λ i p e x other k. entry-off e g true (first_of plans i) p x k)

-- A store that holds them.
pub stands-here : (config : Config) (tables : List model.Table) (entries : List Entry) (at : ℕ) (entry : Entry) (plan : Plan) (table : model.Table) (f : FlashState) → Holds config entries f true tables → slice_get entries at ≡ Some entry → Located config tables at plan table →
    Stands entry.table f (first_of config.plans at) plan table
stands-here config tables entries at entry plan table f h here own = (h.stand.each at plan entry table own.plan_is here own.table_is).on_flash

module _ (config : Config) (tables : List model.Table) (entries : List Entry) (at : ℕ) (entry : Entry) (plan : Plan) (table : model.Table) (u : LoggedTable 64 64) (f g : FlashState) (h : Holds config entries f true tables)
    (here : slice_get entries at ≡ Some entry) (own : Located config tables at plan table) where
  abbrev first : ℕ
  first = first_of config.plans at

  module _ (goes : Goes f g) (same : IsSamePlan entry.table u) (outside : IsTrue f.media.tells → OutsideStands entry.table (page_at f) (page_at g)) where
    holds-done : (after : model.Table) → Stands u g first plan after → Holds config (entries_with entries at entry u) g true (with_table at tables after)
    holds-done after stands = record {
      medium = medium-goes config f g goes h.medium;
      stand = tables-done config.plans tables entries at entry plan table u f g h.stand here own.plan_is own.table_is goes same (outside h.medium.told) after stands;
    }

    holds-broken : (state : model.Table) → Rests g first plan (lose state) → Holds config (entries_with entries at entry u) g false (map lose (with_table at tables state))
    holds-broken state rests = record {
      medium = medium-goes config f g goes h.medium;
      stand = tables-broken config.plans tables entries at entry plan table u f g h.stand here own.plan_is own.table_is goes same (outside h.medium.told) state rests;
    }

    pub put-ends : (item : Record) (rose : Bool) (device : Device) (result : Result (Unit {0}) PutRefusal) → outcomes.PutEnds first plan item table rose device result u f g →
        PutEnds config tables at plan table item rose device result (entries_with entries at entry u) g
    put-ends item rose device (Ok done) e =
        (e.0, record { now = e.1.now; did = e.1.did; whole = e.1.whole; counts = e.1.counts; power = e.1.power; holds = holds-done (put_record plan item table) e.1.stands })
    put-ends item rose device (Err (put.Flash fault)) e =
        (e.0, record { now = e.1.now; did = e.1.did; answer = e.1.answer; counts = e.1.counts; holds = holds-broken e.1.now.state e.1.rests })
    put-ends item rose device (Err put.Stopped) e = absurd e
    put-ends item rose device result e = e

    pub flush-ends : (rose : Bool) (device : Device) (result : Result (Unit {0}) FlushFault) → outcomes.FlushEnds first plan table rose device result u f g →
        FlushEnds config tables at plan table rose device result (entries_with entries at entry u) g
    flush-ends rose device (Ok done) e =
        record { now = e.now; did = e.did; whole = e.whole; counts = e.counts; power = e.power; holds = holds-done (flushed plan table) e.stands }
    flush-ends rose device (Err (flush.Flash fault)) e = record { now = e.now; did = e.did; answer = e.answer; counts = e.counts; holds = holds-broken e.now.state e.rests }
    flush-ends rose device (Err flush.Stopped) e = absurd e

-- ---- whatever the tables hold

-- the table at a place
pub entry-at : (entries : List Entry) (at : ℕ) (entry : Entry) → at < length entries → entry ≡ get_or entries at entry → slice_get entries at ≡ Some entry
entry-at entries at entry within is = slice_get_read entries (length entries) at entry refl within is

pub own-entry : (entries : List Entry) (at : ℕ) (entry other : Entry) → at < length entries → entry ≡ get_or entries at entry → slice_get entries at ≡ Some other → other ≡ entry
own-entry entries at entry other within is there = some-is (slice_get entries at) other entry there (entry-at entries at entry within is)

module _ (entries : List Entry) (at : ℕ) (entry : Entry) (u : LoggedTable 64 64) (here : slice_get entries at ≡ Some entry) where
  pub same-entries : u ≡ entry.table → entries_with entries at entry u ≡ entries
  same-entries e = ap (λ t. entries_with entries at entry t) e ∙ set-same entries at entry here

  refused-so : (f g : FlashState) (e : PutRefusal) → RefusedSame entry.table f e u g → IsRefusedSame entries f e (entries_with entries at entry u) g
  refused-so f g (put.Flash fault) h = tt
  refused-so f g refusal h = (same-entries h.0, h.1)

  pub put-refused : (f g : FlashState) (result : Result (Unit {0}) PutRefusal) → IfErr result (λ e. RefusedSame entry.table f e u g) → IfErr result (λ e. IsRefusedSame entries f e (entries_with entries at entry u) g)
  put-refused f g (Ok done) h = tt
  put-refused f g (Err e) h = refused-so f g e h

  -- a flush of a table that isn't mounted
  pub flush-refused : (result : Result (Unit {0}) FlushFault) → (result ≡ Err flush.Stopped → (table_in u ≡ table_in entry.table) × (log_in u ≡ log_in entry.table)) → result ≡ Err flush.Stopped → entries_with entries at entry u ≡ entries
  flush-refused result h is = let k = h is in same-entries (logged-same entry.table u k.0 k.1)

-- what a put logged is said of the entry at the place
pub put-logged : (entries : List Entry) (at : ℕ) (entry other : Entry) (row : Row) (f g : FlashState) (result : Result (Unit {0}) PutRefusal) → slice_get entries at ≡ Some entry → slice_get entries at ≡ Some other → Goes f g → OnOk result (PutLogged entry.table row f g) → OnOk result (PutLogged other.table row f g)
put-logged entries at entry other row f g result here there goes h = subst (λ (x : Entry). OnOk result (PutLogged x.table row f g)) (some-is (slice_get entries at) entry other here there) h

pub on-ok : {T E : Type 0} (A B : Type 0) (result : Result T E) → OnOk result (A → B) → A → OnOk result B
on-ok A B (Ok done) h a = h a
on-ok A B (Err e) h a = tt

-- what a `?` hands up
pub err-is : {T E : Type 0} (result : Result T E) (e : E) → IsErrAnd result (λ other. other ≡ e) → result ≡ Err e
err-is (Ok done) e h = absurd h
err-is (Err other) e h = ap (λ x. Err x) h
