-- How a ship ends over two flashes that stand for tables.
use Rattle.std.proofs.Common.{◌≡◌, ℕ, ◌+◌, ◌≤◌, inl, inr, true, false, IsTrue, Option, None, Some, Result, Ok, Err, List, [], map, sym, ◌∙◌, ap, subst, arith}
use Rattle.std.specs.List.{slice_get}
use Rattle.std.proofs.lemmas.Bool.{true≢false}
use Rattle.fl_base.specs.Causes.{Rose, Appends}
use Rattle.fl_base.proofs.Appended.{appends-none}
use Rattle.fl_base.proofs.Risen.{rose-front, rose-back}
use Rattle.fl_store.specs.Store.{at_rest}
use Rattle.fl_store.specs.Named.{has_name}
use Rattle.fl_store.proofs.TableByName.{located-first, stand-named, first-named}
use Rattle.fl_store.proofs.TablesOnlyRead.{tables-read}
use Rattle.fl_store.proofs.Risen.{has_risen, risen-rose}
use Rattle.fl_store.proofs.Unmounted.{off, unmounted}
use Rattle.fl_flash.specs.Flash.{FlashState, Goes, page_at}
use Rattle.fl_flash.specs.declared.flash.FlashFault.{FlashFault}
use Rattle.fl_flash.specs.declared.flash.FlashFault.TheVariants.{PowerLost, Media}
use Rattle.fl_store.proofs.Changed.{own, holds}
use Rattle.fl_machine.specs.Step.{located_from, all_ready}
use Rattle.fl_model.specs.Bare.{bare_table}
use Rattle.fl_model.specs.Record.{Plan}
use Rattle.fl_model.specs.Table as model
use Rattle.fl_model.specs.Table.{lose}
use Rattle.fl_model.specs.Within.{with_table}
use Rattle.fl_frame.specs.Contents.{OnlyReads}
use Rattle.fl_page.specs.declared.fault.ReadFault.TheVariants as read
use Rattle.fl_rlc.specs.Logged.{Rests}
use Rattle.fl_rlc.specs.Table.{IsSamePlan, OutsideStands}
use Rattle.fl_rlc.specs.declared.table.LoggedTable.{LoggedTable}
use Rattle.fl_table.specs.declared.faults.FlushFault.TheVariants as flush
use Rattle.fl_parts.specs.declared.mount_fault.MountFault.{MountFault}
use Rattle.fl_table.specs.declared.faults.PutRefusal.TheVariants as put
use Rattle.fl_store.specs.Tables.{first_of, entries_with, IsNamed, TablesStand, TablesMounted, MountBreaks}
use Rattle.fl_store.specs.declared.tables.Entry.{Entry}
use Rattle.fl_store.proofs.TablesChanged.{AtPlace, some-is}
use Rattle.fl_ship.specs.Ends.{BothMounted, Holding, IsBroken, IsGapBetween, IsUnread, MountsAll, ShipsSo, TablesShip}
use Rattle.fl_ship.specs.Tables.{StopCausedBy, ShipLeaves, TellsShipped, mount_status, standing_on, stop_status, told_of}
use Rattle.fl_ship.specs.declared.fault.ShipFault.TheVariants.{Read, Put, Flush}
use Rattle.fl_ship.specs.declared.side.Side.{Side}
use Rattle.fl_ship.specs.declared.side.Side.TheVariants.{Source, Copy}
use Rattle.fl_ship.specs.declared.status.ShipStatus.{ShipStatus}
use Rattle.fl_ship.specs.declared.status.ShipStatus.TheVariants.{Done, OutWrite, NoMemory, NotImage, Device, BadImage, NoTable, Gap, OtherForm, Spent}
use Rattle.fl_ship.specs.declared.stop.Stop.{Stop}
use Rattle.fl_ship.specs.declared.stop.Stop.TheVariants as stop
use Rattle.fl_ship.proofs.Statuses.{mount-device}

-- ---- all tables of a flash were mounted

abbrev mounted-all : (plans : List Plan) (tables : List model.Table) (f m h : FlashState) (now : List Entry) → m.media.faults ≤ h.media.faults → TablesMounted plans tables (has_risen f m) at_rest now m → MountsAll plans tables f.media.faults h.media.faults
mounted-all plans tables f m h now later mt = record {
  rose = has_risen f m;
  risen = λ r. rose-front f.media.faults m.media.faults h.media.faults later (risen-rose f m r);
  end = mt.end;
  did = mt.did;
}

-- the table at the place of the entry with a name is the one with the name
located-there : (f m : FlashState) (plans : List Plan) (tables ready : List model.Table) (name : List ℕ) (entries now : List Entry) (at : ℕ) (entry : Entry) → TablesStand f (λ i. false) plans entries tables → IsNamed entries name at → (own : AtPlace m (λ i. true) plans now ready at entry) →
    located_from 0 plans ready name ≡ Some (record { place = at; plan = own.plan; table = own.table })
located-there f m plans tables ready name entries now at entry stood named own =
    let own_name = first-named plans entries (stand-named f (λ i. false) plans entries tables stood) name at named own.plan own.plan_is in
    located-first plans ready 0 at name own.plan own.table own.plan_is own.table_is own_name.0 own_name.1
    ∙ ap (λ (n : ℕ). Some (record { place = n; plan = own.plan; table = own.table })) (let e : 0 + at ≡ at = omega arith in e)

module _ (plans : List Plan) (sources copies : List model.Table) (name : List ℕ) (count : ℕ) (has : has_name name plans ≡ true) (told : Option (List ℕ)) where
  -- ---- the source's tables aren't mounted

  pub source-fails : (f m g : FlashState) (now c_entries : List Entry) → TablesStand g (λ i. false) plans c_entries copies → (bad : MountFault) (at : ℕ) → MountBreaks plans sources (has_risen f m) at_rest bad now m →
      TablesShip plans sources copies name count (told_of f.media m.media g.media g.media told told) (standing_on plans m now g c_entries) (mount_status Source bad at)
  source-fails f m g now c_entries stood bad at ends =
      let u = unmounted plans sources name f m told now has bad at ends in
      subst (λ (s : ShipStatus). TablesShip plans sources copies name count (told_of f.media m.media g.media g.media told told) (standing_on plans m now g c_entries) s) (sym (mount-device Source bad at u.0))
      (u.1.0, appends-none told, inl (u.1.1, stood))

  -- ---- .. nor are the copy's, behind the source's

  pub copy-fails : (f m g n : FlashState) (now c_now : List Entry) → TablesMounted plans sources (has_risen f m) at_rest now m → (bad : MountFault) (at : ℕ) → MountBreaks plans copies (has_risen g n) at_rest bad c_now n →
      TablesShip plans sources copies name count (told_of f.media m.media g.media n.media told told) (standing_on plans m now n c_now) (mount_status Copy bad at)
  copy-fails f m g n now c_now mt bad at ends =
      let u = unmounted plans copies name g n told c_now has bad at ends in
      subst (λ (s : ShipStatus). TablesShip plans sources copies name count (told_of f.media m.media g.media n.media told told) (standing_on plans m now n c_now) s) (sym (mount-device Copy bad at u.0)) (
        u.1.0,
        appends-none told,
        inl (record {
          source = mounted-all plans sources f m m now (omega arith) mt;
          holds = off m true plans now (all_ready plans mt.end.tables) mt.stand;
          fails = u.1.1;
        }),
      )

-- ---- both are mounted, and a table was shipped

module _ (plans : List Plan) (sources copies : List model.Table) (name : List ℕ) (count : ℕ) (f m h g n k : FlashState) (entries now c_entries c_now : List Entry) (at : ℕ) (entry c_entry : Entry) (u : LoggedTable 64 64)
    (earlier : f.media.faults ≤ m.media.faults) (only : OnlyReads m h) (stood : TablesStand f (λ i. false) plans entries sources) (named : IsNamed entries name at) (here : slice_get now at ≡ Some entry) (mt : TablesMounted plans sources (has_risen f m) at_rest now m)
    (c_earlier : g.media.faults ≤ n.media.faults) (goes : Goes n k) (same : IsSamePlan c_entry.table u) (outside : IsTrue n.media.tells → OutsideStands c_entry.table (page_at n) (page_at k)) (tells : IsTrue m.media.tells) (c_tells : IsTrue n.media.tells)
    (c_stood : TablesStand g (λ i. false) plans c_entries copies) (c_named : IsNamed c_entries name at) (c_here : slice_get c_now at ≡ Some c_entry) (c_mt : TablesMounted plans copies (has_risen g n) at_rest c_now n) where
  abbrev from : AtPlace m (λ i. true) plans now (all_ready plans mt.end.tables) at entry
  from = own plans sources f m now at entry tells here mt

  abbrev to : AtPlace n (λ i. true) plans c_now (all_ready plans c_mt.end.tables) at c_entry
  to = own plans copies g n c_now at c_entry c_tells c_here c_mt

  one-plan : to.plan ≡ from.plan
  one-plan = some-is (slice_get plans at) to.plan from.plan to.plan_is from.plan_is

  abbrev holding : Holding
  holding = standing_on plans h now k (entries_with c_now at c_entry u)

  both-mounted : (told told_now : Option (List ℕ)) (Left : Plan → model.Table → model.Table → model.Table → Type 0) (after : model.Table) → Left to.plan from.table to.table after → Rests k (first_of plans at) to.plan (lose after) →
      BothMounted plans sources copies name (told_of f.media h.media g.media k.media told told_now) holding Left
  both-mounted told told_now Left after left rests = record {
    source = mounted-all plans sources f m h now only.faults mt;
    copy = mounted-all plans copies g n k c_now goes.faults c_mt;
    from = record { place = at; plan = from.plan; table = from.table };
    found = located-there f m plans sources (all_ready plans mt.end.tables) name entries now at entry stood named from;
    to = record { place = at; plan = to.plan; table = to.table };
    copy_found = located-there g n plans copies (all_ready plans c_mt.end.tables) name c_entries c_now at c_entry c_stood c_named to;
    after = after;
    left = subst (λ (p : Plan). Left p from.table to.table after) one-plan left;
    holds = off h true plans now (all_ready plans mt.end.tables) (tables-read m h only plans now (all_ready plans mt.end.tables) mt.stand);
    copy_holds = holds plans copies g n c_now at c_entry c_tells c_here c_mt k u goes same outside after rests;
  }

  rises : Rose m.media.faults h.media.faults → Rose f.media.faults h.media.faults
  rises r = rose-back f.media.faults m.media.faults h.media.faults earlier r

  c_rises : Rose n.media.faults k.media.faults → Rose g.media.faults k.media.faults
  c_rises r = rose-back g.media.faults n.media.faults k.media.faults c_earlier r

  abbrev Shipped : Result ℕ Stop → Type 0
  Shipped result = ShipLeaves (first_of plans at) to.plan (bare_table from.table) to.table count k result

  abbrev Ends : Option (List ℕ) → Option (List ℕ) → ShipStatus → Type 0
  Ends told told_now status = TablesShip plans sources copies name count (told_of f.media h.media g.media k.media told told_now) holding status

  -- all records that were asked for are in the copy, and it was told how many
  pub shipped : (told told_now : Option (List ℕ)) (faults faults_now : ℕ) (sent : ℕ) (status : ShipStatus) → Shipped (Ok sent) → TellsShipped sent told told_now faults faults_now status → Ends told told_now status
  shipped told told_now faults faults_now sent (Done n) ships tell =
      subst (λ (s : ℕ). Ends told told_now (Done s)) (sym tell.0) (both-mounted told told_now (ShipsSo count (Ok sent)) ships.after ships.stops ships.rests, tell.1)
  shipped told told_now faults faults_now sent OutWrite ships tell =
      (sent, both-mounted told told_now (ShipsSo count (Ok sent)) ships.after ships.stops ships.rests, tell.0)
  shipped told told_now faults faults_now sent NoMemory ships tell = absurd tell
  shipped told told_now faults faults_now sent (Device side) ships tell = absurd tell
  shipped told told_now faults faults_now sent (BadImage side table) ships tell = absurd tell
  shipped told told_now faults faults_now sent (Gap last oldest) ships tell = absurd tell
  shipped told told_now faults faults_now sent Spent ships tell = absurd tell
  shipped told told_now faults faults_now sent (NotImage side) ships tell = absurd tell
  shipped told told_now faults faults_now sent NoTable ships tell = absurd tell
  shipped told told_now faults faults_now sent OtherForm ships tell = absurd tell

  -- .. or they aren't
  module _ (told : Option (List ℕ)) where
    quiet : Appends told told []
    quiet = appends-none told

    unread : (e : FlashFault) → Shipped (Err (stop.Ship (Read (read.Flash e)))) → StopCausedBy m h n k (stop.Ship (Read (read.Flash e))) → Ends told told (stop_status (stop.Ship (Read (read.Flash e))) at)
    unread Media ships cause = (rises cause.0, quiet, inr (both-mounted told told (IsUnread count) ships.after ships.stops ships.rests))
    unread PowerLost ships cause = absurd (true≢false (sym mt.power ∙ cause))

    unput : (e : FlashFault) → Shipped (Err (stop.Ship (Put (put.Flash e)))) → StopCausedBy m h n k (stop.Ship (Put (put.Flash e))) → Ends told told (stop_status (stop.Ship (Put (put.Flash e))) at)
    unput Media ships cause = (c_rises cause, quiet, inr (both-mounted told told (IsBroken count) ships.after (inl ships.stops) ships.rests))
    unput PowerLost ships cause = absurd ships.stops.1

    unflushed : (e : FlashFault) → Shipped (Err (stop.Ship (Flush (flush.Flash e)))) → StopCausedBy m h n k (stop.Ship (Flush (flush.Flash e))) → Ends told told (stop_status (stop.Ship (Flush (flush.Flash e))) at)
    unflushed Media ships cause = (c_rises cause, quiet, inr (both-mounted told told (IsBroken count) ships.after (inr ships.stops) ships.rests))
    unflushed PowerLost ships cause = absurd ships.stops.1

    pub stopped : (why : Stop) → Shipped (Err why) → StopCausedBy m h n k why → Ends told told (stop_status why at)
    stopped (stop.Gap last oldest) ships cause = (both-mounted told told (IsGapBetween last oldest) ships.after ships.stops ships.rests, quiet)
    stopped (stop.Ship (Read (read.Flash e))) ships cause = unread e ships cause
    stopped (stop.Ship (Read (read.BadPage bad))) ships cause = ships.stops
    stopped (stop.Ship (Put (put.Flash e))) ships cause = unput e ships cause
    stopped (stop.Ship (Put put.Spent)) ships cause = (both-mounted told told (ShipsSo count (Err (Put put.Spent))) ships.after ships.stops ships.rests, quiet)
    stopped (stop.Ship (Put (put.Key last))) ships cause = absurd cause
    stopped (stop.Ship (Put (put.Columns wanted))) ships cause = absurd cause
    stopped (stop.Ship (Put (put.Value column))) ships cause = absurd cause
    stopped (stop.Ship (Put (put.Blob limit))) ships cause = absurd cause
    stopped (stop.Ship (Put put.Stopped)) ships cause = absurd cause
    stopped (stop.Ship (Flush (flush.Flash e))) ships cause = unflushed e ships cause
    stopped (stop.Ship (Flush flush.Stopped)) ships cause = absurd cause

-- ---- what each flash stands for afterwards, whatever the other one holds

-- its tables aren't mounted: the medium failed
module _ (plans : List Plan) (tables : List model.Table) (name : List ℕ) (has : has_name name plans ≡ true) (f m : FlashState) (now : List Entry) (bad : MountFault) (at : ℕ) (ends : MountBreaks plans tables (has_risen f m) at_rest bad now m) where
  pub broken-left : (after : List model.Table) × TablesStand m (λ i. false) plans now after
  broken-left = let u = unmounted plans tables name f m None now has bad at ends in (map lose u.1.1.end.tables, u.1.1.holds)

  pub broken-device : (side : Side) → mount_status side bad at ≡ Device side
  broken-device side = mount-device side bad at (unmounted plans tables name f m None now has bad at ends).0

-- they are, and were read at the most
pub read-left : (plans : List Plan) (tables : List model.Table) (f m h : FlashState) (now : List Entry) → OnlyReads m h → TablesMounted plans tables (has_risen f m) at_rest now m → (after : List model.Table) × TablesStand h (λ i. false) plans now after
read-left plans tables f m h now only mt =
    (map lose (all_ready plans mt.end.tables), off h true plans now (all_ready plans mt.end.tables) (tables-read m h only plans now (all_ready plans mt.end.tables) mt.stand))

pub mounted-left : (plans : List Plan) (tables : List model.Table) (f m : FlashState) (now : List Entry) → TablesMounted plans tables (has_risen f m) at_rest now m → (after : List model.Table) × TablesStand m (λ i. false) plans now after
mounted-left plans tables f m now mt = (map lose (all_ready plans mt.end.tables), off m true plans now (all_ready plans mt.end.tables) mt.stand)

-- .. and one of them was changed
pub changed-left : (plans : List Plan) (tables : List model.Table) (f m : FlashState) (now : List Entry) (at : ℕ) (entry : Entry) (tells : IsTrue m.media.tells) (here : slice_get now at ≡ Some entry) (mt : TablesMounted plans tables (has_risen f m) at_rest now m) (h : FlashState) (u : LoggedTable 64 64) →
    Goes m h → IsSamePlan entry.table u → (IsTrue m.media.tells → OutsideStands entry.table (page_at m) (page_at h)) → ((after : model.Table) × Rests h (first_of plans at) (own plans tables f m now at entry tells here mt).plan after) →
    (after : List model.Table) × TablesStand h (λ i. false) plans (entries_with now at entry u) after
changed-left plans tables f m now at entry tells here mt h u goes same outside left =
    let rests = subst (λ (x : model.Table). Rests h (first_of plans at) (own plans tables f m now at entry tells here mt).plan x) left.1.settled.lost left.1 in
    (map lose (with_table at (all_ready plans mt.end.tables) left.0), holds plans tables f m now at entry tells here mt h u goes same outside left.0 rests)
