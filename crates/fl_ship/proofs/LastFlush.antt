-- The flush behind the rows of a ship.
use Rattle.std.proofs.Common.{◌≡◌, ℕ, Bool, true, false, IsTrue, Ok, Err, List, [], refl, sym, ◌∙◌, subst, append-nil}
use Rattle.fl_store.proofs.Risen.{has_risen}
use Rattle.fl_flash.specs.Flash.{FlashState, Goes}
use Rattle.fl_flash.specs.declared.flash.FlashFault.TheVariants.{PowerLost, Media}
use Rattle.fl_store.specs.Works.{Works}
use Rattle.fl_store.proofs.Failing.{seals-work}
use Rattle.fl_store.proofs.Works.{works-broken, works-done, works-uncut}
use Rattle.fl_model.specs.Record.{Record, Plan}
use Rattle.fl_model.specs.ShipWork.{TableShips}
use Rattle.fl_model.specs.Table as model
use Rattle.fl_model.specs.Table.{flushed, lose, table_seals}
use Rattle.fl_model.specs.Within.{effect_within, seals_within}
use Rattle.fl_model.specs.Work.{Device, PartEnd, PartProgress}
use Rattle.fl_model.proofs.Among.{seals-all_done}
use Rattle.fl_model.proofs.Performs.{performs-whole}
use Rattle.fl_rlc.specs.Logged.{Rests, Stands}
use Rattle.fl_rlc.specs.Outcomes.{FlushEnds}
use Rattle.fl_rlc.specs.declared.table.LoggedTable.{LoggedTable}
use Rattle.fl_parts.specs.Failing.{BySeals, FaultEnds}
use Rattle.fl_table.specs.declared.faults.FlushFault.{FlushFault}
use Rattle.fl_table.specs.declared.faults.FlushFault.TheVariants as flush
use Rattle.fl_store.proofs.TablesChanged.{off-rests}
use Rattle.fl_ship.specs.Puts.{HasPut}
use Rattle.fl_ship.specs.Rows.{EndsInFlush, FlushCausedBy, FlushesCopy, PutsWork, RowsPut, RowsShip, RowsWork, ShipsWork, WorksOn}
use Rattle.fl_ship.specs.declared.fault.ShipFault.{ShipFault}
use Rattle.fl_ship.specs.declared.fault.ShipFault.TheVariants.{Read, Put, Flush}
use Rattle.fl_ship.proofs.RowsWork.{ships-behind}

pub never : IsTrue false → ⊥
never e = cc

-- ---- a flush, where no cut is armed

module _ (first : ℕ) (plan : Plan) (table : model.Table) (t v : LoggedTable 64 64) (g h : FlashState) (goes : Goes g h) where
  abbrev DidFlush : Bool → Device → PartProgress model.Table → Type 0
  DidFlush rose device now = BySeals plan (table_seals plan table) table rose device now

  pub flush-done : (works : Works t g first plan table) → FlushEnds first plan table (has_risen g h) works.device (Ok tt) v g h → FlushesCopy first plan table v h (Ok tt)
  flush-done works ends = works-done first plan table t v g h works DidFlush (seals-work plan (table_seals plan table) table) goes (flushed plan table) ends

  pub flush-fails : (works : Works t g first plan table) (fault : FlushFault) → FlushEnds first plan table (has_risen g h) works.device (Err fault) v g h → FlushesCopy first plan table v h (Err (Flush fault))
  flush-fails works (flush.Flash Media) ends = let b = works-broken first plan table t v g h works DidFlush (seals-work plan (table_seals plan table) table) Media ends in (b.after, b.fails, b.rests)
  flush-fails works (flush.Flash PowerLost) ends = absurd (works-uncut first plan table t v g h works DidFlush (seals-work plan (table_seals plan table) table) ends)
  flush-fails works flush.Stopped ends = absurd ends

  -- ---- .. or one may be

  module _ (rose : Bool) (device : Device) where
    pub flush-works : FlushEnds first plan table rose device (Ok tt) v g h → WorksOn {X = Unit {0}} first plan (λ now. BySeals plan (table_seals plan table) table rose device now) v h (Ok tt)
    flush-works ends = record {
      now = ends.now;
      did = ends.did;
      ends = (ends.whole, ends.power);
      counts = ends.counts;
      rests = subst (λ (x : model.Table). Rests h first plan (lose x)) (sym (left-is ends)) (off-rests v h first plan (flushed plan table) true ends.stands);
      stands = λ whole. subst (λ (x : model.Table). Stands v h first plan x) (sym (left-is ends)) ends.stands;
    }
      where
        left-is : (ends : FlushEnds first plan table rose device (Ok tt) v g h) → ends.now.state ≡ flushed plan table
        left-is ends =
            (performs-whole (λ operation. operation.1) (effect_within plan) rose (seals_within plan (table_seals plan table) table) device table ends.now ends.did ends.whole).0 ∙ seals-all_done plan (table_seals plan table) table

    pub flush-breaks : (fault : FlushFault) → FlushEnds first plan table rose device (Err fault) v g h → WorksOn {X = Unit {0}} first plan (λ now. BySeals plan (table_seals plan table) table rose device now) v h (Err (Flush fault))
    flush-breaks (flush.Flash fault) ends = record {
      now = ends.now;
      did = ends.did;
      ends = ends.answer;
      counts = ends.counts;
      rests = ends.rests;
      stands = λ whole. absurd (subst (λ (e : PartEnd model.Table). FaultEnds e fault h) whole ends.answer);
    }
    flush-breaks flush.Stopped ends = absurd ends

-- ---- behind rows

module _ (first : ℕ) (plan : Plan) (table : model.Table) (Told : Type 0) (wanted : List Record) (t v : LoggedTable 64 64) (g h : FlashState) where
  -- they weren't all put, so that nothing is flushed
  pub ship-unput : (fault : ShipFault) → RowsPut first plan table Told wanted t g (Err fault) → RowsShip first plan table Told wanted t g (Err fault)
  ship-unput fault rows = record { given = rows.given; are = rows.are; after = rows.after; ships = rows.puts; rests = rows.rests; works = rows.works }

  module _ (n : ℕ) (rows : RowsPut first plan table Told wanted t g (Ok n)) where
    pub ship-done : FlushesCopy first plan rows.after v h (Ok tt) → RowsShip first plan table Told wanted v h (Ok n)
    ship-done works = record {
      given = rows.given;
      are = rows.are;
      after = flushed plan rows.after;
      ships = (rows.puts.0, (rows.after, rows.puts.1, refl));
      rests = off-rests v h first plan (flushed plan rows.after) true works.stands;
      works = λ goes. works;
    }

    pub ship-unflushed : (fault : ShipFault) → FlushesCopy first plan rows.after v h (Err fault) → RowsShip first plan table Told wanted v h (Err fault)
    ship-unflushed (Flush (flush.Flash Media)) (after, fails, rests) = record {
      given = rows.given;
      are = rows.are;
      after = after;
      ships = (rows.after, subst (λ (m : ℕ). HasPut plan rows.given m table rows.after) rows.puts.0 rows.puts.1, fails);
      rests = rests;
      works = λ goes. absurd (never goes);
    }
    ship-unflushed (Flush (flush.Flash PowerLost)) none = absurd none
    ship-unflushed (Flush flush.Stopped) none = absurd none
    ship-unflushed (Read fault) none = absurd none
    ship-unflushed (Put refusal) none = absurd none

  -- ---- whether a cut is armed or not

  module _ (Taken : ℕ → Type 0) (rose : Bool) (device : Device) where
    pub work-unput : (fault : ShipFault) → RowsWork first plan Told wanted (PutsWork Taken plan rose device table (Err fault)) t g (Err fault) → RowsWork first plan Told wanted (ShipsWork Taken plan rose device table (Err fault)) t g (Err fault)
    work-unput fault rows =
        let w = rows.works in
        record { given = rows.given; are = rows.are; works = record { now = w.now; did = w.did; ends = w.ends; counts = w.counts; rests = w.rests; stands = w.stands } }

    module _ (n : ℕ) (rows : RowsWork first plan Told wanted (PutsWork Taken plan rose device table (Ok n)) t g (Ok n)) where
      abbrev mid : PartProgress model.Table
      mid = rows.works.now

      abbrev Flushes : PartProgress model.Table → Type 0
      Flushes now = BySeals plan (table_seals plan mid.state) mid.state rose mid.device now

      ships : (now : PartProgress model.Table) → Flushes now → TableShips plan rose rows.given device table now
      ships now did = subst (λ (l : List Record). TableShips plan rose l device table now) (append-nil rows.given) (ships-behind plan rose rows.given [] device table mid now rows.works.did.1 did)

      ends-so : (now : PartProgress model.Table) → Flushes now → EndsInFlush plan rose rows.given device table now
      ends-so now did = record { mid = mid; before = rows.works.did.1; did = did }

      pub work-done : WorksOn {X = Unit {0}} first plan Flushes v h (Ok tt) → RowsWork first plan Told wanted (ShipsWork Taken plan rose device table (Ok n)) v h (Ok n)
      work-done w = record {
        given = rows.given;
        are = rows.are;
        works = record { now = w.now; did = (rows.works.did.0, ends-so w.now w.did, ships w.now w.did); ends = w.ends; counts = w.counts; rests = w.rests; stands = w.stands };
      }

      pub work-unflushed : (fault : ShipFault) → FlushCausedBy g h fault → WorksOn {X = Unit {0}} first plan Flushes v h (Err fault) → RowsWork first plan Told wanted (ShipsWork Taken plan rose device table (Err fault)) v h (Err fault)
      work-unflushed fault (failed, is, cause) w =
          let x = subst (λ (e : ShipFault). WorksOn {X = Unit {0}} first plan Flushes v h (Err e)) is w in
          subst (λ (e : ShipFault). RowsWork first plan Told wanted (ShipsWork Taken plan rose device table (Err e)) v h (Err e)) (sym is) (record {
            given = rows.given;
            are = rows.are;
            works = record { now = x.now; did = (ends-so x.now x.did, ships x.now x.did); ends = x.ends; counts = x.counts; rests = x.rests; stands = x.stands };
          })
