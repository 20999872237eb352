-- What a ship between two flashes does whatever bytes these have.
use Rattle.std.proofs.Common.{◌≡◌, ℕ, ◌≤◌, Option, None, Some, Result, Ok, Err, List, refl, sym, subst}
use Rattle.std.specs.List.{slice_get}
use Rattle.fl_flash.specs.Flash.{FlashState, Goes}
use Rattle.fl_frame.specs.Contents.{OnlyReads, contents_of}
use Rattle.fl_page.specs.declared.fault.BadPage.{BadPage}
use Rattle.fl_page.specs.declared.fault.ReadFault.TheVariants as read
use Rattle.fl_frame.proofs.ContentsInTurn.{OnlyReads-same}
use Rattle.fl_cursor.specs.Cursor.{MayBeBad}
use Rattle.fl_rlc.specs.Table.{table_in}
use Rattle.fl_store.specs.Jobs.{ChangesOwn, HasBadPage}
use Rattle.fl_store.specs.MountsOver.{MountsOver}
use Rattle.fl_store.specs.declared.tables.BadMount.{BadMount}
use Rattle.fl_store.specs.declared.tables.Entry.{Entry}
use Rattle.fl_store.proofs.Jobs.{mounts-alone, mounts-read, mounts-work}
use Rattle.fl_table.specs.Look.{last_key_in}
use Rattle.fl_table.specs.declared.faults.FlushFault.TheVariants as flush
use Rattle.fl_table.specs.declared.faults.PutRefusal.TheVariants as put
use Rattle.fl_table.specs.declared.table.Table.{Table}
use Rattle.fl_ship.specs.Over.{IsGapOver, IsSpentOver, ShipsFrom, ShipsOnto, ShipsBetween, Tells}
use Rattle.fl_ship.specs.Rows.{HasFewNumbers}
use Rattle.fl_ship.specs.Tables.{StopCausedBy, TellsShipped, mount_status, stop_status}
use Rattle.fl_ship.specs.declared.fault.ShipFault.TheVariants.{Read, Put, Flush}
use Rattle.fl_ship.specs.declared.side.Side.TheVariants.{Source, Copy}
use Rattle.fl_ship.specs.declared.status.ShipStatus.{ShipStatus}
use Rattle.fl_ship.specs.declared.status.ShipStatus.TheVariants.{Done, OutWrite, NoMemory, NotImage, Device, BadImage, NoTable, Gap, OtherForm, Spent}
use Rattle.fl_ship.specs.declared.stop.Stop.{Stop}
use Rattle.fl_ship.specs.declared.stop.Stop.TheVariants as stop

-- ---- what is told between tables that were mounted

module _ (count at : ℕ) (sources : List Entry) (from : FlashState) (copies : List Entry) (onto onto_now : FlashState) where
  pub tells-shipped : (shipped : ℕ) (told told_now : Option (List ℕ)) (faults faults_now : ℕ) (status : ShipStatus) → shipped ≤ count → TellsShipped shipped told told_now faults faults_now status → Tells count at sources from copies onto onto_now status
  tells-shipped shipped told told_now faults faults_now (Done n) few h = subst (λ (m : ℕ). m ≤ count) (sym h.0) few
  tells-shipped shipped told told_now faults faults_now OutWrite few h = tt
  tells-shipped shipped told told_now faults faults_now NoMemory few h = absurd h
  tells-shipped shipped told told_now faults faults_now (NotImage side) few h = absurd h
  tells-shipped shipped told told_now faults faults_now (Device side) few h = absurd h
  tells-shipped shipped told told_now faults faults_now (BadImage side table) few h = absurd h
  tells-shipped shipped told told_now faults faults_now NoTable few h = absurd h
  tells-shipped shipped told told_now faults faults_now (Gap last oldest) few h = absurd h
  tells-shipped shipped told told_now faults faults_now OtherForm few h = absurd h
  tells-shipped shipped told told_now faults faults_now Spent few h = absurd h

  pub tells-stopped : (from_now : FlashState) (why : Stop) → StopCausedBy from from_now onto onto_now why → ((bad : BadPage) → why ≡ stop.Ship (Read (read.BadPage bad)) → HasBadPage sources at from) →
      ((last oldest : ℕ) → why ≡ stop.Gap last oldest → IsGapOver sources copies at last × (onto_now ≡ onto)) → (why ≡ stop.Ship (Put put.Spent) → IsSpentOver copies at count) → Tells count at sources from copies onto onto_now (stop_status why at)
  tells-stopped from_now (stop.Gap last oldest) cause page gap spent = gap last oldest refl
  tells-stopped from_now (stop.Ship (Read (read.Flash e))) cause page gap spent = tt
  tells-stopped from_now (stop.Ship (Read (read.BadPage bad))) cause page gap spent = (refl, page bad refl)
  tells-stopped from_now (stop.Ship (Put (put.Flash e))) cause page gap spent = tt
  tells-stopped from_now (stop.Ship (Put (put.Key last))) cause page gap spent = absurd cause
  tells-stopped from_now (stop.Ship (Put (put.Columns wanted))) cause page gap spent = absurd cause
  tells-stopped from_now (stop.Ship (Put (put.Value column))) cause page gap spent = absurd cause
  tells-stopped from_now (stop.Ship (Put (put.Blob limit))) cause page gap spent = absurd cause
  tells-stopped from_now (stop.Ship (Put put.Spent)) cause page gap spent = spent refl
  tells-stopped from_now (stop.Ship (Put put.Stopped)) cause page gap spent = absurd cause
  tells-stopped from_now (stop.Ship (Flush (flush.Flash e))) cause page gap spent = tt
  tells-stopped from_now (stop.Ship (Flush flush.Stopped)) cause page gap spent = tt

-- a page of the source's table is bad
pub bad-there : (sources : List Entry) (at : ℕ) (entry : Entry) (t : Table 64 64) (f : FlashState) (bad : BadPage) → slice_get sources at ≡ Some entry → t ≡ table_in entry.table → MayBeBad t (contents_of f) bad → HasBadPage sources at f
bad-there sources at entry t f bad here own h = record { entry = entry; here = here; bad = bad; is_bad = subst (λ (u : Table 64 64). MayBeBad u (contents_of f) bad) own h }

-- the copy ends with a key, and the source has records
pub gap-there : (sources copies : List Entry) (at last : ℕ) (source copy : Entry) (t : Table 64 64) → slice_get sources at ≡ Some source → slice_get copies at ≡ Some copy → t ≡ table_in source.table → (last_key_in (table_in copy.table) ≡ Some last) × (last_key_in t ≡ None → ⊥) → IsGapOver sources copies at last
gap-there sources copies at last source copy t here there own h = record {
  source = source;
  here = here;
  some = subst (λ (u : Table 64 64). last_key_in u ≡ None → ⊥) own h.1;
  copy = copy;
  there = there;
  ends = h.0;
}

-- a ring of the copy's table has too few page numbers left
pub spent-there : (copies : List Entry) (at count : ℕ) (copy : Entry) → slice_get copies at ≡ Some copy → HasFewNumbers copy.table count → IsSpentOver copies at count
spent-there copies at count copy there few = record { copy = copy; there = there; few = few }

-- ---- what is done

module _ (count at : ℕ) (sources s_now : List Entry) (f m : FlashState) (outcome : Result (Unit {0}) BadMount) (mounts : MountsOver sources s_now f outcome m) (copies : List Entry) (onto : FlashState) where
  -- a table of the source is refused
  pub source-refused : (bad : BadMount) → outcome ≡ Err bad → ShipsBetween count (mount_status Source bad.fault bad.at) at sources f m copies onto onto
  source-refused bad is =
      let status = mount_status Source bad.fault bad.at in
      mounts-alone sources s_now f m outcome mounts (ShipsFrom count status at m copies onto onto) (subst (λ (r : Result (Unit {0}) BadMount). ShipsFrom count status at m copies onto onto r s_now m) (sym is) (refl, refl, refl))

  module _ (done : Unit {0}) (is : outcome ≡ Ok done) (c_now : List Entry) (n : FlashState) (c_outcome : Result (Unit {0}) BadMount) (c_mounts : MountsOver copies c_now onto c_outcome n) where
    -- .. or one of the copy
    pub copy-refused : (bad : BadMount) → c_outcome ≡ Err bad → ShipsBetween count (mount_status Copy bad.fault bad.at) at sources f m copies onto n
    copy-refused bad c_is =
        let status = mount_status Copy bad.fault bad.at in
        let refused = mounts-alone copies c_now onto n c_outcome c_mounts (ShipsOnto count status at s_now m copies n) (subst (λ (r : Result (Unit {0}) BadMount). ShipsOnto count status at s_now m copies n r c_now n) (sym c_is) (refl, refl)) in
        mounts-alone sources s_now f m outcome mounts (ShipsFrom count status at m copies onto n) (subst (λ (r : Result (Unit {0}) BadMount). ShipsFrom count status at m copies onto n r s_now m) (sym is) (OnlyReads-same m, refused))

    -- .. or none
    pub tables-shipped : (status : ShipStatus) (h k : FlashState) (c_done : Unit {0}) → c_outcome ≡ Ok c_done → Goes onto n → OnlyReads m h → ChangesOwn copies at n k → Tells count at s_now m c_now n k status → ShipsBetween count status at sources f h copies onto k
    tables-shipped status h k c_done c_is goes only own tells =
        let shipped = mounts-work copies c_now onto n k c_outcome c_done c_is c_mounts goes at own (ShipsOnto count status at s_now m copies k) (subst (λ (r : Result (Unit {0}) BadMount). ShipsOnto count status at s_now m copies k r c_now n) (sym c_is) (own, tells)) in
        mounts-read sources s_now f m outcome mounts h only (ShipsFrom count status at h copies onto k) (subst (λ (r : Result (Unit {0}) BadMount). ShipsFrom count status at h copies onto k r s_now m) (sym is) (only, shipped))
