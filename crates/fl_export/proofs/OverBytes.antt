-- What an export over a flash does whatever bytes that has.
use Rattle.std.proofs.Common.{◌≡◌, ◌⊎◌, inl, inr, ℕ, true, false, Result, Ok, Err, Option, Some, List, refl, sym, ◌∙◌, ap, subst, slice_get, option_map, unwrap_or}
use Rattle.fl_flash.specs.Flash.{FlashState}
use Rattle.fl_image.specs.declared.status.ToolStatus.{ToolStatus}
use Rattle.fl_image.specs.declared.status.ToolStatus.TheVariants.{BadImage}
use Rattle.fl_frame.specs.Contents.{OnlyReads, contents_of}
use Rattle.fl_page.specs.declared.fault.BadPage as page
use Rattle.fl_rlc.specs.Table.{table_in}
use Rattle.fl_store.specs.InMemory.{has_blobs_at}
use Rattle.fl_store.specs.Jobs.{HasBadPage}
use Rattle.fl_store.specs.MountsOver.{MountsOver}
use Rattle.fl_store.specs.Status.{mount_status}
use Rattle.fl_store.specs.declared.tables.BadMount.{BadMount}
use Rattle.fl_store.specs.declared.tables.Entry.{Entry}
use Rattle.fl_store.proofs.Jobs.{mounts-alone, mounts-read}
use Rattle.fl_table.specs.BlobAt.{has_blobs}
use Rattle.fl_table.specs.declared.table.Table.{Table}
use Rattle.fl_export.specs.Over.{ExportsOver, ReadsTable}
use Rattle.fl_export.specs.Tables.{status_of}
use Rattle.fl_export.specs.Writing.{IfBadPage, IsBadIn}
use Rattle.fl_export.specs.declared.fault.ExportFault.{ExportFault}
use Rattle.fl_export.proofs.Statuses.{fault-bad, fault-place}

module _ (entries now : List Entry) (f m : FlashState) (outcome : Result (Unit {0}) BadMount) (mounts : MountsOver entries now f outcome m) where
  -- a table is refused
  pub refuses-over : {K : Type 0} (status : ToolStatus) (out : K) (at : ℕ) (bad : BadMount) → outcome ≡ Err bad → status ≡ mount_status bad.fault bad.at → ExportsOver status out out at entries f m
  refuses-over status out at bad is said =
      mounts-alone entries now f m outcome mounts (ReadsTable status out out at m) (subst (λ (r : Result (Unit {0}) BadMount). ReadsTable status out out at m r now m) (sym is) (said, refl, refl))

  -- all were mounted, and pages of one were read
  pub reads-over : {K : Type 0} (status : ToolStatus) (out out_now : K) (at : ℕ) (g : FlashState) (done : Unit {0}) → outcome ≡ Ok done → OnlyReads m g →
      ((table : ℕ) → status ≡ BadImage table → (table ≡ at) × (HasBadPage now at m ⊎ (has_blobs_at now at ≡ true))) → ExportsOver status out out_now at entries f g
  reads-over status out out_now at g done is only bad =
      mounts-read entries now f m outcome mounts g only (ReadsTable status out out_now at g) (subst (λ (r : Result (Unit {0}) BadMount). ReadsTable status out out_now at g r now m) (sym is) (only, bad))

-- why a bad image is told of the table that is written
pub bad-table : (now : List Entry) (at : ℕ) (entry : Entry) (t : Table 64 64) (m : FlashState) (e : ExportFault) (status : ToolStatus) (table : ℕ) → slice_get now at ≡ Some entry → t ≡ table_in entry.table → status ≡ status_of e at → status ≡ BadImage table →
    IfBadPage (IsBadIn t (contents_of m)) e → (table ≡ at) × (HasBadPage now at m ⊎ (has_blobs_at now at ≡ true))
bad-table now at entry t m e status table here own said is h =
    let found = fault-bad (IsBadIn t (contents_of m)) e at table (sym said ∙ is) h in (sym (fault-place e at table (sym said ∙ is)), by-why found.0 (subst (λ (u : Table 64 64). IsBadIn u (contents_of m) found.0) own found.1))
  where
    by-why : (bad : page.BadPage) → IsBadIn (table_in entry.table) (contents_of m) bad → HasBadPage now at m ⊎ (has_blobs_at now at ≡ true)
    by-why bad (inl is_bad) = inl (record { entry = entry; here = here; bad = bad; is_bad = is_bad })
    by-why bad (inr has) = inr (ap (λ (o : Option Entry). unwrap_or (option_map (λ (e : Entry). has_blobs (table_in e.table)) o) false) here ∙ has)
