-- How an export ends over a flash that stands for tables.
use Rattle.std.proofs.Common.{◌≡◌, ℕ, ◌≤◌, inl, inr, true, false, Option, Some, Err, List, sym, subst, arith, slice_get}
use Rattle.fl_base.specs.Causes.{Rose, Appends, AppendsFront}
use Rattle.fl_base.specs.declared.types.KeyRange.{KeyRange}
use Rattle.fl_flash.specs.Flash.{FlashState}
use Rattle.fl_flash.specs.declared.flash.FlashFault.TheVariants.{PowerLost, Media}
use Rattle.fl_image.specs.declared.status.ToolStatus.{ToolStatus}
use Rattle.fl_image.specs.declared.status.ToolStatus.TheVariants.{Done, Device}
use Rattle.fl_machine.specs.Step.{all_ready}
use Rattle.fl_model.specs.Record.{Plan}
use Rattle.fl_model.specs.Table as model
use Rattle.fl_frame.specs.Contents.{OnlyReads}
use Rattle.fl_page.specs.declared.fault.ReadFault.TheVariants.{Flash, BadPage}
use Rattle.fl_parts.specs.declared.mount_fault.MountFault.{MountFault}
use Rattle.fl_store.specs.Tables.{IsNamed, TablesStand, TablesMounted, MountBreaks}
use Rattle.fl_store.specs.declared.tables.Entry.{Entry}
use Rattle.fl_store.proofs.TablesChanged.{AtPlace, at-place}
use Rattle.fl_store.specs.Store.{at_rest}
use Rattle.fl_store.specs.Named.{has_name}
use Rattle.fl_export.specs.Ends.{Exports}
use Rattle.fl_export.specs.Tables.{status_of, EndsOn}
use Rattle.fl_store.specs.MountEnds.{told_of}
use Rattle.fl_store.specs.Status.{mount_status}
use Rattle.fl_export.specs.Text.{table_text}
use Rattle.fl_export.specs.Writing.{IfUnread, Writes}
use Rattle.fl_export.specs.declared.fault.ExportFault.{ExportFault}
use Rattle.fl_export.specs.declared.fault.ExportFault.TheVariants as fault
use Rattle.fl_store.proofs.TableByName.{located-own}
use Rattle.fl_store.proofs.TablesOnlyRead.{tables-read}
use Rattle.fl_store.proofs.Risen.{has_risen, risen-rose}
use Rattle.fl_store.proofs.Unmounted as mount
use Rattle.fl_store.proofs.Unmounted.{off}

module _ (plans : List Plan) (tables : List model.Table) (name : List ℕ) (range : KeyRange) (f g : FlashState) (told : Option (List ℕ)) (now : List Entry) (has : has_name name plans ≡ true) where
  -- ---- the tables aren't mounted

  pub unmounted : (bad : MountFault) (at : ℕ) → MountBreaks plans tables (has_risen f g) at_rest bad now g → EndsOn plans tables name range f g told told now (mount_status bad at)
  unmounted bad at ends =
      let u = mount.unmounted plans tables name f g told now has bad at ends in
      subst (λ (s : ToolStatus). EndsOn plans tables name range f g told told now s) (sym u.0) (u.1.0, inl u.1.1)

  -- the medium failed then
  pub broken-device : (bad : MountFault) (at : ℕ) → MountBreaks plans tables (has_risen f g) at_rest bad now g → mount_status bad at ≡ Device
  broken-device bad at ends = (mount.unmounted plans tables name f g told now has bad at ends).0

-- ---- the tables are mounted, and the text of one of them is written

module _ (plans : List Plan) (tables : List model.Table) (name : List ℕ) (range : KeyRange) (f g h : FlashState) (told told_now : Option (List ℕ)) (entries now : List Entry) (at : ℕ) (entry : Entry)
    (goes : f.media.faults ≤ g.media.faults) (only : OnlyReads g h) (stood : TablesStand f (λ i. false) plans entries tables) (named : IsNamed entries name at) (here : slice_get now at ≡ Some entry)
    (m : TablesMounted plans tables (has_risen f g) at_rest now g) where
  pub own : AtPlace g (λ i. true) plans now (all_ready plans m.end.tables) at entry
  own = at-place g (λ i. true) plans now (all_ready plans m.end.tables) at entry m.stand here

  rises : Rose f.media.faults g.media.faults → Rose f.media.faults h.media.faults
  rises rose = omega (arith, rose, only.faults)

  exported : (Wrote : List ℕ → Type 0) → Wrote (table_text own.plan own.table range) → Exports plans tables name range (told_of f.media h.media told told_now) (TablesStand h (λ i. false) plans now) Wrote
  exported Wrote wrote = record {
    rose = has_risen f g;
    risen = λ r. rises (risen-rose f g r);
    end = m.end;
    did = m.did;
    holds = off h true plans now (all_ready plans m.end.tables) (tables-read g h only plans now (all_ready plans m.end.tables) m.stand);
    at = record { place = at; plan = own.plan; table = own.table };
    found = located-own f g (λ i. true) plans entries now tables (all_ready plans m.end.tables) name at entry stood named own;
    wrote = wrote;
  }

  pub done : Appends told told_now (table_text own.plan own.table range) → EndsOn plans tables name range f h told told_now now Done
  done wrote = exported (λ text. Appends told told_now text) wrote

  pub failed : (fault : ExportFault) (place : ℕ) → Writes (table_text own.plan own.table range) told told_now (Err fault) → g.is_on ≡ true → IfUnread g h fault → EndsOn plans tables name range f h told told_now now (status_of fault place)
  failed (fault.Read (Flash PowerLost)) place writes on cause = absurd (cc (on, cause))
  failed (fault.Read (Flash Media)) place writes on cause =
      let rose : Rose g.media.faults h.media.faults = cause.0 in
      (omega (arith, goes, rose), inr (exported (λ text. AppendsFront told told_now text) writes.1))
  failed (fault.Read (BadPage bad)) place writes on cause = absurd writes.0
  failed other place writes on cause = exported (λ text. AppendsFront told told_now text) writes.1
