-- How an import ends over a flash that stands for tables.
use Rattle.std.proofs.Common.{◌≡◌, ℕ, inl, inr, true, false, IsTrue, Option, None, Some, List, length, refl, sym, ◌∙◌, ap, subst, slice_get}
use Rattle.fl_base.specs.Causes.{Rose}
use Rattle.fl_base.proofs.Risen.{rose-front}
use Rattle.fl_store.specs.Store.{at_rest}
use Rattle.fl_store.specs.Named.{has_name}
use Rattle.fl_store.specs.Status.{mount_status}
use Rattle.fl_store.proofs.TableByName.{located-own}
use Rattle.fl_store.proofs.Risen.{has_risen, risen-rose}
use Rattle.fl_store.proofs.Unmounted as mount
use Rattle.fl_flash.specs.Flash.{FlashState, Goes, page_at}
use Rattle.fl_csv.specs.declared.record.GoneBlobs.{GoneBlobs}
use Rattle.fl_import.specs.Taken.{none_taken}
use Rattle.fl_import.specs.declared.job_end.LinesTaken.{LinesTaken}
use Rattle.fl_image.specs.declared.status.ToolStatus.{ToolStatus}
use Rattle.fl_image.specs.declared.status.ToolStatus.TheVariants.{Done, Device}
use Rattle.fl_machine.specs.Step.{all_ready}
use Rattle.fl_model.specs.Record.{Plan}
use Rattle.fl_model.specs.Table as model
use Rattle.fl_model.specs.Table.{lose}
use Rattle.fl_rlc.specs.Logged.{Rests, Stands}
use Rattle.fl_rlc.specs.Table.{IsSamePlan, OutsideStands}
use Rattle.fl_rlc.specs.declared.table.LoggedTable.{LoggedTable}
use Rattle.fl_parts.specs.declared.mount_fault.MountFault.{MountFault}
use Rattle.fl_store.specs.Tables.{first_of, entries_with, IsNamed, TablesStand, TablesMounted, MountBreaks}
use Rattle.fl_store.specs.declared.tables.Entry.{Entry}
use Rattle.fl_store.proofs.TablesChanged.{AtPlace}
use Rattle.fl_import.specs.Ends.{Imports, Leaves, table_after}
use Rattle.fl_import.specs.Images.{EndsOn, told_of}
use Rattle.fl_import.specs.Steps.{TableEnds}
use Rattle.fl_import.proofs.LastFlush.{flushed-whole}
use Rattle.fl_store.proofs.Changed.{own, holds}

-- the tables aren't mounted, and no byte was read
pub unmounted : (gone : GoneBlobs) (plans : List Plan) (tables : List model.Table) (name text : List ℕ) (f g : FlashState) (told rest : Option (List ℕ)) (now : List Entry) → has_name name plans ≡ true → (bad : MountFault) (at : ℕ) → MountBreaks plans tables (has_risen f g) at_rest bad now g → rest ≡ Some text →
    EndsOn plans tables name text (told_of gone none_taken told told rest) f g now None (mount_status bad at)
unmounted gone plans tables name text f g told rest now has bad at ends is =
    let u = mount.unmounted plans tables name f g told now has bad at ends in
    subst (λ (s : ToolStatus). EndsOn plans tables name text (told_of gone none_taken told told rest) f g now None s) (sym u.0) (u.1.0, inl (u.1.1, (is, refl)))

-- ---- the tables are mounted, and one of them was imported into

module _ (plans : List Plan) (tables : List model.Table) (name text : List ℕ) (f m h : FlashState) (gone : GoneBlobs) (counts : LinesTaken) (told told_now rest : Option (List ℕ)) (entries now : List Entry) (at : ℕ) (entry : Entry) (u : LoggedTable 64 64)
    (goes : Goes m h) (same : IsSamePlan entry.table u) (outside : IsTrue m.media.tells → OutsideStands entry.table (page_at m) (page_at h)) (tells : IsTrue m.media.tells)
    (stood : TablesStand f (λ i. false) plans entries tables) (named : IsNamed entries name at) (here : slice_get now at ≡ Some entry) (mt : TablesMounted plans tables (has_risen f m) at_rest now m) where
  abbrev place : AtPlace m (λ i. true) plans now (all_ready plans mt.end.tables) at entry
  place = own plans tables f m now at entry tells here mt

  imports : (Left : Plan → model.Table → model.Table → Type 0) (after : model.Table) → Left place.plan place.table after → Rests h (first_of plans at) place.plan (lose after) →
      Imports plans tables name (told_of gone counts told told_now rest) f.media.faults h.media.faults (TablesStand h (λ i. false) plans (entries_with now at entry u)) Left
  imports Left after left rests = record {
    rose = has_risen f m;
    risen = λ r. rose-front f.media.faults m.media.faults h.media.faults goes.faults (risen-rose f m r);
    end = mt.end;
    did = mt.did;
    at = record { place = at; plan = place.plan; table = place.table };
    found = located-own f m (λ i. true) plans entries now tables (all_ready plans mt.end.tables) name at entry stood named place;
    after = after;
    left = left;
    holds = holds plans tables f m now at entry tells here mt h u goes same outside after rests;
  }

  abbrev pub Ends : ToolStatus → Type 0
  Ends status = TableEnds (first_of plans at) place.plan place.table text u h (told_of gone counts told told_now rest) status

  imports-so : (status : ToolStatus) → Ends status →
      Imports plans tables name (told_of gone counts told told_now rest) f.media.faults h.media.faults (TablesStand h (λ i. false) plans (entries_with now at entry u)) (λ plan table after. Leaves plan table text (told_of gone counts told told_now rest) after status)
  imports-so status ends = imports (λ plan table after. Leaves plan table text (told_of gone counts told told_now rest) after status) ends.after ends.leaves ends.rests

  -- `kept` are the rows of the table in memory, where it is done
  pub imported : (kept : Option ℕ) (status : ToolStatus) → (status ≡ Device → Rose f.media.faults h.media.faults) →
      ((g : FlashState) (first : ℕ) (plan : Plan) (t : model.Table) → status ≡ Done → Stands u g first plan t → kept ≡ Some (length t.entries)) → Ends status →
      EndsOn plans tables name text (told_of gone counts told told_now rest) f h (entries_with now at entry u) kept status
  imported kept Device rises rows ends = (rises refl, inr (imports-so Device ends))
  imported kept Done rises rows ends =
      imports (λ plan table after. Leaves plan table text (told_of gone counts told told_now rest) after Done × (kept ≡ Some (length (lose after).entries))) ends.after
      (ends.leaves, rows h (first_of plans at) place.plan ends.after refl (ends.stands refl) ∙ ap (λ n. Some n) (sym (whole ends.after ends.leaves))) ends.rests
    where
      whole : (after : model.Table) → Leaves place.plan place.table text (told_of gone counts told told_now rest) after Done → length (lose after).entries ≡ length after.entries
      whole after leaves = subst (λ (t : model.Table). length (lose t).entries ≡ length t.entries) (sym leaves.after_is) (flushed-whole place.plan (table_after gone place.plan place.table leaves.puts.taken))
  imported kept status rises rows ends = imports-so status ends
