-- A mount that failed over a flash that stands for tables: it was the medium that failed.
use Rattle.std.proofs.Common.{◌≡◌, ℕ, ◌⊎◌, inl, inr, Bool, true, false, IsTrue, Option, List, map, refl}
use Rattle.fl_base.specs.Causes.{Rose}
use Rattle.fl_base.proofs.Appended.{appends-none}
use Rattle.fl_flash.specs.Flash.{FlashState}
use Rattle.fl_flash.specs.declared.flash.FlashFault.{FlashFault}
use Rattle.fl_flash.specs.declared.flash.FlashFault.TheVariants.{PowerLost, Media}
use Rattle.fl_image.specs.declared.status.ToolStatus.TheVariants.{Device}
use Rattle.fl_model.specs.Mount.{Mounts, Stopped, Unread, turns_from}
use Rattle.fl_model.specs.Record.{Plan}
use Rattle.fl_model.specs.Table as model
use Rattle.fl_model.specs.Table.{lose}
use Rattle.fl_model.specs.Work.{Outcome, Finished, CutShort, Failed}
use Rattle.fl_parts.specs.declared.mount_fault.MountFault.{MountFault}
use Rattle.fl_parts.specs.declared.mount_fault.MountFault.TheVariants as mount
use Rattle.fl_store.specs.Tables.{first_of, FaultIs, TablesStand, TablesBroken, MountBreaks}
use Rattle.fl_store.specs.declared.tables.Entry.{Entry}
use Rattle.fl_store.proofs.TablesChanged.{entry-off, tables-become}
use Rattle.fl_store.specs.Store.{at_rest}
use Rattle.fl_store.specs.Named.{has_name}
use Rattle.fl_store.specs.MountEnds.{MountFails, told_of}
use Rattle.fl_store.specs.Status.{mount_status}
use Rattle.fl_store.proofs.Risen.{has_risen, risen-rose, fails-rose, IsSafe, stopped-safe}

-- what is in memory alone is lost
pub off : (f : FlashState) (mounted : Bool) (plans : List Plan) (entries : List Entry) (tables : List model.Table) → TablesStand f (λ i. mounted) plans entries tables → TablesStand f (λ i. false) plans entries (map lose tables)
off f mounted plans entries tables h = tables-become f f (λ i. mounted) (λ i. false) plans entries tables lose h (λ i plan e x k. entry-off e f mounted (first_of plans i) plan x k)

module _ (plans : List Plan) (tables : List model.Table) (name : List ℕ) (f g : FlashState) (told : Option (List ℕ)) (now : List Entry) (has : has_name name plans ≡ true) where
  abbrev pub AreUnmounted : Type 0
  AreUnmounted = Rose f.media.faults g.media.faults × MountFails plans tables name (told_of f.media g.media told told) (TablesStand g (λ i. false) plans now)

  broken : (fault : FlashFault) → TablesBroken plans tables (has_risen f g) at_rest fault now g → AreUnmounted
  broken fault b = by_how b.did
    where
      fails : IsTrue (has_risen f g) → (Mounts plans (has_risen f g) (turns_from 0 plans) at_rest tables (Stopped b.end) ⊎ Mounts plans (has_risen f g) (turns_from 0 plans) at_rest tables (Unread b.end)) → AreUnmounted
      fails rose did = (
        risen-rose f g rose,
        record { named = has; rose = has_risen f g; risen = λ r. risen-rose f g r; end = b.end; did = did; holds = b.rest; nothing = appends-none told },
      )

      by_how : (Mounts plans (has_risen f g) (turns_from 0 plans) at_rest tables (Stopped b.end) × FaultIs b.end.outcome fault) ⊎ (Mounts plans (has_risen f g) (turns_from 0 plans) at_rest tables (Unread b.end) × (fault ≡ Media))
          → AreUnmounted
      by_how (inl x) = fails (fails-rose plans (has_risen f g) (turns_from 0 plans) at_rest tables b.end (Stopped b.end) refl (inl refl) x.0) (inl x.0)
      by_how (inr x) = fails (fails-rose plans (has_risen f g) (turns_from 0 plans) at_rest tables b.end (Unread b.end) refl (inr refl) x.0) (inr x.0)

  -- no cut was armed, so that none falls into it
  uncut : TablesBroken plans tables (has_risen f g) at_rest PowerLost now g → ⊥
  uncut b = by_how b.did
    where
      not_lost : (o : Outcome) → FaultIs o PowerLost → IsSafe o → ⊥
      not_lost Finished is safe = is
      not_lost (CutShort before) is safe = safe
      not_lost (Failed before) is safe = cc is

      by_how : (Mounts plans (has_risen f g) (turns_from 0 plans) at_rest tables (Stopped b.end) × FaultIs b.end.outcome PowerLost) ⊎ (Mounts plans (has_risen f g) (turns_from 0 plans) at_rest tables (Unread b.end) × (PowerLost ≡ Media)) → ⊥
      by_how (inl x) = not_lost b.end.outcome x.1 (stopped-safe plans (has_risen f g) (turns_from 0 plans) at_rest tables b.end refl x.0)
      by_how (inr x) = cc x.1

  pub unmounted : (bad : MountFault) (at : ℕ) → MountBreaks plans tables (has_risen f g) at_rest bad now g → (mount_status bad at ≡ Device) × AreUnmounted
  unmounted (mount.Flash Media) at ends = (refl, broken Media ends)
  unmounted (mount.Flash PowerLost) at ends = absurd (uncut ends)
  unmounted fault at ends = absurd ends
