-- How an operation of a flash ends for the ring on it.
use Rattle.std.proofs.Common.{◌≡◌, ◌⊎◌, ℕ, Bool, if◌then◌else◌, List, Option, IfSome, IfNone, Result, Ok, Err, OnOk, OnErr, IsErrOf, inl, inr, refl, sym, ◌∙◌, subst}
use Rattle.std.proofs.lemmas.Bool.{cases_Bool}
use Rattle.fl_base.specs.Bytes.{splice}
use Rattle.fl_base.specs.Causes.{Rose}
use Rattle.fl_base.specs.declared.types.CutKind.{CutKind}
use Rattle.fl_flash.specs.Flash.{FlashState, page_at, Tears, KeepsPower, Cuts, HasFlashCause}
use Rattle.fl_flash.specs.Tear.{torn_front}
use Rattle.fl_flash.specs.declared.armed.Armed.{Armed}
use Rattle.fl_flash.specs.declared.flash.FlashFault.{FlashFault}
use Rattle.fl_flash.specs.declared.flash.FlashFault.TheVariants.{PowerLost, Media}
use Rattle.fl_flash.specs.declared.tear.Tear.{Tear}
use Rattle.fl_flash.specs.declared.tear.Tear.TheVariants.{Kind, Bytes}
use Rattle.fl_model.specs.Work as work
use Rattle.fl_model.specs.Work.{Device, Ending, Either, Leaves, ending_of}
use Rattle.fl_frame.specs.Device.{TearsAs, ArmsAs}
use Rattle.fl_ring.specs.Ring.{Shape, RingState, OnRing}
use Rattle.fl_ring.specs.Step.{StepEnds}
use Rattle.fl_frame.specs.Watched.{IsWatched}
use Rattle.fl_ring.proofs.Devices.{Counts, Cut, cut_or_not, device_counted, device_fired}

-- a state that this ending may leave, and that the pages stand for
abbrev pub LeftBy : Shape → RingState → RingState → FlashState → Ending → Type 0
LeftBy r before after new ending = (left : RingState) × Leaves ending before after left × OnRing r (page_at new) left

abbrev pub OneOf : Shape → RingState → RingState → FlashState → Type 0
OneOf r before after new = OnRing r (page_at new) before ⊎ OnRing r (page_at new) after

pub either_of : (r : Shape) (before after : RingState) (new : FlashState) → OneOf r before after new → LeftBy r before after new Either
either_of r before after new (inl on) = (before, inl refl, on)
either_of r before after new (inr on) = (after, inr refl, on)

-- what a cut of each kind leaves, where the medium doesn't fail
abbrev pub Exact : Shape → work.Kind → RingState → RingState → FlashState → FlashState → ℕ → List ℕ → Type 0
Exact r kind before after old new at whole =
    (cut : CutKind) → new.media.content ≡ splice old.media.content at (torn_front (Kind cut) whole) → OneOf r before after new → LeftBy r before after new (ending_of cut kind)

module _ (r : Shape) (kind : work.Kind) (before after : RingState) (rose : Bool) (device : Device) (old new : FlashState) (watched : IsWatched old new rose device) (at : ℕ) (whole : List ℕ)
    (counts : Counts kind old new) where
  by_tear : (tear : Tear) (cut : CutKind) → TearsAs cut tear → Exact r kind before after old new at whole → OneOf r before after new → new.media.content ≡ splice old.media.content at (torn_front tear whole) → LeftBy r before after new (ending_of cut kind)
  by_tear (Kind k) cut same exact one content = subst (λ (c : CutKind). LeftBy r before after new (ending_of c kind)) (sym same) (exact k content one)
  by_tear (Bytes bytes) cut same exact one content = subst (λ (c : CutKind). LeftBy r before after new (ending_of c kind)) (sym same.1) (either_of r before after new one)

  by_rose : (ending : Ending) → OneOf r before after new → ((Rose old.media.faults new.media.faults → ⊥) → LeftBy r before after new ending) → LeftBy r before after new (if rose then Either else ending)
  by_rose ending one quiet = elim (cases_Bool rose) [
    | inl yes_rose ↦ subst (λ (b : Bool). LeftBy r before after new (if b then Either else ending)) (sym yes_rose) (either_of r before after new one)
    | inr no_rose ↦ subst (λ (b : Bool). LeftBy r before after new (if b then Either else ending)) (sym no_rose)
        (quiet (λ up. let h = watched.risen up in absurd (cc (h, no_rose))))
  ]

  torn_op : (result : Result (Unit {0}) FlashFault) → Cuts old at whole result new → (c : Cut old.armed device.armed) → Tears old at (torn_front c.tear whole) result new
  torn_op result cuts c = subst (λ (o : Option Tear). IfSome o (λ tear. Tears old at (torn_front tear whole) result new)) c.torn cuts.torn

  pub step_ends : (result : Result (Unit {0}) FlashFault) → Cuts old at whole result new → HasFlashCause old result new → OnOk result (OnRing r (page_at new) after) → OnErr result (OneOf r before after new) → Exact r kind before after old new at whole
      → StepEnds r kind before after rose device result new
  step_ends (Ok u) cuts cause ok any exact = elim (cut_or_not old.armed device.armed watched.counts.armed) [
    | inr c ↦ absurd (let lost = (torn_op (Ok u) cuts c).lost in cc)
    | inl c ↦ record {
      uncut = c.now;
      counts = device_counted kind old new device watched.counts counts (subst (λ (o : Option Armed). ArmsAs (work.counted kind device).armed o) (sym cuts.armed) c.later);
      on = ok;
      power = cause.on;
    }
  ]
  step_ends (Err PowerLost) cuts cause ok any exact = elim (cut_or_not old.armed device.armed watched.counts.armed) [
    | inl c ↦ absurd (subst (λ (o : Option Tear). IfNone o (IsErrOf {T = Unit {0}} (Err PowerLost) PowerLost → ⊥)) c.torn cuts.whole_op refl)
    | inr c ↦
        let tears = torn_op (Err PowerLost) cuts c in
        let left = by_rose (ending_of c.kind kind) any (λ quiet. by_tear c.tear c.kind c.same exact any (tears.exact watched.told quiet)) in
        record {
          cut = c.kind;
          now = c.now;
          left = left.0;
          leaves = left.1;
          counts = device_fired kind old new device watched.counts counts (cuts.armed ∙ c.gone);
          on = left.2;
          power = tears.off;
        }
  ]
  step_ends (Err Media) cuts cause ok any exact = elim (cut_or_not old.armed device.armed watched.counts.armed) [
    | inr c ↦ absurd (let lost = (torn_op (Err Media) cuts c).lost in cc)
    | inl c ↦
        let left = either_of r before after new any in
        record {
          risen = watched.risen (cause.media refl);
          uncut = c.now;
          left = left.0;
          leaves = left.1;
          counts = device_counted kind old new device watched.counts counts (subst (λ (o : Option Armed). ArmsAs (work.counted kind device).armed o) (sym cuts.armed) c.later);
          on = left.2;
          power = (subst (λ (o : Option Tear). IfNone o (KeepsPower old new)) c.torn cuts.untorn).on ∙ watched.on;
        }
  ]
