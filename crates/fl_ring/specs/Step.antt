-- How one operation on a ring ends.
use Rattle.std.specs.Prelude.{◌≡◌, ℕ, ◌+◌, ◌≤◌, Bool, true, false, IsTrue, if◌then◌else◌, Some, None, Result, Ok, Err}
use Rattle.fl_base.specs.declared.types.CutKind.{CutKind}
use Rattle.fl_flash.specs.Flash.{FlashState, page_at, Goes, HasFlashCause, OffChangesNothing}
use Rattle.fl_flash.specs.Media.{next_count}
use Rattle.fl_flash.specs.declared.flash.FlashFault.{FlashFault}
use Rattle.fl_flash.specs.declared.flash.FlashFault.TheVariants.{PowerLost, Media}
use Rattle.fl_model.specs.Work.{Kind, Body, Device, Either, Leaves, is_erase, ending_of, cut_now, counted, fired}
use Rattle.fl_frame.specs.Device.{SameDevice}
use Rattle.fl_ring.specs.Ring.{Shape, RingState, OnRing, OutsideStands}

-- a program of a body may read the medium once
abbrev pub media_reads_of : Kind → ℕ
media_reads_of Body = 1
media_reads_of _ = 0

-- what an operation does to the flash beside the ring's pages
pub record Operates (r : Shape) (kind : Kind) (old : FlashState) (result : Result (Unit {0}) FlashFault) (new : FlashState) : Type 0 where
  pub goes : Goes old new
  pub outside : IsTrue old.media.tells → OutsideStands r (page_at old) (page_at new)
  pub cause : HasFlashCause old result new
  pub off : OffChangesNothing old result new
  pub reads : new.work.reads ≡ old.work.reads
  pub media_reads : new.media.reads ≤ old.media.reads + media_reads_of kind
  pub programs : old.is_on ≡ true → new.work.programs ≡ (if is_erase kind then old.work.programs else next_count old.work.programs)
  pub erases : old.is_on ≡ true → new.work.erases ≡ (if is_erase kind then next_count old.work.erases else old.work.erases)

-- it is done
pub record StepDone (r : Shape) (kind : Kind) (after : RingState) (device : Device) (new : FlashState) : Type 0 where
  pub uncut : cut_now device ≡ None
  pub counts : SameDevice new (counted kind device)
  pub on : OnRing r (page_at new) after
  pub power : new.is_on ≡ true

-- the armed cut fell into it
pub record StepCut (r : Shape) (kind : Kind) (before after : RingState) (rose : Bool) (device : Device) (new : FlashState) : Type 0 where
  pub cut : CutKind
  pub now : cut_now device ≡ Some cut
  pub left : RingState
  pub leaves : Leaves (if rose then Either else ending_of cut kind) before after left
  pub counts : SameDevice new (fired kind device)
  pub on : OnRing r (page_at new) left
  pub power : new.is_on ≡ false

-- the medium failed in it
pub record StepFailed (r : Shape) (kind : Kind) (before after : RingState) (rose : Bool) (device : Device) (new : FlashState) : Type 0 where
  pub risen : IsTrue rose
  pub uncut : cut_now device ≡ None
  pub left : RingState
  pub leaves : Leaves Either before after left
  pub counts : SameDevice new (counted kind device)
  pub on : OnRing r (page_at new) left
  pub power : new.is_on ≡ true

-- an operation that makes `after` of `before`
abbrev pub StepEnds : Shape → Kind → RingState → RingState → Bool → Device → Result (Unit {0}) FlashFault → FlashState → Type 0
StepEnds r kind before after rose device (Ok u) new = StepDone r kind after device new
StepEnds r kind before after rose device (Err PowerLost) new = StepCut r kind before after rose device new
StepEnds r kind before after rose device (Err Media) new = StepFailed r kind before after rose device new
