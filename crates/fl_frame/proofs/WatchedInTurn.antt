-- Calls that are watched, one after another, and the cause of a fault in a later one.
use Rattle.std.proofs.Common.{◌≡◌, inl, inr, Bool, true, false, IsTrue, refl, sym, ◌∙◌, subst, arith}
use Rattle.std.proofs.lemmas.Bool.{false≢true}
use Rattle.fl_base.specs.Causes.{Rose}
use Rattle.fl_flash.specs.Flash.{FlashState, Goes}
use Rattle.fl_flash.specs.declared.flash.FlashFault.{FlashFault}
use Rattle.fl_flash.specs.declared.flash.FlashFault.TheVariants.{PowerLost, Media}
use Rattle.fl_model.specs.Work.{Device}
use Rattle.fl_frame.specs.Causes.{CausedBy, IsUnarmed}
use Rattle.fl_frame.specs.Device.{SameDevice}
use Rattle.fl_frame.specs.Watched.{IsWatched}
use Rattle.fl_frame.proofs.CallsInTurn.{cut-later}

-- a call within another is watched as that is
pub watched-first : (old mid new : FlashState) (rose : Bool) (device : Device) → IsWatched old new rose device → Goes mid new → IsWatched old mid rose device
watched-first old mid new rose device w goes = record {
  told = w.told;
  on = w.on;
  risen = λ rises. w.risen (omega (arith, rises, goes.faults));
  counts = w.counts;
}

-- .. and the next one, from what the device counts then
pub watched-then : (old mid new : FlashState) (rose : Bool) (device later : Device) → IsWatched old new rose device → Goes old mid → mid.is_on ≡ true → SameDevice mid later → IsWatched mid new rose later
watched-then old mid new rose device later w goes on counts = record {
  told = subst IsTrue (sym goes.tells) w.told;
  on = on;
  risen = λ rises. w.risen (omega (arith, rises, goes.faults));
  counts = counts;
}

-- .. whose fault has its cause in both
pub cause-later : (old mid new : FlashState) → Goes old mid → (old.is_on ≡ true → mid.is_on ≡ true) → (e : FlashFault) → CausedBy mid e new → CausedBy old e new
cause-later old mid new goes on PowerLost (inl off) = inl (by_power old.is_on refl)
  where
    by_power : (b : Bool) → old.is_on ≡ b → old.is_on ≡ false
    by_power true e = absurd (false≢true (sym off ∙ on e))
    by_power false e = e
cause-later old mid new goes on PowerLost (inr cut) = inr (cut-later old mid new goes cut)
cause-later old mid new goes on Media rises = omega (arith, rises, goes.faults)

-- where the power is on, and no cut is armed, calls leave it so
pub unarmed-then : (old new : FlashState) → IsUnarmed old → Goes old new → IsUnarmed new
unarmed-then old new unarmed goes = let keeps = goes.power unarmed.none in record { on = keeps.on unarmed.on; none = keeps.unarmed }

-- .. and it isn't lost
pub never-lost : (old new : FlashState) → IsUnarmed old → CausedBy old PowerLost new → ⊥
never-lost old new unarmed (inl off) = cc (unarmed.on, off)
never-lost old new unarmed (inr cut) = cut.armed unarmed.none

-- what rose in a later call rose in both
pub risen-later : (old mid new : FlashState) (rose : Bool) (device : Device) → IsWatched old new rose device → Goes old mid → Rose mid.media.faults new.media.faults → IsTrue rose
risen-later old mid new rose device w goes rises = w.risen (omega (arith, rises, goes.faults))
