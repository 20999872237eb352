-- A check of a table with the power off: the first ring that is read tells it, which is that of the index where there is one.
use Rattle.std.proofs.Common.{◌≡◌, ◌^◌, ◌<◌, arith, false, IsTrue, Option, Some, None, is_some, Result, Err, refl, ◌∙◌}
use Rattle.fl_base.specs.declared.types.RingPlace.{RingPlace}
use Rattle.fl_flash.specs.Flash.{FlashState}
use Rattle.fl_flash.specs.declared.flash.FlashFault.{FlashFault}
use Rattle.fl_frame.specs.Reads.{OnlyLooks}
use Rattle.fl_frame.proofs.ReadsInTurn.{looks_more}
use Rattle.fl_check.specs.declared.finding.CheckFault.{CheckFault}
use Rattle.fl_check.specs.declared.finding.CheckFault.TheVariants.{Flash}

pub by_ring : (place : Option RingPlace) (P : Type 0) → (IsTrue (is_some place) → P) → (place ≡ None → P) → P
by_ring None P some none = none refl
by_ring (Some place) P some none = some refl

-- looks don't bring it back
pub off_still : (a b c : FlashState) → OnlyLooks a b → OnlyLooks b c → a.is_on ≡ false → c.is_on ≡ false
off_still a b c x y off = (looks_more a b c x y).power ∙ off

-- what the check of a table answers where that of its rings failed so
pub check_fault : {A B : Type 0} {d e : FlashFault} → ◌≡◌ {A = Result A FlashFault} (Err d) (Err e) → ◌≡◌ {A = Result B CheckFault} (Err (Flash d)) (Err (Flash e))
check_fault {d = d} {e = e} h = let same : d ≡ e = cc in rw same refl

-- what is asked at each call that is given a schema
pub schema-fits : 88 < 2 ^ 63
schema-fits = omega arith
