-- Looks one after another, which leave the pages as they are.
use Rattle.std.proofs.Common.{ℕ, List, IsTrue, sym, ◌∙◌, subst, arith}
use Rattle.fl_flash.specs.Flash.{FlashState, page_at}
use Rattle.fl_flash.specs.declared.flash.FlashFault.{FlashFault}
use Rattle.fl_flash.specs.declared.flash.FlashFault.TheVariants.{PowerLost, Media}
use Rattle.fl_frame.specs.Reads.{OnlyLooks}
use Rattle.fl_frame.specs.Causes.{ReadFails}
use Rattle.fl_frame.proofs.ReadsInTurn.{looks_pages}

pub told_still : (a b : FlashState) → OnlyLooks a b → IsTrue a.media.tells → IsTrue b.media.tells
told_still a b x told = subst IsTrue (sym x.goes.tells) told

-- what is said of the pages after a look is said of those before it
pub seen : (a b : FlashState) (P : (ℕ → List ℕ) → Type 0) → OnlyLooks a b → (IsTrue b.media.tells → P (page_at b)) → IsTrue a.media.tells → P (page_at a)
seen a b P x p told = subst P (looks_pages a b x) (p (told_still a b x told))

pub fails_later : (a b c : FlashState) (e : FlashFault) → OnlyLooks a b → ReadFails b e c → ReadFails a e c
fails_later a b c PowerLost x off = sym x.power ∙ off
fails_later a b c Media x rose = let later = x.goes.faults in omega (arith, rose, later)
