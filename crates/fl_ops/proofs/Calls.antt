-- Calls that only read, one after another.
use Rattle.std.proofs.Common.{◌≡◌, ◌⊎◌, inl, inr, subst, Bool, true, false, Result, Ok, Err, IfErr}
use Rattle.fl_flash.specs.Flash.{FlashState}
use Rattle.fl_frame.specs.Contents.{OnlyReads}
use Rattle.fl_page.specs.Causes.{IsCaused}
use Rattle.fl_page.specs.declared.fault.ReadFault.{ReadFault}
use Rattle.fl_page.specs.declared.fault.BadPage.{BadPage}
use Rattle.fl_page.specs.declared.fault.ReadFault.TheVariants.{Flash, BadPage as BadPage'}
use Rattle.fl_page.proofs.ReadsInTurn.{IsCaused-later}
use Rattle.fl_frame.proofs.ContentsInTurn.{OnlyReads-then, OnlyReads-reads}

pub ruleset calls = (OnlyReads-then, OnlyReads-reads)

-- what the last of two calls answered
pub caused-later : {Item : Type 0} (a b c : FlashState) (result : Result Item ReadFault) → OnlyReads a b → IfErr result (λ fault. IsCaused b fault c) → IfErr result (λ fault. IsCaused a fault c)
caused-later a b c (Ok item) first cause = tt
caused-later a b c (Err fault) first cause = IsCaused-later a b c fault first cause

-- an answer can't be true and false
pub true-false : {Fault : Type 0} {said : Result Bool Fault} → said ≡ Ok true → said ≡ Ok false → ⊥
true-false first second = cc

-- a fault is no answer
pub err-ok : {Item Fault : Type 0} {fault : Fault} {item : Item} → ◌≡◌ {A = Result Item Fault} (Err fault) (Ok item) → ⊥
err-ok is = cc

-- one bad page, whatever was asked for
pub bad-alike : {Item Other : Type 0} (fault : ReadFault) (bad : BadPage) → ◌≡◌ {A = Result Item ReadFault} (Err fault) (Err (BadPage' bad)) → ◌≡◌ {A = Result Other ReadFault} (Err fault) (Err (BadPage' bad))
bad-alike (Flash fault) bad is = absurd (cc is)
bad-alike (BadPage' found) bad is = cc

-- what holds of two things holds of those that they are
pub both-are : {A B : Type 0} (P : A → B → Type 0) {a a' : A} {b b' : B} → a ≡ a' → b ≡ b' → P a b → P a' b'
both-are P {a = a} {b' = b'} first second here = subst (λ x. P x b') first (subst (P a) second here)

pub either-then : {A B C D : Type 0} → (A → C) → (B → D) → A ⊎ B → C ⊎ D
either-then first second (inl a) = inl (first a)
either-then first second (inr b) = inr (second b)
