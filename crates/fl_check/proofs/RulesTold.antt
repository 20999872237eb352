-- What is told of each rule of a ring, by the check of that rule.
use Rattle.std.proofs.Common.{◌≡◌, ℕ, Bool, true, false, not, is_some, Option, Some, None, Result, Ok, Err, IfErr, IfOk, IfNone, IfSome, OnOk, List, sym, ◌∙◌, subst}
use Rattle.std.specs.Prelude.{MatchOption}
use Rattle.std.specs.Bool.{then_some}
use Rattle.std.proofs.lemmas.Bool.{true≢false}
use Rattle.std.proofs.lemmas.Option.{none-some, same_Some}
use Rattle.fl_flash.specs.declared.flash.FlashFault.{FlashFault}
use Rattle.fl_ring.specs.Ring.{Shape}
use Rattle.fl_rules.specs.Bodies.{HaveBodies, BodiesBreak}
use Rattle.fl_rules.specs.Numbers.{HaveNumbers}
use Rattle.fl_check.specs.Ruled.{BodiesTold, NumbersTold, HeadTold, RingTold}
use Rattle.fl_rules.specs.Stop.{first_page, IfFlash, IfBroken}
use Rattle.fl_check.specs.declared.faults.RingFaults.{RingFaults}
use Rattle.fl_rules.specs.declared.marks.Marks.{Marks}
use Rattle.fl_rules.specs.declared.numbering.Numbering.{Numbering}
use Rattle.fl_rules.specs.declared.rule.Rule.{Rule}
use Rattle.fl_rules.specs.declared.rule.Stop.{Stop}
use Rattle.fl_rules.specs.declared.rule.Stop.TheVariants.{Flash, Broken}

abbrev answer : Option ℕ → Result (Option ℕ) FlashFault
answer o = Ok o

same_answer : (a b : Option ℕ) → answer a ≡ answer b → a ≡ b
same_answer a b e = cc

no_answer : (e : FlashFault) (o : Option ℕ) → ◌≡◌ {A = Result (Option ℕ) FlashFault} (Err e) (Ok o) → ⊥
no_answer e o is = cc

-- the page at which a check of one rule ended
pub told_by : (checked : Result (Unit {0}) Stop) (o : Option ℕ) (Told Kept : Type 0) (rule : Rule) (Breaks : ℕ → Type 0) → first_page checked ≡ Ok o
    → OnOk checked (Told → Kept) → IfErr checked (IfBroken (λ b. Told → (b.rule ≡ rule) × Breaks b.page)) → Told → MatchOption o Kept Breaks
told_by (Ok done) o Told Kept rule Breaks is kept breaks told = subst (λ (x : Option ℕ). MatchOption x Kept Breaks) (same_answer None o is) (kept told)
told_by (Err (Broken b)) o Told Kept rule Breaks is kept breaks told = subst (λ (x : Option ℕ). MatchOption x Kept Breaks) (same_answer (Some b.page) o is) (breaks told).1
told_by (Err (Flash e)) o Told Kept rule Breaks is kept breaks told = absurd (no_answer e o is)

-- .. where its claim rests on another
pub if_told : (checked : Result (Unit {0}) Stop) (result : Result (Option ℕ) FlashFault) (Told Needs Kept : Type 0) (rule : Rule) (Breaks : ℕ → Type 0) → result ≡ first_page checked
    → OnOk checked (Told → Kept) → IfErr checked (IfBroken (λ b. Told → Needs → (b.rule ≡ rule) × Breaks b.page)) → IfOk result (λ o. Told → Needs → MatchOption o Kept Breaks)
if_told (Ok done) result Told Needs Kept rule Breaks is kept breaks = subst (λ (x : Result (Option ℕ) FlashFault). IfOk x (λ o. Told → Needs → MatchOption o Kept Breaks)) (sym is) (λ told needs. kept told)
if_told (Err (Broken b)) result Told Needs Kept rule Breaks is kept breaks =
    subst (λ (x : Result (Option ℕ) FlashFault). IfOk x (λ o. Told → Needs → MatchOption o Kept Breaks)) (sym is) (λ told needs. (breaks told needs).1)
if_told (Err (Flash e)) result Told Needs Kept rule Breaks is kept breaks = subst (λ (x : Result (Option ℕ) FlashFault). IfOk x (λ o. Told → Needs → MatchOption o Kept Breaks)) (sym is) tt

-- .. or the fault of the flash
pub fails_told : (checked : Result (Unit {0}) Stop) (result : Result (Option ℕ) FlashFault) (Fails : FlashFault → Type 0) → result ≡ first_page checked → IfErr checked (IfFlash Fails) → IfErr result Fails
fails_told (Ok done) result Fails is fails = subst (λ (x : Result (Option ℕ) FlashFault). IfErr x Fails) (sym is) tt
fails_told (Err (Broken b)) result Fails is fails = subst (λ (x : Result (Option ℕ) FlashFault). IfErr x Fails) (sym is) tt
fails_told (Err (Flash e)) result Fails is fails = subst (λ (x : Result (Option ℕ) FlashFault). IfErr x Fails) (sym is) fails

-- .. that a check answered
pub told_of : (o : Option ℕ) (Kept : Type 0) (Breaks : ℕ → Type 0) → IfNone o Kept → IfSome o Breaks → MatchOption o Kept Breaks
told_of None Kept Breaks kept breaks = kept
told_of (Some p) Kept Breaks kept breaks = breaks

pub if_ok_both : {A E : Type 0} (P Q R : A → Type 0) (result : Result A E) → ((a : A) → P a → Q a → R a) → IfOk result P → IfOk result Q → IfOk result R
if_ok_both P Q R (Ok a) f p q = f a p q
if_ok_both P Q R (Err e) f p q = tt

-- what is kept only where a test passes
pub if_kept : {A : Type 0} (P : A → Type 0) (test : Bool) (a : A) (o : Option A) → o ≡ then_some test a → P a → IfSome o P
if_kept {A = A} P true a o is holds = subst (λ (x : Option A). IfSome x P) (sym is) holds
if_kept {A = A} P false a o is holds = subst (λ (x : Option A). IfSome x P) (sym is) tt

module _ (Form : ℕ → List ℕ → Type 0) (page : ℕ → List ℕ) (r : Shape) where
  pub bodies_told : (n : Numbering) (body : Option ℕ) (none : Bool) (told : Option Numbering) → told ≡ then_some none n → is_some body ≡ not none
      → MatchOption body (HaveBodies Form page r n) (λ p. BodiesBreak Form page r n p) → BodiesTold Form page r n body told
  bodies_told n None true told is e have = (have, is)
  bodies_told n None false told is e have = absurd (true≢false (sym e))
  bodies_told n (Some p) true told is e breaks = absurd (true≢false e)
  bodies_told n (Some p) false told is e breaks = (breaks, is)

  -- a ring that tells its marks and numbers has its numbers and bodies
  pub record IsLegible (at_least : ℕ) (n : Numbering) : Type 0 where
    pub numbers : HaveNumbers page r n.marks at_least n.next
    pub bodies : HaveBodies Form page r n

  by_bodies : (at_least : ℕ) (m n : Numbering) (body : Option ℕ) (told : Option Numbering) → told ≡ Some n → HaveNumbers page r m.marks at_least m.next → BodiesTold Form page r m body told → IsLegible at_least n
  by_bodies at_least m n None told is numbers bodies =
      subst (λ (x : Numbering). IsLegible at_least x) (same_Some m n (sym bodies.1 ∙ is)) (record { numbers = numbers; bodies = bodies.0 })
  by_bodies at_least m n (Some p) told is numbers bodies = absurd (none-some n (sym bodies.1 ∙ is))

  by_numbers : (m : Marks) (at_least : ℕ) (n : Numbering) (number body : Option ℕ) (told : Option Numbering) → told ≡ Some n → NumbersTold Form page r m at_least number body told → IsLegible at_least n
  by_numbers m at_least n None body told is numbers = by_bodies at_least (record { marks = m; next = numbers.next }) n body told is numbers.numbers numbers.bodies
  by_numbers m at_least n (Some p) body told is numbers = absurd (none-some n (sym numbers.2 ∙ is))

  by_head : (at_least : ℕ) (n : Numbering) (head : Option ℕ) (faults : RingFaults) (told : Option Numbering) → told ≡ Some n → HeadTold Form page r at_least head faults told → IsLegible at_least n
  by_head at_least n None faults told is holds = by_numbers holds.m at_least n faults.number faults.body told is holds.numbers
  by_head at_least n (Some p) faults told is none = absurd (none-some n (sym none.3 ∙ is))

  pub legible : (at_least : ℕ) (n : Numbering) (faults : RingFaults) (told : Option Numbering) → told ≡ Some n → RingTold Form page r at_least faults told → IsLegible at_least n
  legible at_least n faults told is ring = by_head at_least n faults.head faults told is ring
