-- The rules of one ring, one after another.
use Rattle.std.proofs.Common.{◌≡◌, ℕ, List, sym, subst}
use Rattle.fl_ring.specs.Ring.{Shape}
use Rattle.fl_rules.specs.Bodies.{BodiesBreak}
use Rattle.fl_rules.specs.Numbering.{IsNumbered, BreaksFirst}
use Rattle.fl_rules.specs.Rest.{RestBreaks}
use Rattle.fl_rules.specs.RingRules.{KeyOrder, IsFormed, HaveKeys, BreakKeys, BreaksBodies, BreaksKeys, BreaksRest, BreaksRing}
use Rattle.fl_rules.specs.declared.numbering.Numbering.{Numbering}
use Rattle.fl_rules.specs.declared.rule.Breach.{Breach}
use Rattle.fl_rules.specs.declared.rule.Rule.{Rule}
use Rattle.fl_rules.specs.declared.rule.Rule.TheVariants.{Head, State, Number, Body, Keys, Entry, Blob, Rest}

module _ (Form : ℕ → List ℕ → Type 0) (order : KeyOrder) (page : ℕ → List ℕ) (r : Shape) (at_least : ℕ) where
  pub first_breaks : (rule : Rule) (p : ℕ) → BreaksFirst page r at_least rule p → BreaksRing Form order page r at_least rule p
  first_breaks Head p x = x
  first_breaks State p x = x
  first_breaks Number p x = x
  first_breaks Body p x = absurd x
  first_breaks Keys p x = absurd x
  first_breaks Entry p x = absurd x
  first_breaks Blob p x = absurd x
  first_breaks Rest p x = absurd x

  pub bodies_break : (n : Numbering) (b : Breach) → IsNumbered page r at_least n.marks n.next → (b.rule ≡ Body) × BodiesBreak Form page r n b.page
      → BreaksRing Form order page r at_least b.rule b.page
  bodies_break n b numbered breaks = subst (λ (rule : Rule). BreaksRing Form order page r at_least rule b.page) (sym breaks.0) here
    where
      here : BreaksBodies Form page r at_least b.page
      here = record { n = n; numbered = numbered; breaks = breaks.1 }

  pub keys_break : (n : Numbering) (b : Breach) → IsFormed Form page r at_least n → (b.rule ≡ Keys) × BreakKeys order page r n b.page
      → BreaksRing Form order page r at_least b.rule b.page
  keys_break n b formed breaks = subst (λ (rule : Rule). BreaksRing Form order page r at_least rule b.page) (sym breaks.0) here
    where
      here : BreaksKeys Form order page r at_least b.page
      here = record { n = n; formed = formed; breaks = breaks.1 }

  pub rest_break : (n : Numbering) (b : Breach) → IsFormed Form page r at_least n → HaveKeys order page r n → (b.rule ≡ Rest) × RestBreaks page r n.marks b.page
      → BreaksRing Form order page r at_least b.rule b.page
  rest_break n b formed keys breaks = subst (λ (rule : Rule). BreaksRing Form order page r at_least rule b.page) (sym breaks.0) here
    where
      here : BreaksRest Form order page r at_least b.page
      here = record { n = n; formed = formed; keys = keys; breaks = breaks.1 }
