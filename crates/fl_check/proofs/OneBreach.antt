-- One rule of a ring is the first that doesn't hold, and one page the first that breaks it, or all of them hold.
use Rattle.std.proofs.Common.{◌≡◌, ◌⊎◌, inl, inr, ℕ, List, refl, sym, ◌∙◌, ap}
use Rattle.std.proofs.lemmas.Bool.{cases_order}
use Rattle.fl_ring.specs.Ring.{Shape}
use Rattle.fl_rules.specs.Bodies.{HasBody, HaveBodies, BodiesBreak}
use Rattle.fl_rules.specs.Numbering.{IsNumbered, BreaksFirst}
use Rattle.fl_rules.specs.Rest.{IsRestBlank, RestBreaks, rest_from, rest_to}
use Rattle.fl_rules.specs.RingRules.{KeyOrder, NoRows, OverPages, WithinPages, IsAscending, IsFormed, HaveKeys, BreakKeys, IsRingSound, BreaksRing}
use Rattle.fl_rules.specs.Rising.{Rises}
use Rattle.fl_rules.specs.States.{IsWritten, page_after}
use Rattle.fl_rules.specs.declared.marks.Marks.{Marks}
use Rattle.fl_rules.specs.declared.numbering.Numbering.{Numbering}
use Rattle.fl_rules.specs.declared.rule.Breach.{Breach}
use Rattle.fl_rules.specs.declared.rule.Rule.{Rule}
use Rattle.fl_rules.specs.declared.rule.Rule.TheVariants.{Head, State, Number, Body, Keys, Entry, Blob, Rest}
use Rattle.fl_check.proofs.Decisions.{Decided, After, then_claimed, claim_decided}
use Rattle.fl_check.proofs.NumbersAreUnique.{kept_once, kept_never, numbering_decided}

module _ (page : ℕ → List ℕ) (r : Shape) (m : Marks) where
  written_once : (at from to i j : ℕ) → IsWritten page r at from to i → IsWritten page r at from to j → i ≡ j
  written_once at from to i j a b = elim (cases_order i j) [
    | inl same ↦ same
    | inr (inl low) ↦ absurd (a.here (b.before i a.low low))
    | inr (inr high) ↦ absurd (b.here (a.before j b.low high))
  ]

  rest_once : (p q : ℕ) → RestBreaks page r m p → RestBreaks page r m q → p ≡ q
  rest_once p q a b = a.is ∙ ap (page_after r m.at) (written_once m.at (rest_from r m) (rest_to r m) a.j b.j a.first b.first) ∙ sym b.is

  rest_never : (p : ℕ) → IsRestBlank page r m → RestBreaks page r m p → ⊥
  rest_never p (inl wait) a = a.must wait
  rest_never p (inr blank) a = a.first.here (blank a.j a.first.low a.first.high)

module _ (page : ℕ → List ℕ) (r : Shape) (n : Numbering) where
  keys_once : (order : KeyOrder) (p q : ℕ) → BreakKeys order page r n p → BreakKeys order page r n q → p ≡ q
  keys_once NoRows p q a b = absurd a
  keys_once (OverPages layout) p q a b = kept_once (Rises layout page r n.marks) r n.marks p q a b
  keys_once (WithinPages layout) p q a b = kept_once (HasBody (IsAscending layout) page r n) r n.marks p q a b

  keys_never : (order : KeyOrder) (p : ℕ) → HaveKeys order page r n → BreakKeys order page r n p → ⊥
  keys_never NoRows p have a = a
  keys_never (OverPages layout) p have a = kept_never (Rises layout page r n.marks) r n.marks p have a
  keys_never (WithinPages layout) p have a = kept_never (HasBody (IsAscending layout) page r n) r n.marks p have a

module _ (Form : ℕ → List ℕ → Type 0) (order : KeyOrder) (page : ℕ → List ℕ) (r : Shape) (at_least : ℕ) where
  abbrev Numbered : Numbering → Type 0
  Numbered n = IsNumbered page r at_least n.marks n.next

  abbrev Unnumbered : Breach → Type 0
  Unnumbered b = BreaksFirst page r at_least b.rule b.page

  abbrev UnformedAt : Numbering → Breach → Type 0
  UnformedAt n b = (b.rule ≡ Body) × BodiesBreak Form page r n b.page

  abbrev Unformed : Breach → Type 0
  Unformed b = Unnumbered b ⊎ After Numbered UnformedAt b

  abbrev UnorderedAt : Numbering → Breach → Type 0
  UnorderedAt n b = (b.rule ≡ Keys) × BreakKeys order page r n b.page

  abbrev Ordered : Numbering → Type 0
  Ordered n = IsFormed Form page r at_least n × HaveKeys order page r n

  abbrev Unordered : Breach → Type 0
  Unordered b = Unformed b ⊎ After (IsFormed Form page r at_least) UnorderedAt b

  abbrev UnblankAt : Numbering → Breach → Type 0
  UnblankAt n b = (b.rule ≡ Rest) × RestBreaks page r n.marks b.page

  formed_decided : Decided (IsFormed Form page r at_least) Unformed
  formed_decided =
      then_claimed Numbered Unnumbered (HaveBodies Form page r) UnformedAt (IsFormed Form page r at_least) Unformed (numbering_decided page r at_least)
      (λ n. claim_decided Body (HaveBodies Form page r n) (BodiesBreak Form page r n) (kept_once (HasBody Form page r n) r n.marks) (λ p. kept_never (HasBody Form page r n) r n.marks p))
      (λ n formed. (formed.numbered, formed.bodies)) (λ b breaks. breaks)

  ordered_decided : Decided Ordered Unordered
  ordered_decided =
      then_claimed (IsFormed Form page r at_least) Unformed (λ (n : Numbering). HaveKeys order page r n) UnorderedAt Ordered Unordered formed_decided
      (λ n. claim_decided Keys (HaveKeys order page r n) (BreakKeys order page r n) (keys_once page r n order) (keys_never page r n order))
      (λ n have. have) (λ b breaks. breaks)

  by_rule : (rule : Rule) (p : ℕ) → BreaksRing Form order page r at_least rule p → Unordered (record { rule = rule; page = p }) ⊎ After Ordered UnblankAt (record { rule = rule; page = p })
  by_rule Head p breaks = inl (inl (inl breaks))
  by_rule State p breaks = inl (inl (inl breaks))
  by_rule Number p breaks = inl (inl (inl breaks))
  by_rule Body p breaks = inl (inl (inr (record { x = breaks.n; passes = breaks.numbered; breaks = (refl, breaks.breaks) })))
  by_rule Keys p breaks = inl (inr (record { x = breaks.n; passes = breaks.formed; breaks = (refl, breaks.breaks) }))
  by_rule Entry p breaks = absurd breaks
  by_rule Blob p breaks = absurd breaks
  by_rule Rest p breaks = inr (record { x = breaks.n; passes = (breaks.formed, breaks.keys); breaks = (refl, breaks.breaks) })

  pub ring_decided : Decided (IsRingSound Form order page r at_least) (λ (b : Breach). BreaksRing Form order page r at_least b.rule b.page)
  ring_decided =
      then_claimed Ordered Unordered (λ (n : Numbering). IsRestBlank page r n.marks) UnblankAt (IsRingSound Form order page r at_least)
      (λ (b : Breach). BreaksRing Form order page r at_least b.rule b.page) ordered_decided
      (λ n. claim_decided Rest (IsRestBlank page r n.marks) (RestBreaks page r n.marks) (rest_once page r n.marks) (rest_never page r n.marks))
      (λ n sound. ((sound.formed, sound.keys), sound.rest)) (λ b breaks. by_rule b.rule b.page breaks)
