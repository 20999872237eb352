-- The marks and the numbers that the pages of a ring tell are no others, and so is the first page that breaks their rules.
use Rattle.std.proofs.Common.{◌≡◌, ◌⊎◌, inl, inr, ℕ, ◌+◌, ◌*◌, ◌<◌, Bool, not, List, Option, Some, None, refl, sym, ◌∙◌, ap, subst, arith}
use Rattle.std.proofs.lemmas.Bool.{cases_lt, cases_order, true≢false}
use Rattle.fl_mark.specs.Mark.{state_of_page}
use Rattle.fl_ring.specs.declared.newest.Newest.{Newest}
use Rattle.fl_ring.specs.Finding.{kept_pages}
use Rattle.fl_ring.specs.Front.{blanks}
use Rattle.fl_ring.specs.Head.{counts_full, fulls, page_in}
use Rattle.fl_ring.specs.Newest.{page_back}
use Rattle.fl_ring.specs.Ring.{Shape}
use Rattle.fl_rules.specs.Claims.{AllBelow, FailsFirst}
use Rattle.fl_rules.specs.Marks.{HasOneHead, IsOrdered, AreMarks, IsFirstKept, kept_page}
use Rattle.fl_rules.specs.Numbering.{IsNumbered, BreaksFirst}
use Rattle.fl_rules.specs.Numbers.{NewestOf, next_of, FitsPlace, HasItsNumber, IsLeft, HaveNumbers, NumbersBreak}
use Rattle.fl_rules.specs.States.{IsSealed, HaveStates, StatesBreak}
use Rattle.fl_rules.specs.declared.marks.HeadPages.{HeadPages}
use Rattle.fl_rules.specs.declared.marks.Marks.{Marks}
use Rattle.fl_rules.specs.declared.numbering.Numbering.{Numbering}
use Rattle.fl_rules.specs.declared.rule.Breach.{Breach}
use Rattle.fl_rules.specs.declared.rule.Rule.{Rule}
use Rattle.fl_rules.specs.declared.rule.Rule.TheVariants.{Head, State, Number, Body, Keys, Entry, Blob, Rest}
use Rattle.fl_check.proofs.Decisions.{Decided, After, then_decided, then_claimed, rule_decided, claim_decided}
use Rattle.fl_check.proofs.GoodStates.{states_hold}
use Rattle.fl_check.proofs.OneFound.{not_above, newest_same}

-- ---- the first claim that doesn't hold

pub fails_once : (Holds : ℕ → Type 0) (n i j : ℕ) → FailsFirst Holds n i → FailsFirst Holds n j → i ≡ j
fails_once Holds n i j a b = elim (cases_order i j) [
  | inl same ↦ same
  | inr (inl low) ↦ absurd (a.here (b.before i low))
  | inr (inr high) ↦ absurd (b.here (a.before j high))
]

pub kept_once : (Holds : ℕ → Type 0) (r : Shape) (m : Marks) (p q : ℕ) → IsFirstKept Holds r m p → IsFirstKept Holds r m q → p ≡ q
kept_once Holds r m p q a b = a.is ∙ ap (kept_page r m) (fails_once Holds m.kept a.i b.i a.first b.first) ∙ sym b.is

pub kept_never : (Holds : ℕ → Type 0) (r : Shape) (m : Marks) (p : ℕ) → AllBelow Holds m.kept → IsFirstKept Holds r m p → ⊥
kept_never Holds r m p all a = a.first.here (all a.i a.first.within)

-- ---- marks

abbrev head_pages : ℕ → Bool → ℕ → HeadPages
head_pages sealed torn ordered = record { front = record { sealed = sealed; torn = torn }; ordered = ordered }

abbrev marks_of : ℕ → HeadPages → ℕ → ℕ → Marks
marks_of head pages at kept = record { head = head; pages = pages; at = at; kept = kept }

module _ (page : ℕ → List ℕ) (r : Shape) where
  module _ (block : ℕ) (a b : HeadPages) (is_a : IsOrdered page r block a) (is_b : IsOrdered page r block b) where
    sealed_not_more : a.front.sealed < a.ordered → a.front.sealed < b.front.sealed → ⊥
    sealed_not_more within lt = not_above (λ i. state_of_page (page (page_in r block i))) r.per_block a.ordered b.ordered a.front b.front is_a.front is_b.front within lt

    ordered_not_less : a.ordered < b.ordered → ⊥
    ordered_not_less lt =
        let gap = is_a.gap (omega (arith, lt, is_b.within)) in
        elim (cases_lt a.front.sealed b.front.sealed) [
          | inl more_sealed ↦ sealed_not_more gap.0 more_sealed
          | inr few ↦ true≢false (sym (is_b.front.after a.ordered (omega (arith, few, gap.0)) lt) ∙ gap.1)
        ]

  -- the page after the sealed ones is in order
  sealed_within : (block : ℕ) (a : HeadPages) → IsOrdered page r block a → a.front.sealed < a.ordered
  sealed_within block a is = elim (cases_lt a.ordered r.per_block) [
    | inl less ↦ (is.gap less).0
    | inr all ↦ omega (arith, all, is.front.below)
  ]

  ordered_same : (block : ℕ) (a b : HeadPages) → IsOrdered page r block a → IsOrdered page r block b → a ≡ b
  ordered_same block a b is_a is_b =
      let ordered : a.ordered ≡ b.ordered = elim (cases_order a.ordered b.ordered) [
        | inl same ↦ same
        | inr (inl low) ↦ absurd (ordered_not_less block a b is_a is_b low)
        | inr (inr high) ↦ absurd (ordered_not_less block b a is_b is_a high)
      ] in
      let sealed : a.front.sealed ≡ b.front.sealed = elim (cases_order a.front.sealed b.front.sealed) [
        | inl same ↦ same
        | inr (inl low) ↦ absurd (sealed_not_more block a b is_a is_b (sealed_within block a is_a) low)
        | inr (inr high) ↦ absurd (sealed_not_more block b a is_b is_a (sealed_within block b is_b) high)
      ] in
      let torn : a.front.torn ≡ b.front.torn =
      is_a.front.torn (sealed_within block a is_a) ∙ ap (λ (k : ℕ). not (blanks (state_of_page (page (page_in r block k))))) sealed ∙ sym (is_b.front.torn (sealed_within block b is_b)) in
      ap (λ (k : ℕ). head_pages k a.front.torn a.ordered) sealed ∙ ap (λ (t : Bool). head_pages b.front.sealed t a.ordered) torn
      ∙ ap (λ (k : ℕ). head_pages b.front.sealed b.front.torn k) ordered

  pub marks_same : (m n : Marks) → AreMarks page r m → AreMarks page r n → m ≡ n
  marks_same m n a b =
      let head : m.head ≡ n.head = a.head ∙ sym b.head in
      let pages : m.pages ≡ n.pages = ordered_same n.head m.pages n.pages (subst (λ (h : ℕ). IsOrdered page r h m.pages) head a.ordered) b.ordered in
      let at : m.at ≡ n.at =
      a.at ∙ ap (λ (h : ℕ). h * r.per_block + m.pages.front.sealed) head ∙ ap (λ (x : HeadPages). n.head * r.per_block + x.front.sealed) pages ∙ sym b.at in
      let kept : m.kept ≡ n.kept = a.kept ∙ ap (λ (x : HeadPages). kept_pages r (fulls (counts_full r page) r.blocks) x.front.sealed) pages ∙ sym b.kept in
      ap (λ (k : ℕ). marks_of k m.pages m.at m.kept) head ∙ ap (λ (x : HeadPages). marks_of n.head x m.at m.kept) pages
      ∙ ap (λ (k : ℕ). marks_of n.head n.pages k m.kept) at ∙ ap (λ (k : ℕ). marks_of n.head n.pages n.at k) kept

  -- ---- states

  module _ (m : Marks) where
    states_once : (p q : ℕ) → StatesBreak page r m p → StatesBreak page r m q → p ≡ q
    states_once p q (inl a) (inl b) = a.is ∙ ap (kept_page r m) (fails_once (IsSealed page r m) m.kept a.i b.i a.first b.first) ∙ sym b.is
    states_once p q (inl a) (inr (inl b)) = absurd (a.first.here (b.kept a.i a.first.within))
    states_once p q (inl a) (inr (inr b)) = absurd (a.first.here (b.kept a.i a.first.within))
    states_once p q (inr (inl a)) (inl b) = absurd (b.first.here (a.kept b.i b.first.within))
    states_once p q (inr (inl a)) (inr (inl b)) = a.is ∙ sym b.is
    states_once p q (inr (inl a)) (inr (inr b)) = absurd (let never : ⊥ = omega (arith, a.some, b.ordered) in never)
    states_once p q (inr (inr a)) (inl b) = absurd (b.first.here (a.kept b.i b.first.within))
    states_once p q (inr (inr a)) (inr (inl b)) = absurd (let never : ⊥ = omega (arith, b.some, a.ordered) in never)
    states_once p q (inr (inr a)) (inr (inr b)) = a.is ∙ sym b.is

    -- ---- numbers

    newest_one : (a b : Option Newest) → NewestOf page r m a → NewestOf page r m b → a ≡ b
    newest_one a b is_a is_b = newest_same page r m.at m.kept a b is_a is_b

    module _ (at_least : ℕ) where
      numbers_same : (i j : ℕ) → HaveNumbers page r m at_least i → HaveNumbers page r m at_least j → i ≡ j
      numbers_same i j a b = a.next_is ∙ ap (next_of r m at_least) (newest_one a.newest b.newest a.newest_is b.newest_is) ∙ sym b.next_is

      -- what is known of the newest page is known of it
      fits_too : (a b : Option Newest) → NewestOf page r m a → NewestOf page r m b → FitsPlace r m a → FitsPlace r m b
      fits_too a b is_a is_b fits = subst (FitsPlace r m) (newest_one a b is_a is_b) fits

      each_too : (a b : Option Newest) → NewestOf page r m a → NewestOf page r m b → AllBelow (HasItsNumber page r m (next_of r m at_least a)) m.kept → AllBelow (HasItsNumber page r m (next_of r m at_least b)) m.kept
      each_too a b is_a is_b each = subst (λ (o : Option Newest). AllBelow (HasItsNumber page r m (next_of r m at_least o)) m.kept) (newest_one a b is_a is_b) each

      numbers_once : (p q : ℕ) → NumbersBreak page r m at_least p → NumbersBreak page r m at_least q → p ≡ q
      numbers_once p q (inl a) (inl b) = a.is ∙ at (Some a.newest) (Some b.newest) (newest_one (Some a.newest) (Some b.newest) a.newest_is b.newest_is) ∙ sym b.is
        where
          back_of : Option Newest → ℕ
          back_of None = 0
          back_of (Some x) = page_back r m.at x.back

          at : (x y : Option Newest) → x ≡ y → back_of x ≡ back_of y
          at x y e = ap back_of e
      numbers_once p q (inl a) (inr (inl b)) = absurd (a.unfit (fits_too b.newest (Some a.newest) b.newest_is a.newest_is b.fits))
      numbers_once p q (inl a) (inr (inr b)) = absurd (a.unfit (fits_too b.newest (Some a.newest) b.newest_is a.newest_is b.fits))
      numbers_once p q (inr (inl a)) (inl b) = absurd (b.unfit (fits_too a.newest (Some b.newest) a.newest_is b.newest_is a.fits))
      numbers_once p q (inr (inl a)) (inr (inl b)) =
          let first = subst (λ (o : Option Newest). FailsFirst (HasItsNumber page r m (next_of r m at_least o)) m.kept a.i) (newest_one a.newest b.newest a.newest_is b.newest_is) a.first in
          a.is ∙ ap (kept_page r m) (fails_once _ m.kept a.i b.i first b.first) ∙ sym b.is
      numbers_once p q (inr (inl a)) (inr (inr b)) = absurd (a.first.here (each_too b.newest a.newest b.newest_is a.newest_is b.each a.i a.first.within))
      numbers_once p q (inr (inr a)) (inl b) = absurd (b.unfit (fits_too a.newest (Some b.newest) a.newest_is b.newest_is a.fits))
      numbers_once p q (inr (inr a)) (inr (inl b)) = absurd (b.first.here (each_too a.newest b.newest a.newest_is b.newest_is a.each b.i b.first.within))
      numbers_once p q (inr (inr a)) (inr (inr b)) = a.is ∙ sym b.is

      numbers_never : (next p : ℕ) → HaveNumbers page r m at_least next → NumbersBreak page r m at_least p → ⊥
      numbers_never next p have (inl a) = a.unfit (fits_too have.newest (Some a.newest) have.newest_is a.newest_is have.fits)
      numbers_never next p have (inr (inl a)) =
          a.first.here (each_too have.newest a.newest have.newest_is a.newest_is (subst (λ (k : ℕ). AllBelow (HasItsNumber page r m k) m.kept) have.next_is have.each) a.i a.first.within)
      numbers_never next p have (inr (inr a)) =
          a.none (subst (λ (o : Option Newest). IsLeft m (next_of r m at_least o)) (newest_one have.newest a.newest have.newest_is a.newest_is) (subst (IsLeft m) have.next_is have.left))

  -- ---- the three rules

  abbrev NoHead : Breach → Type 0
  NoHead b = (b.rule ≡ Head) × ((HasOneHead page r → ⊥) × (b.page ≡ r.first))

  abbrev BreakStates : Marks → Breach → Type 0
  BreakStates m b = (b.rule ≡ State) × StatesBreak page r m b.page

  abbrev HaveMarks : Marks → Type 0
  HaveMarks m = AreMarks page r m × HaveStates page r m

  abbrev NoMarks : Breach → Type 0
  NoMarks b = NoHead b ⊎ After (AreMarks page r) BreakStates b

  abbrev BreakNumbers : ℕ → Marks → Breach → Type 0
  BreakNumbers at_least m b = (b.rule ≡ Number) × NumbersBreak page r m at_least b.page

  heads_decided : Decided (AreMarks page r) NoHead
  heads_decided =
      rule_decided Head (AreMarks page r) (λ (p : ℕ). (HasOneHead page r → ⊥) × (p ≡ r.first)) marks_same (λ p q a b. a.1 ∙ sym b.1) (λ m p marks breaks. breaks.0 marks.one_head)

  states_decided : Decided HaveMarks NoMarks
  states_decided =
      then_claimed (AreMarks page r) NoHead (HaveStates page r) BreakStates HaveMarks NoMarks heads_decided
      (λ m. claim_decided State (HaveStates page r m) (StatesBreak page r m) (states_once m) (λ p. states_hold page r m p)) (λ m have. have) (λ b breaks. breaks)

  abbrev numbering_of : Marks → ℕ → Numbering
  numbering_of m next = record { marks = m; next = next }

  first_by : (at_least : ℕ) (rule : Rule) (p : ℕ) → BreaksFirst page r at_least rule p → NoMarks (record { rule = rule; page = p }) ⊎ After HaveMarks (BreakNumbers at_least) (record { rule = rule; page = p })
  first_by at_least Head p breaks = inl (inl (refl, breaks))
  first_by at_least State p breaks = inl (inr (record { x = breaks.m; passes = breaks.marks; breaks = (refl, breaks.breaks) }))
  first_by at_least Number p breaks = inr (record { x = breaks.m; passes = (breaks.marks, breaks.states); breaks = (refl, breaks.breaks) })
  first_by at_least Body p breaks = absurd breaks
  first_by at_least Keys p breaks = absurd breaks
  first_by at_least Entry p breaks = absurd breaks
  first_by at_least Blob p breaks = absurd breaks
  first_by at_least Rest p breaks = absurd breaks

  pub numbering_decided : (at_least : ℕ) → Decided (λ (n : Numbering). IsNumbered page r at_least n.marks n.next) (λ (b : Breach). BreaksFirst page r at_least b.rule b.page)
  numbering_decided at_least =
      then_decided HaveMarks NoMarks (λ (m : Marks) (next : ℕ). HaveNumbers page r m at_least next) (BreakNumbers at_least) (λ (n : Numbering). IsNumbered page r at_least n.marks n.next)
      (λ (b : Breach). BreaksFirst page r at_least b.rule b.page) (λ (n : Numbering). n.marks) (λ (n : Numbering). n.next) states_decided
      (λ m. rule_decided Number (λ (next : ℕ). HaveNumbers page r m at_least next) (NumbersBreak page r m at_least) (numbers_same m at_least) (numbers_once m at_least) (numbers_never m at_least))
      (λ n k marks next. ap (λ (m : Marks). numbering_of m n.next) marks ∙ ap (λ (i : ℕ). numbering_of k.marks i) next) (λ n is. ((is.marks, is.states), is.numbers)) (λ b breaks. first_by at_least b.rule b.page breaks)
