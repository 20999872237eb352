-- The numbers that the pages of a ring give are no others.
use Rattle.std.proofs.Common.{◌≡◌, ℕ, ◌+◌, ◌<◌, Bool, not, List, IsTrue, Option, Some, None, MatchOption, inl, inr, refl, sym, ◌∙◌, ap, subst, arith}
use Rattle.std.proofs.lemmas.Bool.{cases_lt, cases_order, true≢false}
use Rattle.fl_flash.specs.Flash.{FlashState, page_at}
use Rattle.fl_flash.specs.declared.flash.FlashFault.{FlashFault}
use Rattle.fl_mark.specs.declared.page_state.PageState.{PageState}
use Rattle.fl_ring.specs.declared.fault.RingFault.{RingFault}
use Rattle.fl_ring.specs.declared.fault.RingFault.TheVariants.{Flash, BadHead, BadGap, BadPage, NoNumber}
use Rattle.fl_ring.specs.declared.front.Front.{Front}
use Rattle.fl_ring.specs.declared.newest.Newest.{Newest}
use Rattle.fl_ring.specs.declared.numbers.Numbers.{Numbers}
use Rattle.fl_ring.specs.Finding.{next_place, kept_at, HasHead, HasNoNumbers, NewestIs, IsFound, FoundFault}
use Rattle.fl_ring.specs.Front.{IsFront, IsGap, blanks}
use Rattle.fl_ring.specs.Newest.{number_of, page_back, NoneBefore, IsNewest}
use Rattle.fl_ring.specs.Numbers.{next_by, NumbersFit}
use Rattle.fl_ring.specs.Ring.{Shape}

abbrev front_of : ℕ → Bool → Front
front_of sealed torn = record { sealed = sealed; torn = torn }

abbrev newest_of : ℕ → ℕ → Newest
newest_of back number = record { back = back; number = number }

abbrev numbers_with : ℕ → ℕ → Bool → Numbers
numbers_with oldest next torn = record { oldest = oldest; next = next; torn = torn }

module _ (st : ℕ → PageState) (per_block : ℕ) where
  -- the page after the sealed ones of a front isn't a sealed one of another
  pub not_above : (n k : ℕ) (a b : Front) → IsFront st per_block n a → IsFront st per_block k b → a.sealed < n → a.sealed < b.sealed → ⊥
  not_above n k a b is_a is_b within lt = true≢false (sym (is_b.sealed a.sealed lt) ∙ is_a.unsealed within (omega (arith, lt, is_b.below)))

  front_same : (a b : Front) → IsFront st per_block per_block a → IsFront st per_block per_block b → a ≡ b
  front_same a b is_a is_b =
      let sealed : a.sealed ≡ b.sealed = elim (cases_order a.sealed b.sealed) [
        | inl same ↦ same
        | inr (inl low) ↦ absurd (not_above per_block per_block a b is_a is_b is_a.below low)
        | inr (inr high) ↦ absurd (not_above per_block per_block b a is_b is_a is_b.below high)
      ] in
      let torn : a.torn ≡ b.torn = is_a.torn is_a.below ∙ ap (λ (k : ℕ). not (blanks (st k))) sealed ∙ sym (is_b.torn is_b.below) in
      ap (λ (k : ℕ). front_of k a.torn) sealed ∙ ap (λ (t : Bool). front_of b.sealed t) torn

  -- a front of all pages has no gap
  front_whole : (r : Shape) (head p : ℕ) (a : Front) → r.per_block ≡ per_block → IsFront st per_block per_block a → IsGap st r head p → ⊥
  front_whole r head p a size is_a gap =
      let so_far = subst (λ (n : ℕ). IsFront st n gap.i gap.front) size gap.so_far in
      elim (cases_lt a.sealed gap.i) [
        | inl lt ↦ true≢false (sym (is_a.after gap.i lt (omega (arith, size, gap.within))) ∙ gap.found)
        | inr le ↦ not_above gap.i per_block gap.front a so_far is_a gap.later (omega (arith, le, gap.later))
      ]

module _ (page : ℕ → List ℕ) (r : Shape) (at kept : ℕ) where
  abbrev Is : Option Newest → Type 0
  Is newest = MatchOption newest (NoneBefore page r at (kept + 1)) (IsNewest page r at kept)

  newest_not : (x : Newest) → IsNewest page r at kept x → NoneBefore page r at (kept + 1) → ⊥
  newest_not x is none = true≢false (sym is.committed ∙ none x.back is.some (omega (arith, is.within)))

  pub newest_same : (a b : Option Newest) → Is a → Is b → a ≡ b
  newest_same None None is_a is_b = refl
  newest_same None (Some y) is_a is_b = absurd (newest_not y is_b is_a)
  newest_same (Some x) None is_a is_b = absurd (newest_not x is_a is_b)
  newest_same (Some x) (Some y) is_a is_b =
      let back : x.back ≡ y.back = elim (cases_order x.back y.back) [
        | inl same ↦ same
        | inr (inl low) ↦ absurd (true≢false (sym is_a.committed ∙ is_b.others x.back is_a.some low))
        | inr (inr high) ↦ absurd (true≢false (sym is_b.committed ∙ is_a.others y.back is_b.some high))
      ] in
      let number : x.number ≡ y.number = is_a.number ∙ ap (λ (k : ℕ). number_of (page (page_back r at k))) back ∙ sym is_b.number in
      ap (λ (k : ℕ). Some (newest_of k x.number)) back ∙ ap (λ (k : ℕ). Some (newest_of y.back k)) number

module _ (f : FlashState) (r : Shape) (at_least : ℕ) (numbers : Numbers) (found : IsFound f r at_least numbers) where
  same_front : (front : Front) → HasHead f r front → front ≡ found.front
  same_front front head = front_same _ r.per_block front found.front head.front_is found.head.front_is

  same_newest : (front : Front) (newest : Option Newest) → HasHead f r front → NewestIs f r front newest → newest ≡ found.newest
  same_newest front newest head is =
      newest_same (page_at f) r (next_place f r found.front) (kept_at f r found.front) newest found.newest
      (subst (λ (x : Front). NewestIs f r x newest) (same_front front head) is) found.newest_is

  -- other numbers that are found are the same
  pub same_numbers : (other : Numbers) → IsFound f r at_least other → other ≡ numbers
  same_numbers other is =
      let front = same_front is.front is.head in
      let newest = same_newest is.front is.newest is.head is.newest_is in
      let next : other.next ≡ numbers.next =
      is.next ∙ ap (λ (x : Front). next_by r (next_place f r x) (kept_at f r x) at_least is.newest) front
      ∙ ap (λ (x : Option Newest). next_by r (next_place f r found.front) (kept_at f r found.front) at_least x) newest ∙ sym found.next in
      let kept = ap (λ (x : Front). kept_at f r x) front in
      let oldest : other.oldest ≡ numbers.oldest = omega (arith, is.oldest, found.oldest, kept, next) in
      let torn : other.torn ≡ numbers.torn = is.torn ∙ ap (λ (x : Front). x.torn) front ∙ sym found.torn in
      ap (λ (k : ℕ). numbers_with k other.next other.torn) oldest ∙ ap (λ (k : ℕ). numbers_with numbers.oldest k other.torn) next
      ∙ ap (λ (t : Bool). numbers_with numbers.oldest numbers.next t) torn

  numbers_fit : (fault : RingFault) → HasNoNumbers f r at_least fault → ⊥
  numbers_fit fault no_numbers =
      no_numbers.unfit
      (subst (λ (x : Front). NumbersFit r (next_place f r x) (kept_at f r x) at_least x.torn no_numbers.newest) (sym (same_front no_numbers.front no_numbers.head))
      (subst (λ (x : Option Newest). NumbersFit r (next_place f r found.front) (kept_at f r found.front) at_least found.front.torn x)
      (sym (same_newest no_numbers.front no_numbers.newest no_numbers.head no_numbers.newest_is)) found.fits))

  -- the flash alone can fail
  pub flash_alone : IsTrue f.media.tells → (fault : RingFault) → FoundFault f r at_least fault → (e : FlashFault) × (fault ≡ Flash e)
  flash_alone told (Flash e) fault = (e, refl)
  flash_alone told (BadHead heads) fault = absurd ((fault told).0 found.head.one_head)
  flash_alone told (BadGap p) fault = absurd (front_whole _ r.per_block r _ p found.front refl found.head.front_is (fault told).gap)
  flash_alone told (BadPage p wanted number) fault = absurd (numbers_fit (BadPage p wanted number) (fault told))
  flash_alone told (NoNumber least) fault = absurd (numbers_fit (NoNumber least) (fault told))
