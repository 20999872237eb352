-- The pages of a ring of an image, number by number: those that are kept and have a count, and the others, none of which is committed.
use Rattle.std.proofs.Common.{◌≡◌, ◌⊎◌, inl, inr, ℕ, ◌+◌, ◌-◌, ◌*◌, ◌<◌, ◌≤◌, true, false, Option, Some, None, unwrap_or, List, length, take, drop, refl, sym, ◌∙◌, ap, subst, arith, length-drop}
use Rattle.std.specs.List.{slice_get}
use Rattle.std.proofs.Math.Nat.{mul-le-mul_right}
use Rattle.std.proofs.lemmas.Bool.{cases_Bool, cases_lt, false≢true}
use Rattle.std.proofs.lemmas.List.{length-take-le}
use Rattle.std.proofs.lemmas.Option.{slice_get_past}
use Rattle.fl_mark.specs.Mark.{state_of_page}
use Rattle.fl_mark.specs.declared.page_state.PageState.{PageState}
use Rattle.fl_mark.specs.declared.page_state.PageState.TheVariants.{Blank, Torn, Committed, Void}
use Rattle.fl_mark.proofs.InModel.{model_state}
use Rattle.fl_model.specs.Image.{IsRingImage}
use Rattle.fl_model.specs.Layout.{is_blank, is_void, IsTornPage}
use Rattle.fl_model.specs.Ring.{Shape, Ring, IsRing, oldest}
use Rattle.fl_model.proofs.Lists.{slice_get-some}
use Rattle.fl_salvage.specs.Blobs.{where_committed}
use Rattle.fl_salvage.specs.Pages.{if_committed, with_number}

-- how many records the page with this number holds, 0 where none is kept with it
abbrev pub count_of : Ring → ℕ → ℕ
count_of ring number = unwrap_or (slice_get ring.counts (number - oldest ring)) 0

-- a kept page with a count
pub record IsKept (ring : Ring) (Holds : ℕ → ℕ → List ℕ → Type 0) (number : ℕ) (page : List ℕ) : Type 0 where
  pub i : ℕ
  pub count : ℕ
  pub at : oldest ring + i ≡ number
  pub counted : slice_get ring.counts i ≡ Some count
  pub some : 0 < count
  pub holds : Holds i count page

-- any other
pub record IsOther (ring : Ring) (number : ℕ) (page : List ℕ) : Type 0 where
  pub none : count_of ring number ≡ 0
  pub state : (is_void page ≡ true) ⊎ ((is_blank page ≡ true) ⊎ IsTornPage page)

pub kept-count : (ring : Ring) (i count number : ℕ) → oldest ring + i ≡ number → slice_get ring.counts i ≡ Some count → count_of ring number ≡ count
kept-count ring i count number at e =
    let there : number - oldest ring ≡ i = omega (arith, at) in
    ap (λ n. unwrap_or (slice_get ring.counts n) 0) there ∙ ap (λ o. unwrap_or o 0) e

module _ (shape : Shape) (ring : Ring) (at : ℕ → List ℕ) (Holds : ℕ → ℕ → List ℕ → Type 0) (is : IsRing shape ring) (clean : ring.dirty ≡ false) (image : IsRingImage shape ring at Holds) where
  behind : (number : ℕ) → ring.next ≤ number → count_of ring number ≡ 0
  behind number le = ap (λ o. unwrap_or o 0) (slice_get_past ring.counts (number - oldest ring) (omega (arith, le, is.not_negative)))

  before-next : (number : ℕ) → oldest ring ≤ number → number < ring.next → IsKept ring Holds number (at number) ⊎ IsOther ring number (at number)
  before-next number low lt =
      let c = slice_get-some ring.counts (number - oldest ring) (omega (arith, low, lt, is.not_negative)) in
      let there : oldest ring + (number - oldest ring) ≡ number = omega (arith, low) in
      by_count c.0 c.1 there (cases_lt 0 c.0)
    where
      by_count : (count : ℕ) → slice_get ring.counts (number - oldest ring) ≡ Some count → oldest ring + (number - oldest ring) ≡ number → (0 < count) ⊎ (count ≤ 0)
          → IsKept ring Holds number (at number) ⊎ IsOther ring number (at number)
      by_count count e there (inl some) =
          inl (record { i = number - oldest ring; count = count; at = there; counted = e; some = some; holds = subst (λ n. Holds (number - oldest ring) count (at n)) there (image.kept (number - oldest ring) count e some) })
      by_count count e there (inr none) =
          let z : count ≡ 0 = omega (arith, none) in
          let here : slice_get ring.counts (number - oldest ring) ≡ Some 0 = e ∙ ap (λ n. Some n) z in
          inr (record { none = ap (λ o. unwrap_or o 0) here; state = inl (subst (λ n. is_void (at n) ≡ true) there (image.void (number - oldest ring) here)) })

  from-next : (number : ℕ) → ring.next ≤ number → number < oldest ring + shape.blocks * shape.pages → IsOther ring number (at number)
  from-next number le lt = elim (cases_lt ring.next number) [
    | inl after ↦
        let there : ring.next + (number - ring.next) ≡ number = omega (arith, after) in
        let blank = image.others (number - ring.next) (omega (arith, after)) (omega (arith, lt, there)) (λ dirty. absurd (false≢true (sym clean ∙ dirty))) in
        record { none = behind number le; state = inr (inl (subst (λ n. is_blank (at n) ≡ true) there blank)) }
    | inr here ↦
        let same : ring.next ≡ number = omega (arith, le, here) in
        record { none = behind number le; state = by_torn same (cases_Bool ring.torn) }
  ]
    where
      by_torn : ring.next ≡ number → (ring.torn ≡ true) ⊎ (ring.torn ≡ false) → (is_void (at number) ≡ true) ⊎ ((is_blank (at number) ≡ true) ⊎ IsTornPage (at number))
      by_torn same (inl torn) = inr (inr (subst (λ n. IsTornPage (at n)) same (image.torn_next torn)))
      by_torn same (inr not) = inr (inl (subst (λ n. is_blank (at n) ≡ true) same (image.blank_next not)))

  -- each number of a round from the oldest one on
  pub placed : (number : ℕ) → oldest ring ≤ number → number < oldest ring + shape.blocks * shape.pages → IsKept ring Holds number (at number) ⊎ IsOther ring number (at number)
  placed number low high = elim (cases_lt number ring.next) [
    | inl lt ↦ before-next number low lt
    | inr le ↦ inr (from-next number le high)
  ]

-- ---- pages that aren't committed

pub uncommitted : (page : List ℕ) → 8 ≤ length page → (is_void page ≡ true) ⊎ ((is_blank page ≡ true) ⊎ IsTornPage page) → state_of_page page ≡ Committed → ⊥
uncommitted page le (inl void) e = no (sym ((model_state page le).void.1 void) ∙ e)
  where
    no : Void ≡ Committed → ⊥
    no k = cc
uncommitted page le (inr (inl blank)) e = no (sym ((model_state page le).blank.1 blank) ∙ e)
  where
    no : Blank ≡ Committed → ⊥
    no k = cc
uncommitted page le (inr (inr torn)) e = no (sym ((model_state page le).torn.1 torn) ∙ e)
  where
    no : Torn ≡ Committed → ⊥
    no k = cc

pub no-number : (s : PageState) (found : _) (number : ℕ) (numbers : List ℕ) → (s ≡ Committed → ⊥) → with_number (if_committed s found) number numbers ≡ numbers
no-number Blank found number numbers other = refl
no-number Torn found number numbers other = refl
no-number Void found number numbers other = refl
no-number Committed found number numbers other = absurd (other refl)

pub no-content : (s : PageState) (content : Option (List ℕ)) → (s ≡ Committed → ⊥) → where_committed s content ≡ None
no-content Blank content other = refl
no-content Torn content other = refl
no-content Void content other = refl
no-content Committed content other = absurd (other refl)

-- ---- the bytes of a place

-- a page of a ring has all of its bytes where the ring ends within the image
pub full-page : (first pages size : ℕ) (bytes : List ℕ) (place : ℕ) → place < pages → 1024 + (first + pages) * size ≤ length bytes → length (take size (drop (1024 + (first + place) * size) bytes)) ≡ size
full-page first pages size bytes place lt fits =
    let within : (first + place + 1) * size ≤ (first + pages) * size = mul-le-mul_right size (omega (arith, lt)) in
    let one : (first + place + 1) * size ≡ (first + place) * size + size = omega arith in
    length-take-le size (drop (1024 + (first + place) * size) bytes) (omega (arith, length-drop (1024 + (first + place) * size) bytes, within, one, fits))
