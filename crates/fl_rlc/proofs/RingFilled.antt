-- The pages of a ring to which one page more was sealed, and the page that comes next after a repair.
use Rattle.std.proofs.Common.{◌≡◌, ◌⊎◌, ℕ, ◌+◌, ◌-◌, ◌*◌, ◌%◌, ◌<◌, ◌≤◌, Bool, true, false, ◌&&◌, IsTrue, inl, inr, List, length, refl, sym, ◌∙◌, ap, subst, arith}
use Rattle.std.proofs.Math.Nat.{mod-lt, mul-le-mul_right, mod-eq_of_lt}
use Rattle.std.proofs.lemmas.Bool.{cases_lt, false≢true}
use Rattle.fl_model.specs.Image.{IsRingImage}
use Rattle.fl_model.specs.Layout.{is_blank}
use Rattle.fl_model.specs.Mount.{least_alike}
use Rattle.fl_model.specs.Ring.{Shape, Ring, IsRing, IsShape, oldest}
use Rattle.fl_ring.specs.Head.{one}
use Rattle.fl_ring.specs.Kept.{PagesStand}
use Rattle.fl_ring.proofs.Modulo.{last_block}
use Rattle.fl_ring.proofs.SamePlaces.{least_is_alike}

-- the pages of a ring of so many pages, by their numbers
abbrev pub on_ring : ℕ → ℕ → (ℕ → List ℕ) → ℕ → List ℕ
on_ring begin room page number = page (begin + number % room)

-- each place has a number in each round
record IsAt (room from place : ℕ) : Type 0 where
  number : ℕ
  low : from ≤ number
  high : number < from + room
  at : number % room ≡ place

number-at : (room from place : ℕ) → place < room → IsAt room from place
number-at room from place lt =
    let some : 0 < room = omega (arith, lt) in
    let small : (place % room + room - from % room) % room < room = mod-lt (place % room + room - from % room) some in
    record {
      number = least_alike room place from;
      low = omega arith;
      high = omega (arith, small);
      at = least_is_alike room place from some ∙ mod-eq_of_lt lt;
    }

-- Each page of the ring stands, or is blank, or is the one that was next.
pub ring-filled : (shape : Shape) (begin : ℕ) (old new : ℕ → List ℕ) (a b : Ring) (Holds : ℕ → ℕ → List ℕ → Type 0) → b.torn ≡ false → b.dirty ≡ false → b.next ≤ a.next + 1 →
    IsRingImage shape b (on_ring begin (shape.blocks * shape.pages) new) Holds →
    PagesStand a (on_ring begin (shape.blocks * shape.pages) old) b (on_ring begin (shape.blocks * shape.pages) new) →
    (q : ℕ) → begin ≤ q → q < begin + shape.blocks * shape.pages → (new q ≡ old q) ⊎ ((is_blank (new q) ≡ true) ⊎ (q ≡ begin + a.next % (shape.blocks * shape.pages)))
ring-filled shape begin old new a b Holds whole clean few image stand q low high = by-number (cases_lt is.number a.next) (cases_lt is.number b.next)
  where
    room : ℕ
    room = shape.blocks * shape.pages

    is : IsAt (shape.blocks * shape.pages) (oldest b) (q - begin)
    is = number-at room (oldest b) (q - begin) (omega (arith, low, high))

    here : begin + is.number % (shape.blocks * shape.pages) ≡ q
    here = omega (arith, is.at, low)

    waits : b.dirty ≡ true → ⊥
    waits e = false≢true (sym clean ∙ e)

    blank-there : (k : ℕ) → is.number ≡ b.next + k → is_blank (on_ring begin (shape.blocks * shape.pages) new (b.next + k)) ≡ true → is_blank (new q) ≡ true
    blank-there k e h = subst (λ (p : ℕ). is_blank (new p) ≡ true) here (subst (λ (n : ℕ). is_blank (on_ring begin room new n) ≡ true) (sym e) h)

    by-number : (is.number < a.next) ⊎ (a.next ≤ is.number) → (is.number < b.next) ⊎ (b.next ≤ is.number) → (new q ≡ old q) ⊎ ((is_blank (new q) ≡ true) ⊎ (q ≡ begin + a.next % (shape.blocks * shape.pages)))
    by-number (inl kept) others = inl (subst (λ (p : ℕ). new p ≡ old p) here (stand.bytes is.number is.low kept))
    by-number (inr later) (inl lt) =
        let same : is.number ≡ a.next = omega (arith, later, lt, few) in
        inr (inr (sym here ∙ ap (λ (n : ℕ). begin + n % room) same))
    by-number (inr later) (inr behind) = inr (inl (by-next (cases_lt b.next is.number)))
      where
        by-next : (b.next < is.number) ⊎ (is.number ≤ b.next) → is_blank (new q) ≡ true
        by-next (inl lt) =
            let e : is.number ≡ b.next + (is.number - b.next) = omega (arith, behind) in
            blank-there (is.number - b.next) e (image.others (is.number - b.next) (omega (arith, lt)) (omega (arith, is.high, behind)) (λ d. absurd (waits d)))
        by-next (inr le) =
            let e : is.number ≡ b.next = omega (arith, behind, le) in
            subst (λ (p : ℕ). is_blank (new p) ≡ true) here (subst (λ (n : ℕ). is_blank (on_ring begin room new n) ≡ true) (sym e) (image.blank_next whole))

-- The page after the kept ones and a torn one is blank.
pub next-blank : (shape : Shape) (ring : Ring) (at : ℕ → List ℕ) (Holds : ℕ → ℕ → List ℕ → Type 0) → IsShape shape → IsRing shape ring → IsRingImage shape ring at Holds → is_blank (at (ring.next + one ring.torn)) ≡ true
next-blank shape ring at Holds is facts image = by-torn ring.torn refl
  where
    both : (a b : Bool) → a ≡ true → b ≡ true → IsTrue (a && b)
    both a b e f = rw (e, f) refl

    few : length ring.counts + 1 < shape.blocks * shape.pages
    few =
        let small : ring.next % shape.pages < shape.pages = mod-lt ring.next (omega (arith, is.pages)) in
        let all : (shape.blocks - 1) * shape.pages + shape.pages ≡ shape.blocks * shape.pages = last_block shape.blocks shape.pages (omega (arith, is.blocks)) in
        let one_block : 1 * shape.pages ≤ (shape.blocks - 1) * shape.pages = mul-le-mul_right shape.pages (omega (arith, is.blocks)) in
        by-end (cases_lt (ring.next % shape.pages) (shape.pages - 1)) small all one_block
      where
        by-end : (ring.next % shape.pages < shape.pages - 1) ⊎ (shape.pages - 1 ≤ ring.next % shape.pages) → ring.next % shape.pages < shape.pages → (shape.blocks - 1) * shape.pages + shape.pages ≡ shape.blocks * shape.pages →
            1 * shape.pages ≤ (shape.blocks - 1) * shape.pages → length ring.counts + 1 < shape.blocks * shape.pages
        by-end (inl lt) small all one_block = omega (arith, facts.kept, lt, all, is.pages)
        by-end (inr le) small all one_block = omega (arith, facts.kept_at_end (omega (arith, le, small)), all, is.pages, one_block)

    by-torn : (t : Bool) → ring.torn ≡ t → is_blank (at (ring.next + one t)) ≡ true
    by-torn false e = subst (λ (n : ℕ). is_blank (at n) ≡ true) (let k : ring.next ≡ ring.next + 0 = omega arith in k) (image.blank_next e)
    by-torn true e = image.others 1 (omega arith) (omega (arith, few, facts.not_negative)) (λ d. absurd (facts.not_both (both ring.torn ring.dirty e d)))
