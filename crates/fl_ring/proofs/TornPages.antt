-- The page after the kept ones of a ring is torn where a search for its numbers says so.
use Rattle.std.proofs.Common.{◌≡◌, ℕ, zero, suc, ◌+◌, ◌-◌, ◌*◌, ◌%◌, ◌<◌, ◌≤◌, min, Bool, true, false, not, ◌==◌, if◌then◌else◌, Option, Some, None, inl, inr, refl, sym, ◌∙◌, ap, subst, arith}
use Rattle.std.proofs.Math.Nat.{mul-le-mul_right, mod-eq_of_lt, mod-add-mod, add-mod_right, min-le_right}
use Rattle.std.proofs.lemmas.Nat.{mod-mul-add}
use Rattle.std.proofs.lemmas.Bool.{cases_lt, cases_eq, cases_Bool, and_parts, true≢false, cond-true, cond-false, eq-eqb, ne_eqb, not-true}
use Rattle.fl_flash.specs.Flash.{FlashState}
use Rattle.fl_mark.specs.declared.page_state.PageState.{PageState}
use Rattle.fl_mark.specs.declared.page_state.PageState.TheVariants.{Blank, Torn, Committed, Void}
use Rattle.fl_ring.specs.declared.numbers.Numbers.{Numbers}
use Rattle.fl_ring.specs.Finding.{kept_pages, full_of, head_at, next_place, kept_at, NewestIs, IsFound}
use Rattle.fl_ring.specs.Front.{blanks}
use Rattle.fl_ring.specs.Head.{seals, page_in, one, fulls, before, is_head, ends, last_head, heads, head_of}
use Rattle.fl_ring.specs.Looking.{state_at}
use Rattle.fl_ring.specs.Numbers.{next_by, NumbersFit}
use Rattle.fl_ring.specs.Ring.{Shape, place, room}
use Rattle.fl_ring.proofs.Modulo.{more, last_block}
use Rattle.fl_ring.proofs.SamePlaces.{in_block, least_is_alike}

one_none : (b : Bool) → one b ≡ 0 → b ≡ false
one_none true e = absurd (omega (arith, e))
one_none false e = refl

-- the last of these blocks that is a head
module _ (full : ℕ → Bool) (B : ℕ) where
  none_full : (n i : ℕ) → fulls full n ≡ 0 → i < n → full i ≡ false
  none_full zero i none lt = absurd (omega (arith, lt))
  none_full (suc n) i none lt = elim (cases_eq i n) [
    | inl same ↦ ap full same ∙ one_none (full n) (omega (arith, none))
    | inr other ↦ none_full n i (omega (arith, none)) (omega (arith, lt, other))
  ]

  last_within : (n : ℕ) → last_head full B n ≤ n - 1
  last_within zero = omega arith
  last_within (suc n) = elim (cases_Bool (is_head full B n)) [
    | inl is ↦ omega (arith, cond-true (is_head full B n) n (last_head full B n) is)
    | inr isnt ↦ omega (arith, cond-false (is_head full B n) n (last_head full B n) isnt, last_within n)
  ]

  last_is_head : (n : ℕ) → (ends full B n ≡ 0 → ⊥) → is_head full B (last_head full B n) ≡ true
  last_is_head zero some = absurd (some refl)
  last_is_head (suc n) some = elim (cases_Bool (is_head full B n)) [
    | inl is ↦ ap (λ (i : ℕ). is_head full B i) (cond-true (is_head full B n) n (last_head full B n) is) ∙ is
    | inr isnt ↦
        let none : one (is_head full B n) ≡ 0 = ap one isnt in
        ap (λ (i : ℕ). is_head full B i) (cond-false (is_head full B n) n (last_head full B n) isnt) ∙ last_is_head n (λ e. some (omega (arith, e, none)))
  ]

  -- the one head isn't full
  head_open : 0 < B → heads full B ≡ 1 → full (head_of full B) ≡ false
  head_open some one_head = elim (cases_eq (fulls full B) 0) [
    | inl none ↦ none_full B (head_of full B) none (omega (arith, last_within B, some))
    | inr many ↦
        let ends_one : ends full B B ≡ 1 = sym (cond-false (fulls full B == 0) 1 (ends full B B) (ne_eqb (fulls full B) 0 many)) ∙ one_head in
        let b = head_of full B in
        not-true (full b) (and_parts (full (before B b)) (not (full b)) (last_is_head B (λ e. absurd (omega (arith, e, ends_one))))).1
  ]

pub torn_of : (s : PageState) → seals s ≡ false → blanks s ≡ false → s ≡ Torn
torn_of Blank unsealed some = absurd (true≢false some)
torn_of Torn unsealed some = refl
torn_of Committed unsealed some = absurd (true≢false unsealed)
torn_of Void unsealed some = absurd (true≢false unsealed)

-- a number that stands so far back is the place itself with so many more
pub back_mod : (M number at back : ℕ) → at < M → back ≤ M → number % M ≡ (at + M - back) % M → (number + back) % M ≡ at
back_mod M number at back lt few fits =
    let sum : at + M - back + back ≡ at + M = omega (arith, few) in
    sym (mod-add-mod number M back) ∙ ap (λ (k : ℕ). (k + back) % M) fits ∙ mod-add-mod (at + M - back) M back ∙ ap (λ (k : ℕ). k % M) sum ∙ add-mod_right at M ∙ mod-eq_of_lt lt

-- by what an option is
by_option : {A : Type 0} (P : Option A → Type 0) → P None → ((x : A) → P (Some x)) → (o : Option A) → P o
by_option P none some None = none
by_option P none some (Some x) = some x

-- how many pages a ring is found to keep
module _ (r : Shape) (full sealed : ℕ) where
  kept_by : (b : Bool) → min full (if b then r.blocks - 2 else r.blocks - 1) * r.per_block ≤ (if b then r.blocks - 2 else r.blocks - 1) * r.per_block
  kept_by b = mul-le-mul_right r.per_block (min-le_right full (if b then r.blocks - 2 else r.blocks - 1))

  -- fewer than it has pages
  pub kept_most : kept_pages r full sealed ≤ (r.blocks - 1) * r.per_block + sealed
  kept_most = by_test (sealed == r.per_block - 1)
    where
      by_test : (b : Bool) → min full (if b then r.blocks - 2 else r.blocks - 1) * r.per_block + sealed ≤ (r.blocks - 1) * r.per_block + sealed
      by_test true = let le : (r.blocks - 2) * r.per_block ≤ (r.blocks - 1) * r.per_block = mul-le-mul_right r.per_block (omega arith) in omega (arith, kept_by true, le)
      by_test false = omega (arith, kept_by false)

  -- and a block fewer where the next page is the last of its block
  pub kept_ahead : 2 ≤ r.blocks → 1 ≤ r.per_block → sealed ≡ r.per_block - 1 → kept_pages r full sealed ≤ (r.blocks - 1) * r.per_block - 1
  kept_ahead some pages last =
      let cap : (if sealed == r.per_block - 1 then r.blocks - 2 else r.blocks - 1) ≡ r.blocks - 2 = cond-true (sealed == r.per_block - 1) (r.blocks - 2) (r.blocks - 1) (eq-eqb sealed (r.per_block - 1) last) in
      let few : min full (if sealed == r.per_block - 1 then r.blocks - 2 else r.blocks - 1) * r.per_block ≤ (r.blocks - 2) * r.per_block =
      subst (λ (n : ℕ). min full n * r.per_block ≤ (r.blocks - 2) * r.per_block) (sym cap) (kept_by true) in
      let split : (r.blocks - 2 + 1) * r.per_block ≡ (r.blocks - 2) * r.per_block + r.per_block = more (r.blocks - 2) r.per_block in
      let same : r.blocks - 2 + 1 ≡ r.blocks - 1 = omega (arith, some) in
      omega (arith, few, split, ap (λ (n : ℕ). n * r.per_block) same, last, pages)

-- a ring's numbers, as its pages give them
module _ (f : FlashState) (r : Shape) (at_least : ℕ) (some : 0 < r.blocks) (numbers : Numbers) (found : IsFound f r at_least numbers) where
  abbrev at : ℕ
  at = next_place f r found.front

  at_within : at < room r
  at_within =
      let head = head_at f r in
      let le : (head + 1) * r.per_block ≤ r.blocks * r.per_block = mul-le-mul_right r.per_block (let le : head + 1 ≤ r.blocks = omega (arith, last_within (full_of f r) r.blocks r.blocks, some) in le) in
      omega (arith, le, more head r.per_block, found.head.front_is.below)

  pub kept_few : kept_at f r found.front < room r
  kept_few = omega (arith, kept_most r (fulls (full_of f r) r.blocks) found.front.sealed, last_block r.blocks r.per_block (omega (arith, some)), found.head.front_is.below)

  pub next_rest : numbers.next % room r ≡ at
  next_rest =
      ap (λ (n : ℕ). n % room r) found.next
      ∙ by_option (λ newest. NewestIs f r found.front newest → NumbersFit r at (kept_at f r found.front) at_least found.front.torn newest → next_by r at (kept_at f r found.front) at_least newest % room r ≡ at)
      (λ is fits. least_is_alike (room r) at (at_least + kept_at f r found.front) (omega (arith, at_within)) ∙ mod-eq_of_lt at_within)
      (λ x is fits. back_mod (room r) x.number at x.back at_within (omega (arith, is.within, kept_few)) fits.0)
      found.newest found.newest_is found.fits

  -- its place in its block
  pub next_sealed : numbers.next % r.per_block ≡ found.front.sealed
  next_sealed = in_block r.blocks r.per_block numbers.next at (next_rest ∙ sym (mod-eq_of_lt at_within)) ∙ mod-mul-add (head_at f r) r.per_block found.front.sealed found.head.front_is.below

  -- the page of the next number is the first of the head that isn't sealed
  next_is : place r numbers.next ≡ page_in r (head_at f r) found.front.sealed
  next_is = ap (λ (n : ℕ). r.first + n) next_rest

  unsealed : seals (state_at f (page_in r (head_at f r) found.front.sealed)) ≡ false
  unsealed = elim (cases_lt (found.front.sealed + 1) r.per_block) [
    | inl inside ↦ found.head.front_is.unsealed found.head.front_is.below inside
    | inr last ↦
        let same : found.front.sealed ≡ r.per_block - 1 = omega (arith, last, found.head.front_is.below) in
        ap (λ (i : ℕ). seals (state_at f (page_in r (head_at f r) i))) same ∙ head_open (full_of f r) r.blocks some found.head.one_head
  ]

  pub torn_there : numbers.torn ≡ true → state_at f (place r numbers.next) ≡ Torn
  torn_there torn =
      let some : blanks (state_at f (page_in r (head_at f r) found.front.sealed)) ≡ false =
      not-true (blanks (state_at f (page_in r (head_at f r) found.front.sealed))) (sym (found.head.front_is.torn found.head.front_is.below) ∙ sym found.torn ∙ torn) in
      ap (λ (p : ℕ). state_at f p) next_is ∙ torn_of (state_at f (page_in r (head_at f r) found.front.sealed)) unsealed some
