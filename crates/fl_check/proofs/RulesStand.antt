-- Pages that keep the rules of a ring stand for a state of it.
use Rattle.std.proofs.Common.{◌≡◌, ◌⊎◌, ℕ, zero, suc, ◌+◌, ◌-◌, ◌*◌, ◌/◌, ◌%◌, ◌≤◌, ◌<◌, ◌==◌, ◌++◌, Bool, true, false, not, cond, min, List, map, length, take, drop, get_or, is_some, Option, Some, None, IfSome, IsTrue, inl, inr, refl, sym, ◌∙◌, ap, subst, arith}
use Rattle.std.specs.Prelude.{MatchBool}
use Rattle.std.specs.List.{list_any, range_with_len}
use Rattle.std.proofs.Math.Nat.{mul-le-mul_right, add-mul, mul_assoc, mod-lt, mod-eq_of_lt, mod-add-mod, mul-add-mod_self_right, mul-mod_left}
use Rattle.std.proofs.lemmas.Nat.{mod-mul-add}
use Rattle.std.proofs.lemmas.Bool.{true≢false, cases_lt, cases_Bool, eq-eqb, eqb-true, cond-true, cond-false}
use Rattle.std.proofs.lemmas.List.{take-append-drop, length-take-le}
use Rattle.std.proofs.lemmas.List.Folds.{list_any_at}
use Rattle.std.proofs.lemmas.List.FromFn.{length-map-range_with_len, get_or-map-range_with_len}
use Rattle.std.proofs.lemmas.Option.{none-some}
use Rattle.fl_model.specs.Mount.{least_alike}
use Rattle.fl_flash.specs.Flash.{FlashState, page_at, blank}
use Rattle.fl_mark.specs.Mark.{state_of_page}
use Rattle.fl_mark.specs.declared.page_state.PageState.{PageState}
use Rattle.fl_mark.specs.declared.page_state.PageState.TheVariants.{Blank, Torn, Committed, Void}
use Rattle.fl_ring.specs.declared.newest.Newest.{Newest}
use Rattle.fl_ring.specs.Front.{IsFront, blanks}
use Rattle.fl_ring.specs.Head.{seals, is_sealed, page_in, counts_full, fulls}
use Rattle.fl_ring.specs.Newest.{commits, page_back, number_of}
use Rattle.fl_ring.specs.Numbers.{renumbered, IsNumbered}
use Rattle.fl_ring.specs.Ring.{Shape, RingState, IsShape, IsRing, OnRing, HoldsKept, count, oldest, room, place, committed_end}
use Rattle.fl_ring.proofs.BlockAheadIsClean.{blank_of, blank_is_blank}
use Rattle.fl_ring.proofs.GoodNumbers.{number_some, renumbered_some, renumbered_none}
use Rattle.fl_ring.proofs.Modulo.{parts, rest_back, more, last_block}
use Rattle.fl_ring.proofs.SamePlaces.{least_is_alike}
use Rattle.fl_ring.proofs.TornPages.{back_mod, torn_of}
use Rattle.fl_rules.specs.Bodies.{HaveBodies}
use Rattle.fl_rules.specs.Endings.{IsEnded}
use Rattle.fl_rules.specs.Marks.{kept_page}
use Rattle.fl_rules.specs.Numbering as numbering
use Rattle.fl_rules.specs.Numbers.{NewestOf, FitsPlace, next_of}
use Rattle.fl_rules.specs.Rest.{IsRestBlank, MayWait}
use Rattle.fl_check.specs.StandingRings.{HaveSize, EndsCommitted, StandsRuled}
use Rattle.fl_rules.specs.States.{IsBlankAfter, page_after}
use Rattle.fl_rules.specs.declared.marks.Marks.{Marks}
use Rattle.fl_rules.specs.declared.numbering.Numbering.{Numbering}
use Rattle.fl_check.proofs.HeadsFound.{first_head, head_within, head_open}

-- ---- the state of a page

void_of : (st : PageState) → seals st ≡ true → commits st ≡ false → st ≡ Void
void_of Blank seal other = cc
void_of Torn seal other = cc
void_of Committed seal other = cc
void_of Void seal other = refl

-- the body of a committed page
body_of : ℕ → List ℕ → List ℕ
body_of size page = take (size - 8) page

holds_body : (size : ℕ) (page : List ℕ) → 64 ≤ size → length page ≡ size → IsEnded page → (page ≡ body_of size page ++ committed_end) × (length (body_of size page) + 8 ≡ size)
unfolding body_of
holds_body size page large same ended =
    let end : drop (size - 8) page ≡ committed_end = ap (λ (n : ℕ). drop (n - 8) page) (sym same) ∙ ended in (
      sym (take-append-drop (size - 8) page) ∙ ap (λ (l : List ℕ). take (size - 8) page ++ l) end,
      omega (arith, length-take-le (size - 8) page (omega (arith, same)), large),
    )

-- of the pages behind a place all are blank, or one isn't
record IsWrittenAfter (page : ℕ → List ℕ) (r : Shape) (at n : ℕ) : Type 0 where
  j : ℕ
  low : 1 ≤ j
  high : j ≤ n
  written : blanks (state_of_page (page (page_after r at j))) ≡ false

blank_or_some : (page : ℕ → List ℕ) (r : Shape) (at n : ℕ) → ((j : ℕ) → 1 ≤ j → j ≤ n → IsBlankAfter page r at j) ⊎ IsWrittenAfter page r at n
blank_or_some page r at zero = inl (λ j low high. absurd (let never : ⊥ = omega (arith, low, high) in never))
blank_or_some page r at (suc n) = elim (blank_or_some page r at n) [
  | inl all ↦ elim (cases_Bool (blanks (state_of_page (page (page_after r at (suc n)))))) [
    | inl here ↦ inl (λ j low high. elim (cases_lt j (suc n)) [
      | inl before ↦ all j low (omega (arith, before))
      | inr past ↦ let e : j ≡ suc n = omega (arith, past, high) in ap (λ (k : ℕ). blanks (state_of_page (page (page_after r at k)))) e ∙ here
    ])
    | inr there ↦ inr (record { j = suc n; low = omega arith; high = omega arith; written = there })
  ]
  | inr found ↦ inr (record { j = found.j; low = found.low; high = omega (arith, found.high); written = found.written })
]

-- ---- the ring

module _ (page : ℕ → List ℕ) (r : Shape) (at_least : ℕ) (n : Numbering) (shape : IsShape r) (size : HaveSize page r) (is : numbering.IsNumbered page r at_least n.marks n.next) where
  abbrev m : Marks
  m = n.marks

  abbrev sealed : ℕ
  sealed = m.pages.front.sealed

  abbrev most : ℕ
  most = cond (sealed == r.per_block - 1) (r.blocks - 2) (r.blocks - 1)

  -- how many whole blocks are kept
  abbrev whole : ℕ
  whole = min (fulls (counts_full r page) r.blocks) most

  some_blocks : 0 < r.blocks
  some_blocks = omega (arith, shape.blocks)

  front : IsFront (λ i. state_of_page (page (page_in r m.head i))) r.per_block r.per_block m.pages.front
  front = subst (λ (k : ℕ). IsFront (λ i. state_of_page (page (page_in r m.head i))) r.per_block k m.pages.front) is.states.ordered is.marks.ordered.front

  below : sealed < r.per_block
  below = front.below

  head_low : m.head < r.blocks
  head_low = subst (λ (h : ℕ). h < r.blocks) (sym is.marks.head) (head_within (counts_full r page) r.blocks some_blocks)

  head_not_full : counts_full r page m.head ≡ false
  head_not_full = ap (counts_full r page) is.marks.head ∙ head_open (counts_full r page) r.blocks some_blocks is.marks.one_head

  at_is : m.at ≡ m.head * r.per_block + sealed
  at_is = is.marks.at

  kept_is : m.kept ≡ whole * r.per_block + sealed
  kept_is = is.marks.kept

  rooms : (r.blocks - 1) * r.per_block + r.per_block ≡ room r
  rooms = last_block r.blocks r.per_block (omega (arith, shape.blocks))

  at_low : m.at < room r
  at_low =
      let up : (m.head + 1) * r.per_block ≤ r.blocks * r.per_block = mul-le-mul_right r.per_block (omega (arith, head_low)) in
      omega (arith, at_is, up, more m.head r.per_block, below)

  -- the most blocks that are kept
  most_is : (sealed + 1 ≡ r.per_block) × (most ≡ r.blocks - 2) ⊎ (sealed + 1 < r.per_block) × (most ≡ r.blocks - 1)
  most_is = elim (cases_lt (sealed + 1) r.per_block) [
    | inl lt ↦ elim (cases_Bool (sealed == r.per_block - 1)) [
      | inl same ↦ absurd (let e : sealed ≡ r.per_block - 1 = eqb-true sealed (r.per_block - 1) same in let never : ⊥ = omega (arith, e, lt) in never)
      | inr other ↦ inr (lt, cond-false (sealed == r.per_block - 1) (r.blocks - 2) (r.blocks - 1) other)
    ]
    | inr ge ↦
        let e : sealed ≡ r.per_block - 1 = omega (arith, ge, below) in
        inl (omega (arith, ge, below), cond-true (sealed == r.per_block - 1) (r.blocks - 2) (r.blocks - 1) (eq-eqb sealed (r.per_block - 1) e))
  ]

  whole_few : whole ≤ r.blocks - 1
  whole_few = elim most_is [ inl last ↦ omega (arith, last.1) | inr other ↦ omega (arith, other.1) ]

  whole_last : sealed + 1 ≡ r.per_block → whole ≤ r.blocks - 2
  whole_last e = elim most_is [ inl last ↦ omega (arith, last.1) | inr other ↦ absurd (let never : ⊥ = omega (arith, other.0, e) in never) ]

  whole_none : whole ≡ 0 → fulls (counts_full r page) r.blocks ≡ 0
  whole_none e = elim most_is [ inl last ↦ omega (arith, last.1, e, shape.blocks) | inr other ↦ omega (arith, other.1, e, shape.blocks) ]

  kept_most : m.kept ≤ (r.blocks - 1) * r.per_block + sealed
  kept_most = let up : whole * r.per_block ≤ (r.blocks - 1) * r.per_block = mul-le-mul_right r.per_block whole_few in omega (arith, kept_is, up)

  kept_low : m.kept < room r
  kept_low = omega (arith, kept_most, below, rooms)

  kept_last : sealed + 1 ≡ r.per_block → m.kept + 1 ≤ (r.blocks - 1) * r.per_block
  kept_last e =
      let up : whole * r.per_block ≤ (r.blocks - 2) * r.per_block = mul-le-mul_right r.per_block (whole_last e) in
      let one_more : r.blocks - 2 + 1 ≡ r.blocks - 1 = omega (arith, shape.blocks) in
      let split : (r.blocks - 1) * r.per_block ≡ (r.blocks - 2) * r.per_block + r.per_block = ap (λ (k : ℕ). k * r.per_block) (sym one_more) ∙ more (r.blocks - 2) r.per_block in
      omega (arith, kept_is, up, split, e)

  kept_within : m.kept ≤ n.next
  kept_within = elim (cases_lt 0 m.kept) [
    | inl some ↦ let own = is.numbers.each 0 some in omega (arith, own.not_negative)
    | inr none ↦ omega (arith, none)
  ]

  -- the next number fits its place
  next_at : n.next % room r ≡ m.at
  next_at = by_newest is.numbers.newest is.numbers.newest_is is.numbers.fits is.numbers.next_is
    where
      by_newest : (newest : Option Newest) → NewestOf page r m newest → FitsPlace r m newest → n.next ≡ next_of r m at_least newest → n.next % room r ≡ m.at
      by_newest None none fits e = ap (λ (k : ℕ). k % room r) e ∙ least_is_alike (room r) m.at (at_least + m.kept) (omega (arith, at_low)) ∙ mod-eq_of_lt at_low
      by_newest (Some x) found fits e = ap (λ (k : ℕ). k % room r) e ∙ back_mod (room r) x.number m.at x.back at_low (omega (arith, found.within, kept_low)) fits

  turns : ℕ
  turns = n.next / room r * r.blocks + m.head

  next_is : n.next ≡ turns * r.per_block + sealed
  unfolding turns
  next_is =
      let a = parts (room r) n.next in
      let b : turns * r.per_block ≡ n.next / room r * r.blocks * r.per_block + m.head * r.per_block = add-mul (n.next / room r * r.blocks) m.head r.per_block in
      let c : n.next / room r * r.blocks * r.per_block ≡ n.next / room r * room r = mul_assoc (n.next / room r) r.blocks r.per_block in
      omega (arith, a, b, c, next_at, at_is)

  next_sealed : n.next % r.per_block ≡ sealed
  next_sealed = ap (λ (k : ℕ). k % r.per_block) next_is ∙ mod-mul-add turns r.per_block sealed below

  oldest_begins : (n.next - m.kept) % r.per_block ≡ 0
  oldest_begins =
      let e : whole * r.per_block + (n.next - m.kept) ≡ turns * r.per_block = omega (arith, next_is, kept_is, kept_within) in
      sym (mul-add-mod_self_right whole r.per_block (n.next - m.kept)) ∙ ap (λ (k : ℕ). k % r.per_block) e ∙ mul-mod_left turns r.per_block

  oldest_first : m.kept < r.per_block → (n.next - m.kept) % room r ≡ 0
  oldest_first few =
      let none : whole ≡ 0 = elim (cases_lt 0 whole) [
        | inl some ↦ let up : 1 * r.per_block ≤ whole * r.per_block = mul-le-mul_right r.per_block some in absurd (let never : ⊥ = omega (arith, kept_is, few, up) in never)
        | inr no_block ↦ omega (arith, no_block)
      ] in
      let kept : m.kept ≡ sealed = kept_is ∙ ap (λ (k : ℕ). k * r.per_block + sealed) none ∙ omega arith in
      let first : m.head ≡ 0 = is.marks.head ∙ first_head (counts_full r page) r.blocks some_blocks (whole_none none) in
      let at : m.at ≡ sealed = at_is ∙ ap (λ (k : ℕ). k * r.per_block + sealed) first ∙ omega arith in
      let e : n.next - m.kept ≡ n.next / room r * room r = omega (arith, parts (room r) n.next, next_at, at, kept) in
      ap (λ (k : ℕ). k % room r) e ∙ mul-mod_left (n.next / room r) (room r)

  -- ---- the pages

  abbrev page_of : ℕ → List ℕ
  page_of i = page (kept_page r m i)

  body_at : ℕ → Option (List ℕ)
  body_at i = cond (commits (state_of_page (page_of i))) (Some (body_of r.size (page_of i))) None

  abbrev bodies : List (Option (List ℕ))
  bodies = map body_at (range_with_len 0 m.kept)

  bodies_count : length bodies ≡ m.kept
  bodies_count = length-map-range_with_len body_at 0 m.kept

  body_there : (i : ℕ) → i < m.kept → get_or bodies i None ≡ body_at i
  body_there i lt = get_or-map-range_with_len body_at 0 m.kept i i None lt (omega arith)

  in_ring : (k : ℕ) → length (page (r.first + k % room r)) ≡ r.size
  in_ring k = size (r.first + k % room r) (omega arith) (let lt : k % room r < room r = mod-lt k (omega (arith, at_low)) in omega (arith, lt))

  place_is : (i : ℕ) → i < m.kept → kept_page r m i ≡ r.first + (n.next - m.kept + i) % room r
  place_is i lt =
      let back : (n.next % room r + room r - (m.kept - i)) % room r ≡ (n.next - (m.kept - i)) % room r = rest_back (room r) n.next (m.kept - i) (omega (arith, kept_within)) (omega (arith, kept_low)) in
      let e : n.next - (m.kept - i) ≡ n.next - m.kept + i = omega (arith, lt, kept_within) in
      ap (λ (a : ℕ). r.first + (a + room r - (m.kept - i)) % room r) (sym next_at) ∙ ap (λ (k : ℕ). r.first + k) (back ∙ ap (λ (k : ℕ). k % room r) e)

  module _ (Form : ℕ → List ℕ → Type 0) (ends : EndsCommitted Form r.size) (forms : HaveBodies Form page r n) where
    ended : (i : ℕ) → i < m.kept → commits (state_of_page (page_of i)) ≡ true → IsEnded (page_of i)
    ended i lt committed =
        let own = is.numbers.each i lt in
        ends (n.next - (m.kept - i)) (page_of i) (ap (λ (p : ℕ). length (page p)) (place_is i lt) ∙ in_ring (n.next - m.kept + i))
        (forms i lt (n.next - (m.kept - i)) (omega (arith, own.not_negative)) committed)

    holds : (i : ℕ) → i < m.kept → HoldsKept r (body_at i) (page_of i)
    unfolding body_at
    holds i lt = elim (cases_Bool (commits (state_of_page (page_of i)))) [
      | inl committed ↦
          subst (λ (x : Option (List ℕ)). HoldsKept r x (page_of i)) (sym (cond-true (commits (state_of_page (page_of i))) (Some (body_of r.size (page_of i))) None committed))
          (holds_body r.size (page_of i) shape.size (ap (λ (p : ℕ). length (page p)) (place_is i lt) ∙ in_ring (n.next - m.kept + i)) (ended i lt committed))
      | inr void ↦
          subst (λ (x : Option (List ℕ)). HoldsKept r x (page_of i)) (sym (cond-false (commits (state_of_page (page_of i))) (Some (body_of r.size (page_of i))) None void))
          (void_of (state_of_page (page_of i)) (is.states.kept i lt) void)
    ]

    -- a committed page has a body
    some_at : (i : ℕ) → commits (state_of_page (page_of i)) ≡ true → is_some (body_at i) ≡ true
    unfolding body_at
    some_at i committed = ap is_some (cond-true (commits (state_of_page (page_of i))) (Some (body_of r.size (page_of i))) None committed)

    number_at : (i : ℕ) → i < m.kept → IfSome (body_at i) (λ body. number_of body ≡ n.next - m.kept + i)
    unfolding body_at
    number_at i lt = elim (cases_Bool (commits (state_of_page (page_of i)))) [
      | inl committed ↦
          let body = body_of r.size (page_of i) in
          let own = is.numbers.each i lt in
          let here : HoldsKept r (Some body) (page_of i) = holds_body r.size (page_of i) shape.size (ap (λ (p : ℕ). length (page p)) (place_is i lt) ∙ in_ring (n.next - m.kept + i)) (ended i lt committed) in
          let same : number_of (page_of i) ≡ number_of body = number_some r (Some body) (page_of i) (number_of body) shape here refl refl in
          subst (λ (x : Option (List ℕ)). IfSome x (λ b. number_of b ≡ n.next - m.kept + i)) (sym (cond-true (commits (state_of_page (page_of i))) (Some body) None committed))
          (omega (arith, same, own.own committed, own.not_negative, lt, kept_within))
      | inr void ↦
          subst (λ (x : Option (List ℕ)). IfSome x (λ b. number_of b ≡ n.next - m.kept + i)) (sym (cond-false (commits (state_of_page (page_of i))) (Some (body_of r.size (page_of i))) None void)) tt
    ]

    formed_at : (i : ℕ) (body : List ℕ) → i < m.kept → body_at i ≡ Some body → Form (n.next - m.kept + i) (page (r.first + (n.next - m.kept + i) % room r))
    unfolding body_at
    formed_at i body lt here = elim (cases_Bool (commits (state_of_page (page_of i)))) [
      | inl committed ↦
          let own = is.numbers.each i lt in
          let number : n.next - (m.kept - i) ≡ n.next - m.kept + i = omega (arith, lt, kept_within) in
          subst (λ (k : ℕ). Form k (page (r.first + (n.next - m.kept + i) % room r))) number
          (subst (λ (p : ℕ). Form (n.next - (m.kept - i)) (page p)) (place_is i lt) (forms i lt (n.next - (m.kept - i)) (omega (arith, own.not_negative)) committed))
      | inr void ↦ absurd (none-some body (sym (cond-false (commits (state_of_page (page_of i))) (Some (body_of r.size (page_of i))) None void) ∙ here))
    ]

    -- ---- the page after them, and the others

    abbrev next_page : List ℕ
    next_page = page (place r n.next)

    next_there : place r n.next ≡ page_in r m.head sealed
    next_there = ap (λ (k : ℕ). r.first + k) (next_at ∙ at_is)

    not_sealed : seals (state_of_page next_page) ≡ false
    not_sealed = ap (λ (p : ℕ). seals (state_of_page (page p))) next_there ∙ elim (cases_lt (sealed + 1) r.per_block) [
      | inl lt ↦ front.unsealed below lt
      | inr last ↦ let e : sealed ≡ r.per_block - 1 = omega (arith, last, below) in ap (λ (k : ℕ). is_sealed (page (page_in r m.head k))) e ∙ head_not_full
    ]

    torn_is : m.pages.front.torn ≡ not (blanks (state_of_page next_page))
    torn_is = front.torn below ∙ ap (λ (p : ℕ). not (blanks (state_of_page (page p)))) (sym next_there)

    head_page : MatchBool m.pages.front.torn (state_of_page next_page ≡ Torn) (next_page ≡ blank r.size)
    head_page = by_torn m.pages.front.torn torn_is
      where
        by_torn : (b : Bool) → b ≡ not (blanks (state_of_page next_page)) → MatchBool b (state_of_page next_page ≡ Torn) (next_page ≡ blank r.size)
        by_torn true e = elim (cases_Bool (blanks (state_of_page next_page))) [
          | inl empty ↦ absurd (true≢false (e ∙ ap not empty))
          | inr some ↦ torn_of (state_of_page next_page) not_sealed some
        ]
        by_torn false e = elim (cases_Bool (blanks (state_of_page next_page))) [
          | inl empty ↦ blank_of next_page r.size empty (in_ring n.next)
          | inr some ↦ absurd (true≢false (sym (e ∙ ap not some)))
        ]

    after_is : (j : ℕ) → page_after r m.at j ≡ place r (n.next + j)
    after_is j = ap (λ (a : ℕ). r.first + (a + j) % room r) (sym next_at) ∙ ap (λ (k : ℕ). r.first + k) (mod-add-mod n.next (room r) j)

    is_blank : (j : ℕ) → IsBlankAfter page r m.at j → page (place r (n.next + j)) ≡ blank r.size
    is_blank j blank_there = blank_of (page (place r (n.next + j))) r.size (ap (λ (p : ℕ). blanks (state_of_page (page p))) (sym (after_is j)) ∙ blank_there) (in_ring (n.next + j))

    -- the pages of the head
    in_head : (j : ℕ) → 1 ≤ j → sealed + j < r.per_block → IsBlankAfter page r m.at j
    in_head j low high =
        let up : (m.head + 1) * r.per_block ≤ r.blocks * r.per_block = mul-le-mul_right r.per_block (omega (arith, head_low)) in
        let small : m.at + j < room r = omega (arith, at_is, up, more m.head r.per_block, high) in
        let there : page_after r m.at j ≡ page_in r m.head (sealed + j) = ap (λ (k : ℕ). r.first + k) (mod-eq_of_lt small ∙ omega (arith, at_is)) in
        ap (λ (p : ℕ). blanks (state_of_page (page p))) there ∙ front.after (sealed + j) (omega (arith, low)) high

    -- how the pages behind the next one are: blank, or those of the block ahead wait for its erase
    record Behind : Type 0 where
      dirty : Bool
      ahead : dirty ≡ false → (j : ℕ) → 1 ≤ j → m.kept + j < room r → page (place r (n.next + j)) ≡ blank r.size
      waits : dirty ≡ true → ((j : ℕ) → 1 ≤ j → j ≤ r.per_block → page (place r (n.next + j)) ≡ blank r.size) → ⊥
      may : dirty ≡ true → MayWait r m
      one_mark : dirty ≡ true → m.pages.front.torn ≡ true → ⊥

    behind : IsRestBlank page r m → Behind
    behind (inr blank_rest) = record {
      dirty = false;
      ahead = λ e j low few. is_blank j (elim (cases_lt (sealed + j) r.per_block) [
        | inl high ↦ in_head j low high
        | inr past ↦ blank_rest j (omega (arith, past)) (omega (arith, few))
      ]);
      waits = λ e. absurd (true≢false (sym e));
      may = λ e. absurd (true≢false (sym e));
      one_mark = λ e. absurd (true≢false (sym e));
    }
    behind (inl may_wait) = elim (blank_or_some page r m.at r.per_block) [
      | inl all ↦ record {
        dirty = false;
        ahead = λ e j low few. is_blank j (all j low (omega (arith, few, may_wait.1, rooms)));
        waits = λ e. absurd (true≢false (sym e));
        may = λ e. absurd (true≢false (sym e));
        one_mark = λ e. absurd (true≢false (sym e));
      }
      | inr found ↦ record {
        dirty = true;
        ahead = λ e. absurd (true≢false e);
        waits = λ e all. absurd (true≢false (sym (blank_is_blank (page (place r (n.next + found.j))) r.size (all found.j found.low found.high)) ∙ ap (λ (p : ℕ). blanks (state_of_page (page p))) (sym (after_is found.j)) ∙ found.written));
        may = λ e. may_wait;
        one_mark = λ e torn. absurd (true≢false (sym (is.states.ahead may_wait.0 torn found.j found.low (omega (arith, found.high))) ∙ found.written));
      }
    ]

    module _ (b : Behind) where
      abbrev state : RingState
      state = record { kept = bodies; next = n.next; torn = m.pages.front.torn; dirty = b.dirty }

      count_is : count state ≡ m.kept
      count_is = bodies_count

      is_ring : IsRing r state
      is_ring = record {
        not_negative = omega (arith, count_is, kept_within);
        whole_blocks = ap (λ (k : ℕ). (n.next - k) % r.per_block) count_is ∙ oldest_begins;
        whole_rounds = λ few. ap (λ (k : ℕ). (n.next - k) % room r) count_is ∙ oldest_first (omega (arith, few, count_is));
        most = omega (arith, count_is, kept_most, next_sealed);
        most_ahead = λ e. let up = kept_last (omega (arith, e, next_sealed, shape.per_block)) in omega (arith, count_is, up);
        dirty_when = λ dirty. let w = b.may dirty in (omega (arith, next_sealed, w.0), omega (arith, count_is, w.1));
        not_both = λ torn dirty. b.one_mark dirty torn;
      }

      on : OnRing r page state
      on = record {
        ring = is_ring;
        kept = λ i lt.
            let few : i < m.kept = omega (arith, lt, count_is) in
            let there : kept_page r m i ≡ place r (oldest state + i) = place_is i few ∙ ap (λ (k : ℕ). r.first + (n.next - k + i) % room r) (sym count_is) in
            subst (λ (x : Option (List ℕ)). HoldsKept r x (page (place r (oldest state + i)))) (sym (body_there i few))
            (subst (λ (p : ℕ). HoldsKept r (body_at i) (page p)) there (holds i few));
        head = head_page;
        ahead = λ clean j low few. b.ahead clean j low (omega (arith, few, count_is));
        waits = b.waits;
      }

      numbered : IsNumbered state
      numbered = λ i lt.
          let few : i < m.kept = omega (arith, lt, count_is) in
          subst (λ (x : Option (List ℕ)). IfSome x (λ body. number_of body ≡ oldest state + i)) (sym (body_there i few))
          (subst (λ (k : ℕ). IfSome (body_at i) (λ body. number_of body ≡ n.next - k + i)) (sym count_is) (number_at i few))

      placed : (i : ℕ) → i < count state → kept_page r m i ≡ place r (oldest state + i)
      placed i lt = subst (λ (k : ℕ). kept_page r m i ≡ r.first + (n.next - k + i) % room r) (sym count_is) (place_is i (omega (arith, lt, count_is)))

      formed : (i : ℕ) (body : List ℕ) → i < count state → get_or bodies i None ≡ Some body → Form (oldest state + i) (page (place r (oldest state + i)))
      formed i body lt here =
          let few : i < m.kept = omega (arith, lt, count_is) in
          subst (λ (k : ℕ). Form (n.next - k + i) (page (r.first + (n.next - k + i) % room r))) (sym count_is) (formed_at i body few (sym (body_there i few) ∙ here))

      -- a mount gives them these numbers
      renumbered_next : (renumbered r at_least state).next ≡ n.next
      renumbered_next = elim (cases_Bool (list_any is_some bodies)) [
        | inl some ↦ ap (λ (s : RingState). s.next) (renumbered_some r at_least state some)
        | inr none ↦ ap (λ (s : RingState). s.next) (renumbered_none r at_least state none) ∙ by_newest none is.numbers.newest is.numbers.newest_is is.numbers.next_is
      ]
        where
          by_newest : list_any is_some bodies ≡ false → (newest : Option Newest) → NewestOf page r m newest → n.next ≡ next_of r m at_least newest → least_alike (room r) n.next (at_least + length bodies) ≡ n.next
          by_newest none None no_newest e =
              let low : m.at % room r ≡ n.next % room r = mod-eq_of_lt at_low ∙ sym next_at in
              ap (λ (k : ℕ). least_alike (room r) n.next (at_least + k)) bodies_count
              ∙ sym (ap (λ (k : ℕ). at_least + m.kept + (k + room r - (at_least + m.kept) % room r) % room r) low) ∙ sym e
          by_newest none (Some x) found e =
              let i = m.kept - x.back in
              let few : i < m.kept = omega (arith, found.some, found.within) in
              let back : m.kept - i ≡ x.back = omega (arith, found.within) in
              let committed : commits (state_of_page (page_of i)) ≡ true = ap (λ (k : ℕ). commits (state_of_page (page (page_back r m.at k)))) back ∙ found.committed in
              let some : is_some (get_or bodies i None) ≡ true = ap is_some (body_there i few) ∙ some_at i committed in
              absurd (true≢false (sym (list_any_at is_some bodies i None (omega (arith, few, bodies_count)) some) ∙ none))

-- on a flash
pub rules-stand : (Form : ℕ → List ℕ → Type 0) (f : FlashState) (r : Shape) (at_least : ℕ) (n : Numbering) → IsShape r → HaveSize (page_at f) r → IsTrue f.media.tells → EndsCommitted Form r.size →
    numbering.IsNumbered (page_at f) r at_least n.marks n.next → HaveBodies Form (page_at f) r n → IsRestBlank (page_at f) r n.marks → StandsRuled Form f r at_least n
rules-stand Form f r at_least n shape size told ends is forms rest =
    let b = behind (page_at f) r at_least n shape size is Form ends forms rest in
    let next = renumbered_next (page_at f) r at_least n shape size is Form ends forms b in
    record {
      s = state (page_at f) r at_least n shape size is Form ends forms b;
      good = record {
        told = told;
        on = on (page_at f) r at_least n shape size is Form ends forms b;
        numbered = numbered (page_at f) r at_least n shape size is Form ends forms b;
        fits = omega (arith, next, is.numbers.left);
      };
      kept = count_is (page_at f) r at_least n shape size is Form ends forms b;
      places = placed (page_at f) r at_least n shape size is Form ends forms b;
      next = refl;
      renumbered_next = next;
      torn = refl;
      forms = formed (page_at f) r at_least n shape size is Form ends forms b;
    }
