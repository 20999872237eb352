-- How far content reaches from a blob's first page on decides whether the blob is whole.
use Rattle.std.proofs.Common.{◌≡◌, ℕ, zero, suc, List, ◌+◌, ◌-◌, ◌*◌, ◌%◌, ◌<◌, ◌≤◌, Bool, true, false, if◌then◌else◌, ◌==◌, inl, inr, ◌⊎◌, length, slice_index_or, slice_set, refl, sym, ◌∙◌, ap, subst, arith}
use Rattle.std.proofs.Math.Nat.{div-mul-le_self, mod-add-div', mod-lt, mul-le-mul_right}
use Rattle.std.proofs.lemmas.Bool.{cases_eq, eq-eqb, ne_eqb}
use Rattle.std.proofs.lemmas.List.{get_or-set_same, get_or-set_other}
use Rattle.fl_base.specs.declared.types.BlobRef.{BlobRef}
use Rattle.fl_mark.specs.Mark.{state_of_page}
use Rattle.fl_page.specs.Header.{page_count}
use Rattle.fl_ring.specs.Newest.{commits, page_back}
use Rattle.fl_ring.specs.Ring.{Shape}
use Rattle.fl_rules.specs.Claims.{AllBelow}
use Rattle.fl_rules.specs.Reaches.{reach_from, reach, AreReaches, HasContent, AreMeasured}
use Rattle.fl_rules.specs.References.{numbered, content_room, last_byte, last_part, IsThere, HoldsPart, Leads}
use Rattle.fl_rules.specs.declared.numbering.Numbering.{Numbering}

-- ---- one page

-- what is known of a page by how far its content reaches
pub record Reaches (room : ℕ) (page : List ℕ) (after rest : ℕ) : Type 0 where
  pub committed : commits (state_of_page page) ≡ true
  pub here : rest < room → rest < page_count page
  pub on : room ≤ rest → (page_count page ≡ room) × (rest - room < after)

module _ (room : ℕ) (page : List ℕ) (after : ℕ) where
  by_count : Bool → ℕ
  by_count full = if full then page_count page + after else page_count page

  pub none : commits (state_of_page page) ≡ false → reach_from room page after ≡ 0
  none e = ap (λ (b : Bool). if b then (if page_count page == room then page_count page + after else page_count page) else 0) e

  pub full : commits (state_of_page page) ≡ true → page_count page ≡ room → reach_from room page after ≡ page_count page + after
  full e is =
      ap (λ (b : Bool). if b then (if page_count page == room then page_count page + after else page_count page) else 0) e
      ∙ ap (λ (b : Bool). if b then page_count page + after else page_count page) (eq-eqb (page_count page) room is)

  pub part : commits (state_of_page page) ≡ true → (page_count page ≡ room → ⊥) → reach_from room page after ≡ page_count page
  part e other =
      ap (λ (b : Bool). if b then (if page_count page == room then page_count page + after else page_count page) else 0) e
      ∙ ap (λ (b : Bool). if b then page_count page + after else page_count page) (ne_eqb (page_count page) room other)

  cases_of : (b : Bool) → commits (state_of_page page) ≡ b → (commits (state_of_page page) ≡ true) ⊎ (commits (state_of_page page) ≡ false)
  cases_of true e = inl e
  cases_of false e = inr e

  pub reaches : (commits (state_of_page page) ≡ true → page_count page ≤ room) → (rest : ℕ) → rest < reach_from room page after → Reaches room page after rest
  reaches most rest lt = elim (cases_of (commits (state_of_page page)) refl) [
    | inr void ↦ absurd (let e = none void in omega (arith, e, lt))
    | inl committed ↦ elim (cases_eq (page_count page) room) [
      | inl is ↦ let e = full committed is in record { committed = committed; here = λ less. omega (arith, less, is); on = λ more. (is, omega (arith, e, lt, is, more)) }
      | inr other ↦ let e = part committed other in let few = most committed in record {
        committed = committed;
        here = λ less. omega (arith, e, lt);
        on = λ more. absurd (omega (arith, e, lt, few, more));
      }
    ]
  ]

  -- and the other way round
  pub reaches_here : commits (state_of_page page) ≡ true → (rest : ℕ) → rest < page_count page → rest < reach_from room page after
  reaches_here committed rest lt = elim (cases_eq (page_count page) room) [
    | inl is ↦ let e = full committed is in omega (arith, e, lt)
    | inr other ↦ let e = part committed other in omega (arith, e, lt)
  ]

  pub reaches_on : commits (state_of_page page) ≡ true → page_count page ≡ room → (rest : ℕ) → rest < after → room + rest < reach_from room page after
  reaches_on committed is rest lt = let e = full committed is in omega (arith, e, lt, is)

-- ---- one page after another

module _ (page : ℕ → List ℕ) (r : Shape) (at : ℕ) where
  pub reach_next : (i : ℕ) → reach page r at (i + 1) ≡ reach_from (content_room r) (page (page_back r at (i + 1))) (reach page r at i)
  reach_next i = ap (reach page r at) (let e : i + 1 ≡ suc i = omega arith in e)

  -- one more is listed
  pub listed_next : (i : ℕ) (listed : List ℕ) (far : ℕ) → i < length listed → far ≡ reach page r at (i + 1) → AreReaches page r at i listed → AreReaches page r at (i + 1) (slice_set listed i far)
  listed_next i listed far lt is before k le = elim (cases_eq k i) [
    | inl same ↦
        let here : slice_index_or (slice_set listed i far) k 0 ≡ far = ap (λ (x : ℕ). slice_index_or (slice_set listed i far) x 0) same ∙ get_or-set_same listed i far 0 lt in
        here ∙ is ∙ ap (reach page r at) (let e : i + 1 ≡ suc k = omega (arith, same) in e)
    | inr apart ↦ get_or-set_other listed i k far 0 apart ∙ before k (omega (arith, apart, le))
  ]

-- ---- the pages of a blob

-- the reach of a kept page, so many pages before the next one
pub listed_reach : (page : ℕ → List ℕ) (r : Shape) (at kept : ℕ) (listed : List ℕ) → AreMeasured page r at kept listed → (back : ℕ) → 1 ≤ back → back ≤ kept
    → slice_index_or listed (back - 1) 0 ≡ reach page r at back
listed_reach page r at kept listed measured back some few = measured.reaches (back - 1) (omega (arith, some, few)) ∙ ap (reach page r at) (let e : suc (back - 1) ≡ back = omega (arith, some) in e)

-- a blob whose first page is kept, so many pages before the next one
module _ (page : ℕ → List ℕ) (r : Shape) (n : Numbering) (content : AllBelow (HasContent page r n.marks.at) n.marks.kept) (at : BlobRef) (back : ℕ) (kept : back ≤ n.marks.kept)
    (is_back : at.page + back ≡ n.next) (some : 1 ≤ back) where
  abbrev room : ℕ
  room = content_room r

  abbrev far : ℕ → ℕ
  far k = reach page r n.marks.at k

  abbrev bytes : ℕ → List ℕ
  bytes k = page (page_back r n.marks.at (k + 1))

  known : (k rest : ℕ) → k < n.marks.kept → rest < far (suc k) → Reaches room (bytes k) (far k) rest
  known k rest lt few = reaches room (bytes k) (far k) (λ committed. (content k lt committed).1) rest few

  -- its bytes from the j-th page on are within reach of that page
  abbrev Within : ℕ → Type 0
  Within j = last_byte at < j * room + far (back - j)

  no_further : (j k : ℕ) → k ≡ 0 → back - j ≡ k → Within j → last_byte at < j * room
  no_further j k zero_is is within =
      let e : far (back - j) ≡ 0 = ap far is ∙ ap far zero_is in
      omega (arith, e, within)

  some_left : (j : ℕ) → j * room ≤ last_byte at → Within j → j < back
  some_left j le within = elim (cases_eq (back - j) 0) [
    | inl none_left ↦ absurd (let few = no_further j 0 refl none_left within in omega (arith, few, le))
    | inr some ↦ omega (arith, some)
  ]

  -- what is known of the j-th page
  at_page : (j : ℕ) → j * room ≤ last_byte at → Within j → Reaches room (bytes (back - j - 1)) (far (back - j - 1)) (last_byte at - j * room)
  at_page j le within =
      let lt = some_left j le within in
      let e : back - j ≡ suc (back - j - 1) = omega (arith, lt) in
      let few : last_byte at < j * room + far (suc (back - j - 1)) = subst (λ (k : ℕ). last_byte at < j * room + far k) e within in
      known (back - j - 1) (last_byte at - j * room) (omega (arith, lt, kept)) (omega (arith, few, le))

  within_next : (j : ℕ) → (j + 1) * room ≤ last_byte at → Within j → Within (j + 1)
  within_next j le within =
      let more : (j + 1) * room ≡ j * room + room = omega arith in
      let on = (at_page j (omega (arith, le, more)) within).on (omega (arith, le, more)) in
      let e : back - j - 1 ≡ back - (j + 1) = omega arith in
      let there : last_byte at - j * room - room < far (back - (j + 1)) = subst (λ (k : ℕ). last_byte at - j * room - room < far k) e on.1 in
      omega (arith, there, le, more)

  within_all : last_byte at < far back → (j : ℕ) → j * room ≤ last_byte at → Within j
  within_all lt zero le = let e : far (back - 0) ≡ far back = ap far (let k : back - 0 ≡ back = omega arith in k) in omega (arith, lt, e)
  within_all lt (suc j) le =
      let e : suc j ≡ j + 1 = omega arith in
      let up : (j + 1) * room ≤ last_byte at = subst (λ (k : ℕ). k * room ≤ last_byte at) e le in
      let more : (j + 1) * room ≡ j * room + room = omega arith in
      subst (λ (k : ℕ). Within k) (sym e) (within_next j up (within_all lt j (omega (arith, up, more))))

  begin_of : (j : ℕ) → j ≤ last_part r at → j * room ≤ last_byte at
  begin_of j le =
      let up : j * room ≤ last_part r at * room = mul-le-mul_right room le in
      let most = div-mul-le_self (last_byte at) room in
      omega (arith, up, most)

  number_at : (j : ℕ) → j < back → n.next - (at.page + j) ≡ back - j - 1 + 1
  number_at j lt = omega (arith, lt, is_back)

  bytes_at : (j : ℕ) → j < back → numbered page r n (at.page + j) ≡ bytes (back - j - 1)
  bytes_at j lt = ap (λ (k : ℕ). page (page_back r n.marks.at k)) (number_at j lt)

  holds : 0 < room → last_byte at < far back → AllBelow (HoldsPart page r n at) (last_part r at + 1)
  holds some_room lt j few =
      let le = begin_of j (omega (arith, few)) in
      let within = within_all lt j le in
      let left = some_left j le within in
      let is = at_page j le within in
      let same = bytes_at j left in
      record {
        there = record {
          sealed = omega (arith, left, is_back);
          kept = omega (arith, is_back, kept);
          committed = ap (λ (l : List ℕ). commits (state_of_page l)) same ∙ is.committed;
        };
        full = λ before.
            let up = begin_of (j + 1) (omega (arith, before)) in
            let more : (j + 1) * room ≡ j * room + room = omega arith in
            ap page_count same ∙ (is.on (omega (arith, up, more))).0;
        ends = λ e.
            let rest : last_byte at - j * room ≡ last_byte at % room =
            (let d = mod-add-div' (last_byte at) room in let q : j * room ≡ last_part r at * room = ap (λ (k : ℕ). k * room) e in omega (arith, d, q)) in
            let less : last_byte at % room < room = mod-lt (last_byte at) some_room in
            subst (λ (k : ℕ). last_byte at % room < k) (sym (ap page_count same)) (subst (λ (k : ℕ). k < page_count (bytes (back - j - 1))) rest (is.here (omega (arith, rest, less))));
      }

  -- the pages from the j-th on have their parts, so its bytes from there on are within reach
  part_within : (j : ℕ) → j ≡ last_part r at → HoldsPart page r n at j → Within j
  part_within j e part =
      let left : j < back = omega (arith, part.there.sealed, is_back) in
      let same = bytes_at j left in
      let d = mod-add-div' (last_byte at) room in
      let q : j * room ≡ last_part r at * room = ap (λ (k : ℕ). k * room) e in
      let here = reaches_here room (bytes (back - j - 1)) (far (back - j - 1)) (sym (ap (λ (l : List ℕ). commits (state_of_page l)) same) ∙ part.there.committed) (last_byte at % room)
      (subst (λ (k : ℕ). last_byte at % room < k) (ap page_count same) (part.ends e)) in
      let s : suc (back - j - 1) ≡ back - j = omega (arith, left) in
      let there : last_byte at % room < far (back - j) = subst (λ (k : ℕ). last_byte at % room < far k) s here in
      omega (arith, there, d, q)

  part_before : (j : ℕ) → j < last_part r at → HoldsPart page r n at j → Within (j + 1) → Within j
  part_before j lt part within =
      let left : j < back = omega (arith, part.there.sealed, is_back) in
      let same = bytes_at j left in
      let le = begin_of (j + 1) (omega (arith, lt)) in
      let more : (j + 1) * room ≡ j * room + room = omega arith in
      let e : back - (j + 1) ≡ back - j - 1 = omega arith in
      let after : last_byte at < (j + 1) * room + far (back - j - 1) = subst (λ (k : ℕ). last_byte at < (j + 1) * room + far k) e within in
      let on = reaches_on room (bytes (back - j - 1)) (far (back - j - 1)) (sym (ap (λ (l : List ℕ). commits (state_of_page l)) same) ∙ part.there.committed) (sym (ap page_count same) ∙ part.full lt)
      (last_byte at - (j + 1) * room) (omega (arith, after, le)) in
      let s : suc (back - j - 1) ≡ back - j = omega (arith, left) in
      let there : room + (last_byte at - (j + 1) * room) < far (back - j) = subst (λ (k : ℕ). room + (last_byte at - (j + 1) * room) < far k) s on in
      omega (arith, there, le, more)

  parts_within : AllBelow (HoldsPart page r n at) (last_part r at + 1) → (k j : ℕ) → j + k ≡ last_part r at → Within j
  parts_within parts zero j e = let is : j ≡ last_part r at = omega (arith, e) in part_within j is (parts j (omega (arith, e)))
  parts_within parts (suc k) j e = part_before j (omega (arith, e)) (parts j (omega (arith, e))) (parts_within parts k (j + 1) (omega (arith, e)))

  reached : AllBelow (HoldsPart page r n at) (last_part r at + 1) → last_byte at < far back
  reached parts =
      let within = parts_within parts (last_part r at) 0 (omega arith) in
      let e : far (back - 0) ≡ far back = ap far (let k : back - 0 ≡ back = omega arith in k) in
      omega (arith, within, e)

  -- ---- what its first page says

  first_is : numbered page r n at.page ≡ bytes (back - 1)
  first_is = ap (λ (k : ℕ). page (page_back r n.marks.at k)) (let e : n.next - at.page ≡ back - 1 + 1 = omega (arith, some, is_back) in e)

  last_first : far back ≡ reach_from room (bytes (back - 1)) (far (back - 1))
  last_first = ap far (let e : back ≡ suc (back - 1) = omega (arith, some) in e)

  -- it isn't committed
  pub gone : far back ≡ 0 → Leads page r n at
  gone e = record {
    sealed = omega (arith, is_back, some);
    whole = λ there.
        let committed : commits (state_of_page (bytes (back - 1))) ≡ true = sym (ap (λ (l : List ℕ). commits (state_of_page l)) first_is) ∙ there.committed in
        let used = (content (back - 1) (omega (arith, some, kept)) committed).0 in
        let lt = reaches_here room (bytes (back - 1)) (far (back - 1)) committed 0 used in
        let is = last_first in
        absurd (omega (arith, lt, is, e));
  }

  -- where it is, the blob begins within it and ends within its reach
  pub whole : 0 < room → 0 < at.length → at.offset < room → at.offset + at.length ≤ far back → Leads page r n at
  whole some_room any begins ends = record {
    sealed = omega (arith, is_back, some);
    whole = λ there. record { begins = first_begins; parts = holds some_room (omega (arith, ends, any)) };
  }
    where
      first_begins : at.offset < page_count (numbered page r n at.page)
      first_begins =
          let is = last_first in
          let first = known (back - 1) at.offset (omega (arith, some, kept)) (omega (arith, is, ends, any)) in
          subst (λ (k : ℕ). at.offset < k) (sym (ap page_count first_is)) (first.here begins)

  there_by : 0 < far back → IsThere page r n at.page
  there_by lt =
      let is = last_first in
      let first = known (back - 1) 0 (omega (arith, some, kept)) (omega (arith, is, lt)) in
      record { sealed = omega (arith, is_back, some); kept = omega (arith, is_back, kept); committed = ap (λ (l : List ℕ). commits (state_of_page l)) first_is ∙ first.committed }

  pub late : 0 < far back → room ≤ at.offset → Leads page r n at → ⊥
  late lt begins leads =
      let there = there_by lt in
      let within = (leads.whole there).begins in
      let committed : commits (state_of_page (bytes (back - 1))) ≡ true = sym (ap (λ (l : List ℕ). commits (state_of_page l)) first_is) ∙ there.committed in
      let most = (content (back - 1) (omega (arith, some, kept)) committed).1 in
      let e = ap page_count first_is in
      omega (arith, within, most, e, begins)

  pub short : 0 < at.length → 0 < far back → far back < at.offset + at.length → Leads page r n at → ⊥
  short any lt ends leads = let far_on = reached (leads.whole (there_by lt)).parts in omega (arith, far_on, ends, any)
