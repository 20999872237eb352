-- A blob whose bytes stand on its pages is found whole, and one whose first page isn't there is gone.
use Rattle.std.proofs.Common.{◌≡◌, inl, inr, ℕ, zero, suc, ◌+◌, ◌-◌, ◌*◌, ◌/◌, ◌%◌, ◌<◌, ◌≤◌, true, false, Option, Some, None, List, [], ◌∷◌, ◌++◌, length, take, drop, slice_range, refl, sym, ◌∙◌, ap, subst, arith, length-drop}
use Rattle.std.specs.Prelude.{nat_le, ◌==◌}
use Rattle.std.specs.List.{slice_get}
use Rattle.std.proofs.Math.Nat.{mod-add-div', mod-eq_of_lt, div-eq_of_lt}
use Rattle.std.proofs.lemmas.Bool.{cases_lt, eq-eqb, le-leb, lt-leb}
use Rattle.std.proofs.lemmas.List.{length-take-le, take-append-drop}
use Rattle.std.proofs.lemmas.Nat.{mod-mul-add, div-mul-add, mod_below}
use Rattle.std.proofs.lemmas.Option.{same_Some}
use Rattle.fl_model.proofs.Lists.{slice_get-drop, slice_get-front, slice_get-short, slice_get-take}
use Rattle.fl_salvage.specs.Blobs.{blob_from, joined, piece_in}
use Rattle.fl_salvage.proofs.Pieces.{length-range}

-- lists of one length whose elements agree are one
pub same-lists : {X : Type 0} (xs ys : List X) → length xs ≡ length ys → ((i : ℕ) (y : X) → slice_get ys i ≡ Some y → slice_get xs i ≡ Some y) → xs ≡ ys
same-lists [] [] len h = refl
same-lists [] (y ∷ ys) len h = let no : ⊥ = omega (arith, len) in absurd no
same-lists (x ∷ xs) [] len h = let no : ⊥ = omega (arith, len) in absurd no
same-lists {X} (x ∷ xs) (y ∷ ys) len h =
    ap (λ z. z ∷ xs) (same_Some x y (h 0 y refl)) ∙ ap (λ l. y ∷ l) (same-lists xs ys (omega (arith, len)) (λ i z e. h (suc i) z e))

-- a whole room more leads to the next page
next-room : (room y : ℕ) → 0 < room → ((room + y) / room ≡ y / room + 1) × ((room + y) % room ≡ y % room)
next-room room y some =
    let below : y % room < room = mod_below y room some in
    let e : room + y ≡ (y / room + 1) * room + y % room = omega (arith, mod-add-div' y room) in
    (ap (λ n. n / room) e ∙ div-mul-add (y / room + 1) room (y % room) below, ap (λ n. n % room) e ∙ mod-mul-add (y / room + 1) room (y % room) below)

-- how many pages bytes from an offset on have behind their first one
abbrev pub reach : ℕ → ℕ → ℕ → ℕ
reach room offset many = (offset + many - 1) / room

-- the pages from one on hold these bytes, from an offset of the first on
pub record HoldBytes (content : ℕ → Option (List ℕ)) (room number offset : ℕ) (bytes : List ℕ) : Type 0 where
  pub held : ℕ → List ℕ
  pub there : (j : ℕ) → j ≤ reach room offset (length bytes) → content (number + j) ≡ Some (held j)
  pub begins : offset < length (held 0)
  pub few : (j : ℕ) → j ≤ reach room offset (length bytes) → length (held j) ≤ room
  pub full : (j : ℕ) → j < reach room offset (length bytes) → length (held j) ≡ room
  pub ends : (offset + length bytes - 1) % room < length (held (reach room offset (length bytes)))
  pub stored : (j byte : ℕ) → slice_get bytes j ≡ Some byte → slice_get (held ((offset + j) / room)) ((offset + j) % room) ≡ Some byte

module _ (content : ℕ → Option (List ℕ)) (room number offset : ℕ) (bytes : List ℕ) (some : 0 < length bytes) (h : HoldBytes content room number offset bytes) where
  abbrev first : List ℕ
  first = h.held 0

  few-first : length (h.held 0) ≤ room
  few-first = h.few 0 (omega arith)

  some-room : 0 < room
  some-room = omega (arith, few-first, h.begins)

  here : content number ≡ Some (h.held 0)
  here = let e : number ≡ number + 0 = omega arith in ap content e ∙ h.there 0 (omega arith)

  -- the bytes on the first page
  on-first : (j byte : ℕ) → offset + j < room → slice_get bytes j ≡ Some byte → slice_get (h.held 0) (offset + j) ≡ Some byte
  on-first j byte lt e =
      let a : (offset + j) / room ≡ 0 = div-eq_of_lt lt in
      let b : (offset + j) % room ≡ offset + j = mod-eq_of_lt lt in
      sym (ap (λ n. slice_get (h.held n) (offset + j)) a) ∙ sym (ap (λ n. slice_get (h.held ((offset + j) / room)) n) b) ∙ h.stored j byte e

  -- they end on it
  pub last-piece : (next : Option (List ℕ)) → length bytes ≤ length (h.held 0) - offset → piece_in room offset (length bytes) (content number) next ≡ Some bytes
  last-piece next le =
      let f : nat_le (length (h.held 0)) offset ≡ false = lt-leb (length (h.held 0)) offset h.begins in
      let t : nat_le (length bytes) (length (h.held 0) - offset) ≡ true = le-leb (length bytes) (length (h.held 0) - offset) le in
      let within : offset + length bytes ≤ length (h.held 0) = omega (arith, le, h.begins) in
      let same : slice_range (h.held 0) offset (offset + length bytes) ≡ bytes =
      same-lists (slice_range (h.held 0) offset (offset + length bytes)) bytes (length-range (h.held 0) offset (length bytes) within) (λ i byte e.
      let short = slice_get-short bytes i byte e in
      let many : offset + length bytes - offset ≡ length bytes = omega arith in
      ap (λ n. slice_get (take n (drop offset (h.held 0))) i) many ∙ slice_get-take (length bytes) (drop offset (h.held 0)) i short ∙ slice_get-drop offset (h.held 0) i
      ∙ on-first i byte (omega (arith, short, within, few-first)) e) in
      let e : piece_in room offset (length bytes) (content number) next ≡ piece_in room offset (length bytes) (Some (h.held 0)) next = ap (λ o. piece_in room offset (length bytes) o next) here in
      rw (f, t) at e ∙ ap (λ l. Some l) same

  -- they go on
  module _ (more : length (h.held 0) - offset < length bytes) where
    reaches : 0 < reach room offset (length bytes)
    reaches = elim (cases_lt 0 (reach room offset (length bytes))) [
      | inl lt ↦ lt
      | inr none ↦
          let z : reach room offset (length bytes) ≡ 0 = omega (arith, none) in
          let all : (offset + length bytes - 1) % room ≡ offset + length bytes - 1 = let d = mod-add-div' (offset + length bytes - 1) room in let q : (offset + length bytes - 1) / room * room ≡ 0 * room = ap (λ n. n * room) z in omega (arith, d, q) in
          let end = subst (λ n. (offset + length bytes - 1) % room < length (h.held n)) z h.ends in
          let no : ⊥ = omega (arith, all, end, more, some, h.begins) in
          absurd no
    ]

    full-first : length (h.held 0) ≡ room
    full-first = h.full 0 reaches

    abbrev taken : ℕ
    taken = room - offset

    abbrev pub rest : List ℕ
    rest = drop (room - offset) bytes

    pub rest-length : length (drop (room - offset) bytes) ≡ length bytes - (room - offset)
    rest-length = length-drop (room - offset) bytes

    pub rest-some : 0 < length (drop (room - offset) bytes)
    rest-some = omega (arith, rest-length, more, full-first)

    -- the last byte, from the next page on
    whole : offset + length bytes - 1 ≡ room + (0 + length (drop (room - offset) bytes) - 1)
    whole = omega (arith, rest-length, more, full-first, h.begins)

    one-less : reach room offset (length bytes) ≡ reach room 0 (length (drop (room - offset) bytes)) + 1
    one-less = ap (λ n. n / room) whole ∙ (next-room room (0 + length (drop (room - offset) bytes) - 1) some-room).0

    last-there : (offset + length bytes - 1) % room ≡ (0 + length (drop (room - offset) bytes) - 1) % room
    last-there = ap (λ n. n % room) whole ∙ (next-room room (0 + length (drop (room - offset) bytes) - 1) some-room).1

    later-ends : (0 + length (drop (room - offset) bytes) - 1) % room < length (h.held (suc (reach room 0 (length (drop (room - offset) bytes)))))
    later-ends =
        let e : reach room offset (length bytes) ≡ suc (reach room 0 (length (drop (room - offset) bytes))) = omega (arith, one-less) in
        subst (λ n. n < length (h.held (suc (reach room 0 (length (drop (room - offset) bytes)))))) last-there (subst (λ n. (offset + length bytes - 1) % room < length (h.held n)) e h.ends)

    pub later : HoldBytes content room (number + 1) 0 (drop (room - offset) bytes)
    later = record {
      held = λ j. h.held (suc j);
      there = λ j le. let e : number + 1 + j ≡ number + suc j = omega arith in ap content e ∙ h.there (suc j) (omega (arith, le, one-less));
      begins = elim (cases_lt 1 (reach room offset (length bytes))) [
        | inl lt ↦ let e = h.full 1 lt in omega (arith, e, some-room)
        | inr le ↦
            let z : reach room offset (length bytes) ≡ 1 = omega (arith, le, reaches) in
            let end = subst (λ n. (offset + length bytes - 1) % room < length (h.held n)) z h.ends in
            omega (arith, end)
      ];
      few = λ j le. h.few (suc j) (omega (arith, le, one-less));
      full = λ j lt. h.full (suc j) (omega (arith, lt, one-less));
      ends = later-ends;
      stored = λ j byte e.
          let at : slice_get bytes (room - offset + j) ≡ Some byte = sym (slice_get-drop (room - offset) bytes j) ∙ e in
          let place : offset + (room - offset + j) ≡ room + (0 + j) = omega (arith, few-first, h.begins) in
          let n = next-room room (0 + j) some-room in
          let page : (offset + (room - offset + j)) / room ≡ suc ((0 + j) / room) = ap (λ k. k / room) place ∙ n.0 ∙ omega arith in
          let byte_at : (offset + (room - offset + j)) % room ≡ (0 + j) % room = ap (λ k. k % room) place ∙ n.1 in
          sym (ap (λ k. slice_get (h.held k) ((0 + j) % room)) page) ∙ sym (ap (λ k. slice_get (h.held ((offset + (room - offset + j)) / room)) k) byte_at) ∙ h.stored (room - offset + j) byte at;
    }

    front : drop offset (h.held 0) ≡ take (room - offset) bytes
    front =
        let few : room - offset ≤ length bytes = omega (arith, more, full-first) in
        same-lists (drop offset (h.held 0)) (take (room - offset) bytes) (length-drop offset (h.held 0) ∙ omega (arith, full-first, length-take-le (room - offset) bytes few)) (λ i byte e.
        let short = slice_get-short (take (room - offset) bytes) i byte e in
        slice_get-drop offset (h.held 0) i ∙ on-first i byte (omega (arith, short, length-take-le (room - offset) bytes few, h.begins, few-first)) (slice_get-front (room - offset) bytes i byte e))

    pub full-piece : (next : Option (List ℕ)) → next ≡ Some (drop (room - offset) bytes) → piece_in room offset (length bytes) (content number) next ≡ Some bytes
    full-piece next is =
        let f : nat_le (length (h.held 0)) offset ≡ false = lt-leb (length (h.held 0)) offset h.begins in
        let g : nat_le (length bytes) (length (h.held 0) - offset) ≡ false = lt-leb (length bytes) (length (h.held 0) - offset) more in
        let t : (length (h.held 0) == room) ≡ true = eq-eqb (length (h.held 0)) room full-first in
        let e : piece_in room offset (length bytes) (content number) next ≡ piece_in room offset (length bytes) (Some (h.held 0)) next = ap (λ o. piece_in room offset (length bytes) o next) here in
        rw (f, g, t) at e ∙ ap (joined (drop offset (h.held 0))) is ∙ ap (λ l. Some (l ++ drop (room - offset) bytes)) front ∙ ap (λ l. Some l) (take-append-drop (room - offset) bytes)

-- the bytes of a blob whose pages hold them
pub found-whole : (content : ℕ → Option (List ℕ)) (room pages number offset : ℕ) (bytes : List ℕ) → 0 < length bytes → length bytes ≤ pages → HoldBytes content room number offset bytes
    → blob_from content room pages number offset (length bytes) ≡ Some bytes
found-whole content room zero number offset bytes some fits h = let no : ⊥ = omega (arith, some, fits) in absurd no
found-whole content room (suc pages) number offset bytes some fits h = elim (cases_lt (length (h.held 0) - offset) (length bytes)) [
  | inl more ↦
      let rest_len = rest-length content room number offset bytes some h more in
      let begins = h.begins in
      let few = h.few 0 (omega arith) in
      let next = found-whole content room pages (number + 1) 0 (drop (room - offset) bytes) (rest-some content room number offset bytes some h more) (omega (arith, rest_len, fits, some, begins, few)) (later content room number offset bytes some h more) in
      full-piece content room number offset bytes some h more (blob_from content room pages (number + 1) 0 (length bytes - (room - offset)))
      (ap (λ n. blob_from content room pages (number + 1) 0 n) (sym rest_len) ∙ next)
  | inr le ↦ last-piece content room number offset bytes some h (blob_from content room pages (number + 1) 0 (length bytes - (room - offset))) le
]

-- a blob whose first page isn't there
pub found-gone : (content : ℕ → Option (List ℕ)) (room pages number offset left : ℕ) → content number ≡ None → blob_from content room pages number offset left ≡ None
found-gone content room zero number offset left none = refl
found-gone content room (suc pages) number offset left none = ap (λ o. piece_in room offset left o (blob_from content room pages (number + 1) 0 (left - (room - offset)))) none
