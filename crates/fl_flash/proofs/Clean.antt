-- Which pages are known to be blank, and what a program of such a page leaves.
use Rattle.std.proofs.Common.{◌≡◌, ◌≢◌, ◌⊎◌, inl, inr, ℕ, zero, suc, ◌+◌, ◌*◌, ◌-◌, ◌≤◌, ◌<◌, Bool, true, false, ◌||◌, ◌==◌, IsTrue, List, [], ◌∷◌, length, take, drop, replicate, slice_range, slice_set, get_or, bit_and, refl, sym, ◌∙◌, ap, subst, arith}
use Rattle.std.proofs.lemmas.Bool.{both_ways, cases_lt, and_parts, or_cases, eqb-true}
use Rattle.std.proofs.lemmas.Grind.{numeral_and}
use Rattle.std.proofs.lemmas.List.{places, drop-drop, drop-replicate, take-replicate, get_or-set_other, get_or_default}
use Rattle.std.proofs.Math.Nat.{mod-eq_of_lt, mul_assoc}
use Rattle.std.specs.Int.Bits.{and_zero_r}
use Rattle.fl_base.specs.declared.types.Geometry.{Geometry}
use Rattle.fl_flash.specs.Flash.{all_zero, and_bytes, blank, Erased}
use Rattle.fl_flash.specs.Media.{MediaState, Torn}
use Rattle.fl_flash.specs.Places.{page_of, extent}
use Rattle.fl_flash.specs.Sim.{AreBlank, with_flags}
use Rattle.fl_flash.proofs.Pages.{rows_below, part_of_blank, page_below, page_above, others_stand, part_of_page, length-slice, above_block}

-- a program on FF leaves its bytes
and_ones : (bs : List ℕ) → ((i : ℕ) → get_or bs i 0 < 256) → and_bytes (replicate (length bs) 255) bs ≡ bs
and_ones [] fits = refl
and_ones (b ∷ bs) fits =
    ap (λ (x : ℕ). x ∷ and_bytes (replicate (length bs) 255) bs) (numeral_and 254 b refl ∙ mod-eq_of_lt (fits 0))
    ∙ ap (λ (l : List ℕ). b ∷ l) (and_ones bs (λ i. fits (suc i)))

-- a program of zeros leaves zeros
pub and_zeros : (xs bs : List ℕ) → length xs ≡ length bs → all_zero bs ≡ true → and_bytes xs bs ≡ bs
and_zeros [] [] e none = refl
and_zeros [] (b ∷ bs) e none = absurd (omega arith)
and_zeros (x ∷ xs) [] e none = absurd (omega arith)
and_zeros (x ∷ xs) (b ∷ bs) e none =
    let parts = and_parts (b == 0) (all_zero bs) none in
    let is : b ≡ 0 = eqb-true b 0 parts.0 in
    ap (λ (y : ℕ). bit_and x y ∷ and_bytes xs bs) is ∙ ap (λ (y : ℕ). y ∷ and_bytes xs bs) (and_zero_r x ∙ sym is)
    ∙ ap (λ (l : List ℕ). b ∷ l) (and_zeros xs bs (omega arith) parts.1)

-- a flag that is there, read with any other value for those that aren't
pub any_default : (flags : List Bool) (p : ℕ) (is : Bool) → p < length flags → is ≡ get_or flags p is → is ≡ true → get_or flags p false ≡ true
any_default flags p is lt same set = get_or_default flags p false is lt ∙ sym same ∙ set

-- either of the two leaves exactly its bytes
pub exact_program : (c : List ℕ) (start size p from : ℕ) (bs : List ℕ) (flag : Bool) → from + length bs ≤ size → start + p * size + size ≤ length c
    → ((i : ℕ) → get_or bs i 0 < 256) → (flag ≡ true → page_of c start size p ≡ blank size) → (flag || all_zero bs) ≡ true
    → and_bytes (slice_range c (start + p * size + from) (start + p * size + from + length bs)) bs ≡ bs
exact_program c start size p from bs flag range within fits clean exact = elim (or_cases flag (all_zero bs) exact) [
  | inl flagged ↦
      ap (λ (l : List ℕ). and_bytes l bs)
      (part_of_page c (start + p * size) size from (length bs) range
      ∙ ap (λ (l : List ℕ). take (length bs) (drop from l)) (clean flagged)
      ∙ ap (λ (l : List ℕ). take (length bs) l) (drop-replicate from size 255)
      ∙ take-replicate (length bs) (size - from) 255 (omega arith))
      ∙ and_ones bs fits
  | inr none ↦
      and_zeros (slice_range c (start + p * size + from) (start + p * size + from + length bs)) bs
      (length-slice c (start + p * size + from) (start + p * size + from + length bs) (omega arith) (omega arith) ∙ omega arith) none
]

-- on a medium of FF from `start` on each page is blank
pub fresh_pages : (c : List ℕ) (start size pages p : ℕ) → drop start c ≡ replicate (pages * size) 255 → p < pages → page_of c start size p ≡ blank size
fresh_pages c start size pages p fresh exists =
    let count : start + p * size + size - (start + p * size) ≡ size = omega arith in
    ap (λ (k : ℕ). take k (drop (start + p * size) c)) count
    ∙ ap (λ (l : List ℕ). take size l) (sym (drop-drop (p * size) start c) ∙ ap (λ (l : List ℕ). drop (p * size) l) fresh)
    ∙ part_of_blank (pages * size) (p * size) size (rows_below p pages size exists)

unset : (flags : List Bool) (p : ℕ) → get_or (slice_set flags p false) p false ≡ false
unset [] p = refl
unset (f ∷ flags) zero = refl
unset (f ∷ flags) (suc p) = unset flags p

flags_outside : (flags : List Bool) (at n q : ℕ) (v : Bool) → at + n ≤ length flags → q < at ⊎ at + n ≤ q → get_or (with_flags flags at n v) q false ≡ get_or flags q false
flags_outside flags at n q v fits apart = elim apart [
  | inl below ↦ grind (arith, places)
  | inr above ↦ grind (arith, places)
]

flags_inside : (flags : List Bool) (at n q : ℕ) (v : Bool) → at + n ≤ length flags → at ≤ q → q < at + n → get_or (with_flags flags at n v) q false ≡ v
flags_inside flags at n q v fits low high = grind (arith, places)

with_flags_length : (flags : List Bool) (at n : ℕ) (v : Bool) → at + n ≤ length flags → length (with_flags flags at n v) ≡ length flags
with_flags_length flags at n v fits = grind (arith, places)

module _ (g : Geometry) (blocks start : ℕ) (old new : MediaState) (flags : List Bool) where
  abbrev count : ℕ
  count = blocks * g.block

  abbrev pub CleanBefore : Type 0
  CleanBefore = IsTrue old.tells → AreBlank flags count (page_of old.content start g.page) g.page

  -- a program leaves the other pages as they are
  pub program_keeps : (p from n : ℕ) → p < count → from + n ≤ g.page → start + extent g blocks ≤ length old.content
      → new.tells ≡ old.tells → (IsTrue old.tells → Torn old.content (start + p * g.page + from) n new.content)
      → CleanBefore → IsTrue new.tells → AreBlank (slice_set flags p false) count (page_of new.content start g.page) g.page
  program_keeps p from n exists range reach tells torn known told q lt flagged =
      let t : IsTrue old.tells = subst IsTrue tells told in
      let ne : q ≢ p = λ same. absurd (both_ways (get_or (slice_set flags p false) q false) (ap (λ (k : ℕ). get_or (slice_set flags p false) k false) same ∙ unset flags p) flagged) in
      others_stand old.content new.content start g.page p from n range (torn t) q ne
      ∙ known t q lt (sym (get_or-set_other flags p q false false ne) ∙ flagged)

  module _ (b : ℕ) (exists : b < blocks) (fits : count ≤ length flags) (tells : new.tells ≡ old.tells) (known : CleanBefore) where
    abbrev first : ℕ
    first = b * g.block

    inside : first + g.block ≤ length flags
    inside = omega (arith, rows_below b blocks g.block exists, fits)

    block_at : start + b * (g.block * g.page) ≡ start + first * g.page
    block_at = ap (λ (n : ℕ). start + n) (sym (mul_assoc b g.block g.page))

    -- an erase leaves the pages of other blocks as they are
    pub erase_keeps : (cleared : List Bool) → cleared ≡ with_flags flags first g.block false
        → (IsTrue old.tells → Torn old.content (start + b * (g.block * g.page)) (g.block * g.page) new.content)
        → IsTrue new.tells → AreBlank cleared count (page_of new.content start g.page) g.page
    erase_keeps cleared is torn told q lt flagged =
        let t : IsTrue old.tells = subst IsTrue tells told in
        let flag : get_or cleared q false ≡ get_or (with_flags flags first g.block false) q false = ap (λ (l : List Bool). get_or l q false) is in
        elim (cases_lt q first) [
          | inl below ↦
              page_below old.content new.content start g.page (start + b * (g.block * g.page)) (g.block * g.page) q (torn t)
              (omega (arith, block_at, rows_below q first g.page below))
              ∙ known t q lt (sym (flag ∙ flags_outside flags first g.block q false inside (inl below)) ∙ flagged)
          | inr low ↦ elim (cases_lt q (first + g.block)) [
            | inl high ↦ absurd (both_ways (get_or cleared q false) (flag ∙ flags_inside flags first g.block q false inside low high) flagged)
            | inr above ↦
                page_above old.content new.content start g.page (start + b * (g.block * g.page)) (g.block * g.page) q (torn t)
                (omega (arith, block_at, above_block start g.page first g.block q above))
                ∙ known t q lt (sym (flag ∙ flags_outside flags first g.block q false inside (inr above)) ∙ flagged)
          ]
        ]

    -- and a whole one leaves the block's pages blank
    pub erase_sets : (cleared set : List Bool) → cleared ≡ with_flags flags first g.block false → set ≡ with_flags cleared first g.block true
        → (IsTrue old.tells → Erased (page_of old.content start g.page) first g.block g.page (page_of new.content start g.page))
        → IsTrue new.tells → AreBlank set count (page_of new.content start g.page) g.page
    erase_sets cleared set is is_set erased told q lt flagged =
        let t : IsTrue old.tells = subst IsTrue tells told in
        let size : length cleared ≡ length flags = ap length is ∙ with_flags_length flags first g.block false inside in
        let within : first + g.block ≤ length cleared = omega (arith, size, inside) in
        let flag : get_or cleared q false ≡ get_or (with_flags flags first g.block false) q false = ap (λ (l : List Bool). get_or l q false) is in
        let flag_set : get_or set q false ≡ get_or (with_flags cleared first g.block true) q false = ap (λ (l : List Bool). get_or l q false) is_set in
        elim (cases_lt q first) [
          | inl below ↦
              (erased t).below q below
              ∙ known t q lt (sym (flag ∙ flags_outside flags first g.block q false inside (inl below)) ∙ sym (flag_set ∙ flags_outside cleared first g.block q true within (inl below)) ∙ flagged)
          | inr low ↦ elim (cases_lt q (first + g.block)) [
            | inl high ↦
                let split : q ≡ first + (q - first) = omega arith in
                ap (λ (k : ℕ). page_of new.content start g.page k) split ∙ (erased t).here (q - first) (omega arith)
            | inr above ↦
                (erased t).above q above
                ∙ known t q lt (sym (flag ∙ flags_outside flags first g.block q false inside (inr above)) ∙ sym (flag_set ∙ flags_outside cleared first g.block q true within (inr above)) ∙ flagged)
          ]
        ]
