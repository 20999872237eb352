-- The block of a page, and what a look at it tells.
use Rattle.std.proofs.Common.{◌≡◌, ◌⊎◌, inl, inr, ℕ, ◌+◌, ◌*◌, ◌-◌, ◌/◌, ◌≤◌, ◌<◌, Bool, true, false, IsTrue, List, length, take, drop, slice_range, slice_set, get_or, sym, ◌∙◌, ap, arith}
use Rattle.std.proofs.lemmas.Bool.{cases_lt}
use Rattle.std.proofs.lemmas.List.{get_or-set_other, get_or-set_same, length-take-le}
use Rattle.std.proofs.Math.Nat.{mul-le-mul_right, add-mul, div-lt_iff_lt-mul}
use Rattle.fl_flash.specs.Flash.{blank}
use Rattle.fl_flash.specs.Places.{page_of}
use Rattle.fl_flash.specs.Sim.{AreBlank}
use Rattle.fl_flash.proofs.Pages.{rows_below, length-slice, part_of_page, block_begin}

-- of a block's pages that are noted, those with a flag are blank, and the other flags stand
pub record Noted (old : List Bool) (first count : ℕ) (block : List ℕ) (size : ℕ) (new : List Bool) : Type 0 where
  pub inside : (i : ℕ) → i < count → get_or new (first + i) false ≡ true → page_of block 0 size i ≡ blank size
  pub outside : (q : ℕ) → (q < first) ⊎ (first + count ≤ q) → get_or new q false ≡ get_or old q false

-- one page more
pub note_one : (old : List Bool) (first p : ℕ) (block : List ℕ) (size : ℕ) (flags : List Bool) (is : Bool) → first + p < length flags → p * size + size ≤ length block
    → (IsTrue is → slice_range block (p * size) (p * size + size) ≡ blank (length (slice_range block (p * size) (p * size + size))))
    → Noted old first p block size flags → Noted old first (p + 1) block size (slice_set flags (first + p) is)
note_one old first p block size flags is within room blank_is noted = record {
  inside = λ i lt set. elim (cases_lt i p) [
    | inl below ↦ noted.inside i below (sym (get_or-set_other flags (first + p) (first + i) is false (λ e. absurd (omega arith))) ∙ set)
    | inr low ↦
        let same : i ≡ p = omega arith in
        let flagged : is ≡ true = sym (get_or-set_same flags (first + p) is false within) ∙ ap (λ (k : ℕ). get_or (slice_set flags (first + p) is) (first + k) false) (sym same) ∙ set in
        ap (λ (k : ℕ). page_of block 0 size k) same ∙ (let from : 0 + p * size ≡ p * size = omega arith in ap (λ (k : ℕ). slice_range block k (k + size)) from) ∙ blank_is flagged ∙ ap blank (length-slice block (p * size) (p * size + size) (omega arith) room ∙ omega arith)
  ];
  outside = λ q apart. get_or-set_other flags (first + p) q is false (λ e. elim apart [ inl below ↦ absurd (omega arith) | inr above ↦ absurd (omega arith) ]) ∙ noted.outside q (elim apart [ inl below ↦ inl below | inr above ↦ inr (omega arith) ]);
}

-- where the block of a page stands
pub block_exists : (p blocks per : ℕ) → 0 < per → p < blocks * per → p / per * per + per ≤ blocks * per
block_exists p blocks per some lt = rows_below (p / per) blocks per ((div-lt_iff_lt-mul {k = per} {x = p} {y = blocks} some).1 lt)

pub block_within : (start p blocks per size total : ℕ) → 0 < per → p < blocks * per → start + blocks * per * size ≤ total → start + p / per * per * size + per * size ≤ total
block_within start p blocks per size total some lt reach =
    let up : (p / per * per + per) * size ≤ blocks * per * size = mul-le-mul_right size (block_exists p blocks per some lt) in
    let split : (p / per * per + per) * size ≡ p / per * per * size + per * size = add-mul (p / per * per) per size in
    omega (arith, up, split)

-- a part of a front
part_of_front : (xs : List ℕ) (n from m : ℕ) → from + m ≤ n → slice_range xs (0 + from) (0 + from + m) ≡ take m (drop from (take n xs))
part_of_front xs n from m le = part_of_page xs 0 n from m le ∙ ap (λ (l : List ℕ). take m (drop from l)) (let e : 0 + n - 0 ≡ n = omega arith in ap (λ (k : ℕ). take k xs) e)

-- a page of the block that was read
pub page_of_read : (c block : List ℕ) (start first per size i : ℕ) → i < per → take (per * size) block ≡ slice_range c (start + first * size) (start + first * size + length (take (per * size) block)) → per * size ≤ length block
    → page_of block 0 size i ≡ page_of c start size (first + i)
page_of_read c block start first per size i lt is room =
    let rows : i * size + size ≤ per * size = rows_below i per size lt in
    let count : length (take (per * size) block) ≡ per * size = length-take-le (per * size) block room in
    let from : start + first * size + i * size ≡ start + (first + i) * size = sym (block_begin start size first i) in
    part_of_front block (per * size) (i * size) size rows
    ∙ ap (λ (l : List ℕ). take size (drop (i * size) l)) (is ∙ ap (λ (n : ℕ). slice_range c (start + first * size) (start + first * size + n)) count)
    ∙ sym (part_of_page c (start + first * size) (per * size) (i * size) size rows)
    ∙ ap (λ (k : ℕ). slice_range c k (k + size)) from

-- what the look tells of all flags
pub all_noted : (c block : List ℕ) (start size first per count : ℕ) (old new : List Bool) → AreBlank old count (page_of c start size) size → Noted old first per block size new
    → ((i : ℕ) → i < per → page_of block 0 size i ≡ page_of c start size (first + i)) → AreBlank new count (page_of c start size) size
all_noted c block start size first per count old new known noted same q lt flagged = elim (cases_lt q first) [
  | inl below ↦ known q lt (sym (noted.outside q (inl below)) ∙ flagged)
  | inr low ↦ elim (cases_lt q (first + per)) [
    | inr above ↦ known q lt (sym (noted.outside q (inr above)) ∙ flagged)
    | inl high ↦
        let split : first + (q - first) ≡ q = omega arith in
        sym (same (q - first) (omega arith) ∙ ap (λ (k : ℕ). page_of c start size k) split)
        ∙ noted.inside (q - first) (omega arith) (ap (λ (k : ℕ). get_or new k false) split ∙ flagged)
  ]
]

-- a range of a page, where the page stands twice
pub range_of_page : (xs c : List ℕ) (start size i p from n : ℕ) → page_of xs 0 size i ≡ page_of c start size p → from + n ≤ size
    → slice_range xs (i * size + from) (i * size + from + n) ≡ slice_range c (start + p * size + from) (start + p * size + from + n)
range_of_page xs c start size i p from n same le =
    part_of_page xs (i * size) size from n le
    ∙ ap (λ (k : ℕ). take n (drop from (slice_range xs k (k + size)))) (let e : i * size ≡ 0 + i * size = omega arith in e)
    ∙ ap (λ (l : List ℕ). take n (drop from l)) same
    ∙ sym (part_of_page c (start + p * size) size from n le)

-- .. from its begin on
pub front_of_page : (xs c : List ℕ) (start size i p n : ℕ) → page_of xs 0 size i ≡ page_of c start size p → n ≤ size → slice_range xs (i * size) (i * size + n) ≡ slice_range c (start + p * size) (start + p * size + n)
front_of_page xs c start size i p n same le =
    ap (λ (k : ℕ). slice_range xs k (k + n)) (let e : i * size ≡ i * size + 0 = omega arith in e)
    ∙ range_of_page xs c start size i p 0 n same (omega (arith, le))
    ∙ ap (λ (k : ℕ). slice_range c k (k + n)) (let e : start + p * size + 0 ≡ start + p * size = omega arith in e)
