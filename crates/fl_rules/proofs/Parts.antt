-- Parts of a page whose bytes are known.
use Rattle.std.proofs.Common.{◌≡◌, ℕ, ◌+◌, ◌-◌, ◌≤◌, true, List, ◌++◌, length, take, drop, replicate, slice_range, refl, sym, ap, ◌∙◌, arith, length-drop, length-take, inl, inr, append_assoc}
use Rattle.std.proofs.lemmas.Bool.{cases_lt}
use Rattle.std.proofs.lemmas.List.{drop-drop, length-take-le, take-append-drop, take_all, get_or-take, get_or-drop, get_or_past, take_at, drop_at, length-replicate}
use Rattle.fl_base.specs.Bytes.{all_are}
use Rattle.fl_base.proofs.OneByte.{all_same, same_all}
use Rattle.fl_model.specs.Layout.{committed, filled}
use Rattle.fl_model.specs.Row.{le, number_of}
use Rattle.fl_rules.specs.Endings.{IsEnded, IsFilled}
use Rattle.fl_rules.proofs.BytesBack.{AreBytes, le-number_as}

-- the marks at the end of a page
module _ (page : List ℕ) (room : 8 ≤ length page) where
  commit_is : slice_range page (length page - 8) (length page - 4) ≡ take 4 (drop (length page - 8) page)
  commit_is = ap (λ (k : ℕ). take k (drop (length page - 8) page)) (let e : length page - 4 - (length page - 8) ≡ 4 = omega (arith, room) in e)

  void_is : slice_range page (length page - 4) (length page) ≡ drop 4 (drop (length page - 8) page)
  void_is =
      take_all (length page - (length page - 4)) (drop (length page - 4) page) (let e = length-drop (length page - 4) page in omega (arith, room, e))
      ∙ ap (λ (k : ℕ). drop k page) (let e : length page - 4 ≡ 4 + (length page - 8) = omega (arith, room) in e)
      ∙ sym (drop-drop 4 (length page - 8) page ∙ ap (λ (k : ℕ). drop k page) (let e : length page - 8 + 4 ≡ 4 + (length page - 8) = omega arith in e))

  four : length (drop 4 (drop (length page - 8) page)) ≡ 4
  four = let e = length-drop 4 (drop (length page - 8) page) in let f = length-drop (length page - 8) page in omega (arith, room, e, f)

  pub marks_are : all_are 0 (slice_range page (length page - 8) (length page - 4)) ≡ true → all_are 255 (slice_range page (length page - 4) (length page)) ≡ true
      → IsEnded page
  marks_are zeros ones =
      let commit : take 4 (drop (length page - 8) page) ≡ replicate 4 0 =
      sym commit_is ∙ all_same 0 (slice_range page (length page - 8) (length page - 4)) zeros
      ∙ ap (λ (k : ℕ). replicate k 0) (ap length commit_is ∙ length-take-le 4 (drop (length page - 8) page) (let e = length-drop (length page - 8) page in omega (arith, room, e))) in
      let void : drop 4 (drop (length page - 8) page) ≡ replicate 4 255 =
      sym void_is ∙ all_same 255 (slice_range page (length page - 4) (length page)) ones
      ∙ ap (λ (k : ℕ). replicate k 255) (ap length void_is ∙ four) in
      sym (take-append-drop 4 (drop (length page - 8) page))
      ∙ ap (λ (l : List ℕ). l ++ drop 4 (drop (length page - 8) page)) commit ∙ ap (λ (l : List ℕ). replicate 4 0 ++ l) void

  pub marks_zero : IsEnded page → all_are 0 (slice_range page (length page - 8) (length page - 4)) ≡ true
  marks_zero is = ap (all_are 0) (commit_is ∙ ap (λ (l : List ℕ). take 4 l) is)

  pub marks_ones : IsEnded page → all_are 255 (slice_range page (length page - 4) (length page)) ≡ true
  marks_ones is = ap (all_are 255) (void_is ∙ ap (λ (l : List ℕ). drop 4 l) is)

-- ---- fields

pub each-taken : (n : ℕ) (bytes : List ℕ) → AreBytes bytes → AreBytes (take n bytes)
each-taken n bytes each k = elim (cases_lt k n) [
  | inl within ↦ rw (get_or-take n bytes k 0 within) (each k)
  | inr past ↦ rw (get_or_past (take n bytes) k 0 (omega (arith, length-take n bytes))) (omega arith)
]

pub each-dropped : (n : ℕ) (bytes : List ℕ) → AreBytes bytes → AreBytes (drop n bytes)
each-dropped n bytes each k = rw (get_or-drop n bytes k 0) (each (n + k))

-- a field has the bytes of its number
pub field_is : (page : List ℕ) (at count n : ℕ) → AreBytes page → at + count ≤ length page → number_of (take count (drop at page)) ≡ n → take count (drop at page) ≡ le count n
field_is page at count n each room is =
    sym (le-number_as count (take count (drop at page)) (length-take-le count (drop at page) (omega (arith, room, length-drop at page))) (each-taken count (drop at page) (each-dropped at page each)))
    ∙ ap (le count) is

-- two bytes 0
pub zero_is : (page : List ℕ) (at count end : ℕ) → end ≡ at + count → end ≤ length page → all_are 0 (slice_range page at end) ≡ true → take count (drop at page) ≡ replicate count 0
zero_is page at count end is room none =
    let part : slice_range page at end ≡ take count (drop at page) = ap (λ (k : ℕ). take k (drop at page)) (let e : end - at ≡ count = omega (arith, is) in e) in
    let size : length (take count (drop at page)) ≡ count = length-take-le count (drop at page) (omega (arith, room, is, length-drop at page)) in
    sym part ∙ all_same 0 (slice_range page at end) none ∙ ap (λ (k : ℕ). replicate k 0) (ap length part ∙ size)

pub is_zero : (page : List ℕ) (at count end : ℕ) → end ≡ at + count → take count (drop at page) ≡ replicate count 0 → all_are 0 (slice_range page at end) ≡ true
is_zero page at count end is none =
    let part : slice_range page at end ≡ take count (drop at page) = ap (λ (k : ℕ). take k (drop at page)) (let e : end - at ≡ count = omega (arith, is) in e) in
    ap (all_are 0) (part ∙ none) ∙ same_all 0 count

-- ---- the end of a page

module _ (page : List ℕ) (end : ℕ) (room : end + 8 ≤ length page) where
  unused : slice_range page end (length page - 8) ≡ take (length page - 8 - end) (drop end page)
  unused = refl

  rest : drop (length page - 8 - end) (drop end page) ≡ drop (length page - 8) page
  rest = drop-drop (length page - 8 - end) end page ∙ ap (λ (k : ℕ). drop k page) (let e : end + (length page - 8 - end) ≡ length page - 8 = omega (arith, room) in e)

  size : length (take (length page - 8 - end) (drop end page)) ≡ length page - 8 - end
  size = length-take-le (length page - 8 - end) (drop end page) (omega (arith, room, length-drop end page))

  pub filled_is : all_are 255 (slice_range page end (length page - 8)) ≡ true → IsEnded page → IsFilled end page
  filled_is ones marks =
      sym (take-append-drop (length page - 8 - end) (drop end page))
      ∙ ap (λ (l : List ℕ). l ++ drop (length page - 8 - end) (drop end page)) (all_same 255 (slice_range page end (length page - 8)) ones ∙ ap (λ (k : ℕ). replicate k 255) size)
      ∙ ap (λ (l : List ℕ). replicate (length page - 8 - end) 255 ++ l) (rest ∙ marks)

  pub filled_ones : IsFilled end page → all_are 255 (slice_range page end (length page - 8)) ≡ true
  filled_ones is =
      ap (λ (l : List ℕ). all_are 255 (take (length page - 8 - end) l)) is
      ∙ ap (all_are 255) (take_at (replicate (length page - 8 - end) 255) (replicate 4 0 ++ replicate 4 255) (length page - 8 - end) (length-replicate {A = ℕ} (length page - 8 - end) 255))
      ∙ same_all 255 (length page - 8 - end)

  pub filled_ended : IsFilled end page → IsEnded page
  filled_ended is =
      sym rest ∙ ap (λ (l : List ℕ). drop (length page - 8 - end) l) is
      ∙ drop_at (replicate (length page - 8 - end) 255) (replicate 4 0 ++ replicate 4 255) (length page - 8 - end) (length-replicate {A = ℕ} (length page - 8 - end) 255)

-- a committed page and what its body begins with
module _ (page front : List ℕ) where
  grouped : committed (filled (length page - 8) front) ≡ front ++ (replicate (length page - 8 - length front) 255 ++ (replicate 4 0 ++ replicate 4 255))
  grouped =
      append_assoc (front ++ replicate (length page - 8 - length front) 255) (replicate 4 0) (replicate 4 255)
      ∙ append_assoc front (replicate (length page - 8 - length front) 255) (replicate 4 0 ++ replicate 4 255)

  pub joined : (end : ℕ) → length front ≡ end → take end page ≡ front → IsFilled end page → page ≡ committed (filled (length page - 8) front)
  joined end size begins ends =
      sym (take-append-drop end page) ∙ ap (λ (l : List ℕ). l ++ drop end page) begins ∙ ap (λ (l : List ℕ). front ++ l) ends
      ∙ ap (λ (k : ℕ). front ++ (replicate (length page - 8 - k) 255 ++ (replicate 4 0 ++ replicate 4 255))) (sym size) ∙ sym grouped

  pub ends_of : (end : ℕ) → length front ≡ end → page ≡ committed (filled (length page - 8) front) → IsFilled end page
  ends_of end size is =
      ap (λ (l : List ℕ). drop end l) (is ∙ grouped) ∙ drop_at front (replicate (length page - 8 - length front) 255 ++ (replicate 4 0 ++ replicate 4 255)) end size
      ∙ ap (λ (k : ℕ). replicate (length page - 8 - k) 255 ++ (replicate 4 0 ++ replicate 4 255)) size
