-- The chunks of a blob.
use Rattle.std.proofs.Common.{◌≡◌, ℕ, suc, ◌+◌, ◌-◌, ◌^◌, ◌<◌, ◌≤◌, Bool, true, false, cond, ◌==◌, List, ◌++◌, length, take, drop, slice_range, refl, sym, ◌∙◌, ap, arith, inl, inr, ◌⊎◌}
use Rattle.std.proofs.Math.Seq.{take-add, drop-append_seam}
use Rattle.std.proofs.lemmas.Bool.{cases_lt, eq-eqb, eqb-true}
use Rattle.std.proofs.lemmas.List.{take-take, take-append-le, drop-drop, drop-append-le, length-take-le, length-drop}
use Rattle.fl_model.proofs.Lists.{drop_none}
use Rattle.fl_base.proofs.Ranges.{slice_below}
use Rattle.fl_flash.specs.Flash.{FlashState}
use Rattle.fl_page.specs.Header.{page_count}
use Rattle.fl_var.specs.Blobs.{contents_from, contents_in}
use Rattle.fl_var.specs.Content.{content_of}
use Rattle.fl_var.specs.Memory.{next_in, waiting_in, page_in, image_in, present}
use Rattle.fl_var.specs.declared.var_data.VarData.{VarData}
use Rattle.fl_var.proofs.PageImages.{image-other, next-content, next-count}

-- a part of a front, and what is left
pub front-split : (front rest : List ℕ) (from n left : ℕ) → from + n ≤ length front → n ≤ left →
    take left (drop from (front ++ rest)) ≡ slice_range front from (from + n) ++ take (left - n) (drop (from + n) (front ++ rest))
front-split front rest from n left within few =
    let split : left ≡ n + (left - n) = omega (arith, few) in
    let count : from + n - from ≡ n = omega arith in
    let sum : n + from ≡ from + n = omega arith in
    let here : take n (drop from (front ++ rest)) ≡ slice_range front from (from + n) =
    ap (take n) (drop-append-le from front rest (omega (arith, within)))
    ∙ (take-append-le n (drop from front) rest (omega (arith, within, length-drop from front)) ∙ ap (λ (k : ℕ). take k (drop from front)) (sym count)) in
    ap (λ (k : ℕ). take k (drop from (front ++ rest))) split
    ∙ (take-add n (left - n) (drop from (front ++ rest))
    ∙ (ap (λ (l : List ℕ). l ++ take (left - n) (drop n (drop from (front ++ rest)))) here
    ∙ ap (λ (l : List ℕ). slice_range front from (from + n) ++ take (left - n) l) (drop-drop n from (front ++ rest) ∙ ap (λ (k : ℕ). drop k (front ++ rest)) (omega arith))))

-- the contents from a page on begin with its own
pub contents-first : (image : ℕ → List ℕ) (next page : ℕ) → page ≤ next → contents_from image page (next + 1 - page) ≡ content_of (image page) ++ contents_from image (page + 1) (next + 1 - (page + 1))
contents-first image next page le =
    let more : next + 1 - page ≡ suc (next + 1 - (page + 1)) = omega (arith, le) in
    ap (contents_from image page) more

-- behind the content of a page the next one begins
pub contents-turned : (image : ℕ → List ℕ) (next page from left : ℕ) → page ≤ next → length (content_of (image page)) ≡ from →
    take left (drop 0 (contents_from image (page + 1) (next + 1 - (page + 1)))) ≡ take left (drop from (contents_from image page (next + 1 - page)))
contents-turned image next page from left le done =
    let rest = contents_from image (page + 1) (next + 1 - (page + 1)) in
    ap (take left) (drop_none (contents_from image (page + 1) (next + 1 - (page + 1)))
    ∙ (sym (drop-append_seam (content_of (image page)) rest)
    ∙ (ap (λ (n : ℕ). drop n (content_of (image page) ++ contents_from image (page + 1) (next + 1 - (page + 1)))) done
    ∙ ap (drop from) (sym (contents-first image next page le)))))

-- what is present of a page is its content
module _ (v : VarData) (f : FlashState) (page used : ℕ) (bytes : List ℕ) (small : page < 2 ^ 32) (le : page ≤ next_in v) (count : used ≡ page_count (image_in v f page)) (all : used ≤ length (present v page bytes))
    (read : page < next_in v → bytes ≡ page_in v f page) where
  here : (page ≡ next_in v) ⊎ (page < next_in v)
  here = elim (cases_lt page (next_in v)) [ inl lt ↦ inr lt | inr ge ↦ inl (omega (arith, ge, le)) ]

  in_memory : page ≡ next_in v → present v page bytes ≡ content_of (image_in v f page)
  in_memory e = ap (λ (b : Bool). cond b (waiting_in v) (drop 8 bytes)) (eq-eqb page (next_in v) e) ∙ sym (next-content v f page small e)

  on_page : page < next_in v → present v page bytes ≡ drop 8 (image_in v f page)
  on_page lt = by_test (page == next_in v) refl
    where
      other : page ≡ next_in v → ⊥
      other e = omega (arith, e, lt)

      by_test : (b : Bool) → (page == next_in v) ≡ b → cond b (waiting_in v) (drop 8 bytes) ≡ drop 8 (image_in v f page)
      by_test true e = absurd (other (eqb-true page (next_in v) e))
      by_test false e = ap (drop 8) (read lt ∙ sym (image-other v f page other))

  pub present-size : length (content_of (image_in v f page)) ≡ used
  present-size = elim here [
    | inl e ↦ ap length (next-content v f page small e) ∙ (sym (next-count v f page small e) ∙ sym count)
    | inr lt ↦ ap (λ (n : ℕ). length (take n (drop 8 (image_in v f page)))) (sym count) ∙ length-take-le used (drop 8 (image_in v f page)) (omega (arith, all, ap length (on_page lt)))
  ]

  pub present-slice : (from end : ℕ) → end ≤ used → slice_range (present v page bytes) from end ≡ slice_range (content_of (image_in v f page)) from end
  present-slice from end within = elim here [
    | inl e ↦ ap (λ (l : List ℕ). slice_range l from end) (in_memory e)
    | inr lt ↦
        let whole = drop 8 (image_in v f page) in
        ap (λ (l : List ℕ). slice_range l from end) (on_page lt)
        ∙ (slice_below (take used (drop 8 (image_in v f page))) (drop 8 (image_in v f page)) used from end (sym (take-take used used (drop 8 (image_in v f page)) (omega arith))) within
        ∙ ap (λ (n : ℕ). slice_range (take n (drop 8 (image_in v f page))) from end) count)
  ]

  -- a chunk from the front of the bytes left
  pub chunk-front : (begin from n left : ℕ) → begin ≡ from → from + n ≤ used → n ≤ left →
      take left (drop from (contents_in v f page)) ≡ slice_range (present v page bytes) begin (from + n) ++ take (left - n) (drop (from + n) (contents_in v f page))
  chunk-front begin from n left same within few =
      let rest = contents_from (image_in v f) (page + 1) (next_in v + 1 - (page + 1)) in
      let whole = contents-first (image_in v f) (next_in v) page le in
      ap (λ (l : List ℕ). take left (drop from l)) whole
      ∙ (front-split (content_of (image_in v f page)) rest from n left (omega (arith, present-size, within)) few
      ∙ (ap (λ (l : List ℕ). l ++ take (left - n) (drop (from + n) (content_of (image_in v f page) ++ contents_from (image_in v f) (page + 1) (next_in v + 1 - (page + 1))))) (sym (present-slice from (from + n) within))
      ∙ (ap (λ (l : List ℕ). slice_range (present v page bytes) from (from + n) ++ take (left - n) (drop (from + n) l)) (sym whole)
      ∙ ap (λ (b : ℕ). slice_range (present v page bytes) b (from + n) ++ take (left - n) (drop (from + n) (contents_in v f page))) (sym same))))
