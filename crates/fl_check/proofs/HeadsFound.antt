-- What one head says of the blocks of a ring.
use Rattle.std.proofs.Common.{◌≡◌, ℕ, zero, suc, ◌≤◌, ◌<◌, ◌==◌, Bool, true, false, not, inl, inr, refl, sym, ◌∙◌, ap, arith}
use Rattle.std.proofs.lemmas.Bool.{true≢false, cases_eq, cases_Bool, and_left, and_right, not_from_true, ne_eqb, cond-true, cond-false}
use Rattle.fl_ring.specs.Head.{one, fulls, before, is_head, ends, last_head, heads, head_of}

-- where not_so block is full
none_full : (full : ℕ → Bool) (n i : ℕ) → fulls full n ≡ 0 → i < n → full i ≡ false
none_full full zero i none lt = absurd (omega arith)
none_full full (suc n) i none lt = elim (cases_eq i n) [
  | inl same ↦ elim (cases_Bool (full n)) [
    | inl is_so ↦ let more : one (full n) ≡ 1 = ap one is_so in absurd (omega arith)
    | inr not_so ↦ ap full same ∙ not_so
  ]
  | inr other ↦ none_full full n i (omega arith) (omega (arith, other))
]

before_within : (B b : ℕ) → 0 < B → b < B → before B b < B
before_within B zero some lt = omega arith
before_within B (suc b) some lt = omega arith

no_head : (full : ℕ → Bool) (B n : ℕ) → 0 < B → fulls full B ≡ 0 → n ≤ B → last_head full B n ≡ 0
no_head full B zero some none within = refl
no_head full B (suc n) some none within =
    let here : is_head full B n ≡ false = and_left (full (before B n)) (not (full n)) (none_full full B (before B n) none (before_within B n some (omega arith))) in
    cond-false (is_head full B n) n (last_head full B n) here ∙ no_head full B n some none (omega arith)

-- .. the first one is the head
pub first_head : (full : ℕ → Bool) (B : ℕ) → 0 < B → fulls full B ≡ 0 → head_of full B ≡ 0
first_head full B some none = no_head full B B some none (omega arith)

last_below : (full : ℕ → Bool) (B n : ℕ) → 0 < B → n ≤ B → last_head full B n < B
last_below full B zero some within = some
last_below full B (suc n) some within = elim (cases_Bool (is_head full B n)) [
  | inl is_so ↦ let e = cond-true (is_head full B n) n (last_head full B n) is_so in omega (arith, e)
  | inr not_so ↦ let e = cond-false (is_head full B n) n (last_head full B n) not_so in omega (arith, e, last_below full B n some (omega arith))
]

-- the head is one of the blocks
pub head_within : (full : ℕ → Bool) (B : ℕ) → 0 < B → head_of full B < B
head_within full B some = last_below full B B some (omega arith)

one_ends : (full : ℕ → Bool) (B n : ℕ) → 0 < ends full B n → is_head full B (last_head full B n) ≡ true
one_ends full B zero some = absurd (omega arith)
one_ends full B (suc n) some = elim (cases_Bool (is_head full B n)) [
  | inl is_so ↦ ap (λ (i : ℕ). is_head full B i) (cond-true (is_head full B n) n (last_head full B n) is_so) ∙ is_so
  | inr not_so ↦
      let less : one (is_head full B n) ≡ 0 = ap one not_so in
      ap (λ (i : ℕ). is_head full B i) (cond-false (is_head full B n) n (last_head full B n) not_so) ∙ one_ends full B n (omega arith)
]

-- .. and isn't full
pub head_open : (full : ℕ → Bool) (B : ℕ) → 0 < B → heads full B ≡ 1 → full (head_of full B) ≡ false
head_open full B some is = elim (cases_eq (fulls full B) 0) [
  | inl none ↦ none_full full B (head_of full B) none (head_within full B some)
  | inr more ↦
      let found : ends full B B ≡ 1 = sym (cond-false (fulls full B == 0) 1 (ends full B B) (ne_eqb (fulls full B) 0 more)) ∙ is in
      elim (cases_Bool (full (head_of full B))) [
        | inl is_so ↦
            let none : is_head full B (head_of full B) ≡ false = and_right (full (before B (head_of full B))) (not (full (head_of full B))) (not_from_true (full (head_of full B)) is_so) in
            absurd (true≢false (sym (one_ends full B B (omega (arith, found))) ∙ none))
        | inr not_so ↦ not_so
      ]
]
