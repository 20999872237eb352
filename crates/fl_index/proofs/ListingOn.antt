-- What is remembered of an index page, and whether it lists a data page.
use Rattle.std.proofs.Common.{◌≡◌, ℕ, ◌+◌, ◌-◌, ◌%◌, ◌<◌, ◌≤◌, true, false, eqb, Option, Some, None, List, length, get_or, set, vec_len, refl, sym, ◌∙◌, ap, arith, get_or-set_same, get_or-set_other}
use Rattle.std.proofs.Math.Nat.{mod-lt}
use Rattle.std.proofs.lemmas.Bool.{and_from, and_right, le-leb, lt-ltb, lt-leb, le-ltb, eqb-true, true≢false}
use Rattle.std.proofs.lemmas.List.{get_or_default}
use Rattle.std.specs.Option.{option_eq}
use Rattle.fl_index.specs.declared.index.BitmapIndex.{BitmapIndex}
use Rattle.fl_index.specs.Memory.{first_in, lists, place_in, ring_shape}
use Rattle.fl_index.proofs.SealAnswers.{some-room}

inside : (t : BitmapIndex) (number len : ℕ) → len ≡ vec_len t.firsts → number % len < length t.firsts.items
inside t number len is = omega (arith, mod-lt number (some-room t len is), is, t.firsts.ok.0)

-- what is remembered at a place
pub first-at : (t : BitmapIndex) (number len : ℕ) (found : Option ℕ) → len ≡ vec_len t.firsts → found ≡ get_or t.firsts.items (number % len) found → first_in t number ≡ found
first-at t number len found is same =
    ap (λ (n : ℕ). get_or t.firsts.items (number % n) None) (sym is) ∙ (get_or_default t.firsts.items (number % len) None found (inside t number len is) ∙ sym same)

pub none-at : (t : BitmapIndex) (number len : ℕ) → len ≡ vec_len t.firsts → get_or (set t.firsts.items (number % len) None) (number % vec_len t.firsts) None ≡ None
none-at t number len is =
    ap (λ (n : ℕ). get_or (set t.firsts.items (number % len) None) (number % n) None) (sym is) ∙ get_or-set_same t.firsts.items (number % len) None None (inside t number len is)

-- .. and at another one
pub other-at : (t : BitmapIndex) (firsts : List (Option ℕ)) (n number len : ℕ) (found : Option ℕ) → len ≡ vec_len t.firsts → (place_in t n ≡ place_in t number → ⊥)
    → get_or (set firsts (number % len) found) (n % vec_len t.firsts) None ≡ get_or firsts (n % vec_len t.firsts) None
other-at t firsts n number len found is other = get_or-set_other firsts (number % len) (n % vec_len t.firsts) found None
    (λ e. other (ap (λ (k : ℕ). (ring_shape t).first + k) (ap (λ (m : ℕ). n % m) (sym t.remembered) ∙ (e ∙ ap (λ (m : ℕ). number % m) (is ∙ t.remembered)))))

-- an index page with this first data page
module _ (most number first : ℕ) (found : Option ℕ) (is : found ≡ Some first) where
  pub lists-it : first ≤ number → number - first < most → lists most number found ≡ true
  lists-it low high = ap (lists most number) is ∙ and_from _ _ (le-leb first number low) (lt-ltb number (first + most) (omega (arith, low, high)))

  pub ends-before : most ≤ number - first → first ≤ number → lists most number found ≡ false
  ends-before high low = ap (lists most number) is ∙ and_right _ _ (le-ltb number (first + most) (omega (arith, high, low)))

  pub begins-after : number < first → lists most number found ≡ false
  begins-after low = let e = lt-leb first number low in ap (lists most number) is ∙ rw e refl

-- a buffer that holds a place
pub place-held : (holds : Option ℕ) (place : ℕ) → option_eq eqb holds (Some place) ≡ true → holds ≡ Some place
place-held None place e = absurd (true≢false (sym e))
place-held (Some p) place e = ap (λ (n : ℕ). Some n) (eqb-true p place e)
