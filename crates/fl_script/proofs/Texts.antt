-- Words that are compared with fixed texts.
use Rattle.std.proofs.Common.{◌≡◌, ℕ, true, false, List, [], ◌∷◌, length, refl, arith, cond, eqb, nat_eq}
use Rattle.std.specs.Cmp.Lexicographic.{pointwise}
use Rattle.fl_model.specs.Record.{bytes_equal}
use Rattle.fl_model.proofs.Names.{bytes_equal-is}

pub other_length : (word text : List ℕ) → (length word ≡ length text → ⊥) → bytes_equal word text ≡ false
other_length [] [] h = absurd (h refl)
other_length [] (b ∷ bs) h = refl
other_length (a ∷ as') [] h = refl
other_length (a ∷ as') (b ∷ bs) h =
    let tail = other_length as' bs (λ e. h (omega (arith, e))) in
    elim (eqb a b) as (λ t. cond t (bytes_equal as' bs) false ≡ false) [ true ↦ tail | false ↦ refl ]

-- `==` on bytes
pub same_test : (word text : List ℕ) → pointwise nat_eq word text ≡ bytes_equal word text
same_test word text = bytes_equal-is word text
