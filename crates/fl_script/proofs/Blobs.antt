-- Blob words that are no pairs of digits.
use Rattle.std.proofs.Common.{◌≡◌, ◌≢◌, ℕ, ◌/◌, ◌%◌, false, Option, Some, None, List, [], ◌∷◌, length, refl, arith}
use Rattle.fl_words.specs.Grammar.{hex_bytes, hex_value, onto_bytes, blob_word}
use Rattle.fl_model.specs.Record.{bytes_equal}

pub odd : (digits : List ℕ) → length digits % 2 ≡ 1 → hex_bytes digits ≡ None
odd [] h = absurd (omega (arith, h))
odd (high ∷ []) h = refl
odd (high ∷ low ∷ digits) h = rw (odd digits (omega (arith, h))) (none (hex_value high) (hex_value low))
  where
    none : (h l : Option ℕ) → onto_bytes h l None ≡ None
    none None l = refl
    none (Some h) None = refl
    none (Some h) (Some l) = refl

-- a word of less than two bytes, or of an odd number
pub few : (word : List ℕ) → bytes_equal word (45 ∷ []) ≡ false → length word / 2 ≡ 0 → blob_word word ≡ None
few [] dash h = refl
few (byte ∷ []) dash h = rw dash refl
few (byte ∷ next ∷ bytes) dash h = absurd (omega (arith, h))

pub uneven : (word : List ℕ) → bytes_equal word (45 ∷ []) ≡ false → length word % 2 ≢ 0 → blob_word word ≡ None
uneven [] dash h = refl
uneven (byte ∷ bytes) dash h = rw dash (odd (byte ∷ bytes) (omega (arith, h)))
