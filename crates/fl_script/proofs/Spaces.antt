-- The length of a word by the place of the first space.
use Rattle.std.proofs.Common.{◌≡◌, ℕ, ◌<◌, ◌≤◌, Bool, true, false, not, ◌==◌, Option, Some, None, List, length, sym, ap, ◌∙◌, arith}
use Rattle.std.specs.Prelude.{slice_index}
use Rattle.std.specs.List.{prefix_len}
use Rattle.std.specs.Option.{unwrap_or}
use Rattle.std.proofs.lemmas.List.Sums.{prefix_len-le-length, prefix_len_passes, prefix_len_stops}
use Rattle.std.proofs.lemmas.Bool.{not-false}
use Rattle.memchr.specs.Find.{IsFirstByte, is_byte}

at_most : (a b : ℕ) → ¬ (b < a) → a ≤ b
at_most a b h = omega (arith, h)

-- where no space comes before a place, the word doesn't end before it
reaches : (line : List ℕ) (to : ℕ) → to ≤ length line → ((k : ℕ) → 0 ≤ k → k < to → ¬ (is_byte 32 (slice_index line k) ≡ true)) → prefix_len (λ byte. not (byte == 32)) line < to → ⊥
reaches line to fits none below =
    none _ (omega arith) below (not-false _ (prefix_len_stops (λ byte. not (byte == 32)) line 0 (omega (arith, fits, below))))

clash : {b : Bool} → not b ≡ true → b ≡ true → ⊥
clash h is = let wrong : false ≡ true = sym (ap not is) ∙ h in cc wrong

pub word_length : (line : List ℕ) (first : Option ℕ) → IsFirstByte (is_byte 32) line first →
    (unwrap_or first (length line) ≡ prefix_len (λ byte. not (byte == 32)) line) × (unwrap_or first (length line) ≤ length line)
word_length line None h =
    let most = prefix_len-le-length (λ byte. not (byte == 32)) line in
    let least : length line ≤ prefix_len (λ byte. not (byte == 32)) line = at_most _ _ (reaches line (length line) (omega arith) h) in
    (omega (arith, most, least), omega arith)
word_length line (Some k) h =
    let most : prefix_len (λ byte. not (byte == 32)) line ≤ k = at_most _ _ (λ longer. absurd (clash (prefix_len_passes (λ byte. not (byte == 32)) line k 0 longer) h.1)) in
    let least : k ≤ prefix_len (λ byte. not (byte == 32)) line = at_most _ _ (reaches line k (omega (arith, h.0.high)) h.0.before) in
    (omega (arith, most, least), omega (arith, h.0.high))
