-- The words of a line of so many.
use Rattle.std.proofs.Common.{◌≡◌, ℕ, ℤ, ◌-◌, ◌<◌, ◌≤◌, List, [], ◌∷◌, length, map, take, drop, get_or, Result, Err, refl, sym, ap, arith, Bor, inl, inr, take_all}
use Rattle.fl_words.specs.Grammar.{LineFault, Number, number, signed, ◌>>=◌}
use Rattle.fl_words.specs.Command.{Command}
use Rattle.fl_script.specs.Lines.{IsBadRange, IsBadSpan}

abbrev pub blank : Bor (List ℕ)
blank = record { ref_ptr = (0, 0); now = [] }

abbrev pub word_at : List (Bor (List ℕ)) → ℕ → List ℕ
word_at words i = (get_or words i blank).now

pub two : (words : List (Bor (List ℕ))) → 2 ≤ length words → length words < 3 → map (λ word. word.now) words ≡ word_at words 0 ∷ word_at words 1 ∷ []
two [] least most = absurd (omega (arith, least))
two (a ∷ []) least most = absurd (omega (arith, least))
two (a ∷ b ∷ []) least most = refl
two (a ∷ b ∷ c ∷ words) least most = absurd (omega (arith, most))

pub three : (words : List (Bor (List ℕ))) → 3 ≤ length words → length words < 4 → map (λ word. word.now) words ≡ word_at words 0 ∷ word_at words 1 ∷ word_at words 2 ∷ []
three [] least most = absurd (omega (arith, least))
three (a ∷ []) least most = absurd (omega (arith, least))
three (a ∷ b ∷ []) least most = absurd (omega (arith, least))
three (a ∷ b ∷ c ∷ []) least most = refl
three (a ∷ b ∷ c ∷ d ∷ words) least most = absurd (omega (arith, most))

pub four : (words : List (Bor (List ℕ))) → 4 ≤ length words → length words < 5
    → map (λ word. word.now) words ≡ word_at words 0 ∷ word_at words 1 ∷ word_at words 2 ∷ word_at words 3 ∷ []
four [] least most = absurd (omega (arith, least))
four (a ∷ []) least most = absurd (omega (arith, least))
four (a ∷ b ∷ []) least most = absurd (omega (arith, least))
four (a ∷ b ∷ c ∷ []) least most = absurd (omega (arith, least))
four (a ∷ b ∷ c ∷ d ∷ []) least most = refl
four (a ∷ b ∷ c ∷ d ∷ e ∷ words) least most = absurd (omega (arith, most))

pub five : (words : List (Bor (List ℕ))) → 5 ≤ length words → length words < 6
    → map (λ word. word.now) words ≡ word_at words 0 ∷ word_at words 1 ∷ word_at words 2 ∷ word_at words 3 ∷ word_at words 4 ∷ []
five [] least most = absurd (omega (arith, least))
five (a ∷ []) least most = absurd (omega (arith, least))
five (a ∷ b ∷ []) least most = absurd (omega (arith, least))
five (a ∷ b ∷ c ∷ []) least most = absurd (omega (arith, least))
five (a ∷ b ∷ c ∷ d ∷ []) least most = absurd (omega (arith, least))
five (a ∷ b ∷ c ∷ d ∷ e ∷ []) least most = refl
five (a ∷ b ∷ c ∷ d ∷ e ∷ f ∷ words) least most = absurd (omega (arith, most))

pub six : (words : List (Bor (List ℕ))) → 6 ≤ length words → length words < 7
    → map (λ word. word.now) words ≡ word_at words 0 ∷ word_at words 1 ∷ word_at words 2 ∷ word_at words 3 ∷ word_at words 4 ∷ word_at words 5 ∷ []
six [] least most = absurd (omega (arith, least))
six (a ∷ []) least most = absurd (omega (arith, least))
six (a ∷ b ∷ []) least most = absurd (omega (arith, least))
six (a ∷ b ∷ c ∷ []) least most = absurd (omega (arith, least))
six (a ∷ b ∷ c ∷ d ∷ []) least most = absurd (omega (arith, least))
six (a ∷ b ∷ c ∷ d ∷ e ∷ []) least most = absurd (omega (arith, least))
six (a ∷ b ∷ c ∷ d ∷ e ∷ f ∷ []) least most = refl
six (a ∷ b ∷ c ∷ d ∷ e ∷ f ∷ g ∷ words) least most = absurd (omega (arith, most))

-- eleven words, and the others
pub eleven : (words : List (Bor (List ℕ))) → 11 ≤ length words
    → map (λ word. word.now) words ≡ word_at words 0 ∷ word_at words 1 ∷ word_at words 2 ∷ word_at words 3 ∷ word_at words 4 ∷ word_at words 5 ∷ word_at words 6 ∷ word_at words 7 ∷ word_at words 8 ∷ word_at words 9 ∷ word_at words 10 ∷ map (λ word. word.now) (take (length words - 11) (drop 11 words))
eleven [] least = absurd (omega (arith, least))
eleven (a ∷ []) least = absurd (omega (arith, least))
eleven (a ∷ b ∷ []) least = absurd (omega (arith, least))
eleven (a ∷ b ∷ c ∷ []) least = absurd (omega (arith, least))
eleven (a ∷ b ∷ c ∷ d ∷ []) least = absurd (omega (arith, least))
eleven (a ∷ b ∷ c ∷ d ∷ e ∷ []) least = absurd (omega (arith, least))
eleven (a ∷ b ∷ c ∷ d ∷ e ∷ f ∷ []) least = absurd (omega (arith, least))
eleven (a ∷ b ∷ c ∷ d ∷ e ∷ f ∷ g ∷ []) least = absurd (omega (arith, least))
eleven (a ∷ b ∷ c ∷ d ∷ e ∷ f ∷ g ∷ h ∷ []) least = absurd (omega (arith, least))
eleven (a ∷ b ∷ c ∷ d ∷ e ∷ f ∷ g ∷ h ∷ i ∷ []) least = absurd (omega (arith, least))
eleven (a ∷ b ∷ c ∷ d ∷ e ∷ f ∷ g ∷ h ∷ i ∷ j ∷ []) least = absurd (omega (arith, least))
eleven (a ∷ b ∷ c ∷ d ∷ e ∷ f ∷ g ∷ h ∷ i ∷ j ∷ k ∷ words) least = ap (λ (others : List (Bor (List ℕ))). a.now ∷ b.now ∷ c.now ∷ d.now ∷ e.now ∷ f.now ∷ g.now ∷ h.now ∷ i.now ∷ j.now ∷ k.now ∷ map (λ word. word.now) others) (sym (take_all (length (a ∷ b ∷ c ∷ d ∷ e ∷ f ∷ g ∷ h ∷ i ∷ j ∷ k ∷ words) - 11) words (omega arith)))

-- where low or high isn't a number
pub bad_range : (low high : List ℕ) → IsBadRange low high → (f : ℕ → ℕ → Result Command LineFault) → (number low >>= λ l. number high >>= λ h. f l h) ≡ Err Number
bad_range low high (inl bad) f = rw bad refl
bad_range low high (inr (value, good, bad)) f = rw (good, bad) refl

pub bad_span : (low high : List ℕ) → IsBadSpan low high → (f : ℤ → ℤ → Result Command LineFault) → (signed low >>= λ l. signed high >>= λ h. f l h) ≡ Err Number
bad_span low high (inl bad) f = rw bad refl
bad_span low high (inr (value, good, bad)) f = rw (good, bad) refl
