-- The lines of a text.
use Rattle.std.proofs.Common.{◌≡◌, ℕ, ◌<◌, Bool, Err, List, [], ◌∷◌, length, refl, ap, arith, if◌then◌else◌}
use Rattle.std.proofs.lemmas.Bool.{lt-ltb}
use Rattle.fl_words.specs.Grammar.{TooLong, command_of, no_empty_last, words_command, words_in, without_return}

-- a line that isn't the last
pub no_empty-last : (line : List ℕ) (lines : List (List ℕ)) → 0 < length lines → no_empty_last (line ∷ lines) ≡ line ∷ no_empty_last lines
no_empty-last line [] h = absurd (omega arith)
no_empty-last line (next ∷ lines) h = refl

-- a line that is too long is no command
pub too_long-command : (line : List ℕ) → 4096 < length line → command_of line ≡ Err TooLong
too_long-command line long = ap (λ (b : Bool). if b then Err TooLong else words_command (words_in (without_return line))) (lt-ltb 4096 (length line) long)
