-- Lines whose numbers rise, over any bytes and on any medium.
use Rattle.std.specs.Prelude.{◌≡◌, ℕ, true, Option, Some, List, [], ◌∷◌}
use Rattle.fl_model.specs.Query.{is_above}
use Rattle.fl_words.specs.Reply as reply
use Rattle.fl_words.specs.Reply.{Reply}

-- the line of a row with this key
abbrev pub IsRow : ℕ → Reply → Type 0
IsRow key (reply.Row its values note) = its ≡ key
IsRow key _ = ⊥

-- each of the lines is of a kind and has a number, and these rise, the first of them above this one
abbrev pub AreRising : (ℕ → Reply → Type 0) → Option ℕ → List Reply → Type 0
AreRising IsLine above [] = Unit {0}
AreRising IsLine above (line ∷ lines) = (number : ℕ) × IsLine number line × (is_above above number ≡ true) × AreRising IsLine (Some number) lines

-- .. and each number that is above this one now is above all of them
abbrev pub RiseTo : (ℕ → Reply → Type 0) → Option ℕ → Option ℕ → List Reply → Type 0
RiseTo IsLine above now [] = (number : ℕ) → is_above now number ≡ true → is_above above number ≡ true
RiseTo IsLine above now (line ∷ lines) = (number : ℕ) × IsLine number line × (is_above above number ≡ true) × RiseTo IsLine (Some number) now lines
