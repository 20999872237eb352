-- The answer to a line that is refused.
use Rattle.std.specs.Prelude.{◌≡◌, ℕ, Option, Result, List, ◌++◌, codes}
use Rattle.fl_script.specs.Written.{Written}
use Rattle.fl_lines.specs.Stream.{IsOneLine}

abbrev pub line_of : List ℕ → List ℕ
line_of words = words ++ codes "\n"

-- one line, which begins with a question mark and a space
pub record IsRefusal (answer : List ℕ) : Type 0 where
  pub reason : List ℕ
  pub is : answer ≡ codes "? " ++ reason ++ codes "\n"
  pub one : IsOneLine reason

-- it was written, or a front of it where the sink failed
abbrev pub Refuses : {E : Type 0} → Option (List ℕ) → Option (List ℕ) → Result (Unit {0}) E → Type 0
Refuses told told_now result = (answer : List ℕ) × IsRefusal answer × Written told told_now result answer
