-- A text of which lines are read one after another.
use Rattle.std.specs.Prelude.{◌≡◌, ℕ, ◌+◌, ◌≤◌, Bool, true, false, nat_lt, List, [], ◌++◌, length}
use Rattle.fl_lines.specs.Taken.{begin_behind}
use Rattle.fl_lines.specs.Texts.{whole_lines, rest_of, lines_within}

-- The lines that were given of a text, of which at most so many bytes are read, and what is left of both. Where the last
-- line was given that has no newline, the text is closed. `begin` is what was given.
pub record Given (most : ℕ) (text : List ℕ) (given : List (List ℕ)) (closed : Bool) (most_now : ℕ) (rest : List ℕ) : Type 0 where
  pub lines : lines_within most text ≡ given ++ lines_within most_now rest
  pub long : nat_lt most (length text) ≡ nat_lt most_now (length rest)
  pub ended : closed ≡ true → rest ≡ []
  pub begin : List ℕ
  pub parts : text ≡ begin ++ rest
  pub size : length begin ≤ begin_behind given
  pub front : List ℕ
  pub split : closed ≡ false → text ≡ front ++ rest
  pub bytes : closed ≡ false → most ≡ length front + most_now
  pub whole : closed ≡ false → (xs : List ℕ) → whole_lines (front ++ xs) ≡ given ++ whole_lines xs
  pub behind : closed ≡ false → (xs : List ℕ) → rest_of (front ++ xs) ≡ rest_of xs
