-- How many bytes of a text were taken from its source.
use Rattle.std.specs.Prelude.{◌≡◌, ℕ, ◌+◌, ◌≤◌, min, Option, Some, List, length, drop, sum_by}
use Rattle.fl_lines.specs.Texts.{most_bytes}

-- of a text at most so many bytes were taken
pub record HasTaken (text : List ℕ) (most : ℕ) (left_now : Option (List ℕ)) : Type 0 where
  pub taken : ℕ
  pub within : taken ≤ length text
  pub few : taken ≤ most
  pub left : left_now ≡ Some (drop taken text)

-- where the line begins that stands behind these
abbrev pub begin_behind : List (List ℕ) → ℕ
begin_behind lines = sum_by (λ line. length line + 1) lines

-- at most 4,097 bytes were taken from the first byte of the line on that stands behind these, and at most one more than are read
abbrev pub TakesWithin : ℕ → List ℕ → List (List ℕ) → Option (List ℕ) → Type 0
TakesWithin most text before left_now = HasTaken text (min (begin_behind before + 4097) (most + 1)) left_now

abbrev pub TakesFew : List ℕ → List (List ℕ) → Option (List ℕ) → Type 0
TakesFew text before left_now = TakesWithin most_bytes text before left_now
