-- The first key of a table, in the line of its first group.
use Rattle.std.specs.Prelude.{◌≡◌, ℕ, ◌^◌, ◌<◌, ℤ, pos, List, ◌∷◌}
use Rattle.fl_words.specs.Reply as reply
use Rattle.fl_words.specs.Reply.{Reply}

-- a number from 0 on below this
abbrev pub IsBelow : ℕ → ℤ → Type 0
IsBelow most z = (n : ℕ) × (z ≡ pos n) × (n < most)

-- where the replies begin with a group, its numbers up to the least key have twenty digits at most
abbrev pub BeginsShort : List Reply → Type 0
BeginsShort (reply.Group group count least greatest sum mean ∷ replies) = (group < 10 ^ 20) × (count < 10 ^ 20) × IsBelow (10 ^ 20) least
BeginsShort replies = Unit {0}
