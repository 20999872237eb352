-- The keys of eight bytes above one.
use Rattle.std.proofs.Common.{ℕ, ◌≡◌, ◌+◌, ◌-◌, ◌^◌, ◌<◌, ◌≤◌, true, Option, Some, None, arith}
use Rattle.std.proofs.lemmas.Bool.{ltb-true}
use Rattle.fl_model.specs.Query.{is_above}

-- how many there are
abbrev pub room : Option ℕ → ℕ
room None = 2 ^ 64
room (Some key) = 2 ^ 64 - 1 - key

-- the least of them
abbrev pub next_key : Option ℕ → ℕ
next_key None = 0
next_key (Some key) = key + 1

pub next_key-above : (above : Option ℕ) (key : ℕ) → is_above above key ≡ true → next_key above ≤ key
next_key-above None key is = omega arith
next_key-above (Some last) key is = omega (arith, ltb-true last key is)

-- a later key leaves room for fewer
pub room-less : (above now : Option ℕ) (key : ℕ) → now ≡ Some key → is_above above key ≡ true → key < 2 ^ 64 → room now < room above
room-less above now key at later small = rw at (fewer above later)
  where
    fewer : (above : Option ℕ) → is_above above key ≡ true → room (Some key) < room above
    fewer None is = omega (arith, small)
    fewer (Some last) is = omega (arith, small, ltb-true last key is)
