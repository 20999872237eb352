-- The records of a load, one after another.
use Rattle.std.specs.Prelude.{◌≡◌, ℕ, ◌+◌, ◌*◌, ◌-◌, ◌/◌, ◌%◌, ◌^◌, min, List, map}
use Rattle.fl_model.specs.Record.{Column}
use Rattle.fl_session.specs.declared.generator.Generator.{Generator}

-- the pseudo-random number of the record that is made next
abbrev pub random_of : Generator → ℕ
random_of generator = generator.random

abbrev pub step_of : Generator → ℕ
step_of generator = generator.step

-- the key of a record behind a key, by its pseudo-random number
abbrev pub load_key : ℕ → ℕ → ℕ → ℕ
load_key last step random = min (last + 1 + (random / 2 ^ 33) % step) (2 ^ 64 - 1)

-- The next record that is made is the i-th of a load with this seed, into a table of these columns.
pub record StandsBefore (columns : List Column) (seed i : ℕ) (generator : Generator) : Type 0 where
  pub sum : generator.sum ≡ (i * 37 + seed) % 200
  pub signed_are : generator.signed.items ≡ map (λ column. column.signed) columns
