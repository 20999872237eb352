-- What is known of the values of a group.
use Rattle.std.specs.Prelude.{◌≡◌, ℕ, ◌+◌, ◌-◌, ◌*◌, ◌^◌, ◌<◌, ◌≤◌, ℤ, pos, ◌+ℤ◌, unsigned_abs}
use Rattle.std.specs.Int.{int_min, int_max, int_div_euclid}
use Rattle.fl_model.specs.Operators.{Group}
use Rattle.fl_ops.specs.declared.tally.Tally.{Tally}

-- of one value
abbrev pub tally_of : ℤ → Tally
tally_of value = record { count = 1; least = value; greatest = value; sum = value }

-- of one value more
abbrev pub tally_more : Tally → ℤ → Tally
tally_more tally value = record {
  count = tally.count + 1;
  least = int_min tally.least value;
  greatest = int_max tally.greatest value;
  sum = tally.sum +ℤ value;
}

-- the group of these values
abbrev pub tallied : ℕ → Tally → Group
tallied group tally = record {
  group = group;
  count = tally.count;
  least = tally.least;
  greatest = tally.greatest;
  sum = tally.sum;
  mean = int_div_euclid tally.sum (pos tally.count);
}

-- The bounds of a sum over rows whose keys ascend below `end`: distinct keys, or values of eight bytes.
pub record HasBounds (column end : ℕ) (tally : Tally) : Type 0 where
  pub keys : column ≡ 0 → 2 * unsigned_abs tally.sum ≤ end * (end - 1)
  pub values : 0 < column → unsigned_abs tally.sum ≤ 2 ^ 63 * tally.count
