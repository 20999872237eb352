-- The sum of a group fits 128 bits.
use Rattle.std.proofs.Common.{ℕ, zero, suc, ◌≡◌, ◌-◌, ◌*◌, ◌^◌, ◌<◌, ◌≤◌, ℤ, pos, ◌+ℤ◌, unsigned_abs, refl, arith}
use Rattle.std.proofs.lemmas.Int.{ints}
use Rattle.std.proofs.lemmas.Nat.{mul-le}
use Rattle.fl_ops.specs.declared.tally.Tally.{Tally}
use Rattle.fl_ops.specs.Tally.{HasBounds}

-- distinct keys below `key`, and it
keys_small : (key : ℕ) (sum value : ℤ) → unsigned_abs value < 2 ^ 64 → value ≡ pos key → 2 * unsigned_abs sum ≤ key * (key - 1) → unsigned_abs (sum +ℤ value) < 2 ^ 127
keys_small key sum value small is bound =
    let few : key < 2 ^ 64 = omega (arith, ints) in
    let most : key * (key - 1) ≤ (2 ^ 64 - 1) * (2 ^ 64 - 2) = mul-le key (key - 1) (2 ^ 64 - 1) (2 ^ 64 - 2) (omega (arith, few)) (omega (arith, few)) in
    omega (arith, ints)

-- values of eight bytes
values_small : (count : ℕ) (sum value : ℤ) → count < 2 ^ 64 - 1 → unsigned_abs value ≤ 2 ^ 63 → unsigned_abs sum ≤ 2 ^ 63 * count → unsigned_abs (sum +ℤ value) < 2 ^ 127
values_small count sum value few small bound = omega (arith, ints)

pub sum_small : (column key : ℕ) (tally : Tally) (value : ℤ) → HasBounds column key tally → tally.count < 2 ^ 64 - 1 → unsigned_abs value < 2 ^ 64
    → (column ≡ 0 → value ≡ pos key) → (0 < column → unsigned_abs value ≤ 2 ^ 63) → unsigned_abs (tally.sum +ℤ value) < 2 ^ 127
sum_small zero key tally value bounds few small is eight = keys_small key tally.sum value small (is refl) (bounds.keys refl)
sum_small (suc n) key tally value bounds few small is eight =
    let some : 0 < suc n = omega arith in values_small tally.count tally.sum value few (eight some) (bounds.values some)

-- the bounds stay where the end rises
pub HasBounds-later : (column end later : ℕ) (tally : Tally) → end ≤ later → HasBounds column end tally → HasBounds column later tally
HasBounds-later column end later tally rises bounds = record {
  keys = λ is. omega (arith, bounds.keys is, mul-le end (end - 1) later (later - 1) rises (omega (arith, rises)));
  values = bounds.values;
}
