-- Greater values are in no lower buckets.
use Rattle.std.proofs.Common.{ℕ, ◌/◌, ◌≤◌, arith, le-div_iff_mul-le, div-mul-le_self, le_trans, eq-zero-or-pos, inl, inr, ap}
use Rattle.std.proofs.Math.Nat.{div-zero}
use Rattle.std.proofs.lemmas.Int.{ints}
use Rattle.std.specs.Prelude.{ℤ, pos, negsuc, ◌-ℤ◌, ◌≤ℤ◌}
use Rattle.std.specs.Int.{int_div_euclid}
use Rattle.fl_model.specs.Layout.{clamped}

pub div-le-div : (a b w : ℕ) → a ≤ b → a / w ≤ b / w
div-le-div a b w le =
    elim (eq-zero-or-pos w) [
      | inl none ↦ omega (arith, ap (λ k. a / k) none, div-zero a)
      | inr some ↦ (le-div_iff_mul-le some).1 (le_trans (div-mul-le_self a w) le)
    ]

pub clamped-le : (x y : ℤ) (w most : ℕ) → x ≤ℤ y → clamped (int_div_euclid x (pos w)) most ≤ clamped (int_div_euclid y (pos w)) most
clamped-le (pos a) (pos b) w most le =
    let le_both : a / w ≤ b / w = div-le-div a b w (omega (arith, ints, le)) in
    omega (arith, le_both)
clamped-le (pos a) (negsuc b) w most le = absurd (omega (arith, ints, le))
clamped-le (negsuc a) y w most le = omega arith

pub bucket-le : (x y base : ℤ) (w most : ℕ) → x ≤ℤ y →
    clamped (int_div_euclid (x -ℤ base) (pos w)) most ≤ clamped (int_div_euclid (y -ℤ base) (pos w)) most
bucket-le x y base w most le = clamped-le (x -ℤ base) (y -ℤ base) w most (omega (arith, ints, le))
