-- The widths of bitmaps.
use Rattle.std.proofs.Common.{◌≡◌, ℕ, ◌/◌, ◌≤◌, ◌==◌, Bool, true, false, ◌||◌, IsTrue, refl, sym, subst, arith}
use Rattle.std.proofs.lemmas.Bool.{eqb-true}
use Rattle.fl_bitmap.specs.Widths.{is_bits}

-- how many bytes a bitmap has
pub widths : (n : ℕ) → IsTrue (is_bits n) → (1 ≤ n / 8) × (n / 8 ≤ 8)
widths n h = by_tests (n == 8) (n == 16) (n == 64) refl refl refl h
  where
    by_tests : (a b c : Bool) → (n == 8) ≡ a → (n == 16) ≡ b → (n == 64) ≡ c → (a || b || c) ≡ true → (1 ≤ n / 8) × (n / 8 ≤ 8)
    by_tests true b c x y z h = let e = eqb-true n 8 x in subst (λ k. (1 ≤ k / 8) × (k / 8 ≤ 8)) (sym e) (omega arith, omega arith)
    by_tests false true c x y z h = let e = eqb-true n 16 y in subst (λ k. (1 ≤ k / 8) × (k / 8 ≤ 8)) (sym e) (omega arith, omega arith)
    by_tests false false true x y z h = let e = eqb-true n 64 z in subst (λ k. (1 ≤ k / 8) × (k / 8 ≤ 8)) (sym e) (omega arith, omega arith)
    by_tests false false false x y z h = cc
