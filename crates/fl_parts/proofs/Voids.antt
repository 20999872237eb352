-- Pages without rows are counted.
use Rattle.std.proofs.Common.{◌≡◌, ℕ, ◌+◌, ◌≤◌, Bool, true, false, cond, ◌==◌, refl, sym, ◌∙◌, ap, arith}
use Rattle.std.proofs.lemmas.Bool.{eqb-true}

-- a page counts as void where it has no rows
pub is-void : (rows before after : ℕ) → rows ≡ 0 → after ≡ before + 1 → after ≡ before + cond (rows == 0) 1 0
is-void rows before after e h = h ∙ ap (λ k. before + cond (k == 0) 1 0) (sym e)

pub not-void : (rows before after : ℕ) → (rows ≡ 0 → ⊥) → after ≡ before → after ≡ before + cond (rows == 0) 1 0
not-void rows before after ne h = by_test (rows == 0) refl
  where
    by_test : (b : Bool) → (rows == 0) ≡ b → after ≡ before + cond b 1 0
    by_test true k = absurd (ne (eqb-true rows 0 k))
    by_test false k = omega (arith, h)

pub voids_few : (rows before after : ℕ) → after ≡ before + cond (rows == 0) 1 0 → after ≤ before + 1
voids_few rows before after h = by_test (rows == 0) h
  where
    by_test : (b : Bool) → after ≡ before + cond b 1 0 → after ≤ before + 1
    by_test true h = omega (arith, h)
    by_test false h = omega (arith, h)
