-- What a test tells of a number, a `Bool` or an `Option`.
use Rattle.std.proofs.Common.{◌≡◌, ℕ, ◌+◌, ◌<◌, ◌≤◌, Bool, true, false, cond, ◌&&◌, ◌==◌, IsTrue, Option, None, Some, is_some, refl, ap, pos_of_ne-zero, arith}
use Rattle.std.proofs.lemmas.Bool.{true≢false, false≢true, eqb-false, ne_eqb, cond-false}

pub not_zero : (n : ℕ) → 0 < n → (n == 0) ≡ false
not_zero n some = ne_eqb n 0 (λ z. omega (arith, some, z))

pub zero_case : {X : Type 0} (n : ℕ) → 0 < n → (o : Option X) → cond (n == 0) None o ≡ o
zero_case n some o = cond-false (n == 0) None o (not_zero n some)

pub some_from : (n : ℕ) → (n == 0) ≡ false → 0 < n
some_from n e = pos_of_ne-zero (eqb-false n 0 e)

-- a test counts for at most one, and for no less than one that it follows from
pub one_at_most : (b : Bool) → cond b 1 0 ≤ 1
one_at_most true = omega arith
one_at_most false = omega arith

pub one_fewer : (a b : Bool) → (a ≡ true → b ≡ true) → cond a 1 0 ≤ cond b 1 0
one_fewer true b f = let e : cond {A = ℕ} b 1 0 ≡ 1 = ap (λ x. cond {A = ℕ} x 1 0) (f refl) in omega (arith, e)
one_fewer false b f = omega arith

pub zero_either : (b : Bool) → cond {A = ℕ} b 0 0 ≡ 0
zero_either true = refl
zero_either false = refl

pub not_counted : (b : Bool) (n : ℕ) → cond b 1 0 + n ≡ 0 → b ≡ false
not_counted true n e = absurd (omega (arith, e))
not_counted false n e = refl

pub and_false : (b : Bool) → IsTrue (b && false) → ⊥
and_false true h = false≢true h
and_false false h = false≢true h

pub none_from : {X : Type 0} (o : Option X) → is_some o ≡ false → o ≡ None
none_from None e = refl
none_from (Some x) e = absurd (true≢false e)
