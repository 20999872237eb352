-- What is left by a call of a table that has nothing to do, and what is said of one that may fail.
use Rattle.std.proofs.Common.{◌≡◌, ℕ, ◌+◌, ◌≤◌, false, Option, Some, None, Result, Ok, Err, OnOk, OnErr, IfOk, is_some, arith}
use Rattle.std.specs.Result.{IsErrAnd}
use Rattle.fl_ring.specs.declared.ring.Ring.{Ring}

pub at-most-two : (n k j : ℕ) → n ≤ n + k + j
at-most-two n k j = omega arith

pub at-most-more : (n m k : ℕ) → n ≤ m → n ≤ m + k
at-most-more n m k le = omega (arith, le)

-- a table that isn't running has no ring
pub no-ring : (o : Option Ring) (ring : Ring) → is_some o ≡ false → o ≡ Some ring → ⊥
no-ring None ring e is = cc
no-ring (Some r) ring e is = cc

-- what follows where it didn't fail
pub on-ok : {E : Type 0} (result : Result (Unit {0}) E) (P Q : Type 0) → (P → Q) → OnOk result P → OnOk result Q
on-ok (Ok done) P Q f h = f h
on-ok (Err e) P Q f h = tt

pub on-both : {E : Type 0} (result : Result (Unit {0}) E) (P Q R : Type 0) → (P → Q → R) → OnOk result P → OnOk result Q → OnOk result R
on-both (Ok done) P Q R f p q = f p q
on-both (Err e) P Q R f p q = tt

-- what holds anyway holds where it failed
pub on-err : {T E P : Type 0} (result : Result T E) → P → OnErr result P
on-err (Ok done) h = tt
on-err (Err e) h = h

-- where it failed, nothing is said of what follows
pub no-success : {T E : Type 0} (P : T → Type 0) (Q : E → Type 0) (result : Result T E) → IsErrAnd result Q → IfOk result P
no-success P Q (Ok done) e = absurd e
no-success P Q (Err fault) e = tt
