use Rattle.std.proofs.Common.{◌≡◌, ℕ, ◌+◌, ◌*◌, ◌≤◌, nat_lt, Option, Some, None, IfSome, refl, arith}
use Rattle.std.specs.Prelude.{is_some}
use Rattle.std.proofs.Math.Nat.{mul-le-mul}
use Rattle.std.proofs.lemmas.Bool.Decides.{nat_tests}
use Rattle.fl_base.specs.declared.types.RingPlace.{RingPlace}
use Rattle.fl_plan.specs.Limits.{IsRingSize}
use Rattle.fl_plan.specs.Plan.{blocks_in}
use Rattle.fl_sizing.specs.Sizes.{one_if}
use Rattle.fl_sizing.proofs.sizes.memory.Goals as goal

some-blocks : (place : Option RingPlace) → IfSome place IsRingSize → is_some place ≡ nat_lt 0 (blocks_in place)
some-blocks None few = refl
some-blocks (Some place) few = grind (arith, nat_tests, few.0)

ring-count : (index var log : Option RingPlace) → IfSome index IsRingSize → IfSome var IsRingSize → IfSome log IsRingSize
    → 1 + one_if (is_some index) + one_if (is_some var) + one_if (is_some log) ≡ 1 + one_if (nat_lt 0 (blocks_in index)) + one_if (nat_lt 0 (blocks_in var)) + one_if (nat_lt 0 (blocks_in log))
ring-count index var log i v l = rw (some-blocks index i, some-blocks var v, some-blocks log l) refl

few-bytes : (a b m n : ℕ) → a ≤ m → b ≤ n → a * b ≤ m * n
few-bytes a b m n low high = mul-le-mul {n₁ = a} {m₁ = b} {n₂ = m} {m₂ = n} low high

pub overflow_mul-result : goal.overflow_mul-result
overflow_mul-result c = omega (arith, few-bytes c.page_memory.result c.from.result 229376 256 c.page_memory.ensures.few (omega (arith, c.from.ensures, c.requires.limits.geometry.block_high)))

pub overflow_mul-result-2 : goal.overflow_mul-result-2
overflow_mul-result-2 c = omega (arith, few-bytes c.rings.result c.from-2.result 4 4096 c.rings.ensures.few (omega (arith, c.from-2.ensures, c.requires.limits.geometry.page_high)))

pub overflow_add-result : goal.overflow_add-result
overflow_add-result c =
    omega (
      arith,
      few-bytes c.page_memory.result c.from.result 229376 256 c.page_memory.ensures.few (omega (arith, c.from.ensures, c.requires.limits.geometry.block_high)),
      few-bytes c.rings.result c.from-2.result 4 4096 c.rings.ensures.few (omega (arith, c.from-2.ensures, c.requires.limits.geometry.page_high)),
    )

pub returns-clause-exact : goal.returns-clause-exact
returns-clause-exact c = λ label.
    rw (c.page_memory.ensures.exact, c.from.ensures, c.rings.ensures.exact, c.from-2.ensures, ring-count c.args.config.now.index c.args.config.now.var c.args.log c.requires.limits.index c.requires.limits.var c.requires.log) refl

pub returns-clause-few : goal.returns-clause-few
returns-clause-few c =
    omega (
      arith,
      few-bytes c.page_memory.result c.from.result 229376 256 c.page_memory.ensures.few (omega (arith, c.from.ensures, c.requires.limits.geometry.block_high)),
      few-bytes c.rings.result c.from-2.result 4 4096 c.rings.ensures.few (omega (arith, c.from-2.ensures, c.requires.limits.geometry.page_high)),
    )
