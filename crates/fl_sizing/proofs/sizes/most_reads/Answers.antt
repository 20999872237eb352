use Rattle.std.proofs.Common.{◌≡◌, ℕ, ◌+◌, ◌*◌, ◌≤◌, ap, arith}
use Rattle.std.proofs.Math.Nat.{mul-le-mul}
use Rattle.fl_model.specs.Record.{blocks_of}
use Rattle.fl_plan.specs.Limits.{IsWithinLimits}
use Rattle.fl_plan.specs.Plan.{blocks_in, plan_of_table}
use Rattle.fl_plan.specs.Refusal.{nameless}
use Rattle.fl_plan.specs.declared.table_config.TableConfig.{TableConfig}
use Rattle.fl_plan.proofs.Faults.{blocks_in-le}
use Rattle.fl_sizing.proofs.sizes.most_reads.Goals as goal

few_blocks : (config : TableConfig) → IsWithinLimits config → blocks_of (plan_of_table nameless config) ≤ 49152
few_blocks config limits = omega (arith, limits.rows.1, blocks_in-le config.index limits.index, blocks_in-le config.var limits.var)

few_pages : (config : TableConfig) (blocks log per_block : ℕ) → IsWithinLimits config → blocks ≡ blocks_of (plan_of_table nameless config) → log ≤ 16384 → per_block ≡ config.geometry.block → (blocks + log) * per_block ≤ 16777216
few_pages config blocks log per_block limits exact logged same =
    mul-le-mul {n₁ = blocks + log} {m₁ = per_block} {n₂ = 65536} {m₂ = 256} (omega (arith, exact, few_blocks config limits, logged)) (omega (arith, same, limits.geometry.block_high))

pub overflow_add-blocks : goal.overflow_add-blocks
overflow_add-blocks c =
    omega (arith, c.blocks-2.ensures nameless, few_blocks c.args.config.now c.requires.limits, c.log_blocks.ensures.few)

pub overflow_mul-result : goal.overflow_mul-result
overflow_mul-result c =
    omega (arith, few_pages c.args.config.now c.blocks-2.result c.log_blocks.result c.from.result c.requires.limits (c.blocks-2.ensures nameless) c.log_blocks.ensures.few c.from.ensures)

pub overflow_mul-result-2 : goal.overflow_mul-result-2
overflow_mul-result-2 c =
    omega (arith, few_pages c.args.config.now c.blocks-2.result c.log_blocks.result c.from.result c.requires.limits (c.blocks-2.ensures nameless) c.log_blocks.ensures.few c.from.ensures)

pub returns : goal.returns
returns c = λ label.
    let config = c.args.config.now in
    let all : c.blocks-2.result + c.log_blocks.result ≡ config.rows.blocks + blocks_in config.index + blocks_in config.var + blocks_in c.args.log =
    omega (arith, c.blocks-2.ensures label, c.log_blocks.ensures.exact) in
    rw c.from.ensures (ap (λ (blocks : ℕ). 4 * (blocks * config.geometry.block)) all)
