use Rattle.std.proofs.Common.{◌≡◌, Bool, true, nat_lt, sym, ap, arith}
use Rattle.std.specs.Prelude.{max, if◌then◌else◌}
use Rattle.std.proofs.lemmas.Bool.{lt-ltb}
use Rattle.fl_plan.specs.Plan.{blocks_in, plan_of_table}
use Rattle.fl_sizing.specs.Rings.{blocks_for}
use Rattle.fl_sizing.specs.Sizes.{index_pages}
use Rattle.fl_sizing.proofs.sizes.index_blocks.Goals as goal

pub returns-clause-exact : goal.returns-clause-exact
returns-clause-exact c = λ label.
    let plan = plan_of_table label c.args.config.now in
    let size = rw c.in-Some.is at c.requires.index in
    let some : nat_lt 0 (blocks_in c.args.config.now.index) ≡ true = rw c.in-Some.is (lt-ltb 0 c.in-Some.field-0.blocks (omega (arith, size.0))) in
    rw (c.max.ensures, c.blocks_for.ensures.exact, c.index_pages.ensures.exact label, c.from.ensures)
    (sym (ap (λ (b : Bool). if b then max (blocks_for (index_pages plan) plan.geometry.block) 3 else 0) some))
