use Rattle.std.proofs.Common.{◌≡◌, ◌*◌, ap, ◌∙◌, arith}
use Rattle.std.proofs.lemmas.Result.{IfOk-weaker}
use Rattle.fl_flash.specs.Flash.{pages}
use Rattle.fl_storage_tests.proofs.cursors.indexed.indexed_table.Goals as goal

pub returns : goal.returns
returns c =
    IfOk-weaker c.plan.result _ _ (λ t lies f geometry blocks.
    let pages_is : pages f ≡ 11 * 2 = ap (λ n. n * f.geometry.block) blocks ∙ ap (λ g. 11 * g.block) geometry in
    lies f geometry (omega (arith, blocks)) (omega (arith, blocks)) tt (omega (arith, pages_is))) c.plan.ensures.lies
