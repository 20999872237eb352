use Rattle.std.proofs.Common.{◌≡◌, ◌+◌, ◌*◌, ◌≤◌, ap, ◌∙◌, sym, subst, arith}
use Rattle.std.proofs.lemmas.Result.{IfOk-weaker}
use Rattle.std.specs.Prelude.{IfSome}
use Rattle.fl_flash.specs.Flash.{pages}
use Rattle.fl_storage_tests.proofs.logged_tables.table.Goals as goal

pub returns : goal.returns
returns c =
    IfOk-weaker c.plan.result _ _ (λ t lies f geometry blocks.
    let pages_is : pages f ≡ 6 * 4 = ap (λ n. n * f.geometry.block) blocks ∙ ap (λ g. 6 * g.block) geometry in
    lies f geometry (omega (arith, blocks)) tt tt (subst (λ n. IfSome c.args.log (λ place. place.first_block + place.blocks ≤ n)) (sym blocks) c.requires) (omega (arith, pages_is))) c.plan.ensures.lies
