use Rattle.std.proofs.Common.{arith, ap, ◌*◌}
use Rattle.fl_flash.specs.Flash.{FlashState}
use Rattle.fl_storage_tests.proofs.indexes.see.Goals as goal

pub look_up-found-requires-clause-lies : goal.look_up-found-requires-clause-lies
look_up-found-requires-clause-lies c =
    let is = c.in_ok-flash.ensures in
    let geometry = ap (λ (f : FlashState). f.geometry) is in
    let blocks = ap (λ (f : FlashState). f.blocks) is in
    c.in_ok-index.ensures.lies _ geometry (omega (arith, blocks)) (omega (arith, blocks, ap (λ (f : FlashState). f.blocks * f.geometry.block) is))
