use Rattle.std.proofs.Common.{◌≡◌, ◌*◌, ap, arith}
use Rattle.fl_flash.specs.Flash.{FlashState}
use Rattle.fl_storage_tests.proofs.var_data.told.Goals as goal

pub mount-requires : goal.mount-requires
mount-requires c =
    let geometry = ap (λ (f : FlashState). f.geometry) c.in_ok-flash.ensures in
    let blocks : c.in_ok-flash.flash.blocks ≡ 3 = ap (λ (f : FlashState). f.blocks) c.in_ok-flash.ensures in
    let pages : c.in_ok-flash.flash.blocks * c.in_ok-flash.flash.geometry.block ≡ 6 = ap (λ (f : FlashState). f.blocks * f.geometry.block) c.in_ok-flash.ensures in
    record { lies = c.in_ok-var.ensures.lies _ geometry (omega (arith, blocks)) (omega (arith, pages)) }
