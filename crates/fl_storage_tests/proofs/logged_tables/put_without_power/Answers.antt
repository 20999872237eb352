use Rattle.std.proofs.Common.{false, ap, sym, ◌∙◌}
use Rattle.fl_flash.specs.Flash.{FlashState}
use Rattle.fl_frame.proofs.CallsInTurn.{stays-set}
use Rattle.fl_rlc.proofs.Powered.{lies-on}
use Rattle.fl_storage_tests.proofs.logged_tables.put_without_power.Goals as goal

pub mount-mounted-requires-clause-lies : goal.mount-mounted-requires-clause-lies
mount-mounted-requires-clause-lies c =
    c.in_ok-store.ensures.lies _ (ap (λ (f : FlashState). f.geometry) c.in_ok-flash.ensures) (ap (λ (f : FlashState). f.blocks) c.in_ok-flash.ensures)

pub mount-mounted-requires-clause-room : goal.mount-mounted-requires-clause-room
mount-mounted-requires-clause-room c = c.in_ok-store.ensures.room ∙ sym (ap (λ (f : FlashState). f.geometry.page) c.in_ok-flash.ensures)

pub put-lost-requires : goal.put-lost-requires
put-lost-requires c = rw c.power_off.ensures (record { lies = lies-on _ _ _ (stays-set _ false _) c.mount-mounted.ensures.lies })
