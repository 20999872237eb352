use Rattle.std.proofs.Common.{true, ap, sym, ◌∙◌}
use Rattle.fl_flash.specs.Flash.{FlashState}
use Rattle.fl_frame.proofs.CallsInTurn.{stays-set}
use Rattle.fl_table.proofs.ReadsKeepTable.{lies-moved, lies-powered}
use Rattle.fl_storage_tests.proofs.tables.cut_at.Goals as goal

pub first_wrong-before-requires-clause-lies : goal.first_wrong-before-requires-clause-lies
first_wrong-before-requires-clause-lies c =
    c.in_ok-store.ensures.lies _ (c.in_ok-table.ensures _ (ap (λ (f : FlashState). f.geometry) c.in_ok-flash.ensures) (ap (λ (f : FlashState). f.blocks) c.in_ok-flash.ensures))

pub first_wrong-before-requires-clause-room : goal.first_wrong-before-requires-clause-room
first_wrong-before-requires-clause-room c = c.in_ok-store.ensures.room ∙ sym (ap (λ (f : FlashState). f.geometry.page) c.in_ok-flash.ensures)

pub first_wrong-within-requires-clause-lies : goal.first_wrong-within-requires-clause-lies
first_wrong-within-requires-clause-lies c = rw c.arm.ensures (lies-moved _ _ _ (stays-set _ _ _) c.first_wrong-before.ensures.lies)

pub first_wrong-later-requires-clause-lies : goal.first_wrong-later-requires-clause-lies
first_wrong-later-requires-clause-lies c = rw c.power_on.ensures (lies-powered _ _ true c.first_wrong-within.ensures.lies)
