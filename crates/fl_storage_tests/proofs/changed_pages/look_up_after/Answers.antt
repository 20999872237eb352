use Rattle.std.proofs.Common.{ap, sym, ◌∙◌}
use Rattle.fl_flash.specs.Flash.{FlashState}
use Rattle.fl_table.proofs.ReadsKeepTable.{lies-moved}
use Rattle.fl_storage_tests.proofs.changed_pages.look_up_after.Goals as goal

pub fill-filled-requires-clause-lies : goal.fill-filled-requires-clause-lies
fill-filled-requires-clause-lies c =
    c.in_ok-store.ensures.lies _ (c.in_ok-table.ensures _ (ap (λ (f : FlashState). f.geometry) c.in_ok-flash.ensures) (ap (λ (f : FlashState). f.blocks) c.in_ok-flash.ensures))

pub fill-filled-requires-clause-room : goal.fill-filled-requires-clause-room
fill-filled-requires-clause-room c = c.in_ok-store.ensures.room ∙ sym (ap (λ (f : FlashState). f.geometry.page) c.in_ok-flash.ensures)

pub value_of-value-requires-clause-lies : goal.value_of-value-requires-clause-lies
value_of-value-requires-clause-lies c = lies-moved _ _ _ c.program.ensures.goes c.fill-filled.ensures.lies
