use Rattle.std.proofs.Common.{ap, sym, ◌∙◌}
use Rattle.fl_flash.specs.Flash.{FlashState}
use Rattle.fl_storage_tests.proofs.cursors.run.Goals as goal

pub answered-done-requires-clause-lies : goal.answered-done-requires-clause-lies
answered-done-requires-clause-lies c =
    c.in_ok-store.ensures.lies _ (c.in_ok-table.ensures _ (ap (λ (f : FlashState). f.geometry) c.in_ok-flash.ensures) (ap (λ (f : FlashState). f.blocks) c.in_ok-flash.ensures))

pub answered-done-requires-clause-rows : goal.answered-done-requires-clause-rows
answered-done-requires-clause-rows c = c.in_ok-store.ensures.rows ∙ sym (ap (λ (f : FlashState). f.geometry.page) c.in_ok-flash.ensures)

pub answered-done-requires-clause-index : goal.answered-done-requires-clause-index
answered-done-requires-clause-index c = c.in_ok-store.ensures.index ∙ sym (ap (λ (f : FlashState). f.geometry.page) c.in_ok-flash.ensures)
