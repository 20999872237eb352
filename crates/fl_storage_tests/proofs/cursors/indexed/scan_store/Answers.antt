use Rattle.std.proofs.Common.{ap, sym, ◌∙◌}
use Rattle.fl_flash.specs.Flash.{FlashState}
use Rattle.fl_storage_tests.proofs.cursors.indexed.scan_store.Goals as goal

pub fill-requires-clause-lies : goal.fill-requires-clause-lies
fill-requires-clause-lies c =
    c.in_ok-store.ensures.lies _ (c.in_ok-indexed_table.ensures _ (ap (λ (f : FlashState). f.geometry) c.in_ok-flash.ensures) (ap (λ (f : FlashState). f.blocks) c.in_ok-flash.ensures))

pub fill-requires-clause-rows : goal.fill-requires-clause-rows
fill-requires-clause-rows c = c.in_ok-store.ensures.rows ∙ sym (ap (λ (f : FlashState). f.geometry.page) c.in_ok-flash.ensures)

pub fill-requires-clause-index : goal.fill-requires-clause-index
fill-requires-clause-index c = c.in_ok-store.ensures.index ∙ sym (ap (λ (f : FlashState). f.geometry.page) c.in_ok-flash.ensures)
