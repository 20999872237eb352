use Rattle.std.proofs.Common.{ap, sym, ◌∙◌}
use Rattle.fl_flash.specs.Flash.{FlashState}
use Rattle.fl_storage_tests.proofs.logged_tables.run.Goals as goal

pub first_wrong-wrong-requires-clause-lies : goal.first_wrong-wrong-requires-clause-lies
first_wrong-wrong-requires-clause-lies c =
    c.in_ok-store.ensures.lies _ (ap (λ (f : FlashState). f.geometry) c.in_ok-flash.ensures) (ap (λ (f : FlashState). f.blocks) c.in_ok-flash.ensures)

pub first_wrong-wrong-requires-clause-room : goal.first_wrong-wrong-requires-clause-room
first_wrong-wrong-requires-clause-room c = c.in_ok-store.ensures.room ∙ sym (ap (λ (f : FlashState). f.geometry.page) c.in_ok-flash.ensures)
