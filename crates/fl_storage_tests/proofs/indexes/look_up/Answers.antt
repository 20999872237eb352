use Rattle.std.proofs.Common.{◌∙◌, sym, ap}
use Rattle.fl_storage_tests.proofs.indexes.look_up.Goals as goal

pub bitmap_of-found-requires-clause-room : goal.bitmap_of-found-requires-clause-room
bitmap_of-found-requires-clause-room g c = c.mount.ensures.room ∙ (c.requires.room ∙ sym (c.push_all.ensures.page ∙ ap (λ x. x.page) c.mount.ensures.goes.geometry))
