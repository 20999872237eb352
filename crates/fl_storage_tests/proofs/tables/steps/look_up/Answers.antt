use Rattle.std.proofs.Common.{◌∙◌}
use Rattle.fl_frame.proofs.CallsInTurn.{stays, stays-then}
use Rattle.fl_frame.proofs.ContentsInTurn.{OnlyReads-goes}
use Rattle.fl_storage_tests.proofs.tables.steps.look_up.Goals as goal

pub returns-in_err-place-clause-goes : goal.returns-in_err-place-clause-goes
returns-in_err-place-clause-goes g c = stays _ _ (OnlyReads-goes _ _ c.find.ensures.flash.counts)

pub returns-in_err-page-clause-goes : goal.returns-in_err-page-clause-goes
returns-in_err-page-clause-goes g c = stays-then _ _ _ (OnlyReads-goes _ _ c.find.ensures.flash.counts) (OnlyReads-goes _ _ c.page_of.ensures.flash.counts)

pub returns-clause-goes : goal.returns-clause-goes
returns-clause-goes g c = stays-then _ _ _ (OnlyReads-goes _ _ c.find.ensures.flash.counts) (OnlyReads-goes _ _ c.page_of.ensures.flash.counts)

pub returns-in_err-place-clause-lies : goal.returns-in_err-place-clause-lies
returns-in_err-place-clause-lies g c = c.find.ensures.flash.lies

pub returns-in_err-place-clause-room : goal.returns-in_err-place-clause-room
returns-in_err-place-clause-room g c = c.find.ensures.flash.room

pub returns-in_err-page-clause-room : goal.returns-in_err-page-clause-room
returns-in_err-page-clause-room g c = c.page_of.ensures.flash.room ∙ c.find.ensures.flash.room

pub returns-clause-room : goal.returns-clause-room
returns-clause-room g c = c.page_of.ensures.flash.room ∙ c.find.ensures.flash.room
