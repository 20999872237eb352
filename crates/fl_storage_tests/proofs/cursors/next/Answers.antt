use Rattle.fl_frame.proofs.ContentsInTurn.{OnlyReads-goes}
use Rattle.fl_table.proofs.ReadsKeepTable.{lies-moved}
use Rattle.fl_storage_tests.proofs.cursors.next.Goals as goal

pub returns-clause-lies : goal.returns-clause-lies
returns-clause-lies g c =
    lies-moved c.args.store.now.table (g.F.Flash.state c.args.flash.now) (g.F.Flash.state c.advance-answer.new.flash)
    (OnlyReads-goes (g.F.Flash.state c.args.flash.now) (g.F.Flash.state c.advance-answer.new.flash) c.advance-answer.ensures.counts) c.requires.lies
