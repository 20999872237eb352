use Rattle.fl_storage_tests.proofs.cursors.indexed.scan.Goals as goal

pub advance-first-requires : goal.advance-first-requires
advance-first-requires g c = c.begin-cursor.ensures.ready (g.F.Flash.state c.args.flash.now) c.requires.lies c.requires.rows c.requires.index
