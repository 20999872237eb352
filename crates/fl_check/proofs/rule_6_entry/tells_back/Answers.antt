use Rattle.fl_ring.proofs.Exists.{lies_exists}
use Rattle.std.proofs.Common.{◌∙◌}
use Rattle.std.proofs.lemmas.Result.{err_from_is_err_and}
use Rattle.fl_check.proofs.rule_6_entry.tells_back.Goals as goal

pub look-requires-clause-exists : goal.look-requires-clause-exists
look-requires-clause-exists g c = lies_exists c.args.rows.now (g.F.Flash.state c.args.flash.now) c.page_back-page.result c.requires.lies c.page_back-page.ensures.within

pub returns-in_err-look-clause-reads : goal.returns-in_err-look-clause-reads
returns-in_err-look-clause-reads g c = c.look.ensures.reads

pub returns-in_err-look-clause-room : goal.returns-in_err-look-clause-room
returns-in_err-look-clause-room g c = c.look.ensures.room ∙ c.requires.room

pub returns-in_err-look-clause-fails : goal.returns-in_err-look-clause-fails
returns-in_err-look-clause-fails g c =
    let p = err_from_is_err_and c.from_residual.result c.from_residual.ensures.1 in
    rw (p.1, p.2) c.in_err-look.ensures.fails

pub returns-in_err-look-clause-yes : goal.returns-in_err-look-clause-yes
returns-in_err-look-clause-yes g c =
    let p = err_from_is_err_and c.from_residual.result c.from_residual.ensures.1 in
    rw p.1 tt

pub returns-in_err-look-clause-no : goal.returns-in_err-look-clause-no
returns-in_err-look-clause-no g c =
    let p = err_from_is_err_and c.from_residual.result c.from_residual.ensures.1 in
    rw p.1 tt

pub returns-clause-reads : goal.returns-clause-reads
returns-clause-reads g c = c.look.ensures.reads

pub returns-clause-room : goal.returns-clause-room
returns-clause-room g c = c.look.ensures.room ∙ c.requires.room

pub returns-clause-fails : goal.returns-clause-fails
returns-clause-fails g c = tt
