use Rattle.std.proofs.lemmas.Result.{err_from_is_err_and}
use Rattle.fl_store.proofs.Risen.{has_risen}
use Rattle.fl_store.proofs.Works.{works-watched}
use Rattle.fl_ship.proofs.LastFlush.{flush-done, flush-fails, flush-works, flush-breaks}
use Rattle.fl_ship.proofs.rows.flush_copy.Goals as goal

pub returns-in_err-flush-clause-flushes : goal.returns-in_err-flush-clause-flushes
returns-in_err-flush-clause-flushes g c = λ first plan t works.
    let f = g.B.Flash.state c.args.onto.now in
    let h = g.B.Flash.state c.flush.new.flash in
    let p = err_from_is_err_and c.from_residual.result c.from_residual.ensures.1 in
    rw (p.1, p.2) (flush-fails first plan t c.args.to.now c.flush.new.self f h c.flush.ensures.flash.goes works c.in_err-flush.field-0.0
    (c.in_err-flush.ensures.flush first plan t (has_risen f h) works.device (works-watched first plan t c.args.to.now c.flush.new.self f h works) works.stands))

pub returns-in_err-flush-clause-cut : goal.returns-in_err-flush-clause-cut
returns-in_err-flush-clause-cut g c = λ first plan t rose device w stands.
    let p = err_from_is_err_and c.from_residual.result c.from_residual.ensures.1 in
    rw (p.1, p.2) (flush-breaks first plan t c.args.to.now c.flush.new.self (g.B.Flash.state c.args.onto.now) (g.B.Flash.state c.flush.new.flash) c.flush.ensures.flash.goes rose device c.in_err-flush.field-0.0
    (c.in_err-flush.ensures.flush first plan t rose device w stands))

pub returns-clause-flushes : goal.returns-clause-flushes
returns-clause-flushes g c = λ first plan t works.
    let f = g.B.Flash.state c.args.onto.now in
    let h = g.B.Flash.state c.flush.new.flash in
    flush-done first plan t c.args.to.now c.flush.new.self f h c.flush.ensures.flash.goes works
    (c.in_ok-flush.ensures.flush first plan t (has_risen f h) works.device (works-watched first plan t c.args.to.now c.flush.new.self f h works) works.stands)

pub returns-clause-cut : goal.returns-clause-cut
returns-clause-cut g c = λ first plan t rose device w stands.
    flush-works first plan t c.args.to.now c.flush.new.self (g.B.Flash.state c.args.onto.now) (g.B.Flash.state c.flush.new.flash) c.flush.ensures.flash.goes rose device
    (c.in_ok-flush.ensures.flush first plan t rose device w stands)
