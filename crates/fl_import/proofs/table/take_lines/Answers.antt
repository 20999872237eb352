use Rattle.fl_store.proofs.Called.{err-is}
use Rattle.fl_import.proofs.AllLines.{names-ended, names-ends}
use Rattle.fl_import.proofs.table.take_lines.Goals as goal

pub returns-in_err-take_names-clause-ended : goal.returns-in_err-take_names-clause-ended
returns-in_err-take_names-clause-ended g c = λ text is.
    rw (err-is c.from_residual.result _ c.from_residual.ensures.1) (names-ended c.args.form.columns c.args.form.blobs text (g.S.Source.left c.take_names.new.input) c.in_err-take_names.field-0.0 c.in_err-take_names.ensures.statuses (c.in_err-take_names.ensures.ended text is))

pub returns-in_err-take_names-clause-ends : goal.returns-in_err-take_names-clause-ends
returns-in_err-take_names-clause-ends g c = λ text first plan t is form works.
    rw (err-is c.from_residual.result _ c.from_residual.ensures.1) (names-ends c.args.gone c.args.taken.now c.requires.none c.args.form text c.args.table.now (g.F.Flash.state c.args.flash.now) (g.K.Sink.written c.args.out.now) (g.S.Source.left c.take_names.new.input) first plan t c.in_err-take_names.field-0.0 c.in_err-take_names.ensures.statuses (c.in_err-take_names.ensures.ended text is) form works)

pub returns-clause-ended : goal.returns-clause-ended
returns-clause-ended g c = λ text is. c.put_lines.ensures.ended text c.take_names.new.lines.line (c.in_ok-take_names.ensures.takes text is)

pub returns-clause-ends : goal.returns-clause-ends
returns-clause-ends g c = λ text first plan t is form works. c.put_lines.ensures.ends text c.take_names.new.lines.line first plan t (c.in_ok-take_names.ensures.takes text is) form works
