use Rattle.std.proofs.Common.{[], refl}
use Rattle.fl_store.proofs.Called.{err-is}
use Rattle.fl_import.proofs.Taken.{taken-none, taken-next, stops-none, stops-next, stops-other, stops-unread}
use Rattle.fl_import.proofs.taking.take_names.Goals as goal

pub returns-in_err-next_line-clause-ended : goal.returns-in_err-next_line-clause-ended
returns-in_err-next_line-clause-ended g c =
    rw (err-is c.from_residual.result _ c.from_residual.ensures.1) (λ text is.
    let n = c.in_err-next_line.ensures in
    let none = taken-none c.args.form.columns c.args.form.blobs text c.args.lines.now (g.S.Source.left c.args.input.now) c.requires.new is in
    stops-next c.args.form.columns c.args.form.blobs text [] c.args.lines.now c.next_line.new.lines (g.S.Source.left c.args.input.now) (g.S.Source.left c.next_line.new.input) _ _ none 1 refl n.given c.in_err-next_line.field-0.0 n.advances n.next)

pub returns-then-not-branch-clause-ended : goal.returns-then-not-branch-clause-ended
returns-then-not-branch-clause-ended g c = λ text is.
    let n = rw c.if-not-branch.true at c.in_ok-next_line.ensures in
    let none = taken-none c.args.form.columns c.args.form.blobs text c.args.lines.now (g.S.Source.left c.args.input.now) c.requires.new is in
    stops-none c.args.form.columns c.args.form.blobs text [] c.args.lines.now c.next_line.new.lines (g.S.Source.left c.args.input.now) (g.S.Source.left c.next_line.new.input) _ _ none (rw n.next.0 at n.advances) 1 refl refl

pub returns-in-Ok-false-clause-ended : goal.returns-in-Ok-false-clause-ended
returns-in-Ok-false-clause-ended g c = λ text is.
    let n = rw c.if-not-branch.false at c.in_ok-next_line.ensures in
    let none = taken-none c.args.form.columns c.args.form.blobs text c.args.lines.now (g.S.Source.left c.args.input.now) c.requires.new is in
    stops-other c.args.form.columns c.args.form.blobs text c.args.lines.now c.next_line.new.lines (g.S.Source.left c.args.input.now) (g.S.Source.left c.next_line.new.input) _ _ none (rw n.next.0 at n.advances) (n.next.1 refl)
    (λ e. (rw (c.without_return.ensures, c.line.ensures, c.in-Ok-false.field-0-test) at c.in-Ok-false.ensures.no) e)

pub returns-in-Err-clause-ended : goal.returns-in-Err-clause-ended
returns-in-Err-clause-ended g c = λ text is.
    let n = rw c.if-not-branch.false at c.in_ok-next_line.ensures in
    let none = taken-none c.args.form.columns c.args.form.blobs text c.args.lines.now (g.S.Source.left c.args.input.now) c.requires.new is in
    stops-unread c.args.form.columns c.args.form.blobs text c.args.lines.now c.next_line.new.lines (g.S.Source.left c.args.input.now) (g.S.Source.left c.next_line.new.input) _ _ none (rw n.next.0 at n.advances) (n.next.1 refl)

pub returns-in-Ok-true-clause-takes : goal.returns-in-Ok-true-clause-takes
returns-in-Ok-true-clause-takes g c = λ text is.
    let n = rw c.if-not-branch.false at c.in_ok-next_line.ensures in
    let none = taken-none c.args.form.columns c.args.form.blobs text c.args.lines.now (g.S.Source.left c.args.input.now) c.requires.new is in
    taken-next c.args.form.columns c.args.form.blobs text [] c.args.lines.now c.next_line.new.lines (g.S.Source.left c.args.input.now) (g.S.Source.left c.next_line.new.input) _ _ none (rw n.next.0 at n.advances) (n.next.1 refl)
    (λ e. rw (c.without_return.ensures, c.line.ensures, c.in-Ok-true.field-0-test) at c.in-Ok-true.ensures.yes)
