use Rattle.std.proofs.Common.{arith, sym, ◌+◌}
use Rattle.fl_spline.proofs.Segments.{estimate-last, estimate-line}
use Rattle.fl_spline.proofs.Window.{spline-window}
use Rattle.fl_spline.proofs.spline.Spline.estimate.Goals as goal

pub returns-then-i-last-clause-value : goal.returns-then-i-last-clause-value
returns-then-i-last-clause-value g c =
    rw c.knot-x.ensures (sym (estimate-last c.args.self.now.knots.items c.args.key c.args.i c.args.self.now.rises c.requires (omega arith)))

pub returns-then-i-last-clause-window : goal.returns-then-i-last-clause-window
returns-then-i-last-clause-window g c = λ error points h.
    spline-window error c.args.key c.args.i c.knot-x.result.1 points c.args.self.now c.args.self.now.rises c.requires (returns-then-i-last-clause-value g c) h

pub overflow_add-result : goal.overflow_add-result
overflow_add-result g c =
    let rise = c.args.self.now.rises c.args.i (c.args.i + 1) (0, 0) (omega arith) (omega (arith, c.requires.within)) in
    omega (arith, rise)

pub returns-clause-value : goal.returns-clause-value
returns-clause-value g c =
    rw (c.share.ensures.value, c.knot-x.ensures, c.knot-next_x.ensures)
    (sym (estimate-line c.args.self.now.knots.items c.args.key c.args.i c.args.self.now.rises c.requires (omega (arith, c.requires.within))))

pub returns-clause-window : goal.returns-clause-window
returns-clause-window g c = λ error points h.
    spline-window error c.args.key c.args.i (c.knot-x.result.1 + c.share.result) points c.args.self.now c.args.self.now.rises c.requires (returns-clause-value g c) h
