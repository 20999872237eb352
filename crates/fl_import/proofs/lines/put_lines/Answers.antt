use Rattle.std.proofs.Common.{List, ◌+◌, ℕ, IsTrue, Err, refl, sym, subst, arith, le_trans}
use Rattle.fl_flash.specs.Flash.{page_at}
use Rattle.fl_frame.proofs.WatchedInTurn.{unarmed-then}
use Rattle.fl_frame.proofs.CallsInTurn.{goes-same, goes-then}
use Rattle.fl_store.proofs.Outsides.{outside-then}
use Rattle.fl_store.proofs.CallsInTurn.{same-plan, same-on}
use Rattle.fl_store.proofs.Called.{err-is}
use Rattle.fl_import.specs.Lines.{lacks, meaning}
use Rattle.fl_import.specs.Steps.{LineEnds}
use Rattle.fl_import.proofs.AllLines.{counts-on, so_far-first, far-next, far-stops, far-done, far-ended, ended-done, ended-next, ended-stops}
use Rattle.fl_import.proofs.lines.put_lines.Goals as goal

pub lines-init : goal.lines-init
lines-init g c = record {
  goes = goes-same _;
  same = same-plan c.args.table.now;
  lies = c.requires.lies;
  outside = λ tells page rows index blobs log. refl;
  input = omega arith;
  output = omega arith;
  few = rw c.requires.first (omega (arith, c.requires.most));
  some = rw c.requires.first (omega arith);
  rows = rw c.requires.first (omega arith);
  gone = rw c.requires.first (omega arith);
  far = λ text names takes. rw c.requires.first (so_far-first c.args.gone c.args.form text names c.args.table.now (g.F.Flash.state c.args.flash.now) (g.K.Sink.written c.args.out.now) c.args.lines.now (g.S.Source.left c.args.input.now) takes);
}

pub returns-in_err-next_line-clause-ended : goal.returns-in_err-next_line-clause-ended
returns-in_err-next_line-clause-ended g c = λ text names takes.
    rw (err-is c.from_residual.result _ c.from_residual.ensures.1) (ended-next c.args.gone c.lines.taken c.args.form text c.args.table.now (g.F.Flash.state c.args.flash.now) c.lines.table (g.F.Flash.state c.lines.flash) (g.K.Sink.written c.args.out.now) (g.K.Sink.written c.lines.out) c.lines.lines c.next_line.new.lines (g.S.Source.left c.lines.input) (g.S.Source.left c.next_line.new.input) _ _
    (c.lines.invariant.far text names takes) c.in_err-next_line.field-0.0 c.in_err-next_line.ensures)

pub returns-in_err-next_line-clause-ends : goal.returns-in_err-next_line-clause-ends
returns-in_err-next_line-clause-ends g c = λ text names first plan t takes is works.
    rw (err-is c.from_residual.result _ c.from_residual.ensures.1) (far-ended c.args.gone c.lines.taken c.args.form text c.args.table.now (g.F.Flash.state c.args.flash.now) c.lines.table (g.F.Flash.state c.lines.flash) (g.K.Sink.written c.args.out.now) (g.K.Sink.written c.lines.out) c.lines.lines c.next_line.new.lines (g.S.Source.left c.lines.input) (g.S.Source.left c.next_line.new.input) _ _
    (c.lines.invariant.far text names takes) c.in_err-next_line.field-0.0 c.in_err-next_line.ensures first plan t is works)

pub returns-then-not-branch-clause-ended : goal.returns-then-not-branch-clause-ended
returns-then-not-branch-clause-ended g c = λ text names takes.
    ended-done c.args.gone c.lines.taken c.args.form text c.args.table.now (g.F.Flash.state c.args.flash.now) c.lines.table (g.F.Flash.state c.lines.flash) (g.K.Sink.written c.args.out.now) (g.K.Sink.written c.lines.out) c.lines.lines c.next_line.new.lines (g.S.Source.left c.lines.input) (g.S.Source.left c.next_line.new.input) _ _
    (c.lines.invariant.far text names takes) (rw c.if-not-branch.true at c.in_ok-next_line.ensures)

pub returns-then-not-branch-clause-ends : goal.returns-then-not-branch-clause-ends
returns-then-not-branch-clause-ends g c = λ text names first plan t takes is works.
    far-done c.args.gone c.lines.taken c.args.form text c.args.table.now (g.F.Flash.state c.args.flash.now) c.lines.table (g.F.Flash.state c.lines.flash) (g.K.Sink.written c.args.out.now) (g.K.Sink.written c.lines.out) c.lines.lines c.next_line.new.lines (g.S.Source.left c.lines.input) (g.S.Source.left c.next_line.new.input) _ _
    (c.lines.invariant.far text names takes) (rw c.if-not-branch.true at c.in_ok-next_line.ensures) first plan t is works

pub returns-in_err-end-clause-outside : goal.returns-in_err-end-clause-outside
returns-in_err-end-clause-outside g c = λ tells.
    let i = c.lines.invariant in
    outside-then c.args.table.now c.lines.table (page_at (g.F.Flash.state c.args.flash.now)) (page_at (g.F.Flash.state c.lines.flash)) (page_at (g.F.Flash.state c.put_line.new.flash)) i.same (i.outside tells)
    (c.put_line.ensures.outside (subst IsTrue (sym i.goes.tells) tells))

pub returns-in_err-end-clause-ended : goal.returns-in_err-end-clause-ended
returns-in_err-end-clause-ended g c = λ text names takes.
    rw (err-is c.from_residual-in_err-end.result _ c.from_residual-in_err-end.ensures.1) (ended-stops c.args.gone c.lines.taken c.args.form text c.args.table.now (g.F.Flash.state c.args.flash.now) c.lines.table (g.F.Flash.state c.lines.flash) (g.K.Sink.written c.args.out.now) (g.K.Sink.written c.lines.out) c.lines.lines c.next_line.new.lines (g.S.Source.left c.lines.input) (g.S.Source.left c.next_line.new.input) _ _
    (c.lines.invariant.far text names takes) c.in_err-end.field-0.0 (rw c.if-not-branch.false at c.in_ok-next_line.ensures) c.in_err-end.ensures.statuses)

pub returns-in_err-end-clause-ends : goal.returns-in_err-end-clause-ends
returns-in_err-end-clause-ends g c = λ text names first plan t takes is works.
    let far = c.lines.invariant.far text names takes in
    rw (err-is c.from_residual-in_err-end.result _ c.from_residual-in_err-end.ensures.1) (far-stops c.args.gone c.lines.taken c.args.form text c.args.table.now (g.F.Flash.state c.args.flash.now) c.lines.table (g.F.Flash.state c.lines.flash) (g.K.Sink.written c.args.out.now) (g.K.Sink.written c.lines.out) c.lines.lines c.next_line.new.lines (g.S.Source.left c.lines.input) (g.S.Source.left c.next_line.new.input) _ _
    far c.put_line.new.table (g.F.Flash.state c.put_line.new.flash) (g.K.Sink.written c.put_line.new.out) c.in_err-end.field-0.0 (rw c.if-not-branch.false at c.in_ok-next_line.ensures) (λ first' plan' t' is' works'. subst (λ (l : List ℕ). LineEnds (lacks c.args.gone c.args.form.columns c.args.form.blobs l) first' plan' t' (c.lines.taken.line + 1) (meaning c.args.gone c.args.form.columns c.args.form.blobs l) c.put_line.new.table (g.F.Flash.state c.put_line.new.flash) (g.K.Sink.written c.lines.out) (g.K.Sink.written c.put_line.new.out) (Err c.in_err-end.field-0.0)) c.line.ensures (c.in_err-end.ensures.ends first' plan' t' is' works')) first plan t is works)

pub put_line-requires-clause-unarmed : goal.put_line-requires-clause-unarmed
put_line-requires-clause-unarmed g c = unarmed-then _ _ c.requires.unarmed c.lines.invariant.goes

pub after_end-requires : goal.after_end-requires
after_end-requires g c =
    let i = c.lines.invariant in
    let n = rw c.if-not-branch.false at c.in_ok-next_line.ensures in
    let fewer = n.advances.shrinks n.next.0 in
    (omega (arith, i.few, fewer), omega (arith, i.few, i.rows, fewer), omega (arith, i.few, i.rows, i.gone, fewer))

pub returns-in_err-end-clause-same : goal.returns-in_err-end-clause-same
returns-in_err-end-clause-same g c = same-on _ _ _ c.lines.invariant.same c.put_line.ensures.same

pub lines-preserved : goal.lines-preserved
lines-preserved g c =
    let i = c.lines.invariant in
    let p = c.put_line.ensures in
    let n = rw c.if-not-branch.false at c.in_ok-next_line.ensures in
    let counts = counts-on c.lines.taken c.in_ok-end.end c.after_end.result c.after_end.ensures i.rows i.gone in
    record {
      goes = goes-then _ _ _ i.goes p.goes;
      same = same-on _ _ _ i.same p.same;
      lies = p.lies;
      outside = λ tells. outside-then c.args.table.now c.lines.table (page_at (g.F.Flash.state c.args.flash.now)) (page_at (g.F.Flash.state c.lines.flash)) (page_at (g.F.Flash.state c.put_line.new.flash)) i.same (i.outside tells) (p.outside (subst IsTrue (sym i.goes.tells) tells));
      input = le_trans i.input n.advances.later;
      output = le_trans i.output p.later;
      few = omega (arith, i.few, (n.advances.shrinks n.next.0), counts.0);
      some = omega (arith, counts.0);
      rows = omega (arith, counts.1);
      gone = counts.2;
      far = λ text names takes. far-next c.args.gone c.lines.taken c.args.form text c.args.table.now (g.F.Flash.state c.args.flash.now) c.lines.table (g.F.Flash.state c.lines.flash) (g.K.Sink.written c.args.out.now) (g.K.Sink.written c.lines.out) c.lines.lines c.next_line.new.lines (g.S.Source.left c.lines.input) (g.S.Source.left c.next_line.new.input) _ _
          (i.far text names takes) c.put_line.new.table (g.F.Flash.state c.put_line.new.flash) (g.K.Sink.written c.put_line.new.out) c.in_ok-end.end c.after_end.result n c.after_end.ensures counts.0 (rw c.line.ensures at c.in_ok-end.ensures.ends);
    }

pub returns-in_err-end-clause-goes : goal.returns-in_err-end-clause-goes
returns-in_err-end-clause-goes g c = goes-then _ _ _ c.lines.invariant.goes c.put_line.ensures.goes
