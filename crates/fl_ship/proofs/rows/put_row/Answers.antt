use Rattle.std.proofs.Common.{None, sym, subst}
use Rattle.fl_model.specs.Record.{RowLayout}
use Rattle.fl_model.specs.Row.{FitsRow}
use Rattle.fl_rlc.specs.Refusal.{put_refusal}
use Rattle.fl_schema.specs.Schema.{row_of}
use Rattle.fl_ship.proofs.Numbers.{puts-risen, spent-ring}
use Rattle.fl_ship.proofs.RowsFit.{row-fits, put-spent, put-caused, spent-is}
use Rattle.fl_ship.proofs.rows.put_row.Goals as goal

pub returns-clause-ends : goal.returns-clause-ends
returns-clause-ends g c = λ first plan t rose device watched stands.
    rw (c.key.ensures, c.as_slice.ensures.value, c.values_of-values.ensures) at (c.put.ensures.put first plan t rose device watched stands)

pub returns-clause-cause : goal.returns-clause-cause
returns-clause-cause g c =
    let row = row_of c.args.row.now in
    let fits = subst (λ (layout : RowLayout). FitsRow layout (row_of c.args.row.now)) c.requires.form (row-fits c.args.row.now (λ k. rw (sym c.bytes.ensures) (c.bytes_are_small.ensures k))) in
    put-caused (put_refusal c.args.to.now row.key row.values None) c.put.result (g.B.Flash.state c.args.onto.now) (g.B.Flash.state c.put.new.flash)
    (put-spent c.args.to.now row fits c.requires.running c.requires.above) (rw (c.key.ensures, c.as_slice.ensures.value, c.values_of-values.ensures) at c.put.ensures.exact) c.put.ensures.flash.cause

pub returns-clause-spent : goal.returns-clause-spent
returns-clause-spent g c = λ is.
    let row = row_of c.args.row.now in
    let fits = subst (λ (layout : RowLayout). FitsRow layout (row_of c.args.row.now)) c.requires.form (row-fits c.args.row.now (λ k. rw (sym c.bytes.ensures) (c.bytes_are_small.ensures k))) in
    spent-is (put_refusal c.args.to.now row.key row.values None) c.put.result
    (put-spent c.args.to.now row fits c.requires.running c.requires.above) (rw (c.key.ensures, c.as_slice.ensures.value, c.values_of-values.ensures) at c.put.ensures.exact) is

pub returns-clause-spent_ring : goal.returns-clause-spent_ring
returns-clause-spent_ring g c = λ is.
    let row = row_of c.args.row.now in
    let fits = subst (λ (layout : RowLayout). FitsRow layout (row_of c.args.row.now)) c.requires.form (row-fits c.args.row.now (λ k. rw (sym c.bytes.ensures) (c.bytes_are_small.ensures k))) in
    spent-ring c.args.to.now row fits c.requires.running c.requires.above (returns-clause-spent g c is)

pub returns-clause-numbers : goal.returns-clause-numbers
returns-clause-numbers g c = puts-risen c.args.to.now c.put.new.self _ _ _ _ c.put.result c.put.ensures.memory.stores c.put.ensures.memory.logs
