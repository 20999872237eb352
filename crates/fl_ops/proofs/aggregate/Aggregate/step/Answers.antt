use Rattle.std.proofs.Common.{rules, ℕ, ◌≡◌, ◌∙◌, ◌<◌, ◌≤◌, ◌+◌, ◌*◌, ◌/◌, ◌^◌, Some, Ok, List, [], ◌∷◌, refl, sym, ap, subst, le_of_eq, le_trans, lt_of_le_of_lt}
use Rattle.std.proofs.lemmas.Bool.{true≢false, OnTrue_at, OnFalse_at}
use Rattle.std.proofs.lemmas.Result.{err_from_is_err_and}
use Rattle.fl_model.specs.Record.{RowLayout}
use Rattle.fl_model.specs.Row.{Row}
use Rattle.fl_model.specs.Operators.{Group, column_of, aggregate}
use Rattle.fl_frame.specs.Contents.{Contents, contents_of}
use Rattle.fl_frame.proofs.ContentsInTurn.{OnlyReads-then, OnlyReads-reads}
use Rattle.fl_page.specs.Steps.{Ascends}
use Rattle.fl_page.proofs.ReadsInTurn.{IsCaused-later}
use Rattle.fl_ops.specs.Columns.{HasColumn, record_of, records_of}
use Rattle.fl_ops.specs.Groups.{group_in}
use Rattle.fl_ops.specs.Tally.{tally_of, tally_more, tallied, HasBounds}
use Rattle.fl_ops.specs.declared.tally.Tally.{Tally}
use Rattle.fl_ops.proofs.AscendingKeys.{Climbs-rows}
use Rattle.fl_ops.proofs.Calls.{bad-alike, both-are, err-ok, true-false}
use Rattle.fl_ops.proofs.ContinuedRows.{Continues-then}
use Rattle.fl_ops.proofs.GroupLists.{take_group, take_group-more, take_group-stop, aggregate-taken}
use Rattle.fl_ops.proofs.GroupSteps.{group-fault, groups-none, ungrouped-none, count-first, count-some, count-more, count-small}
use Rattle.fl_ops.proofs.Room.{next_key, next_key-above, room-less}
use Rattle.fl_ops.proofs.Sums.{HasBounds-later}
use Rattle.fl_ops.proofs.aggregate.Aggregate.step.Goals as goal

pub begin-requires : goal.begin-requires
begin-requires g c = c.requires

-- the first row of the group failed to come

pub returns-in_err-begin-clause-reads_only : goal.returns-in_err-begin-clause-reads_only
returns-in_err-begin-clause-reads_only g c = c.begin.ensures.reads_only

pub returns-in_err-begin-clause-column : goal.returns-in_err-begin-clause-column
returns-in_err-begin-clause-column g c = c.begin.ensures.column

pub returns-in_err-begin-clause-width : goal.returns-in_err-begin-clause-width
returns-in_err-begin-clause-width g c = c.begin.ensures.width

pub returns-in_err-begin-clause-input : goal.returns-in_err-begin-clause-input
returns-in_err-begin-clause-input g c = c.begin.ensures.input

pub returns-in_err-begin-clause-cause : goal.returns-in_err-begin-clause-cause
returns-in_err-begin-clause-cause g c =
    let p = err_from_is_err_and c.from_residual.result c.from_residual.ensures.1 in
    rw (p.1, p.2) c.in_err-begin.ensures.cause

pub returns-in_err-begin-clause-bad_page : goal.returns-in_err-begin-clause-bad_page
returns-in_err-begin-clause-bad_page g c = λ bad is.
    let p = err_from_is_err_and c.from_residual.result c.from_residual.ensures.1 in
    c.in_err-begin.ensures.bad_page bad (bad-alike _ bad (rw (p.1, p.2) at is))

pub returns-in_err-begin-clause-end : goal.returns-in_err-begin-clause-end
returns-in_err-begin-clause-end g c = rw (err_from_is_err_and c.from_residual.result c.from_residual.ensures.1).1 tt

pub returns-in_err-begin-clause-sound : goal.returns-in_err-begin-clause-sound
returns-in_err-begin-clause-sound g c = rw (err_from_is_err_and c.from_residual.result c.from_residual.ensures.1).1 tt

pub returns-in_err-begin-clause-all_sound : goal.returns-in_err-begin-clause-all_sound
returns-in_err-begin-clause-all_sound g c = rw (err_from_is_err_and c.from_residual.result c.from_residual.ensures.1).1 tt

pub returns-in_err-begin-clause-stays_ended : goal.returns-in_err-begin-clause-stays_ended
returns-in_err-begin-clause-stays_ended g c = λ ended none. absurd (err-ok (c.in_err-begin.ensures.stays_ended ended none).0)

pub returns-in_err-begin-clause-steps : goal.returns-in_err-begin-clause-steps
returns-in_err-begin-clause-steps g c = λ told.
    let p = err_from_is_err_and c.from_residual.result c.from_residual.ensures.1 in
    rw (p.1, p.2) (group-fault c.in_err-begin.field-0.0 _ _ _ _ _ (c.in_err-begin.ensures.steps told))

pub returns-in_err-begin-clause-most : goal.returns-in_err-begin-clause-most
returns-in_err-begin-clause-most g c = λ told. rw (err_from_is_err_and c.from_residual.result c.from_residual.ensures.1).1 (c.in_err-begin.ensures.most told)

pub returns-in_err-begin-clause-least : goal.returns-in_err-begin-clause-least
returns-in_err-begin-clause-least g c = λ told below. rw (err_from_is_err_and c.from_residual.result c.from_residual.ensures.1).1 tt

pub returns-in_err-begin-clause-none_left : goal.returns-in_err-begin-clause-none_left
returns-in_err-begin-clause-none_left g c = λ told. rw (err_from_is_err_and c.from_residual.result c.from_residual.ensures.1).1 tt

-- no row is left

pub returns-then-not-branch-clause-reads_only : goal.returns-then-not-branch-clause-reads_only
returns-then-not-branch-clause-reads_only g c = c.begin.ensures.reads_only

pub returns-then-not-branch-clause-column : goal.returns-then-not-branch-clause-column
returns-then-not-branch-clause-column g c = c.begin.ensures.column

pub returns-then-not-branch-clause-width : goal.returns-then-not-branch-clause-width
returns-then-not-branch-clause-width g c = c.begin.ensures.width

pub returns-then-not-branch-clause-input : goal.returns-then-not-branch-clause-input
returns-then-not-branch-clause-input g c = c.begin.ensures.input

pub returns-then-not-branch-clause-bad_page : goal.returns-then-not-branch-clause-bad_page
returns-then-not-branch-clause-bad_page g c = λ bad is. absurd (err-ok (sym is))

pub returns-then-not-branch-clause-end : goal.returns-then-not-branch-clause-end
returns-then-not-branch-clause-end g c = (OnFalse_at c.if-not-branch.true c.in_ok-begin.ensures.end, c.begin.ensures.none_waits)

pub returns-then-not-branch-clause-sound : goal.returns-then-not-branch-clause-sound
returns-then-not-branch-clause-sound g c = c.in_ok-begin.ensures.sound

pub returns-then-not-branch-clause-all_sound : goal.returns-then-not-branch-clause-all_sound
returns-then-not-branch-clause-all_sound g c = OnFalse_at c.if-not-branch.true c.in_ok-begin.ensures.all_sound

pub returns-then-not-branch-clause-stays_ended : goal.returns-then-not-branch-clause-stays_ended
returns-then-not-branch-clause-stays_ended g c = λ ended none. (refl, (c.begin.ensures.stays_ended ended none).1)

pub returns-then-not-branch-clause-steps : goal.returns-then-not-branch-clause-steps
returns-then-not-branch-clause-steps g c = λ told.
    let none = rw c.if-not-branch.true at c.in_ok-begin.ensures.steps told in
    (groups-none _ _ _ none.0, groups-none _ _ _ (ungrouped-none _ (g.R.RowHere.present c.begin.new.self.rows) _ c.begin.ensures.none_waits none.1))

pub returns-then-not-branch-clause-most : goal.returns-then-not-branch-clause-most
returns-then-not-branch-clause-most g c = c.in_ok-begin.ensures.most

pub returns-then-not-branch-clause-least : goal.returns-then-not-branch-clause-least
returns-then-not-branch-clause-least g c = c.in_ok-begin.ensures.least

pub returns-then-not-branch-clause-none_left : goal.returns-then-not-branch-clause-none_left
returns-then-not-branch-clause-none_left g c = λ told. OnFalse_at c.if-not-branch.true (c.in_ok-begin.ensures.none_left told)

-- the first row

pub row-first-requires : goal.row-first-requires
row-first-requires g c = (OnTrue_at c.if-not-branch.false c.in_ok-begin.ensures.here).0

pub group_number-group-requires : goal.group_number-group-requires
group_number-group-requires g c = c.begin.new.self.some_width

pub of_row-tally-requires : goal.of_row-tally-requires
of_row-tally-requires g c = subst (λ (layout : RowLayout). HasColumn layout c.begin.new.self.column) (sym c.row-first.ensures.schema) c.begin.new.self.within

pub loop-self-init : goal.loop-self-init
loop-self-init g c =
    let here = OnTrue_at c.if-not-branch.false c.in_ok-begin.ensures.here in
    let one : c.of_row-tally.result.count ≡ 1 = ap (λ (t : Tally). t.count) c.of_row-tally.ensures.value in
    let from : c.group_number-group.result * c.args.self.now.width ≤ (g.R.RowHere.present c.begin.new.self.rows).key = both-are (λ (row : Row) (width : ℕ). c.group_number-group.result * width ≤ row.key) c.row-first.ensures.row c.begin.ensures.width c.group_number-group.ensures.from in
    record {
      reads_only = c.begin.ensures.reads_only;
      column = c.begin.ensures.column;
      width = c.begin.ensures.width;
      none_waits = c.begin.ensures.none_waits;
      input = c.begin.ensures.input;
      sound = c.in_ok-begin.ensures.sound;
      some = le_of_eq (sym one);
      count = rw here.1 (count-first _ _ _ one from);
      bounds = rw here.1 (both-are (λ (row : Row) (column : ℕ). HasBounds column (row.key + 1) c.of_row-tally.result) c.row-first.ensures.row c.begin.ensures.column c.of_row-tally.ensures.bounds);
      rest = λ told. refl;
      most = c.in_ok-begin.ensures.most;
      least = c.in_ok-begin.ensures.least;
    }

pub step-requires : goal.step-requires
step-requires g c =
    let i = c.loop-self.invariant in
    subst (λ (held : Contents). g.R.Rows.ready c.loop-self.self.rows held) (sym i.reads_only.contents) (i.input.stays_ready _ c.requires)

pub invariant_of-self : goal.invariant_of-self
invariant_of-self g c = record {
  within = rw c.step.ensures.schema c.loop-self.self.within;
  some_width = c.loop-self.self.some_width;
  at_row = λ waits. absurd (true≢false (sym waits ∙ c.loop-self.invariant.none_waits));
  at_key = λ waits. absurd (true≢false (sym waits ∙ c.loop-self.invariant.none_waits));
}

pub invariant_of-self-else-branch : goal.invariant_of-self-else-branch
invariant_of-self-else-branch g c = record {
  within = rw c.step.ensures.schema c.loop-self.self.within;
  some_width = c.loop-self.self.some_width;
  at_row = λ waits. absurd (true≢false (sym waits ∙ c.loop-self.invariant.none_waits));
  at_key = λ waits. absurd (true≢false (sym waits ∙ c.loop-self.invariant.none_waits));
}

pub invariant_of-self-in-loop-self : goal.invariant_of-self-in-loop-self
invariant_of-self-in-loop-self g c = record {
  within = rw c.step.ensures.schema c.loop-self.self.within;
  some_width = c.loop-self.self.some_width;
  at_row = λ waits. absurd (true≢false (sym waits ∙ c.loop-self.invariant.none_waits));
  at_key = λ waits. absurd (true≢false (sym waits ∙ c.loop-self.invariant.none_waits));
}

pub invariant_of-self-then-group_number-group : goal.invariant_of-self-then-group_number-group
invariant_of-self-then-group_number-group g c = record {
  within = rw c.step.ensures.schema c.loop-self.self.within;
  some_width = c.loop-self.self.some_width;
  at_row = λ waits. c.in_ok-step.ensures.here ∙ c.if-branch.true;
  at_key = λ waits. (OnTrue_at c.if-branch.true c.in_ok-step.ensures.key).0;
}

-- a later row failed to come

pub returns-in_err-step-clause-reads_only : goal.returns-in_err-step-clause-reads_only
returns-in_err-step-clause-reads_only g c = OnlyReads-then _ _ _ c.loop-self.invariant.reads_only c.step.ensures.reads_only

pub returns-in_err-step-clause-cause : goal.returns-in_err-step-clause-cause
returns-in_err-step-clause-cause g c =
    let p = err_from_is_err_and c.from_residual-in_err-step.result c.from_residual-in_err-step.ensures.1 in
    rw (p.1, p.2) (IsCaused-later (g.F.Flash.state c.args.flash.now) (g.F.Flash.state c.loop-self.flash) (g.F.Flash.state c.step.new.flash) c.in_err-step.field-0.0 c.loop-self.invariant.reads_only c.in_err-step.ensures.cause)

pub returns-in_err-step-clause-bad_page : goal.returns-in_err-step-clause-bad_page
returns-in_err-step-clause-bad_page g c = λ bad is.
    let p = err_from_is_err_and c.from_residual-in_err-step.result c.from_residual-in_err-step.ensures.1 in
    let i = c.loop-self.invariant in
    (i.input.same_test _ bad).0 ((rw i.reads_only.contents at c.in_err-step.ensures.bad_page) bad (bad-alike _ bad (rw (p.1, p.2) at is)))

pub returns-in_err-step-clause-column : goal.returns-in_err-step-clause-column
returns-in_err-step-clause-column g c = c.loop-self.invariant.column

pub returns-in_err-step-clause-width : goal.returns-in_err-step-clause-width
returns-in_err-step-clause-width g c = c.loop-self.invariant.width

pub returns-in_err-step-clause-input : goal.returns-in_err-step-clause-input
returns-in_err-step-clause-input g c = Continues-then _ _ _ c.loop-self.invariant.input (record {
  same_names = c.step.ensures.names;
  same_schema = c.step.ensures.schema;
  never_falls = c.step.ensures.never_falls;
  stays_ready = c.step.ensures.stays_ready;
  same_test = c.step.ensures.same_test;
  stays_told = rw c.loop-self.invariant.reads_only.contents at c.step.ensures.stays_told;
})

pub returns-in_err-step-clause-end : goal.returns-in_err-step-clause-end
returns-in_err-step-clause-end g c = rw (err_from_is_err_and c.from_residual-in_err-step.result c.from_residual-in_err-step.ensures.1).1 tt

pub returns-in_err-step-clause-sound : goal.returns-in_err-step-clause-sound
returns-in_err-step-clause-sound g c = rw (err_from_is_err_and c.from_residual-in_err-step.result c.from_residual-in_err-step.ensures.1).1 tt

pub returns-in_err-step-clause-all_sound : goal.returns-in_err-step-clause-all_sound
returns-in_err-step-clause-all_sound g c = rw (err_from_is_err_and c.from_residual-in_err-step.result c.from_residual-in_err-step.ensures.1).1 tt

pub returns-in_err-step-clause-stays_ended : goal.returns-in_err-step-clause-stays_ended
returns-in_err-step-clause-stays_ended g c = λ ended none. absurd (true-false (ap Ok c.if-not-branch.false) (c.in_ok-begin.ensures.stays_ended ended none).0)

pub returns-in_err-step-clause-steps : goal.returns-in_err-step-clause-steps
returns-in_err-step-clause-steps g c = λ told.
    let p = err_from_is_err_and c.from_residual-in_err-step.result c.from_residual-in_err-step.ensures.1 in
    let i = c.loop-self.invariant in
    rw (p.1, p.2) (group-fault c.in_err-step.field-0.0 _ _ _ _ _ ((rw i.reads_only.contents at c.in_err-step.ensures.steps) (i.input.stays_told told)))

pub returns-in_err-step-clause-most : goal.returns-in_err-step-clause-most
returns-in_err-step-clause-most g c = λ told.
    let i = c.loop-self.invariant in
    rw (err_from_is_err_and c.from_residual-in_err-step.result c.from_residual-in_err-step.ensures.1).1
    (le_trans ((rw i.reads_only.contents at c.in_err-step.ensures.most) (i.input.stays_told told)) (i.most told))

pub returns-in_err-step-clause-least : goal.returns-in_err-step-clause-least
returns-in_err-step-clause-least g c = λ told below. rw (err_from_is_err_and c.from_residual-in_err-step.result c.from_residual-in_err-step.ensures.1).1 tt

pub returns-in_err-step-clause-none_left : goal.returns-in_err-step-clause-none_left
returns-in_err-step-clause-none_left g c = λ told. rw (err_from_is_err_and c.from_residual-in_err-step.result c.from_residual-in_err-step.ensures.1).1 tt

-- one more row of the group

pub row-row-requires : goal.row-row-requires
row-row-requires g c = c.in_ok-step.ensures.here ∙ c.if-branch.true

pub group_number-requires : goal.group_number-requires
group_number-requires g c = c.loop-self.self.some_width

pub take_row-requires-clause-column : goal.take_row-requires-clause-column
take_row-requires-clause-column g c = subst (λ (layout : RowLayout). HasColumn layout c.loop-self.self.column) (sym (c.row-row.ensures.schema ∙ c.step.ensures.schema)) c.loop-self.self.within

pub take_row-requires-clause-count : goal.take_row-requires-clause-count
take_row-requires-clause-count g c =
    let i = c.loop-self.invariant in
    let later = (OnTrue_at c.if-branch.true c.in_ok-step.ensures.key).1 in
    let to : (g.R.RowHere.present c.step.new.self).key < c.group_number-group.result * c.args.self.now.width + c.args.self.now.width
    = rw c.if-group_number-group.false at (both-are (λ (row : Row) (width : ℕ). row.key < c.group_number.result * width + width) c.row-row.ensures.row i.width c.group_number.ensures.to) in
    let wide : c.loop-self.self.width < 2 ^ 64 = search rules in
    count-small _ _ _ _ _ i.count (next_key-above _ (g.R.RowHere.present c.step.new.self).key later) to (rw i.width at wide)

pub take_row-requires-clause-bounds : goal.take_row-requires-clause-bounds
take_row-requires-clause-bounds g c =
    let i = c.loop-self.invariant in
    let later = (OnTrue_at c.if-branch.true c.in_ok-step.ensures.key).1 in
    both-are (λ (row : Row) (column : ℕ). HasBounds column row.key c.loop-self.tally) (sym c.row-row.ensures.row) (sym i.column)
    (HasBounds-later c.args.self.now.column (next_key (g.R.RowHere.above c.loop-self.self.rows)) (g.R.RowHere.present c.step.new.self).key c.loop-self.tally
    (next_key-above _ (g.R.RowHere.present c.step.new.self).key later) i.bounds)

pub loop-self-smaller : goal.loop-self-smaller
loop-self-smaller g c =
    let key = OnTrue_at c.if-branch.true c.in_ok-step.ensures.key in
    room-less _ _ (g.R.RowHere.present c.step.new.self).key key.0 key.1 key.2

pub loop-self-preserved : goal.loop-self-preserved
loop-self-preserved g c =
    let i = c.loop-self.invariant in
    let key = OnTrue_at c.if-branch.true c.in_ok-step.ensures.key in
    let next = g.R.RowHere.present c.step.new.self in
    let more : c.take_row.new.self.count ≡ c.loop-self.tally.count + 1 = ap (λ (t : Tally). t.count) c.take_row.ensures.value in
    let same : (g.R.RowHere.present c.step.new.self).key / c.args.self.now.width ≡ c.group_number-group.result
    = sym (both-are (λ (row : Row) (width : ℕ). c.group_number.result ≡ row.key / width) c.row-row.ensures.row i.width c.group_number.ensures.number) ∙ c.if-group_number-group.false in
    let taken : c.take_row.new.self ≡ tally_more c.loop-self.tally (column_of (record_of (g.R.RowHere.present c.step.new.self)) c.args.self.now.column)
    = both-are (λ (row : Row) (column : ℕ). c.take_row.new.self ≡ tally_more c.loop-self.tally (column_of (record_of row) column)) c.row-row.ensures.row i.column c.take_row.ensures.value in
    let C = c.args.self.now.column in
    let W = c.args.self.now.width in
    let N = c.group_number-group.result in
    record {
      reads_only = OnlyReads-then _ _ _ i.reads_only c.step.ensures.reads_only;
      column = i.column;
      width = i.width;
      none_waits = i.none_waits;
      input = Continues-then _ _ _ i.input (record {
        same_names = c.step.ensures.names;
        same_schema = c.step.ensures.schema;
        never_falls = c.step.ensures.never_falls;
        stays_ready = c.step.ensures.stays_ready;
        same_test = c.step.ensures.same_test;
        stays_told = rw i.reads_only.contents at c.step.ensures.stays_told;
      });
      sound = λ sound. i.sound ((rw i.reads_only.contents at c.in_ok-step.ensures.sound) sound);
      some = count-some _ _ more;
      count = rw key.0 (count-more _ _ _ _ _ more i.count (next_key-above _ (g.R.RowHere.present c.step.new.self).key key.1));
      bounds = rw key.0 (both-are (λ (row : Row) (column : ℕ). HasBounds column (row.key + 1) c.take_row.new.self) c.row-row.ensures.row i.column c.take_row.ensures.bounds);
      rest = λ told.
          let left : g.R.Rows.left c.loop-self.self.rows (contents_of (g.F.Flash.state c.args.flash.now)) ≡ g.R.RowHere.present c.step.new.self ∷ g.R.Rows.left c.step.new.self (contents_of (g.F.Flash.state c.args.flash.now))
          = rw c.if-branch.true at (rw i.reads_only.contents at c.in_ok-step.ensures.steps) (i.input.stays_told told) in
          let after = records_of (g.R.Rows.left c.step.new.self (contents_of (g.F.Flash.state c.args.flash.now))) in
          ap (λ t. take_group C W N t after) taken
          ∙ sym (take_group-more C W N c.loop-self.tally (record_of next) after same)
          ∙ sym (ap (λ rows. take_group C W N c.loop-self.tally (records_of rows)) left)
          ∙ i.rest told;
      most = λ told. le_trans ((rw i.reads_only.contents at c.in_ok-step.ensures.most) (i.input.stays_told told)) (i.most told);
      least = λ told below. le_trans (i.least told (lt_of_le_of_lt (OnlyReads-reads _ _ c.step.ensures.reads_only below) below))
          ((rw i.reads_only.contents at c.in_ok-step.ensures.least) (i.input.stays_told told) below);
    }

-- a row of the next group came

pub group-requires : goal.group-requires
group-requires g c = c.loop-self.invariant.some

pub returns-then-group_number-group-clause-reads_only : goal.returns-then-group_number-group-clause-reads_only
returns-then-group_number-group-clause-reads_only g c = OnlyReads-then _ _ _ c.loop-self.invariant.reads_only c.step.ensures.reads_only

pub returns-then-group_number-group-clause-bad_page : goal.returns-then-group_number-group-clause-bad_page
returns-then-group_number-group-clause-bad_page g c = λ bad is. absurd (err-ok (sym is))

pub returns-then-group_number-group-clause-column : goal.returns-then-group_number-group-clause-column
returns-then-group_number-group-clause-column g c = c.loop-self.invariant.column

pub returns-then-group_number-group-clause-width : goal.returns-then-group_number-group-clause-width
returns-then-group_number-group-clause-width g c = c.loop-self.invariant.width

pub returns-then-group_number-group-clause-input : goal.returns-then-group_number-group-clause-input
returns-then-group_number-group-clause-input g c = Continues-then _ _ _ c.loop-self.invariant.input (record {
  same_names = c.step.ensures.names;
  same_schema = c.step.ensures.schema;
  never_falls = c.step.ensures.never_falls;
  stays_ready = c.step.ensures.stays_ready;
  same_test = c.step.ensures.same_test;
  stays_told = rw c.loop-self.invariant.reads_only.contents at c.step.ensures.stays_told;
})

pub returns-then-group_number-group-clause-sound : goal.returns-then-group_number-group-clause-sound
returns-then-group_number-group-clause-sound g c = λ sound. c.loop-self.invariant.sound ((rw c.loop-self.invariant.reads_only.contents at c.in_ok-step.ensures.sound) sound)

pub returns-then-group_number-group-clause-stays_ended : goal.returns-then-group_number-group-clause-stays_ended
returns-then-group_number-group-clause-stays_ended g c = λ ended none. absurd (true-false (ap Ok c.if-not-branch.false) (c.in_ok-begin.ensures.stays_ended ended none).0)

pub returns-then-group_number-group-clause-most : goal.returns-then-group_number-group-clause-most
returns-then-group_number-group-clause-most g c = λ told.
    let i = c.loop-self.invariant in
    le_trans ((rw i.reads_only.contents at c.in_ok-step.ensures.most) (i.input.stays_told told)) (i.most told)

pub returns-then-group_number-group-clause-least : goal.returns-then-group_number-group-clause-least
returns-then-group_number-group-clause-least g c = λ told below.
    let i = c.loop-self.invariant in
    le_trans (i.least told (lt_of_le_of_lt (OnlyReads-reads _ _ c.step.ensures.reads_only below) below))
    ((rw i.reads_only.contents at c.in_ok-step.ensures.least) (i.input.stays_told told) below)

pub returns-then-group_number-group-clause-steps : goal.returns-then-group_number-group-clause-steps
returns-then-group_number-group-clause-steps g c = λ told.
    let C = c.args.self.now.column in
    let W = c.args.self.now.width in
    let N = c.group_number-group.result in
    let i = c.loop-self.invariant in
    let first = g.R.RowHere.present c.begin.new.self.rows in
    let rows = g.R.Rows.left c.begin.new.self.rows (contents_of (g.F.Flash.state c.args.flash.now)) in
    let here = OnTrue_at c.if-not-branch.false c.in_ok-begin.ensures.here in
    let ascends : Ascends (Some (g.R.RowHere.present c.begin.new.self.rows).key) (g.R.Rows.left c.begin.new.self.rows (contents_of (g.F.Flash.state c.args.flash.now)))
    = rw here.1 at (g.met.R.Rows.ascends c.begin.new.self.rows (contents_of (g.F.Flash.state c.args.flash.now)) (c.begin.ensures.input.stays_told told)) in
    let before = rw c.if-not-branch.false at c.in_ok-begin.ensures.steps told in
    let number : c.group_number-group.result ≡ (g.R.RowHere.present c.begin.new.self.rows).key / c.args.self.now.width
    = both-are (λ (row : Row) (width : ℕ). c.group_number-group.result ≡ row.key / width) c.row-first.ensures.row c.begin.ensures.width c.group_number-group.ensures.number in
    let tally : c.of_row-tally.result ≡ tally_of (column_of (record_of (g.R.RowHere.present c.begin.new.self.rows)) c.args.self.now.column)
    = both-are (λ (row : Row) (column : ℕ). c.of_row-tally.result ≡ tally_of (column_of (record_of row) column)) c.row-first.ensures.row c.begin.ensures.column c.of_row-tally.ensures.value in
    let next = g.R.RowHere.present c.step.new.self in
    let after = records_of (g.R.Rows.left c.step.new.self (contents_of (g.F.Flash.state c.args.flash.now))) in
    let left : g.R.Rows.left c.loop-self.self.rows (contents_of (g.F.Flash.state c.args.flash.now)) ≡ g.R.RowHere.present c.step.new.self ∷ g.R.Rows.left c.step.new.self (contents_of (g.F.Flash.state c.args.flash.now))
    = rw c.if-branch.true at (rw i.reads_only.contents at c.in_ok-step.ensures.steps) (i.input.stays_told told) in
    let now : c.group_number.result ≡ (g.R.RowHere.present c.step.new.self).key / c.args.self.now.width
    = both-are (λ (row : Row) (width : ℕ). c.group_number.result ≡ row.key / width) c.row-row.ensures.row i.width c.group_number.ensures.number in
    aggregate-taken C W N (record_of first) (records_of rows) _ c.loop-self.tally (record_of next ∷ after) c.args.self.now.some_width (Climbs-rows first.key rows ascends) (ap records_of before) number
    (ap (λ t. take_group C W N t (records_of rows)) (sym tally) ∙ sym (i.rest told) ∙ ap (λ rows. take_group C W N c.loop-self.tally (records_of rows)) left
    ∙ take_group-stop C W N c.loop-self.tally (record_of next) after (λ is. c.if-group_number-group.true (now ∙ is)))
    ∙ ap (λ (k : ℕ). tallied N c.loop-self.tally ∷ aggregate k W (record_of next ∷ after)) (sym i.column)
    ∙ ap (λ (k : ℕ). tallied N c.loop-self.tally ∷ aggregate c.loop-self.self.column k (record_of next ∷ after)) (sym i.width)
    ∙ ap (λ (group : Group). group ∷ aggregate c.loop-self.self.column c.loop-self.self.width (record_of next ∷ after)) (sym c.group.ensures)

-- the rows end in the group

pub group-requires-2 : goal.group-requires-2
group-requires-2 g c = c.loop-self.invariant.some

pub returns-clause-reads_only : goal.returns-clause-reads_only
returns-clause-reads_only g c = OnlyReads-then _ _ _ c.loop-self.invariant.reads_only c.step.ensures.reads_only

pub returns-clause-bad_page : goal.returns-clause-bad_page
returns-clause-bad_page g c = λ bad is. absurd (err-ok (sym is))

pub returns-clause-column : goal.returns-clause-column
returns-clause-column g c = c.loop-self.invariant.column

pub returns-clause-width : goal.returns-clause-width
returns-clause-width g c = c.loop-self.invariant.width

pub returns-clause-input : goal.returns-clause-input
returns-clause-input g c = Continues-then _ _ _ c.loop-self.invariant.input (record {
  same_names = c.step.ensures.names;
  same_schema = c.step.ensures.schema;
  never_falls = c.step.ensures.never_falls;
  stays_ready = c.step.ensures.stays_ready;
  same_test = c.step.ensures.same_test;
  stays_told = rw c.loop-self.invariant.reads_only.contents at c.step.ensures.stays_told;
})

pub returns-clause-sound : goal.returns-clause-sound
returns-clause-sound g c = λ sound. c.loop-self.invariant.sound ((rw c.loop-self.invariant.reads_only.contents at c.in_ok-step.ensures.sound) sound)

pub returns-clause-stays_ended : goal.returns-clause-stays_ended
returns-clause-stays_ended g c = λ ended none. absurd (true-false (ap Ok c.if-not-branch.false) (c.in_ok-begin.ensures.stays_ended ended none).0)

pub returns-clause-most : goal.returns-clause-most
returns-clause-most g c = λ told.
    let i = c.loop-self.invariant in
    le_trans ((rw i.reads_only.contents at c.in_ok-step.ensures.most) (i.input.stays_told told)) (i.most told)

pub returns-clause-least : goal.returns-clause-least
returns-clause-least g c = λ told below.
    let i = c.loop-self.invariant in
    le_trans (i.least told (lt_of_le_of_lt (OnlyReads-reads _ _ c.step.ensures.reads_only below) below))
    ((rw i.reads_only.contents at c.in_ok-step.ensures.least) (i.input.stays_told told) below)

pub returns-clause-steps : goal.returns-clause-steps
returns-clause-steps g c = λ told.
    let C = c.args.self.now.column in
    let W = c.args.self.now.width in
    let N = c.group_number-group.result in
    let i = c.loop-self.invariant in
    let first = g.R.RowHere.present c.begin.new.self.rows in
    let rows = g.R.Rows.left c.begin.new.self.rows (contents_of (g.F.Flash.state c.args.flash.now)) in
    let here = OnTrue_at c.if-not-branch.false c.in_ok-begin.ensures.here in
    let ascends : Ascends (Some (g.R.RowHere.present c.begin.new.self.rows).key) (g.R.Rows.left c.begin.new.self.rows (contents_of (g.F.Flash.state c.args.flash.now)))
    = rw here.1 at (g.met.R.Rows.ascends c.begin.new.self.rows (contents_of (g.F.Flash.state c.args.flash.now)) (c.begin.ensures.input.stays_told told)) in
    let before = rw c.if-not-branch.false at c.in_ok-begin.ensures.steps told in
    let number : c.group_number-group.result ≡ (g.R.RowHere.present c.begin.new.self.rows).key / c.args.self.now.width
    = both-are (λ (row : Row) (width : ℕ). c.group_number-group.result ≡ row.key / width) c.row-first.ensures.row c.begin.ensures.width c.group_number-group.ensures.number in
    let tally : c.of_row-tally.result ≡ tally_of (column_of (record_of (g.R.RowHere.present c.begin.new.self.rows)) c.args.self.now.column)
    = both-are (λ (row : Row) (column : ℕ). c.of_row-tally.result ≡ tally_of (column_of (record_of row) column)) c.row-first.ensures.row c.begin.ensures.column c.of_row-tally.ensures.value in
    let none = rw c.if-branch.false at (rw i.reads_only.contents at c.in_ok-step.ensures.steps) (i.input.stays_told told) in
    aggregate-taken C W N (record_of first) (records_of rows) _ c.loop-self.tally [] c.args.self.now.some_width (Climbs-rows first.key rows ascends) (ap records_of before) number
    (ap (λ t. take_group C W N t (records_of rows)) (sym tally) ∙ sym (i.rest told) ∙ ap (λ rows. take_group C W N c.loop-self.tally (records_of rows)) none.0)
    ∙ ap (λ (group : Group). group ∷ []) (sym c.group-2.ensures)
    ∙ ap (λ (rest : List Group). group_in c.group-2.result ∷ rest) (sym (groups-none _ _ _ (ungrouped-none _ (g.R.RowHere.present c.step.new.self) _ i.none_waits none.1)))
