use Rattle.std.proofs.Common.{rules, ◌≡◌, ◌∙◌, Some, List, [], sym, ap, subst, le_trans}
use Rattle.std.proofs.lemmas.Bool.{OnTrue_at, OnFalse_at}
use Rattle.std.proofs.lemmas.Result.{err_from_is_err_and}
use Rattle.fl_model.specs.Record.{Record}
use Rattle.fl_model.specs.Row.{Row}
use Rattle.fl_model.specs.Operators.{key_join}
use Rattle.fl_frame.specs.Contents.{Contents, contents_of}
use Rattle.fl_frame.proofs.ContentsInTurn.{OnlyReads-then}
use Rattle.fl_page.specs.Steps.{Ascends}
use Rattle.fl_page.proofs.ReadsInTurn.{IsCaused-later}
use Rattle.fl_ops.specs.Columns.{records_of}
use Rattle.fl_ops.specs.Pairs.{pairs_from}
use Rattle.fl_ops.proofs.Calls.{err-ok, either-then}
use Rattle.fl_ops.proofs.ContinuedRows.{Continues-then}
use Rattle.fl_ops.proofs.Joins.{pairs-fault, pair-equal}
use Rattle.fl_ops.proofs.join.next_pair.Goals as goal

pub step_both-requires-clause-left : goal.step_both-requires-clause-left
step_both-requires-clause-left g c = c.requires.left

pub step_both-requires-clause-right : goal.step_both-requires-clause-right
step_both-requires-clause-right g c = c.requires.right

-- the first rows failed to come

pub returns-in_err-step_both-clause-reads_only : goal.returns-in_err-step_both-clause-reads_only
returns-in_err-step_both-clause-reads_only g c = c.step_both.ensures.reads_only

pub returns-in_err-step_both-clause-left : goal.returns-in_err-step_both-clause-left
returns-in_err-step_both-clause-left g c = c.step_both.ensures.left

pub returns-in_err-step_both-clause-right : goal.returns-in_err-step_both-clause-right
returns-in_err-step_both-clause-right g c = c.step_both.ensures.right

pub returns-in_err-step_both-clause-cause : goal.returns-in_err-step_both-clause-cause
returns-in_err-step_both-clause-cause g c =
    let p = err_from_is_err_and c.from_residual.result c.from_residual.ensures.1 in
    rw (p.1, p.2) c.in_err-step_both.ensures.cause

pub returns-in_err-step_both-clause-bad_page : goal.returns-in_err-step_both-clause-bad_page
returns-in_err-step_both-clause-bad_page g c = λ bad is.
    let p = err_from_is_err_and c.from_residual.result c.from_residual.ensures.1 in
    c.in_err-step_both.ensures.bad_page bad (rw (p.1, p.2) at is)

pub returns-in_err-step_both-clause-left_sound : goal.returns-in_err-step_both-clause-left_sound
returns-in_err-step_both-clause-left_sound g c = rw (err_from_is_err_and c.from_residual.result c.from_residual.ensures.1).1 tt

pub returns-in_err-step_both-clause-right_sound : goal.returns-in_err-step_both-clause-right_sound
returns-in_err-step_both-clause-right_sound g c = rw (err_from_is_err_and c.from_residual.result c.from_residual.ensures.1).1 tt

pub returns-in_err-step_both-clause-all_sound : goal.returns-in_err-step_both-clause-all_sound
returns-in_err-step_both-clause-all_sound g c = rw (err_from_is_err_and c.from_residual.result c.from_residual.ensures.1).1 tt

pub returns-in_err-step_both-clause-here : goal.returns-in_err-step_both-clause-here
returns-in_err-step_both-clause-here g c = rw (err_from_is_err_and c.from_residual.result c.from_residual.ensures.1).1 tt

pub returns-in_err-step_both-clause-steps : goal.returns-in_err-step_both-clause-steps
returns-in_err-step_both-clause-steps g c = λ left right.
    let p = err_from_is_err_and c.from_residual.result c.from_residual.ensures.1 in
    rw (p.1, p.2) (pairs-fault c.in_err-step_both.field-0.0 _ _ _ _ _ _ (c.in_err-step_both.ensures.pairs left right))

pub returns-in_err-step_both-clause-most : goal.returns-in_err-step_both-clause-most
returns-in_err-step_both-clause-most g c = λ left right. rw (err_from_is_err_and c.from_residual.result c.from_residual.ensures.1).1 (c.in_err-step_both.ensures.most left right)

-- one of them has none

pub returns-then-not-branch-clause-reads_only : goal.returns-then-not-branch-clause-reads_only
returns-then-not-branch-clause-reads_only g c = c.step_both.ensures.reads_only

pub returns-then-not-branch-clause-left : goal.returns-then-not-branch-clause-left
returns-then-not-branch-clause-left g c = c.step_both.ensures.left

pub returns-then-not-branch-clause-right : goal.returns-then-not-branch-clause-right
returns-then-not-branch-clause-right g c = c.step_both.ensures.right

pub returns-then-not-branch-clause-bad_page : goal.returns-then-not-branch-clause-bad_page
returns-then-not-branch-clause-bad_page g c = λ bad is. absurd (err-ok (sym is))

pub returns-then-not-branch-clause-left_sound : goal.returns-then-not-branch-clause-left_sound
returns-then-not-branch-clause-left_sound g c = c.in_ok-step_both.ensures.left_sound

pub returns-then-not-branch-clause-right_sound : goal.returns-then-not-branch-clause-right_sound
returns-then-not-branch-clause-right_sound g c = c.in_ok-step_both.ensures.right_sound

pub returns-then-not-branch-clause-most : goal.returns-then-not-branch-clause-most
returns-then-not-branch-clause-most g c = c.in_ok-step_both.ensures.most

pub returns-then-not-branch-clause-all_sound : goal.returns-then-not-branch-clause-all_sound
returns-then-not-branch-clause-all_sound g c = OnFalse_at c.if-not-branch.true c.in_ok-step_both.ensures.all_sound

pub returns-then-not-branch-clause-steps : goal.returns-then-not-branch-clause-steps
returns-then-not-branch-clause-steps g c = λ left right. rw c.if-not-branch.true at c.in_ok-step_both.ensures.pairs left right

-- the rows with the lesser key pass

pub loop-left-init : goal.loop-left-init
loop-left-init g c =
    let here = OnTrue_at c.if-not-branch.false c.in_ok-step_both.ensures.here in
    let keys = OnTrue_at c.if-not-branch.false c.in_ok-step_both.ensures.keys in
    record {
      reads_only = c.step_both.ensures.reads_only;
      left = c.step_both.ensures.left;
      right = c.step_both.ensures.right;
      left_sound = c.in_ok-step_both.ensures.left_sound;
      right_sound = c.in_ok-step_both.ensures.right_sound;
      left_here = here.0;
      right_here = here.1;
      left_key = keys.0;
      right_key = keys.1;
      pairs = λ left right. rw c.if-not-branch.false at c.in_ok-step_both.ensures.pairs left right;
      most = c.in_ok-step_both.ensures.most;
    }

pub row-requires : goal.row-requires
row-requires g c = c.loop-left.invariant.left_here

pub row-requires-in-loop-left : goal.row-requires-in-loop-left
row-requires-in-loop-left g c = c.loop-left.invariant.right_here

pub step_lesser-requires-clause-left : goal.step_lesser-requires-clause-left
step_lesser-requires-clause-left g c =
    let i = c.loop-left.invariant in
    subst (λ (held : Contents). g.A.Rows.ready c.loop-left.left held) (sym i.reads_only.contents) (i.left.stays_ready _ c.requires.left)

pub step_lesser-requires-clause-right : goal.step_lesser-requires-clause-right
step_lesser-requires-clause-right g c =
    let i = c.loop-left.invariant in
    subst (λ (held : Contents). g.B.Rows.ready c.loop-left.right held) (sym i.reads_only.contents) (i.right.stays_ready _ c.requires.right)

pub step_lesser-requires-clause-left_here : goal.step_lesser-requires-clause-left_here
step_lesser-requires-clause-left_here g c = c.loop-left.invariant.left_here

pub step_lesser-requires-clause-right_here : goal.step_lesser-requires-clause-right_here
step_lesser-requires-clause-right_here g c = c.loop-left.invariant.right_here

pub step_lesser-requires-clause-left_key : goal.step_lesser-requires-clause-left_key
step_lesser-requires-clause-left_key g c = c.loop-left.invariant.left_key

pub step_lesser-requires-clause-right_key : goal.step_lesser-requires-clause-right_key
step_lesser-requires-clause-right_key g c = c.loop-left.invariant.right_key

pub step_lesser-requires-clause-differ : goal.step_lesser-requires-clause-differ
step_lesser-requires-clause-differ g c = λ same. c.loop-left-test.true
    (c.key.ensures ∙ ap (λ (row : Row). row.key) c.row.ensures.row ∙ same ∙ sym (ap (λ (row : Row). row.key) c.row-in-loop-left.ensures.row) ∙ sym c.key-in-loop-left.ensures)

pub loop-left-smaller : goal.loop-left-smaller
loop-left-smaller g c = OnTrue_at c.if-not-branch-2.false c.in_ok-step_lesser.ensures.fewer

pub loop-left-preserved : goal.loop-left-preserved
loop-left-preserved g c =
    let i = c.loop-left.invariant in
    let here = OnTrue_at c.if-not-branch-2.false c.in_ok-step_lesser.ensures.here in
    let keys = OnTrue_at c.if-not-branch-2.false c.in_ok-step_lesser.ensures.keys in
    record {
      reads_only = OnlyReads-then _ _ _ i.reads_only c.step_lesser.ensures.reads_only;
      left = Continues-then _ _ _ i.left (rw i.reads_only.contents at c.step_lesser.ensures.left);
      right = Continues-then _ _ _ i.right (rw i.reads_only.contents at c.step_lesser.ensures.right);
      left_sound = λ sound. i.left_sound ((rw i.reads_only.contents at c.in_ok-step_lesser.ensures.left_sound) sound);
      right_sound = λ sound. i.right_sound ((rw i.reads_only.contents at c.in_ok-step_lesser.ensures.right_sound) sound);
      left_here = here.0;
      right_here = here.1;
      left_key = keys.0;
      right_key = keys.1;
      pairs = λ left right.
          let next : pairs_from (g.A.RowHere.present c.loop-left.left) (g.A.Rows.left c.loop-left.left (contents_of (g.F.Flash.state c.args.flash.now))) (g.B.RowHere.present c.loop-left.right) (g.B.Rows.left c.loop-left.right (contents_of (g.F.Flash.state c.args.flash.now)))
          ≡ pairs_from (g.A.RowHere.present c.step_lesser.new.left) (g.A.Rows.left c.step_lesser.new.left (contents_of (g.F.Flash.state c.args.flash.now))) (g.B.RowHere.present c.step_lesser.new.right) (g.B.Rows.left c.step_lesser.new.right (contents_of (g.F.Flash.state c.args.flash.now))) = search rules in
          i.pairs left right ∙ next;
      most = λ left right. le_trans ((rw i.reads_only.contents at c.in_ok-step_lesser.ensures.most) (i.left.stays_told left) (i.right.stays_told right)) (i.most left right);
    }

-- a row failed to come

pub returns-in_err-step_lesser-clause-reads_only : goal.returns-in_err-step_lesser-clause-reads_only
returns-in_err-step_lesser-clause-reads_only g c = OnlyReads-then _ _ _ c.loop-left.invariant.reads_only c.step_lesser.ensures.reads_only

pub returns-in_err-step_lesser-clause-cause : goal.returns-in_err-step_lesser-clause-cause
returns-in_err-step_lesser-clause-cause g c =
    let p = err_from_is_err_and c.from_residual-in_err-step_lesser.result c.from_residual-in_err-step_lesser.ensures.1 in
    rw (p.1, p.2) (IsCaused-later (g.F.Flash.state c.args.flash.now) (g.F.Flash.state c.loop-left.flash) (g.F.Flash.state c.step_lesser.new.flash) c.in_err-step_lesser.field-0.0 c.loop-left.invariant.reads_only c.in_err-step_lesser.ensures.cause)

pub returns-in_err-step_lesser-clause-bad_page : goal.returns-in_err-step_lesser-clause-bad_page
returns-in_err-step_lesser-clause-bad_page g c = λ bad is.
    let p = err_from_is_err_and c.from_residual-in_err-step_lesser.result c.from_residual-in_err-step_lesser.ensures.1 in
    let i = c.loop-left.invariant in
    either-then (i.left.same_test _ bad).0 (i.right.same_test _ bad).0 ((rw i.reads_only.contents at c.in_err-step_lesser.ensures.bad_page) bad (rw (p.1, p.2) at is))

pub returns-in_err-step_lesser-clause-left : goal.returns-in_err-step_lesser-clause-left
returns-in_err-step_lesser-clause-left g c = Continues-then _ _ _ c.loop-left.invariant.left (rw c.loop-left.invariant.reads_only.contents at c.step_lesser.ensures.left)

pub returns-in_err-step_lesser-clause-right : goal.returns-in_err-step_lesser-clause-right
returns-in_err-step_lesser-clause-right g c = Continues-then _ _ _ c.loop-left.invariant.right (rw c.loop-left.invariant.reads_only.contents at c.step_lesser.ensures.right)

pub returns-in_err-step_lesser-clause-left_sound : goal.returns-in_err-step_lesser-clause-left_sound
returns-in_err-step_lesser-clause-left_sound g c = rw (err_from_is_err_and c.from_residual-in_err-step_lesser.result c.from_residual-in_err-step_lesser.ensures.1).1 tt

pub returns-in_err-step_lesser-clause-right_sound : goal.returns-in_err-step_lesser-clause-right_sound
returns-in_err-step_lesser-clause-right_sound g c = rw (err_from_is_err_and c.from_residual-in_err-step_lesser.result c.from_residual-in_err-step_lesser.ensures.1).1 tt

pub returns-in_err-step_lesser-clause-all_sound : goal.returns-in_err-step_lesser-clause-all_sound
returns-in_err-step_lesser-clause-all_sound g c = rw (err_from_is_err_and c.from_residual-in_err-step_lesser.result c.from_residual-in_err-step_lesser.ensures.1).1 tt

pub returns-in_err-step_lesser-clause-here : goal.returns-in_err-step_lesser-clause-here
returns-in_err-step_lesser-clause-here g c = rw (err_from_is_err_and c.from_residual-in_err-step_lesser.result c.from_residual-in_err-step_lesser.ensures.1).1 tt

pub returns-in_err-step_lesser-clause-steps : goal.returns-in_err-step_lesser-clause-steps
returns-in_err-step_lesser-clause-steps g c = λ left right.
    let p = err_from_is_err_and c.from_residual-in_err-step_lesser.result c.from_residual-in_err-step_lesser.ensures.1 in
    let i = c.loop-left.invariant in
    rw (p.1, p.2) (pairs-fault c.in_err-step_lesser.field-0.0 _ _ _ _ _ _ ((rw i.reads_only.contents at c.in_err-step_lesser.ensures.pairs) (i.left.stays_told left) (i.right.stays_told right)))

pub returns-in_err-step_lesser-clause-most : goal.returns-in_err-step_lesser-clause-most
returns-in_err-step_lesser-clause-most g c = λ left right.
    let i = c.loop-left.invariant in
    rw (err_from_is_err_and c.from_residual-in_err-step_lesser.result c.from_residual-in_err-step_lesser.ensures.1).1 (le_trans ((rw i.reads_only.contents at c.in_err-step_lesser.ensures.most) (i.left.stays_told left) (i.right.stays_told right)) (i.most left right))

-- one has no further row

pub returns-then-not-branch-2-clause-reads_only : goal.returns-then-not-branch-2-clause-reads_only
returns-then-not-branch-2-clause-reads_only g c = OnlyReads-then _ _ _ c.loop-left.invariant.reads_only c.step_lesser.ensures.reads_only

pub returns-then-not-branch-2-clause-bad_page : goal.returns-then-not-branch-2-clause-bad_page
returns-then-not-branch-2-clause-bad_page g c = λ bad is. absurd (err-ok (sym is))

pub returns-then-not-branch-2-clause-left : goal.returns-then-not-branch-2-clause-left
returns-then-not-branch-2-clause-left g c = Continues-then _ _ _ c.loop-left.invariant.left (rw c.loop-left.invariant.reads_only.contents at c.step_lesser.ensures.left)

pub returns-then-not-branch-2-clause-right : goal.returns-then-not-branch-2-clause-right
returns-then-not-branch-2-clause-right g c = Continues-then _ _ _ c.loop-left.invariant.right (rw c.loop-left.invariant.reads_only.contents at c.step_lesser.ensures.right)

pub returns-then-not-branch-2-clause-left_sound : goal.returns-then-not-branch-2-clause-left_sound
returns-then-not-branch-2-clause-left_sound g c = λ sound. c.loop-left.invariant.left_sound ((rw c.loop-left.invariant.reads_only.contents at c.in_ok-step_lesser.ensures.left_sound) sound)

pub returns-then-not-branch-2-clause-right_sound : goal.returns-then-not-branch-2-clause-right_sound
returns-then-not-branch-2-clause-right_sound g c = λ sound. c.loop-left.invariant.right_sound ((rw c.loop-left.invariant.reads_only.contents at c.in_ok-step_lesser.ensures.right_sound) sound)

pub returns-then-not-branch-2-clause-all_sound : goal.returns-then-not-branch-2-clause-all_sound
returns-then-not-branch-2-clause-all_sound g c =
    let i = c.loop-left.invariant in
    either-then i.left_sound i.right_sound (rw i.reads_only.contents at (OnFalse_at c.if-not-branch-2.true c.in_ok-step_lesser.ensures.all_sound))

pub returns-then-not-branch-2-clause-steps : goal.returns-then-not-branch-2-clause-steps
returns-then-not-branch-2-clause-steps g c = λ left right.
    let i = c.loop-left.invariant in
    let none : ◌≡◌ {A = List (Record × Record)} (pairs_from (g.A.RowHere.present c.loop-left.left) (g.A.Rows.left c.loop-left.left (contents_of (g.F.Flash.state c.args.flash.now))) (g.B.RowHere.present c.loop-left.right) (g.B.Rows.left c.loop-left.right (contents_of (g.F.Flash.state c.args.flash.now)))) [] = search rules in
    let rest : ◌≡◌ {A = List (Record × Record)} (key_join (records_of (g.A.Rows.left c.step_lesser.new.left (contents_of (g.F.Flash.state c.args.flash.now)))) (records_of (g.B.Rows.left c.step_lesser.new.right (contents_of (g.F.Flash.state c.args.flash.now))))) [] = search rules in
    (i.pairs left right ∙ none, rest)

pub returns-then-not-branch-2-clause-most : goal.returns-then-not-branch-2-clause-most
returns-then-not-branch-2-clause-most g c = λ left right.
    let i = c.loop-left.invariant in
    le_trans ((rw i.reads_only.contents at c.in_ok-step_lesser.ensures.most) (i.left.stays_told left) (i.right.stays_told right)) (i.most left right)

-- both rows have one key

pub returns-clause-reads_only : goal.returns-clause-reads_only
returns-clause-reads_only g c = c.loop-left.invariant.reads_only

pub returns-clause-left : goal.returns-clause-left
returns-clause-left g c = c.loop-left.invariant.left

pub returns-clause-right : goal.returns-clause-right
returns-clause-right g c = c.loop-left.invariant.right

pub returns-clause-left_sound : goal.returns-clause-left_sound
returns-clause-left_sound g c = c.loop-left.invariant.left_sound

pub returns-clause-right_sound : goal.returns-clause-right_sound
returns-clause-right_sound g c = c.loop-left.invariant.right_sound

pub returns-clause-most : goal.returns-clause-most
returns-clause-most g c = c.loop-left.invariant.most

pub returns-clause-bad_page : goal.returns-clause-bad_page
returns-clause-bad_page g c = λ bad is. absurd (err-ok (sym is))

pub returns-clause-here : goal.returns-clause-here
returns-clause-here g c = (c.loop-left.invariant.left_here, c.loop-left.invariant.right_here)

pub returns-clause-steps : goal.returns-clause-steps
returns-clause-steps g c = λ left right.
    let i = c.loop-left.invariant in
    let same : (g.A.RowHere.present c.loop-left.left).key ≡ (g.B.RowHere.present c.loop-left.right).key
    = sym (ap (λ (row : Row). row.key) c.row.ensures.row) ∙ sym c.key.ensures ∙ c.loop-left-test.false ∙ c.key-in-loop-left.ensures ∙ ap (λ (row : Row). row.key) c.row-in-loop-left.ensures.row in
    let ascends : Ascends (Some (g.A.RowHere.present c.loop-left.left).key) (g.A.Rows.left c.loop-left.left (contents_of (g.F.Flash.state c.args.flash.now)))
    = rw i.left_key at (g.met.A.Rows.ascends c.loop-left.left (contents_of (g.F.Flash.state c.args.flash.now)) (i.left.stays_told left)) in
    i.pairs left right
    ∙ pair-equal (g.A.RowHere.present c.loop-left.left) (g.B.RowHere.present c.loop-left.right) _ _ same ascends
