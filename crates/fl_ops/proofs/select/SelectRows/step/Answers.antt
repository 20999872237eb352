use Rattle.std.proofs.Common.{rules, ◌≡◌, ◌∙◌, true, false, Ok, refl, sym, ap, le_refl, le_trans, lt_of_le_of_lt, subst}
use Rattle.std.proofs.lemmas.Bool.{OnTrue_at, OnFalse_at}
use Rattle.std.proofs.lemmas.Result.{err_from_is_err_and}
use Rattle.fl_model.specs.Record.{RowLayout}
use Rattle.fl_frame.specs.Contents.{Contents}
use Rattle.fl_frame.proofs.ContentsInTurn.{OnlyReads-then, OnlyReads-reads, OnlyReads-same}
use Rattle.fl_page.proofs.ReadsInTurn.{IsCaused-later}
use Rattle.fl_ops.specs.Columns.{HasColumn, row_passes}
use Rattle.fl_ops.specs.Select.{comparison_of}
use Rattle.fl_ops.proofs.Calls.{err-ok, true-false}
use Rattle.fl_ops.proofs.ContinuedRows.{Continues-then, Continues-same}
use Rattle.fl_ops.proofs.Room.{room-less}
use Rattle.fl_ops.proofs.Selections.{select-first, select-past, select-none, select-fault}
use Rattle.fl_ops.proofs.select.SelectRows.step.Goals as goal

pub loop-number-init : goal.loop-number-init
loop-number-init g c = record {
  reads_only = OnlyReads-same _;
  comparison = refl;
  input = Continues-same _;
  ended = λ is. (is, refl);
  sound = λ is. is;
  left = λ told. refl;
  most = λ told. le_refl _;
  least = λ told below. le_refl _;
}

pub step-requires : goal.step-requires
step-requires g c =
    let i = c.loop-number.invariant in
    subst (λ (held : Contents). g.R.Rows.ready c.loop-number.self.rows held) (sym i.reads_only.contents) (i.input.stays_ready _ c.requires)

pub invariant_of-self : goal.invariant_of-self
invariant_of-self g c = record { within = rw c.step.ensures.schema c.loop-number.self.within }

-- the input failed

pub returns-in_err-step-clause-reads_only : goal.returns-in_err-step-clause-reads_only
returns-in_err-step-clause-reads_only g c = OnlyReads-then _ _ _ c.loop-number.invariant.reads_only c.step.ensures.reads_only

pub returns-in_err-step-clause-cause : goal.returns-in_err-step-clause-cause
returns-in_err-step-clause-cause g c =
    let p = err_from_is_err_and c.from_residual.result c.from_residual.ensures.1 in
    rw (p.1, p.2) (IsCaused-later (g.F.Flash.state c.args.flash.now) (g.F.Flash.state c.loop-number.flash) (g.F.Flash.state c.step.new.flash) c.in_err-step.field-0.0 c.loop-number.invariant.reads_only c.in_err-step.ensures.cause)

pub returns-in_err-step-clause-names : goal.returns-in_err-step-clause-names
returns-in_err-step-clause-names g c = c.step.ensures.names ∙ c.loop-number.invariant.input.same_names

pub returns-in_err-step-clause-schema : goal.returns-in_err-step-clause-schema
returns-in_err-step-clause-schema g c = c.step.ensures.schema ∙ c.loop-number.invariant.input.same_schema

pub returns-in_err-step-clause-stays_ready : goal.returns-in_err-step-clause-stays_ready
returns-in_err-step-clause-stays_ready g c = λ contents is. c.step.ensures.stays_ready contents (c.loop-number.invariant.input.stays_ready contents is)

pub returns-in_err-step-clause-here : goal.returns-in_err-step-clause-here
returns-in_err-step-clause-here g c = rw (err_from_is_err_and c.from_residual.result c.from_residual.ensures.1).1 tt

pub returns-in_err-step-clause-key : goal.returns-in_err-step-clause-key
returns-in_err-step-clause-key g c = rw (err_from_is_err_and c.from_residual.result c.from_residual.ensures.1).1 tt

pub returns-in_err-step-clause-never_falls : goal.returns-in_err-step-clause-never_falls
returns-in_err-step-clause-never_falls g c = λ key is. c.loop-number.invariant.input.never_falls key (c.step.ensures.never_falls key is)

pub returns-in_err-step-clause-end : goal.returns-in_err-step-clause-end
returns-in_err-step-clause-end g c = rw (err_from_is_err_and c.from_residual.result c.from_residual.ensures.1).1 tt

pub returns-in_err-step-clause-stays_ended : goal.returns-in_err-step-clause-stays_ended
returns-in_err-step-clause-stays_ended g c = λ ended.
    absurd (err-ok (c.in_err-step.ensures.stays_ended (c.loop-number.invariant.ended ended).0).0)

pub returns-in_err-step-clause-bad_page : goal.returns-in_err-step-clause-bad_page
returns-in_err-step-clause-bad_page g c = λ bad is.
    let p = err_from_is_err_and c.from_residual.result c.from_residual.ensures.1 in
    (c.loop-number.invariant.input.same_test _ bad).0 ((rw c.loop-number.invariant.reads_only.contents at c.in_err-step.ensures.bad_page) bad (rw (p.1, p.2) at is))

pub returns-in_err-step-clause-same_test : goal.returns-in_err-step-clause-same_test
returns-in_err-step-clause-same_test g c = λ contents bad. (
  λ is. (c.loop-number.invariant.input.same_test contents bad).0 ((c.step.ensures.same_test contents bad).0 is),
  λ is. (c.step.ensures.same_test contents bad).1 ((c.loop-number.invariant.input.same_test contents bad).1 is),
)

pub returns-in_err-step-clause-sound : goal.returns-in_err-step-clause-sound
returns-in_err-step-clause-sound g c = rw (err_from_is_err_and c.from_residual.result c.from_residual.ensures.1).1 tt

pub returns-in_err-step-clause-all_sound : goal.returns-in_err-step-clause-all_sound
returns-in_err-step-clause-all_sound g c = rw (err_from_is_err_and c.from_residual.result c.from_residual.ensures.1).1 tt

pub returns-in_err-step-clause-stays_told : goal.returns-in_err-step-clause-stays_told
returns-in_err-step-clause-stays_told g c = λ told.
    (rw c.loop-number.invariant.reads_only.contents at c.step.ensures.stays_told) (c.loop-number.invariant.input.stays_told told)

pub returns-in_err-step-clause-steps : goal.returns-in_err-step-clause-steps
returns-in_err-step-clause-steps g c = λ told.
    let p = err_from_is_err_and c.from_residual.result c.from_residual.ensures.1 in
    let i = c.loop-number.invariant in
    rw (p.1, p.2) (select-fault _ _ c.in_err-step.field-0.0 (g.R.RowHere.present c.step.new.self) _ _ _ i.comparison (i.left told)
    ((rw i.reads_only.contents at c.in_err-step.ensures.steps) (i.input.stays_told told)))

pub returns-in_err-step-clause-most : goal.returns-in_err-step-clause-most
returns-in_err-step-clause-most g c = λ told.
    let i = c.loop-number.invariant in
    rw (err_from_is_err_and c.from_residual.result c.from_residual.ensures.1).1
    (le_trans ((rw i.reads_only.contents at c.in_err-step.ensures.most) (i.input.stays_told told)) (i.most told))

pub returns-in_err-step-clause-least : goal.returns-in_err-step-clause-least
returns-in_err-step-clause-least g c = λ told below. rw (err_from_is_err_and c.from_residual.result c.from_residual.ensures.1).1 tt

pub returns-in_err-step-clause-none_left : goal.returns-in_err-step-clause-none_left
returns-in_err-step-clause-none_left g c = λ told. rw (err_from_is_err_and c.from_residual.result c.from_residual.ensures.1).1 tt

-- a row came

pub row-requires : goal.row-requires
row-requires g c = c.in_ok-step.ensures.here ∙ c.if-branch.true

pub column-number-requires : goal.column-number-requires
column-number-requires g c = subst (λ (layout : RowLayout). HasColumn layout c.loop-number.self.column) (sym (c.row.ensures.schema ∙ c.step.ensures.schema)) c.loop-number.self.within

pub returns-then-compares-clause-reads_only : goal.returns-then-compares-clause-reads_only
returns-then-compares-clause-reads_only g c = OnlyReads-then _ _ _ c.loop-number.invariant.reads_only c.step.ensures.reads_only

pub returns-then-compares-clause-names : goal.returns-then-compares-clause-names
returns-then-compares-clause-names g c = c.step.ensures.names ∙ c.loop-number.invariant.input.same_names

pub returns-then-compares-clause-schema : goal.returns-then-compares-clause-schema
returns-then-compares-clause-schema g c = c.step.ensures.schema ∙ c.loop-number.invariant.input.same_schema

pub returns-then-compares-clause-stays_ready : goal.returns-then-compares-clause-stays_ready
returns-then-compares-clause-stays_ready g c = λ contents is. c.step.ensures.stays_ready contents (c.loop-number.invariant.input.stays_ready contents is)

pub returns-then-compares-clause-never_falls : goal.returns-then-compares-clause-never_falls
returns-then-compares-clause-never_falls g c = λ key is. c.loop-number.invariant.input.never_falls key (c.step.ensures.never_falls key is)

pub returns-then-compares-clause-bad_page : goal.returns-then-compares-clause-bad_page
returns-then-compares-clause-bad_page g c = λ bad is. absurd (err-ok (sym is))

pub returns-then-compares-clause-same_test : goal.returns-then-compares-clause-same_test
returns-then-compares-clause-same_test g c = λ contents bad. (
  λ is. (c.loop-number.invariant.input.same_test contents bad).0 ((c.step.ensures.same_test contents bad).0 is),
  λ is. (c.step.ensures.same_test contents bad).1 ((c.loop-number.invariant.input.same_test contents bad).1 is),
)

pub returns-then-compares-clause-sound : goal.returns-then-compares-clause-sound
returns-then-compares-clause-sound g c = λ sound. c.loop-number.invariant.sound ((rw c.loop-number.invariant.reads_only.contents at c.in_ok-step.ensures.sound) sound)

pub returns-then-compares-clause-stays_told : goal.returns-then-compares-clause-stays_told
returns-then-compares-clause-stays_told g c = λ told.
    (rw c.loop-number.invariant.reads_only.contents at c.step.ensures.stays_told) (c.loop-number.invariant.input.stays_told told)

pub returns-then-compares-clause-most : goal.returns-then-compares-clause-most
returns-then-compares-clause-most g c = λ told.
    let i = c.loop-number.invariant in
    le_trans ((rw i.reads_only.contents at c.in_ok-step.ensures.most) (i.input.stays_told told)) (i.most told)

pub returns-then-compares-clause-least : goal.returns-then-compares-clause-least
returns-then-compares-clause-least g c = λ told below.
    let i = c.loop-number.invariant in
    le_trans (i.least told (lt_of_le_of_lt (OnlyReads-reads _ _ c.step.ensures.reads_only below) below))
    ((rw i.reads_only.contents at c.in_ok-step.ensures.least) (i.input.stays_told told) below)

pub returns-then-compares-clause-here : goal.returns-then-compares-clause-here
returns-then-compares-clause-here g c = c.in_ok-step.ensures.here ∙ c.if-branch.true

pub returns-then-compares-clause-key : goal.returns-then-compares-clause-key
returns-then-compares-clause-key g c =
    let key = OnTrue_at c.if-branch.true c.in_ok-step.ensures.key in
    (key.0, c.loop-number.invariant.input.never_falls _ key.1, key.2)

pub returns-then-compares-clause-stays_ended : goal.returns-then-compares-clause-stays_ended
returns-then-compares-clause-stays_ended g c = λ ended.
    let said = c.in_ok-step.ensures.stays_ended (c.loop-number.invariant.ended ended).0 in
    absurd (true-false (ap Ok c.if-branch.true) said.0)

pub returns-then-compares-clause-steps : goal.returns-then-compares-clause-steps
returns-then-compares-clause-steps g c = λ told.
    let i = c.loop-number.invariant in
    let passes : row_passes (comparison_of c.loop-number.self) (g.R.RowHere.present c.step.new.self) ≡ true = search rules in
    select-first _ _ (g.R.RowHere.present c.step.new.self) _ _ _ i.comparison (i.left told)
    (rw c.if-branch.true at ((rw i.reads_only.contents at c.in_ok-step.ensures.steps) (i.input.stays_told told))) passes

pub loop-number-smaller : goal.loop-number-smaller
loop-number-smaller g c =
    let key = OnTrue_at c.if-branch.true c.in_ok-step.ensures.key in
    room-less _ _ (g.R.RowHere.present c.step.new.self).key key.0 key.1 key.2

pub loop-number-preserved : goal.loop-number-preserved
loop-number-preserved g c =
    let i = c.loop-number.invariant in
    let fails : row_passes (comparison_of c.loop-number.self) (g.R.RowHere.present c.step.new.self) ≡ false = search rules in
    record {
      reads_only = OnlyReads-then _ _ _ i.reads_only c.step.ensures.reads_only;
      comparison = i.comparison;
      input = Continues-then _ _ _ i.input (record {
        same_names = c.step.ensures.names;
        same_schema = c.step.ensures.schema;
        never_falls = c.step.ensures.never_falls;
        stays_ready = c.step.ensures.stays_ready;
        same_test = c.step.ensures.same_test;
        stays_told = rw i.reads_only.contents at c.step.ensures.stays_told;
      });
      ended = λ ended. absurd (true-false (ap Ok c.if-branch.true) (c.in_ok-step.ensures.stays_ended (i.ended ended).0).0);
      sound = λ sound. i.sound ((rw i.reads_only.contents at c.in_ok-step.ensures.sound) sound);
      left = λ told. select-past _ _ (g.R.RowHere.present c.step.new.self) _ _ _ i.comparison (i.left told)
          (rw c.if-branch.true at ((rw i.reads_only.contents at c.in_ok-step.ensures.steps) (i.input.stays_told told))) fails;
      most = λ told. le_trans ((rw i.reads_only.contents at c.in_ok-step.ensures.most) (i.input.stays_told told)) (i.most told);
      least = λ told below. le_trans (i.least told (lt_of_le_of_lt (OnlyReads-reads _ _ c.step.ensures.reads_only below) below))
          ((rw i.reads_only.contents at c.in_ok-step.ensures.least) (i.input.stays_told told) below);
    }

-- no row is left

pub returns-clause-reads_only : goal.returns-clause-reads_only
returns-clause-reads_only g c = OnlyReads-then _ _ _ c.loop-number.invariant.reads_only c.step.ensures.reads_only

pub returns-clause-names : goal.returns-clause-names
returns-clause-names g c = c.step.ensures.names ∙ c.loop-number.invariant.input.same_names

pub returns-clause-schema : goal.returns-clause-schema
returns-clause-schema g c = c.step.ensures.schema ∙ c.loop-number.invariant.input.same_schema

pub returns-clause-stays_ready : goal.returns-clause-stays_ready
returns-clause-stays_ready g c = λ contents is. c.step.ensures.stays_ready contents (c.loop-number.invariant.input.stays_ready contents is)

pub returns-clause-never_falls : goal.returns-clause-never_falls
returns-clause-never_falls g c = λ key is. c.loop-number.invariant.input.never_falls key (c.step.ensures.never_falls key is)

pub returns-clause-bad_page : goal.returns-clause-bad_page
returns-clause-bad_page g c = λ bad is. absurd (err-ok (sym is))

pub returns-clause-same_test : goal.returns-clause-same_test
returns-clause-same_test g c = λ contents bad. (
  λ is. (c.loop-number.invariant.input.same_test contents bad).0 ((c.step.ensures.same_test contents bad).0 is),
  λ is. (c.step.ensures.same_test contents bad).1 ((c.loop-number.invariant.input.same_test contents bad).1 is),
)

pub returns-clause-sound : goal.returns-clause-sound
returns-clause-sound g c = λ sound. c.loop-number.invariant.sound ((rw c.loop-number.invariant.reads_only.contents at c.in_ok-step.ensures.sound) sound)

pub returns-clause-stays_told : goal.returns-clause-stays_told
returns-clause-stays_told g c = λ told.
    (rw c.loop-number.invariant.reads_only.contents at c.step.ensures.stays_told) (c.loop-number.invariant.input.stays_told told)

pub returns-clause-most : goal.returns-clause-most
returns-clause-most g c = λ told.
    let i = c.loop-number.invariant in
    le_trans ((rw i.reads_only.contents at c.in_ok-step.ensures.most) (i.input.stays_told told)) (i.most told)

pub returns-clause-least : goal.returns-clause-least
returns-clause-least g c = λ told below.
    let i = c.loop-number.invariant in
    le_trans (i.least told (lt_of_le_of_lt (OnlyReads-reads _ _ c.step.ensures.reads_only below) below))
    ((rw i.reads_only.contents at c.in_ok-step.ensures.least) (i.input.stays_told told) below)

pub returns-clause-here : goal.returns-clause-here
returns-clause-here g c = c.in_ok-step.ensures.here ∙ c.if-branch.false

pub returns-clause-end : goal.returns-clause-end
returns-clause-end g c = OnFalse_at c.if-branch.false c.in_ok-step.ensures.end

pub returns-clause-stays_ended : goal.returns-clause-stays_ended
returns-clause-stays_ended g c = λ ended.
    let i = c.loop-number.invariant in
    (refl, (c.step.ensures.stays_ended (i.ended ended).0).1 ∙ (i.ended ended).1)

pub returns-clause-all_sound : goal.returns-clause-all_sound
returns-clause-all_sound g c =
    let i = c.loop-number.invariant in
    i.sound (rw i.reads_only.contents at (OnFalse_at c.if-branch.false c.in_ok-step.ensures.all_sound))

pub returns-clause-steps : goal.returns-clause-steps
returns-clause-steps g c = λ told.
    let i = c.loop-number.invariant in
    select-none _ _ _ _ _ i.comparison (i.left told) (rw c.if-branch.false at ((rw i.reads_only.contents at c.in_ok-step.ensures.steps) (i.input.stays_told told)))

pub returns-clause-none_left : goal.returns-clause-none_left
returns-clause-none_left g c = λ told.
    let i = c.loop-number.invariant in
    OnFalse_at c.if-branch.false ((rw i.reads_only.contents at c.in_ok-step.ensures.none_left) (i.input.stays_told told))
