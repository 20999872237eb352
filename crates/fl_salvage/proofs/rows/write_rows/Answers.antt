use Rattle.std.proofs.Common.{◌≡◌, List, ℕ, length, arith, subst, ◌∙◌, le_trans}
use Rattle.std.proofs.lemmas.Result.{err_from_is_err_and}
use Rattle.fl_base.specs.Causes.{Appends, AppendsFront}
use Rattle.fl_page.specs.View.{count_of, rows_of}
use Rattle.fl_schema.specs.Schema.{row_of}
use Rattle.fl_page.proofs.RowsFrom.{length-rows_from}
use Rattle.fl_script.proofs.SinkPieces.{written-err, sent-none}
use Rattle.fl_image.proofs.MediaLooks.{looks-same, looks-then}
use Rattle.fl_salvage.specs.Text.{form_of, row_text}
use Rattle.fl_salvage.proofs.Lines.{item-failed, item-sent, all-sent}
use Rattle.fl_salvage.proofs.MediaOnlyRead.{tells-on, caused-later}
use Rattle.fl_salvage.proofs.rows.write_rows.Goals as goal

pub loop-i-init : goal.loop-i-init
loop-i-init g c = record {
  looks = looks-same _;
  space = c.requires.room;
  later = omega arith;
  far = λ tells. sent-none (g.K.Sink.written c.args.out.now) _;
}

pub returns-in_err-write_row-clause-looks : goal.returns-in_err-write_row-clause-looks
returns-in_err-write_row-clause-looks g c = looks-then _ _ _ c.loop-i.invariant.looks c.write_row.ensures.looks

pub returns-in_err-write_row-clause-writes : goal.returns-in_err-write_row-clause-writes
returns-in_err-write_row-clause-writes g c tells =
    let looks = c.loop-i.invariant.looks in
    let line = row_text (form_of c.args.table.now) (g.M.Media.state c.args.media.now).content in
    let wrote = subst (λ (l : List ℕ). AppendsFront (g.K.Sink.written c.loop-i.out) (g.K.Sink.written c.write_row.new.out) (row_text (form_of c.args.table.now) l (row_of c.row.result))) looks.content
    (c.in_err-write_row.ensures.writes (tells-on _ _ looks tells)) in
    written-err _ _ _ _ c.from_residual.ensures.0
    (item-failed line (rows_of c.args.view.now) c.loop-i.i (row_of c.row.result) _ _ _ c.row.ensures.row (c.loop-i.invariant.far tells) wrote)

pub returns-in_err-write_row-clause-cause : goal.returns-in_err-write_row-clause-cause
returns-in_err-write_row-clause-cause g c =
    let p = err_from_is_err_and c.from_residual.result c.from_residual.ensures.1 in
    rw (p.1, p.2) (caused-later (g.M.Media.state c.args.media.now) (g.M.Media.state c.loop-i.media) (g.M.Media.state c.write_row.new.media) (g.K.Sink.faults c.args.out.now) (g.K.Sink.faults c.loop-i.out) (g.K.Sink.faults c.write_row.new.out) c.in_err-write_row.field-0.0 c.loop-i.invariant.looks c.loop-i.invariant.later c.in_err-write_row.ensures.cause)

pub loop-i-preserved : goal.loop-i-preserved
loop-i-preserved g c =
    let looks = c.loop-i.invariant.looks in
    let line = row_text (form_of c.args.table.now) (g.M.Media.state c.args.media.now).content in
    record {
      looks = looks-then _ _ _ looks c.write_row.ensures.looks;
      space = c.write_row.ensures.room;
      later = omega (arith, c.loop-i.invariant.later, c.write_row.ensures.later);
      far = λ tells.
          let wrote = subst (λ (l : List ℕ). Appends (g.K.Sink.written c.loop-i.out) (g.K.Sink.written c.write_row.new.out) (row_text (form_of c.args.table.now) l (row_of c.row.result))) looks.content
          (c.in_ok-write_row.ensures.writes (tells-on _ _ looks tells)) in
          item-sent line (rows_of c.args.view.now) c.loop-i.i (row_of c.row.result) _ _ _ c.row.ensures.row (c.loop-i.invariant.far tells) wrote;
    }

pub returns-clause-writes : goal.returns-clause-writes
returns-clause-writes g c tells =
    all-sent (row_text (form_of c.args.table.now) (g.M.Media.state c.args.media.now).content) (rows_of c.args.view.now) c.loop-i.i _ _ (let many : length (rows_of c.args.view.now) ≡ count_of c.args.view.now = length-rows_from (count_of c.args.view.now) _ _ in omega (arith, many, c.rows-i-end.ensures, c.loop-i-test.false)) (c.loop-i.invariant.far tells)

pub write_row-requires-clause-room : goal.write_row-requires-clause-room
write_row-requires-clause-room g c = c.loop-i.invariant.space

pub write_row-requires-clause-layout : goal.write_row-requires-clause-layout
write_row-requires-clause-layout g c = c.row.ensures.layout ∙ c.requires.layout

pub returns-in_err-write_row-clause-room : goal.returns-in_err-write_row-clause-room
returns-in_err-write_row-clause-room g c = c.write_row.ensures.room

pub returns-in_err-write_row-clause-later : goal.returns-in_err-write_row-clause-later
returns-in_err-write_row-clause-later g c = le_trans c.loop-i.invariant.later c.write_row.ensures.later

pub returns-clause-looks : goal.returns-clause-looks
returns-clause-looks g c = c.loop-i.invariant.looks

pub returns-clause-room : goal.returns-clause-room
returns-clause-room g c = c.loop-i.invariant.space

pub returns-clause-later : goal.returns-clause-later
returns-clause-later g c = c.loop-i.invariant.later
