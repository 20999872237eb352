use Rattle.std.proofs.Common.{◌≡◌, Some, List, ℕ, arith, subst, le_trans}
use Rattle.std.proofs.lemmas.Option.{slice_get-get_or}
use Rattle.std.proofs.lemmas.Result.{err_from_is_err_and}
use Rattle.std.specs.List.{slice_get, slice_index}
use Rattle.fl_base.specs.Causes.{Appends, AppendsFront}
use Rattle.fl_script.proofs.SinkPieces.{written-err, sent-none}
use Rattle.fl_image.proofs.MediaLooks.{looks-same, looks-then}
use Rattle.fl_salvage.specs.Text.{form_of, page_text}
use Rattle.fl_salvage.proofs.Lines.{item-failed, item-sent, all-sent}
use Rattle.fl_salvage.proofs.MediaOnlyRead.{tells-on, caused-later}
use Rattle.fl_salvage.proofs.rows.write_pages.Goals as goal

pub loop-i-init : goal.loop-i-init
loop-i-init g c = record {
  looks = looks-same _;
  rooms = c.requires.rooms;
  later = omega arith;
  far = λ tells. sent-none (g.K.Sink.written c.args.out.now) _;
}

pub returns-in_err-write_page-clause-looks : goal.returns-in_err-write_page-clause-looks
returns-in_err-write_page-clause-looks g c = looks-then _ _ _ c.loop-i.invariant.looks c.write_page.ensures.looks

pub returns-in_err-write_page-clause-writes : goal.returns-in_err-write_page-clause-writes
returns-in_err-write_page-clause-writes g c tells =
    let looks = c.loop-i.invariant.looks in
    let number = slice_index c.args.numbers.now c.loop-i.i in
    let here : slice_get c.args.numbers.now c.loop-i.i ≡ Some (slice_index c.args.numbers.now c.loop-i.i) = slice_get-get_or c.args.numbers.now c.loop-i.i 0 (omega (arith, c.loop-i-test.true)) in
    let wrote = subst (λ (l : List ℕ). AppendsFront (g.K.Sink.written c.loop-i.out) (g.K.Sink.written c.write_page.new.out) (page_text (form_of c.args.table.now) l number)) looks.content
    (c.in_err-write_page.ensures.writes (tells-on _ _ looks tells)) in
    written-err _ _ _ _ c.from_residual.ensures.0
    (item-failed (page_text (form_of c.args.table.now) (g.M.Media.state c.args.media.now).content) c.args.numbers.now c.loop-i.i number _ _ _ here (c.loop-i.invariant.far tells) wrote)

pub returns-in_err-write_page-clause-cause : goal.returns-in_err-write_page-clause-cause
returns-in_err-write_page-clause-cause g c =
    let p = err_from_is_err_and c.from_residual.result c.from_residual.ensures.1 in
    rw (p.1, p.2) (caused-later (g.M.Media.state c.args.media.now) (g.M.Media.state c.loop-i.media) (g.M.Media.state c.write_page.new.media) (g.K.Sink.faults c.args.out.now) (g.K.Sink.faults c.loop-i.out) (g.K.Sink.faults c.write_page.new.out) c.in_err-write_page.field-0.0 c.loop-i.invariant.looks c.loop-i.invariant.later c.in_err-write_page.ensures.cause)

pub loop-i-preserved : goal.loop-i-preserved
loop-i-preserved g c =
    let looks = c.loop-i.invariant.looks in
    record {
      looks = looks-then _ _ _ looks c.write_page.ensures.looks;
      rooms = c.write_page.ensures.rooms;
      later = omega (arith, c.loop-i.invariant.later, c.write_page.ensures.later);
      far = λ tells.
          let number = slice_index c.args.numbers.now c.loop-i.i in
          let here : slice_get c.args.numbers.now c.loop-i.i ≡ Some (slice_index c.args.numbers.now c.loop-i.i) = slice_get-get_or c.args.numbers.now c.loop-i.i 0 (omega (arith, c.loop-i-test.true)) in
          let wrote = subst (λ (l : List ℕ). Appends (g.K.Sink.written c.loop-i.out) (g.K.Sink.written c.write_page.new.out) (page_text (form_of c.args.table.now) l number)) looks.content
          (c.in_ok-write_page.ensures.writes (tells-on _ _ looks tells)) in
          item-sent (page_text (form_of c.args.table.now) (g.M.Media.state c.args.media.now).content) c.args.numbers.now c.loop-i.i number _ _ _ here (c.loop-i.invariant.far tells) wrote;
    }

pub returns-clause-writes : goal.returns-clause-writes
returns-clause-writes g c tells =
    all-sent (page_text (form_of c.args.table.now) (g.M.Media.state c.args.media.now).content) c.args.numbers.now c.loop-i.i _ _ (omega (arith, c.loop-i-test.false)) (c.loop-i.invariant.far tells)

pub write_page-requires : goal.write_page-requires
write_page-requires g c = record { rooms = c.loop-i.invariant.rooms }

pub returns-in_err-write_page-clause-later : goal.returns-in_err-write_page-clause-later
returns-in_err-write_page-clause-later g c = le_trans c.loop-i.invariant.later c.write_page.ensures.later

pub returns-clause-looks : goal.returns-clause-looks
returns-clause-looks g c = c.loop-i.invariant.looks

pub returns-clause-later : goal.returns-clause-later
returns-clause-later g c = c.loop-i.invariant.later
