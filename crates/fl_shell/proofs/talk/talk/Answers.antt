use Rattle.std.proofs.Common.{◌≡◌, ◌^◌, Some, Ok, Err, true, false, sym, ◌∙◌, ap, le_trans, subst}
use Rattle.std.proofs.Math.Nat.{le_refl}
use Rattle.fl_base.specs.declared.stream.SinkFailed.{SinkFailed}
use Rattle.fl_base.proofs.Risen.{rose-back}
use Rattle.fl_frame.proofs.CallsInTurn.{goes-same, stays, stays-then}
use Rattle.fl_session.specs.Execute.{StandsAlike}
use Rattle.fl_words.specs.Grammar.{lines_of}
use Rattle.fl_shell.specs.Caused.{CausedBy, CausedIf}
use Rattle.fl_shell.specs.Input.{InputEnds}
use Rattle.fl_shell.specs.Reading.{AsksNext, rest_in}
use Rattle.fl_shell.specs.Statuses.{IsOfTalk}
use Rattle.fl_shell.specs.Talking.{EndsBy, TalkEnds, with_hand}
use Rattle.fl_shell.specs.Turning.{TurnsIf, command_for}
use Rattle.fl_shell.proofs.CausedLines.{line-answered, line-into, lines-done, lines-failed, lines-first, lines-next}
use Rattle.fl_shell.proofs.TalkLoop.{hand-first, hand-answered, hand-into, between-next, between-done, between-failed}
use Rattle.fl_shell.proofs.FailedReads.{done-read, done-write, reading-rose, reading-talk, reading-write, written-read}
use Rattle.fl_shell.proofs.InputEnds.{input-failed}
use Rattle.fl_shell.proofs.talk.talk.Goals as goal

pub lines-init : goal.lines-init
lines-init g c = record {
  source_later = le_refl _;
  sink_later = le_refl _;
  sound = c.requires.sound;
  goes = stays _ _ (goes-same _);
  input = λ left total told within. (left, told, within);
  told = λ left hand total told within is. lines-first total _ _ c.args.in_hand c.args.lines.now _ left hand told within is;
  talks = λ configured old left hand total makes ready here unread most told within is. hand-first configured old total _ _ _ _ _ _ left hand unread here most told within is;
}

pub returns-in-Err-clause-talks : goal.returns-in-Err-clause-talks
returns-in-Err-clause-talks g c = λ configured old left hand total makes ready here unread most told within is.
    let E = g.E.Executor in
    let K = g.K.Sink in
    let S = g.S.Source in
    let x = c.answer_in_hand.new in
    let f = E.flash c.args.session.now in
    hand-into {E = SinkFailed} configured old (with_hand c.args.in_hand hand (lines_of (rest_in c.args.lines.now left))) total (E.stands c.lines.session configured) (E.stands x.session configured) f.media.content f.media.faults (E.flash c.lines.session) (E.flash x.session)
    (K.written c.args.out.now) (K.written c.lines.out) (K.written x.out) (S.left c.lines.input) c.lines.has_line c.lines.lines (S.left c.lines.input) c.in-Err.field-0
    ready (g.met.E.Executor.tables_hold _ configured) c.answer_in_hand.ensures.goes.faults (c.lines.invariant.talks configured old left hand total makes ready here unread most told within is)
    (λ m stood. subst (λ line. TurnsIf {E = SinkFailed} c.lines.has_line configured m line (command_for line) (E.stands x.session configured) (E.flash c.lines.session) (E.flash x.session) (K.written c.lines.out) (K.written x.out) (Err c.in-Err.field-0)) c.line.ensures
    (c.in-Err.ensures.turn configured m makes stood))

pub lines-preserved : goal.lines-preserved
lines-preserved g c =
    let E = g.E.Executor in
    let K = g.K.Sink in
    let S = g.S.Source in
    let x = c.answer_in_hand.new in
    let n = c.next_line.new in
    let f = E.flash c.args.session.now in
    let given : c.in-Ok-true.field-0 ≡ true = c.in-Ok-true.field-0-test in
    let asks : AsksNext c.lines.lines (S.left c.lines.input) (S.faults c.lines.input) (Ok true) n.lines (S.left n.input) (S.faults n.input) =
    subst (λ b. AsksNext c.lines.lines (S.left c.lines.input) (S.faults c.lines.input) (Ok b) n.lines (S.left n.input) (S.faults n.input)) given c.in-Ok-true.ensures in
    record {
      source_later = le_trans c.lines.invariant.source_later asks.later;
      sink_later = le_trans c.lines.invariant.sink_later c.answer_in_hand.ensures.cause.later;
      sound = c.answer_in_hand.ensures.sound;
      goes = stays-then _ _ _ c.lines.invariant.goes c.answer_in_hand.ensures.goes;
      input = λ left total told within.
          let i = c.lines.invariant.input left total told within in
          let g = asks.gives i.0 i.1 (2 ^ 44) total i.2 in
          (g.0, g.1, g.2.0);
      told = λ left hand total told within is.
          let all = with_hand c.args.in_hand hand (lines_of (rest_in c.args.lines.now left)) in
          lines-next all total (E.state c.args.session.now) (E.state x.session) (K.written c.args.out.now) (K.written x.out) c.lines.lines n.lines (S.left c.lines.input) (S.left n.input) (S.faults c.lines.input) (S.faults n.input)
          (line-answered all total (E.state c.args.session.now) (E.state c.lines.session) (E.state x.session) (K.written c.args.out.now) (K.written c.lines.out) (K.written x.out) c.lines.lines (S.left c.lines.input) c.lines.has_line (c.lines.invariant.told left hand total told within is)
          (subst (λ line. CausedIf {E = SinkFailed} c.lines.has_line line (E.state c.lines.session) (E.state x.session) (K.written c.lines.out) (K.written x.out) (Ok tt)) c.line.ensures c.in-Ok.ensures.told)) asks;
      talks = λ configured old left hand total makes ready here unread most told within is.
          between-next configured old (with_hand c.args.in_hand hand (lines_of (rest_in c.args.lines.now left))) total (E.stands x.session configured) f.media.content f.media.faults (E.flash x.session) (K.written c.args.out.now) (K.written x.out) c.lines.lines n.lines (S.left c.lines.input) (S.left n.input) (S.faults c.lines.input) (S.faults n.input)
          (hand-answered SinkFailed configured old (with_hand c.args.in_hand hand (lines_of (rest_in c.args.lines.now left))) total (E.stands c.lines.session configured) (E.stands x.session configured) f.media.content f.media.faults (E.flash c.lines.session) (E.flash x.session)
          (K.written c.args.out.now) (K.written c.lines.out) (K.written x.out) c.lines.has_line c.lines.lines (S.left c.lines.input) ready (g.met.E.Executor.tables_hold _ configured) c.answer_in_hand.ensures.goes.faults
          (c.lines.invariant.talks configured old left hand total makes ready here unread most told within is)
          (λ m stood. subst (λ line. TurnsIf {E = SinkFailed} c.lines.has_line configured m line (command_for line) (E.stands x.session configured) (E.flash c.lines.session) (E.flash x.session) (K.written c.lines.out) (K.written x.out) (Ok tt)) c.line.ensures (c.in-Ok.ensures.turn configured m makes stood)))
          asks;
    }

pub returns-in-Ok-false-clause-talks : goal.returns-in-Ok-false-clause-talks
returns-in-Ok-false-clause-talks g c = λ configured old left hand total makes ready here unread most told within is.
    let E = g.E.Executor in
    let K = g.K.Sink in
    let S = g.S.Source in
    let x = c.answer_in_hand.new in
    let n = c.next_line.new in
    let f = E.flash c.args.session.now in
    let given : c.in-Ok-false.field-0 ≡ false = c.in-Ok-false.field-0-test in
    let asks : AsksNext c.lines.lines (S.left c.lines.input) (S.faults c.lines.input) (Ok false) n.lines (S.left n.input) (S.faults n.input) =
    subst (λ b. AsksNext c.lines.lines (S.left c.lines.input) (S.faults c.lines.input) (Ok b) n.lines (S.left n.input) (S.faults n.input)) given c.in-Ok-false.ensures in
    between-done configured old (with_hand c.args.in_hand hand (lines_of (rest_in c.args.lines.now left))) total (E.stands x.session configured) f.media.content f.media.faults (E.flash x.session) (K.written c.args.out.now) (K.written x.out) c.lines.lines n.lines (S.left c.lines.input) (S.left n.input) (S.faults c.lines.input) (S.faults n.input)
    (hand-answered SinkFailed configured old (with_hand c.args.in_hand hand (lines_of (rest_in c.args.lines.now left))) total (E.stands c.lines.session configured) (E.stands x.session configured) f.media.content f.media.faults (E.flash c.lines.session) (E.flash x.session)
    (K.written c.args.out.now) (K.written c.lines.out) (K.written x.out) c.lines.has_line c.lines.lines (S.left c.lines.input) ready (g.met.E.Executor.tables_hold _ configured) c.answer_in_hand.ensures.goes.faults
    (c.lines.invariant.talks configured old left hand total makes ready here unread most told within is)
    (λ m stood. subst (λ line. TurnsIf {E = SinkFailed} c.lines.has_line configured m line (command_for line) (E.stands x.session configured) (E.flash c.lines.session) (E.flash x.session) (K.written c.lines.out) (K.written x.out) (Ok tt)) c.line.ensures (c.in-Ok.ensures.turn configured m makes stood)))
    asks

pub returns-in-Err-next_line-clause-talks : goal.returns-in-Err-next_line-clause-talks
returns-in-Err-next_line-clause-talks g c = λ configured old left hand total makes ready here unread most told within is.
    let E = g.E.Executor in
    let K = g.K.Sink in
    let S = g.S.Source in
    let x = c.answer_in_hand.new in
    let n = c.next_line.new in
    let f = E.flash c.args.session.now in
    let all = with_hand c.args.in_hand hand (lines_of (rest_in c.args.lines.now left)) in
    let failed =
    between-failed configured old all total (E.stands x.session configured) f.media.content f.media.faults (E.flash x.session) (K.written c.args.out.now) (K.written x.out) c.lines.lines n.lines (S.left c.lines.input) (S.left n.input) (S.faults c.lines.input) (S.faults n.input) c.in-Err-next_line.fault
    (hand-answered SinkFailed configured old all total (E.stands c.lines.session configured) (E.stands x.session configured) f.media.content f.media.faults (E.flash c.lines.session) (E.flash x.session)
    (K.written c.args.out.now) (K.written c.lines.out) (K.written x.out) c.lines.has_line c.lines.lines (S.left c.lines.input) ready (g.met.E.Executor.tables_hold _ configured) c.answer_in_hand.ensures.goes.faults
    (c.lines.invariant.talks configured old left hand total makes ready here unread most told within is)
    (λ m stood. subst (λ line. TurnsIf {E = SinkFailed} c.lines.has_line configured m line (command_for line) (E.stands x.session configured) (E.flash c.lines.session) (E.flash x.session) (K.written c.lines.out) (K.written x.out) (Ok tt)) c.line.ensures (c.in-Ok.ensures.turn configured m makes stood)))
    c.in-Err-next_line.ensures in
    let f' = E.flash x.session in
    subst (λ status. TalkEnds configured old all total (StandsAlike (E.stands x.session configured)) f.media.content f'.media.content f.media.faults f'.media.faults (K.written c.args.out.now) (K.written x.out) (S.left n.input) status) (sym c.status_of.ensures) failed

pub returns-in-Err-clause-input : goal.returns-in-Err-clause-input
returns-in-Err-clause-input g c = λ left total told within. tt

pub returns-in-Ok-false-clause-input : goal.returns-in-Ok-false-clause-input
returns-in-Ok-false-clause-input g c = λ left total told within.
    let S = g.S.Source in
    let n = c.next_line.new in
    let given : c.in-Ok-false.field-0 ≡ false = c.in-Ok-false.field-0-test in
    let asks : AsksNext c.lines.lines (S.left c.lines.input) (S.faults c.lines.input) (Ok false) n.lines (S.left n.input) (S.faults n.input) =
    subst (λ b. AsksNext c.lines.lines (S.left c.lines.input) (S.faults c.lines.input) (Ok b) n.lines (S.left n.input) (S.faults n.input)) given c.in-Ok-false.ensures in
    let i = c.lines.invariant.input left total told within in
    let end = asks.gives i.0 i.1 (2 ^ 44) total i.2 in
    end.1 ∙ ap Some end.2.1

pub returns-in-Err-next_line-clause-input : goal.returns-in-Err-next_line-clause-input
returns-in-Err-next_line-clause-input g c = λ left total told within.
    let S = g.S.Source in
    let n = c.next_line.new in
    let i = c.lines.invariant.input left total told within in
    subst (λ status. InputEnds total (S.left n.input) status) (sym c.status_of.ensures)
    (input-failed total c.lines.lines n.lines (S.left c.lines.input) (S.left n.input) (S.faults c.lines.input) (S.faults n.input) c.in-Err-next_line.fault i.0 i.1 i.2 c.in-Err-next_line.ensures)

pub returns-in-Err-clause-told : goal.returns-in-Err-clause-told
returns-in-Err-clause-told g c = λ left hand total told within is.
    let E = g.E.Executor in
    let K = g.K.Sink in
    let S = g.S.Source in
    let x = c.answer_in_hand.new in
    let all = with_hand c.args.in_hand hand (lines_of (rest_in c.args.lines.now left)) in
    line-into all total (E.state c.args.session.now) (E.state c.lines.session) (E.state x.session) (K.written c.args.out.now) (K.written c.lines.out) (K.written x.out) c.lines.lines (S.left c.lines.input) c.lines.has_line c.in-Err.field-0 (S.left c.lines.input)
    (c.lines.invariant.told left hand total told within is)
    (subst (λ line. CausedIf {E = SinkFailed} c.lines.has_line line (E.state c.lines.session) (E.state x.session) (K.written c.lines.out) (K.written x.out) (Err c.in-Err.field-0)) c.line.ensures c.in-Err.ensures.told)

pub returns-in-Ok-false-clause-told : goal.returns-in-Ok-false-clause-told
returns-in-Ok-false-clause-told g c = λ left hand total told within is.
    let E = g.E.Executor in
    let K = g.K.Sink in
    let S = g.S.Source in
    let x = c.answer_in_hand.new in
    let n = c.next_line.new in
    let all = with_hand c.args.in_hand hand (lines_of (rest_in c.args.lines.now left)) in
    let given : c.in-Ok-false.field-0 ≡ false = c.in-Ok-false.field-0-test in
    let asks : AsksNext c.lines.lines (S.left c.lines.input) (S.faults c.lines.input) (Ok false) n.lines (S.left n.input) (S.faults n.input) =
    subst (λ b. AsksNext c.lines.lines (S.left c.lines.input) (S.faults c.lines.input) (Ok b) n.lines (S.left n.input) (S.faults n.input)) given c.in-Ok-false.ensures in
    lines-done all total (E.state c.args.session.now) (E.state x.session) (K.written c.args.out.now) (K.written x.out) c.lines.lines n.lines (S.left c.lines.input) (S.left n.input) (S.faults c.lines.input) (S.faults n.input)
    (line-answered all total (E.state c.args.session.now) (E.state c.lines.session) (E.state x.session) (K.written c.args.out.now) (K.written c.lines.out) (K.written x.out) c.lines.lines (S.left c.lines.input) c.lines.has_line (c.lines.invariant.told left hand total told within is)
    (subst (λ line. CausedIf {E = SinkFailed} c.lines.has_line line (E.state c.lines.session) (E.state x.session) (K.written c.lines.out) (K.written x.out) (Ok tt)) c.line.ensures c.in-Ok.ensures.told)) asks

pub returns-in-Err-next_line-clause-told : goal.returns-in-Err-next_line-clause-told
returns-in-Err-next_line-clause-told g c = λ left hand total told within is.
    let E = g.E.Executor in
    let K = g.K.Sink in
    let S = g.S.Source in
    let x = c.answer_in_hand.new in
    let n = c.next_line.new in
    let all = with_hand c.args.in_hand hand (lines_of (rest_in c.args.lines.now left)) in
    subst (λ status. EndsBy (λ front whole. CausedBy front whole (E.state c.args.session.now) (E.state x.session) (K.written c.args.out.now) (K.written x.out)) all total (S.left n.input) status) (sym c.status_of.ensures)
    (lines-failed all total (E.state c.args.session.now) (E.state x.session) (K.written c.args.out.now) (K.written x.out) c.lines.lines n.lines (S.left c.lines.input) (S.left n.input) (S.faults c.lines.input) (S.faults n.input)
    (line-answered all total (E.state c.args.session.now) (E.state c.lines.session) (E.state x.session) (K.written c.args.out.now) (K.written c.lines.out) (K.written x.out) c.lines.lines (S.left c.lines.input) c.lines.has_line (c.lines.invariant.told left hand total told within is)
    (subst (λ line. CausedIf {E = SinkFailed} c.lines.has_line line (E.state c.lines.session) (E.state x.session) (K.written c.lines.out) (K.written x.out) (Ok tt)) c.line.ensures c.in-Ok.ensures.told)) c.in-Err-next_line.fault c.in-Err-next_line.ensures)

-- ---- an answer isn't written

pub returns-in-Err-clause-sound : goal.returns-in-Err-clause-sound
returns-in-Err-clause-sound g c = c.answer_in_hand.ensures.sound

pub returns-in-Err-clause-goes : goal.returns-in-Err-clause-goes
returns-in-Err-clause-goes g c = stays-then _ _ _ c.lines.invariant.goes c.answer_in_hand.ensures.goes

pub returns-in-Err-clause-statuses : goal.returns-in-Err-clause-statuses
returns-in-Err-clause-statuses g c = tt

pub returns-in-Err-clause-read : goal.returns-in-Err-clause-read
returns-in-Err-clause-read g c = λ e. absurd (written-read e)

pub returns-in-Err-clause-write : goal.returns-in-Err-clause-write
returns-in-Err-clause-write g c = λ e. rose-back _ _ _ c.lines.invariant.sink_later c.in-Err.ensures.cause.failed

pub returns-in-Err-clause-later : goal.returns-in-Err-clause-later
returns-in-Err-clause-later g c = (c.lines.invariant.source_later, le_trans c.lines.invariant.sink_later c.answer_in_hand.ensures.cause.later)

-- .. or the input ended

pub returns-in-Ok-false-clause-sound : goal.returns-in-Ok-false-clause-sound
returns-in-Ok-false-clause-sound g c = c.answer_in_hand.ensures.sound

pub returns-in-Ok-false-clause-goes : goal.returns-in-Ok-false-clause-goes
returns-in-Ok-false-clause-goes g c = stays-then _ _ _ c.lines.invariant.goes c.answer_in_hand.ensures.goes

pub returns-in-Ok-false-clause-statuses : goal.returns-in-Ok-false-clause-statuses
returns-in-Ok-false-clause-statuses g c = tt

pub returns-in-Ok-false-clause-read : goal.returns-in-Ok-false-clause-read
returns-in-Ok-false-clause-read g c = λ e. absurd (done-read e)

pub returns-in-Ok-false-clause-write : goal.returns-in-Ok-false-clause-write
returns-in-Ok-false-clause-write g c = λ e. absurd (done-write e)

pub returns-in-Ok-false-clause-later : goal.returns-in-Ok-false-clause-later
returns-in-Ok-false-clause-later g c = (le_trans c.lines.invariant.source_later c.next_line.ensures.later, le_trans c.lines.invariant.sink_later c.answer_in_hand.ensures.cause.later)

-- .. or no line is read

pub returns-in-Err-next_line-clause-sound : goal.returns-in-Err-next_line-clause-sound
returns-in-Err-next_line-clause-sound g c = c.answer_in_hand.ensures.sound

pub returns-in-Err-next_line-clause-goes : goal.returns-in-Err-next_line-clause-goes
returns-in-Err-next_line-clause-goes g c = stays-then _ _ _ c.lines.invariant.goes c.answer_in_hand.ensures.goes

pub returns-in-Err-next_line-clause-statuses : goal.returns-in-Err-next_line-clause-statuses
returns-in-Err-next_line-clause-statuses g c = subst IsOfTalk (sym c.status_of.ensures) (reading-talk c.in-Err-next_line.fault)

pub returns-in-Err-next_line-clause-read : goal.returns-in-Err-next_line-clause-read
returns-in-Err-next_line-clause-read g c = λ e.
    reading-rose c.in-Err-next_line.fault c.status_of.result _ _ _ c.status_of.ensures c.lines.invariant.source_later (λ is. c.in-Err-next_line.ensures.failed (ap Err is)) e

pub returns-in-Err-next_line-clause-write : goal.returns-in-Err-next_line-clause-write
returns-in-Err-next_line-clause-write g c = λ e. absurd (reading-write c.in-Err-next_line.fault c.status_of.result c.status_of.ensures e)

pub returns-in-Err-next_line-clause-later : goal.returns-in-Err-next_line-clause-later
returns-in-Err-next_line-clause-later g c = (le_trans c.lines.invariant.source_later c.next_line.ensures.later, le_trans c.lines.invariant.sink_later c.answer_in_hand.ensures.cause.later)

pub answer_in_hand-requires : goal.answer_in_hand-requires
answer_in_hand-requires g c = record { sound = c.lines.invariant.sound; whole = c.requires.whole }
