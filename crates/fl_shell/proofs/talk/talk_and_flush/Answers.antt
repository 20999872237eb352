use Rattle.std.proofs.Common.{sym, subst}
use Rattle.fl_frame.proofs.CallsInTurn.{stays-then}
use Rattle.fl_image.proofs.Made.{made-by}
use Rattle.fl_session.specs.Execute.{StandsAlike}
use Rattle.fl_words.specs.Grammar.{lines_of}
use Rattle.fl_shell.specs.Input.{InputEnds}
use Rattle.fl_shell.specs.Reading.{rest_in}
use Rattle.fl_shell.specs.Talking.{EndsBy, MediumEnds, TellsFlushed, lines_from}
use Rattle.fl_shell.proofs.InputEnds.{input-behind}
use Rattle.fl_shell.proofs.TalkEnds.{flush-ends}
use Rattle.fl_shell.specs.Caused.{TalkedOver}
use Rattle.fl_shell.specs.Causes.{names_of}
use Rattle.fl_shell.proofs.CausedEnds.{flushed-behind}
use Rattle.fl_shell.proofs.talk.talk_and_flush.Goals as goal

pub returns-clause-ends : goal.returns-clause-ends
returns-clause-ends g c = λ configured old left hand total makes ready here unread most told ended within is.
    let E = g.E.Executor in
    let K = g.K.Sink in
    let S = g.S.Source in
    let all = lines_from c.args.next hand (lines_of (rest_in c.args.lines.now left)) in
    let f = E.flash c.args.session.now in
    let x = c.talk_from-status.new in
    let talked = E.flash x.session in
    let flushed = E.flash c.flush_all-flushed.new.session in
    let stands = StandsAlike (E.stands x.session configured) in
    let stands_now = StandsAlike (E.stands c.flush_all-flushed.new.session configured) in
    let done =
    flush-ends configured old all total stands stands_now f.media.content talked.media.content flushed.media.content f.media.faults talked.media.faults flushed.media.faults (K.written c.args.out.now) (K.written x.out) (S.left x.input) c.flush_all-flushed.result c.talk_from-status.result
    c.talk_from-status.ensures.statuses c.flush_all-flushed.ensures.goes.faults (c.talk_from-status.ensures.talks configured old left hand total makes ready here unread most told ended within is)
    (λ moments ran. c.flush_all-flushed.ensures.flushes configured old moments f.media.content f.media.faults (sym (made-by c.args.config.now configured makes).plans_are) ready ran) in
    subst (λ status. MediumEnds configured old all total stands_now f.media.content flushed.media.content f.media.faults flushed.media.faults (K.written c.args.out.now) (K.written x.out) (S.left x.input) c.flush_all-flushed.result status) (sym c.status_behind.ensures.exact) done

pub returns-clause-goes : goal.returns-clause-goes
returns-clause-goes g c = stays-then _ _ _ c.talk_from-status.ensures.goes c.flush_all-flushed.ensures.goes

pub returns-clause-input : goal.returns-clause-input
returns-clause-input g c = λ left total told ended within.
    let left_now = g.S.Source.left c.talk_from-status.new.input in
    subst (InputEnds total left_now) (sym c.status_behind.ensures.exact) (input-behind total left_now c.talk_from-status.result c.flush_all-flushed.result.all (c.talk_from-status.ensures.input left total told ended within))

pub returns-clause-told : goal.returns-clause-told
returns-clause-told g c = λ left hand total told ended within is.
    let E = g.E.Executor in
    let K = g.K.Sink in
    let S = g.S.Source in
    let x = c.talk_from-status.new in
    let all = lines_from c.args.next hand (lines_of (rest_in c.args.lines.now left)) in
    let y = c.flush_all-flushed.new in
    let flushed = c.flush_all-flushed.result in
    let names = names_of c.args.config.now in
    let done = flushed-behind names all total (E.state c.args.session.now) (E.state x.session) (E.state y.session) (K.written c.args.out.now) (K.written x.out) (S.left x.input) flushed c.talk_from-status.result c.talk_from-status.ensures.statuses
    (c.talk_from-status.ensures.told left hand total told ended within is) c.flush_all-flushed.ensures.told in
    subst (λ status. EndsBy (λ front whole. TalkedOver (names_of c.args.config.now) front whole c.flush_all-flushed.result (K.written c.args.out.now) (K.written x.out) (E.state c.args.session.now) (E.state y.session)) all total (S.left x.input) status × TellsFlushed c.flush_all-flushed.result status)
    (sym c.status_behind.ensures.exact) done
