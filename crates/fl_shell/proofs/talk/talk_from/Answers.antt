use Rattle.std.proofs.Common.{◌≡◌, ◌∙◌, Some, refl, ap, sym, subst}
use Rattle.std.proofs.Math.Nat.{le_refl}
use Rattle.fl_frame.proofs.CallsInTurn.{goes-same, stays}
use Rattle.fl_ends.specs.declared.shell.ShellStatus.TheVariants.{Done}
use Rattle.fl_session.specs.Execute.{StandsAlike}
use Rattle.fl_words.specs.Grammar.{lines_of}
use Rattle.fl_shell.specs.Reading.{rest_in}
use Rattle.fl_shell.specs.Caused.{CausedBy}
use Rattle.fl_shell.specs.Talking.{EndsBy, TalkEnds, lines_from}
use Rattle.fl_shell.specs.declared.talk.Next.TheVariants.{Ended}
use Rattle.fl_shell.proofs.FailedReads.{done-read, done-write, hand-open, unread-open}
use Rattle.fl_shell.proofs.TalkLoop.{talk-ended}
use Rattle.fl_shell.proofs.talk.talk_from.Goals as goal

pub returns-in-InHand-clause-talks : goal.returns-in-InHand-clause-talks
returns-in-InHand-clause-talks g c = λ configured old left hand total makes ready here unread most told ended within is.
    let E = g.E.Executor in
    let S = g.S.Source in
    let K = g.K.Sink in
    let f = E.flash c.args.session.now in
    let x = c.talk.new in
    let open_now : c.args.next ≡ Ended → ⊥ = λ e. hand-open (sym c.in-InHand.is ∙ e) in
    subst (λ n. TalkEnds configured old (lines_from n hand (lines_of (rest_in c.args.lines.now left))) total (StandsAlike (E.stands x.session configured)) f.media.content (E.flash x.session).media.content f.media.faults (E.flash x.session).media.faults (K.written c.args.out.now) (K.written x.out) (S.left x.input) c.talk.result) (sym c.in-InHand.is)
    (c.talk.ensures.talks configured old left hand total makes ready here unread (most open_now) told (within open_now) is)

pub returns-in-Unread-clause-talks : goal.returns-in-Unread-clause-talks
returns-in-Unread-clause-talks g c = λ configured old left hand total makes ready here unread most told ended within is.
    let E = g.E.Executor in
    let S = g.S.Source in
    let K = g.K.Sink in
    let f = E.flash c.args.session.now in
    let x = c.talk-in-Unread.new in
    let open_now : c.args.next ≡ Ended → ⊥ = λ e. unread-open (sym c.in-Unread.is ∙ e) in
    subst (λ n. TalkEnds configured old (lines_from n hand (lines_of (rest_in c.args.lines.now left))) total (StandsAlike (E.stands x.session configured)) f.media.content (E.flash x.session).media.content f.media.faults (E.flash x.session).media.faults (K.written c.args.out.now) (K.written x.out) (S.left x.input) c.talk-in-Unread.result) (sym c.in-Unread.is)
    (c.talk-in-Unread.ensures.talks configured old left hand total makes ready here unread (most open_now) told (within open_now) is)

pub returns-in-Ended-clause-talks : goal.returns-in-Ended-clause-talks
returns-in-Ended-clause-talks g c = λ configured old left hand total makes ready here unread most told none within is.
    let E = g.E.Executor in
    let S = g.S.Source in
    let K = g.K.Sink in
    let f = E.flash c.args.session.now in
    subst (λ n. TalkEnds configured old (lines_from n hand (lines_of (rest_in c.args.lines.now left))) total (StandsAlike (E.stands c.args.session.now configured)) f.media.content f.media.content f.media.faults f.media.faults (K.written c.args.out.now) (K.written c.args.out.now) (S.left c.args.input.now) Done) (sym c.in-Ended.is)
    (talk-ended configured old total (E.stands c.args.session.now configured) f (K.written c.args.out.now) (S.left c.args.input.now) left unread here told (none c.in-Ended.is))

pub returns-in-InHand-clause-input : goal.returns-in-InHand-clause-input
returns-in-InHand-clause-input g c = λ left total told ended within.
    let open_now : c.args.next ≡ Ended → ⊥ = λ e. hand-open (sym c.in-InHand.is ∙ e) in
    c.talk.ensures.input left total told (within open_now)

pub returns-in-Unread-clause-input : goal.returns-in-Unread-clause-input
returns-in-Unread-clause-input g c = λ left total told ended within.
    let open_now : c.args.next ≡ Ended → ⊥ = λ e. unread-open (sym c.in-Unread.is ∙ e) in
    c.talk-in-Unread.ensures.input left total told (within open_now)

pub returns-in-Ended-clause-input : goal.returns-in-Ended-clause-input
returns-in-Ended-clause-input g c = λ left total told ended within. told ∙ ap Some (ended c.in-Ended.is)

pub returns-in-InHand-clause-told : goal.returns-in-InHand-clause-told
returns-in-InHand-clause-told g c = λ left hand total told ended within is.
    let E = g.E.Executor in
    let S = g.S.Source in
    let K = g.K.Sink in
    let x = c.talk.new in
    let open_now : c.args.next ≡ Ended → ⊥ = λ e. hand-open (sym c.in-InHand.is ∙ e) in
    subst (λ n. EndsBy (λ front whole. CausedBy front whole (E.state c.args.session.now) (E.state x.session) (K.written c.args.out.now) (K.written x.out)) (lines_from n hand (lines_of (rest_in c.args.lines.now left))) total (S.left x.input) c.talk.result) (sym c.in-InHand.is)
    (c.talk.ensures.told left hand total told (within open_now) is)

pub returns-in-Unread-clause-told : goal.returns-in-Unread-clause-told
returns-in-Unread-clause-told g c = λ left hand total told ended within is.
    let E = g.E.Executor in
    let S = g.S.Source in
    let K = g.K.Sink in
    let x = c.talk-in-Unread.new in
    let open_now : c.args.next ≡ Ended → ⊥ = λ e. unread-open (sym c.in-Unread.is ∙ e) in
    subst (λ n. EndsBy (λ front whole. CausedBy front whole (E.state c.args.session.now) (E.state x.session) (K.written c.args.out.now) (K.written x.out)) (lines_from n hand (lines_of (rest_in c.args.lines.now left))) total (S.left x.input) c.talk-in-Unread.result) (sym c.in-Unread.is)
    (c.talk-in-Unread.ensures.told left hand total told (within open_now) is)

pub returns-in-Ended-clause-told : goal.returns-in-Ended-clause-told
returns-in-Ended-clause-told g c = λ left hand total told none within is.
    let E = g.E.Executor in
    let S = g.S.Source in
    let K = g.K.Sink in
    subst (λ n. EndsBy (λ front whole. CausedBy front whole (E.state c.args.session.now) (E.state c.args.session.now) (K.written c.args.out.now) (K.written c.args.out.now)) (lines_from n hand (lines_of (rest_in c.args.lines.now left))) total (S.left c.args.input.now) Done) (sym c.in-Ended.is)
    ((refl, refl), told ∙ ap Some (none c.in-Ended.is))

pub returns-in-InHand-clause-sound : goal.returns-in-InHand-clause-sound
returns-in-InHand-clause-sound g c = c.talk.ensures.sound

pub returns-in-InHand-clause-goes : goal.returns-in-InHand-clause-goes
returns-in-InHand-clause-goes g c = c.talk.ensures.goes

pub returns-in-InHand-clause-statuses : goal.returns-in-InHand-clause-statuses
returns-in-InHand-clause-statuses g c = c.talk.ensures.statuses

pub returns-in-InHand-clause-read : goal.returns-in-InHand-clause-read
returns-in-InHand-clause-read g c = c.talk.ensures.read

pub returns-in-InHand-clause-write : goal.returns-in-InHand-clause-write
returns-in-InHand-clause-write g c = c.talk.ensures.write

pub returns-in-InHand-clause-later : goal.returns-in-InHand-clause-later
returns-in-InHand-clause-later g c = c.talk.ensures.later

pub returns-in-Unread-clause-sound : goal.returns-in-Unread-clause-sound
returns-in-Unread-clause-sound g c = c.talk-in-Unread.ensures.sound

pub returns-in-Unread-clause-goes : goal.returns-in-Unread-clause-goes
returns-in-Unread-clause-goes g c = c.talk-in-Unread.ensures.goes

pub returns-in-Unread-clause-statuses : goal.returns-in-Unread-clause-statuses
returns-in-Unread-clause-statuses g c = c.talk-in-Unread.ensures.statuses

pub returns-in-Unread-clause-read : goal.returns-in-Unread-clause-read
returns-in-Unread-clause-read g c = c.talk-in-Unread.ensures.read

pub returns-in-Unread-clause-write : goal.returns-in-Unread-clause-write
returns-in-Unread-clause-write g c = c.talk-in-Unread.ensures.write

pub returns-in-Unread-clause-later : goal.returns-in-Unread-clause-later
returns-in-Unread-clause-later g c = c.talk-in-Unread.ensures.later

pub returns-in-Ended-clause-sound : goal.returns-in-Ended-clause-sound
returns-in-Ended-clause-sound g c = c.requires.sound

pub returns-in-Ended-clause-goes : goal.returns-in-Ended-clause-goes
returns-in-Ended-clause-goes g c = stays _ _ (goes-same _)

pub returns-in-Ended-clause-statuses : goal.returns-in-Ended-clause-statuses
returns-in-Ended-clause-statuses g c = tt

pub returns-in-Ended-clause-read : goal.returns-in-Ended-clause-read
returns-in-Ended-clause-read g c = λ e. absurd (done-read e)

pub returns-in-Ended-clause-write : goal.returns-in-Ended-clause-write
returns-in-Ended-clause-write g c = λ e. absurd (done-write e)

pub returns-in-Ended-clause-later : goal.returns-in-Ended-clause-later
returns-in-Ended-clause-later g c = (le_refl _, le_refl _)

pub talk-requires : goal.talk-requires
talk-requires g c = record { sound = c.requires.sound; whole = c.requires.whole }

pub talk-requires-in-Unread : goal.talk-requires-in-Unread
talk-requires-in-Unread g c = record { sound = c.requires.sound; whole = c.requires.whole }
