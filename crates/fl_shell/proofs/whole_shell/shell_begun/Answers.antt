use Rattle.std.proofs.Common.{◌≡◌, [], IsTrue, Ok, Err, refl, sym, ◌∙◌, length, subst}
use Rattle.std.proofs.Math.Nat.{le_refl}
use Rattle.fl_model.specs.Image.{medium_len}
use Rattle.fl_words.specs.Grammar.{lines_of}
use Rattle.fl_words.specs.Medium.{header}
use Rattle.fl_image.proofs.Made.{whole-of, makes-of}
use Rattle.fl_image.proofs.Reach.{reach}
use Rattle.fl_store.proofs.Making.{blank-behind, none-of}
use Rattle.fl_ends.specs.declared.shell.ShellStatus.TheVariants.{NoMemory}
use Rattle.fl_session.specs.Ends.{told_of}
use Rattle.fl_session.proofs.Over.{media-goes_on, opens-as, opens-goes}
use Rattle.fl_session.proofs.Rested.{new-header}
use Rattle.fl_shell.specs.Input.{InputEnds}
use Rattle.fl_shell.specs.Statuses.{IsOfSession, opening_status}
use Rattle.fl_shell.proofs.CompleteEnds.{early-at, looks-early, memory-make, memory-read, memory-write, opening-early, opening-made, session-early}
use Rattle.fl_shell.proofs.EarlyEnds.{begins-on, ends-of, no-room, not-opened, open-rose}
use Rattle.fl_shell.proofs.InputEnds.{input-opening}
use Rattle.fl_shell.proofs.ShellEnds.{shell-ends}
use Rattle.fl_shell.proofs.CausedEnds.{caused-of, opening-caused, shell-caused}
use Rattle.fl_shell.proofs.whole_shell.shell_begun.Goals as goal

pub talk_over-requires-clause-whole : goal.talk_over-requires-clause-whole
talk_over-requires-clause-whole g c = c.requires.whole

pub talk_over-requires-clause-reach : goal.talk_over-requires-clause-reach
talk_over-requires-clause-reach g c = λ geometry e.
    let made = g.M.Media.state c.open_image.new.media in
    reach c.args.begun.now.config geometry _ made.content made.content c.requires.whole e refl
    (λ config makes. (opens-as config (g.M.Media.state c.args.media.now) (Ok tt) made (c.in-Ok-open_image.ensures config makes)).len) refl

pub talk_over-requires-clause-blank : goal.talk_over-requires-clause-blank
talk_over-requires-clause-blank g c = λ new told geometry device.
    let lines = c.args.begun.now.config in
    let w = whole-of 0 lines c.requires.whole in
    let old = g.M.Media.state c.args.media.now in
    let made = g.M.Media.state c.open_image.new.media in
    let opened = opens-as w.0 old (Ok tt) made (c.in-Ok-open_image.ensures w.0 (makes-of 0 lines w.0 w.1)) in
    let goes = opens-goes (medium_len w.0) (header w.0) old (Ok tt) made (c.in-Ok-open_image.ensures w.0 (makes-of 0 lines w.0 w.1)) in
    let empty : old.content ≡ [] = none-of old.content c.len-is_new.result c.len-is_new.ensures new in
    let held = opened.made (subst IsTrue goes.tells told) empty in
    blank-behind lines w.0 geometry made.content (makes-of 0 lines w.0 w.1) device held (new-header w.0 old made opened held)

-- ---- the lines are answered

pub returns-in-Ok-open_image-clause-ends : goal.returns-in-Ok-open_image-clause-ends
returns-in-Ok-open_image-clause-ends g c = λ text old told tells looks most begins.
    let begun = c.args.begun.now in
    let lines = begun.config in
    let w = whole-of 64 lines c.requires.whole in
    let looked = g.M.Media.state c.args.media.now in
    let made = g.M.Media.state c.open_image.new.media in
    let S = g.S.Source in
    let K = g.K.Sink in
    let opens = c.in-Ok-open_image.ensures w.0 (makes-of 64 lines w.0 w.1) in
    let b = begins-on 64 old.content (lines_of text) (length text) begun w.0 c.args.lines.now (S.left c.args.input.now) told (K.written c.args.out.now) w.1 begins in
    shell-ends 64 text begun w.0 old looked made (g.M.Media.state c.talk_over.new.media) c.args.lines.now (S.left c.args.input.now) (S.left c.talk_over.new.input) told (K.written c.args.out.now) (K.written c.talk_over.new.out)
    c.talk_over.result.flushed c.talk_over.result.status tells looks b (opens-as w.0 looked (Ok tt) made opens) (opens-goes (medium_len w.0) (header w.0) looked (Ok tt) made opens) c.talk_over.ensures.keeps c.talk_over.ensures.statuses
    (λ m ready rests. c.talk_over.ensures.ends w.0 m b.leaves.rest b.leaves.hand (length text) w.1 ready rests most b.leaves.rest_told b.leaves.ended b.leaves.within b.leaves.hand_is)

pub returns-in-Ok-open_image-clause-causes : goal.returns-in-Ok-open_image-clause-causes
returns-in-Ok-open_image-clause-causes g c = λ text old told tells looks begins.
    let begun = c.args.begun.now in
    let lines = begun.config in
    let w = whole-of 64 lines c.requires.whole in
    let looked = g.M.Media.state c.args.media.now in
    let made = g.M.Media.state c.open_image.new.media in
    let S = g.S.Source in
    let K = g.K.Sink in
    let opens = c.in-Ok-open_image.ensures w.0 (makes-of 64 lines w.0 w.1) in
    let b = begins-on 64 old.content (lines_of text) (length text) begun w.0 c.args.lines.now (S.left c.args.input.now) told (K.written c.args.out.now) w.1 begins in
    shell-caused 64 text begun w.0 old looked made (g.M.Media.state c.talk_over.new.media) c.args.lines.now (S.left c.args.input.now) (S.left c.talk_over.new.input) told (K.written c.args.out.now) (K.written c.talk_over.new.out)
    c.talk_over.result.flushed c.talk_over.result.status looks b w.1 (opens-as w.0 looked (Ok tt) made opens) (opens-goes (medium_len w.0) (header w.0) looked (Ok tt) made opens) c.talk_over.ensures.statuses
    (c.talk_over.ensures.told b.leaves.rest b.leaves.hand (length text) b.leaves.rest_told b.leaves.ended b.leaves.within b.leaves.hand_is)

pub returns-in-Ok-open_image-clause-input : goal.returns-in-Ok-open_image-clause-input
returns-in-Ok-open_image-clause-input g c = λ total leaves. c.talk_over.ensures.input leaves.rest total leaves.rest_told leaves.ended leaves.within

pub returns-in-Ok-open_image-clause-early : goal.returns-in-Ok-open_image-clause-early
returns-in-Ok-open_image-clause-early g c = λ old looks. session-early old (g.M.Media.state c.talk_over.new.media) c.talk_over.result.status c.talk_over.ensures.statuses

pub returns-in-Ok-open_image-clause-read : goal.returns-in-Ok-open_image-clause-read
returns-in-Ok-open_image-clause-read g c = c.talk_over.ensures.read

pub returns-in-Ok-open_image-clause-write : goal.returns-in-Ok-open_image-clause-write
returns-in-Ok-open_image-clause-write g c = c.talk_over.ensures.write

pub returns-in-Ok-open_image-clause-make : goal.returns-in-Ok-open_image-clause-make
returns-in-Ok-open_image-clause-make g c = λ e. absurd (subst IsOfSession e c.talk_over.ensures.statuses)

pub returns-in-Ok-open_image-clause-goes : goal.returns-in-Ok-open_image-clause-goes
returns-in-Ok-open_image-clause-goes g c =
    let lines = c.args.begun.now.config in
    let w = whole-of 0 lines c.requires.whole in
    let looked = g.M.Media.state c.args.media.now in
    let made = g.M.Media.state c.open_image.new.media in
    media-goes_on looked made (g.M.Media.state c.talk_over.new.media) (opens-goes (medium_len w.0) (header w.0) looked (Ok tt) made (c.in-Ok-open_image.ensures w.0 (makes-of 0 lines w.0 w.1))) c.talk_over.ensures.goes

pub returns-in-Ok-open_image-clause-later : goal.returns-in-Ok-open_image-clause-later
returns-in-Ok-open_image-clause-later g c = c.talk_over.ensures.later

-- ---- there is no memory for a session

pub returns-in_default-clause-ends : goal.returns-in_default-clause-ends
returns-in_default-clause-ends g c = λ text old told tells looks most begins.
    let looked = g.M.Media.state c.args.media.now in
    let S = g.S.Source in
    let K = g.K.Sink in
    ends-of text (told_of old looked (S.left c.args.input.now) told (K.written c.args.out.now)) NoMemory c.of.result c.of.ensures.status
    (no-room 64 text c.args.begun.now old looked c.args.lines.now (S.left c.args.input.now) told (K.written c.args.out.now) c.of.result.flushed c.of.ensures.flushed looks begins)

pub returns-in_default-clause-causes : goal.returns-in_default-clause-causes
returns-in_default-clause-causes g c = λ text old told tells looks begins. caused-of 64 text _ _ _ _ _ c.of.result.flushed NoMemory c.of.result.status c.of.ensures.status c.of.ensures.flushed

pub returns-in_default-clause-input : goal.returns-in_default-clause-input
returns-in_default-clause-input g c = λ total leaves. subst (InputEnds total (g.S.Source.left c.args.input.now)) (sym c.of.ensures.status) tt

pub returns-in_default-clause-early : goal.returns-in_default-clause-early
returns-in_default-clause-early g c = λ old looks. looks-early old (g.M.Media.state c.args.media.now) c.of.result.status looks.content

pub returns-in_default-clause-read : goal.returns-in_default-clause-read
returns-in_default-clause-read g c = λ e. absurd (memory-read _ c.of.ensures.status e)

pub returns-in_default-clause-write : goal.returns-in_default-clause-write
returns-in_default-clause-write g c = λ e. absurd (memory-write _ c.of.ensures.status e)

pub returns-in_default-clause-make : goal.returns-in_default-clause-make
returns-in_default-clause-make g c = λ e. absurd (memory-make _ c.of.ensures.status e)

pub returns-in_default-clause-goes : goal.returns-in_default-clause-goes
returns-in_default-clause-goes g c = record { tells = refl; faults = le_refl _ }

pub returns-in_default-clause-later : goal.returns-in_default-clause-later
returns-in_default-clause-later g c = (le_refl _, le_refl _)

-- ---- the image isn't opened

pub returns-in-Err-clause-ends : goal.returns-in-Err-clause-ends
returns-in-Err-clause-ends g c = λ text old told tells looks most begins.
    let begun = c.args.begun.now in
    let w = whole-of 64 begun.config c.requires.whole in
    let looked = g.M.Media.state c.args.media.now in
    let made = g.M.Media.state c.open_image.new.media in
    let S = g.S.Source in
    let K = g.K.Sink in
    let refusal = c.in-Err.refusal in
    ends-of text (told_of old made (S.left c.args.input.now) told (K.written c.args.out.now)) (opening_status refusal) c.of-in-Err.result (c.of-in-Err.ensures.status ∙ c.status_of.ensures)
    (not-opened 64 text begun w.0 old looked made c.args.lines.now (S.left c.args.input.now) told (K.written c.args.out.now) c.of-in-Err.result.flushed refusal c.of-in-Err.ensures.flushed tells looks w.1 begins
    (opens-as w.0 looked (Err refusal) made (c.in-Err.ensures w.0 (makes-of 64 begun.config w.0 w.1))))

pub returns-in-Err-clause-causes : goal.returns-in-Err-clause-causes
returns-in-Err-clause-causes g c = λ text old told tells looks begins.
    opening-caused 64 text _ _ _ _ _ c.of-in-Err.result.flushed c.in-Err.refusal c.of-in-Err.result.status (c.of-in-Err.ensures.status ∙ c.status_of.ensures) c.of-in-Err.ensures.flushed

pub returns-in-Err-clause-input : goal.returns-in-Err-clause-input
returns-in-Err-clause-input g c = λ total leaves.
    let left = g.S.Source.left c.args.input.now in
    subst (InputEnds total left) (sym (c.of-in-Err.ensures.status ∙ c.status_of.ensures)) (input-opening total left c.in-Err.refusal)

pub returns-in-Err-clause-early : goal.returns-in-Err-clause-early
returns-in-Err-clause-early g c = λ old looks.
    let looked = g.M.Media.state c.args.media.now in
    let made = g.M.Media.state c.open_image.new.media in
    let lines = c.args.begun.now.config in
    let w = whole-of 0 lines c.requires.whole in
    let refusal = c.in-Err.refusal in
    early-at old made c.of-in-Err.result.status (opening_status refusal) (c.of-in-Err.ensures.status ∙ c.status_of.ensures)
    (opening-early w.0 old looked made refusal looks (opens-as w.0 looked (Err refusal) made (c.in-Err.ensures w.0 (makes-of 0 lines w.0 w.1))))

pub returns-in-Err-clause-read : goal.returns-in-Err-clause-read
returns-in-Err-clause-read g c = λ e. opening-made c.in-Err.refusal c.of-in-Err.result.status (c.of-in-Err.ensures.status ∙ c.status_of.ensures) (subst IsOfSession (sym e) tt)

pub returns-in-Err-clause-write : goal.returns-in-Err-clause-write
returns-in-Err-clause-write g c = λ e. opening-made c.in-Err.refusal c.of-in-Err.result.status (c.of-in-Err.ensures.status ∙ c.status_of.ensures) (subst IsOfSession (sym e) tt)

pub returns-in-Err-clause-make : goal.returns-in-Err-clause-make
returns-in-Err-clause-make g c = λ e.
    let looked = g.M.Media.state c.args.media.now in
    let made = g.M.Media.state c.open_image.new.media in
    let lines = c.args.begun.now.config in
    let w = whole-of 0 lines c.requires.whole in
    let refusal = c.in-Err.refusal in
    open-rose w.0 looked looked made refusal c.of-in-Err.result.status (c.of-in-Err.ensures.status ∙ c.status_of.ensures) e (le_refl looked.faults)
    (opens-as w.0 looked (Err refusal) made (c.in-Err.ensures w.0 (makes-of 0 lines w.0 w.1)))

pub returns-in-Err-clause-goes : goal.returns-in-Err-clause-goes
returns-in-Err-clause-goes g c =
    let lines = c.args.begun.now.config in
    let w = whole-of 0 lines c.requires.whole in
    opens-goes (medium_len w.0) (header w.0) (g.M.Media.state c.args.media.now) (Err c.in-Err.refusal) (g.M.Media.state c.open_image.new.media) (c.in-Err.ensures w.0 (makes-of 0 lines w.0 w.1))

pub returns-in-Err-clause-later : goal.returns-in-Err-clause-later
returns-in-Err-clause-later g c = (le_refl _, le_refl _)
