use Rattle.std.proofs.Common.{◌≡◌, inl, inr, [], IsTrue, Ok, Err, refl, sym, ◌∙◌, subst, le_trans, le_of_eq}
use Rattle.fl_base.proofs.Appended.{appends-none}
use Rattle.fl_base.proofs.Risen.{rose-back}
use Rattle.fl_words.specs.Medium.{header}
use Rattle.fl_model.specs.Image.{medium_len}
use Rattle.fl_image.proofs.Made.{whole-of, makes-of}
use Rattle.fl_image.proofs.Reach.{reach}
use Rattle.fl_store.proofs.Making.{blank-behind, none-of}
use Rattle.fl_session.specs.Ends.{told_of, effects_of}
use Rattle.fl_session.specs.ScriptEnds.{unsaid}
use Rattle.fl_session.specs.CausedEach.{causes_of}
use Rattle.fl_session.proofs.CausesInTurn.{causes-opened, causes-refused}
use Rattle.fl_session.proofs.RunEnds.{begins-takes, ends-in_begin, script-over, commands-early}
use Rattle.fl_session.proofs.Over.{ends-opened, opens-as, opens-goes, media-goes_on, ends-refused, script-refused, early-refused, make-refused, commands-words, memory-words, memory-read, memory-write, memory-make}
use Rattle.fl_session.proofs.Rested.{new-header}
use Rattle.fl_session.proofs.whole_run.run_script.Goals as goal

pub returns-in-Err-clause-ends : goal.returns-in-Err-clause-ends
returns-in-Err-clause-ends g c = λ text told l.
    ends-in_begin (effects_of (told_of (g.M.Media.state c.args.media.now) (g.M.Media.state c.args.media.now) (g.S.Source.left c.read_config.new.script) (g.K.Sink.written c.args.out.now) (g.K.Sink.written c.args.out.now)) c.in-Err.status) 64 text _ c.in-Err.status (c.in-Err.ensures.ends 64 text l) (record { content = refl; written = appends-none _ })

pub returns-in-Err-clause-script : goal.returns-in-Err-clause-script
returns-in-Err-clause-script g c = λ text l. ends-in_begin unsaid 64 text _ c.in-Err.status (c.in-Err.ensures.ends 64 text l) tt

pub returns-in-Err-clause-causes : goal.returns-in-Err-clause-causes
returns-in-Err-clause-causes g c = λ text l.
    ends-in_begin (causes_of 64 (g.M.Media.state c.args.media.now) (g.M.Media.state c.args.media.now) (g.K.Sink.written c.args.out.now) (g.K.Sink.written c.args.out.now) c.in-Err.status) 64 text _ c.in-Err.status (c.in-Err.ensures.ends 64 text l) (refl, refl)

pub run_session-requires-clause-reach : goal.run_session-requires-clause-reach
run_session-requires-clause-reach g c = λ geometry e.
    let made = g.M.Media.state c.open_image.new.media in
    reach c.read_config.new.config geometry _ made.content made.content c.in-Ok-read_config.ensures.whole e refl
    (λ config makes. (opens-as config (g.M.Media.state c.args.media.now) (Ok tt) made (c.in-Ok-open_image.ensures config makes)).len) refl

pub run_session-requires-clause-blank : goal.run_session-requires-clause-blank
run_session-requires-clause-blank g c = λ new told geometry device.
    let lines = c.read_config.new.config in
    let w = whole-of 0 lines c.in-Ok-read_config.ensures.whole in
    let old = g.M.Media.state c.args.media.now in
    let made = g.M.Media.state c.open_image.new.media in
    let opened = opens-as w.0 old (Ok tt) made (c.in-Ok-open_image.ensures w.0 (makes-of 0 lines w.0 w.1)) in
    let goes = opens-goes (medium_len w.0) (header w.0) old (Ok tt) made (c.in-Ok-open_image.ensures w.0 (makes-of 0 lines w.0 w.1)) in
    let empty : old.content ≡ [] = none-of old.content c.len-is_new.result c.len-is_new.ensures new in
    let held = opened.made (subst IsTrue goes.tells told) empty in
    blank-behind lines w.0 geometry made.content (makes-of 0 lines w.0 w.1) device held (new-header w.0 old made opened held)

pub returns-in-Ok-open_image-clause-ends : goal.returns-in-Ok-open_image-clause-ends
returns-in-Ok-open_image-clause-ends g c = λ text told l.
    let lines = c.read_config.new.config in
    let w = whole-of 64 lines c.in-Ok-read_config.ensures.whole in
    let goes = opens-goes (medium_len w.0) (header w.0) (g.M.Media.state c.args.media.now) (Ok tt) (g.M.Media.state c.open_image.new.media) (c.in-Ok-open_image.ensures w.0 (makes-of 64 lines w.0 w.1)) in
    ends-opened 64 text lines c.in-Ok-read_config.begun.first c.in-Ok-read_config.begun.number _ _ _ _ _ w.0
    (g.M.Media.state c.args.media.now) (g.M.Media.state c.open_image.new.media) (g.M.Media.state c.run_session.new.media) _
    (c.in-Ok-read_config.ensures.begins 64 text l) w.1 told (opens-as w.0 (g.M.Media.state c.args.media.now) (Ok tt) (g.M.Media.state c.open_image.new.media) (c.in-Ok-open_image.ensures w.0 (makes-of 64 lines w.0 w.1))) c.run_session.ensures.form goes.tells goes.faults
    (c.run_session.ensures.runs w.0 w.1)

pub returns-in-Ok-open_image-clause-script : goal.returns-in-Ok-open_image-clause-script
returns-in-Ok-open_image-clause-script g c = λ text l.
    let lines = c.read_config.new.config in
    let w = whole-of 64 lines c.in-Ok-read_config.ensures.whole in
    script-over 64 text lines c.in-Ok-read_config.begun.first c.in-Ok-read_config.begun.number _ _ _ w.0 _ _ _ (c.in-Ok-read_config.ensures.begins 64 text l) w.1 c.run_session.ensures.causes

pub returns-in-Ok-open_image-clause-causes : goal.returns-in-Ok-open_image-clause-causes
returns-in-Ok-open_image-clause-causes g c = λ text l.
    let lines = c.read_config.new.config in
    let w = whole-of 64 lines c.in-Ok-read_config.ensures.whole in
    let opens = c.in-Ok-open_image.ensures w.0 (makes-of 64 lines w.0 w.1) in
    let old = g.M.Media.state c.args.media.now in
    let made = g.M.Media.state c.open_image.new.media in
    causes-opened 64 text lines c.in-Ok-read_config.begun.first c.in-Ok-read_config.begun.number _ _ _ _ _ w.0 old made (g.M.Media.state c.run_session.new.media) _
    (c.in-Ok-read_config.ensures.begins 64 text l) w.1 (opens-as w.0 old (Ok tt) made opens) (opens-goes (medium_len w.0) (header w.0) old (Ok tt) made opens) c.run_session.ensures.causes

pub returns-in-Ok-open_image-clause-words : goal.returns-in-Ok-open_image-clause-words
returns-in-Ok-open_image-clause-words g c = commands-words _ c.run_session.ensures.statuses

pub returns-in-Ok-open_image-clause-early : goal.returns-in-Ok-open_image-clause-early
returns-in-Ok-open_image-clause-early g c = commands-early _ _ _ _ _ c.run_session.ensures.statuses

pub returns-clause-ends : goal.returns-clause-ends
returns-clause-ends g c = λ text told l.
    let lines = c.read_config.new.config in
    let w = whole-of 64 lines c.in-Ok-read_config.ensures.whole in
    rw c.status_of.ensures
    (ends-refused 64 text lines c.in-Ok-read_config.begun.first c.in-Ok-read_config.begun.number _ _ _ w.0 (g.M.Media.state c.args.media.now) (g.M.Media.state c.open_image.new.media)
    c.in-Err-open_image.refusal (c.in-Ok-read_config.ensures.begins 64 text l) w.1 told (opens-as w.0 (g.M.Media.state c.args.media.now) (Err c.in-Err-open_image.refusal) (g.M.Media.state c.open_image.new.media) (c.in-Err-open_image.ensures w.0 (makes-of 64 lines w.0 w.1))))

pub returns-clause-script : goal.returns-clause-script
returns-clause-script g c = λ text l.
    let lines = c.read_config.new.config in
    let w = whole-of 64 lines c.in-Ok-read_config.ensures.whole in
    rw c.status_of.ensures (script-refused 64 text lines c.in-Ok-read_config.begun.first c.in-Ok-read_config.begun.number _ _ w.0 c.in-Err-open_image.refusal (c.in-Ok-read_config.ensures.begins 64 text l) w.1)

pub returns-clause-causes : goal.returns-clause-causes
returns-clause-causes g c = λ text l.
    let lines = c.read_config.new.config in
    let w = whole-of 64 lines c.in-Ok-read_config.ensures.whole in
    rw c.status_of.ensures (causes-refused 64 text lines c.in-Ok-read_config.begun.first c.in-Ok-read_config.begun.number _ _ _ w.0 _ _ c.in-Err-open_image.refusal (c.in-Ok-read_config.ensures.begins 64 text l) w.1 (opens-as w.0 (g.M.Media.state c.args.media.now) (Err c.in-Err-open_image.refusal) (g.M.Media.state c.open_image.new.media) (c.in-Err-open_image.ensures w.0 (makes-of 64 lines w.0 w.1))))

pub returns-clause-make : goal.returns-clause-make
returns-clause-make g c = λ e.
    let w = whole-of 0 c.read_config.new.config c.in-Ok-read_config.ensures.whole in
    make-refused w.0 _ _ c.in-Err-open_image.refusal (opens-as w.0 (g.M.Media.state c.args.media.now) (Err c.in-Err-open_image.refusal) (g.M.Media.state c.open_image.new.media) (c.in-Err-open_image.ensures w.0 (makes-of 0 c.read_config.new.config w.0 w.1))) (sym c.status_of.ensures ∙ e)

pub returns-clause-early : goal.returns-clause-early
returns-clause-early g c =
    let w = whole-of 0 c.read_config.new.config c.in-Ok-read_config.ensures.whole in
    rw c.status_of.ensures (early-refused w.0 _ _ _ c.in-Err-open_image.refusal (opens-as w.0 (g.M.Media.state c.args.media.now) (Err c.in-Err-open_image.refusal) (g.M.Media.state c.open_image.new.media) (c.in-Err-open_image.ensures w.0 (makes-of 0 c.read_config.new.config w.0 w.1))))

pub returns-in-Ok-open_image-clause-goes : goal.returns-in-Ok-open_image-clause-goes
returns-in-Ok-open_image-clause-goes g c =
    let w = whole-of 0 c.read_config.new.config c.in-Ok-read_config.ensures.whole in
    let goes = opens-goes (medium_len w.0) (header w.0) (g.M.Media.state c.args.media.now) (Ok tt) (g.M.Media.state c.open_image.new.media) (c.in-Ok-open_image.ensures w.0 (makes-of 0 c.read_config.new.config w.0 w.1)) in
    media-goes_on (g.M.Media.state c.args.media.now) (g.M.Media.state c.open_image.new.media) (g.M.Media.state c.run_session.new.media) goes c.run_session.ensures.goes

pub returns-clause-goes : goal.returns-clause-goes
returns-clause-goes g c =
    let w = whole-of 0 c.read_config.new.config c.in-Ok-read_config.ensures.whole in
    opens-goes (medium_len w.0) (header w.0) (g.M.Media.state c.args.media.now) (Err c.in-Err-open_image.refusal) (g.M.Media.state c.open_image.new.media) (c.in-Err-open_image.ensures w.0 (makes-of 0 c.read_config.new.config w.0 w.1))

pub returns-in_default-new-2-clause-ends : goal.returns-in_default-new-2-clause-ends
returns-in_default-new-2-clause-ends g c = λ text told l. ((appends-none _, inl refl), inr (begins-takes 64 text _ _ _ _ _ (c.in-Ok-read_config.ensures.begins 64 text l)))

pub returns-in_default-new-2-clause-script : goal.returns-in_default-new-2-clause-script
returns-in_default-new-2-clause-script g c = λ text l. (tt, inr (begins-takes 64 text _ _ _ _ _ (c.in-Ok-read_config.ensures.begins 64 text l)))

pub returns-in_default-new-2-clause-causes : goal.returns-in_default-new-2-clause-causes
returns-in_default-new-2-clause-causes g c = λ text l. ((refl, refl), inr (begins-takes 64 text _ _ _ _ _ (c.in-Ok-read_config.ensures.begins 64 text l)))

pub returns-in_default-clause-words : goal.returns-in_default-clause-words
returns-in_default-clause-words g c = memory-words

pub returns-in_default-clause-read : goal.returns-in_default-clause-read
returns-in_default-clause-read g c = λ e. absurd (memory-read e)

pub returns-in_default-clause-write : goal.returns-in_default-clause-write
returns-in_default-clause-write g c = λ e. absurd (memory-write e)

pub returns-in_default-clause-make : goal.returns-in_default-clause-make
returns-in_default-clause-make g c = λ e. absurd (memory-make e)

pub returns-in_default-clause-goes : goal.returns-in_default-clause-goes
returns-in_default-clause-goes g c = record { tells = refl; faults = le_of_eq refl }

pub returns-in_default-clause-later : goal.returns-in_default-clause-later
returns-in_default-clause-later g c = (le_of_eq refl, le_of_eq refl)

pub returns-in_default-new-clause-words : goal.returns-in_default-new-clause-words
returns-in_default-new-clause-words g c = memory-words

pub returns-in_default-new-clause-read : goal.returns-in_default-new-clause-read
returns-in_default-new-clause-read g c = λ e. absurd (memory-read e)

pub returns-in_default-new-clause-write : goal.returns-in_default-new-clause-write
returns-in_default-new-clause-write g c = λ e. absurd (memory-write e)

pub returns-in_default-new-clause-make : goal.returns-in_default-new-clause-make
returns-in_default-new-clause-make g c = λ e. absurd (memory-make e)

pub returns-in_default-new-clause-goes : goal.returns-in_default-new-clause-goes
returns-in_default-new-clause-goes g c = record { tells = refl; faults = le_of_eq refl }

pub returns-in_default-new-clause-later : goal.returns-in_default-new-clause-later
returns-in_default-new-clause-later g c = (le_of_eq refl, le_of_eq refl)

pub returns-in_default-new-2-clause-words : goal.returns-in_default-new-2-clause-words
returns-in_default-new-2-clause-words g c = memory-words

pub returns-in_default-new-2-clause-read : goal.returns-in_default-new-2-clause-read
returns-in_default-new-2-clause-read g c = λ e. absurd (memory-read e)

pub returns-in_default-new-2-clause-write : goal.returns-in_default-new-2-clause-write
returns-in_default-new-2-clause-write g c = λ e. absurd (memory-write e)

pub returns-in_default-new-2-clause-make : goal.returns-in_default-new-2-clause-make
returns-in_default-new-2-clause-make g c = λ e. absurd (memory-make e)

pub returns-in_default-new-2-clause-goes : goal.returns-in_default-new-2-clause-goes
returns-in_default-new-2-clause-goes g c = record { tells = refl; faults = le_of_eq refl }

pub returns-in_default-new-2-clause-later : goal.returns-in_default-new-2-clause-later
returns-in_default-new-2-clause-later g c = (c.read_config.ensures.later, le_of_eq refl)

pub returns-in-Err-clause-read : goal.returns-in-Err-clause-read
returns-in-Err-clause-read g c = c.in-Err.ensures.read

pub returns-in-Err-clause-goes : goal.returns-in-Err-clause-goes
returns-in-Err-clause-goes g c = record { tells = refl; faults = le_of_eq refl }

pub returns-in-Err-clause-later : goal.returns-in-Err-clause-later
returns-in-Err-clause-later g c = (c.read_config.ensures.later, le_of_eq refl)

pub returns-in-Ok-open_image-clause-read : goal.returns-in-Ok-open_image-clause-read
returns-in-Ok-open_image-clause-read g c = λ e. rose-back _ _ _ c.read_config.ensures.later (c.run_session.ensures.read e)

pub returns-in-Ok-open_image-clause-write : goal.returns-in-Ok-open_image-clause-write
returns-in-Ok-open_image-clause-write g c = c.run_session.ensures.write

pub returns-in-Ok-open_image-clause-later : goal.returns-in-Ok-open_image-clause-later
returns-in-Ok-open_image-clause-later g c = (le_trans c.read_config.ensures.later c.run_session.ensures.later.0, c.run_session.ensures.later.1)

pub returns-clause-later : goal.returns-clause-later
returns-clause-later g c = (c.read_config.ensures.later, le_of_eq refl)

pub run_session-requires-clause-whole : goal.run_session-requires-clause-whole
run_session-requires-clause-whole g c = c.in-Ok-read_config.ensures.whole

pub run_session-requires-clause-in_hand : goal.run_session-requires-clause-in_hand
run_session-requires-clause-in_hand g c = c.in-Ok-read_config.ensures.in_hand
