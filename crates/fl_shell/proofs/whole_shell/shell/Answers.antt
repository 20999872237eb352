use Rattle.std.proofs.Common.{inl, Ok, Err, refl, sym, ◌∙◌, ap, length, subst, le_trans}
use Rattle.std.proofs.Math.Nat.{le_refl}
use Rattle.fl_base.proofs.Risen.{rose-back}
use Rattle.fl_ends.specs.declared.shell.ShellStatus.TheVariants.{NoMemory}
use Rattle.fl_session.specs.Ends.{told_of}
use Rattle.fl_session.proofs.Over.{media-goes_on}
use Rattle.fl_shell.specs.Input.{InputEnds}
use Rattle.fl_shell.proofs.CompleteEnds.{completes, completes-none, looks-early, memory-make, memory-read, memory-write}
use Rattle.fl_shell.proofs.EarlyEnds.{begin-failed, ends-of, looks-goes, untouched}
use Rattle.fl_shell.proofs.ShellEnds.{unread-begins, unread-few, unread-left, unread-short}
use Rattle.fl_shell.proofs.CausedEnds.{caused-of, early-caused}
use Rattle.fl_shell.proofs.whole_shell.shell.Goals as goal

pub shell_begun-requires : goal.shell_begun-requires
shell_begun-requires g c = record { whole = c.in-Ok-begin.ensures.whole }

-- ---- there is no memory for lines

pub returns-in_default-clause-ends : goal.returns-in_default-clause-ends
returns-in_default-clause-ends g c = λ text tells told.
    let old = g.M.Media.state c.args.media.now in
    let S = g.S.Source in
    let K = g.K.Sink in
    ends-of text (told_of old old (S.left c.args.input.now) (K.written c.args.out.now) (K.written c.args.out.now)) NoMemory c.of.result c.of.ensures.status
    (c.of.ensures.flushed, inl (untouched old old (S.left c.args.input.now) (K.written c.args.out.now) (K.written c.args.out.now) refl refl))

pub returns-in_default-clause-causes : goal.returns-in_default-clause-causes
returns-in_default-clause-causes g c = λ text tells told.
    caused-of 64 text _ _ _ _ _ c.of.result.flushed NoMemory c.of.result.status c.of.ensures.status c.of.ensures.flushed

pub returns-in_default-clause-input : goal.returns-in_default-clause-input
returns-in_default-clause-input g c = λ text told. subst (InputEnds (length text) (g.S.Source.left c.args.input.now)) (sym c.of.ensures.status) tt

pub returns-in_default-clause-early : goal.returns-in_default-clause-early
returns-in_default-clause-early g c = let old = g.M.Media.state c.args.media.now in looks-early old old c.of.result.status refl

pub returns-in_default-clause-complete : goal.returns-in_default-clause-complete
returns-in_default-clause-complete g c = λ text tells told short is read write make. completes-none 64 text _ c.of.result.flushed c.of.result.status c.of.ensures.status (returns-in_default-clause-ends g c text tells told)

pub returns-in_default-clause-read : goal.returns-in_default-clause-read
returns-in_default-clause-read g c = λ e. absurd (memory-read _ c.of.ensures.status e)

pub returns-in_default-clause-write : goal.returns-in_default-clause-write
returns-in_default-clause-write g c = λ e. absurd (memory-write _ c.of.ensures.status e)

pub returns-in_default-clause-make : goal.returns-in_default-clause-make
returns-in_default-clause-make g c = λ e. absurd (memory-make _ c.of.ensures.status e)

pub returns-in_default-clause-goes : goal.returns-in_default-clause-goes
returns-in_default-clause-goes g c = record { tells = refl; faults = le_refl _ }

pub returns-in_default-clause-later : goal.returns-in_default-clause-later
returns-in_default-clause-later g c = (le_refl _, le_refl _)

pub returns-in_default-new-clause-ends : goal.returns-in_default-new-clause-ends
returns-in_default-new-clause-ends g c = λ text tells told.
    let old = g.M.Media.state c.args.media.now in
    let S = g.S.Source in
    let K = g.K.Sink in
    ends-of text (told_of old old (S.left c.args.input.now) (K.written c.args.out.now) (K.written c.args.out.now)) NoMemory c.of-in_default-new.result c.of-in_default-new.ensures.status
    (c.of-in_default-new.ensures.flushed, inl (untouched old old (S.left c.args.input.now) (K.written c.args.out.now) (K.written c.args.out.now) refl refl))

pub returns-in_default-new-clause-causes : goal.returns-in_default-new-clause-causes
returns-in_default-new-clause-causes g c = λ text tells told.
    caused-of 64 text _ _ _ _ _ c.of-in_default-new.result.flushed NoMemory c.of-in_default-new.result.status c.of-in_default-new.ensures.status c.of-in_default-new.ensures.flushed

pub returns-in_default-new-clause-input : goal.returns-in_default-new-clause-input
returns-in_default-new-clause-input g c = λ text told. subst (InputEnds (length text) (g.S.Source.left c.args.input.now)) (sym c.of-in_default-new.ensures.status) tt

pub returns-in_default-new-clause-early : goal.returns-in_default-new-clause-early
returns-in_default-new-clause-early g c = let old = g.M.Media.state c.args.media.now in looks-early old old c.of-in_default-new.result.status refl

pub returns-in_default-new-clause-complete : goal.returns-in_default-new-clause-complete
returns-in_default-new-clause-complete g c = λ text tells told short is read write make.
    completes-none 64 text _ c.of-in_default-new.result.flushed c.of-in_default-new.result.status c.of-in_default-new.ensures.status (returns-in_default-new-clause-ends g c text tells told)

pub returns-in_default-new-clause-read : goal.returns-in_default-new-clause-read
returns-in_default-new-clause-read g c = λ e. absurd (memory-read _ c.of-in_default-new.ensures.status e)

pub returns-in_default-new-clause-write : goal.returns-in_default-new-clause-write
returns-in_default-new-clause-write g c = λ e. absurd (memory-write _ c.of-in_default-new.ensures.status e)

pub returns-in_default-new-clause-make : goal.returns-in_default-new-clause-make
returns-in_default-new-clause-make g c = λ e. absurd (memory-make _ c.of-in_default-new.ensures.status e)

pub returns-in_default-new-clause-goes : goal.returns-in_default-new-clause-goes
returns-in_default-new-clause-goes g c = record { tells = refl; faults = le_refl _ }

pub returns-in_default-new-clause-later : goal.returns-in_default-new-clause-later
returns-in_default-new-clause-later g c = (le_refl _, le_refl _)

-- ---- no configuration was made or found

pub returns-in-Err-clause-ends : goal.returns-in-Err-clause-ends
returns-in-Err-clause-ends g c = λ text tells told.
    let old = g.M.Media.state c.args.media.now in
    let looked = g.M.Media.state c.begin.new.media in
    let S = g.S.Source in
    let K = g.K.Sink in
    let fresh = c.in-Ok.ensures in
    let begins = unread-begins c.in-Ok.lines c.begin.new.lines old.content text (Err c.in-Err.status) (S.left c.begin.new.input) (K.written c.args.out.now) (K.written c.begin.new.out) fresh
    (c.in-Err.ensures.begins text (length text) tells told (unread-left c.in-Ok.lines text fresh) (unread-short c.in-Ok.lines fresh)) in
    ends-of text (told_of old looked (S.left c.begin.new.input) (K.written c.args.out.now) (K.written c.begin.new.out)) c.in-Err.status c.of-in-Err.result c.of-in-Err.ensures.status
    (begin-failed 64 text old looked c.begin.new.lines (S.left c.begin.new.input) (K.written c.args.out.now) (K.written c.begin.new.out) c.of-in-Err.result.flushed c.in-Err.status c.of-in-Err.ensures.flushed c.in-Err.ensures.looks begins)

pub returns-in-Err-clause-causes : goal.returns-in-Err-clause-causes
returns-in-Err-clause-causes g c = λ text tells told.
    let old = g.M.Media.state c.args.media.now in
    let looked = g.M.Media.state c.begin.new.media in
    let S = g.S.Source in
    let K = g.K.Sink in
    let fresh = c.in-Ok.ensures in
    let begins = unread-begins c.in-Ok.lines c.begin.new.lines old.content text (Err c.in-Err.status) (S.left c.begin.new.input) (K.written c.args.out.now) (K.written c.begin.new.out) fresh
    (c.in-Err.ensures.begins text (length text) tells told (unread-left c.in-Ok.lines text fresh) (unread-short c.in-Ok.lines fresh)) in
    caused-of 64 text old looked (S.left c.begin.new.input) (K.written c.args.out.now) (K.written c.begin.new.out) c.of-in-Err.result.flushed c.in-Err.status c.of-in-Err.result.status c.of-in-Err.ensures.status
    (early-caused 64 text old looked c.begin.new.lines (S.left c.begin.new.input) (K.written c.args.out.now) (K.written c.begin.new.out) c.of-in-Err.result.flushed c.in-Err.status c.of-in-Err.ensures.flushed c.in-Err.ensures.looks begins)

pub returns-in-Err-clause-input : goal.returns-in-Err-clause-input
returns-in-Err-clause-input g c = λ text told.
    subst (InputEnds (length text) (g.S.Source.left c.begin.new.input)) (sym c.of-in-Err.ensures.status) (c.in-Err.ensures.input text (length text) told (unread-left c.in-Ok.lines text c.in-Ok.ensures))

pub returns-in-Err-clause-early : goal.returns-in-Err-clause-early
returns-in-Err-clause-early g c = looks-early (g.M.Media.state c.args.media.now) (g.M.Media.state c.begin.new.media) c.of-in-Err.result.status c.in-Err.ensures.looks.content

pub returns-in-Err-clause-complete : goal.returns-in-Err-clause-complete
returns-in-Err-clause-complete g c = λ text tells told short is read write make.
    let same = c.of-in-Err.ensures.status in
    completes 64 text _ c.of-in-Err.result.flushed c.of-in-Err.result.status short is (returns-in-Err-clause-input g c text told)
    (λ e. read (c.in-Err.ensures.read (ap Err (sym same ∙ e)))) (λ e. write (c.in-Err.ensures.write (ap Err (sym same ∙ e)))) (λ e. make (c.in-Err.ensures.make (ap Err (sym same ∙ e))))
    (returns-in-Err-clause-ends g c text tells told)

pub returns-in-Err-clause-read : goal.returns-in-Err-clause-read
returns-in-Err-clause-read g c = λ e. c.in-Err.ensures.read (ap Err (sym c.of-in-Err.ensures.status ∙ e))

pub returns-in-Err-clause-write : goal.returns-in-Err-clause-write
returns-in-Err-clause-write g c = λ e. c.in-Err.ensures.write (ap Err (sym c.of-in-Err.ensures.status ∙ e))

pub returns-in-Err-clause-make : goal.returns-in-Err-clause-make
returns-in-Err-clause-make g c = λ e. c.in-Err.ensures.make (ap Err (sym c.of-in-Err.ensures.status ∙ e))

pub returns-in-Err-clause-goes : goal.returns-in-Err-clause-goes
returns-in-Err-clause-goes g c = looks-goes _ _ c.in-Err.ensures.looks

pub returns-in-Err-clause-later : goal.returns-in-Err-clause-later
returns-in-Err-clause-later g c = c.in-Err.ensures.later

-- ---- the lines behind the configuration

pub returns-clause-ends : goal.returns-clause-ends
returns-clause-ends g c = λ text tells told.
    let old = g.M.Media.state c.args.media.now in
    let S = g.S.Source in
    let K = g.K.Sink in
    let fresh = c.in-Ok.ensures in
    let b = c.in-Ok-begin.ensures in
    c.shell_begun.ensures.ends text old (K.written c.args.out.now) tells b.looks (λ more. unread-few c.in-Ok.lines _ fresh (b.fewer more))
    (unread-begins c.in-Ok.lines c.begin.new.lines old.content text (Ok c.in-Ok-begin.begun) (S.left c.begin.new.input) (K.written c.args.out.now) (K.written c.begin.new.out) fresh
    (b.begins text (length text) tells told (unread-left c.in-Ok.lines text fresh) (unread-short c.in-Ok.lines fresh)))

pub returns-clause-causes : goal.returns-clause-causes
returns-clause-causes g c = λ text tells told.
    let old = g.M.Media.state c.args.media.now in
    let S = g.S.Source in
    let K = g.K.Sink in
    let fresh = c.in-Ok.ensures in
    let b = c.in-Ok-begin.ensures in
    c.shell_begun.ensures.causes text old (K.written c.args.out.now) tells b.looks
    (unread-begins c.in-Ok.lines c.begin.new.lines old.content text (Ok c.in-Ok-begin.begun) (S.left c.begin.new.input) (K.written c.args.out.now) (K.written c.begin.new.out) fresh
    (b.begins text (length text) tells told (unread-left c.in-Ok.lines text fresh) (unread-short c.in-Ok.lines fresh)))

pub returns-clause-input : goal.returns-clause-input
returns-clause-input g c = λ text told. c.shell_begun.ensures.input (length text) (c.in-Ok-begin.ensures.input text (length text) told (unread-left c.in-Ok.lines text c.in-Ok.ensures))

pub returns-clause-early : goal.returns-clause-early
returns-clause-early g c = c.shell_begun.ensures.early (g.M.Media.state c.args.media.now) c.in-Ok-begin.ensures.looks

pub returns-clause-read : goal.returns-clause-read
returns-clause-read g c = λ e. rose-back _ _ _ c.in-Ok-begin.ensures.later.0 (c.shell_begun.ensures.read e)

pub returns-clause-write : goal.returns-clause-write
returns-clause-write g c = λ e. rose-back _ _ _ c.in-Ok-begin.ensures.later.1 (c.shell_begun.ensures.write e)

pub returns-clause-make : goal.returns-clause-make
returns-clause-make g c = λ e. rose-back _ _ _ c.in-Ok-begin.ensures.looks.later (c.shell_begun.ensures.make e)

pub returns-clause-goes : goal.returns-clause-goes
returns-clause-goes g c = media-goes_on _ _ _ (looks-goes _ _ c.in-Ok-begin.ensures.looks) c.shell_begun.ensures.goes

pub returns-clause-later : goal.returns-clause-later
returns-clause-later g c = (le_trans c.in-Ok-begin.ensures.later.0 c.shell_begun.ensures.later.0, le_trans c.in-Ok-begin.ensures.later.1 c.shell_begun.ensures.later.1)

pub returns-clause-complete : goal.returns-clause-complete
returns-clause-complete g c = λ text tells told short is read write make.
    completes 64 text _ c.shell_begun.result.flushed c.shell_begun.result.status short is (returns-clause-input g c text told)
    (λ e. read (returns-clause-read g c e)) (λ e. write (returns-clause-write g c e)) (λ e. make (returns-clause-make g c e)) (returns-clause-ends g c text tells told)
