-- How a shell ends over an image that was opened.
use Rattle.std.proofs.Common.{◌≡◌, ℕ, ◌^◌, ◌≤◌, inl, false, IsTrue, Option, Some, Result, List, [], length, lit≤, refl, sym, ◌∙◌, ap, subst, le_trans, arith}
use Rattle.fl_flash.specs.Flash.{FlashState, Stays}
use Rattle.fl_flash.specs.Media.{MediaState}
use Rattle.fl_image.specs.Image.{OnlyLooksAt}
use Rattle.fl_lines.specs.Stream.{LinesState}
use Rattle.fl_machine.specs.Machine.{Machine}
use Rattle.fl_machine.specs.Script.{StandsFor, StandsAfter}
use Rattle.fl_model.specs.Record.{Config}
use Rattle.fl_ends.specs.declared.shell.Flushed.{Flushed}
use Rattle.fl_ends.specs.declared.shell.ShellStatus.{ShellStatus}
use Rattle.fl_ends.specs.declared.shell.ShellStatus.TheVariants.{Done, InputRead, InputLong, OutWrite, Unflushed}
use Rattle.fl_session.specs.Ends.{told_of}
use Rattle.fl_session.specs.Execute.{IsReady, StandsAlike}
use Rattle.fl_session.specs.Opening.{KeepsForm, MediaGoes, Opened}
use Rattle.fl_session.specs.Standing.{RestsTold}
use Rattle.fl_session.proofs.Over.{kept-formed}
use Rattle.fl_session.proofs.Ready.{after-alike, stands-ready}
use Rattle.fl_session.proofs.Rested.{opened-content, opened-formed, opened-rests}
use Rattle.fl_words.specs.Grammar.{lines_of}
use Rattle.fl_store.specs.NewImage.{made_image}
use Rattle.fl_shell.specs.Ends.{Ended, ShellEnds}
use Rattle.fl_shell.specs.Leading.{BeginsAs, others_of}
use Rattle.fl_shell.specs.Reading.{IsLeft, rest_in}
use Rattle.fl_shell.specs.Statuses.{IsOfSession}
use Rattle.fl_shell.specs.Talking.{MediumEnds}
use Rattle.fl_shell.specs.declared.begin.Begun.{Begun}
use Rattle.fl_shell.proofs.EarlyEnds.{BeginsOn}
use Rattle.fl_shell.proofs.TalkEnds.{medium-over}

ended-over : (knots : ℕ) (text : List ℕ) (begun : Begun) (config : Config) (old looked made new : MediaState) (state : LinesState) (left left_now told told_mid told_now : Option (List ℕ)) (flushed : Flushed) (status : ShellStatus) → IsTrue old.tells → OnlyLooksAt old looked →
    (b : BeginsOn knots old.content (lines_of text) (length text) begun config state left told told_mid) → Opened config looked made → MediaGoes looked made → KeepsForm made new → IsOfSession status →
    ((m : Machine) → IsReady config m → RestsTold config made m →
    MediumEnds config m (others_of begun (length text) state left b.leaves) (length text) (StandsAfter config (Some new.content)) made.content new.content made.faults new.faults told_mid told_now left_now flushed status) →
    Ended knots text flushed status (told_of old new left_now told told_now)
ended-over knots text begun config old looked made new state left left_now told told_mid told_now flushed status tells looks b opens goes kept of talks =
    let others = others_of begun (length text) state left b.leaves in
    let looked_tells : IsTrue looked.tells = subst IsTrue (sym looks.tells) tells in
    let made_tells : IsTrue made.tells = subst IsTrue (sym goes.tells) looked_tells in
    let is : made.content ≡ made_image config old.content = opened-content config looked made looked_tells opens ∙ ap (made_image config) looks.content in
    record {
      config = config;
      others = others;
      answers = b.answers;
      begins = b.begins;
      formed = kept-formed config made new (opened-formed config looked made looked_tells opens) made_tells kept;
      begun = told_mid;
      begun_told = b.written;
      talks = λ m stood.
          let rests : RestsTold config made m = (made_tells, opened-rests config looked made m looked_tells opens (subst (λ c. StandsFor config c m) (sym looks.content) stood)) in
          subst (λ c. MediumEnds config m others (length text) (StandsAfter config (Some new.content)) c new.content old.faults new.faults told_mid told_now left_now flushed status) is
          (medium-over config m others (length text) (StandsAfter config (Some new.content)) (StandsAfter config (Some new.content)) made.content new.content old.faults made.faults new.faults told_mid told_now left_now flushed status (λ x stands. stands) (le_trans looks.later goes.faults)
          (talks m (stands-ready config old.content m b.accepted stood) rests));
    }

-- the lines of an input were answered over an image
pub shell-ends : (knots : ℕ) (text : List ℕ) (begun : Begun) (config : Config) (old looked made new : MediaState) (state : LinesState) (left left_now told told_mid told_now : Option (List ℕ)) (flushed : Flushed) (status : ShellStatus) → IsTrue old.tells → OnlyLooksAt old looked →
    (b : BeginsOn knots old.content (lines_of text) (length text) begun config state left told told_mid) → Opened config looked made → MediaGoes looked made → KeepsForm made new → IsOfSession status →
    ((m : Machine) → IsReady config m → RestsTold config made m →
    MediumEnds config m (others_of begun (length text) state left b.leaves) (length text) (StandsAfter config (Some new.content)) made.content new.content made.faults new.faults told_mid told_now left_now flushed status) →
    ShellEnds knots text (told_of old new left_now told told_now) flushed status
shell-ends knots text begun config old looked made new state left left_now told told_mid told_now flushed status tells looks b opens goes kept of talks =
    by_status status of (ended-over knots text begun config old looked made new state left left_now told told_mid told_now flushed status tells looks b opens goes kept of talks)
  where
    by_status : (status : ShellStatus) → IsOfSession status → Ended knots text flushed status (told_of old new left_now told told_now) → ShellEnds knots text (told_of old new left_now told told_now) flushed status
    by_status Done of h = h
    by_status Unflushed of h = h
    by_status InputRead of h = inl h
    by_status InputLong of h = inl h
    by_status OutWrite of h = inl h
    by_status status of h = absurd of

-- ---- a session over the medium

-- what a session did, seen as its medium is given back
pub over-medium : (config : Config) (old : Machine) (all : List (List ℕ)) (total : ℕ) (stands : Machine → Type 0) (m m' before after : MediaState) (told told_now left_now : Option (List ℕ)) (flushed : Flushed) (status : ShellStatus) → m ≡ before → after ≡ m' →
    ((x : Machine) → stands x → StandsAfter config (Some after.content) x) → MediumEnds config old all total (StandsAlike stands) m.content m'.content m.faults m'.faults told told_now left_now flushed status →
    MediumEnds config old all total (StandsAfter config (Some after.content)) before.content after.content before.faults after.faults told told_now left_now flushed status
over-medium config old all total stands m m' before after told told_now left_now flushed status is after_is seen h =
    subst (λ (x : MediaState). MediumEnds config old all total (StandsAfter config (Some after.content)) x.content after.content x.faults after.faults told told_now left_now flushed status) is
    (subst (λ (y : MediaState). MediumEnds config old all total (StandsAfter config (Some after.content)) m.content y.content m.faults y.faults told told_now left_now flushed status) (sym after_is)
    (medium-over config old all total (StandsAlike stands) (StandsAfter config (Some after.content)) m.content m'.content m.faults m.faults m'.faults told told_now left_now flushed status
    (after-alike config (Some after.content) stands seen) (omega arith) h))

pub over-goes : (f f' : FlashState) (before after : MediaState) → f.media ≡ before → after ≡ f'.media → Stays f f' → MediaGoes before after
over-goes f f' before after is after_is goes = subst (λ x. MediaGoes x after) is (subst (λ y. MediaGoes f.media y) (sym after_is) (record { tells = goes.tells; faults = goes.faults }))

-- ---- an input of which nothing was read

abbrev pub unread : LinesState
unread = record { line = []; ahead = []; most = 2 ^ 44; closed = false }

pub unread-left : (state : LinesState) (text : List ℕ) → state ≡ unread → IsLeft state text (2 ^ 44) (length text)
unread-left state text is = subst (λ s. IsLeft s text (2 ^ 44) (length text)) (sym is) (record { ended = λ e. cc; counted = λ e. refl })

pub unread-begins : (state new : LinesState) (content text : List ℕ) (result : Result Begun ShellStatus) (left_now told told_now : Option (List ℕ)) → state ≡ unread →
    BeginsAs content (lines_of (rest_in state text)) (length text) result new left_now told told_now → BeginsAs content (lines_of text) (length text) result new left_now told told_now
unread-begins state new content text result left_now told told_now is h =
    subst (λ s. BeginsAs content (lines_of (rest_in s text)) (length text) result new left_now told told_now) is h

pub unread-few : (state : LinesState) (n : ℕ) → state ≡ unread → n ≤ state.most → n ≤ 2 ^ 44
unread-few state n is few = subst (λ (s : LinesState). n ≤ s.most) is few

pub unread-short : (state : LinesState) → state ≡ unread → length state.line ≤ 4096
unread-short state is = subst (λ (s : LinesState). length s.line ≤ 4096) (sym is) (lit≤ tt)
