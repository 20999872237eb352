-- How a shell ends, from the causes of the lines that it answered.
use Rattle.std.proofs.Common.{◌≡◌, ℕ, inl, inr, Option, Some, Err, List, [], ◌∷◌, length, sym, subst}
use Rattle.fl_config.specs.declared.image.ImageRefusal.{ImageRefusal}
use Rattle.fl_config.specs.declared.image.ImageRefusal.TheVariants.{Media, Other}
use Rattle.fl_flash.specs.Flash.{Stays}
use Rattle.fl_flash.specs.Media.{MediaState}
use Rattle.fl_image.specs.Image.{OnlyLooksAt}
use Rattle.fl_lines.specs.Stream.{LinesState}
use Rattle.fl_model.specs.Record.{Config}
use Rattle.fl_ends.specs.declared.shell.Flushed.{Flushed}
use Rattle.fl_ends.specs.declared.shell.ShellStatus.{ShellStatus}
use Rattle.fl_ends.specs.declared.shell.ShellStatus.TheVariants.{Done, InputRead, OutWrite, InputLong, MediaMake, Unconfigured, NotImage, Unflushed}
use Rattle.fl_session.specs.Caused.{State}
use Rattle.fl_session.specs.CausedEach.{IsNewSession, SessionOver}
use Rattle.fl_session.specs.Opening.{MediaGoes, Opened}
use Rattle.fl_words.specs.Config.{Lines, whole}
use Rattle.fl_words.specs.Grammar.{lines_of}
use Rattle.fl_shell.specs.Caused.{CausedBy, FlushesOver, TalkedOver}
use Rattle.fl_shell.specs.Causes.{CausedOver, SessionEnds, ShellCaused, names_of}
use Rattle.fl_shell.specs.Ends.{none_pending}
use Rattle.fl_shell.specs.Leading.{BeginsAs, others_of}
use Rattle.fl_shell.specs.Statuses.{IsOfSession, IsOfTalk, behind, opening_status}
use Rattle.fl_shell.specs.Talking.{EndsBy, TellsFlushed}
use Rattle.fl_shell.specs.declared.begin.Begun.{Begun}
use Rattle.fl_shell.proofs.EarlyEnds.{BeginsOn}
use Rattle.fl_shell.proofs.TalkEnds.{ends-behind, ends-map}

-- lines were answered, and then what was pending was flushed
pub flushed-behind : (names : List (List ℕ)) (all : List (List ℕ)) (total : ℕ) (old mid new : State) (told told_now left_now : Option (List ℕ)) (flushed : Flushed) (status : ShellStatus) → IsOfTalk status →
    EndsBy (λ front whole. CausedBy front whole old mid told told_now) all total left_now status → FlushesOver names mid new flushed →
    EndsBy (λ front whole. TalkedOver names front whole flushed told told_now old new) all total left_now (behind status flushed.all) × TellsFlushed flushed (behind status flushed.all)
flushed-behind names all total old mid new told told_now left_now flushed status of h flushes =
    ends-behind (λ front whole. CausedBy front whole old mid told told_now) (λ front whole. TalkedOver names front whole flushed told told_now old new) all total left_now flushed status of (λ front whole caused. (mid, caused, flushes)) h

-- .. by a session over a medium
pub session-ends : (lines : Lines) (opened new : MediaState) (begin end : State) (all : List (List ℕ)) (total : ℕ) (told told_now left_now : Option (List ℕ)) (flushed : Flushed) (status : ShellStatus) → IsNewSession lines opened begin → Stays begin.flash end.flash → new ≡ end.flash.media →
    EndsBy (λ front whole. TalkedOver (names_of lines) front whole flushed told told_now begin end) all total left_now status × TellsFlushed flushed status → SessionEnds lines opened new all total told told_now left_now flushed status
session-ends lines opened new begin end all total told told_now left_now flushed status begun goes left h = (
  ends-map (λ front whole. TalkedOver (names_of lines) front whole flushed told told_now begin end) (λ front whole. SessionOver lines opened new (TalkedOver (names_of lines) front whole flushed told told_now)) all total left_now status
      (λ front whole talked. record { begin = begin; begun = begun; end = end; executed = talked; goes = goes; left = sym left }) h.0,
  h.1,
)

-- .. over an image that was opened
pub shell-caused : (knots : ℕ) (text : List ℕ) (begun : Begun) (config : Config) (old looked opened new : MediaState) (state : LinesState) (left left_now told told_mid told_now : Option (List ℕ)) (flushed : Flushed) (status : ShellStatus) → OnlyLooksAt old looked →
    (b : BeginsOn knots old.content (lines_of text) (length text) begun config state left told told_mid) → whole knots begun.config ≡ Some config → Opened config looked opened → MediaGoes looked opened → IsOfSession status →
    SessionEnds begun.config opened new (others_of begun (length text) state left b.leaves) (length text) told_mid told_now left_now flushed status → ShellCaused knots text old new left_now told told_now flushed status
shell-caused knots text begun config old looked opened new state left left_now told told_mid told_now flushed status looks b w opens goes of h = by_status status of over
  where
    over : CausedOver knots text old new left_now told told_now flushed status
    over = record {
      config = config;
      others = others_of begun (length text) state left b.leaves;
      answers = b.answers;
      begins = b.begins;
      begun = told_mid;
      begun_told = b.written;
      lines = begun.config;
      lines_are = w;
      looked = looked;
      looks = looks;
      opened = opened;
      opens = opens;
      opening = goes;
      session = h;
    }

    by_status : (s : ShellStatus) → IsOfSession s → CausedOver knots text old new left_now told told_now flushed s → ShellCaused knots text old new left_now told told_now flushed s
    by_status Done of h = h
    by_status Unflushed of h = h
    by_status InputRead of h = inl h
    by_status InputLong of h = inl h
    by_status OutWrite of h = inl h
    by_status s of h = absurd of

-- ---- no session was begun

pub early-caused : (knots : ℕ) (text : List ℕ) (old new : MediaState) (state : LinesState) (left told told_now : Option (List ℕ)) (flushed : Flushed) (status : ShellStatus) → flushed ≡ none_pending → OnlyLooksAt old new →
    BeginsAs old.content (lines_of text) (length text) (Err status) state left told told_now → ShellCaused knots text old new left told told_now flushed status
early-caused knots text old new state left told told_now flushed status none looks h = by_content old.content status h
  where
    by_other : (s : ShellStatus) → s ≡ MediaMake → ShellCaused knots text old new left told told_now flushed s
    by_other s is = subst (ShellCaused knots text old new left told told_now flushed) (sym is) none

    by_content : (content : List ℕ) (s : ShellStatus) → BeginsAs content (lines_of text) (length text) (Err s) state left told told_now → ShellCaused knots text old new left told told_now flushed s
    by_content [] InputRead h = inr (none, looks)
    by_content [] InputLong h = inr (none, looks)
    by_content [] OutWrite h = inr (none, looks)
    by_content [] Unconfigured h = none
    by_content [] s h = absurd h
    by_content (byte ∷ bytes) NotImage h = none
    by_content (byte ∷ bytes) s h = by_other s h.0

-- .. since the image wasn't opened
pub opening-caused : (knots : ℕ) (text : List ℕ) (old new : MediaState) (left told told_now : Option (List ℕ)) (flushed : Flushed) (refusal : ImageRefusal) (status : ShellStatus) → status ≡ opening_status refusal → flushed ≡ none_pending → ShellCaused knots text old new left told told_now flushed status
opening-caused knots text old new left told told_now flushed Media status is none = subst (ShellCaused knots text old new left told told_now flushed) (sym is) none
opening-caused knots text old new left told told_now flushed (Other wanted found at) status is none = subst (ShellCaused knots text old new left told told_now flushed) (sym is) none

-- .. and the status tells nothing else of it
pub caused-of : (knots : ℕ) (text : List ℕ) (old new : MediaState) (left told told_now : Option (List ℕ)) (flushed : Flushed) (status given : ShellStatus) → given ≡ status → ShellCaused knots text old new left told told_now flushed status → ShellCaused knots text old new left told told_now flushed given
caused-of knots text old new left told told_now flushed status given is h = subst (ShellCaused knots text old new left told told_now flushed) (sym is) h
