-- How a shell ends before its image is opened, and where no image is.
use Rattle.std.proofs.Common.{◌≡◌, ℕ, inl, inr, IsTrue, Option, Some, Ok, Err, List, [], ◌∷◌, length, take, refl, sym, ◌∙◌, ap, subst, ◌+◌, ◌-◌, ◌^◌, ◌≤◌, min, arith}
use Rattle.std.specs.Prelude.{slice_get}
use Rattle.fl_base.specs.Causes.{Appends, Rose}
use Rattle.fl_base.proofs.Appended.{appends-none}
use Rattle.fl_config.specs.Whole.{Makes}
use Rattle.fl_config.specs.declared.image.ImageRefusal.{ImageRefusal}
use Rattle.fl_config.specs.declared.image.ImageRefusal.TheVariants.{Media, Other}
use Rattle.fl_flash.specs.Media.{MediaState}
use Rattle.fl_image.specs.Image.{IsImageOf, OnlyLooksAt}
use Rattle.fl_image.proofs.Made.{makes-of}
use Rattle.fl_lines.specs.Stream.{LinesState}
use Rattle.fl_machine.proofs.Accepted.{IsAccepted}
use Rattle.fl_model.specs.Record.{Config}
use Rattle.fl_ends.specs.declared.shell.Flushed.{Flushed}
use Rattle.fl_ends.specs.declared.shell.ShellEnd.{ShellEnd}
use Rattle.fl_ends.specs.declared.shell.ShellStatus.{ShellStatus}
use Rattle.fl_ends.specs.declared.shell.ShellStatus.TheVariants.{MediaMake, InputRead, OutWrite, Unconfigured, InputLong, NoMemory, NotImage}
use Rattle.fl_session.specs.Ends.{Told, IsOther, IsUntouched, told_of}
use Rattle.fl_session.specs.Opening.{MediaGoes, OpensAs}
use Rattle.fl_session.proofs.Over.{foreign-other}
use Rattle.fl_words.specs.Config.{Lines, whole}
use Rattle.fl_words.specs.Grammar.{lines_of}
use Rattle.fl_words.specs.Medium.{header}
use Rattle.fl_config.specs.Opening.{Differs}
use Rattle.fl_shell.specs.Ends.{BeginsWith, ShellEnds, Unbegun, UnbegunInto, none_pending}
use Rattle.fl_shell.specs.Leading.{BeginsAs, Led, LedInto, LeavesOn, others_of}
use Rattle.fl_shell.specs.Statuses.{opening_status}
use Rattle.fl_shell.specs.declared.begin.Begun.{Begun}
use Rattle.fl_shell.proofs.Accepted.{header-accepted, leads-accepted}

-- ---- the configuration

-- a whole configuration was made or found, and it is one that is accepted
pub record BeginsOn (knots : ℕ) (content : List ℕ) (all : List (List ℕ)) (total : ℕ) (begun : Begun) (config : Config) (new : LinesState) (left_now told told_now : Option (List ℕ)) : Type 0 where
  pub leaves : LeavesOn begun total new left_now
  pub answers : List ℕ
  pub begins : BeginsWith knots content all config (others_of begun total new left_now leaves) answers
  pub accepted : IsAccepted config
  pub written : Appends told told_now answers

pub begins-on : (knots : ℕ) (content : List ℕ) (all : List (List ℕ)) (total : ℕ) (begun : Begun) (config : Config) (new : LinesState) (left_now told told_now : Option (List ℕ)) →
    whole knots begun.config ≡ Some config → BeginsAs content all total (Ok begun) new left_now told told_now → BeginsOn knots content all total begun config new left_now told told_now
begins-on knots [] all total begun config new left_now told told_now w h = record {
  leaves = h.leaves;
  answers = h.led.answers;
  begins = record { made = begun.config; makes = w; begins = inl (refl, (h.front, h.split, h.led.leads, h.is_ended)) };
  accepted = leads-accepted knots begun.config h.front h.led.answers config h.led.leads w;
  written = h.led.written;
}
begins-on knots (byte ∷ bytes) all total begun config new left_now told told_now w h = record {
  leaves = h.leaves;
  answers = [];
  begins = record { made = begun.config; makes = w; begins = inr (h.accepted, h.image, h.others, refl) };
  accepted = header-accepted knots begun.config config h.accepted w;
  written = subst (λ t. Appends told t []) (sym h.silent) (appends-none told);
}

-- ---- no image was opened

-- .. of an end that is told so
pub ends-of : (text : List ℕ) (told : Told) (status : ShellStatus) (end : ShellEnd) → end.status ≡ status → ShellEnds 64 text told end.flushed status → ShellEnds 64 text told end.flushed end.status
ends-of text told status end is h = subst (ShellEnds 64 text told end.flushed) (sym is) h

pub looks-goes : (old new : MediaState) → OnlyLooksAt old new → MediaGoes old new
looks-goes old new looks = record { tells = looks.tells; faults = looks.later }

-- nothing was done
pub untouched : (old new : MediaState) (left told told_now : Option (List ℕ)) → new.content ≡ old.content → told_now ≡ told → IsUntouched (told_of old new left told told_now)
untouched old new left told told_now same silent = record { content = same; written = subst (λ t. Appends told t []) (sym silent) (appends-none told) }

led-unbegun : (old new : MediaState) (left told told_now : Option (List ℕ)) (lines : List (List ℕ)) (made : Lines) → old.content ≡ [] → new.content ≡ old.content → Led lines made told told_now → Unbegun lines made (told_of old new left told told_now)
led-unbegun old new left told told_now lines made empty same led = record { empty = empty; unmade = same ∙ empty; answers = led.answers; leads = led.leads; written = led.written }

into-unbegun : (old new : MediaState) (left told told_now : Option (List ℕ)) (lines : List (List ℕ)) → old.content ≡ [] → new.content ≡ old.content → LedInto lines told told_now → UnbegunInto lines (told_of old new left told told_now)
into-unbegun old new left told told_now lines empty same led = record {
  empty = empty;
  unmade = same ∙ empty;
  before = led.before;
  last = led.last;
  split = led.split;
  made = led.made;
  answers = led.answers;
  leads = led.leads;
  after = led.after;
  answer = led.answer;
  leads_last = led.leads_last;
  front = led.front;
  is_front = led.is_front;
  written = led.written;
}

-- .. and no configuration was made
pub begin-failed : (knots : ℕ) (text : List ℕ) (old new : MediaState) (state : LinesState) (left told told_now : Option (List ℕ)) (flushed : Flushed) (status : ShellStatus) → flushed ≡ none_pending → OnlyLooksAt old new →
    BeginsAs old.content (lines_of text) (length text) (Err status) state left told told_now → ShellEnds knots text (told_of old new left told told_now) flushed status
begin-failed knots text old new state left told told_now flushed status none looks h = by_content old.content refl status h
  where
    some : (byte : ℕ) (bytes : List ℕ) → old.content ≡ byte ∷ bytes → old.content ≡ [] → ⊥
    some byte bytes e empty = let k : byte ∷ bytes ≡ [] = sym e ∙ empty in cc

    by_content : (content : List ℕ) → old.content ≡ content → (status : ShellStatus) → BeginsAs content (lines_of text) (length text) (Err status) state left told told_now → ShellEnds knots text (told_of old new left told told_now) flushed status
    by_content [] e InputRead h = inr (none, (h.0, h.1, h.2, (h.3.0, led-unbegun old new left told told_now h.0 h.3.0 e looks.content h.3.1)))
    by_content [] e InputLong h = let k = h.1 in inr (none, h.0, (k.0, k.1, k.2, (k.3.0, led-unbegun old new left told told_now k.0 k.3.0 e looks.content k.3.1)))
    by_content [] e OutWrite h = inr (none, (h.0, h.1, h.2, into-unbegun old new left told told_now h.0 e looks.content h.3))
    by_content [] e Unconfigured h = let k = h.0 in (none, (k.0, led-unbegun old new left told told_now (lines_of text) k.0 e looks.content k.1, k.2), h.1)
    by_content [] e other h = absurd h
    by_content (byte ∷ bytes) e NotImage h =
        (none, some byte bytes e, untouched old new left told told_now looks.content h.1, λ lines accepted image. h.0 lines accepted (subst (λ c. IsImageOf c lines) e image))
    by_content (byte ∷ bytes) e other h = subst (ShellEnds knots text (told_of old new left told told_now) flushed) (sym h.0) (none, inl (some byte bytes e, untouched old new left told told_now looks.content h.1))

-- .. or there is no memory for a session
pub no-room : (knots : ℕ) (text : List ℕ) (begun : Begun) (old new : MediaState) (state : LinesState) (left told told_now : Option (List ℕ)) (flushed : Flushed) → flushed ≡ none_pending → OnlyLooksAt old new →
    BeginsAs old.content (lines_of text) (length text) (Ok begun) state left told told_now → ShellEnds knots text (told_of old new left told told_now) flushed NoMemory
no-room knots text begun old new state left told told_now flushed none looks h = by_content old.content refl h
  where
    by_content : (content : List ℕ) → old.content ≡ content → BeginsAs content (lines_of text) (length text) (Ok begun) state left told told_now → ShellEnds knots text (told_of old new left told told_now) flushed NoMemory
    by_content [] e h = (none, inr (h.front, others_of begun (length text) state left h.leaves, h.split, (begun.config, led-unbegun old new left told told_now h.front begun.config e looks.content h.led)))
    by_content (byte ∷ bytes) e h = (none, inl (untouched old new left told told_now looks.content h.silent))

-- a medium that is an image of a configuration isn't one of another
differs-none : (a b : List ℕ) (at x y : ℕ) → a ≡ b → Differs a b at x y → ⊥
differs-none a b at x y same h =
    let both : Some x ≡ Some y = sym h.wanted_is ∙ (ap (λ l. slice_get l at) same ∙ h.found_is) in
    let equal : x ≡ y = cc in
    h.differ equal

no-other : (lines : Lines) (config : Config) (content : List ℕ) (wanted found at : ℕ) → Makes lines config → IsImageOf content lines → IsOther config content wanted found at → ⊥
no-other lines config content wanted found at makes image other = elim other.1 [
  | inl k ↦ k.3 (k.0 ∙ (sym (image.size config makes) ∙ sym k.1))
  | inr k ↦ differs-none (header config) (take 1024 content) at wanted found (sym (image.head.text config makes)) k.1
]

-- .. or the medium failed
pub not-opened : (knots : ℕ) (text : List ℕ) (begun : Begun) (config : Config) (old looked new : MediaState) (state : LinesState) (left told told_now : Option (List ℕ)) (flushed : Flushed) (refusal : ImageRefusal) → flushed ≡ none_pending → IsTrue old.tells → OnlyLooksAt old looked →
    whole knots begun.config ≡ Some config → BeginsAs old.content (lines_of text) (length text) (Ok begun) state left told told_now → OpensAs config looked (Err refusal) new →
    ShellEnds knots text (told_of old new left told told_now) flushed (opening_status refusal)
not-opened knots text begun config old looked new state left told told_now flushed Media none tells looks w h opens =
    let b = begins-on knots old.content (lines_of text) (length text) begun config state left told told_now w h in
    let looked_tells : IsTrue looked.tells = subst IsTrue (sym looks.tells) tells in (
      none,
      inr (record {
        config = config;
        others = others_of begun (length text) state left b.leaves;
        answers = b.answers;
        begins = b.begins;
        written = b.written;
        kept = λ some. opens.kept (λ empty. some (sym looks.content ∙ empty)) ∙ looks.content;
        part = λ empty. opens.part (looks.content ∙ empty);
      }),
    )
not-opened knots text begun config old looked new state left told told_now flushed (Other wanted found at) none tells looks w h opens =
    let looked_tells : IsTrue looked.tells = subst IsTrue (sym looks.tells) tells in
    by_content old.content h (subst (λ c. IsOther config c wanted found at) looks.content (foreign-other config looked new wanted found at looked_tells opens))
  where
    by_content : (content : List ℕ) → BeginsAs content (lines_of text) (length text) (Ok begun) state left told told_now → IsOther config content wanted found at → ShellEnds knots text (told_of old new left told told_now) flushed NotImage
    by_content [] h other = absurd (other.0 refl)
    by_content (byte ∷ bytes) h other = absurd (no-other begun.config config (byte ∷ bytes) wanted found at (makes-of knots begun.config config w) h.image other)

-- what fails is the medium
pub open-rose : (config : Config) (old looked new : MediaState) (refusal : ImageRefusal) (status : ShellStatus) → status ≡ opening_status refusal → status ≡ MediaMake → old.faults ≤ looked.faults → OpensAs config looked (Err refusal) new → Rose old.faults new.faults
open-rose config old looked new Media status is e later opens =
    let rose : min (looked.faults + 1) (2 ^ 64 - 1) ≤ new.faults = opens.rose in
    omega (arith, later, rose)
open-rose config old looked new (Other wanted found at) status is e later opens = let odd : NotImage ≡ MediaMake = sym is ∙ e in cc
