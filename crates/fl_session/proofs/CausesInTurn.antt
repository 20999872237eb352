-- Commands one after another, each of which has its cause; in a session, and in a whole run.
use Rattle.std.proofs.Common.{◌≡◌, ℕ, Option, Some, Result, Ok, Err, List, [], ◌∷◌, ◌++◌, refl, sym, subst}
use Rattle.fl_base.specs.declared.stream.SinkFailed.{SinkFailed}
use Rattle.fl_config.specs.declared.image.ImageRefusal.{ImageRefusal}
use Rattle.fl_config.specs.declared.image.ImageRefusal.TheVariants.{Media, Other}
use Rattle.fl_flash.specs.Flash.{Stays}
use Rattle.fl_flash.specs.Media.{MediaState}
use Rattle.fl_lines.specs.Stream.{LinesState}
use Rattle.fl_model.specs.Record.{Config}
use Rattle.fl_words.specs.Command.{Command}
use Rattle.fl_words.specs.Config.{Lines, whole}
use Rattle.fl_script.specs.declared.command.Command as code
use Rattle.fl_ends.specs.declared.run.Status.{Status}
use Rattle.fl_ends.specs.declared.run.Status.TheVariants.{MediaMake, OtherConfig}
use Rattle.fl_session.specs.Begin.{BeginsAt}
use Rattle.fl_session.specs.Caused.{Caused, IsPowered, State}
use Rattle.fl_session.specs.CausedEach.{CausedEach, CausedInto, EndsCaused, IsNewSession, RunOver, SessionOver, causes_of}
use Rattle.fl_session.specs.Opening.{MediaGoes, Opened, OpensAs}
use Rattle.fl_session.specs.Run.{RunsFrom, refused_status}
use Rattle.fl_session.specs.Told.{TellsRows}
use Rattle.fl_session.proofs.RunEnds.{ends-making, ends-of_run, ends-other, runs-seen}

caused-more : (commands : List Command) (command : Command) (old mid new : State) (told told_mid told_now : Option (List ℕ)) → CausedEach commands old mid told told_mid → IsPowered mid → Caused {E = SinkFailed} command mid new told_mid told_now (Ok tt) →
    CausedEach (commands ++ command ∷ []) old new told told_now
caused-more [] command old mid new told told_mid told_now h powered cause = (
  new,
  told_now,
  subst IsPowered h.0 powered,
  subst (λ s. Caused {E = SinkFailed} command s new told told_now (Ok tt)) h.0 (subst (λ t. Caused {E = SinkFailed} command mid new t told_now (Ok tt)) h.1 cause),
  (refl, refl),
)
caused-more (first ∷ commands) command old mid new told told_mid told_now h powered cause = (h.0, h.1, h.2, h.3, caused-more commands command h.0 mid new h.1 told_mid told_now h.4 powered cause)

-- one more command
pub caused-next : (command : Command) (old mid new : State) (told told_mid told_now : Option (List ℕ)) (result : Result (Unit {0}) SinkFailed) → result ≡ Ok tt → IsPowered mid → Caused command mid new told_mid told_now result →
    (commands : List Command) → CausedEach commands old mid told told_mid → CausedEach (commands ++ command ∷ []) old new told told_now
caused-next command old mid new told told_mid told_now result is powered cause commands h =
    caused-more commands command old mid new told told_mid told_now h powered (subst (λ r. Caused {E = SinkFailed} command mid new told_mid told_now r) is cause)

-- .. in whose reply the sink failed
pub caused-into : (command : Command) (old mid new : State) (told told_mid told_now : Option (List ℕ)) (result : Result (Unit {0}) SinkFailed) (failed : SinkFailed) → result ≡ Err failed → IsPowered mid → Caused command mid new told_mid told_now result →
    (commands : List Command) → CausedEach commands old mid told told_mid → CausedInto (commands ++ command ∷ []) old new told told_now
caused-into command old mid new told told_mid told_now result failed is powered cause commands h = record {
  before = commands;
  last = command;
  split = refl;
  mid = mid;
  told_mid = told_mid;
  each = h;
  powered = powered;
  failed = failed;
  cause = subst (λ r. Caused {E = SinkFailed} command mid new told_mid told_now r) is cause;
}

-- what a session that was just made executed until it ended
pub over-session : (first : Option code.Command) (number : ℕ) (state : LinesState) (left left_now told told_now : Option (List ℕ)) (lines : Lines) (opened new : MediaState) (begin end : State) (status : Status) →
    IsNewSession lines opened begin → Stays begin.flash end.flash → new ≡ end.flash.media → TellsRows end status →
    RunsFrom first number state left left_now (λ commands. CausedEach commands begin end told told_now) (λ commands. CausedInto commands begin end told told_now) status →
    RunsFrom first number state left left_now (λ commands. SessionOver lines opened new (λ begin end. CausedEach commands begin end told told_now × TellsRows end status)) (λ commands. SessionOver lines opened new (λ begin end. CausedInto commands begin end told told_now)) status
over-session first number state left left_now told told_now lines opened new begin end status begun goes left_as rows h =
    runs-seen first number state left left_now (λ commands. CausedEach commands begin end told told_now) (λ commands. CausedInto commands begin end told told_now)
    (λ commands. SessionOver lines opened new (λ begin end. CausedEach commands begin end told told_now × TellsRows end status)) (λ commands. SessionOver lines opened new (λ begin end. CausedInto commands begin end told told_now)) status
    (λ commands each. record { begin = begin; begun = begun; end = end; executed = (each, rows); goes = goes; left = sym left_as })
    (λ commands into. record { begin = begin; begun = begun; end = end; executed = into; goes = goes; left = sym left_as }) h

-- .. over an image that was opened
pub causes-opened : (knots : ℕ) (text : List ℕ) (lines : Lines) (first : Option code.Command) (number : ℕ) (state : LinesState) (left left_now told told_now : Option (List ℕ)) (config : Config) (old opened new : MediaState) (status : Status) →
    BeginsAt knots text lines first number state left → whole knots lines ≡ Some config → Opened config old opened → MediaGoes old opened →
    RunsFrom first number state left left_now (λ commands. SessionOver lines opened new (λ begin end. CausedEach commands begin end told told_now × TellsRows end status)) (λ commands. SessionOver lines opened new (λ begin end. CausedInto commands begin end told told_now)) status →
    EndsCaused knots text old new left_now told told_now status
causes-opened knots text lines first number state left left_now told told_now config old opened new status begins w opens goes h =
    ends-of_run (causes_of knots old new told told_now status) knots text lines first number state left left_now config status begins w
    (runs-seen first number state left left_now (λ commands. SessionOver lines opened new (λ begin end. CausedEach commands begin end told told_now × TellsRows end status)) (λ commands. SessionOver lines opened new (λ begin end. CausedInto commands begin end told told_now))
    (λ commands. RunOver knots config old new (λ begin end. CausedEach commands begin end told told_now × TellsRows end status)) (λ commands. RunOver knots config old new (λ begin end. CausedInto commands begin end told told_now)) status
    (λ commands s. record { lines = lines; lines_are = w; opened = opened; opens = opens; opening = goes; session = s })
    (λ commands s. record { lines = lines; lines_are = w; opened = opened; opens = opens; opening = goes; session = s }) h)

-- a run whose image wasn't opened
pub causes-refused : (knots : ℕ) (text : List ℕ) (lines : Lines) (first : Option code.Command) (number : ℕ) (state : LinesState) (left told : Option (List ℕ)) (config : Config) (old new : MediaState) (refusal : ImageRefusal) →
    BeginsAt knots text lines first number state left → whole knots lines ≡ Some config → OpensAs config old (Err refusal) new → EndsCaused knots text old new left told told (refused_status refusal)
causes-refused knots text lines first number state left told config old new Media begins w opens = ends-making (causes_of knots old new told told MediaMake) knots text lines first number state left config begins w (refl, opens)
causes-refused knots text lines first number state left told config old new (Other wanted found at) begins w opens = ends-other (causes_of knots old new told told (OtherConfig wanted found at)) knots text lines first number state left config wanted found at begins w (refl, opens)
