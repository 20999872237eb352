-- A command that was executed up to its reply, and the reply that was written.
use Rattle.std.proofs.Common.{◌≡◌, ℕ, Bool, IsTrue, true, false, Option, Some, None, Result, List, [], ◌∷◌, refl, sym, ap, subst, MatchBool, MatchOption}
use Rattle.fl_base.specs.Causes.{Rose}
use Rattle.fl_flash.specs.Flash.{FlashState}
use Rattle.fl_flash.specs.Media.{MediaState}
use Rattle.fl_model.specs.Record.{Config}
use Rattle.fl_frame.specs.Contents.{Contents, OnlyReads}
use Rattle.fl_words.specs.Command.{Command}
use Rattle.fl_words.specs.Reply as reply
use Rattle.fl_words.specs.Reply.{Reply, text, texts}
use Rattle.fl_machine.specs.Machine.{Machine}
use Rattle.fl_machine.specs.Reads.{none_read}
use Rattle.fl_machine.specs.Stays.{MomentStays}
use Rattle.fl_machine.specs.Step.{Moment, Step, StepOf, Says, Located, located, WhenMounted, WithTable}
use Rattle.fl_script.specs.Written.{Written}
use Rattle.fl_store.specs.declared.tables.Entry.{Entry}
use Rattle.fl_session.specs.Answer.{Answers}
use Rattle.fl_session.specs.Cost.{CountsReads, ReadsAsStated}
use Rattle.fl_session.specs.Execute.{Executes}
use Rattle.fl_session.specs.Standing.{SessionStands}
use Rattle.fl_session.specs.declared.notes.Notes.{Notes}
use Rattle.fl_queries.proofs.RowLines.{one-text}
use Rattle.fl_session.proofs.ExecutedCommand.{executes-by}
use Rattle.fl_session.proofs.Rested.{stays-still}

-- the replies were written
pub executes-answered : (E : Type 0) (config : Config) (old : Machine) (command : Command) (stands : Machine → Type 0) (f g : FlashState) (said : List ℕ) (told told_now : Option (List ℕ)) (result : Result (Unit {0}) E) →
    Answers config old command stands f g said → ((moment : Moment) → none_read moment → CountsReads f moment g command) → ((moment : Moment) → none_read moment → ReadsAsStated config old moment g result command) → Written {E = E} told told_now result said →
    Executes config old command stands f g told told_now result
executes-answered E config old command stands f g said told told_now result a reads stated w =
    executes-by E config old command stands f g told told_now result a.moment a.command_is a.step a.stands_after a.stays (reads a.moment a.none) (stated a.moment a.none) a.rose (subst (λ t. Written {E = E} told told_now result t) (sym a.said_is) w)

-- what reads leave of the medium
pub executes-read : (E : Type 0) (config : Config) (old : Machine) (command : Command) (entries : List Entry) (notes : Notes) (f g : FlashState) (mounted : Bool) (told told_now : Option (List ℕ)) (result : Result (Unit {0}) E) (moment : Moment) → OnlyReads f g →
    moment.command ≡ command → Step config old moment → SessionStands config entries g mounted notes moment.after → CountsReads f moment g command → ReadsAsStated config old moment g result command → (IsTrue moment.rose → Rose f.media.faults g.media.faults) →
    Written {E = E} told told_now result (texts moment.replies) → Executes config old command (SessionStands config entries g mounted notes) f g told told_now result
executes-read E config old command entries notes f g mounted told told_now result moment only is step s reads stated rose w =
    executes-by E config old command (SessionStands config entries g mounted notes) f g told told_now result moment is step s
    (stays-still config old moment entries notes f g mounted s (ap (λ (c : Contents). c.bytes) only.contents)) reads stated rose w

-- a moment that says one thing and reads nothing
abbrev pub saying : Command → List Reply → Machine → Moment
saying c replies after = record { command = c; rose = false; reads = 0; last = None; replies = replies; after = after }

pub says : (c : Command) (replies : List Reply) (after : Machine) → Says (saying c replies after) replies after
says c replies after = record { replies_are = refl; after_is = refl; last_is = refl }

-- a command that says one thing and leaves the medium's content as it is
pub answers-saying : (config : Config) (old : Machine) (c : Command) (r : Reply) (after : Machine) (entries : List Entry) (notes : Notes) (f g : FlashState) (mounted : Bool) → g.media.content ≡ f.media.content →
    Step config old (saying c (r ∷ []) after) → SessionStands config entries g mounted notes after → Answers config old c (SessionStands config entries g mounted notes) f g (text r)
answers-saying config old c r after entries notes f g mounted same step s = record {
  moment = saying c (r ∷ []) after;
  command_is = refl;
  step = step;
  stands_after = s;
  none = refl;
  stays = stays-still config old (saying c (r ∷ []) after) entries notes f g mounted s same;
  rose = λ t. cc;
  said_is = one-text r;
}

-- .. over a flash with the same medium
pub answers-media : (config : Config) (old : Machine) (c : Command) (stands : Machine → Type 0) (f f' g : FlashState) (said : List ℕ) → f.media ≡ f'.media → Answers config old c stands f g said → Answers config old c stands f' g said
answers-media config old c stands f f' g said e a = record {
  moment = a.moment;
  command_is = a.command_is;
  step = a.step;
  stands_after = a.stands_after;
  none = a.none;
  stays = subst (λ (m : MediaState). MomentStays config old a.moment m.content g.media.content) e a.stays;
  rose = subst (λ (m : MediaState). IsTrue a.moment.rose → Rose m.faults g.media.faults) e a.rose;
  said_is = a.said_is;
}

-- a step of a moment whose command is known
pub step-is : (config : Config) (old : Machine) (moment : Moment) (c : Command) → moment.command ≡ c → StepOf config old moment c → Step config old moment
step-is config old moment c is step = subst (λ x. StepOf config old moment x) (sym is) step

-- nothing is mounted, or the table is another's
when-mounted : (old : Machine) (moment : Moment) (P : Type 0) → old.mounted ≡ true → P → WhenMounted old moment P
when-mounted old moment P e p = subst (λ b. MatchBool b P (Says moment (reply.NotMounted ∷ []) old)) (sym e) p

pub not_mounted-step : (config : Config) (old : Machine) (c : Command) (name : List ℕ) (P : Located → Type 0) → old.mounted ≡ false → WithTable config old (saying c (reply.NotMounted ∷ []) old) name P
not_mounted-step config old c name P e =
    let moment = saying c (reply.NotMounted ∷ []) old in
    subst (λ b. MatchBool b (MatchOption (located config old name) (Says moment (reply.NoTable ∷ []) old) P) (Says moment (reply.NotMounted ∷ []) old)) (sym e) (says c (reply.NotMounted ∷ []) old)

pub no_table-step : (config : Config) (old : Machine) (c : Command) (name : List ℕ) (P : Located → Type 0) → old.mounted ≡ true → located config old name ≡ None → WithTable config old (saying c (reply.NoTable ∷ []) old) name P
no_table-step config old c name P e k =
    let moment = saying c (reply.NoTable ∷ []) old in
    when-mounted old moment (MatchOption (located config old name) (Says moment (reply.NoTable ∷ []) old) P) e
    (subst (λ (at : Option Located). MatchOption at (Says moment (reply.NoTable ∷ []) old) P) (sym k) (says c (reply.NoTable ∷ []) old))

pub table-step : (config : Config) (old : Machine) (moment : Moment) (name : List ℕ) (P : Located → Type 0) (at : Located) → old.mounted ≡ true → located config old name ≡ Some at → P at → WithTable config old moment name P
table-step config old moment name P at e k p =
    when-mounted old moment (MatchOption (located config old name) (Says moment (reply.NoTable ∷ []) old) P) e
    (subst (λ (x : Option Located). MatchOption x (Says moment (reply.NoTable ∷ []) old) P) (sym k) p)
