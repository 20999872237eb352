-- A command does just its operations where none of them fails.
use Rattle.std.proofs.Common.{◌≡◌, ◌+◌, ◌-◌, ◌^◌, ◌<◌, Bool, true, false, cond, IsTrue, None, ℕ, List, [], ◌∷◌, map, refl, sym, ◌∙◌, ap, subst, MatchBool}
use Rattle.fl_base.specs.Causes.{Rose}
use Rattle.fl_model.specs.Record.{Config}
use Rattle.fl_model.specs.Table.{lose}
use Rattle.fl_model.specs.Work.{Device}
use Rattle.fl_words.specs.Command as command
use Rattle.fl_words.specs.Command.{Command}
use Rattle.fl_words.specs.Medium.{IsImage}
use Rattle.fl_machine.specs.Determined.{SameRuns}
use Rattle.fl_machine.specs.Machine.{Machine}
use Rattle.fl_machine.specs.Operations.{operations_by, programs_in, erases_in, CountsOperations, CountsEach}
use Rattle.fl_machine.specs.Plain.{plain, plain_run}
use Rattle.fl_machine.specs.Run.{Run}
use Rattle.fl_machine.specs.Stays.{TablesStay, CommandStays}
use Rattle.fl_machine.specs.Step.{Moment, Step}
use Rattle.fl_machine.proofs.Determined.{determined}
use Rattle.fl_machine.proofs.Operations.{exact}
use Rattle.fl_session.specs.Operations.{CommandsAreExact}
use Rattle.fl_session.proofs.Rested.{session-ends}

not-risen : (b : Bool) (P : Type 0) → (IsTrue b → P) → (P → ⊥) → b ≡ false
not-risen true P h calm = absurd (calm (h refl))
not-risen false P h calm = refl

-- one step of a machine in which nothing fails
record IsCalmStep (config : Config) (old : Machine) (m : Moment) : Type 0 where
  whole : m.last ≡ None
  counts : CountsOperations old.device (operations_by config old m.command) m.after.device
  same : SameRuns old (m ∷ []) (plain_run config old (m.command ∷ []))

calm-step : (config : Config) (old : Machine) (m : Moment) → Step config old m → m.rose ≡ false → (plain config old m.command).last ≡ None → IsCalmStep config old m
calm-step config old m step rose whole =
    let run : Run config old (m ∷ []) = (step, tt) in
    let same : SameRuns old (m ∷ []) (plain_run config old (m.command ∷ [])) = determined config old (m ∷ []) run (ap (λ (b : Bool). cond b 1 0 + 0) rose) (whole, tt) in
    let counted : CountsEach config old (m ∷ []) = exact config old (m ∷ []) run in
    record { whole = same.whole.0; counts = counted.0.whole rose same.whole.0; same = same }

-- what a command leaves tells of its state the tables alone
stays-tables : (config : Config) (old : Machine) (c : Command) (a b : Machine) (bytes now : List ℕ) → a.tables ≡ b.tables → CommandStays config old c a bytes now → CommandStays config old c b bytes now
stays-tables config old (command.Put name key values blob) a b bytes now e h = subst (λ ts. MatchBool old.mounted (TablesStay config bytes now old.tables ts) (now ≡ bytes)) e h
stays-tables config old (command.Flush name) a b bytes now e h = subst (λ ts. MatchBool old.mounted (TablesStay config bytes now old.tables ts) (now ≡ bytes)) e h
stays-tables config old (command.Load name count step seed) a b bytes now e h = subst (λ ts. MatchBool old.mounted (TablesStay config bytes now old.tables ts) (now ≡ bytes)) e h
stays-tables config old c a b bytes now e h = h

pub commands-exact : CommandsAreExact
commands-exact config old command entries entries_now f f_now mounted mounted_now notes notes_now told told_now result stands e calm whole =
    let m = e.moment in
    let rose = not-risen m.rose (Rose f.media.faults f_now.media.faults) e.rose calm in
    let s = calm-step config old m e.step rose (subst (λ c. (plain config old c).last ≡ None) (sym e.command_is) whole) in
    let counts : CountsOperations old.device (operations_by config old command) m.after.device = subst (λ c. CountsOperations old.device (operations_by config old c) m.after.device) e.command_is s.counts in
    let after = e.stands_after in
    let device = e.alike.device in
    let programs : m.after.device.programs ≡ f_now.work.programs = sym (ap (λ (d : Device). d.programs) device) ∙ after.device.programs in
    let erases : m.after.device.erases ≡ f_now.work.erases = sym (ap (λ (d : Device). d.erases) device) ∙ after.device.erases in
    let left : m.after.tables ≡ (plain config old command).after.tables = ap (λ (x : Machine). x.tables) s.same.ends ∙ ap (λ (c : Command). (plain config old c).after.tables) e.command_is in
    let tables : e.after.tables ≡ (plain config old command).after.tables = e.alike.tables ∙ left in
    let stays : CommandStays config old command m.after f.media.content f_now.media.content = subst (λ c. CommandStays config old c m.after f.media.content f_now.media.content) e.command_is (e.stays.stays (λ mount. rose) s.whole) in record {
      programs = λ less. sym programs ∙ (counts.programs (subst (λ n. n < 2 ^ 64 - 1) (sym programs) less) ∙ ap (λ n. n + programs_in (operations_by config old command)) stands.device.programs);
      erases = λ less. sym erases ∙ (counts.erases (subst (λ n. n < 2 ^ 64 - 1) (sym erases) less) ∙ ap (λ n. n + erases_in (operations_by config old command)) stands.device.erases);
      content = subst (λ ts. IsImage config f_now.media.content (map lose ts)) tables (session-ends config entries_now notes_now f_now mounted_now e.after after);
      stays = stays-tables config old command m.after (plain config old command).after f.media.content f_now.media.content left stays;
    }
