-- What was run where nothing fails is what the plain machine does.
use Rattle.std.proofs.Common.{◌≡◌, ℕ, ◌+◌, ◌-◌, ◌^◌, inl, inr, Option, Some, List, [], ◌∷◌, map, sym, ap, subst, min, arith}
use Rattle.std.specs.List.{AllByRecursion, slice_get}
use Rattle.std.proofs.lemmas.Bool.{cases_lt}
use Rattle.fl_base.specs.Causes.{Rose}
use Rattle.fl_base.proofs.Tests.{not_counted}
use Rattle.fl_model.specs.Record.{Config}
use Rattle.fl_model.specs.Table.{Table, lose}
use Rattle.fl_words.specs.Command.{Command}
use Rattle.fl_words.specs.Medium.{IsImage}
use Rattle.fl_machine.specs.Determined.{IsWhole, SameRuns, state_without_reads}
use Rattle.fl_machine.specs.Machine.{Machine}
use Rattle.fl_machine.specs.Operations.{CountsEach, DoesEach}
use Rattle.fl_machine.specs.Plain.{plain_run}
use Rattle.fl_machine.specs.Run.{Run, end_of, commands_of, risen_in}
use Rattle.fl_machine.specs.Script.{Ran, RanInto, RoseBy, StandsAfter}
use Rattle.fl_machine.specs.Step.{Moment}
use Rattle.fl_machine.proofs.Determined.{determined}
use Rattle.fl_machine.proofs.Faults.{faults-caused}
use Rattle.fl_machine.proofs.Operations.{exact}
use Rattle.fl_ends.specs.declared.run.Status.{Status}
use Rattle.fl_ends.specs.declared.run.Status.TheVariants.{Done}
use Rattle.fl_session.specs.Determined.{IsUncut, IsPlainRun, RanPlainly, RanPlainlyInto}
use Rattle.fl_session.specs.Pending.{pending_of, TellsPending, EndsAt}

-- a count that didn't rise
none-risen : (n before now : ℕ) → (Rose before now → ⊥) → RoseBy n before now → n ≡ 0
none-risen n before now calm h =
    elim (cases_lt now (min (before + 1) (2 ^ 64 - 1))) [
      | inl less ↦ elim h [ inl k ↦ omega arith | inr k ↦ absurd (omega arith) ]
      | inr rose ↦ absurd (calm rose)
    ]

-- where nothing fails each moment does just its operations
pub does-each : (config : Config) (old : Machine) (moments : List Moment) → risen_in moments ≡ 0 → AllByRecursion IsWhole moments → CountsEach config old moments → DoesEach config old moments
does-each config old [] risen whole h = tt
does-each config old (m ∷ ms) risen whole h =
    (h.0.whole (not_counted m.rose (risen_in ms) risen) whole.0, does-each config m.after ms (omega (arith, risen)) whole.1 h.1)

plain-run : (config : Config) (old : Machine) (commands : List Command) (moments : List Moment) → commands_of moments ≡ commands → Run config old moments → risen_in moments ≡ 0 → IsUncut config old commands →
    IsPlainRun config old commands moments
plain-run config old commands moments e run risen uncut =
    let same : SameRuns old moments (plain_run config old commands) =
    subst (λ cs. SameRuns old moments (plain_run config old cs)) e (determined config old moments run risen (subst (λ cs. IsUncut config old cs) (sym e) uncut)) in record {
      commands_are = e;
      run = run;
      same = same;
      operations = does-each config old moments risen same.whole (exact config old moments run);
      no_fault = omega (arith, faults-caused config old moments run, risen);
    }

-- the medium stands for the plain machine's state
stands-plain : (config : Config) (content : List ℕ) (a b : Machine) → state_without_reads a ≡ state_without_reads b → StandsAfter config (Some content) a → StandsAfter config (Some content) b
stands-plain config content a b e h = subst (λ ts. IsImage config content (map lose ts)) (ap (λ (m : Machine). m.tables) e) h

-- .. of which a status tells what is pending
tells-plain : (config : Config) (status : Status) (a b : Machine) → state_without_reads a ≡ state_without_reads b → TellsPending config status a → TellsPending config status b
tells-plain config (Done pending) a b e h = subst (λ (ts : List Table). pending.tables ≡ map (λ place. pending_of (slice_get config.plans place) (slice_get ts place)) (0 ∷ 1 ∷ 2 ∷ 3 ∷ [])) (ap (λ (m : Machine). m.tables) e) h
tells-plain config status a b e h = tt

ends-plain : (config : Config) (status : Status) (content : List ℕ) (a b : Machine) → state_without_reads a ≡ state_without_reads b → EndsAt config status content a → EndsAt config status content b
ends-plain config status content a b e h = (stands-plain config content a b e h.0, tells-plain config status a b e h.1)

pub ran-plainly : (config : Config) (old : Machine) (commands : List Command) (status : Status) (content content_now : List ℕ) (faults faults_now : ℕ) (told told_now : Option (List ℕ)) →
    (Rose faults faults_now → ⊥) → IsUncut config old commands → Ran config old commands (EndsAt config status content_now) content content_now faults faults_now told told_now → RanPlainly config old commands status content content_now told told_now
ran-plainly config old commands status content content_now faults faults_now told told_now calm uncut h =
    let plain = plain-run config old commands h.moments h.commands_are h.run (none-risen (risen_in h.moments) faults faults_now calm h.rose) uncut in record {
      moments = h.moments;
      plain = plain;
      reads = h.reads;
      stands_after = ends-plain config status content_now (end_of old h.moments) (end_of old (plain_run config old commands)) plain.same.ends h.stands_after;
      stays = h.stays;
      told_all = h.told_all;
    }

pub ran_into-plainly : (config : Config) (old : Machine) (commands : List Command) (content content_now : List ℕ) (faults faults_now : ℕ) (told told_now : Option (List ℕ)) →
    (Rose faults faults_now → ⊥) → IsUncut config old commands → RanInto config old commands (StandsAfter config (Some content_now)) content content_now faults faults_now told told_now → RanPlainlyInto config old commands content content_now told told_now
ran_into-plainly config old commands content content_now faults faults_now told told_now calm uncut h =
    let plain = plain-run config old commands h.moments h.commands_are h.run (none-risen (risen_in h.moments) faults faults_now calm h.rose) uncut in record {
      moments = h.moments;
      plain = plain;
      stands_after = stands-plain config content_now (end_of old h.moments) (end_of old (plain_run config old commands)) plain.same.ends h.stands_after;
      stays = h.stays;
      before = h.before;
      last = h.last;
      split = h.split;
      limits = h.limits;
      few = h.few;
      exact = h.exact;
      front = h.front;
      is_front = h.is_front;
      told_front = h.told_front;
    }
