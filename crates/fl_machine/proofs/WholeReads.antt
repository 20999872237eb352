-- The reads of the moments of a run add up.
use Rattle.std.proofs.Common.{ℕ, ◌+◌, ◌-◌, ◌^◌, ◌<◌, ◌≤◌, List, [], ◌∷◌, arith, inl, inr}
use Rattle.std.proofs.lemmas.Bool.{cases_lt}
use Rattle.fl_model.specs.Record.{Config}
use Rattle.fl_machine.specs.Machine.{Machine}
use Rattle.fl_machine.specs.Step.{Moment}
use Rattle.fl_machine.specs.Run.{end_of}
use Rattle.fl_machine.specs.Operations.{CountsEach}
use Rattle.fl_machine.specs.WholeReads.{reads_in, ReadsEach, ReadsAddUp}
use Rattle.fl_machine.proofs.Operations.{exact}

-- what is known where the total of programs isn't at its end: it was no greater before, and the count rose as often as is said
record Sums (old : Machine) (moments : List Moment) (before now : ℕ) : Type 0 where
  rises : before ≤ now
  programs : old.device.programs ≤ (end_of old moments).device.programs
  few : now ≤ before + reads_in moments + ((end_of old moments).device.programs - old.device.programs)

sums : (config : Config) (old : Machine) (moments : List Moment) (before now : ℕ) → CountsEach config old moments → ReadsEach old moments before now →
    now < 2 ^ 64 - 1 → (end_of old moments).device.programs < 2 ^ 64 - 1 → Sums old moments before now
sums config old [] before now counts same low end = record { rises = omega (arith, same); programs = omega arith; few = omega (arith, same) }
sums config old (moment ∷ moments) before now counts (mid, h, others) low end =
    let rest = sums config moment.after moments mid now counts.1 others low end in
    let made = counts.0.front.counts.programs (omega (arith, rest.programs, end)) in
    let few = h.few (omega (arith, rest.rises, low)) (omega (arith, rest.programs, end)) in
    record {
      rises = omega (arith, h.rises, rest.rises);
      programs = omega (arith, made, rest.programs);
      few = omega (arith, made, few, rest.few, rest.programs);
    }

pub reads-add-up : ReadsAddUp
reads-add-up config old moments before now run reads low = elim (cases_lt (end_of old moments).device.programs (2 ^ 64 - 1)) [
  | inl end ↦ let all = sums config old moments before now (exact config old moments run) reads low end in omega (arith, all.few)
  | inr full ↦ omega (arith, full, low)
]
