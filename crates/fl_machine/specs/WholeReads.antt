-- How often a whole run reads the medium: as often as its commands read pages, and once at most for each program.
use Rattle.std.specs.Prelude.{◌≡◌, ℕ, ◌+◌, ◌-◌, ◌^◌, ◌<◌, ◌≤◌, Option, List, [], ◌∷◌}
use Rattle.fl_model.specs.Record.{Config}
use Rattle.fl_words.specs.Command.{Command}
use Rattle.fl_machine.specs.Machine.{Machine}
use Rattle.fl_machine.specs.Run.{Run, end_of}
use Rattle.fl_machine.specs.Script.{Ran, RanInto}
use Rattle.fl_machine.specs.Step.{Moment}

-- the pages that the commands read
abbrev pub reads_in : List Moment → ℕ
reads_in [] = 0
reads_in (moment ∷ moments) = moment.reads + reads_in moments

-- The medium's count of reads before and after these moments: where it isn't at its end, it rose by no more than the pages
-- that they read, and one for each program of the machine's total.
abbrev pub ReadsWithin : Machine → List Moment → ℕ → ℕ → Type 0
ReadsWithin old moments before now = now < 2 ^ 64 - 1 → now ≤ before + reads_in moments + (end_of old moments).device.programs

-- The medium's count of reads before and after a moment: it never falls, and where neither it nor the machine's total of programs
-- is at its end, it rose by no more than the moment's reads and one for each program.
pub record ReadsMoment (old : Machine) (moment : Moment) (before now : ℕ) : Type 0 where
  pub rises : before ≤ now
  pub few : now < 2 ^ 64 - 1 → moment.after.device.programs < 2 ^ 64 - 1 →
      now ≤ before + moment.reads + (moment.after.device.programs - old.device.programs)

-- .. before and after each of these moments
abbrev pub ReadsEach : Machine → List Moment → ℕ → ℕ → Type 0
ReadsEach old [] before now = now ≡ before
ReadsEach old (moment ∷ moments) before now = (mid : ℕ) × ReadsMoment old moment before mid × ReadsEach moment.after moments mid now

-- The moments of a run that each read so do so together.
abbrev pub ReadsAddUp : Type 0
ReadsAddUp =
    (config : Config) (old : Machine) (moments : List Moment) (before now : ℕ) →
    Run config old moments → ReadsEach old moments before now → ReadsWithin old moments before now

-- a run of these commands, over which the medium's count of reads goes so
abbrev pub RanReading : Config → Machine → List Command → (Machine → Type 0) → List ℕ → List ℕ → ℕ → ℕ → ℕ → ℕ → Option (List ℕ) → Option (List ℕ) → Type 0
RanReading config old commands stands content content_now faults faults_now reads reads_now told told_now =
    (ran : Ran config old commands stands content content_now faults faults_now told told_now) × ReadsWithin old ran.moments reads reads_now

-- .. and into the reply of the last of them, in which the sink failed
abbrev pub RanIntoReading : Config → Machine → List Command → (Machine → Type 0) → List ℕ → List ℕ → ℕ → ℕ → ℕ → ℕ → Option (List ℕ) → Option (List ℕ) → Type 0
RanIntoReading config old commands stands content content_now faults faults_now reads reads_now told told_now =
    (ran : RanInto config old commands stands content content_now faults faults_now told told_now) × ReadsWithin old ran.moments reads reads_now
