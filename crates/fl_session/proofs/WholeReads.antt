-- How often commands read the medium, by what their flash counts.
use Rattle.std.proofs.Common.{◌≡◌, ◌+◌, ◌-◌, ◌^◌, ◌<◌, ◌≤◌, ◌⊎◌, inl, inr, List, arith}
use Rattle.std.proofs.lemmas.Bool.{cases_lt}
use Rattle.fl_flash.specs.Flash.{FlashState, Stays}
use Rattle.fl_machine.specs.Machine.{Machine}
use Rattle.fl_machine.specs.Run.{end_of}
use Rattle.fl_machine.specs.Step.{Moment}
use Rattle.fl_machine.specs.WholeReads.{reads_in, ReadsWithin}

-- a flash that counts no more reads than the moments made, and the programs of the machine after them
pub reads-within : (old : Machine) (moments : List Moment) (f now : FlashState) → Stays f now → now.work.reads ≤ reads_in moments → (end_of old moments).device.programs ≡ now.work.programs →
    ReadsWithin old moments f.media.reads now.media.reads
reads-within old moments f now goes few same low = by_ends (cases_lt now.work.reads (2 ^ 64 - 1)) (cases_lt now.work.programs (2 ^ 64 - 1))
  where
    by_ends : ((now.work.reads < 2 ^ 64 - 1) ⊎ (2 ^ 64 - 1 ≤ now.work.reads)) → ((now.work.programs < 2 ^ 64 - 1) ⊎ (2 ^ 64 - 1 ≤ now.work.programs)) → now.media.reads ≤ f.media.reads + reads_in moments + (end_of old moments).device.programs
    by_ends (inl reads) (inl programs) = omega (arith, goes.counted.medium reads programs, few, same)
    by_ends (inl reads) (inr full) = omega (arith, low, full, same)
    by_ends (inr full) programs = omega (arith, low, full, few)
