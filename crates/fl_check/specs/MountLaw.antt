-- What a mount finds where the rules on the head, the states and the numbers hold.
use Rattle.std.specs.Prelude.{◌≡◌, ℕ, ◌-◌, IsTrue}
use Rattle.fl_flash.specs.Flash.{FlashState}
use Rattle.fl_flash.specs.declared.flash.FlashFault.{FlashFault}
use Rattle.fl_ring.specs.Finding.{IsFound, FoundFault}
use Rattle.fl_ring.specs.Ring.{Shape}
use Rattle.fl_ring.specs.declared.fault.RingFault.{RingFault}
use Rattle.fl_ring.specs.declared.fault.RingFault.TheVariants.{Flash}
use Rattle.fl_ring.specs.declared.numbers.Numbers.{Numbers}
use Rattle.fl_rules.specs.declared.marks.Marks.{Marks}

abbrev pub numbers_of : Marks → ℕ → Numbers
numbers_of m next = record { oldest = next - m.kept; next = next; torn = m.pages.front.torn }

-- a mount finds these numbers and no others, and the flash alone can make it fail
pub record FindsNumbers (f : FlashState) (r : Shape) (at_least : ℕ) (m : Marks) (next : ℕ) : Type 0 where
  pub found : IsFound f r at_least (numbers_of m next)
  pub alone : (numbers : Numbers) → IsFound f r at_least numbers → numbers ≡ numbers_of m next
  pub no_fault : IsTrue f.media.tells → (fault : RingFault) → FoundFault f r at_least fault → (e : FlashFault) × (fault ≡ Flash e)
