-- The block ahead of a ring, over any bytes: where the oldest block goes with a seal, that one is erased.
use Rattle.std.specs.Prelude.{◌≡◌, ℕ, ◌+◌, ◌-◌, ◌<◌, ◌≤◌, IsTrue, Option, IfSome, List}
use Rattle.fl_flash.specs.Flash.{blank}
use Rattle.fl_ring.specs.Place.{shape_of, next_of, oldest_of}
use Rattle.fl_ring.specs.Repairing.{ahead_first}
use Rattle.fl_ring.specs.Ring.{is_due_at}
use Rattle.fl_ring.specs.declared.ring.Ring.{Ring}

-- a page of the block ahead of the page after the next one, where the oldest block goes with the seal of the next one
abbrev pub IsAhead : Ring → ℕ → Type 0
IsAhead ring page =
    IsTrue (is_due_at (shape_of ring) (next_of ring + 1) (next_of ring + 1 - oldest_of ring)) × (ahead_first (shape_of ring) (next_of ring + 1) ≤ page) × (page < ahead_first (shape_of ring) (next_of ring + 1) + (shape_of ring).per_block)

-- these pages are blank after that seal, but for those that may have changed since
abbrev pub AheadBlank : Option Ring → (ℕ → Type 0) → (ℕ → List ℕ) → Type 0
AheadBlank held Changed new = IfSome held (λ ring. (page : ℕ) → IsAhead ring page → (Changed page → ⊥) → new page ≡ blank (shape_of ring).size)
