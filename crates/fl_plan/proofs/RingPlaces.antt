-- The blocks of a ring that stands at a place, or of none.
use Rattle.std.proofs.Common.{◌≡◌, ℕ, Option, Some, None, sym}
use Rattle.std.specs.Prelude.{IfSome}
use Rattle.fl_base.specs.declared.types.RingPlace.{RingPlace}
use Rattle.fl_plan.specs.Plan.{IsRingAt, blocks_in}

pub ring-blocks : (place : Option RingPlace) (first blocks : ℕ) → IsRingAt place first blocks → blocks_in place ≡ blocks
ring-blocks None first blocks at = sym at
ring-blocks (Some place) first blocks at = at.1

pub ring-first : (place : Option RingPlace) (first blocks : ℕ) → IsRingAt place first blocks → IfSome place (λ p. p.first_block ≡ first)
ring-first None first blocks at = tt
ring-first (Some place) first blocks at = at.0
