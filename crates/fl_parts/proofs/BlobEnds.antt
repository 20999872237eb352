-- Where a ring begins whose pages tell no number.
use Rattle.std.proofs.Common.{◌≡◌, ℕ, ◌^◌, ◌<◌, arith}
use Rattle.fl_parts.specs.BlobEnds.{least_of}

-- an end that fits is told as it is
pub least-few : (end : ℕ) → end < 2 ^ 32 → least_of end ≡ end
least-few end few = omega (arith, few)
