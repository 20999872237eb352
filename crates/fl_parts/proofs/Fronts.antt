-- The next number of a ring after operations on it.
use Rattle.std.proofs.Common.{ℕ, ◌+◌, ◌≤◌, cond, Option, Some, None, IfSome, option_map, arith}
use Rattle.fl_model.specs.Ring as model
use Rattle.fl_model.proofs.Sealed.{sealed-next, sealed-torn}

-- the next number of a ring, and one more where its page is torn, is at most this one
abbrev pub IsNumberedTo : ℕ → Option model.Ring → Type 0
IsNumberedTo n ring = IfSome ring (λ r. r.next + (cond r.torn 1 0) ≤ n)

pub erased-number : (n : ℕ) (o : Option model.Ring) → IsNumberedTo n o → IsNumberedTo n (option_map model.erased o)
erased-number n None h = tt
erased-number n (Some r) h = h

pub up_to : (m n : ℕ) (o : Option model.Ring) → m ≤ n → IsNumberedTo m o → IsNumberedTo n o
up_to m n None le h = tt
up_to m n (Some r) le h = omega (arith, le, h)

pub begun_number : (n : ℕ) (o : Option model.Ring) → IsNumberedTo n o → IsNumberedTo (n + 1) (option_map model.begun o)
begun_number n None h = tt
begun_number n (Some r) h = omega (arith, h)

pub sealed_number : (n : ℕ) (shape : model.Shape) (count : ℕ) (o : Option model.Ring) → IsNumberedTo n o → IsNumberedTo (n + 1) (option_map (model.sealed shape count) o)
sealed_number n shape count None h = tt
sealed_number n shape count (Some r) h = rw (sealed-torn shape count r, sealed-next shape count r) (omega (arith, h))
