-- Why a call may answer an error, and bytes that may not be told.
use Rattle.std.specs.Prelude.{◌≡◌, ℕ, ◌+◌, ◌-◌, ◌^◌, ◌≤◌, min, Option, Some, Result, List, ◌++◌, OnErr, IfSome}

-- a count of faults is greater than before, or stands at its end
abbrev pub Rose : ℕ → ℕ → Type 0
Rose before now = min (before + 1) (2 ^ 64 - 1) ≤ now

-- a fault comes only where the count rose, and the count never falls
pub record HasCause {T E : Type 0} (before now : ℕ) (result : Result T E) : Type 0 where
  pub later : before ≤ now
  pub failed : OnErr result (Rose before now)

-- a front of a list
abbrev pub IsFront : List ℕ → List ℕ → Type 0
IsFront front whole = (others : List ℕ) × (front ++ others ≡ whole)

-- where the bytes are told, these were added at their end
abbrev pub Appends : Option (List ℕ) → Option (List ℕ) → List ℕ → Type 0
Appends before now added = IfSome before (λ bytes. now ≡ Some (bytes ++ added))

-- .. or a front of these
abbrev pub AppendsFront : Option (List ℕ) → Option (List ℕ) → List ℕ → Type 0
AppendsFront before now whole = (front : List ℕ) × IsFront front whole × Appends before now front
