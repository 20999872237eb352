-- What is plain of a result, and of how far a picture reaches down.
use Rattle.std.proofs.Common.{◌≡◌, ◌⊎◌, inl, inr, ℕ, ◌+◌, ◌≤◌, ◌<◌, Result, Ok, Err, IsErr, IfOk, OnOk, rules, arith}
use Rattle.fl_image.specs.declared.status.ToolStatus.{ToolStatus}
use Rattle.fl_image.specs.declared.status.ToolStatus.TheVariants.{Device, NoMemory, NotImage, OutWrite, Done}

-- a clause on what an answer gives, of one that is an error
pub none-on : {T E : Type 0} (r : Result T E) (P : Type 0) → IsErr r → OnOk r P
none-on (Err e) P is = tt
none-on (Ok x) P is = absurd (search (rules, is))

pub none-if : {T E : Type 0} (r : Result T E) (P : T → Type 0) → IsErr r → IfOk r P
none-if (Err e) P is = tt
none-if (Ok x) P is = absurd (search (rules, is))

-- statuses that differ
pub memory-device : {T P : Type 0} → ◌≡◌ {A = Result T ToolStatus} (Err NoMemory) (Err Device) → P
memory-device is = absurd (cc is)

pub ok-device : {T P : Type 0} (x : T) → ◌≡◌ {A = Result T ToolStatus} (Ok x) (Err Device) → P
ok-device x is = absurd (cc is)

pub memory-is-device : {P : Type 0} → NoMemory ≡ Device → P
memory-is-device is = absurd (cc is)

pub memory-is-write : {P : Type 0} → NoMemory ≡ OutWrite → P
memory-is-write is = absurd (cc is)

pub read-is-write : {P : Type 0} (status : ToolStatus) → (status ≡ NotImage) ⊎ (status ≡ Device) → status ≡ OutWrite → P
read-is-write status (inl other) is = absurd (cc (other, is))
read-is-write status (inr other) is = absurd (cc (other, is))

pub written-is-device : {P : Type 0} (status : ToolStatus) → (status ≡ Done) ⊎ (status ≡ OutWrite) → status ≡ Device → P
written-is-device status (inl other) is = absurd (cc (other, is))
written-is-device status (inr other) is = absurd (cc (other, is))

-- ---- heights: of a ring at most 15 * 2 ^ 32, of a table four of these, and of a line of words 28

pub table-top : (a b : ℕ) → a ≤ b + 257698037760 → a ≤ b + 257698037788
table-top a b le = omega (arith, le)

pub fault-top : (a b c : ℕ) → b ≤ a + 257698037760 → c ≤ b + 28 → c ≤ a + 257698037788
fault-top a b c le more = omega (arith, le, more)

pub fault-room : (a b : ℕ) → b ≤ a + 257698037760 → a + 274877906944 < 1099511627776 → b + 28 < 1099511627776
fault-room a b le room = omega (arith, le, room)

-- the rings of a table in turn, from `a` on
module _ (a b c d e : ℕ) (first : b ≤ a + 64424509440) where
  pub first-top : b ≤ a + 257698037760
  first-top = omega (arith, first)

  module _ (second : c ≤ b + 64424509440) where
    pub second-top : c ≤ a + 257698037760
    second-top = omega (arith, first, second)

    module _ (third : d ≤ c + 64424509440) where
      pub third-top : d ≤ a + 257698037760
      third-top = omega (arith, first, second, third)

      pub last-top : e ≤ d + 64424509440 → e ≤ a + 257698037760
      last-top last = omega (arith, first, second, third, last)

pub ring-room : (a b : ℕ) → a + 274877906944 < 1099511627776 → b ≤ a + 257698037760 → b + 20 < 1099511627776
ring-room a b room le = omega (arith, room, le)
