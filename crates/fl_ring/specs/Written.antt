-- What seals change of a flash, over any bytes.
use Rattle.std.specs.Prelude.{◌≡◌, ◌⊎◌, ℕ, zero, suc, ◌+◌, ◌-◌, ◌*◌, ◌<◌, ◌≤◌, Bool, IsTrue, Option, Result, Ok, Err, List, replicate}
use Rattle.std.specs.Option.{IsSomeAnd}
use Rattle.fl_flash.specs.Flash.{FlashState, page_at, programmed}
use Rattle.fl_flash.specs.Media.{next_count}
use Rattle.fl_flash.specs.Tear.{armed_after}
use Rattle.fl_ring.specs.Place.{shape_of, next_of, oldest_of}
use Rattle.fl_ring.specs.Repairing.{ahead_first}
use Rattle.fl_ring.specs.Ring.{Shape, place, is_due_at}
use Rattle.fl_ring.specs.declared.ring.Ring.{Ring}

-- a step, so many times
abbrev pub times : {A : Type 0} → (A → A) → ℕ → A → A
times step zero x = x
times step (suc n) x = times step n (step x)

-- So many programs and erases were tried: each counts, and the armed cut comes one nearer by each. No page is another but these.
pub record Tries (May : ℕ → Type 0) (programs erases : ℕ) (old new : FlashState) : Type 0 where
  pub work : new.work ≡ record old.work { programs = times next_count programs old.work.programs; erases = times next_count erases old.work.erases }
  pub armed : new.armed ≡ times armed_after (programs + erases) old.armed
  pub stands : IsTrue old.media.tells → (page : ℕ) → (May page → ⊥) → page_at new page ≡ page_at old page

-- Some seals were tried, of which at least and at most so many were whole: two programs each, and an erase at most.
pub record Writes (May : ℕ → Type 0) (least most : ℕ) (old new : FlashState) : Type 0 where
  pub programs : ℕ
  pub erases : ℕ
  pub least_programs : 2 * least ≤ programs
  pub most_programs : programs ≤ 2 * most
  pub most_erases : erases ≤ most
  pub tries : Tries May programs erases old new

-- how many calls were done
abbrev pub done : {A E : Type 0} → Result A E → ℕ
done (Ok x) = 1
done (Err e) = 0

-- a page of a ring over which this body and the mark of a commit were programmed
abbrev pub sealed_over : Shape → List ℕ → List ℕ → List ℕ
sealed_over r body page = programmed (programmed page 0 body) (r.size - 8) (replicate 4 0)

-- The pages that a seal changes: the next one, and those of the block ahead of the page after it where the oldest block goes.
abbrev pub IsSealedBy : Shape → ℕ → Bool → ℕ → Type 0
IsSealedBy r next due page = (page ≡ place r next) ⊎ (IsTrue due × (ahead_first r (next + 1) ≤ page) × (page < ahead_first r (next + 1) + r.per_block))

abbrev pub MaySeal : Ring → ℕ → Type 0
MaySeal ring = IsSealedBy (shape_of ring) (next_of ring) (is_due_at (shape_of ring) (next_of ring + 1) (next_of ring + 1 - oldest_of ring))

-- .. of a ring that may not be mounted
abbrev pub MaySealIn : Option Ring → ℕ → Type 0
MaySealIn ring page = IsSomeAnd ring (λ r. MaySeal r page)
