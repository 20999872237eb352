-- Which blocks the calls on a ring erase, as long as each of them ends well.
use Rattle.std.specs.Prelude.{◌≡◌, ℕ, ◌+◌, ◌-◌, ◌*◌, ◌<◌, ◌≤◌, Bool, true, false, ◌==◌, List, [], ◌∷◌, Ok}
use Rattle.std.proofs.Common.{inl, inr}
use Rattle.fl_flash.specs.Flash.{FlashState}
use Rattle.fl_model.specs.Work.{Device}
use Rattle.fl_ring.specs.Head.{one}
use Rattle.fl_ring.specs.Mounting.{IsGood, HasNumbers, Mounted}
use Rattle.fl_ring.specs.Numbers.{renumbered}
use Rattle.fl_ring.specs.Place.{shape_of, next_of, oldest_of}
use Rattle.fl_ring.specs.Repairing.{CleansAhead}
use Rattle.fl_ring.specs.Ring.{Shape, RingState, IsShape, fresh, is_due_at}
use Rattle.fl_ring.specs.Sealing.{IsReady, Seals, ErasesWhere, SealCalls}
use Rattle.fl_ring.specs.declared.ring.Ring.{Ring}

-- what the clauses `seals` and `flash.calls` of a seal say that ended well
pub record SealsWell (r : Shape) (s : RingState) : Type 0 where
  pub before : Ring
  pub after : Ring
  pub old : FlashState
  pub new : FlashState
  pub body : List ℕ
  pub rose : Bool
  pub device : Device
  pub shape : shape_of before ≡ r
  pub ready : IsReady before old s
  pub seals : Seals s body rose device before (Ok tt) after new
  pub calls : SealCalls (shape_of before) (next_of before) (is_due_at (shape_of before) (next_of before + 1) (next_of before + 1 - oldest_of before)) body old (Ok tt) new

-- what the clauses `mounts.ends` and `mounts.found` of a mount say that ended well
pub record MountsWell (r : Shape) (s : RingState) : Type 0 where
  pub ring : Ring
  pub old : FlashState
  pub new : FlashState
  pub at_least : ℕ
  pub rose : Bool
  pub device : Device
  pub good : IsGood old r at_least s
  pub ends : Mounted r rose device (renumbered r at_least s) ring new
  pub found : HasNumbers old r at_least ring new

-- the blocks of the flash that were erased
abbrev pub erased_next : (r : Shape) (next : ℕ) (due : Bool) (old new : FlashState) → ErasesWhere r next due old (Ok tt) new → List ℕ
erased_next r next true old new erases = erases.block ∷ []
erased_next r next false old new erases = []

abbrev pub erased_calls : (r : Shape) (next : ℕ) (due : Bool) (body : List ℕ) (old new : FlashState) → SealCalls r next due body old (Ok tt) new → List ℕ
erased_calls r next due body old new (inl all) = erased_next r next due all.marked new all.erase_last
erased_calls r next due body old new (inr failed) = []

abbrev pub erased_ahead : (r : Shape) (next : ℕ) (old new : FlashState) → CleansAhead r next old (Ok tt) new → List ℕ
erased_ahead r next old new (inl leaves) = []
erased_ahead r next old new (inr erases) = erases.block ∷ []

abbrev pub erased_by_seal : (r : Shape) (s : RingState) → SealsWell r s → List ℕ
erased_by_seal r s seal =
    erased_calls (shape_of seal.before) (next_of seal.before) (is_due_at (shape_of seal.before) (next_of seal.before + 1) (next_of seal.before + 1 - oldest_of seal.before)) seal.body seal.old seal.new seal.calls

abbrev pub erased_by_mount : (r : Shape) (s : RingState) → MountsWell r s → List ℕ
erased_by_mount r s mount = erased_ahead r (mount.found.numbers.next + one mount.found.numbers.torn) mount.found.repairs.voided mount.new mount.found.repairs.cleans

pub data Call : Type 0 where
  Seal : Call
  Mount : Call

-- calls on a ring, one after another, each of which ended well
abbrev pub GoWell : Shape → List Call → RingState → Type 0
GoWell r [] s = Unit {0}
GoWell r (Seal ∷ calls) s = (seal : SealsWell r s) × GoWell r calls seal.seals.performed.now.state
GoWell r (Mount ∷ calls) s = (mount : MountsWell r s) × GoWell r calls mount.ends.performed.now.state

-- how many of these blocks of the flash are the ring's block with this number, from 0
abbrev pub times_among : Shape → ℕ → List ℕ → ℕ
times_among r block [] = 0
times_among r block (b ∷ blocks) = one (b * r.per_block == r.first + block * r.per_block) + times_among r block blocks

-- how often the calls erased it
abbrev pub erases_in : (r : Shape) (block : ℕ) (calls : List Call) (s : RingState) → GoWell r calls s → ℕ
erases_in r block [] s went = 0
erases_in r block (Seal ∷ calls) s went = times_among r block (erased_by_seal r s went.0) + erases_in r block calls went.0.seals.performed.now.state went.1
erases_in r block (Mount ∷ calls) s went = times_among r block (erased_by_mount r s went.0) + erases_in r block calls went.0.ends.performed.now.state went.1

-- From a new ring on, whatever seals and mounts come, the numbers of erases of two blocks differ by at most one.
abbrev pub CallsWearAlike : Type 0
CallsWearAlike =
    (r : Shape) (calls : List Call) (went : GoWell r calls fresh) (a b : ℕ) → IsShape r → a < r.blocks → b < r.blocks →
    erases_in r a calls fresh went ≤ erases_in r b calls fresh went + 1

-- The mount of a ring in which no page is torn and no block waits for its erase erases nothing.
abbrev pub QuietMountsEraseNothing : Type 0
QuietMountsEraseNothing = (r : Shape) (s : RingState) (mount : MountsWell r s) → IsShape r → s.torn ≡ false → s.dirty ≡ false → erased_by_mount r s mount ≡ []
