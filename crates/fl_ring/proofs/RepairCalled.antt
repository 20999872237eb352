-- The repairs of a mount, call by call.
use Rattle.std.proofs.Common.{◌≡◌, ℕ, ◌+◌, ◌-◌, Bool, true, false, ◌&&◌, if◌then◌else◌, replicate, Result, Ok, Err, inr, refl, sym, ◌∙◌, ap, subst, arith}
use Rattle.fl_flash.specs.Flash.{FlashState, ProgramsPage}
use Rattle.fl_flash.specs.declared.flash.FlashFault.{FlashFault}
use Rattle.fl_ring.specs.Head.{one}
use Rattle.fl_ring.specs.Repairing.{VoidsNext, CleansAhead, ErasesAhead, RepairsAll, RepairCalls}
use Rattle.fl_ring.specs.declared.ring.Ring.{Ring}
use Rattle.fl_ring.specs.Place.{StandsFor}
use Rattle.fl_ring.specs.Ring.{Shape, RingState, place, is_due_at, erased, voided, repaired}

pub of_erases : (r : Shape) (next : ℕ) (old new : FlashState) (result : Result (Unit {0}) FlashFault) → ErasesAhead r next old result new → CleansAhead r next old result new
of_erases r next old new (Ok u) erases = inr erases
of_erases r next old new (Err e) erases = inr erases

of_all : (r : Shape) (next : ℕ) (torn : Bool) (old new : FlashState) (result : Result (Unit {0}) FlashFault) → RepairsAll r next torn old result new → RepairCalls r next torn old result new
of_all r next torn old new (Ok u) all = all
of_all r next torn old new (Err e) all = inr all

-- the next number after the void mark
pub next_whole : (torn : Bool) (next : ℕ) → torn ≡ false → next ≡ next + one torn
next_whole torn next whole = let e : next ≡ next + 0 = omega arith in e ∙ ap (λ (b : Bool). next + one b) (sym whole)

pub next_torn : (torn : Bool) (next then_next : ℕ) → torn ≡ true → then_next ≡ next + 1 → then_next ≡ next + one torn
next_torn torn next then_next is at = at ∙ ap (λ (b : Bool). next + one b) (sym is)

pub oldest_whole : (torn due : Bool) (old up : ℕ) → torn ≡ false → old ≡ (if torn && due then up else old)
oldest_whole torn due old up whole = ap (λ (b : Bool). if b && due then up else old) (sym whole)

-- the numbers in memory are those after the repairs
pub stands_whole : (ring : Ring) (r : Shape) (torn : Bool) (s : RingState) → torn ≡ false → torn ≡ s.torn → StandsFor ring s → StandsFor ring (repaired r s)
stands_whole ring r torn s whole same stands =
    subst (λ (t : RingState). StandsFor ring (erased t)) (ap (λ (b : Bool). if b then voided r s else s) (sym whole ∙ same)) (record { next = stands.next; oldest = stands.oldest })

pub stands_voided : (ring : Ring) (r : Shape) (torn : Bool) (s : RingState) → torn ≡ true → torn ≡ s.torn → StandsFor ring (voided r s) → StandsFor ring (repaired r s)
stands_voided ring r torn s is same stands =
    subst (λ (t : RingState). StandsFor ring (erased t)) (ap (λ (b : Bool). if b then voided r s else s) (sym is ∙ same)) (record { next = stands.next; oldest = stands.oldest })

-- no page is torn
pub calls_whole : (r : Shape) (next : ℕ) (torn : Bool) (old new : FlashState) (result : Result (Unit {0}) FlashFault) → torn ≡ false → CleansAhead r next old result new → RepairCalls r next torn old result new
calls_whole r next torn old new result whole cleans = of_all r next torn old new result (record {
  voided = old;
  voids = subst (λ (b : Bool). VoidsNext r next b old old) (sym whole) refl;
  cleans = subst (λ (n : ℕ). CleansAhead r n old result new) (next_whole torn next whole) cleans;
})

-- one is, and was voided
pub calls_torn : (r later : Shape) (next then_next : ℕ) (torn : Bool) (old mid new : FlashState) (result : Result (Unit {0}) FlashFault) → torn ≡ true → later ≡ r → then_next ≡ next + 1
    → ProgramsPage old (place r next) (r.size - 4) (replicate 4 0) (Ok tt) mid → CleansAhead later then_next mid result new → RepairCalls r next torn old result new
calls_torn r later next then_next torn old mid new result is same at programs cleans = of_all r next torn old new result (record {
  voided = mid;
  voids = subst (λ (b : Bool). VoidsNext r next b old mid) (sym is) programs;
  cleans = subst (λ (n : ℕ). CleansAhead r n mid result new) (next_torn torn next then_next is at) (subst (λ (x : Shape). CleansAhead x then_next mid result new) same cleans);
})

-- the oldest number after the repairs
pub oldest_as : (r : Shape) (torn : Bool) (next then_next old then_old : ℕ) → torn ≡ true → then_next ≡ next + 1 → then_old ≡ (if is_due_at r (next + 1) (next + 1 - old) then old + r.per_block else old)
    → then_old ≡ (if torn && is_due_at r then_next (then_next - old) then old + r.per_block else old)
oldest_as r torn next then_next old then_old is at e =
    e ∙ ap (λ (n : ℕ). if is_due_at r n (n - old) then old + r.per_block else old) (sym at)
    ∙ ap (λ (b : Bool). if b && is_due_at r then_next (then_next - old) then old + r.per_block else old) (sym is)
