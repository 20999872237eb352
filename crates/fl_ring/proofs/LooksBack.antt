-- The pages of a ring that were looked at, from the newest one back.
use Rattle.std.proofs.Common.{◌≡◌, inl, inr, ℕ, ◌+◌, ◌-◌, ◌*◌, ◌^◌, ◌<◌, ◌≤◌, Bool, true, List, Option, None, Some, Fits, w32, sym, ◌∙◌, subst, arith}
use Rattle.std.proofs.Math.Nat.{mul-le-mul_right, mul_comm, add-mul}
use Rattle.std.proofs.lemmas.Bool.{cases_lt, true≢false}
use Rattle.fl_mark.specs.Mark.{state_of_page}
use Rattle.fl_flash.specs.declared.flash.FlashFault.{FlashFault}
use Rattle.fl_ring.specs.Causes.{IfFlash}
use Rattle.fl_ring.specs.Head.{one}
use Rattle.fl_ring.specs.Numbers.{next_by, NumbersFit, number_fault}
use Rattle.fl_ring.specs.declared.fault.RingFault.{RingFault}
use Rattle.fl_ring.specs.declared.newest.Newest.{Newest}
use Rattle.fl_ring.specs.Newest.{commits, page_back, NoneBefore}
use Rattle.fl_ring.specs.Ring.{Shape}

-- a committed page is none of those that were looked at before: the reads so far are no more than it is far back
pub soon_after : (page : ℕ → List ℕ) (r : Shape) (at back n before after k : ℕ) → NoneBefore page r at back → after ≤ before + n → n ≤ back - 1 + 1 → 1 ≤ k → commits (state_of_page (page (page_back r at k))) ≡ true → after ≤ before + k
soon_after page r at back n before after k none few most some committed = elim (cases_lt k back) [
  | inl below ↦ absurd (true≢false (sym committed ∙ none k some below))
  | inr from ↦ omega (arith, few, most, some, from)
]

pub below_last : (k back : ℕ) → k < back + 1 → (k ≡ back → ⊥) → k < back
below_last k back below other = omega (arith, below, other)

-- the numbers of a ring's blocks and pages are small, as its pages lie below 2^32
pub ends_small : (ends first blocks pages : ℕ) → ends ≤ blocks → 3 ≤ blocks → 2 ≤ pages → (first + blocks) * pages < 2 ^ 32 → ends + 1 < 2 ^ 32
ends_small ends first blocks pages few some two reach =
    let up : 2 * (first + blocks) ≤ pages * (first + blocks) = mul-le-mul_right (first + blocks) two in
    omega (arith, few, some, up, mul_comm pages (first + blocks), reach)

pub place_small : (head first blocks sealed pages : ℕ) → head < blocks → sealed < pages → (first + blocks) * pages < 2 ^ 32 → head * pages + sealed < 2 ^ 32
place_small head first blocks sealed pages lt below reach =
    let up : (head + 1) * pages ≤ blocks * pages = mul-le-mul_right pages (omega (arith, lt)) in
    omega (arith, up, below, add-mul head 1 pages, add-mul first blocks pages, reach)

pub some_blocks : (blocks : ℕ) → 3 ≤ blocks → 0 < blocks
some_blocks blocks some = omega (arith, some)

pub one_page : (pages : ℕ) → 2 ≤ pages → 1 ≤ pages
one_page pages two = omega (arith, two)

pub last_page : (pages : ℕ) → 2 ≤ pages → pages - 1 < pages
last_page pages two = omega (arith, two)

pub up_one : (n m : ℕ) → n ≤ m → n ≤ m + 1
up_one n m le = omega (arith, le)

pub never_none : (n : ℕ) → n + 1 ≡ 0 → ⊥
never_none n e = omega (arith, e)

pub head_fits : (head first blocks sealed pages : ℕ) → head < blocks → sealed < pages → (first + blocks) * pages < 2 ^ 32 → Fits w32 (head * pages)
head_fits head first blocks sealed pages lt below reach = omega (arith, place_small head first blocks sealed pages lt below reach)

pub place_fits : (head first blocks sealed pages : ℕ) → head < blocks → sealed < pages → (first + blocks) * pages < 2 ^ 32 → Fits w32 (head * pages + sealed)
place_fits head first blocks sealed pages lt below reach = omega (arith, place_small head first blocks sealed pages lt below reach)

-- a number beside a torn page leaves one more
pub left_fits : (r : Shape) (at kept at_least : ℕ) (torn : Bool) (newest : Option Newest) (next : ℕ) → NumbersFit r at kept at_least torn newest → next ≡ next_by r at kept at_least newest → torn ≡ true → next + 1 < 2 ^ 32
left_fits r at kept at_least torn None next fits is e = subst (λ (b : Bool). next + one b < 2 ^ 32) e (subst (λ (n : ℕ). n + one torn < 2 ^ 32) (sym is) fits)
left_fits r at kept at_least torn (Some n) next fits is e = subst (λ (b : Bool). next + one b < 2 ^ 32) e (subst (λ (n : ℕ). n + one torn < 2 ^ 32) (sym is) fits.2)

-- where the numbers don't fit the flash didn't fail
pub no_flash : (P : FlashFault → Type 0) (r : Shape) (at at_least : ℕ) (newest : Option Newest) (e : RingFault) → e ≡ number_fault r at at_least newest → IfFlash P e
no_flash P r at at_least None e is = subst (IfFlash P) (sym is) tt
no_flash P r at at_least (Some n) e is = subst (IfFlash P) (sym is) tt
