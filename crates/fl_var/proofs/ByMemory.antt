-- The place of a blob by memory alone, and what stays while it is placed.
use Rattle.std.proofs.Common.{◌≡◌, ℕ, ◌+◌, ◌^◌, ◌<◌, ◌≤◌, ◌⊎◌, Bool, true, false, cond, ◌==◌, Result, Ok, Err, List, [], length, IsTrue, refl, sym, ◌∙◌, ap, subst, arith}
use Rattle.std.proofs.lemmas.Bool.{eqb-true, ne_eqb}
use Rattle.fl_base.specs.declared.types.BlobRef.{BlobRef}
use Rattle.fl_flash.specs.Flash.{FlashState, Goes, page_at}
use Rattle.fl_flash.specs.declared.flash.FlashFault.{FlashFault}
use Rattle.fl_ring.specs.Ring.{Shape, OutsideStands, room}
use Rattle.fl_var.specs.Memory.{next_in, waiting_in, var_shape, IsSamePlan}
use Rattle.fl_var.specs.Placing.{is_full_in, reference_in}
use Rattle.fl_var.specs.WaitingState.{WaitingState}
use Rattle.fl_var.specs.declared.var_data.VarData.{VarData}
use Rattle.fl_var.proofs.Joins.{same-shape}

-- a list that was found to be empty has no element
pub none-there : (n : ℕ) (empty : Bool) → empty ≡ (n == 0) → empty ≡ true → n ≡ 0
none-there n empty is there = eqb-true n 0 (sym is ∙ there)

-- numbers that have so many below 2^32 before them
pub left-one : (n : ℕ) → n + 64 < 2 ^ 32 → n + 1 < 2 ^ 32
left-one n left = omega (arith, left)

pub left-then : (full : Bool) (n next : ℕ) → next ≡ cond full (n + 1) n → n + 64 < 2 ^ 32 → next + 63 < 2 ^ 32
left-then true n next is left = omega (arith, is, left)
left-then false n next is left = omega (arith, is, left)

-- the empty blob has no page
pub reference-none : (v : VarData) (len : ℕ) → len ≡ 0 → ◌≡◌ {A = BlobRef} (record { page = 0; offset = 0; length = 0 }) (reference_in v len)
reference-none v len none = sym (ap (reference_in v) none)

-- another one begins behind the bytes that wait after a full buffer was sealed
pub reference-mid : (v mid : VarData) (len : ℕ) → 1 ≤ len → next_in mid ≡ cond (is_full_in v) (next_in v + 1) (next_in v) → waiting_in mid ≡ cond (is_full_in v) [] (waiting_in v) →
    ◌≡◌ {A = BlobRef} (record { page = next_in mid; offset = length (waiting_in mid); length = len }) (reference_in v len)
reference-mid v mid len some next waits =
    ap (λ n. record { page = n; offset = length (waiting_in mid); length = len }) next
    ∙ (ap (λ (l : List ℕ). record { page = cond (is_full_in v) (next_in v + 1) (next_in v); offset = length l; length = len }) waits
    ∙ (by_full (is_full_in v)
    ∙ sym (ap (λ (b : Bool). cond b (record { page = 0; offset = 0; length = 0 }) (behind (is_full_in v))) (ne_eqb len 0 (λ e. omega (arith, e, some))))))
  where
    behind : Bool → BlobRef
    behind full = cond full (record { page = next_in v + 1; offset = 0; length = len }) (record { page = next_in v; offset = length (waiting_in v); length = len })

    by_full : (full : Bool) → ◌≡◌ {A = BlobRef} (record { page = cond full (next_in v + 1) (next_in v); offset = length (cond full [] (waiting_in v)); length = len }) (behind full)
    by_full true = refl
    by_full false = refl

-- the place of no call changes, nor what stands outside of it
pub plan-then : (a b c : VarData) → IsSamePlan a b → IsSamePlan b c → IsSamePlan a c
plan-then a b c first second = record { geometry = second.geometry ∙ first.geometry; place = second.place ∙ first.place }

pub outside-then : (v mid : VarData) (f g h : FlashState) → IsSamePlan v mid → Goes f g → (IsTrue f.media.tells → OutsideStands (var_shape v) (page_at f) (page_at g)) → (IsTrue g.media.tells → OutsideStands (var_shape mid) (page_at g) (page_at h)) →
    IsTrue f.media.tells → OutsideStands (var_shape v) (page_at f) (page_at h)
outside-then v mid f g h same goes first second told q far =
    second (subst IsTrue (sym goes.tells) told) q (subst (λ (r : Shape). (q < r.first) ⊎ (r.first + room r ≤ q)) (sym (same-shape v mid same)) far) ∙ first told q far

-- a buffer has room for its content behind the header
pub room-still : (old new : WaitingState) → new.fill ≡ old.fill → length new.body ≡ length old.body → 8 + old.fill ≤ length old.body → 8 + new.fill ≤ length new.body
room-still old new fill size room = omega (arith, fill, size, room)

pub room-cleared : (v : VarData) (new : WaitingState) → new.fill ≡ 0 → length new.body ≡ length v.waiting.body → 8 + new.fill ≤ length new.body
room-cleared v new fill size = omega (arith, fill, size, v.room)

-- answers that differ
pub err-done : (e : FlashFault) → ◌≡◌ {A = Result (Unit {0}) FlashFault} (Err e) (Ok tt) → ⊥
err-done e k = cc

pub done-err : {T : Type 0} (t : T) (e : FlashFault) → ◌≡◌ {A = Result T FlashFault} (Ok t) (Err e) → ⊥
done-err t e k = cc
