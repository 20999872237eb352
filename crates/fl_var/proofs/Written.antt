-- What the seals of a ring of variable data change of a flash, one after another.
use Rattle.std.proofs.Common.{◌≡◌, ℕ, ◌+◌, ◌<◌, ◌≤◌, ◌⊎◌, inl, inr, IsTrue, subst, arith}
use Rattle.std.proofs.lemmas.Bool.{cases_lt}
use Rattle.fl_flash.specs.Flash.{FlashState, page_at}
use Rattle.fl_ring.specs.Ring.{OutsideStands, Shape, room}
use Rattle.fl_ring.specs.Written.{Writes}
use Rattle.fl_ring.proofs.Written.{writes-then, writes-wider}
use Rattle.fl_var.specs.Memory.{var_shape, IsOnRing, IsSamePlan}
use Rattle.fl_var.specs.declared.var_data.VarData.{VarData}
use Rattle.fl_var.proofs.Joins.{same-shape}

-- what leaves the pages outside of the ring changes pages of the ring alone
pub on-ring : (v : VarData) (May : ℕ → Type 0) (least most : ℕ) (f g : FlashState) → (IsTrue f.media.tells → OutsideStands (var_shape v) (page_at f) (page_at g)) → Writes May least most f g → Writes (IsOnRing v) least most f g
on-ring v May least most f g outside h =
    record {
      programs = h.programs;
      erases = h.erases;
      least_programs = h.least_programs;
      most_programs = h.most_programs;
      most_erases = h.most_erases;
      tries = record { work = h.tries.work; armed = h.tries.armed; stands = λ told page not. outside told page (elsewhere page not) };
    }
  where
    elsewhere : (page : ℕ) → (IsOnRing v page → ⊥) → (page < (var_shape v).first) ⊎ ((var_shape v).first + room (var_shape v) ≤ page)
    elsewhere page not = elim (cases_lt page (var_shape v).first) [
      | inl below ↦ inl below
      | inr from ↦ elim (cases_lt page ((var_shape v).first + room (var_shape v))) [
        | inl before ↦ absurd (not (omega (arith, from), omega (arith, before)))
        | inr above ↦ inr (omega (arith, above))
      ]
    ]

-- seals and others behind them
pub writes-both : (first v : VarData) (n k : ℕ) (f g h : FlashState) → IsSamePlan first v → g.media.tells ≡ f.media.tells → Writes (IsOnRing first) 0 n f g → Writes (IsOnRing v) 0 k g h → Writes (IsOnRing first) 0 (n + k) f h
writes-both first v n k f g h same tells before then =
    writes-then (IsOnRing first) 0 n 0 k f g h tells before (writes-wider (IsOnRing v) (IsOnRing first) 0 0 k k g h moved (omega arith) (omega arith) then)
  where
    moved : (page : ℕ) → IsOnRing v page → IsOnRing first page
    moved page may = subst (λ (r : Shape). (r.first ≤ page) × (page < r.first + room r)) (same-shape first v same) may
