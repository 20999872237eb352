-- The knots in the slot of a key, in the index and in the model.
use Rattle.std.proofs.Common.{◌≡◌, ℕ, ◌+◌, ◌-◌, ◌<◌, ◌≤◌, Bool, true, false, List, [], ◌∷◌, length, refl, sym, ◌∙◌, ap, subst, arith, ⊎_elim}
use Rattle.std.proofs.lemmas.Bool.{cases_lt}
use Rattle.fl_find.specs.Index.{shift_in}
use Rattle.fl_flash.specs.Flash.{FlashState}
use Rattle.fl_model.specs.Record.{Plan}
use Rattle.fl_base.specs.Bits.{bits}
use Rattle.fl_model.specs.Spline.{retained}
use Rattle.fl_model.specs.Table as model
use Rattle.fl_radix.specs.Slots.{first_key, last_key, has_slot, knots_in_slot, IsLeastShift}
use Rattle.fl_table.specs.Finding.{IsInSlot, knots_near}
use Rattle.fl_table.specs.Standing.{Stands}
use Rattle.fl_table.specs.declared.table.Table.{Table}

-- there is one least shift
least-one : (slots width a b : ℕ) → IsLeastShift slots width a → IsLeastShift slots width b → a ≡ b
least-one slots width a b x y = ⊎_elim
    (λ less. absurd (omega (arith, x.fits, y.least a less)))
    (λ le. ⊎_elim
    (λ less. absurd (omega (arith, y.fits, x.least b less)))
    (λ other. omega (arith, le, other))
    (cases_lt b a))
    (cases_lt a b)

-- with no knots there are none in any slot
none-near : (shift key : ℕ) → knots_in_slot [] shift key ≡ 0
none-near shift key = by_slot (has_slot [] key) refl
  where
    by_slot : (b : Bool) → has_slot [] key ≡ b → knots_in_slot [] shift key ≡ 0
    by_slot true e = rw e refl
    by_slot false e = rw e refl

near-of : {SLOTS : ℕ} (knots : List (ℕ × ℕ)) (a b key : ℕ) → (0 < length knots → IsLeastShift SLOTS (last_key knots - first_key knots) a) → IsLeastShift SLOTS (last_key knots - first_key knots) b →
    knots_in_slot knots a key ≡ knots_in_slot knots b key
near-of {SLOTS} [] a b key x y = none-near a key ∙ sym (none-near b key)
near-of {SLOTS} (knot ∷ knots) a b key x y =
    ap (λ s. knots_in_slot (knot ∷ knots) s key) (least-one SLOTS (last_key (knot ∷ knots) - first_key (knot ∷ knots)) a b (x (omega arith)) y)

pub near-model : {KNOTS SLOTS : ℕ} (t : Table KNOTS SLOTS) (f : FlashState) (first : ℕ) (plan : Plan) (table : model.Table) (key count : ℕ) → Stands t f first plan table → IsInSlot KNOTS SLOTS plan table key count → knots_near t key ≡ count
near-model {KNOTS} {SLOTS} t f first plan table key count stands is =
    let same = stands.memory.index.knots in
    let narrow : 0 < length (retained KNOTS plan.error table.points) → IsLeastShift SLOTS (last_key (retained KNOTS plan.error table.points) - first_key (retained KNOTS plan.error table.points)) (shift_in t.index) =
    subst (λ (l : List (ℕ × ℕ)). 0 < length l → IsLeastShift SLOTS (last_key l - first_key l) (shift_in t.index)) same (λ some. (t.index.follows some).shift) in
    ap (λ (l : List (ℕ × ℕ)). knots_in_slot l (shift_in t.index) key) same
    ∙ (near-of (retained KNOTS plan.error table.points) (shift_in t.index) is.shift key narrow is.narrow ∙ sym is.count_is)

pub steps-model : {KNOTS SLOTS : ℕ} (t : Table KNOTS SLOTS) (f : FlashState) (first : ℕ) (plan : Plan) (table : model.Table) (key count before now : ℕ) → Stands t f first plan table → IsInSlot KNOTS SLOTS plan table key count →
    now ≤ before + bits (knots_near t key) + 2 → now ≤ before + bits count + 2
steps-model t f first plan table key count before now stands is few =
    subst (λ n. now ≤ before + bits n + 2) (near-model t f first plan table key count stands is) few
