-- The power stays on in a call that ends well.
use Rattle.std.proofs.Common.{◌≡◌, ℕ, inl, inr, Bool, true, false, Option, None, Some, Result, Ok, Err, OnOk, ◌∙◌, ap}
use Rattle.fl_flash.specs.Flash.{FlashState}
use Rattle.fl_ring.specs.Mounting.{HasNumbers}
use Rattle.fl_ring.specs.Repairing.{VoidsNext, CleansAhead}
use Rattle.fl_ring.specs.Ring.{Shape}
use Rattle.fl_ring.specs.declared.ring.Ring.{Ring}
use Rattle.fl_parts.specs.BlobMount.{FindsBlobs}
use Rattle.fl_var.specs.Memory.{var_shape}
use Rattle.fl_var.specs.declared.var_data.VarData.{VarData}

-- after another call
pub on-then : {T E : Type 0} (old mid new : FlashState) (result : Result T E) → (old.is_on ≡ true → mid.is_on ≡ true) → OnOk result (mid.is_on ≡ true → new.is_on ≡ true) → OnOk result (old.is_on ≡ true → new.is_on ≡ true)
on-then old mid new (Ok x) first then = λ on. then (first on)
on-then old mid new (Err e) first then = tt

voids-on : (r : Shape) (next : ℕ) (torn : Bool) (old new : FlashState) → VoidsNext r next torn old new → old.is_on ≡ true → new.is_on ≡ true
voids-on r next true old new h on = h.cause.on
voids-on r next false old new h on = ap (λ (f : FlashState). f.is_on) h ∙ on

cleans-on : (r : Shape) (next : ℕ) (old new : FlashState) → CleansAhead r next old (Ok tt) new → old.is_on ≡ true → new.is_on ≡ true
cleans-on r next old new (inl leaves) on = leaves.looks.power ∙ on
cleans-on r next old new (inr erase) on = erase.erases.cause.on

-- a ring was found and repaired
ring-on : (r : Shape) (least : ℕ) (ring : Ring) (old new : FlashState) → HasNumbers old r least ring new → old.is_on ≡ true → new.is_on ≡ true
ring-on r least ring old new h on =
    cleans-on r _ h.repairs.voided new h.repairs.cleans (voids-on r h.numbers.next h.numbers.torn h.found h.repairs.voided h.repairs.voids (h.looks.power ∙ on))

pub blobs-on : (blobs now : Option VarData) (old new : FlashState) (least : ℕ) → FindsBlobs blobs old least now new → old.is_on ≡ true → new.is_on ≡ true
blobs-on None now old new least h on = ap (λ (f : FlashState). f.is_on) h.1 ∙ on
blobs-on (Some var) None old new least h on = absurd h
blobs-on (Some var) (Some now) old new least h on = ring-on (var_shape var) least h.ring old new h.numbers on
