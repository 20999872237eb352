-- Calls with the power off.
use Rattle.std.proofs.Common.{◌≡◌, ◌⊎◌, inl, inr, false, Result, Ok, Err, IfErr, refl, sym, ap, subst}
use Rattle.fl_flash.specs.Flash.{FlashState, OffChangesNothing}
use Rattle.fl_flash.specs.declared.flash.FlashFault.{FlashFault}
use Rattle.fl_flash.specs.declared.flash.FlashFault.TheVariants.{PowerLost}
use Rattle.fl_parts.specs.Faults.{OffFailsAs}

-- a call that does something doesn't succeed
pub off-ok : {T : Type 0} (f g : FlashState) (x : T) → OffChangesNothing f (Ok x) g → f.is_on ≡ false → ⊥
off-ok {T} f g x off down = no (off down).0
  where
    no : ◌≡◌ {A = Result T FlashFault} (Ok x) (Err PowerLost) → ⊥
    no e = cc

-- .. and fails with the same fault under another result
pub off-err : {T U : Type 0} (f g : FlashState) (e : FlashFault) → OffChangesNothing {T = T} f (Err e) g → OffChangesNothing {T = U} f (Err e) g
off-err {T} {U} f g e off = λ down. let h = off down in (ap (λ (k : FlashFault). Err k) (same h.0), h.1)
  where
    same : ◌≡◌ {A = Result T FlashFault} (Err e) (Err PowerLost) → e ≡ PowerLost
    same k = cc

-- a call that may have nothing to do
pub off-either : {T : Type 0} (f g : FlashState) (result : Result T FlashFault) (x : T) → ((result ≡ Ok x) × (g ≡ f)) ⊎ OffChangesNothing f result g → OffFailsAs PowerLost f result g
off-either {T} f g result x (inl still) = λ down. (subst (λ (r : Result T FlashFault). IfErr r (λ e. e ≡ PowerLost)) (sym still.0) tt, still.1)
off-either {T} f g result x (inr off) = λ down. let h = off down in (subst (λ (r : Result T FlashFault). IfErr r (λ e. e ≡ PowerLost)) (sym h.0) refl, h.1)

-- what follows a call that did nothing
pub off-then : {T U : Type 0} (f mid g : FlashState) (x : T) (result : Result U FlashFault) → OffFailsAs PowerLost f (Ok x) mid → OffChangesNothing mid result g → OffChangesNothing f result g
off-then {T} {U} f mid g x result still off = λ down. subst (λ (k : FlashState). OffChangesNothing k result g) (still down).1 off down
