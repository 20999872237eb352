-- What an operation makes of the armed cut and of the counts.
use Rattle.std.proofs.Common.{◌≡◌, ◌⊎◌, ℕ, ◌-◌, Bool, ◌==◌, if◌then◌else◌, Option, Some, None, option_map, unwrap_or, nat_le, inl, inr, refl, sym, ◌∙◌, ap, subst, arith}
use Rattle.std.proofs.lemmas.Bool.{cases_Bool, leb-true, leb-false, eq-eqb, ne_eqb}
use Rattle.fl_base.specs.declared.types.CutKind.{CutKind}
use Rattle.fl_flash.specs.Flash.{FlashState}
use Rattle.fl_flash.specs.Media.{next_count}
use Rattle.fl_flash.specs.Tear.{torn_now, armed_after}
use Rattle.fl_flash.specs.declared.armed.Armed.{Armed}
use Rattle.fl_flash.specs.declared.tear.Tear.{Tear}
use Rattle.fl_model.specs.Work.{Kind, Device, is_erase, counted, fired}
use Rattle.fl_frame.specs.Device.{TearsAs, ArmsAs, SameDevice}

-- the cut isn't of this operation, on the flash and in the model
pub record Uncut (armed : Option Armed) (cut : Option (ℕ × CutKind)) : Type 0 where
  pub torn : torn_now armed ≡ None
  pub now : unwrap_or (option_map (λ c. if c.0 == 1 then Some c.1 else None) cut) None ≡ None
  pub later : ArmsAs (option_map (λ c. (c.0 - 1, c.1)) cut) (armed_after armed)

-- the cut is of this operation
pub record Cut (armed : Option Armed) (cut : Option (ℕ × CutKind)) : Type 0 where
  pub tear : Tear
  pub kind : CutKind
  pub torn : torn_now armed ≡ Some tear
  pub now : unwrap_or (option_map (λ c. if c.0 == 1 then Some c.1 else None) cut) None ≡ Some kind
  pub same : TearsAs kind tear
  pub gone : armed_after armed ≡ None

pub cut_or_not : (armed : Option Armed) (cut : Option (ℕ × CutKind)) → ArmsAs cut armed → Uncut armed cut ⊎ Cut armed cut
cut_or_not None cut is = inl (rw is (record { torn = refl; now = refl; later = refl }))
cut_or_not (Some a) cut is = elim (cases_Bool (nat_le a.left 1)) [
  | inl last ↦ inr (rw is.1 (record {
    tear = a.tear;
    kind = is.0;
    torn = ap (λ (b : Bool). if b then Some a.tear else None) last;
    now = ap (λ (b : Bool). if b then Some is.0 else None) (eq-eqb a.left 1 (omega (arith, leb-true a.left 1 last, is.2)));
    same = is.3;
    gone = ap (λ (b : Bool). if b then None else Some (record a { left = a.left - 1 })) last;
  }))
  | inr later ↦ inl (rw is.1 (record {
    torn = ap (λ (b : Bool). if b then Some a.tear else None) later;
    now = ap (λ (b : Bool). if b then Some is.0 else None) (ne_eqb a.left 1 (λ e. absurd (omega (arith, leb-false a.left 1 later))));
    later = subst (λ (o : Option Armed). ArmsAs (Some (a.left - 1, is.0)) o) (sym (ap (λ (b : Bool). if b then None else Some (record a { left = a.left - 1 })) later))
        (is.0, refl, omega (arith, leb-false a.left 1 later), is.3);
  }))
]

-- an operation is counted
pub record Counts (kind : Kind) (old new : FlashState) : Type 0 where
  pub programs : new.work.programs ≡ (if is_erase kind then old.work.programs else next_count old.work.programs)
  pub erases : new.work.erases ≡ (if is_erase kind then next_count old.work.erases else old.work.erases)

pub device_counted : (kind : Kind) (old new : FlashState) (device : Device) → SameDevice old device → Counts kind old new → ArmsAs (counted kind device).armed new.armed → SameDevice new (counted kind device)
device_counted kind old new device same counts arms = record {
  armed = arms;
  programs = ap (λ (n : ℕ). if is_erase kind then n else next_count n) same.programs ∙ sym counts.programs;
  erases = ap (λ (n : ℕ). if is_erase kind then next_count n else n) same.erases ∙ sym counts.erases;
}

pub device_fired : (kind : Kind) (old new : FlashState) (device : Device) → SameDevice old device → Counts kind old new → new.armed ≡ None → SameDevice new (fired kind device)
device_fired kind old new device same counts none = record {
  armed = subst (λ (o : Option Armed). ArmsAs None o) (sym none) refl;
  programs = ap (λ (n : ℕ). if is_erase kind then n else next_count n) same.programs ∙ sym counts.programs;
  erases = ap (λ (n : ℕ). if is_erase kind then next_count n else n) same.erases ∙ sym counts.erases;
}
