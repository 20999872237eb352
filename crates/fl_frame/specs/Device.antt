-- The device that the model counts with, and a flash.
use Rattle.std.specs.Prelude.{◌≡◌, ℕ, ◌≤◌, Option, Some, None}
use Rattle.fl_base.specs.declared.types.CutKind.{CutKind}
use Rattle.fl_base.specs.declared.types.CutKind.TheVariants.{Noise}
use Rattle.fl_flash.specs.Flash.{FlashState}
use Rattle.fl_flash.specs.declared.armed.Armed.{Armed}
use Rattle.fl_flash.specs.declared.tear.Tear.{Tear}
use Rattle.fl_flash.specs.declared.tear.Tear.TheVariants.{Kind, Bytes}
use Rattle.fl_model.specs.Work.{Device}

-- Bytes that are given for a torn range may be any, as noise may.
abbrev pub TearsAs : CutKind → Tear → Type 0
TearsAs cut (Kind kind) = cut ≡ kind
TearsAs cut (Bytes bytes) = (seed : ℕ) × (cut ≡ Noise seed)

-- the cut that is to come
abbrev pub ArmsAs : Option (ℕ × CutKind) → Option Armed → Type 0
ArmsAs cut None = cut ≡ None
ArmsAs cut (Some armed) = (kind : CutKind) × (cut ≡ Some (armed.left, kind)) × (1 ≤ armed.left) × TearsAs kind armed.tear

-- a flash has the armed cut and the counts of this device
pub record SameDevice (f : FlashState) (device : Device) : Type 0 where
  pub armed : ArmsAs device.armed f.armed
  pub programs : device.programs ≡ f.work.programs
  pub erases : device.erases ≡ f.work.erases
