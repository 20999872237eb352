-- Why the calls of a table's parts fail, over any bytes.
use Rattle.std.specs.Prelude.{◌≡◌, Bool, true, false, Result, IfErr}
use Rattle.fl_flash.specs.Flash.{FlashState}
use Rattle.fl_flash.specs.declared.flash.FlashFault.{FlashFault}
use Rattle.fl_frame.specs.Causes.{CausedBy}
use Rattle.fl_ring.specs.declared.fault.RingFault.{RingFault}
use Rattle.fl_ring.specs.declared.fault.RingFault.TheVariants as ring
use Rattle.fl_parts.specs.declared.mount_fault.MountFault.{MountFault}
use Rattle.fl_parts.specs.declared.mount_fault.MountFault.TheVariants as mount

-- with the power off the flash stays as it is, and each fault is this one
abbrev pub OffFailsAs : {T E : Type 0} → E → FlashState → Result T E → FlashState → Type 0
OffFailsAs fault old result new = old.is_on ≡ false → IfErr result (λ e. e ≡ fault) × (new ≡ old)

-- a fault of the flash inside the ring comes as one of the flash
abbrev pub MountCausedBy : FlashState → MountFault → FlashState → Type 0
MountCausedBy old (mount.Flash fault) new = CausedBy old fault new
MountCausedBy old (mount.Ring (ring.Flash fault)) new = ⊥
MountCausedBy old _ new = Unit {0}

-- the fault of a ring
abbrev pub of_ring : RingFault → MountFault
of_ring (ring.Flash fault) = mount.Flash fault
of_ring fault = mount.Ring fault

-- a fault of the flash has this cause, and any other that is about the kept pages
abbrev pub IfFlash : (FlashFault → Type 0) → MountFault → Type 0
IfFlash P (mount.Flash fault) = P fault
IfFlash P _ = Unit {0}

abbrev pub IfPage : (MountFault → Type 0) → MountFault → Type 0
IfPage P (mount.BadPage bad) = P (mount.BadPage bad)
IfPage P (mount.BadKeys page last first) = P (mount.BadKeys page last first)
IfPage P (mount.BadEntry page count limit) = P (mount.BadEntry page count limit)
IfPage P _ = Unit {0}

-- the flash failed, or a page is refused
abbrev pub is_of_pages : MountFault → Bool
is_of_pages (mount.Flash fault) = true
is_of_pages (mount.BadPage bad) = true
is_of_pages (mount.BadKeys page last first) = true
is_of_pages (mount.BadEntry page count limit) = true
is_of_pages _ = false

-- .. and the flash didn't fail
abbrev pub is_refused : MountFault → Bool
is_refused (mount.BadPage bad) = true
is_refused (mount.BadKeys page last first) = true
is_refused (mount.BadEntry page count limit) = true
is_refused _ = false
