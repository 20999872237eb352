-- A mount with no cut armed fails only where the medium does.
use Rattle.std.proofs.Common.{◌≡◌, ℕ, ◌+◌, ◌-◌, ◌^◌, ◌⊎◌, inl, inr, Bool, true, IsTrue, nat_le, min, Option, Some, None, List, [], ◌∷◌, refl, sym, ◌∙◌, ap, subst, option_map, unwrap_or, ◌==◌, if◌then◌else◌, le-leb, leb-true}
use Rattle.fl_base.specs.Causes.{Rose}
use Rattle.fl_base.specs.declared.types.CutKind.{CutKind}
use Rattle.fl_flash.specs.Flash.{FlashState}
use Rattle.fl_frame.specs.Device.{SameDevice}
use Rattle.fl_frame.specs.Watched.{IsWatched}
use Rattle.fl_model.specs.Mount.{Mounts, GoesOn, MountEnd, Mounted, Stopped, Unread, Turn, turned_at, operations_at}
use Rattle.fl_model.specs.Record.{Plan}
use Rattle.fl_model.specs.Table.{Table}
use Rattle.fl_model.specs.Work.{Operation, Device, Progress, Outcome, Finished, CutShort, Failed, Performs, PerformsFirst, counted, done}

-- the medium's faults rose from one flash to another
abbrev pub has_risen : FlashState → FlashState → Bool
has_risen f g = nat_le (min (f.media.faults + 1) (2 ^ 64 - 1)) g.media.faults

pub risen-rose : (f g : FlashState) → IsTrue (has_risen f g) → Rose f.media.faults g.media.faults
risen-rose f g e = leb-true (min (f.media.faults + 1) (2 ^ 64 - 1)) g.media.faults e

pub watched : (f g : FlashState) (device : Device) → IsTrue f.media.tells → f.is_on ≡ true → SameDevice f device → IsWatched f g (has_risen f g) device
watched f g device told on counts = record { told = told; on = on; risen = λ r. le-leb (min (f.media.faults + 1) (2 ^ 64 - 1)) g.media.faults r; counts = counts }

-- operations that are done with no cut armed are finished, and none is armed then; or the medium failed in one
abbrev Settled : Bool → Progress → Type 0
Settled rose end = ((end.outcome ≡ Finished) × (end.device.armed ≡ None)) ⊎ (IsTrue rose × ((before : List Table) × (end.outcome ≡ Failed before)))

performs-settled : (plans : List Plan) (rose : Bool) (operations : List Operation) (device : Device) (tables : List Table) (end : Progress) → device.armed ≡ None → Performs plans rose operations device tables end → Settled rose end
performs-settled plans rose [] device tables end unarmed did = inl (did.0, ap (λ (d : Device). d.armed) did.1 ∙ unarmed)
performs-settled plans rose (operation ∷ operations) device tables end unarmed did =
    by_cut (λ others. performs-settled plans rose operations (counted operation.kind device) (done plans operation tables) end (ap (option_map (λ cut. (cut.0 - 1, cut.1))) unarmed) others)
    (subst (λ (k : Option CutKind). PerformsBy k) (ap (λ (a : Option (ℕ × CutKind)). unwrap_or (option_map (λ cut. if cut.0 == 1 then Some cut.1 else None) a) None) unarmed) did)
  where
    PerformsBy : Option CutKind → Type 0
    PerformsBy k = PerformsFirst plans rose k operation device tables end (Performs plans rose operations (counted operation.kind device) (done plans operation tables) end)

    by_cut : (Performs plans rose operations (counted operation.kind device) (done plans operation tables) end → Settled rose end) → PerformsBy None → Settled rose end
    by_cut go (inl failed) = inr (failed.0, (tables, failed.1))
    by_cut go (inr others) = go others

abbrev Fails : Progress → MountEnd → Type 0
Fails end how = (how ≡ Stopped end) ⊎ (how ≡ Unread end)

goes-calm : (rose : Bool) (o : Outcome) (now : Progress) (how : MountEnd) (others : Type 0) → now.outcome ≡ o → Settled rose now → GoesOn o now how others → (now.device.armed ≡ None → others → IsTrue rose) → IsTrue rose
goes-calm rose o now how others is (inr failed) goes go = failed.0
goes-calm rose Finished now how others is (inl done) goes go = go done.1 goes
goes-calm rose (CutShort before) now how others is (inl done) goes go = absurd (cc (sym is ∙ done.0))
goes-calm rose (Failed before) now how others is (inl done) goes go = absurd (cc (sym is ∙ done.0))

pub fails-rose : (plans : List Plan) (rose : Bool) (turns : List (ℕ × Turn)) (device : Device) (tables : List Table) (end : Progress) (how : MountEnd) → device.armed ≡ None → Fails end how → Mounts plans rose turns device tables how → IsTrue rose
fails-rose plans rose [] device tables end how unarmed fails did = absurd (by_end fails)
  where
    by_end : Fails end how → ⊥
    by_end (inl is) = cc (sym is ∙ did)
    by_end (inr is) = cc (sym is ∙ did)
fails-rose plans rose (at ∷ turns) device tables end how unarmed fails (inl unread) = unread.1.may_fail
fails-rose plans rose (at ∷ turns) device tables end how unarmed fails (inr (now, did, goes)) =
    goes-calm rose now.outcome now how (Mounts plans rose turns now.device now.tables how) refl
    (performs-settled plans rose (operations_at plans at (turned_at plans at tables)) device (turned_at plans at tables) now unarmed did) goes
    (λ unarmed' others. fails-rose plans rose turns now.device now.tables end how unarmed' fails others)

-- .. and no operation of it is cut short
abbrev pub IsSafe : Outcome → Type 0
IsSafe (CutShort before) = ⊥
IsSafe other = Unit {0}

goes-safe : (rose : Bool) (now end : Progress) (others : Type 0) → Settled rose now → GoesOn now.outcome now (Stopped end) others → (now.device.armed ≡ None → others → IsSafe end.outcome) → IsSafe end.outcome
goes-safe rose now end others (inl done) goes go = go done.1 (subst (λ (o : Outcome). GoesOn o now (Stopped end) others) done.0 goes)
goes-safe rose now end others (inr failed) goes go =
    let stopped : Stopped end ≡ Stopped now = subst (λ (o : Outcome). GoesOn o now (Stopped end) others) failed.1.1 goes in
    let same : end ≡ now = cc stopped in
    subst IsSafe (sym (ap (λ (p : Progress). p.outcome) same ∙ failed.1.1)) tt

pub stopped-safe : (plans : List Plan) (rose : Bool) (turns : List (ℕ × Turn)) (device : Device) (tables : List Table) (end : Progress) → device.armed ≡ None → Mounts plans rose turns device tables (Stopped end) → IsSafe end.outcome
stopped-safe plans rose [] device tables end unarmed did = absurd (cc did)
stopped-safe plans rose (at ∷ turns) device tables end unarmed (inl unread) = absurd (cc unread.2)
stopped-safe plans rose (at ∷ turns) device tables end unarmed (inr (now, did, goes)) =
    goes-safe rose now end (Mounts plans rose turns now.device now.tables (Stopped end))
    (performs-settled plans rose (operations_at plans at (turned_at plans at tables)) device (turned_at plans at tables) now unarmed did) goes
    (λ unarmed' others. stopped-safe plans rose turns now.device now.tables end unarmed' others)

-- .. and none is armed after a mount that went well
settled-unarmed : (rose : Bool) (end : Progress) → Settled rose end → end.outcome ≡ Finished → end.device.armed ≡ None
settled-unarmed rose end (inl done) whole = done.1
settled-unarmed rose end (inr failed) whole = absurd (cc (sym failed.1.1 ∙ whole))

pub mounts-unarmed : (plans : List Plan) (rose : Bool) (turns : List (ℕ × Turn)) (device : Device) (tables : List Table) (end : Progress) → device.armed ≡ None → Mounts plans rose turns device tables (Mounted end) → end.device.armed ≡ None
mounts-unarmed plans rose [] device tables end unarmed did = let same = ends did in ap (λ (p : Progress). p.device.armed) same ∙ unarmed
  where
    ends : ◌≡◌ {A = MountEnd} (Mounted end) (Mounted (record { outcome = Finished; device = device; tables = tables })) → end ≡ record { outcome = Finished; device = device; tables = tables }
    ends e = cc
mounts-unarmed plans rose (at ∷ turns) device tables end unarmed (inl unread) = absurd (cc unread.2)
mounts-unarmed plans rose (at ∷ turns) device tables end unarmed (inr (now, did, goes)) =
    by-outcome now.outcome refl goes (λ whole others. mounts-unarmed plans rose turns now.device now.tables end (settled-unarmed rose now (performs-settled plans rose (operations_at plans at (turned_at plans at tables)) device (turned_at plans at tables) now unarmed did) whole) others)
  where
    Others : Type 0
    Others = Mounts plans rose turns now.device now.tables (Mounted end)

    by-outcome : (o : Outcome) → now.outcome ≡ o → GoesOn o now (Mounted end) Others → (now.outcome ≡ Finished → Others → end.device.armed ≡ None) → end.device.armed ≡ None
    by-outcome Finished is goes go = go is goes
    by-outcome outcome is goes go = absurd (cc goes)
