-- The mount of variable data whose blobs end before a page.
use Rattle.std.proofs.Common.{◌≡◌, ℕ, ◌<◌, Bool, Option, Some, None, Ok, Err, refl, ◌∙◌, arith}
use Rattle.fl_flash.specs.Flash.{FlashState}
use Rattle.fl_model.specs.Mount.{blob_end}
use Rattle.fl_model.specs.Record.{Plan}
use Rattle.fl_model.specs.Table.{Table}
use Rattle.fl_model.specs.Work.{Device}
use Rattle.fl_ring.specs.declared.fault.RingFault.{RingFault}
use Rattle.fl_ring.specs.declared.fault.RingFault.TheVariants.{Flash, BadHead, BadGap, BadPage, NoNumber}
use Rattle.fl_parts.specs.BlobEnds.{least_of}
use Rattle.fl_parts.specs.BlobMount.{Rests, MountsWell, MountEnds, MountEndsOf, FindsBlobs, RefusesBlobs, WithinEnds, WithinEndsOf}
use Rattle.fl_parts.specs.Blobs.{AreSamePlan}
use Rattle.fl_parts.specs.Faults.{of_ring}
use Rattle.fl_parts.specs.declared.mount_fault.MountFault.TheVariants as mount
use Rattle.fl_parts.proofs.Renumbered.{held-below}
use Rattle.fl_var.specs.Memory.{next_in}
use Rattle.fl_var.specs.declared.var_data.VarData.{VarData}

-- ---- where the blobs end

-- a page number tells it, where the blobs stand in a ring
small-end : (v : VarData) (f : FlashState) (first : ℕ) (plan : Plan) (table : Table) (end : ℕ) → Rests v f first plan table → end ≡ blob_end table → least_of end ≡ blob_end table
small-end v f first plan table end rests e =
    let le = held-below plan rests.in_pages.ring table rests.led in
    omega (arith, le, rests.in_pages.pages.number, e)

module _ (f g : FlashState) (first : ℕ) (plan : Plan) (table : Table) (rose : Bool) (device : Device) (end at_least : ℕ) (is : at_least ≡ least_of end) (there : end ≡ blob_end table) where
  least : (v : VarData) → Rests v f first plan table → at_least ≡ blob_end table
  least v rests = is ∙ small-end v f first plan table end rests there

  pub within-fails : (blobs now : Option VarData) (e : RingFault) → (at_least ≡ blob_end table → MountEndsOf blobs f first plan table rose device (Err e) now g) → RefusesBlobs blobs f at_least e g → AreSamePlan blobs now → WithinEndsOf blobs f first plan table rose device (Err (of_ring e)) now g
  within-fails None now e ends refused same = absurd refused
  within-fails (Some v) None e ends refused same = absurd same
  within-fails (Some v) (Some w) e ends refused same = λ watched rests. by_fault e (ends (least v rests) watched rests)
    where
      by_fault : (e : RingFault) → MountEnds first plan table rose device v (Err e) w g → WithinEnds first plan table rose device v (Err (of_ring e)) w g
      by_fault (Flash fault) h = h
      by_fault (BadHead heads) h = absurd h
      by_fault (BadGap page) h = absurd h
      by_fault (BadPage page wanted found) h = absurd h
      by_fault (NoNumber at_least) h = absurd h

  pub within-ends : (blobs now : Option VarData) (u : Unit {0}) → (at_least ≡ blob_end table → MountEndsOf blobs f first plan table rose device (Ok u) now g) → FindsBlobs blobs f at_least now g → WithinEndsOf blobs f first plan table rose device (Ok tt) now g
  within-ends None now u ends found = (refl, found.0, found.1)
  within-ends (Some v) None u ends found = absurd found
  within-ends (Some v) (Some w) u ends found = λ watched rests. ends (least v rests) watched rests

  pub within-beyond : (blobs : Option VarData) (now : VarData) (u : Unit {0}) (page next : ℕ) → (at_least ≡ blob_end table → MountEndsOf blobs f first plan table rose device (Ok u) (Some now) g) → FindsBlobs blobs f at_least (Some now) g → next_in now < end →
      WithinEndsOf blobs f first plan table rose device (Err (mount.BadBlob page next)) (Some now) g
  within-beyond None now u page next ends found beyond = absurd (no found.0)
    where
      no : Some now ≡ None → ⊥
      no e = cc
  within-beyond (Some v) now u page next ends found beyond = λ watched rests. let w : MountsWell first plan table rose device now g = ends (least v rests) watched rests in absurd (omega (arith, w.below, there, beyond))
