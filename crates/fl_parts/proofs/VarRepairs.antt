-- What the repairs of variable data leave of their table.
use Rattle.std.proofs.Common.{◌≡◌, ℕ, ◌+◌, ◌*◌, ◌<◌, ◌≤◌, Bool, true, false, cond, Option, Some, None, option_map, unwrap_or, nat_lt, length, refl, sym, ◌∙◌, ap, subst, arith, ◌⊎◌, inl, inr}
use Rattle.std.specs.List.{list_any}
use Rattle.std.proofs.lemmas.Option.{same_Some}
use Rattle.fl_flash.specs.Flash.{FlashState}
use Rattle.fl_flash.specs.declared.flash.FlashFault.{FlashFault}
use Rattle.fl_flash.specs.declared.flash.FlashFault.TheVariants.{Media}
use Rattle.fl_model.specs.Mount.{renumber, renumbered, least_alike, blob_end}
use Rattle.fl_model.specs.Record.{Plan}
use Rattle.fl_model.specs.Ring as model
use Rattle.fl_model.specs.Table.{Table, VarRing, shape_of, is_torn}
use Rattle.fl_model.specs.Work.{VoidMark, Erase, Device, PartProgress}
use Rattle.fl_model.specs.Within.{repair_within, effect_within, TablePerforms, TableUnreads}
use Rattle.fl_model.proofs.Sealed.{sealed-next, sealed-torn}
use Rattle.fl_model.proofs.Fronts.{IsFront, performed-front, unread-front, repairs-keep}
use Rattle.fl_parts.specs.BlobMount.{Rests}
use Rattle.fl_parts.specs.Blobs.{AreIn}
use Rattle.fl_parts.proofs.Renumbered.{IsMounting, mounting-erased, mounting-voided, mounting-renumbered}
use Rattle.fl_parts.proofs.BlobSeals.{IsBesideVar}
use Rattle.fl_parts.proofs.BlobTables.{low-number, var-shape}
use Rattle.fl_parts.proofs.Fronts.{IsNumberedTo, erased-number}
use Rattle.fl_var.specs.Placing.{FaultEnds}
use Rattle.fl_var.specs.declared.var_data.VarData.{VarData}

-- they change the variable data alone
pub repairs-beside : (plan : Plan) (table left : Table) → IsFront (effect_within plan) (repair_within plan VarRing (renumber plan VarRing table)) (renumber plan VarRing table) left → IsBesideVar table left
repairs-beside plan table left f =
    repairs-keep (IsBesideVar table) plan VarRing (renumber plan VarRing table) left f (λ e b. (_, _, _, ap (effect_within plan (VarRing, VoidMark)) b.3)) (λ t b. (_, _, _, ap (effect_within plan (VarRing, Erase)) b.3)) (_, _, _, refl)

-- what they leave of a table
pub record IsLeft (n : ℕ) (table new : Table) : Type 0 where
  pub beside : IsBesideVar table new
  pub buffered : new.buffered ≡ table.buffered
  pub number : IsNumberedTo n new.var

pub voided_number : (n : ℕ) (shape : model.Shape) (o : Option model.Ring) → unwrap_or (option_map (λ ring. ring.torn) o) false ≡ true → IsNumberedTo n o → IsNumberedTo n (option_map (model.sealed shape 0) o)
voided_number n shape None torn h = tt
voided_number n shape (Some r) torn h =
    let was : r.next + 1 ≤ n = subst (λ b. r.next + (cond b 1 0) ≤ n) torn h in
    rw (sealed-torn shape 0 r, sealed-next shape 0 r) (omega (arith, was))

-- renumbered from the end of the blobs on, the ring's number is the same or less
module _ (v : VarData) (f : FlashState) (first : ℕ) (plan : Plan) (table : Table) (rests : Rests v f first plan table) (some : 0 < plan.var_blocks * plan.geometry.block) (n : ℕ) (number : IsNumberedTo n table.var) where
  abbrev ring : model.Ring
  ring = rests.in_pages.ring

  low_number : (b : Bool) → list_any (nat_lt 0) ring.counts ≡ b → ring.next + (cond ring.torn 1 0) ≤ n →
      IsNumberedTo n (Some (cond b ring (record ring { next = least_alike (plan.var_blocks * plan.geometry.block) ring.next (blob_end table + length ring.counts) })))
  low_number true e k = k
  low_number false e k =
      let old = rests.void e in
      let low = low-number plan ring (blob_end table + length ring.counts) some (omega (arith, old, rests.in_pages.pages.facts.not_negative)) in
      omega (arith, low, k)

  numbered : IsNumberedTo n (renumber plan VarRing table).var
  numbered =
      subst (λ (o : Option model.Ring). IsNumberedTo n (option_map (renumbered (shape_of plan VarRing) (blob_end table)) o)) (sym rests.in_pages.ring_is)
      (low_number (list_any (nat_lt 0) ring.counts) refl (subst (IsNumberedTo n) rests.in_pages.ring_is number))

  -- a front of the repairs
  pub front-leaves : (left : Table) → IsFront (effect_within plan) (repair_within plan VarRing (renumber plan VarRing table)) (renumber plan VarRing table) left → IsLeft n table left
  front-leaves left f = repairs-keep (IsLeft n table) plan VarRing (renumber plan VarRing table) left f voids erases (record { beside = (_, _, _, refl); buffered = refl; number = numbered })
    where
      voids : is_torn VarRing (renumber plan VarRing table) ≡ true → IsLeft n table (renumber plan VarRing table) → IsLeft n table (effect_within plan (VarRing, VoidMark) (renumber plan VarRing table))
      voids e k = record {
        beside = (_, _, _, ap (effect_within plan (VarRing, VoidMark)) k.beside.3);
        buffered = k.buffered;
        number = voided_number n (shape_of plan VarRing) (renumber plan VarRing table).var e k.number;
      }

      erases : (t : Table) → IsLeft n table t → IsLeft n table (effect_within plan (VarRing, Erase) t)
      erases t k = record { beside = (_, _, _, ap (effect_within plan (VarRing, Erase)) k.beside.3); buffered = k.buffered; number = erased-number n t.var k.number }

  pub done-leaves : (rose : Bool) (device : Device) (now : PartProgress Table) → TablePerforms plan rose (repair_within plan VarRing (renumber plan VarRing table)) device (renumber plan VarRing table) now → IsLeft n table now.state
  done-leaves rose device now did =
      front-leaves now.state (performed-front plan rose (repair_within plan VarRing (renumber plan VarRing table)) device (renumber plan VarRing table) now did)

  pub part-leaves : (rose : Bool) (device : Device) (fault : FlashFault) (new : FlashState) (now : PartProgress Table) →
      (TablePerforms plan rose (repair_within plan VarRing (renumber plan VarRing table)) device (renumber plan VarRing table) now × FaultEnds now.end fault new)
      ⊎ (TableUnreads plan rose (repair_within plan VarRing (renumber plan VarRing table)) device (renumber plan VarRing table) now × (fault ≡ Media)) → IsLeft n table now.state
  part-leaves rose device fault new now (inl p) = done-leaves rose device now p.0
  part-leaves rose device fault new now (inr u) = front-leaves now.state (unread-front plan rose (repair_within plan VarRing (renumber plan VarRing table)) device (renumber plan VarRing table) now u.0)

-- the ring then has what the mount keeps of it
module _ (Left : Type 0) (v : VarData) (f : FlashState) (first : ℕ) (plan : Plan) (table : Table) (rests : Rests v f first plan table) (inside : Left → AreIn plan rests.in_pages.ring table.entries) where
  before : IsMounting Left plan (renumber plan VarRing table) (renumbered (shape_of plan VarRing) (blob_end table) rests.in_pages.ring)
  before = mounting-renumbered Left plan table rests.in_pages.ring (record {
    is = rests.in_pages.ring_is;
    numbered = rests.in_pages.pages.facts.not_negative;
    led = rests.led;
    inside = inside;
    stand = rests.stand;
  })

  front-keeps : (left : Table) (ring : model.Ring) → IsFront (effect_within plan) (repair_within plan VarRing (renumber plan VarRing table)) (renumber plan VarRing table) left → left.var ≡ Some ring → IsMounting Left plan left ring
  front-keeps left ring f is =
      let here = repairs-keep (λ (t : Table). (r : model.Ring) × IsMounting Left plan t r) plan VarRing (renumber plan VarRing table) left f
      (λ e k. (model.sealed (shape_of plan VarRing) 0 k.0, mounting-voided Left plan (renumber plan VarRing table) k.0 (var-shape v first plan rests.planned) k.1)) (λ t k. (model.erased k.0, mounting-erased Left plan t k.0 k.1))
      (renumbered (shape_of plan VarRing) (blob_end table) rests.in_pages.ring, before) in
      subst (IsMounting Left plan left) (same_Some here.0 ring (sym here.1.is ∙ is)) here.1

  pub part-keeps : (rose : Bool) (device : Device) (fault : FlashFault) (new : FlashState) (now : PartProgress Table) (ring : model.Ring) → now.state.var ≡ Some ring →
      (TablePerforms plan rose (repair_within plan VarRing (renumber plan VarRing table)) device (renumber plan VarRing table) now × FaultEnds now.end fault new)
      ⊎ (TableUnreads plan rose (repair_within plan VarRing (renumber plan VarRing table)) device (renumber plan VarRing table) now × (fault ≡ Media)) → IsMounting Left plan now.state ring
  part-keeps rose device fault new now ring is (inl p) =
      front-keeps now.state ring (performed-front plan rose (repair_within plan VarRing (renumber plan VarRing table)) device (renumber plan VarRing table) now p.0) is
  part-keeps rose device fault new now ring is (inr u) = front-keeps now.state ring (unread-front plan rose (repair_within plan VarRing (renumber plan VarRing table)) device (renumber plan VarRing table) now u.0) is

  pub done-keeps : (rose : Bool) (device : Device) (now : PartProgress Table) (ring : model.Ring) → now.state.var ≡ Some ring → TablePerforms plan rose (repair_within plan VarRing (renumber plan VarRing table)) device (renumber plan VarRing table) now → IsMounting Left plan now.state ring
  done-keeps rose device now ring is did =
      front-keeps now.state ring (performed-front plan rose (repair_within plan VarRing (renumber plan VarRing table)) device (renumber plan VarRing table) now did) is
