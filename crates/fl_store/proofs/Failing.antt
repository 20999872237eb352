-- Operations while no cut is armed: they are done, or the medium fails in one.
use Rattle.std.proofs.Common.{◌≡◌, ℕ, ◌-◌, inl, inr, Bool, true, Option, Some, None, List, [], ◌∷◌, refl, sym, ◌∙◌, ap, subst, option_map, unwrap_or, ◌==◌, if◌then◌else◌}
use Rattle.fl_base.specs.declared.types.CutKind.{CutKind}
use Rattle.fl_model.specs.Puts.{TablePuts, TablePutGoesOn}
use Rattle.fl_model.specs.Record.{Record, Plan}
use Rattle.fl_model.specs.Table.{Table, RingName, make_room_seals, join_seals, put_joined}
use Rattle.fl_model.specs.Within.{seals_within, effect_within}
use Rattle.fl_model.specs.Work.{Kind, Device, PartEnd, Whole, CutIn, FailedIn, PartProgress, PartPerforms, PartFirst, cut_now, counted}
use Rattle.fl_parts.specs.Failing.{BySeals}

-- what is known of them, however they went; `Did` says how, where the medium may have failed
pub record IsCalm {S : Type 0} (Did : Type 0) (now : PartProgress S) : Type 0 where
  pub unarmed : now.end ≡ Whole → now.device.armed ≡ None
  pub uncut : (before : S) → now.end ≡ CutIn before → ⊥
  pub did : Did

uncut-now : (device : Device) → device.armed ≡ None → cut_now device ≡ None
uncut-now device unarmed = ap (λ (a : Option (ℕ × CutKind)). unwrap_or (option_map (λ cut. if cut.0 == 1 then Some cut.1 else None) a) None) unarmed

calm : {O S : Type 0} (kind : O → Kind) (change : O → S → S) (rose : Bool) (operations : List O) (device : Device) (s : S) (now : PartProgress S) → device.armed ≡ None → PartPerforms kind change rose operations device s now →
    IsCalm (PartPerforms kind change true operations device s now) now
calm kind change rose [] device s now unarmed did = record {
  unarmed = λ e. ap (λ (d : Device). d.armed) did.1 ∙ unarmed;
  uncut = λ before e. let no = sym e ∙ did.0 in cc;
  did = did;
}
calm {O} {S} kind change rose (operation ∷ operations) device s now unarmed did =
    by_first (λ others. calm kind change rose operations (counted (kind operation) device) (change operation s) now (ap (option_map (λ cut. (cut.0 - 1, cut.1))) unarmed) others)
    (subst (λ (k : Option CutKind). First rose k) (uncut-now device unarmed) did)
  where
    Others : Bool → Type 0
    Others r = PartPerforms kind change r operations (counted (kind operation) device) (change operation s) now

    First : Bool → Option CutKind → Type 0
    First r k = PartFirst r k (kind operation) device s (change operation s) now (Others r)

    by_first : (Others rose → IsCalm (Others true) now) → First rose None → IsCalm (PartPerforms kind change true (operation ∷ operations) device s now) now
    by_first go (inl failed) = record {
      unarmed = λ e. let no = sym failed.1 ∙ e in cc;
      uncut = λ before e. let no = sym failed.1 ∙ e in cc;
      did = subst (λ (k : Option CutKind). First true k) (sym (uncut-now device unarmed)) (inl (refl, failed.1, failed.2, failed.3));
    }
    by_first go (inr others) =
        let h = go others in
        record { unarmed = h.unarmed; uncut = h.uncut; did = subst (λ (k : Option CutKind). First true k) (sym (uncut-now device unarmed)) (inr h.did) }

-- ---- the work of a call: it is calm, where no cut is armed

abbrev pub IsWork : {S : Type 0} → (Bool → Device → PartProgress S → Type 0) → Type 0
IsWork {S} Did = (rose : Bool) (device : Device) (now : PartProgress S) → device.armed ≡ None → Did rose device now → IsCalm (Did true device now) now

-- that of seals
pub seals-work : (plan : Plan) (rings : List RingName) (table : Table) → IsWork (λ rose device now. BySeals plan rings table rose device now)
seals-work plan rings table rose device now unarmed did = calm (λ operation. operation.1) (effect_within plan) rose (seals_within plan rings table) device table now unarmed did

-- .. and that of a put
pub put-work : (plan : Plan) (item : Record) (table : Table) → IsWork (λ rose device now. TablePuts plan rose item device table now)
put-work plan item table rose device now unarmed (mid, did, goes) = by-end mid.end refl goes
  where
    joined : Table
    joined = put_joined plan item table

    room : IsCalm (BySeals plan (make_room_seals plan table) table true device mid) mid
    room = seals-work plan (make_room_seals plan table) table rose device mid unarmed did

    Joins : Bool → Type 0
    Joins r = BySeals plan (join_seals plan joined) joined r mid.device now

    put-so : (end : PartEnd Table) → mid.end ≡ end → TablePutGoesOn end mid now (Joins true) → TablePuts plan true item device table now
    put-so end is on = (mid, room.did, subst (λ (e : PartEnd Table). TablePutGoesOn e mid now (Joins true)) (sym is) on)

    by-end : (end : PartEnd Table) → mid.end ≡ end → TablePutGoesOn end mid now (Joins rose) → IsCalm (TablePuts plan true item device table now) now
    by-end Whole is others =
        let h = seals-work plan (join_seals plan joined) joined rose mid.device now (room.unarmed is) others in
        record { unarmed = h.unarmed; uncut = h.uncut; did = put-so Whole is h.did }
    by-end (CutIn before) is same = absurd (room.uncut before is)
    by-end (FailedIn before) is same =
        let end : now.end ≡ FailedIn before = ap (λ (x : PartProgress Table). x.end) same ∙ is in
        record {
          unarmed = λ e. let no = sym end ∙ e in cc;
          uncut = λ other e. let no = sym end ∙ e in cc;
          did = put-so (FailedIn before) is same;
        }
