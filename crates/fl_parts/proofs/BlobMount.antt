-- How the mount of variable data ends, for a table.
use Rattle.std.proofs.Common.{◌≡◌, ℕ, ◌+◌, ◌*◌, ◌≤◌, Bool, Result, Ok, Err, List, sym, ◌∙◌, ap, subst, arith}
use Rattle.std.proofs.Math.Nat.{mul-le-mul_left, mul-le-mul_right}
use Rattle.std.proofs.lemmas.Option.{same_Some}
use Rattle.fl_flash.specs.Flash.{FlashState}
use Rattle.fl_model.specs.Mount.{renumber}
use Rattle.fl_model.specs.Record.{Plan}
use Rattle.fl_model.specs.Ring.{Ring}
use Rattle.fl_model.specs.Table.{Table, Entry, VarRing}
use Rattle.fl_model.specs.Within.{repair_within, TablePerforms}
use Rattle.fl_model.specs.Work.{Device, PartProgress}
use Rattle.fl_model.proofs.Fronts.{performed-front}
use Rattle.fl_frame.specs.Reads.{FewReads}
use Rattle.fl_ring.specs.Mounting.{search_reads}
use Rattle.fl_ring.specs.Repairing.{Beside}
use Rattle.fl_ring.specs.Ring as rings
use Rattle.fl_ring.specs.declared.fault.RingFault.{RingFault}
use Rattle.fl_ring.specs.declared.fault.RingFault.TheVariants.{Flash, BadHead, BadGap, BadPage, NoNumber}
use Rattle.fl_parts.specs.Blobs.{AreIn, AreLed}
use Rattle.fl_parts.specs.BlobMount.{Rests, MountsWell, MountEnds}
use Rattle.fl_parts.proofs.Renumbered.{held-below}
use Rattle.fl_parts.proofs.VarFacts.{placed-in}
use Rattle.fl_parts.proofs.VarRepairs.{done-keeps, repairs-beside}
use Rattle.fl_var.specs.Memory.{LiesOn, var_shape, IsSamePlan}
use Rattle.fl_var.specs.Mounting as mounting
use Rattle.fl_var.specs.declared.var_data.VarData.{VarData}
use Rattle.fl_var.proofs.Joins.{same-shape}

module _ (old v : VarData) (f g : FlashState) (first : ℕ) (plan : Plan) (table : Table) (rose : Bool) (device : Device) (same : IsSamePlan old v) (rests : Rests old f first plan table) where
  -- repairs change the ring alone
  entries_left : (now : PartProgress Table) → TablePerforms plan rose (repair_within plan VarRing (renumber plan VarRing table)) device (renumber plan VarRing table) now → now.state.entries ≡ table.entries
  entries_left now did =
      let front = performed-front plan rose (repair_within plan VarRing (renumber plan VarRing table)) device (renumber plan VarRing table) now did in
      ap (λ (t : Table). t.entries) (repairs-beside plan table now.state front).3

  well : mounting.MountsWell plan table rose device v g → MountsWell first plan table rose device v g
  well w =
      let ring = w.stands.ring in
      let kept = done-keeps (AreIn plan rests.in_pages.ring table.entries) old f first plan table rests (λ inside. inside) rose device w.now ring.ring ring.ring_is w.did in
      let entries : w.now.state.entries ≡ table.entries = entries_left w.now w.did in
      record {
        now = w.now;
        did = w.did;
        whole = w.whole;
        counts = w.counts;
        power = w.power;
        planned = record {
          planned = record { geometry = rests.planned.planned.geometry ∙ sym (same.geometry); blocks = rests.planned.planned.blocks ∙ sym (ap (λ p. p.blocks) same.place) };
          begins = ap (λ (r : rings.Shape). r.first) (same-shape old v same) ∙ rests.planned.begins;
        };
        in_pages = w.stands;
        placed = λ before is inside. placed-in plan ring.ring w.now.state.entries (kept.inside (subst (λ (r : Ring). AreIn plan r table.entries) (same_Some before rests.in_pages.ring (sym is ∙ rests.in_pages.ring_is)) inside));
        below = let le = held-below plan ring.ring table (subst (λ (es : List Entry). AreLed plan ring.ring es) entries kept.led) in omega (arith, le, ring.next);
      }

  pub mount-ends : (result : Result (Unit {0}) RingFault) → mounting.MountEnds plan table rose device old result v g → MountEnds first plan table rose device old result v g
  mount-ends (Ok u) h = well h
  mount-ends (Err (Flash fault)) h = h
  mount-ends (Err (BadHead heads)) h = h
  mount-ends (Err (BadGap page)) h = h
  mount-ends (Err (BadPage page wanted found)) h = h
  mount-ends (Err (NoNumber at_least)) h = h

-- a search and a repair are few reads
few-steps : (blocks pages : ℕ) → 3 ≤ blocks → 2 ≤ pages → blocks + pages + blocks * pages + pages ≤ 4 * (blocks * pages)
few-steps blocks pages some more =
    let wide : 3 * pages ≤ blocks * pages = mul-le-mul_right pages some in
    let long : blocks * 2 ≤ blocks * pages = mul-le-mul_left blocks more in
    omega (arith, wide, long)

pub few-reads : (v : VarData) (f g : FlashState) → LiesOn v f → Beside (var_shape v) (search_reads (var_shape v) + f.geometry.block) 1 1 f g → FewReads (4 * rings.room (var_shape v)) f g
few-reads v f g lies h =
    let same : f.geometry.block ≡ v.geometry.block = ap (λ x. x.block) lies.geometry in
    let few = few-steps v.place.blocks v.geometry.block v.some_blocks v.served.block_least in
    record { reads = omega (arith, h.few_reads, few, same); media_reads = omega (arith, h.media_reads, few, same) }
