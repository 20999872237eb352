-- The operations of a seal of the data ring are those of its table.
use Rattle.std.proofs.Common.{◌≡◌, ℕ, ◌<◌, Bool, false, Result, List, [], ◌∷◌, length, refl, ◌∙◌, ap, subst, IsTrue, pos_of_ne-zero}
use Rattle.fl_flash.specs.Flash.{FlashState}
use Rattle.fl_flash.specs.declared.flash.FlashFault.{FlashFault}
use Rattle.fl_model.specs.Record.{Plan, has_index, entries_per_page}
use Rattle.fl_model.specs.Ring as model
use Rattle.fl_model.specs.Table.{Table, RingName, DataRing, shape_of, with_ring, seal_buffer, pending_entries, lose, after_seal, is_dirty}
use Rattle.fl_model.specs.Layout.{data_body}
use Rattle.fl_model.specs.Work.{Kind, Body, Mark, VoidMark, Erase, effect, Device, Whole, PartProgress}
use Rattle.fl_model.specs.Within.{seal_within, effect_within, TablePerforms}
use Rattle.fl_model.proofs.Performs.{performs-whole}
use Rattle.fl_model.proofs.Among.{seal-all_done}
use Rattle.fl_parts.proofs.BlobTables.{AreInPages, HoldsVar}
use Rattle.fl_parts.proofs.Plain.{IsPlainTable, plain-body, plain-mark, plain-erase}
use Rattle.fl_parts.proofs.ListsStay.{HoldsIndexed}
use Rattle.fl_ring.specs.Operations.{change, seal_kinds}
use Rattle.fl_ring.specs.Ring.{RingState, sealed, begun, erased}
use Rattle.fl_ring.specs.Sealing.{Performed}
use Rattle.fl_ring.proofs.InTable.{AreErases, BeginsMark, erases-where, seal-operations, TablePerformed, performed-lifts}
use Rattle.fl_parts.proofs.States.{shape_in, state_of}
use Rattle.fl_parts.proofs.Sealed.{state-sealed, state-begun, state-erased}

-- rows are pending that make this body, no block waits for its erase, and one entry more has room
pub record MakesBody (plan : Plan) (body : List ℕ) (table : Table) : Type 0 where
  pub some : table.pending ≡ 0 → ⊥
  pub body_is : body ≡ data_body plan table.rows.next (pending_entries table)
  pub clean : table.rows.dirty ≡ false
  pub room : IsTrue (has_index plan) → length table.waiting < entries_per_page plan
  -- the blobs of the pending rows were sealed
  pub settled : AreInPages plan table table.entries

abbrev pub HasCome : Plan → List ℕ → List Kind → Table → Type 0
HasCome plan body [] table = Unit {0}
HasCome plan body (Body ∷ kinds) table = MakesBody plan body table × BeginsMark kinds
HasCome plan body (Mark ∷ kinds) table = MakesBody plan body table × AreErases kinds
HasCome plan body (VoidMark ∷ kinds) table = ⊥
HasCome plan body (Erase ∷ kinds) table = AreErases kinds

-- what the other rings of a table hold
abbrev pub HoldsOthers : (ℕ → List ℕ) → ℕ → Plan → Table → Type 0
HoldsOthers page first plan table = HoldsIndexed page first plan table × HoldsVar page first plan table

-- the ring's state is that of the table, of which these operations are left
pub record IsRingOf (page : ℕ → List ℕ) (first : ℕ) (plan : Plan) (body : List ℕ) (kinds : List Kind) (s : RingState) (table : Table) : Type 0 where
  pub state : s ≡ state_of plan (lose table)
  pub facts : IsPlainTable plan table
  pub others : HoldsOthers page first plan table
  pub come : HasCome plan body kinds table

erases_come : (plan : Plan) (body : List ℕ) (kinds : List Kind) (table : Table) → AreErases kinds → HasCome plan body kinds table
erases_come plan body [] table h = tt
erases_come plan body (Erase ∷ kinds) table h = h
erases_come plan body (Body ∷ kinds) table h = absurd h
erases_come plan body (Mark ∷ kinds) table h = absurd h
erases_come plan body (VoidMark ∷ kinds) table h = absurd h

mark_comes : (plan : Plan) (body : List ℕ) (kinds : List Kind) (table : Table) → MakesBody plan body table → BeginsMark kinds → HasCome plan body kinds table
mark_comes plan body [] table m h = tt
mark_comes plan body (Mark ∷ kinds) table m h = (m, h)
mark_comes plan body (Body ∷ kinds) table m h = absurd h
mark_comes plan body (VoidMark ∷ kinds) table m h = absurd h
mark_comes plan body (Erase ∷ kinds) table m h = absurd h

-- each operation keeps it
step-along : (page : ℕ → List ℕ) (first : ℕ) (plan : Plan) (body : List ℕ) → model.IsShape (shape_of plan DataRing) → (kind : Kind) (kinds : List Kind) (s : RingState) (table : Table) →
    IsRingOf page first plan body (kind ∷ kinds) s table → IsRingOf page first plan body kinds (change (shape_in first plan) body kind s) (effect plan DataRing kind table)
step-along page first plan body shape Body kinds s table r =
    let m = r.come.0 in
    record {
      state = ap begun r.state ∙ state-begun plan table;
      facts = plain-body plan table r.facts m.some m.clean;
      others = r.others;
      come = mark_comes plan body kinds (with_ring DataRing model.begun table) (record { some = m.some; body_is = m.body_is; clean = m.clean; room = m.room; settled = m.settled }) r.come.1;
    }
step-along page first plan body shape Mark kinds s table r =
    let m = r.come.0 in
    record {
      state = ap (λ (x : RingState). sealed (shape_in first plan) x body) r.state
          ∙ (ap (sealed (shape_in first plan) (state_of plan (lose table))) m.body_is
          ∙ state-sealed first plan table shape r.facts.rows.not_negative r.facts.kept.counted (pos_of_ne-zero m.some));
      facts = plain-mark plan table shape r.facts m.room m.some m.clean m.settled;
      others = r.others;
      come = erases_come plan body kinds (seal_buffer plan DataRing table) r.come.1;
    }
step-along page first plan body shape VoidMark kinds s table r = absurd r.come
step-along page first plan body shape Erase kinds s table r = record {
  state = ap erased r.state ∙ state-erased plan table;
  facts = plain-erase plan table r.facts;
  others = r.others;
  come = erases_come plan body kinds (with_ring DataRing model.erased table) r.come;
}

-- a seal of the pending rows
pub seal-lifts : (page : ℕ → List ℕ) (first : ℕ) (plan : Plan) (body : List ℕ) (table : Table) (rose : Bool) (device : Device) (result : Result (Unit {0}) FlashFault) (new : FlashState) →
    model.IsShape (shape_of plan DataRing) → IsPlainTable plan table → MakesBody plan body table → HoldsOthers page first plan table →
    (h : Performed (shape_in first plan) (change (shape_in first plan) body) rose (seal_kinds (shape_in first plan) (state_of plan (lose table)) body) device (state_of plan (lose table)) result new) →
    TablePerformed (IsRingOf page first plan body) plan (seal_within plan DataRing table) table rose device result new h.now.state
seal-lifts page first plan body table rose device result new shape facts makes others h =
    subst (λ (ops : List (RingName × Kind)). TablePerformed (IsRingOf page first plan body) plan ops table rose device result new h.now.state) (seal-operations DataRing plan table (shape_in first plan) (state_of plan (lose table)) body same_dirt)
    (performed-lifts (IsRingOf page first plan body) (shape_in first plan) plan DataRing body (step-along page first plan body shape) rose
    (seal_kinds (shape_in first plan) (state_of plan (lose table)) body) device (state_of plan (lose table)) table result new
    (record { state = refl; facts = facts; others = others; come = (makes, erases-where (sealed (shape_in first plan) (state_of plan (lose table)) body).dirty) }) h)
  where
    same_dirt : (sealed (shape_in first plan) (state_of plan (lose table)) body).dirty ≡ is_dirty DataRing (seal_buffer plan DataRing table)
    same_dirt = ap (λ (s : RingState). s.dirty)
        (ap (sealed (shape_in first plan) (state_of plan (lose table))) makes.body_is
        ∙ state-sealed first plan table shape facts.rows.not_negative facts.kept.counted (pos_of_ne-zero makes.some))

-- where all of it was done, the table is sealed
pub seal-whole : (plan : Plan) (table : Table) (rose : Bool) (device : Device) (now : PartProgress Table) → TablePerforms plan rose (seal_within plan DataRing table) device table now → now.end ≡ Whole →
    now.state ≡ after_seal plan DataRing table
seal-whole plan table rose device now h whole =
    (performs-whole (λ operation. operation.1) (effect_within plan) rose (seal_within plan DataRing table) device table now h whole).0 ∙ seal-all_done plan DataRing table
