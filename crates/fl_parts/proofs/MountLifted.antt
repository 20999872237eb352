-- The mount of the data ring is the mount of its table.
use Rattle.std.proofs.Common.{◌≡◌, ℕ, ◌≤◌, Bool, true, false, Result, Ok, Err, List, [], ◌∷◌, map, length, refl, sym, ◌∙◌, ap, subst, ◌⊎◌, inl, inr, IsOk, IsTrue, append-nil}
use Rattle.std.proofs.lemmas.List.{map-append}
use Rattle.fl_flash.specs.Flash.{FlashState, page_at}
use Rattle.fl_flash.specs.declared.flash.FlashFault.{FlashFault}
use Rattle.fl_flash.specs.declared.flash.FlashFault.TheVariants.{Media}
use Rattle.fl_model.specs.Record.{Plan}
use Rattle.fl_model.specs.Ring as model
use Rattle.fl_model.specs.Table.{Table, RingName, DataRing, shape_of, lose}
use Rattle.fl_model.specs.Work.{Kind, Device, PartEnd, Whole, CutIn, FailedIn, PartProgress}
use Rattle.fl_model.specs.Within.{repair_within, TablePerforms, TableUnreads, TableGoesOn, TableMounts, TableMounted, TableStopped, TableUnread}
use Rattle.fl_model.specs.Mount.{Of, renumber}
use Rattle.fl_parts.proofs.Loose.{IsLoose}
use Rattle.fl_parts.proofs.Plain.{IsPlainTable}
use Rattle.fl_ring.specs.declared.ring.Ring.{Ring}
use Rattle.fl_frame.specs.Device.{SameDevice}
use Rattle.fl_ring.specs.Mounting.{Mounted, RepairEnds}
use Rattle.fl_ring.specs.Operations.{repair_kinds}
use Rattle.fl_ring.specs.Place.{StandsFor}
use Rattle.fl_ring.specs.Ring.{RingState, OnRing}
use Rattle.fl_ring.proofs.InTable.{of_ring, TableAnswers, all-whole}
use Rattle.fl_ring.proofs.Mounts.{repair_end}
use Rattle.fl_parts.proofs.States.{shape_in, state_of}
use Rattle.fl_parts.proofs.Repaired.{IsHeld, IsIdle, IsRepaired, repair-lifts, repair-kinds}

err_not_ok : (fault : FlashFault) → IsOk {T = Unit {0}} {E = FlashFault} (Err fault) → ⊥
err_not_ok fault e = cc

-- the table after its ring was mounted; nothing of it is in memory yet
pub record RowsMount (Left : Type 0) (first : ℕ) (plan : Plan) (table : Table) (rose : Bool) (device : Device) (ring : Ring) (new : FlashState) : Type 0 where
  pub now : PartProgress Table
  pub did : TableMounts plan rose (Of DataRing ∷ []) device table (TableMounted now)
  pub counts : SameDevice new now.device
  pub power : new.is_on ≡ true
  pub facts : IsLoose plan now.state
  pub strict : Left → IsPlainTable plan now.state
  pub repaired : IsRepaired (renumber plan DataRing table) now.state
  pub whole : now.state.rows.torn ≡ false
  pub clean : now.state.rows.dirty ≡ false
  pub on : OnRing (shape_in first plan) (page_at new) (state_of plan (lose now.state))
  pub stands : StandsFor ring (state_of plan (lose now.state))
  -- the same mount where a read fails after it
  pub unread : IsTrue rose → (last : PartProgress Table) × TableMounts plan rose (Of DataRing ∷ []) device table (TableUnread last) × (last.device ≡ now.device) × (last.state ≡ now.state)

-- a mount that failed in its ring
pub record RowsFail (Left : Type 0) (first : ℕ) (plan : Plan) (table : Table) (rose : Bool) (device : Device) (fault : FlashFault) (new : FlashState) : Type 0 where
  pub now : PartProgress Table
  pub did : (TableMounts plan rose (Of DataRing ∷ []) device table (TableStopped now) × TableAnswers now.end (Err fault) new)
      ⊎ (TableMounts plan rose (Of DataRing ∷ []) device table (TableUnread now) × (fault ≡ Media))
  pub counts : SameDevice new now.device
  pub facts : IsLoose plan now.state
  pub strict : Left → IsPlainTable plan now.state
  pub repaired : IsRepaired (renumber plan DataRing table) now.state
  pub on : OnRing (shape_in first plan) (page_at new) (state_of plan (lose now.state))

module _ (Left : Type 0) (first : ℕ) (plan : Plan) (table : Table) (rose : Bool) (device : Device) (new : FlashState) (shape : model.IsShape (shape_of plan DataRing))
    (facts : IsHeld Left plan (renumber plan DataRing table)) (idle : IsIdle (renumber plan DataRing table)) where
  numbered : Table
  numbered = renumber plan DataRing table

  known : length (renumber plan DataRing table).rows.counts ≤ (renumber plan DataRing table).rows.next
  known = facts.loose.rows.not_negative

  same : map (of_ring DataRing) (repair_kinds (shape_in first plan) (state_of plan (renumber plan DataRing table))) ≡ repair_within plan DataRing (renumber plan DataRing table)
  same = repair-kinds first plan (renumber plan DataRing table) shape known

  pub mount-lifts : (ring : Ring) → Mounted (shape_in first plan) rose device (state_of plan (renumber plan DataRing table)) ring new → RowsMount Left first plan table rose device ring new
  mount-lifts ring m =
      let kinds = repair_kinds (shape_in first plan) (state_of plan (renumber plan DataRing table)) in
      let l = repair-lifts Left first plan (renumber plan DataRing table) rose kinds [] device (Ok tt) new shape facts idle (sym (append-nil kinds)) m.performed in
      let whole = all-whole l.now.end tt new l.answer in
      let did : TablePerforms plan rose (repair_within plan DataRing (renumber plan DataRing table)) device (renumber plan DataRing table) l.now =
      subst (λ (ops : List (RingName × Kind)). TablePerforms plan rose ops device (renumber plan DataRing table) l.now) same l.did in
      let tidy = repair_end (shape_in first plan) (state_of plan (renumber plan DataRing table)) rose device tt new m.performed in
      record {
        now = record { end = Whole; device = l.now.device; state = l.now.state };
        did = (inr (l.now, did, goes_on l.now whole.0));
        counts = l.counts;
        power = whole.1;
        facts = l.is.facts.loose;
        strict = l.is.facts.plain;
        repaired = l.is.repaired;
        whole = sym (ap (λ (s : RingState). s.torn) l.is.state) ∙ tidy.0;
        clean = sym (ap (λ (s : RingState). s.dirty) l.is.state) ∙ tidy.1;
        on = subst (OnRing (shape_in first plan) (page_at new)) l.is.state m.performed.on;
        stands = subst (λ (s : RingState). StandsFor ring s) l.is.state m.stands;
        unread = λ risen.
            let unread : TableUnreads plan rose (repair_within plan DataRing (renumber plan DataRing table)) device (renumber plan DataRing table) l.now =
            record {
              may_fail = risen;
              front = repair_within plan DataRing (renumber plan DataRing table);
              others = [];
              split = sym (append-nil (repair_within plan DataRing (renumber plan DataRing table)));
              did = did;
              whole = whole.0;
            } in
            (l.now, (inl (l.now, unread, refl)), refl, refl);
      }
    where
      goes_on : (last : PartProgress Table) → last.end ≡ Whole →
          TableGoesOn last.end last (TableMounted (record { end = Whole; device = last.device; state = last.state })) (TableMounted (record { end = Whole; device = last.device; state = last.state }) ≡ TableMounted (record { end = Whole; device = last.device; state = last.state }))
      goes_on last e = rw e refl

  pub mount-fails : (fault : FlashFault) → RepairEnds (shape_in first plan) rose (repair_kinds (shape_in first plan) (state_of plan (renumber plan DataRing table))) device (state_of plan (renumber plan DataRing table)) (Err fault) new →
      RowsFail Left first plan table rose device fault new
  mount-fails fault (inl p) =
      let kinds = repair_kinds (shape_in first plan) (state_of plan (renumber plan DataRing table)) in
      let l = repair-lifts Left first plan (renumber plan DataRing table) rose kinds [] device (Err fault) new shape facts idle (sym (append-nil kinds)) p in
      let did : TablePerforms plan rose (repair_within plan DataRing (renumber plan DataRing table)) device (renumber plan DataRing table) l.now =
      subst (λ (ops : List (RingName × Kind)). TablePerforms plan rose ops device (renumber plan DataRing table) l.now) same l.did in
      record {
        now = l.now;
        did = inl ((inr (l.now, did, stops l.now l.now.end refl l.answer)), l.answer);
        counts = l.counts;
        facts = l.is.facts.loose;
        strict = l.is.facts.plain;
        repaired = l.is.repaired;
        on = subst (OnRing (shape_in first plan) (page_at new)) l.is.state p.on;
      }
    where
      stops : (last : PartProgress Table) (e : PartEnd Table) → last.end ≡ e → TableAnswers e (Err fault) new →
          TableGoesOn last.end last (TableStopped last) (TableStopped last ≡ TableMounted (record { end = Whole; device = last.device; state = last.state }))
      stops last Whole k a = absurd (err_not_ok fault a.0)
      stops last (CutIn b) k a = rw k refl
      stops last (FailedIn b) k a = rw k refl
  mount-fails fault (inr u) =
      let l = repair-lifts Left first plan (renumber plan DataRing table) rose u.front u.others device (Ok tt) new shape facts idle u.split u.did in
      let whole = all-whole l.now.end tt new l.answer in
      let unread : TableUnreads plan rose (repair_within plan DataRing (renumber plan DataRing table)) device (renumber plan DataRing table) l.now =
      record {
        may_fail = u.risen;
        front = map (of_ring DataRing) u.front;
        others = map (of_ring DataRing) u.others;
        split = sym same ∙ (ap (map (of_ring DataRing)) u.split ∙ map-append (of_ring DataRing) u.front u.others);
        did = l.did;
        whole = whole.0;
      } in
      record {
        now = l.now;
        did = inr ((inl (l.now, unread, refl)), is_media u.is);
        counts = l.counts;
        facts = l.is.facts.loose;
        strict = l.is.facts.plain;
        repaired = l.is.repaired;
        on = subst (OnRing (shape_in first plan) (page_at new)) l.is.state u.did.on;
      }
    where
      is_media : ◌≡◌ {A = Result (Unit {0}) FlashFault} (Err fault) (Err Media) → fault ≡ Media
      is_media e = cc
