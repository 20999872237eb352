-- How a seal of the waiting bitmaps ends for their table.
use Rattle.std.proofs.Common.{◌≡◌, ℕ, ◌+◌, ◌*◌, ◌≤◌, Bool, true, false, cond, ◌&&◌, ◌==◌, Option, Some, None, OnOk, Result, Ok, Err, List, [], ◌∷◌, length, refl, sym, ◌∙◌, ap, subst, arith, length-append}
use Rattle.std.proofs.Math.Nat.{mul-le-mul_right}
use Rattle.std.proofs.lemmas.List.{append-nil}
use Rattle.fl_flash.specs.Flash.{FlashState, page_at}
use Rattle.fl_flash.specs.declared.flash.FlashFault.{FlashFault}
use Rattle.fl_index.specs.declared.index.BitmapIndex.{BitmapIndex}
use Rattle.fl_index.specs.Memory as memory
use Rattle.fl_index.specs.Outcomes as outcomes
use Rattle.fl_index.specs.Standing as standing
use Rattle.fl_index.specs.Standing.{HasIndex}
use Rattle.fl_index.proofs.SealEnds.{planned-ring}
use Rattle.fl_model.specs.Facts.{IsTable}
use Rattle.fl_model.specs.Record.{Plan, has_index, entries_per_page}
use Rattle.fl_model.specs.Ring as model
use Rattle.fl_model.specs.Table.{Table, RingName, DataRing, IndexRing, VarRing, is_dirty, seal_buffer, after_seals, lose, spent_from}
use Rattle.fl_model.specs.Work.{Kind, Body, Mark, Erase, Device, PartEnd, Whole, CutIn, FailedIn, PartProgress}
use Rattle.fl_model.specs.Within.{seal_within, seals_within, TablePerforms}
use Rattle.fl_model.proofs.Fronts.{performed-front}
use Rattle.fl_model.proofs.Lists.{each-front}
use Rattle.fl_ring.specs.Ring.{Shape, OutsideStands}
use Rattle.fl_frame.specs.Device.{SameDevice}
use Rattle.fl_frame.specs.Watched.{IsWatched}
use Rattle.fl_parts.proofs.Fronts.{IsNumberedTo}
use Rattle.fl_parts.specs.Bitmaps.{ArePlanned, Stand, StandOutside, IsRoomMade, RoomMade, MakesRoomOf, bitmap_seals, next_after}
use Rattle.fl_parts.proofs.IndexAlone.{IsOfIndex, AreOfIndex, IsBeside, beside-done, number-done, seal-of_index, indexed-of, beside-facts, rows-stand, var-stand, holds-indexed, lose-beside, holds-beside}
use Rattle.fl_parts.specs.Failing.{Breaks, FaultEnds, BySeals}
use Rattle.fl_parts.specs.Pages.{HoldsTable, KeptStand, bytes_in}
use Rattle.fl_table.specs.Standing.{Stands}
use Rattle.fl_table.specs.declared.table.Table as code
use Rattle.fl_parts.proofs.TablePages.{lost-twice}
use Rattle.fl_table.proofs.SealAnswers.{planned-shape}
use Rattle.fl_parts.proofs.Plain.{IsPlainTable, table-parts, table-facts, plain-lose}
use Rattle.fl_parts.proofs.IndexOfTable.{planned-some, planned-none, index-next}
use Rattle.fl_parts.proofs.KeptPagesStay.{kept-same, pages-same, ring-same}

-- These seals of the index ring were done, and the table stands beside them.
pub record IsMade {KNOTS SLOTS : ℕ} (t : code.Table KNOTS SLOTS) (first : ℕ) (plan : Plan) (rings : List RingName) (table : Table) (rose : Bool) (device : Device) (left : Option BitmapIndex) (old new : FlashState) : Type 0 where
  pub now : PartProgress Table
  pub did : TablePerforms plan rose (seals_within plan rings table) device table now
  pub whole : now.end ≡ Whole
  pub counts : SameDevice new now.device
  pub power : new.is_on ≡ true
  pub beside : IsBeside table (after_seals plan rings table)
  pub facts : IsTable plan (after_seals plan rings table)
  pub pages : HoldsTable (page_at new) first plan (lose (after_seals plan rings table))
  pub bitmaps : Stand left new (first + plan.data_blocks) plan (after_seals plan rings table)
  pub stand : KeptStand first plan table (after_seals plan rings table) (page_at old) (page_at new)

-- what a seal of the waiting bitmaps is told of its table
module _ {KNOTS SLOTS : ℕ} (t : code.Table KNOTS SLOTS) (f new : FlashState) (first : ℕ) (plan : Plan) (table : Table) (rose : Bool) (device : Device) (index : BitmapIndex) (some : t.bitmaps ≡ Some index) (stands : Stands t f first plan table) (pending : table.pending ≡ 0 → ⊥)
    (left : memory.next_in index + (cond (memory.waiting_in index == memory.per_page index) 1 0) ≤ spent_from + 1) (outside : OutsideStands (memory.ring_shape index) (page_at f) (page_at new)) where
  planned : memory.IsPlanned index (first + plan.data_blocks) plan
  planned = subst (λ (o : Option BitmapIndex). ArePlanned o (first + plan.data_blocks) plan) some stands.planned.index

  facts : IsPlainTable plan table
  facts = table-parts plan table stands.planned.log stands.facts

  has : has_index plan ≡ true
  has = planned-some index (first + plan.data_blocks) plan planned

  same_rows : (n : ℕ) → bytes_in (page_at new) first plan DataRing n ≡ bytes_in (page_at f) first plan DataRing n
  same_rows =
      let shape = planned-shape t first plan stands.planned in
      rows-stand (page_at f) (page_at new) first plan (memory.ring_shape index)
      (let k : 3 * plan.geometry.block ≤ plan.data_blocks * plan.geometry.block = mul-le-mul_right plan.geometry.block shape.blocks in omega (arith, k, shape.pages))
      (ap (λ (r : Shape). r.first) (planned-ring index (first + plan.data_blocks) plan planned)) outside

  same_var : (n : ℕ) → bytes_in (page_at new) first plan VarRing n ≡ bytes_in (page_at f) first plan VarRing n
  same_var = var-stand (Some index) (page_at f) (page_at new) first plan planned outside

  in_model : standing.Stands index f (first + plan.data_blocks) plan table
  in_model = subst (λ (o : Option BitmapIndex). Stand o f (first + plan.data_blocks) plan table) some stands.bitmaps

  -- where all was done
  after-facts : (ring : model.Ring) (after : Table) → IsBeside table after → HasIndex plan after ring → ring.next + (cond ring.torn 1 0) ≤ spent_from + 64 → IsPlainTable plan after
  after-facts ring after beside h number =
      beside-facts plan table after beside facts (indexed-of plan after ring has h (omega (arith, number)) (λ p. omega (arith, number))
      (λ lt more. subst (λ (r : model.Ring). r.next + (cond r.torn 1 0) ≤ spent_from + 1) (sym (ap (λ (x : Table). x.rows) beside.3))
      (subst (λ b. table.rows.next + (cond b 1 0) ≤ spent_from + 1) (sym stands.whole) (let few = facts.number_pending pending in omega (arith, few)))))

  -- the operations are of the index ring, and at most three
  are_of_index : AreOfIndex (seals_within plan (outcomes.index_seals plan table) table)
  are_of_index = by_full (length table.waiting == entries_per_page plan)
    where
      by_full : (b : Bool) → AreOfIndex (seals_within plan (cond b (IndexRing ∷ []) []) table)
      by_full true = subst AreOfIndex (sym (append-nil (seal_within plan IndexRing table))) (seal-of_index plan table)
      by_full false = tt

  few_operations : length (seals_within plan (outcomes.index_seals plan table) table) ≤ 3
  few_operations = by_full (length table.waiting == entries_per_page plan)
    where
      seal_few : (b : Bool) → length {A = RingName × Kind} ((IndexRing, Body) ∷ (IndexRing, Mark) ∷ (cond b ((IndexRing, Erase) ∷ []) [])) ≤ 3
      seal_few true = omega arith
      seal_few false = omega arith

      by_full : (b : Bool) → length (seals_within plan (cond b (IndexRing ∷ []) []) table) ≤ 3
      by_full true = let k = seal_few (is_dirty IndexRing (seal_buffer plan IndexRing table)) in omega (arith, ap length (append-nil (seal_within plan IndexRing table)), k)
      by_full false = omega arith

  at_first : in_model.in_ring.ring.next + (cond in_model.in_ring.ring.torn 1 0) ≤ memory.next_in index
  at_first =
      let here = index-next index f (first + plan.data_blocks) plan table in_model in
      let torn : ◌≡◌ {A = ℕ} (cond in_model.in_ring.ring.torn 1 0) 0 = ap (λ b. cond b 1 0) in_model.in_ring.whole in
      omega (arith, here, torn)

  low : memory.next_in index ≤ spent_from + 1
  low = omega (arith, left)

  -- an operation failed
  pub index-breaks : (fault : FlashFault) → outcomes.Breaks (first + plan.data_blocks) plan (seals_within plan (outcomes.index_seals plan table) table) table rose device fault new →
      Breaks first plan (BySeals plan (outcomes.index_seals plan table) table rose device) fault new
  index-breaks fault h =
      let operations = seals_within plan (outcomes.index_seals plan table) table in
      let left_is = performed-front plan rose operations device table h.now h.did in
      let of_front = each-front (λ (operation : RingName × Kind). IsOfIndex operation.0) left_is.front left_is.others (subst AreOfIndex left_is.split are_of_index) in
      let beside : IsBeside table h.now.state = subst (λ (x : Table). IsBeside table x) (sym left_is.state) (beside-done plan table table left_is.front of_front (table.index, table.index_pages, table.waiting, refl)) in
      let numbered = number-done plan (memory.next_in index) table left_is.front of_front (subst (λ (o : Option model.Ring). IsNumberedTo (memory.next_in index) o) (sym in_model.in_ring.facts.ring_is) at_first) in
      let few : length left_is.front ≤ 3 = omega (arith, ap length left_is.split, length-append left_is.front left_is.others, few_operations) in
      let number : h.rests.ring.next + (cond h.rests.ring.torn 1 0) ≤ memory.next_in index + length left_is.front =
      subst (λ (o : Option model.Ring). IsNumberedTo (memory.next_in index + length left_is.front) o) (sym (ap (λ (x : Table). x.index) left_is.state) ∙ h.rests.facts.ring_is) numbered in
      let lost : IsPlainTable plan (lose h.now.state) =
      beside-facts plan (lose table) (lose h.now.state) (lose-beside table h.now.state beside) (plain-lose plan table facts)
      (indexed-of plan (lose h.now.state) h.rests.ring has h.rests.facts (omega (arith, number, few, low)) (λ p. absurd (p refl))
      (λ lt more. subst (λ (r : model.Ring). r.next + (cond r.torn 1 0) ≤ spent_from + 1) (sym (ap (λ (x : Table). x.rows) beside.3))
      (subst (λ b. table.rows.next + (cond b 1 0) ≤ spent_from + 1) (sym stands.whole) (let few = facts.number_pending pending in omega (arith, few))))) in
      record {
        now = h.now;
        did = h.did;
        answer = fault_ends h.now.end h.answer;
        counts = h.counts;
        rests = record {
          settled = record { facts = table-facts plan (lose h.now.state) lost; lost = lost-twice h.now.state };
          pages = holds-beside (page_at f) (page_at new) first plan (lose table) (lose h.now.state) (lose-beside table h.now.state beside) same_rows same_var stands.pages
              (holds-indexed (page_at new) first plan (lose h.now.state) h.rests.ring h.rests.facts.ring_is h.rests.pages);
        };
      }
    where
      fault_ends : (e : PartEnd Table) → outcomes.FaultEnds e fault new → FaultEnds e fault new
      fault_ends Whole a = absurd a
      fault_ends (CutIn before) a = a
      fault_ends (FailedIn before) a = a

  -- all were done
  pub index-finishes : (now : BitmapIndex) → IsRoomMade index now → (h : outcomes.Finishes (first + plan.data_blocks) plan (seals_within plan (outcomes.index_seals plan table) table) table (after_seals plan (outcomes.index_seals plan table) table) rose device now f new) →
      IsMade t first plan (outcomes.index_seals plan table) table rose device (Some now) f new
  index-finishes now made h =
      let after = after_seals plan (outcomes.index_seals plan table) table in
      let s = h.stands in
      let ring = s.in_ring.ring in
      let beside : IsBeside table after = by_full (length table.waiting == entries_per_page plan) in
      let here = index-next now new (first + plan.data_blocks) plan after s in
      let torn : ◌≡◌ {A = ℕ} (cond ring.torn 1 0) 0 = ap (λ b. cond b 1 0) s.in_ring.whole in
      let up : memory.next_in now ≤ spent_from + 1 = omega (arith, made.number, up_by (memory.waiting_in index == memory.per_page index) left) in
      let known = after-facts ring after beside s.in_ring.facts (omega (arith, here, torn, up)) in
      record {
        now = h.now;
        did = h.did;
        whole = h.whole;
        counts = h.counts;
        power = h.power;
        beside = beside;
        facts = table-facts plan after known;
        pages = holds-beside (page_at f) (page_at new) first plan (lose table) (lose after) (lose-beside table after beside) same_rows same_var stands.pages
            (holds-indexed (page_at new) first plan after ring s.in_ring.facts.ring_is s.in_ring.pages);
        bitmaps = s;
        stand = record {
          rows = pages-same table.rows after.rows (bytes_in (page_at f) first plan DataRing) (bytes_in (page_at new) first plan DataRing) (ap (λ (x : Table). x.rows) beside.3) same_rows;
          index = h.stand;
          var = ring-same table.var after.var (bytes_in (page_at f) first plan VarRing) (bytes_in (page_at new) first plan VarRing) (ap (λ (x : Table). x.var) beside.3) (λ r has. same_var);
        };
      }
    where
      by_full : (b : Bool) → IsBeside table (after_seals plan (cond b (IndexRing ∷ []) []) table)
      by_full true = (_, _, _, refl)
      by_full false = (table.index, table.index_pages, table.waiting, refl)

      up_by : (b : Bool) → memory.next_in index + (cond b 1 0) ≤ spent_from + 1 → cond b (memory.next_in index + 1) (memory.next_in index) ≤ spent_from + 1
      up_by true le = le
      up_by false le = omega (arith, le)

-- how a call ends that makes room for one bitmap more
abbrev pub MadeEnds : {KNOTS SLOTS : ℕ} → code.Table KNOTS SLOTS → ℕ → Plan → List RingName → Table → Bool → Device → Result (Unit {0}) FlashFault → Option BitmapIndex → FlashState → FlashState → Type 0
MadeEnds t first plan rings table rose device (Ok done) now old new = IsMade t first plan rings table rose device now old new
MadeEnds t first plan rings table rose device (Err fault) now old new = Breaks first plan (BySeals plan rings table rose device) fault new

pub bitmaps-end : {KNOTS SLOTS : ℕ} (t : code.Table KNOTS SLOTS) (f new : FlashState) (first : ℕ) (plan : Plan) (table : Table) (rose : Bool) (device : Device) (bitmaps : Option BitmapIndex) (result : Result (Unit {0}) FlashFault) (now : Option BitmapIndex) → t.bitmaps ≡ bitmaps → Stands t f first plan table →
    (table.pending ≡ 0 → ⊥) → IsWatched f new rose device → next_after bitmaps ≤ spent_from + 1 → StandOutside bitmaps (page_at f) (page_at new) → OnOk result (RoomMade bitmaps now) → MakesRoomOf bitmaps f (first + plan.data_blocks) plan table rose device result now new →
    MadeEnds t first plan (bitmap_seals plan table) table rose device result now f new
bitmaps-end t f new first plan table rose device None result now is stands pending watched left outside made ends =
    subst (λ (rings : List RingName). MadeEnds t first plan rings table rose device result now f new) (sym none) (rw (ends.0, ends.1, ends.2) (record {
      now = record { end = Whole; device = device; state = table };
      did = (refl, refl, refl);
      whole = refl;
      counts = watched.counts;
      power = watched.on;
      beside = (table.index, table.index_pages, table.waiting, refl);
      facts = stands.facts;
      pages = stands.pages;
      bitmaps = subst (λ (o : Option BitmapIndex). Stand o f (first + plan.data_blocks) plan table) is stands.bitmaps;
      stand = kept-same first plan table table (page_at f) (page_at f) refl refl refl (λ ring n. refl);
    }))
  where
    none : bitmap_seals plan table ≡ []
    none = ap (λ b. cond (b && (length table.waiting == entries_per_page plan)) (IndexRing ∷ []) [])
        (planned-none (first + plan.data_blocks) plan (subst (λ (o : Option BitmapIndex). ArePlanned o (first + plan.data_blocks) plan) is stands.planned.index))
bitmaps-end t f new first plan table rose device (Some index) result None is stands pending watched left outside made ends = absurd ends
bitmaps-end t f new first plan table rose device (Some index) result (Some now) is stands pending watched left outside made ends =
    subst (λ (rings : List RingName). MadeEnds t first plan rings table rose device result (Some now) f new) (sym same) (by_result result made (ends watched s))
  where
    s : standing.Stands index f (first + plan.data_blocks) plan table
    s = subst (λ (o : Option BitmapIndex). Stand o f (first + plan.data_blocks) plan table) is stands.bitmaps

    same : bitmap_seals plan table ≡ outcomes.index_seals plan table
    same = ap (λ b. cond (b && (length table.waiting == entries_per_page plan)) (IndexRing ∷ []) [])
        (planned-some index (first + plan.data_blocks) plan (subst (λ (o : Option BitmapIndex). ArePlanned o (first + plan.data_blocks) plan) is stands.planned.index))

    by_result : (result : Result (Unit {0}) FlashFault) → OnOk result (IsRoomMade index now) → outcomes.MakesRoom (first + plan.data_blocks) plan table rose device result now f new → MadeEnds t first plan (outcomes.index_seals plan table) table rose device result (Some now) f new
    by_result (Ok u) made h = index-finishes t f new first plan table rose device index is stands pending left outside now made h
    by_result (Err fault) made h = index-breaks t f new first plan table rose device index is stands pending left outside fault h
