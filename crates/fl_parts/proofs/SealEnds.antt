-- How a seal of the pending rows ends, by what it did to the ring.
use Rattle.std.proofs.Common.{◌≡◌, ℕ, ◌+◌, ◌*◌, ◌%◌, ◌<◌, ◌≤◌, Bool, true, false, cond, ◌==◌, Some, Ok, Err, List, [], length, drop, get_or, set, refl, sym, ◌∙◌, ap, subst, arith, ◌++◌, ◌∷◌, length-append, length-drop, pos_of_ne-zero}
use Rattle.std.specs.List.{slice_get}
use Rattle.fl_base.proofs.Tests.{zero_either}
use Rattle.fl_flash.specs.Flash.{FlashState, page_at}
use Rattle.fl_flash.specs.declared.flash.FlashFault.{FlashFault}
use Rattle.fl_model.specs.Record.{Plan}
use Rattle.fl_model.specs.Ring as model
use Rattle.fl_model.specs.Layout.{bitmap_of}
use Rattle.fl_model.specs.Table.{Table, DataRing, IndexRing, VarRing, shape_of, pending_entries, last_entry, seal_buffer, after_seal, lose}
use Rattle.fl_model.specs.Work.{Device, PartEnd, Whole, PartProgress}
use Rattle.fl_model.specs.Within.{seal_within, TablePerforms}
use Rattle.fl_model.proofs.Sealed.{sealed-next, sealed-torn}
use Rattle.fl_ring.specs.Ring.{OutsideStands, Shape, RingState, OnRing, oldest, place, sealed}
use Rattle.fl_frame.specs.Device.{SameDevice}
use Rattle.fl_ring.specs.Operations.{change, seal_kinds}
use Rattle.fl_ring.specs.Place.{next_of, oldest_of, StandsFor}
use Rattle.fl_ring.specs.Sealing.{Performed}
use Rattle.fl_ring.proofs.InTable.{TableAnswers, all-whole, answers-fault}
use Rattle.fl_ring.specs.declared.ring.Ring.{Ring}
use Rattle.fl_parts.proofs.ListsStay.{HoldsIndexed, indexed-same, index-stands}
use Rattle.fl_parts.proofs.BlobTables.{HoldsVar}
use Rattle.fl_parts.proofs.BlobsOfTable.{var-same, var-stands}
use Rattle.fl_parts.proofs.Plain.{IsPlainTable}
use Rattle.fl_parts.specs.Failing.{Breaks, FaultEnds}
use Rattle.fl_parts.specs.Pages.{HoldsTable, KeptStand, bytes_in}
use Rattle.fl_parts.proofs.TablePages.{plain-rests}
use Rattle.fl_parts.proofs.RingInTable.{HoldsOthers, MakesBody, seal-lifts, seal-whole}
use Rattle.fl_parts.proofs.Memories.{none-pending, last-sealed, counts-sealed}
use Rattle.fl_parts.proofs.Sealed.{state-sealed}
use Rattle.fl_parts.proofs.KeptPagesStay.{ring-same}
use Rattle.fl_parts.proofs.States.{shape_in, state_of, state-oldest, HaveSize}

-- the answer to a failed operation
pub fault-ends : (e : PartEnd Table) (fault : FlashFault) (new : FlashState) → TableAnswers e (Err fault) new → FaultEnds e fault new
fault-ends e fault new a = answers-fault (λ (x : PartEnd Table). FaultEnds x fault new) fault new (λ before h. h) (λ before h. h) e a

-- what a seal is told of its table
pub record IsSealing (old : ℕ → List ℕ) (first : ℕ) (plan : Plan) (table : Table) (body : List ℕ) : Type 0 where
  pub shape : model.IsShape (shape_of plan DataRing)
  pub large : 64 ≤ plan.geometry.page
  pub facts : IsPlainTable plan table
  pub makes : MakesBody plan body table
  pub others : HoldsOthers old first plan table

-- the pages that a seal keeps stand
abbrev pub KeepsAll : Shape → RingState → List ℕ → (ℕ → List ℕ) → (ℕ → List ℕ) → Type 0
KeepsAll r s body old new = (n : ℕ) → oldest (sealed r s body) ≤ n → n < s.next → new (place r n) ≡ old (place r n)

-- the oldest pages alone are given up
sealed-later : (shape : model.Shape) (count : ℕ) (ring : model.Ring) → model.oldest ring ≤ model.oldest (model.sealed shape count ring)
sealed-later shape count ring = by_test (model.is_full shape (model.extended count ring))
  where
    more : length (ring.counts ++ count ∷ []) ≡ length ring.counts + 1
    more = length-append ring.counts (count ∷ [])

    by_test : (b : Bool) → model.oldest ring ≤ model.oldest (cond b (record (model.extended count ring) { counts = drop shape.pages (ring.counts ++ count ∷ []); dirty = true }) (model.extended count ring))
    by_test true = omega (arith, length-drop shape.pages (ring.counts ++ count ∷ []), more)
    by_test false = omega (arith, more)

-- how its operations may go
abbrev pub ByRows : Plan → Table → Bool → Device → PartProgress Table → Type 0
ByRows plan table rose device now = TablePerforms plan rose (seal_within plan DataRing table) device table now

-- what it leaves where all of it was done; `counts` are those of the pages before it, by their places
pub record IsSealed (first : ℕ) (plan : Plan) (table : Table) (rose : Bool) (device : Device) (ring : Ring) (old : ℕ → List ℕ) (new : FlashState) (counts : List ℕ) : Type 0 where
  pub now : PartProgress Table
  pub did : TablePerforms plan rose (seal_within plan DataRing table) device table now
  pub whole : now.end ≡ Whole
  pub counted : SameDevice new now.device
  pub power : new.is_on ≡ true
  pub facts : IsPlainTable plan (after_seal plan DataRing table)
  pub untorn : (after_seal plan DataRing table).rows.torn ≡ false
  pub pages : HoldsTable (page_at new) first plan (lose (after_seal plan DataRing table))
  pub stand : KeptStand first plan table (after_seal plan DataRing table) old (page_at new)
  pub next : next_of ring ≡ (after_seal plan DataRing table).rows.next
  pub oldest_is : oldest_of ring ≡ model.oldest (after_seal plan DataRing table).rows
  pub none : pending_entries (after_seal plan DataRing table) ≡ []
  pub no_bits : 0 ≡ bitmap_of plan (pending_entries (after_seal plan DataRing table))
  pub last : last_entry table ≡ last_entry (after_seal plan DataRing table)
  pub counts_are : (i count : ℕ) → slice_get (after_seal plan DataRing table).rows.counts i ≡ Some count →
      get_or (set counts (table.rows.next % (plan.data_blocks * plan.geometry.block)) table.pending) ((model.oldest (after_seal plan DataRing table).rows + i) % (plan.data_blocks * plan.geometry.block)) 0 ≡ count

module _ (first : ℕ) (plan : Plan) (table : Table) (body : List ℕ) (rose : Bool) (device : Device) (new : FlashState) (old : ℕ → List ℕ) (is : IsSealing old first plan table body) (sizes : HaveSize first plan (page_at new))
    (outside : OutsideStands (shape_in first plan) old (page_at new)) where
  -- what the other rings hold stands
  still_indexed : (t : Table) → HoldsOthers old first plan t → HoldsIndexed (page_at new) first plan t
  still_indexed t h = indexed-same old (page_at new) first plan t (index-stands old (page_at new) first plan outside) h.0

  still_var : (t : Table) → HoldsOthers old first plan t → HoldsVar (page_at new) first plan t
  still_var t h = var-same old (page_at new) first plan t (var-stands old (page_at new) first plan outside) h.1

  -- an operation of it failed
  pub seal-breaks : (fault : FlashFault) →
      Performed (shape_in first plan) (change (shape_in first plan) body) rose (seal_kinds (shape_in first plan) (state_of plan (lose table)) body) device (state_of plan (lose table)) (Err fault) new →
      Breaks first plan (ByRows plan table rose device) fault new
  seal-breaks fault h =
      let l = seal-lifts old first plan body table rose device (Err fault) new is.shape is.facts is.makes is.others h in
      record {
        now = l.now;
        did = l.did;
        answer = fault-ends l.now.end fault new l.answer;
        counts = l.counts;
        rests = plain-rests new first plan l.now.state sizes is.large l.is.facts (subst (OnRing (shape_in first plan) (page_at new)) l.is.state h.on) (still_indexed l.now.state l.is.others) (still_var l.now.state l.is.others);
      }

  -- the pages that are kept stand in each ring
  still-kept : KeepsAll (shape_in first plan) (state_of plan (lose table)) body old (page_at new) → KeptStand first plan table (after_seal plan DataRing table) old (page_at new)
  still-kept keeps =
      let some : 0 < table.pending = pos_of_ne-zero is.makes.some in
      let at : oldest (sealed (shape_in first plan) (state_of plan (lose table)) body) ≡ model.oldest (after_seal plan DataRing table).rows =
      ap oldest (ap (sealed (shape_in first plan) (state_of plan (lose table))) is.makes.body_is ∙ state-sealed first plan table is.shape is.facts.rows.not_negative is.facts.kept.counted some)
      ∙ state-oldest plan (lose (seal_buffer plan DataRing table)) in
      let next : (after_seal plan DataRing table).rows.next ≡ table.rows.next + 1 = sealed-next (shape_of plan DataRing) table.pending table.rows in
      record {
        rows = record {
          later = sealed-later (shape_of plan DataRing) table.pending table.rows;
          further = omega (arith, next);
          bytes = λ n low high. keeps n (omega (arith, low, at)) high;
        };
        index = ring-same table.index table.index (bytes_in old first plan IndexRing) (bytes_in (page_at new) first plan IndexRing) refl (λ r has. index-stands old (page_at new) first plan outside);
        var = ring-same table.var table.var (bytes_in old first plan VarRing) (bytes_in (page_at new) first plan VarRing) refl (λ r has. var-stands old (page_at new) first plan outside);
      }

  -- all were done
  pub seal-finishes : (u : Unit {0}) (ring : Ring) (counts : List ℕ) →
      (h : Performed (shape_in first plan) (change (shape_in first plan) body) rose (seal_kinds (shape_in first plan) (state_of plan (lose table)) body) device (state_of plan (lose table)) (Ok u) new) →
      StandsFor ring h.now.state → length counts ≡ plan.data_blocks * plan.geometry.block →
      ((i count : ℕ) → slice_get table.rows.counts i ≡ Some count → get_or counts ((model.oldest table.rows + i) % (plan.data_blocks * plan.geometry.block)) 0 ≡ count) →
      KeepsAll (shape_in first plan) (state_of plan (lose table)) body old (page_at new) → IsSealed first plan table rose device ring old new counts
  seal-finishes u ring counts h stands room were keeps =
      let l = seal-lifts old first plan body table rose device (Ok u) new is.shape is.facts is.makes is.others h in
      let all = all-whole l.now.end u new l.answer in
      let whole = seal-whole plan table rose device l.now l.did all.0 in
      let facts : IsPlainTable plan (after_seal plan DataRing table) = subst (λ (t : Table). IsPlainTable plan t) whole l.is.facts in
      let left = l.is.state ∙ ap (λ (t : Table). state_of plan (lose t)) whole in
      let some : 0 < table.pending = pos_of_ne-zero is.makes.some in
      let none = none-pending plan table in
      record {
        now = l.now;
        did = l.did;
        whole = all.0;
        counted = l.counts;
        power = all.1;
        facts = facts;
        untorn = sealed-torn (shape_of plan DataRing) table.pending table.rows;
        pages = (plain-rests new first plan (after_seal plan DataRing table) sizes is.large facts
            (subst (OnRing (shape_in first plan) (page_at new)) left h.on)
            (still_indexed (after_seal plan DataRing table) (subst (λ (t : Table). HoldsOthers old first plan t) whole l.is.others)) (still_var (after_seal plan DataRing table) (subst (λ (t : Table). HoldsOthers old first plan t) whole l.is.others))).pages;
        stand = still-kept keeps;
        next = stands.next ∙ ap (λ (s : RingState). s.next) left;
        oldest_is = stands.oldest ∙ (ap oldest left ∙ state-oldest plan (lose (after_seal plan DataRing table)));
        none = none;
        no_bits = sym (ap (bitmap_of plan) none ∙ zero_either (plan.bits == 0));
        last = sym (last-sealed plan table is.shape is.facts.kept.counted some);
        counts_are = counts-sealed plan table counts is.shape is.facts.rows room were;
      }
