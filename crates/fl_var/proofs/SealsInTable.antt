-- A seal of the buffer, in the words of the table.
use Rattle.std.proofs.Common.{◌≡◌, ℕ, ◌+◌, ◌-◌, ◌<◌, ◌≤◌, Bool, false, Option, Some, unwrap_or, Result, Ok, Err, List, [], ◌∷◌, map, length, take, sym, ◌∙◌, ap, subst, arith}
use Rattle.std.specs.Prelude.{option_map, is_some}
use Rattle.std.proofs.lemmas.List.{append-nil}
use Rattle.std.proofs.lemmas.Option.{same_Some}
use Rattle.fl_flash.specs.Flash.{FlashState, page_at}
use Rattle.fl_flash.specs.Places.{extent}
use Rattle.fl_flash.specs.declared.flash.FlashFault.{FlashFault}
use Rattle.fl_model.specs.Facts.{IsContent}
use Rattle.fl_model.specs.Layout as layout
use Rattle.fl_model.specs.Layout.{ContentPage}
use Rattle.fl_model.specs.Record.{Plan, content_per_page}
use Rattle.fl_model.specs.Ring as model
use Rattle.fl_model.specs.Table.{Table, RingName, VarRing, shape_of, after_seals, seal_buffer, is_dirty}
use Rattle.fl_model.specs.Work.{Kind, Device}
use Rattle.fl_model.specs.Within.{seal_within, seals_within, effect_within, TablePerforms}
use Rattle.fl_model.proofs.Among.{seal-all_done}
use Rattle.fl_model.proofs.Performs.{performs-whole}
use Rattle.fl_ring.specs.Counts.{model_shape}
use Rattle.fl_ring.specs.Kept.{PagesStand}
use Rattle.fl_ring.specs.Operations.{change, seal_kinds}
use Rattle.fl_ring.specs.Place as place_words
use Rattle.fl_ring.specs.Place.{StandsFor}
use Rattle.fl_ring.specs.Ring.{Shape, RingState, IsShape, OnRing, place, count, oldest, sealed}
use Rattle.fl_ring.specs.Sealing.{IsReady, Performed}
use Rattle.fl_ring.specs.declared.ring.Ring as memory
use Rattle.fl_ring.proofs.Bodies.{kept-later}
use Rattle.fl_ring.proofs.Counts.{counts_length, counts_sealed}
use Rattle.fl_ring.proofs.HeldPages.{IsStateOf, state-oldest}
use Rattle.fl_ring.proofs.InTable.{of_ring, erases-where, seal-operations, performed-lifts, all-whole}
use Rattle.fl_ring.proofs.Lengths.{ring_lengths}
use Rattle.fl_ring.proofs.SealSteps.{seal_end}
use Rattle.fl_var.specs.Content.{page_with, content_body}
use Rattle.fl_var.specs.Memory.{next_in, oldest_in, waiting_in, room_in, page_in, var_shape, IsPlanned, IsSamePlan}
use Rattle.fl_var.specs.Placing.{Seals, Breaks, EndsWith}
use Rattle.fl_var.specs.Standing.{IsVarRing, HasRing}
use Rattle.fl_var.specs.declared.var_data.VarData.{VarData}
use Rattle.fl_var.proofs.Bodies.{counted, once, IsBody}
use Rattle.fl_var.proofs.RingInTable.{page_of, IsRingOf, come-small, step-along, fault-ends}
use Rattle.fl_var.proofs.PageImages.{filled-length, waiting-room}
use Rattle.fl_var.proofs.States.{state_of, state-is, var-ring-of}

-- the pages of the flash have their size
pub pages-size : (v : VarData) (f : FlashState) → f.start + extent f.geometry f.blocks ≤ length f.media.content → f.geometry ≡ v.geometry → v.place.first_block + v.place.blocks ≤ f.blocks →
    (n : ℕ) → length (page_at f (place (var_shape v) n)) ≡ v.geometry.page
pages-size v f reaches geometry within = ring_lengths f v.geometry v.place.first_block v.place.blocks reaches geometry within (omega (arith, v.some_blocks)) (omega (arith, v.served.block_least))

pub shape-is : (v : VarData) → IsShape (var_shape v)
shape-is v = record { blocks = v.some_blocks; per_block = v.served.block_least; size = v.served.page_least }

pub shape-here : (v : VarData) (plan : Plan) → IsPlanned v plan → model_shape (var_shape v) ≡ shape_of plan VarRing
shape-here v plan h = ap (λ b. record { blocks = b; pages = v.geometry.block }) (sym h.blocks) ∙ ap (λ g. record { blocks = plan.var_blocks; pages = g.block }) (sym h.geometry)

-- the numbers in memory
pub next-is : (v : VarData) (ring : memory.Ring) → v.ring ≡ Some ring → next_in v ≡ place_words.next_of ring
next-is v ring e = ap (λ (o : Option memory.Ring). unwrap_or (option_map (λ r. place_words.next_of r) o) 0) e

pub oldest-is : (v : VarData) (ring : memory.Ring) → v.ring ≡ Some ring → oldest_in v ≡ place_words.oldest_of ring
oldest-is v ring e = ap (λ (o : Option memory.Ring). unwrap_or (option_map (λ r. place_words.oldest_of r) o) 0) e

-- the room of a page
pub room-planned : (v : VarData) (plan : Plan) → IsPlanned v plan → content_per_page plan ≡ room_in v
room-planned v plan planned = ap (λ g. g.page - 16) planned.geometry

-- a seal of a ring that stands for the variable data of a table, where the bytes in the buffer are those of the next page
module _ (v : VarData) (f g : FlashState) (plan : Plan) (table : Table) (has : HasRing v f plan table) (body : List ℕ)
    (sizes : (n : ℕ) → length (page_at f (place (var_shape v) n)) ≡ v.geometry.page) (later_sizes : (n : ℕ) → length (page_at g (place (var_shape v) n)) ≡ v.geometry.page)
    (body_is : body ≡ content_body (room_in v) (next_in v) (waiting_in v)) (waits : take (content_per_page plan) table.buffered ≡ waiting_in v) (some : 1 ≤ length (waiting_in v)) (small : next_in v + 1 < 4294967296) where
  abbrev r : Shape
  r = var_shape v

  abbrev s : RingState
  s = state_of has.ring table.var_pages

  is : IsStateOf (IsBody plan) once (var_shape v) (page_at f) has.ring table.var_pages (state_of has.ring table.var_pages)
  is = state-is (var_shape v) plan (page_at f) sizes (shape-is v) (shape-here v plan has.planned) has.ring table.var_pages has.pages

  known : count (state_of has.ring table.var_pages) ≤ has.ring.next
  known = is.on.ring.not_negative

  -- the ring in memory is ready
  pub ready : (ring : memory.Ring) → v.ring ≡ Some ring → IsReady ring f (state_of has.ring table.var_pages)
  ready ring e = record {
    stands = record {
      next = sym (next-is v ring e) ∙ has.next;
      oldest = sym (oldest-is v ring e) ∙ (has.oldest_is ∙ sym (state-oldest layout.content_body has.ring table.var_pages));
    };
    on = subst (λ (x : Shape). OnRing x (page_at f) (state_of has.ring table.var_pages)) (sym (v.lies ring e)) is.on;
    whole = has.whole;
    clean = has.clean;
  }

  next_page : page_of plan table.buffered ≡ page_with (room_in v) (waiting_in v)
  next_page = ap (λ (bytes : List ℕ). page_with (content_per_page plan) bytes) waits ∙ ap (λ n. page_with n (waiting_in v)) (room-planned v plan has.planned)

  next_good : IsContent plan (page_of plan table.buffered)
  next_good =
      let room = room-planned v plan has.planned in
      subst (IsContent plan) (sym next_page)
      (record { some = some; most = omega (arith, waiting-room v, room); length = filled-length (room_in v) (waiting_in v) (waiting-room v) ∙ sym room })

  begins : IsRingOf plan body (seal_kinds (var_shape v) (state_of has.ring table.var_pages) body) (state_of has.ring table.var_pages) table
  begins = record {
    var_is = has.ring_is ∙ ap (λ (x : model.Ring). Some x) (sym is.counts);
    bodies = is.bodies;
    known = known;
    come = (
      record {
        is = body_is ∙ (ap (λ n. layout.content_body n (page_with (room_in v) (waiting_in v))) has.next ∙ ap (layout.content_body has.ring.next) (sym next_page));
        good = next_good;
        small = omega (arith, small, has.next);
      },
      erases-where (sealed (var_shape v) (state_of has.ring table.var_pages) body).dirty,
    );
  }

  kinds-are : map (of_ring VarRing) (seal_kinds (var_shape v) (state_of has.ring table.var_pages) body) ≡ seals_within plan (VarRing ∷ []) table
  kinds-are = seal-operations VarRing plan table r s body dirt ∙ sym (append-nil (seal_within plan VarRing table))
    where
      dirt : (sealed (var_shape v) (state_of has.ring table.var_pages) body).dirty ≡ is_dirty VarRing (seal_buffer plan VarRing table)
      dirt =
          let ring_is : (seal_buffer plan VarRing table).var ≡ Some (counted (sealed (var_shape v) (state_of has.ring table.var_pages) body)) =
          ap (option_map (model.sealed (shape_of plan VarRing) 1)) begins.var_is
          ∙ ap (λ (x : model.Ring). Some x) (ap (λ (m : model.Shape). model.sealed m 1 (counted (state_of has.ring table.var_pages))) (sym (shape-here v plan has.planned)) ∙ sym (counts_sealed once (var_shape v) (state_of has.ring table.var_pages) body)) in
          ap (λ (o : Option model.Ring). unwrap_or (option_map (λ (x : model.Ring). x.dirty) o) false) (sym ring_is)

  -- an operation of it failed
  pub seal-breaks : (rose : Bool) (device : Device) (fault : FlashFault) →
      Performed (var_shape v) (change (var_shape v) body) rose (seal_kinds (var_shape v) (state_of has.ring table.var_pages) body) device (state_of has.ring table.var_pages) (Err fault) g →
      Breaks plan (VarRing ∷ []) table rose device fault v g
  seal-breaks rose device fault h =
      let l = performed-lifts (IsRingOf plan body) r plan VarRing body (step-along r plan body (shape-is v) (shape-here v plan has.planned)) rose (seal_kinds r s body) device s table (Err fault) g begins h in
      record {
        now = l.now;
        did = subst (λ (ops : List (RingName × Kind)). TablePerforms plan rose ops device table l.now) kinds-are l.did;
        answer = fault-ends l.now.end fault g l.answer;
        counts = l.counts;
        ring = counted h.now.state;
        ring_is = l.is.var_is;
        pages = var-ring-of (var_shape v) plan (page_at g) later_sizes (shape-is v) (shape-here v plan has.planned) h.now.state l.now.state.var_pages h.on l.is.bodies
            (come-small plan body l.kinds h.now.state l.now.state.buffered l.is.come);
      }

  -- all were done
  pub seal-finishes : (rose : Bool) (device : Device) (u : Unit {0}) (w : VarData) (ring : memory.Ring) →
      (h : Performed (var_shape v) (change (var_shape v) body) rose (seal_kinds (var_shape v) (state_of has.ring table.var_pages) body) device (state_of has.ring table.var_pages) (Ok u) g) →
      StandsFor ring h.now.state → w.ring ≡ Some ring → IsSamePlan v w → page_in w g ≡ page_in v g →
      ((n : ℕ) → oldest (sealed (var_shape v) (state_of has.ring table.var_pages) body) ≤ n → n < has.ring.next → page_in v g n ≡ page_in v f n) →
      Seals plan (VarRing ∷ []) table rose device v f w g
  seal-finishes rose device u w ring h stands ring_is same page_is stays =
      let l = performed-lifts (IsRingOf plan body) r plan VarRing body (step-along r plan body (shape-is v) (shape-here v plan has.planned)) rose (seal_kinds r s body) device s table (Ok u) g begins h in
      let all = all-whole l.now.end u g l.answer in
      let did : TablePerforms plan rose (seals_within plan (VarRing ∷ []) table) device table l.now = subst (λ (ops : List (RingName × Kind)). TablePerforms plan rose ops device table l.now) kinds-are l.did in
      let alone : TablePerforms plan rose (seal_within plan VarRing table) device table l.now = subst (λ (ops : List (RingName × Kind)). TablePerforms plan rose ops device table l.now) (append-nil (seal_within plan VarRing table)) did in
      let after : l.now.state ≡ after_seals plan (VarRing ∷ []) table = (performs-whole (λ operation. operation.1) (effect_within plan) rose (seal_within plan VarRing table) device table l.now alone all.0).0 ∙ seal-all_done plan VarRing table in
      let ends = seal_end (var_shape v) s body rose device u g h in
      let oldest_now : model.oldest (counted h.now.state) ≡ oldest (sealed (var_shape v) (state_of has.ring table.var_pages) body) =
      ap (λ n. h.now.state.next - n) (counts_length once h.now.state) ∙ ends.oldest_is in
      let later = kept-later (var_shape v) s (Some body) known in
      record {
        now = l.now;
        did = did;
        whole = all.0;
        counts = l.counts;
        power = all.1;
        has = record {
          planned = record { geometry = has.planned.geometry ∙ sym same.geometry; blocks = has.planned.blocks ∙ ap (λ p. p.blocks) (sym same.place) };
          mounted = ap is_some ring_is;
          ring = counted h.now.state;
          ring_is = ap (λ (t : Table). t.var) (sym after) ∙ l.is.var_is;
          pages = subst (λ (ps : List ContentPage). IsVarRing plan ps (counted h.now.state) (page_in w g)) (ap (λ (t : Table). t.var_pages) after)
              (subst (λ (pg : ℕ → List ℕ). IsVarRing plan l.now.state.var_pages (counted h.now.state) pg) (sym page_is)
              (var-ring-of (var_shape v) plan (page_at g) later_sizes (shape-is v) (shape-here v plan has.planned) h.now.state l.now.state.var_pages h.on l.is.bodies
              (come-small plan body l.kinds h.now.state l.now.state.buffered l.is.come)));
          whole = ends.whole;
          clean = ends.clean;
          next = next-is w ring ring_is ∙ stands.next;
          oldest_is = oldest-is w ring ring_is ∙ (stands.oldest ∙ ap (λ n. h.now.state.next - n) (sym (counts_length once h.now.state)));
        };
        stand = λ before e.
            let same_ring = same_Some before has.ring (sym e ∙ has.ring_is) in
            subst (λ (pg : ℕ → List ℕ). PagesStand before (page_in v f) (counted h.now.state) pg) (sym page_is)
            (subst (λ (x : model.Ring). PagesStand x (page_in v f) (counted h.now.state) (page_in v g)) (sym same_ring)
            (record {
              later = omega (arith, oldest_now, later, state-oldest layout.content_body has.ring table.var_pages);
              further = omega (arith, ends.next_is);
              bytes = λ n low high. stays n (omega (arith, low, oldest_now)) high;
            }));
      }

pub seal-err : (plan : Plan) (seals : List RingName) (table : Table) (rose : Bool) (device : Device) (old : VarData) (old_f : FlashState) (v : VarData) (new : FlashState) (result : Result (Unit {0}) FlashFault) (fault : FlashFault) → result ≡ Err fault →
    Breaks plan seals table rose device fault old new → EndsWith plan seals table rose device old old_f result v new
seal-err plan seals table rose device old old_f v new result fault is breaks = subst (λ (x : Result (Unit {0}) FlashFault). EndsWith plan seals table rose device old old_f x v new) (sym is) breaks
