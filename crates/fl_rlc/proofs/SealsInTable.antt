-- The seal of a log's page, in the words of its table.
use Rattle.std.proofs.Common.{◌≡◌, ℕ, ◌+◌, ◌-◌, ◌<◌, ◌≤◌, Bool, false, cond, Option, Some, unwrap_or, Result, Ok, Err, List, [], ◌∷◌, map, length, refl, sym, ◌∙◌, ap, subst, arith}
use Rattle.std.specs.Prelude.{option_map, is_some}
use Rattle.std.proofs.Math.Nat.{div-le_self}
use Rattle.std.proofs.lemmas.Option.{same_Some}
use Rattle.fl_base.specs.declared.types.Geometry.{Geometry}
use Rattle.fl_flash.specs.Flash.{FlashState, page_at}
use Rattle.fl_flash.specs.Places.{extent}
use Rattle.fl_flash.specs.declared.flash.FlashFault.{FlashFault}
use Rattle.fl_model.specs.Record.{Plan, row_layout, row_len, rows_per_page}
use Rattle.fl_model.specs.Ring as model
use Rattle.fl_model.specs.Row.{stored_row}
use Rattle.fl_model.specs.Table.{Table, RingName, LogRing, has_rows, shape_of, after_seal, seal_buffer, is_dirty, log_pages, pending_entries}
use Rattle.fl_model.specs.Work.{Kind, Mark, Erase, Device}
use Rattle.fl_model.specs.Within.{seal_within, effect_within, TablePerforms}
use Rattle.fl_model.specs.Bare.{bare_table}
use Rattle.fl_model.proofs.Among.{seal-all_done}
use Rattle.fl_model.proofs.Performs.{performs-whole}
use Rattle.fl_page.specs.Writer.{Gathers}
use Rattle.fl_ring.specs.Counts.{model_shape}
use Rattle.fl_ring.specs.Kept.{PagesStand}
use Rattle.fl_ring.specs.Operations.{change, seal_kinds}
use Rattle.fl_ring.specs.Place as place_words
use Rattle.fl_ring.specs.Place.{StandsFor}
use Rattle.fl_ring.specs.Ring.{Shape, RingState, IsShape, OnRing, place, count, oldest, sealed}
use Rattle.fl_ring.specs.Sealing.{IsReady, Performed}
use Rattle.fl_ring.specs.declared.ring.Ring as memory
use Rattle.fl_ring.proofs.Bodies.{kept-later}
use Rattle.fl_ring.proofs.Counts.{counts_length}
use Rattle.fl_ring.proofs.HeldPages.{IsStateOf, state-oldest}
use Rattle.fl_ring.proofs.InTable.{of_ring, erases-where, seal-operations, performed-lifts, all-whole}
use Rattle.fl_ring.proofs.Lengths.{ring_lengths}
use Rattle.fl_ring.proofs.SealSteps.{seal_end}
use Rattle.fl_parts.proofs.SealEnds.{fault-ends}
use Rattle.fl_rlc.specs.Memory.{next_in, oldest_in, rows_in, page_in, log_shape, IsPlanned, IsSamePlan}
use Rattle.fl_rlc.specs.Pages.{log_body, IsLogRing}
use Rattle.fl_rlc.specs.Sealing as specs
use Rattle.fl_rlc.specs.Sealing.{Seals, Breaks, SealEnds}
use Rattle.fl_rlc.specs.declared.log.RecordLog.{RecordLog}
use Rattle.fl_rlc.proofs.Bodies.{counted, rows_of, body-of, IsBody}
use Rattle.fl_rlc.proofs.RingInTable.{IsRingOf, come-small, step-along}
use Rattle.fl_rlc.proofs.States.{state_of, state-is, log-ring-of}

-- the pages of the flash have their size
pub pages-size : (log : RecordLog) (f : FlashState) → f.start + extent f.geometry f.blocks ≤ length f.media.content → f.geometry ≡ log.geometry → log.place.first_block + log.place.blocks ≤ f.blocks →
    (n : ℕ) → length (page_at f (place (log_shape log) n)) ≡ log.geometry.page
pages-size log f reaches geometry within = ring_lengths f log.geometry log.place.first_block log.place.blocks reaches geometry within (omega (arith, log.some_blocks)) (omega (arith, log.served.block_least))

pub shape-is : (log : RecordLog) → IsShape (log_shape log)
shape-is log = record { blocks = log.some_blocks; per_block = log.served.block_least; size = log.served.page_least }

pub shape-here : (log : RecordLog) (first : ℕ) (plan : Plan) → IsPlanned log first plan → model_shape (log_shape log) ≡ shape_of plan LogRing
shape-here log first plan h = ap (λ b. record { blocks = b; pages = log.geometry.block }) (sym h.blocks) ∙ ap (λ g. record { blocks = plan.log_blocks; pages = g.block }) (sym h.geometry)

-- a page has room for few rows
pub rows-few : (log : RecordLog) (first : ℕ) (plan : Plan) → IsPlanned log first plan → rows_per_page plan < 65536
rows-few log first plan h =
    let page : plan.geometry.page ≡ log.geometry.page = ap (λ (g : Geometry). g.page) h.geometry in
    let most : rows_per_page plan ≤ plan.geometry.page - 24 = div-le_self (plan.geometry.page - 24) (row_len plan) in
    omega (arith, most, page, log.served.page_greatest)

-- the numbers in memory
pub next-is : (log : RecordLog) (ring : memory.Ring) → log.ring ≡ Some ring → next_in log ≡ place_words.next_of ring
next-is log ring e = ap (λ (o : Option memory.Ring). unwrap_or (option_map (λ r. place_words.next_of r) o) 0) e

pub oldest-is : (log : RecordLog) (ring : memory.Ring) → log.ring ≡ Some ring → oldest_in log ≡ place_words.oldest_of ring
oldest-is log ring e = ap (λ (o : Option memory.Ring). unwrap_or (option_map (λ r. place_words.oldest_of r) o) 0) e

-- the body that was finished is that of the next page
pub finished-is : (log : RecordLog) (f : FlashState) (first : ℕ) (plan : Plan) (table : Table) → specs.IsReady log f first plan table →
    IsBody plan (next_in log) (log_body plan (next_in log) (pending_entries table)) (pending_entries table)
finished-is log f first plan table ready = body-of plan (next_in log) (pending_entries table) (rows-few log first plan ready.stands.ring.planned) ready.page

-- a seal of a log that stands for that of a table, of which the pending rows are those of the next page
module _ (log : RecordLog) (f g : FlashState) (first : ℕ) (plan : Plan) (table : Table) (h : specs.IsReady log f first plan table) (body : List ℕ)
    (sizes : (n : ℕ) → length (page_at f (place (log_shape log) n)) ≡ log.geometry.page) (later_sizes : (n : ℕ) → length (page_at g (place (log_shape log) n)) ≡ log.geometry.page)
    (body_is : body ≡ log_body plan (next_in log) (pending_entries table)) (left : next_in log + 1 ≤ 4294967291) where
  abbrev r : Shape
  r = log_shape log

  abbrev s : RingState
  s = state_of plan h.stands.ring.ring (log_pages table)

  few : rows_per_page plan < 65536
  few = rows-few log first plan h.stands.ring.planned

  is : IsStateOf (IsBody plan) rows_of (log_shape log) (page_at f) h.stands.ring.ring (log_pages table) (state_of plan h.stands.ring.ring (log_pages table))
  is = state-is (log_shape log) plan (page_at f) sizes (shape-is log) (shape-here log first plan h.stands.ring.planned) (rows-few log first plan h.stands.ring.planned) h.stands.ring.ring (log_pages table) h.stands.ring.pages

  known : count (state_of plan h.stands.ring.ring (log_pages table)) ≤ h.stands.ring.ring.next
  known = is.on.ring.not_negative

  -- the ring in memory is ready
  pub ready : (ring : memory.Ring) → log.ring ≡ Some ring → IsReady ring f (state_of plan h.stands.ring.ring (log_pages table))
  ready ring e = record {
    stands = record {
      next = sym (next-is log ring e) ∙ h.stands.ring.next;
      oldest = sym (oldest-is log ring e) ∙ (h.stands.ring.oldest_is ∙ sym (state-oldest (log_body plan) h.stands.ring.ring (log_pages table)));
    };
    on = subst (λ (x : Shape). OnRing x (page_at f) (state_of plan h.stands.ring.ring (log_pages table))) (sym (log.lies ring e)) is.on;
    whole = h.stands.ring.whole;
    clean = h.stands.ring.clean;
  }

  body-next : IsBody plan h.stands.ring.ring.next body (pending_entries table)
  body-next =
      let b = finished-is log f first plan table h in
      subst (λ (x : List ℕ). IsBody plan h.stands.ring.ring.next x (pending_entries table)) (sym body_is)
      (subst (λ (n : ℕ). IsBody plan n (log_body plan (next_in log) (pending_entries table)) (pending_entries table)) h.stands.ring.next b)

  begins : IsRingOf plan body (bare_table table) (seal_kinds (log_shape log) (state_of plan h.stands.ring.ring (log_pages table)) body) (state_of plan h.stands.ring.ring (log_pages table)) table
  begins = record {
    log_is = h.stands.ring.ring_is ∙ ap (λ (x : model.Ring). Some x) (sym is.counts);
    bodies = is.bodies;
    logged_some = h.stands.ring.logged_some;
    rest = refl;
    known = known;
    come = (
      record { body_is = body-next; as_many = h.as_many; small = omega (arith, left, h.stands.ring.next) },
      erases-where (sealed (log_shape log) (state_of plan h.stands.ring.ring (log_pages table)) body).dirty,
    );
  }

  kinds-are : map (of_ring LogRing) (seal_kinds (log_shape log) (state_of plan h.stands.ring.ring (log_pages table)) body) ≡ seal_within plan LogRing table
  kinds-are = seal-operations LogRing plan table r s body dirt
    where
      after : IsRingOf plan body (bare_table table) (cond (sealed (log_shape log) (state_of plan h.stands.ring.ring (log_pages table)) body).dirty (Erase ∷ []) []) (sealed (log_shape log) (state_of plan h.stands.ring.ring (log_pages table)) body) (seal_buffer plan LogRing table)
      after = step-along (log_shape log) plan body (bare_table table) (shape-is log) (shape-here log first plan h.stands.ring.planned) Mark (cond (sealed r s body).dirty (Erase ∷ []) []) s table
          (record { log_is = begins.log_is; bodies = begins.bodies; logged_some = begins.logged_some; rest = begins.rest; known = begins.known; come = (begins.come.0, erases-where (sealed r s body).dirty) })

      dirt : (sealed (log_shape log) (state_of plan h.stands.ring.ring (log_pages table)) body).dirty ≡ is_dirty LogRing (seal_buffer plan LogRing table)
      dirt = ap (λ (o : Option model.Ring). unwrap_or (option_map (λ (x : model.Ring). x.dirty) o) false) (sym after.log_is)

  -- an operation of it failed
  pub seal-breaks : (rose : Bool) (device : Device) (fault : FlashFault) →
      Performed (log_shape log) (change (log_shape log) body) rose (seal_kinds (log_shape log) (state_of plan h.stands.ring.ring (log_pages table)) body) device (state_of plan h.stands.ring.ring (log_pages table)) (Err fault) g →
      Breaks plan table rose device fault log g
  seal-breaks rose device fault p =
      let l = performed-lifts (IsRingOf plan body (bare_table table)) r plan LogRing body (step-along r plan body (bare_table table) (shape-is log) (shape-here log first plan h.stands.ring.planned)) rose (seal_kinds r s body) device s table (Err fault) g begins p in
      record {
        now = l.now;
        did = subst (λ (ops : List (RingName × Kind)). TablePerforms plan rose ops device table l.now) kinds-are l.did;
        answer = fault-ends l.now.end fault g l.answer;
        counts = l.counts;
        ring = counted p.now.state;
        ring_is = l.is.log_is;
        pages = log-ring-of (log_shape log) plan (page_at g) later_sizes (shape-is log) (shape-here log first plan h.stands.ring.planned) few p.now.state (log_pages l.now.state) p.on l.is.bodies
            (come-small plan body (bare_table table) l.kinds p.now.state l.is.come);
        logged_some = l.is.logged_some;
        rest = l.is.rest;
      }

  -- all were done
  pub seal-finishes : (rose : Bool) (device : Device) (u : Unit {0}) (w : RecordLog) (ring : memory.Ring) →
      (p : Performed (log_shape log) (change (log_shape log) body) rose (seal_kinds (log_shape log) (state_of plan h.stands.ring.ring (log_pages table)) body) device (state_of plan h.stands.ring.ring (log_pages table)) (Ok u) g) →
      StandsFor ring p.now.state → w.ring ≡ Some ring → IsSamePlan log w → page_in w g ≡ page_in log g → Gathers (row_layout plan) (map stored_row (pending_entries table)) (rows_in w) →
      ((n : ℕ) → oldest (sealed (log_shape log) (state_of plan h.stands.ring.ring (log_pages table)) body) ≤ n → n < h.stands.ring.ring.next → page_in log g n ≡ page_in log f n) →
      Seals first plan table rose device log f w g
  seal-finishes rose device u w ring p stands ring_is same page_is gathers stays =
      let l = performed-lifts (IsRingOf plan body (bare_table table)) r plan LogRing body (step-along r plan body (bare_table table) (shape-is log) (shape-here log first plan h.stands.ring.planned)) rose (seal_kinds r s body) device s table (Ok u) g begins p in
      let all = all-whole l.now.end u g l.answer in
      let did : TablePerforms plan rose (seal_within plan LogRing table) device table l.now = subst (λ (ops : List (RingName × Kind)). TablePerforms plan rose ops device table l.now) kinds-are l.did in
      let after : l.now.state ≡ after_seal plan LogRing table = (performs-whole (λ operation. operation.1) (effect_within plan) rose (seal_within plan LogRing table) device table l.now did all.0).0 ∙ seal-all_done plan LogRing table in
      let ends = seal_end (log_shape log) s body rose device u g p in
      let oldest_now : model.oldest (counted p.now.state) ≡ oldest (sealed (log_shape log) (state_of plan h.stands.ring.ring (log_pages table)) body) =
      ap (λ n. p.now.state.next - n) (counts_length rows_of p.now.state) ∙ ends.oldest_is in
      let later = kept-later (log_shape log) s (Some body) known in
      record {
        now = l.now;
        did = did;
        whole = all.0;
        counts = l.counts;
        power = all.1;
        stands = record {
          ring = record {
            planned = record { geometry = h.stands.ring.planned.geometry ∙ sym same.geometry; blocks = h.stands.ring.planned.blocks ∙ ap (λ q. q.blocks) (sym same.place); begins = ap (λ q. q.first_block) same.place ∙ h.stands.ring.planned.begins };
            mounted = ap is_some ring_is;
            ring = counted p.now.state;
            ring_is = ap (λ (t : Table). t.log) (sym after) ∙ l.is.log_is;
            pages = subst (λ (t : Table). IsLogRing plan (log_pages t) (counted p.now.state) (page_in w g)) after
                (subst (λ (pg : ℕ → List ℕ). IsLogRing plan (log_pages l.now.state) (counted p.now.state) pg) (sym page_is)
                (log-ring-of (log_shape log) plan (page_at g) later_sizes (shape-is log) (shape-here log first plan h.stands.ring.planned) few p.now.state (log_pages l.now.state) p.on l.is.bodies
                (come-small plan body (bare_table table) l.kinds p.now.state l.is.come)));
            logged_some = subst (λ (t : Table). has_rows t.log ≡ false → t.logged ≡ []) after l.is.logged_some;
            whole = ends.whole;
            clean = ends.clean;
            next = next-is w ring ring_is ∙ stands.next;
            oldest_is = oldest-is w ring ring_is ∙ (stands.oldest ∙ ap (λ n. p.now.state.next - n) (sym (counts_length rows_of p.now.state)));
          };
          rows = gathers;
        };
        stand = λ before e.
            let same_ring = same_Some before h.stands.ring.ring (sym e ∙ h.stands.ring.ring_is) in
            subst (λ (pg : ℕ → List ℕ). PagesStand before (page_in log f) (counted p.now.state) pg) (sym page_is)
            (subst (λ (x : model.Ring). PagesStand x (page_in log f) (counted p.now.state) (page_in log g)) (sym same_ring)
            (record {
              later = omega (arith, oldest_now, later, state-oldest (log_body plan) h.stands.ring.ring (log_pages table));
              further = omega (arith, ends.next_is);
              bytes = λ n low high. stays n (omega (arith, low, oldest_now)) high;
            }));
      }

pub seal-err : (first : ℕ) (plan : Plan) (table : Table) (rose : Bool) (device : Device) (old : RecordLog) (old_f : FlashState) (log : RecordLog) (new : FlashState) (result : Result (Unit {0}) FlashFault) (fault : FlashFault) → result ≡ Err fault →
    Breaks plan table rose device fault old new → SealEnds first plan table rose device old old_f result log new
seal-err first plan table rose device old old_f log new result fault is breaks = subst (λ (x : Result (Unit {0}) FlashFault). SealEnds first plan table rose device old old_f x log new) (sym is) breaks
