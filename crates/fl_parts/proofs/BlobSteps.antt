-- How seals and placings of variable data end, for a table.
use Rattle.std.proofs.Common.{◌≡◌, ℕ, zero, suc, ◌+◌, ◌-◌, ◌*◌, ◌/◌, ◌<◌, ◌≤◌, Bool, true, false, cond, nat_lt, Option, Some, None, option_map, unwrap_or, Result, Ok, Err, List, [], ◌∷◌, ◌++◌, length, replicate, refl, sym, ◌∙◌, ap, subst, arith}
use Rattle.std.proofs.Math.Nat.{div-lt_iff_lt-mul}
use Rattle.std.proofs.lemmas.List.{append-nil}
use Rattle.std.proofs.lemmas.Option.{same_Some}
use Rattle.fl_base.specs.declared.types.BlobRef.{BlobRef}
use Rattle.fl_flash.specs.Flash.{FlashState}
use Rattle.fl_flash.specs.declared.flash.FlashFault.{FlashFault}
use Rattle.fl_model.specs.Content.{ContentPage}
use Rattle.fl_model.specs.Record.{Record, Plan, content_per_page}
use Rattle.fl_model.specs.Ring.{Ring, IsShape, sealed, erased}
use Rattle.fl_model.specs.Table.{Table, RingName, DataRing, IndexRing, VarRing, LogRing, shape_of, fill, fill_seals, after_seal, after_seals, with_record, blob_len}
use Rattle.fl_model.specs.Work.{Device, Whole}
use Rattle.fl_ring.specs.Ring.{Shape}
use Rattle.fl_frame.specs.Watched.{IsWatched}
use Rattle.fl_parts.specs.Blobs.{ArePlaced, IsPlanned, IsStanding, Finishes, RestEnds, PlaceEnds, rest_seals, reference_of}
use Rattle.fl_parts.proofs.BlobTables.{var-shape}
use Rattle.fl_parts.proofs.KeptPagesStay.{ring-same}
use Rattle.fl_parts.proofs.VarFacts.{numbered-sealed, placed-sealed, placed-joined}
use Rattle.fl_var.specs.Memory.{waiting_in, room_in, page_in, IsSamePlan}
use Rattle.fl_var.specs.Placing as placing
use Rattle.fl_var.specs.Placing.{where_placed, pages_placed}
use Rattle.fl_var.specs.declared.var_data.VarData.{VarData}
use Rattle.fl_var.proofs.Joins.{same-shape}
use Rattle.fl_var.proofs.PageImages.{waiting-room}

-- ---- seals of variable data alone

abbrev pub AreVar : List RingName → Type 0
AreVar [] = Unit {0}
AreVar (VarRing ∷ rings) = AreVar rings
AreVar (DataRing ∷ rings) = ⊥
AreVar (IndexRing ∷ rings) = ⊥
AreVar (LogRing ∷ rings) = ⊥

var-replicate : (n : ℕ) → AreVar (replicate n VarRing)
var-replicate zero = tt
var-replicate (suc n) = var-replicate n

pub fill-var : (plan : Plan) (table : Table) → AreVar (fill_seals plan table)
fill-var plan table = var-replicate ((fill table - 1) / content_per_page plan)

-- no page is full
pub no-fill : (plan : Plan) (table : Table) → 0 < content_per_page plan → fill table ≤ content_per_page plan → fill_seals plan table ≡ []
no-fill plan table some few =
    let less = (div-lt_iff_lt-mul {x = fill table - 1} {y = 1} some).1 (omega (arith, few, some)) in
    let none : (fill table - 1) / content_per_page plan ≡ 0 = omega (arith, less) in
    ap (λ n. replicate n VarRing) none

pub rest-var : (table : Table) → AreVar (rest_seals table)
rest-var table = by_fill (nat_lt 0 (fill table))
  where
    by_fill : (b : Bool) → AreVar (cond b (VarRing ∷ []) [])
    by_fill true = tt
    by_fill false = tt

-- they change the ring, its pages and the buffer alone
pub after-var : (plan : Plan) (seals : List RingName) (table : Table) → AreVar seals →
    (ring : Option Ring) × (pages : List ContentPage) × (bytes : List ℕ) × (after_seals plan seals table ≡ record table { var = ring; var_pages = pages; buffered = bytes })
after-var plan [] table are = (table.var, table.var_pages, table.buffered, refl)
after-var plan (VarRing ∷ seals) table are = after-var plan seals (after_seal plan VarRing table) are
after-var plan (DataRing ∷ seals) table are = absurd are
after-var plan (IndexRing ∷ seals) table are = absurd are
after-var plan (LogRing ∷ seals) table are = absurd are

-- no blob begins on a void page then
placed-seals : (plan : Plan) (table : Table) (ring : Ring) (seals : List RingName) → IsShape (shape_of plan VarRing) → AreVar seals → table.var ≡ Some ring → length ring.counts ≤ ring.next → ArePlaced ring table.entries →
    (r : Ring) → (after_seals plan seals table).var ≡ Some r → ArePlaced r (after_seals plan seals table).entries
placed-seals plan table ring [] shape are is numbered placed r there = subst (λ (x : Ring). ArePlaced x table.entries) (same_Some ring r (sym is ∙ there)) placed
placed-seals plan table ring (VarRing ∷ seals) shape are is numbered placed r there =
    placed-seals plan (after_seal plan VarRing table) (erased (sealed (shape_of plan VarRing) 1 ring)) seals shape are (ap (λ (o : Option Ring). option_map erased (option_map (sealed (shape_of plan VarRing) 1) o)) is)
    (numbered-sealed (shape_of plan VarRing) 1 ring shape numbered) (placed-sealed (shape_of plan VarRing) ring table.entries shape numbered placed) r there
placed-seals plan table ring (DataRing ∷ seals) shape are is numbered placed r there = absurd are
placed-seals plan table ring (IndexRing ∷ seals) shape are is numbered placed r there = absurd are
placed-seals plan table ring (LogRing ∷ seals) shape are is numbered placed r there = absurd are

-- ---- what stands after them

module _ (old v : VarData) (f g : FlashState) (first : ℕ) (plan : Plan) (table : Table) (same : IsSamePlan old v) (stands : IsStanding old f first plan table) where
  still-planned : IsPlanned v first plan
  still-planned = record {
    planned = record { geometry = stands.planned.planned.geometry ∙ sym (same.geometry); blocks = stands.planned.planned.blocks ∙ sym (ap (λ p. p.blocks) same.place) };
    begins = ap (λ (r : Shape). r.first) (same-shape old v same) ∙ stands.planned.begins;
  }

  abbrev ring : Ring
  ring = stands.in_pages.ring.ring

  module _ (rose : Bool) (device : Device) where
    finishes : (seals : List RingName) (t : Table) → AreVar seals → t.var ≡ Some ring → ArePlaced ring t.entries → placing.Finishes plan seals t rose device old f v g → Finishes first plan seals t rose device old f v g
    finishes seals t are is placed h =
        let s = h.seals_are in
        record {
          now = s.now;
          did = s.did;
          whole = s.whole;
          counts = s.counts;
          power = s.power;
          stands = record {
            planned = still-planned;
            in_pages = record { ring = s.has; buffered = h.buffered };
            placed = placed-seals plan t ring seals (var-shape old first plan stands.planned) are is stands.in_pages.ring.pages.facts.not_negative placed s.has.ring s.has.ring_is;
          };
          stand = s.stand;
        }

    -- the bytes that waited were sealed
    pub rest-ends : (result : Result (Unit {0}) FlashFault) → placing.RestEnds plan table rose device old f result v g → RestEnds first plan table rose device old f result v g
    rest-ends (Ok u) h = finishes (rest_seals table) table (rest-var table) stands.in_pages.ring.ring_is stands.placed h
    rest-ends (Err fault) h = h

    -- a blob was placed
    pub place-ok : (item : Record) (bytes : List ℕ) (at : BlobRef) → item.blob ≡ Some bytes → placing.PlaceEnds plan item table rose device old f (Ok at) v g → PlaceEnds first plan item table rose device old f (Ok (Some at)) v g
    place-ok item bytes at e h =
        let long : blob_len item ≡ length bytes = ap (λ (o : Option (List ℕ)). unwrap_or (option_map (λ (b : List ℕ). length b) o) 0) e in
        let here : reference_of plan item table ≡ Some (where_placed plan (length bytes) table) = ap (option_map (λ (b : List ℕ). where_placed plan (length b) table)) e in (
          ap (λ (x : BlobRef). Some x) (h.0 ∙ ap (λ n. where_placed plan n table) long) ∙ sym here,
          finishes (fill_seals plan (with_record plan item table)) (with_record plan item table) (fill-var plan (with_record plan item table)) stands.in_pages.ring.ring_is
              (placed-joined plan item table ring stands.in_pages.ring.ring_is stands.placed) h.1,
        )

-- without a blob
pub place-none : (v : VarData) (f : FlashState) (first : ℕ) (plan : Plan) (table : Table) (item : Record) (rose : Bool) (device : Device) → item.blob ≡ None → IsWatched f f rose device → IsStanding v f first plan table → PlaceEnds first plan item table rose device v f (Ok None) v f
place-none v f first plan table item rose device e watched stands = (
  sym (ap (option_map (λ (b : List ℕ). where_placed plan (length b) table)) e),
  subst (λ (seals : List RingName). Finishes first plan seals joined rose device v f v f) (sym none) done,
)
  where
    joined : Table
    joined = with_record plan item table

    buffered : (with_record plan item table).buffered ≡ table.buffered
    buffered = ap (λ (o : Option (List ℕ)). table.buffered ++ unwrap_or o []) e ∙ append-nil table.buffered

    none : fill_seals plan (with_record plan item table) ≡ []
    none = no-fill plan (with_record plan item table) (omega (arith, v.served.page_least, ap (λ g. g.page) stands.planned.planned.geometry))
        (omega (arith, ap length buffered, ap length stands.in_pages.buffered, waiting-room v, ap (λ g. g.page) stands.planned.planned.geometry))

    done : Finishes first plan [] (with_record plan item table) rose device v f v f
    done = record {
      now = record { end = Whole; device = device; state = with_record plan item table };
      did = (refl, refl, refl);
      whole = refl;
      counts = watched.counts;
      power = watched.on;
      stands = record {
        planned = stands.planned;
        in_pages = record {
          ring = record {
            planned = stands.in_pages.ring.planned;
            mounted = stands.in_pages.ring.mounted;
            ring = stands.in_pages.ring.ring;
            ring_is = stands.in_pages.ring.ring_is;
            pages = stands.in_pages.ring.pages;
            whole = stands.in_pages.ring.whole;
            clean = stands.in_pages.ring.clean;
            next = stands.in_pages.ring.next;
            oldest_is = stands.in_pages.ring.oldest_is;
          };
          buffered = buffered ∙ stands.in_pages.buffered;
        };
        placed = placed-joined plan item table stands.in_pages.ring.ring stands.in_pages.ring.ring_is stands.placed;
      };
      stand = λ before is. ring-same table.var table.var (page_in v f) (page_in v f) refl (λ r has n. refl) before stands.in_pages.ring.ring is stands.in_pages.ring.ring_is;
    }

-- at most so many pages are sealed for a blob
pub pages-few : (v : VarData) (len : ℕ) → len ≤ 1500 → pages_placed v len ≤ 32
pages-few v len few =
    let wide : 48 ≤ room_in v = omega (arith, v.served.page_least) in
    let more : room_in v + 1499 < 33 * room_in v = omega (arith, wide) in
    let less = (div-lt_iff_lt-mul {x = length (waiting_in v) + len - 1} {y = 33} (let k : 0 < room_in v = omega (arith, wide) in k)).1
    (let k : length (waiting_in v) + len - 1 < 33 * room_in v = omega (arith, waiting-room v, few, more) in k) in
    omega (arith, less)
