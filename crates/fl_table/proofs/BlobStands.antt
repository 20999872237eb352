-- How the seal of the blob bytes that wait ends, for the whole of their table.
use Rattle.std.proofs.Common.{◌≡◌, ℕ, ◌+◌, ◌*◌, ◌<◌, ◌≤◌, Bool, true, false, cond, ◌==◌, nat_lt, Option, Some, None, Result, Ok, Err, List, [], ◌∷◌, length, refl, sym, ◌∙◌, ap, subst, arith}
use Rattle.std.specs.Prelude.{OnOk}
use Rattle.std.proofs.Math.Nat.{mul-le-mul_right}
use Rattle.std.proofs.lemmas.Bool.{ltb-true}
use Rattle.fl_flash.specs.Flash.{FlashState, page_at}
use Rattle.fl_flash.specs.declared.flash.FlashFault.{FlashFault}
use Rattle.fl_index.specs.declared.index.BitmapIndex.{BitmapIndex}
use Rattle.fl_model.specs.Content.{ContentPage}
use Rattle.fl_model.specs.Facts.{is_some_ring}
use Rattle.fl_model.specs.Record.{Plan, has_index}
use Rattle.fl_model.specs.Ring.{Ring}
use Rattle.fl_model.specs.Table.{Table, RingName, IndexRing, VarRing, after_seals, lose, spent_from}
use Rattle.fl_model.specs.Work.{Device, Whole}
use Rattle.fl_frame.specs.Watched.{IsWatched}
use Rattle.fl_parts.specs.Bitmaps as bitmaps
use Rattle.fl_parts.specs.Blobs as variable
use Rattle.fl_parts.specs.Blobs.{Stand, StandOutside, IsStanding, RestEndsOf, RestEnds, rest_seals, next_of, next_after}
use Rattle.fl_parts.proofs.BlobRests.{RestedEnds, rest_few, kept-var, fault_ends}
use Rattle.fl_table.specs.Memory.{IsPlanned}
use Rattle.fl_parts.specs.Failing.{Breaks, BySeals}
use Rattle.fl_parts.specs.Pages.{HoldsTable, bytes_in}
use Rattle.fl_table.specs.Standing.{Stands}
use Rattle.fl_table.specs.declared.table.Table as code
use Rattle.fl_parts.proofs.BlobSeals.{with_var, blobs-break, blobs-finish, facts-with_var, seals-keep}
use Rattle.fl_parts.proofs.BlobSteps.{AreVar, after-var, rest-var}
use Rattle.fl_parts.proofs.BlobTables.{IsBlobbed, standing-blobbed, standing-has, var-shape}
use Rattle.fl_parts.proofs.Plain.{IsPlainTable, plain-lose, table-parts}
use Rattle.fl_table.proofs.SealAnswers.{planned-shape}
use Rattle.fl_parts.proofs.KeptPagesStay.{kept-same}
use Rattle.fl_parts.proofs.ListsStay.{ring-moved}
use Rattle.fl_parts.proofs.VarFacts.{HasVar}
use Rattle.fl_index.specs.Standing.{HasIndex}
use Rattle.fl_var.specs.Memory.{next_in, waiting_in}
use Rattle.fl_var.specs.Placing as placing
use Rattle.fl_var.specs.declared.var_data.VarData.{VarData}

-- the rings have pages
pub some-rows : {KNOTS SLOTS : ℕ} (t : code.Table KNOTS SLOTS) (first : ℕ) (plan : Plan) (table : Table) (f : FlashState) → Stands t f first plan table → 0 < plan.data_blocks * plan.geometry.block
some-rows t first plan table f s =
    let shape = planned-shape t first plan s.planned in
    let k : 3 * plan.geometry.block ≤ plan.data_blocks * plan.geometry.block = mul-le-mul_right plan.geometry.block shape.blocks in
    omega (arith, k, shape.pages)

pub index-pages : {KNOTS SLOTS : ℕ} (t : code.Table KNOTS SLOTS) (first : ℕ) (plan : Plan) (table : Table) → IsPlanned t first plan → is_some_ring table.index ≡ has_index plan → (r : Ring) → table.index ≡ Some r → 0 < plan.index_blocks * plan.geometry.block
index-pages t first plan table planned has_ring r is =
    let shape = planned-shape t first plan planned in
    let has : nat_lt 0 plan.index_blocks ≡ true = sym has_ring ∙ ap is_some_ring is in
    let blocks = ltb-true 0 plan.index_blocks has in
    let k : 1 * plan.geometry.block ≤ plan.index_blocks * plan.geometry.block = mul-le-mul_right plan.geometry.block (omega (arith, blocks)) in
    omega (arith, k, shape.pages)

pub some-index : {KNOTS SLOTS : ℕ} (t : code.Table KNOTS SLOTS) (first : ℕ) (plan : Plan) (table : Table) (f : FlashState) → Stands t f first plan table → (r : Ring) → table.index ≡ Some r → 0 < plan.index_blocks * plan.geometry.block
some-index t first plan table f s r is = index-pages t first plan table s.planned s.facts.has_rings.0 r is

module _ {KNOTS SLOTS : ℕ} (t : code.Table KNOTS SLOTS) (f new : FlashState) (first : ℕ) (plan : Plan) (table : Table) (rose : Bool) (device : Device) (stands : Stands t f first plan table) (watched : IsWatched f new rose device) where
  facts : IsPlainTable plan table
  facts = table-parts plan table stands.planned.log stands.facts

  pub standing-in : (v : VarData) → t.blobs ≡ Some v → IsStanding v f (first + plan.data_blocks + plan.index_blocks) plan table
  standing-in v is = subst (λ (o : Option VarData). Stand o f (first + plan.data_blocks + plan.index_blocks) plan table) is stands.blobs

  -- operations of variable data failed, of this table or of one that is the same without what is in memory alone
  pub var-breaks : (v : VarData) (is : t.blobs ≡ Some v) → StandOutside (Some v) (page_at f) (page_at new) → (seals : List RingName) → AreVar seals → (other : Table) → lose other ≡ lose table → other.index ≡ table.index →
      HasVar plan other (standing-in v is).in_pages.ring.ring → next_in v + 3 * length seals ≤ 4294967292 → (fault : FlashFault) → placing.Breaks plan seals other rose device fault v new → Breaks first plan (BySeals plan seals other rose device) fault new
  var-breaks v is outside seals are other lost index has left fault b =
      let s = standing-in v is in
      record {
        now = b.now;
        did = b.did;
        answer = fault_ends b.now.end fault new b.answer;
        counts = b.counts;
        rests = blobs-break v f new first plan other s.in_pages.ring.ring seals are (subst (IsPlainTable plan) (sym lost) (plain-lose plan table facts)) s.planned has s.in_pages.ring.whole s.in_pages.ring.next
            (subst (λ (x : Table). HoldsTable (page_at f) first plan x) (sym lost) stands.pages) outside (some-rows t first plan table f stands) (λ r e. some-index t first plan table f stands r (sym index ∙ e)) left rose device fault b;
      }

  -- .. or were done: the facts of the table then, and its pages
  pub var-finishes : (v w : VarData) (is : t.blobs ≡ Some v) → StandOutside (Some v) (page_at f) (page_at new) → (seals : List RingName) → AreVar seals → (other : Table) → lose other ≡ lose table → other.index ≡ table.index →
      HasVar plan other (standing-in v is).in_pages.ring.ring → (h : variable.Finishes (first + plan.data_blocks + plan.index_blocks) plan seals other rose device v f w new) → next_in w ≤ spent_from + 64 →
      IsBlobbed plan (after_seals plan seals other) × HoldsTable (page_at new) first plan (lose (after_seals plan seals other))
  var-finishes v w is outside seals are other lost index has h number =
      let s = standing-in v is in
      let ring = h.stands.in_pages.ring in
      let after = seals-keep plan other s.in_pages.ring.ring seals (var-shape v (first + plan.data_blocks + plan.index_blocks) plan s.planned) are has ring.ring ring.ring_is in (
        standing-blobbed w new (first + plan.data_blocks + plan.index_blocks) plan (after_seals plan seals other) h.stands after (omega (arith, number)) (λ p. number),
        blobs-finish v w f new first plan other (after_seals plan seals other) (after-var plan seals other are) s.planned (subst (λ (x : Table). HoldsTable (page_at f) first plan x) (sym lost) stands.pages) outside
            (some-rows t first plan table f stands) (λ r e. some-index t first plan table f stands r (sym index ∙ e)) h.stands,
      )

  pub rest-done : (blobs : Option VarData) (result : Result (Unit {0}) FlashFault) (now : Option VarData) → t.blobs ≡ blobs → next_after blobs ≤ spent_from + 64 → StandOutside blobs (page_at f) (page_at new) → OnOk result (next_of now ≡ next_after blobs) →
      RestEndsOf blobs f (first + plan.data_blocks + plan.index_blocks) plan table rose device result now new → RestedEnds first plan (rest_seals table) table rose device result now f new
  rest-done None result now is left outside next ends =
      let empty : table.buffered ≡ [] = subst (λ (o : Option VarData). Stand o f (first + plan.data_blocks + plan.index_blocks) plan table) is stands.blobs in
      let none : [] ≡ rest_seals table = sym (ap (λ (bytes : List ℕ). cond (nat_lt 0 (length bytes)) (VarRing ∷ []) []) empty) in
      subst (λ (seals : List RingName). RestedEnds first plan seals table rose device result now f new) none (rw (ends.0, ends.1, ends.2) (record {
        now = record { end = Whole; device = device; state = table };
        did = (refl, refl, refl);
        whole = refl;
        counts = watched.counts;
        power = watched.on;
        beside = (table.var, table.var_pages, table.buffered, refl);
        facts = facts;
        pages = stands.pages;
        blobs = empty;
        stand = kept-same first plan table table (page_at f) (page_at f) refl refl refl (λ ring n. refl);
      }))
  rest-done (Some v) result None is left outside next ends = absurd ends
  rest-done (Some v) result (Some w) is left outside next ends = by_result result next (ends watched (standing-in v is))
    where
      standing : IsStanding v f (first + plan.data_blocks + plan.index_blocks) plan table
      standing = standing-in v is

      has : HasVar plan table standing.in_pages.ring.ring
      has = standing-has v f (first + plan.data_blocks + plan.index_blocks) plan table standing facts.blobs

      low : next_in v ≤ spent_from + 64
      low = by_fill (length (waiting_in v) == 0) left
        where
          by_fill : (b : Bool) → cond b (next_in v) (next_in v + 1) ≤ spent_from + 64 → next_in v ≤ spent_from + 64
          by_fill true h = h
          by_fill false h = omega (arith, h)

      by_result : (result : Result (Unit {0}) FlashFault) → OnOk result (next_in w ≡ next_after (Some v)) → RestEnds (first + plan.data_blocks + plan.index_blocks) plan table rose device v f result w new →
          RestedEnds first plan (rest_seals table) table rose device result (Some w) f new
      by_result (Ok u) at s =
          let beside = after-var plan (rest_seals table) table (rest-var table) in
          let both = var-finishes v w is outside (rest_seals table) (rest-var table) table refl refl has s (omega (arith, at, left)) in
          record {
            now = s.now;
            did = s.did;
            whole = s.whole;
            counts = s.counts;
            power = s.power;
            beside = beside;
            facts = subst (IsPlainTable plan) (sym beside.3) (facts-with_var plan table beside.0 beside.1 beside.2 facts (subst (IsBlobbed plan) beside.3 both.0));
            pages = both.1;
            blobs = s.stands;
            stand = kept-var v w f new first plan table (after_seals plan (rest_seals table) table) s.stands.in_pages.ring.ring (ap (λ (x : Table). x.rows) beside.3) (ap (λ (x : Table). x.index) beside.3)
                s.stands.in_pages.ring.ring_is standing.planned s.stands.planned outside (some-rows t first plan table f stands) (some-index t first plan table f stands) s.stand;
          }
      by_result (Err fault) at b = var-breaks v is outside (rest_seals table) (rest-var table) table refl refl has (omega (arith, low, rest_few table)) fault b

-- .. as its variable data
pub bitmaps-stand : (indexed : Option BitmapIndex) (f g : FlashState) (first : ℕ) (plan : Plan) (table : Table) (ring : Option Ring) (pages : List ContentPage) (bytes : List ℕ) → bitmaps.ArePlanned indexed (first + plan.data_blocks) plan → 2 ≤ plan.geometry.block →
    (0 < plan.index_blocks * plan.geometry.block → (n : ℕ) → bytes_in (page_at g) first plan IndexRing n ≡ bytes_in (page_at f) first plan IndexRing n) →
    bitmaps.Stand indexed f (first + plan.data_blocks) plan table → bitmaps.Stand indexed g (first + plan.data_blocks) plan (with_var table ring pages bytes)
bitmaps-stand None f g first plan table ring pages bytes planned some same s = s
bitmaps-stand (Some indexed) f g first plan table ring pages bytes planned some same s =
    let k : 3 * plan.geometry.block ≤ plan.index_blocks * plan.geometry.block = mul-le-mul_right plan.geometry.block (omega (arith, planned.blocks, indexed.some_blocks)) in
    let h = s.in_ring.facts in
    let facts : HasIndex plan (with_var table ring pages bytes) s.in_ring.ring = record {
      ring_is = h.ring_is;
      is_ring = h.is_ring;
      counts = h.counts;
      index_each = h.index_each;
      index_fit = h.index_fit;
      firsts = h.firsts;
      waiting = h.waiting;
      listed = h.listed;
      tell = h.tell;
      wait = h.wait;
      counted = h.counted;
      number = h.number;
      rows_number = h.rows_number;
    } in
    record { in_ring = ring-moved indexed f g (first + plan.data_blocks) plan table (with_var table ring pages bytes) s.in_ring refl facts (same (omega (arith, k, some))); waits = s.waits }
