-- A record joins its table, and its blob is placed.
use Rattle.std.proofs.Common.{◌≡◌, ℕ, ◌+◌, ◌*◌, ◌<◌, ◌≤◌, Bool, true, false, cond, ◌==◌, Option, Some, None, Result, Ok, Err, unwrap_or, List, [], ◌++◌, length, refl, sym, ◌∙◌, ap, subst, arith}
use Rattle.std.specs.Prelude.{option_map}
use Rattle.fl_base.specs.declared.types.BlobRef.{BlobRef}
use Rattle.fl_flash.specs.Flash.{FlashState, page_at}
use Rattle.fl_flash.specs.declared.flash.FlashFault.{FlashFault}
use Rattle.fl_model.specs.Content.{ContentPage}
use Rattle.fl_model.specs.Facts.{FitsPlan}
use Rattle.fl_model.specs.Record.{Record, Plan, has_var, content_per_page}
use Rattle.fl_model.specs.Ring.{Ring}
use Rattle.std.proofs.lemmas.Bool.{false≢true}
use Rattle.fl_model.specs.Table.{Table, RingName, IndexRing, blob_len, fill_seals, after_seals, with_record, lose, spent_from}
use Rattle.fl_model.specs.Within.{seals_within, TablePerforms}
use Rattle.fl_model.specs.Work.{Device, Whole, PartProgress}
use Rattle.fl_frame.specs.Device.{SameDevice}
use Rattle.fl_frame.specs.Watched.{IsWatched}
use Rattle.fl_parts.specs.Accepting.{IsAcceptedBy}
use Rattle.fl_parts.specs.Bitmaps as bitmaps
use Rattle.fl_parts.specs.Blobs.{ArePlanned, Stand, StandOutside, IsStanding, PlaceEndsOf, PlaceEnds, reference_of, next_of, next_after}
use Rattle.fl_parts.specs.Failing.{Breaks, BySeals}
use Rattle.fl_parts.specs.Pages.{HoldsTable, KeptStand, bytes_in}
use Rattle.fl_parts.proofs.JoinedEntries.{entry_of, joined_to, joined-facts, joined-lost, fill-few, entry-fits}
use Rattle.fl_table.specs.Standing.{Stands}
use Rattle.fl_table.specs.declared.table.Table as code
use Rattle.fl_parts.proofs.BlobSteps.{after-var, fill-var, no-fill}
use Rattle.fl_parts.proofs.BlobRests.{kept-var}
use Rattle.fl_parts.proofs.Outsides.{index-before, bitmaps-moved}
use Rattle.fl_table.proofs.BlobStands.{some-rows, some-index, standing-in, var-breaks, var-finishes}
use Rattle.fl_parts.proofs.BlobTables.{IsBlobbed, standing-has}
use Rattle.fl_parts.proofs.BlobsOfTable.{none-var, planned-none}
use Rattle.fl_parts.proofs.IndexOfTable.{index-number}
use Rattle.fl_parts.proofs.Plain.{IsPlainTable, table-parts}
use Rattle.fl_parts.proofs.KeptPagesStay.{kept-same}
use Rattle.fl_parts.proofs.VarFacts.{HasVar, has-joined}
use Rattle.fl_var.specs.Memory.{next_in, waiting_in}
use Rattle.fl_var.specs.declared.var_data.VarData.{VarData}

-- The record joined, its blob was placed, and these are the parts of its table that tell so.
pub record IsJoined {KNOTS SLOTS : ℕ} (t : code.Table KNOTS SLOTS) (f new : FlashState) (first : ℕ) (plan : Plan) (table : Table) (rose : Bool) (device : Device) (item : Record) (at : Option BlobRef) (left : Option VarData) : Type 0 where
  pub now : PartProgress Table
  pub did : BySeals plan (fill_seals plan (with_record plan item table)) (with_record plan item table) rose device now
  pub whole : now.end ≡ Whole
  pub counts : SameDevice new now.device
  pub power : new.is_on ≡ true
  pub ring : Option Ring
  pub content : List ContentPage
  pub bytes : List ℕ
  pub is : after_seals plan (fill_seals plan (with_record plan item table)) (with_record plan item table) ≡ joined_to table (entry_of plan item table) ring content bytes
  pub at_is : at ≡ reference_of plan item table
  pub facts : IsPlainTable plan (joined_to table (entry_of plan item table) ring content bytes)
  pub pages : HoldsTable (page_at new) first plan (lose (joined_to table (entry_of plan item table) ring content bytes))
  pub bitmaps : bitmaps.Stand t.bitmaps new (first + plan.data_blocks) plan (joined_to table (entry_of plan item table) ring content bytes)
  pub blobs : Stand left new (first + plan.data_blocks + plan.index_blocks) plan (joined_to table (entry_of plan item table) ring content bytes)
  pub stand : KeptStand first plan table (after_seals plan (fill_seals plan (with_record plan item table)) (with_record plan item table)) (page_at f) (page_at new)

module _ {KNOTS SLOTS : ℕ} (t : code.Table KNOTS SLOTS) (f new : FlashState) (first : ℕ) (plan : Plan) (table : Table) (rose : Bool) (device : Device) (item : Record) (stands : Stands t f first plan table) (watched : IsWatched f new rose device) (ok : IsAcceptedBy plan table item.key item.values item.blob)
    (index_left : bitmaps.next_of t.bitmaps ≤ spent_from) where
  facts : IsPlainTable plan table
  facts = table-parts plan table stands.planned.log stands.facts

  content : 0 < content_per_page plan
  content = omega (arith, ap (λ g. g.page) stands.planned.geometry, t.served.page_least)

  fits : FitsPlan plan (entry_of plan item table)
  fits = entry-fits plan table item ok facts.blobs.fill (omega (arith, ap (λ g. g.page) stands.planned.geometry, t.served.page_greatest)) (omega (arith, stands.planned.limit, t.blobs_fit))

  joined : (ring : Option Ring) (pages : List ContentPage) (bytes : List ℕ) → IsBlobbed plan (joined_to table (entry_of plan item table) ring pages bytes) → IsPlainTable plan (joined_to table (entry_of plan item table) ring pages bytes)
  joined ring pages bytes blobs =
      joined-facts plan table (entry_of plan item table) ring pages bytes facts ok.room fits ok.above ok.left
      (index-number t.bitmaps f (first + plan.data_blocks) plan table (spent_from + 64) stands.planned.index facts.index stands.bitmaps (omega (arith, index_left))) blobs

  indexed : (ring : Option Ring) (pages : List ContentPage) (bytes : List ℕ) → IsPlainTable plan (joined_to table (entry_of plan item table) ring pages bytes) →
      (0 < plan.index_blocks * plan.geometry.block → (n : ℕ) → bytes_in (page_at new) first plan IndexRing n ≡ bytes_in (page_at f) first plan IndexRing n) →
      bitmaps.Stand t.bitmaps new (first + plan.data_blocks) plan (joined_to table (entry_of plan item table) ring pages bytes)
  indexed ring pages bytes known same =
      bitmaps-moved t.bitmaps f new first plan table (joined_to table (entry_of plan item table) ring pages bytes) stands.planned.index (omega (arith, ap (λ g. g.block) stands.planned.geometry, t.served.block_least))
      refl refl refl refl known same stands.bitmaps

  has : (v : VarData) (is : t.blobs ≡ Some v) → HasVar plan (with_record plan item table) (standing-in t f new first plan table rose device stands watched v is).in_pages.ring.ring
  has v is =
      let standing = standing-in t f new first plan table rose device stands watched v is in
      has-joined plan item table standing.in_pages.ring.ring content facts.blobs.fill (standing-has v f (first + plan.data_blocks + plan.index_blocks) plan table standing facts.blobs)

  pub join-done : (blobs : Option VarData) (at : Option BlobRef) (now : Option VarData) → t.blobs ≡ blobs → next_after now ≤ spent_from + 64 → StandOutside blobs (page_at f) (page_at new) →
      PlaceEndsOf blobs f (first + plan.data_blocks + plan.index_blocks) plan item table rose device (Ok at) now new → IsJoined t f new first plan table rose device item at now
  join-done None at now is left outside ends =
      let planned : ArePlanned None (first + plan.data_blocks + plan.index_blocks) plan = subst (λ (o : Option VarData). ArePlanned o (first + plan.data_blocks + plan.index_blocks) plan) is stands.planned.var in
      let no_blob : item.blob ≡ None = by_blob item.blob refl (planned-none (first + plan.data_blocks + plan.index_blocks) plan planned) in
      let same : new ≡ f = ends.2 in
      let empty : table.buffered ≡ [] = subst (λ (o : Option VarData). Stand o f (first + plan.data_blocks + plan.index_blocks) plan table) is stands.blobs in
      let none_left : (with_record plan item table).buffered ≡ [] = ap (λ (bytes : List ℕ). bytes ++ unwrap_or item.blob []) empty ∙ ap (λ (o : Option (List ℕ)). unwrap_or o []) no_blob in
      let none : fill_seals plan (with_record plan item table) ≡ [] = no-fill plan (with_record plan item table) content (omega (arith, ap length none_left)) in
      let no_var = none-var (first + plan.data_blocks + plan.index_blocks) plan table planned facts.blobs in
      let blobbed : IsBlobbed plan (joined_to table (entry_of plan item table) table.var table.var_pages (with_record plan item table).buffered) = record {
        has = facts.blobs.has;
        ring = facts.blobs.ring;
        counts = facts.blobs.counts;
        each = facts.blobs.each;
        fit = facts.blobs.fit;
        fill = omega (arith, ap length none_left);
        blobs = λ i entry blob e k some. rw no_var tt;
        stand = rw no_var tt;
        number = facts.blobs.number;
        number_pending = λ p. rw no_var tt;
      } in
      let known = joined table.var table.var_pages (with_record plan item table).buffered blobbed in
      let joins : after_seals plan (fill_seals plan (with_record plan item table)) (with_record plan item table) ≡ with_record plan item table = ap (λ (seals : List RingName). after_seals plan seals (with_record plan item table)) none in
      record {
        now = record { end = Whole; device = device; state = with_record plan item table };
        did = subst (λ (seals : List RingName). TablePerforms plan rose (seals_within plan seals (with_record plan item table)) device (with_record plan item table) (record { end = Whole; device = device; state = with_record plan item table })) (sym none) (refl, refl, refl);
        whole = refl;
        counts = subst (λ (x : FlashState). SameDevice x device) (sym same) watched.counts;
        power = ap (λ (x : FlashState). x.is_on) same ∙ watched.on;
        ring = table.var;
        content = table.var_pages;
        bytes = (with_record plan item table).buffered;
        is = joins;
        at_is = at_none ends.0 ∙ sym (none_at item.blob no_blob);
        facts = known;
        pages = subst (λ (x : Table). HoldsTable (page_at new) first plan x) (sym (joined-lost plan item table)) (subst (λ (x : FlashState). HoldsTable (page_at x) first plan (lose table)) (sym same) stands.pages);
        bitmaps = indexed table.var table.var_pages (with_record plan item table).buffered known (λ some n. ap (λ (x : FlashState). bytes_in (page_at x) first plan IndexRing n) same);
        blobs = subst (λ (o : Option VarData). Stand o new (first + plan.data_blocks + plan.index_blocks) plan (with_record plan item table)) (sym ends.1) none_left;
        stand = kept-same first plan table (after_seals plan (fill_seals plan (with_record plan item table)) (with_record plan item table)) (page_at f) (page_at new)
            (ap (λ (x : Table). x.rows) joins) (ap (λ (x : Table). x.index) joins) (ap (λ (x : Table). x.var) joins) (λ ring n. ap (λ (x : FlashState). bytes_in (page_at x) first plan ring n) same);
      }
    where
      none_at : (o : Option (List ℕ)) → o ≡ None → reference_of plan (record item { blob = o }) table ≡ None
      none_at None e = refl
      none_at (Some bytes) e = cc

      at_none : ◌≡◌ {A = Result (Option BlobRef) FlashFault} (Ok at) (Ok None) → at ≡ None
      at_none e = cc

      by_blob : (o : Option (List ℕ)) → item.blob ≡ o → has_var plan ≡ false → item.blob ≡ None
      by_blob None e k = e
      by_blob (Some bytes) e k = absurd (false≢true (sym k ∙ (ok.blob_fits bytes e).0))
  join-done (Some v) at None is left outside ends = absurd ends
  join-done (Some v) at (Some w) is left outside ends =
      let standing = standing-in t f new first plan table rose device stands watched v is in
      let h : PlaceEnds (first + plan.data_blocks + plan.index_blocks) plan item table rose device v f (Ok at) w new = ends watched standing in
      let seals = fill_seals plan (with_record plan item table) in
      let var = after-var plan seals (with_record plan item table) (fill-var plan (with_record plan item table)) in
      let low : next_in w ≤ spent_from + 64 = by_fill (length (waiting_in w) == 0) left in
      let both = var-finishes t f new first plan table rose device stands watched v w is outside seals (fill-var plan (with_record plan item table)) (with_record plan item table) (joined-lost plan item table) refl (has v is) h.1 low in
      let known = joined var.0 var.1 var.2 (subst (IsBlobbed plan) var.3 both.0) in
      record {
        now = h.1.now;
        did = h.1.did;
        whole = h.1.whole;
        counts = h.1.counts;
        power = h.1.power;
        ring = var.0;
        content = var.1;
        bytes = var.2;
        is = var.3;
        at_is = h.0;
        facts = known;
        pages = subst (λ (x : Table). HoldsTable (page_at new) first plan (lose x)) var.3 both.1;
        bitmaps = indexed var.0 var.1 var.2 known (λ some. index-before (Some v) (page_at f) (page_at new) first plan standing.planned outside some);
        blobs = subst (λ (x : Table). IsStanding w new (first + plan.data_blocks + plan.index_blocks) plan x) var.3 h.1.stands;
        stand = kept-var v w f new first plan table (after_seals plan seals (with_record plan item table)) h.1.stands.in_pages.ring.ring (ap (λ (x : Table). x.rows) var.3) (ap (λ (x : Table). x.index) var.3)
            h.1.stands.in_pages.ring.ring_is standing.planned h.1.stands.planned outside (some-rows t first plan table f stands) (some-index t first plan table f stands) h.1.stand;
      }
    where
      by_fill : (b : Bool) → cond b (next_in w) (next_in w + 1) ≤ spent_from + 64 → next_in w ≤ spent_from + 64
      by_fill true h = h
      by_fill false h = omega (arith, h)

  short : blob_len item ≤ 1500
  short = by_blob item.blob refl
    where
      by_blob : (o : Option (List ℕ)) → item.blob ≡ o → unwrap_or (option_map (λ (xs : List ℕ). length xs) o) 0 ≤ 1500
      by_blob None e = omega arith
      by_blob (Some bytes) e = omega (arith, (ok.blob_fits bytes e).1, stands.planned.limit, t.blobs_fit)

  page_size : plan.geometry.page ≤ 4096
  page_size = omega (arith, ap (λ g. g.page) stands.planned.geometry, t.served.page_greatest)

  pub join-breaks : (blobs : Option VarData) (fault : FlashFault) (now : Option VarData) → t.blobs ≡ blobs → StandOutside blobs (page_at f) (page_at new) → next_of blobs ≤ spent_from →
      PlaceEndsOf blobs f (first + plan.data_blocks + plan.index_blocks) plan item table rose device (Err fault) now new → Breaks first plan (BySeals plan (fill_seals plan (with_record plan item table)) (with_record plan item table) rose device) fault new
  join-breaks None fault now is outside few ends = absurd (no ends.0)
    where
      no : ◌≡◌ {A = Result (Option BlobRef) FlashFault} (Err fault) (Ok None) → ⊥
      no e = cc
  join-breaks (Some v) fault None is outside few ends = absurd ends
  join-breaks (Some v) fault (Some w) is outside few ends =
      var-breaks t f new first plan table rose device stands watched v is outside (fill_seals plan (with_record plan item table)) (fill-var plan (with_record plan item table)) (with_record plan item table) (joined-lost plan item table) refl (has v is)
      (omega (arith, few, fill-few plan item table, facts.blobs.fill, short, page_size)) fault (ends watched (standing-in t f new first plan table rose device stands watched v is))
