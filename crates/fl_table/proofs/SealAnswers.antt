-- What a table that is sealed tells of its ring.
use Rattle.std.proofs.Common.{◌≡◌, ℕ, ◌+◌, ◌-◌, ◌*◌, ◌%◌, ◌≤◌, Option, Some, None, List, ◌++◌, map, length, take, drop, set, refl, sym, ◌∙◌, ap, subst, arith, IsTrue, length-drop}
use Rattle.std.proofs.lemmas.List.{length-map, take-append-le, take_all}
use Rattle.std.specs.List.{sum}
use Rattle.std.proofs.lemmas.Bool.{false≢true}
use Rattle.std.proofs.lemmas.Option.{same_Some}
use Rattle.fl_flash.specs.Flash.{FlashState, page_at}
use Rattle.fl_flash.specs.Places.{extent}
use Rattle.fl_model.specs.Record.{Plan, RowLayout, row_layout, has_index}
use Rattle.fl_model.specs.Ring as model
use Rattle.fl_model.specs.Row.{Row, stored_row}
use Rattle.fl_model.specs.Layout.{data_body, rows_body, bitmap_of}
use Rattle.fl_model.specs.Table.{Table, DataRing, shape_of, pending_entries, lose}
use Rattle.fl_bitmap.specs.Bucket.{HasBuckets}
use Rattle.fl_parts.specs.Blobs.{AreEmpty}
use Rattle.fl_parts.proofs.Plain.{table-parts}
use Rattle.fl_parts.proofs.BlobsOfTable as blobbing
use Rattle.fl_parts.proofs.BlobsOnPages.{settled-pages}
use Rattle.fl_parts.proofs.IndexOfTable.{still-planned, plan-same, plan-then, planned-none, room-left}
use Rattle.fl_index.specs.declared.index.BitmapIndex.{BitmapIndex}
use Rattle.fl_parts.specs.Bitmaps.{ArePlanned, HaveRoom}
use Rattle.fl_page.specs.Writer.{Gathers}
use Rattle.fl_ring.specs.Mounting.{shape_at}
use Rattle.fl_ring.specs.Place as place
use Rattle.fl_ring.specs.Ring.{Shape, OnRing}
use Rattle.fl_ring.specs.Sealing.{IsReady}
use Rattle.fl_ring.specs.declared.ring.Ring.{Ring}
use Rattle.fl_schema.specs.Schema.{layout_of}
use Rattle.fl_table.specs.Memory.{IsPlanned, IsSamePlan}
use Rattle.fl_table.specs.Standing.{Stands}
use Rattle.fl_table.specs.declared.table.Table as code
use Rattle.fl_parts.proofs.TablePages.{plain-on, have-size}
use Rattle.fl_parts.proofs.SealEnds.{IsSealing}
use Rattle.fl_parts.proofs.States.{shape_in, state_of, state-oldest, HaveSize}

pub planned-shape : {KNOTS SLOTS : ℕ} (t : code.Table KNOTS SLOTS) (first : ℕ) (plan : Plan) → IsPlanned t first plan → model.IsShape (shape_of plan DataRing)
planned-shape t first plan h = record {
  blocks = omega (arith, h.blocks, t.some_blocks);
  pages = omega (arith, ap (λ g. g.block) h.geometry, t.served.block_least);
}

-- it has no log
pub planned-plain : {KNOTS SLOTS : ℕ} (t : code.Table KNOTS SLOTS) (first : ℕ) (plan : Plan) → IsPlanned t first plan → plan.log_blocks ≡ 0
planned-plain t first plan h = h.log

pub planned-few : {KNOTS SLOTS : ℕ} (t : code.Table KNOTS SLOTS) (first : ℕ) (plan : Plan) → IsPlanned t first plan → IsTrue (has_index plan) → plan.data_blocks * plan.geometry.block + 6 ≤ 65536
planned-few t first plan h some = by_index t.bitmaps refl h.index
  where
    by_index : (o : Option BitmapIndex) → t.bitmaps ≡ o → ArePlanned o (first + plan.data_blocks) plan → plan.data_blocks * plan.geometry.block + 6 ≤ 65536
    by_index None e planned = absurd (false≢true (sym (planned-none (first + plan.data_blocks) plan planned) ∙ some))
    by_index (Some index) e planned = let few = t.few_pages index e in rw (h.blocks, h.geometry) few

pub planned-ring : {KNOTS SLOTS : ℕ} (t : code.Table KNOTS SLOTS) (first : ℕ) (plan : Plan) → IsPlanned t first plan → shape_at t.place t.geometry ≡ shape_in first plan
planned-ring t first plan h = rw (h.begins, h.geometry, h.blocks) refl

pub planned-large : {KNOTS SLOTS : ℕ} (t : code.Table KNOTS SLOTS) (first : ℕ) (plan : Plan) → IsPlanned t first plan → 64 ≤ plan.geometry.page
planned-large t first plan h = omega (arith, ap (λ g. g.page) h.geometry, t.served.page_least)

pub planned-same : {KNOTS SLOTS : ℕ} (old new : code.Table KNOTS SLOTS) (first : ℕ) (plan : Plan) → IsPlanned old first plan → IsSamePlan old new → IsPlanned new first plan
planned-same old new first plan h same = record {
  geometry = h.geometry ∙ sym same.geometry;
  layout = h.layout ∙ sym same.layout;
  begins = ap (λ p. p.first_block) same.place ∙ h.begins;
  blocks = h.blocks ∙ sym (ap (λ p. p.blocks) same.place);
  index = still-planned old.bitmaps new.bitmaps (first + plan.data_blocks) plan h.index same.bitmaps;
  var = blobbing.still-planned old.blobs new.blobs (first + plan.data_blocks + plan.index_blocks) plan h.var same.blobs;
  limit = h.limit ∙ sym same.limit;
  buckets = subst (HasBuckets plan) (sym same.buckets) h.buckets;
  error = h.error ∙ sym same.error;
  log = h.log;
}

pub plan-self : {KNOTS SLOTS : ℕ} (t : code.Table KNOTS SLOTS) → IsSamePlan t t
plan-self t = record { geometry = refl; layout = refl; place = refl; buckets = refl; error = refl; bitmaps = plan-same t.bitmaps; blobs = blobbing.plan-same t.blobs; limit = refl }

pub same-then : {KNOTS SLOTS : ℕ} (t u v : code.Table KNOTS SLOTS) → IsSamePlan t u → IsSamePlan u v → IsSamePlan t v
same-then t u v h k = record {
  geometry = k.geometry ∙ h.geometry;
  layout = k.layout ∙ h.layout;
  place = k.place ∙ h.place;
  buckets = k.buckets ∙ h.buckets;
  error = k.error ∙ h.error;
  bitmaps = plan-then t.bitmaps u.bitmaps v.bitmaps h.bitmaps k.bitmaps;
  blobs = blobbing.plan-then t.blobs u.blobs v.blobs h.blobs k.blobs;
  limit = k.limit ∙ h.limit;
}

pub counts-room : {KNOTS SLOTS : ℕ} (t : code.Table KNOTS SLOTS) (first : ℕ) (plan : Plan) → IsPlanned t first plan → length t.counts.items ≡ plan.data_blocks * plan.geometry.block
counts-room t first plan h = sym t.counts.ok.0 ∙ (t.counted ∙ rw (h.blocks, h.geometry) refl)

-- what was written to a whole list stands in its place
pub written-back : (xs new : List ℕ) (n : ℕ) → length new ≡ length xs → n ≡ length xs → take n (new ++ drop (length new) xs) ≡ new
written-back xs new n same len =
    take-append-le n new (drop (length new) xs) (omega (arith, same, len)) ∙ take_all n new (omega (arith, same, len))

-- the count of a page is noted at its place
pub note-same : (xs counts : List ℕ) (number next rows pending room : ℕ) → xs ≡ counts → number ≡ next → rows ≡ pending → length counts ≡ room →
    set xs (number % length xs) rows ≡ set counts (next % room) pending
note-same xs counts number next rows pending room e n r l =
    ap (λ (ys : List ℕ). set ys (number % length ys) rows) e
    ∙ (ap (λ k. set counts (k % length counts) rows) n ∙ (ap (λ k. set counts (next % k) rows) l ∙ ap (set counts (next % room)) r))

-- the pages of a flash on which it lies
pub lies-size : {KNOTS SLOTS : ℕ} (t : code.Table KNOTS SLOTS) (f : FlashState) (first : ℕ) (plan : Plan) → IsPlanned t first plan → f.geometry ≡ t.geometry → t.place.first_block + t.place.blocks ≤ f.blocks → f.start + extent f.geometry f.blocks ≤ length f.media.content →
    HaveSize first plan (page_at f)
lies-size t f first plan h geometry within reaches =
    have-size f first plan reaches (geometry ∙ sym h.geometry) (omega (arith, h.begins, h.blocks, within)) (omega (arith, h.blocks, t.some_blocks)) (omega (arith, ap (λ g. g.block) h.geometry, t.served.block_least))

-- the rows in the writer are the pending ones
pub pending-length : (plan : Plan) (table : Table) → sum table.rows.counts + table.pending ≡ length table.entries → length (pending_entries table) ≡ table.pending
pending-length plan table counted = omega (arith, length-drop (length table.entries - table.pending) table.entries, counted)

pub writer-count : {KNOTS SLOTS : ℕ} (t : code.Table KNOTS SLOTS) (f : FlashState) (first : ℕ) (plan : Plan) (table : Table) → Stands t f first plan table → t.writer.count ≡ table.pending
writer-count t f first plan table s =
    let facts = table-parts plan table s.planned.log s.facts in
    s.memory.gathers.count ∙ (length-map (pending_entries table) stored_row ∙ pending-length plan table facts.kept.counted)

-- the body that they make
pub sealing-of : {KNOTS SLOTS : ℕ} (t : code.Table KNOTS SLOTS) (f : FlashState) (first : ℕ) (plan : Plan) (table : Table) (bytes : List ℕ) → Stands t f first plan table → 1 ≤ t.writer.count → HaveRoom t.bitmaps → AreEmpty t.blobs →
    ((layout : RowLayout) (rows : List Row) → Gathers layout rows t.writer → bytes ≡ rows_body (length t.writer.body) layout table.rows.next t.bitmap rows) → IsSealing (page_at f) first plan table bytes
sealing-of t f first plan table bytes s some room empty body =
    let facts = table-parts plan table s.planned.log s.facts in
    let count = writer-count t f first plan table s in
    record {
      shape = planned-shape t first plan s.planned;
      large = planned-large t first plan s.planned;
      facts = facts;
      makes = record {
        some = λ none. absurd (omega (arith, none, count, some));
        body_is = body (layout_of t.schema) (map stored_row (pending_entries table)) s.memory.gathers ∙ same (omega (arith, t.page, ap (λ g. g.page) s.planned.geometry)) (sym s.planned.layout) s.memory.bitmap;
        clean = s.clean;
        room = room-left t.bitmaps f (first + plan.data_blocks) plan table s.planned.index s.bitmaps room;
        settled = settled-pages t.blobs f first plan table s.planned.var facts.blobs s.blobs empty;
      };
      others = (s.pages.index, s.pages.var);
    }
  where
    same : length t.writer.body ≡ plan.geometry.page - 8 → layout_of t.schema ≡ row_layout plan → t.bitmap ≡ bitmap_of plan (pending_entries table) →
        rows_body (length t.writer.body) (layout_of t.schema) table.rows.next t.bitmap (map stored_row (pending_entries table)) ≡ data_body plan table.rows.next (pending_entries table)
    same size layout bits =
        ap (λ n. rows_body n (layout_of t.schema) table.rows.next t.bitmap (map stored_row (pending_entries table))) size
        ∙ (ap (λ (l : RowLayout). rows_body (plan.geometry.page - 8) l table.rows.next t.bitmap (map stored_row (pending_entries table))) layout
        ∙ ap (λ n. rows_body (plan.geometry.page - 8) (row_layout plan) table.rows.next n (map stored_row (pending_entries table))) bits)

pub ring-next : {KNOTS SLOTS : ℕ} (t : code.Table KNOTS SLOTS) (f : FlashState) (first : ℕ) (plan : Plan) (table : Table) (ring : Ring) → Stands t f first plan table → t.ring ≡ Some ring → place.next_of ring ≡ table.rows.next
ring-next t f first plan table ring s is = subst (λ (r : Ring). r.next ≡ table.rows.next) (same_Some _ _ (sym s.memory.ring_is ∙ is)) s.memory.next

-- the ring is ready for a seal
pub seal-ready : {KNOTS SLOTS : ℕ} (t : code.Table KNOTS SLOTS) (f : FlashState) (first : ℕ) (plan : Plan) (table : Table) (ring : Ring) → Stands t f first plan table → t.ring ≡ Some ring → place.shape_of ring ≡ shape_in first plan → HaveSize first plan (page_at f) →
    IsReady ring f (state_of plan (lose table))
seal-ready t f first plan table ring s is shape sizes =
    let facts = table-parts plan table s.planned.log s.facts in
    let same : s.memory.ring ≡ ring = same_Some _ _ (sym s.memory.ring_is ∙ is) in
    let on = plain-on (page_at f) first plan (lose table) sizes (planned-large t first plan s.planned) facts.rows s.pages in
    record {
      stands = record {
        next = subst (λ (r : Ring). r.next ≡ table.rows.next) same s.memory.next;
        oldest = subst (λ (r : Ring). r.oldest ≡ model.oldest table.rows) same s.memory.oldest ∙ sym (state-oldest plan (lose table));
      };
      on = subst (λ (r : Shape). OnRing r (page_at f) (state_of plan (lose table))) (sym shape) on;
      whole = s.whole;
      clean = s.clean;
    }
