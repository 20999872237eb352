-- The facts of a table, by its parts, and what each operation of its data ring keeps of them.
use Rattle.std.proofs.Common.{◌≡◌, ℕ, ◌+◌, ◌-◌, ◌%◌, ◌<◌, ◌≤◌, ◌⊎◌, inl, inr, Bool, true, false, cond, ◌&&◌, ◌==◌, nat_lt, Option, Some, None, IfSome, List, [], ◌∷◌, ◌++◌, length, map, filter, take, drop, refl, sym, ◌∙◌, ap, subst, arith, IsTrue, append_assoc, length-append, length-drop}
use Rattle.std.proofs.Math.Nat.{mod-lt}
use Rattle.std.proofs.lemmas.Bool.{eqb-true, cases_lt, false≢true}
use Rattle.std.specs.List.{slice_get, sum, AllByRecursion}
use Rattle.fl_base.proofs.Tests.{and_false}
use Rattle.fl_model.specs.Record.{Plan, has_index, rows_per_page, entries_per_page, content_per_page}
use Rattle.fl_model.specs.Ring.{Shape, IsShape, Ring, IsRing, oldest, sealed, given_up, is_full, extended, begun, erased}
use Rattle.fl_model.specs.Agrees.{TellPages, BlobsOf, content_at, reach_of}
use Rattle.fl_model.specs.Index.{IndexEntry, IndexPage, index_entry}
use Rattle.fl_model.specs.Table.{Table, Entry, RingName, DataRing, IndexRing, VarRing, LogRing, shape_of, ring_of, with_ring, seal_page, seal_buffer, spent_from, lose, full_pages, fill, firsts, pending_entries, table_seals, after_seals, written}
use Rattle.fl_model.specs.Mount.{index_end, least_alike}
use Rattle.fl_model.specs.Facts.{IsTable, IsLogPage, IsContent, is_some_ring, counts_in}
use Rattle.fl_model.proofs.BlobsJoined.{blobs-given_up}
use Rattle.fl_model.proofs.Lists.{slice_get-drop, slice_get-front, each-at}
use Rattle.fl_model.proofs.Kept.{AreKept, kept-lose}
use Rattle.fl_model.proofs.Sealed.{sealed-next, sealed-torn, kept-sealed}
use Rattle.fl_model.proofs.RingFactsStay.{ring-sealed}
use Rattle.fl_model.proofs.EntriesStayTold.{telling-stays}
use Rattle.fl_model.proofs.FullIndex.{first-at}
use Rattle.fl_index.proofs.Lists.{below-end}
use Rattle.fl_parts.proofs.Bare.{IsBare, bare-table, bare-pages, bare-log}
use Rattle.fl_parts.proofs.BlobTables.{AreInPages, IsBlobbed, blobbed-in, blobbed-stand, facts-blobbed}
use Rattle.fl_parts.proofs.VarFacts.{blobs-as, blobs-in, front-of}
use Rattle.fl_ring.proofs.Modulo.{apart}
use Rattle.fl_parts.specs.Bitmaps.{bitmap_seals}
use Rattle.fl_parts.specs.Blobs.{rest_seals}
use Rattle.fl_ring.proofs.SamePlaces.{least_is_alike}

-- ---- the facts of a table

-- .. of its index
pub record IsIndexed (plan : Plan) (table : Table) : Type 0 where
  pub has : is_some_ring table.index ≡ has_index plan
  pub ring : IfSome table.index (IsRing (shape_of plan IndexRing))
  pub counts : AllByRecursion (λ count. (count ≡ 0) ⊎ (count ≡ entries_per_page plan)) (counts_in table.index)
  pub each : length table.index_pages ≡ full_pages (counts_in table.index)
  pub fit : AllByRecursion (λ page. length page.entries ≡ entries_per_page plan) table.index_pages
  pub firsts : (i j a b : ℕ) → i < j → slice_get (firsts table) i ≡ Some a → slice_get (firsts table) j ≡ Some b → a + entries_per_page plan ≤ b
  pub waiting : IsTrue (has_index plan) → length table.waiting ≤ entries_per_page plan
  pub listed : index_end plan table + length table.waiting ≤ table.rows.next
  pub tell : (k : ℕ) (page : IndexPage) → slice_get table.index_pages k ≡ Some page → TellPages plan table page.first page.entries
  pub wait : TellPages plan table (table.rows.next - length table.waiting) table.waiting
  pub number : IfSome table.index (λ ring. ring.next + (cond ring.torn 1 0) ≤ 4294967292)
  pub number_pending : (table.pending ≡ 0 → ⊥) → IfSome table.index (λ ring. ring.next ≤ spent_from + 64)
  pub number_listed : oldest table.rows < index_end plan table → 0 < length table.rows.counts → table.rows.next + (cond table.rows.torn 1 0) ≤ spent_from + 1

-- .. of all of it, where it has no log
pub record IsPlainTable (plan : Plan) (table : Table) : Type 0 where
  pub plain : plan.log_blocks ≡ 0
  pub bare : IsBare table
  pub rows : IsRing (shape_of plan DataRing) table.rows
  pub kept : AreKept plan table.entries table.rows.counts table.pending
  pub few_pending : table.pending ≤ rows_per_page plan
  pub index : IsIndexed plan table
  pub blobs : IsBlobbed plan table
  pub number : table.rows.next + (cond table.rows.torn 1 0) ≤ 4294967292
  pub number_pending : (table.pending ≡ 0 → ⊥) → table.rows.next ≤ spent_from

-- they are the facts of a table
pub table-parts : (plan : Plan) (table : Table) → plan.log_blocks ≡ 0 → IsTable plan table → IsPlainTable plan table
table-parts plan table plain h = record {
  plain = plain;
  bare = bare-table plan table plain h;
  rows = h.rows;
  kept = record { fit = h.fit; counted = h.counted; few_rows = h.few_rows; ascending = h.ascending };
  few_pending = h.few_pending;
  index = record {
    has = h.has_rings.0;
    ring = h.index;
    counts = h.index_counts;
    each = h.index_each;
    fit = h.index_fit;
    firsts = h.firsts;
    waiting = h.waiting;
    listed = h.listed;
    tell = h.agrees.listed;
    wait = h.agrees.waiting;
    number = h.numbers IndexRing;
    number_pending = λ p. (h.numbers_pending p).1;
    number_listed = h.numbers_listed;
  };
  blobs = facts-blobbed plan table h;
  number = h.numbers DataRing;
  number_pending = λ p. (h.numbers_pending p).0;
}

pub table-facts : (plan : Plan) (table : Table) → IsPlainTable plan table → IsTable plan table
table-facts plan table h = record {
  rows = h.rows;
  index = h.index.ring;
  var = h.blobs.ring;
  log = subst (λ (o : Option Ring). IfSome o (IsRing (shape_of plan LogRing))) (sym h.bare.0) tt;
  has_rings = (h.index.has, h.blobs.has, ap is_some_ring h.bare.0 ∙ sym (ap (nat_lt 0) h.plain));
  index_counts = h.index.counts;
  var_counts = h.blobs.counts;
  log_counts = subst (λ (o : Option Ring). AllByRecursion (λ count. count ≤ rows_per_page plan) (counts_in o)) (sym h.bare.0) tt;
  index_each = h.index.each;
  var_each = h.blobs.each;
  log_each = ap (λ (ps : List (List Entry)). map (λ (rows : List Entry). length rows) ps) (bare-pages table h.bare) ∙ sym (ap (λ (o : Option Ring). filter (nat_lt 0) (counts_in o)) h.bare.0);
  index_fit = h.index.fit;
  var_fit = h.blobs.fit;
  log_fit = subst (λ (ps : List (List Entry)). AllByRecursion (IsLogPage plan) ps) (sym (bare-pages table h.bare)) tt;
  logged_some = λ none. h.bare.1;
  logged = bare-log table h.bare;
  fit = h.kept.fit;
  counted = h.kept.counted;
  few_pending = h.few_pending;
  few_rows = h.kept.few_rows;
  ascending = h.kept.ascending;
  fill = h.blobs.fill;
  waiting = h.index.waiting;
  firsts = h.index.firsts;
  listed = h.index.listed;
  blobs = h.blobs.blobs;
  numbers = numbers;
  numbers_pending = λ p. (h.number_pending p, h.index.number_pending p, h.blobs.number_pending p);
  numbers_listed = h.index.number_listed;
  agrees = record { listed = h.index.tell; waiting = h.index.wait; blobs = h.blobs.stand };
}
  where
    numbers : (name : RingName) → IfSome (ring_of name table) (λ ring. ring.next + (cond ring.torn 1 0) ≤ 4294967292)
    numbers DataRing = h.number
    numbers IndexRing = h.index.number
    numbers VarRing = h.blobs.number
    numbers LogRing = subst (λ (o : Option Ring). IfSome o (λ ring. ring.next + (cond ring.torn 1 0) ≤ 4294967292)) (sym h.bare.0) tt

pub pages-front : (plan : Plan) (table : Table) (entries : List Entry) (n : ℕ) → AreInPages plan table entries → AreInPages plan table (take n entries)
pages-front plan table entries n h = λ i entry blob e k some. h i entry blob (slice_get-front n entries i entry e) k some

pub pages-rest : (plan : Plan) (table : Table) (entries : List Entry) (n : ℕ) → AreInPages plan table entries → AreInPages plan table (drop n entries)
pages-rest plan table entries n h = λ i entry blob e k some. h (n + i) entry blob (sym (slice_get-drop n entries i) ∙ e) k some

-- the variable data are the same where other parts of the table change
pub blobbed-moved : (plan : Plan) (table new : Table) → new.var ≡ table.var → new.var_pages ≡ table.var_pages → fill new ≤ content_per_page plan → ((new.pending ≡ 0 → ⊥) → table.pending ≡ 0 → ⊥) → AreInPages plan table (written new) → IfSome table.var (BlobsOf plan new) →
    IsBlobbed plan table → IsBlobbed plan new
blobbed-moved plan table new var var_pages few pending pages stand h = record {
  has = ap is_some_ring var ∙ h.has;
  ring = subst (λ (o : Option Ring). IfSome o (IsRing (shape_of plan VarRing))) (sym var) h.ring;
  counts = subst (λ (o : Option Ring). AllByRecursion (λ count. (count ≡ 0) ⊎ (count ≡ 1)) (counts_in o)) (sym var) h.counts;
  each = ap length var_pages ∙ (h.each ∙ ap (λ (o : Option Ring). full_pages (counts_in o)) (sym var));
  fit = subst (AllByRecursion (IsContent plan)) (sym var_pages) h.fit;
  fill = few;
  blobs = λ i entry blob e k some. subst (λ (o : Option Ring). IfSome o (λ ring. (entry.page < oldest ring) ⊎ ((oldest ring ≤ entry.page) × (slice_get ring.counts (entry.page - oldest ring) ≡ Some 1) × (entry.page + reach_of plan entry blob < ring.next)))) (sym var) (pages i entry blob e k some);
  stand = subst (λ (o : Option Ring). IfSome o (BlobsOf plan new)) (sym var) stand;
  number = subst (λ (o : Option Ring). IfSome o (λ ring. ring.next + (cond ring.torn 1 0) ≤ 4294967292)) (sym var) h.number;
  number_pending = λ p. subst (λ (o : Option Ring). IfSome o (λ ring. ring.next ≤ spent_from + 64)) (sym var) (h.number_pending (pending p));
}

pub some_map : (o : Option Ring) (P Q : Ring → Type 0) → ((ring : Ring) → P ring → Q ring) → IfSome o P → IfSome o Q
some_map None P Q f h = tt
some_map (Some ring) P Q f h = f ring h

-- blobs stand where the data ring, the points and the waiting entries are others
pub stand-as : (plan : Plan) (table new : Table) → new.entries ≡ table.entries → ((ring : Ring) (number : ℕ) → content_at plan new ring number ≡ content_at plan table ring number) → IfSome table.var (BlobsOf plan table) → IfSome table.var (BlobsOf plan new)
stand-as plan table new entries same h =
    some_map table.var (BlobsOf plan table) (BlobsOf plan new)
    (λ ring blobs. blobs-as plan table new ring ring (λ i entry e. (i, ap (λ (es : List Entry). slice_get es i) (sym entries) ∙ e)) (λ page. refl) (same ring) blobs) h

-- .. where a data page is sealed or voided
pub stand_given : (plan : Plan) (table new : Table) (count : ℕ) → new.entries ≡ table.entries → ((ring : Ring) (number : ℕ) → content_at plan new ring number ≡ content_at plan table ring number) → IfSome table.var (BlobsOf plan table) → IfSome table.var (BlobsOf plan (seal_page plan DataRing count new))
stand_given plan table new count entries same h =
    some_map table.var (BlobsOf plan new) (BlobsOf plan (seal_page plan DataRing count new)) (λ ring blobs. blobs-given_up plan new ring count blobs) (stand-as plan table new entries same h)

-- .. and where the pending ones are lost
stand_lost : (plan : Plan) (table : Table) → IsBlobbed plan table → IfSome table.var (BlobsOf plan (lose table))
stand_lost plan table h = by_ring table.var refl
  where
    by_ring : (o : Option Ring) → table.var ≡ o → IfSome o (BlobsOf plan (lose table))
    by_ring None e = tt
    by_ring (Some ring) e = blobs-in plan table (lose table) ring (front-of (length table.entries - table.pending) table.entries) refl (blobbed-in plan table ring (written table) e h.blobs) (blobbed-stand plan table ring e h)

-- no entry tells nothing
pub tell-none : (plan : Plan) (table : Table) (first : ℕ) (entries : List IndexEntry) → entries ≡ [] → TellPages plan table first entries
tell-none plan table first entries none = λ j n lt e. absurd (omega (arith, lt, ap length none))

-- the data pages that an index page lists end before the next one
pub listed-below : (plan : Plan) (table : Table) → IsIndexed plan table → (k : ℕ) (page : IndexPage) → slice_get table.index_pages k ≡ Some page → page.first + length page.entries ≤ table.rows.next
listed-below plan table h k page e =
    let below = below-end (entries_per_page plan) (firsts table) k page.first h.firsts (first-at table.index_pages k page e) in
    let long = each-at (λ (p : IndexPage). length p.entries ≡ entries_per_page plan) table.index_pages k page h.fit e in
    omega (arith, below, long, h.listed)

-- the index is the same where other parts of the table change
pub indexed-as : (plan : Plan) (table : Table) (entries : List Entry) (rows : Ring) (pending : ℕ) (buffered : List ℕ) (waiting : List IndexEntry) (points : List (ℕ × ℕ)) → IsIndexed plan table →
    (IsTrue (has_index plan) → length waiting ≤ entries_per_page plan) → index_end plan table + length waiting ≤ rows.next → ((pending ≡ 0 → ⊥) → table.pending ≡ 0 → ⊥) →
    (oldest rows < index_end plan table → 0 < length rows.counts → rows.next + (cond rows.torn 1 0) ≤ spent_from + 1) →
    ((k : ℕ) (page : IndexPage) → slice_get table.index_pages k ≡ Some page → TellPages plan (record table { entries = entries; rows = rows; pending = pending; buffered = buffered; waiting = waiting; points = points }) page.first page.entries) →
    TellPages plan (record table { entries = entries; rows = rows; pending = pending; buffered = buffered; waiting = waiting; points = points }) (rows.next - length waiting) waiting →
    IsIndexed plan (record table { entries = entries; rows = rows; pending = pending; buffered = buffered; waiting = waiting; points = points })
indexed-as plan table entries rows pending buffered waiting points h few listed some numbers tell wait = record {
  has = h.has;
  ring = h.ring;
  counts = h.counts;
  each = h.each;
  fit = h.fit;
  firsts = h.firsts;
  waiting = few;
  listed = listed;
  tell = tell;
  wait = wait;
  number = h.number;
  number_pending = λ p. h.number_pending (some p);
  number_listed = numbers;
}

-- the body of a data page is begun
pub plain-body : (plan : Plan) (table : Table) → IsPlainTable plan table → (table.pending ≡ 0 → ⊥) → table.rows.dirty ≡ false → IsPlainTable plan (with_ring DataRing begun table)
plain-body plan table h some clean = record {
  plain = h.plain;
  bare = h.bare;
  rows = record {
    not_negative = h.rows.not_negative;
    whole_blocks = h.rows.whole_blocks;
    whole_rounds = h.rows.whole_rounds;
    kept = h.rows.kept;
    kept_at_end = h.rows.kept_at_end;
    dirty_at_end = h.rows.dirty_at_end;
    not_both = λ both. not_dirty table.rows.dirty clean both;
  };
  kept = h.kept;
  few_pending = h.few_pending;
  index = indexed-as plan table table.entries (begun table.rows) table.pending table.buffered table.waiting table.points h.index h.index.waiting h.index.listed (λ p. p)
      (λ lt more. let few : table.rows.next ≤ spent_from = h.number_pending some in omega (arith, few)) h.index.tell h.index.wait;
  blobs = blobbed-moved plan table (with_ring DataRing begun table) refl refl h.blobs.fill (λ p. p) h.blobs.blobs (stand-as plan table (with_ring DataRing begun table) refl (λ ring number. refl) h.blobs.stand) h.blobs;
  number = let few : table.rows.next ≤ spent_from = h.number_pending some in omega (arith, few);
  number_pending = h.number_pending;
}
  where
    not_dirty : (d : Bool) → d ≡ false → IsTrue (true && d) → ⊥
    not_dirty d e t = false≢true (sym e ∙ t)

-- the block ahead is erased
pub plain-erase : (plan : Plan) (table : Table) → IsPlainTable plan table → IsPlainTable plan (with_ring DataRing erased table)
plain-erase plan table h = record {
  plain = h.plain;
  bare = h.bare;
  rows = record {
    not_negative = h.rows.not_negative;
    whole_blocks = h.rows.whole_blocks;
    whole_rounds = h.rows.whole_rounds;
    kept = h.rows.kept;
    kept_at_end = h.rows.kept_at_end;
    dirty_at_end = λ d. absurd (false≢true d);
    not_both = λ both. and_false table.rows.torn both;
  };
  kept = h.kept;
  few_pending = h.few_pending;
  index = indexed-as plan table table.entries (erased table.rows) table.pending table.buffered table.waiting table.points h.index h.index.waiting h.index.listed (λ p. p) h.index.number_listed h.index.tell h.index.wait;
  blobs = blobbed-moved plan table (with_ring DataRing erased table) refl refl h.blobs.fill (λ p. p) h.blobs.blobs (stand-as plan table (with_ring DataRing erased table) refl (λ ring number. refl) h.blobs.stand) h.blobs;
  number = h.number;
  number_pending = h.number_pending;
}

-- the oldest page that is kept after a seal isn't older
pub sealed-oldest : (shape : Shape) (count : ℕ) (ring : Ring) → length ring.counts ≤ ring.next → oldest ring ≤ oldest (sealed shape count ring)
sealed-oldest shape count ring le = by_test (is_full shape (extended count ring))
  where
    more : length (ring.counts ++ count ∷ []) ≡ length ring.counts + 1
    more = length-append ring.counts (count ∷ [])

    by_test : (t : Bool) → oldest ring ≤ oldest (cond t (record (extended count ring) { counts = drop shape.pages (ring.counts ++ count ∷ []); dirty = true }) (extended count ring))
    by_test true = omega (arith, more, length-drop shape.pages (ring.counts ++ count ∷ []), le)
    by_test false = omega (arith, more, le)

-- one more entry waits, where there is an index
pub one-waits : (b : Bool) (waiting : List IndexEntry) (last : IndexEntry) → length (cond b (waiting ++ last ∷ []) []) ≤ length waiting + 1
one-waits true waiting last = omega (arith, length-append waiting (last ∷ []))
one-waits false waiting last = omega arith

waits_few : (b : Bool) (waiting : List IndexEntry) (last : IndexEntry) (most : ℕ) → (IsTrue b → length waiting < most) → IsTrue b → length (cond b (waiting ++ last ∷ []) []) ≤ most
waits_few true waiting last most h t = let k = h refl in omega (arith, k, length-append waiting (last ∷ []))
waits_few false waiting last most h t = omega arith

-- a table before the page of its pending records is sealed
abbrev before_mark : Plan → Table → Table
before_mark plan table = record table {
  pending = 0;
  waiting = (seal_buffer plan DataRing table).waiting;
  points = (seal_buffer plan DataRing table).points;
}

-- the pending rows are sealed
pub plain-mark : (plan : Plan) (table : Table) → IsShape (shape_of plan DataRing) → IsPlainTable plan table → (IsTrue (has_index plan) → length table.waiting < entries_per_page plan) → (table.pending ≡ 0 → ⊥) → table.rows.dirty ≡ false →
    AreInPages plan table table.entries → IsPlainTable plan (seal_buffer plan DataRing table)
plain-mark plan table shape h room some clean settled =
    let ring = sealed (shape_of plan DataRing) table.pending table.rows in
    let after = seal_buffer plan DataRing table in
    let next : ring.next ≡ table.rows.next + 1 = sealed-next (shape_of plan DataRing) table.pending table.rows in
    let torn = sealed-torn (shape_of plan DataRing) table.pending table.rows in
    let few : table.rows.next ≤ spent_from = h.number_pending some in
    let one = one-waits (has_index plan) table.waiting (index_entry plan (pending_entries table)) in
    record {
      plain = h.plain;
      bare = h.bare;
      rows = ring-sealed (shape_of plan DataRing) table.pending table.rows shape h.rows clean;
      kept = kept-sealed plan (shape_of plan DataRing) table.pending table.rows table.entries h.kept h.few_pending;
      few_pending = omega arith;
      index = indexed-as plan table after.entries ring 0 table.buffered after.waiting after.points h.index (waits_few (has_index plan) table.waiting (index_entry plan (pending_entries table)) (entries_per_page plan) room)
          (omega (arith, h.index.listed, next, one)) (λ p. absurd (p refl)) (λ lt kept. rw (torn, next) (omega (arith, few))) tell (wait (has_index plan) refl);
      blobs = blobbed-moved plan table after refl refl h.blobs.fill (λ none. absurd (none refl)) (pages-front plan table after.entries (length after.entries - 0) (pages-rest plan table table.entries (sum (given_up (shape_of plan DataRing) table.pending table.rows)) settled))
          (stand_given plan table (before_mark plan table) table.pending refl (λ ring number. refl) h.blobs.stand) h.blobs;
      number = rw (torn, next) (omega (arith, few));
      number_pending = λ none. absurd (none refl);
    }
  where
    tell : (k : ℕ) (page : IndexPage) → slice_get table.index_pages k ≡ Some page → TellPages plan (seal_buffer plan DataRing table) page.first page.entries
    tell k page e = telling-stays.sealed plan (before_mark plan table) table.pending page.first page.entries h.rows.not_negative (listed-below plan table h.index k page e) (h.index.tell k page e)

    wait : (b : Bool) → has_index plan ≡ b → TellPages plan (seal_buffer plan DataRing table) ((seal_buffer plan DataRing table).rows.next - length (seal_buffer plan DataRing table).waiting) (seal_buffer plan DataRing table).waiting
    wait true e = telling-stays.marked plan table (table-facts plan table h) e
    wait false e = tell-none plan (seal_buffer plan DataRing table) ((seal_buffer plan DataRing table).rows.next - length (seal_buffer plan DataRing table).waiting) (seal_buffer plan DataRing table).waiting
        (ap (λ (t : Bool). cond t (table.waiting ++ index_entry plan (pending_entries table) ∷ []) []) e)

-- what is in memory alone is lost
pub plain-lose : (plan : Plan) (table : Table) → IsPlainTable plan table → IsPlainTable plan (lose table)
plain-lose plan table h = record {
  plain = h.plain;
  bare = h.bare;
  rows = h.rows;
  kept = kept-lose plan table.entries table.rows.counts table.pending h.kept;
  few_pending = omega arith;
  index = indexed-as plan table (lose table).entries table.rows 0 [] [] [] h.index (λ t. omega arith) (omega (arith, h.index.listed)) (λ p. absurd (p refl)) h.index.number_listed
      (λ k page e. telling-stays.lost plan table page.first page.entries h.kept.counted (h.index.tell k page e)) (tell-none plan (lose table) (table.rows.next - 0) [] refl);
  blobs = blobbed-moved plan table (lose table) refl refl (omega arith) (λ p. absurd (p refl)) (pages-front plan table (lose table).entries (length (lose table).entries - 0) h.blobs.blobs) (stand_lost plan table h.blobs) h.blobs;
  number = h.number;
  number_pending = λ some. absurd (some refl);
}

-- the seals of a table with pending rows
pub some-table_seals : (plan : Plan) (table : Table) → (table.pending ≡ 0 → ⊥) → table_seals plan table ≡ bitmap_seals plan table ++ (rest_seals (after_seals plan (bitmap_seals plan table) table) ++ DataRing ∷ [])
some-table_seals plan table some =
    by_test (table.pending == 0) refl
    ∙ (ap (λ n. bitmap_seals plan table ++ (cond (nat_lt 0 n) (VarRing ∷ []) []) ++ DataRing ∷ []) (same_fill (has_index plan && (length table.waiting == entries_per_page plan)))
    ∙ append_assoc (bitmap_seals plan table) (rest_seals (after_seals plan (bitmap_seals plan table) table)) (DataRing ∷ []))
  where
    same_fill : (b : Bool) → fill table ≡ fill (after_seals plan (cond b (IndexRing ∷ []) []) table)
    same_fill true = refl
    same_fill false = refl

    by_test : (t : Bool) → (table.pending == 0) ≡ t → cond t [] ((cond (has_index plan && (length table.waiting == entries_per_page plan)) (IndexRing ∷ []) []) ++ (cond (nat_lt 0 (fill table)) (VarRing ∷ []) []) ++ DataRing ∷ [])
        ≡ (cond (has_index plan && (length table.waiting == entries_per_page plan)) (IndexRing ∷ []) []) ++ (cond (nat_lt 0 (fill table)) (VarRing ∷ []) []) ++ DataRing ∷ []
    by_test true e = absurd (some (eqb-true table.pending 0 e))
    by_test false e = refl

-- the least number that is alike isn't above one that is alike and no less
pub least-below : (room next least : ℕ) → 0 < room → least ≤ next → least_alike room next least ≤ next
least-below room next least some low = by_order (cases_lt next (least_alike room next least))
  where
    small : (next % room + room - least % room) % room < room
    small = mod-lt (next % room + room - least % room) some

    by_order : (next < least_alike room next least) ⊎ (least_alike room next least ≤ next) → least_alike room next least ≤ next
    by_order (inl lt) = absurd (apart room next (least_alike room next least) lt (omega (arith, small, low)) (sym (least_is_alike room next least some)))
    by_order (inr le) = le
