-- The facts of a table on which its mount rests, by its parts: less than each run keeps, since page numbers need only fit, and a blob may
-- begin on a void page.
use Rattle.std.proofs.Common.{◌≡◌, ℕ, ◌+◌, ◌-◌, ◌<◌, ◌≤◌, ◌⊎◌, true, false, cond, Option, Some, None, IfSome, List, [], length, take, refl, sym, ◌∙◌, ap, subst, arith, IsTrue}
use Rattle.std.proofs.lemmas.List.{nil_from_length}
use Rattle.std.specs.List.{slice_get, AllByRecursion}
use Rattle.std.proofs.lemmas.Bool.{true≢false}
use Rattle.fl_flash.specs.Flash.{FlashState}
use Rattle.fl_index.specs.Standing.{HasIndex}
use Rattle.fl_index.proofs.Lists.{below-end}
use Rattle.fl_model.specs.Agrees.{TellPages, BlobsOf}
use Rattle.fl_model.specs.Content.{ContentPage}
use Rattle.fl_model.specs.Facts.{IsSettled, is_some_ring, counts_in}
use Rattle.fl_model.specs.Index.{IndexEntry, IndexPage}
use Rattle.fl_model.specs.Mount.{blob_end, index_end, ready}
use Rattle.fl_model.specs.Record.{Plan, has_index, rows_per_page, entries_per_page}
use Rattle.fl_model.specs.Ring.{Ring, IsRing, oldest}
use Rattle.fl_model.specs.Table.{Table, Entry, RingName, DataRing, IndexRing, VarRing, LogRing, shape_of, ring_of, spent_from, full_pages, firsts, written}
use Rattle.fl_model.proofs.Kept.{AreKept}
use Rattle.fl_model.proofs.Lists.{each-at}
use Rattle.fl_model.proofs.TableSeals.{all-written}
use Rattle.fl_model.proofs.FullIndex.{first-at}
use Rattle.fl_parts.specs.Blobs.{AreIn, AreLed}
use Rattle.fl_parts.specs.Mountable.{AreVoid, IsPaged, IsMountable}
use Rattle.fl_parts.specs.Pages.{Rests, RestsToMount}
use Rattle.fl_parts.proofs.Bare.{IsBare}
use Rattle.fl_parts.proofs.BlobTables.{AreInPages, IsLed, blobbed-in, blobbed-led, facts-blobbed}
use Rattle.fl_parts.proofs.Plain.{IsPlainTable, some_map, stand-as, table-parts, tell-none}
use Rattle.fl_parts.proofs.Renumbered.{held-old}
use Rattle.fl_parts.proofs.VarFacts.{led-some}

-- ---- the facts

-- .. of its index
pub record IsListed (plan : Plan) (table : Table) : Type 0 where
  pub has : is_some_ring table.index ≡ has_index plan
  pub ring : IfSome table.index (IsRing (shape_of plan IndexRing))
  pub counts : AllByRecursion (λ count. (count ≡ 0) ⊎ (count ≡ entries_per_page plan)) (counts_in table.index)
  pub each : length table.index_pages ≡ full_pages (counts_in table.index)
  pub fit : AllByRecursion (λ page. length page.entries ≡ entries_per_page plan) table.index_pages
  pub firsts : (i j a b : ℕ) → i < j → slice_get (firsts table) i ≡ Some a → slice_get (firsts table) j ≡ Some b → a + entries_per_page plan ≤ b
  pub listed : index_end plan table + length table.waiting ≤ table.rows.next
  pub tell : (k : ℕ) (page : IndexPage) → slice_get table.index_pages k ≡ Some page → TellPages plan table page.first page.entries
  pub wait : TellPages plan table (table.rows.next - length table.waiting) table.waiting
  pub number : IfSome table.index (λ ring. ring.next + (cond ring.torn 1 0) ≤ 4294967295)

-- .. of all of it, where it has no log
pub record IsLoose (plan : Plan) (table : Table) : Type 0 where
  pub plain : plan.log_blocks ≡ 0
  pub bare : IsBare table
  pub rows : IsRing (shape_of plan DataRing) table.rows
  pub kept : AreKept plan table.entries table.rows.counts table.pending
  pub index : IsListed plan table
  pub blobs : IsLed plan table
  pub number : table.rows.next + (cond table.rows.torn 1 0) ≤ 4294967295

-- .. and what each run keeps beyond that
pub record IsStrict (plan : Plan) (table : Table) : Type 0 where
  pub few_pending : table.pending ≤ rows_per_page plan
  pub waiting : IsTrue (has_index plan) → length table.waiting ≤ entries_per_page plan
  pub number : table.rows.next + (cond table.rows.torn 1 0) ≤ 4294967292
  pub number_pending : (table.pending ≡ 0 → ⊥) → table.rows.next ≤ spent_from
  pub index : IfSome table.index (λ ring. ring.next + (cond ring.torn 1 0) ≤ 4294967292)
  pub index_pending : (table.pending ≡ 0 → ⊥) → IfSome table.index (λ ring. ring.next ≤ spent_from + 64)
  pub listed : oldest table.rows < index_end plan table → 0 < length table.rows.counts → table.rows.next + (cond table.rows.torn 1 0) ≤ spent_from + 1
  pub blobs : AreInPages plan table (written table)
  pub var : IfSome table.var (λ ring. ring.next + (cond ring.torn 1 0) ≤ 4294967292)
  pub var_pending : (table.pending ≡ 0 → ⊥) → IfSome table.var (λ ring. ring.next ≤ spent_from + 64)

pub plain-from : (plan : Plan) (table : Table) → IsLoose plan table → IsStrict plan table → IsPlainTable plan table
plain-from plan table h s = record {
  plain = h.plain;
  bare = h.bare;
  rows = h.rows;
  kept = h.kept;
  few_pending = s.few_pending;
  index = record {
    has = h.index.has;
    ring = h.index.ring;
    counts = h.index.counts;
    each = h.index.each;
    fit = h.index.fit;
    firsts = h.index.firsts;
    waiting = s.waiting;
    listed = h.index.listed;
    tell = h.index.tell;
    wait = h.index.wait;
    number = s.index;
    number_pending = s.index_pending;
    number_listed = s.listed;
  };
  blobs = record {
    has = h.blobs.has;
    ring = h.blobs.ring;
    counts = h.blobs.counts;
    each = h.blobs.each;
    fit = h.blobs.fit;
    fill = h.blobs.fill;
    blobs = s.blobs;
    stand = h.blobs.stand;
    number = s.var;
    number_pending = s.var_pending;
  };
  number = s.number;
  number_pending = s.number_pending;
}

at-most : (o : Option Ring) → IfSome o (λ ring. ring.next + (cond ring.torn 1 0) ≤ 4294967292) → IfSome o (λ ring. ring.next + (cond ring.torn 1 0) ≤ 4294967295)
at-most None le = tt
at-most (Some ring) le = omega (arith, le)

pub loose-of : (plan : Plan) (table : Table) → IsPlainTable plan table → IsLoose plan table
loose-of plan table h = record {
  plain = h.plain;
  bare = h.bare;
  rows = h.rows;
  kept = h.kept;
  index = record {
    has = h.index.has;
    ring = h.index.ring;
    counts = h.index.counts;
    each = h.index.each;
    fit = h.index.fit;
    firsts = h.index.firsts;
    listed = h.index.listed;
    tell = h.index.tell;
    wait = h.index.wait;
    number = at-most table.index h.index.number;
  };
  blobs = blobbed-led plan table h.blobs;
  number = omega (arith, h.number);
}

-- ---- a table of which nothing is in memory

pub paged-loose : (plan : Plan) (table : Table) → plan.log_blocks ≡ 0 → table.pending ≡ 0 → table.buffered ≡ [] → table.waiting ≡ [] → IsPaged plan table → IsLoose plan table
paged-loose plan table plain none empty idle h = record {
  plain = plain;
  bare = h.unlogged;
  rows = h.rows;
  kept = record { fit = h.fit; counted = omega (arith, h.counted, none); few_rows = h.few_rows; ascending = h.ascending };
  index = record {
    has = h.has_rings.0;
    ring = h.index;
    counts = h.index_counts;
    each = h.index_each;
    fit = h.index_fit;
    firsts = h.firsts;
    listed = omega (arith, h.listed, ap length idle);
    tell = h.tell;
    wait = tell-none plan table (table.rows.next - length table.waiting) table.waiting idle;
    number = h.numbers IndexRing;
  };
  blobs = record {
    has = h.has_rings.1;
    ring = h.var;
    counts = h.var_counts;
    each = h.var_each;
    fit = h.var_fit;
    fill = omega (arith, ap length empty);
    led = subst (λ (es : List Entry). IfSome table.var (λ ring. AreLed plan ring es)) (sym (all-written table none)) h.led;
    stand = h.stand;
    number = h.numbers VarRing;
  };
  number = h.numbers DataRing;
}

pub loose-paged : (plan : Plan) (table : Table) → table.pending ≡ 0 → IsLoose plan table → IsPaged plan table
loose-paged plan table none h = record {
  rows = h.rows;
  index = h.index.ring;
  var = h.blobs.ring;
  has_rings = (h.index.has, h.blobs.has);
  unlogged = h.bare;
  fit = h.kept.fit;
  counted = omega (arith, h.kept.counted, none);
  few_rows = h.kept.few_rows;
  ascending = h.kept.ascending;
  index_counts = h.index.counts;
  index_each = h.index.each;
  index_fit = h.index.fit;
  firsts = h.index.firsts;
  listed = omega (arith, h.index.listed);
  tell = h.index.tell;
  var_counts = h.blobs.counts;
  var_each = h.blobs.each;
  var_fit = h.blobs.fit;
  led = subst (λ (es : List Entry). IfSome table.var (λ ring. AreLed plan ring es)) (all-written table none) h.blobs.led;
  stand = h.blobs.stand;
  numbers = numbers;
}
  where
    numbers : (name : RingName) → IfSome (ring_of name table) (λ ring. ring.next + (cond ring.torn 1 0) ≤ 4294967295)
    numbers DataRing = h.number
    numbers IndexRing = h.index.number
    numbers VarRing = h.blobs.number
    numbers LogRing = subst (λ (o : Option Ring). IfSome o (λ ring. ring.next + (cond ring.torn 1 0) ≤ 4294967295)) (sym h.bare.0) tt

-- .. and of one where other entries wait, and which has other points
pub paged-as : (plan : Plan) (table : Table) (waiting : List IndexEntry) (points : List (ℕ × ℕ)) → IsPaged plan table → IsPaged plan (record table { waiting = waiting; points = points })
paged-as plan table waiting points h = record {
  rows = h.rows;
  index = h.index;
  var = h.var;
  has_rings = h.has_rings;
  unlogged = h.unlogged;
  fit = h.fit;
  counted = h.counted;
  few_rows = h.few_rows;
  ascending = h.ascending;
  index_counts = h.index_counts;
  index_each = h.index_each;
  index_fit = h.index_fit;
  firsts = h.firsts;
  listed = h.listed;
  tell = h.tell;
  var_counts = h.var_counts;
  var_each = h.var_each;
  var_fit = h.var_fit;
  led = h.led;
  stand = stand-as plan table (record table { waiting = waiting; points = points }) refl (λ ring number. refl) h.stand;
  numbers = numbers;
}
  where
    numbers : (name : RingName) → IfSome (ring_of name (record table { waiting = waiting; points = points })) (λ ring. ring.next + (cond ring.torn 1 0) ≤ 4294967295)
    numbers DataRing = h.numbers DataRing
    numbers IndexRing = h.numbers IndexRing
    numbers VarRing = h.numbers VarRing
    numbers LogRing = h.numbers LogRing

-- .. so of the table that is started then
pub paged-ready : (plan : Plan) (table : Table) → IsPaged plan table → IsPaged plan (ready plan table)
paged-ready plan table h = paged-as plan table (ready plan table).waiting (ready plan table).points h

-- a table without an index lists nothing
pub none-listed : (plan : Plan) (table : Table) → has_index plan ≡ false → IsListed plan table → table.index_pages ≡ []
none-listed plan table none facts = nil_from_length table.index_pages (by_ring table.index facts.has facts.each)
  where
    by_ring : (o : Option Ring) → is_some_ring o ≡ has_index plan → length table.index_pages ≡ full_pages (counts_in o) → length table.index_pages ≡ 0
    by_ring None e k = k
    by_ring (Some r) e k = absurd (true≢false (e ∙ none))

-- the facts of an index among those of its table
pub has-listed : (plan : Plan) (table : Table) (ring : Ring) → table.index ≡ Some ring → IsLoose plan table → length table.waiting ≤ entries_per_page plan → HasIndex plan table ring
has-listed plan table ring is h few = record {
  ring_is = is;
  is_ring = of_ring table.index is h.index.ring;
  counts = subst (λ (o : Option Ring). AllCounts (counts_in o)) is h.index.counts;
  index_each = h.index.each ∙ ap (λ (o : Option Ring). full_pages (counts_in o)) is;
  index_fit = h.index.fit;
  firsts = h.index.firsts;
  waiting = few;
  listed = h.index.listed;
  tell = h.index.tell;
  wait = h.index.wait;
  counted = h.kept.counted;
  number = let n = of_number table.index is h.index.number in omega (arith, n);
  rows_number = omega (arith, h.number);
}
  where
    AllCounts : List ℕ → Type 0
    AllCounts counts = AllByRecursion (λ count. (count ≡ 0) ⊎ (count ≡ entries_per_page plan)) counts

    of_ring : (o : Option Ring) → o ≡ Some ring → IfSome o (IsRing (shape_of plan IndexRing)) → IsRing (shape_of plan IndexRing) ring
    of_ring None e h = cc
    of_ring (Some r) e h = let same : r ≡ ring = cc in subst (IsRing (shape_of plan IndexRing)) same h

    of_number : (o : Option Ring) → o ≡ Some ring → IfSome o (λ r. r.next + (cond r.torn 1 0) ≤ 4294967295) → ring.next + (cond ring.torn 1 0) ≤ 4294967295
    of_number None e h = cc
    of_number (Some r) e h = let same : r ≡ ring = cc in subst (λ (x : Ring). x.next + (cond x.torn 1 0) ≤ 4294967295) same h

pub listed-of : (plan : Plan) (table : Table) (ring : Ring) → has_index plan ≡ true → HasIndex plan table ring → ring.next + (cond ring.torn 1 0) ≤ 4294967295 → IsListed plan table
listed-of plan table ring some h number = record {
  has = ap is_some_ring h.ring_is ∙ sym some;
  ring = subst (λ (o : Option Ring). IfSome o (IsRing (shape_of plan IndexRing))) (sym h.ring_is) h.is_ring;
  counts = subst (λ (o : Option Ring). AllByRecursion (λ count. (count ≡ 0) ⊎ (count ≡ entries_per_page plan)) (counts_in o)) (sym h.ring_is) h.counts;
  each = h.index_each ∙ ap (λ (o : Option Ring). full_pages (counts_in o)) (sym h.ring_is);
  fit = h.index_fit;
  firsts = h.firsts;
  listed = h.listed;
  tell = h.tell;
  wait = h.wait;
  number = subst (λ (o : Option Ring). IfSome o (λ r. r.next + (cond r.torn 1 0) ≤ 4294967295)) (sym h.ring_is) number;
}

-- ---- other parts of the table change

-- the data pages that an index page lists end where the index does
pub listed-end : (plan : Plan) (table : Table) → IsListed plan table → (k : ℕ) (page : IndexPage) → slice_get table.index_pages k ≡ Some page → page.first + length page.entries ≤ index_end plan table
listed-end plan table h k page e =
    let below = below-end (entries_per_page plan) (firsts table) k page.first h.firsts (first-at table.index_pages k page e) in
    let long = each-at (λ (p : IndexPage). length p.entries ≡ entries_per_page plan) table.index_pages k page h.fit e in
    omega (arith, below, long)

pub listed-as : (plan : Plan) (table : Table) (entries : List Entry) (rows : Ring) (pending : ℕ) (buffered : List ℕ) (waiting : List IndexEntry) (points : List (ℕ × ℕ)) → IsListed plan table →
    index_end plan table + length waiting ≤ rows.next →
    ((k : ℕ) (page : IndexPage) → slice_get table.index_pages k ≡ Some page → TellPages plan (record table { entries = entries; rows = rows; pending = pending; buffered = buffered; waiting = waiting; points = points }) page.first page.entries) →
    TellPages plan (record table { entries = entries; rows = rows; pending = pending; buffered = buffered; waiting = waiting; points = points }) (rows.next - length waiting) waiting →
    IsListed plan (record table { entries = entries; rows = rows; pending = pending; buffered = buffered; waiting = waiting; points = points })
listed-as plan table entries rows pending buffered waiting points h listed tell wait = record {
  has = h.has;
  ring = h.ring;
  counts = h.counts;
  each = h.each;
  fit = h.fit;
  firsts = h.firsts;
  listed = listed;
  tell = tell;
  wait = wait;
  number = h.number;
}

-- the variable data are the same, with these of their records
pub led-as : (plan : Plan) (table : Table) (entries : List Entry) (rows : Ring) (pending : ℕ) (waiting : List IndexEntry) (points : List (ℕ × ℕ)) →
    ((i : ℕ) (entry : Entry) → slice_get (take (length entries - pending) entries) i ≡ Some entry → (j : ℕ) × (slice_get (written table) j ≡ Some entry)) →
    IfSome table.var (BlobsOf plan (record table { entries = entries; rows = rows; pending = pending; waiting = waiting; points = points })) → IsLed plan table →
    IsLed plan (record table { entries = entries; rows = rows; pending = pending; waiting = waiting; points = points })
led-as plan table entries rows pending waiting points within stand h = record {
  has = h.has;
  ring = h.ring;
  counts = h.counts;
  each = h.each;
  fit = h.fit;
  fill = h.fill;
  led = some_map table.var (λ ring. AreLed plan ring (written table)) (λ ring. AreLed plan ring (take (length entries - pending) entries)) (λ ring led. led-some plan ring (written table) (take (length entries - pending) entries) within led) h.led;
  stand = stand;
  number = h.number;
}

pub loose-with_index : (plan : Plan) (table : Table) (index : Option Ring) (pages : List IndexPage) (waiting : List IndexEntry) → IsLoose plan table → IsListed plan (record table { index = index; index_pages = pages; waiting = waiting }) →
    IsLoose plan (record table { index = index; index_pages = pages; waiting = waiting })
loose-with_index plan table index pages waiting h listed = record {
  plain = h.plain;
  bare = h.bare;
  rows = h.rows;
  kept = h.kept;
  index = listed;
  blobs = record {
    has = h.blobs.has;
    ring = h.blobs.ring;
    counts = h.blobs.counts;
    each = h.blobs.each;
    fit = h.blobs.fit;
    fill = h.blobs.fill;
    led = h.blobs.led;
    stand = stand-as plan table (record table { index = index; index_pages = pages; waiting = waiting }) refl (λ ring number. refl) h.blobs.stand;
    number = h.blobs.number;
  };
  number = h.number;
}

-- .. and these variable data instead
pub loose-with_var : (plan : Plan) (table : Table) (ring : Option Ring) (pages : List ContentPage) (bytes : List ℕ) → IsLoose plan table → IsLed plan (record table { var = ring; var_pages = pages; buffered = bytes }) →
    IsLoose plan (record table { var = ring; var_pages = pages; buffered = bytes })
loose-with_var plan table ring pages bytes h led = record {
  plain = h.plain;
  bare = h.bare;
  rows = h.rows;
  kept = h.kept;
  index = record {
    has = h.index.has;
    ring = h.index.ring;
    counts = h.index.counts;
    each = h.index.each;
    fit = h.index.fit;
    firsts = h.index.firsts;
    listed = h.index.listed;
    tell = h.index.tell;
    wait = h.index.wait;
    number = h.index.number;
  };
  blobs = led;
  number = h.number;
}

-- ---- all facts of a table at rest are those that its mount asks

pub settled-mountable : (plan : Plan) (table : Table) → plan.log_blocks ≡ 0 → IsSettled plan table → IsMountable plan table
settled-mountable plan table plain settled =
    let h = table-parts plan table plain settled.facts in
    let none : table.pending ≡ 0 = ap (λ (t : Table). t.pending) settled.lost in
    record {
      lost = settled.lost;
      paged = loose-paged plan table none (loose-of plan table h);
      behind = λ void. h.index.number_listed;
      before = by_ring table.var refl;
    }
  where
    by_ring : (o : Option Ring) → table.var ≡ o → IfSome o (λ ring. AreVoid ring.counts → blob_end table ≤ oldest ring)
    by_ring None e = tt
    by_ring (Some ring) e = λ void.
        let none : table.pending ≡ 0 = ap (λ (t : Table). t.pending) settled.lost in
        let h = facts-blobbed plan table settled.facts in
        held-old plan ring table void (subst (λ (es : List Entry). AreIn plan ring es) (all-written table none) (blobbed-in plan table ring (written table) e h.blobs))

pub rests-mountable : (f : FlashState) (first : ℕ) (plan : Plan) (table : Table) → plan.log_blocks ≡ 0 → Rests f first plan table → RestsToMount f first plan table
rests-mountable f first plan table plain rests = record { mountable = settled-mountable plan table plain rests.settled; pages = rests.pages }
