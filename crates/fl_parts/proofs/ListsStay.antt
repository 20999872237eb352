-- What an index lists stays right where other parts of its table change.
use Rattle.std.proofs.Common.{◌≡◌, ℕ, suc, ◌+◌, ◌≤◌, cond, ◌==◌, Option, Some, None, IfSome, IsTrue, List, ◌++◌, length, map, take, drop, refl, sym, ◌∙◌, ap, subst, arith, inr, length-drop}
use Rattle.std.proofs.Math.Path.{fun_ext}
use Rattle.std.proofs.lemmas.List.{take-append-le, drop-append-le}
use Rattle.std.proofs.lemmas.List.Sums.{sum_by-take-le}
use Rattle.std.proofs.Math.Nat.{add-mul}
use Rattle.std.specs.List.{slice_get, sum}
use Rattle.fl_flash.specs.Flash.{FlashState, page_at}
use Rattle.fl_model.specs.Agrees.{TellPages, TellsAt, is_told}
use Rattle.fl_model.specs.Image.{IsRingImage, HoldsEntries, HoldsPage, rows_at}
use Rattle.fl_model.specs.Layout.{IndexEntry, IndexPage, index_body}
use Rattle.fl_model.specs.Record.{Plan, entries_per_page}
use Rattle.fl_model.specs.Ring as model
use Rattle.fl_model.specs.Ring.{oldest}
use Rattle.fl_model.specs.Table.{Table, Entry, IndexRing, shape_of, full_pages}
use Rattle.fl_model.proofs.Lists.{sum_by-next}
use Rattle.fl_index.specs.declared.index.BitmapIndex.{BitmapIndex}
use Rattle.fl_index.specs.Standing.{HasIndex, HoldsIndex, RemembersAll, RemembersBelow, StandsWith, StandsBelow, StandsForRing, bytes_in, first_told}
use Rattle.fl_parts.specs.Pages.{place_in, bytes_in as table_bytes}
use Rattle.fl_ring.specs.Ring.{OutsideStands}
use Rattle.fl_parts.proofs.States.{shape_in}
use Rattle.fl_parts.proofs.Loose.{has-listed, loose-of}
use Rattle.fl_parts.proofs.Plain.{IsPlainTable}

-- entries tell of a table's pages what they told before records joined them
pub tell-record : (plan : Plan) (table new : Table) (more : List Entry) (first : ℕ) (entries : List IndexEntry) → sum table.rows.counts ≤ length table.entries → new.entries ≡ table.entries ++ more → new.rows ≡ table.rows →
    TellPages plan table first entries → TellPages plan new first entries
tell-record plan table new more first told few entries rows each j n lt e = by_count (slice_get new.rows.counts n) refl
  where
    rows_front : (xs ys : List Entry) (k c : ℕ) → k + c ≤ length xs → take c (drop k (xs ++ ys)) ≡ take c (drop k xs)
    rows_front xs ys k c le = ap (take c) (drop-append-le k xs ys (omega arith)) ∙ take-append-le c (drop k xs) ys (omega (arith, le, length-drop k xs))

    of : (c : ℕ) (o : Option ℕ) → o ≡ Some c → IfSome o (λ r. IsTrue (is_told plan r) → TellsAt plan (rows_at table n r) (slice_get told j)) → IsTrue (is_told plan c) → TellsAt plan (rows_at table n c) (slice_get told j)
    of c None k h = cc
    of c (Some r) k h = let same : r ≡ c = cc in subst (λ x. IsTrue (is_told plan x) → TellsAt plan (rows_at table n x) (slice_get told j)) same h

    by_count : (o : Option ℕ) → slice_get new.rows.counts n ≡ o → IfSome o (λ c. IsTrue (is_told plan c) → TellsAt plan (rows_at new n c) (slice_get told j))
    by_count None k = tt
    by_count (Some c) k = λ t.
        let here : slice_get table.rows.counts n ≡ Some c = ap (λ (r : model.Ring). slice_get r.counts n) (sym rows) ∙ k in
        let next = sum_by-next (λ (x : ℕ). x) table.rows.counts n c here in
        let within = sum_by-take-le (λ (x : ℕ). x) table.rows.counts (suc n) in
        let same : rows_at table n c ≡ rows_at new n c = sym (rows_front table.entries more (sum (take n table.rows.counts)) c (omega (arith, next, within, few)))
        ∙ (ap (λ (es : List Entry). take c (drop (sum (take n table.rows.counts)) es)) (sym entries) ∙ ap (λ (r : model.Ring). take c (drop (sum (take n r.counts)) new.entries)) (sym rows)) in
        subst (λ (es : List Entry). TellsAt plan es (slice_get told j)) same (of c (slice_get table.rows.counts n) here (each j n lt (e ∙ ap (λ (r : model.Ring). oldest r + n) rows)) t)

-- what the index ring holds of a table it holds of another with the same index pages
pub image-moved : (plan : Plan) (table new : Table) (ring : model.Ring) (at : ℕ → List ℕ) → new.index_pages ≡ table.index_pages →
    IsRingImage (shape_of plan IndexRing) ring at (HoldsEntries plan table ring) → IsRingImage (shape_of plan IndexRing) ring at (HoldsEntries plan new ring)
image-moved plan table new ring at pages h =
    subst (λ (ps : List IndexPage). IsRingImage (shape_of plan IndexRing) ring at (λ i count page. HoldsPage ps (λ number listed. index_body plan number listed.first listed.entries) ring i count page)) (sym pages) h

-- the index ring of a table, where it has one, holds what the table's index lists
abbrev pub HoldsIndexed : (ℕ → List ℕ) → ℕ → Plan → Table → Type 0
HoldsIndexed page first plan table = IfSome table.index (λ ring. IsRingImage (shape_of plan IndexRing) ring (table_bytes page first plan IndexRing) (HoldsEntries plan table ring))

pub indexed-moved : (page : ℕ → List ℕ) (first : ℕ) (plan : Plan) (table new : Table) → new.index ≡ table.index → new.index_pages ≡ table.index_pages → HoldsIndexed page first plan table → HoldsIndexed page first plan new
indexed-moved page first plan table new index pages h = subst Holds (sym index) (by_index table.index h)
  where
    Holds : Option model.Ring → Type 0
    Holds o = IfSome o (λ ring. IsRingImage (shape_of plan IndexRing) ring (table_bytes page first plan IndexRing) (HoldsEntries plan new ring))

    by_index : (o : Option model.Ring) → IfSome o (λ ring. IsRingImage (shape_of plan IndexRing) ring (table_bytes page first plan IndexRing) (HoldsEntries plan table ring)) →
        IfSome o (λ ring. IsRingImage (shape_of plan IndexRing) ring (table_bytes page first plan IndexRing) (HoldsEntries plan new ring))
    by_index None h = tt
    by_index (Some ring) h = image-moved plan table new ring (table_bytes page first plan IndexRing) pages h

-- .. on a flash with the same index pages
pub indexed-same : (old new : ℕ → List ℕ) (first : ℕ) (plan : Plan) (table : Table) → ((n : ℕ) → table_bytes new first plan IndexRing n ≡ table_bytes old first plan IndexRing n) → HoldsIndexed old first plan table → HoldsIndexed new first plan table
indexed-same old new first plan table same h =
    subst (λ (at : ℕ → List ℕ). IfSome table.index (λ ring. IsRingImage (shape_of plan IndexRing) ring at (HoldsEntries plan table ring))) (sym (fun_ext (λ n. same n))) h

-- the pages of the index ring lie outside the data ring
pub index-stands : (old new : ℕ → List ℕ) (first : ℕ) (plan : Plan) → OutsideStands (shape_in first plan) old new → (n : ℕ) → table_bytes new first plan IndexRing n ≡ table_bytes old first plan IndexRing n
index-stands old new first plan stands n = stands (place_in first plan IndexRing n) (inr (omega (arith, add-mul first plan.data_blocks plan.geometry.block)))

-- the facts of an index among those of its table
pub has-index : (plan : Plan) (table : Table) (ring : model.Ring) → table.index ≡ Some ring → IsPlainTable plan table → length table.waiting ≤ entries_per_page plan → HasIndex plan table ring
has-index plan table ring is h few = has-listed plan table ring is (loose-of plan table h) few

-- the pages of an index ring on another flash
image-same : (first : ℕ) (plan : Plan) (table : Table) (ring : model.Ring) (old new : ℕ → List ℕ) → ((n : ℕ) → bytes_in new first plan n ≡ bytes_in old first plan n) → HoldsIndex old first plan table ring → HoldsIndex new first plan table ring
image-same first plan table ring old new same h =
    subst (λ (at : ℕ → List ℕ). IsRingImage (shape_of plan IndexRing) ring at (HoldsEntries plan table ring)) (sym (fun_ext (λ n. same n))) h

-- an index in memory stands for that of another table, on a flash with the same index pages
module _ (R : BitmapIndex → Plan → Table → model.Ring → Type 0) (index : BitmapIndex) (f g : FlashState) (first : ℕ) (plan : Plan) (table new : Table) (s : StandsWith R index f first plan table) (pages : new.index_pages ≡ table.index_pages)
    (facts : HasIndex plan new s.ring) (same : (n : ℕ) → bytes_in (page_at g) first plan n ≡ bytes_in (page_at f) first plan n) where
  pub with-moved : R index plan new s.ring → StandsWith R index g first plan new
  with-moved remembers = record {
    planned = s.planned;
    ring = s.ring;
    facts = facts;
    whole = s.whole;
    clean = s.clean;
    pages = image-moved plan table new s.ring (bytes_in (page_at g) first plan) pages
        (image-same first plan table s.ring (page_at f) (page_at g) same s.pages);
    in_memory = s.in_memory;
    memory_is = s.memory_is;
    next = s.next;
    oldest_is = s.oldest_is;
    first_of = remembers;
  }

  -- an index page lists data pages from the same one on
  pub told-moved : (i count : ℕ) → first_told plan table s.ring i count ≡ first_told plan new s.ring i count
  told-moved i count = ap (λ (ps : List IndexPage). cond (count == 0) None (slice_get (map (λ (page : IndexPage). page.first) ps) (full_pages (take i s.ring.counts)))) (sym pages)

-- .. of which the first data page of each index page is remembered
pub ring-moved : (index : BitmapIndex) (f g : FlashState) (first : ℕ) (plan : Plan) (table new : Table) (s : StandsForRing index f first plan table) → new.index_pages ≡ table.index_pages →
    HasIndex plan new s.ring → ((n : ℕ) → bytes_in (page_at g) first plan n ≡ bytes_in (page_at f) first plan n) → StandsForRing index g first plan new
ring-moved index f g first plan table new s pages facts same =
    with-moved RemembersAll index f g first plan table new s pages facts same (λ i count e. s.first_of i count e ∙ told-moved RemembersAll index f g first plan table new s pages facts same i count)

-- .. or of those below a number
pub below-moved : (number : ℕ) (index : BitmapIndex) (f g : FlashState) (first : ℕ) (plan : Plan) (table new : Table) (s : StandsBelow number index f first plan table) → new.index_pages ≡ table.index_pages →
    HasIndex plan new s.ring → ((n : ℕ) → bytes_in (page_at g) first plan n ≡ bytes_in (page_at f) first plan n) → StandsBelow number index g first plan new
below-moved number index f g first plan table new s pages facts same =
    with-moved (RemembersBelow number) index f g first plan table new s pages facts same
    (λ i count lt e. s.first_of i count lt e ∙ told-moved (RemembersBelow number) index f g first plan table new s pages facts same i count)
