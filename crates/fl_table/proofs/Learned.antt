-- What a table has counted and learned whose mount counted all kept pages.
use Rattle.std.proofs.Common.{◌≡◌, ℕ, zero, suc, ◌+◌, ◌-◌, ◌%◌, ◌<◌, ◌≤◌, ◌==◌, cond, Option, Some, None, option_map, unwrap_or, List, map, get_or, refl, sym, ◌∙◌, ap, arith}
use Rattle.std.proofs.lemmas.List.FromFn.{sum_by-map-range_with_len_more}
use Rattle.std.specs.List.{sum, count_by, range_with_len}
use Rattle.fl_find.specs.Index.{error_in}
use Rattle.fl_find.specs.declared.index.KeyIndex.{KeyIndex}
use Rattle.fl_flash.specs.Flash.{FlashState}
use Rattle.fl_index.specs.declared.index.BitmapIndex.{BitmapIndex}
use Rattle.fl_ring.specs.Place.{next_of, oldest_of}
use Rattle.fl_ring.specs.declared.ring.Ring.{Ring}
use Rattle.fl_schema.specs.Schema.{layout_of}
use Rattle.fl_parts.specs.BlobEnds.{least_of}
use Rattle.fl_parts.specs.BlobMount.{FindsBlobs, AreBelow}
use Rattle.fl_parts.specs.ByEntries.{Come, facts_on, rows_of, voids_of}
use Rattle.fl_parts.specs.Coming.{WaitUnlisted, most_in}
use Rattle.fl_parts.specs.Knowing.{IsLearned, KnowsWith}
use Rattle.fl_table.specs.Look.{counts_in, kept_counts, oldest_in, rows_noted}
use Rattle.fl_table.specs.Memory.{next_in, pending_in, IsSamePlan, NothingWaits}
use Rattle.fl_parts.specs.IndexMount.{RemembersKept}
use Rattle.fl_table.specs.Mounting.{FindsData, FindsRows, HasLearned, comes_in}
use Rattle.fl_parts.specs.Reading.{pages_of}
use Rattle.fl_table.specs.declared.counts.Mounted.{Mounted}
use Rattle.fl_table.specs.declared.counts.TableCounts.{TableCounts}
use Rattle.fl_parts.specs.declared.known.Known.{Known}
use Rattle.fl_table.specs.declared.table.Table.{Table}
use Rattle.fl_parts.proofs.MountProgress.{come-rows}
use Rattle.fl_parts.proofs.WaitingPageComes.{knows-all, points-all}

-- what is known of all data pages is kept
pub learned-all : {KNOTS SLOTS : ℕ} (error : ℕ) (t : Come) (k : ℕ) (known : Known) (counts : List ℕ) (index : KeyIndex KNOTS SLOTS) → KnowsWith error t k t.pages known counts index → known.newest ≡ None →
    IsLearned error t known.voids counts index
learned-all error t k known counts index h none =
    let all = knows-all error t k t.pages known counts index h none in
    record { noted = all.counted.noted; voids_are = all.voids; points = points-all error t k t.pages known counts index h none }

-- four counts
counted-as : (rows pending pages voids rows_now pending_now pages_now voids_now : ℕ) → rows ≡ rows_now → pending ≡ pending_now → pages ≡ pages_now → voids ≡ voids_now →
    ◌≡◌ {A = TableCounts} (record { rows = rows; pending = pending; pages = pages; voids = voids }) (record { rows = rows_now; pending = pending_now; pages = pages_now; voids = voids_now })
counted-as rows pending pages voids rows_now pending_now pages_now voids_now a b c d = rw (a, b, c, d) refl

-- none is added
none-more : (n k : ℕ) → k ≡ 0 → n + k ≡ n
none-more n k e = omega (arith, e)

module _ {KNOTS SLOTS : ℕ} (error : ℕ) (t : Come) (u : Table KNOTS SLOTS) (h : HasLearned error t u) where
  -- the rows of a page
  row-noted : (i : ℕ) → i < t.pages → rows_noted u (t.oldest + i) ≡ (facts_on t (t.oldest + i)).count
  row-noted i lt = ap (λ (n : ℕ). get_or u.counts.items ((t.oldest + i) % n) 0) u.counts.ok.0 ∙ h.noted i (omega arith) lt

  -- .. of the first pages together, and how many of these are void
  rows-noted : (n : ℕ) → n ≤ t.pages → sum (map (rows_noted u) (range_with_len t.oldest n)) ≡ rows_of (facts_on t) t.oldest n
  rows-noted zero le = refl
  rows-noted (suc n) le =
      let next : n + 1 ≡ suc n = omega arith in
      sym (ap (λ (k : ℕ). sum (map (rows_noted u) (range_with_len t.oldest k))) next)
      ∙ (sum_by-map-range_with_len_more (λ x. x) (rows_noted u) t.oldest n (t.oldest + n) refl
      ∙ (ap (λ (k : ℕ). k + rows_noted u (t.oldest + n)) (rows-noted n (omega (arith, le))) ∙ ap (λ (k : ℕ). rows_of (facts_on t) t.oldest n + k) (row-noted n (omega (arith, le)))))

  voids-noted : (n : ℕ) → n ≤ t.pages → count_by (λ count. count == 0) (map (rows_noted u) (range_with_len t.oldest n)) ≡ voids_of (facts_on t) t.oldest n
  voids-noted zero le = refl
  voids-noted (suc n) le =
      let next : n + 1 ≡ suc n = omega arith in
      sym (ap (λ (k : ℕ). count_by (λ count. count == 0) (map (rows_noted u) (range_with_len t.oldest k))) next)
      ∙ (sum_by-map-range_with_len_more (λ x. cond (x == 0) 1 0) (rows_noted u) t.oldest n (t.oldest + n) refl
      ∙ (ap (λ (k : ℕ). k + cond (rows_noted u (t.oldest + n) == 0) 1 0) (voids-noted n (omega (arith, le)))
      ∙ ap (λ (k : ℕ). voids_of (facts_on t) t.oldest n + cond (k == 0) 1 0) (row-noted n (omega (arith, le)))))

  -- a table with this ring counts what the mount answers
  pub counts-learned : (ring : Ring) (mounted : Mounted) → u.ring ≡ Some ring → pending_in u ≡ 0 → t.oldest ≡ oldest_of ring → t.pages ≡ next_of ring - oldest_of ring →
      mounted ≡ record { rows = rows_of (facts_on t) (oldest_of ring) (next_of ring - oldest_of ring); pages = next_of ring - oldest_of ring; voids = voids_of (facts_on t) (oldest_of ring) (next_of ring - oldest_of ring) } →
      counts_in u ≡ record { rows = mounted.rows; pending = 0; pages = mounted.pages; voids = mounted.voids }
  counts-learned ring mounted is none begin pages told =
      let first : oldest_in u ≡ t.oldest = ap (λ (o : Option Ring). unwrap_or (option_map (λ r. oldest_of r) o) 0) is ∙ sym begin in
      let many : next_in u - oldest_in u ≡ next_of ring - oldest_of ring =
      ap (λ (o : Option Ring). unwrap_or (option_map (λ r. next_of r) o) 0 - unwrap_or (option_map (λ r. oldest_of r) o) 0) is in
      let kept : kept_counts u ≡ map (rows_noted u) (range_with_len t.oldest t.pages) =
      ap (λ (k : ℕ). map (rows_noted u) (range_with_len k (next_in u - oldest_in u))) first ∙ ap (λ (k : ℕ). map (rows_noted u) (range_with_len t.oldest k)) (many ∙ sym pages) in
      counted-as (sum (kept_counts u) + pending_in u) (pending_in u) (next_in u - oldest_in u) (count_by (λ count. count == 0) (kept_counts u)) mounted.rows 0 mounted.pages mounted.voids
      (none-more (sum (kept_counts u)) (pending_in u) none ∙ (ap sum kept ∙ (rows-noted t.pages (omega arith) ∙ (at (rows_of (facts_on t)) ∙ sym (ap (λ (m : Mounted). m.rows) told)))))
      none
      (many ∙ sym (ap (λ (m : Mounted). m.pages) told))
      (ap (count_by (λ count. count == 0)) kept ∙ (voids-noted t.pages (omega arith) ∙ (at (voids_of (facts_on t)) ∙ sym (ap (λ (m : Mounted). m.voids) told))))
    where
      at : (total : ℕ → ℕ → ℕ) → total t.oldest t.pages ≡ total (oldest_of ring) (next_of ring - oldest_of ring)
      at total = ap (λ (o : ℕ). total o t.pages) begin ∙ ap (total (oldest_of ring)) pages

-- what a mount found of a table without its index
pub finds-rows : {KNOTS SLOTS : ℕ} (t : Table KNOTS SLOTS) (bitmaps : Option BitmapIndex) (f : FlashState) (least : ℕ) (mounted : Mounted) (now : Table KNOTS SLOTS) (new : FlashState) (ring : Ring) (end : ℕ) (between : FlashState) → IsSamePlan t now → now.ring ≡ Some ring →
    FindsData t bitmaps f least ring mounted now.last_key end between → WaitUnlisted (comes_in t bitmaps ring between) (pages_of ring between) bitmaps least (next_of ring) now.bitmaps → RemembersKept bitmaps between now.bitmaps →
    NothingWaits now → HasLearned (error_in t.index) (comes_in t bitmaps ring between) now → FindsBlobs t.blobs between (least_of end) now.blobs new → AreBelow end now.blobs → FindsRows t bitmaps f least mounted now new
finds-rows t bitmaps f least mounted now new ring end between same is pages waits firsts empty learned blobs below =
    let rows = come-rows (layout_of t.schema) (most_in t.geometry.page (layout_of t.schema)) bitmaps ring between in
    record {
      plan = same;
      ring = ring;
      ring_is = is;
      end = end;
      between = between;
      pages = pages;
      waits = waits;
      firsts = firsts;
      empty = empty;
      learned = learned;
      counts = counts-learned (error_in t.index) (comes_in t bitmaps ring between) now learned ring mounted is empty.none rows.oldest rows.pages pages.mounted_is;
      blobs = blobs;
      below = below;
    }
