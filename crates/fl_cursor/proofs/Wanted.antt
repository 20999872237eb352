-- The pages that bitmaps let a cursor skip, in memory and in the words of the model.
use Rattle.std.proofs.Common.{◌≡◌, ℕ, zero, suc, ◌+◌, ◌-◌, ◌^◌, ◌<◌, ◌≤◌, Bool, true, false, not, ◌&&◌, ◌||◌, cond, ◌==◌, nat_lt, Option, Some, None, option_map, unwrap_or, List, [], ◌∷◌, length, filter, fold, map, take, drop, bit_and, bit_or, refl, sym, ◌∙◌, ap, subst, arith}
use Rattle.std.specs.Prelude.{pos, int_le}
use Rattle.std.specs.List.{slice_get, sum, list_any, AllByRecursion}
use Rattle.std.proofs.lemmas.Bool.{eq-eqb, eqb-true, false_from_ne_true, and_left, and_right}
use Rattle.std.proofs.lemmas.List.{drop-drop}
use Rattle.std.proofs.lemmas.List.Sums.{sum_by-cons}
use Rattle.std.proofs.lemmas.Option.{none-some}
use Rattle.std.proofs.Math.Bool.{not-not}
use Rattle.fl_base.specs.declared.types.Span.{Span}
use Rattle.fl_bitmap.specs.Bucket.{AreBucketsOf, bucket_in, mask_in, HasBuckets, bitmap_in}
use Rattle.fl_bitmap.specs.declared.buckets.Buckets.{Buckets}
use Rattle.fl_bitmap.proofs.Spans.{bucket_of-is}
use Rattle.fl_index.specs.declared.index.BitmapIndex.{BitmapIndex}
use Rattle.fl_index.proofs.Spanned.{indexed-is}
use Rattle.fl_model.specs.Image.{rows_at}
use Rattle.fl_model.specs.Layout.{bitmap_of, bucket_of}
use Rattle.fl_model.specs.Limits.{bits_from, mask_of, is_indexed, is_listed, is_wanted, rows_of_page, waits}
use Rattle.fl_model.specs.Query.{Cursor, matches, selected, is_above, is_up_to}
use Rattle.fl_model.specs.Record.{Plan}
use Rattle.fl_model.specs.Ring as rings
use Rattle.fl_model.specs.Row.{Row, stored_row}
use Rattle.fl_model.specs.Spline.{pages_from}
use Rattle.fl_model.specs.Table.{Entry}
use Rattle.fl_model.specs.Table as model
use Rattle.fl_model.proofs.Lists.{drop_none}
use Rattle.fl_frame.specs.Contents.{Contents}
use Rattle.fl_bitmap.proofs.StoredBits.{bits-same}
use Rattle.fl_parts.specs.Bitmaps.{ArePlanned}
use Rattle.fl_table.specs.Look.{oldest_in, rows_noted}
use Rattle.fl_table.specs.Memory.{next_in}
use Rattle.fl_parts.specs.Skipping.{mask_for, wants_page}
use Rattle.fl_parts.specs.Skipping as skipping
use Rattle.fl_table.specs.declared.table.Table.{Table}
use Rattle.fl_parts.proofs.Skipping.{mask-meets}
use Rattle.fl_table.proofs.IndexStands.{index-stands, some-bits}
use Rattle.fl_cursor.specs.Asked.{is_asked}
use Rattle.fl_cursor.specs.Cursor.{IsStanding}
use Rattle.fl_cursor.specs.Listed.{rows_on}
use Rattle.fl_cursor.specs.Reads.{begins_above, has_full, is_beyond, is_indexed_in, is_missed}
use Rattle.fl_cursor.proofs.PassedRows.{NotLeft}
use Rattle.fl_cursor.proofs.Stood.{kept-rows, at-number, back, standing-many}

-- ---- the rows of a page

abbrev is_at : ℕ → ℕ × List Entry → Bool
is_at number page = page.0 == number

page-in : (first : ℕ) (counts : List ℕ) (entries : List Entry) (i c : ℕ) → slice_get counts i ≡ Some c → 0 < c →
    slice_get (filter (is_at (first + i)) (pages_from first counts entries)) 0 ≡ Some (first + i, take c (drop (sum (take i counts)) entries))
page-in first [] entries i c e some = absurd (none-some c e)
page-in first (x ∷ xs) entries zero c e some = by_zero (x == 0) refl
  where
    same : x ≡ c
    same = cc

    by_zero : (b : Bool) → (x == 0) ≡ b → slice_get (filter (is_at (first + 0)) (cond b (pages_from (first + 1) xs entries) ((first, take x entries) ∷ pages_from (first + 1) xs (drop x entries)))) 0 ≡ Some (first + 0, take c (drop 0 entries))
    by_zero true z = let n = eqb-true x 0 z in absurd (omega (arith, n, same, some))
    by_zero false z =
        let at : first ≡ first + 0 = omega arith in
        let is : (first == first + 0) ≡ true = eq-eqb first (first + 0) at in
        let page : ℕ × List Entry = (first, take x entries) in
        ap (λ b. slice_get (cond b (page ∷ filter (is_at (first + 0)) (pages_from (first + 1) xs (drop x entries))) (filter (is_at (first + 0)) (pages_from (first + 1) xs (drop x entries)))) 0) is
        ∙ (ap (λ n. Some (n, take x entries)) at ∙ (ap (λ n. Some (first + 0, take n entries)) same ∙ ap (λ (es : List Entry). Some (first + 0, take c es)) (sym (drop_none entries))))
page-in first (x ∷ xs) entries (suc i) c e some = by_zero (x == 0) refl (λ es. page-in (first + 1) xs es i c e some)
  where
    at : first + 1 + i ≡ first + suc i
    at = omega arith

    total : sum (take (suc i) (x ∷ xs)) ≡ x + sum (take i xs)
    total = sum_by-cons (λ (n : ℕ). n) x (take i xs)

    moved : (es : List Entry) → slice_get (filter (is_at (first + 1 + i)) (pages_from (first + 1) xs es)) 0 ≡ Some (first + 1 + i, take c (drop (sum (take i xs)) es)) →
        slice_get (filter (is_at (first + suc i)) (pages_from (first + 1) xs es)) 0 ≡ Some (first + suc i, take c (drop (sum (take i xs)) es))
    moved es others = subst (λ n. slice_get (filter (is_at n) (pages_from (first + 1) xs es)) 0 ≡ Some (n, take c (drop (sum (take i xs)) es))) at others

    by_zero : (b : Bool) → (x == 0) ≡ b → ((es : List Entry) → slice_get (filter (is_at (first + 1 + i)) (pages_from (first + 1) xs es)) 0 ≡ Some (first + 1 + i, take c (drop (sum (take i xs)) es))) →
        slice_get (filter (is_at (first + suc i)) (cond b (pages_from (first + 1) xs entries) ((first, take x entries) ∷ pages_from (first + 1) xs (drop x entries)))) 0
        ≡ Some (first + suc i, take c (drop (sum (take (suc i) (x ∷ xs))) entries))
    by_zero true z others =
        let n = eqb-true x 0 z in
        let same : sum (take i xs) ≡ sum (take (suc i) (x ∷ xs)) = omega (arith, total, n) in
        moved entries (others entries) ∙ ap (λ k. Some (first + suc i, take c (drop k entries))) same
    by_zero false z others =
        let other : (first == first + suc i) ≡ false = false_from_ne_true (first == first + suc i) (λ b. let n = eqb-true first (first + suc i) b in omega (arith, n)) in
        let page : ℕ × List Entry = (first, take x entries) in
        let same : sum (take i xs) + x ≡ sum (take (suc i) (x ∷ xs)) = omega (arith, total) in
        ap (λ b. slice_get (cond b (page ∷ filter (is_at (first + suc i)) (pages_from (first + 1) xs (drop x entries))) (filter (is_at (first + suc i)) (pages_from (first + 1) xs (drop x entries)))) 0) other
        ∙ (moved (drop x entries) (others (drop x entries))
        ∙ (ap (λ (es : List Entry). Some (first + suc i, take c es)) (drop-drop (sum (take i xs)) x entries)
        ∙ ap (λ k. Some (first + suc i, take c (drop k entries))) (let swap : x + sum (take i xs) ≡ sum (take (suc i) (x ∷ xs)) = omega (arith, total) in swap)))

-- ---- bitmaps

mask-same : (plan : Plan) (buckets : Buckets) (span : Span) → AreBucketsOf plan buckets → mask_of plan span ≡ mask_in buckets span
mask-same plan buckets span same =
    ap (λ n. cond (int_le span.low span.high) (bits_from n (bucket_of plan span.high + 1 - n)) 0) (bucket_of-is plan buckets span.low same)
    ∙ ap (λ n. cond (int_le span.low span.high) (bits_from (bucket_in buckets span.low) (n + 1 - bucket_in buckets span.low)) 0) (bucket_of-is plan buckets span.high same)

bitmap-same : (plan : Plan) (buckets : Buckets) (entries : List Entry) → AreBucketsOf plan buckets → (plan.bits ≡ 0 → ⊥) → bitmap_of plan entries ≡ bitmap_in (Some buckets) (map stored_row entries)
bitmap-same plan buckets entries same some =
    ap (λ b. cond b 0 (fold (λ bits (entry : Entry). bit_or bits (2 ^ bucket_of plan (unwrap_or (slice_get entry.kept.values 0) (pos 0)))) 0 entries)) (false_from_ne_true (plan.bits == 0) (λ e. some (eqb-true plan.bits 0 e)))
    ∙ bits-same plan buckets 0 entries same

missed-by : (indexed : Bool) (n : ℕ) → (indexed && (n == 0)) ≡ not (not indexed || nat_lt 0 n)
missed-by true n = sym (not-not (n == 0)) ∙ ap not (mask-meets n)
missed-by false n = refl

module _ {KNOTS SLOTS : ℕ} (t : Table KNOTS SLOTS) (contents : Contents) (h : IsStanding t contents) where
  -- a page is missed where the model doesn't want it
  module _ (number : ℕ) (from : oldest_in t ≤ number) (before : number < next_in t) where
    abbrev place : ℕ
    place = number - rings.oldest h.table.rows

    abbrev entries : List Entry
    entries = rows_at h.table (number - rings.oldest h.table.rows) (rows_noted t number)

    pub rows-are : rows_on t contents number ≡ map stored_row entries
    rows-are = sym (ap (rows_on t contents) (back t contents h number from)) ∙ kept-rows t contents h place (rows_noted t number) (at-number t contents h number from before)

    plain : t.bitmaps ≡ None → is_indexed h.plan h.table number ≡ false
    plain is =
        let none = subst (λ (o : Option BitmapIndex). ArePlanned o (h.first + h.plan.data_blocks) h.plan) is h.stands.planned.index in
        ap (λ n. nat_lt 0 n && (waits h.table number || is_listed h.plan h.table number)) none.0

    with_index : (span : Span) (index : BitmapIndex) → t.bitmaps ≡ Some index → (buckets : Option Buckets) → t.buckets ≡ buckets →
        (is_indexed_in t.bitmaps number && (bit_and (bitmap_in buckets (rows_on t contents number)) (mask_for buckets span) == 0)) ≡ not (wants_page h.plan h.table (Some span) number entries)
    with_index span index is None has = absurd (some-bits t h.flash h.first h.plan h.table h.stands index is (subst (HasBuckets h.plan) has h.stands.planned.buckets))
    with_index span index is (Some buckets) has =
        let same = subst (HasBuckets h.plan) has h.stands.planned.buckets in
        let indexed = indexed-is index h.flash (h.first + h.plan.data_blocks) h.plan h.table (index-stands t h.flash h.first h.plan h.table h.stands index is) number in
        let bits = ap (bitmap_in (Some buckets)) rows-are ∙ sym (bitmap-same h.plan buckets entries same (some-bits t h.flash h.first h.plan h.table h.stands index is)) in
        ap (λ (o : Option BitmapIndex). is_indexed_in o number && (bit_and (bitmap_in (Some buckets) (rows_on t contents number)) (mask_in buckets span) == 0)) is
        ∙ (ap (λ b. b && (bit_and (bitmap_in (Some buckets) (rows_on t contents number)) (mask_in buckets span) == 0)) (sym indexed)
        ∙ (ap (λ n. is_indexed h.plan h.table number && (bit_and n (mask_in buckets span) == 0)) bits
        ∙ (ap (λ n. is_indexed h.plan h.table number && (bit_and (bitmap_of h.plan entries) n == 0)) (sym (mask-same h.plan buckets span same))
        ∙ missed-by (is_indexed h.plan h.table number) (bit_and (bitmap_of h.plan entries) (mask_of h.plan span)))))

    pub missed-wanted : (span : Option Span) → is_missed t span number (rows_on t contents number) ≡ not (wants_page h.plan h.table span number entries)
    missed-wanted None = refl
    missed-wanted (Some span) = by_index t.bitmaps refl
      where
        by_index : (bitmaps : Option BitmapIndex) → t.bitmaps ≡ bitmaps → (is_indexed_in t.bitmaps number && (bit_and (bitmap_in t.buckets (rows_on t contents number)) (mask_for t.buckets span) == 0)) ≡ not (wants_page h.plan h.table (Some span) number entries)
        by_index None is =
            ap (λ (o : Option BitmapIndex). is_indexed_in o number && (bit_and (bitmap_in t.buckets (rows_on t contents number)) (mask_for t.buckets span) == 0)) is
            ∙ sym (ap (λ b. not (not b || nat_lt 0 (bit_and (bitmap_of h.plan entries) (mask_of h.plan span)))) (plain is))
        by_index (Some index) is = with_index span index is t.buckets refl

    -- .. and it lies beyond the last key where the model's index tells so
    begins-same : (top : Option ℕ) → 0 < rows_noted t number → begins_above top (rows_on t contents number) ≡ not (is_up_to top (model.first_key entries))
    begins-same top some = ap (begins_above top) rows-are ∙ by_rows entries (omega (arith, some, standing-many t contents h number from before, ap (λ (xs : List Row). length xs) rows-are))
      where
        by_rows : (xs : List Entry) → 0 < length (map stored_row xs) → begins_above top (map stored_row xs) ≡ not (is_up_to top (model.first_key xs))
        by_rows [] lt = absurd (omega (arith, lt))
        by_rows (x ∷ xs) lt = refl

    pub beyond-same : (span : Option Span) (top : Option ℕ) → 0 < rows_noted t number → is_beyond t contents span top number ≡ skipping.is_beyond h.plan h.table span top number entries
    beyond-same None top some = refl
    beyond-same (Some span) top some = by_index t.bitmaps refl
      where
        by_index : (bitmaps : Option BitmapIndex) → t.bitmaps ≡ bitmaps → ((has_full t.bitmaps && is_indexed_in t.bitmaps number) && begins_above top (rows_on t contents number)) ≡ ((h.plan.full_index && is_indexed h.plan h.table number) && not (is_up_to top (model.first_key entries)))
        by_index None is =
            ap (λ (o : Option BitmapIndex). (has_full o && is_indexed_in o number) && begins_above top (rows_on t contents number)) is
            ∙ sym (and_left _ (not (is_up_to top (model.first_key entries))) (and_right h.plan.full_index (is_indexed h.plan h.table number) (plain is)))
        by_index (Some index) is =
            let planned = subst (λ (o : Option BitmapIndex). ArePlanned o (h.first + h.plan.data_blocks) h.plan) is h.stands.planned.index in
            let indexed = indexed-is index h.flash (h.first + h.plan.data_blocks) h.plan h.table (index-stands t h.flash h.first h.plan h.table h.stands index is) number in
            ap (λ (o : Option BitmapIndex). (has_full o && is_indexed_in o number) && begins_above top (rows_on t contents number)) is
            ∙ (ap (λ b. (b && is_indexed_in (Some index) number) && begins_above top (rows_on t contents number)) (sym planned.full)
            ∙ (ap (λ b. (h.plan.full_index && b) && begins_above top (rows_on t contents number)) (sym indexed)
            ∙ ap (λ b. (h.plan.full_index && is_indexed h.plan h.table number) && b) (begins-same top some)))

    -- .. in the words of the scan limit
    pub wanted-same : (span : Option Span) → 0 < rows_noted t number → wants_page h.plan h.table span number entries ≡ is_wanted h.plan h.table span number
    wanted-same None some = refl
    wanted-same (Some span) some =
        let page = page-in (rings.oldest h.table.rows) h.table.rows.counts h.table.entries place (rows_noted t number) (at-number t contents h number from before) some in
        let at = back t contents h number from in
        let rows : rows_of_page h.table number ≡ entries =
        ap (rows_of_page h.table) (sym at) ∙ ap (λ (o : Option (ℕ × List Entry)). unwrap_or (option_map (λ (page : ℕ × List Entry). page.1) o) []) page in
        ap (λ (es : List Entry). not (is_indexed h.plan h.table number) || nat_lt 0 (bit_and (bitmap_of h.plan es) (mask_of h.plan span))) (sym rows)

-- ---- rows that don't match

pub none-matches : (asked : Cursor) (entries : List Entry) → selected asked.range asked.span entries ≡ [] → AllByRecursion (λ (e : Entry). matches asked.range asked.span e.kept ≡ false) entries
none-matches asked [] e = tt
none-matches asked (x ∷ xs) e = by_match (matches asked.range asked.span x.kept) refl e (λ others. none-matches asked xs others)
  where
    by_match : (b : Bool) → matches asked.range asked.span x.kept ≡ b → cond b (x ∷ selected asked.range asked.span xs) (selected asked.range asked.span xs) ≡ [] →
        (selected asked.range asked.span xs ≡ [] → AllByRecursion (λ (e : Entry). matches asked.range asked.span e.kept ≡ false) xs) →
        (matches asked.range asked.span x.kept ≡ false) × AllByRecursion (λ (e : Entry). matches asked.range asked.span e.kept ≡ false) xs
    by_match true is e later = absurd (some e)
      where
        some : ◌≡◌ {A = List Entry} (x ∷ selected asked.range asked.span xs) [] → ⊥
        some e = cc
    by_match false is e later = (is, later e)

pub unmatched-left : (asked : Cursor) (entries : List Entry) → AllByRecursion (λ (e : Entry). matches asked.range asked.span e.kept ≡ false) entries → NotLeft asked (map stored_row entries)
unmatched-left asked [] h = tt
unmatched-left asked (x ∷ xs) h = (ap (λ b. (b && is_above asked.after x.kept.key) && is_up_to asked.top x.kept.key) h.0, unmatched-left asked xs h.1)

pub unmatched-asked : (asked : Cursor) (entries : List Entry) → AllByRecursion (λ (e : Entry). matches asked.range asked.span e.kept ≡ false) entries → list_any (is_asked asked) (map stored_row entries) ≡ false
unmatched-asked asked [] h = refl
unmatched-asked asked (x ∷ xs) h = ap (λ b. (b && is_up_to asked.top x.kept.key) || list_any (is_asked asked) (map stored_row xs)) h.0 ∙ unmatched-asked asked xs h.1
