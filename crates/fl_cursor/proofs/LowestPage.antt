-- The page of the lowest key: where it is, and what is in front of it.
use Rattle.std.proofs.Common.{◌≡◌, ℕ, zero, suc, ◌+◌, ◌-◌, ◌<◌, ◌≤◌, Bool, true, false, ◌&&◌, ◌||◌, cond, nat_le, Option, Some, None, option_map, unwrap_or, List, [], ◌∷◌, ◌++◌, map, refl, sym, ◌∙◌, ap, subst, append_assoc, arith}
use Rattle.std.specs.List.{slice_get, AllByRecursion, list_any}
use Rattle.std.proofs.Math.Path.{fun_ext}
use Rattle.std.proofs.lemmas.Bool.{leb-true, le-leb, false_from_ne_true}
use Rattle.fl_base.proofs.Tests.{one_at_most}
use Rattle.fl_find.specs.Index.{most_reads}
use Rattle.fl_find.specs.Pages.{first_key, first_on}
use Rattle.fl_find.specs.Pages as find
use Rattle.fl_find.proofs.Modelled.{found}
use Rattle.fl_flash.specs.Flash.{FlashState, page_at}
use Rattle.fl_flash.specs.Places.{page_of}
use Rattle.fl_index.specs.Standing.{HoldsIndex}
use Rattle.fl_index.specs.declared.index.BitmapIndex.{BitmapIndex}
use Rattle.fl_model.specs.Query.{Cursor, in_range, in_span, is_up_to}
use Rattle.fl_model.specs.Record.{Plan}
use Rattle.fl_model.specs.Ring as rings
use Rattle.fl_model.specs.Row.{Row, stored_row}
use Rattle.fl_model.specs.Spline.{page_at as page_with, is_pending_key, lookup_limit}
use Rattle.fl_model.specs.Table as tables
use Rattle.fl_model.specs.Table.{Entry, VarRing, lose, pending_entries}
use Rattle.fl_model.proofs.Lists.{each-back, each-front}
use Rattle.fl_frame.specs.Contents.{Contents, contents_of}
use Rattle.fl_ring.specs.Place.{shape_of}
use Rattle.fl_search.specs.Search.{IsPageOf, starts_by}
use Rattle.fl_parts.specs.Bitmaps.{Stand}
use Rattle.fl_table.specs.Look.{layout_in, oldest_in, buffered_rows}
use Rattle.fl_table.specs.Memory.{next_in}
use Rattle.fl_parts.specs.Pages.{place_in}
use Rattle.fl_table.specs.Standing.{Stands}
use Rattle.fl_table.specs.declared.table.Table.{Table}
use Rattle.fl_parts.proofs.BlobsOfTable as blobbing
use Rattle.fl_table.proofs.Finds.{holds-pages, limit-told}
use Rattle.fl_parts.proofs.Images.{holds-same}
use Rattle.fl_table.proofs.KeptRead.{ring-place}
use Rattle.fl_table.proofs.MemoryTells.{next-is, oldest-is, pages-is}
use Rattle.fl_cursor.specs.Ascending.{both}
use Rattle.fl_cursor.specs.Asked.{is_asked, row_matches, lowest, lowest_of}
use Rattle.fl_cursor.specs.Cursor.{IsStanding}
use Rattle.fl_cursor.specs.Listed.{rows_on, rows_over}
use Rattle.fl_cursor.specs.Reads.{begins_by, start_among, start_of, most_to_find, pages_asked, raised}
use Rattle.fl_cursor.proofs.Stood.{same-rows, standing-buffered}

-- an index that stands on a flash stands on each with the same pages
stand-moved : (bitmaps : Option BitmapIndex) (old new : FlashState) (first : ℕ) (plan : Plan) (table : tables.Table) → page_at old ≡ page_at new → Stand bitmaps old first plan table → Stand bitmaps new first plan table
stand-moved None old new first plan table same h = h
stand-moved (Some index) old new first plan table same h = record {
  in_ring = record {
    planned = h.in_ring.planned;
    ring = h.in_ring.ring;
    facts = h.in_ring.facts;
    whole = h.in_ring.whole;
    clean = h.in_ring.clean;
    pages = subst (λ (page : ℕ → List ℕ). HoldsIndex page first plan table h.in_ring.ring) same h.in_ring.pages;
    in_memory = h.in_ring.in_memory;
    memory_is = h.in_ring.memory_is;
    next = h.in_ring.next;
    oldest_is = h.in_ring.oldest_is;
    first_of = h.in_ring.first_of;
  };
  waits = h.waits;
}

-- what stands on a flash stands on each that holds the same
pub stands-moved : {KNOTS SLOTS : ℕ} (t : Table KNOTS SLOTS) (f : FlashState) (h : IsStanding t (contents_of f)) → Stands t f h.first h.plan h.table
stands-moved t f h = record {
  planned = h.stands.planned;
  facts = h.stands.facts;
  whole = h.stands.whole;
  clean = h.stands.clean;
  pages = holds-same (page_at h.flash) (page_at f) h.first h.plan (lose h.table)
      (λ ring number. ap (λ (c : Contents). page_of c.bytes c.start c.geometry.page (place_in h.first h.plan ring number)) (sym h.same)) h.stands.pages;
  memory = h.stands.memory;
  bitmaps = stand-moved t.bitmaps h.flash f (h.first + h.plan.data_blocks) h.plan h.table
      (fun_ext (λ n. ap (λ (c : Contents). page_of c.bytes c.start c.geometry.page n) h.same)) h.stands.bitmaps;
  blobs = blobbing.stand-moved t.blobs h.flash f h.first h.plan h.table h.table
      (λ number. ap (λ (c : Contents). page_of c.bytes c.start c.geometry.page (place_in h.first h.plan VarRing number)) (sym h.same)) refl refl refl (λ i entry e. (i, e)) h.stands.blobs;
  points = h.stands.points;
}

-- ---- the page with the key

module _ {KNOTS SLOTS : ℕ} (t : Table KNOTS SLOTS) (contents : Contents) (h : IsStanding t contents) where
  first_of : ℕ → Option ℕ
  first_of n = first_key (rows_on t contents n)

  told-first : (n : ℕ) → oldest_in t ≤ n → n < next_in t → first_on (layout_in t) (shape_of h.stands.memory.ring) h.flash n ≡ first_key (rows_on t contents n)
  told-first n from before =
      ap (λ k. first_key (find.rows_on (layout_in t) (page_at h.flash k))) (sym (ring-place t h.stands.memory.ring n h.stands.memory.ring_is))
      ∙ ap first_key (same-rows t contents h n from before)

  told-starts : (key n : ℕ) → oldest_in t ≤ n → n < next_in t → starts_by (first_on (layout_in t) (shape_of h.stands.memory.ring) h.flash) key n ≡ begins_by key (rows_on t contents n)
  told-starts key n from before = ap (λ (o : Option ℕ). unwrap_or (option_map (λ x. nat_le x key) o) false) (told-first n from before)

  -- the greatest page that begins by the key, or none
  abbrev pub IsStart : ℕ → Option ℕ → Type 0
  IsStart key page = IsPageOf (λ n. first_key (rows_on t contents n)) (oldest_in t) (next_in t) key page

  pub standing-start : (key : ℕ) → IsPageOf (λ n. first_key (rows_on t contents n)) (oldest_in t) (next_in t) key (page_with h.table key)
  standing-start key = by_page (page_with h.table key) (found (layout_in t) h.stands.memory.ring h.flash h.plan h.table
      (holds-pages t h.flash h.first h.plan h.table h.stands.memory.ring h.stands h.lies h.reaches h.stands.memory.ring_is h.tells) key)
    where
      oldest : oldest_in t ≡ rings.oldest h.table.rows
      oldest = oldest-is t h.flash h.first h.plan h.table h.stands

      next : next_in t ≡ h.table.rows.next
      next = next-is t h.flash h.first h.plan h.table h.stands

      by_page : (page : Option ℕ) → IsPageOf (first_on (layout_in t) (shape_of h.stands.memory.ring) h.flash) (rings.oldest h.table.rows) h.table.rows.next key page →
          IsPageOf (λ n. first_key (rows_on t contents n)) (oldest_in t) (next_in t) key page
      by_page None is = λ n from before.
          sym (told-starts key n from before) ∙ is n (omega (arith, from, oldest)) (omega (arith, before, next))
      by_page (Some page) is =
          let from : oldest_in t ≤ page = omega (arith, is.from, oldest) in
          let before : page < next_in t = omega (arith, is.before, next) in
          record {
            from = from;
            before = before;
            here = sym (told-starts key page from before) ∙ is.here;
            later = λ n past within. sym (told-starts key n (omega (arith, from, past)) within) ∙ is.later n past (omega (arith, within, next));
          }

none-begins : {KNOTS SLOTS : ℕ} (t : Table KNOTS SLOTS) (contents : Contents) (key n : ℕ) → ((k : ℕ) → oldest_in t ≤ k → k < oldest_in t + n → begins_by key (rows_on t contents k) ≡ false) → start_among t contents key n ≡ oldest_in t
none-begins t contents key zero none = refl
none-begins t contents key (suc n) none =
    ap (λ b. cond b (oldest_in t + n) (start_among t contents key n)) (none (oldest_in t + n) (omega arith) (omega arith))
    ∙ none-begins t contents key n (λ k from before. none k from (omega (arith, before)))

begins-at : {KNOTS SLOTS : ℕ} (t : Table KNOTS SLOTS) (contents : Contents) (key i m : ℕ) → begins_by key (rows_on t contents (oldest_in t + i)) ≡ true →
    ((k : ℕ) → oldest_in t + i < k → k < oldest_in t + i + 1 + m → begins_by key (rows_on t contents k) ≡ false) → start_among t contents key (suc i + m) ≡ oldest_in t + i
begins-at t contents key i zero here later =
    ap (start_among t contents key) (let e : suc i + 0 ≡ suc i = omega arith in e) ∙ ap (λ b. cond b (oldest_in t + i) (start_among t contents key i)) here
begins-at t contents key i (suc m) here later =
    let at : oldest_in t + (suc i + m) ≡ oldest_in t + i + 1 + m = omega arith in
    ap (start_among t contents key) (let e : suc i + suc m ≡ suc (suc i + m) = omega arith in e)
    ∙ (ap (λ b. cond b (oldest_in t + (suc i + m)) (start_among t contents key (suc i + m))) (later (oldest_in t + (suc i + m)) (omega arith) (omega arith))
    ∙ begins-at t contents key i m here (λ k past before. later k past (omega (arith, before))))

-- it is where the rows are read from
pub start-is : {KNOTS SLOTS : ℕ} (t : Table KNOTS SLOTS) (contents : Contents) (key : ℕ) (page : Option ℕ) → IsPageOf (λ n. first_key (rows_on t contents n)) (oldest_in t) (next_in t) key page → start_of t contents key ≡ unwrap_or page (oldest_in t)
start-is t contents key None is = none-begins t contents key (next_in t - oldest_in t) (λ k from before. is k from (omega (arith, before)))
start-is t contents key (Some page) is =
    let i = page - oldest_in t in
    let m = next_in t - (page + 1) in
    let at : oldest_in t + i ≡ page = omega (arith, is.from) in
    let many : next_in t - oldest_in t ≡ suc i + m = omega (arith, is.from, is.before) in
    ap (start_among t contents key) many
    ∙ (begins-at t contents key i m (ap (λ k. begins_by key (rows_on t contents k)) at ∙ is.here) (λ k past before. is.later k (omega (arith, past, at)) (omega (arith, before, is.from, is.before)))
    ∙ at)

-- ---- the pages in front of it

pub over-split : {KNOTS SLOTS : ℕ} (t : Table KNOTS SLOTS) (contents : Contents) (k m number : ℕ) → rows_over t contents number (k + m) ≡ rows_over t contents number k ++ rows_over t contents (number + k) m
over-split t contents zero m number = ap (rows_over t contents number) (let e : 0 + m ≡ m = omega arith in e) ∙ ap (λ n. rows_over t contents n m) (let e : number ≡ number + 0 = omega arith in e)
over-split t contents (suc k) m number =
    ap (rows_over t contents number) (let e : suc k + m ≡ suc (k + m) = omega arith in e)
    ∙ (ap (λ (xs : List Row). rows_on t contents number ++ xs) (over-split t contents k m (number + 1))
    ∙ (sym (append_assoc (rows_on t contents number) (rows_over t contents (number + 1) k) (rows_over t contents (number + 1 + k) m))
    ∙ ap (λ n. (rows_on t contents number ++ rows_over t contents (number + 1) k) ++ rows_over t contents n m) (let e : number + 1 + k ≡ number + suc k = omega arith in e)))

pub asked-split : {KNOTS SLOTS : ℕ} (t : Table KNOTS SLOTS) (contents : Contents) (asked : Cursor) (k m number : ℕ) → pages_asked t contents asked number (k + m) ≡ pages_asked t contents asked number k + pages_asked t contents asked (number + k) m
asked-split t contents asked zero m number =
    let e : 0 + m ≡ m = omega arith in
    let s : number ≡ number + 0 = omega arith in
    ap (pages_asked t contents asked number) e ∙ (ap (λ n. pages_asked t contents asked n m) s ∙ omega arith)
asked-split t contents asked (suc k) m number =
    let e : suc k + m ≡ suc (k + m) = omega arith in
    let s : number + 1 + k ≡ number + suc k = omega arith in
    let others = asked-split t contents asked k m (number + 1) ∙ ap (λ n. pages_asked t contents asked (number + 1) k + pages_asked t contents asked n m) s in
    ap (pages_asked t contents asked number) e ∙ omega (arith, others)

none-raised : (asked : Cursor) (rows : List Row) → AllByRecursion (λ row. row.key < lowest_of asked) rows → list_any (is_asked (raised asked)) rows ≡ false
none-raised asked [] below = refl
none-raised asked (row ∷ rows) below =
    let low : nat_le (lowest_of asked) row.key ≡ false = false_from_ne_true (nat_le (lowest_of asked) row.key) (λ e. let le = leb-true (lowest_of asked) row.key e in omega (arith, le, below.0)) in
    ap (λ b. (((b && nat_le row.key asked.range.high) && in_span asked.span (slice_get row.values 0)) && is_up_to asked.top row.key) || list_any (is_asked (raised asked)) rows) low
    ∙ none-raised asked rows below.1

pub raised-below : {KNOTS SLOTS : ℕ} (t : Table KNOTS SLOTS) (contents : Contents) (asked : Cursor) (n number : ℕ) → AllByRecursion (λ row. row.key < lowest_of asked) (rows_over t contents number n) → pages_asked t contents (raised asked) number n ≡ 0
raised-below t contents asked zero number below = refl
raised-below t contents asked (suc n) number below =
    let here = none-raised asked (rows_on t contents number) (each-front (λ row. row.key < lowest_of asked) (rows_on t contents number) (rows_over t contents (number + 1) n) below) in
    let others = raised-below t contents asked n (number + 1) (each-back (λ row. row.key < lowest_of asked) (rows_on t contents number) (rows_over t contents (number + 1) n) below) in
    ap (λ b. cond b 1 0 + pages_asked t contents (raised asked) (number + 1) n) here ∙ omega (arith, others)

-- what is asked from the lowest key on is asked
raised-asked : (asked : Cursor) (row : Row) → asked.range.low ≤ lowest_of asked → is_asked (raised asked) row ≡ true → is_asked asked row ≡ true
raised-asked asked row low is =
    let parts = both (row_matches (raised asked).range asked.span row) (is_up_to asked.top row.key) is in
    let matching = both (in_range (raised asked).range row.key) (in_span asked.span (slice_get row.values 0)) parts.0 in
    let within = both (nat_le (lowest_of asked) row.key) (nat_le row.key asked.range.high) matching.0 in
    let from = leb-true (lowest_of asked) row.key within.0 in
    ap (λ b. ((b && nat_le row.key asked.range.high) && in_span asked.span (slice_get row.values 0)) && is_up_to asked.top row.key) (le-leb asked.range.low row.key (omega (arith, low, from)))
    ∙ (ap (λ b. (b && in_span asked.span (slice_get row.values 0)) && is_up_to asked.top row.key) within.1
    ∙ (ap (λ b. b && is_up_to asked.top row.key) matching.1 ∙ parts.1))

any-fewer : (p q : Row → Bool) (rows : List Row) → ((row : Row) → p row ≡ true → q row ≡ true) → cond (list_any p rows) 1 0 ≤ cond (list_any q rows) 1 0
any-fewer p q [] implies = omega arith
any-fewer p q (row ∷ rows) implies = by_row (p row) refl (any-fewer p q rows implies)
  where
    under : (b : Bool) → cond (list_any p rows) 1 0 ≤ cond (list_any q rows) 1 0 → cond (list_any p rows) 1 0 ≤ cond (b || list_any q rows) 1 0
    under true le = one_at_most (list_any p rows)
    under false le = le

    by_row : (b : Bool) → p row ≡ b → cond (list_any p rows) 1 0 ≤ cond (list_any q rows) 1 0 → cond (b || list_any p rows) 1 0 ≤ cond (q row || list_any q rows) 1 0
    by_row true is le = let e : cond (q row || list_any q rows) 1 0 ≡ 1 = ap (λ b. cond {A = ℕ} (b || list_any q rows) 1 0) (implies row is) in omega (arith, e)
    by_row false is le = under (q row) le

pub raised-fewer : {KNOTS SLOTS : ℕ} (t : Table KNOTS SLOTS) (contents : Contents) (asked : Cursor) (n number : ℕ) → asked.range.low ≤ lowest_of asked → pages_asked t contents (raised asked) number n ≤ pages_asked t contents asked number n
raised-fewer t contents asked zero number low = omega arith
raised-fewer t contents asked (suc n) number low =
    let here = any-fewer (is_asked (raised asked)) (is_asked asked) (rows_on t contents number) (λ row is. raised-asked asked row low is) in
    let others = raised-fewer t contents asked n (number + 1) low in
    omega (arith, here, others)

pub lowest-from : (asked : Cursor) → asked.range.low ≤ lowest_of asked
lowest-from asked = by_after asked.after
  where
    by_after : (after : Option ℕ) → asked.range.low ≤ lowest asked.range.low after
    by_after None = omega arith
    by_after (Some after) = omega arith

-- ---- how many reads find it

first-stored : (entries : List Entry) → option_map (λ (entry : Entry). entry.kept.key) (slice_get entries 0) ≡ first_key (map stored_row entries)
first-stored [] = refl
first-stored (e ∷ entries) = refl

pub pending-same : {KNOTS SLOTS : ℕ} (t : Table KNOTS SLOTS) (contents : Contents) (h : IsStanding t contents) (key : ℕ) → is_pending_key h.table key ≡ begins_by key (buffered_rows t)
pending-same t contents h key =
    ap (λ (o : Option ℕ). unwrap_or (option_map (λ first. nat_le first key) o) false) (first-stored (pending_entries h.table) ∙ ap first_key (sym (standing-buffered t contents h)))

pub few-reads : {KNOTS SLOTS : ℕ} (t : Table KNOTS SLOTS) (contents : Contents) (h : IsStanding t contents) (key reads reads_now : ℕ) → reads_now ≤ reads + (next_in t - oldest_in t) + 1 →
    (is_pending_key h.table key ≡ false → reads_now ≤ reads + lookup_limit KNOTS h.plan h.table key) → reads_now ≤ reads + most_to_find t key
few-reads t contents h key reads reads_now most limit = by_pending (begins_by key (buffered_rows t)) refl
  where
    by_pending : (b : Bool) → begins_by key (buffered_rows t) ≡ b → reads_now ≤ reads + cond b (next_in t - oldest_in t + 1) (most_reads t.index (next_in t - oldest_in t) t.voids key)
    by_pending true is = omega (arith, most)
    by_pending false is =
        let free : is_pending_key h.table key ≡ false = pending-same t contents h key ∙ is in
        let le = limit free in
        let same = limit-told t h.flash h.first h.plan h.table key (next_in t - oldest_in t) h.stands free (pages-is t h.flash h.first h.plan h.table h.stands) in
        omega (arith, le, same)
