-- The pages that a table keeps.
use Rattle.std.proofs.Common.{◌≡◌, ℕ, ◌+◌, ◌-◌, ◌^◌, ◌<◌, ◌≤◌, ◌⊎◌, inl, inr, Bool, true, ◌&&◌, ◌||◌, ◌==◌, cond, nat_lt, Option, Some, None, IfSome, option_map, unwrap_or, slice_get, List, [], ◌∷◌, length, map, take, drop, refl, sym, subst, ap, ◌∙◌, arith, length-drop}
use Rattle.std.specs.List.{last_or, sum, AllByRecursion}
use Rattle.std.proofs.lemmas.Bool.{eq-eqb, lt-ltb, cases_lt}
use Rattle.std.proofs.lemmas.List.{length-take-le}
use Rattle.std.proofs.lemmas.Option.{slice_get-map, none-some, same_Some}
use Rattle.fl_model.specs.Agrees.{reach_of}
use Rattle.fl_model.specs.Facts.{IsTable, IsContent, FitsPlan, BlobFits, is_some_ring}
use Rattle.fl_model.specs.Image.{HoldsRows, HoldsEntries as HoldsListing, HoldsContent, rows_at}
use Rattle.fl_model.specs.Index.{IndexPage}
use Rattle.fl_model.specs.Mount.{index_end}
use Rattle.fl_model.specs.Record.{Plan, has_var, entries_per_page}
use Rattle.fl_model.specs.Ring.{Ring, IsRing, oldest}
use Rattle.fl_model.specs.Row.{stored_row}
use Rattle.fl_model.specs.Table.{Table, Entry, DataRing, VarRing, shape_of, written, firsts, full_pages}
use Rattle.fl_model.proofs.Lists.{slice_get-some, slice_get-short, slice_get-take, slice_get-drop, slice_get-front, each-drop, each-take, each-at, last_or-get, sum-within}
use Rattle.fl_model.proofs.BlobEnds.{AreNumbered}
use Rattle.fl_model.proofs.StoredRows.{row_of_blob, all-stored}
use Rattle.fl_page.proofs.DataPages.{entries-ascend}
use Rattle.fl_rules.specs.ContentPage.{IsContentPage}
use Rattle.fl_rules.specs.DataPage.{HoldsEntries, is_plain, are_plain}
use Rattle.fl_rules.specs.IndexPage.{IsIndexPage}
use Rattle.fl_check.specs.KeptPages.{KeptPagesAreGood}
use Rattle.fl_rules.proofs.ContentPages.{content_of_page}

-- ---- one entry

module _ (plan : Plan) (entry : Entry) (fits : FitsPlan plan entry) where
  row-plain : is_plain (stored_row entry).blob ≡ true
  row-plain = by_blob entry.kept.blob refl fits.blob
    where
      by_length : (xs : List ℕ) → (length xs ≡ 0 → (entry.page ≡ 0) × (entry.offset ≡ 0)) → (nat_lt 0 (length xs) || ((entry.page == 0) && (entry.offset == 0))) ≡ true
      by_length [] none = let both = none refl in ap (λ (b : Bool). b && (entry.offset == 0)) (eq-eqb entry.page 0 both.0) ∙ eq-eqb entry.offset 0 both.1
      by_length (x ∷ xs) none = ap (λ (b : Bool). b || ((entry.page == 0) && (entry.offset == 0))) (lt-ltb 0 (length (x ∷ xs)) (omega arith))

      by_blob : (o : Option (List ℕ)) → entry.kept.blob ≡ o → BlobFits plan entry o → is_plain (stored_row entry).blob ≡ true
      by_blob None e b = ap (λ (o : Option (List ℕ)). is_plain (row_of_blob entry o).blob) e
      by_blob (Some bytes) e b = ap (λ (o : Option (List ℕ)). is_plain (row_of_blob entry o).blob) e ∙ by_length bytes b.3

-- ---- entries

pub rows-plain : (plan : Plan) (entries : List Entry) → AllByRecursion (FitsPlan plan) entries → are_plain (map stored_row entries) ≡ true
rows-plain plan [] fit = refl
rows-plain plan (entry ∷ entries) fit = rw (row-plain plan entry fit.0) (rows-plain plan entries fit.1)

-- ---- a table

module _ (plan : Plan) (table : Table) (facts : IsTable plan table) where
  written-numbered : AreNumbered (written table)
  written-numbered i entry blob e is some =
      by_ring table.var facts.has_rings.1 facts.var (facts.numbers VarRing) (facts.blobs i entry blob e is some)
    where
      fit : BlobFits plan entry (Some blob)
      fit = subst (BlobFits plan entry) is (each-at (FitsPlan plan) table.entries i entry facts.fit (slice_get-front (length table.entries - table.pending) table.entries i entry e)).blob

      by_ring : (o : Option Ring) → is_some_ring o ≡ has_var plan → IfSome o (IsRing (shape_of plan VarRing)) → IfSome o (λ ring. ring.next + (cond ring.torn 1 0) ≤ 4294967292)
          → IfSome o (λ ring. (entry.page < oldest ring) ⊎ ((oldest ring ≤ entry.page) × (slice_get ring.counts (entry.page - oldest ring) ≡ Some 1) × (entry.page + reach_of plan entry blob < ring.next))) → entry.page + 1 < 2 ^ 32
      by_ring None has ring small at = absurd (cc (has ∙ fit.0))
      by_ring (Some ring) has is_ring small (inl before) = omega (arith, before, small)
      by_ring (Some ring) has is_ring small (inr within) = omega (arith, within.2, small)

module _ (plan : Plan) (table : Table) (facts : IsTable plan table) (i count : ℕ) (at : slice_get table.rows.counts i ≡ Some count) where
  abbrev start : ℕ
  start = sum (take i table.rows.counts)

  ends : sum (take i table.rows.counts) + count ≤ length table.entries - table.pending
  ends = let part = sum-within table.rows.counts i count at in omega (arith, part, facts.counted)

  row-count : length (rows_at table i count) ≡ count
  row-count = length-take-le count (drop start table.entries) (omega (arith, ends, length-drop start table.entries))

  rows-numbered : AreNumbered (rows_at table i count)
  rows-numbered j entry blob e =
      let short = slice_get-short (rows_at table i count) j entry e in
      let there : slice_get (written table) (start + j) ≡ Some entry =
      slice_get-take (length table.entries - table.pending) table.entries (start + j) (omega (arith, short, row-count, ends))
      ∙ sym (slice_get-drop start table.entries j) ∙ slice_get-front count (drop start table.entries) j entry e in
      written-numbered plan table facts (start + j) entry blob there

  rows-fit : AllByRecursion (FitsPlan plan) (rows_at table i count)
  rows-fit = each-take (FitsPlan plan) count (drop start table.entries) (each-drop (FitsPlan plan) start table.entries facts.fit)

  rows-good : (page : List ℕ) → 0 < count → HoldsRows plan table i count page → HoldsEntries plan (oldest table.rows + i) page
  rows-good page some is = record {
    entries = rows_at table i count;
    some = omega (arith, some, row-count);
    few = rw row-count (each-at _ table.rows.counts i count facts.few_rows at);
    storable = all-stored plan (rows_at table i count) rows-numbered rows-fit;
    plain = rows-plain plan (rows_at table i count) rows-fit;
    bytes = is;
  }

-- ---- index pages

first-below : (room first k : ℕ) (firsts : List ℕ) → slice_get firsts k ≡ Some first → ((i j a b : ℕ) → i < j → slice_get firsts i ≡ Some a → slice_get firsts j ≡ Some b → a + room ≤ b)
    → first ≤ unwrap_or (option_map (λ page. page + room) (last_or None firsts)) 0
first-below room first k [] at ascending = absurd (none-some first at)
first-below room first k (x ∷ xs) at ascending =
    let last = slice_get-some (x ∷ xs) (length xs) (omega arith) in
    let end : unwrap_or (option_map (λ page. page + room) (last_or None (x ∷ xs))) 0 ≡ last.0 + room =
    ap (λ (o : Option ℕ). unwrap_or (option_map (λ page. page + room) o) 0) (last_or-get None x xs ∙ last.1) in
    let short = slice_get-short (x ∷ xs) k first at in
    elim (cases_lt k (length xs)) [
      | inl before ↦ let step = ascending k (length xs) first last.0 before at last.1 in omega (arith, step, end)
      | inr past ↦
          let k_is : k ≡ length xs = omega (arith, past, short) in
          let same : first ≡ last.0 = same_Some _ _ (sym at ∙ ap (slice_get (x ∷ xs)) k_is ∙ last.1) in
          omega (arith, same, end)
    ]

index-good : (plan : Plan) (table : Table) (ring : Ring) (i count : ℕ) (page : List ℕ) → IsTable plan table → HoldsListing plan table ring i count page → IsIndexPage plan (oldest ring + i) page
index-good plan table ring i count page facts is =
    let k = full_pages (take i ring.counts) in
    let first : slice_get (firsts table) (full_pages (take i ring.counts)) ≡ Some is.holds.first = slice_get-map (λ (p : IndexPage). p.first) table.index_pages k ∙ ap (λ (o : Option IndexPage). option_map (λ (p : IndexPage). p.first) o) is.is in
    let low : is.holds.first ≤ index_end plan table = first-below (entries_per_page plan) is.holds.first k (firsts table) first facts.firsts in
    record {
      first = is.holds.first;
      entries = is.holds.entries;
      small = omega (arith, low, facts.listed, facts.numbers DataRing);
      full = each-at _ table.index_pages k is.holds facts.index_fit is.is;
      bytes = is.bytes;
    }

-- ---- pages of variable data

content-good : (plan : Plan) (table : Table) (ring : Ring) (i count : ℕ) (page : List ℕ) → IsTable plan table → HoldsContent table ring i count page → IsContentPage (oldest ring + i) page
content-good plan table ring i count page facts is =
    content_of_page page (oldest ring + i) plan is.holds (each-at (IsContent plan) table.var_pages (full_pages (take i ring.counts)) is.holds facts.var_fit is.is) is.bytes

pub good : KeptPagesAreGood
good = record {
  rows = λ plan table i count page facts at some is. rows-good plan table facts i count at page some is;
  keys = λ plan table facts. entries-ascend None table.entries (λ entry is. refl) facts.ascending;
  index = index-good;
  content = content-good;
}
