-- What a cursor that begins reads at most, in the words of the model.
use Rattle.std.proofs.Common.{◌≡◌, ℕ, zero, suc, ◌+◌, ◌-◌, ◌<◌, ◌≤◌, ◌⊎◌, Bool, true, false, ◌&&◌, ◌||◌, cond, min, ◌==◌, nat_le, Option, Some, None, option_map, unwrap_or, IfSome, List, [], ◌∷◌, length, refl, sym, ◌∙◌, ap, subst, arith, inl, inr}
use Rattle.std.specs.List.{count_by, slice_get}
use Rattle.std.proofs.lemmas.Bool.{cases_lt, le-leb, leb-false, leb-true, eq-eqb, true≢false, not-false, or_parts}
use Rattle.std.proofs.lemmas.List.Sums.{sum_by-cons}
use Rattle.fl_base.specs.declared.types.KeyRange.{KeyRange}
use Rattle.fl_base.specs.declared.types.Span.{Span}
use Rattle.fl_find.specs.Index.{most_reads}
use Rattle.fl_find.specs.Pages.{first_key}
use Rattle.fl_model.specs.Limits.{is_wanted, numbers_from, numbers_of, first_page, last_page, in_pages, is_spanned, page_behind, past, scan_limit, is_indexed}
use Rattle.fl_model.specs.Query.{Cursor, is_up_to}
use Rattle.fl_model.specs.Record.{has_index}
use Rattle.fl_model.specs.Ring.{Ring}
use Rattle.fl_model.specs.Row.{Row}
use Rattle.fl_model.specs.Spline.{page_at, is_pending_key, lookup_limit, voids_of}
use Rattle.fl_model.specs.Table.{full_pages}
use Rattle.fl_frame.specs.Contents.{Contents}
use Rattle.fl_search.specs.Search.{IsPageOf}
use Rattle.fl_table.specs.Look.{oldest_in, rows_noted, buffered_rows}
use Rattle.fl_table.specs.Memory.{next_in}
use Rattle.fl_table.specs.declared.table.Table.{Table}
use Rattle.fl_table.proofs.Finds.{limit-told}
use Rattle.fl_table.proofs.MemoryTells.{next-is, oldest-is, pages-is}
use Rattle.fl_cursor.specs.Ascending.{both}
use Rattle.fl_cursor.specs.Asked.{lowest_of}
use Rattle.fl_cursor.specs.Cursor.{IsStanding}
use Rattle.fl_cursor.specs.Listed.{rows_on}
use Rattle.fl_cursor.specs.Reads.{begins_by, has_last, start_of, most_to_find, is_beyond, is_missed, is_skipped, pages_to_last, most_from, IsBegun, IsBounded}
use Rattle.fl_cursor.specs.declared.place.Place.{Place}
use Rattle.fl_cursor.specs.declared.place.Place.TheVariants.{Start, Pages, InPage, Pending, Ended}
use Rattle.fl_cursor.proofs.LowestPage.{standing-start, start-is, pending-same}
use Rattle.fl_cursor.proofs.StartSearch.{begins}
use Rattle.fl_cursor.proofs.Later.{earlier}
use Rattle.fl_cursor.proofs.PageBehind.{IsBehind, behind-before, behind-beyond, behind-is}
use Rattle.fl_cursor.proofs.Stood.{standing-many}
use Rattle.fl_cursor.proofs.Wanted.{missed-wanted, wanted-same}
use Rattle.fl_flash.specs.Buffer.{BufferState}
use Rattle.fl_index.specs.Looking.{after_held, unread}
use Rattle.fl_index.specs.Memory as indexes
use Rattle.fl_index.specs.Page.{page_number}
use Rattle.fl_index.specs.declared.index.BitmapIndex.{BitmapIndex}
use Rattle.fl_index.proofs.LookupsOfTable.{some_index}
use Rattle.fl_index.proofs.Spanned.{unread-full}
use Rattle.fl_model.specs.Image.{rows_at}
use Rattle.fl_model.specs.Ring as rings
use Rattle.fl_parts.specs.Skipping.{unread_of, wants_page}
use Rattle.fl_table.proofs.IndexStands.{index-stands}

-- a page with rows, none of which is the last that may be given, begins by the high key
not-last : (top : Option ℕ) (high : ℕ) (rows : List Row) → IsBounded top high → 0 < length rows → has_last top rows ≡ false → begins_by high rows ≡ true
not-last top high [] bounded some none = absurd (omega (arith, some))
not-last None high (row ∷ rows) bounded some none = absurd (true≢false none)
not-last (Some top) high (row ∷ rows) bounded some none = by_key (cases_lt row.key top)
  where
    by_key : (row.key < top) ⊎ (top ≤ row.key) → nat_le row.key high ≡ true
    by_key (inl lt) = le-leb row.key high (omega (arith, lt, bounded))
    by_key (inr le) = absurd (true≢false (sym (ap (λ b. b || has_last (Some top) rows) (le-leb top row.key le)) ∙ none))

later-counts : (p : ℕ → Bool) (k m from : ℕ) → count_by p (numbers_from (from + k) m) ≤ count_by p (numbers_from from (k + m))
later-counts p zero m from =
    let same : count_by p (numbers_from (from + 0) m) ≡ count_by p (numbers_from from (0 + m)) =
    ap (λ a. count_by p (numbers_from a m)) (let e : from + 0 ≡ from = omega arith in e) ∙ ap (λ n. count_by p (numbers_from from n)) (let e : m ≡ 0 + m = omega arith in e) in
    omega (arith, same)
later-counts p (suc k) m from =
    let others = later-counts p k m (from + 1) in
    let same : count_by p (numbers_from (from + suc k) m) ≡ count_by p (numbers_from (from + 1 + k) m) = ap (λ a. count_by p (numbers_from a m)) (let e : from + suc k ≡ from + 1 + k = omega arith in e) in
    let more : count_by p (numbers_from from (suc k + m)) ≡ count_by p (from ∷ numbers_from (from + 1) (k + m)) = ap (λ n. count_by p (numbers_from from n)) (let e : suc k + m ≡ suc (k + m) = omega arith in e) in
    let one = sum_by-cons (λ x. cond (p x) 1 0) from (numbers_from (from + 1) (k + m)) in
    omega (arith, others, same, more, one)

pub bounded-min : (high : ℕ) (last : Option ℕ) → IsBounded (option_map (λ key. min high key) last) high
bounded-min high None = tt
bounded-min high (Some key) = omega arith

module _ {KNOTS SLOTS : ℕ} (t : Table KNOTS SLOTS) (contents : Contents) (h : IsStanding t contents) where
  -- a page with rows that isn't skipped counts
  wanted : (span : Option Span) (number : ℕ) → oldest_in t ≤ number → number < next_in t → is_skipped t contents span number ≡ false → (0 < rows_noted t number) × (is_wanted h.plan h.table span number ≡ true)
  wanted span number from before skipped = by_count (cases_lt 0 (rows_noted t number))
    where
      by_count : (0 < rows_noted t number) ⊎ (rows_noted t number ≤ 0) → (0 < rows_noted t number) × (is_wanted h.plan h.table span number ≡ true)
      by_count (inl some) =
          let parts = or_parts (rows_noted t number == 0) (is_missed t span number (rows_on t contents number)) skipped in
          let wants = not-false (wants_page h.plan h.table span number (rows_at h.table (number - rings.oldest h.table.rows) (rows_noted t number))) (sym (missed-wanted t contents h number from before span) ∙ parts.1) in
          (some, sym (wanted-same t contents h number from before span some) ∙ wants)
      by_count (inr none) =
          let z : rows_noted t number ≡ 0 = omega (arith, none) in
          absurd (true≢false (sym (ap (λ b. b || is_missed t span number (rows_on t contents number)) (eq-eqb (rows_noted t number) 0 z)) ∙ skipped))

  within : (high first number : ℕ) (page : Option ℕ) → IsPageOf (λ n. first_key (rows_on t contents n)) (oldest_in t) (next_in t) high page → oldest_in t ≤ number → number < next_in t →
      begins_by high (rows_on t contents number) ≡ true → first ≤ number → in_pages first page number ≡ true
  within high first number None is from before begins le = absurd (true≢false (sym begins ∙ is number from before))
  within high first number (Some page) is from before begins le =
      ap (λ b. b && nat_le number page) (le-leb first number le) ∙ le-leb number page (by_order (cases_lt page number))
    where
      by_order : (page < number) ⊎ (number ≤ page) → number ≤ page
      by_order (inl lt) = absurd (true≢false (sym begins ∙ is.later number lt before))
      by_order (inr le) = le

  abbrev counted : Option Span → ℕ → ℕ → ℕ → Bool
  counted span high first number = in_pages first (last_page h.table high) number && is_wanted h.plan h.table span number

  -- a page in the range that is wanted counts
  counts-one : (span : Option Span) (high first number : ℕ) → oldest_in t ≤ number → number < next_in t → first ≤ number → begins_by high (rows_on t contents number) ≡ true → is_wanted h.plan h.table span number ≡ true →
      ◌≡◌ {A = ℕ} (cond (counted span high first number) 1 0) 1
  counts-one span high first number from before le up wants =
      let inside = within high first number (page_at h.table high) (standing-start t contents h high) from before up le in
      ap (λ b. cond {A = ℕ} (b && is_wanted h.plan h.table span number) 1 0) inside ∙ ap (λ b. cond {A = ℕ} b 1 0) wants

  -- A walk ends at the first page behind the range. `Comes` holds of each page to which it comes, and of one that it reads last `most` counts it where the range doesn't.
  module _ (span : Option Span) (top : Option ℕ) (high first most : ℕ) (Comes : ℕ → Type 0)
      (goes : (number : ℕ) → oldest_in t ≤ number → number < next_in t → Comes number → is_beyond t contents span top number ≡ false → Comes (number + 1))
      (ends : (number : ℕ) → oldest_in t ≤ number → number < next_in t → first ≤ number → Comes number → is_beyond t contents span top number ≡ false → is_skipped t contents span number ≡ false →
      1 ≤ most + cond (counted span high first number) 1 0) where
    to-last : (n number : ℕ) → IsBounded top high → oldest_in t ≤ number → number + n ≡ next_in t → first ≤ number → Comes number →
        pages_to_last t contents span top number n ≤ most + count_by (counted span high first) (numbers_from number n)
    to-last zero number bounded from is le comes = omega arith
    to-last (suc n) number bounded from is le comes =
        subst (λ c. pages_to_last t contents span top number (suc n) ≤ most + c) (sym (sum_by-cons (λ x. cond (counted span high first x) 1 0) number (numbers_from (number + 1) n)))
        (by_beyond (is_beyond t contents span top number) refl
        (λ kept. to-last n (number + 1) bounded (omega (arith, from)) (omega (arith, is)) (omega (arith, le)) (goes number from (omega (arith, is)) comes kept)))
      where
        by_last : (b : Bool) → has_last top (rows_on t contents number) ≡ b → is_beyond t contents span top number ≡ false → is_skipped t contents span number ≡ false →
            pages_to_last t contents span top (number + 1) n ≤ most + count_by (counted span high first) (numbers_from (number + 1) n) →
            1 + cond b 0 (pages_to_last t contents span top (number + 1) n) ≤ most + (cond (counted span high first number) 1 0 + count_by (counted span high first) (numbers_from (number + 1) n))
        by_last true last kept read others = let one = ends number from (omega (arith, is)) le comes kept read in omega (arith, one)
        by_last false last kept read others =
            let w = wanted span number from (omega (arith, is)) read in
            let many = standing-many t contents h number from (omega (arith, is)) in
            let has : 0 < length (rows_on t contents number) = omega (arith, many, w.0) in
            let begins = not-last top high (rows_on t contents number) bounded has last in
            let one = counts-one span high first number from (omega (arith, is)) le begins w.1 in
            omega (arith, others, one)

        by_skip : (b : Bool) → is_skipped t contents span number ≡ b → is_beyond t contents span top number ≡ false →
            pages_to_last t contents span top (number + 1) n ≤ most + count_by (counted span high first) (numbers_from (number + 1) n) →
            cond b (pages_to_last t contents span top (number + 1) n) (1 + cond (has_last top (rows_on t contents number)) 0 (pages_to_last t contents span top (number + 1) n))
            ≤ most + (cond (counted span high first number) 1 0 + count_by (counted span high first) (numbers_from (number + 1) n))
        by_skip true e kept others = omega (arith, others)
        by_skip false e kept others = by_last (has_last top (rows_on t contents number)) refl kept e others

        by_beyond : (b : Bool) → is_beyond t contents span top number ≡ b →
            (is_beyond t contents span top number ≡ false → pages_to_last t contents span top (number + 1) n ≤ most + count_by (counted span high first) (numbers_from (number + 1) n)) →
            cond b 0 (cond (is_skipped t contents span number) (pages_to_last t contents span top (number + 1) n) (1 + cond (has_last top (rows_on t contents number)) 0 (pages_to_last t contents span top (number + 1) n)))
            ≤ most + (cond (counted span high first number) 1 0 + count_by (counted span high first) (numbers_from (number + 1) n))
        by_beyond true e others = omega arith
        by_beyond false e others = by_skip (is_skipped t contents span number) refl e (others e)

  -- the page behind the range isn't before the one where the walk begins
  begins-before : (high low number : ℕ) → low ≤ high → IsBehind t contents high number → (page : Option ℕ) → IsPageOf (λ n. first_key (rows_on t contents n)) (oldest_in t) (next_in t) low page → unwrap_or page (oldest_in t) ≤ number
  begins-before high low number le behind None is = behind.from
  begins-before high low number le behind (Some page) is = elim (cases_lt number page) [
    | inr within ↦ within
    | inl lt ↦
        let first = begins low (rows_on t contents page) is.here in
        let less = earlier t contents h number page behind.row first.row behind.from lt is.before behind.first first.first in
        let above = behind.above in
        let up_to = first.up_to in
        absurd (omega (arith, less, above, up_to, le))
  ]

  -- the pages that are read beside those in the range
  few-pages : (range : KeyRange) (span : Option Span) (top : Option ℕ) (low n start : ℕ) → IsBounded top range.high → is_up_to top low ≡ true → oldest_in t ≤ start → start + n ≡ next_in t → start ≡ first_page h.table low →
      start ≡ unwrap_or (page_at h.table low) (oldest_in t) →
      pages_to_last t contents span top start n ≤ past h.plan h.table range span + count_by (counted span range.high (first_page h.table low)) (numbers_from start n)
  few-pages range span top low n start bounded up from is first_is start_is =
      by_past (h.plan.full_index && is_spanned span && unwrap_or (option_map (is_indexed h.plan h.table) (page_behind h.table range.high)) true) refl
    where
      within-high : low ≤ range.high
      within-high = by_top top up bounded
        where
          by_top : (top : Option ℕ) → is_up_to top low ≡ true → IsBounded top range.high → low ≤ range.high
          by_top None e bounded = absurd (true≢false (sym e))
          by_top (Some top) e bounded = let le = leb-true low top e in omega (arith, le, bounded)

      -- a page behind the range is read
      read-one : past h.plan h.table range span ≡ 1 → pages_to_last t contents span top start n ≤ past h.plan h.table range span + count_by (counted span range.high (first_page h.table low)) (numbers_from start n)
      read-one one =
          let few = to-last span top range.high (first_page h.table low) 1 (λ number. Unit {0}) (λ number from before comes kept. tt) (λ number from before le comes kept read. omega arith) n start bounded from is (omega (arith, first_is)) tt in
          omega (arith, few, one)

      -- its full entry tells where it begins
      read-none : (spanned : Span) → span ≡ Some spanned → h.plan.full_index ≡ true → (o : Option ℕ) → page_behind h.table range.high ≡ o → unwrap_or (option_map (is_indexed h.plan h.table) o) true ≡ true →
          pages_to_last t contents (Some spanned) top start n ≤ count_by (counted (Some spanned) range.high (first_page h.table low)) (numbers_from start n)
      read-none spanned span_is full o o_is indexed =
          let few = to-last (Some spanned) top range.high (first_page h.table low) 0 (λ number. IfSome o (λ page. number ≤ page)) goes ends n start bounded from is (omega (arith, first_is)) (comes-first o o_is) in
          omega (arith, few)
        where
          comes-first : (p : Option ℕ) → page_behind h.table range.high ≡ p → IfSome p (λ page. start ≤ page)
          comes-first None e = tt
          comes-first (Some page) e =
              let le = begins-before range.high low page within-high (behind-is t contents h range.high page e) (page_at h.table low) (standing-start t contents h low) in
              omega (arith, le, start_is)

          told-beyond : (page : ℕ) → o ≡ Some page → IsBehind t contents range.high page → is_beyond t contents (Some spanned) top page ≡ true
          told-beyond page e behind = behind-beyond t contents h spanned top range.high page bounded full (sym (ap (λ (p : Option ℕ). unwrap_or (option_map (is_indexed h.plan h.table) p) true) e) ∙ indexed) behind

          goes : (number : ℕ) → oldest_in t ≤ number → number < next_in t → IfSome o (λ page. number ≤ page) → is_beyond t contents (Some spanned) top number ≡ false → IfSome o (λ page. number + 1 ≤ page)
          goes number from before comes kept = by_page o refl comes
            where
              by_page : (p : Option ℕ) → o ≡ p → IfSome p (λ page. number ≤ page) → IfSome p (λ page. number + 1 ≤ page)
              by_page None e comes = tt
              by_page (Some page) e comes = elim (cases_lt number page) [
                | inl lt ↦ omega (arith, lt)
                | inr le ↦
                    let same : page ≡ number = omega (arith, le, comes) in
                    let beyond = told-beyond page e (behind-is t contents h range.high page (o_is ∙ e)) in
                    absurd (true≢false (sym beyond ∙ (ap (is_beyond t contents (Some spanned) top) same ∙ kept)))
              ]

          ends : (number : ℕ) → oldest_in t ≤ number → number < next_in t → first_page h.table low ≤ number → IfSome o (λ page. number ≤ page) → is_beyond t contents (Some spanned) top number ≡ false →
              is_skipped t contents (Some spanned) number ≡ false → 1 ≤ 0 + cond (counted (Some spanned) range.high (first_page h.table low) number) 1 0
          ends number from before le comes kept read = by_begins (begins_by range.high (rows_on t contents number)) refl
            where
              w : (0 < rows_noted t number) × (is_wanted h.plan h.table (Some spanned) number ≡ true)
              w = wanted (Some spanned) number from before read

              behind-here : (rows : List Row) → rows_on t contents number ≡ rows → 0 < length rows → begins_by range.high rows ≡ false → IsBehind t contents range.high number
              behind-here [] is has begins = absurd (omega (arith, has))
              behind-here (row ∷ rows) is has begins = record { from = from; before = before; row = row; first = ap (λ (xs : List Row). slice_get xs 0) is; above = leb-false row.key range.high begins }

              by_begins : (b : Bool) → begins_by range.high (rows_on t contents number) ≡ b → 1 ≤ 0 + cond (counted (Some spanned) range.high (first_page h.table low) number) 1 0
              by_begins true begins = let one = counts-one (Some spanned) range.high (first_page h.table low) number from before le begins w.1 in omega (arith, one)
              by_begins false begins =
                  let many = standing-many t contents h number from before in
                  let has : 0 < length (rows_on t contents number) = omega (arith, many, w.0) in
                  let here = behind-here (rows_on t contents number) refl has begins in
                  let first = behind-before t contents h range.high number here in
                  let at : o ≡ Some first.0 = sym o_is ∙ first.1 in
                  let reached : number ≤ first.0 = subst (λ (p : Option ℕ). IfSome p (λ page. number ≤ page)) at comes in
                  let same : first.0 ≡ number = omega (arith, reached, first.2) in
                  let beyond = told-beyond number (at ∙ ap Some same) here in
                  absurd (true≢false (sym beyond ∙ kept))

      by_past : (b : Bool) → (h.plan.full_index && is_spanned span && unwrap_or (option_map (is_indexed h.plan h.table) (page_behind h.table range.high)) true) ≡ b →
          pages_to_last t contents span top start n ≤ past h.plan h.table range span + count_by (counted span range.high (first_page h.table low)) (numbers_from start n)
      by_past false e = read-one (ap (λ b. cond {A = ℕ} b 0 1) e)
      by_past true e =
          let parts = both (h.plan.full_index && is_spanned span) (unwrap_or (option_map (is_indexed h.plan h.table) (page_behind h.table range.high)) true) e in
          let asks = both h.plan.full_index (is_spanned span) parts.0 in
          by_span span refl asks.1 asks.0 parts.1
        where
          by_span : (s : Option Span) → span ≡ s → is_spanned s ≡ true → h.plan.full_index ≡ true → unwrap_or (option_map (is_indexed h.plan h.table) (page_behind h.table range.high)) true ≡ true →
              pages_to_last t contents span top start n ≤ past h.plan h.table range span + count_by (counted span range.high (first_page h.table low)) (numbers_from start n)
          by_span None is spanned full indexed = absurd (true≢false (sym spanned))
          by_span (Some spanned) is asks full indexed =
              let none = read-none spanned is full (page_behind h.table range.high) refl indexed in
              let same = ap (λ (s : Option Span). pages_to_last t contents s top start n) is in
              let counts = ap (λ (s : Option Span). count_by (counted s range.high (first_page h.table low)) (numbers_from start n)) is in
              omega (arith, none, same, counts)

  -- where the page of a key may be
  record Between (page : ℕ) : Type 0 where
    from : oldest_in t ≤ page
    up_to : page ≤ next_in t

  between : (key : ℕ) (page : Option ℕ) → IsPageOf (λ n. first_key (rows_on t contents n)) (oldest_in t) (next_in t) key page → Between (unwrap_or page (oldest_in t))
  between key None is =
      let oldest = oldest-is t h.flash h.first h.plan h.table h.stands in
      let next = next-is t h.flash h.first h.plan h.table h.stands in
      record { from = omega arith; up_to = omega (arith, oldest, next) }
  between key (Some page) is = record { from = is.from; up_to = omega (arith, is.before) }

  -- the limit of a key that isn't pending
  abbrev beyond : Cursor → ℕ
  beyond asked =
      lookup_limit KNOTS h.plan h.table (lowest_of asked) + 1 + past h.plan h.table asked.range asked.span + voids_of h.table
      + (cond (has_index h.plan && is_spanned asked.span) (unwrap_or (option_map (λ (ring : Ring). full_pages ring.counts) h.table.index) 0) 0)
      + count_by (counted asked.span asked.range.high (first_page h.table (lowest_of asked))) (numbers_of h.table)

  -- the index pages that a scan may read
  abbrev index_pages : Option Span → ℕ
  index_pages span = cond (has_index h.plan && is_spanned span) (unwrap_or (option_map (λ (ring : Ring). full_pages ring.counts) h.table.index) 0) 0

  few-unread : (span : Option Span) (number : ℕ) (index : BufferState) → index.holds ≡ None → unread_of span t.bitmaps number index ≤ index_pages span
  few-unread None number index none = omega arith
  few-unread (Some span) number index none = by_index t.bitmaps refl
    where
      by_index : (bitmaps : Option BitmapIndex) → t.bitmaps ≡ bitmaps → unread_of (Some span) bitmaps number index ≤ index_pages (Some span)
      by_index None is = omega arith
      by_index (Some b) is =
          let stands = index-stands t h.flash h.first h.plan h.table h.stands b is in
          let start = ap (after_held (indexes.oldest_in b) (page_number index.bytes)) none in
          let same = ap (unread b number) start in
          let few = unread-full b h.flash (h.first + h.plan.data_blocks) h.plan h.table stands number in
          let has : index_pages (Some span) ≡ full_pages stands.in_ring.ring.counts =
          ap (λ x. cond (x && true) (unwrap_or (option_map (λ (ring : Ring). full_pages ring.counts) h.table.index) 0) 0) (some_index b h.flash (h.first + h.plan.data_blocks) h.plan h.table stands)
          ∙ ap (λ (o : Option Ring). unwrap_or (option_map (λ (ring : Ring). full_pages ring.counts) o) 0) stands.in_ring.facts.ring_is in
          omega (arith, same, few, has)

  start-limit : (asked : Cursor) (index : BufferState) (page : List ℕ) → index.holds ≡ None → IsBounded asked.top asked.range.high → begins_by (lowest_of asked) (buffered_rows t) ≡ false → is_up_to asked.top (lowest_of asked) ≡ true →
      most_from t contents asked index page Start ≤ scan_limit KNOTS h.plan h.table asked.range asked.span (lowest_of asked)
  start-limit asked index page empty bounded none wanted_low =
      let low = lowest_of asked in
      let pending : is_pending_key h.table (lowest_of asked) ≡ false = pending-same t contents h (lowest_of asked) ∙ none in
      let finds : most_to_find t (lowest_of asked) ≡ lookup_limit KNOTS h.plan h.table (lowest_of asked) =
      ap (λ b. cond b (next_in t - oldest_in t + 1) (most_reads t.index (next_in t - oldest_in t) t.voids (lowest_of asked))) none
      ∙ limit-told t h.flash h.first h.plan h.table low (next_in t - oldest_in t) h.stands pending (pages-is t h.flash h.first h.plan h.table h.stands) in
      let oldest = oldest-is t h.flash h.first h.plan h.table h.stands in
      let next = next-is t h.flash h.first h.plan h.table h.stands in
      let is = standing-start t contents h low in
      let b = between low (page_at h.table low) is in
      let start_told : start_of t contents (lowest_of asked) ≡ unwrap_or (page_at h.table (lowest_of asked)) (oldest_in t) = start-is t contents low (page_at h.table low) is in
      let first_told : unwrap_or (page_at h.table (lowest_of asked)) (oldest_in t) ≡ first_page h.table (lowest_of asked) = ap (λ n. unwrap_or (page_at h.table (lowest_of asked)) n) oldest in
      let start = start_of t contents (lowest_of asked) in
      let k = start - oldest_in t in
      let m = next_in t - start in
      let from : oldest_in t ≤ start_of t contents (lowest_of asked) = omega (arith, start_told, b.from) in
      let up_to : start_of t contents (lowest_of asked) ≤ next_in t = omega (arith, start_told, b.up_to) in
      let few = few-pages asked.range asked.span asked.top low m start bounded wanted_low from (omega (arith, up_to)) (start_told ∙ first_told) start_told in
      let p = counted asked.span asked.range.high (first_page h.table low) in
      let part = later-counts p k m (oldest_in t) in
      let at : oldest_in t + k ≡ start = omega (arith, from) in
      let all : k + m ≡ length h.table.rows.counts = omega (arith, from, up_to, oldest, next, h.stands.facts.rows.not_negative) in
      let at_start : count_by p (numbers_from (oldest_in t + k) m) ≡ count_by p (numbers_from start m) = ap (λ a. count_by p (numbers_from a m)) at in
      let whole : count_by p (numbers_from (oldest_in t) (k + m)) ≡ count_by p (numbers_of h.table) = ap (λ n. count_by p (numbers_from (oldest_in t) n)) all ∙ ap (λ a. count_by p (numbers_from a (length h.table.rows.counts))) oldest in
      let most : most_from t contents asked index page Start ≤ beyond asked = omega (arith, finds, few, part, at_start, whole, few-unread asked.span start index empty) in
      subst (λ (b : Bool). most_from t contents asked index page Start ≤ cond b 0 (beyond asked)) (sym pending) most

  pub begun-limit : (asked : Cursor) (index : BufferState) (page : List ℕ) (place : Place) → index.holds ≡ None → IsBounded asked.top asked.range.high → IsBegun asked t place →
      most_from t contents asked index page place ≤ scan_limit KNOTS h.plan h.table asked.range asked.span (lowest_of asked)
  begun-limit asked index page Start empty bounded begun = start-limit asked index page empty bounded begun.0 begun.1
  begun-limit asked index page (Pending row) empty bounded begun = omega arith
  begun-limit asked index page Ended empty bounded begun = omega arith
  begun-limit asked index page (Pages next) empty bounded begun = absurd begun
  begun-limit asked index page (InPage number row) empty bounded begun = absurd begun
