-- What a cursor that begins reads at least, in the words of the model.
use Rattle.std.proofs.Common.{◌≡◌, ℕ, zero, suc, ◌+◌, ◌-◌, ◌<◌, ◌≤◌, Bool, true, false, ◌||◌, cond, ◌==◌, nat_le, nat_lt, Option, Some, None, List, [], ◌∷◌, ◌++◌, length, map, take, drop, refl, sym, ◌∙◌, ap, subst, arith, inl, inr}
use Rattle.std.specs.List.{slice_get, list_any, count_by, sum, AllByRecursion}
use Rattle.std.proofs.lemmas.Bool.{cases_lt, leb-true, le-leb, eqb-true, false_from_ne_true, true≢false, or_right}
use Rattle.std.proofs.lemmas.List.{drop-drop, drop_all, nil_from_length}
use Rattle.std.proofs.lemmas.List.Sums.{sum_by-cons}
use Rattle.fl_base.specs.declared.types.KeyRange.{KeyRange}
use Rattle.fl_base.specs.declared.types.Span.{Span}
use Rattle.fl_base.proofs.Tests.{one_fewer, zero_either}
use Rattle.fl_model.specs.Facts.{is_some_ring, counts_in}
use Rattle.fl_model.specs.Limits.{asks_values, least_reads}
use Rattle.fl_model.specs.Query.{Cursor, begin, matches, in_range, in_span, is_up_to}
use Rattle.fl_model.specs.Record.{has_index}
use Rattle.fl_model.specs.Ring as rings
use Rattle.fl_model.specs.Ring.{Ring}
use Rattle.fl_model.specs.Row.{Row, stored_row}
use Rattle.fl_model.specs.Spline.{pages_from, pages_of}
use Rattle.fl_model.specs.Table.{Entry, full_pages, firsts}
use Rattle.fl_model.proofs.Lists.{slice_get-some, each-take, each-drop, drop_none, take_none, each-weaker, drop-at, sum_by-next}
use Rattle.fl_frame.specs.Contents.{Contents}
use Rattle.fl_page.specs.Steps.{Ascends}
use Rattle.fl_table.specs.Look.{oldest_in, buffered_rows}
use Rattle.fl_table.specs.Memory.{next_in}
use Rattle.fl_table.specs.declared.table.Table.{Table}
use Rattle.fl_table.proofs.MemoryTells.{next-is, oldest-is}
use Rattle.fl_cursor.specs.Ascending.{both}
use Rattle.fl_cursor.specs.Asked.{is_asked, row_matches, lowest_of}
use Rattle.fl_cursor.specs.Cursor.{IsStanding}
use Rattle.fl_cursor.specs.Listed.{rows_on, rows_over}
use Rattle.fl_cursor.specs.Reads.{pages_asked, raised, start_of, pages_looked_up, index_least, least_from, IsBegun}
use Rattle.fl_cursor.specs.declared.place.Place.{Place}
use Rattle.fl_cursor.specs.declared.place.Place.TheVariants.{Start, Pages, InPage, Pending, Ended}
use Rattle.fl_cursor.proofs.LowestPage.{raised-below}
use Rattle.fl_cursor.proofs.StartSearch.{begins}
use Rattle.fl_cursor.proofs.Later.{lists_later, due-later, none-counted, first-over}
use Rattle.fl_cursor.proofs.IndexLookups.{due-both}
use Rattle.fl_flash.specs.Buffer.{BufferState}
use Rattle.fl_page.proofs.RowsFrom.{drop-row}
use Rattle.fl_index.specs.declared.index.BitmapIndex.{BitmapIndex}
use Rattle.fl_index.specs.Looking.{due, next_to_read}
use Rattle.fl_index.proofs.Lists.{firsts-length}
use Rattle.fl_parts.specs.Bitmaps.{ArePlanned}
use Rattle.fl_parts.specs.Skipping.{due_of}
use Rattle.fl_cursor.proofs.Selected.{all-asked}
use Rattle.fl_cursor.proofs.StartPlaces.{ascends-front, top-least}
use Rattle.fl_cursor.proofs.Stood.{kept-rows, standing-rows, standing-ascends}

-- ---- lists

-- ---- pages past which none is asked for

none-past : (asked : Cursor) (rows : List Row) → is_up_to asked.top (lowest_of asked) ≡ false → list_any (is_asked (raised asked)) rows ≡ false
none-past asked [] past = refl
none-past asked (row ∷ rows) past = ap (λ b. b || list_any (is_asked (raised asked)) rows) here ∙ none-past asked rows past
  where
    here : is_asked (raised asked) row ≡ false
    here = false_from_ne_true (is_asked (raised asked) row) (λ e.
        let parts = both (row_matches (raised asked).range asked.span row) (is_up_to asked.top row.key) e in
        let matching = both (in_range (raised asked).range row.key) (in_span asked.span (slice_get row.values 0)) parts.0 in
        let from = leb-true (lowest_of asked) row.key (both (nat_le (lowest_of asked) row.key) (nat_le row.key asked.range.high) matching.0).0 in
        true≢false (sym (top-least row.key (lowest_of asked) asked.top parts.1 from) ∙ past))

pages-past : {KNOTS SLOTS : ℕ} (t : Table KNOTS SLOTS) (contents : Contents) (asked : Cursor) (n number : ℕ) → is_up_to asked.top (lowest_of asked) ≡ false → pages_asked t contents (raised asked) number n ≡ 0
pages-past t contents asked zero number past = refl
pages-past t contents asked (suc n) number past =
    let here = none-past asked (rows_on t contents number) past in
    let others = pages-past t contents asked n (number + 1) past in
    ap (λ b. cond b 1 0 + pages_asked t contents (raised asked) (number + 1) n) here ∙ omega (arith, others)

-- ---- pages with entries that match

abbrev has_match : KeyRange → Option Span → ℕ × List Entry → Bool
has_match range span page = list_any (λ (entry : Entry). matches range span entry.kept) page.1

any-asked : (asked : Cursor) (entries : List Entry) → AllByRecursion (λ (e : Entry). matches asked.range asked.span e.kept ≡ true → is_asked asked (stored_row e) ≡ true) entries →
    list_any (λ (entry : Entry). matches asked.range asked.span entry.kept) entries ≡ true → list_any (is_asked asked) (map stored_row entries) ≡ true
any-asked asked [] h e = absurd (true≢false (sym e))
any-asked asked (x ∷ xs) h e = by_here (matches asked.range asked.span x.kept) refl (λ later. any-asked asked xs h.1 later) e
  where
    by_here : (b : Bool) → matches asked.range asked.span x.kept ≡ b → (list_any (λ (entry : Entry). matches asked.range asked.span entry.kept) xs ≡ true → list_any (is_asked asked) (map stored_row xs) ≡ true) →
        (b || list_any (λ (entry : Entry). matches asked.range asked.span entry.kept) xs) ≡ true → (is_asked asked (stored_row x) || list_any (is_asked asked) (map stored_row xs)) ≡ true
    by_here true is others e = ap (λ b. b || list_any (is_asked asked) (map stored_row xs)) (h.0 is)
    by_here false is others e = or_right (is_asked asked (stored_row x)) (list_any (is_asked asked) (map stored_row xs)) (others e)

module _ {KNOTS SLOTS : ℕ} (t : Table KNOTS SLOTS) (contents : Contents) (h : IsStanding t contents) where
  module _ (asked : Cursor) (all : AllByRecursion (λ (e : Entry). matches asked.range asked.span e.kept ≡ true → is_asked asked (stored_row e) ≡ true) h.table.entries) where
    abbrev before : ℕ → ℕ
    before i = sum (take i h.table.rows.counts)

    -- so many of the pages behind the i-th one have an entry that matches, where their entries are those from the k-th on
    abbrev others : ℕ → ℕ → ℕ
    others i k = count_by (has_match asked.range asked.span) (pages_from (rings.oldest h.table.rows + i + 1) (drop (suc i) h.table.rows.counts) (drop k h.table.entries))

    least-over : (n i : ℕ) → i + n ≡ length h.table.rows.counts →
        count_by (has_match asked.range asked.span) (pages_from (rings.oldest h.table.rows + i) (drop i h.table.rows.counts) (drop (before i) h.table.entries)) ≤ pages_asked t contents asked (rings.oldest h.table.rows + i) n
    least-over zero i is =
        let none : count_by (has_match asked.range asked.span) (pages_from (rings.oldest h.table.rows + i) (drop i h.table.rows.counts) (drop (before i) h.table.entries)) ≡ 0 =
        ap (λ (cs : List ℕ). count_by (has_match asked.range asked.span) (pages_from (rings.oldest h.table.rows + i) cs (drop (before i) h.table.entries))) (drop_all i h.table.rows.counts (omega (arith, is))) in
        omega (arith, none)
    least-over (suc n) i is =
        let at = slice_get-some h.table.rows.counts i (omega (arith, is)) in
        let next : before (suc i) ≡ before i + at.0 = sum_by-next (λ (m : ℕ). m) h.table.rows.counts i at.0 at.1 in
        let split = drop-at h.table.rows.counts i at.0 at.1 in
        subst (λ (cs : List ℕ). count_by (has_match asked.range asked.span) (pages_from (rings.oldest h.table.rows + i) cs (drop (before i) h.table.entries)) ≤ pages_asked t contents asked (rings.oldest h.table.rows + i) (suc n)) (sym split)
        (by_count at.0 at.1 next (at.0 == 0) refl (least-over n (suc i) (omega (arith, is))))
      where
        moved : (k : ℕ) → k ≡ before (suc i) →
            count_by (has_match asked.range asked.span) (pages_from (rings.oldest h.table.rows + suc i) (drop (suc i) h.table.rows.counts) (drop (before (suc i)) h.table.entries)) ≤ pages_asked t contents asked (rings.oldest h.table.rows + suc i) n →
            others i k ≤ pages_asked t contents asked (rings.oldest h.table.rows + i + 1) n
        moved k e le =
            let s : rings.oldest h.table.rows + suc i ≡ rings.oldest h.table.rows + i + 1 = omega arith in
            subst (λ j. others i j ≤ pages_asked t contents asked (rings.oldest h.table.rows + i + 1) n) (sym e)
            (subst (λ a. count_by (has_match asked.range asked.span) (pages_from a (drop (suc i) h.table.rows.counts) (drop (before (suc i)) h.table.entries)) ≤ pages_asked t contents asked a n) s le)

        by_count : (c : ℕ) → slice_get h.table.rows.counts i ≡ Some c → before (suc i) ≡ before i + c → (b : Bool) → (c == 0) ≡ b →
            count_by (has_match asked.range asked.span) (pages_from (rings.oldest h.table.rows + suc i) (drop (suc i) h.table.rows.counts) (drop (before (suc i)) h.table.entries)) ≤ pages_asked t contents asked (rings.oldest h.table.rows + suc i) n →
            count_by (has_match asked.range asked.span) (cond b (pages_from (rings.oldest h.table.rows + i + 1) (drop (suc i) h.table.rows.counts) (drop (before i) h.table.entries))
            ((rings.oldest h.table.rows + i, take c (drop (before i) h.table.entries)) ∷ pages_from (rings.oldest h.table.rows + i + 1) (drop (suc i) h.table.rows.counts) (drop c (drop (before i) h.table.entries))))
            ≤ cond (list_any (is_asked asked) (rows_on t contents (rings.oldest h.table.rows + i))) 1 0 + pages_asked t contents asked (rings.oldest h.table.rows + i + 1) n
        by_count c at next true e le =
            let zero_is = eqb-true c 0 e in
            let rest = moved (before i) (omega (arith, next, zero_is)) le in
            omega (arith, rest)
        by_count c at next false e le =
            let rest = moved (before i + c) (omega (arith, next)) le in
            let same : count_by (has_match asked.range asked.span) (pages_from (rings.oldest h.table.rows + i + 1) (drop (suc i) h.table.rows.counts) (drop c (drop (before i) h.table.entries))) ≡ others i (before i + c) =
            ap (λ (es : List Entry). count_by (has_match asked.range asked.span) (pages_from (rings.oldest h.table.rows + i + 1) (drop (suc i) h.table.rows.counts) es)) (drop-drop c (before i) h.table.entries) in
            let page : ℕ × List Entry = (rings.oldest h.table.rows + i, take c (drop (before i) h.table.entries)) in
            let one = sum_by-cons (λ x. cond (has_match asked.range asked.span x) 1 0) page (pages_from (rings.oldest h.table.rows + i + 1) (drop (suc i) h.table.rows.counts) (drop c (drop (before i) h.table.entries))) in
            let here = one_fewer (list_any (λ (entry : Entry). matches asked.range asked.span entry.kept) (take c (drop (before i) h.table.entries))) (list_any (is_asked asked) (rows_on t contents (rings.oldest h.table.rows + i))) (λ some.
            ap (list_any (is_asked asked)) (kept-rows t contents h i c at)
            ∙ any-asked asked (take c (drop (before i) h.table.entries))
            (each-take (λ (e : Entry). matches asked.range asked.span e.kept ≡ true → is_asked asked (stored_row e) ≡ true) c (drop (before i) h.table.entries)
            (each-drop (λ (e : Entry). matches asked.range asked.span e.kept ≡ true → is_asked asked (stored_row e) ≡ true) (before i) h.table.entries all)) some) in
            omega (arith, rest, same, one, here)

    least-all : count_by (has_match asked.range asked.span) (pages_of h.table) ≤ pages_asked t contents asked (oldest_in t) (next_in t - oldest_in t)
    least-all =
        let oldest = oldest-is t h.flash h.first h.plan h.table h.stands in
        let next = next-is t h.flash h.first h.plan h.table h.stands in
        let many : length h.table.rows.counts ≡ next_in t - oldest_in t = omega (arith, oldest, next, h.stands.facts.rows.not_negative) in
        let at : rings.oldest h.table.rows + 0 ≡ oldest_in t = omega (arith, oldest) in
        let from : rings.oldest h.table.rows + 0 ≡ rings.oldest h.table.rows = omega arith in
        let le = least-over (length h.table.rows.counts) 0 (omega arith) in
        let left : count_by (has_match asked.range asked.span) (pages_from (rings.oldest h.table.rows + 0) (drop 0 h.table.rows.counts) (drop (before 0) h.table.entries)) ≡ count_by (has_match asked.range asked.span) (pages_of h.table) =
        ap (λ a. count_by (has_match asked.range asked.span) (pages_from a (drop 0 h.table.rows.counts) (drop (before 0) h.table.entries))) from
        ∙ (ap (λ (cs : List ℕ). count_by (has_match asked.range asked.span) (pages_from (rings.oldest h.table.rows) cs (drop (before 0) h.table.entries))) (drop_none h.table.rows.counts)
        ∙ (ap (λ k. count_by (has_match asked.range asked.span) (pages_from (rings.oldest h.table.rows) h.table.rows.counts (drop k h.table.entries))) (ap sum (take_none h.table.rows.counts))
        ∙ ap (λ (es : List Entry). count_by (has_match asked.range asked.span) (pages_from (rings.oldest h.table.rows) h.table.rows.counts es)) (drop_none h.table.entries))) in
        let right : pages_asked t contents asked (rings.oldest h.table.rows + 0) (length h.table.rows.counts) ≡ pages_asked t contents asked (oldest_in t) (next_in t - oldest_in t) =
        ap (λ a. pages_asked t contents asked a (length h.table.rows.counts)) at ∙ ap (λ n. pages_asked t contents asked (oldest_in t) n) many in
        omega (arith, le, left, right)

  -- without an index no index page is listed
  no-firsts : has_index h.plan ≡ false → firsts h.table ≡ []
  no-firsts none = nil_from_length (firsts h.table) (firsts-length h.table.index_pages ∙ (h.stands.facts.index_each ∙ by_index h.table.index (h.stands.facts.has_rings.0 ∙ none)))
    where
      by_index : (index : Option Ring) → is_some_ring index ≡ false → full_pages (counts_in index) ≡ 0
      by_index None e = refl
      by_index (Some ring) e = absurd (true≢false e)

  -- the index pages of the model
  abbrev pages_listed : KeyRange → Option Span → ℕ
  pages_listed range span = cond (asks_values span) (count_by (lists_later t contents h range span) (firsts h.table)) 0

  listed-few : (range : KeyRange) (span : Option Span) (index : BufferState) → index.holds ≡ None → pages_listed range span ≤ index_least t contents (begin range span h.table) index (start_of t contents range.low + 1)
  listed-few range None index empty = omega arith
  listed-few range (Some span) index empty = by_index t.bitmaps refl
    where
      by_values : (b : Bool) (listed : ℕ) → listed ≡ 0 → cond b listed 0 ≡ 0
      by_values true listed none = none
      by_values false listed none = refl

      by_index : (bitmaps : Option BitmapIndex) → t.bitmaps ≡ bitmaps →
          pages_listed range (Some span) ≤ index_least t contents (begin range (Some span) h.table) index (start_of t contents range.low + 1)
      by_index None is =
          let plain = subst (λ (o : Option BitmapIndex). ArePlanned o (h.first + h.plan.data_blocks) h.plan) is h.stands.planned.index in
          let none = no-firsts (ap (λ n. nat_lt 0 n) plain.0) in
          let nothing = by_values (asks_values (Some span)) (count_by (lists_later t contents h range (Some span)) (firsts h.table)) (ap (λ (xs : List ℕ). count_by (lists_later t contents h range (Some span)) xs) none) in
          omega (arith, nothing)
      by_index (Some b) is =
          subst (λ (o : Option BitmapIndex). pages_listed range (Some span) ≤ due_of (Some span) o (pages_looked_up t contents (begin range (Some span) h.table).top (start_of t contents range.low + 1) (next_in t - (start_of t contents range.low + 1))) index) (sym is)
          (due-both (asks_values (Some span)) (count_by (lists_later t contents h range (Some span)) (firsts h.table)) (due b (pages_looked_up t contents (begin range (Some span) h.table).top (start_of t contents range.low + 1) (next_in t - (start_of t contents range.low + 1))) (next_to_read b index))
          (due-later t contents h range (Some span) b index is empty))

  none-listed : (range : KeyRange) (span : Option Span) →
      ((n : ℕ) (row : Row) → oldest_in t ≤ n → n < next_in t → slice_get (rows_on t contents n) 0 ≡ Some row → is_up_to (begin range span h.table).top row.key ≡ true → row.key ≤ range.low) → pages_listed range span ≡ 0
  none-listed range span below = ap (λ n. cond (asks_values span) n 0) (none-counted t contents h range span below) ∙ zero_either (asks_values span)

  pub begun-least : (range : KeyRange) (span : Option Span) (index : BufferState) (place : Place) → index.holds ≡ None → IsBegun (begin range span h.table) t place →
      least_reads h.plan h.table range span ≤ least_from t contents (begin range span h.table) index place
  begun-least range span index place empty begun = by_place place begun refl
      (least-all (begin range span h.table) (all-asked range span h.table (subst (Ascends None) (standing-rows t contents h) (standing-ascends t contents h))))
    where
      up-below : (top : Option ℕ) (row : Row) → is_up_to top range.low ≡ false → is_up_to top row.key ≡ true → row.key ≤ range.low
      up-below None row low up = absurd (true≢false (sym up))
      up-below (Some top) row low up = elim (cases_lt range.low row.key) [
        | inl lt ↦ let le = leb-true row.key top up in absurd (true≢false (sym (le-leb range.low top (omega (arith, lt, le))) ∙ low))
        | inr le ↦ le
      ]

      by_place : (place : Place) → IsBegun (begin range span h.table) t place → least_reads h.plan h.table range span ≡ count_by (has_match range span) (pages_of h.table) + pages_listed range span →
          count_by (has_match range span) (pages_of h.table) ≤ pages_asked t contents (begin range span h.table) (oldest_in t) (next_in t - oldest_in t) →
          least_reads h.plan h.table range span ≤ least_from t contents (begin range span h.table) index place
      by_place Start begun told le = let few = listed-few range span index empty in omega (arith, told, le, few)
      by_place (Pending row) begun told le =
          let b = begins (lowest_of (begin range span h.table)) (buffered_rows t) begun in
          let is : buffered_rows t ≡ b.row ∷ drop 1 (buffered_rows t) = drop-row (buffered_rows t) 0 b.row b.first in
          let lesser = ascends-front None (rows_over t contents (oldest_in t) (next_in t - oldest_in t)) b.row (drop 1 (buffered_rows t))
          (subst (λ (xs : List Row). Ascends None (rows_over t contents (oldest_in t) (next_in t - oldest_in t) ++ xs)) is (standing-ascends t contents h)) in
          let below = each-weaker (λ x. x.key < b.row.key) (λ x. x.key < lowest_of (begin range span h.table)) (λ x lt. omega (arith, lt, b.up_to)) (rows_over t contents (oldest_in t) (next_in t - oldest_in t)) lesser in
          let none = raised-below t contents (begin range span h.table) (next_in t - oldest_in t) (oldest_in t) below in
          let nothing = none-listed range span (λ n row low high first up. let lt = first-over t contents (λ x. x.key < range.low) n row low high first below in omega (arith, lt)) in
          omega (arith, told, le, none, nothing)
      by_place Ended begun told le =
          let none = pages-past t contents (begin range span h.table) (next_in t - oldest_in t) (oldest_in t) begun in
          let nothing = none-listed range span (λ n row low high first up. up-below (begin range span h.table).top row begun up) in
          omega (arith, told, le, none, nothing)
      by_place (Pages next) begun told le = absurd begun
      by_place (InPage number row) begun told le = absurd begun
