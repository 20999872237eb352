-- The index pages that list a page with rows after the first one of a scan.
use Rattle.std.proofs.Common.{◌≡◌, ◌⊎◌, inl, inr, ℕ, zero, suc, ◌+◌, ◌-◌, ◌<◌, ◌≤◌, Bool, true, false, ◌&&◌, ◌||◌, cond, ◌==◌, nat_le, nat_lt, Option, Some, None, unwrap_or, List, [], ◌∷◌, ◌++◌, length, map, take, drop, refl, sym, ◌∙◌, ap, subst, append_assoc, arith}
use Rattle.std.specs.List.{slice_get, list_any, count_by, sum, AllByRecursion}
use Rattle.std.proofs.lemmas.Bool.{cases_lt, leb-true, le-leb, ltb-true, false_from_ne_true, true≢false, and_parts, or_right}
use Rattle.std.proofs.lemmas.List.{length-drop}
use Rattle.std.proofs.lemmas.List.Sums.{sum_by-cons, sum_by-take-le}
use Rattle.std.proofs.lemmas.Option.{none-some, same_Some}
use Rattle.fl_base.specs.declared.types.KeyRange.{KeyRange}
use Rattle.fl_base.specs.declared.types.Span.{Span}
use Rattle.fl_find.specs.Pages.{first_key}
use Rattle.fl_index.specs.Looking.{is_looked_at, after_held, next_to_read, due}
use Rattle.fl_index.specs.Memory as indexes
use Rattle.fl_index.specs.Page.{page_number}
use Rattle.fl_index.specs.declared.index.BitmapIndex.{BitmapIndex}
use Rattle.fl_index.proofs.Spanned.{listed-looked, due-firsts}
use Rattle.fl_flash.specs.Buffer.{BufferState}
use Rattle.fl_model.specs.Limits.{first_page, last_page, in_pages}
use Rattle.fl_model.specs.Query.{Cursor, begin, is_up_to}
use Rattle.fl_model.specs.Record.{entries_per_page}
use Rattle.fl_model.specs.Ring as rings
use Rattle.fl_model.specs.Row.{Row, stored_row}
use Rattle.fl_model.specs.Spline.{pages_from, pages_of, page_at}
use Rattle.fl_model.specs.Table.{Entry, firsts}
use Rattle.fl_model.proofs.Lists.{slice_get-short, each-drop, each-back, each-front, each-at, any-at, sum_by-next}
use Rattle.fl_frame.specs.Contents.{Contents}
use Rattle.fl_page.specs.Steps.{Ascends}
use Rattle.fl_page.proofs.RowsFrom.{drop-row}
use Rattle.fl_search.specs.Search.{IsPageOf}
use Rattle.fl_table.specs.Look.{oldest_in, buffered_rows}
use Rattle.fl_table.specs.Memory.{next_in}
use Rattle.fl_table.specs.declared.table.Table.{Table}
use Rattle.fl_table.proofs.MemoryTells.{next-is, oldest-is}
use Rattle.fl_table.proofs.IndexStands.{index-stands}
use Rattle.fl_cursor.specs.Cursor.{IsStanding}
use Rattle.fl_cursor.specs.Listed.{rows_on, rows_over, rows_of}
use Rattle.fl_cursor.specs.Reads.{begins_by, start_of, pages_looked_up}
use Rattle.fl_cursor.proofs.LowestPage.{standing-start, start-is, over-split}
use Rattle.fl_cursor.proofs.StartSearch.{begins, first-front}
use Rattle.fl_cursor.proofs.Selected.{all-up}
use Rattle.fl_cursor.proofs.StartPlaces.{ascends-front}
use Rattle.fl_cursor.proofs.Stood.{kept-rows, standing-rows, standing-ascends}

-- ---- pages with rows

-- a kept page with rows that passes a test
record KeptPage (p : ℕ → Bool) (first : ℕ) (counts : List ℕ) : Type 0 where
  i : ℕ
  c : ℕ
  here : slice_get counts i ≡ Some c
  some : 0 < c
  passes : p (first + i) ≡ true

kept-later : (p : ℕ → Bool) (first x : ℕ) (counts : List ℕ) → KeptPage p (first + 1) counts → KeptPage p first (x ∷ counts)
kept-later p first x counts k = record {
  i = suc k.i;
  c = k.c;
  here = k.here;
  some = k.some;
  passes = let at : first + 1 + k.i ≡ first + suc k.i = omega arith in subst (λ n. p n ≡ true) at k.passes;
}

any-kept : (p : ℕ → Bool) (first : ℕ) (counts : List ℕ) (entries : List Entry) → list_any (λ (page : ℕ × List Entry). p page.0) (pages_from first counts entries) ≡ true → KeptPage p first counts
any-kept p first [] entries e = absurd (true≢false (sym e))
any-kept p first (x ∷ counts) entries e = by_zero (x == 0) refl e (λ es h. any-kept p (first + 1) counts es h)
  where
    by_test : (b : Bool) → p first ≡ b → 0 < x → (b || list_any (λ (page : ℕ × List Entry). p page.0) (pages_from (first + 1) counts (drop x entries))) ≡ true →
        (list_any (λ (page : ℕ × List Entry). p page.0) (pages_from (first + 1) counts (drop x entries)) ≡ true → KeptPage p (first + 1) counts) → KeptPage p first (x ∷ counts)
    by_test true is some e others = record { i = 0; c = x; here = refl; some = some; passes = let at : first ≡ first + 0 = omega arith in subst (λ n. p n ≡ true) at is }
    by_test false is some e others = kept-later p first x counts (others e)

    by_zero : (b : Bool) → (x == 0) ≡ b →
        list_any (λ (page : ℕ × List Entry). p page.0) (cond b (pages_from (first + 1) counts entries) ((first, take x entries) ∷ pages_from (first + 1) counts (drop x entries))) ≡ true →
        ((es : List Entry) → list_any (λ (page : ℕ × List Entry). p page.0) (pages_from (first + 1) counts es) ≡ true → KeptPage p (first + 1) counts) → KeptPage p first (x ∷ counts)
    by_zero true z e others = kept-later p first x counts (others entries e)
    by_zero false z e others = by_test (p first) refl (not_zero (cases_lt 0 x)) e (others (drop x entries))
      where
        not_zero : (0 < x) ⊎ (x ≤ 0) → 0 < x
        not_zero (inl lt) = lt
        not_zero (inr le) = let n : x ≡ 0 = omega (arith, le) in absurd (true≢false (sym (ap (λ k. k == 0) n) ∙ z))

count-false : (q : ℕ → Bool) (xs : List ℕ) → ((x : ℕ) → q x ≡ false) → count_by q xs ≡ 0
count-false q [] h = refl
count-false q (x ∷ xs) h =
    let here : cond (q x) 1 0 ≡ 0 = ap (λ b. cond {A = ℕ} b 1 0) (h x) in
    let others = count-false q xs h in
    omega (arith, sum_by-cons (λ y. cond (q y) 1 0) x xs, here, others)

-- the first row of a page that begins so
begun-row : (key : ℕ) (rows : List Row) (row : Row) → slice_get rows 0 ≡ Some row → row.key ≤ key → begins_by key rows ≡ true
begun-row key [] row e le = absurd (none-some row e)
begun-row key (x ∷ rows) row e le = let same = ap (λ (r : Row). r.key) (same_Some x row e) in le-leb x.key key (omega (arith, same, le))

looked-any : {KNOTS SLOTS : ℕ} (t : Table KNOTS SLOTS) (contents : Contents) (top : Option ℕ) (q : ℕ → Bool) (n number k : ℕ) → number ≤ k → k < number + n → list_any (λ row. is_up_to top row.key) (rows_on t contents k) ≡ true → q k ≡ true →
    list_any q (pages_looked_up t contents top number n) ≡ true
looked-any t contents top q zero number k low high up is = absurd (omega (arith, low, high))
looked-any t contents top q (suc n) number k low high up is = elim (cases_lt number k) [
  | inl lt ↦ by_rows (list_any (λ row. is_up_to top row.key) (rows_on t contents number)) (looked-any t contents top q n (number + 1) k (omega (arith, lt)) (omega (arith, high)) up is)
  | inr le ↦
      let same : k ≡ number = omega (arith, low, le) in
      ap (λ b. list_any q (cond b (number ∷ pages_looked_up t contents top (number + 1) n) (pages_looked_up t contents top (number + 1) n))) (sym (ap (λ m. list_any (λ row. is_up_to top row.key) (rows_on t contents m)) same) ∙ up)
      ∙ ap (λ b. b || list_any q (pages_looked_up t contents top (number + 1) n)) (sym (ap q same) ∙ is)
]
  where
    by_rows : (b : Bool) → list_any q (pages_looked_up t contents top (number + 1) n) ≡ true → list_any q (cond b (number ∷ pages_looked_up t contents top (number + 1) n) (pages_looked_up t contents top (number + 1) n)) ≡ true
    by_rows true e = or_right (q number) (list_any q (pages_looked_up t contents top (number + 1) n)) e
    by_rows false e = e

-- the first entry of a page with rows
record HasFirst (P : Entry → Type 0) (entries : List Entry) : Type 0 where
  entry : Entry
  first : slice_get (map stored_row entries) 0 ≡ Some (stored_row entry)
  holds : P entry

has-first : (P : Entry → Type 0) (c : ℕ) (entries : List Entry) → 0 < c → 0 < length entries → AllByRecursion P entries → HasFirst P (take c entries)
has-first P zero entries some more h = absurd (omega (arith, some))
has-first P (suc c) [] some more h = absurd (omega (arith, more))
has-first P (suc c) (e ∷ es) some more h = record { entry = e; first = refl; holds = h.0 }

module _ {KNOTS SLOTS : ℕ} (t : Table KNOTS SLOTS) (contents : Contents) where
  -- what holds of all rows of pages holds of the first one of each
  pub first-over : (P : Row → Type 0) (n : ℕ) (row : Row) → oldest_in t ≤ n → n < next_in t → slice_get (rows_on t contents n) 0 ≡ Some row → AllByRecursion P (rows_over t contents (oldest_in t) (next_in t - oldest_in t)) → P row
  first-over P n row low high first all =
      let k = n - oldest_in t in
      let m = next_in t - (n + 1) in
      let at : oldest_in t + k ≡ n = omega (arith, low) in
      let many : next_in t - oldest_in t ≡ k + suc m = omega (arith, low, high) in
      let whole = ap (rows_over t contents (oldest_in t)) many ∙ over-split t contents k (suc m) (oldest_in t) in
      let part = each-back P (rows_over t contents (oldest_in t) k) (rows_over t contents (oldest_in t + k) (suc m)) (subst (AllByRecursion P) whole all) in
      let here = each-front P (rows_on t contents n) (rows_over t contents (n + 1) m) (subst (λ j. AllByRecursion P (rows_over t contents j (suc m))) at part) in
      each-at P (rows_on t contents n) 0 row here first

module _ {KNOTS SLOTS : ℕ} (t : Table KNOTS SLOTS) (contents : Contents) (h : IsStanding t contents) where
  -- the rows of an earlier page are below those of a later one
  pub earlier : (a b : ℕ) (x y : Row) → oldest_in t ≤ a → a < b → b < next_in t → slice_get (rows_on t contents a) 0 ≡ Some x → slice_get (rows_on t contents b) 0 ≡ Some y → x.key < y.key
  earlier a b x y low lt high first_x first_y =
      let k = a - oldest_in t in
      let m = b - (a + 1) in
      let n = next_in t - (b + 1) in
      let at : oldest_in t + k ≡ a = omega (arith, low) in
      let many : next_in t - oldest_in t ≡ (k + suc m) + suc n = omega (arith, low, lt, high) in
      let to : oldest_in t + (k + suc m) ≡ b = omega (arith, low, lt) in
      let front = rows_over t contents (oldest_in t) (k + suc m) in
      let rest = rows_over t contents (b + 1) n ++ buffered_rows t in
      let whole : rows_of t contents ≡ (rows_over t contents (oldest_in t) (k + suc m) ++ (rows_on t contents b ++ rows_over t contents (b + 1) n)) ++ buffered_rows t =
      ap (λ j. rows_over t contents (oldest_in t) j ++ buffered_rows t) many
      ∙ (ap (λ (xs : List Row). xs ++ buffered_rows t) (over-split t contents (k + suc m) (suc n) (oldest_in t))
      ∙ ap (λ j. (rows_over t contents (oldest_in t) (k + suc m) ++ rows_over t contents j (suc n)) ++ buffered_rows t) to) in
      let split = whole ∙ assoc (rows_over t contents (oldest_in t) (k + suc m)) (rows_on t contents b) (rows_over t contents (b + 1) n) (buffered_rows t) in
      let is_first = drop-row (rows_on t contents b ++ rest) 0 y (first-front (rows_on t contents b) rest y first_y) in
      let ascends = subst (λ (xs : List Row). Ascends None (rows_over t contents (oldest_in t) (k + suc m) ++ xs)) is_first (subst (Ascends None) split (standing-ascends t contents h)) in
      let below = ascends-front None front y (drop 1 (rows_on t contents b ++ rest)) ascends in
      let part = each-back (λ (r : Row). r.key < y.key) (rows_over t contents (oldest_in t) k) (rows_over t contents (oldest_in t + k) (suc m)) (subst (AllByRecursion (λ (r : Row). r.key < y.key)) (over-split t contents k (suc m) (oldest_in t)) below) in
      let here = each-front (λ (r : Row). r.key < y.key) (rows_on t contents a) (rows_over t contents (a + 1) m) (subst (λ j. AllByRecursion (λ (r : Row). r.key < y.key) (rows_over t contents j (suc m))) at part) in
      each-at (λ (r : Row). r.key < y.key) (rows_on t contents a) 0 x here first_x
    where
      assoc : (a b c d : List Row) → (a ++ (b ++ c)) ++ d ≡ a ++ (b ++ (c ++ d))
      assoc a b c d = append_assoc a (b ++ c) d ∙ ap (λ (xs : List Row). a ++ xs) (append_assoc b c d)

  module _ (range : KeyRange) (span : Option Span) where
    abbrev asked : Cursor
    asked = begin range span h.table

    -- a page with rows that lies behind the first one and in the range
    abbrev is_later : ℕ → ℕ → Bool
    is_later first n =
        nat_le first n && nat_lt n (first + entries_per_page h.plan) && nat_lt (first_page h.table range.low) n && in_pages (first_page h.table range.low) (last_page h.table range.high) n

    abbrev pub lists_later : ℕ → Bool
    lists_later first = list_any (λ (page : ℕ × List Entry). is_later first page.0) (pages_of h.table)

    record IsLater (first n : ℕ) : Type 0 where
      from : first ≤ n
      before : n < first + entries_per_page h.plan
      behind : first_page h.table range.low < n
      kept : oldest_in t ≤ n
      within : n < next_in t
      row : Row
      is_first : slice_get (rows_on t contents n) 0 ≡ Some row
      up : is_up_to (begin range span h.table).top row.key ≡ true

    in-range : (n : ℕ) (row : Row) → oldest_in t ≤ n → n < next_in t → slice_get (rows_on t contents n) 0 ≡ Some row → (page : Option ℕ) → in_pages (first_page h.table range.low) page n ≡ true →
        IsPageOf (λ n. first_key (rows_on t contents n)) (oldest_in t) (next_in t) range.high page → row.key ≤ range.high
    in-range n row low high first None e is = absurd (true≢false (sym e))
    in-range n row low high first (Some page) e is =
        let b = and_parts (nat_le (first_page h.table range.low) n) (nat_le n page) e in
        let le = leb-true n page b.1 in
        let begun = begins range.high (rows_on t contents page) is.here in
        elim (cases_lt n page) [
          | inl lt ↦ let less = earlier n page row begun.row low lt is.before first begun.first in omega (arith, less, begun.up_to)
          | inr ge ↦
              let same : page ≡ n = omega (arith, le, ge) in
              let equal = same_Some begun.row row (sym begun.first ∙ (ap (λ k. slice_get (rows_on t contents k) 0) same ∙ first)) in
              omega (arith, begun.up_to, ap (λ (r : Row). r.key) equal)
        ]

    later-is : (first : ℕ) → lists_later first ≡ true → (n : ℕ) × IsLater first n
    later-is first e = by_kept (any-kept (is_later first) (rings.oldest h.table.rows) h.table.rows.counts h.table.entries e)
      where
        by_kept : KeptPage (is_later first) (rings.oldest h.table.rows) h.table.rows.counts → (n : ℕ) × IsLater first n
        by_kept k =
            let n = rings.oldest h.table.rows + k.i in
            let b1 = and_parts (nat_le first n && nat_lt n (first + entries_per_page h.plan) && nat_lt (first_page h.table range.low) n) (in_pages (first_page h.table range.low) (last_page h.table range.high) n) k.passes in
            let b2 = and_parts (nat_le first n && nat_lt n (first + entries_per_page h.plan)) (nat_lt (first_page h.table range.low) n) b1.0 in
            let b3 = and_parts (nat_le first n) (nat_lt n (first + entries_per_page h.plan)) b2.0 in
            let oldest = oldest-is t h.flash h.first h.plan h.table h.stands in
            let next = next-is t h.flash h.first h.plan h.table h.stands in
            let short = slice_get-short h.table.rows.counts k.i k.c k.here in
            let low : oldest_in t ≤ rings.oldest h.table.rows + k.i = omega (arith, oldest) in
            let high : rings.oldest h.table.rows + k.i < next_in t = omega (arith, short, next, h.stands.facts.rows.not_negative) in
            let all = all-up range span h.table (subst (Ascends None) (standing-rows t contents h) (standing-ascends t contents h)) in
            let entries = drop (sum (take k.i h.table.rows.counts)) h.table.entries in
            let f = has-first (λ (e : Entry). e.kept.key ≤ range.high → is_up_to (begin range span h.table).top e.kept.key ≡ true) k.c entries k.some (enough k)
            (each-drop (λ (e : Entry). e.kept.key ≤ range.high → is_up_to (begin range span h.table).top e.kept.key ≡ true) (sum (take k.i h.table.rows.counts)) h.table.entries all) in
            let is_first : slice_get (rows_on t contents (rings.oldest h.table.rows + k.i)) 0 ≡ Some (stored_row f.entry) = ap (λ (xs : List Row). slice_get xs 0) (kept-rows t contents h k.i k.c k.here) ∙ f.first in
            let le = in-range n (stored_row f.entry) low high is_first (page_at h.table range.high) b1.1 (standing-start t contents h range.high) in (
              n,
              record {
                from = leb-true first n b3.0;
                before = ltb-true n (first + entries_per_page h.plan) b3.1;
                behind = ltb-true (first_page h.table range.low) n b2.1;
                kept = low;
                within = high;
                row = stored_row f.entry;
                is_first = is_first;
                up = f.holds le;
              },
            )
          where
            enough : (k : KeptPage (is_later first) (rings.oldest h.table.rows) h.table.rows.counts) → 0 < length (drop (sum (take k.i h.table.rows.counts)) h.table.entries)
            enough k =
                let next = sum_by-next (λ (m : ℕ). m) h.table.rows.counts k.i k.c k.here in
                let most = sum_by-take-le (λ (m : ℕ). m) h.table.rows.counts (suc k.i) in
                omega (arith, next, most, k.some, h.stands.facts.counted, length-drop (sum (take k.i h.table.rows.counts)) h.table.entries)

    -- a page behind the first one doesn't begin by the low key
    not-begun : (n : ℕ) → oldest_in t ≤ n → n < next_in t → first_page h.table range.low < n → (page : Option ℕ) → first_page h.table range.low ≡ unwrap_or page (rings.oldest h.table.rows) →
        IsPageOf (λ n. first_key (rows_on t contents n)) (oldest_in t) (next_in t) range.low page → begins_by range.low (rows_on t contents n) ≡ false
    not-begun n low high behind None e is = is n low high
    not-begun n low high behind (Some page) e is = is.later n (omega (arith, behind, e)) high

    later-above : (first n : ℕ) → (l : IsLater first n) → l.row.key ≤ range.low → ⊥
    later-above first n l le = true≢false (sym (begun-row range.low (rows_on t contents n) l.row l.is_first le) ∙ not-begun n l.kept l.within l.behind (page_at h.table range.low) refl (standing-start t contents h range.low))

    -- where each row up to the last key is at most the low key there is none
    pub none-later : ((n : ℕ) (row : Row) → oldest_in t ≤ n → n < next_in t → slice_get (rows_on t contents n) 0 ≡ Some row → is_up_to (begin range span h.table).top row.key ≡ true → row.key ≤ range.low) → (first : ℕ) → lists_later first ≡ false
    none-later below first = false_from_ne_true (lists_later first) (λ e.
        let l = later-is first e in
        later-above first l.0 l.1 (below l.0 l.1.row l.1.kept l.1.within l.1.is_first l.1.up))

    pub none-counted : ((n : ℕ) (row : Row) → oldest_in t ≤ n → n < next_in t → slice_get (rows_on t contents n) 0 ≡ Some row → is_up_to (begin range span h.table).top row.key ≡ true → row.key ≤ range.low) → count_by lists_later (firsts h.table) ≡ 0
    none-counted below = count-false lists_later (firsts h.table) (none-later below)

    -- the index pages that list one are due
    pub due-later : (index : BitmapIndex) (buf : BufferState) → t.bitmaps ≡ Some index → buf.holds ≡ None →
        count_by lists_later (firsts h.table)
        ≤ due index (pages_looked_up t contents (begin range span h.table).top (start_of t contents range.low + 1) (next_in t - (start_of t contents range.low + 1))) (next_to_read index buf)
    due-later index buf is empty =
        let numbers = pages_looked_up t contents (begin range span h.table).top (start_of t contents range.low + 1) (next_in t - (start_of t contents range.low + 1)) in
        let few = due-firsts index h.flash (h.first + h.plan.data_blocks) h.plan h.table (index-stands t h.flash h.first h.plan h.table h.stands index is) lists_later numbers looked in
        let start = ap (λ n. due index numbers n) (ap (after_held (indexes.oldest_in index) (page_number buf.bytes)) empty) in
        omega (arith, few, start)
      where
        looked : (page first : ℕ) → indexes.oldest_in index ≤ page → page < indexes.next_in index → indexes.first_in index page ≡ Some first → lists_later first ≡ true →
            list_any (is_looked_at index page) (pages_looked_up t contents (begin range span h.table).top (start_of t contents range.low + 1) (next_in t - (start_of t contents range.low + 1))) ≡ true
        looked page first low high first_is e =
            let l = later-is first e in
            let start = start-is t contents range.low (page_at h.table range.low) (standing-start t contents h range.low) ∙ ap (λ n. unwrap_or (page_at h.table range.low) n) (oldest-is t h.flash h.first h.plan h.table h.stands) in
            let behind : start_of t contents range.low + 1 ≤ l.0 = omega (arith, l.1.behind, start) in
            looked-any t contents (begin range span h.table).top (is_looked_at index page) (next_in t - (start_of t contents range.low + 1)) (start_of t contents range.low + 1) l.0 behind (omega (arith, behind, l.1.within))
            (any-at (λ (row : Row). is_up_to (begin range span h.table).top row.key) (rows_on t contents l.0) 0 l.1.row l.1.is_first l.1.up)
            (listed-looked index h.flash (h.first + h.plan.data_blocks) h.plan h.table (index-stands t h.flash h.first h.plan h.table h.stands index is) l.0 page first low high first_is l.1.from l.1.before)
