-- The first page behind a range of keys, in the model and on a flash that stands for it.
use Rattle.std.proofs.Common.{◌≡◌, ℕ, zero, suc, ◌+◌, ◌-◌, ◌<◌, ◌≤◌, Bool, true, false, not, ◌&&◌, cond, ◌==◌, nat_lt, Option, Some, None, option_map, List, [], ◌∷◌, length, filter, map, take, drop, refl, sym, ◌∙◌, ap, subst, arith}
use Rattle.std.specs.List.{slice_get, sum}
use Rattle.std.proofs.lemmas.Bool.{eqb-true, lt-ltb, ltb-true, false_from_ne_true, leb-true}
use Rattle.std.proofs.lemmas.List.{drop-drop}
use Rattle.std.proofs.lemmas.List.Sums.{sum_by-cons}
use Rattle.std.proofs.lemmas.Option.{none-some, same_Some}
use Rattle.fl_base.specs.declared.types.Span.{Span}
use Rattle.fl_base.proofs.Tests.{some_from}
use Rattle.fl_model.specs.Image.{rows_at}
use Rattle.fl_model.specs.Limits.{is_indexed, page_behind}
use Rattle.fl_model.specs.Query.{is_up_to}
use Rattle.fl_model.specs.Ring as rings
use Rattle.fl_model.specs.Row.{Row, stored_row}
use Rattle.fl_model.specs.Spline.{page_key, pages_from, pages_of}
use Rattle.fl_model.specs.Table.{Entry, first_key}
use Rattle.fl_model.proofs.Lists.{slice_get-short, drop_none}
use Rattle.fl_frame.specs.Contents.{Contents}
use Rattle.fl_table.specs.Look.{oldest_in, rows_noted}
use Rattle.fl_table.specs.Memory.{next_in}
use Rattle.fl_table.specs.declared.table.Table.{Table}
use Rattle.fl_table.proofs.MemoryTells.{next-is, oldest-is}
use Rattle.fl_cursor.specs.Cursor.{IsStanding}
use Rattle.fl_cursor.specs.Listed.{rows_on}
use Rattle.fl_cursor.specs.Reads.{is_beyond, IsBounded}
use Rattle.fl_cursor.proofs.Stood.{at-number, kept-rows, standing-many}
use Rattle.fl_cursor.proofs.Wanted.{beyond-same, rows-are}

-- ---- among the pages with rows

abbrev is_above_key : ℕ → ℕ × List Entry → Bool
is_above_key high page = nat_lt high (page_key page)

-- the rows of the i-th page
abbrev page_rows : List ℕ → List Entry → ℕ → ℕ → List Entry
page_rows counts entries i c = take c (drop (sum (take i counts)) entries)

-- the rows of a page behind the first one
rows-later : (x : ℕ) (counts : List ℕ) (entries : List Entry) (i c : ℕ) → page_rows counts (drop x entries) i c ≡ page_rows (x ∷ counts) entries (suc i) c
rows-later x counts entries i c =
    ap (take c) (drop-drop (sum (take i counts)) x entries)
    ∙ ap (λ n. take c (drop n entries)) (let total = sum_by-cons (λ (n : ℕ). n) x (take i counts) in let same : x + sum (take i counts) ≡ sum (take (suc i) (x ∷ counts)) = omega (arith, total) in same)

-- the i-th page has rows and begins above a key
record BeginsAbove (high first : ℕ) (counts : List ℕ) (entries : List Entry) (number : ℕ) : Type 0 where
  i : ℕ
  c : ℕ
  at : number ≡ first + i
  here : slice_get counts i ≡ Some c
  some : 0 < c
  above : nat_lt high (first_key (page_rows counts entries i c)) ≡ true

begins-later : (high first x : ℕ) (counts : List ℕ) (entries : List Entry) (number : ℕ) → BeginsAbove high (first + 1) counts (drop x entries) number → BeginsAbove high first (x ∷ counts) entries number
begins-later high first x counts entries number b = record {
  i = suc b.i;
  c = b.c;
  at = omega (arith, b.at);
  here = b.here;
  some = b.some;
  above = sym (ap (λ (rows : List Entry). nat_lt high (first_key rows)) (rows-later x counts entries b.i b.c)) ∙ b.above;
}

-- the first that begins above a key is one of them
above-at : (high first : ℕ) (counts : List ℕ) (entries : List Entry) (page : ℕ × List Entry) → slice_get (filter (is_above_key high) (pages_from first counts entries)) 0 ≡ Some page → BeginsAbove high first counts entries page.0
above-at high first [] entries page e = absurd (none-some page e)
above-at high first (x ∷ counts) entries page e = by_zero (x == 0) refl e (λ es h. above-at high (first + 1) counts es page h)
  where
    by_test : (b : Bool) → nat_lt high (first_key (take x entries)) ≡ b → 0 < x →
        slice_get (cond b ((first, take x entries) ∷ filter (is_above_key high) (pages_from (first + 1) counts (drop x entries))) (filter (is_above_key high) (pages_from (first + 1) counts (drop x entries)))) 0 ≡ Some page →
        (slice_get (filter (is_above_key high) (pages_from (first + 1) counts (drop x entries))) 0 ≡ Some page → BeginsAbove high (first + 1) counts (drop x entries) page.0) → BeginsAbove high first (x ∷ counts) entries page.0
    by_test true is some e others =
        let same : (first, take x entries) ≡ page = same_Some _ _ e in
        record {
          i = 0;
          c = x;
          at = let number = ap (λ (p : ℕ × List Entry). p.0) same in omega (arith, number);
          here = refl;
          some = some;
          above = ap (λ (es : List Entry). nat_lt high (first_key (take x es))) (drop_none entries) ∙ is;
        }
    by_test false is some e others = begins-later high first x counts entries page.0 (others e)

    by_zero : (b : Bool) → (x == 0) ≡ b →
        slice_get (filter (is_above_key high) (cond b (pages_from (first + 1) counts entries) ((first, take x entries) ∷ pages_from (first + 1) counts (drop x entries)))) 0 ≡ Some page →
        ((es : List Entry) → slice_get (filter (is_above_key high) (pages_from (first + 1) counts es)) 0 ≡ Some page → BeginsAbove high (first + 1) counts es page.0) → BeginsAbove high first (x ∷ counts) entries page.0
    by_zero true z e others =
        let none : drop x entries ≡ entries = ap (λ n. drop n entries) (eqb-true x 0 z) ∙ drop_none entries in
        begins-later high first x counts entries page.0 (subst (λ (es : List Entry). BeginsAbove high (first + 1) counts es page.0) (sym none) (others entries e))
    by_zero false z e others = by_test (nat_lt high (first_key (take x entries))) refl (some_from x z) e (others (drop x entries))

-- it isn't behind any of them
record FirstAbove (high first : ℕ) (counts : List ℕ) (entries : List Entry) (most : ℕ) : Type 0 where
  page : ℕ × List Entry
  is : slice_get (filter (is_above_key high) (pages_from first counts entries)) 0 ≡ Some page
  le : page.0 ≤ most

first-above : (high first : ℕ) (counts : List ℕ) (entries : List Entry) (i c : ℕ) → slice_get counts i ≡ Some c → 0 < c → nat_lt high (first_key (page_rows counts entries i c)) ≡ true → FirstAbove high first counts entries (first + i)
first-above high first [] entries i c e some above = absurd (none-some c e)
first-above high first (x ∷ counts) entries zero c e some above = by_zero (x == 0) refl
  where
    same : x ≡ c
    same = same_Some _ _ e

    here : nat_lt high (first_key (take x entries)) ≡ true
    here = ap (λ n. nat_lt high (first_key (take n entries))) same ∙ (sym (ap (λ (es : List Entry). nat_lt high (first_key (take c es))) (drop_none entries)) ∙ above)

    by_zero : (b : Bool) → (x == 0) ≡ b → FirstAbove high first (x ∷ counts) entries (first + 0)
    by_zero true z = let n = eqb-true x 0 z in absurd (omega (arith, n, same, some))
    by_zero false z = record {
      page = (first, take x entries);
      is = ap (λ b. slice_get (filter (is_above_key high) (cond b (pages_from (first + 1) counts entries) ((first, take x entries) ∷ pages_from (first + 1) counts (drop x entries)))) 0) z
          ∙ ap (λ b. slice_get (cond b ((first, take x entries) ∷ filter (is_above_key high) (pages_from (first + 1) counts (drop x entries))) (filter (is_above_key high) (pages_from (first + 1) counts (drop x entries)))) 0) here;
      le = omega arith;
    }
first-above high first (x ∷ counts) entries (suc i) c e some above =
    by_zero (x == 0) refl (first-above high (first + 1) counts (drop x entries) i c e some (ap (λ (rows : List Entry). nat_lt high (first_key rows)) (rows-later x counts entries i c) ∙ above))
  where
    by_test : (b : Bool) → nat_lt high (first_key (take x entries)) ≡ b → (x == 0) ≡ false → FirstAbove high (first + 1) counts (drop x entries) (first + 1 + i) → FirstAbove high first (x ∷ counts) entries (first + suc i)
    by_test true is z later = record {
      page = (first, take x entries);
      is = ap (λ b. slice_get (filter (is_above_key high) (cond b (pages_from (first + 1) counts entries) ((first, take x entries) ∷ pages_from (first + 1) counts (drop x entries)))) 0) z
          ∙ ap (λ b. slice_get (cond b ((first, take x entries) ∷ filter (is_above_key high) (pages_from (first + 1) counts (drop x entries))) (filter (is_above_key high) (pages_from (first + 1) counts (drop x entries)))) 0) is;
      le = omega arith;
    }
    by_test false is z later = record {
      page = later.page;
      is = ap (λ b. slice_get (filter (is_above_key high) (cond b (pages_from (first + 1) counts entries) ((first, take x entries) ∷ pages_from (first + 1) counts (drop x entries)))) 0) z
          ∙ (ap (λ b. slice_get (cond b ((first, take x entries) ∷ filter (is_above_key high) (pages_from (first + 1) counts (drop x entries))) (filter (is_above_key high) (pages_from (first + 1) counts (drop x entries)))) 0) is
          ∙ later.is);
      le = omega (arith, later.le);
    }

    by_zero : (b : Bool) → (x == 0) ≡ b → FirstAbove high (first + 1) counts (drop x entries) (first + 1 + i) → FirstAbove high first (x ∷ counts) entries (first + suc i)
    by_zero true z later =
        let none : drop x entries ≡ entries = ap (λ n. drop n entries) (eqb-true x 0 z) ∙ drop_none entries in
        record {
          page = later.page;
          is = ap (λ b. slice_get (filter (is_above_key high) (cond b (pages_from (first + 1) counts entries) ((first, take x entries) ∷ pages_from (first + 1) counts (drop x entries)))) 0) z
              ∙ (ap (λ (es : List Entry). slice_get (filter (is_above_key high) (pages_from (first + 1) counts es)) 0) (sym none) ∙ later.is);
          le = omega (arith, later.le);
        }
    by_zero false z later = by_test (nat_lt high (first_key (take x entries))) refl z later

-- ---- on a flash that stands for the table

-- the key of the first row
first-entry : (entries : List Entry) (row : Row) → slice_get (map stored_row entries) 0 ≡ Some row → first_key entries ≡ row.key
first-entry [] row e = absurd (none-some row e)
first-entry (entry ∷ entries) row e = ap (λ (r : Row). r.key) (same_Some _ _ e)

-- a page with rows, the first of which is above a key
pub record IsBehind {KNOTS SLOTS : ℕ} (t : Table KNOTS SLOTS) (contents : Contents) (high number : ℕ) : Type 0 where
  pub from : oldest_in t ≤ number
  pub before : number < next_in t
  pub row : Row
  pub first : slice_get (rows_on t contents number) 0 ≡ Some row
  pub above : high < row.key

some-rows : (rows : List Row) (row : Row) → slice_get rows 0 ≡ Some row → 0 < length rows
some-rows rows row e = slice_get-short rows 0 row e

module _ {KNOTS SLOTS : ℕ} (t : Table KNOTS SLOTS) (contents : Contents) (h : IsStanding t contents) where
  -- the first page behind a key is such a one
  pub behind-is : (high number : ℕ) → page_behind h.table high ≡ Some number → IsBehind t contents high number
  behind-is high number e = by_page (slice_get (filter (is_above_key high) (pages_of h.table)) 0) refl e
    where
      by_rows : (rows : List Entry) → nat_lt high (first_key rows) ≡ true → (row : Row) × (slice_get (map stored_row rows) 0 ≡ Some row) × (high < row.key)
      by_rows [] above = let lt = ltb-true high 0 above in absurd (omega (arith, lt))
      by_rows (entry ∷ rows) above = (stored_row entry, refl, ltb-true high entry.kept.key above)

      by_page : (o : Option (ℕ × List Entry)) → slice_get (filter (is_above_key high) (pages_of h.table)) 0 ≡ o → option_map (λ (page : ℕ × List Entry). page.0) o ≡ Some number → IsBehind t contents high number
      by_page None is e = absurd (none-some number e)
      by_page (Some page) is e =
          let b = above-at high (rings.oldest h.table.rows) h.table.rows.counts h.table.entries page is in
          let same : page.0 ≡ number = same_Some _ _ e in
          let there : rings.oldest h.table.rows + b.i ≡ number = omega (arith, b.at, same) in
          let oldest = oldest-is t h.flash h.first h.plan h.table h.stands in
          let next = next-is t h.flash h.first h.plan h.table h.stands in
          let within = slice_get-short h.table.rows.counts b.i b.c b.here in
          let found = by_rows (page_rows h.table.rows.counts h.table.entries b.i b.c) b.above in
          record {
            from = omega (arith, there, oldest);
            before = omega (arith, there, next, within, h.stands.facts.rows.not_negative);
            row = found.0;
            first = sym (ap (λ n. slice_get (rows_on t contents n) 0) there) ∙ (ap (λ (rows : List Row). slice_get rows 0) (kept-rows t contents h b.i b.c b.here) ∙ found.1);
            above = found.2;
          }

  -- .. and none is before it
  pub behind-before : (high number : ℕ) → IsBehind t contents high number → (page : ℕ) × (page_behind h.table high ≡ Some page) × (page ≤ number)
  behind-before high number b =
      let place = number - rings.oldest h.table.rows in
      let many = standing-many t contents h number b.from b.before in
      let some : 0 < rows_noted t number = let rows = some-rows (rows_on t contents number) b.row b.first in omega (arith, many, rows) in
      let key : first_key (rows_at h.table (number - rings.oldest h.table.rows) (rows_noted t number)) ≡ b.row.key =
      first-entry (rows_at h.table (number - rings.oldest h.table.rows) (rows_noted t number)) b.row (sym (ap (λ (rows : List Row). slice_get rows 0) (rows-are t contents h number b.from b.before)) ∙ b.first) in
      let f = first-above high (rings.oldest h.table.rows) h.table.rows.counts h.table.entries place (rows_noted t number) (at-number t contents h number b.from b.before) some (ap (nat_lt high) key ∙ lt-ltb high b.row.key b.above) in
      let oldest = oldest-is t h.flash h.first h.plan h.table h.stands in
      (f.page.0, ap (option_map (λ (page : ℕ × List Entry). page.0)) f.is, omega (arith, f.le, b.from, oldest))

  -- where its full entry tells its first key, it lies beyond the last key that may be given
  pub behind-beyond : (span : Span) (top : Option ℕ) (high number : ℕ) → IsBounded top high → h.plan.full_index ≡ true → is_indexed h.plan h.table number ≡ true → IsBehind t contents high number → is_beyond t contents (Some span) top number ≡ true
  behind-beyond span top high number bounded full indexed b =
      let many = standing-many t contents h number b.from b.before in
      let some : 0 < rows_noted t number = let rows = some-rows (rows_on t contents number) b.row b.first in omega (arith, many, rows) in
      let key : first_key (rows_at h.table (number - rings.oldest h.table.rows) (rows_noted t number)) ≡ b.row.key =
      first-entry (rows_at h.table (number - rings.oldest h.table.rows) (rows_noted t number)) b.row (sym (ap (λ (rows : List Row). slice_get rows 0) (rows-are t contents h number b.from b.before)) ∙ b.first) in
      beyond-same t contents h number b.from b.before (Some span) top some
      ∙ (ap (λ x. (x && is_indexed h.plan h.table number) && not (is_up_to top (first_key (rows_at h.table (number - rings.oldest h.table.rows) (rows_noted t number))))) full
      ∙ (ap (λ x. x && not (is_up_to top (first_key (rows_at h.table (number - rings.oldest h.table.rows) (rows_noted t number))))) indexed
      ∙ (ap (λ k. not (is_up_to top k)) key ∙ ap not (by_top top bounded))))
    where
      by_top : (top : Option ℕ) → IsBounded top high → is_up_to top b.row.key ≡ false
      by_top None bounded = refl
      by_top (Some top) bounded = false_from_ne_true (is_up_to (Some top) b.row.key) (λ e. let le = leb-true b.row.key top e in let above = b.above in omega (arith, le, above, bounded))
