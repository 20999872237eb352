-- A cursor behind the last page that may have a row to be given.
use Rattle.std.proofs.Common.{◌≡◌, ℕ, zero, suc, ◌+◌, ◌-◌, ◌<◌, ◌≤◌, true, false, Option, Some, None, List, [], ◌∷◌, ◌++◌, refl, sym, ◌∙◌, ap, subst, arith}
use Rattle.std.specs.Borrow.{Bor}
use Rattle.std.specs.Prelude.{IfSome}
use Rattle.std.proofs.lemmas.Bool.{leb-false, le-leb}
use Rattle.fl_find.specs.Pages.{first_key}
use Rattle.fl_model.specs.Row.{Row}
use Rattle.fl_model.specs.Spline.{page_at}
use Rattle.fl_model.proofs.Lists.{each-front, each-weaker}
use Rattle.fl_frame.specs.Contents.{Contents}
use Rattle.fl_page.specs.Steps.{Ascends}
use Rattle.fl_search.specs.Search.{IsPageOf}
use Rattle.fl_table.specs.Look.{oldest_in, buffered_rows}
use Rattle.fl_table.specs.Memory.{next_in}
use Rattle.fl_parts.specs.Skipping.{due_of}
use Rattle.fl_table.specs.declared.table.Table.{Table}
use Rattle.fl_cursor.specs.Asked.{is_last}
use Rattle.fl_cursor.specs.Cursor.{table_of, mark_of, asked_of, buffer_of, index_page, rows_behind, IsStanding, IsTold}
use Rattle.fl_cursor.specs.Ends.{EndsPages}
use Rattle.fl_cursor.specs.Going.{Keeps, Goes}
use Rattle.fl_cursor.specs.Listed.{rows_on, rows_over, rows_of}
use Rattle.fl_cursor.specs.Reads.{begins_by, least_from}
use Rattle.fl_cursor.specs.declared.bookmark.Bookmark.{Bookmark}
use Rattle.fl_cursor.specs.declared.cursor.Cursor.{Cursor}
use Rattle.fl_cursor.specs.declared.place.Place.TheVariants.{Pages, Pending}
use Rattle.fl_cursor.proofs.LowestPage.{standing-start}
use Rattle.fl_cursor.proofs.IndexLookups.{due-nothing, looked-over}
use Rattle.fl_cursor.proofs.PassedRows.{Above, ascends-behind, none-past, passes-over, passes-same}
use Rattle.fl_cursor.proofs.TakenRows.{moves-on}
use Rattle.fl_cursor.proofs.Walks.{asked-over}

-- pages none of which begins by a key have greater keys alone
over-above : {KNOTS SLOTS : ℕ} (t : Table KNOTS SLOTS) (contents : Contents) (key n number : ℕ) (before rest : List Row) → ((k : ℕ) → number ≤ k → k < number + n → begins_by key (rows_on t contents k) ≡ false) →
    Ascends None (before ++ (rows_over t contents number n ++ rest)) → Above key (rows_over t contents number n)
over-above t contents key zero number before rest none up = tt
over-above t contents key (suc n) number before rest none up =
    by_rows (rows_on t contents number) (none number (omega arith) (omega arith)) (over-above t contents key n (number + 1) before rest (λ k low high. none k (omega (arith, low)) (omega (arith, high)))) up
  where
    by_rows : (rows : List Row) → begins_by key rows ≡ false → (Ascends None (before ++ (rows_over t contents (number + 1) n ++ rest)) → Above key (rows_over t contents (number + 1) n)) →
        Ascends None (before ++ ((rows ++ rows_over t contents (number + 1) n) ++ rest)) → Above key (rows ++ rows_over t contents (number + 1) n)
    by_rows [] begins later up = later up
    by_rows (row ∷ rows) begins later up =
        let lt : key < row.key = leb-false row.key key begins in
        let greater = ascends-behind None before row ((rows ++ rows_over t contents (number + 1) n) ++ rest) up in
        (lt, each-front (λ x. key < x.key) (rows ++ rows_over t contents (number + 1) n) rest (each-weaker (λ x. row.key < x.key) (λ x. key < x.key) (λ x le. omega (arith, lt, le)) ((rows ++ rows_over t contents (number + 1) n) ++ rest) greater))

-- behind these pages are the pending rows
pages-past : {KNOTS SLOTS : ℕ} (old : Cursor KNOTS SLOTS) (next key : ℕ) → old.place ≡ Pages next → is_last (asked_of old).top key ≡ true → (contents : Contents) (reads : ℕ) →
    (IsTold old contents → Above key (rows_over (table_of old) contents next (next_in (table_of old) - next))) → Goes false contents reads old reads (record old { place = Pending 0 })
pages-past old next key here_is last contents reads above =
    moves-on old contents reads (Pending 0) (omega arith)
    (λ told. passes-over (asked_of old) (rows_of (table_of old) contents) (rows_over (table_of old) contents next (next_in (table_of old) - next)) (buffered_rows (table_of old))
    (passes-same (asked_of old) (rows_of (table_of old) contents) (rows_behind (table_of old) contents (buffer_of old) old.place) (rows_over (table_of old) contents next (next_in (table_of old) - next) ++ buffered_rows (table_of old))
    (ap (rows_behind (table_of old) contents (buffer_of old)) here_is) told.passes)
    (none-past (asked_of old) key (rows_over (table_of old) contents next (next_in (table_of old) - next)) last (above told)))
    (λ told. tt)
    (λ told. omega arith)
    (λ told.
    let least = ap (least_from (table_of old) contents (asked_of old) (index_page old)) here_is in
    let asked = asked-over (table_of old) contents (asked_of old) key (next_in (table_of old) - next) next last (above told) in
    let looked = ap (λ (numbers : List ℕ). due_of (asked_of old).span (table_of old).bitmaps numbers (index_page old)) (looked-over (table_of old) contents (asked_of old).top key (next_in (table_of old) - next) next last (above told)) in
    let nothing = due-nothing (asked_of old).span (table_of old).bitmaps (index_page old) in
    omega (arith, least, asked, looked, nothing))

pub pages-end : {KNOTS SLOTS : ℕ} (old : Cursor KNOTS SLOTS) (next end : ℕ) → old.place ≡ Pages next → oldest_in (table_of old) ≤ next → EndsPages (table_of old) (mark_of old).top end → end ≤ next → (contents : Contents) (reads : ℕ) →
    Goes false contents reads old reads (record old { place = Pending 0 })
pages-end old next end here_is from ends past contents reads = by_top (mark_of old).top refl ends
  where
    above-last : (top : ℕ) → EndsPages (table_of old) (Some top) end → IsTold old contents → Above top (rows_over (table_of old) contents next (next_in (table_of old) - next))
    above-last top ends told =
        over-above (table_of old) contents top (next_in (table_of old) - next) next told.passes.before (buffered_rows (table_of old))
        (λ k low high. ends.1 contents told.standing k (omega (arith, from, low)) (omega (arith, past, low)) (omega (arith, low, high)))
        (subst (Ascends None) (told.passes.split ∙ ap (λ (rows : List Row). told.passes.before ++ rows) (ap (rows_behind (table_of old) contents (buffer_of old)) here_is)) told.ascends)

    none-above : (n : ℕ) → n ≡ 0 → Above 0 (rows_over (table_of old) contents next n)
    none-above zero e = tt
    none-above (suc n) e = absurd (omega (arith, e))

    by_top : (top : Option ℕ) → (mark_of old).top ≡ top → EndsPages (table_of old) top end → Goes false contents reads old reads (record old { place = Pending 0 })
    by_top None is ends = pages-past old next 0 here_is (ap (λ (o : Option ℕ). is_last o 0) is) contents reads (λ told. none-above (next_in (table_of old) - next) (omega (arith, ends, past)))
    by_top (Some top) is ends = pages-past old next top here_is (ap (λ (o : Option ℕ). is_last o top) is ∙ le-leb top top (omega arith)) contents reads (above-last top ends)

-- a page before the end is kept
pub within-end : {KNOTS SLOTS : ℕ} (old : Cursor KNOTS SLOTS) (end next : ℕ) → EndsPages (table_of old) (mark_of old).top end → next < end → next < next_in (table_of old)
within-end old end next ends lt = by_top (mark_of old).top ends
  where
    by_top : (top : Option ℕ) → EndsPages (table_of old) top end → next < next_in (table_of old)
    by_top None is = omega (arith, lt, is)
    by_top (Some top) is = omega (arith, lt, is.0)

-- it stays so where the table and what is asked for stay
pub ends-kept : {KNOTS SLOTS : ℕ} (old new : Cursor KNOTS SLOTS) (end : ℕ) → Keeps old new → mark_of new ≡ mark_of old → EndsPages (table_of old) (mark_of old).top end → EndsPages (table_of new) (mark_of new).top end
ends-kept {KNOTS} {SLOTS} old new end keeps mark ends =
    subst (λ (t : Bor (Table KNOTS SLOTS)). EndsPages t.now (mark_of new).top end) (sym keeps.table) (subst (λ (m : Bookmark). EndsPages (table_of old) m.top end) (sym mark) ends)

-- the pages that the table ends by a key
pub ends-by : {KNOTS SLOTS : ℕ} (t : Table KNOTS SLOTS) (key end : ℕ) → end ≤ next_in t → ((contents : Contents) (h : IsStanding t contents) → IfSome (page_at h.table key) (λ page. page < end)) → EndsPages t (Some key) end
ends-by t key end within past = (within, λ contents h n from behind before. by_page contents n from behind before (page_at h.table key) (past contents h) (standing-start t contents h key))
  where
    by_page : (contents : Contents) (n : ℕ) → oldest_in t ≤ n → end ≤ n → n < next_in t → (o : Option ℕ) → IfSome o (λ page. page < end) →
        IsPageOf (λ n. first_key (rows_on t contents n)) (oldest_in t) (next_in t) key o → begins_by key (rows_on t contents n) ≡ false
    by_page contents n from behind before None lt is = is n from before
    by_page contents n from behind before (Some page) lt is = is.later n (omega (arith, lt, behind)) before
