-- Where a cursor may begin.
use Rattle.std.proofs.Common.{◌≡◌, ℕ, ◌-◌, ◌<◌, ◌≤◌, true, false, nat_le, Option, Some, None, List, [], ◌∷◌, ◌++◌, drop, sym, ◌∙◌, subst, arith}
use Rattle.std.specs.List.{slice_get, AllByRecursion}
use Rattle.std.proofs.lemmas.Bool.{leb-true, le-leb, ltb-true, false_from_ne_true, true≢false}
use Rattle.fl_model.specs.Query.{Cursor, in_range, in_span, is_above, is_up_to}
use Rattle.fl_model.specs.Row.{Row}
use Rattle.fl_model.proofs.Lists.{each-weaker}
use Rattle.fl_frame.specs.Contents.{Contents}
use Rattle.fl_page.specs.Steps.{Ascends}
use Rattle.fl_page.proofs.RowsFrom.{drop-row}
use Rattle.fl_table.specs.Look.{oldest_in, buffered_rows}
use Rattle.fl_table.specs.Memory.{next_in}
use Rattle.fl_table.specs.declared.table.Table.{Table}
use Rattle.fl_cursor.specs.Ascending.{both}
use Rattle.fl_cursor.specs.Asked.{is_left, lowest, lowest_of}
use Rattle.fl_cursor.specs.Cursor.{Passes, IsStanding}
use Rattle.fl_cursor.specs.Listed.{rows_over, rows_of}
use Rattle.fl_cursor.proofs.PassedRows.{NotLeft, left-parts, passes-all, passes-over, passes-end}
use Rattle.fl_cursor.proofs.Stood.{standing-ascends}

-- no row below the lowest key is left
pub lowest-least : (asked : Cursor) (row : Row) → is_left asked row ≡ true → lowest_of asked ≤ row.key
lowest-least asked row left =
    let parts = left-parts asked row left in
    let within = both (in_range asked.range row.key) (in_span asked.span (slice_get row.values 0)) parts.0 in
    let from = leb-true asked.range.low row.key (both (nat_le asked.range.low row.key) (nat_le row.key asked.range.high) within.0).0 in
    by_after asked.after parts.1 from
  where
    by_after : (after : Option ℕ) → is_above after row.key ≡ true → asked.range.low ≤ row.key → lowest asked.range.low after ≤ row.key
    by_after None above from = from
    by_after (Some after) above from = let later = ltb-true after row.key above in omega (arith, later, from)

pub top-least : (key least : ℕ) (top : Option ℕ) → is_up_to top key ≡ true → least ≤ key → is_up_to top least ≡ true
top-least key least None up le = up
top-least key least (Some top) up le = let most = leb-true key top up in le-leb least top (omega (arith, most, le))

-- where the lowest key is past the last one no row is left
pub none-up-to : (asked : Cursor) (rows : List Row) → is_up_to asked.top (lowest_of asked) ≡ false → NotLeft asked rows
none-up-to asked [] past = tt
none-up-to asked (row ∷ rows) past = (false_from_ne_true (is_left asked row) (λ left. up (left-parts asked row left).2 (lowest-least asked row left)), none-up-to asked rows past)
  where
    up : is_up_to asked.top row.key ≡ true → lowest_of asked ≤ row.key → ⊥
    up e least = true≢false (sym (top-least row.key (lowest_of asked) asked.top e least) ∙ past)

-- rows with lesser keys aren't left
pub none-below : (asked : Cursor) (rows : List Row) → AllByRecursion (λ row. row.key < lowest_of asked) rows → NotLeft asked rows
none-below asked rows below = each-weaker (λ row. row.key < lowest_of asked) (λ row. is_left asked row ≡ false) (λ row lt. false_from_ne_true (is_left asked row) (λ left. let least = lowest-least asked row left in omega (arith, least, lt)))
    rows below

abbrev above-key : (above : Option ℕ) (key later : ℕ) → Type 0
above-key None key later = Unit {0}
above-key (Some above) key later = above < later

-- the rows before another have lesser keys
pub ascends-front : (bound : Option ℕ) (rows : List Row) (row : Row) (later : List Row) → Ascends bound (rows ++ row ∷ later) → AllByRecursion (λ x. x.key < row.key) rows
ascends-front bound [] row later h = tt
ascends-front bound (first ∷ rows) row later h = (first-below (Some first.key) rows row later h.1, ascends-front (Some first.key) rows row later h.1)
  where
    first-below : (bound : Option ℕ) (rows : List Row) (row : Row) (later : List Row) → Ascends bound (rows ++ row ∷ later) → above-key bound row.key row.key
    first-below None rows row later h = tt
    first-below (Some key) [] row later h = ltb-true key row.key h.0
    first-below (Some key) (x ∷ xs) row later h =
        let here = ltb-true key x.key h.0 in
        let there = first-below (Some x.key) xs row later h.1 in
        omega (arith, here, there)

pub starts-nowhere : {KNOTS SLOTS : ℕ} (t : Table KNOTS SLOTS) (contents : Contents) (asked : Cursor) → is_up_to asked.top (lowest_of asked) ≡ false → Passes asked (rows_of t contents) []
starts-nowhere t contents asked past = passes-end asked (rows_of t contents) (rows_of t contents) (passes-all asked (rows_of t contents)) (none-up-to asked (rows_of t contents) past)

-- rows behind a row whose key is at most the lowest one
pub starts-behind : (asked : Cursor) (front ahead : List Row) (row : Row) → slice_get ahead 0 ≡ Some row → row.key ≤ lowest_of asked → Ascends None (front ++ ahead) → Passes asked (front ++ ahead) ahead
starts-behind asked front ahead row first le ascends =
    let is : ahead ≡ row ∷ drop 1 ahead = drop-row ahead 0 row first in
    let lesser = ascends-front None front row (drop 1 ahead) (subst (λ (xs : List Row). Ascends None (front ++ xs)) is ascends) in
    passes-over asked (front ++ ahead) front ahead (passes-all asked (front ++ ahead)) (none-below asked front
    (each-weaker (λ x. x.key < row.key) (λ x. x.key < lowest_of asked) (λ x lt. omega (arith, lt, le)) front lesser))

pub starts-pending : {KNOTS SLOTS : ℕ} (t : Table KNOTS SLOTS) (contents : Contents) (asked : Cursor) (row : Row) → IsStanding t contents → slice_get (buffered_rows t) 0 ≡ Some row → row.key ≤ lowest_of asked → Passes asked (rows_of t contents) (buffered_rows t)
starts-pending t contents asked row standing first le =
    starts-behind asked (rows_over t contents (oldest_in t) (next_in t - oldest_in t)) (buffered_rows t) row first le (standing-ascends t contents standing)
