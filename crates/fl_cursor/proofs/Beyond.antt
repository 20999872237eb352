-- No row is left from a page on that begins above the last key.
use Rattle.std.proofs.Common.{◌≡◌, ℕ, suc, ◌+◌, ◌-◌, ◌<◌, true, false, not, ◌&&◌, ◌||◌, cond, Option, Some, None, List, [], ◌∷◌, ◌++◌, refl, sym, ◌∙◌, ap, subst, arith}
use Rattle.std.specs.List.{list_any}
use Rattle.std.proofs.Math.Bool.{and-false}
use Rattle.std.proofs.lemmas.Bool.{le-leb, leb-false, false≢true, not-true}
use Rattle.fl_base.specs.declared.types.Span.{Span}
use Rattle.fl_model.specs.Query.{Cursor, is_above, is_up_to}
use Rattle.fl_model.specs.Row.{Row}
use Rattle.fl_model.proofs.Lists.{each-back, each-front}
use Rattle.fl_frame.specs.Contents.{Contents}
use Rattle.fl_page.specs.Steps.{Ascends}
use Rattle.fl_table.specs.Look.{buffered_rows}
use Rattle.fl_table.specs.Memory.{next_in}
use Rattle.fl_table.specs.declared.table.Table.{Table}
use Rattle.fl_cursor.specs.Ascending.{both}
use Rattle.fl_cursor.specs.Asked.{is_asked, is_last, row_matches}
use Rattle.fl_cursor.specs.Cursor.{Passes}
use Rattle.fl_cursor.specs.Listed.{rows_on, rows_over, rows_from}
use Rattle.fl_cursor.specs.Reads.{begins_above, has_full, has_last, is_beyond, is_indexed_in, pages_asked, pages_looked_up}
use Rattle.fl_cursor.proofs.IndexLookups.{looked-over, none-up}
use Rattle.fl_cursor.proofs.PassedRows.{NotLeft, none-asked, none-past, passes-above, passes-same}
use Rattle.fl_cursor.proofs.Walks.{asked-over}

-- a page without rows doesn't begin above a key
pub none-beyond : {KNOTS SLOTS : ℕ} (t : Table KNOTS SLOTS) (contents : Contents) (span : Option Span) (top : Option ℕ) (number : ℕ) → rows_on t contents number ≡ [] → is_beyond t contents span top number ≡ false
none-beyond t contents None top number none = refl
none-beyond t contents (Some span) top number none =
    ap (λ (rows : List Row). (has_full t.bitmaps && is_indexed_in t.bitmaps number) && begins_above top rows) none ∙ and-false (has_full t.bitmaps && is_indexed_in t.bitmaps number)

pub beyond-begins : {KNOTS SLOTS : ℕ} (t : Table KNOTS SLOTS) (contents : Contents) (span : Option Span) (top : Option ℕ) (number : ℕ) → is_beyond t contents span top number ≡ true → begins_above top (rows_on t contents number) ≡ true
beyond-begins t contents None top number e = absurd (false≢true e)
beyond-begins t contents (Some span) top number e = (both (has_full t.bitmaps && is_indexed_in t.bitmaps number) (begins_above top (rows_on t contents number)) e).1

-- a key above the last one is behind it
up-last : (top : Option ℕ) (key : ℕ) → not (is_up_to top key) ≡ true → (is_up_to top key ≡ false) × (is_last top key ≡ true)
up-last None key e = (refl, refl)
up-last (Some top) key e =
    let up = not-true (is_up_to (Some top) key) e in
    let lt : top < key = leb-false key top up in
    (up, le-leb top key (omega (arith, lt)))

-- its first row has the last key or is behind it
pub beyond-last : (top : Option ℕ) (rows : List Row) → begins_above top rows ≡ true → has_last top rows ≡ true
beyond-last top [] e = absurd (false≢true e)
beyond-last top (row ∷ rows) e = ap (λ b. b || has_last top rows) (up-last top row.key e).1

-- what none of the rows from a page on is
pub record Past {KNOTS SLOTS : ℕ} (t : Table KNOTS SLOTS) (contents : Contents) (asked : Cursor) (next : ℕ) : Type 0 where
  pub none : NotLeft asked (rows_on t contents next ++ rows_from t contents (next + 1))
  pub asked_none : pages_asked t contents asked next (next_in t - next) ≡ 0
  pub looked : pages_looked_up t contents asked.top next (next_in t - next) ≡ []

pub past-beyond : {KNOTS SLOTS : ℕ} (t : Table KNOTS SLOTS) (contents : Contents) (asked : Cursor) (next : ℕ) → next < next_in t → (all : List Row) → Ascends None all → Passes asked all (rows_on t contents next ++ rows_from t contents (next + 1)) →
    begins_above asked.top (rows_on t contents next) ≡ true → Past t contents asked next
past-beyond t contents asked next before all ascends passes begins = by_rows (rows_on t contents next) refl begins
  where
    one : next_in t - next ≡ suc (next_in t - (next + 1))
    one = omega (arith, before)

    by_rows : (rows : List Row) → rows_on t contents next ≡ rows → begins_above asked.top rows ≡ true → Past t contents asked next
    by_rows [] is begins = absurd (false≢true begins)
    by_rows (row ∷ rest) is begins =
        let key = up-last asked.top row.key begins in
        let above = passes-above asked all (rest ++ rows_from t contents (next + 1)) row ascends
        (passes-same asked all (rows_on t contents next ++ rows_from t contents (next + 1)) (row ∷ (rest ++ rows_from t contents (next + 1))) (ap (λ (rows : List Row). rows ++ rows_from t contents (next + 1)) is) passes) in
        let rest_above = each-front (λ x. row.key < x.key) rest (rows_from t contents (next + 1)) above in
        let later_above = each-front (λ x. row.key < x.key) (rows_over t contents (next + 1) (next_in t - (next + 1))) (buffered_rows t) (each-back (λ x. row.key < x.key) rest (rows_from t contents (next + 1)) above) in
        let row_left = ap (λ b. (row_matches asked.range asked.span row && is_above asked.after row.key) && b) key.0 ∙ and-false (row_matches asked.range asked.span row && is_above asked.after row.key) in
        let row_asked = ap (λ b. row_matches asked.range asked.span row && b) key.0 ∙ and-false (row_matches asked.range asked.span row) in
        let here_asked : list_any (is_asked asked) (rows_on t contents next) ≡ false = ap (list_any (is_asked asked)) is ∙ (ap (λ b. b || list_any (is_asked asked) rest) row_asked ∙ none-asked asked row.key rest key.1 rest_above) in
        let here_up : list_any (λ (x : Row). is_up_to asked.top x.key) (rows_on t contents next) ≡ false =
        ap (list_any (λ (x : Row). is_up_to asked.top x.key)) is ∙ (ap (λ b. b || list_any (λ (x : Row). is_up_to asked.top x.key) rest) key.0 ∙ none-up asked.top row.key rest key.1 rest_above) in
        record {
          none = subst (λ (rows : List Row). NotLeft asked (rows ++ rows_from t contents (next + 1))) (sym is) (row_left, none-past asked row.key (rest ++ rows_from t contents (next + 1)) key.1 above);
          asked_none = ap (pages_asked t contents asked next) one
              ∙ (ap (λ b. cond b 1 0 + pages_asked t contents asked (next + 1) (next_in t - (next + 1))) here_asked
              ∙ (let later = asked-over t contents asked row.key (next_in t - (next + 1)) (next + 1) key.1 later_above in omega (arith, later)));
          looked = ap (pages_looked_up t contents asked.top next) one
              ∙ (ap (λ b. cond b (next ∷ pages_looked_up t contents asked.top (next + 1) (next_in t - (next + 1))) (pages_looked_up t contents asked.top (next + 1) (next_in t - (next + 1)))) here_up
              ∙ looked-over t contents asked.top row.key (next_in t - (next + 1)) (next + 1) key.1 later_above);
        }
