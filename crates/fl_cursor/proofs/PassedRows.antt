-- Rows that a cursor passes, takes and ends at.
use Rattle.std.proofs.Common.{◌≡◌, ℕ, ◌<◌, true, false, ◌&&◌, ◌||◌, cond, nat_lt, nat_le, Option, Some, None, List, [], ◌∷◌, ◌++◌, filter, refl, sym, ◌∙◌, ap, subst, append_assoc, arith}
use Rattle.std.specs.List.{AllByRecursion, list_any}
use Rattle.std.proofs.Math.Bool.{and-false}
use Rattle.std.proofs.lemmas.Bool.{lt-ltb, ltb-true, leb-true, false_from_ne_true, true≢false}
use Rattle.std.proofs.lemmas.List.{append-nil}
use Rattle.std.proofs.lemmas.List.Elements.{filter-append}
use Rattle.fl_model.specs.Query.{Cursor, is_above, is_up_to}
use Rattle.fl_model.specs.Row.{Row}
use Rattle.fl_model.proofs.Lists.{each-append, each-weaker}
use Rattle.fl_page.specs.Steps.{Ascends}
use Rattle.fl_cursor.specs.Asked.{is_left, is_asked, is_last, row_matches}
use Rattle.fl_cursor.specs.Ascending.{both}
use Rattle.fl_cursor.specs.Cursor.{Passes}

-- ---- rows that aren't left

abbrev pub NotLeft : Cursor → List Row → Type 0
NotLeft asked rows = AllByRecursion (λ row. is_left asked row ≡ false) rows

filter-none : (asked : Cursor) (rows : List Row) → NotLeft asked rows → filter (is_left asked) rows ≡ []
filter-none asked [] h = refl
filter-none asked (row ∷ rows) h = ap (λ b. cond b (row ∷ filter (is_left asked) rows) (filter (is_left asked) rows)) h.0 ∙ filter-none asked rows h.1

-- the rows left are among those ahead
pub passes-left : (asked : Cursor) (all ahead : List Row) → Passes asked all ahead → filter (is_left asked) all ≡ filter (is_left asked) ahead
passes-left asked all ahead h =
    ap (filter (is_left asked)) h.split
    ∙ (filter-append (is_left asked) h.before ahead
    ∙ ap (λ (rows : List Row). rows ++ filter (is_left asked) ahead) (filter-none asked h.before h.passed))

pub passes-all : (asked : Cursor) (all : List Row) → Passes asked all all
passes-all asked all = record { before = []; split = refl; passed = tt }

pub passes-over : (asked : Cursor) (all rows ahead : List Row) → Passes asked all (rows ++ ahead) → NotLeft asked rows → Passes asked all ahead
passes-over asked all rows ahead h none = record {
  before = h.before ++ rows;
  split = h.split ∙ sym (append_assoc h.before rows ahead);
  passed = each-append (λ row. is_left asked row ≡ false) h.before rows h.passed none;
}

pub passes-next : (asked : Cursor) (all ahead : List Row) (row : Row) → Passes asked all (row ∷ ahead) → is_left asked row ≡ false → Passes asked all ahead
passes-next asked all ahead row h none = passes-over asked all (row ∷ []) ahead h (none, tt)

pub passes-same : (asked : Cursor) (all ahead other : List Row) → ahead ≡ other → Passes asked all ahead → Passes asked all other
passes-same asked all ahead other is h = subst (Passes asked all) is h

-- ---- rows above a key

abbrev pub Above : ℕ → List Row → Type 0
Above key rows = AllByRecursion (λ row. key < row.key) rows

pub ascends-all : (key : ℕ) (rows : List Row) → Ascends (Some key) rows → Above key rows
ascends-all key [] h = tt
ascends-all key (row ∷ rows) h =
    let here : key < row.key = ltb-true key row.key h.0 in
    (here, each-weaker (λ later. row.key < later.key) (λ later. key < later.key) (λ later lt. omega (arith, here, lt)) rows (ascends-all row.key rows h.1))

pub ascends-behind : (bound : Option ℕ) (rows : List Row) (row : Row) (later : List Row) → Ascends bound (rows ++ row ∷ later) → Above row.key later
ascends-behind bound [] row later h = ascends-all row.key later h.1
ascends-behind bound (first ∷ rows) row later h = ascends-behind (Some first.key) rows row later h.1

pub passes-above : (asked : Cursor) (all later : List Row) (row : Row) → Ascends None all → Passes asked all (row ∷ later) → Above row.key later
passes-above asked all later row ascends h = ascends-behind None h.before row later (subst (Ascends None) h.split ascends)

-- ---- a row that is taken

abbrev pub taken : Cursor → ℕ → Cursor
taken asked key = record asked { after = Some key }

pub left-parts : (asked : Cursor) (row : Row) → is_left asked row ≡ true →
    (row_matches asked.range asked.span row ≡ true) × (is_above asked.after row.key ≡ true) × (is_up_to asked.top row.key ≡ true)
left-parts asked row h =
    let parts = both (row_matches asked.range asked.span row && is_above asked.after row.key) (is_up_to asked.top row.key) h in
    let first = both (row_matches asked.range asked.span row) (is_above asked.after row.key) parts.0 in
    (first.0, first.1, parts.1)

above-later : (after : Option ℕ) (key later : ℕ) → is_above after key ≡ true → key < later → is_above after later ≡ true
above-later None key later h lt = refl
above-later (Some after) key later h lt = let le = ltb-true after key h in lt-ltb after later (omega (arith, le, lt))

-- a later row is left just where it is left behind the taken one
later-left : (asked : Cursor) (key : ℕ) (later : Row) → is_above asked.after key ≡ true → key < later.key → is_left asked later ≡ is_left (taken asked key) later
later-left asked key later above lt =
    ap (λ b. (row_matches asked.range asked.span later && b) && is_up_to asked.top later.key) (above-later asked.after key later.key above lt ∙ sym (lt-ltb key later.key lt))

same-later : (asked : Cursor) (key : ℕ) (rows : List Row) → is_above asked.after key ≡ true → Above key rows → filter (is_left asked) rows ≡ filter (is_left (taken asked key)) rows
same-later asked key [] above h = refl
same-later asked key (row ∷ rows) above h =
    ap (λ b. cond b (row ∷ filter (is_left asked) rows) (filter (is_left asked) rows)) (later-left asked key row above h.0)
    ∙ ap (λ (later : List Row). cond (is_left (taken asked key) row) (row ∷ later) later) (same-later asked key rows above h.1)

-- a row that wasn't left isn't left then, nor is the taken one
not-left : (asked : Cursor) (key : ℕ) (row : Row) → is_above asked.after key ≡ true → is_left asked row ≡ false → is_left (taken asked key) row ≡ false
not-left asked key row above none = false_from_ne_true (is_left (taken asked key) row) (λ left. by_parts (left-parts (taken asked key) row left))
  where
    by_parts : (row_matches asked.range asked.span row ≡ true) × (is_above (Some key) row.key ≡ true) × (is_up_to asked.top row.key ≡ true) → ⊥
    by_parts parts =
        let over = above-later asked.after key row.key above (ltb-true key row.key parts.1) in
        let left : is_left asked row ≡ true =
        ap (λ b. (b && is_above asked.after row.key) && is_up_to asked.top row.key) parts.0
        ∙ (ap (λ b. b && is_up_to asked.top row.key) over ∙ parts.2) in
        true≢false (sym left ∙ none)

not-twice : (asked : Cursor) (row : Row) → is_left (taken asked row.key) row ≡ false
not-twice asked row = false_from_ne_true (is_left (taken asked row.key) row) (λ left. above_self (left-parts (taken asked row.key) row left).1)
  where
    above_self : nat_lt row.key row.key ≡ true → ⊥
    above_self e = let lt = ltb-true row.key row.key e in omega (arith, lt)

pub passes-taken : (asked : Cursor) (all ahead : List Row) (row : Row) → Passes asked all (row ∷ ahead) → is_left asked row ≡ true → Passes (taken asked row.key) all ahead
passes-taken asked all ahead row h left =
    let above = (left-parts asked row left).1 in
    passes-next (taken asked row.key) all ahead row
    (record { before = h.before; split = h.split; passed = each-weaker (λ x. is_left asked x ≡ false) (λ x. is_left (taken asked row.key) x ≡ false) (λ x none. not-left asked row.key x above none) h.before h.passed })
    (not-twice asked row)

-- it is the first of those left, and the others stay
pub gives-taken : (asked : Cursor) (all ahead : List Row) (row : Row) → Ascends None all → Passes asked all (row ∷ ahead) → is_left asked row ≡ true →
    filter (is_left asked) all ≡ row ∷ filter (is_left (taken asked row.key)) all
gives-taken asked all ahead row ascends h left =
    passes-left asked all (row ∷ ahead) h
    ∙ (ap (λ b. cond b (row ∷ filter (is_left asked) ahead) (filter (is_left asked) ahead)) left
    ∙ ap (λ (rows : List Row). row ∷ rows)
    (same-later asked row.key ahead (left-parts asked row left).1 (passes-above asked all ahead row ascends h)
    ∙ sym (passes-left (taken asked row.key) all ahead (passes-taken asked all ahead row h left))))

-- ---- the last key that may be given

pub past-last : (top : Option ℕ) (key later : ℕ) → is_last top key ≡ true → key < later → is_up_to top later ≡ false
past-last None key later h lt = refl
past-last (Some top) key later h lt =
    let le = leb-true top key h in
    false_from_ne_true (nat_le later top) (λ e. let up = leb-true later top e in let less : top < later = omega (arith, le, lt) in omega (arith, less, up))

pub none-past : (asked : Cursor) (key : ℕ) (rows : List Row) → is_last asked.top key ≡ true → Above key rows → NotLeft asked rows
none-past asked key [] last h = tt
none-past asked key (row ∷ rows) last h = (
  ap (λ b. (row_matches asked.range asked.span row && is_above asked.after row.key) && b) (past-last asked.top key row.key last h.0) ∙ and-false (row_matches asked.range asked.span row && is_above asked.after row.key),
  none-past asked key rows last h.1,
)

pub none-asked : (asked : Cursor) (key : ℕ) (rows : List Row) → is_last asked.top key ≡ true → Above key rows → list_any (is_asked asked) rows ≡ false
none-asked asked key [] last h = refl
none-asked asked key (row ∷ rows) last h =
    ap (λ b. b || list_any (is_asked asked) rows) (ap (λ b. row_matches asked.range asked.span row && b) (past-last asked.top key row.key last h.0) ∙ and-false (row_matches asked.range asked.span row))
    ∙ none-asked asked key rows last h.1

pub passes-end : (asked : Cursor) (all rows : List Row) → Passes asked all rows → NotLeft asked rows → Passes asked all []
passes-end asked all rows h none = passes-over asked all rows [] (passes-same asked all rows (rows ++ []) (sym (append-nil rows)) h) none
