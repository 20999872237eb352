-- What a search among some rows finds, and what is behind them.
use Rattle.std.proofs.Common.{◌≡◌, ℕ, zero, suc, ◌+◌, ◌<◌, Bool, true, false, ◌||◌, cond, Some, List, [], ◌∷◌, ◌++◌, length, drop, refl, sym, ◌∙◌, ap, subst, arith}
use Rattle.std.specs.List.{slice_get}
use Rattle.fl_model.specs.Query.{Cursor}
use Rattle.fl_model.specs.Row.{Row}
use Rattle.fl_model.proofs.Lists.{slice_get-drop, slice_get-short, each-back, each-front}
use Rattle.fl_frame.specs.Contents.{Contents}
use Rattle.fl_table.specs.declared.table.Table.{Table}
use Rattle.fl_cursor.specs.Asked.{is_left, is_last}
use Rattle.fl_cursor.specs.Cursor.{Passes}
use Rattle.fl_cursor.specs.Listed.{rows_on, rows_over}
use Rattle.fl_cursor.specs.Reads.{has_last, pages_asked}
use Rattle.fl_cursor.specs.Sought.{first_left}
use Rattle.fl_cursor.specs.declared.search.Sought.{Sought}
use Rattle.fl_cursor.specs.declared.search.Sought.TheVariants.{Row as At, Behind, Nowhere}
use Rattle.fl_cursor.proofs.PassedRows.{passes-all, passes-next, Above, none-asked}

-- the row at place k, where the first of these has place i
pub record Reached (asked : Cursor) (all xs rest : List Row) (i k : ℕ) : Type 0 where
  pub j : ℕ
  pub at : k ≡ i + j
  pub row : Row
  pub here : slice_get xs j ≡ Some row
  pub left : is_left asked row ≡ true
  pub passes : Passes asked all (row ∷ (drop (suc j) xs ++ rest))
  pub last : is_last asked.top row.key ≡ false → has_last asked.top xs ≡ has_last asked.top (drop (suc j) xs)

-- none of them, and the last key isn't among them
pub record Passed (asked : Cursor) (all xs rest : List Row) : Type 0 where
  pub passes : Passes asked all rest
  pub last : has_last asked.top xs ≡ false

-- none of them, and the last key is among them
pub record Stopped (asked : Cursor) (all rest : List Row) : Type 0 where
  pub row : Row
  pub later : List Row
  pub passes : Passes asked all (row ∷ (later ++ rest))
  pub none : is_left asked row ≡ false
  pub last : is_last asked.top row.key ≡ true

abbrev FoundAs : Cursor → List Row → List Row → List Row → ℕ → Sought → Type 0
FoundAs asked all xs rest i (At k) = Reached asked all xs rest i k
FoundAs asked all xs rest i Behind = Passed asked all xs rest
FoundAs asked all xs rest i Nowhere = Stopped asked all rest

one-more : (asked : Cursor) (all xs rest : List Row) (x : Row) (i : ℕ) (sought : Sought) → is_last asked.top x.key ≡ false → FoundAs asked all xs rest (i + 1) sought → FoundAs asked all (x ∷ xs) rest i sought
one-more asked all xs rest x i (At k) last h = record {
  j = suc h.j;
  at = omega (arith, h.at);
  row = h.row;
  here = h.here;
  left = h.left;
  passes = h.passes;
  last = λ e. ap (λ b. b || has_last asked.top xs) last ∙ h.last e;
}
one-more asked all xs rest x i Behind last h = record { passes = h.passes; last = ap (λ b. b || has_last asked.top xs) last ∙ h.last }
one-more asked all xs rest x i Nowhere last h = h

pub found-as : (asked : Cursor) (all xs rest : List Row) (i : ℕ) → Passes asked all (xs ++ rest) → FoundAs asked all xs rest i (first_left asked xs i)
found-as asked all [] rest i h = record { passes = h; last = refl }
found-as asked all (x ∷ xs) rest i h = by_left (is_left asked x) refl (λ none. found-as asked all xs rest (i + 1) (passes-next asked all (xs ++ rest) x h none))
  where
    by_last : is_left asked x ≡ false → (b : Bool) → is_last asked.top x.key ≡ b → FoundAs asked all xs rest (i + 1) (first_left asked xs (i + 1)) →
        FoundAs asked all (x ∷ xs) rest i (cond b Nowhere (first_left asked xs (i + 1)))
    by_last none true last others = record { row = x; later = xs; passes = h; none = none; last = last }
    by_last none false last others = one-more asked all xs rest x i (first_left asked xs (i + 1)) last others

    by_left : (b : Bool) → is_left asked x ≡ b → (is_left asked x ≡ false → FoundAs asked all xs rest (i + 1) (first_left asked xs (i + 1))) →
        FoundAs asked all (x ∷ xs) rest i (cond b (At i) (cond (is_last asked.top x.key) Nowhere (first_left asked xs (i + 1))))
    by_left true left others = record {
      j = 0;
      at = omega arith;
      row = x;
      here = refl;
      left = left;
      passes = h;
      last = λ e. ap (λ b. b || has_last asked.top xs) e;
    }
    by_left false left others = by_last left (is_last asked.top x.key) refl (others left)

pub reached : (asked : Cursor) (all xs rest : List Row) (i k : ℕ) → Passes asked all (xs ++ rest) → At k ≡ first_left asked xs i → Reached asked all xs rest i k
reached asked all xs rest i k h e = subst (FoundAs asked all xs rest i) (sym e) (found-as asked all xs rest i h)

pub passed : (asked : Cursor) (all xs rest : List Row) (i : ℕ) → Passes asked all (xs ++ rest) → Behind ≡ first_left asked xs i → Passed asked all xs rest
passed asked all xs rest i h e = subst (FoundAs asked all xs rest i) (sym e) (found-as asked all xs rest i h)

pub stopped : (asked : Cursor) (all xs rest : List Row) (i : ℕ) → Passes asked all (xs ++ rest) → Nowhere ≡ first_left asked xs i → Stopped asked all rest
stopped asked all xs rest i h e = subst (FoundAs asked all xs rest i) (sym e) (found-as asked all xs rest i h)

pub found-within : (asked : Cursor) (rows : List Row) (from k : ℕ) → At k ≡ first_left asked (drop from rows) from → k < length rows
found-within asked rows from k e =
    let h = reached asked (drop from rows ++ []) (drop from rows) [] from k (passes-all asked (drop from rows ++ [])) e in
    slice_get-short rows k h.row (ap (slice_get rows) h.at ∙ (sym (slice_get-drop from rows h.j) ∙ h.here))

-- no page behind the last key has a row that is asked for
pub asked-over : {KNOTS SLOTS : ℕ} (t : Table KNOTS SLOTS) (contents : Contents) (asked : Cursor) (key n number : ℕ) → is_last asked.top key ≡ true → Above key (rows_over t contents number n) → pages_asked t contents asked number n ≡ 0
asked-over t contents asked key zero number last h = refl
asked-over t contents asked key (suc n) number last h =
    let here = none-asked asked key (rows_on t contents number) last (each-front (λ row. key < row.key) (rows_on t contents number) (rows_over t contents (number + 1) n) h) in
    let others = asked-over t contents asked key n (number + 1) last (each-back (λ row. key < row.key) (rows_on t contents number) (rows_over t contents (number + 1) n) h) in
    ap (λ b. cond b 1 0 + pages_asked t contents asked (number + 1) n) here ∙ omega (arith, others)
