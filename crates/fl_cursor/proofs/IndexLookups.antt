-- What a cursor looks up in the index, from a page on.
use Rattle.std.proofs.Common.{◌≡◌, inl, inr, ℕ, zero, suc, ◌+◌, ◌-◌, ◌<◌, ◌≤◌, Bool, true, false, ◌||◌, cond, Option, Some, None, List, [], ◌∷◌, refl, ◌∙◌, ap, arith}
use Rattle.std.proofs.lemmas.Bool.{cases_lt, or_right}
use Rattle.std.specs.List.{list_any, AllByRecursion}
use Rattle.fl_base.specs.declared.types.Span.{Span}
use Rattle.fl_flash.specs.Buffer.{BufferState}
use Rattle.fl_index.specs.declared.index.BitmapIndex.{BitmapIndex}
use Rattle.fl_index.specs.Looking.{is_looked_at, next_to_read, due}
use Rattle.fl_index.specs.Memory as indexes
use Rattle.fl_index.proofs.Counts.{count-none, count-fewer}
use Rattle.fl_index.proofs.Scans.{scanning-later, unread-fewer}
use Rattle.fl_model.specs.Limits.{asks_values}
use Rattle.fl_model.specs.Query.{Cursor, is_up_to}
use Rattle.fl_model.specs.Row.{Row}
use Rattle.fl_model.proofs.Lists.{each-back, each-front, each-weaker}
use Rattle.fl_frame.specs.Contents.{Contents}
use Rattle.fl_table.specs.Memory.{next_in}
use Rattle.fl_parts.specs.Skipping.{AreScanning, unread_of, due_of}
use Rattle.fl_table.specs.declared.table.Table.{Table}
use Rattle.fl_cursor.specs.Asked.{is_last}
use Rattle.fl_cursor.specs.Listed.{rows_on, rows_over}
use Rattle.fl_cursor.specs.Reads.{pages_looked_up, index_least}
use Rattle.fl_cursor.proofs.PassedRows.{Above, past-last}

-- a scan that has come to a page has come to each later one
pub looking-later : (bitmaps : Option BitmapIndex) (number later : ℕ) (buf : BufferState) → number ≤ later → AreScanning bitmaps number buf → AreScanning bitmaps later buf
looking-later None number later buf le h = tt
looking-later (Some index) number later buf le h = scanning-later index number later (next_to_read index buf) buf le h

pub unread-less : (span : Option Span) (bitmaps : Option BitmapIndex) (number later : ℕ) (buf : BufferState) → number ≤ later → unread_of span bitmaps later buf ≤ unread_of span bitmaps number buf
unread-less None bitmaps number later buf le = omega arith
unread-less (Some span) None number later buf le = omega arith
unread-less (Some span) (Some index) number later buf le = unread-fewer index number later (next_to_read index buf) le

-- none is due where the span has no value
pub due-both : (b : Bool) (fewer more : ℕ) → fewer ≤ more → cond b fewer 0 ≤ cond b more 0
due-both true fewer more le = le
due-both false fewer more le = omega arith

-- more pages have more index pages
pub due-more : (span : Option Span) (bitmaps : Option BitmapIndex) (number : ℕ) (numbers : List ℕ) (buf : BufferState) → due_of span bitmaps numbers buf ≤ due_of span bitmaps (number ∷ numbers) buf
due-more None bitmaps number numbers buf = omega arith
due-more (Some span) None number numbers buf = omega arith
due-more (Some span) (Some index) number numbers buf =
    due-both (asks_values (Some span)) (due index numbers (next_to_read index buf)) (due index (number ∷ numbers) (next_to_read index buf))
    (count-fewer (λ n. list_any (is_looked_at index n) numbers) (λ n. list_any (is_looked_at index n) (number ∷ numbers)) (indexes.next_in index - next_to_read index buf) (next_to_read index buf)
    (λ k low high e. or_right (is_looked_at index k number) (list_any (is_looked_at index k) numbers) e))

pub due-nothing : (span : Option Span) (bitmaps : Option BitmapIndex) (buf : BufferState) → due_of span bitmaps [] buf ≡ 0
due-nothing None bitmaps buf = refl
due-nothing (Some span) None buf = refl
due-nothing (Some span) (Some index) buf = by_values (asks_values (Some span))
  where
    by_values : (b : Bool) → cond b (due index [] (next_to_read index buf)) 0 ≡ 0
    by_values true = count-none (λ n. list_any (is_looked_at index n) []) (indexes.next_in index - next_to_read index buf) (next_to_read index buf) (λ k low high. refl)
    by_values false = refl

-- pages that are looked up lie behind the one that comes next
pub looked-from : {KNOTS SLOTS : ℕ} (t : Table KNOTS SLOTS) (contents : Contents) (top : Option ℕ) (n number : ℕ) → AllByRecursion (λ k. number ≤ k) (pages_looked_up t contents top number n)
looked-from t contents top zero number = tt
looked-from t contents top (suc n) number =
    by_rows (list_any (λ row. is_up_to top row.key) (rows_on t contents number))
    (each-weaker (λ k. number + 1 ≤ k) (λ k. number ≤ k) (λ k le. omega (arith, le)) (pages_looked_up t contents top (number + 1) n) (looked-from t contents top n (number + 1)))
  where
    by_rows : (b : Bool) → AllByRecursion (λ k. number ≤ k) (pages_looked_up t contents top (number + 1) n) →
        AllByRecursion (λ k. number ≤ k) (cond b (number ∷ pages_looked_up t contents top (number + 1) n) (pages_looked_up t contents top (number + 1) n))
    by_rows true later = (omega arith, later)
    by_rows false later = later

-- none is behind the last key
pub none-up : (top : Option ℕ) (key : ℕ) (rows : List Row) → is_last top key ≡ true → Above key rows → list_any (λ row. is_up_to top row.key) rows ≡ false
none-up top key [] last h = refl
none-up top key (row ∷ rows) last h = ap (λ b. b || list_any (λ row. is_up_to top row.key) rows) (past-last top key row.key last h.0) ∙ none-up top key rows last h.1

pub looked-over : {KNOTS SLOTS : ℕ} (t : Table KNOTS SLOTS) (contents : Contents) (top : Option ℕ) (key n number : ℕ) → is_last top key ≡ true → Above key (rows_over t contents number n) → pages_looked_up t contents top number n ≡ []
looked-over t contents top key zero number last h = refl
looked-over t contents top key (suc n) number last h =
    let here = none-up top key (rows_on t contents number) last (each-front (λ (row : Row). key < row.key) (rows_on t contents number) (rows_over t contents (number + 1) n) h) in
    ap (λ b. cond b (number ∷ pages_looked_up t contents top (number + 1) n) (pages_looked_up t contents top (number + 1) n)) here
    ∙ looked-over t contents top key n (number + 1) last (each-back (λ (row : Row). key < row.key) (rows_on t contents number) (rows_over t contents (number + 1) n) h)

-- a page less is looked up from the next one on
pub looked-less : {KNOTS SLOTS : ℕ} (t : Table KNOTS SLOTS) (contents : Contents) (asked : Cursor) (index : BufferState) (number : ℕ) → index_least t contents asked index (number + 1) ≤ index_least t contents asked index number
looked-less t contents asked index number = elim (cases_lt number (next_in t)) [
  | inl lt ↦
      let one : next_in t - number ≡ suc (next_in t - (number + 1)) = omega (arith, lt) in
      let same = ap (λ n. due_of asked.span t.bitmaps (pages_looked_up t contents asked.top number n) index) one in
      let more = by_rows (list_any (λ row. is_up_to asked.top row.key) (rows_on t contents number)) in
      omega (arith, same, more)
  | inr le ↦
      let none : next_in t - (number + 1) ≡ 0 = omega (arith, le) in
      let zero_due = ap (λ n. due_of asked.span t.bitmaps (pages_looked_up t contents asked.top (number + 1) n) index) none ∙ due-nothing asked.span t.bitmaps index in
      omega (arith, zero_due)
]
  where
    by_rows : (b : Bool) → due_of asked.span t.bitmaps (pages_looked_up t contents asked.top (number + 1) (next_in t - (number + 1))) index
        ≤ due_of asked.span t.bitmaps (cond b (number ∷ pages_looked_up t contents asked.top (number + 1) (next_in t - (number + 1))) (pages_looked_up t contents asked.top (number + 1) (next_in t - (number + 1)))) index
    by_rows true = due-more asked.span t.bitmaps number (pages_looked_up t contents asked.top (number + 1) (next_in t - (number + 1))) index
    by_rows false = omega arith
