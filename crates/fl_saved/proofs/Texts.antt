-- The text that a salvage writes of a table that an image stands for.
use Rattle.std.proofs.Common.{◌≡◌, ◌⊎◌, inl, inr, ℕ, suc, ◌+◌, ◌-◌, ◌*◌, ◌<◌, ◌≤◌, false, nat_lt, Some, unwrap_or, List, [], ◌∷◌, ◌++◌, length, map, take, drop, refl, sym, ◌∙◌, ap, subst, arith, append-nil}
use Rattle.std.specs.List.{AllByRecursion, flat_map, slice_get, sum}
use Rattle.std.proofs.lemmas.Bool.{cases_lt, lt-ltb}
use Rattle.std.proofs.lemmas.Option.{slice_get_past}
use Rattle.fl_csv.specs.Text.{Blob, csv_text, entry_text, header_text}
use Rattle.fl_model.specs.Agrees.{rows_at}
use Rattle.fl_model.specs.Entry.{blob_len}
use Rattle.fl_model.specs.Image.{HoldsRows}
use Rattle.fl_model.specs.Record.{Plan, Config, has_var}
use Rattle.fl_model.specs.Ring.{oldest}
use Rattle.fl_model.specs.Row.{Row, stored_row}
use Rattle.fl_model.specs.Table.{Table, Entry, DataRing, VarRing, is_dirty}
use Rattle.fl_model.proofs.Lists.{each-at, take_none}
use Rattle.fl_salvage.specs.Ends.{form_at}
use Rattle.fl_salvage.specs.Pages.{IsInOrder, numbers_at, numbered}
use Rattle.fl_salvage.specs.Text.{Form, page_text, row_text, salvaged_text}
use Rattle.fl_saved.proofs.BlobsTold.{blob-is}
use Rattle.fl_saved.proofs.Gathered.{gather, gather-add, gather-none, gather-parts, flat-gather, number_if, if_some, gathered-rise}
use Rattle.fl_saved.proofs.Orders.{sorted-is}
use Rattle.fl_saved.proofs.Places.{IsKept, count_of, kept-count}
use Rattle.fl_saved.proofs.RingsOfImage.{IsHere, facts, rows-at}
use Rattle.fl_saved.proofs.RowPages.{among, ascending, counted, kept-rows, kept-round, numbers-are}
use Rattle.fl_export.specs.Text.{said_of}

-- the lines of rows are those of their records
rows-text : (line : Entry → List ℕ) (text : Row → List ℕ) (entries : List Entry) → ((i : ℕ) (entry : Entry) → slice_get entries i ≡ Some entry → text (stored_row entry) ≡ line entry) → flat_map text (map stored_row entries) ≡ flat_map line entries
rows-text line text [] h = refl
rows-text line text (entry ∷ entries) h =
    ap (λ l. l ++ flat_map text (map stored_row entries)) (h 0 entry refl) ∙ ap (λ l. line entry ++ l) (rows-text line text entries (λ i other e. h (suc i) other e))

lines-mapped : {X Y : Type 0} (text : Y → List ℕ) (f : X → Y) (xs : List X) → flat_map (λ x. text (f x)) xs ≡ flat_map text (map f xs)
lines-mapped text f [] = refl
lines-mapped text f (x ∷ xs) = ap (λ l. text (f x) ++ l) (lines-mapped text f xs)

module _ (config : Config) (bytes : List ℕ) (place : ℕ) (plan : Plan) (table : Table) (is : IsHere config bytes place plan table) (clean : is_dirty DataRing table ≡ false) (clean_var : is_dirty VarRing table ≡ false)
    (within : AllByRecursion (λ (entry : Entry). blob_len entry.kept ≤ plan.blob_limit) table.entries) where
  abbrev form : Form
  form = form_at config.plans place plan

  -- the line of a record, as an export writes it
  abbrev pub line : Entry → List ℕ
  line entry = entry_text (said_of plan table entry)

  row-line : (i : ℕ) (entry : Entry) → slice_get table.entries i ≡ Some entry → row_text form bytes (stored_row entry) ≡ line entry
  row-line i entry e =
      ap (λ (b : Blob). entry_text (record { key = entry.kept.key; values = entry.kept.values; blob = b }))
      (blob-is config bytes place plan table is clean_var i entry e (each-at (λ (x : Entry). blob_len x.kept ≤ plan.blob_limit) table.entries i entry within e))

  -- ---- the lines of one page

  page-line : (number : ℕ) (k : IsKept table.rows (HoldsRows plan table) number (numbered form.rows bytes number)) → page_text form bytes number ≡ flat_map line (rows_at table k.i k.count)
  page-line number k =
      ap (flat_map (row_text form bytes)) (kept-rows config bytes place plan table is clean number k)
      ∙ rows-text line (row_text form bytes) (rows_at table k.i k.count) (λ j entry e. row-line (sum (take k.i table.rows.counts) + j) entry (among config bytes place plan table is clean k.i k.count k.counted k.some j entry e))

  -- the lines of a number, where it has a count
  abbrev lines_if : ℕ → List ℕ
  lines_if number = flat_map (page_text form bytes) (number_if (count_of table.rows) number)

  kept-lines : (i count : ℕ) → slice_get table.rows.counts i ≡ Some count → lines_if (oldest table.rows + i) ≡ flat_map line (rows_at table i count)
  kept-lines i count e =
      ap (λ c. flat_map (page_text form bytes) (if_some (nat_lt 0 c) (oldest table.rows + i))) (kept-count table.rows i count (oldest table.rows + i) refl e) ∙ by_count (cases_lt 0 count)
    where
      by_count : (0 < count) ⊎ (count ≤ 0) → flat_map (page_text form bytes) (if_some (nat_lt 0 count) (oldest table.rows + i)) ≡ flat_map line (rows_at table i count)
      by_count (inl some) =
          ap (λ b. flat_map (page_text form bytes) (if_some b (oldest table.rows + i))) (lt-ltb 0 count some)
          ∙ append-nil (page_text form bytes (oldest table.rows + i))
          ∙ page-line (oldest table.rows + i) (record {
            i = i;
            count = count;
            at = refl;
            counted = e;
            some = some;
            holds = subst (HoldsRows plan table i count) (rows-at config bytes place plan table is (oldest table.rows + i)) (let p = is.image.rows in p.kept i count e some);
          })
      by_count (inr none) =
          let z : count ≡ 0 = omega (arith, none) in
          ap (λ c. flat_map (page_text form bytes) (if_some (nat_lt 0 c) (oldest table.rows + i))) z
          ∙ sym (ap (λ c. flat_map line (take c (drop (sum (take i table.rows.counts)) table.entries))) z ∙ ap (flat_map line) (take_none (drop (sum (take i table.rows.counts)) table.entries)))

  -- ---- the lines of all pages

  pages-lines : flat_map (page_text form bytes) (ascending config bytes place plan table is clean) ≡ flat_map line table.entries
  pages-lines =
      let many = length table.rows.counts in
      let f = facts config bytes place plan table is in
      let r = f.rows in
      let rest = plan.data_blocks * plan.geometry.block - length table.rows.counts in
      let all : plan.data_blocks * plan.geometry.block ≡ length table.rows.counts + (plan.data_blocks * plan.geometry.block - length table.rows.counts) = omega (arith, kept-round config bytes place plan table is clean) in
      flat-gather (page_text form bytes) (number_if (count_of table.rows)) (oldest table.rows) (plan.data_blocks * plan.geometry.block)
      ∙ ap (gather lines_if (oldest table.rows)) all
      ∙ gather-add lines_if (oldest table.rows) many rest
      ∙ ap (λ l. gather lines_if (oldest table.rows) many ++ l) (gather-none lines_if (oldest table.rows + many) rest (λ i lt.
      ap (λ o. flat_map (page_text form bytes) (if_some (nat_lt 0 (unwrap_or o 0)) (oldest table.rows + many + i))) (slice_get_past table.rows.counts (oldest table.rows + many + i - oldest table.rows) (omega arith))))
      ∙ append-nil (gather lines_if (oldest table.rows) many)
      ∙ gather-parts line lines_if (oldest table.rows) table.rows.counts table.entries (counted config bytes place plan table is clean) kept-lines

  pub saved : (numbers : List ℕ) → IsInOrder (numbers_at form.layout form.rows bytes form.rows.pages) numbers → salvaged_text form bytes numbers ≡ csv_text (length plan.columns) (has_var plan) (map (said_of plan table) table.entries)
  saved numbers ordered =
      let same : numbers ≡ ascending config bytes place plan table is clean =
      sorted-is (numbers_at form.layout form.rows bytes form.rows.pages) numbers (ascending config bytes place plan table is clean) ordered.same ordered.ascend (numbers-are config bytes place plan table is clean)
      (gathered-rise (count_of table.rows) (oldest table.rows) (plan.data_blocks * plan.geometry.block)) in
      ap (λ l. header_text (length plan.columns) (has_var plan) ++ flat_map (page_text form bytes) l) same
      ∙ ap (λ l. header_text (length plan.columns) (has_var plan) ++ l) (pages-lines ∙ lines-mapped entry_text (said_of plan table) table.entries)
