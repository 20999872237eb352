-- The rows of a kept page by its number, and the entries of pages one after another.
use Rattle.std.proofs.Common.{◌≡◌, ℕ, zero, suc, ◌+◌, ◌<◌, ◌≤◌, Some, List, [], ◌∷◌, ◌++◌, length, map, refl, ◌∙◌, ap, arith}
use Rattle.std.specs.List.{slice_get}
use Rattle.std.proofs.lemmas.List.{length-map}
use Rattle.fl_model.specs.Image.{rows_at}
use Rattle.fl_model.specs.Index.{IndexEntry, index_entry}
use Rattle.fl_model.specs.Limits.{numbers_from, rows_of_page}
use Rattle.fl_model.specs.Record.{Plan, RowLayout}
use Rattle.fl_model.specs.Ring.{oldest}
use Rattle.fl_model.specs.Table.{Table}
use Rattle.fl_model.proofs.EntriesStayTold.{numbers-length, rows-by}
use Rattle.fl_parts.specs.Reading.{entries_on, entry_on}

pub page-rows : (table : Table) (n c : ℕ) → slice_get table.rows.counts n ≡ Some c → rows_of_page table (oldest table.rows + n) ≡ rows_at table n c
page-rows table n c e = rows-by (oldest table.rows) n c table.rows.counts table.entries e

-- ---- entries of pages

-- those of a table's rows, of so many pages from one on
abbrev pub entries_from : Plan → Table → ℕ → ℕ → List IndexEntry
entries_from plan table first count = map (λ number. index_entry plan (rows_of_page table number)) (numbers_from first count)

pub entries-length : (plan : Plan) (table : Table) (first n : ℕ) → length (entries_from plan table first n) ≡ n
entries-length plan table first n = length-map (numbers_from first n) (λ number. index_entry plan (rows_of_page table number)) ∙ numbers-length first n

-- one page more
entries_next : (entry : ℕ → IndexEntry) (first n : ℕ) → map entry (numbers_from first (suc n)) ≡ map entry (numbers_from first n) ++ entry (first + n) ∷ []
entries_next entry first zero = ap (λ k. entry k ∷ []) (let e : first ≡ first + 0 = omega arith in e)
entries_next entry first (suc n) =
    ap (λ (es : List IndexEntry). entry first ∷ es)
    (entries_next entry (first + 1) n ∙ ap (λ k. map entry (numbers_from (first + 1) n) ++ entry k ∷ []) (let e : first + 1 + n ≡ first + suc n = omega arith in e))

pub entries-push : (layout : RowLayout) (page : ℕ → List ℕ) (first n : ℕ) → entries_on layout page first (n + 1) ≡ entries_on layout page first n ++ entry_on layout (page (first + n)) ∷ []
entries-push layout page first n = ap (λ k. entries_on layout page first k) (let e : n + 1 ≡ suc n = omega arith in e) ∙ entries_next (λ number. entry_on layout (page number)) first n

-- pages of a ring whose bytes tell the entries of a table's rows ..
abbrev pub HaveEntries : RowLayout → Plan → Table → (ℕ → List ℕ) → Type 0
HaveEntries layout plan table page = (number : ℕ) → oldest table.rows ≤ number → number < table.rows.next → entry_on layout (page number) ≡ index_entry plan (rows_of_page table number)

-- .. have the same entries
pub entries-same : (layout : RowLayout) (plan : Plan) (table : Table) (page : ℕ → List ℕ) (first n : ℕ) → HaveEntries layout plan table page → oldest table.rows ≤ first → first + n ≤ table.rows.next →
    entries_on layout page first n ≡ entries_from plan table first n
entries-same layout plan table page first zero h low high = refl
entries-same layout plan table page first (suc n) h low high =
    ap (λ (e : IndexEntry). e ∷ entries_on layout page (first + 1) n) (h first low (omega (arith, high)))
    ∙ ap (λ (es : List IndexEntry). index_entry plan (rows_of_page table first) ∷ es) (entries-same layout plan table page (first + 1) n h (omega (arith, low)) (omega (arith, high)))
