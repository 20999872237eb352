-- The rule on the entries of index pages: they tell of their data pages, no two pages list the same one, and the newest
-- lists none that isn't written yet.
use Rattle.std.specs.Prelude.{◌≡◌, ℕ, ◌+◌, ◌-◌, ◌/◌, ◌<◌, ◌≤◌, true, List}
use Rattle.fl_index.specs.Page.{page_first, form_len, found_at}
use Rattle.fl_index.specs.declared.page.EntryForm.{EntryForm}
use Rattle.fl_mark.specs.Mark.{state_of_page}
use Rattle.fl_model.specs.Record.{RowLayout}
use Rattle.fl_ring.specs.Newest.{commits}
use Rattle.fl_ring.specs.Ring.{Shape}
use Rattle.fl_schema.specs.Schema.{layout_of}
use Rattle.fl_rules.specs.Claims.{AllBelow, FailsFirst}
use Rattle.fl_rules.specs.Marks.{kept_page}
use Rattle.fl_rules.specs.Told.{TellsPage}
use Rattle.fl_check.specs.declared.rule_6_entry.Indexing.{Indexing}
use Rattle.fl_check.specs.declared.rule_6_entry.Seen.{Seen}
use Rattle.fl_rules.specs.declared.marks.Marks.{Marks}
use Rattle.fl_rules.specs.declared.numbering.Numbering.{Numbering}

-- an index over data pages: the form of its entries, the layout of the rows, the kept pages of its ring, and those of the data
-- ring with the number of the next one
pub record IndexOver : Type 0 where
  pub form : EntryForm
  pub layout : RowLayout
  pub index : Marks
  pub rows : Numbering

abbrev pub over : Indexing → IndexOver
over l = record { form = l.form; layout = layout_of l.schema.now; index = l.index; rows = l.rows }

-- how many entries of this form an index page has room for
abbrev pub entries_in : ℕ → EntryForm → ℕ
entries_in size form = (size - 24) / form_len form

-- the j-th entry of an index page tells of the kept data page that has the j-th number from the first one on
abbrev pub IsEntry : (ℕ → List ℕ) → Shape → IndexOver → List ℕ → ℕ → Type 0
IsEntry page rows l listing j =
    (i : ℕ) → i < l.rows.marks.kept → page_first listing + j + (l.rows.marks.kept - i) ≡ l.rows.next → TellsPage l.layout (page (kept_page rows l.rows.marks i)) (found_at l.form listing j)

-- how many kept data pages have a number below this one
abbrev pub kept_below : Numbering → ℕ → ℕ
kept_below n number = n.marks.kept - (n.next - number)

-- the i-th kept index page is committed
abbrev pub Lists : (ℕ → List ℕ) → Shape → Marks → ℕ → Type 0
Lists page index m i = commits (state_of_page (page (kept_page index m i))) ≡ true

-- the first data page that the i-th kept index page lists
abbrev pub first_listed : (ℕ → List ℕ) → Shape → Marks → ℕ → ℕ
first_listed page index m i = page_first (page (kept_page index m i))

-- it lists data pages after those of the pages before it, and tells of them
pub record IsListing (page : ℕ → List ℕ) (index rows : Shape) (l : IndexOver) (i : ℕ) : Type 0 where
  pub ascends : (k : ℕ) → k < i → Lists page index l.index k → first_listed page index l.index k + entries_in index.size l.form ≤ first_listed page index l.index i
  pub entries : AllBelow (IsEntry page rows l (page (kept_page index l.index i))) (entries_in index.size l.form)

-- no kept index page after it is committed
abbrev pub IsLastListing : (ℕ → List ℕ) → Shape → Marks → ℕ → Type 0
IsLastListing page index m i = (k : ℕ) → i < k → k < m.kept → Lists page index m k → ⊥

-- what the i-th kept index page lists, where it is committed; the newest one ends at the data ring's next number at most
pub record HasEntries (page : ℕ → List ℕ) (index rows : Shape) (l : IndexOver) (i : ℕ) : Type 0 where
  pub listing : Lists page index l.index i → IsListing page index rows l i
  pub ends : Lists page index l.index i → IsLastListing page index l.index i → first_listed page index l.index i + entries_in index.size l.form ≤ l.rows.next

abbrev pub HaveEntries : (ℕ → List ℕ) → Shape → Shape → IndexOver → Type 0
HaveEntries page index rows l = AllBelow (HasEntries page index rows l) l.index.kept

-- the oldest kept index page that breaks the rule
pub record EntriesBreak (page : ℕ → List ℕ) (index rows : Shape) (l : IndexOver) (p : ℕ) : Type 0 where
  pub i : ℕ
  pub first : FailsFirst (HasEntries page index rows l) l.index.kept i
  pub is : p ≡ kept_page index l.index i

-- the first i kept index pages: what they list, and the newest committed one of them with the number after those that it lists
pub record AreSeen (page : ℕ → List ℕ) (index rows : Shape) (l : IndexOver) (i : ℕ) (seen : Seen) : Type 0 where
  pub listings : AllBelow (λ k. Lists page index l.index k → IsListing page index rows l k) i
  pub below : (k : ℕ) → k < i → Lists page index l.index k → first_listed page index l.index k + entries_in index.size l.form ≤ seen.end
  pub newest : 0 < seen.end → (seen.last < i) × Lists page index l.index seen.last × (first_listed page index l.index seen.last + entries_in index.size l.form ≡ seen.end)
  pub after : (k : ℕ) → seen.last < k → k < i → Lists page index l.index k → ⊥
