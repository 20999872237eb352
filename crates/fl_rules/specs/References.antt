-- The rule on the references of a table's rows: each leads before the next page of variable data, and where its first page
-- is there, to all bytes of its blob.
use Rattle.std.specs.Prelude.{◌≡◌, ℕ, ◌+◌, ◌-◌, ◌/◌, ◌%◌, ◌<◌, ◌≤◌, true, Option, Some, IfSome, List, length, slice_get}
use Rattle.fl_base.specs.declared.types.BlobRef.{BlobRef}
use Rattle.fl_mark.specs.Mark.{state_of_page}
use Rattle.fl_model.specs.Record.{RowLayout}
use Rattle.fl_model.specs.Row.{Row}
use Rattle.fl_page.specs.Header.{page_number, page_count}
use Rattle.fl_page.specs.Page.{IsGoodPage, rows_in}
use Rattle.fl_ring.specs.Newest.{commits, page_back}
use Rattle.fl_ring.specs.Ring.{Shape}
use Rattle.fl_rules.specs.Claims.{AllBelow, FailsFirst}
use Rattle.fl_rules.specs.Marks.{kept_page}
use Rattle.fl_rules.specs.declared.marks.Marks.{Marks}
use Rattle.fl_rules.specs.declared.numbering.Numbering.{Numbering}

-- ---- the pages of variable data

-- the bytes of the kept page with this number
abbrev pub numbered : (ℕ → List ℕ) → Shape → Numbering → ℕ → List ℕ
numbered page r n number = page (page_back r n.marks.at (n.next - number))

-- the page with this number is kept and committed
pub record IsThere (page : ℕ → List ℕ) (r : Shape) (n : Numbering) (number : ℕ) : Type 0 where
  pub sealed : number < n.next
  pub kept : n.next ≤ number + n.marks.kept
  pub committed : commits (state_of_page (numbered page r n number)) ≡ true

-- ---- the pages of a blob

-- the most bytes of content that a page has
abbrev pub content_room : Shape → ℕ
content_room r = r.size - 16

-- where its last byte stands, counted from the first byte of content of its first page on, as pages are full
abbrev pub last_byte : BlobRef → ℕ
last_byte at = at.offset + at.length - 1

-- how many pages come before the last one that it needs
abbrev pub last_part : Shape → BlobRef → ℕ
last_part r at = last_byte at / content_room r

-- the j-th page that it needs is there and full, but for the last one, which has the blob's last byte
pub record HoldsPart (page : ℕ → List ℕ) (r : Shape) (n : Numbering) (at : BlobRef) (j : ℕ) : Type 0 where
  pub there : IsThere page r n (at.page + j)
  pub full : j < last_part r at → page_count (numbered page r n (at.page + j)) ≡ content_room r
  pub ends : j ≡ last_part r at → last_byte at % content_room r < page_count (numbered page r n (at.page + j))

-- it begins within the content of its first page, and all pages that it needs have their part
pub record IsWhole (page : ℕ → List ℕ) (r : Shape) (n : Numbering) (at : BlobRef) : Type 0 where
  pub begins : at.offset < page_count (numbered page r n at.page)
  pub parts : AllBelow (HoldsPart page r n at) (last_part r at + 1)

pub record Leads (page : ℕ → List ℕ) (r : Shape) (n : Numbering) (at : BlobRef) : Type 0 where
  pub sealed : at.page < n.next
  pub whole : IsThere page r n at.page → IsWhole page r n at

-- ---- the rows

-- a row without a blob, and one with an empty blob, lead nowhere
abbrev pub BlobLeads : (ℕ → List ℕ) → Shape → Numbering → Option BlobRef → Type 0
BlobLeads page r n blob = IfSome blob (λ at. 0 < at.length → Leads page r n at)

abbrev pub RowLeads : (ℕ → List ℕ) → Shape → Numbering → List Row → ℕ → Type 0
RowLeads page r n rows i = (row : Row) → slice_get rows i ≡ Some row → BlobLeads page r n row.blob

abbrev pub RowsLead : (ℕ → List ℕ) → Shape → Numbering → List Row → Type 0
RowsLead page r n rows = AllBelow (RowLeads page r n rows) (length rows)

-- ---- the data pages

-- the i-th kept data page, where it is committed, has from one row on as many as it has room for
abbrev pub HasKeptRows : RowLayout → (ℕ → List ℕ) → Shape → Marks → ℕ → Type 0
HasKeptRows layout page d m i =
    let bytes = page (kept_page d m i) in commits (state_of_page bytes) ≡ true → IsGoodPage layout (page_number bytes) bytes

-- .. its rows lead to their blobs
abbrev pub PageLeads : RowLayout → (ℕ → List ℕ) → Shape → Marks → Shape → Numbering → ℕ → Type 0
PageLeads layout page d m r n i =
    let bytes = page (kept_page d m i) in commits (state_of_page bytes) ≡ true → RowsLead page r n (rows_in layout bytes)

-- the oldest kept data page of which they don't
pub record ReferencesBreak (layout : RowLayout) (page : ℕ → List ℕ) (d : Shape) (m : Marks) (r : Shape) (n : Numbering) (p : ℕ) : Type 0 where
  pub i : ℕ
  pub first : FailsFirst (PageLeads layout page d m r n) m.kept i
  pub is : p ≡ kept_page d m i
