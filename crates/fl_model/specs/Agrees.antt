-- What the pages of a table hold beside its rows agrees with its entries: index entries tell of the data pages that they list, and
-- the pages of variable data have the blobs that aren't gone.
use Rattle.std.specs.Prelude.{◌≡◌, ℕ, ◌+◌, ◌-◌, ◌*◌, ◌/◌, ◌%◌, ◌<◌, ◌≤◌, Bool, true, ◌||◌, nat_lt, IsTrue, Option, Some, None, IfSome, List, length, take, drop, sum, slice_get, if◌then◌else◌}
use Rattle.fl_model.specs.Record.{Plan, content_per_page}
use Rattle.fl_model.specs.Entry.{Entry}
use Rattle.fl_model.specs.Index.{IndexEntry, IndexPage, bitmap_of, full_of}
use Rattle.fl_model.specs.Content.{ContentPage, content_page}
use Rattle.fl_model.specs.Ring.{Ring, oldest}
use Rattle.fl_model.specs.Table.{Table, full_pages}
use Rattle.fl_model.specs.Query.{page_stands}

-- ---- the index

-- the rows of the i-th kept data page
abbrev pub rows_at : Table → ℕ → ℕ → List Entry
rows_at table i count = take count (drop (sum (take i table.rows.counts)) table.entries)

-- an index entry tells of a data page with these rows: its bitmap, and a full one the rest too
pub record Tells (plan : Plan) (rows : List Entry) (entry : IndexEntry) : Type 0 where
  pub bitmap : entry.bitmap ≡ bitmap_of plan rows
  pub full : plan.full_index ≡ true → entry.full ≡ full_of rows

-- .. and it is there
abbrev pub TellsAt : Plan → List Entry → Option IndexEntry → Type 0
TellsAt plan rows None = ⊥
TellsAt plan rows (Some entry) = Tells plan rows entry

-- the entry of a kept page with so many rows tells of it; that of a void page does where entries are full, and is zero then
abbrev pub is_told : Plan → ℕ → Bool
is_told plan count = plan.full_index || nat_lt 0 count

-- these entries, those of the data pages from one on, tell of each of them that is kept
abbrev pub TellPages : Plan → Table → ℕ → List IndexEntry → Type 0
TellPages plan table first entries =
    (j n : ℕ) → j < length entries → first + j ≡ oldest table.rows + n →
    IfSome (slice_get table.rows.counts n) (λ count. IsTrue (is_told plan count) → TellsAt plan (rows_at table n count) (slice_get entries j))

-- ---- the variable data

-- the content of a page that is kept, and of those to come as far as their bytes wait
abbrev pub content_at : Plan → Table → Ring → ℕ → Option ContentPage
content_at plan table ring number =
    let room = content_per_page plan in
    if nat_lt number ring.next
    then (if page_stands ring number then slice_get table.var_pages (full_pages (take (number - oldest ring) ring.counts)) else None)
    else Some (content_page plan (take room (drop ((number - ring.next) * room) table.buffered)))

-- how many pages a blob has behind its first one
abbrev pub reach_of : Plan → Entry → List ℕ → ℕ
reach_of plan entry bytes = (entry.offset + length bytes - 1) / content_per_page plan

-- the pages of a blob: all but the last are full, and their contents from its offset on begin with its bytes
pub record HoldsBlob (plan : Plan) (table : Table) (ring : Ring) (entry : Entry) (bytes : List ℕ) : Type 0 where
  pub pages : ℕ → ContentPage
  pub there : (j : ℕ) → j ≤ reach_of plan entry bytes → content_at plan table ring (entry.page + j) ≡ Some (pages j)
  pub within : entry.offset < (pages 0).used
  pub full : (j : ℕ) → j < reach_of plan entry bytes → (pages j).used ≡ content_per_page plan
  pub ends : (entry.offset + length bytes - 1) % content_per_page plan < (pages (reach_of plan entry bytes)).used
  pub stored : (j byte : ℕ) → slice_get bytes j ≡ Some byte →
      slice_get (pages ((entry.offset + j) / content_per_page plan)).bytes ((entry.offset + j) % content_per_page plan) ≡ Some byte

-- the blobs of these pages that aren't gone
abbrev pub BlobsOf : Plan → Table → Ring → Type 0
BlobsOf plan table ring =
    (i : ℕ) (entry : Entry) (blob : List ℕ) → slice_get table.entries i ≡ Some entry → entry.kept.blob ≡ Some blob → 0 < length blob →
    page_stands ring entry.page ≡ true → HoldsBlob plan table ring entry blob

-- ---- the table

pub record Agrees (plan : Plan) (table : Table) : Type 0 where
  pub listed : (k : ℕ) (page : IndexPage) → slice_get table.index_pages k ≡ Some page → TellPages plan table page.first page.entries
  pub waiting : TellPages plan table (table.rows.next - length table.waiting) table.waiting
  pub blobs : IfSome table.var (BlobsOf plan table)
