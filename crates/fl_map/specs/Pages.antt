-- What a map tells of a ring, by the bytes of its pages.
use Rattle.std.specs.Prelude.{ℕ, zero, suc, ◌+◌, ◌-◌, ◌*◌, min, max, not, if◌then◌else◌, ◌==◌, nat_lt, Option, Some, None, List, [], ◌∷◌, ◌++◌, length, count_by, slice_range}
use Rattle.std.specs.List.{list_all}
use Rattle.std.specs.Int.{w16, from_le_bytes}
use Rattle.fl_mark.specs.Mark.{state_of_page}
use Rattle.fl_mark.specs.declared.page_state.PageState.{PageState}
use Rattle.fl_ring.specs.Front.{blanks}
use Rattle.fl_ring.specs.Head.{seals, counts_full, heads, head_of}
use Rattle.fl_ring.specs.Newest.{commits, number_of}
use Rattle.fl_ring.specs.Ring.{Shape, room}
use Rattle.fl_map.specs.declared.note.Figures.{Figures}
use Rattle.fl_map.specs.declared.note.RingNote.{RingNote}

-- the states of the first n pages from a page on
abbrev pub states_to : (ℕ → List ℕ) → ℕ → ℕ → List PageState
states_to page first zero = []
states_to page first (suc n) = states_to page first n ++ state_of_page (page (first + n)) ∷ []

-- the count of rows in the header of a data page
abbrev pub count_told : List ℕ → ℕ
count_told page = from_le_bytes w16 (slice_range page 4 6)

-- The rows of a committed page whose rows have so many bytes, where it has room for as many as it tells; else none. A page that isn't one of
-- rows has none.
abbrev pub rows_told : Option ℕ → List ℕ → ℕ
rows_told None page = 0
rows_told (Some row_len) page = if nat_lt (length page - 24) (count_told page * row_len) then 0 else count_told page

abbrev pub no_figures : Figures
no_figures = record { committed = 0; first = 4294967295; last = 0; rows = 0 }

-- one page more, which counts where it is committed: its number, and its rows
abbrev pub with_page : Option ℕ → List ℕ → Figures → Figures
with_page row_len page f =
    if commits (state_of_page page) then record { committed = f.committed + 1; first = min f.first (number_of page); last = max f.last (number_of page); rows = f.rows + rows_told row_len page }
    else f

-- the first n pages from a page on
abbrev pub figures_to : Option ℕ → (ℕ → List ℕ) → ℕ → ℕ → Figures
figures_to row_len page first zero = no_figures
figures_to row_len page first (suc n) = with_page row_len (page (first + n)) (figures_to row_len page first n)

-- the head by the last pages of the blocks, where these tell just one
abbrev pub only_head : Shape → (ℕ → List ℕ) → Option ℕ
only_head r page = if heads (counts_full r page) r.blocks == 1 then Some (head_of (counts_full r page) r.blocks) else None

-- the states of the pages of a block, but for the last ones
abbrev pub block_states : ℕ → List PageState → ℕ → ℕ → List PageState
block_states per_block states block but = slice_range states (block * per_block) (block * per_block + (per_block - but))

-- the block after a block of the ring
abbrev pub block_after : ℕ → ℕ → ℕ
block_after blocks block = if block + 1 == blocks then 0 else block + 1

-- The pages that wait for an erase: where all pages of the head but its last are sealed, those of the block ahead that aren't blank.
abbrev pub waiting_in : ℕ → ℕ → List PageState → Option ℕ → ℕ
waiting_in blocks per_block states None = 0
waiting_in blocks per_block states (Some head) =
    if list_all seals (block_states per_block states head 1) then count_by (λ state. not (blanks state)) (block_states per_block states (block_after blocks head) 0)
    else 0

-- what a map tells of a ring, beside the states of its pages
abbrev pub note_of : Option ℕ → Shape → (ℕ → List ℕ) → Option ℕ → RingNote
note_of row_len r page fault = record {
  row_len = row_len;
  first = r.first;
  per_block = r.per_block;
  head = only_head r page;
  figures = figures_to row_len page r.first (room r);
  waiting = waiting_in r.blocks r.per_block (states_to page r.first (room r)) (only_head r page);
  fault = fault;
}
