-- The bytes of a blob, by the pages of variable data that hold them.
use Rattle.std.specs.Prelude.{ℕ, zero, suc, ◌+◌, ◌-◌, ◌&&◌, ◌==◌, nat_lt, nat_le, Option, Some, None, List, ◌++◌, length, drop, slice_range, if◌then◌else◌}
use Rattle.fl_mark.specs.Mark.{state_of_page}
use Rattle.fl_mark.specs.declared.page_state.PageState.{PageState}
use Rattle.fl_mark.specs.declared.page_state.PageState.TheVariants as state
use Rattle.fl_page.specs.Header.{page_number, page_count}
use Rattle.fl_salvage.specs.Pages.{numbered}
use Rattle.fl_salvage.specs.declared.ring.RingPages.{RingPages}

-- the most bytes of content that a page has
abbrev pub content_room : RingPages → ℕ
content_room ring = ring.size - 16

abbrev pub where_committed : PageState → Option (List ℕ) → Option (List ℕ)
where_committed state.Committed content = content
where_committed state.Blank content = None
where_committed state.Torn content = None
where_committed state.Void content = None

-- the content of a page of variable data with this number, which is committed and says to have no more than there is room for
abbrev pub content_in : ℕ → List ℕ → Option (List ℕ)
content_in number page =
    where_committed (state_of_page page)
    (if (page_number page == number) && nat_le (page_count page) (length page - 16) then Some (slice_range page 8 (8 + page_count page)) else None)

-- .. of the one at the place of a page number, where the image has it
abbrev pub content_at : RingPages → List ℕ → ℕ → Option (List ℕ)
content_at ring bytes number =
    if nat_lt (length (numbered ring bytes number)) ring.size then None else content_in number (numbered ring bytes number)

-- bytes behind which others come
abbrev pub joined : List ℕ → Option (List ℕ) → Option (List ℕ)
joined front None = None
joined front (Some others) = Some (front ++ others)

-- The bytes left of a blob, from an offset of a page's content on: they end on it; or it is full, and the others begin the
-- content of the next page. `next` is what is found from there on where this page is full.
abbrev pub piece_in : ℕ → ℕ → ℕ → Option (List ℕ) → Option (List ℕ) → Option (List ℕ)
piece_in room offset left None next = None
piece_in room offset left (Some content) next =
    if nat_le (length content) offset then None
    else if nat_le left (length content - offset) then Some (slice_range content offset (offset + left))
    else if length content == room then joined (drop offset content) next
    else None

-- the bytes of a blob on so many pages at most
abbrev pub blob_from : (ℕ → Option (List ℕ)) → ℕ → ℕ → ℕ → ℕ → ℕ → Option (List ℕ)
blob_from content room zero number offset left = None
blob_from content room (suc pages) number offset left =
    piece_in room offset left (content number) (blob_from content room pages (number + 1) 0 (left - (room - offset)))
