-- The pages of a ring, by the bytes of an image of any length.
use Rattle.std.specs.Prelude.{ℕ, zero, suc, ◌+◌, ◌-◌, ◌*◌, ◌/◌, ◌%◌, ◌^◌, ◌<◌, ◌≤◌, Bool, ◌&&◌, ◌==◌, nat_lt, nat_le, List, [], ◌∷◌, ◌++◌, length, take, drop, if◌then◌else◌}
use Rattle.std.specs.List.Sorted.{IsPermutation, IsSorted}
use Rattle.std.specs.Ordering.{nat_cmp}
use Rattle.fl_base.specs.declared.types.Geometry.{Geometry}
use Rattle.fl_base.specs.declared.types.RingPlace.{RingPlace}
use Rattle.fl_mark.specs.Mark.{state_of_page}
use Rattle.fl_mark.specs.declared.page_state.PageState.{PageState}
use Rattle.fl_mark.specs.declared.page_state.PageState.TheVariants as state
use Rattle.fl_model.specs.Record.{RowLayout, layout_len}
use Rattle.fl_page.specs.Header.{page_number, page_count}
use Rattle.fl_salvage.specs.declared.found.PageFound.{PageFound}
use Rattle.fl_salvage.specs.declared.found.PageFound.TheVariants.{Rows, Blank, Missing, Torn, Void, Misplaced, Unformed}
use Rattle.fl_salvage.specs.declared.passed_over.PassedOver.{PassedOver}
use Rattle.fl_salvage.specs.declared.ring.RingPages.{RingPages}

-- ---- the places of a ring

abbrev pub ring_at : Geometry → RingPlace → RingPages
ring_at geometry place = record { first = place.first_block * geometry.block; pages = place.blocks * geometry.block; size = geometry.page }

-- a ring of an image
pub record IsRing (ring : RingPages) : Type 0 where
  pub first : ring.first ≤ 2 ^ 40
  pub some : 0 < ring.pages
  pub few : ring.pages ≤ 2 ^ 22
  pub size : 64 ≤ ring.size
  pub short : ring.size ≤ 4096

-- the bytes of the page at a place of a ring, behind the header; fewer than a page has, or none, where the image ends before
abbrev pub page_of : RingPages → List ℕ → ℕ → List ℕ
page_of ring bytes place = take ring.size (drop (1024 + (ring.first + place) * ring.size) bytes)

-- .. at the place of a page number
abbrev pub numbered : RingPages → List ℕ → ℕ → List ℕ
numbered ring bytes number = page_of ring bytes (number % ring.pages)

-- ---- what a page of a data ring is found to be

-- a page with this number, and from one row on as many as it has room for
abbrev pub has_rows : RowLayout → ℕ → List ℕ → Bool
has_rows layout number page = (page_number page == number) && nat_lt 0 (page_count page) && nat_le (page_count page) ((length page - 24) / layout_len layout)

abbrev pub if_committed : PageState → PageFound → PageFound
if_committed state.Blank found = Blank
if_committed state.Torn found = Torn
if_committed state.Void found = Void
if_committed state.Committed found = found

-- The page at a place: a committed one has its rows where its number belongs to that place, and it says to have as many as it
-- has room for. Of its other bytes nothing is asked.
abbrev pub found_in : RowLayout → RingPages → ℕ → List ℕ → PageFound
found_in layout ring place page =
    if_committed (state_of_page page)
    (if page_number page % ring.pages == place then (if has_rows layout (page_number page) page then Rows else Unformed) else Misplaced)

abbrev pub found_at : RowLayout → RingPages → List ℕ → ℕ → PageFound
found_at layout ring bytes place =
    if nat_lt (length (page_of ring bytes place)) ring.size then Missing else found_in layout ring place (page_of ring bytes place)

-- ---- the pages that are written, and those that aren't

abbrev pub with_number : PageFound → ℕ → List ℕ → List ℕ
with_number Rows number numbers = numbers ++ number ∷ []
with_number other number numbers = numbers

-- the numbers of the pages with rows at the first so many places
abbrev pub numbers_at : RowLayout → RingPages → List ℕ → ℕ → List ℕ
numbers_at layout ring bytes zero = []
numbers_at layout ring bytes (suc n) = with_number (found_at layout ring bytes n) (page_number (page_of ring bytes n)) (numbers_at layout ring bytes n)

-- the same numbers from the least to the greatest
pub record IsInOrder (numbers ordered : List ℕ) : Type 0 where
  pub same : IsPermutation numbers ordered
  pub ascend : IsSorted nat_cmp ordered

abbrev pub none_passed : PassedOver
none_passed = record { missing = 0; torn = 0; void = 0; misplaced = 0; unformed = 0 }

abbrev pub with_passed : PageFound → PassedOver → PassedOver
with_passed Rows passed = passed
with_passed Blank passed = passed
with_passed Missing passed = record passed { missing = passed.missing + 1 }
with_passed Torn passed = record passed { torn = passed.torn + 1 }
with_passed Void passed = record passed { void = passed.void + 1 }
with_passed Misplaced passed = record passed { misplaced = passed.misplaced + 1 }
with_passed Unformed passed = record passed { unformed = passed.unformed + 1 }

-- how many of the pages at the first so many places were passed over, by the reason
abbrev pub passed_at : RowLayout → RingPages → List ℕ → ℕ → PassedOver
passed_at layout ring bytes zero = none_passed
passed_at layout ring bytes (suc n) = with_passed (found_at layout ring bytes n) (passed_at layout ring bytes n)

-- no count is above this one
pub record AreFew (most : ℕ) (passed : PassedOver) : Type 0 where
  pub missing : passed.missing ≤ most
  pub torn : passed.torn ≤ most
  pub void : passed.void ≤ most
  pub misplaced : passed.misplaced ≤ most
  pub unformed : passed.unformed ≤ most
