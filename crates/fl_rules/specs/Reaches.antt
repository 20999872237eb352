-- How far content stands without a gap in a ring of variable data, from each of its newest pages on.
use Rattle.std.specs.Prelude.{◌≡◌, ℕ, zero, suc, ◌+◌, ◌<◌, ◌≤◌, ◌==◌, true, if◌then◌else◌, List, slice_index_or}
use Rattle.fl_mark.specs.Mark.{state_of_page}
use Rattle.fl_page.specs.Header.{page_count}
use Rattle.fl_ring.specs.Newest.{commits, page_back}
use Rattle.fl_ring.specs.Ring.{Shape}
use Rattle.fl_rules.specs.Claims.{AllBelow}
use Rattle.fl_rules.specs.References.{content_room}

-- From the first byte of content of a page on, where so many bytes do from the next page on: its own, and those after it
-- where it is full. None do where it isn't committed.
abbrev pub reach_from : ℕ → List ℕ → ℕ → ℕ
reach_from room page after = if commits (state_of_page page) then (if page_count page == room then page_count page + after else page_count page) else 0

-- from the i-th page before a place on, up to that place
abbrev pub reach : (ℕ → List ℕ) → Shape → ℕ → ℕ → ℕ
reach page r at zero = 0
reach page r at (suc i) = reach_from (content_room r) (page (page_back r at (i + 1))) (reach page r at i)

-- those of so many pages before a place, the newest first
abbrev pub AreReaches : (ℕ → List ℕ) → Shape → ℕ → ℕ → List ℕ → Type 0
AreReaches page r at kept reaches = AllBelow (λ i. slice_index_or reaches i 0 ≡ reach page r at (suc i)) kept

-- such a page has some content where it is committed, as much as it has room for at most
abbrev pub HasContent : (ℕ → List ℕ) → Shape → ℕ → ℕ → Type 0
HasContent page r at i =
    let bytes = page (page_back r at (i + 1)) in commits (state_of_page bytes) ≡ true → (0 < page_count bytes) × (page_count bytes ≤ content_room r)

-- the reaches of pages that have content
pub record AreMeasured (page : ℕ → List ℕ) (r : Shape) (at kept : ℕ) (listed : List ℕ) : Type 0 where
  pub reaches : AreReaches page r at kept listed
  pub content : AllBelow (HasContent page r at) kept
