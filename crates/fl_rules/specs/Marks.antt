-- What the marks of a ring's pages say of its head, whatever the bytes are.
use Rattle.std.specs.Prelude.{◌≡◌, ℕ, ◌+◌, ◌-◌, ◌*◌, ◌<◌, ◌≤◌, false, List}
use Rattle.fl_mark.specs.Mark.{state_of_page}
use Rattle.fl_ring.specs.Finding.{kept_pages}
use Rattle.fl_ring.specs.Front.{IsFront, blanks}
use Rattle.fl_ring.specs.Head.{counts_full, fulls, heads, head_of, page_in}
use Rattle.fl_ring.specs.Newest.{page_back}
use Rattle.fl_ring.specs.Ring.{Shape, room}
use Rattle.fl_rules.specs.Claims.{FailsFirst}
use Rattle.fl_rules.specs.declared.marks.HeadPages.{HeadPages}
use Rattle.fl_rules.specs.declared.marks.Marks.{Marks}

-- The first `ordered` pages of a block are the front of a head: sealed ones, one that isn't, and blank ones. The page
-- after them, if there is one, isn't blank though it should be.
pub record IsOrdered (page : ℕ → List ℕ) (r : Shape) (block : ℕ) (pages : HeadPages) : Type 0 where
  pub within : pages.ordered ≤ r.per_block
  pub front : IsFront (λ i. state_of_page (page (page_in r block i))) r.per_block pages.ordered pages.front
  pub gap : pages.ordered < r.per_block → (pages.front.sealed < pages.ordered) × (blanks (state_of_page (page (page_in r block pages.ordered))) ≡ false)

abbrev pub HasOneHead : (ℕ → List ℕ) → Shape → Type 0
HasOneHead page r = heads (counts_full r page) r.blocks ≡ 1

-- one block is the head; its sealed pages and those of the full blocks before it are kept, and the next page comes after them
pub record AreMarks (page : ℕ → List ℕ) (r : Shape) (m : Marks) : Type 0 where
  pub one_head : HasOneHead page r
  pub head : m.head ≡ head_of (counts_full r page) r.blocks
  pub ordered : IsOrdered page r m.head m.pages
  pub at : m.at ≡ m.head * r.per_block + m.pages.front.sealed
  pub kept : m.kept ≡ kept_pages r (fulls (counts_full r page) r.blocks) m.pages.front.sealed

-- the numbers of such marks are those of places in the ring
pub record AreWithin (r : Shape) (m : Marks) : Type 0 where
  pub head : m.head < r.blocks
  pub sealed : m.pages.front.sealed < r.per_block
  pub ordered : m.pages.ordered ≤ r.per_block
  pub at : m.at < room r
  pub kept : m.kept < room r
  -- the pages of the head that aren't sealed aren't kept
  pub few : m.kept + r.per_block ≤ room r + m.pages.front.sealed

-- the flash page of the i-th kept page, from the oldest on
abbrev pub kept_page : Shape → Marks → ℕ → ℕ
kept_page r m i = page_back r m.at (m.kept - i)

-- the page of the oldest kept one of which a claim doesn't hold
pub record IsFirstKept (Holds : ℕ → Type 0) (r : Shape) (m : Marks) (p : ℕ) : Type 0 where
  pub i : ℕ
  pub first : FailsFirst Holds m.kept i
  pub is : p ≡ kept_page r m i
