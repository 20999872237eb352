-- What the numbers of a check tell of a ring of the model.
use Rattle.std.proofs.Common.{◌≡◌, ◌⊎◌, ℕ, ◌+◌, ◌-◌, ◌^◌, ◌<◌, ◌≤◌, false, cond, nat_lt, Option, Some, None, List, length}
use Rattle.std.specs.List.{slice_get, list_any}
use Rattle.fl_base.specs.declared.types.RingPlace.{RingPlace}
use Rattle.fl_mark.specs.Mark.{state_of_page}
use Rattle.fl_model.specs.Ring as model
use Rattle.fl_ring.specs.Newest.{commits, page_back}
use Rattle.fl_ring.specs.Ring.{Shape, place}
use Rattle.fl_rules.specs.Marks.{kept_page}
use Rattle.fl_rules.specs.declared.numbering.Numbering.{Numbering}

pub record Reads (page : ℕ → List ℕ) (r : Shape) (at_least : ℕ) (ring : model.Ring) (n : Numbering) : Type 0 where
  pub kept : n.marks.kept ≡ length ring.counts
  -- the pages, counted back from the next one
  pub back : (k : ℕ) → 1 ≤ k → k ≤ length ring.counts → page (page_back r n.marks.at k) ≡ page (place r (ring.next - k))
  -- .. and from the oldest one on
  pub at : (i : ℕ) → i < length ring.counts → page (kept_page r n.marks i) ≡ page (place r (model.oldest ring + i))
  pub committed : (i c : ℕ) → slice_get ring.counts i ≡ Some c → commits (state_of_page (page (kept_page r n.marks i))) ≡ nat_lt 0 c
  -- the next number is the ring's where a page is committed, and else behind those of its pages from the least one on
  pub next : (i c : ℕ) → slice_get ring.counts i ≡ Some c → 0 < c → n.next ≡ ring.next
  pub least : (n.next ≡ ring.next) ⊎ (at_least + length ring.counts ≤ n.next)

-- .. where its numbers are the ring's
pub record Follows (page : ℕ → List ℕ) (r : Shape) (at_least : ℕ) (ring : model.Ring) (n : Numbering) : Type 0 where
  pub reads : Reads page r at_least ring n
  pub next : n.next ≡ ring.next
  pub known : length ring.counts ≤ ring.next
  pub small : ring.next < 2 ^ 32
  -- .. with a void page more where the next one is torn
  pub left : ring.next + cond ring.torn 1 0 < 2 ^ 32
  -- where none of its pages is committed, they have the numbers from the least one on
  pub behind : list_any (nat_lt 0) ring.counts ≡ false → at_least + length ring.counts ≤ ring.next

-- .. of a ring that a table may not have
abbrev pub OfNumbered : (RingPlace → Numbering → model.Ring → Type 0) → Option RingPlace → Option Numbering → Option model.Ring → Type 0
OfNumbered Holds None n ring = Unit {0}
OfNumbered Holds (Some place) None ring = Unit {0}
OfNumbered Holds (Some place) (Some n) None = Unit {0}
OfNumbered Holds (Some place) (Some n) (Some ring) = Holds place n ring
