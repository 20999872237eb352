-- Laws on the sizes: what is always kept, and what is enough.
use Rattle.std.specs.Prelude.{◌≡◌, ℕ, ◌+◌, ◌*◌, ◌≤◌, min, not, ◌&&◌, IsTrue, IfSome, List, [], ◌∷◌, length, replicate, sum, count_by}
use Rattle.fl_model.specs.Facts.{IsTable}
use Rattle.fl_model.specs.Limits.{is_listed, numbers_of}
use Rattle.fl_model.specs.Record.{Plan, has_index, rows_per_page, entries_per_page}
use Rattle.fl_model.specs.Ring.{Shape, IsShape, Ring, IsRing, fresh, sealed, erased}
use Rattle.fl_model.specs.Table.{Table, DataRing, IndexRing, shape_of}
use Rattle.fl_model.specs.MountLimit.{ring_mount_limit, voids_at_end, full_mount_limit}
use Rattle.fl_sizing.specs.Rings.{least_pages, most_pages, end_reads}
use Rattle.fl_sizing.specs.Sizes.{rows_kept, index_pages, index_blocks, unlisted_pages, full_reads}

-- a ring in which pages with these counts are sealed, one after another; a void page has the count 0
abbrev pub sealed_all : Shape → List ℕ → Ring → Ring
sealed_all shape [] ring = ring
sealed_all shape (count ∷ counts) ring = sealed_all shape counts (erased (sealed shape count ring))

-- However many pages were sealed in a new ring, and whichever of them are void: at least so many of them are kept, and at most so many.
pub record KeepsPages (shape : Shape) (counts : List ℕ) : Type 0 where
  pub least : min (length counts) (least_pages shape) ≤ length (sealed_all shape counts fresh).counts
  pub most : length (sealed_all shape counts fresh).counts ≤ most_pages shape

abbrev pub RingsKeep : Type 0
RingsKeep = (shape : Shape) (counts : List ℕ) → IsShape shape → KeepsPages shape counts

-- However many full pages of a table were sealed, at least so many of their rows are kept.
abbrev pub RowsAreKept : Type 0
RowsAreKept =
    (plan : Plan) (n : ℕ) → IsShape (shape_of plan DataRing) →
    min (rows_per_page plan * n) (rows_kept plan) ≤ sum (sealed_all (shape_of plan DataRing) (replicate n (rows_per_page plan)) fresh).counts

-- The index pages that are wanted list as many data pages as are kept at most, and so many blocks always keep these pages.
pub record IsEnough (plan : Plan) : Type 0 where
  pub lists : most_pages (shape_of plan DataRing) ≤ index_pages plan * entries_per_page plan
  pub keeps : index_pages plan ≤ least_pages (record { blocks = index_blocks plan; pages = plan.geometry.block })

abbrev pub IndexIsEnough : Type 0
IndexIsEnough = (plan : Plan) → IsTrue (has_index plan) → 1 ≤ entries_per_page plan → 1 ≤ plan.geometry.block → IsEnough plan

-- The reads of a ring that has no void pages at its end: those by which a mount finds its end, and each kept page once, are at most those of a
-- full one.
abbrev pub FullRingsReadMost : Type 0
FullRingsReadMost =
    (shape : Shape) (ring : Ring) → IsShape shape → IsRing shape ring → voids_at_end ring.counts ≡ 0 →
    length ring.counts + ring_mount_limit shape ring ≤ most_pages shape + end_reads shape

-- no ring of a table has void pages at its end
pub record HasNoVoidsAtEnd (table : Table) : Type 0 where
  pub rows : voids_at_end table.rows.counts ≡ 0
  pub index : IfSome table.index (λ ring. voids_at_end ring.counts ≡ 0)
  pub var : IfSome table.var (λ ring. voids_at_end ring.counts ≡ 0)
  pub log : IfSome table.log (λ ring. voids_at_end ring.counts ≡ 0)

-- So it is with such a table whose index entries are full, where no more data pages are unlisted than are told: the reads of its mount,
-- from the table before it and after its repairs, are at most those that are told.
abbrev pub FullEntriesReadMost : Type 0
FullEntriesReadMost =
    (plan : Plan) (before after : Table) → IsTable plan before → IsTable plan after → IsTrue (plan.full_index && has_index plan) →
    IsShape (shape_of plan DataRing) → IsShape (shape_of plan IndexRing) → HasNoVoidsAtEnd before →
    count_by (λ number. not (is_listed plan after number)) (numbers_of after) ≤ unlisted_pages plan →
    full_mount_limit plan before after ≤ full_reads plan
