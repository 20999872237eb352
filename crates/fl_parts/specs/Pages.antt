-- The pages of a table on a flash, and the state of the model that they stand for.
use Rattle.std.specs.Prelude.{◌≡◌, ℕ, ◌+◌, ◌*◌, ◌%◌, Some, IfSome, List}
use Rattle.fl_flash.specs.Flash.{FlashState, page_at}
use Rattle.fl_model.specs.Record.{Plan}
use Rattle.fl_model.specs.Table.{Table, RingName, DataRing, IndexRing, VarRing, LogRing, shape_of}
use Rattle.fl_model.specs.Facts.{IsSettled}
use Rattle.fl_model.specs.Ring.{Ring}
use Rattle.fl_model.specs.Image.{IsRingImage, HoldsRows, HoldsEntries, HoldsContent}
use Rattle.fl_ring.specs.Kept.{PagesStand}
use Rattle.fl_parts.specs.Mountable.{IsMountable}

-- the first block of a ring, where the blocks of its table begin at `first`
abbrev pub ring_begin : ℕ → Plan → RingName → ℕ
ring_begin first plan DataRing = first
ring_begin first plan IndexRing = first + plan.data_blocks
ring_begin first plan VarRing = first + plan.data_blocks + plan.index_blocks
ring_begin first plan LogRing = first + plan.data_blocks + plan.index_blocks + plan.var_blocks

-- the flash page at which a page number stands
abbrev pub place_in : ℕ → Plan → RingName → ℕ → ℕ
place_in first plan ring number =
    let shape = shape_of plan ring in ring_begin first plan ring * shape.pages + number % (shape.blocks * shape.pages)

-- the bytes at the place of a page number
abbrev pub bytes_in : (ℕ → List ℕ) → ℕ → Plan → RingName → ℕ → List ℕ
bytes_in page first plan ring number = page (place_in first plan ring number)

-- the pages of a table's rings; it has no log
pub record HoldsTable (page : ℕ → List ℕ) (first : ℕ) (plan : Plan) (table : Table) : Type 0 where
  pub rows : IsRingImage (shape_of plan DataRing) table.rows (bytes_in page first plan DataRing) (HoldsRows plan table)
  pub index : IfSome table.index (λ ring. IsRingImage (shape_of plan IndexRing) ring (bytes_in page first plan IndexRing) (HoldsEntries plan table ring))
  pub var : IfSome table.var (λ ring. IsRingImage (shape_of plan VarRing) ring (bytes_in page first plan VarRing) (HoldsContent table ring))

-- a flash stands for a table that isn't mounted
pub record Rests (f : FlashState) (first : ℕ) (plan : Plan) (table : Table) : Type 0 where
  pub settled : IsSettled plan table
  pub pages : HoldsTable (page_at f) first plan table

-- .. or for one that a mount may be given, of which less may hold than each run keeps
pub record RestsToMount (f : FlashState) (first : ℕ) (plan : Plan) (table : Table) : Type 0 where
  pub mountable : IsMountable plan table
  pub pages : HoldsTable (page_at f) first plan table

-- the pages of each ring that were kept and still are have the bytes that they had
pub record KeptStand (first : ℕ) (plan : Plan) (before after : Table) (old new : ℕ → List ℕ) : Type 0 where
  pub rows : PagesStand before.rows (bytes_in old first plan DataRing) after.rows (bytes_in new first plan DataRing)
  pub index : (a b : Ring) → before.index ≡ Some a → after.index ≡ Some b → PagesStand a (bytes_in old first plan IndexRing) b (bytes_in new first plan IndexRing)
  pub var : (a b : Ring) → before.var ≡ Some a → after.var ≡ Some b → PagesStand a (bytes_in old first plan VarRing) b (bytes_in new first plan VarRing)
