-- What a flush programs, over any bytes.
use Rattle.std.specs.Prelude.{◌≡◌, ℕ, ◌+◌, ◌≤◌, IfSome, IsTrue, Option, List, length}
use Rattle.fl_flash.specs.Flash.{FlashState, page_at}
use Rattle.fl_index.specs.Memory as memory
use Rattle.fl_model.specs.Layout.{rows_body}
use Rattle.fl_model.specs.Row.{Row}
use Rattle.fl_ring.specs.Ring.{place}
use Rattle.fl_ring.specs.Written.{Writes, sealed_over, MaySealIn}
use Rattle.fl_schema.specs.Schema.{layout_of}
use Rattle.fl_parts.specs.Bitmaps as bitmaps
use Rattle.fl_parts.specs.Bitmaps.{IsOutside}
use Rattle.fl_parts.specs.Blobs.{most_pages, MayFill}
use Rattle.fl_table.specs.Memory.{next_in, ring_shape, MayPut, MaySeal, PendingAre}
use Rattle.fl_table.specs.Mounting.{rings_in}
use Rattle.fl_table.specs.declared.table.Table.{Table}
use Rattle.fl_var.specs.Ahead.{AheadBlank}
use Rattle.fl_var.specs.Memory.{bytes_page, var_shape, waiting_in, BytesAhead, BytesPaged}

-- the flash page that the pending rows are for
abbrev pub next_page : {KNOTS SLOTS : ℕ} → Table KNOTS SLOTS → ℕ
next_page t = place (ring_shape t) (next_in t)

-- a flash page that isn't one of the index, nor one of the variable data
pub record IsApart {KNOTS SLOTS : ℕ} (t : Table KNOTS SLOTS) (page : ℕ) : Type 0 where
  pub index : IfSome t.bitmaps (λ index. IsOutside (memory.ring_shape index) page)
  pub blobs : IfSome t.blobs (λ var. IsOutside (var_shape var) page)

-- The body that the pending rows make, and the mark of a commit, were programmed over what their page held.
abbrev pub RowsPaged : {KNOTS SLOTS : ℕ} → Table KNOTS SLOTS → (ℕ → List ℕ) → (ℕ → List ℕ) → Type 0
RowsPaged t old new = (rows : List Row) → PendingAre t rows →
    new (next_page t) ≡ sealed_over (ring_shape t) (rows_body (length t.writer.body) (layout_of t.schema) (next_in t) t.bitmap rows) (old (next_page t))

-- the bytes of blobs that waited were programmed over what their page held, where no seal of another ring may change it
abbrev pub BlobsPaged : {KNOTS SLOTS : ℕ} → Table KNOTS SLOTS → FlashState → FlashState → Type 0
BlobsPaged t f g = IfSome t.blobs (λ var. 1 ≤ length (waiting_in var) → IsTrue f.media.tells → (bitmaps.MaySeal t.bitmaps (bytes_page var) → ⊥) → (MaySealIn t.ring (bytes_page var) → ⊥) → BytesPaged var (page_at f) (page_at g))

-- where the oldest block of the data ring goes with the seal of the pending rows, the block ahead is blank then, but for the pages that may have changed since
abbrev pub RowsAhead : {KNOTS SLOTS : ℕ} → Table KNOTS SLOTS → (ℕ → Type 0) → (ℕ → List ℕ) → Type 0
RowsAhead t Changed new = AheadBlank t.ring Changed new

-- .. and that of the bytes of blobs that waited, where the seal of the rows may not change it
abbrev pub BlobsAhead : {KNOTS SLOTS : ℕ} → Table KNOTS SLOTS → FlashState → FlashState → Type 0
BlobsAhead t f g = IfSome t.blobs (λ var. 1 ≤ length (waiting_in var) → IsTrue f.media.tells → BytesAhead var (MaySealIn t.ring) (page_at g))

-- The pending rows were flushed: a seal of each ring was tried at most, one was whole, and where it is in no other ring their page
-- was programmed with them, and that of the bytes of blobs before. The blocks ahead were erased where the oldest ones go.
pub record HasFlushed {KNOTS SLOTS : ℕ} (t : Table KNOTS SLOTS) (f g : FlashState) : Type 0 where
  pub writes : Writes (MaySeal t) 1 (rings_in t) f g
  pub page : IsTrue f.media.tells → IsApart t (next_page t) → RowsPaged t (page_at f) (page_at g)
  pub blobs : BlobsPaged t f g
  pub ahead : IsTrue f.media.tells → RowsAhead t (λ page. ⊥) (page_at g)
  pub blobs_ahead : BlobsAhead t f g

-- A put found the page of pending rows full: they were flushed so, and nothing behind it changed their page.
pub record HasMadePage {KNOTS SLOTS : ℕ} (t : Table KNOTS SLOTS) (blob : Option (List ℕ)) (f g : FlashState) : Type 0 where
  pub writes : Writes (MayPut t blob) 1 (rings_in t + most_pages t.blobs blob) f g
  pub page : IsTrue f.media.tells → IsApart t (next_page t) → RowsPaged t (page_at f) (page_at g)
  pub ahead : IsTrue f.media.tells → RowsAhead t (MayFill blob t.blobs) (page_at g)
