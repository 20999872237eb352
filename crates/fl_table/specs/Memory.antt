-- What clauses see of a table in memory.
use Rattle.std.specs.Prelude.{◌≡◌, ◌⊎◌, ℕ, ◌+◌, ◌*◌, ◌%◌, ◌^◌, ◌<◌, ◌≤◌, Bool, false, ◌||◌, Option, Some, None, List, [], is_some, option_map, unwrap_or, map, length, slice_get, slice_index}
use Rattle.std.specs.Option.{ForSome}
use Rattle.fl_bitmap.specs.Bucket.{HasBuckets}
use Rattle.fl_find.specs.Index.{IndexOf, error_in}
use Rattle.fl_flash.specs.Flash.{FlashState, pages}
use Rattle.fl_model.specs.Record.{Plan, RowLayout, row_layout, layout_len}
use Rattle.fl_model.specs.Ring as rings
use Rattle.fl_model.specs.Row.{Row, stored_row}
use Rattle.fl_model.specs.Spline.{voids_of}
use Rattle.fl_model.specs.Layout.{bitmap_of}
use Rattle.fl_model.specs.Table as model
use Rattle.fl_model.specs.Table.{pending_entries, last_entry, end_of_blobs}
use Rattle.fl_page.specs.Writer.{Gathers}
use Rattle.fl_ring.specs.declared.ring.Ring.{Ring}
use Rattle.fl_ring.specs.Mounting.{shape_at}
use Rattle.fl_ring.specs.Place.{next_of, oldest_of}
use Rattle.fl_ring.specs.Place as place
use Rattle.fl_ring.specs.Ring.{Shape}
use Rattle.fl_ring.specs.Written.{MaySealIn}
use Rattle.fl_schema.specs.Schema.{layout_of}
use Rattle.fl_parts.specs.Bitmaps as bitmaps
use Rattle.fl_parts.specs.Bitmaps.{ArePlanned, AreSamePlan, LieOn}
use Rattle.fl_parts.specs.Blobs as variable
use Rattle.fl_table.specs.declared.table.Table.{Table}

-- an operation failed since the last mount
abbrev pub is_stopped : {KNOTS SLOTS : ℕ} → Table KNOTS SLOTS → Bool
is_stopped t = t.stopped

-- the last mount succeeded, and no operation failed since
abbrev pub is_running : {KNOTS SLOTS : ℕ} → Table KNOTS SLOTS → Bool
is_running t = is_some t.ring

-- the last mount succeeded
abbrev pub is_mounted : {KNOTS SLOTS : ℕ} → Table KNOTS SLOTS → Bool
is_mounted t = is_running t || is_stopped t

-- the next number of a running table
abbrev pub next_in : {KNOTS SLOTS : ℕ} → Table KNOTS SLOTS → ℕ
next_in t = unwrap_or (option_map (λ ring. next_of ring) t.ring) 0

-- how many rows are pending
abbrev pub pending_in : {KNOTS SLOTS : ℕ} → Table KNOTS SLOTS → ℕ
pending_in t = t.writer.count

-- these rows are pending, by their bytes in the page buffer
abbrev pub PendingAre : {KNOTS SLOTS : ℕ} → Table KNOTS SLOTS → List Row → Type 0
PendingAre t rows = Gathers (layout_of t.schema) rows t.writer

-- the page buffer has room for one row more
abbrev pub HasRoom : {KNOTS SLOTS : ℕ} → Table KNOTS SLOTS → Type 0
HasRoom t = t.writer.end + layout_len (layout_of t.schema) ≤ length t.writer.body

-- where the data ring of a table stands
abbrev pub ring_shape : {KNOTS SLOTS : ℕ} → Table KNOTS SLOTS → Shape
ring_shape t = shape_at t.place t.geometry

-- The flash pages that a seal changes, of each ring of which a page is due at most that page and, where its oldest block goes,
-- those of the block ahead.
abbrev pub MaySeal : {KNOTS SLOTS : ℕ} → Table KNOTS SLOTS → ℕ → Type 0
MaySeal t page = MaySealIn t.ring page ⊎ (bitmaps.MaySeal t.bitmaps page ⊎ variable.MaySeal t.blobs page)

-- .. and a put: these where the page of pending rows is full, and those that its blob may fill
abbrev pub MayPut : {KNOTS SLOTS : ℕ} → Table KNOTS SLOTS → Option (List ℕ) → ℕ → Type 0
MayPut t blob page = ((HasRoom t → ⊥) × MaySeal t page) ⊎ variable.MayFill blob t.blobs page

-- a table of this plan, whose blocks begin at `first`
pub record IsPlanned {KNOTS SLOTS : ℕ} (t : Table KNOTS SLOTS) (first : ℕ) (plan : Plan) : Type 0 where
  pub geometry : plan.geometry ≡ t.geometry
  pub layout : row_layout plan ≡ layout_of t.schema
  pub begins : t.place.first_block ≡ first
  pub blocks : plan.data_blocks ≡ t.place.blocks
  pub index : ArePlanned t.bitmaps (first + plan.data_blocks) plan
  pub var : variable.ArePlanned t.blobs (first + plan.data_blocks + plan.index_blocks) plan
  pub limit : plan.blob_limit ≡ t.blob_limit
  pub buckets : HasBuckets plan t.buckets
  pub error : plan.error ≡ error_in t.index
  -- it has no log
  pub log : plan.log_blocks ≡ 0

-- what no call changes
pub record IsSamePlan {KNOTS SLOTS : ℕ} (old new : Table KNOTS SLOTS) : Type 0 where
  pub geometry : new.geometry ≡ old.geometry
  pub layout : layout_of new.schema ≡ layout_of old.schema
  pub place : new.place ≡ old.place
  pub buckets : new.buckets ≡ old.buckets
  pub error : error_in new.index ≡ error_in old.index
  pub bitmaps : AreSamePlan old.bitmaps new.bitmaps
  pub blobs : variable.AreSamePlan old.blobs new.blobs
  pub limit : new.blob_limit ≡ old.blob_limit

-- what a read of the kept pages leaves as it is
pub record IsSameRest {KNOTS SLOTS : ℕ} (old new : Table KNOTS SLOTS) : Type 0 where
  pub ring : new.ring ≡ old.ring
  pub stopped : new.stopped ≡ old.stopped
  pub writer : new.writer ≡ old.writer
  pub bitmap : new.bitmap ≡ old.bitmap
  pub blob_end : new.blob_end ≡ old.blob_end
  pub blobs : new.blobs ≡ old.blobs

-- nothing is in memory, as before the first mount
pub record IsForgotten {KNOTS SLOTS : ℕ} (t : Table KNOTS SLOTS) : Type 0 where
  pub down : t.ring ≡ None
  pub calm : t.stopped ≡ false
  pub none : t.writer.count ≡ 0
  pub last : t.last_key ≡ None
  pub empty : (layout : RowLayout) → Gathers layout [] t.writer
  pub bits : t.bitmap ≡ 0
  pub ends : t.blob_end ≡ 0
  pub index : IndexOf (error_in t.index) [] t.index

-- Nothing waits in memory: no row is pending, with a bitmap and an end of its blobs, so that the page buffer is blank behind its
-- header, and no byte of a blob. What the header holds isn't told: a seal writes it.
pub record NothingWaits {KNOTS SLOTS : ℕ} (t : Table KNOTS SLOTS) : Type 0 where
  pub none : pending_in t ≡ 0
  pub rows : PendingAre t []
  pub bits : t.bitmap ≡ 0
  pub ends : t.blob_end ≡ 0
  pub blobs : variable.AreEmpty t.blobs

-- a flash on which the table lies
pub record LiesOn {KNOTS SLOTS : ℕ} (t : Table KNOTS SLOTS) (f : FlashState) : Type 0 where
  pub geometry : f.geometry ≡ t.geometry
  pub within : t.place.first_block + t.place.blocks ≤ f.blocks
  pub few : pages f < 2 ^ 32
  pub ring : ForSome t.ring (λ r. place.LiesOn r f)
  pub bitmaps : LieOn t.bitmaps f
  pub blobs : variable.LieOn t.blobs f

-- two tables of the model whose data pages, index and points are the same
pub record IsSameBeside (table new : model.Table) : Type 0 where
  pub rows : new.rows ≡ table.rows
  pub points : new.points ≡ table.points

-- what a table with this ring holds in memory of a table of the model, beside its pages
pub record HoldsInMemory {KNOTS SLOTS : ℕ} (t : Table KNOTS SLOTS) (ring : Ring) (plan : Plan) (table : model.Table) : Type 0 where
  pub next : next_of ring ≡ table.rows.next
  pub oldest : oldest_of ring ≡ rings.oldest table.rows
  pub gathers : Gathers (layout_of t.schema) (map stored_row (pending_entries table)) t.writer
  pub bitmap : t.bitmap ≡ bitmap_of plan (pending_entries table)
  pub blob_end : t.blob_end ≡ end_of_blobs (pending_entries table)
  pub last : t.last_key ≡ option_map (λ entry. entry.kept.key) (last_entry table)
  pub counts : (i count : ℕ) → slice_get table.rows.counts i ≡ Some count →
      slice_index t.counts.items ((rings.oldest table.rows + i) % (plan.data_blocks * plan.geometry.block)) ≡ count
  pub voids : t.voids ≡ voids_of table
  pub index : IndexOf plan.error table.points t.index

-- a running table holds in memory what a table of the model has beside its pages
pub record InMemory {KNOTS SLOTS : ℕ} (t : Table KNOTS SLOTS) (plan : Plan) (table : model.Table) : Type 0 where
  pub ring : Ring
  pub ring_is : t.ring ≡ Some ring
  pub next : next_of ring ≡ table.rows.next
  pub oldest : oldest_of ring ≡ rings.oldest table.rows
  pub gathers : Gathers (layout_of t.schema) (map stored_row (pending_entries table)) t.writer
  pub bitmap : t.bitmap ≡ bitmap_of plan (pending_entries table)
  pub blob_end : t.blob_end ≡ end_of_blobs (pending_entries table)
  pub last : t.last_key ≡ option_map (λ entry. entry.kept.key) (last_entry table)
  pub counts : (i count : ℕ) → slice_get table.rows.counts i ≡ Some count →
      slice_index t.counts.items ((rings.oldest table.rows + i) % (plan.data_blocks * plan.geometry.block)) ≡ count
  pub voids : t.voids ≡ voids_of table
  pub index : IndexOf plan.error table.points t.index
