-- What an accepted record leaves of a table in memory, over any bytes.
use Rattle.std.specs.Prelude.{◌≡◌, ℕ, ◌+◌, ◌-◌, ◌%◌, ◌==◌, false, ℤ, pos, Option, Some, IfSome, List, [], ◌∷◌, ◌++◌, length, map, count_by, slice_index, slice_index_or, slice_set}
use Rattle.std.specs.List.{range_with_len}
use Rattle.fl_find.specs.Index.{IndexOf, is_further, knots_in}
use Rattle.fl_model.specs.Row.{Row}
use Rattle.fl_ring.specs.Place.{oldest_after}
use Rattle.fl_spline.specs.Points.{IsFurther}
use Rattle.fl_parts.specs.Bitmaps.{RingGoesOn}
use Rattle.fl_parts.specs.Blobs as variable
use Rattle.fl_parts.specs.Blobs.{HavePlaced, next_after, next_of, placed_in}
use Rattle.fl_table.specs.Look.{last_key_in, oldest_in}
use Rattle.fl_parts.specs.Entries.{bitmap_with}
use Rattle.fl_table.specs.Memory.{next_in, pending_in, HasRoom, IsSamePlan, NothingWaits, PendingAre}
use Rattle.fl_table.specs.declared.table.Table.{Table}

-- what is known of the kept pages stays, and so do the entries that wait for the index
pub record KnowsSame {KNOTS SLOTS : ℕ} (old new : Table KNOTS SLOTS) : Type 0 where
  pub ring : new.ring ≡ old.ring
  pub counts : new.counts ≡ old.counts
  pub voids : new.voids ≡ old.voids
  pub index : new.index ≡ old.index
  pub bitmaps : new.bitmaps ≡ old.bitmaps

-- The record is the last one. Its row is pending behind those that were, with its first value in their bitmap, and refers to where its
-- blob begins, whose bytes wait.
pub record HasJoined {KNOTS SLOTS : ℕ} (old : Table KNOTS SLOTS) (key : ℕ) (values : List ℤ) (blob : Option (List ℕ)) (new : Table KNOTS SLOTS) : Type 0 where
  pub same : IsSamePlan old new
  pub last : last_key_in new ≡ Some key
  pub pending : pending_in new ≡ pending_in old + 1
  pub rows : (rows : List Row) → PendingAre old rows → PendingAre new (rows ++ (record { key = key; values = values; blob = placed_in blob old.blobs }) ∷ [])
  pub bits : new.bitmap ≡ bitmap_with old.buckets old.bitmap (slice_index_or values 0 (pos 0))
  pub known : KnowsSame old new
  pub blobs : HavePlaced blob old.blobs new.blobs

-- how many of the pages from a number to before another one have no rows, by what is noted of each
abbrev pub voids_from : List ℕ → ℕ → ℕ → ℕ
voids_from counts from to = count_by (λ count. count == 0) (map (λ n. slice_index counts (n % length counts)) (range_with_len from (to - from)))

-- The next page has as many rows as were pending, and the void pages that the ring gives up are counted no more. It is learned by the
-- first of its keys, unless that isn't greater than those that were learned.
pub record HasCounted {KNOTS SLOTS : ℕ} (old new : Table KNOTS SLOTS) : Type 0 where
  pub oldest : IfSome old.ring (λ ring. oldest_in new ≡ oldest_after ring)
  pub noted : new.counts.items ≡ slice_set old.counts.items (next_in old % length old.counts.items) (pending_in old)
  pub voids : new.voids ≡ old.voids - voids_from old.counts.items (oldest_in old) (oldest_in new)
  pub learned : (row : Row) (rows : List Row) → PendingAre old (row ∷ rows) → (error : ℕ) (points : List (ℕ × ℕ)) → IndexOf error points old.index → IsFurther points (row.key, next_in old) →
      IndexOf error (points ++ (row.key, next_in old) ∷ []) new.index
  pub left_out : (row : Row) (rows : List Row) → PendingAre old (row ∷ rows) → is_further (knots_in old.index) (row.key, next_in old) ≡ false → new.index ≡ old.index

-- The pending rows were sealed as a page, which is counted: none is left, and the bytes of blobs that waited are on a page too, and a full list
-- of entries. Each ring gave up what it had to.
pub record IsEmptied {KNOTS SLOTS : ℕ} (old new : Table KNOTS SLOTS) : Type 0 where
  pub same : IsSamePlan old new
  pub next : next_in new ≡ next_in old + 1
  pub empty : NothingWaits new
  pub blob_next : next_of new.blobs ≡ next_after old.blobs
  pub blob_oldest : variable.oldest_of new.blobs ≡ variable.oldest_after old.blobs
  pub index : RingGoesOn old.bitmaps new.bitmaps
  pub counted : HasCounted old new

-- A record joins the pending ones where their page has room for it. Else that page is sealed first, and its row is the only one.
pub record Stores {KNOTS SLOTS : ℕ} (old : Table KNOTS SLOTS) (key : ℕ) (values : List ℤ) (blob : Option (List ℕ)) (new : Table KNOTS SLOTS) : Type 0 where
  pub room : HasRoom old → HasJoined old key values blob new
  pub full : (HasRoom old → ⊥) → (between : Table KNOTS SLOTS) × (IsEmptied old between × HasJoined between key values blob new)
