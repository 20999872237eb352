-- How many reads it takes to find an index.
use Rattle.std.proofs.Common.{◌≡◌, ℕ, ◌+◌, ◌-◌, ◌*◌, ◌≤◌, Bool, true, false, cond, Option, Some, None, Result, Ok, Err, IsTrue, ap, arith}
use Rattle.std.specs.Prelude.{IfOk, OnOk, option_map, unwrap_or}
use Rattle.fl_flash.specs.Flash.{FlashState}
use Rattle.fl_frame.specs.Reads.{FewReads}
use Rattle.fl_index.specs.Finding.{FindsEnd}
use Rattle.fl_index.specs.Memory.{next_in, oldest_in, ring_shape}
use Rattle.fl_index.specs.declared.index.BitmapIndex.{BitmapIndex}
use Rattle.fl_ring.proofs.NewestPages.{ring_few}
use Rattle.fl_index.proofs.MountCalls.{four-each}
use Rattle.fl_ring.specs.Mounting.{search_reads}
use Rattle.fl_ring.specs.Place.{next_of, oldest_of}
use Rattle.fl_ring.specs.Repairing.{Beside}
use Rattle.fl_ring.specs.Ring.{room}
use Rattle.fl_ring.specs.declared.ring.Ring.{Ring}
use Rattle.fl_parts.specs.Bitmaps.{AreSamePlan, room_of}
use Rattle.fl_parts.specs.Coming.{index_pages_of}
use Rattle.fl_parts.specs.IndexMount.{FindsBy, FindsBitmaps}

-- the ring of an index that was found keeps no more pages than it has
kept-within : (index now : BitmapIndex) (f g : FlashState) (end : Option ℕ) (full : Bool) → FindsEnd index f end now g → IsTrue f.media.tells → cond full (next_in now - oldest_in now) 0 ≤ index.place.blocks * index.geometry.block
kept-within index now f g end full found told =
    let few = ring_few f g (ring_shape index) 0 found.ring (omega (arith, index.some_blocks)) found.numbers told in
    let next : next_in now ≡ next_of found.ring = ap (λ (o : Option Ring). unwrap_or (option_map (λ ring. next_of ring) o) 0) found.ring_is in
    let oldest : oldest_in now ≡ oldest_of found.ring = ap (λ (o : Option Ring). unwrap_or (option_map (λ ring. oldest_of ring) o) 0) found.ring_is in
    by_form full (omega (arith, few, next, oldest))
  where
    by_form : (b : Bool) → next_in now - oldest_in now ≤ index.place.blocks * index.geometry.block → cond b (next_in now - oldest_in now) 0 ≤ index.place.blocks * index.geometry.block
    by_form true le = le
    by_form false le = omega arith

pub index-within : (was now : Option BitmapIndex) (f g : FlashState) (end : Option ℕ) → AreSamePlan was now → FindsBitmaps was f end now g → IsTrue f.media.tells → index_pages_of now ≤ room_of was
index-within None None f g end same found told = omega arith
index-within None (Some now) f g end same found told = absurd found
index-within (Some was) None f g end same found told = absurd found
index-within (Some was) (Some now) f g end same found told = by_form was.full same.full found
  where
    by_form : (b : Bool) → now.full ≡ b → FindsBy b was f end now g → index_pages_of (Some now) ≤ room_of (Some was)
    by_form true e h = kept-within was now f g end now.full h told
    by_form false e h = let k = ap (λ (b : Bool). cond b (next_in now - oldest_in now) 0) e in omega (arith, k)

-- the index was found, and the other parts of a mount came then
pub reads-joined : (index kept rows blobs : ℕ) (old mid new : FlashState) → kept ≤ index → FewReads (4 * index - kept) old mid → FewReads (4 * (rows + blobs) + kept) mid new → FewReads (4 * (rows + index + blobs)) old new
reads-joined index kept rows blobs old mid new within first then = record {
  reads = omega (arith, within, first.reads, then.reads);
  media_reads = omega (arith, within, first.media_reads, then.media_reads);
}

module _ (index now : BitmapIndex) (f g : FlashState) (beside : Beside (ring_shape index) (search_reads (ring_shape index) + (ring_shape index).per_block) 1 1 f g) where
  all : index.place.blocks + index.geometry.block + index.place.blocks * index.geometry.block + index.geometry.block + index.place.blocks * index.geometry.block ≤ 4 * (index.place.blocks * index.geometry.block)
  all = four-each index.place.blocks index.geometry.block index.some_blocks index.served.block_least

  pub found-few : FewReads (4 * room (ring_shape index)) f g
  found-few = record { reads = omega (arith, beside.few_reads, all); media_reads = omega (arith, beside.media_reads, all) }

  -- so its kept pages can be read once more
  pub found-spared : (end : Option ℕ) → FindsEnd index f end now g → IsTrue f.media.tells → FewReads (4 * room (ring_shape index) - cond now.full (next_in now - oldest_in now) 0) f g
  found-spared end found told =
      let kept = kept-within index now f g end now.full found told in
      record { reads = omega (arith, beside.few_reads, all, kept); media_reads = omega (arith, beside.media_reads, all, kept) }

pub ok-then : {T E Q : Type 0} (r : Result T E) (P : T → Type 0) → IfOk r P → ((x : T) → P x → Q) → OnOk r Q
ok-then (Ok x) P p f = f x p
ok-then (Err e) P p f = tt
