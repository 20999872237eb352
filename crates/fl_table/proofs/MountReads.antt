-- How many reads a mount makes.
use Rattle.std.proofs.Common.{◌≡◌, ℕ, ◌+◌, ◌-◌, ◌*◌, ◌≤◌, ap, subst, arith, IsTrue}
use Rattle.fl_flash.specs.Flash.{FlashState}
use Rattle.fl_frame.specs.Reads.{OnlyReads, FewReads}
use Rattle.fl_ring.specs.Mounting.{shape_at, search_reads, HasNumbers}
use Rattle.fl_ring.specs.Place.{next_of, oldest_of}
use Rattle.fl_ring.specs.Repairing.{Beside}
use Rattle.fl_ring.specs.Ring.{Shape, room}
use Rattle.fl_ring.specs.declared.ring.Ring.{Ring}
use Rattle.fl_index.proofs.MountCalls.{four-each}
use Rattle.fl_ring.proofs.NewestPages.{ring_few}
use Rattle.fl_table.specs.Memory.{ring_shape, IsSamePlan}
use Rattle.fl_table.specs.declared.table.Table.{Table}
use Rattle.fl_table.proofs.MountCalls.{same-shape}

pub kept-room : {KNOTS SLOTS : ℕ} (old new : Table KNOTS SLOTS) (f mid : FlashState) → IsSamePlan old new → f.geometry ≡ old.geometry → (least : ℕ) (ring : Ring) → HasNumbers f (shape_at new.place f.geometry) least ring mid → IsTrue f.media.tells → next_of ring - oldest_of ring ≤ room (ring_shape old)
kept-room old new f mid same geometry least ring numbers told =
    ring_few f mid (shape_at old.place old.geometry) least ring (omega (arith, old.some_blocks)) (subst (λ (r : Shape). HasNumbers f r least ring mid) (same-shape old new f same geometry) numbers) told

module _ {KNOTS SLOTS : ℕ} (old new : Table KNOTS SLOTS) (f mid : FlashState) (same : IsSamePlan old new) (geometry : f.geometry ≡ old.geometry)
    (beside : Beside (shape_at new.place f.geometry) (search_reads (shape_at new.place f.geometry) + f.geometry.block) 1 1 f mid) where
  searched : Beside (shape_at old.place old.geometry) (search_reads (shape_at old.place old.geometry) + old.geometry.block) 1 1 f mid
  searched =
      subst (λ (n : ℕ). Beside (shape_at old.place old.geometry) (search_reads (shape_at old.place old.geometry) + n) 1 1 f mid) (ap (λ g. g.block) geometry)
      (subst (λ (r : Shape). Beside r (search_reads r + f.geometry.block) 1 1 f mid) (same-shape old new f same geometry) beside)

  all : old.place.blocks + old.geometry.block + old.place.blocks * old.geometry.block + old.geometry.block + old.place.blocks * old.geometry.block ≤ 4 * (old.place.blocks * old.geometry.block)
  all = four-each old.place.blocks old.geometry.block old.some_blocks old.served.block_least

  pub few-first : (pages : ℕ) → FewReads (4 * (old.place.blocks * old.geometry.block) + pages) f mid
  few-first pages = record { reads = omega (arith, searched.few_reads, all); media_reads = omega (arith, searched.media_reads, all) }

  -- .. and so many pages of another ring
  pub few-all : (least pages : ℕ) (ring : Ring) (g : FlashState) → HasNumbers f (shape_at new.place f.geometry) least ring mid → OnlyReads mid (pages + (next_of ring - oldest_of ring)) g → IsTrue f.media.tells →
      FewReads (4 * (old.place.blocks * old.geometry.block) + pages) f g
  few-all least pages ring g numbers reads told =
      let few = ring_few f mid (shape_at old.place old.geometry) least ring (omega (arith, old.some_blocks)) (subst (λ (r : Shape). HasNumbers f r least ring mid) (same-shape old new f same geometry) numbers) told in
      record {
        reads = omega (arith, searched.few_reads, reads.reads, few, all);
        media_reads = omega (arith, searched.media_reads, reads.media_reads, few, all);
      }
