use Rattle.std.proofs.Common.{refl}
use Rattle.fl_config.proofs.Told.{meets, misses}
use Rattle.fl_config.proofs.words.TableWords.check_numbers.Goals as goal

pub returns-then-not-are_blocks-clause-refusal : goal.returns-then-not-are_blocks-clause-refusal
returns-then-not-are_blocks-clause-refusal c = rw (meets _ c.are_blocks.ensures c.if-not-are_blocks.true) refl

pub returns-then-not-is_ring-2-clause-refusal : goal.returns-then-not-is_ring-2-clause-refusal
returns-then-not-is_ring-2-clause-refusal c = rw (misses _ c.are_blocks.ensures c.if-not-are_blocks.false, misses _ c.is_ring.ensures c.if-not-is_ring.false, meets _ c.is_ring-2.ensures c.if-not-is_ring-2.true) refl

pub returns-then-not-has_bits-clause-refusal : goal.returns-then-not-has_bits-clause-refusal
returns-then-not-has_bits-clause-refusal c =
    rw (misses _ c.are_blocks.ensures c.if-not-are_blocks.false, misses _ c.is_ring.ensures c.if-not-is_ring.false, misses _ c.is_ring-2.ensures c.if-not-is_ring-2.false, meets _ c.has_bits.ensures c.if-not-has_bits.true)
    refl

pub has_room_for_blobs-requires-clause-within : goal.has_room_for_blobs-requires-clause-within
has_room_for_blobs-requires-clause-within c = c.requires
