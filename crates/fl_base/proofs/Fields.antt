-- A number that is put into a slice is read there again, and the bytes outside stay.
use Rattle.std.proofs.Common.{◌≡◌, ◌⊎◌, ℕ, ◌+◌, ◌^◌, ◌<◌, ◌≤◌, List, length, refl, sym, ◌∙◌, ap, subst, arith}
use Rattle.std.proofs.lemmas.Nat.{from_le_bytes-to_le_bytes_2, from_le_bytes-to_le_bytes_4, from_le_bytes-to_le_bytes_8}
use Rattle.std.specs.Int.{Width, w16, w32, w64, to_le_bytes, from_le_bytes}
use Rattle.fl_base.specs.Bytes.{splice}
use Rattle.fl_base.specs.Fields.{PutIsRead}
use Rattle.fl_base.proofs.Ranges.{length-splice, slice-splice, slice-splice_outside}

of_bytes : (width : Width) (count : ℕ) (bytes : List ℕ) (at v : ℕ) (field : List ℕ) → length field ≡ count → at + count ≤ length bytes
    → from_le_bytes width field ≡ v → PutIsRead width count bytes at v (splice bytes at field)
of_bytes width count bytes at v field size le reads = record {
  read = ap (λ (l : List ℕ). from_le_bytes width l) (slice-splice bytes at field (at + count) (omega arith) (omega arith)) ∙ reads;
  size = length-splice bytes at field (omega arith);
  outside = λ i j apart. slice-splice_outside bytes at field i j (omega arith) (subst (λ (n : ℕ). j ≤ at ⊎ at + n ≤ i) (sym size) apart);
}

pub two_read : (bytes : List ℕ) (at v : ℕ) → at + 2 ≤ length bytes → v < 2 ^ 16 → PutIsRead w16 2 bytes at v (splice bytes at (to_le_bytes w16 v))
two_read bytes at v le fits = of_bytes w16 2 bytes at v (to_le_bytes w16 v) refl le (from_le_bytes-to_le_bytes_2 v fits)

pub four_read : (bytes : List ℕ) (at v : ℕ) → at + 4 ≤ length bytes → v < 2 ^ 32 → PutIsRead w32 4 bytes at v (splice bytes at (to_le_bytes w32 v))
four_read bytes at v le fits = of_bytes w32 4 bytes at v (to_le_bytes w32 v) refl le (from_le_bytes-to_le_bytes_4 v fits)

pub eight_read : (bytes : List ℕ) (at v : ℕ) → at + 8 ≤ length bytes → v < 2 ^ 64 → PutIsRead w64 8 bytes at v (splice bytes at (to_le_bytes w64 v))
eight_read bytes at v le fits = of_bytes w64 8 bytes at v (to_le_bytes w64 v) refl le (from_le_bytes-to_le_bytes_8 v fits)
