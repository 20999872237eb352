-- Numbers and values in bytes, and back.
use Rattle.std.proofs.Common.{◌≡◌, ℕ, zero, suc, ◌+◌, ◌-◌, ◌*◌, ◌^◌, ◌<◌, ◌≤◌, true, ℤ, pos, negsuc, Option, Some, None, List, [], ◌∷◌, ◌++◌, length, take, drop, slice_range, get_or, refl, sym, ap, ◌∙◌, arith, length-append, length-take, length-drop, inl, inr, lit≤}
use Rattle.std.proofs.lemmas.Bool.{cases_lt}
use Rattle.std.proofs.Math.Nat.{pow-le-pow_right}
use Rattle.std.proofs.lemmas.List.{take_at, take_all, drop_all, drop-drop, append-nil, length-take-le, get_or-take, get_or-drop, get_or_past}
use borrow.Rule.Slice.PartMut.{put_mid}
use Rattle.std.specs.Int.{w64, cast_unsigned, cast_signed}
use Rattle.std.specs.Prelude.{FitsSigned}
use Rattle.std.proofs.lemmas.Int.{to_z-of_z}
use Rattle.byteorder.specs.Endian.{little_number, low_bytes}
use Rattle.byteorder.specs.Numbers.{little_from-cons, little_from-lt, little_number-reads_back, length-bytes_low_first}
use Rattle.fl_base.specs.Bytes.{splice}
use Rattle.fl_base.specs.declared.types.BlobRef.{BlobRef}
use Rattle.fl_model.specs.Record.{fits}
use Rattle.fl_model.specs.Row.{le, reference_bytes, value_bytes, value_in, number_of}
use Rattle.fl_schema.specs.Types.{column_of}
use Rattle.fl_schema.specs.declared.column.ColumnType.{ColumnType}
use Rattle.fl_schema.specs.declared.column.ColumnType.TheVariants.{U8, I8, U16, I16, U32, I32, I64}

-- the number in the first bytes
pub little_number_is : (n : ℕ) (bytes : List ℕ) → n ≤ length bytes → little_number n bytes ≡ number_of (take n bytes)
little_number_is zero bytes h = refl
little_number_is (suc n) [] h = absurd (omega arith)
little_number_is (suc n) (byte ∷ bytes) h =
    ap (λ (r : ℕ). byte + 256 * r) (little_from-cons 0 n byte bytes ∙ little_number_is n bytes (omega arith))

pub length-le : (count n : ℕ) → length (le count n) ≡ count
length-le count n = length-bytes_low_first 0 count n

-- a number is read again from its bytes
pub number_of-le : (count n : ℕ) → n < 256 ^ count → number_of (le count n) ≡ n
number_of-le count n h =
    ap number_of (sym (take_at (le count n) [] count (length-le count n)))
    ∙ sym (little_number_is count (le count n ++ []) (omega (arith, length-append (le count n) [], length-le count n)))
    ∙ little_number-reads_back count n [] h

pub length-value_bytes : (of : ColumnType) (value : ℤ) → length (value_bytes (column_of of) value) ≡ (column_of of).width
length-value_bytes of (pos n) = length-le (column_of of).width n
length-value_bytes of (negsuc n) = length-le (column_of of).width (2 ^ (8 * (column_of of).width) - 1 - n)

pub length-reference_bytes : (blob : Option BlobRef) → length (reference_bytes blob) ≡ 10
length-reference_bytes None = refl
length-reference_bytes (Some blob) = refl

-- the low bytes of a value that fits are those of its column
pub low_bytes_are : (of : ColumnType) (value : ℤ) → fits (column_of of) value ≡ true → le (column_of of).width (low_bytes w64 (column_of of).width value) ≡ value_bytes (column_of of) value
low_bytes_are U8 (pos n) h = ap (le 1) (grind arith)
low_bytes_are U8 (negsuc n) h = ap (le 1) (grind arith)
low_bytes_are I8 (pos n) h = ap (le 1) (grind arith)
low_bytes_are I8 (negsuc n) h = ap (le 1) (grind arith)
low_bytes_are U16 (pos n) h = ap (le 2) (grind arith)
low_bytes_are U16 (negsuc n) h = ap (le 2) (grind arith)
low_bytes_are I16 (pos n) h = ap (le 2) (grind arith)
low_bytes_are I16 (negsuc n) h = ap (le 2) (grind arith)
low_bytes_are U32 (pos n) h = ap (le 4) (grind arith)
low_bytes_are U32 (negsuc n) h = ap (le 4) (grind arith)
low_bytes_are I32 (pos n) h = ap (le 4) (grind arith)
low_bytes_are I32 (negsuc n) h = ap (le 4) (grind arith)
low_bytes_are I64 (pos n) h = ap (le 8) (grind arith)
low_bytes_are I64 (negsuc n) h = ap (le 8) (grind arith)

-- after a value was written to w bytes of a slice
pub written : (of : ColumnType) (value : ℤ) (w at : ℕ) (old new : List ℕ) → (column_of of).width ≡ w → FitsSigned w64 value → fits (column_of of) value ≡ true → at + (column_of of).width ≤ length old
    → new ≡ le w (low_bytes w64 w (cast_signed w64 (cast_unsigned w64 value))) ++ drop w (slice_range old at (at + w)) → put_mid at (at + w - at) old new ≡ splice old at (value_bytes (column_of of) value)
written of value w at old new width word fit room is =
    let bytes = value_bytes (column_of of) value in
    let len : length (value_bytes (column_of of) value) ≡ w = length-value_bytes of value ∙ width in
    let same : le w (low_bytes w64 w (cast_signed w64 (cast_unsigned w64 value))) ≡ bytes = ap (λ (v : ℤ). le w (low_bytes w64 w v)) (to_z-of_z w64 value word) ∙ ap (λ (k : ℕ). le k (low_bytes w64 k value)) (sym width) ∙ low_bytes_are of value fit in
    let short : length (slice_range old at (at + w)) ≤ w = omega (arith, length-take (at + w - at) (drop at old)) in
    let whole : new ≡ bytes = is ∙ ap (λ (l : List ℕ). l ++ drop w (slice_range old at (at + w))) same ∙ ap (λ (l : List ℕ). bytes ++ l) (drop_all w (slice_range old at (at + w)) short) ∙ append-nil bytes in
    ap (λ (l : List ℕ). take at old ++ (l ++ drop (at + w - at) (drop at old))) whole
    ∙ ap (λ (l : List ℕ). take at old ++ (bytes ++ l)) (drop-drop (at + w - at) at old ∙ ap (λ (k : ℕ). drop k old) (omega (arith, len)))

-- the number in a part of w bytes
pub number_read : (w at : ℕ) (bytes : List ℕ) → at + w ≤ length bytes → little_number w (slice_range bytes at (at + w)) ≡ number_of (slice_range bytes at (at + w))
number_read w at bytes room =
    let len : length (slice_range bytes at (at + w)) ≡ w = length-take-le (at + w - at) (drop at bytes) (omega (arith, length-drop at bytes)) ∙ omega arith in
    little_number_is w (slice_range bytes at (at + w)) (omega arith) ∙ ap number_of (take_all w (slice_range bytes at (at + w)) (omega arith))

-- a number of at most four bytes
pub four_bytes_most : (w at n : ℕ) (bytes : List ℕ) → w ≤ 4 → ((k : ℕ) → get_or bytes k 0 < 256) → n ≡ little_number w (slice_range bytes at (at + w)) → n < 4294967296
four_bytes_most w at n bytes few each is =
    let part : (k : ℕ) → get_or (slice_range bytes at (at + w)) k 0 < 256 = λ k. elim (cases_lt k (at + w - at)) [
      | inl within ↦ rw (get_or-take (at + w - at) (drop at bytes) k 0 within, get_or-drop at bytes k 0) (each (at + k))
      | inr past ↦ rw (get_or_past (slice_range bytes at (at + w)) k 0 (omega (arith, length-take (at + w - at) (drop at bytes)))) (omega arith)
    ] in
    omega (arith, little_from-lt 0 w (slice_range bytes at (at + w)) part, pow-le-pow_right {n = 256} (lit≤ tt) few)

-- a value that was read as that of the type that this one is
pub value_as : (of known : ColumnType) (at : ℕ) (bytes : List ℕ) (value : ℤ) → of ≡ known → FitsSigned w64 value
    → value ≡ value_in (column_of known) (slice_range bytes at (at + (column_of known).width))
    → cast_signed w64 (cast_unsigned w64 value) ≡ value_in (column_of of) (slice_range bytes at (at + (column_of of).width))
value_as of known at bytes value same word is =
    to_z-of_z w64 value word ∙ is ∙ ap (λ (t : ColumnType). value_in (column_of t) (slice_range bytes at (at + (column_of t).width))) (sym same)
