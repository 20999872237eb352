-- The mask of a span has the bucket of each of its values.
use Rattle.std.proofs.Common.{◌≡◌, ℕ, ◌+◌, ◌-◌, ◌≤◌, true, IsTrue, Some, List, [], bit_and, arith, rules, refl, ap, ◌∙◌}
use Rattle.std.specs.Prelude.{ℤ, ◌≤ℤ◌, int_le}
use Rattle.std.specs.Int.{bit_at, IsBitSet}
use Rattle.std.proofs.lemmas.Int.{ints}
use Rattle.fl_base.specs.declared.types.KeyRange.{KeyRange}
use Rattle.fl_base.specs.declared.types.Span.{Span}
use Rattle.fl_model.specs.Record.{Plan}
use Rattle.fl_model.specs.Table.{Entry}
use Rattle.fl_model.specs.Layout.{bitmap_of, bucket_of}
use Rattle.fl_model.specs.Query.{selected}
use Rattle.fl_bitmap.specs.declared.buckets.Buckets.{Buckets}
use Rattle.fl_bitmap.specs.Bucket.{AreBucketsOf, bucket_in, mask_in}
use Rattle.fl_bitmap.specs.Widths.{is_bits}
use Rattle.fl_bitmap.proofs.Masks.{bits_from-at, set-from}
use Rattle.fl_bitmap.proofs.Values.{bucket-le}
use Rattle.fl_bitmap.proofs.Pages.{page-misses}

pub bucket_in-le : (buckets : Buckets) (x y : ℤ) → x ≤ℤ y → bucket_in buckets x ≤ bucket_in buckets y
bucket_in-le buckets x y le = bucket-le x y buckets.base buckets.width (buckets.bits - 1) le

mask-at : (buckets : Buckets) (span : Span) (v : ℤ) → span.low ≤ℤ v → v ≤ℤ span.high → bit_at (mask_in buckets span) (bucket_in buckets v) ≡ 1
mask-at buckets span v from to =
    let some : span.low ≤ℤ span.high = omega (arith, ints, from, to) in
    let is : int_le span.low span.high ≡ true = search (rules, some) in
    let above : bucket_in buckets span.low ≤ bucket_in buckets v = bucket_in-le buckets span.low v from in
    let below : bucket_in buckets v ≤ bucket_in buckets span.high = bucket_in-le buckets v span.high to in
    rw is (bits_from-at (bucket_in buckets span.low) (bucket_in buckets span.high + 1 - bucket_in buckets span.low) (bucket_in buckets v) above (omega (arith, above, below)))

pub mask-bits : (buckets : Buckets) (span : Span) (mask : ℕ) → mask ≡ mask_in buckets span →
    (v : ℤ) → span.low ≤ℤ v → v ≤ℤ span.high → IsBitSet mask (bucket_in buckets v)
mask-bits buckets span mask is v from to =
    set-from mask (bucket_in buckets v) (ap (λ m. bit_at m (bucket_in buckets v)) is ∙ mask-at buckets span v from to)

pub bucket_of-is : (plan : Plan) (buckets : Buckets) (v : ℤ) → AreBucketsOf plan buckets → bucket_of plan v ≡ bucket_in buckets v
bucket_of-is plan buckets v same = rw same.bits (rw same.base (rw same.width refl))

pub mask-misses : (buckets : Buckets) (span : Span) (mask : ℕ) → mask ≡ mask_in buckets span → IsTrue (is_bits buckets.bits) →
    (plan : Plan) (entries : List Entry) (range : KeyRange) → AreBucketsOf plan buckets →
    bit_and (bitmap_of plan entries) mask ≡ 0 → selected range (Some span) entries ≡ []
mask-misses buckets span mask is some plan entries range same none =
    let bits : IsTrue (is_bits plan.bits) = rw same.bits some in
    page-misses plan span mask range entries bits
    (λ v from to. ap (λ k. bit_at mask k) (bucket_of-is plan buckets v same) ∙ ap (λ m. bit_at m (bucket_in buckets v)) is ∙ mask-at buckets span v from to) none
