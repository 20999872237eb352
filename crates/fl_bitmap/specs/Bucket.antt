-- Values in buckets, and the bits of the buckets.
use Rattle.std.specs.Prelude.{◌≡◌, ℕ, ◌+◌, ◌-◌, ◌^◌, ℤ, pos, ◌-ℤ◌, int_le, bit_or, if◌then◌else◌, Option, Some, None, unwrap_or, List, fold, slice_get}
use Rattle.std.specs.Int.{int_div_euclid}
use Rattle.fl_base.specs.declared.types.Span.{Span}
use Rattle.fl_model.specs.Record.{Plan}
use Rattle.fl_model.specs.Layout.{clamped}
use Rattle.fl_model.specs.Limits.{bits_from}
use Rattle.fl_model.specs.Row.{Row}
use Rattle.fl_bitmap.specs.declared.buckets.Buckets.{Buckets}

-- the buckets are those of a table
pub record AreBucketsOf (plan : Plan) (buckets : Buckets) : Type 0 where
  pub bits : plan.bits ≡ buckets.bits
  pub base : plan.base ≡ buckets.base
  pub width : plan.width ≡ buckets.width

-- a table may have no buckets
abbrev pub HasBuckets : Plan → Option Buckets → Type 0
HasBuckets plan None = plan.bits ≡ 0
HasBuckets plan (Some buckets) = AreBucketsOf plan buckets

-- the bucket of a value
abbrev pub bucket_in : Buckets → ℤ → ℕ
bucket_in buckets value = clamped (int_div_euclid (value -ℤ buckets.base) (pos buckets.width)) (buckets.bits - 1)

-- the buckets of a span as bits
abbrev pub mask_in : Buckets → Span → ℕ
mask_in buckets span =
    if int_le span.low span.high
    then bits_from (bucket_in buckets span.low) (bucket_in buckets span.high + 1 - bucket_in buckets span.low) else 0

-- a bitmap with the bucket of one more value
abbrev pub with_value : Buckets → ℕ → ℤ → ℕ
with_value buckets bitmap value = bit_or bitmap (2 ^ bucket_in buckets value)

-- the bitmap of rows: the buckets of their first values; 0 where the table has no buckets
abbrev pub bitmap_in : Option Buckets → List Row → ℕ
bitmap_in None rows = 0
bitmap_in (Some buckets) rows = fold (λ bits row. with_value buckets bits (unwrap_or (slice_get row.values 0) (pos 0))) 0 rows
