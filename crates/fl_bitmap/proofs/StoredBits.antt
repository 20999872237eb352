-- The bits of rows that are stored are those of their entries.
use Rattle.std.proofs.Common.{◌≡◌, ℕ, ◌^◌, pos, unwrap_or, slice_get, List, [], ◌∷◌, map, fold, bit_or, refl, ap, ◌∙◌}
use Rattle.fl_bitmap.specs.Bucket.{AreBucketsOf, with_value, bucket_in}
use Rattle.fl_bitmap.specs.declared.buckets.Buckets.{Buckets}
use Rattle.fl_bitmap.proofs.Spans.{bucket_of-is}
use Rattle.fl_model.specs.Layout.{bucket_of}
use Rattle.fl_model.specs.Record.{Plan}
use Rattle.fl_model.specs.Row.{Row, stored_row}
use Rattle.fl_model.specs.Table.{Entry}

pub bits-same : (plan : Plan) (buckets : Buckets) (bits : ℕ) (entries : List Entry) → AreBucketsOf plan buckets →
    fold (λ bits (entry : Entry). bit_or bits (2 ^ bucket_of plan (unwrap_or (slice_get entry.kept.values 0) (pos 0)))) bits entries
    ≡ fold (λ bits (row : Row). with_value buckets bits (unwrap_or (slice_get row.values 0) (pos 0))) bits (map stored_row entries)
bits-same plan buckets bits [] same = refl
bits-same plan buckets bits (entry ∷ entries) same =
    ap (λ n. fold (λ bits (entry : Entry). bit_or bits (2 ^ bucket_of plan (unwrap_or (slice_get entry.kept.values 0) (pos 0)))) (bit_or bits (2 ^ n)) entries) (bucket_of-is plan buckets (unwrap_or (slice_get entry.kept.values 0) (pos 0)) same)
    ∙ bits-same plan buckets (bit_or bits (2 ^ bucket_in buckets (unwrap_or (slice_get entry.kept.values 0) (pos 0)))) entries same
