use Rattle.std.proofs.Common.{◌≡◌, rules}
use Rattle.fl_bitmap.specs.Bucket.{bucket_in, mask_in}
use Rattle.fl_bitmap.proofs.Spans.{bucket_in-le, mask-bits, mask-misses}
use Rattle.fl_bitmap.proofs.buckets.Buckets.mask.Goals as goal

pub bits_between-requires-clause-ordered : goal.bits_between-requires-clause-ordered
bits_between-requires-clause-ordered c =
    let low : c.bucket.result ≡ bucket_in c.args.self.now c.args.span.low = search rules in
    let high : c.bucket-2.result ≡ bucket_in c.args.self.now c.args.span.high = search rules in
    rw low (rw high (bucket_in-le c.args.self.now c.args.span.low c.args.span.high (search rules)))

pub returns-then-span-clause-misses : goal.returns-then-span-clause-misses
returns-then-span-clause-misses c =
    let is : 0 ≡ mask_in c.args.self.now c.args.span = search rules in
    mask-misses c.args.self.now c.args.span 0 is (search rules)

pub returns-clause-bits : goal.returns-clause-bits
returns-clause-bits c =
    let is : c.bits_between.result ≡ mask_in c.args.self.now c.args.span = search rules in
    mask-bits c.args.self.now c.args.span c.bits_between.result is

pub returns-clause-misses : goal.returns-clause-misses
returns-clause-misses c =
    let is : c.bits_between.result ≡ mask_in c.args.self.now c.args.span = search rules in
    mask-misses c.args.self.now c.args.span c.bits_between.result is (search rules)
