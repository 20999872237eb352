use Rattle.std.proofs.Common.{Option, sym, ◌∙◌, ap, subst}
use Rattle.fl_bitmap.specs.declared.buckets.Buckets.{Buckets}
use Rattle.fl_bitmap.specs.Bucket.{HasBuckets}
use Rattle.fl_parts.specs.Skipping.{mask_for}
use Rattle.fl_table.proofs.table.Table.mask.Goals as goal

pub returns-in-Some-clause-exact : goal.returns-in-Some-clause-exact
returns-in-Some-clause-exact g c = λ plan has some. c.mask.ensures.of_table plan (subst (λ (o : Option Buckets). HasBuckets plan o) c.in-Some.is has)

pub returns-in-Some-clause-misses : goal.returns-in-Some-clause-misses
returns-in-Some-clause-misses g c = λ plan entries range has some missed. c.mask.ensures.misses plan entries range (subst (λ (o : Option Buckets). HasBuckets plan o) c.in-Some.is has) missed

pub returns-in-None-clause-exact : goal.returns-in-None-clause-exact
returns-in-None-clause-exact g c = λ plan has some. absurd (some (subst (λ (o : Option Buckets). HasBuckets plan o) c.in-None.is has))

pub returns-in-None-clause-misses : goal.returns-in-None-clause-misses
returns-in-None-clause-misses g c = λ plan entries range has some missed. absurd (some (subst (λ (o : Option Buckets). HasBuckets plan o) c.in-None.is has))

pub returns-in-Some-clause-told : goal.returns-in-Some-clause-told
returns-in-Some-clause-told g c = c.mask.ensures.exact ∙ ap (λ (o : Option Buckets). mask_for o c.args.span) (sym c.in-Some.is)

pub returns-in-None-clause-told : goal.returns-in-None-clause-told
returns-in-None-clause-told g c = ap (λ (o : Option Buckets). mask_for o c.args.span) (sym c.in-None.is)
