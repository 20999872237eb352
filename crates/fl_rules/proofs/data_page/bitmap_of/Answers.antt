use Rattle.std.proofs.Common.{◌≡◌, ℕ, ℤ, pos, Option, Some, take, length, slice_get, unwrap_or, sym, ◌∙◌, ap, arith, rules}
use Rattle.std.specs.Int.{w64}
use Rattle.std.proofs.lemmas.Int.{to_z-of_z}
use Rattle.fl_bitmap.specs.Bucket.{with_value, bitmap_in}
use Rattle.fl_bitmap.specs.declared.buckets.Buckets.{Buckets}
use Rattle.fl_page.specs.View.{rows_of, count_of}
use Rattle.fl_schema.specs.Schema.{row_of}
use Rattle.fl_page.proofs.RowsFrom.{length-rows_from}
use Rattle.fl_rules.proofs.PageRows.{bitmap-next, bitmap-end}
use Rattle.fl_rules.proofs.data_page.bitmap_of.Goals as goal

pub loop-i-preserved : goal.loop-i-preserved
loop-i-preserved g c =
    let rows = rows_of c.args.view.now in
    let first : unwrap_or (slice_get (row_of c.row.result).values 0) (pos 0) ≡ c.value.result = ap (λ (v : Option ℤ). unwrap_or v (pos 0)) c.value.ensures in
    c.add-bitmap.ensures ∙ ap (with_value c.in-Some.buckets c.loop-i.bitmap) (to_z-of_z w64 c.value.result (search rules))
    ∙ ap (λ (b : ℕ). with_value c.in-Some.buckets b c.value.result) c.loop-i.invariant
    ∙ ap (with_value c.in-Some.buckets (bitmap_in (Some c.in-Some.buckets) (take c.loop-i.i rows))) (sym first)
    ∙ sym (bitmap-next c.in-Some.buckets rows c.loop-i.i (row_of c.row.result) c.row.ensures.row)

pub returns : goal.returns
returns g c =
    let rows = rows_of c.args.view.now in
    let many : length rows ≡ count_of c.args.view.now = length-rows_from (count_of c.args.view.now) _ _ in
    c.loop-i.invariant ∙ bitmap-end c.in-Some.buckets rows c.loop-i.i (omega (arith, many, c.rows-i-end.ensures, c.loop-i-test.false))
    ∙ ap (λ (o : Option Buckets). bitmap_in o rows) (sym c.in-Some.is)
