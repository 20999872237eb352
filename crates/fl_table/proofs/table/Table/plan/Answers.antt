use Rattle.std.proofs.Common.{rules, [], sym, ap, None, refl, ◌∙◌, ◌≡◌, ◌≤◌, ◌<◌, ◌+◌, ◌*◌, ℕ, List, length, subst, inl, inr, Fits, w64, arith}
use Rattle.fl_model.specs.Record.{Plan, RowLayout, row_layout, layout_len}
use Rattle.fl_model.specs.Table.{spent_from}
use Rattle.fl_page.specs.Writer.{Gathers}
use Rattle.fl_page.specs.WriterState.{WriterState}
use Rattle.fl_schema.specs.Form.{key_width}
use Rattle.fl_schema.specs.declared.schema.KeyWidth.{KeyWidth}
use Rattle.fl_schema.specs.declared.schema.KeyWidth.TheVariants as code
use Rattle.fl_parts.specs.Bitmaps.{next_after}
use Rattle.fl_parts.proofs.Sizes.{index-fits}
use Rattle.std.proofs.Math.Nat.{mul-le-mul}
use Rattle.fl_schema.specs.declared.column.ColumnType.{ColumnType}
use Rattle.fl_schema.specs.Schema.{layout_of}
use Rattle.fl_plan.proofs.Fits.{few-blobs}
use Rattle.fl_parts.proofs.Writers.{gathers-end, gathers-blank}
use Rattle.fl_ring.specs.declared.ring.Ring.{Ring}
use Rattle.fl_parts.proofs.IndexOfTable.{none-is, none-there}
use Rattle.std.proofs.lemmas.Result.{err_from_is_err_and}
use Rattle.fl_parts.proofs.Untouched.{no-success}
use Rattle.fl_table.proofs.table.Table.plan.Goals as goal

pub invariant_of-result-clause-rows_end : goal.invariant_of-result-clause-rows_end
invariant_of-result-clause-rows_end g c =
    gathers-end (layout_of c.schema_of.result) [] c.in_ok-new.field-0 (c.in_ok-new.ensures.empty (layout_of c.schema_of.result))

pub invariant_of-result-clause-blank_rest : goal.invariant_of-result-clause-blank_rest
invariant_of-result-clause-blank_rest g c =
    gathers-blank (layout_of c.schema_of.result) c.in_ok-new.field-0 (c.in_ok-new.ensures.empty (layout_of c.schema_of.result))

pub returns-clause-planned : goal.returns-clause-planned
returns-clause-planned g c = λ plan is. record {
  geometry = sym (ap (λ (p : Plan). p.geometry) is.is);
  layout = sym (ap (λ (p : Plan). row_layout p) is.is) ∙ sym c.schema_of.ensures.layout;
  begins = refl;
  blocks = sym (ap (λ (p : Plan). p.data_blocks) is.is);
  index = c.in_ok-bitmaps.ensures.planned plan is;
  var = c.in_ok-blobs.ensures.planned plan is;
  limit = sym (ap (λ (p : Plan). p.blob_limit) is.is);
  buckets = search rules;
  error = search rules;
  log = sym (ap (λ (p : Plan). p.log_blocks) is.is);
}

pub returns-clause-lies : goal.returns-clause-lies
returns-clause-lies g c = λ f geometry within index var few. record {
  geometry = geometry;
  within = within;
  few = few;
  ring = λ ring is. absurd (none-there {X = Ring} None ring refl is);
  bitmaps = c.in_ok-bitmaps.ensures.lie f geometry index few;
  blobs = c.in_ok-blobs.ensures.lie f geometry var few;
}

pub invariant_of-result-clause-blobs_fit : goal.invariant_of-result-clause-blobs_fit
invariant_of-result-clause-blobs_fit g c = few-blobs c.args.config.now c.in_ok-check.ensures.refusal

pub invariant_of-result-clause-few_knots : goal.invariant_of-result-clause-few_knots
invariant_of-result-clause-few_knots g c = c.requires.knots.1

pub invariant_of-result-clause-few_slots : goal.invariant_of-result-clause-few_slots
invariant_of-result-clause-few_slots g c = c.requires.slots.1

pub invariant_of-result-clause-lies : goal.invariant_of-result-clause-lies
invariant_of-result-clause-lies g c = λ ring is. absurd (none-there {X = Ring} None ring refl is)

pub invariant_of-result-clause-left : goal.invariant_of-result-clause-left
invariant_of-result-clause-left g c = λ ring is. absurd (none-there {X = Ring} None ring refl is)

pub invariant_of-result-clause-follow : goal.invariant_of-result-clause-follow
invariant_of-result-clause-follow g c = λ ring is. absurd (none-there {X = Ring} None ring refl is)

pub invariant_of-result-clause-running : goal.invariant_of-result-clause-running
invariant_of-result-clause-running g c = λ is. absurd (none-is {X = Ring} None refl is)

pub invariant_of-result-clause-blobs_running : goal.invariant_of-result-clause-blobs_running
invariant_of-result-clause-blobs_running g c = λ is. absurd (none-is {X = Ring} None refl is)

pub invariant_of-result-clause-blobs_left : goal.invariant_of-result-clause-blobs_left
invariant_of-result-clause-blobs_left g c = λ is. absurd (none-is {X = Ring} None refl is)

pub returns-clause-fresh : goal.returns-clause-fresh
returns-clause-fresh g c = (refl, refl)

pub returns-in_err-check-clause-fits : goal.returns-in_err-check-clause-fits
returns-in_err-check-clause-fits g c = no-success _ _ c.from_residual.result c.from_residual.ensures.1

pub returns-in_err-check-clause-planned : goal.returns-in_err-check-clause-planned
returns-in_err-check-clause-planned g c = no-success _ _ c.from_residual.result c.from_residual.ensures.1

pub returns-in_err-check-clause-lies : goal.returns-in_err-check-clause-lies
returns-in_err-check-clause-lies g c = no-success _ _ c.from_residual.result c.from_residual.ensures.1

pub returns-in_err-check-clause-fresh : goal.returns-in_err-check-clause-fresh
returns-in_err-check-clause-fresh g c = no-success _ _ c.from_residual.result c.from_residual.ensures.1

pub returns-in_err-check-clause-shape : goal.returns-in_err-check-clause-shape
returns-in_err-check-clause-shape g c = no-success _ _ c.from_residual.result c.from_residual.ensures.1

pub returns-in_err-bitmaps-clause-fits : goal.returns-in_err-bitmaps-clause-fits
returns-in_err-bitmaps-clause-fits g c = no-success _ _ c.from_residual-in_err-bitmaps.result c.from_residual-in_err-bitmaps.ensures.1

pub returns-in_err-bitmaps-clause-planned : goal.returns-in_err-bitmaps-clause-planned
returns-in_err-bitmaps-clause-planned g c = no-success _ _ c.from_residual-in_err-bitmaps.result c.from_residual-in_err-bitmaps.ensures.1

pub returns-in_err-bitmaps-clause-lies : goal.returns-in_err-bitmaps-clause-lies
returns-in_err-bitmaps-clause-lies g c = no-success _ _ c.from_residual-in_err-bitmaps.result c.from_residual-in_err-bitmaps.ensures.1

pub returns-in_err-bitmaps-clause-fresh : goal.returns-in_err-bitmaps-clause-fresh
returns-in_err-bitmaps-clause-fresh g c = no-success _ _ c.from_residual-in_err-bitmaps.result c.from_residual-in_err-bitmaps.ensures.1

pub returns-in_err-bitmaps-clause-shape : goal.returns-in_err-bitmaps-clause-shape
returns-in_err-bitmaps-clause-shape g c = no-success _ _ c.from_residual-in_err-bitmaps.result c.from_residual-in_err-bitmaps.ensures.1

pub returns-in_err-blobs-clause-fits : goal.returns-in_err-blobs-clause-fits
returns-in_err-blobs-clause-fits g c = no-success _ _ c.from_residual-in_err-blobs.result c.from_residual-in_err-blobs.ensures.1

pub returns-in_err-blobs-clause-planned : goal.returns-in_err-blobs-clause-planned
returns-in_err-blobs-clause-planned g c = no-success _ _ c.from_residual-in_err-blobs.result c.from_residual-in_err-blobs.ensures.1

pub returns-in_err-blobs-clause-lies : goal.returns-in_err-blobs-clause-lies
returns-in_err-blobs-clause-lies g c = no-success _ _ c.from_residual-in_err-blobs.result c.from_residual-in_err-blobs.ensures.1

pub returns-in_err-blobs-clause-fresh : goal.returns-in_err-blobs-clause-fresh
returns-in_err-blobs-clause-fresh g c = no-success _ _ c.from_residual-in_err-blobs.result c.from_residual-in_err-blobs.ensures.1

pub returns-in_err-blobs-clause-shape : goal.returns-in_err-blobs-clause-shape
returns-in_err-blobs-clause-shape g c = no-success _ _ c.from_residual-in_err-blobs.result c.from_residual-in_err-blobs.ensures.1

pub returns-in_err-new-clause-fits : goal.returns-in_err-new-clause-fits
returns-in_err-new-clause-fits g c = no-success _ _ c.from_residual-in_err-new.result c.from_residual-in_err-new.ensures.1

pub returns-in_err-new-clause-planned : goal.returns-in_err-new-clause-planned
returns-in_err-new-clause-planned g c = no-success _ _ c.from_residual-in_err-new.result c.from_residual-in_err-new.ensures.1

pub returns-in_err-new-clause-lies : goal.returns-in_err-new-clause-lies
returns-in_err-new-clause-lies g c = no-success _ _ c.from_residual-in_err-new.result c.from_residual-in_err-new.ensures.1

pub returns-in_err-new-clause-fresh : goal.returns-in_err-new-clause-fresh
returns-in_err-new-clause-fresh g c = no-success _ _ c.from_residual-in_err-new.result c.from_residual-in_err-new.ensures.1

pub returns-in_err-new-clause-shape : goal.returns-in_err-new-clause-shape
returns-in_err-new-clause-shape g c = no-success _ _ c.from_residual-in_err-new.result c.from_residual-in_err-new.ensures.1

pub returns-in_default-clause-fits : goal.returns-in_default-clause-fits
returns-in_default-clause-fits g c = tt

pub returns-in_default-clause-planned : goal.returns-in_default-clause-planned
returns-in_default-clause-planned g c = tt

pub returns-in_default-clause-lies : goal.returns-in_default-clause-lies
returns-in_default-clause-lies g c = tt

pub returns-in_default-clause-fresh : goal.returns-in_default-clause-fresh
returns-in_default-clause-fresh g c = tt

pub returns-in_default-clause-shape : goal.returns-in_default-clause-shape
returns-in_default-clause-shape g c = tt

-- a page of 64 bytes has room for the header of a page, and one of 4,096 is no longer than a page may be
page-least : (n : ℕ) → 64 ≤ n → 24 ≤ n
page-least n le = omega (arith, le)

page-most : (n : ℕ) → n ≤ 4096 → n < 65536
page-most n le = omega (arith, le)

-- a writer's header has room
header-room : (w : WriterState) (layout : RowLayout) (page : ℕ) → Gathers layout [] w → length w.body + 8 ≡ page → 64 ≤ page → w.end ≤ length w.body
header-room w layout page h whole least = let none : 0 * layout_len layout ≡ 0 = omega arith in omega (arith, h.end, none, whole, least)

-- a row has its key
some-row : (key : KeyWidth) (columns blob : ℕ) → 1 ≤ key_width key + columns + blob
some-row code.Four columns blob = omega arith
some-row code.Eight columns blob = omega arith

-- an index's first page isn't the last number
first-page : (n k : ℕ) → n ≤ 1 → n ≤ k + 1
first-page n k le = omega (arith, le)

few-pages : (blocks block : ℕ) → blocks ≤ 16384 → block ≤ 256 → Fits w64 (blocks * block)
few-pages blocks block some few = let most = mul-le-mul some few in omega (arith, most)

pub overflow_mul-pages : goal.overflow_mul-pages
overflow_mul-pages g c = few-pages c.args.config.now.rows.blocks c.args.config.now.geometry.block c.in_ok-check.ensures.limits.rows.1 c.in_ok-check.ensures.limits.geometry.block_high

pub bitmaps_of-requires-clause-fits : goal.bitmaps_of-requires-clause-fits
bitmaps_of-requires-clause-fits g c = c.in_ok-check.ensures.refusal

pub bitmaps_of-requires-clause-limits : goal.bitmaps_of-requires-clause-limits
bitmaps_of-requires-clause-limits g c = c.in_ok-check.ensures.limits

pub blobs_of-requires-clause-fits : goal.blobs_of-requires-clause-fits
blobs_of-requires-clause-fits g c = c.in_ok-check.ensures.refusal

pub blobs_of-requires-clause-limits : goal.blobs_of-requires-clause-limits
blobs_of-requires-clause-limits g c = c.in_ok-check.ensures.limits

pub schema_of-requires-clause-fits : goal.schema_of-requires-clause-fits
schema_of-requires-clause-fits g c = c.in_ok-check.ensures.refusal

pub schema_of-requires-clause-limits : goal.schema_of-requires-clause-limits
schema_of-requires-clause-limits g c = c.in_ok-check.ensures.limits

pub new-requires-clause-least : goal.new-requires-clause-least
new-requires-clause-least g c = page-least c.args.config.now.geometry.page c.in_ok-check.ensures.limits.geometry.page_low

pub new-requires-clause-most : goal.new-requires-clause-most
new-requires-clause-most g c = page-most c.args.config.now.geometry.page c.in_ok-check.ensures.limits.geometry.page_high

pub new-requires-2 : goal.new-requires-2
new-requires-2 g c = (index-fits g.row.KNOTS g.row.SLOTS c.requires.knots.1 c.requires.slots.1, (c.requires.knots.0, c.requires.slots.0))

pub returns-in_err-check-clause-refused : goal.returns-in_err-check-clause-refused
returns-in_err-check-clause-refused g c =
    let p = err_from_is_err_and c.from_residual.result c.from_residual.ensures.1 in
    rw (p.1, p.2) (inr c.in_err-check.ensures.refusal)

pub returns-in_default-clause-refused : goal.returns-in_default-clause-refused
returns-in_default-clause-refused g c = inl (refl, c.in_ok-check.ensures.refusal)

pub returns-in_err-bitmaps-clause-refused : goal.returns-in_err-bitmaps-clause-refused
returns-in_err-bitmaps-clause-refused g c =
    let p = err_from_is_err_and c.from_residual-in_err-bitmaps.result c.from_residual-in_err-bitmaps.ensures.1 in
    rw (p.1, p.2) (inl (refl, c.in_ok-check.ensures.refusal))

pub returns-in_err-blobs-clause-refused : goal.returns-in_err-blobs-clause-refused
returns-in_err-blobs-clause-refused g c =
    let p = err_from_is_err_and c.from_residual-in_err-blobs.result c.from_residual-in_err-blobs.ensures.1 in
    rw (p.1, p.2) (inl (refl, c.in_ok-check.ensures.refusal))

pub returns-in_err-new-clause-refused : goal.returns-in_err-new-clause-refused
returns-in_err-new-clause-refused g c =
    let p = err_from_is_err_and c.from_residual-in_err-new.result c.from_residual-in_err-new.ensures.1 in
    rw (p.1, p.2) (inl (refl, c.in_ok-check.ensures.refusal))

pub invariant_of-result-clause-served : goal.invariant_of-result-clause-served
invariant_of-result-clause-served g c =
    let within = c.in_ok-check.ensures.limits.geometry in
    record { page_least = within.page_low; page_greatest = within.page_high; page_by_eight = within.page_eights; block_least = within.block_low; block_greatest = within.block_high }

pub invariant_of-result-clause-some_blocks : goal.invariant_of-result-clause-some_blocks
invariant_of-result-clause-some_blocks g c = c.in_ok-check.ensures.limits.rows.0

pub invariant_of-result-clause-few_blocks : goal.invariant_of-result-clause-few_blocks
invariant_of-result-clause-few_blocks g c = c.in_ok-check.ensures.limits.rows.1

pub invariant_of-result-clause-some_columns : goal.invariant_of-result-clause-some_columns
invariant_of-result-clause-some_columns g c = subst (λ (l : List ColumnType). 1 ≤ length l) (sym c.schema_of.ensures.types) c.in_ok-check.ensures.limits.some_columns

pub invariant_of-result-clause-some_row : goal.invariant_of-result-clause-some_row
invariant_of-result-clause-some_row g c = some-row c.schema_of.result.key _ _

pub invariant_of-result-clause-room_for_row : goal.invariant_of-result-clause-room_for_row
invariant_of-result-clause-room_for_row g c = c.schema_of.ensures.room

pub invariant_of-result-clause-has_blobs : goal.invariant_of-result-clause-has_blobs
invariant_of-result-clause-has_blobs g c = ap (λ (layout : RowLayout). layout.blobs) c.schema_of.ensures.layout ∙ c.in_ok-blobs.ensures.has

pub invariant_of-result-clause-page : goal.invariant_of-result-clause-page
invariant_of-result-clause-page g c = c.in_ok-new.ensures.size

pub invariant_of-result-clause-rows_room : goal.invariant_of-result-clause-rows_room
invariant_of-result-clause-rows_room g c =
    let layout = layout_of c.schema_of.result in
    header-room c.in_ok-new.field-0 layout c.args.config.now.geometry.page (c.in_ok-new.ensures.empty layout) c.in_ok-new.ensures.size c.in_ok-check.ensures.limits.geometry.page_low

pub invariant_of-result-clause-counted : goal.invariant_of-result-clause-counted
invariant_of-result-clause-counted g c = c.in-Ok.ensures.len

pub invariant_of-result-clause-few_pages : goal.invariant_of-result-clause-few_pages
invariant_of-result-clause-few_pages g c = c.in_ok-bitmaps.ensures.few

pub invariant_of-result-clause-pages_left : goal.invariant_of-result-clause-pages_left
invariant_of-result-clause-pages_left g c = λ some. first-page (next_after c.in_ok-bitmaps.bitmaps) spent_from c.in_ok-bitmaps.ensures.next

pub returns-clause-fits : goal.returns-clause-fits
returns-clause-fits g c = c.in_ok-check.ensures.refusal

pub returns-clause-shape : goal.returns-clause-shape
returns-clause-shape g c = (sym c.in_ok-blobs.ensures.has, c.schema_of.ensures.room)
