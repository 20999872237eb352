use Rattle.std.proofs.Common.{◌≡◌, ℕ, ◌+◌, ◌*◌, sym, subst, ◌∙◌, ap, rules, ◌≤◌, length}
use Rattle.fl_model.specs.Record.{layout_len, RowLayout}
use Rattle.fl_model.specs.Row.{le}
use Rattle.fl_bitmap.specs.Bucket.{bitmap_in}
use Rattle.fl_page.specs.Header.{page_count}
use Rattle.fl_page.specs.Page.{rows_in}
use Rattle.fl_page.specs.View.{page_of, layout_of_page, count_of, rows_of}
use Rattle.fl_schema.specs.Schema.{layout_of, types_of}
use Rattle.fl_rules.specs.DataPage.{are_plain}
use Rattle.fl_rules.specs.Endings.{IsFilled}
use Rattle.fl_rules.proofs.DataPages.{is_data, data_ends, bits_are, rows_seen, rows_end, ill_formed, other_bits, not_plain, not_zero}
use Rattle.fl_rules.proofs.TablePages.{as_entries}
use Rattle.fl_rules.proofs.Rooms.{view-fits, has_bitmap, rows_small, end_small}
use Rattle.std.proofs.lemmas.List.{length-map}
use Rattle.fl_rules.proofs.data_page.data_page_is_good.Goals as goal
use Rattle.fl_rules.proofs.data_page.data_page_is_good.Goals.{then-get_u64-bitmap_of-via-then-get_u64-bitmap_of, then-get_u64-bitmap_of-via-else-get_u64-bitmap_of+then-not-are_plain}

pub returns-then-get_u64-bitmap_of-clause-exact : goal.returns-then-get_u64-bitmap_of-clause-exact
returns-then-get_u64-bitmap_of-clause-exact g c =
    let schema = c.args.schema.now in
    let page = c.args.page.now in
    let rows : rows_of c.in-Ok.view ≡ rows_in (layout_of c.args.schema.now) c.args.page.now =
    rows_seen (layout_of schema) (layout_of_page c.in-Ok.view) page (page_of c.in-Ok.view) (count_of c.in-Ok.view) c.in-Ok.ensures.0 c.in-Ok.ensures.1 c.in-Ok.ensures.2 in
    elim c.then-get_u64-bitmap_of.branch [
      | then-get_u64-bitmap_of-via-then-get_u64-bitmap_of w ↦
          other_bits schema.key (types_of schema) schema.blobs page c.args.number c.args.buckets c.requires.least c.ranges.number.fits c.requires.most c.get_u64.result c.bitmap_of.result (rows_of c.in-Ok.view) rows c.bitmap_of.ensures c.bitmap_of.type_inv c.get_u64.ensures
          w.if-get_u64-bitmap_of.true
      | then-get_u64-bitmap_of-via-else-get_u64-bitmap_of+then-not-are_plain w ↦
          not_plain schema.key (types_of schema) schema.blobs page c.args.number c.args.buckets c.requires.least c.ranges.number.fits c.requires.most w.are_plain.result (rows_of c.in-Ok.view) rows w.are_plain.ensures w.if-not-are_plain.true
    ]

pub returns-then-get_u64-bitmap_of-clause-of_table : goal.returns-then-get_u64-bitmap_of-clause-of_table
returns-then-get_u64-bitmap_of-clause-of_table g c = λ plan form. as_entries plan (layout_of c.args.schema.now) c.args.buckets c.args.number c.args.page.now form (returns-then-get_u64-bitmap_of-clause-exact g c)

pub ends_filled-requires : goal.ends_filled-requires
ends_filled-requires g c =
    let schema = c.args.schema.now in
    let page = c.args.page.now in
    rows_end schema.key (types_of schema) schema.blobs page c.args.number c.args.buckets c.requires.least c.rows.result c.row_len.result (c.rows.ensures ∙ c.in-Ok.ensures.2) c.row_len.ensures c.in-Ok.ensures.3

pub returns-then-each_is-clause-exact : goal.returns-then-each_is-clause-exact
returns-then-each_is-clause-exact g c =
    let schema = c.args.schema.now in
    let page = c.args.page.now in
    let rows : rows_of c.in-Ok.view ≡ rows_in (layout_of c.args.schema.now) c.args.page.now =
    rows_seen (layout_of schema) (layout_of_page c.in-Ok.view) page (page_of c.in-Ok.view) (count_of c.in-Ok.view) c.in-Ok.ensures.0 c.in-Ok.ensures.1 c.in-Ok.ensures.2 in
    let end : 16 + c.rows.result * c.row_len.result ≡ 16 + page_count c.args.page.now * layout_len (layout_of c.args.schema.now) =
    ap (λ (k : ℕ). 16 + k * c.row_len.result) (c.rows.ensures ∙ c.in-Ok.ensures.2) ∙ ap (λ (k : ℕ). 16 + page_count c.args.page.now * k) c.row_len.ensures in (
      λ ends. is_data schema.key (types_of schema) schema.blobs page c.args.number c.args.buckets c.requires.least (λ k. (c.type_inv.page k).fits) c.in-Ok.ensures.3
          (ap are_plain (sym rows) ∙ (sym c.are_plain.ensures ∙ c.if-not-are_plain.false))
          (bits_are page c.get_u64.result (λ k. (c.type_inv.page k).fits) c.requires.least c.get_u64.ensures
          ∙ ap (le 8) (c.if-get_u64-bitmap_of.false ∙ c.bitmap_of.ensures ∙ ap (bitmap_in c.args.buckets) rows))
          (sym c.each_is.ensures ∙ c.if-each_is.true) (subst (λ (k : ℕ). IsFilled k page) end (c.ends_filled.ensures.0 ends)),
      λ is. c.ends_filled.ensures.1 (subst (λ (k : ℕ). IsFilled k page) (sym end)
          (data_ends schema.key (types_of schema) schema.blobs page c.args.number c.args.buckets c.requires.least is c.ranges.number.fits c.requires.most)),
    )

pub returns-then-each_is-clause-of_table : goal.returns-then-each_is-clause-of_table
returns-then-each_is-clause-of_table g c = λ plan form. as_entries plan (layout_of c.args.schema.now) c.args.buckets c.args.number c.args.page.now form (returns-then-each_is-clause-exact g c)

pub returns-else-each_is-clause-exact : goal.returns-else-each_is-clause-exact
returns-else-each_is-clause-exact g c =
    let schema = c.args.schema.now in
    let page = c.args.page.now in
    not_zero schema.key (types_of schema) schema.blobs page c.args.number c.args.buckets c.requires.least c.ranges.number.fits c.requires.most c.each_is.result c.each_is.ensures c.if-each_is.false

pub returns-else-each_is-clause-of_table : goal.returns-else-each_is-clause-of_table
returns-else-each_is-clause-of_table g c = λ plan form. as_entries plan (layout_of c.args.schema.now) c.args.buckets c.args.number c.args.page.now form (returns-else-each_is-clause-exact g c)

pub of-requires : goal.of-requires
of-requires g c = (search rules, (view-fits, c.requires.least))

pub returns-in_default-clause-exact : goal.returns-in_default-clause-exact
returns-in_default-clause-exact g c =
    let schema = c.args.schema.now in
    let page = c.args.page.now in
    ill_formed schema.key (types_of schema) schema.blobs page c.args.number c.args.buckets c.requires.least c.ranges.number.fits c.requires.most c.in_default.ensures.1

pub returns-in_default-clause-of_table : goal.returns-in_default-clause-of_table
returns-in_default-clause-of_table g c = λ plan form. as_entries plan (layout_of c.args.schema.now) c.args.buckets c.args.number c.args.page.now form (returns-in_default-clause-exact g c)

pub get_u64-requires : goal.get_u64-requires
get_u64-requires g c = has_bitmap c.requires.least

pub bitmap_of-requires : goal.bitmap_of-requires
bitmap_of-requires g c = (view-fits, subst (λ (layout : RowLayout). 1 ≤ length layout.columns) (sym c.in-Ok.ensures.1) (rw length-map c.requires.columns))

pub are_plain-requires : goal.are_plain-requires
are_plain-requires g c = view-fits

pub rows-requires : goal.rows-requires
rows-requires g c = view-fits

pub row_len-requires : goal.row_len-requires
row_len-requires g c = search rules

pub overflow_mul-end : goal.overflow_mul-end
overflow_mul-end g c =
    let schema = c.args.schema.now in
    let page = c.args.page.now in
    record { fits = rows_small (rows_end schema.key (types_of schema) schema.blobs page c.args.number c.args.buckets c.requires.least c.rows.result c.row_len.result (c.rows.ensures ∙ c.in-Ok.ensures.2) c.row_len.ensures c.in-Ok.ensures.3) c.requires.most }

pub overflow_add-end : goal.overflow_add-end
overflow_add-end g c =
    let schema = c.args.schema.now in
    let page = c.args.page.now in
    record { fits = end_small (c.rows.result * c.row_len.result) (rows_end schema.key (types_of schema) schema.blobs page c.args.number c.args.buckets c.requires.least c.rows.result c.row_len.result (c.rows.ensures ∙ c.in-Ok.ensures.2) c.row_len.ensures c.in-Ok.ensures.3) c.requires.most }
