use Rattle.std.proofs.Common.{◌≡◌, ℕ, ◌+◌, ◌-◌, ◌*◌, Some, List, take, drop, slice_range, ap, sym, ◌∙◌, le-add_right, arith}
use Rattle.std.proofs.lemmas.List.{drop-drop}
use Rattle.fl_model.specs.Record.{RowLayout, layout_len}
use Rattle.fl_model.specs.Row.{row_in}
use Rattle.fl_schema.specs.Schema.{kind_layout, bytes_of}
use Rattle.fl_schema.specs.Form.{types_in}
use Rattle.fl_page.proofs.Views.{row_within, length-row}
use Rattle.fl_page.proofs.RowBytes.{slice_get-rows_from}
use Rattle.fl_page.proofs.view.PageView.row.Goals as goal

pub returns-clause-bytes : goal.returns-clause-bytes
returns-clause-bytes g c =
    c.of.ensures.bytes ∙ ap (λ (n : ℕ). slice_range c.args.self.now.bytes.now (16 + c.args.i * n) (16 + c.args.i * n + n)) c.row_len-len.ensures

pub returns-clause-row : goal.returns-clause-row
returns-clause-row g c =
    let view = c.args.self.now in
    let kind = c.args.self.now.kind in
    let i = c.args.i in
    let n = layout_len (kind_layout c.args.self.now.kind) in
    let page = c.args.self.now.bytes.now in
    let one : 16 + i * n + n - (16 + i * n) ≡ n = omega arith in
    slice_get-rows_from kind.key (types_in kind.columns.now) kind.blobs view.count i (drop 16 page) c.requires
    ∙ ap (λ (l : List ℕ). Some (row_in (kind_layout c.args.self.now.kind) l)) (ap (λ (l : List ℕ). take n l) (drop-drop (i * n) 16 page) ∙ sym (ap (λ (k : ℕ). take k (drop (16 + i * n) page)) one) ∙ sym (returns-clause-bytes g c))
    ∙ ap (λ (l : RowLayout). Some (row_in l (bytes_of c.of.result))) (sym c.of.ensures.layout)

pub overflow_add-at-2 : goal.overflow_add-at-2
overflow_add-at-2 g c = let within = row_within c.args.i c.args.self.now.count c.row_len-len.result _ _ c.requires c.row_len-len.ensures c.args.self.now.room in omega (arith, within)

pub overflow_add-at : goal.overflow_add-at
overflow_add-at g c = let within = row_within c.args.i c.args.self.now.count c.row_len-len.result _ _ c.requires c.row_len-len.ensures c.args.self.now.room in omega (arith, within)

pub overflow_mul-at : goal.overflow_mul-at
overflow_mul-at g c = let within = row_within c.args.i c.args.self.now.count c.row_len-len.result _ _ c.requires c.row_len-len.ensures c.args.self.now.room in omega (arith, within)

pub slice_bounds-of-count : goal.slice_bounds-of-count
slice_bounds-of-count g c = le-add_right _ _

pub of-requires : goal.of-requires
of-requires g c = length-row (16 + c.args.i * c.row_len-len.result) c.row_len-len.result _ c.args.self.now.bytes.now (row_within c.args.i c.args.self.now.count c.row_len-len.result _ _ c.requires c.row_len-len.ensures c.args.self.now.room) c.row_len-len.ensures

pub returns-clause-layout : goal.returns-clause-layout
returns-clause-layout g c = c.of.ensures.layout
