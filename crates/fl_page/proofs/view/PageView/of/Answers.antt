use Rattle.std.proofs.Common.{◌*◌, ◌-◌, length, refl, sym, ◌∙◌, ap, le_trans, lit≤, rules, arith, pos_of_ne-zero}
use Rattle.std.proofs.Math.Nat.{mul-le-mul_right, div-mul-le_self}
use Rattle.fl_model.specs.Record.{layout_len}
use Rattle.fl_schema.specs.Schema.{types_of, layout_of}
use Rattle.fl_page.specs.Header.{page_count}
use Rattle.fl_page.proofs.Views.{page_good, page_room, rows-fit}
use Rattle.fl_page.proofs.view.PageView.of.Goals.{then-found-number-via-then-found-number, then-found-number-via-else-found-number+then-count-eq0, then-found-number-via-else-found-number+else-count-eq0+then-rows-bytes}
use Rattle.fl_page.proofs.view.PageView.of.Goals as goal

pub returns-then-found-number : goal.returns-then-found-number
returns-then-found-number g c = (
  search rules,
  λ good. elim c.then-found-number.branch [
    | then-found-number-via-then-found-number w ↦ omega (arith, w.if-found-number.true, good.number_is, c.number_in-found.ensures)
    | then-found-number-via-else-found-number+then-count-eq0 w ↦ omega (arith, w.if-count-eq0.true, good.some, c.count_in-count.ensures)
    | then-found-number-via-else-found-number+else-count-eq0+then-rows-bytes w ↦
        let page = c.args.bytes.now in
        let row = layout_len (layout_of c.args.schema.now) in
        let same = ap (λ n. n * c.row_len.result) c.count_in-count.ensures ∙ ap (λ n. page_count page * n) c.row_len.ensures in
        omega (arith, w.if-rows-bytes.true, same, mul-le-mul_right row good.room, div-mul-le_self (length page - 24) row)
  ],
)

pub number_in-found-requires : goal.number_in-found-requires
number_in-found-requires g c = le_trans (lit≤ tt) c.requires

pub count_in-count-requires : goal.count_in-count-requires
count_in-count-requires g c = le_trans (lit≤ tt) c.requires

pub overflow_mul-rows : goal.overflow_mul-rows
overflow_mul-rows g c = record { fits = rows-fit _ _ c.count_in-count.type_inv c.row_len.type_inv }

pub overflow_sub-bytes : goal.overflow_sub-bytes
overflow_sub-bytes g c = c.requires

pub invariant_of-result : goal.invariant_of-result
invariant_of-result g c = record {
  some = pos_of_ne-zero c.if-count-eq0.false;
  room = page_room _ _ _ _ (c.row_len.ensures ∙ ap layout_len (sym c.kind.ensures)) c.if-rows-bytes.false c.requires;
}

pub returns : goal.returns
returns g c =
    let schema = c.args.schema.now in (
      refl,
      c.kind.ensures,
      c.count_in-count.ensures,
      page_good schema.key (types_of schema) schema.blobs _ _ _ _ c.args.bytes.now c.number_in-found.ensures c.count_in-count.ensures c.row_len.ensures c.if-found-number.false c.if-count-eq0.false c.if-rows-bytes.false,
    )
