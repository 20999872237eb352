use Rattle.std.proofs.Common.{◌≡◌, true, false, drop, sym, ◌∙◌, arith, rules, refl}
use Rattle.fl_table.specs.Look.{buffered_rows, layout_in}
use Rattle.fl_table.specs.Memory.{pending_in}
use Rattle.fl_schema.specs.Schema.{row_of}
use Rattle.fl_cursor.specs.Asked.{asked_by, is_left, is_last}
use Rattle.fl_cursor.proofs.SearchedRows.{first-taken, first-last, first-next, first-end, some-columns}
use Rattle.fl_parts.proofs.Sizes.{table-fits}
use Rattle.fl_cursor.proofs.bookmark.Bookmark.first_pending.Goals as goal

pub returns-then-wants : goal.returns-then-wants
returns-then-wants g c =
    let left : is_left (asked_by c.args.self.now) (row_of c.pending_row-row.result) ≡ true = search rules in
    sym (c.loop-i.invariant ∙ first-taken (asked_by c.args.self.now) (buffered_rows c.args.table.now) c.loop-i.i (row_of c.pending_row-row.result) c.pending_row-row.ensures.row left)

pub returns-then-is_last : goal.returns-then-is_last
returns-then-is_last g c =
    let left : is_left (asked_by c.args.self.now) (row_of c.pending_row-row.result) ≡ false = search rules in
    let last : is_last c.args.self.now.top (row_of c.pending_row-row.result).key ≡ true = search rules in
    sym (c.loop-i.invariant ∙ first-last (asked_by c.args.self.now) (buffered_rows c.args.table.now) c.loop-i.i (row_of c.pending_row-row.result) c.pending_row-row.ensures.row left last)

pub loop-i-preserved : goal.loop-i-preserved
loop-i-preserved g c =
    let left : is_left (asked_by c.args.self.now) (row_of c.pending_row-row.result) ≡ false = search rules in
    let last : is_last c.args.self.now.top (row_of c.pending_row-row.result).key ≡ false = search rules in
    c.loop-i.invariant ∙ first-next (asked_by c.args.self.now) (buffered_rows c.args.table.now) c.loop-i.i (row_of c.pending_row-row.result) c.pending_row-row.ensures.row left last

pub pending_rows-i-end-requires : goal.pending_rows-i-end-requires
pending_rows-i-end-requires g c = table-fits g.row.KNOTS g.row.SLOTS c.args.table.now.few_knots c.args.table.now.few_slots

pub loop-i-init : goal.loop-i-init
loop-i-init g c = refl

pub pending_row-row-requires : goal.pending_row-row-requires
pending_row-row-requires g c = (table-fits g.row.KNOTS g.row.SLOTS c.args.table.now.few_knots c.args.table.now.few_slots, omega (arith, c.loop-i-test.true, c.pending_rows-i-end.ensures.exact))

pub wants-requires : goal.wants-requires
wants-requires g c = some-columns c.args.table.now _ c.pending_row-row.ensures.layout

pub returns : goal.returns
returns g c =
    let t = c.args.table.now in
    sym (c.loop-i.invariant ∙ first-end (asked_by c.args.self.now) (pending_in t) (layout_in t) (drop 16 t.writer.body) c.loop-i.i (omega (arith, c.loop-i-test.false, c.pending_rows-i-end.ensures.exact)))
