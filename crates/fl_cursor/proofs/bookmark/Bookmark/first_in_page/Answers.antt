use Rattle.std.proofs.Common.{◌≡◌, true, false, sym, ◌∙◌, rules}
use Rattle.fl_page.specs.View.{rows_of}
use Rattle.fl_schema.specs.Schema.{row_of}
use Rattle.fl_cursor.specs.Asked.{asked_by, is_left, is_last}
use Rattle.fl_cursor.proofs.SearchedRows.{first-taken, first-last, first-next}
use Rattle.fl_cursor.proofs.bookmark.Bookmark.first_in_page.Goals as goal

pub returns-then-wants : goal.returns-then-wants
returns-then-wants c =
    let left : is_left (asked_by c.args.self.now) (row_of c.row-row.result) ≡ true = search rules in
    sym (c.loop-i.invariant ∙ first-taken (asked_by c.args.self.now) (rows_of c.args.view.now) c.loop-i.i (row_of c.row-row.result) c.row-row.ensures.row left)

pub returns-then-is_last : goal.returns-then-is_last
returns-then-is_last c =
    let left : is_left (asked_by c.args.self.now) (row_of c.row-row.result) ≡ false = search rules in
    let last : is_last c.args.self.now.top (row_of c.row-row.result).key ≡ true = search rules in
    sym (c.loop-i.invariant ∙ first-last (asked_by c.args.self.now) (rows_of c.args.view.now) c.loop-i.i (row_of c.row-row.result) c.row-row.ensures.row left last)

pub loop-i-preserved : goal.loop-i-preserved
loop-i-preserved c =
    let left : is_left (asked_by c.args.self.now) (row_of c.row-row.result) ≡ false = search rules in
    let last : is_last c.args.self.now.top (row_of c.row-row.result).key ≡ false = search rules in
    c.loop-i.invariant ∙ first-next (asked_by c.args.self.now) (rows_of c.args.view.now) c.loop-i.i (row_of c.row-row.result) c.row-row.ensures.row left last
