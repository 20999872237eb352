use Rattle.std.proofs.Common.{ℕ, ◌≡◌, ◌∙◌, ◌+◌, ◌-◌, true, Some, List, [], ◌∷◌, drop, ap, sym, subst, arith}
use Rattle.std.proofs.lemmas.Bool.{ltb-true}
use Rattle.fl_model.specs.Record.{RowLayout}
use Rattle.fl_model.specs.Row.{Row, row_in}
use Rattle.fl_model.specs.Query.{is_above}
use Rattle.fl_schema.specs.Schema.{row_of, bytes_of}
use Rattle.fl_page.specs.Page.{row_at}
use Rattle.fl_page.specs.Steps.{Ascends}
use Rattle.fl_page.specs.View.{page_of, layout_of_page, count_of, rows_of}
use Rattle.fl_page.proofs.RowsFrom.{drop-row}
use Rattle.fl_storage_tests.proofs.RowsLeft.{rows_from-end, Ascends-first}
use Rattle.fl_storage_tests.proofs.operators.page_rows.PageRowsRows.step.Goals as goal

-- the last row was given
pub returns-then-self-rows-clause-steps : goal.returns-then-self-rows-clause-steps
returns-then-self-rows-clause-steps g c = λ told.
    let view = c.args.self.now.view in
    let none : drop c.args.self.now.next (rows_of c.args.self.now.view) ≡ []
    = rows_from-end (count_of view) (layout_of_page view) (drop 16 (page_of view)) c.args.self.now.next (omega (arith, c.if-self-rows.true, c.rows.ensures)) in
    (none, none)

-- the keys don't ascend
pub returns-then-key-above-clause-stays_told : goal.returns-then-key-above-clause-stays_told
returns-then-key-above-clause-stays_told g c = λ told.
    let view = c.args.self.now.view in
    let none : drop c.rows-self.result (rows_of c.args.self.now.view) ≡ []
    = rows_from-end (count_of view) (layout_of_page view) (drop 16 (page_of view)) c.rows-self.result (omega (arith, c.rows-self.ensures)) in
    let P : List Row → Type 0 = λ left. Ascends c.args.self.now.above left in
    subst P (sym none) tt

pub returns-then-key-above-clause-steps : goal.returns-then-key-above-clause-steps
returns-then-key-above-clause-steps g c = λ told.
    let later : is_above c.args.self.now.above (row_of c.row.result).key ≡ true
    = (Ascends-first c.args.self.now.above (rows_of c.args.self.now.view) c.args.self.now.next (row_of c.row.result) c.row.ensures.row told).0 in
    let far : is_above (Some c.in-Some.above) (row_of c.row.result).key ≡ true = rw c.in-Some.is at later in
    absurd (omega (arith, ltb-true c.in-Some.above (row_of c.row.result).key far, c.if-key-above.true, c.key-key.ensures))

-- a row was taken
pub returns-clause-stays_told : goal.returns-clause-stays_told
returns-clause-stays_told g c = λ told.
    let P : ℕ → Type 0 = λ key. Ascends (Some key) (drop (c.args.self.now.next + 1) (rows_of c.args.self.now.view)) in
    subst P (sym c.key-key.ensures) (Ascends-first c.args.self.now.above (rows_of c.args.self.now.view) c.args.self.now.next (row_of c.row.result) c.row.ensures.row told).1

pub returns-clause-steps : goal.returns-clause-steps
returns-clause-steps g c = λ told.
    let view = c.args.self.now.view in
    let back : c.args.self.now.next + 1 - 1 ≡ c.args.self.now.next = omega arith in
    let same : row_of c.row.result ≡ row_in (layout_of_page c.args.self.now.view) (row_at (layout_of_page c.args.self.now.view) (page_of c.args.self.now.view) (c.args.self.now.next + 1 - 1))
    = ap (λ (layout : RowLayout). row_in layout (bytes_of c.row.result)) c.row.ensures.layout
    ∙ ap (λ (bytes : List ℕ). row_in (layout_of_page view) bytes) c.row.ensures.bytes
    ∙ ap (λ (i : ℕ). row_in (layout_of_page view) (row_at (layout_of_page view) (page_of view) i)) (sym back) in
    drop-row (rows_of view) c.args.self.now.next (row_of c.row.result) c.row.ensures.row
    ∙ ap (λ (row : Row). row ∷ drop (c.args.self.now.next + 1) (rows_of view)) same
