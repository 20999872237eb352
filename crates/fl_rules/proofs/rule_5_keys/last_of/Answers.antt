use Rattle.std.proofs.Common.{◌≡◌, ◌-◌, ℕ, Some, length, sym, ◌∙◌, ap, arith}
use Rattle.fl_page.specs.View.{rows_of, count_of}
use Rattle.fl_schema.specs.Schema.{row_of}
use Rattle.fl_page.proofs.RowsFrom.{length-rows_from}
use Rattle.fl_rules.proofs.LastKeys.{last_at}
use Rattle.fl_rules.proofs.rule_5_keys.last_of.Goals as goal

pub returns : goal.returns
returns g c = λ before.
    let rows = rows_of c.args.view.now in
    let many : length rows ≡ count_of c.args.view.now = length-rows_from (count_of c.args.view.now) _ _ in
    last_at rows before (c.rows.result - 1) (row_of c.row.result) (omega (arith, many, c.rows.ensures, c.args.view.now.some)) c.row.ensures.row ∙ ap (λ (k : ℕ). Some k) (sym c.key.ensures)
