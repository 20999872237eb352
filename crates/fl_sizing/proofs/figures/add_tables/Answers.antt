use Rattle.std.proofs.Common.{List, ℕ, ◌++◌, take, sym, ◌∙◌, ap, arith}
use Rattle.std.specs.List.{flat_map}
use Rattle.fl_base.proofs.Chains.{more}
use Rattle.fl_sizing.specs.Text.{named_text, table_text}
use Rattle.fl_sizing.proofs.Tables.{next-text}
use Rattle.fl_sizing.proofs.figures.add_tables.Goals as goal

pub loop-i-preserved : goal.loop-i-preserved
loop-i-preserved c =
    let l = c.args.text.now.items in
    let before = flat_map (table_text c.args.interval) (take c.loop-i.i c.args.config.now.plans) in
    more l before (named_text c.args.interval c.name-name.result c.of-sizes.result) c.loop-i.text.items c.add_table.new.text.items c.loop-i.invariant c.in_ok-add_table.ensures
    ∙ ap (λ (t : List ℕ). l ++ t) (sym (next-text c.args.interval c.args.config.now.plans c.loop-i.i c.name-name.result c.table.result.now c.log.result c.of-sizes.result (omega (arith, c.loop-i-test.true, c.tables-i-end.ensures.exact)) c.name-name.ensures c.table.ensures.plan c.log.ensures.place c.of-sizes.ensures.exact))
