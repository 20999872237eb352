use Rattle.std.proofs.Common.{Some, sym, ap, subst}
use Rattle.fl_model.specs.Bare.{bare, bare_table}
use Rattle.fl_table.specs.Standing.{Stands}
use Rattle.fl_table.specs.declared.table.Table.{Table}
use Rattle.fl_table.specs.declared.counts.TableCounts.{TableCounts}
use Rattle.fl_import.proofs.import.kept_rows.Goals as goal

pub returns-in-Done-clause-rows : goal.returns-in-Done-clause-rows
returns-in-Done-clause-rows c = λ f first plan t done stands.
    ap (λ (n : TableCounts). Some n.rows) (c.counts.ensures.stands f first (bare plan) (bare_table t) (subst (λ (u : Table 64 64). Stands u f first (bare plan) (bare_table t)) (sym c.table.ensures) stands.unlogged))
