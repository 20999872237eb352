use Rattle.std.proofs.Common.{ℕ, ◌≤◌, sym, subst}
use Rattle.std.proofs.lemmas.List.{length-map}
use Rattle.fl_table.proofs.table.Table.columns.Goals as goal

pub returns-clause-exact : goal.returns-clause-exact
returns-clause-exact g c = rw length-map c.columns.ensures

pub returns-clause-some : goal.returns-clause-some
returns-clause-some g c = subst (λ (n : ℕ). 1 ≤ n) (sym c.columns.ensures) c.args.self.now.some_columns

pub returns-clause-few : goal.returns-clause-few
returns-clause-few g c = subst (λ (n : ℕ). n ≤ 8) (sym c.columns.ensures) c.args.self.now.few_columns
