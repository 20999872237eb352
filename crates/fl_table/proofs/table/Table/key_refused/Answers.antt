use Rattle.std.proofs.Common.{ℕ, Option, nat_le, sym, ◌∙◌, ap}
use Rattle.fl_table.specs.Refusal.{key_refused}
use Rattle.fl_table.specs.declared.faults.PutRefusal.TheVariants.{Key}
use Rattle.fl_table.proofs.Refusing.{then-refused}
use Rattle.fl_table.proofs.table.Table.key_refused.Goals as goal

pub returns-in_err-last : goal.returns-in_err-last
returns-in_err-last g c = c.from_residual.ensures ∙ ap (λ (last : Option ℕ). key_refused last c.args.key) (sym c.in_err-last.was)

pub returns : goal.returns
returns g c = c.then_some.ensures ∙ (then-refused (nat_le c.args.key c.in_ok-last.last) (Key c.in_ok-last.last) ∙ ap (λ (last : Option ℕ). key_refused last c.args.key) (sym c.in_ok-last.was))
