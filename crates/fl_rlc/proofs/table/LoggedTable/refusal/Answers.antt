use Rattle.std.proofs.Common.{◌≡◌, ℕ, Bor, true, false, Option, Some, None, List, length, is_some, option_map, refl, sym, ◌∙◌, ap}
use Rattle.fl_table.specs.Refusal.{or_else, put_refusal}
use Rattle.fl_table.specs.declared.faults.PutRefusal.{PutRefusal}
use Rattle.fl_parts.proofs.Sizes.{table-fits}
use Rattle.fl_rlc.specs.Refusal.{log_refused}
use Rattle.fl_rlc.proofs.table.LoggedTable.refusal.Goals as goal

first : (a b : Option PutRefusal) → is_some a ≡ true → a ≡ or_else a b
first (Some refusal) b some = refl
first None b some = cc

second : (a b : Option PutRefusal) → is_some a ≡ false → b ≡ or_else a b
second None b none = refl
second (Some refusal) b none = cc

pub refusal-refused-requires : goal.refusal-refused-requires
refusal-refused-requires g c = table-fits g.row.KNOTS g.row.SLOTS c.args.self.now.table.few_knots c.args.self.now.table.few_slots

pub returns-then-is_some : goal.returns-then-is_some
returns-then-is_some g c =
    let t = c.args.self.now in
    let e = c.refusal-refused.ensures in
    e ∙ first (put_refusal t.table c.args.key c.args.values.now (option_map (λ (b : Bor (List ℕ)). length b.now) c.args.blob)) (log_refused t.log) (ap is_some (sym e) ∙ (sym c.is_some.ensures ∙ c.if-is_some.true))

pub returns : goal.returns
returns g c =
    let t = c.args.self.now in
    let e = c.refusal-refused.ensures in
    c.log_refused.ensures ∙ second (put_refusal t.table c.args.key c.args.values.now (option_map (λ (b : Bor (List ℕ)). length b.now) c.args.blob)) (log_refused t.log) (ap is_some (sym e) ∙ (sym c.is_some.ensures ∙ c.if-is_some.false))
