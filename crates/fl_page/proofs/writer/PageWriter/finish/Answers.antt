use Rattle.std.proofs.Common.{◌∙◌, ap, rules, sym, subst, arith}
use Rattle.std.proofs.lemmas.Grind.{common_steps}
use Rattle.fl_page.specs.Writer.{Gathers}
use Rattle.fl_page.specs.WriterState.{WriterState}
use Rattle.fl_page.proofs.WriterSteps.{Gathers-body, Gathers-finished}
use Rattle.fl_page.proofs.writer.PageWriter.finish.Goals as goal

pub returns-clause-exact : goal.returns-clause-exact
returns-clause-exact c = grind (arith, common_steps)

pub returns-clause-body : goal.returns-clause-body
returns-clause-body c = λ layout rows is. ap (λ (w : WriterState). w.body) (returns-clause-exact c) ∙ Gathers-body layout rows c.args.self.now c.args.number c.args.bitmap (search rules) is

pub returns-clause-rows : goal.returns-clause-rows
returns-clause-rows c = λ layout rows is.
    let P : WriterState → Type 0 = λ w. Gathers layout rows w in
    subst P (sym (returns-clause-exact c)) (Gathers-finished layout rows c.args.self.now c.args.number c.args.bitmap (search rules) is)
