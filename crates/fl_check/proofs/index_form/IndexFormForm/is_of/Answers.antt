use Rattle.std.proofs.Common.{◌≡◌, length, sym, ap}
use Rattle.fl_index.specs.declared.page.EntryForm.{EntryForm}
use Rattle.fl_plan.specs.Plan.{plan_of_table}
use Rattle.fl_plan.specs.Refusal.{nameless}
use Rattle.fl_check.proofs.index_form.IndexFormForm.is_of.Goals as goal

pub returns-then-page-self : goal.returns-then-page-self
returns-then-page-self c =
    let config = c.args.self.now.config.now in
    let same : length c.args.page.now ≡ c.args.self.now.config.now.geometry.page = c.if-page-self.true in
    let are = c.args.self.now.entries_are in
    let exact = c.index_page_is_good.ensures (plan_of_table nameless config) (ap (λ (form : EntryForm). form.width) are) (ap (λ (form : EntryForm). form.full) are) (sym same) in
    record { exact = (λ yes. (same, exact.0 yes), λ is. exact.1 is.1) }
