use Rattle.std.proofs.Common.{◌∙◌, ap, ◌++◌}
use Rattle.fl_plan.specs.Plan.{plan_of_table}
use Rattle.fl_shell.specs.Talk.{counts_text, sizes_text}
use Rattle.fl_shell.proofs.DescribedImage.{held-not, held-both, held-is}
use Rattle.fl_shell.proofs.describe.held.Goals as goal

pub returns-in-Err : goal.returns-in-Err
returns-in-Err g c = λ label config m here.
    let plan = plan_of_table label c.args.table.now in
    held-not config m plan c.args.name c.in-Err.field-0 _ (sizes_text plan) (c.add_sizes.ensures.text label) (c.in-Err.ensures.holds config m here)

pub returns-in-Err-last_key : goal.returns-in-Err-last_key
returns-in-Err-last_key g c = λ label config m here. absurd (held-both config m c.args.name c.in-Ok.counts c.in-Err-last_key.field-0 (c.in-Ok.ensures.holds config m here) (c.in-Err-last_key.ensures.holds config m here))

pub returns : goal.returns
returns g c = λ label config m here.
    let plan = plan_of_table label c.args.table.now in
    held-is config m plan c.args.name c.in-Ok.counts c.in-Ok-last_key.key _ c.add_counts.new.text (sizes_text plan)
    (c.add_counts.ensures.text ∙ (ap (λ l. l ++ counts_text c.in-Ok.counts c.ring_pages-pages.result) (c.add_sizes.ensures.text label) ∙ ap (λ n. sizes_text plan ++ counts_text c.in-Ok.counts n) c.ring_pages-pages.ensures))
    c.add_last.ensures (c.in-Ok.ensures.holds config m here) (c.in-Ok-last_key.ensures.holds config m here)
