use Rattle.fl_plan.specs.Plan.{plan_of_table, with_log}
use Rattle.fl_shell.proofs.DescribedImage.{beside-not, beside-is}
use Rattle.fl_shell.proofs.LookedState.{looks-same}
use Rattle.fl_shell.proofs.describe.beside.Goals as goal

pub returns-in-Err-clause-tells : goal.returns-in-Err-clause-tells
returns-in-Err-clause-tells g c = λ label config m here.
    beside-not config m (with_log c.args.log_blocks (plan_of_table label c.args.table.now)) c.args.name c.in-Err.field-0 _ _ _ here c.new-text.ensures (c.in-Err.ensures.holds config m here)

pub returns-clause-tells : goal.returns-clause-tells
returns-clause-tells g c = λ label config m here.
    beside-is config m (with_log c.args.log_blocks (plan_of_table label c.args.table.now)) c.args.name c.in-Ok.rings _ _ _ _ c.add_rings.new.text (c.add_rings.ensures.text label) (c.in-Ok.ensures.holds config m here)
    (λ at on there. let a = c.add_blobs.ensures.text label config m at here on there in record { unread = a.unread; looked = a.looked; text_is = a.text_is })

pub returns-in-Err-clause-looks : goal.returns-in-Err-clause-looks
returns-in-Err-clause-looks g c = looks-same _

pub returns-clause-looks : goal.returns-clause-looks
returns-clause-looks g c = c.add_blobs.ensures.looks
