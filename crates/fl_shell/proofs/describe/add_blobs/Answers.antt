use Rattle.std.proofs.Common.{Some, None, ◌∙◌, sym}
use Rattle.fl_plan.specs.Plan.{plan_of_table}
use Rattle.fl_shell.proofs.DescribedImage.{blobs-none, blobs-told, blobs-unread}
use Rattle.fl_shell.proofs.LookedState.{looks-same, oldest-looks}
use Rattle.fl_shell.proofs.describe.add_blobs.Goals as goal

pub returns-then-var_blocks-eq0-clause-text : goal.returns-then-var_blocks-eq0-clause-text
returns-then-var_blocks-eq0-clause-text g c = λ label config m at here on there.
    blobs-none config m (plan_of_table label c.args.table.now) at.table _ _ _ here (sym c.var_blocks.ensures ∙ c.if-var_blocks-eq0.true)

pub returns-in-Ok-Some-clause-text : goal.returns-in-Ok-Some-clause-text
returns-in-Ok-Some-clause-text g c = λ label config m at here on there.
    blobs-told config m (plan_of_table label c.args.table.now) c.args.name at _ _ _ _ _ (λ none. c.if-var_blocks-eq0.false (c.var_blocks.ensures ∙ none)) on there (Some c.in-Ok-Some.key) c.add_figure.ensures.text (rw c.in-Ok-Some.field-0-is at (c.in-Ok-Some.ensures.looks config m here))

pub returns-in-Ok-None-clause-text : goal.returns-in-Ok-None-clause-text
returns-in-Ok-None-clause-text g c = λ label config m at here on there.
    blobs-told config m (plan_of_table label c.args.table.now) c.args.name at _ _ _ _ _ (λ none. c.if-var_blocks-eq0.false (c.var_blocks.ensures ∙ none)) on there None c.add.ensures (rw c.in-Ok-None.field-0-is at (c.in-Ok-None.ensures.looks config m here))

pub returns-in-Err-clause-text : goal.returns-in-Err-clause-text
returns-in-Err-clause-text g c = λ label config m at here on there.
    blobs-unread config m (plan_of_table label c.args.table.now) c.args.name at _ _ _ _ _ (λ none. c.if-var_blocks-eq0.false (c.var_blocks.ensures ∙ none)) on there c.in-Err.field-0 c.add-in-Err.ensures (c.in-Err.ensures.looks config m here)

pub returns-then-var_blocks-eq0-clause-looks : goal.returns-then-var_blocks-eq0-clause-looks
returns-then-var_blocks-eq0-clause-looks g c = looks-same _

pub returns-in-Ok-Some-clause-looks : goal.returns-in-Ok-Some-clause-looks
returns-in-Ok-Some-clause-looks g c = oldest-looks _ _ c.args.name c.oldest_blob.result c.oldest_blob.ensures.cause

pub returns-in-Ok-None-clause-looks : goal.returns-in-Ok-None-clause-looks
returns-in-Ok-None-clause-looks g c = oldest-looks _ _ c.args.name c.oldest_blob.result c.oldest_blob.ensures.cause

pub returns-in-Err-clause-looks : goal.returns-in-Err-clause-looks
returns-in-Err-clause-looks g c = oldest-looks _ _ c.args.name c.oldest_blob.result c.oldest_blob.ensures.cause
