use Rattle.std.proofs.Common.{◌≡◌, None, Some, true, refl, sym, ◌∙◌, ap}
use Rattle.std.proofs.lemmas.Result.{IfErr-weaker, IfOk-weaker}
use Rattle.fl_ring.specs.Newest.{commits}
use Rattle.fl_schema.specs.Schema.{layout_of}
use Rattle.fl_parts.specs.ByEntries.{is_committed, read_fault}
use Rattle.fl_parts.specs.Faults.{is_refused}
use Rattle.fl_parts.proofs.Refused.{refused-refused}
use Rattle.fl_parts.proofs.Unlisted.{read-faulty, read-fine, told-read}
use Rattle.fl_parts.proofs.load.told_rows.Goals as goal

pub returns-clause-fine : goal.returns-clause-fine
returns-clause-fine c =
    let layout = layout_of c.args.schema.now in
    let bytes = c.args.bytes.now in
    let is : is_committed bytes ≡ true = ap commits (sym c.state_of.ensures ∙ c.in-Committed.is) in
    IfOk-weaker c.rows_in.result _ (λ page. read_fault layout c.args.number bytes true c.args.last ≡ None) (λ page h. told-read layout c.args.number bytes c.args.last is ∙ read-fine layout c.args.number bytes c.args.last h) c.rows_in.ensures.read

pub returns-clause-page : goal.returns-clause-page
returns-clause-page c = c.rows_in.ensures.page

pub returns-clause-last : goal.returns-clause-last
returns-clause-last c = c.rows_in.ensures.last

pub returns-clause-fault : goal.returns-clause-fault
returns-clause-fault c =
    let layout = layout_of c.args.schema.now in
    let bytes = c.args.bytes.now in
    let is : is_committed bytes ≡ true = ap commits (sym c.state_of.ensures ∙ c.in-Committed.is) in
    IfErr-weaker c.rows_in.result _ (λ e. read_fault layout c.args.number bytes true c.args.last ≡ Some e) (λ e h. told-read layout c.args.number bytes c.args.last is ∙ read-faulty layout c.args.number bytes c.args.last e h) c.rows_in.ensures.fault

pub returns-clause-only : goal.returns-clause-only
returns-clause-only c = IfErr-weaker c.rows_in.result _ (λ e. is_refused e ≡ true) (λ e h. refused-refused (layout_of c.args.schema.now) c.args.number c.args.bytes.now c.args.last e h) c.rows_in.ensures.fault

pub returns-in_default-clause-fine : goal.returns-in_default-clause-fine
returns-in_default-clause-fine c = tt

pub returns-in_default-clause-page : goal.returns-in_default-clause-page
returns-in_default-clause-page c = tt

pub returns-in_default-clause-last : goal.returns-in_default-clause-last
returns-in_default-clause-last c = tt

pub returns-in_default-clause-only : goal.returns-in_default-clause-only
returns-in_default-clause-only c = refl
