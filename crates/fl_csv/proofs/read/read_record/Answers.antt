use Rattle.std.proofs.Common.{◌≡◌, IfOk, sym, subst, ◌∙◌, Option, List, ℕ}
use Rattle.fl_csv.specs.Lines.{lacks_in, record_put}
use Rattle.fl_csv.specs.Views.{Meant}
use Rattle.fl_csv.proofs.BareLines.{bare-line}
use Rattle.fl_csv.proofs.read.read_record.Goals as goal

pub returns-then-is_bare-clause-means : goal.returns-then-is_bare-clause-means
returns-then-is_bare-clause-means c =
    subst (λ (fields : Option (List (List ℕ))). Meant c.counted.result (record_put c.args.gone c.args.columns c.args.blobs fields)) (sym (bare-line c.args.line.now (sym c.is_bare.ensures ∙ c.if-is_bare.true)))
    (c.counted.ensures.means _ c.bare_fields.ensures)

pub returns-then-is_bare-clause-gone : goal.returns-then-is_bare-clause-gone
returns-then-is_bare-clause-gone c =
    subst (λ (fields : Option (List (List ℕ))). IfOk c.counted.result (λ put. put.gone ≡ lacks_in c.args.gone c.args.columns c.args.blobs fields)) (sym (bare-line c.args.line.now (sym c.is_bare.ensures ∙ c.if-is_bare.true)))
    (c.counted.ensures.gone _ c.bare_fields.ensures)
