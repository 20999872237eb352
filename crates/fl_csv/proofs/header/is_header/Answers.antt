use Rattle.std.proofs.Common.{◌≡◌, Some, sym, subst, ◌∙◌, Option, List, ℕ}
use Rattle.std.specs.Bool.{OnTrue, OnFalse}
use Rattle.fl_csv.specs.Text.{header_fields}
use Rattle.fl_csv.proofs.BareLines.{bare-line}
use Rattle.fl_csv.proofs.header.is_header.Goals as goal

pub returns-then-is_bare-clause-yes : goal.returns-then-is_bare-clause-yes
returns-then-is_bare-clause-yes c =
    subst (λ (fields : Option (List (List ℕ))). OnTrue c.has_names.result (fields ≡ Some (header_fields c.args.columns c.args.blobs))) (sym (bare-line c.args.line.now (sym c.is_bare.ensures ∙ c.if-is_bare.true)))
    (c.has_names.ensures.yes _ c.bare_fields.ensures)

pub returns-then-is_bare-clause-no : goal.returns-then-is_bare-clause-no
returns-then-is_bare-clause-no c =
    subst (λ (fields : Option (List (List ℕ))). OnFalse c.has_names.result (fields ≡ Some (header_fields c.args.columns c.args.blobs) → ⊥)) (sym (bare-line c.args.line.now (sym c.is_bare.ensures ∙ c.if-is_bare.true)))
    (c.has_names.ensures.no _ c.bare_fields.ensures)
