use Rattle.std.proofs.Common.{◌∙◌}
use Rattle.fl_script.proofs.Steps.{on, stops, told}
use Rattle.fl_script.specs.Lines.{HasNoRings}
use Rattle.fl_script.proofs.settings.ring_numbers.Goals as goal

pub returns-in_err-number : goal.returns-in_err-number
returns-in_err-number c =
    told _ _ _ _ (HasNoRings c.args.key.now c.args.rows.now c.args.index.now c.args.var.now) c.from_residual.ensures.1 c.in_err-number.ensures.1 (λ f. stops _ c.in_err-number.ensures.0)

pub returns-in_err-number-2 : goal.returns-in_err-number-2
returns-in_err-number-2 c =
    told _ _ _ _ (HasNoRings c.args.key.now c.args.rows.now c.args.index.now c.args.var.now) c.from_residual-in_err-number-2.ensures.1 c.in_err-number-2.ensures.1 (λ f. on _ c.in_ok-number.ensures ∙ stops _ c.in_err-number-2.ensures.0)

pub returns-in_err-number-3 : goal.returns-in_err-number-3
returns-in_err-number-3 c =
    told _ _ _ _ (HasNoRings c.args.key.now c.args.rows.now c.args.index.now c.args.var.now) c.from_residual-in_err-number-3.ensures.1 c.in_err-number-3.ensures.1 (λ f. on _ c.in_ok-number.ensures ∙ on _ c.in_ok-number-2.ensures ∙ stops _ c.in_err-number-3.ensures.0)

pub returns-in_err-number-4 : goal.returns-in_err-number-4
returns-in_err-number-4 c =
    told _ _ _ _ (HasNoRings c.args.key.now c.args.rows.now c.args.index.now c.args.var.now) c.from_residual-in_err-number-4.ensures.1 c.in_err-number-4.ensures.1 (λ f. on _ c.in_ok-number.ensures ∙ on _ c.in_ok-number-2.ensures ∙ on _ c.in_ok-number-3.ensures ∙ stops _ c.in_err-number-4.ensures.0)

pub returns : goal.returns
returns c = λ f. on _ c.in_ok-number.ensures ∙ on _ c.in_ok-number-2.ensures ∙ on _ c.in_ok-number-3.ensures ∙ on _ c.in_ok-number-4.ensures
