use Rattle.std.proofs.Common.{◌≡◌, Some, None, sym, ◌∙◌, subst, IsTrue, arith, rules}
use Rattle.fl_words.specs.Config.{Lines}
use Rattle.fl_config.specs.Whole.{is_whole}
use Rattle.fl_image.specs.Header.{IsHeaderOf}
use Rattle.fl_image.proofs.ReadBack.{only-header}
use Rattle.fl_image.proofs.header.config_of_header.Goals as goal

pub returns-in_err-config-clause-none : goal.returns-in_err-config-clause-none
returns-in_err-config-clause-none c =
    rw c.from_residual.ensures (λ config accepted is.
    let none : None ≡ Some config = sym c.in_err-config.was ∙ only-header c.args.header.now c.config_of_lines.result config (omega (arith, c.requires)) c.config_of_lines.ensures accepted is in
    cc)

pub returns-then-not-is_complete-clause-none : goal.returns-then-not-is_complete-clause-none
returns-then-not-is_complete-clause-none c config accepted is =
    let some : Some c.in_ok-config.config ≡ Some config =
    sym c.in_ok-config.was ∙ only-header c.args.header.now c.config_of_lines.result config (omega (arith, c.requires)) c.config_of_lines.ensures accepted is in
    let same : config ≡ c.in_ok-config.config = cc in
    let whole : IsTrue (is_whole c.in_ok-config.config) = subst (λ (l : Lines). IsTrue (is_whole l)) same is.whole in
    let no = c.if-not-is_complete.ensures.exact in
    search (rules, whole, no)

pub returns-then-not-is_header_of-clause-none : goal.returns-then-not-is_header_of-clause-none
returns-then-not-is_header_of-clause-none c config accepted is =
    let some : Some c.in_ok-config.config ≡ Some config =
    sym c.in_ok-config.was ∙ only-header c.args.header.now c.config_of_lines.result config (omega (arith, c.requires)) c.config_of_lines.ensures accepted is in
    let same : config ≡ c.in_ok-config.config = cc in
    c.if-not-is_header_of.ensures.no (subst (λ (l : Lines). IsHeaderOf c.args.header.now l) same is)
