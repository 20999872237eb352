use Rattle.std.proofs.Common.{◌≡◌, Err, rules}
use Rattle.fl_image.specs.declared.status.ToolStatus.TheVariants.{NotImage}
use Rattle.fl_salvage.proofs.GivenConfig.{given-configured}
use Rattle.fl_salvage.proofs.config.config_of.Goals as goal

pub returns-in-Err-NotImage-clause-configured : goal.returns-in-Err-NotImage-clause-configured
returns-in-Err-NotImage-clause-configured g c =
    let none : c.config_of_image.result ≡ Err NotImage = search rules in
    given-configured c.config_of_input.result (g.M.Media.state c.args.media.now).content (g.S.Source.left c.args.input.now) _ (λ tells. c.config_of_image.ensures.none none tells) c.config_of_input.ensures.given
