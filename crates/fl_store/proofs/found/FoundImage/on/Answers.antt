use Rattle.std.proofs.Common.{Err, inl, refl, ap}
use Rattle.fl_image.proofs.Reach.{reach}
use Rattle.fl_image.specs.declared.status.ToolStatus.{ToolStatus}
use Rattle.fl_store.proofs.Called.{err-is}
use Rattle.fl_store.proofs.Opened.{same-lines, finds-not}
use Rattle.fl_store.proofs.found.FoundImage.on.Goals as goal

pub returns-in_default-clause-finds : goal.returns-in_default-clause-finds
returns-in_default-clause-finds g c = λ config tables tells made image. inl refl

pub returns-in_err-config-clause-finds : goal.returns-in_err-config-clause-finds
returns-in_err-config-clause-finds g c =
    rw (err-is c.from_residual.result _ c.from_residual.ensures.1) (λ config tables tells made image.
    finds-not config made (g.M.Media.state c.args.media.now).content tables c.in_err-config.field-0.0 image c.in_err-config.ensures.statuses (λ is. c.in_err-config.ensures.none (ap (λ (s : ToolStatus). Err s) is) tells))

pub returns-in_default-new-clause-finds : goal.returns-in_default-new-clause-finds
returns-in_default-new-clause-finds g c = λ config tables tells made image. inl refl

pub returns-clause-finds : goal.returns-clause-finds
returns-clause-finds g c = λ config tables tells made image.
    let found = c.in_ok-config.ensures.image tells in
    same-lines config made (g.M.Media.state c.args.media.now).content tables c.in_ok-config.config image found.0 found.1

pub returns-clause-reach : goal.returns-clause-reach
returns-clause-reach g c = λ geometry device.
    reach c.in_ok-config.config geometry _ (g.M.Media.state c.args.media.now).content (g.M.Media.state c.config_of_image.new.media).content c.in_ok-config.ensures.whole device refl c.in_ok-config.ensures.size c.in_ok-config.ensures.looks.content
