use Rattle.std.proofs.Common.{◌==◌, sum_by, refl}
use Rattle.fl_image.proofs.Reach.{reach}
use Rattle.fl_model.specs.Image.{medium_len}
use Rattle.fl_model.specs.Record.{blocks_of}
use Rattle.fl_words.specs.Medium.{header}
use Rattle.fl_store.proofs.Making.{makes-so, makes-len, makes-blank, makes-empty}
use Rattle.fl_store.proofs.made.make_image.Goals as goal

pub returns-clause-makes : goal.returns-clause-makes
returns-clause-makes g c = λ configured makes. makes-so (medium_len configured) (header configured) (g.M.Media.state c.args.media.now) (g.M.Media.state c.open_image.new.media) c.len-is_new.result (c.len-is_new.result == 0) c.len-is_new.ensures refl (c.in_ok-open_image.ensures configured makes)

pub returns-clause-reach : goal.returns-clause-reach
returns-clause-reach g c = λ geometry device.
    reach c.args.config.now geometry (sum_by blocks_of c.args.config.now.plans) (g.M.Media.state c.open_image.new.media).content (g.M.Media.state c.open_image.new.media).content c.requires device refl
    (λ configured makes. makes-len (medium_len configured) (header configured) (g.M.Media.state c.args.media.now) (g.M.Media.state c.open_image.new.media) (c.len-is_new.result == 0)
    (makes-so (medium_len configured) (header configured) (g.M.Media.state c.args.media.now) (g.M.Media.state c.open_image.new.media) c.len-is_new.result (c.len-is_new.result == 0) c.len-is_new.ensures refl (c.in_ok-open_image.ensures configured makes)))
    refl

pub returns-clause-blank : goal.returns-clause-blank
returns-clause-blank g c = λ is told geometry device.
    makes-blank c.args.config.now (g.M.Media.state c.args.media.now) (g.M.Media.state c.open_image.new.media) (c.len-is_new.result == 0) c.requires
    (λ configured makes. makes-so (medium_len configured) (header configured) (g.M.Media.state c.args.media.now) (g.M.Media.state c.open_image.new.media) c.len-is_new.result (c.len-is_new.result == 0) c.len-is_new.ensures refl (c.in_ok-open_image.ensures configured makes))
    is told geometry device

pub returns-clause-empty : goal.returns-clause-empty
returns-clause-empty g c =
    makes-empty c.args.config.now (g.M.Media.state c.args.media.now) (g.M.Media.state c.open_image.new.media) (c.len-is_new.result == 0)
    (λ configured makes. makes-so (medium_len configured) (header configured) (g.M.Media.state c.args.media.now) (g.M.Media.state c.open_image.new.media) c.len-is_new.result (c.len-is_new.result == 0) c.len-is_new.ensures refl (c.in_ok-open_image.ensures configured makes))
