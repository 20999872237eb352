use Rattle.std.proofs.Common.{ℕ, List, refl, ◌∙◌, ap, arith}
use Rattle.std.proofs.lemmas.List.{length-take}
use Rattle.fl_flash.specs.Tear.{front_of}
use Rattle.fl_flash.proofs.RangeOperations.{left_is, left_length, rewrites_from}
use Rattle.fl_flash.proofs.programs.program_on.Goals as goal

pub returns-clause-rewrites : goal.returns-clause-rewrites
returns-clause-rewrites g c =
    let old = g.M.Media.state c.args.media.now in
    rewrites_from old old _ c.args.at _ _ _ _ refl refl (omega arith) c.write_at.ensures
    (omega (arith, length-take c.front-n.result c.front-n.new.whole, c.front-n.ensures.fits, left_length c.args.bytes.now _ _ c.args.is_exact c.left_by.ensures c.requires.room)) c.requires.within
    (λ t. c.front-n.ensures.front ∙ ap (λ (l : List ℕ). front_of c.args.tear l) (left_is old c.args.at c.args.bytes.now _ _ c.args.is_exact c.left_by.ensures (λ e. c.requires.exact e t) (λ e. c.requires.read e t)))
