use Rattle.std.proofs.Common.{sym, ◌∙◌}
use Rattle.std.proofs.lemmas.Bool.{false≢true}
use Rattle.fl_find.specs.Index.{knots_in}
use Rattle.fl_find.proofs.Further.{further-told}
use Rattle.fl_find.proofs.index.KeyIndex.add_further.Goals as goal

pub returns-then-not-is_further-clause-points : goal.returns-then-not-is_further-clause-points
returns-then-not-is_further-clause-points g c = λ error points of past.
    absurd (false≢true (sym (sym c.is_further.ensures ∙ c.if-not-is_further.true) ∙ further-told points (knots_in c.args.self.now) (c.args.first_key, c.args.number) of.last past))
