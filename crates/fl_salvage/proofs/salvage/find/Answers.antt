use Rattle.std.proofs.Common.{arith}
use Rattle.std.proofs.lemmas.Option.{slice_get_within}
use Rattle.fl_model.proofs.Names.{names-differ}
use Rattle.fl_salvage.proofs.SalvageEnds.{others-more}
use Rattle.fl_salvage.proofs.salvage.find.Goals as goal

pub loop-at-preserved : goal.loop-at-preserved
loop-at-preserved c = record {
  others = others-more c.args.config.now.plans c.args.name c.name.result c.loop-at.at c.loop-at.invariant.others c.name.ensures
      (names-differ c.bytes.result.now c.bytes-in-loop-at.result.now c.name.result c.args.name c.eq.result c.bytes.ensures.same c.bytes-in-loop-at.ensures.same c.eq.ensures c.if-eq.false);
}

pub returns-clause-none : goal.returns-clause-none
returns-clause-none c at plan here named =
    c.loop-at.invariant.others at plan (omega (arith, slice_get_within c.args.config.now.plans at plan here, c.tables-at-end.ensures.exact, c.loop-at-test.false)) here named
