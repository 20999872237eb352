use Rattle.fl_store.proofs.TablesMade.{MadeSoFar}
use Rattle.fl_store.proofs.tables.Tables.plan.Given as goal

abbrev pub invariant-loop-i : goal.invariant-loop-i
invariant-loop-i l = record {
  made : MadeSoFar l.config l.i l.entries.items;
}
