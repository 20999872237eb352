use Rattle.std.proofs.Common.{◌≡◌, ℕ, ◌<◌, Some}
use Rattle.std.specs.List.{slice_get}
use Rattle.fl_model.specs.Record.{Plan}
use Rattle.fl_salvage.proofs.salvage.find.Given as goal

abbrev pub invariant-loop-at : goal.invariant-loop-at
invariant-loop-at l = record {
  others : (i : ℕ) (plan : Plan) → i < l.at → slice_get l.config.plans i ≡ Some plan → plan.name ≡ l.name → ⊥;
}
