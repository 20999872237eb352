use Rattle.std.proofs.Common.{◌≡◌, ℕ, ◌<◌, Some, slice_get}
use Rattle.fl_store.specs.declared.tables.Entry.{Entry}
use Rattle.fl_store.proofs.tables.Tables.find.Given as goal

abbrev pub invariant-loop-at : goal.invariant-loop-at
invariant-loop-at l = record {
  others : (i : ℕ) (other : Entry) → i < l.at → slice_get l.self.entries.items i ≡ Some other → other.name ≡ l.name → ⊥;
}
