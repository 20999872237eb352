use Rattle.std.proofs.Common.{◌≤◌, ◌<◌, ℕ}
use Rattle.std.specs.Prelude.{IfSome}
use Rattle.fl_parts.specs.Coming.{loaded_full}
use Rattle.fl_parts.proofs.by_entries.bad_entry.Given as goal

abbrev pub invariant-loop-number : goal.invariant-loop-number
invariant-loop-number l = record {
  fine : (before : ℕ) → l.initial.from ≤ before → before < l.number → IfSome (loaded_full l.bitmaps before) (λ full. full.count ≤ l.limit);
}
