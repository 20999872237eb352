use Rattle.std.proofs.Common.{◌≡◌, ◌+◌, ◌-◌, ◌^◌, ◌<◌, ◌≤◌, ℕ, Option}
use Rattle.fl_search.proofs.Pages.{AreVoid}
use Rattle.fl_search.proofs.halves.last_full.Given as goal

abbrev pub invariant-loop-number : goal.invariant-loop-number
invariant-loop-number g l = record {
  within : l.number ≤ l.end;
  bound : l.end - l.number ≤ l.end - l.oldest;
  has : (n : ℕ) → g.K.FirstKeys.has l.initial.keys n → g.K.FirstKeys.has l.keys n;
  tells : (first : ℕ → Option ℕ) → g.K.FirstKeys.tells l.initial.keys first → g.K.FirstKeys.tells l.keys first;
  voids : (first : ℕ → Option ℕ) → g.K.FirstKeys.tells l.initial.keys first → AreVoid first l.number l.end;
  few : g.K.FirstKeys.calls l.keys ≤ g.K.FirstKeys.calls l.initial.keys + (l.end - l.number);
  grows : g.K.FirstKeys.calls l.keys < 2 ^ 64 - 1 → g.K.FirstKeys.calls l.initial.keys ≤ g.K.FirstKeys.calls l.keys;
  names : g.K.FirstKeys.names l.keys ≡ g.K.FirstKeys.names l.initial.keys;
  since : (first : _) → g.K.FirstKeys.since first l.initial.keys → g.K.FirstKeys.since first l.keys;
  later : g.K.FirstKeys.faults l.initial.keys ≤ g.K.FirstKeys.faults l.keys;
}

abbrev pub decreases-loop-number : goal.decreases-loop-number
decreases-loop-number g l = l.number - l.oldest
