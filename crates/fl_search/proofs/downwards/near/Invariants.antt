use Rattle.std.proofs.Common.{◌≡◌, ◌+◌, ◌-◌, ◌≤◌, ℕ, Option}
use Rattle.fl_search.specs.Search.{RoseBy}
use Rattle.fl_search.proofs.Pages.{NoneStarts}
use Rattle.fl_search.proofs.downwards.near.Given as goal

abbrev pub invariant-loop-end : goal.invariant-loop-end
invariant-loop-end g l = record {
  within : l.end ≤ l.top + 1;
  bound : l.top + 1 - l.end ≤ l.top + 1 - l.oldest;
  has : (n : ℕ) → g.K.FirstKeys.has l.initial.keys n → g.K.FirstKeys.has l.keys n;
  tells : (first : ℕ → Option ℕ) → g.K.FirstKeys.tells l.initial.keys first → g.K.FirstKeys.tells l.keys first;
  looked : (first : ℕ → Option ℕ) → g.K.FirstKeys.tells l.initial.keys first → NoneStarts first l.key l.end (l.top + 1);
  rose : RoseBy (l.top + 1 - l.end) (g.K.FirstKeys.calls l.initial.keys) (g.K.FirstKeys.calls l.keys);
  few : g.K.FirstKeys.calls l.keys ≤ g.K.FirstKeys.calls l.initial.keys + (l.top + 1 - l.end);
  names : g.K.FirstKeys.names l.keys ≡ g.K.FirstKeys.names l.initial.keys;
  since : (first : _) → g.K.FirstKeys.since first l.initial.keys → g.K.FirstKeys.since first l.keys;
  later : g.K.FirstKeys.faults l.initial.keys ≤ g.K.FirstKeys.faults l.keys;
}

abbrev pub decreases-loop-end : goal.decreases-loop-end
decreases-loop-end g l = l.end
