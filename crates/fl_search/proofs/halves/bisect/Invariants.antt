use Rattle.std.proofs.Common.{◌≡◌, ◌+◌, ◌-◌, ◌^◌, ◌<◌, ◌≤◌, ℕ, max, Option}
use Rattle.std.specs.Prelude.{IfSome}
use Rattle.fl_base.specs.Bits.{bits}
use Rattle.fl_search.specs.Search.{IsPageOf, Ascends, RoseSome, voids_in}
use Rattle.fl_search.proofs.Pages.{NoneStarts}
use Rattle.fl_search.proofs.halves.bisect.Given as goal

abbrev pub invariant-loop-low : goal.invariant-loop-low
invariant-loop-low g l = record {
  from : l.oldest ≤ l.low;
  to : l.high ≤ l.end;
  low : l.low ≤ max l.oldest l.end;
  has : (n : ℕ) → g.K.FirstKeys.has l.initial.keys n → g.K.FirstKeys.has l.keys n;
  tells : (first : ℕ → Option ℕ) → g.K.FirstKeys.tells l.initial.keys first → g.K.FirstKeys.tells l.keys first;
  found : (first : ℕ → Option ℕ) → g.K.FirstKeys.tells l.initial.keys first → IsPageOf first l.oldest l.low l.key l.found;
  beyond : (first : ℕ → Option ℕ) → g.K.FirstKeys.tells l.initial.keys first → Ascends first l.oldest l.end → NoneStarts first l.key l.high l.end;
  most : g.K.FirstKeys.calls l.keys + (l.high - l.low) ≤ g.K.FirstKeys.calls l.initial.keys + (l.end - l.oldest);
  few : (first : ℕ → Option ℕ) → g.K.FirstKeys.tells l.initial.keys first
      → g.K.FirstKeys.calls l.keys + bits (l.high - l.low) + voids_in first l.low l.high ≤ g.K.FirstKeys.calls l.initial.keys + bits (l.end - l.oldest) + voids_in first l.oldest l.end;
  within : IfSome l.found (λ page. (l.oldest ≤ page) × (page < l.end));
  some : IfSome l.found (λ page. RoseSome (g.K.FirstKeys.calls l.initial.keys) (g.K.FirstKeys.calls l.keys));
  grows : g.K.FirstKeys.calls l.keys < 2 ^ 64 - 1 → g.K.FirstKeys.calls l.initial.keys ≤ g.K.FirstKeys.calls l.keys;
  names : g.K.FirstKeys.names l.keys ≡ g.K.FirstKeys.names l.initial.keys;
  since : (first : _) → g.K.FirstKeys.since first l.initial.keys → g.K.FirstKeys.since first l.keys;
  later : g.K.FirstKeys.faults l.initial.keys ≤ g.K.FirstKeys.faults l.keys;
}

abbrev pub decreases-loop-low : goal.decreases-loop-low
decreases-loop-low g l = l.high - l.low
