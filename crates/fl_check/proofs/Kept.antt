-- A flash that stands for a ring breaks no rule.
use Rattle.std.proofs.Common.{ℕ}
use Rattle.fl_flash.specs.Flash.{FlashState, page_at}
use Rattle.fl_ring.specs.Mounting.{IsGood}
use Rattle.fl_ring.specs.Ring.{Shape, RingState, IsShape}
use Rattle.fl_rules.specs.Numbering.{BreaksFirst}
use Rattle.fl_rules.specs.declared.rule.Rule.{Rule}
use Rattle.fl_rules.specs.declared.rule.Rule.TheVariants.{Head, State, Number, Body, Keys, Entry, Blob, Rest}
use Rattle.fl_check.proofs.GoodNumbers.{numbers_hold}
use Rattle.fl_check.proofs.GoodStates.{good_head, good_states, states_hold}

pub unbroken : (f : FlashState) (r : Shape) (at_least : ℕ) (s : RingState) → IsShape r → IsGood f r at_least s → (rule : Rule) (p : ℕ) → BreaksFirst (page_at f) r at_least rule p → ⊥
unbroken f r at_least s shape good Head p breaks = breaks.0 (good_head r s shape (page_at f) good.on)
unbroken f r at_least s shape good State p breaks = states_hold (page_at f) r breaks.m p (good_states r s shape (page_at f) good.on breaks.m breaks.marks) breaks.breaks
unbroken f r at_least s shape good Number p breaks = numbers_hold f r at_least s shape good breaks.m breaks.marks p breaks.breaks
unbroken f r at_least s shape good Body p breaks = breaks
unbroken f r at_least s shape good Keys p breaks = breaks
unbroken f r at_least s shape good Entry p breaks = breaks
unbroken f r at_least s shape good Blob p breaks = breaks
unbroken f r at_least s shape good Rest p breaks = breaks
