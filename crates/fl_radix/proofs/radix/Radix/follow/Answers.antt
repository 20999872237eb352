use Rattle.std.proofs.Common.{ℕ, List, ap, refl, subst, length, arith, sym, ◌∙◌}
use Rattle.fl_base.proofs.Tests.{some_from}
use Rattle.fl_radix.specs.Slots.{IsStart}
use Rattle.fl_radix.specs.Radix.{IsTableOf}
use Rattle.fl_radix.proofs.RisingKnots.{at-push, none-are, none-below, from-none, first-last}
use Rattle.fl_radix.proofs.PassedSlots.{table-filled}
use Rattle.fl_radix.proofs.radix.Radix.follow.Goals as goal

pub loop-slot-preserved : goal.loop-slot-preserved
loop-slot-preserved g c = record {
  filled = omega arith;
  first = c.loop-slot.invariant.first;
  shift = c.loop-slot.invariant.shift;
  small = c.loop-slot.invariant.small;
  within = c.start_of-start.ensures.within;
  before = λ j lt. let before = c.start_of-start.ensures.before j lt in omega (arith, before);
  starts = λ slot lt. rw c.push.ensures.items
      (at-push (λ slot start. IsStart c.as_slice-knots.result.now c.loop-slot.self.shift slot start) c.loop-slot.self.starts.items c.start_of-start.result
      (λ k less. c.loop-slot.invariant.starts k (omega arith))
      (rw c.loop-slot.invariant.filled c.start_of-start.ensures)
      slot (omega arith));
}

pub invariant_of-self : goal.invariant_of-self
invariant_of-self g c = record { two = c.args.self.now.two; small = c.args.self.now.small }

pub returns-then-is_empty : goal.returns-then-is_empty
returns-then-is_empty g c = λ some. none-are _ _ c.is_empty.ensures c.if-is_empty.true (rw c.as_slice-knots.ensures.knots some)

pub bounds-knots-0 : goal.bounds-knots-0
bounds-knots-0 g c = some_from _ (sym c.is_empty.ensures ∙ c.if-is_empty.false)

pub overflow_sub-knots : goal.overflow_sub-knots
overflow_sub-knots g c = some_from _ (sym c.is_empty.ensures ∙ c.if-is_empty.false)

pub overflow_sub-knots-2 : goal.overflow_sub-knots-2
overflow_sub-knots-2 g c = first-last _ (rw c.as_slice-knots.ensures.knots c.as_slice-knots.ensures.rises) (some_from _ (sym c.is_empty.ensures ∙ c.if-is_empty.false))

pub shift_for-self-requires : goal.shift_for-self-requires
shift_for-self-requires g c = c.args.self.now.two

pub invariant_of-self-2 : goal.invariant_of-self-2
invariant_of-self-2 g c = record { two = c.args.self.now.two; small = c.shift_for-self.ensures.small }

pub loop-slot-init : goal.loop-slot-init
loop-slot-init g c = record {
  filled = ap length c.clear.ensures;
  first = refl;
  shift = c.shift_for-self.ensures.least;
  small = c.shift_for-self.ensures.small;
  within = from-none _;
  before = λ j less. none-below j less;
  starts = λ slot less. none-below slot less;
}

pub start_of-start-requires-clause-rises : goal.start_of-start-requires-clause-rises
start_of-start-requires-clause-rises g c = rw c.as_slice-knots.ensures.knots c.as_slice-knots.ensures.rises

pub start_of-start-requires-clause-shift : goal.start_of-start-requires-clause-shift
start_of-start-requires-clause-shift g c = c.loop-slot.invariant.small

pub start_of-start-requires-clause-within : goal.start_of-start-requires-clause-within
start_of-start-requires-clause-within g c = c.loop-slot.invariant.within

pub start_of-start-requires-clause-before : goal.start_of-start-requires-clause-before
start_of-start-requires-clause-before g c = c.loop-slot.invariant.before

pub invariant_of-self-in-loop-slot : goal.invariant_of-self-in-loop-slot
invariant_of-self-in-loop-slot g c = record { two = c.loop-slot.self.two; small = c.loop-slot.invariant.small }

pub returns : goal.returns
returns g c = λ some.
    let i = c.loop-slot.invariant in
    subst (λ (knots : List (ℕ × ℕ)). IsTableOf knots c.loop-slot.self) c.as_slice-knots.ensures.knots
    (table-filled c.as_slice-knots.result.now c.loop-slot.self c.loop-slot.slot i.filled c.loop-slot.auto.slot-end c.loop-slot-test.false i.first i.shift i.starts)
