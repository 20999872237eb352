use Rattle.std.proofs.Common.{ℕ, arith, rules, subst, le_of_lt, ◌<◌, ◌≤◌, ◌-◌, length, sym, ◌∙◌}
use Rattle.fl_spline.specs.Points.{Rises}
use Rattle.fl_spline.specs.Segment.{IsSegment}
use Rattle.fl_spline.specs.Spline.{kept}
use Rattle.fl_radix.specs.Radix.{IsTableOf, shift_of}
use Rattle.fl_base.proofs.BitsGrow.{bits-one}
use Rattle.fl_base.proofs.Tests.{some_from}
use Rattle.fl_radix.proofs.RisingKnots.{segment-in-slot, few-in-slot, most-in-slot, none-in-slot, length-range, rises-range}
use Rattle.fl_radix.proofs.radix.Radix.segment.Goals as goal

pub knots_near-from-requires : goal.knots_near-from-requires
knots_near-from-requires g c =
    let ks = c.as_slice-knots.result.now in
    let some : 0 < length c.as_slice-knots.result.now = some_from _ (sym c.is_empty.ensures ∙ c.if-is_empty.false) in
    let rises : Rises c.as_slice-knots.result.now = rw c.as_slice-knots.ensures.knots c.as_slice-knots.ensures.rises in
    let table : IsTableOf c.as_slice-knots.result.now c.args.self.now
    = rw c.as_slice-knots.ensures.knots (c.requires (rw c.as_slice-knots.ensures.knots at some)) in
    (search rules, (some, (rises, (table, (rw table.first at c.if-key-self.false, le_of_lt c.if-knots-key.false)))))

pub knots_up_to-requires : goal.knots_up_to-requires
knots_up_to-requires g c =
    let rises : Rises c.as_slice-knots.result.now = rw c.as_slice-knots.ensures.knots c.as_slice-knots.ensures.rises in
    rises-range c.as_slice-knots.result.now c.knots_near-from.result.0 c.knots_near-from.result.1 rises

pub overflow_sub-result-2 : goal.overflow_sub-result-2
overflow_sub-result-2 g c =
    let ks = c.as_slice-knots.result.now in
    let from = c.knots_near-from.result.0 in
    let to = c.knots_near-from.result.1 in
    let some : 0 < length c.as_slice-knots.result.now = some_from _ (sym c.is_empty.ensures ∙ c.if-is_empty.false) in
    let table : IsTableOf c.as_slice-knots.result.now c.args.self.now
    = rw c.as_slice-knots.ensures.knots (c.requires (rw c.as_slice-knots.ensures.knots at some)) in
    (segment-in-slot ks (shift_of c.args.self.now) c.args.key from to c.knots_up_to.result some (rw table.first at c.if-key-self.false) c.knots_near-from.ensures
    (subst (λ (n : ℕ). c.knots_up_to.result ≤ n) (length-range ks from to c.knots_near-from.ensures.within) c.knots_up_to.ensures.within) c.knots_up_to.ensures.before c.knots_up_to.ensures.after).0

pub returns-clause-segment : goal.returns-clause-segment
returns-clause-segment g c =
    let ks = c.as_slice-knots.result.now in
    let from = c.knots_near-from.result.0 in
    let to = c.knots_near-from.result.1 in
    let some : 0 < length c.as_slice-knots.result.now = some_from _ (sym c.is_empty.ensures ∙ c.if-is_empty.false) in
    let table : IsTableOf c.as_slice-knots.result.now c.args.self.now
    = rw c.as_slice-knots.ensures.knots (c.requires (rw c.as_slice-knots.ensures.knots at some)) in
    rw c.as_slice-knots.ensures.knots at
    ((segment-in-slot ks (shift_of c.args.self.now) c.args.key from to c.knots_up_to.result some (rw table.first at c.if-key-self.false) c.knots_near-from.ensures
    (subst (λ (n : ℕ). c.knots_up_to.result ≤ n) (length-range ks from to c.knots_near-from.ensures.within) c.knots_up_to.ensures.within) c.knots_up_to.ensures.before c.knots_up_to.ensures.after).1)

pub returns-clause-few : goal.returns-clause-few
returns-clause-few g c =
    let ks = c.as_slice-knots.result.now in
    let some : 0 < length c.as_slice-knots.result.now = some_from _ (sym c.is_empty.ensures ∙ c.if-is_empty.false) in
    let table : IsTableOf c.as_slice-knots.result.now c.args.self.now
    = rw c.as_slice-knots.ensures.knots (c.requires (rw c.as_slice-knots.ensures.knots at some)) in
    let few = few-in-slot ks (shift_of c.args.self.now) c.args.key c.knots_near-from.result.0 c.knots_near-from.result.1 c.knots_near-from.ensures
    (rw table.first at c.if-key-self.false) (le_of_lt c.if-knots-key.false) (omega arith) in
    rw (← c.as_slice-knots.ensures.knots) (omega (arith, few, c.knots_up_to.ensures.few))

pub returns-clause-least : goal.returns-clause-least
returns-clause-least g c = λ known. λ below. λ less.
    let ks = c.as_slice-knots.result.now in
    let some : 0 < length c.as_slice-knots.result.now = some_from _ (sym c.is_empty.ensures ∙ c.if-is_empty.false) in
    let table : IsTableOf c.as_slice-knots.result.now c.args.self.now
    = rw c.as_slice-knots.ensures.knots (c.requires (rw c.as_slice-knots.ensures.knots at some)) in
    let most = most-in-slot ks (shift_of c.args.self.now) c.args.key c.knots_near-from.result.0 c.knots_near-from.result.1 c.knots_near-from.ensures
    (rw table.first at c.if-key-self.false) (le_of_lt c.if-knots-key.false) (omega arith) in
    rw (← c.as_slice-knots.ensures.knots) (omega (arith, most, c.knots_up_to.ensures.least less))

pub returns-then-key-self-clause-least : goal.returns-then-key-self-clause-least
returns-then-key-self-clause-least g c = λ known. λ below. λ less.
    let table : IsTableOf (kept c.args.spline.now) c.args.self.now = c.requires known in
    let one = bits-one _ (none-in-slot (kept c.args.spline.now) (shift_of c.args.self.now) c.args.key (omega (arith, table.first, c.if-key-self.true))) in
    omega (arith, one, less)

pub returns-then-knots-key-clause-segment : goal.returns-then-knots-key-clause-segment
returns-then-knots-key-clause-segment g c =
    let some : 0 < length c.as_slice-knots.result.now = some_from _ (sym c.is_empty.ensures ∙ c.if-is_empty.false) in
    let last : IsSegment c.as_slice-knots.result.now c.args.key (length c.as_slice-knots.result.now - 1) = record {
      within = omega (arith, some);
      at_most = c.if-knots-key.true;
      last = λ j start end. absurd (omega (arith, start, end));
    } in
    subst (λ ks. IsSegment ks c.args.key (length c.as_slice-knots.result.now - 1)) c.as_slice-knots.ensures.knots last
