use Rattle.std.proofs.Common.{arith, refl, ◌<◌, length, sym, ◌∙◌}
use Rattle.fl_base.proofs.Tests.{some_from}
use Rattle.fl_spline.specs.Points.{Rises, LastMoved}
use Rattle.fl_radix.specs.Radix.{IsTableOf}
use Rattle.fl_radix.specs.Slots.{slot_of, last_key}
use Rattle.fl_radix.proofs.RisingKnots.{none-are, first-last}
use Rattle.fl_radix.proofs.PassedSlots.{table-moved, passed-refilled}
use Rattle.fl_radix.proofs.radix.Radix.follow_last.Goals as goal

pub returns : goal.returns
returns g c = λ knots follows moved some.
    let ks = c.as_slice-knots.result.now in
    let same = c.as_slice-knots.ensures.knots in
    let r = c.args.self.now in
    let up : Rises c.as_slice-knots.result.now = rw same c.as_slice-knots.ensures.rises in
    let on : LastMoved knots c.as_slice-knots.result.now = rw same moved in
    let here : 0 < length c.as_slice-knots.result.now = rw same some in
    let table : IsTableOf knots c.args.self.now = follows (omega (arith, moved.count, some)) in
    let fits : slot_of c.as_slice-knots.result.now c.args.self.now.shift (last_key c.as_slice-knots.result.now) < g.row.SLOTS = omega (arith, table.slots, c.if-slot-len.false, c.len.ensures.value) in
    rw (← same)
    (table-moved knots ks (slot_of ks r.shift (last_key ks)) r _ up here on table refl fits
    (passed-refilled _ _ r.starts.items c.as_mut_slice.result.now c.pass_last.new.starts c.as_mut_slice.ensures.value c.pass_last.ensures) refl refl)

pub returns-then-is_empty : goal.returns-then-is_empty
returns-then-is_empty g c = λ knots follows moved some. none-are _ _ c.is_empty.ensures c.if-is_empty.true (rw c.as_slice-knots.ensures.knots some)

pub overflow_sub-last : goal.overflow_sub-last
overflow_sub-last g c = some_from _ (sym c.is_empty.ensures ∙ c.if-is_empty.false)

pub bounds-knots-0 : goal.bounds-knots-0
bounds-knots-0 g c = some_from _ (sym c.is_empty.ensures ∙ c.if-is_empty.false)

pub overflow_sub-slot : goal.overflow_sub-slot
overflow_sub-slot g c = first-last _ (rw c.as_slice-knots.ensures.knots c.as_slice-knots.ensures.rises) (some_from _ (sym c.is_empty.ensures ∙ c.if-is_empty.false))

pub overflow_shr-slot : goal.overflow_shr-slot
overflow_shr-slot g c = c.args.self.now.small

pub returns-then-slot-len : goal.returns-then-slot-len
returns-then-slot-len g c = λ knots follows moved. c.follow.ensures

pub invariant_of-self : goal.invariant_of-self
invariant_of-self g c = record { two = c.args.self.now.two; small = c.args.self.now.small }
