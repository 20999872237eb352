use Rattle.std.proofs.Common.{arith, ◌+◌, ◌-◌, ◌<◌, ◌≤◌}
use Rattle.fl_radix.specs.Radix.{shift_of}
use Rattle.fl_radix.specs.Slots.{slot_of, last_key}
use Rattle.fl_radix.proofs.RisingKnots.{slot-within, slot-between, slot-last}
use Rattle.fl_radix.proofs.radix.Radix.knots_near.Goals as goal

pub returns-then-slot : goal.returns-then-slot
returns-then-slot g c =
    let table = c.requires.table in
    let ks = c.args.knots.now in
    let shift = shift_of c.args.self.now in
    let slot = slot_of ks shift c.args.key in
    let less : slot_of ks shift c.args.key < g.row.SLOTS - 1 = rw table.first at c.if-slot.true in
    rw (c.deref.ensures.0, c.deref-then-slot.ensures.0, table.first)
    (slot-between ks shift slot _ _ (table.starts slot (omega (arith, less))) (table.starts (slot + 1) (omega (arith, less))))

pub returns-else-slot : goal.returns-else-slot
returns-else-slot g c =
    let table = c.requires.table in
    let ks = c.args.knots.now in
    let shift = shift_of c.args.self.now in
    let slot = slot_of ks shift c.args.key in
    let most : g.row.SLOTS - 1 ≤ slot_of ks shift c.args.key = rw table.first at c.if-slot.false in
    let within = slot-within ks g.row.SLOTS shift c.args.key table.shift.fits c.requires.high in
    let last : slot_of ks shift (last_key ks) ≤ slot_of ks shift c.args.key = omega (arith, table.shift.fits, most) in
    rw (c.deref.ensures.0, table.first) (slot-last ks shift slot _ c.requires.rises c.requires.some (table.starts slot within) last)
