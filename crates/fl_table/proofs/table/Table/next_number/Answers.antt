use Rattle.std.proofs.Common.{◌≡◌, Option, option_map, unwrap_or, arith, sym, ◌∙◌, ap}
use Rattle.std.proofs.lemmas.Option.{same_Some}
use Rattle.fl_ring.specs.Place.{next_of, oldest_of}
use Rattle.fl_ring.specs.declared.ring.Ring.{Ring}
use Rattle.fl_table.proofs.Finds.{next-in, oldest-in}
use Rattle.fl_parts.proofs.IndexOfTable.{none-there}
use Rattle.fl_table.proofs.table.Table.next_number.Goals as goal

pub next_number-requires : goal.next_number-requires
next_number-requires g c = tt

pub returns-in-Some-clause-exact : goal.returns-in-Some-clause-exact
returns-in-Some-clause-exact g c = c.next_number.ensures ∙ sym (next-in c.args.self.now c.in-Some.ring c.in-Some.is)

pub returns-in-Some-clause-ordered : goal.returns-in-Some-clause-ordered
returns-in-Some-clause-ordered g c = omega (arith, c.next_number.ensures, oldest-in c.args.self.now c.in-Some.ring c.in-Some.is, c.in-Some.ring.ordered)

pub returns-in-Some-clause-stands : goal.returns-in-Some-clause-stands
returns-in-Some-clause-stands g c = λ f first plan table stands.
    let same : c.in-Some.ring ≡ stands.memory.ring = same_Some c.in-Some.ring stands.memory.ring (sym c.in-Some.is ∙ stands.memory.ring_is) in
    c.next_number.ensures ∙ (ap (λ (r : Ring). next_of r) same ∙ stands.memory.next)

pub returns-in-None-clause-exact : goal.returns-in-None-clause-exact
returns-in-None-clause-exact g c = sym (ap (λ (o : Option Ring). unwrap_or (option_map (λ ring. next_of ring) o) 0) c.in-None.is)

pub returns-in-None-clause-ordered : goal.returns-in-None-clause-ordered
returns-in-None-clause-ordered g c =
    let none : unwrap_or (option_map (λ ring. oldest_of ring) c.args.self.now.ring) 0 ≡ 0 = ap (λ (o : Option Ring). unwrap_or (option_map (λ ring. oldest_of ring) o) 0) c.in-None.is in
    omega (arith, none)

pub returns-in-None-clause-stands : goal.returns-in-None-clause-stands
returns-in-None-clause-stands g c = λ f first plan table stands. absurd (none-there c.args.self.now.ring stands.memory.ring c.in-None.is stands.memory.ring_is)
