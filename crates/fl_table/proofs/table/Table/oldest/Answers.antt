use Rattle.std.proofs.Common.{◌≡◌, Option, option_map, unwrap_or, sym, ◌∙◌, ap}
use Rattle.std.proofs.lemmas.Option.{same_Some}
use Rattle.fl_ring.specs.Place.{oldest_of}
use Rattle.fl_ring.specs.declared.ring.Ring.{Ring}
use Rattle.fl_table.proofs.Finds.{oldest-in}
use Rattle.fl_parts.proofs.IndexOfTable.{none-there}
use Rattle.fl_table.proofs.table.Table.oldest.Goals as goal

pub oldest-requires : goal.oldest-requires
oldest-requires g c = tt

pub returns-in-Some-clause-exact : goal.returns-in-Some-clause-exact
returns-in-Some-clause-exact g c = c.oldest.ensures ∙ sym (oldest-in c.args.self.now c.in-Some.ring c.in-Some.is)

pub returns-in-Some-clause-stands : goal.returns-in-Some-clause-stands
returns-in-Some-clause-stands g c = λ f first plan table stands.
    let same : c.in-Some.ring ≡ stands.memory.ring = same_Some c.in-Some.ring stands.memory.ring (sym c.in-Some.is ∙ stands.memory.ring_is) in
    c.oldest.ensures ∙ (ap (λ (r : Ring). oldest_of r) same ∙ stands.memory.oldest)

pub returns-in-None-clause-exact : goal.returns-in-None-clause-exact
returns-in-None-clause-exact g c = sym (ap (λ (o : Option Ring). unwrap_or (option_map (λ ring. oldest_of ring) o) 0) c.in-None.is)

pub returns-in-None-clause-stands : goal.returns-in-None-clause-stands
returns-in-None-clause-stands g c = λ f first plan table stands. absurd (none-there c.args.self.now.ring stands.memory.ring c.in-None.is stands.memory.ring_is)
