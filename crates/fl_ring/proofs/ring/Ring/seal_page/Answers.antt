use Rattle.std.proofs.Common.{ℕ, List, subst, arith}
use Rattle.fl_flash.specs.Flash.{ProgramsPair}
use Rattle.fl_ring.proofs.Exists.{lies_exists}
use Rattle.fl_ring.proofs.SealPages.{seals_page}
use Rattle.fl_ring.proofs.ring.Ring.seal_page.Goals as goal

pub program_pair-requires-clause-exists : goal.program_pair-requires-clause-exists
program_pair-requires-clause-exists g c = lies_exists c.args.self.now (g.F.Flash.state c.args.flash.now) c.place_of.result c.requires.lies c.place_of.ensures.within

pub returns : goal.returns
returns g c =
    let ring = c.args.self.now in
    let f = g.F.Flash.state c.args.flash.now in
    let new = g.F.Flash.state c.program_pair.new.self in
    seals_page ring c.args.body.now f new c.program_pair.result c.place_of.result c.place_of.ensures.place c.place_of.ensures.within c.requires.lies (g.met.F.Flash.reaches c.args.flash.now) c.requires.body
    (λ i. omega (arith, c.type_inv.body i)) c.requires.numbered
    (subst (λ (l : List ℕ). ProgramsPair f c.place_of.result c.args.body.now l c.program_pair.result new) c.mark.ensures c.program_pair.ensures)
