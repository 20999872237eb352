use Rattle.std.proofs.Common.{◌≡◌, ◌-◌, ℕ, [], ◌∷◌, List, ◌∙◌, ap, subst, refl, arith}
use Rattle.fl_flash.specs.Flash.{all_zero, ProgramsPage}
use Rattle.fl_model.specs.Work.{VoidMark}
use Rattle.fl_ring.specs.Place.{shape_of}
use Rattle.fl_ring.specs.Ring.{place, voided}
use Rattle.fl_ring.proofs.Exists.{lies_exists}
use Rattle.fl_ring.proofs.OperationsOutside.{operates_program, step_program, others_by}
use Rattle.fl_ring.proofs.Voids.{void_any, void_ok, void_exact}
use Rattle.fl_ring.proofs.ring.Ring.void_page.Goals as goal

pub program-requires-clause-exists : goal.program-requires-clause-exists
program-requires-clause-exists g c = lies_exists c.args.self.now (g.F.Flash.state c.args.flash.now) c.place_of.result c.requires.lies c.place_of.ensures.within

pub returns-clause-operates : goal.returns-clause-operates
returns-clause-operates g c =
    operates_program c.args.self.now (g.F.Flash.state c.args.flash.now) (g.F.Flash.state c.program.new.self) c.program.result VoidMark refl c.place_of.result c.void_at.result c.args.self.now.next c.mark.result c.place_of.ensures.place c.program.ensures
    (omega (arith, c.program.ensures.zeros (ap (λ (l : List ℕ). all_zero l) c.mark.ensures)))

pub returns-clause-step : goal.returns-clause-step
returns-clause-step g c = λ s rose device stands on torn watched.
    let ring = c.args.self.now in
    let f = g.F.Flash.state c.args.flash.now in
    let new = g.F.Flash.state c.program.new.self in
    let p = c.place_of.result in
    let result = c.program.result in
    let zeros : List ℕ = 0 ∷ 0 ∷ 0 ∷ 0 ∷ [] in
    let at = c.place_of.ensures.place ∙ ap (λ (n : ℕ). place (shape_of ring) n) stands.next in
    let from : c.void_at.result ≡ ring.size - 4 = omega (arith, c.void_at.ensures) in
    let did = subst (λ (l : List ℕ). ProgramsPage f p (ring.size - 4) l result new) c.mark.ensures (subst (λ (n : ℕ). ProgramsPage f p n c.mark.result result new) from c.program.ensures) in
    let exists = lies_exists ring f p c.requires.lies c.place_of.ensures.within in
    let reach = g.met.F.Flash.reaches c.args.flash.now in
    step_program ring f new result VoidMark refl p (ring.size - 4) ring.next zeros c.place_of.ensures.place did s (voided (shape_of ring) s) rose device watched
    (void_ok ring s f new p at c.requires.lies.page reach exists on torn)
    (void_any ring s f new p at c.requires.lies.page reach exists on torn)
    (void_exact ring s f new p at c.requires.lies.page reach exists on torn did.goes (others_by ring f new result VoidMark refl p (ring.size - 4) ring.next zeros c.place_of.ensures.place did watched.told))
