use Rattle.std.proofs.Common.{◌+◌, ◌*◌, ◌^◌, ◌≤◌, ◌<◌, zero-le, refl, sym, ap, subst}
use Rattle.fl_base.specs.declared.types.Geometry.{Geometry}
use Rattle.fl_ring.specs.Mounting.{shape_at}
use Rattle.fl_ring.specs.Ring.{IsShape}
use Rattle.fl_ring.proofs.Exists.{reach_below}
use Rattle.fl_ring.proofs.Mounts.{shape_served}
use Rattle.fl_ring.proofs.ring.Ring.unnumbered.Goals as goal

pub invariant_of-result : goal.invariant_of-result
invariant_of-result g c =
    let place = c.args.place in
    let f = g.F.Flash.state c.args.flash.now in
    let serves = g.met.F.Flash.serves c.args.flash.now in
    let same = sym c.geometry-geometry.ensures in
    record {
      served = subst (λ (y : Geometry). IsShape (shape_at place y)) same (shape_served place f.geometry c.requires.blocks serves);
      small_blocks = subst (λ (y : Geometry). y.block ≤ 256) same serves.block_greatest;
      small_pages = subst (λ (y : Geometry). y.page ≤ 4096) same serves.page_greatest;
      reach = subst (λ (y : Geometry). (place.first_block + place.blocks) * y.block < 2 ^ 32) same (reach_below place f c.requires.lies c.requires.few);
      ordered = zero-le;
    }

pub returns-clause-shape : goal.returns-clause-shape
returns-clause-shape g c = ap (λ (y : Geometry). shape_at c.args.place y) c.geometry-geometry.ensures

pub returns-clause-lies : goal.returns-clause-lies
returns-clause-lies g c = record { page = sym (ap (λ (y : Geometry). y.page) c.geometry-geometry.ensures); block = sym (ap (λ (y : Geometry). y.block) c.geometry-geometry.ensures); within = c.requires.lies }

pub returns-clause-numbers : goal.returns-clause-numbers
returns-clause-numbers g c = (refl, refl)
