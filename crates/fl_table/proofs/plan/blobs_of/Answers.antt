use Rattle.std.proofs.Common.{◌≡◌, ◌+◌, ◌*◌, ◌≤◌, nat_lt, Option, IfSome, sym, ◌∙◌, ap, subst, arith}
use Rattle.std.proofs.lemmas.Bool.{lt-ltb}
use Rattle.fl_base.specs.declared.types.Geometry.{Geometry}
use Rattle.fl_base.specs.declared.types.RingPlace.{RingPlace}
use Rattle.fl_model.specs.Record.{Plan}
use Rattle.fl_plan.specs.Limits.{IsRingSize}
use Rattle.fl_plan.specs.Plan.{blocks_in}
use Rattle.fl_ring.specs.Ring.{Shape}
use Rattle.fl_table.proofs.plan.blobs_of.Goals as goal

pub returns-clause-planned : goal.returns-clause-planned
returns-clause-planned c = λ plan is.
    let config = c.args.config.now in
    let e = c.in-Some in
    let first : e.place.first_block ≡ config.rows.first_block + plan.data_blocks + plan.index_blocks = subst (λ (o : Option RingPlace). IfSome o (λ place. place.first_block ≡ config.rows.first_block + plan.data_blocks + plan.index_blocks)) e.is is.var in
    let geometry : config.geometry ≡ plan.geometry = ap (λ (x : Plan). x.geometry) is.is in
    record {
      planned = c.in_ok-var.ensures.planned plan (sym geometry) (sym (ap (λ (x : Plan). x.var_blocks) is.is) ∙ ap blocks_in e.is);
      begins = ap (λ (r : Shape). r.first) c.in_ok-var.ensures.shape
          ∙ (ap (λ k. k * config.geometry.block) first ∙ ap (λ (g : Geometry). (config.rows.first_block + plan.data_blocks + plan.index_blocks) * g.block) geometry);
    }

pub returns-clause-lie : goal.returns-clause-lie
returns-clause-lie c = λ f geometry within few.
    c.in_ok-var.ensures.lies f geometry (subst (λ (o : Option RingPlace). IfSome o (λ place. place.first_block + place.blocks ≤ f.blocks)) c.in-Some.is within) few

pub returns-clause-has : goal.returns-clause-has
returns-clause-has c =
    let config = c.args.config.now in
    let size = subst (λ (o : Option RingPlace). IfSome o IsRingSize) c.in-Some.is c.requires.limits.var in
    ap (λ (o : Option RingPlace). nat_lt 0 (blocks_in o)) c.in-Some.is ∙ lt-ltb 0 c.in-Some.place.blocks (omega (arith, size.0))
