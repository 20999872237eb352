use Rattle.std.proofs.Common.{◌≡◌, ◌+◌, ◌≤◌, Option, IfSome, sym, ◌∙◌, ap, subst}
use Rattle.fl_base.specs.declared.types.RingPlace.{RingPlace}
use Rattle.fl_model.specs.Record.{Plan}
use Rattle.fl_plan.specs.Plan.{blocks_in, bits_in}
use Rattle.fl_plan.proofs.Fits.{few-pages}
use Rattle.fl_table.proofs.plan.bitmaps_of.Goals as goal

pub returns-clause-planned : goal.returns-clause-planned
returns-clause-planned c = λ plan is.
    let config = c.args.config.now in
    let e = c.in-Some-Some in
    let first : e.place.first_block ≡ config.rows.first_block + plan.data_blocks = subst (λ (o : Option RingPlace). IfSome o (λ place. place.first_block ≡ config.rows.first_block + plan.data_blocks)) e.is-0 is.index in
    let p = c.in_ok-index.ensures.planned plan (sym (ap (λ (x : Plan). x.geometry) is.is))
    (sym (ap (λ (x : Plan). x.index_blocks) is.is) ∙ ap blocks_in e.is-0) (sym (ap (λ (x : Plan). x.bits) is.is) ∙ ap bits_in e.is-1) (sym (ap (λ (x : Plan). x.full_index) is.is)) in
    record { geometry = p.geometry; begins = p.begins ∙ first; blocks = p.blocks; bits = p.bits; full = p.full }

pub returns-clause-lie : goal.returns-clause-lie
returns-clause-lie c = λ f geometry within few.
    c.in_ok-index.ensures.lies f geometry (subst (λ (o : Option RingPlace). IfSome o (λ place. place.first_block + place.blocks ≤ f.blocks)) c.in-Some-Some.is-0 within) few

pub returns-clause-few : goal.returns-clause-few
returns-clause-few c = λ x e. few-pages c.args.config.now c.in-Some-Some.place c.requires.fits c.requires.limits c.in-Some-Some.is-0
