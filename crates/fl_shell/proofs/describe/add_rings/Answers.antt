use Rattle.std.proofs.Common.{◌≡◌, ◌*◌, ◌++◌, ℕ, codes, ap, ◌∙◌}
use Rattle.fl_base.proofs.Chains.{more}
use Rattle.fl_plan.specs.Plan.{plan_of_table, with_log}
use Rattle.fl_shell.specs.Talk.{ring_text}
use Rattle.fl_shell.proofs.describe.add_rings.Goals as goal

pub returns-clause-text : goal.returns-clause-text
returns-clause-text c = λ label.
    let plan = with_log c.args.log_blocks (plan_of_table label c.args.table.now) in
    let l = c.args.text.now in
    let rings = c.args.rings.now in
    let index = ring_text (codes "  index pages kept ") (codes "  index pages free ") c.ring_pages-index.result rings.table.index in
    let blobs = ring_text (codes "  blob pages kept ") (codes "  blob pages free ") c.ring_pages-blobs.result rings.table.blobs in
    let log = ring_text (codes "  log pages kept ") (codes "  log pages free ") c.ring_pages-log.result rings.log in
    let e2 = more l index blobs c.add_ring.new.text c.add_ring-2.new.text c.add_ring.ensures.text c.add_ring-2.ensures.text in
    let e3 = more l (index ++ blobs) log c.add_ring-2.new.text c.add_ring-3.new.text e2 c.add_ring-3.ensures.text in
    let index_is : c.ring_pages-index.result ≡ plan.index_blocks * plan.geometry.block = c.ring_pages-index.ensures ∙ ap (λ (n : ℕ). n * c.args.table.now.geometry.block) c.index_blocks.ensures in
    let blobs_is : c.ring_pages-blobs.result ≡ plan.var_blocks * plan.geometry.block = c.ring_pages-blobs.ensures ∙ ap (λ (n : ℕ). n * c.args.table.now.geometry.block) c.var_blocks.ensures in
    e3 ∙ (ap (λ x. x ++ (index ++ blobs ++ log)) c.requires.empty
    ∙ (ap (λ (n : ℕ). ring_text (codes "  index pages kept ") (codes "  index pages free ") n rings.table.index ++ blobs ++ log) index_is
    ∙ (ap (λ (n : ℕ). ring_text (codes "  index pages kept ") (codes "  index pages free ") (plan.index_blocks * plan.geometry.block) rings.table.index ++ ring_text (codes "  blob pages kept ") (codes "  blob pages free ") n rings.table.blobs ++ log) blobs_is
    ∙ ap (λ (n : ℕ). ring_text (codes "  index pages kept ") (codes "  index pages free ") (plan.index_blocks * plan.geometry.block) rings.table.index
    ++ ring_text (codes "  blob pages kept ") (codes "  blob pages free ") (plan.var_blocks * plan.geometry.block) rings.table.blobs
    ++ ring_text (codes "  log pages kept ") (codes "  log pages free ") n rings.log) c.ring_pages-log.ensures)))
