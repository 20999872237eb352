use Rattle.std.proofs.Common.{◌≡◌, ◌+◌, ◌&&◌, ◌==◌, true, false, is_some, rules, refl, arith, ◌∙◌}
use Rattle.fl_plan.specs.Plan.{blocks_in}
use Rattle.fl_plan.specs.Refusal.{pages_misfit, is_bad_ring, nameless}
use Rattle.fl_plan.proofs.Faults.{blocks_in-le}
use Rattle.fl_plan.proofs.Fits.{with-log-size}
use Rattle.fl_plan.proofs.table_config.TableConfig.check_rings.Goals as goal
use Rattle.fl_plan.proofs.table_config.TableConfig.check_rings.Goals.{else-is_some-via-then-is_some+else-is_some-2, else-is_some-via-else-is_some}

pub overflow_add-all : goal.overflow_add-all
overflow_add-all c =
    let limits = c.requires.limits in
    omega (arith, c.blocks-2.ensures nameless, c.from.ensures, limits.rows.1, blocks_in-le c.args.self.now.index limits.index, blocks_in-le c.args.self.now.var limits.var)

pub has_room_for-requires-clause-few : goal.has_room_for-requires-clause-few
has_room_for-requires-clause-few c =
    let limits = c.requires.limits in
    omega (arith, c.blocks-2.ensures nameless, c.from.ensures, limits.rows.1, blocks_in-le c.args.self.now.index limits.index, blocks_in-le c.args.self.now.var limits.var)

pub returns-then-not-has_room_for : goal.returns-then-not-has_room_for
returns-then-not-has_room_for c =
    let misfit : pages_misfit c.args.self.now.geometry (c.blocks-2.result + c.from.result) ≡ true = search rules in
    let size = with-log-size c.args.log c.args.self.now c.blocks-2.result c.from.result (c.blocks-2.ensures nameless) (c.from.ensures ∙ c.blocks_in.ensures) ∙ misfit in
    rw size refl

pub returns-then-lacks_index : goal.returns-then-lacks_index
returns-then-lacks_index c =
    let misfit : pages_misfit c.args.self.now.geometry (c.blocks-2.result + c.from.result) ≡ false = search rules in
    let size = with-log-size c.args.log c.args.self.now c.blocks-2.result c.from.result (c.blocks-2.ensures nameless) (c.from.ensures ∙ c.blocks_in.ensures) ∙ misfit in
    let lacks : (c.args.self.now.full_index && (blocks_in c.args.self.now.index == 0)) ≡ true = search rules in
    rw size (rw lacks refl)

pub returns-then-is_bad_ring : goal.returns-then-is_bad_ring
returns-then-is_bad_ring c =
    let misfit : pages_misfit c.args.self.now.geometry (c.blocks-2.result + c.from.result) ≡ false = search rules in
    let size = with-log-size c.args.log c.args.self.now c.blocks-2.result c.from.result (c.blocks-2.ensures nameless) (c.from.ensures ∙ c.blocks_in.ensures) ∙ misfit in
    let lacks : (c.args.self.now.full_index && (blocks_in c.args.self.now.index == 0)) ≡ false = search rules in
    let bad : is_bad_ring c.args.log ≡ true = search rules in
    rw size (rw lacks (rw bad refl))

pub returns-then-is_some-2 : goal.returns-then-is_some-2
returns-then-is_some-2 c =
    let misfit : pages_misfit c.args.self.now.geometry (c.blocks-2.result + c.from.result) ≡ false = search rules in
    let size = with-log-size c.args.log c.args.self.now c.blocks-2.result c.from.result (c.blocks-2.ensures nameless) (c.from.ensures ∙ c.blocks_in.ensures) ∙ misfit in
    let lacks : (c.args.self.now.full_index && (blocks_in c.args.self.now.index == 0)) ≡ false = search rules in
    let bad : is_bad_ring c.args.log ≡ false = search rules in
    let blobs : (is_some c.args.log && is_some c.args.self.now.var) ≡ true = search rules in
    rw size (rw lacks (rw bad (rw blobs refl)))

pub returns : goal.returns
returns c =
    let misfit : pages_misfit c.args.self.now.geometry (c.blocks-2.result + c.from.result) ≡ false = search rules in
    let size = with-log-size c.args.log c.args.self.now c.blocks-2.result c.from.result (c.blocks-2.ensures nameless) (c.from.ensures ∙ c.blocks_in.ensures) ∙ misfit in
    let lacks : (c.args.self.now.full_index && (blocks_in c.args.self.now.index == 0)) ≡ false = search rules in
    let bad : is_bad_ring c.args.log ≡ false = search rules in
    let blobs : (is_some c.args.log && is_some c.args.self.now.var) ≡ false = elim c.else-is_some.branch [
      | else-is_some-via-then-is_some+else-is_some-2 w ↦ search rules
      | else-is_some-via-else-is_some w ↦ search rules
    ] in
    rw size (rw lacks (rw bad (rw blobs refl)))
