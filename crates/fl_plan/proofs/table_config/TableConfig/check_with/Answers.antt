use Rattle.std.proofs.Common.{◌++◌}
use Rattle.fl_plan.specs.Plan.{plan_of_table}
use Rattle.fl_plan.specs.Refusal.{field_faults, room_faults, ring_faults, nameless}
use Rattle.fl_plan.proofs.Faults.{some-first, some-then, none-both, tells-first, tells-then}
use Rattle.fl_plan.proofs.table_config.TableConfig.check_with.Goals as goal

pub returns-in_err-check_fields-clause-refusal : goal.returns-in_err-check_fields-clause-refusal
returns-in_err-check_fields-clause-refusal c =
    let config = c.args.self.now in
    let rooms = room_faults (plan_of_table nameless config) in
    tells-first _ _ (field_faults config ++ rooms) (ring_faults c.args.log config) c.from_residual.ensures.1
    (some-first _ (field_faults config) rooms c.in_err-check_fields.ensures.refusal)

pub returns-in_err-check_room-clause-refusal : goal.returns-in_err-check_room-clause-refusal
returns-in_err-check_room-clause-refusal c =
    let config = c.args.self.now in
    let rooms = room_faults (plan_of_table nameless config) in
    tells-first _ _ (field_faults config ++ rooms) (ring_faults c.args.log config) c.from_residual-in_err-check_room.ensures.1
    (some-then _ (field_faults config) rooms c.in_ok-check_fields.ensures.refusal (c.in_err-check_room.ensures nameless))

pub returns-clause-refusal : goal.returns-clause-refusal
returns-clause-refusal c =
    let config = c.args.self.now in
    let rooms = room_faults (plan_of_table nameless config) in
    tells-then _ (field_faults config ++ rooms) (ring_faults c.args.log config)
    (none-both (field_faults config) rooms c.in_ok-check_fields.ensures.refusal (c.in_ok-check_room.ensures nameless)) c.check_rings.ensures
