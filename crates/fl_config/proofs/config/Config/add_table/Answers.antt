use Rattle.std.proofs.Common.{◌≡◌, ◌+◌, arith, sym, subst}
use Rattle.fl_model.specs.Record.{blocks_of}
use Rattle.fl_plan.specs.Plan.{Label}
use Rattle.fl_config.specs.Entry.{plan_in}
use Rattle.fl_config.specs.Standing.{AreTables, AreLines}
use Rattle.fl_config.proofs.Tables.{added}
use Rattle.fl_config.proofs.config.Config.add_table.Goals as goal

pub overflow_cast-self : goal.overflow_cast-self
overflow_cast-self c =
    let entry = c.in_ok-table.table in
    let label : Label = record { name = entry.name; base = entry.base; width = entry.width } in
    let more = added c.self.inside.device c.in-Some.geometry c.self.inside.device_blocks c.self.inside.tables.items c.in_ok-table.table _ c.in-Some.is c.self.invariant
    c.in_ok-table.ensures.plan c.in_ok-table.ensures.room c.in_ok-table.ensures.taken c.in_ok-table.ensures.size in
    omega (arith, more.few, c.blocks-2.ensures label)

pub overflow_add-self : goal.overflow_add-self
overflow_add-self c =
    let entry = c.in_ok-table.table in
    let label : Label = record { name = entry.name; base = entry.base; width = entry.width } in
    let more = added c.self.inside.device c.in-Some.geometry c.self.inside.device_blocks c.self.inside.tables.items c.in_ok-table.table _ c.in-Some.is c.self.invariant
    c.in_ok-table.ensures.plan c.in_ok-table.ensures.room c.in_ok-table.ensures.taken c.in_ok-table.ensures.size in
    omega (arith, more.few, c.blocks-2.ensures label, c.log_blocks.ensures)

pub overflow_add-self-2 : goal.overflow_add-self-2
overflow_add-self-2 c =
    let entry = c.in_ok-table.table in
    let label : Label = record { name = entry.name; base = entry.base; width = entry.width } in
    let more = added c.self.inside.device c.in-Some.geometry c.self.inside.device_blocks c.self.inside.tables.items c.in_ok-table.table _ c.in-Some.is c.self.invariant
    c.in_ok-table.ensures.plan c.in_ok-table.ensures.room c.in_ok-table.ensures.taken c.in_ok-table.ensures.size in
    omega (arith, more.few, c.blocks-2.ensures label, c.log_blocks.ensures)

pub invariant_of-self : goal.invariant_of-self
invariant_of-self c =
    let entry = c.in_ok-table.table in
    let label : Label = record { name = entry.name; base = entry.base; width = entry.width } in
    let more = added c.self.inside.device c.in-Some.geometry c.self.inside.device_blocks c.self.inside.tables.items c.in_ok-table.table _ c.in-Some.is c.self.invariant
    c.in_ok-table.ensures.plan c.in_ok-table.ensures.room c.in_ok-table.ensures.taken c.in_ok-table.ensures.size in
    let total : c.self.inside.device_blocks + blocks_of (plan_in entry) ≡ c.self.inside.device_blocks + (c.blocks-2.result + c.log_blocks.result) =
    omega (arith, c.blocks-2.ensures label, c.log_blocks.ensures) in
    subst (λ d. AreLines d (c.self.inside.device_blocks + (c.blocks-2.result + c.log_blocks.result)) c.push.new.self.items) (sym c.in-Some.is)
    (subst (λ b. AreTables c.in-Some.geometry b c.push.new.self.items) total
    (subst (λ l. AreTables c.in-Some.geometry (c.self.inside.device_blocks + blocks_of (plan_in entry)) l) (sym c.push.ensures.items) more.tables))
