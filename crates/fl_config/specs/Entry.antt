-- A table that was taken, as the plan of the model.
use Rattle.fl_model.specs.Record.{Plan}
use Rattle.fl_plan.specs.Plan.{blocks_in}
use Rattle.fl_config.specs.Label.{plan_with}
use Rattle.fl_config.specs.declared.entry.Entry.{Entry}

abbrev pub plan_in : Entry → Plan
plan_in entry = plan_with (record { name = entry.name; base = entry.base; width = entry.width; log_blocks = blocks_in entry.log }) entry.config
