-- The configuration of a table with what its line says beside it, as the plan of the model.
use Rattle.std.specs.Prelude.{ℕ, ℤ, List}
use Rattle.fl_model.specs.Record.{Plan}
use Rattle.fl_plan.specs.Plan.{plan_of_table, with_log}
use Rattle.fl_plan.specs.declared.table_config.TableConfig.{TableConfig}

-- its name, the base and width that mean nothing where it has no buckets, and the blocks of its log, which stands behind the rings
-- of the configuration; 0 where it has none
pub record LineLabel : Type 0 where
  pub name : List ℕ
  pub base : ℤ
  pub width : ℕ
  pub log_blocks : ℕ

abbrev pub plan_with : LineLabel → TableConfig → Plan
plan_with label config = with_log label.log_blocks (plan_of_table (record { name = label.name; base = label.base; width = label.width }) config)
