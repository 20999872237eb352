-- A row has some bytes.
use Rattle.std.proofs.Common.{◌≤◌, arith}
use Rattle.fl_schema.specs.Form.{key_width}
use Rattle.fl_schema.specs.declared.schema.KeyWidth.{KeyWidth}
use Rattle.fl_schema.specs.declared.schema.KeyWidth.TheVariants.{Four, Eight}
use Rattle.fl_model.specs.Record.{row_len}
use Rattle.fl_plan.specs.Plan.{Label, plan_of_table}
use Rattle.fl_plan.specs.declared.table_config.TableConfig.{TableConfig}

width-some : (key : KeyWidth) → 4 ≤ key_width key
width-some Four = omega arith
width-some Eight = omega arith

pub row-some : (label : Label) (config : TableConfig) → 4 ≤ row_len (plan_of_table label config)
row-some label config = let some = width-some config.key in omega (arith, some)
