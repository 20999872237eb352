-- The places of a table's rings.
use Rattle.std.specs.Prelude.{◌≡◌, ℕ, ◌+◌, IfSome}
use Rattle.fl_plan.specs.declared.table_config.TableConfig.{TableConfig}
use Rattle.fl_plan.specs.Plan.{blocks_in}

-- the block behind the rings of a table, where its log stands
abbrev pub end_from : ℕ → TableConfig → ℕ
end_from first config = first + config.rows.blocks + blocks_in config.index + blocks_in config.var

-- the rings stand one after another from a block on
pub record StandsFrom (first : ℕ) (config : TableConfig) : Type 0 where
  pub rows : config.rows.first_block ≡ first
  pub index : IfSome config.index (λ place. place.first_block ≡ first + config.rows.blocks)
  pub var : IfSome config.var (λ place. place.first_block ≡ first + config.rows.blocks + blocks_in config.index)
