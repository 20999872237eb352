-- What holds of the tables that were taken.
use Rattle.std.specs.Prelude.{◌≡◌, ℕ, ◌+◌, ◌≤◌, false, None, Option, Some, IfSome, List, [], ◌∷◌, length, map, sum_by}
use Rattle.fl_base.specs.declared.types.Geometry.{Geometry}
use Rattle.fl_model.specs.Record.{blocks_of}
use Rattle.fl_words.specs.Config.{too_large}
use Rattle.fl_plan.specs.Plan.{blocks_in}
use Rattle.fl_plan.specs.Limits.{IsWithin, IsRingSize, IsWithinLimits}
use Rattle.fl_plan.specs.Refusal.{config_fault}
use Rattle.fl_config.specs.declared.entry.Entry.{Entry}
use Rattle.fl_config.specs.Entry.{plan_in}
use Rattle.fl_config.specs.Places.{StandsFrom, end_from}

-- a table of this device that is not refused, and begins at a block
pub record IsTaken (geometry : Geometry) (first : ℕ) (entry : Entry) : Type 0 where
  pub geometry_is : entry.config.geometry ≡ geometry
  pub stands : StandsFrom first entry.config
  pub limits : IsWithinLimits entry.config
  pub passes : config_fault entry.config ≡ None
  -- the log stands behind the other rings, and there is no ring of variable data then
  pub log : IfSome entry.log (λ place. (place.first_block ≡ end_from first entry.config) × IsRingSize place × (blocks_in entry.config.var ≡ 0))

-- each begins where the ones before it end
abbrev pub AreTaken : Geometry → ℕ → List Entry → Type 0
AreTaken geometry first [] = Unit {0}
AreTaken geometry first (entry ∷ entries) = IsTaken geometry first entry × AreTaken geometry (first + blocks_of (plan_in entry)) entries

pub record AreTables (geometry : Geometry) (blocks : ℕ) (entries : List Entry) : Type 0 where
  pub within : IsWithin geometry
  pub few : length entries ≤ 4
  pub taken : AreTaken geometry 0 entries
  pub blocks_are : blocks ≡ sum_by blocks_of (map plan_in entries)
  pub size : too_large geometry (map plan_in entries) ≡ false

-- the device and the tables so far
abbrev pub AreLines : Option Geometry → ℕ → List Entry → Type 0
AreLines None blocks entries = (entries ≡ []) × (blocks ≡ 0)
AreLines (Some geometry) blocks entries = AreTables geometry blocks entries
