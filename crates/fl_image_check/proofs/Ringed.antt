-- What the rules of a table's rings ask for, in the words of a check of an image.
use Rattle.std.proofs.Common.{◌≡◌, ℕ, ◌+◌, ◌≤◌, Option, Some, None, IfSome, arith}
use Rattle.fl_base.specs.declared.types.RingPlace.{RingPlace}
use Rattle.fl_flash.specs.Flash.{FlashState}
use Rattle.fl_plan.specs.Plan.{blocks_in}
use Rattle.fl_plan.specs.declared.table_config.TableConfig.{TableConfig}
use Rattle.fl_check.specs.Whole.{Fits, LogFits}
use Rattle.fl_image_check.specs.Checking.{LiesOn, LogLies}

-- a ring that begins behind others
behind : (ring : Option RingPlace) (before others blocks : ℕ) → IfSome ring (λ place. place.first_block ≡ before) → before + blocks_in ring + others ≤ blocks →
    IfSome ring (λ place. place.first_block + place.blocks ≤ blocks)
behind None before others blocks begins within = tt
behind (Some place) before others blocks begins within = omega (arith, begins, within)

pub fits : (config : TableConfig) (f : FlashState) → LiesOn config f → Fits config f
fits config f lies = record {
  geometry = lies.geometry;
  limits = lies.limits;
  passes = lies.passes;
  rows = omega (arith, lies.within);
  index = behind config.index (config.rows.first_block + config.rows.blocks) (blocks_in config.var) f.blocks lies.index lies.within;
  var = behind config.var (config.rows.first_block + config.rows.blocks + blocks_in config.index) 0 f.blocks lies.var (omega (arith, lies.within));
  few = lies.few;
}

pub log-fits : (config : TableConfig) (log : Option RingPlace) (f : FlashState) → LogLies config log f → LogFits log f
log-fits config None f lies = tt
log-fits config (Some place) f lies = (lies.0, lies.2)
