-- Where a table lies after a look.
use Rattle.std.proofs.Common.{ℕ, ◌+◌, ◌*◌, ◌≤◌, Option, IfSome, sym, ◌∙◌, ap, subst}
use Rattle.fl_base.specs.declared.types.Geometry.{Geometry}
use Rattle.fl_base.specs.declared.types.RingPlace.{RingPlace}
use Rattle.fl_flash.specs.Flash.{FlashState}
use Rattle.fl_frame.specs.Reads.{OnlyLooks}
use Rattle.fl_plan.specs.Limits.{IsRingSize}
use Rattle.fl_plan.specs.declared.table_config.TableConfig.{TableConfig}
use Rattle.fl_check.specs.Whole.{Fits, LogFits}

pub fits_still : (config : TableConfig) (a b : FlashState) → OnlyLooks a b → Fits config a → Fits config b
fits_still config a b x fits = record {
  geometry = fits.geometry ∙ sym x.goes.geometry;
  limits = fits.limits;
  passes = fits.passes;
  rows = subst (λ (k : ℕ). config.rows.first_block + config.rows.blocks ≤ k) (sym x.goes.blocks) fits.rows;
  index = subst (λ (k : ℕ). IfSome config.index (λ place. place.first_block + place.blocks ≤ k)) (sym x.goes.blocks) fits.index;
  var = subst (λ (k : ℕ). IfSome config.var (λ place. place.first_block + place.blocks ≤ k)) (sym x.goes.blocks) fits.var;
  few = rw (ap (λ (k : ℕ). k * b.geometry.block) x.goes.blocks ∙ ap (λ (g : Geometry). a.blocks * g.block) x.goes.geometry) fits.few;
}

-- .. and its log
pub log_still : (log : Option RingPlace) (a b : FlashState) → OnlyLooks a b → LogFits log a → LogFits log b
log_still log a b x fits = subst (λ (k : ℕ). IfSome log (λ place. IsRingSize place × (place.first_block + place.blocks ≤ k))) (sym x.goes.blocks) fits
