-- Variable data in memory and on a flash, and the variable data of the model for which they stand.
use Rattle.std.specs.Prelude.{◌≡◌, ◌⊎◌, ℕ, ◌<◌, true, false, Some, List, length}
use Rattle.std.specs.List.{AllByRecursion}
use Rattle.fl_flash.specs.Flash.{FlashState}
use Rattle.fl_model.specs.Facts.{IsContent}
use Rattle.fl_model.specs.Image.{IsRingImage, HoldsPage}
use Rattle.fl_model.specs.Layout.{ContentPage, content_body}
use Rattle.fl_model.specs.Record.{Plan}
use Rattle.fl_model.specs.Ring.{Ring, IsRing, oldest}
use Rattle.fl_model.specs.Table as model
use Rattle.fl_model.specs.Table.{VarRing, shape_of, full_pages}
use Rattle.fl_var.specs.Memory.{is_mounted, next_in, oldest_in, waiting_in, page_in, IsPlanned}
use Rattle.fl_var.specs.declared.var_data.VarData.{VarData}

-- pages that are those of a ring of variable data; `pages` has what each kept page holds that isn't void
pub record IsVarRing (plan : Plan) (pages : List ContentPage) (ring : Ring) (at : ℕ → List ℕ) : Type 0 where
  pub facts : IsRing (shape_of plan VarRing) ring
  pub counts : AllByRecursion (λ count. (count ≡ 0) ⊎ (count ≡ 1)) ring.counts
  pub number : ring.next < 4294967296
  pub each : length pages ≡ full_pages ring.counts
  pub fit : AllByRecursion (IsContent plan) pages
  pub image : IsRingImage (shape_of plan VarRing) ring at (HoldsPage pages content_body ring)

-- a mounted ring that stands for that of a table: its next number, and its kept pages with what they hold
pub record HasRing (v : VarData) (f : FlashState) (plan : Plan) (table : model.Table) : Type 0 where
  pub planned : IsPlanned v plan
  pub mounted : is_mounted v ≡ true
  pub ring : Ring
  pub ring_is : table.var ≡ Some ring
  pub pages : IsVarRing plan table.var_pages ring (page_in v f)
  -- no page is torn and no block waits for its erase
  pub whole : ring.torn ≡ false
  pub clean : ring.dirty ≡ false
  pub next : next_in v ≡ ring.next
  pub oldest_is : oldest_in v ≡ oldest ring

-- .. and the bytes in its buffer, which are those that wait
pub record Stands (v : VarData) (f : FlashState) (plan : Plan) (table : model.Table) : Type 0 where
  pub ring : HasRing v f plan table
  pub buffered : table.buffered ≡ waiting_in v
