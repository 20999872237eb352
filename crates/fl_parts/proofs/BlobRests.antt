-- The waiting bytes of blobs are sealed, and all else of their table is as it was.
use Rattle.std.proofs.Common.{◌≡◌, ℕ, ◌+◌, ◌*◌, ◌<◌, ◌≤◌, Bool, true, false, cond, nat_lt, Option, Some, Result, Ok, Err, List, [], ◌∷◌, length, sym, ◌∙◌, subst, arith}
use Rattle.fl_flash.specs.Flash.{FlashState, page_at}
use Rattle.fl_flash.specs.declared.flash.FlashFault.{FlashFault}
use Rattle.fl_model.specs.Record.{Plan}
use Rattle.fl_model.specs.Ring.{Ring}
use Rattle.fl_model.specs.Table.{Table, RingName, DataRing, IndexRing, VarRing, fill, after_seals, lose}
use Rattle.fl_model.specs.Within.{seals_within, TablePerforms}
use Rattle.fl_model.specs.Work.{Device, PartEnd, Whole, CutIn, FailedIn, PartProgress}
use Rattle.fl_frame.specs.Device.{SameDevice}
use Rattle.fl_ring.specs.Kept.{PagesStand}
use Rattle.fl_ring.specs.Ring.{OutsideStands}
use Rattle.fl_var.specs.Memory.{page_in, var_shape}
use Rattle.fl_var.specs.Placing as placing
use Rattle.fl_var.specs.declared.var_data.VarData.{VarData}
use Rattle.fl_parts.specs.Blobs as variable
use Rattle.fl_parts.specs.Blobs.{Stand, rest_seals}
use Rattle.fl_parts.specs.Failing.{Breaks, FaultEnds, BySeals}
use Rattle.fl_parts.specs.Pages.{HoldsTable, KeptStand, bytes_in}
use Rattle.fl_parts.proofs.BlobSeals.{IsBesideVar, before-var}
use Rattle.fl_parts.proofs.BlobTables.{var-pages}
use Rattle.fl_parts.proofs.Plain.{IsPlainTable}
use Rattle.fl_parts.proofs.KeptPagesStay.{pages-same, ring-same}

-- All was done: the variable data are these now, and all else is as it was.
pub record IsRested (first : ℕ) (plan : Plan) (seals : List RingName) (table : Table) (rose : Bool) (device : Device) (left : Option VarData) (old new : FlashState) : Type 0 where
  pub now : PartProgress Table
  pub did : TablePerforms plan rose (seals_within plan seals table) device table now
  pub whole : now.end ≡ Whole
  pub counts : SameDevice new now.device
  pub power : new.is_on ≡ true
  pub beside : IsBesideVar table (after_seals plan seals table)
  pub facts : IsPlainTable plan (after_seals plan seals table)
  pub pages : HoldsTable (page_at new) first plan (lose (after_seals plan seals table))
  pub blobs : Stand left new (first + plan.data_blocks + plan.index_blocks) plan (after_seals plan seals table)
  pub stand : KeptStand first plan table (after_seals plan seals table) (page_at old) (page_at new)

abbrev pub RestedEnds : ℕ → Plan → List RingName → Table → Bool → Device → Result (Unit {0}) FlashFault → Option VarData → FlashState → FlashState → Type 0
RestedEnds first plan seals table rose device (Ok done) left old new = IsRested first plan seals table rose device left old new
RestedEnds first plan seals table rose device (Err fault) left old new = Breaks first plan (BySeals plan seals table rose device) fault new

pub rest_few : (table : Table) → length (rest_seals table) ≤ 1
rest_few table = by_fill (nat_lt 0 (fill table))
  where
    by_fill : (b : Bool) → length {A = RingName} (cond b (VarRing ∷ []) []) ≤ 1
    by_fill true = omega arith
    by_fill false = omega arith

-- the pages of each ring that are kept stand, as the other rings lie before that of variable data
pub kept-var : (v w : VarData) (f new : FlashState) (first : ℕ) (plan : Plan) (table after : Table) (ring : Ring) → after.rows ≡ table.rows → after.index ≡ table.index → after.var ≡ Some ring →
    variable.IsPlanned v (first + plan.data_blocks + plan.index_blocks) plan → variable.IsPlanned w (first + plan.data_blocks + plan.index_blocks) plan → OutsideStands (var_shape v) (page_at f) (page_at new) →
    0 < plan.data_blocks * plan.geometry.block → ((r : Ring) → table.index ≡ Some r → 0 < plan.index_blocks * plan.geometry.block) →
    ((before : Ring) → table.var ≡ Some before → PagesStand before (page_in v f) ring (page_in w new)) → KeptStand first plan table after (page_at f) (page_at new)
kept-var v w f new first plan table after ring rows index var planned planned_now outside some some_index stand = record {
  rows = pages-same table.rows after.rows (bytes_in (page_at f) first plan DataRing) (bytes_in (page_at new) first plan DataRing) rows (λ n. (before-var v (page_at f) (page_at new) first plan planned outside n).0 some);
  index = ring-same table.index after.index (bytes_in (page_at f) first plan IndexRing) (bytes_in (page_at new) first plan IndexRing) index
      (λ r is n. (before-var v (page_at f) (page_at new) first plan planned outside n).1 (some_index r is));
  var = λ a b before is.
      subst (λ (at : ℕ → List ℕ). PagesStand a at b (bytes_in (page_at new) first plan VarRing)) (sym (var-pages v f first plan planned))
      (subst (λ (at : ℕ → List ℕ). PagesStand a (page_in v f) b at) (sym (var-pages w new first plan planned_now))
      (subst (λ (r : Ring). PagesStand a (page_in v f) r (page_in w new)) (one b (sym var ∙ is)) (stand a before)));
}
  where
    one : (b : Ring) → Some ring ≡ Some b → ring ≡ b
    one b e = cc

-- the fault of an operation
pub fault_ends : (e : PartEnd Table) (fault : FlashFault) (new : FlashState) → placing.FaultEnds e fault new → FaultEnds e fault new
fault_ends Whole fault new a = absurd a
fault_ends (CutIn before) fault new a = a
fault_ends (FailedIn before) fault new a = a
