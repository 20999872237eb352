-- Records that are offered to a table one after another, over any bytes: each joins the pending ones, or is refused.
use Rattle.std.specs.Prelude.{◌≡◌, ℕ, ◌≤◌, Some, None, List, [], ◌∷◌}
use Rattle.fl_flash.specs.Flash.{FlashState}
use Rattle.fl_model.specs.Row.{Row}
use Rattle.fl_table.specs.Memory.{pending_in}
use Rattle.fl_table.specs.Paged.{HasFlushed}
use Rattle.fl_table.specs.Refusal.{put_refusal}
use Rattle.fl_table.specs.Stored.{HasJoined, IsEmptied}
use Rattle.fl_table.specs.declared.faults.PutRefusal.{PutRefusal}
use Rattle.fl_table.specs.declared.table.Table.{Table}

-- The record of this row: a table that refuses it stays as it is, and of another it is the last one, and pending.
pub record IsOffered {KNOTS SLOTS : ℕ} (old : Table KNOTS SLOTS) (row : Row) (new : Table KNOTS SLOTS) : Type 0 where
  pub refused : (refusal : PutRefusal) → put_refusal old row.key row.values None ≡ Some refusal → new ≡ old
  pub joins : put_refusal old row.key row.values None ≡ None → HasJoined old row.key row.values None new

abbrev pub AreOffered : {KNOTS SLOTS : ℕ} → Table KNOTS SLOTS → List Row → Table KNOTS SLOTS → Type 0
AreOffered old [] new = new ≡ old
AreOffered {KNOTS} {SLOTS} old (row ∷ rows) new = (between : Table KNOTS SLOTS) × (IsOffered old row between × AreOffered between rows new)

-- The pending rows were sealed as a page, where there are any, and none is left: as they are flushed.
pub record AreSealed {KNOTS SLOTS : ℕ} (old : Table KNOTS SLOTS) (old_f : FlashState) (new : Table KNOTS SLOTS) (new_f : FlashState) : Type 0 where
  pub quiet : pending_in old ≡ 0 → (new ≡ old) × (new_f ≡ old_f)
  pub sealed : 1 ≤ pending_in old → IsEmptied old new
  pub none : pending_in new ≡ 0
  pub flushed : 1 ≤ pending_in old → HasFlushed old old_f new_f
