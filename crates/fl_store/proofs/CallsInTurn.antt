-- A flash and a table over several calls.
use Rattle.std.proofs.Common.{ℕ, ◌+◌, Option, None, Some, sym, ◌∙◌, ap}
use Rattle.fl_base.specs.declared.types.RingPlace.{RingPlace}
use Rattle.fl_model.specs.Bare.{bare}
use Rattle.fl_model.specs.Record.{Plan, blocks_of}
use Rattle.fl_table.proofs.SealAnswers as without_log
use Rattle.fl_table.proofs.SealAnswers.{plan-self, same-then}
use Rattle.fl_rlc.specs.Table.{AreSameLog, IsLogPlanned, IsPlanned, IsSamePlan}
use Rattle.fl_rlc.specs.declared.log.RecordLog.{RecordLog}
use Rattle.fl_rlc.specs.declared.table.LoggedTable.{LoggedTable}
use Rattle.fl_rlc.proofs.PutFrames.{log-self}

-- the plan of a table
log-on : (old mid new : Option RecordLog) → AreSameLog old mid → AreSameLog mid new → AreSameLog old new
log-on None None None a b = tt
log-on None None (Some new) a b = absurd b
log-on None (Some mid) new a b = absurd a
log-on (Some old) None new a b = absurd a
log-on (Some old) (Some mid) None a b = absurd b
log-on (Some old) (Some mid) (Some new) a b = record { geometry = b.geometry ∙ a.geometry; place = b.place ∙ a.place }

log-planned : (old new : Option RecordLog) (first : ℕ) (plan : Plan) → IsLogPlanned old first plan → AreSameLog old new → IsLogPlanned new first plan
log-planned None None first plan h same = h
log-planned None (Some new) first plan h same = absurd same
log-planned (Some old) None first plan h same = absurd same
log-planned (Some old) (Some new) first plan h same = record {
  geometry = h.geometry ∙ sym same.geometry;
  blocks = h.blocks ∙ sym (ap (λ (p : RingPlace). p.blocks) same.place);
  begins = ap (λ (p : RingPlace). p.first_block) same.place ∙ h.begins;
}

pub same-plan : (t : LoggedTable 64 64) → IsSamePlan t t
same-plan t = record { table = plan-self t.table; log = log-self t.log }

pub same-on : (old mid new : LoggedTable 64 64) → IsSamePlan old mid → IsSamePlan mid new → IsSamePlan old new
same-on old mid new a b = record { table = same-then old.table mid.table new.table a.table b.table; log = log-on old.log mid.log new.log a.log b.log }

pub planned-same : (old new : LoggedTable 64 64) (first : ℕ) (plan : Plan) → IsPlanned old first plan → IsSamePlan old new → IsPlanned new first plan
planned-same old new first plan h same =
    record { table = without_log.planned-same old.table new.table first (bare plan) h.table same.table; log = log-planned old.log new.log (first + blocks_of (bare plan)) plan h.log same.log }
