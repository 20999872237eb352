-- Where the operations of a table with a log stop, the records of its log are as they should.
use Rattle.std.proofs.Common.{◌≡◌, inl, inr, Bool, Option, Some, None, List, [], ◌∷◌, cond, refl, subst, sym}
use Rattle.fl_base.specs.declared.types.CutKind.{CutKind}
use Rattle.fl_model.specs.Bare.{log_of, end_beside}
use Rattle.fl_model.specs.Record.{Plan}
use Rattle.fl_model.specs.Table.{Table, RingName}
use Rattle.fl_model.specs.Within.{effect_within, TablePerforms}
use Rattle.fl_model.specs.Work.{Kind, Ending, AsBefore, AsAfter, Either, Leaves, ending_of, Device, cut_now, counted, PartEnd, Whole, CutIn, FailedIn, PartProgress, PartFirst}
use Rattle.fl_machine.proofs.RecordsChange.{Any}
use Rattle.fl_machine.proofs.Logs.{core, IsFine, lost}
use Rattle.fl_machine.proofs.LogOperations.{Goes, Stops}

-- the core of what is left
stop-left : (ending : Ending) (before after left : Table) → Leaves ending before after left → IsFine (lost (core before)) → IsFine (lost (core after)) → IsFine (lost (core left))
stop-left AsBefore before after left e b a = subst (λ (t : Table). IsFine (lost (core t))) (sym e) b
stop-left AsAfter before after left e b a = subst (λ (t : Table). IsFine (lost (core t))) (sym e) a
stop-left Either before after left (inl e) b a = subst (λ (t : Table). IsFine (lost (core t))) (sym e) b
stop-left Either before after left (inr e) b a = subst (λ (t : Table). IsFine (lost (core t))) (sym e) a

pub stops-fine : (plan : Plan) (rose : Bool) (operations : List (RingName × Kind)) (device : Device) (t : Table) (now : PartProgress Table) → Goes plan (Stops Any) operations t → TablePerforms plan rose operations device t now →
    (now.end ≡ Whole → ⊥) → IsFine (lost (core now.state))
stops-fine plan rose [] device t now goes h broken = absurd (broken h.0)
stops-fine plan rose (o ∷ operations) device t now goes h broken =
    first (cut_now device) h (λ g. stops-fine plan rose operations (counted o.1 device) (effect_within plan o t) now goes.2 g broken)
  where
    left : (ending : Ending) → Leaves ending t (effect_within plan o t) now.state → IsFine (lost (core now.state))
    left ending l = stop-left ending t (effect_within plan o t) now.state l goes.0.0.fine goes.1.0.fine

    first : (cut : Option CutKind) → PartFirst rose cut o.1 device t (effect_within plan o t) now (TablePerforms plan rose operations (counted o.1 device) (effect_within plan o t) now) →
        (TablePerforms plan rose operations (counted o.1 device) (effect_within plan o t) now → IsFine (lost (core now.state))) → IsFine (lost (core now.state))
    first (Some c) h go = left (cond rose Either (ending_of c o.1)) h.2
    first None (inl h) go = left Either h.3
    first None (inr h) go = go h

-- an end beside a log is whole where it is
pub unbeside : (table : Table) (e : PartEnd Table) → end_beside (log_of table) e ≡ Whole → e ≡ Whole
unbeside table Whole k = refl
unbeside table (CutIn b) k = cc
unbeside table (FailedIn b) k = cc
