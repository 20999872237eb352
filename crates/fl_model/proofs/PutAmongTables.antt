-- The put of one table, as a put among all tables.
use Rattle.std.proofs.Common.{◌≡◌, ℕ, Bool, Some, List, refl, sym, ◌∙◌, ap, subst}
use Rattle.std.specs.List.{slice_get}
use Rattle.fl_model.specs.Record.{Record, Plan}
use Rattle.fl_model.specs.Table.{Table, RingName, make_room_seals, join_seals, put_joined, put_record}
use Rattle.fl_model.specs.Work.{Operation, Device, Progress, Performs, operations_of, changed_at, PartEnd, Whole, CutIn, FailedIn, PartProgress}
use Rattle.fl_model.specs.Within.{seals_within, effect_within, TablePerforms, with_table, outcome_at, progress_at}
use Rattle.fl_model.specs.Puts.{PutGoesOn, TablePuts, TablePutGoesOn, join_operations}
use Rattle.fl_model.specs.Laws.{TablesPut}
use Rattle.fl_model.proofs.Performs.{performs-whole}
use Rattle.fl_model.proofs.Among.{seals-all_done, seals-at, changed-at, changed-there, performs-at}
use Rattle.fl_model.proofs.MountAmongTables.{progress-again}

-- seals of one table among all
performs-seals : (plans : List Plan) (plan : Plan) (place : ℕ) (rose : Bool) (rings : List RingName) (device : Device) (tables : List Table) (table : Table) (now : PartProgress Table) →
    slice_get plans place ≡ Some plan → slice_get tables place ≡ Some table → TablePerforms plan rose (seals_within plan rings table) device table now →
    Performs plans rose (operations_of plan place rings table) device tables (progress_at place tables now)
performs-seals plans plan place rose rings device tables table now e k h =
    subst (λ (ops : List Operation). Performs plans rose ops device tables (progress_at place tables now)) (sym (seals-at plan place rings table))
    (performs-at plans plan place rose (seals_within plan rings table) device tables table now e k h)

pub puts-at : TablesPut
puts-at plans plan place rose item device tables table now e k (mid, did, goes) =
    (progress_at place tables mid, performs-seals plans plan place rose (make_room_seals plan table) device tables table mid e k did, by_end mid.end refl goes)
  where
    joined : List Table
    joined = changed_at place (put_joined plan item) tables

    is_joined : joined ≡ with_table place tables (put_joined plan item table)
    is_joined = changed-at place (put_joined plan item) tables table k

    goes_to : (o : PartEnd Table) → mid.end ≡ o →
        PutGoesOn (outcome_at place tables o) (progress_at place tables mid) (progress_at place tables now)
        (Performs plans rose (join_operations plan place item table) mid.device joined (progress_at place tables now)) →
        PutGoesOn (outcome_at place tables mid.end) (progress_at place tables mid) (progress_at place tables now)
        (Performs plans rose (join_operations plan place item table) mid.device joined (progress_at place tables now))
    goes_to o q h =
        subst (λ (e : PartEnd Table). PutGoesOn (outcome_at place tables e) (progress_at place tables mid) (progress_at place tables now)
        (Performs plans rose (join_operations plan place item table) mid.device joined (progress_at place tables now))) (sym q) h

    by_end : (o : PartEnd Table) → mid.end ≡ o → TablePutGoesOn o mid now (TablePerforms plan rose (seals_within plan (join_seals plan (put_joined plan item table)) (put_joined plan item table)) mid.device (put_joined plan item table) now) →
        PutGoesOn (outcome_at place tables mid.end) (progress_at place tables mid) (progress_at place tables now)
        (Performs plans rose (join_operations plan place item table) mid.device joined (progress_at place tables now))
    by_end Whole q g =
        goes_to Whole q
        (subst (λ (ts : List Table). Performs plans rose (join_operations plan place item table) mid.device ts (progress_at place tables now)) (sym is_joined)
        (subst (λ (x : Progress). Performs plans rose (join_operations plan place item table) mid.device (with_table place tables (put_joined plan item table)) x) (progress-again place tables (put_joined plan item table) now)
        (performs-seals plans plan place rose (join_seals plan (put_joined plan item table)) mid.device (with_table place tables (put_joined plan item table)) (put_joined plan item table) now e (changed-there place table (put_joined plan item table) tables k) g)))
    by_end (CutIn b) q g = goes_to (CutIn b) q (ap (progress_at place tables) g)
    by_end (FailedIn b) q g = goes_to (FailedIn b) q (ap (progress_at place tables) g)

-- a put of which all operations are done leaves the table after it
pub put-whole : (plan : Plan) (rose : Bool) (item : Record) (device : Device) (table : Table) (now : PartProgress Table) →
    TablePuts plan rose item device table now → now.end ≡ Whole → now.state ≡ put_record plan item table
put-whole plan rose item device table now (mid, did, goes) whole = by_end mid.end refl goes
  where
    joined : Table
    joined = put_joined plan item table

    stopped : (o : PartEnd Table) → (o ≡ Whole → ⊥) → mid.end ≡ o → now ≡ mid → ⊥
    stopped o other q e = other (sym q ∙ (ap (λ (x : PartProgress Table). x.end) (sym e) ∙ whole))

    by_end : (o : PartEnd Table) → mid.end ≡ o → TablePutGoesOn o mid now (TablePerforms plan rose (seals_within plan (join_seals plan joined) joined) mid.device joined now) →
        now.state ≡ put_record plan item table
    by_end Whole q g =
        (performs-whole (λ operation. operation.1) (effect_within plan) rose (seals_within plan (join_seals plan joined) joined) mid.device joined now g whole).0
        ∙ seals-all_done plan (join_seals plan joined) joined
    by_end (CutIn b) q g = absurd (stopped (CutIn b) (λ e. cc) q g)
    by_end (FailedIn b) q g = absurd (stopped (FailedIn b) (λ e. cc) q g)
