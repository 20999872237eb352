-- The mount of one table, as part of the mount of all tables.
use Rattle.std.proofs.Common.{◌≡◌, ℕ, Bool, Option, Some, List, [], ◌∷◌, ◌++◌, map, refl, sym, ◌∙◌, ap, subst, ◌⊎◌, inl, inr}
use Rattle.std.specs.List.{slice_get}
use Rattle.std.specs.Option.{option_map, unwrap_or}
use Rattle.std.proofs.lemmas.List.{map-append}
use Rattle.fl_model.specs.Record.{Plan}
use Rattle.fl_model.specs.Table.{Table, RingName}
use Rattle.fl_model.specs.Work.{Kind, Operation, Device, Progress, CutShort, Failed, Performs, PartEnd, Whole, CutIn, FailedIn, PartProgress}
use Rattle.fl_model.specs.Mount.{Turn, turned, turn_operations, turned_at, operations_at, Mounts, MountEnd, Stopped, Unread, GoesOn, IsUnread}
use Rattle.fl_model.specs.Within.{turn_within, at_place, TablePerforms, with_table, outcome_at, progress_at, TableMountEnd, TableMounted, TableStopped, TableUnread, TableUnreads, TableGoesOn, TableMounts, MountsAlong}
use Rattle.fl_model.proofs.Among.{turn-at, changed-by, changed-again, changed-there, changed-to_same, performs-at}

-- the progress of a table doesn't ask what it was before
pub progress-again : (place : ℕ) (tables : List Table) (table : Table) (now : PartProgress Table) → progress_at place (with_table place tables table) now ≡ progress_at place tables now
progress-again place tables table now = rw (outcomes now.end, changed-again place table now.state tables) refl
  where
    outcomes : (o : PartEnd Table) → outcome_at place (with_table place tables table) o ≡ outcome_at place tables o
    outcomes Whole = refl
    outcomes (CutIn b) = ap (λ ts. CutShort ts) (changed-again place table b tables)
    outcomes (FailedIn b) = ap (λ ts. Failed ts) (changed-again place table b tables)

-- a turn of the table begins, and its operations
turned-at : (plans : List Plan) (plan : Plan) (place : ℕ) (turn : Turn) (tables : List Table) (table : Table) → slice_get plans place ≡ Some plan → slice_get tables place ≡ Some table →
    turned_at plans (place, turn) tables ≡ with_table place tables (turned plan turn table)
turned-at plans plan place turn tables table e k = changed-by place (λ plan table. turned plan turn table) plans tables plan table e k

operations-at : (plans : List Plan) (plan : Plan) (place : ℕ) (turn : Turn) (tables : List Table) (table : Table) → slice_get plans place ≡ Some plan → slice_get tables place ≡ Some table →
    operations_at plans (place, turn) tables ≡ map (at_place place) (turn_within plan turn table)
operations-at plans plan place turn tables table e k =
    ap (λ (o : Option Plan). unwrap_or (option_map (λ plan. unwrap_or (option_map (turn_operations plan place turn) (slice_get tables place)) []) o) []) e
    ∙ (ap (λ (o : Option Table). unwrap_or (option_map (turn_operations plan place turn) o) []) k ∙ turn-at plan place turn table)

pub mounts-along : (plans : List Plan) (plan : Plan) (place : ℕ) (rose : Bool) (turns : List Turn) (others : List (ℕ × Turn)) (device : Device) (tables : List Table) (table : Table) (how : TableMountEnd) →
    slice_get plans place ≡ Some plan → slice_get tables place ≡ Some table → TableMounts plan rose turns device table how → MountsAlong plans rose place turns others device tables how
mounts-along plans plan place rose [] others device tables table how e k h =
    subst (MountsAlong plans rose place [] others device tables) (sym h) (λ end m. subst (λ (ts : List Table). Mounts plans rose others device ts end) (changed-to_same place table tables k) m)
mounts-along plans plan place rose (turn ∷ turns) others device tables table how e k h =
    by_case h (λ now g. mounts-along plans plan place rose turns others now.device (with_table place (with_table place tables (turned plan turn table)) now.state) now.state how e
    (changed-there place (turned plan turn table) now.state (with_table place tables (turned plan turn table)) (changed-there place table (turned plan turn table) tables k)) g)
  where
    there : slice_get (with_table place tables (turned plan turn table)) place ≡ Some (turned plan turn table)
    there = changed-there place table (turned plan turn table) tables k

    -- the operations of the first turn among all tables
    performs : (front : List (RingName × Kind)) (now : PartProgress Table) → TablePerforms plan rose front device (turned plan turn table) now →
        Performs plans rose (map (at_place place) front) device (turned_at plans (place, turn) tables) (progress_at place tables now)
    performs front now did =
        subst (λ (ts : List Table). Performs plans rose (map (at_place place) front) device ts (progress_at place tables now)) (sym (turned-at plans plan place turn tables table e k))
        (subst (λ (end : Progress). Performs plans rose (map (at_place place) front) device (with_table place tables (turned plan turn table)) end) (progress-again place tables (turned plan turn table) now)
        (performs-at plans plan place rose front device (with_table place tables (turned plan turn table)) (turned plan turn table) now e there did))

    operations : operations_at plans (place, turn) (turned_at plans (place, turn) tables) ≡ map (at_place place) (turn_within plan turn (turned plan turn table))
    operations =
        ap (λ (ts : List Table). operations_at plans (place, turn) ts) (turned-at plans plan place turn tables table e k)
        ∙ operations-at plans plan place turn (with_table place tables (turned plan turn table)) (turned plan turn table) e there

    unread : (now : PartProgress Table) → TableUnreads plan rose (turn_within plan turn (turned plan turn table)) device (turned plan turn table) now →
        IsUnread plans rose (operations_at plans (place, turn) (turned_at plans (place, turn) tables)) device (turned_at plans (place, turn) tables) (progress_at place tables now)
    unread now u = record {
      may_fail = u.may_fail;
      front = map (at_place place) u.front;
      others = map (at_place place) u.others;
      split = operations ∙ (ap (map (at_place place)) u.split ∙ map-append (at_place place) u.front u.others);
      did = performs u.front now u.did;
      outcome = ap (outcome_at place tables) u.whole;
    }

    did_all : (now : PartProgress Table) → TablePerforms plan rose (turn_within plan turn (turned plan turn table)) device (turned plan turn table) now →
        Performs plans rose (operations_at plans (place, turn) (turned_at plans (place, turn) tables)) device (turned_at plans (place, turn) tables) (progress_at place tables now)
    did_all now did =
        subst (λ (ops : List Operation). Performs plans rose ops device (turned_at plans (place, turn) tables) (progress_at place tables now)) (sym operations)
        (performs (turn_within plan turn (turned plan turn table)) now did)

    -- the other turns begin at the tables that the first one left
    moved : (now : PartProgress Table) → with_table place (with_table place tables (turned plan turn table)) now.state ≡ with_table place tables now.state
    moved now = changed-again place (turned plan turn table) now.state tables

    twice : (now last : PartProgress Table) → progress_at place (with_table place (with_table place tables (turned plan turn table)) now.state) last ≡ progress_at place tables last
    twice now last = progress-again place (with_table place tables (turned plan turn table)) now.state last ∙ progress-again place tables (turned plan turn table) last

    goes : (now : PartProgress Table) → TablePerforms plan rose (turn_within plan turn (turned plan turn table)) device (turned plan turn table) now → now.end ≡ Whole → (end : MountEnd) →
        Mounts plans rose (map (λ turn. (place, turn)) turns ++ others) now.device (with_table place tables now.state) end →
        Mounts plans rose (map (λ turn. (place, turn)) (turn ∷ turns) ++ others) device tables end
    goes now did whole end m = inr (progress_at place tables now, did_all now did, goes_on whole)
      where
        goes_on : now.end ≡ Whole → GoesOn (outcome_at place tables now.end) (progress_at place tables now) end (Mounts plans rose (map (λ turn. (place, turn)) turns ++ others) now.device (with_table place tables now.state) end)
        goes_on w = rw w m

    rest : (now : PartProgress Table) → TablePerforms plan rose (turn_within plan turn (turned plan turn table)) device (turned plan turn table) now → now.end ≡ Whole → (end : TableMountEnd) →
        MountsAlong plans rose place turns others now.device (with_table place (with_table place tables (turned plan turn table)) now.state) end → MountsAlong plans rose place (turn ∷ turns) others device tables end
    rest now did whole (TableMounted last) m =
        λ end others_mount. goes now did whole end
        (subst (λ (ts : List Table). Mounts plans rose (map (λ turn. (place, turn)) turns ++ others) now.device ts end) (moved now)
        (m end (subst (λ (ts : List Table). Mounts plans rose others last.device ts end) (sym (changed-again place now.state last.state (with_table place tables (turned plan turn table)) ∙ changed-again place (turned plan turn table) last.state tables)) others_mount)))
    rest now did whole (TableStopped last) m =
        goes now did whole (Stopped (progress_at place tables last))
        (subst (λ (ts : List Table). Mounts plans rose (map (λ turn. (place, turn)) turns ++ others) now.device ts (Stopped (progress_at place tables last))) (moved now)
        (subst (λ (end : Progress). Mounts plans rose (map (λ turn. (place, turn)) turns ++ others) now.device (with_table place (with_table place tables (turned plan turn table)) now.state) (Stopped end)) (twice now last) m))
    rest now did whole (TableUnread last) m =
        goes now did whole (Unread (progress_at place tables last))
        (subst (λ (ts : List Table). Mounts plans rose (map (λ turn. (place, turn)) turns ++ others) now.device ts (Unread (progress_at place tables last))) (moved now)
        (subst (λ (end : Progress). Mounts plans rose (map (λ turn. (place, turn)) turns ++ others) now.device (with_table place (with_table place tables (turned plan turn table)) now.state) (Unread end)) (twice now last) m))

    by_case : ((now : PartProgress Table) × TableUnreads plan rose (turn_within plan turn (turned plan turn table)) device (turned plan turn table) now × (how ≡ TableUnread now))
        ⊎ ((now : PartProgress Table) × TablePerforms plan rose (turn_within plan turn (turned plan turn table)) device (turned plan turn table) now × TableGoesOn now.end now how (TableMounts plan rose turns now.device now.state how)) →
        ((now : PartProgress Table) → TableMounts plan rose turns now.device now.state how → MountsAlong plans rose place turns others now.device (with_table place (with_table place tables (turned plan turn table)) now.state) how) →
        MountsAlong plans rose place (turn ∷ turns) others device tables how
    by_case (inl u) go = subst (MountsAlong plans rose place (turn ∷ turns) others device tables) (sym u.2) (inl (progress_at place tables u.0, unread u.0 u.1, refl))
    by_case (inr d) go = by_end d.0.end refl d.2
      where
        by_end : (o : PartEnd Table) → d.0.end ≡ o → TableGoesOn o d.0 how (TableMounts plan rose turns d.0.device d.0.state how) → MountsAlong plans rose place (turn ∷ turns) others device tables how
        by_end Whole e' g = rest d.0 d.1 e' how (go d.0 g)
        by_end (CutIn b) e' g = subst (MountsAlong plans rose place (turn ∷ turns) others device tables) (sym g) (inr (progress_at place tables d.0, did_all d.0 d.1, stops e'))
          where
            stops : d.0.end ≡ CutIn b → GoesOn (outcome_at place tables d.0.end) (progress_at place tables d.0) (Stopped (progress_at place tables d.0)) (Mounts plans rose (map (λ turn. (place, turn)) turns ++ others) d.0.device (with_table place tables d.0.state) (Stopped (progress_at place tables d.0)))
            stops e' = rw e' refl
        by_end (FailedIn b) e' g = subst (MountsAlong plans rose place (turn ∷ turns) others device tables) (sym g) (inr (progress_at place tables d.0, did_all d.0 d.1, stops e'))
          where
            stops : d.0.end ≡ FailedIn b → GoesOn (outcome_at place tables d.0.end) (progress_at place tables d.0) (Stopped (progress_at place tables d.0)) (Mounts plans rose (map (λ turn. (place, turn)) turns ++ others) d.0.device (with_table place tables d.0.state) (Stopped (progress_at place tables d.0)))
            stops e' = rw e' refl
