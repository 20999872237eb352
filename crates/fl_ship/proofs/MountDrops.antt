-- What a mount leaves of a table without a log: all of its records, but for the oldest.
use Rattle.std.proofs.Common.{◌≡◌, ◌≢◌, ℕ, zero, suc, ◌+◌, ◌-◌, ◌<◌, ◌≤◌, Bool, true, false, cond, Option, Some, None, List, [], ◌∷◌, ◌++◌, length, map, take, drop, refl, sym, ◌∙◌, ap, subst, arith, ◌⊎◌, inl, inr, length-drop, length-take}
use Rattle.std.specs.List.{AllByRecursion, slice_get}
use Rattle.std.specs.Option.{option_map, unwrap_or}
use Rattle.std.proofs.lemmas.List.{drop_all, drop-take, length-map}
use Rattle.std.proofs.lemmas.Bool.{cases_lt}
use Rattle.std.proofs.lemmas.Option.{none-some}
use Rattle.fl_model.proofs.Lists.{take_none, each-front, each-weaker}
use Rattle.fl_model.specs.Mount.{Turn, Of, Replay, GoesOn, MountEnd, Mounted, Mounts, Stopped, Unread, operations_at, ready, turn_operations, turned, turned_at, turns_from}
use Rattle.fl_model.specs.Record.{Plan, Record, has_log}
use Rattle.fl_model.specs.Ship.{records_in}
use Rattle.fl_model.specs.Table.{Table, Entry, RingName, DataRing, IndexRing, VarRing, LogRing, is_dirty, is_torn, lose, seal_page, table_seals}
use Rattle.fl_model.specs.Within.{at_place, seals_within}
use Rattle.fl_model.specs.Work.{CutShort, Device, Erase, Body, Failed, Finished, Kind, Mark, Operation, Outcome, Performs, Progress, VoidMark, done, effect}
use Rattle.fl_model.proofs.Among.{seals-at}
use Rattle.fl_model.proofs.ShipWork.{Drops, drops-none, drops-trans, effect-drops, map-take}
use Rattle.fl_machine.specs.Step.{all_ready}
use Rattle.fl_machine.proofs.MountsFindRecords.{has-turns}
use Rattle.fl_machine.proofs.LogMoves.{AllAt, all-at}
use Rattle.fl_machine.proofs.MountsAtPlace.{HasTurns, IsOtherTurn}
use Rattle.fl_machine.proofs.Places.{Both, RelAt, both-refl, both-trans, rel-changed_by}
use Rattle.fl_machine.proofs.Performed.{performs-rel}

-- the oldest of its records went, and as many wait for a page
pub record DropsOldest (before after : Table) : Type 0 where
  pub records : Drops (records_in before) (records_in after)
  pub pending : after.pending ≡ before.pending

oldest-none : (t : Table) → DropsOldest t t
oldest-none t = record { records = drops-none (records_in t); pending = refl }

oldest-trans : (x y z : Table) → DropsOldest x y → DropsOldest y z → DropsOldest x z
oldest-trans x y z h k = record { records = drops-trans (records_in x) (records_in y) (records_in z) h.records k.records; pending = k.pending ∙ h.pending }

-- ---- operations

-- an operation that seals no page of records
abbrev SealsNone : Kind → RingName → Type 0
SealsNone Mark DataRing = ⊥
SealsNone Mark IndexRing = Unit {0}
SealsNone Mark VarRing = Unit {0}
SealsNone Mark LogRing = Unit {0}
SealsNone Body ring = Unit {0}
SealsNone VoidMark ring = Unit {0}
SealsNone Erase ring = Unit {0}

effect-pending : (plan : Plan) (ring : RingName) (kind : Kind) (t : Table) → SealsNone kind ring → (effect plan ring kind t).pending ≡ t.pending
effect-pending plan DataRing Mark t h = absurd h
effect-pending plan IndexRing Mark t h = refl
effect-pending plan VarRing Mark t h = refl
effect-pending plan LogRing Mark t h = refl
effect-pending plan DataRing Body t h = refl
effect-pending plan IndexRing Body t h = refl
effect-pending plan VarRing Body t h = refl
effect-pending plan LogRing Body t h = refl
effect-pending plan DataRing VoidMark t h = refl
effect-pending plan IndexRing VoidMark t h = refl
effect-pending plan VarRing VoidMark t h = refl
effect-pending plan LogRing VoidMark t h = refl
effect-pending plan DataRing Erase t h = refl
effect-pending plan IndexRing Erase t h = refl
effect-pending plan VarRing Erase t h = refl
effect-pending plan LogRing Erase t h = refl

-- an operation of another table, or one that seals no page of records
abbrev IsCalm : ℕ → Operation → Type 0
IsCalm p o = (o.table ≢ p) ⊎ SealsNone o.kind o.ring

abbrev OldestAt : ℕ → List Table → List Table → Type 0
OldestAt p xs ys = RelAt DropsOldest p xs ys

at-none : (p : ℕ) (xs : List Table) → OldestAt p xs xs
at-none p xs = both-refl DropsOldest oldest-none (slice_get xs p)

at-trans : (p : ℕ) (xs ys zs : List Table) → OldestAt p xs ys → OldestAt p ys zs → OldestAt p xs zs
at-trans p xs ys zs h k = both-trans DropsOldest DropsOldest DropsOldest oldest-trans _ _ _ h k

done-oldest : (p : ℕ) (plans : List Plan) (o : Operation) (tables : List Table) → IsCalm p o → OldestAt p tables (done plans o tables)
done-oldest p plans o tables calm = rel-changed_by DropsOldest oldest-none o.table p _ plans tables (λ plan x e f g. by_calm plan x e calm)
  where
    by_calm : (plan : Plan) (x : Table) → o.table ≡ p → IsCalm p o → DropsOldest x (effect plan o.ring o.kind x)
    by_calm plan x e (inl other) = absurd (other e)
    by_calm plan x e (inr none) = record { records = effect-drops plan o.ring o.kind x; pending = effect-pending plan o.ring o.kind x none }

performs-oldest : (p : ℕ) (plans : List Plan) (rose : Bool) (operations : List Operation) (device : Device) (tables : List Table) (end : Progress) → AllByRecursion (IsCalm p) operations →
    Performs plans rose operations device tables end → OldestAt p tables end.tables
performs-oldest p plans rose operations device tables end calm h =
    performs-rel (OldestAt p) (at-none p) (at-trans p) plans rose operations device tables end
    (each-weaker (IsCalm p) (λ o. (xs : List Table) → OldestAt p xs (done plans o xs)) (λ o calm xs. done-oldest p plans o xs calm) operations calm) h

-- ---- turns

-- the records of a log join those of another table alone
abbrev IsCalmTurn : ℕ → ℕ × Turn → Type 0
IsCalmTurn p (n, Of ring) = Unit {0}
IsCalmTurn p (n, Replay) = n ≢ p

calm-turn : (p : ℕ) (at : ℕ × Turn) → IsOtherTurn p at.1 at.0 → IsCalmTurn p at
calm-turn p (n, Of ring) h = tt
calm-turn p (n, Replay) h = h

calm-turns : (p : ℕ) (had : Bool) (turns : List (ℕ × Turn)) → HasTurns p had turns → AllByRecursion (IsCalmTurn p) turns
calm-turns p had [] h = tt
calm-turns p true (at ∷ turns) h = (calm-turn p at h.0, calm-turns p true turns h.1)
calm-turns p false (at ∷ turns) (inl h) = (calm-turn p at h.0, calm-turns p false turns h.1)
calm-turns p false (at ∷ turns) (inr h) = (subst (IsCalmTurn p) (sym h.0) tt, calm-turns p true turns h.1)

turned-oldest : (p : ℕ) (plans : List Plan) (at : ℕ × Turn) (tables : List Table) → IsCalmTurn p at → OldestAt p tables (turned_at plans at tables)
turned-oldest p plans (n, turn) tables calm = rel-changed_by DropsOldest oldest-none n p _ plans tables (λ plan x e f g. by_turn turn plan x e calm)
  where
    by_turn : (turn : Turn) (plan : Plan) (x : Table) → n ≡ p → IsCalmTurn p (n, turn) → DropsOldest x (turned plan turn x)
    by_turn (Of DataRing) plan x e h = record { records = drops-none (records_in x); pending = refl }
    by_turn (Of IndexRing) plan x e h = record { records = drops-none (records_in x); pending = refl }
    by_turn (Of VarRing) plan x e h = record { records = drops-none (records_in x); pending = refl }
    by_turn (Of LogRing) plan x e h = record { records = drops-none (records_in x); pending = refl }
    by_turn Replay plan x e h = absurd (h e)

calm-operations : (p : ℕ) (plans : List Plan) (at : ℕ × Turn) (tables : List Table) → IsCalmTurn p at → AllByRecursion (IsCalm p) (operations_at plans at tables)
calm-operations p plans (n, turn) tables calm = by_plan (slice_get plans n) (slice_get tables n)
  where
    repairs : (ring : RingName) (torn dirty : Bool) →
        AllByRecursion (IsCalm p) ((cond torn (record { table = n; ring = ring; kind = VoidMark } ∷ []) []) ++ (cond dirty (record { table = n; ring = ring; kind = Erase } ∷ []) []))
    repairs ring true true = (inr tt, (inr tt, tt))
    repairs ring true false = (inr tt, tt)
    repairs ring false true = (inr tt, tt)
    repairs ring false false = tt

    by_turn : (turn : Turn) → IsCalmTurn p (n, turn) → (plan : Plan) (table : Table) → AllByRecursion (IsCalm p) (turn_operations plan n turn table)
    by_turn (Of ring) h plan table = repairs ring (is_torn ring table) (is_dirty ring (cond (is_torn ring table) (seal_page plan ring 0 table) table))
    by_turn Replay h plan table =
        let within = seals_within plan (table_seals plan table) table in
        let there : AllAt n (map (at_place n) within) = all-at n within in
        subst (AllByRecursion (IsCalm p)) (sym (seals-at plan n (table_seals plan table) table))
        (each-weaker (λ (o : Operation). o.table ≡ n) (IsCalm p) (λ o e. inl (λ q. h (sym e ∙ q))) (map (at_place n) within) there)

    by_plan : (plan : Option Plan) (table : Option Table) → AllByRecursion (IsCalm p) (unwrap_or (option_map (λ plan. unwrap_or (option_map (turn_operations plan n turn) table) []) plan) [])
    by_plan None table = tt
    by_plan (Some plan) None = tt
    by_plan (Some plan) (Some table) = by_turn turn calm plan table

-- ---- a mount, however it ends

abbrev pub tables_left : MountEnd → List Table
tables_left (Mounted end) = end.tables
tables_left (Stopped end) = end.tables
tables_left (Unread end) = end.tables

turns-oldest : (p : ℕ) (plans : List Plan) (rose : Bool) (turns : List (ℕ × Turn)) (device : Device) (tables : List Table) (how : MountEnd) → AllByRecursion (IsCalmTurn p) turns →
    Mounts plans rose turns device tables how → OldestAt p tables (tables_left how)
turns-oldest p plans rose [] device tables how calm h = subst (λ (e : MountEnd). OldestAt p tables (tables_left e)) (sym h) (at-none p tables)
turns-oldest p plans rose (at ∷ turns) device tables how calm (inl (end, unread, is)) =
    let begun = turned_at plans at tables in
    let all = subst (AllByRecursion (IsCalm p)) unread.split (calm-operations p plans at begun calm.0) in
    subst (λ (e : MountEnd). OldestAt p tables (tables_left e)) (sym is)
    (at-trans p tables begun end.tables (turned-oldest p plans at tables calm.0)
    (performs-oldest p plans rose unread.front device begun end (each-front (IsCalm p) unread.front unread.others all) unread.did))
turns-oldest p plans rose (at ∷ turns) device tables how calm (inr (end, did, goes)) =
    by_outcome end.outcome goes (λ g. at-trans p tables end.tables (tables_left how) here (turns-oldest p plans rose turns end.device end.tables how calm.1 g))
  where
    here : OldestAt p tables end.tables
    here =
        let begun = turned_at plans at tables in
        at-trans p tables begun end.tables (turned-oldest p plans at tables calm.0)
        (performs-oldest p plans rose (operations_at plans at begun) device begun end (calm-operations p plans at begun calm.0) did)

    by_outcome : (o : Outcome) → GoesOn o end how (Mounts plans rose turns end.device end.tables how) → (Mounts plans rose turns end.device end.tables how → OldestAt p tables (tables_left how)) →
        OldestAt p tables (tables_left how)
    by_outcome Finished g go = go g
    by_outcome (CutShort last) g go = subst (λ (e : MountEnd). OldestAt p tables (tables_left e)) (sym g) here
    by_outcome (Failed last) g go = subst (λ (e : MountEnd). OldestAt p tables (tables_left e)) (sym g) here

ready-oldest : (p : ℕ) (plans : List Plan) (tables : List Table) → OldestAt p tables (all_ready plans tables)
ready-oldest p [] tables = at-none p tables
ready-oldest p (plan ∷ plans) [] = at-none p []
ready-oldest zero (plan ∷ plans) (x ∷ xs) = by_log (has_log plan)
  where
    by_log : (l : Bool) → DropsOldest x (cond l x (ready plan x))
    by_log true = oldest-none x
    by_log false = record { records = drops-none (records_in x); pending = refl }
ready-oldest (suc p) (plan ∷ plans) (x ∷ xs) = ready-oldest p plans xs

-- the table at a place, and what is left of it there
pub record IsLeft (p : ℕ) (x : Table) (tables : List Table) : Type 0 where
  pub table : Table
  pub is : slice_get tables p ≡ Some table
  pub drops : DropsOldest x table

left-there : (p : ℕ) (x : Table) (xs ys : List Table) → slice_get xs p ≡ Some x → OldestAt p xs ys → IsLeft p x ys
left-there p x xs ys e h = by_both (slice_get xs p) (slice_get ys p) e refl h
  where
    by_both : (a b : Option Table) → a ≡ Some x → slice_get ys p ≡ b → Both DropsOldest a b → IsLeft p x ys
    by_both (Some y) (Some z) e k h = let same : y ≡ x = cc in record { table = z; is = k; drops = subst (λ (t : Table). DropsOldest t z) same h }
    by_both (Some y) None e k h = absurd h
    by_both None (Some z) e k h = absurd h
    by_both None None e k h = absurd (none-some x e)

mount-oldest : (plans : List Plan) (plan : Plan) (p : ℕ) (rose : Bool) (device : Device) (tables : List Table) (how : MountEnd) → slice_get plans p ≡ Some plan → has_log plan ≡ false →
    Mounts plans rose (turns_from 0 plans) device tables how → OldestAt p tables (tables_left how)
mount-oldest plans plan p rose device tables how e none did =
    turns-oldest p plans rose (turns_from 0 plans) device tables how
    (calm-turns p false (turns_from 0 plans) (has-turns p plans (λ q g. let same : plan ≡ q = cc (sym e ∙ g) in subst (λ (r : Plan). has_log r ≡ false) same none))) did

pub mount-drops : (plans : List Plan) (plan : Plan) (p : ℕ) (rose : Bool) (device : Device) (tables : List Table) (how : MountEnd) (x : Table) → slice_get plans p ≡ Some plan → has_log plan ≡ false →
    slice_get tables p ≡ Some x → Mounts plans rose (turns_from 0 plans) device tables how → IsLeft p x (tables_left how)
mount-drops plans plan p rose device tables how x e none k did = left-there p x tables (tables_left how) k (mount-oldest plans plan p rose device tables how e none did)

pub mounted-drops : (plans : List Plan) (plan : Plan) (p : ℕ) (rose : Bool) (device : Device) (tables : List Table) (end : Progress) (x : Table) → slice_get plans p ≡ Some plan → has_log plan ≡ false →
    slice_get tables p ≡ Some x → Mounts plans rose (turns_from 0 plans) device tables (Mounted end) → IsLeft p x (all_ready plans end.tables)
mounted-drops plans plan p rose device tables end x e none k did =
    left-there p x tables (all_ready plans end.tables) k
    (at-trans p tables end.tables (all_ready plans end.tables) (mount-oldest plans plan p rose device tables (Mounted end) e none did) (ready-oldest p plans end.tables))

-- ---- the records that pages have

front-drop : (g p : ℕ) (xs : List Record) → take (length (drop g xs) - p) (drop g xs) ≡ drop g (take (length xs - p) xs)
front-drop g p xs = by_order (cases_lt (length xs - p) g)
  where
    len : length (drop g xs) ≡ length xs - g
    len = length-drop g xs

    by_order : (length xs - p < g) ⊎ (g ≤ length xs - p) → take (length (drop g xs) - p) (drop g xs) ≡ drop g (take (length xs - p) xs)
    by_order (inl lt) =
        let z : length (drop g xs) - p ≡ 0 = omega (arith, len, lt) in
        ap (λ n. take n (drop g xs)) z ∙ (take_none (drop g xs) ∙ sym (drop_all g (take (length xs - p) xs) (let l = length-take (length xs - p) xs in omega (arith, l, lt))))
    by_order (inr le) =
        let z : length (drop g xs) - p ≡ (length xs - p) - g = omega (arith, len, le) in
        let w : g + ((length xs - p) - g) ≡ length xs - p = omega (arith, le) in
        ap (λ n. take n (drop g xs)) z ∙ (sym (drop-take g ((length xs - p) - g) xs) ∙ ap (λ n. drop g (take n xs)) w)

pub lose-records : (t : Table) → records_in (lose t) ≡ take (length (records_in t) - t.pending) (records_in t)
lose-records t = map-take (length t.entries - t.pending) t.entries ∙ ap (λ n. take (n - t.pending) (records_in t)) (sym (length-map t.entries (λ (e : Entry). e.kept)))

-- what isn't lost of the table loses its oldest records too
pub lose-drops : (x y : Table) → DropsOldest x y → Drops (records_in (lose x)) (records_in (lose y))
lose-drops x y h = record {
  gone = h.records.gone;
  is =
      lose-records y
      ∙ (ap (λ (p : ℕ). take (length (records_in y) - p) (records_in y)) h.pending
      ∙ (ap (λ (rs : List Record). take (length rs - x.pending) rs) h.records.is
      ∙ (front-drop h.records.gone x.pending (records_in x) ∙ ap (drop h.records.gone) (sym (lose-records x)))));
}
