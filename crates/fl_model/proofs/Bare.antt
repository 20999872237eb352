-- What a table without its log does, seen with the log beside it.
use Rattle.std.proofs.Common.{◌≡◌, ◌+◌, Bool, true, false, cond, ◌==◌, nat_lt, ◌&&◌, ◌||◌, not, length, Option, Some, None, List, [], ◌∷◌, ◌++◌, map, arith, refl, sym, ◌∙◌, ap, subst, ◌⊎◌, inl, inr}
use Rattle.std.specs.List.{AllByRecursion}
use Rattle.std.proofs.lemmas.List.{append-nil}
use Rattle.fl_base.specs.declared.types.CutKind.{CutKind}
use Rattle.fl_model.specs.Record.{Record, Plan, rows_per_page, has_index, has_var, entries_per_page}
use Rattle.fl_model.specs.Table.{Table, RingName, DataRing, IndexRing, VarRing, LogRing, shape_of, is_dirty, is_torn, seal_buffer, seal_page, after_seal, after_seals, table_seals, make_room_seals, put_joined, with_record, fill, fill_seals, join_seals, log_seals, refusal_of, first_of, refuse_if, Refusal, BadColumns, Spent, is_ring_spent, is_rows_spent, key_refusal, value_refusal, blob_refusal}
use Rattle.fl_model.specs.Work.{Kind, Body, Mark, VoidMark, Erase, effect, Ending, AsBefore, AsAfter, Either, Leaves, ending_of, Device, cut_now, counted, PartEnd, Whole, CutIn, FailedIn, PartProgress, PartFirst}
use Rattle.fl_model.specs.Within.{seal_within, seals_within, repair_within, effect_within, all_done, TablePerforms, TableMountEnd, TableUnread, TableUnreads, TableGoesOn, TableMounts}
use Rattle.fl_model.specs.Mount.{Of, renumber, rings_of}
use Rattle.fl_model.specs.MountLimit.{repaired, all_repaired, log_mount_limit, full_mount_limit, mount_limit}
use Rattle.fl_model.specs.Bare.{bare, bare_table, Log, log_of, beside, end_beside, progress_beside, mount_beside, IsBare, AreBare, BareTables}

abbrev AllBare : List (RingName × Kind) → Type 0
AllBare operations = AllByRecursion (λ (o : RingName × Kind). IsBare o.0) operations

-- each operation
effect-beside : (plan : Plan) (log : Log) (ring : RingName) (kind : Kind) (t : Table) → IsBare ring → effect plan ring kind (beside log t) ≡ beside log (effect (bare plan) ring kind t)
effect-beside plan log LogRing kind t h = absurd h
effect-beside plan log DataRing Body t h = refl
effect-beside plan log DataRing Mark t h = refl
effect-beside plan log DataRing VoidMark t h = refl
effect-beside plan log DataRing Erase t h = refl
effect-beside plan log IndexRing Body t h = refl
effect-beside plan log IndexRing Mark t h = refl
effect-beside plan log IndexRing VoidMark t h = refl
effect-beside plan log IndexRing Erase t h = refl
effect-beside plan log VarRing Body t h = refl
effect-beside plan log VarRing Mark t h = refl
effect-beside plan log VarRing VoidMark t h = refl
effect-beside plan log VarRing Erase t h = refl

leaves-beside : (log : Log) (ending : Ending) (before after left : Table) → Leaves ending before after left → Leaves ending (beside log before) (beside log after) (beside log left)
leaves-beside log AsBefore before after left h = ap (beside log) h
leaves-beside log AsAfter before after left h = ap (beside log) h
leaves-beside log Either before after left (inl h) = inl (ap (beside log) h)
leaves-beside log Either before after left (inr h) = inr (ap (beside log) h)

-- operations, one after another
performs-beside : (plan : Plan) (rose : Bool) (operations : List (RingName × Kind)) (device : Device) (t : Table) (now : PartProgress Table) (log : Log) → AllBare operations →
    TablePerforms (bare plan) rose operations device t now → TablePerforms plan rose operations device (beside log t) (progress_beside log now)
performs-beside plan rose [] device t now log b h = (ap (end_beside log) h.0, h.1, ap (beside log) h.2)
performs-beside plan rose (o ∷ operations) device t now log b h =
    first (cut_now device) h (λ g. performs-beside plan rose operations (counted o.1 device) (effect_within (bare plan) o t) now log b.1 g)
  where
    same : effect_within plan o (beside log t) ≡ beside log (effect_within (bare plan) o t)
    same = effect-beside plan log o.0 o.1 t b.0

    left : (ending : Ending) → Leaves ending t (effect_within (bare plan) o t) now.state → Leaves ending (beside log t) (effect_within plan o (beside log t)) (beside log now.state)
    left ending l = subst (λ (u : Table). Leaves ending (beside log t) u (beside log now.state)) (sym same) (leaves-beside log ending t (effect_within (bare plan) o t) now.state l)

    first : (cut : Option CutKind) → PartFirst rose cut o.1 device t (effect_within (bare plan) o t) now (TablePerforms (bare plan) rose operations (counted o.1 device) (effect_within (bare plan) o t) now) →
        (TablePerforms (bare plan) rose operations (counted o.1 device) (effect_within (bare plan) o t) now → TablePerforms plan rose operations (counted o.1 device) (beside log (effect_within (bare plan) o t)) (progress_beside log now)) →
        PartFirst rose cut o.1 device (beside log t) (effect_within plan o (beside log t)) (progress_beside log now) (TablePerforms plan rose operations (counted o.1 device) (effect_within plan o (beside log t)) (progress_beside log now))
    first (Some c) h go = (ap (end_beside log) h.0, h.1, left (cond rose Either (ending_of c o.1)) h.2)
    first None (inl h) go = inl (h.0, ap (end_beside log) h.1, h.2, left Either h.3)
    first None (inr h) go = inr (subst (λ (u : Table). TablePerforms plan rose operations (counted o.1 device) u (progress_beside log now)) (sym same) (go h))

-- seals
seal-beside : (plan : Plan) (log : Log) (ring : RingName) (t : Table) → IsBare ring → after_seal plan ring (beside log t) ≡ beside log (after_seal (bare plan) ring t)
seal-beside plan log LogRing t h = absurd h
seal-beside plan log DataRing t h = refl
seal-beside plan log IndexRing t h = refl
seal-beside plan log VarRing t h = refl

pub seals-beside : (plan : Plan) (log : Log) (rings : List RingName) (t : Table) → AreBare rings → after_seals plan rings (beside log t) ≡ beside log (after_seals (bare plan) rings t)
seals-beside plan log [] t h = refl
seals-beside plan log (ring ∷ rings) t h = ap (after_seals plan rings) (seal-beside plan log ring t h.0) ∙ seals-beside plan log rings (after_seal (bare plan) ring t) h.1

within-one : (plan : Plan) (log : Log) (ring : RingName) (t : Table) → IsBare ring → seal_within plan ring (beside log t) ≡ seal_within (bare plan) ring t
within-one plan log LogRing t h = absurd h
within-one plan log DataRing t h = refl
within-one plan log IndexRing t h = refl
within-one plan log VarRing t h = refl

within-beside : (plan : Plan) (log : Log) (rings : List RingName) (t : Table) → AreBare rings → seals_within plan rings (beside log t) ≡ seals_within (bare plan) rings t
within-beside plan log [] t h = refl
within-beside plan log (ring ∷ rings) t h =
    ap (λ (ops : List (RingName × Kind)). ops ++ seals_within plan rings (after_seal plan ring (beside log t))) (within-one plan log ring t h.0)
    ∙ ap (λ (ops : List (RingName × Kind)). seal_within (bare plan) ring t ++ ops) (ap (seals_within plan rings) (seal-beside plan log ring t h.0) ∙ within-beside plan log rings (after_seal (bare plan) ring t) h.1)

all_append : (xs ys : List (RingName × Kind)) → AllBare xs → AllBare ys → AllBare (xs ++ ys)
all_append [] ys h k = k
all_append (x ∷ xs) ys h k = (h.0, all_append xs ys h.1 k)

within-bare : (plan : Plan) (rings : List RingName) (t : Table) → AreBare rings → AllBare (seals_within plan rings t)
within-bare plan [] t h = tt
within-bare plan (ring ∷ rings) t h = all_append (seal_within plan ring t) (seals_within plan rings (after_seal plan ring t)) (by_dirty (is_dirty ring (seal_buffer plan ring t))) (within-bare plan rings (after_seal plan ring t) h.1)
  where
    by_dirty : (d : Bool) → AllBare ((ring, Body) ∷ (ring, Mark) ∷ (cond d ((ring, Erase) ∷ []) []))
    by_dirty true = (h.0, (h.0, (h.0, tt)))
    by_dirty false = (h.0, (h.0, tt))

-- the seals of a put
pub table-bare : (plan : Plan) (t : Table) → AreBare (table_seals plan t)
table-bare plan t = by_tests (t.pending == 0) (has_index plan && (length t.waiting == entries_per_page plan)) (nat_lt 0 (fill t))
  where
    by_tests : (z a b : Bool) → AreBare (cond z [] ((cond a (IndexRing ∷ []) []) ++ (cond b (VarRing ∷ []) []) ++ DataRing ∷ []))
    by_tests true a b = tt
    by_tests false true true = (tt, (tt, (tt, tt)))
    by_tests false true false = (tt, (tt, tt))
    by_tests false false true = (tt, (tt, tt))
    by_tests false false false = (tt, tt)

pub room-bare : (plan : Plan) (t : Table) → AreBare (make_room_seals plan t)
room-bare plan t = by_test (t.pending == rows_per_page plan)
  where
    by_test : (b : Bool) → AreBare (cond b (table_seals plan t) [])
    by_test true = table-bare plan t
    by_test false = tt

room-beside : (plan : Plan) (log : Log) (t : Table) → after_seals plan (make_room_seals plan (beside log t)) (beside log t) ≡ beside log (after_seals (bare plan) (make_room_seals (bare plan) t) t)
room-beside plan log t = seals-beside plan log (make_room_seals (bare plan) t) t (room-bare (bare plan) t)

put_joined-beside : (plan : Plan) (item : Record) (t : Table) (log : Log) → put_joined plan item (beside log t) ≡ beside log (put_joined (bare plan) item t)
put_joined-beside plan item t log = ap (with_record plan item) (room-beside plan log t)

join_seals-beside : (plan : Plan) (t : Table) (log : Log) → join_seals plan (beside log t) ≡ join_seals (bare plan) t ++ log_seals plan
join_seals-beside plan t log = ap (λ (xs : List RingName). xs ++ log_seals plan) (sym (append-nil (fill_seals (bare plan) t)))

-- refusals: that of spent numbers is the last
refused-beside : (plan : Plan) (item : Record) (t : Table) (log : Log) →
    refusal_of plan (beside log t) item ≡ first_of (refusal_of (bare plan) (bare_table t) item) (refuse_if (is_ring_spent log.ring) Spent)
refused-beside plan item t log =
    by_all (key_refusal t item.key) (refuse_if (not (length item.values == length plan.columns)) (BadColumns (length plan.columns))) (value_refusal plan item) (blob_refusal plan item)
    (is_rows_spent t || is_ring_spent t.var) (is_ring_spent log.ring)
  where
    by_spent : (a b : Bool) → refuse_if (a || b) Spent ≡ first_of (refuse_if (a || false) Spent) (refuse_if b Spent)
    by_spent true b = refl
    by_spent false b = refl

    by_all : (k c v b : Option Refusal) (x y : Bool) →
        first_of k (first_of c (first_of v (first_of b (refuse_if (x || y) Spent)))) ≡ first_of (first_of k (first_of c (first_of v (first_of b (refuse_if (x || false) Spent))))) (refuse_if y Spent)
    by_all (Some r) c v b x y = refl
    by_all None (Some r) v b x y = refl
    by_all None None (Some r) b x y = refl
    by_all None None None (Some r) x y = refl
    by_all None None None None x y = by_spent x y

-- mounts
renumber-beside : (plan : Plan) (log : Log) (ring : RingName) (t : Table) → IsBare ring → renumber plan ring (beside log t) ≡ beside log (renumber (bare plan) ring t)
renumber-beside plan log LogRing t h = absurd h
renumber-beside plan log DataRing t h = refl
renumber-beside plan log IndexRing t h = refl
renumber-beside plan log VarRing t h = refl

abbrev repair_by : RingName → Bool → Bool → List (RingName × Kind)
repair_by ring torn dirty = (cond torn ((ring, VoidMark) ∷ []) []) ++ (cond dirty ((ring, Erase) ∷ []) [])

repair-beside : (plan : Plan) (log : Log) (ring : RingName) (t : Table) → IsBare ring → repair_within plan ring (beside log t) ≡ repair_within (bare plan) ring t
repair-beside plan log LogRing t h = absurd h
repair-beside plan log DataRing t h = ap (repair_by DataRing t.rows.torn) (by_torn t.rows.torn)
  where
    by_torn : (b : Bool) → is_dirty DataRing (cond b (seal_page plan DataRing 0 (beside log t)) (beside log t)) ≡ is_dirty DataRing (cond b (seal_page (bare plan) DataRing 0 t) t)
    by_torn true = refl
    by_torn false = refl
repair-beside plan log IndexRing t h = ap (repair_by IndexRing (is_torn IndexRing t)) (by_torn (is_torn IndexRing t))
  where
    by_torn : (b : Bool) → is_dirty IndexRing (cond b (seal_page plan IndexRing 0 (beside log t)) (beside log t)) ≡ is_dirty IndexRing (cond b (seal_page (bare plan) IndexRing 0 t) t)
    by_torn true = refl
    by_torn false = refl
repair-beside plan log VarRing t h = ap (repair_by VarRing (is_torn VarRing t)) (by_torn (is_torn VarRing t))
  where
    by_torn : (b : Bool) → is_dirty VarRing (cond b (seal_page plan VarRing 0 (beside log t)) (beside log t)) ≡ is_dirty VarRing (cond b (seal_page (bare plan) VarRing 0 t) t)
    by_torn true = refl
    by_torn false = refl

repair-bare : (plan : Plan) (ring : RingName) (t : Table) → IsBare ring → AllBare (repair_within plan ring t)
repair-bare plan ring t h = by_tests (is_torn ring t) (is_dirty ring (cond (is_torn ring t) (seal_page plan ring 0 t) t))
  where
    by_tests : (a b : Bool) → AllBare ((cond a ((ring, VoidMark) ∷ []) []) ++ (cond b ((ring, Erase) ∷ []) []))
    by_tests true true = (h, (h, tt))
    by_tests true false = (h, tt)
    by_tests false true = (h, tt)
    by_tests false false = tt

bare_front : (xs ys : List (RingName × Kind)) → AllBare (xs ++ ys) → AllBare xs
bare_front [] ys h = tt
bare_front (x ∷ xs) ys h = (h.0, bare_front xs ys h.1)

mounts-beside : (plan : Plan) (rose : Bool) (rings : List RingName) (device : Device) (t : Table) (how : TableMountEnd) (log : Log) → AreBare rings →
    TableMounts (bare plan) rose (map (λ ring. Of ring) rings) device t how → TableMounts plan rose (map (λ ring. Of ring) rings) device (beside log t) (mount_beside log how)
mounts-beside plan rose [] device t how log b h = ap (mount_beside log) h
mounts-beside plan rose (ring ∷ rings) device t how log b h = by_case h (λ now g. mounts-beside plan rose rings now.device now.state how log b.1 g)
  where
    u : Table
    u = renumber (bare plan) ring t

    begun : renumber plan ring (beside log t) ≡ beside log u
    begun = renumber-beside plan log ring t b.0

    operations : repair_within plan ring (beside log u) ≡ repair_within (bare plan) ring u
    operations = repair-beside plan log ring u b.0

    -- the first ring's turn, seen from the renumbered table
    Turns : Table → Type 0
    Turns v =
        ((now : PartProgress Table) × TableUnreads plan rose (repair_within plan ring v) device v now × (mount_beside log how ≡ TableUnread now))
        ⊎ ((now : PartProgress Table) × TablePerforms plan rose (repair_within plan ring v) device v now × TableGoesOn now.end now (mount_beside log how) (TableMounts plan rose (map (λ ring. Of ring) rings) now.device now.state (mount_beside log how)))

    goes : (o : PartEnd Table) (now : PartProgress Table) → TableGoesOn o now how (TableMounts (bare plan) rose (map (λ ring. Of ring) rings) now.device now.state how) →
        ((now : PartProgress Table) → TableMounts (bare plan) rose (map (λ ring. Of ring) rings) now.device now.state how → TableMounts plan rose (map (λ ring. Of ring) rings) now.device (beside log now.state) (mount_beside log how)) →
        TableGoesOn (end_beside log o) (progress_beside log now) (mount_beside log how) (TableMounts plan rose (map (λ ring. Of ring) rings) now.device (beside log now.state) (mount_beside log how))
    goes Whole now g go = go now g
    goes (CutIn before) now g go = ap (mount_beside log) g
    goes (FailedIn before) now g go = ap (mount_beside log) g

    by_case : ((now : PartProgress Table) × TableUnreads (bare plan) rose (repair_within (bare plan) ring u) device u now × (how ≡ TableUnread now))
        ⊎ ((now : PartProgress Table) × TablePerforms (bare plan) rose (repair_within (bare plan) ring u) device u now × TableGoesOn now.end now how (TableMounts (bare plan) rose (map (λ ring. Of ring) rings) now.device now.state how)) →
        ((now : PartProgress Table) → TableMounts (bare plan) rose (map (λ ring. Of ring) rings) now.device now.state how → TableMounts plan rose (map (λ ring. Of ring) rings) now.device (beside log now.state) (mount_beside log how)) →
        TableMounts plan rose (map (λ ring. Of ring) (ring ∷ rings)) device (beside log t) (mount_beside log how)
    by_case (inl (now, unread, is)) go =
        subst Turns (sym begun)
        (inl (
          progress_beside log now,
          record {
            may_fail = unread.may_fail;
            front = unread.front;
            others = unread.others;
            split = operations ∙ unread.split;
            did = performs-beside plan rose unread.front device u now log (bare_front unread.front unread.others (subst AllBare unread.split (repair-bare (bare plan) ring u b.0))) unread.did;
            whole = ap (end_beside log) unread.whole;
          },
          ap (mount_beside log) is,
        ))
    by_case (inr (now, did, g)) go =
        subst Turns (sym begun)
        (inr (
          progress_beside log now,
          subst (λ (ops : List (RingName × Kind)). TablePerforms plan rose ops device (beside log u) (progress_beside log now)) (sym operations) (performs-beside plan rose (repair_within (bare plan) ring u) device u now log (repair-bare (bare plan) ring u b.0) did),
          goes now.end now g go,
        ))

-- how many pages a mount reads
done-beside : (plan : Plan) (log : Log) (operations : List (RingName × Kind)) (t : Table) → AllBare operations →
    all_done (effect_within plan) operations (beside log t) ≡ beside log (all_done (effect_within (bare plan)) operations t)
done-beside plan log [] t b = refl
done-beside plan log (o ∷ operations) t b = ap (all_done (effect_within plan) operations) (effect-beside plan log o.0 o.1 t b.0) ∙ done-beside plan log operations (effect_within (bare plan) o t) b.1

repaired-beside : (plan : Plan) (log : Log) (ring : RingName) (t : Table) → IsBare ring → repaired plan ring (beside log t) ≡ beside log (repaired (bare plan) ring t)
repaired-beside plan log ring t h =
    let u = renumber (bare plan) ring t in
    ap (λ (v : Table). all_done (effect_within plan) (repair_within plan ring v) v) (renumber-beside plan log ring t h)
    ∙ ap (λ (ops : List (RingName × Kind)). all_done (effect_within plan) ops (beside log u)) (repair-beside plan log ring u h)
    ∙ done-beside plan log (repair_within (bare plan) ring u) u (repair-bare (bare plan) ring u h)

all_repaired-beside : (plan : Plan) (log : Log) (rings : List RingName) (t : Table) → AreBare rings → all_repaired plan rings (beside log t) ≡ beside log (all_repaired (bare plan) rings t)
all_repaired-beside plan log [] t h = refl
all_repaired-beside plan log (ring ∷ rings) t h = ap (all_repaired plan rings) (repaired-beside plan log ring t h.0) ∙ all_repaired-beside plan log rings (repaired (bare plan) ring t) h.1

pub rings-bare : (plan : Plan) → AreBare (rings_of plan)
rings-bare plan = by_tests (has_index plan) (has_var plan)
  where
    by_tests : (a b : Bool) → AreBare ((cond a (IndexRing ∷ []) []) ++ DataRing ∷ [] ++ (cond b (VarRing ∷ []) []))
    by_tests true true = (tt, (tt, (tt, tt)))
    by_tests true false = (tt, (tt, tt))
    by_tests false true = (tt, (tt, tt))
    by_tests false false = (tt, tt)

abbrev no_log : Log
no_log = record { ring = None; records = []; before = [] }

mount_limit-bare : (plan : Plan) (t : Table) → mount_limit plan t ≡ mount_limit (bare plan) (bare_table t) + log_mount_limit (shape_of plan LogRing) t.log
mount_limit-bare plan t =
    let after = all_repaired (bare plan) (rings_of plan) t in
    let whole : mount_limit plan t ≡ full_mount_limit plan t (beside (log_of t) after) = ap (full_mount_limit plan t) (all_repaired-beside plan (log_of t) (rings_of plan) t (rings-bare plan)) in
    let part : mount_limit (bare plan) (bare_table t) ≡ full_mount_limit (bare plan) (bare_table t) (bare_table after) =
    ap (full_mount_limit (bare plan) (bare_table t)) (all_repaired-beside (bare plan) no_log (rings_of plan) t (rings-bare plan)) in
    let both : full_mount_limit plan t (beside (log_of t) after) ≡ full_mount_limit (bare plan) (bare_table t) (bare_table after) + log_mount_limit (shape_of plan LogRing) t.log = omega arith in
    omega (arith, whole, part, both)

pub bare-tables : BareTables
bare-tables = record {
  performs = λ plan rose rings device table now log b h.
      subst (λ (ops : List (RingName × Kind)). TablePerforms plan rose ops device (beside log table) (progress_beside log now)) (sym (within-beside plan log rings table b))
      (performs-beside plan rose (seals_within (bare plan) rings table) device table now log (within-bare (bare plan) rings table b) h);
  make_room_seals = λ plan table log. refl;
  put_joined = put_joined-beside;
  join_seals = join_seals-beside;
  refusals = refused-beside;
  flushed = λ plan table log. seals-beside plan log (table_seals (bare plan) table) table (table-bare (bare plan) table);
  mounts = mounts-beside;
  ready = λ plan table log. refl;
  mount_limit = mount_limit-bare;
}
