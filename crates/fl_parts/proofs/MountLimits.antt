-- The greatest number of reads of a mount, put together from those of its parts.
use Rattle.std.proofs.Common.{◌≡◌, ℕ, ◌+◌, ◌≤◌, Bool, true, false, ◌==◌, cond, Some, None, List, [], ◌∷◌, ◌++◌, map, fold, take, drop, refl, sym, ◌∙◌, ap, subst, arith, inl, inr}
use Rattle.fl_model.specs.Layout.{data_body}
use Rattle.fl_model.specs.Mount.{Of, renumber, rings_of}
use Rattle.fl_model.specs.MountLimit as limit
use Rattle.fl_model.specs.MountLimit.{repaired, all_repaired, mount_limit, part_mount_limit}
use Rattle.fl_model.specs.Record.{Plan, has_index, has_var}
use Rattle.fl_model.specs.Table.{Table, Entry, RingName, DataRing, IndexRing, VarRing, shape_of, is_torn, is_dirty, seal_page}
use Rattle.fl_model.specs.Within.{repair_within, effect_within, all_done, TablePerforms, TableGoesOn, TableMounts, TableMounted, TableUnread, TableStopped}
use Rattle.fl_model.specs.Work.{Kind, VoidMark, Erase, Device, PartEnd, Whole, CutIn, FailedIn, PartProgress}
use Rattle.fl_model.proofs.Pages.{page_with, pages_from}
use Rattle.fl_model.proofs.Performs.{performs-whole}
use Rattle.fl_ring.specs.Counts.{page_count}
use Rattle.fl_ring.specs.Numbers.{voids_at_end}
use Rattle.fl_ring.proofs.VoidsAtEnd.{voids_are}
use Rattle.fl_var.proofs.Bodies.{once}
use Rattle.fl_var.proofs.States.{all-once}
use Rattle.fl_parts.specs.MountLimits.{rows_mount_limit}
use Rattle.fl_parts.specs.Failing.{var_rings}
use Rattle.fl_parts.proofs.States.{state_of}

-- ---- the void pages at the end of the data ring

abbrev step : ℕ → ℕ → ℕ
step n count = cond (count == 0) (n + 1) 0

same_step : (plan : Plan) (number c n : ℕ) (entries : List Entry) → step n c ≡ step n (page_count once (page_with plan number c entries))
same_step plan number c n entries = by_test (c == 0)
  where
    by_test : (b : Bool) → cond b (n + 1) 0 ≡ step n (page_count once (cond b None (Some (data_body plan number (take c entries)))))
    by_test true = refl
    by_test false = refl

same_voids : (plan : Plan) (number : ℕ) (entries : List Entry) (counts : List ℕ) (n : ℕ) → fold step n counts ≡ fold step n (map (page_count once) (pages_from plan number entries counts))
same_voids plan number entries [] n = refl
same_voids plan number entries (c ∷ counts) n =
    ap (λ k. fold step k counts) (same_step plan number c n entries) ∙ same_voids plan (number + 1) (drop c entries) counts (step n (page_count once (page_with plan number c entries)))

pub data-voids : (plan : Plan) (table : Table) → limit.voids_at_end table.rows.counts ≡ voids_at_end (state_of plan table).kept
data-voids plan table = same_voids plan _ table.entries table.rows.counts 0 ∙ voids_are once (state_of plan table) (all-once (state_of plan table))

-- ---- the table when a ring was mounted

pub done-repaired : (plan : Plan) (ring : RingName) (table : Table) (rose : Bool) (device : Device) (now : PartProgress Table) →
    TablePerforms plan rose (repair_within plan ring (renumber plan ring table)) device (renumber plan ring table) now → now.end ≡ Whole → now.state ≡ repaired plan ring table
done-repaired plan ring table rose device now did whole =
    (performs-whole (λ operation. operation.1) (effect_within plan) rose (repair_within plan ring (renumber plan ring table)) device (renumber plan ring table) now did whole).0

pub mount-repaired : (plan : Plan) (ring : RingName) (table : Table) (rose : Bool) (device : Device) (now : PartProgress Table) → TableMounts plan rose (Of ring ∷ []) device table (TableMounted now) → now.state ≡ repaired plan ring table
mount-repaired plan ring table rose device now (inl u) = absurd (no u.2)
  where
    no : TableMounted now ≡ TableUnread u.0 → ⊥
    no e = cc
mount-repaired plan ring table rose device now (inr p) = by_end p.0.end refl p.2
  where
    no : TableMounted now ≡ TableStopped p.0 → ⊥
    no e = cc

    by_end : (e : PartEnd Table) → p.0.end ≡ e → TableGoesOn e p.0 (TableMounted now) (TableMounted now ≡ TableMounted (record { end = Whole; device = p.0.device; state = p.0.state })) → now.state ≡ repaired plan ring table
    by_end Whole e m =
        let same : now ≡ record { end = Whole; device = p.0.device; state = p.0.state } = cc in
        ap (λ (x : PartProgress Table). x.state) same ∙ done-repaired plan ring table rose device p.0 p.1 e
    by_end (CutIn b) e m = absurd (no m)
    by_end (FailedIn b) e m = absurd (no m)

-- it is the same beside that ring
abbrev repairs : RingName → Bool → Bool → List (RingName × Kind)
repairs ring torn dirty = (cond torn ((ring, VoidMark) ∷ []) []) ++ (cond dirty ((ring, Erase) ∷ []) [])

pub data-keeps : (plan : Plan) (table : Table) → (repaired plan DataRing table).var ≡ table.var
data-keeps plan table = let t = renumber plan DataRing table in by_cases t (is_torn DataRing t) (is_dirty DataRing (cond (is_torn DataRing t) (seal_page plan DataRing 0 t) t))
  where
    by_cases : (t : Table) (torn dirty : Bool) → (all_done (effect_within plan) (repairs DataRing torn dirty) t).var ≡ t.var
    by_cases t true true = refl
    by_cases t true false = refl
    by_cases t false true = refl
    by_cases t false false = refl

pub index-keeps : (plan : Plan) (table : Table) → ((repaired plan IndexRing table).rows ≡ table.rows) × ((repaired plan IndexRing table).var ≡ table.var)
index-keeps plan table = let t = renumber plan IndexRing table in by_cases t (is_torn IndexRing t) (is_dirty IndexRing (cond (is_torn IndexRing t) (seal_page plan IndexRing 0 t) t))
  where
    by_cases : (t : Table) (torn dirty : Bool) → let u = all_done (effect_within plan) (repairs IndexRing torn dirty) t in (u.rows ≡ t.rows) × (u.var ≡ t.var)
    by_cases t true true = (refl, refl)
    by_cases t true false = (refl, refl)
    by_cases t false true = (refl, refl)
    by_cases t false false = (refl, refl)

var_keeps : (plan : Plan) (before table : Table) → rows_mount_limit plan before (repaired plan VarRing table) ≡ rows_mount_limit plan before table
var_keeps plan before table = let t = renumber plan VarRing table in by_cases t (is_torn VarRing t) (is_dirty VarRing (cond (is_torn VarRing t) (seal_page plan VarRing 0 t) t))
  where
    by_cases : (t : Table) (torn dirty : Bool) → rows_mount_limit plan before (all_done (effect_within plan) (repairs VarRing torn dirty) t) ≡ rows_mount_limit plan before t
    by_cases t true true = refl
    by_cases t true false = refl
    by_cases t false true = refl
    by_cases t false false = refl

vars_keep : (plan : Plan) (before table : Table) → rows_mount_limit plan before (all_repaired plan (var_rings plan) table) ≡ rows_mount_limit plan before table
vars_keep plan before table = by_test (has_var plan)
  where
    by_test : (b : Bool) → rows_mount_limit plan before (all_repaired plan (cond b (VarRing ∷ []) []) table) ≡ rows_mount_limit plan before table
    by_test true = var_keeps plan before table
    by_test false = refl

-- ---- what the mount of one ring reads at most, and that of all

pub index-within : (plan : Plan) (before after : Table) → part_mount_limit (shape_of plan IndexRing) before.index ≤ limit.full_mount_limit plan before after
index-within plan before after = omega arith

pub rows-within : (plan : Plan) (before after : Table) → limit.ring_mount_limit (shape_of plan DataRing) before.rows ≤ rows_mount_limit plan before after
rows-within plan before after = omega arith

-- ---- all parts of a mount

pub limit-bare : (plan : Plan) (table : Table) (reads more all : ℕ) → has_index plan ≡ false → more ≤ reads →
    all ≤ more + (rows_mount_limit plan table (repaired plan DataRing table) + part_mount_limit (shape_of plan VarRing) table.var) → all ≤ reads + mount_limit plan table
limit-bare plan table reads more all none first then =
    let one : rings_of plan ≡ DataRing ∷ var_rings plan = ap (λ (b : Bool). (cond b (IndexRing ∷ []) []) ++ DataRing ∷ [] ++ var_rings plan) none in
    subst (λ (rings : List RingName). all ≤ reads + limit.full_mount_limit plan table (all_repaired plan rings table)) (sym one)
    (omega (arith, first, then, vars_keep plan table (repaired plan DataRing table)))

pub limit-indexed : (plan : Plan) (table x : Table) (reads more all : ℕ) → has_index plan ≡ true → x ≡ repaired plan IndexRing table → more ≤ reads + part_mount_limit (shape_of plan IndexRing) table.index →
    all ≤ more + (rows_mount_limit plan x (repaired plan DataRing x) + part_mount_limit (shape_of plan VarRing) x.var) → all ≤ reads + mount_limit plan table
limit-indexed plan table x reads more all some is first then =
    let two : rings_of plan ≡ IndexRing ∷ DataRing ∷ var_rings plan = ap (λ (b : Bool). (cond b (IndexRing ∷ []) []) ++ DataRing ∷ [] ++ var_rings plan) some in
    let keeps = index-keeps plan table in
    let rows : x.rows ≡ table.rows = ap (λ (t : Table). t.rows) is ∙ keeps.0 in
    let var : x.var ≡ table.var = ap (λ (t : Table). t.var) is ∙ keeps.1 in
    let ring = ap (λ r. limit.ring_mount_limit (shape_of plan DataRing) r) rows in
    let part = ap (λ r. part_mount_limit (shape_of plan VarRing) r) var in
    let after : rows_mount_limit plan x (all_repaired plan (var_rings plan) (repaired plan DataRing x)) ≡ rows_mount_limit plan x (all_repaired plan (var_rings plan) (repaired plan DataRing (repaired plan IndexRing table))) =
    ap (λ (t : Table). rows_mount_limit plan x (all_repaired plan (var_rings plan) (repaired plan DataRing t))) is in
    subst (λ (rings : List RingName). all ≤ reads + limit.full_mount_limit plan table (all_repaired plan rings table)) (sym two)
    (omega (arith, first, then, ring, part, after, vars_keep plan x (repaired plan DataRing x)))
