-- The operations of one table, seen from all tables.
use Rattle.std.proofs.Common.{◌≡◌, ◌≢◌, ℕ, zero, suc, Bool, true, false, cond, Option, Some, None, List, [], ◌∷◌, ◌++◌, map, refl, sym, ◌∙◌, ap, subst, append_assoc, inl, inr}
use Rattle.std.specs.List.{slice_get}
use Rattle.std.specs.Option.{option_map, unwrap_or}
use Rattle.std.proofs.lemmas.Option.{none-some}
use Rattle.fl_base.specs.declared.types.CutKind.{CutKind}
use Rattle.fl_model.specs.Record.{Plan}
use Rattle.fl_model.specs.Ring.{Ring, begun, erased}
use Rattle.fl_model.specs.Table.{Table, RingName, DataRing, IndexRing, VarRing, LogRing, is_dirty, is_torn, seal_buffer, seal_page, after_seal, after_seals, with_ring, table_seals}
use Rattle.fl_model.specs.Mount.{Turn, Of, Replay, turn_operations}
use Rattle.fl_model.specs.Work.{Kind, Body, Mark, VoidMark, Erase, effect, done, Ending, AsBefore, AsAfter, Either, Leaves, ending_of, Device, Progress, CutShort, Failed, Performs, PerformsFirst, cut_now, counted, changed_at, changed_by, operations_of, repair_operations, PartEnd, Whole, CutIn, FailedIn, PartProgress, PartFirst}
use Rattle.fl_model.specs.Within.{seal_within, seals_within, repair_within, turn_within, at_place, effect_within, TablePerforms, all_done, with_table, outcome_at, progress_at}

-- the operations of a table's seals and repairs, at the table's place
pub seals-at : (plan : Plan) (place : ℕ) (rings : List RingName) (table : Table) → operations_of plan place rings table ≡ map (at_place place) (seals_within plan rings table)
seals-at plan place [] table = refl
seals-at plan place (ring ∷ rings) table = by_dirty (is_dirty ring (seal_buffer plan ring table)) (seals-at plan place rings (with_ring ring erased (seal_buffer plan ring table)))
  where
    by_dirty : (b : Bool) → operations_of plan place rings (with_ring ring erased (seal_buffer plan ring table)) ≡ map (at_place place) (seals_within plan rings (after_seal plan ring table)) →
        (record { table = place; ring = ring; kind = Body } ∷ record { table = place; ring = ring; kind = Mark } ∷ (cond b (record { table = place; ring = ring; kind = Erase } ∷ []) []))
        ++ operations_of plan place rings (with_ring ring erased (seal_buffer plan ring table))
        ≡ map (at_place place) (((ring, Body) ∷ (ring, Mark) ∷ (cond b ((ring, Erase) ∷ []) [])) ++ seals_within plan rings (after_seal plan ring table))
    by_dirty true e = rw e refl
    by_dirty false e = rw e refl

-- the operations of joined seals
pub within-append : (plan : Plan) (xs ys : List RingName) (table : Table) → seals_within plan (xs ++ ys) table ≡ seals_within plan xs table ++ seals_within plan ys (after_seals plan xs table)
within-append plan [] ys table = refl
within-append plan (x ∷ xs) ys table =
    ap (λ l. seal_within plan x table ++ l) (within-append plan xs ys (after_seal plan x table))
    ∙ sym (append_assoc (seal_within plan x table) (seals_within plan xs (after_seal plan x table)) (seals_within plan ys (after_seals plan xs (after_seal plan x table))))

pub repair-at : (plan : Plan) (place : ℕ) (ring : RingName) (table : Table) → repair_operations plan place ring table ≡ map (at_place place) (repair_within plan ring table)
repair-at plan place ring table = by_tests (is_torn ring table) (is_dirty ring (cond (is_torn ring table) (seal_page plan ring 0 table) table))
  where
    by_tests : (a b : Bool) →
        (cond a (record { table = place; ring = ring; kind = VoidMark } ∷ []) []) ++ (cond b (record { table = place; ring = ring; kind = Erase } ∷ []) [])
        ≡ map (at_place place) ((cond a ((ring, VoidMark) ∷ []) []) ++ (cond b ((ring, Erase) ∷ []) []))
    by_tests true true = refl
    by_tests true false = refl
    by_tests false true = refl
    by_tests false false = refl

pub turn-at : (plan : Plan) (place : ℕ) (turn : Turn) (table : Table) → turn_operations plan place turn table ≡ map (at_place place) (turn_within plan turn table)
turn-at plan place (Of ring) table = repair-at plan place ring table
turn-at plan place Replay table = seals-at plan place (table_seals plan table) table

-- a change of the table at a place
pub changed-by : {P X : Type 0} (n : ℕ) (f : P → X → X) (plans : List P) (xs : List X) (plan : P) (x : X) → slice_get plans n ≡ Some plan → slice_get xs n ≡ Some x →
    changed_by n f plans xs ≡ changed_at n (λ _. f plan x) xs
changed-by n f [] xs plan x e k = absurd (none-some plan e)
changed-by n f (p ∷ ps) [] plan x e k = absurd (none-some x k)
changed-by {P} {X} zero f (p ∷ ps) (y ∷ ys) plan x e k =
    let same_plan : p ≡ plan = cc in
    let same_x : y ≡ x = cc in
    rw (same_plan, same_x) refl
changed-by (suc n) f (p ∷ ps) (y ∷ ys) plan x e k = ap (λ zs. y ∷ zs) (changed-by n f ps ys plan x e k)

pub changed-at : {X : Type 0} (n : ℕ) (f : X → X) (xs : List X) (x : X) → slice_get xs n ≡ Some x → changed_at n f xs ≡ changed_at n (λ _. f x) xs
changed-at n f [] x e = refl
changed-at {X} zero f (y ∷ ys) x e = let same : y ≡ x = cc in rw same refl
changed-at (suc n) f (y ∷ ys) x e = ap (λ zs. y ∷ zs) (changed-at n f ys x e)

pub changed-again : {X : Type 0} (n : ℕ) (x y : X) (xs : List X) → changed_at n (λ _. y) (changed_at n (λ _. x) xs) ≡ changed_at n (λ _. y) xs
changed-again n x y [] = refl
changed-again zero x y (z ∷ zs) = refl
changed-again (suc n) x y (z ∷ zs) = ap (λ ws. z ∷ ws) (changed-again n x y zs)

pub changed-to_same : {X : Type 0} (n : ℕ) (x : X) (xs : List X) → slice_get xs n ≡ Some x → changed_at n (λ _. x) xs ≡ xs
changed-to_same n x [] e = refl
changed-to_same {X} zero x (y ∷ ys) e = let same : y ≡ x = cc in rw same refl
changed-to_same (suc n) x (y ∷ ys) e = ap (λ zs. y ∷ zs) (changed-to_same n x ys e)

pub changed_at-there : {X : Type 0} (n : ℕ) (f : X → X) (xs : List X) (x : X) → slice_get xs n ≡ Some x → slice_get (changed_at n f xs) n ≡ Some (f x)
changed_at-there n f [] x e = absurd (none-some x e)
changed_at-there {X} zero f (y ∷ ys) x e = let same : y ≡ x = cc in ap (λ z. Some (f z)) same
changed_at-there (suc n) f (y ∷ ys) x e = changed_at-there n f ys x e

pub changed-there : {X : Type 0} (n : ℕ) (x y : X) (xs : List X) → slice_get xs n ≡ Some x → slice_get (changed_at n (λ _. y) xs) n ≡ Some y
changed-there n x y xs e = changed_at-there n (λ _. y) xs x e

pub changed_at-elsewhere : {X : Type 0} (n m : ℕ) (f : X → X) (xs : List X) → n ≢ m → slice_get (changed_at n f xs) m ≡ slice_get xs m
changed_at-elsewhere n m f [] h = refl
changed_at-elsewhere zero zero f (x ∷ xs) h = absurd (h refl)
changed_at-elsewhere zero (suc m) f (x ∷ xs) h = refl
changed_at-elsewhere (suc n) zero f (x ∷ xs) h = refl
changed_at-elsewhere (suc n) (suc m) f (x ∷ xs) h = changed_at-elsewhere n m f xs (λ e. h (ap suc e))

pub changed-elsewhere : {X : Type 0} (n m : ℕ) (y : X) (xs : List X) → n ≢ m → slice_get (changed_at n (λ _. y) xs) m ≡ slice_get xs m
changed-elsewhere n m y xs e = changed_at-elsewhere n m (λ _. y) xs e

-- an operation that is done to the table at its place
pub done-at : (plans : List Plan) (place : ℕ) (operation : RingName × Kind) (tables : List Table) (plan : Plan) (table : Table) → slice_get plans place ≡ Some plan → slice_get tables place ≡ Some table →
    done plans (at_place place operation) tables ≡ with_table place tables (effect_within plan operation table)
done-at plans place operation tables plan table e k = changed-by place (λ plan table. effect plan operation.0 operation.1 table) plans tables plan table e k

-- a failed operation leaves one of its ends in all tables
leaves-at : (ending : Ending) (place : ℕ) (tables : List Table) (before after left : Table) → Leaves ending before after left → slice_get tables place ≡ Some before →
    Leaves ending tables (with_table place tables after) (with_table place tables left)
leaves-at AsBefore place tables before after left h e = ap (with_table place tables) h ∙ changed-to_same place before tables e
leaves-at AsAfter place tables before after left h e = ap (with_table place tables) h
leaves-at Either place tables before after left (inl h) e = inl (ap (with_table place tables) h ∙ changed-to_same place before tables e)
leaves-at Either place tables before after left (inr h) e = inr (ap (with_table place tables) h)

-- what a table performs, all tables perform
pub performs-at : (plans : List Plan) (plan : Plan) (place : ℕ) (rose : Bool) (operations : List (RingName × Kind)) (device : Device) (tables : List Table) (table : Table) (now : PartProgress Table) →
    slice_get plans place ≡ Some plan → slice_get tables place ≡ Some table → TablePerforms plan rose operations device table now →
    Performs plans rose (map (at_place place) operations) device tables (progress_at place tables now)
performs-at plans plan place rose [] device tables table now e k h =
    (ap (outcome_at place tables) h.0, h.1, ap (with_table place tables) h.2 ∙ changed-to_same place table tables k)
performs-at plans plan place rose (operation ∷ operations) device tables table now e k h =
    first (cut_now device) h (λ g. performs-at plans plan place rose operations (counted operation.1 device) (with_table place tables (effect_within plan operation table)) (effect_within plan operation table) now e (changed-there place table (effect_within plan operation table) tables k) g)
  where
    moved : (o : PartEnd Table) → outcome_at place (with_table place tables (effect_within plan operation table)) o ≡ outcome_at place tables o
    moved Whole = refl
    moved (CutIn b) = ap (λ ts. CutShort ts) (changed-again place (effect_within plan operation table) b tables)
    moved (FailedIn b) = ap (λ ts. Failed ts) (changed-again place (effect_within plan operation table) b tables)

    end_moved : progress_at place (with_table place tables (effect_within plan operation table)) now ≡ progress_at place tables now
    end_moved = rw (moved now.end, changed-again place (effect_within plan operation table) now.state tables) refl

    others : Performs plans rose (map (at_place place) operations) (counted operation.1 device) (with_table place tables (effect_within plan operation table)) (progress_at place (with_table place tables (effect_within plan operation table)) now) →
        Performs plans rose (map (at_place place) operations) (counted operation.1 device) (done plans (at_place place operation) tables) (progress_at place tables now)
    others p =
        subst (λ (ts : List Table). Performs plans rose (map (at_place place) operations) (counted operation.1 device) ts (progress_at place tables now)) (sym (done-at plans place operation tables plan table e k))
        (subst (λ (end : Progress). Performs plans rose (map (at_place place) operations) (counted operation.1 device) (with_table place tables (effect_within plan operation table)) end) end_moved p)

    left : (ending : Ending) → Leaves ending table (effect_within plan operation table) now.state → Leaves ending tables (done plans (at_place place operation) tables) (with_table place tables now.state)
    left ending l =
        subst (λ (ts : List Table). Leaves ending tables ts (with_table place tables now.state)) (sym (done-at plans place operation tables plan table e k))
        (leaves-at ending place tables table (effect_within plan operation table) now.state l k)

    first : (cut : Option CutKind) →
        PartFirst rose cut operation.1 device table (effect_within plan operation table) now (TablePerforms plan rose operations (counted operation.1 device) (effect_within plan operation table) now) →
        (TablePerforms plan rose operations (counted operation.1 device) (effect_within plan operation table) now →
        Performs plans rose (map (at_place place) operations) (counted operation.1 device) (with_table place tables (effect_within plan operation table)) (progress_at place (with_table place tables (effect_within plan operation table)) now)) →
        PerformsFirst plans rose cut (at_place place operation) device tables (progress_at place tables now) (Performs plans rose (map (at_place place) operations) (counted operation.1 device) (done plans (at_place place operation) tables) (progress_at place tables now))
    first (Some c) h go =
        (ap (outcome_at place tables) h.0 ∙ ap (λ ts. CutShort ts) (changed-to_same place table tables k), h.1, left (cond rose Either (ending_of c operation.1)) h.2)
    first None (inl h) go =
        inl (h.0, ap (outcome_at place tables) h.1 ∙ ap (λ ts. Failed ts) (changed-to_same place table tables k), h.2, left Either h.3)
    first None (inr h) go = inr (others (go h))

-- a ring that isn't dirty is as it is after an erase
erased-clean : (ring : Ring) → ring.dirty ≡ false → erased ring ≡ ring
erased-clean ring e = rw (sym e) refl

with_erased-clean : (name : RingName) (table : Table) → is_dirty name table ≡ false → with_ring name erased table ≡ table
with_erased-clean DataRing table e = ap (λ (r : Ring). record table { rows = r }) (erased-clean table.rows e)
with_erased-clean IndexRing table e = ap (λ (r : Option Ring). record table { index = r }) (clean table.index e)
  where
    clean : (o : Option Ring) → unwrap_or (option_map (λ ring. ring.dirty) o) false ≡ false → option_map erased o ≡ o
    clean None e = refl
    clean (Some ring) e = ap (λ r. Some r) (erased-clean ring e)
with_erased-clean VarRing table e = ap (λ (r : Option Ring). record table { var = r }) (clean table.var e)
  where
    clean : (o : Option Ring) → unwrap_or (option_map (λ ring. ring.dirty) o) false ≡ false → option_map erased o ≡ o
    clean None e = refl
    clean (Some ring) e = ap (λ r. Some r) (erased-clean ring e)
with_erased-clean LogRing table e = ap (λ (r : Option Ring). record table { log = r }) (clean table.log e)
  where
    clean : (o : Option Ring) → unwrap_or (option_map (λ ring. ring.dirty) o) false ≡ false → option_map erased o ≡ o
    clean None e = refl
    clean (Some ring) e = ap (λ r. Some r) (erased-clean ring e)

-- a page that was begun is sealed as if it weren't
pub seal-begun : (plan : Plan) (ring : RingName) (table : Table) → seal_buffer plan ring (with_ring ring begun table) ≡ seal_buffer plan ring table
seal-begun plan DataRing table = refl
seal-begun plan IndexRing table = by_ring table.index refl
  where
    by_ring : (o : Option Ring) → table.index ≡ o → seal_buffer plan IndexRing (with_ring IndexRing begun table) ≡ seal_buffer plan IndexRing table
    by_ring None e = rw e refl
    by_ring (Some ring) e = rw e refl
seal-begun plan VarRing table = by_ring table.var refl
  where
    by_ring : (o : Option Ring) → table.var ≡ o → seal_buffer plan VarRing (with_ring VarRing begun table) ≡ seal_buffer plan VarRing table
    by_ring None e = rw e refl
    by_ring (Some ring) e = rw e refl
seal-begun plan LogRing table = by_ring table.log refl
  where
    by_ring : (o : Option Ring) → table.log ≡ o → seal_buffer plan LogRing (with_ring LogRing begun table) ≡ seal_buffer plan LogRing table
    by_ring None e = rw e refl
    by_ring (Some ring) e = rw e refl

-- all operations of a whole seal make a whole seal
pub seal-all_done : (plan : Plan) (ring : RingName) (table : Table) → all_done (effect_within plan) (seal_within plan ring table) table ≡ after_seal plan ring table
seal-all_done plan ring table = by_dirty (is_dirty ring (seal_buffer plan ring table)) refl
  where
    by_dirty : (b : Bool) → is_dirty ring (seal_buffer plan ring table) ≡ b →
        all_done (effect_within plan) (cond b ((ring, Erase) ∷ []) []) (seal_buffer plan ring (with_ring ring begun table)) ≡ after_seal plan ring table
    by_dirty true e = ap (with_ring ring erased) (seal-begun plan ring table)
    by_dirty false e = seal-begun plan ring table ∙ sym (with_erased-clean ring (seal_buffer plan ring table) e)

pub all_done-append : {O S : Type 0} (change : O → S → S) (operations others : List O) (s : S) → all_done change (operations ++ others) s ≡ all_done change others (all_done change operations s)
all_done-append change [] others s = refl
all_done-append change (operation ∷ operations) others s = all_done-append change operations others (change operation s)

-- .. and those of seals make these seals
pub seals-all_done : (plan : Plan) (rings : List RingName) (table : Table) → all_done (effect_within plan) (seals_within plan rings table) table ≡ after_seals plan rings table
seals-all_done plan [] table = refl
seals-all_done plan (ring ∷ rings) table =
    all_done-append (effect_within plan) (seal_within plan ring table) (seals_within plan rings (after_seal plan ring table)) table
    ∙ (ap (all_done (effect_within plan) (seals_within plan rings (after_seal plan ring table))) (seal-all_done plan ring table) ∙ seals-all_done plan rings (after_seal plan ring table))

pub after_seals-append : (plan : Plan) (rings others : List RingName) (table : Table) → after_seals plan (rings ++ others) table ≡ after_seals plan others (after_seals plan rings table)
after_seals-append plan [] others table = refl
after_seals-append plan (ring ∷ rings) others table = after_seals-append plan rings others (after_seal plan ring table)
