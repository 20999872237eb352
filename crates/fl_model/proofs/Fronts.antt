-- What is left of a list of operations of which one failed.
use Rattle.std.proofs.Common.{◌≡◌, Bool, true, false, cond, Option, Some, None, List, [], ◌∷◌, ◌++◌, append_assoc, refl, sym, ◌∙◌, ap, subst, ◌⊎◌, inl, inr}
use Rattle.fl_base.specs.declared.types.CutKind.{CutKind}
use Rattle.fl_model.specs.Record.{Plan}
use Rattle.fl_model.specs.Table.{Table, RingName, seal_page, is_dirty, is_torn}
use Rattle.fl_model.specs.Work.{Kind, VoidMark, Erase, Ending, AsBefore, AsAfter, Either, Leaves, Device, PartProgress, PartFirst, PartPerforms, cut_now, counted}
use Rattle.fl_model.specs.Within.{repair_within, effect_within, all_done, TablePerforms, TableUnreads}

-- What is left of a list of operations, of which one may have failed, is what some of the first ones make.
pub record IsFront {O S : Type 0} (change : O → S → S) (operations : List O) (s left : S) : Type 0 where
  pub front : List O
  pub others : List O
  pub split : operations ≡ front ++ others
  pub state : left ≡ all_done change front s

leaves : {S : Type 0} (e : Ending) (before after left : S) → Leaves e before after left → (left ≡ before) ⊎ (left ≡ after)
leaves AsBefore before after left h = inl h
leaves AsAfter before after left h = inr h
leaves Either before after left h = h

pub front-left : {O S : Type 0} (kind : O → Kind) (change : O → S → S) (rose : Bool) (operations : List O) (device : Device) (s : S) (now : PartProgress S) → PartPerforms kind change rose operations device s now →
    IsFront change operations s now.state
front-left kind change rose [] device s now h = record { front = []; others = []; split = refl; state = h.2 }
front-left {O} {S} kind change rose (operation ∷ operations) device s now h =
    by_cut (cut_now device) h (λ g. front-left kind change rose operations (counted (kind operation) device) (change operation s) now g)
  where
    either : (now.state ≡ s) ⊎ (now.state ≡ change operation s) → IsFront change (operation ∷ operations) s now.state
    either (inl e) = record { front = []; others = operation ∷ operations; split = refl; state = e }
    either (inr e) = record { front = operation ∷ []; others = operations; split = refl; state = e }

    later : IsFront change operations (change operation s) now.state → IsFront change (operation ∷ operations) s now.state
    later f = record { front = operation ∷ f.front; others = f.others; split = ap (λ (os : List O). operation ∷ os) f.split; state = f.state }

    by_cut : (cut : Option CutKind) →
        PartFirst rose cut (kind operation) device s (change operation s) now (PartPerforms kind change rose operations (counted (kind operation) device) (change operation s) now) →
        (PartPerforms kind change rose operations (counted (kind operation) device) (change operation s) now → IsFront change operations (change operation s) now.state) → IsFront change (operation ∷ operations) s now.state
    by_cut (Some c) h go = either (leaves _ s (change operation s) now.state h.2)
    by_cut None (inl h) go = either (leaves Either s (change operation s) now.state h.3)
    by_cut None (inr h) go = later (go h)

-- .. of operations of a table, and where a read failed after some of them
pub performed-front : (plan : Plan) (rose : Bool) (operations : List (RingName × Kind)) (device : Device) (table : Table) (now : PartProgress Table) → TablePerforms plan rose operations device table now →
    IsFront (effect_within plan) operations table now.state
performed-front plan rose operations device table now h = front-left (λ (o : RingName × Kind). o.1) (effect_within plan) rose operations device table now h

pub unread-front : (plan : Plan) (rose : Bool) (operations : List (RingName × Kind)) (device : Device) (table : Table) (now : PartProgress Table) → TableUnreads plan rose operations device table now →
    IsFront (effect_within plan) operations table now.state
unread-front plan rose operations device table now h =
    let f = performed-front plan rose h.front device table now h.did in
    record { front = f.front; others = f.others ++ h.others; split = h.split ∙ (ap (λ (os : List (RingName × Kind)). os ++ h.others) f.split ∙ append_assoc f.front f.others h.others); state = f.state }

-- What each of the operations keeps of a state holds of what is left.
abbrev AreKeeping : {O S : Type 0} → (S → Type 0) → (O → S → S) → List O → S → Type 0
AreKeeping P change [] s = Unit {0}
AreKeeping P change (operation ∷ operations) s = (P s → P (change operation s)) × AreKeeping P change operations (change operation s)

keeps-front : {O S : Type 0} (P : S → Type 0) (change : O → S → S) (front others : List O) (s : S) → AreKeeping P change (front ++ others) s → P s → P (all_done change front s)
keeps-front P change [] others s h p = p
keeps-front P change (operation ∷ front) others s h p = keeps-front P change front others (change operation s) h.1 (h.0 p)

-- .. of the repairs of a ring: its void mark where its page is torn, and erases
pub repairs-keep : (P : Table → Type 0) (plan : Plan) (ring : RingName) (table left : Table) → IsFront (effect_within plan) (repair_within plan ring table) table left →
    (is_torn ring table ≡ true → P table → P (effect_within plan (ring, VoidMark) table)) → ((t : Table) → P t → P (effect_within plan (ring, Erase) t)) → P table → P left
repairs-keep P plan ring table left f void erase p =
    let keeping = by_tests (is_torn ring table) refl (is_dirty ring (cond (is_torn ring table) (seal_page plan ring 0 table) table)) in
    subst P (sym f.state) (keeps-front P (effect_within plan) f.front f.others table (subst (λ (os : List (RingName × Kind)). AreKeeping P (effect_within plan) os table) f.split keeping) p)
  where
    by_tests : (t : Bool) → is_torn ring table ≡ t → (d : Bool) → AreKeeping P (effect_within plan) ((cond t ((ring, VoidMark) ∷ []) []) ++ (cond d ((ring, Erase) ∷ []) [])) table
    by_tests true e true = (void e, (erase (effect_within plan (ring, VoidMark) table), tt))
    by_tests true e false = (void e, tt)
    by_tests false e true = (erase table, tt)
    by_tests false e false = tt
