-- The tables of an image after one of them was changed.
use Rattle.std.proofs.Common.{◌≡◌, ℕ, zero, suc, ◌⊎◌, Bool, true, false, inl, inr, Option, Some, List, [], ◌∷◌, length, map, set, refl, sym, ◌∙◌, ap, subst, arith, MatchBool, option_map, eqb, slice_get}
use Rattle.std.proofs.lemmas.Bool.Decides.{eqb_tells}
use Rattle.std.proofs.lemmas.List.{length-set, length-map}
use Rattle.std.proofs.lemmas.Option.{slice_get-map, slice_get_within, none-some}
use Rattle.fl_flash.specs.Flash.{FlashState, page_at}
use Rattle.fl_model.specs.Record.{Plan}
use Rattle.fl_model.specs.Table as model
use Rattle.fl_model.specs.Table.{lose}
use Rattle.fl_model.specs.Work.{changed_at}
use Rattle.fl_model.proofs.Lists.{slice_get-some}
use Rattle.fl_rlc.specs.Logged.{Rests, Stands}
use Rattle.fl_rlc.specs.Table.{OutsideStands}
use Rattle.fl_rlc.specs.declared.table.LoggedTable.{LoggedTable}
use Rattle.fl_rlc.proofs.Others.{logged-rests}
use Rattle.fl_store.specs.Tables.{first_of, EntryStands, TablesStand}
use Rattle.fl_store.specs.declared.tables.Entry.{Entry}
use Rattle.fl_store.proofs.Apart.{other-stands}

-- the elements of a list of which one was changed
pub set-there : {X : Type 0} (xs : List X) (n : ℕ) (x y : X) → slice_get xs n ≡ Some x → slice_get (set xs n y) n ≡ Some y
set-there [] n x y e = absurd (none-some x e)
set-there (z ∷ zs) zero x y e = refl
set-there (z ∷ zs) (suc n) x y e = set-there zs n x y e

pub set-here : {X : Type 0} (xs : List X) (n : ℕ) (y z : X) → slice_get (set xs n y) n ≡ Some z → y ≡ z
set-here [] n y z e = absurd (none-some z e)
set-here (x ∷ xs) zero y z e = cc
set-here (x ∷ xs) (suc n) y z e = set-here xs n y z e

pub set-elsewhere : {X : Type 0} (xs : List X) (n m : ℕ) (y : X) → (n ≡ m → ⊥) → slice_get (set xs n y) m ≡ slice_get xs m
set-elsewhere [] n m y e = refl
set-elsewhere (z ∷ zs) zero zero y e = absurd (e refl)
set-elsewhere (z ∷ zs) zero (suc m) y e = refl
set-elsewhere (z ∷ zs) (suc n) zero y e = refl
set-elsewhere (z ∷ zs) (suc n) (suc m) y e = set-elsewhere zs n m y (λ k. e (ap suc k))

pub set-same : {X : Type 0} (xs : List X) (n : ℕ) (x : X) → slice_get xs n ≡ Some x → set xs n x ≡ xs
set-same [] n x e = refl
set-same {X} (z ∷ zs) zero x e = let same : z ≡ x = cc in ap (λ y. y ∷ zs) (sym same)
set-same (z ∷ zs) (suc n) x e = ap (λ ys. z ∷ ys) (set-same zs n x e)

pub length-changed : {X : Type 0} (n : ℕ) (x : X) (xs : List X) → length (changed_at n (λ _. x) xs) ≡ length xs
length-changed n x [] = refl
length-changed zero x (y ∷ ys) = refl
length-changed (suc n) x (y ∷ ys) = ap suc (length-changed n x ys)

pub some-is : {X : Type 0} (o : Option X) (a b : X) → o ≡ Some a → o ≡ Some b → a ≡ b
some-is o a b e k = cc

-- what stands at a place of the tables
pub record AtPlace (f : FlashState) (mounted : ℕ → Bool) (plans : List Plan) (entries : List Entry) (tables : List model.Table) (at : ℕ) (entry : Entry) : Type 0 where
  pub plan : Plan
  pub plan_is : slice_get plans at ≡ Some plan
  pub table : model.Table
  pub table_is : slice_get tables at ≡ Some table
  pub stands : EntryStands entry f (mounted at) (first_of plans at) plan table

pub at-place : (f : FlashState) (mounted : ℕ → Bool) (plans : List Plan) (entries : List Entry) (tables : List model.Table) (at : ℕ) (entry : Entry) → TablesStand f mounted plans entries tables → slice_get entries at ≡ Some entry →
    AtPlace f mounted plans entries tables at entry
at-place f mounted plans entries tables at entry h e =
    let within = slice_get_within entries at entry e in
    let plan = slice_get-some plans at (omega (arith, within, h.as_many)) in
    let table = slice_get-some tables at (omega (arith, within, h.as_many, h.all)) in
    record { plan = plan.0; plan_is = plan.1; table = table.0; table_is = table.1; stands = h.each at plan.0 entry table.0 plan.1 e table.1 }

-- One table is changed, and of each other becomes what `k` makes of it.
pub tables-changed : (f g : FlashState) (mounted now : ℕ → Bool) (plans : List Plan) (entries : List Entry) (tables after : List model.Table) (at : ℕ) (entry new : Entry) (k : model.Table → model.Table) (table : model.Table) →
    TablesStand f mounted plans entries tables → slice_get entries at ≡ Some entry → OutsideStands entry.table (page_at f) (page_at g) → g.geometry ≡ f.geometry →
    length after ≡ length tables → slice_get after at ≡ Some table → ((i : ℕ) → (at ≡ i → ⊥) → slice_get after i ≡ option_map k (slice_get tables i)) →
    ((plan : Plan) → slice_get plans at ≡ Some plan → EntryStands new g (now at) (first_of plans at) plan table) →
    ((i : ℕ) (plan : Plan) (other : Entry) (x : model.Table) → (at ≡ i → ⊥) → EntryStands other g (mounted i) (first_of plans i) plan x → EntryStands other g (now i) (first_of plans i) plan (k x)) →
    TablesStand g now plans (set entries at new) after
tables-changed f g mounted now plans entries tables after at entry new k table h here outside same len there elsewhere own others = record {
  as_many = length-set entries at new ∙ h.as_many;
  all = len ∙ h.all;
  each = each;
}
  where
    changed : AtPlace f mounted plans entries tables at entry
    changed = at-place f mounted plans entries tables at entry h here

    each : (i : ℕ) (plan : Plan) (e : Entry) (x : model.Table) → slice_get plans i ≡ Some plan → slice_get (set entries at new) i ≡ Some e → slice_get after i ≡ Some x → EntryStands e g (now i) (first_of plans i) plan x
    each i plan e x p q r = by-place (eqb_tells at i)
      where
        at-own : at ≡ i → EntryStands e g (now i) (first_of plans i) plan x
        at-own is =
            let e_is : new ≡ e = some-is (slice_get (set entries at new) at) new e (set-there entries at entry new here) (subst (λ j. slice_get (set entries at new) j ≡ Some e) (sym is) q) in
            let x_is : table ≡ x = some-is (slice_get after at) table x there (subst (λ j. slice_get after j ≡ Some x) (sym is) r) in
            subst (λ j. EntryStands e g (now j) (first_of plans j) plan x) is
            (subst (λ y. EntryStands e g (now at) (first_of plans at) plan y) x_is (subst (λ y. EntryStands y g (now at) (first_of plans at) plan table) e_is (own plan (subst (λ j. slice_get plans j ≡ Some plan) (sym is) p))))

        at-other : (at ≡ i → ⊥) → EntryStands e g (now i) (first_of plans i) plan x
        at-other other =
            let was : slice_get entries i ≡ Some e = sym (set-elsewhere entries at i new other) ∙ q in
            let o = at-place f mounted plans entries tables i e h was in
            let plan_is : o.plan ≡ plan = some-is (slice_get plans i) o.plan plan o.plan_is p in
            let x_is : k o.table ≡ x = some-is (slice_get after i) (k o.table) x (elsewhere i other ∙ ap (option_map k) o.table_is) r in
            let stood : EntryStands e g (mounted i) (first_of plans i) o.plan o.table = other-stands plans i at o.plan changed.plan e entry f g (mounted i) (mounted at) o.table changed.table o.plan_is changed.plan_is other changed.stands outside same o.stands in
            subst (λ y. EntryStands e g (now i) (first_of plans i) plan y) x_is
            (subst (λ y. EntryStands e g (now i) (first_of plans i) y (k o.table)) plan_is (others i o.plan e o.table other stood))

        by-place : ((eqb at i ≡ true) × (at ≡ i)) ⊎ ((eqb at i ≡ false) × (at ≡ i → ⊥)) → EntryStands e g (now i) (first_of plans i) plan x
        by-place (inl is) = at-own is.1
        by-place (inr other) = at-other other.1

-- Each table stands as it did.
pub tables-still : (f g : FlashState) (mounted : ℕ → Bool) (plans : List Plan) (entries : List Entry) (tables : List model.Table) → TablesStand f mounted plans entries tables →
    ((i : ℕ) (plan : Plan) (e : Entry) (x : model.Table) → EntryStands e f (mounted i) (first_of plans i) plan x → EntryStands e g (mounted i) (first_of plans i) plan x) →
    TablesStand g mounted plans entries tables
tables-still f g mounted plans entries tables h still =
    record { as_many = h.as_many; all = h.all; each = λ i plan e x p q r. still i plan e x (h.each i plan e x p q r) }

-- Each table becomes what `k` makes of it.
pub tables-become : (f g : FlashState) (mounted now : ℕ → Bool) (plans : List Plan) (entries : List Entry) (tables : List model.Table) (k : model.Table → model.Table) → TablesStand f mounted plans entries tables →
    ((i : ℕ) (plan : Plan) (e : Entry) (x : model.Table) → EntryStands e f (mounted i) (first_of plans i) plan x → EntryStands e g (now i) (first_of plans i) plan (k x)) →
    TablesStand g now plans entries (map k tables)
tables-become f g mounted now plans entries tables k h become = record {
  as_many = h.as_many;
  all = length-map tables k ∙ h.all;
  each = λ i plan e x p q r.
      let o = at-place f mounted plans entries tables i e h q in
      let plan_is : o.plan ≡ plan = some-is (slice_get plans i) o.plan plan o.plan_is p in
      let x_is : k o.table ≡ x = some-is (slice_get (map k tables) i) (k o.table) x (slice_get-map k tables i ∙ ap (option_map k) o.table_is) r in
      subst (λ y. EntryStands e g (now i) (first_of plans i) plan y) x_is
      (subst (λ y. EntryStands e g (now i) (first_of plans i) y (k o.table)) plan_is (become i o.plan e o.table o.stands));
}

-- a table rests where what it has in memory is lost
pub off-rests : (t : LoggedTable 64 64) (f : FlashState) (first : ℕ) (plan : Plan) (table : model.Table) (mounted : Bool) → MatchBool mounted (Stands t f first plan table) (Rests f first plan table) → Rests f first plan (lose table)
off-rests t f first plan table true h = logged-rests t f first plan table h
off-rests t f first plan table false h = subst (λ x. Rests f first plan x) h.settled.lost h

pub entry-off : (entry : Entry) (f : FlashState) (mounted : Bool) (first : ℕ) (plan : Plan) (table : model.Table) → EntryStands entry f mounted first plan table → EntryStands entry f false first plan (lose table)
entry-off entry f mounted first plan table h = record { named = h.named; geometry = h.geometry; planned = h.planned; on_flash = off-rests entry.table f first plan table mounted h.on_flash }
