-- The table with a name, among tables and among their plans.
use Rattle.std.proofs.Common.{◌≡◌, ℕ, zero, suc, ◌+◌, ◌<◌, Bool, true, false, if◌then◌else◌, Option, None, Some, List, [], ◌∷◌, refl, sym, ◌∙◌, ap, arith, find, slice_get}
use Rattle.std.proofs.lemmas.Option.{slice_get_within, none-some, same_Some}
use Rattle.std.proofs.Math.Bool.{or-true}
use Rattle.fl_flash.specs.Flash.{FlashState}
use Rattle.fl_model.specs.Record.{Plan, bytes_equal}
use Rattle.fl_model.specs.Table as model
use Rattle.fl_model.proofs.Lists.{slice_get-some}
use Rattle.fl_model.proofs.Names.{bytes_equal-other, bytes_equal-own}
use Rattle.fl_machine.specs.Step.{Located, located_from}
use Rattle.fl_store.specs.Tables.{IsNamed, Names, AreNewTables, TablesStand}
use Rattle.fl_store.specs.declared.tables.Entry.{Entry}
use Rattle.fl_store.proofs.TablesChanged.{AtPlace, some-is}
use Rattle.fl_words.specs.Config.{Lines}
use Rattle.fl_store.specs.Named.{has_name}

abbrev pub AsLocated : ℕ → Plan → model.Table → Option Located
AsLocated place plan table = Some (record { place = place; plan = plan; table = table })

-- the first plan with the name, and the table beside it
pub located-first : (plans : List Plan) (tables : List model.Table) (place at : ℕ) (name : List ℕ) (plan : Plan) (table : model.Table) → slice_get plans at ≡ Some plan → slice_get tables at ≡ Some table → plan.name ≡ name →
    ((i : ℕ) (other : Plan) → i < at → slice_get plans i ≡ Some other → other.name ≡ name → ⊥) → located_from place plans tables name ≡ AsLocated (place + at) plan table
located-first [] tables place at name plan table p t named others = absurd (none-some plan p)
located-first (q ∷ plans) [] place at name plan table p t named others = absurd (none-some table t)
located-first (q ∷ plans) (x ∷ tables) place zero name plan table p t named others =
    let plan_is = same_Some q plan p in
    let table_is = same_Some x table t in
    let own : bytes_equal q.name name ≡ true = ap (bytes_equal q.name) (sym named ∙ ap (λ (r : Plan). r.name) (sym plan_is)) ∙ bytes_equal-own q.name in
    let here : place ≡ place + 0 = omega arith in
    ap (λ (b : Bool). if b then AsLocated place q x else located_from (place + 1) plans tables name) own
    ∙ (ap (λ r. AsLocated place r x) plan_is ∙ (ap (λ y. AsLocated place plan y) table_is ∙ ap (λ n. AsLocated n plan table) here))
located-first (q ∷ plans) (x ∷ tables) place (suc at) name plan table p t named others =
    let other : bytes_equal q.name name ≡ false = bytes_equal-other q.name name (λ e. others 0 q (omega arith) refl (sym e)) in
    let there : place + 1 + at ≡ place + suc at = omega arith in
    ap (λ (b : Bool). if b then AsLocated place q x else located_from (place + 1) plans tables name) other
    ∙ (located-first plans tables (place + 1) at name plan table p t named (λ i r lt e k. others (suc i) r (omega (arith, lt)) e k) ∙ ap (λ n. AsLocated n plan table) there)

pub located-none : (plans : List Plan) (tables : List model.Table) (place : ℕ) (name : List ℕ) → ((i : ℕ) (other : Plan) → slice_get plans i ≡ Some other → other.name ≡ name → ⊥) → located_from place plans tables name ≡ None
located-none [] tables place name others = refl
located-none (q ∷ plans) [] place name others = refl
located-none (q ∷ plans) (x ∷ tables) place name others =
    let other : bytes_equal q.name name ≡ false = bytes_equal-other q.name name (λ e. others 0 q refl (sym e)) in
    ap (λ (b : Bool). if b then AsLocated place q x else located_from (place + 1) plans tables name) other
    ∙ located-none plans tables (place + 1) name (λ i r e k. others (suc i) r e k)

-- the first plan with a name
pub find-first : (plans : List Plan) (at : ℕ) (name : List ℕ) (plan : Plan) → slice_get plans at ≡ Some plan → plan.name ≡ name → ((i : ℕ) (other : Plan) → i < at → slice_get plans i ≡ Some other → other.name ≡ name → ⊥) →
    find (λ p. bytes_equal p.name name) plans ≡ Some plan
find-first [] at name plan e named others = absurd (none-some plan e)
find-first (q ∷ plans) zero name plan e named others =
    let plan_is = same_Some q plan e in
    let own : bytes_equal q.name name ≡ true = ap (bytes_equal q.name) (sym named ∙ ap (λ (r : Plan). r.name) (sym plan_is)) ∙ bytes_equal-own q.name in
    rw own (ap (λ (r : Plan). Some r) plan_is)
find-first (q ∷ plans) (suc at) name plan e named others =
    let other : bytes_equal q.name name ≡ false = bytes_equal-other q.name name (λ k. others 0 q (omega arith) refl (sym k)) in
    rw other (find-first plans at name plan e named (λ i r lt k n. others (suc i) r (omega (arith, lt)) k n))

-- a name is among plans, or it isn't
pub name-there : (plans : List Plan) (at : ℕ) (name : List ℕ) (plan : Plan) → slice_get plans at ≡ Some plan → plan.name ≡ name → has_name name plans ≡ true
name-there [] at name plan p named = absurd (none-some plan p)
name-there (q ∷ plans) zero name plan p named =
    let plan_is = same_Some q plan p in
    let own : bytes_equal q.name name ≡ true = ap (bytes_equal q.name) (sym named ∙ ap (λ (r : Plan). r.name) (sym plan_is)) ∙ bytes_equal-own q.name in
    rw own refl
name-there (q ∷ plans) (suc at) name plan p named = rw (name-there plans at name plan p named) (or-true (bytes_equal q.name name))

pub name-none : (plans : List Plan) (name : List ℕ) → ((i : ℕ) (other : Plan) → slice_get plans i ≡ Some other → other.name ≡ name → ⊥) → has_name name plans ≡ false
name-none [] name others = refl
name-none (q ∷ plans) name others =
    rw (bytes_equal-other q.name name (λ e. others 0 q refl (sym e))) (name-none plans name (λ i r e k. others (suc i) r e k))

-- ---- entries have the names of their plans

abbrev NamedAlike : List Plan → List Entry → Type 0
NamedAlike plans entries = (i : ℕ) (plan : Plan) → slice_get plans i ≡ Some plan → (entry : Entry) × (slice_get entries i ≡ Some entry) × (plan.name ≡ entry.name)

pub new-named : (entries : List Entry) (lines : Lines) → AreNewTables entries lines → NamedAlike lines.plans entries
new-named entries lines new i plan p =
    let entry = slice_get-some entries i (omega (arith, slice_get_within lines.plans i plan p, new.as_many)) in
    (entry.0, entry.1, (new.each i plan entry.0 p entry.1).named)

pub stand-named : (f : FlashState) (mounted : ℕ → Bool) (plans : List Plan) (entries : List Entry) (tables : List model.Table) → TablesStand f mounted plans entries tables → NamedAlike plans entries
stand-named f mounted plans entries tables h i plan p =
    let within = slice_get_within plans i plan p in
    let entry = slice_get-some entries i (omega (arith, within, h.as_many)) in
    let table = slice_get-some tables i (omega (arith, within, h.all)) in
    (entry.0, entry.1, (h.each i plan entry.0 table.0 p entry.1 table.1).named)

module _ (plans : List Plan) (entries : List Entry) (alike : NamedAlike plans entries) (name : List ℕ) where
  -- the plan at the place of the entry with the name is the first one with the name
  pub first-named : (at : ℕ) → IsNamed entries name at → (plan : Plan) → slice_get plans at ≡ Some plan → (plan.name ≡ name) × ((i : ℕ) (other : Plan) → i < at → slice_get plans i ≡ Some other → other.name ≡ name → ⊥)
  first-named at named plan p =
      let own = alike at plan p in
      let same : named.entry ≡ own.0 = some-is (slice_get entries at) named.entry own.0 named.here own.1 in (
        own.2 ∙ (ap (λ (e : Entry). e.name) (sym same) ∙ named.named),
        λ i other lt e k. let there = alike i other e in named.first i there.0 lt there.1 (sym there.2 ∙ k),
      )

  pub none-named : Names entries name None → (i : ℕ) (other : Plan) → slice_get plans i ≡ Some other → other.name ≡ name → ⊥
  none-named none i other e k = let there = alike i other e in none i there.0 there.1 (sym there.2 ∙ k)

-- a table of those that stand has the name of the one at a place
pub stands-there : (f : FlashState) (mounted : ℕ → Bool) (plans : List Plan) (entries : List Entry) (tables : List model.Table) (name : List ℕ) (at : ℕ) → TablesStand f mounted plans entries tables → IsNamed entries name at → has_name name plans ≡ true
stands-there f mounted plans entries tables name at stood named =
    let plan = slice_get-some plans at (omega (arith, slice_get_within entries at named.entry named.here, stood.as_many)) in
    name-there plans at name plan.0 plan.1 (first-named plans entries (stand-named f mounted plans entries tables stood) name at named plan.0 plan.1).0

-- .. and that is the one that is found by the name
pub located-own : (f g : FlashState) (mounted : ℕ → Bool) (plans : List Plan) (entries now : List Entry) (tables ready : List model.Table) (name : List ℕ) (at : ℕ) (entry : Entry) → TablesStand f (λ i. false) plans entries tables → IsNamed entries name at →
    (own : AtPlace g mounted plans now ready at entry) → located_from 0 plans ready name ≡ AsLocated at own.plan own.table
located-own f g mounted plans entries now tables ready name at entry stood named own =
    let own_name = first-named plans entries (stand-named f (λ i. false) plans entries tables stood) name at named own.plan own.plan_is in
    located-first plans ready 0 at name own.plan own.table own.plan_is own.table_is own_name.0 own_name.1
    ∙ ap (λ n. AsLocated n own.plan own.table) (let e : 0 + at ≡ at = omega arith in e)
