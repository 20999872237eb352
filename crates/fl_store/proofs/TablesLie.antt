-- Tables that lie on a flash and run, after a call of one of them.
use Rattle.std.proofs.Common.{◌≡◌, ℕ, ◌+◌, ◌<◌, ◌≤◌, ◌⊎◌, inl, inr, true, false, Some, List, sym, ◌∙◌, subst, arith, slice_get, eqb}
use Rattle.std.proofs.lemmas.Bool.Decides.{eqb_tells}
use Rattle.std.proofs.lemmas.Bool.{cases_lt}
use Rattle.fl_flash.specs.Flash.{FlashState, Goes, StaysWith}
use Rattle.fl_rlc.specs.Table.{LiesOn, is_running}
use Rattle.fl_rlc.specs.declared.table.LoggedTable.{LoggedTable}
use Rattle.fl_rlc.proofs.Powered.{lies-on}
use Rattle.fl_store.specs.Calls.{RunsAt}
use Rattle.fl_store.specs.Tables.{entries_with, LieOn, AreRunning}
use Rattle.fl_store.specs.declared.tables.Entry.{Entry}
use Rattle.fl_store.proofs.TablesChanged.{set-there, set-here, set-elsewhere, some-is}

-- tables lie on a flash after a call of another one
pub lie-on : {Power : Type 0} (entries : List Entry) (f g : FlashState) → StaysWith Power f g → LieOn entries f → LieOn entries g
lie-on entries f g goes lie i entry e = lies-on entry.table f g goes (lie i entry e)

-- one of the tables was changed
pub lie-with : (entries : List Entry) (at : ℕ) (entry : Entry) (u : LoggedTable 64 64) (f g : FlashState) → slice_get entries at ≡ Some entry → Goes f g → LieOn entries f → LiesOn u g → LieOn (entries_with entries at entry u) g
lie-with entries at entry u f g here goes lie own i e k = by-place (eqb_tells at i)
  where
    by-place : ((eqb at i ≡ true) × (at ≡ i)) ⊎ ((eqb at i ≡ false) × (at ≡ i → ⊥)) → LiesOn e.table g
    by-place (inl is) =
        let there = set-there entries at entry (record { name = entry.name; table = u }) here in
        let e_is = some-is (slice_get (entries_with entries at entry u) at) (record { name = entry.name; table = u }) e there (subst (λ j. slice_get (entries_with entries at entry u) j ≡ Some e) (sym is.1) k) in
        subst (λ (x : Entry). LiesOn x.table g) e_is own
    by-place (inr other) = lie-on entries f g goes lie i e (sym (set-elsewhere entries at i (record { name = entry.name; table = u }) other.1) ∙ k)

-- those that ran run on, if the changed one does
pub runs-with : (entries : List Entry) (at : ℕ) (entry : Entry) (u : LoggedTable 64 64) → slice_get entries at ≡ Some entry → (i : ℕ) → RunsAt entries i → (at ≡ i → is_running u ≡ true) → RunsAt (entries_with entries at entry u) i
runs-with entries at entry u here i running own e k = by-place (eqb_tells at i)
  where
    by-place : ((eqb at i ≡ true) × (at ≡ i)) ⊎ ((eqb at i ≡ false) × (at ≡ i → ⊥)) → is_running e.table ≡ true
    by-place (inl is) =
        subst (λ (x : Entry). is_running x.table ≡ true) (set-here entries at (record { name = entry.name; table = u }) e (subst (λ j. slice_get (entries_with entries at entry u) j ≡ Some e) (sym is.1) k)) (own is.1)
    by-place (inr other) = running e (sym (set-elsewhere entries at i (record { name = entry.name; table = u }) other.1) ∙ k)

pub running-with : (entries : List Entry) (at : ℕ) (entry : Entry) (u : LoggedTable 64 64) → slice_get entries at ≡ Some entry → AreRunning entries → is_running u ≡ true → AreRunning (entries_with entries at entry u)
running-with entries at entry u here running own i = runs-with entries at entry u here i (running i) (λ is. own)

-- what holds of the first tables, and of one more
pub each-more : (P : LoggedTable 64 64 → Type 0) (entries : List Entry) (at : ℕ) (entry : Entry) (u : LoggedTable 64 64) → slice_get entries at ≡ Some entry → ((i : ℕ) (e : Entry) → i < at → slice_get entries i ≡ Some e → P e.table) → P u →
    (i : ℕ) (e : Entry) → i < at + 1 → slice_get (entries_with entries at entry u) i ≡ Some e → P e.table
each-more P entries at entry u here each own i e lt k = by-order (cases_lt i at)
  where
    by-order : (i < at) ⊎ (at ≤ i) → P e.table
    by-order (inl before) = each i e before (sym (set-elsewhere entries at i (record { name = entry.name; table = u }) (λ is. absurd (omega (arith, before, is)))) ∙ k)
    by-order (inr ge) =
        let same : at ≡ i = omega (arith, lt, ge) in
        subst (λ (x : Entry). P x.table) (set-here entries at (record { name = entry.name; table = u }) e (subst (λ j. slice_get (entries_with entries at entry u) j ≡ Some e) (sym same) k)) own
