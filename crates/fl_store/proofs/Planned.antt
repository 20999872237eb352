-- The names and plans of tables after a call of one of them.
use Rattle.std.proofs.Common.{◌≡◌, ℕ, ◌⊎◌, inl, inr, true, false, Some, List, sym, ◌∙◌, ap, subst, slice_get, eqb}
use Rattle.std.proofs.lemmas.Bool.Decides.{eqb_tells}
use Rattle.fl_rlc.specs.Table.{IsSamePlan}
use Rattle.fl_rlc.specs.declared.table.LoggedTable.{LoggedTable}
use Rattle.fl_store.specs.Mounting.{AreSameNames, AreSamePlans}
use Rattle.fl_store.specs.Tables.{entries_with}
use Rattle.fl_store.specs.declared.tables.Entry.{Entry}
use Rattle.fl_store.proofs.CallsInTurn.{same-plan, same-on}
use Rattle.fl_store.proofs.TablesChanged.{set-here, set-elsewhere, some-is}

-- nothing was called
pub plans-still : (entries : List Entry) → AreSamePlans entries entries
plans-still entries i was now p q = subst (λ (e : Entry). IsSamePlan was.table e.table) (some-is (slice_get entries i) was now p q) (same-plan was.table)

pub names-still : (entries : List Entry) → AreSameNames entries entries
names-still entries i was now p q = ap (λ (e : Entry). e.name) (some-is (slice_get entries i) now was q p)

-- What holds of each table and what it was before holds on where one of them was changed, if that one's change is such.
each-with : (Kept : Entry → Entry → Type 0) (old so_far : List Entry) (at : ℕ) (entry : Entry) (u : LoggedTable 64 64) → slice_get so_far at ≡ Some entry → ((was : Entry) → Kept was entry → Kept was (record { name = entry.name; table = u })) →
    ((i : ℕ) (was now : Entry) → slice_get old i ≡ Some was → slice_get so_far i ≡ Some now → Kept was now) → (i : ℕ) (was now : Entry) → slice_get old i ≡ Some was → slice_get (entries_with so_far at entry u) i ≡ Some now → Kept was now
each-with Kept old so_far at entry u here own each i was now p q = by-place (eqb_tells at i)
  where
    by-place : ((eqb at i ≡ true) × (at ≡ i)) ⊎ ((eqb at i ≡ false) × (at ≡ i → ⊥)) → Kept was now
    by-place (inl is) =
        let now_is = set-here so_far at (record { name = entry.name; table = u }) now (subst (λ j. slice_get (entries_with so_far at entry u) j ≡ Some now) (sym is.1) q) in
        subst (λ (e : Entry). Kept was e) now_is (own was (each i was entry p (subst (λ j. slice_get so_far j ≡ Some entry) is.1 here)))
    by-place (inr other) = each i was now p (sym (set-elsewhere so_far at i (record { name = entry.name; table = u }) other.1) ∙ q)

-- its plan, and its name
pub plans-with : (old so_far : List Entry) (at : ℕ) (entry : Entry) (u : LoggedTable 64 64) → slice_get so_far at ≡ Some entry → IsSamePlan entry.table u → AreSamePlans old so_far → AreSamePlans old (entries_with so_far at entry u)
plans-with old so_far at entry u here own same = each-with (λ was now. IsSamePlan was.table now.table) old so_far at entry u here (λ was before. same-on was.table entry.table u before own) same

pub names-with : (old so_far : List Entry) (at : ℕ) (entry : Entry) (u : LoggedTable 64 64) → slice_get so_far at ≡ Some entry → AreSameNames old so_far → AreSameNames old (entries_with so_far at entry u)
names-with old so_far at entry u here same = each-with (λ was now. now.name ≡ was.name) old so_far at entry u here (λ was before. before) same
