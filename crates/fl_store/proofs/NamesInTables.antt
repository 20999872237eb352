-- A name that is sought among those of the tables.
use Rattle.std.proofs.Common.{◌≡◌, ℕ, ◌+◌, ◌<◌, Some, List, ◌∙◌, ap, slice_get}
use Rattle.fl_model.proofs.Names.{none-more}
use Rattle.fl_store.specs.declared.tables.Entry.{Entry}
use Rattle.fl_store.proofs.TablesChanged.{some-is}

-- none before a place has the name
pub others-more : (entries : List Entry) (name : List ℕ) (at : ℕ) (entry : Entry) → ((i : ℕ) (other : Entry) → i < at → slice_get entries i ≡ Some other → other.name ≡ name → ⊥) → slice_get entries at ≡ Some entry → (entry.name ≡ name → ⊥) →
    (i : ℕ) (other : Entry) → i < at + 1 → slice_get entries i ≡ Some other → other.name ≡ name → ⊥
others-more entries name at entry others here own =
    none-more (λ (e : Entry). e.name ≡ name) entries at others (λ other is named. own (ap (λ (e : Entry). e.name) (some-is (slice_get entries at) entry other here is) ∙ named))
