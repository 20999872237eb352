-- Rows whose keys ascend: those of them that pass a test ascend too.
use Rattle.std.specs.Prelude.{◌≡◌, ℕ, Bool, true, false, refl, Option, Some, None, List, [], ◌∷◌, filter, if◌then◌else◌}
use Rattle.std.proofs.Math.Nat.{lt_trans}
use Rattle.std.proofs.lemmas.Bool.{lt-ltb, ltb-true}
use Rattle.fl_model.specs.Row.{Row}
use Rattle.fl_model.specs.Query.{is_above}
use Rattle.fl_page.specs.Steps.{Ascends}

is_above-later : (above : Option ℕ) (key later : ℕ) → is_above above key ≡ true → is_above (Some key) later ≡ true → is_above above later ≡ true
is_above-later None key later first next = refl
is_above-later (Some bound) key later first next = lt-ltb bound later (lt_trans (ltb-true bound key first) (ltb-true key later next))

Ascends-lower : (above : Option ℕ) (key : ℕ) (rows : List Row) → is_above above key ≡ true → Ascends (Some key) rows → Ascends above rows
Ascends-lower above key [] first rest = tt
Ascends-lower above key (row ∷ rows) first rest = (is_above-later above key row.key first rest.0, rest.1)

pub Ascends-filter : (test : Row → Bool) (above : Option ℕ) (rows : List Row) → Ascends above rows → Ascends above (filter test rows)
Ascends-filter test above [] ascends = tt
Ascends-filter test above (row ∷ rows) ascends =
    elim (test row) as (λ passes. Ascends above (if passes then row ∷ filter test rows else filter test rows)) [
      | true ↦ (ascends.0, Ascends-filter test (Some row.key) rows ascends.1)
      | false ↦ Ascends-lower above row.key (filter test rows) ascends.0 (Ascends-filter test (Some row.key) rows ascends.1)
    ]
