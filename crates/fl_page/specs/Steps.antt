-- Steps over rows that come in the order of their keys.
use Rattle.std.specs.Prelude.{◌≡◌, ℕ, Bool, true, false, Option, Some, Result, Ok, Err, List, [], ◌∷◌}
use Rattle.fl_model.specs.Row.{Row}
use Rattle.fl_model.specs.Query.{is_above}
use Rattle.fl_page.specs.declared.fault.ReadFault.{ReadFault}
use Rattle.fl_page.specs.declared.fault.ReadFault.TheVariants.{Flash, BadPage}

-- What a step with this result made of the rows left, where `row` is the present one: true takes the first, false
-- comes where none is left, a fault of the flash leaves them, and where they are told no page is bad.
abbrev pub Steps : Result Bool ReadFault → List Row → Row → List Row → Type 0
Steps (Ok true) before row after = before ≡ row ∷ after
Steps (Ok false) before row after = (before ≡ []) × (after ≡ [])
Steps (Err (Flash fault)) before row after = after ≡ before
Steps (Err (BadPage bad)) before row after = ⊥

-- the keys ascend, the first above this one
abbrev pub Ascends : Option ℕ → List Row → Type 0
Ascends above [] = Unit {0}
Ascends above (row ∷ rows) = (is_above above row.key ≡ true) × Ascends (Some row.key) rows

-- How many reads may follow a step with this result, where so many are left: after a fault none is promised.
abbrev pub left_after : {Item : Type 0} → Result Item ReadFault → ℕ → ℕ
left_after (Ok item) most = most
left_after (Err fault) most = 0
