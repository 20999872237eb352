-- Parts of lists, one element after another.
use Rattle.std.proofs.Common.{◌≡◌, ℕ, ◌+◌, Option, Some, List, [], ◌∷◌, ◌++◌, map, take, drop, refl, ◌∙◌, ap}
use Rattle.std.proofs.lemmas.List.{map-append}
use Rattle.std.proofs.Math.Seq.{take-add}
use Rattle.fl_model.specs.Row.{Row, stored_row}
use Rattle.fl_model.specs.Table.{Entry}
use Rattle.fl_page.specs.Steps.{Ascends}
use Rattle.fl_rules.specs.Rising.{last_in}

-- the rows of entries, and of those behind them
pub rows-behind : (a c : ℕ) (entries : List Entry) → map stored_row (take (a + c) entries) ≡ map stored_row (take a entries) ++ map stored_row (take c (drop a entries))
rows-behind a c entries = ap (map stored_row) (take-add a c entries) ∙ map-append stored_row (take a entries) (take c (drop a entries))

-- ---- keys

pub last-behind : (before : Option ℕ) (rows others : List Row) → last_in before (rows ++ others) ≡ last_in (last_in before rows) others
last-behind before [] others = refl
last-behind before (row ∷ rows) others = last-behind (Some row.key) rows others

pub ascends-behind : (before : Option ℕ) (rows others : List Row) → Ascends before (rows ++ others) → Ascends (last_in before rows) others
ascends-behind before [] others h = h
ascends-behind before (row ∷ rows) others h = ascends-behind (Some row.key) rows others h.1

pub ascends-front : (before : Option ℕ) (rows others : List Row) → Ascends before (rows ++ others) → Ascends before rows
ascends-front before [] others h = tt
ascends-front before (row ∷ rows) others h = (h.0, ascends-front (Some row.key) rows others h.1)

-- ---- blobs
