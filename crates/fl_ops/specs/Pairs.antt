-- Pairs of rows with one key.
use Rattle.std.specs.Prelude.{◌≡◌, ℕ, ◌-◌, ◌^◌, Bool, true, false, Result, Ok, Err, Option, Some, None, List, [], ◌∷◌}
use Rattle.fl_model.specs.Record.{Record}
use Rattle.fl_model.specs.Row.{Row}
use Rattle.fl_model.specs.Operators.{key_join}
use Rattle.fl_page.specs.declared.fault.ReadFault.{ReadFault}
use Rattle.fl_page.specs.declared.fault.ReadFault.TheVariants.{Flash, BadPage}
use Rattle.fl_ops.specs.Columns.{record_of, records_of}

abbrev pub pair_of : Row → Row → Record × Record
pair_of left right = (record_of left, record_of right)

-- the pairs that the present rows and those left make
abbrev pub pairs_from : Row → List Row → Row → List Row → List (Record × Record)
pairs_from a left b right = key_join (record_of a ∷ records_of left) (record_of b ∷ records_of right)

-- how many keys of eight bytes are above one
abbrev pub keys_above : Option ℕ → ℕ
keys_above None = 2 ^ 64
keys_above (Some key) = 2 ^ 64 - 1 - key

-- What a call with this result made of the pairs to come: true leaves them, and false comes where there is none, and
-- none is left of the rows then. Where the rows are told no page is bad.
abbrev pub PairsGo : Result Bool ReadFault → List (Record × Record) → List (Record × Record) → List (Record × Record) → Type 0
PairsGo (Ok true) before after left = before ≡ after
PairsGo (Ok false) before after left = (before ≡ []) × (left ≡ [])
PairsGo (Err (Flash fault)) before after left = Unit {0}
PairsGo (Err (BadPage bad)) before after left = ⊥
