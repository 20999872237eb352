-- The first row of a cursor.
use Rattle.std.proofs.Common.{◌≡◌, Some, None, Ok, Err, List, [], ◌∷◌, map, refl, ap}
use Rattle.fl_model.specs.Record.{Record}
use Rattle.fl_model.specs.Row.{Row, stored_row}
use Rattle.fl_model.specs.Table.{Entry}
use Rattle.fl_page.specs.Steps.{Steps}
use Rattle.fl_page.specs.declared.fault.ReadFault.{ReadFault}
use Rattle.fl_page.specs.declared.fault.ReadFault.TheVariants as read
use Rattle.fl_ship.specs.Missing.{FirstIs}

no-row : {row : Row} {rows : List Row} → [] ≡ row ∷ rows → ⊥
no-row e = cc

some-rows : {row : Row} {rows : List Row} → row ∷ rows ≡ [] → ⊥
some-rows e = cc

heads : {a b : Row} {xs ys : List Row} → a ∷ xs ≡ b ∷ ys → a ≡ b
heads e = cc

-- what it finds among the entries of a table
pub first-found : (entries : List Entry) (row : Row) (others : List Row) → map stored_row entries ≡ row ∷ others → FirstIs (map (λ (entry : Entry). entry.kept) entries) (Ok (Some row.key))
first-found [] row others is = absurd (no-row is)
first-found (entry ∷ entries) row others is = (entry.kept, (map (λ (other : Entry). other.kept) entries, refl, ap (λ (r : Row). r.key) (heads is)))

pub first-none : (entries : List Entry) → map stored_row entries ≡ [] → FirstIs (map (λ (entry : Entry). entry.kept) entries) (Ok None)
first-none [] is = refl
first-none (entry ∷ entries) is = absurd (some-rows is)

pub first-unread : (items : List Record) (fault : ReadFault) (before : List Row) (row : Row) (after : List Row) → Steps (Err fault) before row after → FirstIs items (Err fault)
first-unread items (read.Flash fault) before row after steps = tt
first-unread items (read.BadPage bad) before row after steps = absurd steps
