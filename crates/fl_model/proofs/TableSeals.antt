-- Which pages a seal of a table seals, and the making of room for a record; and what is written.
use Rattle.std.proofs.Common.{◌≡◌, ◌+◌, ◌-◌, Bool, true, false, cond, ◌==◌, [], ◌∷◌, ◌++◌, length, take, refl, ◌∙◌, ap, eq-eqb, arith, length-append}
use Rattle.std.proofs.lemmas.Bool.{eqb-true}
use Rattle.std.proofs.lemmas.List.{take_all, take-append-le}
use Rattle.fl_model.specs.Record.{Plan, rows_per_page}
use Rattle.fl_model.specs.Table.{Table, Entry, written, table_seals, make_room_seals}

-- all is written where nothing is pending
pub all-written : (table : Table) → table.pending ≡ 0 → written table ≡ table.entries
all-written table none = take_all (length table.entries - table.pending) table.entries (omega (arith, none))

-- .. and where one more is pending, as much as before
pub written-push : (table : Table) (last : Entry) → take (length (table.entries ++ last ∷ []) - (table.pending + 1)) (table.entries ++ last ∷ []) ≡ written table
written-push table last =
    let count : length (table.entries ++ last ∷ []) - (table.pending + 1) ≡ length table.entries - table.pending = omega (arith, length-append table.entries (last ∷ [])) in
    ap (λ n. take n (table.entries ++ last ∷ [])) count ∙ take-append-le (length table.entries - table.pending) table.entries (last ∷ []) (omega arith)

pub idle-table_seals : (plan : Plan) (table : Table) → table.pending ≡ 0 → table_seals plan table ≡ []
idle-table_seals plan table none = rw none refl

pub full-room_seals : (plan : Plan) (table : Table) → table.pending ≡ rows_per_page plan → make_room_seals plan table ≡ table_seals plan table
full-room_seals plan table e = rw (eq-eqb table.pending (rows_per_page plan) e) refl

pub room-room_seals : (plan : Plan) (table : Table) → (table.pending ≡ rows_per_page plan → ⊥) → make_room_seals plan table ≡ []
room-room_seals plan table ne = by_test (table.pending == rows_per_page plan) refl
  where
    by_test : (t : Bool) → (table.pending == rows_per_page plan) ≡ t → cond t (table_seals plan table) [] ≡ []
    by_test true e = absurd (ne (eqb-true table.pending (rows_per_page plan) e))
    by_test false e = refl
