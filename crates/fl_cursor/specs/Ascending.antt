-- The rows that a cursor has left come in the order of their keys.
use Rattle.std.specs.Prelude.{◌≡◌, ℕ, zero, suc, Bool, true, false, ◌&&◌, nat_le, refl, Option, Some, None, List, [], ◌∷◌, filter, slice_get, MatchBool, if◌then◌else◌}
use Rattle.std.proofs.Common.{subst}
use Rattle.std.proofs.lemmas.Bool.{lt-ltb, leb-true}
use Rattle.fl_model.specs.Query.{Cursor as Asked, in_range, in_span, is_above, is_up_to}
use Rattle.fl_model.specs.Row.{Row}
use Rattle.fl_page.specs.Ascending.{Ascends-filter}
use Rattle.fl_frame.specs.Contents.{Contents}
use Rattle.fl_page.specs.Steps.{Ascends}
use Rattle.fl_cursor.specs.Asked.{is_left, row_matches, above_range, above_of}
use Rattle.fl_cursor.specs.Cursor.{asked_of, left_of, IsTold}
use Rattle.fl_cursor.specs.declared.cursor.Cursor.{Cursor}

impossible : {P : Type 0} → false ≡ true → P
impossible {P} h = subst (λ b. MatchBool b P (Unit {0})) h tt

pub both : (a b : Bool) → (a && b) ≡ true → (a ≡ true) × (b ≡ true)
both true b h = (refl, h)
both false b h = impossible h

above-range : (low : ℕ) (after : Option ℕ) (key : ℕ) → nat_le low key ≡ true → is_above after key ≡ true → is_above (above_range low after) key ≡ true
above-range zero after key from above = above
above-range (suc low) None key from above = lt-ltb low key (leb-true (suc low) key from)
above-range (suc low) (Some after) key from above =
    elim (nat_le low after) as (λ b. is_above (if b then Some after else Some low) key ≡ true) [
      | true ↦ above
      | false ↦ lt-ltb low key (leb-true (suc low) key from)
    ]

-- a row that is left is above what a cursor gave
pub left-above : (asked : Asked) (row : Row) → is_left asked row ≡ true → is_above (above_of asked) row.key ≡ true
left-above asked row left =
    let parts = both (row_matches asked.range asked.span row && is_above asked.after row.key) (is_up_to asked.top row.key) left in
    let matching = both (row_matches asked.range asked.span row) (is_above asked.after row.key) parts.0 in
    let asks = both (in_range asked.range row.key) (in_span asked.span (slice_get row.values 0)) matching.0 in
    let within = both (nat_le asked.range.low row.key) (nat_le row.key asked.range.high) asks.0 in
    above-range asked.range.low asked.after row.key within.0 matching.1

-- those that pass a test ascend above what the test asks for
ascends-above : (test : Row → Bool) (bound above : Option ℕ) (rows : List Row) → ((row : Row) → test row ≡ true → is_above bound row.key ≡ true) → Ascends above rows →
    Ascends bound (filter test rows)
ascends-above test bound above [] asks ascends = tt
ascends-above test bound above (row ∷ rows) asks ascends = by_test (test row) refl (ascends-above test bound (Some row.key) rows asks ascends.1)
  where
    by_test : (b : Bool) → test row ≡ b → Ascends bound (filter test rows) → Ascends bound (if b then row ∷ filter test rows else filter test rows)
    by_test true is rest = (asks row is, Ascends-filter test (Some row.key) rows ascends.1)
    by_test false is rest = rest

pub left-ascends : {KNOTS SLOTS : ℕ} (cursor : Cursor KNOTS SLOTS) (contents : Contents) → IsTold cursor contents → Ascends (above_of (asked_of cursor)) (left_of cursor contents)
left-ascends cursor contents told = ascends-above (is_left (asked_of cursor)) (above_of (asked_of cursor)) None _ (left-above (asked_of cursor)) told.ascends
