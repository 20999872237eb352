-- The pending records of a table, and the key of the first.
use Rattle.std.proofs.Common.{◌≡◌, ℕ, zero, suc, ◌+◌, ◌-◌, ◌<◌, ◌≤◌, Bool, true, false, Option, Some, None, option_map, List, [], ◌∷◌, length, map, take, refl, sym, ◌∙◌, ap, arith, ⊎_elim, length-drop}
use Rattle.std.specs.Prelude.{◌==◌, nat_le, unwrap_or}
use Rattle.std.specs.List.{slice_get}
use Rattle.std.proofs.lemmas.Bool.{cases_lt, lt-leb, leb-false, true≢false}
use Rattle.std.proofs.lemmas.List.{length-map}
use Rattle.std.proofs.lemmas.Option.{none-some, same_Some}
use Rattle.fl_find.proofs.Entries.{found-at, found-none, row-entry, rows-rise, entry-row}
use Rattle.fl_find.proofs.Firsts.{Ascending}
use Rattle.fl_find.specs.Rows.{RowsRise, HasKey, LacksKey}
use Rattle.fl_model.specs.Facts.{IsTable}
use Rattle.fl_model.specs.Query.{entry_at}
use Rattle.fl_model.specs.Record.{Plan}
use Rattle.fl_model.specs.Row.{Row, stored_row}
use Rattle.fl_model.specs.Spline.{is_pending_key}
use Rattle.fl_model.specs.Table.{Table, Entry, pending_entries, written}
use Rattle.fl_model.proofs.Lists.{slice_get-some, slice_get-drop, slice_get-take, slice_get-front, slice_get-short}

-- an entry of the front of a list is one of the list
pub entry-front : (key n : ℕ) (entries : List Entry) (entry : Entry) → entry_at key (take n entries) ≡ Some entry → entry_at key entries ≡ Some entry
entry-front key zero entries entry e = absurd (none-some entry (take_none entries ∙ e))
  where
    take_none : (xs : List Entry) → None ≡ entry_at key (take 0 xs)
    take_none [] = refl
    take_none (x ∷ xs) = refl
entry-front key (suc n) [] entry e = e
entry-front key (suc n) (x ∷ entries) entry e = by_key (x.kept.key == key) refl (entry-front key n entries entry)
  where
    by_key : (b : Bool) → (x.kept.key == key) ≡ b → (entry_at key (take n entries) ≡ Some entry → entry_at key entries ≡ Some entry) → entry_at key (x ∷ entries) ≡ Some entry
    by_key true t later = rw t (rw t at e)
    by_key false t later = rw t (later (rw t at e))

module _ (plan : Plan) (table : Table) (facts : IsTable plan table) where
  abbrev n : ℕ
  n = length table.entries - table.pending

  pending-up : Ascending (pending_entries table)
  pending-up i j a b less e f =
      facts.ascending (n + i) (n + j) a b (omega (arith, less)) (sym (slice_get-drop n table.entries i) ∙ e) (sym (slice_get-drop n table.entries j) ∙ f)

  written-up : Ascending (written table)
  written-up i j a b less e f = facts.ascending i j a b less (slice_get-front n table.entries i a e) (slice_get-front n table.entries j b f)

  pub pending-rise : RowsRise (map stored_row (pending_entries table))
  pending-rise = rows-rise (pending_entries table) pending-up

  -- the first pending entry, where there is one
  first-is : (j : ℕ) (entry : Entry) → slice_get (pending_entries table) j ≡ Some entry → (x : Entry) × (slice_get (pending_entries table) 0 ≡ Some x) × (x.kept.key ≤ entry.kept.key)
  first-is j entry e =
      let x = slice_get-some (pending_entries table) 0 (omega (arith, slice_get-short (pending_entries table) j entry e)) in (
        x.0,
        x.1,
        ⊎_elim
            (λ less. let up = pending-up 0 j x.0 entry less x.1 e in omega (arith, up))
            (λ le. let zero_is : j ≡ 0 = omega (arith, le) in let same = same_Some x.0 entry (sym x.1 ∙ (ap (slice_get (pending_entries table)) (sym zero_is) ∙ e)) in omega (arith, ap (λ (y : Entry). y.kept.key) same))
            (cases_lt 0 j),
      )

  -- a key that isn't pending lies below all pending keys
  pending-above : (key j : ℕ) (entry : Entry) → is_pending_key table key ≡ false → slice_get (pending_entries table) j ≡ Some entry → key < entry.kept.key
  pending-above key j entry is e =
      let x = first-is j entry e in
      let told : nat_le x.0.kept.key key ≡ false = sym (ap (λ (o : Option Entry). unwrap_or (option_map (λ first. nat_le first key) (option_map (λ (y : Entry). y.kept.key) o)) false) x.1) ∙ is in
      let lt : key < x.0.kept.key = leb-false x.0.kept.key key told in
      omega (arith, lt, x.2)

  -- a key that is lies above all written ones
  written-below : (key i : ℕ) (entry : Entry) → is_pending_key table key ≡ true → slice_get table.entries i ≡ Some entry → i < n → entry.kept.key < key
  written-below key i entry is e lt = by_first (slice_get (pending_entries table) 0) refl
    where
      by_first : (o : Option Entry) → slice_get (pending_entries table) 0 ≡ o → entry.kept.key < key
      by_first None h = absurd (true≢false (sym is ∙ ap (λ (o : Option Entry). unwrap_or (option_map (λ first. nat_le first key) (option_map (λ (y : Entry). y.kept.key) o)) false) h))
      by_first (Some x) h =
          let told : nat_le x.kept.key key ≡ true = sym (ap (λ (o : Option Entry). unwrap_or (option_map (λ first. nat_le first key) (option_map (λ (y : Entry). y.kept.key) o)) false) h) ∙ is in
          let up = facts.ascending i (n + 0) entry x (omega (arith, lt)) e (sym (slice_get-drop n table.entries 0) ∙ h) in
          ⊎_elim
          (λ less. absurd (true≢false (sym told ∙ lt-leb x.kept.key key less)))
          (λ le. omega (arith, le, up))
          (cases_lt key x.kept.key)

  -- the entry of a written row is one of the table
  pub written-found : (key : ℕ) (entry : Entry) → entry_at key (written table) ≡ Some entry → entry_at key table.entries ≡ Some entry
  written-found key entry e = entry-front key n table.entries entry e

  -- and where no written one has a key that isn't pending, none has it
  pub written-none : (key : ℕ) → is_pending_key table key ≡ false → entry_at key (written table) ≡ None → entry_at key table.entries ≡ None
  written-none key is e = found-none key table.entries (λ i entry at k. ⊎_elim
      (λ less. none-some entry (sym e ∙ found-at key (written table) i entry written-up (slice_get-take n table.entries i less ∙ at) k))
      (λ le.
      let split : n + (i - n) ≡ i = omega (arith, le) in
      let above = pending-above key (i - n) entry is (slice_get-drop n table.entries (i - n) ∙ (ap (slice_get table.entries) split ∙ at)) in
      omega (arith, above, k))
      (cases_lt i n))

  -- the entry of a pending row
  pub pending-found : (key i : ℕ) → HasKey (map stored_row (pending_entries table)) key i →
      (entry : Entry) × (entry_at key table.entries ≡ Some entry) × (slice_get (map stored_row (pending_entries table)) i ≡ Some (stored_row entry))
  pending-found key i has =
      let x = row-entry (pending_entries table) i has.row has.here in
      let k : x.0.kept.key ≡ key = ap (λ (r : Row). r.key) x.2 ∙ has.key_is in
      (x.0, found-at key table.entries (n + i) x.0 facts.ascending (sym (slice_get-drop n table.entries i) ∙ x.1) k, has.here ∙ ap (λ (r : Row). Some r) (sym x.2))

  -- where no pending row has a pending key, none has it
  pub pending-none : (key : ℕ) → is_pending_key table key ≡ true → LacksKey (map stored_row (pending_entries table)) key → entry_at key table.entries ≡ None
  pending-none key is lacks = found-none key table.entries (λ i entry at k. ⊎_elim
      (λ less. let below = written-below key i entry is at less in omega (arith, below, k))
      (λ le.
      let split : n + (i - n) ≡ i = omega (arith, le) in
      lacks (i - n) (stored_row entry) (entry-row (pending_entries table) (i - n) entry (slice_get-drop n table.entries (i - n) ∙ (ap (slice_get table.entries) split ∙ at))) k)
      (cases_lt i n))

  -- how many pending rows there are
  pub pending-many : length (map stored_row (pending_entries table)) ≡ table.pending
  pending-many = length-map (pending_entries table) stored_row ∙ (length-drop n table.entries ∙ omega (arith, facts.counted))

-- rows that rise, at a middle one
pub below-middle : (rows : List Row) (middle key : ℕ) (row : Row) → RowsRise rows → slice_get rows middle ≡ Some row → row.key < key →
    (i : ℕ) (other : Row) → i < middle + 1 → slice_get rows i ≡ Some other → other.key < key
below-middle rows middle key row up e lt i other less f = ⊎_elim
    (λ before. let h = up i middle other row before f e in omega (arith, h, lt))
    (λ le. let same : i ≡ middle = omega (arith, le, less) in let is = same_Some other row (sym f ∙ (ap (slice_get rows) same ∙ e)) in omega (arith, lt, ap (λ (r : Row). r.key) is))
    (cases_lt i middle)

pub above-middle : (rows : List Row) (middle key : ℕ) (row : Row) → RowsRise rows → slice_get rows middle ≡ Some row → key ≤ row.key →
    (i : ℕ) (other : Row) → middle ≤ i → slice_get rows i ≡ Some other → key ≤ other.key
above-middle rows middle key row up e le i other from f = ⊎_elim
    (λ after. let h = up middle i row other after e f in omega (arith, h, le))
    (λ upto. let same : i ≡ middle = omega (arith, upto, from) in let is = same_Some other row (sym f ∙ (ap (slice_get rows) same ∙ e)) in omega (arith, le, ap (λ (r : Row). r.key) is))
    (cases_lt middle i)

-- the row behind all lesser ones has the key, or none has it
pub lacks-beyond : (rows : List Row) (key place : ℕ) → ((i : ℕ) (row : Row) → i < place → slice_get rows i ≡ Some row → row.key < key) → ((i : ℕ) (row : Row) → place ≤ i → slice_get rows i ≡ Some row → key ≤ row.key) →
    RowsRise rows → ((row : Row) → slice_get rows place ≡ Some row → row.key ≡ key → ⊥) → LacksKey rows key
lacks-beyond rows key place below at_least up other i row e k = ⊎_elim
    (λ less. let h = below i row less e in omega (arith, h, k))
    (λ from. ⊎_elim
    (λ after.
    let p = slice_get-some rows place (omega (arith, after, slice_get-short rows i row e)) in
    let low = at_least place p.0 (omega arith) p.1 in
    let h = up place i p.0 row after p.1 e in
    omega (arith, low, h, k))
    (λ le. let same : i ≡ place = omega (arith, le, from) in other row (sym (ap (slice_get rows) same) ∙ e) k)
    (cases_lt place i))
    (cases_lt i place)
