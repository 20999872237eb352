-- The cursors that are open in a run are within their ranges.
use Rattle.std.proofs.Common.{◌≡◌, ℕ, zero, suc, ◌≤◌, Bool, true, false, ◌&&◌, cond, nat_le, min, Option, Some, None, IfSome, option_map, unwrap_or, List, [], ◌∷◌, map, take, refl, subst, arith, slice_set}
use Rattle.std.specs.List.{slice_get, last_or, AllByRecursion}
use Rattle.std.proofs.lemmas.Bool.{leb-true}
use Rattle.fl_base.specs.declared.types.KeyRange.{KeyRange}
use Rattle.fl_base.specs.declared.types.Span.{Span}
use Rattle.fl_model.specs.Record.{Config}
use Rattle.fl_model.specs.Table.{Table, Entry, last_entry}
use Rattle.fl_model.specs.Query.{Cursor, begin, left_of, moved, in_span, is_above, is_up_to}
use Rattle.fl_model.proofs.Lists.{each-take}
use Rattle.fl_words.specs.Command as command
use Rattle.fl_words.specs.Command.{Command}
use Rattle.fl_machine.specs.Machine.{Machine, OpenCursor, no_cursors}
use Rattle.fl_machine.specs.OpenCursors.{IsWithin, IsOpenWithin, AreWithin}
use Rattle.fl_machine.specs.Step.{Moment, StepOf}
use Rattle.fl_machine.specs.Run.{Run, end_of}
use Rattle.fl_machine.proofs.StepStays.{Stays, IsOther, after-is, on-table, on-cursor, next-so, other-so}

pub none-within : AreWithin no_cursors
none-within = (tt, (tt, (tt, (tt, tt))))

each-set : {X : Type 0} (P : X → Type 0) (xs : List X) (n : ℕ) (x : X) → AllByRecursion P xs → P x → AllByRecursion P (slice_set xs n x)
each-set P [] n x all p = tt
each-set P (y ∷ xs) zero x all p = (p, all.1)
each-set P (y ∷ xs) (suc n) x all p = (all.0, each-set P xs n x all.1 p)

pub within-at : (cursors : List (Option OpenCursor)) (n : ℕ) → AreWithin cursors → IsOpenWithin (unwrap_or (slice_get cursors n) None)
within-at [] n all = tt
within-at (slot ∷ cursors) zero all = all.0
within-at (slot ∷ cursors) (suc n) all = within-at cursors n all.1

-- a cursor that begins
begin-within : (range : KeyRange) (span : Option Span) (table : Table) → IsWithin (begin range span table)
begin-within range span table = record { top = top_of (last_entry table); after = tt }
  where
    top_of : (last : Option Entry) → IfSome (option_map (λ last. min range.high last.kept.key) last) (λ top. top ≤ range.high)
    top_of None = tt
    top_of (Some last) = omega arith

-- .. and one that gave some of the entries that it had left
abbrev IsFrom : ℕ → List Entry → Type 0
IsFrom low entries = AllByRecursion (λ (e : Entry). low ≤ e.kept.key) entries

left-from : (cursor : Cursor) (entries : List Entry) → IsFrom cursor.range.low (left_of cursor entries)
left-from cursor [] = tt
left-from cursor (e ∷ entries) = by_test (nat_le cursor.range.low e.kept.key) refl (nat_le e.kept.key cursor.range.high) (in_span cursor.span (slice_get e.kept.values 0)) (is_above cursor.after e.kept.key) (is_up_to cursor.top e.kept.key) (left-from cursor entries)
  where
    by_test : (a : Bool) → nat_le cursor.range.low e.kept.key ≡ a → (b c d u : Bool) → IsFrom cursor.range.low (left_of cursor entries) → IsFrom cursor.range.low (cond (((a && b) && c) && d && u) (e ∷ left_of cursor entries) (left_of cursor entries))
    by_test false is b c d u rest = rest
    by_test true is false c d u rest = rest
    by_test true is true false d u rest = rest
    by_test true is true true false u rest = rest
    by_test true is true true true false rest = rest
    by_test true is true true true true rest = (leb-true cursor.range.low e.kept.key is, rest)

last-from : (low : ℕ) (after : Option ℕ) (entries : List Entry) → IfSome after (λ a. low ≤ a) → IsFrom low entries → IfSome (last_or after (map (λ (e : Entry). e.kept.key) entries)) (λ a. low ≤ a)
last-from low after [] h all = h
last-from low after (e ∷ entries) h all = last-from low (Some e.kept.key) entries all.0 all.1

moved-within : (cursor : Cursor) (entries : List Entry) (g count : ℕ) → IsWithin cursor → IsWithin (moved cursor (take g (take count (left_of cursor entries))))
moved-within cursor entries g count is = record {
  top = is.top;
  after = last-from cursor.range.low cursor.after (take g (take count (left_of cursor entries))) is.after
      (each-take (λ (e : Entry). cursor.range.low ≤ e.kept.key) g (take count (left_of cursor entries)) (each-take (λ (e : Entry). cursor.range.low ≤ e.kept.key) count (left_of cursor entries) (left-from cursor entries)));
}

-- neither writes nor sessions change it
abbrev AreSo : Machine → Type 0
AreSo m = AreWithin m.cursors

so-stays : (old : Machine) → AreSo old → Stays old AreSo
so-stays old k = record { writes = λ device tables. k; stops = λ device tables. none-within; mounts = λ device tables. none-within }

so-else : (config : Config) (old : Machine) (m : Moment) (c : Command) → IsOther c → AreSo old → StepOf config old m c → AreSo m.after
so-else config old m c other k h = other-so old AreSo (so-stays old k) config m c other h

-- each moment keeps it so
step-keeps : (config : Config) (old : Machine) (m : Moment) (c : Command) → AreSo old → StepOf config old m c → AreSo m.after
step-keeps config old m command.Nothing k h = so-else config old m command.Nothing tt k h
step-keeps config old m command.Mount k h = so-else config old m command.Mount tt k h
step-keeps config old m command.Off k h = so-else config old m command.Off tt k h
step-keeps config old m (command.Cut n kind) k h = so-else config old m (command.Cut n kind) tt k h
step-keeps config old m (command.Put name key values blob) k h = so-else config old m (command.Put name key values blob) tt k h
step-keeps config old m (command.Flush name) k h = so-else config old m (command.Flush name) tt k h
step-keeps config old m (command.Get name key) k h = on-table old AreSo (so-stays old k) config m name _ h (λ at p. after-is old AreSo (so-stays old k) config m _ k p.0)
step-keeps config old m (command.Blob name key) k h = so-else config old m (command.Blob name key) tt k h
step-keeps config old m (command.Scan name range span) k h = on-table old AreSo (so-stays old k) config m name _ h (λ at p. after-is old AreSo (so-stays old k) config m _ k p.0)
step-keeps config old m (command.Open cursor name range span) k h =
    on-table old AreSo (so-stays old k) config m name _ h
    (λ at p. after-is old AreSo (so-stays old k) config m _ (each-set IsOpenWithin old.cursors cursor (Some (record { table = at.place; cursor = begin range span at.table })) k (begin-within range span at.table)) p.after_is)
step-keeps config old m (command.Next cursor count) k h =
    on-cursor old AreSo (so-stays old k) config m cursor _ h (λ open_cursor e p. next-so old AreSo (so-stays old k) config m cursor count open_cursor
    (λ table g. each-set IsOpenWithin old.cursors cursor (Some (record open_cursor { cursor = moved open_cursor.cursor (take g (take count (left_of open_cursor.cursor table.entries))) })) k
    (moved-within open_cursor.cursor table.entries g count (subst IsOpenWithin e (within-at old.cursors cursor k)))) p)
step-keeps config old m (command.Close cursor) k h =
    on-cursor old AreSo (so-stays old k) config m cursor _ h (λ open_cursor e p. after-is old AreSo (so-stays old k) config m _ (each-set IsOpenWithin old.cursors cursor None k tt) p.after_is)
step-keeps config old m (command.Select name range column op value) k h = so-else config old m (command.Select name range column op value) tt k h
step-keeps config old m (command.Project name range columns) k h = so-else config old m (command.Project name range columns) tt k h
step-keeps config old m (command.Agg name range column width) k h = so-else config old m (command.Agg name range column width) tt k h
step-keeps config old m (command.Join left right range) k h = so-else config old m (command.Join left right range) tt k h
step-keeps config old m (command.Stat name) k h = so-else config old m (command.Stat name) tt k h
step-keeps config old m command.Cost k h = so-else config old m command.Cost tt k h
step-keeps config old m (command.Load name count step seed) k h = so-else config old m (command.Load name count step seed) tt k h
step-keeps config old m (command.Device page block) k h = absurd h
step-keeps config old m (command.Table line) k h = absurd h

pub run-within : (config : Config) (old : Machine) (moments : List Moment) → AreWithin old.cursors → Run config old moments → AreWithin (end_of old moments).cursors
run-within config old [] k run = k
run-within config old (m ∷ ms) k (step, run) = run-within config m.after ms (step-keeps config old m m.command k step) run
