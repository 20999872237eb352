-- Where a mount of tables stops.
use Rattle.std.proofs.Common.{◌≡◌, ℕ, ◌<◌, ◌≤◌, true, false, Some, List, length, get_or, refl, sym, ◌∙◌, ap, arith, slice_get}
use Rattle.std.proofs.lemmas.Option.{slice_get_within, slice_get_read}
use Rattle.fl_rlc.specs.Table.{is_running}
use Rattle.fl_rlc.specs.declared.table.LoggedTable.{LoggedTable}
use Rattle.fl_store.specs.Tables.{StopsAt, entries_with}
use Rattle.fl_store.specs.declared.tables.BadMount.{BadMount}
use Rattle.fl_store.specs.declared.tables.Entry.{Entry}
use Rattle.fl_store.proofs.TablesChanged.{set-there, set-elsewhere}

-- the name stands
pub name-after : (so_far : List Entry) (i : ℕ) (entry : Entry) (t : LoggedTable 64 64) (e : Entry) → slice_get so_far i ≡ Some entry → e ≡ get_or (entries_with so_far i entry t) i e → entry.name ≡ e.name
name-after so_far i entry t e here is =
    let now : Entry = record { name = entry.name; table = t } in
    let stands : slice_get (entries_with so_far i entry t) i ≡ Some now = set-there so_far i entry now here in
    let there : slice_get (entries_with so_far i entry t) i ≡ Some e = slice_get_read (entries_with so_far i entry t) (length (entries_with so_far i entry t)) i e refl (slice_get_within (entries_with so_far i entry t) i now stands) is in
    let same : now ≡ e = cc (sym stands ∙ there) in
    ap (λ (x : Entry). x.name) same

pub stops-at : (old so_far : List Entry) (entry : Entry) (t : LoggedTable 64 64) (bad : BadMount) → slice_get so_far bad.at ≡ Some entry → entry.name ≡ bad.name → is_running t ≡ false
    → ((i : ℕ) (other : Entry) → i < bad.at → slice_get so_far i ≡ Some other → is_running other.table ≡ true)
    → ((i : ℕ) → bad.at ≤ i → slice_get so_far i ≡ slice_get old i) → StopsAt old (entries_with so_far bad.at entry t) bad
stops-at old so_far entry t bad here named down running ahead = record {
  entry = now;
  here = set-there so_far bad.at entry now here;
  named = named;
  down = down;
  before = λ i other lt e. running i other lt (sym (set-elsewhere so_far bad.at i now (λ is. absurd (omega (arith, lt, is)))) ∙ e);
  behind = λ i lt. set-elsewhere so_far bad.at i now (λ is. absurd (omega (arith, lt, is))) ∙ ahead i (omega (arith, lt));
}
  where
    now : Entry
    now = record { name = entry.name; table = t }
