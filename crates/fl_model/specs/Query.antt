-- What queries ask of a table's records, and cursors.
use Rattle.std.specs.Prelude.{ℕ, ◌-◌, min, Bool, true, false, ◌&&◌, nat_lt, nat_le, ◌==◌, ℤ, int_le, Option, Some, None, option_map, unwrap_or, List, [], length, map, filter, slice_get, if◌then◌else◌}
use Rattle.std.specs.List.{last_or, find}
use Rattle.fl_base.specs.declared.types.KeyRange.{KeyRange}
use Rattle.fl_base.specs.declared.types.Span.{Span}
use Rattle.fl_model.specs.Record.{Record}
use Rattle.fl_model.specs.Ring.{Ring, oldest}
use Rattle.fl_model.specs.Table.{Table, Entry, last_entry}

abbrev pub in_range : KeyRange → ℕ → Bool
in_range range key = nat_le range.low key && nat_le key range.high

-- a value is in the span; without a span each is
abbrev pub in_span : Option Span → Option ℤ → Bool
in_span None value = true
in_span (Some span) None = false
in_span (Some span) (Some value) = int_le span.low value && int_le value span.high

-- a record matches where its key is in the range and its first value in the span
abbrev pub matches : KeyRange → Option Span → Record → Bool
matches range span item = in_range range item.key && in_span span (slice_get item.values 0)

-- the entries that match
abbrev pub selected : KeyRange → Option Span → List Entry → List Entry
selected range span entries = filter (λ entry. matches range span entry.kept) entries

-- a cursor: what it asks, the key that it gave last, and the last key that it may give
pub record Cursor : Type 0 where
  pub range : KeyRange
  pub span : Option Span
  pub after : Option ℕ
  pub top : Option ℕ

-- a cursor that begins now gives no key above the last one of the table
abbrev pub begin : KeyRange → Option Span → Table → Cursor
begin range span table = record {
  range = range;
  span = span;
  after = None;
  top = option_map (λ last. min range.high last.kept.key) (last_entry table);
}

abbrev pub is_above : Option ℕ → ℕ → Bool
is_above None key = true
is_above (Some after) key = nat_lt after key

abbrev pub is_up_to : Option ℕ → ℕ → Bool
is_up_to None key = false
is_up_to (Some top) key = nat_le key top

-- the entries that a cursor has still to give, in the entries as they are now
abbrev pub left_of : Cursor → List Entry → List Entry
left_of cursor entries =
    filter (λ entry. matches cursor.range cursor.span entry.kept && is_above cursor.after entry.kept.key && is_up_to cursor.top entry.kept.key) entries

-- the next entry of a cursor
abbrev pub cursor_step : Cursor → List Entry → Option Entry
cursor_step cursor entries = slice_get (left_of cursor entries) 0

-- the cursor after it gave these entries
abbrev pub moved : Cursor → List Entry → Cursor
moved cursor given = record cursor { after = last_or cursor.after (map (λ entry. entry.kept.key) given) }

-- the entry with a key
abbrev pub entry_at : ℕ → List Entry → Option Entry
entry_at key entries = find (λ entry. entry.kept.key == key) entries

-- a blob's bytes, or that they are gone; a blob of length 0 is never gone
pub data BlobState : Type 0 where
  Without : BlobState
  Lost : BlobState
  Stands : (bytes : List ℕ) → BlobState

-- the page is not sealed yet, or it is kept and not void
abbrev pub page_stands : Ring → ℕ → Bool
page_stands ring page =
    if nat_le ring.next page then true
    else nat_le (oldest ring) page && unwrap_or (option_map (λ count. count == 1) (slice_get ring.counts (page - oldest ring))) false

abbrev pub blob_in : Table → Entry → Option (List ℕ) → BlobState
blob_in table entry None = Without
blob_in table entry (Some bytes) =
    if length bytes == 0 then Stands []
    else if unwrap_or (option_map (λ ring. page_stands ring entry.page) table.var) false then Stands bytes else Lost

-- what is left of an entry's blob
abbrev pub blob_of : Table → Entry → BlobState
blob_of table entry = blob_in table entry entry.kept.blob
