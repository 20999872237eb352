-- The page numbers of a table into which rows are put one after another.
use Rattle.std.proofs.Common.{◌≡◌, ◌⊎◌, inl, inr, ℕ, ◌+◌, ◌<◌, ◌≤◌, ℤ, Bool, true, false, ◌||◌, ◌==◌, nat_le, if◌then◌else◌, Option, Some, None, Result, Ok, Err, OnOk, List, length, refl, sym, ◌∙◌, ap, arith}
use Rattle.std.specs.Prelude.{option_map, unwrap_or}
use Rattle.std.proofs.lemmas.Bool.{cases_lt, leb-true}
use Rattle.fl_index.specs.Memory as memory
use Rattle.fl_index.specs.declared.index.BitmapIndex.{BitmapIndex}
use Rattle.fl_model.specs.Record.{RowLayout, layout_len}
use Rattle.fl_model.specs.Row.{Row, FitsRow}
use Rattle.fl_model.specs.Table.{RingName, DataRing, IndexRing, VarRing, LogRing, spent_from}
use Rattle.fl_parts.specs.Bitmaps as bitmaps
use Rattle.fl_parts.specs.Blobs as variable
use Rattle.fl_parts.proofs.BlobsOfTable.{after-most}
use Rattle.fl_ring.specs.Place.{next_of}
use Rattle.fl_ring.specs.declared.ring.Ring.{Ring}
use Rattle.fl_rlc.specs.Memory as log
use Rattle.fl_rlc.specs.Refusal.{log_refused, put_refusal}
use Rattle.fl_rlc.specs.Rows.{HaveLogged}
use Rattle.fl_rlc.specs.Table.{log_in, table_in}
use Rattle.fl_rlc.specs.declared.log.RecordLog.{RecordLog}
use Rattle.fl_rlc.specs.declared.table.LoggedTable.{LoggedTable}
use Rattle.fl_schema.specs.Schema.{layout_of}
use Rattle.fl_table.specs.BlobAt.{data_in}
use Rattle.fl_table.specs.Look.{index_in}
use Rattle.fl_table.specs.Memory.{is_running, next_in, HasRoom}
use Rattle.fl_table.specs.Refusal.{or_else, refused_if, spent_refused}
use Rattle.fl_table.specs.Stored.{HasJoined, IsEmptied, Stores}
use Rattle.fl_table.specs.declared.faults.PutRefusal.{PutRefusal}
use Rattle.fl_table.specs.declared.faults.PutRefusal.TheVariants.{Spent}
use Rattle.fl_table.specs.declared.table.Table.{Table}
use Rattle.fl_ship.specs.Rows.{HasFewNumbers, HaveRisen, next_number}
use Rattle.fl_ship.specs.declared.fault.ShipFault.{ShipFault}
use Rattle.fl_ship.specs.declared.fault.ShipFault.TheVariants.{Put}
use Rattle.fl_ship.proofs.RowsFit.{refused-alone}

-- ---- an accepted row takes at most one number of each ring

-- the next numbers of a table's own rings have risen by so many at most
record Rises (n : ℕ) (old new : Table 64 64) : Type 0 where
  rows : next_in new ≤ next_in old + n
  index : bitmaps.next_of (index_in new) ≤ bitmaps.next_of (index_in old) + n
  blobs : variable.next_of (data_in new) ≤ variable.next_of (data_in old) + n

rises-then : (m n : ℕ) (a b c : Table 64 64) → Rises m a b → Rises n b c → Rises (m + n) a c
rises-then m n a b c first more = record {
  rows = omega (arith, first.rows, more.rows);
  index = omega (arith, first.index, more.index);
  blobs = omega (arith, first.blobs, more.blobs);
}

index-after : (held : Option BitmapIndex) → bitmaps.next_after held ≤ bitmaps.next_of held + 1
index-after None = omega arith
index-after (Some index) = by-test (memory.waiting_in index == memory.per_page index)
  where
    by-test : (full : Bool) → memory.next_in index + (if full then 1 else 0) ≤ memory.next_in index + 1
    by-test true = omega arith
    by-test false = omega arith

joined-rises : (old new : Table 64 64) (key : ℕ) (values : List ℤ) → HasJoined old key values None new → Rises 0 old new
joined-rises old new key values j =
    let rows : next_in new ≡ next_in old = ap (λ (o : Option Ring). unwrap_or (option_map (λ ring. next_of ring) o) 0) j.known.ring in
    let index : bitmaps.next_of (index_in new) ≡ bitmaps.next_of (index_in old) = ap bitmaps.next_of j.known.bitmaps in
    let blobs : variable.next_of (data_in new) ≡ variable.next_of (data_in old) = ap variable.next_of j.blobs in
    record { rows = omega (arith, rows); index = omega (arith, index); blobs = omega (arith, blobs) }

emptied-rises : (old new : Table 64 64) → IsEmptied old new → Rises 1 old new
emptied-rises old new e = record {
  rows = omega (arith, e.next);
  index = omega (arith, e.index.next, index-after (index_in old));
  blobs = omega (arith, e.blob_next, after-most (data_in old));
}

stores-rises : (old new : Table 64 64) (key : ℕ) (values : List ℤ) → Stores old key values None new → Rises 1 old new
stores-rises old new key values stores = by-room (cases_lt (length old.writer.body) (old.writer.end + layout_len (layout_of old.schema)))
  where
    by-room : (length old.writer.body < old.writer.end + layout_len (layout_of old.schema)) ⊎ HasRoom old → Rises 1 old new
    by-room (inr room) = let same = joined-rises old new key values (stores.room room) in record { rows = omega (arith, same.rows); index = omega (arith, same.index); blobs = omega (arith, same.blobs) }
    by-room (inl full) =
        let sealed = stores.full (λ room. omega (arith, full, room)) in
        rises-then 1 0 old sealed.0 new (emptied-rises old sealed.0 sealed.1.0) (joined-rises sealed.0 new key values sealed.1.1)

log-rises : (layout : RowLayout) (row : Row) (old new : Option RecordLog) → HaveLogged layout row old new → unwrap_or (option_map (λ l. log.next_in l) new) 0 ≤ unwrap_or (option_map (λ l. log.next_in l) old) 0 + 1
log-rises layout row None new none = let e : unwrap_or (option_map (λ l. log.next_in l) new) 0 ≡ 0 = ap (λ (o : Option RecordLog). unwrap_or (option_map (λ l. log.next_in l) o) 0) none in omega (arith, e)
log-rises layout row (Some old) None logged = absurd logged
log-rises layout row (Some old) (Some new) logged = omega (arith, logged.next)

pub puts-risen : (old new : LoggedTable 64 64) (key : ℕ) (values : List ℤ) (layout : RowLayout) (row : Row) (result : Result (Unit {0}) PutRefusal) →
    OnOk result (Stores (table_in old) key values None (table_in new)) → OnOk result (HaveLogged layout row (log_in old) (log_in new)) → OnOk result (HaveRisen old 1 new)
puts-risen old new key values layout row (Err refusal) stores logs = tt
puts-risen old new key values layout row (Ok done) stores logs = each (stores-rises (table_in old) (table_in new) key values stores)
  where
    each : Rises 1 (table_in old) (table_in new) → (ring : RingName) → next_number new ring ≤ next_number old ring + 1
    each rises DataRing = rises.rows
    each rises IndexRing = rises.index
    each rises VarRing = rises.blobs
    each rises LogRing = log-rises layout row (log_in old) (log_in new) logs

-- ---- a row that fits is refused as spent where a ring has no number left

spent-first : (a b : Option PutRefusal) → or_else a b ≡ Some Spent → (a ≡ Some Spent) ⊎ (b ≡ Some Spent)
spent-first None b is = inr is
spent-first (Some refusal) b is = inl is

spent-when : (b : Bool) → refused_if b Spent ≡ Some Spent → b ≡ true
spent-when true is = refl
spent-when false is = absurd (cc is)

of-three : (P : Type 0) (a b c : Bool) → (a || b || c) ≡ true → (a ≡ true → P) → (b ≡ true → P) → (c ≡ true → P) → P
of-three P true b c is first second third = first refl
of-three P false true c is first second third = second refl
of-three P false false true is first second third = third refl
of-three P false false false is first second third = absurd (cc is)

ring-spent : (held : Option Ring) → unwrap_or (option_map (λ ring. nat_le spent_from (next_of ring)) held) false ≡ true → spent_from ≤ unwrap_or (option_map (λ ring. next_of ring) held) 0
ring-spent None is = absurd (cc is)
ring-spent (Some ring) is = leb-true spent_from (next_of ring) is

log-spent : (held : Option RecordLog) → log_refused held ≡ Some Spent → spent_from ≤ unwrap_or (option_map (λ l. log.next_in l) held) 0
log-spent None is = absurd (cc is)
log-spent (Some l) is = leb-true spent_from (log.next_in l) (spent-when (nat_le spent_from (log.next_in l)) is)

table-spent : (t : LoggedTable 64 64) → spent_refused t.table ≡ Some Spent → (ring : RingName) × (spent_from ≤ next_number t ring)
table-spent t own =
    let rows = unwrap_or (option_map (λ (ring : Ring). nat_le spent_from (next_of ring)) t.table.ring) false in
    let index = nat_le spent_from (bitmaps.next_of t.table.bitmaps) in
    let blobs = nat_le spent_from (variable.next_of t.table.blobs) in
    of-three ((ring : RingName) × (spent_from ≤ next_number t ring)) rows index blobs (spent-when (rows || index || blobs) own)
    (λ is. (DataRing, ring-spent t.table.ring is)) (λ is. (IndexRing, leb-true spent_from (bitmaps.next_of t.table.bitmaps) is)) (λ is. (VarRing, leb-true spent_from (variable.next_of t.table.blobs) is))

pub spent-ring : (t : LoggedTable 64 64) (row : Row) → FitsRow (layout_of t.table.schema) row → is_running t.table ≡ true → ((before : ℕ) → t.table.last_key ≡ Some before → before < row.key) → put_refusal t row.key row.values None ≡ Some Spent →
    (ring : RingName) × (spent_from ≤ next_number t ring)
spent-ring t row fits running above is =
    by-first (spent-first (spent_refused t.table) (log_refused t.log) (sym (ap (λ (o : Option PutRefusal). or_else o (log_refused t.log)) (refused-alone t.table row fits running above)) ∙ is))
  where
    by-first : (spent_refused t.table ≡ Some Spent) ⊎ (log_refused t.log ≡ Some Spent) → (ring : RingName) × (spent_from ≤ next_number t ring)
    by-first (inl own) = table-spent t own
    by-first (inr logged) = (LogRing, log-spent t.log logged)

-- ---- some rows were put

pub risen-none : (t : LoggedTable 64 64) → HaveRisen t 0 t
risen-none t ring = omega arith

pub risen-more : (a b c : LoggedTable 64 64) (n : ℕ) → HaveRisen a n b → HaveRisen b 1 c → HaveRisen a (n + 1) c
risen-more a b c n before more ring = omega (arith, before ring, more ring)

-- fewer than were asked for, and then one is refused
pub few-left : (old new : LoggedTable 64 64) (n count : ℕ) → HaveRisen old n new → n < count → (ring : RingName) × (spent_from ≤ next_number new ring) → HasFewNumbers old count
few-left old new n count risen fewer spent = (spent.0, omega (arith, risen spent.0, fewer, spent.1))

pub same-refusal : (a b : PutRefusal) → ◌≡◌ {A = Result ℕ ShipFault} (Err (Put a)) (Err (Put b)) → ◌≡◌ {A = Result (Unit {0}) PutRefusal} (Err a) (Err b)
same-refusal a b e = let same : a ≡ b = cc e in ap (λ (refusal : PutRefusal). Err refusal) same
