-- How a put ends, by what it refused and what it put.
use Rattle.std.proofs.Common.{◌≡◌, ℕ, ◌+◌, ◌-◌, ◌/◌, ◌≤◌, Bool, Option, Some, None, option_map, Ok, Err, List, length, refl, ◌∙◌, ap, arith}
use Rattle.std.proofs.Math.IntN.{ℤ}
use Rattle.std.proofs.Math.Nat.{le-div_iff_mul-le}
use Rattle.fl_flash.specs.Flash.{FlashState}
use Rattle.fl_flash.specs.declared.flash.FlashFault.{FlashFault}
use Rattle.fl_model.specs.Record.{Record, Plan, RowLayout, layout_len, row_len, rows_per_page}
use Rattle.fl_model.specs.Table as model
use Rattle.fl_model.specs.Table.{Table, Refusal, BadKey, BadColumns, BadValue, BadBlob, refusal_of, make_room_seals, after_seals}
use Rattle.fl_model.specs.Work.{Device}
use Rattle.fl_model.proofs.Accepted.{accepted}
use Rattle.fl_parts.proofs.Plain.{table-parts}
use Rattle.fl_schema.specs.Schema.{layout_of}
use Rattle.fl_parts.specs.Accepting.{IsAcceptedBy}
use Rattle.fl_parts.specs.Failing.{Breaks, BySeals}
use Rattle.fl_table.specs.Outcomes.{Finishes, JoinEnds, PutEnds}
use Rattle.fl_table.specs.Refusal.{put_refusal}
use Rattle.fl_table.specs.Standing.{Stands}
use Rattle.fl_table.specs.declared.table.Table as code
use Rattle.fl_table.specs.declared.faults.PutRefusal.{PutRefusal}
use Rattle.fl_table.specs.declared.faults.PutRefusal.TheVariants as put
use Rattle.fl_parts.proofs.JoinedEntries.{room-accepts}
use Rattle.fl_parts.proofs.InTurn.{put-stops}
use Rattle.fl_table.proofs.PendingAndFull.{has-room, put-breaks, put-finishes}
use Rattle.fl_table.proofs.Refusals.{answered, answer_of, not-refused}
use Rattle.fl_table.proofs.SealAnswers.{planned-shape}

pub map-twice : {A B C : Type 0} (g : A → B) (h : B → C) (o : Option A) → option_map h (option_map g o) ≡ option_map (λ a. h (g a)) o
map-twice g h None = refl
map-twice g h (Some a) = refl

-- a refused record
pub refused-ends : {KNOTS SLOTS : ℕ} (t : code.Table KNOTS SLOTS) (f : FlashState) (first : ℕ) (plan : Plan) (table : Table) (key : ℕ) (values : List ℤ) (blob : Option (List ℕ)) (rose : Bool) (device : Device) → Stands t f first plan table →
    (refusal : PutRefusal) → put_refusal t key values (option_map (λ (xs : List ℕ). length xs) blob) ≡ Some refusal → (after : code.Table KNOTS SLOTS) (new : FlashState) → PutEnds first plan (record { key = key; values = values; blob = blob }) table rose device (Err refusal) after f new
refused-ends t f first plan table key values blob rose device s refusal e after new =
    let a = answered t f first plan table key values blob s refusal e in
    rw a.2 (by_refusal a.0 a.1)
  where
    by_refusal : (r : Refusal) → refusal_of plan table (record { key = key; values = values; blob = blob }) ≡ Some r →
        PutEnds first plan (record { key = key; values = values; blob = blob }) table rose device (Err (answer_of r)) after f new
    by_refusal (BadKey last) k = k
    by_refusal (BadColumns wanted) k = k
    by_refusal (BadValue column) k = k
    by_refusal (BadBlob limit) k = k
    by_refusal model.Spent k = k

-- an operation of the pages that make room failed
pub broken-ends : {KNOTS SLOTS : ℕ} (t : code.Table KNOTS SLOTS) (f : FlashState) (first : ℕ) (plan : Plan) (table : Table) (key : ℕ) (values : List ℤ) (blob : Option (List ℕ)) (rose : Bool) (device : Device) → Stands t f first plan table →
    put_refusal t key values (option_map (λ (xs : List ℕ). length xs) blob) ≡ None → (fault : FlashFault) (after : code.Table KNOTS SLOTS) (new : FlashState) → Breaks first plan (BySeals plan (make_room_seals plan table) table rose device) fault new →
    PutEnds first plan (record { key = key; values = values; blob = blob }) table rose device (Err (put.Flash fault)) after f new
broken-ends t f first plan table key values blob rose device s e fault after new h =
    (not-refused t f first plan table key values blob s e, put-stops first plan (record { key = key; values = values; blob = blob }) table rose device s.planned.log fault new h)

-- a page has room for a row
some-rows : {KNOTS SLOTS : ℕ} (t : code.Table KNOTS SLOTS) (f : FlashState) (first : ℕ) (plan : Plan) (table : Table) → Stands t f first plan table → 1 ≤ rows_per_page plan
some-rows t f first plan table s =
    let per_page : rows_per_page plan ≡ (t.geometry.page - 24) / layout_len (layout_of t.schema) =
    ap (λ g. (g.page - 24) / row_len plan) s.planned.geometry ∙ ap (λ (l : RowLayout). (t.geometry.page - 24) / layout_len l) s.planned.layout in
    let fits : 1 ≤ (t.geometry.page - 24) / layout_len (layout_of t.schema) = (le-div_iff_mul-le {x = 1} {y = t.geometry.page - 24} t.some_row).1 (omega (arith, t.room_for_row)) in
    omega (arith, fits, per_page)

-- room was made, and the record joins or not
module _ {KNOTS SLOTS : ℕ} (t : code.Table KNOTS SLOTS) (f : FlashState) (first : ℕ) (plan : Plan) (table : Table) (key : ℕ) (values : List ℤ) (blob : Option (List ℕ)) (rose : Bool) (device : Device) (s : Stands t f first plan table)
    (e : put_refusal t key values (option_map (λ (xs : List ℕ). length xs) blob) ≡ None) (room : code.Table KNOTS SLOTS) (mid : FlashState)
    (h : Finishes first plan (BySeals plan (make_room_seals plan table) table rose device) table (after_seals plan (make_room_seals plan table) table) room f mid) where
  abbrev item : Record
  item = record { key = key; values = values; blob = blob }

  pub accepts : room.writer.end + layout_len (layout_of room.schema) ≤ length room.writer.body → IsAcceptedBy plan (after_seals plan (make_room_seals plan table) table) key values blob
  accepts left =
      let ok = accepted plan table item (not-refused t f first plan table key values blob s e) in
      room-accepts plan table item (planned-shape t first plan s.planned) (table-parts plan table s.planned.log s.facts) (some-rows t f first plan table s) ok (has-room room mid first plan (after_seals plan (make_room_seals plan table) table) h.stands left)

  pub join-fails : (fault : FlashFault) (after : code.Table KNOTS SLOTS) (new : FlashState) → JoinEnds first plan item (after_seals plan (make_room_seals plan table) table) rose h.now.device (Err fault) after mid new →
      PutEnds first plan (record { key = key; values = values; blob = blob }) table rose device (Err (put.Flash fault)) after f new
  join-fails fault after new k = (not-refused t f first plan table key values blob s e, put-breaks first plan item table rose device s.planned.log room f mid h fault new k)

  pub put-ends : (after : code.Table KNOTS SLOTS) (new : FlashState) → JoinEnds first plan item (after_seals plan (make_room_seals plan table) table) rose h.now.device (Ok tt) after mid new →
      PutEnds first plan (record { key = key; values = values; blob = blob }) table rose device (Ok tt) after f new
  put-ends after new k = (not-refused t f first plan table key values blob s e, put-finishes first plan item table rose device s.planned.log room f mid h after new k)
