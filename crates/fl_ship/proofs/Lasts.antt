-- Records that are put into a table and flushed end with the last of them.
use Rattle.std.proofs.Common.{◌≡◌, ℕ, zero, suc, ◌+◌, ◌-◌, ◌/◌, ◌<◌, ◌≤◌, Bool, true, false, cond, ◌&&◌, ◌==◌, nat_lt, Option, Some, None, List, [], ◌∷◌, ◌++◌, length, take, drop, replicate, refl, sym, ◌∙◌, ap, subst, arith, length-append, length-drop, length-take}
use Rattle.std.specs.List.{AllByRecursion, last_or, sum}
use Rattle.std.proofs.lemmas.List.{length-map, take-append-le, take_all}
use Rattle.std.proofs.lemmas.List.Sums.{sum_by-take-drop, sum_by-take-le, sum_by_push}
use Rattle.fl_base.proofs.Tests.{some_from}
use Rattle.fl_model.specs.Record.{Plan, Record, content_per_page, entries_per_page, has_index, has_log, rows_per_page}
use Rattle.fl_model.specs.Ring.{IsShape, Ring, Shape, extended, given_up, is_full, sealed}
use Rattle.fl_model.specs.Ship.{records_in, to_ship}
use Rattle.fl_model.specs.Table.{Table, Entry, RingName, DataRing, IndexRing, VarRing, LogRing, after_seal, after_seals, blob_len, fill, flushed, join_seals, lose, put_joined, put_record, shape_of, start_offset, start_page, table_seals, with_room}
use Rattle.fl_model.proofs.ShipWork.{map-append, map-drop}
use Rattle.fl_model.proofs.CopiesAreParts.{ships-all, ships-parts}
use Rattle.fl_model.proofs.Sealed.{full-long}
use Rattle.fl_model.proofs.Lists.{last_or-append}
use Rattle.fl_machine.proofs.LogTables.{seals_by}
use Rattle.fl_ship.specs.Ends.{shipped_records}
use Rattle.fl_ship.specs.Laws.{ShipsLeaveParts, ShipsReachTheEnd}
use Rattle.fl_ship.specs.Puts.{put_all}
use Rattle.fl_ship.proofs.KeptRecords.{ships-keep}

-- ---- the last of a list

pub last-drop : (o : Option Record) (k : ℕ) (xs : List Record) → k < length xs → last_or o (drop k xs) ≡ last_or o xs
last-drop o k [] h = absurd (omega arith)
last-drop o zero (x ∷ xs) h = refl
last-drop o (suc k) (x ∷ []) h = absurd (omega arith)
last-drop o (suc k) (x ∷ y ∷ ys) h = last-drop o k (y ∷ ys) (omega arith)

-- ---- the rows of a ring whose oldest pages go

-- each record is in a page or waits for one
abbrev pub IsCounted : Table → Type 0
IsCounted t = sum t.rows.counts + t.pending ≡ length t.entries

-- a page is sealed: the rows that stay and those that go
rows-sealed : (shape : Shape) (count : ℕ) (ring : Ring) → sum (sealed shape count ring).counts + sum (given_up shape count ring) ≡ sum ring.counts + count
rows-sealed shape count ring = by_full (is_full shape (extended count ring))
  where
    all : List ℕ
    all = ring.counts ++ count ∷ []

    push : sum all ≡ sum ring.counts + count
    push = sum_by_push (λ (n : ℕ). n) ring.counts count

    by_full : (b : Bool) → sum (cond b (record (extended count ring) { counts = drop shape.pages all; dirty = true }) (extended count ring)).counts + sum (cond b (take shape.pages all) []) ≡ sum ring.counts + count
    by_full true = let split = sum_by-take-drop (λ (n : ℕ). n) all shape.pages in omega (arith, split, push)
    by_full false = omega (arith, push)

-- .. which are none of the page itself
few-gone : (shape : Shape) (count : ℕ) (ring : Ring) → IsShape shape → sum (given_up shape count ring) ≤ sum ring.counts
few-gone shape count ring ok = by_full (is_full shape (extended count ring)) refl
  where
    by_full : (b : Bool) → is_full shape (extended count ring) ≡ b → sum (cond b (take shape.pages (ring.counts ++ count ∷ [])) []) ≤ sum ring.counts
    by_full true e =
        let long = full-long shape (extended count ring) ok e in
        let len = length-append ring.counts (count ∷ []) in
        let pages = ok.pages in
        let front : take shape.pages (ring.counts ++ count ∷ []) ≡ take shape.pages ring.counts = take-append-le shape.pages ring.counts (count ∷ []) (omega (arith, long, len, pages)) in
        let less = sum_by-take-le (λ (n : ℕ). n) ring.counts shape.pages in
        rw front less
    by_full false e = omega arith

-- ---- seals

-- a table that ends with this record, if it has any
record IsLast (t : Table) (last : Option Record) : Type 0 where
  last_is : last_or None (records_in t) ≡ last
  counted : IsCounted t

-- the seal of a data page
data-last : (plan : Plan) (t : Table) (last : Option Record) → IsShape (shape_of plan DataRing) → 0 < t.pending → IsLast t last → IsLast (after_seal plan DataRing t) last
data-last plan t last ok some h =
    let shape = shape_of plan DataRing in
    let gone = sum (given_up shape t.pending t.rows) in
    let few = few-gone shape t.pending t.rows ok in
    let rows = rows-sealed shape t.pending t.rows in
    let c = h.counted in
    let len = length-map t.entries (λ (e : Entry). e.kept) in
    let left = length-drop gone t.entries in
    record {
      last_is = ap (last_or None) (map-drop gone t.entries) ∙ (last-drop None gone (records_in t) (omega (arith, few, c, len, some)) ∙ h.last_is);
      counted = omega (arith, rows, c, left, few);
    }

flush-by : (plan : Plan) (t : Table) (z a b : Bool) (last : Option Record) → IsShape (shape_of plan DataRing) → (z ≡ false → 0 < t.pending) → IsLast t last → IsLast (after_seals plan (seals_by z a b) t) last
flush-by plan t true a b last ok some h = h
flush-by plan t false true true last ok some h = data-last plan (after_seal plan VarRing (after_seal plan IndexRing t)) last ok (some refl) (record { last_is = h.last_is; counted = h.counted })
flush-by plan t false true false last ok some h = data-last plan (after_seal plan IndexRing t) last ok (some refl) (record { last_is = h.last_is; counted = h.counted })
flush-by plan t false false true last ok some h = data-last plan (after_seal plan VarRing t) last ok (some refl) (record { last_is = h.last_is; counted = h.counted })
flush-by plan t false false false last ok some h = data-last plan t last ok (some refl) h

flush-last : (plan : Plan) (t : Table) (last : Option Record) → IsShape (shape_of plan DataRing) → IsLast t last → IsLast (flushed plan t) last
flush-last plan t last ok h = flush-by plan t (t.pending == 0) (has_index plan && (length t.waiting == entries_per_page plan)) (nat_lt 0 (fill t)) last ok (some_from t.pending) h

-- ---- puts

-- the seals of other rings than the data ring
abbrev pub IsOtherRing : RingName → Type 0
IsOtherRing DataRing = ⊥
IsOtherRing IndexRing = Unit {0}
IsOtherRing VarRing = Unit {0}
IsOtherRing LogRing = Unit {0}

join-rings : (k : ℕ) (log : Bool) → AllByRecursion IsOtherRing (replicate k VarRing ++ cond log (LogRing ∷ []) [])
join-rings zero true = (tt, tt)
join-rings zero false = tt
join-rings (suc k) log = (tt, join-rings k log)

-- those of a record that has joined
pub joined-rings : (plan : Plan) (t : Table) → AllByRecursion IsOtherRing (join_seals plan t)
joined-rings plan t = join-rings ((fill t - 1) / content_per_page plan) (has_log plan)

other-last : (plan : Plan) (ring : RingName) (t : Table) (last : Option Record) → IsOtherRing ring → IsLast t last → IsLast (after_seal plan ring t) last
other-last plan DataRing t last o h = absurd o
other-last plan IndexRing t last o h = record { last_is = h.last_is; counted = h.counted }
other-last plan VarRing t last o h = record { last_is = h.last_is; counted = h.counted }
other-last plan LogRing t last o h = record { last_is = h.last_is; counted = h.counted }

others-last : (plan : Plan) (rings : List RingName) (t : Table) (last : Option Record) → AllByRecursion IsOtherRing rings → IsLast t last → IsLast (after_seals plan rings t) last
others-last plan [] t last o h = h
others-last plan (ring ∷ rings) t last o h = others-last plan rings (after_seal plan ring t) last o.1 (other-last plan ring t last o.0 h)

room-last : (plan : Plan) (t : Table) (last : Option Record) → IsShape (shape_of plan DataRing) → IsLast t last → IsLast (with_room plan t) last
room-last plan t last ok h = by_full (t.pending == rows_per_page plan)
  where
    by_full : (full : Bool) → IsLast (after_seals plan (cond full (table_seals plan t) []) t) last
    by_full true = flush-last plan t last ok h
    by_full false = h

put-last : (plan : Plan) (item : Record) (t : Table) → IsShape (shape_of plan DataRing) → IsCounted t → IsLast (put_record plan item t) (Some item)
put-last plan item t ok c =
    let room = room-last plan t (last_or None (records_in t)) ok (record { last_is = refl; counted = c }) in
    let before = with_room plan t in
    let counted = room.counted in
    let new : Entry = record { kept = item; page = start_page plan (blob_len item) before; offset = start_offset plan (blob_len item) before } in
    others-last plan (join_seals plan (put_joined plan item t)) (put_joined plan item t) (Some item) (joined-rings plan (put_joined plan item t)) (record {
      last_is = ap (last_or None) (map-append before.entries (new ∷ [])) ∙ last_or-append None (records_in before) (item ∷ []);
      counted = (let l = length-append before.entries (new ∷ []) in omega (arith, counted, l));
    })

puts-last : (plan : Plan) (given : List Record) (t : Table) → IsShape (shape_of plan DataRing) → IsCounted t → IsLast (put_all plan given t) (last_or None (records_in t ++ given))
puts-last plan [] t ok c = record { last_is = sym (last_or-append None (records_in t) []); counted = c }
puts-last plan (item ∷ given) t ok c =
    let put = put-last plan item t ok c in
    let rest = puts-last plan given (put_record plan item t) ok put.counted in
    record {
      last_is = rest.last_is ∙ (last_or-append None (records_in (put_record plan item t)) given ∙ (ap (λ (o : Option Record). last_or o given) put.last_is ∙ sym (last_or-append None (records_in t) (item ∷ given))));
      counted = rest.counted;
    }

-- ---- the laws

pub leave-parts : ShipsLeaveParts
leave-parts plan count source copy after result ever s c a (may, ships) =
    let keeps = ships-keep plan (shipped_records count source copy) copy result after ships in
    (ships-parts (records_in source) (records_in copy) (records_in after) ever count s c a may keeps.0, ships-parts (records_in source) (records_in copy) (records_in (lose after)) ever count s c a may keeps.1)

pub reach-the-end : ShipsReachTheEnd
reach-the-end plan count n source copy after ever table ok s c a goes (n_is, (all, put, after_is)) few =
    ap (λ (t : Table). last_or None (records_in t)) after_is
    ∙ ((flush-last plan all _ ok (record { last_is = refl; counted = puts.counted })).last_is
    ∙ (puts.last_is ∙ (ap (λ (rs : List Record). last_or None (records_in copy ++ rs)) given_is ∙ ships-all (records_in source) (records_in copy) ever s c a goes)))
  where
    left : List Record
    left = to_ship (records_in source) (records_in copy)

    given : List Record
    given = take count left

    all_left : given ≡ left
    all_left = take_all count left (let l = length-take count left in omega (arith, l, few, n_is))

    given_is : take n given ≡ left
    given_is = take_all n given (omega (arith, n_is)) ∙ all_left

    puts : IsLast all (last_or None (records_in copy ++ take n given))
    puts = subst (λ (t : Table). IsLast t (last_or None (records_in copy ++ take n given))) (sym put.after_is) (puts-last plan (take n given) copy ok table.counted)
