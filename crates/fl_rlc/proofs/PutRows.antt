-- The pending records of a table after a put, before that of its log.
use Rattle.std.proofs.Common.{◌≡◌, ℕ, zero, suc, ◌+◌, ◌-◌, ◌/◌, ◌≤◌, ◌<◌, Bool, true, false, cond, ◌==◌, nat_lt, ◌&&◌, Some, List, [], ◌∷◌, ◌++◌, length, drop, replicate, refl, sym, ◌∙◌, ap, arith, length-drop}
use Rattle.std.proofs.lemmas.Bool.{eqb-true}
use Rattle.std.proofs.lemmas.List.{append-nil}
use Rattle.std.specs.List.{AllByRecursion, slice_get}
use Rattle.std.proofs.Math.Seq.{drop-length}
use Rattle.fl_model.specs.Facts.{FitsPlan, IsLogPage}
use Rattle.fl_model.proofs.Lists.{each-drop, slice_get-drop}
use Rattle.fl_model.specs.Record.{Record, Plan, rows_per_page, has_index, entries_per_page, content_per_page}
use Rattle.fl_model.specs.Table.{Table, Entry, RingName, DataRing, IndexRing, VarRing, LogRing, after_seal, after_seals, table_seals, with_room, put_joined, put_record, fill, fill_seals, pending_entries, start_page, start_offset, blob_len}
use Rattle.fl_parts.proofs.JoinedEntries.{pending-more}

-- the entry of a record
abbrev pub entry_of : Plan → Record → Table → Entry
entry_of plan item table = record { kept = item; page = start_page plan (blob_len item) table; offset = start_offset plan (blob_len item) table }

pub none-left : (t : Table) → t.pending ≡ 0 → pending_entries t ≡ []
none-left t e = ap (λ n. drop n t.entries) (let k : length t.entries - t.pending ≡ length t.entries = omega (arith, e) in k) ∙ drop-length t.entries

-- a table that is sealed has nothing pending
pub sealed-none : (plan : Plan) (t : Table) (z a b : Bool) → (t.pending == 0) ≡ z →
    (after_seals plan (cond z [] ((cond a (IndexRing ∷ []) []) ++ (cond b (VarRing ∷ []) []) ++ DataRing ∷ [])) t).pending ≡ 0
sealed-none plan t true a b e = eqb-true t.pending 0 e
sealed-none plan t false true true e = refl
sealed-none plan t false true false e = refl
sealed-none plan t false false true e = refl
sealed-none plan t false false false e = refl

-- the pending records after room was made
abbrev pub rows_left : Plan → Table → List Entry
rows_left plan t = cond (t.pending == rows_per_page plan) [] (pending_entries t)

pub room-rows : (plan : Plan) (t : Table) → pending_entries (with_room plan t) ≡ cond (t.pending == rows_per_page plan) [] (pending_entries t)
room-rows plan t = by-full (t.pending == rows_per_page plan)
  where
    by-full : (b : Bool) → pending_entries (after_seals plan (cond b (table_seals plan t) []) t) ≡ cond b [] (pending_entries t)
    by-full true = none-left (after_seals plan (table_seals plan t) t) (sealed-none plan t (t.pending == 0) (has_index plan && (length t.waiting == entries_per_page plan)) (nat_lt 0 (fill t)) refl)
    by-full false = refl

room-few : (plan : Plan) (t : Table) → t.pending ≤ length t.entries → (with_room plan t).pending ≤ length (with_room plan t).entries
room-few plan t few = by-full (t.pending == rows_per_page plan)
  where
    by-full : (b : Bool) → (after_seals plan (cond b (table_seals plan t) []) t).pending ≤ length (after_seals plan (cond b (table_seals plan t) []) t).entries
    by-full true =
        let none = sealed-none plan t (t.pending == 0) (has_index plan && (length t.waiting == entries_per_page plan)) (nat_lt 0 (fill t)) refl in
        omega (arith, none)
    by-full false = few

-- seals of variable data leave the entries
vars-same : (plan : Plan) (n : ℕ) (t : Table) → pending_entries (after_seals plan (replicate n VarRing) t) ≡ pending_entries t
vars-same plan zero t = refl
vars-same plan (suc n) t = vars-same plan n (after_seal plan VarRing t)

-- a record joined
pub joined-rows : (plan : Plan) (item : Record) (t : Table) → t.pending ≤ length t.entries → pending_entries (put_joined plan item t) ≡ rows_left plan t ++ entry_of plan item (with_room plan t) ∷ []
joined-rows plan item t few =
    pending-more (with_room plan t) (put_joined plan item t) (entry_of plan item (with_room plan t)) refl refl (room-few plan t few)
    ∙ ap (λ (es : List Entry). es ++ entry_of plan item (with_room plan t) ∷ []) (room-rows plan t)

pub put-rows : (plan : Plan) (item : Record) (t : Table) → plan.log_blocks ≡ 0 → t.pending ≤ length t.entries → pending_entries (put_record plan item t) ≡ rows_left plan t ++ entry_of plan item (with_room plan t) ∷ []
put-rows plan item t none few =
    ap (λ (n : ℕ). pending_entries (after_seals plan (fill_seals plan (put_joined plan item t) ++ cond (nat_lt 0 n) (LogRing ∷ []) []) (put_joined plan item t))) none
    ∙ (ap (λ (rings : List RingName). pending_entries (after_seals plan rings (put_joined plan item t))) (append-nil (fill_seals plan (put_joined plan item t)))
    ∙ (vars-same plan ((fill (put_joined plan item t) - 1) / content_per_page plan) (put_joined plan item t) ∙ joined-rows plan item t few))
  where
    joined : Table
    joined = put_joined plan item t

-- the pending records are those of one page
pub pending-page : (plan : Plan) (t : Table) (fit : AllByRecursion (FitsPlan plan) t.entries)
    (ascending : (i j : ℕ) (a b : Entry) → i < j → slice_get t.entries i ≡ Some a → slice_get t.entries j ≡ Some b → a.kept.key < b.kept.key) → IsLogPage plan (pending_entries t)
pending-page plan t fit ascending = record {
  fit = each-drop (FitsPlan plan) (length t.entries - t.pending) t.entries fit;
  ascending = λ i j a b lt e k.
      let n = length t.entries - t.pending in
      ascending (length t.entries - t.pending + i) (length t.entries - t.pending + j) a b (omega (arith, lt)) (sym (slice_get-drop n t.entries i) ∙ e) (sym (slice_get-drop n t.entries j) ∙ k);
}

pub pending-many : (t : Table) → t.pending ≤ length t.entries → length (pending_entries t) ≡ t.pending
pending-many t few = let k = length-drop (length t.entries - t.pending) t.entries in omega (arith, k, few)
