-- The entry that a record becomes, and the table of the model that it joins.
use Rattle.std.proofs.Common.{◌≡◌, ℕ, ◌+◌, ◌-◌, ◌/◌, ◌^◌, ◌<◌, ◌≤◌, Bool, true, false, cond, ◌||◌, ◌==◌, Option, Some, None, IfSome, unwrap_or, List, [], ◌∷◌, ◌++◌, length, refl, ◌∙◌, ap, arith, length-append, eq-eqb, drop, get_or, fold, sym, subst, inl, inr, pos, bit_or}
use Rattle.std.specs.Prelude.{option_map}
use Rattle.std.specs.List.{last_or, sum, slice_get}
use Rattle.fl_base.specs.declared.types.BlobRef.{BlobRef}
use Rattle.fl_model.specs.Content.{ContentPage}
use Rattle.fl_model.specs.Facts.{FitsPlan, BlobFits}
use Rattle.fl_model.specs.Record.{Record, Plan, rows_per_page, content_per_page}
use Rattle.fl_model.specs.Ring.{Ring, IsShape}
use Rattle.fl_model.specs.Row.{stored_row}
use Rattle.std.proofs.Math.Nat.{div-le_self}
use Rattle.std.proofs.lemmas.List.{length-replicate, drop-append-le}
use Rattle.fl_model.specs.Table.{Table, Entry, RingName, VarRing, fill, blob_len, fill_seals, start_page, start_offset, with_record, lose, spent_from, DataRing, shape_of, pending_entries, last_entry, after_seal, after_seals, make_room_seals}
use Rattle.fl_model.proofs.Kept.{kept-record}
use Rattle.std.proofs.lemmas.Bool.{eqb-true, cases_lt, false≢true}
use Rattle.std.proofs.lemmas.List.Sums.{fold_push}
use Rattle.std.proofs.lemmas.Option.{unwrap_or-slice_get}
use Rattle.fl_bitmap.specs.Bucket.{bucket_in, HasBuckets}
use Rattle.fl_bitmap.specs.Widths.{is_bits}
use Rattle.fl_bitmap.specs.declared.buckets.Buckets.{Buckets}
use Rattle.fl_model.specs.Layout.{bitmap_of, bucket_of}
use Rattle.fl_model.proofs.Lists.{last_or-push}
use Rattle.fl_model.proofs.Sealed.{sealed-next}
use Rattle.fl_model.proofs.Among.{after_seals-append}
use Rattle.fl_model.proofs.TableSeals.{full-room_seals, room-room_seals, written-push}
use Rattle.fl_model.proofs.Accepted.{IsAccepted}
use Rattle.fl_parts.specs.Accepting.{IsAcceptedBy}
use Rattle.fl_parts.specs.Blobs.{reference_of, rest_seals}
use Rattle.fl_parts.proofs.BlobTables.{IsBlobbed}
use Rattle.fl_parts.proofs.ListsStay.{tell-record}
use Rattle.fl_parts.proofs.Plain.{IsPlainTable, some-table_seals}
use Rattle.fl_parts.specs.Bitmaps.{bitmap_seals}
use Rattle.fl_parts.proofs.BlobSteps.{after-var, rest-var}
use Rattle.fl_parts.specs.Entries.{bitmap_with}
use Rattle.fl_parts.proofs.Memories.{last-sealed}
use Rattle.fl_parts.proofs.IndexAlone.{beside-bitmaps}

-- the entry that a record becomes
abbrev pub entry_of : Plan → Record → Table → Entry
entry_of plan item table = record { kept = item; page = start_page plan (blob_len item) table; offset = start_offset plan (blob_len item) table }

-- a table with one entry more and other variable data
abbrev pub joined_to : Table → Entry → Option Ring → List ContentPage → List ℕ → Table
joined_to table entry ring pages bytes = record table { entries = table.entries ++ entry ∷ []; pending = table.pending + 1; var = ring; var_pages = pages; buffered = bytes }

-- the facts of such a table
pub joined-facts : (plan : Plan) (table : Table) (entry : Entry) (ring : Option Ring) (pages : List ContentPage) (bytes : List ℕ) → IsPlainTable plan table → table.pending < rows_per_page plan → FitsPlan plan entry →
    ((last : Entry) → last_or None table.entries ≡ Some last → last.kept.key < entry.kept.key) → table.rows.next ≤ spent_from → IfSome table.index (λ r. r.next ≤ spent_from + 64) → IsBlobbed plan (joined_to table entry ring pages bytes) →
    IsPlainTable plan (joined_to table entry ring pages bytes)
joined-facts plan table entry ring pages bytes h room fits above left index blobs =
    let few : sum table.rows.counts ≤ length table.entries = omega (arith, h.kept.counted) in
    record {
      plain = h.plain;
      bare = h.bare;
      rows = h.rows;
      kept = kept-record plan table.entries table.rows.counts table.pending entry h.kept fits above;
      few_pending = omega (arith, room);
      index = record {
        has = h.index.has;
        ring = h.index.ring;
        counts = h.index.counts;
        each = h.index.each;
        fit = h.index.fit;
        firsts = h.index.firsts;
        waiting = h.index.waiting;
        listed = h.index.listed;
        tell = λ k page e. tell-record plan table (joined_to table entry ring pages bytes) (entry ∷ []) page.first page.entries few refl refl (h.index.tell k page e);
        wait = tell-record plan table (joined_to table entry ring pages bytes) (entry ∷ []) (table.rows.next - length table.waiting) table.waiting few refl refl h.index.wait;
        number = h.index.number;
        number_pending = λ p. index;
        number_listed = h.index.number_listed;
      };
      blobs = blobs;
      number = h.number;
      number_pending = λ some. left;
    }

-- what is in memory alone is lost with it
pub joined-lost : (plan : Plan) (item : Record) (table : Table) → lose (with_record plan item table) ≡ lose table
joined-lost plan item table = ap (λ (es : List Entry). record (lose table) { entries = es }) (written-push table (entry_of plan item table))

-- few pages are sealed for a blob
pub fill-few : (plan : Plan) (item : Record) (table : Table) → length (fill_seals plan (with_record plan item table)) ≤ fill table + blob_len item
fill-few plan item table =
    let joined = with_record plan item table in
    let k = div-le_self (fill joined - 1) (content_per_page plan) in
    let long : fill joined ≡ fill table + blob_len item = length-append table.buffered (unwrap_or item.blob []) ∙ ap (λ n. fill table + n) (by_blob item.blob) in
    omega (arith, length-replicate {A = RingName} ((fill joined - 1) / content_per_page plan) VarRing, k, long)
  where
    by_blob : (o : Option (List ℕ)) → length (unwrap_or o []) ≡ unwrap_or (option_map (λ (xs : List ℕ). length xs) o) 0
    by_blob None = refl
    by_blob (Some bytes) = refl

-- the entry fits the plan
pub entry-fits : (plan : Plan) (table : Table) (item : Record) → IsAcceptedBy plan table item.key item.values item.blob → fill table ≤ content_per_page plan → content_per_page plan < 2 ^ 16 → plan.blob_limit < 2 ^ 32 → FitsPlan plan (entry_of plan item table)
entry-fits plan table item ok few wide limit = record { key = ok.fits; as_many = ok.as_many; values = ok.values_fit; blob = by_blob item.blob refl }
  where
    offset : (len : ℕ) → start_offset plan len table < 2 ^ 16
    offset len = by_len ((len == 0) || (fill table == content_per_page plan))
      where
        by_len : (b : Bool) → cond b 0 (fill table) < 2 ^ 16
        by_len true = omega arith
        by_len false = omega (arith, few, wide)

    by_blob : (o : Option (List ℕ)) → item.blob ≡ o → BlobFits plan (entry_of plan item table) o
    by_blob None e =
        let len : blob_len item ≡ 0 = rw e refl in (ap (λ n. start_page plan n table) len, ap (λ n. start_offset plan n table) len)
    by_blob (Some bytes) e =
        let h = ok.blob_fits bytes e in
        let len : blob_len item ≡ length bytes = ap (λ (o : Option (List ℕ)). unwrap_or (option_map (λ (xs : List ℕ). length xs) o) 0) e in
        (h.0, omega (arith, h.1, limit), offset (blob_len item), λ none. (ap (λ n. start_page plan n table) (len ∙ none), ap (λ n. start_offset plan n table) (len ∙ none)))

-- the row of the entry refers to the place of its blob
pub entry-row : (plan : Plan) (item : Record) (table : Table) → stored_row (entry_of plan item table) ≡ record { key = item.key; values = item.values; blob = reference_of plan item table }
entry-row plan item table = ap (λ (o : Option BlobRef). record { key = item.key; values = item.values; blob = o }) (by_blob item.blob refl)
  where
    here : List ℕ → BlobRef
    here bytes = record { page = start_page plan (blob_len item) table; offset = start_offset plan (blob_len item) table; length = length bytes }

    there : List ℕ → BlobRef
    there bytes = record { page = start_page plan (length bytes) table; offset = start_offset plan (length bytes) table; length = length bytes }

    by_blob : (o : Option (List ℕ)) → item.blob ≡ o → option_map here o ≡ option_map there o
    by_blob None e = refl
    by_blob (Some bytes) e =
        let len : blob_len item ≡ length bytes = ap (λ (o : Option (List ℕ)). unwrap_or (option_map (λ (xs : List ℕ). length xs) o) 0) e in
        let place : ℕ → Option BlobRef = λ n. Some (record { page = start_page plan n table; offset = start_offset plan n table; length = length bytes }) in
        ap place len

-- the bitmap of one more row
pub bits-more : (plan : Plan) (buckets : Option Buckets) (entries : List Entry) (entry : Entry) → HasBuckets plan buckets →
    bitmap_with buckets (bitmap_of plan entries) (get_or entry.kept.values 0 (pos 0)) ≡ bitmap_of plan (entries ++ entry ∷ [])
bits-more plan None entries entry h = rw h refl
bits-more plan (Some buckets) entries entry h =
    some (plan.bits == 0) (not_zero buckets.bits buckets.some_bits h.bits)
  where
    not_zero : (bits : ℕ) → is_bits bits ≡ true → plan.bits ≡ bits → (plan.bits == 0) ≡ false
    not_zero bits t e = by_test (plan.bits == 0) refl
      where
        three : (n : ℕ) → n ≡ 0 → is_bits n ≡ false
        three n z = rw z refl

        by_test : (b : Bool) → (plan.bits == 0) ≡ b → b ≡ false
        by_test true k = absurd (false≢true (sym (three bits (sym e ∙ eqb-true plan.bits 0 k)) ∙ t))
        by_test false k = refl

    value : get_or entry.kept.values 0 (pos 0) ≡ unwrap_or (slice_get entry.kept.values 0) (pos 0)
    value = sym (unwrap_or-slice_get entry.kept.values 0 (pos 0))

    same : bucket_in buckets (get_or entry.kept.values 0 (pos 0)) ≡ bucket_of plan (unwrap_or (slice_get entry.kept.values 0) (pos 0))
    same = rw (value, h.bits, h.base, h.width) refl

    step : ℕ → Entry → ℕ
    step bits e = bit_or bits (2 ^ bucket_of plan (unwrap_or (slice_get e.kept.values 0) (pos 0)))

    some : (b : Bool) → b ≡ false → bit_or (cond b 0 (fold (λ bits e. bit_or bits (2 ^ bucket_of plan (unwrap_or (slice_get e.kept.values 0) (pos 0)))) 0 entries)) (2 ^ bucket_in buckets (get_or entry.kept.values 0 (pos 0)))
        ≡ cond b 0 (fold (λ bits e. bit_or bits (2 ^ bucket_of plan (unwrap_or (slice_get e.kept.values 0) (pos 0)))) 0 (entries ++ entry ∷ []))
    some true e = cc
    some false e =
        ap (λ n. bit_or (fold (λ bits e. bit_or bits (2 ^ bucket_of plan (unwrap_or (slice_get e.kept.values 0) (pos 0)))) 0 entries) (2 ^ n)) same
        ∙ sym (fold_push (λ (bits : ℕ) (e : Entry). bit_or bits (2 ^ bucket_of plan (unwrap_or (slice_get e.kept.values 0) (pos 0)))) 0 entries entry)

-- the last and the pending records, with one more
pub pending-more : (table after : Table) (entry : Entry) → after.entries ≡ table.entries ++ entry ∷ [] → after.pending ≡ table.pending + 1 → table.pending ≤ length table.entries → pending_entries after ≡ pending_entries table ++ entry ∷ []
pending-more table after entry entries pending few =
    let len = length-append table.entries (entry ∷ []) in
    let cut : length (table.entries ++ entry ∷ []) - (table.pending + 1) ≡ length table.entries - table.pending = omega (arith, len, few) in
    ap (λ (es : List Entry). drop (length es - after.pending) es) entries
    ∙ (ap (λ n. drop (length (table.entries ++ entry ∷ []) - n) (table.entries ++ entry ∷ [])) pending
    ∙ (ap (λ n. drop n (table.entries ++ entry ∷ [])) cut ∙ drop-append-le (length table.entries - table.pending) table.entries (entry ∷ []) (omega arith)))

pub last-more : (table after : Table) (entry : Entry) → after.entries ≡ table.entries ++ entry ∷ [] → last_entry after ≡ Some entry
last-more table after entry entries = ap (λ (es : List Entry). last_or None es) entries ∙ last_or-push None table.entries entry

-- the last record and the number of a table in which room was made
pub room-accepts : (plan : Plan) (table : Table) (item : Record) → IsShape (shape_of plan DataRing) → IsPlainTable plan table → 1 ≤ rows_per_page plan → IsAccepted plan table item →
    let before = after_seals plan (make_room_seals plan table) table in (before.pending < rows_per_page plan) → IsAcceptedBy plan before item.key item.values item.blob
room-accepts plan table item shape facts some ok room =
    by_full (table.pending == rows_per_page plan) refl room
  where
    full : table.pending ≡ rows_per_page plan → make_room_seals plan table ≡ bitmap_seals plan table ++ (rest_seals (after_seals plan (bitmap_seals plan table) table) ++ DataRing ∷ [])
    full e = full-room_seals plan table e ∙ some-table_seals plan table (λ none. absurd (omega (arith, none, e, some)))

    by_full : (b : Bool) → (table.pending == rows_per_page plan) ≡ b → (after_seals plan (make_room_seals plan table) table).pending < rows_per_page plan →
        IsAcceptedBy plan (after_seals plan (make_room_seals plan table) table) item.key item.values item.blob
    by_full true e room =
        let is : table.pending ≡ rows_per_page plan = eqb-true table.pending (rows_per_page plan) e in
        let listed = after_seals plan (bitmap_seals plan table) table in
        let mid = after_seals plan (rest_seals listed) listed in
        let beside = beside-bitmaps plan table in
        let var = (after-var plan (rest_seals listed) listed (rest-var listed)).3 in
        let entries : mid.entries ≡ table.entries = ap (λ (x : Table). x.entries) var ∙ ap (λ (x : Table). x.entries) beside.3 in
        let rows : mid.rows ≡ table.rows = ap (λ (x : Table). x.rows) var ∙ ap (λ (x : Table). x.rows) beside.3 in
        let pending : mid.pending ≡ table.pending = ap (λ (x : Table). x.pending) var ∙ ap (λ (x : Table). x.pending) beside.3 in
        let counted : sum mid.rows.counts + mid.pending ≡ length mid.entries = omega (arith, ap (λ (r : Ring). sum r.counts) rows, pending, ap length entries, facts.kept.counted) in
        let next : (after_seal plan DataRing mid).rows.next ≡ mid.rows.next + 1 = sealed-next (shape_of plan DataRing) mid.pending mid.rows in
        let last = last-sealed plan mid shape counted (omega (arith, is, some, pending)) in
        let all : after_seals plan (make_room_seals plan table) table ≡ after_seal plan DataRing mid =
        ap (λ (rs : List RingName). after_seals plan rs table) (full is)
        ∙ (after_seals-append plan (bitmap_seals plan table) (rest_seals listed ++ DataRing ∷ []) table ∙ after_seals-append plan (rest_seals listed) (DataRing ∷ []) listed) in
        subst (λ (x : Table). IsAcceptedBy plan x item.key item.values item.blob) (sym all) (record {
          above = λ e' k. ok.above e' (ap (λ (es : List Entry). last_or None es) (sym entries) ∙ (sym last ∙ k));
          fits = ok.key;
          as_many = ok.as_many;
          values_fit = ok.values;
          blob_fits = ok.blob;
          room = omega (arith, some);
          left = omega (arith, next, ap (λ (r : Ring). r.next) rows, ok.left);
        })
    by_full false e room =
        let less : table.pending < rows_per_page plan = elim (cases_lt table.pending (rows_per_page plan)) [ inl lt ↦ lt | inr more ↦ absurd (false≢true (sym e ∙ eq-eqb table.pending (rows_per_page plan) (omega (arith, more, facts.few_pending)))) ] in
        subst (λ (rs : List RingName). IsAcceptedBy plan (after_seals plan rs table) item.key item.values item.blob) (sym (room-room_seals plan table (λ is. absurd (omega (arith, is, less)))))
        (record { above = ok.above; fits = ok.key; as_many = ok.as_many; values_fit = ok.values; blob_fits = ok.blob; room = less; left = omega (arith, ok.left) })
