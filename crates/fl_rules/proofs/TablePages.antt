-- Data pages in the words of a table.
use Rattle.std.proofs.Common.{◌≡◌, ℕ, ◌-◌, ◌/◌, ◌%◌, ◌^◌, ◌<◌, ◌≤◌, ◌==◌, cond, Bool, IsTrue, ◌↔◌, pos, Option, Some, None, option_map, unwrap_or, slice_get, List, [], ◌∷◌, length, map, fold, replicate, bit_or, refl, sym, subst, ap, ◌∙◌, arith, lit≤}
use Rattle.std.specs.List.{AllByRecursion}
use Rattle.std.proofs.Math.Nat.{mod-lt, mod-eq_of_lt, one-le-pow, pow-le-pow_right}
use Rattle.std.proofs.lemmas.Bool.{eqb-true, false_from_ne_true, eq-eqb}
use Rattle.std.proofs.lemmas.List.{length-replicate, length-map}
use Rattle.fl_base.specs.declared.types.BlobRef.{BlobRef}
use Rattle.fl_bitmap.specs.Bucket.{HasBuckets, bitmap_in}
use Rattle.fl_bitmap.specs.Widths.{is_bits}
use Rattle.fl_bitmap.specs.declared.buckets.Buckets.{Buckets}
use Rattle.fl_index.proofs.Bytes.{number_of-low}
use Rattle.fl_index.proofs.WaitingEntries.{bitmap-small}
use Rattle.fl_model.specs.Layout.{bucket_of, bitmap_of, rows_body, data_body, committed}
use Rattle.fl_model.specs.Record.{Plan, RowLayout, row_layout, layout_len, rows_per_page}
use Rattle.fl_model.specs.Row.{Row, IsStorable, stored_row, le, number_of}
use Rattle.fl_model.specs.Table.{Entry}
use Rattle.fl_bitmap.proofs.StoredBits.{bits-same}
use Rattle.fl_page.specs.Header.{page_bitmap}
use Rattle.fl_rules.specs.DataPage.{IsDataPage, HasForm, HoldsEntries, are_plain}

-- as many bytes are read of a blob as its row says
abbrev pub ReadsAll : (BlobRef → List ℕ) → Type 0
ReadsAll read = (at : BlobRef) → length (read at) ≡ at.length

-- an entry with this row, whose blob has the bytes that are read of it
abbrev pub entry_by : (BlobRef → List ℕ) → Row → Entry
entry_by read row = record {
  kept = record { key = row.key; values = row.values; blob = option_map read row.blob };
  page = unwrap_or (option_map (λ blob. blob.page) row.blob) 0;
  offset = unwrap_or (option_map (λ blob. blob.offset) row.blob) 0;
}

-- a blob of any bytes
abbrev pub zeros : BlobRef → List ℕ
zeros at = replicate at.length 0

pub zeros-all : ReadsAll zeros
zeros-all at = length-replicate {A = ℕ} at.length 0

module _ (read : BlobRef → List ℕ) (all : ReadsAll read) where
  stored_back : (row : Row) → stored_row (entry_by read row) ≡ row
  stored_back row = with_blob row.blob
    where
      with_blob : (blob : Option BlobRef) → stored_row (entry_by read (record { key = row.key; values = row.values; blob = blob })) ≡ record { key = row.key; values = row.values; blob = blob }
      with_blob None = refl
      with_blob (Some blob) = ap (λ (n : ℕ). record { key = row.key; values = row.values; blob = Some (record { page = blob.page; offset = blob.offset; length = n }) }) (all blob)

  pub stored_rows : (rows : List Row) → map stored_row (map (entry_by read) rows) ≡ rows
  stored_rows [] = refl
  stored_rows (row ∷ rows) = ap (λ (r : Row). r ∷ map stored_row (map (entry_by read) rows)) (stored_back row) ∙ ap (λ (l : List Row). row ∷ l) (stored_rows rows)

-- ---- the bitmap

some-bits : (bits : ℕ) → IsTrue (is_bits bits) → bits ≡ 0 → ⊥
some-bits bits is none = cc (sym (ap is_bits none) ∙ is)

bitmap-same : (plan : Plan) (buckets : Option Buckets) (entries : List Entry) → HasBuckets plan buckets → bitmap_of plan entries ≡ bitmap_in buckets (map stored_row entries)
bitmap-same plan None entries none =
    ap (λ b. cond b 0 (fold (λ bits (entry : Entry). bit_or bits (2 ^ bucket_of plan (unwrap_or (slice_get entry.kept.values 0) (pos 0)))) 0 entries)) (eq-eqb plan.bits 0 none)
bitmap-same plan (Some buckets) entries same =
    ap (λ b. cond b 0 (fold (λ bits (entry : Entry). bit_or bits (2 ^ bucket_of plan (unwrap_or (slice_get entry.kept.values 0) (pos 0)))) 0 entries))
    (false_from_ne_true (plan.bits == 0) (λ e. some-bits buckets.bits buckets.some_bits (sym same.bits ∙ eqb-true plan.bits 0 e)))
    ∙ bits-same plan buckets 0 entries same

-- the bitmap in the header of a data page is that of its rows
pub header-is : (plan : Plan) (number : ℕ) (entries : List Entry) (page : List ℕ) → IsTrue (is_bits plan.bits) → plan.bits / 8 ≤ 8 → page ≡ committed (data_body plan number entries) → page_bitmap page ≡ bitmap_of plan entries
header-is plan number entries page bits few is =
    let bitmap = bitmap_of plan entries in
    let same : bitmap_of plan entries % 256 ^ (plan.bits / 8) ≡ bitmap_of plan entries = bitmap-small plan entries bits in
    let some : 0 < 256 ^ (plan.bits / 8) = omega (arith, one-le-pow (plan.bits / 8) 256 (omega arith)) in
    let below : bitmap_of plan entries < 256 ^ (plan.bits / 8) = subst (λ (n : ℕ). n < 256 ^ (plan.bits / 8)) same (mod-lt (bitmap_of plan entries) some) in
    let power : 256 ^ (plan.bits / 8) ≤ 256 ^ 8 = pow-le-pow_right {n = 256} (lit≤ tt) few in
    let bytes : page_bitmap page ≡ number_of (le 8 (bitmap_of plan entries)) = ap page_bitmap is ∙ refl in
    bytes ∙ number_of-low 8 bitmap ∙ mod-eq_of_lt (omega (arith, below, power))

-- ---- pages

module _ (plan : Plan) (layout : RowLayout) (buckets : Option Buckets) (number : ℕ) (page : List ℕ) (form : HasForm plan layout buckets (length page)) where
  pub body-same : (entries : List Entry) (rows : List Row) → map stored_row entries ≡ rows
      → committed (rows_body (length page - 8) layout number (bitmap_in buckets rows) rows) ≡ committed (data_body plan number entries)
  body-same entries rows same =
      ap (λ (k : ℕ). committed (rows_body (k - 8) layout number (bitmap_in buckets rows) rows)) (sym form.size_is)
      ∙ ap (λ (l : RowLayout). committed (rows_body (plan.geometry.page - 8) l number (bitmap_in buckets rows) rows)) (sym form.layout_is)
      ∙ ap (λ (rs : List Row). committed (rows_body (plan.geometry.page - 8) (row_layout plan) number (bitmap_in buckets rs) rs)) (sym same)
      ∙ ap (λ (b : ℕ). committed (rows_body (plan.geometry.page - 8) (row_layout plan) number b (map stored_row entries))) (sym (bitmap-same plan buckets entries form.buckets_are))

  pub room-same : rows_per_page plan ≡ (length page - 24) / layout_len layout
  room-same = ap (λ (k : ℕ). (k - 24) / layout_len (row_layout plan)) form.size_is ∙ ap (λ (l : RowLayout). (length page - 24) / layout_len l) form.layout_is

  pub holds_entries : IsDataPage layout buckets number page → HoldsEntries plan number page
  holds_entries is =
      let same = stored_rows zeros zeros-all is.rows in
      let many : length (map (entry_by zeros) is.rows) ≡ length is.rows = length-map is.rows (entry_by zeros) in
      record {
        entries = map (entry_by zeros) is.rows;
        some = omega (arith, is.some, many);
        few = rw (many, room-same) is.few;
        storable = subst (λ (l : RowLayout). AllByRecursion (IsStorable l) (map stored_row (map (entry_by zeros) is.rows))) (sym form.layout_is) (subst (AllByRecursion (IsStorable layout)) (sym same) is.storable);
        plain = ap are_plain same ∙ is.plain;
        bytes = is.bytes ∙ body-same (map (entry_by zeros) is.rows) is.rows same;
      }

  pub is_data_page : HoldsEntries plan number page → IsDataPage layout buckets number page
  is_data_page is =
      let many : length (map stored_row is.entries) ≡ length is.entries = length-map is.entries stored_row in
      record {
        rows = map stored_row is.entries;
        some = omega (arith, is.some, many);
        few = rw (many, sym room-same) is.few;
        storable = subst (λ (l : RowLayout). AllByRecursion (IsStorable l) (map stored_row is.entries)) form.layout_is is.storable;
        plain = is.plain;
        bytes = is.bytes ∙ sym (body-same is.entries (map stored_row is.entries) refl);
      }

-- a test of the one is a test of the other
pub as_entries : (plan : Plan) (layout : RowLayout) (buckets : Option Buckets) (number : ℕ) (page : List ℕ) {b : Bool} → HasForm plan layout buckets (length page) → (IsTrue b ↔ IsDataPage layout buckets number page) → IsTrue b ↔ HoldsEntries plan number page
as_entries plan layout buckets number page form exact = (
  λ so. holds_entries plan layout buckets number page form (exact.0 so),
  λ is. exact.1 (is_data_page plan layout buckets number page form is),
)
