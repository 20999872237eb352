-- What was encoded is read again.
use Rattle.std.proofs.Common.{◌≡◌, ℕ, zero, suc, ◌+◌, ◌-◌, ◌*◌, ◌^◌, ◌<◌, ◌≤◌, Bool, true, false, ◌&&◌, ◌==◌, if◌then◌else◌, ℤ, pos, negsuc, Option, Some, None, IfSome, List, [], ◌∷◌, ◌++◌, length, take, drop, map, get_or, refl, sym, ap, ◌∙◌, arith, append_assoc, length-append}
use Rattle.std.proofs.lemmas.List.{take_at, drop_at}
use Rattle.std.proofs.lemmas.Bool.{eqb-true}
use Rattle.std.proofs.lemmas.Bool.Decides.{nat_tests}
use Rattle.std.proofs.lemmas.Int.{ints}
use Rattle.std.specs.Int.{bytes_low_first}
use Rattle.fl_base.specs.declared.types.BlobRef.{BlobRef}
use Rattle.fl_model.specs.Record.{RowLayout, columns_len, layout_len, fits, first_misfit}
use Rattle.fl_model.specs.Row.{Row, le, value_bytes, values_bytes, reference_bytes, bytes_of_row, FitsReference, FitsBytes, FitsRow, IsStorable, number_of, signed_number, value_in, values_in, reference_in, row_in}
use Rattle.fl_schema.specs.Types.{column_of}
use Rattle.fl_schema.specs.Form.{key_width, layout_with}
use Rattle.fl_schema.specs.declared.column.ColumnType.{ColumnType}
use Rattle.fl_schema.specs.declared.column.ColumnType.TheVariants.{U8, I8, U16, I16, U32, I32, I64}
use Rattle.fl_schema.specs.declared.schema.KeyWidth.{KeyWidth}
use Rattle.fl_schema.specs.declared.schema.KeyWidth.TheVariants.{Four, Eight}
use Rattle.fl_schema.proofs.Numbers.{length-le, number_of-le, length-value_bytes, length-reference_bytes}
use Rattle.fl_schema.proofs.Places.{columns_len-cons, misfit_parts}
use Rattle.fl_schema.proofs.References.{ten_255, all_255}

-- a value of one column
pub value_in-value_bytes : (of : ColumnType) (value : ℤ) → fits (column_of of) value ≡ true → value_in (column_of of) (value_bytes (column_of of) value) ≡ value
value_in-value_bytes U8 (pos n) h = ap pos (number_of-le 1 n (grind arith))
value_in-value_bytes U8 (negsuc n) h = absurd (cc h)
value_in-value_bytes U16 (pos n) h = ap pos (number_of-le 2 n (grind arith))
value_in-value_bytes U16 (negsuc n) h = absurd (cc h)
value_in-value_bytes U32 (pos n) h = ap pos (number_of-le 4 n (grind arith))
value_in-value_bytes U32 (negsuc n) h = absurd (cc h)
value_in-value_bytes I8 (pos n) h = ap (signed_number 1) (number_of-le 1 n (grind arith)) ∙ grind (arith, ints, nat_tests)
value_in-value_bytes I8 (negsuc n) h = ap (signed_number 1) (number_of-le 1 (255 - n) (grind arith)) ∙ grind (arith, ints, nat_tests)
value_in-value_bytes I16 (pos n) h = ap (signed_number 2) (number_of-le 2 n (grind arith)) ∙ grind (arith, ints, nat_tests)
value_in-value_bytes I16 (negsuc n) h = ap (signed_number 2) (number_of-le 2 (65535 - n) (grind arith)) ∙ grind (arith, ints, nat_tests)
value_in-value_bytes I32 (pos n) h = ap (signed_number 4) (number_of-le 4 n (grind arith)) ∙ grind (arith, ints, nat_tests)
value_in-value_bytes I32 (negsuc n) h = ap (signed_number 4) (number_of-le 4 (4294967295 - n) (grind arith)) ∙ grind (arith, ints, nat_tests)
value_in-value_bytes I64 (pos n) h = ap (signed_number 8) (number_of-le 8 n (grind arith)) ∙ grind (arith, ints, nat_tests)
value_in-value_bytes I64 (negsuc n) h = ap (signed_number 8) (number_of-le 8 (18446744073709551615 - n) (grind arith)) ∙ grind (arith, ints, nat_tests)

pub length-values_bytes : (types : List ColumnType) (values : List ℤ) → length values ≡ length (map column_of types) → length (values_bytes (map column_of types) values) ≡ columns_len (map column_of types)
length-values_bytes [] values many = refl
length-values_bytes (of ∷ types) [] many = absurd (omega arith)
length-values_bytes (of ∷ types) (v ∷ vs) many =
    length-append (value_bytes (column_of of) v) (values_bytes (map column_of types) vs)
    ∙ omega (arith, length-value_bytes of v, length-values_bytes types vs (omega arith), columns_len-cons (column_of of) (map column_of types))

pub values_in-values_bytes : (n : ℕ) (types : List ColumnType) (values : List ℤ) (behind : List ℕ) → length values ≡ length (map column_of types)
    → first_misfit n (map column_of types) values ≡ None → values_in (map column_of types) (values_bytes (map column_of types) values ++ behind) ≡ values
values_in-values_bytes n [] [] behind many fit = refl
values_in-values_bytes n [] (v ∷ vs) behind many fit = absurd (omega arith)
values_in-values_bytes n (of ∷ types) [] behind many fit = absurd (omega arith)
values_in-values_bytes n (of ∷ types) (v ∷ vs) behind many fit =
    let column = column_of of in
    let parts = misfit_parts (fits column v) n (first_misfit (n + 1) (map column_of types) vs) fit in
    let here = value_bytes column v in
    let there = values_bytes (map column_of types) vs in
    let split : here ++ there ++ behind ≡ here ++ (there ++ behind) = append_assoc here there behind in
    let front : take column.width (here ++ there ++ behind) ≡ here = ap (λ (l : List ℕ). take column.width l) split ∙ take_at here (there ++ behind) column.width (length-value_bytes of v) in
    let back : drop column.width (here ++ there ++ behind) ≡ there ++ behind = ap (λ (l : List ℕ). drop column.width l) split ∙ drop_at here (there ++ behind) column.width (length-value_bytes of v) in
    ap (λ (l : List ℕ). value_in column l ∷ values_in (map column_of types) (drop column.width (here ++ there ++ behind))) front
    ∙ ap (λ (x : ℤ). x ∷ values_in (map column_of types) (drop column.width (here ++ there ++ behind))) (value_in-value_bytes of v parts.0)
    ∙ ap (λ (l : List ℕ). v ∷ values_in (map column_of types) l) back
    ∙ ap (λ (l : List ℤ). v ∷ l) (values_in-values_bytes (n + 1) types vs behind (omega arith) parts.1)

length-end : (blobs : Bool) (blob : Option BlobRef) → length (if blobs then reference_bytes blob else []) ≡ (if blobs then 10 else 0)
length-end true blob = length-reference_bytes blob
length-end false blob = refl

-- how many bytes a row has
pub length-bytes_of_row : (key : KeyWidth) (types : List ColumnType) (blobs : Bool) (row : Row) → FitsRow (layout_with key types blobs) row
    → length (bytes_of_row (layout_with key types blobs) row) ≡ layout_len (layout_with key types blobs)
length-bytes_of_row key types blobs row fit =
    let front = le (key_width key) row.key in
    let middle = values_bytes (map column_of types) row.values in
    let end = if blobs then reference_bytes row.blob else [] in
    length-append (front ++ middle) end
    ∙ omega (arith, length-append front middle, length-le (key_width key) row.key, length-values_bytes types row.values fit.as_many, length-end blobs row.blob)

-- the bytes of a number are bytes
pub le_each : (i count n k : ℕ) → get_or (bytes_low_first i count n) k 0 < 256
le_each i zero n k = omega arith
le_each zero (suc count) n zero = omega arith
le_each (suc i) (suc count) n zero = omega arith
le_each i (suc count) n (suc k) = le_each (suc i) count n k

all_greatest_not : (a b c : Bool) → ((a ≡ true) → (b ≡ true) → (c ≡ true) → ⊥) → (a && (b && c)) ≡ false
all_greatest_not false b c h = refl
all_greatest_not true false c h = refl
all_greatest_not true true false h = refl
all_greatest_not true true true h = absurd (h refl refl refl)

ten_bytes : (blob : BlobRef) (k : ℕ) → get_or (le 4 blob.page ++ le 2 blob.offset ++ le 4 blob.length) k 0 < 256
ten_bytes blob zero = omega arith
ten_bytes blob (suc zero) = omega arith
ten_bytes blob (suc (suc zero)) = omega arith
ten_bytes blob (suc (suc (suc zero))) = omega arith
ten_bytes blob (suc (suc (suc (suc zero)))) = omega arith
ten_bytes blob (suc (suc (suc (suc (suc zero))))) = omega arith
ten_bytes blob (suc (suc (suc (suc (suc (suc k)))))) = le_each 0 4 blob.length k

pub reference_in-reference_bytes : (layout : RowLayout) (blob : Option BlobRef) → IfSome blob (FitsReference layout) → IfSome blob FitsBytes → reference_in (reference_bytes blob) ≡ blob
reference_in-reference_bytes layout None fit bytes = refl
reference_in-reference_bytes layout (Some blob) fit bytes =
    let p = number_of-le 4 blob.page bytes.0 in
    let o = number_of-le 2 blob.offset bytes.1 in
    let l = number_of-le 4 blob.length bytes.2 in
    let is_some : all_255 (take 10 (le 4 blob.page ++ le 2 blob.offset ++ le 4 blob.length)) ≡ false =
    ten_255 (le 4 blob.page ++ le 2 blob.offset ++ le 4 blob.length) (omega arith) (ten_bytes blob)
    ∙ all_greatest_not (number_of (le 4 blob.page) == 4294967295) (number_of (le 2 blob.offset) == 65535) (number_of (le 4 blob.length) == 4294967295)
    (λ a b c. fit.1 (sym p ∙ eqb-true (number_of (le 4 blob.page)) 4294967295 a) (sym o ∙ eqb-true (number_of (le 2 blob.offset)) 65535 b) (sym l ∙ eqb-true (number_of (le 4 blob.length)) 4294967295 c)) in
    ap (λ (t : Bool). if t then None else Some (record { page = number_of (le 4 blob.page); offset = number_of (le 2 blob.offset); length = number_of (le 4 blob.length) })) is_some
    ∙ ap (λ (n : ℕ). Some (record { page = n; offset = number_of (le 2 blob.offset); length = number_of (le 4 blob.length) })) p
    ∙ ap (λ (n : ℕ). Some (record { page = blob.page; offset = n; length = number_of (le 4 blob.length) })) o
    ∙ ap (λ (n : ℕ). Some (record { page = blob.page; offset = blob.offset; length = n })) l

key_back : (key : KeyWidth) (n : ℕ) → n ≤ 2 ^ (8 * key_width key) - 1 → number_of (le (key_width key) n) ≡ n
key_back Four n h = number_of-le 4 n (omega arith)
key_back Eight n h = number_of-le 8 n (omega arith)

blob_back : (key : KeyWidth) (types : List ColumnType) (blobs : Bool) (blob : Option BlobRef) → IfSome blob (FitsReference (layout_with key types blobs)) → IfSome blob FitsBytes
    → (if blobs then reference_in (if blobs then reference_bytes blob else []) else None) ≡ blob
blob_back key types true blob fit bytes = reference_in-reference_bytes (layout_with key types true) blob fit bytes
blob_back key types false None fit bytes = refl
blob_back key types false (Some blob) fit bytes = absurd (cc fit.0)

same_row : (row : Row) (key : ℕ) (values : List ℤ) (blob : Option BlobRef) → key ≡ row.key → values ≡ row.values → blob ≡ row.blob → record { key = key; values = values; blob = blob } ≡ row
same_row row key values blob key_is values_are blob_is =
    ap (λ (k : ℕ). record { key = k; values = values; blob = blob }) key_is
    ∙ ap (λ (vs : List ℤ). record { key = row.key; values = vs; blob = blob }) values_are
    ∙ ap (λ (b : Option BlobRef). record { key = row.key; values = row.values; blob = b }) blob_is

-- a row that was encoded is read again, for every schema and every row that fits it
pub row_in-bytes_of_row : (key : KeyWidth) (types : List ColumnType) (blobs : Bool) (row : Row) → IsStorable (layout_with key types blobs) row
    → row_in (layout_with key types blobs) (bytes_of_row (layout_with key types blobs) row) ≡ row
row_in-bytes_of_row key types blobs row store =
    let fit = store.fits in
    let w = key_width key in
    let columns = map column_of types in
    let front = le w row.key in
    let middle = values_bytes columns row.values in
    let end = if blobs then reference_bytes row.blob else [] in
    let split : front ++ middle ++ end ≡ front ++ (middle ++ end) = append_assoc front middle end in
    let front_len : length front ≡ w = length-le w row.key in
    let middle_len : length middle ≡ columns_len columns = length-values_bytes types row.values fit.as_many in
    let rest : drop w (front ++ middle ++ end) ≡ middle ++ end = ap (λ (l : List ℕ). drop w l) split ∙ drop_at front (middle ++ end) w front_len in
    let key_is : number_of (take w (front ++ middle ++ end)) ≡ row.key =
    ap (λ (l : List ℕ). number_of (take w l)) split ∙ ap number_of (take_at front (middle ++ end) w front_len) ∙ key_back key row.key fit.key in
    let values_are : values_in columns (drop w (front ++ middle ++ end)) ≡ row.values = ap (values_in columns) rest ∙ values_in-values_bytes 1 types row.values end fit.as_many fit.values in
    let end_is : drop (w + columns_len columns) (front ++ middle ++ end) ≡ end = drop_at (front ++ middle) end (w + columns_len columns) (omega (arith, length-append front middle)) in
    let blob_is : (if blobs then reference_in (drop (w + columns_len columns) (front ++ middle ++ end)) else None) ≡ row.blob =
    ap (λ (l : List ℕ). if blobs then reference_in l else None) end_is ∙ blob_back key types blobs row.blob fit.blob store.bytes in
    same_row row _ _ _ key_is values_are blob_is
