-- A row that is written column by column.
use Rattle.std.proofs.Common.{◌≡◌, ℕ, ◌+◌, ◌-◌, ◌*◌, ◌^◌, ◌<◌, ◌≤◌, Bool, true, false, if◌then◌else◌, ℤ, pos, Option, Some, None, IfSome, List, [], ◌++◌, length, take, drop, get_or, sym, ap, ◌∙◌, arith, append_assoc, length-append}
use Rattle.std.proofs.lemmas.Bool.{true≢false}
use Rattle.std.proofs.lemmas.List.{take_at, take_all, drop_all, append-nil, length-take-le}
use Rattle.fl_base.specs.Bytes.{splice}
use Rattle.fl_base.proofs.Ranges.{length-splice}
use Rattle.fl_base.specs.declared.types.BlobRef.{BlobRef}
use Rattle.fl_model.specs.Record.{RowLayout, columns_len, layout_len, greatest_key}
use Rattle.fl_model.specs.Row.{Row, le, value_bytes, values_bytes, reference_bytes, bytes_of_row, FitsReference, FitsBytes}
use Rattle.fl_schema.specs.Types.{column_of}
use Rattle.fl_schema.specs.Form.{key_width, types_in, layout_with, columns_in}
use Rattle.fl_schema.specs.declared.schema.KeyWidth.{KeyWidth}
use Rattle.fl_schema.specs.declared.schema.KeyWidth.TheVariants.{Four, Eight}
use Rattle.fl_schema.specs.declared.column.ColumnType.{ColumnType}
use Rattle.fl_schema.specs.declared.schema.PlacedColumn.{PlacedColumn}
use Rattle.fl_schema.proofs.Numbers.{length-le, length-value_bytes}
use Rattle.fl_schema.proofs.Places.{columns_len-more, column_within, values_bytes-more}

-- where column i begins, behind `front` bytes
abbrev pub place : ℕ → List PlacedColumn → ℕ → ℕ
place front cs i = front + columns_len (columns_in (take i cs))

-- the front of the row and its first i values are written, in a slice of so many bytes
pub record Written (size : ℕ) (front : List ℕ) (cs : List PlacedColumn) (values : List ℤ) (i : ℕ) (into : List ℕ) : Type 0 where
  pub len : length into ≡ size
  pub bytes : take (place (length front) cs i) into ++ values_bytes (columns_in (drop i cs)) (drop i values) ≡ front ++ values_bytes (columns_in cs) values

-- what a splice leaves up to its end
pub take-splice_end : (xs : List ℕ) (at end : ℕ) (bs : List ℕ) → at ≤ length xs → end ≡ at + length bs → take end (splice xs at bs) ≡ take at xs ++ bs
take-splice_end xs at end bs le is =
    ap (λ (l : List ℕ). take end l) (sym (append_assoc (take at xs) bs (drop (at + length bs) xs)))
    ∙ take_at (take at xs ++ bs) (drop (at + length bs) xs) end (omega (arith, length-append (take at xs) bs, length-take-le at xs le))

pub Written-front : (front : List ℕ) (cs : List PlacedColumn) (values : List ℤ) (into : List ℕ) → length front ≤ length into → Written (length into) front cs values 0 (splice into 0 front)
Written-front front cs values into room = record {
  len = length-splice into 0 front (omega arith);
  bytes = ap (λ (l : List ℕ). l ++ values_bytes (columns_in cs) values) (take-splice_end into 0 (place (length front) cs 0) front (omega arith) (omega arith));
}

-- one value more
pub Written-more : (size : ℕ) (front : List ℕ) (cs : List PlacedColumn) (values : List ℤ) (i at : ℕ) (d : PlacedColumn) (into : List ℕ)
    → i < length cs → i < length values → at ≡ place (length front) cs i → length front + columns_len (columns_in cs) ≤ size → Written size front cs values i into
    → Written size front cs values (i + 1) (splice into at (value_bytes (column_of (get_or cs i d).of) (get_or values i (pos 0))))
Written-more size front cs values i at d into lt lt' is room done =
    let of = (get_or cs i d).of in
    let bytes = value_bytes (column_of of) (get_or values i (pos 0)) in
    let len : length bytes ≡ (column_of of).width = length-value_bytes of (get_or values i (pos 0)) in
    let within = column_within cs i d lt in
    let next = columns_len-more cs i d lt in
    let others = values_bytes (columns_in (drop (i + 1) cs)) (drop (i + 1) values) in
    record {
      len = length-splice into at bytes (omega (arith, done.len)) ∙ done.len;
      bytes =
          ap (λ (l : List ℕ). l ++ others) (take-splice_end into at (place (length front) cs (i + 1)) bytes (omega (arith, done.len)) (omega arith))
          ∙ append_assoc (take at into) bytes others
          ∙ ap (λ (l : List ℕ). take at into ++ l) (sym (values_bytes-more cs values i d lt lt'))
          ∙ ap (λ (k : ℕ). take k into ++ values_bytes (columns_in (drop i cs)) (drop i values)) is
          ∙ done.bytes;
    }

-- all values are written
pub Written-all : (size : ℕ) (front : List ℕ) (cs : List PlacedColumn) (values : List ℤ) (i : ℕ) (into : List ℕ)
    → length cs ≤ i → Written size front cs values i into → take (length front + columns_len (columns_in cs)) into ≡ front ++ values_bytes (columns_in cs) values
Written-all size front cs values i into all done =
    let whole : take i cs ≡ cs = take_all i cs all in
    let end : drop i cs ≡ [] = drop_all i cs all in
    sym (ap (λ (l : List PlacedColumn). take (length front + columns_len (columns_in l)) into) whole)
    ∙ sym (append-nil (take (place (length front) cs i) into))
    ∙ sym (ap (λ (l : List PlacedColumn). take (place (length front) cs i) into ++ values_bytes (columns_in l) (drop i values)) end)
    ∙ done.bytes

-- ---- a whole row

pub key-fits : (width : KeyWidth) (types : List ColumnType) (blobs : Bool) (key : ℕ) → key ≤ greatest_key (layout_with width types blobs) → key < 2 ^ (8 * key_width width)
key-fits Four types blobs key most = omega (arith, most)
key-fits Eight types blobs key most = omega (arith, most)

pub key-room : (width : KeyWidth) (types : List ColumnType) (blobs : Bool) (size : ℕ) → size ≡ layout_len (layout_with width types blobs) → key_width width ≤ size
key-room width types blobs size is = omega (arith, is)

-- the key is written
pub Written-key : (width key : ℕ) (cs : List PlacedColumn) (values : List ℤ) (into new : List ℕ) → width ≤ length into → new ≡ splice into 0 (le width key)
    → Written (length into) (le width key) cs values 0 new
Written-key width key cs values into new room is = rw is (Written-front (le width key) cs values into (omega (arith, length-le width key, room)))

-- all values are written of a row that has no blobs
pub row-written : (width : KeyWidth) (cs : List PlacedColumn) (blobs : Bool) (row : Row) (size i : ℕ) (into : List ℕ) → blobs ≡ false → length cs ≤ i
    → size ≡ layout_len (layout_with width (types_in cs) blobs) → Written size (le (key_width width) row.key) cs row.values i into
    → into ≡ bytes_of_row (layout_with width (types_in cs) blobs) row
row-written width cs blobs row size i into none all is done =
    let front = le (key_width width) row.key in
    let len : length front ≡ key_width width = length-le (key_width width) row.key in
    let short : layout_len (layout_with width (types_in cs) blobs) ≡ key_width width + columns_len (columns_in cs) + 0 = ap (λ (b : Bool). key_width width + columns_len (columns_in cs) + (if b then 10 else 0)) none in
    let whole : length into ≤ length front + columns_len (columns_in cs) = omega (arith, done.len, is, short, len) in
    sym (take_all (length front + columns_len (columns_in cs)) into whole)
    ∙ Written-all size front cs row.values i into all done
    ∙ sym (append-nil (front ++ values_bytes (columns_in cs) row.values))
    ∙ ap (λ (b : Bool). front ++ values_bytes (columns_in cs) row.values ++ (if b then reference_bytes row.blob else [])) (sym none)

-- and its reference behind them
pub row-written-blob : (width : KeyWidth) (cs : List PlacedColumn) (blobs : Bool) (row : Row) (size i at : ℕ) (into new : List ℕ) → blobs ≡ true → length cs ≤ i
    → size ≡ layout_len (layout_with width (types_in cs) blobs) → at + 10 ≡ size → length (reference_bytes row.blob) ≡ 10 → Written size (le (key_width width) row.key) cs row.values i into
    → new ≡ splice into at (reference_bytes row.blob) → new ≡ bytes_of_row (layout_with width (types_in cs) blobs) row
row-written-blob width cs blobs row size i at into new some all is place ten done last =
    let front = le (key_width width) row.key in
    let end = reference_bytes row.blob in
    let len : length front ≡ key_width width = length-le (key_width width) row.key in
    let long : layout_len (layout_with width (types_in cs) blobs) ≡ key_width width + columns_len (columns_in cs) + 10 = ap (λ (b : Bool). key_width width + columns_len (columns_in cs) + (if b then 10 else 0)) some in
    let at_is : at ≡ length front + columns_len (columns_in cs) = omega (arith, is, long, place, len) in
    let rest : drop (at + length end) into ≡ [] = drop_all (at + length end) into (omega (arith, done.len, place, ten)) in
    last
    ∙ ap (λ (l : List ℕ). take at into ++ (end ++ l)) rest
    ∙ ap (λ (l : List ℕ). take at into ++ l) (append-nil end)
    ∙ ap (λ (k : ℕ). take k into ++ end) at_is
    ∙ ap (λ (l : List ℕ). l ++ end) (Written-all size front cs row.values i into all done)
    ∙ ap (λ (b : Bool). front ++ values_bytes (columns_in cs) row.values ++ (if b then reference_bytes row.blob else [])) (sym some)

pub reference-place : (width : KeyWidth) (cs : List PlacedColumn) (blobs : Bool) (row : ℕ) → blobs ≡ true → row ≡ layout_len (layout_with width (types_in cs) blobs) → 10 ≤ row
reference-place width cs blobs row some is =
    let long : layout_len (layout_with width (types_in cs) blobs) ≡ key_width width + columns_len (columns_in cs) + 10 = ap (λ (b : Bool). key_width width + columns_len (columns_in cs) + (if b then 10 else 0)) some in
    omega (arith, is, long)

pub back-again : (n : ℕ) → 10 ≤ n → n - 10 + 10 ≡ n
back-again n most = omega (arith, most)

-- a row that can't refer to a blob refers to none
pub no-reference : (layout : RowLayout) (blob : Option BlobRef) → layout.blobs ≡ false → IfSome blob (FitsReference layout) → IfSome blob FitsBytes
no-reference layout None none fits = tt
no-reference layout (Some blob) none fits = absurd (true≢false (sym fits.0 ∙ none))
