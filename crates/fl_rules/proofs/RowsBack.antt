-- Rows that were read from bytes are written as the same bytes.
use Rattle.std.proofs.Common.{◌≡◌, ℕ, zero, suc, ◌+◌, ◌-◌, ◌*◌, ◌^◌, ◌<◌, ◌≤◌, Bool, true, false, ◌&&◌, ◌==◌, nat_lt, if◌then◌else◌, pos, negsuc, ◌-ℤ◌, Option, Some, None, IfSome, List, [], ◌∷◌, ◌++◌, length, take, drop, map, replicate, refl, sym, ap, ◌∙◌, arith, length-drop}
use Rattle.std.specs.List.{flat_map, AllByRecursion}
use Rattle.std.proofs.Math.Seq.{take-add}
use Rattle.std.proofs.lemmas.Bool.{eq-eqb}
use Rattle.std.proofs.lemmas.Bool.Decides.{nat_tests}
use Rattle.std.proofs.lemmas.Int.{ints}
use Rattle.std.proofs.lemmas.List.{drop-drop, length-take-le, take-append-drop, take_all}
use Rattle.fl_model.proofs.Lists.{take_none}
use Rattle.fl_base.specs.declared.types.BlobRef.{BlobRef}
use Rattle.fl_base.proofs.OneByte.{all_same}
use Rattle.fl_model.specs.Record.{columns_len, layout_len, fits, first_misfit}
use Rattle.fl_model.specs.Row.{le, value_bytes, values_bytes, reference_bytes, bytes_of_row, FitsReference, FitsBytes, IsStorable, number_of, signed_number, value_in, values_in, reference_in, row_in}
use Rattle.fl_model.proofs.RowValues.{length-values_in}
use Rattle.fl_page.specs.Page.{rows_from}
use Rattle.fl_schema.specs.Types.{column_of}
use Rattle.fl_schema.specs.Form.{key_width, layout_with}
use Rattle.fl_schema.specs.declared.column.ColumnType.{ColumnType}
use Rattle.fl_schema.specs.declared.column.ColumnType.TheVariants.{U8, I8, U16, I16, U32, I32, I64}
use Rattle.fl_schema.specs.declared.schema.KeyWidth.{KeyWidth}
use Rattle.fl_schema.specs.declared.schema.KeyWidth.TheVariants.{Four, Eight}
use Rattle.fl_schema.proofs.Places.{columns_len-cons}
use Rattle.fl_schema.proofs.References.{ten_255, all_255}
use Rattle.fl_rules.proofs.BytesBack.{AreBytes, le-number_as, number-below}
use Rattle.fl_rules.proofs.Parts.{each-taken, each-dropped}

-- ---- values

-- a number that stands for a negative one
wrapped : (n p : ℕ) → n < p → pos n -ℤ pos p ≡ negsuc (p - 1 - n)
wrapped n p below = omega (arith, ints, below)

signed_back : (w n : ℕ) → n < 2 ^ (8 * w) → value_bytes (record { width = w; signed = true }) (signed_number w n) ≡ le w n
signed_back w n below = by_test (nat_lt n (2 ^ (8 * w - 1)))
  where
    by_test : (b : Bool) → value_bytes (record { width = w; signed = true }) (if b then pos n else pos n -ℤ pos (2 ^ (8 * w))) ≡ le w n
    by_test true = refl
    by_test false = ap (value_bytes (record { width = w; signed = true })) (wrapped n (2 ^ (8 * w)) below) ∙ ap (le w) (omega (arith, below))

module _ (bytes : List ℕ) (each : AreBytes bytes) where
  below : (width : ℕ) → length bytes ≡ width → number_of bytes < 256 ^ width
  below width size = let e = number-below bytes each in let f : 256 ^ length bytes ≡ 256 ^ width = ap (λ (k : ℕ). 256 ^ k) size in omega (arith, e, f)

  pub value_back : (of : ColumnType) → length bytes ≡ (column_of of).width → value_bytes (column_of of) (value_in (column_of of) bytes) ≡ bytes
  value_back U8 size = le-number_as 1 bytes size each
  value_back U16 size = le-number_as 2 bytes size each
  value_back U32 size = le-number_as 4 bytes size each
  value_back I8 size = signed_back 1 (number_of bytes) (below 1 size) ∙ le-number_as 1 bytes size each
  value_back I16 size = signed_back 2 (number_of bytes) (below 2 size) ∙ le-number_as 2 bytes size each
  value_back I32 size = signed_back 4 (number_of bytes) (below 4 size) ∙ le-number_as 4 bytes size each
  value_back I64 size = signed_back 8 (number_of bytes) (below 8 size) ∙ le-number_as 8 bytes size each

  pub value_fits : (of : ColumnType) → length bytes ≡ (column_of of).width → fits (column_of of) (value_in (column_of of) bytes) ≡ true
  value_fits U8 size = let b = below 1 size in grind (arith, ints, nat_tests, b)
  value_fits U16 size = let b = below 2 size in grind (arith, ints, nat_tests, b)
  value_fits U32 size = let b = below 4 size in grind (arith, ints, nat_tests, b)
  value_fits I8 size = let b = below 1 size in grind (arith, ints, nat_tests, b)
  value_fits I16 size = let b = below 2 size in grind (arith, ints, nat_tests, b)
  value_fits I32 size = let b = below 4 size in grind (arith, ints, nat_tests, b)
  value_fits I64 size = let b = below 8 size in grind (arith, ints, nat_tests, b)

pub values_back : (types : List ColumnType) (bytes : List ℕ) → AreBytes bytes → columns_len (map column_of types) ≤ length bytes
    → values_bytes (map column_of types) (values_in (map column_of types) bytes) ≡ take (columns_len (map column_of types)) bytes
values_back [] bytes each room = sym (take_none bytes)
values_back (of ∷ types) bytes each room =
    let w = (column_of of).width in
    let n = columns_len (map column_of types) in
    let more : columns_len (map column_of (of ∷ types)) ≡ w + n = columns_len-cons (column_of of) (map column_of types) in
    let rest = values_back types (drop w bytes) (each-dropped w bytes each) (omega (arith, room, more, length-drop w bytes)) in
    ap (λ (l : List ℕ). l ++ values_bytes (map column_of types) (values_in (map column_of types) (drop w bytes)))
    (value_back (take w bytes) (each-taken w bytes each) of (length-take-le w bytes (omega (arith, room, more))))
    ∙ ap (λ (l : List ℕ). take w bytes ++ l) rest ∙ sym (take-add w n bytes) ∙ ap (λ (k : ℕ). take k bytes) (sym more)

pub values_fit : (n : ℕ) (types : List ColumnType) (bytes : List ℕ) → AreBytes bytes → columns_len (map column_of types) ≤ length bytes
    → first_misfit n (map column_of types) (values_in (map column_of types) bytes) ≡ None
values_fit n [] bytes each room = refl
values_fit n (of ∷ types) bytes each room =
    let w = (column_of of).width in
    let more : columns_len (map column_of (of ∷ types)) ≡ w + columns_len (map column_of types) = columns_len-cons (column_of of) (map column_of types) in
    let first = value_fits (take w bytes) (each-taken w bytes each) of (length-take-le w bytes (omega (arith, room, more))) in
    rw first (values_fit (n + 1) types (drop w bytes) (each-dropped w bytes each) (omega (arith, room, more, length-drop w bytes)))

-- ---- references

-- the numbers in ten bytes
abbrev read : List ℕ → BlobRef
read bytes = record { page = number_of (take 4 bytes); offset = number_of (take 2 (drop 4 bytes)); length = number_of (take 4 (drop 6 bytes)) }

module _ (bytes : List ℕ) (each : AreBytes bytes) (ten : length bytes ≡ 10) where
  whole : take 10 bytes ≡ bytes
  whole = take_all 10 bytes (omega (arith, ten))

  page-size : length (take 4 bytes) ≡ 4
  page-size = length-take-le 4 bytes (omega (arith, ten))

  offset-size : length (take 2 (drop 4 bytes)) ≡ 2
  offset-size = length-take-le 2 (drop 4 bytes) (omega (arith, ten, length-drop 4 bytes))

  length-size : length (take 4 (drop 6 bytes)) ≡ 4
  length-size = length-take-le 4 (drop 6 bytes) (omega (arith, ten, length-drop 6 bytes))

  each-offset : AreBytes (take 2 (drop 4 bytes))
  each-offset = each-taken 2 (drop 4 bytes) (each-dropped 4 bytes each)

  each-length : AreBytes (take 4 (drop 6 bytes))
  each-length = each-taken 4 (drop 6 bytes) (each-dropped 6 bytes each)

  reference_back : reference_bytes (reference_in bytes) ≡ bytes
  reference_back = by_test (all_255 (take 10 bytes)) refl
    where
      by_test : (b : Bool) → all_255 (take 10 bytes) ≡ b → reference_bytes (if b then None else Some (read bytes)) ≡ bytes
      by_test true is = sym (all_same 255 (take 10 bytes) is ∙ ap (λ (k : ℕ). replicate k 255) (ap length whole ∙ ten)) ∙ whole
      by_test false is =
          ap (λ (l : List ℕ). l ++ (le 2 (read bytes).offset ++ le 4 (read bytes).length)) (le-number_as 4 (take 4 bytes) page-size (each-taken 4 bytes each))
          ∙ ap (λ (l : List ℕ). take 4 bytes ++ (l ++ le 4 (read bytes).length)) (le-number_as 2 (take 2 (drop 4 bytes)) offset-size each-offset)
          ∙ ap (λ (l : List ℕ). take 4 bytes ++ (take 2 (drop 4 bytes) ++ l)) (le-number_as 4 (take 4 (drop 6 bytes)) length-size each-length)
          ∙ sym (sym whole ∙ take-add 4 6 bytes ∙ ap (λ (l : List ℕ). take 4 bytes ++ l) (take-add 2 4 (drop 4 bytes) ∙ ap (λ (l : List ℕ). take 2 (drop 4 bytes) ++ take 4 l) (drop-drop 2 4 bytes)))

  small : (part : List ℕ) (count : ℕ) → AreBytes part → length part ≡ count → number_of part < 256 ^ count
  small part count each_part size = let e = number-below part each_part in let f : 256 ^ length part ≡ 256 ^ count = ap (λ (k : ℕ). 256 ^ k) size in omega (arith, e, f)

  reference_small : IfSome (reference_in bytes) FitsBytes
  reference_small = by_test (all_255 (take 10 bytes))
    where
      by_test : (b : Bool) → IfSome (if b then None else Some (read bytes)) FitsBytes
      by_test true = tt
      by_test false = (
        small (take 4 bytes) 4 (each-taken 4 bytes each) page-size,
        small (take 2 (drop 4 bytes)) 2 each-offset offset-size,
        small (take 4 (drop 6 bytes)) 4 each-length length-size,
      )

  abbrev IsSome : BlobRef → Type 0
  IsSome blob = blob.page ≡ 4294967295 → blob.offset ≡ 65535 → blob.length ≡ 4294967295 → ⊥

  reference_fits : IfSome (reference_in bytes) IsSome
  reference_fits = by_test (all_255 (take 10 bytes)) refl
    where
      by_test : (b : Bool) → all_255 (take 10 bytes) ≡ b → IfSome (if b then None else Some (read bytes)) IsSome
      by_test true is = tt
      by_test false is = λ page offset len.
          let all : all_255 (take 10 bytes) ≡ true =
          ten_255 bytes (omega (arith, ten)) each
          ∙ ap (λ (b : Bool). b && ((number_of (take 2 (drop 4 bytes)) == 65535) && (number_of (take 4 (drop 6 bytes)) == 4294967295))) (eq-eqb (number_of (take 4 bytes)) 4294967295 page)
          ∙ ap (λ (b : Bool). b && (number_of (take 4 (drop 6 bytes)) == 4294967295)) (eq-eqb (number_of (take 2 (drop 4 bytes))) 65535 offset)
          ∙ eq-eqb (number_of (take 4 (drop 6 bytes))) 4294967295 len in
          cc (sym is ∙ all)

-- ---- rows

end_back : (blobs : Bool) (rest : List ℕ) → AreBytes rest → length rest ≡ (if blobs then 10 else 0) → (if blobs then reference_bytes (if blobs then reference_in rest else None) else []) ≡ rest
end_back true rest each size = reference_back rest each size
end_back false [] each size = refl
end_back false (b ∷ rest) each size = absurd (omega (arith, size))

end_fits : (key : KeyWidth) (types : List ColumnType) (blobs : Bool) (rest : List ℕ) → AreBytes rest → length rest ≡ (if blobs then 10 else 0)
    → IfSome (if blobs then reference_in rest else None) (FitsReference (layout_with key types blobs))
end_fits key types true rest each size = with_blobs (reference_in rest) (reference_fits rest each size)
  where
    with_blobs : (blob : Option BlobRef) → IfSome blob (λ blob. blob.page ≡ 4294967295 → blob.offset ≡ 65535 → blob.length ≡ 4294967295 → ⊥) → IfSome blob (FitsReference (layout_with key types true))
    with_blobs None is = tt
    with_blobs (Some blob) is = (refl, is)
end_fits key types false rest each size = tt

end_small : (blobs : Bool) (rest : List ℕ) → AreBytes rest → length rest ≡ (if blobs then 10 else 0) → IfSome (if blobs then reference_in rest else None) FitsBytes
end_small true rest each size = reference_small rest each size
end_small false rest each size = tt

key_fits : (key : KeyWidth) (bytes : List ℕ) → AreBytes bytes → length bytes ≡ key_width key → number_of bytes ≤ 2 ^ (8 * key_width key) - 1
key_fits Four bytes each size = let e = below bytes each 4 size in omega (arith, e)
key_fits Eight bytes each size = let e = below bytes each 8 size in omega (arith, e)

module _ (key : KeyWidth) (types : List ColumnType) (blobs : Bool) where
  module _ (bytes : List ℕ) (each : AreBytes bytes) (size : length bytes ≡ layout_len (layout_with key types blobs)) where
    abbrev w : ℕ
    w = key_width key

    abbrev n : ℕ
    n = columns_len (map column_of types)

    rest-size : length (drop (key_width key + columns_len (map column_of types)) bytes) ≡ (if blobs then 10 else 0)
    rest-size = length-drop (key_width key + columns_len (map column_of types)) bytes ∙ omega (arith, size)

    front-size : length (take (key_width key) bytes) ≡ key_width key
    front-size = length-take-le (key_width key) bytes (omega (arith, size))

    columns-fit : columns_len (map column_of types) ≤ length (drop (key_width key) bytes)
    columns-fit = omega (arith, size, length-drop (key_width key) bytes)

    pub row_back : bytes_of_row (layout_with key types blobs) (row_in (layout_with key types blobs) bytes) ≡ bytes
    row_back =
        let columns = map column_of types in
        let rest = drop (key_width key + columns_len (map column_of types)) bytes in
        let middle = values_bytes (map column_of types) (values_in (map column_of types) (drop (key_width key) bytes)) in
        let end = if blobs then reference_bytes (if blobs then reference_in (drop (key_width key + columns_len (map column_of types)) bytes) else None) else [] in
        ap (λ (l : List ℕ). l ++ middle ++ end) (le-number_as w (take w bytes) front-size (each-taken w bytes each))
        ∙ ap (λ (l : List ℕ). take w bytes ++ l ++ end) (values_back types (drop w bytes) (each-dropped w bytes each) columns-fit)
        ∙ ap (λ (l : List ℕ). take w bytes ++ take n (drop w bytes) ++ l) (end_back blobs (drop (w + n) bytes) (each-dropped (w + n) bytes each) rest-size)
        ∙ ap (λ (l : List ℕ). l ++ drop (w + n) bytes) (sym (take-add w n bytes)) ∙ take-append-drop (w + n) bytes

    pub row_storable : IsStorable (layout_with key types blobs) (row_in (layout_with key types blobs) bytes)
    row_storable = record {
      fits = record {
        key = key_fits key (take w bytes) (each-taken w bytes each) front-size;
        as_many = length-values_in (map column_of types) (drop w bytes);
        values = values_fit 1 types (drop w bytes) (each-dropped w bytes each) columns-fit;
        blob = end_fits key types blobs (drop (w + n) bytes) (each-dropped (w + n) bytes each) rest-size;
      };
      bytes = end_small blobs (drop (w + n) bytes) (each-dropped (w + n) bytes each) rest-size;
    }

  pub rows_back : (count : ℕ) (bytes : List ℕ) → AreBytes bytes → count * layout_len (layout_with key types blobs) ≤ length bytes
      → flat_map (bytes_of_row (layout_with key types blobs)) (rows_from count (layout_with key types blobs) bytes) ≡ take (count * layout_len (layout_with key types blobs)) bytes
  rows_back zero bytes each room = sym (ap (λ (k : ℕ). take k bytes) (let e : 0 * layout_len (layout_with key types blobs) ≡ 0 = omega arith in e) ∙ take_none bytes)
  rows_back (suc count) bytes each room =
      let len = layout_len (layout_with key types blobs) in
      let more : suc count * layout_len (layout_with key types blobs) ≡ layout_len (layout_with key types blobs) + count * layout_len (layout_with key types blobs) = omega arith in
      let others = flat_map (bytes_of_row (layout_with key types blobs)) (rows_from count (layout_with key types blobs) (drop (layout_len (layout_with key types blobs)) bytes)) in
      ap (λ (l : List ℕ). l ++ others) (row_back (take len bytes) (each-taken len bytes each) (length-take-le len bytes (omega (arith, room, more))))
      ∙ ap (λ (l : List ℕ). take len bytes ++ l) (rows_back count (drop len bytes) (each-dropped len bytes each) (omega (arith, room, more, length-drop len bytes)))
      ∙ sym (take-add len (count * len) bytes) ∙ ap (λ (k : ℕ). take k bytes) (sym more)

  pub rows_storable : (count : ℕ) (bytes : List ℕ) → AreBytes bytes → count * layout_len (layout_with key types blobs) ≤ length bytes
      → AllByRecursion (IsStorable (layout_with key types blobs)) (rows_from count (layout_with key types blobs) bytes)
  rows_storable zero bytes each room = tt
  rows_storable (suc count) bytes each room =
      let len = layout_len (layout_with key types blobs) in
      let more : suc count * layout_len (layout_with key types blobs) ≡ layout_len (layout_with key types blobs) + count * layout_len (layout_with key types blobs) = omega arith in (
        row_storable (take len bytes) (each-taken len bytes each) (length-take-le len bytes (omega (arith, room, more))),
        rows_storable count (drop len bytes) (each-dropped len bytes each) (omega (arith, room, more, length-drop len bytes)),
      )
