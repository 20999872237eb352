-- A page writer, step by step.
use Rattle.std.proofs.Common.{◌≡◌, ℕ, ◌+◌, ◌-◌, ◌*◌, ◌/◌, ◌<◌, ◌≤◌, Bool, Some, slice_get, slice_range, List, [], ◌∷◌, ◌++◌, length, take, drop, replicate, refl, sym, ap, ◌∙◌, arith, append_assoc, length-append, length-drop}
use Rattle.std.proofs.lemmas.List.{take_at, drop_at, drop-drop, drop-take, drop-replicate, length-replicate, length-take-le, replicate-append-replicate, drop-append-le, flat_map_more}
use Rattle.std.proofs.Math.Nat.{lt_of_mul-lt-mul_right, div-mul-le_self, mul-le-mul_right}
use Rattle.std.proofs.lemmas.Nat.{le-div}
use Rattle.std.specs.List.{flat_map}
use Rattle.fl_base.specs.Bytes.{splice}
use Rattle.fl_base.proofs.Ranges.{length-splice, drop-splice, take_slice, drop_slice}
use Rattle.fl_model.specs.Record.{RowLayout, layout_len}
use Rattle.fl_model.specs.Row.{Row, IsStorable, bytes_of_row, row_in}
use Rattle.fl_model.specs.Layout.{rows_body}
use Rattle.fl_model.proofs.Lists.{each-push}
use Rattle.fl_schema.specs.Form.{layout_with}
use Rattle.fl_schema.specs.declared.column.ColumnType.{ColumnType}
use Rattle.fl_schema.specs.declared.schema.KeyWidth.{KeyWidth}
use Rattle.fl_schema.specs.declared.schema.KeyWidth.TheVariants.{Four, Eight}
use Rattle.fl_schema.proofs.RoundTrip.{length-bytes_of_row}
use Rattle.fl_page.specs.Header.{header_bytes}
use Rattle.fl_page.specs.WriterState.{WriterState}
use Rattle.fl_page.specs.Writer.{Gathers}
use Rattle.fl_page.proofs.RowBytes.{rows_from-rows, slice_get-rows_from}

-- how many bytes the rows have
rows_len : (layout : RowLayout) (rows : List Row) (w : WriterState) → w.end ≤ length w.body → Gathers layout rows w → length (flat_map (bytes_of_row layout) rows) + 16 ≡ w.end
rows_len layout rows w within is =
    let rest : List ℕ = replicate (length w.body - w.end) 255 in
    omega (arith, ap length is.bytes, length-drop 16 w.body, length-append (flat_map (bytes_of_row layout) rows) rest, length-replicate {A = ℕ} (length w.body - w.end) 255, is.end)

-- behind a splice from 16 on
drop_spliced : (xs : List ℕ) (at : ℕ) (bs : List ℕ) → 16 ≤ at → at ≤ length xs → drop 16 (splice xs at bs) ≡ splice (drop 16 xs) (at - 16) bs
drop_spliced xs at bs least within =
    let split : at ≡ 16 + (at - 16) = omega arith in
    let sum : at + length bs ≡ 16 + (at - 16 + length bs) = omega arith in
    let tail : drop (at + length bs) xs ≡ drop (at - 16 + length bs) (drop 16 xs) = ap (λ (k : ℕ). drop k xs) sum ∙ sym (drop-drop (at - 16 + length bs) 16 xs) in
    drop-append-le 16 (take at xs) (bs ++ drop (at + length bs) xs) (omega (arith, length-take-le at xs within))
    ∙ ap (λ (l : List ℕ). l ++ (bs ++ drop (at + length bs) xs)) (ap (λ (k : ℕ). drop 16 (take k xs)) split ∙ drop-take 16 (at - 16) xs)
    ∙ ap (λ (l : List ℕ). take (at - 16) (drop 16 xs) ++ (bs ++ l)) tail

pub Gathers-push : (key : KeyWidth) (types : List ColumnType) (blobs : Bool) (rows : List Row) (row : Row) (w : WriterState) → IsStorable (layout_with key types blobs) row
    → w.end + layout_len (layout_with key types blobs) ≤ length w.body → Gathers (layout_with key types blobs) rows w
    → Gathers (layout_with key types blobs) (rows ++ row ∷ []) (record { body = splice w.body w.end (bytes_of_row (layout_with key types blobs) row); count = w.count + 1; end = w.end + layout_len (layout_with key types blobs) })
Gathers-push key types blobs rows row w store room is =
    let layout = layout_with key types blobs in
    let n = layout_len layout in
    let bs = bytes_of_row layout row in
    let front = flat_map (bytes_of_row layout) rows in
    let size : length bs ≡ n = length-bytes_of_row key types blobs row store.fits in
    let front_len : length front + 16 ≡ w.end = rows_len layout rows w (omega arith) is in
    let more : length (rows ++ row ∷ []) ≡ length rows + 1 = length-append rows (row ∷ []) in
    let whole : length (splice w.body w.end bs) ≡ length w.body = length-splice w.body w.end bs (omega arith) in
    let rest : List ℕ = replicate (length w.body - w.end) 255 in
    record {
      count = ap (λ (k : ℕ). k + 1) is.count ∙ sym more;
      end = omega (arith, is.end, ap (λ (k : ℕ). k * n) more);
      bytes =
          drop_spliced w.body w.end bs (omega (arith, front_len)) (omega arith)
          ∙ ap (λ (l : List ℕ). splice l (w.end - 16) bs) is.bytes
          ∙ ap (λ (k : ℕ). splice (front ++ rest) k bs) (omega (arith, front_len))
          ∙ ap (λ (l : List ℕ). l ++ (bs ++ drop (length front + length bs) (front ++ rest))) (take_at front rest (length front) refl)
          ∙ ap (λ (l : List ℕ). front ++ (bs ++ l)) (sym (drop-drop (length bs) (length front) (front ++ rest)) ∙ ap (λ (l : List ℕ). drop (length bs) l) (drop_at front rest (length front) refl) ∙ drop-replicate (length bs) (length w.body - w.end) 255)
          ∙ sym (append_assoc front bs (replicate (length w.body - w.end - length bs) 255))
          ∙ ap (λ (l : List ℕ). l ++ replicate (length w.body - w.end - length bs) 255) (sym (sym (flat_map_more (bytes_of_row layout) [] rows row)))
          ∙ ap (λ (k : ℕ). flat_map (bytes_of_row layout) (rows ++ row ∷ []) ++ replicate k 255) (omega (arith, size, whole));
      storable = each-push (IsStorable layout) rows row is.storable store;
    }

-- the body with its header
pub Gathers-body : (layout : RowLayout) (rows : List Row) (w : WriterState) (number bitmap : ℕ) → w.end ≤ length w.body → Gathers layout rows w
    → splice w.body 0 (header_bytes number w.count bitmap) ≡ rows_body (length w.body) layout number bitmap rows
Gathers-body layout rows w number bitmap within is =
    let front = flat_map (bytes_of_row layout) rows in
    let header = header_bytes number (length rows) bitmap in
    let front_len = rows_len layout rows w within is in
    ap (λ (k : ℕ). splice w.body 0 (header_bytes number k bitmap)) is.count
    ∙ ap (λ (l : List ℕ). header ++ l) is.bytes
    ∙ sym (append_assoc header front (replicate (length w.body - w.end) 255))
    ∙ ap (λ (k : ℕ). header ++ front ++ replicate k 255) (omega (arith, front_len, length-append header front))

pub Gathers-finished : (layout : RowLayout) (rows : List Row) (w : WriterState) (number bitmap : ℕ) → 16 ≤ length w.body → Gathers layout rows w
    → Gathers layout rows (record w { body = splice w.body 0 (header_bytes number w.count bitmap) })
Gathers-finished layout rows w number bitmap within is = record {
  count = is.count;
  end = is.end;
  bytes = drop-splice w.body 0 (header_bytes number w.count bitmap) (omega arith) ∙ is.bytes
      ∙ ap (λ (k : ℕ). flat_map (bytes_of_row layout) rows ++ replicate (k - w.end) 255) (sym (length-splice w.body 0 (header_bytes number w.count bitmap) (omega arith)));
  storable = is.storable;
}

-- without rows
pub Gathers-cleared : (layout other : RowLayout) (rows : List Row) (w : WriterState) → 16 ≤ w.end → w.end ≤ length w.body → Gathers layout rows w
    → Gathers other [] (record { body = splice w.body 16 (replicate (w.end - 16) 255); count = 0; end = 16 })
Gathers-cleared layout other rows w least within is =
    let blank : List ℕ = replicate (w.end - 16) 255 in
    let front = flat_map (bytes_of_row layout) rows in
    let front_len : length front + 16 ≡ w.end = rows_len layout rows w within is in
    let size : length blank ≡ w.end - 16 = length-replicate (w.end - 16) 255 in
    let whole : length (splice w.body 16 blank) ≡ length w.body = length-splice w.body 16 blank (omega arith) in
    record {
      count = refl;
      end = omega arith;
      bytes =
          drop_spliced w.body 16 blank (omega arith) (omega arith)
          ∙ ap (λ (l : List ℕ). blank ++ l) (ap (λ (l : List ℕ). drop (0 + length blank) l) is.bytes ∙ drop_at front (replicate (length w.body - w.end) 255) (0 + length blank) (omega (arith, size, front_len)))
          ∙ replicate-append-replicate (w.end - 16) (length w.body - w.end) 255
          ∙ ap (λ (k : ℕ). replicate k 255) (omega (arith, whole));
      storable = tt;
    }

pub layout_some : (key : KeyWidth) (types : List ColumnType) (blobs : Bool) → 0 < layout_len (layout_with key types blobs)
layout_some Four types blobs = omega arith
layout_some Eight types blobs = omega arith

-- the pending row i
pub Gathers-row : (key : KeyWidth) (types : List ColumnType) (blobs : Bool) (rows : List Row) (w : WriterState) (i : ℕ) → i < length rows → Gathers (layout_with key types blobs) rows w
    → slice_get rows i ≡ Some (row_in (layout_with key types blobs) (take (layout_len (layout_with key types blobs)) (drop (i * layout_len (layout_with key types blobs)) (drop 16 w.body))))
Gathers-row key types blobs rows w i lt is =
    let rest : List ℕ = replicate (length w.body - w.end) 255 in
    ap (λ (rs : List Row). slice_get rs i) (sym (rows_from-rows key types blobs rows rest is.storable))
    ∙ slice_get-rows_from key types blobs (length rows) i (flat_map (bytes_of_row (layout_with key types blobs)) rows ++ rest) lt
    ∙ ap (λ (l : List ℕ). Some (row_in (layout_with key types blobs) (take (layout_len (layout_with key types blobs)) (drop (i * layout_len (layout_with key types blobs)) l)))) (sym is.bytes)

-- a row among the rows of a body
pub row_part : (xs : List ℕ) (i n end : ℕ) → 16 + (i + 1) * n ≤ end → take ((i + 1) * n - i * n) (drop (i * n) (slice_range xs 16 end)) ≡ slice_range xs (16 + i * n) (16 + (i + 1) * n)
row_part xs i n end within =
    let one : (i + 1) * n - i * n ≡ n = omega arith in
    let last : 16 + i * n + n ≡ 16 + (i + 1) * n = omega arith in
    ap (λ (l : List ℕ). take ((i + 1) * n - i * n) l) (drop_slice xs 16 end (i * n) (omega arith))
    ∙ ap (λ (k : ℕ). take k (slice_range xs (16 + i * n) end)) one
    ∙ take_slice xs (16 + i * n) end n (omega arith)
    ∙ ap (λ (k : ℕ). slice_range xs (16 + i * n) k) last

-- the same row, from the rows that are gathered
pub row_gathered : (key : KeyWidth) (types : List ColumnType) (blobs : Bool) (rows : List Row) (w : WriterState) (i : ℕ) → 16 + (i + 1) * layout_len (layout_with key types blobs) ≤ w.end
    → Gathers (layout_with key types blobs) rows w
    → slice_get rows i ≡ Some (row_in (layout_with key types blobs) (slice_range w.body (16 + i * layout_len (layout_with key types blobs)) (16 + (i + 1) * layout_len (layout_with key types blobs))))
row_gathered key types blobs rows w i within is =
    let n = layout_len (layout_with key types blobs) in
    let one : 16 + (i + 1) * n - (16 + i * n) ≡ n = omega arith in
    let some : 0 < n = layout_some key types blobs in
    let lt : i < length rows = lt_of_mul-lt-mul_right n (omega (arith, is.end)) in
    Gathers-row key types blobs rows w i lt is
    ∙ ap (λ (l : List ℕ). Some (row_in (layout_with key types blobs) l)) (ap (λ (l : List ℕ). take n l) (drop-drop (i * n) 16 w.body) ∙ sym (ap (λ (k : ℕ). take k (drop (16 + i * n) w.body)) one))

-- the bytes where rows stood are filled
pub cleared : (body fill : List ℕ) (end : ℕ) → 16 ≤ end → end ≤ length body → fill ≡ replicate (length (take (end - 16) (drop 16 body))) 255
    → take 16 body ++ (fill ++ drop (end - 16) (drop 16 body)) ≡ splice body 16 (replicate (end - 16) 255)
cleared body fill end least within is =
    let part : length (take (end - 16) (drop 16 body)) ≡ end - 16 = length-take-le (end - 16) (drop 16 body) (omega (arith, length-drop 16 body)) in
    ap (λ (l : List ℕ). take 16 body ++ (l ++ drop (end - 16) (drop 16 body))) (is ∙ ap (λ (k : ℕ). replicate k 255) part)
    ∙ ap (λ (l : List ℕ). take 16 body ++ (replicate (end - 16) 255 ++ l))
    (drop-drop (end - 16) 16 body ∙ ap (λ (k : ℕ). drop (16 + k) body) (sym (length-replicate (end - 16) 255)))

-- a row more has room exactly where fewer rows are gathered than a page of this size holds
pub room_for_row : (layout : RowLayout) (rows : List Row) (w : WriterState) (size : ℕ) → 0 < layout_len layout → length w.body + 8 ≡ size → Gathers layout rows w
    → length rows < (size - 24) / layout_len layout → w.end + layout_len layout ≤ length w.body
room_for_row layout rows w size some whole is few =
    let n = layout_len layout in
    let all = div-mul-le_self (size - 24) (layout_len layout) in
    let most : (length rows + 1) * layout_len layout ≤ (size - 24) / layout_len layout * layout_len layout = mul-le-mul_right (layout_len layout) (omega arith) in
    omega (arith, is.end, all, most)

pub few_rows : (layout : RowLayout) (rows : List Row) (w : WriterState) (size : ℕ) → 0 < layout_len layout → length w.body + 8 ≡ size → Gathers layout rows w
    → w.end + layout_len layout ≤ length w.body → length rows < (size - 24) / layout_len layout
few_rows layout rows w size some whole is room =
    let more : length rows + 1 ≤ (size - 24) / layout_len layout = le-div (length rows + 1) (size - 24) (layout_len layout) some (omega (arith, is.end)) in
    omega arith
