-- The rows of a data page that was sealed.
use Rattle.std.proofs.Common.{refl, Bool, true, false, ◌==◌, ◌&&◌, ◌≡◌, ℕ, ◌+◌, ◌-◌, ◌*◌, ◌^◌, ◌<◌, ◌≤◌, List, [], ◌∷◌, ◌++◌, length, map, replicate, sym, ap, subst, ◌∙◌, arith, append_assoc, length-append, suc, Option, Some}
use Rattle.std.proofs.lemmas.List.{length-replicate}
use Rattle.std.proofs.lemmas.Nat.{le-div}
use Rattle.std.specs.Int.{byte_at}
use Rattle.std.specs.List.{flat_map, AllByRecursion, slice_get}
use Rattle.std.proofs.lemmas.Bool.{lt-ltb}
use Rattle.fl_base.specs.Bytes.{all_are}
use Rattle.fl_model.specs.Record.{Plan, RowLayout, row_layout, layout_len}
use Rattle.fl_model.specs.Row.{Row, IsStorable, bytes_of_row, le, stored_row}
use Rattle.fl_model.specs.Table.{Entry}
use Rattle.fl_model.specs.Layout.{rows_body, data_body, bitmap_of, committed}
use Rattle.fl_model.specs.Query.{is_above}
use Rattle.fl_schema.specs.Form.{layout_with}
use Rattle.fl_schema.specs.declared.column.ColumnType.{ColumnType}
use Rattle.fl_schema.specs.declared.schema.KeyWidth.{KeyWidth}
use Rattle.fl_schema.proofs.Numbers.{number_of-le}
use Rattle.fl_schema.proofs.RoundTrip.{length-bytes_of_row}
use Rattle.fl_page.specs.Header.{page_count}
use Rattle.fl_page.specs.Page.{rows_from, rows_in, IsGoodPage}
use Rattle.fl_page.proofs.WriterSteps.{layout_some}
use Rattle.fl_page.proofs.RowBytes.{rows_from-rows}
use Rattle.fl_page.specs.Steps.{Ascends}

pub length-rows : (key : KeyWidth) (types : List ColumnType) (blobs : Bool) (rows : List Row) → AllByRecursion (IsStorable (layout_with key types blobs)) rows
    → length (flat_map (bytes_of_row (layout_with key types blobs)) rows) ≡ length rows * layout_len (layout_with key types blobs)
length-rows key types blobs [] store = omega arith
length-rows key types blobs (row ∷ rows) store =
    length-append (bytes_of_row (layout_with key types blobs) row) (flat_map (bytes_of_row (layout_with key types blobs)) rows)
    ∙ omega (arith, length-bytes_of_row key types blobs row store.0.fits, length-rows key types blobs rows store.1)

-- a body has its length where the rows fit it
pub length-rows_body : (key : KeyWidth) (types : List ColumnType) (blobs : Bool) (len number bitmap : ℕ) (rows : List Row) → AllByRecursion (IsStorable (layout_with key types blobs)) rows
    → 16 + length rows * layout_len (layout_with key types blobs) ≤ len → length (rows_body len (layout_with key types blobs) number bitmap rows) ≡ len
length-rows_body key types blobs len number bitmap rows store room =
    let bytes = flat_map (bytes_of_row (layout_with key types blobs)) rows in
    let size : length (flat_map (bytes_of_row (layout_with key types blobs)) rows) ≡ length rows * layout_len (layout_with key types blobs) = length-rows key types blobs rows store in
    let header : List ℕ = le 4 number ++ le 2 (length rows) ++ le 2 0 ++ le 8 bitmap in
    let front : length (header ++ bytes) ≡ 16 + length rows * layout_len (layout_with key types blobs) = length-append header bytes ∙ omega (arith, size) in
    length-append (header ++ bytes) (replicate (len - length (header ++ bytes)) 255)
    ∙ omega (arith, front, length-replicate {A = ℕ} (len - length (header ++ bytes)) 255)

-- its rows are read again, whatever stands behind the body
pub rows_in-rows_body : (key : KeyWidth) (types : List ColumnType) (blobs : Bool) (len number bitmap : ℕ) (rows : List Row) (behind : List ℕ) → AllByRecursion (IsStorable (layout_with key types blobs)) rows
    → length rows < 65536 → rows_in (layout_with key types blobs) (rows_body len (layout_with key types blobs) number bitmap rows ++ behind) ≡ rows
rows_in-rows_body key types blobs len number bitmap rows behind store few =
    let layout : RowLayout = layout_with key types blobs in
    let bytes : List ℕ = flat_map (bytes_of_row (layout_with key types blobs)) rows in
    let filler : List ℕ = replicate (len - length (le 4 number ++ le 2 (length rows) ++ le 2 0 ++ le 8 bitmap ++ bytes)) 255 in
    ap (λ (n : ℕ). rows_from n layout (bytes ++ filler ++ behind)) (number_of-le 2 (length rows) few)
    ∙ ap (λ (l : List ℕ). rows_from (length rows) layout l) (append_assoc bytes filler behind)
    ∙ rows_from-rows key types blobs rows (filler ++ behind) store

-- a sealed page with these rows is a good one
pub good_body : (key : KeyWidth) (types : List ColumnType) (blobs : Bool) (len number bitmap : ℕ) (rows : List Row) → AllByRecursion (IsStorable (layout_with key types blobs)) rows
    → number < 2 ^ 32 → 0 < length rows → length rows < 65536 → 16 + length rows * layout_len (layout_with key types blobs) ≤ len
    → IsGoodPage (layout_with key types blobs) number (committed (rows_body len (layout_with key types blobs) number bitmap rows))
good_body key types blobs len number bitmap rows store small some few room =
    let layout : RowLayout = layout_with key types blobs in
    let body : List ℕ = rows_body len (layout_with key types blobs) number bitmap rows in
    let count : page_count (committed body) ≡ length rows = number_of-le 2 (length rows) few in
    let size : length (committed body) ≡ len + 8 =
    length-append (body ++ replicate 4 0) (replicate 4 255) ∙ ap (λ (n : ℕ). n + 4) (length-append body (replicate 4 0) ∙ ap (λ (n : ℕ). n + 4) (length-rows_body key types blobs len number bitmap rows store room)) ∙ omega arith in
    record {
      number_is = number_of-le 4 number small;
      some = omega (arith, count);
      room = rw count (le-div (length rows) (length (committed body) - 24) (layout_len layout) (layout_some key types blobs) (omega (arith, size)));
    }

-- a data page of the store: the page of these entries has their rows
pub record IsDataPage (plan : Plan) (number : ℕ) (entries : List Entry) (page : List ℕ) : Type 0 where
  pub good : IsGoodPage (row_layout plan) number page
  pub rows : rows_in (row_layout plan) page ≡ map stored_row entries

pub data_page : (key : KeyWidth) (types : List ColumnType) (blobs : Bool) (plan : Plan) (number : ℕ) (entries : List Entry) → layout_with key types blobs ≡ row_layout plan
    → AllByRecursion (IsStorable (row_layout plan)) (map stored_row entries) → number < 2 ^ 32 → 0 < length (map stored_row entries) → length (map stored_row entries) < 65536
    → 16 + length (map stored_row entries) * layout_len (row_layout plan) ≤ plan.geometry.page - 8 → IsDataPage plan number entries (committed (data_body plan number entries))
data_page key types blobs plan number entries same store small some few room =
    let bits : ℕ = bitmap_of plan entries in
    let rows : List Row = map stored_row entries in
    let len : ℕ = plan.geometry.page - 8 in
    let S : RowLayout → Type 0 = λ l. AllByRecursion (IsStorable l) (map stored_row entries) in
    let R : RowLayout → Type 0 = λ l. 16 + length (map stored_row entries) * layout_len l ≤ plan.geometry.page - 8 in
    let stored = subst S (sym same) store in
    let G : RowLayout → Type 0 = λ l. IsGoodPage l number (committed (rows_body (plan.geometry.page - 8) l number (bitmap_of plan entries) (map stored_row entries))) in
    let E : RowLayout → Type 0 = λ l. rows_in l (committed (rows_body (plan.geometry.page - 8) l number (bitmap_of plan entries) (map stored_row entries))) ≡ map stored_row entries in
    record {
      good = subst G same (good_body key types blobs len number bits rows stored small some few (subst R (sym same) room));
      rows = subst E same (ap (λ (l : List ℕ). rows_in (layout_with key types blobs) l) (append_assoc (rows_body len (layout_with key types blobs) number bits rows) (replicate 4 0) (replicate 4 255))
          ∙ rows_in-rows_body key types blobs len number bits rows (replicate 4 0 ++ replicate 4 255) stored few);
    }

behind_six : (a b c d e f : Bool) → (a && (b && (c && (d && (e && (f && false)))))) ≡ false
behind_six false b c d e f = refl
behind_six true false c d e f = refl
behind_six true true false d e f = refl
behind_six true true true false e f = refl
behind_six true true true true false f = refl
behind_six true true true true true false = refl
behind_six true true true true true true = refl

-- a body with a header isn't blank
pub rows_body-begun : (len : ℕ) (layout : RowLayout) (number bitmap : ℕ) (rows : List Row) → all_are 255 (rows_body len layout number bitmap rows) ≡ false
rows_body-begun len layout number bitmap rows =
    behind_six (byte_at 0 number == 255) (byte_at 1 number == 255) (byte_at 2 number == 255) (byte_at 3 number == 255) (byte_at 0 (length rows) == 255) (byte_at 1 (length rows) == 255)

-- the rows of records whose keys ascend
pub entries-ascend : (above : Option ℕ) (entries : List Entry) → ((entry : Entry) → slice_get entries 0 ≡ Some entry → is_above above entry.kept.key ≡ true)
    → ((i j : ℕ) (a b : Entry) → i < j → slice_get entries i ≡ Some a → slice_get entries j ≡ Some b → a.kept.key < b.kept.key) → Ascends above (map stored_row entries)
entries-ascend above [] first ascending = tt
entries-ascend above (entry ∷ entries) first ascending = (
  first entry refl,
  entries-ascend (Some entry.kept.key) entries (λ next is. lt-ltb entry.kept.key next.kept.key (ascending 0 1 entry next (omega arith) refl is))
      (λ i j a b less. ascending (suc i) (suc j) a b (omega (arith, less))),
)
