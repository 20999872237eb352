-- The rows in bytes that stand one after another.
use Rattle.std.proofs.Common.{◌≡◌, ℕ, zero, suc, ◌+◌, ◌*◌, ◌<◌, Bool, Some, slice_get, List, [], ◌∷◌, ◌++◌, length, take, drop, refl, ap, ◌∙◌, arith, append_assoc}
use Rattle.std.proofs.lemmas.List.{take_at, drop_at, drop-drop}
use Rattle.std.specs.List.{flat_map, AllByRecursion}
use Rattle.fl_model.specs.Record.{layout_len}
use Rattle.fl_model.specs.Row.{Row, IsStorable, bytes_of_row, row_in}
use Rattle.fl_schema.specs.Form.{layout_with}
use Rattle.fl_schema.specs.declared.column.ColumnType.{ColumnType}
use Rattle.fl_schema.specs.declared.schema.KeyWidth.{KeyWidth}
use Rattle.fl_schema.proofs.RoundTrip.{row_in-bytes_of_row, length-bytes_of_row}
use Rattle.fl_page.specs.Page.{rows_from}

module _ (key : KeyWidth) (types : List ColumnType) (blobs : Bool) where
  -- the first row, and those behind it
  pub first_row : (row : Row) (rows : List Row) (behind : List ℕ) → IsStorable (layout_with key types blobs) row
      → (take (layout_len (layout_with key types blobs)) (flat_map (bytes_of_row (layout_with key types blobs)) (row ∷ rows) ++ behind) ≡ bytes_of_row (layout_with key types blobs) row)
      × (drop (layout_len (layout_with key types blobs)) (flat_map (bytes_of_row (layout_with key types blobs)) (row ∷ rows) ++ behind) ≡ flat_map (bytes_of_row (layout_with key types blobs)) rows ++ behind)
  first_row row rows behind store =
      let here = bytes_of_row (layout_with key types blobs) row in
      let there = flat_map (bytes_of_row (layout_with key types blobs)) rows in
      let size = length-bytes_of_row key types blobs row store.fits in
      let split : here ++ there ++ behind ≡ here ++ (there ++ behind) = append_assoc here there behind in (
        ap (λ (l : List ℕ). take (layout_len (layout_with key types blobs)) l) split ∙ take_at here (there ++ behind) (layout_len (layout_with key types blobs)) size,
        ap (λ (l : List ℕ). drop (layout_len (layout_with key types blobs)) l) split ∙ drop_at here (there ++ behind) (layout_len (layout_with key types blobs)) size,
      )

  -- what was written is read again
  pub rows_from-rows : (rows : List Row) (behind : List ℕ) → AllByRecursion (IsStorable (layout_with key types blobs)) rows
      → rows_from (length rows) (layout_with key types blobs) (flat_map (bytes_of_row (layout_with key types blobs)) rows ++ behind) ≡ rows
  rows_from-rows [] behind store = refl
  rows_from-rows (row ∷ rows) behind store =
      let first = first_row row rows behind store.0 in
      ap (λ (l : List ℕ). row_in (layout_with key types blobs) l ∷ rows_from (length rows) (layout_with key types blobs) (drop (layout_len (layout_with key types blobs)) (flat_map (bytes_of_row (layout_with key types blobs)) (row ∷ rows) ++ behind))) first.0
      ∙ ap (λ (l : List ℕ). row_in (layout_with key types blobs) (bytes_of_row (layout_with key types blobs) row) ∷ rows_from (length rows) (layout_with key types blobs) l) first.1
      ∙ ap (λ (r : Row). r ∷ rows_from (length rows) (layout_with key types blobs) (flat_map (bytes_of_row (layout_with key types blobs)) rows ++ behind)) (row_in-bytes_of_row key types blobs row store.0)
      ∙ ap (λ (rs : List Row). row ∷ rs) (rows_from-rows rows behind store.1)

  -- row i by its place
  pub slice_get-rows_from : (n i : ℕ) (bytes : List ℕ) → i < n
      → slice_get (rows_from n (layout_with key types blobs) bytes) i ≡ Some (row_in (layout_with key types blobs) (take (layout_len (layout_with key types blobs)) (drop (i * layout_len (layout_with key types blobs)) bytes)))
  slice_get-rows_from zero i bytes lt = absurd (omega arith)
  slice_get-rows_from (suc n) zero bytes lt =
      let none : 0 ≡ 0 * layout_len (layout_with key types blobs) = omega arith in
      ap (λ (k : ℕ). Some (row_in (layout_with key types blobs) (take (layout_len (layout_with key types blobs)) (drop k bytes)))) none
  slice_get-rows_from (suc n) (suc i) bytes lt =
      let w = layout_len (layout_with key types blobs) in
      let sum : layout_len (layout_with key types blobs) + i * layout_len (layout_with key types blobs) ≡ suc i * layout_len (layout_with key types blobs) = omega arith in
      slice_get-rows_from n i (drop w bytes) (omega arith)
      ∙ ap (λ (l : List ℕ). Some (row_in (layout_with key types blobs) (take w l))) (drop-drop (i * w) w bytes ∙ ap (λ (k : ℕ). drop k bytes) sum)
