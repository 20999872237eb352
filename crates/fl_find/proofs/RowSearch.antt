-- Rows of a page, looked for by their keys.
use Rattle.std.proofs.Common.{◌≡◌, ℕ, ◌+◌, ◌-◌, ◌*◌, ◌<◌, ◌≤◌, ⊎_elim, Bool, Some, List, length, take, drop, sym, ◌∙◌, ap, arith}
use Rattle.std.specs.List.{slice_get}
use Rattle.std.proofs.lemmas.Bool.{cases_lt}
use Rattle.std.proofs.lemmas.List.{drop-drop}
use Rattle.fl_mark.specs.Mark.{state_of_page}
use Rattle.fl_mark.specs.declared.page_state.PageState.{PageState}
use Rattle.fl_mark.specs.declared.page_state.PageState.TheVariants.{Committed}
use Rattle.fl_model.specs.Record.{RowLayout, layout_len}
use Rattle.fl_model.specs.Row.{Row, row_in}
use Rattle.fl_model.proofs.Lists.{slice_get-some, slice_get-short}
use Rattle.fl_page.specs.Header.{page_count}
use Rattle.fl_page.specs.Page.{rows_from, row_at, key_at}
use Rattle.fl_page.proofs.RowBytes.{slice_get-rows_from}
use Rattle.fl_page.proofs.RowsFrom.{length-rows_from}
use Rattle.fl_schema.specs.Form.{layout_with}
use Rattle.fl_schema.specs.declared.column.ColumnType.{ColumnType}
use Rattle.fl_schema.specs.declared.schema.KeyWidth.{KeyWidth}
use Rattle.fl_find.specs.Pages.{rows_on, rows_where}
use Rattle.fl_find.specs.Rows.{RowsRise, LacksKey}

-- the rows of a committed page, seen through a view
pub rows-view : (layout view_layout : RowLayout) (page view_page : List ℕ) (count : ℕ) → state_of_page page ≡ Committed → view_page ≡ page → view_layout ≡ layout → count ≡ page_count page →
    rows_on layout page ≡ rows_from count view_layout (drop 16 view_page)
rows-view layout view_layout page view_page count state page_is layout_is count_is =
    ap (λ (s : PageState). rows_where s layout page) state
    ∙ (ap (λ (n : ℕ). rows_from n layout (drop 16 page)) (sym count_is)
    ∙ (ap (λ (l : RowLayout). rows_from count l (drop 16 page)) (sym layout_is) ∙ ap (λ (p : List ℕ). rows_from count view_layout (drop 16 p)) (sym page_is)))

-- the key of a row is that of its bytes
pub row-key : (key : KeyWidth) (types : List ColumnType) (blobs : Bool) (count i : ℕ) (page : List ℕ) (row : Row) → slice_get (rows_from count (layout_with key types blobs) (drop 16 page)) i ≡ Some row →
    row.key ≡ key_at (layout_with key types blobs) page i
row-key key types blobs count i page row e =
    let lt = slice_get-short (rows_from count (layout_with key types blobs) (drop 16 page)) i row e in
    let few : i < count = omega (arith, lt, length-rows_from count (layout_with key types blobs) (drop 16 page)) in
    let n = layout_len (layout_with key types blobs) in
    let one : 16 + i * layout_len (layout_with key types blobs) + layout_len (layout_with key types blobs) - (16 + i * layout_len (layout_with key types blobs)) ≡ layout_len (layout_with key types blobs) = omega arith in
    let is : slice_get (rows_from count (layout_with key types blobs) (drop 16 page)) i ≡ Some (row_in (layout_with key types blobs) (row_at (layout_with key types blobs) page i)) =
    slice_get-rows_from key types blobs count i (drop 16 page) few
    ∙ ap (λ (l : List ℕ). Some (row_in (layout_with key types blobs) l)) (ap (λ (l : List ℕ). take (layout_len (layout_with key types blobs)) l) (drop-drop (i * layout_len (layout_with key types blobs)) 16 page)
    ∙ sym (ap (λ (k : ℕ). take k (drop (16 + i * layout_len (layout_with key types blobs)) page)) one)) in
    same (sym e ∙ is)
  where
    same : Some row ≡ Some (row_in (layout_with key types blobs) (row_at (layout_with key types blobs) page i)) → row.key ≡ key_at (layout_with key types blobs) page i
    same k = let r : row ≡ row_in (layout_with key types blobs) (row_at (layout_with key types blobs) page i) = cc in ap (λ (x : Row). x.key) r

module _ (rows : List Row) (at : ℕ → ℕ) (each : (i : ℕ) (row : Row) → slice_get rows i ≡ Some row → row.key ≡ at i) (rise : RowsRise rows) where
  pub keys-rise : (i j : ℕ) → i ≤ j → j < length rows → at i ≤ at j
  keys-rise i j le lt = ⊎_elim
      (λ less.
      let a = slice_get-some rows i (omega (arith, less, lt)) in
      let b = slice_get-some rows j lt in
      let up = rise i j a.0 b.0 less a.1 b.1 in
      omega (arith, up, each i a.0 a.1, each j b.0 b.1))
      (λ ge. let same : i ≡ j = omega (arith, le, ge) in omega (arith, ap at same))
      (cases_lt i j)

  pub lacks : (key place : ℕ) → ((i : ℕ) → i < place → at i < key) → (place < length rows → key < at place) → LacksKey rows key
  lacks key place below above i row e k =
      let lt = slice_get-short rows i row e in
      let key_is = each i row e in
      ⊎_elim
      (λ less. let b = below i less in omega (arith, b, key_is, k))
      (λ ge.
      let a = above (omega (arith, ge, lt)) in
      let up = keys-rise place i ge lt in
      omega (arith, a, up, key_is, k))
      (cases_lt i place)
