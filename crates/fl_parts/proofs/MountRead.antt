-- The kept pages of a table that was mounted, as its ring reads them.
use Rattle.std.proofs.Common.{◌≡◌, ℕ, ◌+◌, ◌<◌, ◌≤◌, Bool, true, false, Some, List, length, map, sym, refl, ◌∙◌, ap, subst, arith}
use Rattle.std.proofs.lemmas.List.{length-map}
use Rattle.std.specs.List.{slice_get}
use Rattle.fl_mark.specs.Mark.{state_of_page}
use Rattle.fl_mark.specs.declared.page_state.PageState.TheVariants.{Committed}
use Rattle.fl_model.specs.Image.{rows_at}
use Rattle.fl_model.specs.Layout.{full_of}
use Rattle.fl_model.specs.Record.{Plan, RowLayout, row_layout, row_len}
use Rattle.fl_model.specs.Ring as model
use Rattle.fl_model.specs.Row.{stored_row}
use Rattle.fl_model.specs.Table.{Table, Entry}
use Rattle.fl_find.specs.Pages.{rows_on}
use Rattle.fl_index.specs.Page.{full_view}
use Rattle.fl_page.specs.Page.{IsGoodPage}
use Rattle.fl_page.proofs.Views.{good-form}
use Rattle.fl_ring.specs.Ring.{OnRing, place}
use Rattle.fl_ring.proofs.PageStates.{committed-is}
use Rattle.fl_schema.specs.Form.{layout_with}
use Rattle.fl_schema.specs.declared.column.ColumnType.{ColumnType}
use Rattle.fl_schema.specs.declared.schema.KeyWidth.{KeyWidth}
use Rattle.fl_parts.specs.ByEntries.{Come, is_committed}
use Rattle.fl_parts.specs.Reading.{full_on}
use Rattle.fl_parts.proofs.PageChecks.{uncommitted-rows}
use Rattle.fl_parts.proofs.KeptPages.{kept, length-kept, full-kept}
use Rattle.fl_parts.proofs.KeyRows.{page-length}
use Rattle.fl_parts.proofs.Loose.{IsLoose}
use Rattle.fl_parts.proofs.StandingMount.{IsPageOf}
use Rattle.fl_parts.proofs.States.{shape_in, state_of, HaveSize}

-- each of them holds the rows that the table has there
pub record HoldRows (table : Table) (layout : RowLayout) (page : ℕ → List ℕ) (number : ℕ) : Type 0 where
  pub good : (i c : ℕ) → slice_get table.rows.counts i ≡ Some c → state_of_page (page (number + i)) ≡ Committed → IsGoodPage layout (number + i) (page (number + i))
  pub rows : (i c : ℕ) → slice_get table.rows.counts i ≡ Some c → rows_on layout (page (number + i)) ≡ map stored_row (rows_at table i c)
  pub many : (i c : ℕ) → slice_get table.rows.counts i ≡ Some c → length (rows_at table i c) ≡ c
  pub full : (i c : ℕ) → slice_get table.rows.counts i ≡ Some c → full_view (full_on layout (page (number + i))) ≡ full_of (rows_at table i c)

pub hold-rows : (page : ℕ → List ℕ) (first : ℕ) (plan : Plan) (table : Table) (key : KeyWidth) (types : List ColumnType) (blobs : Bool) → layout_with key types blobs ≡ row_layout plan →
    plan.blob_limit ≤ 1500 → IsLoose plan table → table.pending ≡ 0 → 64 ≤ plan.geometry.page → row_len plan + 24 ≤ plan.geometry.page → 1 ≤ row_len plan → plan.geometry.page ≤ 4096 →
    HaveSize first plan page → OnRing (shape_in first plan) page (state_of plan table) →
    HoldRows table (row_layout plan) (λ number. page (place (shape_in first plan) number)) (model.oldest table.rows)
hold-rows page first plan table key types blobs same limit facts none large room some short sizes on =
    record {
      good = λ i c e. (kept page first plan table key types blobs same limit facts none large room some short sizes on i c e).good;
      rows = λ i c e. (kept page first plan table key types blobs same limit facts none large room some short sizes on i c e).rows;
      many = λ i c e.
          sym (length-map (rows_at table i c) stored_row)
          ∙ (ap length (sym (kept page first plan table key types blobs same limit facts none large room some short sizes on i c e).rows)
          ∙ length-kept page first plan table key types blobs same limit facts none large room some short sizes on i c e);
      full = λ i c e. full-kept page first plan table key types blobs same limit facts none large room some short sizes on i c e;
    }

-- a mount comes to such a page
pub page-of : (c : Come) (layout : RowLayout) (number count : ℕ) (bytes : List ℕ) (rows : List Entry) → c.layout ≡ layout → c.rows number ≡ bytes → (state_of_page bytes ≡ Committed → IsGoodPage layout number bytes) →
    rows_on layout bytes ≡ map stored_row rows → length rows ≡ count → IsPageOf c number count rows
page-of c layout number count bytes rows layout_is bytes_are good rows_are many =
    record {
      bare = λ none. by_bare none (is_committed (c.rows number)) refl;
      committed = λ some. by_some some (is_committed (c.rows number)) refl;
      form = λ some. good-form c.layout number (c.rows number) (good_here (committed-is (state_of_page (c.rows number)) (by_some some (is_committed (c.rows number)) refl)));
      rows_are = rows_here;
      many = many;
    }
  where
    good_here : state_of_page (c.rows number) ≡ Committed → IsGoodPage c.layout number (c.rows number)
    good_here s =
        subst (λ (b : List ℕ). IsGoodPage c.layout number b) (sym bytes_are) (subst (λ (l : RowLayout). IsGoodPage l number bytes) (sym layout_is) (good (sym (ap state_of_page bytes_are) ∙ s)))

    rows_here : rows_on c.layout (c.rows number) ≡ map stored_row rows
    rows_here = ap (λ (l : RowLayout). rows_on l (c.rows number)) layout_is ∙ (ap (rows_on layout) bytes_are ∙ rows_are)

    long : length (rows_on c.layout (c.rows number)) ≡ count
    long = ap length rows_here ∙ (length-map rows stored_row ∙ many)

    by_bare : count ≡ 0 → (b : Bool) → is_committed (c.rows number) ≡ b → b ≡ false
    by_bare none true e =
        let s = committed-is (state_of_page (c.rows number)) e in
        absurd (omega (arith, long, none, page-length c.layout (c.rows number) s, (good_here s).some))
    by_bare none false e = refl

    by_some : 0 < count → (b : Bool) → is_committed (c.rows number) ≡ b → b ≡ true
    by_some some true e = refl
    by_some some false e = absurd (omega (arith, long, some, ap length (uncommitted-rows c.layout (c.rows number) e)))
