-- What the kept pages of a table read as.
use Rattle.std.proofs.Common.{◌≡◌, ℕ, suc, ◌+◌, ◌-◌, ◌*◌, ◌^◌, ◌<◌, ◌≤◌, ◌⊎◌, Bool, true, Option, Some, None, IfSome, List, length, map, take, drop, sym, ◌∙◌, ap, subst, arith, inl, inr}
use Rattle.std.proofs.Math.Nat.{le-div_iff_mul-le, mul-le-mul_left}
use Rattle.std.proofs.lemmas.Bool.{cases_lt, false≢true}
use Rattle.fl_parts.proofs.FullEntries.{full-on}
use Rattle.std.proofs.lemmas.List.{length-map, length-take-le, length-drop, take_all}
use Rattle.std.proofs.lemmas.List.Sums.{sum_by-take-le}
use Rattle.std.specs.List.{slice_get, sum}
use Rattle.fl_mark.specs.Mark.{state_of_page}
use Rattle.fl_mark.specs.declared.page_state.PageState.TheVariants.{Committed, Void}
use Rattle.fl_mark.proofs.InModel.{model_state}
use Rattle.fl_model.specs.Record.{Plan, row_layout, row_len, rows_per_page, has_var}
use Rattle.fl_model.specs.Ring as model
use Rattle.fl_model.specs.Row.{stored_row}
use Rattle.fl_model.specs.Table.{Table, Entry, DataRing, shape_of, written}
use Rattle.fl_model.specs.Facts.{FitsPlan, BlobFits, is_some_ring}
use Rattle.fl_model.specs.Layout.{data_body, committed, full_of}
use Rattle.fl_index.specs.Page.{full_view}
use Rattle.fl_model.specs.Image.{IsRingImage, HoldsRows, rows_at}
use Rattle.fl_model.proofs.Lists.{slice_get-short, slice_get-drop, slice_get-front, each-drop, each-take, take_none, each-at, sum_by-next}
use Rattle.fl_model.proofs.BlobEnds.{AreNumbered}
use Rattle.fl_model.proofs.StoredRows.{all-stored}
use Rattle.fl_parts.proofs.BlobRows.{written-numbered}
use Rattle.fl_parts.proofs.Loose.{IsLoose}
use Rattle.fl_page.specs.Page.{IsGoodPage, rows_in}
use Rattle.fl_page.proofs.DataPages.{data_page}
use Rattle.fl_ring.specs.Ring.{OnRing, place}
use Rattle.fl_ring.proofs.Found.{committed_state}
use Rattle.fl_schema.specs.Form.{layout_with}
use Rattle.fl_schema.specs.declared.column.ColumnType.{ColumnType}
use Rattle.fl_schema.specs.declared.schema.KeyWidth.{KeyWidth}
use Rattle.fl_ring.proofs.Images.{committed_is}
use Rattle.fl_parts.specs.Pages.{bytes_in}
use Rattle.fl_parts.specs.Reading.{full_on}
use Rattle.fl_parts.proofs.States.{shape_in, state_of, HaveSize, to-image}
use Rattle.fl_find.specs.Pages.{rows_on, rows_where}

-- the blobs of a table without pending records begin on pages whose numbers fit
pub table-numbered : (plan : Plan) (table : Table) → IsLoose plan table → table.pending ≡ 0 → AreNumbered table.entries
table-numbered plan table facts none = λ i entry blob e is some.
    let there : slice_get (written table) i ≡ Some entry = ap (λ (es : List Entry). slice_get es i) (take_all (length table.entries - table.pending) table.entries (omega (arith, none))) ∙ e in
    by_ring entry.page table.var facts.blobs.has (has entry blob is (each-at (FitsPlan plan) table.entries i entry facts.kept.fit e).blob) (written-numbered plan table facts.blobs i entry blob there is some)
  where
    has : (entry : Entry) (blob : List ℕ) → entry.kept.blob ≡ Some blob → BlobFits plan entry entry.kept.blob → has_var plan ≡ true
    has entry blob is fits = (subst (BlobFits plan entry) is fits).0

    by_ring : (page : ℕ) (o : Option model.Ring) → is_some_ring o ≡ has_var plan → has_var plan ≡ true → IfSome o (λ ring. page + 1 < 2 ^ 32) → page + 1 < 2 ^ 32
    by_ring page None has is h = absurd (false≢true (has ∙ is))
    by_ring page (Some ring) has is h = h

module _ (page : ℕ → List ℕ) (first : ℕ) (plan : Plan) (table : Table) (key : KeyWidth) (types : List ColumnType) (blobs : Bool) (same : layout_with key types blobs ≡ row_layout plan)
    (limit : plan.blob_limit ≤ 1500) (facts : IsLoose plan table) (none : table.pending ≡ 0) (large : 64 ≤ plan.geometry.page) (room : row_len plan + 24 ≤ plan.geometry.page) (some_row : 1 ≤ row_len plan)
    (short : plan.geometry.page ≤ 4096) (sizes : HaveSize first plan page) (on : OnRing (shape_in first plan) page (state_of plan table)) where
  image : IsRingImage (shape_of plan DataRing) table.rows (bytes_in page first plan DataRing) (HoldsRows plan table)
  image = to-image page first plan table sizes large facts.rows on

  -- the first entries of the pages before
  before : ℕ → ℕ
  before i = sum (take i table.rows.counts)

  within : (i c : ℕ) → slice_get table.rows.counts i ≡ Some c → sum (take i table.rows.counts) + c ≤ length table.entries
  within i c e =
      let next : sum (take (suc i) table.rows.counts) ≡ sum (take i table.rows.counts) + c = sum_by-next (λ (n : ℕ). n) table.rows.counts i c e in
      omega (arith, next, sum_by-take-le (λ (n : ℕ). n) table.rows.counts (suc i), facts.kept.counted, none)

  as_many : (i c : ℕ) → slice_get table.rows.counts i ≡ Some c → length (rows_at table i c) ≡ c
  as_many i c e = length-take-le c (drop (sum (take i table.rows.counts)) table.entries) (omega (arith, length-drop (sum (take i table.rows.counts)) table.entries, within i c e))

  few : (i c : ℕ) → slice_get table.rows.counts i ≡ Some c → 16 + c * row_len plan ≤ plan.geometry.page - 8
  few i c e =
      let le = each-at (λ count. count ≤ rows_per_page plan) table.rows.counts i c facts.kept.few_rows e in
      let fits : c * row_len plan ≤ plan.geometry.page - 24 = (le-div_iff_mul-le {x = c} {y = plan.geometry.page - 24} some_row).0 le in
      omega (arith, fits, room)

  numbered : (i c : ℕ) → AreNumbered (rows_at table i c)
  numbered i c = λ j entry blob e is some. table-numbered plan table facts none (sum (take i table.rows.counts) + j) entry blob
      (sym (slice_get-drop (sum (take i table.rows.counts)) table.entries j) ∙ slice_get-front c (drop (sum (take i table.rows.counts)) table.entries) j entry e) is some

  at : ℕ → List ℕ
  at i = page (place (shape_in first plan) (model.oldest table.rows + i))

  -- a kept page, by its count
  pub record IsKept (i c : ℕ) : Type 0 where
    pub good : state_of_page (page (place (shape_in first plan) (model.oldest table.rows + i))) ≡ Committed →
        IsGoodPage (row_layout plan) (model.oldest table.rows + i) (page (place (shape_in first plan) (model.oldest table.rows + i)))
    pub rows : rows_on (row_layout plan) (page (place (shape_in first plan) (model.oldest table.rows + i))) ≡ map stored_row (rows_at table i c)

  pub kept : (i c : ℕ) → slice_get table.rows.counts i ≡ Some c → IsKept i c
  kept i c e = by_count (cases_lt 0 c)
    where
      by_count : (0 < c) ⊎ (c ≤ 0) → IsKept i c
      by_count (inl some) =
          let is : page (place (shape_in first plan) (model.oldest table.rows + i)) ≡ committed (data_body plan (model.oldest table.rows + i) (rows_at table i c)) = image.kept i c e some in
          let many : length (map stored_row (rows_at table i c)) ≡ c = length-map (rows_at table i c) stored_row ∙ as_many i c e in
          let lt = slice_get-short table.rows.counts i c e in
          let sized = few i c e in
          let d = data_page key types blobs plan (model.oldest table.rows + i) (rows_at table i c) same
          (all-stored plan (rows_at table i c) (numbered i c) (each-take (FitsPlan plan) c (drop (sum (take i table.rows.counts)) table.entries) (each-drop (FitsPlan plan) (sum (take i table.rows.counts)) table.entries facts.kept.fit)))
          (omega (arith, lt, facts.rows.not_negative, facts.number)) (omega (arith, many, some)) (omega (arith, many, small c sized)) (omega (arith, ap (λ n. n * row_len plan) many, sized)) in
          let state : state_of_page (page (place (shape_in first plan) (model.oldest table.rows + i))) ≡ Committed =
          ap state_of_page (is ∙ committed_is (data_body plan (model.oldest table.rows + i) (rows_at table i c))) ∙ committed_state (data_body plan (model.oldest table.rows + i) (rows_at table i c)) in
          record {
            good = λ s. subst (λ (p : List ℕ). IsGoodPage (row_layout plan) (model.oldest table.rows + i) p) (sym is) d.good;
            rows = ap (λ s. rows_where s (row_layout plan) (page (place (shape_in first plan) (model.oldest table.rows + i)))) state ∙ (ap (rows_in (row_layout plan)) is ∙ d.rows);
          }
        where
          small : (n : ℕ) → 16 + n * row_len plan ≤ plan.geometry.page - 8 → n < 65536
          small n h = let k : n * 1 ≤ n * row_len plan = mul-le-mul_left n some_row in omega (arith, h, k, short)
      by_count (inr zero_or) =
          let zero_is : c ≡ 0 = omega (arith, zero_or) in
          let state : state_of_page (page (place (shape_in first plan) (model.oldest table.rows + i))) ≡ Void =
          (model_state (page (place (shape_in first plan) (model.oldest table.rows + i))) (omega (arith, sizes (model.oldest table.rows + i), large))).void.1 (image.void i (e ∙ ap (λ (n : ℕ). Some n) zero_is)) in
          record {
            good = λ s. absurd (no (sym state ∙ s));
            rows = ap (λ s. rows_where s (row_layout plan) (page (place (shape_in first plan) (model.oldest table.rows + i)))) state
                ∙ (ap (map stored_row) (sym (take_none (drop (sum (take i table.rows.counts)) table.entries))) ∙ ap (λ n. map stored_row (take n (drop (sum (take i table.rows.counts)) table.entries))) (sym zero_is));
          }
        where
          no : Void ≡ Committed → ⊥
          no e = cc

  -- what its full entry tells beside the bitmap
  pub full-kept : (i c : ℕ) → slice_get table.rows.counts i ≡ Some c → full_view (full_on (row_layout plan) (page (place (shape_in first plan) (model.oldest table.rows + i)))) ≡ full_of (rows_at table i c)
  full-kept i c e = full-on (row_layout plan) (page (place (shape_in first plan) (model.oldest table.rows + i))) (rows_at table i c) (kept i c e).rows (numbered i c)

  pub length-kept : (i c : ℕ) → slice_get table.rows.counts i ≡ Some c → length (rows_on (row_layout plan) (page (place (shape_in first plan) (model.oldest table.rows + i)))) ≡ c
  length-kept i c e = ap length (kept i c e).rows ∙ (length-map (rows_at table i c) stored_row ∙ as_many i c e)
