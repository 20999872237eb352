-- Data pages, by their bytes.
use Rattle.std.proofs.Common.{◌≡◌, ℕ, ◌+◌, ◌-◌, ◌*◌, ◌/◌, ◌^◌, ◌<◌, ◌≤◌, Bool, true, false, IsTrue, ◌↔◌, Option, List, ◌++◌, length, take, drop, replicate, slice_range, refl, sym, subst, ap, ◌∙◌, arith, append_assoc, length-append, length-drop}
use Rattle.std.specs.List.{flat_map}
use Rattle.std.proofs.lemmas.Bool.{false≢true}
use Rattle.std.proofs.Math.Nat.{le-div_iff_mul-le}
use Rattle.std.proofs.Math.Seq.{take-add}
use Rattle.std.proofs.lemmas.List.{drop-drop, length-take-le}
use Rattle.std.proofs.lemmas.Nat.{le_bytes_8, from_le_bytes-to_le_bytes_8}
use Rattle.std.specs.Int.{w64, from_le_bytes}
use Rattle.fl_bitmap.specs.declared.buckets.Buckets.{Buckets}
use Rattle.fl_base.specs.Bytes.{all_are}
use Rattle.fl_model.specs.Layout.{rows_body}
use Rattle.fl_model.specs.Record.{RowLayout, layout_len}
use Rattle.fl_model.specs.Row.{Row, le, bytes_of_row}
use Rattle.fl_bitmap.specs.Bucket.{bitmap_in}
use Rattle.fl_page.specs.Header.{page_count}
use Rattle.fl_page.specs.Page.{rows_from, rows_in, IsGoodPage}
use Rattle.fl_page.proofs.DataPages.{length-rows, good_body, rows_in-rows_body}
use Rattle.fl_page.proofs.WriterSteps.{layout_some}
use Rattle.fl_schema.specs.Form.{layout_with}
use Rattle.fl_schema.specs.declared.column.ColumnType.{ColumnType}
use Rattle.fl_schema.specs.declared.schema.KeyWidth.{KeyWidth}
use Rattle.fl_page.proofs.RowsFrom.{length-rows_from}
use Rattle.fl_rules.specs.DataPage.{IsDataPage, are_plain}
use Rattle.fl_rules.specs.Endings.{IsFilled}
use Rattle.fl_rules.proofs.BytesBack.{AreBytes}
use Rattle.fl_rules.proofs.Parts.{each-taken, each-dropped, field_is, zero_is, is_zero, joined, ends_of}
use Rattle.fl_rules.proofs.RowsBack.{rows_back, rows_storable}

module _ (key : KeyWidth) (types : List ColumnType) (blobs : Bool) (page : List ℕ) (number : ℕ) (buckets : Option Buckets) (least : 24 ≤ length page) where
  -- so many rows have room
  pub rows_fit : (count : ℕ) → count ≤ (length page - 24) / layout_len (layout_with key types blobs) → 16 + count * layout_len (layout_with key types blobs) + 8 ≤ length page
  rows_fit count few =
      let fits = (le-div_iff_mul-le {x = count} {y = length page - 24} (layout_some key types blobs)).0 few in
      omega (arith, fits, least)

  abbrev front : ℕ → List Row → List ℕ
  front bitmap rows = le 4 number ++ le 2 (length rows) ++ le 2 0 ++ le 8 bitmap ++ flat_map (bytes_of_row (layout_with key types blobs)) rows

  pub is_data : AreBytes page → IsGoodPage (layout_with key types blobs) number page → are_plain (rows_in (layout_with key types blobs) page) ≡ true
      → take 8 (drop 8 page) ≡ le 8 (bitmap_in buckets (rows_in (layout_with key types blobs) page)) → all_are 0 (slice_range page 6 8) ≡ true
      → IsFilled (16 + page_count page * layout_len (layout_with key types blobs)) page → IsDataPage (layout_with key types blobs) buckets number page
  is_data each good plain bits none ends =
      let layout = layout_with key types blobs in
      let count = page_count page in
      let len = layout_len (layout_with key types blobs) in
      let rows = rows_in (layout_with key types blobs) page in
      let bitmap = bitmap_in buckets (rows_in (layout_with key types blobs) page) in
      let many : length (rows_in (layout_with key types blobs) page) ≡ page_count page = length-rows_from (page_count page) (layout_with key types blobs) (drop 16 page) in
      let fits = rows_fit (page_count page) good.room in
      let room : page_count page * layout_len (layout_with key types blobs) ≤ length (drop 16 page) = omega (arith, fits, length-drop 16 page) in
      let body : flat_map (bytes_of_row (layout_with key types blobs)) rows ≡ take (page_count page * layout_len (layout_with key types blobs)) (drop 16 page) =
      rows_back key types blobs count (drop 16 page) (each-dropped 16 page each) room in
      let head : take 16 page ≡ le 4 number ++ le 2 (length rows) ++ le 2 0 ++ le 8 bitmap =
      take-add 4 12 page
      ∙ ap (λ (l : List ℕ). take 4 page ++ l) (take-add 2 10 (drop 4 page) ∙ ap (λ (l : List ℕ). take 2 (drop 4 page) ++ take 10 l) (drop-drop 2 4 page))
      ∙ ap (λ (l : List ℕ). take 4 page ++ (take 2 (drop 4 page) ++ l)) (take-add 2 8 (drop 6 page) ∙ ap (λ (l : List ℕ). take 2 (drop 6 page) ++ take 8 l) (drop-drop 2 6 page))
      ∙ ap (λ (l : List ℕ). l ++ (take 2 (drop 4 page) ++ (take 2 (drop 6 page) ++ take 8 (drop 8 page)))) (field_is page 0 4 number each (omega (arith, least)) good.number_is)
      ∙ ap (λ (l : List ℕ). le 4 number ++ (l ++ (take 2 (drop 6 page) ++ take 8 (drop 8 page)))) (field_is page 4 2 (length rows) each (omega (arith, least)) (sym many))
      ∙ ap (λ (l : List ℕ). le 4 number ++ (le 2 (length rows) ++ (l ++ take 8 (drop 8 page)))) (zero_is page 6 2 8 refl (omega (arith, least)) none)
      ∙ ap (λ (l : List ℕ). le 4 number ++ (le 2 (length rows) ++ (le 2 0 ++ l))) bits in
      let size : length (front bitmap rows) ≡ 16 + count * len =
      length-append (le 4 number ++ le 2 (length rows) ++ le 2 0 ++ le 8 bitmap) (flat_map (bytes_of_row (layout_with key types blobs)) rows)
      ∙ ap (λ (k : ℕ). 16 + k) (ap length body ∙ length-take-le (count * len) (drop 16 page) room) in
      record {
        rows = rows;
        some = omega (arith, many, good.some);
        few = rw many good.room;
        storable = rows_storable key types blobs count (drop 16 page) (each-dropped 16 page each) room;
        plain = plain;
        bytes =
            joined page (front bitmap rows) (16 + count * len) size
            (take-add 16 (count * len) page ∙ ap (λ (l : List ℕ). l ++ take (count * len) (drop 16 page)) head
            ∙ ap (λ (l : List ℕ). (le 4 number ++ le 2 (length rows) ++ le 2 0 ++ le 8 bitmap) ++ l) (sym body)) ends;
      }

  module _ (is : IsDataPage (layout_with key types blobs) buckets number page) (small : number < 2 ^ 32) (short : length page < 65536) where
    fits : 16 + length is.rows * layout_len (layout_with key types blobs) + 8 ≤ length page
    fits = rows_fit (length is.rows) is.few

    few : length is.rows < 65536
    few =
        let each : length is.rows ≤ length is.rows * layout_len (layout_with key types blobs) = grind (arith, layout_some key types blobs) in
        omega (arith, each, fits, short)

    pub data_good : IsGoodPage (layout_with key types blobs) number page
    data_good =
        subst (λ (l : List ℕ). IsGoodPage (layout_with key types blobs) number l) (sym is.bytes)
        (good_body key types blobs (length page - 8) number (bitmap_in buckets is.rows) is.rows is.storable small (omega (arith, is.some)) few (omega (arith, fits)))

    pub data_rows : rows_in (layout_with key types blobs) page ≡ is.rows
    data_rows =
        let body = rows_body (length page - 8) (layout_with key types blobs) number (bitmap_in buckets is.rows) is.rows in
        ap (λ (l : List ℕ). rows_in (layout_with key types blobs) l) (is.bytes ∙ append_assoc body (replicate 4 0) (replicate 4 255))
        ∙ rows_in-rows_body key types blobs (length page - 8) number (bitmap_in buckets is.rows) is.rows (replicate 4 0 ++ replicate 4 255) is.storable few

    pub data_plain : are_plain (rows_in (layout_with key types blobs) page) ≡ true
    data_plain = ap are_plain data_rows ∙ is.plain

    pub data_bits : take 8 (drop 8 page) ≡ le 8 (bitmap_in buckets (rows_in (layout_with key types blobs) page))
    data_bits = ap (λ (l : List ℕ). take 8 (drop 8 l)) is.bytes ∙ ap (λ (rows : List Row). le 8 (bitmap_in buckets rows)) (sym data_rows)

    pub data_zero : all_are 0 (slice_range page 6 8) ≡ true
    data_zero = is_zero page 6 2 8 refl (ap (λ (l : List ℕ). take 2 (drop 6 l)) is.bytes)

    pub data_ends : IsFilled (16 + page_count page * layout_len (layout_with key types blobs)) page
    data_ends =
        let count : length is.rows ≡ page_count page = ap length (sym data_rows) ∙ length-rows_from (page_count page) (layout_with key types blobs) (drop 16 page) in
        ends_of page (front (bitmap_in buckets is.rows) is.rows) (16 + page_count page * layout_len (layout_with key types blobs))
        (length-append (le 4 number ++ le 2 (length is.rows) ++ le 2 0 ++ le 8 (bitmap_in buckets is.rows)) (flat_map (bytes_of_row (layout_with key types blobs)) is.rows)
        ∙ ap (λ (k : ℕ). 16 + k) (length-rows key types blobs is.rows is.storable ∙ ap (λ (k : ℕ). k * layout_len (layout_with key types blobs)) count)) is.bytes

-- ---- the bitmap's field

pub bits_are : (page : List ℕ) (v : ℕ) → AreBytes page → 24 ≤ length page → v ≡ from_le_bytes w64 (slice_range page 8 16) → take 8 (drop 8 page) ≡ le 8 v
bits_are page v each least is =
    sym (le_bytes_8 (slice_range page 8 16) v (length-take-le 8 (drop 8 page) (omega (arith, least, length-drop 8 page))) (each-taken 8 (drop 8 page) (each-dropped 8 page each)) is)

pub bits_read : (page : List ℕ) (v : ℕ) → v < 2 ^ 64 → take 8 (drop 8 page) ≡ le 8 v → from_le_bytes w64 (slice_range page 8 16) ≡ v
bits_read page v small is = ap (from_le_bytes w64) is ∙ from_le_bytes-to_le_bytes_8 v small

-- the rows of a view
pub rows_seen : (layout other : RowLayout) (page bytes : List ℕ) (count : ℕ) → bytes ≡ page → other ≡ layout → count ≡ page_count page → rows_from count other (drop 16 bytes) ≡ rows_in layout page
rows_seen layout other page bytes count bytes_are layout_is count_is =
    ap (λ (l : List ℕ). rows_from count other (drop 16 l)) bytes_are ∙ ap (λ (l : RowLayout). rows_from count l (drop 16 page)) layout_is
    ∙ ap (λ (k : ℕ). rows_from k layout (drop 16 page)) count_is

-- ---- a test of a page

module _ (key : KeyWidth) (types : List ColumnType) (blobs : Bool) (page : List ℕ) (number : ℕ) (buckets : Option Buckets) (least : 24 ≤ length page) where
  -- where its rows end
  pub rows_end : (rows len : ℕ) → rows ≡ page_count page → len ≡ layout_len (layout_with key types blobs) → IsGoodPage (layout_with key types blobs) number page → 16 + rows * len + 8 ≤ length page
  rows_end rows len rows_is len_is good =
      subst (λ (k : ℕ). 16 + k * len + 8 ≤ length page) (sym rows_is)
      (subst (λ (k : ℕ). 16 + page_count page * k + 8 ≤ length page) (sym len_is) (rows_fit key types blobs page number buckets least (page_count page) good.room))

  module _ (small : number < 2 ^ 32) (short : length page < 65536) where
    none_of : (IsDataPage (layout_with key types blobs) buckets number page → ⊥) → IsTrue false ↔ IsDataPage (layout_with key types blobs) buckets number page
    none_of never = (λ so. absurd (false≢true so), λ is. absurd (never is))

    pub ill_formed : (IsGoodPage (layout_with key types blobs) number page → ⊥) → IsTrue false ↔ IsDataPage (layout_with key types blobs) buckets number page
    ill_formed other = none_of (λ is. other (data_good key types blobs page number buckets least is small short))

    pub other_bits : (read bitmap : ℕ) (rows : List Row) → rows ≡ rows_in (layout_with key types blobs) page → bitmap ≡ bitmap_in buckets rows → bitmap < 2 ^ 64 → read ≡ from_le_bytes w64 (slice_range page 8 16)
        → (read ≡ bitmap → ⊥) → IsTrue false ↔ IsDataPage (layout_with key types blobs) buckets number page
    other_bits read bitmap rows same bitmap_is fits read_is other = none_of (λ is.
        let bits = data_bits key types blobs page number buckets least is small short in
        other (read_is ∙ bits_read page bitmap fits (bits ∙ ap (le 8) (sym (bitmap_is ∙ ap (bitmap_in buckets) same)))))

    pub not_plain : (plain : Bool) (rows : List Row) → rows ≡ rows_in (layout_with key types blobs) page → plain ≡ are_plain rows → plain ≡ false → IsTrue false ↔ IsDataPage (layout_with key types blobs) buckets number page
    not_plain plain rows same plain_is other = none_of (λ is. false≢true (sym other ∙ plain_is ∙ ap are_plain same ∙ data_plain key types blobs page number buckets least is small short))

    pub not_zero : (zero_there : Bool) → zero_there ≡ all_are 0 (slice_range page 6 8) → zero_there ≡ false → IsTrue zero_there ↔ IsDataPage (layout_with key types blobs) buckets number page
    not_zero zero_there is_there other = (
      λ so. absurd (false≢true (sym other ∙ so)),
      λ is. is_there ∙ data_zero key types blobs page number buckets least is small short,
    )
