-- What a page is tested for, and a search among its rows.
use Rattle.std.proofs.Common.{◌≡◌, ℕ, ◌+◌, ◌-◌, ◌*◌, ◌/◌, ◌<◌, ◌≤◌, Bool, true, List, length, drop, slice_range, refl, sym, ◌∙◌, subst, arith, length-drop, mul-le-mul, mul-le-mul_right}
use Rattle.std.proofs.lemmas.List.{length-take-le}
use Rattle.std.proofs.lemmas.Nat.{le-div}
use Rattle.std.proofs.lemmas.Bool.{eq-eqb, eqb-true, le-leb, leb-true, and_parts}
use Rattle.fl_model.specs.Record.{RowLayout, layout_len}
use Rattle.fl_schema.specs.Form.{layout_with}
use Rattle.fl_schema.specs.declared.column.ColumnType.{ColumnType}
use Rattle.fl_schema.specs.declared.schema.KeyWidth.{KeyWidth}
use Rattle.fl_page.specs.Header.{page_number, page_count}
use Rattle.fl_page.specs.Page.{IsGoodPage, has_form}
use Rattle.fl_page.proofs.WriterSteps.{layout_some}

-- the bytes of all rows have room in a number
pub rows-fit : (count row : ℕ) → count < 65536 → row < 4294967296 → count * row < 18446744073709551616
rows-fit count row few short =
    let most : count * row ≤ 65535 * 4294967295 = mul-le-mul (let le : count ≤ 65535 = omega arith in le) (let le : row ≤ 4294967295 = omega arith in le) in
    omega (arith, most)

-- the page passes the test
pub page_good : (key : KeyWidth) (types : List ColumnType) (blobs : Bool) (number found count row : ℕ) (page : List ℕ) → found ≡ page_number page → count ≡ page_count page
    → row ≡ layout_len (layout_with key types blobs) → found ≡ number → (count ≡ 0 → ⊥) → count * row ≤ length page - 24 → IsGoodPage (layout_with key types blobs) number page
page_good key types blobs number found count row page number_is count_is row_is same some fits = record {
  number_is = sym number_is ∙ same;
  some = omega (arith, count_is, some);
  room = le-div (page_count page) (length page - 24) (layout_len (layout_with key types blobs)) (layout_some key types blobs)
      (subst (λ (n : ℕ). n * layout_len (layout_with key types blobs) ≤ length page - 24) count_is (subst (λ (n : ℕ). count * n ≤ length page - 24) row_is fits));
}

pub page_room : (count row size len : ℕ) → row ≡ size → count * row ≤ len - 24 → 24 ≤ len → 16 + count * size ≤ len
page_room count row size len is fits least = let here : count * size ≤ len - 24 = subst (λ (n : ℕ). count * n ≤ len - 24) is fits in omega (arith, here, least)

-- a row lies in its page
pub row_within : (i count row size len : ℕ) → i < count → row ≡ size → 16 + count * size ≤ len → 16 + i * row + row ≤ len
row_within i count row size len less is room =
    let next : (i + 1) * size ≤ count * size = mul-le-mul_right size (let le : i + 1 ≤ count = omega arith in le) in
    subst (λ (n : ℕ). 16 + i * n + n ≤ len) (sym is) (omega (arith, next, room))

pub length-row : (at row size : ℕ) (bytes : List ℕ) → at + row ≤ length bytes → row ≡ size → length (slice_range bytes at (at + row)) ≡ size
length-row at row size bytes within is =
    length-take-le (at + row - at) (drop at bytes) (omega (arith, length-drop at bytes)) ∙ (let all : at + row - at ≡ row = omega arith in all) ∙ is

-- the middle of what is left to search
pub middle-less : (low high : ℕ) → low < high → low + (high - low) / 2 < high
middle-less low high less = omega arith

pub search-above : (low high middle : ℕ) → low ≤ middle → middle < high → high - (middle + 1) < high - low
search-above low high middle from less = omega arith

pub search-below : (low high middle : ℕ) → low ≤ middle → middle < high → middle - low < high - low
search-below low high middle from less = omega arith

pub none-before : {P : Type 0} (i : ℕ) → i < 0 → P
none-before i less = absurd (omega (arith, less))

pub from-none : (n : ℕ) → 0 ≤ n
from-none n = omega arith

pub more-than : {m n : ℕ} → m < n → m + 1 ≤ n
more-than less = omega (arith, less)

pub up-to : {m n : ℕ} → m < n + 1 → m ≤ n
up-to less = omega (arith, less)

-- a page is good where it has the form of one
pub good-form : (layout : RowLayout) (number : ℕ) (page : List ℕ) → IsGoodPage layout number page → has_form layout number page ≡ true
good-form layout number page g = rw (eq-eqb (page_number page) number g.number_is, le-leb 1 (page_count page) g.some, le-leb (page_count page) ((length page - 24) / layout_len layout) g.room) refl

pub form-good : (layout : RowLayout) (number : ℕ) (page : List ℕ) → has_form layout number page ≡ true → IsGoodPage layout number page
form-good layout number page h =
    let a = and_parts _ _ h in
    let b = and_parts _ _ a.0 in
    record { number_is = eqb-true _ _ b.0; some = leb-true _ _ b.1; room = leb-true _ _ a.1 }
