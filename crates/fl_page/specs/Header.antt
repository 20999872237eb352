-- The numbers in the header of a page.
use Rattle.std.specs.Prelude.{ℕ, List, ◌++◌, take, drop}
use Rattle.fl_model.specs.Row.{le, number_of}

abbrev pub page_number : List ℕ → ℕ
page_number page = number_of (take 4 page)

abbrev pub page_count : List ℕ → ℕ
page_count page = number_of (take 2 (drop 4 page))

abbrev pub page_bitmap : List ℕ → ℕ
page_bitmap page = number_of (take 8 (drop 8 page))

-- the header of a page, before its rows
abbrev pub header_bytes : ℕ → ℕ → ℕ → List ℕ
header_bytes number count bitmap = le 4 number ++ le 2 count ++ le 2 0 ++ le 8 bitmap
