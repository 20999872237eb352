-- What an index tells of data pages.
use Rattle.std.specs.Prelude.{ℕ, ◌-◌, ◌^◌, min, ◌==◌, ℤ, pos, negsuc, ◌-ℤ◌, unwrap_or, List, length, fold, bit_or, slice_get, if◌then◌else◌}
use Rattle.std.specs.Int.{int_div_euclid}
use Rattle.fl_model.specs.Record.{Plan}
use Rattle.fl_model.specs.Entry.{Entry, first_key, end_of_blobs}

-- the bucket of a value
abbrev pub clamped : ℤ → ℕ → ℕ
clamped (pos n) most = min n most
clamped (negsuc n) most = 0

abbrev pub bucket_of : Plan → ℤ → ℕ
bucket_of plan value = clamped (int_div_euclid (value -ℤ plan.base) (pos plan.width)) (plan.bits - 1)

-- the bitmap of rows: the buckets of their first values
abbrev pub bitmap_of : Plan → List Entry → ℕ
bitmap_of plan entries =
    if plan.bits == 0 then 0
    else fold (λ bits entry. bit_or bits (2 ^ bucket_of plan (unwrap_or (slice_get entry.kept.values 0) (pos 0)))) 0 entries

-- what a full entry tells of a data page beside its bitmap: its first key, its count of rows, and one more than the greatest
-- page that a blob in it names
pub record Full : Type 0 where
  pub first_key : ℕ
  pub count : ℕ
  pub blob_end : ℕ

-- .. of these rows; it is all zero where there are none, as in a void page
abbrev pub full_of : List Entry → Full
full_of entries = record { first_key = first_key entries; count = length entries; blob_end = end_of_blobs entries }

-- an entry of an index page; where the table's entries aren't full, its bytes are those of the bitmap alone
pub record IndexEntry : Type 0 where
  pub bitmap : ℕ
  pub full : Full

-- the entry of a data page with these rows
abbrev pub index_entry : Plan → List Entry → IndexEntry
index_entry plan entries = record { bitmap = bitmap_of plan entries; full = full_of entries }

-- an index page: the first of the data pages that it lists, one after another, and their entries
pub record IndexPage : Type 0 where
  pub first : ℕ
  pub entries : List IndexEntry
