-- A record that a table keeps, and what is told of several.
use Rattle.std.specs.Prelude.{ℕ, ◌+◌, max, ◌==◌, option_map, unwrap_or, List, length, map, fold, slice_get, if◌then◌else◌}
use Rattle.fl_model.specs.Record.{Record}

-- a record that a table keeps; a blob of length above 0 starts at this offset of this page of the variable data
pub record Entry : Type 0 where
  pub kept : Record
  pub page : ℕ
  pub offset : ℕ

-- how many bytes the blob of a record has
abbrev pub blob_len : Record → ℕ
blob_len item = unwrap_or (option_map (λ bytes. length bytes) item.blob) 0

-- the key of the first of these records, or 0
abbrev pub first_key : List Entry → ℕ
first_key entries = unwrap_or (option_map (λ entry. entry.kept.key) (slice_get entries 0)) 0

-- one more than the greatest page that a blob of these records names, or 0
abbrev pub end_of_blobs : List Entry → ℕ
end_of_blobs entries = fold max 0 (map (λ entry. if blob_len entry.kept == 0 then 0 else entry.page + 1) entries)
