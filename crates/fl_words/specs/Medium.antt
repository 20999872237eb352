-- The header of a medium, and a medium that stands for tables.
use Rattle.std.specs.Prelude.{◌≡◌, ℕ, ◌-◌, ◌*◌, List, [], ◌∷◌, ◌++◌, length, take, map, codes, decimal, if◌then◌else◌, replicate}
use Rattle.std.specs.List.{flat_map, join_with_byte}
use Rattle.std.specs.Fmt.{signed_decimal}
use Rattle.fl_base.specs.declared.types.Geometry.{Geometry}
use Rattle.fl_model.specs.Record.{Column, Plan, Config, has_log}
use Rattle.fl_model.specs.Table.{Table}
use Rattle.fl_model.specs.Image.{AreTableImages, medium_len}

-- a number with its name, for the types of columns
abbrev pub column_name : Column → List ℕ
column_name column =
    (if column.signed then codes "i" else codes "u") ++ decimal (8 * column.width)

-- words with spaces between them, and a newline
abbrev pub line_text : List (List ℕ) → List ℕ
line_text words = join_with_byte 32 words ++ 10 ∷ []

-- the canonical device and table lines
abbrev pub device_text : Geometry → List ℕ
device_text geometry = line_text (codes "device" ∷ decimal geometry.page ∷ decimal geometry.block ∷ [])

abbrev pub table_text : Plan → List ℕ
table_text plan =
    line_text (codes "table" ∷ plan.name ∷ decimal plan.key_bytes ∷ join_with_byte 44 (map column_name plan.columns)
    ∷ decimal plan.data_blocks ∷ decimal plan.index_blocks ∷ decimal plan.var_blocks ∷ decimal plan.bits ∷ signed_decimal plan.base
    ∷ decimal plan.width ∷ decimal plan.error ∷ decimal plan.blob_limit
    ∷ ((if plan.full_index then codes "index2" ∷ [] else []) ++ (if has_log plan then codes "rlc" ∷ decimal plan.log_blocks ∷ [] else [])))

-- the first 1,024 bytes of a medium
abbrev pub header : Config → List ℕ
header config =
    let text = device_text config.geometry ++ flat_map table_text config.plans in
    text ++ replicate (1024 - length text) 32

-- the medium stands for these tables
pub record IsImage (config : Config) (bytes : List ℕ) (tables : List Table) : Type 0 where
  pub len : length bytes ≡ medium_len config
  pub head : take 1024 bytes ≡ header config
  pub tables_are : AreTableImages config bytes 0 config.plans tables
