-- The tests of a table line, in parts.
use Rattle.std.specs.Prelude.{ℕ, unwrap_or, ◌+◌, ◌-◌, Bool, not, ◌&&◌, ◌||◌, nat_lt, nat_le, ◌==◌, is_none, is_some, Option, List, [], ◌∷◌, ◌++◌, length}
use Rattle.std.specs.List.{list_any}
use Rattle.fl_base.specs.declared.types.Geometry.{Geometry}
use Rattle.fl_model.specs.Record.{Plan, row_len, blocks_of, bytes_equal}
use Rattle.fl_plan.specs.Refusal.{pages_misfit}
use Rattle.fl_words.specs.Command.{TableLine}
use Rattle.fl_words.specs.Config as words
use Rattle.fl_words.specs.Config.{ConfigFault, Lines, columns_in, plan_of, is_odd_ring, bad_log, bad_blob_limit}

-- its place among the tables
abbrev pub place_faults : List Plan → TableLine → List (Bool × ConfigFault)
place_faults plans line =
    (nat_le 4 (length plans), words.TooManyTables)
    ∷ (list_any (λ p. bytes_equal p.name line.name) plans, words.NameTaken) ∷ []

-- its key
abbrev pub key_faults : TableLine → List (Bool × ConfigFault)
key_faults line = (not ((line.key == 4) || (line.key == 8)), words.KeyWidth) ∷ []

-- its columns, by the word as it stands
abbrev pub word_faults : List ℕ → List (Bool × ConfigFault)
word_faults word =
    (is_none (columns_in word), words.ColumnType)
    ∷ (nat_lt 8 (length (unwrap_or (columns_in word) [])), words.ColumnCount) ∷ []

abbrev pub bad_bits : TableLine → Bool
bad_bits line = not ((line.bits == 0) || (line.bits == 8) || (line.bits == 16) || (line.bits == 64)) || ((line.bits == 0) && not (line.index_blocks == 0))

-- its other numbers
abbrev pub number_faults : Geometry → TableLine → List (Bool × ConfigFault)
number_faults geometry line =
    (nat_lt line.data_blocks 3 || nat_lt 16384 line.data_blocks, words.DataBlocks)
    ∷ (is_odd_ring line.index_blocks, words.IndexBlocks)
    ∷ (is_odd_ring line.var_blocks, words.VarBlocks)
    ∷ (bad_bits line, words.Bits)
    ∷ ((line.width == 0) || nat_lt 9223372036854775807 line.width, words.Width)
    ∷ (nat_lt 255 line.error, words.ErrorBound)
    ∷ (bad_blob_limit (plan_of geometry line), words.BlobLimit) ∷ []

-- all that its own words decide, but for the length of a row
abbrev pub line_faults : Geometry → TableLine → List (Bool × ConfigFault)
line_faults geometry line = key_faults line ++ word_faults line.columns ++ number_faults geometry line

-- the length of its row, the size of all rings with its own, whether full index entries have an index, and the blocks of its
-- log, which no table with variable data has
abbrev pub size_faults : Geometry → ℕ → Plan → Option ℕ → List (Bool × ConfigFault)
size_faults geometry blocks plan log =
    (nat_lt (geometry.page - 24) (row_len plan), words.RowTooLong)
    ∷ (pages_misfit geometry (blocks + blocks_of plan), words.DeviceTooLarge)
    ∷ (plan.full_index && (plan.index_blocks == 0), words.Format)
    ∷ (bad_log log, words.LogBlocks)
    ∷ (is_some log && not (plan.var_blocks == 0), words.LogVar) ∷ []
