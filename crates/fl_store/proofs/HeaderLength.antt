-- The text of a configuration that accepted lines make has room in the header of its images.
use Rattle.std.proofs.Common.{◌≡◌, ℕ, ℤ, pos, negsuc, suc, ◌+◌, ◌-◌, ◌*◌, ◌<◌, ◌≤◌, Bool, true, false, ◌&&◌, ◌||◌, nat_le, nat_lt, Option, Some, None, List, [], ◌∷◌, ◌++◌, length, map, replicate, codes, decimal, length-append, refl, sym, ap, subst, arith, ◌==◌, unwrap_or, if◌then◌else◌}
use Rattle.std.specs.Fmt.{signed_decimal}
use Rattle.std.specs.List.{list_all, slice_split, flat_map, join_with_byte}
use Rattle.std.proofs.lemmas.Bool.{and_parts, or_parts, leb-true, ltb-false}
use Rattle.std.proofs.lemmas.Bool.Decides.{nat_tests}
use Rattle.std.proofs.lemmas.Fmt.{length-decimal-le}
use Rattle.std.proofs.lemmas.List.{length-map, length-replicate}
use Rattle.fl_base.specs.declared.types.Geometry.{Geometry}
use Rattle.fl_config.specs.Whole.{Makes}
use Rattle.fl_config.proofs.Texts.{column_name-is, name_of-short}
use Rattle.fl_image.specs.Header.{IsAccepted}
use Rattle.fl_image.proofs.AcceptedLines.{IsTaken, AreTaken, Stands, accepted-stands}
use Rattle.fl_image.proofs.ColumnWords.{named-are_typed}
use Rattle.fl_image.proofs.ReadWords.{IsTableRead}
use Rattle.fl_model.specs.Record.{Column, Plan, Config}
use Rattle.fl_schema.specs.Types.{column_of}
use Rattle.fl_schema.specs.declared.column.ColumnType.{ColumnType}
use Rattle.fl_words.specs.Command.{TableLine}
use Rattle.fl_words.specs.Config as words
use Rattle.fl_words.specs.Config.{Lines, plan_of, columns_in, bad_log, first_fault, table_faults}
use Rattle.fl_words.specs.Grammar.{greatest_number, is_name, is_letter, is_digit}
use Rattle.fl_words.specs.Medium.{column_name, line_text, device_text, table_text, header}
use Rattle.fl_words.proofs.Tests.{test-passes}
use Rattle.fl_script.proofs.Numbers.{IsSigned}
use Rattle.fl_image.proofs.Made.{made-by}

-- the bytes of words with one more for each
abbrev spaced : List (List ℕ) → ℕ
spaced [] = 0
spaced (word ∷ words) = length word + 1 + spaced words

joined : (c : ℕ) (words : List (List ℕ)) → length (join_with_byte c words) ≤ spaced words
joined c [] = omega arith
joined c (word ∷ []) = omega arith
joined c (word ∷ next ∷ words) = omega (arith, joined c (next ∷ words), length-append word (c ∷ join_with_byte c (next ∷ words)))

lined : (words : List (List ℕ)) → length (line_text words) ≤ spaced words + 1
lined words = omega (arith, joined 32 words, length-append (join_with_byte 32 words) (10 ∷ []))

-- ---- the words

decimal-short : (n : ℕ) → n ≤ greatest_number → length (decimal n) ≤ 20
decimal-short n le = length-decimal-le 20 n (omega arith) (omega (arith, le)) (omega (arith, le))

signed-short : (z : ℤ) → IsSigned z → length (signed_decimal z) ≤ 21
signed-short (pos n) le = omega (arith, decimal-short n (omega (arith, le)))
signed-short (negsuc n) le = omega (arith, decimal-short (suc n) (omega (arith, le)))

-- the word for full index entries
format-short : (full : Bool) → spaced (if full then codes "index2" ∷ [] else []) ≤ 7
format-short true = omega arith
format-short false = omega arith

-- .. and those for a log, whose blocks are few
log-short : (log : Option ℕ) → bad_log log ≡ false → spaced (if nat_lt 0 (unwrap_or log 0) then codes "rlc" ∷ decimal (unwrap_or log 0) ∷ [] else []) ≤ 10
log-short None few = omega arith
log-short (Some blocks) few = by_some (nat_lt 0 blocks)
  where
    short : length (decimal blocks) ≤ 5
    short = let most : blocks ≤ 16384 = ltb-false 16384 blocks (or_parts (nat_lt blocks 3) (nat_lt 16384 blocks) few).1 in length-decimal-le 5 blocks (omega arith) (omega (arith, most)) (omega (arith, most))

    by_some : (some : Bool) → spaced (if some then codes "rlc" ∷ decimal blocks ∷ [] else []) ≤ 10
    by_some true = omega (arith, short)
    by_some false = omega arith

spaced-append : (a b : List (List ℕ)) → spaced (a ++ b) ≡ spaced a + spaced b
spaced-append [] b = omega arith
spaced-append (word ∷ a) b = omega (arith, spaced-append a b)

name-short : (name : List ℕ) → is_name name ≡ true → length name ≤ 8
name-short [] h = omega arith
name-short (byte ∷ bytes) h =
    leb-true (length (byte ∷ bytes)) 8 (and_parts (is_letter byte && list_all (λ b. is_letter b || is_digit b) bytes) (nat_le (length (byte ∷ bytes)) 8) h).1

types-short : (types : List ColumnType) → spaced (map column_name (map column_of types)) ≤ 4 * length types
types-short [] = omega arith
types-short (of ∷ types) =
    let short : length (column_name (column_of of)) ≤ 3 = subst (λ (l : List ℕ). length l ≤ 3) (sym (column_name-is of)) (name_of-short of) in
    omega (arith, types-short types, short)

columns-short : (cols : Option (List Column)) (word : List ℕ) → columns_in word ≡ cols → length (unwrap_or cols []) ≤ 8 → length (join_with_byte 44 (map column_name (unwrap_or cols []))) ≤ 32
columns-short None word is few = omega arith
columns-short (Some columns) word is few =
    let typed = named-are_typed (slice_split (λ byte. byte == 44) word) columns is in
    let count : length typed.types ≤ 8 = omega (arith, few, length-map typed.types column_of, ap (λ (l : List Column). length l) typed.are) in
    subst (λ (l : List Column). length (join_with_byte 44 (map column_name l)) ≤ 32) typed.are (omega (arith, joined 44 (map column_name (map column_of typed.types)), types-short typed.types, count))

-- ---- the lines

device-short : (geometry : Geometry) → geometry.page ≤ greatest_number → geometry.block ≤ greatest_number → length (device_text geometry) ≤ 50
device-short geometry page block =
    omega (arith, lined (codes "device" ∷ decimal geometry.page ∷ decimal geometry.block ∷ []), decimal-short geometry.page page, decimal-short geometry.block block)

module _ (geometry : Geometry) (before : List Plan) (line : TableLine) (read : IsTableRead line) (passes : first_fault (table_faults geometry before line) ≡ None) where
  abbrev format_words : List (List ℕ)
  format_words = if line.full_index then codes "index2" ∷ [] else []

  abbrev log_words : List (List ℕ)
  log_words = if nat_lt 0 (unwrap_or line.log_blocks 0) then codes "rlc" ∷ decimal (unwrap_or line.log_blocks 0) ∷ [] else []

  few-columns : length (unwrap_or (columns_in line.columns) []) ≤ 8
  few-columns =
      ltb-false 8 (length (unwrap_or (columns_in line.columns) []))
      (test-passes (table_faults geometry before line) 4 (nat_lt 8 (length (plan_of geometry line).columns), words.ColumnCount) passes refl)

  error-short : length (decimal line.error) ≤ 3
  error-short =
      let few : line.error ≤ 255 = ltb-false 255 line.error (test-passes (table_faults geometry before line) 10 (nat_lt 255 line.error, words.ErrorBound) passes refl) in
      length-decimal-le 3 line.error (omega arith) (omega (arith, few)) (omega (arith, few))

  few-log : spaced log_words ≤ 10
  few-log = log-short line.log_blocks (test-passes (table_faults geometry before line) 15 (bad_log line.log_blocks, words.LogBlocks) passes refl)

  line-short : length (table_text (plan_of geometry line)) ≤ 240
  line-short =
      omega (
        arith,
        lined
            (codes "table" ∷ line.name ∷ decimal line.key ∷ join_with_byte 44 (map column_name (unwrap_or (columns_in line.columns) []))
            ∷ decimal line.data_blocks ∷ decimal line.index_blocks ∷ decimal line.var_blocks ∷ decimal line.bits ∷ signed_decimal line.base
            ∷ decimal line.width ∷ decimal line.error ∷ decimal line.blob_limit ∷ (format_words ++ log_words)),
        spaced-append format_words log_words,
        few-log,
        name-short line.name read.name,
        columns-short (columns_in line.columns) line.columns refl few-columns,
        decimal-short line.key read.key,
        decimal-short line.data_blocks read.data_blocks,
        decimal-short line.index_blocks read.index_blocks,
        decimal-short line.var_blocks read.var_blocks,
        decimal-short line.bits read.bits,
        signed-short line.base read.base,
        decimal-short line.width read.width,
        error-short,
        decimal-short line.blob_limit read.blob_limit,
        format-short line.full_index,
      )

taken-short : (geometry : Geometry) (before : List Plan) (plan : Plan) → IsTaken geometry before plan → length (table_text plan) ≤ 240
taken-short geometry before plan taken = subst (λ (p : Plan). length (table_text p) ≤ 240) taken.plan_is (line-short geometry before taken.line taken.read taken.passes)

-- four of them at most
tables-few : (geometry : Geometry) (before plans : List Plan) → AreTaken geometry before plans → length before ≤ 4 → length before + length plans ≤ 4
tables-few geometry before [] taken le = omega (arith, le)
tables-few geometry before (plan ∷ plans) taken le =
    let room : nat_le 4 (length before) ≡ false = test-passes (table_faults geometry before taken.0.line) 0 (nat_le 4 (length before), words.TooManyTables) taken.0.passes refl in
    let low : length before < 4 = grind (arith, nat_tests, room) in
    let size = length-append before (plan ∷ []) in
    omega (arith, size, tables-few geometry (before ++ plan ∷ []) plans taken.1 (omega (arith, low, size)))

tables-short : (geometry : Geometry) (before plans : List Plan) → AreTaken geometry before plans → length (flat_map table_text plans) ≤ 240 * length plans
tables-short geometry before [] taken = omega arith
tables-short geometry before (plan ∷ plans) taken =
    omega (arith, length-append (table_text plan) (flat_map table_text plans), taken-short geometry before plan taken.0, tables-short geometry (before ++ plan ∷ []) plans taken.1)

-- the lines of a configuration that was made were taken one behind another
made-stands : (lines : Lines) (config : Config) → IsAccepted lines → Makes lines config → Stands (Some config.geometry) config.plans
made-stands lines config accepted makes =
    let made = made-by lines config makes in
    subst (λ (device : Option Geometry). Stands device config.plans) made.device_is (subst (λ (plans : List Plan). Stands lines.device plans) made.plans_are (accepted-stands lines accepted))

-- the header has its 1,024 bytes
pub header-length : (lines : Lines) (config : Config) → IsAccepted lines → Makes lines config → length (header config) ≡ 1024
header-length lines config accepted makes =
    let stands = made-stands lines config accepted makes in
    let device = device-short config.geometry stands.0.page stands.0.block in
    let tables = tables-short config.geometry [] config.plans stands.1 in
    let few = tables-few config.geometry [] config.plans stands.1 (omega arith) in
    let text = device_text config.geometry ++ flat_map table_text config.plans in
    let size = length-append (device_text config.geometry) (flat_map table_text config.plans) in
    omega (arith, device, tables, few, size, length-append text (replicate (1024 - length text) 32), length-replicate {A = ℕ} (1024 - length text) 32)
