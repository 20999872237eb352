-- The header of a configuration is read as that configuration.
use Rattle.std.proofs.Common.{◌≡◌, ℕ, ◌-◌, ◌<◌, ◌≤◌, Bool, true, false, not, ◌&&◌, ◌||◌, nat_lt, nat_le, Option, Some, None, IsTrue, Ok, List, [], ◌∷◌, ◌++◌, length, map, replicate, codes, decimal, refl, sym, ◌∙◌, ap, subst, append_assoc, append-nil, length-append, arith, rules}
use Rattle.std.specs.Prelude.{◌==◌, is_none, is_some, unwrap_or, if◌then◌else◌}
use Rattle.std.specs.Fmt.{signed_decimal}
use Rattle.std.specs.Option.{option_and_then}
use Rattle.std.specs.List.{AllByRecursion, list_all, list_any, slice_split, flat_map, join_with_byte}
use Rattle.std.proofs.lemmas.Bool.{and_parts}
use Rattle.std.proofs.lemmas.Bool.Decides.{nat_tests}
use Rattle.std.proofs.lemmas.List.{length-replicate, length-map}
use Rattle.fl_base.specs.declared.types.Geometry.{Geometry}
use Rattle.fl_model.specs.Record.{Column, Plan, Config, row_len, bytes_equal}
use Rattle.fl_words.specs.Command as command
use Rattle.fl_words.specs.Command.{Command, TableLine}
use Rattle.fl_words.specs.Config as words
use Rattle.fl_words.specs.Config.{ConfigFault, Lines, no_lines, configured, unless, first_fault, device_faults, table_faults, plan_of, columns_in, is_odd_ring, bad_blob_limit, too_large, bad_log}
use Rattle.fl_words.specs.Grammar.{command_of, words_command, full_index_in, log_word_in, maybe_number, is_name, is_letter, is_digit, words_in}
use Rattle.fl_words.specs.Medium.{column_name, device_text, table_text}
use Rattle.fl_words.specs.Parts.{line_parts}
use Rattle.fl_words.proofs.Tests.{test-passes}
use Rattle.fl_schema.specs.Types.{column_of}
use Rattle.fl_script.proofs.Numbers.{decimal-number, decimal-signed}
use Rattle.fl_config.specs.Whole.{is_whole_of, Makes}
use Rattle.fl_image.specs.Header.{unless_refused, after_command, after_lines, IsAccepted, IsHeaderOf}
use Rattle.fl_image.proofs.LineWords.{IsWord, IsVisible, line-words, line-is_text, text-return, line-part, spaces-text, spaces-part, spaces-words}
use Rattle.fl_image.proofs.Numbers.{decimal-word, signed-word}
use Rattle.fl_image.proofs.ColumnWords.{named-are_typed, columns-some, names-in, names-word}
use Rattle.fl_image.proofs.ReadWords.{IsTableRead}
use Rattle.fl_image.proofs.AcceptedLines.{IsTaken, AreTaken, IsDevice, Stands, accepted-stands}

-- ---- a line of words is read as its words

line-command : (word : List ℕ) (others : List (List ℕ)) → AllByRecursion IsWord (word ∷ others) → length (join_with_byte 32 (word ∷ others)) ≤ 4096 →
    command_of (join_with_byte 32 (word ∷ others)) ≡ words_command (word ∷ others)
line-command word others h short =
    let line = join_with_byte 32 (word ∷ others) in
    let fits : nat_lt 4096 (length line) ≡ false = grind (arith, nat_tests, short) in
    rw fits (ap (λ l. words_command (words_in l)) (text-return line (line-is_text (word ∷ others) h)) ∙ ap words_command (line-words (word ∷ others) (omega arith) h))

-- .. and the line after it
line-after : (lines now : Lines) (words : List (List ℕ)) (rest : List ℕ) → AllByRecursion IsWord words → after_command lines (command_of (join_with_byte 32 words)) ≡ Some now →
    after_lines lines (line_parts ((join_with_byte 32 words ++ 10 ∷ []) ++ rest)) ≡ after_lines now (line_parts rest)
line-after lines now words rest h is =
    ap (after_lines lines) (line-part words rest h) ∙ ap (option_and_then (λ next. after_lines next (line_parts rest))) is

shorter : (line rest : List ℕ) (most : ℕ) → length ((line ++ 10 ∷ []) ++ rest) ≤ most → (length line ≤ most) × (length rest ≤ most)
shorter line rest most le =
    let a = length-append (line ++ 10 ∷ []) rest in
    let b = length-append line (10 ∷ []) in
    (omega (arith, le, a, b), omega (arith, le, a, b))

-- ---- the device line

device-word : IsWord (codes "device")
device-word = record { some = omega arith; visible = (omega arith, (omega arith, (omega arith, (omega arith, (omega arith, (omega arith, tt)))))) }

abbrev device-words : Geometry → List (List ℕ)
device-words geometry = codes "device" ∷ decimal geometry.page ∷ decimal geometry.block ∷ []

device-read : (geometry : Geometry) → IsDevice geometry → words_command (device-words geometry) ≡ Ok (command.Device geometry.page geometry.block)
device-read geometry h = rw (decimal-number geometry.page h.page, decimal-number geometry.block h.block) refl

device-taken : (geometry : Geometry) → IsDevice geometry → configured no_lines (command.Device geometry.page geometry.block) ≡ Ok (record { device = Some geometry; plans = [] })
device-taken geometry h = ap (λ f. unless f (record { device = Some geometry; plans = [] })) h.passes

device-after : (geometry : Geometry) (rest : List ℕ) → IsDevice geometry → length (device_text geometry ++ rest) ≤ 4096 →
    after_lines no_lines (line_parts (device_text geometry ++ rest)) ≡ after_lines (record { device = Some geometry; plans = [] }) (line_parts rest)
device-after geometry rest h le =
    let are : AllByRecursion IsWord (device-words geometry) = (device-word, (decimal-word geometry.page h.page, (decimal-word geometry.block h.block, tt))) in
    let line = join_with_byte 32 (device-words geometry) in
    let is = line-command (codes "device") (decimal geometry.page ∷ decimal geometry.block ∷ []) are (shorter line rest 4096 le).0 ∙ device-read geometry h in
    line-after no_lines (record { device = Some geometry; plans = [] }) (device-words geometry) rest are (ap (after_command no_lines) is ∙ ap unless_refused (device-taken geometry h))

-- ---- a table line

-- the line that a plan is written as
abbrev again : Plan → TableLine
again plan = record {
  name = plan.name;
  key = plan.key_bytes;
  columns = join_with_byte 44 (map column_name plan.columns);
  data_blocks = plan.data_blocks;
  index_blocks = plan.index_blocks;
  var_blocks = plan.var_blocks;
  bits = plan.bits;
  base = plan.base;
  width = plan.width;
  error = plan.error;
  blob_limit = plan.blob_limit;
  full_index = plan.full_index;
  log_blocks = if nat_lt 0 plan.log_blocks then Some plan.log_blocks else None;
}

-- .. and the word for full index entries behind its other words
abbrev format-words : Bool → List (List ℕ)
format-words full = if full then codes "index2" ∷ [] else []

-- .. and that for a log and its blocks, where there is one
abbrev log-words : Bool → ℕ → List (List ℕ)
log-words has blocks = if has then codes "rlc" ∷ decimal blocks ∷ [] else []

abbrev ending-words : Bool → ℕ → List (List ℕ)
ending-words full blocks = format-words full ++ log-words (nat_lt 0 blocks) blocks

abbrev table-others : Plan → List (List ℕ)
table-others plan =
    plan.name ∷ decimal plan.key_bytes ∷ join_with_byte 44 (map column_name plan.columns)
    ∷ decimal plan.data_blocks ∷ decimal plan.index_blocks ∷ decimal plan.var_blocks ∷ decimal plan.bits ∷ signed_decimal plan.base
    ∷ decimal plan.width ∷ decimal plan.error ∷ decimal plan.blob_limit ∷ ending-words plan.full_index plan.log_blocks

abbrev table-words : Plan → List (List ℕ)
table-words plan = codes "table" ∷ table-others plan

table-word : IsWord (codes "table")
table-word = record { some = omega arith; visible = (omega arith, (omega arith, (omega arith, (omega arith, (omega arith, tt))))) }

index2-word : IsWord (codes "index2")
index2-word = record { some = omega arith; visible = (omega arith, (omega arith, (omega arith, (omega arith, (omega arith, (omega arith, tt)))))) }

rlc-word : IsWord (codes "rlc")
rlc-word = record { some = omega arith; visible = (omega arith, (omega arith, (omega arith, tt))) }

-- the words behind the others are words, and are read back
module _ (blocks : ℕ) (small : blocks ≤ 18446744073709551615) where
  log-are : (has : Bool) → AllByRecursion IsWord (log-words has blocks)
  log-are true = (rlc-word, (decimal-word blocks small, tt))
  log-are false = tt

  endings-are : (full has : Bool) → AllByRecursion IsWord (format-words full ++ log-words has blocks)
  endings-are true has = (index2-word, log-are has)
  endings-are false has = log-are has

  format-read : (full has : Bool) → full_index_in (format-words full ++ log-words has blocks) ≡ full
  format-read true true = refl
  format-read true false = refl
  format-read false true = refl
  format-read false false = refl

  abbrev log-word-of : Bool → Option (List ℕ)
  log-word-of has = if has then Some (decimal blocks) else None

  log-read : (full has : Bool) → log_word_in (format-words full ++ log-words has blocks) ≡ Some (log-word-of has)
  log-read true true = refl
  log-read true false = refl
  log-read false true = refl
  log-read false false = refl

  log-number : (has : Bool) → maybe_number (log-word-of has) ≡ Ok (if has then Some blocks else None)
  log-number true = rw (decimal-number blocks small) refl
  log-number false = refl

-- a log that isn't refused is there where it has blocks, and has few
log-back : (log : Option ℕ) → bad_log log ≡ false → (if nat_lt 0 (unwrap_or log 0) then Some (unwrap_or log 0) else None) ≡ log
log-back None few = refl
log-back (Some n) few =
    let some : nat_lt 0 n ≡ true = grind (arith, nat_tests, few) in
    ap (λ (b : Bool). if b then Some n else None) some

log-small : (log : Option ℕ) → bad_log log ≡ false → unwrap_or log 0 ≤ 18446744073709551615
log-small None few = omega arith
log-small (Some n) few = let most : n ≤ 16384 = grind (arith, nat_tests, few) in omega (arith, most)

name-byte : (byte : ℕ) → (is_letter byte || is_digit byte) ≡ true → 32 < byte
name-byte byte h = grind (arith, nat_tests, h)

name-bytes : (bytes : List ℕ) → list_all (λ b. is_letter b || is_digit b) bytes ≡ true → IsVisible bytes
name-bytes [] h = tt
name-bytes (byte ∷ bytes) h =
    let k = and_parts (is_letter byte || is_digit byte) (list_all (λ b. is_letter b || is_digit b) bytes) h in
    (name-byte byte k.0, name-bytes bytes k.1)

name-word : (name : List ℕ) → is_name name ≡ true → IsWord name
name-word [] h = cc
name-word (byte ∷ bytes) h =
    let k = and_parts (is_letter byte && list_all (λ b. is_letter b || is_digit b) bytes) (nat_le (length (byte ∷ bytes)) 8) h in
    let l = and_parts (is_letter byte) (list_all (λ b. is_letter b || is_digit b) bytes) k.0 in
    let first : 32 < byte = grind (arith, nat_tests, l.0) in
    record { some = omega arith; visible = (first, name-bytes bytes l.1) }

-- the columns of the word are those of its columns' names
cols-back : (cols : Option (List Column)) (word : List ℕ) → columns_in word ≡ cols → is_none cols ≡ false → columns_in (join_with_byte 44 (map column_name (unwrap_or cols []))) ≡ cols
cols-back None word is some = cc
cols-back (Some columns) word is some =
    let typed = named-are_typed (slice_split (λ byte. byte == 44) word) columns is in
    let count : 0 < length (map column_of typed.types) = subst (λ (l : List Column). 0 < length l) (sym typed.are) (columns-some word columns is) in
    subst (λ (l : List Column). columns_in (join_with_byte 44 (map column_name l)) ≡ Some l) typed.are (names-in typed.types (omega (arith, count, length-map typed.types column_of)))

cols-word : (cols : Option (List Column)) (word : List ℕ) → columns_in word ≡ cols → is_none cols ≡ false → IsWord (join_with_byte 44 (map column_name (unwrap_or cols [])))
cols-word None word is some = cc
cols-word (Some columns) word is some =
    let typed = named-are_typed (slice_split (λ byte. byte == 44) word) columns is in
    let count : 0 < length (map column_of typed.types) = subst (λ (l : List Column). 0 < length l) (sym typed.are) (columns-some word columns is) in
    subst (λ (l : List Column). IsWord (join_with_byte 44 (map column_name l))) typed.are (names-word typed.types (omega (arith, count, length-map typed.types column_of)))

-- the plan and the tests of a line, by its columns and the blocks of its log
abbrev plan_by : Geometry → TableLine → Option (List Column) → Option ℕ → Plan
plan_by geometry line cols log = record (plan_of geometry line) { columns = unwrap_or cols []; log_blocks = unwrap_or log 0 }

abbrev faults_by : Geometry → List Plan → TableLine → Option (List Column) → Option ℕ → List (Bool × ConfigFault)
faults_by geometry plans line cols log =
    let plan = plan_by geometry line cols log in
    (nat_le 4 (length plans), words.TooManyTables)
    ∷ (list_any (λ p. bytes_equal p.name line.name) plans, words.NameTaken)
    ∷ (not ((line.key == 4) || (line.key == 8)), words.KeyWidth)
    ∷ (is_none cols, words.ColumnType)
    ∷ (nat_lt 8 (length plan.columns), words.ColumnCount)
    ∷ (nat_lt line.data_blocks 3 || nat_lt 16384 line.data_blocks, words.DataBlocks)
    ∷ (is_odd_ring line.index_blocks, words.IndexBlocks)
    ∷ (is_odd_ring line.var_blocks, words.VarBlocks)
    ∷ (not ((line.bits == 0) || (line.bits == 8) || (line.bits == 16) || (line.bits == 64)) || ((line.bits == 0) && not (line.index_blocks == 0)), words.Bits)
    ∷ ((line.width == 0) || nat_lt 9223372036854775807 line.width, words.Width)
    ∷ (nat_lt 255 line.error, words.ErrorBound)
    ∷ (bad_blob_limit plan, words.BlobLimit)
    ∷ (nat_lt (geometry.page - 24) (row_len plan), words.RowTooLong)
    ∷ (too_large geometry (plans ++ plan ∷ []), words.DeviceTooLarge)
    ∷ (line.full_index && (line.index_blocks == 0), words.Format)
    ∷ (bad_log log, words.LogBlocks)
    ∷ (is_some log && not (line.var_blocks == 0), words.LogVar) ∷ []

module _ (geometry : Geometry) (before : List Plan) (line : TableLine) (read : IsTableRead line) (passes : first_fault (table_faults geometry before line) ≡ None) where
  abbrev plan : Plan
  plan = plan_of geometry line

  some-cols : is_none (columns_in line.columns) ≡ false
  some-cols = test-passes (table_faults geometry before line) 3 (is_none (columns_in line.columns), words.ColumnType) passes refl

  back : columns_in (again plan).columns ≡ columns_in line.columns
  back = cols-back (columns_in line.columns) line.columns refl some-cols

  few-log : bad_log line.log_blocks ≡ false
  few-log = test-passes (table_faults geometry before line) 15 (bad_log line.log_blocks, words.LogBlocks) passes refl

  logged : (again plan).log_blocks ≡ line.log_blocks
  logged = log-back line.log_blocks few-log

  again-passes : first_fault (table_faults geometry before (again plan)) ≡ None
  again-passes =
      ap (λ cols. first_fault (faults_by geometry before (again plan) cols (again plan).log_blocks)) back
      ∙ ap (λ log. first_fault (faults_by geometry before (again plan) (columns_in line.columns) log)) logged ∙ passes

  again-plan : plan_of geometry (again plan) ≡ plan
  again-plan =
      ap (λ cols. plan_by geometry (again plan) cols (again plan).log_blocks) back ∙ ap (λ log. plan_by geometry (again plan) (columns_in line.columns) log) logged

  table-taken : configured (record { device = Some geometry; plans = before }) (command.Table (again plan)) ≡ Ok (record { device = Some geometry; plans = before ++ plan ∷ [] })
  table-taken =
      ap (λ f. unless f (record { device = Some geometry; plans = before ++ plan_of geometry (again plan) ∷ [] })) again-passes
      ∙ ap (λ p. Ok (record { device = Some geometry; plans = before ++ p ∷ [] })) again-plan

  small : unwrap_or line.log_blocks 0 ≤ 18446744073709551615
  small = log-small line.log_blocks few-log

  table-read : words_command (table-words plan) ≡ Ok (command.Table (again plan))
  table-read =
      rw (
        read.name,
        decimal-number line.key read.key,
        decimal-number line.data_blocks read.data_blocks,
        decimal-number line.index_blocks read.index_blocks,
        decimal-number line.var_blocks read.var_blocks,
        decimal-number line.bits read.bits,
        decimal-signed line.base read.base,
        decimal-number line.width read.width,
        decimal-number line.error read.error,
        decimal-number line.blob_limit read.blob_limit,
        log-read (unwrap_or line.log_blocks 0) small line.full_index (nat_lt 0 (unwrap_or line.log_blocks 0)),
        log-number (unwrap_or line.log_blocks 0) small (nat_lt 0 (unwrap_or line.log_blocks 0)),
        format-read (unwrap_or line.log_blocks 0) small line.full_index (nat_lt 0 (unwrap_or line.log_blocks 0)),
      )
      refl

  are-words : AllByRecursion IsWord (table-words plan)
  are-words = (
    table-word,
    (
      name-word line.name read.name,
      (
        decimal-word line.key read.key,
        (
          cols-word (columns_in line.columns) line.columns refl some-cols,
          (
            decimal-word line.data_blocks read.data_blocks,
            (
              decimal-word line.index_blocks read.index_blocks,
              (
                decimal-word line.var_blocks read.var_blocks,
                (
                  decimal-word line.bits read.bits,
                  (signed-word line.base read.base, (decimal-word line.width read.width, (decimal-word line.error read.error, (decimal-word line.blob_limit read.blob_limit, endings-are (unwrap_or line.log_blocks 0) small line.full_index (nat_lt 0 (unwrap_or line.log_blocks 0)))))),
                ),
              ),
            ),
          ),
        ),
      ),
    ),
  )

  table-after-line : (rest : List ℕ) → length (table_text plan ++ rest) ≤ 4096 →
      after_lines (record { device = Some geometry; plans = before }) (line_parts (table_text plan ++ rest)) ≡ after_lines (record { device = Some geometry; plans = before ++ plan ∷ [] }) (line_parts rest)
  table-after-line rest le =
      let lines : Lines = record { device = Some geometry; plans = before } in
      let is = line-command (codes "table") (table-others plan) are-words (shorter (join_with_byte 32 (table-words plan)) rest 4096 le).0 ∙ table-read in
      line-after lines (record { device = Some geometry; plans = before ++ plan ∷ [] }) (table-words plan) rest are-words (ap (after_command lines) is ∙ ap unless_refused table-taken)

table-after : (geometry : Geometry) (before : List Plan) (of : Plan) (rest : List ℕ) → IsTaken geometry before of → length (table_text of ++ rest) ≤ 4096 →
    after_lines (record { device = Some geometry; plans = before }) (line_parts (table_text of ++ rest)) ≡ after_lines (record { device = Some geometry; plans = before ++ of ∷ [] }) (line_parts rest)
table-after geometry before of rest h =
    subst
    (λ (p : Plan). length (table_text p ++ rest) ≤ 4096 →
    after_lines (record { device = Some geometry; plans = before }) (line_parts (table_text p ++ rest)) ≡ after_lines (record { device = Some geometry; plans = before ++ p ∷ [] }) (line_parts rest))
    h.plan_is
    (table-after-line geometry before h.line h.read h.passes rest)

tables-after : (geometry : Geometry) (before plans : List Plan) (rest : List ℕ) → AreTaken geometry before plans → length (flat_map table_text plans ++ rest) ≤ 4096 →
    after_lines (record { device = Some geometry; plans = before }) (line_parts (flat_map table_text plans ++ rest)) ≡ after_lines (record { device = Some geometry; plans = before ++ plans }) (line_parts rest)
tables-after geometry before [] rest h le = ap (λ l. after_lines (record { device = Some geometry; plans = l }) (line_parts rest)) (sym (append-nil before))
tables-after geometry before (plan ∷ plans) rest h le =
    let others = flat_map table_text plans ++ rest in
    let split = append_assoc (table_text plan) (flat_map table_text plans) rest in
    let size : length (table_text plan ++ others) ≤ 4096 = subst (λ (l : List ℕ). length l ≤ 4096) split le in
    ap (λ l. after_lines (record { device = Some geometry; plans = before }) (line_parts l)) split
    ∙ table-after geometry before plan others h.0 size
    ∙ tables-after geometry (before ++ plan ∷ []) plans rest h.1 (shorter (join_with_byte 32 (table-words plan)) others 4096 size).1
    ∙ ap (λ l. after_lines (record { device = Some geometry; plans = l }) (line_parts rest)) (append_assoc before (plan ∷ []) plans)

-- ---- the spaces behind the lines, and all of it

spaces-after : (lines : Lines) (n : ℕ) → n ≤ 4096 → after_lines lines (line_parts (replicate n 32)) ≡ Some lines
spaces-after lines n le =
    let fits : nat_lt 4096 (length {A = ℕ} (replicate n 32)) ≡ false = grind (arith, nat_tests, le, length-replicate {A = ℕ} n 32) in
    let nothing : command_of (replicate n 32) ≡ Ok command.Nothing =
    rw fits (ap (λ l. words_command (words_in l)) (text-return (replicate n 32) (spaces-text n)) ∙ ap words_command (spaces-words n)) in
    ap (after_lines lines) (spaces-part n) ∙ ap (option_and_then (λ next. after_lines next [])) (ap (after_command lines) nothing)

whole-read : (geometry : Geometry) (plans : List Plan) (n : ℕ) → IsDevice geometry → AreTaken geometry [] plans → length ((device_text geometry ++ flat_map table_text plans) ++ replicate n 32) ≤ 4096 →
    after_lines no_lines (line_parts ((device_text geometry ++ flat_map table_text plans) ++ replicate n 32)) ≡ Some (record { device = Some geometry; plans = plans })
whole-read geometry plans n device taken le =
    let spaces : List ℕ = replicate n 32 in
    let others = flat_map table_text plans ++ spaces in
    let split = append_assoc (device_text geometry) (flat_map table_text plans) spaces in
    let size : length (device_text geometry ++ others) ≤ 4096 = subst (λ (l : List ℕ). length l ≤ 4096) split le in
    let behind = (shorter (join_with_byte 32 (device-words geometry)) others 4096 size).1 in
    let few : n ≤ 4096 = omega (arith, behind, length-append (flat_map table_text plans) spaces, length-replicate {A = ℕ} n 32) in
    ap (λ l. after_lines no_lines (line_parts l)) split
    ∙ device-after geometry others device size
    ∙ tables-after geometry [] plans spaces taken behind
    ∙ spaces-after (record { device = Some geometry; plans = plans }) n few

-- the lines in the header of a configuration that is accepted make it
pub header-read : (bytes : List ℕ) (lines : Lines) → length bytes ≤ 4096 → IsAccepted lines → IsHeaderOf bytes lines → after_lines no_lines (line_parts bytes) ≡ Some lines
header-read bytes lines short accepted is = by lines.device lines.plans refl refl (accepted-stands lines accepted) is.whole
  where
    by : (device : Option Geometry) (plans : List Plan) → lines.device ≡ device → lines.plans ≡ plans → Stands device plans → IsTrue (is_whole_of device plans) → after_lines no_lines (line_parts bytes) ≡ Some lines
    by None plans d p stands whole = absurd (search (rules, whole))
    by (Some geometry) [] d p stands whole = absurd (search (rules, whole))
    by (Some geometry) (plan ∷ plans) d p stands whole =
        let config : Config = record { geometry = geometry; plans = plan ∷ plans; knots = 0 } in
        let makes : Makes lines config = rw (d, p) refl in
        let text = is.text config makes in
        ap (λ l. after_lines no_lines (line_parts l)) text
        ∙ whole-read geometry (plan ∷ plans) _ stands.0 stands.1 (subst (λ (l : List ℕ). length l ≤ 4096) text short)
        ∙ ap (λ l. Some l) (rw (d, p) refl)

-- .. so that what the lines in the bytes make is the only one that has them as its header
pub only-header : (bytes : List ℕ) (found : Option Lines) (lines : Lines) → length bytes ≤ 4096 → found ≡ after_lines no_lines (line_parts bytes) → IsAccepted lines → IsHeaderOf bytes lines → found ≡ Some lines
only-header bytes found lines short is accepted head = is ∙ header-read bytes lines short accepted head

-- two configurations that are accepted have two headers
pub one-header : (bytes : List ℕ) (a b : Lines) → length bytes ≤ 4096 → IsAccepted a → IsHeaderOf bytes a → IsAccepted b → IsHeaderOf bytes b → a ≡ b
one-header bytes a b short accepted head also has =
    let same : Some a ≡ Some b = sym (header-read bytes a short accepted head) ∙ header-read bytes b short also has in cc
