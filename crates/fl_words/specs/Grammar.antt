-- The script: its lines, their words, and the command that a line is.
use Rattle.std.specs.Prelude.{ℕ, ◌+◌, ◌-◌, ◌*◌, Bool, false, ◌&&◌, ◌||◌, nat_lt, nat_le, ◌==◌, ℤ, pos, neg_ℤ, Option, Some, None, Result, Ok, Err, List, [], ◌∷◌, length, map, filter, fold, codes, if◌then◌else◌}
use Rattle.std.specs.List.{slice_split, list_all, starts_with}
use Rattle.fl_base.specs.declared.types.CutKind.{CutKind}
use Rattle.fl_base.specs.declared.types.CutKind.TheVariants.{Before, After, Half, Noise}
use Rattle.fl_base.specs.declared.types.KeyRange.{KeyRange}
use Rattle.fl_base.specs.declared.types.Span.{Span}
use Rattle.fl_base.specs.declared.types.Op.{Op}
use Rattle.fl_base.specs.declared.types.Op.TheVariants.{Lt, Le, Eq, Ne, Ge, Gt}
use Rattle.fl_words.specs.Command as command
use Rattle.fl_words.specs.Command.{Command, TableLine}
use Rattle.fl_model.specs.Record.{bytes_equal}

-- what is wrong with a line
pub data LineFault : Type 0 where
  Unknown : LineFault
  Form : LineFault
  Number : LineFault
  TooLong : LineFault

-- the lines of a script, each without its newline; a rest without one is a line where it isn't empty
abbrev pub no_empty_last : List (List ℕ) → List (List ℕ)
no_empty_last [] = []
no_empty_last (line ∷ []) = if length line == 0 then [] else line ∷ []
no_empty_last (line ∷ next ∷ lines) = line ∷ no_empty_last (next ∷ lines)

abbrev pub lines_of : List ℕ → List (List ℕ)
lines_of text = no_empty_last (slice_split (λ byte. byte == 10) text)

-- a line without a carriage return at its end
abbrev pub without_return : List ℕ → List ℕ
without_return [] = []
without_return (byte ∷ []) = if byte == 13 then [] else byte ∷ []
without_return (byte ∷ next ∷ bytes) = byte ∷ without_return (next ∷ bytes)

-- the parts between spaces that aren't empty
abbrev pub words_in : List ℕ → List (List ℕ)
words_in line = filter (λ word. nat_lt 0 (length word)) (slice_split (λ byte. byte == 32) line)

abbrev pub is_digit : ℕ → Bool
is_digit byte = nat_le 48 byte && nat_le byte 57

abbrev pub is_letter : ℕ → Bool
is_letter byte = nat_le 97 byte && nat_le byte 122

abbrev pub are_digits : List ℕ → Bool
are_digits word = nat_lt 0 (length word) && list_all is_digit word

abbrev pub value_of : List ℕ → ℕ
value_of word = fold (λ value digit. value * 10 + (digit - 48)) 0 word

-- the number that a word is, from a least to a greatest one
abbrev pub number_in : ℕ → ℕ → List ℕ → Result ℕ LineFault
number_in low high word =
    if are_digits word && nat_le low (value_of word) && nat_le (value_of word) high then Ok (value_of word) else Err Number

abbrev pub greatest_number : ℕ
greatest_number = 18446744073709551615

abbrev pub number : List ℕ → Result ℕ LineFault
number word = number_in 0 greatest_number word

-- the signed number that a word is
abbrev pub signed : List ℕ → Result ℤ LineFault
signed [] = Err Number
signed (byte ∷ bytes) =
    if byte == 45
    then if are_digits bytes && nat_le (value_of bytes) 9223372036854775808 then Ok (neg_ℤ (pos (value_of bytes))) else Err Number
    else if are_digits (byte ∷ bytes) && nat_le (value_of (byte ∷ bytes)) 9223372036854775807 then Ok (pos (value_of (byte ∷ bytes))) else Err Number

abbrev pub is_name : List ℕ → Bool
is_name [] = false
is_name (byte ∷ bytes) =
    is_letter byte && list_all (λ b. is_letter b || is_digit b) bytes && nat_le (length (byte ∷ bytes)) 8

abbrev pub cursor_of : List ℕ → Option ℕ
cursor_of (byte ∷ []) = if nat_le 48 byte && nat_le byte 51 then Some (byte - 48) else None
cursor_of other = None

abbrev pub op_of : List ℕ → Option Op
op_of word =
    if bytes_equal word (codes "lt") then Some Lt
    else if bytes_equal word (codes "le") then Some Le
    else if bytes_equal word (codes "eq") then Some Eq
    else if bytes_equal word (codes "ne") then Some Ne
    else if bytes_equal word (codes "ge") then Some Ge
    else if bytes_equal word (codes "gt") then Some Gt
    else None

-- 1 to 8 column numbers of at most 3 digits, joined by commas
abbrev pub columns_of : List ℕ → Option (List ℕ)
columns_of word =
    let parts = slice_split (λ byte. byte == 44) word in
    if list_all (λ part. are_digits part && nat_le (length part) 3) parts && nat_le (length parts) 8
    then Some (map value_of parts) else None

abbrev pub hex_value : ℕ → Option ℕ
hex_value byte =
    if is_digit byte then Some (byte - 48)
    else if nat_le 97 byte && nat_le byte 102 then Some (byte - 87)
    else if nat_le 65 byte && nat_le byte 70 then Some (byte - 55)
    else None

-- the bytes that pairs of hexadecimal digits are
abbrev pub onto_bytes : Option ℕ → Option ℕ → Option (List ℕ) → Option (List ℕ)
onto_bytes (Some high) (Some low) (Some bytes) = Some ((high * 16 + low) ∷ bytes)
onto_bytes (Some high) (Some low) None = None
onto_bytes (Some high) None other = None
onto_bytes None other bytes = None

abbrev pub hex_bytes : List ℕ → Option (List ℕ)
hex_bytes [] = Some []
hex_bytes (high ∷ []) = None
hex_bytes (high ∷ low ∷ digits) = onto_bytes (hex_value high) (hex_value low) (hex_bytes digits)

-- a blob word: a dash for the empty blob, or at least two digits
abbrev pub blob_word : List ℕ → Option (List ℕ)
blob_word [] = None
blob_word (byte ∷ bytes) = if bytes_equal (byte ∷ bytes) (codes "-") then Some [] else hex_bytes (byte ∷ bytes)

infixl 10 ◌>>=◌
abbrev pub ◌>>=◌ : {A B : Type 0} → Result A LineFault → (A → Result B LineFault) → Result B LineFault
(Ok x) >>= f = f x
(Err e) >>= f = Err e

-- a test of a form
abbrev pub form : {A : Type 0} → Bool → Result A LineFault → Result A LineFault
form ok others = if ok then others else Err Form

-- a part that has a form
abbrev pub part : {A B : Type 0} → Option A → (A → Result B LineFault) → Result B LineFault
part None f = Err Form
part (Some x) f = f x

abbrev pub each_signed : List (List ℕ) → Result (List ℤ) LineFault
each_signed [] = Ok []
each_signed (word ∷ words) = do
  value ← signed word
  values ← each_signed words
  Ok (value ∷ values)

-- low and high, and where two more words follow a span of values
abbrev pub with_range : {A : Type 0} → List (List ℕ) → (KeyRange → Option Span → Result A LineFault) → Result A LineFault
with_range (low ∷ high ∷ []) f = do
  l ← number low
  h ← number high
  f (record { low = l; high = h }) None
with_range (low ∷ high ∷ least ∷ greatest ∷ []) f = do
  l ← number low
  h ← number high
  a ← signed least
  b ← signed greatest
  f (record { low = l; high = h }) (Some (record { low = a; high = b }))
with_range other f = Err Form

abbrev pub device_line : List (List ℕ) → Result Command LineFault
device_line (page ∷ block ∷ []) = do
  p ← number page
  b ← number block
  Ok (command.Device p b)
device_line other = Err Form

-- the words behind those of a table: first the word for full index entries, where it is there
abbrev pub full_index_in : List (List ℕ) → Bool
full_index_in [] = false
full_index_in (word ∷ words) = bytes_equal word (codes "index2")

-- .. and then the word for a log and its blocks
abbrev pub log_word : List (List ℕ) → Option (Option (List ℕ))
log_word [] = Some None
log_word (word ∷ log ∷ []) = if bytes_equal word (codes "rlc") then Some (Some log) else None
log_word other = None

abbrev pub log_word_in : List (List ℕ) → Option (Option (List ℕ))
log_word_in [] = Some None
log_word_in (word ∷ words) = log_word (if bytes_equal word (codes "index2") then words else word ∷ words)

abbrev pub maybe_number : Option (List ℕ) → Result (Option ℕ) LineFault
maybe_number None = Ok None
maybe_number (Some word) = do
  n ← number word
  Ok (Some n)

abbrev pub table_line : List (List ℕ) → Result Command LineFault
table_line (name ∷ key ∷ columns ∷ rows ∷ index ∷ var ∷ bits ∷ base ∷ width ∷ error ∷ blob ∷ words) =
    form (is_name name) (part (log_word_in words) (λ log. do
      k ← number key
      d ← number rows
      i ← number index
      v ← number var
      n ← number bits
      b ← signed base
      w ← number width
      e ← number error
      l ← number blob
      r ← maybe_number log
      Ok (command.Table (record { name = name; key = k; columns = columns; data_blocks = d; index_blocks = i; var_blocks = v; bits = n; base = b; width = w; error = e; blob_limit = l; full_index = full_index_in words; log_blocks = r }))))
table_line other = Err Form

abbrev pub cut_kind : List ℕ → Option CutKind
cut_kind word =
    if bytes_equal word (codes "before") then Some Before
    else if bytes_equal word (codes "after") then Some After
    else if bytes_equal word (codes "half") then Some Half
    else None

abbrev pub cut_line : List (List ℕ) → Result Command LineFault
cut_line (n ∷ kind ∷ []) = part (cut_kind kind) (λ k. number_in 1 greatest_number n >>= λ m. Ok (command.Cut m k))
cut_line (n ∷ kind ∷ seed ∷ []) =
    form (bytes_equal kind (codes "noise")) (do
      k ← number_in 1 greatest_number n
      s ← number seed
      Ok (command.Cut k (Noise s)))
cut_line other = Err Form

-- the values of a put, and its blob word, if there is one
abbrev pub blob_split : List (List ℕ) → List (List ℕ) × Option (List ℕ)
blob_split [] = ([], None)
blob_split (word ∷ []) = (word ∷ [], None)
blob_split (word ∷ blob ∷ []) = if bytes_equal word (codes "blob") then ([], Some blob) else (word ∷ blob ∷ [], None)
blob_split (word ∷ next ∷ last ∷ words) = let split = blob_split (next ∷ last ∷ words) in (word ∷ split.0, split.1)

abbrev pub put_parts : List ℕ → List ℕ → List (List ℕ) → Option (List ℕ) → Result Command LineFault
put_parts name key words blob = do
  k ← number key
  values ← each_signed words
  Ok (command.Put name k values blob)

abbrev pub put_blob : List ℕ → List ℕ → List (List ℕ) → Option (List ℕ) → Result Command LineFault
put_blob name key words None = put_parts name key words None
put_blob name key words (Some blob) = part (blob_word blob) (λ bytes. put_parts name key words (Some bytes))

abbrev pub put_line : List (List ℕ) → Result Command LineFault
put_line (name ∷ key ∷ words) =
    let split = blob_split words in
    form (is_name name && nat_le (length split.0) 16) (put_blob name key split.0 split.1)
put_line other = Err Form

-- a line of a name alone, and of a name and a key
abbrev pub name_line : (List ℕ → Command) → List (List ℕ) → Result Command LineFault
name_line make (name ∷ []) = form (is_name name) (Ok (make name))
name_line make other = Err Form

abbrev pub key_line : (List ℕ → ℕ → Command) → List (List ℕ) → Result Command LineFault
key_line make (name ∷ key ∷ []) = form (is_name name) (number key >>= λ k. Ok (make name k))
key_line make other = Err Form

abbrev pub bare_line : Command → List (List ℕ) → Result Command LineFault
bare_line made [] = Ok made
bare_line made other = Err Form

abbrev pub scan_line : List (List ℕ) → Result Command LineFault
scan_line (name ∷ words) = form (is_name name) (with_range words (λ range span. Ok (command.Scan name range span)))
scan_line other = Err Form

abbrev pub open_line : List (List ℕ) → Result Command LineFault
open_line (cursor ∷ name ∷ words) =
    part (cursor_of cursor) (λ c. form (is_name name) (with_range words (λ range span. Ok (command.Open c name range span))))
open_line other = Err Form

abbrev pub next_line : List (List ℕ) → Result Command LineFault
next_line (cursor ∷ count ∷ []) = part (cursor_of cursor) (λ c. number_in 1 1000000 count >>= λ n. Ok (command.Next c n))
next_line other = Err Form

abbrev pub close_line : List (List ℕ) → Result Command LineFault
close_line (cursor ∷ []) = part (cursor_of cursor) (λ c. Ok (command.Close c))
close_line other = Err Form

abbrev pub select_line : List (List ℕ) → Result Command LineFault
select_line (name ∷ low ∷ high ∷ column ∷ op ∷ value ∷ []) =
    form (is_name name) (part (op_of op) (λ o. do
      l ← number low
      h ← number high
      c ← number column
      v ← signed value
      Ok (command.Select name (record { low = l; high = h }) c o v)))
select_line other = Err Form

abbrev pub project_line : List (List ℕ) → Result Command LineFault
project_line (name ∷ low ∷ high ∷ list ∷ []) =
    form (is_name name) (part (columns_of list) (λ columns. do
      l ← number low
      h ← number high
      Ok (command.Project name (record { low = l; high = h }) columns)))
project_line other = Err Form

abbrev pub agg_line : List (List ℕ) → Result Command LineFault
agg_line (name ∷ low ∷ high ∷ column ∷ width ∷ []) =
    form (is_name name) (do
      l ← number low
      h ← number high
      c ← number column
      w ← number_in 1 greatest_number width
      Ok (command.Agg name (record { low = l; high = h }) c w))
agg_line other = Err Form

abbrev pub join_line : List (List ℕ) → Result Command LineFault
join_line (left ∷ right ∷ low ∷ high ∷ []) =
    form (is_name left && is_name right) (do
      l ← number low
      h ← number high
      Ok (command.Join left right (record { low = l; high = h })))
join_line other = Err Form

abbrev pub load_line : List (List ℕ) → Result Command LineFault
load_line (name ∷ count ∷ step ∷ seed ∷ []) =
    form (is_name name) (do
      n ← number_in 1 1000000 count
      s ← number_in 1 1000000 step
      x ← number seed
      Ok (command.Load name n s x))
load_line other = Err Form

-- a line by its first word and the others
abbrev pub line_of : List ℕ → List (List ℕ) → Result Command LineFault
line_of word words =
    if bytes_equal word (codes "device") then device_line words
    else if bytes_equal word (codes "table") then table_line words
    else if bytes_equal word (codes "mount") then bare_line command.Mount words
    else if bytes_equal word (codes "off") then bare_line command.Off words
    else if bytes_equal word (codes "cut") then cut_line words
    else if bytes_equal word (codes "put") then put_line words
    else if bytes_equal word (codes "flush") then name_line (λ n. command.Flush n) words
    else if bytes_equal word (codes "get") then key_line (λ n k. command.Get n k) words
    else if bytes_equal word (codes "blob") then key_line (λ n k. command.Blob n k) words
    else if bytes_equal word (codes "scan") then scan_line words
    else if bytes_equal word (codes "open") then open_line words
    else if bytes_equal word (codes "next") then next_line words
    else if bytes_equal word (codes "close") then close_line words
    else if bytes_equal word (codes "select") then select_line words
    else if bytes_equal word (codes "project") then project_line words
    else if bytes_equal word (codes "agg") then agg_line words
    else if bytes_equal word (codes "join") then join_line words
    else if bytes_equal word (codes "stat") then name_line (λ n. command.Stat n) words
    else if bytes_equal word (codes "cost") then bare_line command.Cost words
    else if bytes_equal word (codes "load") then load_line words
    else Err Unknown

-- a line without words and a comment are nothing
abbrev pub words_command : List (List ℕ) → Result Command LineFault
words_command [] = Ok command.Nothing
words_command (word ∷ words) = if starts_with (λ a b. a == b) word (35 ∷ []) then Ok command.Nothing else line_of word words

-- the command that a line is
abbrev pub command_of : List ℕ → Result Command LineFault
command_of line = if nat_lt 4096 (length line) then Err TooLong else words_command (words_in (without_return line))
