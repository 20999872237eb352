-- The words of a line that is read: of a configuration a name, and numbers of 64 bits; of a command its numbers that have bounds.
use Rattle.std.proofs.Common.{◌≡◌, ℕ, ℤ, pos, neg_ℤ, zero, suc, ◌-◌, ◌≤◌, Bool, true, false, ◌&&◌, nat_lt, nat_le, nat_eq, eqb, cond, Option, Some, None, Result, Ok, Err, List, [], ◌∷◌, length, refl, sym, subst, arith}
use Rattle.std.specs.Prelude.{IfOk, codes}
use Rattle.std.specs.List.{starts_with}
use Rattle.std.proofs.lemmas.Bool.{lt-ltb, leb-true}
use Rattle.fl_base.specs.declared.types.KeyRange.{KeyRange}
use Rattle.fl_base.specs.declared.types.Span.{Span}
use Rattle.fl_model.specs.Record.{bytes_equal}
use Rattle.fl_words.specs.Command as command
use Rattle.fl_words.specs.Command.{Command, TableLine}
use Rattle.fl_words.specs.Grammar.{LineFault, Number, TooLong, greatest_number, number_in, number, signed, are_digits, value_of, cursor_of, is_name, op_of, columns_of, blob_word, blob_split, ◌>>=◌, form, part, each_signed, with_range, device_line, log_word_in, maybe_number, table_line}
use Rattle.fl_words.specs.Grammar.{cut_kind, cut_line, put_parts, put_blob, put_line, name_line, key_line, bare_line, scan_line, open_line, next_line, close_line, select_line, project_line, agg_line, join_line, load_line, line_of, words_command, words_in, without_return, command_of}
use Rattle.fl_script.proofs.Numbers.{IsSigned}

-- the words of a table line
pub record IsTableRead (line : TableLine) : Type 0 where
  pub name : is_name line.name ≡ true
  pub key : line.key ≤ greatest_number
  pub data_blocks : line.data_blocks ≤ greatest_number
  pub index_blocks : line.index_blocks ≤ greatest_number
  pub var_blocks : line.var_blocks ≤ greatest_number
  pub bits : line.bits ≤ greatest_number
  pub base : IsSigned line.base
  pub width : line.width ≤ greatest_number
  pub error : line.error ≤ greatest_number
  pub blob_limit : line.blob_limit ≤ greatest_number

-- the words of a configuration line, and those numbers of a command that have bounds: a cut and the keys of a load go on by one at
-- least, a group has room for a key, and there are four cursors
abbrev pub IsRead : Command → Type 0
IsRead (command.Device page block) = (page ≤ greatest_number) × (block ≤ greatest_number)
IsRead (command.Table line) = IsTableRead line
IsRead (command.Cut n kind) = nat_le 1 n ≡ true
IsRead (command.Agg name range column width) = nat_le 1 width ≡ true
IsRead (command.Open cursor name range span) = nat_lt cursor 4 ≡ true
IsRead (command.Next cursor count) = nat_lt cursor 4 ≡ true
IsRead (command.Close cursor) = nat_lt cursor 4 ≡ true
IsRead (command.Load name count step seed) = nat_le 1 step ≡ true
IsRead c = Unit {0}

-- a line that is read is such a command
abbrev Gives : Result Command LineFault → Type 0
Gives r = IfOk r IsRead

bound : {A : Type 0} (r : Result A LineFault) (f : A → Result Command LineFault) → ((x : A) → r ≡ Ok x → Gives (f x)) → Gives (r >>= f)
bound (Ok x) f h = h x refl
bound (Err e) f h = tt

-- a command whose form is looked at
named : (ok : Bool) (r : Result Command LineFault) → (ok ≡ true → Gives r) → Gives (form ok r)
named true r h = h refl
named false r h = tt

formed : (ok : Bool) (r : Result Command LineFault) → Gives r → Gives (form ok r)
formed true r h = h
formed false r h = tt

parted : {A : Type 0} (o : Option A) (f : A → Result Command LineFault) → ((x : A) → o ≡ Some x → Gives (f x)) → Gives (part o f)
parted None f h = tt
parted (Some x) f h = h x refl

either : (b : Bool) (r s : Result Command LineFault) → Gives r → Gives s → Gives (cond b r s)
either true r s h k = h
either false r s h k = k

ranged : (words : List (List ℕ)) (f : KeyRange → Option Span → Result Command LineFault) → ((range : KeyRange) (span : Option Span) → Gives (f range span)) → Gives (with_range words f)
ranged [] f h = tt
ranged (low ∷ []) f h = tt
ranged (low ∷ high ∷ []) f h = bound (number low) _ (λ l _. bound (number high) _ (λ k _. h (record { low = l; high = k }) None))
ranged (low ∷ high ∷ least ∷ []) f h = tt
ranged (low ∷ high ∷ least ∷ greatest ∷ []) f h =
    bound (number low) _ (λ l _. bound (number high) _ (λ k _. bound (signed least) _ (λ a _. bound (signed greatest) _ (λ b _. h (record { low = l; high = k }) (Some (record { low = a; high = b }))))))
ranged (low ∷ high ∷ least ∷ greatest ∷ more ∷ words) f h = tt

most-of : (low high : ℕ) (word : List ℕ) (n : ℕ) → number_in low high word ≡ Ok n → n ≤ high
most-of low high word n e = by_tests (are_digits word) (nat_le low (value_of word)) (nat_le (value_of word) high) refl e
  where
    by_tests : (a b c : Bool) → nat_le (value_of word) high ≡ c → cond (a && b && c) (Ok (value_of word)) (Err Number) ≡ Ok n → n ≤ high
    by_tests true true true k e = let same : value_of word ≡ n = cc in subst (λ m. m ≤ high) same (leb-true (value_of word) high k)
    by_tests true true false k e = cc
    by_tests true false c k e = cc
    by_tests false b c k e = cc

most : (word : List ℕ) (n : ℕ) → number word ≡ Ok n → n ≤ greatest_number
most word n e = most-of 0 greatest_number word n e

below-zero : (v : ℕ) → v ≤ 9223372036854775808 → IsSigned (neg_ℤ (pos v))
below-zero zero le = omega arith
below-zero (suc v) le = omega (arith, le)

signed-of : (digits : Bool) (v most : ℕ) (made z : ℤ) (h : (v ≤ most) → IsSigned made) → cond {A = Result ℤ LineFault} (digits && nat_le v most) (Ok made) (Err Number) ≡ Ok z → IsSigned z
signed-of digits v most made z h e = by_tests digits (nat_le v most) refl e
  where
    by_tests : (a b : Bool) → nat_le v most ≡ b → cond {A = Result ℤ LineFault} (a && b) (Ok made) (Err Number) ≡ Ok z → IsSigned z
    by_tests true true k e = let same : made ≡ z = cc in subst IsSigned same (h (leb-true v most k))
    by_tests true false k e = cc
    by_tests false b k e = cc

within : (word : List ℕ) (z : ℤ) → signed word ≡ Ok z → IsSigned z
within [] z e = cc
within (byte ∷ bytes) z e = by_sign (eqb byte 45) e
  where
    by_sign : (s : Bool) → cond {A = Result ℤ LineFault} s (cond (are_digits bytes && nat_le (value_of bytes) 9223372036854775808) (Ok (neg_ℤ (pos (value_of bytes)))) (Err Number))
        (cond (are_digits (byte ∷ bytes) && nat_le (value_of (byte ∷ bytes)) 9223372036854775807) (Ok (pos (value_of (byte ∷ bytes)))) (Err Number)) ≡ Ok z → IsSigned z
    by_sign true e = signed-of (are_digits bytes) (value_of bytes) 9223372036854775808 (neg_ℤ (pos (value_of bytes))) z (below-zero (value_of bytes)) e
    by_sign false e = signed-of (are_digits (byte ∷ bytes)) (value_of (byte ∷ bytes)) 9223372036854775807 (pos (value_of (byte ∷ bytes))) z (λ le. le) e

-- a number from a least one on
least-of : (low high : ℕ) (word : List ℕ) (n : ℕ) → number_in low high word ≡ Ok n → nat_le low n ≡ true
least-of low high word n e = by_tests (are_digits word) (nat_le low (value_of word)) refl (nat_le (value_of word) high) e
  where
    by_tests : (a b : Bool) → nat_le low (value_of word) ≡ b → (c : Bool) → cond (a && b && c) (Ok (value_of word)) (Err Number) ≡ Ok n → nat_le low n ≡ true
    by_tests true true k true e = let same : value_of word ≡ n = cc in subst (λ m. nat_le low m ≡ true) same k
    by_tests true true k false e = cc
    by_tests true false k c e = cc
    by_tests false b k c e = cc

-- a digit of a cursor
few-cursors : (word : List ℕ) (n : ℕ) → cursor_of word ≡ Some n → nat_lt n 4 ≡ true
few-cursors [] n e = cc
few-cursors (byte ∷ next ∷ bytes) n e = cc
few-cursors (byte ∷ []) n e = by_tests (nat_le 48 byte) (nat_le byte 51) refl e
  where
    by_tests : (a b : Bool) → nat_le byte 51 ≡ b → cond (a && b) (Some (byte - 48)) None ≡ Some n → nat_lt n 4 ≡ true
    by_tests true true k e = let same : byte - 48 ≡ n = cc in lt-ltb n 4 (omega (arith, sym same, leb-true byte 51 k))
    by_tests true false k e = cc
    by_tests false b k e = cc

-- ---- the lines

device-within : (words : List (List ℕ)) → Gives (device_line words)
device-within [] = tt
device-within (page ∷ []) = tt
device-within (page ∷ block ∷ []) = bound (number page) _ (λ p e. bound (number block) _ (λ b f. (most page p e, most block b f)))
device-within (page ∷ block ∷ more ∷ words) = tt

cut-within : (words : List (List ℕ)) → Gives (cut_line words)
cut-within [] = tt
cut-within (n ∷ []) = tt
cut-within (n ∷ kind ∷ []) = parted (cut_kind kind) _ (λ k _. bound (number_in 1 _ n) _ (λ m e. least-of 1 _ n m e))
cut-within (n ∷ kind ∷ seed ∷ []) = formed _ _ (bound (number_in 1 _ n) _ (λ m e. bound (number seed) _ (λ s _. least-of 1 _ n m e)))
cut-within (n ∷ kind ∷ seed ∷ more ∷ words) = tt

put-parts : (name key : List ℕ) (words : List (List ℕ)) (blob : Option (List ℕ)) → Gives (put_parts name key words blob)
put-parts name key words blob = bound (number key) _ (λ k _. bound (each_signed words) _ (λ values _. tt))

put-blob : (name key : List ℕ) (words : List (List ℕ)) (blob : Option (List ℕ)) → Gives (put_blob name key words blob)
put-blob name key words None = put-parts name key words None
put-blob name key words (Some blob) = parted (blob_word blob) _ (λ bytes _. put-parts name key words (Some bytes))

put-within : (words : List (List ℕ)) → Gives (put_line words)
put-within [] = tt
put-within (name ∷ []) = tt
put-within (name ∷ key ∷ words) = formed _ _ (put-blob name key (blob_split words).0 (blob_split words).1)

name-within : (make : List ℕ → Command) → ((name : List ℕ) → IsRead (make name)) → (words : List (List ℕ)) → Gives (name_line make words)
name-within make h [] = tt
name-within make h (name ∷ []) = formed (is_name name) (Ok (make name)) (h name)
name-within make h (name ∷ more ∷ words) = tt

key-within : (make : List ℕ → ℕ → Command) → ((name : List ℕ) (key : ℕ) → IsRead (make name key)) → (words : List (List ℕ)) → Gives (key_line make words)
key-within make h [] = tt
key-within make h (name ∷ []) = tt
key-within make h (name ∷ key ∷ []) = formed (is_name name) _ (bound (number key) _ (λ k _. h name k))
key-within make h (name ∷ key ∷ more ∷ words) = tt

bare-within : (made : Command) → IsRead made → (words : List (List ℕ)) → Gives (bare_line made words)
bare-within made h [] = h
bare-within made h (word ∷ words) = tt

scan-within : (words : List (List ℕ)) → Gives (scan_line words)
scan-within [] = tt
scan-within (name ∷ words) = formed (is_name name) _ (ranged words _ (λ range span. tt))

open-within : (words : List (List ℕ)) → Gives (open_line words)
open-within [] = tt
open-within (cursor ∷ []) = tt
open-within (cursor ∷ name ∷ words) = parted (cursor_of cursor) _ (λ c e. formed (is_name name) _ (ranged words _ (λ range span. few-cursors cursor c e)))

next-within : (words : List (List ℕ)) → Gives (next_line words)
next-within [] = tt
next-within (cursor ∷ []) = tt
next-within (cursor ∷ count ∷ []) = parted (cursor_of cursor) _ (λ c e. bound (number_in 1 1000000 count) _ (λ n _. few-cursors cursor c e))
next-within (cursor ∷ count ∷ more ∷ words) = tt

close-within : (words : List (List ℕ)) → Gives (close_line words)
close-within [] = tt
close-within (cursor ∷ []) = parted (cursor_of cursor) _ (λ c e. few-cursors cursor c e)
close-within (cursor ∷ more ∷ words) = tt

select-within : (words : List (List ℕ)) → Gives (select_line words)
select-within (name ∷ low ∷ high ∷ column ∷ op ∷ value ∷ []) =
    formed (is_name name) _ (parted (op_of op) _ (λ o _. bound (number low) _ (λ l _. bound (number high) _ (λ h _. bound (number column) _ (λ c _. bound (signed value) _ (λ v _. tt))))))
select-within other = tt

project-within : (words : List (List ℕ)) → Gives (project_line words)
project-within (name ∷ low ∷ high ∷ list ∷ []) = formed (is_name name) _ (parted (columns_of list) _ (λ columns _. bound (number low) _ (λ l _. bound (number high) _ (λ h _. tt))))
project-within other = tt

agg-within : (words : List (List ℕ)) → Gives (agg_line words)
agg-within (name ∷ low ∷ high ∷ column ∷ width ∷ []) =
    formed (is_name name) _ (bound (number low) _ (λ l _. bound (number high) _ (λ h _. bound (number column) _ (λ c _. bound (number_in 1 _ width) _ (λ w e. least-of 1 _ width w e)))))
agg-within other = tt

join-within : (words : List (List ℕ)) → Gives (join_line words)
join-within (left ∷ right ∷ low ∷ high ∷ []) = formed _ _ (bound (number low) _ (λ l _. bound (number high) _ (λ h _. tt)))
join-within other = tt

load-within : (words : List (List ℕ)) → Gives (load_line words)
load-within (name ∷ count ∷ step ∷ seed ∷ []) =
    formed (is_name name) _ (bound (number_in 1 1000000 count) _ (λ n _. bound (number_in 1 1000000 step) _ (λ s e. bound (number seed) _ (λ x _. least-of 1 1000000 step s e))))
load-within other = tt

table-within : (words : List (List ℕ)) → Gives (table_line words)
table-within (name ∷ key ∷ columns ∷ rows ∷ index ∷ var ∷ bits ∷ base ∷ width ∷ error ∷ blob ∷ words) =
    named (is_name name) _ (λ is. parted (log_word_in words) _ (λ log _.
    bound (number key) _ (λ k ke. bound (number rows) _ (λ d de. bound (number index) _ (λ i ie. bound (number var) _ (λ v ve. bound (number bits) _ (λ n ne.
    bound (signed base) _ (λ b be. bound (number width) _ (λ w we. bound (number error) _ (λ e ee. bound (number blob) _ (λ l le. bound (maybe_number log) _ (λ r _.
    record { name = is; key = most key k ke; data_blocks = most rows d de; index_blocks = most index i ie; var_blocks = most var v ve; bits = most bits n ne; base = within base b be; width = most width w we; error = most error e ee; blob_limit = most blob l le }))))))))))))
table-within other = tt

-- the lines of one first word, or those of others
record Reads (r : Result Command LineFault) : Type 0 where
  gives : Gives r

or-else : (b : Bool) (r s : Result Command LineFault) → Gives r → Reads s → Reads (cond b r s)
or-else b r s h k = record { gives = either b r s h k.gives }

line-of : (word : List ℕ) (words : List (List ℕ)) → Reads (line_of word words)
line-of word words =
    or-else (bytes_equal word (codes "device")) _ _ (device-within words)
    (or-else (bytes_equal word (codes "table")) _ _ (table-within words)
    (or-else (bytes_equal word (codes "mount")) _ _ (bare-within command.Mount tt words)
    (or-else (bytes_equal word (codes "off")) _ _ (bare-within command.Off tt words)
    (or-else (bytes_equal word (codes "cut")) _ _ (cut-within words)
    (or-else (bytes_equal word (codes "put")) _ _ (put-within words)
    (or-else (bytes_equal word (codes "flush")) _ _ (name-within (λ n. command.Flush n) (λ n. tt) words)
    (or-else (bytes_equal word (codes "get")) _ _ (key-within (λ n k. command.Get n k) (λ n k. tt) words)
    (or-else (bytes_equal word (codes "blob")) _ _ (key-within (λ n k. command.Blob n k) (λ n k. tt) words)
    (or-else (bytes_equal word (codes "scan")) _ _ (scan-within words)
    (or-else (bytes_equal word (codes "open")) _ _ (open-within words)
    (or-else (bytes_equal word (codes "next")) _ _ (next-within words)
    (or-else (bytes_equal word (codes "close")) _ _ (close-within words)
    (or-else (bytes_equal word (codes "select")) _ _ (select-within words)
    (or-else (bytes_equal word (codes "project")) _ _ (project-within words)
    (or-else (bytes_equal word (codes "agg")) _ _ (agg-within words)
    (or-else (bytes_equal word (codes "join")) _ _ (join-within words)
    (or-else (bytes_equal word (codes "stat")) _ _ (name-within (λ n. command.Stat n) (λ n. tt) words)
    (or-else (bytes_equal word (codes "cost")) _ _ (bare-within command.Cost tt words)
    (or-else (bytes_equal word (codes "load")) _ _ (load-within words) (record { gives = tt }))))))))))))))))))))

words-within : (words : List (List ℕ)) → Gives (words_command words)
words-within [] = tt
words-within (word ∷ words) = either (starts_with (λ a b. nat_eq a b) word (35 ∷ [])) (Ok command.Nothing) (line_of word words) tt (line-of word words).gives

pub command-read : (line : List ℕ) (c : Command) → command_of line ≡ Ok c → IsRead c
command-read line c e = subst Gives e (either (nat_lt 4096 (length line)) (Err TooLong) (words_command (words_in (without_return line))) tt (words-within (words_in (without_return line))))
