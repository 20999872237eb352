-- What a line and its parts are, in the words of the grammar.
use Rattle.std.specs.Prelude.{ℕ, ℤ, ◌≡◌, ◌⊎◌, Bool, true, false, Option, Some, None, Result, Ok, Err, List, length, ◌&&◌, nat_le, if◌then◌else◌}
use Rattle.std.specs.Borrow.{Bor}
use Rattle.fl_base.specs.declared.types.KeyRange.{KeyRange}
use Rattle.fl_base.specs.declared.types.Span.{Span}
use Rattle.fl_words.specs.Command as command
use Rattle.fl_words.specs.Grammar as grammar
use Rattle.fl_words.specs.Grammar.{◌>>=◌}
use Rattle.fl_model.specs.Record.{bytes_equal}
use Rattle.std.specs.Prelude.{codes}
use Rattle.fl_script.specs.CommandView.{fault_view, command_view}
use Rattle.fl_script.specs.declared.command.Command.{Command}
use Rattle.fl_script.specs.declared.command.Command.TheVariants.{Table, Put}
use Rattle.fl_script.specs.declared.command.LineFault.{LineFault}
use Rattle.fl_script.specs.declared.settings.RingNumbers.{RingNumbers}
use Rattle.fl_script.specs.declared.settings.LookupNumbers.{LookupNumbers}

-- a column number in a list
abbrev pub is_column : List ℕ → Bool
is_column part = grammar.are_digits part && nat_le (length part) 3

-- a command, with the bytes of the room, or a fault
abbrev pub line_view : Result Command LineFault → List ℕ → Result command.Command grammar.LineFault
line_view (Ok line) room = Ok (command_view line room)
line_view (Err fault) room = Err (fault_view fault)

-- a word that a line may lack
abbrev pub word_of : Option (Bor (List ℕ)) → Option (List ℕ)
word_of None = None
word_of (Some word) = Some word.now

abbrev pub just : Option (List ℕ) → Option (Option (List ℕ))
just None = None
just (Some bytes) = Some (Some bytes)

-- the bytes of a put's blob word, if it has one that is of its form
abbrev pub blob_bytes : Option (List ℕ) → Option (Option (List ℕ))
blob_bytes None = Some None
blob_bytes (Some word) = just (grammar.blob_word word)

-- whether a line left bytes in the room
abbrev pub leaves : Result Command LineFault → Bool
leaves (Ok (Table name key rows index var bits base width error blob full log)) = true
leaves (Ok (Put name key values blob)) = blob
leaves other = false

-- one of the two words isn't a number
abbrev pub IsBadRange : List ℕ → List ℕ → Type 0
IsBadRange low high =
    (grammar.number low ≡ Err grammar.Number) ⊎ ((value : ℕ) × (grammar.number low ≡ Ok value) × (grammar.number high ≡ Err grammar.Number))

abbrev pub IsBadSpan : List ℕ → List ℕ → Type 0
IsBadSpan low high =
    (grammar.signed low ≡ Err grammar.Number) ⊎ ((value : ℤ) × (grammar.signed low ≡ Ok value) × (grammar.signed high ≡ Err grammar.Number))

-- what the words of a range are, whatever is made of them
abbrev pub HasRange : List (List ℕ) → KeyRange → Option Span → Type 0
HasRange words range span =
    (f : KeyRange → Option Span → Result command.Command grammar.LineFault) → grammar.with_range words f ≡ f range span

abbrev pub HasNoRange : List (List ℕ) → grammar.LineFault → Type 0
HasNoRange words fault =
    (f : KeyRange → Option Span → Result command.Command grammar.LineFault) → grammar.with_range words f ≡ Err fault

-- the numbers of a table line up to those of its rings, and the others but for the log's, whatever is made of them
abbrev pub ring_numbers : List ℕ → List ℕ → List ℕ → List ℕ → (ℕ → ℕ → ℕ → ℕ → Result command.Command grammar.LineFault) → Result command.Command grammar.LineFault
ring_numbers key rows index var f = grammar.number key >>= λ k. grammar.number rows >>= λ d. grammar.number index >>= λ i. grammar.number var >>= λ v. f k d i v

abbrev pub lookup_numbers : List ℕ → List ℕ → List ℕ → List ℕ → List ℕ → (ℕ → ℤ → ℕ → ℕ → ℕ → Result command.Command grammar.LineFault) → Result command.Command grammar.LineFault
lookup_numbers bits base width error blob f =
    grammar.number bits >>= λ n. grammar.signed base >>= λ b. grammar.number width >>= λ w. grammar.number error >>= λ e. grammar.number blob >>= λ l. f n b w e l

abbrev pub HasRings : List ℕ → List ℕ → List ℕ → List ℕ → RingNumbers → Type 0
HasRings key rows index var n =
    (f : ℕ → ℕ → ℕ → ℕ → Result command.Command grammar.LineFault) → ring_numbers key rows index var f ≡ f n.key n.rows n.index n.var

abbrev pub HasNoRings : List ℕ → List ℕ → List ℕ → List ℕ → grammar.LineFault → Type 0
HasNoRings key rows index var fault =
    (f : ℕ → ℕ → ℕ → ℕ → Result command.Command grammar.LineFault) → ring_numbers key rows index var f ≡ Err fault

abbrev pub HasLookup : List ℕ → List ℕ → List ℕ → List ℕ → List ℕ → LookupNumbers → Type 0
HasLookup bits base width error blob n =
    (f : ℕ → ℤ → ℕ → ℕ → ℕ → Result command.Command grammar.LineFault) → lookup_numbers bits base width error blob f ≡ f n.bits n.base n.width n.error n.blob

abbrev pub HasNoLookup : List ℕ → List ℕ → List ℕ → List ℕ → List ℕ → grammar.LineFault → Type 0
HasNoLookup bits base width error blob fault =
    (f : ℕ → ℤ → ℕ → ℕ → ℕ → Result command.Command grammar.LineFault) → lookup_numbers bits base width error blob f ≡ Err fault

-- the lines of the operators and of load, or an unknown one
abbrev pub operator_line : List ℕ → List (List ℕ) → Result command.Command grammar.LineFault
operator_line word words =
    if bytes_equal word (codes "select") then grammar.select_line words
    else if bytes_equal word (codes "project") then grammar.project_line words
    else if bytes_equal word (codes "agg") then grammar.agg_line words
    else if bytes_equal word (codes "join") then grammar.join_line words
    else if bytes_equal word (codes "stat") then grammar.name_line (λ n. command.Stat n) words
    else if bytes_equal word (codes "cost") then grammar.bare_line command.Cost words
    else if bytes_equal word (codes "load") then grammar.load_line words
    else Err grammar.Unknown

-- the lines that read records, or another
abbrev pub reading_line : List ℕ → List (List ℕ) → Result command.Command grammar.LineFault
reading_line word words =
    if bytes_equal word (codes "get") then grammar.key_line (λ n k. command.Get n k) words
    else if bytes_equal word (codes "blob") then grammar.key_line (λ n k. command.Blob n k) words
    else if bytes_equal word (codes "scan") then grammar.scan_line words
    else if bytes_equal word (codes "open") then grammar.open_line words
    else if bytes_equal word (codes "next") then grammar.next_line words
    else if bytes_equal word (codes "close") then grammar.close_line words
    else operator_line word words
