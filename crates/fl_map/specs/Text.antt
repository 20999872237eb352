-- A map as text.
use Rattle.std.specs.Prelude.{ℕ, ◌%◌, ◌&&◌, ◌==◌, nat_lt, if◌then◌else◌, List, [], ◌++◌, codes}
use Rattle.fl_mark.specs.declared.page_state.PageState.{PageState}
use Rattle.fl_mark.specs.declared.page_state.PageState.TheVariants.{Blank, Torn, Committed, Void}
use Rattle.fl_map.specs.declared.note.RingNote.{RingNote}
use Rattle.fl_map.specs.Words.{is_faulty, is_in_head, line_pages}

abbrev pub letter_of : PageState → List ℕ
letter_of Blank = codes "."
letter_of Torn = codes "x"
letter_of Committed = codes "#"
letter_of Void = codes "v"

-- a line ends before its next blocks
abbrev pub line_break : RingNote → ℕ → List ℕ
line_break note i = if (i % line_pages note.per_block == 0) && nat_lt 0 i then codes "\n" else []

-- what stands before the first page of a block
abbrev pub block_mark : RingNote → ℕ → List ℕ
block_mark note i = if i % note.per_block == 0 then (if is_in_head note i then codes ">" else codes " ") else []

abbrev pub page_letter : RingNote → ℕ → PageState → List ℕ
page_letter note i state = if is_faulty note i then codes "!" else letter_of state

-- the i-th page of a ring
abbrev pub letter_text : RingNote → ℕ → PageState → List ℕ
letter_text note i state = line_break note i ++ block_mark note i ++ page_letter note i state

-- the last line
abbrev pub legend : List ℕ
legend = codes "each letter a page: . blank  # committed  v void  x torn  ! breaks a rule; > before the head\n"
