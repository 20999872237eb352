-- The words of a map, which both drawings have.
use Rattle.std.specs.Prelude.{ℕ, ◌+◌, ◌*◌, ◌/◌, max, Bool, false, ◌==◌, if◌then◌else◌, Option, Some, None, List, [], ◌++◌, codes, decimal}
use Rattle.fl_mark.specs.declared.page_state.PageState.{PageState}
use Rattle.fl_mark.specs.declared.page_state.PageState.TheVariants.{Blank, Torn, Committed, Void}
use Rattle.fl_map.specs.declared.note.Figures.{Figures}
use Rattle.fl_map.specs.declared.note.RingNote.{RingNote}

abbrev pub state_word : PageState → List ℕ
state_word Blank = codes "blank"
state_word Torn = codes "torn"
state_word Committed = codes "committed"
state_word Void = codes "void"

-- something is at this number
abbrev pub is_at : Option ℕ → ℕ → Bool
is_at None n = false
is_at (Some m) n = m == n

-- the i-th page of the ring is the one that breaks a rule
abbrev pub is_faulty : RingNote → ℕ → Bool
is_faulty note i = is_at note.fault (note.first + i)

-- .. or stands in the head
abbrev pub is_in_head : RingNote → ℕ → Bool
is_in_head note i = is_at note.head (i / note.per_block)

-- the pages of the blocks that stand side by side
abbrev pub line_pages : ℕ → ℕ
line_pages per_block = per_block * max (64 / per_block) 1

-- the numbers of the first and the last committed page
abbrev pub numbers_text : Figures → List ℕ
numbers_text f = if f.committed == 0 then codes " first none last none" else codes " first " ++ decimal f.first ++ codes " last " ++ decimal f.last

-- the rows of a ring of rows
abbrev pub rows_text : Option ℕ → ℕ → List ℕ
rows_text None rows = []
rows_text (Some row_len) rows = codes " rows " ++ decimal rows

-- what is told of a ring, behind its name and that of its table
abbrev pub note_text : RingNote → List ℕ
note_text note = numbers_text note.figures ++ rows_text note.row_len note.figures.rows ++ codes " waiting " ++ decimal note.waiting
