-- A map as a picture: SVG 1.1, with a square of 10 by 10 for each page.
use Rattle.std.specs.Prelude.{ℕ, ◌+◌, ◌*◌, ◌/◌, ◌%◌, if◌then◌else◌, List, [], ◌++◌, codes, decimal}
use Rattle.fl_mark.specs.declared.page_state.PageState.{PageState}
use Rattle.fl_mark.specs.declared.page_state.PageState.TheVariants.{Blank, Torn, Committed, Void}
use Rattle.fl_map.specs.declared.note.RingNote.{RingNote}
use Rattle.fl_map.specs.Words.{is_faulty, is_in_head, line_pages, state_word}

-- the class of a page
abbrev pub class_of : PageState → List ℕ
class_of Blank = codes "b"
class_of Torn = codes "t"
class_of Committed = codes "c"
class_of Void = codes "v"

abbrev pub page_class : RingNote → ℕ → PageState → List ℕ
page_class note i state = if is_faulty note i then codes "f" else class_of state

-- .. and of one in the head
abbrev pub head_class : RingNote → ℕ → List ℕ
head_class note i = if is_in_head note i then codes " h" else []

-- where the i-th page stands, in a ring whose squares begin at `top`
abbrev pub left_of : RingNote → ℕ → ℕ
left_of note i =
    let in_line = i % line_pages note.per_block in
    24 + in_line * 12 + in_line / note.per_block * 6

abbrev pub top_of : RingNote → ℕ → ℕ → ℕ
top_of note top i = top + i / line_pages note.per_block * 14

-- what is said of a page that breaks a rule
abbrev pub fault_words : RingNote → ℕ → List ℕ
fault_words note i = if is_faulty note i then codes ", breaks a rule" else []

-- the square of the i-th page: its place and its look
abbrev pub place_text : RingNote → ℕ → ℕ → PageState → List ℕ
place_text note top i state =
    codes "<rect x='" ++ decimal (left_of note i) ++ codes "' y='" ++ decimal (top_of note top i) ++ codes "' width='10' height='10' class='"
    ++ page_class note i state ++ head_class note i

-- .. and what it tells where it is pointed at
abbrev pub title_text : RingNote → ℕ → PageState → List ℕ
title_text note i state =
    codes "'><title>page " ++ decimal (note.first + i) ++ codes " " ++ state_word state ++ fault_words note i ++ codes "</title></rect>\n"

abbrev pub square_text : RingNote → ℕ → ℕ → PageState → List ℕ
square_text note top i state = place_text note top i state ++ title_text note i state

-- a line of words below `top`
abbrev pub words_text : ℕ → List ℕ → List ℕ
words_text top words = codes "<text x='24' y='" ++ decimal (top + 12) ++ codes "'>" ++ words ++ codes "</text>\n"

-- a square of a class, a word beside it, and the two together
abbrev pub sample_text : ℕ → List ℕ → List ℕ
sample_text left class = codes "<rect x='" ++ decimal left ++ codes "' y='16' width='10' height='10' class='" ++ class ++ codes "'/>"

abbrev pub label_text : ℕ → List ℕ → List ℕ
label_text left word = codes "<text x='" ++ decimal left ++ codes "' y='25'>" ++ word ++ codes "</text>\n"

abbrev pub meaning_text : ℕ → List ℕ → List ℕ → List ℕ
meaning_text left class word = sample_text left class ++ label_text (left + 16) word

-- the colours, and what they mean
abbrev pub colours : List ℕ
colours = codes "<style type='text/css'>.b{fill:#fff;stroke:#bbb}.c{fill:#4a7fb5}.v{fill:#bbb}.t{fill:#e8a33d}.f{fill:#d62728}.h{stroke:#000}</style>\n"

abbrev pub background : List ℕ
background = codes "<rect width='100%' height='100%' fill='#fff'/>\n"

abbrev pub meanings : List ℕ
meanings =
    meaning_text 24 (codes "b") (codes "blank") ++ meaning_text 104 (codes "c") (codes "committed") ++ meaning_text 214 (codes "v") (codes "void")
    ++ meaning_text 284 (codes "t") (codes "torn") ++ meaning_text 354 (codes "f") (codes "breaks a rule") ++ meaning_text 474 (codes "b h") (codes "in the head")

-- the first line, of a picture of this width and height
abbrev pub opening_text : ℕ → ℕ → List ℕ
opening_text width height =
    codes "<svg xmlns='http://www.w3.org/2000/svg' version='1.1' width='" ++ decimal width ++ codes "' height='" ++ decimal height
    ++ codes "' font-family='sans-serif' font-size='12'>\n"
