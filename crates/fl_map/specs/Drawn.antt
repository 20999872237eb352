-- A map as it is drawn, ring by ring, in either drawing.
use Rattle.std.specs.Prelude.{ℕ, zero, suc, ◌+◌, ◌*◌, ◌/◌, max, List, [], ◌++◌, length, get_or, codes}
use Rattle.fl_mark.specs.declared.page_state.PageState.{PageState}
use Rattle.fl_mark.specs.declared.page_state.PageState.TheVariants.{Blank}
use Rattle.fl_map.specs.declared.drawing.Drawing.{Drawing}
use Rattle.fl_map.specs.declared.drawing.Drawing.TheVariants.{Text, Svg}
use Rattle.fl_map.specs.declared.note.RingNote.{RingNote}
use Rattle.fl_map.specs.Svg.{square_text, words_text, opening_text, colours, background, meanings}
use Rattle.fl_map.specs.Text.{letter_text, legend}
use Rattle.fl_map.specs.Words.{line_pages, note_text}

-- what is drawn so far, and where the next ring begins in a picture
pub record Drawn : Type 0 where
  pub text : List ℕ
  pub top : ℕ

-- the i-th page of a ring whose pages begin at `top`
abbrev pub cell_text : Drawing → RingNote → ℕ → ℕ → PageState → List ℕ
cell_text Text note top i state = letter_text note i state
cell_text Svg note top i state = square_text note top i state

-- the first n pages of a ring
abbrev pub cells_to : Drawing → RingNote → ℕ → List PageState → ℕ → List ℕ
cells_to drawing note top states zero = []
cells_to drawing note top states (suc n) = cells_to drawing note top states n ++ cell_text drawing note top n (get_or states n Blank)

-- a line of words
abbrev pub caption : Drawing → ℕ → List ℕ → List ℕ
caption Text top words = words ++ codes "\n"
caption Svg top words = words_text top words

-- the end of a ring's pages
abbrev pub ring_end : Drawing → List ℕ
ring_end Text = codes "\n"
ring_end Svg = []

-- a ring, whose line begins with these words
abbrev pub ring_text : Drawing → List ℕ → RingNote → List PageState → ℕ → List ℕ
ring_text drawing title note states top =
    caption drawing top (title ++ note_text note) ++ cells_to drawing note (top + 20) states (length states) ++ ring_end drawing

abbrev pub ring_height : RingNote → List PageState → ℕ
ring_height note states = 48 + length states / line_pages note.per_block * 14

abbrev pub with_ring : Drawing → List ℕ → RingNote → List PageState → Drawn → Drawn
with_ring drawing title note states d = record {
  text = d.text ++ ring_text drawing title note states d.top;
  top = d.top + ring_height note states;
}

-- a line of words below it
abbrev pub with_words : Drawing → List ℕ → Drawn → Drawn
with_words drawing words d = record { text = d.text ++ caption drawing d.top words; top = d.top + 28 }

-- before the first table
abbrev pub intro : Drawing → List ℕ
intro Text = []
intro Svg = colours ++ background ++ meanings

abbrev pub no_tables : Drawing → Drawn
no_tables drawing = record { text = intro drawing; top = 48 }

-- the width of a picture
abbrev pub width_of : ℕ → ℕ
width_of per_block = max (40 + line_pages per_block * 12 + line_pages per_block / per_block * 6) 600

-- what stands before all that and after it
abbrev pub opening : Drawing → ℕ → ℕ → List ℕ
opening Text per_block height = []
opening Svg per_block height = opening_text (width_of per_block) height

abbrev pub closing : Drawing → List ℕ
closing Text = legend
closing Svg = codes "</svg>\n"

-- the whole map of an image whose blocks have so many pages
abbrev pub map_text : Drawing → ℕ → Drawn → List ℕ
map_text drawing per_block d = opening drawing per_block d.top ++ d.text ++ closing drawing
