use Rattle.std.proofs.Common.{◌≡◌, ℕ, ◌<◌, List, ◌++◌, length, sym, ◌∙◌, ap, subst}
use Rattle.fl_flash.specs.Flash.{page_at}
use Rattle.fl_mark.specs.declared.page_state.PageState.{PageState}
use Rattle.fl_frame.proofs.ReadsInTurn.{looks_by}
use Rattle.fl_map.specs.Canvas.{drawn_of}
use Rattle.fl_map.specs.Drawn.{with_ring}
use Rattle.fl_map.specs.Finding.{title_text}
use Rattle.fl_map.proofs.Tables.{place-drawn}
use Rattle.fl_map.proofs.table.draw_ring.Goals as goal

pub returns-in_err-note-clause-looks : goal.returns-in_err-note-clause-looks
returns-in_err-note-clause-looks g c = looks_by _ _ _ c.read_ring.ensures.reads

pub returns-in_err-add_ring-clause-looks : goal.returns-in_err-add_ring-clause-looks
returns-in_err-add_ring-clause-looks g c = looks_by _ _ _ c.read_ring.ensures.reads

pub returns-clause-looks : goal.returns-clause-looks
returns-clause-looks g c = looks_by _ _ _ c.read_ring.ensures.reads

pub returns-clause-drawn : goal.returns-clause-drawn
returns-clause-drawn g c = λ told.
    let table = c.args.table.now in
    let f = g.F.Flash.state c.args.flash.now in
    let title : c.add_title.new.line ≡ title_text table.name.now c.args.ring = c.add_title.ensures.text ∙ ap (λ (l : List ℕ). l ++ title_text table.name.now c.args.ring) c.new-line.ensures in
    place-drawn c.args.canvas.now.drawing table.name.now table.config.now (page_at f) table.finding.now c.args.ring c.args.row_len c.args.place f.geometry
    c.add_title.new.line c.in_ok-note.note c.fault_page.result c.read_ring.new.states.items (drawn_of c.args.canvas.now) (drawn_of c.add_ring.new.self)
    c.requires.fits.geometry title c.fault_page.ensures (c.in_ok-note.ensures.note told) (c.in_ok-note.ensures.states told)
    (c.in_ok-add_ring.ensures.drawn ∙ ap (λ (s : List PageState). with_ring c.args.canvas.now.drawing c.add_title.new.line c.in_ok-note.note s (drawn_of c.args.canvas.now)) c.deref.ensures.value)

pub add_ring-requires-clause-some : goal.add_ring-requires-clause-some
add_ring-requires-clause-some g c = c.in_ok-note.ensures.some

pub add_ring-requires-clause-few : goal.add_ring-requires-clause-few
add_ring-requires-clause-few g c = subst (λ (s : List PageState). length s < 4294967296) (sym c.deref.ensures.value) c.in_ok-note.ensures.few
