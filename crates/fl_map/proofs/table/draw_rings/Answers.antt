use Rattle.fl_plan.specs.Refusal.{nameless}
use Rattle.fl_frame.proofs.ReadsInTurn.{looks_more}
use Rattle.fl_rules.proofs.LooksChangeNothing.{told_still}
use Rattle.fl_check.proofs.PlacesStay.{fits_still, log_still}
use Rattle.fl_map.specs.Canvas.{drawn_of}
use Rattle.fl_map.proofs.Tables.{lies-there, log-there, rings-drawn}
use Rattle.std.proofs.Common.{◌∙◌, le-add_right}
use Rattle.fl_map.proofs.Ends.{first-top, last-top, none-on, ring-room, second-top, third-top}
use Rattle.fl_map.proofs.table.draw_rings.Goals as goal

pub draw_ring_if-requires-clause-fits : goal.draw_ring_if-requires-clause-fits
draw_ring_if-requires-clause-fits g c = fits_still _ _ _ c.draw_ring.ensures.looks c.requires.fits

pub draw_ring_if-requires-clause-lies : goal.draw_ring_if-requires-clause-lies
draw_ring_if-requires-clause-lies g c = lies-there c.args.table.now.config.now.index _ c.requires.fits.limits.index (fits_still _ _ _ c.draw_ring.ensures.looks c.requires.fits).index

pub draw_ring_if-requires-2-clause-fits : goal.draw_ring_if-requires-2-clause-fits
draw_ring_if-requires-2-clause-fits g c = fits_still _ _ _ (looks_more _ _ _ c.draw_ring.ensures.looks c.draw_ring_if.ensures.looks) c.requires.fits

pub draw_ring_if-requires-2-clause-lies : goal.draw_ring_if-requires-2-clause-lies
draw_ring_if-requires-2-clause-lies g c =
    lies-there c.args.table.now.config.now.var _ c.requires.fits.limits.var (fits_still _ _ _ (looks_more _ _ _ c.draw_ring.ensures.looks c.draw_ring_if.ensures.looks) c.requires.fits).var

pub draw_ring_if-requires-3-clause-fits : goal.draw_ring_if-requires-3-clause-fits
draw_ring_if-requires-3-clause-fits g c =
    fits_still _ _ _ (looks_more _ _ _ (looks_more _ _ _ c.draw_ring.ensures.looks c.draw_ring_if.ensures.looks) c.draw_ring_if-2.ensures.looks) c.requires.fits

pub draw_ring_if-requires-3-clause-lies : goal.draw_ring_if-requires-3-clause-lies
draw_ring_if-requires-3-clause-lies g c =
    let log = c.args.table.now.log in
    let f0 = g.F.Flash.state c.args.flash.now in
    let f3 = g.F.Flash.state c.draw_ring_if-2.new.flash in
    log-there log f3 (log_still log f0 f3 (looks_more _ _ _ (looks_more _ _ _ c.draw_ring.ensures.looks c.draw_ring_if.ensures.looks) c.draw_ring_if-2.ensures.looks) c.requires.log)

pub returns-in_err-draw_ring_if-2-clause-looks : goal.returns-in_err-draw_ring_if-2-clause-looks
returns-in_err-draw_ring_if-2-clause-looks g c = looks_more _ _ _ (looks_more _ _ _ c.draw_ring.ensures.looks c.draw_ring_if.ensures.looks) c.draw_ring_if-2.ensures.looks

pub returns-in_err-draw_ring_if-3-clause-looks : goal.returns-in_err-draw_ring_if-3-clause-looks
returns-in_err-draw_ring_if-3-clause-looks g c =
    looks_more _ _ _ (looks_more _ _ _ (looks_more _ _ _ c.draw_ring.ensures.looks c.draw_ring_if.ensures.looks) c.draw_ring_if-2.ensures.looks) c.draw_ring_if-3.ensures.looks

pub returns-clause-looks : goal.returns-clause-looks
returns-clause-looks g c = looks_more _ _ _ (looks_more _ _ _ (looks_more _ _ _ c.draw_ring.ensures.looks c.draw_ring_if.ensures.looks) c.draw_ring_if-2.ensures.looks) c.draw_ring_if-3.ensures.looks

pub returns-clause-drawn : goal.returns-clause-drawn
returns-clause-drawn g c = λ told.
    let table = c.args.table.now in
    let f0 = g.F.Flash.state c.args.flash.now in
    let f1 = g.F.Flash.state c.draw_ring.new.flash in
    let f2 = g.F.Flash.state c.draw_ring_if.new.flash in
    let l1 = c.draw_ring.ensures.looks in
    let f3 = g.F.Flash.state c.draw_ring_if-2.new.flash in
    let l2 = looks_more f0 f1 f2 l1 c.draw_ring_if.ensures.looks in
    let l3 = looks_more f0 f2 f3 l2 c.draw_ring_if-2.ensures.looks in
    rings-drawn c.args.canvas.now.drawing c.draw_ring.new.canvas.drawing c.draw_ring_if.new.canvas.drawing c.draw_ring_if-2.new.canvas.drawing table.name.now table.config.now table.log table.finding.now f0 f1 f2 f3 c.row_len.result
    (drawn_of c.args.canvas.now) (drawn_of c.draw_ring.new.canvas) (drawn_of c.draw_ring_if.new.canvas) (drawn_of c.draw_ring_if-2.new.canvas) (drawn_of c.draw_ring_if-3.new.canvas)
    c.draw_ring.ensures.drawing c.draw_ring_if.ensures.drawing c.draw_ring_if-2.ensures.drawing (c.row_len.ensures.exact nameless) l1 l2 l3
    (c.in_ok-draw_ring.ensures.drawn told) (c.in_ok-draw_ring_if.ensures.drawn (told_still f0 f1 l1 told)) (c.in_ok-draw_ring_if-2.ensures.drawn (told_still f0 f2 l2 told))
    (c.in_ok-draw_ring_if-3.ensures.drawn (told_still f0 f3 l3 told))

pub draw_ring-requires-clause-fits : goal.draw_ring-requires-clause-fits
draw_ring-requires-clause-fits g c = c.requires.fits

pub draw_ring-requires-clause-blocks : goal.draw_ring-requires-clause-blocks
draw_ring-requires-clause-blocks g c = c.requires.fits.limits.rows.0

pub draw_ring-requires-clause-lies : goal.draw_ring-requires-clause-lies
draw_ring-requires-clause-lies g c = c.requires.fits.rows

pub draw_ring-requires-clause-room : goal.draw_ring-requires-clause-room
draw_ring-requires-clause-room g c = c.requires.room

pub draw_ring-requires-clause-short : goal.draw_ring-requires-clause-short
draw_ring-requires-clause-short g c = c.row_len.ensures.short

pub draw_ring-requires-clause-top : goal.draw_ring-requires-clause-top
draw_ring-requires-clause-top g c = ring-room _ _ c.requires.top (le-add_right _ _)

pub returns-in_err-draw_ring-clause-looks : goal.returns-in_err-draw_ring-clause-looks
returns-in_err-draw_ring-clause-looks g c = c.draw_ring.ensures.looks

pub returns-in_err-draw_ring-clause-room : goal.returns-in_err-draw_ring-clause-room
returns-in_err-draw_ring-clause-room g c = c.draw_ring.ensures.room

pub returns-in_err-draw_ring-clause-drawing : goal.returns-in_err-draw_ring-clause-drawing
returns-in_err-draw_ring-clause-drawing g c = c.draw_ring.ensures.drawing

pub returns-in_err-draw_ring-clause-drawn : goal.returns-in_err-draw_ring-clause-drawn
returns-in_err-draw_ring-clause-drawn g c = none-on c.from_residual.result _ c.from_residual.ensures.0

pub returns-in_err-draw_ring-clause-top : goal.returns-in_err-draw_ring-clause-top
returns-in_err-draw_ring-clause-top g c = first-top _ _ 0 0 0 c.draw_ring.ensures.top

pub returns-in_err-draw_ring_if-clause-looks : goal.returns-in_err-draw_ring_if-clause-looks
returns-in_err-draw_ring_if-clause-looks g c = looks_more _ _ _ c.draw_ring.ensures.looks c.draw_ring_if.ensures.looks

pub returns-in_err-draw_ring_if-clause-room : goal.returns-in_err-draw_ring_if-clause-room
returns-in_err-draw_ring_if-clause-room g c = c.draw_ring_if.ensures.room

pub returns-in_err-draw_ring_if-clause-drawing : goal.returns-in_err-draw_ring_if-clause-drawing
returns-in_err-draw_ring_if-clause-drawing g c = c.draw_ring_if.ensures.drawing ∙ c.draw_ring.ensures.drawing

pub returns-in_err-draw_ring_if-clause-drawn : goal.returns-in_err-draw_ring_if-clause-drawn
returns-in_err-draw_ring_if-clause-drawn g c = none-on c.from_residual-in_err-draw_ring_if.result _ c.from_residual-in_err-draw_ring_if.ensures.0

pub returns-in_err-draw_ring_if-clause-top : goal.returns-in_err-draw_ring_if-clause-top
returns-in_err-draw_ring_if-clause-top g c = second-top _ _ _ 0 0 c.draw_ring.ensures.top c.draw_ring_if.ensures.top

pub returns-in_err-draw_ring_if-2-clause-room : goal.returns-in_err-draw_ring_if-2-clause-room
returns-in_err-draw_ring_if-2-clause-room g c = c.draw_ring_if-2.ensures.room

pub returns-in_err-draw_ring_if-2-clause-drawing : goal.returns-in_err-draw_ring_if-2-clause-drawing
returns-in_err-draw_ring_if-2-clause-drawing g c = c.draw_ring_if-2.ensures.drawing ∙ c.draw_ring_if.ensures.drawing ∙ c.draw_ring.ensures.drawing

pub returns-in_err-draw_ring_if-2-clause-drawn : goal.returns-in_err-draw_ring_if-2-clause-drawn
returns-in_err-draw_ring_if-2-clause-drawn g c = none-on c.from_residual-in_err-draw_ring_if-2.result _ c.from_residual-in_err-draw_ring_if-2.ensures.0

pub returns-in_err-draw_ring_if-2-clause-top : goal.returns-in_err-draw_ring_if-2-clause-top
returns-in_err-draw_ring_if-2-clause-top g c = third-top _ _ _ _ 0 c.draw_ring.ensures.top c.draw_ring_if.ensures.top c.draw_ring_if-2.ensures.top

pub returns-in_err-draw_ring_if-3-clause-room : goal.returns-in_err-draw_ring_if-3-clause-room
returns-in_err-draw_ring_if-3-clause-room g c = c.draw_ring_if-3.ensures.room

pub returns-in_err-draw_ring_if-3-clause-drawing : goal.returns-in_err-draw_ring_if-3-clause-drawing
returns-in_err-draw_ring_if-3-clause-drawing g c = c.draw_ring_if-3.ensures.drawing ∙ c.draw_ring_if-2.ensures.drawing ∙ c.draw_ring_if.ensures.drawing ∙ c.draw_ring.ensures.drawing

pub returns-in_err-draw_ring_if-3-clause-drawn : goal.returns-in_err-draw_ring_if-3-clause-drawn
returns-in_err-draw_ring_if-3-clause-drawn g c = none-on c.from_residual-in_err-draw_ring_if-3.result _ c.from_residual-in_err-draw_ring_if-3.ensures.0

pub returns-in_err-draw_ring_if-3-clause-top : goal.returns-in_err-draw_ring_if-3-clause-top
returns-in_err-draw_ring_if-3-clause-top g c = last-top _ _ _ _ _ c.draw_ring.ensures.top c.draw_ring_if.ensures.top c.draw_ring_if-2.ensures.top c.draw_ring_if-3.ensures.top

pub draw_ring_if-requires-clause-room : goal.draw_ring_if-requires-clause-room
draw_ring_if-requires-clause-room g c = c.draw_ring.ensures.room

pub draw_ring_if-requires-clause-top : goal.draw_ring_if-requires-clause-top
draw_ring_if-requires-clause-top g c = ring-room _ _ c.requires.top (first-top _ _ 0 0 0 c.draw_ring.ensures.top)

pub draw_ring_if-requires-2-clause-room : goal.draw_ring_if-requires-2-clause-room
draw_ring_if-requires-2-clause-room g c = c.draw_ring_if.ensures.room

pub draw_ring_if-requires-2-clause-top : goal.draw_ring_if-requires-2-clause-top
draw_ring_if-requires-2-clause-top g c = ring-room _ _ c.requires.top (second-top _ _ _ 0 0 c.draw_ring.ensures.top c.draw_ring_if.ensures.top)

pub draw_ring_if-requires-3-clause-room : goal.draw_ring_if-requires-3-clause-room
draw_ring_if-requires-3-clause-room g c = c.draw_ring_if-2.ensures.room

pub draw_ring_if-requires-3-clause-top : goal.draw_ring_if-requires-3-clause-top
draw_ring_if-requires-3-clause-top g c = ring-room _ _ c.requires.top (third-top _ _ _ _ 0 c.draw_ring.ensures.top c.draw_ring_if.ensures.top c.draw_ring_if-2.ensures.top)

pub returns-clause-room : goal.returns-clause-room
returns-clause-room g c = c.draw_ring_if-3.ensures.room

pub returns-clause-drawing : goal.returns-clause-drawing
returns-clause-drawing g c = c.draw_ring_if-3.ensures.drawing ∙ c.draw_ring_if-2.ensures.drawing ∙ c.draw_ring_if.ensures.drawing ∙ c.draw_ring.ensures.drawing

pub returns-clause-top : goal.returns-clause-top
returns-clause-top g c = last-top _ _ _ _ _ c.draw_ring.ensures.top c.draw_ring_if.ensures.top c.draw_ring_if-2.ensures.top c.draw_ring_if-3.ensures.top
