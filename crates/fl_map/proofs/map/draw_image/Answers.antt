use Rattle.std.proofs.Common.{length, sym, ◌∙◌, ap, subst}
use Rattle.fl_map.specs.Canvas.{drawn_of}
use Rattle.fl_map.specs.Drawn.{no_tables}
use Rattle.fl_map.specs.Map.{AreDrawn}
use Rattle.fl_map.specs.declared.drawing.Drawing.{Drawing}
use Rattle.fl_map.proofs.map.draw_image.Goals as goal

pub draw_tables-requires-clause-fresh : goal.draw_tables-requires-clause-fresh
draw_tables-requires-clause-fresh g c = c.in-Ok-new.ensures.drawn ∙ ap no_tables (sym c.in-Ok-new.ensures.drawing)

pub returns-clause-drawn : goal.returns-clause-drawn
returns-clause-drawn g c = λ told.
    subst (λ (x : Drawing). AreDrawn x c.args.config.now (g.F.Flash.state c.args.flash.now).media.content (length c.args.config.now.plans) (drawn_of c.draw_tables.new.canvas))
    c.in-Ok-new.ensures.drawing (c.in_ok-draw_tables.ensures.drawn told)
