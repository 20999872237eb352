use Rattle.std.proofs.Common.{ℕ, IsTrue, List, refl, sym, ◌∙◌, ap, subst, arith}
use Rattle.fl_base.specs.declared.types.Geometry.{Geometry}
use Rattle.fl_frame.proofs.ReadsInTurn.{looks_more, looks_none}
use Rattle.fl_image_check.proofs.ToldTables.{over-on}
use Rattle.fl_map.specs.Canvas.{drawn_of}
use Rattle.fl_map.specs.Drawn.{Drawn}
use Rattle.fl_map.specs.Map.{IsDrawnNext}
use Rattle.fl_map.specs.declared.drawing.Drawing.{Drawing}
use Rattle.fl_map.proofs.MapEnds.{drawn-next}
use Rattle.fl_map.proofs.map.draw_tables.Goals as goal

pub loop-i-init : goal.loop-i-init
loop-i-init g c = record {
  looks = looks_none (g.F.Flash.state c.args.flash.now);
  room = c.requires.room;
  drawing = refl;
  top = let top = ap (λ (d : Drawn). d.top) c.requires.fresh in omega (arith, top);
  drawn = λ told. c.requires.fresh;
}

pub draw_table-requires-clause-over : goal.draw_table-requires-clause-over
draw_table-requires-clause-over g c = over-on c.args.config.now (g.F.Flash.state c.args.flash.now) (g.F.Flash.state c.loop-i.flash) c.requires.over c.loop-i.invariant.looks

pub draw_table-requires-clause-room : goal.draw_table-requires-clause-room
draw_table-requires-clause-room g c = c.loop-i.invariant.room ∙ ap (λ (h : Geometry). h.page) (sym c.loop-i.invariant.looks.goes.geometry)

pub loop-i-preserved : goal.loop-i-preserved
loop-i-preserved g c =
    let f = g.F.Flash.state c.args.flash.now in
    let before = g.F.Flash.state c.loop-i.flash in
    let looks = c.loop-i.invariant.looks in
    let drawing = c.args.canvas.now.drawing in
    let lines = c.args.config.now in
    record {
      looks = looks_more f before (g.F.Flash.state c.draw_table.new.flash) looks c.draw_table.ensures.looks;
      room = c.draw_table.ensures.room ∙ ap (λ (h : Geometry). h.page) looks.goes.geometry;
      drawing = c.draw_table.ensures.drawing ∙ c.loop-i.invariant.drawing;
      top = omega (arith, c.draw_table.ensures.top, c.loop-i.invariant.top);
      drawn = λ told.
          let next = c.in_ok-draw_table.ensures.drawn (subst IsTrue (sym looks.goes.tells) told) in
          let here = subst (λ (l : List ℕ). IsDrawnNext c.loop-i.canvas.drawing lines l c.loop-i.i (drawn_of c.loop-i.canvas) (drawn_of c.draw_table.new.canvas)) looks.same next in
          drawn-next drawing lines f.media.content c.loop-i.i (drawn_of c.loop-i.canvas) (drawn_of c.draw_table.new.canvas) (c.loop-i.invariant.drawn told)
          (subst (λ (x : Drawing). IsDrawnNext x lines f.media.content c.loop-i.i (drawn_of c.loop-i.canvas) (drawn_of c.draw_table.new.canvas)) c.loop-i.invariant.drawing here);
    }
