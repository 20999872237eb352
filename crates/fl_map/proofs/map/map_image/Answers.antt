use Rattle.std.proofs.Common.{ℕ, Err, List, length, refl, ap, subst}
use Rattle.fl_base.specs.Causes.{Appends, AppendsFront}
use Rattle.fl_base.proofs.Appended.{appends-none}
use Rattle.fl_image.proofs.Reach.{reach}
use Rattle.fl_image_check.proofs.CheckEnds.{over-of}
use Rattle.fl_map.specs.Canvas.{drawn_of}
use Rattle.fl_map.specs.Drawn.{map_text}
use Rattle.fl_map.specs.Map.{AreDrawn}
use Rattle.fl_map.specs.declared.drawing.Drawing.{Drawing}
use Rattle.fl_map.proofs.MapEnds.{over-medium, early-ends, written-ends}
use Rattle.std.proofs.Math.Nat.{le_refl}
use Rattle.fl_map.proofs.Ends.{memory-is-device, memory-is-write, read-is-write, written-is-device}
use Rattle.fl_map.proofs.map.map_image.Goals as goal

pub with_room-flash-requires-clause-reach : goal.with_room-flash-requires-clause-reach
with_room-flash-requires-clause-reach g c =
    let found = c.in-Ok-config_of_image.ensures in
    reach c.in-Ok-config_of_image.config c.geometry-geometry.result c.blocks-blocks.result (g.M.Media.state c.args.media.now).content (g.M.Media.state c.config_of_image.new.media).content
    found.whole c.geometry-geometry.ensures.device c.blocks-blocks.ensures.exact found.size found.looks.content

pub returns-in_default-clause-ends : goal.returns-in_default-clause-ends
returns-in_default-clause-ends g c told = appends-none (g.K.Sink.written c.args.out.now)

pub returns-in_default-new-clause-ends : goal.returns-in_default-new-clause-ends
returns-in_default-new-clause-ends g c told = appends-none (g.K.Sink.written c.args.out.now)

pub draw_image-drawn-requires : goal.draw_image-drawn-requires
draw_image-drawn-requires g c = record {
  over = over-of c.in-Ok-config_of_image.config c.geometry-geometry.result c.blocks-blocks.result _ _ _ _ c.with_room-flash.ensures c.geometry-geometry.ensures.device c.blocks-blocks.ensures.exact c.blocks-blocks.ensures.fits;
}

pub returns-in-Err-clause-ends : goal.returns-in-Err-clause-ends
returns-in-Err-clause-ends g c told =
    early-ends c.args.drawing (g.M.Media.state c.args.media.now).content (g.K.Sink.written c.args.out.now) c.in-Err.status c.in-Err.ensures.statuses
    (λ is. c.in-Err.ensures.none (ap (λ s. Err s) is) told)

pub returns-in-Ok-drawn-clause-ends : goal.returns-in-Ok-drawn-clause-ends
returns-in-Ok-drawn-clause-ends g c told =
    let found = c.in-Ok-config_of_image.ensures in
    let image = found.image told in
    let lines = c.in-Ok-config_of_image.config in
    let canvas = c.in-Ok-drawn.canvas in
    let block = c.geometry-geometry.result.block in
    let bytes = (g.M.Media.state c.args.media.now).content in
    let before = g.K.Sink.written c.args.out.now in
    let now = g.K.Sink.written c.write_map.new.out in
    let drawn = over-medium (λ (l : List ℕ). AreDrawn c.args.drawing lines l (length lines.plans) (drawn_of canvas)) bytes (g.M.Media.state c.args.media.now).tells c.geometry-geometry.result c.blocks-blocks.result
    _ _ (g.M.Media.state c.config_of_image.new.media) _ c.with_room-flash.ensures found.looks.content found.looks.tells told c.in-Ok-drawn.ensures.drawn in
    written-ends c.args.drawing bytes (map_text c.args.drawing block (drawn_of canvas)) before now c.write_map.result c.write_map.ensures.statuses
    (record {
      lines = lines;
      accepted = image.0;
      image = image.1;
      geometry = c.geometry-geometry.result;
      device = c.geometry-geometry.ensures.device;
      drawn = drawn_of canvas;
      are = drawn;
      text_is = refl;
    })
    (λ is. subst (λ (x : Drawing). Appends before now (map_text x block (drawn_of canvas))) c.in-Ok-drawn.ensures.drawing (c.write_map.ensures.done is))
    (λ is. subst (λ (x : Drawing). AppendsFront before now (map_text x block (drawn_of canvas))) c.in-Ok-drawn.ensures.drawing (c.write_map.ensures.part is))

pub returns-in_default-clause-device : goal.returns-in_default-clause-device
returns-in_default-clause-device g c = memory-is-device

pub returns-in_default-clause-write : goal.returns-in_default-clause-write
returns-in_default-clause-write g c = memory-is-write

pub returns-in_default-clause-later : goal.returns-in_default-clause-later
returns-in_default-clause-later g c = le_refl (g.K.Sink.faults c.args.out.now)

pub returns-in_default-new-clause-device : goal.returns-in_default-new-clause-device
returns-in_default-new-clause-device g c = memory-is-device

pub returns-in_default-new-clause-write : goal.returns-in_default-new-clause-write
returns-in_default-new-clause-write g c = memory-is-write

pub returns-in_default-new-clause-later : goal.returns-in_default-new-clause-later
returns-in_default-new-clause-later g c = le_refl (g.K.Sink.faults c.args.out.now)

pub returns-in_default-new-clause-looks : goal.returns-in_default-new-clause-looks
returns-in_default-new-clause-looks g c = c.in-Ok-config_of_image.ensures.looks

pub returns-in-Err-clause-looks : goal.returns-in-Err-clause-looks
returns-in-Err-clause-looks g c = c.in-Err.ensures.looks

pub returns-in-Err-clause-device : goal.returns-in-Err-clause-device
returns-in-Err-clause-device g c = λ is. c.in-Err.ensures.device (ap (λ s. Err s) is)

pub returns-in-Err-clause-write : goal.returns-in-Err-clause-write
returns-in-Err-clause-write g c = read-is-write c.in-Err.status c.in-Err.ensures.statuses

pub returns-in-Err-clause-later : goal.returns-in-Err-clause-later
returns-in-Err-clause-later g c = le_refl (g.K.Sink.faults c.args.out.now)

pub returns-in-Ok-drawn-clause-device : goal.returns-in-Ok-drawn-clause-device
returns-in-Ok-drawn-clause-device g c = written-is-device c.write_map.result c.write_map.ensures.statuses

pub returns-in-Ok-drawn-clause-write : goal.returns-in-Ok-drawn-clause-write
returns-in-Ok-drawn-clause-write g c = c.write_map.ensures.write

pub returns-in-Ok-drawn-clause-later : goal.returns-in-Ok-drawn-clause-later
returns-in-Ok-drawn-clause-later g c = c.write_map.ensures.later

pub returns-clause-later : goal.returns-clause-later
returns-clause-later g c = le_refl (g.K.Sink.faults c.args.out.now)
