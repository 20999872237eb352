use Rattle.std.proofs.Common.{◌≡◌, IfSome, Option, inl, inr, refl, sym, ◌∙◌, ap, subst, le-add_right}
use Rattle.fl_model.specs.Record.{Plan}
use Rattle.fl_rules.proofs.LooksChangeNothing.{told_still}
use Rattle.fl_check.proofs.PlacesStay.{fits_still, log_still}
use Rattle.fl_image_check.proofs.ToldTables.{config-there, lies-at, log-there, log-alone, log-lies-at}
use Rattle.fl_image_check.proofs.Ringed.{fits, log-fits}
use Rattle.fl_map.specs.Canvas.{drawn_of}
use Rattle.fl_map.proofs.Tables.{table-drawn}
use Rattle.fl_base.specs.declared.types.Geometry.{Geometry}
use Rattle.fl_model.proofs.Lists.{slice_get-some}
use Rattle.fl_frame.proofs.ReadsInTurn.{looks_more}
use Rattle.fl_map.proofs.Ends.{fault-room, fault-top, memory-device, ok-device, table-top}
use Rattle.fl_map.proofs.map.draw_table.Goals as goal

pub check_table-requires : goal.check_table-requires
check_table-requires g c =
    let lines = c.args.config.now in
    let f = g.F.Flash.state c.args.flash.now in
    let table = c.table-table.ensures in
    let p = slice_get-some lines.plans c.args.i c.requires.table in
    let is = config-there lines.plans c.args.i p.0 c.table-table.result.now p.1 table.plan in
    record {
      fits = fits c.table-table.result.now f (lies-at lines f c.args.i p.0 c.table-table.result.now c.requires.over p.1 is table.first table.device table.limits table.passes);
      log = log-fits c.table-table.result.now c.log-log.result f
          (log-lies-at lines f c.args.i p.0 c.table-table.result.now c.log-log.result c.requires.over p.1 is table.first c.log-log.ensures.size
          (log-there lines c.args.i p.0 c.table-table.result.now c.log-log.result p.1 table.first c.log-log.ensures.place));
    }

pub draw_rings-requires-clause-fits : goal.draw_rings-requires-clause-fits
draw_rings-requires-clause-fits g c =
    let lines = c.args.config.now in
    let f = g.F.Flash.state c.args.flash.now in
    let table = c.table-table.ensures in
    let p = slice_get-some lines.plans c.args.i c.requires.table in
    let is = config-there lines.plans c.args.i p.0 c.table-table.result.now p.1 table.plan in
    fits_still c.table-table.result.now f (g.F.Flash.state c.check_table.new.flash) c.check_table.ensures.looks
    (fits c.table-table.result.now f (lies-at lines f c.args.i p.0 c.table-table.result.now c.requires.over p.1 is table.first table.device table.limits table.passes))

pub draw_rings-requires-clause-log : goal.draw_rings-requires-clause-log
draw_rings-requires-clause-log g c =
    let lines = c.args.config.now in
    let f = g.F.Flash.state c.args.flash.now in
    let table = c.table-table.ensures in
    let p = slice_get-some lines.plans c.args.i c.requires.table in
    let is = config-there lines.plans c.args.i p.0 c.table-table.result.now p.1 table.plan in
    log_still c.log-log.result f (g.F.Flash.state c.check_table.new.flash) c.check_table.ensures.looks
    (log-fits c.table-table.result.now c.log-log.result f
    (log-lies-at lines f c.args.i p.0 c.table-table.result.now c.log-log.result c.requires.over p.1 is table.first c.log-log.ensures.size
    (log-there lines c.args.i p.0 c.table-table.result.now c.log-log.result p.1 table.first c.log-log.ensures.place)))

pub returns-in-Ok-draw_fault-clause-drawn : goal.returns-in-Ok-draw_fault-clause-drawn
returns-in-Ok-draw_fault-clause-drawn g c = λ told.
    let lines = c.args.config.now in
    let f = g.F.Flash.state c.args.flash.now in
    let f1 = g.F.Flash.state c.check_table.new.flash in
    let config = c.table-table.result.now in
    let table = c.table-table.ensures in
    let p = slice_get-some lines.plans c.args.i c.requires.table in
    let is = config-there lines.plans c.args.i p.0 config p.1 table.plan in
    let called : c.name-name.result ≡ p.0.name = subst (λ (o : Option Plan). IfSome o (λ plan. c.name-name.result ≡ plan.name)) p.1 c.name-name.ensures in
    record {
      finding = c.in-Ok.finding;
      found = record {
        plan = p.0;
        plan_is = p.1;
        config = config;
        config_is = is;
        first = table.first;
        log = c.log-log.result;
        log_is = log-there lines c.args.i p.0 config c.log-log.result p.1 table.first c.log-log.ensures.place;
        log_alone = log-alone lines.plans c.args.i p.0 c.log-log.result p.1 c.log-log.ensures.blobs;
        flash = f;
        over = c.requires.over;
        lies = lies-at lines f c.args.i p.0 config c.requires.over p.1 is table.first table.device table.limits table.passes;
        log_lies = log-lies-at lines f c.args.i p.0 config c.log-log.result c.requires.over p.1 is table.first c.log-log.ensures.size
            (log-there lines c.args.i p.0 config c.log-log.result p.1 table.first c.log-log.ensures.place);
        content = refl;
        finds = c.in-Ok.ensures.finding told;
      };
      drawn = table-drawn c.args.canvas.now.drawing c.args.canvas.now.drawing c.draw_rings.new.canvas.drawing c.name-name.result p.0.name config c.log-log.result c.in-Ok.finding f f1
          (drawn_of c.args.canvas.now) (drawn_of c.draw_rings.new.canvas) (drawn_of c.draw_fault.new.canvas) refl c.draw_rings.ensures.drawing called c.check_table.ensures.looks
          (c.in-Ok-draw_rings.ensures.drawn (told_still f f1 c.check_table.ensures.looks told)) c.in-Ok-draw_fault.ensures.drawn;
    }

pub name-name-requires : goal.name-name-requires
name-name-requires g c = c.requires.table

pub table-table-requires : goal.table-table-requires
table-table-requires g c = c.requires.table

pub log-log-requires : goal.log-log-requires
log-log-requires g c = c.requires.table

pub returns-in-Err-Flash-clause-looks : goal.returns-in-Err-Flash-clause-looks
returns-in-Err-Flash-clause-looks g c = c.check_table.ensures.looks

pub returns-in-Err-Flash-clause-room : goal.returns-in-Err-Flash-clause-room
returns-in-Err-Flash-clause-room g c = c.requires.room

pub returns-in-Err-Flash-clause-drawing : goal.returns-in-Err-Flash-clause-drawing
returns-in-Err-Flash-clause-drawing g c = refl

pub returns-in-Err-Flash-clause-top : goal.returns-in-Err-Flash-clause-top
returns-in-Err-Flash-clause-top g c = le-add_right _ _

pub returns-in-Err-Flash-clause-statuses : goal.returns-in-Err-Flash-clause-statuses
returns-in-Err-Flash-clause-statuses g c = inr refl

pub returns-in-Err-NoMemory-clause-looks : goal.returns-in-Err-NoMemory-clause-looks
returns-in-Err-NoMemory-clause-looks g c = c.check_table.ensures.looks

pub returns-in-Err-NoMemory-clause-room : goal.returns-in-Err-NoMemory-clause-room
returns-in-Err-NoMemory-clause-room g c = c.requires.room

pub returns-in-Err-NoMemory-clause-drawing : goal.returns-in-Err-NoMemory-clause-drawing
returns-in-Err-NoMemory-clause-drawing g c = refl

pub returns-in-Err-NoMemory-clause-top : goal.returns-in-Err-NoMemory-clause-top
returns-in-Err-NoMemory-clause-top g c = le-add_right _ _

pub returns-in-Err-NoMemory-clause-statuses : goal.returns-in-Err-NoMemory-clause-statuses
returns-in-Err-NoMemory-clause-statuses g c = inl refl

pub returns-in-Err-NoMemory-clause-device : goal.returns-in-Err-NoMemory-clause-device
returns-in-Err-NoMemory-clause-device g c = memory-device

pub draw_rings-requires-clause-room : goal.draw_rings-requires-clause-room
draw_rings-requires-clause-room g c =
    let lines = c.args.config.now in
    let f = g.F.Flash.state c.args.flash.now in
    let table = c.table-table.ensures in
    let p = slice_get-some lines.plans c.args.i c.requires.table in
    let is = config-there lines.plans c.args.i p.0 c.table-table.result.now p.1 table.plan in
    let whole = fits c.table-table.result.now f (lies-at lines f c.args.i p.0 c.table-table.result.now c.requires.over p.1 is table.first table.device table.limits table.passes) in
    c.requires.room ∙ ap (λ (x : Geometry). x.page) (sym whole.geometry)

pub draw_rings-requires-clause-top : goal.draw_rings-requires-clause-top
draw_rings-requires-clause-top g c = c.requires.top

pub returns-in-Err-clause-looks : goal.returns-in-Err-clause-looks
returns-in-Err-clause-looks g c = looks_more _ _ _ c.check_table.ensures.looks c.draw_rings.ensures.looks

pub returns-in-Err-clause-room : goal.returns-in-Err-clause-room
returns-in-Err-clause-room g c =
    let lines = c.args.config.now in
    let f = g.F.Flash.state c.args.flash.now in
    let table = c.table-table.ensures in
    let p = slice_get-some lines.plans c.args.i c.requires.table in
    let is = config-there lines.plans c.args.i p.0 c.table-table.result.now p.1 table.plan in
    let whole = fits c.table-table.result.now f (lies-at lines f c.args.i p.0 c.table-table.result.now c.requires.over p.1 is table.first table.device table.limits table.passes) in
    c.draw_rings.ensures.room ∙ ap (λ (x : Geometry). x.page) whole.geometry

pub returns-in-Ok-draw_fault-clause-looks : goal.returns-in-Ok-draw_fault-clause-looks
returns-in-Ok-draw_fault-clause-looks g c = looks_more _ _ _ c.check_table.ensures.looks c.draw_rings.ensures.looks

pub returns-in-Ok-draw_fault-clause-room : goal.returns-in-Ok-draw_fault-clause-room
returns-in-Ok-draw_fault-clause-room g c =
    let lines = c.args.config.now in
    let f = g.F.Flash.state c.args.flash.now in
    let table = c.table-table.ensures in
    let p = slice_get-some lines.plans c.args.i c.requires.table in
    let is = config-there lines.plans c.args.i p.0 c.table-table.result.now p.1 table.plan in
    let whole = fits c.table-table.result.now f (lies-at lines f c.args.i p.0 c.table-table.result.now c.requires.over p.1 is table.first table.device table.limits table.passes) in
    c.draw_rings.ensures.room ∙ ap (λ (x : Geometry). x.page) whole.geometry

pub returns-in-Err-draw_fault-clause-looks : goal.returns-in-Err-draw_fault-clause-looks
returns-in-Err-draw_fault-clause-looks g c = looks_more _ _ _ c.check_table.ensures.looks c.draw_rings.ensures.looks

pub returns-in-Err-draw_fault-clause-room : goal.returns-in-Err-draw_fault-clause-room
returns-in-Err-draw_fault-clause-room g c =
    let lines = c.args.config.now in
    let f = g.F.Flash.state c.args.flash.now in
    let table = c.table-table.ensures in
    let p = slice_get-some lines.plans c.args.i c.requires.table in
    let is = config-there lines.plans c.args.i p.0 c.table-table.result.now p.1 table.plan in
    let whole = fits c.table-table.result.now f (lies-at lines f c.args.i p.0 c.table-table.result.now c.requires.over p.1 is table.first table.device table.limits table.passes) in
    c.draw_rings.ensures.room ∙ ap (λ (x : Geometry). x.page) whole.geometry

pub returns-in-Err-clause-drawing : goal.returns-in-Err-clause-drawing
returns-in-Err-clause-drawing g c = c.draw_rings.ensures.drawing

pub returns-in-Err-clause-top : goal.returns-in-Err-clause-top
returns-in-Err-clause-top g c = table-top _ _ c.draw_rings.ensures.top

pub draw_fault-requires : goal.draw_fault-requires
draw_fault-requires g c = fault-room _ _ c.draw_rings.ensures.top c.requires.top

pub returns-in-Ok-draw_fault-clause-drawing : goal.returns-in-Ok-draw_fault-clause-drawing
returns-in-Ok-draw_fault-clause-drawing g c = c.draw_fault.ensures.drawing ∙ c.draw_rings.ensures.drawing

pub returns-in-Ok-draw_fault-clause-top : goal.returns-in-Ok-draw_fault-clause-top
returns-in-Ok-draw_fault-clause-top g c = fault-top _ _ _ c.draw_rings.ensures.top c.draw_fault.ensures.top

pub returns-in-Err-draw_fault-clause-drawing : goal.returns-in-Err-draw_fault-clause-drawing
returns-in-Err-draw_fault-clause-drawing g c = c.draw_fault.ensures.drawing ∙ c.draw_rings.ensures.drawing

pub returns-in-Err-draw_fault-clause-top : goal.returns-in-Err-draw_fault-clause-top
returns-in-Err-draw_fault-clause-top g c = fault-top _ _ _ c.draw_rings.ensures.top c.draw_fault.ensures.top

pub returns-in-Ok-draw_fault-clause-device : goal.returns-in-Ok-draw_fault-clause-device
returns-in-Ok-draw_fault-clause-device g c = ok-device _

pub returns-in-Err-draw_fault-clause-device : goal.returns-in-Err-draw_fault-clause-device
returns-in-Err-draw_fault-clause-device g c = memory-device

pub returns-in-Err-draw_fault-clause-statuses : goal.returns-in-Err-draw_fault-clause-statuses
returns-in-Err-draw_fault-clause-statuses g c = inl refl
