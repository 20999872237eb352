use Rattle.std.proofs.Common.{refl}
use Rattle.fl_model.proofs.Lists.{slice_get-some}
use Rattle.fl_image_check.proofs.ToldTables.{config-there, lies-at, log-there, log-alone, log-lies-at}
use Rattle.fl_image_check.proofs.tables.check_at.Goals as goal

pub check_table-requires : goal.check_table-requires
check_table-requires g c =
    let lines = c.args.config.now in
    let p = slice_get-some lines.plans c.args.i c.requires.table in
    let is = config-there lines.plans c.args.i p.0 c.table.result.now p.1 c.table.ensures.plan in
    record {
      lies = lies-at lines (g.F.Flash.state c.args.flash.now) c.args.i p.0 c.table.result.now c.requires.over p.1 is c.table.ensures.first c.table.ensures.device c.table.ensures.limits c.table.ensures.passes;
      log = log-lies-at lines (g.F.Flash.state c.args.flash.now) c.args.i p.0 c.table.result.now c.log.result c.requires.over p.1 is c.table.ensures.first c.log.ensures.size
          (log-there lines c.args.i p.0 c.table.result.now c.log.result p.1 c.table.ensures.first c.log.ensures.place);
    }

pub returns-in-Ok-clause-finding : goal.returns-in-Ok-clause-finding
returns-in-Ok-clause-finding g c told =
    let lines = c.args.config.now in
    let p = slice_get-some lines.plans c.args.i c.requires.table in
    let is = config-there lines.plans c.args.i p.0 c.table.result.now p.1 c.table.ensures.plan in
    record {
      plan = p.0;
      plan_is = p.1;
      config = c.table.result.now;
      config_is = is;
      first = c.table.ensures.first;
      log = c.log.result;
      log_is = log-there lines c.args.i p.0 c.table.result.now c.log.result p.1 c.table.ensures.first c.log.ensures.place;
      log_alone = log-alone lines.plans c.args.i p.0 c.log.result p.1 c.log.ensures.blobs;
      flash = g.F.Flash.state c.args.flash.now;
      over = c.requires.over;
      lies = lies-at lines (g.F.Flash.state c.args.flash.now) c.args.i p.0 c.table.result.now c.requires.over p.1 is c.table.ensures.first c.table.ensures.device c.table.ensures.limits c.table.ensures.passes;
      log_lies = log-lies-at lines (g.F.Flash.state c.args.flash.now) c.args.i p.0 c.table.result.now c.log.result c.requires.over p.1 is c.table.ensures.first c.log.ensures.size
          (log-there lines c.args.i p.0 c.table.result.now c.log.result p.1 c.table.ensures.first c.log.ensures.place);
      content = refl;
      finds = c.in-Ok.ensures.finding told;
    }
