use Rattle.std.proofs.Common.{◌+◌, subst, sym}
use Rattle.fl_store.proofs.TablesMade.{IsFor, IsMade, MadeSoFar, made-more}
use Rattle.fl_store.proofs.tables.Tables.plan.Goals as goal

pub loop-i-preserved : goal.loop-i-preserved
loop-i-preserved c =
    let for : IsFor c.args.config.now c.loop-i.i c.table.result.now c.log.result c.name-name.result =
    record { device = c.table.ensures.device; planned = c.table.ensures.plan; named = c.name-name.ensures; first = c.table.ensures.first; behind = c.log.ensures.place } in
    let made : IsMade c.table.result.now c.log.result c.in-Ok.table = record { planned = c.in-Ok.ensures.planned; lies = c.in-Ok.ensures.lies; down = c.in-Ok.ensures.fresh.0 } in
    record {
      made = subst (λ es. MadeSoFar c.args.config.now (c.loop-i.i + 1) es) (sym c.in_ok-push.ensures.items)
          (made-more c.args.config.now c.loop-i.i c.loop-i.entries.items c.table.result.now c.log.result c.name-name.result c.in-Ok.table c.loop-i.invariant.made for made);
    }
