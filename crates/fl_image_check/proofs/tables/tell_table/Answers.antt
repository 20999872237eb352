use Rattle.std.proofs.Common.{sym, subst}
use Rattle.fl_image_check.specs.Checking.{FindsBy, TableEnds}
use Rattle.fl_image_check.specs.declared.extent.Extent.{Extent}
use Rattle.fl_image_check.proofs.tables.tell_table.Goals as goal

pub returns-in-FirstFault-clause-told : goal.returns-in-FirstFault-clause-told
returns-in-FirstFault-clause-told g c told =
    subst (λ (e : Extent). TableEnds e (FindsBy e g.C.CheckTable.finds g.C.CheckTable.rules) c.args.config.now (g.F.Flash.state c.args.flash.now).media.content c.args.i (g.K.Sink.written c.args.out.now)
    (g.K.Sink.written c.tell_first.new.out) c.tell_first.result) (sym c.in-FirstFault.is) (c.tell_first.ensures.told told)

pub returns-in-AllTables-clause-told : goal.returns-in-AllTables-clause-told
returns-in-AllTables-clause-told g c told =
    subst (λ (e : Extent). TableEnds e (FindsBy e g.C.CheckTable.finds g.C.CheckTable.rules) c.args.config.now (g.F.Flash.state c.args.flash.now).media.content c.args.i (g.K.Sink.written c.args.out.now)
    (g.K.Sink.written c.tell_rules.new.out) c.tell_rules.result) (sym c.in-AllTables.is) (c.tell_rules.ensures.told told)
