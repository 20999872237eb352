use Rattle.fl_config.proofs.TableAt.{table-is}
use Rattle.fl_config.proofs.config.Config.table.Goals as goal

pub returns-clause-plan : goal.returns-clause-plan
returns-clause-plan c = (table-is c.args.self.now c.self.inside.device _ c.self.inside.tables.items c.as_slice.result.now c.args.i c.index-as_slice-i.result c.self.view_is c.self.invariant c.as_slice.ensures.value c.requires).plan

pub returns-clause-first : goal.returns-clause-first
returns-clause-first c = (table-is c.args.self.now c.self.inside.device _ c.self.inside.tables.items c.as_slice.result.now c.args.i c.index-as_slice-i.result c.self.view_is c.self.invariant c.as_slice.ensures.value c.requires).first

pub returns-clause-device : goal.returns-clause-device
returns-clause-device c = (table-is c.args.self.now c.self.inside.device _ c.self.inside.tables.items c.as_slice.result.now c.args.i c.index-as_slice-i.result c.self.view_is c.self.invariant c.as_slice.ensures.value c.requires).device

pub returns-clause-limits : goal.returns-clause-limits
returns-clause-limits c = (table-is c.args.self.now c.self.inside.device _ c.self.inside.tables.items c.as_slice.result.now c.args.i c.index-as_slice-i.result c.self.view_is c.self.invariant c.as_slice.ensures.value c.requires).limits

pub returns-clause-passes : goal.returns-clause-passes
returns-clause-passes c = (table-is c.args.self.now c.self.inside.device _ c.self.inside.tables.items c.as_slice.result.now c.args.i c.index-as_slice-i.result c.self.view_is c.self.invariant c.as_slice.ensures.value c.requires).passes
