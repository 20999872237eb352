use Rattle.fl_config.proofs.TableAt.{table-is}
use Rattle.fl_config.proofs.config.Config.log.Goals as goal

pub returns-clause-place : goal.returns-clause-place
returns-clause-place c = (table-is c.args.self.now c.self.inside.device _ c.self.inside.tables.items c.as_slice.result.now c.args.i c.index-as_slice-i.result c.self.view_is c.self.invariant c.as_slice.ensures.value c.requires).place

pub returns-clause-size : goal.returns-clause-size
returns-clause-size c = (table-is c.args.self.now c.self.inside.device _ c.self.inside.tables.items c.as_slice.result.now c.args.i c.index-as_slice-i.result c.self.view_is c.self.invariant c.as_slice.ensures.value c.requires).size

pub returns-clause-blobs : goal.returns-clause-blobs
returns-clause-blobs c = (table-is c.args.self.now c.self.inside.device _ c.self.inside.tables.items c.as_slice.result.now c.args.i c.index-as_slice-i.result c.self.view_is c.self.invariant c.as_slice.ensures.value c.requires).blobs
