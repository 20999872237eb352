use Rattle.std.proofs.Common.{sym, ◌∙◌, ap}
use Rattle.fl_base.specs.declared.types.Geometry.{Geometry}
use Rattle.fl_flash.specs.Sim.{on_medium}
use Rattle.fl_store.proofs.InMemory.{tables-same}
use Rattle.fl_store.proofs.Powering.{cause-through, found-through, goes-through, lie-up, mounts-through, outside-through, page-up, power-through, reads-through, refused-through, repairs-through}
use Rattle.fl_store.proofs.store.Store.mount.Goals as goal

pub mount-requires-clause-lie : goal.mount-requires-clause-lie
mount-requires-clause-lie g c = lie-up (on_medium c.args.self.now.flash.geometry c.args.self.now.flash.blocks c.args.self.now.flash.start c.args.self.now.flash.media.ghost_name c.args.self.now.flash.on c.args.self.now.flash.armed c.args.self.now.flash.cuts c.args.self.now.flash.work (g.M.Media.state c.args.self.now.flash.media.now)) _ c.power_on.ensures c.args.self.now.tables.entries.items c.requires.lie

pub mount-requires-clause-room : goal.mount-requires-clause-room
mount-requires-clause-room g c = c.requires.room.rows ∙ sym (page-up (on_medium c.args.self.now.flash.geometry c.args.self.now.flash.blocks c.args.self.now.flash.start c.args.self.now.flash.media.ghost_name c.args.self.now.flash.on c.args.self.now.flash.armed c.args.self.now.flash.cuts c.args.self.now.flash.work (g.M.Media.state c.args.self.now.flash.media.now)) _ c.power_on.ensures)

pub returns-clause-mounts : goal.returns-clause-mounts
returns-clause-mounts g c = λ config tables rose device watched h. mounts-through (on_medium c.args.self.now.flash.geometry c.args.self.now.flash.blocks c.args.self.now.flash.start c.args.self.now.flash.media.ghost_name c.args.self.now.flash.on c.args.self.now.flash.armed c.args.self.now.flash.cuts c.args.self.now.flash.work (g.M.Media.state c.args.self.now.flash.media.now)) _ c.power_on.ensures _ c.args.self.now.tables.entries.items c.mount.new.self.entries.items c.mount.result config tables rose device c.mount.ensures.goes c.mount.ensures.ends watched h

pub returns-clause-found : goal.returns-clause-found
returns-clause-found g c = found-through (on_medium c.args.self.now.flash.geometry c.args.self.now.flash.blocks c.args.self.now.flash.start c.args.self.now.flash.media.ghost_name c.args.self.now.flash.on c.args.self.now.flash.armed c.args.self.now.flash.cuts c.args.self.now.flash.work (g.M.Media.state c.args.self.now.flash.media.now)) _ c.power_on.ensures _ c.args.self.now.tables.entries.items c.mount.new.self.entries.items c.mount.result c.mount.ensures.found

pub returns-clause-refused : goal.returns-clause-refused
returns-clause-refused g c = refused-through (on_medium c.args.self.now.flash.geometry c.args.self.now.flash.blocks c.args.self.now.flash.start c.args.self.now.flash.media.ghost_name c.args.self.now.flash.on c.args.self.now.flash.armed c.args.self.now.flash.cuts c.args.self.now.flash.work (g.M.Media.state c.args.self.now.flash.media.now)) _ c.power_on.ensures _ c.args.self.now.tables.entries.items c.mount.new.self.entries.items c.mount.result c.mount.ensures.refused

pub returns-clause-cause : goal.returns-clause-cause
returns-clause-cause g c = cause-through (on_medium c.args.self.now.flash.geometry c.args.self.now.flash.blocks c.args.self.now.flash.start c.args.self.now.flash.media.ghost_name c.args.self.now.flash.on c.args.self.now.flash.armed c.args.self.now.flash.cuts c.args.self.now.flash.work (g.M.Media.state c.args.self.now.flash.media.now)) _ c.power_on.ensures _ c.args.self.now.tables.entries.items c.mount.new.self.entries.items c.mount.result c.mount.ensures.cause

pub returns-clause-power : goal.returns-clause-power
returns-clause-power g c = power-through (on_medium c.args.self.now.flash.geometry c.args.self.now.flash.blocks c.args.self.now.flash.start c.args.self.now.flash.media.ghost_name c.args.self.now.flash.on c.args.self.now.flash.armed c.args.self.now.flash.cuts c.args.self.now.flash.work (g.M.Media.state c.args.self.now.flash.media.now)) _ c.power_on.ensures _ c.args.self.now.tables.entries.items c.mount.new.self.entries.items c.mount.result c.mount.ensures.goes c.mount.ensures.power

pub returns-clause-goes : goal.returns-clause-goes
returns-clause-goes g c = goes-through (on_medium c.args.self.now.flash.geometry c.args.self.now.flash.blocks c.args.self.now.flash.start c.args.self.now.flash.media.ghost_name c.args.self.now.flash.on c.args.self.now.flash.armed c.args.self.now.flash.cuts c.args.self.now.flash.work (g.M.Media.state c.args.self.now.flash.media.now)) _ c.power_on.ensures _ c.mount.ensures.goes

pub returns-clause-room : goal.returns-clause-room
returns-clause-room g c =
    let page = sym (ap (λ (x : Geometry). x.page) (goes-through (on_medium c.args.self.now.flash.geometry c.args.self.now.flash.blocks c.args.self.now.flash.start c.args.self.now.flash.media.ghost_name c.args.self.now.flash.on c.args.self.now.flash.armed c.args.self.now.flash.cuts c.args.self.now.flash.work (g.M.Media.state c.args.self.now.flash.media.now)) _ c.power_on.ensures _ c.mount.ensures.goes).geometry) in
    record { rows = c.mount.ensures.room ∙ (c.requires.room.rows ∙ page); index = c.requires.room.index ∙ page }

pub returns-clause-repairs : goal.returns-clause-repairs
returns-clause-repairs g c = repairs-through (on_medium c.args.self.now.flash.geometry c.args.self.now.flash.blocks c.args.self.now.flash.start c.args.self.now.flash.media.ghost_name c.args.self.now.flash.on c.args.self.now.flash.armed c.args.self.now.flash.cuts c.args.self.now.flash.work (g.M.Media.state c.args.self.now.flash.media.now)) _ c.power_on.ensures _ c.args.self.now.tables.entries.items c.mount.new.self.entries.items c.mount.result c.mount.ensures.repairs

pub returns-clause-outside : goal.returns-clause-outside
returns-clause-outside g c = outside-through (on_medium c.args.self.now.flash.geometry c.args.self.now.flash.blocks c.args.self.now.flash.start c.args.self.now.flash.media.ghost_name c.args.self.now.flash.on c.args.self.now.flash.armed c.args.self.now.flash.cuts c.args.self.now.flash.work (g.M.Media.state c.args.self.now.flash.media.now)) _ c.power_on.ensures (on_medium c.mount.new.flash.geometry c.mount.new.flash.blocks c.mount.new.flash.start c.mount.new.flash.media.ghost_name c.mount.new.flash.on c.mount.new.flash.armed c.mount.new.flash.cuts c.mount.new.flash.work (g.M.Media.state c.mount.new.flash.media.now)) c.args.self.now.tables.entries.items c.mount.new.self.entries.items c.mount.result c.mount.ensures.outside

pub returns-clause-reads : goal.returns-clause-reads
returns-clause-reads g c = reads-through (on_medium c.args.self.now.flash.geometry c.args.self.now.flash.blocks c.args.self.now.flash.start c.args.self.now.flash.media.ghost_name c.args.self.now.flash.on c.args.self.now.flash.armed c.args.self.now.flash.cuts c.args.self.now.flash.work (g.M.Media.state c.args.self.now.flash.media.now)) _ c.power_on.ensures (on_medium c.mount.new.flash.geometry c.mount.new.flash.blocks c.mount.new.flash.start c.mount.new.flash.media.ghost_name c.mount.new.flash.on c.mount.new.flash.armed c.mount.new.flash.cuts c.mount.new.flash.work (g.M.Media.state c.mount.new.flash.media.now)) c.args.self.now.tables.entries.items c.mount.new.self.entries.items c.mount.result c.mount.ensures.reads

pub returns-clause-same : goal.returns-clause-same
returns-clause-same g c = tables-same c.args.self.now.tables.entries.items c.mount.new.self.entries.items c.mount.ensures.as_many c.mount.ensures.names c.mount.ensures.same
