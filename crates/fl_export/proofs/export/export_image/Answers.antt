use Rattle.std.proofs.Common.{◌≡◌, ◌<◌, ◌≤◌, inl, inr, rules, length, refl, sym, ◌∙◌, ap, subst, arith}
use Rattle.std.proofs.Math.Nat.{le_refl}
use Rattle.std.proofs.lemmas.Option.{slice_get_within}
use Rattle.fl_base.specs.declared.types.Geometry.{Geometry}
use Rattle.fl_base.proofs.Risen.{rose-back}
use Rattle.fl_store.proofs.Unarmed.{opened-unarmed}
use Rattle.fl_image.specs.declared.status.ToolStatus.TheVariants.{NoMemory}
use Rattle.fl_store.specs.FoundTable.{FindsNone}
use Rattle.fl_store.specs.Tables.{IsNamed}
use Rattle.fl_store.specs.declared.tables.Tables.{Tables}
use Rattle.fl_store.proofs.FoundTables.{found-holds}
use Rattle.fl_store.proofs.Jobs.{job-over, unopened}
use Rattle.fl_store.proofs.Named.{image-with}
use Rattle.fl_store.proofs.Opened.{looks-keeps, keeps-then}
use Rattle.fl_store.proofs.ImageRepairs.{still-repaired, repaired-after}
use Rattle.fl_store.proofs.TablesChanged.{some-is}
use Rattle.fl_store.proofs.Worked.{worked-by, worked-keeps, worked-repaired, worked-rose}
use Rattle.fl_export.specs.Over.{ExportsOver}
use Rattle.fl_export.specs.Rooms.{HasRooms}
use Rattle.fl_export.specs.Tables.{IsOfTable}
use Rattle.fl_export.proofs.ImageEnds.{early-ends, ends-seen}
use Rattle.fl_export.proofs.Statuses.{fits-early, fits-table, memory-known, memory-no-device, memory-quiet, not-early}
use Rattle.fl_export.proofs.export.export_image.Given.{Over}
use Rattle.fl_export.proofs.export.export_image.Goals as goal

-- the medium is the one that the store gives back
given-back : (g : Over) (c : goal.After-drop-rooms-4 g) → g.M.Media.state c.media-1.given.0 ≡ g.M.Media.state c.close-media.result.now
given-back g c = search rules

pub returns-in-Err-clause-ends : goal.returns-in-Err-clause-ends
returns-in-Err-clause-ends g c = λ config tables tells made image. early-ends config tables c.args.name c.args.range (g.M.Media.state c.args.media.now) (g.M.Media.state c.on.new.media) (g.K.Sink.written c.args.out.now) made tells image c.in-Err.ensures.looks c.in-Err.status c.in-Err.ensures.none

pub returns-in-Err-clause-repairs : goal.returns-in-Err-clause-repairs
returns-in-Err-clause-repairs g c = λ config tables tells made image well. still-repaired config _ _ c.in-Err.ensures.looks.content

pub returns-in-Err-clause-fits : goal.returns-in-Err-clause-fits
returns-in-Err-clause-fits g c = λ tells. fits-early (g.M.Media.state c.args.media.now) (g.M.Media.state c.on.new.media) c.args.name c.in-Err.status tells c.in-Err.ensures.none

pub returns-in-Err-clause-device : goal.returns-in-Err-clause-device
returns-in-Err-clause-device g c = λ is. subst (FindsNone (g.M.Media.state c.args.media.now) (g.M.Media.state c.on.new.media) c.args.name) is c.in-Err.ensures.none

pub returns-in-Err-clause-known : goal.returns-in-Err-clause-known
returns-in-Err-clause-known g c = λ is. subst (FindsNone (g.M.Media.state c.args.media.now) (g.M.Media.state c.on.new.media) c.args.name) is c.in-Err.ensures.none

pub returns-in-Err-clause-write : goal.returns-in-Err-clause-write
returns-in-Err-clause-write g c = λ is. absurd (subst (FindsNone (g.M.Media.state c.args.media.now) (g.M.Media.state c.on.new.media) c.args.name) is c.in-Err.ensures.none)

pub returns-in-Err-clause-keeps : goal.returns-in-Err-clause-keeps
returns-in-Err-clause-keeps g c = looks-keeps _ _ c.in-Err.ensures.looks

pub returns-in_default-clause-ends : goal.returns-in_default-clause-ends
returns-in_default-clause-ends g c = λ config tables tells made image. early-ends config tables c.args.name c.args.range (g.M.Media.state c.args.media.now) (g.M.Media.state c.on.new.media) (g.K.Sink.written c.args.out.now) made tells image c.in-Ok.ensures.looks NoMemory tt

pub returns-in_default-clause-repairs : goal.returns-in_default-clause-repairs
returns-in_default-clause-repairs g c = λ config tables tells made image well. still-repaired config _ _ c.in-Ok.ensures.looks.content

pub returns-in_default-clause-keeps : goal.returns-in_default-clause-keeps
returns-in_default-clause-keeps g c = looks-keeps _ _ c.in-Ok.ensures.looks

pub export_on-status-requires-clause-rooms : goal.export_on-status-requires-clause-rooms
export_on-status-requires-clause-rooms g c =
    subst (λ (x : Geometry). HasRooms c.in-Ok-new.rooms x.page) (some-is c.in-Ok.found.config.device c.geometry-page.result _ c.geometry-page.ensures.device c.over-flash.ensures.opened.device) c.in-Ok-new.ensures

pub export_on-status-requires-clause-at : goal.export_on-status-requires-clause-at
export_on-status-requires-clause-at g c =
    let named = c.in-Ok.ensures.table.named in
    subst (λ (t : Tables). c.in-Ok.found.at < length t.entries.items) (sym c.over-flash.ensures.tables) (slice_get_within c.in-Ok.found.layout.tables.entries.items c.in-Ok.found.at named.entry named.here)

pub export_on-status-requires-clause-few : goal.export_on-status-requires-clause-few
export_on-status-requires-clause-few g c = subst (λ (t : Tables). length t.entries.items ≤ 4) (sym c.over-flash.ensures.tables) c.in-Ok.ensures.table.few

pub export_on-status-requires-clause-unarmed : goal.export_on-status-requires-clause-unarmed
export_on-status-requires-clause-unarmed g c = opened-unarmed _ _ _ c.over-flash.ensures.opened

pub returns-clause-ends : goal.returns-clause-ends
returns-clause-ends g c = λ config tables tells made image.
    let looks = c.in-Ok.ensures.looks in
    let holds = found-holds (g.M.Media.state c.args.media.now) (g.M.Media.state c.on.new.media) c.args.name config made tables tells image looks c.in-Ok.found c.in-Ok.ensures.table _ _ c.over-flash.ensures.holds in
    let opened = c.over-flash.ensures.opened in
    let e = given-back g c in
    let worked = worked-by opened c.export_on-status.ensures.goes (e ∙ c.close-media.ensures.state) in
    ends-seen config tables c.args.name c.args.range (g.M.Media.state c.args.media.now) _ _ _ _ _ (g.K.Sink.written c.args.out.now) (g.K.Sink.written c.export_on-status.new.out) c.export_on-status.new.tables.entries.items looks worked holds.medium c.export_on-status.result
    (c.export_on-status.ensures.ends config.plans tables c.args.name holds.medium.told opened.on opened.calm holds.stand (subst (λ (t : Tables). IsNamed t.entries.items c.args.name c.in-Ok.found.at) (sym c.over-flash.ensures.tables) c.in-Ok.ensures.table.named))

pub returns-clause-repairs : goal.returns-clause-repairs
returns-clause-repairs g c = λ config tables tells made image well.
    let looks = c.in-Ok.ensures.looks in
    let holds = found-holds (g.M.Media.state c.args.media.now) (g.M.Media.state c.on.new.media) c.args.name config made tables tells image looks c.in-Ok.found c.in-Ok.ensures.table _ _ c.over-flash.ensures.holds in
    let opened = c.over-flash.ensures.opened in
    let e = given-back g c in
    repaired-after config _ _ _ looks.content (worked-repaired _ _ _ _ _ (worked-by opened c.export_on-status.ensures.goes (e ∙ c.close-media.ensures.state)) config holds.medium
    (c.export_on-status.ensures.repairs config.plans tables c.args.name holds.medium.told opened.on opened.calm holds.stand (subst (λ (t : Tables). IsNamed t.entries.items c.args.name c.in-Ok.found.at) (sym c.over-flash.ensures.tables) c.in-Ok.ensures.table.named) well))

pub returns-clause-fits : goal.returns-clause-fits
returns-clause-fits g c = λ tells.
    let table = c.in-Ok.ensures.table in
    let is = table.image tells in
    fits-table _ c.args.name c.export_on-status.result c.export_on-status.ensures.statuses (image-with _ c.args.name c.in-Ok.found.config c.in-Ok.found.layout.tables.entries.items is.0 is.1 table.layout.tables c.in-Ok.found.at table.named)
    (λ at bad. let lt : at < length c.in-Ok.found.config.plans = omega (arith, c.export_on-status.ensures.bad at bad, ap (λ (t : Tables). length t.entries.items) c.over-flash.ensures.tables, table.layout.tables.as_many) in lt)

pub returns-clause-device : goal.returns-clause-device
returns-clause-device g c = λ is.
    let e = given-back g c in
    rose-back _ _ _ c.in-Ok.ensures.looks.later (worked-rose _ _ _ _ _ (worked-by c.over-flash.ensures.opened c.export_on-status.ensures.goes (e ∙ c.close-media.ensures.state)) (c.export_on-status.ensures.device is))

pub returns-clause-known : goal.returns-clause-known
returns-clause-known g c = λ is. subst IsOfTable is c.export_on-status.ensures.statuses

pub returns-clause-untouched : goal.returns-clause-untouched
returns-clause-untouched g c = not-early c.export_on-status.result c.export_on-status.ensures.statuses

pub returns-clause-changes : goal.returns-clause-changes
returns-clause-changes g c = λ tells.
    let table = c.in-Ok.ensures.table in
    let is = table.image tells in
    inl (image-with _ c.args.name c.in-Ok.found.config c.in-Ok.found.layout.tables.entries.items is.0 is.1 table.layout.tables c.in-Ok.found.at table.named)

pub returns-clause-keeps : goal.returns-clause-keeps
returns-clause-keeps g c =
    let e = given-back g c in
    keeps-then _ _ _ c.in-Ok.ensures.looks (worked-keeps _ _ _ _ _ (worked-by c.over-flash.ensures.opened c.export_on-status.ensures.goes (e ∙ c.close-media.ensures.state)))

pub returns-in-Err-clause-over : goal.returns-in-Err-clause-over
returns-in-Err-clause-over g c = inl (unopened (g.M.Media.state c.args.media.now) (g.M.Media.state c.on.new.media) c.args.name c.in-Err.status c.in-Err.ensures.none, c.in-Err.ensures.looks, refl)

pub returns-in_default-clause-over : goal.returns-in_default-clause-over
returns-in_default-clause-over g c = inl (tt, c.in-Ok.ensures.looks, refl)

pub returns-clause-over : goal.returns-clause-over
returns-clause-over g c =
    let e = given-back g c in
    inr (job-over c.args.name (g.M.Media.state c.args.media.now) (g.M.Media.state c.on.new.media) _ c.in-Ok.found _ _ _ (ExportsOver c.export_on-status.result c.args.out.now c.export_on-status.new.out)
    c.in-Ok.ensures.table c.in-Ok.ensures.looks c.over-flash.ensures.tables c.over-flash.ensures.opened c.export_on-status.ensures.goes (e ∙ c.close-media.ensures.state) c.export_on-status.ensures.over)

pub returns-in-Err-clause-untouched : goal.returns-in-Err-clause-untouched
returns-in-Err-clause-untouched g c = λ early. (c.in-Err.ensures.looks, refl)

pub returns-in-Err-clause-changes : goal.returns-in-Err-clause-changes
returns-in-Err-clause-changes g c = λ tells. inr c.in-Err.ensures.looks.content

pub returns-in-Err-clause-later : goal.returns-in-Err-clause-later
returns-in-Err-clause-later g c = le_refl (g.K.Sink.faults c.args.out.now)

pub returns-in_default-clause-fits : goal.returns-in_default-clause-fits
returns-in_default-clause-fits g c = λ tells. tt

pub returns-in_default-clause-device : goal.returns-in_default-clause-device
returns-in_default-clause-device g c = λ is. absurd (memory-no-device is)

pub returns-in_default-clause-known : goal.returns-in_default-clause-known
returns-in_default-clause-known g c = λ is. memory-known is

pub returns-in_default-clause-untouched : goal.returns-in_default-clause-untouched
returns-in_default-clause-untouched g c = λ early. (c.in-Ok.ensures.looks, refl)

pub returns-in_default-clause-changes : goal.returns-in_default-clause-changes
returns-in_default-clause-changes g c = λ tells. inr c.in-Ok.ensures.looks.content

pub returns-in_default-clause-write : goal.returns-in_default-clause-write
returns-in_default-clause-write g c = λ is. absurd (memory-quiet is)

pub returns-in_default-clause-later : goal.returns-in_default-clause-later
returns-in_default-clause-later g c = le_refl (g.K.Sink.faults c.args.out.now)

pub returns-clause-write : goal.returns-clause-write
returns-clause-write g c = c.export_on-status.ensures.write

pub returns-clause-later : goal.returns-clause-later
returns-clause-later g c = c.export_on-status.ensures.later
