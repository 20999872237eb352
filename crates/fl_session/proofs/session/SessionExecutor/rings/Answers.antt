use Rattle.std.proofs.Common.{◌≡◌, Some, refl, slice_get}
use Rattle.fl_session.specs.Held.{TellsRings}
use Rattle.fl_session.proofs.NamedTable.{reached-here, reached-within}
use Rattle.fl_session.proofs.ReplyCauses.{is-here}
use Rattle.fl_session.proofs.ToldOfTable.{told-refused, rings-told}
use Rattle.fl_session.proofs.session.SessionExecutor.rings.Goals as goal

pub returns-in-Err-clause-holds : goal.returns-in-Err-clause-holds
returns-in-Err-clause-holds g c = λ config m h. told-refused config m c.args.self.now.tables.entries.items c.args.self.now.notes _ c.args.self.now.mounted c.args.name TellsRings c.in-Err.refusal h c.in-Err.ensures

pub index-requires : goal.index-requires
index-requires g c = reached-within c.args.self.now.tables.entries.items _ _ _ c.in-Ok.at c.args.self.now.tables.entries.ok.0 c.in-Ok.ensures

pub returns-clause-holds : goal.returns-clause-holds
returns-clause-holds g c = λ config m h.
    let here : slice_get c.args.self.now.tables.entries.items c.in-Ok.at ≡ Some c.index.result.now = reached-here c.args.self.now.tables.entries.items _ _ c.in-Ok.at c.index.result.now c.in-Ok.ensures c.index.ensures in
    rings-told config m c.args.self.now.tables.entries.items c.args.self.now.notes _ c.args.self.now.mounted c.args.name c.in-Ok.at c.index.result.now c.index.result.now.table c.rings.result h c.in-Ok.ensures here refl c.rings.ensures.stands

pub returns-in-Err-clause-cause : goal.returns-in-Err-clause-cause
returns-in-Err-clause-cause g c = c.in-Err.ensures

pub returns-clause-cause : goal.returns-clause-cause
returns-clause-cause g c =
    let here : slice_get c.args.self.now.tables.entries.items c.in-Ok.at ≡ Some c.index.result.now = reached-here c.args.self.now.tables.entries.items _ _ c.in-Ok.at c.index.result.now c.in-Ok.ensures c.index.ensures in
    (c.in-Ok.at, c.index.result.now, is-here _ c.args.name c.in-Ok.at c.index.result.now c.in-Ok.ensures here, c.rings.ensures.exact)
