use Rattle.std.proofs.Common.{◌≡◌, Some, inl, inr, refl, slice_get}
use Rattle.fl_frame.proofs.CallsInTurn.{stays}
use Rattle.fl_frame.proofs.ContentsInTurn.{OnlyReads-goes}
use Rattle.fl_session.proofs.LookingFor.{looks-refused, looks-there}
use Rattle.fl_session.proofs.NamedTable.{reached-here, reached-within}
use Rattle.fl_session.proofs.ReplyCauses.{is-here, only-looks}
use Rattle.fl_session.proofs.Sound.{sound-roomed}
use Rattle.fl_session.proofs.ToldOfTable.{oldest-told}
use Rattle.fl_store.proofs.Queried.{lies-unlogged, runs-unlogged}
use Rattle.fl_session.proofs.session.SessionExecutor.oldest_blob.Goals as goal

pub returns-in-Err-clause-looks : goal.returns-in-Err-clause-looks
returns-in-Err-clause-looks g c = λ config m h. looks-refused config m c.args.self.now.tables.entries.items c.args.self.now.notes _ c.args.self.now.mounted c.args.name c.in-Err.refusal h c.in-Err.ensures

pub index-requires : goal.index-requires
index-requires g c = reached-within c.args.self.now.tables.entries.items _ _ _ c.in-Ok.at c.args.self.now.tables.entries.ok.0 c.in-Ok.ensures

pub oldest_blob-requires-clause-running : goal.oldest_blob-requires-clause-running
oldest_blob-requires-clause-running g c =
    let here : slice_get c.args.self.now.tables.entries.items c.in-Ok.at ≡ Some c.index.result.now = reached-here c.args.self.now.tables.entries.items _ _ c.in-Ok.at c.index.result.now c.in-Ok.ensures c.index.ensures in
    runs-unlogged c.table-table.result.now c.index.result.now c.table-table.ensures (c.requires.running c.in-Ok.ensures.mounted_is c.in-Ok.at c.index.result.now here)

pub oldest_blob-requires-clause-lies : goal.oldest_blob-requires-clause-lies
oldest_blob-requires-clause-lies g c =
    let here : slice_get c.args.self.now.tables.entries.items c.in-Ok.at ≡ Some c.index.result.now = reached-here c.args.self.now.tables.entries.items _ _ c.in-Ok.at c.index.result.now c.in-Ok.ensures c.index.ensures in
    lies-unlogged c.table-table.result.now c.index.result.now c.table-table.ensures (c.requires.lie c.in-Ok.at c.index.result.now here)

pub oldest_blob-requires-clause-room : goal.oldest_blob-requires-clause-room
oldest_blob-requires-clause-room g c = c.requires.room

pub returns-clause-goes : goal.returns-clause-goes
returns-clause-goes g c = stays _ _ (OnlyReads-goes _ _ c.oldest_blob.ensures.counts)

pub returns-clause-sound : goal.returns-clause-sound
returns-clause-sound g c = sound-roomed c.args.self.now.tables.entries.items _ _ _ _ _ _ (OnlyReads-goes _ _ c.oldest_blob.ensures.counts) c.oldest_blob.ensures.counts.power c.oldest_blob.ensures.room c.in-Ok.ensures.mounted_is c.requires

pub returns-clause-looks : goal.returns-clause-looks
returns-clause-looks g c = λ config m h.
    let here : slice_get c.args.self.now.tables.entries.items c.in-Ok.at ≡ Some c.index.result.now = reached-here c.args.self.now.tables.entries.items _ _ c.in-Ok.at c.index.result.now c.in-Ok.ensures c.index.ensures in
    looks-there config m c.args.self.now.tables.entries.items c.args.self.now.notes _ _ c.args.self.now.mounted c.args.name c.in-Ok.at c.index.result.now c.table-table.result.now c.oldest_blob.result h c.in-Ok.ensures here c.table-table.ensures
    c.oldest_blob.ensures.counts c.oldest_blob.ensures.finds c.oldest_blob.ensures.reads

pub returns-in-Err-clause-cause : goal.returns-in-Err-clause-cause
returns-in-Err-clause-cause g c = inl (c.in-Err.refusal, refl, c.in-Err.ensures, refl)

pub returns-clause-cause : goal.returns-clause-cause
returns-clause-cause g c =
    let here : slice_get c.args.self.now.tables.entries.items c.in-Ok.at ≡ Some c.index.result.now = reached-here c.args.self.now.tables.entries.items _ _ c.in-Ok.at c.index.result.now c.in-Ok.ensures c.index.ensures in
    inr (
      c.in-Ok.at,
      c.index.result.now,
      is-here _ c.args.name c.in-Ok.at c.index.result.now c.in-Ok.ensures here,
      oldest-told c.table-table.result.now c.index.result.now _ _ c.oldest_blob.result c.table-table.ensures c.oldest_blob.ensures.counts c.oldest_blob.ensures.cause,
      only-looks _ _ _ _ _ _ _ refl c.oldest_blob.ensures.counts,
    )
