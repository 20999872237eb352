use Rattle.std.proofs.Common.{◌≡◌, ◌^◌, ◌<◌, Some, rules, refl, ap, subst, inl, inr, slice_get}
use Rattle.fl_flash.specs.declared.flash.Work.{Work}
use Rattle.fl_session.proofs.LooksAt.{looks-pairs}
use Rattle.fl_session.proofs.CountedReads.{has-read}
use Rattle.fl_frame.proofs.ContentsInTurn.{OnlyReads-goes}
use Rattle.fl_session.proofs.Operations.{join-executes, join-refused, join-alone}
use Rattle.fl_session.proofs.NamedTable.{reached-here, reached-within}
use Rattle.fl_session.proofs.Sound.{sound-roomed}
use Rattle.fl_session.proofs.ReplyCauses.{reached-entry, refusal-says, says-written, is-here}
use Rattle.fl_store.proofs.Queried.{lies-unlogged, runs-unlogged}
use Rattle.fl_frame.proofs.CallsInTurn.{goes-same}
use Rattle.fl_session.proofs.session.Session.join.Goals as goal

pub returns-in-Err-clause-step : goal.returns-in-Err-clause-step
returns-in-Err-clause-step g c = λ config old h. join-refused _ config old _ c.args.left c.args.right _ _ _ c.args.range _ _ _ h c.in-Err.refusal c.in-Err.ensures c.write_reply.ensures.text

pub returns-in-Err-find-clause-step : goal.returns-in-Err-find-clause-step
returns-in-Err-find-clause-step g c = λ config old h. join-alone _ config old _ c.args.left c.args.right _ _ _ c.args.range _ _ _ c.in-Ok.at h c.in-Ok.ensures c.in-Err-find.refusal c.in-Err-find.ensures c.write_reply-in-Err-find.ensures.text

pub index-requires : goal.index-requires
index-requires g c = reached-within c.args.self.now.tables.entries.items _ _ _ c.in-Ok.at c.args.self.now.tables.entries.ok.0 c.in-Ok.ensures

pub index-requires-2 : goal.index-requires-2
index-requires-2 g c = reached-within c.args.self.now.tables.entries.items _ _ _ c.in-Ok-find.at c.args.self.now.tables.entries.ok.0 c.in-Ok-find.ensures

pub join-requires-clause-left_running : goal.join-requires-clause-left_running
join-requires-clause-left_running g c =
    let here : slice_get c.args.self.now.tables.entries.items c.in-Ok.at ≡ Some c.index.result.now = reached-here c.args.self.now.tables.entries.items _ _ c.in-Ok.at c.index.result.now c.in-Ok.ensures c.index.ensures in
    runs-unlogged c.table-left_table.result.now c.index.result.now c.table-left_table.ensures (c.requires.sound.running c.in-Ok.ensures.mounted_is c.in-Ok.at c.index.result.now here)

pub join-requires-clause-right_running : goal.join-requires-clause-right_running
join-requires-clause-right_running g c =
    let here : slice_get c.args.self.now.tables.entries.items c.in-Ok-find.at ≡ Some c.index-2.result.now = reached-here c.args.self.now.tables.entries.items _ _ c.in-Ok-find.at c.index-2.result.now c.in-Ok-find.ensures c.index-2.ensures in
    runs-unlogged c.table-right_table.result.now c.index-2.result.now c.table-right_table.ensures (c.requires.sound.running c.in-Ok-find.ensures.mounted_is c.in-Ok-find.at c.index-2.result.now here)

pub join-requires-clause-left_lies : goal.join-requires-clause-left_lies
join-requires-clause-left_lies g c =
    let here : slice_get c.args.self.now.tables.entries.items c.in-Ok.at ≡ Some c.index.result.now = reached-here c.args.self.now.tables.entries.items _ _ c.in-Ok.at c.index.result.now c.in-Ok.ensures c.index.ensures in
    lies-unlogged c.table-left_table.result.now c.index.result.now c.table-left_table.ensures (c.requires.sound.lie c.in-Ok.at c.index.result.now here)

pub join-requires-clause-right_lies : goal.join-requires-clause-right_lies
join-requires-clause-right_lies g c =
    let here : slice_get c.args.self.now.tables.entries.items c.in-Ok-find.at ≡ Some c.index-2.result.now = reached-here c.args.self.now.tables.entries.items _ _ c.in-Ok-find.at c.index-2.result.now c.in-Ok-find.ensures c.index-2.ensures in
    lies-unlogged c.table-right_table.result.now c.index-2.result.now c.table-right_table.ensures (c.requires.sound.lie c.in-Ok-find.at c.index-2.result.now here)

pub returns-clause-goes : goal.returns-clause-goes
returns-clause-goes g c = OnlyReads-goes _ _ c.join.ensures.reads_only

pub returns-clause-sound : goal.returns-clause-sound
returns-clause-sound g c = sound-roomed c.args.self.now.tables.entries.items _ _ _ _ _ _ (OnlyReads-goes _ _ c.join.ensures.reads_only) c.join.ensures.reads_only.power c.join.ensures.room c.in-Ok.ensures.mounted_is c.requires.sound

pub returns-clause-step : goal.returns-clause-step
returns-clause-step g c = λ config old h.
    let before : c.work-before.result.reads ≡ c.args.self.now.flash.work.reads = ap (λ (w : Work). w.reads) c.work-before.ensures in
    let fits : c.work-before.result.reads < 2 ^ 64 = search rules in
    let small : c.args.self.now.flash.work.reads < 2 ^ 64 = subst (λ n. n < 2 ^ 64) before fits in
    let left : slice_get c.args.self.now.tables.entries.items c.in-Ok.at ≡ Some c.index.result.now = reached-here c.args.self.now.tables.entries.items _ _ c.in-Ok.at c.index.result.now c.in-Ok.ensures c.index.ensures in
    let right : slice_get c.args.self.now.tables.entries.items c.in-Ok-find.at ≡ Some c.index-2.result.now = reached-here c.args.self.now.tables.entries.items _ _ c.in-Ok-find.at c.index-2.result.now c.in-Ok-find.ensures c.index-2.ensures in
    join-executes _ config old _ c.args.left c.args.right _ _ _ c.args.range _ _ _ c.in-Ok.at c.in-Ok-find.at c.index.result.now c.index-2.result.now c.table-left_table.result.now c.table-right_table.result.now _ _ h c.in-Ok.ensures left c.in-Ok-find.ensures right c.table-left_table.ensures c.table-right_table.ensures c.join.ensures.reads_only
    (has-read _ _ c.join.ensures.reads_only _ small refl) c.join.ensures.counted

pub returns-in-Err-clause-cause : goal.returns-in-Err-clause-cause
returns-in-Err-clause-cause g c = inl (says-written _ _ _ _ _ _ (refusal-says _ c.args.left c.in-Err.refusal c.in-Err.ensures) c.write_reply.ensures.text)

pub returns-in-Err-find-clause-cause : goal.returns-in-Err-find-clause-cause
returns-in-Err-find-clause-cause g c =
    let left = reached-entry c.args.self.now.tables.entries.items _ _ c.in-Ok.at c.in-Ok.ensures in
    inr (
      c.in-Ok.at,
      left.0,
      is-here _ c.args.left c.in-Ok.at left.0 c.in-Ok.ensures left.1,
      inl (says-written _ _ _ _ _ _ (refusal-says _ c.args.right c.in-Err-find.refusal c.in-Err-find.ensures) c.write_reply-in-Err-find.ensures.text),
    )

pub returns-clause-cause : goal.returns-clause-cause
returns-clause-cause g c =
    let left : slice_get c.args.self.now.tables.entries.items c.in-Ok.at ≡ Some c.index.result.now = reached-here c.args.self.now.tables.entries.items _ _ c.in-Ok.at c.index.result.now c.in-Ok.ensures c.index.ensures in
    let right : slice_get c.args.self.now.tables.entries.items c.in-Ok-find.at ≡ Some c.index-2.result.now = reached-here c.args.self.now.tables.entries.items _ _ c.in-Ok-find.at c.index-2.result.now c.in-Ok-find.ensures c.index-2.ensures in
    inr (
      c.in-Ok.at,
      c.index.result.now,
      is-here _ c.args.left c.in-Ok.at c.index.result.now c.in-Ok.ensures left,
      inr (c.in-Ok-find.at, c.index-2.result.now, is-here _ c.args.right c.in-Ok-find.at c.index-2.result.now c.in-Ok-find.ensures right, looks-pairs _ _ _ _ _ c.args.range _ _ _ _ _ _ _ _ _ refl c.join.ensures.reads_only c.table-left_table.ensures c.table-right_table.ensures c.join.ensures.says),
    )

pub returns-in-Err-clause-sound : goal.returns-in-Err-clause-sound
returns-in-Err-clause-sound g c = c.requires.sound

pub returns-in-Err-clause-goes : goal.returns-in-Err-clause-goes
returns-in-Err-clause-goes g c = goes-same _

pub returns-in-Err-clause-sink : goal.returns-in-Err-clause-sink
returns-in-Err-clause-sink g c = c.write_reply.ensures.cause

pub returns-in-Err-find-clause-sound : goal.returns-in-Err-find-clause-sound
returns-in-Err-find-clause-sound g c = c.requires.sound

pub returns-in-Err-find-clause-goes : goal.returns-in-Err-find-clause-goes
returns-in-Err-find-clause-goes g c = goes-same _

pub returns-in-Err-find-clause-sink : goal.returns-in-Err-find-clause-sink
returns-in-Err-find-clause-sink g c = c.write_reply-in-Err-find.ensures.cause

pub returns-clause-sink : goal.returns-clause-sink
returns-clause-sink g c = c.join.ensures.cause

pub join-requires-clause-room : goal.join-requires-clause-room
join-requires-clause-room g c = c.requires.sound.room
