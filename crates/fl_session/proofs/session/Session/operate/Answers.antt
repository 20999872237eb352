use Rattle.std.proofs.Common.{◌≡◌, ◌^◌, ◌<◌, Some, None, rules, refl, sym, ◌∙◌, ap, subst, inl, inr, slice_get}
use Rattle.fl_flash.specs.declared.flash.Work.{Work}
use Rattle.fl_rlc.specs.Table.{table_in}
use Rattle.fl_table.specs.Look.{layout_in}
use Rattle.fl_table.specs.declared.table.Table.{Table}
use Rattle.fl_queries.specs.Asked.{lacked_column}
use Rattle.fl_queries.specs.ListSays.{EndsRange}
use Rattle.fl_queries.specs.Operators.{columns_by, AreLinesBy}
use Rattle.fl_session.proofs.LooksAt.{looks-lists}
use Rattle.fl_session.proofs.CountedReads.{has-read}
use Rattle.fl_frame.proofs.ContentsInTurn.{OnlyReads-goes}
use Rattle.fl_session.proofs.NamedTable.{reached-here, reached-within}
use Rattle.fl_session.proofs.Sound.{sound-roomed}
use Rattle.fl_session.proofs.Operations.{operator-executes, operator-no_column, operator-refused}
use Rattle.fl_session.proofs.ReplyCauses.{refusal-says, says-written, is-here, lacks-says, has-says, caused-by}
use Rattle.fl_store.proofs.Queried.{lies-unlogged, runs-unlogged}
use Rattle.fl_frame.proofs.CallsInTurn.{goes-same}
use Rattle.fl_session.proofs.session.Session.operate.Goals as goal

pub returns-in-Err-clause-step : goal.returns-in-Err-clause-step
returns-in-Err-clause-step g c = λ config old h. operator-refused _ config old _ c.args.name _ _ _ c.args.operator c.args.range _ _ _ h c.in-Err.refusal c.in-Err.ensures c.write_reply.ensures.text

pub returns-in-Some-clause-step : goal.returns-in-Some-clause-step
returns-in-Some-clause-step g c = λ config old h.
    let here : slice_get c.args.self.now.tables.entries.items c.in-Ok.at ≡ Some c.index.result.now = reached-here c.args.self.now.tables.entries.items _ _ c.in-Ok.at c.index.result.now c.in-Ok.ensures c.index.ensures in
    operator-no_column _ config old _ c.args.name _ _ _ c.args.operator c.args.range _ _ _
    c.in-Ok.at c.index.result.now c.table-table.result.now h c.in-Ok.ensures here c.table-table.ensures c.in-Some.column c.in-Some.ensures c.write_reply-in-Some.ensures.text

pub returns-clause-step : goal.returns-clause-step
returns-clause-step g c = λ config old h.
    let before : c.work-before.result.reads ≡ c.args.self.now.flash.work.reads = ap (λ (w : Work). w.reads) c.work-before.ensures in
    let fits : c.work-before.result.reads < 2 ^ 64 = search rules in
    let small : c.args.self.now.flash.work.reads < 2 ^ 64 = subst (λ n. n < 2 ^ 64) before fits in
    let here : slice_get c.args.self.now.tables.entries.items c.in-Ok.at ≡ Some c.index.result.now = reached-here c.args.self.now.tables.entries.items _ _ c.in-Ok.at c.index.result.now c.in-Ok.ensures c.index.ensures in
    operator-executes _ config old _ c.args.name _ _ _ c.args.operator c.args.range _ _ _
    c.in-Ok.at c.index.result.now c.table-table.result.now _ _ h c.in-Ok.ensures here c.table-table.ensures c.operate.ensures.reads_only (has-read _ _ c.operate.ensures.reads_only _ small refl) c.in_default.ensures c.operate.ensures.counted

pub index-requires : goal.index-requires
index-requires g c = reached-within c.args.self.now.tables.entries.items _ _ _ c.in-Ok.at c.args.self.now.tables.entries.ok.0 c.in-Ok.ensures

pub operate-requires-clause-running : goal.operate-requires-clause-running
operate-requires-clause-running g c =
    let here : slice_get c.args.self.now.tables.entries.items c.in-Ok.at ≡ Some c.index.result.now = reached-here c.args.self.now.tables.entries.items _ _ c.in-Ok.at c.index.result.now c.in-Ok.ensures c.index.ensures in
    runs-unlogged c.table-table.result.now c.index.result.now c.table-table.ensures (c.requires.sound.running c.in-Ok.ensures.mounted_is c.in-Ok.at c.index.result.now here)

pub operate-requires-clause-lies : goal.operate-requires-clause-lies
operate-requires-clause-lies g c =
    let here : slice_get c.args.self.now.tables.entries.items c.in-Ok.at ≡ Some c.index.result.now = reached-here c.args.self.now.tables.entries.items _ _ c.in-Ok.at c.index.result.now c.in-Ok.ensures c.index.ensures in
    lies-unlogged c.table-table.result.now c.index.result.now c.table-table.ensures (c.requires.sound.lie c.in-Ok.at c.index.result.now here)

pub returns-clause-goes : goal.returns-clause-goes
returns-clause-goes g c = OnlyReads-goes _ _ c.operate.ensures.reads_only

pub returns-clause-sound : goal.returns-clause-sound
returns-clause-sound g c = sound-roomed c.args.self.now.tables.entries.items _ _ _ _ _ _ (OnlyReads-goes _ _ c.operate.ensures.reads_only) c.operate.ensures.reads_only.power c.operate.ensures.room c.in-Ok.ensures.mounted_is c.requires.sound

pub returns-in-Err-clause-cause : goal.returns-in-Err-clause-cause
returns-in-Err-clause-cause g c = caused-by c.args.operator _ _ c.args.name c.args.range _ _ _ (inl (says-written _ _ _ _ _ _ (refusal-says _ c.args.name c.in-Err.refusal c.in-Err.ensures) c.write_reply.ensures.text))

pub returns-in-Some-clause-cause : goal.returns-in-Some-clause-cause
returns-in-Some-clause-cause g c =
    let here : slice_get c.args.self.now.tables.entries.items c.in-Ok.at ≡ Some c.index.result.now = reached-here c.args.self.now.tables.entries.items _ _ c.in-Ok.at c.index.result.now c.in-Ok.ensures c.index.ensures in
    let lacks : Some c.in-Some.column ≡ lacked_column (layout_in (table_in c.index.result.now.table)) (columns_by c.args.operator) = c.in-Some.ensures ∙ ap (λ (t : Table 64 64). lacked_column (layout_in t) (columns_by c.args.operator)) c.table-table.ensures in
    caused-by c.args.operator _ _ c.args.name c.args.range _ _ _ (inr (
      c.in-Ok.at,
      c.index.result.now,
      is-here _ c.args.name c.in-Ok.at c.index.result.now c.in-Ok.ensures here,
      lacks-says _ _ _ c.args.range (AreLinesBy c.args.operator c.args.range) c.index.result.now _ _ _ _ c.in-Some.column (sym lacks) refl c.write_reply-in-Some.ensures.text,
    ))

pub returns-clause-cause : goal.returns-clause-cause
returns-clause-cause g c =
    let here : slice_get c.args.self.now.tables.entries.items c.in-Ok.at ≡ Some c.index.result.now = reached-here c.args.self.now.tables.entries.items _ _ c.in-Ok.at c.index.result.now c.in-Ok.ensures c.index.ensures in
    let none : None ≡ lacked_column (layout_in (table_in c.index.result.now.table)) (columns_by c.args.operator) = c.in_default.ensures ∙ ap (λ (t : Table 64 64). lacked_column (layout_in t) (columns_by c.args.operator)) c.table-table.ensures in
    caused-by c.args.operator _ _ c.args.name c.args.range _ _ _ (inr (
      c.in-Ok.at,
      c.index.result.now,
      is-here _ c.args.name c.in-Ok.at c.index.result.now c.in-Ok.ensures here,
      has-says _ _ _ c.args.range (AreLinesBy c.args.operator c.args.range) c.index.result.now _ _ _ _ (sym none)
          (looks-lists _ _ _ _ _ (λ (t : Table 64 64). AreLinesBy c.args.operator c.args.range) (EndsRange c.args.range) _ _ _ _ _ _ _ refl c.operate.ensures.reads_only c.table-table.ensures c.operate.ensures.says),
    ))

pub returns-in-Err-clause-sound : goal.returns-in-Err-clause-sound
returns-in-Err-clause-sound g c = c.requires.sound

pub returns-in-Err-clause-goes : goal.returns-in-Err-clause-goes
returns-in-Err-clause-goes g c = goes-same _

pub returns-in-Err-clause-sink : goal.returns-in-Err-clause-sink
returns-in-Err-clause-sink g c = c.write_reply.ensures.cause

pub returns-in-Some-clause-sound : goal.returns-in-Some-clause-sound
returns-in-Some-clause-sound g c = c.requires.sound

pub returns-in-Some-clause-goes : goal.returns-in-Some-clause-goes
returns-in-Some-clause-goes g c = goes-same _

pub returns-in-Some-clause-sink : goal.returns-in-Some-clause-sink
returns-in-Some-clause-sink g c = c.write_reply-in-Some.ensures.cause

pub returns-clause-sink : goal.returns-clause-sink
returns-clause-sink g c = c.operate.ensures.cause

pub operate-requires-clause-room : goal.operate-requires-clause-room
operate-requires-clause-room g c = c.requires.sound.room

pub operate-requires-clause-columns : goal.operate-requires-clause-columns
operate-requires-clause-columns g c = sym c.in_default.ensures

pub operate-requires-clause-fit : goal.operate-requires-clause-fit
operate-requires-clause-fit g c = c.requires.fit
