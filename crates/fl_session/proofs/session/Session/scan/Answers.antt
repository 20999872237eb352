use Rattle.std.proofs.Common.{◌≡◌, ◌-◌, ◌^◌, ◌<◌, Some, rules, ap, subst, arith, inl, inr, slice_get}
use Rattle.fl_flash.specs.declared.flash.Work.{Work}
use Rattle.fl_table.specs.BlobAt.{has_blobs}
use Rattle.fl_table.specs.declared.table.Table.{Table}
use Rattle.fl_session.specs.declared.cost.Cost.TheVariants.{OfScan}
use Rattle.fl_queries.specs.ListSays.{mark_on, EndsScan}
use Rattle.fl_queries.specs.RowsGiven.{AreRows}
use Rattle.fl_session.proofs.LooksAt.{looks-lists}
use Rattle.fl_session.proofs.CountedReads.{has-read}
use Rattle.fl_frame.proofs.ContentsInTurn.{OnlyReads-goes}
use Rattle.fl_session.proofs.NamedTable.{reached-here, reached-within}
use Rattle.fl_session.proofs.ScanReplies.{scan-executes, scan-refused}
use Rattle.fl_session.proofs.Sound.{sound-read}
use Rattle.fl_session.proofs.ReplyCauses.{refusal-says, says-written, is-here}
use Rattle.fl_store.proofs.Queried.{lies-unlogged, runs-unlogged}
use Rattle.fl_frame.proofs.CallsInTurn.{goes-same}
use Rattle.fl_session.proofs.session.Session.scan.Goals as goal

pub returns-in-Err-clause-step : goal.returns-in-Err-clause-step
returns-in-Err-clause-step g c = λ config old h. scan-refused _ config old _ _ _ _ c.args.name c.args.range c.args.span c.in-Err.refusal _ _ _ h c.in-Err.ensures c.write_reply.ensures.text

pub index-requires : goal.index-requires
index-requires g c = reached-within c.args.self.now.tables.entries.items _ _ _ c.in-Ok.at c.args.self.now.tables.entries.ok.0 c.in-Ok.ensures

pub list_rows-written-requires-clause-running : goal.list_rows-written-requires-clause-running
list_rows-written-requires-clause-running g c =
    let here : slice_get c.args.self.now.tables.entries.items c.in-Ok.at ≡ Some c.index.result.now = reached-here c.args.self.now.tables.entries.items _ _ c.in-Ok.at c.index.result.now c.in-Ok.ensures c.index.ensures in
    runs-unlogged c.table-table.result.now c.index.result.now c.table-table.ensures (c.requires.sound.running c.in-Ok.ensures.mounted_is c.in-Ok.at c.index.result.now here)

pub list_rows-written-requires-clause-lies : goal.list_rows-written-requires-clause-lies
list_rows-written-requires-clause-lies g c =
    let here : slice_get c.args.self.now.tables.entries.items c.in-Ok.at ≡ Some c.index.result.now = reached-here c.args.self.now.tables.entries.items _ _ c.in-Ok.at c.index.result.now c.in-Ok.ensures c.index.ensures in
    lies-unlogged c.table-table.result.now c.index.result.now c.table-table.ensures (c.requires.sound.lie c.in-Ok.at c.index.result.now here)

pub returns-clause-goes : goal.returns-clause-goes
returns-clause-goes g c = OnlyReads-goes _ _ c.list_rows-written.ensures.counts

pub returns-clause-sound : goal.returns-clause-sound
returns-clause-sound g c = sound-read c.args.self.now.tables.entries.items _ _ _ _ _ _ _ (OnlyReads-goes _ _ c.list_rows-written.ensures.counts) c.list_rows-written.ensures.counts.power c.list_rows-written.ensures.rows c.list_rows-written.ensures.index c.list_rows-written.ensures.right c.requires.sound.cursors c.in-Ok.ensures.mounted_is c.requires.sound

pub returns-clause-step : goal.returns-clause-step
returns-clause-step g c = λ config old h.
    let before : c.work-before.result.reads ≡ c.args.self.now.flash.work.reads = ap (λ (w : Work). w.reads) c.work-before.ensures in
    let fits : c.work-before.result.reads < 2 ^ 64 = search rules in
    let small : c.args.self.now.flash.work.reads < 2 ^ 64 = subst (λ n. n < 2 ^ 64) before fits in
    let after : c.work.result.reads ≡ c.list_rows-written.new.flash.work.reads = ap (λ (w : Work). w.reads) c.work.ensures in
    let reads : c.saturating_sub-reads.result ≡ c.list_rows-written.new.flash.work.reads - c.args.self.now.flash.work.reads = omega (arith, c.saturating_sub-reads.ensures, before, after) in
    let here : slice_get c.args.self.now.tables.entries.items c.in-Ok.at ≡ Some c.index.result.now = reached-here c.args.self.now.tables.entries.items _ _ c.in-Ok.at c.index.result.now c.in-Ok.ensures c.index.ensures in
    scan-executes _ config old _ c.in-Ok.at c.index.result.now c.table-table.result.now c.args.name _ _ _ _ _ c.args.range c.args.span _ _ _ h c.in-Ok.ensures here c.table-table.ensures c.list_rows-written.ensures.counts
    (has-read _ _ c.list_rows-written.ensures.counts _ small reads) reads c.list_rows-written.ensures.scans

pub returns-in-Err-clause-cause : goal.returns-in-Err-clause-cause
returns-in-Err-clause-cause g c = inl (says-written _ _ _ _ _ _ (refusal-says _ c.args.name c.in-Err.refusal c.in-Err.ensures) c.write_reply.ensures.text)

pub returns-clause-cause : goal.returns-clause-cause
returns-clause-cause g c =
    let here : slice_get c.args.self.now.tables.entries.items c.in-Ok.at ≡ Some c.index.result.now = reached-here c.args.self.now.tables.entries.items _ _ c.in-Ok.at c.index.result.now c.in-Ok.ensures c.index.ensures in
    let before : c.work-before.result.reads ≡ c.args.self.now.flash.work.reads = ap (λ (w : Work). w.reads) c.work-before.ensures in
    let after : c.work.result.reads ≡ c.list_rows-written.new.flash.work.reads = ap (λ (w : Work). w.reads) c.work.ensures in
    let reads : c.saturating_sub-reads.result ≡ c.list_rows-written.new.flash.work.reads - c.args.self.now.flash.work.reads = omega (arith, c.saturating_sub-reads.ensures, before, after) in
    inr (
      c.in-Ok.at,
      c.index.result.now,
      is-here _ c.args.name c.in-Ok.at c.index.result.now c.in-Ok.ensures here,
      looks-lists _ _ _ _ _ (λ (t : Table 64 64). AreRows (has_blobs t) (mark_on t c.args.range c.args.span)) (λ (t : Table 64 64). EndsScan (mark_on t c.args.range c.args.span) t) _ _ _ _ _ _ _ (ap (λ n. record c.args.self.now.notes { cost = OfScan n }) reads) c.list_rows-written.ensures.counts c.table-table.ensures c.list_rows-written.ensures.lines,
    )

pub returns-in-Err-clause-sound : goal.returns-in-Err-clause-sound
returns-in-Err-clause-sound g c = c.requires.sound

pub returns-in-Err-clause-goes : goal.returns-in-Err-clause-goes
returns-in-Err-clause-goes g c = goes-same _

pub returns-in-Err-clause-sink : goal.returns-in-Err-clause-sink
returns-in-Err-clause-sink g c = c.write_reply.ensures.cause

pub returns-clause-sink : goal.returns-clause-sink
returns-clause-sink g c = c.list_rows-written.ensures.cause

pub list_rows-written-requires-clause-room : goal.list_rows-written-requires-clause-room
list_rows-written-requires-clause-room g c = c.requires.sound.room
