use Rattle.std.proofs.Common.{◌≡◌, Some, not, refl, ap, inl, inr, slice_get}
use Rattle.fl_session.proofs.LoadLines.{load-executes, load-refused}
use Rattle.fl_session.proofs.NamedTable.{reached-here, reached-within}
use Rattle.fl_session.proofs.Sound.{runs-after, sound-with, stays-on}
use Rattle.fl_session.proofs.ReplyCauses.{refusal-says, says-written, is-here}
use Rattle.fl_frame.proofs.CallsInTurn.{goes-same}
use Rattle.fl_session.proofs.session.Session.load.Goals as goal

pub returns-in-Err-clause-step : goal.returns-in-Err-clause-step
returns-in-Err-clause-step g c = λ config old h. load-refused _ config old _ _ _ _ c.args.name c.args.count c.args.step c.args.seed c.in-Err.refusal _ _ _ h c.in-Err.ensures c.write_reply.ensures.text

pub index_mut-requires : goal.index_mut-requires
index_mut-requires g c = reached-within c.args.self.now.tables.entries.items _ _ _ c.in-Ok.at c.args.self.now.tables.entries.ok.0 c.in-Ok.ensures

pub load-loaded-requires-clause-lies : goal.load-loaded-requires-clause-lies
load-loaded-requires-clause-lies g c =
    let here : slice_get c.args.self.now.tables.entries.items c.in-Ok.at ≡ Some c.index_mut.result.now = reached-here c.args.self.now.tables.entries.items _ _ c.in-Ok.at c.index_mut.result.now c.in-Ok.ensures c.index_mut.ensures.value in
    c.requires.sound.lie c.in-Ok.at c.index_mut.result.now here

pub returns-clause-sound : goal.returns-clause-sound
returns-clause-sound g c =
    let here : slice_get c.args.self.now.tables.entries.items c.in-Ok.at ≡ Some c.index_mut.result.now = reached-here c.args.self.now.tables.entries.items _ _ c.in-Ok.at c.index_mut.result.now c.in-Ok.ensures c.index_mut.ensures.value in
    sound-with c.args.self.now.tables.entries.items c.in-Ok.at c.index_mut.result.now _ _ _ _ _ _ _ _ here c.load-loaded.ensures.goes c.load-loaded.ensures.lies c.in-Ok.ensures.mounted_is
    (runs-after _ _ _ _ (c.requires.sound.running c.in-Ok.ensures.mounted_is c.in-Ok.at c.index_mut.result.now here) c.load-loaded.ensures.running c.put_breaks.ensures)
    (stays-on _ _ _ _ c.load-loaded.ensures.goes c.put_breaks.ensures c.load-loaded.ensures.power (c.requires.sound.power c.in-Ok.ensures.mounted_is)) c.keep_while.ensures.rows c.keep_while.ensures.index c.keep_while.ensures.right c.keep_while.ensures.none c.requires.sound

pub returns-clause-step : goal.returns-clause-step
returns-clause-step g c = λ config old h.
    let here : slice_get c.args.self.now.tables.entries.items c.in-Ok.at ≡ Some c.index_mut.result.now = reached-here c.args.self.now.tables.entries.items _ _ c.in-Ok.at c.index_mut.result.now c.in-Ok.ensures c.index_mut.ensures.value in
    load-executes _ config old _ c.in-Ok.at c.index_mut.result.now _ c.args.name _ _ _ _ _ c.args.count c.args.step c.args.seed _ _ _ _ _ h c.in-Ok.ensures here c.load-loaded.ensures.reads c.load-loaded.ensures.answers c.put_breaks.ensures c.write.ensures.text

pub returns-in-Err-clause-cause : goal.returns-in-Err-clause-cause
returns-in-Err-clause-cause g c = inl (says-written _ _ _ _ _ _ (refusal-says _ c.args.name c.in-Err.refusal c.in-Err.ensures) c.write_reply.ensures.text)

pub returns-clause-cause : goal.returns-clause-cause
returns-clause-cause g c =
    let here : slice_get c.args.self.now.tables.entries.items c.in-Ok.at ≡ Some c.index_mut.result.now = reached-here c.args.self.now.tables.entries.items _ _ c.in-Ok.at c.index_mut.result.now c.in-Ok.ensures c.index_mut.ensures.value in
    inr (
      c.in-Ok.at,
      c.index_mut.result.now,
      is-here _ c.args.name c.in-Ok.at c.index_mut.result.now c.in-Ok.ensures here,
      record {
        count = c.load-loaded.result.count;
        outcome = c.load-loaded.result.outcome;
        written = c.write.ensures.text;
        counted = c.load-loaded.ensures.counted;
        leaves = record { now = c.load-loaded.new.table; same = c.load-loaded.ensures.same; entries = refl; mounted = ap not c.put_breaks.ensures; notes = refl; unread = c.load-loaded.ensures.reads; goes = c.load-loaded.ensures.goes; outside = c.load-loaded.ensures.outside };
        puts = c.load-loaded.ensures.puts;
        fails = c.load-loaded.ensures.fails (c.requires.sound.running c.in-Ok.ensures.mounted_is c.in-Ok.at c.index_mut.result.now here);
        power = c.load-loaded.ensures.power;
        media_reads = c.load-loaded.ensures.media_reads;
      },
    )

pub returns-in-Err-clause-sound : goal.returns-in-Err-clause-sound
returns-in-Err-clause-sound g c = c.requires.sound

pub returns-in-Err-clause-goes : goal.returns-in-Err-clause-goes
returns-in-Err-clause-goes g c = goes-same _

pub returns-in-Err-clause-sink : goal.returns-in-Err-clause-sink
returns-in-Err-clause-sink g c = c.write_reply.ensures.cause

pub returns-in-Err-clause-reads : goal.returns-in-Err-clause-reads
returns-in-Err-clause-reads g c = refl

pub returns-clause-sink : goal.returns-clause-sink
returns-clause-sink g c = c.write.ensures.cause

pub returns-clause-goes : goal.returns-clause-goes
returns-clause-goes g c = c.load-loaded.ensures.goes

pub returns-clause-reads : goal.returns-clause-reads
returns-clause-reads g c = c.load-loaded.ensures.reads

pub load-loaded-requires-clause-steps : goal.load-loaded-requires-clause-steps
load-loaded-requires-clause-steps g c = c.requires.steps
