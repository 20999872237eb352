use Rattle.std.proofs.Common.{rules, ◌≡◌, ◌∙◌, true, Some, not, refl, sym, ap, inr, slice_get}
use Rattle.fl_session.proofs.Calls.{flush-call}
use Rattle.fl_session.proofs.NamedTable.{reached-here, reached-within}
use Rattle.fl_session.proofs.RefusedCommands.{flush-refused_so}
use Rattle.fl_session.proofs.Sound.{flush-stays, runs-after, sound-with, stays-on}
use Rattle.fl_session.proofs.ReplyCauses.{on-refusal, is-here, flush-fails, kept-state}
use Rattle.fl_table.specs.Causes.{flush_breaks}
use Rattle.fl_rlc.specs.Table.{is_running}
use Rattle.fl_store.specs.Replies.{flush_reply}
use Rattle.fl_frame.proofs.CallsInTurn.{goes-same}
use Rattle.fl_rlc.proofs.Written.{all-rings}
use Rattle.fl_session.proofs.session.Session.flush.Goals as goal

pub returns-in-Err-clause-step : goal.returns-in-Err-clause-step
returns-in-Err-clause-step g c = λ config old h. flush-refused_so config old _ _ _ _ c.args.name c.in-Err.refusal h c.in-Err.ensures

pub index_mut-requires : goal.index_mut-requires
index_mut-requires g c = reached-within c.args.self.now.tables.entries.items _ _ _ c.in-Ok.at c.args.self.now.tables.entries.ok.0 c.in-Ok.ensures

pub flush-outcome-requires : goal.flush-outcome-requires
flush-outcome-requires g c =
    let here : slice_get c.args.self.now.tables.entries.items c.in-Ok.at ≡ Some c.index_mut.result.now = reached-here c.args.self.now.tables.entries.items _ _ c.in-Ok.at c.index_mut.result.now c.in-Ok.ensures c.index_mut.ensures.value in
    (search rules, c.requires.sound.lie c.in-Ok.at c.index_mut.result.now here)

pub returns-clause-sound : goal.returns-clause-sound
returns-clause-sound g c =
    let here : slice_get c.args.self.now.tables.entries.items c.in-Ok.at ≡ Some c.index_mut.result.now = reached-here c.args.self.now.tables.entries.items _ _ c.in-Ok.at c.index_mut.result.now c.in-Ok.ensures c.index_mut.ensures.value in
    sound-with c.args.self.now.tables.entries.items c.in-Ok.at c.index_mut.result.now _ _ _ _ _ _ _ _ here c.flush-outcome.ensures.flash.goes c.flush-outcome.ensures.table.lies c.in-Ok.ensures.mounted_is
    (runs-after _ _ _ _ (c.requires.sound.running c.in-Ok.ensures.mounted_is c.in-Ok.at c.index_mut.result.now here) c.flush-outcome.ensures.table.running c.flush_breaks.ensures)
    (stays-on _ _ _ _ c.flush-outcome.ensures.flash.goes c.flush_breaks.ensures (flush-stays _ _ _ c.flush-outcome.ensures.flash.goes c.flush-outcome.result (c.requires.sound.running c.in-Ok.ensures.mounted_is c.in-Ok.at c.index_mut.result.now here) c.flush-outcome.ensures.exact c.flush-outcome.ensures.flash.power) (c.requires.sound.power c.in-Ok.ensures.mounted_is)) c.keep_while.ensures.rows c.keep_while.ensures.index c.keep_while.ensures.right c.keep_while.ensures.none c.requires.sound

pub returns-clause-step : goal.returns-clause-step
returns-clause-step g c = λ config old h.
    let here : slice_get c.args.self.now.tables.entries.items c.in-Ok.at ≡ Some c.index_mut.result.now = reached-here c.args.self.now.tables.entries.items _ _ c.in-Ok.at c.index_mut.result.now c.in-Ok.ensures c.index_mut.ensures.value in
    flush-call config old _ c.in-Ok.at c.index_mut.result.now _ c.args.name _ _ _ _ c.flush-outcome.result c.flush_breaks.result _ h c.in-Ok.ensures here c.flush-outcome.ensures.flash.goes c.flush-outcome.ensures.table.same
    c.flush-outcome.ensures.flash.outside c.flush-outcome.ensures.flush c.flush_breaks.ensures c.flush_reply.ensures

pub returns-in-Err-clause-cause : goal.returns-in-Err-clause-cause
returns-in-Err-clause-cause g c = on-refusal _ c.args.name _ c.in-Err.refusal c.in-Err.ensures

pub returns-clause-cause : goal.returns-clause-cause
returns-clause-cause g c =
    let here : slice_get c.args.self.now.tables.entries.items c.in-Ok.at ≡ Some c.index_mut.result.now = reached-here c.args.self.now.tables.entries.items _ _ c.in-Ok.at c.index_mut.result.now c.in-Ok.ensures c.index_mut.ensures.value in
    let runs : is_running c.index_mut.result.now.table ≡ true = c.requires.sound.running c.in-Ok.ensures.mounted_is c.in-Ok.at c.index_mut.result.now here in
    record {
      reply = flush_reply c.flush-outcome.result;
      said_is = c.flush_reply.ensures;
      holds = inr (
        c.in-Ok.at,
        c.index_mut.result.now,
        is-here _ c.args.name c.in-Ok.at c.index_mut.result.now c.in-Ok.ensures here,
        record {
          outcome = c.flush-outcome.result;
          said_is = refl;
          fails = flush-fails _ _ _ c.flush-outcome.result runs c.flush-outcome.ensures.exact c.flush-outcome.ensures.flash.cause;
          none = λ none. let still = c.flush-outcome.ensures.page.quiet runs none in
              (still.0, kept-state _ c.in-Ok.at c.index_mut.result.now c.flush-outcome.new.self _ _ here still.1 (ap not (c.flush_breaks.ensures ∙ ap flush_breaks still.0) ∙ sym c.in-Ok.ensures.mounted_is) still.2);
          leaves = record { now = c.flush-outcome.new.self; same = c.flush-outcome.ensures.table.same; entries = refl; mounted = ap not c.flush_breaks.ensures; notes = refl; unread = c.flush-outcome.ensures.flash.reads; goes = c.flush-outcome.ensures.flash.goes; outside = c.flush-outcome.ensures.flash.outside };
          flushed = c.flush-outcome.ensures.memory.none;
          last = c.flush-outcome.ensures.memory.last;
          seals = c.flush-outcome.ensures.memory.seals;
          begins = c.flush-outcome.ensures.memory.begins;
          power = c.flush-outcome.ensures.flash.power;
          off = c.flush-outcome.ensures.page.off runs;
          writes = c.flush-outcome.ensures.flash.writes;
          sealed = c.flush-outcome.ensures.page.sealed;
          media_reads = all-rings c.index_mut.result.now.table _ _ c.flush-outcome.ensures.flash.media_reads;
        },
      );
    }

pub returns-in-Err-clause-sound : goal.returns-in-Err-clause-sound
returns-in-Err-clause-sound g c = c.requires.sound

pub returns-in-Err-clause-goes : goal.returns-in-Err-clause-goes
returns-in-Err-clause-goes g c = goes-same _

pub returns-in-Err-clause-reads : goal.returns-in-Err-clause-reads
returns-in-Err-clause-reads g c = refl

pub returns-clause-goes : goal.returns-clause-goes
returns-clause-goes g c = c.flush-outcome.ensures.flash.goes

pub returns-clause-reads : goal.returns-clause-reads
returns-clause-reads g c = c.flush-outcome.ensures.flash.reads
