use Rattle.std.proofs.Common.{rules, ◌≡◌, ◌∙◌, Some, ℕ, List, not, refl, ap, subst, sym, inr, slice_get, length, option_map}
use Rattle.fl_session.proofs.Calls.{put-call}
use Rattle.fl_session.proofs.NamedTable.{reached-here, reached-within}
use Rattle.fl_session.proofs.RefusedCommands.{put-refused_so}
use Rattle.fl_session.proofs.Sound.{put-stays, runs-after, sound-with, stays-on}
use Rattle.fl_session.proofs.ReplyCauses.{on-refusal, is-here, put-fails-so}
use Rattle.fl_store.specs.Replies.{put_reply}
use Rattle.fl_table.specs.Refusal.{RefusesAs}
use Rattle.fl_rlc.specs.Refusal.{put_refusal}
use Rattle.fl_table.proofs.PutAnswers.{map-twice}
use Rattle.std.specs.Borrow.{Bor}
use Rattle.fl_frame.proofs.CallsInTurn.{goes-same}
use Rattle.fl_rlc.proofs.Written.{apart-reads}
use Rattle.fl_session.proofs.session.Session.put.Goals as goal

pub returns-in-Err-clause-step : goal.returns-in-Err-clause-step
returns-in-Err-clause-step g c = λ config old h. put-refused_so config old _ _ _ _ c.args.name c.args.key c.args.values.now _ c.in-Err.refusal h c.in-Err.ensures

pub index_mut-requires : goal.index_mut-requires
index_mut-requires g c = reached-within c.args.self.now.tables.entries.items _ _ _ c.in-Ok.at c.args.self.now.tables.entries.ok.0 c.in-Ok.ensures

pub put-outcome-requires : goal.put-outcome-requires
put-outcome-requires g c =
    let here : slice_get c.args.self.now.tables.entries.items c.in-Ok.at ≡ Some c.index_mut.result.now = reached-here c.args.self.now.tables.entries.items _ _ c.in-Ok.at c.index_mut.result.now c.in-Ok.ensures c.index_mut.ensures.value in
    (search rules, c.requires.sound.lie c.in-Ok.at c.index_mut.result.now here)

pub returns-clause-sound : goal.returns-clause-sound
returns-clause-sound g c =
    let here : slice_get c.args.self.now.tables.entries.items c.in-Ok.at ≡ Some c.index_mut.result.now = reached-here c.args.self.now.tables.entries.items _ _ c.in-Ok.at c.index_mut.result.now c.in-Ok.ensures c.index_mut.ensures.value in
    sound-with c.args.self.now.tables.entries.items c.in-Ok.at c.index_mut.result.now _ _ _ _ _ _ _ _ here c.put-outcome.ensures.flash.goes c.put-outcome.ensures.table.lies c.in-Ok.ensures.mounted_is
    (runs-after _ _ _ _ (c.requires.sound.running c.in-Ok.ensures.mounted_is c.in-Ok.at c.index_mut.result.now here) c.put-outcome.ensures.table.running c.put_breaks.ensures)
    (stays-on _ _ _ _ c.put-outcome.ensures.flash.goes c.put_breaks.ensures (put-stays _ _ _ _ c.put-outcome.ensures.flash.goes c.put-outcome.result c.put-outcome.ensures.flash.power c.put-outcome.ensures.memory.refused) (c.requires.sound.power c.in-Ok.ensures.mounted_is)) c.keep_while.ensures.rows c.keep_while.ensures.index c.keep_while.ensures.right c.keep_while.ensures.none c.requires.sound

pub returns-clause-step : goal.returns-clause-step
returns-clause-step g c = λ config old h.
    let here : slice_get c.args.self.now.tables.entries.items c.in-Ok.at ≡ Some c.index_mut.result.now = reached-here c.args.self.now.tables.entries.items _ _ c.in-Ok.at c.index_mut.result.now c.in-Ok.ensures c.index_mut.ensures.value in
    put-call config old _ c.in-Ok.at c.index_mut.result.now _ c.args.name _ _ _ _ c.args.key c.args.values.now _ c.put-outcome.result c.put_breaks.result _ h c.in-Ok.ensures here c.put-outcome.ensures.flash.goes c.put-outcome.ensures.table.same
    c.put-outcome.ensures.flash.outside c.put-outcome.ensures.put c.put-outcome.ensures.memory.refused c.put_breaks.ensures c.put_reply.ensures

pub returns-in-Err-clause-cause : goal.returns-in-Err-clause-cause
returns-in-Err-clause-cause g c = on-refusal _ c.args.name _ c.in-Err.refusal c.in-Err.ensures

pub returns-clause-cause : goal.returns-clause-cause
returns-clause-cause g c =
    let here : slice_get c.args.self.now.tables.entries.items c.in-Ok.at ≡ Some c.index_mut.result.now = reached-here c.args.self.now.tables.entries.items _ _ c.in-Ok.at c.index_mut.result.now c.in-Ok.ensures c.index_mut.ensures.value in
    record {
      reply = put_reply c.put-outcome.result;
      said_is = c.put_reply.ensures;
      holds = inr (
        c.in-Ok.at,
        c.index_mut.result.now,
        is-here _ c.args.name c.in-Ok.at c.index_mut.result.now c.in-Ok.ensures here,
        record {
          outcome = c.put-outcome.result;
          said_is = refl;
          exact = subst (λ n. RefusesAs (put_refusal c.index_mut.result.now.table c.args.key c.args.values.now n) c.put-outcome.result) (sym (map-twice (λ (b : Bor (List ℕ)). b.now) (λ (xs : List ℕ). length xs) c.args.blob)) c.put-outcome.ensures.exact;
          fails = rw c.put_breaks.ensures (put-fails-so _ c.in-Ok.at c.index_mut.result.now c.put-outcome.new.self _ c.args.key c.args.values.now (option_map (λ (b : Bor (List ℕ)). length b.now) c.args.blob) c.put-outcome.result here c.in-Ok.ensures.mounted_is (c.requires.sound.running c.in-Ok.ensures.mounted_is c.in-Ok.at c.index_mut.result.now here) c.put-outcome.ensures.exact c.put-outcome.ensures.memory.refused c.put-outcome.ensures.flash.cause);
          leaves = record { now = c.put-outcome.new.self; same = c.put-outcome.ensures.table.same; entries = refl; mounted = ap not c.put_breaks.ensures; notes = refl; unread = c.put-outcome.ensures.flash.reads; goes = c.put-outcome.ensures.flash.goes; outside = c.put-outcome.ensures.flash.outside };
          last = c.put-outcome.ensures.memory.last;
          stores = c.put-outcome.ensures.memory.stores;
          logs = c.put-outcome.ensures.memory.logs;
          power = c.put-outcome.ensures.flash.power;
          quiet = λ none. c.put-outcome.ensures.pages.quiet (ap (λ n. put_refusal c.index_mut.result.now.table c.args.key c.args.values.now n) (sym (map-twice (λ (b : Bor (List ℕ)). b.now) (λ (xs : List ℕ). length xs) c.args.blob)) ∙ none);
          off = λ none. c.put-outcome.ensures.pages.off (ap (λ n. put_refusal c.index_mut.result.now.table c.args.key c.args.values.now n) (sym (map-twice (λ (b : Bor (List ℕ)). b.now) (λ (xs : List ℕ). length xs) c.args.blob)) ∙ none);
          log_page = c.put-outcome.ensures.pages.log_page;
          sealed = c.put-outcome.ensures.pages.sealed;
          writes = c.put-outcome.ensures.flash.writes;
          media_reads = apart-reads _ _ _ _ c.put-outcome.ensures.flash.media_reads;
        },
      );
    }

pub returns-in-Err-clause-sound : goal.returns-in-Err-clause-sound
returns-in-Err-clause-sound g c = c.requires.sound

pub returns-in-Err-clause-goes : goal.returns-in-Err-clause-goes
returns-in-Err-clause-goes g c = goes-same _

pub returns-in-Err-clause-reads : goal.returns-in-Err-clause-reads
returns-in-Err-clause-reads g c = refl

pub returns-clause-goes : goal.returns-clause-goes
returns-clause-goes g c = c.put-outcome.ensures.flash.goes

pub returns-clause-reads : goal.returns-clause-reads
returns-clause-reads g c = c.put-outcome.ensures.flash.reads
