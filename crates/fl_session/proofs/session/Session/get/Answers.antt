use Rattle.std.proofs.Common.{◌≡◌, ◌-◌, ◌^◌, ◌<◌, Some, rules, refl, ap, subst, arith, inr, slice_get}
use Rattle.fl_flash.specs.declared.flash.Work.{Work}
use Rattle.fl_session.specs.declared.cost.Cost.TheVariants.{OfGet}
use Rattle.fl_session.proofs.CountedReads.{has-read}
use Rattle.fl_frame.proofs.ContentsInTurn.{OnlyReads-goes}
use Rattle.fl_session.proofs.GetReplies.{get-executes, get-refused, look-said, reads-few}
use Rattle.fl_session.proofs.NamedTable.{reached-here, reached-within}
use Rattle.fl_session.proofs.Sound.{sound-read}
use Rattle.fl_session.proofs.ReplyCauses.{on-refusal, says-written, is-here, only-looks}
use Rattle.fl_store.proofs.Queried.{lies-unlogged, runs-unlogged}
use Rattle.fl_frame.proofs.CallsInTurn.{goes-same}
use Rattle.fl_session.proofs.session.Session.get.Goals as goal

pub returns-in-Err-clause-step : goal.returns-in-Err-clause-step
returns-in-Err-clause-step g c = λ config old h. get-refused _ config old _ _ _ _ c.args.name c.args.key c.in-Err.refusal _ _ _ h c.in-Err.ensures c.write_reply.ensures.text

pub index-requires : goal.index-requires
index-requires g c = reached-within c.args.self.now.tables.entries.items _ _ _ c.in-Ok.at c.args.self.now.tables.entries.ok.0 c.in-Ok.ensures

pub look_up-reply-requires-clause-running : goal.look_up-reply-requires-clause-running
look_up-reply-requires-clause-running g c =
    let here : slice_get c.args.self.now.tables.entries.items c.in-Ok.at ≡ Some c.index.result.now = reached-here c.args.self.now.tables.entries.items _ _ c.in-Ok.at c.index.result.now c.in-Ok.ensures c.index.ensures in
    runs-unlogged c.table-table.result.now c.index.result.now c.table-table.ensures (c.requires.sound.running c.in-Ok.ensures.mounted_is c.in-Ok.at c.index.result.now here)

pub look_up-reply-requires-clause-lies : goal.look_up-reply-requires-clause-lies
look_up-reply-requires-clause-lies g c =
    let here : slice_get c.args.self.now.tables.entries.items c.in-Ok.at ≡ Some c.index.result.now = reached-here c.args.self.now.tables.entries.items _ _ c.in-Ok.at c.index.result.now c.in-Ok.ensures c.index.ensures in
    lies-unlogged c.table-table.result.now c.index.result.now c.table-table.ensures (c.requires.sound.lie c.in-Ok.at c.index.result.now here)

pub returns-clause-goes : goal.returns-clause-goes
returns-clause-goes g c = OnlyReads-goes _ _ c.look_up-reply.ensures.counts

pub returns-clause-sound : goal.returns-clause-sound
returns-clause-sound g c = sound-read c.args.self.now.tables.entries.items _ _ _ _ _ _ _ (OnlyReads-goes _ _ c.look_up-reply.ensures.counts) c.look_up-reply.ensures.counts.power c.look_up-reply.ensures.room refl (refl, refl) c.requires.sound.cursors c.in-Ok.ensures.mounted_is c.requires.sound

pub returns-clause-step : goal.returns-clause-step
returns-clause-step g c = λ config old h.
    let before : c.work-before.result.reads ≡ c.args.self.now.flash.work.reads = ap (λ (w : Work). w.reads) c.work-before.ensures in
    let fits : c.work-before.result.reads < 2 ^ 64 = search rules in
    let small : c.args.self.now.flash.work.reads < 2 ^ 64 = subst (λ n. n < 2 ^ 64) before fits in
    let after : c.work.result.reads ≡ c.look_up-reply.new.flash.work.reads = ap (λ (w : Work). w.reads) c.work.ensures in
    let reads : c.saturating_sub-reads.result ≡ c.look_up-reply.new.flash.work.reads - c.args.self.now.flash.work.reads = omega (arith, c.saturating_sub-reads.ensures, before, after) in
    let here : slice_get c.args.self.now.tables.entries.items c.in-Ok.at ≡ Some c.index.result.now = reached-here c.args.self.now.tables.entries.items _ _ c.in-Ok.at c.index.result.now c.in-Ok.ensures c.index.ensures in
    get-executes _ config old _ c.in-Ok.at c.index.result.now c.table-table.result.now c.args.name _ _ _ _ _ c.args.key _ c.look_up-reply.result _ _ _ h c.in-Ok.ensures here c.table-table.ensures c.look_up-reply.ensures.counts
    (has-read _ _ c.look_up-reply.ensures.counts _ small reads) reads c.lookup_limit-limit.ensures.stands c.look_up-reply.ensures.looks c.write_reply-2.ensures.text

pub returns-in-Err-clause-cause : goal.returns-in-Err-clause-cause
returns-in-Err-clause-cause g c = says-written _ _ _ _ _ _ (on-refusal _ c.args.name _ c.in-Err.refusal c.in-Err.ensures) c.write_reply.ensures.text

pub returns-clause-cause : goal.returns-clause-cause
returns-clause-cause g c =
    let here : slice_get c.args.self.now.tables.entries.items c.in-Ok.at ≡ Some c.index.result.now = reached-here c.args.self.now.tables.entries.items _ _ c.in-Ok.at c.index.result.now c.in-Ok.ensures c.index.ensures in
    let says = c.look_up-reply.ensures.cause in
    let before : c.work-before.result.reads ≡ c.args.self.now.flash.work.reads = ap (λ (w : Work). w.reads) c.work-before.ensures in
    let after : c.work.result.reads ≡ c.look_up-reply.new.flash.work.reads = ap (λ (w : Work). w.reads) c.work.ensures in
    let reads : c.saturating_sub-reads.result ≡ c.look_up-reply.new.flash.work.reads - c.args.self.now.flash.work.reads = omega (arith, c.saturating_sub-reads.ensures, before, after) in
    says-written _ _ _ _ _ _ (record {
      reply = says.reply;
      said_is = says.said_is;
      holds = inr (c.in-Ok.at, c.index.result.now, is-here _ c.args.name c.in-Ok.at c.index.result.now c.in-Ok.ensures here, (look-said c.table-table.result.now c.index.result.now c.args.key _ _ says.reply c.table-table.ensures says.holds, reads-few c.table-table.result.now c.index.result.now _ _ c.table-table.ensures c.look_up-reply.ensures.counts c.look_up-reply.ensures.few, (c.lookup_limit-limit.result, only-looks _ _ _ _ _ _ _ (ap (λ n. record c.args.self.now.notes { cost = OfGet n c.lookup_limit-limit.result }) reads) c.look_up-reply.ensures.counts)));
    }) c.write_reply-2.ensures.text

pub returns-in-Err-clause-sound : goal.returns-in-Err-clause-sound
returns-in-Err-clause-sound g c = c.requires.sound

pub returns-in-Err-clause-goes : goal.returns-in-Err-clause-goes
returns-in-Err-clause-goes g c = goes-same _

pub returns-in-Err-clause-sink : goal.returns-in-Err-clause-sink
returns-in-Err-clause-sink g c = c.write_reply.ensures.cause

pub returns-clause-sink : goal.returns-clause-sink
returns-clause-sink g c = c.write_reply-2.ensures.cause

pub look_up-reply-requires-clause-room : goal.look_up-reply-requires-clause-room
look_up-reply-requires-clause-room g c = c.requires.sound.room.0
