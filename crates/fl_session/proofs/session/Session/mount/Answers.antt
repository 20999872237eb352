use Rattle.std.proofs.Common.{◌≡◌, ◌∙◌, IsTrue, refl, sym, ap, subst, arith, inl, inr}
use Rattle.fl_flash.specs.Flash.{FlashState}
use Rattle.fl_frame.proofs.CallsInTurn.{goes-on, goes-same}
use Rattle.fl_store.specs.Tables.{LieOn}
use Rattle.fl_store.proofs.TablesLie.{lie-on}
use Rattle.fl_session.proofs.Calls.{mount-call, already-call}
use Rattle.fl_session.proofs.MountReads.{limit-call}
use Rattle.fl_session.proofs.Over.{no-cursor}
use Rattle.fl_session.proofs.ReplyCauses.{mounts-on}
use Rattle.fl_session.proofs.Sound.{goes-mounted, sound-mounted}
use Rattle.fl_session.specs.Answer.{mount_reply}
use Rattle.fl_words.specs.Reply as reply
use Rattle.fl_session.proofs.session.Session.mount.Goals as goal

pub mount-outcome-requires-clause-lie : goal.mount-outcome-requires-clause-lie
mount-outcome-requires-clause-lie g c =
    subst (λ (x : FlashState). LieOn c.args.self.now.tables.entries.items x) (sym c.power_on.ensures) (lie-on c.args.self.now.tables.entries.items _ _ (goes-on _) c.requires.sound.lie)

pub returns-then-self-clause-goes : goal.returns-then-self-clause-goes
returns-then-self-clause-goes g c = goes-same _

pub returns-clause-goes : goal.returns-clause-goes
returns-clause-goes g c = goes-mounted _ _ _ c.power_on.ensures c.mount-outcome.ensures.goes

pub returns-then-self-clause-step : goal.returns-then-self-clause-step
returns-then-self-clause-step g c = λ config old h. already-call config old _ _ _ _ h c.if-self.true

pub returns-clause-step : goal.returns-clause-step
returns-clause-step g c = λ config old h.
    mount-call config old _ _ _ _ _ _ _ _ c.mount-outcome.result _ h c.if-self.false c.power_on.ensures c.mount-outcome.ensures.goes
    c.mount-outcome.ensures.ends c.mount-outcome.ensures.repaired c.is_ok-self.ensures.value c.mount_reply.ensures

pub returns-then-self-clause-reads : goal.returns-then-self-clause-reads
returns-then-self-clause-reads g c = λ tells. rw c.if-self.true refl

pub returns-clause-reads : goal.returns-clause-reads
returns-clause-reads g c = λ tells.
    let few = c.mount-outcome.ensures.reads (subst (λ (x : FlashState). IsTrue x.media.tells) (sym c.power_on.ensures) tells) in
    let same : c.power_on.new.self.work.reads ≡ c.args.self.now.flash.work.reads = ap (λ (x : FlashState). x.work.reads) c.power_on.ensures in
    rw c.if-self.false (omega (arith, few, same))

pub returns-then-self-clause-limit : goal.returns-then-self-clause-limit
returns-then-self-clause-limit g c = λ config old h. rw c.if-self.true refl

pub returns-clause-limit : goal.returns-clause-limit
returns-clause-limit g c = λ config old h. limit-call config old _ _ _ _ _ _ h c.if-self.false c.power_on.ensures c.mount-outcome.ensures.limit

pub returns-then-self-clause-cause : goal.returns-then-self-clause-cause
returns-then-self-clause-cause g c = record { reply = reply.AlreadyMounted; said_is = refl; holds = inl (c.if-self.true, refl, refl) }

pub returns-clause-cause : goal.returns-clause-cause
returns-clause-cause g c =
    let e = c.mount-outcome.ensures in
    record {
      reply = mount_reply c.mount-outcome.result;
      said_is = c.mount_reply.ensures;
      holds = inr (record {
        down = c.if-self.false;
        outcome = c.mount-outcome.result;
        said_is = refl;
        mounts = mounts-on _ _ _ _ _ c.mount-outcome.result c.power_on.ensures
            (record { found = e.found; refused = e.refused; stops = e.stops; cause = e.cause; running = e.running; none = e.none; power = e.power; as_many = e.as_many; names = e.names; same = e.same; repairs = e.repairs; outside = e.outside });
        mounted = c.is_ok-self.ensures.value;
        notes = refl;
        goes = goes-mounted _ _ _ c.power_on.ensures e.goes;
      });
    }

pub returns-clause-sound : goal.returns-clause-sound
returns-clause-sound g c =
    let e = c.mount-outcome.ensures in
    sound-mounted _ _ _ _ _ _ _ _ _ _ _ c.mount-outcome.result c.power_on.ensures e.goes e.lie c.is_ok-self.ensures.value e.running e.power (c.keep_while.ensures.rows ∙ e.room) c.keep_while.ensures.index c.keep_while.ensures.right c.keep_while.ensures.none
    (λ i x. no-cursor 4 i x) c.requires.sound

pub returns-then-self-clause-sound : goal.returns-then-self-clause-sound
returns-then-self-clause-sound g c = c.requires.sound
