use Rattle.std.proofs.Common.{rules, ◌≡◌, true, false, refl, inl, inr, is_none}
use Rattle.fl_session.proofs.CursorsOf.{close-off, close-none, close-open}
use Rattle.fl_session.proofs.ReplyCauses.{closed-as, noted, open-as}
use Rattle.fl_words.specs.Reply as reply
use Rattle.fl_frame.proofs.CallsInTurn.{goes-same}
use Rattle.fl_session.proofs.session.Session.close.Goals as goal

pub returns-then-not-self-clause-step : goal.returns-then-not-self-clause-step
returns-then-not-self-clause-step g c = λ config old h. close-off config old _ _ _ c.args.cursor _ c.if-not-self.true h

pub returns-then-is_none-clause-step : goal.returns-then-is_none-clause-step
returns-then-is_none-clause-step g c = λ config old h.
    let none : is_none c.cursor.result ≡ true = search rules in
    close-none config old _ _ _ c.args.cursor _ c.cursor.result c.if-not-self.false c.cursor.ensures none h

pub returns-clause-step : goal.returns-clause-step
returns-clause-step g c = λ config old h.
    let some : is_none c.cursor.result ≡ false = search rules in
    rw c.set_cursor.ensures (close-open config old _ _ _ c.args.cursor _ c.cursor.result c.if-not-self.false c.cursor.ensures some h)

pub returns-then-not-self-clause-cause : goal.returns-then-not-self-clause-cause
returns-then-not-self-clause-cause g c = record {
  reply = reply.NotMounted;
  said_is = refl;
  holds = inl (c.if-not-self.true, refl, refl);
}

pub returns-then-is_none-clause-cause : goal.returns-then-is_none-clause-cause
returns-then-is_none-clause-cause g c =
    let none : is_none c.cursor.result ≡ true = search rules in
    record {
      reply = reply.NoCursor;
      said_is = refl;
      holds = inr (inl (c.if-not-self.false, closed-as _ c.args.cursor c.cursor.result c.cursor.ensures none, refl, refl));
    }

pub returns-clause-cause : goal.returns-clause-cause
returns-clause-cause g c =
    let some : is_none c.cursor.result ≡ false = search rules in
    record {
      reply = reply.Done;
      said_is = refl;
      holds = inr (inr (
        c.if-not-self.false,
        open-as _ c.args.cursor c.cursor.result c.cursor.ensures some,
        refl,
        noted _ _ _ _ _ c.set_cursor.ensures,
      ));
    }

pub returns-then-not-self-clause-sound : goal.returns-then-not-self-clause-sound
returns-then-not-self-clause-sound g c = c.requires.sound

pub returns-then-not-self-clause-goes : goal.returns-then-not-self-clause-goes
returns-then-not-self-clause-goes g c = goes-same _

pub returns-then-not-self-clause-reads : goal.returns-then-not-self-clause-reads
returns-then-not-self-clause-reads g c = refl

pub returns-then-is_none-clause-sound : goal.returns-then-is_none-clause-sound
returns-then-is_none-clause-sound g c = c.requires.sound

pub returns-then-is_none-clause-goes : goal.returns-then-is_none-clause-goes
returns-then-is_none-clause-goes g c = goes-same _

pub returns-then-is_none-clause-reads : goal.returns-then-is_none-clause-reads
returns-then-is_none-clause-reads g c = refl

pub returns-clause-goes : goal.returns-clause-goes
returns-clause-goes g c = goes-same _

pub returns-clause-reads : goal.returns-clause-reads
returns-clause-reads g c = refl
