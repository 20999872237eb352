use Rattle.std.proofs.Common.{◌≡◌, ◌-◌, ◌^◌, ◌<◌, rules, Some, refl, ap, subst, inl, inr, IfSome, Option, option_map, unwrap_or, length, slice_get}
use Rattle.std.proofs.lemmas.Option.{slice_get_read}
use Rattle.fl_flash.specs.declared.flash.Work.{Work}
use Rattle.fl_session.specs.declared.notes.TableCursor.{TableCursor}
use Rattle.fl_session.proofs.LooksAt.{next-moves}
use Rattle.fl_session.proofs.CountedReads.{has-read}
use Rattle.fl_session.proofs.CursorMoves.{next-executes, next-off, next-none}
use Rattle.fl_frame.proofs.ContentsInTurn.{OnlyReads-goes}
use Rattle.fl_session.proofs.Sound.{sound-read, cursors-set}
use Rattle.fl_words.specs.Reply as reply
use Rattle.fl_store.proofs.Queried.{lies-unlogged, runs-unlogged}
use Rattle.fl_frame.proofs.CallsInTurn.{goes-same}
use Rattle.fl_session.proofs.session.Session.next.Goals as goal

pub returns-then-not-self-clause-step : goal.returns-then-not-self-clause-step
returns-then-not-self-clause-step g c = λ config old h. next-off _ config old _ _ _ c.args.cursor c.args.count _ _ _ _ c.if-not-self.true h c.write_reply.ensures.text

pub returns-in_default-clause-step : goal.returns-in_default-clause-step
returns-in_default-clause-step g c = λ config old h. next-none _ config old _ _ _ c.args.cursor c.args.count _ _ _ _ c.if-not-self.false c.in_default.ensures h c.write_reply-in_default.ensures.text

pub next_rows-written-requires-clause-running : goal.next_rows-written-requires-clause-running
next_rows-written-requires-clause-running g c =
    let here : slice_get c.args.self.now.tables.entries.items c.in-Some.open.table ≡ Some c.index.result.now =
    slice_get_read c.args.self.now.tables.entries.items _ c.in-Some.open.table c.index.result.now refl (c.requires.sound.cursors c.args.cursor c.in-Some.open c.in-Some.ensures) c.index.ensures in
    runs-unlogged c.table.result.now c.index.result.now c.table.ensures (c.requires.sound.running c.if-not-self.false c.in-Some.open.table c.index.result.now here)

pub next_rows-written-requires-clause-lies : goal.next_rows-written-requires-clause-lies
next_rows-written-requires-clause-lies g c =
    let here : slice_get c.args.self.now.tables.entries.items c.in-Some.open.table ≡ Some c.index.result.now =
    slice_get_read c.args.self.now.tables.entries.items _ c.in-Some.open.table c.index.result.now refl (c.requires.sound.cursors c.args.cursor c.in-Some.open c.in-Some.ensures) c.index.ensures in
    lies-unlogged c.table.result.now c.index.result.now c.table.ensures (c.requires.sound.lie c.in-Some.open.table c.index.result.now here)

pub returns-clause-sound : goal.returns-clause-sound
returns-clause-sound g c =
    rw c.set_cursor.ensures (sound-read c.args.self.now.tables.entries.items _ _ _ _ _ _ _ (OnlyReads-goes _ _ c.next_rows-written.ensures.counts) c.next_rows-written.ensures.counts.power c.next_rows-written.ensures.rows c.next_rows-written.ensures.index c.next_rows-written.ensures.right
    (cursors-set c.args.self.now.tables.entries.items c.args.self.now.notes.cursors c.args.cursor (Some (record c.in-Some.open { mark = c.next_rows-written.new.mark })) c.requires.sound.cursors
    (λ x e. let is : c.in-Some.open.table ≡ x.table = ap (λ (o : Option TableCursor). unwrap_or (option_map (λ y. y.table) o) 0) e in subst (λ n. n < length c.args.self.now.tables.entries.items) is (c.requires.sound.cursors c.args.cursor c.in-Some.open c.in-Some.ensures)))
    c.if-not-self.false c.requires.sound)

pub returns-clause-goes : goal.returns-clause-goes
returns-clause-goes g c = OnlyReads-goes _ _ c.next_rows-written.ensures.counts

pub returns-clause-step : goal.returns-clause-step
returns-clause-step g c = λ config old h.
    let before : c.work-before.result.reads ≡ c.args.self.now.flash.work.reads = ap (λ (w : Work). w.reads) c.work-before.ensures in
    let fits : c.work-before.result.reads < 2 ^ 64 = search rules in
    let small : c.args.self.now.flash.work.reads < 2 ^ 64 = subst (λ n. n < 2 ^ 64) before fits in
    let here : slice_get c.args.self.now.tables.entries.items c.in-Some.open.table ≡ Some c.index.result.now =
    slice_get_read c.args.self.now.tables.entries.items _ c.in-Some.open.table c.index.result.now refl (c.requires.sound.cursors c.args.cursor c.in-Some.open c.in-Some.ensures) c.index.ensures in
    let fits_after : IfSome c.in-Some.open.mark.after (λ after. after < 2 ^ 64) = search rules in
    rw c.set_cursor.ensures (next-executes _ config old _ c.index.result.now c.table.result.now _ _ _ (c.next_rows-written.new.flash.work.reads - c.args.self.now.flash.work.reads) c.args.cursor c.args.count _ c.in-Some.open c.next_rows-written.new.mark _ _ _ h c.if-not-self.false
    c.in-Some.ensures here c.table.ensures fits_after c.next_rows-written.ensures.counts (has-read _ _ c.next_rows-written.ensures.counts _ small refl) refl c.next_rows-written.ensures.nexts)

pub returns-then-not-self-clause-cause : goal.returns-then-not-self-clause-cause
returns-then-not-self-clause-cause g c = inl (c.if-not-self.true, record { reply = reply.NotMounted; written = c.write_reply.ensures.text; holds = (refl, refl) })

pub returns-in_default-clause-cause : goal.returns-in_default-clause-cause
returns-in_default-clause-cause g c = inr (inl (c.if-not-self.false, c.in_default.ensures, record { reply = reply.NoCursor; written = c.write_reply-in_default.ensures.text; holds = (refl, refl) }))

pub returns-clause-cause : goal.returns-clause-cause
returns-clause-cause g c =
    let here : slice_get c.args.self.now.tables.entries.items c.in-Some.open.table ≡ Some c.index.result.now =
    slice_get_read c.args.self.now.tables.entries.items _ c.in-Some.open.table c.index.result.now refl (c.requires.sound.cursors c.args.cursor c.in-Some.open c.in-Some.ensures) c.index.ensures in
    inr (inr (
      c.if-not-self.false,
      next-moves _ _ _ _ c.args.cursor c.args.count c.in-Some.open c.index.result.now _ c.next_rows-written.new.mark _ _ _ _ _ c.in-Some.ensures here c.set_cursor.ensures c.next_rows-written.ensures.counts c.table.ensures c.next_rows-written.ensures.lines,
    ))

pub returns-then-not-self-clause-sound : goal.returns-then-not-self-clause-sound
returns-then-not-self-clause-sound g c = c.requires.sound

pub returns-then-not-self-clause-goes : goal.returns-then-not-self-clause-goes
returns-then-not-self-clause-goes g c = goes-same _

pub returns-then-not-self-clause-sink : goal.returns-then-not-self-clause-sink
returns-then-not-self-clause-sink g c = c.write_reply.ensures.cause

pub returns-in_default-clause-sound : goal.returns-in_default-clause-sound
returns-in_default-clause-sound g c = c.requires.sound

pub returns-in_default-clause-goes : goal.returns-in_default-clause-goes
returns-in_default-clause-goes g c = goes-same _

pub returns-in_default-clause-sink : goal.returns-in_default-clause-sink
returns-in_default-clause-sink g c = c.write_reply-in_default.ensures.cause

pub returns-clause-sink : goal.returns-clause-sink
returns-clause-sink g c = c.next_rows-written.ensures.cause

pub next_rows-written-requires-clause-room : goal.next_rows-written-requires-clause-room
next_rows-written-requires-clause-room g c = c.requires.sound.room
