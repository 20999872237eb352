use Rattle.std.proofs.Common.{◌≡◌, ◌<◌, Some, Option, length, refl, ◌∙◌, ap, subst, inr, slice_get, option_map, unwrap_or}
use Rattle.fl_frame.proofs.CallsInTurn.{goes-same}
use Rattle.fl_table.specs.declared.table.Table.{Table}
use Rattle.fl_queries.specs.ListSays.{mark_on}
use Rattle.fl_session.specs.declared.notes.TableCursor.{TableCursor}
use Rattle.fl_session.proofs.CursorsOf.{open-call, open-refused}
use Rattle.fl_session.proofs.NamedTable.{reached-here, reached-within}
use Rattle.fl_session.proofs.Sound.{sound-read, cursors-set}
use Rattle.fl_session.proofs.ReplyCauses.{on-refusal, is-here, opened}
use Rattle.fl_words.specs.Reply as reply
use Rattle.fl_store.proofs.Queried.{runs-unlogged}
use Rattle.fl_session.proofs.session.Session.open.Goals as goal

pub returns-in-Err-clause-step : goal.returns-in-Err-clause-step
returns-in-Err-clause-step g c = λ config old h. open-refused config old _ _ _ _ c.args.name c.args.cursor c.args.range c.args.span c.in-Err.refusal h c.in-Err.ensures

pub index-requires : goal.index-requires
index-requires g c = reached-within c.args.self.now.tables.entries.items _ _ _ c.in-Ok.at c.args.self.now.tables.entries.ok.0 c.in-Ok.ensures

pub open_cursor-mark-requires : goal.open_cursor-mark-requires
open_cursor-mark-requires g c =
    let here : slice_get c.args.self.now.tables.entries.items c.in-Ok.at ≡ Some c.index.result.now = reached-here c.args.self.now.tables.entries.items _ _ c.in-Ok.at c.index.result.now c.in-Ok.ensures c.index.ensures in
    runs-unlogged c.table-table.result.now c.index.result.now c.table-table.ensures (c.requires.sound.running c.in-Ok.ensures.mounted_is c.in-Ok.at c.index.result.now here)

pub returns-clause-sound : goal.returns-clause-sound
returns-clause-sound g c =
    let within : c.in-Ok.at < length c.args.self.now.tables.entries.items = reached-within c.args.self.now.tables.entries.items _ _ _ c.in-Ok.at refl c.in-Ok.ensures in
    rw c.set_cursor.ensures (sound-read c.args.self.now.tables.entries.items _ _ _ _ _ _ _ (goes-same _) refl c.open_cursor-mark.ensures.rows c.open_cursor-mark.ensures.index c.open_cursor-mark.ensures.right
    (cursors-set c.args.self.now.tables.entries.items c.args.self.now.notes.cursors c.args.cursor (Some (record { table = c.in-Ok.at; mark = c.open_cursor-mark.result })) c.requires.sound.cursors
    (λ x e. let is : c.in-Ok.at ≡ x.table = ap (λ (o : Option TableCursor). unwrap_or (option_map (λ y. y.table) o) 0) e in subst (λ n. n < length c.args.self.now.tables.entries.items) is within))
    c.in-Ok.ensures.mounted_is c.requires.sound)

pub returns-clause-step : goal.returns-clause-step
returns-clause-step g c = λ config old h.
    let here : slice_get c.args.self.now.tables.entries.items c.in-Ok.at ≡ Some c.index.result.now = reached-here c.args.self.now.tables.entries.items _ _ c.in-Ok.at c.index.result.now c.in-Ok.ensures c.index.ensures in
    rw c.set_cursor.ensures (open-call config old _ c.in-Ok.at c.index.result.now c.table-table.result.now c.args.name _ _ _ c.args.cursor c.args.range c.args.span c.open_cursor-mark.result h c.in-Ok.ensures here c.table-table.ensures c.open_cursor-mark.ensures.begins)

pub returns-in-Err-clause-cause : goal.returns-in-Err-clause-cause
returns-in-Err-clause-cause g c = on-refusal _ c.args.name _ c.in-Err.refusal c.in-Err.ensures

pub returns-clause-cause : goal.returns-clause-cause
returns-clause-cause g c =
    let here : slice_get c.args.self.now.tables.entries.items c.in-Ok.at ≡ Some c.index.result.now = reached-here c.args.self.now.tables.entries.items _ _ c.in-Ok.at c.index.result.now c.in-Ok.ensures c.index.ensures in
    record {
      reply = reply.Done;
      said_is = refl;
      holds = inr (c.in-Ok.at, c.index.result.now, is-here _ c.args.name c.in-Ok.at c.index.result.now c.in-Ok.ensures here, (refl, opened _ _ _ _ _ c.args.cursor c.in-Ok.at _ _ c.set_cursor.ensures (c.open_cursor-mark.ensures.mark ∙ ap (λ (t : Table 64 64). mark_on t c.args.range c.args.span) c.table-table.ensures)));
    }

pub returns-in-Err-clause-sound : goal.returns-in-Err-clause-sound
returns-in-Err-clause-sound g c = c.requires.sound

pub returns-in-Err-clause-goes : goal.returns-in-Err-clause-goes
returns-in-Err-clause-goes g c = goes-same _

pub returns-in-Err-clause-reads : goal.returns-in-Err-clause-reads
returns-in-Err-clause-reads g c = refl

pub returns-clause-goes : goal.returns-clause-goes
returns-clause-goes g c = goes-same _

pub returns-clause-reads : goal.returns-clause-reads
returns-clause-reads g c = refl
