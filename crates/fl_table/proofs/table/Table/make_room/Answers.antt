use Rattle.std.proofs.Common.{ℕ, zero, suc, ◌*◌, ◌≡◌, ◌+◌, ◌<◌, ◌≤◌, List, [], length, arith, Ok, sym, ◌∙◌, refl, subst, le-add_right, le_of_eq, not-le_of_lt}
use Rattle.std.proofs.lemmas.Bool.{ltb-true, ltb-false}
use Rattle.fl_model.specs.Record.{layout_len}
use Rattle.fl_model.specs.Table.{RingName, make_room_seals}
use Rattle.fl_model.proofs.TableSeals.{full-room_seals, room-room_seals}
use Rattle.fl_schema.specs.Schema.{layout_of}
use Rattle.fl_table.specs.Outcomes.{SealsEnd}
use Rattle.fl_table.proofs.PendingAndFull.{finishes-none, has-room, is-full}
use Rattle.fl_parts.proofs.Sizes.{table-fits}
use Rattle.fl_table.proofs.SealAnswers.{plan-self}
use Rattle.fl_table.proofs.Sealing.{changes-none}
use Rattle.fl_frame.specs.Causes.{CausedBy}
use Rattle.fl_parts.specs.Blobs as variable
use Rattle.fl_table.specs.Memory.{HasRoom, next_in}
use Rattle.fl_table.specs.Stored.{IsEmptied}
use Rattle.fl_parts.proofs.BlobsOfTable.{after-most}
use Rattle.fl_table.specs.Paged.{HasFlushed}
use Rattle.fl_parts.proofs.Untouched.{on-ok}
use Rattle.fl_table.specs.Memory.{MaySeal}
use Rattle.fl_table.specs.Mounting.{rings_in}
use Rattle.fl_table.proofs.table.Table.make_room.Goals as goal

pub returns-then-not-is_full-clause-ends : goal.returns-then-not-is_full-clause-ends
returns-then-not-is_full-clause-ends g c = λ first plan table rose device watched stands.
    let t = c.args.self.now in
    let f = g.F.Flash.state c.args.flash.now in
    let room : t.writer.end + layout_len (layout_of t.schema) ≤ length t.writer.body = ltb-false (length t.writer.body) (t.writer.end + layout_len (layout_of t.schema)) (sym c.is_full.ensures.room ∙ c.if-not-is_full.true) in
    let less = has-room t f first plan table stands room in
    let none : make_room_seals plan table ≡ [] = room-room_seals plan table (λ e. absurd (omega (arith, e, less))) in
    finishes-none f first plan (make_room_seals plan table) table rose device t none stands watched.counts watched.on

pub returns-clause-ends : goal.returns-clause-ends
returns-clause-ends g c = λ first plan table rose device watched stands.
    let t = c.args.self.now in
    let f = g.F.Flash.state c.args.flash.now in
    let lt : length t.writer.body < t.writer.end + layout_len (layout_of t.schema) = ltb-true (length t.writer.body) (t.writer.end + layout_len (layout_of t.schema)) (sym c.is_full.ensures.room ∙ c.if-not-is_full.false) in
    let full = is-full t f first plan table stands lt in
    subst (λ (rings : List RingName). SealsEnd first plan rings table rose device c.seal.result c.seal.new.self f (g.F.Flash.state c.seal.new.flash)) (sym (full-room_seals plan table full))
    (c.seal.ensures.ends first plan table rose device watched stands)

pub returns-then-not-is_full-clause-off : goal.returns-then-not-is_full-clause-off
returns-then-not-is_full-clause-off g c = λ full.
    let t = c.args.self.now in
    absurd (full (ltb-false (length t.writer.body) (t.writer.end + layout_len (layout_of t.schema)) (sym c.is_full.ensures.room ∙ c.if-not-is_full.true)))

-- a page that has no room for one row more has a row
some-rows : (count row page body end : ℕ) → body < end + row → end ≡ 16 + count * row → body + 8 ≡ page → row + 24 ≤ page → 1 ≤ count
some-rows zero row page body end lt is whole room = absurd (omega (arith, lt, is, whole, room))
some-rows (suc count) row page body end lt is whole room = omega arith

pub returns-then-not-is_full-clause-quiet : goal.returns-then-not-is_full-clause-quiet
returns-then-not-is_full-clause-quiet g c = λ room. (refl, refl, refl)

pub seal-requires : goal.seal-requires
seal-requires g c =
    let t = c.args.self.now in
    let row = layout_len (layout_of t.schema) in
    let lt : length t.writer.body < t.writer.end + layout_len (layout_of t.schema) = ltb-true (length t.writer.body) (t.writer.end + layout_len (layout_of t.schema)) (sym c.is_full.ensures.room ∙ c.if-not-is_full.false) in
    (table-fits g.row.KNOTS g.row.SLOTS c.args.self.now.few_knots c.args.self.now.few_slots, (c.requires.running, (some-rows t.writer.count row t.geometry.page (length t.writer.body) t.writer.end lt t.rows_end t.page t.room_for_row, c.requires.lies)))

pub is_full-requires : goal.is_full-requires
is_full-requires g c = table-fits g.row.KNOTS g.row.SLOTS c.args.self.now.few_knots c.args.self.now.few_slots

pub returns-then-not-is_full-clause-last : goal.returns-then-not-is_full-clause-last
returns-then-not-is_full-clause-last g c = refl

pub returns-then-not-is_full-clause-pending_stays : goal.returns-then-not-is_full-clause-pending_stays
returns-then-not-is_full-clause-pending_stays g c = tt

pub returns-clause-last : goal.returns-clause-last
returns-clause-last g c = c.seal.ensures.last

pub returns-clause-pending_stays : goal.returns-clause-pending_stays
returns-clause-pending_stays g c = c.seal.ensures.pending_stays

-- a page without rows has room for one
row-fits : (count row page body end : ℕ) → count ≡ 0 → end ≡ 16 + count * row → body + 8 ≡ page → row + 24 ≤ page → end + row ≤ body
row-fits zero row page body end none is whole room = omega (arith, is, whole, room)
row-fits (suc count) row page body end none is whole room = absurd (omega (arith, none))

pub returns-then-not-is_full-clause-same : goal.returns-then-not-is_full-clause-same
returns-then-not-is_full-clause-same g c = plan-self c.args.self.now

pub returns-then-not-is_full-clause-lies : goal.returns-then-not-is_full-clause-lies
returns-then-not-is_full-clause-lies g c = c.requires.lies

pub returns-then-not-is_full-clause-room : goal.returns-then-not-is_full-clause-room
returns-then-not-is_full-clause-room g c =
    let t = c.args.self.now in
    ltb-false (length t.writer.body) (t.writer.end + layout_len (layout_of t.schema)) (sym c.is_full.ensures.room ∙ c.if-not-is_full.true)

pub returns-then-not-is_full-clause-running : goal.returns-then-not-is_full-clause-running
returns-then-not-is_full-clause-running g c = c.requires.running

pub returns-then-not-is_full-clause-next : goal.returns-then-not-is_full-clause-next
returns-then-not-is_full-clause-next g c = le-add_right _ _

pub returns-then-not-is_full-clause-index_next : goal.returns-then-not-is_full-clause-index_next
returns-then-not-is_full-clause-index_next g c = le-add_right _ _

pub returns-then-not-is_full-clause-blob_next : goal.returns-then-not-is_full-clause-blob_next
returns-then-not-is_full-clause-blob_next g c = le-add_right _ _

pub returns-then-not-is_full-clause-calm : goal.returns-then-not-is_full-clause-calm
returns-then-not-is_full-clause-calm g c = refl

pub returns-then-not-is_full-clause-stopped : goal.returns-then-not-is_full-clause-stopped
returns-then-not-is_full-clause-stopped g c = tt

pub returns-clause-same : goal.returns-clause-same
returns-clause-same g c = c.seal.ensures.same

pub returns-clause-lies : goal.returns-clause-lies
returns-clause-lies g c = c.seal.ensures.lies

pub returns-clause-running : goal.returns-clause-running
returns-clause-running g c = c.seal.ensures.running

pub returns-clause-index_next : goal.returns-clause-index_next
returns-clause-index_next g c = c.seal.ensures.index_next

pub returns-clause-calm : goal.returns-clause-calm
returns-clause-calm g c = c.seal.ensures.calm

pub returns-clause-stopped : goal.returns-clause-stopped
returns-clause-stopped g c = c.seal.ensures.stopped

pub returns-clause-quiet : goal.returns-clause-quiet
returns-clause-quiet g c = λ room. absurd (not-le_of_lt (ltb-true (length c.args.self.now.writer.body) (c.args.self.now.writer.end + layout_len (layout_of c.args.self.now.schema)) (sym c.is_full.ensures.room ∙ c.if-not-is_full.false)) room)

pub returns-clause-off : goal.returns-clause-off
returns-clause-off g c = λ full. c.seal.ensures.off

pub returns-then-not-is_full-clause-full : goal.returns-then-not-is_full-clause-full
returns-then-not-is_full-clause-full g c = λ full.
    let t = c.args.self.now in
    absurd (full (ltb-false (length t.writer.body) (t.writer.end + layout_len (layout_of t.schema)) (sym c.is_full.ensures.room ∙ c.if-not-is_full.true)))

pub returns-clause-next : goal.returns-clause-next
returns-clause-next g c =
    on-ok c.seal.result (IsEmptied c.args.self.now c.seal.new.self) (next_in c.seal.new.self ≤ next_in c.args.self.now + 1) (λ sealed. le_of_eq sealed.next) c.seal.ensures.emptied

pub returns-clause-blob_next : goal.returns-clause-blob_next
returns-clause-blob_next g c =
    let t = c.args.self.now in
    let u = c.seal.new.self in
    on-ok c.seal.result (IsEmptied t u) (variable.next_of u.blobs ≤ variable.next_of t.blobs + 1) (λ sealed. omega (arith, sealed.blob_next, after-most t.blobs)) c.seal.ensures.emptied

pub returns-clause-room : goal.returns-clause-room
returns-clause-room g c =
    let u = c.seal.new.self in
    on-ok c.seal.result (IsEmptied c.args.self.now u) (HasRoom u) (λ sealed. row-fits u.writer.count (layout_len (layout_of u.schema)) u.geometry.page (length u.writer.body) u.writer.end sealed.empty.none u.rows_end u.page u.room_for_row) c.seal.ensures.emptied

pub returns-clause-full : goal.returns-clause-full
returns-clause-full g c =
    let t = c.args.self.now in
    let u = c.seal.new.self in
    on-ok c.seal.result (IsEmptied t u) ((HasRoom t → ⊥) → IsEmptied t u) (λ sealed full. sealed) c.seal.ensures.emptied

pub returns-then-not-is_full-clause-sealed : goal.returns-then-not-is_full-clause-sealed
returns-then-not-is_full-clause-sealed g c = λ full.
    let t = c.args.self.now in
    absurd (full (ltb-false (length t.writer.body) (t.writer.end + layout_len (layout_of t.schema)) (sym c.is_full.ensures.room ∙ c.if-not-is_full.true)))

pub returns-clause-sealed : goal.returns-clause-sealed
returns-clause-sealed g c =
    let made = HasFlushed c.args.self.now (g.F.Flash.state c.args.flash.now) (g.F.Flash.state c.seal.new.flash) in
    on-ok c.seal.result made ((HasRoom c.args.self.now → ⊥) → made) (λ sealed full. sealed) c.seal.ensures.sealed

pub returns-then-not-is_full-clause-flash : goal.returns-then-not-is_full-clause-flash
returns-then-not-is_full-clause-flash g c = changes-none c.args.self.now (MaySeal c.args.self.now) (rings_in c.args.self.now) CausedBy (g.F.Flash.state c.args.flash.now) (Ok tt) tt

pub returns-clause-flash : goal.returns-clause-flash
returns-clause-flash g c = c.seal.ensures.flash
