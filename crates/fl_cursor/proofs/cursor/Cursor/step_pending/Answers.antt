use Rattle.std.proofs.Common.{rules, ◌≡◌, ◌+◌, ◌^◌, ◌<◌, true, drop, sym, ◌∙◌, ap, subst, arith, refl, false}
use Rattle.fl_table.specs.Look.{buffered_rows}
use Rattle.fl_schema.specs.Schema.{row_of}
use Rattle.fl_cursor.specs.Asked.{asked_by, is_last}
use Rattle.fl_cursor.specs.Going.{Goes, took, is_at_pages}
use Rattle.fl_cursor.specs.Sought.{first_left}
use Rattle.fl_cursor.specs.declared.cursor.Cursor.{Cursor}
use Rattle.fl_cursor.specs.declared.place.Here.TheVariants.{PendingRow}
use Rattle.fl_cursor.specs.declared.place.Place.TheVariants.{Pending}
use Rattle.fl_cursor.specs.declared.search.Sought.TheVariants.{Row as At}
use Rattle.fl_table.proofs.PendingKey.{length-buffered}
use Rattle.fl_cursor.proofs.PendingRowSteps.{pending-taken, pending-ends, few-pending}
use Rattle.fl_cursor.proofs.Walks.{found-within}
use Rattle.fl_cursor.proofs.SoundPages.{sound-pending}
use Rattle.std.proofs.lemmas.Bool.{true≢false}
use Rattle.fl_cursor.specs.Cursor.{is_end}
use Rattle.fl_cursor.proofs.Whole.{goes-still}
use Rattle.fl_cursor.proofs.PlacesLeft.{pending-or-ended, taken-behind}
use Rattle.fl_cursor.proofs.cursor.Cursor.step_pending.Goals as goal

pub pending_row-requires : goal.pending_row-requires
pending_row-requires g c =
    let t = c.args.self.now.table.now in
    let sought : At c.in-Row.row ≡ first_left (asked_by c.args.self.now.mark) (drop c.in-Pending.row (buffered_rows t)) c.in-Pending.row = sym c.in-Row.is ∙ c.first_pending.ensures in
    let within = found-within (asked_by c.args.self.now.mark) (buffered_rows t) c.in-Pending.row c.in-Row.row sought in
    (search rules, omega (arith, within, length-buffered t))

pub returns-in-Row-clause-goes : goal.returns-in-Row-clause-goes
returns-in-Row-clause-goes g c = λ contents reads.
    let old : Cursor g.row.KNOTS g.row.SLOTS = c.args.self.now in
    let t = c.args.self.now.table.now in
    let found = row_of c.pending_row.result in
    let sought : At c.in-Row.row ≡ first_left (asked_by c.args.self.now.mark) (drop c.in-Pending.row (buffered_rows t)) c.in-Pending.row = sym c.in-Row.is ∙ c.first_pending.ensures in
    let key : c.key-key.result ≡ found.key = search rules in
    let fits : c.key-key.result < 2 ^ 64 = search rules in
    let small : found.key < 2 ^ 64 = omega (arith, fits, key) in
    subst (λ (new : Cursor g.row.KNOTS g.row.SLOTS). Goes true contents reads old reads new)
    (sym (c.take.ensures ∙ ap (λ k. took k (PendingRow c.in-Row.row) (Pending (c.in-Row.row + 1)) old) key))
    (pending-taken old c.in-Pending.row c.in-Pending.is contents reads c.in-Row.row found c.pending_row.ensures.row sought small)

pub overflow_add-row : goal.overflow_add-row
overflow_add-row g c =
    let sought : At c.in-Row.row ≡ first_left (asked_by c.args.self.now.mark) (drop c.in-Pending.row (buffered_rows c.args.self.now.table.now)) c.in-Pending.row = sym c.in-Row.is ∙ c.first_pending.ensures in
    let within = found-within (asked_by c.args.self.now.mark) (buffered_rows c.args.self.now.table.now) c.in-Pending.row c.in-Row.row sought in
    omega (arith, within, length-buffered c.args.self.now.table.now, few-pending c.args.self.now.table.now)

pub returns-in-Behind-clause-goes : goal.returns-in-Behind-clause-goes
returns-in-Behind-clause-goes g c = λ contents reads.
    pending-ends c.args.self.now c.in-Pending.row c.in-Pending.is contents reads c.in-Behind.is c.first_pending.ensures

pub returns-in-Row-clause-sound : goal.returns-in-Row-clause-sound
returns-in-Row-clause-sound g c = λ contents s. sound-pending c.args.self.now c.in-Pending.row contents c.in-Pending.is

pub returns-in-Behind-clause-sound : goal.returns-in-Behind-clause-sound
returns-in-Behind-clause-sound g c = λ contents s. sound-pending c.args.self.now c.in-Pending.row contents c.in-Pending.is

pub returns-in_default : goal.returns-in_default
returns-in_default g c =
    record {
      goes = λ contents reads. goes-still c.args.self.now contents reads;
      sound = λ contents s. s;
      here = refl;
      end = pending-or-ended c.args.self.now.place c.requires.behind (λ row e. c.in_default.not-Pending row e);
      stays_ended = λ e. refl;
      behind = c.requires.behind;
    }

pub returns-in-Row-clause-stays_ended : goal.returns-in-Row-clause-stays_ended
returns-in-Row-clause-stays_ended g c = λ e. absurd (true≢false (sym e ∙ ap is_end c.in-Pending.is))

pub returns-in-Row-clause-behind : goal.returns-in-Row-clause-behind
returns-in-Row-clause-behind g c = subst (λ (new : Cursor g.row.KNOTS g.row.SLOTS). is_at_pages new.place ≡ false) (sym c.take.ensures) (taken-behind (is_last c.args.self.now.mark.top c.key-key.result) (c.in-Row.row + 1))

pub returns-in-Behind-clause-here : goal.returns-in-Behind-clause-here
returns-in-Behind-clause-here g c = refl

pub returns-in-Behind-clause-end : goal.returns-in-Behind-clause-end
returns-in-Behind-clause-end g c = refl

pub returns-in-Behind-clause-stays_ended : goal.returns-in-Behind-clause-stays_ended
returns-in-Behind-clause-stays_ended g c = λ e. refl

pub returns-in-Behind-clause-behind : goal.returns-in-Behind-clause-behind
returns-in-Behind-clause-behind g c = refl
