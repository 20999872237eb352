-- How a put of a table ends that may have a log.
use Rattle.std.proofs.Common.{◌≡◌, ℕ, ◌+◌, Bool, true, false, nat_le, Option, Some, None, Result, Ok, Err, List, length, refl, sym, ◌∙◌, ap, subst}
use Rattle.std.proofs.Math.IntN.{ℤ}
use Rattle.std.specs.Option.{option_map}
use Rattle.std.proofs.lemmas.Bool.{false≢true}
use Rattle.std.proofs.lemmas.Option.{none-some}
use Rattle.fl_flash.specs.Flash.{FlashState, page_at}
use Rattle.fl_flash.specs.declared.flash.FlashFault.{FlashFault}
use Rattle.fl_model.specs.Bare.{bare, bare_table, log_of, beside}
use Rattle.fl_model.specs.Puts.{TablePuts}
use Rattle.fl_model.specs.Record.{Record, Plan, blocks_of}
use Rattle.fl_model.specs.Ring.{Ring}
use Rattle.fl_model.specs.Table as model
use Rattle.fl_model.specs.Table.{Table, Refusal, BadKey, BadColumns, BadValue, BadBlob, put_record, refusal_of, first_of, refuse_if, is_ring_spent}
use Rattle.fl_model.specs.Work.{Device}
use Rattle.fl_model.proofs.Bare.{bare-tables}
use Rattle.fl_model.proofs.Accepted.{accepted}
use Rattle.fl_frame.specs.Watched.{IsWatched}
use Rattle.fl_table.specs.Look.{layout_in}
use Rattle.fl_table.specs.Mounting.{OutsideStands}
use Rattle.fl_table.specs.Outcomes as bare_outcomes
use Rattle.fl_table.specs.declared.table.Table as code
use Rattle.fl_table.specs.declared.faults.PutRefusal.{PutRefusal}
use Rattle.fl_table.specs.declared.faults.PutRefusal.TheVariants as put
use Rattle.fl_table.specs.declared.faults.PutRefusal.TheVariants.{Spent}
use Rattle.fl_table.specs.Refusal.{or_else, refused_if, RefusesAs, put_refusal as table_refusal}
use Rattle.fl_parts.proofs.Bare.{bare-table}
use Rattle.fl_table.proofs.Refusals.{answer_of, refusals-agree}
use Rattle.fl_rlc.specs.Logged.{Stands, LogStands}
use Rattle.fl_rlc.specs.Memory.{next_in}
use Rattle.fl_rlc.specs.Outcomes.{Finishes, Breaks, PutEnds}
use Rattle.fl_rlc.specs.Refusal.{log_refused, put_refusal}
use Rattle.fl_rlc.specs.Rows.{RowEnds, StandOutside}
use Rattle.fl_rlc.specs.declared.log.RecordLog.{RecordLog}
use Rattle.fl_rlc.specs.declared.table.LoggedTable.{LoggedTable}
use Rattle.fl_rlc.proofs.Alone.{alone-finishes, alone-breaks}
use Rattle.fl_rlc.proofs.PutJoins.{row-joins}
use Rattle.fl_rlc.proofs.Puts.{has, room, table-breaks, log-breaks, log-finishes}

abbrev answer : Option Refusal → Option PutRefusal
answer refusal = option_map answer_of refusal

either : (a b : Option Refusal) → or_else (answer a) (answer b) ≡ answer (first_of a b)
either None b = refl
either (Some r) b = refl

if-so : (b : Bool) → refused_if b Spent ≡ answer (refuse_if b model.Spent)
if-so true = refl
if-so false = refl

module _ {KNOTS SLOTS : ℕ} (t : LoggedTable KNOTS SLOTS) (f : FlashState) (first : ℕ) (plan : Plan) (table : Table) (h : Stands t f first plan table) (key : ℕ) (values : List ℤ) (blob : Option (List ℕ)) where
  abbrev item : Record
  item = record { key = key; values = values; blob = blob }

  log-agrees : log_refused t.log ≡ answer (refuse_if (is_ring_spent table.log) model.Spent)
  log-agrees = by-log t.log h.log
    where
      by-log : (o : Option RecordLog) → LogStands o f (first + blocks_of (bare plan)) plan table → log_refused o ≡ answer (refuse_if (is_ring_spent table.log) model.Spent)
      by-log None none = sym (ap (λ (o : Option Ring). answer (refuse_if (is_ring_spent o) model.Spent)) (bare-table plan table none h.facts).0)
      by-log (Some l) s =
          if-so (nat_le 4294901760 (next_in l))
          ∙ (ap (λ (n : ℕ). answer (refuse_if (nat_le 4294901760 n) model.Spent)) s.0.ring.next ∙ ap (λ (o : Option Ring). answer (refuse_if (is_ring_spent o) model.Spent)) (sym s.0.ring.ring_is))

  -- it refuses as its model does
  pub logged-agree : put_refusal t key values (option_map (λ (xs : List ℕ). length xs) blob) ≡ answer (refusal_of plan table (record { key = key; values = values; blob = blob }))
  logged-agree =
      rw (refusals-agree t.table f first (bare plan) (bare_table table) key values blob h.unlogged, log-agrees)
      (either (refusal_of (bare plan) (bare_table table) item) (refuse_if (is_ring_spent table.log) model.Spent) ∙ ap answer (sym (bare-tables.refusals plan item (bare_table table) (log_of table))))

  pub logged-refused : (rose : Bool) (device : Device) (refusal : PutRefusal) → put_refusal t key values (option_map (λ (xs : List ℕ). length xs) blob) ≡ Some refusal → (after : LoggedTable KNOTS SLOTS) (old new : FlashState) →
      PutEnds first plan (record { key = key; values = values; blob = blob }) table rose device (Err refusal) after old new
  logged-refused rose device refusal e after old new = by-model (refusal_of plan table item) refl (sym logged-agree ∙ e)
    where
      by-refusal : (r : Refusal) → refusal_of plan table (record { key = key; values = values; blob = blob }) ≡ Some r →
          PutEnds first plan (record { key = key; values = values; blob = blob }) table rose device (Err (answer_of r)) after old new
      by-refusal (BadKey last) k = k
      by-refusal (BadColumns wanted) k = k
      by-refusal (BadValue column) k = k
      by-refusal (BadBlob limit) k = k
      by-refusal model.Spent k = k

      by-model : (o : Option Refusal) → refusal_of plan table (record { key = key; values = values; blob = blob }) ≡ o → answer o ≡ Some refusal → PutEnds first plan (record { key = key; values = values; blob = blob }) table rose device (Err refusal) after old new
      by-model None k e = absurd (none-some refusal e)
      by-model (Some r) k e = subst (λ (x : PutRefusal). PutEnds first plan (record { key = key; values = values; blob = blob }) table rose device (Err x) after old new) (same e) (by-refusal r k)
        where
          same : Some (answer_of r) ≡ Some refusal → answer_of r ≡ refusal
          same k = cc

  pub logged-accepted : put_refusal t key values (option_map (λ (xs : List ℕ). length xs) blob) ≡ None → refusal_of plan table (record { key = key; values = values; blob = blob }) ≡ None
  logged-accepted e = by-model (refusal_of plan table item) (sym logged-agree ∙ e)
    where
      by-model : (o : Option Refusal) → answer o ≡ None → o ≡ None
      by-model None e = refl
      by-model (Some r) e = cc

  module _ (rose : Bool) (device : Device) (ok : refusal_of plan table (record { key = key; values = values; blob = blob }) ≡ None) where
    -- the table's own put failed
    pub failed-ends : (u : code.Table KNOTS SLOTS) (now : LoggedTable KNOTS SLOTS) (new : FlashState) (e : PutRefusal) → RefusesAs None (Err e) → OutsideStands t.table (page_at f) (page_at new) →
        bare_outcomes.PutEnds first (bare plan) (record { key = key; values = values; blob = blob }) (bare_table table) rose device (Err e) u f new →
        PutEnds first plan (record { key = key; values = values; blob = blob }) table rose device (Err e) now f new
    failed-ends u now new (put.Flash fault) none-such outside k = (ok, by-log t.log refl)
      where
        by-log : (o : Option RecordLog) → t.log ≡ o → Breaks first plan (TablePuts plan rose (record { key = key; values = values; blob = blob }) device table) fault new
        by-log None e =
            alone-breaks t f first plan table h (subst (λ (o : Option RecordLog). LogStands o f (first + blocks_of (bare plan)) plan table) e h.log) (λ x y. TablePuts x rose (record { key = key; values = values; blob = blob }) device y) fault new k.1
        by-log (Some l) e = table-breaks t l e f first plan table h item rose device ok fault new outside k.1
    failed-ends u now new (put.Key last) none-such outside k = absurd none-such
    failed-ends u now new (put.Columns wanted) none-such outside k = absurd none-such
    failed-ends u now new (put.Value column) none-such outside k = absurd none-such
    failed-ends u now new (put.Blob limit) none-such outside k = absurd none-such
    failed-ends u now new put.Spent none-such outside k = absurd none-such
    failed-ends u now new put.Stopped none-such outside k = absurd none-such

    -- it put the record, and then the log has it or not
    module _ (u : code.Table KNOTS SLOTS) (mid new : FlashState)
        (p : bare_outcomes.Finishes first (bare plan) (TablePuts (bare plan) rose (record { key = key; values = values; blob = blob }) device (bare_table table)) (bare_table table) (put_record (bare plan) (record { key = key; values = values; blob = blob }) (bare_table table)) u f mid)
        (outside : OutsideStands t.table (page_at f) (page_at mid)) (watched : IsWatched mid new rose p.now.device) (now : LoggedTable KNOTS SLOTS) where
      no-blob : (l : RecordLog) → t.log ≡ Some l → blob ≡ None
      no-blob l e = by-blob blob refl
        where
          by-blob : (o : Option (List ℕ)) → blob ≡ o → o ≡ None
          by-blob None k = refl
          by-blob (Some bytes) k = absurd (false≢true (sym ((room t l e f first plan table h).no_var (has t l e f first plan table h)) ∙ ((accepted plan table item ok).blob bytes k).0))

      pub row-failed : (fault : FlashFault) (last : Option RecordLog) → StandOutside t.log (page_at mid) (page_at new) →
          RowEnds t.log mid (first + blocks_of (bare plan)) plan (beside (log_of table) (put_record (bare plan) (record { key = key; values = values; blob = blob }) (bare_table table))) (layout_in u) (record { key = key; values = values; blob = None }) rose p.now.device (Err fault) last new →
          PutEnds first plan (record { key = key; values = values; blob = blob }) table rose device (Err (put.Flash fault)) now f new
      row-failed fault last beyond ends = (ok, by-log t.log refl beyond last ends)
        where
          by-log : (o : Option RecordLog) → t.log ≡ o → StandOutside o (page_at mid) (page_at new) → (last : Option RecordLog) →
              RowEnds o mid (first + blocks_of (bare plan)) plan (beside (log_of table) (put_record (bare plan) (record { key = key; values = values; blob = blob }) (bare_table table))) (layout_in u) (record { key = key; values = values; blob = None }) rose p.now.device (Err fault) last new →
              Breaks first plan (TablePuts plan rose (record { key = key; values = values; blob = blob }) device table) fault new
          by-log None e out last ends = absurd (not-ok ends.0)
            where
              not-ok : ◌≡◌ {A = Result (Unit {0}) FlashFault} (Err fault) (Ok tt) → ⊥
              not-ok k = cc
          by-log (Some l) e out None ends = absurd ends
          by-log (Some l) e out (Some w) ends =
              log-breaks t l e f first plan table h item rose device ok u mid new p outside out fault (ends watched (row-joins t l e f first plan table h item (no-blob l e) rose device u mid p outside))

      pub row-done : now.table ≡ u → StandOutside t.log (page_at mid) (page_at new) →
          RowEnds t.log mid (first + blocks_of (bare plan)) plan (beside (log_of table) (put_record (bare plan) (record { key = key; values = values; blob = blob }) (bare_table table))) (layout_in u) (record { key = key; values = values; blob = None }) rose p.now.device (Ok tt) now.log new →
          PutEnds first plan (record { key = key; values = values; blob = blob }) table rose device (Ok tt) now f new
      row-done u_is beyond ends = (ok, by-log t.log refl beyond now.log refl ends)
        where
          by-log : (o : Option RecordLog) → t.log ≡ o → StandOutside o (page_at mid) (page_at new) → (last : Option RecordLog) → now.log ≡ last →
              RowEnds o mid (first + blocks_of (bare plan)) plan (beside (log_of table) (put_record (bare plan) (record { key = key; values = values; blob = blob }) (bare_table table))) (layout_in u) (record { key = key; values = values; blob = None }) rose p.now.device (Ok tt) last new →
              Finishes first plan (TablePuts plan rose (record { key = key; values = values; blob = blob }) device table) table (put_record plan (record { key = key; values = values; blob = blob }) table) now f new
          by-log None e out last last_is ends =
              subst (λ (g : FlashState). Finishes first plan (TablePuts plan rose (record { key = key; values = values; blob = blob }) device table) table (put_record plan (record { key = key; values = values; blob = blob }) table) now f g) (sym ends.2)
              (alone-finishes t f first plan table h (subst (λ (o : Option RecordLog). LogStands o f (first + blocks_of (bare plan)) plan table) e h.log)
              (λ x y. TablePuts x rose (record { key = key; values = values; blob = blob }) device y) (λ x y. put_record x (record { key = key; values = values; blob = blob }) y) now u mid u_is (last_is ∙ ends.1) p)
          by-log (Some l) e out None last_is ends = absurd ends
          by-log (Some l) e out (Some w) last_is ends =
              log-finishes t l e f first plan table h item rose device ok u mid new p outside out now w u_is last_is (ends watched (row-joins t l e f first plan table h item (no-blob l e) rose device u mid p outside))

-- a record that isn't refused isn't by the table
pub bare-none : {KNOTS SLOTS : ℕ} (t : LoggedTable KNOTS SLOTS) (key : ℕ) (values : List ℤ) (blob : Option ℕ) → put_refusal t key values blob ≡ None → table_refusal t.table key values blob ≡ None
bare-none t key values blob e = by-first (table_refusal t.table key values blob) e
  where
    by-first : (o : Option PutRefusal) → or_else o (log_refused t.log) ≡ None → o ≡ None
    by-first None k = refl
    by-first (Some r) k = cc

pub log-none : {KNOTS SLOTS : ℕ} (t : LoggedTable KNOTS SLOTS) (key : ℕ) (values : List ℤ) (blob : Option ℕ) → put_refusal t key values blob ≡ None → log_refused t.log ≡ None
log-none t key values blob e = by-first (table_refusal t.table key values blob) e
  where
    by-first : (o : Option PutRefusal) → or_else o (log_refused t.log) ≡ None → log_refused t.log ≡ None
    by-first None k = k
    by-first (Some r) k = cc
