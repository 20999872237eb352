-- How a flush of a table ends that may have a log, which it doesn't touch.
use Rattle.std.proofs.Common.{◌≡◌, ℕ, ◌+◌, Bool, ◌==◌, ◌&&◌, nat_lt, Option, Some, None, Result, Ok, Err, List, [], length, map, refl, sym, ◌∙◌, ap, subst}
use Rattle.fl_flash.specs.Flash.{FlashState, page_at}
use Rattle.fl_flash.specs.declared.flash.FlashFault.{FlashFault}
use Rattle.fl_model.specs.Bare.{bare, bare_table, log_of, beside, end_beside, progress_beside}
use Rattle.fl_model.specs.Record.{Plan, blocks_of, row_layout, has_index, entries_per_page}
use Rattle.fl_model.specs.Row.{stored_row}
use Rattle.fl_model.specs.Table.{Table, Entry, LogRing, table_seals, flushed, pending_entries, fill, lose, log_pages}
use Rattle.fl_model.specs.Within.{seals_within}
use Rattle.fl_model.specs.Work.{Device, PartProgress}
use Rattle.fl_model.proofs.Bare.{bare-tables, table-bare}
use Rattle.fl_machine.proofs.RecordsChange.{Any, any-last}
use Rattle.fl_machine.proofs.LogTables.{Between, flush-goes, flush-between}
use Rattle.fl_page.specs.Writer.{Gathers}
use Rattle.fl_table.specs.Mounting.{OutsideStands}
use Rattle.fl_parts.specs.Failing as failing
use Rattle.fl_table.specs.Outcomes as bare_outcomes
use Rattle.fl_parts.specs.Failing.{BySeals}
use Rattle.fl_parts.specs.Pages as pages
use Rattle.fl_parts.specs.Pages.{bytes_in}
use Rattle.fl_table.specs.Standing as without_log
use Rattle.fl_table.specs.declared.table.Table as code
use Rattle.fl_table.specs.declared.faults.FlushFault.{FlushFault}
use Rattle.fl_table.specs.declared.faults.FlushFault.TheVariants as flush
use Rattle.fl_parts.proofs.KeptPagesStay.{ring-same}
use Rattle.fl_rlc.specs.Logged.{Stands, LogStands, IsKept}
use Rattle.fl_rlc.specs.Memory.{rows_in, page_in, IsSamePlan}
use Rattle.fl_rlc.specs.Outcomes.{Finishes, Breaks, FlushEnds, LogStays}
use Rattle.fl_rlc.specs.Pages.{IsLogRing}
use Rattle.fl_rlc.specs.Rows.{AreBegun}
use Rattle.fl_rlc.specs.Standing as of_log
use Rattle.fl_rlc.specs.declared.log.RecordLog.{RecordLog}
use Rattle.fl_rlc.specs.declared.table.LoggedTable.{LoggedTable}
use Rattle.fl_rlc.proofs.Alone.{alone-finishes, alone-breaks}
use Rattle.fl_rlc.proofs.Assembled.{bare-same, stands-of, rests-of}
use Rattle.fl_rlc.proofs.Frames.{log-bytes, log-still}
use Rattle.fl_rlc.proofs.JoinedRow.{ring-moved}
use Rattle.fl_rlc.proofs.Puts.{log-stands, between, room, fault-beside, fault-broken}
use Rattle.fl_rlc.proofs.PutRows.{none-left, sealed-none}
use Rattle.fl_rlc.proofs.Stops.{stops-fine, unbeside}

-- a log whose next page no longer has the pending rows of a table
pub record IsEmptied (plan : Plan) (table : Table) (old new : RecordLog) : Type 0 where
  pub same : IsSamePlan old new
  pub ring : new.ring ≡ old.ring
  pub rows : Gathers (row_layout plan) (map stored_row (pending_entries table)) (rows_in old) → Gathers (row_layout plan) [] (rows_in new)

abbrev pub AreEmptied : Plan → Table → Option RecordLog → Option RecordLog → Type 0
AreEmptied plan table None new = new ≡ None
AreEmptied plan table (Some old) None = ⊥
AreEmptied plan table (Some old) (Some new) = IsEmptied plan table old new

pub begun-emptied : (plan : Plan) (table : Table) (a b : Option RecordLog) → AreBegun a b → AreEmptied plan table a b
begun-emptied plan table None b h = h
begun-emptied plan table (Some old) None h = h
begun-emptied plan table (Some old) (Some new) h = record { same = h.same; ring = h.ring; rows = h.rows (row_layout plan) (map stored_row (pending_entries table)) }

-- where none is pending it has none
pub idle-emptied : (plan : Plan) (table : Table) (a : Option RecordLog) → table.pending ≡ 0 → AreEmptied plan table a a
idle-emptied plan table None none = refl
idle-emptied plan table (Some log) none = record {
  same = record { geometry = refl; place = refl };
  ring = refl;
  rows = λ h. subst (λ (es : List Entry). Gathers (row_layout plan) (map stored_row es) (rows_in log)) (none-left table none) h;
}

module _ {KNOTS SLOTS : ℕ} (t : LoggedTable KNOTS SLOTS) (f : FlashState) (first : ℕ) (plan : Plan) (table : Table) (h : Stands t f first plan table) (rose : Bool) (device : Device) (new : FlashState) (outside : OutsideStands t.table (page_at f) (page_at new)) where
  abbrev F : Table
  F = flushed (bare plan) (bare_table table)

  flushed-is : flushed plan table ≡ beside (log_of table) (flushed (bare plan) (bare_table table))
  flushed-is = bare-tables.flushed plan (bare_table table) (log_of table)

  lifted : (now : PartProgress Table) → BySeals (bare plan) (table_seals (bare plan) (bare_table table)) (bare_table table) rose device now → BySeals plan (table_seals plan table) table rose device (progress_beside (log_of table) now)
  lifted now d = bare-tables.performs plan rose (table_seals (bare plan) (bare_table table)) device (bare_table table) now (log_of table) (table-bare (bare plan) (bare_table table)) d

  none-pending : pending_entries (flushed (bare plan) (bare_table table)) ≡ []
  none-pending = none-left F (sealed-none (bare plan) (bare_table table) (table.pending == 0) (has_index plan && (length table.waiting == entries_per_page plan)) (nat_lt 0 (fill table)) refl)

  module _ (l : RecordLog) (t_is : t.log ≡ Some l) where
    hs : of_log.Stands l f (first + blocks_of (bare plan)) plan table × IsKept table
    hs = log-stands t l t_is f first plan table h

    still : page_in l new ≡ page_in l f
    still = log-still t.table l f new first plan h.unlogged.planned outside hs.0.ring.planned

    pages-still : IsLogRing plan (log_pages table) hs.0.ring.ring (page_in l new)
    pages-still = subst (λ (at : ℕ → List ℕ). IsLogRing plan (log_pages table) hs.0.ring.ring at) (sym still) hs.0.ring.pages

    logged-breaks : (fault : FlashFault) → failing.Breaks first (bare plan) (BySeals (bare plan) (table_seals (bare plan) (bare_table table)) (bare_table table) rose device) fault new →
        Breaks first plan (BySeals plan (table_seals plan table) table rose device) fault new
    logged-breaks fault p =
        let broken = fault-broken t l t_is f first plan table h p.now.end fault new p.answer in
        record {
          now = progress_beside (log_of table) p.now;
          did = lifted p.now p.did;
          answer = fault-beside t l t_is f first plan table h p.now.end fault new p.answer;
          counts = p.counts;
          rests = rests-of l new first plan (beside (log_of table) p.now.state) hs.0.ring.ring hs.0.ring.planned
              (subst (λ (x : Table). pages.Rests new first (bare plan) x) (sym (bare-same (bare plan) (lose p.now.state) refl p.rests.settled.facts)) p.rests)
              hs.0.ring.ring_is pages-still hs.0.ring.logged_some
              (stops-fine plan rose (seals_within plan (table_seals plan table) table) device table (progress_beside (log_of table) p.now)
              (flush-goes Any any-last plan table (room t l t_is f first plan table h) (between t l t_is f first plan table h)) (lifted p.now p.did) (λ w. broken (unbeside table p.now.end w)));
        }

    logged-finishes : (now : LoggedTable KNOTS SLOTS) (u : code.Table KNOTS SLOTS) (last : RecordLog) → now.table ≡ u → now.log ≡ Some last → IsEmptied plan table l last →
        bare_outcomes.Finishes first (bare plan) (BySeals (bare plan) (table_seals (bare plan) (bare_table table)) (bare_table table) rose device) (bare_table table) (flushed (bare plan) (bare_table table)) u f new →
        Finishes first plan (BySeals plan (table_seals plan table) table rose device) table (flushed plan table) now f new
    logged-finishes now u last u_is last_is emptied p = record {
      now = progress_beside (log_of table) p.now;
      did = lifted p.now p.did;
      whole = ap (end_beside (log_of table)) p.whole;
      counts = p.counts;
      power = p.power;
      stands = subst (λ (x : Table). Stands now new first plan x) (sym flushed-is)
          (stands-of now last new first plan (beside (log_of table) F) last_is
          (subst (λ (x : code.Table KNOTS SLOTS). without_log.Stands x new first (bare plan) (bare_table F)) (sym u_is)
          (subst (λ (x : Table). without_log.Stands u new first (bare plan) x) (sym (bare-same (bare plan) F refl p.stands.facts)) p.stands))
          (record {
            ring = ring-moved l last new (first + blocks_of (bare plan)) plan (beside (log_of table) F) emptied.same emptied.ring
                (record {
                  planned = hs.0.ring.planned;
                  mounted = hs.0.ring.mounted;
                  ring = hs.0.ring.ring;
                  ring_is = hs.0.ring.ring_is;
                  pages = pages-still;
                  logged_some = hs.0.ring.logged_some;
                  whole = hs.0.ring.whole;
                  clean = hs.0.ring.clean;
                  next = hs.0.ring.next;
                  oldest_is = hs.0.ring.oldest_is;
                });
            rows = subst (λ (es : List Entry). Gathers (row_layout plan) (map stored_row es) (rows_in last)) (sym none-pending) (emptied.rows hs.0.rows);
          })
          (subst (Between Any) flushed-is (flush-between Any any-last plan table (room t l t_is f first plan table h) (between t l t_is f first plan table h))));
      stand = subst (λ (x : Table). pages.KeptStand first plan table x (page_at f) (page_at new)) (sym flushed-is) (record { rows = p.stand.rows; index = p.stand.index; var = p.stand.var });
      log = subst (λ (x : Table). LogStays first plan table x f new) (sym flushed-is)
          (ring-same table.log table.log (bytes_in (page_at f) first plan LogRing) (bytes_in (page_at new) first plan LogRing) refl
          (λ ring e n. ap (λ (at : ℕ → List ℕ). at n) (sym (log-bytes l new first plan hs.0.ring.planned) ∙ (still ∙ log-bytes l f first plan hs.0.ring.planned))));
    }

  -- it was done
  pub flush-done : (now : LoggedTable KNOTS SLOTS) (u : code.Table KNOTS SLOTS) → now.table ≡ u → AreEmptied plan table t.log now.log → bare_outcomes.FlushEnds first (bare plan) (bare_table table) rose device (Ok tt) u f new →
      FlushEnds first plan table rose device (Ok tt) now f new
  flush-done now u u_is emptied p = by-log t.log refl now.log refl emptied
    where
      by-log : (o : Option RecordLog) → t.log ≡ o → (last : Option RecordLog) → now.log ≡ last → AreEmptied plan table o last → Finishes first plan (BySeals plan (table_seals plan table) table rose device) table (flushed plan table) now f new
      by-log None e last last_is emptied =
          alone-finishes t f first plan table h (subst (λ (o : Option RecordLog). LogStands o f (first + blocks_of (bare plan)) plan table) e h.log)
          (λ x y. BySeals x (table_seals x y) y rose device) flushed now u new u_is (last_is ∙ emptied) p
      by-log (Some l) e None last_is emptied = absurd emptied
      by-log (Some l) e (Some w) last_is emptied = logged-finishes l e now u w u_is last_is emptied p

  -- it failed
  pub flush-failed : (now : LoggedTable KNOTS SLOTS) (u : code.Table KNOTS SLOTS) (fault : FlushFault) → bare_outcomes.FlushEnds first (bare plan) (bare_table table) rose device (Err fault) u f new → FlushEnds first plan table rose device (Err fault) now f new
  flush-failed now u flush.Stopped p = p
  flush-failed now u (flush.Flash fault) p = by-log t.log refl
    where
      by-log : (o : Option RecordLog) → t.log ≡ o → Breaks first plan (BySeals plan (table_seals plan table) table rose device) fault new
      by-log None e =
          alone-breaks t f first plan table h (subst (λ (o : Option RecordLog). LogStands o f (first + blocks_of (bare plan)) plan table) e h.log) (λ x y. BySeals x (table_seals x y) y rose device) fault new p
      by-log (Some l) e = logged-breaks l e fault p

  -- nothing was pending
  pub flush-idle : (now : LoggedTable KNOTS SLOTS) (u : code.Table KNOTS SLOTS) → now.table ≡ u → now.log ≡ t.log → table.pending ≡ 0 → (result : Result (Unit {0}) FlushFault) →
      bare_outcomes.FlushEnds first (bare plan) (bare_table table) rose device result u f new → FlushEnds first plan table rose device result now f new
  flush-idle now u u_is log_is none (Ok done) p = flush-done now u u_is (subst (λ (o : Option RecordLog). AreEmptied plan table t.log o) (sym log_is) (idle-emptied plan table t.log none)) p
  flush-idle now u u_is log_is none (Err fault) p = flush-failed now u fault p
