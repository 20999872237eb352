-- The record that a put of the table has made pending is to join the rows of its log.
use Rattle.std.proofs.Common.{◌≡◌, ℕ, ◌+◌, ◌-◌, ◌*◌, ◌/◌, ◌≤◌, inl, inr, Bool, true, false, cond, ◌==◌, nat_lt, Option, Some, None, List, [], ◌∷◌, ◌++◌, length, map, refl, sym, ◌∙◌, ap, subst, arith, eq-eqb, length-append}
use Rattle.std.proofs.Math.Nat.{le-div_iff_mul-le, add-mul}
use Rattle.std.proofs.lemmas.Bool.{cases_lt, eqb-true, lt-ltb, false≢true, le-ltb}
use Rattle.std.proofs.lemmas.List.{length-map, map_push}
use Rattle.fl_base.specs.declared.types.Geometry.{Geometry}
use Rattle.fl_flash.specs.Flash.{FlashState, page_at}
use Rattle.fl_model.specs.Bare.{bare, bare_table, log_of, beside}
use Rattle.fl_model.specs.Facts.{FitsPlan}
use Rattle.fl_model.specs.Puts.{TablePuts}
use Rattle.fl_model.specs.Record.{Record, Plan, RowLayout, row_layout, layout_len, rows_per_page, blocks_of}
use Rattle.fl_model.specs.Row.{Row, stored_row}
use Rattle.fl_model.specs.Table.{Table, Entry, log_pages, pending_entries, put_record, with_room}
use Rattle.fl_model.specs.Work.{Device}
use Rattle.fl_page.specs.Writer.{Gathers}
use Rattle.fl_table.specs.Look.{layout_in}
use Rattle.fl_table.specs.Mounting.{OutsideStands}
use Rattle.fl_table.specs.Outcomes as bare_outcomes
use Rattle.fl_table.specs.declared.table.Table as code
use Rattle.fl_rlc.specs.Logged.{Stands, LogStands, IsKept}
use Rattle.fl_rlc.specs.Memory.{rows_in, kept_rows}
use Rattle.fl_rlc.specs.Pages.{IsLogRing}
use Rattle.fl_rlc.specs.Rows.{Joins}
use Rattle.fl_rlc.specs.Standing as of_log
use Rattle.fl_rlc.specs.declared.log.RecordLog.{RecordLog}
use Rattle.fl_rlc.specs.declared.table.LoggedTable.{LoggedTable}
use Rattle.fl_model.proofs.Lists.{each-weaker}
use Rattle.fl_rlc.proofs.Frames.{log-still}
use Rattle.fl_rlc.proofs.LoggedFacts.{fits}
use Rattle.fl_rlc.proofs.PutRows.{put-rows, rows_left, entry_of, pending-page, pending-many}

module _ {KNOTS SLOTS : ℕ} (t : LoggedTable KNOTS SLOTS) (l : RecordLog) (t_is : t.log ≡ Some l) (f : FlashState) (first : ℕ) (plan : Plan) (table : Table) (h : Stands t f first plan table) where
  log-stands : of_log.Stands l f (first + blocks_of (bare plan)) plan table × IsKept table
  log-stands = subst (λ (o : Option RecordLog). LogStands o f (first + blocks_of (bare plan)) plan table) t_is h.log

  pending-few : table.pending ≤ length table.entries
  pending-few = omega (arith, h.facts.counted)

  -- the log's page is full just where that of the table is
  full-same : (table.pending == rows_per_page plan) ≡ nat_lt (length l.rows.body) (l.rows.end + layout_len (row_layout plan))
  full-same = by-full (table.pending == rows_per_page plan) refl
    where
      some : 1 ≤ layout_len (row_layout plan)
      some = subst (λ (r : RowLayout). 1 ≤ layout_len r) (sym h.unlogged.planned.layout) t.table.some_row

      page : l.geometry.page ≡ plan.geometry.page
      page = ap (λ (g : Geometry). g.page) (sym log-stands.0.ring.planned.geometry)

      end : l.rows.end ≡ 16 + table.pending * layout_len (row_layout plan)
      end =
          log-stands.0.rows.end
          ∙ ap (λ (n : ℕ). 16 + n * layout_len (row_layout plan)) (length-map (pending_entries table) stored_row ∙ pending-many table pending-few)

      one-more : (table.pending + 1) * layout_len (row_layout plan) ≡ table.pending * layout_len (row_layout plan) + layout_len (row_layout plan)
      one-more = let k = add-mul table.pending 1 (layout_len (row_layout plan)) in omega (arith, k)

      by-full : (b : Bool) → (table.pending == rows_per_page plan) ≡ b → b ≡ nat_lt (length l.rows.body) (l.rows.end + layout_len (row_layout plan))
      by-full true e =
          let full : table.pending ≡ rows_per_page plan = eqb-true table.pending (rows_per_page plan) e in
          sym (lt-ltb (length l.rows.body) (l.rows.end + layout_len (row_layout plan)) (elim (cases_lt (length l.rows.body) (l.rows.end + layout_len (row_layout plan))) [
            | inl lt ↦ lt
            | inr ge ↦
                let more : table.pending + 1 ≤ (plan.geometry.page - 24) / layout_len (row_layout plan) =
                (le-div_iff_mul-le {k = layout_len (row_layout plan)} {x = table.pending + 1} {y = plan.geometry.page - 24} some).1 (omega (arith, ge, end, one-more, l.body, page, some)) in
                absurd (omega (arith, more, full))
          ]))
      by-full false e =
          sym (le-ltb (length l.rows.body) (l.rows.end + layout_len (row_layout plan)) (elim (cases_lt table.pending (rows_per_page plan)) [
            | inl less ↦
                let fits : (table.pending + 1) * layout_len (row_layout plan) ≤ plan.geometry.page - 24 =
                (le-div_iff_mul-le {k = layout_len (row_layout plan)} {x = table.pending + 1} {y = plan.geometry.page - 24} some).0 (omega (arith, less)) in
                omega (arith, fits, end, one-more, l.body, page, l.served.page_least)
            | inr more ↦ absurd (false≢true (sym e ∙ eq-eqb table.pending (rows_per_page plan) (omega (arith, more, h.facts.few_pending))))
          ]))

  module _ (item : Record) (none : item.blob ≡ None) (rose : Bool) (device : Device) (u : code.Table KNOTS SLOTS) (mid : FlashState)
      (p : bare_outcomes.Finishes first (bare plan) (TablePuts (bare plan) rose item device (bare_table table)) (bare_table table) (put_record (bare plan) item (bare_table table)) u f mid)
      (outside : OutsideStands t.table (page_at f) (page_at mid)) where
    abbrev P : Table
    P = put_record (bare plan) item (bare_table table)

    rows-are : pending_entries (put_record (bare plan) item (bare_table table)) ≡ rows_left (bare plan) (bare_table table) ++ entry_of (bare plan) item (with_room (bare plan) (bare_table table)) ∷ []
    rows-are = put-rows (bare plan) item (bare_table table) refl pending-few

    P-few : (put_record (bare plan) item (bare_table table)).pending ≤ length (put_record (bare plan) item (bare_table table)).entries
    P-few = omega (arith, p.stands.facts.counted)

    kept-are : map stored_row (rows_left (bare plan) (bare_table table)) ≡ kept_rows (row_layout plan) (rows_in l) (map stored_row (pending_entries table))
    kept-are = by-full (table.pending == rows_per_page plan) ∙ ap (λ (b : Bool). cond b [] (map stored_row (pending_entries table))) full-same
      where
        by-full : (b : Bool) → map stored_row (cond b [] (pending_entries table)) ≡ cond b [] (map stored_row (pending_entries table))
        by-full true = refl
        by-full false = refl

    last-is : stored_row (entry_of (bare plan) item (with_room (bare plan) (bare_table table))) ≡ record { key = item.key; values = item.values; blob = None }
    last-is =
        ap (λ (o : Option (List ℕ)). stored_row (record { kept = record { key = item.key; values = item.values; blob = o }; page = (entry_of (bare plan) item (with_room (bare plan) (bare_table table))).page; offset = (entry_of (bare plan) item (with_room (bare plan) (bare_table table))).offset })) none

    pub row-joins : Joins l mid (first + blocks_of (bare plan)) plan (beside (log_of table) (put_record (bare plan) item (bare_table table))) (layout_in u) (record { key = item.key; values = item.values; blob = None })
    row-joins =
        let layout : layout_in u ≡ row_layout plan = sym p.stands.planned.layout in
        let r = log-stands.0.ring in
        record {
          ring = record {
            planned = r.planned;
            mounted = r.mounted;
            ring = r.ring;
            ring_is = r.ring_is;
            pages = subst (λ (at : ℕ → List ℕ). IsLogRing plan (log_pages table) r.ring at) (sym (log-still t.table l f mid first plan h.unlogged.planned outside r.planned)) r.pages;
            logged_some = r.logged_some;
            whole = r.whole;
            clean = r.clean;
            next = r.next;
            oldest_is = r.oldest_is;
          };
          layout_is = layout;
          rows = map stored_row (pending_entries table);
          gathers = subst (λ (x : RowLayout). Gathers x (map stored_row (pending_entries table)) (rows_in l)) (sym layout) log-stands.0.rows;
          pending =
              ap (λ (es : List Entry). map stored_row es) rows-are
              ∙ (map_push stored_row (rows_left (bare plan) (bare_table table)) (entry_of (bare plan) item (with_room (bare plan) (bare_table table)))
              ∙ (ap (λ (rs : List Row). rs ++ stored_row (entry_of (bare plan) item (with_room (bare plan) (bare_table table))) ∷ []) kept-are
              ∙ (ap (λ (row : Row). kept_rows (row_layout plan) (rows_in l) (map stored_row (pending_entries table)) ++ row ∷ []) last-is
              ∙ ap (λ (x : RowLayout). kept_rows x (rows_in l) (map stored_row (pending_entries table)) ++ (record { key = item.key; values = item.values; blob = None }) ∷ []) (sym layout))));
          page = record {
            some = let k = length-append (rows_left (bare plan) (bare_table table)) (entry_of (bare plan) item (with_room (bare plan) (bare_table table)) ∷ []) in omega (arith, ap (λ (es : List Entry). length es) rows-are, k);
            few = omega (arith, pending-many P P-few, p.stands.facts.few_pending);
            page = pending-page plan P (each-weaker (FitsPlan (bare plan)) (FitsPlan plan) (fits plan) P.entries p.stands.facts.fit) p.stands.facts.ascending;
          };
          as_many = pending-many P P-few;
        }
