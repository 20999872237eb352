use Rattle.std.proofs.Common.{◌≡◌, ℕ, ◌+◌, ◌≤◌, false, Option, Some, refl, sym, ◌∙◌, ap, subst, arith}
use Rattle.std.specs.Prelude.{IfSome}
use Rattle.std.proofs.lemmas.Option.{same_Some, none-some}
use Rattle.std.proofs.lemmas.Result.{err_from_is_err_and}
use Rattle.std.proofs.lemmas.Bool.{both_ways}
use Rattle.fl_base.specs.declared.types.RingPlace.{RingPlace}
use Rattle.fl_model.specs.Bare.{bare}
use Rattle.fl_model.specs.Record.{Plan, blocks_of, layout_len}
use Rattle.fl_plan.specs.Plan.{blocks_in}
use Rattle.fl_ring.specs.Ring.{Shape}
use Rattle.fl_parts.proofs.Sizes.{table-fits}
use Rattle.fl_table.specs.Look.{layout_in}
use Rattle.fl_table.specs.Memory as table_words
use Rattle.fl_rlc.specs.Memory.{page_len, IsPlanned, LiesOn}
use Rattle.fl_rlc.specs.declared.log.RecordLog.{RecordLog}
use Rattle.fl_rlc.proofs.Planned.{logged-fits, table-refused, three-blocks, few-var}
use Rattle.fl_rlc.proofs.table.LoggedTable.plan.Goals as goal

pub plan-requires : goal.plan-requires
plan-requires g c = (table-fits g.row.KNOTS g.row.SLOTS c.requires.knots.1 c.requires.slots.1, (c.requires.knots, c.requires.slots))

pub returns-in_err-table-clause-refused : goal.returns-in_err-table-clause-refused
returns-in_err-table-clause-refused g c =
    table-refused c.from_residual-in_err-table.result _ c.args.log c.args.config.now c.from_residual-in_err-table.ensures.1 c.in_ok-check_with.ensures.refusal c.in_err-table.ensures.refused

-- ---- without a log

pub invariant_of-result : goal.invariant_of-result
invariant_of-result g c = record {
  running = λ l is. absurd (none-some l is);
  no_blobs = λ some. absurd (both_ways false refl some);
  room = λ l is. absurd (none-some l is);
}

pub returns-in_default-clause-planned : goal.returns-in_default-clause-planned
returns-in_default-clause-planned g c = λ plan is blocks first. record { table = c.in_ok-table.ensures.planned (bare plan) is; log = blocks ∙ ap (λ (o : Option RingPlace). blocks_in o) c.in_default.is }

pub returns-in_default-clause-lies : goal.returns-in_default-clause-lies
returns-in_default-clause-lies g c = λ f geometry rows index var log few. record { table = c.in_ok-table.ensures.lies f geometry rows index var few; log = λ l is. absurd (none-some l is) }

-- ---- with one

pub plan-requires-2-clause-blocks : goal.plan-requires-2-clause-blocks
plan-requires-2-clause-blocks g c =
    three-blocks c.in-Some.place (logged-fits c.args.log c.args.config.now c.in-Some.place c.in-Some.is c.in_ok-check_with.ensures.refusal).log_size

pub invariant_of-result-2 : goal.invariant_of-result-2
invariant_of-result-2 g c = record {
  running = λ l is up. absurd (both_ways (table_words.is_running c.in_ok-table.table) c.in_ok-table.ensures.fresh.0 up);
  no_blobs = λ some.
      c.in_ok-table.ensures.shape.0
      ∙ few-var c.args.config.now.var (logged-fits c.args.log c.args.config.now c.in-Some.place c.in-Some.is c.in_ok-check_with.ensures.refusal).no_blobs;
  room = λ l is.
      subst (λ (x : RecordLog). layout_len (layout_in c.in_ok-table.table) + 24 ≤ page_len x) (same_Some _ _ is)
      (let page : page_len c.in_ok-log.log ≡ c.args.config.now.geometry.page = ap (λ (r : Shape). r.size) c.in_ok-log.ensures.shape in omega (arith, c.in_ok-table.ensures.shape.1, page));
}

pub returns-clause-planned : goal.returns-clause-planned
returns-clause-planned g c = λ plan is blocks first. record {
  table = c.in_ok-table.ensures.planned (bare plan) is;
  log = subst (λ (n : ℕ). IsPlanned c.in_ok-log.log n plan) (subst (λ (o : Option RingPlace). IfSome o (λ place. place.first_block ≡ c.args.config.now.rows.first_block + blocks_of (bare plan))) c.in-Some.is first)
      (c.in_ok-log.ensures.planned plan (sym (ap (λ (p : Plan). p.geometry) is.is)) (blocks ∙ ap (λ (o : Option RingPlace). blocks_in o) c.in-Some.is));
}

pub returns-clause-lies : goal.returns-clause-lies
returns-clause-lies g c = λ f geometry rows index var log few. record {
  table = c.in_ok-table.ensures.lies f geometry rows index var few;
  log = λ l is.
      subst (λ (x : RecordLog). LiesOn x f) (same_Some _ _ is)
      (c.in_ok-log.ensures.lies f geometry (subst (λ (o : Option RingPlace). IfSome o (λ place. place.first_block + place.blocks ≤ f.blocks)) c.in-Some.is log) few);
}

pub invariant_of-table : goal.invariant_of-table
invariant_of-table g c =
    let t = c.in_ok-table.table in
    record {
      few_knots = t.few_knots;
      few_slots = t.few_slots;
      served = t.served;
      some_blocks = t.some_blocks;
      few_blocks = t.few_blocks;
      some_columns = t.some_columns;
      few_columns = t.few_columns;
      some_row = t.some_row;
      room_for_row = t.room_for_row;
      has_blobs = t.has_blobs;
      blobs_fit = t.blobs_fit;
      page = t.page;
      rows_end = t.rows_end;
      rows_room = t.rows_room;
      blank_rest = t.blank_rest;
      counted = t.counted;
      lies = t.lies;
      left = t.left;
      few_pages = t.few_pages;
      running = t.running;
      follow = t.follow;
      pages_left = t.pages_left;
      blobs_running = t.blobs_running;
      blobs_left = t.blobs_left;
    }

-- ---- an error says nothing of a table

pub returns-in_err-check_with-clause-fits : goal.returns-in_err-check_with-clause-fits
returns-in_err-check_with-clause-fits g c = let p = err_from_is_err_and c.from_residual.result c.from_residual.ensures.1 in rw p.1 tt

pub returns-in_err-check_with-clause-planned : goal.returns-in_err-check_with-clause-planned
returns-in_err-check_with-clause-planned g c = let p = err_from_is_err_and c.from_residual.result c.from_residual.ensures.1 in rw p.1 tt

pub returns-in_err-check_with-clause-log : goal.returns-in_err-check_with-clause-log
returns-in_err-check_with-clause-log g c = let p = err_from_is_err_and c.from_residual.result c.from_residual.ensures.1 in rw p.1 tt

pub returns-in_err-check_with-clause-lies : goal.returns-in_err-check_with-clause-lies
returns-in_err-check_with-clause-lies g c = let p = err_from_is_err_and c.from_residual.result c.from_residual.ensures.1 in rw p.1 tt

pub returns-in_err-check_with-clause-fresh : goal.returns-in_err-check_with-clause-fresh
returns-in_err-check_with-clause-fresh g c = let p = err_from_is_err_and c.from_residual.result c.from_residual.ensures.1 in rw p.1 tt

pub returns-in_err-table-clause-fits : goal.returns-in_err-table-clause-fits
returns-in_err-table-clause-fits g c = let p = err_from_is_err_and c.from_residual-in_err-table.result c.from_residual-in_err-table.ensures.1 in rw p.1 tt

pub returns-in_err-table-clause-planned : goal.returns-in_err-table-clause-planned
returns-in_err-table-clause-planned g c = let p = err_from_is_err_and c.from_residual-in_err-table.result c.from_residual-in_err-table.ensures.1 in rw p.1 tt

pub returns-in_err-table-clause-log : goal.returns-in_err-table-clause-log
returns-in_err-table-clause-log g c = let p = err_from_is_err_and c.from_residual-in_err-table.result c.from_residual-in_err-table.ensures.1 in rw p.1 tt

pub returns-in_err-table-clause-lies : goal.returns-in_err-table-clause-lies
returns-in_err-table-clause-lies g c = let p = err_from_is_err_and c.from_residual-in_err-table.result c.from_residual-in_err-table.ensures.1 in rw p.1 tt

pub returns-in_err-table-clause-fresh : goal.returns-in_err-table-clause-fresh
returns-in_err-table-clause-fresh g c = let p = err_from_is_err_and c.from_residual-in_err-table.result c.from_residual-in_err-table.ensures.1 in rw p.1 tt

pub returns-in_err-log-clause-fits : goal.returns-in_err-log-clause-fits
returns-in_err-log-clause-fits g c = let p = err_from_is_err_and c.from_residual-in_err-log.result c.from_residual-in_err-log.ensures.1 in rw p.1 tt

pub returns-in_err-log-clause-planned : goal.returns-in_err-log-clause-planned
returns-in_err-log-clause-planned g c = let p = err_from_is_err_and c.from_residual-in_err-log.result c.from_residual-in_err-log.ensures.1 in rw p.1 tt

pub returns-in_err-log-clause-log : goal.returns-in_err-log-clause-log
returns-in_err-log-clause-log g c = let p = err_from_is_err_and c.from_residual-in_err-log.result c.from_residual-in_err-log.ensures.1 in rw p.1 tt

pub returns-in_err-log-clause-lies : goal.returns-in_err-log-clause-lies
returns-in_err-log-clause-lies g c = let p = err_from_is_err_and c.from_residual-in_err-log.result c.from_residual-in_err-log.ensures.1 in rw p.1 tt

pub returns-in_err-log-clause-fresh : goal.returns-in_err-log-clause-fresh
returns-in_err-log-clause-fresh g c = let p = err_from_is_err_and c.from_residual-in_err-log.result c.from_residual-in_err-log.ensures.1 in rw p.1 tt

pub returns-in_default-clause-log : goal.returns-in_default-clause-log
returns-in_default-clause-log g c = sym c.in_default.is

pub returns-in_default-clause-fresh : goal.returns-in_default-clause-fresh
returns-in_default-clause-fresh g c = c.in_ok-table.ensures.fresh

pub returns-clause-fresh : goal.returns-clause-fresh
returns-clause-fresh g c = c.in_ok-table.ensures.fresh

pub returns-clause-log : goal.returns-clause-log
returns-clause-log g c = ap Some c.in_ok-log.ensures.place ∙ sym c.in-Some.is
