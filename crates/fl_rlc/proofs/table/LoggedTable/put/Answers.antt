use Rattle.std.proofs.Common.{◌≡◌, ℕ, ◌+◌, ◌≤◌, Bool, true, false, not, ◌&&◌, ◌||◌, Bor, List, Option, None, Result, Ok, Err, length, option_map, refl, sym, ◌∙◌, ap, subst, arith}
use Rattle.std.proofs.lemmas.Result.{err_from_is_err_and}
use Rattle.std.specs.Prelude.{IsTrue}
use Rattle.std.proofs.lemmas.Option.{none-some}
use Rattle.std.proofs.Math.Bool.{and-false, and-true}
use Rattle.std.proofs.lemmas.Bool.{and_parts, both_ways}
use Rattle.fl_flash.specs.Flash.{FlashState, page_at}
use Rattle.fl_flash.specs.declared.flash.FlashFault.{FlashFault}
use Rattle.fl_flash.specs.declared.flash.FlashFault.TheVariants.{PowerLost}
use Rattle.fl_frame.proofs.CallsInTurn.{goes-then}
use Rattle.fl_model.specs.Bare.{bare, bare_table, log_of, beside}
use Rattle.fl_model.specs.Record.{Record, RowLayout, blocks_of}
use Rattle.fl_model.specs.Table.{put_record}
use Rattle.fl_frame.proofs.WatchedInTurn.{watched-first, watched-then, cause-later}
use Rattle.fl_table.proofs.PutAnswers.{map-twice}
use Rattle.fl_schema.specs.Schema.{layout_of}
use Rattle.fl_table.specs.Refusal.{RefusesAs}
use Rattle.fl_table.specs.declared.faults.PutRefusal.{PutRefusal}
use Rattle.fl_table.specs.declared.faults.PutRefusal.TheVariants as put
use Rattle.fl_parts.specs.Blobs.{most_pages, pages_for}
use Rattle.fl_table.specs.Memory.{HasRoom}
use Rattle.fl_rlc.specs.Refusal.{put_refusal, NeedsNoOperation}
use Rattle.fl_rlc.specs.Rows.{RowEnds, HaveLogged}
use Rattle.fl_rlc.proofs.PutEnded.{logged-refused, logged-accepted, failed-ends, row-failed, row-done, bare-none, log-none}
use Rattle.fl_rlc.proofs.PutFrames.{log-self, log-lies, blobs-same, room-same, logged-calm, refused-same, flash-alone, log-outside, some-same}
use Rattle.fl_frame.proofs.ReadsInTurn.{no_reads}
use Rattle.fl_model.specs.Record.{layout_len}
use Rattle.fl_model.specs.Row.{FitsRow}
use Rattle.fl_rlc.specs.Memory.{page_len}
use Rattle.fl_rlc.specs.Table.{is_logged, is_running, is_stopped, rings_in, MayPut}
use Rattle.fl_ring.proofs.Written.{writes-none}
use Rattle.fl_rlc.proofs.Written.{logged-writes, page-logged, table-writes}
use Rattle.fl_rlc.proofs.Paged.{put-logged}
use Rattle.fl_rlc.proofs.PowerOff.{idle-put}
use Rattle.fl_table.proofs.Refusals.{told-running, fits-row, calm-cause}
use Rattle.fl_table.proofs.SealAnswers.{plan-self, same-then}
use Rattle.fl_parts.proofs.Sizes.{table-fits}
use Rattle.fl_table.proofs.ReadsKeepTable.{lies-moved}
use Rattle.fl_table.specs.Memory as table_words
use Rattle.fl_rlc.proofs.Sizes.{logged-fits}
use Rattle.fl_rlc.proofs.table.LoggedTable.put.Goals as goal

not-done : (e : PutRefusal) → ◌≡◌ {A = Result (Unit {0}) PutRefusal} (Err e) (Ok tt) → ⊥
not-done e k = cc

-- ---- a refusal

pub returns-in-Some-clause-put : goal.returns-in-Some-clause-put
returns-in-Some-clause-put g c = λ first plan table rose device watched h.
    let t = c.args.self.now in
    let f = g.F.Flash.state c.args.flash.now in
    let bytes = option_map (λ (b : Bor (List ℕ)). b.now) c.args.blob in
    let same = map-twice (λ (b : Bor (List ℕ)). b.now) (λ (xs : List ℕ). length xs) c.args.blob in
    logged-refused t f first plan table h c.args.key c.args.values.now bytes rose device c.in-Some.refusal
    (ap (put_refusal t c.args.key c.args.values.now) same ∙ (sym c.refusal.ensures ∙ c.in-Some.is)) t f f

pub returns-in-Some-clause-exact : goal.returns-in-Some-clause-exact
returns-in-Some-clause-exact g c = subst (λ (o : Option PutRefusal). RefusesAs o (Err c.in-Some.refusal)) (sym (sym c.refusal.ensures ∙ c.in-Some.is)) refl

pub returns-in-Some-clause-table : goal.returns-in-Some-clause-table
returns-in-Some-clause-table g c = record {
  same = record { table = plan-self c.args.self.now.table; log = log-self c.args.self.now.log };
  lies = c.requires.lies;
  stopped =
      let t = c.args.self.now in
      ap (λ b. b || is_stopped t) (sym (logged-calm t c.args.key c.args.values.now _ c.in-Some.refusal (sym c.refusal.ensures ∙ c.in-Some.is)));
  running =
      let t = c.args.self.now in
      sym (and-true (is_running t)) ∙ ap (λ b. is_running t && not b) (sym (logged-calm t c.args.key c.args.values.now _ c.in-Some.refusal (sym c.refusal.ensures ∙ c.in-Some.is)));
}

pub returns-in-Some-clause-memory : goal.returns-in-Some-clause-memory
returns-in-Some-clause-memory g c = record {
  refused = refused-same c.args.self.now (g.F.Flash.state c.args.flash.now) c.in-Some.refusal;
  last = tt;
  stores = tt;
  logs = tt;
}

pub returns-in-Some-clause-pages : goal.returns-in-Some-clause-pages
returns-in-Some-clause-pages g c = record {
  quiet = λ none. absurd (none-some c.in-Some.refusal (sym none ∙ (sym c.refusal.ensures ∙ c.in-Some.is)));
  off = λ none. absurd (none-some c.in-Some.refusal (sym none ∙ (sym c.refusal.ensures ∙ c.in-Some.is)));
  sealed = tt;
  log_page = tt;
}

pub returns-in-Some-clause-flash : goal.returns-in-Some-clause-flash
returns-in-Some-clause-flash g c = record {
  goes = (no_reads (g.F.Flash.state c.args.flash.now)).goes;
  power = tt;
  writes =
      let t = c.args.self.now in
      let bytes = option_map (λ (b : Bor (List ℕ)). b.now) c.args.blob in
      writes-none (MayPut t bytes) (rings_in t + most_pages t.table.blobs bytes) (g.F.Flash.state c.args.flash.now);
  outside = λ told page rows index var log. refl;
  reads = refl;
  media_reads = omega arith;
  cause =
      calm-cause (g.F.Flash.state c.args.flash.now) c.in-Some.refusal (logged-calm c.args.self.now c.args.key c.args.values.now _ c.in-Some.refusal (sym c.refusal.ensures ∙ c.in-Some.is));
}

-- ---- the table's put fails

pub returns-in_err-put-clause-put : goal.returns-in_err-put-clause-put
returns-in_err-put-clause-put g c = λ first plan table rose device watched h.
    let t = c.args.self.now in
    let f = g.F.Flash.state c.args.flash.now in
    let new = g.F.Flash.state c.put.new.flash in
    let bytes = option_map (λ (b : Bor (List ℕ)). b.now) c.args.blob in
    let same = map-twice (λ (b : Bor (List ℕ)). b.now) (λ (xs : List ℕ). length xs) c.args.blob in
    let none : put_refusal t c.args.key c.args.values.now (option_map (λ (b : Bor (List ℕ)). length b.now) c.args.blob) ≡ None = sym c.refusal.ensures ∙ c.in_default.is in
    let ok = logged-accepted t f first plan table h c.args.key c.args.values.now bytes (ap (put_refusal t c.args.key c.args.values.now) same ∙ none) in
    let e = c.in_err-put.field-0.0 in
    let p = err_from_is_err_and c.from_residual.result c.from_residual.ensures.1 in
    rw (p.1, p.2) (failed-ends t f first plan table h c.args.key c.args.values.now bytes rose device ok c.put.new.self _ new e
    (subst (λ (o : Option PutRefusal). RefusesAs o (Err e)) (bare-none t c.args.key c.args.values.now _ none) c.in_err-put.ensures.exact) (c.in_err-put.ensures.flash.outside watched.told)
    (c.in_err-put.ensures.put first (bare plan) (bare_table table) rose device watched h.unlogged))

pub returns-in_err-put-clause-exact : goal.returns-in_err-put-clause-exact
returns-in_err-put-clause-exact g c =
    let t = c.args.self.now in
    let none : put_refusal t c.args.key c.args.values.now (option_map (λ (b : Bor (List ℕ)). length b.now) c.args.blob) ≡ None = sym c.refusal.ensures ∙ c.in_default.is in
    let p = err_from_is_err_and c.from_residual.result c.from_residual.ensures.1 in
    rw (p.1, p.2) (subst (λ (o : Option PutRefusal). RefusesAs o (Err c.in_err-put.field-0.0)) (sym none)
    (subst (λ (o : Option PutRefusal). RefusesAs o (Err c.in_err-put.field-0.0)) (bare-none t c.args.key c.args.values.now _ none) c.in_err-put.ensures.exact))

pub returns-in_err-put-clause-table : goal.returns-in_err-put-clause-table
returns-in_err-put-clause-table g c = record {
  same = record { table = c.in_err-put.ensures.table.same; log = log-self c.args.self.now.log };
  lies = record {
    table = c.in_err-put.ensures.table.lies;
    log = log-lies c.args.self.now.log (g.F.Flash.state c.args.flash.now) (g.F.Flash.state c.put.new.flash) c.in_err-put.ensures.flash.goes c.requires.lies.log;
  };
  stopped = let p = err_from_is_err_and c.from_residual.result c.from_residual.ensures.1 in rw (p.1, p.2) c.in_err-put.ensures.table.stopped;
  running = let p = err_from_is_err_and c.from_residual.result c.from_residual.ensures.1 in rw (p.1, p.2) c.in_err-put.ensures.table.running;
}

pub returns-in_err-put-clause-memory : goal.returns-in_err-put-clause-memory
returns-in_err-put-clause-memory g c = record {
  refused =
      let t = c.args.self.now in
      let none : put_refusal t c.args.key c.args.values.now (option_map (λ (b : Bor (List ℕ)). length b.now) c.args.blob) ≡ None = sym c.refusal.ensures ∙ c.in_default.is in
      let p = err_from_is_err_and c.from_residual.result c.from_residual.ensures.1 in
      rw (p.1, p.2) (flash-alone t _ (g.F.Flash.state c.args.flash.now) (g.F.Flash.state c.put.new.flash) c.in_err-put.field-0.0
      (subst (λ (o : Option PutRefusal). RefusesAs o (Err c.in_err-put.field-0.0)) (bare-none t c.args.key c.args.values.now _ none) c.in_err-put.ensures.exact));
  last =
      let p = err_from_is_err_and c.from_residual.result c.from_residual.ensures.1 in
      rw p.1 tt;
  stores = let p = err_from_is_err_and c.from_residual.result c.from_residual.ensures.1 in rw p.1 tt;
  logs =
      let p = err_from_is_err_and c.from_residual.result c.from_residual.ensures.1 in
      rw p.1 tt;
}

pub returns-in_err-put-clause-pages : goal.returns-in_err-put-clause-pages
returns-in_err-put-clause-pages g c = record {
  quiet = λ none idle.
      absurd (not-done c.in_err-put.field-0.0 (c.in_err-put.ensures.page.quiet (bare-none c.args.self.now c.args.key c.args.values.now _ none) idle.room idle.pages).0);
  off = λ none busy down.
      let alone = bare-none c.args.self.now c.args.key c.args.values.now _ none in
      let p = err_from_is_err_and c.from_residual.result c.from_residual.ensures.1 in
      rw (p.1, p.2) (c.in_err-put.ensures.page.off alone (λ room pages. not-done c.in_err-put.field-0.0 (c.in_err-put.ensures.page.quiet alone room pages).0) down);
  sealed = let p = err_from_is_err_and c.from_residual.result c.from_residual.ensures.1 in rw p.1 tt;
  log_page = let p = err_from_is_err_and c.from_residual.result c.from_residual.ensures.1 in rw p.1 tt;
}

pub returns-in_err-put-clause-flash : goal.returns-in_err-put-clause-flash
returns-in_err-put-clause-flash g c = record {
  goes = c.in_err-put.ensures.flash.goes;
  power =
      let p = err_from_is_err_and c.from_residual.result c.from_residual.ensures.1 in
      rw p.1 tt;
  writes =
      table-writes c.args.self.now (option_map (λ (b : Bor (List ℕ)). b.now) c.args.blob) (g.F.Flash.state c.args.flash.now) (g.F.Flash.state c.put.new.flash) c.in_err-put.ensures.flash.writes;
  outside = λ told page rows index var log. c.in_err-put.ensures.flash.outside told page rows index var;
  reads = c.in_err-put.ensures.flash.reads;
  media_reads = omega (arith, c.in_err-put.ensures.flash.media_reads);
  cause = let p = err_from_is_err_and c.from_residual.result c.from_residual.ensures.1 in rw (p.1, p.2) c.in_err-put.ensures.flash.cause;
}

-- ---- the log fails

pub returns-in-Err-clause-put : goal.returns-in-Err-clause-put
returns-in-Err-clause-put g c = λ first plan table rose device watched h.
    let t = c.args.self.now in
    let f = g.F.Flash.state c.args.flash.now in
    let mid = g.F.Flash.state c.put.new.flash in
    let new = g.F.Flash.state c.log_row.new.flash in
    let bytes = option_map (λ (b : Bor (List ℕ)). b.now) c.args.blob in
    let same = map-twice (λ (b : Bor (List ℕ)). b.now) (λ (xs : List ℕ). length xs) c.args.blob in
    let none : put_refusal t c.args.key c.args.values.now (option_map (λ (b : Bor (List ℕ)). length b.now) c.args.blob) ≡ None = sym c.refusal.ensures ∙ c.in_default.is in
    let ok = logged-accepted t f first plan table h c.args.key c.args.values.now bytes (ap (put_refusal t c.args.key c.args.values.now) same ∙ none) in
    let item : Record = record { key = c.args.key; values = c.args.values.now; blob = option_map (λ (b : Bor (List ℕ)). b.now) c.args.blob } in
    let p = (c.in_ok-put.ensures.put first (bare plan) (bare_table table) rose device (watched-first f mid new rose device watched c.log_row.ensures.goes) h.unlogged).1 in
    let Q = beside (log_of table) (put_record (bare plan) item (bare_table table)) in
    let ends = c.log_row.ensures.ends (first + blocks_of (bare plan)) plan Q rose p.now.device in
    row-failed t f first plan table h c.args.key c.args.values.now bytes rose device ok c.put.new.self mid new p (c.in_ok-put.ensures.flash.outside watched.told)
    (watched-then f mid new rose device p.now.device watched c.in_ok-put.ensures.flash.goes p.power p.counts) t c.in-Err.fault c.log_row.new.log (c.log_row.ensures.outside (subst IsTrue (sym c.in_ok-put.ensures.flash.goes.tells) watched.told))
    (subst (λ (l : RowLayout). RowEnds t.log mid (first + blocks_of (bare plan)) plan Q l (record { key = c.args.key; values = c.args.values.now; blob = None }) rose p.now.device (Err c.in-Err.fault) c.log_row.new.log new) c.schema.ensures.exact
    (subst (λ (r : Result (Unit {0}) FlashFault). RowEnds t.log mid (first + blocks_of (bare plan)) plan Q (layout_of c.schema.result.now) (record { key = c.args.key; values = c.args.values.now; blob = None }) rose p.now.device r c.log_row.new.log new) c.in-Err.is ends))

pub returns-in-Err-clause-exact : goal.returns-in-Err-clause-exact
returns-in-Err-clause-exact g c =
    subst (λ (o : Option PutRefusal). RefusesAs o (Err (put.Flash c.in-Err.fault))) (sym (sym c.refusal.ensures ∙ c.in_default.is)) tt

pub returns-in-Err-clause-table : goal.returns-in-Err-clause-table
returns-in-Err-clause-table g c = record {
  same = record { table = same-then c.args.self.now.table c.put.new.self c.stop.new.self c.in_ok-put.ensures.table.same c.stop.ensures.same; log = c.log_row.ensures.same };
  lies = record {
    table = c.stop.ensures.lies (g.F.Flash.state c.log_row.new.flash) (lies-moved c.put.new.self (g.F.Flash.state c.put.new.flash) (g.F.Flash.state c.log_row.new.flash) c.log_row.ensures.goes c.in_ok-put.ensures.table.lies);
    log = c.log_row.ensures.lies;
  };
  stopped =
      let t = c.args.self.now in
      let none : put_refusal t c.args.key c.args.values.now (option_map (λ (b : Bor (List ℕ)). length b.now) c.args.blob) ≡ None = sym c.refusal.ensures ∙ c.in_default.is in
      let running = told-running t.table c.args.key c.args.values.now _ (bare-none t c.args.key c.args.values.now _ none) in
      c.stop.ensures.stopped ∙ ap (λ b. b || table_words.is_stopped c.put.new.self) (c.in_ok-put.ensures.table.running ∙ ap (λ b. b && true) running);
  running = c.stop.ensures.running ∙ sym (and-false (is_running c.args.self.now));
}

pub returns-in-Err-clause-memory : goal.returns-in-Err-clause-memory
returns-in-Err-clause-memory g c = record {
  refused = tt;
  last = tt;
  stores = tt;
  logs = tt;
}

pub returns-in-Err-clause-pages : goal.returns-in-Err-clause-pages
returns-in-Err-clause-pages g c = record {
  quiet = λ none idle. absurd (both_ways (is_logged c.args.self.now) idle.unlogged c.in-Err.ensures.logged);
  off = λ none busy down.
      let t = c.args.self.now in
      let alone = bare-none t c.args.key c.args.values.now _ none in
      let still = idle-put t.table (option_map (λ (b : Bor (List ℕ)). b.now) c.args.blob) (g.F.Flash.state c.args.flash.now) (g.F.Flash.state c.put.new.flash) c.in_ok-put.field-0 (c.in_ok-put.ensures.page.quiet alone) (c.in_ok-put.ensures.page.off alone) down in
      let h = c.in-Err.ensures.off c.in-Err.ensures.logged (ap (λ (x : FlashState). x.is_on) still.2 ∙ down) in
      (ap (λ (e : FlashFault). Err (put.Flash e)) (same h.0), h.1 ∙ still.2);
  sealed = tt;
  log_page = tt;
}
  where
    same : ◌≡◌ {A = Result (Unit {0}) FlashFault} (Err c.in-Err.fault) (Err PowerLost) → c.in-Err.fault ≡ PowerLost
    same e = cc

pub returns-in-Err-clause-flash : goal.returns-in-Err-clause-flash
returns-in-Err-clause-flash g c = record {
  goes = goes-then (g.F.Flash.state c.args.flash.now) (g.F.Flash.state c.put.new.flash) (g.F.Flash.state c.log_row.new.flash) c.in_ok-put.ensures.flash.goes c.log_row.ensures.goes;
  power = tt;
  writes =
      logged-writes c.args.self.now (option_map (λ (b : Bor (List ℕ)). b.now) c.args.blob) 0 (g.F.Flash.state c.args.flash.now) (g.F.Flash.state c.put.new.flash) (g.F.Flash.state c.log_row.new.flash)
      c.in_ok-put.ensures.flash.goes.tells c.in_ok-put.ensures.flash.writes c.log_row.ensures.writes;
  outside = λ told page rows index var log.
      log-outside c.args.self.now.log (page_at (g.F.Flash.state c.put.new.flash)) (page_at (g.F.Flash.state c.log_row.new.flash)) page (c.log_row.ensures.outside (subst IsTrue (sym c.in_ok-put.ensures.flash.goes.tells) told)) log
      ∙ c.in_ok-put.ensures.flash.outside told page rows index var;
  reads = c.log_row.ensures.reads ∙ c.in_ok-put.ensures.flash.reads;
  media_reads = omega (arith, c.log_row.ensures.media_reads, c.in_ok-put.ensures.flash.media_reads);
  cause =
      cause-later (g.F.Flash.state c.args.flash.now) (g.F.Flash.state c.put.new.flash) (g.F.Flash.state c.log_row.new.flash) c.in_ok-put.ensures.flash.goes c.in_ok-put.ensures.flash.power c.in-Err.fault c.in-Err.ensures.cause;
}

-- ---- it is done

pub returns-clause-put : goal.returns-clause-put
returns-clause-put g c = λ first plan table rose device watched h.
    let t = c.args.self.now in
    let f = g.F.Flash.state c.args.flash.now in
    let mid = g.F.Flash.state c.put.new.flash in
    let new = g.F.Flash.state c.log_row.new.flash in
    let bytes = option_map (λ (b : Bor (List ℕ)). b.now) c.args.blob in
    let same = map-twice (λ (b : Bor (List ℕ)). b.now) (λ (xs : List ℕ). length xs) c.args.blob in
    let none : put_refusal t c.args.key c.args.values.now (option_map (λ (b : Bor (List ℕ)). length b.now) c.args.blob) ≡ None = sym c.refusal.ensures ∙ c.in_default.is in
    let ok = logged-accepted t f first plan table h c.args.key c.args.values.now bytes (ap (put_refusal t c.args.key c.args.values.now) same ∙ none) in
    let item : Record = record { key = c.args.key; values = c.args.values.now; blob = option_map (λ (b : Bor (List ℕ)). b.now) c.args.blob } in
    let p = (c.in_ok-put.ensures.put first (bare plan) (bare_table table) rose device (watched-first f mid new rose device watched c.log_row.ensures.goes) h.unlogged).1 in
    let Q = beside (log_of table) (put_record (bare plan) item (bare_table table)) in
    let ends = c.log_row.ensures.ends (first + blocks_of (bare plan)) plan Q rose p.now.device in
    row-done t f first plan table h c.args.key c.args.values.now bytes rose device ok c.put.new.self mid new p (c.in_ok-put.ensures.flash.outside watched.told)
    (watched-then f mid new rose device p.now.device watched c.in_ok-put.ensures.flash.goes p.power p.counts) _ refl (c.log_row.ensures.outside (subst IsTrue (sym c.in_ok-put.ensures.flash.goes.tells) watched.told))
    (subst (λ (l : RowLayout). RowEnds t.log mid (first + blocks_of (bare plan)) plan Q l (record { key = c.args.key; values = c.args.values.now; blob = None }) rose p.now.device (Ok tt) c.log_row.new.log new) c.schema.ensures.exact
    (subst (λ (r : Result (Unit {0}) FlashFault). RowEnds t.log mid (first + blocks_of (bare plan)) plan Q (layout_of c.schema.result.now) (record { key = c.args.key; values = c.args.values.now; blob = None }) rose p.now.device r c.log_row.new.log new) c.in_default-log_row.is ends))

pub returns-clause-exact : goal.returns-clause-exact
returns-clause-exact g c = subst (λ (o : Option PutRefusal). RefusesAs o (Ok tt)) (sym (sym c.refusal.ensures ∙ c.in_default.is)) tt

pub returns-clause-table : goal.returns-clause-table
returns-clause-table g c = record {
  same = record { table = c.in_ok-put.ensures.table.same; log = c.log_row.ensures.same };
  lies = record {
    table = lies-moved c.put.new.self (g.F.Flash.state c.put.new.flash) (g.F.Flash.state c.log_row.new.flash) c.log_row.ensures.goes c.in_ok-put.ensures.table.lies;
    log = c.log_row.ensures.lies;
  };
  stopped = c.in_ok-put.ensures.table.stopped;
  running = c.in_ok-put.ensures.table.running;
}

pub returns-clause-memory : goal.returns-clause-memory
returns-clause-memory g c = record {
  refused = tt;
  last = c.in_ok-put.ensures.memory.last;
  stores = c.in_ok-put.ensures.memory.stores;
  logs =
      subst (λ (l : RowLayout). HaveLogged l (record { key = c.args.key; values = c.args.values.now; blob = None }) c.args.self.now.log c.log_row.new.log)
      (c.schema.ensures.exact ∙ c.in_ok-put.ensures.table.same.layout) c.in_default-log_row.ensures.logs;
}

pub returns-clause-pages : goal.returns-clause-pages
returns-clause-pages g c = record {
  quiet = λ none idle.
      let still = c.in_ok-put.ensures.page.quiet (bare-none c.args.self.now c.args.key c.args.values.now _ none) idle.room idle.pages in
      (refl, (c.log_row.ensures.alone idle.unlogged).1 ∙ still.1);
  off = λ none busy down.
      let t = c.args.self.now in
      let alone = bare-none t c.args.key c.args.values.now _ none in
      let still = idle-put t.table (option_map (λ (b : Bor (List ℕ)). b.now) c.args.blob) (g.F.Flash.state c.args.flash.now) (g.F.Flash.state c.put.new.flash) c.in_ok-put.field-0 (c.in_ok-put.ensures.page.quiet alone) (c.in_ok-put.ensures.page.off alone) down in
      absurd (by-log (is_logged t) refl busy still (λ logged. (c.in_default-log_row.ensures.off logged (ap (λ (x : FlashState). x.is_on) still.2 ∙ down)).0));
  sealed = λ full.
      page-logged c.args.self.now (option_map (λ (b : Bor (List ℕ)). b.now) c.args.blob) (g.F.Flash.state c.args.flash.now) (g.F.Flash.state c.put.new.flash) (g.F.Flash.state c.log_row.new.flash)
      c.in_ok-put.ensures.flash.goes.tells (c.in_ok-put.ensures.page.sealed full) c.log_row.ensures.writes c.log_row.ensures.outside;
  log_page =
      put-logged c.args.self.now (layout_of c.schema.result.now) (record { key = c.args.key; values = c.args.values.now; blob = None }) (g.F.Flash.state c.args.flash.now) (g.F.Flash.state c.put.new.flash) (g.F.Flash.state c.log_row.new.flash)
      (c.schema.ensures.exact ∙ c.in_ok-put.ensures.table.same.layout) c.in_ok-put.ensures.flash.goes.tells c.in_ok-put.ensures.flash.outside c.in_default-log_row.ensures.page c.in_default-log_row.ensures.ahead;
}
  where
    no : ◌≡◌ {A = Result (Unit {0}) FlashFault} (Ok tt) (Err PowerLost) → ⊥
    no e = cc

    by-log : (b : Bool) → is_logged c.args.self.now ≡ b → (NeedsNoOperation c.args.self.now (option_map (λ (b : Bor (List ℕ)). b.now) c.args.blob) → ⊥) →
        HasRoom c.args.self.now.table × (pages_for c.args.self.now.table.blobs (option_map (λ (b : Bor (List ℕ)). b.now) c.args.blob) ≡ 0) × (g.F.Flash.state c.put.new.flash ≡ g.F.Flash.state c.args.flash.now) →
        (is_logged c.args.self.now ≡ true → ◌≡◌ {A = Result (Unit {0}) FlashFault} (Ok tt) (Err PowerLost)) → ⊥
    by-log true e busy still fails = no (fails e)
    by-log false e busy still fails = busy (record { unlogged = e; room = still.0; pages = still.1 })

pub returns-clause-flash : goal.returns-clause-flash
returns-clause-flash g c = record {
  goes = goes-then (g.F.Flash.state c.args.flash.now) (g.F.Flash.state c.put.new.flash) (g.F.Flash.state c.log_row.new.flash) c.in_ok-put.ensures.flash.goes c.log_row.ensures.goes;
  power = λ on. c.in_default-log_row.ensures.power (c.in_ok-put.ensures.flash.power on);
  writes =
      logged-writes c.args.self.now (option_map (λ (b : Bor (List ℕ)). b.now) c.args.blob) 0 (g.F.Flash.state c.args.flash.now) (g.F.Flash.state c.put.new.flash) (g.F.Flash.state c.log_row.new.flash)
      c.in_ok-put.ensures.flash.goes.tells c.in_ok-put.ensures.flash.writes c.log_row.ensures.writes;
  outside = λ told page rows index var log.
      log-outside c.args.self.now.log (page_at (g.F.Flash.state c.put.new.flash)) (page_at (g.F.Flash.state c.log_row.new.flash)) page (c.log_row.ensures.outside (subst IsTrue (sym c.in_ok-put.ensures.flash.goes.tells) told)) log
      ∙ c.in_ok-put.ensures.flash.outside told page rows index var;
  reads = c.log_row.ensures.reads ∙ c.in_ok-put.ensures.flash.reads;
  media_reads = omega (arith, c.log_row.ensures.media_reads, c.in_ok-put.ensures.flash.media_reads);
  cause = tt;
}

pub invariant_of-self : goal.invariant_of-self
invariant_of-self g c = record {
  running = λ l is up. c.args.self.now.running l is (and_parts (table_words.is_running c.args.self.now.table) _ (sym c.in_err-put.ensures.table.running ∙ up)).0;
  no_blobs = λ some. blobs-same c.args.self.now.table c.put.new.self c.in_err-put.ensures.table.same ∙ c.args.self.now.no_blobs some;
  room = room-same c.args.self.now.table c.put.new.self c.args.self.now.log c.args.self.now.log c.in_err-put.ensures.table.same (log-self c.args.self.now.log) c.args.self.now.room;
}

pub log_row-requires-clause-mounted : goal.log_row-requires-clause-mounted
log_row-requires-clause-mounted g c = λ l is.
    let t = c.args.self.now in
    let none : put_refusal t c.args.key c.args.values.now (option_map (λ (b : Bor (List ℕ)). length b.now) c.args.blob) ≡ None = sym c.refusal.ensures ∙ c.in_default.is in
    c.args.self.now.running l is (told-running t.table c.args.key c.args.values.now _ (bare-none t c.args.key c.args.values.now _ none))

pub log_row-requires-clause-lies : goal.log_row-requires-clause-lies
log_row-requires-clause-lies g c = log-lies c.args.self.now.log (g.F.Flash.state c.args.flash.now) (g.F.Flash.state c.put.new.flash) c.in_ok-put.ensures.flash.goes c.requires.lies.log

pub log_row-requires-clause-fits : goal.log_row-requires-clause-fits
log_row-requires-clause-fits g c =
    let t = c.args.self.now in
    let none : put_refusal t c.args.key c.args.values.now (option_map (λ (b : Bor (List ℕ)). length b.now) c.args.blob) ≡ None = sym c.refusal.ensures ∙ c.in_default.is in
    subst (λ (l : RowLayout). FitsRow l (record { key = c.args.key; values = c.args.values.now; blob = None })) (sym (c.schema.ensures.exact ∙ c.in_ok-put.ensures.table.same.layout))
    (fits-row t.table c.args.key c.args.values.now _ (bare-none t c.args.key c.args.values.now _ none))

pub log_row-requires-clause-room : goal.log_row-requires-clause-room
log_row-requires-clause-room g c = λ l is.
    subst (λ (r : RowLayout). layout_len r + 24 ≤ page_len l) (sym (c.schema.ensures.exact ∙ c.in_ok-put.ensures.table.same.layout)) (c.args.self.now.room l is)

pub log_row-requires-clause-left : goal.log_row-requires-clause-left
log_row-requires-clause-left g c =
    let t = c.args.self.now in
    let none : put_refusal t c.args.key c.args.values.now (option_map (λ (b : Bor (List ℕ)). length b.now) c.args.blob) ≡ None = sym c.refusal.ensures ∙ c.in_default.is in
    log-none t c.args.key c.args.values.now _ none

pub invariant_of-self-in-Err-clause-running : goal.invariant_of-self-in-Err-clause-running
invariant_of-self-in-Err-clause-running g c = λ l is up. absurd (both_ways (table_words.is_running c.stop.new.self) c.stop.ensures.running up)

pub invariant_of-self-in-Err-clause-no_blobs : goal.invariant_of-self-in-Err-clause-no_blobs
invariant_of-self-in-Err-clause-no_blobs g c = λ some.
    blobs-same c.put.new.self c.stop.new.self c.stop.ensures.same
    ∙ (blobs-same c.args.self.now.table c.put.new.self c.in_ok-put.ensures.table.same ∙ c.args.self.now.no_blobs (some-same c.args.self.now.log c.log_row.new.log c.log_row.ensures.same some))

pub invariant_of-self-in-Err-clause-room : goal.invariant_of-self-in-Err-clause-room
invariant_of-self-in-Err-clause-room g c =
    room-same c.args.self.now.table c.stop.new.self c.args.self.now.log c.log_row.new.log (same-then c.args.self.now.table c.put.new.self c.stop.new.self c.in_ok-put.ensures.table.same c.stop.ensures.same) c.log_row.ensures.same c.args.self.now.room

pub invariant_of-self-in_default-log_row-clause-running : goal.invariant_of-self-in_default-log_row-clause-running
invariant_of-self-in_default-log_row-clause-running g c = λ l is up. c.in_default-log_row.ensures.mounted l is

pub invariant_of-self-in_default-log_row-clause-no_blobs : goal.invariant_of-self-in_default-log_row-clause-no_blobs
invariant_of-self-in_default-log_row-clause-no_blobs g c = λ some.
    blobs-same c.args.self.now.table c.put.new.self c.in_ok-put.ensures.table.same ∙ c.args.self.now.no_blobs (some-same c.args.self.now.log c.log_row.new.log c.log_row.ensures.same some)

pub invariant_of-self-in_default-log_row-clause-room : goal.invariant_of-self-in_default-log_row-clause-room
invariant_of-self-in_default-log_row-clause-room g c = room-same c.args.self.now.table c.put.new.self c.args.self.now.log c.log_row.new.log c.in_ok-put.ensures.table.same c.log_row.ensures.same c.args.self.now.room

pub refusal-requires : goal.refusal-requires
refusal-requires g c = logged-fits g.row.KNOTS g.row.SLOTS c.args.self.now.table.few_knots c.args.self.now.table.few_slots

pub put-requires : goal.put-requires
put-requires g c = (table-fits g.row.KNOTS g.row.SLOTS c.args.self.now.table.few_knots c.args.self.now.table.few_slots, c.requires.lies.table)

pub schema-requires : goal.schema-requires
schema-requires g c = table-fits g.row.KNOTS g.row.SLOTS c.args.self.now.table.few_knots c.args.self.now.table.few_slots

pub stop-requires : goal.stop-requires
stop-requires g c = table-fits g.row.KNOTS g.row.SLOTS c.args.self.now.table.few_knots c.args.self.now.table.few_slots
