use Rattle.std.proofs.Common.{◌≡◌, ◌≤◌, true, Result, Ok, Err, refl, sym, ◌∙◌, arith}
use Rattle.std.proofs.lemmas.Result.{err_from_is_err_and}
use Rattle.std.specs.Prelude.{OnOk}
use Rattle.std.proofs.lemmas.Bool.{and_parts}
use Rattle.fl_model.specs.Bare.{bare, bare_table}
use Rattle.fl_parts.proofs.Sizes.{table-fits}
use Rattle.fl_flash.specs.declared.flash.FlashFault.TheVariants.{PowerLost}
use Rattle.fl_table.specs.Memory as table_words
use Rattle.fl_table.specs.Memory.{pending_in}
use Rattle.fl_table.specs.declared.faults.FlushFault.{FlushFault}
use Rattle.fl_table.specs.declared.faults.FlushFault.TheVariants as flush
use Rattle.fl_rlc.specs.Rows.{AreBegun}
use Rattle.fl_rlc.proofs.FlushEnded.{flush-done, flush-failed, flush-idle, begun-emptied}
use Rattle.fl_rlc.proofs.PutFrames.{logged-same, log-self, log-lies, blobs-same, room-same, some-same, begun-same, begun-lies, begun-mounted}
use Rattle.fl_rlc.proofs.table.LoggedTable.flush.Goals as goal

not-done : (e : FlushFault) → ◌≡◌ {A = Result (Unit {0}) FlushFault} (Err e) (Ok tt) → ⊥
not-done e k = cc

-- ---- nothing is pending

pub returns-then-pending_rows-eq0-clause-flush : goal.returns-then-pending_rows-eq0-clause-flush
returns-then-pending_rows-eq0-clause-flush g c = λ first plan table rose device watched h.
    let t = c.args.self.now in
    let f = g.F.Flash.state c.args.flash.now in
    let new = g.F.Flash.state c.flush.new.flash in
    flush-idle t f first plan table h rose device new (c.flush.ensures.flash.outside watched.told) _ c.flush.new.self refl refl (sym (c.pending_rows.ensures.stands f first (bare plan) (bare_table table) h.unlogged) ∙ c.if-pending_rows-eq0.true) c.flush.result (c.flush.ensures.flush first (bare plan) (bare_table table) rose device watched h.unlogged)

pub returns-then-pending_rows-eq0-clause-exact : goal.returns-then-pending_rows-eq0-clause-exact
returns-then-pending_rows-eq0-clause-exact g c = c.flush.ensures.exact

pub returns-then-pending_rows-eq0-clause-table : goal.returns-then-pending_rows-eq0-clause-table
returns-then-pending_rows-eq0-clause-table g c = record {
  same = record { table = c.flush.ensures.table.same; log = log-self c.args.self.now.log };
  lies = record {
    table = c.flush.ensures.table.lies;
    log = log-lies c.args.self.now.log (g.F.Flash.state c.args.flash.now) (g.F.Flash.state c.flush.new.flash) c.flush.ensures.flash.goes c.requires.lies.log;
  };
  stopped = c.flush.ensures.table.stopped;
  running = c.flush.ensures.table.running;
}

pub returns-then-pending_rows-eq0-clause-memory : goal.returns-then-pending_rows-eq0-clause-memory
returns-then-pending_rows-eq0-clause-memory g c = record {
  refused = λ stopped. (c.flush.ensures.memory.refused stopped, refl);
  last = c.flush.ensures.memory.last;
  none = c.flush.ensures.memory.none;
  seals = c.flush.ensures.memory.seals;
  begins = idle c.flush.result;
}
  where
    idle : (r : Result (Unit {0}) FlushFault) → OnOk r (1 ≤ pending_in c.args.self.now.table → AreBegun c.args.self.now.log c.args.self.now.log)
    idle (Ok done) = λ some. absurd (omega (arith, some, c.pending_rows.ensures.exact, c.if-pending_rows-eq0.true))
    idle (Err e) = tt

pub returns-then-pending_rows-eq0-clause-page : goal.returns-then-pending_rows-eq0-clause-page
returns-then-pending_rows-eq0-clause-page g c = record {
  quiet = λ running none. let h = c.flush.ensures.page.quiet running none in (h.0, logged-same c.args.self.now _ h.1 refl, h.2);
  off = c.flush.ensures.page.off;
  sealed = c.flush.ensures.page.sealed;
}

pub returns-then-pending_rows-eq0-clause-flash : goal.returns-then-pending_rows-eq0-clause-flash
returns-then-pending_rows-eq0-clause-flash g c = record {
  goes = c.flush.ensures.flash.goes;
  power = c.flush.ensures.flash.power;
  writes = c.flush.ensures.flash.writes;
  outside = λ told page rows index var log. c.flush.ensures.flash.outside told page rows index var;
  reads = c.flush.ensures.flash.reads;
  media_reads = c.flush.ensures.flash.media_reads;
  cause = c.flush.ensures.flash.cause;
}

-- ---- it fails

pub returns-in_err-flush-clause-flush : goal.returns-in_err-flush-clause-flush
returns-in_err-flush-clause-flush g c = λ first plan table rose device watched h.
    let t = c.args.self.now in
    let f = g.F.Flash.state c.args.flash.now in
    let new = g.F.Flash.state c.flush-2.new.flash in
    let p = err_from_is_err_and c.from_residual.result c.from_residual.ensures.1 in
    rw (p.1, p.2) (flush-failed t f first plan table h rose device new (c.in_err-flush.ensures.flash.outside watched.told) _ c.flush-2.new.self c.in_err-flush.field-0.0
    (c.in_err-flush.ensures.flush first (bare plan) (bare_table table) rose device watched h.unlogged))

pub returns-in_err-flush-clause-exact : goal.returns-in_err-flush-clause-exact
returns-in_err-flush-clause-exact g c = let p = err_from_is_err_and c.from_residual.result c.from_residual.ensures.1 in rw (p.1, p.2) c.in_err-flush.ensures.exact

pub returns-in_err-flush-clause-table : goal.returns-in_err-flush-clause-table
returns-in_err-flush-clause-table g c = record {
  same = record { table = c.in_err-flush.ensures.table.same; log = log-self c.args.self.now.log };
  lies = record {
    table = c.in_err-flush.ensures.table.lies;
    log = log-lies c.args.self.now.log (g.F.Flash.state c.args.flash.now) (g.F.Flash.state c.flush-2.new.flash) c.in_err-flush.ensures.flash.goes c.requires.lies.log;
  };
  stopped = let p = err_from_is_err_and c.from_residual.result c.from_residual.ensures.1 in rw (p.1, p.2) c.in_err-flush.ensures.table.stopped;
  running = let p = err_from_is_err_and c.from_residual.result c.from_residual.ensures.1 in rw (p.1, p.2) c.in_err-flush.ensures.table.running;
}

pub returns-in_err-flush-clause-memory : goal.returns-in_err-flush-clause-memory
returns-in_err-flush-clause-memory g c = record {
  refused = let p = err_from_is_err_and c.from_residual.result c.from_residual.ensures.1 in rw (p.1, p.2) (λ stopped. (c.in_err-flush.ensures.memory.refused stopped, refl));
  last = c.in_err-flush.ensures.memory.last;
  none =
      let p = err_from_is_err_and c.from_residual.result c.from_residual.ensures.1 in
      rw p.1 tt;
  seals = let p = err_from_is_err_and c.from_residual.result c.from_residual.ensures.1 in rw p.1 tt;
  begins =
      let p = err_from_is_err_and c.from_residual.result c.from_residual.ensures.1 in
      rw p.1 tt;
}

pub returns-in_err-flush-clause-page : goal.returns-in_err-flush-clause-page
returns-in_err-flush-clause-page g c = record {
  quiet = λ running none. absurd (not-done c.in_err-flush.field-0.0 (c.in_err-flush.ensures.page.quiet running none).0);
  off = λ running some down.
      let p = err_from_is_err_and c.from_residual.result c.from_residual.ensures.1 in
      rw (p.1, p.2) (c.in_err-flush.ensures.page.off running some down);
  sealed = let p = err_from_is_err_and c.from_residual.result c.from_residual.ensures.1 in rw p.1 tt;
}

pub returns-in_err-flush-clause-flash : goal.returns-in_err-flush-clause-flash
returns-in_err-flush-clause-flash g c = record {
  goes = c.in_err-flush.ensures.flash.goes;
  power =
      let p = err_from_is_err_and c.from_residual.result c.from_residual.ensures.1 in
      rw p.1 tt;
  writes = c.in_err-flush.ensures.flash.writes;
  outside = λ told page rows index var log. c.in_err-flush.ensures.flash.outside told page rows index var;
  reads = c.in_err-flush.ensures.flash.reads;
  media_reads = c.in_err-flush.ensures.flash.media_reads;
  cause = let p = err_from_is_err_and c.from_residual.result c.from_residual.ensures.1 in rw (p.1, p.2) c.in_err-flush.ensures.flash.cause;
}

-- ---- it is done

pub returns-clause-flush : goal.returns-clause-flush
returns-clause-flush g c = λ first plan table rose device watched h.
    let t = c.args.self.now in
    let f = g.F.Flash.state c.args.flash.now in
    let new = g.F.Flash.state c.flush-2.new.flash in
    flush-done t f first plan table h rose device new (c.in_ok-flush.ensures.flash.outside watched.told) _ c.flush-2.new.self refl (begun-emptied plan table t.log c.begin_anew.new.log c.begin_anew.ensures.begun) (c.in_ok-flush.ensures.flush first (bare plan) (bare_table table) rose device watched h.unlogged)

pub returns-clause-exact : goal.returns-clause-exact
returns-clause-exact g c = c.in_ok-flush.ensures.exact

pub returns-clause-table : goal.returns-clause-table
returns-clause-table g c = record {
  same = record { table = c.in_ok-flush.ensures.table.same; log = begun-same c.args.self.now.log c.begin_anew.new.log c.begin_anew.ensures.begun };
  lies = record {
    table = c.in_ok-flush.ensures.table.lies;
    log = begun-lies c.args.self.now.log c.begin_anew.new.log (g.F.Flash.state c.flush-2.new.flash) c.begin_anew.ensures.begun (log-lies c.args.self.now.log (g.F.Flash.state c.args.flash.now) (g.F.Flash.state c.flush-2.new.flash) c.in_ok-flush.ensures.flash.goes c.requires.lies.log);
  };
  stopped = c.in_ok-flush.ensures.table.stopped;
  running = c.in_ok-flush.ensures.table.running;
}

pub returns-clause-memory : goal.returns-clause-memory
returns-clause-memory g c = record {
  refused = λ stopped. absurd (no stopped);
  last = c.in_ok-flush.ensures.memory.last;
  none = c.in_ok-flush.ensures.memory.none;
  seals = c.in_ok-flush.ensures.memory.seals;
  begins = λ some. c.begin_anew.ensures.begun;
}
  where
    no : ◌≡◌ {A = Result (Unit {0}) FlushFault} (Ok tt) (Err flush.Stopped) → ⊥
    no e = cc

pub returns-clause-page : goal.returns-clause-page
returns-clause-page g c = record {
  quiet = λ running none. absurd (c.if-pending_rows-eq0.false (c.pending_rows.ensures.exact ∙ none));
  off = λ running some down. absurd (no (c.in_ok-flush.ensures.page.off running some down).0);
  sealed = c.in_ok-flush.ensures.page.sealed;
}
  where
    no : ◌≡◌ {A = Result (Unit {0}) FlushFault} (Ok c.in_ok-flush.field-0) (Err (flush.Flash PowerLost)) → ⊥
    no e = cc

pub returns-clause-flash : goal.returns-clause-flash
returns-clause-flash g c = record {
  goes = c.in_ok-flush.ensures.flash.goes;
  power = c.in_ok-flush.ensures.flash.power;
  writes = c.in_ok-flush.ensures.flash.writes;
  outside = λ told page rows index var log. c.in_ok-flush.ensures.flash.outside told page rows index var;
  reads = c.in_ok-flush.ensures.flash.reads;
  media_reads = c.in_ok-flush.ensures.flash.media_reads;
  cause = tt;
}

pub invariant_of-self : goal.invariant_of-self
invariant_of-self g c = record {
  running = λ l is up. c.args.self.now.running l is (and_parts (table_words.is_running c.args.self.now.table) _ (sym c.flush.ensures.table.running ∙ up)).0;
  no_blobs = λ some. blobs-same c.args.self.now.table c.flush.new.self c.flush.ensures.table.same ∙ c.args.self.now.no_blobs some;
  room = room-same c.args.self.now.table c.flush.new.self c.args.self.now.log c.args.self.now.log c.flush.ensures.table.same (log-self c.args.self.now.log) c.args.self.now.room;
}

pub invariant_of-self-in-Break-1 : goal.invariant_of-self-in-Break-1
invariant_of-self-in-Break-1 g c = record {
  running = λ l is up. c.args.self.now.running l is (and_parts (table_words.is_running c.args.self.now.table) _ (sym c.in_err-flush.ensures.table.running ∙ up)).0;
  no_blobs = λ some. blobs-same c.args.self.now.table c.flush-2.new.self c.in_err-flush.ensures.table.same ∙ c.args.self.now.no_blobs some;
  room = room-same c.args.self.now.table c.flush-2.new.self c.args.self.now.log c.args.self.now.log c.in_err-flush.ensures.table.same (log-self c.args.self.now.log) c.args.self.now.room;
}

pub invariant_of-self-2 : goal.invariant_of-self-2
invariant_of-self-2 g c = record {
  running = begun-mounted c.args.self.now.log c.begin_anew.new.log (table_words.is_running c.flush-2.new.self ≡ true) c.begin_anew.ensures.begun
      (λ l is up. c.args.self.now.running l is (and_parts (table_words.is_running c.args.self.now.table) _ (sym c.in_ok-flush.ensures.table.running ∙ up)).0);
  no_blobs = λ some.
      blobs-same c.args.self.now.table c.flush-2.new.self c.in_ok-flush.ensures.table.same
      ∙ c.args.self.now.no_blobs (some-same c.args.self.now.log c.begin_anew.new.log (begun-same c.args.self.now.log c.begin_anew.new.log c.begin_anew.ensures.begun) some);
  room = room-same c.args.self.now.table c.flush-2.new.self c.args.self.now.log c.begin_anew.new.log c.in_ok-flush.ensures.table.same (begun-same c.args.self.now.log c.begin_anew.new.log c.begin_anew.ensures.begun) c.args.self.now.room;
}

pub flush-requires : goal.flush-requires
flush-requires g c = (table-fits g.row.KNOTS g.row.SLOTS c.args.self.now.table.few_knots c.args.self.now.table.few_slots, c.requires.lies.table)

pub pending_rows-requires : goal.pending_rows-requires
pending_rows-requires g c = table-fits g.row.KNOTS g.row.SLOTS c.args.self.now.table.few_knots c.args.self.now.table.few_slots

pub flush-requires-2 : goal.flush-requires-2
flush-requires-2 g c = (table-fits g.row.KNOTS g.row.SLOTS c.args.self.now.table.few_knots c.args.self.now.table.few_slots, c.requires.lies.table)
