use Rattle.std.proofs.Common.{◌≡◌, Result, Err, refl, ap, arith, ℕ, ◌≤◌, Ok, sym, ◌∙◌}
use Rattle.std.proofs.lemmas.Result.{err_from_is_err_and}
use Rattle.fl_table.proofs.SealAnswers.{writer-count, plan-self}
use Rattle.fl_table.proofs.PendingAndFull.{flush-idle}
use Rattle.fl_flash.specs.declared.flash.FlashFault.{FlashFault}
use Rattle.fl_flash.specs.declared.flash.FlashFault.TheVariants.{PowerLost}
use Rattle.fl_table.specs.declared.faults.FlushFault.TheVariants as flush
use Rattle.fl_parts.proofs.CallsOff.{off-ok}
use Rattle.fl_parts.proofs.Sizes.{table-fits}
use Rattle.std.proofs.lemmas.Bool.{true≢false}
use Rattle.std.proofs.Math.Bool.{and-false, and-true}
use Rattle.fl_frame.specs.Causes.{CausedBy}
use Rattle.fl_table.specs.Causes.{FlushCausedBy}
use Rattle.fl_table.proofs.Sealing.{changes-done, changes-failed, changes-none}
use Rattle.fl_table.specs.Memory.{is_running}
use Rattle.fl_table.specs.declared.faults.FlushFault.{FlushFault}
use Rattle.fl_parts.proofs.Untouched.{no-ring, on-err, no-success}
use Rattle.fl_table.specs.Memory.{MaySeal}
use Rattle.fl_table.specs.Mounting.{rings_in, OutsideStands}
use Rattle.fl_table.proofs.table.Table.flush.Goals as goal

not-stopped : (u : Unit {0}) → ◌≡◌ {A = Result (Unit {0}) FlushFault} (Ok u) (Err flush.Stopped) → ⊥
not-stopped u e = cc

not-flash : (fault : FlashFault) → ◌≡◌ {A = Result (Unit {0}) FlushFault} (Err (flush.Flash fault)) (Err flush.Stopped) → ⊥
not-flash fault e = cc

some-of : (n count : ℕ) → n ≡ count → (n ≡ 0 → ⊥) → 1 ≤ count
some-of n count same some = omega (arith, same, some)

-- ---- it does not run

pub returns-then-not-is_running-clause-flush : goal.returns-then-not-is_running-clause-flush
returns-then-not-is_running-clause-flush g c = λ first plan table rose device watched stands. no-ring c.args.self.now.ring stands.memory.ring (sym c.is_running.ensures ∙ c.if-not-is_running.true) stands.memory.ring_is

pub returns-then-not-is_running-clause-exact : goal.returns-then-not-is_running-clause-exact
returns-then-not-is_running-clause-exact g c = (λ _. (sym c.is_running.ensures ∙ c.if-not-is_running.true), λ _. refl)

pub returns-then-not-is_running-clause-table : goal.returns-then-not-is_running-clause-table
returns-then-not-is_running-clause-table g c = record {
  same = plan-self c.args.self.now;
  lies = c.requires.lies;
  stopped = refl;
  running = sym (and-true (is_running c.args.self.now));
}

pub returns-then-not-is_running-clause-memory : goal.returns-then-not-is_running-clause-memory
returns-then-not-is_running-clause-memory g c = record {
  refused = λ _. refl;
  last = refl;
  pending_stays = refl;
  none = tt;
  seals = tt;
}

pub returns-then-not-is_running-clause-page : goal.returns-then-not-is_running-clause-page
returns-then-not-is_running-clause-page g c = record {
  quiet = λ running none. absurd (true≢false (sym running ∙ (sym c.is_running.ensures ∙ c.if-not-is_running.true)));
  off = λ running some down. absurd (true≢false (sym running ∙ (sym c.is_running.ensures ∙ c.if-not-is_running.true)));
  sealed = tt;
}

pub returns-then-not-is_running-clause-flash : goal.returns-then-not-is_running-clause-flash
returns-then-not-is_running-clause-flash g c = changes-none c.args.self.now (MaySeal c.args.self.now) (rings_in c.args.self.now) FlushCausedBy (g.F.Flash.state c.args.flash.now) (Err flush.Stopped) refl

-- ---- nothing is pending

pub returns-then-count-eq0-clause-flush : goal.returns-then-count-eq0-clause-flush
returns-then-count-eq0-clause-flush g c = λ first plan table rose device watched stands.
    let t = c.args.self.now in
    let f = g.F.Flash.state c.args.flash.now in
    let count : t.writer.count ≡ table.pending = writer-count t f first plan table stands in
    let zero : c.count.result ≡ 0 = c.if-count-eq0.true in
    flush-idle f first plan table rose device t (omega (arith, count, zero, c.count.ensures)) stands watched.counts watched.on

pub returns-then-count-eq0-clause-exact : goal.returns-then-count-eq0-clause-exact
returns-then-count-eq0-clause-exact g c = (λ e. absurd (not-stopped tt e), λ e. absurd (true≢false (sym (sym c.is_running.ensures ∙ c.if-not-is_running.false) ∙ e)))

pub returns-then-count-eq0-clause-table : goal.returns-then-count-eq0-clause-table
returns-then-count-eq0-clause-table g c = record {
  same = plan-self c.args.self.now;
  lies = c.requires.lies;
  stopped = refl;
  running = sym (and-true (is_running c.args.self.now));
}

pub returns-then-count-eq0-clause-memory : goal.returns-then-count-eq0-clause-memory
returns-then-count-eq0-clause-memory g c = record {
  refused = λ _. refl;
  last = refl;
  pending_stays = tt;
  none = omega (arith, c.if-count-eq0.true, c.count.ensures);
  seals = λ some. absurd (omega (arith, some, c.if-count-eq0.true, c.count.ensures));
}

pub returns-then-count-eq0-clause-page : goal.returns-then-count-eq0-clause-page
returns-then-count-eq0-clause-page g c = record {
  quiet = λ running none. (refl, refl, refl);
  off = λ running some. absurd (omega (arith, some, c.if-count-eq0.true, c.count.ensures));
  sealed = λ some. absurd (omega (arith, some, c.if-count-eq0.true, c.count.ensures));
}

pub returns-then-count-eq0-clause-flash : goal.returns-then-count-eq0-clause-flash
returns-then-count-eq0-clause-flash g c = changes-none c.args.self.now (MaySeal c.args.self.now) (rings_in c.args.self.now) FlushCausedBy (g.F.Flash.state c.args.flash.now) (Ok tt) tt

-- ---- a seal failed

pub returns-in_err-seal-clause-flush : goal.returns-in_err-seal-clause-flush
returns-in_err-seal-clause-flush g c = λ first plan table rose device watched stands.
    let p = err_from_is_err_and c.from_residual.result c.from_residual.ensures.1 in
    rw (p.1, p.2) (c.in_err-seal.ensures.ends first plan table rose device watched stands)

pub returns-in_err-seal-clause-exact : goal.returns-in_err-seal-clause-exact
returns-in_err-seal-clause-exact g c =
    let p = err_from_is_err_and c.from_residual.result c.from_residual.ensures.1 in
    rw (p.1, p.2) ((λ e. absurd (not-flash c.in_err-seal.field-0.0 e), λ e. absurd (true≢false (sym (sym c.is_running.ensures ∙ c.if-not-is_running.false) ∙ e))))

pub returns-in_err-seal-clause-table : goal.returns-in_err-seal-clause-table
returns-in_err-seal-clause-table g c = record {
  same = c.in_err-seal.ensures.same;
  lies = c.in_err-seal.ensures.lies;
  stopped =
      let p = err_from_is_err_and c.from_residual.result c.from_residual.ensures.1 in
      rw (p.1, p.2) c.in_err-seal.ensures.stopped.1;
  running =
      let p = err_from_is_err_and c.from_residual.result c.from_residual.ensures.1 in
      rw (p.1, p.2) (c.in_err-seal.ensures.stopped.0 ∙ sym (and-false (is_running c.args.self.now)));
}

pub returns-in_err-seal-clause-memory : goal.returns-in_err-seal-clause-memory
returns-in_err-seal-clause-memory g c = record {
  refused =
      let p = err_from_is_err_and c.from_residual.result c.from_residual.ensures.1 in
      rw (p.1, p.2) (λ e. absurd (not-flash c.in_err-seal.field-0.0 e));
  last = c.in_err-seal.ensures.last;
  pending_stays = on-err c.from_residual.result c.in_err-seal.ensures.pending_stays;
  none = no-success _ _ c.from_residual.result c.from_residual.ensures.1;
  seals = no-success _ _ c.from_residual.result c.from_residual.ensures.1;
}

pub returns-in_err-seal-clause-page : goal.returns-in_err-seal-clause-page
returns-in_err-seal-clause-page g c = record {
  quiet = λ running none. absurd (c.if-count-eq0.false (c.count.ensures ∙ none));
  off = λ running some down.
      let p = err_from_is_err_and c.from_residual.result c.from_residual.ensures.1 in
      let h = c.in_err-seal.ensures.off down in
      rw (p.1, p.2) (ap (λ (e : FlashFault). Err (flush.Flash e)) (same h.0), h.1);
  sealed =
      let p = err_from_is_err_and c.from_residual.result c.from_residual.ensures.1 in
      rw p.1 tt;
}
  where
    same : ◌≡◌ {A = Result (Unit {0}) FlashFault} (Err c.in_err-seal.field-0.0) (Err PowerLost) → c.in_err-seal.field-0.0 ≡ PowerLost
    same e = cc

pub returns-in_err-seal-clause-flash : goal.returns-in_err-seal-clause-flash
returns-in_err-seal-clause-flash g c =
    let p = err_from_is_err_and c.from_residual.result c.from_residual.ensures.1 in
    let fault = c.in_err-seal.field-0.0 in
    rw (p.1, p.2) (changes-failed (MaySeal c.args.self.now) (OutsideStands c.args.self.now) (rings_in c.args.self.now) CausedBy FlushCausedBy (g.F.Flash.state c.args.flash.now) (g.F.Flash.state c.seal.new.flash) fault (flush.Flash fault) (λ caused. caused) c.in_err-seal.ensures.flash)

-- ---- it is done

pub returns-clause-flush : goal.returns-clause-flush
returns-clause-flush g c = λ first plan table rose device watched stands. c.in_ok-seal.ensures.ends first plan table rose device watched stands

pub returns-clause-exact : goal.returns-clause-exact
returns-clause-exact g c = (λ e. absurd (not-stopped tt e), λ e. absurd (true≢false (sym (sym c.is_running.ensures ∙ c.if-not-is_running.false) ∙ e)))

pub returns-clause-table : goal.returns-clause-table
returns-clause-table g c = record {
  same = c.in_ok-seal.ensures.same;
  lies = c.in_ok-seal.ensures.lies;
  stopped = c.in_ok-seal.ensures.calm;
  running = c.in_ok-seal.ensures.running ∙ sym (and-true (is_running c.args.self.now) ∙ (sym c.is_running.ensures ∙ c.if-not-is_running.false));
}

pub returns-clause-memory : goal.returns-clause-memory
returns-clause-memory g c = record {
  refused = λ e. absurd (not-stopped tt e);
  last = c.in_ok-seal.ensures.last;
  pending_stays = tt;
  none = c.in_ok-seal.ensures.emptied.empty.none;
  seals = λ some. c.in_ok-seal.ensures.emptied;
}

pub returns-clause-page : goal.returns-clause-page
returns-clause-page g c = record {
  quiet = λ running none. absurd (c.if-count-eq0.false (c.count.ensures ∙ none));
  off = λ running some down. absurd (off-ok (g.F.Flash.state c.args.flash.now) (g.F.Flash.state c.seal.new.flash) c.in_ok-seal.field-0 c.in_ok-seal.ensures.off down);
  sealed = λ some. c.in_ok-seal.ensures.sealed;
}

pub returns-clause-flash : goal.returns-clause-flash
returns-clause-flash g c = changes-done (MaySeal c.args.self.now) (OutsideStands c.args.self.now) (rings_in c.args.self.now) CausedBy FlushCausedBy (g.F.Flash.state c.args.flash.now) (g.F.Flash.state c.seal.new.flash) c.in_ok-seal.ensures.flash

pub is_running-requires : goal.is_running-requires
is_running-requires g c = table-fits g.row.KNOTS g.row.SLOTS c.args.self.now.few_knots c.args.self.now.few_slots

pub seal-requires : goal.seal-requires
seal-requires g c =
    let t = c.args.self.now in
    (table-fits g.row.KNOTS g.row.SLOTS t.few_knots t.few_slots, ((sym c.is_running.ensures ∙ c.if-not-is_running.false), (some-of c.count.result t.writer.count c.count.ensures c.if-count-eq0.false, c.requires.lies)))
