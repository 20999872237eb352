use Rattle.std.proofs.Common.{◌≡◌, ◌+◌, ◌<◌, ◌≤◌, ℕ, nat_eq, Bool, false, inl, inr, List, [], length, refl, map, take, sym, ◌∙◌, ap, subst, arith}
use Rattle.std.specs.Prelude.{◌&&◌, if◌then◌else◌}
use Rattle.std.proofs.lemmas.Bool.{eqb-true, false≢true}
use Rattle.fl_frame.proofs.CallsInTurn.{goes-same, stays, stays-then}
use Rattle.fl_session.specs.Execute.{StandsAlike}
use Rattle.fl_shell.specs.Caused.{CausesFlushes}
use Rattle.fl_shell.specs.Talk.{flush_of}
use Rattle.fl_shell.proofs.CausedFlushes.{all-named, both-is, names, names-more}
use Rattle.fl_shell.proofs.CausedFlushes as caused
use Rattle.fl_shell.proofs.AlikeFlushes.{pending-stands}
use Rattle.fl_shell.proofs.TableFlushes.{FlushedSoFar, none-flushed, flushed-none, flushed-more, flushes-more, flushed-nothing, flushed-all, all-plans}
use Rattle.fl_shell.proofs.flush.flush_all.Goals.{then-done, else-done}
use Rattle.fl_shell.proofs.flush.flush_all.Goals as goal

pub returns-then-pending-eq0-clause-flushes : goal.returns-then-pending-eq0-clause-flushes
returns-then-pending-eq0-clause-flushes g c = λ configured old moments content faults plans ready ran.
    let E = g.E.Executor in
    let f = E.flash c.args.session.now in
    let n = c.pending_rows-pending.result in
    record {
      flushes = [];
      flushes_all = flushed-nothing configured _ n (pending-stands configured (E.stands c.args.session.now configured) _ n (λ m here. c.pending_rows-pending.ensures.holds configured m plans here) ran.stands_after) c.if-pending-eq0.true;
      ran = none-flushed configured old moments (StandsAlike (E.stands c.args.session.now configured)) content f.media.content faults f.media.faults ran;
      unread = tt;
    }

pub tables-init : goal.tables-init
tables-init g c = record {
  sound = c.requires;
  goes = stays _ _ (goes-same _);
  told = (refl, refl);
  flushed = λ configured old moments content faults plans ready ran. flushed-none configured old moments _ content _ faults _ ran;
}

pub tables-preserved : goal.tables-preserved
tables-preserved g c =
    let E = g.E.Executor in
    let i = c.tables.invariant in
    let f = c.flush_table-flushed in
    let plans_now = c.args.config.now.plans in
    let within : c.tables.at < length plans_now = omega (arith, c.tables-at-end.ensures.exact) in
    let both : c.if-done.done ≡ (if c.tables.done then f.result else false) =
    elim c.if-done.branch [ then-done w ↦ w.done-is ∙ sym (ap (λ (b : Bool). if b then f.result else false) w.if-done.true) | else-done w ↦ w.done-is ∙ (w.if-done.false ∙ sym (ap (λ (b : Bool). if b then f.result else false) w.if-done.false)) ] in
    record {
      sound = f.ensures.sound;
      goes = stays-then _ _ _ i.goes f.ensures.goes;
      told =
          let more = caused.flushes-more (names (take c.tables.at plans_now)) c.name.result (E.state c.args.session.now) (E.state c.tables.session) (E.state f.new.session) c.tables.done f.result i.told f.ensures.told in
          subst (λ (b : Bool). CausesFlushes (names (take (c.tables.at + 1) plans_now)) (E.state c.args.session.now) (E.state f.new.session) b) (sym (both ∙ both-is c.tables.done f.result))
          (subst (λ (all : List (List ℕ)). CausesFlushes all (E.state c.args.session.now) (E.state f.new.session) (c.tables.done && f.result)) (sym (names-more plans_now c.tables.at c.name.result within c.name.ensures)) more);
      flushed = λ configured old moments content faults plans ready ran.
          let now = E.flash f.new.session in
          let stands = StandsAlike (E.stands f.new.session configured) in
          subst (λ b. FlushedSoFar configured old moments (map flush_of (take (c.tables.at + 1) plans_now)) stands content now.media.content faults now.media.faults b) (sym both)
          (subst (λ cs. FlushedSoFar configured old moments cs stands content now.media.content faults now.media.faults (if c.tables.done then f.result else false)) (sym (flushes-more plans_now c.tables.at c.name.result within c.name.ensures))
          (flushed-more configured old moments (map flush_of (take c.tables.at plans_now)) c.name.result (E.stands c.tables.session configured) (E.stands f.new.session configured) content faults (E.flash c.tables.session) now c.tables.done f.result
          ready f.ensures.goes.faults (i.flushed configured old moments content faults plans ready ran) (f.ensures.flushes configured)));
    }

pub returns-then-done-2-clause-flushes : goal.returns-then-done-2-clause-flushes
returns-then-done-2-clause-flushes g c = λ configured old moments content faults plans ready ran.
    let E = g.E.Executor in
    let f = E.flash c.tables.session in
    let pending = c.pending_rows-pending.result in
    let n = c.pending_rows-left.result in
    let so_far = all-plans configured old moments c.args.config.now.plans c.tables.at (StandsAlike (E.stands c.tables.session configured)) content f.media.content faults f.media.faults c.tables.done (omega (arith, c.tables-at-end.ensures.exact)) plans
    (c.tables.invariant.flushed configured old moments content faults plans ready ran) in
    flushed-all configured old moments (E.stands c.tables.session configured) content f.media.content faults f.media.faults pending n c.tables.done (nat_eq n 0) so_far
    (pending-stands configured (E.stands c.args.session.now configured) _ pending (λ m here. c.pending_rows-pending.ensures.holds configured m plans here) ran.stands_after) (λ none. c.if-pending-eq0.false none) (λ m here. c.pending_rows-left.ensures.holds configured m plans here)
    (λ e. (c.if-done-2.true, eqb-true n 0 e)) (λ e. inr (λ none. absurd (false≢true (sym e ∙ ap (λ k. nat_eq k 0) none))))

pub returns-else-done-2-clause-flushes : goal.returns-else-done-2-clause-flushes
returns-else-done-2-clause-flushes g c = λ configured old moments content faults plans ready ran.
    let E = g.E.Executor in
    let f = E.flash c.tables.session in
    let pending = c.pending_rows-pending.result in
    let n = c.pending_rows-left.result in
    let so_far = all-plans configured old moments c.args.config.now.plans c.tables.at (StandsAlike (E.stands c.tables.session configured)) content f.media.content faults f.media.faults c.tables.done (omega (arith, c.tables-at-end.ensures.exact)) plans
    (c.tables.invariant.flushed configured old moments content faults plans ready ran) in
    flushed-all configured old moments (E.stands c.tables.session configured) content f.media.content faults f.media.faults pending n c.tables.done c.tables.done so_far
    (pending-stands configured (E.stands c.args.session.now configured) _ pending (λ m here. c.pending_rows-pending.ensures.holds configured m plans here) ran.stands_after) (λ none. c.if-pending-eq0.false none) (λ m here. c.pending_rows-left.ensures.holds configured m plans here)
    (λ e. absurd (false≢true (sym c.if-done-2.false ∙ e))) (λ e. inl e)

pub returns-then-pending-eq0-clause-told : goal.returns-then-pending-eq0-clause-told
returns-then-pending-eq0-clause-told g c = record { pending = c.pending_rows-pending.ensures.told; none = λ e. (refl, refl); some = λ not. absurd (not c.if-pending-eq0.true) }

pub returns-then-done-2-clause-told : goal.returns-then-done-2-clause-told
returns-then-done-2-clause-told g c =
    let E = g.E.Executor in
    let n = c.pending_rows-left.result in
    let ended : length c.args.config.now.plans ≤ c.tables.at = omega (arith, c.tables-at-end.ensures.exact) in
    record {
      pending = c.pending_rows-pending.ensures.told;
      none = λ e. absurd (c.if-pending-eq0.false e);
      some = λ not. (
        c.tables.done,
        n,
        subst (λ (all : List (List ℕ)). CausesFlushes all (E.state c.args.session.now) (E.state c.tables.session) c.tables.done) (all-named c.args.config.now.plans c.tables.at ended) c.tables.invariant.told,
        c.pending_rows-left.ensures.told,
        sym (ap (λ (b : Bool). b && nat_eq n 0) c.if-done-2.true),
      );
    }

pub returns-else-done-2-clause-told : goal.returns-else-done-2-clause-told
returns-else-done-2-clause-told g c =
    let E = g.E.Executor in
    let n = c.pending_rows-left.result in
    let ended : length c.args.config.now.plans ≤ c.tables.at = omega (arith, c.tables-at-end.ensures.exact) in
    record {
      pending = c.pending_rows-pending.ensures.told;
      none = λ e. absurd (c.if-pending-eq0.false e);
      some = λ not. (
        c.tables.done,
        n,
        subst (λ (all : List (List ℕ)). CausesFlushes all (E.state c.args.session.now) (E.state c.tables.session) c.tables.done) (all-named c.args.config.now.plans c.tables.at ended) c.tables.invariant.told,
        c.pending_rows-left.ensures.told,
        c.if-done-2.false ∙ sym (ap (λ (b : Bool). b && nat_eq n 0) c.if-done-2.false),
      );
    }
