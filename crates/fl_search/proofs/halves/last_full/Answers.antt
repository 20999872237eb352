use Rattle.std.proofs.Common.{arith, ◌+◌, ◌-◌, ◌≤◌, ◌∙◌, sym, Ok, Err}
use Rattle.std.proofs.lemmas.Result.{err_from_is_err_and}
use Rattle.std.specs.Prelude.{OnErr}
use Rattle.fl_search.specs.Search.{voids_in}
use Rattle.fl_search.proofs.Pages.{failed-among, void-more, voids-end, grows-then, rose-after}
use Rattle.fl_search.proofs.halves.last_full.Goals as goal

pub returns-in_err-first-clause-few : goal.returns-in_err-first-clause-few
returns-in_err-first-clause-few g c = λ first told.
    let voids = voids-end first c.args.oldest c.loop-number.number c.args.end (omega arith) c.loop-number.invariant.within (c.loop-number.invariant.voids first told) in
    let bound : g.K.FirstKeys.calls c.first_key.new.self ≤ g.K.FirstKeys.calls c.args.keys.now + voids_in first c.args.oldest c.args.end + 1
    = omega (arith, voids, c.loop-number.invariant.few, c.in_err-first.ensures.one) in
    elim c.from_residual.result as (λ r. OnErr r (g.K.FirstKeys.calls c.first_key.new.self ≤ g.K.FirstKeys.calls c.args.keys.now + voids_in first c.args.oldest c.args.end + 1)) [ Ok x ↦ tt | Err e ↦ bound ]

pub returns-in_err-first-clause-fails : goal.returns-in_err-first-clause-fails
returns-in_err-first-clause-fails g c = λ first from.
    let inv = c.loop-number.invariant in
    let p = err_from_is_err_and c.from_residual.result c.from_residual.ensures.1 in
    rw (p.1, p.2) (failed-among _ c.args.oldest c.args.end _ (c.in_err-first.ensures.fails first (inv.since first from)) (omega arith) (omega (arith, inv.within)))

pub returns-in-Some-clause-last : goal.returns-in-Some-clause-last
returns-in-Some-clause-last g c = λ first told.
    let key = c.in_ok-first.ensures.key first (c.loop-number.invariant.tells first told) in
    record {
      from = omega arith;
      before = omega (arith, c.loop-number.invariant.within);
      here = sym key ∙ c.in-Some.is;
      later = λ n after before. c.loop-number.invariant.voids first told n (omega arith) before;
    }

pub loop-number-preserved : goal.loop-number-preserved
loop-number-preserved g c = record {
  within = omega (arith, c.loop-number.invariant.within);
  bound = omega (arith, c.loop-number.invariant.bound);
  has = λ n h. c.in_ok-first.ensures.has n (c.loop-number.invariant.has n h);
  tells = λ first told. c.in_ok-first.ensures.tells first (c.loop-number.invariant.tells first told);
  voids = λ first told.
      let key = c.in_ok-first.ensures.key first (c.loop-number.invariant.tells first told) in
      void-more first (c.loop-number.number - 1) c.args.end (λ n from before. c.loop-number.invariant.voids first told n (omega arith) before) (sym key ∙ c.in_default.is);
  few = omega (arith, c.loop-number.invariant.few, c.in_ok-first.ensures.one);
  grows = grows-then _ _ _ c.loop-number.invariant.grows (λ small. omega (arith, c.in_ok-first.ensures.calls small));
  names = c.in_ok-first.ensures.names ∙ c.loop-number.invariant.names;
  since = λ first from. c.in_ok-first.ensures.since first (c.loop-number.invariant.since first from);
  later = omega (arith, c.loop-number.invariant.later, c.in_ok-first.ensures.cause.later);
}

pub returns-clause-last : goal.returns-clause-last
returns-clause-last g c = λ first told n from before. c.loop-number.invariant.voids first told n (omega arith) before

pub returns-in-Some-clause-some : goal.returns-in-Some-clause-some
returns-in-Some-clause-some g c = rose-after _ _ _ c.loop-number.invariant.grows (λ small. omega (arith, c.in_ok-first.ensures.calls small))

pub returns-in-Some-clause-grows : goal.returns-in-Some-clause-grows
returns-in-Some-clause-grows g c = grows-then _ _ _ c.loop-number.invariant.grows (λ small. omega (arith, c.in_ok-first.ensures.calls small))
