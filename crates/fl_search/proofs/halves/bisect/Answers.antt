use Rattle.std.proofs.Common.{arith, ◌∙◌, ◌+◌, ◌-◌, ◌/◌, ◌≤◌}
use Rattle.std.proofs.lemmas.Result.{err_from_is_err_and}
use Rattle.fl_search.proofs.Pages.{failed-among, step-none, step-low, step-high, step-fault, found-none, found-some, none-from, grows-then, rose-after, some-later, found-starts}
use Rattle.fl_search.proofs.halves.bisect.Goals as goal

pub returns-in_err-last_full-clause-few : goal.returns-in_err-last_full-clause-few
returns-in_err-last_full-clause-few g c = λ first told.
    let low = c.loop-low.low in
    let high = c.loop-low.high in
    let fault = step-fault first low (low + (high - low) / 2 + 1) high (omega arith) (omega arith) (omega arith) (omega arith) in
    omega (arith, fault, c.loop-low.invariant.few first told, c.in_err-last_full.ensures.few first (c.loop-low.invariant.tells first told))

pub returns-in_err-last_full-clause-fails : goal.returns-in_err-last_full-clause-fails
returns-in_err-last_full-clause-fails g c = λ first from.
    let inv = c.loop-low.invariant in
    let failed = c.in_err-last_full.ensures.fails first (inv.since first from) in
    let least = failed.within.0 in
    let below = failed.within.1 in
    let p = err_from_is_err_and c.from_residual.result c.from_residual.ensures.1 in
    rw (p.1, p.2) (failed-among _ c.args.oldest c.args.end failed.number failed.fails (omega (arith, inv.from, least)) (omega (arith, inv.to, below)))

pub loop-low-preserved-in-None : goal.loop-low-preserved-in-None
loop-low-preserved-in-None g c =
    let low = c.loop-low.low in
    let high = c.loop-low.high in
    let m = low + (high - low) / 2 + 1 in
    let inv = c.loop-low.invariant in
    let after = c.in_ok-last_full.ensures in
    let calls : g.K.FirstKeys.calls c.last_full.new.keys ≤ g.K.FirstKeys.calls c.loop-low.keys + (c.loop-low.low + (c.loop-low.high - c.loop-low.low) / 2 + 1 - c.loop-low.low)
    = rw c.in-None.is at after.most in
    record {
      from = omega (arith, inv.from);
      to = inv.to;
      low = omega (arith, inv.low, inv.to);
      has = λ n h. after.has n (inv.has n h);
      tells = λ first told. after.tells first (inv.tells first told);
      found = λ first told.
          found-none first c.args.oldest low m c.args.key c.loop-low.found (omega arith) (inv.found first told) (rw c.in-None.is at (after.last first (inv.tells first told)));
      beyond = inv.beyond;
      most = omega (arith, inv.most, calls);
      few = λ first told.
          omega (
            arith,
            inv.few first told,
            calls,
            step-none first low m high (omega arith) (omega arith) (omega arith) (rw c.in-None.is at (after.last first (inv.tells first told))),
          );
      within = inv.within;
      some = some-later _ _ _ c.loop-low.found inv.some after.grows;
      grows = grows-then _ _ _ inv.grows after.grows;
      names = after.names ∙ inv.names;
      since = λ first from. after.since first (inv.since first from);
      later = omega (arith, inv.later, after.cause.later);
    }

pub loop-low-preserved-then-first-key : goal.loop-low-preserved-then-first-key
loop-low-preserved-then-first-key g c =
    let low = c.loop-low.low in
    let high = c.loop-low.high in
    let m = low + (high - low) / 2 + 1 in
    let page = c.in-Some.page in
    let inv = c.loop-low.invariant in
    let after = c.in_ok-last_full.ensures in
    let calls : g.K.FirstKeys.calls c.last_full.new.keys ≤ g.K.FirstKeys.calls c.loop-low.keys + (c.loop-low.low + (c.loop-low.high - c.loop-low.low) / 2 + 1 - c.in-Some.page)
    = rw c.in-Some.is at after.most in
    let within = rw c.in-Some.is at after.within in
    record {
      from = omega (arith, inv.from);
      to = inv.to;
      low = omega (arith, inv.low, inv.to);
      has = λ n h. after.has n (inv.has n h);
      tells = λ first told. after.tells first (inv.tells first told);
      found = λ first told.
          found-some first c.args.oldest low m c.args.key page c.in-Some.first inv.from (rw c.in-Some.is at (after.last first (inv.tells first told))) c.if-first-key.true;
      beyond = inv.beyond;
      most = omega (arith, inv.most, calls, within);
      few = λ first told.
          omega (
            arith,
            inv.few first told,
            calls,
            step-low first low page c.in-Some.first m high (omega arith) (omega arith) (omega arith) (omega arith) (rw c.in-Some.is at (after.last first (inv.tells first told))),
          );
      within = (omega (arith, within, inv.from), omega (arith, within, inv.to));
      some = rose-after _ _ _ inv.grows (rw c.in-Some.is at after.some);
      grows = grows-then _ _ _ inv.grows after.grows;
      names = after.names ∙ inv.names;
      since = λ first from. after.since first (inv.since first from);
      later = omega (arith, inv.later, after.cause.later);
    }

pub loop-low-preserved : goal.loop-low-preserved
loop-low-preserved g c =
    let low = c.loop-low.low in
    let high = c.loop-low.high in
    let m = low + (high - low) / 2 + 1 in
    let page = c.in-Some.page in
    let inv = c.loop-low.invariant in
    let after = c.in_ok-last_full.ensures in
    let calls : g.K.FirstKeys.calls c.last_full.new.keys ≤ g.K.FirstKeys.calls c.loop-low.keys + (c.loop-low.low + (c.loop-low.high - c.loop-low.low) / 2 + 1 - c.in-Some.page)
    = rw c.in-Some.is at after.most in
    let within = rw c.in-Some.is at after.within in
    record {
      from = inv.from;
      to = omega (arith, inv.to, within);
      low = inv.low;
      has = λ n h. after.has n (inv.has n h);
      tells = λ first told. after.tells first (inv.tells first told);
      found = inv.found;
      beyond = λ first told up.
          none-from first c.args.oldest low m c.args.end c.args.key page c.in-Some.first inv.from up (rw c.in-Some.is at (after.last first (inv.tells first told))) c.if-first-key.false;
      most = omega (arith, inv.most, calls, within);
      few = λ first told.
          omega (
            arith,
            inv.few first told,
            calls,
            step-high first low page c.in-Some.first m high (omega arith) (omega arith) (omega arith) (omega (arith, within)) (rw c.in-Some.is at (after.last first (inv.tells first told))),
          );
      within = inv.within;
      some = some-later _ _ _ c.loop-low.found inv.some after.grows;
      grows = grows-then _ _ _ inv.grows after.grows;
      names = after.names ∙ inv.names;
      since = λ first from. after.since first (inv.since first from);
      later = omega (arith, inv.later, after.cause.later);
    }

pub returns-clause-starts : goal.returns-clause-starts
returns-clause-starts g c = λ first told. found-starts first c.args.oldest c.loop-low.low c.args.key c.loop-low.found (c.loop-low.invariant.found first told)
