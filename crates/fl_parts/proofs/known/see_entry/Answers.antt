use Rattle.std.proofs.Common.{◌<◌, ◌≤◌, ℕ, suc, List, sym, ◌∙◌, ap, subst, refl, arith, pos_of_ne-zero}
use Rattle.std.proofs.Math.Nat.{le_refl}
use Rattle.std.proofs.lemmas.Bool.{lt-ltb}
use Rattle.std.proofs.lemmas.Result.{err_from_is_err_and}
use Rattle.fl_parts.specs.ByEntries.{has_rows}
use Rattle.fl_parts.specs.Knowing.{KnowsWith}
use Rattle.fl_parts.proofs.ListedPageComes.{listed-rows, saw-entry, saw-listed}
use Rattle.fl_parts.proofs.known.see_entry.Goals as goal

within-counts : (n pages size : ℕ) → n < pages → pages ≤ size → n ≤ size
within-counts n pages size lt fits = omega (arith, lt, fits)

below-counts : (n pages size : ℕ) → n < pages → pages ≤ size → n < size
below-counts n pages size lt fits = omega (arith, lt, fits)

pub returns-then-full-eq0-clause-knows : goal.returns-then-full-eq0-clause-knows
returns-then-full-eq0-clause-knows g c = λ error t k n h is tells. (
  subst (λ (cs : List ℕ). KnowsWith error t k (suc n) c.count_void.new.known cs c.args.index.now) (sym c.count_void.ensures.counts)
      (saw-entry error t k n c.args.known.now c.count_void.new.known c.args.counts.now c.args.index.now h is.next c.args.number c.from.result c.args.full is.at tells c.if-full-eq0.true (below-counts _ _ _ is.lt is.fits) c.from.ensures c.count_void.ensures.known),
  tt,
)

pub returns-in_err-settle-clause-knows : goal.returns-in_err-settle-clause-knows
returns-in_err-settle-clause-knows g c = λ error t k n h is tells.
    let p = err_from_is_err_and c.from_residual.result c.from_residual.ensures.1 in
    let rows = ap (has_rows t) (sym is.at) ∙ (listed-rows t c.args.number c.args.full tells ∙ lt-ltb 0 c.args.full.count (pos_of_ne-zero c.if-full-eq0.false)) in
    rw (p.1, p.2) (tt, (c.in_err-settle.ensures.knows error t k n n h (le_refl n) is.lt (within-counts _ _ _ is.lt is.fits) rows).1)

pub returns-clause-knows : goal.returns-clause-knows
returns-clause-knows g c = λ error t k n h is tells.
    let some = pos_of_ne-zero c.if-full-eq0.false in
    let rows = ap (has_rows t) (sym is.at) ∙ (listed-rows t c.args.number c.args.full tells ∙ lt-ltb 0 c.args.full.count some) in
    let settled = (c.in_ok-settle.ensures.knows error t k n n h (le_refl n) is.lt (within-counts _ _ _ is.lt is.fits) rows).0 in
    (saw-listed error t k n c.settle.new.known _ c.settle.new.counts c.settle.new.index settled is.next (record { number = c.args.number; full = c.args.full }) c.in_ok-settle.ensures.none is.at tells some refl, tt)
