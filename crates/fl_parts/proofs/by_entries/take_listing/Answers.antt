use Rattle.std.proofs.Common.{◌≡◌, ◌+◌, ◌-◌, ◌<◌, ◌≤◌, ℕ, max, min, Some, refl, sym, ◌∙◌, ap, subst, arith}
use Rattle.std.proofs.Math.Nat.{le_refl}
use Rattle.std.proofs.lemmas.Result.{err_from_is_err_and, IfErr-weaker, IfOk-weaker}
use Rattle.fl_index.proofs.MountCalls.{same-entries}
use Rattle.fl_parts.specs.ByEntries.{mount_fault}
use Rattle.fl_parts.specs.Faults.{is_refused}
use Rattle.fl_parts.specs.KeptSteps.{KnowsTaken}
use Rattle.fl_parts.specs.declared.mount_fault.MountFault.{MountFault}
use Rattle.fl_parts.proofs.IndexTaken.{bad-keeps, bad-only, entry-refused, good-taken, later-page, low-refused, low-taken}
use Rattle.fl_parts.proofs.Untouched.{no-success}
use Rattle.fl_parts.proofs.by_entries.take_listing.Goals as goal

-- the end of those that it lists, and the greater of two numbers, as they are cast
sum-is : (sum first capacity a b per : ℕ) → sum ≡ a + b → a ≡ first → b ≡ capacity → capacity ≡ per → sum ≡ first + per
sum-is sum first capacity a b per is x y z = omega (arith, is, x, y, z)

low-is : (a first end : ℕ) → a < end → a ≡ first → first < end
low-is a first end lt is = omega (arith, lt, is)

above-is : (a first end : ℕ) → end ≤ a → a ≡ first → end ≤ first
above-is a first end le is = omega (arith, le, is)

pub returns-then-from-end-clause-knows : goal.returns-then-from-end-clause-knows
returns-then-from-end-clause-knows g c = λ error layout t k n f before next same loaded h.
    let all = c.capacity-capacity.ensures.exact ∙ same-entries before c.args.bitmaps.now same in
    let low = low-is _ _ _ c.if-from-end.true c.from.ensures in (
      IfOk-weaker c.end_after_bad.result _ (λ after. KnowsTaken error t k n c.args.end after c.end_after_bad.new.known c.args.counts.now c.args.index.now c.unload.new.self)
          (λ after is. low-taken error t k n c.args.page c.args.end layout c.args.limit c.args.ring.now f before c.args.known.now c.args.counts.now c.args.index.now next h c.args.bitmaps.now c.args.first loaded c.capacity-capacity.result all low
          c.unload.new.self after c.end_after_bad.new.known c.unload.ensures.none is.0 is.1 is.2) c.end_after_bad.ensures.waits,
      IfErr-weaker c.end_after_bad.result _ (λ e. mount_fault t ≡ Some e)
          (λ e is. low-refused error t k n c.args.page c.args.end layout c.args.limit c.args.ring.now f before c.args.known.now c.args.counts.now c.args.index.now next h c.args.bitmaps.now c.args.first loaded c.capacity-capacity.result all low is.0
          ∙ ap (λ (e : MountFault). Some e) (sym is.1)) c.end_after_bad.ensures.refused,
    )

pub returns-in_err-settle-clause-knows : goal.returns-in_err-settle-clause-knows
returns-in_err-settle-clause-knows g c = λ error layout t k n f before next same loaded h.
    let p = err_from_is_err_and c.from_residual.result c.from_residual.ensures.1 in
    let bad = c.in-Some.ensures.first in
    let per = c.capacity-capacity.ensures.exact ∙ same-entries before c.args.bitmaps.now same in
    let after = sum-is _ _ _ _ _ _ refl c.from-2.ensures c.from-3.ensures per in
    let small = subst (λ n. n < 4294967296) c.next_number.ensures c.next_number.type_inv in
    let from = c.max.ensures ∙ ap (λ n. max c.args.first n) c.oldest.ensures in
    let to = c.min-to.ensures ∙ ap (λ n. min (c.from-2.result + c.from-3.result) n) (c.from-4.ensures ∙ c.next_number.ensures) in
    let above = above-is _ _ _ c.if-from-end.false c.from.ensures in
    let number = bad.0 in
    let later = later-page error t k n c.args.page c.args.end layout c.args.limit c.args.ring.now f before c.args.known.now c.args.counts.now c.args.index.now next h c.args.bitmaps.now c.args.first loaded (c.from-2.result + c.from-3.result) c.max.result c.min-to.result c.requires.order small above after from to number bad.1 bad.2 bad.3 bad.4 bad.6 bad.7 in
    rw (p.1, p.2) (tt, (c.in_err-settle.ensures.knows error t k n (number - t.oldest) h later.behind later.within later.fits later.rows).1)

pub returns-in-Some-clause-knows : goal.returns-in-Some-clause-knows
returns-in-Some-clause-knows g c = λ error layout t k n f before next same loaded h.
    let bad = c.in-Some.ensures.first in
    let per = c.capacity-capacity.ensures.exact ∙ same-entries before c.args.bitmaps.now same in
    let after = sum-is _ _ _ _ _ _ refl c.from-2.ensures c.from-3.ensures per in
    let small = subst (λ n. n < 4294967296) c.next_number.ensures c.next_number.type_inv in
    let from = c.max.ensures ∙ ap (λ n. max c.args.first n) c.oldest.ensures in
    let to = c.min-to.ensures ∙ ap (λ n. min (c.from-2.result + c.from-3.result) n) (c.from-4.ensures ∙ c.next_number.ensures) in
    let above = above-is _ _ _ c.if-from-end.false c.from.ensures in
    let number = bad.0 in
    let later = later-page error t k n c.args.page c.args.end layout c.args.limit c.args.ring.now f before c.args.known.now c.args.counts.now c.args.index.now next h c.args.bitmaps.now c.args.first loaded (c.from-2.result + c.from-3.result) c.max.result c.min-to.result c.requires.order small above after from to number bad.1 bad.2 bad.3 bad.4 bad.6 bad.7 in
    let settled = (c.in_ok-settle.ensures.knows error t k n (number - t.oldest) h later.behind later.within later.fits later.rows).0 in (
      tt,
      entry-refused error t k n c.args.page c.args.end layout c.args.limit c.args.ring.now f before c.args.known.now c.args.counts.now c.args.index.now next h c.args.bitmaps.now c.args.first loaded (c.from-2.result + c.from-3.result) c.max.result c.min-to.result c.requires.order small above after from to number bad.1 bad.2 bad.3 bad.4 bad.6 bad.7 c.settle.new.known c.settle.new.counts c.settle.new.index settled
          c.in_ok-settle.ensures.none ∙ ap (λ (e : MountFault). Some e) (sym bad.5),
    )

pub returns-clause-knows : goal.returns-clause-knows
returns-clause-knows g c = λ error layout t k n f before next same loaded h.
    let per = c.capacity-capacity.ensures.exact ∙ same-entries before c.args.bitmaps.now same in
    let after = sum-is _ _ _ _ _ _ refl c.from-2.ensures c.from-3.ensures per in
    let small = subst (λ n. n < 4294967296) c.next_number.ensures c.next_number.type_inv in
    let from = c.max.ensures ∙ ap (λ n. max c.args.first n) c.oldest.ensures in
    let to = c.min-to.ensures ∙ ap (λ n. min (c.from-2.result + c.from-3.result) n) (c.from-4.ensures ∙ c.next_number.ensures) in
    let above = above-is _ _ _ c.if-from-end.false c.from.ensures in (
      good-taken error t k n c.args.page c.args.end layout c.args.limit c.args.ring.now f before c.args.known.now c.args.counts.now c.args.index.now next h c.args.bitmaps.now c.args.first loaded (c.from-2.result + c.from-3.result) c.max.result c.min-to.result c.requires.order small above after from to
          (c.bad_entry.ensures.none c.in_default.is),
      tt,
    )

pub returns-then-from-end-clause-known : goal.returns-then-from-end-clause-known
returns-then-from-end-clause-known g c = bad-keeps _ c.args.known.now c.end_after_bad.new.known _ c.end_after_bad.result c.end_after_bad.ensures.within c.end_after_bad.ensures.waits

pub returns-then-from-end-clause-leaves : goal.returns-then-from-end-clause-leaves
returns-then-from-end-clause-leaves g c = record { same = c.unload.ensures.same; still = c.unload.ensures.still }

pub returns-then-from-end-clause-size : goal.returns-then-from-end-clause-size
returns-then-from-end-clause-size g c = refl

pub returns-then-from-end-clause-error : goal.returns-then-from-end-clause-error
returns-then-from-end-clause-error g c = refl

pub returns-then-from-end-clause-only : goal.returns-then-from-end-clause-only
returns-then-from-end-clause-only g c = bad-only _ c.end_after_bad.result _ c.end_after_bad.ensures.refused

pub returns-in_err-settle-clause-known : goal.returns-in_err-settle-clause-known
returns-in_err-settle-clause-known g c = no-success _ _ c.from_residual.result c.from_residual.ensures.1

pub returns-in_err-settle-clause-leaves : goal.returns-in_err-settle-clause-leaves
returns-in_err-settle-clause-leaves g c = record { same = record { geometry = refl; place = refl; bits = refl; full = refl }; still = record { ring = refl; firsts = refl } }

pub returns-in_err-settle-clause-size : goal.returns-in_err-settle-clause-size
returns-in_err-settle-clause-size g c = c.in_err-settle.ensures.size

pub returns-in_err-settle-clause-error : goal.returns-in_err-settle-clause-error
returns-in_err-settle-clause-error g c = c.in_err-settle.ensures.error

pub returns-in_err-settle-clause-only : goal.returns-in_err-settle-clause-only
returns-in_err-settle-clause-only g c =
    let p = err_from_is_err_and c.from_residual.result c.from_residual.ensures.1 in
    rw (p.1, p.2) c.in_err-settle.ensures.only

pub returns-in-Some-clause-known : goal.returns-in-Some-clause-known
returns-in-Some-clause-known g c = tt

pub returns-in-Some-clause-leaves : goal.returns-in-Some-clause-leaves
returns-in-Some-clause-leaves g c = record { same = record { geometry = refl; place = refl; bits = refl; full = refl }; still = record { ring = refl; firsts = refl } }

pub returns-in-Some-clause-size : goal.returns-in-Some-clause-size
returns-in-Some-clause-size g c = c.in_ok-settle.ensures.size

pub returns-in-Some-clause-error : goal.returns-in-Some-clause-error
returns-in-Some-clause-error g c = c.in_ok-settle.ensures.error

pub returns-in-Some-clause-only : goal.returns-in-Some-clause-only
returns-in-Some-clause-only g c = ap is_refused c.in-Some.ensures.first.5

pub returns-clause-known : goal.returns-clause-known
returns-clause-known g c = record { within = λ oldest n h. h; waits = le_refl _ }

pub returns-clause-leaves : goal.returns-clause-leaves
returns-clause-leaves g c = record { same = record { geometry = refl; place = refl; bits = refl; full = refl }; still = record { ring = refl; firsts = refl } }

pub returns-clause-size : goal.returns-clause-size
returns-clause-size g c = refl

pub returns-clause-error : goal.returns-clause-error
returns-clause-error g c = refl

pub returns-clause-only : goal.returns-clause-only
returns-clause-only g c = tt
