use Rattle.std.proofs.Common.{rules, ◌≡◌, ◌+◌, ◌-◌, ◌<◌, ◌≤◌, ℕ, max, min, arith, ◌∙◌, ap, subst}
use Rattle.std.proofs.Math.Nat.{le_refl}
use Rattle.std.proofs.lemmas.Result.{err_from_is_err_and}
use Rattle.fl_frame.specs.Reads.{OnlyReads}
use Rattle.fl_frame.proofs.ReadsInTurn.{told_still, none_read}
use Rattle.fl_ring.specs.Place.{next_of}
use Rattle.fl_schema.specs.Schema.{layout_of}
use Rattle.fl_parts.specs.ByEntries.{unlisted_of}
use Rattle.fl_parts.specs.KeptSteps.{HasComeBy}
use Rattle.fl_parts.specs.Knowing.{KnowsWith}
use Rattle.fl_parts.proofs.KeptParts.{come-none, come-then, fails-then, few-come, keeps-none, keeps-then, may-still, reads-then}
use Rattle.fl_parts.proofs.MountProgress.{rows-still}
use Rattle.fl_parts.proofs.PagesSeen.{is-next, one-more, seen-few, tells-next}
use Rattle.fl_parts.proofs.Untouched.{no-success}
use Rattle.fl_parts.proofs.by_entries.see_pages.Goals as goal

-- a page that comes is below the end of those that come
before-both : (number from end next to : ℕ) → to ≡ max from (min end next) → number < to → from ≤ number → (number < end) × (number < next)
before-both number from end next to is lt le = (omega (arith, is, lt, le), omega (arith, is, lt, le))

-- .. and behind the last there is that end
at-end : (number from end next to : ℕ) → to ≡ max from (min end next) → to ≤ number → (from ≤ to → number ≤ to) → number ≡ to
at-end number from end next to is past most = let le : from ≤ to = omega (arith, is) in omega (arith, past, most le)

one-step : (number from : ℕ) → from ≤ number → number - from + 1 ≤ number + 1 - from
one-step number from le = omega (arith, le)

below-end : (number from to : ℕ) → from ≤ number → number < to → number - from + 1 ≤ to - from
below-end number from to le lt = omega (arith, le, lt)

one-on : (from number : ℕ) → from ≤ number → from ≤ number + 1
one-on from number le = omega (arith, le)

within-all : (number from end next : ℕ) → number < end → number < next → number + 1 ≤ max from (min end next)
within-all number from end next low high = omega (arith, low, high)

pub loop-number-init : goal.loop-number-init
loop-number-init g c =
    let old = g.F.Flash.state c.args.flash.now in
    record {
      from = le_refl c.args.from;
      come = come-none c.args.ring.now c.args.from _ old c.args.known.now c.requires.come;
      reads = none_read old _;
      keeps = keeps-none c.args.counts.now c.args.index.now c.args.buf.now c.requires.may.none;
      knows = λ error t k is h. (h, le_refl _);
    }

pub see_one-requires : goal.see_one-requires
see_one-requires g c =
    let to_is : c.max-to.result ≡ max c.args.from (min c.args.end (next_of c.args.ring.now)) = c.max-to.ensures ∙ ap (λ n. max c.args.from n) (c.min.ensures ∙ ap (λ n. min c.args.end n) (c.from.ensures ∙ c.next_number.ensures)) in
    let inv = c.loop-number.invariant in
    let both = before-both _ _ _ _ _ to_is c.loop-number-test.true inv.from in
    let small = subst (λ n. n < 4294967296) c.next_number.ensures c.next_number.type_inv in
    (search (rules, arith), (may-still c.requires.may inv.reads inv.keeps, (few-come inv.come.come both.1 small, (inv.come.come, both.1))))

pub loop-number-preserved : goal.loop-number-preserved
loop-number-preserved g c =
    let to_is : c.max-to.result ≡ max c.args.from (min c.args.end (next_of c.args.ring.now)) = c.max-to.ensures ∙ ap (λ n. max c.args.from n) (c.min.ensures ∙ ap (λ n. min c.args.end n) (c.from.ensures ∙ c.next_number.ensures)) in
    let inv = c.loop-number.invariant in
    let both = before-both _ _ _ _ _ to_is c.loop-number-test.true inv.from in
    let saw = c.in_ok-see_one.ensures in
    let number = c.loop-number.number in
    let old = g.F.Flash.state c.args.flash.now in
    let flash = g.F.Flash.state c.loop-number.flash in
    let ring = c.args.ring.now in
    let layout = layout_of c.args.schema.now in
    record {
      from = one-on _ _ inv.from;
      come = come-then _ (one-step _ _ inv.from) inv.come saw.come;
      reads = reads-then _ (one-step _ _ inv.from) inv.reads saw.reads;
      keeps = keeps-then inv.keeps saw.keeps;
      knows = λ error t k is h.
          let before = inv.knows error t k is h in
          let next = is-next t k number c.args.from c.args.end layout ring old c.args.bitmaps.now c.args.counts.now c.loop-number.counts is inv.from inv.come.come.low both.0 both.1 inv.keeps.size in
          let one = saw.knows (told_still old flash _ inv.reads is.told) error t k (number - t.oldest) (rows-still t layout ring old flash _ inv.reads is.rows) next
          (tells-next t k number c.args.from c.args.end layout ring old c.args.bitmaps.now c.args.counts.now is inv.from both.0 next.at next.lt) before.0 in (
            one-more error t k number c.see_one.new.known c.see_one.new.counts c.see_one.new.index next.at one.0,
            seen-few t number (c.args.from - t.oldest) (number + 1) _ _ _ next.at (le_refl (number + 1)) before.1 one.2,
          );
    }

pub returns-clause-to : goal.returns-clause-to
returns-clause-to g c = c.max-to.ensures ∙ ap (λ n. max c.args.from n) (c.min.ensures ∙ ap (λ n. min c.args.end n) (c.from.ensures ∙ c.next_number.ensures))

pub returns-clause-knows : goal.returns-clause-knows
returns-clause-knows g c =
    let to_is : c.max-to.result ≡ max c.args.from (min c.args.end (next_of c.args.ring.now)) = c.max-to.ensures ∙ ap (λ n. max c.args.from n) (c.min.ensures ∙ ap (λ n. min c.args.end n) (c.from.ensures ∙ c.next_number.ensures)) in
    let last : c.loop-number.number ≡ c.max-to.result = at-end _ _ _ _ _ to_is c.loop-number-test.false c.loop-number.auto.number-end in
    λ error t k is h.
    let all = c.loop-number.invariant.knows error t k is h in (
      subst (λ n. KnowsWith error t k (n - t.oldest) c.loop-number.known c.loop-number.counts c.loop-number.index) last all.0,
      tt,
      subst (λ n. (g.F.Flash.state c.loop-number.flash).work.reads + unlisted_of t t.oldest (c.args.from - t.oldest) ≤ (g.F.Flash.state c.args.flash.now).work.reads + unlisted_of t t.oldest (n - t.oldest)) (last ∙ to_is) all.1,
    )

pub returns-clause-come : goal.returns-clause-come
returns-clause-come g c =
    let to_is : c.max-to.result ≡ max c.args.from (min c.args.end (next_of c.args.ring.now)) = c.max-to.ensures ∙ ap (λ n. max c.args.from n) (c.min.ensures ∙ ap (λ n. min c.args.end n) (c.from.ensures ∙ c.next_number.ensures)) in
    let last : c.loop-number.number ≡ c.max-to.result = at-end _ _ _ _ _ to_is c.loop-number-test.false c.loop-number.auto.number-end in
    subst (λ n. HasComeBy c.args.ring.now n (n - c.args.from) (g.F.Flash.state c.args.flash.now) c.args.known.now c.loop-number.known (g.F.Flash.state c.loop-number.flash)) last c.loop-number.invariant.come

pub returns-clause-reads : goal.returns-clause-reads
returns-clause-reads g c =
    let to_is : c.max-to.result ≡ max c.args.from (min c.args.end (next_of c.args.ring.now)) = c.max-to.ensures ∙ ap (λ n. max c.args.from n) (c.min.ensures ∙ ap (λ n. min c.args.end n) (c.from.ensures ∙ c.next_number.ensures)) in
    subst (λ n. OnlyReads (g.F.Flash.state c.args.flash.now) (n - c.args.from) (g.F.Flash.state c.loop-number.flash)) (at-end _ _ _ _ _ to_is c.loop-number-test.false c.loop-number.auto.number-end ∙ to_is) c.loop-number.invariant.reads

pub returns-clause-keeps : goal.returns-clause-keeps
returns-clause-keeps g c = c.loop-number.invariant.keeps

pub returns-clause-fails : goal.returns-clause-fails
returns-clause-fails g c = tt

pub returns-in_err-see_one-clause-to : goal.returns-in_err-see_one-clause-to
returns-in_err-see_one-clause-to g c = no-success _ _ c.from_residual.result c.from_residual.ensures.1

pub returns-in_err-see_one-clause-knows : goal.returns-in_err-see_one-clause-knows
returns-in_err-see_one-clause-knows g c =
    let to_is : c.max-to.result ≡ max c.args.from (min c.args.end (next_of c.args.ring.now)) = c.max-to.ensures ∙ ap (λ n. max c.args.from n) (c.min.ensures ∙ ap (λ n. min c.args.end n) (c.from.ensures ∙ c.next_number.ensures)) in
    let inv = c.loop-number.invariant in
    let both = before-both _ _ _ _ _ to_is c.loop-number-test.true inv.from in
    let saw = c.in_err-see_one.ensures in
    let number = c.loop-number.number in
    let old = g.F.Flash.state c.args.flash.now in
    let flash = g.F.Flash.state c.loop-number.flash in
    let ring = c.args.ring.now in
    let layout = layout_of c.args.schema.now in
    λ error t k is h.
    let p = err_from_is_err_and c.from_residual.result c.from_residual.ensures.1 in
    let before = inv.knows error t k is h in
    let next = is-next t k number c.args.from c.args.end layout ring old c.args.bitmaps.now c.args.counts.now c.loop-number.counts is inv.from inv.come.come.low both.0 both.1 inv.keeps.size in
    let one = saw.knows (told_still old flash _ inv.reads is.told) error t k (number - t.oldest) (rows-still t layout ring old flash _ inv.reads is.rows) next
    (tells-next t k number c.args.from c.args.end layout ring old c.args.bitmaps.now c.args.counts.now is inv.from both.0 next.at next.lt) before.0 in
    rw (p.1, p.2) (tt, one.1, seen-few t number (c.args.from - t.oldest) _ _ _ _ next.at (within-all _ _ _ _ both.0 both.1) before.1 one.2)

pub returns-in_err-see_one-clause-come : goal.returns-in_err-see_one-clause-come
returns-in_err-see_one-clause-come g c = no-success _ _ c.from_residual.result c.from_residual.ensures.1

pub returns-in_err-see_one-clause-reads : goal.returns-in_err-see_one-clause-reads
returns-in_err-see_one-clause-reads g c =
    let to_is : c.max-to.result ≡ max c.args.from (min c.args.end (next_of c.args.ring.now)) = c.max-to.ensures ∙ ap (λ n. max c.args.from n) (c.min.ensures ∙ ap (λ n. min c.args.end n) (c.from.ensures ∙ c.next_number.ensures)) in
    let inv = c.loop-number.invariant in
    reads-then _ (below-end _ _ _ inv.from (subst (λ n. c.loop-number.number < n) to_is c.loop-number-test.true)) inv.reads c.in_err-see_one.ensures.reads

pub returns-in_err-see_one-clause-keeps : goal.returns-in_err-see_one-clause-keeps
returns-in_err-see_one-clause-keeps g c = keeps-then c.loop-number.invariant.keeps c.in_err-see_one.ensures.keeps

pub returns-in_err-see_one-clause-fails : goal.returns-in_err-see_one-clause-fails
returns-in_err-see_one-clause-fails g c =
    let p = err_from_is_err_and c.from_residual.result c.from_residual.ensures.1 in
    rw (p.1, p.2) (fails-then c.loop-number.invariant.reads c.in_err-see_one.ensures.fails)
