-- How two writes in order answer for a pair of them.
use Rattle.std.proofs.Common.{◌≡◌, ℕ, ◌+◌, ◌≤◌, true, false, List, length, take, drop, max, Result, Ok, Err, refl, sym, ap, subst, arith}
use Rattle.std.proofs.lemmas.List.{length-take-le}
use Rattle.std.specs.Result.{is_err}
use Rattle.fl_flash.specs.declared.media.PairFailed.{PairFailed}
use Rattle.fl_flash.specs.declared.media.PairFailed.TheVariants.{First, Second}
use Rattle.fl_flash.specs.Media.{MediaState, WriteAt, WritesSecond}
use Rattle.fl_flash.specs.MemState.{MemState, media_state, Writes, WritesBoth}

-- an answer in another type of errors
done_as : {E F : Type 0} (old new : MediaState) (at : ℕ) (bytes : List ℕ) (r : Result (Unit {0}) E) → is_err r ≡ false → WriteAt old at bytes r new → WriteAt {E = F} old at bytes (Ok tt) new
done_as old new at bytes (Err e) ok w = absurd (cc ok)
done_as old new at bytes (Ok u) ok w = record {
  tells = w.tells;
  reads = w.reads;
  extent = w.extent;
  no_shorter = w.no_shorter;
  no_longer = w.no_longer;
  bytes = w.bytes;
  torn = λ t. tt;
  cause = record { later = w.cause.later; failed = tt };
}

failed_as : {E F : Type 0} (old new : MediaState) (at : ℕ) (bytes : List ℕ) (r : Result (Unit {0}) E) (f : F) → is_err r ≡ true → WriteAt old at bytes r new → WriteAt old at bytes (Err f) new
failed_as old new at bytes (Ok u) f err w = absurd (cc err)
failed_as old new at bytes (Err e) f err w = record {
  tells = w.tells;
  reads = w.reads;
  extent = tt;
  no_shorter = w.no_shorter;
  no_longer = w.no_longer;
  bytes = λ t. tt;
  torn = w.torn;
  cause = record { later = w.cause.later; failed = w.cause.failed };
}

module _ {E : Type 0} (old mid : MediaState) (at split : ℕ) (bytes front back : List ℕ) (fits : split ≤ length bytes) (is_front : front ≡ take split bytes) (is_back : back ≡ drop split bytes)
    (first : Result (Unit {0}) E) (w : WriteAt old at front first mid) where
  -- the first of them fails
  pub first_failed : is_err first ≡ true → WriteAt old at (take split bytes) (Err First) mid
  first_failed err = subst (λ (l : List ℕ). WriteAt old at l (Err First) mid) is_front (failed_as old mid at front first First err w)

  -- where it ends
  pub reaches : is_err first ≡ false → at + split ≤ length mid.content
  reaches done =
      let extent : length mid.content ≡ max (length old.content) (at + length front) = (done_as {F = PairFailed} old mid at front first done w).extent in
      omega (arith, extent, ap length is_front, length-take-le split bytes fits)

  module _ (done : is_err first ≡ false) (new : MediaState) (second : Result (Unit {0}) E) (v : WriteAt mid (at + split) back second new) where
    follows : (result : Result (Unit {0}) PairFailed) → WriteAt mid (at + split) back result new → WritesSecond old at (take split bytes) (drop split bytes) result new
    follows result ends = record {
      between = mid;
      first_done = subst (λ (l : List ℕ). WriteAt {E = PairFailed} old at l (Ok tt) mid) is_front (done_as old mid at front first done w);
      then = subst (λ (n : ℕ). WriteAt mid (at + n) (drop split bytes) result new) (sym (length-take-le split bytes fits)) (subst (λ (l : List ℕ). WriteAt mid (at + split) l result new) is_back ends);
    }

    -- both are done
    pub both_written : is_err second ≡ false → WritesSecond old at (take split bytes) (drop split bytes) (Ok tt) new
    both_written ok = follows (Ok tt) (done_as mid new (at + split) back second ok v)

    -- the second one fails
    pub second_failed : is_err second ≡ true → WritesSecond old at (take split bytes) (drop split bytes) (Err Second) new
    second_failed err = follows (Err Second) (failed_as mid new (at + split) back second Second err v)

-- ---- the same of a medium in memory

writes_done : {E : Type 0} (old new : MemState) (at : ℕ) (bytes : List ℕ) (r : Result (Unit {0}) E) → is_err r ≡ false → Writes old at bytes r new → Writes {E = PairFailed} old at bytes (Ok tt) new
writes_done old new at bytes (Err e) ok w = absurd (cc ok)
writes_done old new at bytes (Ok u) ok w = record {
  write = done_as (media_state old) (media_state new) at bytes (Ok u) ok w.write;
  fails = (λ e. absurd (cc e), λ cause. absurd (let e = w.fails.1 cause in cc e));
  counts = record { calls = w.counts.calls; counts_down = w.counts.counts_down; room = w.counts.room; no_fault = w.counts.no_fault; one_fault = tt };
  unchanged = tt;
}

writes_failed : {E : Type 0} (old new : MemState) (at : ℕ) (bytes : List ℕ) (r : Result (Unit {0}) E) (f : PairFailed) → is_err r ≡ true → Writes old at bytes r new → Writes old at bytes (Err f) new
writes_failed old new at bytes (Ok u) f err w = absurd (cc err)
writes_failed old new at bytes (Err e) f err w = record {
  write = failed_as (media_state old) (media_state new) at bytes (Err e) f err w.write;
  fails = (λ e. w.fails.0 refl, λ cause. refl);
  counts = record { calls = w.counts.calls; counts_down = w.counts.counts_down; room = w.counts.room; no_fault = tt; one_fault = w.counts.one_fault };
  unchanged = w.unchanged;
}

module _ {E : Type 0} (old mid : MemState) (at split : ℕ) (bytes front back : List ℕ) (fits : split ≤ length bytes) (is_front : front ≡ take split bytes) (is_back : back ≡ drop split bytes)
    (first : Result (Unit {0}) E) (w : Writes old at front first mid) where
  pub each_first : is_err first ≡ true → Writes old at (take split bytes) (Err First) mid
  each_first err = subst (λ (l : List ℕ). Writes old at l (Err First) mid) is_front (writes_failed old mid at front first First err w)

  module _ (done : is_err first ≡ false) (new : MemState) (second : Result (Unit {0}) E) (v : Writes mid (at + split) back second new) where
    each_follows : (result : Result (Unit {0}) PairFailed) → Writes mid (at + split) back result new → WritesBoth old at (take split bytes) (drop split bytes) result new
    each_follows result ends = record {
      between = mid;
      first_done = subst (λ (l : List ℕ). Writes {E = PairFailed} old at l (Ok tt) mid) is_front (writes_done old mid at front first done w);
      then = subst (λ (n : ℕ). Writes mid (at + n) (drop split bytes) result new) (sym (length-take-le split bytes fits)) (subst (λ (l : List ℕ). Writes mid (at + split) l result new) is_back ends);
    }

    pub each_done : is_err second ≡ false → WritesBoth old at (take split bytes) (drop split bytes) (Ok tt) new
    each_done ok = each_follows (Ok tt) (writes_done mid new (at + split) back second ok v)

    pub each_second : is_err second ≡ true → WritesBoth old at (take split bytes) (drop split bytes) (Err Second) new
    each_second err = each_follows (Err Second) (writes_failed mid new (at + split) back second Second err v)
