-- A write of a pair that is two programs.
use Rattle.std.proofs.Common.{◌≡◌, ℕ, ◌+◌, ◌≤◌, true, List, length, slice_range, Result, Ok, Err, IsTrue, refl, sym, ◌∙◌, ap, subst, arith}
use Rattle.fl_flash.specs.declared.media.PairFailed.{PairFailed}
use Rattle.fl_flash.specs.declared.media.PairFailed.TheVariants.{First, Second}
use Rattle.fl_flash.specs.Flash.{all_zero, and_bytes}
use Rattle.fl_flash.specs.Media.{MediaState, WriteAt, WritesSecond, WritesPair}
use Rattle.fl_flash.specs.Programs.{left_at, ReadsFew, SecondEnds, ProgramsBoth}
use Rattle.fl_flash.specs.Tear.{Rewrites}
use Rattle.fl_flash.proofs.Clean.{and_zeros}
use Rattle.fl_flash.proofs.Pages.{length-slice}
use Rattle.fl_flash.proofs.RangeOperations.{rewrites_from, rewrites_after, reads_after}

module _ (old : MediaState) (at : ℕ) (first second part : List ℕ) (size : length part ≡ length first) (part_is : IsTrue old.tells → part ≡ left_at old at first)
    (within : at + (length first + length second) ≤ length old.content) (zeros : all_zero second ≡ true) where
  first_rewrites : (result : Result (Unit {0}) PairFailed) (new : MediaState) → WriteAt old at part result new → Rewrites old at (length first) (left_at old at first) result new
  first_rewrites result new w = rewrites_from old old new at (length first) part (left_at old at first) result refl refl (omega arith) w (omega (arith, size)) (omega (arith, within)) part_is

  -- a write reads nothing
  reads_none : (new : MediaState) → new.reads ≡ old.reads → ReadsFew old first new
  reads_none new same = record { few = omega (arith, same); none = λ z. same }

  second_ends : (result : Result (Unit {0}) PairFailed) (new : MediaState) → WritesSecond old at part second result new → SecondEnds old at first second result new
  second_ends result new w = record {
    between = between;
    first_done = done;
    reads = reads_none between w.first_done.reads;
    then = rewrites_from between between new behind (length second) second (left_at between behind second) result refl refl (omega arith)
        (subst (λ (k : ℕ). WriteAt between (at + k) second result new) size w.then) (omega arith) inside (λ t. sym stays);
    no_read = w.then.reads;
  }
    where
      between : MediaState
      between = w.between

      behind : ℕ
      behind = at + length first

      done : Rewrites {E = PairFailed} old at (length first) (left_at old at first) (Ok tt) between
      done = first_rewrites (Ok tt) between w.first_done

      inside : behind + length second ≤ length between.content
      inside = omega (arith, within, done.size)

      stays : left_at between behind second ≡ second
      stays = and_zeros (slice_range between.content behind (behind + length second)) second (length-slice between.content behind (behind + length second) (omega arith) inside ∙ omega arith) zeros

  second_reads : (result : Result (Unit {0}) PairFailed) (new : MediaState) → WritesSecond old at part second result new → new.reads ≡ old.reads
  second_reads result new w = w.then.reads ∙ w.first_done.reads

  -- and so do two of them
  pub pair_reads : (result : Result (Unit {0}) PairFailed) (new : MediaState) → WritesPair old at part second result new → new.reads ≡ old.reads
  pair_reads (Ok u) new w = second_reads (Ok u) new w
  pair_reads (Err Second) new w = second_reads (Err Second) new w
  pair_reads (Err First) new w = w.reads

  pub both_end : (result : Result (Unit {0}) PairFailed) (new : MediaState) → WritesPair old at part second result new → ProgramsBoth old at first second result new
  both_end (Ok u) new w = second_ends (Ok u) new w
  both_end (Err Second) new w = second_ends (Err Second) new w
  both_end (Err First) new w = record { first_failed = first_rewrites (Err First) new w; reads = reads_none new w.reads }

-- the medium's size stays
pub both_size : (old new : MediaState) (at : ℕ) (first second : List ℕ) (result : Result (Unit {0}) PairFailed) → ProgramsBoth old at first second result new → length new.content ≡ length old.content
both_size old new at first second (Ok u) ends = ends.then.size ∙ ends.first_done.size
both_size old new at first second (Err Second) ends = ends.then.size ∙ ends.first_done.size
both_size old new at first second (Err First) ends = ends.first_failed.size

-- a look before them
module _ (old mid new : MediaState) (at : ℕ) (first second : List ℕ) (tells : mid.tells ≡ old.tells) (content : mid.content ≡ old.content) (later : old.faults ≤ mid.faults) (reads : ReadsFew old first mid) where
  left_same : (k : ℕ) (bytes : List ℕ) → left_at mid k bytes ≡ left_at old k bytes
  left_same k bytes = ap (λ (c : List ℕ). and_bytes (slice_range c k (k + length bytes)) bytes) content

  reads_then : (m : MediaState) → m.reads ≡ mid.reads → ReadsFew old first m
  reads_then m same = reads_after old mid m first reads same

  first_after : (result : Result (Unit {0}) PairFailed) (m : MediaState) → Rewrites mid at (length first) (left_at mid at first) result m → Rewrites old at (length first) (left_at old at first) result m
  first_after result m r = rewrites_after old mid m at (length first) (left_at mid at first) (left_at old at first) result tells content later (left_same at first) r

  second_after : (result : Result (Unit {0}) PairFailed) → SecondEnds mid at first second result new → new.reads ≡ mid.reads → SecondEnds old at first second result new
  second_after result ends same = record {
    between = ends.between;
    first_done = first_after (Ok tt) ends.between ends.first_done;
    reads = reads_then ends.between (sym ends.no_read ∙ same);
    then = ends.then;
    no_read = ends.no_read;
  }

  pub both_after : (result : Result (Unit {0}) PairFailed) → ProgramsBoth mid at first second result new → new.reads ≡ mid.reads → ProgramsBoth old at first second result new
  both_after (Ok u) ends same = second_after (Ok u) ends same
  both_after (Err Second) ends same = second_after (Err Second) ends same
  both_after (Err First) ends same = record { first_failed = first_after (Err First) new ends.first_failed; reads = reads_then new same }
