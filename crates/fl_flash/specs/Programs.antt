-- What programs leave on a medium.
use Rattle.std.specs.Prelude.{◌≡◌, ℕ, ◌+◌, ◌≤◌, true, List, length, slice_range, Result, Ok, Err}
use Rattle.fl_base.specs.Causes.{HasCause}
use Rattle.fl_flash.specs.declared.media.PairFailed.{PairFailed}
use Rattle.fl_flash.specs.declared.media.PairFailed.TheVariants.{First, Second}
use Rattle.fl_flash.specs.Flash.{all_zero, and_bytes}
use Rattle.fl_flash.specs.Media.{MediaState}
use Rattle.fl_flash.specs.Tear.{Rewrites}

-- what a whole program of these bytes leaves in its range
abbrev pub left_at : MediaState → ℕ → List ℕ → List ℕ
left_at m at bytes = and_bytes (slice_range m.content at (at + length bytes)) bytes

-- a program of these bytes reads the medium once at most, and one of zeros never
pub record ReadsFew (old : MediaState) (bytes : List ℕ) (new : MediaState) : Type 0 where
  pub few : new.reads ≤ old.reads + 1
  pub none : all_zero bytes ≡ true → new.reads ≡ old.reads

-- a look at the medium before a program of these bytes changes nothing there
pub record Looks {T E : Type 0} (old : MediaState) (bytes : List ℕ) (result : Result T E) (new : MediaState) : Type 0 where
  pub tells : new.tells ≡ old.tells
  pub content : new.content ≡ old.content
  pub reads : ReadsFew old bytes new
  pub cause : HasCause old.faults new.faults result

-- the first of two programs done, and how the second ends, right behind it
pub record SecondEnds (old : MediaState) (at : ℕ) (first second : List ℕ) (result : Result (Unit {0}) PairFailed) (new : MediaState) : Type 0 where
  pub between : MediaState
  pub first_done : Rewrites {E = PairFailed} old at (length first) (left_at old at first) (Ok tt) between
  pub reads : ReadsFew old first between
  pub then : Rewrites between (at + length first) (length second) (left_at between (at + length first) second) result new
  pub no_read : new.reads ≡ between.reads

-- .. or the first one fails
pub record FirstEnds (old : MediaState) (at : ℕ) (first : List ℕ) (new : MediaState) : Type 0 where
  pub first_failed : Rewrites {E = PairFailed} old at (length first) (left_at old at first) (Err First) new
  pub reads : ReadsFew old first new

-- two programs in order, the second only where the first is done
abbrev pub ProgramsBoth : MediaState → ℕ → List ℕ → List ℕ → Result (Unit {0}) PairFailed → MediaState → Type 0
ProgramsBoth old at first second (Ok u) new = SecondEnds old at first second (Ok u) new
ProgramsBoth old at first second (Err Second) new = SecondEnds old at first second (Err Second) new
ProgramsBoth old at first second (Err First) new = FirstEnds old at first new
