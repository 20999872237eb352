-- A pair of writes, of which the system may have taken a front by one call.
use Rattle.std.proofs.Common.{◌≡◌, ℕ, ◌+◌, ◌-◌, ◌≤◌, max, false, List, length, take, drop, replicate, Result, Ok, Err, OnOk, refl, arith}
use Rattle.std.proofs.lemmas.List.{length-take-le, length-drop, length-replicate}
use Rattle.std.specs.Result.{is_err}
use Rattle.fl_base.specs.Causes.{Rose}
use Rattle.fl_flash.specs.declared.media.PairFailed.{PairFailed}
use Rattle.fl_flash.specs.declared.media.PairFailed.TheVariants.{Second}
use Rattle.fl_flash.specs.Media.{MediaState, WriteAt, WritesSecond}

-- a medium that doesn't tell its bytes
abbrev pub untold : ℕ → ℕ → ℕ → MediaState
untold len faults reads = record { tells = false; content = replicate len 0; faults = faults; reads = reads }

module _ (reads faults faults_now len len_now at : ℕ) (bytes : List ℕ) (later : faults ≤ faults_now) where
  old : length {A = ℕ} (replicate len 0) ≡ len
  old = length-replicate len 0

  new : length {A = ℕ} (replicate len_now 0) ≡ len_now
  new = length-replicate len_now 0

  write_done : len_now ≡ max len (at + length bytes) → WriteAt {E = PairFailed} (untold len faults reads) at bytes (Ok tt) (untold len_now faults_now reads)
  write_done is = record {
    tells = refl;
    reads = refl;
    extent = omega (arith, old, new, is);
    no_shorter = omega (arith, old, new, is);
    no_longer = omega (arith, old, new, is);
    bytes = λ t. absurd (cc t);
    torn = λ t. tt;
    cause = record { later = later; failed = tt };
  }

  write_failed : (e : PairFailed) → len ≤ len_now → len_now ≤ max len (at + length bytes) → Rose faults faults_now → WriteAt {E = PairFailed} (untold len faults reads) at bytes (Err e) (untold len_now faults_now reads)
  write_failed e low high rose = record {
    tells = refl;
    reads = refl;
    extent = tt;
    no_shorter = omega (arith, old, new, low);
    no_longer = omega (arith, old, new, high);
    bytes = λ t. tt;
    torn = λ t. absurd (cc t);
    cause = record { later = later; failed = rose };
  }

-- `count` of the bytes were taken at once, and from `len` on `len_first` is the length behind the first part
module _ (reads faults len at split count : ℕ) (bytes : List ℕ) (fits : split ≤ length bytes) (some : count ≤ length bytes) (faults_first len_first : ℕ) (later : faults ≤ faults_first) where
  front : length (take split bytes) ≡ split
  front = length-take-le split bytes fits

  back : length (drop split bytes) ≡ length bytes - split
  back = length-drop split bytes

  module _ (first_is : len_first ≡ max (max len (at + count)) (at + split)) (faults_now len_now : ℕ) (later_now : faults_first ≤ faults_now) where
    middle : WriteAt {E = PairFailed} (untold len faults reads) at (take split bytes) (Ok tt) (untold (max len (at + split)) faults_first reads)
    middle = write_done reads faults faults_first len (max len (at + split)) at (take split bytes) later (omega (arith, front))

    pub both_done : len_now ≡ max len_first (at + length bytes) → WritesSecond (untold len faults reads) at (take split bytes) (drop split bytes) (Ok tt) (untold len_now faults_now reads)
    both_done is = record {
      between = untold (max len (at + split)) faults_first reads;
      first_done = middle;
      then = write_done reads faults_first faults_now (max len (at + split)) len_now (at + length (take split bytes)) (drop split bytes) later_now (omega (arith, front, back, is, first_is, fits, some));
    }

    pub second_lost : len_first ≤ len_now → len_now ≤ max len_first (at + length bytes) → Rose faults_first faults_now → WritesSecond (untold len faults reads) at (take split bytes) (drop split bytes) (Err Second) (untold len_now faults_now reads)
    second_lost low high rose = record {
      between = untold (max len (at + split)) faults_first reads;
      first_done = middle;
      then = write_failed reads faults_first faults_now (max len (at + split)) len_now (at + length (take split bytes)) (drop split bytes) later_now Second (omega (arith, low, first_is)) (omega (arith, front, back, high, first_is, fits, some)) rose;
    }

-- what a write says of the lengths alone
module _ {E : Type 0} (reads reads_now faults faults_now len len_now at : ℕ) (bytes : List ℕ) where
  pub end_of : (u : Unit {0}) → WriteAt {E = E} (untold len faults reads) at bytes (Ok u) (untold len_now faults_now reads_now) → len_now ≡ max len (at + length bytes)
  end_of u w = omega (arith, w.extent, length-replicate {A = ℕ} len 0, length-replicate {A = ℕ} len_now 0)

  pub ends_within : (e : E) → WriteAt (untold len faults reads) at bytes (Err e) (untold len_now faults_now reads_now) → (len ≤ len_now) × (len_now ≤ max len (at + length bytes))
  ends_within e w = (
    omega (arith, w.no_shorter, length-replicate {A = ℕ} len 0, length-replicate {A = ℕ} len_now 0),
    omega (arith, w.no_longer, length-replicate {A = ℕ} len 0, length-replicate {A = ℕ} len_now 0),
  )

-- a fact of an answer that is no error
pub ok_of : {T E P : Type 0} (r : Result T E) → is_err r ≡ false → OnOk r P → P
ok_of (Ok u) ok p = p
ok_of (Err e) ok p = absurd (cc ok)
