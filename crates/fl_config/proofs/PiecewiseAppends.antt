-- Bytes appended piece by piece.
use Rattle.std.proofs.Common.{◌≡◌, ℕ, ◌+◌, ◌-◌, ◌≤◌, Result, Ok, Err, IsErr, List, ◌++◌, length, replicate, append_assoc, length-append, arith, rules, refl, sym, ◌∙◌, ap, subst, le_trans}
use Rattle.std.proofs.lemmas.Bool.{false≢true}
use Rattle.std.proofs.lemmas.List.{replicate-append-replicate, length-replicate}
use Rattle.std.proofs.Math.Nat.{sub_self}
use Rattle.fl_base.proofs.Risen.{rose-back}
use Rattle.fl_flash.specs.Media.{MediaState}
use Rattle.fl_config.specs.Opening.{Grown, GrownInPart, Grows}

pub grown-none : (old : MediaState) → Grown old (replicate 0 255) old
grown-none old = record { tells = refl; reads = refl; later = omega arith; len = omega arith; content = λ tells. search rules }

pub grown-more : (old mid new : MediaState) (xs ys : List ℕ) → Grown old xs mid → Grown mid ys new → Grown old (xs ++ ys) new
grown-more old mid new xs ys first then = record {
  tells = then.tells ∙ first.tells;
  reads = then.reads ∙ first.reads;
  later = le_trans first.later then.later;
  len = omega (arith, first.len, then.len, length-append xs ys);
  content = λ tells. then.content (first.tells ∙ tells) ∙ ap (λ l. l ++ ys) (first.content tells) ∙ append_assoc old.content xs ys;
}

pub grown-blank : (old mid new : MediaState) (m k n : ℕ) → Grown old (replicate m 255) mid → Grown mid (replicate k 255) new → m + k ≡ n → Grown old (replicate n 255) new
grown-blank old mid new m k n first then is =
    subst (λ l. Grown old l new) (replicate-append-replicate m k 255 ∙ ap (λ j. replicate j 255) is) (grown-more old mid new (replicate m 255) (replicate k 255) first then)

-- the medium failed behind what was appended, within what was to be
pub part-more : (old mid new : MediaState) (xs ys all : List ℕ) → Grown old xs mid → GrownInPart mid ys new → length xs + length ys ≤ length all → GrownInPart old all new
part-more old mid new xs ys all first then within = record {
  tells = then.tells ∙ first.tells;
  reads = then.reads ∙ first.reads;
  later = le_trans first.later then.later;
  rose = rose-back old.faults mid.faults new.faults first.later then.rose;
  most = omega (arith, then.most, first.len, within);
}

-- so many blank bytes, before the first piece, behind the last one, and where a piece fails
pub blank-begins : (old : MediaState) (count : ℕ) → Grown old (replicate (count - count) 255) old
blank-begins old count = subst (λ n. Grown old (replicate n 255) old) (sym (sub_self count)) (grown-none old)

pub blank-ends : (old new : MediaState) (count left : ℕ) → left ≤ 0 → Grown old (replicate (count - left) 255) new → Grown old (replicate count 255) new
blank-ends old new count left none grown =
    let all : count - left ≡ count = omega (arith, none) in
    subst (λ n. Grown old (replicate n 255) new) all grown

pub blank-fails : {E : Type 0} (result : Result (Unit {0}) E) (old mid new : MediaState) (count left piece : ℕ) → IsErr result → left ≤ count → piece ≤ left
    → Grown old (replicate (count - left) 255) mid → GrownInPart mid (replicate piece 255) new → Grows old (replicate count 255) result new
blank-fails (Ok done) old mid new count left piece is some few first then = absurd (false≢true is)
blank-fails (Err e) old mid new count left piece is some few first then =
    part-more old mid new (replicate (count - left) 255) (replicate piece 255) (replicate count 255) first then
    (omega (arith, some, few, length-replicate {A = ℕ} (count - left) 255, length-replicate {A = ℕ} piece 255, length-replicate {A = ℕ} count 255))
