-- The next line of an input, behind what is left of a line that is too long.
use Rattle.std.proofs.Common.{◌≡◌, ℕ, ◌+◌, ◌<◌, Bool, true, false, inl, inr, nat_lt, Option, Some, Ok, List, [], ◌∷◌, ◌++◌, length, refl, sym, ◌∙◌, ap, length-append, arith}
use Rattle.std.specs.Prelude.{if◌then◌else◌}
use Rattle.std.proofs.lemmas.Bool.{ltb-true, ltb-false}
use Rattle.fl_lines.specs.Stream.{LinesState, Advances, Gives, LeavesRest, IsOneLine}
use Rattle.fl_lines.proofs.Parts.{lines-line, lines-rest}
use Rattle.fl_words.specs.Grammar.{lines_of}
use Rattle.fl_shell.specs.Reading.{IsLeft, behind_newline, rest_in, GivesNext}
use Rattle.fl_shell.proofs.Newlines.{behind-front, behind-line, behind-last, long-line}

-- a text, or what stands behind its first newline
abbrev pub from_rest : Bool → List ℕ → List ℕ
from_rest is_rest text = if is_rest then behind_newline text else text

-- what was left of the input before is what is left of it now, behind the rest of a line
pub record LeftOver (old : LinesState) (left : List ℕ) (most total : ℕ) (is_rest : Bool) (now : LinesState) (left_now : Option (List ℕ)) : Type 0 where
  pub rest : List ℕ
  pub told : left_now ≡ Some rest
  pub within : IsLeft now rest most total
  pub is : rest_in old left ≡ from_rest is_rest (now.ahead ++ rest)

-- a line that is given has no newline
one-line : (old new : LinesState) (rest left : List ℕ) → Gives old rest (Ok true) new left → IsOneLine new.line
one-line old new rest left (inl w) = w.one
one-line old new rest left (inr (inl w)) = w.one
one-line old new rest left (inr (inr w)) = w.one

not-open : (b : Bool) → b ≡ false → b ≡ true → List ℕ → ⊥
not-open true e k xs = cc
not-open false e k xs = cc

-- what is left behind a line that was given whole
pub behind-given : (old new : LinesState) (rest left : List ℕ) → Gives old rest (Ok true) new left → nat_lt 4096 (length new.line) ≡ false → behind_newline rest ≡ new.ahead ++ left
behind-given old new rest left (inl w) short = ap behind_newline w.split ∙ behind-line new.line (new.ahead ++ left) w.one
behind-given old new rest left (inr (inl w)) short = ap behind_newline w.split ∙ (behind-last new.line w.one ∙ sym w.nothing)
behind-given old new rest left (inr (inr w)) short = absurd (omega (arith, w.long, ltb-false 4096 (length new.line) short))

pub lines-given : (old new : LinesState) (rest left : List ℕ) → Gives old rest (Ok true) new left → nat_lt 4096 (length new.line) ≡ false → lines_of rest ≡ new.line ∷ lines_of (new.ahead ++ left)
lines-given old new rest left (inl w) short = ap lines_of w.split ∙ lines-line new.line (new.ahead ++ left) w.one
lines-given old new rest left (inr (inl w)) short = ap lines_of w.split ∙ (lines-rest new.line w.one w.some ∙ ap (λ r. new.line ∷ lines_of r) (sym w.nothing))
lines-given old new rest left (inr (inr w)) short = absurd (omega (arith, w.long, ltb-false 4096 (length new.line) short))

-- what may still be given
left-given : (old new : LinesState) (rest left : List ℕ) (most total : ℕ) → (old.closed ≡ false → length rest + most ≡ total + old.most) → Gives old rest (Ok true) new left → nat_lt 4096 (length new.line) ≡ false → IsLeft new left most total
left-given old new rest left most total counted (inl w) short = record {
  ended = λ closed. absurd (not-open new.closed w.open_now closed []);
  counted = λ open_now. omega (arith, counted w.open_before, ap length w.split, length-append new.line (10 ∷ (new.ahead ++ left)), w.fits, w.most);
}
left-given old new rest left most total counted (inr (inl w)) short = record { ended = λ closed. w.nothing; counted = λ open_now. absurd (not-open new.closed open_now w.closed_now []) }
left-given old new rest left most total counted (inr (inr w)) short = absurd (omega (arith, w.long, ltb-false 4096 (length new.line) short))

-- .. behind the front of a line that is too long
left-behind : (old new : LinesState) (rest : List ℕ) (most total : ℕ) (left_now : Option (List ℕ)) → (old.closed ≡ false → length rest + most ≡ total + old.most) → old.closed ≡ false → (r : LeavesRest old.most rest new left_now) → IsLeft new r.left most total
left-behind old new rest most total left_now counted is_open r = record {
  ended = λ closed. absurd (not-open new.closed r.open_now closed []);
  counted = λ open_now. omega (arith, counted is_open, ap length r.split, length-append new.line (new.ahead ++ r.left), r.fits, r.most_now);
}

-- a line is given of a text that hasn't ended
was-open : (old new : LinesState) (rest left : List ℕ) → (old.closed ≡ true → rest ≡ []) → Gives old rest (Ok true) new left → 4096 < length new.line → old.closed ≡ false
was-open old new rest left ended (inl w) long = w.open_before
was-open old new rest left ended (inr (inl w)) long = w.open_before
was-open old new rest left ended (inr (inr w)) long = by_closed old.closed refl
  where
    by_closed : (b : Bool) → old.closed ≡ b → old.closed ≡ false
    by_closed true e = absurd (omega (arith, long, ap length (sym w.split ∙ ended e), length-append new.line w.others))
    by_closed false e = e

-- the rest of a line that is too long goes on, or has ended
pub over-rest : (old mid new : LinesState) (left : List ℕ) (most total : ℕ) (left_mid left_now : Option (List ℕ)) (faults faults_now : ℕ) → LeftOver old left most total true mid left_mid → Advances mid left_mid faults (Ok true) new left_now faults_now →
    (4096 < length new.line → (l : List ℕ) → left_mid ≡ Some l → LeavesRest mid.most (mid.ahead ++ l) new left_now) → LeftOver old left most total (nat_lt 4096 (length new.line)) new left_now
over-rest old mid new left most total left_mid left_now faults faults_now h a behind = by_length (nat_lt 4096 (length new.line)) refl
  where
    by_length : (b : Bool) → nat_lt 4096 (length new.line) ≡ b → LeftOver old left most total b new left_now
    by_length true long =
        let g = a.gives h.rest h.told h.within.ended in
        let one = one-line mid new (mid.ahead ++ h.rest) g.0 g.2 in
        let over : 4096 < length new.line = ltb-true 4096 (length new.line) long in
        let r = behind over h.rest h.told in
        record {
          rest = r.left;
          told = r.left_is;
          within = left-behind mid new (mid.ahead ++ h.rest) most total left_now h.within.counted (was-open mid new (mid.ahead ++ h.rest) g.0 h.within.ended g.2 over) r;
          is = h.is ∙ (ap behind_newline r.split ∙ behind-front new.line (new.ahead ++ r.left) one);
        }
    by_length false short =
        let g = a.gives h.rest h.told h.within.ended in
        record {
          rest = g.0;
          told = g.1;
          within = left-given mid new (mid.ahead ++ h.rest) g.0 most total h.within.counted g.2 short;
          is = h.is ∙ behind-given mid new (mid.ahead ++ h.rest) g.0 g.2 short;
        }

-- a line is given
pub gives-line : (old mid new : LinesState) (left : List ℕ) (most total : ℕ) (left_mid left_now : Option (List ℕ)) (faults faults_now : ℕ) → LeftOver old left most total false mid left_mid → Advances mid left_mid faults (Ok true) new left_now faults_now →
    (4096 < length new.line → (l : List ℕ) → left_mid ≡ Some l → LeavesRest mid.most (mid.ahead ++ l) new left_now) → (l_now : List ℕ) × (left_now ≡ Some l_now) × GivesNext old left most total (Ok true) new l_now
gives-line old mid new left most total left_mid left_now faults faults_now h a behind = by_length (nat_lt 4096 (length new.line)) refl
  where
    by_length : (b : Bool) → nat_lt 4096 (length new.line) ≡ b → (l_now : List ℕ) × (left_now ≡ Some l_now) × GivesNext old left most total (Ok true) new l_now
    by_length true long =
        let g = a.gives h.rest h.told h.within.ended in
        let one = one-line mid new (mid.ahead ++ h.rest) g.0 g.2 in
        let over : 4096 < length new.line = ltb-true 4096 (length new.line) long in
        let r = behind over h.rest h.told in
        let first = long-line new.line (new.ahead ++ r.left) one (omega (arith, over)) in (
          r.left,
          r.left_is,
          (
            left-behind mid new (mid.ahead ++ h.rest) most total left_now h.within.counted (was-open mid new (mid.ahead ++ h.rest) g.0 h.within.ended g.2 over) r,
            (
              first.0,
              inr (over, first.1),
              ap lines_of (h.is ∙ r.split) ∙ (first.2 ∙ ap (λ (b : Bool). first.0 ∷ lines_of (from_rest b (new.ahead ++ r.left))) (sym long)),
            ),
          ),
        )
    by_length false short =
        let g = a.gives h.rest h.told h.within.ended in (
          g.0,
          g.1,
          (
            left-given mid new (mid.ahead ++ h.rest) g.0 most total h.within.counted g.2 short,
            (
              new.line,
              inl refl,
              ap lines_of h.is ∙ (lines-given mid new (mid.ahead ++ h.rest) g.0 g.2 short ∙ ap (λ (b : Bool). new.line ∷ lines_of (from_rest b (new.ahead ++ g.0))) (sym short)),
            ),
          ),
        )
