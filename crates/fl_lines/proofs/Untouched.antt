-- A stream of lines whose source wasn't read since a line was asked for.
use Rattle.std.proofs.Common.{◌≡◌, ◌≤◌, ℕ, false, inl, inr, Option, Some, Ok, List, ◌++◌, length, refl, ◌∙◌, ap, subst, arith}
use Rattle.fl_lines.specs.Stream.{LinesState, Fills, IsOneLine, NeedsNoMore}

-- where what was ahead decides the answer, nothing has changed
unfoldable pub Untouched : {X : Type 0} → LinesState → LinesState → X → X → Type 0
Untouched old mid before now = NeedsNoMore old → (mid ≡ old) × (now ≡ before)

pub untouched-first : {X : Type 0} (s : LinesState) (x : X) → Untouched s s x x
unfolding Untouched
untouched-first s x n = (refl, refl)

pub untouched-source : {X : Type 0} (old mid : LinesState) (before now : X) → Untouched old mid before now → NeedsNoMore old → now ≡ before
unfolding Untouched
untouched-source old mid before now first n = (first n).1

-- where a part of a line is ahead, more bytes are needed
pub needs-more : {X : Type 0} (old mid : LinesState) (before now : X) → Untouched old mid before now → old.closed ≡ false → IsOneLine mid.ahead → length mid.ahead ≤ 4096 → NeedsNoMore old → ⊥
unfolding Untouched
needs-more old mid before now first is_open one short (inl closed) = cc
needs-more old mid before now first is_open one short (inr (inl whole)) = whole (subst (λ (s : LinesState). IsOneLine s.ahead) (first (inr (inl whole))).0 one)
needs-more old mid before now first is_open one short (inr (inr long)) = omega (arith, ap (λ (s : LinesState). length s.ahead) (first (inr (inr long))).0)

pub untouched-more : {X : Type 0} (old mid new : LinesState) (before now later : X) → Untouched old mid before now → old.closed ≡ false → IsOneLine mid.ahead → length mid.ahead ≤ 4096 → Untouched old new before later
unfolding Untouched
untouched-more old mid new before now later first is_open one short n = absurd (needs-more old mid before now first is_open one short n)

-- what was ahead and what the source had left, after more bytes were taken
pub told-more : (E : Type 0) (old mid new : List ℕ) (left_old left_mid left_new : Option (List ℕ)) (n : ℕ) →
    ((left : List ℕ) → left_old ≡ Some left → (now : List ℕ) × (left_mid ≡ Some now) × (old ++ left ≡ mid ++ now)) →
    Fills {E = E} mid left_mid (Ok n) new left_new →
    (left : List ℕ) → left_old ≡ Some left → (now : List ℕ) × (left_new ≡ Some now) × (old ++ left ≡ new ++ now)
told-more E old mid new left_old left_mid left_new n told taken left is =
    let t = told left is in
    let h = subst (λ (l : Option (List ℕ)). Fills {E = E} mid l (Ok n) new left_new) t.1 taken in
    (h.0, h.1, t.2 ∙ h.2.split)
