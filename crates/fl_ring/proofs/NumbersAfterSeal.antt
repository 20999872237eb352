-- The numbers of a ring after one page more.
use Rattle.std.proofs.Common.{◌≡◌, ℕ, ◌+◌, ◌-◌, ◌^◌, ◌≤◌, ◌<◌, Bool, true, false, if◌then◌else◌, List, [], ◌∷◌, ◌++◌, length, drop, Option, Fits, w32, sym, ◌∙◌, ap, subst, arith, length-append, length-drop}
use Rattle.fl_ring.specs.declared.ring.Ring.{Ring}
use Rattle.fl_ring.specs.Place.{shape_of, StandsFor}
use Rattle.fl_ring.specs.Ring.{Shape, RingState, count, IsShape, IsRing, is_due_at, appended, trimmed, erased}
use Rattle.fl_ring.proofs.Facts.{due_true, two_blocks}

-- the oldest number stays below the next
pub oldest_fits : (r : Shape) (next old : ℕ) → IsShape r → is_due_at r next (next - old) ≡ true → old + r.per_block ≤ next
oldest_fits r next old shape e = let due = due_true r next (next - old) shape e in omega (arith, due.many, two_blocks r shape, shape.per_block)

-- the numbers after one page more
pub due_as : (ring : Ring) (s : RingState) (x : Option (List ℕ)) → StandsFor ring s → count s ≤ s.next
    → is_due_at (shape_of ring) (ring.next + 1) (ring.next + 1 - ring.oldest) ≡ is_due_at (shape_of ring) (s.next + 1) (length (s.kept ++ x ∷ []))
due_as ring s x stands few =
    let kept : ring.next + 1 - ring.oldest ≡ length (s.kept ++ x ∷ []) = omega (arith, stands.next, stands.oldest, length-append s.kept (x ∷ [])) in
    ap (λ (k : ℕ). is_due_at (shape_of ring) (ring.next + 1) k) kept ∙ ap (λ (k : ℕ). is_due_at (shape_of ring) (k + 1) (length (s.kept ++ x ∷ []))) stands.next

-- .. in memory
pub advanced : (ring later : Ring) (s : RingState) (x : Option (List ℕ)) (due : Bool) → is_due_at (shape_of ring) (ring.next + 1) (ring.next + 1 - ring.oldest) ≡ due → later.next ≡ ring.next + 1
    → later.oldest ≡ (if due then ring.oldest + ring.per_block else ring.oldest) → StandsFor ring s → IsRing (shape_of ring) s → StandsFor later (trimmed (shape_of ring) (appended s x))
advanced ring later s x due e next oldest stands is =
    subst (λ (b : Bool). StandsFor later (if b then record (appended s x) { kept = drop ring.per_block (s.kept ++ x ∷ []); dirty = true } else appended s x)) (sym (sym (due_as ring s x stands is.not_negative) ∙ e)) (go due e oldest)
  where
    go : (b : Bool) → is_due_at (shape_of ring) (ring.next + 1) (ring.next + 1 - ring.oldest) ≡ b → later.oldest ≡ (if b then ring.oldest + ring.per_block else ring.oldest)
        → StandsFor later (if b then record (appended s x) { kept = drop ring.per_block (s.kept ++ x ∷ []); dirty = true } else appended s x)
    go true e o =
        let fits = oldest_fits (shape_of ring) (ring.next + 1) ring.oldest ring.served e in
        record {
          next = omega (arith, next, stands.next);
          oldest = omega (arith, o, stands.next, stands.oldest, length-append s.kept (x ∷ []), length-drop ring.per_block (s.kept ++ x ∷ []), fits, is.not_negative);
        }
    go false e o = record {
      next = omega (arith, next, stands.next);
      oldest = omega (arith, o, stands.next, stands.oldest, length-append s.kept (x ∷ []), is.not_negative);
    }

pub ordered_next : (old next : ℕ) → old ≤ next → old ≤ next + 1
ordered_next old next le = omega (arith, le)

pub fits_below : (n : ℕ) → n < 2 ^ 32 → Fits w32 n
fits_below n lt = omega (arith, lt)

pub erased_stands : (ring : Ring) (s : RingState) → StandsFor ring s → StandsFor ring (erased s)
erased_stands ring s stands = record { next = stands.next; oldest = stands.oldest }
