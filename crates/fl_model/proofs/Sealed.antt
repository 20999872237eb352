-- What a seal makes of a ring and of the rows of its pages.
use Rattle.std.proofs.Common.{◌≡◌, ℕ, ◌+◌, ◌≤◌, Bool, true, false, cond, List, [], ◌∷◌, ◌++◌, take, drop, refl, ◌-◌, ◌*◌, ◌%◌, ◌==◌, length, arith}
use Rattle.std.specs.List.{sum}
use Rattle.std.proofs.lemmas.Bool.{ltb-true}
use Rattle.std.proofs.Math.Nat.{mul-le-mul_right}
use Rattle.fl_model.specs.Record.{Plan, rows_per_page}
use Rattle.fl_model.specs.Ring.{Shape, Ring, sealed, given_up, is_full, extended, IsShape}
use Rattle.fl_model.specs.Table.{Entry}
use Rattle.fl_model.proofs.Kept.{AreKept, kept-push, kept-drop}
use Rattle.fl_model.proofs.Lists.{drop_none, and_right}

-- a full ring has kept more pages than one block has
pub full-long : (shape : Shape) (ring : Ring) → IsShape shape → is_full shape ring ≡ true → 2 * shape.pages ≤ length ring.counts
full-long shape ring s h =
    let lt = ltb-true ((shape.blocks - 1) * shape.pages - 1) (length ring.counts) (and_right (ring.next % shape.pages == shape.pages - 1) _ h) in
    let two : 2 * shape.pages ≤ (shape.blocks - 1) * shape.pages = mul-le-mul_right shape.pages (let e : 2 ≤ shape.blocks - 1 = omega (arith, s.blocks) in e) in
    omega (arith, lt, two)

-- the pages after a seal of a page with so many rows, the last of the table
abbrev pub entries_after : Shape → ℕ → Ring → List Entry → List Entry
entries_after shape count ring entries = drop (sum (given_up shape count ring)) entries

pub kept-sealed : (plan : Plan) (shape : Shape) (count : ℕ) (ring : Ring) (entries : List Entry) → AreKept plan entries ring.counts count → count ≤ rows_per_page plan →
    AreKept plan (entries_after shape count ring entries) (sealed shape count ring).counts 0
kept-sealed plan shape count ring entries h few = by_test (is_full shape (extended count ring))
  where
    by_test : (t : Bool) → AreKept plan (drop (sum (cond t (take shape.pages (ring.counts ++ count ∷ [])) [])) entries)
        (cond t (record (extended count ring) { counts = drop shape.pages (ring.counts ++ count ∷ []); dirty = true }) (extended count ring)).counts 0
    by_test true = kept-drop plan entries (ring.counts ++ count ∷ []) shape.pages (kept-push plan entries ring.counts count h few)
    by_test false = rw (drop_none entries) (kept-push plan entries ring.counts count h few)

-- the next number and the marks after it
pub sealed-next : (shape : Shape) (count : ℕ) (ring : Ring) → (sealed shape count ring).next ≡ ring.next + 1
sealed-next shape count ring = by_test (is_full shape (extended count ring))
  where
    by_test : (t : Bool) → (cond t (record (extended count ring) { counts = drop shape.pages (ring.counts ++ count ∷ []); dirty = true }) (extended count ring)).next ≡ ring.next + 1
    by_test true = refl
    by_test false = refl

pub sealed-torn : (shape : Shape) (count : ℕ) (ring : Ring) → (sealed shape count ring).torn ≡ false
sealed-torn shape count ring = by_test (is_full shape (extended count ring))
  where
    by_test : (t : Bool) → (cond t (record (extended count ring) { counts = drop shape.pages (ring.counts ++ count ∷ []); dirty = true }) (extended count ring)).torn ≡ false
    by_test true = refl
    by_test false = refl
