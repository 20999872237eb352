-- How many pages and rows a ring keeps, and what is enough for an index.
use Rattle.std.proofs.Common.{◌≡◌, ℕ, zero, suc, ◌+◌, ◌-◌, ◌*◌, ◌%◌, ◌<◌, ◌≤◌, ◌⊎◌, inl, inr, Bool, true, false, cond, IsTrue, List, [], ◌∷◌, ◌++◌, length, drop, refl, sym, ◌∙◌, ap, subst, arith, length-append, max}
use Rattle.std.specs.Prelude.{min, replicate, if◌then◌else◌}
use Rattle.std.specs.List.{AllByRecursion, sum}
use Rattle.std.proofs.Math.Nat.{add-mul, mod-add-div', mul-le-mul_right, mul-le-mul_left}
use Rattle.std.proofs.lemmas.Bool.{cases_lt, false≢true}
use Rattle.std.proofs.lemmas.List.Sums.{sum_by-cons}
use Rattle.std.proofs.lemmas.Nat.{mod_below}
use Rattle.std.proofs.lemmas.List.{length-replicate}
use Rattle.fl_base.proofs.Tests.{and_false}
use Rattle.fl_model.specs.Record.{Plan, has_index, rows_per_page, entries_per_page}
use Rattle.fl_model.specs.Ring.{Shape, IsShape, Ring, IsRing, fresh, sealed, extended, erased, is_full}
use Rattle.fl_model.specs.MountLimit.{ring_mount_limit, voids_at_end}
use Rattle.fl_model.specs.Table.{DataRing, shape_of}
use Rattle.fl_model.proofs.RingFactsStay.{ring-sealed}
use Rattle.fl_model.proofs.Lists.{each-drop, each-push}
use Rattle.fl_model.proofs.Fresh.{ring-fresh}
use Rattle.fl_sizing.specs.Rings.{rounded_up, least_pages, most_pages, blocks_for, end_reads}
use Rattle.fl_sizing.specs.Sizes.{rows_kept, index_pages, index_blocks}
use Rattle.fl_sizing.specs.Laws.{sealed_all, KeepsPages, IsEnough}

ring-erased : (shape : Shape) (ring : Ring) → IsRing shape ring → IsRing shape (erased ring)
ring-erased shape ring h = record {
  not_negative = h.not_negative;
  whole_blocks = h.whole_blocks;
  whole_rounds = h.whole_rounds;
  kept = h.kept;
  kept_at_end = h.kept_at_end;
  dirty_at_end = λ d. absurd (false≢true d);
  not_both = and_false ring.torn;
}

-- a ring keeps all but two of its pages at most
pub kept-most : (shape : Shape) (ring : Ring) → IsShape shape → IsRing shape ring → length ring.counts ≤ most_pages shape
kept-most shape ring is h = by_order (cases_lt (ring.next % shape.pages) (shape.pages - 1))
  where
    all : shape.blocks * shape.pages ≡ (shape.blocks - 1) * shape.pages + shape.pages
    all = ap (λ n. n * shape.pages) (let e : shape.blocks ≡ (shape.blocks - 1) + 1 = omega (arith, is.blocks) in e) ∙ (add-mul (shape.blocks - 1) 1 shape.pages ∙ omega arith)

    below : ring.next % shape.pages < shape.pages
    below = mod_below ring.next shape.pages (omega (arith, is.pages))

    by_order : (ring.next % shape.pages < shape.pages - 1) ⊎ (shape.pages - 1 ≤ ring.next % shape.pages) → length ring.counts ≤ shape.blocks * shape.pages - 2
    by_order (inl lt) = omega (arith, h.kept, lt, all)
    by_order (inr ge) = let few = h.kept_at_end (omega (arith, ge, below)) in omega (arith, few, all, is.pages)

-- one page more
seal-least : (shape : Shape) (count : ℕ) (ring : Ring) → IsShape shape → IsRing shape ring → ring.dirty ≡ false → min (length ring.counts + 1) (least_pages shape) ≤ length (sealed shape count ring).counts
seal-least shape count ring is h clean = by_test (is_full shape (extended count ring)) (ring-sealed shape count ring is h clean)
  where
    by_test : (t : Bool) → IsRing shape (cond t (record (extended count ring) { counts = drop shape.pages (ring.counts ++ count ∷ []); dirty = true }) (extended count ring)) →
        min (length ring.counts + 1) (least_pages shape) ≤ length (cond t (record (extended count ring) { counts = drop shape.pages (ring.counts ++ count ∷ []); dirty = true }) (extended count ring)).counts
    by_test true s = let e = (s.dirty_at_end refl).1 in omega (arith, e)
    by_test false s = omega (arith, length-append ring.counts (count ∷ []))

-- and any number of them
seals-keep : (shape : Shape) (counts : List ℕ) (ring : Ring) → IsShape shape → IsRing shape ring → ring.dirty ≡ false →
    IsRing shape (sealed_all shape counts ring) × (min (length ring.counts + length counts) (least_pages shape) ≤ length (sealed_all shape counts ring).counts)
seals-keep shape [] ring is h clean = (h, omega arith)
seals-keep shape (count ∷ counts) ring is h clean =
    let s = ring-sealed shape count ring is h clean in
    let one = seal-least shape count ring is h clean in
    let k = seals-keep shape counts (erased (sealed shape count ring)) is (ring-erased shape (sealed shape count ring) s) refl in
    let others : min (length (sealed shape count ring).counts + length counts) (least_pages shape) ≤ length (sealed_all shape counts (erased (sealed shape count ring))).counts = k.1 in
    (k.0, omega (arith, one, others))

pub keeps-pages : (shape : Shape) (counts : List ℕ) → IsShape shape → KeepsPages shape counts
keeps-pages shape counts is =
    let k = seals-keep shape counts fresh is (ring-fresh shape) refl in
    record { least = omega (arith, k.1); most = kept-most shape (sealed_all shape counts fresh) is k.0 }

-- what holds of each count holds of each that is kept
each-seal : (P : ℕ → Type 0) (shape : Shape) (count : ℕ) (ring : Ring) → AllByRecursion P ring.counts → P count → AllByRecursion P (sealed shape count ring).counts
each-seal P shape count ring h k = by_test (is_full shape (extended count ring))
  where
    by_test : (t : Bool) → AllByRecursion P (cond t (record (extended count ring) { counts = drop shape.pages (ring.counts ++ count ∷ []); dirty = true }) (extended count ring)).counts
    by_test true = each-drop P shape.pages (ring.counts ++ count ∷ []) (each-push P ring.counts count h k)
    by_test false = each-push P ring.counts count h k

each-seals : (P : ℕ → Type 0) (shape : Shape) (count n : ℕ) (ring : Ring) → AllByRecursion P ring.counts → P count → AllByRecursion P (sealed_all shape (replicate n count) ring).counts
each-seals P shape count zero ring h k = h
each-seals P shape count (suc n) ring h k = each-seals P shape count n (erased (sealed shape count ring)) (each-seal P shape count ring h k) k

sum-all : (r : ℕ) (xs : List ℕ) → AllByRecursion (λ count. count ≡ r) xs → sum xs ≡ r * length xs
sum-all r [] h = omega arith
sum-all r (x ∷ xs) h =
    let others = sum-all r xs h.1 in
    let first : sum (x ∷ xs) ≡ x + sum xs = sum_by-cons (λ (n : ℕ). n) x xs in
    let times : r * suc (length xs) ≡ r * length xs + r = omega arith in
    omega (arith, h.0, others, first, times)

-- so it is with the rows of full pages
pub rows-stay : (plan : Plan) (n : ℕ) → IsShape (shape_of plan DataRing) →
    min (rows_per_page plan * n) (rows_kept plan) ≤ sum (sealed_all (shape_of plan DataRing) (replicate n (rows_per_page plan)) fresh).counts
rows-stay plan n is = by_order (cases_lt n least)
  where
    r : ℕ
    r = rows_per_page plan

    least : ℕ
    least = least_pages (shape_of plan DataRing)

    counts : List ℕ
    counts = (sealed_all (shape_of plan DataRing) (replicate n r) fresh).counts

    total : sum counts ≡ r * length counts
    total = sum-all r counts (each-seals (λ count. count ≡ r) (shape_of plan DataRing) r n fresh tt refl)

    keeps : min n least ≤ length counts
    keeps = let k = (keeps-pages (shape_of plan DataRing) (replicate n r) is).least in omega (arith, k, length-replicate n r)

    by_order : (n < least) ⊎ (least ≤ n) → min (r * n) (r * least) ≤ sum counts
    by_order (inl lt) = let m : r * n ≤ r * length counts = mul-le-mul_left r (omega (arith, keeps, lt)) in omega (arith, total, m)
    by_order (inr ge) = let m : r * least ≤ r * length counts = mul-le-mul_left r (omega (arith, keeps, ge)) in omega (arith, total, m)

-- a quotient that is rounded up is enough
rounded-enough : (n by : ℕ) → 1 ≤ by → n ≤ rounded_up n by * by
rounded-enough n by some =
    let whole = mod-add-div' (n + (by - 1)) by in
    let below : (n + (by - 1)) % by < by = mod_below (n + (by - 1)) by (omega (arith, some)) in
    omega (arith, whole, below)

pub enough : (plan : Plan) → IsTrue (has_index plan) → 1 ≤ entries_per_page plan → 1 ≤ plan.geometry.block → IsEnough plan
enough plan has entries block =
    let most = most_pages (shape_of plan DataRing) in
    let p = plan.geometry.block in
    let pages : index_pages plan ≡ rounded_up most (entries_per_page plan) = ap (λ (b : Bool). if b then rounded_up most (entries_per_page plan) else 0) has in
    let blocks : index_blocks plan ≡ max (blocks_for (index_pages plan) p) 3 = ap (λ (b : Bool). if b then max (blocks_for (index_pages plan) p) 3 else 0) has in
    let wide = rounded-enough (index_pages plan + 1) p block in
    let more : rounded_up (index_pages plan + 1) p * p ≤ (index_blocks plan - 1) * p = mul-le-mul_right p (omega (arith, blocks)) in
    record {
      lists = subst (λ (k : ℕ). most ≤ k * entries_per_page plan) (sym pages) (rounded-enough most (entries_per_page plan) entries);
      keeps = omega (arith, wide, more);
    }

pub full-reads : (shape : Shape) (ring : Ring) → IsShape shape → IsRing shape ring → voids_at_end ring.counts ≡ 0 → length ring.counts + ring_mount_limit shape ring ≤ most_pages shape + end_reads shape
full-reads shape ring is h none = let most = kept-most shape ring is h in omega (arith, most, none)
