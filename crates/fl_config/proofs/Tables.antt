-- The tables that were taken, one by one.
use Rattle.std.proofs.Common.{Option, Some, ◌≡◌, ℕ, zero, suc, ◌+◌, ◌*◌, ◌<◌, ◌≤◌, false, List, [], ◌∷◌, ◌++◌, length, map, take, get_or, length-append, arith, refl, sym, ◌∙◌, ap, subst, mul-le-mul, le_refl, zero-add}
use Rattle.std.specs.Prelude.{sum_by}
use Rattle.std.proofs.lemmas.List.Sums.{sum_by-cons}
use Rattle.std.proofs.lemmas.Bool.Decides.{nat_tests}
use Rattle.fl_base.specs.declared.types.Geometry.{Geometry}
use Rattle.fl_model.specs.Record.{Plan, blocks_of}
use Rattle.fl_words.specs.Config.{too_large}
use Rattle.fl_plan.specs.Limits.{IsWithin}
use Rattle.fl_plan.specs.Refusal.{pages_misfit}
use Rattle.fl_config.specs.declared.entry.Entry.{Entry}
use Rattle.fl_config.specs.Entry.{plan_in}
use Rattle.fl_config.specs.Standing.{IsTaken, AreTaken, AreTables, AreLines}
use Rattle.fl_config.proofs.Takes.{sum-push, large-is}

-- few blocks fit
pub fits-few : (geometry : Geometry) (blocks : ℕ) → IsWithin geometry → pages_misfit geometry blocks ≡ false → blocks ≤ 65536
fits-few geometry blocks within fits =
    let pages : blocks * geometry.block ≤ 65536 = grind (arith, nat_tests, fits) in
    let more : blocks * 1 ≤ blocks * geometry.block = mul-le-mul (le_refl blocks) (omega (arith, within.block_low)) in
    omega (arith, pages, more)

map-push : (entries : List Entry) (entry : Entry) → map plan_in (entries ++ entry ∷ []) ≡ map plan_in entries ++ plan_in entry ∷ []
map-push [] entry = refl
map-push (first ∷ entries) entry = ap (λ l. plan_in first ∷ l) (map-push entries entry)

taken-push : (geometry : Geometry) (first : ℕ) (entries : List Entry) (entry : Entry) → AreTaken geometry first entries →
    IsTaken geometry (first + sum_by blocks_of (map plan_in entries)) entry → AreTaken geometry first (entries ++ entry ∷ [])
taken-push geometry first [] entry before one =
    let start : first + sum_by blocks_of (map plan_in []) ≡ first = omega arith in
    (subst (λ b. IsTaken geometry b entry) start one, tt)
taken-push geometry first (other ∷ entries) entry before one =
    let next : first + sum_by blocks_of (map plan_in (other ∷ entries)) ≡ first + blocks_of (plan_in other) + sum_by blocks_of (map plan_in entries) =
    omega (arith, sum_by-cons blocks_of (plan_in other) (map plan_in entries)) in
    (before.0, taken-push geometry (first + blocks_of (plan_in other)) entries entry before.1 (subst (λ b. IsTaken geometry b entry) next one))

pub tables-push : (geometry : Geometry) (blocks : ℕ) (entries : List Entry) (entry : Entry) → AreTables geometry blocks entries → length entries < 4 →
    IsTaken geometry blocks entry → too_large geometry (map plan_in entries ++ plan_in entry ∷ []) ≡ false →
    AreTables geometry (blocks + blocks_of (plan_in entry)) (entries ++ entry ∷ [])
tables-push geometry blocks entries entry before room one size = record {
  within = before.within;
  few = omega (arith, room, length-append entries (entry ∷ []));
  taken = taken-push geometry 0 entries entry before.taken
      (subst (λ b. IsTaken geometry b entry) (before.blocks_are ∙ sym (zero-add (sum_by blocks_of (map plan_in entries)))) one);
  blocks_are = ap (λ b. b + blocks_of (plan_in entry)) before.blocks_are ∙ sym (sum-push (map plan_in entries) (plan_in entry)) ∙ ap (λ l. sum_by blocks_of l) (sym (map-push entries entry));
  size = ap (λ l. too_large geometry l) (map-push entries entry) ∙ size;
}

-- one more table, whose plan is that of its line
pub record IsAdded (geometry : Geometry) (blocks : ℕ) (entries : List Entry) (entry : Entry) : Type 0 where
  pub tables : AreTables geometry (blocks + blocks_of (plan_in entry)) (entries ++ entry ∷ [])
  pub few : blocks + blocks_of (plan_in entry) ≤ 65536

pub added : (device : Option Geometry) (geometry : Geometry) (blocks : ℕ) (entries : List Entry) (entry : Entry) (plan : Plan) → device ≡ Some geometry → AreLines device blocks entries →
    plan_in entry ≡ plan → length entries < 4 → IsTaken geometry blocks entry → too_large geometry (map plan_in entries ++ plan ∷ []) ≡ false → IsAdded geometry blocks entries entry
added device geometry blocks entries entry plan here lines is room taken fits =
    let before : AreTables geometry blocks entries = subst (λ (d : Option Geometry). AreLines d blocks entries) here lines in
    let size : too_large geometry (map plan_in entries ++ plan_in entry ∷ []) ≡ false = subst (λ (p : Plan). too_large geometry (map plan_in entries ++ p ∷ []) ≡ false) (sym is) fits in
    record {
      tables = tables-push geometry blocks entries entry before room taken size;
      few = fits-few geometry (blocks + blocks_of (plan_in entry)) before.within
          (sym (large-is geometry blocks (map plan_in entries) (plan_in entry) before.blocks_are) ∙ size);
    }

-- the i-th table is taken behind those before it
pub taken-at : (geometry : Geometry) (first : ℕ) (entries : List Entry) (i : ℕ) (d : Entry) → AreTaken geometry first entries → i < length entries →
    IsTaken geometry (first + sum_by blocks_of (map plan_in (take i entries))) (get_or entries i d)
taken-at geometry first [] i d are lt = absurd (omega (arith, lt))
taken-at geometry first (entry ∷ entries) zero d are lt =
    let start : first ≡ first + sum_by blocks_of (map plan_in (take 0 (entry ∷ entries))) = omega arith in
    subst (λ b. IsTaken geometry b entry) start are.0
taken-at geometry first (entry ∷ entries) (suc i) d are lt =
    let next : first + blocks_of (plan_in entry) + sum_by blocks_of (map plan_in (take i entries)) ≡ first + sum_by blocks_of (map plan_in (take (suc i) (entry ∷ entries))) =
    omega (arith, sum_by-cons blocks_of (plan_in entry) (map plan_in (take i entries))) in
    subst (λ b. IsTaken geometry b (get_or entries i d)) next (taken-at geometry (first + blocks_of (plan_in entry)) entries i d are.1 (omega (arith, lt)))
