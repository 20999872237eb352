-- Tables whose blocks stand one after the other, and the pages that stand where a call changed those of another one.
use Rattle.std.proofs.Common.{◌≡◌, ℕ, ◌+◌, ◌*◌, ◌%◌, ◌<◌, ◌≤◌, ◌⊎◌, true, inl, inr, Option, None, Some, IfSome, List, sym, subst, arith}
use Rattle.std.proofs.Math.Path.{fun_ext}
use Rattle.std.proofs.Math.Nat.{mod-lt, mul-le-mul_right, add-mul}
use Rattle.fl_flash.specs.Flash.{FlashState, page_at}
use Rattle.fl_model.specs.Facts.{IsTable, is_some_ring}
use Rattle.fl_model.specs.Image.{IsRingImage, HoldsRows, HoldsEntries, HoldsContent}
use Rattle.fl_model.specs.Record.{Plan, blocks_of, has_index, has_var}
use Rattle.fl_model.specs.Ring.{Ring}
use Rattle.fl_model.specs.Table as model
use Rattle.fl_model.specs.Table.{DataRing, IndexRing, VarRing, shape_of}
use Rattle.fl_ring.specs.Ring.{Shape, room}
use Rattle.fl_parts.specs.Bitmaps.{IsOutside}
use Rattle.fl_parts.specs.Pages.{HoldsTable, Rests, bytes_in, place_in}

-- a flash page outside the blocks of a table
abbrev pub IsBeside : ℕ → Plan → ℕ → Type 0
IsBeside first plan page = (page < first * plan.geometry.block) ⊎ ((first + blocks_of plan) * plan.geometry.block ≤ page)

-- a ring in some of these blocks
pub outside-ring : (first at blocks : ℕ) (plan : Plan) (r : Shape) (page : ℕ) → r.first ≡ at * plan.geometry.block → room r ≡ blocks * plan.geometry.block → first ≤ at → at + blocks ≤ first + blocks_of plan → IsBeside first plan page → IsOutside r page
outside-ring first at blocks plan r page begins size from upto (inl before) =
    let k : first * plan.geometry.block ≤ at * plan.geometry.block = mul-le-mul_right plan.geometry.block from in
    inl (omega (arith, before, begins, k))
outside-ring first at blocks plan r page begins size from upto (inr behind) =
    let k : (at + blocks) * plan.geometry.block ≤ (first + blocks_of plan) * plan.geometry.block = mul-le-mul_right plan.geometry.block upto in
    inr (omega (arith, behind, begins, size, k, add-mul at blocks plan.geometry.block))

-- tables whose blocks stand one after the other
abbrev pub AreApart : ℕ → Plan → ℕ → Plan → Type 0
AreApart first plan other own = (first + blocks_of plan ≤ other) ⊎ (other + blocks_of own ≤ first)

-- the pages of a ring in the blocks of a table are outside those of the other
pub beside-place : (first at blocks n other : ℕ) (plan own : Plan) → own.geometry.block ≡ plan.geometry.block → 0 < blocks * plan.geometry.block → first ≤ at → at + blocks ≤ first + blocks_of plan → AreApart first plan other own →
    IsBeside other own (at * plan.geometry.block + n % (blocks * plan.geometry.block))
beside-place first at blocks n other plan own block some from upto apart =
    subst (λ b. (at * plan.geometry.block + n % (blocks * plan.geometry.block) < other * b) ⊎ ((other + blocks_of own) * b ≤ at * plan.geometry.block + n % (blocks * plan.geometry.block))) (sym block) (by-side apart)
  where
    small : n % (blocks * plan.geometry.block) < blocks * plan.geometry.block
    small = mod-lt n some

    by-side : AreApart first plan other own → (at * plan.geometry.block + n % (blocks * plan.geometry.block) < other * plan.geometry.block) ⊎ ((other + blocks_of own) * plan.geometry.block ≤ at * plan.geometry.block + n % (blocks * plan.geometry.block))
    by-side (inl before) =
        let k : (at + blocks) * plan.geometry.block ≤ other * plan.geometry.block = mul-le-mul_right plan.geometry.block (omega (arith, upto, before)) in
        inl (omega (arith, small, k, add-mul at blocks plan.geometry.block))
    by-side (inr behind) =
        let k : (other + blocks_of own) * plan.geometry.block ≤ at * plan.geometry.block = mul-le-mul_right plan.geometry.block (omega (arith, behind, from)) in
        inr (omega (arith, k))

pub some-pages : (b p : ℕ) → 0 < b → 2 ≤ p → 0 < b * p
some-pages b p x y = let k : 1 * p ≤ b * p = mul-le-mul_right p x in omega (arith, k, y)

-- the pages of these rings stand
module _ (f g : FlashState) (first : ℕ) (plan : Plan) (same-rows : (n : ℕ) → page_at g (place_in first plan DataRing n) ≡ page_at f (place_in first plan DataRing n))
    (same-index : has_index plan ≡ true → (n : ℕ) → page_at g (place_in first plan IndexRing n) ≡ page_at f (place_in first plan IndexRing n))
    (same-var : has_var plan ≡ true → (n : ℕ) → page_at g (place_in first plan VarRing n) ≡ page_at f (place_in first plan VarRing n)) where
  pub holds-apart : (table : model.Table) → IsTable plan table → HoldsTable (page_at f) first plan table → HoldsTable (page_at g) first plan table
  holds-apart table facts h =
      record {
        rows = subst (λ (at : ℕ → List ℕ). IsRingImage (shape_of plan DataRing) table.rows at (HoldsRows plan table)) (sym (fun_ext (λ n. same-rows n))) h.rows;
        index = by-index table.index facts.has_rings.0 h.index;
        var = by-var table.var facts.has_rings.1 h.var;
      }
    where
      by-var : (o : Option Ring) → is_some_ring o ≡ has_var plan → IfSome o (λ ring. IsRingImage (shape_of plan VarRing) ring (bytes_in (page_at f) first plan VarRing) (HoldsContent table ring)) →
          IfSome o (λ ring. IsRingImage (shape_of plan VarRing) ring (bytes_in (page_at g) first plan VarRing) (HoldsContent table ring))
      by-var None has i = tt
      by-var (Some ring) has i = subst (λ (at : ℕ → List ℕ). IsRingImage (shape_of plan VarRing) ring at (HoldsContent table ring)) (sym (fun_ext (λ n. same-var (sym has) n))) i

      by-index : (o : Option Ring) → is_some_ring o ≡ has_index plan → IfSome o (λ ring. IsRingImage (shape_of plan IndexRing) ring (bytes_in (page_at f) first plan IndexRing) (HoldsEntries plan table ring)) →
          IfSome o (λ ring. IsRingImage (shape_of plan IndexRing) ring (bytes_in (page_at g) first plan IndexRing) (HoldsEntries plan table ring))
      by-index None has i = tt
      by-index (Some ring) has i = subst (λ (at : ℕ → List ℕ). IsRingImage (shape_of plan IndexRing) ring at (HoldsEntries plan table ring)) (sym (fun_ext (λ n. same-index (sym has) n))) i

  pub rests-apart : (table : model.Table) → Rests f first plan table → Rests g first plan table
  rests-apart table h = record { settled = h.settled; pages = holds-apart table h.settled.facts h.pages }

-- the pages of a table's rings stand
pub record PagesApart (f g : FlashState) (first : ℕ) (plan : Plan) : Type 0 where
  pub rows : (n : ℕ) → page_at g (place_in first plan DataRing n) ≡ page_at f (place_in first plan DataRing n)
  pub index : has_index plan ≡ true → (n : ℕ) → page_at g (place_in first plan IndexRing n) ≡ page_at f (place_in first plan IndexRing n)
  pub var : has_var plan ≡ true → (n : ℕ) → page_at g (place_in first plan VarRing n) ≡ page_at f (place_in first plan VarRing n)
