-- What the seals of a flush leave of the pages of a flash.
use Rattle.std.proofs.Common.{◌≡◌, ◌⊎◌, ℕ, ◌+◌, ◌*◌, ◌%◌, ◌<◌, ◌≤◌, Bool, true, false, cond, ◌==◌, ◌&&◌, nat_lt, Option, Some, None, option_map, inl, inr, [], ◌∷◌, ◌++◌, length, refl, sym, ◌∙◌, ap, subst, arith, IsSomeAnd}
use Rattle.std.proofs.Math.Nat.{add-mul, mul-le-mul_right}
use Rattle.std.proofs.lemmas.Bool.{cases_lt}
use Rattle.std.proofs.lemmas.Option.{same_Some}
use Rattle.fl_flash.specs.Flash.{FlashState, page_at, pages, blank}
use Rattle.fl_flash.specs.Places.{extent}
use Rattle.fl_index.specs.declared.index.BitmapIndex.{BitmapIndex}
use Rattle.fl_model.specs.Facts.{is_some_ring}
use Rattle.fl_model.specs.Image.{HoldsRows, HoldsEntries}
use Rattle.fl_model.specs.Layout.{is_blank}
use Rattle.fl_model.specs.Record.{Plan, blocks_of, has_index, entries_per_page}
use Rattle.fl_model.specs.Ring.{Ring, sealed, erased}
use Rattle.fl_model.specs.Table.{Table, DataRing, IndexRing, VarRing, shape_of, table_seals, after_seals, fill, lose}
use Rattle.fl_model.proofs.Sealed.{sealed-next}
use Rattle.fl_model.proofs.SomeRing.{some-ring}
use Rattle.fl_ring.proofs.Lengths.{page_length}
use Rattle.fl_parts.specs.Bitmaps.{ArePlanned, Stand}
use Rattle.fl_table.specs.Mounting.{OutsideStands}
use Rattle.fl_parts.specs.Pages.{KeptStand, place_in}
use Rattle.fl_table.specs.Standing.{Stands}
use Rattle.fl_table.specs.declared.table.Table as code
use Rattle.fl_table.proofs.Apart.{beside-stands}
use Rattle.fl_parts.proofs.States.{blank-bytes}
use Rattle.fl_rlc.specs.Left.{IsNextPage}
use Rattle.fl_rlc.proofs.RingFilled.{ring-filled}

-- a ring has at most one page more
abbrev FewMore : Option Ring → Option Ring → Type 0
FewMore before after = (a b : Ring) → before ≡ Some a → after ≡ Some b → b.next ≤ a.next + 1

few-same : (o p : Option Ring) → p ≡ o → FewMore o p
few-same o p same a b a_is b_is = omega (arith, ap (λ (r : Ring). r.next) (same_Some b a (sym b_is ∙ (same ∙ a_is))))

few-sealed : (plan : Plan) (count : ℕ) (o p : Option Ring) → p ≡ option_map erased (option_map (sealed (shape_of plan IndexRing) count) o) → FewMore o p
few-sealed plan count o p same a b a_is b_is =
    let e = ap (λ (r : Ring). r.next) (one (sym b_is ∙ (same ∙ ap (λ (x : Option Ring). option_map erased (option_map (sealed (shape_of plan IndexRing) count) x)) a_is))) in
    omega (arith, e, sealed-next (shape_of plan IndexRing) count a)
  where
    one : Some b ≡ Some (erased (sealed (shape_of plan IndexRing) count a)) → b ≡ erased (sealed (shape_of plan IndexRing) count a)
    one e = cc

-- each ring of a table
record FewPages (before after : Table) : Type 0 where
  rows : after.rows.next ≤ before.rows.next + 1
  index : FewMore before.index after.index

-- a flush seals at most one page of each ring
flush-few : (plan : Plan) (table : Table) → FewPages table (after_seals plan (table_seals plan table) table)
flush-few plan table = by-tests (table.pending == 0) (has_index plan && (length table.waiting == entries_per_page plan)) (nat_lt 0 (fill table))
  where
    by-tests : (none full some : Bool) → FewPages table (after_seals plan (cond none [] ((cond full (IndexRing ∷ []) []) ++ (cond some (VarRing ∷ []) []) ++ DataRing ∷ [])) table)
    by-tests true full some = record { rows = omega arith; index = few-same table.index table.index refl }
    by-tests false true true = record { rows = omega (arith, sealed-next (shape_of plan DataRing) table.pending table.rows); index = few-sealed plan (entries_per_page plan) table.index _ refl }
    by-tests false true false = record { rows = omega (arith, sealed-next (shape_of plan DataRing) table.pending table.rows); index = few-sealed plan (entries_per_page plan) table.index _ refl }
    by-tests false false true = record { rows = omega (arith, sealed-next (shape_of plan DataRing) table.pending table.rows); index = few-same table.index table.index refl }
    by-tests false false false = record { rows = omega (arith, sealed-next (shape_of plan DataRing) table.pending table.rows); index = few-same table.index table.index refl }

-- the page of a flash in some blocks of it
pub in-blocks : (f : FlashState) (plan : Plan) (at blocks page : ℕ) → f.start + extent f.geometry f.blocks ≤ length f.media.content → f.geometry ≡ plan.geometry → at + blocks ≤ f.blocks → page < at * plan.geometry.block + blocks * plan.geometry.block →
    length (page_at f page) ≡ plan.geometry.page
in-blocks f plan at blocks page reaches geometry within lt =
    let all : (at + blocks) * plan.geometry.block ≤ f.blocks * plan.geometry.block = mul-le-mul_right plan.geometry.block within in
    let pages_is : pages f ≡ f.blocks * plan.geometry.block = ap (λ g. f.blocks * g.block) geometry in
    page_length f page reaches (omega (arith, lt, all, pages_is, add-mul at blocks plan.geometry.block)) ∙ ap (λ g. g.page) geometry

-- A table was flushed: each page of its blocks stands, or is blank, or is the one that was next.
module _ {K S : ℕ} (old_t t : code.Table K S) (f g : FlashState) (first : ℕ) (plan : Plan) (table : Table) (old_stands : Stands old_t f first plan table) (stands : Stands t g first plan (after_seals plan (table_seals plan table) table))
    (no_var : plan.var_blocks ≡ 0) (outside : OutsideStands old_t (page_at f) (page_at g)) (kept : KeptStand first plan table (after_seals plan (table_seals plan table) table) (page_at f) (page_at g))
    (reaches : g.start + extent g.geometry g.blocks ≤ length g.media.content) (geometry : g.geometry ≡ plan.geometry) (within : first + blocks_of plan ≤ g.blocks) where
  abbrev IsLeft : ℕ → Type 0
  IsLeft page = (page_at g page ≡ page_at f page) ⊎ ((page_at g page ≡ blank plan.geometry.page) ⊎ IsNextPage first plan table page)

  blank-there : (at blocks page : ℕ) → at + blocks ≤ first + blocks_of plan → page < at * plan.geometry.block + blocks * plan.geometry.block → is_blank (page_at g page) ≡ true → page_at g page ≡ blank plan.geometry.page
  blank-there at blocks page upto lt e = blank-bytes (page_at g page) plan.geometry.page (in-blocks g plan at blocks page reaches geometry (omega (arith, upto, within)) lt) e

  in-data : (page : ℕ) → first * plan.geometry.block ≤ page → page < first * plan.geometry.block + plan.data_blocks * plan.geometry.block → IsLeft page
  in-data page low high =
      let after = after_seals plan (table_seals plan table) table in
      by-case (ring-filled (shape_of plan DataRing) (first * plan.geometry.block) (page_at f) (page_at g) table.rows after.rows (HoldsRows plan (lose after)) stands.whole stands.clean (flush-few plan table).rows stands.pages.rows kept.rows page low high)
    where
      by-case : (page_at g page ≡ page_at f page) ⊎ ((is_blank (page_at g page) ≡ true) ⊎ (page ≡ first * plan.geometry.block + table.rows.next % (plan.data_blocks * plan.geometry.block))) → IsLeft page
      by-case (inl same) = inl same
      by-case (inr (inl empty)) = inr (inl (blank-there first plan.data_blocks page (omega arith) high empty))
      by-case (inr (inr is)) = inr (inr (inl is))

  in-index : (page : ℕ) → (first + plan.data_blocks) * plan.geometry.block ≤ page → page < (first + plan.data_blocks) * plan.geometry.block + plan.index_blocks * plan.geometry.block → IsLeft page
  in-index page low high = by-index t.bitmaps stands.planned.index stands.bitmaps
    where
      by-index : (o : Option BitmapIndex) → ArePlanned o (first + plan.data_blocks) plan → Stand o g (first + plan.data_blocks) plan (after_seals plan (table_seals plan table) table) → IsLeft page
      by-index None p s = absurd (omega (arith, low, high, ap (λ (b : ℕ). b * plan.geometry.block) p.0))
      by-index (Some index) p s =
          let after = after_seals plan (table_seals plan table) table in
          let ring = s.in_ring in
          let a = some-ring table.index (old_stands.facts.has_rings.0 ∙ (sym stands.facts.has_rings.0 ∙ ap is_some_ring ring.facts.ring_is)) in
          by-case a.0 a.1 (ring-filled (shape_of plan IndexRing) ((first + plan.data_blocks) * plan.geometry.block) (page_at f) (page_at g) a.0 ring.ring (HoldsEntries plan after ring.ring) ring.whole ring.clean ((flush-few plan table).index a.0 ring.ring a.1 ring.facts.ring_is) ring.pages
          (kept.index a.0 ring.ring a.1 ring.facts.ring_is) page low high)
        where
          by-case : (r : Ring) → table.index ≡ Some r →
              (page_at g page ≡ page_at f page) ⊎ ((is_blank (page_at g page) ≡ true) ⊎ (page ≡ (first + plan.data_blocks) * plan.geometry.block + r.next % (plan.index_blocks * plan.geometry.block))) → IsLeft page
          by-case r is (inl same) = inl same
          by-case r is (inr (inl empty)) = inr (inl (blank-there (first + plan.data_blocks) plan.index_blocks page (omega arith) high empty))
          by-case r is (inr (inr place)) = inr (inr (inr (subst (λ (o : Option Ring). IsSomeAnd o (λ ring. page ≡ place_in first plan IndexRing ring.next)) (sym is) place)))

  pub flush-leaves : (page : ℕ) → page < (first + blocks_of plan) * plan.geometry.block → IsLeft page
  flush-leaves page lt = by-place (cases_lt page (first * plan.geometry.block)) (cases_lt page ((first + plan.data_blocks) * plan.geometry.block))
    where
      by-place : (page < first * plan.geometry.block) ⊎ (first * plan.geometry.block ≤ page) → (page < (first + plan.data_blocks) * plan.geometry.block) ⊎ ((first + plan.data_blocks) * plan.geometry.block ≤ page) → IsLeft page
      by-place (inl before) others = inl (beside-stands old_t first plan (page_at f) (page_at g) old_stands.planned outside page (inl before))
      by-place (inr low) (inl inside) = in-data page low (omega (arith, inside, add-mul first plan.data_blocks plan.geometry.block))
      by-place (inr low) (inr behind) =
          let end : first + blocks_of plan ≡ first + plan.data_blocks + plan.index_blocks = omega (arith, no_var, old_stands.planned.log) in
          in-index page behind (omega (arith, lt, ap (λ (b : ℕ). b * plan.geometry.block) end, add-mul (first + plan.data_blocks) plan.index_blocks plan.geometry.block))
