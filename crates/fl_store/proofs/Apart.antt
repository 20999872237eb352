-- Tables of one configuration, whose rings stand beside the one that a call changes.
use Rattle.std.proofs.Common.{◌≡◌, ℕ, zero, suc, ◌+◌, ◌*◌, ◌%◌, ◌<◌, ◌≤◌, ◌⊎◌, Bool, true, false, inl, inr, Some, List, [], ◌∷◌, take, sym, ◌∙◌, ap, arith, MatchBool, slice_get}
use Rattle.std.proofs.lemmas.Bool.{cases_order, ltb-true}
use Rattle.std.proofs.lemmas.List.Sums.{sum_by-cons}
use Rattle.std.proofs.lemmas.Option.{none-some}
use Rattle.fl_base.specs.declared.types.Geometry.{Geometry}
use Rattle.fl_flash.specs.Flash.{FlashState, page_at}
use Rattle.fl_model.specs.Bare.{bare}
use Rattle.fl_model.specs.Record.{Plan, blocks_of, has_log}
use Rattle.fl_model.specs.Ring.{IsShape}
use Rattle.fl_model.specs.Table as model
use Rattle.fl_model.specs.Table.{DataRing, LogRing, shape_of}
use Rattle.fl_parts.specs.Pages.{place_in}
use Rattle.fl_parts.proofs.Apart.{AreApart, PagesApart, beside-place, some-pages}
use Rattle.fl_table.proofs.SealAnswers.{planned-shape}
use Rattle.fl_rlc.specs.Logged.{Rests, Stands}
use Rattle.fl_rlc.specs.Table.{IsPlanned, OutsideStands}
use Rattle.fl_rlc.proofs.Others.{logged-apart, logged-beside, logged-rests-apart}
use Rattle.fl_store.specs.Tables.{first_of, EntryStands}
use Rattle.fl_store.specs.declared.tables.Entry.{Entry}

-- the blocks of a table end before those of a later one begin
pub blocks-apart : (plans : List Plan) (i j : ℕ) (plan : Plan) → slice_get plans i ≡ Some plan → i < j → first_of plans i + blocks_of plan ≤ first_of plans j
blocks-apart [] i j plan e lt = absurd (none-some plan e)
blocks-apart (p ∷ ps) i zero plan e lt = absurd (omega (arith, lt))
blocks-apart (p ∷ ps) zero (suc j) plan e lt =
    let same : p ≡ plan = cc in
    omega (arith, sum_by-cons blocks_of p (take j ps), ap blocks_of same)
blocks-apart (p ∷ ps) (suc i) (suc j) plan e lt =
    omega (arith, blocks-apart ps i j plan e (omega (arith, lt)), sum_by-cons blocks_of p (take i ps), sum_by-cons blocks_of p (take j ps))

-- the pages of all rings of a table stand
pub record AllApart (f g : FlashState) (first : ℕ) (plan : Plan) : Type 0 where
  pub table : PagesApart f g first (bare plan)
  pub log : has_log plan ≡ true → (n : ℕ) → page_at g (place_in first plan LogRing n) ≡ page_at f (place_in first plan LogRing n)

-- .. and of another table they do
pub pages-apart : (entry changed : Entry) (f g : FlashState) (first other : ℕ) (plan own : Plan) → AreApart first plan other own → plan.geometry ≡ own.geometry → IsPlanned entry.table first plan → IsPlanned changed.table other own →
    OutsideStands changed.table (page_at f) (page_at g) → AllApart f g first plan
pages-apart entry changed f g first other plan own apart same-geometry stood planned outside = record {
  table = record {
    rows = λ n. same-page first plan.data_blocks n (omega (arith, shape.blocks)) (omega arith) (omega arith);
    index = λ has n. same-page (first + plan.data_blocks) plan.index_blocks n (ltb-true 0 plan.index_blocks has) (omega arith) (omega arith);
    var = λ has n. same-page (first + plan.data_blocks + plan.index_blocks) plan.var_blocks n (ltb-true 0 plan.var_blocks has) (omega arith) (omega arith);
  };
  log = λ has n. same-page (first + plan.data_blocks + plan.index_blocks + plan.var_blocks) plan.log_blocks n (ltb-true 0 plan.log_blocks has) (omega arith) (omega arith);
}
  where
    block : own.geometry.block ≡ plan.geometry.block
    block = ap (λ (x : Geometry). x.block) (sym same-geometry)

    shape : IsShape (shape_of (bare plan) DataRing)
    shape = planned-shape entry.table.table first (bare plan) stood.table

    same-page : (at blocks n : ℕ) → 0 < blocks → first ≤ at → at + blocks ≤ first + blocks_of plan →
        page_at g (at * plan.geometry.block + n % (blocks * plan.geometry.block)) ≡ page_at f (at * plan.geometry.block + n % (blocks * plan.geometry.block))
    same-page at blocks n some from upto =
        logged-beside changed.table other own (page_at f) (page_at g) planned outside (at * plan.geometry.block + n % (blocks * plan.geometry.block))
        (beside-place first at blocks n other plan own block (some-pages blocks plan.geometry.block some shape.pages) from upto apart)

-- it stands as before
entry-apart : (entry : Entry) (f g : FlashState) (mounted : Bool) (first : ℕ) (plan : Plan) (table : model.Table) → AllApart f g first plan → g.geometry ≡ f.geometry → EntryStands entry f mounted first plan table → EntryStands entry g mounted first plan table
entry-apart entry f g mounted first plan table pages same h =
    record { named = h.named; geometry = h.geometry ∙ sym same; planned = h.planned; on_flash = by-mounted mounted h.on_flash }
  where
    by-mounted : (m : Bool) → MatchBool m (Stands entry.table f first plan table) (Rests f first plan table) → MatchBool m (Stands entry.table g first plan table) (Rests g first plan table)
    by-mounted true s = logged-apart f g first plan pages.table pages.log entry.table table s
    by-mounted false s = logged-rests-apart f g first plan pages.table pages.log table s

-- a table at another place than the one that was changed
pub other-pages : (plans : List Plan) (i at : ℕ) (plan own : Plan) (entry changed : Entry) (f g : FlashState) (mounted before : Bool) (table was : model.Table) →
    slice_get plans i ≡ Some plan → slice_get plans at ≡ Some own → (at ≡ i → ⊥) → EntryStands changed f before (first_of plans at) own was → OutsideStands changed.table (page_at f) (page_at g) →
    EntryStands entry f mounted (first_of plans i) plan table → AllApart f g (first_of plans i) plan
other-pages plans i at plan own entry changed f g mounted before table was e k other c outside h =
    pages-apart entry changed f g (first_of plans i) (first_of plans at) plan own (by-order (cases_order i at)) (h.geometry ∙ sym c.geometry) h.planned c.planned outside
  where
    by-order : (i ≡ at) ⊎ ((i < at) ⊎ (at < i)) → AreApart (first_of plans i) plan (first_of plans at) own
    by-order (inl is) = absurd (other (sym is))
    by-order (inr (inl before)) = inl (blocks-apart plans i at plan e before)
    by-order (inr (inr behind)) = inr (blocks-apart plans at i own k behind)

pub other-stands : (plans : List Plan) (i at : ℕ) (plan own : Plan) (entry changed : Entry) (f g : FlashState) (mounted before : Bool) (table was : model.Table) →
    slice_get plans i ≡ Some plan → slice_get plans at ≡ Some own → (at ≡ i → ⊥) → EntryStands changed f before (first_of plans at) own was → OutsideStands changed.table (page_at f) (page_at g) → g.geometry ≡ f.geometry →
    EntryStands entry f mounted (first_of plans i) plan table → EntryStands entry g mounted (first_of plans i) plan table
other-stands plans i at plan own entry changed f g mounted before table was e k other c outside same h =
    entry-apart entry f g mounted (first_of plans i) plan table (other-pages plans i at plan own entry changed f g mounted before table was e k other c outside h) same h
