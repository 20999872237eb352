-- A table whose rings stand beside what a call changes.
use Rattle.std.proofs.Common.{◌≡◌, ℕ, ◌+◌, true, Option, None, Some, IfSome, List, refl, sym, ap, subst, arith}
use Rattle.fl_flash.specs.Flash.{FlashState, page_at}
use Rattle.fl_index.specs.declared.index.BitmapIndex.{BitmapIndex}
use Rattle.fl_index.specs.Memory as memory
use Rattle.fl_index.proofs.SealEnds.{planned-ring as index-ring}
use Rattle.fl_index.proofs.State.{shape_in as index_shape}
use Rattle.fl_model.specs.Record.{Plan, has_index, has_var}
use Rattle.fl_model.specs.Table as model
use Rattle.fl_model.specs.Table.{DataRing, IndexRing, VarRing, lose}
use Rattle.fl_parts.specs.Bitmaps.{ArePlanned, IsOutside, Stand}
use Rattle.fl_parts.specs.Blobs as variable
use Rattle.fl_parts.proofs.Apart.{IsBeside, outside-ring, holds-apart}
use Rattle.fl_table.specs.Memory.{IsPlanned}
use Rattle.fl_table.specs.Mounting.{OutsideStands}
use Rattle.fl_parts.specs.Pages.{place_in}
use Rattle.fl_table.specs.Standing.{Stands}
use Rattle.fl_table.specs.declared.table.Table.{Table}
use Rattle.fl_parts.proofs.BlobsOfTable as blobbing
use Rattle.fl_parts.proofs.IndexOfTable.{planned-some, stand-moved}
use Rattle.fl_parts.proofs.Plain.{IsPlainTable, plain-lose, table-facts, table-parts}
use Rattle.fl_table.proofs.SealAnswers.{planned-ring}
use Rattle.fl_parts.proofs.States.{shape_in}
use Rattle.fl_var.specs.Memory.{var_shape}
use Rattle.fl_var.specs.declared.var_data.VarData.{VarData}

-- what a call of a table leaves of the pages outside its blocks
pub beside-stands : {KNOTS SLOTS : ℕ} (t : Table KNOTS SLOTS) (first : ℕ) (plan : Plan) (old new : ℕ → List ℕ) → IsPlanned t first plan → OutsideStands t old new → (page : ℕ) → IsBeside first plan page → new page ≡ old page
beside-stands t first plan old new planned outside page beside =
    outside page (subst (λ r. IsOutside r page) (sym (planned-ring t first plan planned)) (outside-ring first first plan.data_blocks plan (shape_in first plan) page refl refl (omega arith) (omega arith) beside)) (by-index t.bitmaps planned.index) (by-var t.blobs planned.var)
  where
    by-index : (bitmaps : Option BitmapIndex) → ArePlanned bitmaps (first + plan.data_blocks) plan → IfSome bitmaps (λ index. IsOutside (memory.ring_shape index) page)
    by-index None p = tt
    by-index (Some index) p =
        subst (λ r. IsOutside r page) (sym (index-ring index (first + plan.data_blocks) plan p)) (outside-ring first (first + plan.data_blocks) plan.index_blocks plan (index_shape (first + plan.data_blocks) plan) page refl refl (omega arith) (omega arith) beside)

    by-var : (blobs : Option VarData) → variable.ArePlanned blobs (first + plan.data_blocks + plan.index_blocks) plan → IfSome blobs (λ var. IsOutside (var_shape var) page)
    by-var None p = tt
    by-var (Some var) p = outside-ring first (first + plan.data_blocks + plan.index_blocks) plan.var_blocks plan (var_shape var) page p.begins (rw (p.planned.blocks, p.planned.geometry) refl) (omega arith) (omega arith) beside

module _ (f g : FlashState) (first : ℕ) (plan : Plan) (same-rows : (n : ℕ) → page_at g (place_in first plan DataRing n) ≡ page_at f (place_in first plan DataRing n))
    (same-index : has_index plan ≡ true → (n : ℕ) → page_at g (place_in first plan IndexRing n) ≡ page_at f (place_in first plan IndexRing n))
    (same-var : has_var plan ≡ true → (n : ℕ) → page_at g (place_in first plan VarRing n) ≡ page_at f (place_in first plan VarRing n)) where
  pub stands-apart : {KNOTS SLOTS : ℕ} (t : Table KNOTS SLOTS) (table : model.Table) → Stands t f first plan table → Stands t g first plan table
  stands-apart t table h =
      let facts = table-parts plan table h.planned.log h.facts in
      record {
        planned = h.planned;
        facts = h.facts;
        whole = h.whole;
        clean = h.clean;
        pages = holds-apart f g first plan same-rows same-index same-var (lose table) (table-facts plan (lose table) (plain-lose plan table facts)) h.pages;
        memory = h.memory;
        bitmaps = by-bitmaps t.bitmaps h.planned.index facts h.bitmaps;
        blobs = by-stand t.blobs h.planned.var h.blobs;
        points = h.points;
      }
    where
      by-bitmaps : (bitmaps : Option BitmapIndex) → ArePlanned bitmaps (first + plan.data_blocks) plan → IsPlainTable plan table → Stand bitmaps f (first + plan.data_blocks) plan table → Stand bitmaps g (first + plan.data_blocks) plan table
      by-bitmaps None p facts s = s
      by-bitmaps (Some index) p facts s =
          stand-moved (Some index) f g first plan table table refl refl refl refl facts (same-index (planned-some index (first + plan.data_blocks) plan p)) s

      by-stand : (blobs : Option VarData) → variable.ArePlanned blobs (first + plan.data_blocks + plan.index_blocks) plan → variable.Stand blobs f (first + plan.data_blocks + plan.index_blocks) plan table → variable.Stand blobs g (first + plan.data_blocks + plan.index_blocks) plan table
      by-stand None p s = s
      by-stand (Some var) p s =
          blobbing.stand-moved (Some var) f g first plan table table (same-var (blobbing.planned-some var (first + plan.data_blocks + plan.index_blocks) plan p)) refl refl refl (λ i entry e. (i, e)) s

-- .. where all pages do
pub stands-pages : (f g : FlashState) → page_at g ≡ page_at f → {KNOTS SLOTS : ℕ} (t : Table KNOTS SLOTS) (first : ℕ) (plan : Plan) (table : model.Table) → Stands t f first plan table → Stands t g first plan table
stands-pages f g same t first plan table h =
    stands-apart f g first plan (λ n. ap (λ (at : ℕ → List ℕ). at (place_in first plan DataRing n)) same) (λ has n. ap (λ (at : ℕ → List ℕ). at (place_in first plan IndexRing n)) same) (λ has n. ap (λ (at : ℕ → List ℕ). at (place_in first plan VarRing n)) same) t table h
