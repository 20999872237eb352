-- What the mount of a table without its log leaves of the pages of a flash.
use Rattle.std.proofs.Common.{◌≡◌, ℕ, ◌+◌, ◌*◌, ◌<◌, ◌≤◌, Bool, true, false, IsTrue, Option, None, Some, List, sym, ◌∙◌, ap, subst, arith}
use Rattle.std.specs.Option.{unwrap_or}
use Rattle.std.proofs.Math.Nat.{mul-le-mul_right, add-mul}
use Rattle.std.proofs.lemmas.Bool.{ltb-true}
use Rattle.fl_base.specs.declared.types.Geometry.{Geometry}
use Rattle.fl_flash.specs.Flash.{FlashState, Goes, page_at}
use Rattle.fl_frame.proofs.CallsInTurn.{goes-then, goes-same}
use Rattle.fl_index.specs.Memory as memory
use Rattle.fl_index.specs.declared.index.BitmapIndex.{BitmapIndex}
use Rattle.fl_index.proofs.SealEnds.{planned-ring as index-ring}
use Rattle.fl_model.specs.Record.{Plan, blocks_of}
use Rattle.fl_frame.specs.Reads.{OnlyReads}
use Rattle.fl_ring.specs.Mounting.{HasNumbers}
use Rattle.fl_ring.specs.Ring.{Shape}
use Rattle.fl_ring.specs.declared.ring.Ring.{Ring}
use Rattle.fl_ring.proofs.Founds.{same_pages}
use Rattle.fl_parts.specs.Bitmaps.{ArePlanned}
use Rattle.fl_parts.specs.BlobEnds.{least_of}
use Rattle.fl_parts.specs.BlobMount.{FindsBlobs}
use Rattle.fl_parts.specs.Blobs as variable
use Rattle.fl_table.specs.Memory.{IsPlanned, ring_shape}
use Rattle.fl_parts.specs.IndexMount.{FindsBy, FindsBitmaps}
use Rattle.fl_table.specs.Mounting.{FindsPages}
use Rattle.fl_table.specs.declared.counts.Mounted.{Mounted}
use Rattle.fl_table.specs.declared.table.Table.{Table}
use Rattle.fl_parts.proofs.BlobsOfTable as blobbing
use Rattle.fl_parts.proofs.IndexOfTable.{planned-some}
use Rattle.fl_table.proofs.SealAnswers.{planned-shape, planned-ring}
use Rattle.fl_var.specs.Memory.{var_shape}
use Rattle.fl_var.specs.declared.var_data.VarData.{VarData}
use Rattle.fl_rlc.proofs.RingRepairs.{Repairs, repairs-none, repairs-then, repairs-first, ring-repairs}

-- the pages of so many blocks are repaired, and all others stand
abbrev pub RepairsBlocks : Plan → ℕ → ℕ → FlashState → FlashState → Type 0
RepairsBlocks plan at blocks old new = Goes old new × Repairs plan.geometry.page (at * plan.geometry.block) ((at + blocks) * plan.geometry.block) (page_at old) (page_at new)

-- the shape of a ring on these blocks
abbrev shape_from : Plan → ℕ → ℕ → Shape
shape_from plan at blocks = record { first = at * plan.geometry.block; blocks = blocks; per_block = plan.geometry.block; size = plan.geometry.page }

none-there : (plan : Plan) (at blocks : ℕ) (old new : FlashState) → new ≡ old → RepairsBlocks plan at blocks old new
none-there plan at blocks old new e =
    subst (λ (f : FlashState). RepairsBlocks plan at blocks old f) (sym e) (goes-same old, repairs-none plan.geometry.page (at * plan.geometry.block) ((at + blocks) * plan.geometry.block) (page_at old))

then-read : (plan : Plan) (at blocks n : ℕ) (old mid new : FlashState) → RepairsBlocks plan at blocks old mid → OnlyReads mid n new → RepairsBlocks plan at blocks old new
then-read plan at blocks n old mid new h reads = (
  goes-then old mid new h.0 reads.goes,
  subst (λ (pages : ℕ → List ℕ). Repairs plan.geometry.page (at * plan.geometry.block) ((at + blocks) * plan.geometry.block) (page_at old) pages) (sym (same_pages mid new n reads)) h.1,
)

var-ring : (var : VarData) (first : ℕ) (plan : Plan) → variable.IsPlanned var first plan → var_shape var ≡ shape_from plan first plan.var_blocks
var-ring var first plan h =
    ap (λ (n : ℕ). record { first = n; blocks = var.place.blocks; per_block = var.geometry.block; size = var.geometry.page }) h.begins
    ∙ (ap (λ (n : ℕ). record { first = first * plan.geometry.block; blocks = n; per_block = var.geometry.block; size = var.geometry.page }) (sym h.planned.blocks)
    ∙ ap (λ (g : Geometry). record { first = first * plan.geometry.block; blocks = plan.var_blocks; per_block = g.block; size = g.page }) (sym h.planned.geometry))

module _ (plan : Plan) (pages : 2 ≤ plan.geometry.block) where
  ring-found : (at blocks least : ℕ) (r : Shape) (ring : Ring) (old new : FlashState) → r ≡ shape_from plan at blocks → 0 < blocks → IsTrue old.media.tells → old.geometry ≡ plan.geometry → HasNumbers old r least ring new → RepairsBlocks plan at blocks old new
  ring-found at blocks least r ring old new is some told geometry h =
      let all = ring-repairs (shape_from plan at blocks) some (omega (arith, pages)) least ring old new told (ap (λ (g : Geometry). g.block) geometry) (ap (λ (g : Geometry). g.page) geometry)
      (subst (λ (s : Shape). HasNumbers old s least ring new) is h) in
      (all.0, subst (λ (n : ℕ). Repairs plan.geometry.page (at * plan.geometry.block) n (page_at old) (page_at new)) (sym (add-mul at blocks plan.geometry.block)) all.1)

  index-found : (bitmaps now : Option BitmapIndex) (old new : FlashState) (end : Option ℕ) (first : ℕ) → ArePlanned bitmaps first plan → IsTrue old.media.tells → old.geometry ≡ plan.geometry → FindsBitmaps bitmaps old end now new → RepairsBlocks plan first plan.index_blocks old new
  index-found None None old new end first planned told geometry h = none-there plan first plan.index_blocks old new h.1
  index-found None (Some now) old new end first planned told geometry h = absurd h
  index-found (Some index) None old new end first planned told geometry h = absurd h
  index-found (Some index) (Some now) old new end first planned told geometry h = by_form (memory.form_in index).full h
    where
      found-to : (ring : Ring) (mid : FlashState) → HasNumbers old (memory.ring_shape index) 0 ring mid → RepairsBlocks plan first plan.index_blocks old mid
      found-to ring mid numbers = ring-found first plan.index_blocks 0 (memory.ring_shape index) ring old mid (index-ring index first plan planned) (ltb-true 0 plan.index_blocks (planned-some index first plan planned)) told geometry numbers

      by_form : (full : Bool) → FindsBy full index old end now new → RepairsBlocks plan first plan.index_blocks old new
      by_form true h = found-to h.ring new h.numbers
      by_form false h = let reads = h.ring_reads in then-read plan first plan.index_blocks _ old reads.repaired new (found-to h.ring reads.repaired reads.numbers) reads.reads

  var-found : (blobs now : Option VarData) (old new : FlashState) (least first : ℕ) → variable.ArePlanned blobs first plan → IsTrue old.media.tells → old.geometry ≡ plan.geometry → FindsBlobs blobs old least now new → RepairsBlocks plan first plan.var_blocks old new
  var-found None now old new least first planned told geometry h = none-there plan first plan.var_blocks old new h.1
  var-found (Some var) None old new least first planned told geometry h = absurd h
  var-found (Some var) (Some now) old new least first planned told geometry h =
      ring-found first plan.var_blocks least (var_shape var) h.ring old new (var-ring var first plan planned) (ltb-true 0 plan.var_blocks (blobbing.planned-some var first plan planned)) told geometry h.numbers

-- the rings of a table, of which the index is mounted first
pub table-found : {KNOTS SLOTS : ℕ} (t u : Table KNOTS SLOTS) (first : ℕ) (plan : Plan) (old new : FlashState) (mounted : Mounted) → IsPlanned t first plan → IsTrue old.media.tells → old.geometry ≡ plan.geometry → FindsPages t old mounted u new → RepairsBlocks plan first (blocks_of plan) old new
table-found t u first plan old new mounted planned told geometry h =
    let block = plan.geometry.block in
    let shape = planned-shape t first plan planned in
    let rows = h.rows in
    let reads = rows.pages.ring_reads in
    let index = index-found plan shape.pages t.bitmaps h.found old h.indexed h.end (first + plan.data_blocks) planned.index told geometry h.bitmaps in
    let found = ring-found plan shape.pages first plan.data_blocks (unwrap_or h.end 0) (ring_shape t) rows.ring h.indexed reads.repaired (planned-ring t first plan planned) (omega (arith, shape.blocks)) (subst IsTrue (sym index.0.tells) told)
    (index.0.geometry ∙ geometry) reads.numbers in
    let pages = then-read plan first plan.data_blocks _ h.indexed reads.repaired rows.between found reads.reads in
    let goes = goes-then old h.indexed rows.between index.0 pages.0 in
    let var = var-found plan shape.pages t.blobs u.blobs rows.between new (least_of rows.end) (first + plan.data_blocks + plan.index_blocks) planned.var (subst IsTrue (sym goes.tells) told) (goes.geometry ∙ geometry) rows.blobs in
    let both = repairs-first plan.geometry.page (first * block) ((first + plan.data_blocks) * block) ((first + plan.data_blocks + plan.index_blocks) * block) (page_at old) (page_at h.indexed) (page_at rows.between)
    (mul-le-mul_right block (omega arith)) (mul-le-mul_right block (omega arith)) index.1 pages.1 in
    let all = repairs-then plan.geometry.page (first * block) ((first + plan.data_blocks + plan.index_blocks) * block) ((first + plan.data_blocks + plan.index_blocks + plan.var_blocks) * block) (page_at old) (page_at rows.between) (page_at new)
    (mul-le-mul_right block (omega arith)) (mul-le-mul_right block (omega arith)) both var.1 in
    let end : first + plan.data_blocks + plan.index_blocks + plan.var_blocks ≡ first + blocks_of plan = omega (arith, planned.log) in
    (goes-then old rows.between new goes var.0, subst (λ (n : ℕ). Repairs plan.geometry.page (first * block) (n * block) (page_at old) (page_at new)) end all)
