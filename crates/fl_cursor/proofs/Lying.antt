-- A table lies on each flash that holds the same, and a search for a page that fails says what a cursor says of it.
use Rattle.std.proofs.Common.{◌≡◌, ◌*◌, ◌^◌, ◌<◌, Option, Some, None, ℕ, inl, refl, sym, ◌∙◌, ap, subst, arith}
use Rattle.fl_base.specs.declared.types.Geometry.{Geometry}
use Rattle.fl_flash.specs.Flash.{FlashState, pages}
use Rattle.fl_frame.specs.Contents.{Contents, contents_of}
use Rattle.fl_index.specs.declared.index.BitmapIndex.{BitmapIndex}
use Rattle.fl_page.specs.declared.fault.ReadFault.{ReadFault}
use Rattle.fl_page.specs.declared.fault.ReadFault.TheVariants.{Flash, BadPage}
use Rattle.fl_parts.specs.Bitmaps.{LieOn}
use Rattle.fl_parts.specs.Blobs as variable
use Rattle.fl_ring.specs.Place as place
use Rattle.fl_ring.specs.declared.ring.Ring.{Ring}
use Rattle.fl_table.specs.Finding.{LookupFails}
use Rattle.fl_table.specs.Memory.{LiesOn}
use Rattle.fl_table.specs.declared.table.Table.{Table}
use Rattle.fl_cursor.specs.Cursor.{IsBadPage, IfBad, MayBeBad}

module _ (f g : FlashState) (same : contents_of f ≡ contents_of g) where
  geometry : g.geometry ≡ f.geometry
  geometry = ap (λ (c : Contents). c.geometry) (sym same)

  blocks : g.blocks ≡ f.blocks
  blocks = ap (λ (c : Contents). c.blocks) (sym same)

  few : pages f < 2 ^ 32 → pages g < 2 ^ 32
  few h = subst (λ (c : Contents). c.blocks * c.geometry.block < 2 ^ 32) same h

  ring : (r : Ring) → place.LiesOn r f → place.LiesOn r g
  ring r h = record {
    page = ap (λ (x : Geometry). x.page) geometry ∙ h.page;
    block = ap (λ (x : Geometry). x.block) geometry ∙ h.block;
    within = omega (arith, h.within, blocks);
  }

  bitmaps : (o : Option BitmapIndex) → LieOn o f → LieOn o g
  bitmaps None h = tt
  bitmaps (Some index) h = record { geometry = geometry ∙ h.geometry; within = omega (arith, h.within, blocks); few = few h.few; ring = λ r is. ring r (h.ring r is) }

  blobs : {KNOTS SLOTS : ℕ} (t : Table KNOTS SLOTS) → variable.LieOn t.blobs f → variable.LieOn t.blobs g
  blobs t = elim t.blobs as (λ o. variable.LieOn o f → variable.LieOn o g) [
    | None ↦ λ h. h
    | Some var ↦ λ h. record { geometry = geometry ∙ h.geometry; within = omega (arith, h.within, blocks); few = few h.few; ring = λ r is. ring r (h.ring r is) }
  ]

  pub lies-held : {KNOTS SLOTS : ℕ} (t : Table KNOTS SLOTS) → LiesOn t f → LiesOn t g
  lies-held t h = record {
    geometry = geometry ∙ h.geometry;
    within = omega (arith, h.within, blocks);
    few = few h.few;
    ring = λ r is. ring r (h.ring r is);
    bitmaps = bitmaps t.bitmaps h.bitmaps;
    blobs = blobs t h.blobs;
  }

-- .. and a bad page that it names
pub search-bad : {KNOTS SLOTS : ℕ} (t : Table KNOTS SLOTS) (old new : FlashState) (fault : ReadFault) → LookupFails t old fault new → IfBad (MayBeBad t (contents_of old)) fault
search-bad t old new (Flash e) fails = tt
search-bad t old new (BadPage bad) fails = λ tells.
    let h = fails.0 tells in
    inl (subst (λ b. IsBadPage t (contents_of old) b) (sym h.is_bad.told) (record { from = h.kept.0; before = h.kept.1; committed = h.is_bad.committed; not_good = h.is_bad.not_good; told = refl }))
