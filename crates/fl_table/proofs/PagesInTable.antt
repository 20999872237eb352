-- What the read of the kept pages comes to, which is said by the page size of its flash, is what it comes to in the table.
use Rattle.std.proofs.Common.{◌≡◌, ℕ, ◌+◌, ◌≤◌, Some, Option, List, ap, subst}
use Rattle.fl_base.specs.declared.types.Geometry.{Geometry}
use Rattle.fl_find.specs.declared.index.KeyIndex.{KeyIndex}
use Rattle.fl_flash.specs.Flash.{FlashState}
use Rattle.fl_index.specs.declared.index.BitmapIndex.{BitmapIndex}
use Rattle.fl_ring.specs.declared.ring.Ring.{Ring}
use Rattle.fl_schema.specs.Schema.{layout_of}
use Rattle.fl_parts.specs.ByEntries.{Come, mount_fault, unlisted_of}
use Rattle.fl_parts.specs.Coming.{WaitUnlisted, come_of, come_on, most_in}
use Rattle.fl_parts.specs.Faults.{IfPage}
use Rattle.fl_parts.specs.Knowing.{KnowsWith}
use Rattle.fl_parts.specs.Reading.{pages_of}
use Rattle.fl_parts.specs.declared.known.Known.{Known}
use Rattle.fl_parts.specs.declared.mount_fault.MountFault.{MountFault}
use Rattle.fl_table.specs.Mounting.{comes_in}
use Rattle.fl_table.specs.declared.table.Table.{Table}

module _ {KNOTS SLOTS : ℕ} (t : Table KNOTS SLOTS) (ring : Ring) (f : FlashState) (size : f.geometry ≡ t.geometry) where
  abbrev kept : Come
  kept = come_on (layout_of t.schema) t.bitmaps ring f

  same : kept ≡ comes_in t t.bitmaps ring f
  same = ap (λ (g : Geometry). come_of (layout_of t.schema) (most_in g.page (layout_of t.schema)) t.bitmaps ring f) size

  pub knows-in : (error : ℕ) (known : Known) (counts : List ℕ) (index : KeyIndex KNOTS SLOTS) → KnowsWith error kept kept.index_pages kept.pages known counts index →
      KnowsWith error (comes_in t t.bitmaps ring f) (comes_in t t.bitmaps ring f).index_pages (comes_in t t.bitmaps ring f).pages known counts index
  knows-in error known counts index h = subst (λ (c : Come). KnowsWith error c c.index_pages c.pages known counts index) same h

  pub waits-in : (end next : ℕ) (now : Option BitmapIndex) → WaitUnlisted kept (pages_of ring f) t.bitmaps end next now → WaitUnlisted (comes_in t t.bitmaps ring f) (pages_of ring f) t.bitmaps end next now
  waits-in end next now h = subst (λ (c : Come). WaitUnlisted c (pages_of ring f) t.bitmaps end next now) same h

  pub refused-in : (e : MountFault) → IfPage (λ fault. mount_fault kept ≡ Some fault) e → IfPage (λ fault. mount_fault (comes_in t t.bitmaps ring f) ≡ Some fault) e
  refused-in e h = subst (λ (c : Come). IfPage (λ fault. mount_fault c ≡ Some fault) e) same h

  pub few-in : (before after : ℕ) → after ≤ before + kept.index_pages + unlisted_of kept kept.oldest kept.pages + 1 →
      after ≤ before + (comes_in t t.bitmaps ring f).index_pages + unlisted_of (comes_in t t.bitmaps ring f) (comes_in t t.bitmaps ring f).oldest (comes_in t t.bitmaps ring f).pages + 1
  few-in before after h = subst (λ (c : Come). after ≤ before + c.index_pages + unlisted_of c c.oldest c.pages + 1) same h
