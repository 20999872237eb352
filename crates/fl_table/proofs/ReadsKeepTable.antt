-- Reads leave a table as it stands.
use Rattle.std.proofs.Common.{◌≡◌, ℕ, ◌≤◌, ◌+◌, ◌-◌, Bool, Option, Some, option_map, unwrap_or, refl, sym, ◌∙◌, subst, arith}
use Rattle.fl_flash.specs.Flash.{FlashState, page_at, StaysWith}
use Rattle.fl_frame.specs.Contents as contents
use Rattle.fl_frame.proofs.ContentsInTurn.{OnlyReads-goes}
use Rattle.fl_model.specs.Record.{Plan}
use Rattle.fl_model.specs.Table as model
use Rattle.fl_model.specs.Table.{IndexRing, VarRing, lose}
use Rattle.fl_frame.specs.Reads.{OnlyReads}
use Rattle.fl_ring.specs.Place.{next_of, oldest_of}
use Rattle.fl_ring.specs.declared.ring.Ring.{Ring}
use Rattle.fl_frame.proofs.ReadsInTurn.{same_page}
use Rattle.fl_table.specs.Look.{oldest_in}
use Rattle.fl_table.specs.Memory.{next_in, LiesOn}
use Rattle.fl_frame.proofs.CallsInTurn.{stays-set, few-goes}
use Rattle.fl_ring.proofs.Exists.{lies_still}
use Rattle.fl_parts.specs.Pages.{place_in}
use Rattle.fl_table.specs.Standing.{Stands}
use Rattle.fl_table.specs.declared.table.Table.{Table}
use Rattle.fl_parts.proofs.Images.{holds-same}
use Rattle.fl_parts.proofs.IndexOfTable.{lies-goes, stand-moved}
use Rattle.fl_parts.proofs.BlobsOfTable as blobbing
use Rattle.fl_parts.proofs.Plain.{IsPlainTable, table-parts}

pub stands-still : {KNOTS SLOTS : ℕ} (t : Table KNOTS SLOTS) (f g : FlashState) (n first : ℕ) (plan : Plan) (table : model.Table) → OnlyReads f n g → Stands t f first plan table → Stands t g first plan table
stands-still t f g n first plan table reads stands = record {
  planned = stands.planned;
  facts = stands.facts;
  whole = stands.whole;
  clean = stands.clean;
  pages = holds-same (page_at f) (page_at g) first plan (lose table) (λ ring number. same_page f g n (place_in first plan ring number) reads) stands.pages;
  memory = stands.memory;
  bitmaps = stand-moved t.bitmaps f g first plan table table refl refl refl refl facts (λ m. same_page f g n (place_in first plan IndexRing m) reads) stands.bitmaps;
  blobs = blobbing.stand-moved t.blobs f g first plan table table (λ m. same_page f g n (place_in first plan VarRing m) reads) refl refl refl (λ i entry e. (i, e)) stands.blobs;
  points = stands.points;
}
  where
    facts : IsPlainTable plan table
    facts = table-parts plan table stands.planned.log stands.facts

-- where it lies on a flash, it does on one of that size
pub lies-moved : {KNOTS SLOTS : ℕ} {Power : Type 0} (t : Table KNOTS SLOTS) (f g : FlashState) → StaysWith Power f g → LiesOn t f → LiesOn t g
lies-moved t f g goes lies = record {
  geometry = goes.geometry ∙ lies.geometry;
  within = omega (arith, lies.within, goes.blocks);
  few = few-goes f g goes lies.few;
  ring = λ ring is. lies_still ring f g (lies.ring ring is) goes;
  bitmaps = lies-goes t.bitmaps f g goes lies.bitmaps;
  blobs = blobbing.lies-goes t.blobs f g goes lies.blobs;
}

pub lies-still : {KNOTS SLOTS : ℕ} (t : Table KNOTS SLOTS) (f g : FlashState) (n : ℕ) → OnlyReads f n g → LiesOn t f → LiesOn t g
lies-still t f g n reads lies = lies-moved t f g reads.goes lies

-- the power came on again
pub lies-powered : {KNOTS SLOTS : ℕ} (t : Table KNOTS SLOTS) (f : FlashState) (on : Bool) → LiesOn t f → LiesOn t (record f { is_on = on })
lies-powered t f on lies =
    lies-moved t f (record f { is_on = on }) (stays-set f on f.armed) lies

-- after calls that only read
pub lies-read : {KNOTS SLOTS : ℕ} (t : Table KNOTS SLOTS) (f g : FlashState) → contents.OnlyReads f g → LiesOn t f → LiesOn t g
lies-read t f g reads lies = lies-moved t f g (OnlyReads-goes f g reads) lies

-- no more pages are read than its ring keeps, and one
pub most-kept : {KNOTS SLOTS : ℕ} (t : Table KNOTS SLOTS) (f g : FlashState) (ring : Ring) → t.ring ≡ Some ring → g.work.reads ≤ f.work.reads + (next_of ring - oldest_of ring) + 1 → g.work.reads ≤ f.work.reads + (next_in t - oldest_in t) + 1
most-kept t f g ring is most =
    subst (λ (o : Option Ring). g.work.reads ≤ f.work.reads + (unwrap_or (option_map (λ ring. next_of ring) o) 0 - unwrap_or (option_map (λ ring. oldest_of ring) o) 0) + 1) (sym is) most
