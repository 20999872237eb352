-- How many pages the rings of a table in memory keep, of the table of the model for which it stands.
use Rattle.std.proofs.Common.{◌≡◌, ℕ, ◌+◌, ◌-◌, Option, option_map, length, ◌∙◌, ap}
use Rattle.fl_flash.specs.Flash.{FlashState}
use Rattle.fl_model.specs.Record.{Plan}
use Rattle.fl_model.specs.Ring.{Ring, oldest}
use Rattle.fl_model.specs.Table as model
use Rattle.fl_parts.proofs.RingsKept.{index-kept, blobs-kept, oldest-kept}
use Rattle.fl_table.specs.Look.{oldest_in}
use Rattle.fl_table.specs.Memory.{next_in}
use Rattle.fl_parts.specs.Rings.{index_pages, blob_pages, oldest_page}
use Rattle.fl_table.specs.Rings.{rings_in, rings_of}
use Rattle.fl_table.specs.Standing.{Stands}
use Rattle.fl_table.specs.declared.rings.TableRings.{TableRings}
use Rattle.fl_table.specs.declared.table.Table.{Table}
use Rattle.fl_table.proofs.MemoryTells.{pages-is}

-- three counts
abbrev pub of_counts : ℕ → Option ℕ → Option ℕ → TableRings
of_counts rows index blobs = record { rows = rows; index = index; blobs = blobs }

rings-alike : (rows rows_now : ℕ) (index index_now blobs blobs_now : Option ℕ) → rows ≡ rows_now → index ≡ index_now → blobs ≡ blobs_now →
    of_counts rows index blobs ≡ of_counts rows_now index_now blobs_now
rings-alike rows rows_now index index_now blobs blobs_now a b c =
    ap (λ (n : ℕ). of_counts n index blobs) a ∙ (ap (λ (o : Option ℕ). of_counts rows_now o blobs) b ∙ ap (λ (o : Option ℕ). of_counts rows_now index_now o) c)

-- what was asked of each ring
pub rings-told : {KNOTS SLOTS : ℕ} (t : Table KNOTS SLOTS) (next old : ℕ) (index blobs : Option ℕ) → next ≡ next_in t → old ≡ oldest_in t → index ≡ index_pages t.bitmaps → blobs ≡ blob_pages t.blobs →
    of_counts (next - old) index blobs ≡ rings_in t
rings-told t next old index blobs next_is old_is index_is blobs_is =
    rings-alike (next - old) (next_in t - oldest_in t) index (index_pages t.bitmaps) blobs (blob_pages t.blobs) (ap (λ n. n - old) next_is ∙ ap (λ n. next_in t - n) old_is) index_is blobs_is

module _ {KNOTS SLOTS : ℕ} (t : Table KNOTS SLOTS) (f : FlashState) (first : ℕ) (plan : Plan) (table : model.Table) (stands : Stands t f first plan table) where
  pub rings-are : rings_in t ≡ rings_of table
  rings-are =
      rings-alike (next_in t - oldest_in t) (length table.rows.counts) (index_pages t.bitmaps) (option_map (λ (ring : Ring). length ring.counts) table.index) (blob_pages t.blobs) (option_map (λ (ring : Ring). length ring.counts) table.var)
      (pages-is t f first plan table stands)
      (index-kept t.bitmaps f (first + plan.data_blocks) plan table stands.planned.index stands.facts.has_rings.0 stands.bitmaps)
      (blobs-kept t.blobs f (first + plan.data_blocks + plan.index_blocks) plan table stands.planned.var stands.facts.has_rings.1 stands.blobs)

  pub oldest-page-is : oldest_page t.blobs ≡ option_map (λ (ring : Ring). oldest ring) table.var
  oldest-page-is = oldest-kept t.blobs f (first + plan.data_blocks + plan.index_blocks) plan table stands.planned.var stands.facts.has_rings.1 stands.blobs
