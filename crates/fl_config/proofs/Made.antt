-- The table that the words of a line make.
use Rattle.std.proofs.Common.{◌≡◌, ℕ, ◌≤◌, Option, Some, None, IsSome, List, [], ◌∷◌, length, map, inl, inr, arith, refl, sym}
use Rattle.std.specs.Prelude.{IfSome, ◌==◌}
use Rattle.std.specs.List.{slice_split}
use Rattle.std.proofs.lemmas.List.Splits.{length-slice_split}
use Rattle.fl_base.specs.declared.types.Geometry.{Geometry}
use Rattle.fl_base.specs.declared.types.RingPlace.{RingPlace}
use Rattle.fl_bitmap.specs.declared.buckets.Buckets.{Buckets}
use Rattle.fl_schema.specs.Types.{column_of}
use Rattle.fl_schema.specs.Form.{key_width}
use Rattle.fl_model.specs.Record.{Column}
use Rattle.fl_words.specs.Command.{TableLine}
use Rattle.fl_words.specs.Config.{cons_column, column_named, columns_named, columns_in, plan_of}
use Rattle.fl_plan.specs.declared.table_config.TableConfig.{TableConfig}
use Rattle.fl_plan.specs.Plan.{IsRingAt, bits_in, base_in, width_in}
use Rattle.fl_plan.specs.Limits.{IsRingSize}
use Rattle.fl_plan.proofs.RingPlaces.{ring-blocks}
use Rattle.fl_config.specs.Label.{plan_with}
use Rattle.fl_config.specs.Words.{IsRingOrNone, AreBucketsIn, label_in}

pub ring-size : (place : Option RingPlace) (first blocks : ℕ) → IsRingAt place first blocks → IsRingOrNone blocks → IfSome place IsRingSize
ring-size None first blocks at few = tt
ring-size (Some place) first blocks at few =
    elim few [ inl none ↦ absurd (omega (arith, none, at.2)) | inr size ↦ (omega (arith, at.1, size.0), omega (arith, at.1, size.1)) ]

-- a ring of index pages has buckets
pub ring-buckets : (place : Option RingPlace) (buckets : Option Buckets) (line : TableLine) (first : ℕ) → IsRingAt place first line.index_blocks → AreBucketsIn buckets line →
    (line.bits ≡ 0 → line.index_blocks ≡ 0) → IfSome place (λ p. IsSome buckets)
ring-buckets None buckets line first at are indexed = tt
ring-buckets (Some place) None line first at are indexed = absurd (omega (arith, indexed are, at.2))
ring-buckets (Some place) (Some buckets) line first at are indexed = refl

buckets-bits : (buckets : Option Buckets) (line : TableLine) → AreBucketsIn buckets line → bits_in buckets ≡ line.bits
buckets-bits None line are = sym are
buckets-bits (Some buckets) line are = are.0

buckets-base : (buckets : Option Buckets) (line : TableLine) → AreBucketsIn buckets line → base_in line.base buckets ≡ line.base
buckets-base None line are = refl
buckets-base (Some buckets) line are = are.1

buckets-width : (buckets : Option Buckets) (line : TableLine) → AreBucketsIn buckets line → width_in line.width buckets ≡ line.width
buckets-width None line are = refl
buckets-width (Some buckets) line are = are.2

pub same-plan : (geometry : Geometry) (line : TableLine) (config : TableConfig) (at-index at-var : ℕ) → config.geometry ≡ geometry → key_width config.key ≡ line.key →
    columns_in line.columns ≡ Some (map column_of config.columns.items) → config.rows.blocks ≡ line.data_blocks →
    IsRingAt config.index at-index line.index_blocks → IsRingAt config.var at-var line.var_blocks → AreBucketsIn config.buckets line →
    config.error ≡ line.error → config.blob_limit ≡ line.blob_limit → config.full_index ≡ line.full_index →
    plan_with (label_in line) config ≡ plan_of geometry line
same-plan geometry line config at-index at-var here key columns rows index var buckets error blob full =
    rw (
      here,
      key,
      columns,
      rows,
      ring-blocks config.index at-index line.index_blocks index,
      ring-blocks config.var at-var line.var_blocks var,
      buckets-bits config.buckets line buckets,
      buckets-base config.buckets line buckets,
      buckets-width config.buckets line buckets,
      error,
      blob,
      full,
    ) refl

-- a word has a column at least
cons-some : (first : Option Column) (others : Option (List Column)) (columns : List Column) → cons_column first others ≡ Some columns → 1 ≤ length columns
cons-some None others columns is = absurd (cc)
cons-some (Some first) None columns is = absurd (cc)
cons-some (Some first) (Some others) [] is = absurd (cc)
cons-some (Some first) (Some others) (column ∷ columns) is = omega arith

named-some : (parts : List (List ℕ)) (columns : List Column) → 1 ≤ length parts → columns_named parts ≡ Some columns → 1 ≤ length columns
named-some [] columns some is = absurd (omega (arith, some))
named-some (part ∷ parts) columns some is = cons-some (column_named part) (columns_named parts) columns is

pub some-columns : (word : List ℕ) (columns : List Column) → columns_in word ≡ Some columns → 1 ≤ length columns
some-columns word columns is = named-some (slice_split (λ byte. byte == 44) word) columns (omega (arith, length-slice_split (λ byte. byte == 44) word)) is
