-- The plans that accepted lines make: their pages, rows and rings are within limits, and their rings lie within the image.
use Rattle.std.proofs.Common.{◌≡◌, ℕ, zero, suc, ◌+◌, ◌-◌, ◌*◌, ◌%◌, ◌≤◌, Bool, true, false, not, ◌||◌, ◌==◌, nat_lt, Option, Some, None, unwrap_or, List, [], ◌∷◌, ◌++◌, length, map, take, refl, sym, ◌∙◌, ap, subst, arith}
use Rattle.std.specs.Prelude.{is_none}
use Rattle.std.specs.List.{slice_get, slice_split, sum_by}
use Rattle.std.proofs.Math.Nat.{mul-le-mul_right}
use Rattle.std.proofs.lemmas.Bool.{eqb-true, ltb-false, or_parts}
use Rattle.std.proofs.lemmas.List.Sums.{sum_by-take-le}
use Rattle.std.proofs.lemmas.Option.{none-some, same_Some}
use Rattle.fl_base.specs.declared.types.Geometry.{Geometry}
use Rattle.fl_image.specs.Header.{IsAccepted}
use Rattle.fl_image.proofs.AcceptedLines.{AreTaken, Stands, accepted-stands}
use Rattle.fl_image.proofs.ColumnWords.{AreTyped, named-are_typed}
use Rattle.fl_model.specs.Image.{IsTableImage, medium_len}
use Rattle.fl_model.specs.Record.{Column, Plan, Config, blocks_of, has_var, row_len}
use Rattle.fl_model.specs.Table.{Table}
use Rattle.fl_model.proofs.Lists.{sum_by-next}
use Rattle.fl_schema.specs.Form.{key_width}
use Rattle.fl_schema.specs.Types.{column_of}
use Rattle.fl_schema.specs.declared.schema.KeyWidth.{KeyWidth}
use Rattle.fl_schema.specs.declared.schema.KeyWidth.TheVariants.{Four, Eight}
use Rattle.fl_words.specs.Command.{TableLine}
use Rattle.fl_words.specs.Config.{Lines, columns_in, device_faults, first_fault, plan_of, table_faults}
use Rattle.fl_words.proofs.Tests.{test-passes}
use Rattle.fl_saved.proofs.RingsOfImage.{IsHere, IsMadePlan}

-- a key of 4 or 8 bytes
record IsKeyOf (bytes : ℕ) : Type 0 where
  key : KeyWidth
  is : key_width key ≡ bytes

key-of : (bytes : ℕ) → not ((bytes == 4) || (bytes == 8)) ≡ false → IsKeyOf bytes
key-of bytes e = by_tests (bytes == 4) (bytes == 8) refl refl e
  where
    by_tests : (a b : Bool) → (bytes == 4) ≡ a → (bytes == 8) ≡ b → not (a || b) ≡ false → IsKeyOf bytes
    by_tests true b x y e = record { key = Four; is = sym (eqb-true bytes 4 x) }
    by_tests false true x y e = record { key = Eight; is = sym (eqb-true bytes 8 y) }
    by_tests false false x y e = cc

typed : (cols : Option (List Column)) (word : List ℕ) → columns_in word ≡ cols → is_none cols ≡ false → AreTyped (unwrap_or cols [])
typed None word is some = cc
typed (Some columns) word is some = named-are_typed (slice_split (λ byte. byte == 44) word) columns is

module _ (geometry : Geometry) (before : List Plan) (line : TableLine) (device : first_fault (device_faults geometry) ≡ None) (passes : first_fault (table_faults geometry before line) ≡ None) where
  abbrev plan : Plan
  plan = plan_of geometry line

  page-fits : (nat_lt geometry.page 64 || nat_lt 4096 geometry.page || not (geometry.page % 8 == 0)) ≡ false
  page-fits = test-passes (device_faults geometry) 0 _ device refl

  block-fits : (nat_lt geometry.block 2 || nat_lt 256 geometry.block) ≡ false
  block-fits = test-passes (device_faults geometry) 1 _ device refl

  key-fits : not ((line.key == 4) || (line.key == 8)) ≡ false
  key-fits = test-passes (table_faults geometry before line) 2 _ passes refl

  columns-fit : is_none (columns_in line.columns) ≡ false
  columns-fit = test-passes (table_faults geometry before line) 3 _ passes refl

  rows-fit : (nat_lt line.data_blocks 3 || nat_lt 16384 line.data_blocks) ≡ false
  rows-fit = test-passes (table_faults geometry before line) 5 _ passes refl

  row-fits : nat_lt (geometry.page - 24) (row_len plan) ≡ false
  row-fits = test-passes (table_faults geometry before line) 12 _ passes refl

  pub line-plan : IsMadePlan (plan_of geometry line)
  line-plan =
      let key = key-of line.key key-fits in
      let columns = typed (columns_in line.columns) line.columns refl columns-fit in
      let sizes = (or_parts (nat_lt geometry.page 64 || nat_lt 4096 geometry.page) (not (geometry.page % 8 == 0)) page-fits).0 in
      let low = ltb-false geometry.page 64 (or_parts (nat_lt geometry.page 64) (nat_lt 4096 geometry.page) sizes).0 in
      let high = ltb-false 4096 geometry.page (or_parts (nat_lt geometry.page 64) (nat_lt 4096 geometry.page) sizes).1 in
      let blocks = ltb-false geometry.block 2 (or_parts (nat_lt geometry.block 2) (nat_lt 256 geometry.block) block-fits).0 in
      let rows = ltb-false line.data_blocks 3 (or_parts (nat_lt line.data_blocks 3) (nat_lt 16384 line.data_blocks) rows-fit).0 in
      let room = ltb-false (geometry.page - 24) (row_len plan) row-fits in
      record {
        page_low = omega (arith, low);
        page_high = omega (arith, high);
        block_some = omega (arith, blocks);
        key = key.key;
        types = columns.types;
        layout =
            ap (λ (n : ℕ). record { key_bytes = n; columns = map column_of columns.types; blobs = has_var plan }) key.is
            ∙ ap (λ (l : List Column). record { key_bytes = line.key; columns = l; blobs = has_var plan }) columns.are;
        room = omega (arith, room);
        rows = omega (arith, rows);
      }

-- each plan that was taken
taken-at : (geometry : Geometry) (before plans : List Plan) (i : ℕ) (plan : Plan) → first_fault (device_faults geometry) ≡ None → AreTaken geometry before plans → slice_get plans i ≡ Some plan
    → IsMadePlan plan × (plan.geometry ≡ geometry)
taken-at geometry before [] i plan device taken e = absurd (none-some plan e)
taken-at geometry before (first ∷ plans) zero plan device taken e =
    let t = taken.0 in
    let same : plan_of geometry t.line ≡ plan = t.plan_is ∙ same_Some first _ e in
    (subst IsMadePlan same (line-plan geometry before t.line device t.passes), ap (λ (p : Plan). p.geometry) (sym same))
taken-at geometry before (first ∷ plans) (suc i) plan device taken e = taken-at geometry (before ++ first ∷ []) plans i plan device taken.1 e

pub here-from : (lines : Lines) (config : Config) (bytes : List ℕ) (place : ℕ) (plan : Plan) (table : Table) → IsAccepted lines → lines.device ≡ Some config.geometry → lines.plans ≡ config.plans
    → slice_get config.plans place ≡ Some plan → length bytes ≡ medium_len config → IsTableImage config bytes place plan table → IsHere config bytes place plan table
here-from lines config bytes place plan table accepted device plans plan_is len image =
    let stands : Stands (Some config.geometry) config.plans = subst (Stands (Some config.geometry)) plans (subst (λ d. Stands d lines.plans) device (accepted-stands lines accepted)) in
    let dev = stands.0 in
    let made = taken-at config.geometry [] config.plans place plan dev.passes stands.1 plan_is in
    let next = sum_by-next blocks_of config.plans place plan plan_is in
    let whole = sum_by-take-le blocks_of config.plans (suc place) in
    let within : sum_by blocks_of (take place config.plans) + blocks_of plan ≤ sum_by blocks_of config.plans = omega (arith, next, whole) in
    let blocks : (sum_by blocks_of (take place config.plans) + blocks_of plan) * plan.geometry.block ≤ sum_by blocks_of config.plans * plan.geometry.block = mul-le-mul_right plan.geometry.block within in
    let all : (sum_by blocks_of (take place config.plans) + blocks_of plan) * plan.geometry.block * plan.geometry.page ≤ sum_by blocks_of config.plans * plan.geometry.block * plan.geometry.page = mul-le-mul_right plan.geometry.page blocks in
    let size : sum_by blocks_of config.plans * plan.geometry.block * plan.geometry.page ≡ sum_by blocks_of config.plans * config.geometry.block * config.geometry.page = ap (λ (g : Geometry). sum_by blocks_of config.plans * g.block * g.page) made.1 in
    record {
      made = made.0;
      geometry = made.1;
      reaches = omega (arith, all, size, len);
      image = image;
    }
