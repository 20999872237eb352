-- What holds of a configuration that isn't refused: its rings, its blobs, its rows and its columns.
use Rattle.std.proofs.Common.{◌≡◌, ℕ, ◌+◌, ◌*◌, ◌≤◌, ◌-◌, ◌==◌, not, Bool, true, false, cond, ◌||◌, ◌&&◌, nat_lt, is_some, Option, Some, None, IfSome, [], ◌∷◌, ◌++◌, length, map, refl, ap, arith}
use Rattle.std.proofs.lemmas.Bool.{ltb-false, le-ltb, eqb-true, ne_eqb, not-false, or_parts}
use Rattle.std.proofs.lemmas.Bool.Decides.{nat_tests}
use Rattle.std.proofs.lemmas.List.{length-map}
use Rattle.std.proofs.Math.Nat.{mul-le-mul_right, add-mul}
use Rattle.fl_base.specs.declared.types.Geometry.{Geometry}
use Rattle.fl_base.specs.declared.types.RingPlace.{RingPlace}
use Rattle.std.specs.List.{sum_by}
use Rattle.std.proofs.lemmas.List.Sums.{sum_by-cons}
use Rattle.fl_model.specs.Record.{blocks_of, content_per_page, row_len, layout_len}
use Rattle.fl_plan.specs.declared.table_config.TableConfig.{TableConfig}
use Rattle.fl_plan.specs.Limits.{IsWithinLimits, IsRingSize}
use Rattle.fl_plan.specs.Plan.{blocks_in, plan_of_table, with_log}
use Rattle.fl_plan.specs.Refusal.{config_fault, config_fault_with, field_faults, room_faults, ring_faults, pages_misfit, is_bad_ring, nameless}
use Rattle.fl_plan.proofs.Faults.{none_first, none_last, none-both}
use Rattle.fl_words.specs.Config.{ConfigFault, first_fault, too_large, bad_blob_limit, BlobLimit, RowTooLong, DeviceTooLarge, Format, LogBlocks, LogVar}
use Rattle.fl_schema.specs.Form.{layout_with}
use Rattle.fl_schema.specs.Refusal.{refusal_of}
use Rattle.fl_schema.specs.Types.{column_of}
use Rattle.fl_schema.specs.declared.schema.SchemaRefusal.{SchemaRefusal}

-- the size of all rings, with a log
pub with-log-size : (log : Option RingPlace) (config : TableConfig) (own blocks : ℕ) → own ≡ blocks_of (plan_of_table nameless config) → blocks ≡ blocks_in log →
    too_large config.geometry (with_log (blocks_in log) (plan_of_table nameless config) ∷ []) ≡ pages_misfit config.geometry (own + blocks)
with-log-size log config own blocks all logged =
    let plan = with_log (blocks_in log) (plan_of_table nameless config) in
    let total : sum_by blocks_of (plan ∷ []) ≡ own + blocks = omega (arith, all, logged, sum_by-cons blocks_of plan []) in
    ap (λ n. pages_misfit config.geometry n) total

-- fewer blocks fit where more do
pub fewer-fit : (geometry : Geometry) (few many : ℕ) → few ≤ many → pages_misfit geometry many ≡ false → pages_misfit geometry few ≡ false
fewer-fit geometry few many le fits =
    let pages : few * geometry.block ≤ many * geometry.block = mul-le-mul_right geometry.block le in
    let bytes : few * geometry.block * geometry.page ≤ many * geometry.block * geometry.page = mul-le-mul_right geometry.page pages in
    grind (arith, nat_tests, pages, bytes, fits)

-- the last tests of a table that isn't refused
pub record RingsFit (log : Option RingPlace) (config : TableConfig) : Type 0 where
  pub size : too_large config.geometry (with_log (blocks_in log) (plan_of_table nameless config) ∷ []) ≡ false
  pub format : (config.full_index && (blocks_in config.index == 0)) ≡ false
  pub log_size : is_bad_ring log ≡ false
  pub no_blobs : (is_some log && is_some config.var) ≡ false

pub rings-fit : (log : Option RingPlace) (config : TableConfig) → config_fault_with log config ≡ None → RingsFit log config
rings-fit log config fits =
    let tests = by-tests _ _ _ _ (none_last (field_faults config ++ room_faults (plan_of_table nameless config)) (ring_faults log config) fits) in
    record { size = tests.0; format = tests.1; log_size = tests.2; no_blobs = tests.3 }
  where
    by-tests : (a b c d : Bool) → cond a (Some DeviceTooLarge) (cond b (Some Format) (cond c (Some LogBlocks) (cond d (Some LogVar) None))) ≡ None →
        (a ≡ false) × (b ≡ false) × (c ≡ false) × (d ≡ false)
    by-tests true b c d e = cc
    by-tests false true c d e = cc
    by-tests false false true d e = cc
    by-tests false false false true e = cc
    by-tests false false false false e = (refl, refl, refl, refl)

-- a table that isn't refused with its log isn't refused without it
pub alone-fits : (log : Option RingPlace) (config : TableConfig) → config_fault_with log config ≡ None → config_fault config ≡ None
alone-fits log config fits =
    let plan = plan_of_table nameless config in
    let passed = rings-fit log config fits in
    let few : sum_by blocks_of (plan ∷ []) ≤ sum_by blocks_of (with_log (blocks_in log) plan ∷ []) = omega (arith, sum_by-cons blocks_of plan [], sum_by-cons blocks_of (with_log (blocks_in log) plan) []) in
    let size : too_large config.geometry (plan ∷ []) ≡ false = fewer-fit config.geometry (sum_by blocks_of (plan ∷ [])) (sum_by blocks_of (with_log (blocks_in log) plan ∷ [])) few passed.size in
    none-both (field_faults config ++ room_faults plan) (ring_faults None config) (none_first (field_faults config ++ room_faults plan) (ring_faults log config) fits) (rw size (rw passed.format refl))

-- the data ring and an index ring, which has six pages at least, have no more pages than a device
pub few-pages : (config : TableConfig) (place : RingPlace) → config_fault config ≡ None → IsWithinLimits config → config.index ≡ Some place → config.rows.blocks * config.geometry.block + 6 ≤ 65536
few-pages config place fits limits is =
    let small = (rings-fit None config fits).size in
    let total : sum_by blocks_of (plan_of_table nameless config ∷ []) ≡ config.rows.blocks + blocks_in config.index + blocks_in config.var = omega (arith, sum_by-cons blocks_of (plan_of_table nameless config) []) in
    let few : sum_by blocks_of (plan_of_table nameless config ∷ []) * config.geometry.block ≤ 65536 =
    ltb-false 65536 (sum_by blocks_of (plan_of_table nameless config ∷ []) * config.geometry.block)
    (or_parts (nat_lt 65536 (sum_by blocks_of (plan_of_table nameless config ∷ []) * config.geometry.block)) (nat_lt 67108864 (sum_by blocks_of (plan_of_table nameless config ∷ []) * config.geometry.block * config.geometry.page)) small).0 in
    let three : 3 ≤ blocks_in config.index = index_some config.index is limits.index in
    let more : (config.rows.blocks + 3) * config.geometry.block ≤ sum_by blocks_of (plan_of_table nameless config ∷ []) * config.geometry.block = mul-le-mul_right config.geometry.block (omega (arith, three, total)) in
    let split = add-mul config.rows.blocks 3 config.geometry.block in
    omega (arith, few, more, split, limits.geometry.block_low)
  where
    index_some : (o : Option RingPlace) → o ≡ Some place → IfSome o IsRingSize → 3 ≤ blocks_in o
    index_some None e h = cc
    index_some (Some p) e h = h.0

-- a blob has few bytes
not_first : (b : Bool) (fault : ConfigFault) (o : Option ConfigFault) → cond b (Some fault) o ≡ None → b ≡ false
not_first true fault o e = cc
not_first false fault o e = refl

rooms : (config : TableConfig) → config_fault config ≡ None → first_fault (room_faults (plan_of_table nameless config)) ≡ None
rooms config fits =
    let plan = plan_of_table nameless config in
    none_last (field_faults config) (room_faults plan) (none_first (field_faults config ++ room_faults plan) (ring_faults None config) fits)

pub few-blobs : (config : TableConfig) → config_fault config ≡ None → config.blob_limit ≤ 1500
few-blobs config fits =
    let plan = plan_of_table nameless config in
    by_blocks (plan.var_blocks == 0) (not_first (bad_blob_limit plan) BlobLimit _ (rooms config fits))
  where
    by_blocks : (b : Bool) → cond b (not (config.blob_limit == 0)) ((config.blob_limit == 0) || nat_lt 1500 config.blob_limit || nat_lt (content_per_page (plan_of_table nameless config) * ((blocks_in config.var - 1) * config.geometry.block - 2)) config.blob_limit) ≡ false → config.blob_limit ≤ 1500
    by_blocks true e = let z = eqb-true config.blob_limit 0 (not-false (config.blob_limit == 0) e) in omega (arith, z)
    by_blocks false e =
        let a = (or_parts ((config.blob_limit == 0) || nat_lt 1500 config.blob_limit) (nat_lt (content_per_page (plan_of_table nameless config) * ((blocks_in config.var - 1) * config.geometry.block - 2)) config.blob_limit) e).0 in
        let le = ltb-false 1500 config.blob_limit (or_parts (config.blob_limit == 0) (nat_lt 1500 config.blob_limit) a).1 in
        omega (arith, le)

-- a row has room in a page, and a schema its columns
not_second : (a b : Bool) (first second : ConfigFault) → cond a (Some first) (cond b (Some second) None) ≡ None → b ≡ false
not_second true b first second e = cc
not_second false true first second e = cc
not_second false false first second e = refl

row-short : (config : TableConfig) → config_fault config ≡ None → nat_lt (config.geometry.page - 24) (row_len (plan_of_table nameless config)) ≡ false
row-short config fits =
    let plan = plan_of_table nameless config in
    not_second (bad_blob_limit plan) (nat_lt (config.geometry.page - 24) (row_len plan)) BlobLimit RowTooLong (rooms config fits)

pub row-fits : (config : TableConfig) → config_fault config ≡ None → row_len (plan_of_table nameless config) ≤ config.geometry.page - 24
row-fits config fits = let le = ltb-false (config.geometry.page - 24) (row_len (plan_of_table nameless config)) (row-short config fits) in omega (arith, le)

pub schema-fits : (config : TableConfig) → config_fault config ≡ None → IsWithinLimits config → length config.columns.items ≤ 8 →
    refusal_of 8 (layout_with config.key config.columns.items (nat_lt 0 (blocks_in config.var))) (config.geometry.page - 24) ≡ None
schema-fits config fits limits most =
    let many = length-map config.columns.items column_of in
    by_tests _ _ _ (length (map column_of config.columns.items) == 0) (nat_lt 8 (length (map column_of config.columns.items))) (nat_lt (config.geometry.page - 24) (layout_len (layout_with config.key config.columns.items (nat_lt 0 (blocks_in config.var)))))
    (ne_eqb (length (map column_of config.columns.items)) 0 (λ e. omega (arith, e, many, limits.some_columns)))
    (le-ltb 8 (length (map column_of config.columns.items)) (omega (arith, many, most))) (row-short config fits)
  where
    by_tests : (x y z : SchemaRefusal) (a b c : Bool) → a ≡ false → b ≡ false → c ≡ false → cond a (Some x) (cond b (Some y) (cond c (Some z) None)) ≡ None
    by_tests x y z false false false e k h = refl
    by_tests x y z true b c e k h = cc
    by_tests x y z false true c e k h = cc
    by_tests x y z false false true e k h = cc
