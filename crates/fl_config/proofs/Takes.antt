-- When a table line is taken, and what the table then is.
use Rattle.std.proofs.Common.{◌≡◌, ℕ, ◌+◌, ◌-◌, ◌%◌, ◌≤◌, Bool, false, not, ◌||◌, ◌&&◌, nat_lt, Option, Some, None, List, [], ◌∷◌, ◌++◌, length, map, arith, rules, refl, sym, ◌∙◌, ap, subst}
use Rattle.std.specs.Prelude.{◌==◌, IfSome, IsSome, IsSomeAnd, is_some, is_none, sum_by, unwrap_or}
use Rattle.std.specs.List.{list_any}
use Rattle.std.proofs.lemmas.List.Sums.{sum_by-cons}
use Rattle.std.proofs.lemmas.Bool.Decides.{nat_tests}
use Rattle.fl_base.specs.declared.types.Geometry.{Geometry}
use Rattle.fl_base.specs.declared.types.RingPlace.{RingPlace}
use Rattle.fl_base.proofs.Tests.{not_zero}
use Rattle.fl_bitmap.specs.declared.buckets.Buckets.{Buckets}
use Rattle.fl_model.specs.Record.{Plan, blocks_of, row_len}
use Rattle.fl_words.specs.Command.{TableLine}
use Rattle.fl_words.specs.Config as words
use Rattle.fl_words.specs.Config.{ConfigFault, first_fault, table_faults, plan_of, too_large, bad_blob_limit, bad_log}
use Rattle.fl_words.proofs.Tests.{first-passes}
use Rattle.fl_plan.specs.declared.table_config.TableConfig.{TableConfig}
use Rattle.fl_plan.specs.Plan.{IsRingAt, plan_of_table}
use Rattle.fl_plan.specs.Limits.{IsWithin, IsRingSize, IsWithinLimits}
use Rattle.fl_plan.specs.Refusal.{pages_misfit, is_bad_ring, field_faults, room_faults, ring_faults, config_fault, nameless}
use Rattle.fl_plan.proofs.Faults.{some-first, some-then, none-both}
use Rattle.fl_plan.proofs.Fits.{fewer-fit}
use Rattle.fl_config.specs.declared.entry.Entry.{Entry}
use Rattle.fl_config.specs.Entry.{plan_in}
use Rattle.fl_config.specs.Label.{LineLabel, plan_with}
use Rattle.fl_config.specs.Lines.{place_faults, line_faults, size_faults}

-- a test of the plans is one of the tables
pub any-map : (p : Plan → Bool) (entries : List Entry) → list_any p (map plan_in entries) ≡ list_any (λ e. p (plan_in e)) entries
any-map p [] = refl
any-map p (entry ∷ entries) = ap (λ others. p (plan_in entry) || others) (any-map p entries)

pub sum-push : (plans : List Plan) (plan : Plan) → sum_by blocks_of (plans ++ plan ∷ []) ≡ sum_by blocks_of plans + blocks_of plan
sum-push [] plan = omega arith
sum-push (first ∷ plans) plan = omega (arith, sum-push plans plan, sum_by-cons blocks_of first (plans ++ plan ∷ []), sum_by-cons blocks_of first plans)

-- the blocks of all rings with those of one more table
pub large-is : (geometry : Geometry) (blocks : ℕ) (plans : List Plan) (plan : Plan) → blocks ≡ sum_by blocks_of plans →
    too_large geometry (plans ++ plan ∷ []) ≡ pages_misfit geometry (blocks + blocks_of plan)
large-is geometry blocks plans plan is = ap (λ b. pages_misfit geometry b) (sum-push plans plan ∙ ap (λ b. b + blocks_of plan) (sym is))

-- the last tests of a line
abbrev pub last_faults : Geometry → List Plan → Plan → Option ℕ → List (Bool × ConfigFault)
last_faults geometry plans plan log =
    (nat_lt (geometry.page - 24) (row_len plan), words.RowTooLong) ∷ (too_large geometry (plans ++ plan ∷ []), words.DeviceTooLarge)
    ∷ (plan.full_index && (plan.index_blocks == 0), words.Format)
    ∷ (bad_log log, words.LogBlocks)
    ∷ (is_some log && not (plan.var_blocks == 0), words.LogVar) ∷ []

pub last-is : (geometry : Geometry) (blocks : ℕ) (plans : List Plan) (plan : Plan) (log : Option ℕ) → blocks ≡ sum_by blocks_of plans →
    last_faults geometry plans plan log ≡ size_faults geometry blocks plan log
last-is geometry blocks plans plan log is = rw (large-is geometry blocks plans plan is) refl

page-fits : (geometry : Geometry) → IsWithin geometry → (nat_lt geometry.page 64 || nat_lt 4096 geometry.page || not (geometry.page % 8 == 0)) ≡ false
page-fits geometry within = rw within.page_eights (grind (arith, nat_tests, within.page_low, within.page_high))

block-fits : (geometry : Geometry) → IsWithin geometry → (nat_lt geometry.block 2 || nat_lt 256 geometry.block) ≡ false
block-fits geometry within = grind (arith, nat_tests, within.block_low, within.block_high)

ring-fits : (place : Option RingPlace) → IfSome place IsRingSize → is_bad_ring place ≡ false
ring-fits None size = refl
ring-fits (Some place) size = grind (arith, nat_tests, size.0, size.1)

indexed-fits : (place : Option RingPlace) (buckets : Option Buckets) → IfSome place (λ p. IsSome buckets) → (is_some place && is_none buckets) ≡ false
indexed-fits None buckets is = refl
indexed-fits (Some place) None is = absurd (search (rules, is))
indexed-fits (Some place) (Some buckets) is = refl

fields-pass : (config : TableConfig) → IsWithinLimits config → first_fault (field_faults config) ≡ None
fields-pass config limits =
    let rows : (nat_lt config.rows.blocks 3 || nat_lt 16384 config.rows.blocks) ≡ false = grind (arith, nat_tests, limits.rows.0, limits.rows.1) in
    let error : nat_lt 255 config.error ≡ false = grind (arith, nat_tests, limits.error) in
    rw (
      page-fits config.geometry limits.geometry,
      block-fits config.geometry limits.geometry,
      not_zero (length config.columns.items) limits.some_columns,
      rows,
      ring-fits config.index limits.index,
      ring-fits config.var limits.var,
      indexed-fits config.index config.buckets limits.buckets,
      error,
    ) refl

-- what the last tests decide, where they all pass
pub record Passes (a b c d e : Bool) : Type 0 where
  pub row : a ≡ false
  pub size : b ≡ false
  pub full : c ≡ false
  pub log : d ≡ false
  pub blobs : e ≡ false

pub last-pass : (row size full log blobs : Bool) →
    first_fault ((row, words.RowTooLong) ∷ (size, words.DeviceTooLarge) ∷ (full, words.Format) ∷ (log, words.LogBlocks) ∷ (blobs, words.LogVar) ∷ []) ≡ None → Passes row size full log blobs
last-pass row size full log blobs none =
    let fifth : List (Bool × ConfigFault) = (blobs, words.LogVar) ∷ [] in
    let fourth : List (Bool × ConfigFault) = (log, words.LogBlocks) ∷ fifth in
    let third : List (Bool × ConfigFault) = (full, words.Format) ∷ fourth in
    let a = first-passes row words.RowTooLong ((size, words.DeviceTooLarge) ∷ third) none in
    let b = first-passes size words.DeviceTooLarge third a.1 in
    let c = first-passes full words.Format fourth b.1 in
    let d = first-passes log words.LogBlocks fifth c.1 in
    let e = first-passes blobs words.LogVar [] d.1 in
    record { row = a.0; size = b.0; full = c.0; log = d.0; blobs = e.0 }

-- the log of a line that isn't refused
pub log-taken : (place : Option RingPlace) (first : ℕ) (log : Option ℕ) (var : ℕ) → IsRingAt place first (unwrap_or log 0) → bad_log log ≡ false → (is_some log && not (var == 0)) ≡ false →
    IfSome place (λ p. (p.first_block ≡ first) × IsRingSize p × (var ≡ 0))
log-taken None first log var at size blobs = tt
log-taken (Some p) first None var at size blobs = absurd (omega (arith, at.2))
log-taken (Some p) first (Some n) var at size blobs =
    let low : 3 ≤ n = grind (arith, nat_tests, size) in
    let high : n ≤ 16384 = grind (arith, nat_tests, size) in
    let none : var ≡ 0 = grind (arith, nat_tests, blobs) in
    (at.0, (omega (arith, at.1, low), omega (arith, at.1, high)), none)

-- the size of all rings, with the blocks of the log or with fewer that are as bad
pub size-is : (geometry : Geometry) (before own few log total : ℕ) → own + log ≡ total → pages_misfit geometry (before + own + few) ≡ pages_misfit geometry (before + own + log) →
    pages_misfit geometry (before + total) ≡ pages_misfit geometry (before + own + few)
size-is geometry before own few log total sum same =
    let is : before + total ≡ before + own + log = omega (arith, sum) in
    ap (λ n. pages_misfit geometry n) is ∙ sym same

-- a table that its line doesn't refuse isn't refused by itself
pub passes-alone : (config : TableConfig) (blocks : ℕ) (plan : Plan) (label : LineLabel) (log : Option ℕ) → plan_with label config ≡ plan → IsWithinLimits config → bad_blob_limit plan ≡ false →
    first_fault (size_faults config.geometry blocks plan log) ≡ None → config_fault config ≡ None
passes-alone config blocks plan label log is limits blob none =
    let alone = plan_of_table nameless config in
    let kept : bad_blob_limit alone ≡ false = ap bad_blob_limit is ∙ blob in
    let tests = last-pass (nat_lt (config.geometry.page - 24) (row_len plan)) (pages_misfit config.geometry (blocks + blocks_of plan)) (plan.full_index && (plan.index_blocks == 0)) (bad_log log) (is_some log && not (plan.var_blocks == 0)) none in
    let row : nat_lt (config.geometry.page - 24) (row_len alone) ≡ false = ap (λ p. nat_lt (config.geometry.page - 24) (row_len p)) is ∙ tests.row in
    let few : sum_by blocks_of (alone ∷ []) ≤ blocks + blocks_of plan = omega (arith, ap blocks_of is, sum_by-cons blocks_of alone []) in
    let size : too_large config.geometry (alone ∷ []) ≡ false = fewer-fit config.geometry (sum_by blocks_of (alone ∷ [])) (blocks + blocks_of plan) few tests.size in
    let full : (alone.full_index && (alone.index_blocks == 0)) ≡ false = ap (λ p. p.full_index && (p.index_blocks == 0)) is ∙ tests.full in
    none-both (field_faults config ++ room_faults alone) (ring_faults None config) (none-both (field_faults config) (room_faults alone) (fields-pass config limits) (rw kept (rw row refl))) (rw size (rw full refl))

-- what is told of a line by its first, its next and its last tests
abbrev pub last_part : Geometry → List Plan → TableLine → List (Bool × ConfigFault)
last_part geometry plans line = last_faults geometry plans (plan_of geometry line) line.log_blocks

pub told-next : (geometry : Geometry) (plans : List Plan) (line : TableLine) (told : Option ConfigFault) → first_fault (place_faults plans line) ≡ None →
    IsSomeAnd told (λ fault. first_fault (line_faults geometry line) ≡ Some fault) → IsSomeAnd told (λ fault. first_fault (table_faults geometry plans line) ≡ Some fault)
told-next geometry plans line told place is =
    some-then told (place_faults plans line) (line_faults geometry line ++ last_part geometry plans line) place (some-first told (line_faults geometry line) (last_part geometry plans line) is)

pub told-last : (geometry : Geometry) (plans : List Plan) (line : TableLine) (told : Option ConfigFault) → first_fault (place_faults plans line) ≡ None →
    first_fault (line_faults geometry line) ≡ None → IsSomeAnd told (λ fault. first_fault (last_part geometry plans line) ≡ Some fault) →
    IsSomeAnd told (λ fault. first_fault (table_faults geometry plans line) ≡ Some fault)
told-last geometry plans line told place here is =
    some-then told (place_faults plans line) (line_faults geometry line ++ last_part geometry plans line) place (some-then told (line_faults geometry line) (last_part geometry plans line) here is)

pub told-none : (geometry : Geometry) (plans : List Plan) (line : TableLine) → first_fault (place_faults plans line) ≡ None →
    first_fault (line_faults geometry line) ≡ None → first_fault (last_part geometry plans line) ≡ None → first_fault (table_faults geometry plans line) ≡ None
told-none geometry plans line place here last =
    none-both (place_faults plans line) (line_faults geometry line ++ last_part geometry plans line) place (none-both (line_faults geometry line) (last_part geometry plans line) here last)

pub last-passes : (geometry : Geometry) (plans : List Plan) (plan : Plan) (log : Option ℕ) → first_fault (last_faults geometry plans plan log) ≡ None →
    Passes (nat_lt (geometry.page - 24) (row_len plan)) (too_large geometry (plans ++ plan ∷ [])) (plan.full_index && (plan.index_blocks == 0)) (bad_log log) (is_some log && not (plan.var_blocks == 0))
last-passes geometry plans plan log none =
    last-pass (nat_lt (geometry.page - 24) (row_len plan)) (too_large geometry (plans ++ plan ∷ [])) (plan.full_index && (plan.index_blocks == 0)) (bad_log log) (is_some log && not (plan.var_blocks == 0)) none

pub size-last : (geometry : Geometry) (blocks : ℕ) (plans : List Plan) (line : TableLine) (config : TableConfig) (label : LineLabel) → blocks ≡ sum_by blocks_of plans →
    plan_with label config ≡ plan_of geometry line → size_faults config.geometry blocks (plan_with label config) line.log_blocks ≡ last_part geometry plans line
size-last geometry blocks plans line config label total is =
    ap (λ p. size_faults p.geometry blocks p line.log_blocks) is ∙ sym (last-is geometry blocks plans (plan_of geometry line) line.log_blocks total)

pub some-size : (geometry : Geometry) (blocks : ℕ) (plans : List Plan) (line : TableLine) (config : TableConfig) (label : LineLabel) (told : Option ConfigFault) → blocks ≡ sum_by blocks_of plans →
    plan_with label config ≡ plan_of geometry line → IsSomeAnd told (λ fault. first_fault (size_faults config.geometry blocks (plan_with label config) line.log_blocks) ≡ Some fault) →
    IsSomeAnd told (λ fault. first_fault (last_part geometry plans line) ≡ Some fault)
some-size geometry blocks plans line config label told total is size =
    subst (λ tests. IsSomeAnd told (λ fault. first_fault tests ≡ Some fault)) (size-last geometry blocks plans line config label total is) size

pub none-size : (geometry : Geometry) (blocks : ℕ) (plans : List Plan) (line : TableLine) (config : TableConfig) (label : LineLabel) → blocks ≡ sum_by blocks_of plans →
    plan_with label config ≡ plan_of geometry line → first_fault (size_faults config.geometry blocks (plan_with label config) line.log_blocks) ≡ None →
    first_fault (last_part geometry plans line) ≡ None
none-size geometry blocks plans line config label total is size = ap first_fault (sym (size-last geometry blocks plans line config label total is)) ∙ size
