-- The tables that are made for a configuration, one after another.
use Rattle.std.proofs.Common.{◌≡◌, false, ℕ, ◌+◌, ◌^◌, ◌<◌, ◌≤◌, ◌⊎◌, inl, inr, Option, None, Some, List, [], ◌∷◌, ◌++◌, length, sym, ◌∙◌, ap, subst, length-append, arith, IfSome, slice_get}
use Rattle.fl_model.specs.Bare.{bare}
use Rattle.fl_model.specs.Record.{Plan, blocks_of}
use Rattle.fl_model.proofs.Lists.{slice_get-push}
use Rattle.fl_base.specs.declared.types.RingPlace.{RingPlace}
use Rattle.fl_plan.specs.Plan.{IsConfigOf, IsRingAt, blocks_in}
use Rattle.fl_plan.specs.declared.table_config.TableConfig.{TableConfig}
use Rattle.fl_plan.proofs.RingPlaces.{ring-blocks}
use Rattle.fl_flash.specs.Flash.{FlashState, pages}
use Rattle.fl_rlc.specs.Table.{IsPlanned, LiesOn, is_running}
use Rattle.fl_rlc.specs.declared.table.LoggedTable.{LoggedTable}
use Rattle.fl_words.specs.Config.{Lines}
use Rattle.fl_store.specs.Tables.{first_of, IsNewTable}
use Rattle.fl_store.specs.declared.tables.Entry.{Entry}

-- tables for the first lines
pub record MadeSoFar (lines : Lines) (n : ℕ) (entries : List Entry) : Type 0 where
  pub as_many : length entries ≡ n
  pub each : (i : ℕ) (plan : Plan) (entry : Entry) → slice_get lines.plans i ≡ Some plan → slice_get entries i ≡ Some entry → IsNewTable entry (first_of lines.plans i) plan lines

-- what a table is made of and for: a configuration, whose rings begin at a block, and the place of its log
pub record IsFor (lines : Lines) (i : ℕ) (config : TableConfig) (log : Option RingPlace) (name : List ℕ) : Type 0 where
  pub device : lines.device ≡ Some config.geometry
  pub planned : IfSome (slice_get lines.plans i) (λ plan. IsConfigOf config (bare plan))
  pub named : IfSome (slice_get lines.plans i) (λ plan. name ≡ plan.name)
  pub first : config.rows.first_block ≡ first_of lines.plans i
  pub behind : IfSome (slice_get lines.plans i) (λ plan. IsRingAt log (first_of lines.plans i + plan.data_blocks + plan.index_blocks + plan.var_blocks) plan.log_blocks)

-- the table that was made so
pub record IsMade (config : TableConfig) (log : Option RingPlace) (t : LoggedTable 64 64) : Type 0 where
  pub planned : (plan : Plan) → IsConfigOf config (bare plan) → plan.log_blocks ≡ blocks_in log → IfSome log (λ place. place.first_block ≡ config.rows.first_block + blocks_of (bare plan)) → IsPlanned t config.rows.first_block plan
  pub lies : (f : FlashState) → f.geometry ≡ config.geometry → config.rows.first_block + config.rows.blocks ≤ f.blocks → IfSome config.index (λ place. place.first_block + place.blocks ≤ f.blocks) → IfSome config.var (λ place. place.first_block + place.blocks ≤ f.blocks) →
      IfSome log (λ place. place.first_block + place.blocks ≤ f.blocks) → pages f < 2 ^ 32 → LiesOn t f
  pub down : is_running t ≡ false

geometry-of : (config : TableConfig) (plan : Plan) → IsConfigOf config (bare plan) → config.geometry ≡ plan.geometry
geometry-of config plan of = ap (λ (p : Plan). p.geometry) of.is

-- where the index ring stands
index-within : (config : TableConfig) (plan : Plan) (blocks : ℕ) → IsConfigOf config (bare plan) → config.rows.first_block + blocks_of plan ≤ blocks → IfSome config.index (λ place. place.first_block + place.blocks ≤ blocks)
index-within config plan blocks of within = by-index config.index of.index (ap (λ (p : Plan). p.index_blocks) of.is)
  where
    by-index : (o : Option RingPlace) → IfSome o (λ place. place.first_block ≡ config.rows.first_block + plan.data_blocks) → blocks_in o ≡ plan.index_blocks → IfSome o (λ place. place.first_block + place.blocks ≤ blocks)
    by-index None at size = tt
    by-index (Some place) at size = omega (arith, at, size, within)

-- .. that of variable data
var-within : (config : TableConfig) (plan : Plan) (blocks : ℕ) → IsConfigOf config (bare plan) → config.rows.first_block + blocks_of plan ≤ blocks → IfSome config.var (λ place. place.first_block + place.blocks ≤ blocks)
var-within config plan blocks of within = by-var config.var of.var (ap (λ (p : Plan). p.var_blocks) of.is)
  where
    by-var : (o : Option RingPlace) → IfSome o (λ place. place.first_block ≡ config.rows.first_block + plan.data_blocks + plan.index_blocks) → blocks_in o ≡ plan.var_blocks → IfSome o (λ place. place.first_block + place.blocks ≤ blocks)
    by-var None at size = tt
    by-var (Some place) at size = omega (arith, at, size, within)

-- .. and the log, which has the plan's blocks
log-within : (log : Option RingPlace) (first blocks : ℕ) (plan : Plan) → IsRingAt log (first + plan.data_blocks + plan.index_blocks + plan.var_blocks) plan.log_blocks → first + blocks_of plan ≤ blocks → IfSome log (λ place. place.first_block + place.blocks ≤ blocks)
log-within None first blocks plan at within = tt
log-within (Some place) first blocks plan at within = omega (arith, at.0, at.1, within)

log-first : (log : Option RingPlace) (first own : ℕ) (plan : Plan) → own ≡ first → IsRingAt log (first + plan.data_blocks + plan.index_blocks + plan.var_blocks) plan.log_blocks → IfSome log (λ place. place.first_block ≡ own + blocks_of (bare plan))
log-first None first own plan is at = tt
log-first (Some place) first own plan is at = omega (arith, is, at.0)

-- the table of the next line
new-table : (lines : Lines) (i : ℕ) (plan : Plan) (config : TableConfig) (log : Option RingPlace) (name : List ℕ) (t : LoggedTable 64 64) → slice_get lines.plans i ≡ Some plan → IsFor lines i config log name → IsMade config log t →
    IsNewTable (record { name = name; table = t }) (first_of lines.plans i) plan lines
new-table lines i plan config log name t p for made =
    let of : IsConfigOf config (bare plan) = subst (λ o. IfSome o (λ plan. IsConfigOf config (bare plan))) p for.planned in
    let name_is : name ≡ plan.name = subst (λ o. IfSome o (λ (plan : Plan). name ≡ plan.name)) p for.named in
    let at = subst (λ o. IfSome o (λ (plan : Plan). IsRingAt log (first_of lines.plans i + plan.data_blocks + plan.index_blocks + plan.var_blocks) plan.log_blocks)) p for.behind in
    let own = made.planned plan of (sym (ring-blocks log (first_of lines.plans i + plan.data_blocks + plan.index_blocks + plan.var_blocks) plan.log_blocks at)) (log-first log (first_of lines.plans i) config.rows.first_block plan for.first at) in
    record {
      named = sym name_is;
      device = for.device ∙ ap Some (geometry-of config plan of);
      down = made.down;
      planned = subst (λ n. IsPlanned t n plan) for.first own;
      lies = λ f geometry within few.
          made.lies f (geometry ∙ sym (geometry-of config plan of)) (omega (arith, within, for.first, ap (λ (p : Plan). p.data_blocks) of.is)) (index-within config plan f.blocks of (omega (arith, within, for.first)))
          (var-within config plan f.blocks of (omega (arith, within, for.first))) (log-within log (first_of lines.plans i) f.blocks plan at within) few;
    }

pub made-more : (lines : Lines) (n : ℕ) (entries : List Entry) (config : TableConfig) (log : Option RingPlace) (name : List ℕ) (t : LoggedTable 64 64) → MadeSoFar lines n entries → IsFor lines n config log name → IsMade config log t →
    MadeSoFar lines (n + 1) (entries ++ record { name = name; table = t } ∷ [])
made-more lines n entries config log name t so_far for made = record {
  as_many = length-append entries (new ∷ []) ∙ ap (λ k. k + 1) so_far.as_many;
  each = λ i plan entry p e. by-place i plan entry p (slice_get-push entries new i entry e);
}
  where
    new : Entry
    new = record { name = name; table = t }

    by-place : (i : ℕ) (plan : Plan) (entry : Entry) → slice_get lines.plans i ≡ Some plan → (slice_get entries i ≡ Some entry) ⊎ ((i ≡ length entries) × (new ≡ entry)) → IsNewTable entry (first_of lines.plans i) plan lines
    by-place i plan entry p (inl e) = so_far.each i plan entry p e
    by-place i plan entry p (inr e) =
        let here : i ≡ n = e.0 ∙ so_far.as_many in
        subst (λ x. IsNewTable x (first_of lines.plans i) plan lines) e.1 (subst (λ k. IsNewTable new (first_of lines.plans k) plan lines) (sym here) (new-table lines n plan config log name t (ap (slice_get lines.plans) (sym here) ∙ p) for made))
