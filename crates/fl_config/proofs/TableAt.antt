-- A table by its number.
use Rattle.std.proofs.Common.{◌≡◌, ℕ, zero, suc, ◌+◌, ◌<◌, Option, Some, None, List, [], ◌∷◌, length, map, take, get_or, zero-add, arith, refl, sym, ◌∙◌, ap, subst}
use Rattle.std.specs.Prelude.{IfSome, sum_by, slice_get, ℤ}
use Rattle.std.proofs.lemmas.List.{length-map, take-map}
use Rattle.fl_base.specs.declared.types.Geometry.{Geometry}
use Rattle.fl_base.specs.declared.types.RingPlace.{RingPlace}
use Rattle.fl_bitmap.specs.declared.buckets.Buckets.{Buckets}
use Rattle.fl_model.specs.Bare.{bare}
use Rattle.fl_model.specs.Record.{Plan, blocks_of}
use Rattle.fl_words.specs.Config.{Lines}
use Rattle.fl_words.specs.Medium.{table_text}
use Rattle.fl_plan.specs.Plan.{IsConfigOf, IsRingAt, blocks_in, base_in, width_in}
use Rattle.fl_plan.specs.Limits.{IsRingSize, IsWithinLimits}
use Rattle.fl_plan.specs.Refusal.{config_fault}
use Rattle.fl_config.specs.declared.entry.Entry.{Entry}
use Rattle.fl_config.specs.Entry.{plan_in}
use Rattle.fl_config.specs.Places.{StandsFrom}
use Rattle.fl_config.specs.Standing.{AreTables, AreLines}
use Rattle.fl_config.proofs.Tables.{taken-at}

base-again : (base : ℤ) (buckets : Option Buckets) → base_in (base_in base buckets) buckets ≡ base_in base buckets
base-again base None = refl
base-again base (Some buckets) = refl

width-again : (width : ℕ) (buckets : Option Buckets) → width_in (width_in width buckets) buckets ≡ width_in width buckets
width-again width None = refl
width-again width (Some buckets) = refl

pub config-of : (entry : Entry) (first : ℕ) → StandsFrom first entry.config → IsConfigOf entry.config (bare (plan_in entry))
config-of entry first stands = record {
  is = rw (base-again entry.base entry.config.buckets, width-again entry.width entry.config.buckets) refl;
  index = rw stands.rows stands.index;
  var = rw stands.rows stands.var;
}

pub plan-at : (entries : List Entry) (i : ℕ) (d : Entry) → i < length entries → slice_get (map plan_in entries) i ≡ Some (plan_in (get_or entries i d))
plan-at [] i d lt = absurd (omega (arith, lt))
plan-at (entry ∷ entries) zero d lt = refl
plan-at (entry ∷ entries) (suc i) d lt = plan-at entries i d (omega (arith, lt))

-- what is told of a table and of its log
pub record TableIs (lines : Lines) (i : ℕ) (entry : Entry) : Type 0 where
  pub plan : IfSome (slice_get lines.plans i) (λ plan. IsConfigOf entry.config (bare plan))
  pub first : entry.config.rows.first_block ≡ sum_by blocks_of (take i lines.plans)
  pub device : lines.device ≡ Some entry.config.geometry
  pub limits : IsWithinLimits entry.config
  pub passes : config_fault entry.config ≡ None
  pub place : IfSome (slice_get lines.plans i) (λ plan. IsRingAt entry.log (sum_by blocks_of (take i lines.plans) + plan.data_blocks + plan.index_blocks + plan.var_blocks) plan.log_blocks)
  pub size : IfSome entry.log IsRingSize
  pub blobs : IfSome (slice_get lines.plans i) (λ plan. IfSome entry.log (λ place. plan.var_blocks ≡ 0))

log-at : (log : Option RingPlace) (first end var : ℕ) → IfSome log (λ place. (place.first_block ≡ end) × IsRingSize place × (var ≡ 0)) → end ≡ first → IsRingAt log first (blocks_in log)
log-at None first end var is at = refl
log-at (Some place) first end var is at = (is.0 ∙ at, refl, omega (arith, is.1.0))

log-size : (log : Option RingPlace) (end var : ℕ) → IfSome log (λ place. (place.first_block ≡ end) × IsRingSize place × (var ≡ 0)) → IfSome log IsRingSize
log-size None end var is = tt
log-size (Some place) end var is = is.1

log-blobs : (log : Option RingPlace) (end var : ℕ) → IfSome log (λ place. (place.first_block ≡ end) × IsRingSize place × (var ≡ 0)) → IfSome log (λ place. var ≡ 0)
log-blobs None end var is = tt
log-blobs (Some place) end var is = is.2

here-at : (geometry : Geometry) (blocks : ℕ) (entries : List Entry) (i : ℕ) (d : Entry) → AreTables geometry blocks entries → i < length entries →
    TableIs (record { device = Some geometry; plans = map plan_in entries }) i (get_or entries i d)
here-at geometry blocks entries i d are lt =
    let entry = get_or entries i d in
    let taken = taken-at geometry 0 entries i d are.taken lt in
    let first : 0 + sum_by blocks_of (map plan_in (take i entries)) ≡ sum_by blocks_of (take i (map plan_in entries)) =
    zero-add (sum_by blocks_of (map plan_in (take i entries))) ∙ ap (λ l. sum_by blocks_of l) (sym (take-map plan_in i entries)) in
    record {
      plan = rw (plan-at entries i d lt) (config-of entry _ taken.stands);
      first = taken.stands.rows ∙ first;
      device = ap (λ g. Some g) (sym taken.geometry_is);
      limits = taken.limits;
      passes = taken.passes;
      place = rw (plan-at entries i d lt) (log-at entry.log _ _ _ taken.log (ap (λ n. n + entry.config.rows.blocks + blocks_in entry.config.index + blocks_in entry.config.var) first));
      size = log-size entry.log _ _ taken.log;
      blobs = rw (plan-at entries i d lt) (log-blobs entry.log _ _ taken.log);
    }

of-lines : (device : Option Geometry) (blocks : ℕ) (entries : List Entry) (i : ℕ) (d : Entry) → AreLines device blocks entries → i < length entries →
    TableIs (record { device = device; plans = map plan_in entries }) i (get_or entries i d)
of-lines None blocks entries i d are lt = absurd (omega (arith, lt, ap (λ (l : List Entry). length l) are.0))
of-lines (Some geometry) blocks entries i d are lt = here-at geometry blocks entries i d are lt

pub table-is : (lines : Lines) (device : Option Geometry) (blocks : ℕ) (entries xs : List Entry) (i : ℕ) (d : Entry) →
    record { device = device; plans = map plan_in entries } ≡ lines → AreLines device blocks entries → xs ≡ entries → i < length lines.plans → TableIs lines i (get_or xs i d)
table-is lines device blocks entries xs i d view are same lt =
    let here : i < length entries = omega (arith, lt, ap (λ (l : Lines). length l.plans) view, length-map entries plan_in) in
    subst (λ (l : Lines). TableIs l i (get_or xs i d)) view
    (subst (λ (l : List Entry). TableIs (record { device = device; plans = map plan_in entries }) i (get_or l i d)) (sym same) (of-lines device blocks entries i d are here))

-- the line of a table
pub line-at : (entries : List Entry) (plans : List Plan) (i : ℕ) (d : Entry) (text : List ℕ) → map plan_in entries ≡ plans → i < length plans → text ≡ table_text (plan_in (get_or entries i d)) → IfSome (slice_get plans i) (λ plan. text ≡ table_text plan)
line-at entries plans i d text are lt is =
    let here : i < length entries = omega (arith, lt, ap (λ (l : List Plan). length l) are, length-map entries plan_in) in
    subst (λ (ps : List Plan). IfSome (slice_get ps i) (λ plan. text ≡ table_text plan)) are (subst (λ o. IfSome o (λ plan. text ≡ table_text plan)) (sym (plan-at entries i d here)) is)
