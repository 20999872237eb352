-- What a full entry tells of a page of a table fits its fields.
use Rattle.std.proofs.Common.{◌≡◌, ℕ, ◌%◌, ◌^◌, ◌<◌, ◌≤◌, Bool, true, false, cond, Option, Some, None, option_map, Result, Ok, Err, length, take, drop, refl, sym, ◌∙◌, ap, subst, arith}
use Rattle.std.specs.List.{AllByRecursion, slice_get, sum}
use Rattle.std.proofs.Math.Nat.{mod-eq_of_lt}
use Rattle.fl_flash.specs.Flash.{FlashState}
use Rattle.fl_index.specs.Looking.{ShowsEntry, TellsRows}
use Rattle.fl_index.specs.Page.{fields_of, full_view}
use Rattle.fl_index.specs.declared.page.Found.{Found}
use Rattle.fl_base.specs.declared.types.Geometry.{Geometry}
use Rattle.fl_model.specs.Facts.{FitsPlan}
use Rattle.fl_model.specs.Image.{rows_at}
use Rattle.fl_model.specs.Index.{full_of}
use Rattle.fl_model.specs.Record.{Plan, RowLayout, greatest_key, key_limit}
use Rattle.fl_model.specs.Table as model
use Rattle.fl_model.specs.Table.{end_of_blobs, first_key}
use Rattle.fl_model.proofs.Lists.{each-drop, each-take}
use Rattle.fl_page.specs.declared.fault.ReadFault.{ReadFault}
use Rattle.fl_page.specs.declared.fault.ReadFault.TheVariants.{Flash, BadPage}
use Rattle.fl_schema.specs.Form.{layout_with}
use Rattle.fl_schema.specs.Schema.{types_of}
use Rattle.fl_schema.specs.declared.schema.KeyWidth.{KeyWidth}
use Rattle.fl_schema.specs.declared.schema.KeyWidth.TheVariants.{Four, Eight}
use Rattle.fl_parts.specs.Entries.{ShowsFound, TellsOf}
use Rattle.fl_parts.proofs.EntriesFit.{first-within, ends-fit, count-fits}
use Rattle.fl_table.specs.Memory.{IsPlanned}
use Rattle.fl_table.specs.Standing.{Stands}
use Rattle.fl_table.specs.declared.table.Table.{Table}
use Rattle.fl_parts.proofs.Loose.{IsLoose, loose-of}
use Rattle.fl_parts.proofs.Plain.{table-parts}

-- ---- keys

pub few-keys : {KNOTS SLOTS : ℕ} (t : Table KNOTS SLOTS) (first : ℕ) (plan : Plan) → IsPlanned t first plan → key_limit plan < 2 ^ 64
few-keys t first plan planned = subst (λ (layout : RowLayout). greatest_key layout < 2 ^ 64) (sym planned.layout) (by_width t.schema.key)
  where
    by_width : (key : KeyWidth) → greatest_key (layout_with key (types_of t.schema) t.schema.blobs) < 2 ^ 64
    by_width Four = omega arith
    by_width Eight = omega arith

pub first-few : {KNOTS SLOTS : ℕ} (t : Table KNOTS SLOTS) (first : ℕ) (plan : Plan) (table : model.Table) → IsPlanned t first plan → AllByRecursion (FitsPlan plan) table.entries → (n rows : ℕ) → first_key (rows_at table n rows) < 2 ^ 64
first-few t first plan table planned fits n rows =
    let fit = each-take (FitsPlan plan) rows (drop (sum (take n table.rows.counts)) table.entries) (each-drop (FitsPlan plan) (sum (take n table.rows.counts)) table.entries fits) in
    let key = first-within plan (rows_at table n rows) fit in
    let few = few-keys t first plan planned in
    omega (arith, key, few)

-- all that a full entry tells of a page of a table fits its fields
pub fields-fit : {KNOTS SLOTS : ℕ} (t : Table KNOTS SLOTS) (first : ℕ) (plan : Plan) (table : model.Table) → IsPlanned t first plan → IsLoose plan table → (n rows : ℕ) → slice_get table.rows.counts n ≡ Some rows →
    full_view (fields_of (full_of (rows_at table n rows))) ≡ full_of (rows_at table n rows)
fields-fit t first plan table planned facts n rows e =
    ap (λ k. record { first_key = k; count = length (rows_at table n rows) % 2 ^ 16; blob_end = end_of_blobs (rows_at table n rows) % 2 ^ 32 }) (mod-eq_of_lt (first-few t first plan table planned facts.kept.fit n rows))
    ∙ (ap (λ k. record { first_key = first_key (rows_at table n rows); count = k; blob_end = end_of_blobs (rows_at table n rows) % 2 ^ 32 }) (mod-eq_of_lt (count-fits plan table facts size n rows e))
    ∙ ap (λ k. record { first_key = first_key (rows_at table n rows); count = length (rows_at table n rows); blob_end = k }) (mod-eq_of_lt (ends-fit plan table facts n rows e)))
  where
    size : plan.geometry.page ≤ 4096
    size = subst (λ (g : Geometry). g.page ≤ 4096) (sym planned.geometry) t.served.page_greatest

-- so what it tells is right
pub tells-of : {KNOTS SLOTS : ℕ} (t : Table KNOTS SLOTS) (f : FlashState) (first : ℕ) (plan : Plan) (table : model.Table) → Stands t f first plan table → (n rows : ℕ) → slice_get table.rows.counts n ≡ Some rows →
    (found : Found) → TellsRows plan (rows_at table n rows) found → TellsOf plan (rows_at table n rows) found
tells-of t f first plan table stands n rows e found tells = record { bitmap = tells.bitmap; full = ap (option_map full_view) tells.full ∙ by_form plan.full_index }
  where
    by_form : (full : Bool) → option_map full_view (cond full (Some (fields_of (full_of (rows_at table n rows)))) None) ≡ cond full (Some (full_of (rows_at table n rows))) None
    by_form true = ap Some (fields-fit t first plan table stands.planned (loose-of plan table (table-parts plan table stands.planned.log stands.facts)) n rows e)
    by_form false = refl

-- .. as the index shows it
pub shows-found : {KNOTS SLOTS : ℕ} (t : Table KNOTS SLOTS) (f : FlashState) (first : ℕ) (plan : Plan) (table : model.Table) → Stands t f first plan table → (number : ℕ) (result : Result (Option Found) ReadFault) →
    ShowsEntry plan table number result → ShowsFound plan table number result
shows-found t f first plan table stands number (Ok None) shown = (shown.0, λ n rows at here some. shown.1 n rows at here some)
shows-found t f first plan table stands number (Ok (Some found)) shown = (shown.0, λ n rows at here some. tells-of t f first plan table stands n rows here found (shown.1 n rows at here some))
shows-found t f first plan table stands number (Err (Flash fault)) shown = tt
shows-found t f first plan table stands number (Err (BadPage bad)) shown = shown
