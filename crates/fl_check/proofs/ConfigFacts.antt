-- What holds of a configuration that isn't refused, in the words of its plan.
use Rattle.std.proofs.Common.{◌≡◌, ℕ, ◌+◌, ◌-◌, ◌*◌, ◌/◌, ◌<◌, ◌≤◌, nat_lt, IsTrue, Option, Some, None, IfSome, refl, sym, ◌∙◌, ap, subst, arith}
use Rattle.std.specs.Prelude.{IsSome}
use Rattle.std.proofs.Math.Nat.{le-div_iff_mul-le}
use Rattle.std.proofs.lemmas.Bool.{false≢true}
use Rattle.fl_base.specs.declared.types.RingPlace.{RingPlace}
use Rattle.fl_bitmap.proofs.Widths.{widths}
use Rattle.fl_bitmap.specs.Widths.{is_bits}
use Rattle.fl_bitmap.specs.declared.buckets.Buckets.{Buckets}
use Rattle.fl_index.specs.Page.{form_len}
use Rattle.fl_index.specs.declared.page.EntryForm.{EntryForm}
use Rattle.fl_index.proofs.WaitingEntries.{width-le, width-le22}
use Rattle.fl_model.specs.Record.{has_index}
use Rattle.fl_bitmap.specs.Bucket.{HasBuckets}
use Rattle.fl_plan.specs.declared.table_config.TableConfig.{TableConfig}
use Rattle.fl_plan.specs.Limits.{IsWithinLimits}
use Rattle.fl_plan.specs.Plan.{Label, bits_in, base_in, width_in, blocks_in, plan_of_table}
use Rattle.fl_plan.specs.Refusal.{config_fault}
use Rattle.fl_plan.proofs.Fits.{few-pages}

module _ (label : Label) (config : TableConfig) where
  pub few-indexed : config_fault config ≡ None → IsWithinLimits config → IsTrue (has_index (plan_of_table label config)) → config.rows.blocks * config.geometry.block + 6 ≤ 65536
  few-indexed passes limits has = by_index config.index refl
    where
      by_index : (o : Option RingPlace) → config.index ≡ o → config.rows.blocks * config.geometry.block + 6 ≤ 65536
      by_index None e = absurd (false≢true (sym (ap (λ (x : Option RingPlace). nat_lt 0 (blocks_in x)) e) ∙ has))
      by_index (Some place) e = few-pages config place passes limits e

  pub has-buckets : HasBuckets (plan_of_table label config) config.buckets
  has-buckets = by_buckets config.buckets refl
    where
      by_buckets : (o : Option Buckets) → config.buckets ≡ o → HasBuckets (plan_of_table label config) o
      by_buckets None e = ap bits_in e
      by_buckets (Some buckets) e = record { bits = ap bits_in e; base = ap (base_in label.base) e; width = ap (width_in label.width) e }

  -- a table with an index has buckets
  pub some-bits : (place : RingPlace) → config.index ≡ Some place → IsWithinLimits config → IsTrue (is_bits (bits_in config.buckets))
  some-bits place is limits = by_buckets config.buckets refl (subst (λ (o : Option RingPlace). IfSome o (λ p. IsSome config.buckets)) is limits.buckets)
    where
      by_buckets : (o : Option Buckets) → config.buckets ≡ o → IsSome o → IsTrue (is_bits (bits_in config.buckets))
      by_buckets None e some = absurd (false≢true some)
      by_buckets (Some buckets) e some = subst (λ (x : Option Buckets). IsTrue (is_bits (bits_in x))) (sym e) buckets.some_bits

-- an index page has room for some entry
pub some-room : (page : ℕ) (form : EntryForm) → (bits : ℕ) → IsTrue (is_bits bits) → form.width ≡ bits / 8 → 64 ≤ page → 0 < (page - 24) / form_len form
some-room page form bits is width large =
    let w = widths bits is in
    let some : 0 < form_len form = omega (arith, w.0, width, width-le form) in
    let fits : 1 * form_len form ≤ page - 24 = omega (arith, width-le22 form (omega (arith, w.1, width)), large) in
    let le : 1 ≤ (page - 24) / form_len form = (le-div_iff_mul-le {x = 1} {y = page - 24} some).1 fits in
    omega (arith, le)
