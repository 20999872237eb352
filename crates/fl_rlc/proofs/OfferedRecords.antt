-- Records that are offered to a table, one after another.
use Rattle.std.proofs.Common.{◌≡◌, ℕ, suc, ◌+◌, zero, Option, None, Some, IsSomeAnd, List, [], ◌∷◌, drop, refl, sym, ◌∙◌, ap, subst, arith}
use Rattle.std.specs.List.{slice_get}
use Rattle.std.proofs.Math.IntN.{ℤ}
use Rattle.fl_flash.specs.Flash.{FlashState}
use Rattle.fl_model.specs.Row.{Row}
use Rattle.fl_table.specs.Memory.{pending_in, NothingWaits}
use Rattle.fl_table.specs.Refusal.{put_refusal}
use Rattle.fl_table.specs.declared.faults.PutRefusal.{PutRefusal}
use Rattle.fl_table.specs.declared.table.Table.{Table}
use Rattle.fl_rlc.specs.Offering.{IsOffered, AreOffered, AreSealed}

-- a record is offered by its key and its values
by-key : {KNOTS SLOTS : ℕ} (t u : Table KNOTS SLOTS) (key : ℕ) (values : List ℤ) (row : Row) → (key ≡ row.key) × (values ≡ row.values) → IsOffered t (record { key = key; values = values; blob = None }) u → IsOffered t row u
by-key t u key values row same h =
    let k = subst (λ (n : ℕ). IsOffered t (record { key = n; values = values; blob = None }) u) same.0 h in
    let o = subst (λ (vs : List ℤ). IsOffered t (record { key = row.key; values = vs; blob = None }) u) same.1 k in
    record { refused = o.refused; joins = o.joins }

-- the next of a list
offered-first : {KNOTS SLOTS : ℕ} (i : ℕ) (rows : List Row) (t u after : Table KNOTS SLOTS) (key : ℕ) (values : List ℤ) → IsSomeAnd (slice_get rows i) (λ row. (key ≡ row.key) × (values ≡ row.values)) →
    IsOffered t (record { key = key; values = values; blob = None }) u → AreOffered u (drop (suc i) rows) after → AreOffered t (drop i rows) after
offered-first i [] t u after key values is h more = absurd is
offered-first zero (row ∷ rows) t u after key values is h more = (u, (by-key t u key values row is h, more))
offered-first (suc i) (row ∷ rows) t u after key values is h more = offered-first i rows t u after key values is h more

pub offered-next : {KNOTS SLOTS : ℕ} (i : ℕ) (rows : List Row) (t u after : Table KNOTS SLOTS) (key : ℕ) (values : List ℤ) → IsSomeAnd (slice_get rows i) (λ row. (key ≡ row.key) × (values ≡ row.values)) →
    IsOffered t (record { key = key; values = values; blob = None }) u → AreOffered u (drop (i + 1) rows) after → AreOffered t (drop i rows) after
offered-next i rows t u after key values is h more =
    offered-first i rows t u after key values is h (subst (λ (n : ℕ). AreOffered u (drop n rows) after) (let k : i + 1 ≡ suc i = omega arith in k) more)

-- where no row is pending behind them, none of them joined, and the table stays
pub none-joined : {KNOTS SLOTS : ℕ} (rows : List Row) (t after : Table KNOTS SLOTS) → AreOffered t rows after → pending_in after ≡ 0 → after ≡ t
none-joined [] t after h none = h
none-joined {KNOTS} {SLOTS} (row ∷ rows) t after h none = by-refusal (none-joined rows h.0 after h.1.1 none) (put_refusal t row.key row.values None) refl
  where
    by-refusal : after ≡ h.0 → (o : Option PutRefusal) → put_refusal t row.key row.values None ≡ o → after ≡ t
    by-refusal rest (Some refusal) is = rest ∙ h.1.0.refused refusal is
    by-refusal rest None is = absurd (omega (arith, none, ap (λ (x : Table KNOTS SLOTS). pending_in x) rest, (h.1.0.joins is).pending))

-- .. and where nothing waited, nothing does once those that joined are sealed
pub sealed-empty : {KNOTS SLOTS : ℕ} (t u after : Table KNOTS SLOTS) (f g : FlashState) → NothingWaits t → (pending_in u ≡ 0 → u ≡ t) → AreSealed u f after g → NothingWaits after
sealed-empty {KNOTS} {SLOTS} t u after f g empty unjoined sealed = by-count (pending_in u) refl
  where
    by-count : (n : ℕ) → pending_in u ≡ n → NothingWaits after
    by-count zero is = subst (λ (x : Table KNOTS SLOTS). NothingWaits x) (sym ((sealed.quiet is).0 ∙ unjoined is)) empty
    by-count (suc n) is = (sealed.sealed (omega (arith, is))).empty
