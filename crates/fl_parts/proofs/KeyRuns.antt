-- Rows whose keys rise, row by row.
use Rattle.std.proofs.Common.{◌≡◌, ℕ, ◌≤◌, Bool, true, false, cond, Option, Some, None, unwrap_or, List, [], ◌∷◌, refl, sym, ◌∙◌, ap, arith}
use Rattle.std.proofs.lemmas.Bool.{ltb-true}
use Rattle.fl_model.specs.Row.{Row}
use Rattle.fl_parts.specs.Reading.{rises, last_in, keys_fault}
use Rattle.fl_parts.specs.declared.mount_fault.MountFault.{MountFault}
use Rattle.fl_parts.specs.declared.mount_fault.MountFault.TheVariants.{BadKeys}

-- a row whose key rises, and the others after it
pub record RisesOn (number : ℕ) (last : Option ℕ) (row : Row) (rows : List Row) : Type 0 where
  pub up : rises last row.key ≡ true
  pub others : keys_fault number (Some row.key) rows ≡ None

pub rises-on : (number : ℕ) (last : Option ℕ) (row : Row) (rows : List Row) → keys_fault number last (row ∷ rows) ≡ None → RisesOn number last row rows
rises-on number last row rows h = by_test (rises last row.key) refl
  where
    no_fault : (fault : MountFault) → ◌≡◌ {A = Option MountFault} (Some fault) None → ⊥
    no_fault fault e = cc

    by_test : (b : Bool) → rises last row.key ≡ b → RisesOn number last row rows
    by_test true e = record { up = e; others = sym (ap (λ b. cond b (keys_fault number (Some row.key) rows) (Some (BadKeys number (unwrap_or last 0) row.key))) e) ∙ h }
    by_test false e = absurd (no_fault (BadKeys number (unwrap_or last 0) row.key) (sym (ap (λ b. cond b (keys_fault number (Some row.key) rows) (Some (BadKeys number (unwrap_or last 0) row.key))) e) ∙ h))

pub last-up : (number k : ℕ) (rows : List Row) → keys_fault number (Some k) rows ≡ None → (l : ℕ) × ((last_in (Some k) rows ≡ Some l) × (k ≤ l))
last-up number k [] h = (k, (refl, omega arith))
last-up number k (row ∷ rows) h =
    let on = rises-on number (Some k) row rows h in
    let more = last-up number row.key rows on.others in
    let lt = ltb-true k row.key on.up in
    (more.0, (more.1.0, omega (arith, more.1.1, lt)))
