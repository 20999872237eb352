-- The points of the pages that a mount has counted.
use Rattle.std.proofs.Common.{◌≡◌, ℕ, zero, suc, ◌+◌, ◌<◌, ◌≤◌, ◌⊎◌, inl, inr, Bool, true, false, cond, ◌==◌, Option, Some, None, List, [], ◌∷◌, ◌++◌, length, append-nil, refl, sym, ◌∙◌, ap, subst, arith}
use Rattle.std.specs.Prelude.{IfSome, unwrap_or}
use Rattle.std.proofs.lemmas.Bool.{cases_lt, ltb-true}
use Rattle.fl_base.proofs.Tests.{not_zero}
use Rattle.fl_find.specs.Pages.{rows_on}
use Rattle.fl_model.specs.Record.{RowLayout}
use Rattle.fl_model.specs.Row.{Row}
use Rattle.fl_page.specs.Page.{bad_page, has_form}
use Rattle.fl_spline.specs.Points.{IsPast, IsFurther, last_of}
use Rattle.fl_spline.proofs.Lists.{last_of-push}
use Rattle.fl_parts.specs.ByEntries.{Come, entry, is_committed, has_rows, is_read, by_page, facts_on, no_rows, points_of, known_after, read_fault, entry_fault, page_check}
use Rattle.fl_parts.specs.Reading.{rises, last_in, keys_fault}
use Rattle.fl_parts.specs.declared.mount_fault.MountFault.{MountFault}
use Rattle.fl_parts.specs.declared.mount_fault.MountFault.TheVariants.{BadPage, BadKeys}
use Rattle.fl_parts.proofs.PageChecks.{uncommitted-rows}
use Rattle.fl_parts.proofs.KeyRuns.{rises-on, last-up}

-- the last point comes before a number, and its key is at most the last key
abbrev IsBelow : Option (ℕ × ℕ) → ℕ → Option ℕ → Type 0
IsBelow o number last = IfSome o (λ end. (end.1 < number) × ((l : ℕ) × ((last ≡ Some l) × (end.0 ≤ l))))

below-next : (o : Option (ℕ × ℕ)) (number : ℕ) (last : Option ℕ) → IsBelow o number last → IsBelow o (suc number) last
below-next None number last h = tt
below-next (Some end) number last h = (omega (arith, h.0), h.1)

no_fault : {P : Type 0} (fault : MountFault) → ◌≡◌ {A = Option MountFault} (Some fault) None → P
no_fault fault e = absurd (cc e)

-- a page that is read and found good has rows whose keys rise
read-keys : (layout : RowLayout) (number : ℕ) (page : List ℕ) (rows : Bool) (before : Option ℕ) → read_fault layout number page rows before ≡ None → keys_fault number before (rows_on layout page) ≡ None
read-keys layout number page rows before h = by_state (is_committed page) refl
  where
    by_state : (b : Bool) → is_committed page ≡ b → keys_fault number before (rows_on layout page) ≡ None
    by_state false e = ap (keys_fault number before) (uncommitted-rows layout page e)
    by_state true e = by_form (has_form layout number page) refl
      where
        by_form : (b : Bool) → has_form layout number page ≡ b → keys_fault number before (rows_on layout page) ≡ None
        by_form true k = sym (rw (e, k) refl) ∙ h
        by_form false k = no_fault (BadPage (bad_page number page)) (sym (rw (e, k) refl) ∙ h)

-- what a page with rows adds to the keys that are known, where its check found nothing
record AddsKeys (t : Come) (n : ℕ) : Type 0 where
  up : rises (known_after t n) (facts_on t (t.oldest + n)).first_key ≡ true
  last : (l : ℕ) × ((known_after t (suc n) ≡ Some l) × ((facts_on t (t.oldest + n)).first_key ≤ l))

adds-keys : (t : Come) (n : ℕ) → page_check t n ≡ None → 0 < (facts_on t (t.oldest + n)).count → AddsKeys t n
adds-keys t n fine some = by_read (is_read t (t.oldest + n)) refl
  where
    by_rows_of : is_read t (t.oldest + n) ≡ true → (rows : List Row) → rows_on t.layout (t.rows (t.oldest + n)) ≡ rows → keys_fault (t.oldest + n) (known_after t n) rows ≡ None → 0 < length rows → AddsKeys t n
    by_rows_of k [] e keys long = absurd (omega (arith, long))
    by_rows_of k (row ∷ rows) e keys long =
        let on = rises-on (t.oldest + n) (known_after t n) row rows keys in
        let up = last-up (t.oldest + n) row.key rows on.others in
        let first : (facts_on t (t.oldest + n)).first_key ≡ row.key = rw (k, e) refl in
        record {
          up = ap (rises (known_after t n)) first ∙ on.up;
          last = (up.0, (rw (k, e) up.1.0, omega (arith, up.1.1, first)));
        }

    by_read : (b : Bool) → is_read t (t.oldest + n) ≡ b → AddsKeys t n
    by_read true k =
        let keys = read-keys t.layout (t.oldest + n) (t.rows (t.oldest + n)) (has_rows t (t.oldest + n)) (known_after t n) (sym (rw (k) refl) ∙ fine) in
        let long : (facts_on t (t.oldest + n)).count ≡ length (rows_on t.layout (t.rows (t.oldest + n))) = rw (k) refl in
        by_rows_of k (rows_on t.layout (t.rows (t.oldest + n))) refl keys (omega (arith, long, some))
    by_read false k =
        let count = not_zero (facts_on t (t.oldest + n)).count some in
        let check : entry_fault (t.oldest + n) (facts_on t (t.oldest + n)) (known_after t n) ≡ None =
        sym (ap (λ b. cond b (read_fault t.layout (t.oldest + n) (t.rows (t.oldest + n)) (has_rows t (t.oldest + n)) (known_after t n)) (entry_fault (t.oldest + n) (facts_on t (t.oldest + n)) (known_after t n))) k) ∙ fine in
        record {
          up = by_up (rises (known_after t n) (facts_on t (t.oldest + n)).first_key) refl count check;
          last = (
            (facts_on t (t.oldest + n)).first_key,
            (
              ap (λ b. cond b (last_in (known_after t n) (rows_on t.layout (t.rows (t.oldest + n)))) (cond ((facts_on t (t.oldest + n)).count == 0) (known_after t n) (Some (facts_on t (t.oldest + n)).first_key))) k
                  ∙ ap (λ b. cond b (known_after t n) (Some (facts_on t (t.oldest + n)).first_key)) count,
              omega arith,
            ),
          );
        }
      where
        by_up : (b : Bool) → rises (known_after t n) (facts_on t (t.oldest + n)).first_key ≡ b → ((facts_on t (t.oldest + n)).count == 0) ≡ false → entry_fault (t.oldest + n) (facts_on t (t.oldest + n)) (known_after t n) ≡ None → b ≡ true
        by_up true e count check = refl
        by_up false e count check =
            no_fault (BadKeys (t.oldest + n) (unwrap_or (known_after t n) 0) (facts_on t (t.oldest + n)).first_key)
            (sym (ap (λ z. cond z None (cond (rises (known_after t n) (facts_on t (t.oldest + n)).first_key) None (Some (BadKeys (t.oldest + n) (unwrap_or (known_after t n) 0) (facts_on t (t.oldest + n)).first_key)))) count
            ∙ ap (λ z. cond z None (Some (BadKeys (t.oldest + n) (unwrap_or (known_after t n) 0) (facts_on t (t.oldest + n)).first_key))) e) ∙ check)

module _ (t : Come) where
  below-known : (n : ℕ) → ((i : ℕ) → i < n → page_check t i ≡ None) → IsBelow (last_of (points_of (facts_on t) t.oldest n)) (t.oldest + n) (known_after t n)
  below-known zero fine = tt
  below-known (suc n) fine = by_count (cases_lt 0 (facts_on t (t.oldest + n)).count) (below-known n (λ i lt. fine i (omega (arith, lt))))
    where
      at : suc (t.oldest + n) ≡ t.oldest + suc n
      at = omega arith

      by_count : (0 < (facts_on t (t.oldest + n)).count) ⊎ ((facts_on t (t.oldest + n)).count ≤ 0) → IsBelow (last_of (points_of (facts_on t) t.oldest n)) (t.oldest + n) (known_after t n) →
          IsBelow (last_of (points_of (facts_on t) t.oldest n ++ cond ((facts_on t (t.oldest + n)).count == 0) [] (((facts_on t (t.oldest + n)).first_key, t.oldest + n) ∷ []))) (t.oldest + suc n) (known_after t (suc n))
      by_count (inl some) before =
          let keys = adds-keys t n (fine n (omega arith)) some in
          subst (λ b. IsBelow (last_of (points_of (facts_on t) t.oldest n ++ cond b [] (((facts_on t (t.oldest + n)).first_key, t.oldest + n) ∷ []))) (t.oldest + suc n) (known_after t (suc n))) (sym (not_zero (facts_on t (t.oldest + n)).count some))
          (subst (λ (o : Option (ℕ × ℕ)). IsBelow o (t.oldest + suc n) (known_after t (suc n))) (sym (last_of-push (points_of (facts_on t) t.oldest n) ((facts_on t (t.oldest + n)).first_key, t.oldest + n)))
          (omega arith, keys.last))
      by_count (inr none) before =
          let z : (facts_on t (t.oldest + n)).count ≡ 0 = omega (arith, none) in
          subst (λ c. IsBelow (last_of (points_of (facts_on t) t.oldest n ++ cond (c == 0) [] (((facts_on t (t.oldest + n)).first_key, t.oldest + n) ∷ []))) (t.oldest + suc n) (known_after t (suc n))) (sym z)
          (subst (λ (l : List (ℕ × ℕ)). IsBelow (last_of l) (t.oldest + suc n) (known_after t (suc n))) (sym (append-nil (points_of (facts_on t) t.oldest n)))
          (subst (λ (o : Option ℕ). IsBelow (last_of (points_of (facts_on t) t.oldest n)) (t.oldest + suc n) o) (sym (same_last z))
          (subst (λ m. IsBelow (last_of (points_of (facts_on t) t.oldest n)) m (known_after t n)) at (below-next (last_of (points_of (facts_on t) t.oldest n)) (t.oldest + n) (known_after t n) before))))
        where
          same_last : (facts_on t (t.oldest + n)).count ≡ 0 → known_after t (suc n) ≡ known_after t n
          same_last z = by_read (is_read t (t.oldest + n)) refl
            where
              empty : (rows : List Row) → length rows ≡ 0 → last_in (known_after t n) rows ≡ known_after t n
              empty [] e = refl
              empty (row ∷ rows) e = absurd (omega (arith, e))

              by_read : (b : Bool) → is_read t (t.oldest + n) ≡ b → cond b (last_in (known_after t n) (rows_on t.layout (t.rows (t.oldest + n)))) (cond ((facts_on t (t.oldest + n)).count == 0) (known_after t n) (Some (facts_on t (t.oldest + n)).first_key)) ≡ known_after t n
              by_read true k = empty (rows_on t.layout (t.rows (t.oldest + n))) (sym (ap (λ b. (cond b (by_page t (t.oldest + n)) (unwrap_or (entry t (t.oldest + n)) no_rows)).count) k) ∙ z)
              by_read false k = ap (λ c. cond (c == 0) (known_after t n) (Some (facts_on t (t.oldest + n)).first_key)) z

  -- a page with rows that may stand behind them is further
  pub further-known : (n : ℕ) → ((i : ℕ) → i < suc n → page_check t i ≡ None) → 0 < (facts_on t (t.oldest + n)).count → IsFurther (points_of (facts_on t) t.oldest n) ((facts_on t (t.oldest + n)).first_key, t.oldest + n)
  further-known n fine some =
      by_last (last_of (points_of (facts_on t) t.oldest n)) (known_after t n) (below-known n (λ i lt. fine i (omega (arith, lt)))) (adds-keys t n (fine n (omega arith)) some).up
    where
      by_last : (o : Option (ℕ × ℕ)) (last : Option ℕ) → IsBelow o (t.oldest + n) last → rises last (facts_on t (t.oldest + n)).first_key ≡ true → IfSome o (λ end. IsPast end ((facts_on t (t.oldest + n)).first_key, t.oldest + n))
      by_last None last b up = tt
      by_last (Some end) last b up =
          let lt = ltb-true b.1.0 (facts_on t (t.oldest + n)).first_key (sym (ap (λ (o : Option ℕ). rises o (facts_on t (t.oldest + n)).first_key) b.1.1.0) ∙ up) in
          (omega (arith, lt, b.1.1.1), b.0)
