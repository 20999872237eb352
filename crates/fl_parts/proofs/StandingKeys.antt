-- Where a flash stands for a table, the keys of its pages rise, and no check of a mount finds a fault.
use Rattle.std.proofs.Common.{◌≡◌, ℕ, zero, suc, ◌+◌, ◌-◌, ◌<◌, ◌≤◌, ◌⊎◌, inl, inr, Bool, true, false, cond, ◌&&◌, ◌||◌, ◌==◌, nat_lt, max, Option, Some, None, List, [], ◌∷◌, ◌++◌, length, map, take, drop, refl, sym, ◌∙◌, ap, subst, arith, append-nil}
use Rattle.std.specs.Prelude.{unwrap_or, not}
use Rattle.std.specs.Option.{is_none}
use Rattle.std.specs.List.{slice_get, sum}
use Rattle.std.proofs.lemmas.Bool.{cases_lt, lt-ltb}
use Rattle.std.proofs.lemmas.List.{take_all}
use Rattle.std.proofs.Math.Bool.{or-true}
use Rattle.fl_base.proofs.Tests.{not_zero}
use Rattle.fl_find.specs.Pages.{rows_on}
use Rattle.fl_model.specs.Agrees.{rows_at}
use Rattle.fl_model.specs.Index.{Full}
use Rattle.fl_model.specs.Limits.{numbers_from}
use Rattle.fl_model.specs.Entry.{first_key}
use Rattle.fl_model.specs.Table.{Table, first_of}
use Rattle.fl_model.proofs.Lists.{slice_get-some, slice_get-short, sum_by-next}
use Rattle.fl_parts.specs.ByEntries.{Come, entry, has_rows, are_void, is_read, facts_on, known_after, read_fault, entry_fault, page_check, first_some, index_check, checks_from, seen_before, mount_fault}
use Rattle.fl_parts.specs.Reading.{last_in}
use Rattle.fl_parts.specs.declared.mount_fault.MountFault.{MountFault}
use Rattle.fl_parts.specs.declared.mount_fault.MountFault.TheVariants.{BadKeys}
use Rattle.fl_parts.proofs.KeyOrder.{key_before, rising}
use Rattle.fl_parts.proofs.PageChecks.{is-void, no_both}
use Rattle.fl_parts.proofs.StandingMount.{IsOf, IsPageOf, facts-of, rows-of, count-of, index-fine, AtMost, at-most, AreBehind, are-behind}

module _ (t : Come) (table : Table) (is : IsOf t table) where
  -- the key before the n-th page
  before : ℕ → Option ℕ
  before n = key_before table.entries (sum (take n table.rows.counts))

  -- the rows of the n-th page come behind the keys before it
  page-behind : (n c : ℕ) → slice_get table.rows.counts n ≡ Some c → AtMost (known_after t n) (key_before table.entries (sum (take n table.rows.counts))) →
      AreBehind (t.oldest + n) (known_after t n) (key_before table.entries (sum (take n table.rows.counts))) (key_before table.entries (sum (take (suc n) table.rows.counts))) (rows_at table n c)
  page-behind n c e h =
      let s = sum (take n table.rows.counts) in
      let up = rising table.entries is.ascending (t.oldest + n) s (drop s table.entries) refl c in
      let more : sum (take (suc n) table.rows.counts) ≡ sum (take n table.rows.counts) + c = sum_by-next (λ (m : ℕ). m) table.rows.counts n c e in
      are-behind (t.oldest + n) (known_after t n) (key_before table.entries s) (key_before table.entries (sum (take (suc n) table.rows.counts))) (rows_at table n c) h up.0
      (up.1 ∙ ap (key_before table.entries) (omega (arith, (is.rows n c e).many, more)))

  -- no page from the n-th on has rows
  abbrev Ends : ℕ → Type 0
  Ends n = (m c : ℕ) → n ≤ m → slice_get table.rows.counts m ≡ Some c → c ≡ 0

  ends-void : (n q : ℕ) → Ends n → n + q ≤ t.pages → are_void t (t.oldest + n) q ≡ true
  ends-void n zero h le = refl
  ends-void n (suc q) h le =
      let c = slice_get-some table.rows.counts (n + q) (omega (arith, le, is.pages)) in
      let none = h (n + q) c.0 (omega arith) c.1 in
      ap (λ b. b && not (has_rows t (t.oldest + n + q))) (ends-void n q h (omega (arith, le)))
      ∙ ap not (ap (has_rows t) (let k : t.oldest + n + q ≡ t.oldest + (n + q) = omega arith in k) ∙ (rows-of t table is (n + q) c.0 c.1 ∙ (ap (nat_lt 0) none ∙ refl)))

  newest-read : (n c : ℕ) → slice_get table.rows.counts n ≡ Some c → 0 < c → Ends (suc n) → is_read t (t.oldest + n) ≡ true
  newest-read n c e some h =
      let lt = slice_get-short table.rows.counts n c e in
      let rows = rows-of t table is n c e ∙ lt-ltb 0 c some in
      let void : are_void t (t.oldest + n + 1) (t.oldest + t.pages - (t.oldest + n + 1)) ≡ true =
      ap (λ k. are_void t k (t.oldest + t.pages - k)) (let k : t.oldest + n + 1 ≡ t.oldest + suc n = omega arith in k)
      ∙ ends-void (suc n) (t.oldest + t.pages - (t.oldest + suc n)) h (omega (arith, lt, is.pages)) in
      ap (λ b. is_none (entry t (t.oldest + n)) || b) (ap (λ b. b && are_void t (t.oldest + n + 1) (t.oldest + t.pages - (t.oldest + n + 1))) rows ∙ void) ∙ or-true (is_none (entry t (t.oldest + n)))

  -- the greatest key known after n pages is no greater than the last key of their rows, and it is that where no later page has rows
  pub record IsKnown (n : ℕ) : Type 0 where
    pub most : AtMost (known_after t n) (key_before table.entries (sum (take n table.rows.counts)))
    pub exact : ((m c : ℕ) → n ≤ m → slice_get table.rows.counts m ≡ Some c → c ≡ 0) → known_after t n ≡ key_before table.entries (sum (take n table.rows.counts))

  known-next : (n c : ℕ) → slice_get table.rows.counts n ≡ Some c → IsKnown n → IsKnown (suc n)
  known-next n c e h = by_count (cases_lt 0 c)
    where
      more : sum (take (suc n) table.rows.counts) ≡ sum (take n table.rows.counts) + c
      more = sum_by-next (λ (m : ℕ). m) table.rows.counts n c e

      by_count : (0 < c) ⊎ (c ≤ 0) → IsKnown (suc n)
      by_count (inr none) =
          let z : c ≡ 0 = omega (arith, none) in
          let v = is-void t n (rows-of t table is n c e ∙ ap (nat_lt 0) z ∙ refl) in
          let same : sum (take n table.rows.counts) ≡ sum (take (suc n) table.rows.counts) = omega (arith, more, z) in
          record {
            most = subst (λ (o : Option ℕ). AtMost o (key_before table.entries (sum (take (suc n) table.rows.counts)))) (sym v.last) (subst (λ s. AtMost (known_after t n) (key_before table.entries s)) same h.most);
            exact = λ ends. v.last ∙ (h.exact (λ m c' le here. elim (cases_lt n m) [
              | inl lt ↦ ends m c' (omega (arith, lt)) here
              | inr ge ↦ let k : n ≡ m = omega (arith, le, ge) in same_count c' (sym here ∙ (ap (slice_get table.rows.counts) (sym k) ∙ e)) ∙ z
            ]) ∙ ap (key_before table.entries) same);
          }
        where
          same_count : (c' : ℕ) → ◌≡◌ {A = Option ℕ} (Some c') (Some c) → c' ≡ c
          same_count c' k = cc
      by_count (inl some) = by_read (is_read t (t.oldest + n)) refl
        where
          b : AreBehind (t.oldest + n) (known_after t n) (key_before table.entries (sum (take n table.rows.counts))) (key_before table.entries (sum (take (suc n) table.rows.counts))) (rows_at table n c)
          b = page-behind n c e h.most

          long : 0 < length (rows_at table n c)
          long = omega (arith, (is.rows n c e).many, some)

          by_read : (r : Bool) → is_read t (t.oldest + n) ≡ r → IsKnown (suc n)
          by_read true k =
              let last : known_after t (suc n) ≡ key_before table.entries (sum (take (suc n) table.rows.counts)) =
              ap (λ r. cond r (last_in (known_after t n) (rows_on t.layout (t.rows (t.oldest + n)))) (cond ((facts_on t (t.oldest + n)).count == 0) (known_after t n) (Some (facts_on t (t.oldest + n)).first_key))) k
              ∙ (ap (last_in (known_after t n)) (is.rows n c e).rows_are ∙ b.last long) in
              record { most = subst (λ (o : Option ℕ). AtMost o (key_before table.entries (sum (take (suc n) table.rows.counts)))) (sym last) (at-most _); exact = λ ends. last }
          by_read false k =
              let count = count-of t table is n c e in
              let first : known_after t (suc n) ≡ Some (first_key (rows_at table n c)) =
              ap (λ r. cond r (last_in (known_after t n) (rows_on t.layout (t.rows (t.oldest + n)))) (cond ((facts_on t (t.oldest + n)).count == 0) (known_after t n) (Some (facts_on t (t.oldest + n)).first_key))) k
              ∙ (ap (λ z. cond z (known_after t n) (Some (facts_on t (t.oldest + n)).first_key)) (not_zero (facts_on t (t.oldest + n)).count (omega (arith, count, some)))
              ∙ ap (λ (f : Full). Some f.first_key) (facts-of t table is n c e)) in
              record {
                most = subst (λ (o : Option ℕ). AtMost o (key_before table.entries (sum (take (suc n) table.rows.counts)))) (sym first) (b.first long);
                exact = λ ends. no_both (is_read t (t.oldest + n)) (newest-read n c e some ends) k;
              }

  pub is-known : (n : ℕ) → n ≤ t.pages → IsKnown n
  is-known zero le = record { most = tt; exact = λ ends. ap (key_before table.entries) (sym (none table.rows.counts)) }
    where
      none : (xs : List ℕ) → sum (take 0 xs) ≡ 0
      none [] = refl
      none (x ∷ xs) = refl
  is-known (suc n) le =
      let c = slice_get-some table.rows.counts n (omega (arith, le, is.pages)) in
      known-next n c.0 c.1 (is-known n (omega (arith, le)))

  -- no check finds a fault
  pub page-fine : (n : ℕ) → n < t.pages → page_check t n ≡ None
  page-fine n lt =
      let c = slice_get-some table.rows.counts n (omega (arith, lt, is.pages)) in
      by_count c.0 c.1 (cases_lt 0 c.0)
    where
      by_count : (c : ℕ) → slice_get table.rows.counts n ≡ Some c → (0 < c) ⊎ (c ≤ 0) → page_check t n ≡ None
      by_count c e (inr none) = (is-void t n (rows-of t table is n c e ∙ ap (nat_lt 0) (let z : c ≡ 0 = omega (arith, none) in z) ∙ refl)).check
      by_count c e (inl some) = by_read (is_read t (t.oldest + n)) refl
        where
          p : IsPageOf t (t.oldest + n) c (rows_at table n c)
          p = is.rows n c e

          b : AreBehind (t.oldest + n) (known_after t n) (key_before table.entries (sum (take n table.rows.counts))) (key_before table.entries (sum (take (suc n) table.rows.counts))) (rows_at table n c)
          b = page-behind n c e (is-known n (omega (arith, lt))).most

          long : 0 < length (rows_at table n c)
          long = omega (arith, p.many, some)

          by_read : (r : Bool) → is_read t (t.oldest + n) ≡ r → cond r (read_fault t.layout (t.oldest + n) (t.rows (t.oldest + n)) (has_rows t (t.oldest + n)) (known_after t n)) (entry_fault (t.oldest + n) (facts_on t (t.oldest + n)) (known_after t n)) ≡ None
          by_read true k = rw (p.committed some, p.form some, p.rows_are) b.fine
          by_read false k =
              ap (λ (f : Full). entry_fault (t.oldest + n) f (known_after t n)) (facts-of t table is n c e)
              ∙ (ap (λ r. cond (length (rows_at table n c) == 0) None (cond r None (Some (BadKeys (t.oldest + n) (unwrap_or (known_after t n) 0) (first_key (rows_at table n c)))))) (b.rises_on long) ∙ same (length (rows_at table n c) == 0))
            where
              same : (z : Bool) → ◌≡◌ {A = Option MountFault} (cond z None (cond true None (Some (BadKeys (t.oldest + n) (unwrap_or (known_after t n) 0) (first_key (rows_at table n c)))))) None
              same true = refl
              same false = refl

  pages-fine : (n q : ℕ) → n + q ≤ t.pages → (others : List (Option MountFault)) → first_some others ≡ None → first_some (map (page_check t) (numbers_from n q) ++ others) ≡ None
  pages-fine n zero le others h = h
  pages-fine n (suc q) le others h =
      ap (λ (o : Option MountFault). first_of o (first_some (map (page_check t) (numbers_from (n + 1) q) ++ others))) (page-fine n (omega (arith, le))) ∙ pages-fine (n + 1) q (omega (arith, le)) others h

  checks-fine : (k done left : ℕ) → k + left ≡ t.index_pages → done ≤ t.pages → first_some (checks_from t k done left) ≡ None
  checks-fine k done zero all le = last (t.pages - done) (omega (arith, le))
    where
      last : (q : ℕ) → done + q ≤ t.pages → first_some (map (page_check t) (numbers_from done q)) ≡ None
      last q le = ap first_some (sym (append-nil (map (page_check t) (numbers_from done q)))) ∙ pages-fine done q le [] refl
  checks-fine k done (suc left) all le =
      let seen : max done (seen_before t k) ≤ t.pages = omega (arith, le) in
      pages-fine done (max done (seen_before t k) - done) (omega (arith, seen)) (index_check t k ∷ checks_from t (k + 1) (max done (seen_before t k)) left)
      (ap (λ (o : Option MountFault). first_of o (first_some (checks_from t (k + 1) (max done (seen_before t k)) left))) (index-fine t table is k (omega (arith, all)))
      ∙ checks-fine (k + 1) (max done (seen_before t k)) left (omega (arith, all)) seen)

  pub mount-fine : mount_fault t ≡ None
  mount-fine = checks-fine 0 0 t.index_pages (omega arith) (omega arith)

  -- the greatest key known in the end is the last one
  pub last-known : known_after t t.pages ≡ key_before table.entries (length table.entries)
  last-known =
      (is-known t.pages (omega arith)).exact (λ m c le e. absurd (omega (arith, le, slice_get-short table.rows.counts m c e, is.pages)))
      ∙ ap (key_before table.entries) (ap sum (take_all t.pages table.rows.counts (omega (arith, is.pages))) ∙ is.counted)
