-- The newest page with rows so far, where an index page lists it: whether it stays the newest, and what is known then.
use Rattle.std.proofs.Common.{◌≡◌, ℕ, zero, suc, ◌+◌, ◌-◌, ◌%◌, ◌<◌, ◌≤◌, inl, inr, Bool, true, false, cond, ◌==◌, nat_lt, max, Option, Some, None, List, length, set, refl, sym, ◌∙◌, ap, subst, arith}
use Rattle.std.specs.Prelude.{option_map, unwrap_or, slice_set}
use Rattle.std.proofs.lemmas.Bool.{cases_lt, eqb-true, lt-ltb, and_parts, not-true}
use Rattle.fl_index.specs.Page.{full_view}
use Rattle.fl_model.specs.Layout.{Full}
use Rattle.fl_model.specs.Table.{first_of}
use Rattle.fl_page.specs.declared.fault.BadPage.{BadPage as Refusal}
use Rattle.fl_parts.specs.ByEntries.{Come, has_rows, are_void, is_newest, is_read, facts_on, voids_of, known_after, page_check, mount_fault, is_committed}
use Rattle.fl_parts.specs.Knowing.{left, AreNoted, KnowsAll, KnowsAside}
use Rattle.fl_parts.specs.Reading.{rises}
use Rattle.fl_parts.specs.declared.mount_fault.MountFault.{MountFault}
use Rattle.fl_parts.specs.declared.mount_fault.MountFault.TheVariants.{BadPage, BadKeys}
use Rattle.fl_parts.specs.declared.known.Known.{Known}
use Rattle.fl_parts.specs.declared.known.Listed.{Listed}
use Rattle.fl_parts.proofs.PageChecks.{listed-unread, no_both}
use Rattle.fl_parts.proofs.NextPage.{void-run, end-split, noted-set}

abbrev pub fault_of : Option Refusal → Option MountFault
fault_of fault = option_map (λ bad. BadPage bad) fault

-- a page in a run of void pages has no rows
run-void : (t : Come) (number q i : ℕ) → are_void t number q ≡ true → i < q → has_rows t (number + i) ≡ false
run-void t number zero i h lt = absurd (omega (arith, lt))
run-void t number (suc q) i h lt = elim (cases_lt i q) [
  | inl less ↦ run-void t number q i (and_parts _ _ h).0 less
  | inr ge ↦ ap (λ k. has_rows t (number + k)) (let e : i ≡ q = omega (arith, ge, lt) in e) ∙ not-true _ (and_parts _ _ h).1
]

-- a page isn't the newest with rows where a later one has rows
pub not-newest : (t : Come) (m later : ℕ) → m < later → later < t.pages → has_rows t (t.oldest + later) ≡ true → is_newest t (t.oldest + m) ≡ false
not-newest t m later lt within some = by_test (is_newest t (t.oldest + m)) refl
  where
    by_test : (b : Bool) → is_newest t (t.oldest + m) ≡ b → b ≡ false
    by_test true e =
        let void = (and_parts _ _ e).1 in
        let none = run-void t (t.oldest + m + 1) (t.oldest + t.pages - (t.oldest + m + 1)) (later - suc m) void (omega (arith, lt, within)) in
        no_both (has_rows t (t.oldest + later)) some (ap (has_rows t) (let k : t.oldest + later ≡ t.oldest + m + 1 + (later - suc m) = omega (arith, lt) in k) ∙ none)
    by_test false e = refl

module _ (t : Come) (k n : ℕ) (listed : Listed) (known : Known) (counts : List ℕ) (h : KnowsAside t k n listed known counts) where
  pub has-rows : has_rows t (t.oldest + h.m) ≡ true
  has-rows = ap (λ (o : Option Full). unwrap_or (option_map (λ (full : Full). nat_lt 0 full.count) o) (is_committed (t.rows (t.oldest + h.m)))) h.tells ∙ lt-ltb 0 listed.full.count h.some

  -- ---- a later page has rows

  module _ (later : ℕ) (behind : n ≤ later) (within : later < t.pages) (rows : has_rows t (t.oldest + later) ≡ true) where
    unread : is_read t (t.oldest + h.m) ≡ false
    unread = listed-unread t (t.oldest + h.m) (full_view listed.full) h.tells (not-newest t h.m later (omega (arith, h.within, behind)) within rows)

    pub facts-aside : facts_on t (t.oldest + h.m) ≡ full_view listed.full
    facts-aside = rw (unread, h.tells) refl

    some_count : (listed.full.count == 0) ≡ false
    some_count = by_test (listed.full.count == 0) refl
      where
        by_test : (b : Bool) → (listed.full.count == 0) ≡ b → b ≡ false
        by_test true e = absurd (omega (arith, eqb-true listed.full.count 0 e, h.some))
        by_test false e = refl

    pub check-aside : page_check t h.m ≡ cond (rises known.last listed.full.first_key) None (Some (BadKeys listed.number (unwrap_or known.last 0) listed.full.first_key))
    check-aside = rw (unread, h.tells, some_count, h.number_is, h.counted.last) refl

    -- it is refused by its entry
    pub aside-refused : rises known.last listed.full.first_key ≡ false → mount_fault t ≡ Some (BadKeys listed.number (unwrap_or known.last 0) listed.full.first_key)
    aside-refused low =
        h.cause ∙ ap (λ (o : Option MountFault). first_of o (first_of (fault_of known.fault) (left t k n)))
        (check-aside ∙ ap (λ b. cond b None (Some (BadKeys listed.number (unwrap_or known.last 0) listed.full.first_key))) low)

    check-fine : rises known.last listed.full.first_key ≡ true → page_check t h.m ≡ None
    check-fine up = check-aside ∙ ap (λ b. cond b None (Some (BadKeys listed.number (unwrap_or known.last 0) listed.full.first_key))) up

    -- .. or an index page behind it
    pub behind-refused : (bad : Refusal) → rises known.last listed.full.first_key ≡ true → known.fault ≡ Some bad → mount_fault t ≡ Some (BadPage bad)
    behind-refused bad up is =
        h.cause ∙ (ap (λ (o : Option MountFault). first_of o (first_of (fault_of known.fault) (left t k n))) (check-fine up)
        ∙ ap (λ (o : Option Refusal). first_of (fault_of o) (left t k n)) is)

    last-aside : known_after t (suc h.m) ≡ Some listed.full.first_key
    last-aside = rw (unread, h.tells, some_count) refl

    -- .. or it is counted
    pub counted-aside : (now : Known) → rises known.last listed.full.first_key ≡ true → known.fault ≡ None → n ≤ length counts →
        now.rows ≡ known.rows + listed.full.count → now.voids ≡ known.voids → now.last ≡ Some listed.full.first_key → now.blob_end ≡ max known.blob_end listed.full.blob_end → now.fault ≡ None →
        KnowsAll t k n now (slice_set counts (listed.number % length counts) listed.full.count)
    counted-aside now up none fits rows_is voids_is last_is end_is fault_is =
        let q = n - suc h.m in
        let run = void-run t (suc h.m) q n (omega (arith, h.within)) h.newest in
        let count : (facts_on t (t.oldest + h.m)).count ≡ listed.full.count = ap (λ (f : Full). f.count) facts-aside in
        let end : (facts_on t (t.oldest + h.m)).blob_end ≡ listed.full.blob_end = ap (λ (f : Full). f.blob_end) facts-aside in
        let one : voids_of (facts_on t) t.oldest (suc h.m) ≡ voids_of (facts_on t) t.oldest h.m = ap (λ c. voids_of (facts_on t) t.oldest h.m + cond (c == 0) 1 0) count ∙ (ap (λ b. voids_of (facts_on t) t.oldest h.m + cond b 1 0) some_count ∙ omega arith) in
        record {
          counted = record {
            fine = λ i lt. elim (cases_lt i h.m) [
              | inl less ↦ h.counted.fine i less
              | inr ge ↦ elim (cases_lt h.m i) [
                | inl above ↦ run.fine i (omega (arith, above)) lt
                | inr le ↦ subst (λ j. page_check t j ≡ None) (let e : h.m ≡ i = omega (arith, ge, le) in e) (check-fine up)
              ]
            ];
            rows = omega (arith, rows_is, h.counted.rows, run.rows, count);
            last = last_is ∙ sym (run.last ∙ last-aside);
            noted = λ i low high. subst (λ p. AreNoted t 0 n (set counts (p % length counts) listed.full.count)) (sym h.number_is) (noted-set t h.m n listed.full.count counts (omega (arith, h.within, fits)) (omega (arith, fits)) (sym (ap (λ (f : Full). f.count) facts-aside)) h.counted.noted h.noted) i low high;
          };
          voids = omega (arith, voids_is, h.voids, run.voids, one);
          blob_end = omega (arith, end_is, h.blob_end, end-split (facts_on t) t.oldest (suc h.m) q n (omega (arith, h.within)), end);
          fault = fault_is;
          cause = h.cause ∙ (ap (λ (o : Option MountFault). first_of o (first_of (fault_of known.fault) (left t k n))) (check-fine up)
              ∙ ap (λ (o : Option Refusal). first_of (fault_of o) (left t k n)) none);
        }
