-- What the check of a data page comes to, and what is known of it.
use Rattle.std.proofs.Common.{◌≡◌, ℕ, suc, ◌+◌, ◌-◌, ◌<◌, ◌≤◌, inl, inr, Bool, true, false, ◌&&◌, ◌||◌, nat_lt, max, Option, Some, None, List, [], ◌∷◌, ◌++◌, map, refl, sym, ◌∙◌, ap, arith, zero, nat_le, cond}
use Rattle.std.specs.Prelude.{option_map, unwrap_or}
use Rattle.std.specs.Option.{is_none}
use Rattle.std.proofs.lemmas.Bool.{cases_lt, lt-ltb, leb-true, ltb-true, and_parts}
use Rattle.fl_find.specs.Pages.{rows_on, rows_where}
use Rattle.fl_index.specs.Page.{page_first}
use Rattle.fl_mark.specs.Mark.{state_of_page}
use Rattle.fl_mark.specs.declared.page_state.PageState.{PageState}
use Rattle.fl_mark.specs.declared.page_state.PageState.TheVariants.{Blank, Torn, Committed, Void}
use Rattle.fl_model.specs.Layout.{Full}
use Rattle.fl_model.specs.Limits.{numbers_from}
use Rattle.fl_model.specs.Record.{RowLayout}
use Rattle.fl_model.specs.Table.{first_of}
use Rattle.fl_ring.specs.Newest.{commits}
use Rattle.fl_parts.specs.ByEntries.{Come, entry, is_committed, has_rows, are_void, is_newest, is_read, facts_on, known_after, page_check, first_some, index_check, seen_before, page_checks, checks_from, index_page, told_at, count_fault}
use Rattle.fl_parts.specs.Knowing.{left}
use Rattle.fl_parts.specs.declared.mount_fault.MountFault.{MountFault}
use Rattle.fl_parts.specs.declared.mount_fault.MountFault.TheVariants.{BadEntry}

pub no_both : {P : Type 0} (b : Bool) → b ≡ true → b ≡ false → P
no_both true e k = absurd (cc k)
no_both false e k = absurd (cc e)

-- ---- a page without rows

-- a page that isn't committed has no rows
pub uncommitted-rows : (layout : RowLayout) (page : List ℕ) → is_committed page ≡ false → rows_on layout page ≡ []
uncommitted-rows layout page h = by_state (state_of_page page) h
  where
    by_state : (s : PageState) → commits s ≡ false → rows_where s layout page ≡ []
    by_state Blank e = refl
    by_state Torn e = refl
    by_state Void e = refl
    by_state Committed e = cc

-- what is known of a page that no entry tells of: it is read
pub unlisted-read : (t : Come) (number : ℕ) → entry t number ≡ None → is_read t number ≡ true
unlisted-read t number e = ap (λ (o : Option Full). is_none o || is_newest t number) e

-- a listed page that isn't the newest with rows isn't read
pub listed-unread : (t : Come) (number : ℕ) (full : Full) → entry t number ≡ Some full → is_newest t number ≡ false → is_read t number ≡ false
listed-unread t number full e h = ap (λ (o : Option Full). is_none o || is_newest t number) e ∙ h

pub void-newest : (t : Come) (number : ℕ) → has_rows t number ≡ false → is_newest t number ≡ false
void-newest t number h = ap (λ b. b && are_void t (number + 1) (t.oldest + t.pages - (number + 1))) h

pub record IsVoid (t : Come) (n : ℕ) : Type 0 where
  pub check : page_check t n ≡ None
  pub count : (facts_on t (t.oldest + n)).count ≡ 0
  pub last : known_after t (suc n) ≡ known_after t n

pub is-void : (t : Come) (n : ℕ) → has_rows t (t.oldest + n) ≡ false → IsVoid t n
is-void t n h = by_entry (entry t (t.oldest + n)) refl
  where
    number : ℕ
    number = t.oldest + n

    by_entry : (o : Option Full) → entry t (t.oldest + n) ≡ o → IsVoid t n
    by_entry None e =
        let read = unlisted-read t (t.oldest + n) e in
        let bare : is_committed (t.rows (t.oldest + n)) ≡ false = sym (ap (λ (o : Option Full). unwrap_or (option_map (λ (full : Full). nat_lt 0 full.count) o) (is_committed (t.rows (t.oldest + n)))) e) ∙ h in
        let rows = uncommitted-rows t.layout (t.rows (t.oldest + n)) bare in
        record {
          check = rw (read, bare, e) refl;
          count = rw (read, rows) refl;
          last = rw (read, rows) refl;
        }
    by_entry (Some full) e =
        let unread = listed-unread t (t.oldest + n) full e (void-newest t (t.oldest + n) h) in
        let none : full.count ≡ 0 = zero_is full.count (sym (ap (λ (o : Option Full). unwrap_or (option_map (λ (full : Full). nat_lt 0 full.count) o) (is_committed (t.rows (t.oldest + n)))) e) ∙ h) in
        let facts : facts_on t (t.oldest + n) ≡ full = rw (unread, e) refl in
        let count : (facts_on t (t.oldest + n)).count ≡ 0 = ap (λ (f : Full). f.count) facts ∙ none in
        record {
          check = rw (unread, e, none) refl;
          count = count;
          last = rw (unread, e, none) refl;
        }
      where
        zero_is : (c : ℕ) → nat_lt 0 c ≡ false → c ≡ 0
        zero_is c k = elim (cases_lt 0 c) [
          | inl some ↦ no_both (nat_lt 0 c) (lt-ltb 0 c some) k
          | inr none ↦ omega (arith, none)
        ]

pub void-check : (t : Come) (n : ℕ) → has_rows t (t.oldest + n) ≡ false → page_check t n ≡ None
void-check t n h = (is-void t n h).check

-- ---- the checks that are left

checks-next : (t : Come) (n m : ℕ) → n < m → page_checks t n m ≡ page_check t n ∷ page_checks t (suc n) m
checks-next t n m lt =
    ap (λ k. map (page_check t) (numbers_from n k)) (let e : m - n ≡ suc (m - suc n) = omega (arith, lt) in e)
    ∙ ap (λ k. page_check t n ∷ map (page_check t) (numbers_from k (m - suc n))) (let e : n + 1 ≡ suc n = omega arith in e)

-- before an index page
pub left-page : (t : Come) (k n : ℕ) → k < t.index_pages → n < seen_before t k → left t k n ≡ first_of (page_check t n) (left t k (suc n))
left-page t k n lt below =
    let r = t.index_pages - suc k in
    let some : t.index_pages - k ≡ suc r = omega (arith, lt) in
    let rest : ℕ → List (Option MountFault) = λ seen. index_check t k ∷ checks_from t (k + 1) seen r in
    ap (λ r. first_some (checks_from t k n r)) some
    ∙ (ap (λ seen. first_some (page_checks t n seen ++ rest seen)) (let e : max n (seen_before t k) ≡ seen_before t k = omega (arith, below) in e)
    ∙ (ap (λ (xs : List (Option MountFault)). first_some (xs ++ rest (seen_before t k))) (checks-next t n (seen_before t k) below)
    ∙ (ap (λ seen. first_of (page_check t n) (first_some (page_checks t (suc n) seen ++ rest seen))) (let e : seen_before t k ≡ max (suc n) (seen_before t k) = omega (arith, below) in e)
    ∙ ap (λ r. first_of (page_check t n) (first_some (checks_from t k (suc n) r))) (sym some))))

-- the index page itself
pub left-index : (t : Come) (k n : ℕ) → k < t.index_pages → seen_before t k ≤ n → left t k n ≡ first_of (index_check t k) (left t (suc k) n)
left-index t k n lt all =
    let r = t.index_pages - suc k in
    let some : t.index_pages - k ≡ suc r = omega (arith, lt) in
    let rest : ℕ → List (Option MountFault) = λ seen. index_check t k ∷ checks_from t (k + 1) seen r in
    ap (λ r. first_some (checks_from t k n r)) some
    ∙ (ap (λ seen. first_some (page_checks t n seen ++ rest seen)) (let e : max n (seen_before t k) ≡ n = omega (arith, all) in e)
    ∙ (ap (λ z. first_some (map (page_check t) (numbers_from n z) ++ rest n)) (let e : n - n ≡ 0 = omega arith in e)
    ∙ ap (λ j. first_of (index_check t k) (first_some (checks_from t j n r))) (let e : k + 1 ≡ suc k = omega arith in e)))

-- behind them all
pub left-tail : (t : Come) (n : ℕ) → n < t.pages → left t t.index_pages n ≡ first_of (page_check t n) (left t t.index_pages (suc n))
left-tail t n lt =
    let none : t.index_pages - t.index_pages ≡ 0 = omega arith in
    ap (λ r. first_some (checks_from t t.index_pages n r)) none
    ∙ (ap first_some (checks-next t n t.pages lt) ∙ ap (λ r. first_of (page_check t n) (first_some (checks_from t t.index_pages (suc n) r))) (sym none))

pub left-none : (t : Come) → left t t.index_pages t.pages ≡ None
left-none t =
    ap (λ r. first_some (checks_from t t.index_pages t.pages r)) (let e : t.index_pages - t.index_pages ≡ 0 = omega arith in e)
    ∙ ap (λ z. first_some (map (page_check t) (numbers_from t.pages z))) (let e : t.pages - t.pages ≡ 0 = omega arith in e)

-- ---- the counts that an index page tells

-- one is fine where it can't be too great
pub count-fine : (t : Come) (k j : ℕ) →
    (t.oldest ≤ page_first (index_page t k) + j → page_first (index_page t k) + j < t.oldest + t.pages → t.most < (told_at t (page_first (index_page t k) + j) k).count → ⊥) → count_fault t k j ≡ None
count-fine t k j never = by_test ((nat_le t.oldest (page_first (index_page t k) + j) && nat_lt (page_first (index_page t k) + j) (t.oldest + t.pages)) && nat_lt t.most (told_at t (page_first (index_page t k) + j) k).count) refl
  where
    by_test : (b : Bool) → ((nat_le t.oldest (page_first (index_page t k) + j) && nat_lt (page_first (index_page t k) + j) (t.oldest + t.pages)) && nat_lt t.most (told_at t (page_first (index_page t k) + j) k).count) ≡ b →
        cond b (Some (BadEntry (page_first (index_page t k) + j) (told_at t (page_first (index_page t k) + j) k).count t.most)) None ≡ None
    by_test false e = refl
    by_test true e =
        let a = and_parts _ _ e in
        let b = and_parts _ _ a.0 in
        absurd (never (leb-true t.oldest (page_first (index_page t k) + j) b.0) (ltb-true (page_first (index_page t k) + j) (t.oldest + t.pages) b.1) (ltb-true t.most (told_at t (page_first (index_page t k) + j) k).count a.1))

pub counts-none : (t : Come) (k : ℕ) → ((j : ℕ) → j < t.per_page → count_fault t k j ≡ None) → (a q : ℕ) → a + q ≤ t.per_page → first_some (map (count_fault t k) (numbers_from a q)) ≡ None
counts-none t k one a zero le = refl
counts-none t k one a (suc q) le = ap (λ (o : Option MountFault). first_of o (first_some (map (count_fault t k) (numbers_from (a + 1) q)))) (one a (omega (arith, le))) ∙ counts-none t k one (a + 1) q (omega (arith, le))
