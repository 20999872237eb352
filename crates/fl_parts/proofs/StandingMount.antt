-- What a mount comes to where a flash stands for a table: nothing is wrong, and it knows of each page what its rows tell.
use Rattle.std.proofs.Common.{◌≡◌, ℕ, zero, suc, ◌+◌, ◌-◌, ◌<◌, ◌≤◌, ◌⊎◌, inl, inr, Bool, true, false, cond, nat_lt, Option, Some, None, List, [], ◌∷◌, length, map, refl, sym, ◌∙◌, ap, subst, arith}
use Rattle.std.specs.Prelude.{option_map, unwrap_or}
use Rattle.std.specs.List.{slice_get, sum}
use Rattle.std.proofs.lemmas.Bool.{cases_lt, lt-ltb, ltb-true, leb-true, and_parts}
use Rattle.std.proofs.lemmas.List.{length-map}
use Rattle.std.proofs.lemmas.Option.{none-some, same_Some}
use Rattle.fl_find.specs.Pages.{rows_on}
use Rattle.fl_find.specs.Pages as pages
use Rattle.fl_index.specs.Page.{page_first}
use Rattle.fl_model.specs.Agrees.{rows_at}
use Rattle.fl_model.specs.Index.{Full, full_of}
use Rattle.fl_model.specs.Entry.{first_key}
use Rattle.fl_model.specs.Ring as rings
use Rattle.fl_model.specs.Row.{Row, stored_row}
use Rattle.fl_model.specs.Table.{Table, Entry}
use Rattle.fl_model.proofs.Lists.{slice_get-some}
use Rattle.fl_model.specs.BlobEnds.{blobs_end}
use Rattle.fl_model.proofs.BlobEnds.{ends-of}
use Rattle.fl_page.specs.Page.{has_form}
use Rattle.fl_parts.specs.ByEntries.{Come, entry, index_page, is_committed, is_fit, is_good, lists, listing_among, told_at, has_rows, is_read, by_rows, by_page, facts_on, no_rows, count_fault, index_check}
use Rattle.fl_parts.specs.Reading.{rises, last_in, keys_fault}
use Rattle.fl_parts.specs.declared.mount_fault.MountFault.TheVariants.{BadKeys}
use Rattle.fl_parts.proofs.PageChecks.{unlisted-read, no_both, count-fine, counts-none}
use Rattle.fl_parts.proofs.KeyRuns.{rises-on, last-up}

-- a kept data page with these rows, as it stands on a flash
pub record IsPageOf (t : Come) (number c : ℕ) (rows : List Entry) : Type 0 where
  pub bare : c ≡ 0 → is_committed (t.rows number) ≡ false
  pub committed : 0 < c → is_committed (t.rows number) ≡ true
  pub form : 0 < c → has_form t.layout number (t.rows number) ≡ true
  pub rows_are : rows_on t.layout (t.rows number) ≡ map stored_row rows
  pub many : length rows ≡ c

-- a kept index page: it is fit, and its entries tell the kept data pages that it lists
pub record IsIndexOf (t : Come) (k : ℕ) (table : Table) : Type 0 where
  pub fit : is_fit t k ≡ true
  pub tells : (n c : ℕ) → page_first (index_page t k) ≤ t.oldest + n → t.oldest + n < page_first (index_page t k) + t.per_page → slice_get table.rows.counts n ≡ Some c →
      told_at t (t.oldest + n) k ≡ full_of (rows_at table n c)

-- a mount comes to the pages of a table without pending records
pub record IsOf (t : Come) (table : Table) : Type 0 where
  pub oldest : t.oldest ≡ rings.oldest table.rows
  pub pages : t.pages ≡ length table.rows.counts
  pub rows : (n c : ℕ) → slice_get table.rows.counts n ≡ Some c → IsPageOf t (t.oldest + n) c (rows_at table n c)
  pub index : (k : ℕ) → k < t.index_pages → is_committed (index_page t k) ≡ true → IsIndexOf t k table
  pub few : (n c : ℕ) → slice_get table.rows.counts n ≡ Some c → c ≤ t.most
  pub ascending : (i j : ℕ) (a b : Entry) → i < j → slice_get table.entries i ≡ Some a → slice_get table.entries j ≡ Some b → a.kept.key < b.kept.key
  pub counted : sum table.rows.counts ≡ length table.entries

-- ---- what rows tell

pub by-rows : (rows : List Entry) → by_rows (map stored_row rows) ≡ full_of rows
by-rows rows =
    ap (λ n. record { first_key = n; count = length (map stored_row rows); blob_end = blobs_end 0 (map stored_row rows) }) (first rows)
    ∙ (ap (λ n. record { first_key = first_key rows; count = n; blob_end = blobs_end 0 (map stored_row rows) }) (length-map rows stored_row)
    ∙ ap (λ n. record { first_key = first_key rows; count = length rows; blob_end = n }) (ends-of rows))
  where
    first : (rows : List Entry) → unwrap_or (pages.first_key (map stored_row rows)) 0 ≡ first_key rows
    first [] = refl
    first (row ∷ rows) = refl

-- ---- the index pages

-- the page among the first m that lists a data page
record IsListing (t : Come) (number m k : ℕ) : Type 0 where
  below : k < m
  good : is_good t k ≡ true
  low : page_first (index_page t k) ≤ number
  high : number < page_first (index_page t k) + t.per_page

listing : (t : Come) (number m k : ℕ) → listing_among t number m ≡ Some k → IsListing t number m k
listing t number zero k e = absurd (none-some k e)
listing t number (suc m) k e = by_test (lists t number m) refl (λ h. listing t number m k h)
  where
    here : (j : ℕ) → lists t number j ≡ true → IsListing t number (suc j) j
    here j h =
        let a = and_parts _ _ h in
        let b = and_parts _ _ a.0 in
        record { below = omega arith; good = b.0; low = leb-true _ _ b.1; high = ltb-true _ _ a.1 }

    by_test : (b : Bool) → lists t number m ≡ b → (listing_among t number m ≡ Some k → IsListing t number m k) → IsListing t number (suc m) k
    by_test true h more = subst (λ j. IsListing t number (suc m) j) (same_Some m k (sym (ap (λ b. cond b (Some m) (listing_among t number m)) h) ∙ e)) (here m h)
    by_test false h more =
        let l = more (sym (ap (λ b. cond b (Some m) (listing_among t number m)) h) ∙ e) in
        record { below = omega (arith, l.below); good = l.good; low = l.low; high = l.high }

module _ (t : Come) (table : Table) (is : IsOf t table) where
  -- an entry tells of its page
  pub entry-of : (n c : ℕ) → slice_get table.rows.counts n ≡ Some c → (full : Full) → entry t (t.oldest + n) ≡ Some full → full ≡ full_of (rows_at table n c)
  entry-of n c e full h = by_listing (listing_among t (t.oldest + n) t.index_pages) refl
    where
      same : (a b : Full) → ◌≡◌ {A = Option Full} (Some a) (Some b) → b ≡ a
      same a b e = cc

      by_listing : (o : Option ℕ) → listing_among t (t.oldest + n) t.index_pages ≡ o → full ≡ full_of (rows_at table n c)
      by_listing None k = absurd (none-some full (sym (ap (option_map (told_at t (t.oldest + n))) k) ∙ h))
      by_listing (Some j) k =
          let l = listing t (t.oldest + n) t.index_pages j k in
          let page = is.index j l.below (and_parts _ _ l.good).0 in
          same (told_at t (t.oldest + n) j) full (sym (ap (option_map (told_at t (t.oldest + n))) k) ∙ h) ∙ page.tells n c l.low l.high e

  -- so what is known of a page is what its rows tell
  pub facts-of : (n c : ℕ) → slice_get table.rows.counts n ≡ Some c → facts_on t (t.oldest + n) ≡ full_of (rows_at table n c)
  facts-of n c e = by_read (is_read t (t.oldest + n)) refl
    where
      by_entry : is_read t (t.oldest + n) ≡ false → (o : Option Full) → entry t (t.oldest + n) ≡ o → unwrap_or o no_rows ≡ full_of (rows_at table n c)
      by_entry unread None k = no_both (is_read t (t.oldest + n)) (unlisted-read t (t.oldest + n) k) unread
      by_entry unread (Some full) k = entry-of n c e full k

      by_read : (b : Bool) → is_read t (t.oldest + n) ≡ b → cond b (by_page t (t.oldest + n)) (unwrap_or (entry t (t.oldest + n)) no_rows) ≡ full_of (rows_at table n c)
      by_read true k = ap by_rows (is.rows n c e).rows_are ∙ by-rows (rows_at table n c)
      by_read false k = by_entry k (entry t (t.oldest + n)) refl

  pub count-of : (n c : ℕ) → slice_get table.rows.counts n ≡ Some c → (facts_on t (t.oldest + n)).count ≡ c
  count-of n c e = ap (λ (f : Full). f.count) (facts-of n c e) ∙ (is.rows n c e).many

  -- a page has rows where the table's has
  pub rows-of : (n c : ℕ) → slice_get table.rows.counts n ≡ Some c → has_rows t (t.oldest + n) ≡ nat_lt 0 c
  rows-of n c e = by_entry (entry t (t.oldest + n)) refl
    where
      p : IsPageOf t (t.oldest + n) c (rows_at table n c)
      p = is.rows n c e

      by_count : (0 < c) ⊎ (c ≤ 0) → is_committed (t.rows (t.oldest + n)) ≡ nat_lt 0 c
      by_count (inl some) = p.committed some ∙ sym (lt-ltb 0 c some)
      by_count (inr none) = let z : c ≡ 0 = omega (arith, none) in p.bare z ∙ ap (nat_lt 0) (sym z)

      by_entry : (o : Option Full) → entry t (t.oldest + n) ≡ o → has_rows t (t.oldest + n) ≡ nat_lt 0 c
      by_entry None k = ap (λ (o : Option Full). unwrap_or (option_map (λ (full : Full). nat_lt 0 full.count) o) (is_committed (t.rows (t.oldest + n)))) k ∙ by_count (cases_lt 0 c)
      by_entry (Some full) k =
          ap (λ (o : Option Full). unwrap_or (option_map (λ (full : Full). nat_lt 0 full.count) o) (is_committed (t.rows (t.oldest + n)))) k
          ∙ ap (nat_lt 0) (ap (λ (f : Full). f.count) (entry-of n c e full k) ∙ p.many)

  -- no entry tells a count that no page has, and no index page is bad
  pub index-fine : (k : ℕ) → k < t.index_pages → index_check t k ≡ None
  index-fine k lt = by_state (is_committed (index_page t k)) refl
    where
      kept_count : (j n c : ℕ) → is_committed (index_page t k) ≡ true → j < t.per_page → page_first (index_page t k) + j ≡ t.oldest + n → slice_get table.rows.counts n ≡ Some c → (told_at t (page_first (index_page t k) + j) k).count ≤ t.most
      kept_count j n c e less at here =
          let page = is.index k lt e in
          let tells = page.tells n c (omega (arith, at)) (omega (arith, at, less)) here in
          let count : (told_at t (page_first (index_page t k) + j) k).count ≡ c = ap (λ m. (told_at t m k).count) at ∙ (ap (λ (f : Full). f.count) tells ∙ (is.rows n c here).many) in
          omega (arith, count, is.few n c here)

      one : is_committed (index_page t k) ≡ true → (j : ℕ) → j < t.per_page → count_fault t k j ≡ None
      one e j less = count-fine t k j (λ low high above.
          let n = page_first (index_page t k) + j - t.oldest in
          let c = slice_get-some table.rows.counts n (omega (arith, low, high, is.pages)) in
          omega (arith, above, kept_count j n c.0 e less (omega (arith, low)) c.1))

      by_state : (b : Bool) → is_committed (index_page t k) ≡ b → index_check t k ≡ None
      by_state false e = rw (e) refl
      by_state true e = let page = is.index k lt e in rw (e, page.fit) (counts-none t k (one e) 0 t.per_page (omega arith))

-- ---- the keys

-- a key that is no greater than another
abbrev pub AtMost : Option ℕ → Option ℕ → Type 0
AtMost None before = Unit {0}
AtMost (Some low) before = (high : ℕ) × ((before ≡ Some high) × (low ≤ high))

pub at-most : (o : Option ℕ) → AtMost o o
at-most None = tt
at-most (Some n) = (n, (refl, omega arith))

rises-low : (known before : Option ℕ) (key : ℕ) → AtMost known before → rises before key ≡ true → rises known key ≡ true
rises-low None before key h up = refl
rises-low (Some low) before key h up =
    let lt = ltb-true h.0 key (sym (ap (λ (o : Option ℕ). rises o key) h.1.0) ∙ up) in lt-ltb low key (omega (arith, lt, h.1.1))

low-fault : (number : ℕ) (known before : Option ℕ) (rows : List Row) → AtMost known before → keys_fault number before rows ≡ None → keys_fault number known rows ≡ None
low-fault number known before [] h e = refl
low-fault number known before (row ∷ rows) h e =
    let on = rises-on number before row rows e in
    ap (λ b. cond b (keys_fault number (Some row.key) rows) (Some (BadKeys number (unwrap_or known 0) row.key))) (rises-low known before row.key h on.up) ∙ on.others

-- the keys of some rows of a table, behind a key that is no greater than the one before them
pub record AreBehind (number : ℕ) (known before after : Option ℕ) (rows : List Entry) : Type 0 where
  pub fine : keys_fault number known (map stored_row rows) ≡ None
  pub rises_on : 0 < length rows → rises known (first_key rows) ≡ true
  pub last : 0 < length rows → last_in known (map stored_row rows) ≡ after
  pub first : 0 < length rows → AtMost (Some (first_key rows)) after

pub are-behind : (number : ℕ) (known before after : Option ℕ) (rows : List Entry) → AtMost known before → keys_fault number before (map stored_row rows) ≡ None → last_in before (map stored_row rows) ≡ after → AreBehind number known before after rows
are-behind number known before after [] h e last = record { fine = refl; rises_on = λ some. absurd (omega (arith, some)); last = λ some. absurd (omega (arith, some)); first = λ some. absurd (omega (arith, some)) }
are-behind number known before after (row ∷ rows) h e last =
    let on = rises-on number before (stored_row row) (map stored_row rows) e in
    let up = last-up number row.kept.key (map stored_row rows) on.others in
    record {
      fine = low-fault number known before (map stored_row (row ∷ rows)) h e;
      rises_on = λ some. rises-low known before row.kept.key h on.up;
      last = λ some. last;
      first = λ some. (up.0, (sym last ∙ up.1.0, up.1.1));
    }
