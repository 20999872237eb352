-- What a scan over a table's index pages counts, in the words of the model.
use Rattle.std.proofs.Common.{◌≡◌, ◌⊎◌, inl, inr, ℕ, zero, suc, ◌+◌, ◌-◌, ◌<◌, ◌≤◌, Bool, true, false, cond, ◌&&◌, ◌||◌, ◌==◌, nat_le, nat_lt, Option, Some, None, is_some, List, [], ◌∷◌, length, take, drop, refl, sym, ◌∙◌, ap, arith}
use Rattle.std.proofs.lemmas.Bool.{cases_lt, lt-ltb, leb-true, le-leb, eq-eqb, false_from_ne_true, and_parts}
use Rattle.std.proofs.lemmas.List.{take_all, drop_all}
use Rattle.std.proofs.lemmas.List.Sums.{sum_by-cons}
use Rattle.std.specs.List.{slice_get, list_any, range_with_len, count_by}
use Rattle.std.proofs.lemmas.Option.{none-some}
use Rattle.fl_base.proofs.Tests.{zero_case, one_at_most, one_fewer}
use Rattle.fl_flash.specs.Flash.{FlashState}
use Rattle.fl_model.specs.Limits.{is_indexed}
use Rattle.fl_model.specs.Record.{Plan, entries_per_page}
use Rattle.fl_model.specs.Table.{Table, full_pages, firsts}
use Rattle.fl_model.proofs.Lists.{slice_get-some, slice_get-short, drop_none, take_none, drop-at}
use Rattle.fl_index.specs.declared.index.BitmapIndex.{BitmapIndex}
use Rattle.fl_index.specs.Looking.{ends_above, unread, is_page, is_looked_at, due}
use Rattle.fl_index.specs.Memory.{first_in, first_waiting, waiting_in, is_waiting, next_in, oldest_in, per_page, lists, listing_in}
use Rattle.fl_index.specs.Standing.{Stands}
use Rattle.fl_index.proofs.Counts.{count-cons}
use Rattle.fl_model.proofs.FullPages.{full-one, full-void, full-append, full-within}
use Rattle.fl_index.proofs.Lists.{below-end, firsts-length}
use Rattle.fl_index.proofs.Held.{listed-first}
use Rattle.fl_index.proofs.ListingPages.{listing-is}
use Rattle.fl_index.proofs.LookupsOfTable.{ListingPage, listing-page, listed-indexed, waits-indexed, none-shows, number_old, kept_len, X_is}

take-at : (i x : ℕ) (xs : List ℕ) → slice_get xs i ≡ Some x → full_pages (take (suc i) xs) ≡ full_pages (take i xs) + full_pages (x ∷ [])
take-at i x [] e = absurd (none-some x e)
take-at zero x (y ∷ xs) e =
    let same : y ≡ x = cc in
    let one : full_pages (take 1 (y ∷ xs)) ≡ full_pages (x ∷ []) = ap (λ (zs : List ℕ). full_pages (y ∷ zs)) (take_none xs) ∙ ap (λ z. full_pages (z ∷ [])) same in
    omega (arith, one)
take-at (suc i) x (y ∷ xs) e =
    let others = take-at i x xs e in
    omega (arith, others, full-append (y ∷ []) (take (suc i) xs), full-append (y ∷ []) (take i xs))

module _ (t : BitmapIndex) (f : FlashState) (first : ℕ) (plan : Plan) (table : Table) (stands : Stands t f first plan table) where
  abbrev counts : List ℕ
  counts = stands.in_ring.ring.counts

  -- a data page is indexed where its bitmap waits or an index page lists it
  pub indexed-is : (number : ℕ) → is_indexed plan table number ≡ (is_waiting t number || is_some (listing_in t number))
  indexed-is number = by_waiting (is_waiting t number) refl
    where
      by_listing : (o : Option ℕ) → listing_in t number ≡ o → is_waiting t number ≡ false → is_indexed plan table number ≡ is_some o
      by_listing None e w = sym (none-shows t f first plan table stands number w e).0
      by_listing (Some page) e w =
          let at = listing-is (per_page t) (first_in t) number (next_in t - oldest_in t) (oldest_in t) page e in
          listed-indexed t f first plan table stands number page (listing-page t f first plan table stands number page at.low (omega (arith, at.low, at.high)) at.here)

      by_waiting : (b : Bool) → is_waiting t number ≡ b → is_indexed plan table number ≡ (b || is_some (listing_in t number))
      by_waiting true w = waits-indexed t f first plan table stands number w
      by_waiting false w = by_listing (listing_in t number) refl w

  -- what is remembered of the index page at a place
  memory : (i c : ℕ) → slice_get counts i ≡ Some c → first_in t (oldest_in t + i) ≡ cond (c == 0) None (slice_get (firsts table) (full_pages (take i counts)))
  memory i c e = ap (λ n. first_in t (n + i)) (number_old t f first plan table stands) ∙ stands.in_ring.first_of i c e

  -- at most all index pages that aren't void are unread
  unread-over : (number n i : ℕ) → i + n ≡ length counts → count_by (λ k. ends_above (per_page t) number (first_in t k)) (range_with_len (oldest_in t + i) n) ≤ full_pages (drop i counts)
  unread-over number zero i is = omega arith
  unread-over number (suc n) i is =
      let at = slice_get-some counts i (omega (arith, is)) in
      let others = unread-over number n (suc i) (omega (arith, is)) in
      let next : oldest_in t + i + 1 ≡ oldest_in t + suc i = omega arith in
      let moved = ap (λ a. count_by (λ k. ends_above (per_page t) number (first_in t k)) (range_with_len a n)) next in
      let split = ap full_pages (drop-at counts i at.0 at.1) ∙ full-append (at.0 ∷ []) (drop (suc i) counts) in
      let here = by_count at.0 at.1 (cases_lt 0 at.0) in
      omega (arith, count-cons (λ k. ends_above (per_page t) number (first_in t k)) n (oldest_in t + i), others, moved, split, here)
    where
      by_count : (c : ℕ) → slice_get counts i ≡ Some c → (0 < c) ⊎ (c ≤ 0) → cond (ends_above (per_page t) number (first_in t (oldest_in t + i))) 1 0 ≤ full_pages (c ∷ [])
      by_count c e (inl some) = let one = full-one c some in let few = one_at_most (ends_above (per_page t) number (first_in t (oldest_in t + i))) in omega (arith, one, few)
      by_count c e (inr none) =
          let z : c ≡ 0 = omega (arith, none) in
          let void : first_in t (oldest_in t + i) ≡ None = memory i c e ∙ ap (λ k. cond (k == 0) None (slice_get (firsts table) (full_pages (take i counts)))) z in
          let nothing : cond (ends_above (per_page t) number (first_in t (oldest_in t + i))) 1 0 ≡ 0 = ap (λ (o : Option ℕ). cond {A = ℕ} (ends_above (per_page t) number o) 1 0) void in
          omega (arith, nothing)

  pub unread-full : (number : ℕ) → unread t number (oldest_in t) ≤ full_pages counts
  unread-full number =
      let all = unread-over number (length counts) 0 (omega arith) in
      let at : oldest_in t + 0 ≡ oldest_in t = omega arith in
      let many = kept_len t f first plan table stands in
      let same = ap (λ a. count_by (λ k. ends_above (per_page t) number (first_in t k)) (range_with_len a (length counts))) at
      ∙ ap (λ n. count_by (λ k. ends_above (per_page t) number (first_in t k)) (range_with_len (oldest_in t) n)) (sym many) in
      let whole : full_pages (drop 0 counts) ≡ full_pages counts = ap full_pages (drop_none counts) in
      omega (arith, all, same, whole)

  -- ---- the index page that lists a data page is looked at for it

  pub listed-looked : (number page first_page : ℕ) → oldest_in t ≤ page → page < next_in t → first_in t page ≡ Some first_page → first_page ≤ number → number < first_page + entries_per_page plan → is_looked_at t page number ≡ true
  listed-looked number page first_page low high is from before =
      let here : lists (per_page t) number (first_in t page) ≡ true =
      ap (lists (per_page t) number) is
      ∙ (ap (λ b. b && nat_lt number (first_page + per_page t)) (le-leb first_page number from) ∙ lt-ltb number (first_page + per_page t) (omega (arith, before, X_is t f first plan table stands))) in
      let l = listing-page t f first plan table stands number page low high here in
      ap (λ b. is_page page (cond b None (listing_in t number))) (not_waiting l)
      ∙ (ap (is_page page) (listed-first t f first plan table stands number page (record { kept = (low, high); here = here })) ∙ eq-eqb page page refl)
    where
      not_waiting : ListingPage t f first plan table stands number page → is_waiting t number ≡ false
      not_waiting l = false_from_ne_true (is_waiting t number) (λ e.
          let b = and_parts (nat_le (first_waiting t) number) (nat_lt number (first_waiting t + waiting_in t)) e in
          let least = leb-true (first_waiting t) number b.0 in
          let end = below-end (entries_per_page plan) (firsts table) _ l.first_page stands.in_ring.facts.firsts l.listed in
          omega (arith, least, end, l.high, stands.in_ring.facts.listed, stands.waits.first_is))

  -- the index pages that the model counts are due
  module _ (q : ℕ → Bool) (numbers : List ℕ) (looked : (page first_page : ℕ) → oldest_in t ≤ page → page < next_in t → first_in t page ≡ Some first_page → q first_page ≡ true → list_any (is_looked_at t page) numbers ≡ true) where
    due-over : (n i : ℕ) → i + n ≡ length counts →
        count_by q (drop (full_pages (take i counts)) (firsts table)) ≤ count_by (λ k. list_any (is_looked_at t k) numbers) (range_with_len (oldest_in t + i) n)
    due-over zero i is =
        let all : full_pages (take i counts) ≡ full_pages counts = ap full_pages (take_all i counts (omega (arith, is))) in
        let none : count_by q (drop (full_pages (take i counts)) (firsts table)) ≡ 0 = ap (count_by q) (drop_all (full_pages (take i counts)) (firsts table) (omega (arith, all, firsts-length table.index_pages, stands.in_ring.facts.index_each))) in
        omega (arith, none)
    due-over (suc n) i is =
        let at = slice_get-some counts i (omega (arith, is)) in
        let others = due-over n (suc i) (omega (arith, is)) in
        let next : oldest_in t + i + 1 ≡ oldest_in t + suc i = omega arith in
        let moved = ap (λ a. count_by (λ k. list_any (is_looked_at t k) numbers) (range_with_len a n)) next in
        by_count at.0 at.1 (cases_lt 0 at.0) others moved
      where
        by_count : (c : ℕ) → slice_get counts i ≡ Some c → (0 < c) ⊎ (c ≤ 0) →
            count_by q (drop (full_pages (take (suc i) counts)) (firsts table)) ≤ count_by (λ k. list_any (is_looked_at t k) numbers) (range_with_len (oldest_in t + suc i) n) →
            count_by (λ k. list_any (is_looked_at t k) numbers) (range_with_len (oldest_in t + i + 1) n) ≡ count_by (λ k. list_any (is_looked_at t k) numbers) (range_with_len (oldest_in t + suc i) n) →
            count_by q (drop (full_pages (take i counts)) (firsts table)) ≤ count_by (λ k. list_any (is_looked_at t k) numbers) (range_with_len (oldest_in t + i) (suc n))
        by_count c e (inr none) others moved =
            let void = full-void c none in
            let same : full_pages (take (suc i) counts) ≡ full_pages (take i counts) = omega (arith, take-at i c counts e, void) in
            let left = ap (λ k. count_by q (drop k (firsts table))) same in
            omega (arith, others, moved, left, count-cons (λ k. list_any (is_looked_at t k) numbers) n (oldest_in t + i))
        by_count c e (inl some) others moved =
            let one = full-one c some in
            let more : full_pages (take (suc i) counts) ≡ suc (full_pages (take i counts)) = omega (arith, take-at i c counts e, one) in
            let within = full-within counts i c (slice_get-short counts i c e) e some in
            let found = slice_get-some (firsts table) (full_pages (take i counts)) (omega (arith, within, firsts-length table.index_pages, stands.in_ring.facts.index_each)) in
            let split = ap (count_by q) (drop-at (firsts table) (full_pages (take i counts)) found.0 found.1) ∙ sum_by-cons (λ x. cond (q x) 1 0) found.0 (drop (suc (full_pages (take i counts))) (firsts table)) in
            let left = ap (λ k. count_by q (drop k (firsts table))) more in
            let kept : oldest_in t + i < next_in t = omega (arith, slice_get-short counts i c e, kept_len t f first plan table stands) in
            let is_first : first_in t (oldest_in t + i) ≡ Some found.0 = memory i c e ∙ (zero_case c some (slice_get (firsts table) (full_pages (take i counts))) ∙ found.1) in
            let here = one_fewer (q found.0) (list_any (is_looked_at t (oldest_in t + i)) numbers) (looked (oldest_in t + i) found.0 (omega arith) kept is_first) in
            omega (arith, others, moved, split, left, here, count-cons (λ k. list_any (is_looked_at t k) numbers) n (oldest_in t + i))

    pub due-firsts : count_by q (firsts table) ≤ due t numbers (oldest_in t)
    due-firsts =
        let all = due-over (length counts) 0 (omega arith) in
        let at : oldest_in t + 0 ≡ oldest_in t = omega arith in
        let many = kept_len t f first plan table stands in
        let same = ap (λ a. count_by (λ k. list_any (is_looked_at t k) numbers) (range_with_len a (length counts))) at
        ∙ ap (λ n. count_by (λ k. list_any (is_looked_at t k) numbers) (range_with_len (oldest_in t) n)) (sym many) in
        let none : full_pages (take 0 counts) ≡ 0 = ap full_pages (take_none counts) in
        let whole = ap (λ k. count_by q (drop k (firsts table))) none ∙ ap (count_by q) (drop_none (firsts table)) in
        omega (arith, all, same, whole)
