-- A kept index page is read.
use Rattle.std.proofs.Common.{◌≡◌, ℕ, zero, suc, ◌+◌, ◌-◌, ◌<◌, ◌≤◌, ◌⊎◌, inl, inr, Bool, true, false, cond, ◌&&◌, nat_le, nat_lt, max, min, Option, Some, None, List, map, refl, sym, ◌∙◌, ap, subst, arith}
use Rattle.std.specs.Prelude.{◌^◌, IfSome, option_map, unwrap_or}
use Rattle.std.proofs.lemmas.Bool.{cases_lt, eqb-true, eq-eqb, leb-true, ltb-true, le-leb, lt-ltb, and_from, and_parts, and_left, and_right}
use Rattle.std.proofs.lemmas.Option.{none-some}
use Rattle.fl_find.specs.Index.{IndexOf}
use Rattle.fl_find.specs.declared.index.KeyIndex.{KeyIndex}
use Rattle.fl_flash.specs.Flash.{FlashState}
use Rattle.fl_index.specs.Finding.{pages_of}
use Rattle.fl_index.specs.Loading.{IsLoaded}
use Rattle.fl_index.specs.Memory.{per_page, is_waiting, found_waiting, first_waiting, waiting_in}
use Rattle.fl_index.specs.declared.index.BitmapIndex.{BitmapIndex}
use Rattle.fl_index.specs.declared.load.Loaded.TheVariants.{Nothing, Listing, Bad}
use Rattle.fl_mark.specs.Mark.{state_of_page}
use Rattle.fl_mark.specs.declared.page_state.PageState.{PageState}
use Rattle.fl_mark.specs.declared.page_state.PageState.TheVariants.{Blank, Torn, Committed, Void}
use Rattle.fl_model.specs.Record.{RowLayout}
use Rattle.fl_ring.specs.Newest.{commits}
use Rattle.fl_ring.specs.declared.ring.Ring.{Ring}
use Rattle.fl_parts.specs.Coming.{IsComeTo, loaded_full}
use Rattle.fl_index.specs.Page.{page_first, page_entries, page_number, found_at, full_view, IsGoodPage}
use Rattle.fl_index.specs.declared.page.EntryForm.{EntryForm}
use Rattle.fl_index.specs.declared.page.Found.{Found}
use Rattle.fl_index.specs.declared.page.Full as code
use Rattle.fl_model.specs.Layout.{Full}
use Rattle.fl_model.specs.Limits.{numbers_from}
use Rattle.fl_model.specs.Table.{first_of}
use Rattle.fl_page.specs.declared.fault.BadPage.{BadPage as Refusal}
use Rattle.fl_parts.specs.ByEntries.{Come, has_rows, facts_on, points_of, index_page, is_committed, is_fit, is_good, lists, end_before, seen_before, entry, told, told_at, first_some, count_fault, index_check, bad_index_page, mount_fault}
use Rattle.fl_parts.specs.Knowing.{KnowsBy, KnowsWith, counted_to}
use Rattle.fl_parts.specs.declared.mount_fault.MountFault.{MountFault}
use Rattle.fl_parts.specs.declared.mount_fault.MountFault.TheVariants.{BadPage, BadEntry}
use Rattle.fl_parts.specs.declared.known.Known.{Known}
use Rattle.fl_parts.specs.declared.known.Listed.{Listed}
use Rattle.fl_parts.proofs.PageChecks.{left-index, count-fine, counts-none}
use Rattle.fl_parts.proofs.ListingPage.{entry-in}
use Rattle.fl_parts.proofs.WaitingPageComes.{knows-all, knows-aside}
use Rattle.fl_parts.proofs.Steps.{index-all, index-aside, index-refused, index-waits}

module _ {KNOTS SLOTS : ℕ} (error : ℕ) (t : Come) (k n : ℕ) (lt : k < t.index_pages) (seen : seen_before t k ≤ n) (known : Known) (counts : List ℕ) (index : KeyIndex KNOTS SLOTS) (h : KnowsWith error t k n known counts index) where
  -- it is well
  pub index-passes : index_check t k ≡ None → KnowsWith error t (suc k) n known counts index
  index-passes fine = by_newest known.newest refl
    where
      by_newest : (o : Option Listed) → known.newest ≡ o → KnowsWith error t (suc k) n known counts index
      by_newest None e = record {
        knows = subst (λ (o : Option Listed). KnowsBy o t (suc k) n known counts) (sym e) (index-all t k n (left-index t k n lt seen) known counts (knows-all error t k n known counts index h e) fine);
        points = h.points;
      }
      by_newest (Some listed) e = record {
        knows = subst (λ (o : Option Listed). KnowsBy o t (suc k) n known counts) (sym e) (index-aside t k n (left-index t k n lt seen) known counts listed (knows-aside error t k n known counts index h listed e) fine);
        points = h.points;
      }

  -- it is bad, and nothing waits
  pub index-bad : (fault : MountFault) → known.newest ≡ None → index_check t k ≡ Some fault → mount_fault t ≡ Some fault
  index-bad fault e is = index-refused t k n (left-index t k n lt seen) known counts fault (knows-all error t k n known counts index h e) is

  -- .. or a page waits that may be the newest with rows
  pub index-blamed : (bad : Refusal) (now : Known) → (known.newest ≡ None → ⊥) → index_check t k ≡ Some (BadPage bad) → now ≡ record known { fault = first_of known.fault (Some bad) } → KnowsWith error t (suc k) n now counts index
  index-blamed bad now some is now_is = by_newest known.newest refl
    where
      by_newest : (o : Option Listed) → known.newest ≡ o → KnowsWith error t (suc k) n now counts index
      by_newest None e = absurd (some e)
      by_newest (Some listed) e =
          let newest : now.newest ≡ Some listed = ap (λ (x : Known). x.newest) now_is ∙ e in
          record {
            knows = subst (λ (o : Option Listed). KnowsBy o t (suc k) n now counts) (sym newest)
                (index-waits t k n (left-index t k n lt seen) known counts listed bad now (knows-aside error t k n known counts index h listed e) is (ap (λ (x : Known). x.rows) now_is) (ap (λ (x : Known). x.voids) now_is)
                (ap (λ (x : Known). x.last) now_is) (ap (λ (x : Known). x.blob_end) now_is) (ap (λ (x : Known). x.fault) now_is));
            points = subst (λ (o : Option Listed). IndexOf error (points_of (facts_on t) t.oldest (counted_to t n o)) index) (sym (ap (λ (x : Known). x.newest) now_is)) h.points;
          }

-- ---- what its bytes say

module _ (t : Come) (k : ℕ) where
  -- it isn't committed
  pub bare-check : is_committed (index_page t k) ≡ false → index_check t k ≡ None
  bare-check bare = rw (bare) refl

  pub bare-end : is_committed (index_page t k) ≡ false → end_before t (suc k) ≡ end_before t k
  bare-end bare = rw (bare) refl

  -- it is, and isn't fit
  pub unfit-check : is_committed (index_page t k) ≡ true → is_fit t k ≡ false → index_check t k ≡ Some (bad_index_page (t.index_oldest + k) (index_page t k))
  unfit-check is unfit = rw (is, unfit) refl

  pub committed-end : is_committed (index_page t k) ≡ true → end_before t (suc k) ≡ max (end_before t k) (page_first (index_page t k) + page_entries (index_page t k))
  committed-end is = ap (λ b. cond b (max (end_before t k) (page_first (index_page t k) + page_entries (index_page t k))) (end_before t k)) is

  -- a page with another number or count isn't fit, and neither is one that begins before the end
  pub bad-unfit : (IsGoodPage t.per_page (t.index_oldest + k) (index_page t k) → ⊥) → is_fit t k ≡ false
  bad-unfit bad = by_test (is_fit t k) refl
    where
      by_test : (b : Bool) → is_fit t k ≡ b → b ≡ false
      by_test true e =
          let a = (and_parts _ _ e).0 in
          let b = and_parts _ _ a in
          absurd (bad (record { number_is = eqb-true _ _ b.0; full = eqb-true _ _ b.1 }))
      by_test false e = refl

  pub low-unfit : page_first (index_page t k) < end_before t k → is_fit t k ≡ false
  low-unfit low = by_test (is_fit t k) refl
    where
      by_test : (b : Bool) → is_fit t k ≡ b → b ≡ false
      by_test true e = let le = leb-true (end_before t k) (page_first (index_page t k)) (and_parts _ _ e).1 in absurd (omega (arith, le, low))
      by_test false e = refl

  pub good-fit : IsGoodPage t.per_page (t.index_oldest + k) (index_page t k) → end_before t k ≤ page_first (index_page t k) → is_fit t k ≡ true
  good-fit g le = rw (eq-eqb (page_number (index_page t k)) (t.index_oldest + k) g.number_is, eq-eqb (page_entries (index_page t k)) t.per_page g.full) (le-leb (end_before t k) (page_first (index_page t k)) le)

  -- a page that isn't good lists none of the data pages up to its end
  pub unfit-lists : (number : ℕ) → k < t.index_pages → is_good t k ≡ false → end_before t k ≤ number → number < end_before t (suc k) → entry t number ≡ None
  unfit-lists number lt bad low high =
      let none : lists t number k ≡ false = ap (λ b. (b && nat_le (page_first (index_page t k)) number) && nat_lt number (page_first (index_page t k) + t.per_page)) bad in
      entry-in t number k lt low high ∙ ap (λ b. cond b (Some (told_at t number k)) None) none

-- ---- what is loaded

pub none-loaded : (index : BitmapIndex) (number : ℕ) → waiting_in index ≡ 0 → loaded_full index number ≡ None
none-loaded index number none = by_test (is_waiting index number) refl
  where
    by_test : (b : Bool) → is_waiting index number ≡ b → cond b (found_waiting index (number - first_waiting index)).full None ≡ None
    by_test false e = refl
    by_test true e =
        let b = and_parts _ _ e in
        let low = leb-true (first_waiting index) number b.0 in
        let high = ltb-true number (first_waiting index + waiting_in index) b.1 in
        absurd (omega (arith, low, high, none))

uncommitted : (s : PageState) → (s ≡ Committed → ⊥) → commits s ≡ false
uncommitted Committed h = absurd (h refl)
uncommitted Blank h = refl
uncommitted Torn h = refl
uncommitted Void h = refl

module _ (t : Come) (layout : RowLayout) (most : ℕ) (bitmaps now : BitmapIndex) (ring : Ring) (f : FlashState) (is : IsComeTo t layout most bitmaps ring f) (k page : ℕ) (at : page ≡ t.index_oldest + k) where
  -- the page that is loaded
  pub loaded-page : index_page t k ≡ pages_of bitmaps f page
  loaded-page = is.index (t.index_oldest + k) ∙ ap (pages_of bitmaps f) (sym at)

  pub nothing-bare : IsLoaded bitmaps page (pages_of bitmaps f page) Nothing now → is_committed (index_page t k) ≡ false
  nothing-bare h = ap is_committed loaded-page ∙ uncommitted (state_of_page (pages_of bitmaps f page)) h.0

  -- a bad one
  pub record IsBadIndexPage (first : ℕ) (bad : Refusal) : Type 0 where
    pub committed : is_committed (index_page t k) ≡ true
    pub unfit : is_fit t k ≡ false
    pub check : index_check t k ≡ Some (BadPage bad)
    pub end : end_before t (suc k) ≡ max (end_before t k) (first + bad.count)
    pub none : waiting_in now ≡ 0

  pub bad-page : (first : ℕ) (bad : Refusal) → IsLoaded bitmaps page (pages_of bitmaps f page) (Bad first bad) now → IsBadIndexPage first bad
  bad-page first bad h =
      let committed : is_committed (index_page t k) ≡ true = ap is_committed loaded-page ∙ ap commits h.0 in
      let unfit = bad-unfit t k (λ good. h.1 (subst (λ (b : List ℕ). IsGoodPage (per_page bitmaps) page b) loaded-page (subst (λ n. IsGoodPage (per_page bitmaps) n (index_page t k)) (sym at) (subst (λ n. IsGoodPage n (t.index_oldest + k) (index_page t k)) is.per good)))) in
      let bad_is : bad_index_page (t.index_oldest + k) (index_page t k) ≡ BadPage bad =
      ap (λ n. bad_index_page n (index_page t k)) (sym at) ∙ (ap (bad_index_page page) loaded-page ∙ ap (λ (b : Refusal). BadPage b) (sym h.2)) in
      let count : page_entries (index_page t k) ≡ bad.count = ap page_entries loaded-page ∙ sym (ap (λ (b : Refusal). b.count) h.2) in
      let begin : page_first (index_page t k) ≡ first = ap page_first loaded-page ∙ sym h.4 in
      record {
        committed = committed;
        unfit = unfit;
        check = unfit-check t k committed unfit ∙ ap (λ (e : MountFault). Some e) bad_is;
        end = committed-end t k committed ∙ (ap (λ a. max (end_before t k) (a + page_entries (index_page t k))) begin ∙ ap (λ a. max (end_before t k) (first + a)) count);
        none = h.3.many;
      }

  -- a good one that begins before the end of those before it
  pub record IsUnfitPage (first capacity : ℕ) : Type 0 where
    pub committed : is_committed (index_page t k) ≡ true
    pub unfit : is_fit t k ≡ false
    pub check : index_check t k ≡ Some (BadPage (record { wanted = page; found = page; count = capacity }))
    pub end : end_before t (suc k) ≡ max (end_before t k) (first + capacity)

  pub low-page : (first capacity : ℕ) → IsLoaded bitmaps page (pages_of bitmaps f page) (Listing first) now → capacity ≡ per_page bitmaps → first < end_before t k → IsUnfitPage first capacity
  low-page first capacity h per low =
      let committed : is_committed (index_page t k) ≡ true = ap is_committed loaded-page ∙ ap commits h.committed in
      let begin : page_first (index_page t k) ≡ first = ap page_first loaded-page ∙ sym h.first_is in
      let count : page_entries (index_page t k) ≡ capacity = ap page_entries loaded-page ∙ (h.good.full ∙ sym per) in
      let number : page_number (index_page t k) ≡ page = ap page_number loaded-page ∙ h.good.number_is in
      let unfit = low-unfit t k (omega (arith, begin, low)) in
      record {
        committed = committed;
        unfit = unfit;
        check = unfit-check t k committed unfit ∙ ap (λ (e : MountFault). Some e)
            (ap (λ n. bad_index_page n (index_page t k)) (sym at) ∙ (ap (λ n. BadPage (record { wanted = page; found = n; count = page_entries (index_page t k) })) number ∙ ap (λ n. BadPage (record { wanted = page; found = page; count = n })) count));
        end = committed-end t k committed ∙ (ap (λ a. max (end_before t k) (a + page_entries (index_page t k))) begin ∙ ap (λ a. max (end_before t k) (first + a)) count);
      }

  -- a good one that begins behind it
  module _ (first : ℕ) (h : IsLoaded bitmaps page (pages_of bitmaps f page) (Listing first) now) (above : end_before t k ≤ first) where
    begins : page_first (index_page t k) ≡ first
    begins = ap page_first loaded-page ∙ sym h.first_is

    good-committed : is_committed (index_page t k) ≡ true
    good-committed = ap is_committed loaded-page ∙ ap commits h.committed

    fits : is_fit t k ≡ true
    fits = good-fit t k (record { number_is = ap page_number loaded-page ∙ (h.good.number_is ∙ at); full = ap page_entries loaded-page ∙ (h.good.full ∙ sym is.per) }) (omega (arith, begins, above))

    pub good-end : end_before t (suc k) ≡ first + t.per_page
    good-end =
        let many : page_entries (index_page t k) ≡ t.per_page = ap page_entries loaded-page ∙ (h.good.full ∙ sym is.per) in
        committed-end t k good-committed ∙ omega (arith, begins, many, above)

    -- its entries are those that are loaded
    pub listed-told : (number : ℕ) → first ≤ number → number < first + t.per_page → number < 2 ^ 32 - 1 → option_map full_view (loaded_full now number) ≡ Some (told_at t number k)
    listed-told number low high few =
        let waits : is_waiting now number ≡ true = and_from (nat_le (first_waiting now) number) (nat_lt number (first_waiting now + waiting_in now)) (le-leb (first_waiting now) number (omega (arith, h.begin, low))) (lt-ltb number (first_waiting now + waiting_in now) (omega (arith, h.begin, h.many, is.per, low, high, few))) in
        let j = number - first_waiting now in
        let same : found_waiting now j ≡ found_at t.form (index_page t k) (number - page_first (index_page t k)) =
        h.each j (omega (arith, h.begin, h.many, is.per, low, high, few))
        ∙ (ap (λ (x : EntryForm). found_at x (pages_of bitmaps f page) j) (sym is.form)
        ∙ (ap (λ (b : List ℕ). found_at t.form b j) (sym loaded-page)
        ∙ ap (found_at t.form (index_page t k)) (let e : j ≡ number - page_first (index_page t k) = omega (arith, h.begin, begins) in e))) in
        ap (λ b. option_map full_view (cond b (found_waiting now j).full None)) waits
        ∙ (ap (λ (x : Found). option_map full_view x.full) same ∙ whole t.form (index_page t k) (number - page_first (index_page t k)) is.full_is)
      where
        whole : (form : EntryForm) (bytes : List ℕ) (j : ℕ) → form.full ≡ true → option_map full_view (found_at form bytes j).full ≡ Some (told (found_at form bytes j))
        whole form bytes j e = rw (e) refl

    -- no entry of a kept data page tells too many rows
    pub counts-fine : (low high : ℕ) → low ≤ max first t.oldest → min (first + t.per_page) (t.oldest + t.pages) ≤ high → t.oldest + t.pages < 2 ^ 32 →
        ((number : ℕ) → low ≤ number → number < high → IfSome (loaded_full now number) (λ full. full.count ≤ t.most)) → index_check t k ≡ None
    counts-fine low high from to few fine = rw (good-committed, fits) (counts-none t k one 0 t.per_page (omega arith))
      where
        of_some : (o : Option code.Full) (full : Full) → option_map full_view o ≡ Some full → IfSome o (λ full. full.count ≤ t.most) → full.count ≤ t.most
        of_some None full e le = absurd (none-some full e)
        of_some (Some x) full e le = let same : full_view x ≡ full = cc in omega (arith, le, ap (λ (f : Full). f.count) same)

        one : (j : ℕ) → j < t.per_page → count_fault t k j ≡ None
        one j less = count-fine t k j (λ low' high' over.
            let told_is = listed-told (page_first (index_page t k) + j) (omega (arith, begins)) (omega (arith, begins, less)) (omega (arith, high', few)) in
            let le = of_some (loaded_full now (page_first (index_page t k) + j)) (told_at t (page_first (index_page t k) + j) k) told_is (fine (page_first (index_page t k) + j) (omega (arith, begins, low', from)) (omega (arith, begins, less, high', to))) in
            omega (arith, over, le))

    -- so what is loaded is what the entries tell of the data pages between the end before it and its own
    pub good-loaded : (number : ℕ) → k < t.index_pages → end_before t k ≤ number → number < first + t.per_page → number < 2 ^ 32 - 1 → entry t number ≡ option_map full_view (loaded_full now number)
    good-loaded number lt low high few = by_order (cases_lt number first)
      where
        here : entry t number ≡ cond (lists t number k) (Some (told_at t number k)) None
        here = entry-in t number k lt low (omega (arith, high, good-end))

        by_order : (number < first) ⊎ (first ≤ number) → entry t number ≡ option_map full_view (loaded_full now number)
        by_order (inl before) =
            let none : lists t number k ≡ false = and_left _ (nat_lt number (page_first (index_page t k) + t.per_page)) (and_right (is_good t k) (nat_le (page_first (index_page t k)) number) (not_le (nat_le (page_first (index_page t k)) number) refl)) in
            here ∙ (ap (λ b. cond b (Some (told_at t number k)) None) none ∙ sym (ap (λ b. option_map full_view (cond b (found_waiting now (number - first_waiting now)).full None)) (not_waiting (is_waiting now number) refl)))
          where
            not_le : (b : Bool) → nat_le (page_first (index_page t k)) number ≡ b → b ≡ false
            not_le true e = let le = leb-true (page_first (index_page t k)) number e in absurd (omega (arith, le, before, begins))
            not_le false e = refl

            not_waiting : (b : Bool) → is_waiting now number ≡ b → b ≡ false
            not_waiting true e = let le = leb-true (first_waiting now) number (and_parts (nat_le (first_waiting now) number) _ e).0 in absurd (omega (arith, le, before, h.begin))
            not_waiting false e = refl
        by_order (inr behind) =
            let listed : lists t number k ≡ true = rw (good-committed, fits, le-leb (page_first (index_page t k)) number (omega (arith, begins, behind))) (lt-ltb number (page_first (index_page t k) + t.per_page) (omega (arith, begins, high))) in
            here ∙ (ap (λ b. cond b (Some (told_at t number k)) None) listed ∙ sym (listed-told number behind high few))

    -- the first entry of a kept data page that tells too many rows
    pub counts-bad : (low number count : ℕ) → low ≡ max first t.oldest → low ≤ number → number < min (first + t.per_page) (t.oldest + t.pages) → t.oldest + t.pages < 2 ^ 32 → t.most < count → IfSome (loaded_full now number) (λ full. full.count ≡ count) →
        ((before : ℕ) → low ≤ before → before < number → IfSome (loaded_full now before) (λ full. full.count ≤ t.most)) → (index_check t k ≡ Some (BadEntry number count t.most)) × ((told_at t number k).count ≡ count)
    counts-bad low number count low_is from to few over is_count fine = (rw (good-committed, fits) (all 0 t.per_page (omega arith) (omega (arith, low_is, from, begins)) (omega (arith, to, begins))), count_is)
      where
        of_some : (P : ℕ → Type 0) (o : Option code.Full) (full : Full) → option_map full_view o ≡ Some full → IfSome o (λ x. P x.count) → P full.count
        of_some P None full e p = absurd (none-some full e)
        of_some P (Some x) full e p = let same : full_view x ≡ full = cc in subst P (ap (λ (f : Full). f.count) same) p

        count_is : (told_at t number k).count ≡ count
        count_is = of_some (λ c. c ≡ count) (loaded_full now number) (told_at t number k) (listed-told number (omega (arith, low_is, from)) (omega (arith, to)) (omega (arith, to, few))) is_count

        at_number : (j : ℕ) → page_first (index_page t k) + j ≡ number → count_fault t k j ≡ Some (BadEntry number count t.most)
        at_number j e =
            let kept : (nat_le t.oldest number && nat_lt number (t.oldest + t.pages)) && nat_lt t.most (told_at t number k).count ≡ true =
            rw (le-leb t.oldest number (omega (arith, low_is, from)), lt-ltb number (t.oldest + t.pages) (omega (arith, to)), lt-ltb t.most (told_at t number k).count (omega (arith, over, count_is))) refl in
            ap (λ m. cond ((nat_le t.oldest m && nat_lt m (t.oldest + t.pages)) && nat_lt t.most (told_at t m k).count) (Some (BadEntry m (told_at t m k).count t.most)) None) e
            ∙ (ap (λ b. cond b (Some (BadEntry number (told_at t number k).count t.most)) None) kept ∙ ap (λ c. Some (BadEntry number c t.most)) count_is)

        one : (j : ℕ) → page_first (index_page t k) + j < number → count_fault t k j ≡ None
        one j less = count-fine t k j (λ low' high' over'.
            let told_is = listed-told (page_first (index_page t k) + j) (omega (arith, begins)) (omega (arith, less, to)) (omega (arith, less, to, few)) in
            let le = of_some (λ c. c ≤ t.most) (loaded_full now (page_first (index_page t k) + j)) (told_at t (page_first (index_page t k) + j) k) told_is (fine (page_first (index_page t k) + j) (omega (arith, begins, low', low_is)) less) in
            omega (arith, over', le))

        all : (a q : ℕ) → a + q ≤ t.per_page → page_first (index_page t k) + a ≤ number → number < page_first (index_page t k) + a + q → first_some (map (count_fault t k) (numbers_from a q)) ≡ Some (BadEntry number count t.most)
        all a zero le below above' = absurd (omega (arith, below, above'))
        all a (suc q) le below above' = elim (cases_lt (page_first (index_page t k) + a) number) [
          | inl less ↦ ap (λ (o : Option MountFault). first_of o (first_some (map (count_fault t k) (numbers_from (a + 1) q)))) (one a less) ∙ all (a + 1) q (omega (arith, le)) (omega (arith, less)) (omega (arith, above'))
          | inr ge ↦ ap (λ (o : Option MountFault). first_of o (first_some (map (count_fault t k) (numbers_from (a + 1) q)))) (at_number a (omega (arith, ge, below)))
        ]

    -- a data page that it lists has rows where its entry tells some
    pub listed-some : (number : ℕ) → k < t.index_pages → end_before t k ≤ first → first ≤ number → number < first + t.per_page → number < 2 ^ 32 - 1 → 0 < (told_at t number k).count → has_rows t number ≡ true
    listed-some number lt above' low high few some =
        ap (λ (o : Option Full). unwrap_or (option_map (λ (full : Full). nat_lt 0 full.count) o) (is_committed (t.rows number))) (good-loaded number lt (omega (arith, above', low)) high few ∙ listed-told number low high few) ∙ lt-ltb 0 (told_at t number k).count some
