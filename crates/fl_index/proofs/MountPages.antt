-- The pages that a mount of an index reads, where the flash stands for the index of a table.
use Rattle.std.proofs.Common.{◌≡◌, ◌⊎◌, inl, inr, ℕ, zero, suc, ◌+◌, ◌-◌, ◌^◌, ◌<◌, ◌≤◌, Bool, true, false, cond, ◌==◌, Option, Some, None, List, [], ◌∷◌, length, take, refl, sym, ◌∙◌, ap, subst, arith}
use Rattle.std.proofs.Math.Nat.{div-le_self}
use Rattle.std.proofs.lemmas.Bool.{cases_lt, eqb-true}
use Rattle.std.proofs.lemmas.List.{take_all}
use Rattle.std.specs.List.{slice_get, last_or}
use Rattle.std.specs.Option.{option_map}
use Rattle.std.proofs.lemmas.Option.{none-some}
use Rattle.fl_mark.specs.Mark.{state_of_page}
use Rattle.fl_mark.specs.declared.page_state.PageState.{PageState}
use Rattle.fl_mark.specs.declared.page_state.PageState.TheVariants.{Void}
use Rattle.fl_mark.proofs.InModel.{model_state}
use Rattle.fl_model.specs.Agrees.{TellPages}
use Rattle.fl_model.specs.Layout.{IndexEntry, IndexPage}
use Rattle.fl_model.specs.Mount.{index_end}
use Rattle.fl_model.specs.Record.{Plan, entry_len, entries_per_page}
use Rattle.fl_model.specs.Ring as model
use Rattle.fl_model.specs.Table.{Table, full_pages, firsts}
use Rattle.fl_model.proofs.Lists.{slice_get-some, slice_get-short, last_or-get, each-at, take_none}
use Rattle.fl_index.specs.Finding.{HasEnd, IsEnd}
use Rattle.fl_index.specs.Outcomes.{end_of}
use Rattle.fl_index.specs.Page.{page_first, first_on, first_where, newest_of, newest_where}
use Rattle.fl_index.specs.Standing.{HasIndex, HoldsIndex, bytes_in}
use Rattle.fl_model.proofs.FullPages.{full-one, full-cons}
use Rattle.fl_model.proofs.FullIndex.{first-at}
use Rattle.fl_index.proofs.Lists.{below-end, firsts-length}
use Rattle.fl_index.proofs.LookupsOfTable.{IsIndexPage, index-page}
use Rattle.fl_index.proofs.State.{HaveSize}

module _ (page : ℕ → List ℕ) (first : ℕ) (plan : Plan) (table : Table) (ring : model.Ring) (facts : HasIndex plan table ring) (image : HoldsIndex page first plan table ring) (sizes : HaveSize first plan page) (large : 64 ≤ plan.geometry.page) (few : plan.geometry.page ≤ 4096) where
  abbrev at : ℕ → List ℕ
  at = bytes_in page first plan

  pub void-none : (i : ℕ) → slice_get ring.counts i ≡ Some 0 → state_of_page (bytes_in page first plan (model.oldest ring + i)) ≡ Void
  void-none i e = (model_state (bytes_in page first plan (model.oldest ring + i)) (omega (arith, sizes (model.oldest ring + i), large))).void.1 (image.void i e)

  -- a page with entries
  pub record IsListed (i : ℕ) : Type 0 where
    pub first_page : ℕ
    pub entries : List IndexEntry
    pub is : IsIndexPage plan (model.oldest ring + i) first_page entries (bytes_in page first plan (model.oldest ring + i))
    pub listed : slice_get (firsts table) (full_pages (take i ring.counts)) ≡ Some first_page
    pub small : first_page + entries_per_page plan < 2 ^ 32
    pub before_end : first_page + entries_per_page plan ≤ index_end plan table
    pub many : length entries ≡ entries_per_page plan
    pub tell : TellPages plan table first_page entries

  pub is-listed : (i c : ℕ) → slice_get ring.counts i ≡ Some c → 0 < c → IsListed i
  is-listed i c e some =
      let h = image.kept i c e some in
      let listed = first-at table.index_pages (full_pages (take i ring.counts)) h.holds h.is in
      let end = below-end (entries_per_page plan) (firsts table) (full_pages (take i ring.counts)) h.holds.first facts.firsts listed in
      let many = each-at (λ (p : IndexPage). length p.entries ≡ entries_per_page plan) table.index_pages (full_pages (take i ring.counts)) h.holds facts.index_fit h.is in
      let short = slice_get-short ring.counts i c e in
      record {
        first_page = h.holds.first;
        entries = h.holds.entries;
        is = index-page plan (model.oldest ring + i) h.holds.first h.holds.entries (bytes_in page first plan (model.oldest ring + i)) (omega (arith, short, facts.is_ring.not_negative, facts.number))
            (omega (arith, end, facts.listed, facts.rows_number)) many (omega (arith, div-le_self (plan.geometry.page - 24) (entry_len plan), few)) h.bytes;
        listed = listed;
        small = omega (arith, end, facts.listed, facts.rows_number);
        before_end = end;
        many = many;
        tell = facts.tell (full_pages (take i ring.counts)) h.holds h.is;
      }

  -- the first data page that it lists
  pub first-there : (i c : ℕ) → slice_get ring.counts i ≡ Some c → first_on (bytes_in page first plan (model.oldest ring + i)) ≡ cond (c == 0) None (slice_get (firsts table) (full_pages (take i ring.counts)))
  first-there i c e = by_count (c == 0) refl (cases_lt 0 c)
    where
      by_count : (b : Bool) → (c == 0) ≡ b → (0 < c) ⊎ (c ≤ 0) → first_on (bytes_in page first plan (model.oldest ring + i)) ≡ cond b None (slice_get (firsts table) (full_pages (take i ring.counts)))
      by_count true k h =
          let z = eqb-true c 0 k in
          ap (λ (s : PageState). first_where s (page_first (bytes_in page first plan (model.oldest ring + i)))) (void-none i (e ∙ ap (λ (n : ℕ). Some n) z))
      by_count false k (inl some) =
          let l = is-listed i c e some in
          ap (λ (s : PageState). first_where s (page_first (bytes_in page first plan (model.oldest ring + i)))) l.is.committed_is ∙ (ap (λ (n : ℕ). Some n) l.is.first_is ∙ sym l.listed)
      by_count false k (inr none) = absurd (no (sym k ∙ ap (λ n. n == 0) (let z : c ≡ 0 = omega (arith, none) in z)))
        where
          no : ◌≡◌ {A = Bool} false true → ⊥
          no h = cc

  -- the newest committed page of the first n
  abbrev Newest : ℕ → Option ℕ → Type 0
  Newest n None = full_pages (take n ring.counts) ≡ 0
  Newest n (Some number) = (i : ℕ) × (c : ℕ) × (number ≡ model.oldest ring + i) × (slice_get ring.counts i ≡ Some c) × (0 < c) × (full_pages (take n ring.counts) ≡ full_pages (take i ring.counts) + 1)

  take-more : (counts : List ℕ) (n c : ℕ) → slice_get counts n ≡ Some c → full_pages (take (suc n) counts) ≡ full_pages (take n counts) + full_pages (c ∷ [])
  take-more [] n c e = absurd (none-some c e)
  take-more (x ∷ xs) zero c e = let same : x ≡ c = cc in ap (λ k. full_pages (k ∷ take 0 xs)) same ∙ (ap (λ (ys : List ℕ). full_pages (c ∷ ys)) (take_none xs) ∙ omega arith)
  take-more (x ∷ xs) (suc n) c e =
      omega (arith, full-cons x (take (suc n) xs), full-cons x (take n xs), take-more xs n c e)

  pub newest-there : (n : ℕ) → n ≤ length ring.counts → Newest n (newest_of (bytes_in page first plan) (model.oldest ring) n)
  newest-there zero h = nothing ring.counts
    where
      nothing : (xs : List ℕ) → full_pages (take 0 xs) ≡ 0
      nothing [] = refl
      nothing (x ∷ xs) = refl
  newest-there (suc n) h =
      let c = slice_get-some ring.counts n (omega (arith, h)) in
      by_count c.0 c.1 (cases_lt 0 c.0) (newest-there n (omega (arith, h)))
    where
      older : full_pages (take (suc n) ring.counts) ≡ full_pages (take n ring.counts) → (o : Option ℕ) → Newest n o → Newest (suc n) o
      older same None h = same ∙ h
      older same (Some number) h = (h.0, h.1, h.2, h.3, h.4, same ∙ h.5)

      by_count : (c : ℕ) → slice_get ring.counts n ≡ Some c → (0 < c) ⊎ (c ≤ 0) → Newest n (newest_of (bytes_in page first plan) (model.oldest ring) n) → Newest (suc n) (newest_of (bytes_in page first plan) (model.oldest ring) (suc n))
      by_count c e (inl some) before =
          let l = is-listed n c e some in
          subst (λ (s : PageState). Newest (suc n) (newest_where s (model.oldest ring + n) (newest_of (bytes_in page first plan) (model.oldest ring) n))) (sym l.is.committed_is)
          (n, c, refl, e, some, take-more ring.counts n c e ∙ ap (λ k. full_pages (take n ring.counts) + k) (full-one c some))
      by_count c e (inr none) before =
          let z : c ≡ 0 = omega (arith, none) in
          subst (λ (s : PageState). Newest (suc n) (newest_where s (model.oldest ring + n) (newest_of (bytes_in page first plan) (model.oldest ring) n))) (sym (void-none n (e ∙ ap (λ (k : ℕ). Some k) z)))
          (older (take-more ring.counts n c e ∙ (ap (λ k. full_pages (take n ring.counts) + full_pages (k ∷ [])) z ∙ omega arith)) (newest_of (bytes_in page first plan) (model.oldest ring) n) before)

  all-full : full_pages (take (length ring.counts) ring.counts) ≡ full_pages ring.counts
  all-full = ap full_pages (take_all (length ring.counts) ring.counts (omega arith))

  -- the end of the index
  pub record IsNewestEnd (newest : Option ℕ) : Type 0 where
    pub fits : (number : ℕ) → newest ≡ Some number → HasEnd (entries_per_page plan) (bytes_in page first plan number)
    pub end : (x : Option ℕ) → IsEnd (entries_per_page plan) (bytes_in page first plan) newest x → x ≡ end_of plan table

  pub newest-end : IsNewestEnd (newest_of (bytes_in page first plan) (model.oldest ring) (length ring.counts))
  newest-end = by_newest (newest_of (bytes_in page first plan) (model.oldest ring) (length ring.counts)) (newest-there (length ring.counts) (omega arith))
    where
      by_newest : (o : Option ℕ) → Newest (length ring.counts) o → IsNewestEnd o
      by_newest None h = record { fits = λ number e. absurd (none-some number e); end = λ x e. e ∙ sym (ap (option_map (λ page. page + entries_per_page plan)) (empty (firsts table) (omega (arith, firsts-length table.index_pages, facts.index_each, all-full, h)))) }
        where
          empty : (firsts : List ℕ) → length firsts ≡ 0 → last_or None firsts ≡ None
          empty [] h = refl
          empty (x ∷ xs) h = absurd (omega (arith, h))
      by_newest (Some number) h =
          let l = is-listed h.0 h.1 h.3 h.4 in
          let last : last_or None (firsts table) ≡ Some l.first_page = last_at (firsts table) (full_pages (take h.0 ring.counts)) l.first_page l.listed (omega (arith, firsts-length table.index_pages, facts.index_each, all-full, h.5)) in
          let here : bytes_in page first plan number ≡ bytes_in page first plan (model.oldest ring + h.0) = ap (bytes_in page first plan) h.2 in
          record {
            fits = λ n e. subst (λ k. HasEnd (entries_per_page plan) (bytes_in page first plan k)) (sym (sym (same n e) ∙ h.2)) (record { full = l.is.good.full; fits = ap_small l.first_page l.small l.is.first_is });
            end = λ x e. e.1 ∙ (ap (λ (p : List ℕ). Some (page_first p + entries_per_page plan)) here ∙ (ap (λ (k : ℕ). Some (k + entries_per_page plan)) l.is.first_is ∙ sym (ap (option_map (λ page. page + entries_per_page plan)) last)));
          }
        where
          same : (n : ℕ) → ◌≡◌ {A = Option ℕ} (Some number) (Some n) → number ≡ n
          same n e = cc

          ap_small : (x : ℕ) → x + entries_per_page plan < 2 ^ 32 → page_first (bytes_in page first plan (model.oldest ring + h.0)) ≡ x → page_first (bytes_in page first plan (model.oldest ring + h.0)) + entries_per_page plan < 2 ^ 32
          ap_small x lt e = omega (arith, lt, e)

          last_at : (firsts : List ℕ) (k x : ℕ) → slice_get firsts k ≡ Some x → length firsts ≡ k + 1 → last_or None firsts ≡ Some x
          last_at [] k x e n = absurd (omega (arith, n))
          last_at (y ∷ ys) k x e n = last_or-get None y ys ∙ (ap (slice_get (y ∷ ys)) (let s : length ys ≡ k = omega (arith, n) in s) ∙ e)
