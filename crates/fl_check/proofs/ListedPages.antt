-- The kept index pages so far: what they list, and the end of the newest one.
use Rattle.std.proofs.Common.{◌≡◌, ℕ, List, ◌+◌, ◌-◌, ◌<◌, ◌≤◌, inl, inr, sym, ap, subst, arith}
use Rattle.std.proofs.lemmas.Bool.{cases_eq}
use Rattle.fl_index.specs.Page.{page_first, found_at}
use Rattle.fl_ring.specs.Newest.{page_back}
use Rattle.fl_ring.specs.Ring.{Shape}
use Rattle.fl_rules.specs.Claims.{AllBelow, FailsFirst}
use Rattle.fl_check.specs.Entries.{IndexOver, entries_in, IsEntry, Lists, first_listed, IsListing, AreSeen, HasEntries, HaveEntries}
use Rattle.fl_rules.specs.Marks.{kept_page}
use Rattle.fl_rules.specs.Told.{TellsPage}
use Rattle.fl_check.specs.declared.rule_6_entry.Seen.{Seen}
use Rattle.fl_rules.specs.declared.numbering.Numbering.{Numbering}

-- one entry, by how many pages before the next one its data page stands
module _ (page : ℕ → List ℕ) (rows : Shape) (l : IndexOver) (listing : List ℕ) (j : ℕ) where
  abbrev n : Numbering
  n = l.rows

  abbrev TellsBack : ℕ → Type 0
  TellsBack back = TellsPage l.layout (page (page_back rows l.rows.marks.at back)) (found_at l.form listing j)

  pub entry_for : (back : ℕ) → page_first listing + j + back ≡ l.rows.next → TellsPage l.layout (page (page_back rows l.rows.marks.at back)) (found_at l.form listing j) → IsEntry page rows l listing j
  entry_for back e has i lt is =
      let same : back ≡ n.marks.kept - i = omega (arith, e, is) in
      subst TellsBack same has

  pub told_for : (back : ℕ) → 1 ≤ back → back ≤ l.rows.marks.kept → page_first listing + j + back ≡ l.rows.next → IsEntry page rows l listing j → TellsPage l.layout (page (page_back rows l.rows.marks.at back)) (found_at l.form listing j)
  told_for back some few e is =
      let same : n.marks.kept - (n.marks.kept - back) ≡ back = omega (arith, few) in
      subst TellsBack same (is (n.marks.kept - back) (omega (arith, some, few)) (omega (arith, e, few)))

  pub no_entry : ((back : ℕ) → 1 ≤ back → back ≤ l.rows.marks.kept → page_first listing + j + back ≡ l.rows.next → ⊥) → IsEntry page rows l listing j
  no_entry none i lt is = absurd (none (n.marks.kept - i) (omega (arith, lt)) (omega arith) is)

module _ (page : ℕ → List ℕ) (index rows : Shape) (l : IndexOver) where
  pub none_seen : (s : Seen) → s.end ≡ 0 → AreSeen page index rows l 0 s
  none_seen s e = record {
    listings = λ k lt. absurd (omega (arith, lt));
    below = λ k lt. absurd (omega (arith, lt));
    newest = λ some. absurd (omega (arith, some, e));
    after = λ k low lt. absurd (omega (arith, lt));
  }

  module _ (i : ℕ) (s : Seen) (seen : AreSeen page index rows l i s) where
    pub one_more : (Lists page index l.index i → ⊥) → AreSeen page index rows l (i + 1) s
    one_more none = record {
      listings = λ k lt lists. elim (cases_eq k i) [
        | inl same ↦ absurd (none (subst (Lists page index l.index) same lists))
        | inr other ↦ seen.listings k (omega (arith, lt, other)) lists
      ];
      below = λ k lt lists. elim (cases_eq k i) [
        | inl same ↦ absurd (none (subst (Lists page index l.index) same lists))
        | inr other ↦ seen.below k (omega (arith, lt, other)) lists
      ];
      newest = λ some. let was = seen.newest some in (omega (arith, was.0), was.1, was.2);
      after = λ k low lt lists. elim (cases_eq k i) [
        | inl same ↦ none (subst (Lists page index l.index) same lists)
        | inr other ↦ seen.after k low (omega (arith, lt, other)) lists
      ];
    }

    -- the page after them is committed
    module _ (lists : Lists page index l.index i) where
      pub listing_more : (new : Seen) → new.last ≡ i → new.end ≡ first_listed page index l.index i + entries_in index.size l.form → s.end ≤ first_listed page index l.index i → AllBelow (IsEntry page rows l (page (kept_page index l.index i))) (entries_in index.size l.form)
          → AreSeen page index rows l (i + 1) new
      listing_more new last_is end_is up entries = record {
        listings = λ k lt lists_k. elim (cases_eq k i) [
          | inl same ↦ subst (IsListing page index rows l) (sym same) here
          | inr other ↦ seen.listings k (omega (arith, lt, other)) lists_k
        ];
        below = λ k lt lists_k. elim (cases_eq k i) [
          | inl same ↦ let e = ap (first_listed page index l.index) same in omega (arith, e, end_is)
          | inr other ↦ let was = seen.below k (omega (arith, lt, other)) lists_k in omega (arith, was, up, end_is)
        ];
        newest = λ some. (omega (arith, last_is), subst (Lists page index l.index) (sym last_is) lists, let e = ap (first_listed page index l.index) last_is in omega (arith, e, end_is));
        after = λ k low lt lists_k. absurd (omega (arith, low, lt, last_is));
      }
        where
          here : IsListing page index rows l i
          here = record { ascends = λ k lt lists_k. let was = seen.below k lt lists_k in omega (arith, was, up); entries = entries }

      -- those before it keep the rule, as it is newer
      before : i < l.index.kept → AllBelow (HasEntries page index rows l) i
      before within k lt = record { listing = seen.listings k lt; ends = λ lists_k last_is. absurd (last_is i lt within lists) }

      pub descends : i < l.index.kept → first_listed page index l.index i < s.end → FailsFirst (HasEntries page index rows l) l.index.kept i
      descends within low = record {
        within = within;
        before = before within;
        here = λ has.
            let was = seen.newest (omega (arith, low)) in
            let up = (has.listing lists).ascends s.last was.0 was.1 in
            omega (arith, up, was.2, low);
      }

      pub misentered : i < l.index.kept → (AllBelow (IsEntry page rows l (page (kept_page index l.index i))) (entries_in index.size l.form) → ⊥)
          → FailsFirst (HasEntries page index rows l) l.index.kept i
      misentered within none = record { within = within; before = before within; here = λ has. none (has.listing lists).entries }

  -- all of them
  module _ (s : Seen) (seen : AreSeen page index rows l l.index.kept s) where
    pub all_entered : s.end ≤ l.rows.next → HaveEntries page index rows l
    all_entered few k lt = record { listing = seen.listings k lt; ends = λ lists last_is. let was = seen.below k lt lists in omega (arith, was, few) }

    pub overrun : l.rows.next < s.end → FailsFirst (HasEntries page index rows l) l.index.kept s.last
    overrun high =
        let was = seen.newest (omega (arith, high)) in
        record {
          within = was.0;
          before = λ k lt. record { listing = seen.listings k (omega (arith, lt, was.0)); ends = λ lists last_is. absurd (last_is s.last lt was.0 was.1) };
          here = λ has. let most = has.ends was.1 seen.after in omega (arith, most, was.2, high);
        }

-- the entries of the same bytes on the same flash
pub entries_move : (page page' : ℕ → List ℕ) (rows : Shape) (l : IndexOver) (bytes bytes' : List ℕ) (many many' : ℕ) → page' ≡ page → bytes ≡ bytes' → many ≡ many'
    → AllBelow (IsEntry page' rows l bytes) many → AllBelow (IsEntry page rows l bytes') many'
entries_move page page' rows l bytes bytes' many many' same here few all =
    subst (λ (k : ℕ). AllBelow (IsEntry page rows l bytes') k) few
    (subst (λ (b : List ℕ). AllBelow (IsEntry page rows l b) many) here
    (subst (λ (p : ℕ → List ℕ). AllBelow (IsEntry p rows l bytes) many) same all))
