-- The rule on the entries of an index holds where its pages are those of a table's index.
use Rattle.std.proofs.Common.{◌≡◌, ◌⊎◌, inl, inr, ℕ, zero, suc, ◌+◌, ◌<◌, ◌≤◌, Bool, cond, nat_lt, Option, Some, None, IfSome, IsTrue, List, [], ◌∷◌, length, take, refl, sym, ◌∙◌, ap, subst, arith}
use Rattle.std.specs.List.{slice_get, last_or}
use Rattle.std.specs.Option.{option_map, unwrap_or}
use Rattle.std.proofs.lemmas.Bool.{cases_Bool, cases_lt, lt-ltb, ltb-true, ltb-false, or_parts}
use Rattle.std.proofs.lemmas.List.{take_all}
use Rattle.fl_index.specs.Page.{page_first, found_at, full_at}
use Rattle.fl_index.specs.Standing.{HasIndex}
use Rattle.fl_model.proofs.FullPages.{full-append, full-one, full-void, full-below}
use Rattle.fl_index.proofs.Lists.{below-end, firsts-length}
use Rattle.fl_index.specs.declared.page.Found.{Found}
use Rattle.fl_index.proofs.WaitingEntries.{plan_form}
use Rattle.fl_index.proofs.LookupsOfTable.{IsAt}
use Rattle.fl_model.specs.Image.{rows_at}
use Rattle.fl_model.specs.Agrees.{Tells, TellsAt, TellPages, is_told}
use Rattle.fl_model.specs.Layout.{IndexEntry}
use Rattle.fl_model.specs.Mount.{index_end}
use Rattle.fl_model.specs.Record.{Plan, RowLayout, entries_per_page}
use Rattle.fl_model.specs.Ring as model
use Rattle.fl_model.specs.Table.{Table, firsts, full_pages}
use Rattle.fl_model.proofs.Lists.{slice_get-some, last_or-push, take_none, take-next}
use Rattle.fl_ring.specs.Ring.{Shape}
use Rattle.fl_check.specs.Entries.{IndexOver, entries_in, IsEntry, Lists, first_listed, HaveEntries}
use Rattle.fl_rules.specs.Marks.{kept_page}
use Rattle.fl_rules.specs.Tally.{listed_to}
use Rattle.fl_rules.specs.Told.{TellsPage}
use Rattle.fl_rules.specs.declared.numbering.Numbering.{Numbering}
use Rattle.fl_check.proofs.RingReads.{Reads}

-- an index page lists the data pages from its first one on, with entries that tell of them
pub record ListsPages (plan : Plan) (table : Table) (ring : model.Ring) (i : ℕ) (page : List ℕ) : Type 0 where
  pub first : ℕ
  pub entries : List IndexEntry
  pub first_is : page_first page ≡ first
  pub listed : slice_get (firsts table) (full_pages (take i ring.counts)) ≡ Some first
  pub full : length entries ≡ entries_per_page plan
  pub at : (j : ℕ) (entry : IndexEntry) → slice_get entries j ≡ Some entry → IsAt (plan_form plan) page j entry
  pub tell : TellPages plan table first entries

module _ (plan : Plan) (page : ℕ → List ℕ) (x d : Shape) (at_least : ℕ) (table : Table) (ring : model.Ring) (index n : Numbering) (facts : HasIndex plan table ring)
    (reads_x : Reads page x 0 ring index) (per : entries_in x.size (plan_form plan) ≡ entries_per_page plan)
    (listings : (i c : ℕ) → slice_get ring.counts i ≡ Some c → 0 < c → ListsPages plan table ring i (page (kept_page x index.marks i))) where
  -- ---- the end of what is listed

  abbrev ended : List ℕ → ℕ
  ended firsts = unwrap_or (option_map (λ first. first + entries_in x.size (plan_form plan)) (last_or None firsts)) 0

  full-next : (i c : ℕ) → slice_get ring.counts i ≡ Some c → full_pages (take (suc i) ring.counts) ≡ full_pages (take i ring.counts) + full_pages (c ∷ [])
  full-next i c e = ap full_pages (take-next ring.counts i c e) ∙ full-append (take i ring.counts) (c ∷ [])

  listed-at : (i : ℕ) → i ≤ length ring.counts → listed_to (entries_in x.size (plan_form plan)) page x index.marks i ≡ ended (take (full_pages (take i ring.counts)) (firsts table))
  listed-at zero le = sym (ap (λ (l : List ℕ). ended (take (full_pages l) (firsts table))) (take_none ring.counts) ∙ ap ended (take_none (firsts table)))
  listed-at (suc i) le =
      let c = slice_get-some ring.counts i (omega (arith, le)) in
      by_count (listed-at i (omega (arith, le))) c.0 c.1 (cases_lt 0 c.0)
    where
      bytes : List ℕ
      bytes = page (kept_page x index.marks i)

      by_count : listed_to (entries_in x.size (plan_form plan)) page x index.marks i ≡ ended (take (full_pages (take i ring.counts)) (firsts table)) → (c : ℕ) → slice_get ring.counts i ≡ Some c → (0 < c) ⊎ (c ≤ 0)
          → listed_to (entries_in x.size (plan_form plan)) page x index.marks (suc i) ≡ ended (take (full_pages (take (suc i) ring.counts)) (firsts table))
      by_count before_is c e (inl some) =
          let l = listings i c e some in
          let k = full_pages (take i ring.counts) in
          let more : full_pages (take (suc i) ring.counts) ≡ suc (full_pages (take i ring.counts)) = omega (arith, full-next i c e, full-one c some) in
          ap (λ (b : Bool). cond b (page_first bytes + entries_in x.size (plan_form plan)) (listed_to (entries_in x.size (plan_form plan)) page x index.marks i)) (reads_x.committed i c e ∙ lt-ltb 0 c some)
          ∙ ap (λ (m : ℕ). m + entries_in x.size (plan_form plan)) l.first_is
          ∙ sym (ap (λ (m : ℕ). ended (take m (firsts table))) more ∙ ap ended (take-next (firsts table) k l.first l.listed)
          ∙ ap (λ (o : Option ℕ). unwrap_or (option_map (λ first. first + entries_in x.size (plan_form plan)) o) 0) (last_or-push None (take k (firsts table)) l.first))
      by_count before_is c e (inr none) =
          let same : full_pages (take (suc i) ring.counts) ≡ full_pages (take i ring.counts) = omega (arith, full-next i c e, full-void c none) in
          let z : c ≡ 0 = omega (arith, none) in
          ap (λ (b : Bool). cond b (page_first bytes + entries_in x.size (plan_form plan)) (listed_to (entries_in x.size (plan_form plan)) page x index.marks i)) (reads_x.committed i c e ∙ ap (nat_lt 0) z)
          ∙ before_is ∙ ap (λ (m : ℕ). ended (take m (firsts table))) (sym same)

  pub end-is : listed_to (entries_in x.size (plan_form plan)) page x index.marks index.marks.kept ≡ index_end plan table
  end-is =
      ap (listed_to (entries_in x.size (plan_form plan)) page x index.marks) reads_x.kept ∙ listed-at (length ring.counts) (omega arith)
      ∙ ap (λ (l : List ℕ). ended (take (full_pages l) (firsts table))) (take_all (length ring.counts) ring.counts (omega arith))
      ∙ ap ended (take_all (full_pages ring.counts) (firsts table) (omega (arith, facts.index_each, firsts-length table.index_pages)))
      ∙ ap (λ (k : ℕ). unwrap_or (option_map (λ first. first + k) (last_or None (firsts table))) 0) per

  -- ---- the entries

  module _ (reads_d : Reads page d at_least table.rows n) (known : length table.rows.counts ≤ table.rows.next) (begins : at_least ≡ index_end plan table) (layout : RowLayout)
      (told : (m c : ℕ) → slice_get table.rows.counts m ≡ Some c → (bytes : List ℕ) (j : ℕ) (entry : IndexEntry) → IsAt (plan_form plan) bytes j entry → Tells plan (rows_at table m c) entry → TellsPage layout (page (kept_page d n.marks m)) (found_at (plan_form plan) bytes j))
      (untold : (m : ℕ) → slice_get table.rows.counts m ≡ Some 0 → (found : Found) → found.full ≡ None → TellsPage layout (page (kept_page d n.marks m)) found) where
    -- a committed page has a count
    record Counted (counts : List ℕ) (i : ℕ) : Type 0 where
      pub c : ℕ
      pub here : slice_get counts i ≡ Some c
      pub some : 0 < c

    index-count : (i : ℕ) → i < index.marks.kept → Lists page x index.marks i → Counted ring.counts i
    index-count i lt lists =
        let c = slice_get-some ring.counts i (omega (arith, lt, reads_x.kept)) in
        record { c = c.0; here = c.1; some = ltb-true 0 c.0 (sym (reads_x.committed i c.0 c.1) ∙ lists) }

    ascends : (i : ℕ) → i < index.marks.kept → Lists page x index.marks i → (k : ℕ) → k < i → Lists page x index.marks k
        → first_listed page x index.marks k + entries_in x.size (plan_form plan) ≤ first_listed page x index.marks i
    ascends i lt lists k before lists_k =
        let a = index-count k (omega (arith, lt, before)) lists_k in
        let b = index-count i lt lists in
        let p = listings k a.c a.here a.some in
        let q = listings i b.c b.here b.some in
        let up = full-below ring.counts k i a.c before a.here a.some in
        let step = facts.firsts (full_pages (take k ring.counts)) (full_pages (take i ring.counts)) p.first q.first (omega (arith, up)) p.listed q.listed in
        omega (arith, step, per, p.first_is, q.first_is)

    abbrev over : IndexOver
    over = record { form = plan_form plan; layout = layout; index = index.marks; rows = n }

    -- an entry whose page is kept
    kept-entry : (l : List IndexEntry) (bytes : List ℕ) (j m c : ℕ) → ((entry : IndexEntry) → slice_get l j ≡ Some entry → IsAt (plan_form plan) bytes j entry)
        → slice_get table.rows.counts m ≡ Some c → (IsTrue (is_told plan c) → TellsAt plan (rows_at table m c) (slice_get l j)) → TellsPage layout (page (kept_page d n.marks m)) (found_at (plan_form plan) bytes j)
    kept-entry l bytes j m c at here tells = elim (cases_Bool (is_told plan c)) [
      | inl is ↦ by_entry (slice_get l j) refl (tells is)
      | inr none ↦
          let parts = or_parts plan.full_index (nat_lt 0 c) none in
          let void = ltb-false 0 c parts.1 in
          untold m (here ∙ ap (λ (k : ℕ). Some k) (omega (arith, void))) (found_at (plan_form plan) bytes j) (ap (λ (b : Bool). cond b (Some (full_at (plan_form plan) bytes j)) None) parts.0)
    ]
      where
        by_entry : (o : Option IndexEntry) → slice_get l j ≡ o → TellsAt plan (rows_at table m c) o → TellsPage layout (page (kept_page d n.marks m)) (found_at (plan_form plan) bytes j)
        by_entry None e h = absurd h
        by_entry (Some entry) e h = told m c here bytes j entry (at entry e) h

    -- where an index page ends
    end-below : (i : ℕ) → (l : ListsPages plan table ring i (page (kept_page x index.marks i))) → l.first + entries_per_page plan ≤ index_end plan table
    end-below i l = below-end (entries_per_page plan) (firsts table) (full_pages (take i ring.counts)) l.first facts.firsts l.listed

    entry : (i : ℕ) → i < index.marks.kept → Lists page x index.marks i → (j : ℕ) → j < entries_in x.size (plan_form plan) → IsEntry page d over (page (kept_page x index.marks i)) j
    entry i lt lists j few m lt_m at =
        let a = index-count i lt lists in
        let l = listings i a.c a.here a.some in
        let end = end-below i l in
        let c = slice_get-some table.rows.counts m (omega (arith, lt_m, reads_d.kept)) in
        elim reads_d.least [
          | inl same ↦
              let number : l.first + j ≡ model.oldest table.rows + m = omega (arith, at, l.first_is, same, reads_d.kept, lt_m, known) in
              kept-entry l.entries (page (kept_page x index.marks i)) j m c.0 (l.at j) c.1
              (subst (λ (o : Option ℕ). IfSome o (λ count. IsTrue (is_told plan count) → TellsAt plan (rows_at table m count) (slice_get l.entries j))) c.1 (l.tell j m (omega (arith, few, per, l.full)) number))
          | inr behind ↦ absurd (omega (arith, at, l.first_is, few, per, end, begins, behind, reads_d.kept, lt_m))
        ]

    ends : (i : ℕ) → i < index.marks.kept → Lists page x index.marks i → first_listed page x index.marks i + entries_in x.size (plan_form plan) ≤ n.next
    ends i lt lists =
        let a = index-count i lt lists in
        let l = listings i a.c a.here a.some in
        let end = end-below i l in
        elim reads_d.least [
          | inl same ↦ omega (arith, end, per, l.first_is, facts.listed, same)
          | inr behind ↦ omega (arith, end, per, l.first_is, begins, behind)
        ]

    pub have-entries : HaveEntries page x d (record { form = plan_form plan; layout = layout; index = index.marks; rows = n })
    have-entries i lt = record {
      listing = λ lists. record { ascends = ascends i lt lists; entries = entry i lt lists };
      ends = λ lists last. ends i lt lists;
    }
