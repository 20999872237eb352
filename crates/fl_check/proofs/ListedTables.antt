-- The index of a sound table tells of its data pages in the model's words, since the rule on entries holds.
use Rattle.std.proofs.Common.{◌≡◌, ◌⊎◌, inl, inr, ℕ, zero, suc, ◌+◌, ◌-◌, ◌^◌, ◌<◌, ◌≤◌, Bool, true, false, cond, ◌||◌, ◌==◌, nat_lt, IsTrue, Option, Some, None, IfSome, List, [], ◌∷◌, length, map, take, drop, refl, sym, ◌∙◌, ap, subst, arith}
use Rattle.std.specs.List.{slice_get, sum, last_or, AllByRecursion}
use Rattle.std.specs.Option.{option_map, unwrap_or}
use Rattle.std.proofs.Math.Nat.{mod-eq_of_lt}
use Rattle.std.proofs.lemmas.Bool.{cases_lt, cases_eq, cond-true, cond-false, lt-ltb, ltb-true, true≢false, false_from_ne_true}
use Rattle.std.proofs.lemmas.Option.{same_Some}
use Rattle.fl_base.proofs.Tests.{zero_either}
use Rattle.fl_mark.specs.Mark.{state_of_page}
use Rattle.fl_index.specs.Page.{page_first, bitmap_at, full_at, found_at, full_view}
use Rattle.fl_index.specs.declared.page.Full as code
use Rattle.fl_index.proofs.Lists.{firsts-length}
use Rattle.fl_index.proofs.LookupsOfTable.{IsAt, IsIndexPage, index-page}
use Rattle.fl_index.proofs.WaitingEntries.{plan_form}
use Rattle.fl_model.specs.Agrees.{Tells, TellsAt, TellPages, is_told}
use Rattle.fl_model.specs.Image.{HoldsPage, rows_at}
use Rattle.fl_model.specs.Layout.{IndexEntry, IndexPage, bitmap_of, full_of, index_body, committed}
use Rattle.fl_model.specs.Mount.{index_end}
use Rattle.fl_model.specs.Record.{Plan, RowLayout, entries_per_page}
use Rattle.fl_model.specs.Ring as model
use Rattle.fl_model.specs.Row.{stored_row}
use Rattle.fl_model.specs.Table.{Table, Entry, firsts, full_pages}
use Rattle.fl_model.proofs.FullPages.{full-page, full-below, full-within}
use Rattle.fl_model.proofs.Lists.{slice_get-some, slice_get-short, last_or-get, each-at, take_none}
use Rattle.fl_model.proofs.FullIndex.{first-at}
use Rattle.fl_page.specs.Header.{page_number, page_bitmap}
use Rattle.fl_page.specs.Page.{rows_in, IsGoodPage}
use Rattle.fl_ring.specs.Newest.{commits}
use Rattle.fl_ring.specs.Ring.{Shape, place}
use Rattle.fl_check.specs.Entries.{entries_in, Lists, first_listed, HaveEntries}
use Rattle.fl_rules.specs.Marks.{kept_page}
use Rattle.fl_rules.specs.Tally.{listed_after, listed_to}
use Rattle.fl_rules.specs.Told.{full_in, TellsPage}
use Rattle.fl_rules.specs.declared.marks.Marks.{Marks}
use Rattle.fl_rules.specs.declared.numbering.Numbering.{Numbering}
use Rattle.fl_check.proofs.FullEntries.{full-stored}
use Rattle.fl_check.proofs.RingReads.{Follows}
use Rattle.fl_check.proofs.TrimmedEntries.{IsTrimmed, IsListed}

-- the end of what is listed is that of the last one
end-within : (room next : ℕ) (firsts : List ℕ) → ((k first : ℕ) → slice_get firsts k ≡ Some first → k + 1 ≡ length firsts → first + room ≤ next) → unwrap_or (option_map (λ page. page + room) (last_or None firsts)) 0 ≤ next
end-within room next [] last = omega arith
end-within room next (first ∷ firsts) last =
    let there = slice_get-some (first ∷ firsts) (length firsts) (omega arith) in
    let is : unwrap_or (option_map (λ page. page + room) (last_or None (first ∷ firsts))) 0 ≡ there.0 + room = ap (λ (o : Option ℕ). unwrap_or (option_map (λ page. page + room) o) 0) (last_or-get None first firsts ∙ there.1) in
    let within = last (length firsts) there.0 there.1 (omega arith) in
    omega (arith, is, within)

-- the end of what the newest committed page lists
module _ (per_page : ℕ) (page : ℕ → List ℕ) (x : Shape) (m : Marks) (i : ℕ) (lists : Lists page x m i) where
  pub listed-to-last : (k : ℕ) → i < k → ((j : ℕ) → i < j → j < k → Lists page x m j → ⊥) → listed_to per_page page x m k ≡ first_listed page x m i + per_page
  listed-to-last zero lt alone = absurd (omega (arith, lt))
  listed-to-last (suc k) lt alone = elim (cases_eq i k) [
    | inl same ↦
        ap (λ (j : ℕ). listed_after per_page (page (kept_page x m j)) (listed_to per_page page x m k)) (sym same)
        ∙ cond-true (commits (state_of_page (page (kept_page x m i)))) (page_first (page (kept_page x m i)) + per_page) (listed_to per_page page x m k) lists
    | inr apart ↦
        cond-false (commits (state_of_page (page (kept_page x m k)))) (page_first (page (kept_page x m k)) + per_page) (listed_to per_page page x m k)
        (false_from_ne_true (commits (state_of_page (page (kept_page x m k)))) (alone k (omega (arith, lt, apart)) (omega arith)))
        ∙ listed-to-last k (omega (arith, lt, apart)) (λ j more less. alone j more (omega (arith, less)))
  ]

-- what the index of a table tells, and the number after what it lists at most
pub record IndexTells (plan : Plan) (table : Table) (end : ℕ) : Type 0 where
  pub firsts : (i j a b : ℕ) → i < j → slice_get (firsts table) i ≡ Some a → slice_get (firsts table) j ≡ Some b → a + entries_per_page plan ≤ b
  pub listed : index_end plan table ≤ table.rows.next
  pub ends : index_end plan table ≤ end
  pub tell : (k : ℕ) (page : IndexPage) → slice_get table.index_pages k ≡ Some page → TellPages plan table page.first page.entries

-- .. nothing, where it has no pages
pub tells-none : (plan : Plan) (table : Table) (end : ℕ) → length table.index_pages ≡ 0 → IndexTells plan table end
tells-none plan table end none = record {
  firsts = λ i j a b lt at then. absurd (no-first i a at);
  listed = end-within (entries_per_page plan) table.rows.next (firsts table) (λ k first at last. absurd (no-first k first at));
  ends = end-within (entries_per_page plan) end (firsts table) (λ k first at last. absurd (no-first k first at));
  tell = λ k page at. absurd (let short = slice_get-short table.index_pages k page at in let never : ⊥ = omega (arith, short, none) in never);
}
  where
    no-first : (k first : ℕ) → slice_get (firsts table) k ≡ Some first → ⊥
    no-first k first at = let short = slice_get-short (firsts table) k first at in let many = firsts-length table.index_pages in omega (arith, short, many, none)

-- what the data pages of a table have
pub record HasData (plan : Plan) (page : ℕ → List ℕ) (d : Shape) (layout : RowLayout) (table : Table) (rows : Numbering) : Type 0 where
  pub headers : (i c : ℕ) → slice_get table.rows.counts i ≡ Some c → 0 < c → page_bitmap (page (kept_page d rows.marks i)) ≡ bitmap_of plan (rows_at table i c)
  pub rows_told : (i c : ℕ) → slice_get table.rows.counts i ≡ Some c → 0 < c → rows_in layout (page (kept_page d rows.marks i)) ≡ map stored_row (rows_at table i c)

module _ (plan : Plan) (page : ℕ → List ℕ) (x d : Shape) (least : ℕ) (layout : RowLayout) (table : Table) (ring : model.Ring) (index rows : Numbering)
    (of_index : Follows page x 0 ring index) (of_rows : Follows page d least table.rows rows) (per : entries_in x.size (plan_form plan) ≡ entries_per_page plan) (few : entries_per_page plan < 2 ^ 16)
    (many : length table.index_pages ≡ full_pages ring.counts) (fit : AllByRecursion (IsListed plan) table.index_pages)
    (held : (i c : ℕ) → slice_get ring.counts i ≡ Some c → 0 < c → HoldsPage table.index_pages (λ number listed. index_body plan number listed.first listed.entries) ring i c (page (place x (model.oldest ring + i))))
    (data_has : HasData plan page d layout table rows) (rule : HaveEntries page x d (record { form = plan_form plan; layout = layout; index = index.marks; rows = rows })) where
  -- ---- the pages of the index

  -- the k-th page of the index that isn't void
  record IsPage (k : ℕ) (listed : IndexPage) : Type 0 where
    i : ℕ
    c : ℕ
    here : slice_get ring.counts i ≡ Some c
    some : 0 < c
    before : full_pages (take i ring.counts) ≡ k
    fits : IsListed plan listed
    shows : IsIndexPage plan (model.oldest ring + i) listed.first listed.entries (page (kept_page x index.marks i))

  page-of : (k : ℕ) (listed : IndexPage) → slice_get table.index_pages k ≡ Some listed → IsPage k listed
  page-of k listed is =
      let short = slice_get-short table.index_pages k listed is in
      let f = full-page ring.counts k (omega (arith, short, many)) in
      let lt = slice_get-short ring.counts f.i f.c f.here in
      let h = held f.i f.c f.here f.some in
      let same : h.holds ≡ listed = same_Some _ _ (sym h.is ∙ ap (slice_get table.index_pages) f.before ∙ is) in
      let fits = each-at (IsListed plan) table.index_pages k listed fit is in
      let small : model.oldest ring + f.i < 2 ^ 32 = omega (arith, lt, of_index.known, of_index.small) in
      let bytes : page (kept_page x index.marks f.i) ≡ committed (index_body plan (model.oldest ring + f.i) listed.first listed.entries) =
      of_index.reads.at f.i lt ∙ h.bytes ∙ ap (λ (p : IndexPage). committed (index_body plan (model.oldest ring + f.i) p.first p.entries)) same in
      record {
        i = f.i;
        c = f.c;
        here = f.here;
        some = f.some;
        before = f.before;
        fits = fits;
        shows = index-page plan (model.oldest ring + f.i) listed.first listed.entries (page (kept_page x index.marks f.i)) small fits.small fits.many few bytes;
      }

  module _ (k : ℕ) (listed : IndexPage) (p : IsPage k listed) where
    kept : p.i < index.marks.kept
    kept = let short = slice_get-short ring.counts p.i p.c p.here in let same = of_index.reads.kept in omega (arith, short, same)

    lists : Lists page x index.marks p.i
    lists = of_index.reads.committed p.i p.c p.here ∙ lt-ltb 0 p.c p.some

    first-is : first_listed page x index.marks p.i ≡ listed.first
    first-is = p.shows.first_is

  -- a committed page of the index has a place among them
  listed-before : (i : ℕ) → i < index.marks.kept → Lists page x index.marks i → full_pages (take i ring.counts) < length table.index_pages
  listed-before i lt lists =
      let kept = of_index.reads.kept in
      let c = slice_get-some ring.counts i (omega (arith, lt, kept)) in
      let some = ltb-true 0 c.0 (sym (of_index.reads.committed i c.0 c.1) ∙ lists) in
      let within = full-within ring.counts i c.0 (omega (arith, lt, kept)) c.1 some in
      omega (arith, within, many)

  -- those of earlier pages come before those of later ones
  in-order : (k m : ℕ) (a b : IndexPage) (p : IsPage k a) (q : IsPage m b) → k < m → p.i < q.i
  in-order k m a b p q lt = elim (cases_lt p.i q.i) [
    | inl less ↦ less
    | inr le ↦ absurd (by_place (cases_lt q.i p.i) le)
  ]
    where
      by_place : (q.i < p.i) ⊎ (p.i ≤ q.i) → q.i ≤ p.i → ⊥
      by_place (inl less) le = let up = full-below ring.counts q.i p.i q.c less q.here q.some in omega (arith, up, p.before, q.before, lt)
      by_place (inr more) le =
          let same : p.i ≡ q.i = omega (arith, more, le) in
          let fronts : full_pages (take p.i ring.counts) ≡ full_pages (take q.i ring.counts) = ap (λ (n : ℕ). full_pages (take n ring.counts)) same in
          omega (arith, fronts, p.before, q.before, lt)

  -- the k-th page of the index by its first data page
  record HasFirst (k first : ℕ) : Type 0 where
    listed : IndexPage
    here : slice_get table.index_pages k ≡ Some listed
    is : listed.first ≡ first

  first-of : (k first : ℕ) → slice_get (firsts table) k ≡ Some first → HasFirst k first
  first-of k first is =
      let short = slice_get-short (firsts table) k first is in
      let there = slice_get-some table.index_pages k (omega (arith, short, firsts-length table.index_pages)) in
      record { listed = there.0; here = there.1; is = same_Some _ _ (sym (first-at table.index_pages k there.0 there.1) ∙ is) }

  firsts-rise : (i j a b : ℕ) → i < j → slice_get (firsts table) i ≡ Some a → slice_get (firsts table) j ≡ Some b → a + entries_per_page plan ≤ b
  firsts-rise i j a b lt at then =
      let f = first-of i a at in
      let g = first-of j b then in
      let p = page-of i f.listed f.here in
      let q = page-of j g.listed g.here in
      let step : first_listed page x index.marks p.i + entries_in x.size (plan_form plan) ≤ first_listed page x index.marks q.i =
      ((rule q.i (kept j g.listed q)).listing (lists j g.listed q)).ascends p.i (in-order i j f.listed g.listed p q lt) (lists i f.listed p) in
      omega (arith, step, per, first-is i f.listed p, first-is j g.listed q, f.is, g.is)

  -- none comes behind the last one
  last-alone : (k : ℕ) (listed : IndexPage) (p : IsPage k listed) → k + 1 ≡ length (firsts table) → (j : ℕ) → p.i < j → j < index.marks.kept → Lists page x index.marks j → ⊥
  last-alone k listed p last j more lt later =
      let all = firsts-length table.index_pages in
      let up = full-below ring.counts p.i j p.c more p.here p.some in
      let low = listed-before j lt later in
      omega (arith, up, low, p.before, last, all)

  end-is-within : index_end plan table ≤ table.rows.next
  end-is-within = end-within (entries_per_page plan) table.rows.next (firsts table) (λ k first is last.
      let f = first-of k first is in
      let p = page-of k f.listed f.here in
      let end : first_listed page x index.marks p.i + entries_in x.size (plan_form plan) ≤ rows.next = (rule p.i (kept k f.listed p)).ends (lists k f.listed p) (last-alone k f.listed p last) in
      omega (arith, end, per, first-is k f.listed p, f.is, of_rows.next))

  end-is-told : index_end plan table ≤ listed_to (entries_in x.size (plan_form plan)) page x index.marks index.marks.kept
  end-is-told = end-within (entries_per_page plan) (listed_to (entries_in x.size (plan_form plan)) page x index.marks index.marks.kept) (firsts table) (λ k first is last.
      let f = first-of k first is in
      let p = page-of k f.listed f.here in
      let told = listed-to-last (entries_in x.size (plan_form plan)) page x index.marks p.i (lists k f.listed p) index.marks.kept (kept k f.listed p) (last-alone k f.listed p last) in
      omega (arith, told, per, first-is k f.listed p, f.is))

  -- ---- their entries

  or-left : (a b : Bool) → (a || b) ≡ true → b ≡ false → a ≡ true
  or-left true b either not = refl
  or-left false b either not = absurd (true≢false (sym either ∙ not))

  -- an entry that was read, and tells of the i-th kept data page
  module _ (i c : ℕ) (here : slice_get table.rows.counts i ≡ Some c) (bytes : List ℕ) (j : ℕ) (entry : IndexEntry) (is_at : IsAt (plan_form plan) bytes j entry) (fits : IsTrimmed plan entry)
      (tells : TellsPage layout (page (kept_page d rows.marks i)) (found_at (plan_form plan) bytes j)) where
    bitmap-is : bitmap_at (plan_form plan) bytes j ≡ entry.bitmap
    bitmap-is = is_at.bitmap ∙ mod-eq_of_lt fits.bitmap

    full-is : plan.full_index ≡ true → full_view (full_at (plan_form plan) bytes j) ≡ entry.full
    full-is full = ap full_view (is_at.full full) ∙ fits.full

    full-told : (P : code.Full → Type 0) → plan.full_index ≡ true → IfSome (cond plan.full_index (Some (full_at (plan_form plan) bytes j)) None) P → P (full_at (plan_form plan) bytes j)
    full-told P full told = subst (λ (b : Bool). IfSome (cond b (Some (full_at (plan_form plan) bytes j)) None) P) full told

    of-rows : 0 < c → Tells plan (rows_at table i c) entry
    of-rows some =
        let told = tells.rows (of_rows.reads.committed i c here ∙ lt-ltb 0 c some) in
        record {
          bitmap = sym bitmap-is ∙ told.bitmap ∙ data_has.headers i c here some;
          full = λ full.
              sym (full-is full)
              ∙ (full-told (λ (f : code.Full). IsGoodPage layout (page_number (page (kept_page d rows.marks i))) (page (kept_page d rows.marks i)) × (full_view f ≡ full_in (rows_in layout (page (kept_page d rows.marks i))))) full told.full).1
              ∙ ap full_in (data_has.rows_told i c here some) ∙ full-stored (rows_at table i c);
        }

    of-void : c ≤ 0 → IsTrue (is_told plan c) → Tells plan (rows_at table i c) entry
    of-void none is =
        let zero_is : c ≡ 0 = omega (arith, none) in
        let full : plan.full_index ≡ true = or-left plan.full_index (nat_lt 0 c) is (ap (nat_lt 0) zero_is) in
        let void = full-told (λ (f : code.Full). (bitmap_at (plan_form plan) bytes j ≡ 0) × (full_view f ≡ full_of [])) full (tells.void (of_rows.reads.committed i c here ∙ ap (nat_lt 0) zero_is)) in
        let rows_are : rows_at table i c ≡ [] = ap (λ (n : ℕ). take n (drop (sum (take i table.rows.counts)) table.entries)) zero_is ∙ take_none (drop (sum (take i table.rows.counts)) table.entries) in
        subst (λ (es : List Entry). Tells plan es entry) (sym rows_are) (record { bitmap = sym bitmap-is ∙ void.0 ∙ sym (zero_either (plan.bits == 0)); full = λ f. sym (full-is f) ∙ void.1 })

    tells-of : IsTrue (is_told plan c) → Tells plan (rows_at table i c) entry
    tells-of is = elim (cases_lt 0 c) [
      | inl some ↦ of-rows some
      | inr none ↦ of-void none is
    ]

  tell-pages : (k : ℕ) (listed : IndexPage) → slice_get table.index_pages k ≡ Some listed → TellPages plan table listed.first listed.entries
  tell-pages k listed is j n lt at = by_count (slice_get table.rows.counts n) refl
    where
      p : IsPage k listed
      p = page-of k listed is

      by_count : (o : Option ℕ) → slice_get table.rows.counts n ≡ o → IfSome o (λ count. IsTrue (is_told plan count) → TellsAt plan (rows_at table n count) (slice_get listed.entries j))
      by_count None e = tt
      by_count (Some c) e = λ told.
          let short = slice_get-short table.rows.counts n c e in
          let same = of_rows.reads.kept in
          let entry = slice_get-some listed.entries j lt in
          let fits = p.fits in
          let first = first-is k listed p in
          let few_j : j < entries_in x.size (plan_form plan) = omega (arith, lt, per, fits.many) in
          let low : n < rows.marks.kept = omega (arith, short, same) in
          let number : page_first (page (kept_page x index.marks p.i)) + j + (rows.marks.kept - n) ≡ rows.next = omega (arith, at, first, short, same, of_rows.known, of_rows.next) in
          let tells = ((rule p.i (kept k listed p)).listing (lists k listed p)).entries j few_j n low number in
          subst (TellsAt plan (rows_at table n c)) (sym entry.1)
          (tells-of n c e (page (kept_page x index.marks p.i)) j entry.0 (p.shows.at j entry.0 entry.1) (each-at (IsTrimmed plan) listed.entries j entry.0 fits.each entry.1) tells told)

  pub index-tells : IndexTells plan table (listed_to (entries_in x.size (plan_form plan)) page x index.marks index.marks.kept)
  index-tells = record { firsts = firsts-rise; listed = end-is-within; ends = end-is-told; tell = tell-pages }
