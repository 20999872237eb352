-- The rule on the references of rows holds where the pages of variable data hold a table's blobs.
use Rattle.std.proofs.Common.{◌≡◌, ◌⊎◌, inl, inr, ℕ, zero, suc, ◌+◌, ◌-◌, ◌*◌, ◌/◌, ◌%◌, ◌<◌, ◌≤◌, Bool, true, false, cond, Option, Some, None, List, [], ◌∷◌, length, map, take, drop, max, refl, sym, ◌∙◌, ap, subst, arith}
use Rattle.std.specs.List.{slice_get, sum}
use Rattle.std.specs.Option.{option_map}
use Rattle.std.proofs.lemmas.Bool.{ltb-true, lt-ltb, ne_eqb}
use Rattle.std.proofs.lemmas.Option.{none-some, same_Some}
use Rattle.fl_base.specs.declared.types.BlobRef.{BlobRef}
use Rattle.fl_mark.specs.Mark.{state_of_page}
use Rattle.fl_model.specs.Agrees.{BlobsOf, HoldsBlob, content_at, reach_of}
use Rattle.fl_model.specs.Image.{rows_at}
use Rattle.fl_model.specs.Content.{ContentPage, content_page}
use Rattle.fl_model.specs.Query.{page_stands}
use Rattle.fl_model.specs.Record.{Plan, RowLayout, content_per_page}
use Rattle.fl_model.specs.Ring as model
use Rattle.fl_model.specs.Row.{Row, stored_row}
use Rattle.fl_model.specs.Table.{Table, Entry, full_pages}
use Rattle.fl_model.proofs.Lists.{slice_get-drop, slice_get-front, slice_get-some}
use Rattle.fl_model.proofs.StandingPages.{stands-kept, kept-stands}
use Rattle.fl_model.specs.BlobEnds.{reference_end, blobs_end}
use Rattle.fl_find.proofs.Entries.{entry-row}
use Rattle.fl_page.specs.Header.{page_count}
use Rattle.fl_ring.specs.Newest.{commits, page_back}
use Rattle.fl_ring.specs.Ring.{Shape, place}
use Rattle.fl_rules.specs.Marks.{kept_page}
use Rattle.fl_rules.specs.References.{numbered, IsThere, last_part, HoldsPart, IsWhole, Leads, BlobLeads, RowsLead, PageLeads}
use Rattle.fl_rules.specs.declared.numbering.Numbering.{Numbering}
use Rattle.fl_check.proofs.RingReads.{Reads}
use Rattle.fl_sound.proofs.DataPages.{HaveRowsOf}

-- ---- rows and entries

pub record EntryOf (entries : List Entry) (i : ℕ) (row : Row) : Type 0 where
  pub entry : Entry
  pub here : slice_get entries i ≡ Some entry
  pub is : stored_row entry ≡ row

pub entry-of : (entries : List Entry) (i : ℕ) (row : Row) → slice_get (map stored_row entries) i ≡ Some row → EntryOf entries i row
entry-of [] i row e = absurd (none-some row e)
entry-of (x ∷ entries) zero row e = record { entry = x; here = refl; is = some e }
  where
    some : ◌≡◌ {A = Option Row} (Some (stored_row x)) (Some row) → stored_row x ≡ row
    some k = cc
entry-of (x ∷ entries) (suc i) row e = let h = entry-of entries i row e in record { entry = h.entry; here = h.here; is = h.is }

-- a row's blob begins before the end of all
ends-start : (so_far : ℕ) (rows : List Row) → so_far ≤ blobs_end so_far rows
ends-start so_far [] = omega arith
ends-start so_far (row ∷ rows) = let k = ends-start (max so_far (reference_end row.blob)) rows in omega (arith, k)

ends-behind : (so_far : ℕ) (rows : List Row) (i : ℕ) (row : Row) → slice_get rows i ≡ Some row → reference_end row.blob ≤ blobs_end so_far rows
ends-behind so_far [] i row e = absurd (none-some row e)
ends-behind so_far (x ∷ rows) zero row e =
    let same : x ≡ row = same_Some _ _ e in
    let k = ends-start (max so_far (reference_end x.blob)) rows in
    let r : reference_end x.blob ≡ reference_end row.blob = ap (λ (y : Row). reference_end y.blob) same in
    omega (arith, k, r)
ends-behind so_far (x ∷ rows) (suc i) row e = ends-behind (max so_far (reference_end x.blob)) rows i row e

-- where the blobs of a table stand
pub record HasBlobs (plan : Plan) (table : Table) (ring : model.Ring) (at : ℕ → List ℕ) : Type 0 where
  pub known : length ring.counts ≤ ring.next
  pub places : (i : ℕ) (entry : Entry) (blob : List ℕ) → slice_get table.entries i ≡ Some entry → entry.kept.blob ≡ Some blob → 0 < length blob →
      (entry.page < model.oldest ring)
      ⊎ ((model.oldest ring ≤ entry.page) × (slice_get ring.counts (entry.page - model.oldest ring) ≡ Some 1) × (entry.page + reach_of plan entry blob < ring.next))
  pub holds : BlobsOf plan table ring
  -- each kept page says how many bytes of its content are used
  pub used : (number : ℕ) (content : ContentPage) → model.oldest ring ≤ number → slice_get ring.counts (number - model.oldest ring) ≡ Some 1 →
      slice_get table.var_pages (full_pages (take (number - model.oldest ring) ring.counts)) ≡ Some content → page_count (at number) ≡ content.used

module _ (plan : Plan) (page : ℕ → List ℕ) (first blocks per_block least : ℕ) (table : Table) (ring : model.Ring) (v : Numbering) where
  abbrev r : Shape
  r = record { first = first; blocks = blocks; per_block = per_block; size = plan.geometry.page }

  module _ (reads : Reads page (record { first = first; blocks = blocks; per_block = per_block; size = plan.geometry.page }) least ring v)
      (blobs : HasBlobs plan table ring (λ number. page (place (record { first = first; blocks = blocks; per_block = per_block; size = plan.geometry.page }) number)))
      (begins : least ≡ blobs_end 0 (map stored_row table.entries)) where
    -- a page that is there has a count, and so tells the ring's next number
    there-next : (number : ℕ) → IsThere page r v number → v.next ≡ ring.next
    there-next number there =
        let back : v.marks.kept - (v.marks.kept - (v.next - number)) ≡ v.next - number = omega (arith, there.kept) in
        let c = slice_get-some ring.counts (v.marks.kept - (v.next - number)) (omega (arith, reads.kept, there.sealed, there.kept)) in
        let committed : commits (state_of_page (page (kept_page r v.marks (v.marks.kept - (v.next - number))))) ≡ true =
        ap (λ (k : ℕ). commits (state_of_page (page (page_back r v.marks.at k)))) back ∙ there.committed in
        reads.next (v.marks.kept - (v.next - number)) c.0 c.1 (ltb-true 0 c.0 (sym (reads.committed (v.marks.kept - (v.next - number)) c.0 c.1) ∙ committed))

    numbered-is : (number : ℕ) → v.next ≡ ring.next → number < ring.next → ring.next ≤ number + length ring.counts → numbered page r v number ≡ page (place r number)
    numbered-is number same low high =
        reads.back (v.next - number) (omega (arith, same, low)) (omega (arith, same, high))
        ∙ ap (λ (k : ℕ). page (place r k)) (omega (arith, same, low))

    -- a page before the next one that has content stands
    content-there : (number : ℕ) (content : ContentPage) → number < ring.next → content_at plan table ring number ≡ Some content →
        (page_stands ring number ≡ true) × (slice_get table.var_pages (full_pages (take (number - model.oldest ring) ring.counts)) ≡ Some content)
    content-there number content low e =
        by_test (page_stands ring number) (sym (ap (λ (b : Bool). cond b (cond (page_stands ring number) (slice_get table.var_pages (full_pages (take (number - model.oldest ring) ring.counts))) None) (Some (content_page plan (take (content_per_page plan) (drop ((number - ring.next) * content_per_page plan) table.buffered))))) (lt-ltb number ring.next low)) ∙ e)
      where
        by_test : (b : Bool) → cond b (slice_get table.var_pages (full_pages (take (number - model.oldest ring) ring.counts))) None ≡ Some content →
            (b ≡ true) × (slice_get table.var_pages (full_pages (take (number - model.oldest ring) ring.counts)) ≡ Some content)
        by_test true k = (refl, k)
        by_test false k = cc

    module _ (m : ℕ) (entry : Entry) (blob : List ℕ) (here : slice_get table.entries m ≡ Some entry) (blob_is : entry.kept.blob ≡ Some blob) (some : 0 < length blob) where
      abbrev at : BlobRef
      at = record { page = entry.page; offset = entry.offset; length = length blob }

      abbrev last : ℕ
      last = (entry.offset + length blob - 1) / content_per_page plan

      sealed : entry.page < v.next
      sealed = elim reads.least [
        | inl same ↦ elim (blobs.places m entry blob here blob_is some) [
          | inl gone ↦ omega (arith, gone, same)
          | inr kept ↦ omega (arith, kept.2, same)
        ]
        | inr behind ↦
            let end = ends-behind 0 (map stored_row table.entries) m (stored_row entry) (entry-row table.entries m entry here) in
            let one : reference_end (stored_row entry).blob ≡ entry.page + 1 = begins-there in
            omega (arith, behind, begins, end, one)
      ]
        where
          begins-there : reference_end (stored_row entry).blob ≡ entry.page + 1
          begins-there =
              ap (λ (o : Option (List ℕ)). reference_end (option_map (λ (b : List ℕ). record { page = entry.page; offset = entry.offset; length = length b }) o)) blob_is
              ∙ ap (λ (b : Bool). cond b 0 (entry.page + 1)) (ne_eqb (length blob) 0 (λ e. let no : ⊥ = omega (arith, some, e) in no))

      module _ (there : IsThere page r v entry.page) where
        same : v.next ≡ ring.next
        same = there-next entry.page there

        not-gone : model.oldest ring ≤ entry.page
        not-gone = let k = same in omega (arith, k, there.kept, reads.kept, blobs.known)

        count-there : slice_get ring.counts (entry.page - model.oldest ring) ≡ Some 1
        count-there = elim (blobs.places m entry blob here blob_is some) [
          | inl gone ↦ absurd (let low = not-gone in omega (arith, gone, low))
          | inr kept ↦ kept.1
        ]

        stands : page_stands ring entry.page ≡ true
        stands = stands-kept ring entry.page not-gone count-there

        h : HoldsBlob plan table ring entry blob
        h = blobs.holds m entry blob here blob_is some stands

        part-high : (j : ℕ) → ring.next ≤ entry.page + j + length ring.counts
        part-high j = let low = not-gone in omega (arith, low)

        -- the pages that it needs are kept
        part-low : (j : ℕ) → j ≤ last → entry.page + j < ring.next
        part-low j le = elim (blobs.places m entry blob here blob_is some) [
          | inl gone ↦ absurd (let low = not-gone in omega (arith, gone, low))
          | inr kept ↦ omega (arith, kept.2, le)
        ]

        part-content : (j : ℕ) → j ≤ last → (page_stands ring (entry.page + j) ≡ true) × (slice_get table.var_pages (full_pages (take (entry.page + j - model.oldest ring) ring.counts)) ≡ Some (h.pages j))
        part-content j le = content-there (entry.page + j) (h.pages j) (part-low j le) (h.there j le)

        part-kept : (j : ℕ) → j ≤ last → (model.oldest ring ≤ entry.page + j) × (slice_get ring.counts (entry.page + j - model.oldest ring) ≡ Some 1)
        part-kept j le = kept-stands ring (entry.page + j) (part-low j le) (part-content j le).0

        part-used : (j : ℕ) → j ≤ last → page_count (numbered page r v (entry.page + j)) ≡ (h.pages j).used
        part-used j le =
            ap page_count (numbered-is (entry.page + j) same (part-low j le) (part-high j))
            ∙ blobs.used (entry.page + j) (h.pages j) (part-kept j le).0 (part-kept j le).1 (part-content j le).1

        part-there : (j : ℕ) → j ≤ last → IsThere page r v (entry.page + j)
        part-there j le =
            let low = part-low j le in
            let high = part-high j in
            let k = same in
            let e : v.marks.kept - (entry.page + j - model.oldest ring) ≡ v.next - (entry.page + j) = let g = not-gone in omega (arith, low, high, k, g, reads.kept, blobs.known) in
            record {
              sealed = omega (arith, low, k);
              kept = omega (arith, high, k, reads.kept);
              committed = ap (λ (b : ℕ). commits (state_of_page (page (page_back r v.marks.at b)))) (sym e) ∙ reads.committed (entry.page + j - model.oldest ring) 1 (part-kept j le).1;
            }

        part : (j : ℕ) → j < last_part r at + 1 → HoldsPart page r v at j
        part j lt = record {
          there = part-there j (omega (arith, lt));
          full = λ before. part-used j (omega (arith, lt)) ∙ h.full j before;
          ends = λ e.
              subst (λ (k : ℕ). (entry.offset + length blob - 1) % content_per_page plan < k) (sym (part-used j (omega (arith, lt)) ∙ ap (λ (k : ℕ). (h.pages k).used) e)) h.ends;
        }

        whole : IsWhole page r v at
        whole =
            let first : entry.page + 0 ≡ entry.page = omega arith in
            let count = sym (ap (λ (k : ℕ). page_count (numbered page r v k)) first) ∙ part-used 0 (omega arith) in
            record { begins = subst (λ (k : ℕ). entry.offset < k) (sym count) h.within; parts = part }

      leads : Leads page r v at
      leads = record { sealed = sealed; whole = whole }

    entry-leads : (m : ℕ) (entry : Entry) → slice_get table.entries m ≡ Some entry → BlobLeads page r v (stored_row entry).blob
    entry-leads m entry here = by_blob entry.kept.blob refl
      where
        by_blob : (o : Option (List ℕ)) → entry.kept.blob ≡ o → BlobLeads page r v (option_map (λ (b : List ℕ). record { page = entry.page; offset = entry.offset; length = length b }) o)
        by_blob None e = tt
        by_blob (Some blob) e = λ some. leads m entry blob here e some

    -- the rows of the kept data pages
    module _ (layout : RowLayout) (d : Shape) (at_least : ℕ) (n : Numbering) (reads_d : Reads page d at_least table.rows n) (rows : HaveRowsOf layout page d table n) where
      pub pages-lead : (i : ℕ) → i < n.marks.kept → PageLeads layout page d n.marks r v i
      pages-lead i lt committed =
          let c = slice_get-some table.rows.counts i (omega (arith, lt, reads_d.kept)) in
          let some = ltb-true 0 c.0 (sym (reads_d.committed i c.0 c.1) ∙ committed) in
          subst (λ (l : List Row). RowsLead page r v l) (sym (rows i c.0 c.1 some)) (λ k few row e. lead c.0 k row e)
        where
          lead : (c k : ℕ) (row : Row) → slice_get (map stored_row (rows_at table i c)) k ≡ Some row → BlobLeads page r v row.blob
          lead c k row e =
              let h = entry-of (rows_at table i c) k row e in
              let there : slice_get table.entries (sum (take i table.rows.counts) + k) ≡ Some h.entry =
              sym (slice_get-drop (sum (take i table.rows.counts)) table.entries k) ∙ slice_get-front c (drop (sum (take i table.rows.counts)) table.entries) k h.entry h.here in
              subst (λ (x : Row). BlobLeads page r v x.blob) h.is (entry-leads (sum (take i table.rows.counts) + k) h.entry there)
