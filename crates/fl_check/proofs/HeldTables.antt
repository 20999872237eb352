-- The rings of a sound table are those of a table of the model: what their pages hold, and what a check reads of them.
use Rattle.std.proofs.Common.{◌≡◌, ℕ, ◌+◌, ◌-◌, ◌/◌, ◌^◌, ◌≤◌, ◌<◌, ◌⊎◌, inr, ◌++◌, nat_lt, Option, Some, None, IfSome, option_map, List, [], length, map, filter, take, drop, sum, replicate, get_or, slice_get, refl, sym, ◌∙◌, ap, subst, arith, append_assoc, length-drop}
use Rattle.std.specs.List.{flat_map, AllByRecursion}
use Rattle.std.proofs.lemmas.Bool.{lt-ltb}
use Rattle.std.proofs.lemmas.List.{take-append-drop, length-map, length-take-le, drop-drop}
use Rattle.std.proofs.lemmas.Option.{slice_get_within, slice_get-map, slice_get-get_or, same_Some}
use Rattle.fl_base.specs.declared.types.BlobRef.{BlobRef}
use Rattle.fl_base.specs.declared.types.RingPlace.{RingPlace}
use Rattle.fl_bitmap.specs.declared.buckets.Buckets.{Buckets}
use Rattle.fl_flash.specs.Flash.{FlashState, page_at}
use Rattle.fl_mark.specs.Mark.{state_of_page}
use Rattle.fl_model.specs.Facts.{FitsPlan, IsContent, IsLogPage, counts_in, is_some_ring}
use Rattle.fl_model.specs.Image.{HoldsPage}
use Rattle.fl_model.specs.Layout.{committed, rows_body, data_body, index_body, content_body, IndexPage, ContentPage}
use Rattle.fl_model.specs.Record.{Plan, row_layout, layout_len, rows_per_page, entries_per_page}
use Rattle.fl_model.specs.Ring as model
use Rattle.fl_model.specs.Row.{Row, stored_row, le}
use Rattle.fl_model.specs.Table.{Entry, end_of_blobs, full_pages}
use Rattle.fl_model.specs.BlobEnds.{blobs_end}
use Rattle.fl_model.proofs.BlobEnds.{ends-of}
use Rattle.fl_bitmap.specs.Bucket.{HasBuckets}
use Rattle.fl_page.specs.Page.{rows_in}
use Rattle.fl_page.specs.Steps.{Ascends}
use Rattle.fl_plan.specs.Limits.{IsWithinLimits}
use Rattle.fl_plan.specs.Plan.{Label, blocks_in, bits_in, plan_of_table, with_log}
use Rattle.fl_plan.specs.declared.table_config.TableConfig.{TableConfig}
use Rattle.fl_ring.specs.Counts.{page_count, ring_counts}
use Rattle.fl_ring.specs.Newest.{commits}
use Rattle.fl_ring.specs.Ring.{Shape, IsShape, count, oldest, place, committed_end}
use Rattle.fl_rules.specs.Claims.{AllBelow}
use Rattle.fl_rules.specs.ContentPage.{IsContentPage}
use Rattle.fl_rules.specs.DataPage.{HasForm, IsDataPage}
use Rattle.fl_rules.specs.Marks.{kept_page}
use Rattle.fl_rules.specs.References.{BlobLeads, RowsLead, PageLeads}
use Rattle.fl_rules.specs.Rising.{KeysAscend}
use Rattle.fl_check.specs.SoundImages.{RingImage, OfPlace}
use Rattle.fl_check.specs.StandingRings.{HaveSize, IsSortedLogForm, StandsRuled}
use Rattle.fl_rules.specs.Tally.{tally_of}
use Rattle.fl_check.specs.Whole.{OfRing, IsIndexForm, IsRowsForm, IsVarForm, IsLogForm, form_in, layout_in, shape_in, rows_shape}
use Rattle.fl_rules.specs.declared.numbering.Numbering.{Numbering}
use Rattle.fl_check.proofs.AscendingPages.{HasRowsOf, map-flat, rows-ascend, keys-rise}
use Rattle.fl_check.proofs.BlobBytes.{IsReadBy, all-read}
use Rattle.fl_check.proofs.Collected.{Held, all-flat, sum-flat, piece}
use Rattle.fl_check.proofs.ConfigFacts.{has-buckets, some-bits, some-room}
use Rattle.fl_rules.proofs.DataPages.{data_rows}
use Rattle.fl_check.proofs.HeldRings.{within, bytes_is, void_is, commits_is, some, first_same, read, counts_are, follows, held_as, collected, sized, followed, held}
use Rattle.fl_check.proofs.LedBlobs.{entries-lead}
use Rattle.fl_check.proofs.RingReads.{Follows, OfNumbered}
use Rattle.fl_check.proofs.StoredRows.{rows-fit}
use Rattle.fl_rules.proofs.TablePages.{ReadsAll, entry_by, stored_rows, body-same, room-same}
use Rattle.fl_check.proofs.TalliedPages.{IsTallied, tallied}
use Rattle.fl_check.proofs.TrimmedEntries.{IsListed, trimmed, body-trimmed, all-trimmed}

-- ---- what a page holds

-- the content of a page of variable data
content_of_page : (plan : Plan) (number : ℕ) (page : List ℕ) → length page ≡ plan.geometry.page → 64 ≤ length page → IsContentPage number page → Held ContentPage (IsContent plan) (λ x. page ≡ committed (content_body number x))
content_of_page plan number page size large is = record { holds = record { used = is.used; bytes = bytes }; fit = record { some = is.some; most = omega (arith, is.most, size); length = many }; is = whole }
  where
    bytes : List ℕ
    bytes = take (length page - 16) (drop 8 page)

    head : List ℕ
    head = le 4 number ++ le 2 is.used ++ le 2 0

    many : length bytes ≡ plan.geometry.page - 16
    many = length-take-le (length page - 16) (drop 8 page) (omega (arith, length-drop 8 page)) ∙ omega (arith, size)

    back : drop 8 page ≡ bytes ++ (replicate 4 0 ++ replicate 4 255)
    back =
        sym (take-append-drop (length page - 16) (drop 8 page))
        ∙ ap (λ (l : List ℕ). bytes ++ l) (drop-drop (length page - 16) 8 page ∙ ap (λ (k : ℕ). drop k page) (let e : 8 + (length page - 16) ≡ length page - 8 = omega (arith, large) in e) ∙ is.marks)

    whole : page ≡ committed (content_body number (record { used = is.used; bytes = bytes }))
    whole =
        sym (take-append-drop 8 page) ∙ ap (λ (l : List ℕ). l ++ drop 8 page) is.head ∙ ap (λ (l : List ℕ). head ++ l) back
        ∙ sym (append_assoc head bytes (replicate 4 0 ++ replicate 4 255)) ∙ sym (append_assoc (head ++ bytes) (replicate 4 0) (replicate 4 255))

-- ---- the rings

module _ (label : Label) (config : TableConfig) (log : Option RingPlace) (reader : BlobRef → List ℕ) (all_read : ReadsAll reader) where
  abbrev plan : Plan
  plan = with_log (blocks_in log) (plan_of_table label config)

  form : (page : List ℕ) → length page ≡ config.geometry.page → HasForm plan (layout_in config) config.buckets (length page)
  form page size = record { layout_is = refl; buckets_are = with-log config.buckets (has-buckets label config); size_is = sym size }
    where
      with-log : (o : Option Buckets) → HasBuckets (plan_of_table label config) o → HasBuckets plan o
      with-log None h = h
      with-log (Some b) h = record { bits = h.bits; base = h.base; width = h.width }

  pub entries_of : List ℕ → List Entry
  entries_of body = map (entry_by reader) (rows_in (layout_in config) (body ++ committed_end))

  abbrev entries_in : Option (List ℕ) → List Entry
  entries_in None = []
  entries_in (Some body) = entries_of body

  pub rows_count : List ℕ → ℕ
  rows_count body = length (entries_of body)

  -- a page of rows, with the bitmap of some buckets or none
  rows_told : (o : Option Buckets) (page : List ℕ) (number : ℕ) → number < 2 ^ 32 → 64 ≤ length page → length page ≤ 4096 → (is : IsDataPage (layout_in config) o number page) → rows_in (layout_in config) page ≡ is.rows
  rows_told o page number small large short is = data_rows config.key config.columns.items (nat_lt 0 (blocks_in config.var)) page number o (omega (arith, large)) is small (omega (arith, short))

  rows_of_page : (o : Option Buckets) (page body : List ℕ) (number : ℕ) → number < 2 ^ 32 → 64 ≤ length page → length page ≤ 4096 → page ≡ body ++ committed_end → (is : IsDataPage (layout_in config) o number page) → entries_of body ≡ map (entry_by reader) is.rows
  unfolding entries_of
  rows_of_page o page body number small large short bytes is =
      ap (map (entry_by reader)) (ap (rows_in (layout_in config)) (sym bytes) ∙ rows_told o page number small large short is)

  rows_many : (o : Option Buckets) (page body : List ℕ) (number : ℕ) → number < 2 ^ 32 → 64 ≤ length page → length page ≤ 4096 → page ≡ body ++ committed_end → (is : IsDataPage (layout_in config) o number page) → length (map (entry_by reader) is.rows) ≡ rows_count body
  unfolding rows_count
  rows_many o page body number small large short bytes is = ap (λ (l : List Entry). length l) (sym (rows_of_page o page body number small large short bytes is))

  some_rows : (o : Option Buckets) (page body : List ℕ) (number : ℕ) → number < 2 ^ 32 → 64 ≤ length page → length page ≤ 4096 → page ≡ body ++ committed_end → IsDataPage (layout_in config) o number page → 0 < rows_count body
  some_rows o page body number small large short bytes is =
      let same = rows_many o page body number small large short bytes is in
      omega (arith, same, length-map is.rows (entry_by reader), is.some)

  few_rows : (o : Option Buckets) (page body : List ℕ) (number : ℕ) → number < 2 ^ 32 → 64 ≤ length page → length page ≤ 4096 → page ≡ body ++ committed_end → length page ≡ config.geometry.page →
      IsDataPage (layout_in config) o number page → rows_count body ≤ rows_per_page plan
  few_rows o page body number small large short bytes size is =
      let same = rows_many o page body number small large short bytes is in
      let room : rows_per_page plan ≡ (length page - 24) / layout_len (layout_in config) = room-same plan (layout_in config) config.buckets number page (form page size) in
      omega (arith, same, length-map is.rows (entry_by reader), is.few, room)

  module _ (f : FlashState) (large : 64 ≤ config.geometry.page) (short : config.geometry.page ≤ 4096) where
    -- ---- the data pages

    module _ (at_least : ℕ) (n : Numbering) (shape : IsShape (rows_shape config)) (size : HaveSize (page_at f) (rows_shape config)) (st : StandsRuled (IsRowsForm config) f (rows_shape config) at_least n) where
      abbrev pub entries : List Entry
      entries = flat_map entries_in st.s.kept

      abbrev pub data_ring : model.Ring
      data_ring = ring_counts rows_count st.s

      -- a data page with these rows
      record Read (number : ℕ) (page body : List ℕ) : Type 0 where
        pub bytes : page ≡ committed (data_body plan number (entries_of body))
        pub fit : AllByRecursion (FitsPlan plan) (entries_of body)
        pub few : rows_count body ≤ rows_per_page plan

      reads : (number : ℕ) (page body : List ℕ) → number < 2 ^ 32 → length page ≡ config.geometry.page → page ≡ body ++ committed_end → IsRowsForm config number page → (0 < rows_count body) × Read number page body
      reads number page body small size bytes is =
          let some = some_rows config.buckets page body number small (omega (arith, size, large)) (omega (arith, size, short)) bytes is in
          let rows : entries_of body ≡ map (entry_by reader) is.rows = rows_of_page config.buckets page body number small (omega (arith, size, large)) (omega (arith, size, short)) bytes is in (
            some,
            record {
              bytes = is.bytes ∙ body-same plan (layout_in config) config.buckets number page (form page size) (map (entry_by reader) is.rows) is.rows (stored_rows reader all_read is.rows)
                  ∙ ap (λ (l : List Entry). committed (data_body plan number l)) (sym rows);
              fit = subst (AllByRecursion (FitsPlan plan)) (sym rows) (rows-fit plan reader all_read is.rows is.plain is.storable);
              few = few_rows config.buckets page body number small (omega (arith, size, large)) (omega (arith, size, short)) bytes size is;
            },
          )

      lengths : (x : Option (List ℕ)) → page_count rows_count x ≡ length (entries_in x)
      unfolding rows_count
      lengths None = refl
      lengths (Some body) = refl

      abbrev rows_of : ℕ → ℕ → List Entry
      rows_of i count = take count (drop (sum (take i data_ring.counts)) entries)

      rows_are : (i : ℕ) (body : List ℕ) → i < count st.s → get_or st.s.kept i None ≡ Some body → rows_of i (rows_count body) ≡ entries_of body
      rows_are i body lt is =
          subst (λ (x : Option (List ℕ)). rows_of i (page_count rows_count x) ≡ entries_in x) is (piece entries_in (page_count rows_count) lengths st.s.kept i None lt)

      pub data_image : RingImage (page_at f) (rows_shape config) data_ring (λ i count page. page ≡ committed (data_body plan (model.oldest data_ring + i) (rows_of i count)))
      data_image = held_as (IsRowsForm config) f (rows_shape config) at_least n shape size st rows_count Read reads
          (λ i count page. page ≡ committed (data_body plan (model.oldest data_ring + i) (rows_of i count)))
          (λ i body is found.
          found.bytes ∙ ap (λ (l : List Entry). committed (data_body plan (oldest st.s + i) l)) (sym (rows_are i body (within (IsRowsForm config) f (rows_shape config) at_least n shape size st i body is) is))
          ∙ ap (λ (k : ℕ). committed (data_body plan (k + i) (rows_of i (rows_count body)))) (sym (first_same (IsRowsForm config) f (rows_shape config) at_least n shape size st rows_count Read reads)))

      pub data_counted : sum data_ring.counts ≡ length entries
      data_counted = sum-flat entries_in (page_count rows_count) lengths st.s.kept

      pub data_few : AllByRecursion (λ count. count ≤ rows_per_page plan) data_ring.counts
      data_few = counts_are (IsRowsForm config) f (rows_shape config) at_least n shape size st rows_count Read reads (λ count. count ≤ rows_per_page plan) (omega arith) (λ number page body found. found.few)

      -- what holds of the entries of each page holds of all
      data-all : (P : Entry → Type 0) → ((i : ℕ) (body : List ℕ) → i < count st.s → get_or st.s.kept i None ≡ Some body → AllByRecursion P (entries_of body)) → AllByRecursion P entries
      data-all P each = all-flat entries_in P st.s.kept None (λ i lt. by_kept i lt (get_or st.s.kept i None) refl)
        where
          by_kept : (i : ℕ) → i < count st.s → (x : Option (List ℕ)) → get_or st.s.kept i None ≡ x → AllByRecursion P (entries_in x)
          by_kept i lt None is = tt
          by_kept i lt (Some body) is = each i body lt is

      pub data_fit : AllByRecursion (FitsPlan plan) entries
      data_fit = data-all (FitsPlan plan) (λ i body lt is. (read (IsRowsForm config) f (rows_shape config) at_least n shape size st rows_count Read reads i body lt is).1.fit)

      pub data_read : AllByRecursion (IsReadBy reader) entries
      unfolding entries_of
      data_read = data-all (IsReadBy reader) (λ i body lt is. all-read reader all_read (rows_in (layout_in config) (body ++ committed_end)))

      has-rows : (i : ℕ) → i < count st.s → (x : Option (List ℕ)) → get_or st.s.kept i None ≡ x → HasRowsOf (layout_in config) (λ x. map stored_row (entries_in x)) (page_at f (place (rows_shape config) (oldest st.s + i))) x
      unfolding entries_of
      has-rows i lt None is = (void_is (IsRowsForm config) f (rows_shape config) at_least n shape size st i lt is, refl)
      has-rows i lt (Some body) is = (
        commits_is (IsRowsForm config) f (rows_shape config) at_least n shape size st i body lt is,
        ap (rows_in (layout_in config)) (bytes_is (IsRowsForm config) f (rows_shape config) at_least n shape size st i body lt is) ∙ sym (stored_rows reader all_read (rows_in (layout_in config) (body ++ committed_end))),
      )

      has-placed : (i : ℕ) → i < count st.s → HasRowsOf (layout_in config) (λ x. map stored_row (entries_in x)) (page_at f (kept_page (rows_shape config) n.marks (0 + i))) (get_or st.s.kept i None)
      has-placed i lt =
          subst (λ (p : ℕ). HasRowsOf (layout_in config) (λ x. map stored_row (entries_in x)) (page_at f p) (get_or st.s.kept i None)) (sym (st.places i lt) ∙ ap (kept_page (rows_shape config) n.marks) (let e : i ≡ 0 + i = omega arith in e))
          (has-rows i lt (get_or st.s.kept i None) refl)

      pub data_rise : KeysAscend (layout_in config) (page_at f) (rows_shape config) n.marks → (i j : ℕ) (a b : Entry) → i < j → slice_get entries i ≡ Some a → slice_get entries j ≡ Some b → a.kept.key < b.kept.key
      data_rise rising = keys-rise None entries (subst (Ascends None) (sym (map-flat stored_row entries_in st.s.kept))
          (rows-ascend (layout_in config) (λ x. map stored_row (entries_in x)) (page_at f) (rows_shape config) n.marks rising st.s.kept 0 (omega (arith, st.kept)) has-placed))

      pub row_counts : (body : List ℕ) → rows_count body ≡ length (map stored_row (entries_in (Some body)))
      unfolding rows_count
      row_counts body = sym (length-map (entries_of body) stored_row)

      pub data_tallied : IsTallied (layout_in config) (λ x. map stored_row (entries_in x)) rows_count row_counts (page_at f) (rows_shape config) n.marks st.s.kept 0
      data_tallied = tallied (layout_in config) (λ x. map stored_row (entries_in x)) rows_count row_counts (page_at f) (rows_shape config) n.marks st.s.kept 0
          (λ i lt. (has-placed i lt, some (IsRowsForm config) f (rows_shape config) at_least n shape size st rows_count Read reads i lt))

      -- the end of the blobs that its rows name
      pub data_ends : (tally_of (layout_in config) (page_at f) (rows_shape config) n.marks n.marks.kept).blob_end ≡ end_of_blobs entries
      data_ends =
          ap (λ (k : ℕ). (tally_of (layout_in config) (page_at f) (rows_shape config) n.marks k).blob_end) (let e : n.marks.kept ≡ 0 + length st.s.kept = omega (arith, st.kept) in e)
          ∙ data_tallied.ends ∙ ap (blobs_end 0) (sym (map-flat stored_row entries_in st.s.kept)) ∙ ends-of entries

      -- ---- what the other rules read of them

      pub data_follows : Follows (page_at f) (rows_shape config) at_least data_ring n
      data_follows = follows (IsRowsForm config) f (rows_shape config) at_least n shape size st rows_count Read reads

      -- a page with a count, by its body
      record HasBody (i c : ℕ) : Type 0 where
        body : List ℕ
        kept : i < count st.s
        is : get_or st.s.kept i None ≡ Some body
        count_is : c ≡ rows_count body

      has-body : (i c : ℕ) → slice_get data_ring.counts i ≡ Some c → 0 < c → HasBody i c
      has-body i c here some = by_kept (get_or st.s.kept i None) refl
        where
          low : i < count st.s
          low = omega (arith, slice_get_within data_ring.counts i c here, length-map st.s.kept (page_count rows_count))

          told : Some c ≡ Some (page_count rows_count (get_or st.s.kept i None))
          told = sym here ∙ slice_get-map (page_count rows_count) st.s.kept i ∙ ap (λ (o : Option (Option (List ℕ))). option_map (page_count rows_count) o) (slice_get-get_or st.s.kept i None low)

          by_kept : (x : Option (List ℕ)) → get_or st.s.kept i None ≡ x → HasBody i c
          by_kept None is = absurd (let none : c ≡ 0 = same_Some _ _ told ∙ ap (page_count rows_count) is in let never : ⊥ = omega (arith, none, some) in never)
          by_kept (Some body) is = record { body = body; kept = low; is = is; count_is = same_Some _ _ told ∙ ap (page_count rows_count) is }

      pub data_told : (i c : ℕ) → slice_get data_ring.counts i ≡ Some c → 0 < c → rows_in (layout_in config) (page_at f (kept_page (rows_shape config) n.marks i)) ≡ map stored_row (rows_of i c)
      data_told i c here some =
          let b = has-body i c here some in
          ap (λ (p : ℕ). rows_in (layout_in config) (page_at f p)) (st.places i b.kept) ∙ (has-rows i b.kept (Some b.body) b.is).1
          ∙ ap (map stored_row) (sym (rows_are i b.body b.kept b.is)) ∙ ap (λ (k : ℕ). map stored_row (rows_of i k)) (sym b.count_is)

      pub data_bytes : (i c : ℕ) → slice_get data_ring.counts i ≡ Some c → 0 < c → page_at f (kept_page (rows_shape config) n.marks i) ≡ committed (data_body plan (oldest st.s + i) (rows_of i c))
      data_bytes i c here some =
          let b = has-body i c here some in
          let found = (read (IsRowsForm config) f (rows_shape config) at_least n shape size st rows_count Read reads i b.body b.kept b.is).1 in
          ap (page_at f) (st.places i b.kept) ∙ found.bytes
          ∙ ap (λ (es : List Entry). committed (data_body plan (oldest st.s + i) es)) (sym (rows_are i b.body b.kept b.is) ∙ ap (rows_of i) (sym b.count_is))

      pub data_lead : (r : Shape) (v : Numbering) → AllBelow (PageLeads (layout_in config) (page_at f) (rows_shape config) n.marks r v) n.marks.kept → AllByRecursion (λ entry. BlobLeads (page_at f) r v (stored_row entry).blob) entries
      data_lead r v leads = data-all (λ entry. BlobLeads (page_at f) r v (stored_row entry).blob) (λ i body lt is.
          let there = has-rows i lt (Some body) is in
          let place_is = ap (page_at f) (st.places i lt) in
          let rows = leads i (omega (arith, lt, st.kept)) (ap (λ (l : List ℕ). commits (state_of_page l)) place_is ∙ there.0) in
          entries-lead (page_at f) r v (entries_of body) (subst (RowsLead (page_at f) r v) (ap (rows_in (layout_in config)) place_is ∙ there.1) rows))

    -- ---- a ring that a table may not have

    -- its image, what its pages hold, and what a check reads of it
    pub record HasRing (X : Type 0) (Fits : X → Type 0) (Counts : ℕ → Type 0) (size_of : X → ℕ) (body_of : ℕ → X → List ℕ) (at_least : ℕ) (o : Option RingPlace) (n : Option Numbering) : Type 0 where
      pub ring : Option model.Ring
      pub there : is_some_ring ring ≡ nat_lt 0 (blocks_in o)
      pub pages : List X
      pub many : length pages ≡ full_pages (counts_in ring)
      pub fit : AllByRecursion Fits pages
      pub counts : AllByRecursion Counts (counts_in ring)
      pub sizes : map size_of pages ≡ filter (nat_lt 0) (counts_in ring)
      pub image : OfPlace (λ place ring. RingImage (page_at f) (shape_in config place) ring (λ i count page. HoldsPage pages body_of ring i count page)) o ring
      pub follows : OfNumbered (λ place n ring. Follows (page_at f) (shape_in config place) at_least ring n) o n ring

    -- a page of this form holds something
    abbrev Reads : (X : Type 0) → (X → Type 0) → (X → ℕ) → (ℕ → X → List ℕ) → (ℕ → List ℕ → Type 0) → (List ℕ → ℕ) → Type 0
    Reads X Fits size_of body_of Form count_of =
        (number : ℕ) (page body : List ℕ) → number < 2 ^ 32 → length page ≡ config.geometry.page → page ≡ body ++ committed_end → Form number page
        → (0 < count_of body) × Held X Fits (λ x. (page ≡ committed (body_of number x)) × (size_of x ≡ count_of body))

    -- .. and its count is so
    abbrev CountsAre : (ℕ → Type 0) → (ℕ → List ℕ → Type 0) → (List ℕ → ℕ) → Type 0
    CountsAre Counts Form count_of =
        (number : ℕ) (page body : List ℕ) → number < 2 ^ 32 → length page ≡ config.geometry.page → page ≡ body ++ committed_end → Form number page → (0 < count_of body) × Counts (count_of body)

    pub has-ring : (X : Type 0) (Fits : X → Type 0) (Counts : ℕ → Type 0) → Counts 0 → (size_of : X → ℕ) (body_of : ℕ → X → List ℕ) (Form : ℕ → List ℕ → Type 0) (count_of : List ℕ → ℕ) (at_least : ℕ) (o : Option RingPlace) (n : Option Numbering) →
        IfSome o (λ place. IsShape (shape_in config place) × HaveSize (page_at f) (shape_in config place)) → OfRing (λ place n. StandsRuled Form f (shape_in config place) at_least n) o n →
        ((place : RingPlace) → o ≡ Some place → CountsAre Counts Form count_of × Reads X Fits size_of body_of Form count_of) → HasRing X Fits Counts size_of body_of at_least o n
    has-ring X Fits Counts void size_of body_of Form count_of at_least None None sizes stands told = record { ring = None; there = refl; pages = []; many = refl; fit = tt; counts = tt; sizes = refl; image = tt; follows = tt }
    has-ring X Fits Counts void size_of body_of Form count_of at_least None (Some n) sizes stands told = absurd stands
    has-ring X Fits Counts void size_of body_of Form count_of at_least (Some place) None sizes stands told = absurd stands
    has-ring X Fits Counts void size_of body_of Form count_of at_least (Some place) (Some n) sizes stands told =
        let found = collected Form f (shape_in config place) at_least n sizes.0 sizes.1 stands X Fits size_of count_of body_of (told place refl).1 in
        record {
          ring = Some (ring_counts count_of stands.s);
          there = sym (lt-ltb 0 place.blocks (omega (arith, sizes.0.blocks)));
          pages = found.pages;
          many = found.many;
          fit = found.fit;
          counts = counts_are Form f (shape_in config place) at_least n sizes.0 sizes.1 stands count_of (λ number page body. Counts (count_of body)) (told place refl).0 Counts void (λ number page body so. so);
          sizes = sized Form f (shape_in config place) at_least n sizes.0 sizes.1 stands X Fits size_of count_of body_of (told place refl).1;
          image = held Form f (shape_in config place) at_least n sizes.0 sizes.1 stands X Fits size_of count_of body_of (told place refl).1;
          follows = followed Form f (shape_in config place) at_least n sizes.0 sizes.1 stands X Fits size_of count_of body_of (told place refl).1;
        }

    pub index-reads : IsWithinLimits config → (place : RingPlace) → config.index ≡ Some place →
        CountsAre (λ count. (count ≡ 0) ⊎ (count ≡ entries_per_page plan)) (IsIndexForm config) (λ body. entries_per_page plan)
        × Reads IndexPage (IsListed plan) (λ listed. length listed.entries) (λ number listed. index_body plan number listed.first listed.entries) (IsIndexForm config) (λ body. entries_per_page plan)
    index-reads limits place is =
        let some : 0 < entries_per_page plan = some-room config.geometry.page (form_in config) (bits_in config.buckets) (some-bits label config place is limits) refl large in (
          λ number page body small size bytes form. (some, inr refl),
          λ number page body small size bytes form.
              let many : length (map (trimmed plan) form.1.entries) ≡ entries_per_page plan = length-map form.1.entries (trimmed plan) ∙ form.1.full in (
                some,
                record {
                  holds = record { first = form.1.first; entries = map (trimmed plan) form.1.entries };
                  fit = record { many = many; small = form.1.small; each = all-trimmed plan form.1.entries };
                  is = (form.1.bytes ∙ ap committed (sym (body-trimmed plan number form.1.first form.1.entries)), many);
                },
              ),
        )

    pub var-reads : CountsAre (λ count. (count ≡ 0) ⊎ (count ≡ 1)) IsVarForm (λ body. 1) × Reads ContentPage (IsContent plan) (λ content. 1) content_body IsVarForm (λ body. 1)
    var-reads = (
      λ number page body small size bytes is. (omega arith, inr refl),
      λ number page body small size bytes is.
          let content = content_of_page plan number page size (omega (arith, size, large)) is in (omega arith, record { holds = content.holds; fit = content.fit; is = (content.is, refl) }),
    )

    pub log-reads : CountsAre (λ count. count ≤ rows_per_page plan) (IsSortedLogForm config) rows_count
        × Reads (List Entry) (IsLogPage plan) (λ rows. length rows) (λ number rows. rows_body (plan.geometry.page - 8) (row_layout plan) number 0 (map stored_row rows)) (IsSortedLogForm config) rows_count
    log-reads = (counts, holds)
      where
        some_there : (number : ℕ) (page body : List ℕ) → number < 2 ^ 32 → length page ≡ config.geometry.page → page ≡ body ++ committed_end → IsLogForm config number page → 0 < rows_count body
        some_there number page body small size bytes is = some_rows None page body number small (omega (arith, size, large)) (omega (arith, size, short)) bytes is

        counts : CountsAre (λ count. count ≤ rows_per_page plan) (IsSortedLogForm config) rows_count
        counts number page body small size bytes form = (
          some_there number page body small size bytes form.0,
          few_rows None page body number small (omega (arith, size, large)) (omega (arith, size, short)) bytes size form.0,
        )

        holds : Reads (List Entry) (IsLogPage plan) (λ rows. length rows) (λ number rows. rows_body (plan.geometry.page - 8) (row_layout plan) number 0 (map stored_row rows)) (IsSortedLogForm config) rows_count
        holds number page body small size bytes (is, ascends) =
            let rows : rows_in (layout_in config) page ≡ is.rows = rows_told None page number small (omega (arith, size, large)) (omega (arith, size, short)) is in (
              some_there number page body small size bytes is,
              record {
                holds = map (entry_by reader) is.rows;
                fit = record {
                  fit = rows-fit plan reader all_read is.rows is.plain is.storable;
                  ascending = keys-rise None (map (entry_by reader) is.rows) (subst (Ascends None) (rows ∙ sym (stored_rows reader all_read is.rows)) ascends.1);
                };
                is = (
                  is.bytes ∙ ap (λ (k : ℕ). committed (rows_body (k - 8) (layout_in config) number 0 is.rows)) size
                      ∙ ap (λ (rows : List Row). committed (rows_body (config.geometry.page - 8) (layout_in config) number 0 rows)) (sym (stored_rows reader all_read is.rows)),
                  rows_many None page body number small (omega (arith, size, large)) (omega (arith, size, short)) bytes is,
                );
              },
            )
