-- The pages of a sound table are the image of a table of the model, and its facts are those that the rules give.
use Rattle.std.proofs.Common.{◌≡◌, ℕ, zero, suc, ◌+◌, ◌-◌, ◌^◌, ◌≤◌, ◌<◌, ◌⊎◌, inl, ◌++◌, ◌∷◌, nat_lt, Bool, true, false, ◌||◌, cond, IsTrue, Option, Some, None, IfSome, List, [], length, map, take, refl, sym, ◌∙◌, ap, subst, arith}
use Rattle.std.specs.List.{list_any, slice_get, AllByRecursion}
use Rattle.std.proofs.Math.Nat.{div-le_self}
use Rattle.std.proofs.lemmas.Bool.{lt-ltb, true≢false}
use Rattle.std.proofs.lemmas.List.{take_all, length-map}
use Rattle.fl_base.specs.declared.types.BlobRef.{BlobRef}
use Rattle.fl_base.specs.declared.types.RingPlace.{RingPlace}
use Rattle.fl_bitmap.proofs.Widths.{widths}
use Rattle.fl_bitmap.specs.Widths.{is_bits}
use Rattle.fl_flash.specs.Flash.{FlashState, page_at}
use Rattle.fl_flash.specs.Places.{extent}
use Rattle.fl_model.specs.Facts.{IsContent, IsLogPage, counts_in}
use Rattle.fl_model.specs.Image.{HoldsPage, rows_at}
use Rattle.fl_model.specs.Layout.{rows_body, index_body, content_body, IndexPage, ContentPage}
use Rattle.fl_model.specs.Mount.{blob_end}
use Rattle.fl_model.specs.Record.{Plan, row_layout, rows_per_page, entry_len, entries_per_page}
use Rattle.fl_model.specs.Ring as model
use Rattle.fl_model.specs.Row.{stored_row}
use Rattle.fl_model.specs.Table.{Table, Entry, full_pages, has_rows}
use Rattle.fl_model.proofs.FullPages.{full-cons, full-one}
use Rattle.fl_model.proofs.Lists.{each-weaker, each-at}
use Rattle.fl_plan.specs.Limits.{IsRingSize}
use Rattle.fl_plan.specs.Plan.{Label, blocks_in, bits_in, plan_of_table, with_log}
use Rattle.fl_plan.specs.declared.table_config.TableConfig.{TableConfig}
use Rattle.fl_ring.specs.Counts.{page_count, ring_counts}
use Rattle.fl_ring.specs.Ring.{IsShape, oldest, place as placed}
use Rattle.fl_rules.specs.Claims.{AllBelow}
use Rattle.fl_check.specs.Entries.{HaveEntries}
use Rattle.fl_rules.specs.Marks.{kept_page}
use Rattle.fl_rules.specs.References.{PageLeads, BlobLeads}
use Rattle.fl_check.specs.SoundImages.{RingImage, OfPlace, TableImage, BlobsLead, PagesFit, IsNumbered, AreNumbered, AreBehind, StandsSettled, SoundImages}
use Rattle.fl_check.specs.StandingRings.{HaveSize, IsSortedLogForm, StandsRuled, RingsStand}
use Rattle.fl_rules.specs.Tally.{tally_of}
use Rattle.fl_check.specs.Whole.{Fits, LogFits, OfRing, IsIndexForm, IsVarForm, layout_in, shape_in, rows_shape, indexing, end_in, index_end, tally_in}
use Rattle.fl_rules.specs.declared.numbering.Numbering.{Numbering}
use Rattle.fl_rules.specs.declared.tally.Tally.{Tally}
use Rattle.fl_check.proofs.BlobBytes.{IsReadBy, read_from, reads-all}
use Rattle.fl_check.proofs.ConfigFacts.{some-bits}
use Rattle.fl_rules.proofs.ContentPages.{content_back}
use Rattle.fl_check.proofs.HeldRings.{place-size}
use Rattle.fl_check.proofs.HeldTables.{HasRing, has-ring, rows_count, entries, data_image, data_counted, data_few, data_fit, data_read, data_rise, data_tallied, data_ends, data_follows, data_told, data_bytes, data_lead, index-reads, var-reads, log-reads}
use Rattle.fl_check.proofs.LedBlobs.{content_of, blobs-lead}
use Rattle.fl_check.proofs.ListedTables.{HasData, IndexTells, tells-none, index-tells}
use Rattle.fl_check.proofs.RingReads.{Follows, OfNumbered}
use Rattle.fl_check.proofs.SoundRings.{have_size, log-sizes, rings-stand}
use Rattle.fl_check.proofs.TableFacts.{stands-settled}
use Rattle.fl_rules.proofs.TablePages.{ReadsAll, header-is}
use Rattle.fl_check.proofs.TrimmedEntries.{IsListed}

-- ---- the pages of the log: the newest one, and those before it

record Newest (pages : List (List Entry)) (some : Bool) : Type 0 where
  pub logged : List Entry
  pub before : List (List Entry)
  pub same : before ++ cond some (logged ∷ []) [] ≡ pages
  pub none : some ≡ false → logged ≡ []

last-page : (page : List Entry) (pages : List (List Entry)) → Newest (page ∷ pages) true
last-page page [] = record { logged = page; before = []; same = refl; none = λ e. absurd (true≢false e) }
last-page page (next ∷ pages) =
    let rest = last-page next pages in
    record { logged = rest.logged; before = page ∷ rest.before; same = ap (λ (l : List (List Entry)). page ∷ l) rest.same; none = λ e. absurd (true≢false e) }

newest-page : (pages : List (List Entry)) → Newest pages (nat_lt 0 (length pages))
newest-page [] = record { logged = []; before = []; same = refl; none = λ e. refl }
newest-page (page ∷ pages) = subst (Newest (page ∷ pages)) (sym (lt-ltb 0 (length (page ∷ pages)) (omega arith))) (last-page page pages)

newest : (ring : Option model.Ring) (pages : List (List Entry)) → length pages ≡ full_pages (counts_in ring) → Newest pages (has_rows ring)
newest ring pages many = subst (Newest pages) (ap (nat_lt 0) many ∙ sym (by_ring ring)) (newest-page pages)
  where
    any-full : (counts : List ℕ) → list_any (nat_lt 0) counts ≡ nat_lt 0 (full_pages counts)
    any-full [] = refl
    any-full (zero ∷ counts) = any-full counts
    any-full (suc c ∷ counts) =
        ap (λ (b : Bool). b || list_any (nat_lt 0) counts) (lt-ltb 0 (suc c) (omega arith))
        ∙ sym (lt-ltb 0 (full_pages (suc c ∷ counts)) (omega (arith, full-cons (suc c) counts, full-one (suc c) (omega arith))))

    by_ring : (o : Option model.Ring) → has_rows o ≡ nat_lt 0 (full_pages (counts_in o))
    by_ring None = refl
    by_ring (Some r) = any-full r.counts

-- ---- the table

module _ (label : Label) (config : TableConfig) (log : Option RingPlace) (f : FlashState) (records pages voids : ℕ) (fits : Fits config f) (logs : LogFits log f) (reaches : f.start + extent f.geometry f.blocks ≤ length f.media.content)
    (told : IsTrue f.media.tells) (stand : RingsStand config log f records pages voids) where
  large : 64 ≤ config.geometry.page
  large = fits.limits.geometry.page_low

  short : config.geometry.page ≤ 4096
  short = fits.limits.geometry.page_high

  sizes : (place : RingPlace) → IsRingSize place → place.first_block + place.blocks ≤ f.blocks → IsShape (shape_in config place) × HaveSize (page_at f) (shape_in config place)
  sizes place size within = (record { blocks = size.0; per_block = fits.limits.geometry.block_low; size = large }, have_size config f fits reaches told place within)

  of-place : (o : Option RingPlace) → IfSome o IsRingSize → IfSome o (λ place. place.first_block + place.blocks ≤ f.blocks) → IfSome o (λ place. IsShape (shape_in config place) × HaveSize (page_at f) (shape_in config place))
  of-place None size within = tt
  of-place (Some place) size within = sizes place size within

  log-size : IfSome log IsRingSize × IfSome log (λ place. place.first_block + place.blocks ≤ f.blocks)
  log-size = log-sizes log f logs

  -- the bytes of its blobs are those that its pages of variable data have
  abbrev reader : BlobRef → List ℕ
  reader = read_from (shape_in config) (page_at f) config.var stand.t.var

  all_read : ReadsAll reader
  all_read = reads-all (shape_in config) (page_at f) config.var stand.t.var

  abbrev made_plan : Plan
  made_plan = with_log (blocks_in log) (plan_of_table label config)

  abbrev listed_body : ℕ → IndexPage → List ℕ
  listed_body number listed = index_body made_plan number listed.first listed.entries

  index : HasRing label config log reader all_read f large short IndexPage (IsListed made_plan) (λ count. (count ≡ 0) ⊎ (count ≡ entries_per_page made_plan)) (λ listed. length listed.entries) listed_body 0 config.index stand.t.index
  index = has-ring label config log reader all_read f large short IndexPage (IsListed made_plan) (λ count. (count ≡ 0) ⊎ (count ≡ entries_per_page made_plan)) (inl refl) (λ listed. length listed.entries) listed_body (IsIndexForm config) (λ body. entries_per_page made_plan) 0
      config.index stand.t.index (of-place config.index fits.limits.index fits.index) stand.index (index-reads label config log reader all_read f large short fits.limits)

  abbrev var_least : ℕ
  var_least = (tally_in config (page_at f) stand.t.rows).blob_end

  var : HasRing label config log reader all_read f large short ContentPage (IsContent made_plan) (λ count. (count ≡ 0) ⊎ (count ≡ 1)) (λ content. 1) content_body var_least config.var stand.t.var
  var = has-ring label config log reader all_read f large short ContentPage (IsContent made_plan) (λ count. (count ≡ 0) ⊎ (count ≡ 1)) (inl refl) (λ content. 1) content_body IsVarForm (λ body. 1) var_least
      config.var stand.t.var (of-place config.var fits.limits.var fits.var) stand.var (λ place is. var-reads label config log reader all_read f large short)

  abbrev logged_body : ℕ → List Entry → List ℕ
  logged_body number rows = rows_body (made_plan.geometry.page - 8) (row_layout made_plan) number 0 (map stored_row rows)

  logged : HasRing label config log reader all_read f large short (List Entry) (IsLogPage made_plan) (λ count. count ≤ rows_per_page made_plan) (λ rows. length rows) logged_body 0 log stand.t.log
  logged = has-ring label config log reader all_read f large short (List Entry) (IsLogPage made_plan) (λ count. count ≤ rows_per_page made_plan) (omega arith) (λ rows. length rows) logged_body (IsSortedLogForm config) (rows_count label config log reader all_read) 0
      log stand.t.log (of-place log log-size.0 log-size.1) stand.logged (λ place is. log-reads label config log reader all_read f large short)

  logs_newest : Newest logged.pages (has_rows logged.ring)
  logs_newest = newest logged.ring logged.pages logged.many

  rows_sizes : IsShape (rows_shape config) × HaveSize (page_at f) (rows_shape config)
  rows_sizes = sizes config.rows fits.limits.rows fits.rows

  abbrev rows_least : ℕ
  rows_least = index_end config (page_at f) stand.t.index

  all_entries : List Entry
  all_entries = entries label config log reader all_read f large short rows_least stand.t.rows rows_sizes.0 rows_sizes.1 stand.rows

  abbrev table : Table
  table = record {
    entries = all_entries;
    rows = ring_counts (rows_count label config log reader all_read) stand.rows.s;
    index = index.ring;
    var = var.ring;
    log = logged.ring;
    index_pages = index.pages;
    var_pages = var.pages;
    logged = logs_newest.logged;
    logged_before = logs_newest.before;
    pending = 0;
    buffered = [];
    waiting = [];
    points = [];
  }

  image : TableImage config log (page_at f) made_plan table
  unfolding all_entries
  image = record {
    lost = ap (λ (l : List Entry). record table { entries = l }) (sym (take_all (length all_entries - 0) all_entries (omega arith)));
    rows = data_image label config log reader all_read f large short rows_least stand.t.rows rows_sizes.0 rows_sizes.1 stand.rows;
    index = index.image;
    var = var.image;
    logged = subst (λ (pages : List (List Entry)). OfPlace (λ place ring. RingImage (page_at f) (shape_in config place) ring (λ i count page. HoldsPage pages logged_body ring i count page)) log logged.ring) (sym logs_newest.same) logged.image;
  }

  -- ---- the data pages, as the other rules read them

  follows : Follows (page_at f) (rows_shape config) rows_least table.rows stand.t.rows
  follows = data_follows label config log reader all_read f large short rows_least stand.t.rows rows_sizes.0 rows_sizes.1 stand.rows

  -- where a table has an index
  data_has : IsTrue (is_bits (bits_in config.buckets)) → HasData made_plan (page_at f) (rows_shape config) (layout_in config) table stand.t.rows
  unfolding all_entries
  data_has bits = record {
    headers = λ i c here some.
        header-is made_plan (oldest stand.rows.s + i) (rows_at table i c) (page_at f (kept_page (rows_shape config) stand.t.rows.marks i)) bits (widths (bits_in config.buckets) bits).1
        (data_bytes label config log reader all_read f large short rows_least stand.t.rows rows_sizes.0 rows_sizes.1 stand.rows i c here some);
    rows_told = data_told label config log reader all_read f large short rows_least stand.t.rows rows_sizes.0 rows_sizes.1 stand.rows;
  }

  -- ---- the index

  index_told : IndexTells made_plan table rows_least
  index_told = by_index config.index stand.t.index index.ring refl index.follows index.image stand.sound.entries index.many
    where
      few : entries_per_page made_plan < 2 ^ 16
      few = let less = div-le_self (config.geometry.page - 24) (entry_len made_plan) in let most = short in omega (arith, less, most)

      by_index : (o : Option RingPlace) (n : Option Numbering) (ring : Option model.Ring) → config.index ≡ o → OfNumbered (λ place n ring. Follows (page_at f) (shape_in config place) 0 ring n) o n ring →
          OfPlace (λ place ring. RingImage (page_at f) (shape_in config place) ring (λ i count page. HoldsPage index.pages listed_body ring i count page)) o ring →
          OfRing (λ place n. HaveEntries (page_at f) (shape_in config place) (rows_shape config) (indexing config n stand.t.rows)) o n → length index.pages ≡ full_pages (counts_in ring) →
          IndexTells made_plan table (end_in config (page_at f) o n)
      by_index None None None is of pages rule many = tells-none made_plan table 0 many
      by_index None None (Some ring) is of pages rule many = absurd pages
      by_index None (Some n) ring is of pages rule many = absurd rule
      by_index (Some place) None ring is of pages rule many = absurd rule
      by_index (Some place) (Some n) None is of pages rule many = absurd pages
      by_index (Some place) (Some n) (Some ring) is of pages rule many =
          index-tells made_plan (page_at f) (shape_in config place) (rows_shape config) rows_least (layout_in config) table ring n stand.t.rows of follows refl few many index.fit
          pages.pages.kept (data_has (some-bits label config place is fits.limits)) rule

  -- ---- the blobs

  -- its rows lead to blobs, and the entries have their bytes
  rows_lead : (place : RingPlace) (n : Numbering) → AllBelow (PageLeads (layout_in config) (page_at f) (rows_shape config) stand.t.rows.marks (shape_in config place) n) stand.t.rows.marks.kept →
      AllByRecursion (λ entry. BlobLeads (page_at f) (shape_in config place) n (stored_row entry).blob) table.entries
  unfolding all_entries
  rows_lead place n rule = data_lead label config log reader all_read f large short rows_least stand.t.rows rows_sizes.0 rows_sizes.1 stand.rows (shape_in config place) n rule

  entries_read : AllByRecursion (IsReadBy (read_from (shape_in config) (page_at f) config.var stand.t.var)) table.entries
  unfolding all_entries
  entries_read = data_read label config log reader all_read f large short rows_least stand.t.rows rows_sizes.0 rows_sizes.1 stand.rows

  blobs_told : IfSome table.var (BlobsLead made_plan table)
  blobs_told = by_var config.var stand.t.var var.ring (of-place config.var fits.limits.var fits.var) var.follows var.image stand.sound.references var.counts entries_read
    where
      by_var : (o : Option RingPlace) (n : Option Numbering) (ring : Option model.Ring) → IfSome o (λ place. IsShape (shape_in config place) × HaveSize (page_at f) (shape_in config place)) →
          OfNumbered (λ place n ring. Follows (page_at f) (shape_in config place) var_least ring n) o n ring →
          OfPlace (λ place ring. RingImage (page_at f) (shape_in config place) ring (λ i count page. HoldsPage var.pages content_body ring i count page)) o ring →
          OfRing (λ place n. AllBelow (PageLeads (layout_in config) (page_at f) (rows_shape config) stand.t.rows.marks (shape_in config place) n) stand.t.rows.marks.kept) o n →
          AllByRecursion (λ count. (count ≡ 0) ⊎ (count ≡ 1)) (counts_in ring) → AllByRecursion (IsReadBy (read_from (shape_in config) (page_at f) o n)) table.entries → IfSome ring (BlobsLead made_plan table)
      by_var None None None size of pages rule ones read = tt
      by_var None None (Some ring) size of pages rule ones read = absurd pages
      by_var None (Some n) ring size of pages rule ones read = absurd rule
      by_var (Some place) None ring size of pages rule ones read = absurd rule
      by_var (Some place) (Some n) None size of pages rule ones read = absurd pages
      by_var (Some place) (Some n) (Some ring) size of pages rule ones read =
          blobs-lead made_plan (page_at f) (shape_in config place) var_least table ring n of refl (let some = large in omega (arith, some)) (place-size (page_at f) (shape_in config place) size.0 size.1) ones held (rows_lead place n rule) read
        where
          held : (i : ℕ) → slice_get ring.counts i ≡ Some 1 → slice_get var.pages (full_pages (take i ring.counts)) ≡ Some (content_of (config.geometry.page - 16) (page_at f (placed (shape_in config place) (model.oldest ring + i))))
          held i is =
              let h = pages.pages.kept i 1 is (omega arith) in
              let fits = each-at (IsContent made_plan) var.pages (full_pages (take i ring.counts)) h.holds var.fit h.is in
              let long = place-size (page_at f) (shape_in config place) size.0 size.1 (model.oldest ring + i) in
              let most = short in
              h.is ∙ ap (λ (content : ContentPage). Some content)
              (content_back (page_at f (placed (shape_in config place) (model.oldest ring + i))) (model.oldest ring + i) made_plan h.holds fits h.bytes (omega (arith, long, most)))

  -- ---- its facts

  fit : PagesFit made_plan table
  unfolding all_entries
  fit = record {
    has_rings = (index.there, var.there, logged.there);
    counted = data_counted label config log reader all_read f large short rows_least stand.t.rows rows_sizes.0 rows_sizes.1 stand.rows;
    few_rows = data_few label config log reader all_read f large short rows_least stand.t.rows rows_sizes.0 rows_sizes.1 stand.rows;
    fit = data_fit label config log reader all_read f large short rows_least stand.t.rows rows_sizes.0 rows_sizes.1 stand.rows;
    ascending = data_rise label config log reader all_read f large short rows_least stand.t.rows rows_sizes.0 rows_sizes.1 stand.rows stand.sound.rings.rows.keys;
    index_counts = index.counts;
    index_each = index.many;
    index_fit = each-weaker (IsListed made_plan) (λ listed. length listed.entries ≡ entries_per_page made_plan) (λ listed is. is.many) index.pages index.fit;
    var_counts = var.counts;
    var_each = var.many;
    var_fit = var.fit;
    log_counts = logged.counts;
    log_each = ap (λ (pages : List (List Entry)). map (λ (rows : List Entry). length rows) pages) logs_newest.same ∙ logged.sizes;
    log_fit = subst (AllByRecursion (IsLogPage made_plan)) (sym logs_newest.same) logged.fit;
    logged_some = logs_newest.none;
    firsts = index_told.firsts;
    listed = index_told.listed;
    tell = index_told.tell;
    blobs = blobs_told;
  }

  -- the ring of a table that may not have it
  ring-of : (Holds : model.Ring → ℕ → ℕ → List ℕ → Type 0) (o : Option RingPlace) (ring : Option model.Ring) → OfPlace (λ place ring. RingImage (page_at f) (shape_in config place) ring (Holds ring)) o ring →
      IfSome ring (model.IsRing (record { blocks = blocks_in o; pages = config.geometry.block }))
  ring-of Holds None None pages = tt
  ring-of Holds None (Some ring) pages = absurd pages
  ring-of Holds (Some place) None pages = absurd pages
  ring-of Holds (Some place) (Some ring) pages = pages.is

  -- ---- its numbers

  -- the next number of a ring that a table may not have
  next-is : (Stands : RingPlace → Numbering → Type 0) (Holds : RingPlace → model.Ring → Type 0) (least : ℕ) (o : Option RingPlace) (n : Option Numbering) (ring : Option model.Ring) → OfRing Stands o n → OfPlace Holds o ring →
      OfNumbered (λ place n ring. Follows (page_at f) (shape_in config place) least ring n) o n ring → IsNumbered n ring
  next-is Stands Holds least None None None stands holds reads = tt
  next-is Stands Holds least None None (Some ring) stands holds reads = absurd holds
  next-is Stands Holds least None (Some n) ring stands holds reads = absurd stands
  next-is Stands Holds least (Some place) None ring stands holds reads = absurd stands
  next-is Stands Holds least (Some place) (Some n) None stands holds reads = absurd holds
  next-is Stands Holds least (Some place) (Some n) (Some ring) stands holds reads = (sym reads.next, reads.left)

  numbered : AreNumbered config log (page_at f) table
  numbered = record {
    t = stand.t;
    sound = stand.sound;
    rows = (sym follows.next, follows.left);
    index = next-is (λ place n. StandsRuled (IsIndexForm config) f (shape_in config place) 0 n) (λ place ring. RingImage (page_at f) (shape_in config place) ring (λ i count page. HoldsPage index.pages listed_body ring i count page)) 0
        config.index stand.t.index index.ring stand.index index.image index.follows;
    var = next-is (λ place n. StandsRuled IsVarForm f (shape_in config place) var_least n) (λ place ring. RingImage (page_at f) (shape_in config place) ring (λ i count page. HoldsPage var.pages content_body ring i count page)) var_least
        config.var stand.t.var var.ring stand.var var.image var.follows;
    logged = next-is (λ place n. StandsRuled (IsSortedLogForm config) f (shape_in config place) 0 n) (λ place ring. RingImage (page_at f) (shape_in config place) ring (λ i count page. HoldsPage logged.pages logged_body ring i count page)) 0
        log stand.t.log logged.ring stand.logged logged.image logged.follows;
  }

  ends_are : blob_end table ≡ var_least
  unfolding all_entries
  ends_are = sym (data_ends label config log reader all_read f large short rows_least stand.t.rows rows_sizes.0 rows_sizes.1 stand.rows)

  behind : AreBehind made_plan table
  behind = record {
    rows = λ void. let at_least = follows.behind void in omega (arith, at_least, index_told.ends);
    var = by_var config.var stand.t.var var.ring stand.var var.image var.follows;
  }
    where
      by_var : (o : Option RingPlace) (n : Option Numbering) (ring : Option model.Ring) → OfRing (λ place n. StandsRuled IsVarForm f (shape_in config place) var_least n) o n →
          OfPlace (λ place ring. RingImage (page_at f) (shape_in config place) ring (λ i count page. HoldsPage var.pages content_body ring i count page)) o ring →
          OfNumbered (λ place n ring. Follows (page_at f) (shape_in config place) var_least ring n) o n ring →
          IfSome ring (λ ring. list_any (nat_lt 0) ring.counts ≡ false → blob_end table + length ring.counts ≤ ring.next)
      by_var None None None stands pages reads = tt
      by_var None None (Some ring) stands pages reads = absurd pages
      by_var None (Some n) ring stands pages reads = absurd stands
      by_var (Some place) None ring stands pages reads = absurd stands
      by_var (Some place) (Some n) None stands pages reads = absurd pages
      by_var (Some place) (Some n) (Some ring) stands pages reads = λ void. let at_least = reads.behind void in let ends = ends_are in omega (arith, at_least, ends)

  settled : StandsSettled made_plan table
  settled = stands-settled made_plan table image.lost fit image.rows.is (ring-of (HoldsPage index.pages listed_body) config.index index.ring index.image) (ring-of (HoldsPage var.pages content_body) config.var var.ring var.image)
      (ring-of (HoldsPage logged.pages logged_body) log logged.ring logged.image)

  abbrev tally : ℕ → Tally
  tally k = tally_of (layout_in config) (page_at f) (rows_shape config) stand.t.rows.marks k

  all_told : tally (0 + length stand.rows.s.kept) ≡ tally stand.t.rows.marks.kept
  all_told = ap (λ (k : ℕ). tally_of (layout_in config) (page_at f) (rows_shape config) stand.t.rows.marks k) (let e : 0 + length stand.rows.s.kept ≡ stand.t.rows.marks.kept = omega (arith, stand.rows.kept) in e)

  many_rows : length table.entries ≡ records
  unfolding all_entries
  many_rows =
      let told = data_tallied label config log reader all_read f large short rows_least stand.t.rows rows_sizes.0 rows_sizes.1 stand.rows in
      omega (arith, fit.counted, told.rows, ap (λ (t : Tally). t.rows) all_told, stand.records_is)

  many_voids : full_pages table.rows.counts + voids ≡ pages
  many_voids =
      let told = data_tallied label config log reader all_read f large short rows_least stand.t.rows rows_sizes.0 rows_sizes.1 stand.rows in
      omega (arith, told.voids, ap (λ (t : Tally). t.voids) all_told, stand.voids_is, stand.kept)

  many_pages : length table.rows.counts ≡ pages
  many_pages = length-map stand.rows.s.kept (page_count (rows_count label config log reader all_read)) ∙ stand.kept

pub sound-images : SoundImages
sound-images label config log f rows pages voids fits logs reaches told is =
    let stand = rings-stand config log f rows pages voids fits logs reaches told is in
    record {
      table = table label config log f rows pages voids fits logs reaches told stand;
      image = image label config log f rows pages voids fits logs reaches told stand;
      fit = fit label config log f rows pages voids fits logs reaches told stand;
      numbered = numbered label config log f rows pages voids fits logs reaches told stand;
      behind = behind label config log f rows pages voids fits logs reaches told stand;
      stands = settled label config log f rows pages voids fits logs reaches told stand;
      rows_are = many_rows label config log f rows pages voids fits logs reaches told stand;
      voids_are = many_voids label config log f rows pages voids fits logs reaches told stand;
      pages_are = many_pages label config log f rows pages voids fits logs reaches told stand;
    }
