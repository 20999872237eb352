-- A flash on which a sound table lies stands for a table of the model, where the table is as runs leave it.
use Rattle.std.proofs.Common.{◌≡◌, ℕ, ◌+◌, ◌-◌, ◌*◌, ◌%◌, ◌≤◌, ◌<◌, ◌∷◌, Bool, false, cond, nat_lt, Option, Some, None, IfSome, List, [], length, map, filter, refl, sym, ◌∙◌, ap, subst, arith}
use Rattle.std.specs.List.{AllByRecursion, list_any, slice_get}
use Rattle.std.proofs.lemmas.Bool.{true≢false}
use Rattle.fl_base.specs.declared.types.Geometry.{Geometry}
use Rattle.fl_base.specs.declared.types.RingPlace.{RingPlace}
use Rattle.fl_check.specs.SoundImages.{RingImage, OfPlace, BlobsLead, PagesFit, IsNumbered, NumbersAreLeft, IsAsRunsLeave, StandsSettled, HasImage}
use Rattle.fl_check.specs.Whole.{shape_in}
use Rattle.fl_rules.specs.declared.numbering.Numbering.{Numbering}
use Rattle.fl_check.proofs.SoundImages.{sound-images}
use Rattle.fl_check.proofs.TableFacts.{stands-settled}
use Rattle.fl_flash.specs.Flash.{FlashState, page_at}
use Rattle.fl_model.specs.Agrees.{BlobsOf}
use Rattle.fl_model.specs.Bare.{bare, bare_table}
use Rattle.fl_model.specs.Facts.{FitsPlan, IsContent, IsSettled, counts_in, is_some_ring}
use Rattle.fl_model.specs.Image.{IsRingImage, HoldsEntries, HoldsContent, HoldsLogged}
use Rattle.fl_model.specs.Mount.{index_end, blob_end}
use Rattle.fl_model.specs.Record.{Plan, blocks_of, rows_per_page}
use Rattle.fl_model.specs.Ring.{Ring, IsRing, oldest}
use Rattle.fl_model.specs.Table.{Table, Entry, RingName, DataRing, IndexRing, VarRing, LogRing, ring_of, has_rows, log_pages}
use Rattle.fl_model.proofs.Lists.{each-weaker, nil_front, nil_map}
use Rattle.fl_plan.specs.Plan.{Label, label_of, blocks_in, plan_of_table, with_log}
use Rattle.fl_plan.specs.declared.table_config.TableConfig.{TableConfig}
use Rattle.fl_plan.proofs.RingPlaces.{ring-blocks, ring-first}
use Rattle.fl_parts.specs.Blobs.{AreLed}
use Rattle.fl_parts.specs.Mountable.{AreVoid, IsPaged}
use Rattle.fl_parts.specs.Pages.{HoldsTable}
use Rattle.fl_parts.specs.Pages as pages
use Rattle.fl_rlc.specs.Logged.{Rests}
use Rattle.fl_rlc.specs.Memory.{IsPlanned, page_in}
use Rattle.fl_rlc.specs.Repairing as repairing
use Rattle.fl_rlc.specs.declared.log.RecordLog.{RecordLog}
use Rattle.fl_rlc.proofs.BareFacts.{contents, tells}
use Rattle.fl_rlc.proofs.TakenRecord.{fits-bare}
use Rattle.fl_sound.specs.Mounts.{HasTable, SoundTablesMount}

-- ---- rings in their places

module _ (page : ℕ → List ℕ) (config : TableConfig) where
  -- a ring of so many blocks from one on
  abbrev StandsAt : (Ring → ℕ → ℕ → List ℕ → Type 0) → ℕ → ℕ → Ring → Type 0
  StandsAt Holds begin blocks ring =
      IsRingImage (record { blocks = blocks; pages = config.geometry.block }) ring (λ number. page (begin * config.geometry.block + number % (blocks * config.geometry.block))) (Holds ring)

  ring-at : (Holds : Ring → ℕ → ℕ → List ℕ → Type 0) (o : Option RingPlace) (ring : Option Ring) (begin : ℕ) → IfSome o (λ place. place.first_block ≡ begin) →
      OfPlace (λ place ring. RingImage page (shape_in config place) ring (Holds ring)) o ring → IfSome ring (StandsAt Holds begin (blocks_in o))
  ring-at Holds None None begin at is = tt
  ring-at Holds None (Some ring) begin at is = absurd is
  ring-at Holds (Some place) None begin at is = absurd is
  ring-at Holds (Some place) (Some ring) begin at is = subst (λ (k : ℕ). StandsAt Holds k place.blocks ring) at is.pages

  ring-is : (Holds : Ring → ℕ → ℕ → List ℕ → Type 0) (o : Option RingPlace) (ring : Option Ring) → OfPlace (λ place ring. RingImage page (shape_in config place) ring (Holds ring)) o ring →
      IfSome ring (IsRing (record { blocks = blocks_in o; pages = config.geometry.block }))
  ring-is Holds None None is = tt
  ring-is Holds None (Some ring) is = absurd is
  ring-is Holds (Some place) None is = absurd is
  ring-is Holds (Some place) (Some ring) is = is.is

-- ---- the table without its log

module _ (plan : Plan) (table : Table) (fit : PagesFit plan table) where
  bare-fit : PagesFit (bare plan) (bare_table table)
  bare-fit = record {
    has_rings = (fit.has_rings.0, fit.has_rings.1, refl);
    counted = fit.counted;
    few_rows = fit.few_rows;
    fit = each-weaker (FitsPlan plan) (FitsPlan (bare plan)) (fits-bare plan) table.entries fit.fit;
    ascending = fit.ascending;
    index_counts = fit.index_counts;
    index_each = fit.index_each;
    index_fit = fit.index_fit;
    var_counts = fit.var_counts;
    var_each = fit.var_each;
    var_fit = each-weaker (IsContent plan) (IsContent (bare plan)) (contents plan) table.var_pages fit.var_fit;
    log_counts = tt;
    log_each = refl;
    log_fit = tt;
    logged_some = λ none. refl;
    firsts = fit.firsts;
    listed = fit.listed;
    tell = λ k listed at. tells plan table listed.first listed.entries (fit.tell k listed at);
    blobs = by_ring table.var fit.blobs;
  }
    where
      by_ring : (o : Option Ring) → IfSome o (BlobsLead plan table) → IfSome o (BlobsLead (bare plan) (bare_table table))
      by_ring None leads = tt
      by_ring (Some ring) leads = λ i entry blob here is some.
          let lead = leads i entry blob here is some in
          record {
            written = lead.written;
            reaches = lead.reaches;
            holds = λ stands. let b = lead.holds stands in record { pages = b.pages; there = b.there; within = b.within; full = b.full; ends = b.ends; stored = b.stored };
          }

  -- .. is the table, where it has none
  bare-is : table.log ≡ None → bare_table table ≡ table
  bare-is none =
      let logged : table.logged ≡ [] = fit.logged_some (ap has_rows none) in
      let before : table.logged_before ≡ [] =
      nil_front table.logged_before (cond (has_rows table.log) (table.logged ∷ []) []) (nil_map (λ (rows : List Entry). length rows) (log_pages table) (fit.log_each ∙ ap (λ (o : Option Ring). filter (nat_lt 0) (counts_in o)) none)) in
      ap (λ (o : Option Ring). record table { log = o; logged = []; logged_before = [] }) (sym none)
      ∙ ap (λ (rows : List Entry). record table { logged = rows; logged_before = [] }) (sym logged)
      ∙ ap (λ (pages : List (List Entry)). record table { logged_before = pages }) (sym before)

  bare-left : IsAsRunsLeave plan table → IsAsRunsLeave (bare plan) (bare_table table)
  bare-left left = record { numbers = record { each = each; listed = left.numbers.listed }; begin = left.begin }
    where
      each : (name : RingName) → IfSome (ring_of name (bare_table table)) (λ ring. ring.next + cond ring.torn 1 0 ≤ 4294967292)
      each DataRing = left.numbers.each DataRing
      each IndexRing = left.numbers.each IndexRing
      each VarRing = left.numbers.each VarRing
      each LogRing = tt

-- ---- a plan of the configuration, whose rings lie one after another

module _ (label : Label) (config : TableConfig) (log : Option RingPlace) (f : FlashState) (rows kept voids : ℕ) (image : HasImage config log (page_at f) (with_log (blocks_in log) (plan_of_table label config)) rows kept voids)
    (index_at : IfSome config.index (λ place. place.first_block ≡ config.rows.first_block + config.rows.blocks)) (var_at : IfSome config.var (λ place. place.first_block ≡ config.rows.first_block + config.rows.blocks + blocks_in config.index))
    (log_at : IfSome log (λ place. place.first_block ≡ config.rows.first_block + config.rows.blocks + blocks_in config.index + blocks_in config.var)) where
  abbrev plan : Plan
  plan = with_log (blocks_in log) (plan_of_table label config)

  abbrev table : Table
  table = image.table

  abbrev first : ℕ
  first = config.rows.first_block

  holds : HoldsTable (page_at f) first plan table
  holds = record {
    rows = image.image.rows.pages;
    index = ring-at (page_at f) config (HoldsEntries plan table) config.index table.index (config.rows.first_block + config.rows.blocks) index_at image.image.index;
    var = ring-at (page_at f) config (HoldsContent table) config.var table.var (config.rows.first_block + config.rows.blocks + blocks_in config.index) var_at image.image.var;
  }

  logged : IfSome table.log (StandsAt (page_at f) config (HoldsLogged plan table) (config.rows.first_block + config.rows.blocks + blocks_in config.index + blocks_in config.var) (blocks_in log))
  logged = ring-at (page_at f) config (HoldsLogged plan table) log table.log (config.rows.first_block + config.rows.blocks + blocks_in config.index + blocks_in config.var) log_at image.image.logged

  rings-rest : IsSettled plan table → Rests f first plan table
  rings-rest settled = record { settled = settled; pages = holds; log = logged }

  bare-settled : IsAsRunsLeave plan table → IsSettled (bare plan) (bare_table table)
  bare-settled left = stands.settled (bare-left plan table image.fit left) (stands.unlogged refl)
    where
      stands : StandsSettled (bare plan) (bare_table table)
      stands = stands-settled (bare plan) (bare_table table) (ap bare_table image.image.lost) (bare-fit plan table image.fit) image.image.rows.is
          (ring-is (page_at f) config (HoldsEntries plan table) config.index table.index image.image.index) (ring-is (page_at f) config (HoldsContent table) config.var table.var image.image.var) tt

  bare-holds : HoldsTable (page_at f) first (bare plan) (bare_table table)
  bare-holds = record { rows = holds.rows; index = holds.index; var = holds.var }

  bare-rests : IsAsRunsLeave plan table → pages.Rests f first (bare plan) (bare_table table)
  bare-rests left = record { settled = bare-settled left; pages = bare-holds }

  -- ---- what its mount asks

  number-is : (n : Option Numbering) (o : Option Ring) → IsNumbered n o → IfSome o (λ ring. ring.next + cond ring.torn 1 0 ≤ 4294967295)
  number-is None None is = tt
  number-is None (Some ring) is = absurd is
  number-is (Some n) None is = absurd is
  number-is (Some n) (Some ring) is = omega (arith, is.1)

  blobs-led : (o : Option Ring) → IfSome o (BlobsLead plan table) → IfSome o (λ ring. AreLed (bare plan) ring table.entries)
  blobs-led None leads = tt
  blobs-led (Some ring) leads = λ i entry blob here is some. let lead = leads i entry blob here is some in (lead.written, lead.reaches)

  blobs-stand : (o : Option Ring) → IfSome o (BlobsLead (bare plan) (bare_table table)) → IfSome o (BlobsOf (bare plan) (bare_table table))
  blobs-stand None leads = tt
  blobs-stand (Some ring) leads = λ i entry blob here is some stands. (leads i entry blob here is some).holds stands

  blobs-before : (o : Option Ring) → IfSome o (λ ring. list_any (nat_lt 0) ring.counts ≡ false → blob_end table + length ring.counts ≤ ring.next) → IfSome o (λ ring. AreVoid ring.counts → blob_end (bare_table table) ≤ oldest ring)
  blobs-before None behind = tt
  blobs-before (Some ring) behind = λ void. let h : blob_end (bare_table table) + length ring.counts ≤ ring.next = behind void in omega (arith, h)

  bare-paged : IsPaged (bare plan) (bare_table table)
  bare-paged =
      let fit = bare-fit plan table image.fit in
      record {
        rows = image.image.rows.is;
        index = ring-is (page_at f) config (HoldsEntries plan table) config.index table.index image.image.index;
        var = ring-is (page_at f) config (HoldsContent table) config.var table.var image.image.var;
        has_rings = (image.fit.has_rings.0, image.fit.has_rings.1);
        unlogged = (refl, refl, refl);
        fit = fit.fit;
        counted = fit.counted;
        few_rows = fit.few_rows;
        ascending = fit.ascending;
        index_counts = fit.index_counts;
        index_each = fit.index_each;
        index_fit = fit.index_fit;
        firsts = fit.firsts;
        listed = fit.listed;
        tell = fit.tell;
        var_counts = fit.var_counts;
        var_each = fit.var_each;
        var_fit = fit.var_fit;
        led = blobs-led table.var image.fit.blobs;
        stand = blobs-stand table.var fit.blobs;
        numbers = numbers;
      }
    where
      numbers : (name : RingName) → IfSome (ring_of name (bare_table table)) (λ ring. ring.next + cond ring.torn 1 0 ≤ 4294967295)
      numbers DataRing = omega (arith, image.numbered.rows.1)
      numbers IndexRing = number-is image.numbered.t.index table.index image.numbered.index
      numbers VarRing = number-is image.numbered.t.var table.var image.numbered.var
      numbers LogRing = tt

  bare-mounts : pages.RestsToMount f first (bare plan) (bare_table table)
  bare-mounts = record {
    mountable = record {
      lost = ap bare_table image.image.lost;
      paged = bare-paged;
      behind = λ void low some. absurd (never void low);
      before = blobs-before table.var image.behind.var;
    };
    pages = bare-holds;
  }
    where
      never : AreVoid table.rows.counts → oldest table.rows < index_end plan table → ⊥
      never void low = let h = image.behind.rows void in omega (arith, h, low)

  -- ---- a log

  none-logged : log ≡ None → table.log ≡ None
  none-logged none = by_ring table.log (subst (λ (o : Option RingPlace). OfPlace (λ place ring. RingImage (page_at f) (shape_in config place) ring (HoldsLogged plan table ring)) o table.log) none image.image.logged)
    where
      by_ring : (o : Option Ring) → OfPlace (λ place ring. RingImage (page_at f) (shape_in config place) ring (HoldsLogged plan table ring)) None o → o ≡ None
      by_ring None is = refl
      by_ring (Some ring) is = absurd is

  module _ (left : IsAsRunsLeave plan table) (l : RecordLog) (planned : IsPlanned l (config.rows.first_block + blocks_of (bare plan)) plan) where
    -- its pages in the log's own words
    log-pages : (ring : Ring) → StandsAt (page_at f) config (HoldsLogged plan table) (config.rows.first_block + blocks_of (bare plan)) plan.log_blocks ring →
        IsRingImage (record { blocks = plan.log_blocks; pages = config.geometry.block }) ring (page_in l f) (HoldsLogged plan table ring)
    log-pages ring is =
        subst (λ (g : Geometry). IsRingImage (record { blocks = plan.log_blocks; pages = config.geometry.block }) ring (λ number. page_at f (l.place.first_block * g.block + number % (l.place.blocks * g.block))) (HoldsLogged plan table ring)) planned.geometry
        (subst (λ (k : ℕ). IsRingImage (record { blocks = plan.log_blocks; pages = config.geometry.block }) ring (λ number. page_at f (l.place.first_block * config.geometry.block + number % (k * config.geometry.block))) (HoldsLogged plan table ring)) planned.blocks
        (subst (λ (k : ℕ). IsRingImage (record { blocks = plan.log_blocks; pages = config.geometry.block }) ring (λ number. page_at f (k * config.geometry.block + number % (plan.log_blocks * config.geometry.block))) (HoldsLogged plan table ring)) (sym planned.begins) is))

    log-begins : config.rows.first_block + config.rows.blocks + blocks_in config.index + blocks_in config.var ≡ config.rows.first_block + blocks_of (bare plan)
    log-begins = omega arith

    log-rests : (place : RingPlace) → log ≡ Some place → repairing.Rests l f (config.rows.first_block + blocks_of (bare plan)) plan table
    log-rests place there = by_ring table.log refl (subst (λ (o : Option RingPlace). OfPlace (λ place ring. RingImage (page_at f) (shape_in config place) ring (HoldsLogged plan table ring)) o table.log) there image.image.logged) logged
        (ring-is (page_at f) config (HoldsLogged plan table) log table.log image.image.logged) (left.numbers.each LogRing) image.fit.log_each image.fit.log_counts
      where
        by_ring : (o : Option Ring) → table.log ≡ o → OfPlace (λ place ring. RingImage (page_at f) (shape_in config place) ring (HoldsLogged plan table ring)) (Some place) o →
            IfSome o (StandsAt (page_at f) config (HoldsLogged plan table) (config.rows.first_block + config.rows.blocks + blocks_in config.index + blocks_in config.var) (blocks_in log)) →
            IfSome o (IsRing (record { blocks = blocks_in log; pages = config.geometry.block })) → IfSome o (λ ring. ring.next + cond ring.torn 1 0 ≤ 4294967292) →
            map (λ (rows : List Entry). length rows) (log_pages table) ≡ filter (nat_lt 0) (counts_in o) → AllByRecursion (λ count. count ≤ rows_per_page plan) (counts_in o) → repairing.Rests l f (config.rows.first_block + blocks_of (bare plan)) plan table
        by_ring None is of stands facts number each few = absurd of
        by_ring (Some ring) is of stands facts number each few = record {
          planned = planned;
          ring = ring;
          ring_is = is;
          pages = record {
            facts = facts;
            number = number;
            each = each;
            few = few;
            fit = image.fit.log_fit;
            image = log-pages ring (subst (λ (k : ℕ). StandsAt (page_at f) config (HoldsLogged plan table) k (blocks_in log) ring) log-begins stands);
          };
          logged_some = image.fit.logged_some;
        }

  -- numbers are left, and no row has a blob
  as_left : plan.var_blocks ≡ 0 → NumbersAreLeft plan table → IsAsRunsLeave plan table
  as_left none left = record { numbers = left; begin = λ i entry blob here is some. no-ring table.var entry.page (image.fit.has_rings.1 ∙ ap {B = Bool} (λ (n : ℕ). nat_lt 0 n) none) }
    where
      no-ring : (o : Option Ring) (number : ℕ) → is_some_ring o ≡ false → IfSome o (λ ring. oldest ring ≤ number → slice_get ring.counts (number - oldest ring) ≡ Some 0 → ⊥)
      no-ring None number is = tt
      no-ring (Some ring) number is = absurd (true≢false is)

  found : HasTable config log f plan rows kept voids
  found = record {
    table = table;
    image = image.image;
    fit = image.fit;
    numbered = image.numbered;
    behind = image.behind;
    stands = image.stands;
    as_left = as_left;
    mounts = bare-mounts;
    alone = λ none. bare-is plan table image.fit (none-logged none);
    rests = λ left log_is. rings-rest (image.stands.settled left log_is);
    apart = λ left place l there planned. record { unlogged = bare-rests left; log = log-rests left l planned place there };
    rows_are = image.rows_are;
    pages_are = image.pages_are;
    voids_are = image.voids_are;
  }

-- ---- any plan of the configuration

pub sound-mounts : SoundTablesMount
sound-mounts config log f plan rows kept voids lies is =
    let own : plan_of_table (label_of (bare plan)) config ≡ bare plan = lies.config_is.is in
    let blocks : blocks_in log ≡ plan.log_blocks = ring-blocks log (config.rows.first_block + plan.data_blocks + plan.index_blocks + plan.var_blocks) plan.log_blocks lies.log_at in
    let same : with_log (blocks_in log) (plan_of_table (label_of (bare plan)) config) ≡ plan = ap (with_log (blocks_in log)) own ∙ ap (λ (n : ℕ). with_log n plan) blocks in
    let image = sound-images (label_of (bare plan)) config log f rows kept voids lies.fits lies.log_fits lies.reaches lies.tells is in
    subst (λ (p : Plan). HasTable config log f p rows kept voids) same
    (found (label_of (bare plan)) config log f rows kept voids image
    (subst (λ (p : Plan). IfSome config.index (λ place. place.first_block ≡ config.rows.first_block + p.data_blocks)) (sym own) lies.config_is.index)
    (subst (λ (p : Plan). IfSome config.var (λ place. place.first_block ≡ config.rows.first_block + p.data_blocks + p.index_blocks)) (sym own) lies.config_is.var)
    (subst (λ (p : Plan). IfSome log (λ place. place.first_block ≡ config.rows.first_block + p.data_blocks + p.index_blocks + p.var_blocks)) (sym own)
    (ring-first log (config.rows.first_block + plan.data_blocks + plan.index_blocks + plan.var_blocks) plan.log_blocks lies.log_at)))
