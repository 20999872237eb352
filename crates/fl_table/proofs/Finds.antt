-- What a lookup ends with, in the words of the table.
use Rattle.std.proofs.Common.{◌≡◌, ℕ, ◌+◌, ◌*◌, ◌<◌, ◌≤◌, Bool, true, false, Option, Some, None, option_map, Result, Ok, Err, List, map, length, refl, sym, ◌∙◌, ap, subst, arith, IsTrue}
use Rattle.std.specs.Prelude.{IfOk, IfSome, MatchOption, OnOk, if◌then◌else◌, unwrap_or}
use Rattle.std.specs.List.{slice_get}
use Rattle.std.proofs.lemmas.Bool.{true≢false}
use Rattle.std.proofs.lemmas.Option.{same_Some}
use Rattle.fl_find.specs.Index.{error_in, knots_in, most_reads, window_end}
use Rattle.fl_find.specs.Looking.{BlamesBelow, IsBadBelow, LookFails}
use Rattle.fl_find.specs.Looking as find
use Rattle.fl_find.specs.Pages.{first_key, first_on, rows_on, Holds, IsBadPage, bytes_at}
use Rattle.fl_find.specs.Rows.{RowsRise, HasKey, IsOn, LacksKey, LooksUp}
use Rattle.fl_find.specs.Standing.{HoldsPages, HoldsEntries}
use Rattle.fl_find.specs.declared.row.PageRow.{PageRow}
use Rattle.fl_flash.specs.Buffer.{BufferState}
use Rattle.fl_flash.specs.Flash.{FlashState, page_at}
use Rattle.fl_flash.specs.declared.flash.FlashFault.TheVariants.{PowerLost, Media}
use Rattle.fl_flash.specs.Places.{extent}
use Rattle.fl_model.specs.Image.{rows_at}
use Rattle.fl_model.specs.Record.{Plan, RowLayout, row_layout}
use Rattle.fl_model.specs.Ring as rings
use Rattle.fl_model.specs.Row.{Row, stored_row}
use Rattle.fl_base.specs.Bits.{bits}
use Rattle.fl_model.specs.Spline.{is_covered, is_pending_key, lookup_limit, retained, voids_of}
use Rattle.fl_model.specs.Table as model
use Rattle.fl_model.specs.Table.{lose, pending_entries}
use Rattle.fl_model.proofs.Lists.{slice_get-short}
use Rattle.fl_page.specs.Page.{rows_in}
use Rattle.fl_page.specs.View.{rows_of}
use Rattle.fl_page.specs.declared.view.PageView.{PageView}
use Rattle.fl_page.specs.declared.fault.ReadFault.{ReadFault}
use Rattle.fl_page.specs.declared.fault.ReadFault.TheVariants as fault
use Rattle.fl_page.specs.Causes.{IsCaused}
use Rattle.fl_ring.specs.Place.{shape_of, next_of, oldest_of}
use Rattle.fl_ring.specs.Ring.{Shape, place}
use Rattle.fl_ring.specs.declared.ring.Ring.{Ring}
use Rattle.fl_schema.specs.Schema.{layout_of}
use Rattle.fl_search.specs.Search.{Ascends, IsPageOf, starts_by}
use Rattle.fl_parts.proofs.RowsFound.{has-key, row-viewed}
use Rattle.fl_table.specs.Finding.{AnswersInPages, AnswersPending, BlamesFor, EndsOn, Finds, HasKeyAt, IsRowAt, HoldsIts, HoldsKept, HasBadPage, IsBadFor, IsPageFor, LookupFails, first_at, rows_at as rows_of_page, window_in}
use Rattle.fl_table.specs.Look.{buffered_rows, layout_in, oldest_in}
use Rattle.fl_table.specs.Memory.{next_in, IsPlanned, LiesOn}
use Rattle.fl_table.specs.Standing.{Stands}
use Rattle.fl_table.specs.declared.find.RowAt.TheVariants as at
use Rattle.fl_table.specs.declared.table.Table.{Table}
use Rattle.fl_table.proofs.KeptRead.{ring-place, shown}
use Rattle.fl_parts.proofs.PendingRows.{written-found, written-none, pending-found, pending-none}
use Rattle.fl_table.proofs.SealAnswers.{planned-ring}
use Rattle.fl_parts.proofs.States.{shape_in}

-- the kept pages hold what is written
pub holds-pages : {KNOTS SLOTS : ℕ} (t : Table KNOTS SLOTS) (f : FlashState) (first : ℕ) (plan : Plan) (table : model.Table) (ring : Ring) → Stands t f first plan table → LiesOn t f → f.start + extent f.geometry f.blocks ≤ length f.media.content →
    t.ring ≡ Some ring → IsTrue f.media.tells → HoldsPages (layout_of t.schema) ring f plan table
holds-pages t f first plan table ring stands lies reaches is tells =
    let same : stands.memory.ring ≡ ring = same_Some stands.memory.ring ring (sym stands.memory.ring_is ∙ is) in
    let shape : shape_in first plan ≡ shape_of ring = sym (t.lies ring is ∙ planned-ring t first plan stands.planned) in
    record {
      tells = tells;
      facts = stands.facts;
      next = ap next_of (sym same) ∙ stands.memory.next;
      oldest = ap oldest_of (sym same) ∙ stands.memory.oldest;
      pages = λ i count e.
          let s = shown t f first plan table stands lies reaches i count e in
          subst (λ (l : RowLayout). HoldsEntries l (rings.oldest table.rows + i) (rows_at (lose table) i count) (bytes_at (shape_of ring) f (rings.oldest table.rows + i))) stands.planned.layout
          (subst (λ (p : Shape). HoldsEntries (row_layout plan) (rings.oldest table.rows + i) (rows_at (lose table) i count) (page_at f (place p (rings.oldest table.rows + i)))) shape
          (record { good = s.good; rows = s.rows }));
    }

-- ---- a key that isn't pending

module _ {KNOTS SLOTS : ℕ} (t : Table KNOTS SLOTS) (f : FlashState) (first : ℕ) (plan : Plan) (table : model.Table) (stands : Stands t f first plan table) (key before now : ℕ) (buf : BufferState) where
  pub finds-page : (place : Option PageRow) → is_pending_key table key ≡ false → LooksUp KNOTS plan (layout_of t.schema) table key before now (Ok place) buf →
      Finds KNOTS plan table key before now buf (Ok (option_map at.InPage place))
  finds-page None is h = record { entry = written-none plan table stands.facts key is h.entry; exact = λ p covered. h.exact covered; some = tt }
  finds-page (Some place) is h = record {
    entry = record {
      entry = h.entry.entry;
      found = written-found plan table stands.facts key h.entry.entry h.entry.found;
      row = subst (λ (l : RowLayout). slice_get (rows_on l buf.bytes) place.row ≡ Some (stored_row h.entry.entry)) (sym stands.planned.layout) h.entry.row;
    };
    exact = λ p covered. h.exact covered;
    some = h.some;
  }

  pub finds-fault : (e : ReadFault) → is_pending_key table key ≡ false → LooksUp KNOTS plan (layout_of t.schema) table key before now (Err e) buf → Finds KNOTS plan table key before now buf (Err e)
  finds-fault (fault.Flash e) is h = is
  finds-fault (fault.BadPage bad) is h = h

  -- ---- a pending key

  pub finds-pending : (place : Option ℕ) → is_pending_key table key ≡ true →
      MatchOption place (LacksKey (map stored_row (pending_entries table)) key) (λ i. HasKey (map stored_row (pending_entries table)) key i) →
      Finds KNOTS plan table key before now buf (Ok (option_map at.Pending place))
  finds-pending None is h = record { entry = pending-none plan table stands.facts key is h; exact = λ p covered. absurd (true≢false (sym is ∙ p)); some = tt }
  finds-pending (Some i) is h =
      let x = pending-found plan table stands.facts key i h in
      record { entry = record { entry = x.0; found = x.1; row = x.2 }; exact = λ p covered. absurd (true≢false (sym is ∙ p)); some = tt }

-- ---- over any bytes

pub oldest-in : {KNOTS SLOTS : ℕ} (t : Table KNOTS SLOTS) (ring : Ring) → t.ring ≡ Some ring → oldest_in t ≡ oldest_of ring
oldest-in t ring is = rw is refl

pub next-in : {KNOTS SLOTS : ℕ} (t : Table KNOTS SLOTS) (ring : Ring) → t.ring ≡ Some ring → next_in t ≡ next_of ring
next-in t ring is = rw is refl

-- a page that a buffer holds
pub holds-kept : {KNOTS SLOTS : ℕ} (t : Table KNOTS SLOTS) (f : FlashState) (ring : Ring) (number : ℕ) (buf : BufferState) → t.ring ≡ Some ring → (oldest_of ring ≤ number) × (number < next_of ring) → Holds (layout_of t.schema) (shape_of ring) f number buf →
    HoldsKept t f number buf
holds-kept t f ring number buf is kept h = record {
  kept = (omega (arith, oldest-in t ring is, kept.0), omega (arith, next-in t ring is, kept.1));
  holds = h.holds ∙ ap (λ (n : ℕ). Some n) (sym (ring-place t ring number is));
  committed = h.committed;
  good = h.good;
  bytes = λ told. h.bytes told ∙ ap (page_at f) (sym (ring-place t ring number is));
}

-- what a look in the pages of the ring tells of the table
module _ {KNOTS SLOTS : ℕ} (t : Table KNOTS SLOTS) (ring : Ring) (f : FlashState) (key : ℕ) (is : t.ring ≡ Some ring) where
  firsts-in : first_at t f ≡ first_on (layout_in t) (shape_of ring) f
  firsts-in =
      let of : Option Ring → ℕ → Option ℕ = λ o n. first_key (rows_on (layout_in t) (page_at f (unwrap_or (option_map (λ (r : Ring). place (shape_of r) n) o) 0))) in
      ap of is

  window-is : window_in t key ≡ window_end t.index (next_of ring) key
  window-is = ap (λ n. window_end t.index n key) (next-in t ring is)

  rows-in-page : (page : ℕ) → rows_on (layout_in t) (bytes_at (shape_of ring) f page) ≡ rows_of_page t f page
  rows-in-page page = ap (λ n. rows_on (layout_in t) (page_at f n)) (sym (ring-place t ring page is))

  ends-on : (page : Option ℕ) (found : Option PageRow) → IsOn (layout_in t) (shape_of ring) f key page found → EndsOn t f key page (option_map at.InPage found)
  ends-on None None h = tt
  ends-on None (Some place) h = h
  ends-on (Some page) None h = subst (λ (rows : List Row). RowsRise rows → LacksKey rows key) (rows-in-page page) h
  ends-on (Some page) (Some place) h = h

  page-of-ring : (end_now end : ℕ) (page : Option ℕ) → end_now ≡ end → IsPageOf (first_at t f) (oldest_in t) end_now key page → IsPageOf (first_on (layout_in t) (shape_of ring) f) (oldest_of ring) end key page
  page-of-ring end_now end page same h =
      subst (λ (first : ℕ → Option ℕ). IsPageOf first (oldest_of ring) end key page) firsts-in
      (subst (λ o. IsPageOf (first_at t f) o end key page) (oldest-in t ring is) (subst (λ e. IsPageOf (first_at t f) (oldest_in t) e key page) same h))

  pub answers-in_pages : (found : Option PageRow) →
      ((page : Option ℕ) → is_covered (knots_in t.index) key ≡ true → IsTrue f.media.tells → IsPageOf (first_on (layout_in t) (shape_of ring) f) (oldest_of ring) (window_end t.index (next_of ring) key) key page →
      find.NoneIsBad (layout_in t) ring f (unwrap_or page (oldest_of ring)) (window_end t.index (next_of ring) key)) →
      ((page : Option ℕ) → is_covered (knots_in t.index) key ≡ true → IsTrue f.media.tells → IsPageOf (first_on (layout_in t) (shape_of ring) f) (oldest_of ring) (window_end t.index (next_of ring) key) key page →
      IsOn (layout_in t) (shape_of ring) f key page found) →
      ((page : Option ℕ) → is_covered (knots_in t.index) key ≡ false → IsTrue f.media.tells → Ascends (first_on (layout_in t) (shape_of ring) f) (oldest_of ring) (next_of ring) →
      IsPageOf (first_on (layout_in t) (shape_of ring) f) (oldest_of ring) (next_of ring) key page → IsOn (layout_in t) (shape_of ring) f key page found) →
      AnswersInPages t f key (option_map at.InPage found)
  answers-in_pages found sound near far = record {
    near = λ page told covered h.
        let here = page-of-ring (window_in t key) (window_end t.index (next_of ring) key) page window-is h in
        record {
          ends = ends-on page found (near page covered told here);
          sound = λ n from before bad is_bad. sound page covered told here n
              (subst (λ o. unwrap_or page o ≤ n) (oldest-in t ring is) from) (subst (λ e. n < e) window-is before) bad
              (subst (λ p. IsBadPage (layout_in t) n (page_at f p) bad) (ring-place t ring n is) is_bad);
        };
    far = λ page told covered up h.
        ends-on page found (far page covered told
        (subst (λ (first : ℕ → Option ℕ). Ascends first (oldest_of ring) (next_of ring)) firsts-in
        (subst (λ o. Ascends (first_at t f) o (next_of ring)) (oldest-in t ring is) (subst (λ n. Ascends (first_at t f) (oldest_in t) n) (next-in t ring is) up)))
        (page-of-ring (next_in t) (next_of ring) page (next-in t ring is) h));
  }

  ring-page : (end_now end : ℕ) (page : Option ℕ) → end_now ≡ end → IsPageOf (first_on (layout_in t) (shape_of ring) f) (oldest_of ring) end key page → IsPageOf (first_at t f) (oldest_in t) end_now key page
  ring-page end_now end page same h =
      subst (λ e. IsPageOf (first_at t f) (oldest_in t) e key page) (sym same)
      (subst (λ o. IsPageOf (first_at t f) o end key page) (sym (oldest-in t ring is))
      (subst (λ (first : ℕ → Option ℕ). IsPageOf first (oldest_of ring) end key page) (sym firsts-in) h))

  begins-in : (page : Option ℕ) → IfSome page (λ number. (oldest_of ring ≤ number) × (number < next_of ring)) → IfSome page (λ number. starts_by (first_on (layout_in t) (shape_of ring) f) key number ≡ true) →
      IfSome page (λ number. (oldest_in t ≤ number) × (number < next_in t) × (starts_by (first_at t f) key number ≡ true))
  begins-in None kept starts = tt
  begins-in (Some number) kept starts = (
    omega (arith, oldest-in t ring is, kept.0),
    omega (arith, next-in t ring is, kept.1),
    subst (λ (first : ℕ → Option ℕ). starts_by first key number ≡ true) (sym firsts-in) starts,
  )

  pub page-for : (result : Result (Option ℕ) ReadFault) → IsTrue f.media.tells → IfOk result (λ page. IfSome page (λ number. (oldest_of ring ≤ number) × (number < next_of ring))) →
      (IsTrue f.media.tells → IfOk result (λ page. IfSome page (λ number. starts_by (first_on (layout_in t) (shape_of ring) f) key number ≡ true))) →
      (is_covered (knots_in t.index) key ≡ true → IsTrue f.media.tells → IfOk result (λ page. IsPageOf (first_on (layout_in t) (shape_of ring) f) (oldest_of ring) (window_end t.index (next_of ring) key) key page)) →
      ((page : Option ℕ) → is_covered (knots_in t.index) key ≡ true → IsTrue f.media.tells → IsPageOf (first_on (layout_in t) (shape_of ring) f) (oldest_of ring) (window_end t.index (next_of ring) key) key page →
      OnOk result (find.NoneIsBad (layout_in t) ring f (unwrap_or page (oldest_of ring)) (window_end t.index (next_of ring) key))) →
      (is_covered (knots_in t.index) key ≡ false → IsTrue f.media.tells → Ascends (first_on (layout_in t) (shape_of ring) f) (oldest_of ring) (next_of ring) →
      IfOk result (λ page. IsPageOf (first_on (layout_in t) (shape_of ring) f) (oldest_of ring) (next_of ring) key page)) →
      IfOk result (IsPageFor t (page_at f) key)
  page-for (Ok page) told kept starts near sound far = record {
    begins = begins-in page kept (starts told);
    near = λ covered. ring-page (window_in t key) (window_end t.index (next_of ring) key) page window-is (near covered told);
    sound = λ covered n from before bad is_bad. sound page covered told (near covered told) n
        (subst (λ o. unwrap_or page o ≤ n) (oldest-in t ring is) from) (subst (λ e. n < e) window-is before) bad
        (subst (λ p. IsBadPage (layout_in t) n (page_at f p) bad) (ring-place t ring n is) is_bad);
    far = λ covered up. ring-page (next_in t) (next_of ring) page (next-in t ring is) (far covered told
        (subst (λ (first : ℕ → Option ℕ). Ascends first (oldest_of ring) (next_of ring)) firsts-in
        (subst (λ o. Ascends (first_at t f) o (next_of ring)) (oldest-in t ring is) (subst (λ n. Ascends (first_at t f) (oldest_in t) n) (next-in t ring is) up))));
  }
  page-for (Err e) told kept starts near sound far = tt

module _ {KNOTS SLOTS : ℕ} (t : Table KNOTS SLOTS) (buf : BufferState) (key : ℕ) where
  pub key-in_page : (place : Option PageRow) → IfSome place (λ p. HasKey (rows_on (layout_in t) buf.bytes) key p.row) → IfSome (option_map at.InPage place) (HasKeyAt t buf key)
  key-in_page None has = tt
  key-in_page (Some place) has = has-key (rows_on (layout_in t) buf.bytes) key place.row has

  pub key-pending : (place : Option ℕ) → MatchOption place (RowsRise (buffered_rows t) → LacksKey (buffered_rows t) key) (λ i. HasKey (buffered_rows t) key i) → IfSome (option_map at.Pending place) (HasKeyAt t buf key)
  key-pending None h = tt
  key-pending (Some i) h = has-key (buffered_rows t) key i h

  pub answers-pending : (place : Option ℕ) → MatchOption place (RowsRise (buffered_rows t) → LacksKey (buffered_rows t) key) (λ i. HasKey (buffered_rows t) key i) → AnswersPending t key (option_map at.Pending place)
  answers-pending None h = h
  answers-pending (Some i) h = tt

pub here-page : {KNOTS SLOTS : ℕ} (t : Table KNOTS SLOTS) (f : FlashState) (ring : Ring) (key : ℕ) (buf : BufferState) (place : Option PageRow) → length buf.bytes ≤ 4096 →
    IfSome place (λ p. Holds (layout_of t.schema) (shape_of ring) f p.number buf) → IfSome place (λ p. HasKey (rows_on (layout_of t.schema) buf.bytes) key p.row) →
    IfSome (option_map at.InPage place) (IsRowAt t buf)
here-page t f ring key buf None few holds has = tt
here-page t f ring key buf (Some place) few holds has = (few, holds.good, slice_get-short (rows_on (layout_of t.schema) buf.bytes) place.row has.row has.here)

pub holds-page : {KNOTS SLOTS : ℕ} (t : Table KNOTS SLOTS) (f : FlashState) (ring : Ring) (buf : BufferState) (place : Option PageRow) → t.ring ≡ Some ring →
    IfSome place (λ p. (oldest_of ring ≤ p.number) × (p.number < next_of ring)) → IfSome place (λ p. Holds (layout_of t.schema) (shape_of ring) f p.number buf) →
    IfSome (option_map at.InPage place) (HoldsIts t f buf)
holds-page t f ring buf None is kept holds = tt
holds-page t f ring buf (Some place) is kept holds = holds-kept t f ring place.number buf is kept holds

pub holds-found : {KNOTS SLOTS : ℕ} (t : Table KNOTS SLOTS) (f : FlashState) (ring : Ring) (buf : BufferState) (page : Option ℕ) → t.ring ≡ Some ring →
    IfSome page (λ n. (oldest_of ring ≤ n) × (n < next_of ring)) → IfSome page (λ n. Holds (layout_of t.schema) (shape_of ring) f n buf) →
    IfSome page (λ n. HoldsKept t f n buf)
holds-found t f ring buf None is kept holds = tt
holds-found t f ring buf (Some number) is kept holds = holds-kept t f ring number buf is kept holds

-- .. where the look didn't fail
pub holds-in : {KNOTS SLOTS : ℕ} (t : Table KNOTS SLOTS) (f : FlashState) (ring : Ring) (buf : BufferState) (page : Result (Option ℕ) ReadFault) → t.ring ≡ Some ring →
    IfOk page (λ o. IfSome o (λ n. (oldest_of ring ≤ n) × (n < next_of ring))) → IfOk page (λ o. IfSome o (λ n. Holds (layout_of t.schema) (shape_of ring) f n buf)) →
    IfOk page (λ o. IfSome o (λ n. HoldsKept t f n buf))
holds-in t f ring buf (Ok page) is kept holds = holds-found t f ring buf page is kept holds
holds-in t f ring buf (Err e) is kept holds = tt

pub lookup-fails : {KNOTS SLOTS : ℕ} (t : Table KNOTS SLOTS) (ring : Ring) (old : FlashState) (e : ReadFault) (new : FlashState) → t.ring ≡ Some ring → LookFails (layout_of t.schema) ring old e new → LookupFails t old e new
lookup-fails t ring old (fault.Flash PowerLost) new is h = (h.0, omega (arith, oldest-in t ring is, next-in t ring is, h.1))
lookup-fails t ring old (fault.Flash Media) new is h = h
lookup-fails t ring old (fault.BadPage bad) new is h = (λ told. of (h.0 told), h.1)
  where
    of : find.HasBadPage (layout_of t.schema) ring old bad → HasBadPage t old bad
    of page = record {
      number = page.number;
      kept = (omega (arith, oldest-in t ring is, page.kept.from), omega (arith, next-in t ring is, page.kept.before));
      is_bad = subst (λ p. IsBadPage (layout_of t.schema) page.number (page_at old p) bad) (sym (ring-place t ring page.number is)) page.is_bad;
    }

pub lookup-caused : {KNOTS SLOTS : ℕ} (t : Table KNOTS SLOTS) (old new : FlashState) (e : ReadFault) → LookupFails t old e new → IsCaused old e new
lookup-caused t old new (fault.Flash PowerLost) fails = fails.0
lookup-caused t old new (fault.Flash Media) fails = fails
lookup-caused t old new (fault.BadPage bad) fails = tt

-- of a covered key the page that is blamed is the newest bad one that was looked at
pub lookup-blames : {KNOTS SLOTS : ℕ} (t : Table KNOTS SLOTS) (ring : Ring) (f : FlashState) (key : ℕ) (e : ReadFault) → t.ring ≡ Some ring → BlamesBelow (layout_of t.schema) ring f (window_end t.index (next_of ring) key) key e → BlamesFor t f key e
lookup-blames t ring f key (fault.Flash e) is h = tt
lookup-blames t ring f key (fault.BadPage bad) is h = λ told. of (h told)
  where
    of : IsBadBelow (layout_of t.schema) ring f (window_end t.index (next_of ring) key) key bad → IsBadFor t f key bad
    of page = record {
      number = page.number;
      within = let least = page.within.0 in let below = page.within.1 in (omega (arith, oldest-in t ring is, least), omega (arith, window-is t ring f key is, below));
      is_bad = subst (λ p. IsBadPage (layout_of t.schema) page.number (page_at f p) bad) (sym (ring-place t ring page.number is)) page.is_bad;
      later = λ n after before.
          subst (λ (first : ℕ → Option ℕ). starts_by first key n ≡ false) (sym (firsts-in t ring f key is)) (page.later n after (omega (arith, window-is t ring f key is, before)));
      sound = λ n after before other is_bad. page.sound n after (omega (arith, window-is t ring f key is, before)) other
          (subst (λ p. IsBadPage (layout_of t.schema) n (page_at f p) other) (ring-place t ring n is) is_bad);
    }

pub row-shown : {KNOTS SLOTS : ℕ} (t : Table KNOTS SLOTS) (first : ℕ) (plan : Plan) (page : List ℕ) (view : PageView 8) (at : ℕ) (row : Row) → IsPlanned t first plan → at < length (rows_on (layout_of t.schema) page) →
    rows_of view ≡ rows_in (layout_of t.schema) page → slice_get (rows_of view) at ≡ Some row → slice_get (rows_on (row_layout plan) page) at ≡ Some row
row-shown t first plan page view at row planned less is e =
    ap (λ (l : RowLayout). slice_get (rows_on l page) at) planned.layout ∙ row-viewed (layout_of t.schema) page view at row less is e

-- ---- the greatest number of reads

pub limit-told : {KNOTS SLOTS : ℕ} (t : Table KNOTS SLOTS) (f : FlashState) (first : ℕ) (plan : Plan) (table : model.Table) (key pages : ℕ) → Stands t f first plan table → is_pending_key table key ≡ false → pages ≡ length table.rows.counts →
    most_reads t.index pages t.voids key ≡ lookup_limit KNOTS plan table key
limit-told {KNOTS} {SLOTS} t f first plan table key pages stands is many =
    ap (λ (l : List (ℕ × ℕ)). if is_covered l key then 2 * error_in t.index + 2 + t.voids else bits pages + 1 + t.voids) stands.memory.index.knots
    ∙ (ap (λ e. if is_covered (retained KNOTS plan.error table.points) key then 2 * e + 2 + t.voids else bits pages + 1 + t.voids) (sym stands.planned.error)
    ∙ (ap (λ v. if is_covered (retained KNOTS plan.error table.points) key then 2 * plan.error + 2 + v else bits pages + 1 + v) stands.memory.voids
    ∙ (ap (λ n. if is_covered (retained KNOTS plan.error table.points) key then 2 * plan.error + 2 + voids_of table else bits n + 1 + voids_of table) many
    ∙ sym (ap (λ (b : Bool). if b then 0 else if is_covered (retained KNOTS plan.error table.points) key then 2 * plan.error + 2 + voids_of table else bits (length table.rows.counts) + 1 + voids_of table) is))))
