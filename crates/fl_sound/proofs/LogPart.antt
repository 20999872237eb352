-- The rules of the log hold where a flash stands for a table with one.
use Rattle.std.proofs.Common.{◌≡◌, inl, inr, ℕ, zero, suc, ◌+◌, ◌-◌, ◌*◌, ◌^◌, ◌<◌, ◌≤◌, Bool, true, false, cond, nat_lt, IsTrue, Option, Some, None, IfSome, is_some, option_map, List, [], ◌∷◌, length, map, filter, take, get_or, refl, sym, ◌∙◌, ap, subst, arith}
use Rattle.std.specs.List.{slice_get, list_any, AllByRecursion}
use Rattle.std.proofs.lemmas.Bool.{cases_Bool, cases_lt, lt-ltb, true≢false}
use Rattle.std.proofs.lemmas.List.{length-map}
use Rattle.std.proofs.lemmas.Option.{slice_get-map, none-some, same_Some}
use Rattle.std.proofs.Math.Nat.{div-le_self, mul-le-mul_right}
use Rattle.fl_base.specs.declared.types.RingPlace.{RingPlace}
use Rattle.fl_flash.specs.Flash.{FlashState, page_at}
use Rattle.fl_flash.specs.Places.{extent}
use Rattle.fl_model.specs.Facts.{IsTable, FitsPlan, BlobFits, IsLogPage, is_some_ring, counts_in}
use Rattle.fl_model.specs.Image.{IsRingImage, HoldsLogged}
use Rattle.fl_model.specs.Layout.{rows_body, committed}
use Rattle.fl_model.specs.Record.{Plan, has_var, row_layout, row_len, rows_per_page}
use Rattle.fl_model.specs.Ring as model
use Rattle.fl_model.specs.Row.{le, stored_row}
use Rattle.fl_model.specs.Table.{Table, Entry, LogRing, shape_of, full_pages, log_pages}
use Rattle.fl_model.proofs.FullPages.{full-cons, full-one, full-void}
use Rattle.fl_model.proofs.Lists.{slice_get-short, each-at}
use Rattle.fl_model.proofs.StoredRows.{all-stored}
use Rattle.fl_page.specs.Steps.{Ascends}
use Rattle.fl_page.proofs.WriterSteps.{layout_some}
use Rattle.fl_page.proofs.DataPages.{entries-ascend}
use Rattle.fl_plan.specs.Limits.{IsRingSize}
use Rattle.fl_plan.specs.Plan.{Label, blocks_in, plan_of_table, with_log}
use Rattle.fl_plan.specs.declared.table_config.TableConfig.{TableConfig}
use Rattle.fl_plan.proofs.Fits.{row-fits}
use Rattle.fl_ring.specs.Counts.{page_count}
use Rattle.fl_ring.specs.Head.{one}
use Rattle.fl_ring.specs.Mounting.{IsGood}
use Rattle.fl_ring.specs.Numbers.{renumbered}
use Rattle.fl_ring.specs.Ring.{Shape, RingState, IsShape, count, oldest, place as place_in}
use Rattle.fl_ring.proofs.Bodies.{bodies-numbered, holds-some}
use Rattle.fl_ring.proofs.Counts.{counts_length}
use Rattle.fl_ring.proofs.GoodNumbers.{renumbered_some, renumbered_none}
use Rattle.fl_ring.proofs.HeldPages.{IsStateOf}
use Rattle.fl_ring.proofs.Images.{bytes_of}
use Rattle.fl_ring.proofs.Heads.{one-is}
use Rattle.fl_rlc.specs.Pages.{log_body, IsLogRing}
use Rattle.fl_rlc.proofs.Bodies.{rows_of, IsBody, some-rows}
use Rattle.fl_rlc.proofs.NewestRows.{log-page}
use Rattle.fl_rlc.proofs.States.{state_of, state-is}
use Rattle.fl_parts.proofs.Plain.{least-below}
use Rattle.fl_rlc.proofs.MountsInTable.{body-number}
use Rattle.fl_rules.specs.RingRules.{WithinPages, IsAscending}
use Rattle.fl_check.specs.Whole.{Fits, shape_in, layout_in, IsLogForm, IsLogSound}
use Rattle.fl_rules.specs.declared.numbering.Numbering.{Numbering}
use Rattle.fl_check.proofs.KeptPages.{rows-plain}
use Rattle.fl_sound.proofs.RingReads.{IsOf}
use Rattle.fl_sound.proofs.RingSound.{SoundRing, AreFormed, sizes, formed-bodies, sound-ring}

-- ---- the counts of pages

-- where each page with a body counts some rows, the counts tell which pages have one
counts-some : (kept : List (Option (List ℕ))) (i c : ℕ) → slice_get (map (page_count rows_of) kept) i ≡ Some c → IfSome (get_or kept i None) (λ body. 0 < rows_of body) → is_some (get_or kept i None) ≡ nat_lt 0 c
counts-some [] i c e some = absurd (none-some c e)
counts-some (None ∷ kept) zero c e some = ap (nat_lt 0) (same e)
  where
    same : ◌≡◌ {A = Option ℕ} (Some 0) (Some c) → 0 ≡ c
    same k = cc
counts-some (Some body ∷ kept) zero c e some = sym (lt-ltb 0 (rows_of body) some) ∙ ap (nat_lt 0) (same e)
  where
    same : ◌≡◌ {A = Option ℕ} (Some (rows_of body)) (Some c) → rows_of body ≡ c
    same k = cc
counts-some (x ∷ kept) (suc i) c e some = counts-some kept i c e some

-- the count of a page that isn't void, among those that aren't
count-at : (counts : List ℕ) (i c : ℕ) → slice_get counts i ≡ Some c → 0 < c → slice_get (filter (nat_lt 0) counts) (full_pages (take i counts)) ≡ Some c
count-at [] i c e some = absurd (none-some c e)
count-at (x ∷ counts) zero c e some =
    let same : x ≡ c = cc in
    ap (λ (b : Bool). slice_get (cond b (x ∷ filter (nat_lt 0) counts) (filter (nat_lt 0) counts)) 0) (lt-ltb 0 x (omega (arith, same, some))) ∙ ap (λ (n : ℕ). Some n) same
count-at (x ∷ counts) (suc i) c e some = elim (cases_lt 0 x) [
  | inl lt ↦
      let k : full_pages (x ∷ take i counts) ≡ suc (full_pages (take i counts)) = omega (arith, full-cons x (take i counts), full-one x lt) in
      ap (λ (b : Bool). slice_get (cond b (x ∷ filter (nat_lt 0) counts) (filter (nat_lt 0) counts)) (full_pages (x ∷ take i counts))) (lt-ltb 0 x lt)
      ∙ ap (slice_get (x ∷ filter (nat_lt 0) counts)) k ∙ count-at counts i c e some
  | inr le ↦
      let is : x ≡ 0 = omega (arith, le) in
      let k : full_pages (x ∷ take i counts) ≡ full_pages (take i counts) = omega (arith, full-cons x (take i counts), full-void x le) in
      ap (λ (b : Bool). slice_get (cond b (x ∷ filter (nat_lt 0) counts) (filter (nat_lt 0) counts)) (full_pages (x ∷ take i counts))) (ap (nat_lt 0) is)
      ∙ ap (slice_get (filter (nat_lt 0) counts)) k ∙ count-at counts i c e some
]

-- ---- a flash that stands for the log of a table

-- a flash that tells what it holds, on which this log of a table lies
pub record LoggedOn (label : Label) (config : TableConfig) (at : RingPlace) (f : FlashState) (table : Table) : Type 0 where
  pub fits : Fits config f
  pub size : IsRingSize at
  pub within : at.first_block + at.blocks ≤ f.blocks
  pub reaches : f.start + extent f.geometry f.blocks ≤ length f.media.content
  pub told : IsTrue f.media.tells
  pub no_var : has_var (plan_of_table label config) ≡ false
  pub facts : IsTable (with_log at.blocks (plan_of_table label config)) table
  pub image : IfSome table.log (λ ring. IsRingImage (shape_of (with_log at.blocks (plan_of_table label config)) LogRing) ring (bytes_of (shape_in config at) (page_at f)) (HoldsLogged (with_log at.blocks (plan_of_table label config)) table ring))

module _ (label : Label) (config : TableConfig) (at : RingPlace) (f : FlashState) (table : Table) (is : LoggedOn label config at f table) where
  abbrev plan : Plan
  plan = with_log at.blocks (plan_of_table label config)

  abbrev r : Shape
  r = shape_in config at

  size : (n : ℕ) → length (page_at f (place_in (shape_in config at) n)) ≡ config.geometry.page
  size = sizes f config.geometry at.first_block at.blocks is.reaches is.fits.geometry is.within (let k = is.size.0 in omega (arith, k)) (let k = is.fits.limits.geometry.block_low in omega (arith, k))

  shape : IsShape (shape_in config at)
  shape = record { blocks = is.size.0; per_block = is.fits.limits.geometry.block_low; size = is.fits.limits.geometry.page_low }

  small : rows_per_page (with_log at.blocks (plan_of_table label config)) < 65536
  small = let most = div-le_self (config.geometry.page - 24) (row_len plan) in let high = is.fits.limits.geometry.page_high in omega (arith, most, high)

  -- no record has a blob
  no-blobs : (rows : List Entry) → AllByRecursion (FitsPlan (with_log at.blocks (plan_of_table label config))) rows → (i : ℕ) (entry : Entry) (blob : List ℕ) → slice_get rows i ≡ Some entry → entry.kept.blob ≡ Some blob
      → 0 < length blob → entry.page + 1 < 2 ^ 32
  no-blobs rows fit i entry blob e k some = absurd (true≢false (sym (subst (BlobFits plan entry) k (each-at (FitsPlan plan) rows i entry fit e).blob).0 ∙ is.no_var))

  module _ (ring : model.Ring) (ring_is : table.log ≡ Some ring) where
    in_ring : (P : Option model.Ring → Type 0) → P table.log → P (Some ring)
    in_ring P h = subst P ring_is h

    pages-are : IsLogRing (with_log at.blocks (plan_of_table label config)) (log_pages table) ring (bytes_of (shape_in config at) (page_at f))
    pages-are = record {
      facts = in_ring (λ (o : Option model.Ring). IfSome o (model.IsRing (shape_of plan LogRing))) is.facts.log;
      number = in_ring (λ (o : Option model.Ring). IfSome o (λ x. x.next + (cond x.torn 1 0) ≤ 4294967292)) (is.facts.numbers LogRing);
      each = is.facts.log_each ∙ ap (λ (o : Option model.Ring). filter (nat_lt 0) (counts_in o)) ring_is;
      few = subst (λ (o : Option model.Ring). AllByRecursion (λ c. c ≤ rows_per_page plan) (counts_in o)) ring_is is.facts.log_counts;
      fit = is.facts.log_fit;
      image = in_ring (λ (o : Option model.Ring). IfSome o (λ x. IsRingImage (shape_of plan LogRing) x (bytes_of r (page_at f)) (HoldsLogged plan table x))) is.image;
    }

    abbrev s : RingState
    s = state_of plan ring (log_pages table)

    state : IsStateOf (IsBody plan) rows_of (shape_in config at) (page_at f) ring (log_pages table) (state_of plan ring (log_pages table))
    state = state-is (shape_in config at) plan (page_at f) size shape refl small ring (log_pages table) pages-are

    is-of : IsOf (state_of plan ring (log_pages table)) ring
    is-of = record {
      next = refl;
      count = sym (counts_length rows_of s) ∙ ap (λ (x : model.Ring). length x.counts) state.counts;
      some = λ i c e.
          let short : i < count s = let k = slice_get-short ring.counts i c e in let n = counts_length rows_of s in let m = ap (λ (x : model.Ring). length x.counts) state.counts in omega (arith, k, n, m) in
          counts-some s.kept i c (ap (λ (x : model.Ring). slice_get x.counts i) state.counts ∙ e) (holds-some (IsBody plan) rows_of (some-rows plan) s (log_pages table) state.bodies i short);
    }

    -- its numbers fit
    number-fits : (renumbered (shape_in config at) 0 (state_of plan ring (log_pages table))).next + one ring.torn < 2 ^ 32
    number-fits = elim (cases_Bool (list_any is_some s.kept)) [
      | inl any ↦ let e = ap (λ (t : RingState). t.next) (renumbered_some r 0 s any) in let k = pages-are.number in let t = one-is ring.torn in omega (arith, e, k, t)
      | inr none ↦
          let e = ap (λ (t : RingState). t.next) (renumbered_none r 0 s none) in
          let room : 0 < at.blocks * config.geometry.block =
          let k : 3 * config.geometry.block ≤ at.blocks * config.geometry.block = mul-le-mul_right config.geometry.block is.size.0 in let low = is.fits.limits.geometry.block_low in omega (arith, k, low) in
          let below = least-below (at.blocks * config.geometry.block) ring.next (0 + length s.kept) room (omega (arith, is-of.count, pages-are.facts.not_negative)) in
          let k = pages-are.number in
          let t = one-is ring.torn in omega (arith, e, below, k, t)
    ]

    good : IsGood f (shape_in config at) 0 (state_of plan ring (log_pages table))
    good = record { told = is.told; on = state.on; numbered = bodies-numbered (IsBody plan) rows_of (some-rows plan) (body-number plan) s (log_pages table) state.bodies state.on.ring.not_negative (let k = pages-are.number in omega (arith, k)); fits = number-fits }

    -- ---- its pages

    -- the records of a page that isn't void, as many as it counts
    record IsPageOf (i c : ℕ) : Type 0 where
      rows : List Entry
      count_is : length rows ≡ c
      fit : IsLogPage (with_log at.blocks (plan_of_table label config)) rows
      bytes : page_at f (place_in (shape_in config at) (model.oldest ring + i)) ≡ committed (log_body (with_log at.blocks (plan_of_table label config)) (model.oldest ring + i) rows)

    page-of : (i c : ℕ) → slice_get ring.counts i ≡ Some c → 0 < c → IsPageOf i c
    page-of i c e some =
        let h = pages-are.image.kept i c e some in
        let k = full_pages (take i ring.counts) in
        let counts = ap (λ (l : List ℕ). slice_get l (full_pages (take i ring.counts))) pages-are.each ∙ count-at ring.counts i c e some in
        let own = slice_get-map (λ (rows : List Entry). length rows) (log_pages table) k ∙ ap (λ (o : Option (List Entry)). option_map (λ (rows : List Entry). length rows) o) h.is in
        record {
          rows = h.holds;
          count_is = same_Some _ _ (sym own ∙ counts);
          fit = each-at (IsLogPage plan) (log_pages table) k h.holds pages-are.fit h.is;
          bytes = h.bytes;
        }

    count-few : (i c : ℕ) → slice_get ring.counts i ≡ Some c → c ≤ rows_per_page (with_log at.blocks (plan_of_table label config))
    count-few i c e = each-at (λ (count : ℕ). count ≤ rows_per_page plan) ring.counts i c pages-are.few e

    forms : AreFormed (IsLogForm config) (page_at f) (shape_in config at) ring
    forms i c e some =
        let h = page-of i c e some in
        let number = model.oldest ring + i in
        let many : length (map stored_row h.rows) ≡ length h.rows = length-map h.rows stored_row in
        let few = count-few i c e in
        let page = page_at f (place_in r (model.oldest ring + i)) in
        record {
          rows = map stored_row h.rows;
          some = omega (arith, many, h.count_is, some);
          few = rw (size (model.oldest ring + i)) (omega (arith, many, h.count_is, few));
          storable = all-stored plan h.rows (no-blobs h.rows h.fit.fit) h.fit.fit;
          plain = rows-plain plan h.rows h.fit.fit;
          bytes = h.bytes ∙ ap (λ (k : ℕ). committed (rows_body (k - 8) (row_layout plan) number 0 (map stored_row h.rows))) (sym (size (model.oldest ring + i)));
        }

    ascending : AreFormed (IsAscending (layout_in config)) (page_at f) (shape_in config at) ring
    ascending i c e some =
        let h = page-of i c e some in
        let number = model.oldest ring + i in
        let some_row = layout_some config.key config.columns.items (nat_lt 0 (blocks_in config.var)) in
        let room = row-fits config is.fits.passes in
        let low = is.fits.limits.geometry.page_low in
        let few = count-few i c e in
        let short = slice_get-short ring.counts i c e in
        let read = log-page config.key config.columns.items (nat_lt 0 (blocks_in config.var)) plan number h.rows refl is.no_var (omega (arith, some_row)) (omega (arith, room, low)) small
        (record { some = omega (arith, h.count_is, some); few = omega (arith, h.count_is, few); page = h.fit }) (omega (arith, short, pages-are.number, pages-are.facts.not_negative)) in
        subst (IsAscending (layout_in config) number) (sym h.bytes)
        (read.stands.good, subst (Ascends None) (sym read.rows) (entries-ascend None h.rows (λ entry at. refl) h.fit.ascending))

    sound : SoundRing (IsLogForm config) (WithinPages (layout_in config)) (page_at f) (shape_in config at) 0 ring
    sound = sound-ring f r 0 s shape good ring is-of (IsLogForm config) (WithinPages (layout_in config)) forms (λ n reads. formed-bodies f r 0 s shape good ring is-of (IsAscending (layout_in config)) ascending n reads)

  -- the rules of the log hold by these numbers
  pub log-part : (n : Numbering) × IsLogSound config (Some at) (page_at f) (Some n)
  log-part = by_ring table.log refl is.facts.has_rings.2
    where
      no : {A : Type 0} → false ≡ true → A
      no e = cc

      by_ring : (x : Option model.Ring) → table.log ≡ x → is_some_ring table.log ≡ nat_lt 0 at.blocks → (n : Numbering) × IsLogSound config (Some at) (page_at f) (Some n)
      by_ring None k has = no (sym (ap is_some_ring k) ∙ has ∙ lt-ltb 0 at.blocks (let h = is.size.0 in omega (arith, h)))
      by_ring (Some ring) k has = ((sound ring k).n, (sound ring k).sound)
