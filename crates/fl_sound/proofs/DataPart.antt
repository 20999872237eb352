-- The rules of the data ring hold where a flash stands for a table.
use Rattle.std.proofs.Common.{◌≡◌, inl, inr, ℕ, zero, suc, ◌+◌, ◌-◌, ◌*◌, ◌/◌, ◌%◌, ◌^◌, ◌<◌, ◌≤◌, Bool, true, false, cond, nat_lt, ◌==◌, IsTrue, Option, Some, None, IfSome, is_some, List, [], length, map, drop, take, refl, sym, ◌∙◌, ap, subst, arith, length-take}
use Rattle.std.specs.List.{slice_get, sum}
use Rattle.std.proofs.Math.Nat.{div-le_self}
use Rattle.std.proofs.lemmas.Bool.{cases_lt, lt-ltb, ne_eqb, true≢false}
use Rattle.fl_base.proofs.Tests.{zero_either}
use Rattle.fl_bitmap.specs.Widths.{is_bits}
use Rattle.fl_find.specs.Pages.{rows_where}
use Rattle.fl_flash.specs.Flash.{FlashState, page_at}
use Rattle.fl_flash.specs.Places.{extent}
use Rattle.fl_index.specs.Page.{bitmap_at, full_at, found_at, full_view, fields_of}
use Rattle.fl_index.specs.declared.page.Full as code
use Rattle.fl_index.specs.declared.page.Found.{Found}
use Rattle.fl_index.proofs.WaitingEntries.{plan_form, bitmap-small}
use Rattle.fl_index.proofs.LookupsOfTable.{IsAt}
use Rattle.fl_mark.specs.Mark.{state_of_page}
use Rattle.fl_mark.specs.declared.page_state.PageState.{PageState}
use Rattle.fl_mark.specs.declared.page_state.PageState.TheVariants.{Committed}
use Rattle.fl_model.specs.Facts.{IsTable, FitsPlan}
use Rattle.fl_model.specs.Agrees.{Tells}
use Rattle.fl_model.specs.Image.{rows_at}
use Rattle.fl_model.specs.Layout.{IndexEntry, full_of, bitmap_of, data_body}
use Rattle.fl_model.specs.Mount.{index_end}
use Rattle.fl_model.specs.Record.{Plan, key_limit, row_len, rows_per_page}
use Rattle.fl_model.specs.Ring as model
use Rattle.fl_model.specs.Row.{stored_row}
use Rattle.fl_model.specs.Table.{Table, Entry, DataRing, shape_of}
use Rattle.fl_model.proofs.Lists.{slice_get-short, slice_get-drop, slice_get-front, each-at, each-drop, each-take, take_none}
use Rattle.fl_model.proofs.Pages.{pages-at}
use Rattle.fl_page.specs.Header.{page_number, page_bitmap}
use Rattle.fl_page.specs.Page.{rows_in, IsGoodPage}
use Rattle.fl_page.proofs.WriterSteps.{layout_some}
use Rattle.fl_plan.specs.Plan.{Label, blocks_in, plan_of_table}
use Rattle.fl_plan.specs.declared.table_config.TableConfig.{TableConfig}
use Rattle.fl_ring.specs.Mounting.{IsGood}
use Rattle.fl_ring.specs.Ring.{Shape, IsShape, OnRing, place}
use Rattle.fl_ring.proofs.PageStates.{committed-is}
use Rattle.fl_parts.specs.Pages.{Rests}
use Rattle.fl_parts.specs.Reading.{bitmap_where}
use Rattle.fl_parts.proofs.NotedEntries.{page-bitmap}
use Rattle.fl_schema.specs.Form.{key_width}
use Rattle.fl_schema.specs.declared.schema.KeyWidth.{KeyWidth}
use Rattle.fl_schema.specs.declared.schema.KeyWidth.TheVariants.{Four, Eight}
use Rattle.fl_parts.proofs.KeptPages.{kept, table-numbered}
use Rattle.fl_parts.proofs.Loose.{IsLoose, loose-of}
use Rattle.fl_parts.proofs.MountGood.{good-ring}
use Rattle.fl_parts.proofs.Plain.{IsPlainTable, table-parts}
use Rattle.fl_plan.proofs.Fits.{few-blobs, row-fits}
use Rattle.fl_parts.proofs.Repaired.{IsIdle, lost-idle}
use Rattle.fl_parts.proofs.States.{state_of, state-count, to-ring, HaveSize}
use Rattle.fl_rules.specs.Marks.{kept_page}
use Rattle.fl_rules.specs.Rising.{KeysAscend}
use Rattle.fl_rules.specs.Told.{full_in, TellsCommitted, TellsVoid, TellsPage}
use Rattle.fl_rules.specs.RingRules.{OverPages}
use Rattle.fl_check.specs.Whole.{Fits, layout_in, rows_shape, IsRowsForm}
use Rattle.fl_rules.specs.declared.numbering.Numbering.{Numbering}
use Rattle.fl_check.proofs.KeptPages.{good}
use Rattle.fl_rules.proofs.TablePages.{is_data_page}
use Rattle.fl_check.proofs.ConfigFacts.{few-indexed, has-buckets}
use Rattle.fl_check.proofs.FullEntries.{full-stored}
use Rattle.fl_check.proofs.RingReads.{Reads}
use Rattle.fl_sound.proofs.DataPages.{HaveRowsOf, keys-ascend}
use Rattle.fl_sound.proofs.RingReads.{IsOf}
use Rattle.fl_sound.proofs.RingSound.{SoundRing, AreFormed, sizes, sound-ring}
use Rattle.fl_sound.proofs.Told.{fields-fit}

-- a flash that reaches to its end, and tells what it holds, stands for this table of the configuration
pub record StandsOn (label : Label) (config : TableConfig) (f : FlashState) (table : Table) : Type 0 where
  pub fits : Fits config f
  pub reaches : f.start + extent f.geometry f.blocks ≤ length f.media.content
  pub told : IsTrue f.media.tells
  pub rests : Rests f config.rows.first_block (plan_of_table label config) table

module _ (label : Label) (config : TableConfig) (f : FlashState) (table : Table) (is : StandsOn label config f table) where
  abbrev plan : Plan
  plan = plan_of_table label config

  abbrev first : ℕ
  first = config.rows.first_block

  abbrev d : Shape
  d = rows_shape config

  pub facts : IsTable (plan_of_table label config) table
  facts = is.rests.settled.facts

  pub idle : IsIdle table
  idle = lost-idle table is.rests.settled.lost

  pub plain : IsPlainTable (plan_of_table label config) table
  plain = table-parts (plan_of_table label config) table refl facts

  loose : IsLoose (plan_of_table label config) table
  loose = loose-of (plan_of_table label config) table plain

  pub counted : sum table.rows.counts ≡ length table.entries
  counted = let k = facts in let i = idle in omega (arith, k.counted, i.pending)

  size : HaveSize config.rows.first_block (plan_of_table label config) (page_at f)
  size = sizes f config.geometry config.rows.first_block config.rows.blocks is.reaches is.fits.geometry is.fits.rows (omega (arith, is.fits.limits.rows.0)) (omega (arith, is.fits.limits.geometry.block_low))

  shape : IsShape (rows_shape config)
  shape = record { blocks = is.fits.limits.rows.0; per_block = is.fits.limits.geometry.block_low; size = is.fits.limits.geometry.page_low }

  model_shape : model.IsShape (shape_of (plan_of_table label config) DataRing)
  model_shape = record { blocks = is.fits.limits.rows.0; pages = is.fits.limits.geometry.block_low }

  on : OnRing (rows_shape config) (page_at f) (state_of (plan_of_table label config) table)
  on = to-ring (page_at f) first plan table size is.fits.limits.geometry.page_low facts.rows is.rests.pages.rows

  good-data : IsGood f (rows_shape config) (index_end (plan_of_table label config) table) (state_of (plan_of_table label config) table)
  good-data =
      good-ring (Unit {0}) first plan table model_shape is.fits.limits.geometry.page_low (few-indexed label config is.fits.passes is.fits.limits) (record { loose = loose; plain = λ left. plain })
      (λ void. plain.index.number_listed) idle (page_at f) on f refl is.told

  is-of : IsOf (state_of (plan_of_table label config) table) table.rows
  is-of = record {
    next = refl;
    count = state-count plan table;
    some = λ i c e. ap is_some (pages-at plan (model.oldest table.rows) table.entries table.rows.counts i c e) ∙ by_count c i;
  }
    where
      by_count : (c i : ℕ) → is_some (cond (c == 0) None (Some (data_body plan (model.oldest table.rows + i) (take c (drop (sum (take i table.rows.counts)) table.entries))))) ≡ nat_lt 0 c
      by_count zero i = refl
      by_count (suc c) i =
          ap (λ (b : Bool). is_some (cond b None (Some (data_body plan (model.oldest table.rows + i) (take (suc c) (drop (sum (take i table.rows.counts)) table.entries)))))) (ne_eqb (suc c) 0 (λ e. let no : ⊥ = omega (arith, e) in no))
          ∙ sym (lt-ltb 0 (suc c) (omega arith))

  module _ (n : Numbering) (reads : Reads (page_at f) (rows_shape config) (index_end (plan_of_table label config) table) table.rows n) where
    state : (i c : ℕ) → slice_get table.rows.counts i ≡ Some c → 0 < c → state_of_page (page_at f (kept_page (rows_shape config) n.marks i)) ≡ Committed
    state i c e some = committed-is (state_of_page (page_at f (kept_page (rows_shape config) n.marks i))) (reads.committed i c e ∙ lt-ltb 0 c some)

    abbrev at : ℕ → List ℕ
    at i = page_at f (kept_page (rows_shape config) n.marks i)

    -- what a page with rows reads as
    record IsRead (i c : ℕ) : Type 0 where
      rows : rows_in (layout_in config) (page_at f (kept_page (rows_shape config) n.marks i)) ≡ map stored_row (rows_at table i c)
      good : IsGoodPage (layout_in config) (page_number (page_at f (kept_page (rows_shape config) n.marks i))) (page_at f (kept_page (rows_shape config) n.marks i))

    read : (i c : ℕ) → slice_get table.rows.counts i ≡ Some c → 0 < c → IsRead i c
    read i c e some =
        let here : page_at f (kept_page (rows_shape config) n.marks i) ≡ page_at f (place (rows_shape config) (model.oldest table.rows + i)) = reads.at i (slice_get-short table.rows.counts i c e) in
        let committed = sym (ap state_of_page here) ∙ state i c e some in
        let fit = row-fits config is.fits.passes in
        let large = is.fits.limits.geometry.page_low in
        let row_some = layout_some config.key config.columns.items (nat_lt 0 (blocks_in config.var)) in
        let k = kept (page_at f) first plan table config.key config.columns.items (nat_lt 0 (blocks_in config.var)) refl (few-blobs config is.fits.passes) loose idle.pending large
        (omega (arith, fit, large)) (omega (arith, row_some)) is.fits.limits.geometry.page_high size on i c e in
        let good = subst (λ (p : List ℕ). IsGoodPage (layout_in config) (model.oldest table.rows + i) p) (sym here) (k.good committed) in
        record {
          rows = ap (rows_in (layout_in config)) here
              ∙ sym (ap (λ (s : PageState). rows_where s (layout_in config) (page_at f (place (rows_shape config) (model.oldest table.rows + i)))) committed)
              ∙ k.rows;
          good = record { number_is = refl; some = good.some; room = good.room };
        }

    pub rows-of : HaveRowsOf (layout_in config) (page_at f) (rows_shape config) table n
    rows-of i c e some = (read i c e some).rows

    -- ---- what index entries tell of its pages

    headers : IsTrue (is_bits plan.bits) → (m c : ℕ) → slice_get table.rows.counts m ≡ Some c → 0 < c → page_bitmap (page_at f (kept_page (rows_shape config) n.marks m)) ≡ bitmap_of (plan_of_table label config) (rows_at table m c)
    headers bits m c e some =
        let p = page_at f (kept_page (rows_shape config) n.marks m) in
        let holds = reads.at m (slice_get-short table.rows.counts m c e) ∙ is.rests.pages.rows.kept m c e some in
        sym (ap (λ (s : PageState). bitmap_where s (page_bitmap p)) (state m c e some)) ∙ page-bitmap plan (model.oldest table.rows + m) (rows_at table m c) p bits holds

    keys-small : key_limit (plan_of_table label config) < 2 ^ 64
    keys-small = by_key config.key
      where
        by_key : (key : KeyWidth) → 2 ^ (8 * key_width key) - 1 < 2 ^ 64
        by_key Four = omega arith
        by_key Eight = omega arith

    -- the fields of a full entry have room for what its rows tell
    fields : (m c : ℕ) → slice_get table.rows.counts m ≡ Some c → full_view (fields_of (full_of (rows_at table m c))) ≡ full_in (map stored_row (rows_at table m c))
    fields m c e =
        let before = sum (take m table.rows.counts) in
        let k = facts in
        let most = each-at (λ (count : ℕ). count ≤ rows_per_page plan) table.rows.counts m c k.few_rows e in
        let many = length-take c (drop (sum (take m table.rows.counts)) table.entries) in
        let high = is.fits.limits.geometry.page_high in
        let less = div-le_self (config.geometry.page - 24) (row_len plan) in
        fields-fit plan (rows_at table m c) (each-take (FitsPlan plan) c (drop before table.entries) (each-drop (FitsPlan plan) before table.entries k.fit)) keys-small
        (omega (arith, many, most, less, high))
        (λ j entry blob there is_blob some. table-numbered plan table loose idle.pending (before + j) entry blob
        (sym (slice_get-drop before table.entries j) ∙ slice_get-front c (drop before table.entries) j entry there) is_blob some)
        ∙ sym (full-stored (rows_at table m c))

    -- an entry that tells of these rows, where it is read
    module _ (bits : IsTrue (is_bits plan.bits)) (bytes : List ℕ) (j : ℕ) (entry : IndexEntry) (is_at : IsAt (plan_form (plan_of_table label config)) bytes j entry) where
      bitmap-read : (rows : List Entry) → Tells (plan_of_table label config) rows entry → bitmap_at (plan_form (plan_of_table label config)) bytes j ≡ bitmap_of (plan_of_table label config) rows
      bitmap-read rows tells = is_at.bitmap ∙ ap (λ (k : ℕ). k % 256 ^ (plan.bits / 8)) tells.bitmap ∙ bitmap-small plan rows bits

      full-told : (P : code.Full → Type 0) (rows : List Entry) → Tells (plan_of_table label config) rows entry → P (fields_of (full_of rows)) → IfSome (found_at (plan_form (plan_of_table label config)) bytes j).full P
      full-told P rows tells here = by_form plan.full_index refl
        where
          by_form : (b : Bool) → plan.full_index ≡ b → IfSome (cond b (Some (full_at (plan_form (plan_of_table label config)) bytes j)) None) P
          by_form true e = subst P (sym (is_at.full e ∙ ap fields_of (tells.full e))) here
          by_form false e = tt

      committed-told : (m c : ℕ) → slice_get table.rows.counts m ≡ Some c → 0 < c → Tells (plan_of_table label config) (rows_at table m c) entry
          → TellsCommitted (layout_in config) (page_at f (kept_page (rows_shape config) n.marks m)) (found_at (plan_form (plan_of_table label config)) bytes j)
      committed-told m c e some tells = record {
        bitmap = bitmap-read (rows_at table m c) tells ∙ sym (headers bits m c e some);
        full = full-told (λ (full : code.Full). IsGoodPage (layout_in config) (page_number (at m)) (at m) × (full_view full ≡ full_in (rows_in (layout_in config) (at m)))) (rows_at table m c) tells
            ((read m c e some).good, fields m c e ∙ ap full_in (sym (rows-of m c e some)));
      }

      void-told : (rows : List Entry) → rows ≡ [] → Tells (plan_of_table label config) rows entry → TellsVoid (found_at (plan_form (plan_of_table label config)) bytes j)
      void-told rows none tells =
          full-told (λ (full : code.Full). (bitmap_at (plan_form plan) bytes j ≡ 0) × (full_view full ≡ full_of [])) rows tells
          (bitmap-read rows tells ∙ ap (bitmap_of plan) none ∙ zero_either (plan.bits == 0), ap (λ (es : List Entry). full_view (fields_of (full_of es))) none)

    -- what tells of the rows of a kept page tells of the page
    pub told : IsTrue (is_bits plan.bits) → (m c : ℕ) → slice_get table.rows.counts m ≡ Some c → (bytes : List ℕ) (j : ℕ) (entry : IndexEntry) → IsAt (plan_form (plan_of_table label config)) bytes j entry
        → Tells (plan_of_table label config) (rows_at table m c) entry → TellsPage (layout_in config) (page_at f (kept_page (rows_shape config) n.marks m)) (found_at (plan_form (plan_of_table label config)) bytes j)
    told bits m c e bytes j entry is_at tells = elim (cases_lt 0 c) [
      | inl some ↦ record {
        rows = λ committed. committed-told bits bytes j entry is_at m c e some tells;
        void = λ not. absurd (true≢false (sym (reads.committed m c e ∙ lt-ltb 0 c some) ∙ not));
      }
      | inr none ↦
          let z : c ≡ 0 = omega (arith, none) in
          record {
            rows = λ committed. absurd (true≢false (sym committed ∙ reads.committed m c e ∙ ap (nat_lt 0) z));
            void = λ not. void-told bits bytes j entry is_at (rows_at table m c) (ap (λ (k : ℕ). take k (drop (sum (take m table.rows.counts)) table.entries)) z ∙ take_none (drop (sum (take m table.rows.counts)) table.entries)) tells;
          }
    ]

    -- a bitmap alone tells nothing of a void page
    pub untold : (m : ℕ) → slice_get table.rows.counts m ≡ Some 0 → (found : Found) → found.full ≡ None → TellsPage (layout_in config) (page_at f (kept_page (rows_shape config) n.marks m)) found
    untold m e found none = record {
      rows = λ committed. absurd (true≢false (sym committed ∙ reads.committed m 0 e));
      void = λ not. subst (λ (o : Option code.Full). IfSome o (λ full. (found.bitmap ≡ 0) × (full_view full ≡ full_of []))) (sym none) tt;
    }

    keys : KeysAscend (layout_in config) (page_at f) (rows_shape config) n.marks
    keys = keys-ascend (layout_in config) (page_at f) (rows_shape config) (index_end plan table) table n reads counted rows-of (good.keys plan table facts)

  forms : AreFormed (IsRowsForm config) (page_at f) (rows_shape config) table.rows
  forms i c e some =
      let p = page_at f (place (rows_shape config) (model.oldest table.rows + i)) in
      is_data_page plan (layout_in config) config.buckets (model.oldest table.rows + i) p
      (record { layout_is = refl; buckets_are = has-buckets label config; size_is = sym (size (model.oldest table.rows + i)) })
      (good.rows plan table i c p facts e some (is.rests.pages.rows.kept i c e some))

  pub data-sound : SoundRing (IsRowsForm config) (OverPages (layout_in config)) (page_at f) (rows_shape config) (index_end (plan_of_table label config) table) table.rows
  data-sound = sound-ring f d (index_end plan table) (state_of plan table) shape good-data table.rows is-of (IsRowsForm config) (OverPages (layout_in config)) forms keys
