-- Where a flash stands for a table, the mount of its data ring comes to the pages of that table.
use Rattle.std.proofs.Common.{◌≡◌, ℕ, ◌+◌, ◌-◌, ◌/◌, ◌<◌, ◌≤◌, Bool, true, false, Option, Some, None, List, length, refl, sym, ◌∙◌, ap, subst, arith}
use Rattle.std.specs.List.{count_by, slice_get}
use Rattle.std.specs.Option.{is_none}
use Rattle.std.specs.Prelude.{not}
use Rattle.std.proofs.lemmas.Bool.{true≢false}
use Rattle.fl_flash.specs.Flash.{FlashState, page_at}
use Rattle.fl_flash.specs.Places.{extent}
use Rattle.fl_index.specs.declared.index.BitmapIndex.{BitmapIndex}
use Rattle.fl_index.specs.Memory.{form_in, oldest_in}
use Rattle.fl_index.specs.Memory as memory
use Rattle.fl_index.specs.Standing.{HasIndex, RemembersBelow}
use Rattle.fl_index.specs.declared.page.EntryForm.{EntryForm}
use Rattle.fl_index.proofs.SealEnds.{lies-size, planned-form}
use Rattle.fl_model.specs.Image.{rows_at}
use Rattle.fl_model.specs.Index.{IndexPage}
use Rattle.fl_model.specs.Limits.{is_listed, numbers_from, numbers_of}
use Rattle.fl_model.specs.Mount.{index_end}
use Rattle.fl_model.specs.MountLimit.{kept_in}
use Rattle.fl_model.specs.Record.{Plan, RowLayout, row_layout, row_len, rows_per_page, layout_len}
use Rattle.fl_model.specs.Ring as model
use Rattle.fl_model.specs.Table.{Table, lose}
use Rattle.fl_model.specs.Work.{Device}
use Rattle.fl_model.proofs.Lists.{each-at}
use Rattle.fl_ring.specs.Place.{next_of, oldest_of}
use Rattle.fl_ring.specs.Place as place
use Rattle.fl_ring.specs.Ring.{OnRing, Shape}
use Rattle.fl_ring.specs.Ring.{place as place_at}
use Rattle.fl_ring.specs.declared.ring.Ring.{Ring}
use Rattle.fl_schema.specs.Schema.{layout_of, types_of}
use Rattle.fl_parts.specs.Bitmaps.{ArePlanned, LieOn}
use Rattle.fl_parts.specs.ByEntries.{Come, entry, index_page, is_committed, end_before, unlisted_of}
use Rattle.fl_parts.specs.Coming.{ComesBy, ComesTo, StandFound, StandsFoundBy, most_in}
use Rattle.fl_table.specs.Memory.{IsPlanned}
use Rattle.fl_parts.specs.Reading.{pages_of}
use Rattle.fl_table.specs.declared.table.Table as code
use Rattle.fl_parts.proofs.MountProgress.{rows-come}
use Rattle.fl_table.proofs.Entries.{fields-fit}
use Rattle.fl_parts.proofs.IndexOfTable.{planned-none}
use Rattle.fl_table.proofs.MountCalls.{OthersStill}
use Rattle.fl_parts.proofs.MountLifted.{RowsMount}
use Rattle.fl_parts.proofs.MountRead.{HoldRows, hold-rows, page-of}
use Rattle.fl_parts.proofs.ListsStay.{below-moved, ring-moved}
use Rattle.fl_parts.proofs.Loose.{has-listed, none-listed}
use Rattle.fl_parts.proofs.Repaired.{idle-lost}
use Rattle.fl_table.proofs.SealAnswers.{planned-large}
use Rattle.fl_parts.proofs.StandingMount.{IsOf, IsPageOf, IsIndexOf}
use Rattle.fl_parts.proofs.StandingIndex.{index-of, ends-within, few-kept, listed-told}
use Rattle.fl_parts.proofs.StandingTotals.{unlisted-counted, unlisted-few}
use Rattle.fl_parts.proofs.States.{shape_in, state_of, state-oldest, HaveSize}

module _ {Left : Type 0} {KNOTS SLOTS : ℕ} (t : code.Table KNOTS SLOTS) (first : ℕ) (plan : Plan) (table : Table) (rose : Bool) (device : Device) (ring : Ring) (old mid : FlashState) (planned : IsPlanned t first plan) (here : place.shape_of ring ≡ shape_in first plan)
    (l : RowsMount Left first plan table rose device ring mid) (sizes : HaveSize first plan (page_at mid)) where
  old-is : oldest_of ring ≡ model.oldest l.now.state.rows
  old-is = l.stands.oldest ∙ state-oldest plan (lose l.now.state)

  many : next_of ring - oldest_of ring ≡ length l.now.state.rows.counts
  many = omega (arith, l.stands.next, old-is, l.facts.rows.not_negative)

  -- the pages that the ring reads hold the table's rows
  pub pages-hold : HoldRows l.now.state (layout_of t.schema) (pages_of ring mid) (oldest_of ring)
  pages-hold =
      let st = l.now.state in
      let on : OnRing (shape_in first plan) (page_at mid) (state_of plan l.now.state) = subst (λ (x : Table). OnRing (shape_in first plan) (page_at mid) (state_of plan x)) (sym (idle-lost l.now.state l.repaired.idle)) l.on in
      let size : t.geometry.page ≡ plan.geometry.page = ap (λ g. g.page) (sym planned.geometry) in
      let len : row_len plan ≡ layout_len (layout_of t.schema) = ap (λ (x : RowLayout). layout_len x) planned.layout in
      let h = hold-rows (page_at mid) first plan st t.schema.key (types_of t.schema) t.schema.blobs (sym planned.layout) (omega (arith, planned.limit, t.blobs_fit)) l.facts l.repaired.idle.pending (planned-large t first plan planned)
      (omega (arith, len, size, t.room_for_row)) (omega (arith, len, t.some_row)) (omega (arith, size, t.served.page_greatest)) sizes on in
      subst (λ (x : RowLayout). HoldRows l.now.state x (pages_of ring mid) (oldest_of ring)) planned.layout
      (subst (λ (r : Shape). HoldRows l.now.state (row_layout plan) (λ number. page_at mid (place_at r number)) (oldest_of ring)) (sym here)
      (subst (λ (k : ℕ). HoldRows l.now.state (row_layout plan) (λ number. page_at mid (place_at (shape_in first plan) number)) k) (sym old-is) h))

  -- the index that was found stands for the table's
  module _ (still : OthersStill old mid first plan) (stands : StandFound t.bitmaps old (first + plan.data_blocks) plan table) where
    pub found-there : StandFound t.bitmaps mid (first + plan.data_blocks) plan l.now.state
    found-there = by_index t.bitmaps stands
      where
        has : (r : model.Ring) → table.index ≡ Some r → HasIndex plan l.now.state r
        has r e = has-listed plan l.now.state r (l.repaired.index ∙ e) l.facts (omega (arith, ap length l.repaired.idle.waiting))

        by_form : (index : BitmapIndex) (full : Bool) → StandsFoundBy full index old (first + plan.data_blocks) plan table → StandsFoundBy full index mid (first + plan.data_blocks) plan l.now.state
        by_form index true h = below-moved (oldest_in index) index old mid (first + plan.data_blocks) plan table l.now.state h l.repaired.index_pages (has h.ring h.facts.ring_is) (λ n. (still n).0)
        by_form index false h = ring-moved index old mid (first + plan.data_blocks) plan table l.now.state h l.repaired.index_pages (has h.ring h.facts.ring_is) (λ n. (still n).0)

        by_index : (o : Option BitmapIndex) → StandFound o old (first + plan.data_blocks) plan table → StandFound o mid (first + plan.data_blocks) plan l.now.state
        by_index None h = tt
        by_index (Some index) h = by_form index (form_in index).full h

    module _ (c : Come) (comes : ComesTo c (layout_of t.schema) (most_in t.geometry.page (layout_of t.schema)) t.bitmaps ring mid) (most_is : c.most ≡ most_in t.geometry.page (layout_of t.schema)) (lies : LieOn t.bitmaps mid)
        (reaches : mid.start + extent mid.geometry mid.blocks ≤ length mid.media.content) where
      begin-is : c.oldest ≡ model.oldest l.now.state.rows
      begin-is = (rows-come c (layout_of t.schema) (most_in t.geometry.page (layout_of t.schema)) t.bitmaps ring mid comes).oldest ∙ old-is

      -- what a mount comes to of the index
      record IsIndexed : Type 0 where
        index : (k : ℕ) → k < c.index_pages → is_committed (index_page c k) ≡ true → IsIndexOf c k l.now.state
        ends : end_before c c.index_pages ≤ index_end plan l.now.state
        listed : plan.full_index ≡ true → (number : ℕ) → is_listed plan l.now.state number ≡ true → is_none (entry c number) ≡ false
        few : c.index_pages ≤ kept_in l.now.state.index

      index-comes : IsIndexed
      index-comes = by_index t.bitmaps refl found-there comes lies
        where
          none : c.index_pages ≡ 0 → (plan.full_index ≡ true → (number : ℕ) → is_listed plan l.now.state number ≡ false) → IsIndexed
          none e unlisted = record {
            index = λ k lt is. absurd (omega (arith, lt, e));
            ends = let z : end_before c c.index_pages ≡ 0 = ap (end_before c) e in omega (arith, z);
            listed = λ full number is. absurd (true≢false (sym is ∙ unlisted full number));
            few = omega (arith, e);
          }

          bare : t.bitmaps ≡ None → (number : ℕ) → is_listed plan l.now.state number ≡ false
          bare is number =
              let has = planned-none (first + plan.data_blocks) plan (subst (λ (o : Option BitmapIndex). ArePlanned o (first + plan.data_blocks) plan) is planned.index) in
              ap (λ (pages : List IndexPage). is_listed plan (record l.now.state { index_pages = pages }) number) (none-listed plan l.now.state has l.facts.index)

          by_form : (index : BitmapIndex) (full : Bool) → (form_in index).full ≡ full → StandsFoundBy full index mid (first + plan.data_blocks) plan l.now.state → ComesBy full c (layout_of t.schema) (most_in t.geometry.page (layout_of t.schema)) index ring mid → memory.LiesOn index mid → IsIndexed
          by_form index false e h k lie = none k.1 (λ full number. absurd (true≢false (sym full ∙ (sym (ap (λ (form : EntryForm). form.full) (planned-form index (first + plan.data_blocks) plan h.planned)) ∙ e))))
          by_form index true e h k lie =
              let size = lies-size index mid (first + plan.data_blocks) plan h.planned lie.geometry lie.within reaches in
              let fit = λ (n rows : ℕ) (e : slice_get l.now.state.rows.counts n ≡ Some rows). fields-fit t first plan l.now.state planned l.facts n rows e in
              record {
                index = λ j lt is. index-of (RemembersBelow (oldest_in index)) c (layout_of t.schema) (most_in t.geometry.page (layout_of t.schema)) index ring mid (first + plan.data_blocks) plan l.now.state k h size begin-is fit j lt is;
                ends = ends-within (RemembersBelow (oldest_in index)) c (layout_of t.schema) (most_in t.geometry.page (layout_of t.schema)) index ring mid (first + plan.data_blocks) plan l.now.state k h size begin-is fit;
                listed = λ full number is. listed-told (RemembersBelow (oldest_in index)) c (layout_of t.schema) (most_in t.geometry.page (layout_of t.schema)) index ring mid (first + plan.data_blocks) plan l.now.state k h size begin-is fit number is;
                few = few-kept (RemembersBelow (oldest_in index)) c (layout_of t.schema) (most_in t.geometry.page (layout_of t.schema)) index ring mid (first + plan.data_blocks) plan l.now.state k h size begin-is fit;
              }

          by_index : (o : Option BitmapIndex) → t.bitmaps ≡ o → StandFound o mid (first + plan.data_blocks) plan l.now.state → ComesTo c (layout_of t.schema) (most_in t.geometry.page (layout_of t.schema)) o ring mid → LieOn o mid → IsIndexed
          by_index None is h k lie = none k.1 (λ full. bare is)
          by_index (Some index) is h k lie = by_form index (form_in index).full refl h k lie

      pub index-ends : end_before c c.index_pages ≤ index_end plan l.now.state
      index-ends = index-comes.ends

      -- .. and of all pages
      pub comes-to : IsOf c l.now.state
      comes-to =
          let rows = rows-come c (layout_of t.schema) (most_in t.geometry.page (layout_of t.schema)) t.bitmaps ring mid comes in
          record {
            oldest = begin-is;
            pages = rows.pages ∙ many;
            rows = λ n count e.
                let at : c.oldest + n ≡ oldest_of ring + n = omega (arith, rows.oldest) in
                subst (λ number. IsPageOf c number count (rows_at l.now.state n count)) (sym at)
                (page-of c (layout_of t.schema) (oldest_of ring + n) count (pages_of ring mid (oldest_of ring + n)) (rows_at l.now.state n count) rows.layout_is (rows.rows (oldest_of ring + n)) (pages-hold.good n count e) (pages-hold.rows n count e)
                (pages-hold.many n count e));
            index = index-comes.index;
            few = λ n count e. let le = each-at (λ count. count ≤ rows_per_page plan) l.now.state.rows.counts n count l.facts.kept.few_rows e in omega (arith, le, most_is, room);
            ascending = l.facts.kept.ascending;
            counted = omega (arith, l.facts.kept.counted, l.repaired.idle.pending);
          }
        where
          room : rows_per_page plan ≡ most_in t.geometry.page (layout_of t.schema)
          room = ap (λ g. (g.page - 24) / row_len plan) planned.geometry ∙ ap (λ (x : RowLayout). (t.geometry.page - 24) / layout_len x) planned.layout

      -- where entries are full, no more data pages are read without an entry than those that the table's index doesn't list
      pub few-come : c.index_pages ≤ kept_in l.now.state.index
      few-come = index-comes.few

      pub few-unlisted : plan.full_index ≡ true → unlisted_of c c.oldest c.pages ≤ count_by (λ number. not (is_listed plan l.now.state number)) (numbers_of l.now.state)
      few-unlisted full =
          let few = unlisted-few (λ number. is_none (entry c number)) (λ number. not (is_listed plan l.now.state number)) c.oldest c.pages (λ i lt none. by_test (c.oldest + i) (is_listed plan l.now.state (c.oldest + i)) refl (index-comes.listed full (c.oldest + i)) none) in
          let counted = unlisted-counted c c.pages in
          let same = ap (λ n. count_by (λ number. not (is_listed plan l.now.state number)) (numbers_from n c.pages)) begin-is in
          let pages = ap (λ n. count_by (λ number. not (is_listed plan l.now.state number)) (numbers_from (model.oldest l.now.state.rows) n)) comes-to.pages in
          omega (arith, few, counted, same, pages)
        where
          by_test : (number : ℕ) (b : Bool) → is_listed plan l.now.state number ≡ b → (is_listed plan l.now.state number ≡ true → is_none (entry c number) ≡ false) → is_none (entry c number) ≡ true → not b ≡ true
          by_test number true e told none = absurd (true≢false (sym none ∙ told e))
          by_test number false e told none = refl
