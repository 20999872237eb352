-- A step as the step of rows.
use Rattle.std.proofs.Common.{◌≡◌, ℕ, zero, suc, ◌+◌, ◌-◌, ◌^◌, ◌<◌, ◌≤◌, nat_le, true, false, Bool, ◌&&◌, if◌then◌else◌, [], filter, Result, Ok, Err, OnOk, OnErr, IfOk, IfErr, refl, ◌∙◌, ap, arith, inl, inr, Option, Some, None, subst}
use Rattle.std.specs.Bool.{OnTrue, OnFalse}
use Rattle.std.specs.Borrow.{Bor}
use Rattle.std.specs.List.{slice_get}
use Rattle.std.proofs.lemmas.Bool.{false≢true, le-leb, leb-true, lt-ltb, ltb-true}
use Rattle.fl_model.specs.Query.{Cursor as Asked, in_range, in_span, is_above, is_up_to}
use Rattle.fl_model.specs.Row.{Row}
use Rattle.fl_frame.specs.Contents.{Contents}
use Rattle.fl_page.specs.Steps.{Steps, left_after}
use Rattle.fl_page.specs.declared.fault.BadPage.{BadPage as BadPageOf}
use Rattle.fl_page.specs.declared.fault.ReadFault.{ReadFault}
use Rattle.fl_page.specs.declared.fault.ReadFault.TheVariants.{Flash, BadPage}
use Rattle.fl_flash.specs.Places.{page_of}
use Rattle.fl_index.specs.Memory.{per_page, place_in}
use Rattle.fl_index.specs.Page.{IsGoodPage}
use Rattle.fl_index.specs.declared.index.BitmapIndex.{BitmapIndex}
use Rattle.fl_index.proofs.Goods.{kept-good}
use Rattle.fl_mark.specs.Mark.{state_of_page}
use Rattle.fl_parts.specs.Bitmaps.{LieOn}
use Rattle.fl_table.specs.declared.table.Table.{Table}
use Rattle.fl_table.proofs.IndexStands.{index-stands}
use Rattle.fl_cursor.specs.Asked.{asked_by, is_left, row_matches, above_range, above_of}
use Rattle.fl_cursor.specs.Ascending.{both, left-above}
use Rattle.fl_cursor.specs.Cursor.{table_of, asked_of, buffer_of, index_page, present_of, left_of, is_end, has_ended, rows_behind, IsReady, IsStanding, IsTold, AreBadIn, IfBad, MayBeBad}
use Rattle.fl_cursor.specs.Going.{Keeps, Goes, Fails}
use Rattle.fl_cursor.specs.Listed.{rows_of}
use Rattle.fl_cursor.specs.Reads.{most_of, least_of, least_from}
use Rattle.fl_cursor.specs.declared.bookmark.Bookmark.{Bookmark}
use Rattle.fl_cursor.specs.declared.cursor.Cursor.{Cursor}
use Rattle.fl_cursor.specs.declared.place.Place.{Place}
use Rattle.fl_cursor.specs.declared.place.Place.TheVariants.{Start, Pages, InPage, Pending, Ended}
use Rattle.fl_cursor.proofs.PassedRows.{passes-left}
use Rattle.fl_cursor.proofs.Stood.{standing-good, standing-tells}
use Rattle.fl_cursor.proofs.Whole.{goes-steps}

end-is : (place : Place) → is_end place ≡ true → place ≡ Ended
end-is Ended e = refl
end-is Start e = absurd (false≢true e)
end-is (Pages next) e = absurd (false≢true e)
end-is (InPage number row) e = absurd (false≢true e)
end-is (Pending row) e = absurd (false≢true e)

-- at the end no row is left
pub ended-none : {KNOTS SLOTS : ℕ} (cursor : Cursor KNOTS SLOTS) (contents : Contents) → IsTold cursor contents → has_ended cursor ≡ true → left_of cursor contents ≡ []
ended-none cursor contents told e =
    passes-left (asked_of cursor) (rows_of (table_of cursor) contents) (rows_behind (table_of cursor) contents (buffer_of cursor) cursor.place) told.passes
    ∙ ap (λ (p : Place). filter (is_left (asked_of cursor)) (rows_behind (table_of cursor) contents (buffer_of cursor) p)) (end-is cursor.place e)

-- over a flash that stands for the table no index page is bad
none-bad : {KNOTS SLOTS : ℕ} (t : Table KNOTS SLOTS) (contents : Contents) (h : IsStanding t contents) (bad : BadPageOf) (bitmaps : Option BitmapIndex) → t.bitmaps ≡ bitmaps → AreBadIn bitmaps contents bad → ⊥
none-bad t contents h bad None is e = e
none-bad t contents h bad (Some index) is e =
    let same = ap (λ (c : Contents). page_of c.bytes c.start c.geometry.page (place_in index bad.wanted)) h.same in
    let lies = subst (λ (o : Option BitmapIndex). LieOn o h.flash) is h.lies.bitmaps in
    let good = kept-good index h.flash (h.first + h.plan.data_blocks) h.plan h.table (index-stands t h.flash h.first h.plan h.table h.stands index is) lies h.reaches bad.wanted e.from e.before (ap state_of_page same ∙ e.committed) in
    e.not_good (subst (IsGoodPage (per_page index) bad.wanted) same good)

-- a row that is left is in the range, and the next one lies above it
from-low : (asked : Asked) (row : Row) → is_left asked row ≡ true → nat_le asked.range.low row.key ≡ true
from-low asked row left =
    let parts = both (row_matches asked.range asked.span row && is_above asked.after row.key) (is_up_to asked.top row.key) left in
    let matching = both (row_matches asked.range asked.span row) (is_above asked.after row.key) parts.0 in
    let asks = both (in_range asked.range row.key) (in_span asked.span (slice_get row.values 0)) matching.0 in
    (both (nat_le asked.range.low row.key) (nat_le row.key asked.range.high) asks.0).0

above-taken : (low key : ℕ) → nat_le low key ≡ true → above_range low (Some key) ≡ Some key
above-taken zero key from = refl
above-taken (suc low) key from = ap (λ b. if b then Some key else Some low) (le-leb low key (omega (arith, leb-true (suc low) key from)))

above-more : (above : Option ℕ) (key next : ℕ) → is_above above key ≡ true → is_above (Some key) next ≡ true → is_above above next ≡ true
above-more None key next first second = refl
above-more (Some low) key next first second = lt-ltb low next (omega (arith, ltb-true low key first, ltb-true key next second))

module _ {KNOTS SLOTS : ℕ} (old new : Cursor KNOTS SLOTS) (contents : Contents) (reads reads_now : ℕ) where
  pub told-after : (result : Result Bool ReadFault) → IfOk result (λ more. Goes more contents reads old reads_now new) → OnErr result (Fails contents reads old reads_now new) → IsTold old contents → IsTold new contents
  told-after (Ok more) goes fails told = goes.told told
  told-after (Err fault) goes fails told = fails.told told

  pub kept-after : (result : Result Bool ReadFault) → IfOk result (λ more. Goes more contents reads old reads_now new) → OnErr result (Fails contents reads old reads_now new) → Keeps old new
  kept-after (Ok more) goes fails = goes.keeps
  kept-after (Err fault) goes fails = fails.keeps

  pub ready-after : (result : Result Bool ReadFault) → IfOk result (λ more. Goes more contents reads old reads_now new) → OnErr result (Fails contents reads old reads_now new) → (held : Contents) → IsReady old held → IsReady new held
  ready-after (Ok more) goes fails = goes.ready
  ready-after (Err fault) goes fails = fails.ready

  above-row : Goes true contents reads old reads_now new → above_of (asked_of new) ≡ Some (present_of new).key
  above-row goes = ap (λ (m : Bookmark). above_of (asked_by m)) goes.notes.0 ∙ above-taken old.mark.range.low (present_of new).key (from-low (asked_of old) (present_of new) goes.notes.1)

  -- the row that it took has the key above which the next one lies
  pub key-after : (result : Result Bool ReadFault) → IfOk result (λ more. Goes more contents reads old reads_now new) →
      IfOk result (λ more. OnTrue more ((above_of (asked_of new) ≡ Some (present_of new).key) × (is_above (above_of (asked_of old)) (present_of new).key ≡ true) × ((present_of new).key < 2 ^ 64)))
  key-after (Ok true) goes = (above-row goes, left-above (asked_of old) (present_of new) goes.notes.1, goes.notes.3)
  key-after (Ok false) goes = tt
  key-after (Err fault) goes = tt

  -- no lower one comes again
  pub falls-never : (result : Result Bool ReadFault) → IfOk result (λ more. Goes more contents reads old reads_now new) → OnErr result (Fails contents reads old reads_now new) →
      (key : ℕ) → is_above (above_of (asked_of new)) key ≡ true → is_above (above_of (asked_of old)) key ≡ true
  falls-never (Ok true) goes fails key above =
      above-more (above_of (asked_of old)) (present_of new).key key (left-above (asked_of old) (present_of new) goes.notes.1) (subst (λ (o : Option ℕ). is_above o key ≡ true) (above-row goes) above)
  falls-never (Ok false) goes fails key above = subst (λ (m : Bookmark). is_above (above_of (asked_by m)) key ≡ true) goes.notes above
  falls-never (Err fault) goes fails key above = subst (λ (m : Bookmark). is_above (above_of (asked_by m)) key ≡ true) fails.notes above

  same-left : Fails contents reads old reads_now new → left_of new contents ≡ left_of old contents
  same-left fails =
      ap (λ (m : Bookmark). filter (is_left (asked_by m)) (rows_of (table_of new) contents)) fails.notes
      ∙ ap (λ (t : Bor (Table KNOTS SLOTS)). filter (is_left (asked_of old)) (rows_of t.now contents)) fails.keeps.table

  pub steps-after : (result : Result Bool ReadFault) → IfOk result (λ more. Goes more contents reads old reads_now new) → OnErr result (Fails contents reads old reads_now new) → IfErr result (IfBad (MayBeBad (table_of old) contents)) →
      IfOk result (λ more. OnFalse more (has_ended new ≡ true)) → IsTold old contents → Steps result (left_of old contents) (present_of new) (left_of new contents)
  steps-after (Ok true) goes fails bad end told = goes.gives told
  steps-after (Ok false) goes fails bad end told = goes-steps false (left_of old contents) (present_of new) (left_of new contents) (goes.gives told) (ended-none new contents (goes.told told) end)
  steps-after (Err (Flash fault)) goes fails bad end told = same-left fails
  steps-after (Err (BadPage page)) goes fails bad end told =
      elim (bad (standing-tells (table_of old) contents told.standing)) [
        | inl is ↦ absurd (is.not_good (standing-good (table_of old) contents told.standing page.wanted is.from is.before is.committed))
        | inr is ↦ absurd (none-bad (table_of old) contents told.standing page (table_of old).bitmaps refl is)
      ]

  pub most-after : (result : Result Bool ReadFault) → IfOk result (λ more. Goes more contents reads old reads_now new) → OnErr result (Fails contents reads old reads_now new) → IsTold old contents →
      reads_now + left_after result (most_of new contents) ≤ reads + most_of old contents
  most-after (Ok more) goes fails told = goes.most told
  most-after (Err fault) goes fails told = let few = fails.most told in omega (arith, few)

  pub least-after : (result : Result Bool ReadFault) → IfOk result (λ more. Goes more contents reads old reads_now new) → IsTold old contents → reads_now < 2 ^ 64 - 1 →
      OnOk result (reads + least_of old contents ≤ reads_now + least_of new contents)
  least-after (Ok more) goes told lt = goes.least told lt
  least-after (Err fault) goes told lt = tt

  pub none-left : (result : Result Bool ReadFault) → IfOk result (λ more. OnFalse more (has_ended new ≡ true)) → IfOk result (λ more. OnFalse more (least_of new contents ≡ 0))
  none-left (Ok true) end = tt
  none-left (Ok false) end = ap (λ (p : Place). least_from (table_of new) contents (asked_of new) (index_page new) p) (end-is new.place end)
  none-left (Err fault) end = tt
