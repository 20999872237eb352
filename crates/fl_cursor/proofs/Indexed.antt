-- A look at the index, for the page that comes next.
use Rattle.std.proofs.Common.{◌≡◌, inl, inr, ℕ, ◌+◌, ◌-◌, ◌<◌, ◌≤◌, Bool, true, false, not, cond, Option, Some, None, Result, Ok, Err, IfOk, IsTrue, List, [], length, refl, sym, ◌∙◌, ap, subst, pos_of_ne-zero}
use Rattle.std.specs.Borrow.{MutBor}
use Rattle.std.specs.List.{slice_get, list_any}
use Rattle.std.proofs.lemmas.Option.{none-some}
use Rattle.fl_base.specs.declared.types.KeyRange.{KeyRange}
use Rattle.fl_flash.specs.Buffer.{BufferState}
use Rattle.fl_flash.specs.Flash.{FlashState, page_at}
use Rattle.fl_flash.specs.Places.{page_of}
use Rattle.fl_index.specs.Looking as looking
use Rattle.fl_index.specs.declared.index.BitmapIndex.{BitmapIndex}
use Rattle.fl_mark.specs.Mark.{state_of_page}
use Rattle.fl_model.specs.Image.{rows_at}
use Rattle.fl_model.specs.Query.{selected}
use Rattle.fl_model.specs.Record.{Plan}
use Rattle.fl_model.specs.Ring as rings
use Rattle.fl_model.specs.Row.{Row}
use Rattle.fl_model.specs.Table as model
use Rattle.fl_frame.specs.Contents.{Contents, contents_of, OnlyReads}
use Rattle.fl_frame.proofs.ContentsInTurn.{OnlyReads-reads}
use Rattle.fl_page.specs.Page.{IsGoodPage, bad_page}
use Rattle.fl_page.specs.declared.fault.ReadFault.{ReadFault}
use Rattle.fl_page.specs.declared.fault.ReadFault.TheVariants.{Flash, BadPage}
use Rattle.fl_table.specs.Look.{oldest_in, rows_noted, place_of, layout_in}
use Rattle.fl_table.specs.Memory.{next_in}
use Rattle.fl_parts.specs.Kept.{IfRead, IsFound}
use Rattle.fl_parts.specs.Skipping as skipping
use Rattle.fl_parts.specs.Skipping.{AreFresh, AreScanning, HoldGood, IsBadIndex, LooksOn, wants_page, ShowsPage}
use Rattle.fl_parts.specs.declared.ahead.Ahead.{Ahead}
use Rattle.fl_parts.specs.declared.ahead.Ahead.TheVariants.{Wanted, Missed, Beyond}
use Rattle.fl_table.specs.Standing.{Stands}
use Rattle.fl_table.specs.declared.table.Table.{Table}
use Rattle.fl_cursor.specs.Asked.{is_asked}
use Rattle.fl_cursor.specs.Cursor.{table_of, asked_of, index_page, IsStanding, IsTold, IsLooking, AreFreshIn, AreBadIn, MayBeBad, IfBad, IsBadPage}
use Rattle.fl_cursor.specs.Listed.{bytes_at, rows_on}
use Rattle.fl_cursor.specs.Reads.{is_beyond, is_missed}
use Rattle.fl_cursor.specs.declared.cursor.Cursor.{Cursor}
use Rattle.fl_cursor.specs.declared.place.Place.{Place}
use Rattle.fl_cursor.specs.declared.place.Place.TheVariants.{Start, Pages, InPage, Pending, Ended}
use Rattle.fl_cursor.proofs.LowestPage.{stands-moved}
use Rattle.fl_cursor.proofs.PassedRows.{NotLeft}
use Rattle.fl_cursor.proofs.Stood.{standing-tells, at-number, back}
use Rattle.fl_cursor.proofs.NextPages.{Looked, ahead_at}
use Rattle.fl_cursor.proofs.Wanted.{beyond-same, missed-wanted, rows-are, none-matches, unmatched-left, unmatched-asked}

-- what a buffer holds, by a flash and by what that holds
pub fresh-on : (bitmaps : Option BitmapIndex) (f : FlashState) (buf : BufferState) → AreFreshIn bitmaps (contents_of f) buf → AreFresh bitmaps f buf
fresh-on None f buf h = tt
fresh-on (Some index) f buf h = h

pub fresh-in : (bitmaps : Option BitmapIndex) (f : FlashState) (buf : BufferState) → AreFresh bitmaps f buf → AreFreshIn bitmaps (contents_of f) buf
fresh-in None f buf h = tt
fresh-in (Some index) f buf h = h

-- a buffer that holds no page
pub fresh-none : (bitmaps : Option BitmapIndex) (contents : Contents) (buf : BufferState) → buf.holds ≡ None → AreFreshIn bitmaps contents buf
fresh-none None contents buf none = tt
fresh-none (Some index) contents buf none = λ number held. absurd (none-some _ (sym none ∙ held.place))

pub good-none : (bitmaps : Option BitmapIndex) (buf : BufferState) → buf.holds ≡ None → HoldGood bitmaps buf
good-none None buf none = tt
good-none (Some index) buf none = λ number held. absurd (none-some _ (sym none ∙ held.place))

pub scanning-none : (bitmaps : Option BitmapIndex) (number : ℕ) (buf : BufferState) → buf.holds ≡ None → AreScanning bitmaps number buf
scanning-none None number buf none = tt
scanning-none (Some index) number buf none = inl (none, ap (looking.after_held _ _) none)

pub looking-none : (bitmaps : Option BitmapIndex) (place : Place) (buf : BufferState) → buf.holds ≡ None → IsLooking bitmaps place buf
looking-none bitmaps Start buf none = scanning-none bitmaps 0 buf none
looking-none bitmaps (Pages next) buf none = scanning-none bitmaps next buf none
looking-none bitmaps (InPage number row) buf none = scanning-none bitmaps (number + 1) buf none
looking-none bitmaps (Pending row) buf none = tt
looking-none bitmaps Ended buf none = tt

module _ {KNOTS SLOTS : ℕ} (old : Cursor KNOTS SLOTS) (next : ℕ) (here_is : old.place ≡ Pages next) (from : oldest_in (table_of old) ≤ next) (before : next < next_in (table_of old)) (f new : FlashState) (result : Result Ahead ReadFault) (index : MutBor BufferState) where
  pub looked : new.work.reads ≤ f.work.reads + 1 → index.ghost_name ≡ old.index_buf.ghost_name → length index.now.bytes ≡ length old.index_buf.now.bytes → OnlyReads f new → (HoldGood (table_of old).bitmaps (index_page old) → HoldGood (table_of old).bitmaps index.now) →
      (IsTrue f.media.tells → AreFresh (table_of old).bitmaps f (index_page old) → AreFresh (table_of old).bitmaps new index.now) →
      ((first : ℕ) (plan : Plan) (table : model.Table) → IsTrue f.media.tells → Stands (table_of old) f first plan table → AreFresh (table_of old).bitmaps f (index_page old) → AreScanning (table_of old).bitmaps next (index_page old) →
      LooksOn (table_of old).bitmaps (asked_of old).span next (index_page old) f.work.reads result new.work.reads index.now) →
      ((first : ℕ) (plan : Plan) (table : model.Table) (n rows : ℕ) → IsTrue f.media.tells → Stands (table_of old) f first plan table → AreFresh (table_of old).bitmaps f (index_page old) → next ≡ rings.oldest table.rows + n →
      slice_get table.rows.counts n ≡ Some rows → 0 < rows → ShowsPage plan table (asked_of old).span (asked_of old).top next (rows_at table n rows) result) →
      ((first : ℕ) (plan : Plan) (table : model.Table) (n rows : ℕ) (range : KeyRange) → IsTrue f.media.tells → Stands (table_of old) f first plan table → AreFresh (table_of old).bitmaps f (index_page old) → next ≡ rings.oldest table.rows + n →
      slice_get table.rows.counts n ≡ Some rows → 0 < rows → result ≡ Ok Missed → selected range (asked_of old).span (rows_at table n rows) ≡ []) →
      Looked old next (contents_of f) f.work.reads result new.work.reads index
  looked one named room counts good fresh looks shows misses = record {
    named = named;
    room = room;
    good = good;
    later = OnlyReads-reads f new counts;
    one = one;
    fresh = λ told. subst (λ (k : Contents). AreFreshIn (table_of old).bitmaps k index.now) counts.contents (fresh-in (table_of old).bitmaps new index.now (fresh (tells told) (known told)));
    looks = λ told. looks told.standing.first told.standing.plan told.standing.table (tells told) (stands told) (known told) (scanning told);
    shows = λ told some. by_result told some result
        (shows told.standing.first told.standing.plan told.standing.table (next - rings.oldest told.standing.table.rows) (rows_noted (table_of old) next) (tells told) (stands told) (known told)
        (sym (back (table_of old) (contents_of f) told.standing next from)) (at-number (table_of old) (contents_of f) told.standing next from before) (pos_of_ne-zero some));
    misses = λ told some missed.
        let none = none-matches (asked_of old) (rows_at told.standing.table (next - rings.oldest told.standing.table.rows) (rows_noted (table_of old) next))
        (misses told.standing.first told.standing.plan told.standing.table (next - rings.oldest told.standing.table.rows) (rows_noted (table_of old) next) (asked_of old).range (tells told) (stands told) (known told)
        (sym (back (table_of old) (contents_of f) told.standing next from)) (at-number (table_of old) (contents_of f) told.standing next from before) (pos_of_ne-zero some) missed) in
        let rows = rows-are (table_of old) (contents_of f) told.standing next from before in
        let entries = rows_at told.standing.table (next - rings.oldest told.standing.table.rows) (rows_noted (table_of old) next) in
        (subst (λ (xs : List Row). NotLeft (asked_of old) xs) (sym rows) (unmatched-left (asked_of old) entries none), ap (list_any (is_asked (asked_of old))) rows ∙ unmatched-asked (asked_of old) entries none);
  }
    where
      tells : IsTold old (contents_of f) → IsTrue f.media.tells
      tells told = standing-tells (table_of old) (contents_of f) told.standing

      stands : (told : IsTold old (contents_of f)) → Stands (table_of old) f told.standing.first told.standing.plan told.standing.table
      stands told = stands-moved (table_of old) f told.standing

      known : IsTold old (contents_of f) → AreFresh (table_of old).bitmaps f (index_page old)
      known told = fresh-on (table_of old).bitmaps f (index_page old) told.fresh

      scanning : IsTold old (contents_of f) → AreScanning (table_of old).bitmaps next (index_page old)
      scanning told = subst (λ (p : Place). IsLooking (table_of old).bitmaps p (index_page old)) here_is told.looking

      by_result : (told : IsTold old (contents_of f)) → (rows_noted (table_of old) next ≡ 0 → ⊥) → (result : Result Ahead ReadFault) →
          ShowsPage told.standing.plan told.standing.table (asked_of old).span (asked_of old).top next (rows_at told.standing.table (next - rings.oldest told.standing.table.rows) (rows_noted (table_of old) next)) result →
          IfOk result (λ ahead. ahead ≡ ahead_at (is_beyond (table_of old) (contents_of f) (asked_of old).span (asked_of old).top next) (is_missed (table_of old) (asked_of old).span next (rows_on (table_of old) (contents_of f) next)))
      by_result told some (Ok ahead) shown =
          let entries = rows_at told.standing.table (next - rings.oldest told.standing.table.rows) (rows_noted (table_of old) next) in
          let beyond = beyond-same (table_of old) (contents_of f) told.standing next from before (asked_of old).span (asked_of old).top (pos_of_ne-zero some) in
          let missed = missed-wanted (table_of old) (contents_of f) told.standing next from before (asked_of old).span in
          shown
          ∙ (ap (cond (skipping.is_beyond told.standing.plan told.standing.table (asked_of old).span (asked_of old).top next entries) Beyond) (swapped (wants_page told.standing.plan told.standing.table (asked_of old).span next entries))
          ∙ (ap (λ b. ahead_at b (not (wants_page told.standing.plan told.standing.table (asked_of old).span next entries))) (sym beyond)
          ∙ ap (ahead_at (is_beyond (table_of old) (contents_of f) (asked_of old).span (asked_of old).top next)) (sym missed)))
        where
          swapped : (wants : Bool) → cond wants Wanted Missed ≡ cond (not wants) Missed Wanted
          swapped true = refl
          swapped false = refl
      by_result told some (Err fault) shown = tt

-- what was answered, by another name
pub looked-as : {KNOTS SLOTS : ℕ} {old : Cursor KNOTS SLOTS} {next reads mid : ℕ} {contents : Contents} {index : MutBor BufferState} {a b : Ahead} → a ≡ b → Looked old next contents reads (Ok a) mid index → Looked old next contents reads (Ok b) mid index
looked-as {old} {next} {reads} {mid} {contents} {index} e h = subst (λ x. Looked old next contents reads (Ok x) mid index) e h

-- a bad index page that is answered
pub bad-index : {KNOTS SLOTS : ℕ} (t : Table KNOTS SLOTS) (f : FlashState) (buf : BufferState) (fault : ReadFault) → HoldGood t.bitmaps buf → looking.IfBad (λ bad. IsTrue f.media.tells → HoldGood t.bitmaps buf → IsBadIndex t.bitmaps f bad) fault →
    IfBad (MayBeBad t (contents_of f)) fault
bad-index t f buf (Flash fault) good h = tt
bad-index t f buf (BadPage bad) good h = λ tells. inr (by_index t.bitmaps (h tells good))
  where
    by_index : (bitmaps : Option BitmapIndex) → IsBadIndex bitmaps f bad → AreBadIn bitmaps (contents_of f) bad
    by_index None e = e
    by_index (Some index) e = record { from = e.from; before = e.before; committed = e.committed; not_good = e.not_good; told = e.told }

-- the bytes that were read after the look
pub told-bytes : {KNOTS SLOTS : ℕ} (t : Table KNOTS SLOTS) (number : ℕ) (f new : FlashState) (bytes : List ℕ) → IsTrue f.media.tells → OnlyReads f new → (IsTrue new.media.tells → bytes ≡ page_at new (place_of t number)) → bytes ≡ bytes_at t (contents_of f) number
told-bytes t number f new bytes tells counts read =
    read (subst (λ (k : Contents). IsTrue k.tells) (sym counts.contents) tells)
    ∙ ap (λ (k : Contents). page_of k.bytes k.start k.geometry.page (place_of t number)) counts.contents

pub page-bytes : {KNOTS SLOTS : ℕ} (t : Table KNOTS SLOTS) (number : ℕ) (f new : FlashState) (bytes : List ℕ) → IsStanding t (contents_of f) → OnlyReads f new → (IsTrue new.media.tells → bytes ≡ page_at new (place_of t number)) → bytes ≡ bytes_at t (contents_of f) number
page-bytes t number f new bytes standing counts read = told-bytes t number f new bytes (standing-tells t (contents_of f) standing) counts read

-- a bad page that was read after the look
pub bad-kept : {KNOTS SLOTS : ℕ} (t : Table KNOTS SLOTS) (f new : FlashState) (number : ℕ) (page : List ℕ) (fault : ReadFault) → oldest_in t ≤ number → number < next_in t → OnlyReads f new →
    IsFound (layout_in t) number page (Err fault) → IfRead (Err fault) (IsTrue new.media.tells → page ≡ page_at new (place_of t number)) → IfBad (MayBeBad t (contents_of f)) fault
bad-kept t f new number page (Flash e) from before counts found read = tt
bad-kept t f new number page (BadPage bad) from before counts found read = λ tells.
    let same = told-bytes t number f new page tells counts read in
    inl (subst (λ b. IsBadPage t (contents_of f) b) (sym found.2) (record {
      from = from;
      before = before;
      committed = ap state_of_page (sym same) ∙ found.0;
      not_good = λ good. found.1 (subst (IsGoodPage (layout_in t) number) (sym same) good);
      told = ap (bad_page number) same;
    }))
