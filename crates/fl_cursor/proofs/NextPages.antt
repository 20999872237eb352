-- A cursor that reads the next page, or goes past a page without rows.
use Rattle.std.proofs.Common.{◌≡◌, ℕ, suc, ◌+◌, ◌-◌, ◌^◌, ◌<◌, ◌≤◌, min, Bool, true, false, ◌||◌, cond, ◌==◌, Result, Ok, Err, IfOk, List, [], ◌∷◌, ◌++◌, length, refl, sym, ◌∙◌, ap, subst, append_assoc, arith}
use Rattle.std.specs.Borrow.{MutBor}
use Rattle.std.specs.List.{list_any, AllByRecursion}
use Rattle.std.proofs.lemmas.Bool.{eq-eqb, eqb-true, false_from_ne_true}
use Rattle.fl_base.proofs.Tests.{one_at_most}
use Rattle.fl_flash.specs.Buffer.{BufferState}
use Rattle.fl_mark.specs.Mark.{state_of_page}
use Rattle.fl_mark.specs.declared.page_state.PageState.TheVariants.{Committed}
use Rattle.fl_model.specs.Query.{is_up_to}
use Rattle.fl_model.specs.Row.{Row}
use Rattle.fl_model.proofs.Lists.{each-weaker}
use Rattle.fl_frame.specs.Contents.{Contents}
use Rattle.fl_page.specs.Page.{IsGoodPage, rows_in}
use Rattle.fl_page.specs.declared.fault.ReadFault.{ReadFault}
use Rattle.fl_table.specs.Look.{layout_in, oldest_in, rows_noted, buffered_rows}
use Rattle.fl_table.specs.Memory.{next_in}
use Rattle.fl_parts.specs.Skipping.{AreScanning, HoldGood, LooksOn, unread_of, due_of}
use Rattle.fl_parts.specs.declared.ahead.Ahead.{Ahead}
use Rattle.fl_parts.specs.declared.ahead.Ahead.TheVariants.{Wanted, Missed, Beyond}
use Rattle.fl_cursor.specs.Asked.{is_asked}
use Rattle.fl_cursor.specs.Cursor.{table_of, asked_of, buffer_of, index_page, rows_behind, Passes, IsPlaced, IsTold, IsLooking, AreFreshIn}
use Rattle.fl_cursor.specs.Going.{Goes, Fails}
use Rattle.fl_cursor.specs.Listed.{bytes_at, rows_on, rows_over, rows_from, rows_of}
use Rattle.fl_cursor.specs.Reads.{has_last, is_beyond, is_missed, looks_to_last, pages_to_last, pages_asked, pages_looked_up, most_from, least_from}
use Rattle.fl_cursor.specs.declared.cursor.Cursor.{Cursor}
use Rattle.fl_cursor.specs.declared.place.Place.{Place}
use Rattle.fl_cursor.specs.declared.place.Place.TheVariants.{Pages, InPage, Ended}
use Rattle.fl_cursor.proofs.Beyond.{Past, beyond-begins, none-beyond, past-beyond}
use Rattle.fl_cursor.proofs.IndexLookups.{looking-later, unread-less, due-more, due-nothing, looked-from}
use Rattle.fl_cursor.proofs.PassedRows.{NotLeft, passes-end, passes-same, passes-over}
use Rattle.fl_cursor.proofs.Stood.{standing-committed}
use Rattle.fl_cursor.proofs.TakenRows.{moves-on}

-- with other pages in its buffers it goes on from another place
pub turns : {KNOTS SLOTS : ℕ} (old : Cursor KNOTS SLOTS) (buf index : MutBor BufferState) (place : Place) (contents : Contents) (reads reads_now : ℕ) → buf.ghost_name ≡ old.rows_buf.ghost_name → length buf.now.bytes ≡ length old.rows_buf.now.bytes →
    index.ghost_name ≡ old.index_buf.ghost_name → length index.now.bytes ≡ length old.index_buf.now.bytes → (HoldGood (table_of old).bitmaps (index_page old) → HoldGood (table_of old).bitmaps index.now) →
    IsPlaced (table_of old) buf.now.bytes place → (reads_now < 2 ^ 64 - 1 → reads ≤ reads_now) →
    (IsTold old contents → Passes (asked_of old) (rows_of (table_of old) contents) (rows_behind (table_of old) contents buf.now.bytes place)) →
    (IsTold old contents → AreFreshIn (table_of old).bitmaps contents index.now) → (IsTold old contents → IsLooking (table_of old).bitmaps place index.now) →
    (IsTold old contents → reads_now + most_from (table_of old) contents (asked_of old) index.now buf.now.bytes place ≤ reads + most_from (table_of old) contents (asked_of old) (index_page old) (buffer_of old) old.place) →
    (IsTold old contents → most_from (table_of old) contents (asked_of old) index.now buf.now.bytes place ≤ most_from (table_of old) contents (asked_of old) (index_page old) (buffer_of old) old.place) →
    (IsTold old contents → reads_now < 2 ^ 64 - 1 → reads + least_from (table_of old) contents (asked_of old) (index_page old) old.place ≤ reads_now + least_from (table_of old) contents (asked_of old) index.now place) →
    Goes false contents reads old reads_now (record old { rows_buf = buf; index_buf = index; place = place })
turns old buf index place contents reads reads_now named room index_named index_room good placed later passes fresh looking most fewer least = record {
  keeps = record { table = refl; rows_name = named; rows_room = room; index_name = index_named; index_room = index_room };
  notes = refl;
  ready = λ held h. record { flash = h.flash; same = h.same; lies = h.lies; rows_room = room ∙ h.rows_room; index_room = index_room ∙ h.index_room; placed = placed; index_good = good h.index_good };
  told = λ told. record { standing = told.standing; ascends = told.ascends; passes = passes told; fresh = fresh told; looking = looking told };
  gives = λ told. refl;
  most = most;
  fewer = fewer;
  later = later;
  least = least;
}

-- what is known of a page that lies beyond the last key, or is missed
abbrev pub ahead_at : (beyond missed : Bool) → Ahead
ahead_at beyond missed = cond beyond Beyond (cond missed Missed Wanted)

wanted-at : (beyond missed : Bool) → Wanted ≡ ahead_at beyond missed → (beyond ≡ false) × (missed ≡ false)
wanted-at false false e = (refl, refl)
wanted-at true missed e = absurd (other e)
  where
    other : Wanted ≡ Beyond → ⊥
    other e = cc
wanted-at false true e = absurd (other e)
  where
    other : Wanted ≡ Missed → ⊥
    other e = cc

missed-at : (beyond missed : Bool) → Missed ≡ ahead_at beyond missed → (beyond ≡ false) × (missed ≡ true)
missed-at false true e = (refl, refl)
missed-at true missed e = absurd (other e)
  where
    other : Missed ≡ Beyond → ⊥
    other e = cc
missed-at false false e = absurd (other e)
  where
    other : Missed ≡ Wanted → ⊥
    other e = cc

beyond-at : (beyond missed : Bool) → Beyond ≡ ahead_at beyond missed → beyond ≡ true
beyond-at true missed e = refl
beyond-at false true e = absurd (other e)
  where
    other : Beyond ≡ Missed → ⊥
    other e = cc
beyond-at false false e = absurd (other e)
  where
    other : Beyond ≡ Wanted → ⊥
    other e = cc

-- What a look at the index made of the buffer of index pages.
pub record Looked {KNOTS SLOTS : ℕ} (old : Cursor KNOTS SLOTS) (next : ℕ) (contents : Contents) (reads : ℕ) (result : Result Ahead ReadFault) (mid : ℕ) (index : MutBor BufferState) : Type 0 where
  pub named : index.ghost_name ≡ old.index_buf.ghost_name
  pub room : length index.now.bytes ≡ length old.index_buf.now.bytes
  pub good : HoldGood (table_of old).bitmaps (index_page old) → HoldGood (table_of old).bitmaps index.now
  pub later : mid < 2 ^ 64 - 1 → reads ≤ mid
  pub one : mid ≤ reads + 1
  pub fresh : IsTold old contents → AreFreshIn (table_of old).bitmaps contents index.now
  pub looks : IsTold old contents → LooksOn (table_of old).bitmaps (asked_of old).span next (index_page old) reads result mid index.now
  pub shows : IsTold old contents → (rows_noted (table_of old) next ≡ 0 → ⊥) → IfOk result (λ ahead. ahead ≡ ahead_at (is_beyond (table_of old) contents (asked_of old).span (asked_of old).top next) (is_missed (table_of old) (asked_of old).span next (rows_on (table_of old) contents next)))
  pub misses : IsTold old contents → (rows_noted (table_of old) next ≡ 0 → ⊥) → result ≡ Ok Missed →
      NotLeft (asked_of old) (rows_on (table_of old) contents next) × (list_any (is_asked (asked_of old)) (rows_on (table_of old) contents next) ≡ false)

module _ {KNOTS SLOTS : ℕ} (old : Cursor KNOTS SLOTS) (next : ℕ) (here_is : old.place ≡ Pages next) (from : oldest_in (table_of old) ≤ next) (before : next < next_in (table_of old)) (contents : Contents) (reads : ℕ) where
  abbrev behind : List Row
  behind = rows_from old.table.now contents (next + 1)

  abbrev pages_behind : ℕ
  pages_behind = pages_to_last old.table.now contents old.mark.span old.mark.top (next + 1) (next_in old.table.now - (next + 1))

  abbrev looks_behind : ℕ
  looks_behind = looks_to_last old.table.now contents old.mark.span old.mark.top (next + 1) (next_in old.table.now - (next + 1))

  -- where this page has rows, lies beyond the last key, is missed, or has a row behind which none may be given
  abbrev pages_by : (beyond missed last : Bool) → ℕ
  pages_by beyond missed last = cond beyond 0 (cond missed pages_behind (1 + cond last 0 pages_behind))

  abbrev looks_by : (beyond missed last : Bool) → ℕ
  looks_by beyond missed last = 1 + cond beyond 0 (cond missed looks_behind (cond last 0 looks_behind))

  abbrev beyond_here : Bool
  beyond_here = is_beyond old.table.now contents old.mark.span old.mark.top next

  abbrev missed_here : Bool
  missed_here = is_missed old.table.now old.mark.span next (rows_on old.table.now contents next)

  abbrev last_here : Bool
  last_here = has_last old.mark.top (rows_on old.table.now contents next)

  abbrev unread_here : ℕ
  unread_here = unread_of old.mark.span old.table.now.bitmaps next old.index_buf.now

  abbrev asked_behind : ℕ
  asked_behind = pages_asked old.table.now contents (asked_of old) (next + 1) (next_in old.table.now - (next + 1))

  abbrev looked_behind : List ℕ
  looked_behind = pages_looked_up old.table.now contents old.mark.top (next + 1) (next_in old.table.now - (next + 1))

  one-page : next_in (table_of old) - next ≡ suc (next_in (table_of old) - (next + 1))
  one-page = omega (arith, before)

  ahead-here : rows_behind (table_of old) contents (buffer_of old) old.place ≡ rows_on (table_of old) contents next ++ behind
  ahead-here =
      ap (rows_behind (table_of old) contents (buffer_of old)) here_is
      ∙ (ap (λ k. rows_over (table_of old) contents next k ++ buffered_rows (table_of old)) one-page
      ∙ append_assoc (rows_on (table_of old) contents next) (rows_over (table_of old) contents (next + 1) (next_in (table_of old) - (next + 1))) (buffered_rows (table_of old)))

  passes-here : IsTold old contents → Passes (asked_of old) (rows_of (table_of old) contents) (rows_on (table_of old) contents next ++ behind)
  passes-here told = passes-same (asked_of old) (rows_of (table_of old) contents) (rows_behind (table_of old) contents (buffer_of old) old.place) (rows_on (table_of old) contents next ++ behind) ahead-here told.passes

  most-here : most_from (table_of old) contents (asked_of old) (index_page old) (buffer_of old) old.place
      ≡ cond beyond_here 0 (cond ((rows_noted (table_of old) next == 0) || missed_here) pages_behind (1 + cond last_here 0 pages_behind))
      + min unread_here (cond (rows_noted (table_of old) next == 0) looks_behind (looks_by beyond_here missed_here last_here))
  most-here =
      ap (most_from (table_of old) contents (asked_of old) (index_page old) (buffer_of old)) here_is
      ∙ ap (λ n. pages_to_last (table_of old) contents (asked_of old).span (asked_of old).top next n + min unread_here (looks_to_last (table_of old) contents (asked_of old).span (asked_of old).top next n)) one-page

  least-here : least_from (table_of old) contents (asked_of old) (index_page old) old.place
      ≡ cond (list_any (is_asked (asked_of old)) (rows_on (table_of old) contents next)) 1 0 + asked_behind
      + due_of (asked_of old).span (table_of old).bitmaps (cond (list_any (λ row. is_up_to (asked_of old).top row.key) (rows_on (table_of old) contents next)) (next ∷ looked_behind) looked_behind) (index_page old)
  least-here =
      ap (least_from (table_of old) contents (asked_of old) (index_page old)) here_is
      ∙ ap (λ n. pages_asked (table_of old) contents (asked_of old) next n + due_of (asked_of old).span (table_of old).bitmaps (pages_looked_up (table_of old) contents (asked_of old).top next n) (index_page old)) one-page

  -- at most the page itself is looked up beside those behind it
  due-here : (b : Bool) → due_of (asked_of old).span (table_of old).bitmaps (cond b (next ∷ looked_behind) looked_behind) (index_page old) ≤ due_of (asked_of old).span (table_of old).bitmaps (next ∷ looked_behind) (index_page old)
  due-here true = omega arith
  due-here false = due-more (asked_of old).span (table_of old).bitmaps next looked_behind (index_page old)

  looked-later : AllByRecursion (λ n. next ≤ n) looked_behind
  looked-later = each-weaker (λ n. next + 1 ≤ n) (λ n. next ≤ n) (λ n le. omega (arith, le)) looked_behind (looked-from (table_of old) contents (asked_of old).top (next_in (table_of old) - (next + 1)) (next + 1))

  looking-here : IsTold old contents → AreScanning (table_of old).bitmaps next (index_page old)
  looking-here told = subst (λ (p : Place). IsLooking (table_of old).bitmaps p (index_page old)) here_is told.looking

  kept-next : (oldest_in (table_of old) ≤ next + 1) × (next + 1 ≤ next_in (table_of old))
  kept-next = (omega (arith, from), omega (arith, before))

  -- a page without rows is passed
  pub page-skipped : rows_noted (table_of old) next ≡ 0 → Goes false contents reads old reads (record old { place = Pages (next + 1) })
  page-skipped none =
      let is : (rows_noted (table_of old) next == 0) ≡ true = eq-eqb (rows_noted (table_of old) next) 0 none in
      let rows : rows_on (table_of old) contents next ≡ [] = ap (λ b. cond b [] (rows_in (layout_in (table_of old)) (bytes_at (table_of old) contents next))) is in
      moves-on old contents reads (Pages (next + 1)) kept-next
      (λ told. passes-same (asked_of old) (rows_of (table_of old) contents) (rows_on (table_of old) contents next ++ behind) behind (ap (λ (xs : List Row). xs ++ behind) rows) (passes-here told))
      (λ told. looking-later (table_of old).bitmaps next (next + 1) (index_page old) (omega arith) (looking-here told))
      (λ told.
      let most = most-here ∙ (ap (λ b. cond beyond_here 0 (cond (b || missed_here) pages_behind (1 + cond last_here 0 pages_behind)) + min unread_here (cond b looks_behind (looks_by beyond_here missed_here last_here))) is
      ∙ ap (λ b. cond b 0 pages_behind + min unread_here looks_behind) (none-beyond (table_of old) contents (asked_of old).span (asked_of old).top next rows)) in
      let less = unread-less (asked_of old).span (table_of old).bitmaps next (next + 1) (index_page old) (omega arith) in
      omega (arith, most, less))
      (λ told.
      let least = least-here ∙ ap (λ (xs : List Row). cond (list_any (is_asked (asked_of old)) xs) 1 0 + asked_behind
      + due_of (asked_of old).span (table_of old).bitmaps (cond (list_any (λ row. is_up_to (asked_of old).top row.key) xs) (next ∷ looked_behind) looked_behind) (index_page old)) rows in
      omega (arith, least))

  not-none : (rows_noted (table_of old) next ≡ 0 → ⊥) → (rows_noted (table_of old) next == 0) ≡ false
  not-none some = false_from_ne_true (rows_noted (table_of old) next == 0) (λ b. some (eqb-true (rows_noted (table_of old) next) 0 b))

  -- where it has rows
  most-some : (rows_noted (table_of old) next ≡ 0 → ⊥) →
      most_from (table_of old) contents (asked_of old) (index_page old) (buffer_of old) old.place ≡ pages_by beyond_here missed_here last_here + min unread_here (looks_by beyond_here missed_here last_here)
  most-some some = most-here ∙ ap (λ b. cond beyond_here 0 (cond (b || missed_here) pages_behind (1 + cond last_here 0 pages_behind)) + min unread_here (cond b looks_behind (looks_by beyond_here missed_here last_here))) (not-none some)

  -- .. and lies beyond the last key
  most-beyond : (rows_noted (table_of old) next ≡ 0 → ⊥) → beyond_here ≡ true → most_from (table_of old) contents (asked_of old) (index_page old) (buffer_of old) old.place ≡ 0 + min unread_here 1
  most-beyond some beyond = most-some some ∙ ap (λ x. pages_by x missed_here last_here + min unread_here (looks_by x missed_here last_here)) beyond

  -- .. or doesn't
  most-by : (rows_noted (table_of old) next ≡ 0 → ⊥) → (b : Bool) → (beyond_here ≡ false) × (missed_here ≡ b) →
      most_from (table_of old) contents (asked_of old) (index_page old) (buffer_of old) old.place ≡ pages_by false b last_here + min unread_here (looks_by false b last_here)
  most-by some b known =
      most-some some
      ∙ (ap (λ x. pages_by x missed_here last_here + min unread_here (looks_by x missed_here last_here)) known.0 ∙ ap (λ x. pages_by false x last_here + min unread_here (looks_by false x last_here)) known.1)

  module _ (index : MutBor BufferState) (some : rows_noted (table_of old) next ≡ 0 → ⊥) where
    looks-at : (result : Result Ahead ReadFault) (mid : ℕ) → Looked old next contents reads result mid index → IsTold old contents → LooksOn (table_of old).bitmaps (asked_of old).span next (index_page old) reads result mid index.now
    looks-at result mid l told = l.looks told

    looking-then : (result : Result Ahead ReadFault) (mid : ℕ) → Looked old next contents reads result mid index → IsTold old contents → AreScanning (table_of old).bitmaps (next + 1) index.now
    looking-then result mid l told = looking-later (table_of old).bitmaps next (next + 1) index.now (omega arith) (l.looks told).scanning

    less-then : unread_of (asked_of old).span (table_of old).bitmaps (next + 1) index.now ≤ unread_of (asked_of old).span (table_of old).bitmaps next index.now
    less-then = unread-less (asked_of old).span (table_of old).bitmaps next (next + 1) index.now (omega arith)

    -- a page that its bitmap tells to have no row of the span is passed
    pub page-missed : (mid : ℕ) → Looked old next contents reads (Ok Missed) mid index → Goes false contents reads old mid (record old { index_buf = index; place = Pages (next + 1) })
    page-missed mid l =
        turns old old.rows_buf index (Pages (next + 1)) contents reads mid refl refl l.named l.room l.good kept-next l.later
        (λ told. passes-over (asked_of old) (rows_of (table_of old) contents) (rows_on (table_of old) contents next) behind (passes-here told) (l.misses told some refl).0)
        l.fresh (looking-then (Ok Missed) mid l)
        (λ told.
        let most = most-by some true (missed-at _ _ (l.shows told some)) in
        let once = (l.looks told).once in
        omega (arith, most, once, l.one, less-then))
        (λ told.
        let most = most-by some true (missed-at _ _ (l.shows told some)) in
        let fewer = (l.looks told).fewer in
        omega (arith, most, fewer, less-then))
        (λ told lt.
        let least = least-here ∙ ap (λ b. cond b 1 0 + asked_behind
        + due_of (asked_of old).span (table_of old).bitmaps (cond (list_any (λ row. is_up_to (asked_of old).top row.key) (rows_on (table_of old) contents next)) (next ∷ looked_behind) looked_behind) (index_page old)) (l.misses told some refl).1 in
        let few = due-here (list_any (λ row. is_up_to (asked_of old).top row.key) (rows_on (table_of old) contents next)) in
        let due = (l.looks told).least looked_behind looked-later lt in
        omega (arith, least, few, due))

    -- behind a page that its entry tells to begin above the last key no row is left
    pub page-beyond : (mid : ℕ) → Looked old next contents reads (Ok Beyond) mid index → Goes false contents reads old mid (record old { index_buf = index; place = Ended })
    page-beyond mid l =
        turns old old.rows_buf index Ended contents reads mid refl refl l.named l.room l.good tt l.later
        (λ told. passes-end (asked_of old) (rows_of (table_of old) contents) (rows_on (table_of old) contents next ++ behind) (passes-here told) (past told).none)
        l.fresh (λ told. tt)
        (λ told.
        let most = (l.looks told).most in
        let here = most-beyond some (beyond-at _ _ (l.shows told some)) in
        omega (arith, here, most, l.one))
        (λ told. omega arith)
        (λ told lt.
        let p = past told in
        let later = l.later lt in
        let due = ap (λ (numbers : List ℕ). due_of (asked_of old).span (table_of old).bitmaps numbers (index_page old)) p.looked ∙ due-nothing (asked_of old).span (table_of old).bitmaps (index_page old) in
        let asked = p.asked_none in
        let least = ap (least_from (table_of old) contents (asked_of old) (index_page old)) here_is in
        omega (arith, least, asked, due, later))
      where
        past : IsTold old contents → Past (table_of old) contents (asked_of old) next
        past told =
            past-beyond (table_of old) contents (asked_of old) next before (rows_of (table_of old) contents) told.ascends (passes-here told)
            (beyond-begins (table_of old) contents (asked_of old).span (asked_of old).top next (beyond-at _ _ (l.shows told some)))

    -- a read failed: the place is the same, and the buffers may hold other pages
    fails-on : (buf : MutBor BufferState) (result : Result Ahead ReadFault) (mid reads_now : ℕ) → Looked old next contents reads result mid index → buf.ghost_name ≡ old.rows_buf.ghost_name → length buf.now.bytes ≡ length old.rows_buf.now.bytes →
        (IsTold old contents → reads_now ≤ reads + most_from (table_of old) contents (asked_of old) (index_page old) (buffer_of old) old.place) → Fails contents reads old reads_now (record old { rows_buf = buf; index_buf = index })
    fails-on buf result mid reads_now l named room most = record {
      keeps = record { table = refl; rows_name = named; rows_room = room; index_name = l.named; index_room = l.room };
      notes = refl;
      ready = λ held h. record {
        flash = h.flash;
        same = h.same;
        lies = h.lies;
        rows_room = room ∙ h.rows_room;
        index_room = l.room ∙ h.index_room;
        placed = subst (IsPlaced (table_of old) buf.now.bytes) (sym here_is) (subst (IsPlaced (table_of old) (buffer_of old)) here_is h.placed);
        index_good = l.good h.index_good;
      };
      told = λ told. record {
        standing = told.standing;
        ascends = told.ascends;
        passes = passes-same (asked_of old) (rows_of (table_of old) contents) (rows_behind (table_of old) contents (buffer_of old) old.place) (rows_behind (table_of old) contents buf.now.bytes old.place)
            (ap (rows_behind (table_of old) contents (buffer_of old)) here_is ∙ sym (ap (rows_behind (table_of old) contents buf.now.bytes) here_is)) told.passes;
        fresh = l.fresh told;
        looking = subst (λ (p : Place). IsLooking (table_of old).bitmaps p index.now) (sym here_is) (l.looks told).scanning;
      };
      most = most;
      fewer = λ told.
          let before = ap (most_from (table_of old) contents (asked_of old) (index_page old) (buffer_of old)) here_is in
          let after = ap (most_from (table_of old) contents (asked_of old) index.now buf.now.bytes) here_is in
          let fewer = (l.looks told).fewer in
          omega (arith, before, after, fewer);
    }

    pub look-fails : (mid : ℕ) (fault : ReadFault) → Looked old next contents reads (Err fault) mid index → Fails contents reads old mid (record old { index_buf = index })
    look-fails mid fault l = fails-on old.rows_buf (Err fault) mid mid l refl refl (λ told. let le = (l.looks told).most in let here = most-some some in omega (arith, le, l.one, here))

    module _ (mid : ℕ) (l : Looked old next contents reads (Ok Wanted) mid index) (buf : MutBor BufferState) (reads_now : ℕ) (named : buf.ghost_name ≡ old.rows_buf.ghost_name) (room : length buf.now.bytes ≡ length old.rows_buf.now.bytes) (one : reads_now ≤ mid + 1) where
      -- the read of the page failed
      pub page-fails : Fails contents reads old reads_now (record old { rows_buf = buf; index_buf = index })
      page-fails = fails-on buf (Ok Wanted) mid reads_now l named room (λ told.
          let most = most-by some false (wanted-at _ _ (l.shows told some)) in
          let le = (l.looks told).most in
          omega (arith, most, le, l.one, one))

      module _ (least_one : reads_now < 2 ^ 64 - 1 → mid + 1 ≤ reads_now) (bytes : IsTold old contents → buf.now.bytes ≡ bytes_at (table_of old) contents next) where
        rows-here : IsTold old contents → rows_on (table_of old) contents next ≡ rows_in (layout_in (table_of old)) buf.now.bytes
        rows-here told = ap (λ b. cond b [] (rows_in (layout_in (table_of old)) (bytes_at (table_of old) contents next))) (not-none some) ∙ ap (rows_in (layout_in (table_of old))) (sym (bytes told))

        later-here : reads_now < 2 ^ 64 - 1 → reads ≤ reads_now
        later-here lt = let le = least_one lt in let first = l.later (omega (arith, le, lt)) in omega (arith, le, first)

        -- its rows come next
        pub page-entered : IsGoodPage (layout_in (table_of old)) next buf.now.bytes → Goes false contents reads old reads_now (record old { rows_buf = buf; index_buf = index; place = InPage next 0 })
        page-entered good =
            turns old buf index (InPage next 0) contents reads reads_now named room l.named l.room l.good (from, before, good, omega arith) later-here
            (λ told. passes-same (asked_of old) (rows_of (table_of old) contents) (rows_on (table_of old) contents next ++ behind) (rows_in (layout_in (table_of old)) buf.now.bytes ++ behind)
            (ap (λ (xs : List Row). xs ++ behind) (rows-here told)) (passes-here told))
            l.fresh (looking-then (Ok Wanted) mid l)
            (λ told.
            let most = most-by some false (wanted-at _ _ (l.shows told some)) ∙ ap (λ (xs : List Row). pages_by false false (has_last (asked_of old).top xs) + min unread_here (looks_by false false (has_last (asked_of old).top xs))) (rows-here told) in
            by_last (has_last (asked_of old).top (rows_in (layout_in (table_of old)) buf.now.bytes)) (l.looks told) most)
            (λ told.
            let most = most-by some false (wanted-at _ _ (l.shows told some)) ∙ ap (λ (xs : List Row). pages_by false false (has_last (asked_of old).top xs) + min unread_here (looks_by false false (has_last (asked_of old).top xs))) (rows-here told) in
            fewer_by_last (has_last (asked_of old).top (rows_in (layout_in (table_of old)) buf.now.bytes)) (l.looks told) most)
            (λ told lt.
            let le = least_one lt in
            let few = one_at_most (list_any (is_asked (asked_of old)) (rows_on (table_of old) contents next)) in
            let looked = due-here (list_any (λ row. is_up_to (asked_of old).top row.key) (rows_on (table_of old) contents next)) in
            let due = (l.looks told).least looked_behind looked-later (omega (arith, le, lt)) in
            omega (arith, least-here, le, few, looked, due))
          where
            by_last : (b : Bool) → LooksOn (table_of old).bitmaps (asked_of old).span next (index_page old) reads (Ok Wanted) mid index.now →
                most_from (table_of old) contents (asked_of old) (index_page old) (buffer_of old) old.place ≡ pages_by false false b + min unread_here (looks_by false false b) →
                reads_now + cond b 0 (pages_behind + min (unread_of (asked_of old).span (table_of old).bitmaps (next + 1) index.now) looks_behind) ≤ reads + most_from (table_of old) contents (asked_of old) (index_page old) (buffer_of old) old.place
            by_last true looks most = omega (arith, most, one, l.one, looks.most)
            by_last false looks most = omega (arith, most, one, l.one, looks.once, less-then)

            fewer_by_last : (b : Bool) → LooksOn (table_of old).bitmaps (asked_of old).span next (index_page old) reads (Ok Wanted) mid index.now →
                most_from (table_of old) contents (asked_of old) (index_page old) (buffer_of old) old.place ≡ pages_by false false b + min unread_here (looks_by false false b) →
                cond b 0 (pages_behind + min (unread_of (asked_of old).span (table_of old).bitmaps (next + 1) index.now) looks_behind) ≤ most_from (table_of old) contents (asked_of old) (index_page old) (buffer_of old) old.place
            fewer_by_last true looks most = omega arith
            fewer_by_last false looks most = omega (arith, most, looks.fewer, less-then)

        -- where the rows are told it isn't void
        pub page-void : (state_of_page buf.now.bytes ≡ Committed → ⊥) → Goes false contents reads old reads_now (record old { rows_buf = buf; index_buf = index; place = Pages (next + 1) })
        page-void other =
            turns old buf index (Pages (next + 1)) contents reads reads_now named room l.named l.room l.good kept-next later-here
            (λ told. absurd (committed told)) (λ told. absurd (committed told)) (λ told. absurd (committed told)) (λ told. absurd (committed told)) (λ told. absurd (committed told)) (λ told lt. absurd (committed told))
          where
            committed : IsTold old contents → ⊥
            committed told = other (ap state_of_page (bytes told) ∙ standing-committed (table_of old) contents told.standing next from before some)
