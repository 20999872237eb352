-- A cursor that finds the page of the lowest key.
use Rattle.std.proofs.Common.{◌≡◌, ℕ, suc, ◌+◌, ◌-◌, ◌^◌, ◌<◌, ◌≤◌, Bool, true, false, cond, ◌==◌, Some, None, List, [], ◌∷◌, ◌++◌, length, drop, refl, sym, ◌∙◌, ap, subst, append_assoc, arith}
use Rattle.std.specs.Borrow.{MutBor}
use Rattle.std.specs.List.{slice_get, list_any}
use Rattle.std.proofs.lemmas.Bool.{leb-true, false_from_ne_true, false≢true}
use Rattle.std.proofs.lemmas.Option.{none-some}
use Rattle.fl_base.proofs.Tests.{one_at_most}
use Rattle.fl_find.specs.Pages.{first_key}
use Rattle.fl_flash.specs.Buffer.{BufferState}
use Rattle.fl_model.specs.Row.{Row}
use Rattle.fl_model.proofs.Lists.{each-weaker}
use Rattle.fl_frame.specs.Contents.{Contents}
use Rattle.fl_page.specs.Page.{IsGoodPage, rows_in}
use Rattle.fl_page.specs.Steps.{Ascends}
use Rattle.fl_page.proofs.RowsFrom.{drop-row}
use Rattle.fl_search.specs.Search.{IsPageOf}
use Rattle.fl_table.specs.Look.{layout_in, oldest_in, rows_noted, buffered_rows}
use Rattle.fl_table.specs.Memory.{next_in}
use Rattle.fl_parts.specs.Skipping.{AreScanning}
use Rattle.fl_cursor.specs.Asked.{is_asked, lowest_of}
use Rattle.fl_cursor.specs.Cursor.{table_of, asked_of, buffer_of, index_page, rows_behind, Passes, IsPlaced, IsTold, IsLooking}
use Rattle.fl_cursor.specs.Going.{Goes, Fails}
use Rattle.fl_cursor.specs.Listed.{bytes_at, rows_on, rows_over, rows_from, rows_of}
use Rattle.fl_cursor.specs.Reads.{begins_by, has_last, start_of, most_to_find, is_beyond, is_missed, is_skipped, looks_to_last, pages_to_last, pages_asked, index_most, index_least, raised, most_from, least_from}
use Rattle.fl_cursor.specs.declared.cursor.Cursor.{Cursor}
use Rattle.fl_cursor.specs.declared.place.Place.{Place}
use Rattle.fl_cursor.specs.declared.place.Place.TheVariants.{Start, Pages, InPage}
use Rattle.fl_cursor.proofs.LowestPage.{start-is, over-split, asked-split, raised-below, raised-fewer, lowest-from}
use Rattle.fl_cursor.proofs.Beyond.{beyond-begins, beyond-last}
use Rattle.fl_cursor.proofs.IndexLookups.{looking-later, looked-less, unread-less}
use Rattle.fl_cursor.proofs.PassedRows.{passes-same}
use Rattle.fl_cursor.proofs.StartPlaces.{starts-behind, ascends-front}
use Rattle.fl_cursor.proofs.NextPages.{turns}

-- the first row of rows that begin by a key
pub record Begins (key : ℕ) (rows : List Row) : Type 0 where
  pub row : Row
  pub first : slice_get rows 0 ≡ Some row
  pub up_to : row.key ≤ key

pub begins : (key : ℕ) (rows : List Row) → begins_by key rows ≡ true → Begins key rows
begins key [] e = absurd (false≢true e)
begins key (row ∷ rows) e = record { row = row; first = refl; up_to = leb-true row.key key e }

pub first-front : (xs ys : List Row) (row : Row) → slice_get xs 0 ≡ Some row → slice_get (xs ++ ys) 0 ≡ Some row
first-front [] ys row e = absurd (none-some row e)
first-front (x ∷ xs) ys row e = e

module _ {KNOTS SLOTS : ℕ} (old : Cursor KNOTS SLOTS) (here_is : old.place ≡ Start) (buf : MutBor BufferState) (contents : Contents) (reads reads_now : ℕ) (named : buf.ghost_name ≡ old.rows_buf.ghost_name) (room : length buf.now.bytes ≡ length old.rows_buf.now.bytes)
    (later : reads_now < 2 ^ 64 - 1 → reads ≤ reads_now) (few : IsTold old contents → reads_now ≤ reads + most_to_find (table_of old) (lowest_of (asked_of old))) where
  abbrev low : ℕ
  low = lowest_of (asked_of old)

  abbrev pages : ℕ
  pages = next_in old.table.now - oldest_in old.table.now

  passes-here : IsTold old contents → Passes (asked_of old) (rows_of (table_of old) contents) (rows_of (table_of old) contents)
  passes-here told = passes-same (asked_of old) (rows_of (table_of old) contents) (rows_behind (table_of old) contents (buffer_of old) old.place) (rows_of (table_of old) contents) (ap (rows_behind (table_of old) contents (buffer_of old)) here_is) told.passes

  -- the reads behind the search, where it ends at this page
  abbrev behind_most : ℕ → ℕ
  behind_most n = pages_to_last old.table.now contents old.mark.span old.mark.top n (next_in old.table.now - n) + index_most old.table.now contents (asked_of old) (index_page old) n

  most-here : most_from (table_of old) contents (asked_of old) (index_page old) (buffer_of old) old.place ≡ most_to_find (table_of old) low + behind_most (start_of (table_of old) contents low)
  most-here = ap (most_from (table_of old) contents (asked_of old) (index_page old) (buffer_of old)) here_is

  least-here : least_from (table_of old) contents (asked_of old) (index_page old) old.place
      ≡ pages_asked (table_of old) contents (raised (asked_of old)) (oldest_in (table_of old)) pages + index_least (table_of old) contents (asked_of old) (index_page old) (start_of (table_of old) contents low + 1)
  least-here = ap (least_from (table_of old) contents (asked_of old) (index_page old)) here_is

  looking-at : (number : ℕ) → IsTold old contents → AreScanning (table_of old).bitmaps number (index_page old)
  looking-at number told = looking-later (table_of old).bitmaps 0 number (index_page old) (omega arith) (subst (λ (p : Place). IsLooking (table_of old).bitmaps p (index_page old)) here_is told.looking)

  -- the search failed
  pub start-fails : Fails contents reads old reads_now (record old { rows_buf = buf })
  start-fails = record {
    keeps = record { table = refl; rows_name = named; rows_room = room; index_name = refl; index_room = refl };
    notes = refl;
    ready = λ held h. record {
      flash = h.flash;
      same = h.same;
      lies = h.lies;
      rows_room = room ∙ h.rows_room;
      index_room = h.index_room;
      placed = subst (IsPlaced (table_of old) buf.now.bytes) (sym here_is) (subst (IsPlaced (table_of old) (buffer_of old)) here_is h.placed);
      index_good = h.index_good;
    };
    told = λ told. record {
      standing = told.standing;
      ascends = told.ascends;
      passes = passes-same (asked_of old) (rows_of (table_of old) contents) (rows_of (table_of old) contents) (rows_behind (table_of old) contents buf.now.bytes old.place)
          (sym (ap (rows_behind (table_of old) contents buf.now.bytes) here_is)) (passes-here told);
      fresh = told.fresh;
      looking = told.looking;
    };
    most = λ told. let le = few told in omega (arith, le, most-here);
    fewer = λ told. let after = ap (most_from (table_of old) contents (asked_of old) (index_page old) buf.now.bytes) here_is in omega (arith, after, most-here);
  }

  -- no page begins by the key, so that the oldest one comes next
  pub start-none : (first : ℕ) → first ≡ oldest_in (table_of old) → oldest_in (table_of old) ≤ next_in (table_of old) →
      (IsTold old contents → IsPageOf (λ n. first_key (rows_on (table_of old) contents n)) (oldest_in (table_of old)) (next_in (table_of old)) low None) →
      Goes false contents reads old reads_now (record old { rows_buf = buf; place = Pages first })
  start-none first is_oldest ordered is =
      subst (λ n. Goes false contents reads old reads_now (record old { rows_buf = buf; place = Pages n })) (sym is_oldest)
      (turns old buf old.index_buf (Pages (oldest_in (table_of old))) contents reads reads_now named room refl refl (λ good. good) (omega arith, ordered) later
      passes-here
      (λ told. told.fresh) (looking-at (oldest_in (table_of old)))
      (λ told.
      let le = few told in
      let same = ap behind_most (start-is (table_of old) contents low None (is told)) in
      omega (arith, le, most-here, same))
      (λ told. let same = ap behind_most (start-is (table_of old) contents low None (is told)) in omega (arith, most-here, same))
      (λ told lt.
      let le = later lt in
      let fewer = raised-fewer (table_of old) contents (asked_of old) pages (oldest_in (table_of old)) (lowest-from (asked_of old)) in
      let start = ap (λ n. index_least (table_of old) contents (asked_of old) (index_page old) (n + 1)) (start-is (table_of old) contents low None (is told)) in
      let looked = looked-less (table_of old) contents (asked_of old) (index_page old) (oldest_in (table_of old)) in
      omega (arith, le, least-here, fewer, start, looked)))

  module _ (number : ℕ) (from : oldest_in (table_of old) ≤ number) (before : number < next_in (table_of old)) (good : IsGoodPage (layout_in (table_of old)) number buf.now.bytes)
      (some : IsTold old contents → reads_now < 2 ^ 64 - 1 → reads + 1 ≤ reads_now) (bytes : IsTold old contents → buf.now.bytes ≡ bytes_at (table_of old) contents number)
      (is : IsTold old contents → IsPageOf (λ n. first_key (rows_on (table_of old) contents n)) (oldest_in (table_of old)) (next_in (table_of old)) low (Some number)) where
    abbrev front : List Row
    front = rows_over old.table.now contents (oldest_in old.table.now) (number - oldest_in old.table.now)

    abbrev behind : List Row
    behind = rows_from old.table.now contents (number + 1)

    parts : pages ≡ (number - oldest_in (table_of old)) + suc (next_in (table_of old) - (number + 1))
    parts = omega (arith, from, before)

    at : oldest_in (table_of old) + (number - oldest_in (table_of old)) ≡ number
    at = omega (arith, from)

    rows-split : rows_of (table_of old) contents ≡ front ++ (rows_on (table_of old) contents number ++ behind)
    rows-split =
        ap (λ k. rows_over (table_of old) contents (oldest_in (table_of old)) k ++ buffered_rows (table_of old)) parts
        ∙ (ap (λ (xs : List Row). xs ++ buffered_rows (table_of old)) (over-split (table_of old) contents (number - oldest_in (table_of old)) (suc (next_in (table_of old) - (number + 1))) (oldest_in (table_of old)))
        ∙ (ap (λ k. (front ++ rows_over (table_of old) contents k (suc (next_in (table_of old) - (number + 1)))) ++ buffered_rows (table_of old)) at
        ∙ (append_assoc front (rows_over (table_of old) contents number (suc (next_in (table_of old) - (number + 1)))) (buffered_rows (table_of old))
        ∙ ap (λ (xs : List Row). front ++ xs) (append_assoc (rows_on (table_of old) contents number) (rows_over (table_of old) contents (number + 1) (next_in (table_of old) - (number + 1))) (buffered_rows (table_of old))))))

    first : IsTold old contents → Begins low (rows_on (table_of old) contents number)
    first told = begins low (rows_on (table_of old) contents number) (is told).here

    noted : IsTold old contents → (rows_noted (table_of old) number == 0) ≡ false
    noted told = false_from_ne_true (rows_noted (table_of old) number == 0) (λ b.
        none-some _ (sym (ap (λ (xs : List Row). slice_get xs 0) (ap (λ b. cond b [] (rows_in (layout_in (table_of old)) (bytes_at (table_of old) contents number))) b)) ∙ (first told).first))

    rows-here : IsTold old contents → rows_on (table_of old) contents number ≡ rows_in (layout_in (table_of old)) buf.now.bytes
    rows-here told = ap (λ b. cond b [] (rows_in (layout_in (table_of old)) (bytes_at (table_of old) contents number))) (noted told) ∙ ap (rows_in (layout_in (table_of old))) (sym (bytes told))

    pub start-some : Goes false contents reads old reads_now (record old { rows_buf = buf; place = InPage number 0 })
    start-some =
        turns old buf old.index_buf (InPage number 0) contents reads reads_now named room refl refl (λ held. held) (from, before, good, omega arith) later
        (λ told.
        let b = first told in
        subst (λ (all : List Row). Passes (asked_of old) all (rows_in (layout_in (table_of old)) buf.now.bytes ++ behind)) (sym rows-split)
        (passes-same (asked_of old) (front ++ (rows_on (table_of old) contents number ++ behind)) (rows_on (table_of old) contents number ++ behind) (rows_in (layout_in (table_of old)) buf.now.bytes ++ behind)
        (ap (λ (xs : List Row). xs ++ behind) (rows-here told))
        (starts-behind (asked_of old) front (rows_on (table_of old) contents number ++ behind) b.row (first-front (rows_on (table_of old) contents number) behind b.row b.first) b.up_to (subst (Ascends None) rows-split told.ascends))))
        (λ told. told.fresh) (looking-at (number + 1))
        (λ told.
        let le = few told in
        let enters = enters-here told in
        omega (arith, le, enters))
        (λ told. let enters = enters-here told in omega (arith, enters))
        (λ told lt.
        let b = first told in
        let one = some told lt in
        let is_first : rows_on (table_of old) contents number ++ behind ≡ b.row ∷ drop 1 (rows_on (table_of old) contents number ++ behind) =
        drop-row (rows_on (table_of old) contents number ++ behind) 0 b.row (first-front (rows_on (table_of old) contents number) behind b.row b.first) in
        let lesser = ascends-front None front b.row (drop 1 (rows_on (table_of old) contents number ++ behind)) (subst (λ (xs : List Row). Ascends None (front ++ xs)) is_first (subst (Ascends None) rows-split told.ascends)) in
        let none = raised-below (table_of old) contents (asked_of old) (number - oldest_in (table_of old)) (oldest_in (table_of old)) (each-weaker (λ x. x.key < b.row.key) (λ x. x.key < low) (λ x lt. omega (arith, lt, b.up_to)) front lesser) in
        let split = ap (pages_asked (table_of old) contents (raised (asked_of old)) (oldest_in (table_of old))) parts
        ∙ (asked-split (table_of old) contents (raised (asked_of old)) (number - oldest_in (table_of old)) (suc (next_in (table_of old) - (number + 1))) (oldest_in (table_of old))
        ∙ ap (λ k. pages_asked (table_of old) contents (raised (asked_of old)) (oldest_in (table_of old)) (number - oldest_in (table_of old)) + pages_asked (table_of old) contents (raised (asked_of old)) k (suc (next_in (table_of old) - (number + 1)))) at) in
        let few_here = one_at_most (list_any (is_asked (raised (asked_of old))) (rows_on (table_of old) contents number)) in
        let fewer = raised-fewer (table_of old) contents (asked_of old) (next_in (table_of old) - (number + 1)) (number + 1) (lowest-from (asked_of old)) in
        let start = ap (λ n. index_least (table_of old) contents (asked_of old) (index_page old) (n + 1)) (start-is (table_of old) contents low (Some number) (is told)) in
        omega (arith, one, least-here, split, none, few_here, fewer, start))
      where
        no : {P : Type 0} → false ≡ true → P
        no e = absurd (cc e)

        enter-most : (beyond skipped last : Bool) (rest most most_behind : ℕ) → (beyond ≡ true → last ≡ true) → (last ≡ false → most_behind ≤ most) → cond last 0 (rest + most_behind) ≤ cond beyond 0 (cond skipped rest (1 + cond last 0 rest)) + most
        enter-most beyond skipped true rest most most_behind is le = omega arith
        enter-most true skipped false rest most most_behind is le = no (is refl)
        enter-most false true false rest most most_behind is le = let k = le refl in omega (arith, k)
        enter-most false false false rest most most_behind is le = let k = le refl in omega (arith, k)

        -- no fewer pages are looked at from this one on
        more-looks : (void beyond missed last : Bool) (looks : ℕ) → (beyond ≡ true → last ≡ true) → last ≡ false → looks ≤ cond void looks (1 + cond beyond 0 (cond missed looks (cond last 0 looks)))
        more-looks true beyond missed last looks is other = omega arith
        more-looks false true missed last looks is other = no (sym other ∙ is refl)
        more-looks false false true last looks is other = omega arith
        more-looks false false false true looks is other = no (sym other)
        more-looks false false false false looks is other = omega arith

        enters-here : IsTold old contents →
            most_to_find (table_of old) low + most_from (table_of old) contents (asked_of old) (index_page old) buf.now.bytes (InPage number 0) ≤ most_from (table_of old) contents (asked_of old) (index_page old) (buffer_of old) old.place
        enters-here told =
            let rest = pages_to_last (table_of old) contents (asked_of old).span (asked_of old).top (number + 1) (next_in (table_of old) - (number + 1)) in
            let same : behind_most (start_of (table_of old) contents low)
            ≡ cond (is_beyond (table_of old) contents (asked_of old).span (asked_of old).top number) 0 (cond (is_skipped (table_of old) contents (asked_of old).span number) (pages_to_last (table_of old) contents (asked_of old).span (asked_of old).top (number + 1) (next_in (table_of old) - (number + 1)))
            (1 + cond (has_last (asked_of old).top (rows_in (layout_in (table_of old)) buf.now.bytes)) 0 (pages_to_last (table_of old) contents (asked_of old).span (asked_of old).top (number + 1) (next_in (table_of old) - (number + 1)))))
            + index_most (table_of old) contents (asked_of old) (index_page old) number =
            ap behind_most (start-is (table_of old) contents low (Some number) (is told))
            ∙ (ap (λ n. pages_to_last (table_of old) contents (asked_of old).span (asked_of old).top number n + index_most (table_of old) contents (asked_of old) (index_page old) number)
            (let one : next_in (table_of old) - number ≡ suc (next_in (table_of old) - (number + 1)) = omega (arith, before) in one)
            ∙ ap (λ (xs : List Row). cond (is_beyond (table_of old) contents (asked_of old).span (asked_of old).top number) 0 (cond (is_skipped (table_of old) contents (asked_of old).span number) (pages_to_last (table_of old) contents (asked_of old).span (asked_of old).top (number + 1) (next_in (table_of old) - (number + 1)))
            (1 + cond (has_last (asked_of old).top xs) 0 (pages_to_last (table_of old) contents (asked_of old).span (asked_of old).top (number + 1) (next_in (table_of old) - (number + 1)))))
            + index_most (table_of old) contents (asked_of old) (index_page old) number) (rows-here told)) in
            let less = unread-less (asked_of old).span (table_of old).bitmaps number (number + 1) (index_page old) (omega arith) in
            let later = looks_to_last (table_of old) contents (asked_of old).span (asked_of old).top (number + 1) (next_in (table_of old) - (number + 1)) in
            let looks : looks_to_last (table_of old) contents (asked_of old).span (asked_of old).top number (next_in (table_of old) - number)
            ≡ cond (rows_noted (table_of old) number == 0) later
            (1 + cond (is_beyond (table_of old) contents (asked_of old).span (asked_of old).top number) 0 (cond (is_missed (table_of old) (asked_of old).span number (rows_on (table_of old) contents number)) later
            (cond (has_last (asked_of old).top (rows_in (layout_in (table_of old)) buf.now.bytes)) 0 later))) =
            ap (looks_to_last (table_of old) contents (asked_of old).span (asked_of old).top number) (let one : next_in (table_of old) - number ≡ suc (next_in (table_of old) - (number + 1)) = omega (arith, before) in one)
            ∙ ap (λ (xs : List Row). cond (rows_noted (table_of old) number == 0) later
            (1 + cond (is_beyond (table_of old) contents (asked_of old).span (asked_of old).top number) 0 (cond (is_missed (table_of old) (asked_of old).span number (rows_on (table_of old) contents number)) later (cond (has_last (asked_of old).top xs) 0 later)))) (rows-here told) in
            let last : is_beyond (table_of old) contents (asked_of old).span (asked_of old).top number ≡ true → has_last (asked_of old).top (rows_in (layout_in (table_of old)) buf.now.bytes) ≡ true = λ e.
            sym (ap (has_last (asked_of old).top) (rows-here told)) ∙ beyond-last (asked_of old).top (rows_on (table_of old) contents number) (beyond-begins (table_of old) contents (asked_of old).span (asked_of old).top number e) in
            let enters = enter-most (is_beyond (table_of old) contents (asked_of old).span (asked_of old).top number) (is_skipped (table_of old) contents (asked_of old).span number) (has_last (asked_of old).top (rows_in (layout_in (table_of old)) buf.now.bytes)) rest
            (index_most (table_of old) contents (asked_of old) (index_page old) number) (index_most (table_of old) contents (asked_of old) (index_page old) (number + 1)) last
            (λ other. let more = more-looks (rows_noted (table_of old) number == 0) (is_beyond (table_of old) contents (asked_of old).span (asked_of old).top number) (is_missed (table_of old) (asked_of old).span number (rows_on (table_of old) contents number))
            (has_last (asked_of old).top (rows_in (layout_in (table_of old)) buf.now.bytes)) later last other in omega (arith, less, looks, more)) in
            omega (arith, most-here, same, enters)
