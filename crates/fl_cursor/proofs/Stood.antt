-- The rows of a table by memory and flash are the entries of the table of the model for which it stands.
use Rattle.std.proofs.Common.{◌≡◌, ℕ, zero, suc, ◌+◌, ◌-◌, ◌<◌, ◌≤◌, ◌⊎◌, Bool, true, false, cond, ◌==◌, Some, None, List, [], ◌∷◌, ◌++◌, length, map, take, drop, take-append-drop, filter, refl, sym, ◌∙◌, ap, subst, arith, inl, inr, IsTrue}
use Rattle.std.proofs.Math.Seq.{take-add}
use Rattle.std.proofs.lemmas.Bool.{cases_lt, eq-eqb, eqb-true, false_from_ne_true}
use Rattle.std.proofs.lemmas.List.{map-append, drop-drop, take_all}
use Rattle.std.proofs.lemmas.List.Sums.{sum_by-take-le}
use Rattle.std.specs.List.{slice_get, sum}
use Rattle.std.proofs.lemmas.Option.{same_Some}
use Rattle.fl_flash.specs.Flash.{page_at}
use Rattle.fl_flash.specs.Places.{page_of}
use Rattle.fl_mark.specs.Mark.{state_of_page}
use Rattle.fl_mark.specs.declared.page_state.PageState.{PageState}
use Rattle.fl_mark.specs.declared.page_state.PageState.TheVariants.{Blank, Torn, Committed, Void}
use Rattle.fl_find.specs.Pages as find
use Rattle.fl_find.specs.Pages.{rows_where}
use Rattle.fl_model.specs.Image.{rows_at}
use Rattle.fl_model.specs.Query as query
use Rattle.fl_model.specs.Record.{RowLayout, row_layout}
use Rattle.fl_model.specs.Ring as rings
use Rattle.fl_model.specs.Row.{Row, stored_row}
use Rattle.fl_model.specs.Table as model
use Rattle.fl_model.specs.Table.{Entry, pending_entries}
use Rattle.fl_model.proofs.Lists.{slice_get-some, slice_get-short, take_none, sum_by-next}
use Rattle.fl_frame.specs.Contents.{Contents}
use Rattle.fl_page.specs.Page.{IsGoodPage, rows_in}
use Rattle.fl_page.specs.Steps.{Ascends}
use Rattle.fl_page.proofs.DataPages.{entries-ascend}
use Rattle.fl_ring.specs.Ring.{place}
use Rattle.fl_table.specs.Look.{layout_in, oldest_in, rows_noted, buffered_rows, place_of}
use Rattle.fl_table.specs.Memory.{next_in}
use Rattle.fl_table.specs.declared.table.Table.{Table}
use Rattle.fl_table.proofs.PendingKey.{buffered-stored}
use Rattle.fl_parts.proofs.RowsFound.{rows-lose}
use Rattle.fl_table.proofs.KeptRead.{place-is, shown}
use Rattle.fl_table.proofs.MemoryTells.{next-is, oldest-is, noted-is}
use Rattle.fl_parts.proofs.States.{shape_in}
use Rattle.fl_cursor.specs.Asked.{is_left}
use Rattle.fl_cursor.specs.Cursor.{IsStanding}
use Rattle.fl_cursor.specs.Listed.{bytes_at, rows_on, rows_over, rows_of}

-- a page with some rows is committed
where-rows : (s : PageState) (layout : RowLayout) (page : List ℕ) (rows : List Row) → rows_where s layout page ≡ rows → 0 < length rows → rows_in layout page ≡ rows
where-rows Committed layout page rows e some = e
where-rows Blank layout page rows e some = absurd (omega (arith, ap (λ (xs : List Row). length xs) e, some))
where-rows Torn layout page rows e some = absurd (omega (arith, ap (λ (xs : List Row). length xs) e, some))
where-rows Void layout page rows e some = absurd (omega (arith, ap (λ (xs : List Row). length xs) e, some))

where-committed : (s : PageState) (layout : RowLayout) (page : List ℕ) → 0 < length (rows_where s layout page) → s ≡ Committed
where-committed Committed layout page some = refl
where-committed Blank layout page some = absurd (omega (arith, some))
where-committed Torn layout page some = absurd (omega (arith, some))
where-committed Void layout page some = absurd (omega (arith, some))

module _ {KNOTS SLOTS : ℕ} (t : Table KNOTS SLOTS) (contents : Contents) (h : IsStanding t contents) where
  abbrev table : model.Table
  table = h.table

  abbrev first_number : ℕ
  first_number = rings.oldest h.table.rows

  -- the bytes of a number
  bytes-are : (number : ℕ) → bytes_at t contents number ≡ page_at h.flash (place (shape_in h.first h.plan) number)
  bytes-are number =
      ap (λ (c : Contents). page_of c.bytes c.start c.geometry.page (place_of t number)) (sym h.same)
      ∙ ap (page_at h.flash) (place-is t h.flash h.first h.plan h.table number h.stands)

  noted : (i c : ℕ) → slice_get h.table.rows.counts i ≡ Some c → rows_noted t (first_number + i) ≡ c
  noted i c e =
      let low : first_number ≤ first_number + i = omega arith in
      let within : i < length h.table.rows.counts = slice_get-short h.table.rows.counts i c e in
      let high : first_number + i < h.table.rows.next = omega (arith, within, h.stands.facts.rows.not_negative) in
      let i_is : first_number + i - first_number ≡ i = omega arith in
      sym (same_Some _ _ (sym e ∙ (ap (slice_get h.table.rows.counts) (sym i_is) ∙ noted-is t h.flash h.first h.plan h.table h.stands (first_number + i) low high)))

  -- the rows on a page by its state
  abbrev there : ℕ → List ℕ
  there i = page_at h.flash (place (shape_in h.first h.plan) (first_number + i))

  stored : (i c : ℕ) → slice_get h.table.rows.counts i ≡ Some c → rows_where (state_of_page (there i)) (row_layout h.plan) (there i) ≡ map stored_row (rows_at h.table i c)
  stored i c e = (shown t h.flash h.first h.plan h.table h.stands h.lies h.reaches i c e).rows ∙ ap (map stored_row) (rows-lose h.table i c e h.stands.facts.counted)

  length-stored : (i c : ℕ) → slice_get h.table.rows.counts i ≡ Some c → length (map stored_row (rows_at h.table i c)) ≡ c
  length-stored i c e = sym (ap (λ (xs : List Row). length xs) (stored i c e)) ∙ (shown t h.flash h.first h.plan h.table h.stands h.lies h.reaches i c e).many

  -- a kept page has the rows of its entries
  pub kept-rows : (i c : ℕ) → slice_get h.table.rows.counts i ≡ Some c → rows_on t contents (first_number + i) ≡ map stored_row (rows_at h.table i c)
  kept-rows i c e = by_count (cases_lt 0 c)
    where
      by_count : (0 < c) ⊎ (c ≤ 0) → rows_on t contents (first_number + i) ≡ map stored_row (rows_at h.table i c)
      by_count (inl some) =
          let not_none : (rows_noted t (first_number + i) == 0) ≡ false =
          false_from_ne_true (rows_noted t (first_number + i) == 0) (λ b. let z = eqb-true (rows_noted t (first_number + i)) 0 b in omega (arith, z, noted i c e, some)) in
          let many : 0 < length (map stored_row (rows_at h.table i c)) = omega (arith, some, length-stored i c e) in
          ap (λ b. cond b [] (rows_in (layout_in t) (bytes_at t contents (first_number + i)))) not_none
          ∙ (ap (rows_in (layout_in t)) (bytes-are (first_number + i))
          ∙ (ap (λ (l : RowLayout). rows_in l (there i)) (sym h.stands.planned.layout)
          ∙ where-rows (state_of_page (there i)) (row_layout h.plan) (there i) (map stored_row (rows_at h.table i c)) (stored i c e) many))
      by_count (inr none) =
          let zero_is : c ≡ 0 = omega (arith, none) in
          let is_none : (rows_noted t (first_number + i) == 0) ≡ true = eq-eqb (rows_noted t (first_number + i)) 0 (noted i c e ∙ zero_is) in
          ap (λ b. cond b [] (rows_in (layout_in t) (bytes_at t contents (first_number + i)))) is_none
          ∙ sym (ap (λ n. map stored_row (take n (drop (sum (take i h.table.rows.counts)) h.table.entries))) zero_is
          ∙ ap (map stored_row) (take_none (drop (sum (take i h.table.rows.counts)) h.table.entries)))

  -- a page with rows is committed, and a committed page is good
  pub at-number : (number : ℕ) → oldest_in t ≤ number → number < next_in t → slice_get h.table.rows.counts (number - first_number) ≡ Some (rows_noted t number)
  at-number number from before =
      noted-is t h.flash h.first h.plan h.table h.stands number (omega (arith, from, oldest-is t h.flash h.first h.plan h.table h.stands)) (omega (arith, before, next-is t h.flash h.first h.plan h.table h.stands))

  pub back : (number : ℕ) → oldest_in t ≤ number → first_number + (number - first_number) ≡ number
  back number from = omega (arith, from, oldest-is t h.flash h.first h.plan h.table h.stands)

  bytes-there : (number : ℕ) → oldest_in t ≤ number → there (number - first_number) ≡ bytes_at t contents number
  bytes-there number from = ap (λ k. page_at h.flash (place (shape_in h.first h.plan) k)) (back number from) ∙ sym (bytes-are number)

  pub standing-committed : (number : ℕ) → oldest_in t ≤ number → number < next_in t → (rows_noted t number ≡ 0 → ⊥) → state_of_page (bytes_at t contents number) ≡ Committed
  standing-committed number from before some =
      let i = number - first_number in
      let e = at-number number from before in
      let s = shown t h.flash h.first h.plan h.table h.stands h.lies h.reaches i (rows_noted t number) e in
      let is : state_of_page (there i) ≡ Committed = where-committed (state_of_page (there i)) (row_layout h.plan) (there i) (omega (arith, s.many, some)) in
      sym (ap state_of_page (bytes-there number from)) ∙ is

  -- its rows are those that its state tells
  pub same-rows : (number : ℕ) → oldest_in t ≤ number → number < next_in t → find.rows_on (layout_in t) (page_at h.flash (place_of t number)) ≡ rows_on t contents number
  same-rows number from before =
      let i = number - first_number in
      let e = at-number number from before in
      let bytes : page_at h.flash (place_of t number) ≡ there (number - first_number) = sym (bytes-there number from ∙ ap (λ (c : Contents). page_of c.bytes c.start c.geometry.page (place_of t number)) (sym h.same)) in
      ap (find.rows_on (layout_in t)) bytes
      ∙ (ap (λ (l : RowLayout). find.rows_on l (there i)) (sym h.stands.planned.layout)
      ∙ (stored i (rows_noted t number) e
      ∙ (sym (kept-rows i (rows_noted t number) e) ∙ ap (rows_on t contents) (back number from))))

  pub standing-good : (number : ℕ) → oldest_in t ≤ number → number < next_in t → state_of_page (bytes_at t contents number) ≡ Committed → IsGoodPage (layout_in t) number (bytes_at t contents number)
  standing-good number from before committed =
      let i = number - first_number in
      let e = at-number number from before in
      let s = shown t h.flash h.first h.plan h.table h.stands h.lies h.reaches i (rows_noted t number) e in
      let good = s.good (ap state_of_page (bytes-there number from) ∙ committed) in
      subst (λ (l : RowLayout). IsGoodPage l number (bytes_at t contents number)) h.stands.planned.layout
      (subst (λ (page : List ℕ). IsGoodPage (row_layout h.plan) number page) (bytes-there number from) (subst (λ k. IsGoodPage (row_layout h.plan) k (there i)) (back number from) good))

  -- it has as many rows as memory notes
  pub standing-many : (number : ℕ) → oldest_in t ≤ number → number < next_in t → length (rows_on t contents number) ≡ rows_noted t number
  standing-many number from before =
      let i = number - first_number in
      let e = at-number number from before in
      sym (ap (λ k. length (rows_on t contents k)) (back number from))
      ∙ (ap (λ (xs : List Row). length xs) (kept-rows i (rows_noted t number) e) ∙ length-stored i (rows_noted t number) e)

  -- how many entries are written, and how many stand in the pages before the i-th
  abbrev many : ℕ
  many = length h.table.entries - h.table.pending

  abbrev before : ℕ → ℕ
  before i = sum (take i h.table.rows.counts)

  over-rows : (n i : ℕ) → i + n ≡ length h.table.rows.counts → rows_over t contents (first_number + i) n ≡ map stored_row (take (many - before i) (drop (before i) h.table.entries))
  over-rows zero i is =
      let all : before i ≡ sum h.table.rows.counts = ap sum (take_all i h.table.rows.counts (omega (arith, is))) in
      let none : 0 ≡ many - before i = omega (arith, all, h.stands.facts.counted) in
      ap (map stored_row) (sym (take_none (drop (before i) h.table.entries)) ∙ ap (λ n. take n (drop (before i) h.table.entries)) none)
  over-rows (suc n) i is =
      let at = slice_get-some h.table.rows.counts i (omega (arith, is)) in
      let c = at.0 in
      let next : before (suc i) ≡ before i + at.0 = sum_by-next (λ (m : ℕ). m) h.table.rows.counts i at.0 at.1 in
      let most = sum_by-take-le (λ (m : ℕ). m) h.table.rows.counts (suc i) in
      let split : many - before i ≡ at.0 + (many - before (suc i)) = omega (arith, next, most, h.stands.facts.counted) in
      let others = over-rows n (suc i) (omega (arith, is)) in
      let more : first_number + i + 1 ≡ first_number + suc i = omega arith in
      ap (λ (xs : List Row). xs ++ rows_over t contents (first_number + i + 1) n) (kept-rows i at.0 at.1)
      ∙ (ap (λ k. map stored_row (rows_at h.table i at.0) ++ rows_over t contents k n) more
      ∙ (ap (λ (xs : List Row). map stored_row (rows_at h.table i at.0) ++ xs) others
      ∙ (sym (map-append stored_row (rows_at h.table i at.0) (take (many - before (suc i)) (drop (before (suc i)) h.table.entries)))
      ∙ ap (map stored_row)
      (ap (λ k. take at.0 (drop (before i) h.table.entries) ++ take (many - before (suc i)) (drop k h.table.entries)) next
      ∙ (ap (λ (xs : List Entry). take at.0 (drop (before i) h.table.entries) ++ take (many - before (suc i)) xs) (sym (drop-drop at.0 (before i) h.table.entries))
      ∙ (sym (take-add at.0 (many - before (suc i)) (drop (before i) h.table.entries))
      ∙ ap (λ k. take k (drop (before i) h.table.entries)) (sym split)))))))

  pub standing-buffered : buffered_rows t ≡ map stored_row (pending_entries h.table)
  standing-buffered = buffered-stored t h.flash h.first h.plan h.table h.stands

  pub standing-rows : rows_of t contents ≡ map stored_row h.table.entries
  standing-rows =
      let oldest = oldest-is t h.flash h.first h.plan h.table h.stands in
      let next = next-is t h.flash h.first h.plan h.table h.stands in
      let count : next_in t - oldest_in t ≡ length h.table.rows.counts = omega (arith, oldest, next, h.stands.facts.rows.not_negative) in
      let start : oldest_in t ≡ first_number + 0 = omega (arith, oldest) in
      let none : before 0 ≡ 0 = ap sum (take_none h.table.rows.counts) in
      let whole : many - before 0 ≡ many = omega (arith, none) in
      ap (λ n. rows_over t contents n (next_in t - oldest_in t) ++ buffered_rows t) start
      ∙ (ap (λ n. rows_over t contents (first_number + 0) n ++ buffered_rows t) count
      ∙ (ap (λ (xs : List Row). xs ++ buffered_rows t) (over-rows (length h.table.rows.counts) 0 (omega arith))
      ∙ (ap (λ (xs : List Row). map stored_row (take (many - before 0) (drop (before 0) h.table.entries)) ++ xs) standing-buffered
      ∙ (sym (map-append stored_row (take (many - before 0) (drop (before 0) h.table.entries)) (pending_entries h.table))
      ∙ ap (map stored_row)
      (ap (λ n. take (many - before 0) (drop n h.table.entries) ++ pending_entries h.table) none
      ∙ (ap (λ n. take n h.table.entries ++ drop many h.table.entries) whole ∙ take-append-drop many h.table.entries))))))

pub standing-ascends : {KNOTS SLOTS : ℕ} (t : Table KNOTS SLOTS) (contents : Contents) (h : IsStanding t contents) → Ascends None (rows_of t contents)
standing-ascends t contents h =
    subst (Ascends None) (sym (standing-rows t contents h)) (entries-ascend None h.table.entries (λ b at. refl) h.stands.facts.ascending)

pub left-entries : (asked : query.Cursor) (entries : List Entry) → filter (is_left asked) (map stored_row entries) ≡ map stored_row (query.left_of asked entries)
left-entries asked [] = refl
left-entries asked (e ∷ entries) = by_test (is_left asked (stored_row e)) (left-entries asked entries)
  where
    by_test : (b : Bool) → filter (is_left asked) (map stored_row entries) ≡ map stored_row (query.left_of asked entries) →
        cond b (stored_row e ∷ filter (is_left asked) (map stored_row entries)) (filter (is_left asked) (map stored_row entries)) ≡ map stored_row (cond b (e ∷ query.left_of asked entries) (query.left_of asked entries))
    by_test true h = ap (λ (xs : List Row). stored_row e ∷ xs) h
    by_test false h = h

pub standing-tells : {KNOTS SLOTS : ℕ} (t : Table KNOTS SLOTS) (contents : Contents) → IsStanding t contents → IsTrue contents.tells
standing-tells t contents h = subst (λ (b : Bool). IsTrue b) (ap (λ (c : Contents). c.tells) h.same) h.tells
