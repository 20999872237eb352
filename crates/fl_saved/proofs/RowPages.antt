-- The data pages of a table that an image stands for: which are found to have rows, with which numbers, and which rows.
use Rattle.std.proofs.Common.{◌≡◌, ◌⊎◌, inl, inr, ℕ, zero, suc, ◌+◌, ◌-◌, ◌*◌, ◌/◌, ◌%◌, ◌^◌, ◌<◌, ◌≤◌, Bool, true, false, cond, ◌&&◌, ◌==◌, nat_lt, Option, Some, None, IfSome, List, [], ◌∷◌, ◌++◌, length, map, take, drop, refl, sym, ◌∙◌, ap, subst, arith, append-nil, length-drop}
use Rattle.std.specs.Prelude.{nat_le}
use Rattle.std.specs.List.{slice_get, sum}
use Rattle.std.specs.List.Sorted.{IsPermutation}
use Rattle.std.proofs.Math.Nat.{le-div_iff_mul-le, mul-le-mul_left, mul-le-mul_right}
use Rattle.std.proofs.lemmas.Bool.{eq-eqb, le-leb, lt-ltb, le-ltb, false≢true}
use Rattle.std.proofs.lemmas.List.{length-map, length-take-le}
use Rattle.std.proofs.lemmas.List.Sums.{sum_by-take-le}
use Rattle.std.proofs.lemmas.Nat.{mod_below}
use Rattle.fl_mark.specs.Mark.{state_of_page}
use Rattle.fl_mark.specs.declared.page_state.PageState.{PageState}
use Rattle.fl_mark.specs.declared.page_state.PageState.TheVariants.{Blank, Torn, Committed, Void}
use Rattle.fl_model.specs.Agrees.{reach_of, rows_at}
use Rattle.fl_model.specs.Facts.{FitsPlan, BlobFits, is_some_ring}
use Rattle.fl_model.specs.Image.{HoldsRows, bytes_at}
use Rattle.fl_model.specs.Layout.{committed, data_body}
use Rattle.fl_model.specs.Record.{Plan, RowLayout, Config, has_var, row_layout, row_len, rows_per_page, layout_len}
use Rattle.fl_model.specs.Ring.{Ring, oldest}
use Rattle.fl_model.specs.Row.{stored_row}
use Rattle.fl_model.specs.Table.{Table, Entry, DataRing, VarRing, shape_of, written}
use Rattle.fl_model.proofs.Lists.{slice_get-short, slice_get-drop, slice_get-front, slice_get-take, each-drop, each-take, each-at, sum_by-next}
use Rattle.fl_model.proofs.BlobEnds.{AreNumbered}
use Rattle.fl_model.proofs.StoredRows.{all-stored}
use Rattle.fl_page.specs.Header.{page_number, page_count}
use Rattle.fl_page.specs.Page.{IsGoodPage, rows_in}
use Rattle.fl_page.proofs.DataPages.{IsDataPage, data_page}
use Rattle.fl_page.proofs.WriterSteps.{layout_some}
use Rattle.fl_ring.proofs.Found.{committed_state}
use Rattle.fl_ring.proofs.Images.{committed_is}
use Rattle.fl_salvage.specs.Pages.{found_at, has_rows, if_committed, numbered, numbers_at, page_of, with_number, with_passed}
use Rattle.fl_salvage.specs.declared.passed_over.PassedOver.{PassedOver}
use Rattle.fl_salvage.specs.Text.{Form, rows_of}
use Rattle.fl_salvage.specs.Ends.{form_at}
use Rattle.fl_saved.proofs.Gathered.{gather, gather-next, gather-turned, number-of-place, number_if, if_some}
use Rattle.fl_saved.proofs.Places.{IsKept, IsOther, count_of, kept-count, placed, uncommitted, no-number}
use Rattle.fl_saved.proofs.States.{state_in, state-is}
use Rattle.fl_saved.proofs.RingsOfImage.{IsHere, facts, idle, rows-at, rows-size}

-- a committed page
pub state-committed : (body page : List ℕ) → page ≡ committed body → state_of_page page ≡ Committed
state-committed body page is = ap state_of_page (is ∙ committed_is body) ∙ committed_state body

-- ---- the numbers that are gathered

-- they are those that the places add
pub numbers-gathered : (layout : RowLayout) (ring : _) (bytes : List ℕ) (f : ℕ → List ℕ) (n : ℕ)
    → ((place : ℕ) → place < n → (numbers : List ℕ) → with_number (found_at layout ring bytes place) (page_number (page_of ring bytes place)) numbers ≡ numbers ++ f place)
    → numbers_at layout ring bytes n ≡ gather f 0 n
numbers-gathered layout ring bytes f zero h = refl
numbers-gathered layout ring bytes f (suc n) h =
    h n (omega arith) (numbers_at layout ring bytes n)
    ∙ ap (λ l. l ++ f n) (numbers-gathered layout ring bytes f n (λ place lt. h place (omega (arith, lt))))
    ∙ sym (gather-next f n)

-- ---- what a page is found to be

-- one more page that is passed over, by its state
abbrev pub passed_by : PageState → PassedOver → PassedOver
passed_by Blank passed = passed
passed_by Committed passed = passed
passed_by Torn passed = record passed { torn = passed.torn + 1 }
passed_by Void passed = record passed { void = passed.void + 1 }

other-passed : (s : PageState) (found : _) (passed : PassedOver) → (s ≡ Committed → ⊥) → with_passed (if_committed s found) passed ≡ passed_by s passed
other-passed Blank found passed other = refl
other-passed Torn found passed other = refl
other-passed Void found passed other = refl
other-passed Committed found passed other = absurd (other refl)

module _ (layout : RowLayout) (ring : _) (bytes : List ℕ) (number : ℕ) (size : length (numbered ring bytes number) ≡ ring.size) where
  there : nat_lt (length (numbered ring bytes number)) ring.size ≡ false
  there = le-ltb (length (numbered ring bytes number)) ring.size (omega (arith, size))

  -- a page with rows
  module _ (good : IsGoodPage layout number (numbered ring bytes number)) where
    good-rows : has_rows layout number (numbered ring bytes number) ≡ true
    good-rows =
        ap (λ (b : Bool). b && nat_lt 0 (page_count (numbered ring bytes number)) && nat_le (page_count (numbered ring bytes number)) ((length (numbered ring bytes number) - 24) / layout_len layout))
        (eq-eqb (page_number (numbered ring bytes number)) number good.number_is)
        ∙ ap (λ (b : Bool). b && nat_le (page_count (numbered ring bytes number)) ((length (numbered ring bytes number) - 24) / layout_len layout)) (lt-ltb 0 (page_count (numbered ring bytes number)) (let k = good.some in omega (arith, k)))
        ∙ le-leb (page_count (numbered ring bytes number)) ((length (numbered ring bytes number) - 24) / layout_len layout) good.room

    pub rows-read : rows_of layout ring number (numbered ring bytes number) ≡ rows_in layout (numbered ring bytes number)
    rows-read =
        ap (λ (b : Bool). cond b [] (cond (has_rows layout number (numbered ring bytes number)) (rows_in layout (numbered ring bytes number)) [])) there
        ∙ ap (λ (b : Bool). cond b (rows_in layout (numbered ring bytes number)) []) good-rows

    pub number-rows : state_of_page (numbered ring bytes number) ≡ Committed → (numbers : List ℕ)
        → with_number (found_at layout ring bytes (number % ring.pages)) (page_number (numbered ring bytes number)) numbers ≡ numbers ++ number ∷ []
    number-rows state numbers =
        let is = good.number_is in
        let placed_right : (page_number (numbered ring bytes number) % ring.pages == number % ring.pages) ≡ true = eq-eqb (page_number (numbered ring bytes number) % ring.pages) (number % ring.pages) (ap (λ n. n % ring.pages) is) in
        let own : has_rows layout (page_number (numbered ring bytes number)) (numbered ring bytes number) ≡ true = ap (λ n. has_rows layout n (numbered ring bytes number)) is ∙ good-rows in
        let found : with_number (found_at layout ring bytes (number % ring.pages)) (page_number (numbered ring bytes number)) numbers ≡ numbers ++ page_number (numbered ring bytes number) ∷ [] = rw (there, state, placed_right, own) refl in
        found ∙ ap (λ n. numbers ++ n ∷ []) is

    pub passed-good : state_of_page (numbered ring bytes number) ≡ Committed → (passed : PassedOver) → with_passed (found_at layout ring bytes (number % ring.pages)) passed ≡ passed
    passed-good state passed =
        let is = good.number_is in
        let placed_right : (page_number (numbered ring bytes number) % ring.pages == number % ring.pages) ≡ true = eq-eqb (page_number (numbered ring bytes number) % ring.pages) (number % ring.pages) (ap (λ n. n % ring.pages) is) in
        let own : has_rows layout (page_number (numbered ring bytes number)) (numbered ring bytes number) ≡ true = ap (λ n. has_rows layout n (numbered ring bytes number)) is ∙ good-rows in
        rw (there, state, placed_right, own) refl

  -- any page that isn't committed
  pub passed-uncommitted : (s : PageState) → state_of_page (numbered ring bytes number) ≡ s → (s ≡ Committed → ⊥) → (passed : PassedOver)
      → with_passed (found_at layout ring bytes (number % ring.pages)) passed ≡ passed_by s passed
  passed-uncommitted s state other passed = rw (there, state) (other-passed s _ passed other)

  pub number-none : (state_of_page (numbered ring bytes number) ≡ Committed → ⊥) → (numbers : List ℕ)
      → with_number (found_at layout ring bytes (number % ring.pages)) (page_number (numbered ring bytes number)) numbers ≡ numbers
  number-none other numbers = rw there (no-number (state_of_page (numbered ring bytes number)) _ (page_number (numbered ring bytes number)) numbers other)

-- ---- the pages of a table

module _ (config : Config) (bytes : List ℕ) (place : ℕ) (plan : Plan) (table : Table) (is : IsHere config bytes place plan table) (clean : table.rows.dirty ≡ false) where
  abbrev form : Form
  form = form_at config.plans place plan

  abbrev at : ℕ → List ℕ
  at number = numbered (form_at config.plans place plan).rows bytes number

  abbrev pages : ℕ
  pages = plan.data_blocks * plan.geometry.block

  pub some-pages : 0 < plan.data_blocks * plan.geometry.block
  some-pages = let k : 1 * plan.geometry.block ≤ plan.data_blocks * plan.geometry.block = mul-le-mul_right plan.geometry.block (let m = is.made in omega (arith, m.rows)) in let m = is.made in omega (arith, k, m.block_some)

  size : (number : ℕ) → length (numbered (form_at config.plans place plan).rows bytes number) ≡ plan.geometry.page
  size number = rows-size config bytes place plan table is (number % (plan.data_blocks * plan.geometry.block)) (mod_below number (plan.data_blocks * plan.geometry.block) some-pages)

  -- each page, by its number
  here : (number : ℕ) → oldest table.rows ≤ number → number < oldest table.rows + plan.data_blocks * plan.geometry.block
      → IsKept table.rows (HoldsRows plan table) number (at number) ⊎ IsOther table.rows number (at number)
  here number low high =
      subst (λ page. IsKept table.rows (HoldsRows plan table) number page ⊎ IsOther table.rows number page) (rows-at config bytes place plan table is number)
      (placed (shape_of plan DataRing) table.rows _ (HoldsRows plan table) (let f = facts config bytes place plan table is in f.rows) clean is.image.rows number low high)

  -- ---- the rows of a kept page

  pub counted : sum table.rows.counts ≡ length table.entries
  counted = let f = facts config bytes place plan table is in omega (arith, f.counted, idle config bytes place plan table is)

  all-numbered : AreNumbered table.entries
  all-numbered i entry blob e has some = let f = facts config bytes place plan table is in by_ring table.var f.has_rings.1 (f.numbers VarRing) (f.blobs i entry blob there has some)
    where
      there : slice_get (written table) i ≡ Some entry
      there = slice_get-take (length table.entries - table.pending) table.entries i (omega (arith, slice_get-short table.entries i entry e, idle config bytes place plan table is)) ∙ e

      fits : BlobFits plan entry (Some blob)
      fits = let f = facts config bytes place plan table is in subst (BlobFits plan entry) has (each-at (FitsPlan plan) table.entries i entry f.fit e).blob

      none : false ≡ has_var plan → ⊥
      none k = false≢true (k ∙ fits.0)

      by_ring : (o : Option Ring) → is_some_ring o ≡ has_var plan → IfSome o (λ ring. ring.next + (cond ring.torn 1 0) ≤ 4294967292)
          → IfSome o (λ ring. (entry.page < oldest ring) ⊎ ((oldest ring ≤ entry.page) × (slice_get ring.counts (entry.page - oldest ring) ≡ Some 1) × (entry.page + reach_of plan entry blob < ring.next))) → entry.page + 1 < 2 ^ 32
      by_ring None h small at_ring = absurd (none h)
      by_ring (Some r) h small (inl before) = omega (arith, before, small)
      by_ring (Some r) h small (inr within) = omega (arith, within.2, small)

  module _ (i count : ℕ) (e : slice_get table.rows.counts i ≡ Some count) (some : 0 < count) where
    within : sum (take i table.rows.counts) + count ≤ length table.entries
    within =
        let next : sum (take (suc i) table.rows.counts) ≡ sum (take i table.rows.counts) + count = sum_by-next (λ (n : ℕ). n) table.rows.counts i count e in
        omega (arith, next, sum_by-take-le (λ (n : ℕ). n) table.rows.counts (suc i), counted)

    many : length (map stored_row (rows_at table i count)) ≡ count
    many =
        length-map (rows_at table i count) stored_row
        ∙ length-take-le count (drop (sum (take i table.rows.counts)) table.entries) (omega (arith, length-drop (sum (take i table.rows.counts)) table.entries, within))

    -- each of them is one of the table's
    pub among : (j : ℕ) (entry : Entry) → slice_get (rows_at table i count) j ≡ Some entry → slice_get table.entries (sum (take i table.rows.counts) + j) ≡ Some entry
    among j entry h = sym (slice_get-drop (sum (take i table.rows.counts)) table.entries j) ∙ slice_get-front count (drop (sum (take i table.rows.counts)) table.entries) j entry h

    pub data-page : (number : ℕ) → oldest table.rows + i ≡ number → IsDataPage plan number (rows_at table i count) (committed (data_body plan number (rows_at table i count)))
    data-page number same =
        let m = is.made in
        let f = facts config bytes place plan table is in
        let rows = rows_at table i count in
        let short = slice_get-short table.rows.counts i count e in
        let row_some : 1 ≤ row_len plan = subst (λ l. 1 ≤ layout_len l) m.layout (layout_some m.key m.types (has_var plan)) in
        let le = each-at (λ c. c ≤ rows_per_page plan) table.rows.counts i count f.few_rows e in
        let fits : count * row_len plan ≤ plan.geometry.page - 24 = (le-div_iff_mul-le {x = count} {y = plan.geometry.page - 24} row_some).0 le in
        let small : count * 1 ≤ count * row_len plan = mul-le-mul_left count row_some in
        let n = f.numbers DataRing in
        data_page m.key m.types (has_var plan) plan number rows m.layout
        (all-stored plan rows (λ j entry blob h. all-numbered (sum (take i table.rows.counts) + j) entry blob (among j entry h))
        (each-take (FitsPlan plan) count (drop (sum (take i table.rows.counts)) table.entries) (each-drop (FitsPlan plan) (sum (take i table.rows.counts)) table.entries f.fit)))
        (omega (arith, same, short, f.rows.not_negative, n)) (omega (arith, many, some)) (omega (arith, many, small, fits, m.page_high)) (omega (arith, ap (λ k. k * row_len plan) many, fits, m.page_low))

  module _ (number : ℕ) (k : IsKept table.rows (HoldsRows plan table) number (at number)) where
    bytes-are : at number ≡ committed (data_body plan number (rows_at table k.i k.count))
    bytes-are = k.holds ∙ ap (λ n. committed (data_body plan n (rows_at table k.i k.count))) k.at

    kept-page : IsDataPage plan number (rows_at table k.i k.count) (at number)
    kept-page = subst (IsDataPage plan number (rows_at table k.i k.count)) (sym bytes-are) (data-page k.i k.count k.counted k.some number k.at)

    kept-state : state_of_page (at number) ≡ Committed
    kept-state = state-committed (data_body plan number (rows_at table k.i k.count)) (at number) bytes-are

    -- it has the rows of the table's records
    pub kept-rows : rows_of (row_layout plan) form.rows number (at number) ≡ map stored_row (rows_at table k.i k.count)
    kept-rows = rows-read (row_layout plan) form.rows bytes number (size number) kept-page.good ∙ kept-page.rows

    kept-number : (numbers : List ℕ) → with_number (found_at (row_layout plan) form.rows bytes (number % (plan.data_blocks * plan.geometry.block))) (page_number (at number)) numbers ≡ numbers ++ number ∷ []
    kept-number = number-rows (row_layout plan) form.rows bytes number (size number) kept-page.good kept-state

  -- ---- the states of all of them

  long : (number : ℕ) → 8 ≤ length (bytes_at config bytes place plan DataRing number)
  long number = let m = is.made in subst (λ (l : List ℕ). 8 ≤ length l) (sym (rows-at config bytes place plan table is number)) (omega (arith, size number, m.page_low))

  pub page-state : (number : ℕ) → oldest table.rows ≤ number → number < oldest table.rows + plan.data_blocks * plan.geometry.block → state_of_page (at number) ≡ state_in table.rows number
  page-state number low high =
      sym (ap state_of_page (rows-at config bytes place plan table is number))
      ∙ state-is (shape_of plan DataRing) table.rows (bytes_at config bytes place plan DataRing) (HoldsRows plan table) (let f = facts config bytes place plan table is in f.rows) clean is.image.rows long
      (λ n k. ap state_of_page (rows-at config bytes place plan table is n) ∙ kept-state n (subst (IsKept table.rows (HoldsRows plan table) n) (rows-at config bytes place plan table is n) k)) number low high

  pub passed-other : (number : ℕ) (s : PageState) → state_of_page (at number) ≡ s → (s ≡ Committed → ⊥) → (passed : PassedOver)
      → with_passed (found_at (row_layout plan) form.rows bytes (number % (plan.data_blocks * plan.geometry.block))) passed ≡ passed_by s passed
  passed-other number s state other passed = passed-uncommitted (row_layout plan) form.rows bytes number (size number) s state other passed

  pub passed-rows : (number : ℕ) → oldest table.rows ≤ number → number < oldest table.rows + plan.data_blocks * plan.geometry.block → state_of_page (at number) ≡ Committed → (passed : PassedOver)
      → with_passed (found_at (row_layout plan) form.rows bytes (number % (plan.data_blocks * plan.geometry.block))) passed ≡ passed
  passed-rows number low high state passed = by_case (here number low high)
    where
      by_case : IsKept table.rows (HoldsRows plan table) number (at number) ⊎ IsOther table.rows number (at number)
          → with_passed (found_at (row_layout plan) form.rows bytes (number % (plan.data_blocks * plan.geometry.block))) passed ≡ passed
      by_case (inl k) = let p = kept-page number k in passed-good (row_layout plan) form.rows bytes number (size number) p.good state passed
      by_case (inr o) = absurd (uncommitted (at number) (let m = is.made in omega (arith, size number, m.page_low)) o.state state)

  -- fewer pages are kept than a round has
  pub kept-round : length table.rows.counts < plan.data_blocks * plan.geometry.block
  kept-round =
      let m = is.made in
      let f = facts config bytes place plan table is in
      let r = f.rows in
      let below : table.rows.next % plan.geometry.block < plan.geometry.block = mod_below table.rows.next plan.geometry.block m.block_some in
      let all : plan.data_blocks * plan.geometry.block ≡ (plan.data_blocks - 1) * plan.geometry.block + plan.geometry.block = let e : plan.data_blocks ≡ (plan.data_blocks - 1) + 1 = omega (arith, m.rows) in ap (λ n. n * plan.geometry.block) e ∙ omega arith in
      omega (arith, below, all, r.kept)

  -- ---- their numbers

  -- each number of a round is added where it has a count
  each-number : (number : ℕ) → oldest table.rows ≤ number → number < oldest table.rows + plan.data_blocks * plan.geometry.block → (numbers : List ℕ)
      → with_number (found_at (row_layout plan) form.rows bytes (number % (plan.data_blocks * plan.geometry.block))) (page_number (at number)) numbers ≡ numbers ++ number_if (count_of table.rows) number
  each-number number low high numbers = by_case (here number low high)
    where
      by_case : IsKept table.rows (HoldsRows plan table) number (at number) ⊎ IsOther table.rows number (at number)
          → with_number (found_at (row_layout plan) form.rows bytes (number % (plan.data_blocks * plan.geometry.block))) (page_number (at number)) numbers ≡ numbers ++ number_if (count_of table.rows) number
      by_case (inl k) = kept-number number k numbers ∙ sym (ap (λ b. numbers ++ if_some b number) (ap (nat_lt 0) (kept-count table.rows k.i k.count number k.at k.counted) ∙ lt-ltb 0 k.count k.some))
      by_case (inr o) =
          number-none (row_layout plan) form.rows bytes number (size number) (uncommitted (at number) (let m = is.made in omega (arith, size number, m.page_low)) o.state) numbers
          ∙ sym (ap (λ b. numbers ++ if_some b number) (ap (nat_lt 0) o.none) ∙ append-nil numbers)

  -- what a place adds doesn't depend on what was found before it
  each-place : (p : ℕ) → p < plan.data_blocks * plan.geometry.block → (numbers : List ℕ)
      → with_number (found_at (row_layout plan) form.rows bytes p) (page_number (page_of form.rows bytes p)) numbers ≡ numbers ++ with_number (found_at (row_layout plan) form.rows bytes p) (page_number (page_of form.rows bytes p)) []
  each-place p lt numbers =
      let n = number-of-place (oldest table.rows) (plan.data_blocks * plan.geometry.block) p lt in
      subst (λ q. with_number (found_at (row_layout plan) form.rows bytes q) (page_number (page_of form.rows bytes q)) numbers ≡ numbers ++ with_number (found_at (row_layout plan) form.rows bytes q) (page_number (page_of form.rows bytes q)) []) n.placed
      (each-number n.number n.low n.high numbers ∙ ap (λ l. numbers ++ l) (sym (each-number n.number n.low n.high [])))

  -- the numbers in order
  abbrev pub ascending : List ℕ
  ascending = gather (number_if (count_of table.rows)) (oldest table.rows) (plan.data_blocks * plan.geometry.block)

  pub numbers-are : IsPermutation (numbers_at (row_layout plan) form.rows bytes (plan.data_blocks * plan.geometry.block)) ascending
  numbers-are =
      subst (λ l. IsPermutation l ascending)
      (sym (numbers-gathered (row_layout plan) form.rows bytes (λ p. with_number (found_at (row_layout plan) form.rows bytes p) (page_number (page_of form.rows bytes p)) []) (plan.data_blocks * plan.geometry.block) each-place))
      (gather-turned (λ p. with_number (found_at (row_layout plan) form.rows bytes p) (page_number (page_of form.rows bytes p)) []) (number_if (count_of table.rows)) (oldest table.rows) (plan.data_blocks * plan.geometry.block) some-pages (λ number low high. each-number number low high []))
