-- What index entries tell goes on.
use Rattle.std.proofs.Common.{◌≡◌, ℕ, zero, suc, ◌+◌, ◌-◌, ◌<◌, ◌≤◌, Bool, true, false, cond, ◌==◌, Option, Some, None, IfSome, IsTrue, List, [], ◌∷◌, ◌++◌, length, take, drop, map, filter, option_map, unwrap_or, refl, sym, ◌∙◌, ap, subst, arith, ◌⊎◌, inl, inr, length-append, length-drop}
use Rattle.std.specs.List.{slice_get, sum}
use Rattle.std.proofs.lemmas.Bool.{cases_lt, eq-eqb, ne_eqb, eqb-true}
use Rattle.std.proofs.lemmas.List.{drop-drop, take-append-le, take_all, length-map}
use Rattle.std.proofs.lemmas.List.Sums.{sum_by-cons}
use Rattle.std.proofs.lemmas.Option.{none-some, same_Some}
use Rattle.fl_model.specs.Record.{Plan, has_index, entries_per_page}
use Rattle.fl_model.specs.Index.{IndexEntry, IndexPage, index_entry, bitmap_of, full_of}
use Rattle.fl_model.specs.Ring.{Ring, oldest, is_full, extended}
use Rattle.fl_model.specs.Table.{Table, Entry, DataRing, IndexRing, shape_of, pages_given_up, seal_page, seal_buffer, pending_entries, lose}
use Rattle.fl_model.specs.Spline.{pages_from}
use Rattle.fl_model.specs.Limits.{rows_of_page, numbers_from}
use Rattle.fl_model.specs.Mount.{ready, waiting_after}
use Rattle.fl_model.specs.Agrees.{rows_at, Tells, TellsAt, is_told, TellPages}
use Rattle.fl_model.specs.Facts.{IsTable}
use Rattle.fl_model.specs.Telling.{TellingStays}
use Rattle.fl_model.proofs.Lists.{slice_get-drop, slice_get-left, slice_get-push, slice_get-last, slice_get-short, drop_none, take_none, sum_take_more, sum-within, take-drop-take}

-- the entry at a place tells of each kept page with its number, where what is told doesn't change with the table
abbrev TellsOf : Plan → Table → ℕ → Option IndexEntry → Type 0
TellsOf plan table n entry = IfSome (slice_get table.rows.counts n) (λ count. IsTrue (is_told plan count) → TellsAt plan (rows_at table n count) entry)

-- the data ring with one page more, and so many of the oldest given up
abbrev shifted : ℕ → ℕ → Bool → Table → Table
shifted count gone dirty table =
    record table {
      entries = drop (sum (take gone (table.rows.counts ++ count ∷ []))) table.entries;
      rows = record (extended count table.rows) { counts = drop gone (table.rows.counts ++ count ∷ []); dirty = dirty };
    }

module _ (count gone : ℕ) (dirty : Bool) (table : Table) (numbered : length table.rows.counts ≤ table.rows.next) where
  abbrev all : List ℕ
  all = table.rows.counts ++ count ∷ []

  long : length all ≡ length table.rows.counts + 1
  long = length-append table.rows.counts (count ∷ [])

  -- the rows of a page are those that it had
  rows-shifted : (n c : ℕ) → rows_at (shifted count gone dirty table) n c ≡ take c (drop (sum (take (gone + n) all)) table.entries)
  rows-shifted n c =
      ap (take c)
      (drop-drop (sum (take n (drop gone all))) (sum (take gone all)) table.entries
      ∙ ap (λ k. drop k table.entries) (let s = sum_take_more gone n all in omega (arith, s)))

  tell-shifted : (plan : Plan) (first : ℕ) (entries : List IndexEntry) → first + length entries ≤ table.rows.next → TellPages plan table first entries → TellPages plan (shifted count gone dirty table) first entries
  tell-shifted plan first entries before tell j n lt at = by_count (slice_get (drop gone all) n) refl
    where
      by_count : (o : Option ℕ) → slice_get (drop gone all) n ≡ o → IfSome o (λ c. IsTrue (is_told plan c) → TellsAt plan (rows_at (shifted count gone dirty table) n c) (slice_get entries j))
      by_count None e = tt
      by_count (Some c) e = λ told.
          let short = slice_get-short (drop gone all) n c e in
          let few : gone + n < length all = omega (arith, short, length-drop gone all) in
          let number : first + j ≡ oldest table.rows + (gone + n) = omega (arith, at, length-drop gone all, long, few, numbered) in
          let inside : gone + n < length table.rows.counts = omega (arith, number, lt, before, few, long, numbered) in
          let there : slice_get table.rows.counts (gone + n) ≡ Some c = sym (slice_get-left table.rows.counts (count ∷ []) (gone + n) inside) ∙ (sym (slice_get-drop gone all n) ∙ e) in
          let had = subst (λ (o : Option ℕ). IfSome o (λ c. IsTrue (is_told plan c) → TellsAt plan (rows_at table (gone + n) c) (slice_get entries j))) there (tell j (gone + n) lt number) told in
          let same : rows_at (shifted count gone dirty table) n c ≡ rows_at table (gone + n) c =
          rows-shifted n c ∙ ap (λ (xs : List ℕ). take c (drop (sum xs) table.entries)) (take-append-le (gone + n) table.rows.counts (count ∷ []) (omega (arith, inside))) in
          subst (λ (rows : List Entry). TellsAt plan rows (slice_get entries j)) (sym same) had

-- a seal gives up a block, or nothing
sealed-shifted : (plan : Plan) (count : ℕ) (table : Table) (P : Table → Type 0) → ((gone : ℕ) (dirty : Bool) → P (shifted count gone dirty table)) → P (seal_page plan DataRing count table)
sealed-shifted plan count table P h = by_full (is_full (shape_of plan DataRing) (extended count table.rows))
  where
    all : List ℕ
    all = table.rows.counts ++ count ∷ []

    by_full : (b : Bool) → P (record table {
      entries = drop (sum (cond b (take plan.geometry.block all) [])) table.entries;
      rows = cond b (record (extended count table.rows) { counts = drop plan.geometry.block all; dirty = true }) (extended count table.rows);
    })
    by_full true = h plan.geometry.block true
    by_full false =
        subst (λ (cs : List ℕ). P (record table { entries = drop (sum cs) table.entries; rows = extended count table.rows })) (take_none all)
        (subst (λ (cs : List ℕ). P (record table { entries = drop (sum (take 0 all)) table.entries; rows = record (extended count table.rows) { counts = cs } })) (drop_none all) (h 0 table.rows.dirty))

tell-sealed : (plan : Plan) (table : Table) (count first : ℕ) (entries : List IndexEntry) → length table.rows.counts ≤ table.rows.next → first + length entries ≤ table.rows.next →
    TellPages plan table first entries → TellPages plan (seal_page plan DataRing count table) first entries
tell-sealed plan table count first entries numbered before tell =
    sealed-shifted plan count table (λ t. TellPages plan t first entries) (λ gone dirty. tell-shifted count gone dirty table numbered plan first entries before tell)

-- ---- the page that is sealed

-- the entries that waited with that of the pending rows
module _ (plan : Plan) (table : Table) (is : IsTable plan table) (gone : ℕ) (dirty : Bool) (base : Table) (entries_are : base.entries ≡ table.entries) (rows_are : base.rows ≡ table.rows) where
  numbered : length base.rows.counts ≤ base.rows.next
  numbered = subst (λ (r : Ring). length r.counts ≤ r.next) (sym rows_are) is.rows.not_negative

  abbrev after : Table
  after = shifted table.pending gone dirty base

  abbrev entries_after : List IndexEntry
  entries_after = table.waiting ++ index_entry plan (pending_entries table) ∷ []

  tell-marked : TellPages plan after (table.rows.next + 1 - length entries_after) entries_after
  tell-marked j n lt at = by_place (cases_lt j (length table.waiting))
    where
      len : length entries_after ≡ length table.waiting + 1
      len = length-append table.waiting (index_entry plan (pending_entries table) ∷ [])

      next : base.rows.next ≡ table.rows.next
      next = ap (λ (r : Ring). r.next) rows_are

      counts : base.rows.counts ≡ table.rows.counts
      counts = ap (λ (r : Ring). r.counts) rows_are

      waited : TellPages plan base (table.rows.next - length table.waiting) table.waiting
      waited = moved is.agrees.waiting
        where
          moved : TellPages plan table (table.rows.next - length table.waiting) table.waiting → TellPages plan base (table.rows.next - length table.waiting) table.waiting
          moved h = rw (rows_are, entries_are) h

      by_place : (j < length table.waiting) ⊎ (length table.waiting ≤ j) → TellsOf plan after n (slice_get entries_after j)
      by_place (inl less) =
          subst (TellsOf plan after n) (sym (slice_get-left table.waiting (index_entry plan (pending_entries table) ∷ []) j less))
          (tell-shifted table.pending gone dirty base numbered plan (table.rows.next - length table.waiting) table.waiting (omega (arith, is.listed, next)) waited j n less (omega (arith, at, len)))
      by_place (inr last) =
          let here : j ≡ length table.waiting = omega (arith, lt, len, last) in
          subst (TellsOf plan after n) (sym (ap (slice_get entries_after) here ∙ slice_get-last table.waiting (index_entry plan (pending_entries table)))) (by_count (slice_get (drop gone all) n) refl)
        where
          all : List ℕ
          all = base.rows.counts ++ table.pending ∷ []

          long : length all ≡ length base.rows.counts + 1
          long = length-append base.rows.counts (table.pending ∷ [])

          by_count : (o : Option ℕ) → slice_get (drop gone all) n ≡ o → IfSome o (λ c. IsTrue (is_told plan c) → Tells plan (rows_at after n c) (index_entry plan (pending_entries table)))
          by_count None e = tt
          by_count (Some c) e = λ told.
              let short = slice_get-short (drop gone all) n c e in
              let place : gone + n ≡ length base.rows.counts = omega (arith, at, len, last, lt, short, length-drop gone all, long, numbered, next, is.listed) in
              let count : c ≡ table.pending = same_Some _ _ (sym e ∙ (slice_get-drop gone all n ∙ (ap (slice_get all) place ∙ slice_get-last base.rows.counts table.pending))) in
              let before : sum (take (gone + n) all) ≡ sum table.rows.counts =
              ap (λ k. sum (take k all)) place ∙ (ap sum (take-append-le (length base.rows.counts) base.rows.counts (table.pending ∷ []) (omega arith)) ∙ (ap sum (take_all (length base.rows.counts) base.rows.counts (omega arith)) ∙ ap sum counts)) in
              let rows : rows_at after n c ≡ pending_entries table =
              rows-shifted table.pending gone dirty base numbered n c
              ∙ (ap (λ k. take c (drop k base.entries)) before
              ∙ (ap (λ (es : List Entry). take c (drop (sum table.rows.counts) es)) entries_are
              ∙ (ap (λ k. take c (drop k table.entries)) (let k : sum table.rows.counts ≡ length table.entries - table.pending = omega (arith, is.counted) in k)
              ∙ take_all c (pending_entries table) (let l = length-drop (length table.entries - table.pending) table.entries in omega (arith, l, count, is.counted))))) in
              record { bitmap = ap (bitmap_of plan) (sym rows); full = λ f. ap full_of (sym rows) }

tell-buffer : (plan : Plan) (table : Table) → IsTable plan table → IsTrue (has_index plan) →
    TellPages plan (seal_buffer plan DataRing table) ((seal_buffer plan DataRing table).rows.next - length (seal_buffer plan DataRing table).waiting) (seal_buffer plan DataRing table).waiting
tell-buffer plan table is has =
    let waiting = table.waiting ++ index_entry plan (pending_entries table) ∷ [] in
    let base : Table = record table { pending = 0; waiting = cond (has_index plan) waiting []; points = (seal_buffer plan DataRing table).points } in
    let is_waiting : cond (has_index plan) waiting [] ≡ waiting = ap (λ b. cond b waiting []) has in
    sealed-shifted plan table.pending base (λ t. TellPages plan t (t.rows.next - length t.waiting) t.waiting)
    (λ gone dirty. subst (λ (es : List IndexEntry). TellPages plan (shifted table.pending gone dirty base) (table.rows.next + 1 - length es) es) (sym is_waiting) (tell-marked plan table is gone dirty base refl refl))

-- ---- the pages of the index

tell-listed : (plan : Plan) (table : Table) → IsTable plan table → length table.waiting ≡ entries_per_page plan → (k : ℕ) (page : IndexPage) →
    slice_get (seal_buffer plan IndexRing table).index_pages k ≡ Some page → TellPages plan (seal_buffer plan IndexRing table) page.first page.entries
tell-listed plan table is full k page e =
    by_place (slice_get-push (drop gone table.index_pages) new k page e)
  where
    gone : ℕ
    gone = pages_given_up plan IndexRing (entries_per_page plan) table

    new : IndexPage
    new = record { first = table.rows.next - entries_per_page plan; entries = table.waiting }

    by_place : (slice_get (drop gone table.index_pages) k ≡ Some page) ⊎ ((k ≡ length (drop gone table.index_pages)) × (new ≡ page)) → TellPages plan (seal_buffer plan IndexRing table) page.first page.entries
    by_place (inl old) = is.agrees.listed (gone + k) page (sym (slice_get-drop gone table.index_pages k) ∙ old)
    by_place (inr last) =
        subst (λ (p : IndexPage). TellPages plan (seal_buffer plan IndexRing table) p.first p.entries) last.1
        (subst (λ n. TellPages plan table (table.rows.next - n) table.waiting) full is.agrees.waiting)

tell-voided : (plan : Plan) (table : Table) → IsTable plan table → (k : ℕ) (page : IndexPage) →
    slice_get (seal_page plan IndexRing 0 table).index_pages k ≡ Some page → TellPages plan (seal_page plan IndexRing 0 table) page.first page.entries
tell-voided plan table is k page e =
    let gone = pages_given_up plan IndexRing 0 table in is.agrees.listed (gone + k) page (sym (slice_get-drop gone table.index_pages k) ∙ e)

-- ---- the entries that wait when a table was mounted

-- the rows of a page by its number
abbrev pub rows_by : ℕ → List (ℕ × List Entry) → List Entry
rows_by number pages = unwrap_or (option_map (λ (page : ℕ × List Entry). page.1) (slice_get (filter (λ (page : ℕ × List Entry). page.0 == number) pages) 0)) []

-- no page from a number on has a lower one
none-lower : (number first : ℕ) (counts : List ℕ) (entries : List Entry) → number < first → filter (λ (page : ℕ × List Entry). page.0 == number) (pages_from first counts entries) ≡ []
none-lower number first [] entries lt = refl
none-lower number first (c ∷ cs) entries lt =
    by_count (c == 0) (none-lower number (first + 1) cs entries (omega (arith, lt))) (none-lower number (first + 1) cs (drop c entries) (omega (arith, lt)))
  where
    by_count : (b : Bool) → filter (λ (page : ℕ × List Entry). page.0 == number) (pages_from (first + 1) cs entries) ≡ [] →
        filter (λ (page : ℕ × List Entry). page.0 == number) (pages_from (first + 1) cs (drop c entries)) ≡ [] →
        filter (λ (page : ℕ × List Entry). page.0 == number) (cond b (pages_from (first + 1) cs entries) ((first, take c entries) ∷ pages_from (first + 1) cs (drop c entries))) ≡ []
    by_count true h k = h
    by_count false h k = ap (λ t. cond t ((first, take c entries) ∷ filter (λ (page : ℕ × List Entry). page.0 == number) (pages_from (first + 1) cs (drop c entries))) (filter (λ (page : ℕ × List Entry). page.0 == number) (pages_from (first + 1) cs (drop c entries))))
        (ne_eqb first number (λ e. omega (arith, e, lt))) ∙ k

pub rows-by : (first n c : ℕ) (counts : List ℕ) (entries : List Entry) → slice_get counts n ≡ Some c → rows_by (first + n) (pages_from first counts entries) ≡ take c (drop (sum (take n counts)) entries)
rows-by first n c [] entries e = absurd (none-some c e)
rows-by first zero c (x ∷ cs) entries e = by_count (x == 0) refl
  where
    same : x ≡ c
    same = cc

    front : take c (drop (sum (take 0 (x ∷ cs))) entries) ≡ take c entries
    front = ap (take c) (ap (λ k. drop k entries) (ap sum (take_none (x ∷ cs))) ∙ drop_none entries)

    here : first + 0 ≡ first
    here = omega arith

    by_count : (b : Bool) → (x == 0) ≡ b → rows_by (first + 0) (cond b (pages_from (first + 1) cs entries) ((first, take x entries) ∷ pages_from (first + 1) cs (drop x entries))) ≡ take c (drop (sum (take 0 (x ∷ cs))) entries)
    by_count true k =
        let z = eqb-true x 0 k in
        ap (λ (ps : List (ℕ × List Entry)). unwrap_or (option_map (λ (page : ℕ × List Entry). page.1) (slice_get ps 0)) []) (none-lower (first + 0) (first + 1) cs entries (omega arith))
        ∙ sym (front ∙ (ap (λ n. take n entries) (let y : c ≡ 0 = omega (arith, same, z) in y) ∙ take_none entries))
    by_count false k =
        ap (λ t. unwrap_or (option_map (λ (page : ℕ × List Entry). page.1) (slice_get (cond t ((first, take x entries) ∷ filter (λ (page : ℕ × List Entry). page.0 == first + 0) (pages_from (first + 1) cs (drop x entries))) (filter (λ (page : ℕ × List Entry). page.0 == first + 0) (pages_from (first + 1) cs (drop x entries)))) 0)) [])
        (eq-eqb first (first + 0) (sym here))
        ∙ (ap (λ n. take n entries) same ∙ sym front)
rows-by first (suc n) c (x ∷ cs) entries e = by_count (rows-by (first + 1) n c cs entries e) (rows-by (first + 1) n c cs (drop x entries) e) (x == 0) refl
  where
    number : first + 1 + n ≡ first + suc n
    number = omega arith

    all : sum (take (suc n) (x ∷ cs)) ≡ x + sum (take n cs)
    all = sum_by-cons (λ (k : ℕ). k) x (take n cs)

    by_count : rows_by (first + 1 + n) (pages_from (first + 1) cs entries) ≡ take c (drop (sum (take n cs)) entries) → rows_by (first + 1 + n) (pages_from (first + 1) cs (drop x entries)) ≡ take c (drop (sum (take n cs)) (drop x entries)) →
        (b : Bool) → (x == 0) ≡ b → rows_by (first + suc n) (cond b (pages_from (first + 1) cs entries) ((first, take x entries) ∷ pages_from (first + 1) cs (drop x entries))) ≡ take c (drop (sum (take (suc n) (x ∷ cs))) entries)
    by_count void full true k =
        let z = eqb-true x 0 k in
        ap (λ m. rows_by m (pages_from (first + 1) cs entries)) (sym number)
        ∙ (void ∙ ap (λ m. take c (drop m entries)) (let y : sum (take n cs) ≡ sum (take (suc n) (x ∷ cs)) = omega (arith, all, z) in y))
    by_count void full false k =
        ap (λ t. unwrap_or (option_map (λ (page : ℕ × List Entry). page.1) (slice_get (cond t ((first, take x entries) ∷ filter (λ (page : ℕ × List Entry). page.0 == first + suc n) (pages_from (first + 1) cs (drop x entries))) (filter (λ (page : ℕ × List Entry). page.0 == first + suc n) (pages_from (first + 1) cs (drop x entries)))) 0)) [])
        (ne_eqb first (first + suc n) (λ e. omega (arith, e)))
        ∙ (ap (λ m. rows_by m (pages_from (first + 1) cs (drop x entries))) (sym number)
        ∙ (full
        ∙ ap (take c) (drop-drop (sum (take n cs)) x entries ∙ ap (λ m. drop m entries) (let y : x + sum (take n cs) ≡ sum (take (suc n) (x ∷ cs)) = omega (arith, all) in y))))

-- the entry of each number
pub numbers-length : (first n : ℕ) → length (numbers_from first n) ≡ n
numbers-length first zero = refl
numbers-length first (suc n) = ap suc (numbers-length (first + 1) n)

number-at : (f : ℕ → IndexEntry) (first n j : ℕ) → j < n → slice_get (map f (numbers_from first n)) j ≡ Some (f (first + j))
number-at f first zero j lt = absurd (omega (arith, lt))
number-at f first (suc n) zero lt = ap (λ k. Some (f k)) (let e : first ≡ first + 0 = omega arith in e)
number-at f first (suc n) (suc j) lt = number-at f (first + 1) n j (omega (arith, lt)) ∙ ap (λ k. Some (f k)) (let e : first + 1 + j ≡ first + suc j = omega arith in e)

tell-ready : (plan : Plan) (table : Table) → length table.rows.counts ≤ table.rows.next → TellPages plan (ready plan table) (table.rows.next - length (ready plan table).waiting) (ready plan table).waiting
tell-ready plan table numbered j n lt at = by_count (slice_get table.rows.counts n) refl
  where
    count : ℕ
    count = waiting_after plan table

    f : ℕ → IndexEntry
    f number = index_entry plan (rows_of_page table number)

    many : length (ready plan table).waiting ≡ count
    many = length-map (numbers_from (table.rows.next - count) count) f ∙ numbers-length (table.rows.next - count) count

    number : table.rows.next - count + j ≡ oldest table.rows + n
    number = omega (arith, at, many)

    here : slice_get (ready plan table).waiting j ≡ Some (f (oldest table.rows + n))
    here = number-at f (table.rows.next - count) count j (omega (arith, lt, many)) ∙ ap (λ k. Some (f k)) number

    by_count : (o : Option ℕ) → slice_get table.rows.counts n ≡ o → IfSome o (λ c. IsTrue (is_told plan c) → TellsAt plan (rows_at (ready plan table) n c) (slice_get (ready plan table).waiting j))
    by_count None e = tt
    by_count (Some c) e = λ told.
        let rows : rows_of_page table (oldest table.rows + n) ≡ rows_at table n c = rows-by (oldest table.rows) n c table.rows.counts table.entries e in
        subst (TellsAt plan (rows_at table n c)) (sym here) (record { bitmap = ap (bitmap_of plan) rows; full = λ is. ap full_of rows })

-- ---- what is lost

tell-lost : (plan : Plan) (table : Table) (first : ℕ) (entries : List IndexEntry) → sum table.rows.counts + table.pending ≡ length table.entries →
    TellPages plan table first entries → TellPages plan (lose table) first entries
tell-lost plan table first entries counted h j n lt e = by_count (slice_get table.rows.counts n) refl (h j n lt e)
  where
    by_count : (c : Option ℕ) → slice_get table.rows.counts n ≡ c → IfSome c (λ count. IsTrue (is_told plan count) → TellsAt plan (rows_at table n count) (slice_get entries j)) →
        IfSome c (λ count. IsTrue (is_told plan count) → TellsAt plan (rows_at (lose table) n count) (slice_get entries j))
    by_count None k h = tt
    by_count (Some count) k h = λ told. subst (λ (rows : List Entry). TellsAt plan rows (slice_get entries j)) (sym (same n count k)) (h told)
      where
        same : (n count : ℕ) → slice_get table.rows.counts n ≡ Some count → rows_at (lose table) n count ≡ rows_at table n count
        same n count e = let few = sum-within table.rows.counts n count e in take-drop-take count (sum (take n table.rows.counts)) (length table.entries - table.pending) table.entries (omega (arith, few, counted))

pub telling-stays : TellingStays
telling-stays = record { sealed = tell-sealed; marked = tell-buffer; listed = tell-listed; voided = tell-voided; ready = tell-ready; lost = tell-lost }
