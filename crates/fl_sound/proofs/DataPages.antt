-- What the data pages tell that a table keeps: its rows in order of their keys, how many they are, and where their blobs end.
use Rattle.std.proofs.Common.{◌≡◌, ◌⊎◌, inl, inr, ℕ, zero, suc, ◌+◌, ◌<◌, ◌≤◌, Bool, true, false, cond, nat_lt, ◌==◌, Option, Some, None, List, [], ◌∷◌, ◌++◌, length, map, take, drop, refl, sym, ◌∙◌, ap, subst, arith, length-drop, append_assoc}
use Rattle.std.specs.List.{slice_get, sum}
use Rattle.std.proofs.lemmas.Bool.{cases_lt, lt-ltb, ne_eqb, true≢false}
use Rattle.std.proofs.lemmas.List.{length-map, length-take-le, take-append-drop, take_all, map-append}
use Rattle.std.proofs.lemmas.List.Sums.{sum_by-append, sum_by-take-le}
use Rattle.fl_mark.specs.Mark.{state_of_page}
use Rattle.fl_model.specs.Image.{rows_at}
use Rattle.fl_model.specs.Record.{RowLayout}
use Rattle.fl_model.specs.Row.{Row, stored_row}
use Rattle.fl_model.specs.Table.{Table, Entry}
use Rattle.fl_model.proofs.Lists.{slice_get-some, take_none, take-next}
use Rattle.fl_model.specs.BlobEnds.{blobs_end}
use Rattle.fl_model.proofs.BlobEnds.{ends-append}
use Rattle.fl_page.specs.Page.{rows_in}
use Rattle.fl_page.specs.Steps.{Ascends}
use Rattle.fl_ring.specs.Newest.{commits}
use Rattle.fl_ring.specs.Ring.{Shape}
use Rattle.fl_rules.specs.Marks.{kept_page}
use Rattle.fl_rules.specs.Rising.{last_in, last_after, last_key, KeysAscend}
use Rattle.fl_rules.specs.Tally.{tally_of}
use Rattle.fl_rules.specs.declared.numbering.Numbering.{Numbering}
use Rattle.fl_check.proofs.RingReads.{Reads}
use Rattle.fl_sound.specs.Sound.{void_pages}
use Rattle.fl_sound.proofs.Lists.{rows-behind, last-behind, ascends-behind, ascends-front}

pub voids-append : (a b : List ℕ) → void_pages (a ++ b) ≡ void_pages a + void_pages b
voids-append a b = sum_by-append (λ (x : ℕ). cond (x == 0) 1 0) a b

-- each kept page with a count has the rows of its entries
abbrev pub HaveRowsOf : RowLayout → (ℕ → List ℕ) → Shape → Table → Numbering → Type 0
HaveRowsOf layout page d table n = (i c : ℕ) → slice_get table.rows.counts i ≡ Some c → 0 < c → rows_in layout (page (kept_page d n.marks i)) ≡ map stored_row (rows_at table i c)

module _ (layout : RowLayout) (page : ℕ → List ℕ) (d : Shape) (at_least : ℕ) (table : Table) (n : Numbering) (reads : Reads page d at_least table.rows n)
    (counted : sum table.rows.counts ≡ length table.entries) (rows : HaveRowsOf layout page d table n) where
  -- how many entries stand before the i-th page
  abbrev before : ℕ → ℕ
  before i = sum (take i table.rows.counts)

  before-next : (i c : ℕ) → slice_get table.rows.counts i ≡ Some c → sum (take (suc i) table.rows.counts) ≡ sum (take i table.rows.counts) + c
  before-next i c e =
      ap sum (take-next table.rows.counts i c e) ∙ sum_by-append (λ (k : ℕ). k) (take i table.rows.counts) (c ∷ []) ∙ omega arith

  before-within : (i : ℕ) → sum (take i table.rows.counts) ≤ length table.entries
  before-within i = let k = sum_by-take-le (λ (n : ℕ). n) table.rows.counts i in omega (arith, k, counted)

  as-many : (i c : ℕ) → slice_get table.rows.counts i ≡ Some c → length (map stored_row (rows_at table i c)) ≡ c
  as-many i c e =
      length-map (rows_at table i c) stored_row
      ∙ length-take-le c (drop (sum (take i table.rows.counts)) table.entries) (omega (arith, before-next i c e, before-within (suc i), length-drop (sum (take i table.rows.counts)) table.entries))

  -- the rows before the next page
  rows-next : (i c : ℕ) → slice_get table.rows.counts i ≡ Some c
      → map stored_row (take (sum (take (suc i) table.rows.counts)) table.entries) ≡ map stored_row (take (sum (take i table.rows.counts)) table.entries) ++ map stored_row (rows_at table i c)
  rows-next i c e = ap (λ (k : ℕ). map stored_row (take k table.entries)) (before-next i c e) ∙ rows-behind (sum (take i table.rows.counts)) c table.entries

  -- a void page has none
  rows-void : (i : ℕ) → slice_get table.rows.counts i ≡ Some 0
      → map stored_row (take (sum (take (suc i) table.rows.counts)) table.entries) ≡ map stored_row (take (sum (take i table.rows.counts)) table.entries)
  rows-void i e = ap (λ (k : ℕ). map stored_row (take k table.entries)) (before-next i 0 e ∙ omega arith)

  -- ---- keys

  last-is : (i : ℕ) → i ≤ length table.rows.counts → last_key layout page d n.marks i ≡ last_in None (map stored_row (take (sum (take i table.rows.counts)) table.entries))
  last-is zero le = sym (ap (λ (l : List ℕ). last_in None (map stored_row (take (sum l) table.entries))) (take_none table.rows.counts) ∙ ap (λ (l : List Entry). last_in None (map stored_row l)) (take_none table.entries))
  last-is (suc i) le =
      let c = slice_get-some table.rows.counts i (omega (arith, le)) in
      by_count (last-is i (omega (arith, le))) c.0 c.1 (cases_lt 0 c.0)
    where
      by_count : last_key layout page d n.marks i ≡ last_in None (map stored_row (take (sum (take i table.rows.counts)) table.entries)) → (c : ℕ) → slice_get table.rows.counts i ≡ Some c → (0 < c) ⊎ (c ≤ 0)
          → last_after layout (page (kept_page d n.marks i)) (last_key layout page d n.marks i) ≡ last_in None (map stored_row (take (sum (take (suc i) table.rows.counts)) table.entries))
      by_count before_is c e (inl some) =
          ap (λ (b : Bool). cond b (last_in (last_key layout page d n.marks i) (rows_in layout (page (kept_page d n.marks i)))) (last_key layout page d n.marks i)) (reads.committed i c e ∙ lt-ltb 0 c some)
          ∙ ap (λ (o : Option ℕ). last_in o (rows_in layout (page (kept_page d n.marks i)))) before_is
          ∙ ap (last_in (last_in None (map stored_row (take (sum (take i table.rows.counts)) table.entries)))) (rows i c e some)
          ∙ sym (last-behind None (map stored_row (take (sum (take i table.rows.counts)) table.entries)) (map stored_row (rows_at table i c)))
          ∙ ap (last_in None) (sym (rows-next i c e))
      by_count before_is c e (inr none) =
          let z : c ≡ 0 = omega (arith, none) in
          let here : slice_get table.rows.counts i ≡ Some 0 = e ∙ ap (λ (k : ℕ). Some k) z in
          ap (λ (b : Bool). cond b (last_in (last_key layout page d n.marks i) (rows_in layout (page (kept_page d n.marks i)))) (last_key layout page d n.marks i)) (reads.committed i 0 here)
          ∙ before_is ∙ ap (last_in None) (sym (rows-void i here))

  pub keys-ascend : Ascends None (map stored_row table.entries) → KeysAscend layout page d n.marks
  keys-ascend all i lt committed =
      let c = slice_get-some table.rows.counts i (omega (arith, lt, reads.kept)) in
      by_count c.0 c.1 (cases_lt 0 c.0)
    where
      early : List Row
      early = map stored_row (take (sum (take i table.rows.counts)) table.entries)

      by_count : (c : ℕ) → slice_get table.rows.counts i ≡ Some c → (0 < c) ⊎ (c ≤ 0) → Ascends (last_key layout page d n.marks i) (rows_in layout (page (kept_page d n.marks i)))
      by_count c e (inl some) =
          let here : List Row = map stored_row (rows_at table i c) in
          let later : List Row = map stored_row (drop (sum (take (suc i) table.rows.counts)) table.entries) in
          let split : map stored_row table.entries ≡ early ++ (map stored_row (rows_at table i c) ++ map stored_row (drop (sum (take (suc i) table.rows.counts)) table.entries)) =
          ap (map stored_row) (sym (take-append-drop (sum (take (suc i) table.rows.counts)) table.entries))
          ∙ map-append stored_row (take (sum (take (suc i) table.rows.counts)) table.entries) (drop (sum (take (suc i) table.rows.counts)) table.entries)
          ∙ ap (λ (l : List Row). l ++ map stored_row (drop (sum (take (suc i) table.rows.counts)) table.entries)) (rows-next i c e)
          ∙ append_assoc early here later in
          let rises = ascends-front (last_in None early) here later (ascends-behind None early (here ++ later) (subst (Ascends None) split all)) in
          subst (λ (o : Option ℕ). Ascends o (rows_in layout (page (kept_page d n.marks i)))) (sym (last-is i (omega (arith, lt, reads.kept))))
          (subst (Ascends (last_in None early)) (sym (rows i c e some)) rises)
      by_count c e (inr none) = absurd (no (sym committed ∙ reads.committed i c e) none)
        where
          no : true ≡ nat_lt 0 c → c ≤ 0 → ⊥
          no k le = let z : c ≡ 0 = omega (arith, le) in true≢false (k ∙ ap (nat_lt 0) z)

  -- ---- the tally

  voids-next : (i c : ℕ) → slice_get table.rows.counts i ≡ Some c → void_pages (take (suc i) table.rows.counts) ≡ void_pages (take i table.rows.counts) + void_pages (c ∷ [])
  voids-next i c e = ap void_pages (take-next table.rows.counts i c e) ∙ voids-append (take i table.rows.counts) (c ∷ [])

  some-void : (c : ℕ) → 0 < c → void_pages (c ∷ []) ≡ 0
  some-void c some = ap (λ (b : Bool). 0 + cond b 1 0) (ne_eqb c 0 (λ e. let no : ⊥ = omega (arith, some, e) in no))

  rows-told : (i : ℕ) → i ≤ length table.rows.counts → (tally_of layout page d n.marks i).rows ≡ sum (take i table.rows.counts)
  rows-told zero le = sym (ap sum (take_none table.rows.counts))
  rows-told (suc i) le =
      let c = slice_get-some table.rows.counts i (omega (arith, le)) in
      by_count (rows-told i (omega (arith, le))) c.0 c.1 (cases_lt 0 c.0)
    where
      by_test : (b : Bool) → commits (state_of_page (page (kept_page d n.marks i))) ≡ b
          → (tally_of layout page d n.marks (suc i)).rows ≡ cond b ((tally_of layout page d n.marks i).rows + length (rows_in layout (page (kept_page d n.marks i)))) (tally_of layout page d n.marks i).rows
      by_test true e = rw e refl
      by_test false e = rw e refl

      by_count : (tally_of layout page d n.marks i).rows ≡ sum (take i table.rows.counts) → (c : ℕ) → slice_get table.rows.counts i ≡ Some c → (0 < c) ⊎ (c ≤ 0)
          → (tally_of layout page d n.marks (suc i)).rows ≡ sum (take (suc i) table.rows.counts)
      by_count before_is c e (inl some) =
          by_test true (reads.committed i c e ∙ lt-ltb 0 c some) ∙ omega (arith, before_is, before-next i c e, ap length (rows i c e some), as-many i c e)
      by_count before_is c e (inr none) =
          let z : c ≡ 0 = omega (arith, none) in
          by_test false (reads.committed i c e ∙ ap (nat_lt 0) z) ∙ omega (arith, before_is, before-next i c e, z)

  voids-told : (i : ℕ) → i ≤ length table.rows.counts → (tally_of layout page d n.marks i).voids ≡ void_pages (take i table.rows.counts)
  voids-told zero le = sym (ap void_pages (take_none table.rows.counts))
  voids-told (suc i) le =
      let c = slice_get-some table.rows.counts i (omega (arith, le)) in
      by_count (voids-told i (omega (arith, le))) c.0 c.1 (cases_lt 0 c.0)
    where
      by_test : (b : Bool) → commits (state_of_page (page (kept_page d n.marks i))) ≡ b
          → (tally_of layout page d n.marks (suc i)).voids ≡ cond b (tally_of layout page d n.marks i).voids ((tally_of layout page d n.marks i).voids + 1)
      by_test true e = rw e refl
      by_test false e = rw e refl

      by_count : (tally_of layout page d n.marks i).voids ≡ void_pages (take i table.rows.counts) → (c : ℕ) → slice_get table.rows.counts i ≡ Some c → (0 < c) ⊎ (c ≤ 0)
          → (tally_of layout page d n.marks (suc i)).voids ≡ void_pages (take (suc i) table.rows.counts)
      by_count before_is c e (inl some) = by_test true (reads.committed i c e ∙ lt-ltb 0 c some) ∙ omega (arith, before_is, voids-next i c e, some-void c some)
      by_count before_is c e (inr none) =
          let z : c ≡ 0 = omega (arith, none) in
          by_test false (reads.committed i c e ∙ ap (nat_lt 0) z) ∙ omega (arith, before_is, voids-next i c e, ap (λ (k : ℕ). void_pages (k ∷ [])) z)

  blobs-told : (i : ℕ) → i ≤ length table.rows.counts → (tally_of layout page d n.marks i).blob_end ≡ blobs_end 0 (map stored_row (take (sum (take i table.rows.counts)) table.entries))
  blobs-told zero le = sym (ap (λ (l : List ℕ). blobs_end 0 (map stored_row (take (sum l) table.entries))) (take_none table.rows.counts) ∙ ap (λ (l : List Entry). blobs_end 0 (map stored_row l)) (take_none table.entries))
  blobs-told (suc i) le =
      let c = slice_get-some table.rows.counts i (omega (arith, le)) in
      by_count (blobs-told i (omega (arith, le))) c.0 c.1 (cases_lt 0 c.0)
    where
      by_test : (b : Bool) → commits (state_of_page (page (kept_page d n.marks i))) ≡ b
          → (tally_of layout page d n.marks (suc i)).blob_end ≡ cond b (blobs_end (tally_of layout page d n.marks i).blob_end (rows_in layout (page (kept_page d n.marks i)))) (tally_of layout page d n.marks i).blob_end
      by_test true e = rw e refl
      by_test false e = rw e refl

      by_count : (tally_of layout page d n.marks i).blob_end ≡ blobs_end 0 (map stored_row (take (sum (take i table.rows.counts)) table.entries)) → (c : ℕ) → slice_get table.rows.counts i ≡ Some c → (0 < c) ⊎ (c ≤ 0)
          → (tally_of layout page d n.marks (suc i)).blob_end ≡ blobs_end 0 (map stored_row (take (sum (take (suc i) table.rows.counts)) table.entries))
      by_count before_is c e (inl some) =
          by_test true (reads.committed i c e ∙ lt-ltb 0 c some)
          ∙ ap (λ (k : ℕ). blobs_end k (rows_in layout (page (kept_page d n.marks i)))) before_is
          ∙ ap (blobs_end (blobs_end 0 (map stored_row (take (sum (take i table.rows.counts)) table.entries)))) (rows i c e some)
          ∙ sym (ends-append 0 (map stored_row (take (sum (take i table.rows.counts)) table.entries)) (map stored_row (rows_at table i c))) ∙ ap (blobs_end 0) (sym (rows-next i c e))
      by_count before_is c e (inr none) =
          let z : c ≡ 0 = omega (arith, none) in
          by_test false (reads.committed i c e ∙ ap (nat_lt 0) z) ∙ before_is ∙ ap (blobs_end 0) (sym (rows-void i (e ∙ ap (λ (k : ℕ). Some k) z)))

  -- all pages
  all : take (length table.rows.counts) table.rows.counts ≡ table.rows.counts
  all = take_all (length table.rows.counts) table.rows.counts (omega arith)

  pub rows-are : (tally_of layout page d n.marks n.marks.kept).rows ≡ sum table.rows.counts
  rows-are = ap (λ (i : ℕ). (tally_of layout page d n.marks i).rows) reads.kept ∙ rows-told (length table.rows.counts) (omega arith) ∙ ap sum all

  pub voids-are : (tally_of layout page d n.marks n.marks.kept).voids ≡ void_pages table.rows.counts
  voids-are = ap (λ (i : ℕ). (tally_of layout page d n.marks i).voids) reads.kept ∙ voids-told (length table.rows.counts) (omega arith) ∙ ap void_pages all

  pub blobs-are : (tally_of layout page d n.marks n.marks.kept).blob_end ≡ blobs_end 0 (map stored_row table.entries)
  blobs-are =
      ap (λ (i : ℕ). (tally_of layout page d n.marks i).blob_end) reads.kept ∙ blobs-told (length table.rows.counts) (omega arith)
      ∙ ap (λ (l : List ℕ). blobs_end 0 (map stored_row (take (sum l) table.entries))) all
      ∙ ap (λ (l : List Entry). blobs_end 0 (map stored_row l)) (take_all (sum table.rows.counts) table.entries (omega (arith, counted)))
