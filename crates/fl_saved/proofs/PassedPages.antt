-- The pages of a table's data ring that a salvage passes over where the image stands for the table.
use Rattle.std.proofs.Common.{◌≡◌, ℕ, zero, suc, ◌+◌, ◌-◌, ◌*◌, ◌%◌, ◌<◌, ◌≤◌, Bool, true, false, cond, ◌&&◌, ◌==◌, nat_lt, Some, List, [], ◌∷◌, ◌++◌, length, map, refl, sym, ◌∙◌, ap, subst, arith}
use Rattle.std.specs.List.{count_by, slice_get, sum}
use Rattle.std.proofs.lemmas.Bool.{eq-eqb, le-ltb, lt-ltb, ne_eqb}
use Rattle.std.proofs.lemmas.List.Sorted.{sum_by-IsPermutation}
use Rattle.std.proofs.lemmas.List.Sums.{sum_by-append, sum_by-cons, sum_by_push, sum-map}
use Rattle.fl_mark.specs.Mark.{state_of_page}
use Rattle.fl_mark.specs.declared.page_state.PageState.{PageState}
use Rattle.fl_mark.specs.declared.page_state.PageState.TheVariants.{Blank, Torn, Committed, Void}
use Rattle.fl_model.specs.Record.{Plan, Config, row_layout}
use Rattle.fl_model.specs.Ring.{Ring, oldest}
use Rattle.fl_model.specs.Table.{Table}
use Rattle.fl_model.proofs.Lists.{slice_get-short}
use Rattle.fl_salvage.specs.Ends.{form_at}
use Rattle.fl_salvage.specs.Pages.{found_at, none_passed, numbered, passed_at, with_passed}
use Rattle.fl_salvage.specs.Text.{Form}
use Rattle.fl_salvage.specs.declared.passed_over.PassedOver.{PassedOver}
use Rattle.fl_saved.specs.Passed.{passed_of}
use Rattle.fl_saved.proofs.Gathered.{gather, gather-add, gather-next, gather-turned, number-of-place}
use Rattle.fl_saved.proofs.Places.{count_of, kept-count}
use Rattle.fl_saved.proofs.RowPages.{kept-round, page-state, passed-rows, passed-other, some-pages}
use Rattle.fl_saved.proofs.RingsOfImage.{IsHere, facts}
use Rattle.fl_saved.proofs.States.{state_in}

-- ---- sums over a round

-- a number for each of so many numbers from one on
abbrev ones : (ℕ → ℕ) → ℕ → List ℕ
ones f m = f m ∷ []

sum-none : (f : ℕ → ℕ) (a n : ℕ) → ((i : ℕ) → i < n → f (a + i) ≡ 0) → sum (gather (ones f) a n) ≡ 0
sum-none f a zero h = refl
sum-none f a (suc n) h =
    let here : a + 0 ≡ a = omega arith in
    let first : f a ≡ 0 = sym (ap f here) ∙ h 0 (omega arith) in
    let rest = sum-none f (a + 1) n (λ i lt. let e : a + 1 + i ≡ a + suc i = omega arith in ap f e ∙ h (suc i) (omega (arith, lt))) in
    sum_by-cons (λ (k : ℕ). k) (f a) (gather (ones f) (a + 1) n) ∙ omega (arith, first, rest)

gather-map : (f g : ℕ → ℕ) (a : ℕ) (xs : List ℕ) → ((i x : ℕ) → slice_get xs i ≡ Some x → f (a + i) ≡ g x) → gather (ones f) a (length xs) ≡ map g xs
gather-map f g a [] h = refl
gather-map f g a (x ∷ xs) h =
    let here : a ≡ a + 0 = omega arith in
    ap (λ k. k ∷ gather (ones f) (a + 1) (length xs)) (ap f here ∙ h 0 x refl)
    ∙ ap (λ l. g x ∷ l) (gather-map f g (a + 1) xs (λ i y e. let k : a + 1 + i ≡ a + suc i = omega arith in ap f k ∙ h (suc i) y e))

-- ---- the pages by their states

abbrev torn_one : PageState → ℕ
torn_one Torn = 1
torn_one Blank = 0
torn_one Committed = 0
torn_one Void = 0

abbrev void_one : PageState → ℕ
void_one Void = 1
void_one Blank = 0
void_one Committed = 0
void_one Torn = 0

-- one more page in this state
abbrev with_state : PageState → PassedOver → PassedOver
with_state state passed = record passed { torn = passed.torn + torn_one state; void = passed.void + void_one state }

module _ (config : Config) (bytes : List ℕ) (place : ℕ) (plan : Plan) (table : Table) (is : IsHere config bytes place plan table) (clean : table.rows.dirty ≡ false) where
  abbrev form : Form
  form = form_at config.plans place plan

  abbrev pages : ℕ
  pages = plan.data_blocks * plan.geometry.block

  abbrev ring : Ring
  ring = table.rows

  none-more : (passed : PassedOver) → passed ≡ record passed { torn = passed.torn + 0; void = passed.void + 0 }
  none-more passed =
      let a : passed.torn ≡ passed.torn + 0 = omega arith in
      let b : passed.void ≡ passed.void + 0 = omega arith in
      ap (λ (n : ℕ). record passed { torn = n; void = passed.void }) a ∙ ap (λ (n : ℕ). record passed { torn = passed.torn + 0; void = n }) b

  each-number : (number : ℕ) → oldest table.rows ≤ number → number < oldest table.rows + plan.data_blocks * plan.geometry.block → (passed : PassedOver)
      → with_passed (found_at (row_layout plan) form.rows bytes (number % (plan.data_blocks * plan.geometry.block))) passed ≡ with_state (state_in table.rows number) passed
  each-number number low high passed = by_state (state_in table.rows number) (page-state config bytes place plan table is clean number low high)
    where
      zeros : (n : ℕ) → n ≡ n + 0
      zeros n = omega arith

      by_state : (s : PageState) → state_of_page (numbered form.rows bytes number) ≡ s → with_passed (found_at (row_layout plan) form.rows bytes (number % (plan.data_blocks * plan.geometry.block))) passed ≡ with_state s passed
      by_state Committed e = passed-rows config bytes place plan table is clean number low high e passed ∙ none-more passed
      by_state Blank e = passed-other config bytes place plan table is clean number Blank e (λ k. never k) passed ∙ none-more passed
        where
          never : Blank ≡ Committed → ⊥
          never q = cc
      by_state Torn e = passed-other config bytes place plan table is clean number Torn e (λ k. never k) passed ∙ ap (λ (n : ℕ). record passed { torn = passed.torn + 1; void = n }) (zeros passed.void)
        where
          never : Torn ≡ Committed → ⊥
          never q = cc
      by_state Void e = passed-other config bytes place plan table is clean number Void e (λ k. never k) passed ∙ ap (λ (n : ℕ). record passed { torn = n; void = passed.void + 1 }) (zeros passed.torn)
        where
          never : Void ≡ Committed → ⊥
          never q = cc

  -- what a place adds
  abbrev at_place : ℕ → PassedOver
  at_place p = with_passed (found_at (row_layout plan) form.rows bytes p) none_passed

  each-place : (p : ℕ) → p < plan.data_blocks * plan.geometry.block → (passed : PassedOver)
      → with_passed (found_at (row_layout plan) form.rows bytes p) passed ≡ record passed { torn = passed.torn + (at_place p).torn; void = passed.void + (at_place p).void }
  each-place p lt passed =
      let n = number-of-place (oldest table.rows) (plan.data_blocks * plan.geometry.block) p lt in
      subst (λ q. with_passed (found_at (row_layout plan) form.rows bytes q) passed ≡ record passed { torn = passed.torn + (at_place q).torn; void = passed.void + (at_place q).void }) n.placed
      (each-number n.number n.low n.high passed ∙ by_none (state_in table.rows n.number) (at_place (n.number % (plan.data_blocks * plan.geometry.block))) (each-number n.number n.low n.high none_passed))
    where
      by_none : (s : PageState) (added : PassedOver) → added ≡ with_state s none_passed → with_state s passed ≡ record passed { torn = passed.torn + added.torn; void = passed.void + added.void }
      by_none s added e =
          let t : torn_one s ≡ added.torn = let k : 0 + torn_one s ≡ torn_one s = omega arith in sym k ∙ sym (ap (λ (x : PassedOver). x.torn) e) in
          let v : void_one s ≡ added.void = let k : 0 + void_one s ≡ void_one s = omega arith in sym k ∙ sym (ap (λ (x : PassedOver). x.void) e) in
          ap (λ (n : ℕ). record passed { torn = passed.torn + n; void = passed.void + void_one s }) t ∙ ap (λ (n : ℕ). record passed { torn = passed.torn + added.torn; void = passed.void + n }) v

  abbrev torn_at : ℕ → ℕ
  torn_at p = (at_place p).torn

  abbrev void_at : ℕ → ℕ
  void_at p = (at_place p).void

  summed : (n : ℕ) → n ≤ plan.data_blocks * plan.geometry.block
      → passed_at (row_layout plan) form.rows bytes n ≡ record { missing = 0; torn = sum (gather (ones torn_at) 0 n); void = sum (gather (ones void_at) 0 n); misplaced = 0; unformed = 0 }
  summed zero le = refl
  summed (suc n) le =
      let t : sum (gather (ones torn_at) 0 (suc n)) ≡ sum (gather (ones torn_at) 0 n) + torn_at n = ap sum (gather-next (ones torn_at) n) ∙ sum_by_push (λ (k : ℕ). k) (gather (ones torn_at) 0 n) (torn_at n) in
      let v : sum (gather (ones void_at) 0 (suc n)) ≡ sum (gather (ones void_at) 0 n) + void_at n = ap sum (gather-next (ones void_at) n) ∙ sum_by_push (λ (k : ℕ). k) (gather (ones void_at) 0 n) (void_at n) in
      each-place n (omega (arith, le)) (passed_at (row_layout plan) form.rows bytes n)
      ∙ ap (λ (passed : PassedOver). record passed { torn = passed.torn + torn_at n; void = passed.void + void_at n }) (summed n (omega (arith, le)))
      ∙ ap (λ (k : ℕ). record { missing = 0; torn = k; void = sum (gather (ones void_at) 0 n) + void_at n; misplaced = 0; unformed = 0 }) (sym t)
      ∙ ap (λ (k : ℕ). record { missing = 0; torn = sum (gather (ones torn_at) 0 (suc n)); void = k; misplaced = 0; unformed = 0 }) (sym v)

  -- ---- the sums, by numbers

  abbrev torn_by : ℕ → ℕ
  torn_by number = torn_one (state_in table.rows number)

  abbrev void_by : ℕ → ℕ
  void_by number = void_one (state_in table.rows number)

  turned : (f g : ℕ → ℕ) → ((number : ℕ) → oldest table.rows ≤ number → number < oldest table.rows + plan.data_blocks * plan.geometry.block → f (number % (plan.data_blocks * plan.geometry.block)) ≡ g number)
      → sum (gather (ones f) 0 (plan.data_blocks * plan.geometry.block)) ≡ sum (gather (ones g) (oldest table.rows) (plan.data_blocks * plan.geometry.block))
  turned f g h =
      sym (sum_by-IsPermutation (λ (k : ℕ). k) (gather (ones f) 0 (plan.data_blocks * plan.geometry.block)) (gather (ones g) (oldest table.rows) (plan.data_blocks * plan.geometry.block))
      (gather-turned (ones f) (ones g) (oldest table.rows) (plan.data_blocks * plan.geometry.block) (some-pages config bytes place plan table is clean) (λ number low high. ap (λ k. k ∷ []) (h number low high))))

  -- the pages that are kept, the next one, and the others
  split : (f : ℕ → ℕ) → sum (gather (ones f) (oldest table.rows) (plan.data_blocks * plan.geometry.block))
      ≡ sum (gather (ones f) (oldest table.rows) (length table.rows.counts)) + (f table.rows.next + sum (gather (ones f) (table.rows.next + 1) (plan.data_blocks * plan.geometry.block - length table.rows.counts - 1)))
  split f =
      let r = let k = facts config bytes place plan table is in k.rows in
      let round = kept-round config bytes place plan table is clean in
      let all : plan.data_blocks * plan.geometry.block ≡ length table.rows.counts + suc (plan.data_blocks * plan.geometry.block - length table.rows.counts - 1) = omega (arith, round) in
      let next : oldest table.rows + length table.rows.counts ≡ table.rows.next = omega (arith, r.not_negative) in
      let behind : List ℕ = gather (ones f) (table.rows.next + 1) (plan.data_blocks * plan.geometry.block - length table.rows.counts - 1) in
      ap (λ n. sum (gather (ones f) (oldest table.rows) n)) all
      ∙ ap sum (gather-add (ones f) (oldest table.rows) (length table.rows.counts) (suc (plan.data_blocks * plan.geometry.block - length table.rows.counts - 1)))
      ∙ ap (λ n. sum (gather (ones f) (oldest table.rows) (length table.rows.counts) ++ gather (ones f) n (suc (plan.data_blocks * plan.geometry.block - length table.rows.counts - 1)))) next
      ∙ sum_by-append (λ (k : ℕ). k) (gather (ones f) (oldest table.rows) (length table.rows.counts)) (f table.rows.next ∷ behind)
      ∙ ap (λ n. sum (gather (ones f) (oldest table.rows) (length table.rows.counts)) + n) (sum_by-cons (λ (k : ℕ). k) (f table.rows.next) behind)

  kept-is : (i : ℕ) → i < length table.rows.counts → state_in table.rows (oldest table.rows + i) ≡ cond (nat_lt 0 (count_of table.rows (oldest table.rows + i))) Committed Void
  kept-is i lt =
      let r = let k = facts config bytes place plan table is in k.rows in
      ap (λ b. cond b (cond (nat_lt 0 (count_of table.rows (oldest table.rows + i))) Committed Void) (cond ((oldest table.rows + i == table.rows.next) && table.rows.torn) Torn Blank)) (lt-ltb (oldest table.rows + i) table.rows.next (omega (arith, lt, r.not_negative)))

  from-next : (number : ℕ) → table.rows.next ≤ number → state_in table.rows number ≡ cond ((number == table.rows.next) && table.rows.torn) Torn Blank
  from-next number le = ap (λ b. cond b (cond (nat_lt 0 (count_of table.rows number)) Committed Void) (cond ((number == table.rows.next) && table.rows.torn) Torn Blank)) (le-ltb number table.rows.next le)

  next-is : state_in table.rows table.rows.next ≡ cond table.rows.torn Torn Blank
  next-is = from-next table.rows.next (omega arith) ∙ ap (λ b. cond (b && table.rows.torn) Torn Blank) (eq-eqb table.rows.next table.rows.next refl)

  later-is : (i : ℕ) → state_in table.rows (table.rows.next + 1 + i) ≡ Blank
  later-is i = from-next (table.rows.next + 1 + i) (omega arith) ∙ ap (λ b. cond (b && table.rows.torn) Torn Blank) (ne_eqb (table.rows.next + 1 + i) table.rows.next (λ e. let no : ⊥ = omega (arith, e) in no))

  torn-is : sum (gather (ones torn_by) (oldest table.rows) (plan.data_blocks * plan.geometry.block)) ≡ cond table.rows.torn 1 0
  torn-is =
      let kept = sum-none torn_by (oldest table.rows) (length table.rows.counts) (λ i lt. ap torn_one (kept-is i lt) ∙ by_kept (nat_lt 0 (count_of table.rows (oldest table.rows + i)))) in
      let later = sum-none torn_by (table.rows.next + 1) (plan.data_blocks * plan.geometry.block - length table.rows.counts - 1) (λ i lt. ap torn_one (later-is i)) in
      let next = ap torn_one next-is ∙ by_next table.rows.torn in
      split torn_by ∙ omega (arith, kept, later, next)
    where
      by_kept : (b : Bool) → torn_one (cond b Committed Void) ≡ 0
      by_kept true = refl
      by_kept false = refl

      by_next : (b : Bool) → torn_one (cond b Torn Blank) ≡ cond b 1 0
      by_next true = refl
      by_next false = refl

  void-is : sum (gather (ones void_by) (oldest table.rows) (plan.data_blocks * plan.geometry.block)) ≡ count_by (λ count. count == 0) table.rows.counts
  void-is =
      let kept : sum (gather (ones void_by) (oldest table.rows) (length table.rows.counts)) ≡ count_by (λ count. count == 0) table.rows.counts =
      ap sum (gather-map void_by (λ (count : ℕ). cond (count == 0) 1 0) (oldest table.rows) table.rows.counts (λ i count e.
      ap void_one (kept-is i (slice_get-short table.rows.counts i count e))
      ∙ ap (λ n. void_one (cond (nat_lt 0 n) Committed Void)) (kept-count table.rows i count (oldest table.rows + i) refl e) ∙ by_count count))
      ∙ sum-map (λ (count : ℕ). cond (count == 0) 1 0) table.rows.counts in
      let later = sum-none void_by (table.rows.next + 1) (plan.data_blocks * plan.geometry.block - length table.rows.counts - 1) (λ i lt. ap void_one (later-is i)) in
      let next = ap void_one next-is ∙ by_next table.rows.torn in
      split void_by ∙ omega (arith, kept, later, next)
    where
      by_count : (count : ℕ) → void_one (cond (nat_lt 0 count) Committed Void) ≡ cond (count == 0) 1 0
      by_count zero = refl
      by_count (suc n) =
          ap (λ b. void_one (cond b Committed Void)) (lt-ltb 0 (suc n) (omega arith)) ∙ sym (ap (λ b. cond b 1 0) (ne_eqb (suc n) 0 (λ e. let no : ⊥ = omega (arith, e) in no)))

      by_next : (b : Bool) → void_one (cond b Torn Blank) ≡ 0
      by_next true = refl
      by_next false = refl

  pub passed : passed_at (row_layout plan) form.rows bytes (plan.data_blocks * plan.geometry.block) ≡ passed_of table.rows
  passed =
      let t = turned torn_at torn_by (λ number low high. ap (λ (x : PassedOver). x.torn) (each-number number low high none_passed) ∙ omega arith) ∙ torn-is in
      let v = turned void_at void_by (λ number low high. ap (λ (x : PassedOver). x.void) (each-number number low high none_passed) ∙ omega arith) ∙ void-is in
      summed (plan.data_blocks * plan.geometry.block) (omega arith)
      ∙ ap (λ (k : ℕ). record { missing = 0; torn = k; void = sum (gather (ones void_at) 0 (plan.data_blocks * plan.geometry.block)); misplaced = 0; unformed = 0 }) t
      ∙ ap (λ (k : ℕ). record { missing = 0; torn = cond table.rows.torn 1 0; void = k; misplaced = 0; unformed = 0 }) v
