-- The data ring of a table as a list of bodies, and the same pages in the words of the model's image.
use Rattle.std.proofs.Common.{◌≡◌, ℕ, zero, suc, ◌+◌, ◌-◌, ◌*◌, ◌<◌, ◌≤◌, Bool, true, false, cond, ◌==◌, Option, Some, None, List, ◌++◌, length, take, drop, replicate, get_or, refl, sym, ◌∙◌, ap, subst, arith, ◌⊎◌, inl, inr, length-append, MatchBool}
use Rattle.std.proofs.lemmas.Bool.{cases_lt, cases_Bool, eqb-true as is_same, false≢true}
use Rattle.std.specs.List.{slice_get, sum}
use Rattle.fl_flash.specs.Flash.{blank}
use Rattle.fl_base.proofs.OneByte.{all_same}
use Rattle.fl_mark.specs.Mark.{state_of_page}
use Rattle.fl_mark.specs.InModel.{IsModelState}
use Rattle.fl_mark.specs.declared.page_state.PageState.TheVariants.{Torn}
use Rattle.fl_mark.proofs.InModel.{model_state}
use Rattle.fl_model.specs.Record.{Plan}
use Rattle.fl_model.specs.Ring as model
use Rattle.fl_model.specs.Table.{Table, Entry, DataRing, shape_of}
use Rattle.fl_model.specs.Layout.{data_body, is_blank}
use Rattle.fl_model.specs.Image.{IsRingImage, HoldsRows, rows_at}
use Rattle.fl_model.proofs.Lists.{slice_get-some, slice_get-short}
use Rattle.fl_model.proofs.Pages.{page_with, pages_from, pages-length, pages-at}
use Rattle.fl_ring.specs.Ring.{Shape, RingState, IsRing, OnRing, HoldsKept, place, count, oldest, committed_end}
use Rattle.fl_ring.proofs.Counts.{ring_from, ring_back}
use Rattle.fl_ring.proofs.Images.{committed_is}
use Rattle.fl_parts.specs.Pages.{bytes_in}

-- where the data ring of a table stands whose blocks begin at `first`
abbrev pub shape_in : ℕ → Plan → Shape
shape_in first plan = record { first = first * plan.geometry.block; blocks = plan.data_blocks; per_block = plan.geometry.block; size = plan.geometry.page }

-- its state
abbrev pub state_of : Plan → Table → RingState
state_of plan table = record {
  kept = pages_from plan (model.oldest table.rows) table.entries table.rows.counts;
  next = table.rows.next;
  torn = table.rows.torn;
  dirty = table.rows.dirty;
}

-- each page of the ring has its size
abbrev pub HaveSize : ℕ → Plan → (ℕ → List ℕ) → Type 0
HaveSize first plan page = (n : ℕ) → length (page (place (shape_in first plan) n)) ≡ plan.geometry.page

pub state-count : (plan : Plan) (table : Table) → count (state_of plan table) ≡ length table.rows.counts
state-count plan table = pages-length plan (model.oldest table.rows) table.entries table.rows.counts

pub state-oldest : (plan : Plan) (table : Table) → oldest (state_of plan table) ≡ model.oldest table.rows
state-oldest plan table = ap (λ n. table.rows.next - n) (state-count plan table)

-- the facts of a ring
pub ring-from : (first : ℕ) (plan : Plan) (table : Table) → model.IsRing (shape_of plan DataRing) table.rows → IsRing (shape_in first plan) (state_of plan table)
ring-from first plan table h = ring_from (shape_in first plan) (state_of plan table) table.rows.counts (sym (state-count plan table)) h

pub ring-back : (first : ℕ) (plan : Plan) (table : Table) → IsRing (shape_in first plan) (state_of plan table) → model.IsRing (shape_of plan DataRing) table.rows
ring-back first plan table h = ring_back (shape_in first plan) (state_of plan table) table.rows.counts (sym (state-count plan table)) h

-- blank bytes
pub blank-bytes : (page : List ℕ) (size : ℕ) → length page ≡ size → is_blank page ≡ true → page ≡ blank size
blank-bytes page size len e = all_same 255 page e ∙ ap (λ n. replicate n 255) len

pub blank-is : (size : ℕ) → is_blank (blank size) ≡ true
blank-is zero = refl
blank-is (suc size) = blank-is size

-- a page with rows isn't void
pub page-some : (plan : Plan) (number n : ℕ) (entries : List Entry) → 0 < n → page_with plan number n entries ≡ Some (data_body plan number (take n entries))
page-some plan number n entries h = by_test (n == 0) refl
  where
    by_test : (b : Bool) → (n == 0) ≡ b → cond b None (Some (data_body plan number (take n entries))) ≡ Some (data_body plan number (take n entries))
    by_test true e = absurd (omega (arith, is_same n 0 e))
    by_test false e = refl

-- all blocks but one, and that one
last-block : (blocks pages : ℕ) → blocks * pages ≤ (blocks - 1) * pages + pages
last-block zero pages = omega arith
last-block (suc blocks) pages = let e : suc blocks - 1 ≡ blocks = omega arith in rw e (omega arith)

-- the pages of an image are those of the ring's state
module _ (page : ℕ → List ℕ) (first : ℕ) (plan : Plan) (table : Table) (sizes : HaveSize first plan page) (large : 64 ≤ plan.geometry.page) (facts : model.IsRing (shape_of plan DataRing) table.rows) where
  in_model : (n : ℕ) → IsModelState (page (place (shape_in first plan) n))
  in_model n = model_state (page (place (shape_in first plan) n)) (omega (arith, sizes n, large))

  blank_at : (n : ℕ) → is_blank (page (place (shape_in first plan) n)) ≡ true → page (place (shape_in first plan) n) ≡ blank plan.geometry.page
  blank_at n e = blank-bytes (page (place (shape_in first plan) n)) plan.geometry.page (sizes n) e

  pub to-ring : IsRingImage (shape_of plan DataRing) table.rows (bytes_in page first plan DataRing) (HoldsRows plan table) → OnRing (shape_in first plan) page (state_of plan table)
  to-ring image = record {
    ring = ring-from first plan table facts;
    kept = λ i lt. let c = slice_get-some table.rows.counts i (omega (arith, state-count plan table, lt)) in kept i c.0 c.1;
    head = head table.rows.torn refl;
    ahead = λ clean j some few. blank_at (table.rows.next + j) (image.others j (omega arith)
        (let len = state-count plan table in let k = facts.not_negative in omega (arith, few, len, k)) (λ d. absurd (false≢true (sym clean ∙ d))));
    waits = λ d all. let k = image.dirty d in absurd (not_blank (page (place (shape_in first plan) (table.rows.next + k.0))) (all k.0 (omega (arith, k.1)) k.2) k.3);
  }
    where
      not_blank : (p : List ℕ) → p ≡ blank plan.geometry.page → is_blank p ≡ false → ⊥
      not_blank p e f = false≢true (sym f ∙ (ap is_blank e ∙ blank-is plan.geometry.page))

      head : (t : Bool) → table.rows.torn ≡ t → MatchBool t (state_of_page (page (place (shape_in first plan) table.rows.next)) ≡ Torn) (page (place (shape_in first plan) table.rows.next) ≡ blank plan.geometry.page)
      head true e = (in_model table.rows.next).torn.1 (image.torn_next e)
      head false e = blank_at table.rows.next (image.blank_next e)

      at_old : (i : ℕ) → page (place (shape_in first plan) (oldest (state_of plan table) + i)) ≡ page (place (shape_in first plan) (model.oldest table.rows + i))
      at_old i = ap (λ n. page (place (shape_in first plan) (n + i))) (state-oldest plan table)

      kept : (i c : ℕ) → slice_get table.rows.counts i ≡ Some c →
          HoldsKept (shape_in first plan) (get_or (state_of plan table).kept i None) (page (place (shape_in first plan) (oldest (state_of plan table) + i)))
      kept i c e =
          subst (λ (x : Option (List ℕ)). HoldsKept (shape_in first plan) x (page (place (shape_in first plan) (oldest (state_of plan table) + i)))) (sym (pages-at plan (model.oldest table.rows) table.entries table.rows.counts i c e))
          (subst (λ (p : List ℕ). HoldsKept (shape_in first plan) (page_with plan (model.oldest table.rows + i) c (drop (sum (take i table.rows.counts)) table.entries)) p) (sym (at_old i)) (by_count (cases_lt 0 c)))
        where
          by_count : (0 < c) ⊎ (c ≤ 0) → HoldsKept (shape_in first plan) (page_with plan (model.oldest table.rows + i) c (drop (sum (take i table.rows.counts)) table.entries)) (page (place (shape_in first plan) (model.oldest table.rows + i)))
          by_count (inl some) =
              let body = data_body plan (model.oldest table.rows + i) (rows_at table i c) in
              let is : page (place (shape_in first plan) (model.oldest table.rows + i)) ≡ body ++ committed_end = image.kept i c e some ∙ committed_is body in
              subst (λ (x : Option (List ℕ)). HoldsKept (shape_in first plan) x (page (place (shape_in first plan) (model.oldest table.rows + i)))) (sym (page-some plan (model.oldest table.rows + i) c (drop (sum (take i table.rows.counts)) table.entries) some))
              (is, omega (arith, sizes (model.oldest table.rows + i), ap length is, length-append body committed_end))
          by_count (inr none) =
              let zero_is : c ≡ 0 = omega (arith, none) in
              subst (λ (n : ℕ). HoldsKept (shape_in first plan) (page_with plan (model.oldest table.rows + i) n (drop (sum (take i table.rows.counts)) table.entries)) (page (place (shape_in first plan) (model.oldest table.rows + i)))) (sym zero_is)
              ((in_model (model.oldest table.rows + i)).void.1 (image.void i (e ∙ ap (λ (n : ℕ). Some n) zero_is)))

  pub to-image : OnRing (shape_in first plan) page (state_of plan table) → IsRingImage (shape_of plan DataRing) table.rows (bytes_in page first plan DataRing) (HoldsRows plan table)
  to-image on = record {
    void = λ i e. (in_model (model.oldest table.rows + i)).void.0 (held i 0 e);
    kept = λ i c e some.
        let body = data_body plan (model.oldest table.rows + i) (rows_at table i c) in
        (subst (λ (x : Option (List ℕ)). HoldsKept (shape_in first plan) x (page (place (shape_in first plan) (model.oldest table.rows + i)))) (page-some plan (model.oldest table.rows + i) c (drop (sum (take i table.rows.counts)) table.entries) some) (held i c e)).0
        ∙ sym (committed_is body);
    blank_next = λ e. ap is_blank (subst (λ b. MatchBool b (state_of_page (page (place (shape_in first plan) table.rows.next)) ≡ Torn) (page (place (shape_in first plan) table.rows.next) ≡ blank plan.geometry.page)) e on.head) ∙ blank-is plan.geometry.page;
    torn_next = λ e. (in_model table.rows.next).torn.0 (subst (λ b. MatchBool b (state_of_page (page (place (shape_in first plan) table.rows.next)) ≡ Torn) (page (place (shape_in first plan) table.rows.next) ≡ blank plan.geometry.page)) e on.head);
    dirty = λ d. some_begun plan.geometry.block (on.waits d);
    others = λ k some few clear. by_dirty table.rows.dirty refl k some few clear;
  }
    where
      held : (i c : ℕ) → slice_get table.rows.counts i ≡ Some c →
          HoldsKept (shape_in first plan) (page_with plan (model.oldest table.rows + i) c (drop (sum (take i table.rows.counts)) table.entries)) (page (place (shape_in first plan) (model.oldest table.rows + i)))
      held i c e =
          let lt = slice_get-short table.rows.counts i c e in
          subst (λ (p : List ℕ). HoldsKept (shape_in first plan) (page_with plan (model.oldest table.rows + i) c (drop (sum (take i table.rows.counts)) table.entries)) p)
          (ap (λ n. page (place (shape_in first plan) (n + i))) (state-oldest plan table))
          (subst (λ (x : Option (List ℕ)). HoldsKept (shape_in first plan) x (page (place (shape_in first plan) (oldest (state_of plan table) + i))))
          (pages-at plan (model.oldest table.rows) table.entries table.rows.counts i c e) (on.kept i (omega (arith, lt, state-count plan table))))

      -- of pages that aren't all blank one isn't
      some_begun : (n : ℕ) → (((j : ℕ) → 1 ≤ j → j ≤ n → page (place (shape_in first plan) (table.rows.next + j)) ≡ blank plan.geometry.page) → ⊥) →
          (k : ℕ) × (0 < k) × (k ≤ n) × (is_blank (page (place (shape_in first plan) (table.rows.next + k))) ≡ false)
      some_begun n waits = elim (search n) [ inl found ↦ found | inr all ↦ absurd (waits (λ j low high. blank_at (table.rows.next + j) (all j low high))) ]
        where
          search : (m : ℕ) → ((k : ℕ) × (0 < k) × (k ≤ m) × (is_blank (page (place (shape_in first plan) (table.rows.next + k))) ≡ false))
              ⊎ ((j : ℕ) → 1 ≤ j → j ≤ m → is_blank (page (place (shape_in first plan) (table.rows.next + j))) ≡ true)
          search zero = inr (λ j low high. absurd (omega arith))
          search (suc m) = more (search m) (cases_Bool (is_blank (page (place (shape_in first plan) (table.rows.next + suc m)))))
            where
              more : ((k : ℕ) × (0 < k) × (k ≤ m) × (is_blank (page (place (shape_in first plan) (table.rows.next + k))) ≡ false))
                  ⊎ ((j : ℕ) → 1 ≤ j → j ≤ m → is_blank (page (place (shape_in first plan) (table.rows.next + j))) ≡ true) →
                  (is_blank (page (place (shape_in first plan) (table.rows.next + suc m))) ≡ true) ⊎ (is_blank (page (place (shape_in first plan) (table.rows.next + suc m))) ≡ false) →
                  ((k : ℕ) × (0 < k) × (k ≤ suc m) × (is_blank (page (place (shape_in first plan) (table.rows.next + k))) ≡ false))
                  ⊎ ((j : ℕ) → 1 ≤ j → j ≤ suc m → is_blank (page (place (shape_in first plan) (table.rows.next + j))) ≡ true)
              more (inl found) last = inl (found.0, found.1, omega (arith, found.2), found.3)
              more (inr all) (inr not) = inl (suc m, omega arith, omega arith, not)
              more (inr all) (inl yes_last) = inr (λ j low high. elim (cases_lt m j) [
                | inl above ↦ let same : suc m ≡ j = omega (arith, above, high) in subst (λ (n : ℕ). is_blank (page (place (shape_in first plan) (table.rows.next + n))) ≡ true) same yes_last
                | inr below ↦ all j low below
              ])

      by_dirty : (d : Bool) → table.rows.dirty ≡ d → (k : ℕ) → 0 < k → table.rows.next + k < model.oldest table.rows + plan.data_blocks * plan.geometry.block → (table.rows.dirty ≡ true → plan.geometry.block < k) →
          is_blank (page (place (shape_in first plan) (table.rows.next + k))) ≡ true
      by_dirty false e k some few clear =
          ap is_blank (on.ahead e k (omega arith) (let len = state-count plan table in let n = facts.not_negative in omega (arith, few, len, n))) ∙ blank-is plan.geometry.page
      by_dirty true e k some few clear =
          let far : plan.geometry.block < k = clear e in
          let full = (facts.dirty_at_end e).1 in
          let last = last-block plan.data_blocks plan.geometry.block in
          let n = facts.not_negative in
          absurd (omega (arith, few, far, full, last, n))
