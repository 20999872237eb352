-- Where a flash stands for a table, the kept index pages that a mount comes to are fit, and their entries tell of its data pages.
use Rattle.std.proofs.Common.{◌≡◌, inl, inr, ℕ, zero, suc, ◌+◌, ◌-◌, ◌<◌, ◌≤◌, max, Bool, true, false, cond, ◌&&◌, ◌||◌, nat_lt, IsTrue, Option, Some, None, IfSome, List, [], ◌∷◌, length, refl, sym, ◌∙◌, ap, subst, arith, ◌⊎◌, nat_le}
use Rattle.std.specs.Prelude.{option_map, unwrap_or}
use Rattle.std.specs.List.{list_any, slice_get}
use Rattle.std.specs.Option.{is_none}
use Rattle.std.proofs.lemmas.Bool.{cases_lt, eq-eqb, le-leb, leb-true, lt-ltb, ltb-true, false≢true, true≢false, and_parts}
use Rattle.std.proofs.lemmas.Option.{same_Some}
use Rattle.fl_flash.specs.Flash.{FlashState, page_at}
use Rattle.fl_index.specs.declared.index.BitmapIndex.{BitmapIndex}
use Rattle.fl_index.specs.declared.page.EntryForm.{EntryForm}
use Rattle.fl_index.specs.declared.page.Full as code
use Rattle.fl_index.specs.Memory.{next_in, oldest_in}
use Rattle.fl_index.specs.Page.{page_number, page_first, page_entries, found_at, full_view, fields_of}
use Rattle.fl_index.specs.Standing.{StandsWith, bytes_in}
use Rattle.fl_index.proofs.WaitingEntries.{plan_form}
use Rattle.fl_index.proofs.Lists.{firsts-length}
use Rattle.fl_index.proofs.MountPages.{IsListed, is-listed, void-none}
use Rattle.fl_index.proofs.SealEnds.{planned-bits, planned-form, planned-large, planned-page, planned-ring}
use Rattle.fl_index.proofs.LookupsOfTable.{told-found}
use Rattle.fl_index.proofs.State.{HaveSize}
use Rattle.fl_model.specs.Agrees.{TellsAt, is_told, rows_at}
use Rattle.fl_model.specs.Index.{full_of}
use Rattle.fl_model.specs.Limits.{is_listed}
use Rattle.fl_model.specs.Mount.{index_end}
use Rattle.fl_model.specs.MountLimit.{kept_in}
use Rattle.fl_model.specs.Record.{Plan, RowLayout, entries_per_page}
use Rattle.fl_model.specs.Ring as model
use Rattle.fl_model.specs.Table.{Table, firsts}
use Rattle.fl_model.proofs.FullPages.{full-below, full-page}
use Rattle.fl_model.proofs.Lists.{slice_get-some, slice_get-short}
use Rattle.fl_ring.specs.Newest.{commits}
use Rattle.fl_ring.specs.Place.{next_of, oldest_of}
use Rattle.fl_ring.specs.Ring as rings
use Rattle.fl_ring.specs.Ring.{Shape}
use Rattle.fl_ring.specs.declared.ring.Ring.{Ring}
use Rattle.fl_parts.specs.ByEntries.{Come, index_page, is_committed, is_fit, end_before, entry, lists, listing_among, told, told_at, no_rows}
use Rattle.fl_parts.specs.Coming.{IsComeTo}
use Rattle.fl_parts.proofs.StandingMount.{IsIndexOf}

-- the committed ones of the first m index pages end by a number
ends-by : (c : Come) (most m : ℕ) → ((j : ℕ) → j < m → is_committed (index_page c j) ≡ true → page_first (index_page c j) + page_entries (index_page c j) ≤ most) → end_before c m ≤ most
ends-by c most zero h = omega arith
ends-by c most (suc m) h = by_test (ends-by c most m (λ j lt is. h j (omega (arith, lt)) is)) (is_committed (index_page c m)) refl
  where
    by_test : end_before c m ≤ most → (b : Bool) → is_committed (index_page c m) ≡ b → cond b (max (end_before c m) (page_first (index_page c m) + page_entries (index_page c m))) (end_before c m) ≤ most
    by_test before true e = omega (arith, before, h m (omega arith) e)
    by_test before false e = before

-- one of these passes a test
any-at : (p : ℕ → Bool) (xs : List ℕ) → list_any p xs ≡ true → (k : ℕ) × (x : ℕ) × (slice_get xs k ≡ Some x) × (p x ≡ true)
any-at p [] e = absurd (false≢true e)
any-at p (y ∷ ys) e = by_test (p y) refl e (λ h. any-at p ys h)
  where
    by_test : (b : Bool) → p y ≡ b → (b || list_any p ys) ≡ true → (list_any p ys ≡ true → (k : ℕ) × (x : ℕ) × (slice_get ys k ≡ Some x) × (p x ≡ true)) → (k : ℕ) × (x : ℕ) × (slice_get (y ∷ ys) k ≡ Some x) × (p x ≡ true)
    by_test true t h rest = (0, y, refl, t)
    by_test false t h rest = let at = rest h in (suc at.0, at.1, at.2, at.3)

-- a page that lists a data page is found
listed-some : (t : Come) (number m k : ℕ) → k < m → lists t number k ≡ true → is_none (option_map (told_at t number) (listing_among t number m)) ≡ false
listed-some t number zero k lt here = absurd (omega (arith, lt))
listed-some t number (suc m) k lt here = by_test (lists t number m) refl (λ less. listed-some t number m k less here)
  where
    less : lists t number m ≡ false → (k < m) ⊎ (m ≤ k) → k < m
    less e (inl h) = h
    less e (inr h) = let same : k ≡ m = omega (arith, h, lt) in absurd (true≢false (sym here ∙ (ap (lists t number) same ∙ e)))

    by_test : (b : Bool) → lists t number m ≡ b → (k < m → is_none (option_map (told_at t number) (listing_among t number m)) ≡ false) → is_none (option_map (told_at t number) (cond b (Some m) (listing_among t number m))) ≡ false
    by_test true e go = refl
    by_test false e go = go (less e (cases_lt k m))

all_true : (a b c d : Bool) → a ≡ true → b ≡ true → c ≡ true → d ≡ true → (((a && b) && c) && d) ≡ true
all_true a b c d x y z w = rw (x, y, z, w) refl

module _ (R : BitmapIndex → Plan → Table → model.Ring → Type 0) (c : Come) (layout : RowLayout) (most : ℕ) (index : BitmapIndex) (ring : Ring) (f : FlashState) (first : ℕ) (plan : Plan) (table : Table)
    (comes : IsComeTo c layout most index ring f) (stands : StandsWith R index f first plan table) (sizes : HaveSize first plan (page_at f)) (old : c.oldest ≡ model.oldest table.rows)
    (fit : (n rows : ℕ) → slice_get table.rows.counts n ≡ Some rows → full_view (fields_of (full_of (rows_at table n rows))) ≡ full_of (rows_at table n rows)) where
  large : 64 ≤ plan.geometry.page
  large = planned-large index first plan stands.planned

  few : plan.geometry.page ≤ 4096
  few = omega (arith, ap (λ g. g.page) stands.planned.geometry, index.served.page_greatest)

  old-is : oldest_in index ≡ model.oldest stands.ring
  old-is = ap (λ (o : Option Ring). unwrap_or (option_map (λ r. oldest_of r) o) 0) stands.memory_is ∙ stands.oldest_is

  next-is : next_in index ≡ stands.ring.next
  next-is = ap (λ (o : Option Ring). unwrap_or (option_map (λ r. next_of r) o) 0) stands.memory_is ∙ stands.next

  per : c.per_page ≡ entries_per_page plan
  per = comes.per ∙ planned-page index first plan stands.planned

  form-is : c.form ≡ plan_form plan
  form-is = comes.form ∙ planned-form index first plan stands.planned

  full-is : plan.full_index ≡ true
  full-is = sym (ap (λ (form : EntryForm). form.full) form-is) ∙ comes.full_is

  bytes-is : (k : ℕ) → index_page c k ≡ bytes_in (page_at f) first plan (model.oldest stands.ring + k)
  bytes-is k =
      comes.index (c.index_oldest + k)
      ∙ (ap (λ (r : Shape). page_at f (rings.place r (c.index_oldest + k))) (planned-ring index first plan stands.planned)
      ∙ ap (bytes_in (page_at f) first plan) (let e : c.index_oldest + k ≡ model.oldest stands.ring + k = omega (arith, comes.index_oldest, old-is) in e))

  -- a committed one
  record IsFilled (k : ℕ) : Type 0 where
    count : ℕ
    here : slice_get stands.ring.counts k ≡ Some count
    some : 0 < count
    listed : IsListed (page_at f) first plan table stands.ring stands.facts stands.pages sizes large few k

  filled : (k : ℕ) → k < c.index_pages → is_committed (index_page c k) ≡ true → IsFilled k
  filled k lt is =
      let n = slice_get-some stands.ring.counts k (omega (arith, lt, comes.index_pages, old-is, next-is, stands.facts.is_ring.not_negative)) in
      elim (cases_lt 0 n.0) [
        | inl some ↦ record { count = n.0; here = n.1; some = some; listed = is-listed (page_at f) first plan table stands.ring stands.facts stands.pages sizes large few k n.0 n.1 some }
        | inr none ↦
            let z : n.0 ≡ 0 = omega (arith, none) in
            absurd (true≢false (sym is ∙ (ap is_committed (bytes-is k) ∙ ap commits (void-none (page_at f) first plan table stands.ring stands.facts stands.pages sizes large few k (n.1 ∙ ap (λ (m : ℕ). Some m) z)))))
      ]

  first-is : (k : ℕ) (l : IsFilled k) → page_first (index_page c k) ≡ l.listed.first_page
  first-is k l = ap page_first (bytes-is k) ∙ l.listed.is.first_is

  entries-are : (k : ℕ) (l : IsFilled k) → page_entries (index_page c k) ≡ entries_per_page plan
  entries-are k l = ap page_entries (bytes-is k) ∙ l.listed.is.good.full

  -- it lists no data page that one before it lists
  behind : (j k : ℕ) (a : IsFilled j) (b : IsFilled k) → j < k → page_first (index_page c j) + page_entries (index_page c j) ≤ page_first (index_page c k)
  behind j k a b lt =
      let up = full-below stands.ring.counts j k a.count lt a.here a.some in
      let apart = stands.facts.firsts _ _ a.listed.first_page b.listed.first_page (omega (arith, up)) a.listed.listed b.listed.listed in
      omega (arith, apart, first-is j a, first-is k b, entries-are j a)

  pub index-of : (k : ℕ) → k < c.index_pages → is_committed (index_page c k) ≡ true → IsIndexOf c k table
  index-of k lt is =
      let l = filled k lt is in
      record {
        fit = join _ _ _
            (eq-eqb _ _ (ap page_number (bytes-is k) ∙ (l.listed.is.good.number_is ∙ (let e : model.oldest stands.ring + k ≡ c.index_oldest + k = omega (arith, comes.index_oldest, old-is) in e))))
            (eq-eqb _ _ (entries-are k l ∙ sym per))
            (le-leb _ _ (ends-by c (page_first (index_page c k)) k (λ j less done. behind j k (filled j (omega (arith, less, lt)) done) l less)));
        tells = λ n rows low high e. tells l n rows low high e;
      }
    where
      join : (a b c : Bool) → a ≡ true → b ≡ true → c ≡ true → ((a && b) && c) ≡ true
      join a b c x y z = rw (x, y, z) refl

      tells : (l : IsFilled k) (n rows : ℕ) → page_first (index_page c k) ≤ c.oldest + n → c.oldest + n < page_first (index_page c k) + c.per_page → slice_get table.rows.counts n ≡ Some rows →
          told (found_at c.form (index_page c k) (c.oldest + n - page_first (index_page c k))) ≡ full_of (rows_at table n rows)
      tells l n rows low high e =
          let j = c.oldest + n - page_first (index_page c k) in
          let page = bytes_in (page_at f) first plan (model.oldest stands.ring + k) in
          let must : IsTrue (is_told plan rows) = ap (λ b. b || nat_lt 0 rows) full-is in
          let there = subst (λ (o : Option ℕ). IfSome o (λ rows. IsTrue (is_told plan rows) → TellsAt plan (rows_at table n rows) (slice_get l.listed.entries j))) e
          (l.listed.tell j n (omega (arith, low, high, per, l.listed.many)) (omega (arith, low, first-is k l, old))) must in
          let found = told-found plan (rows_at table n rows) l.listed.entries j page j (l.listed.is.at j) there (planned-bits index first plan stands.planned) in
          ap (λ (form : EntryForm). told (found_at form (index_page c k) j)) form-is
          ∙ (ap (λ (bytes : List ℕ). told (found_at (plan_form plan) bytes j)) (bytes-is k)
          ∙ (ap (λ (o : Option code.Full). unwrap_or (option_map full_view o) no_rows) found.full
          ∙ (ap (λ b. unwrap_or (option_map full_view (cond b (Some (fields_of (full_of (rows_at table n rows)))) None)) no_rows) full-is ∙ fit n rows e)))

  -- they end where the table's index does, or before
  pub ends-within : end_before c c.index_pages ≤ index_end plan table
  ends-within = ends-by c (index_end plan table) c.index_pages (λ j lt is. let l = filled j lt is in omega (arith, first-is j l, entries-are j l, l.listed.before_end))

  -- a data page that the table's index lists has an entry
  pub listed-told : (number : ℕ) → is_listed plan table number ≡ true → is_none (entry c number) ≡ false
  listed-told number is =
      let at = any-at (λ first. nat_le first number && nat_lt number (first + entries_per_page plan)) (firsts table) is in
      let k = full-page stands.ring.counts at.0 (omega (arith, slice_get-short (firsts table) at.0 at.1 at.2, firsts-length table.index_pages, stands.facts.index_each)) in
      let l = is-listed (page_at f) first plan table stands.ring stands.facts stands.pages sizes large few k.i k.c k.here k.some in
      let same = same_Some l.first_page at.1 (sym l.listed ∙ (ap (slice_get (firsts table)) k.before ∙ at.2)) in
      let tests = and_parts _ _ at.3 in
      let below : k.i < c.index_pages = omega (arith, slice_get-short stands.ring.counts k.i k.c k.here, comes.index_pages, old-is, next-is, stands.facts.is_ring.not_negative) in
      let done : is_committed (index_page c k.i) ≡ true = ap is_committed (bytes-is k.i) ∙ ap commits l.is.committed_is in
      let begins : page_first (index_page c k.i) ≡ at.1 = ap page_first (bytes-is k.i) ∙ (l.is.first_is ∙ same) in
      listed-some c number c.index_pages k.i below
      (all_true (is_committed (index_page c k.i)) (is_fit c k.i) _ _ done (index-of k.i below done).fit (le-leb _ _ (omega (arith, begins, leb-true at.1 number tests.0))) (lt-ltb _ _ (omega (arith, begins, per, ltb-true number (at.1 + entries_per_page plan) tests.1))))

  -- no more index pages come than the table keeps
  pub few-kept : c.index_pages ≤ kept_in table.index
  few-kept = let many : kept_in table.index ≡ length stands.ring.counts = ap kept_in stands.facts.ring_is in omega (arith, many, comes.index_pages, old-is, next-is, stands.facts.is_ring.not_negative)
