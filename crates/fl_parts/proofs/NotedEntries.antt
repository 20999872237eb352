-- The entries that a mount notes as it reads the pages.
use Rattle.std.proofs.Common.{◌≡◌, ℕ, ◌+◌, ◌-◌, ◌/◌, ◌%◌, ◌^◌, ◌<◌, ◌≤◌, ◌==◌, Bool, true, false, IsTrue, min, max, List, [], length, Option, Some, None, IfSome, refl, sym, ◌∙◌, ap, subst, arith, ◌⊎◌, inl, inr}
use Rattle.std.proofs.lemmas.Bool.{cases_lt, eqb-true, false≢true}
use Rattle.std.proofs.Math.Nat.{mod-lt, mod-eq_of_lt}
use Rattle.std.proofs.lemmas.Option.{none-some}
use Rattle.fl_index.specs.declared.index.BitmapIndex.{BitmapIndex}
use Rattle.fl_index.specs.declared.page.Full.{Full}
use Rattle.fl_index.specs.Memory.{waiting_in, first_waiting, per_page}
use Rattle.fl_index.specs.Page.{full_view}
use Rattle.fl_index.specs.Standing.{Waits}
use Rattle.fl_model.specs.Layout.{IndexEntry, bitmap_of}
use Rattle.fl_model.specs.Record.{Plan, RowLayout}
use Rattle.fl_model.specs.Table.{Entry}
use Rattle.fl_bitmap.specs.Widths.{is_bits}
use Rattle.fl_index.proofs.Bytes.{number_of-low}
use Rattle.fl_index.proofs.WaitingEntries.{bitmap-small}
use Rattle.fl_mark.proofs.InModel.{model_state}
use Rattle.fl_mark.specs.Mark.{state_of_page}
use Rattle.fl_mark.specs.declared.page_state.PageState.{PageState}
use Rattle.fl_mark.specs.declared.page_state.PageState.TheVariants.{Committed}
use Rattle.fl_model.specs.Layout.{committed, data_body, is_void}
use Rattle.fl_model.specs.Row.{le, number_of}
use Rattle.fl_index.proofs.MountCalls.{same-entries}
use Rattle.fl_page.specs.Header.{page_bitmap}
use Rattle.fl_ring.proofs.Found.{committed_state}
use Rattle.fl_ring.proofs.Images.{committed_is}
use Rattle.fl_parts.specs.Bitmaps.{AreSamePlan, AreIdle, AreWaiting, EndAt, HaveRoom, AreNoted, first_to_wait}
use Rattle.fl_parts.proofs.PageRows.{entries-push}
use Rattle.fl_parts.specs.Coming.{WaitBetween}
use Rattle.fl_parts.specs.Reading.{WaitFor, WaitFrom, entries_on, entry_on, GatherUpTo, AreGathered, bitmap_on, full_on, bitmap_where}

-- at first none waits
pub gathers-none : (bitmaps : Option BitmapIndex) (low high number : ℕ) → number ≡ low → WaitFor bitmaps low high → AreGathered bitmaps number bitmaps
gathers-none None low high number e h = refl
gathers-none (Some index) low high number e h = (refl, omega (arith, h.0, h.1, e))

pub gather-first : (layout : RowLayout) (bitmaps : Option BitmapIndex) (low high number : ℕ) (page : ℕ → List ℕ) → number ≡ low → WaitFor bitmaps low high → GatherUpTo layout bitmaps page number bitmaps
gather-first layout None low high number page e h = refl
gather-first layout (Some index) low high number page e h = λ waits. subst (λ k. Waits index (first_waiting index) (entries_on layout page (first_waiting index) k)) (let z : 0 ≡ number - first_waiting index = omega (arith, h.1, e) in z) waits

-- there is room for the next
pub gather-room : (old now : Option BitmapIndex) (low high number : ℕ) → WaitFor old low high → number < high → AreSamePlan old now → AreGathered old number now → EndAt now number → HaveRoom now
gather-room None now low high number h lt same g end = λ index e. absurd (none-some index (sym g ∙ e))
gather-room (Some old) None low high number h lt same g end = absurd g
gather-room (Some old) (Some now) low high number h lt same g end = λ index e.
    let per = same-entries old now same in
    let room : waiting_in now < per_page now = omega (arith, g.0, g.1, h.3, lt, end now refl, per) in
    subst (λ (o : Option BitmapIndex). IfSome o (λ x. waiting_in x < per_page x)) e room

-- one page more
pub gathers-more : (old now later : Option BitmapIndex) (low high number bitmap : ℕ) (full : Full) → WaitFor old low high → AreGathered old number now → AreNoted now number bitmap full later → AreGathered old (number + 1) later
gathers-more None now later low high number bitmap full h g noted = subst (λ (o : Option BitmapIndex). AreNoted o number bitmap full later → later ≡ None) (sym g) (λ n. n) noted
gathers-more (Some old) None later low high number bitmap full h g noted = absurd g
gathers-more (Some old) (Some now) None low high number bitmap full h g noted = absurd noted
gathers-more (Some old) (Some now) (Some later) low high number bitmap full h g noted = by_order (cases_lt number (first_waiting old))
  where
    by_order : (number < first_waiting old) ⊎ (first_waiting old ≤ number) → (first_waiting later ≡ first_waiting old) × (waiting_in later ≡ number + 1 - first_waiting old)
    by_order (inl before) =
        let same = noted.1 (λ e. omega (arith, e, g.0, g.1, before)) in
        (ap first_waiting same ∙ g.0, ap waiting_in same ∙ omega (arith, g.1, before))
    by_order (inr from) =
        let n = noted.0 (omega (arith, g.0, g.1, from)) in
        (n.first ∙ g.0, omega (arith, n.one, g.1, from))

pub gather-more : (layout : RowLayout) (old now later : Option BitmapIndex) (low high number bitmap : ℕ) (full : Full) (page : ℕ → List ℕ) → WaitFor old low high → AreGathered old number now → AreNoted now number bitmap full later →
    bitmap ≡ bitmap_on (page number) → full ≡ full_on layout (page number) → GatherUpTo layout old page number now → GatherUpTo layout old page (number + 1) later
gather-more layout None now later low high number bitmap full page h g noted bitmap_is full_is k = subst (λ (o : Option BitmapIndex). AreNoted o number bitmap full later → later ≡ None) (sym g) (λ n. n) noted
gather-more layout (Some old) None later low high number bitmap full page h g noted bitmap_is full_is k = absurd g
gather-more layout (Some old) (Some now) None low high number bitmap full page h g noted bitmap_is full_is k = absurd noted
gather-more layout (Some old) (Some now) (Some later) low high number bitmap full page h g noted bitmap_is full_is k = λ waits. by_order (k waits) (cases_lt number (first_waiting old))
  where
    by_order : Waits now (first_waiting old) (entries_on layout page (first_waiting old) (number - first_waiting old)) →
        (number < first_waiting old) ⊎ (first_waiting old ≤ number) → Waits later (first_waiting old) (entries_on layout page (first_waiting old) (number + 1 - first_waiting old))
    by_order w (inl before) =
        let unchanged = noted.1 (λ e. omega (arith, e, g.0, g.1, before)) in
        subst (λ n. Waits later (first_waiting old) (entries_on layout page (first_waiting old) n)) (let z : number - first_waiting old ≡ number + 1 - first_waiting old = omega (arith, before) in z)
        (subst (λ (x : BitmapIndex). Waits x (first_waiting old) (entries_on layout page (first_waiting old) (number - first_waiting old))) (sym unchanged) w)
    by_order w (inr from) =
        let n = noted.0 (omega (arith, g.0, g.1, from)) in
        let at : first_waiting old + (number - first_waiting old) ≡ number = omega (arith, from) in
        subst (λ m. Waits later (first_waiting old) (entries_on layout page (first_waiting old) m)) (let z : number - first_waiting old + 1 ≡ number + 1 - first_waiting old = omega (arith, from) in z)
        (subst (λ (es : List IndexEntry). Waits later (first_waiting old) es) (sym (entries-push layout page (first_waiting old) (number - first_waiting old)))
        (n.waits (first_waiting old) (entries_on layout page (first_waiting old) (number - first_waiting old)) (entry_on layout (page (first_waiting old + (number - first_waiting old)))) w
        (ap (λ m. bitmap_on (page m)) at ∙ sym bitmap_is) (λ t. ap (λ m. full_view (full_on layout (page m))) at ∙ sym (ap full_view full_is))))

-- they end where the pages do
pub gathers-end : (old now : Option BitmapIndex) (low high : ℕ) → WaitFor old low high → AreGathered old high now → EndAt now high
gathers-end None now low high h g = λ index e. absurd (none-some index (sym g ∙ e))
gathers-end (Some old) None low high h g = absurd g
gathers-end (Some old) (Some now) low high h g = λ index e.
    let end : first_waiting now + waiting_in now ≡ high = omega (arith, g.0, g.1, h.2) in
    subst (λ (o : Option BitmapIndex). IfSome o (λ x. first_waiting x + waiting_in x ≡ high)) e end

-- the pages of a mount from the first that waits on
pub wait-for : (was now : Option BitmapIndex) (end low high first : ℕ) → first ≡ first_to_wait was end low high → end ≤ high → low ≤ high → AreSamePlan was now → AreIdle now → EndAt now first → WaitFor now low high
wait-for was None end low high first is below le same idle at = tt
wait-for None (Some now) end low high first is below le same idle at = absurd same
wait-for (Some was) (Some now) end low high first is below le same idle at =
    let per = same-entries was now same in
    let here = at now refl in
    (idle, omega (arith, is, here, idle, below, le), omega (arith, is, here, idle), omega (arith, is, here, idle, per))

pub gather-waits : (layout : RowLayout) (old now : BitmapIndex) (page : ℕ → List ℕ) (high first : ℕ) → waiting_in old ≡ 0 → first_waiting old + waiting_in old ≡ first → Waits old first [] →
    GatherUpTo layout (Some old) page high (Some now) → Waits now first (entries_on layout page first (high - first))
gather-waits layout old now page high first idle at waits h =
    let here : first_waiting old ≡ first = omega (arith, at, idle) in
    subst (λ k. Waits now k (entries_on layout page k (high - k))) here (h (subst (λ k. Waits old k []) (sym here) waits))

-- .. whose entries wait then
pub waits-from : (layout : RowLayout) (begun now : Option BitmapIndex) (page : ℕ → List ℕ) (high first : ℕ) → AreIdle begun → EndAt begun first → AreWaiting begun first [] → GatherUpTo layout begun page high now → WaitFrom layout page first high now
waits-from layout None None page high first idle at waits h = tt
waits-from layout None (Some now) page high first idle at waits h = absurd (cc h)
waits-from layout (Some begun) None page high first idle at waits h = absurd h
waits-from layout (Some begun) (Some now) page high first idle at waits h = gather-waits layout begun now page high first idle (at begun refl) waits h

-- .. and so many
pub wait-between : (begun now : Option BitmapIndex) (high first : ℕ) → AreIdle begun → EndAt begun first → AreGathered begun high now → WaitBetween first high now
wait-between None None high first idle at g = tt
wait-between None (Some now) high first idle at g = absurd (cc g)
wait-between (Some begun) None high first idle at g = absurd g
wait-between (Some begun) (Some now) high first idle at g =
    let here : first_waiting begun ≡ first = omega (arith, at begun refl, idle) in
    (omega (arith, g.0, here), omega (arith, g.1, here))

-- the first that waits is the same where the plan is
pub first-same : (was now : Option BitmapIndex) (end low high : ℕ) → AreSamePlan was now → first_to_wait now end low high ≡ first_to_wait was end low high
first-same None None end low high same = refl
first-same None (Some now) end low high same = absurd same
first-same (Some was) None end low high same = absurd same
first-same (Some was) (Some now) end low high same = ap (λ per. high - min (high - max end low) per) (same-entries was now same)

-- the bitmap in the header of a data page is that of its rows
bits_small : (bits b : ℕ) → IsTrue (is_bits bits) → b % 256 ^ (bits / 8) ≡ b → b % 256 ^ 8 ≡ b
bits_small bits b is small = by_width (bits == 8) refl
  where
    room : (w : ℕ) → bits / 8 ≡ w → 0 < 256 ^ w → 256 ^ w ≤ 256 ^ 8 → b % 256 ^ 8 ≡ b
    room w e some le =
        let lt : b < 256 ^ w = subst (λ n. n < 256 ^ w) (ap (λ n. b % 256 ^ n) (sym e) ∙ small) (mod-lt b some) in
        mod-eq_of_lt (omega (arith, lt, le))

    by_width : (t : Bool) → (bits == 8) ≡ t → b % 256 ^ 8 ≡ b
    by_width true e = let k : bits ≡ 8 = eqb-true bits 8 e in room 1 (ap (λ n. n / 8) k) (omega arith) (omega arith)
    by_width false e = by_next (bits == 16) refl
      where
        by_next : (t : Bool) → (bits == 16) ≡ t → b % 256 ^ 8 ≡ b
        by_next true k = let m : bits ≡ 16 = eqb-true bits 16 k in room 2 (ap (λ n. n / 8) m) (omega arith) (omega arith)
        by_next false k = by_last (bits == 64) refl
          where
            by_last : (t : Bool) → (bits == 64) ≡ t → b % 256 ^ 8 ≡ b
            by_last true m = let o : bits ≡ 64 = eqb-true bits 64 m in room 8 (ap (λ n. n / 8) o) (omega arith) (omega arith)
            by_last false m = absurd (false≢true (sym (rw (e, k, m) refl) ∙ is))

pub page-bitmap : (plan : Plan) (number : ℕ) (entries : List Entry) (page : List ℕ) → IsTrue (is_bits plan.bits) → page ≡ committed (data_body plan number entries) → bitmap_on page ≡ bitmap_of plan entries
page-bitmap plan number entries page is e =
    let body = data_body plan number entries in
    let state : state_of_page page ≡ Committed = ap state_of_page (e ∙ committed_is (data_body plan number entries)) ∙ committed_state (data_body plan number entries) in
    let bytes : page_bitmap page ≡ number_of (le 8 (bitmap_of plan entries)) = ap page_bitmap e ∙ refl in
    ap (λ (s : PageState). bitmap_where s (page_bitmap page)) state
    ∙ (bytes ∙ (number_of-low 8 (bitmap_of plan entries) ∙ bits_small plan.bits (bitmap_of plan entries) is (bitmap-small plan entries is)))

-- .. and a void page has none
pub void-bitmap : (page : List ℕ) → 8 ≤ length page → is_void page ≡ true → bitmap_on page ≡ 0
void-bitmap page long h = ap (λ (s : PageState). bitmap_where s (page_bitmap page)) ((model_state page long).void.1 h)
