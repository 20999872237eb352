-- A data page comes that no index page lists.
use Rattle.std.proofs.Common.{◌≡◌, ℕ, suc, ◌+◌, ◌*◌, ◌%◌, ◌<◌, ◌≤◌, inl, inr, Bool, true, false, max, Option, Some, None, List, [], ◌∷◌, ◌++◌, length, refl, sym, ◌∙◌, ap, subst, arith}
use Rattle.std.specs.Prelude.{cond, nat_lt, IfSome, option_map, unwrap_or, slice_set}
use Rattle.std.proofs.lemmas.Option.{none-some}
use Rattle.fl_base.proofs.Tests.{not_zero}
use Rattle.fl_find.specs.Index.{IndexOf}
use Rattle.fl_find.specs.Pages.{first_key, rows_on, rows_where}
use Rattle.fl_find.specs.declared.index.KeyIndex.{KeyIndex}
use Rattle.fl_mark.specs.Mark.{state_of_page}
use Rattle.fl_mark.specs.declared.page_state.PageState.{PageState}
use Rattle.fl_model.specs.Layout.{Full}
use Rattle.fl_model.specs.Record.{RowLayout}
use Rattle.fl_model.specs.Row.{Row}
use Rattle.fl_model.specs.Table.{first_of}
use Rattle.fl_model.specs.BlobEnds.{blobs_end}
use Rattle.fl_page.specs.Page.{IsGoodPage, bad_page, has_form}
use Rattle.fl_page.proofs.Views.{good-form, form-good}
use Rattle.fl_ring.specs.Newest.{commits}
use Rattle.fl_ring.proofs.PageStates.{committed-is}
use Rattle.fl_spline.specs.Points.{IsFurther}
use Rattle.fl_parts.specs.ByEntries.{Come, entry, has_rows, is_committed, is_read, by_rows, by_page, facts_on, no_rows, points_of, read_fault, mount_fault, page_check}
use Rattle.fl_parts.specs.Knowing.{left, KnowsBy, KnowsWith, IsWithin, IsUnlisted, counted_to, is_waiting}
use Rattle.fl_parts.specs.Reading.{last_in, keys_fault, IsRead, IsRefused}
use Rattle.fl_parts.specs.declared.mount_fault.MountFault.{MountFault}
use Rattle.fl_parts.specs.declared.mount_fault.MountFault.TheVariants.{BadPage}
use Rattle.fl_parts.specs.declared.known.Known.{Known}
use Rattle.fl_parts.specs.declared.known.Listed.{Listed}
use Rattle.fl_parts.proofs.PageChecks.{uncommitted-rows}
use Rattle.fl_parts.proofs.KeyRows.{page-length}
use Rattle.fl_parts.proofs.PointsKnown.{further-known}
use Rattle.fl_parts.proofs.WaitingPageComes.{knows-all, points-all}
use Rattle.fl_parts.proofs.ListedPageComes.{saw-void, newest-wider}
use Rattle.fl_parts.proofs.Steps.{read-check, read-refused, read-facts, read-all}

-- ---- a page by its bytes

-- a page that may stand there is found good, and one that may not isn't
pub read-fine : (layout : RowLayout) (number : ℕ) (page : List ℕ) (last : Option ℕ) → IsRead layout number page last → read_fault layout number page (is_committed page) last ≡ None
read-fine layout number page last h = by_state (is_committed page) refl
  where
    by_state : (b : Bool) → is_committed page ≡ b → read_fault layout number page (is_committed page) last ≡ None
    by_state true e = rw (e, good-form layout number page (h.good (committed-is (state_of_page page) e))) h.keys
    by_state false e = rw (e) refl

pub read-faulty : (layout : RowLayout) (number : ℕ) (page : List ℕ) (last : Option ℕ) (fault : MountFault) → IsRefused layout number page last fault → read_fault layout number page (is_committed page) last ≡ Some fault
read-faulty layout number page last fault h =
    let is : is_committed page ≡ true = ap commits h.committed in
    elim h.why [
      | inl bad ↦ by_form (has_form layout number page) refl is bad.0 bad.1
      | inr keys ↦ rw (is, good-form layout number page keys.0) (ap (λ (s : PageState). keys_fault number last (rows_where s layout page)) h.committed ∙ keys.1)
    ]
  where
    by_form : (b : Bool) → has_form layout number page ≡ b → is_committed page ≡ true → (IsGoodPage layout number page → ⊥) → fault ≡ BadPage (bad_page number page) → read_fault layout number page (is_committed page) last ≡ Some fault
    by_form true e is bad told = absurd (bad (form-good layout number page e))
    by_form false e is bad told = rw (is, e) (ap (λ (f : MountFault). Some f) (sym told))

-- a page with a first key has rows and is committed
pub first-some : (rows : List Row) (key : ℕ) → first_key rows ≡ Some key → 0 < length rows
first-some [] key e = absurd (none-some key e)
first-some (row ∷ rows) key e = omega arith

pub first-none : (rows : List Row) → first_key rows ≡ None → rows ≡ []
first-none [] e = refl
first-none (row ∷ rows) e = absurd (some e)
  where
    some : ◌≡◌ {A = Option ℕ} (Some row.key) None → ⊥
    some e = cc

pub last-some : (rows : List Row) (before : Option ℕ) (key other : ℕ) → first_key rows ≡ Some key → Some (unwrap_or (last_in before rows) other) ≡ last_in before rows
last-some [] before key other e = absurd (none-some key e)
last-some (row ∷ rows) before key other e = some row.key rows
  where
    some : (k : ℕ) (rows : List Row) → Some (unwrap_or (last_in (Some k) rows) other) ≡ last_in (Some k) rows
    some k [] = refl
    some k (row ∷ rows) = some row.key rows

module _ {KNOTS SLOTS : ℕ} (error : ℕ) (t : Come) (k n : ℕ) (known : Known) (counts : List ℕ) (index : KeyIndex KNOTS SLOTS) (h : KnowsWith error t k n known counts index)
    (next : left t k n ≡ first_of (page_check t n) (left t k (suc n))) (layout : RowLayout) (number : ℕ) (bytes : List ℕ) (at : number ≡ t.oldest + n) (un : IsUnlisted t layout number bytes) where
  unlisted : entry t (t.oldest + n) ≡ None
  unlisted = ap (entry t) (sym at) ∙ un.none

  bytes-here : t.rows (t.oldest + n) ≡ bytes
  bytes-here = ap t.rows (sym at) ∙ un.bytes_are

  rows-here : rows_on t.layout (t.rows (t.oldest + n)) ≡ rows_on layout bytes
  rows-here = ap (λ (l : RowLayout). rows_on l (t.rows (t.oldest + n))) un.layout_is ∙ ap (rows_on layout) bytes-here

  pub unlisted-rows : has_rows t (t.oldest + n) ≡ is_committed bytes
  unlisted-rows = ap (λ (o : Option Full). unwrap_or (option_map (λ (full : Full). nat_lt 0 full.count) o) (is_committed (t.rows (t.oldest + n)))) unlisted ∙ ap is_committed bytes-here

  check-here : (none : known.newest ≡ None) → page_check t n ≡ read_fault layout number bytes (is_committed bytes) known.last
  check-here none =
      read-check t k n next known counts (knows-all error t k n known counts index h none) unlisted
      ∙ (ap (λ (l : RowLayout). read_fault l (t.oldest + n) (t.rows (t.oldest + n)) (is_committed (t.rows (t.oldest + n))) known.last) un.layout_is
      ∙ (ap (λ (b : List ℕ). read_fault layout (t.oldest + n) b (is_committed b) known.last) bytes-here
      ∙ ap (λ p. read_fault layout p bytes (is_committed bytes) known.last) (sym at)))

  -- it is refused
  pub saw-refused : (e : MountFault) → known.newest ≡ None → IsRefused layout number bytes known.last e → mount_fault t ≡ Some e
  saw-refused e none refused = read-refused t k n next known counts (knows-all error t k n known counts index h none) unlisted e (check-here none ∙ read-faulty layout number bytes known.last e refused)

  -- it has rows, and is counted
  pub saw-rows : (now : Known) (new : KeyIndex KNOTS SLOTS) (key rows last end : ℕ) → known.newest ≡ None → IsRead layout number bytes known.last → n < length counts → first_key (rows_on layout bytes) ≡ Some key → rows ≡ length (rows_on layout bytes) →
      last ≡ unwrap_or (last_in known.last (rows_on layout bytes)) key → end ≡ blobs_end 0 (rows_on layout bytes) → now ≡ record known { rows = known.rows + rows; last = Some last; blob_end = max known.blob_end end } →
      ((error : ℕ) (points : List (ℕ × ℕ)) → IndexOf error points index → IsFurther points (key, number) → IndexOf error (points ++ (key, number) ∷ []) new) →
      KnowsWith error t k (suc n) now (slice_set counts (number % length counts) rows) new
  saw-rows now new key rows last end none good lt first many last_is end_is is add =
      let fine : page_check t n ≡ None = check-here none ∙ read-fine layout number bytes known.last good in
      let before = knows-all error t k n known counts index h none in
      let some = first-some (rows_on layout bytes) key first in
      let facts : facts_on t (t.oldest + n) ≡ by_rows (rows_on layout bytes) = read-facts t k n next known counts before unlisted ∙ ap by_rows rows-here in
      let count : rows ≡ (by_page t (t.oldest + n)).count = many ∙ sym (ap length rows-here) in
      let all = read-all t k n next known counts before unlisted rows now fine count (omega (arith, many, some)) lt (ap (λ (x : Known). x.rows) is) (ap (λ (x : Known). x.voids) is)
      (ap (λ (x : Known). x.last) is ∙ (ap (λ (l : ℕ). Some l) last_is ∙ (last-some (rows_on layout bytes) known.last key key first ∙ ap (last_in known.last) (sym rows-here))))
      (ap (λ (x : Known). x.blob_end) is ∙ ap (max known.blob_end) (end_is ∙ sym (ap (blobs_end 0) rows-here))) (ap (λ (x : Known). x.fault) is) in
      let newest : now.newest ≡ None = ap (λ (x : Known). x.newest) is ∙ none in
      let first_is : (facts_on t (t.oldest + n)).first_key ≡ key = ap (λ (f : Full). f.first_key) facts ∙ ap (λ (o : Option ℕ). unwrap_or o 0) first in
      let count_is : (facts_on t (t.oldest + n)).count ≡ length (rows_on layout bytes) = ap (λ (f : Full). f.count) facts in
      let further = further-known t n all.counted.fine (omega (arith, count_is, some)) in
      let points = add error (points_of (facts_on t) t.oldest n) (points-all error t k n known counts index h none)
      (subst (λ p. IsFurther (points_of (facts_on t) t.oldest n) (key, p)) (sym at) (subst (λ p. IsFurther (points_of (facts_on t) t.oldest n) (p, t.oldest + n)) first_is further)) in
      let joined : points_of (facts_on t) t.oldest (suc n) ≡ points_of (facts_on t) t.oldest n ++ (key, number) ∷ [] =
      ap (λ b. points_of (facts_on t) t.oldest n ++ cond b [] (((facts_on t (t.oldest + n)).first_key, t.oldest + n) ∷ [])) (not_zero (facts_on t (t.oldest + n)).count (omega (arith, count_is, some)))
      ∙ (ap (λ p. points_of (facts_on t) t.oldest n ++ (p, t.oldest + n) ∷ []) first_is ∙ ap (λ p. points_of (facts_on t) t.oldest n ++ (key, p) ∷ []) (sym at)) in
      subst (λ p. KnowsWith error t k (suc n) now (slice_set counts (p % length counts) rows) new) (sym at)
      (record {
        knows = subst (λ (o : Option Listed). KnowsBy o t k (suc n) now (slice_set counts ((t.oldest + n) % length counts) rows)) (sym newest) all;
        points = subst (λ (o : Option Listed). IndexOf error (points_of (facts_on t) t.oldest (counted_to t (suc n) o)) new) (sym newest) (subst (λ (l : List (ℕ × ℕ)). IndexOf error l new) (sym joined) points);
      })

  -- it has none; then nothing of what waits changes
  pub saw-none : (now : Known) → is_committed bytes ≡ false → n < length counts → now ≡ record known { voids = known.voids + 1; blob_end = max known.blob_end 0 } → KnowsWith error t k (suc n) now (slice_set counts (number % length counts) 0) index
  saw-none now bare lt is =
      let rows : rows_on t.layout (t.rows (t.oldest + n)) ≡ [] = rows-here ∙ uncommitted-rows layout bytes bare in
      let void : has_rows t (t.oldest + n) ≡ false = unlisted-rows ∙ bare in
      let end : (facts_on t (t.oldest + n)).blob_end ≡ 0 = by_read (is_read t (t.oldest + n)) rows in
      subst (λ p. KnowsWith error t k (suc n) now (slice_set counts (p % length counts) 0) index) (sym at)
      (saw-void error t k n known now counts index h next void lt (is ∙ ap (λ e. record known { voids = known.voids + 1; blob_end = max known.blob_end e }) (sym end)))
    where
      by_read : (b : Bool) → rows_on t.layout (t.rows (t.oldest + n)) ≡ [] → (cond b (by_page t (t.oldest + n)) (unwrap_or (entry t (t.oldest + n)) no_rows)).blob_end ≡ 0
      by_read true rows = ap (blobs_end 0) rows
      by_read false rows = ap (λ (o : Option Full). (unwrap_or o no_rows).blob_end) unlisted

-- a page that may stand there and has no rows isn't committed
pub read-bare : (layout : RowLayout) (number : ℕ) (page : List ℕ) (last : Option ℕ) → IsRead layout number page last → rows_on layout page ≡ [] → is_committed page ≡ false
read-bare layout number page last h none = by_state (is_committed page) refl
  where
    by_state : (b : Bool) → is_committed page ≡ b → b ≡ false
    by_state true e =
        let is = committed-is (state_of_page page) e in
        absurd (omega (arith, page-length layout page is, ap length none, (h.good is).some))
    by_state false e = refl

pub some-committed : (layout : RowLayout) (page : List ℕ) (key : ℕ) → first_key (rows_on layout page) ≡ Some key → is_committed page ≡ true
some-committed layout page key e = by_state (is_committed page) refl
  where
    by_state : (b : Bool) → is_committed page ≡ b → b ≡ true
    by_state true k = refl
    by_state false k = absurd (omega (arith, first-some (rows_on layout page) key e, ap length (uncommitted-rows layout page k)))

-- one page more
pub within-rows : (oldest n : ℕ) (known now : Known) (rows last end : ℕ) → rows < 65536 → now ≡ record known { rows = known.rows + rows; last = Some last; blob_end = end } → IsWithin oldest n known → IsWithin oldest (suc n) now
within-rows oldest n known now rows last end few is h = record {
  rows = omega (arith, h.rows, few, ap (λ (x : Known). x.rows) is, ap (λ (x : Known). is_waiting x.newest * 65536) is);
  voids = omega (arith, h.voids, ap (λ (x : Known). x.voids) is);
  newest = subst (λ (o : Option Listed). IfSome o (λ listed. (oldest ≤ listed.number) × (listed.number < oldest + suc n))) (sym (ap (λ (x : Known). x.newest) is)) (newest-wider oldest n known.newest h.newest);
}

pub within-more : (oldest n : ℕ) (known : Known) → IsWithin oldest n known → IsWithin oldest (suc n) known
within-more oldest n known h = record { rows = omega (arith, h.rows); voids = omega (arith, h.voids); newest = newest-wider oldest n known.newest h.newest }

-- ---- a page of which an entry tells rows

-- it has to be committed, and is read as any other then
pub told-read : (layout : RowLayout) (number : ℕ) (page : List ℕ) (last : Option ℕ) → is_committed page ≡ true → read_fault layout number page true last ≡ read_fault layout number page (is_committed page) last
told-read layout number page last is = ap (λ b. read_fault layout number page b last) (sym is)

pub told-bare : (layout : RowLayout) (number : ℕ) (page : List ℕ) (last : Option ℕ) → is_committed page ≡ false → read_fault layout number page true last ≡ Some (BadPage (bad_page number page))
told-bare layout number page last bare = rw (bare) refl

-- a read page that is good and committed has rows
pub read-some : (layout : RowLayout) (number : ℕ) (page : List ℕ) (last : Option ℕ) → read_fault layout number page true last ≡ None → (key : ℕ) × (first_key (rows_on layout page) ≡ Some key)
read-some layout number page last h = by_state (is_committed page) refl
  where
    no_fault : {P : Type 0} (fault : MountFault) → ◌≡◌ {A = Option MountFault} (Some fault) None → P
    no_fault fault e = absurd (cc e)

    of_rows : (rows : List Row) → 0 < length rows → (key : ℕ) × (first_key rows ≡ Some key)
    of_rows [] some = absurd (omega (arith, some))
    of_rows (row ∷ rows) some = (row.key, refl)

    by_state : (b : Bool) → is_committed page ≡ b → (key : ℕ) × (first_key (rows_on layout page) ≡ Some key)
    by_state false e = no_fault (BadPage (bad_page number page)) (sym (told-bare layout number page last e) ∙ h)
    by_state true e = by_form (has_form layout number page) refl
      where
        by_form : (b : Bool) → has_form layout number page ≡ b → (key : ℕ) × (first_key (rows_on layout page) ≡ Some key)
        by_form true k = of_rows (rows_on layout page) (omega (arith, page-length layout page (committed-is (state_of_page page) e), (form-good layout number page k).some))
        by_form false k = no_fault (BadPage (bad_page number page)) (sym (rw (e, k) refl) ∙ h)
