-- One step more of a mount: a data page, or an index page.
use Rattle.std.proofs.Common.{◌≡◌, ℕ, suc, ◌+◌, ◌-◌, ◌%◌, ◌<◌, ◌≤◌, inl, inr, true, false, cond, ◌&&◌, ◌||◌, ◌==◌, max, Option, Some, None, List, length, set, refl, sym, ◌∙◌, ap, subst, arith}
use Rattle.std.specs.Prelude.{unwrap_or, not, slice_set}
use Rattle.std.specs.Option.{is_none}
use Rattle.std.proofs.lemmas.Bool.{cases_lt}
use Rattle.std.proofs.Math.Bool.{or-true}
use Rattle.fl_base.proofs.Tests.{not_zero}
use Rattle.fl_find.specs.Pages.{rows_on}
use Rattle.fl_index.specs.Page.{full_view}
use Rattle.fl_model.specs.Layout.{Full}
use Rattle.fl_model.specs.Table.{first_of}
use Rattle.fl_page.specs.declared.fault.BadPage.{BadPage as Refusal}
use Rattle.fl_parts.specs.ByEntries.{Come, entry, has_rows, are_void, is_read, by_page, facts_on, voids_of, end_of, known_after, read_fault, entry_fault, page_check, index_check, mount_fault, is_committed, no_rows}
use Rattle.fl_parts.specs.Knowing.{left, AreNoted, AreCounted, KnowsAll, KnowsAside}
use Rattle.fl_parts.specs.Reading.{last_in}
use Rattle.fl_parts.specs.declared.mount_fault.MountFault.{MountFault}
use Rattle.fl_parts.specs.declared.mount_fault.MountFault.TheVariants.{BadPage}
use Rattle.fl_parts.specs.declared.known.Known.{Known}
use Rattle.fl_parts.specs.declared.known.Listed.{Listed}
use Rattle.fl_parts.proofs.Aside.{fault_of, has-rows}
use Rattle.fl_parts.proofs.PageChecks.{is-void, unlisted-read, left-none}
use Rattle.fl_parts.proofs.NextPage.{void-run, end-split, noted-next, noted-other, noted-set}

-- ---- a page that is counted: its check found nothing, and these are its count of rows and its last key

next-counted : (t : Come) (n rows : ℕ) (known now : Known) (counts : List ℕ) → AreCounted t n known counts → page_check t n ≡ None → rows ≡ (facts_on t (t.oldest + n)).count → n < length counts →
    now.rows ≡ known.rows + rows → now.last ≡ known_after t (suc n) → AreCounted t (suc n) now (set counts ((t.oldest + n) % length counts) rows)
next-counted t n rows known now counts h fine is lt rows_is last_is = record {
  fine = λ i below. elim (cases_lt i n) [
    | inl less ↦ h.fine i less
    | inr ge ↦ subst (λ j. page_check t j ≡ None) (let e : n ≡ i = omega (arith, ge, below) in e) fine
  ];
  rows = omega (arith, rows_is, h.rows, is);
  last = last_is;
  noted = noted-next t 0 n rows counts lt is h.noted;
}

-- ---- a data page

module _ (t : Come) (k n : ℕ) (next : left t k n ≡ first_of (page_check t n) (left t k (suc n))) where
  -- without rows
  module _ (void : has_rows t (t.oldest + n) ≡ false) (counts : List ℕ) (lt : n < length counts) (known now : Known) (rows_is : now.rows ≡ known.rows) (voids_is : now.voids ≡ known.voids + 1) (last_is : now.last ≡ known.last)
      (end_is : now.blob_end ≡ max known.blob_end (facts_on t (t.oldest + n)).blob_end) (fault_is : now.fault ≡ known.fault) where
    pub void-all : KnowsAll t k n known counts → KnowsAll t k (suc n) now (slice_set counts ((t.oldest + n) % length counts) 0)
    void-all h =
        let v = is-void t n void in
        record {
          counted = next-counted t n 0 known now counts h.counted v.check (sym v.count) lt (omega (arith, rows_is)) (last_is ∙ (h.counted.last ∙ sym v.last));
          voids = voids_is ∙ (omega (arith, h.voids) ∙ sym (ap (λ c. voids_of (facts_on t) t.oldest n + cond (c == 0) 1 0) v.count));
          blob_end = omega (arith, end_is, h.blob_end);
          fault = fault_is ∙ h.fault;
          cause = h.cause ∙ (next ∙ ap (λ (o : Option MountFault). first_of o (left t k (suc n))) v.check);
        }

    pub void-aside : (listed : Listed) → KnowsAside t k n listed known counts → KnowsAside t k (suc n) listed now (slice_set counts ((t.oldest + n) % length counts) 0)
    void-aside listed h =
        let v = is-void t n void in
        let q = n - suc h.m in
        let at : t.oldest + suc h.m + q ≡ t.oldest + n = omega (arith, h.within) in
        let more : suc n - suc h.m ≡ suc q = omega (arith, h.within) in
        record {
          m = h.m;
          within = omega (arith, h.within);
          number_is = h.number_is;
          tells = h.tells;
          some = h.some;
          newest = ap (are_void t (t.oldest + suc h.m)) more
              ∙ (ap (λ b. b && not (has_rows t (t.oldest + suc h.m + q))) h.newest ∙ ap not (ap (has_rows t) at ∙ void));
          counted = record {
            fine = h.counted.fine;
            rows = rows_is ∙ h.counted.rows;
            last = last_is ∙ h.counted.last;
            noted = λ i low high. noted-other t n i 0 counts (λ e. omega (arith, h.within, high, e)) (omega (arith, h.within, high, lt)) lt (h.counted.noted i low high);
          };
          noted = noted-next t (suc h.m) n 0 counts lt (sym v.count) h.noted;
          voids = omega (arith, voids_is, h.voids, h.within);
          blob_end = end_is ∙ (ap (λ e. max e (facts_on t (t.oldest + n)).blob_end) h.blob_end
              ∙ (ap (λ p. max (max (end_of (facts_on t) t.oldest h.m) (end_of (facts_on t) (t.oldest + suc h.m) q)) (facts_on t p).blob_end) (sym at)
              ∙ (omega arith ∙ sym (ap (λ z. max (end_of (facts_on t) t.oldest h.m) (end_of (facts_on t) (t.oldest + suc h.m) z)) more))));
          cause = h.cause ∙ (ap (λ (o : Option MountFault). first_of (page_check t h.m) (first_of (fault_of known.fault) o)) (next ∙ ap (λ (o : Option MountFault). first_of o (left t k (suc n))) v.check)
              ∙ ap (λ (o : Option Refusal). first_of (page_check t h.m) (first_of (fault_of o) (left t k (suc n)))) (sym fault_is));
        }

  -- with rows, listed, where all before are counted: it waits
  pub takes-aside : (listed : Listed) (known now : Known) (counts : List ℕ) → KnowsAll t k n known counts → listed.number ≡ t.oldest + n → entry t (t.oldest + n) ≡ Some (full_view listed.full) → 0 < listed.full.count →
      now.rows ≡ known.rows → now.voids ≡ known.voids → now.last ≡ known.last → now.blob_end ≡ known.blob_end → now.fault ≡ known.fault → KnowsAside t k (suc n) listed now counts
  takes-aside listed known now counts h number_is tells some rows_is voids_is last_is end_is fault_is =
      let none : suc n - suc n ≡ 0 = omega arith in
      record {
        m = n;
        within = omega arith;
        number_is = number_is;
        tells = tells;
        some = some;
        newest = ap (are_void t (t.oldest + suc n)) none;
        counted = record { fine = h.counted.fine; rows = rows_is ∙ h.counted.rows; last = last_is ∙ h.counted.last; noted = h.counted.noted };
        noted = λ i low high. absurd (omega (arith, low, high));
        voids = omega (arith, voids_is, h.voids);
        blob_end = end_is ∙ (h.blob_end ∙ (omega arith ∙ sym (ap (λ z. max (end_of (facts_on t) t.oldest n) (end_of (facts_on t) (t.oldest + suc n) z)) none)));
        cause = h.cause ∙ (next ∙ ap (λ (o : Option Refusal). first_of (page_check t n) (first_of (fault_of o) (left t k (suc n)))) (sym (fault_is ∙ h.fault)));
      }

  -- one that no entry tells of is read
  module _ (known : Known) (counts : List ℕ) (h : KnowsAll t k n known counts) (none : entry t (t.oldest + n) ≡ None) where
    read : is_read t (t.oldest + n) ≡ true
    read = unlisted-read t (t.oldest + n) none

    pub read-check : page_check t n ≡ read_fault t.layout (t.oldest + n) (t.rows (t.oldest + n)) (is_committed (t.rows (t.oldest + n))) known.last
    read-check = rw (read, none, h.counted.last) refl

    pub read-refused : (e : MountFault) → page_check t n ≡ Some e → mount_fault t ≡ Some e
    read-refused e is = h.cause ∙ (next ∙ ap (λ (o : Option MountFault). first_of o (left t k (suc n))) is)

    pub read-facts : facts_on t (t.oldest + n) ≡ by_page t (t.oldest + n)
    read-facts = ap (λ b. cond b (by_page t (t.oldest + n)) (unwrap_or (entry t (t.oldest + n)) no_rows)) read

    pub read-all : (rows : ℕ) (now : Known) → page_check t n ≡ None → rows ≡ (by_page t (t.oldest + n)).count → 0 < rows → n < length counts → now.rows ≡ known.rows + rows → now.voids ≡ known.voids →
        now.last ≡ last_in known.last (rows_on t.layout (t.rows (t.oldest + n))) → now.blob_end ≡ max known.blob_end (by_page t (t.oldest + n)).blob_end → now.fault ≡ known.fault →
        KnowsAll t k (suc n) now (slice_set counts ((t.oldest + n) % length counts) rows)
    read-all rows now fine is some lt rows_is voids_is last_is end_is fault_is =
        let count : rows ≡ (facts_on t (t.oldest + n)).count = is ∙ ap (λ (f : Full). f.count) (sym read-facts) in
        let end : (facts_on t (t.oldest + n)).blob_end ≡ (by_page t (t.oldest + n)).blob_end = ap (λ (f : Full). f.blob_end) read-facts in
        record {
          counted = next-counted t n rows known now counts h.counted fine count lt rows_is
              (last_is ∙ (ap (λ (o : Option ℕ). last_in o (rows_on t.layout (t.rows (t.oldest + n)))) h.counted.last
              ∙ sym (ap (λ b. cond b (last_in (known_after t n) (rows_on t.layout (t.rows (t.oldest + n)))) (cond ((facts_on t (t.oldest + n)).count == 0) (known_after t n) (Some (facts_on t (t.oldest + n)).first_key))) read)));
          voids = voids_is ∙ (h.voids ∙ (omega arith ∙ sym (ap (λ b. voids_of (facts_on t) t.oldest n + cond b 1 0) (not_zero (facts_on t (t.oldest + n)).count (omega (arith, count, some))))));
          blob_end = omega (arith, end_is, h.blob_end, end);
          fault = fault_is ∙ h.fault;
          cause = h.cause ∙ (next ∙ ap (λ (o : Option MountFault). first_of o (left t k (suc n))) fine);
        }

-- ---- an index page

module _ (t : Come) (k n : ℕ) (next : left t k n ≡ first_of (index_check t k) (left t (suc k) n)) (known : Known) (counts : List ℕ) where
  -- it is well
  pub index-all : KnowsAll t k n known counts → index_check t k ≡ None → KnowsAll t (suc k) n known counts
  index-all h fine = record { counted = h.counted; voids = h.voids; blob_end = h.blob_end; fault = h.fault; cause = h.cause ∙ (next ∙ ap (λ (o : Option MountFault). first_of o (left t (suc k) n)) fine) }

  pub index-refused : (e : MountFault) → KnowsAll t k n known counts → index_check t k ≡ Some e → mount_fault t ≡ Some e
  index-refused e h is = h.cause ∙ (next ∙ ap (λ (o : Option MountFault). first_of o (left t (suc k) n)) is)

  pub index-aside : (listed : Listed) → KnowsAside t k n listed known counts → index_check t k ≡ None → KnowsAside t (suc k) n listed known counts
  index-aside listed h fine = record {
    m = h.m;
    within = h.within;
    number_is = h.number_is;
    tells = h.tells;
    some = h.some;
    newest = h.newest;
    counted = h.counted;
    noted = h.noted;
    voids = h.voids;
    blob_end = h.blob_end;
    cause = h.cause ∙ ap (λ (o : Option MountFault). first_of (page_check t h.m) (first_of (fault_of known.fault) o)) (next ∙ ap (λ (o : Option MountFault). first_of o (left t (suc k) n)) fine);
  }

  -- it is bad: that waits for the page that waits, unless another fault does
  pub index-waits : (listed : Listed) (bad : Refusal) (now : Known) → KnowsAside t k n listed known counts → index_check t k ≡ Some (BadPage bad) →
      now.rows ≡ known.rows → now.voids ≡ known.voids → now.last ≡ known.last → now.blob_end ≡ known.blob_end → now.fault ≡ first_of known.fault (Some bad) → KnowsAside t (suc k) n listed now counts
  index-waits listed bad now h is rows_is voids_is last_is end_is fault_is = record {
    m = h.m;
    within = h.within;
    number_is = h.number_is;
    tells = h.tells;
    some = h.some;
    newest = h.newest;
    counted = record { fine = h.counted.fine; rows = rows_is ∙ h.counted.rows; last = last_is ∙ h.counted.last; noted = h.counted.noted };
    noted = h.noted;
    voids = voids_is ∙ h.voids;
    blob_end = end_is ∙ h.blob_end;
    cause = h.cause ∙ (ap (λ (o : Option MountFault). first_of (page_check t h.m) (first_of (fault_of known.fault) o)) (next ∙ ap (λ (o : Option MountFault). first_of o (left t (suc k) n)) is)
        ∙ (ap (first_of (page_check t h.m)) (by_fault known.fault) ∙ ap (λ (o : Option Refusal). first_of (page_check t h.m) (first_of (fault_of o) (left t (suc k) n))) (sym fault_is)));
  }
    where
      by_fault : (o : Option Refusal) → first_of (fault_of o) (Some (BadPage bad)) ≡ first_of (fault_of (first_of o (Some bad))) (left t (suc k) n)
      by_fault None = refl
      by_fault (Some other) = refl

-- ---- the end

module _ (t : Come) (known : Known) (counts : List ℕ) where
  pub ends-well : KnowsAll t t.index_pages t.pages known counts → mount_fault t ≡ None
  ends-well h = h.cause ∙ left-none t

  -- the page that waits is the newest with rows: it is read
  module _ (listed : Listed) (h : KnowsAside t t.index_pages t.pages listed known counts) where
    pub newest-read : is_read t (t.oldest + h.m) ≡ true
    newest-read =
        let rows = has-rows t t.index_pages t.pages listed known counts h in
        let void : are_void t (t.oldest + h.m + 1) (t.oldest + t.pages - (t.oldest + h.m + 1)) ≡ true =
        ap (λ k. are_void t k (t.oldest + t.pages - k)) (let e : t.oldest + h.m + 1 ≡ t.oldest + suc h.m = omega arith in e)
        ∙ (ap (are_void t (t.oldest + suc h.m)) (let e : t.oldest + t.pages - (t.oldest + suc h.m) ≡ t.pages - suc h.m = omega (arith, h.within) in e) ∙ h.newest) in
        ap (λ b. is_none (entry t (t.oldest + h.m)) || b) (ap (λ b. b && are_void t (t.oldest + h.m + 1) (t.oldest + t.pages - (t.oldest + h.m + 1))) rows ∙ void) ∙ or-true (is_none (entry t (t.oldest + h.m)))

    pub newest-check : page_check t h.m ≡ read_fault t.layout listed.number (t.rows listed.number) true known.last
    newest-check =
        let rows = has-rows t t.index_pages t.pages listed known counts h in
        ap (λ b. cond b (read_fault t.layout (t.oldest + h.m) (t.rows (t.oldest + h.m)) (has_rows t (t.oldest + h.m)) (known_after t h.m)) (entry_fault (t.oldest + h.m) (facts_on t (t.oldest + h.m)) (known_after t h.m))) newest-read
        ∙ (ap (λ b. read_fault t.layout (t.oldest + h.m) (t.rows (t.oldest + h.m)) b (known_after t h.m)) rows
        ∙ (ap (read_fault t.layout (t.oldest + h.m) (t.rows (t.oldest + h.m)) true) (sym h.counted.last)
        ∙ ap (λ p. read_fault t.layout p (t.rows p) true known.last) (sym h.number_is)))

    pub newest-refused : (e : MountFault) → page_check t h.m ≡ Some e → mount_fault t ≡ Some e
    newest-refused e is = h.cause ∙ ap (λ (o : Option MountFault). first_of o (first_of (fault_of known.fault) (left t t.index_pages t.pages))) is

    pub fault-refused : (bad : Refusal) → page_check t h.m ≡ None → known.fault ≡ Some bad → mount_fault t ≡ Some (BadPage bad)
    fault-refused bad fine is =
        h.cause ∙ (ap (λ (o : Option MountFault). first_of o (first_of (fault_of known.fault) (left t t.index_pages t.pages))) fine
        ∙ ap (λ (o : Option Refusal). first_of (fault_of o) (left t t.index_pages t.pages)) is)

    pub newest-all : (rows : ℕ) (now : Known) → page_check t h.m ≡ None → known.fault ≡ None → rows ≡ (by_page t listed.number).count → 0 < rows → t.pages ≤ length counts → now.rows ≡ known.rows + rows → now.voids ≡ known.voids →
        now.last ≡ last_in known.last (rows_on t.layout (t.rows listed.number)) → now.blob_end ≡ max known.blob_end (by_page t listed.number).blob_end → now.fault ≡ None →
        KnowsAll t t.index_pages t.pages now (slice_set counts (listed.number % length counts) rows)
    newest-all rows now fine none is some fits rows_is voids_is last_is end_is fault_is =
        let n = t.pages in
        let q = n - suc h.m in
        let run = void-run t (suc h.m) q n (omega (arith, h.within)) h.newest in
        let facts : facts_on t (t.oldest + h.m) ≡ by_page t listed.number = ap (λ b. cond b (by_page t (t.oldest + h.m)) (unwrap_or (entry t (t.oldest + h.m)) no_rows)) newest-read ∙ ap (by_page t) (sym h.number_is) in
        let count : rows ≡ (facts_on t (t.oldest + h.m)).count = is ∙ ap (λ (f : Full). f.count) (sym facts) in
        let end : (facts_on t (t.oldest + h.m)).blob_end ≡ (by_page t listed.number).blob_end = ap (λ (f : Full). f.blob_end) facts in
        let last : known_after t (suc h.m) ≡ last_in (known_after t h.m) (rows_on t.layout (t.rows (t.oldest + h.m))) =
        ap (λ b. cond b (last_in (known_after t h.m) (rows_on t.layout (t.rows (t.oldest + h.m)))) (cond ((facts_on t (t.oldest + h.m)).count == 0) (known_after t h.m) (Some (facts_on t (t.oldest + h.m)).first_key))) newest-read in
        let one : voids_of (facts_on t) t.oldest (suc h.m) ≡ voids_of (facts_on t) t.oldest h.m =
        ap (λ b. voids_of (facts_on t) t.oldest h.m + cond b 1 0) (not_zero (facts_on t (t.oldest + h.m)).count (omega (arith, count, some))) ∙ omega arith in
        record {
          counted = record {
            fine = λ i lt. elim (cases_lt i h.m) [
              | inl less ↦ h.counted.fine i less
              | inr ge ↦ elim (cases_lt h.m i) [
                | inl above ↦ run.fine i (omega (arith, above)) lt
                | inr le ↦ subst (λ j. page_check t j ≡ None) (let e : h.m ≡ i = omega (arith, ge, le) in e) fine
              ]
            ];
            rows = omega (arith, rows_is, h.counted.rows, run.rows, count);
            last = last_is ∙ (ap (λ (o : Option ℕ). last_in o (rows_on t.layout (t.rows listed.number))) h.counted.last
                ∙ (ap (λ p. last_in (known_after t h.m) (rows_on t.layout (t.rows p))) h.number_is ∙ sym (run.last ∙ last)));
            noted = subst (λ p. AreNoted t 0 n (set counts (p % length counts) rows)) (sym h.number_is) (noted-set t h.m t.pages rows counts (omega (arith, h.within, fits)) (omega (arith, fits)) count h.counted.noted h.noted);
          };
          voids = omega (arith, voids_is, h.voids, run.voids, one);
          blob_end = omega (arith, end_is, h.blob_end, end-split (facts_on t) t.oldest (suc h.m) q n (omega (arith, h.within)), end);
          fault = fault_is;
          cause = h.cause ∙ (ap (λ (o : Option MountFault). first_of o (first_of (fault_of known.fault) (left t t.index_pages t.pages))) fine
              ∙ ap (λ (o : Option Refusal). first_of (fault_of o) (left t t.index_pages t.pages)) none);
        }
