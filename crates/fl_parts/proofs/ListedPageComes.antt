-- A listed data page comes.
use Rattle.std.proofs.Common.{◌≡◌, ℕ, suc, ◌+◌, ◌-◌, ◌*◌, ◌%◌, ◌<◌, ◌≤◌, false, max, Option, Some, None, List, [], ◌∷◌, ◌++◌, length, refl, sym, ◌∙◌, ap, subst, arith}
use Rattle.std.specs.Prelude.{cond, ◌==◌, nat_lt, IfSome, option_map, unwrap_or, slice_set}
use Rattle.std.proofs.lemmas.List.{append-nil}
use Rattle.fl_find.specs.Index.{IndexOf}
use Rattle.fl_find.specs.declared.index.KeyIndex.{KeyIndex}
use Rattle.fl_index.specs.Page.{full_view}
use Rattle.fl_index.specs.declared.page.Full as code
use Rattle.fl_model.specs.Layout.{Full}
use Rattle.fl_model.specs.Table.{first_of}
use Rattle.fl_parts.specs.ByEntries.{Come, entry, has_rows, is_committed, by_page, facts_on, no_rows, points_of, page_check}
use Rattle.fl_parts.specs.Knowing.{left, KnowsBy, KnowsWith, IsWithin, counted_to, is_waiting}
use Rattle.fl_parts.specs.declared.known.Known.{Known}
use Rattle.fl_parts.specs.declared.known.Listed.{Listed}
use Rattle.fl_parts.proofs.PageChecks.{is-void, listed-unread, void-newest}
use Rattle.fl_parts.proofs.WaitingPageComes.{knows-all, knows-aside, points-all}
use Rattle.fl_parts.proofs.Steps.{void-all, void-aside, takes-aside}

-- whether a listed page has rows
pub listed-rows : (t : Come) (number : ℕ) (full : code.Full) → entry t number ≡ Some (full_view full) → has_rows t number ≡ nat_lt 0 full.count
listed-rows t number full e = ap (λ (o : Option Full). unwrap_or (option_map (λ (full : Full). nat_lt 0 full.count) o) (is_committed (t.rows number))) e

module _ {KNOTS SLOTS : ℕ} (error : ℕ) (t : Come) (k n : ℕ) (known now : Known) (counts : List ℕ) (index : KeyIndex KNOTS SLOTS) (h : KnowsWith error t k n known counts index)
    (next : left t k n ≡ first_of (page_check t n) (left t k (suc n))) where
  -- a page without rows
  pub saw-void : has_rows t (t.oldest + n) ≡ false → n < length counts → now ≡ record known { voids = known.voids + 1; blob_end = max known.blob_end (facts_on t (t.oldest + n)).blob_end } →
      KnowsWith error t k (suc n) now (slice_set counts ((t.oldest + n) % length counts) 0) index
  saw-void void lt is = by_newest known.newest refl
    where
      by_newest : (o : Option Listed) → known.newest ≡ o → KnowsWith error t k (suc n) now (slice_set counts ((t.oldest + n) % length counts) 0) index
      by_newest None e =
          let all = void-all t k n next void counts lt known now (ap (λ (x : Known). x.rows) is) (ap (λ (x : Known). x.voids) is) (ap (λ (x : Known). x.last) is) (ap (λ (x : Known). x.blob_end) is) (ap (λ (x : Known). x.fault) is)
          (knows-all error t k n known counts index h e) in
          let newest : now.newest ≡ None = ap (λ (x : Known). x.newest) is ∙ e in
          let v = is-void t n void in
          let same : points_of (facts_on t) t.oldest (suc n) ≡ points_of (facts_on t) t.oldest n =
          ap (λ c. points_of (facts_on t) t.oldest n ++ cond (c == 0) [] (((facts_on t (t.oldest + n)).first_key, t.oldest + n) ∷ [])) v.count ∙ append-nil (points_of (facts_on t) t.oldest n) in
          record {
            knows = subst (λ (o : Option Listed). KnowsBy o t k (suc n) now (slice_set counts ((t.oldest + n) % length counts) 0)) (sym newest) all;
            points = subst (λ (o : Option Listed). IndexOf error (points_of (facts_on t) t.oldest (counted_to t (suc n) o)) index) (sym newest)
                (subst (λ (l : List (ℕ × ℕ)). IndexOf error l index) (sym same) (points-all error t k n known counts index h e));
          }
      by_newest (Some listed) e =
          let aside = void-aside t k n next void counts lt known now (ap (λ (x : Known). x.rows) is) (ap (λ (x : Known). x.voids) is) (ap (λ (x : Known). x.last) is) (ap (λ (x : Known). x.blob_end) is) (ap (λ (x : Known). x.fault) is)
          listed (knows-aside error t k n known counts index h listed e) in
          let newest : now.newest ≡ Some listed = ap (λ (x : Known). x.newest) is ∙ e in
          record {
            knows = subst (λ (o : Option Listed). KnowsBy o t k (suc n) now (slice_set counts ((t.oldest + n) % length counts) 0)) (sym newest) aside;
            points = subst (λ (o : Option Listed). IndexOf error (points_of (facts_on t) t.oldest (counted_to t (suc n) o)) index) (sym newest)
                (subst (λ (o : Option Listed). IndexOf error (points_of (facts_on t) t.oldest (counted_to t n o)) index) e h.points);
          }

  -- a listed page with rows, where nothing waits
  pub saw-listed : (listed : Listed) → known.newest ≡ None → listed.number ≡ t.oldest + n → entry t listed.number ≡ Some (full_view listed.full) → 0 < listed.full.count → now ≡ record known { newest = Some listed } → KnowsWith error t k (suc n) now counts index
  saw-listed listed none at tells some is =
      let aside = takes-aside t k n next listed known now counts (knows-all error t k n known counts index h none) at (ap (entry t) (sym at) ∙ tells) some
      (ap (λ (x : Known). x.rows) is) (ap (λ (x : Known). x.voids) is) (ap (λ (x : Known). x.last) is) (ap (λ (x : Known). x.blob_end) is) (ap (λ (x : Known). x.fault) is) in
      let newest : now.newest ≡ Some listed = ap (λ (x : Known). x.newest) is in
      record {
        knows = subst (λ (o : Option Listed). KnowsBy o t k (suc n) now counts) (sym newest) aside;
        points = subst (λ (o : Option Listed). IndexOf error (points_of (facts_on t) t.oldest (counted_to t (suc n) o)) index) (sym newest)
            (subst (λ m. IndexOf error (points_of (facts_on t) t.oldest m) index) (let e : n ≡ listed.number - t.oldest = omega (arith, at) in e) (points-all error t k n known counts index h none));
      }

-- what is known of a listed page without rows is its entry
pub listed-facts : (t : Come) (number : ℕ) (full : code.Full) → entry t number ≡ Some (full_view full) → full.count ≡ 0 → facts_on t number ≡ full_view full
listed-facts t number full e none =
    let void : has_rows t number ≡ false = listed-rows t number full e ∙ ap (nat_lt 0) none in
    let unread = listed-unread t number (full_view full) e (void-newest t number void) in
    ap (λ b. cond b (by_page t number) (unwrap_or (entry t number) no_rows)) unread ∙ ap (λ (o : Option Full). unwrap_or o no_rows) e

pub newest-wider : (oldest n : ℕ) (o : Option Listed) → IfSome o (λ listed. (oldest ≤ listed.number) × (listed.number < oldest + n)) → IfSome o (λ listed. (oldest ≤ listed.number) × (listed.number < oldest + suc n))
newest-wider oldest n None h = tt
newest-wider oldest n (Some listed) h = (h.0, omega (arith, h.1))

pub within-void : (oldest n : ℕ) (known now : Known) (end : ℕ) → now ≡ record known { voids = known.voids + 1; blob_end = end } → IsWithin oldest n known → IsWithin oldest (suc n) now
within-void oldest n known now end is h = record {
  rows = omega (arith, h.rows, ap (λ (x : Known). x.rows) is, ap (λ (x : Known). is_waiting x.newest * 65536) is);
  voids = omega (arith, h.voids, ap (λ (x : Known). x.voids) is);
  newest = subst (λ (o : Option Listed). IfSome o (λ listed. (oldest ≤ listed.number) × (listed.number < oldest + suc n))) (sym (ap (λ (x : Known). x.newest) is)) (newest-wider oldest n known.newest h.newest);
}

pub within-listed : (oldest n : ℕ) (known now : Known) (listed : Listed) → known.newest ≡ None → listed.number ≡ oldest + n → now ≡ record known { newest = Some listed } → IsWithin oldest n known → IsWithin oldest (suc n) now
within-listed oldest n known now listed none at is h = record {
  rows = omega (arith, h.rows, ap (λ (x : Known). x.rows) is, ap (λ (x : Known). is_waiting x.newest * 65536) is, ap (λ (o : Option Listed). is_waiting o * 65536) none);
  voids = omega (arith, h.voids, ap (λ (x : Known). x.voids) is);
  newest = subst (λ (o : Option Listed). IfSome o (λ listed. (oldest ≤ listed.number) × (listed.number < oldest + suc n))) (sym (ap (λ (x : Known). x.newest) is)) (omega (arith, at), omega (arith, at));
}

module _ {KNOTS SLOTS : ℕ} (error : ℕ) (t : Come) (k n : ℕ) (known now : Known) (counts : List ℕ) (index : KeyIndex KNOTS SLOTS) (h : KnowsWith error t k n known counts index)
    (next : left t k n ≡ first_of (page_check t n) (left t k (suc n))) where
  -- .. by its entry
  pub saw-entry : (number end : ℕ) (full : code.Full) → number ≡ t.oldest + n → entry t number ≡ Some (full_view full) → full.count ≡ 0 → n < length counts → end ≡ full.blob_end →
      now ≡ record known { voids = known.voids + 1; blob_end = max known.blob_end end } → KnowsWith error t k (suc n) now (slice_set counts (number % length counts) 0) index
  saw-entry number end full at tells none lt end_is is =
      let facts = listed-facts t number full tells none in
      let void : has_rows t (t.oldest + n) ≡ false = ap (has_rows t) (sym at) ∙ (listed-rows t number full tells ∙ ap (nat_lt 0) none) in
      let same : end ≡ (facts_on t (t.oldest + n)).blob_end = end_is ∙ sym (ap (λ p. (facts_on t p).blob_end) (sym at) ∙ ap (λ (f : Full). f.blob_end) facts) in
      subst (λ p. KnowsWith error t k (suc n) now (slice_set counts (p % length counts) 0) index) (sym at)
      (saw-void error t k n known now counts index h next void lt (is ∙ ap (λ e. record known { voids = known.voids + 1; blob_end = max known.blob_end e }) same))
