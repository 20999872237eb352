-- One page more of those that a mount comes to.
use Rattle.std.proofs.Common.{◌≡◌, ◌≢◌, ℕ, zero, suc, ◌+◌, ◌-◌, ◌%◌, ◌<◌, ◌≤◌, ◌⊎◌, inl, inr, true, false, cond, ◌==◌, max, None, List, [], ◌∷◌, ◌++◌, length, get_or, set, append-nil, length-set, get_or-set_other, get_or-set_same, refl, sym, ◌∙◌, ap, subst, arith}
use Rattle.std.specs.Prelude.{slice_index}
use Rattle.std.proofs.Math.Nat.{mod-lt}
use Rattle.std.proofs.lemmas.Bool.{cases_lt, and_parts, not-true}
use Rattle.fl_model.specs.Layout.{Full}
use Rattle.fl_ring.proofs.Modulo.{apart}
use Rattle.fl_parts.specs.ByEntries.{Come, has_rows, are_void, facts_on, rows_of, voids_of, points_of, end_of, known_after, page_check}
use Rattle.fl_parts.specs.Knowing.{AreNoted}
use Rattle.fl_parts.proofs.PageChecks.{is-void}

-- ---- a run of pages without rows

-- they change none of the totals but the count of voids
pub record IsRun (t : Come) (m n : ℕ) : Type 0 where
  pub rows : rows_of (facts_on t) t.oldest n ≡ rows_of (facts_on t) t.oldest m
  pub voids : voids_of (facts_on t) t.oldest n ≡ voids_of (facts_on t) t.oldest m + (n - m)
  pub points : points_of (facts_on t) t.oldest n ≡ points_of (facts_on t) t.oldest m
  pub last : known_after t n ≡ known_after t m
  pub fine : (i : ℕ) → m ≤ i → i < n → page_check t i ≡ None

one_more : (t : Come) (m n : ℕ) → m ≤ n → IsRun t m n → has_rows t (t.oldest + n) ≡ false → IsRun t m (suc n)
one_more t m n le h void =
    let v = is-void t n void in
    record {
      rows = omega (arith, h.rows, v.count);
      voids = ap (λ c. voids_of (facts_on t) t.oldest n + cond (c == 0) 1 0) v.count ∙ omega (arith, h.voids, le);
      points = ap (λ c. points_of (facts_on t) t.oldest n ++ cond (c == 0) [] (((facts_on t (t.oldest + n)).first_key, t.oldest + n) ∷ [])) v.count ∙ (append-nil (points_of (facts_on t) t.oldest n) ∙ h.points);
      last = v.last ∙ h.last;
      fine = λ i low high. elim (cases_lt i n) [
        | inl lt ↦ h.fine i low lt
        | inr ge ↦ subst (λ j. page_check t j ≡ None) (let e : n ≡ i = omega (arith, high, ge) in e) v.check
      ];
    }

pub void-run : (t : Come) (m q n : ℕ) → n ≡ m + q → are_void t (t.oldest + m) q ≡ true → IsRun t m n
void-run t m zero n e h =
    subst (IsRun t m) (let k : m ≡ n = omega (arith, e) in k) (record {
      rows = refl;
      voids = omega arith;
      points = refl;
      last = refl;
      fine = λ i low high. absurd (omega (arith, low, high));
    })
void-run t m (suc q) n e h =
    let b = and_parts _ _ h in
    let front = void-run t m q (m + q) refl b.0 in
    subst (IsRun t m) (let k : suc (m + q) ≡ n = omega (arith, e) in k)
    (one_more t m (m + q) (omega arith) front (ap (has_rows t) (let k : t.oldest + (m + q) ≡ t.oldest + m + q = omega arith in k) ∙ not-true _ b.1))

-- the end of so many pages and of others behind them
pub end-split : (facts : ℕ → Full) (number m q n : ℕ) → n ≡ m + q → end_of facts number n ≡ max (end_of facts number m) (end_of facts (number + m) q)
end-split facts number m zero n e = ap (end_of facts number) (let k : n ≡ m = omega (arith, e) in k) ∙ omega arith
end-split facts number m (suc q) n e =
    let h = end-split facts number m q (m + q) refl in
    ap (end_of facts number) (let k : n ≡ suc (m + q) = omega (arith, e) in k)
    ∙ (ap (λ k. max (end_of facts number (m + q)) (facts k).blob_end) (let k : number + (m + q) ≡ number + m + q = omega arith in k) ∙ omega (arith, h))

-- ---- the counts that are noted

-- one is noted at the place of the p-th page, and the others stand
pub noted-other : (t : Come) (p i rows : ℕ) (counts : List ℕ) → (i ≡ p → ⊥) → i < length counts → p < length counts →
    slice_index counts ((t.oldest + i) % length counts) ≡ (facts_on t (t.oldest + i)).count →
    slice_index (set counts ((t.oldest + p) % length counts) rows) ((t.oldest + i) % length (set counts ((t.oldest + p) % length counts) rows)) ≡ (facts_on t (t.oldest + i)).count
noted-other t p i rows counts ne lt lt' h =
    ap (λ k. get_or (set counts ((t.oldest + p) % length counts) rows) ((t.oldest + i) % k) 0) (length-set counts ((t.oldest + p) % length counts) rows)
    ∙ (get_or-set_other counts ((t.oldest + p) % length counts) ((t.oldest + i) % length counts) rows 0 (by_order (cases_lt i p)) ∙ h)
  where
    by_order : (i < p) ⊎ (p ≤ i) → (t.oldest + i) % length counts ≢ (t.oldest + p) % length counts
    by_order (inl less) = apart (length counts) (t.oldest + i) (t.oldest + p) (omega (arith, less)) (omega (arith, less, lt'))
    by_order (inr above) = elim (cases_lt p i) [
      | inl less ↦ λ e. apart (length counts) (t.oldest + p) (t.oldest + i) (omega (arith, less)) (omega (arith, less, lt)) (sym e)
      | inr le ↦ absurd (ne (omega (arith, above, le)))
    ]

pub noted-here : (t : Come) (p rows : ℕ) (counts : List ℕ) → p < length counts → rows ≡ (facts_on t (t.oldest + p)).count →
    slice_index (set counts ((t.oldest + p) % length counts) rows) ((t.oldest + p) % length (set counts ((t.oldest + p) % length counts) rows)) ≡ (facts_on t (t.oldest + p)).count
noted-here t p rows counts lt is =
    ap (λ k. get_or (set counts ((t.oldest + p) % length counts) rows) ((t.oldest + p) % k) 0) (length-set counts ((t.oldest + p) % length counts) rows)
    ∙ (get_or-set_same counts ((t.oldest + p) % length counts) rows 0 (mod-lt (t.oldest + p) (omega (arith, lt))) ∙ is)

-- .. and so all of them are, where all but that of one page were
pub noted-set : (t : Come) (p n rows : ℕ) (counts : List ℕ) → p < length counts → n ≤ length counts → rows ≡ (facts_on t (t.oldest + p)).count → AreNoted t 0 p counts → AreNoted t (suc p) n counts →
    AreNoted t 0 n (set counts ((t.oldest + p) % length counts) rows)
noted-set t p n rows counts within fits is before behind i low high = elim (cases_lt i p) [
  | inl less ↦ noted-other t p i rows counts (λ e. omega (arith, less, e)) (omega (arith, high, fits)) within (before i low less)
  | inr ge ↦ elim (cases_lt p i) [
    | inl above ↦ noted-other t p i rows counts (λ e. omega (arith, above, e)) (omega (arith, high, fits)) within (behind i (omega (arith, above)) high)
    | inr le ↦ subst (λ j. slice_index (set counts ((t.oldest + p) % length counts) rows) ((t.oldest + j) % length (set counts ((t.oldest + p) % length counts) rows)) ≡ (facts_on t (t.oldest + j)).count)
        (let e : p ≡ i = omega (arith, ge, le) in e) (noted-here t p rows counts within is)
  ]
]

-- those from one on up to n, and the p-th
pub noted-more : (t : Come) (from n p rows : ℕ) (counts : List ℕ) → n ≤ length counts → p < length counts → rows ≡ (facts_on t (t.oldest + p)).count → AreNoted t from n counts →
    AreNoted t from n (set counts ((t.oldest + p) % length counts) rows)
noted-more t from n p rows counts fits lt is h i low high = elim (cases_lt i p) [
  | inl less ↦ noted-other t p i rows counts (λ e. omega (arith, less, e)) (omega (arith, high, fits)) lt (h i low high)
  | inr above ↦ elim (cases_lt p i) [
    | inl less ↦ noted-other t p i rows counts (λ e. omega (arith, less, e)) (omega (arith, high, fits)) lt (h i low high)
    | inr le ↦
        let e : p ≡ i = omega (arith, above, le) in
        subst (λ j. slice_index (set counts ((t.oldest + p) % length counts) rows) ((t.oldest + j) % length (set counts ((t.oldest + p) % length counts) rows)) ≡ (facts_on t (t.oldest + j)).count) e (noted-here t p rows counts lt is)
  ]
]

-- one page more
pub noted-next : (t : Come) (from n rows : ℕ) (counts : List ℕ) → n < length counts → rows ≡ (facts_on t (t.oldest + n)).count → AreNoted t from n counts →
    AreNoted t from (suc n) (set counts ((t.oldest + n) % length counts) rows)
noted-next t from n rows counts lt is h i low high = elim (cases_lt i n) [
  | inl less ↦ noted-other t n i rows counts (λ e. omega (arith, less, e)) (omega (arith, high, lt)) lt (h i low less)
  | inr ge ↦
      let e : n ≡ i = omega (arith, high, ge) in
      subst (λ j. slice_index (set counts ((t.oldest + n) % length counts) rows) ((t.oldest + j) % length (set counts ((t.oldest + n) % length counts) rows)) ≡ (facts_on t (t.oldest + j)).count) e (noted-here t n rows counts lt is)
]
