-- Where a flash stands for a table, the totals of a mount are those of the table, and it reads few of its pages.
use Rattle.std.proofs.Common.{◌≡◌, ℕ, zero, suc, ◌+◌, ◌<◌, ◌≤◌, Bool, true, cond, ◌==◌, max, Some, List, [], ◌∷◌, ◌++◌, length, map, take, drop, refl, sym, ◌∙◌, ap, arith}
use Rattle.std.specs.Prelude.{if◌then◌else◌}
use Rattle.std.specs.Option.{is_none}
use Rattle.std.specs.List.{slice_get, sum, count_by}
use Rattle.std.proofs.Math.Dec.{eqb-suc-zero}
use Rattle.std.proofs.Math.Seq.{take-add}
use Rattle.std.proofs.lemmas.List.{take_all, length-take-le}
use Rattle.std.proofs.lemmas.List.Sums.{sum_by-cons}
use Rattle.fl_base.proofs.Tests.{one_fewer}
use Rattle.fl_find.proofs.Firsts.{points_from}
use Rattle.fl_find.proofs.Points.{points-append}
use Rattle.fl_model.specs.Agrees.{rows_at}
use Rattle.fl_model.specs.Index.{Full}
use Rattle.fl_model.specs.Limits.{numbers_from}
use Rattle.fl_model.specs.Entry.{first_key, end_of_blobs}
use Rattle.fl_model.specs.Mount.{blob_end}
use Rattle.fl_model.specs.Spline.{pages_from, page_key, points_of as model_points, voids_of as model_voids}
use Rattle.fl_model.specs.Table.{Table, Entry}
use Rattle.fl_model.proofs.Lists.{slice_get-some, slice_get-short, take_none, take-next, sum_by-next}
use Rattle.fl_model.proofs.FullIndex.{blobs-append}
use Rattle.fl_parts.specs.ByEntries.{Come, entry, facts_on, rows_of, voids_of, points_of, end_of, unlisted_of}
use Rattle.fl_parts.proofs.StandingMount.{IsOf, facts-of, count-of}

-- the point of one page
one-point : (m c : ℕ) (entries : List Entry) → length (take c entries) ≡ c → points_from m (c ∷ []) entries ≡ cond (c == 0) [] ((first_key (take c entries), m) ∷ [])
one-point m zero [] h = refl
one-point m zero (x ∷ entries) h = refl
one-point m (suc c) [] h = absurd (omega (arith, h))
one-point m (suc c) (x ∷ entries) h =
    ap (λ (b : Bool). map (λ (page : ℕ × List Entry). (page_key page, page.0)) (if b then pages_from (m + 1) [] (x ∷ entries) else (m, take (suc c) (x ∷ entries)) ∷ pages_from (m + 1) [] (drop (suc c) (x ∷ entries)))) (eqb-suc-zero c)
    ∙ sym (ap (λ (b : Bool). cond b [] ((first_key (take (suc c) (x ∷ entries)), m) ∷ [])) (eqb-suc-zero c))

-- a test counts as one or none
abbrev bit : Bool → ℕ
bit b = cond b 1 0

-- one number more
count-next : (p : ℕ → Bool) (first n : ℕ) → count_by p (numbers_from first (suc n)) ≡ count_by p (numbers_from first n) + bit (p (first + n))
count-next p first zero = let a = sum_by-cons (λ m. bit (p m)) first [] in let b : bit (p first) ≡ bit (p (first + 0)) = ap (λ m. bit (p m)) (let e : first ≡ first + 0 = omega arith in e) in omega (arith, a, b)
count-next p first (suc n) =
    let h = count-next p (first + 1) n in
    let a = sum_by-cons (λ m. bit (p m)) first (numbers_from (first + 1) (suc n)) in
    let b = sum_by-cons (λ m. bit (p m)) first (numbers_from (first + 1) n) in
    let at : bit (p (first + 1 + n)) ≡ bit (p (first + suc n)) = ap (λ m. bit (p m)) (let e : first + 1 + n ≡ first + suc n = omega arith in e) in
    omega (arith, h, a, b, at)

-- ---- the pages that no entry tells of

pub unlisted-counted : (t : Come) (n : ℕ) → unlisted_of t t.oldest n ≡ count_by (λ number. is_none (entry t number)) (numbers_from t.oldest n)
unlisted-counted t zero = refl
unlisted-counted t (suc n) = omega (arith, unlisted-counted t n, count-next (λ number. is_none (entry t number)) t.oldest n)

-- they are no more than those that the table's index doesn't list
pub unlisted-few : (p q : ℕ → Bool) (first n : ℕ) → ((i : ℕ) → i < n → p (first + i) ≡ true → q (first + i) ≡ true) → count_by p (numbers_from first n) ≤ count_by q (numbers_from first n)
unlisted-few p q first zero h = omega arith
unlisted-few p q first (suc n) h =
    let before = unlisted-few p q first n (λ i lt. h i (omega (arith, lt))) in
    omega (arith, before, count-next p first n, count-next q first n, one_fewer (p (first + n)) (q (first + n)) (h n (omega arith)))

-- ---- the totals

module _ (t : Come) (table : Table) (is : IsOf t table) where
  pub record AreTotals (n : ℕ) : Type 0 where
    pub rows : rows_of (facts_on t) t.oldest n ≡ sum (take n table.rows.counts)
    pub voids : voids_of (facts_on t) t.oldest n ≡ count_by (λ count. count == 0) (take n table.rows.counts)
    pub points : points_of (facts_on t) t.oldest n ≡ points_from t.oldest (take n table.rows.counts) table.entries
    pub end : end_of (facts_on t) t.oldest n ≡ end_of_blobs (take (sum (take n table.rows.counts)) table.entries)

  pub are-totals : (n : ℕ) → n ≤ t.pages → AreTotals n
  are-totals zero le =
      record {
        rows = sym (ap sum (take_none table.rows.counts));
        voids = sym (ap (count_by (λ (count : ℕ). count == 0)) (take_none table.rows.counts));
        points = sym (ap (λ (cs : List ℕ). points_from t.oldest cs table.entries) (take_none table.rows.counts));
        end = sym (ap (λ (cs : List ℕ). end_of_blobs (take (sum cs) table.entries)) (take_none table.rows.counts) ∙ ap end_of_blobs (take_none table.entries));
      }
  are-totals (suc n) le =
      let some = slice_get-some table.rows.counts n (omega (arith, le, is.pages)) in
      next n some.0 some.1 (are-totals n (omega (arith, le)))
    where
      next : (n c : ℕ) → slice_get table.rows.counts n ≡ Some c → AreTotals n → AreTotals (suc n)
      next n c e h =
          let s = sum (take n table.rows.counts) in
          let more : sum (take (suc n) table.rows.counts) ≡ s + c = sum_by-next (λ (m : ℕ). m) table.rows.counts n c e in
          let facts = facts-of t table is n c e in
          let count = count-of t table is n c e in
          let many = (is.rows n c e).many in
          let len : length (take n table.rows.counts) ≡ n = length-take-le n table.rows.counts (omega (arith, slice_get-short table.rows.counts n c e)) in
          record {
            rows = omega (arith, h.rows, count, more);
            voids = ap (λ k. voids_of (facts_on t) t.oldest n + cond (k == 0) 1 0) count ∙ (ap (λ k. k + cond (c == 0) 1 0) h.voids ∙ sym (sum_by-next (λ (m : ℕ). cond (m == 0) 1 0) table.rows.counts n c e));
            points = ap (λ (f : Full). points_of (facts_on t) t.oldest n ++ cond (f.count == 0) [] ((f.first_key, t.oldest + n) ∷ [])) facts
                ∙ (ap (λ k. points_of (facts_on t) t.oldest n ++ cond (k == 0) [] ((first_key (rows_at table n c), t.oldest + n) ∷ [])) many
                ∙ (ap (λ (l : List (ℕ × ℕ)). l ++ cond (c == 0) [] ((first_key (rows_at table n c), t.oldest + n) ∷ [])) h.points
                ∙ (ap (λ (l : List (ℕ × ℕ)). points_from t.oldest (take n table.rows.counts) table.entries ++ l) (sym (one-point (t.oldest + n) c (drop s table.entries) many))
                ∙ (ap (λ k. points_from t.oldest (take n table.rows.counts) table.entries ++ points_from (t.oldest + k) (c ∷ []) (drop s table.entries)) (sym len)
                ∙ (sym (points-append t.oldest (take n table.rows.counts) (c ∷ []) table.entries)
                ∙ ap (λ (l : List ℕ). points_from t.oldest l table.entries) (sym (take-next table.rows.counts n c e)))))));
            end = ap (λ (f : Full). max (end_of (facts_on t) t.oldest n) f.blob_end) facts
                ∙ (ap (λ k. max k (end_of_blobs (rows_at table n c))) h.end
                ∙ (sym (blobs-append (take s table.entries) (rows_at table n c))
                ∙ (ap end_of_blobs (sym (take-add s c table.entries)) ∙ ap (λ k. end_of_blobs (take k table.entries)) (sym more))));
          }

  -- in the end
  pub record AreAll : Type 0 where
    pub rows : rows_of (facts_on t) t.oldest t.pages ≡ length table.entries
    pub voids : voids_of (facts_on t) t.oldest t.pages ≡ model_voids table
    pub points : points_of (facts_on t) t.oldest t.pages ≡ model_points table
    pub end : end_of (facts_on t) t.oldest t.pages ≡ blob_end table

  pub are-all : AreAll
  are-all =
      let h = are-totals t.pages (omega arith) in
      let all : take t.pages table.rows.counts ≡ table.rows.counts = take_all t.pages table.rows.counts (omega (arith, is.pages)) in
      let total : sum (take t.pages table.rows.counts) ≡ length table.entries = ap sum all ∙ is.counted in
      record {
        rows = h.rows ∙ total;
        voids = h.voids ∙ ap (count_by (λ (count : ℕ). count == 0)) all;
        points = h.points ∙ (ap (λ (l : List ℕ). points_from t.oldest l table.entries) all ∙ ap (λ k. points_from k table.rows.counts table.entries) is.oldest);
        end = h.end ∙ (ap (λ k. end_of_blobs (take k table.entries)) total ∙ ap end_of_blobs (take_all (length table.entries) table.entries (omega arith)));
      }
