-- The first keys of a table's pages, page by page.
use Rattle.std.proofs.Common.{◌≡◌, ℕ, zero, suc, ◌+◌, ◌-◌, ◌<◌, ◌≤◌, ⊎_elim, Bool, true, false, leb, Option, Some, None, option_map, List, [], ◌∷◌, ◌++◌, length, map, take, drop, refl, sym, ◌∙◌, ap, subst, arith}
use Rattle.std.specs.Prelude.{filter, nat_le, ◌==◌, if◌then◌else◌}
use Rattle.std.specs.List.{slice_get, sum, count_by, last_or}
use Rattle.std.proofs.Math.Dec.{eqb-suc-zero}
use Rattle.std.proofs.lemmas.Bool.{cases_lt, leb-true, leb-false}
use Rattle.std.proofs.lemmas.List.{drop-drop, take-take, drop-take, length-drop}
use Rattle.std.proofs.lemmas.List.Sums.{sum_by-cons}
use Rattle.std.proofs.lemmas.Option.{none-some}
use Rattle.fl_model.specs.Table.{Entry}
use Rattle.fl_model.specs.Spline.{pages_from, page_key}
use Rattle.fl_model.proofs.Lists.{slice_get-drop, slice_get-front, drop_none, take_none}
use Rattle.fl_spline.specs.Segment.{point_at}
use Rattle.fl_search.specs.Search.{IsPageOf, starts_by, Ascends, voids_from}
use Rattle.fl_search.proofs.Pages.{starts-void, starts-low, starts-high}

-- the first key of entries
abbrev pub key_of : List Entry → Option ℕ
key_of entries = option_map (λ entry. entry.kept.key) (slice_get entries 0)

-- a function tells the first key of each page, from this number on
abbrev pub AreFirsts : (ℕ → Option ℕ) → ℕ → List ℕ → List Entry → Type 0
AreFirsts first number [] entries = Unit {0}
AreFirsts first number (count ∷ counts) entries = (first number ≡ key_of (take count entries)) × AreFirsts first (number + 1) counts (drop count entries)

pub sum-cons : (count : ℕ) (counts : List ℕ) → sum (count ∷ counts) ≡ count + sum counts
sum-cons count counts = sum_by-cons (λ (n : ℕ). n) count counts

pub firsts-each : (first : ℕ → Option ℕ) (number : ℕ) (counts : List ℕ) (entries : List Entry) →
    ((i count : ℕ) → slice_get counts i ≡ Some count → first (number + i) ≡ key_of (take count (drop (sum (take i counts)) entries))) → AreFirsts first number counts entries
firsts-each first number [] entries each = tt
firsts-each first number (count ∷ counts) entries each = (
  ap first (omega arith) ∙ each 0 count refl,
  firsts-each first (number + 1) counts (drop count entries) (λ i c e.
      ap first (omega arith) ∙ (each (suc i) c e
      ∙ ap (λ (l : List Entry). key_of (take c l)) (ap (λ n. drop n entries) (sum-cons count (take i counts)) ∙ sym (drop-drop (sum (take i counts)) count entries)))),
)

-- more entries behind them change nothing
pub firsts-more : (first : ℕ → Option ℕ) (number : ℕ) (counts : List ℕ) (entries : List Entry) (n : ℕ) → sum counts ≤ n → AreFirsts first number counts (take n entries) → AreFirsts first number counts entries
firsts-more first number [] entries n le firsts = tt
firsts-more first number (count ∷ counts) entries n le firsts =
    let total = sum-cons count counts in
    let split : n ≡ count + (n - count) = omega (arith, total, le) in (
      firsts.0 ∙ ap key_of (take-take count n entries (omega (arith, total, le))),
      firsts-more first (number + 1) counts (drop count entries) (n - count) (omega (arith, total, le))
          (subst (λ (l : List Entry). AreFirsts first (number + 1) counts l) (ap (λ k. drop count (take k entries)) split ∙ drop-take count (n - count) entries) firsts.1),
    )

-- a page with rows comes before the others
pages-suc : (number c : ℕ) (counts : List ℕ) (entry : Entry) (entries : List Entry) →
    pages_from number (suc c ∷ counts) (entry ∷ entries) ≡ (number, entry ∷ take c entries) ∷ pages_from (number + 1) counts (drop c entries)
pages-suc number c counts entry entries =
    ap (λ (b : Bool). if b then pages_from (number + 1) counts (entry ∷ entries) else (number, entry ∷ take c entries) ∷ pages_from (number + 1) counts (drop c entries)) (eqb-suc-zero c)

-- the greatest page whose first key is at most the key, or this one where there is none
abbrev pub page_from : Option ℕ → ℕ → List ℕ → List Entry → ℕ → Option ℕ
page_from before number counts entries key = last_or before (map (λ page. page.0) (filter (λ page. nat_le (page_key page) key) (pages_from number counts entries)))

none-here : (first : ℕ → Option ℕ) (lo number key : ℕ) (before : Option ℕ) → starts_by first key number ≡ false → IsPageOf first lo number key before → IsPageOf first lo (number + 1) key before
none-here first lo number key None none is = λ n from less. ⊎_elim
    (λ below. is n from below)
    (λ here. let same : n ≡ number = omega arith in rw same none)
    (cases_lt n number)
none-here first lo number key (Some page) none is = record {
  from = is.from;
  before = omega (arith, is.before);
  here = is.here;
  later = λ n after less. ⊎_elim
      (λ below. is.later n after below)
      (λ here. let same : n ≡ number = omega arith in rw same none)
      (cases_lt n number);
}

some-here : (first : ℕ → Option ℕ) (lo number key : ℕ) → lo ≤ number → starts_by first key number ≡ true → IsPageOf first lo (number + 1) key (Some number)
some-here first lo number key le starts = record { from = le; before = omega arith; here = starts; later = λ n after less. absurd (omega arith) }

pub page_from-is : (first : ℕ → Option ℕ) (number : ℕ) (counts : List ℕ) (entries : List Entry) (key lo : ℕ) (before : Option ℕ) → AreFirsts first number counts entries → sum counts ≤ length entries →
    lo ≤ number → IsPageOf first lo number key before → IsPageOf first lo (number + length counts) key (page_from before number counts entries key)
page_from-is first number [] entries key lo before firsts enough le is = subst (λ n. IsPageOf first lo n key before) (omega arith) is
page_from-is first number (zero ∷ counts) entries key lo before firsts enough le is =
    let total = sum-cons 0 counts in
    let void : first number ≡ None = firsts.0 ∙ ap key_of (take_none entries) in
    subst (λ n. IsPageOf first lo n key (page_from before (number + 1) counts entries key)) (omega arith)
    (page_from-is first (number + 1) counts entries key lo before (subst (λ (l : List Entry). AreFirsts first (number + 1) counts l) (drop_none entries) firsts.1) (omega (arith, total, enough)) (omega (arith, le))
    (none-here first lo number key before (starts-void first key number void) is))
page_from-is first number (suc c ∷ counts) [] key lo before firsts enough le is = let total = sum-cons (suc c) counts in absurd (omega (arith, total, enough))
page_from-is first number (suc c ∷ counts) (entry ∷ entries) key lo before firsts enough le is =
    let total = sum-cons (suc c) counts in
    by_key
    (λ d h. subst (λ n. IsPageOf first lo n key (page_from d (number + 1) counts (drop c entries) key)) (omega arith)
    (page_from-is first (number + 1) counts (drop c entries) key lo d firsts.1 (omega (arith, total, enough, length-drop c entries)) (omega (arith, le)) h))
    (leb entry.kept.key key) refl
  where
    by_key : ((d : Option ℕ) → IsPageOf first lo (number + 1) key d → IsPageOf first lo (number + length (suc c ∷ counts)) key (page_from d (number + 1) counts (drop c entries) key)) →
        (b : Bool) → leb entry.kept.key key ≡ b → IsPageOf first lo (number + length (suc c ∷ counts)) key (page_from before number (suc c ∷ counts) (entry ∷ entries) key)
    by_key left true e =
        let step : page_from before number (suc c ∷ counts) (entry ∷ entries) key ≡ page_from (Some number) (number + 1) counts (drop c entries) key =
        ap (λ (l : List (ℕ × List Entry)). last_or before (map (λ page. page.0) (filter (λ page. nat_le (page_key page) key) l))) (pages-suc number c counts entry entries) ∙ rw e refl in
        rw step (left (Some number) (some-here first lo number key le (starts-low first key number entry.kept.key firsts.0 (leb-true _ _ e))))
    by_key left false e =
        let step : page_from before number (suc c ∷ counts) (entry ∷ entries) key ≡ page_from before (number + 1) counts (drop c entries) key =
        ap (λ (l : List (ℕ × List Entry)). last_or before (map (λ page. page.0) (filter (λ page. nat_le (page_key page) key) l))) (pages-suc number c counts entry entries) ∙ rw e refl in
        rw step (left before (none-here first lo number key before (starts-high first key number entry.kept.key firsts.0 (leb-false _ _ e)) is))

-- how many pages are void
pub voids-counted : (first : ℕ → Option ℕ) (number : ℕ) (counts : List ℕ) (entries : List Entry) → AreFirsts first number counts entries → sum counts ≤ length entries →
    voids_from first number (length counts) ≡ count_by (λ count. count == 0) counts
voids-counted first number [] entries firsts enough = refl
voids-counted first number (zero ∷ counts) entries firsts enough =
    let total = sum-cons 0 counts in
    let void : first number ≡ None = firsts.0 ∙ ap key_of (take_none entries) in
    let more = sum_by-cons (λ (n : ℕ). if n == 0 then 1 else 0) 0 counts in
    let one : voids_from first number (length (zero ∷ counts)) ≡ 1 + voids_from first (number + 1) (length counts) = rw void refl in
    let left = voids-counted first (number + 1) counts entries (subst (λ (l : List Entry). AreFirsts first (number + 1) counts l) (drop_none entries) firsts.1) (omega (arith, total, enough)) in
    one ∙ (ap (λ n. 1 + n) left ∙ sym more)
voids-counted first number (suc c ∷ counts) [] firsts enough = let total = sum-cons (suc c) counts in absurd (omega (arith, total, enough))
voids-counted first number (suc c ∷ counts) (entry ∷ entries) firsts enough =
    let total = sum-cons (suc c) counts in
    let full : first number ≡ Some entry.kept.key = firsts.0 in
    let more = sum_by-cons (λ (n : ℕ). if n == 0 then 1 else 0) (suc c) counts in
    let one : voids_from first number (length (suc c ∷ counts)) ≡ voids_from first (number + 1) (length counts) = rw full (omega arith) in
    let left = voids-counted first (number + 1) counts (drop c entries) firsts.1 (omega (arith, total, enough, length-drop c entries)) in
    let none : (if suc c == 0 then 1 else 0) + count_by (λ count. count == 0) counts ≡ count_by (λ count. count == 0) counts = ap (λ (b : Bool). (if b then 1 else 0) + count_by (λ count. count == 0) counts) (eqb-suc-zero c) ∙ omega arith in
    one ∙ (left ∙ sym (more ∙ none))

-- a page with rows begins by an entry
pub record BeginsBy (entries : List Entry) (key : ℕ) : Type 0 where
  pub index : ℕ
  pub entry : Entry
  pub here : slice_get entries index ≡ Some entry
  pub key_is : entry.kept.key ≡ key

pub begins-by : (first : ℕ → Option ℕ) (number : ℕ) (counts : List ℕ) (entries : List Entry) (n key : ℕ) → AreFirsts first number counts entries → number ≤ n → n < number + length counts →
    first n ≡ Some key → BeginsBy entries key
begins-by first number [] entries n key firsts from less e = absurd (omega (arith, from, less))
begins-by first number (count ∷ counts) entries n key firsts from less e = ⊎_elim
    (λ after.
    let b = begins-by first (number + 1) counts (drop count entries) n key firsts.1 (omega arith) (omega (arith, less)) e in
    record { index = count + b.index; entry = b.entry; here = sym (slice_get-drop count entries b.index) ∙ b.here; key_is = b.key_is })
    (λ here.
    let same : number ≡ n = omega (arith, from) in
    head (take count entries) (slice_get entries 0) (λ x f. slice_get-front count entries 0 x f) (sym firsts.0 ∙ (ap first same ∙ e)))
    (cases_lt number n)
  where
    head : (taken : List Entry) (o : Option Entry) → ((x : Entry) → slice_get taken 0 ≡ Some x → slice_get entries 0 ≡ Some x) → key_of taken ≡ Some key → BeginsBy entries key
    head [] o front k = absurd (none-some key k)
    head (x ∷ taken) o front k = let same : x.kept.key ≡ key = cc in record { index = 0; entry = x; here = front x refl; key_is = same }

-- entries in the order of their keys
abbrev pub Ascending : List Entry → Type 0
Ascending entries = (i j : ℕ) (a b : Entry) → i < j → slice_get entries i ≡ Some a → slice_get entries j ≡ Some b → a.kept.key < b.kept.key

ascending-drop : (n : ℕ) (entries : List Entry) → Ascending entries → Ascending (drop n entries)
ascending-drop n entries up i j a b less e f = up (n + i) (n + j) a b (omega (arith, less)) (sym (slice_get-drop n entries i) ∙ e) (sym (slice_get-drop n entries j) ∙ f)

-- then the first keys ascend
pub firsts-ascend : (first : ℕ → Option ℕ) (number : ℕ) (counts : List ℕ) (entries : List Entry) → AreFirsts first number counts entries → Ascending entries → Ascends first number (number + length counts)
firsts-ascend first number [] entries firsts up i j x y from less before e f = absurd (omega (arith, from, less, before))
firsts-ascend first number (count ∷ counts) entries firsts up i j x y from less before e f = ⊎_elim
    (λ after. firsts-ascend first (number + 1) counts (drop count entries) firsts.1 (ascending-drop count entries up) i j x y (omega arith) less (omega (arith, before)) e f)
    (λ here.
    let same : number ≡ i = omega (arith, from) in
    let b = begins-by first (number + 1) counts (drop count entries) j y firsts.1 (omega (arith, less, from)) (omega (arith, before)) f in
    by_head (take count entries) count refl (sym firsts.0 ∙ (ap first same ∙ e)) b)
    (cases_lt number i)
  where
    by_head : (taken : List Entry) (n : ℕ) → take count entries ≡ taken → key_of taken ≡ Some x → BeginsBy (drop count entries) y → x < y
    by_head [] n t k b = absurd (none-some x k)
    by_head (a ∷ taken) n t k b =
        let some : 0 < count = some_taken count t in
        let key : a.kept.key ≡ x = cc in
        let at : slice_get (take count entries) 0 ≡ Some a = ap (λ (l : List Entry). slice_get l 0) t in
        let lt = up 0 (count + b.index) a b.entry (omega (arith, some)) (slice_get-front count entries 0 a at) (sym (slice_get-drop count entries b.index) ∙ b.here) in
        omega (arith, key, lt, b.key_is)
      where
        some_taken : (m : ℕ) → take m entries ≡ a ∷ taken → 0 < m
        some_taken zero t = absurd (no (sym (take_none entries) ∙ t))
          where
            no : ◌≡◌ {A = List Entry} [] (a ∷ taken) → ⊥
            no k = cc
        some_taken (suc m) t = omega arith

-- the points of the pages
abbrev pub points_from : ℕ → List ℕ → List Entry → List (ℕ × ℕ)
points_from number counts entries = map (λ page. (page_key page, page.0)) (pages_from number counts entries)

-- a page with rows has its point among them
pub record IsPoint (points : List (ℕ × ℕ)) (key number : ℕ) : Type 0 where
  pub index : ℕ
  pub within : index < length points
  pub here : point_at points index ≡ (key, number)

pub point-of : (first : ℕ → Option ℕ) (number : ℕ) (counts : List ℕ) (entries : List Entry) (n key : ℕ) → AreFirsts first number counts entries → sum counts ≤ length entries → number ≤ n → n < number + length counts →
    first n ≡ Some key → IsPoint (points_from number counts entries) key n
point-of first number [] entries n key firsts enough from less e = absurd (omega (arith, from, less))
point-of first number (zero ∷ counts) entries n key firsts enough from less e = ⊎_elim
    (λ after.
    let total = sum-cons 0 counts in
    point-of first (number + 1) counts entries n key (subst (λ (l : List Entry). AreFirsts first (number + 1) counts l) (drop_none entries) firsts.1) (omega (arith, total, enough)) (omega arith) (omega (arith, less)) e)
    (λ here. let same : number ≡ n = omega (arith, from) in absurd (none-some key (sym (firsts.0 ∙ ap key_of (take_none entries)) ∙ (ap first same ∙ e))))
    (cases_lt number n)
point-of first number (suc c ∷ counts) [] n key firsts enough from less e = let total = sum-cons (suc c) counts in absurd (omega (arith, total, enough))
point-of first number (suc c ∷ counts) (entry ∷ entries) n key firsts enough from less e = ⊎_elim
    (λ after.
    let total = sum-cons (suc c) counts in
    let p = point-of first (number + 1) counts (drop c entries) n key firsts.1 (omega (arith, total, enough, length-drop c entries)) (omega arith) (omega (arith, less)) e in
    let step : points_from number (suc c ∷ counts) (entry ∷ entries) ≡ (entry.kept.key, number) ∷ points_from (number + 1) counts (drop c entries) =
    ap (λ (l : List (ℕ × List Entry)). map (λ page. (page_key page, page.0)) l) (pages-suc number c counts entry entries) in
    let many = ap length step in
    record { index = suc p.index; within = omega (arith, p.within, many); here = ap (λ (l : List (ℕ × ℕ)). point_at l (suc p.index)) step ∙ p.here })
    (λ here.
    let same : number ≡ n = omega (arith, from) in
    let k : ◌≡◌ {A = Option ℕ} (Some entry.kept.key) (Some key) = sym firsts.0 ∙ (ap first same ∙ e) in
    let is : entry.kept.key ≡ key = cc in
    let step : points_from number (suc c ∷ counts) (entry ∷ entries) ≡ (entry.kept.key, number) ∷ points_from (number + 1) counts (drop c entries) =
    ap (λ (l : List (ℕ × List Entry)). map (λ page. (page_key page, page.0)) l) (pages-suc number c counts entry entries) in
    let many = ap length step in
    record { index = 0; within = omega (arith, many); here = ap (λ (l : List (ℕ × ℕ)). point_at l 0) step ∙ (ap (λ k. (k, number)) is ∙ ap (λ m. (key, m)) same) })
    (cases_lt number n)

pub point-behind : (older points : List (ℕ × ℕ)) (key number : ℕ) → IsPoint points key number → IsPoint (older ++ points) key number
point-behind [] points key number p = p
point-behind (q ∷ older) points key number p =
    let b = point-behind older points key number p in record { index = suc b.index; within = omega (arith, b.within); here = b.here }
