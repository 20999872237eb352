-- The entry with a key: where it stands among the pages of a table.
use Rattle.std.proofs.Common.{◌≡◌, ℕ, zero, suc, ◌+◌, ◌-◌, ◌<◌, ◌≤◌, ◌⊎◌, inl, inr, ⊎_elim, true, false, Option, Some, None, option_map, List, [], ◌∷◌, length, map, take, drop, refl, sym, ◌∙◌, ap, arith}
use Rattle.std.specs.Prelude.{◌==◌}
use Rattle.std.specs.List.{slice_get, sum}
use Rattle.std.proofs.lemmas.Bool.{cases_lt, eq-eqb, ne_eqb, false≢true}
use Rattle.std.proofs.lemmas.Option.{none-some}
use Rattle.fl_model.specs.Row.{Row, stored_row}
use Rattle.fl_model.specs.Table.{Entry}
use Rattle.fl_model.specs.Query.{entry_at}
use Rattle.fl_model.proofs.Lists.{slice_get-some, slice_get-drop, slice_get-take, slice_get-front, slice_get-short, slice_get-mapped}
use Rattle.fl_search.specs.Search.{IsPageOf, starts_by}
use Rattle.fl_search.proofs.Pages.{starts-low, starts-high, starts-void}
use Rattle.fl_find.specs.Rows.{RowsRise, HasKey, LacksKey}
use Rattle.fl_find.proofs.Firsts.{key_of, Ascending, sum-cons}

tail : (entry : Entry) (entries : List Entry) → Ascending (entry ∷ entries) → Ascending entries
tail entry entries up i j a b less e f = up (suc i) (suc j) a b (omega (arith, less)) e f

-- an entry with the key is the one that is found
pub found-at : (key : ℕ) (entries : List Entry) (i : ℕ) (entry : Entry) → Ascending entries → slice_get entries i ≡ Some entry → entry.kept.key ≡ key → entry_at key entries ≡ Some entry
found-at key [] i entry up e k = absurd (none-some entry e)
found-at key (x ∷ entries) zero entry up e k =
    let same : x ≡ entry = cc in
    let test : (x.kept.key == key) ≡ true = eq-eqb x.kept.key key (ap (λ (y : Entry). y.kept.key) same ∙ k) in
    rw test (ap (λ (y : Entry). Some y) same)
found-at key (x ∷ entries) (suc i) entry up e k =
    let less = up 0 (suc i) x entry (omega arith) refl e in
    let test : (x.kept.key == key) ≡ false = ne_eqb x.kept.key key (λ s. absurd (omega (arith, less, s, k))) in
    let left = found-at key entries i entry (tail x entries up) e k in
    rw test left

-- where no entry has it, none is
pub found-none : (key : ℕ) (entries : List Entry) → ((i : ℕ) (entry : Entry) → slice_get entries i ≡ Some entry → entry.kept.key ≡ key → ⊥) → entry_at key entries ≡ None
found-none key [] none = refl
found-none key (x ∷ entries) none =
    let test : (x.kept.key == key) ≡ false = ne_eqb x.kept.key key (λ s. none 0 x refl s) in
    let left = found-none key entries (λ i entry e k. none (suc i) entry e k) in
    rw test left

-- the page of an entry
pub record StandsIn (counts : List ℕ) (i : ℕ) : Type 0 where
  pub page : ℕ
  pub count : ℕ
  pub at : slice_get counts page ≡ Some count
  pub from : sum (take page counts) ≤ i
  pub to : i < sum (take page counts) + count

pub stands-in : (counts : List ℕ) (i : ℕ) → i < sum counts → StandsIn counts i
stands-in [] i lt = absurd (omega (arith, lt))
stands-in (count ∷ counts) i lt = ⊎_elim
    (λ here. record { page = 0; count = count; at = refl; from = omega arith; to = omega (arith, here) })
    (λ later.
    let total = sum-cons count counts in
    let left = stands-in counts (i - count) (omega (arith, total, lt, later)) in
    let more = sum-cons count (take left.page counts) in
    record { page = suc left.page; count = left.count; at = left.at; from = omega (arith, more, left.from, later); to = omega (arith, more, left.to) })
    (cases_lt i count)

-- the rows of a page, the i-th one
abbrev pub part : List ℕ → List Entry → ℕ → ℕ → List Entry
part counts entries page count = take count (drop (sum (take page counts)) entries)

pub part-get : (counts : List ℕ) (entries : List Entry) (page count i : ℕ) (entry : Entry) → sum (take page counts) ≤ i → i < sum (take page counts) + count → slice_get entries i ≡ Some entry →
    slice_get (part counts entries page count) (i - sum (take page counts)) ≡ Some entry
part-get counts entries page count i entry from to e =
    slice_get-take count (drop (sum (take page counts)) entries) (i - sum (take page counts)) (omega (arith, from, to))
    ∙ (slice_get-drop (sum (take page counts)) entries (i - sum (take page counts)) ∙ (ap (slice_get entries) (omega (arith, from)) ∙ e))

pub part-entry : (counts : List ℕ) (entries : List Entry) (page count j : ℕ) (entry : Entry) → slice_get (part counts entries page count) j ≡ Some entry → slice_get entries (sum (take page counts) + j) ≡ Some entry
part-entry counts entries page count j entry e =
    sym (slice_get-drop (sum (take page counts)) entries j) ∙ slice_get-front count (drop (sum (take page counts)) entries) j entry e

pub part-ascends : (counts : List ℕ) (entries : List Entry) (page count : ℕ) → Ascending entries → Ascending (part counts entries page count)
part-ascends counts entries page count up i j a b less e f =
    up (sum (take page counts) + i) (sum (take page counts) + j) a b (omega (arith, less)) (part-entry counts entries page count i a e) (part-entry counts entries page count j b f)

-- the rows of entries in the order of their keys
pub row-entry : (entries : List Entry) (i : ℕ) (row : Row) → slice_get (map stored_row entries) i ≡ Some row → (entry : Entry) × (slice_get entries i ≡ Some entry) × (stored_row entry ≡ row)
row-entry [] i row e = absurd (none-some row e)
row-entry (x ∷ entries) zero row e = (x, refl, let same : stored_row x ≡ row = cc in same)
row-entry (x ∷ entries) (suc i) row e = row-entry entries i row e

pub entry-row : (entries : List Entry) (i : ℕ) (entry : Entry) → slice_get entries i ≡ Some entry → slice_get (map stored_row entries) i ≡ Some (stored_row entry)
entry-row entries i entry e = slice_get-mapped stored_row entries i entry e

pub rows-rise : (entries : List Entry) → Ascending entries → RowsRise (map stored_row entries)
rows-rise entries up i j a b less e f =
    let x = row-entry entries i a e in
    let y = row-entry entries j b f in
    let lt = up i j x.0 y.0 less x.1 y.1 in
    omega (arith, lt, ap (λ (r : Row). r.key) x.2, ap (λ (r : Row). r.key) y.2)

-- the entries of earlier pages come before
sums-mono : (counts : List ℕ) (p q count : ℕ) → p < q → slice_get counts p ≡ Some count → sum (take p counts) + count ≤ sum (take q counts)
sums-mono [] p q count less e = absurd (none-some count e)
sums-mono (d ∷ counts) p zero count less e = absurd (omega (arith, less))
sums-mono (d ∷ counts) zero (suc q) count less e = let same : d ≡ count = cc in let total = sum-cons d (take q counts) in omega (arith, same, total)
sums-mono (d ∷ counts) (suc p) (suc q) count less e =
    let left = sums-mono counts p q count (omega (arith, less)) e in
    let a = sum-cons d (take p counts) in
    let b = sum-cons d (take q counts) in
    omega (arith, left, a, b)

-- pages whose first keys are told by a function, over the entries of a table
module _ (first : ℕ → Option ℕ) (oldest : ℕ) (counts : List ℕ) (entries : List Entry) (up : Ascending entries) (enough : sum counts ≡ length entries)
    (told : (page count : ℕ) → slice_get counts page ≡ Some count → first (oldest + page) ≡ key_of (part counts entries page count)) where
  -- the page of an entry starts by its key
  starts : (i key : ℕ) (entry : Entry) (at : StandsIn counts i) → slice_get entries i ≡ Some entry → entry.kept.key ≡ key → starts_by first key (oldest + at.page) ≡ true
  starts i key entry at e k = by_head (slice_get entries (sum (take at.page counts))) refl
    where
      by_head : (o : Option Entry) → slice_get entries (sum (take at.page counts)) ≡ o → starts_by first key (oldest + at.page) ≡ true
      by_head None h = absurd (missing (cases_lt (sum (take at.page counts)) i))
        where
          missing : (sum (take at.page counts) < i) ⊎ (i ≤ sum (take at.page counts)) → ⊥
          missing (inl less) = short (sum (take at.page counts)) h (omega (arith, less, slice_get-short entries i entry e))
            where
              short : (n : ℕ) → slice_get entries n ≡ None → n < length entries → ⊥
              short n f lt = gone (slice_get-some entries n lt)
                where
                  gone : (x : Entry) × (slice_get entries n ≡ Some x) → ⊥
                  gone x = differ (sym f ∙ x.1)
                    where
                      differ : ◌≡◌ {A = Option Entry} None (Some x.0) → ⊥
                      differ q = cc
          missing (inr ge) = let same : sum (take at.page counts) ≡ i = omega (arith, ge, at.from) in none-some entry (sym h ∙ (ap (slice_get entries) same ∙ e))
      by_head (Some x) h =
          let here = part-get counts entries at.page at.count (sum (take at.page counts)) x (omega arith) (omega (arith, at.from, at.to)) h in
          let zero_is : sum (take at.page counts) - sum (take at.page counts) ≡ 0 = omega arith in
          let head : slice_get (part counts entries at.page at.count) 0 ≡ Some x = ap (slice_get (part counts entries at.page at.count)) (sym zero_is) ∙ here in
          let is : first (oldest + at.page) ≡ Some x.kept.key = told at.page at.count at.at ∙ ap (option_map (λ (y : Entry). y.kept.key)) head in
          starts-low first key (oldest + at.page) x.kept.key is (up_to (cases_lt (sum (take at.page counts)) i))
        where
          up_to : (sum (take at.page counts) < i) ⊎ (i ≤ sum (take at.page counts)) → x.kept.key ≤ key
          up_to (inl less) = let lt = up (sum (take at.page counts)) i x entry less h e in omega (arith, lt, k)
          up_to (inr ge) =
              let same : sum (take at.page counts) ≡ i = omega (arith, ge, at.from) in
              let twice : ◌≡◌ {A = Option Entry} (Some x) (Some entry) = sym h ∙ (ap (slice_get entries) same ∙ e) in
              let one : x ≡ entry = cc in
              omega (arith, ap (λ (y : Entry). y.kept.key) one, k)

  stands : (i : ℕ) (entry : Entry) → slice_get entries i ≡ Some entry → StandsIn counts i
  stands i entry e = stands-in counts i (omega (arith, enough, slice_get-short entries i entry e))

  -- no page, no entry
  pub lacks-page : (hi key : ℕ) → hi ≡ oldest + length counts → IsPageOf first oldest hi key None → entry_at key entries ≡ None
  lacks-page hi key hi_is none = found-none key entries (λ i entry e k.
      let at = stands i entry e in
      let within = slice_get-short counts at.page at.count at.at in
      false≢true (sym (none (oldest + at.page) (omega arith) (omega (arith, hi_is, within))) ∙ starts i key entry at e k))

  -- a row with the key is that of the entry
  pub has-row : (key page count row : ℕ) → slice_get counts page ≡ Some count → HasKey (map stored_row (part counts entries page count)) key row →
      (entry : Entry) × (entry_at key entries ≡ Some entry) × (slice_get (map stored_row (part counts entries page count)) row ≡ Some (stored_row entry))
  has-row key page count row at h =
      let x = row-entry (part counts entries page count) row h.row h.here in
      let same = ap (λ (r : Row). r.key) x.2 in
      (x.0, found-at key entries (sum (take page counts) + row) x.0 up (part-entry counts entries page count row x.0 x.1) (omega (arith, same, h.key_is)), entry-row (part counts entries page count) row x.0 x.1)

  -- where the page has no such row, there is no entry
  pub lacks-row : (hi key page count : ℕ) → hi ≡ oldest + length counts → slice_get counts page ≡ Some count → IsPageOf first oldest hi key (Some (oldest + page)) →
      LacksKey (map stored_row (part counts entries page count)) key → entry_at key entries ≡ None
  lacks-row hi key page count hi_is at is lacks = found-none key entries (λ i entry e k.
      let s = stands i entry e in
      let within = slice_get-short counts s.page s.count s.at in
      let begins = starts i key entry s e k in
      ⊎_elim
      (λ after. false≢true (sym (is.later (oldest + s.page) (omega (arith, after)) (omega (arith, hi_is, within))) ∙ begins))
      (λ upto. ⊎_elim
      (λ before. earlier i entry s e k before)
      (λ ge.
      let same : s.page ≡ page = omega (arith, upto, ge) in
      let counts_same : ◌≡◌ {A = Option ℕ} (Some s.count) (Some count) = sym s.at ∙ (ap (slice_get counts) same ∙ at) in
      let count_is : s.count ≡ count = cc in
      let sums = ap (λ p. sum (take p counts)) same in
      let got = part-get counts entries page count i entry (omega (arith, sums, s.from)) (omega (arith, sums, s.to, count_is)) e in
      lacks (i - sum (take page counts)) (stored_row entry) (entry-row (part counts entries page count) (i - sum (take page counts)) entry got) k)
      (cases_lt s.page page))
      (cases_lt page s.page))
    where
      -- an entry of an earlier page lies below the first key of this one
      earlier : (i : ℕ) (entry : Entry) (s : StandsIn counts i) → slice_get entries i ≡ Some entry → entry.kept.key ≡ key → s.page < page → ⊥
      earlier i entry s e k before = by_first (slice_get (part counts entries page count) 0) refl
        where
          by_first : (o : Option Entry) → slice_get (part counts entries page count) 0 ≡ o → ⊥
          by_first None h = void (told page count at ∙ ap (option_map (λ (y : Entry). y.kept.key)) h)
            where
              void : first (oldest + page) ≡ None → ⊥
              void f = false≢true (sym (starts-void first key (oldest + page) f) ∙ is.here)
          by_first (Some x) h =
              let first_is : first (oldest + page) ≡ Some x.kept.key = told page count at ∙ ap (option_map (λ (y : Entry). y.kept.key)) h in
              let sums = sums-mono counts s.page page s.count before s.at in
              let stand = part-entry counts entries page count 0 x h in
              let lt = up i (sum (take page counts) + 0) entry x (omega (arith, sums, s.to)) e stand in
              false≢true (sym (starts-high first key (oldest + page) x.kept.key first_is (omega (arith, lt, k))) ∙ is.here)
