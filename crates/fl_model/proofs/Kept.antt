-- The records of a table, cut by the counts of its pages.
use Rattle.std.proofs.Common.{◌≡◌, ℕ, ◌+◌, ◌-◌, ◌<◌, ◌≤◌, Some, None, List, [], ◌∷◌, ◌++◌, length, take, drop, sym, ◌∙◌, ap, arith, ◌⊎◌, inl, inr, length-append, length-drop, length-take}
use Rattle.std.proofs.lemmas.Bool.{cases_lt}
use Rattle.std.proofs.lemmas.List.Sums.{sum_by_push, sum_by-take-drop}
use Rattle.std.specs.List.{slice_get, AllByRecursion, last_or, sum}
use Rattle.std.proofs.lemmas.Option.{none-some}
use Rattle.fl_model.specs.Record.{Plan, rows_per_page}
use Rattle.fl_model.specs.Table.{Entry}
use Rattle.fl_model.specs.Facts.{FitsPlan}
use Rattle.fl_model.proofs.Lists.{slice_get-drop, slice_get-front, slice_get-push, slice_get-short, slice_get-some, last_or-get, each-drop, each-take, each-push}

-- records that fit, in ascending order, of which the last ones are pending and the others stand in pages
pub record AreKept (plan : Plan) (entries : List Entry) (counts : List ℕ) (pending : ℕ) : Type 0 where
  pub fit : AllByRecursion (FitsPlan plan) entries
  pub counted : sum counts + pending ≡ length entries
  pub few_rows : AllByRecursion (λ count. count ≤ rows_per_page plan) counts
  pub ascending : (i j : ℕ) (a b : Entry) → i < j → slice_get entries i ≡ Some a → slice_get entries j ≡ Some b → a.kept.key < b.kept.key

-- the pending ones become a page
pub kept-push : (plan : Plan) (entries : List Entry) (counts : List ℕ) (pending : ℕ) → AreKept plan entries counts pending → pending ≤ rows_per_page plan →
    AreKept plan entries (counts ++ pending ∷ []) 0
kept-push plan entries counts pending h few = record {
  fit = h.fit;
  counted = omega (arith, sum_by_push (λ (n : ℕ). n) counts pending, h.counted);
  few_rows = each-push (λ count. count ≤ rows_per_page plan) counts pending h.few_rows few;
  ascending = h.ascending;
}

-- the oldest pages go
pub kept-drop : (plan : Plan) (entries : List Entry) (counts : List ℕ) (pages : ℕ) → AreKept plan entries counts 0 →
    AreKept plan (drop (sum (take pages counts)) entries) (drop pages counts) 0
kept-drop plan entries counts pages h = record {
  fit = each-drop (FitsPlan plan) (sum (take pages counts)) entries h.fit;
  counted = omega (arith, sum_by-take-drop (λ (n : ℕ). n) counts pages, h.counted, length-drop (sum (take pages counts)) entries);
  few_rows = each-drop (λ count. count ≤ rows_per_page plan) pages counts h.few_rows;
  ascending = λ i j a b lt e k.
      h.ascending (sum (take pages counts) + i) (sum (take pages counts) + j) a b (omega arith)
      (sym (slice_get-drop (sum (take pages counts)) entries i) ∙ e) (sym (slice_get-drop (sum (take pages counts)) entries j) ∙ k);
}

-- the pending ones are lost
pub kept-lose : (plan : Plan) (entries : List Entry) (counts : List ℕ) (pending : ℕ) → AreKept plan entries counts pending →
    AreKept plan (take (length entries - pending) entries) counts 0
kept-lose plan entries counts pending h = record {
  fit = each-take (FitsPlan plan) (length entries - pending) entries h.fit;
  counted = omega (arith, h.counted, length-take (length entries - pending) entries);
  few_rows = h.few_rows;
  ascending = λ i j a b lt e k. h.ascending i j a b lt (slice_get-front _ entries i a e) (slice_get-front _ entries j b k);
}

-- the key of the last record is the greatest
pub last-greatest : (entries : List Entry) (last : Entry) →
    ((i j : ℕ) (a b : Entry) → i < j → slice_get entries i ≡ Some a → slice_get entries j ≡ Some b → a.kept.key < b.kept.key) →
    last_or None entries ≡ Some last → (i : ℕ) (a : Entry) → slice_get entries i ≡ Some a → a.kept.key ≤ last.kept.key
last-greatest [] last asc e i a k = absurd (none-some last e)
last-greatest (x ∷ xs) last asc e i a k =
    let short = slice_get-short (x ∷ xs) i a k in
    let at_end : slice_get (x ∷ xs) (length xs) ≡ Some last = sym (last_or-get None x xs) ∙ e in
    elim (least i (length xs) (omega (arith, short))) [
      | inl lt ↦ let less = asc i (length xs) a last lt k at_end in omega (arith, less)
      | inr same ↦ let one : Some a ≡ Some last = sym k ∙ (ap (slice_get (x ∷ xs)) same ∙ at_end) in let both : a ≡ last = cc in let keys : a.kept.key ≡ last.kept.key = ap (λ (y : Entry). y.kept.key) both in omega (arith, keys)
    ]
  where
    least : (m n : ℕ) → m ≤ n → (m < n) ⊎ (m ≡ n)
    least m n h = elim (cases_lt m n) [ inl lt ↦ inl lt | inr le ↦ inr (omega arith) ]

-- a record with a greater key joins them
pub kept-record : (plan : Plan) (entries : List Entry) (counts : List ℕ) (pending : ℕ) (entry : Entry) → AreKept plan entries counts pending → FitsPlan plan entry →
    ((last : Entry) → last_or None entries ≡ Some last → last.kept.key < entry.kept.key) → AreKept plan (entries ++ entry ∷ []) counts (pending + 1)
kept-record plan entries counts pending entry h fits above = record {
  fit = each-push (FitsPlan plan) entries entry h.fit fits;
  counted = omega (arith, h.counted, length-append entries (entry ∷ []));
  few_rows = h.few_rows;
  ascending = λ i j a b lt e k. by_place i j a b lt (slice_get-push entries entry i a e) (slice_get-push entries entry j b k);
}
  where
    last_of : (xs : List Entry) (i : ℕ) (a : Entry) → slice_get xs i ≡ Some a → (last : Entry) × (last_or None xs ≡ Some last)
    last_of [] i a e = absurd (none-some a e)
    last_of (x ∷ xs) i a e = let l = slice_get-some (x ∷ xs) (length xs) (omega arith) in (l.0, last_or-get None x xs ∙ l.1)

    by_place : (i j : ℕ) (a b : Entry) → i < j → (slice_get entries i ≡ Some a) ⊎ ((i ≡ length entries) × (entry ≡ a)) → (slice_get entries j ≡ Some b) ⊎ ((j ≡ length entries) × (entry ≡ b)) → a.kept.key < b.kept.key
    by_place i j a b lt (inl e) (inl k) = h.ascending i j a b lt e k
    by_place i j a b lt (inl e) (inr k) =
        let last = last_of entries i a e in
        let most = last-greatest entries last.0 h.ascending last.1 i a e in
        let more = above last.0 last.1 in
        let same : entry.kept.key ≡ b.kept.key = ap (λ (y : Entry). y.kept.key) k.1 in
        omega (arith, most, more, same)
    by_place i j a b lt (inr e) (inl k) = let short = slice_get-short entries j b k in absurd (omega (arith, short, e.0))
    by_place i j a b lt (inr e) (inr k) = absurd (omega (arith, e.0, k.0))
