-- Lists of first data pages.
use Rattle.std.proofs.Common.{◌≡◌, ℕ, zero, suc, ◌+◌, ◌<◌, ◌≤◌, ◌⊎◌, inl, inr, Option, Some, None, List, [], ◌∷◌, ◌++◌, length, map, take, drop, get_or, refl, sym, ◌∙◌, ap, arith, length-drop}
use Rattle.std.proofs.lemmas.Bool.{cases_lt}
use Rattle.std.specs.List.{slice_get, last_or}
use Rattle.std.specs.Option.{option_map, unwrap_or}
use Rattle.std.proofs.lemmas.Option.{none-some, same_Some}
use Rattle.fl_model.specs.Table.{full_pages}
use Rattle.fl_model.specs.Layout.{IndexPage}
use Rattle.fl_model.proofs.Lists.{slice_get-drop, slice_get-push, slice_get-short, slice_get-some, last_or-get, drop_none}
use Rattle.fl_model.proofs.FullPages.{full-split}

drop-empty : {X : Type 0} (k : ℕ) → let xs : List X = [] in drop k xs ≡ []
drop-empty zero = refl
drop-empty (suc k) = refl

-- the last of the others is the last of all, unless all are gone
pub last-drop : {X : Type 0} (k : ℕ) (xs : List X) → (last_or None (drop k xs) ≡ None) ⊎ (last_or None (drop k xs) ≡ last_or None xs)
last-drop zero xs = inr (ap (last_or None) (drop_none xs))
last-drop (suc k) [] = inl refl
last-drop {X} (suc k) (x ∷ []) = inl (ap (last_or None) (drop-empty {X = X} k))
last-drop (suc k) (x ∷ y ∷ ys) = last-drop k (y ∷ ys)

-- the end of the data pages that index pages of so many entries list
abbrev pub end_after : ℕ → List ℕ → ℕ
end_after X firsts = unwrap_or (option_map (λ page. page + X) (last_or None firsts)) 0

pub end-drop : (X k : ℕ) (firsts : List ℕ) → end_after X (drop k firsts) ≤ end_after X firsts
end-drop X k firsts = elim (last-drop k firsts) [
  | inl e ↦ let z : end_after X (drop k firsts) ≡ 0 = ap (λ (o : Option ℕ). unwrap_or (option_map (λ page. page + X) o) 0) e in omega (arith, z)
  | inr e ↦ let z : end_after X (drop k firsts) ≡ end_after X firsts = ap (λ (o : Option ℕ). unwrap_or (option_map (λ page. page + X) o) 0) e in omega (arith, z)
]

abbrev pub Ascend : ℕ → List ℕ → Type 0
Ascend X firsts = (i j a b : ℕ) → i < j → slice_get firsts i ≡ Some a → slice_get firsts j ≡ Some b → a + X ≤ b

-- each ends where the last does, or before
pub below-end : (X : ℕ) (firsts : List ℕ) (i a : ℕ) → Ascend X firsts → slice_get firsts i ≡ Some a → a + X ≤ end_after X firsts
below-end X [] i a asc e = absurd (none-some a e)
below-end X (x ∷ xs) i a asc e =
    let l = slice_get-some (x ∷ xs) (length xs) (omega arith) in
    let end : end_after X (x ∷ xs) ≡ l.0 + X = ap (λ (o : Option ℕ). unwrap_or (option_map (λ page. page + X) o) 0) (last_or-get None x xs ∙ l.1) in
    let short = slice_get-short (x ∷ xs) i a e in
    elim (cases_lt i (length xs)) [
      | inl lt ↦ omega (arith, asc i (length xs) a l.0 lt e l.1, end)
      | inr ge ↦ let k : i ≡ length xs = omega (arith, ge, short) in let same : a ≡ l.0 = same_Some _ _ (sym e ∙ (ap (slice_get (x ∷ xs)) k ∙ l.1)) in omega (arith, same, end)
    ]

pub ascend-drop : (X k : ℕ) (firsts : List ℕ) → Ascend X firsts → Ascend X (drop k firsts)
ascend-drop X k firsts asc i j a b lt e f = asc (k + i) (k + j) a b (omega arith) (sym (slice_get-drop k firsts i) ∙ e) (sym (slice_get-drop k firsts j) ∙ f)

pub ascend-push : (X page : ℕ) (firsts : List ℕ) → Ascend X firsts → end_after X firsts ≤ page → Ascend X (firsts ++ page ∷ [])
ascend-push X page firsts asc le i j a b lt e f = by_place (slice_get-push firsts page i a e) (slice_get-push firsts page j b f)
  where
    by_place : (slice_get firsts i ≡ Some a) ⊎ ((i ≡ length firsts) × (page ≡ a)) → (slice_get firsts j ≡ Some b) ⊎ ((j ≡ length firsts) × (page ≡ b)) → a + X ≤ b
    by_place (inl e) (inl f) = asc i j a b lt e f
    by_place (inl e) (inr f) = omega (arith, below-end X firsts i a asc e, le, f.1)
    by_place (inr e) (inl f) = absurd (omega (arith, slice_get-short firsts j b f, e.0, lt))
    by_place (inr e) (inr f) = absurd (omega (arith, e.0, f.0, lt))

pub get_or-end : {X : Type 0} (xs : List X) (y d : X) → get_or (xs ++ y ∷ []) (length xs) d ≡ y
get_or-end [] y d = refl
get_or-end (x ∷ xs) y d = get_or-end xs y d

-- as many are left as pages that aren't void
pub as-many-drop : {X : Type 0} (p : ℕ) (counts : List ℕ) (pages : List X) → length pages ≡ full_pages counts → length (drop (full_pages (take p counts)) pages) ≡ full_pages (drop p counts)
as-many-drop p counts pages h = omega (arith, length-drop (full_pages (take p counts)) pages, h, full-split p counts)

-- ---- the first data pages of index pages

abbrev pub firsts_of : List IndexPage → List ℕ
firsts_of pages = map (λ page. page.first) pages

pub firsts-get : (pages : List IndexPage) (k : ℕ) → slice_get (firsts_of pages) k ≡ option_map (λ page. page.first) (slice_get pages k)
firsts-get [] k = refl
firsts-get (p ∷ ps) zero = refl
firsts-get (p ∷ ps) (suc k) = firsts-get ps k

pub firsts-length : (pages : List IndexPage) → length (firsts_of pages) ≡ length pages
firsts-length [] = refl
firsts-length (p ∷ ps) = ap suc (firsts-length ps)

pub firsts-append : (xs ys : List IndexPage) → firsts_of (xs ++ ys) ≡ firsts_of xs ++ firsts_of ys
firsts-append [] ys = refl
firsts-append (x ∷ xs) ys = ap (λ (ns : List ℕ). x.first ∷ ns) (firsts-append xs ys)

pub firsts-drop : (k : ℕ) (xs : List IndexPage) → firsts_of (drop k xs) ≡ drop k (firsts_of xs)
firsts-drop zero [] = refl
firsts-drop zero (x ∷ xs) = refl
firsts-drop (suc k) [] = refl
firsts-drop (suc k) (x ∷ xs) = firsts-drop k xs
