-- The bodies of a table's data pages, as its records are cut by counts.
use Rattle.std.proofs.Common.{◌≡◌, ℕ, zero, suc, ◌+◌, ◌-◌, ◌≤◌, ◌==◌, Option, Some, None, List, [], ◌∷◌, ◌++◌, length, take, drop, get_or, refl, sym, ◌∙◌, ap, arith, if◌then◌else◌}
use Rattle.std.proofs.lemmas.List.Sums.{sum_by-cons}
use Rattle.std.proofs.lemmas.List.{drop-drop, take-take}
use Rattle.std.specs.List.{slice_get, sum}
use Rattle.std.proofs.lemmas.Option.{none-some}
use Rattle.fl_model.specs.Record.{Plan}
use Rattle.fl_model.specs.Table.{Entry}
use Rattle.fl_model.specs.Layout.{data_body}
use Rattle.fl_model.proofs.Lists.{drop_none, take_none, drop-in-take}

-- the body of a page with so many of these records, or none where it is void
abbrev pub page_with : Plan → ℕ → ℕ → List Entry → Option (List ℕ)
page_with plan number count entries = if count == 0 then None else Some (data_body plan number (take count entries))

-- the bodies of pages from a number on
abbrev pub pages_from : Plan → ℕ → List Entry → List ℕ → List (Option (List ℕ))
pages_from plan number entries [] = []
pages_from plan number entries (count ∷ counts) = page_with plan number count entries ∷ pages_from plan (number + 1) (drop count entries) counts

pub pages-length : (plan : Plan) (number : ℕ) (entries : List Entry) (counts : List ℕ) → length (pages_from plan number entries counts) ≡ length counts
pages-length plan number entries [] = refl
pages-length plan number entries (count ∷ counts) = ap suc (pages-length plan (number + 1) (drop count entries) counts)

-- dropping a first part and then more
drop_more : (c : ℕ) (counts : List ℕ) (entries : List Entry) → drop (sum counts) (drop c entries) ≡ drop (sum (c ∷ counts)) entries
drop_more c counts entries = drop-drop (sum counts) c entries ∙ ap (λ n. drop n entries) (sym (sum_by-cons (λ (n : ℕ). n) c counts))

-- one page more
pub pages-push : (plan : Plan) (number : ℕ) (entries : List Entry) (counts : List ℕ) (count : ℕ) →
    pages_from plan number entries (counts ++ count ∷ []) ≡ pages_from plan number entries counts ++ page_with plan (number + length counts) count (drop (sum counts) entries) ∷ []
pages-push plan number entries [] count =
    let e : number ≡ number + 0 = omega arith in
    ap (λ (x : Option (List ℕ)). x ∷ []) (ap (λ n. page_with plan n count entries) e ∙ ap (page_with plan (number + 0) count) (sym (drop_none entries)))
pages-push plan number entries (c ∷ counts) count =
    let e : number + 1 + length counts ≡ number + suc (length counts) = omega arith in
    ap (λ (xs : List (Option (List ℕ))). page_with plan number c entries ∷ xs)
    (pages-push plan (number + 1) (drop c entries) counts count
    ∙ ap (λ (x : Option (List ℕ)). pages_from plan (number + 1) (drop c entries) counts ++ x ∷ [])
    (ap (λ n. page_with plan n count (drop (sum counts) (drop c entries))) e ∙ ap (page_with plan (number + suc (length counts)) count) (drop_more c counts entries)))

-- without the first pages
pub pages-drop : (plan : Plan) (number : ℕ) (entries : List Entry) (counts : List ℕ) (pages : ℕ) → pages ≤ length counts →
    drop pages (pages_from plan number entries counts) ≡ pages_from plan (number + pages) (drop (sum (take pages counts)) entries) (drop pages counts)
pages-drop plan number entries counts zero h =
    let e : number ≡ number + 0 = omega arith in
    drop_none (pages_from plan number entries counts)
    ∙ (ap (λ n. pages_from plan n entries counts) e
    ∙ (ap (λ (xs : List Entry). pages_from plan (number + 0) xs counts) (sym (drop_none entries) ∙ ap (λ n. drop n entries) (sym (ap sum (take_none counts))))
    ∙ ap (pages_from plan (number + 0) (drop (sum (take 0 counts)) entries)) (sym (drop_none counts))))
pages-drop plan number entries [] (suc pages) h = absurd (omega arith)
pages-drop plan number entries (c ∷ counts) (suc pages) h =
    let e : number + 1 + pages ≡ number + suc pages = omega arith in
    pages-drop plan (number + 1) (drop c entries) counts pages (omega arith)
    ∙ (ap (λ n. pages_from plan n (drop (sum (take pages counts)) (drop c entries)) (drop pages counts)) e
    ∙ ap (λ (xs : List Entry). pages_from plan (number + suc pages) xs (drop pages counts)) (drop_more c (take pages counts) entries))

-- each page
pub pages-at : (plan : Plan) (number : ℕ) (entries : List Entry) (counts : List ℕ) (i count : ℕ) → slice_get counts i ≡ Some count →
    get_or (pages_from plan number entries counts) i None ≡ page_with plan (number + i) count (drop (sum (take i counts)) entries)
pages-at plan number entries [] i count e = absurd (none-some count e)
pages-at plan number entries (c ∷ counts) zero count e =
    let same : c ≡ count = cc in
    let n : number ≡ number + 0 = omega arith in
    ap (λ (k : ℕ). page_with plan number k entries) same ∙ (ap (λ k. page_with plan k count entries) n ∙ ap (page_with plan (number + 0) count) (sym (drop_none entries)))
pages-at plan number entries (c ∷ counts) (suc i) count e =
    let n : number + 1 + i ≡ number + suc i = omega arith in
    pages-at plan (number + 1) (drop c entries) counts i count e
    ∙ (ap (λ k. page_with plan k count (drop (sum (take i counts)) (drop c entries))) n ∙ ap (page_with plan (number + suc i) count) (drop_more c (take i counts) entries))

drop_nothing : {X : Type 0} (n : ℕ) → let xs : List X = [] in drop n xs ≡ []
drop_nothing zero = refl
drop_nothing (suc n) = refl

take_nothing : {X : Type 0} (n : ℕ) → let xs : List X = [] in take n xs ≡ []
take_nothing zero = refl
take_nothing (suc n) = refl

-- records behind those of the pages don't count
pub pages-front : (plan : Plan) (number : ℕ) (entries : List Entry) (counts : List ℕ) (some : ℕ) → sum counts ≤ some →
    pages_from plan number (take some entries) counts ≡ pages_from plan number entries counts
pages-front plan number entries [] some h = refl
pages-front plan number entries (c ∷ counts) some h =
    let total = sum_by-cons (λ (n : ℕ). n) c counts in
    let few : c ≤ some = omega (arith, total, h) in
    let rest : drop c (take some entries) ≡ take (some - c) (drop c entries) = drop-in-take c some entries in
    let first : take c (take some entries) ≡ take c entries = take-take c some entries few in
    ap (λ (xs : List Entry). (if c == 0 then None else Some (data_body plan number xs)) ∷ pages_from plan (number + 1) (drop c (take some entries)) counts) first
    ∙ ap (λ (xs : List (Option (List ℕ))). page_with plan number c entries ∷ xs)
    (ap (λ (xs : List Entry). pages_from plan (number + 1) xs counts) rest ∙ pages-front plan (number + 1) (drop c entries) counts (some - c) (omega (arith, total, h)))
