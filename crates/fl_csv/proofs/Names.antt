-- The names of a table's columns, one after another.
use Rattle.std.proofs.Common.{◌≡◌, ℕ, ◌+◌, ◌<◌, ◌≤◌, zero, suc, Bool, true, false, List, [], ◌∷◌, ◌++◌, Some, length, get_or, refl, sym, ◌∙◌, ap, arith, codes, decimal, length-append, if◌then◌else◌}
use Rattle.std.specs.Bool.{OnTrue, OnFalse}
use Rattle.fl_csv.specs.Lines.{wanted_fields}
use Rattle.fl_csv.specs.Text.{column_names, header_fields}

-- the name of a column, from 1
abbrev pub column_name : ℕ → List ℕ
column_name n = codes "c" ++ decimal n

abbrev last : Bool → List (List ℕ)
last blobs = if blobs then codes "blob" ∷ [] else []

names-length : (first count : ℕ) → length (column_names first count) ≡ count
names-length first zero = refl
names-length first (suc count) = ap suc (names-length (first + 1) count)

last-length : (blobs : Bool) (columns : ℕ) → suc (columns + length (last blobs)) ≡ wanted_fields columns blobs
last-length true columns = omega arith
last-length false columns = omega arith

pub header-length : (columns : ℕ) (blobs : Bool) → length (header_fields columns blobs) ≡ wanted_fields columns blobs
header-length columns blobs = ap suc (length-append (column_names 1 columns) (last blobs) ∙ ap (λ n. n + length (last blobs)) (names-length 1 columns)) ∙ last-length blobs columns

name-at : (first count i : ℕ) (others : List (List ℕ)) → i < count → get_or (column_names first count ++ others) i [] ≡ column_name (first + i)
name-at first zero i others lt = absurd (omega (arith, lt))
name-at first (suc count) zero others lt =
    let here : first + 0 ≡ first = omega arith in
    ap column_name (sym here)
name-at first (suc count) (suc i) others lt =
    let there : first + 1 + i ≡ first + suc i = omega arith in
    name-at (first + 1) count i others (omega (arith, lt)) ∙ ap column_name there

behind-names : (first count : ℕ) (field : List ℕ) → get_or (column_names first count ++ field ∷ []) count [] ≡ field
behind-names first zero field = refl
behind-names first (suc count) field = behind-names (first + 1) count field

pub column-at : (columns : ℕ) (blobs : Bool) (i : ℕ) → i < columns → get_or (header_fields columns blobs) (i + 1) [] ≡ column_name (i + 1)
column-at columns blobs i lt =
    let next : i + 1 ≡ suc i = omega arith in
    let place : 1 + i ≡ i + 1 = omega arith in
    ap (λ n. get_or (header_fields columns blobs) n []) next ∙ (name-at 1 columns i (last blobs) lt ∙ ap column_name place)

pub blob-at : (columns : ℕ) → get_or (header_fields columns true) (columns + 1) [] ≡ codes "blob"
blob-at columns =
    let next : columns + 1 ≡ suc columns = omega arith in
    ap (λ n. get_or (header_fields columns true) n []) next ∙ behind-names 1 columns (codes "blob")

-- fields of which each has its name are the names
names-all : (first count : ℕ) (fields others : List (List ℕ)) → length fields ≡ count + length others → ((i : ℕ) → i < count → get_or fields i [] ≡ column_name (first + i))
    → ((i : ℕ) → i < length others → get_or fields (count + i) [] ≡ get_or others i []) → fields ≡ column_names first count ++ others
names-all first zero [] [] len names behind = refl
names-all first zero [] (other ∷ others) len names behind = absurd (omega (arith, len))
names-all first zero (field ∷ fields) [] len names behind = absurd (omega (arith, len))
names-all first zero (field ∷ fields) (other ∷ others) len names behind =
    let head : field ≡ other = behind 0 (omega arith) in
    let tail = names-all first zero fields others (omega (arith, len)) (λ i lt. absurd (omega (arith, lt)))
    (λ i lt. let there : 0 + suc i ≡ suc (0 + i) = omega arith in ap (λ n. get_or (field ∷ fields) n []) (sym there) ∙ behind (suc i) (omega (arith, lt))) in
    ap (λ f. f ∷ fields) head ∙ ap (λ l. other ∷ l) tail
names-all first (suc count) [] others len names behind = absurd (omega (arith, len))
names-all first (suc count) (field ∷ fields) others len names behind =
    let here : first + 0 ≡ first = omega arith in
    let head : field ≡ column_name first = names 0 (omega arith) ∙ ap column_name here in
    let tail = names-all (first + 1) count fields others (omega (arith, len))
    (λ i lt. let there : first + suc i ≡ first + 1 + i = omega arith in names (suc i) (omega (arith, lt)) ∙ ap column_name there)
    (λ i lt. let there : suc count + i ≡ suc (count + i) = omega arith in ap (λ n. get_or (field ∷ fields) n []) (sym there) ∙ behind i lt) in
    ap (λ f. f ∷ fields) head ∙ ap (λ l. column_name first ∷ l) tail

pub more-wanted : (columns : ℕ) (blobs : Bool) → columns < wanted_fields columns blobs
more-wanted columns true = omega arith
more-wanted columns false = omega arith

-- as many fields as no names
pub not-names : (columns : ℕ) (blobs : Bool) (all : List (List ℕ)) → (length all ≡ wanted_fields columns blobs → ⊥) → Some all ≡ Some (header_fields columns blobs) → ⊥
not-names columns blobs all other is =
    let same : all ≡ header_fields columns blobs = cc in
    other (ap (λ l. length l) same ∙ header-length columns blobs)

pub too-many : (columns : ℕ) (blobs : Bool) (all : List (List ℕ)) → columns ≤ 8 → 10 < length all → length all ≡ wanted_fields columns blobs → ⊥
too-many columns true all few many is = omega (arith, few, many, is)
too-many columns false all few many is = omega (arith, few, many, is)

pub on-true : (b : Bool) (A B : Type 0) → (A → B) → OnTrue b A → OnTrue b B
on-true true A B f h = f h
on-true false A B f h = tt

pub on-false : (b : Bool) (A B : Type 0) → (A → B) → OnFalse b A → OnFalse b B
on-false true A B f h = tt
on-false false A B f h = f h

-- the fields, by the first, those of the columns, and the last
module _ (columns : ℕ) (fields : List (List ℕ)) (names : (i : ℕ) → i < columns → get_or fields (i + 1) [] ≡ column_name (i + 1)) (key : get_or fields 0 [] ≡ codes "key") where
  names-from : (blobs : Bool) → length fields ≡ wanted_fields columns blobs → ((i : ℕ) → i < length (last blobs) → get_or fields (suc (columns + i)) [] ≡ get_or (last blobs) i []) → fields ≡ header_fields columns blobs
  names-from blobs len behind = by fields len key names behind
    where
      by : (fs : List (List ℕ)) → length fs ≡ wanted_fields columns blobs → get_or fs 0 [] ≡ codes "key" → ((i : ℕ) → i < columns → get_or fs (i + 1) [] ≡ column_name (i + 1))
          → ((i : ℕ) → i < length (last blobs) → get_or fs (suc (columns + i)) [] ≡ get_or (last blobs) i []) → fs ≡ header_fields columns blobs
      by [] len key names behind = absurd (omega (arith, len, last-length blobs columns))
      by (first ∷ rest) len key names behind =
          let tail = names-all 1 columns rest (last blobs) (omega (arith, len, last-length blobs columns))
          (λ i lt. let next : suc i ≡ i + 1 = omega arith in let place : i + 1 ≡ 1 + i = omega arith in ap (λ n. get_or (first ∷ rest) n []) next ∙ (names i lt ∙ ap column_name place))
          behind in
          ap (λ f. f ∷ rest) key ∙ ap (λ l. codes "key" ∷ l) tail

  pub names-plain : length fields ≡ wanted_fields columns false → fields ≡ header_fields columns false
  names-plain len = names-from false len (λ i lt. absurd (omega (arith, lt)))

  pub names-blob : length fields ≡ wanted_fields columns true → get_or fields (columns + 1) [] ≡ codes "blob" → fields ≡ header_fields columns true
  names-blob len blob = names-from true len at
    where
      at : (i : ℕ) → i < 1 → get_or fields (suc (columns + i)) [] ≡ get_or (codes "blob" ∷ []) i []
      at zero lt =
          let place : suc (columns + 0) ≡ columns + 1 = omega arith in
          ap (λ n. get_or fields n []) place ∙ blob
      at (suc i) lt = absurd (omega (arith, lt))
