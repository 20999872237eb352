-- The columns in a word, part by part.
use Rattle.std.proofs.Common.{◌≡◌, ◌↔◌, ℕ, ◌+◌, ◌<◌, ◌≤◌, Bool, true, false, nat_le, nat_lt, Option, Some, None, Result, Ok, Err, IsOk, OnOk, OnErr, inl, inr, List, [], ◌∷◌, ◌++◌, length, map, take, drop, get_or, append_assoc, append-nil, length-append, arith, refl, sym, ◌∙◌, ap, subst}
use Rattle.std.specs.Prelude.{is_ok}
use Rattle.std.proofs.lemmas.List.{at_drop_more, at_drop_all, take-append-le, take_all, length-take-le, length-map}
use Rattle.std.proofs.lemmas.Bool.{cases_lt, false≢true}
use Rattle.std.proofs.lemmas.Bool.Decides.{nat_tests}
use Rattle.fl_model.specs.Record.{Column}
use Rattle.fl_words.specs.Config.{ColumnType as bad_type, ColumnCount as bad_count, cons_column, column_named, columns_named, columns_in, first_fault}
use Rattle.fl_words.specs.Parts.{comma_parts}
use Rattle.fl_schema.specs.declared.column.ColumnType.{ColumnType}
use Rattle.fl_schema.specs.Types.{column_of}
use Rattle.fl_config.specs.Lines.{word_faults}

-- the columns so far before the others
abbrev pub onto : List Column → Option (List Column) → Option (List Column)
onto done None = None
onto done (Some columns) = Some (done ++ columns)

-- so many parts were seen, and the first eight are kept
pub record Seen (parts : List (List ℕ)) (k : ℕ) (items : List ColumnType) (fits : Bool) : Type 0 where
  pub seen : List ColumnType
  pub so_far : columns_named parts ≡ onto (map column_of seen) (columns_named (drop k parts))
  pub kept : items ≡ take 8 seen
  pub fits_is : fits ≡ nat_le (length seen) 8

onto-more : (done : List Column) (column : Column) (columns : Option (List Column)) → onto done (cons_column (Some column) columns) ≡ onto (done ++ column ∷ []) columns
onto-more done column None = refl
onto-more done column (Some columns) = ap (λ l. Some l) (sym (append_assoc done (column ∷ []) columns))

named-drop : (parts : List (List ℕ)) (k : ℕ) (part : List ℕ) → k < length parts → part ≡ get_or parts k part →
    columns_named (drop k parts) ≡ cons_column (column_named part) (columns_named (drop (k + 1) parts))
named-drop parts k part lt is =
    at_drop_more columns_named parts k part lt ∙ ap (λ p. cons_column (column_named p) (columns_named (drop (k + 1) parts))) (sym is)

map-push : (seen : List ColumnType) (of : ColumnType) → map column_of seen ++ column_of of ∷ [] ≡ map column_of (seen ++ of ∷ [])
map-push [] of = refl
map-push (x ∷ seen) of = ap (λ l. column_of x ∷ l) (map-push seen of)

-- a list of eight at most, one pushed where there is room
pub record Pushes (old new : List ColumnType) (of : ColumnType) (fits : Bool) : Type 0 where
  pub some : length old < 8 → (new ≡ old ++ of ∷ []) × (fits ≡ true)
  pub full : 8 ≤ length old → (new ≡ old) × (fits ≡ false)

take-short : (seen : List ColumnType) → length seen ≤ 8 → take 8 seen ≡ seen
take-short seen le = take_all 8 seen le

pushed : (seen items new : List ColumnType) (fits : Bool) (of : ColumnType) → items ≡ take 8 seen → Pushes items new of fits → (new ≡ take 8 (seen ++ of ∷ [])) × (fits ≡ nat_le (length (seen ++ of ∷ [])) 8)
pushed seen items new fits of kept pushes =
    elim (cases_lt (length seen) 8) [
      | inl few ↦
          let all : items ≡ seen = kept ∙ take-short seen (omega (arith, few)) in
          let some = pushes.some (subst (λ (l : List ColumnType). length l < 8) (sym all) few) in
          let short : length (seen ++ of ∷ []) ≤ 8 = omega (arith, few, length-append seen (of ∷ [])) in
          let is : nat_le (length (seen ++ of ∷ [])) 8 ≡ true = grind (arith, nat_tests, short) in
          (some.0 ∙ ap (λ (l : List ColumnType). l ++ of ∷ []) all ∙ sym (take-short (seen ++ of ∷ []) short), some.1 ∙ sym is)
      | inr many ↦
          let full = pushes.full (omega (arith, ap (λ (l : List ColumnType). length l) kept, length-take-le 8 seen many)) in
          let is : nat_le (length (seen ++ of ∷ [])) 8 ≡ false = grind (arith, nat_tests, many, length-append seen (of ∷ [])) in
          (full.0 ∙ kept ∙ sym (take-append-le 8 seen (of ∷ []) many), full.1 ∙ sym is)
    ]

pub seen-next : (parts : List (List ℕ)) (k : ℕ) (items new : List ColumnType) (fits fits' : Bool) (part : List ℕ) (of : ColumnType) →
    Seen parts k items fits → k < length parts → part ≡ get_or parts k part → column_named part ≡ Some (column_of of) →
    Pushes items new of fits' → Seen parts (k + 1) new fits'
seen-next parts k items new fits fits' part of before lt is named pushes = record {
  seen = before.seen ++ of ∷ [];
  so_far = before.so_far ∙ ap (λ o. onto (map column_of before.seen) o)
      (named-drop parts k part lt is ∙ ap (λ c. cons_column c (columns_named (drop (k + 1) parts))) named)
      ∙ onto-more (map column_of before.seen) (column_of of) (columns_named (drop (k + 1) parts))
      ∙ ap (λ l. onto l (columns_named (drop (k + 1) parts))) (map-push before.seen of);
  kept = (pushed before.seen items new fits' of before.kept pushes).0;
  fits_is = (pushed before.seen items new fits' of before.kept pushes).1;
}

-- a part that is no name
pub seen-bad : (parts : List (List ℕ)) (k : ℕ) (items : List ColumnType) (fits : Bool) (part : List ℕ) →
    Seen parts k items fits → k < length parts → part ≡ get_or parts k part → column_named part ≡ None → columns_named parts ≡ None
seen-bad parts k items fits part before lt is none =
    before.so_far ∙ ap (λ o. onto (map column_of before.seen) o)
    (named-drop parts k part lt is ∙ ap (λ c. cons_column c (columns_named (drop (k + 1) parts))) none)

-- all parts were seen
pub seen-all : (parts : List (List ℕ)) (k : ℕ) (items : List ColumnType) (fits : Bool) → (before : Seen parts k items fits) → length parts ≤ k →
    columns_named parts ≡ Some (map column_of before.seen)
seen-all parts k items fits before le =
    before.so_far ∙ ap (λ o. onto (map column_of before.seen) o) (at_drop_all columns_named parts k le) ∙ ap (λ l. Some l) (append-nil (map column_of before.seen))

-- what the tests of the word say then
pub word-bad : (word : List ℕ) → columns_in word ≡ None → first_fault (word_faults word) ≡ Some bad_type
word-bad word none = rw none refl

pub word-good : (word : List ℕ) (k : ℕ) (items : List ColumnType) → (before : Seen (comma_parts word) k items true) → length (comma_parts word) ≤ k →
    (columns_in word ≡ Some (map column_of items)) × (first_fault (word_faults word) ≡ None)
word-good word k items before le =
    let few : length before.seen ≤ 8 = grind (arith, nat_tests, before.fits_is) in
    let all : items ≡ before.seen = before.kept ∙ take-short before.seen few in
    let is : columns_in word ≡ Some (map column_of before.seen) = seen-all (comma_parts word) k items true before le in
    let short : nat_lt 8 (length (map column_of before.seen)) ≡ false = grind (arith, nat_tests, few, length-map before.seen column_of) in
    (is ∙ ap (λ (l : List ColumnType). Some (map column_of l)) (sym all), rw is (rw short refl))

pub word-long : (word : List ℕ) (k : ℕ) (items : List ColumnType) → (before : Seen (comma_parts word) k items false) → length (comma_parts word) ≤ k →
    first_fault (word_faults word) ≡ Some bad_count
word-long word k items before le =
    let is : columns_in word ≡ Some (map column_of before.seen) = seen-all (comma_parts word) k items false before le in
    let long : nat_lt 8 (length (map column_of before.seen)) ≡ true = grind (arith, nat_tests, before.fits_is, length-map before.seen column_of) in
    rw is (rw long refl)

pub pushes-result : {E V : Type 0} (items : V → List ColumnType) (old new : V) (of : ColumnType) (result : Result (Unit {0}) E) → IsOk result ↔ (length (items old) < 8) →
    OnOk result (items new ≡ items old ++ of ∷ []) → OnErr result (new ≡ old) → Pushes (items old) (items new) of (is_ok result)
pushes-result items old new of (Ok done) fits pushed same = record { some = λ lt. (pushed, refl); full = λ ge. absurd (omega (arith, ge, fits.0 refl)) }
pushes-result items old new of (Err e) fits pushed same = record { some = λ lt. absurd (false≢true (fits.1 lt)); full = λ ge. (ap items same, refl) }
