-- The words of a line, one after another.
use Rattle.std.proofs.Common.{◌≡◌, ℕ, ◌+◌, ◌<◌, ◌≤◌, Bool, true, false, cond, List, [], ◌∷◌, ◌++◌, length, map, take, get_or, length-take-le, le_of_lt, append_assoc, lit≤, arith, refl, sym, ◌∙◌, ap}
use Rattle.std.specs.List.{join_with_byte}
use Rattle.std.proofs.lemmas.List.{take_more}
use Rattle.std.specs.Fmt.{digits}
use Rattle.fl_words.specs.Medium.{column_name}
use Rattle.fl_schema.specs.declared.column.ColumnType.{ColumnType}
use Rattle.fl_schema.specs.declared.column.ColumnType.TheVariants.{U8, I8, U16, I16, U32, I32, I64}
use Rattle.fl_schema.specs.Types.{name_of, column_of}

-- each word behind a space
abbrev pub spaced_onto : List ℕ → List (List ℕ) → List ℕ
spaced_onto text [] = text
spaced_onto text (word ∷ words) = spaced_onto (text ++ 32 ∷ word) words

join-onto : (c : ℕ) (first word : List ℕ) (words : List (List ℕ)) → join_with_byte c ((first ++ c ∷ word) ∷ words) ≡ first ++ (c ∷ join_with_byte c (word ∷ words))
join-onto c first word [] = refl
join-onto c first word (next ∷ words) = append_assoc first (c ∷ word) (c ∷ join_with_byte c (next ∷ words))

pub spaced-join : (text first : List ℕ) (words : List (List ℕ)) → spaced_onto (text ++ first) words ≡ text ++ join_with_byte 32 (first ∷ words)
spaced-join text first [] = refl
spaced-join text first (word ∷ words) =
    ap (λ t. spaced_onto t words) (append_assoc text first (32 ∷ word)) ∙ spaced-join text (first ++ 32 ∷ word) words
    ∙ ap (λ l. text ++ l) (join-onto 32 first word words)

line-onto : (text first : List ℕ) (words : List (List ℕ)) → spaced_onto (text ++ first) words ++ 10 ∷ [] ≡ text ++ (join_with_byte 32 (first ∷ words) ++ 10 ∷ [])
line-onto text first words = ap (λ l. l ++ 10 ∷ []) (spaced-join text first words) ∙ append_assoc text (join_with_byte 32 (first ∷ words)) (10 ∷ [])

spaced-append : (text : List ℕ) (words more : List (List ℕ)) → spaced_onto (spaced_onto text words) more ≡ spaced_onto text (words ++ more)
spaced-append text [] more = refl
spaced-append text (word ∷ words) more = spaced-append (text ++ 32 ∷ word) words more

-- words that may be missing
spaced-maybe : (there : Bool) (text : List ℕ) (words : List (List ℕ)) → cond there (spaced_onto text words) text ≡ spaced_onto text (cond there words [])
spaced-maybe true text words = refl
spaced-maybe false text words = refl

-- .. one word, and then two
pub endings-onto : (text first : List ℕ) (words : List (List ℕ)) (one two : Bool) (word left right : List ℕ) →
    let ones = cond one (spaced_onto (text ++ first) words ++ 32 ∷ word) (spaced_onto (text ++ first) words) in
    cond two (ones ++ 32 ∷ left ++ 32 ∷ right) ones ++ 10 ∷ []
    ≡ text ++ (join_with_byte 32 (first ∷ (words ++ (cond one (word ∷ []) [] ++ cond two (left ∷ right ∷ []) []))) ++ 10 ∷ [])
endings-onto text first words one two word left right =
    let before = spaced_onto (text ++ first) words in
    let ones = cond one (before ++ 32 ∷ word) before in
    let some = cond one (word ∷ []) [] in
    let more = cond two (left ∷ right ∷ []) [] in
    let all : cond two (ones ++ 32 ∷ left ++ 32 ∷ right) ones ≡ spaced_onto (text ++ first) (words ++ (some ++ more)) =
    spaced-maybe two ones (left ∷ right ∷ []) ∙ ap (λ (l : List ℕ). spaced_onto l more) (spaced-maybe one before (word ∷ []))
    ∙ spaced-append before some more ∙ spaced-append (text ++ first) words (some ++ more) in
    ap (λ (l : List ℕ). l ++ 10 ∷ []) all ∙ line-onto text first (words ++ (some ++ more))

-- the name of a type is that of its column, and short
pub column_name-is : (of : ColumnType) → column_name (column_of of) ≡ name_of of
unfolding digits
column_name-is U8 = refl
column_name-is I8 = refl
column_name-is U16 = refl
column_name-is I16 = refl
column_name-is U32 = refl
column_name-is I32 = refl
column_name-is I64 = refl

pub name_of-short : (of : ColumnType) → length (name_of of) ≤ 3
name_of-short U8 = lit≤ tt
name_of-short I8 = lit≤ tt
name_of-short U16 = lit≤ tt
name_of-short I16 = lit≤ tt
name_of-short U32 = lit≤ tt
name_of-short I32 = lit≤ tt
name_of-short I64 = lit≤ tt

-- the names so far, and one more
abbrev pub names_in : List ColumnType → List ℕ
names_in columns = join_with_byte 44 (map column_name (map column_of columns))

pub names-first : (of : ColumnType) → names_in (of ∷ []) ≡ name_of of
names-first of = column_name-is of

pub names-more : (columns : List ColumnType) (of : ColumnType) → 0 < length columns → names_in (columns ++ of ∷ []) ≡ names_in columns ++ (44 ∷ name_of of)
names-more [] of some = absurd (omega (arith, some))
names-more (first ∷ []) of some = ap (λ l. column_name (column_of first) ++ (44 ∷ l)) (column_name-is of)
names-more (first ∷ next ∷ columns) of some =
    ap (λ l. column_name (column_of first) ++ (44 ∷ l)) (names-more (next ∷ columns) of (omega arith))
    ∙ sym (append_assoc (column_name (column_of first)) (44 ∷ names_in (next ∷ columns)) (44 ∷ name_of of))

-- a type behind those before it, with a comma between
pub names-next : (columns : List ColumnType) (i : ℕ) (d : ColumnType) (old before mid new name : List ℕ) → i < length columns → 0 < i →
    before ≡ old ++ 32 ∷ names_in (take i columns) → mid ≡ before ++ 44 ∷ [] → new ≡ mid ++ name → name ≡ name_of (get_or columns i d) →
    new ≡ old ++ 32 ∷ names_in (take (i + 1) columns)
names-next columns i d old before mid new name lt some was comma is named =
    let seen = take i columns in
    let few : 0 < length seen = omega (arith, some, length-take-le i columns (le_of_lt lt)) in
    let more : names_in (take (i + 1) columns) ≡ names_in seen ++ (44 ∷ name) =
    ap names_in (take_more columns i d lt) ∙ names-more seen (get_or columns i d) few ∙ ap (λ l. names_in seen ++ (44 ∷ l)) (sym named) in
    is ∙ ap (λ l. l ++ name) (comma ∙ ap (λ l. l ++ 44 ∷ []) was) ∙ append_assoc (old ++ 32 ∷ names_in seen) (44 ∷ []) name
    ∙ append_assoc old (32 ∷ names_in seen) (44 ∷ name) ∙ ap (λ l. old ++ 32 ∷ l) (sym more)

-- the first type
pub names-begin : (columns : List ColumnType) (i : ℕ) (d : ColumnType) (old before new name : List ℕ) → i < length columns → i ≡ 0 →
    before ≡ old ++ 32 ∷ names_in (take i columns) → new ≡ before ++ name → name ≡ name_of (get_or columns i d) →
    new ≡ old ++ 32 ∷ names_in (take (i + 1) columns)
names-begin columns i d old before new name lt none was is named =
    let seen : take i columns ≡ [] = ap (λ k. take k columns) none in
    let more : names_in (take (i + 1) columns) ≡ name =
    ap names_in (take_more columns i d lt ∙ ap (λ l. l ++ get_or columns i d ∷ []) seen) ∙ names-first (get_or columns i d) ∙ sym named in
    is ∙ ap (λ l. l ++ name) (was ∙ ap (λ l. old ++ 32 ∷ names_in l) seen) ∙ append_assoc old (32 ∷ []) name ∙ ap (λ l. old ++ 32 ∷ l) (sym more)
