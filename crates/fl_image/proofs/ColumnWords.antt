-- The columns of a table, written and read again.
use Rattle.std.proofs.Common.{◌≡◌, ℕ, ◌<◌, Bool, true, false, cond, eqb, Option, Some, None, List, [], ◌∷◌, ◌++◌, length, map, refl, sym, ◌∙◌, ap, subst, arith, codes}
use Rattle.std.specs.List.{AllByRecursion, slice_split, join_with_byte}
use Rattle.std.proofs.lemmas.List.Splits.{length-slice_split}
use Rattle.fl_model.specs.Record.{Column, bytes_equal}
use Rattle.fl_model.proofs.Lists.{each-append}
use Rattle.fl_words.specs.Config.{column_named, columns_named, columns_in, cons_column}
use Rattle.fl_words.specs.Medium.{column_name}
use Rattle.fl_schema.specs.declared.column.ColumnType.{ColumnType}
use Rattle.fl_schema.specs.declared.column.ColumnType.TheVariants.{U8, I8, U16, I16, U32, I32, I64}
use Rattle.fl_schema.specs.Types.{name_of, column_of}
use Rattle.fl_config.proofs.Texts.{column_name-is}
use Rattle.fl_config.proofs.Names.{named}
use Rattle.fl_image.proofs.LineWords.{IsWord, split-join}

-- a column that has a name is that of a type
pub record IsTyped (column : Column) : Type 0 where
  pub of : ColumnType
  pub is : column_of of ≡ column

typed-or : (b : Bool) (column one : Column) (others : Option Column) → cond b (Some one) others ≡ Some column → IsTyped one → (others ≡ Some column → IsTyped column) → IsTyped column
typed-or true column one others h k f = let same : one ≡ column = cc in subst IsTyped same k
typed-or false column one others h k f = f h

named-typed : (name : List ℕ) (column : Column) → column_named name ≡ Some column → IsTyped column
named-typed name column h =
    typed-or (bytes_equal name (codes "u8")) column (column_of U8) _ h (record { of = U8; is = refl }) (λ h.
    typed-or (bytes_equal name (codes "i8")) column (column_of I8) _ h (record { of = I8; is = refl }) (λ h.
    typed-or (bytes_equal name (codes "u16")) column (column_of U16) _ h (record { of = U16; is = refl }) (λ h.
    typed-or (bytes_equal name (codes "i16")) column (column_of I16) _ h (record { of = I16; is = refl }) (λ h.
    typed-or (bytes_equal name (codes "u32")) column (column_of U32) _ h (record { of = U32; is = refl }) (λ h.
    typed-or (bytes_equal name (codes "i32")) column (column_of I32) _ h (record { of = I32; is = refl }) (λ h.
    typed-or (bytes_equal name (codes "i64")) column (column_of I64) None h (record { of = I64; is = refl }) (λ h. cc)))))))

-- the columns of these types
pub record AreTyped (columns : List Column) : Type 0 where
  pub types : List ColumnType
  pub are : map column_of types ≡ columns

typed-cons : (column : Option Column) (others : Option (List Column)) (columns : List Column) → ((c : Column) → column ≡ Some c → IsTyped c) → ((cs : List Column) → others ≡ Some cs → AreTyped cs)
    → cons_column column others ≡ Some columns → AreTyped columns
typed-cons None others columns f g h = cc
typed-cons (Some c) None columns f g h = cc
typed-cons (Some c) (Some cs) columns f g h =
    let first = f c refl in
    let rest = g cs refl in
    let same : c ∷ cs ≡ columns = cc in
    record { types = first.of ∷ rest.types; are = ap (λ x. x ∷ map column_of rest.types) first.is ∙ ap (λ l. c ∷ l) rest.are ∙ same }

pub named-are_typed : (names : List (List ℕ)) (columns : List Column) → columns_named names ≡ Some columns → AreTyped columns
named-are_typed [] columns h = let same : [] ≡ columns = cc in record { types = []; are = same }
named-are_typed (name ∷ names) columns h =
    typed-cons (column_named name) (columns_named names) columns (λ c e. named-typed name c e) (λ cs e. named-are_typed names cs e) h

named-length : (names : List (List ℕ)) (columns : List Column) → columns_named names ≡ Some columns → length columns ≡ length names
named-length [] columns h = let same : [] ≡ columns = cc in ap (λ (l : List Column). length l) (sym same)
named-length (name ∷ names) columns h = by (column_named name) (columns_named names) (λ cs e. named-length names cs e) h
  where
    by : (column : Option Column) (others : Option (List Column)) → ((cs : List Column) → others ≡ Some cs → length cs ≡ length names) → cons_column column others ≡ Some columns → length columns ≡ length (name ∷ names)
    by None others f h = cc
    by (Some c) None f h = cc
    by (Some c) (Some cs) f h =
        let same : c ∷ cs ≡ columns = cc in
        ap (λ (l : List Column). length l) (sym same) ∙ omega (arith, f cs refl)

-- a word of columns has one at least
pub columns-some : (word : List ℕ) (columns : List Column) → columns_in word ≡ Some columns → 0 < length columns
columns-some word columns h = omega (arith, named-length (slice_split (λ byte. eqb byte 44) word) columns h, length-slice_split (λ byte. eqb byte 44) word)

-- ---- the word that they are written as

abbrev names : List ColumnType → List (List ℕ)
names types = map column_name (map column_of types)

names-named : (types : List ColumnType) → columns_named (names types) ≡ Some (map column_of types)
names-named [] = refl
names-named (of ∷ types) =
    ap (λ n. cons_column (column_named n) (columns_named (names types))) (column_name-is of)
    ∙ ap (λ c. cons_column c (columns_named (names types))) (named of)
    ∙ ap (cons_column (Some (column_of of))) (names-named types)

name-plain : (of : ColumnType) → AllByRecursion (λ byte. eqb byte 44 ≡ false) (name_of of)
name-plain U8 = (refl, (refl, tt))
name-plain I8 = (refl, (refl, tt))
name-plain U16 = (refl, (refl, (refl, tt)))
name-plain I16 = (refl, (refl, (refl, tt)))
name-plain U32 = (refl, (refl, (refl, tt)))
name-plain I32 = (refl, (refl, (refl, tt)))
name-plain I64 = (refl, (refl, (refl, tt)))

names-plain : (types : List ColumnType) → AllByRecursion (AllByRecursion (λ byte. eqb byte 44 ≡ false)) (names types)
names-plain [] = tt
names-plain (of ∷ types) = (subst (AllByRecursion (λ byte. eqb byte 44 ≡ false)) (sym (column_name-is of)) (name-plain of), names-plain types)

length-names : (types : List ColumnType) → length (names types) ≡ length types
length-names [] = refl
length-names (of ∷ types) = omega (arith, length-names types)

pub names-in : (types : List ColumnType) → 0 < length types → columns_in (join_with_byte 44 (names types)) ≡ Some (map column_of types)
names-in types some = ap columns_named (split-join 44 (names types) refl (omega (arith, some, length-names types)) (names-plain types)) ∙ names-named types

name-word : (of : ColumnType) → IsWord (name_of of)
name-word U8 = record { some = omega arith; visible = (omega arith, (omega arith, tt)) }
name-word I8 = record { some = omega arith; visible = (omega arith, (omega arith, tt)) }
name-word U16 = record { some = omega arith; visible = (omega arith, (omega arith, (omega arith, tt))) }
name-word I16 = record { some = omega arith; visible = (omega arith, (omega arith, (omega arith, tt))) }
name-word U32 = record { some = omega arith; visible = (omega arith, (omega arith, (omega arith, tt))) }
name-word I32 = record { some = omega arith; visible = (omega arith, (omega arith, (omega arith, tt))) }
name-word I64 = record { some = omega arith; visible = (omega arith, (omega arith, (omega arith, tt))) }

pub names-word : (types : List ColumnType) → 0 < length types → IsWord (join_with_byte 44 (names types))
names-word [] some = absurd (omega (arith, some))
names-word (of ∷ []) some = subst IsWord (sym (column_name-is of)) (name-word of)
names-word (of ∷ next ∷ types) some =
    let first : IsWord (column_name (column_of of)) = subst IsWord (sym (column_name-is of)) (name-word of) in
    let others = names-word (next ∷ types) (omega arith) in
    record {
      some = longer (column_name (column_of of)) (44 ∷ join_with_byte 44 (names (next ∷ types))) first.some;
      visible = each-append (λ byte. 32 < byte) (column_name (column_of of)) (44 ∷ join_with_byte 44 (names (next ∷ types))) first.visible (omega arith, others.visible);
    }
  where
    longer : (xs ys : List ℕ) → 0 < length xs → 0 < length (xs ++ ys)
    longer [] ys h = absurd (omega (arith, h))
    longer (x ∷ xs) ys h = omega arith
