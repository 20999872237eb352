-- The types of columns by their names.
use Rattle.std.proofs.Common.{◌≡◌, ◌≢◌, ℕ, Option, Some, None, MatchOption, MatchResult, List, codes, refl, sym, ◌∙◌, ap}
use Rattle.std.specs.Option.{ok_or}
use Rattle.fl_model.proofs.Names.{bytes_equal-other}
use Rattle.fl_words.specs.Config.{column_named}
use Rattle.fl_schema.specs.declared.column.ColumnType.{ColumnType}
use Rattle.fl_schema.specs.declared.column.ColumnType.TheVariants.{U8, I8, U16, I16, U32, I32, I64}
use Rattle.fl_schema.specs.Types.{name_of, column_of}

pub named : (of : ColumnType) → column_named (name_of of) ≡ Some (column_of of)
named U8 = refl
named I8 = refl
named U16 = refl
named I16 = refl
named U32 = refl
named I32 = refl
named I64 = refl

nameless : (name : List ℕ) → ((of : ColumnType) → name_of of ≢ name) → column_named name ≡ None
nameless name none =
    rw (
      bytes_equal-other name (codes "u8") (none U8),
      bytes_equal-other name (codes "i8") (none I8),
      bytes_equal-other name (codes "u16") (none U16),
      bytes_equal-other name (codes "i16") (none I16),
      bytes_equal-other name (codes "u32") (none U32),
      bytes_equal-other name (codes "i32") (none I32),
      bytes_equal-other name (codes "i64") (none I64),
    ) refl

-- the column of a name is that of the type with the name, if there is one
pub column_named-is : (name : List ℕ) (found : Option ColumnType) → MatchOption found ((of : ColumnType) → name_of of ≢ name) (λ of. name_of of ≡ name) →
    MatchOption found (column_named name ≡ None) (λ of. column_named name ≡ Some (column_of of))
column_named-is name None none = nameless name none
column_named-is name (Some of) is = ap column_named (sym is) ∙ named of

-- .. as a result
pub column_or : {E : Type 0} (name : List ℕ) (found : Option ColumnType) (e : E) → MatchOption found (column_named name ≡ None) (λ of. column_named name ≡ Some (column_of of)) →
    MatchResult (ok_or found e) (λ of. column_named name ≡ Some (column_of of)) (λ told. (column_named name ≡ None) × (told ≡ e))
column_or name None e is = (is, refl)
column_or name (Some of) e is = is
