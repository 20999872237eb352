-- The columns of a schema, one after another.
use Rattle.std.proofs.Common.{◌≡◌, ℕ, zero, suc, ◌+◌, ◌-◌, ◌*◌, ◌^◌, ◌<◌, ◌≤◌, Bool, true, false, inl, inr, if◌then◌else◌, ℤ, pos, Option, Some, None, slice_get, List, [], ◌∷◌, ◌++◌, length, take, drop, slice_range, get_or, refl, sym, ap, ◌∙◌, arith}
use Rattle.std.proofs.lemmas.Bool.{cases_lt}
use Rattle.std.proofs.lemmas.List.{drop-drop, take_at, take-append-le, get_or_append_left, get_or_push, length_push}
use Rattle.std.proofs.lemmas.List.Sums.{sum_by-cons}
use Rattle.fl_model.specs.Record.{Column, columns_len, fits, first_misfit}
use Rattle.fl_model.specs.Row.{value_in, values_in, value_bytes, values_bytes}
use Rattle.std.specs.Prelude.{FitsSigned}
use Rattle.std.specs.Int.{w64, cast_signed, cast_unsigned}
use Rattle.std.proofs.lemmas.Int.{to_z-of_z}
use Rattle.fl_schema.specs.Types.{column_of}
use Rattle.fl_schema.specs.Form.{key_width, types_in, columns_in, ArePlaced}
use prog.Memory.{up}
use Rattle.fl_schema.specs.declared.schema.KeyWidth.{KeyWidth}
use Rattle.fl_schema.specs.declared.schema.PlacedColumn.{PlacedColumn}

-- the bytes of the columns, one column more at the front
pub columns_len-cons : (c : Column) (cs : List Column) → columns_len (c ∷ cs) ≡ c.width + columns_len cs
columns_len-cons c cs = sum_by-cons (λ (c : Column). c.width) c cs

pub length-columns_in : (cs : List PlacedColumn) → length (columns_in cs) ≡ length cs
length-columns_in [] = refl
length-columns_in (c ∷ cs) = ap suc (length-columns_in cs)

pub length-types_in : (cs : List PlacedColumn) → length (types_in cs) ≡ length cs
length-types_in [] = refl
length-types_in (c ∷ cs) = ap suc (length-types_in cs)

-- the type of column i
pub type-at : (cs : List PlacedColumn) (i : ℕ) (d : PlacedColumn) → i < length cs → slice_get (types_in cs) i ≡ Some (get_or cs i d).of
type-at [] i d lt = absurd (omega arith)
type-at (c ∷ cs) zero d lt = refl
type-at (c ∷ cs) (suc i) d lt = type-at cs i d (omega arith)

-- the room that the columns take, each part where it is aligned
pub columns-fit : (n : ℕ) → n ≤ 65535 → up 8 (up 1 (up 8 (0 + up 4 (0 + n * 8)) + 8) + 0) < 2 ^ 63
columns-fit n few =
    let each : up 4 (0 + n * 8) ≤ 524284 = omega (arith, few) in
    whole (behind each)
  where
    behind : {e : ℕ} → e ≤ 524284 → up 8 (0 + e) + 8 ≤ 524300
    behind le = omega (arith, le)

    whole : {e : ℕ} → e ≤ 524300 → up 8 (up 1 e + 0) < 2 ^ 63
    whole le = omega (arith, le)

-- the bytes of the columns before column i and of column i
pub columns_len-more : (cs : List PlacedColumn) (i : ℕ) (d : PlacedColumn) → i < length cs
    → columns_len (columns_in (take (i + 1) cs)) ≡ columns_len (columns_in (take i cs)) + (column_of (get_or cs i d).of).width
columns_len-more [] i d lt = absurd (omega arith)
columns_len-more (c ∷ cs) zero d lt = refl
columns_len-more (c ∷ cs) (suc i) d lt =
    let more = columns_len-more cs i d (omega arith) in
    let one : suc i + 1 ≡ suc (i + 1) = omega arith in
    rw one (omega (arith, more, columns_len-cons (column_of c.of) (columns_in (take (i + 1) cs)), columns_len-cons (column_of c.of) (columns_in (take i cs))))

pub column_within : (cs : List PlacedColumn) (i : ℕ) (d : PlacedColumn) → i < length cs
    → columns_len (columns_in (take i cs)) + (column_of (get_or cs i d).of).width ≤ columns_len (columns_in cs)
column_within [] i d lt = absurd (omega arith)
column_within (c ∷ cs) zero d lt = omega (arith, columns_len-cons (column_of c.of) (columns_in cs))
column_within (c ∷ cs) (suc i) d lt =
    let more = column_within cs i d (omega arith) in
    omega (arith, more, columns_len-cons (column_of c.of) (columns_in cs), columns_len-cons (column_of c.of) (columns_in (take i cs)))

-- a column lies in its row
pub place_within : (key : KeyWidth) (cs : List PlacedColumn) (i : ℕ) (d : PlacedColumn) → ArePlaced key cs → i < length cs
    → (get_or cs i d).at + (column_of (get_or cs i d).of).width ≤ key_width key + columns_len (columns_in cs)
place_within key cs i d placed lt = omega (arith, column_within cs i d lt, placed i d lt)

-- a value as it is read in its place
pub value_at : (cs : List PlacedColumn) (bytes : List ℕ) (i : ℕ) (d : PlacedColumn) → i < length cs
    → slice_get (values_in (columns_in cs) bytes) i
    ≡ Some (value_in (column_of (get_or cs i d).of) (take (column_of (get_or cs i d).of).width (drop (columns_len (columns_in (take i cs))) bytes)))
value_at [] bytes i d lt = absurd (omega arith)
value_at (c ∷ cs) bytes zero d lt = refl
value_at (c ∷ cs) bytes (suc i) d lt =
    let w = (column_of c.of).width in
    let of = (get_or cs i d).of in
    value_at cs (drop w bytes) i d (omega arith)
    ∙ ap (λ (l : List ℕ). Some (value_in (column_of of) (take (column_of of).width l)))
    (drop-drop (columns_len (columns_in (take i cs))) w bytes ∙ ap (λ (k : ℕ). drop k bytes) (sym (columns_len-cons (column_of c.of) (columns_in (take i cs)))))

pub misfit_parts : (b : Bool) (n : ℕ) (others : Option ℕ) → (if b then others else Some n) ≡ None → (b ≡ true) × (others ≡ None)
misfit_parts true n others h = (refl, h)
misfit_parts false n others h = absurd (cc h)

-- each value fits its column
pub fits_at : (n : ℕ) (cs : List PlacedColumn) (values : List ℤ) (i : ℕ) (d : PlacedColumn) → i < length cs → i < length values
    → first_misfit n (columns_in cs) values ≡ None → fits (column_of (get_or cs i d).of) (get_or values i (pos 0)) ≡ true
fits_at n [] values i d lt lt' h = absurd (omega arith)
fits_at n (c ∷ cs) [] i d lt lt' h = absurd (omega arith)
fits_at n (c ∷ cs) (v ∷ vs) zero d lt lt' h = (misfit_parts (fits (column_of c.of) v) n (first_misfit (n + 1) (columns_in cs) vs) h).0
fits_at n (c ∷ cs) (v ∷ vs) (suc i) d lt lt' h =
    fits_at (n + 1) cs vs i d (omega arith) (omega arith) (misfit_parts (fits (column_of c.of) v) n (first_misfit (n + 1) (columns_in cs) vs) h).1

-- the bytes of the values from value i on
pub values_bytes-more : (cs : List PlacedColumn) (values : List ℤ) (i : ℕ) (d : PlacedColumn) → i < length cs → i < length values
    → values_bytes (columns_in (drop i cs)) (drop i values)
    ≡ value_bytes (column_of (get_or cs i d).of) (get_or values i (pos 0)) ++ values_bytes (columns_in (drop (i + 1) cs)) (drop (i + 1) values)
values_bytes-more [] values i d lt lt' = absurd (omega arith)
values_bytes-more (c ∷ cs) [] i d lt lt' = absurd (omega arith)
values_bytes-more (c ∷ cs) (v ∷ vs) zero d lt lt' = refl
values_bytes-more (c ∷ cs) (v ∷ vs) (suc i) d lt lt' =
    let one : suc i + 1 ≡ suc (i + 1) = omega arith in
    rw one (values_bytes-more cs vs i d (omega arith) (omega arith))

-- one column more is placed
pub ArePlaced-more : (key : KeyWidth) (cs : List PlacedColumn) (c : PlacedColumn) → ArePlaced key cs → c.at ≡ key_width key + columns_len (columns_in cs) → ArePlaced key (cs ++ c ∷ [])
ArePlaced-more key cs c placed at i d lt = elim (cases_lt i (length cs)) [
  | inl before ↦
      ap (λ (x : PlacedColumn). x.at) (get_or_append_left cs (c ∷ []) d i before) ∙ placed i d before
      ∙ ap (λ (l : List PlacedColumn). key_width key + columns_len (columns_in l)) (sym (take-append-le i cs (c ∷ []) (omega arith)))
  | inr past ↦
      let last : length cs ≡ i = omega (arith, length_push cs c) in
      ap (λ (x : PlacedColumn). x.at) (get_or_push cs c d i last) ∙ at
      ∙ ap (λ (l : List PlacedColumn). key_width key + columns_len (columns_in l)) (sym (take_at cs (c ∷ []) i last))
]

-- a value as it is read from its place in a row
pub value_read : (key : KeyWidth) (cs : List PlacedColumn) (bytes : List ℕ) (i : ℕ) (d : PlacedColumn) (value : ℤ) → ArePlaced key cs → i < length cs → FitsSigned w64 value
    → value ≡ value_in (column_of (get_or cs i d).of) (slice_range bytes (get_or cs i d).at ((get_or cs i d).at + (column_of (get_or cs i d).of).width))
    → slice_get (values_in (columns_in cs) (drop (key_width key) bytes)) i ≡ Some (cast_signed w64 (cast_unsigned w64 value))
value_read key cs bytes i d value placed lt word is =
    let of = (get_or cs i d).of in
    let at = (get_or cs i d).at in
    let w = (column_of of).width in
    let len : at + w - at ≡ w = omega arith in
    let part : slice_range bytes at (at + w) ≡ take w (drop (columns_len (columns_in (take i cs))) (drop (key_width key) bytes)) =
    ap (λ (k : ℕ). take k (drop at bytes)) len ∙ ap (λ (k : ℕ). take w (drop k bytes)) (placed i d lt)
    ∙ ap (λ (l : List ℕ). take w l) (sym (drop-drop (columns_len (columns_in (take i cs))) (key_width key) bytes)) in
    value_at cs (drop (key_width key) bytes) i d lt ∙ ap (λ (v : ℤ). Some v) (sym (to_z-of_z w64 value word ∙ is ∙ ap (λ (l : List ℕ). value_in (column_of of) l) part))
