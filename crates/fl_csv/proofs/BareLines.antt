-- A bare line is read as what stands between its commas, and fields joined by commas are such a line, where they need no quotes.
use Rattle.std.proofs.Common.{◌≡◌, ◌≢◌, ℕ, ◌<◌, ◌≤◌, get_or, Bool, true, false, not, eqb, ◌||◌, Some, List, [], ◌∷◌, ◌++◌, length, refl, ◌∙◌, ap, arith, append_assoc}
use Rattle.std.specs.Prelude.{All}
use Rattle.std.specs.List.{flat_map, fold, list_all, onto_first}
use Rattle.std.proofs.lemmas.Bool.{and_parts, ne_eqb, false≢true, true≢false, not-true}
use Rattle.std.proofs.lemmas.Bool.Decides.{nat_tests}
use Rattle.std.proofs.lemmas.List.{append-nil}
use Rattle.std.proofs.lemmas.List.Elements.{All-cons, All-nil}
use Rattle.std.proofs.lemmas.List.Splits.{length-slice_split, slice_split_at, slice_split_none}
use Rattle.csv.specs.Machine.{next_record}
use Rattle.csv.specs.Reading.{default_config, strip_bom}
use Rattle.csv.specs.declared.parser.State.TheVariants as st
use Rattle.csv.proofs.RoundTrip.{record-same, start-same}
use Rattle.fl_words.specs.Parts.{comma_parts}
use Rattle.fl_csv.specs.declared.quotes.Place.{Place}
use Rattle.fl_csv.specs.declared.quotes.Place.TheVariants.{Edge, Bare, Quoted}
use Rattle.fl_csv.specs.Laws.{BareLines}
use Rattle.fl_csv.specs.Lines.{is_bare, is_between, line_fields, place_after, place_outside, stands_alone}
use Rattle.fl_csv.specs.Text.{joined}
use Rattle.fl_csv.proofs.Plain.{IsPlain, ArePlain}
use Rattle.fl_csv.proofs.CsvRecords.{empty-none, one-record, reached-one}

abbrev AreAlone : List ℕ → Type 0
AreAlone bytes = list_all stands_alone bytes ≡ true

-- a byte that stands alone is no quote and ends no record
abbrev IsAlone : ℕ → Type 0
IsAlone byte = (eqb byte 34 ≡ false) × (eqb byte 13 ≡ false) × (eqb byte 10 ≡ false)

alone : (byte : ℕ) → stands_alone byte ≡ true → IsAlone byte
alone byte h = by (eqb byte 34) refl (eqb byte 13) refl (eqb byte 10) refl
  where
    no : {A : Type 0} → false ≡ true → A
    no e = cc e

    by : (q : Bool) → eqb byte 34 ≡ q → (r : Bool) → eqb byte 13 ≡ r → (n : Bool) → eqb byte 10 ≡ n → IsAlone byte
    by true e r f n g = no (rw e at h)
    by false e true f n g = no (rw (e, f) at h)
    by false e false f true g = no (rw (e, f, g) at h)
    by false e false f false g = (e, f, g)

-- ---- the one record

-- the parts, with what was read of the first one before them
abbrev begun : List ℕ → List (List ℕ) → List (List ℕ)
begun field [] = field ∷ []
begun field (part ∷ parts) = (field ++ part) ∷ parts

begun-none : (parts : List (List ℕ)) → 0 < length parts → begun [] parts ≡ parts
begun-none [] h = absurd (omega (arith, h))
begun-none (part ∷ parts) h = refl

begun-more : (field : List ℕ) (byte : ℕ) (parts : List (List ℕ)) → begun (field ++ byte ∷ []) parts ≡ begun field (onto_first byte parts)
begun-more field byte [] = refl
begun-more field byte (part ∷ parts) = ap (λ l. l ∷ parts) (append_assoc field (byte ∷ []) part)

some-part : (bytes : List ℕ) → 0 < length (comma_parts bytes)
some-part bytes = omega (arith, length-slice_split (λ byte. eqb byte 44) bytes)

from-start : (fields : List (List ℕ)) (bytes : List ℕ) → AreAlone bytes
    → next_record default_config st.StartField fields [] bytes ≡ next_record default_config st.InField fields [] bytes
unfolding next_record
from-start fields [] h = refl
from-start fields (byte ∷ bytes) h = start-same fields [] byte bytes (alone byte (and_parts _ _ h).0).0

in-field : (bytes : List ℕ) (fields : List (List ℕ)) (field : List ℕ) → AreAlone bytes
    → next_record default_config st.InField fields field bytes ≡ Some (fields ++ begun field (comma_parts bytes), st.StartRecord, [])
unfolding next_record
in-field [] fields field h = rw (append-nil field) refl
in-field (byte ∷ bytes) fields field h = by (eqb byte 44) refl (λ fs f. in-field bytes fs f (and_parts _ _ h).1)
  where
    by : (t : Bool) → eqb byte 44 ≡ t
        → ((fs : List (List ℕ)) (f : List ℕ) → next_record default_config st.InField fs f bytes ≡ Some (fs ++ begun f (comma_parts bytes), st.StartRecord, []))
        → next_record default_config st.InField fields field (byte ∷ bytes) ≡ Some (fields ++ begun field (comma_parts (byte ∷ bytes)), st.StartRecord, [])
    by true e more =
        let parts = comma_parts bytes in
        rw (e, append-nil field)
        (from-start (fields ++ field ∷ []) bytes (and_parts _ _ h).1
        ∙ more (fields ++ field ∷ []) []
        ∙ ap (λ (l : List (List ℕ)). Some ((fields ++ field ∷ []) ++ l, st.StartRecord, [])) (begun-none parts (some-part bytes))
        ∙ ap (λ (l : List (List ℕ)). Some (l, st.StartRecord, [])) (append_assoc fields (field ∷ []) parts))
    by false e more =
        let a = alone byte (and_parts _ _ h).0 in
        rw (e, a.1, a.2)
        (more fields (field ++ byte ∷ [])
        ∙ ap (λ (l : List (List ℕ)). Some (fields ++ l, st.StartRecord, [])) (begun-more field byte (comma_parts bytes)))

from-record : (byte : ℕ) (bytes : List ℕ) → AreAlone (byte ∷ bytes)
    → next_record default_config st.StartRecord [] [] (byte ∷ bytes) ≡ Some (comma_parts (byte ∷ bytes), st.StartRecord, [])
from-record byte bytes h =
    let a = alone byte (and_parts _ _ h).0 in
    record-same [] [] byte bytes a.1 a.2 ∙ from-start [] (byte ∷ bytes) h ∙ in-field (byte ∷ bytes) [] [] h
    ∙ ap (λ (l : List (List ℕ)). Some (l, st.StartRecord, [])) (begun-none (comma_parts (byte ∷ bytes)) (some-part (byte ∷ bytes)))

no-mark : (byte : ℕ) (bytes : List ℕ) → eqb byte 239 ≡ false → strip_bom (byte ∷ bytes) ≡ byte ∷ bytes
unfolding strip_bom
no-mark byte [] h = refl
no-mark byte (next ∷ []) h = refl
no-mark byte (next ∷ last ∷ bytes) h = rw h refl

-- a line without quotes ends outside them
outside : (byte : ℕ) → is_between (place_outside byte) ≡ false
outside byte = by (eqb byte 44 || eqb byte 13 || eqb byte 10) refl
  where
    by : (t : Bool) → (eqb byte 44 || eqb byte 13 || eqb byte 10) ≡ t → is_between (place_outside byte) ≡ false
    by true e = rw e refl
    by false e = rw e refl

closed : (bytes : List ℕ) (place : Place) → is_between place ≡ false → AreAlone bytes → is_between (fold place_after place bytes) ≡ false
closed [] place out h = out
closed (byte ∷ bytes) Edge out h =
    let a = alone byte (and_parts _ _ h).0 in
    rw a.0 (closed bytes (place_outside byte) (outside byte) (and_parts _ _ h).1)
closed (byte ∷ bytes) Bare out h = closed bytes (place_outside byte) (outside byte) (and_parts _ _ h).1
closed (byte ∷ bytes) Quoted out h = absurd (true≢false out)

pub bare-line : BareLines
bare-line [] h = absurd (false≢true h)
bare-line (byte ∷ bytes) h =
    let parts = and_parts (not (eqb byte 239)) (list_all stands_alone (byte ∷ bytes)) h in
    let same = no-mark byte bytes (not-true (eqb byte 239) parts.0) in
    let shut = closed (byte ∷ bytes) Edge refl parts.1 in
    let read = one-record (byte ∷ bytes) (comma_parts (byte ∷ bytes)) st.StartRecord [] (reached-one _ _ _ _ (from-record byte bytes parts.1)) empty-none in
    rw (same, shut) read

pub bare-is : (line : List ℕ) (are : Bool) → are ≡ list_all stands_alone line → 0 < length line → get_or line 0 0 ≢ 239 → are ≡ is_bare line
bare-is [] are e some other = absurd (omega (arith, some))
bare-is (byte ∷ bytes) are e some other = e ∙ rw (ne_eqb byte 239 other) refl

-- ---- fields joined by commas

abbrev behind : List (List ℕ) → List ℕ
behind fields = flat_map (λ f. 44 ∷ f) fields

plain-alone : (byte : ℕ) → 44 ≤ byte → stands_alone byte ≡ true
plain-alone byte h =
    let quote : eqb byte 34 ≡ false = grind (arith, nat_tests, h) in
    let feed : eqb byte 10 ≡ false = grind (arith, nat_tests, h) in
    let back : eqb byte 13 ≡ false = grind (arith, nat_tests, h) in
    rw (quote, back, feed) refl

field-alone : (field rest : List ℕ) → IsPlain field → AreAlone rest → AreAlone (field ++ rest)
field-alone [] rest h k = k
field-alone (byte ∷ bytes) rest h k = rw (plain-alone byte (omega (arith, h.0)), field-alone bytes rest h.1 k) refl

behind-alone : (fields : List (List ℕ)) → ArePlain fields → AreAlone (behind fields)
behind-alone [] h = refl
behind-alone (field ∷ fields) h = field-alone field (behind fields) h.0 (behind-alone fields h.1)

no-comma : (field : List ℕ) → IsPlain field → All (λ byte. eqb byte 44 ≡ false) field
no-comma [] h = All-nil (λ byte. eqb byte 44 ≡ false)
no-comma (byte ∷ bytes) h =
    let other : eqb byte 44 ≡ false = grind (arith, nat_tests, h.0) in
    All-cons (λ byte. eqb byte 44 ≡ false) byte bytes other (no-comma bytes h.1)

parts-joined : (field : List ℕ) (fields : List (List ℕ)) → IsPlain field → ArePlain fields → comma_parts (field ++ behind fields) ≡ field ∷ fields
parts-joined field [] h hs = ap comma_parts (append-nil field) ∙ slice_split_none (λ byte. eqb byte 44) field (no-comma field h)
parts-joined field (next ∷ fields) h hs =
    slice_split_at (λ byte. eqb byte 44) field 44 (next ++ behind fields) (no-comma field h) refl
    ∙ ap (λ l. field ∷ l) (parts-joined next fields hs.0 hs.1)

pub only-joined : (byte : ℕ) (bytes : List ℕ) (rest : List (List ℕ)) → byte < 128 → IsPlain (byte ∷ bytes) → ArePlain rest
    → line_fields (joined ((byte ∷ bytes) ∷ rest)) ≡ Some ((byte ∷ bytes) ∷ rest)
only-joined byte bytes rest ascii h hs =
    let mark : eqb byte 239 ≡ false = grind (arith, nat_tests, ascii) in
    let is : is_bare (joined ((byte ∷ bytes) ∷ rest)) ≡ true = rw mark (field-alone (byte ∷ bytes) (behind rest) h (behind-alone rest hs)) in
    bare-line (joined ((byte ∷ bytes) ∷ rest)) is ∙ ap (λ l. Some l) (parts-joined (byte ∷ bytes) rest h hs)
