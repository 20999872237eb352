-- The fields of a record, one after another.
use Rattle.std.proofs.Common.{◌≡◌, ℕ, ◌+◌, ◌<◌, zero, suc, ℤ, List, [], ◌∷◌, ◌++◌, Option, Some, None, Result, Ok, Err, Bor, length, take, drop, get_or, refl, sym, ◌∙◌, ap, arith, append_assoc, length-append, length-take, length-drop, eqb, eqb-true, true, map}
use Rattle.std.specs.Prelude.{unwrap_or, option_map}
use Rattle.std.proofs.lemmas.List.{append-nil, at_drop_more, at_drop_all, get_or-drop, get_or-take, length-map, map-append}
use Rattle.csv.specs.Records.{field_at}
use Rattle.fl_words.specs.Grammar.{Number, signed}
use Rattle.fl_csv.specs.Lines.{◌>>=◌, values_from}
use Rattle.fl_csv.specs.declared.record.CsvRefusal.{CsvRefusal}
use Rattle.fl_csv.specs.declared.record.CsvRefusal.TheVariants as refusal

pub field-or : (found : Option (Bor (List ℕ))) (other : Bor (List ℕ)) (fields : List (List ℕ)) (i : ℕ)
    → option_map (λ s. s.now) found ≡ field_at fields i → other.now ≡ [] → (unwrap_or found other).now ≡ get_or fields i []
unfolding field_at
field-or None other [] i h e = e
field-or (Some s) other [] i h e = cc h
field-or None other (field ∷ fields) zero h e = cc h
field-or (Some s) other (field ∷ fields) zero h e = cc h
field-or found other (field ∷ fields) (suc i) h e = field-or found other fields i h e

-- values, and those that are still to be read
abbrev pub after : List ℤ → Result (List ℤ) CsvRefusal → Result (List ℤ) CsvRefusal
after done rest = rest >>= λ values. Ok (done ++ values)

after-one : (done : List ℤ) (value : ℤ) (rest : Result (List ℤ) CsvRefusal)
    → after done (rest >>= λ values. Ok (value ∷ values)) ≡ after (done ++ value ∷ []) rest
after-one done value (Ok values) = ap Ok (sym (append_assoc done (value ∷ []) values))
after-one done value (Err e) = refl

-- the values of a record
abbrev pub behind : ℕ → List (List ℕ) → List (List ℕ)
behind columns fields = take columns (drop 1 fields)

here : (columns i : ℕ) (fields : List (List ℕ)) → i < columns → columns < length fields → (i < length (behind columns fields)) × (get_or (behind columns fields) i [] ≡ get_or fields (i + 1) [])
here columns i fields lt all =
    let few = length-take columns (drop 1 fields) in
    let less = length-drop 1 fields in
    let at : 1 + i ≡ i + 1 = omega arith in (
      omega (arith, few, less),
      get_or-take columns (drop 1 fields) i [] lt ∙ get_or-drop 1 fields i [] ∙ ap (λ n. get_or fields n []) at,
    )

pub value-next : (columns i : ℕ) (fields : List (List ℕ)) (done : List ℤ) (value : ℤ) → i < columns → columns < length fields
    → signed (get_or fields (i + 1) []) ≡ Ok value
    → after done (values_from (i + 2) (drop i (behind columns fields))) ≡ after (done ++ value ∷ []) (values_from (i + 1 + 2) (drop (i + 1) (behind columns fields)))
value-next columns i fields done value lt all h =
    let at = here columns i fields lt all in
    let e : i + 2 + 1 ≡ i + 1 + 2 = omega arith in
    at_drop_more (λ l. after done (values_from (i + 2) l)) (behind columns fields) i [] at.0
    ∙ rw (at.1, h, e) (after-one done value (values_from (i + 1 + 2) (drop (i + 1) (behind columns fields))))

pub value-bad : (columns i : ℕ) (fields : List (List ℕ)) (done : List ℤ) → i < columns → columns < length fields
    → signed (get_or fields (i + 1) []) ≡ Err Number
    → after done (values_from (i + 2) (drop i (behind columns fields))) ≡ Err (refusal.Number (i + 2))
value-bad columns i fields done lt all h =
    let at = here columns i fields lt all in
    at_drop_more (λ l. after done (values_from (i + 2) l)) (behind columns fields) i [] at.0 ∙ rw (at.1, h) refl

-- ---- fields taken one after another

-- the fields so far, and those that are left
abbrev nows : List (Bor (List ℕ)) → List (List ℕ)
nows fields = map (λ field. field.now) fields

pub too-many : (taken : List (Bor (List ℕ))) (n : ℕ) (all : List (List ℕ)) → nows taken ++ drop n all ≡ all → n < length all
    → eqb (length taken) 10 ≡ true → 10 < length all
too-many taken n all is lt full =
    let ten : length taken ≡ 10 = eqb-true _ _ full in
    let sum : length (nows taken) + length (drop n all) ≡ length all = sym (length-append (nows taken) (drop n all)) ∙ ap length is in
    omega (arith, ten, sum, length-map taken (λ field. field.now), length-drop n all, lt)

pub next-taken : (taken after : List (Bor (List ℕ))) (n : ℕ) (all : List (List ℕ)) (field : Bor (List ℕ)) → nows taken ++ drop n all ≡ all
    → (n < length all) × (field.now ≡ get_or all n field.now) → after ≡ taken ++ field ∷ [] → nows after ++ drop (n + 1) all ≡ all
next-taken taken after n all field is here pushed =
    let front : nows after ≡ nows taken ++ field.now ∷ [] = ap nows pushed ∙ map-append (λ f. f.now) taken (field ∷ []) in
    ap (λ l. l ++ drop (n + 1) all) front
    ∙ append_assoc (nows taken) (field.now ∷ []) (drop (n + 1) all)
    ∙ ap (λ x. nows taken ++ x ∷ drop (n + 1) all) here.1
    ∙ sym (at_drop_more (λ l. nows taken ++ l) all n field.now here.0)
    ∙ is

pub all-taken : (taken : List (Bor (List ℕ))) (n : ℕ) (all : List (List ℕ)) → nows taken ++ drop n all ≡ all → n ≡ length all → nows taken ≡ all
all-taken taken n all is end =
    sym (append-nil (nows taken)) ∙ sym (at_drop_all (λ l. nows taken ++ l) all n (omega (arith, end))) ∙ is
