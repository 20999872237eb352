-- The values of the records of a load.
use Rattle.std.proofs.Common.{◌≡◌, ℕ, slice_get, Some, take, subst, ◌+◌, ◌*◌, ◌%◌, ◌-ℤ◌, pos, Bool, if◌then◌else◌, List, [], ◌∷◌, ◌++◌, map, drop, length, length-append, ◌≤◌, append-nil, add-one, refl, sym, ◌∙◌, ap, arith, ℤ}
use Rattle.std.proofs.lemmas.List.{drop_all}
use Rattle.fl_model.specs.Record.{Column}
use Rattle.fl_model.proofs.Lists.{take-next, slice_get-mapped}
use Rattle.fl_schema.specs.declared.column.ColumnType.{ColumnType}
use Rattle.fl_schema.specs.Types.{column_of}
use Rattle.fl_machine.specs.Step.{load_values}
use Rattle.fl_session.specs.declared.generator.Generator.{Generator}
use Rattle.fl_session.specs.Load.{StandsBefore}

-- the values of a record, from column c on, by what they have in common
abbrev pub value_in : ℕ → ℕ → Bool → ℤ
value_in sum c signed = if signed then pos ((sum + c) % 200) -ℤ pos 100 else pos ((sum + c) % 200)

abbrev pub values_from : ℕ → ℕ → List Bool → List ℤ
values_from sum c [] = []
values_from sum c (signed ∷ others) = value_in sum c signed ∷ values_from sum (c + 1) others

-- some of the values are there
pub record ValuesSoFar (sum : ℕ) (signed : List Bool) (values : List ℤ) (n : ℕ) : Type 0 where
  pub count : length values ≡ n
  pub others : values ++ values_from sum (n + 1) (drop n signed) ≡ values_from sum 1 signed

values-are : (sum i seed c : ℕ) (columns : List Column) → sum ≡ (i * 37 + seed) % 200 → values_from sum c (map (λ column. column.signed) columns) ≡ load_values i seed c columns
values-are sum i seed c [] e = refl
values-are sum i seed c (column ∷ columns) e =
    let same : (sum + c) % 200 ≡ (i * 37 + seed + c) % 200 = omega arith in
    rw (same, values-are sum i seed (c + 1) columns e) refl

-- all of them are there
pub values_so_far-all : (n : ℕ) (columns : List Column) (seed i : ℕ) (values : List ℤ) (generator : Generator) → length generator.signed.items ≤ n → ValuesSoFar generator.sum generator.signed.items values n →
    StandsBefore columns seed i generator → values ≡ load_values i seed 1 columns
values_so_far-all n columns seed i values generator h so_far stands =
    sym (append-nil values)
    ∙ (ap (λ l. values ++ values_from generator.sum (n + 1) l) (sym (drop_all n generator.signed.items h))
    ∙ (so_far.others ∙ (ap (values_from generator.sum 1) stands.signed_are ∙ values-are generator.sum i seed 1 columns stands.sum)))

-- which columns are signed
pub signs-more : (types : List ColumnType) (columns : List Column) (n : ℕ) (of : ColumnType) (signed : List Bool) (sign : Bool) (now : List Bool) → map column_of types ≡ columns → slice_get types n ≡ Some of → sign ≡ (column_of of).signed →
    length signed ≡ n → signed ≡ take n (map (λ column. column.signed) columns) → now ≡ signed ++ sign ∷ [] → (length now ≡ n + 1) × (now ≡ take (n + 1) (map (λ column. column.signed) columns))
signs-more types columns n of signed sign now is here e count so_far k =
    let there : slice_get (map (λ column. column.signed) columns) n ≡ Some sign =
    subst (λ cs. slice_get (map (λ column. column.signed) cs) n ≡ Some sign) is
    (slice_get-mapped (λ column. column.signed) (map column_of types) n (column_of of) (slice_get-mapped column_of types n of here) ∙ ap (λ b. Some b) (sym e)) in
    (ap length k ∙ simp length-append (omega (arith, count)), k ∙ (ap (λ l. l ++ sign ∷ []) so_far ∙ (sym (take-next (map (λ column. column.signed) columns) n sign there) ∙ ap (λ k. take k (map (λ column. column.signed) columns)) (sym (add-one n)))))
