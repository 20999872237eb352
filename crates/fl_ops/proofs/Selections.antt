-- The rows that pass a comparison, as records.
use Rattle.std.proofs.Common.{◌≡◌, ◌∙◌, Bool, true, false, List, [], ◌∷◌, refl, sym, ap, filter, Err, if◌then◌else◌}
use Rattle.fl_model.specs.Row.{Row}
use Rattle.fl_model.specs.Operators.{select}
use Rattle.fl_page.specs.Steps.{Steps}
use Rattle.fl_page.specs.declared.fault.ReadFault.{ReadFault}
use Rattle.fl_page.specs.declared.fault.ReadFault.TheVariants.{Flash, BadPage}
use Rattle.fl_ops.specs.Columns.{record_of, records_of, Comparison, row_passes}

pub records_of-filter : (test : Comparison) (rows : List Row)
    → records_of (filter (row_passes test) rows) ≡ select test.column test.op test.value (records_of rows)
records_of-filter test [] = refl
records_of-filter test (row ∷ rows) = by_test (row_passes test row) refl (records_of-filter test rows)
  where
    by_test : (passes : Bool) → row_passes test row ≡ passes
        → records_of (filter (row_passes test) rows) ≡ select test.column test.op test.value (records_of rows)
        → records_of (filter (row_passes test) (row ∷ rows)) ≡ select test.column test.op test.value (records_of (row ∷ rows))
    by_test true is later = rw is (ap (λ items. record_of row ∷ items) later)
    by_test false is later = rw is later

-- ---- a step of the input, where those of the rows left that pass are those of the rows at the start

filter-at : (test : Comparison) (passes : Bool) (row : Row) (rows : List Row) → row_passes test row ≡ passes
    → filter (row_passes test) (row ∷ rows) ≡ (if passes then row ∷ filter (row_passes test) rows else filter (row_passes test) rows)
filter-at test passes row rows is = ap (λ (b : Bool). if b then row ∷ filter (row_passes test) rows else filter (row_passes test) rows) is

-- the next row passes
pub select-first : (test now : Comparison) (row : Row) (start before after : List Row) → now ≡ test → filter (row_passes test) before ≡ filter (row_passes test) start
    → before ≡ row ∷ after → row_passes now row ≡ true → filter (row_passes test) start ≡ row ∷ filter (row_passes now) after
select-first test now row start before after same kept next passes =
    let here : row_passes test row ≡ true = ap (λ (t : Comparison). row_passes t row) (sym same) ∙ passes in
    sym kept ∙ ap (filter (row_passes test)) next ∙ filter-at test true row after here ∙ ap (λ (t : Comparison). row ∷ filter (row_passes t) after) (sym same)

-- the next row doesn't
pub select-past : (test now : Comparison) (row : Row) (start before after : List Row) → now ≡ test → filter (row_passes test) before ≡ filter (row_passes test) start
    → before ≡ row ∷ after → row_passes now row ≡ false → filter (row_passes test) after ≡ filter (row_passes test) start
select-past test now row start before after same kept next fails =
    let here : row_passes test row ≡ false = ap (λ (t : Comparison). row_passes t row) (sym same) ∙ fails in
    sym (filter-at test false row after here) ∙ sym (ap (filter (row_passes test)) next) ∙ kept

-- no row is left
pub select-none : (test now : Comparison) (start before after : List Row) → now ≡ test → filter (row_passes test) before ≡ filter (row_passes test) start
    → (before ≡ []) × (after ≡ []) → (filter (row_passes test) start ≡ []) × (filter (row_passes now) after ≡ [])
select-none test now start before after same kept none = (sym kept ∙ ap (filter (row_passes test)) none.0, ap (filter (row_passes now)) none.1)

-- the input failed
pub select-fault : (test now : Comparison) (fault : ReadFault) (row : Row) (start before after : List Row) → now ≡ test
    → filter (row_passes test) before ≡ filter (row_passes test) start → Steps (Err fault) before row after
    → Steps (Err fault) (filter (row_passes test) start) row (filter (row_passes now) after)
select-fault test now (Flash fault) row start before after same kept is = ap (filter (row_passes now)) is ∙ ap (λ (t : Comparison). filter (row_passes t) before) same ∙ kept
select-fault test now (BadPage bad) row start before after same kept is = is
