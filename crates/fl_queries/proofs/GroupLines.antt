-- The groups that rows make are those that their records make.
use Rattle.std.proofs.Common.{◌≡◌, ℕ, ◌/◌, ◌≤◌, Bool, true, false, cond, not, eqb, Option, Some, None, ℤ, List, [], ◌∷◌, length, map, filter, refl, ◌∙◌, ap, arith, ◌==◌}
use Rattle.std.specs.List.{filter_map, cons_option}
use Rattle.fl_model.specs.Operators.{column_of, group_numbers, group_values, group_from, aggregate}
use Rattle.fl_model.specs.Record.{Record}
use Rattle.fl_model.specs.Row.{stored_row}
use Rattle.fl_model.specs.Table.{Entry}
use Rattle.fl_model.proofs.Lists.{length-filter-le}
use Rattle.fl_ops.specs.Columns.{record_of, records_of}
use Rattle.fl_queries.proofs.OperatorLines.{column-stored}

-- what gives the same of each item gives the same list
filter_map-same : {X Y : Type 0} (f g : X → Option Y) (xs : List X) → ((x : X) → f x ≡ g x) → filter_map f xs ≡ filter_map g xs
filter_map-same f g [] same = refl
filter_map-same f g (x ∷ xs) same = ap (λ o. cons_option o (filter_map f xs)) (same x) ∙ ap (λ ys. cons_option (g x) ys) (filter_map-same f g xs same)

-- .. and no more items than there were
pub filter_map-fewer : {X Y : Type 0} (f : X → Option Y) (xs : List X) → length (filter_map f xs) ≤ length xs
filter_map-fewer f [] = omega arith
filter_map-fewer {X} {Y} f (x ∷ xs) = by_case (f x) (filter_map-fewer f xs)
  where
    by_case : (o : Option Y) → length (filter_map f xs) ≤ length xs → length (cons_option o (filter_map f xs)) ≤ length (x ∷ xs)
    by_case None le = omega (arith, le)
    by_case (Some y) le = omega (arith, le)

numbers-stored : (width : ℕ) (entries : List Entry) → group_numbers width (records_of (map stored_row entries)) ≡ group_numbers width (map (λ entry. entry.kept) entries)
numbers-stored width [] = refl
numbers-stored width (entry ∷ entries) =
    ap (λ (ns : List ℕ). entry.kept.key / width ∷ filter (λ group. not (group == entry.kept.key / width)) ns) (numbers-stored width entries)

values-stored : (column width group : ℕ) (entries : List Entry) → group_values column width group (records_of (map stored_row entries)) ≡ group_values column width group (map (λ entry. entry.kept) entries)
values-stored column width group [] = refl
values-stored column width group (entry ∷ entries) = by_test (eqb (entry.kept.key / width) group) (values-stored column width group entries)
  where
    picked : Bool → Record → List Record → List ℤ
    picked b item items = map (λ item. column_of item column) (cond b (item ∷ filter (λ item. item.key / width == group) items) (filter (λ item. item.key / width == group) items))

    by_test : (b : Bool) → group_values column width group (records_of (map stored_row entries)) ≡ group_values column width group (map (λ entry. entry.kept) entries) → picked b (record_of (stored_row entry)) (records_of (map stored_row entries)) ≡ picked b entry.kept (map (λ entry. entry.kept) entries)
    by_test true rest =
        ap (λ (v : ℤ). v ∷ group_values column width group (records_of (map stored_row entries))) (column-stored entry column)
        ∙ ap (λ (vs : List ℤ). column_of entry.kept column ∷ vs) rest
    by_test false rest = rest

pub grouped-records : (column width : ℕ) (entries : List Entry) → aggregate column width (records_of (map stored_row entries)) ≡ aggregate column width (map (λ entry. entry.kept) entries)
grouped-records column width entries =
    filter_map-same (λ group. group_from group (group_values column width group (records_of (map stored_row entries)))) (λ group. group_from group (group_values column width group (map (λ entry. entry.kept) entries)))
    (group_numbers width (records_of (map stored_row entries))) (λ group. ap (group_from group) (values-stored column width group entries))
    ∙ ap (filter_map (λ group. group_from group (group_values column width group (map (λ entry. entry.kept) entries)))) (numbers-stored width entries)

-- there are no more groups than records
numbers-fewer : (width : ℕ) (items : List Record) → length (group_numbers width items) ≤ length items
numbers-fewer width [] = omega arith
numbers-fewer width (item ∷ items) = omega (arith, length-filter-le (λ group. not (group == item.key / width)) (group_numbers width items), numbers-fewer width items)

pub groups-fewer : (column width : ℕ) (items : List Record) → length (aggregate column width items) ≤ length items
groups-fewer column width items =
    omega (arith, filter_map-fewer (λ group. group_from group (group_values column width group items)) (group_numbers width items), numbers-fewer width items)
