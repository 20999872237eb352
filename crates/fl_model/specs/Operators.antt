-- What the operators make of a list of records.
use Rattle.std.specs.Prelude.{ℕ, zero, suc, ◌+◌, ◌/◌, Bool, not, ◌==◌, ◌&&◌, ℤ, pos, ◌+ℤ◌, int_le, int_lt, Option, Some, None, option_map, unwrap_or, List, [], ◌∷◌, length, map, filter, filter_map, fold, slice_get}
use Rattle.std.specs.List.{find}
use Rattle.std.specs.Int.{int_min, int_max, int_div_euclid}
use Rattle.fl_base.specs.declared.types.Op.{Op}
use Rattle.fl_base.specs.declared.types.Op.TheVariants.{Lt, Le, Eq, Ne, Ge, Gt}
use Rattle.fl_model.specs.Record.{Record}

-- column 0 is the key
abbrev pub column_of : Record → ℕ → ℤ
column_of item zero = pos item.key
column_of item (suc n) = unwrap_or (slice_get item.values n) (pos 0)

abbrev pub compares : Op → ℤ → ℤ → Bool
compares Lt a b = int_lt a b
compares Le a b = int_le a b
compares Eq a b = int_le a b && int_le b a
compares Ne a b = not (int_le a b && int_le b a)
compares Ge a b = int_le b a
compares Gt a b = int_lt b a

abbrev pub select : ℕ → Op → ℤ → List Record → List Record
select column op value items = filter (λ item. compares op (column_of item column) value) items

abbrev pub project : List ℕ → List Record → List (List ℤ)
project columns items = map (λ item. map (column_of item) columns) items

-- the records of a group
pub record Group : Type 0 where
  pub group : ℕ
  pub count : ℕ
  pub least : ℤ
  pub greatest : ℤ
  pub sum : ℤ
  pub mean : ℤ

abbrev pub total_of : List ℤ → ℤ
total_of values = fold ◌+ℤ◌ (pos 0) values

abbrev pub least_of : ℤ → List ℤ → ℤ
least_of first values = fold int_min first values

abbrev pub greatest_of : ℤ → List ℤ → ℤ
greatest_of first values = fold int_max first values

-- a group, of its first value and the others
abbrev pub group_of : ℕ → ℤ → List ℤ → Group
group_of group first others = record {
  group = group;
  count = 1 + length others;
  least = least_of first others;
  greatest = greatest_of first others;
  sum = total_of (first ∷ others);
  mean = int_div_euclid (total_of (first ∷ others)) (pos (1 + length others));
}

-- the groups that occur, in the order in which they begin
abbrev pub group_numbers : ℕ → List Record → List ℕ
group_numbers width [] = []
group_numbers width (item ∷ items) =
    item.key / width ∷ filter (λ group. not (group == item.key / width)) (group_numbers width items)

abbrev pub group_values : ℕ → ℕ → ℕ → List Record → List ℤ
group_values column width group items =
    map (λ item. column_of item column) (filter (λ item. item.key / width == group) items)

abbrev pub group_from : ℕ → List ℤ → Option Group
group_from group [] = None
group_from group (first ∷ others) = Some (group_of group first others)

abbrev pub aggregate : ℕ → ℕ → List Record → List Group
aggregate column width items =
    filter_map (λ group. group_from group (group_values column width group items)) (group_numbers width items)

-- the pairs of records with one key, in the order of the left ones
abbrev pub key_join : List Record → List Record → List (Record × Record)
key_join left right =
    filter_map (λ a. option_map (λ b. (a, b)) (find (λ b. b.key == a.key) right)) left
