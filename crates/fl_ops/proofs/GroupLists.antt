-- The groups of records whose keys ascend, found from the front.
use Rattle.std.proofs.Common.{ℕ, ◌≡◌, ◌<◌, ◌≤◌, ◌+◌, ◌/◌, List, [], ◌∷◌, Bool, true, false, not, eqb, refl, ap, ◌∙◌, sym, subst, Some, arith, filter, map, fold, length, ℤ, pos, Option}
use Rattle.std.specs.Prelude.{◌==◌, ◌+ℤ◌, if◌then◌else◌}
use Rattle.std.specs.List.{filter_map}
use Rattle.std.specs.Int.{int_min, int_max}
use Rattle.std.proofs.lemmas.Grind.{common_steps}
use Rattle.std.proofs.lemmas.Int.{ints}
use Rattle.std.proofs.Math.Nat.{div-mul-le_self}
use Rattle.std.proofs.lemmas.Nat.{le-div}
use Rattle.std.proofs.lemmas.Bool.{eq-eqb}
use Rattle.fl_model.specs.Record.{Record}
use Rattle.fl_model.specs.Operators.{column_of, group_of, group_numbers, group_values, group_from, aggregate, total_of}
use Rattle.fl_ops.specs.declared.tally.Tally.{Tally}
use Rattle.fl_ops.specs.Tally.{tally_of, tally_more, tallied}
use Rattle.fl_ops.proofs.AscendingKeys.{Climbs}

-- the groups of these records are above g
abbrev Beyond : ℕ → ℕ → List Record → Type 0
Beyond width g [] = Unit {0}
Beyond width g (item ∷ items) = (g < item.key / width) × Beyond width g items

abbrev AllAbove : ℕ → List ℕ → Type 0
AllAbove g [] = Unit {0}
AllAbove g (n ∷ ns) = (g < n) × AllAbove g ns

div-mono : (width a b : ℕ) → 0 < width → a ≤ b → a / width ≤ b / width
div-mono width a b some h = le-div (a / width) b width some (omega (arith, div-mul-le_self a width))

beyond : (width g key : ℕ) (items : List Record) → 0 < width → g < key / width → Climbs key items → Beyond width g items
beyond width g key [] some lt h = tt
beyond width g key (item ∷ items) some lt h =
    let next : g < item.key / width = omega (arith, div-mono width key item.key some (omega (arith, h.0))) in
    (next, beyond width g item.key items some next h.1)

-- the records of the group at the front, and the rest
abbrev same_of : ℕ → ℕ → List Record → List Record
same_of width g [] = []
same_of width g (item ∷ items) = if item.key / width == g then item ∷ same_of width g items else []

abbrev rest_of : ℕ → ℕ → List Record → List Record
rest_of width g [] = []
rest_of width g (item ∷ items) = if item.key / width == g then rest_of width g items else item ∷ items

-- a list of one group, and records beyond it
data Split (width g : ℕ) : List Record → Type 0 where
  far : (items : List Record) → Beyond width g items → Split width g items
  same : (item : Record) (items : List Record) → item.key / width ≡ g → Split width g items → Split width g (item ∷ items)

split-next : (width g : ℕ) (item : Record) (items : List Record) → 0 < width → (b : Bool) → eqb (item.key / width) g ≡ b → g ≤ item.key / width → Climbs item.key items
    → (item.key / width ≡ g → Split width g items) → Split width g (item ∷ items)
split-next width g item items some true e le h more = let is : item.key / width ≡ g = grind (arith, common_steps) in same item items is (more is)
split-next width g item items some false e le h more =
    let above : g < item.key / width = grind (arith, common_steps) in far (item ∷ items) (above, beyond width g item.key items some above h)

split : (width g key : ℕ) (items : List Record) → 0 < width → key / width ≡ g → Climbs key items → Split width g items
split width g key [] some e h = far [] tt
split width g key (item ∷ items) some e h =
    let le : g ≤ item.key / width = omega (arith, div-mono width key item.key some (omega (arith, h.0)), e) in
    split-next width g item items some (eqb (item.key / width) g) refl le h.1 (λ is. split width g item.key items some is h.1)

gt-eq : (a b : ℕ) → b < a → eqb a b ≡ false
gt-eq a b e = grind (arith, common_steps)

lt-eq : (a b : ℕ) → a < b → eqb a b ≡ false
lt-eq a b e = grind (arith, common_steps)

rest-far : (width g : ℕ) (items : List Record) → Beyond width g items → rest_of width g items ≡ items
rest-far width g [] h = refl
rest-far width g (item ∷ items) h = rw (gt-eq (item.key / width) g h.0) refl

same-far : (width g : ℕ) (items : List Record) → Beyond width g items → same_of width g items ≡ []
same-far width g [] h = refl
same-far width g (item ∷ items) h = rw (gt-eq (item.key / width) g h.0) refl

rest-beyond : (width g : ℕ) (items : List Record) → Split width g items → Beyond width g (rest_of width g items)
rest-beyond width g items (far items' h) = let P : List Record → Type 0 = λ xs. Beyond width g xs in subst P (sym (rest-far width g items h)) h
rest-beyond width g (item ∷ items) (same item' items' e s) = rw (eq-eqb (item.key / width) g e) (rest-beyond width g items s)

-- the records of the group
filter-far : (width g : ℕ) (items : List Record) → Beyond width g items → filter (λ item. item.key / width == g) items ≡ []
filter-far width g [] h = refl
filter-far width g (item ∷ items) h = rw (gt-eq (item.key / width) g h.0) (filter-far width g items h.1)

filter-same : (width g : ℕ) (items : List Record) → Split width g items → filter (λ item. item.key / width == g) items ≡ same_of width g items
filter-same width g items (far items' h) = filter-far width g items h ∙ sym (same-far width g items h)
filter-same width g (item ∷ items) (same item' items' e s) = rw (eq-eqb (item.key / width) g e) (ap (λ x. item ∷ x) (filter-same width g items s))

-- the records of a later group
filter-other : (width g n : ℕ) (items : List Record) → Split width g items → g < n → filter (λ item. item.key / width == n) items ≡ filter (λ item. item.key / width == n) (rest_of width g items)
filter-other width g n items (far items' h) lt = ap (filter (λ item. item.key / width == n)) (sym (rest-far width g items h))
filter-other width g n (item ∷ items) (same item' items' e s) lt =
    let other : eqb (item.key / width) n ≡ false = lt-eq (item.key / width) n (omega (arith, e, lt)) in
    rw (eq-eqb (item.key / width) g e, other) (filter-other width g n items s lt)

filter-twice : {X : Type 0} (p : X → Bool) (xs : List X) → filter p (filter p xs) ≡ filter p xs
filter-twice p [] = refl
filter-twice p (x ∷ xs) = twice-at p x xs (p x) refl (filter-twice p xs)
  where
    twice-at : {X : Type 0} (p : X → Bool) (x : X) (xs : List X) (a : Bool) → p x ≡ a → filter p (filter p xs) ≡ filter p xs → filter p (filter p (x ∷ xs)) ≡ filter p (x ∷ xs)
    twice-at p x xs true e ih = rw e (rw e (ap (λ ys. x ∷ ys) ih))
    twice-at p x xs false e ih = rw e ih

above-filter : (g : ℕ) (p : ℕ → Bool) (ns : List ℕ) → AllAbove g ns → AllAbove g (filter p ns)
above-filter g p [] h = tt
above-filter g p (n ∷ ns) h = above-at g p n ns (p n) refl h.0 (above-filter g p ns h.1)
  where
    above-at : (g : ℕ) (p : ℕ → Bool) (n : ℕ) (ns : List ℕ) (a : Bool) → p n ≡ a → g < n → AllAbove g (filter p ns) → AllAbove g (filter p (n ∷ ns))
    above-at g p n ns true e lt h = rw e (lt, h)
    above-at g p n ns false e lt h = rw e h

numbers-above : (width g : ℕ) (items : List Record) → Beyond width g items → AllAbove g (group_numbers width items)
numbers-above width g [] h = tt
numbers-above width g (item ∷ items) h = (h.0, above-filter g (λ n. not (n == item.key / width)) (group_numbers width items) (numbers-above width g items h.1))

filter-above : (g : ℕ) (ns : List ℕ) → AllAbove g ns → filter (λ n. not (n == g)) ns ≡ ns
filter-above g [] h = refl
filter-above g (n ∷ ns) h = rw (gt-eq n g h.0) (ap (λ xs. n ∷ xs) (filter-above g ns h.1))

-- the other groups
numbers-other : (width g : ℕ) (items : List Record) → Split width g items → filter (λ n. not (n == g)) (group_numbers width items) ≡ group_numbers width (rest_of width g items)
numbers-other width g items (far items' h) = filter-above g (group_numbers width items) (numbers-above width g items h) ∙ ap (group_numbers width) (sym (rest-far width g items h))
numbers-other width g (item ∷ items) (same item' items' e s) =
    let drops : filter (λ n. not (n == g)) (group_numbers width (item ∷ items)) ≡ filter (λ n. not (n == g)) (filter (λ n. not (n == g)) (group_numbers width items))
    = rw (eq-eqb (item.key / width) g e) (ap (λ k. filter (λ n. not (n == g)) (filter (λ n. not (n == k)) (group_numbers width items))) e) in
    let keeps : rest_of width g (item ∷ items) ≡ rest_of width g items = rw (eq-eqb (item.key / width) g e) refl in
    drops ∙ filter-twice (λ n. not (n == g)) (group_numbers width items) ∙ numbers-other width g items s ∙ ap (group_numbers width) (sym keeps)

filter_map-above : {X : Type 0} (g : ℕ) (f h : ℕ → Option X) (ns : List ℕ) → AllAbove g ns → ((n : ℕ) → g < n → f n ≡ h n) → filter_map f ns ≡ filter_map h ns
filter_map-above g f h [] above eqs = refl
filter_map-above g f h (n ∷ ns) above eqs = rw (eqs n above.0, filter_map-above g f h ns above.1 eqs) refl

-- the values of a group, one by one
abbrev tallies : Tally → List ℤ → Tally
tallies t vs = fold tally_more t vs

tallies-count : (t : Tally) (vs : List ℤ) → (tallies t vs).count ≡ t.count + length vs
tallies-count t [] = omega arith
tallies-count t (v ∷ vs) = tallies-count (tally_more t v) vs ∙ omega arith

tallies-least : (t : Tally) (vs : List ℤ) → (tallies t vs).least ≡ fold int_min t.least vs
tallies-least t [] = refl
tallies-least t (v ∷ vs) = tallies-least (tally_more t v) vs

tallies-greatest : (t : Tally) (vs : List ℤ) → (tallies t vs).greatest ≡ fold int_max t.greatest vs
tallies-greatest t [] = refl
tallies-greatest t (v ∷ vs) = tallies-greatest (tally_more t v) vs

tallies-sum : (t : Tally) (vs : List ℤ) → (tallies t vs).sum ≡ fold ◌+ℤ◌ t.sum vs
tallies-sum t [] = refl
tallies-sum t (v ∷ vs) = tallies-sum (tally_more t v) vs

from-zero : (v : ℤ) → pos 0 +ℤ v ≡ v
from-zero v = omega (arith, ints)

group-tallied : (g : ℕ) (v : ℤ) (vs : List ℤ) → group_of g v vs ≡ tallied g (tallies (tally_of v) vs)
group-tallied g v vs =
    let count : (tallies (tally_of v) vs).count ≡ 1 + length vs = tallies-count (tally_of v) vs in
    let sum : (tallies (tally_of v) vs).sum ≡ total_of (v ∷ vs) = tallies-sum (tally_of v) vs ∙ ap (λ s. fold ◌+ℤ◌ s vs) (sym (from-zero v)) in
    rw (count, tallies-least (tally_of v) vs, tallies-greatest (tally_of v) vs, sum) refl

-- what is known of the values of a group, and the records left
pub record Taken : Type 0 where
  pub tally : Tally
  pub rest : List Record

-- takes the records of the group from the front
abbrev pub take_group : ℕ → ℕ → ℕ → Tally → List Record → Taken
take_group column width g t [] = record { tally = t; rest = [] }
take_group column width g t (item ∷ items) =
    if item.key / width == g then take_group column width g (tally_more t (column_of item column)) items else record { tally = t; rest = item ∷ items }

taken-rest : (column width g : ℕ) (t : Tally) (items : List Record) → Split width g items → (take_group column width g t items).rest ≡ rest_of width g items
taken-rest column width g t [] s = refl
taken-rest column width g t (item ∷ items) (far items' h) = rw (gt-eq (item.key / width) g h.0) refl
taken-rest column width g t (item ∷ items) (same item' items' e s) = rw (eq-eqb (item.key / width) g e) (taken-rest column width g (tally_more t (column_of item column)) items s)

taken-tally : (column width g : ℕ) (t : Tally) (items : List Record) → Split width g items → (take_group column width g t items).tally ≡ tallies t (map (λ item. column_of item column) (same_of width g items))
taken-tally column width g t [] s = refl
taken-tally column width g t (item ∷ items) (far items' h) = rw (gt-eq (item.key / width) g h.0) refl
taken-tally column width g t (item ∷ items) (same item' items' e s) = rw (eq-eqb (item.key / width) g e) (taken-tally column width g (tally_more t (column_of item column)) items s)

front-values : (column width : ℕ) (item : Record) (items : List Record) → Split width (item.key / width) items
    → group_values column width (item.key / width) (item ∷ items) ≡ column_of item column ∷ map (λ x. column_of x column) (same_of width (item.key / width) items)
front-values column width item items s =
    rw (eq-eqb (item.key / width) (item.key / width) refl) (ap (λ xs. column_of item column ∷ map (λ x. column_of x column) xs) (filter-same width (item.key / width) items s))

front-group : (column width : ℕ) (item : Record) (items : List Record) → Split width (item.key / width) items
    → group_from (item.key / width) (group_values column width (item.key / width) (item ∷ items))
    ≡ Some (tallied (item.key / width) (take_group column width (item.key / width) (tally_of (column_of item column)) items).tally)
front-group column width item items s =
    ap (group_from (item.key / width)) (front-values column width item items s)
    ∙ ap Some (group-tallied (item.key / width) (column_of item column) (map (λ x. column_of x column) (same_of width (item.key / width) items)))
    ∙ ap (λ t. Some (tallied (item.key / width) t)) (sym (taken-tally column width (item.key / width) (tally_of (column_of item column)) items s))

later-group : (column width n : ℕ) (item : Record) (items : List Record) → Split width (item.key / width) items → item.key / width < n
    → group_from n (group_values column width n (item ∷ items)) ≡ group_from n (group_values column width n (rest_of width (item.key / width) items))
later-group column width n item items s lt =
    let skips : group_values column width n (item ∷ items) ≡ group_values column width n items = rw (lt-eq (item.key / width) n lt) refl in
    ap (group_from n) (skips ∙ ap (map (λ x. column_of x column)) (filter-other width (item.key / width) n items s lt))

later-groups : (column width : ℕ) (item : Record) (items : List Record) → Split width (item.key / width) items
    → filter_map (λ g. group_from g (group_values column width g (item ∷ items))) (filter (λ n. not (n == item.key / width)) (group_numbers width items))
    ≡ aggregate column width (rest_of width (item.key / width) items)
later-groups column width item items s =
    ap (filter_map (λ g. group_from g (group_values column width g (item ∷ items)))) (numbers-other width (item.key / width) items s)
    ∙ filter_map-above (item.key / width) (λ g. group_from g (group_values column width g (item ∷ items))) (λ g. group_from g (group_values column width g (rest_of width (item.key / width) items)))
    (group_numbers width (rest_of width (item.key / width) items)) (numbers-above width (item.key / width) (rest_of width (item.key / width) items) (rest-beyond width (item.key / width) items s))
    (λ n lt. later-group column width n item items s lt)

-- the first group, and those of the rest
aggregate-front : (column width : ℕ) (item : Record) (items : List Record) → 0 < width → Climbs item.key items
    → aggregate column width (item ∷ items)
    ≡ tallied (item.key / width) (take_group column width (item.key / width) (tally_of (column_of item column)) items).tally
    ∷ aggregate column width (take_group column width (item.key / width) (tally_of (column_of item column)) items).rest
aggregate-front column width item items some h =
    let s = split width (item.key / width) item.key items some refl h in
    rw (front-group column width item items s)
    (ap (λ groups. tallied (item.key / width) (take_group column width (item.key / width) (tally_of (column_of item column)) items).tally ∷ groups)
    (later-groups column width item items s ∙ ap (aggregate column width) (sym (taken-rest column width (item.key / width) (tally_of (column_of item column)) items s))))

-- the same, from what the loop found
pub aggregate-taken : (column width g : ℕ) (item : Record) (items before : List Record) (t : Tally) (rest : List Record) → 0 < width → Climbs item.key items
    → before ≡ item ∷ items → g ≡ item.key / width → take_group column width g (tally_of (column_of item column)) items ≡ record { tally = t; rest = rest }
    → aggregate column width before ≡ tallied g t ∷ aggregate column width rest
aggregate-taken column width g item items before t rest some h eb eg et =
    ap (aggregate column width) eb ∙ aggregate-front column width item items some h ∙ rw (← eg, et) refl

-- one more record of the group, and the first after it
pub take_group-more : (column width g : ℕ) (t : Tally) (item : Record) (items : List Record) → item.key / width ≡ g
    → take_group column width g t (item ∷ items) ≡ take_group column width g (tally_more t (column_of item column)) items
take_group-more column width g t item items e = rw (eq-eqb (item.key / width) g e) refl

pub take_group-stop : (column width g : ℕ) (t : Tally) (item : Record) (items : List Record) → (item.key / width ≡ g → ⊥)
    → take_group column width g t (item ∷ items) ≡ record { tally = t; rest = item ∷ items }
take_group-stop column width g t item items ne = let other : eqb (item.key / width) g ≡ false = grind (arith, common_steps) in rw other refl

pub ruleset takes = (take_group-more, take_group-stop)
