-- All rows of a table make two groups at most by a width one below the bound of a key, and their lines are short.
use Rattle.std.proofs.Common.{◌≡◌, ℕ, zero, suc, ◌+◌, ◌*◌, ◌/◌, ◌^◌, ◌<◌, ◌≤◌, inl, inr, Bool, true, false, cond, not, eqb, ℤ, pos, ◌+ℤ◌, List, [], ◌∷◌, ◌++◌, length, filter, map, take, codes, refl, sym, ◌∙◌, ap, subst, length-append, append_assoc, lit≤, arith}
use Rattle.std.specs.Prelude.{◌==◌, filter_map, fold, decimal}
use Rattle.std.specs.Fmt.{signed_decimal}
use Rattle.std.specs.Int.{int_min, int_max, int_div_euclid}
use Rattle.std.specs.List.{AllByRecursion, cons_option}
use Rattle.std.proofs.Math.Nat.{div-le_self}
use Rattle.std.proofs.lemmas.Bool.Decides.{nat_tests}
use Rattle.std.proofs.lemmas.Fmt.{length-decimal-le_wide}
use Rattle.std.proofs.lemmas.Grind.{flat_map-append}
use Rattle.std.proofs.lemmas.List.{length-map, take_all}
use Rattle.fl_model.specs.Operators.{Group, aggregate, column_of, group_from, group_numbers, group_of, group_values}
use Rattle.fl_model.specs.Record.{Record}
use Rattle.fl_model.proofs.Lists.{length-filter-le, each-filter}
use Rattle.fl_words.specs.Reply as reply
use Rattle.fl_words.specs.Reply.{Reply, text, texts}
use Rattle.fl_machine.specs.Step.{Lists, group_reply}
use Rattle.fl_queries.proofs.GroupLines.{filter_map-fewer}
use Rattle.fl_shell.specs.FirstKey.{BeginsShort, IsBelow}

-- ---- two groups at most

-- of the numbers 0 and 1 none is another one than both
others-none : (a b : ℕ) → a ≤ 1 → b ≤ 1 → eqb b a ≡ false → (ns : List ℕ) → AllByRecursion (λ n. n ≤ 1) ns → filter (λ n. not (n == a)) (filter (λ n. not (n == b)) ns) ≡ []
others-none a b la lb other [] all = refl
others-none a b la lb other (n ∷ ns) all = by_test (eqb n b) refl (others-none a b la lb other ns all.1)
  where
    by_test : (t : Bool) → eqb n b ≡ t → filter (λ n. not (n == a)) (filter (λ n. not (n == b)) ns) ≡ [] → filter (λ n. not (n == a)) (filter (λ n. not (n == b)) (n ∷ ns)) ≡ []
    by_test true e rest = rw e rest
    by_test false e rest =
        let same : eqb n a ≡ true = grind (arith, nat_tests, e, all.0, la, lb, other) in
        rw (e, same) rest

-- each item is of group 0 or 1
abbrev pub AreHalves : ℕ → List Record → Type 0
AreHalves width items = AllByRecursion (λ (item : Record). item.key / width ≤ 1) items

numbers-halves : (width : ℕ) (items : List Record) → AreHalves width items → AllByRecursion (λ n. n ≤ 1) (group_numbers width items)
numbers-halves width [] all = tt
numbers-halves width (item ∷ items) all = (all.0, each-filter (λ n. n ≤ 1) (λ n. not (n == item.key / width)) (group_numbers width items) (numbers-halves width items all.1))

one-other : (width : ℕ) (items : List Record) (g : ℕ) → g ≤ 1 → AreHalves width items → length (filter (λ n. not (n == g)) (group_numbers width items)) ≤ 1
one-other width [] g lg all = omega arith
one-other width (item ∷ items) g lg all = by_test (eqb (item.key / width) g) refl (one-other width items (item.key / width) all.0 all.1)
  where
    ns : List ℕ
    ns = filter (λ n. not (n == item.key / width)) (group_numbers width items)

    by_test : (t : Bool) → eqb (item.key / width) g ≡ t → length ns ≤ 1 → length (filter (λ n. not (n == g)) (group_numbers width (item ∷ items))) ≤ 1
    by_test true e rest = rw e (omega (arith, length-filter-le (λ n. not (n == g)) ns, rest))
    by_test false e rest =
        let none = others-none g (item.key / width) lg all.0 e (group_numbers width items) (numbers-halves width items all.1) in
        rw (e, none) (omega arith)

numbers-few : (width : ℕ) (items : List Record) → AreHalves width items → length (group_numbers width items) ≤ 2
numbers-few width [] all = omega arith
numbers-few width (item ∷ items) all = omega (arith, one-other width items (item.key / width) all.0 all.1)

-- ---- what a group tells

fold-kept : {X : Type 0} (P : X → Type 0) (f : X → X → X) → ((x y : X) → P x → P y → P (f x y)) → (x : X) (xs : List X) → P x → AllByRecursion P xs → P (fold f x xs)
fold-kept P f keeps x [] p all = p
fold-kept P f keeps x (y ∷ ys) p all = fold-kept P f keeps (f x y) ys (keeps x y p all.0) all.1

picked : (most : ℕ) (b : Bool) (x y : ℤ) → IsBelow most x → IsBelow most y → IsBelow most (cond b x y)
picked most true x y p q = p
picked most false x y p q = q

total-below : (n : ℕ) (values : List ℤ) → AllByRecursion (IsBelow (2 ^ 64)) values → (s : ℕ) × (fold ◌+ℤ◌ (pos n) values ≡ pos s) × (s ≤ n + 2 ^ 64 * length values)
total-below n [] all = (n, refl, omega arith)
total-below n (v ∷ vs) all =
    let r = total-below (n + all.0.0) vs all.1 in
    (r.0, ap (λ z. fold ◌+ℤ◌ (pos n +ℤ z) vs) all.0.1 ∙ r.1, omega (arith, r.2, all.0.2))

-- the numbers of its line
pub record IsShortGroup (g : Group) : Type 0 where
  pub group : g.group < 10 ^ 20
  pub count : g.count < 10 ^ 20
  pub least : IsBelow (10 ^ 20) g.least
  pub greatest : IsBelow (10 ^ 20) g.greatest
  pub sum : IsBelow (10 ^ 39) g.sum
  pub mean : IsBelow (10 ^ 39) g.mean

-- the values of a group of keys
values-below : (group width : ℕ) (items : List Record) → AllByRecursion (λ (item : Record). item.key < 2 ^ 64) items → AllByRecursion (IsBelow (2 ^ 64)) (group_values 0 width group items)
values-below group width [] all = tt
values-below group width (item ∷ items) all = by_test (eqb (item.key / width) group) (values-below group width items all.1)
  where
    rest : List Record
    rest = filter (λ item. item.key / width == group) items

    by_test : (b : Bool) → AllByRecursion (IsBelow (2 ^ 64)) (map (λ item. column_of item 0) rest) → AllByRecursion (IsBelow (2 ^ 64)) (map (λ item. column_of item 0) (cond b (item ∷ rest) rest))
    by_test true h = ((item.key, refl, all.0), h)
    by_test false h = h

wider : (a b : ℕ) (z : ℤ) → a ≤ b → IsBelow a z → IsBelow b z
wider a b z le h = (h.0, h.1, omega (arith, le, h.2))

-- a group of so many keys
short-of : (group : ℕ) (first : ℤ) (others : List ℤ) → group < 10 ^ 20 → 1 + length others ≤ 2 ^ 64 → AllByRecursion (IsBelow (2 ^ 64)) (first ∷ others) → IsShortGroup (group_of group first others)
short-of group first others lt few all =
    let some : 2 ^ 64 ≤ 10 ^ 20 = lit≤ tt in
    let least = fold-kept (IsBelow (2 ^ 64)) int_min (λ x y p q. picked (2 ^ 64) _ y x q p) first others all.0 all.1 in
    let greatest = fold-kept (IsBelow (2 ^ 64)) int_max (λ x y p q. picked (2 ^ 64) _ x y p q) first others all.0 all.1 in
    let total = total-below 0 (first ∷ others) all in
    let sum : total.0 < 10 ^ 39 = omega (arith, total.2, few) in
    let mean : total.0 / (1 + length others) ≤ total.0 = div-le_self total.0 (1 + length others) in
    record {
      group = lt;
      count = omega (arith, few, some);
      least = wider (2 ^ 64) (10 ^ 20) _ some least;
      greatest = wider (2 ^ 64) (10 ^ 20) _ some greatest;
      sum = (total.0, total.1, sum);
      mean = (total.0 / (1 + length others), ap (λ z. int_div_euclid z (pos (1 + length others))) total.1, omega (arith, mean, sum));
    }

values-fewer : (group width : ℕ) (items : List Record) → length (group_values 0 width group items) ≤ length items
values-fewer group width items =
    omega (arith, length-map (filter (λ item. item.key / width == group) items) (λ item. column_of item 0), length-filter-le (λ (item : Record). item.key / width == group) items)

groups-short : (width : ℕ) (items : List Record) (ns : List ℕ) → length items ≤ 2 ^ 64 → AllByRecursion (λ (item : Record). item.key < 2 ^ 64) items → AllByRecursion (λ n. n ≤ 1) ns →
    AllByRecursion IsShortGroup (filter_map (λ group. group_from group (group_values 0 width group items)) ns)
groups-short width items [] few all halves = tt
groups-short width items (n ∷ ns) few all halves =
    by_values (group_values 0 width n items) (omega (arith, few, values-fewer n width items)) (values-below n width items all) (groups-short width items ns few all halves.1)
  where
    others : List Group
    others = filter_map (λ group. group_from group (group_values 0 width group items)) ns

    by_values : (values : List ℤ) → length values ≤ 2 ^ 64 → AllByRecursion (IsBelow (2 ^ 64)) values → AllByRecursion IsShortGroup others → AllByRecursion IsShortGroup (cons_option (group_from n values) others)
    by_values [] le below rest = rest
    by_values (first ∷ more) le below rest = (short-of n first more (omega (arith, halves.0)) (omega (arith, le)) below, rest)

-- ---- how long their lines are

digits-20 : (n : ℕ) → n < 10 ^ 20 → length (decimal n) ≤ 20
digits-20 n lt = length-decimal-le_wide 20 n (omega arith) lt (omega (arith, lt))

digits-39 : (n : ℕ) → n < 10 ^ 39 → length (decimal n) ≤ 39
digits-39 n lt = length-decimal-le_wide 39 n (omega arith) lt (omega (arith, lt))

signed-20 : (z : ℤ) → IsBelow (10 ^ 20) z → length (signed_decimal z) ≤ 20
signed-20 z h = subst (λ (z : ℤ). length (signed_decimal z) ≤ 20) (sym h.1) (digits-20 h.0 h.2)

signed-39 : (z : ℤ) → IsBelow (10 ^ 39) z → length (signed_decimal z) ≤ 39
signed-39 z h = subst (λ (z : ℤ). length (signed_decimal z) ≤ 39) (sym h.1) (digits-39 h.0 h.2)

-- a word, a number and what comes behind them
piece : (word number rest : List ℕ) (a b : ℕ) → length number ≤ a → length rest ≤ b → length (word ++ (number ++ rest)) ≤ length word + (a + b)
piece word number rest a b h k = omega (arith, length-append word (number ++ rest), length-append number rest, h, k)

line-short : (g : Group) → IsShortGroup g → length (text (group_reply g)) ≤ 200
line-short g h =
    let r6 = codes " mean " ++ (signed_decimal g.mean ++ 10 ∷ []) in
    let r5 = codes " sum " ++ (signed_decimal g.sum ++ r6) in
    let r4 = codes " greatest " ++ (signed_decimal g.greatest ++ r5) in
    let r3 = codes " least " ++ (signed_decimal g.least ++ r4) in
    let r2 = codes " count " ++ (decimal g.count ++ r3) in
    let p6 : length r6 ≤ 46 = piece (codes " mean ") (signed_decimal g.mean) (10 ∷ []) 39 1 (signed-39 g.mean h.mean) (omega arith) in
    let p5 : length r5 ≤ 90 = piece (codes " sum ") (signed_decimal g.sum) r6 39 46 (signed-39 g.sum h.sum) p6 in
    let p4 : length r4 ≤ 120 = piece (codes " greatest ") (signed_decimal g.greatest) r5 20 90 (signed-20 g.greatest h.greatest) p5 in
    let p3 : length r3 ≤ 147 = piece (codes " least ") (signed_decimal g.least) r4 20 120 (signed-20 g.least h.least) p4 in
    let p2 : length r2 ≤ 174 = piece (codes " count ") (decimal g.count) r3 20 147 (digits-20 g.count h.count) p3 in
    let p1 : length (codes "group " ++ (decimal g.group ++ r2)) ≤ 200 = piece (codes "group ") (decimal g.group) r2 20 174 (digits-20 g.group h.group) p2 in
    let same : text (group_reply g) ≡ codes "group " ++ (decimal g.group ++ r2) = simp append_assoc in
    omega (arith, ap (λ (l : List ℕ). length l) same, p1)

-- ---- all of them

none-left : (n : ℕ) → length (texts (take n [])) ≡ 0
none-left zero = refl
none-left (suc n) = refl

lines-short : (groups : List Group) → AllByRecursion IsShortGroup groups → length groups ≤ 2 → (n : ℕ) → length (texts (take n (map group_reply groups))) ≤ 400
lines-short groups short few zero = omega arith
lines-short [] short few (suc n) = omega arith
lines-short (g ∷ []) short few (suc n) = omega (arith, line-short g short.0, length-append (text (group_reply g)) (texts (take n [])), none-left n)
lines-short (g ∷ h ∷ []) short few (suc zero) = omega (arith, line-short g short.0, length-append (text (group_reply g)) [])
lines-short (g ∷ h ∷ []) short few (suc (suc n)) = omega (arith, line-short g short.0, line-short h short.1.0, length-append (text (group_reply g)) (text (group_reply h) ++ texts (take n [])), length-append (text (group_reply h)) (texts (take n [])), none-left n)
lines-short (g ∷ h ∷ i ∷ groups) short few (suc n) = absurd (omega (arith, few))

-- the replies of an aggregation by them
pub replies-short : (rose : Bool) (groups : List Group) (replies : List Reply) → AllByRecursion IsShortGroup groups → length groups ≤ 2 → Lists rose (map group_reply groups) (reply.EndCount (length (map group_reply groups))) replies →
    length (texts replies) ≤ 430
replies-short rose groups replies short few (inl all) =
    let lines = map group_reply groups in
    let many : length lines ≤ 2 = omega (arith, few, length-map groups group_reply) in
    let first : length (texts lines) ≤ 400 = subst (λ (ls : List Reply). length (texts ls) ≤ 400) (take_all 2 lines many) (lines-short groups short few 2) in
    let last : length (text (reply.EndCount (length lines))) ≤ 25 =
    piece (codes "end ") (decimal (length lines)) (10 ∷ []) 20 1 (digits-20 (length lines) (omega (arith, many))) (omega arith) in
    omega (
      arith,
      first,
      last,
      ap (λ (rs : List Reply). length (texts rs)) all,
      ap (λ (l : List ℕ). length l) (flat_map-append text lines (reply.EndCount (length lines) ∷ [])),
      length-append (texts lines) (texts (reply.EndCount (length lines) ∷ [])),
      length-append (text (reply.EndCount (length lines))) [],
    )
replies-short rose groups replies short few (inr some) =
    let lines = map group_reply groups in
    let n = some.1.0 in
    omega (arith, lines-short groups short few n, ap (λ (rs : List Reply). length (texts rs)) some.1.2, ap (λ (l : List ℕ). length l) (flat_map-append text (take n lines) (reply.ReadFault ∷ [])), length-append (texts (take n lines)) (texts (reply.ReadFault ∷ [])))

-- .. and how they begin
pub begins-short : (rose : Bool) (groups : List Group) (replies : List Reply) → AllByRecursion IsShortGroup groups → Lists rose (map group_reply groups) (reply.EndCount (length (map group_reply groups))) replies → BeginsShort replies
begins-short rose [] replies short (inl all) = subst BeginsShort (sym all) tt
begins-short rose (g ∷ groups) replies short (inl all) = subst BeginsShort (sym all) (short.0.group, short.0.count, short.0.least)
begins-short rose groups replies short (inr some) = subst BeginsShort (sym some.1.2) (by_count some.1.0 groups short)
  where
    by_count : (n : ℕ) (groups : List Group) → AllByRecursion IsShortGroup groups → BeginsShort (take n (map group_reply groups) ++ reply.ReadFault ∷ [])
    by_count zero groups short = tt
    by_count (suc n) [] short = tt
    by_count (suc n) (g ∷ groups) short = (short.0.group, short.0.count, short.0.least)

-- the groups of these records
pub all-groups : (width : ℕ) (items : List Record) → length items ≤ 2 ^ 64 → AllByRecursion (λ (item : Record). item.key < 2 ^ 64) items → AreHalves width items →
    AllByRecursion IsShortGroup (aggregate 0 width items) × (length (aggregate 0 width items) ≤ 2)
all-groups width items few keys halves = (
  groups-short width items (group_numbers width items) few keys (numbers-halves width items halves),
  omega (arith, numbers-few width items halves, filter_map-fewer (λ group. group_from group (group_values 0 width group items)) (group_numbers width items)),
)
