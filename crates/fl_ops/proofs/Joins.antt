-- The pairs of lists whose keys ascend, found from their fronts.
use Rattle.std.proofs.Common.{ℕ, ◌≡◌, ◌∙◌, ◌<◌, ◌≤◌, Bool, true, false, List, [], ◌∷◌, eqb, refl, ap, arith, Some, None, Result, Ok, Err, if◌then◌else◌}
use Rattle.std.specs.Prelude.{◌==◌}
use Rattle.std.specs.List.{find}
use Rattle.std.proofs.lemmas.Grind.{common_steps}
use Rattle.fl_model.specs.Record.{Record}
use Rattle.fl_model.specs.Row.{Row}
use Rattle.fl_model.specs.Operators.{key_join}
use Rattle.fl_page.specs.Steps.{Steps, Ascends}
use Rattle.fl_page.specs.declared.fault.ReadFault.{ReadFault}
use Rattle.fl_page.specs.declared.fault.ReadFault.TheVariants.{Flash, BadPage}
use Rattle.fl_ops.specs.Columns.{record_of, records_of}
use Rattle.fl_ops.specs.Inputs.{StepsOver}
use Rattle.fl_ops.specs.Pairs.{pairs_from, PairsGo}
use Rattle.fl_ops.proofs.AscendingKeys.{Climbs, Climbs-rows}

-- no later record has this key or one below
find-none : (key low : ℕ) (items : List Record) → Climbs key items → low ≤ key → find (λ item. item.key == low) items ≡ None
find-none key low [] climbs below = refl
find-none key low (item ∷ items) climbs below =
    let other : eqb item.key low ≡ false = let above : key < item.key = climbs.0 in grind (arith, common_steps) in
    rw other (find-none item.key low items climbs.1 (omega (arith, climbs.0, below)))

-- a right record below the left ones has no pair
join-past : (key : ℕ) (b : Record) (left right : List Record) → Climbs key left → b.key ≤ key → key_join left (b ∷ right) ≡ key_join left right
join-past key b [] right climbs below = refl
join-past key b (a ∷ left) right climbs below =
    let other : eqb b.key a.key ≡ false = let above : key < a.key = climbs.0 in grind (arith, common_steps) in
    rw (other, join-past a.key b left right climbs.1 (omega (arith, climbs.0, below))) refl

join-none : (left : List Record) → key_join left [] ≡ []
join-none [] = refl
join-none (a ∷ left) = join-none left

join-less : (a b : Record) (left right : List Record) → a.key < b.key → Climbs b.key right → key_join (a ∷ left) (b ∷ right) ≡ key_join left (b ∷ right)
join-less a b left right less climbs =
    let other : eqb b.key a.key ≡ false = grind (arith, common_steps) in
    let none : find (λ item. item.key == a.key) right ≡ None = find-none b.key a.key right climbs (omega arith) in
    rw (other, none) refl

join-greater : (a b : Record) (left right : List Record) → b.key < a.key → Climbs a.key left → key_join (a ∷ left) (b ∷ right) ≡ key_join (a ∷ left) right
join-greater a b left right less climbs =
    let other : eqb b.key a.key ≡ false = grind (arith, common_steps) in
    rw (other, join-past a.key b left right climbs (omega arith)) refl

join-equal : (a b : Record) (left right : List Record) → a.key ≡ b.key → Climbs a.key left → key_join (a ∷ left) (b ∷ right) ≡ (a, b) ∷ key_join left right
join-equal a b left right same climbs =
    let here : eqb b.key a.key ≡ true = grind (arith, common_steps) in
    rw (here, join-past a.key b left right climbs (omega arith)) refl

-- the first row of each
pub begin-pairs : (result : Result Bool ReadFault) (a b : Row) (start left before after : List Row) → start ≡ a ∷ left → Steps result before b after
    → PairsGo result (key_join (records_of start) (records_of before)) (pairs_from a left b after) (key_join (records_of left) (records_of after))
begin-pairs (Ok true) a b start left before after first is =
    ap (λ rows. key_join (records_of rows) (records_of before)) first ∙ ap (λ rows. key_join (record_of a ∷ records_of left) (records_of rows)) is
begin-pairs (Ok false) a b start left before after first is =
    (ap (λ rows. key_join (records_of start) (records_of rows)) is.0 ∙ join-none (records_of start), ap (λ rows. key_join (records_of left) (records_of rows)) is.1 ∙ join-none (records_of left))
begin-pairs (Err (Flash fault)) a b start left before after first is = tt
begin-pairs (Err (BadPage bad)) a b start left before after first is = is

-- the left row has the lesser key, and so no pair
pub pass-left : (result : Result Bool ReadFault) (a b next : Row) (before after right : List Row) → a.key < b.key → Ascends (Some b.key) right → Steps result before next after
    → PairsGo result (pairs_from a before b right) (pairs_from next after b right) (key_join (records_of after) (records_of right))
pass-left (Ok true) a b next before after right less ascends is =
    join-less (record_of a) (record_of b) (records_of before) (records_of right) less (Climbs-rows b.key right ascends)
    ∙ ap (λ rows. key_join (records_of rows) (record_of b ∷ records_of right)) is
pass-left (Ok false) a b next before after right less ascends is = (
  join-less (record_of a) (record_of b) (records_of before) (records_of right) less (Climbs-rows b.key right ascends)
      ∙ ap (λ rows. key_join (records_of rows) (record_of b ∷ records_of right)) is.0,
  ap (λ rows. key_join (records_of rows) (records_of right)) is.1,
)
pass-left (Err (Flash fault)) a b next before after right less ascends is = tt
pass-left (Err (BadPage bad)) a b next before after right less ascends is = is

-- the right row has the lesser key
pub pass-right : (result : Result Bool ReadFault) (a b next : Row) (left before after : List Row) → b.key < a.key → Ascends (Some a.key) left → Steps result before next after
    → PairsGo result (pairs_from a left b before) (pairs_from a left next after) (key_join (records_of left) (records_of after))
pass-right (Ok true) a b next left before after less ascends is =
    join-greater (record_of a) (record_of b) (records_of left) (records_of before) less (Climbs-rows a.key left ascends)
    ∙ ap (λ rows. key_join (record_of a ∷ records_of left) (records_of rows)) is
pass-right (Ok false) a b next left before after less ascends is = (
  join-greater (record_of a) (record_of b) (records_of left) (records_of before) less (Climbs-rows a.key left ascends)
      ∙ ap (λ rows. key_join (record_of a ∷ records_of left) (records_of rows)) is.0 ∙ join-none (record_of a ∷ records_of left),
  ap (λ rows. key_join (records_of left) (records_of rows)) is.1 ∙ join-none (records_of left),
)
pass-right (Err (Flash fault)) a b next left before after less ascends is = tt
pass-right (Err (BadPage bad)) a b next left before after less ascends is = is

-- both rows have one key
pub pair-equal : (a b : Row) (left right : List Row) → a.key ≡ b.key → Ascends (Some a.key) left
    → pairs_from a left b right ≡ (record_of a, record_of b) ∷ key_join (records_of left) (records_of right)
pair-equal a b left right same ascends =
    join-equal (record_of a) (record_of b) (records_of left) (records_of right) same (Climbs-rows a.key left ascends)

-- the rows failed
pub pairs-fault : {Item : Type 0} (fault : ReadFault) (before after left : List (Record × Record)) (start : List Item) (item : Item) (rest : List Item)
    → PairsGo (Err fault) before after left → StepsOver (Err fault) start item rest
pairs-fault (Flash fault) before after left start item rest is = tt
pairs-fault (BadPage bad) before after left start item rest is = is

-- the same, of a step of the join, whose rest has another name
pub steps-fault : {Item : Type 0} (fault : ReadFault) (before after start rest : List Item) (first item : Item)
    → StepsOver (Err fault) before first after → StepsOver (Err fault) start item rest
steps-fault (Flash fault) before after start rest first item is = tt
steps-fault (BadPage bad) before after start rest first item is = is

-- the pairs left, where the join has ended, and where it hasn't
pub ended-none : {Item : Type 0} (ended : Bool) (pairs : List Item) → ended ≡ true → (if ended then [] else pairs) ≡ []
ended-none ended pairs is = rw is refl

pub open-pairs : {Item : Type 0} (ended : Bool) (pairs : List Item) → ended ≡ false → (if ended then [] else pairs) ≡ pairs
open-pairs ended pairs is = rw is refl
