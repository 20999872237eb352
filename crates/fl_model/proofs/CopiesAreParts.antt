-- A copy to which records are shipped keeps a part of all that the first table ever had.
use Rattle.std.proofs.Common.{◌≡◌, ℕ, zero, suc, ◌+◌, ◌<◌, Bool, true, false, not, nat_lt, Option, Some, None, List, [], ◌∷◌, ◌++◌, take, drop, filter, refl, sym, ◌∙◌, ap, subst, arith, inl, inr}
use Rattle.std.specs.List.{AllByRecursion, last_or}
use Rattle.std.specs.Option.{option_map, unwrap_or}
use Rattle.std.proofs.lemmas.List.{take-append-drop, append-nil, append_assoc}
use Rattle.std.proofs.lemmas.Bool.{ltb-true, lt-ltb}
use Rattle.fl_model.specs.Record.{Record}
use Rattle.fl_model.specs.Ship.{Ascends, IsPart, IsEnd, to_ship, HasLastOf, MayShip, KeepsOf, Shipment, nothing_yet, ShipmentStep, Shipments, IsWhole, CopiesAreParts, ShipsParts, ShipsAll}
use Rattle.fl_model.proofs.Lists.{last_or-push, each-back, each-front, last_or-append}

-- ---- parts

part-drop : (n : ℕ) (part whole : List Record) → IsPart part whole → IsPart (drop n part) whole
part-drop n part whole h = record {
  before = h.before ++ take n part;
  after = h.after;
  is =
      h.is
      ∙ (ap (λ xs. h.before ++ (xs ++ h.after)) (sym (take-append-drop n part))
      ∙ (ap (λ xs. h.before ++ xs) (append_assoc (take n part) (drop n part) h.after) ∙ sym (append_assoc h.before (take n part) (drop n part ++ h.after))));
}

part-take : (n : ℕ) (part whole : List Record) → IsPart part whole → IsPart (take n part) whole
part-take n part whole h = record {
  before = h.before;
  after = drop n part ++ h.after;
  is = h.is ∙ ap (λ xs. h.before ++ xs) (ap (λ xs. xs ++ h.after) (sym (take-append-drop n part)) ∙ append_assoc (take n part) (drop n part) h.after);
}

part-more : (part whole more : List Record) → IsPart part whole → IsPart part (whole ++ more)
part-more part whole more h = record {
  before = h.before;
  after = h.after ++ more;
  is = ap (λ xs. xs ++ more) h.is ∙ (append_assoc h.before (part ++ h.after) more ∙ ap (λ xs. h.before ++ xs) (append_assoc part h.after more));
}

end-drop : (n : ℕ) (part whole : List Record) → IsEnd part whole → IsEnd (drop n part) whole
end-drop n part whole h = record {
  before = h.before ++ take n part;
  is = h.is ∙ (ap (λ xs. h.before ++ xs) (sym (take-append-drop n part)) ∙ sym (append_assoc h.before (take n part) (drop n part)));
}

end-more : (part whole more : List Record) → IsEnd part whole → IsEnd (part ++ more) (whole ++ more)
end-more part whole more h = record { before = h.before; is = ap (λ xs. xs ++ more) h.is ∙ append_assoc h.before part more }

end-part : (part whole : List Record) → IsEnd part whole → IsPart part whole
end-part part whole h = record { before = h.before; after = []; is = h.is ∙ ap (λ xs. h.before ++ xs) (sym (append-nil part)) }

keeps-part : (held given left whole : List Record) → IsPart (held ++ given) whole → KeepsOf held given left → IsPart left whole
keeps-part held given left whole h k = subst (λ xs. IsPart xs whole) (sym k.kept) (part-drop k.given_up (take k.first (held ++ given)) whole (part-take k.first (held ++ given) whole h))

-- ---- records after others

ascends-back : (xs ys : List Record) → Ascends (xs ++ ys) → Ascends ys
ascends-back [] ys h = h
ascends-back (x ∷ xs) ys h = ascends-back xs ys h.1

pub ascends-front : (xs ys : List Record) → Ascends (xs ++ ys) → Ascends xs
ascends-front [] ys h = tt
ascends-front (x ∷ xs) ys h = (each-front (λ other. x.key < other.key) xs ys h.0, ascends-front xs ys h.1)

part-ascends : (part whole : List Record) → IsPart part whole → Ascends whole → Ascends part
part-ascends part whole h a = ascends-front part h.after (ascends-back h.before (part ++ h.after) (subst Ascends h.is a))

lt-false : (a b : ℕ) → b < a + 1 → nat_lt a b ≡ false
lt-false a b h = by_test (nat_lt a b) refl
  where
    by_test : (t : Bool) → nat_lt a b ≡ t → t ≡ false
    by_test true e = let less = ltb-true a b e in absurd (omega (arith, less, h))
    by_test false e = refl

filter-all : (key : ℕ) (xs : List Record) → AllByRecursion (λ other. key < other.key) xs → filter (λ (item : Record). nat_lt key item.key) xs ≡ xs
filter-all key [] h = refl
filter-all key (x ∷ xs) h = rw (lt-ltb key x.key h.0, filter-all key xs h.1) refl

-- in an ascending list just those behind it have greater keys
behind : (xs : List Record) (l : Record) (ys : List Record) → Ascends (xs ++ l ∷ ys) → filter (λ (item : Record). nat_lt l.key item.key) (xs ++ l ∷ ys) ≡ ys
behind [] l ys h = rw (lt-false l.key l.key (omega arith), filter-all l.key ys h.0) refl
behind (x ∷ xs) l ys h =
    let less : x.key < l.key = (each-back (λ other. x.key < other.key) xs (l ∷ ys) h.0).0 in
    rw (lt-false l.key x.key (omega (arith, less)), behind xs l ys h.1) refl

-- .. and from it on, greater ones and its own
from-here : (key : ℕ) (xs : List Record) (l : Record) (ys : List Record) → l.key ≡ key → Ascends (xs ++ l ∷ ys) → filter (λ (item : Record). not (nat_lt item.key key)) (xs ++ l ∷ ys) ≡ l ∷ ys
from-here key [] l ys e h = rw (lt-false l.key key (omega (arith, e)), all-from ys h.0) refl
  where
    all-from : (zs : List Record) → AllByRecursion (λ other. l.key < other.key) zs → filter (λ (item : Record). not (nat_lt item.key key)) zs ≡ zs
    all-from [] h = refl
    all-from (z ∷ zs) h = let more = h.0 in rw (lt-false z.key key (omega (arith, e, more)), all-from zs h.1) refl
from-here key (x ∷ xs) l ys e h =
    let less : x.key < l.key = (each-back (λ other. x.key < other.key) xs (l ∷ ys) h.0).0 in
    rw (lt-ltb x.key key (omega (arith, e, less)), from-here key xs l ys e h.1) refl

after-last : (front : List Record) (last : Record) (source : List Record) → to_ship source (front ++ last ∷ []) ≡ filter (λ (item : Record). nat_lt last.key item.key) source
after-last front last source =
    ap (λ (o : Option Record). filter (λ item. unwrap_or (option_map (λ (l : Record). nat_lt l.key item.key) o) true) source) (last_or-push None front last)

ships-back : (source copy : List Record) → Ascends source → (g : HasLastOf source copy) → to_ship source copy ≡ g.back
ships-back source copy a g =
    ap (to_ship source) g.copy_is
    ∙ (after-last g.front g.last source
    ∙ (ap (λ n. filter (λ (item : Record). nat_lt n item.key) source) (sym g.key)
    ∙ (ap (filter (λ (item : Record). nat_lt g.found.key item.key)) g.source_is ∙ behind g.others g.found g.back (subst Ascends g.source_is a))))

-- the copy's last record is the one with its key in the first table, and what comes after it in the list of all records begins
-- with what comes after it there
meets : (source copy ever : List Record) (s : IsPart source ever) (c : IsPart copy ever) → Ascends ever → (g : HasLastOf source copy) → (g.found ≡ g.last) × (c.after ≡ g.back ++ s.after)
meets source copy ever s c a g =
    let one : ever ≡ (c.before ++ g.front) ++ g.last ∷ c.after =
    c.is ∙ (ap (λ xs. c.before ++ (xs ++ c.after)) g.copy_is ∙ (ap (λ xs. c.before ++ xs) (append_assoc g.front (g.last ∷ []) c.after) ∙ sym (append_assoc c.before g.front (g.last ∷ c.after)))) in
    let other : ever ≡ (s.before ++ g.others) ++ g.found ∷ (g.back ++ s.after) =
    s.is ∙ (ap (λ xs. s.before ++ (xs ++ s.after)) g.source_is ∙ (ap (λ xs. s.before ++ xs) (append_assoc g.others (g.found ∷ g.back) s.after) ∙ sym (append_assoc s.before g.others (g.found ∷ (g.back ++ s.after))))) in
    let both : g.found ∷ (g.back ++ s.after) ≡ g.last ∷ c.after =
    sym (from-here g.last.key (s.before ++ g.others) g.found (g.back ++ s.after) g.key (subst Ascends other a))
    ∙ (ap (filter (λ (item : Record). not (nat_lt item.key g.last.key))) (sym other ∙ one)
    ∙ from-here g.last.key (c.before ++ g.front) g.last c.after refl (subst Ascends one a)) in
    (heads both, sym (tails both))
  where
    heads : {x y : Record} {xs ys : List Record} → x ∷ xs ≡ y ∷ ys → x ≡ y
    heads e = cc

    tails : {x y : Record} {xs ys : List Record} → x ∷ xs ≡ y ∷ ys → xs ≡ ys
    tails e = cc

goes-on-part : (source copy ever : List Record) (count : ℕ) → IsPart source ever → IsPart copy ever → Ascends ever → HasLastOf source copy → IsPart (copy ++ take count (to_ship source copy)) ever
goes-on-part source copy ever count s c a g =
    let back_is = ships-back source copy (part-ascends source ever s a) g in
    let after_is : c.after ≡ g.back ++ s.after = (meets source copy ever s c a g).1 in
    record {
      before = c.before;
      after = drop count g.back ++ s.after;
      is =
          c.is
          ∙ ap (λ xs. c.before ++ xs)
          (ap (λ xs. copy ++ xs) (after_is ∙ (ap (λ xs. xs ++ s.after) (sym (take-append-drop count g.back)) ∙ append_assoc (take count g.back) (drop count g.back) s.after))
          ∙ (sym (append_assoc copy (take count g.back) (drop count g.back ++ s.after)) ∙ ap (λ xs. (copy ++ take count xs) ++ (drop count g.back ++ s.after)) (sym back_is)));
    }

filter-true : (xs : List Record) → filter (λ (item : Record). true) xs ≡ xs
filter-true [] = refl
filter-true (x ∷ xs) = ap (λ ys. x ∷ ys) (filter-true xs)

ship-part : (source copy ever : List Record) (count : ℕ) → IsPart source ever → IsPart copy ever → Ascends ever → MayShip source copy → IsPart (copy ++ take count (to_ship source copy)) ever
ship-part source copy ever count s c a (inl none) =
    let nothing : take count (to_ship source copy) ≡ [] = ap (λ xs. take count (to_ship xs copy)) none ∙ take-nil count in
    subst (λ xs. IsPart xs ever) (sym (ap (λ xs. copy ++ xs) nothing ∙ append-nil copy)) c
  where
    take-nil : (n : ℕ) → take n (to_ship [] copy) ≡ []
    take-nil zero = refl
    take-nil (suc n) = refl
ship-part source copy ever count s c a (inr (inl none)) =
    let all : to_ship source copy ≡ source = ap (to_ship source) none ∙ filter-true source in
    let given : copy ++ take count (to_ship source copy) ≡ take count source = ap (λ xs. xs ++ take count (to_ship source copy)) none ∙ ap (take count) all in
    subst (λ xs. IsPart xs ever) (sym given) (part-take count source ever s)
ship-part source copy ever count s c a (inr (inr g)) = goes-on-part source copy ever count s c a g

pub ships-parts : ShipsParts
ships-parts source copy left ever count s c a may kept = keeps-part copy (take count (to_ship source copy)) left ever (ship-part source copy ever count s c a may) kept

-- ---- every list of them

record IsKept (shipment : Shipment) : Type 0 where
  source : IsEnd shipment.source shipment.ever
  copy : IsPart shipment.copy shipment.ever

step-kept : (before after : Shipment) → IsKept before → Ascends after.ever → ShipmentStep before after → IsKept after
step-kept before after h a (inl runs) = record {
  source = subst (λ xs. IsEnd after.source xs) (sym runs.ever) (subst (λ xs. IsEnd xs (before.ever ++ runs.more)) (sym runs.source) (end-drop runs.given_up (before.source ++ runs.more) (before.ever ++ runs.more) (end-more before.source before.ever runs.more h.source)));
  copy = subst (λ xs. IsPart after.copy xs) (sym runs.ever) (subst (λ xs. IsPart xs (before.ever ++ runs.more)) (sym runs.copy) (part-more before.copy before.ever runs.more h.copy));
}
step-kept before after h a (inr (inl ships)) =
    let source : IsEnd after.source after.ever = subst (λ xs. IsEnd after.source xs) (sym ships.ever) (subst (λ xs. IsEnd xs before.ever) (sym ships.source) (end-drop ships.mounted before.source before.ever h.source)) in
    let copy : IsPart before.copy after.ever = subst (λ xs. IsPart before.copy xs) (sym ships.ever) h.copy in
    record {
      source = source;
      copy = ships-parts after.source before.copy after.copy after.ever ships.count (end-part after.source after.ever source) copy a ships.allowed ships.copy;
    }
step-kept before after h a (inr (inr rests)) = record {
  source = subst (λ xs. IsEnd after.source xs) (sym rests.ever) (subst (λ xs. IsEnd xs before.ever) (sym rests.source) (end-drop rests.mounted before.source before.ever h.source));
  copy = keeps-part before.copy [] after.copy after.ever (subst (λ xs. IsPart xs after.ever) (sym (append-nil before.copy)) (subst (λ xs. IsPart before.copy xs) (sym rests.ever) h.copy)) rests.copy;
}

all-kept : (before : Shipment) (others : List Shipment) → IsKept before → Shipments before others → AllByRecursion (λ shipment. Ascends shipment.ever) others → AllByRecursion IsWhole others
all-kept before [] h steps a = tt
all-kept before (after ∷ others) h steps a = let k = step-kept before after h a.0 steps.0 in (k.copy, all-kept after others k steps.1 a.1)

pub parts : CopiesAreParts
parts shipments steps a = all-kept nothing_yet shipments (record { source = record { before = []; is = refl }; copy = record { before = []; after = []; is = refl } }) steps a

pub ships-all : ShipsAll
ships-all source copy ever s c a (inl none) = ap (λ xs. last_or None (xs ++ to_ship source xs)) none ∙ ap (last_or None) (filter-true source)
ships-all source copy ever s c a (inr g) =
    ap (λ xs. last_or None (copy ++ xs)) (ships-back source copy (part-ascends source ever s a) g)
    ∙ (ap (λ xs. last_or None (xs ++ g.back)) g.copy_is
    ∙ (ap (last_or None) (append_assoc g.front (g.last ∷ []) g.back)
    ∙ (last_or-append None g.front (g.last ∷ g.back)
    ∙ (ap (λ (x : Record). last_or (Some x) g.back) (sym (meets source copy ever s c a g).0)
    ∙ (sym (last_or-append None g.others (g.found ∷ g.back)) ∙ ap (last_or None) (sym g.source_is))))))
