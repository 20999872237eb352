-- Lists of records whose keys ascend, and lists of which the oldest records went.
use Rattle.std.proofs.Common.{◌≡◌, ℕ, zero, suc, ◌+◌, ◌<◌, ◌≤◌, None, Some, List, [], ◌∷◌, ◌++◌, length, drop, refl, sym, ◌∙◌, ap, arith, ◌⊎◌, inl, inr, length-append}
use Rattle.std.specs.List.{AllByRecursion, last_or}
use Rattle.std.proofs.lemmas.Bool.{cases_lt}
use Rattle.std.proofs.lemmas.List.{drop_all, drop-append-le, drop-drop}
use Rattle.std.proofs.Math.Seq.{drop-length}
use Rattle.fl_model.specs.Record.{Record}
use Rattle.fl_model.specs.Ship.{Ascends}
use Rattle.fl_model.proofs.Lists.{each-back, each-front, each-push, each-append, each-drop}
use Rattle.fl_model.proofs.CopiesAreParts.{ascends-front}

-- ---- lists of which the oldest records went

pub record DropsFrom (whole part : List Record) : Type 0 where
  pub given_up : ℕ
  pub few : given_up ≤ length whole
  pub is : part ≡ drop given_up whole

pub drops-from : (whole part : List Record) (given_up : ℕ) → part ≡ drop given_up whole → DropsFrom whole part
drops-from whole part given_up e = by_order (cases_lt (length whole) given_up)
  where
    by_order : (length whole < given_up) ⊎ (given_up ≤ length whole) → DropsFrom whole part
    by_order (inl lt) = record { given_up = length whole; few = omega arith; is = e ∙ (drop_all given_up whole (omega (arith, lt)) ∙ sym (drop-length whole)) }
    by_order (inr le) = record { given_up = given_up; few = le; is = e }

pub from-drop : (whole part left : List Record) (gone : ℕ) → DropsFrom whole part → left ≡ drop gone part → DropsFrom whole left
from-drop whole part left gone h e = drops-from whole left (h.given_up + gone) (e ∙ (ap (drop gone) h.is ∙ drop-drop gone h.given_up whole))

pub from-more : (whole part more : List Record) → DropsFrom whole part → DropsFrom (whole ++ more) (part ++ more)
from-more whole part more h = record {
  given_up = h.given_up;
  few = (let l = length-append whole more in let f = h.few in omega (arith, f, l));
  is = ap (λ (rs : List Record). rs ++ more) h.is ∙ sym (drop-append-le h.given_up whole more h.few);
}

-- ---- keys that ascend

-- one more with a key above the last
pub ascends-push : (xs : List Record) (item : Record) → Ascends xs → ((last : Record) → last_or None xs ≡ Some last → last.key < item.key) → Ascends (xs ++ item ∷ [])
ascends-push [] item h above = (tt, tt)
ascends-push (x ∷ []) item h above = ((above x refl, tt), (tt, tt))
ascends-push (x ∷ y ∷ ys) item h above =
    let rest = ascends-push (y ∷ ys) item h.1 above in
    let next : x.key < y.key = h.0.0 in
    let last : y.key < item.key = (each-back (λ (other : Record). y.key < other.key) ys (item ∷ []) rest.0).0 in
    ((next, each-push (λ (other : Record). x.key < other.key) ys item h.0.1 (omega (arith, next, last))), rest)

-- some go in between
all-less : (P : Record → Type 0) (xs ys : List Record) (n : ℕ) → AllByRecursion P (xs ++ ys) → AllByRecursion P (xs ++ drop n ys)
all-less P xs ys n h = each-append P xs (drop n ys) (each-front P xs ys h) (each-drop P n ys (each-back P xs ys h))

pub ascends-less : (xs ys : List Record) (n : ℕ) → Ascends (xs ++ ys) → Ascends (xs ++ drop n ys)
ascends-less [] [] zero h = tt
ascends-less [] [] (suc n) h = tt
ascends-less [] (y ∷ ys) zero h = h
ascends-less [] (y ∷ ys) (suc n) h = ascends-less [] ys n h.1
ascends-less (x ∷ xs) ys n h = (all-less (λ (other : Record). x.key < other.key) xs ys n h.0, ascends-less xs ys n h.1)

-- they ascend, but where something bad happened
abbrev pub InOrder : Type 0 → List Record → Type 0
InOrder Bad rs = Ascends rs ⊎ Bad

pub order-less : (Bad : Type 0) (xs ys : List Record) (n : ℕ) → InOrder Bad (xs ++ ys) → InOrder Bad (xs ++ drop n ys)
order-less Bad xs ys n (inl h) = inl (ascends-less xs ys n h)
order-less Bad xs ys n (inr bad) = inr bad

pub order-front : (Bad : Type 0) (xs ys : List Record) → InOrder Bad (xs ++ ys) → InOrder Bad xs
order-front Bad xs ys (inl h) = inl (ascends-front xs ys h)
order-front Bad xs ys (inr bad) = inr bad

pub order-push : (Bad : Type 0) (xs : List Record) (item : Record) → InOrder Bad xs → ((last : Record) → last_or None xs ≡ Some last → last.key < item.key) → InOrder Bad (xs ++ item ∷ [])
order-push Bad xs item (inl h) above = inl (ascends-push xs item h above)
order-push Bad xs item (inr bad) above = inr bad
