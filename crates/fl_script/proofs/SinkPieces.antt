-- What stands in a sink while a text is written to it piece by piece.
use Rattle.std.proofs.Common.{◌≡◌, ℕ, Option, Some, None, Result, Ok, Err, IsErr, List, [], ◌++◌, take, drop, append_assoc, append-nil, rules, refl, sym, ◌∙◌, ap}
use Rattle.std.proofs.lemmas.List.{take-append-drop}
use Rattle.fl_base.specs.Causes.{Appends, AppendsFront}
use Rattle.fl_base.specs.Stream.{Writes}
use Rattle.fl_base.proofs.Appended.{appends-none, appends-append, front-longer, front-behind}
use Rattle.fl_script.specs.Written.{Written}

-- so far a front of the bytes was appended, and these are left
pub record Sent (before now : Option (List ℕ)) (bytes left : List ℕ) : Type 0 where
  pub front : List ℕ
  pub parts : front ++ left ≡ bytes
  pub appended : Appends before now front

pub sent-none : (told : Option (List ℕ)) (bytes : List ℕ) → Sent told told bytes bytes
sent-none told bytes = record { front = []; parts = refl; appended = appends-none told }

pub sent-all : (before now : Option (List ℕ)) (bytes : List ℕ) → Sent before now bytes [] → Appends before now bytes
sent-all before now bytes sent =
    let e : sent.front ≡ bytes = sym (append-nil sent.front) ∙ sent.parts in
    rw e at sent.appended

-- a piece of a text was written whole
pub sent-piece : (before mid now : Option (List ℕ)) (bytes left rest piece : List ℕ) → Sent before mid bytes left →
    Appends mid now piece → piece ++ rest ≡ left → Sent before now bytes rest
sent-piece before mid now bytes left rest piece sent wrote is = record {
  front = sent.front ++ piece;
  parts = append_assoc sent.front piece rest ∙ ap (λ l. sent.front ++ l) is ∙ sent.parts;
  appended = appends-append before mid now sent.front piece sent.appended wrote;
}

-- the sink took the first n of the bytes left
took : (E : Type 0) (mid now : Option (List ℕ)) (left : List ℕ) (n : ℕ) → Writes {E = E} mid now (Ok n) left → Appends mid now (take n left)
took E None now left n wrote = tt
took E (Some told) now left n wrote = wrote

pub sent-next : (E : Type 0) (before mid now : Option (List ℕ)) (bytes left rest : List ℕ) (n : ℕ) → Sent before mid bytes left →
    Writes {E = E} mid now (Ok n) left → rest ≡ drop n left → Sent before now bytes rest
sent-next E before mid now bytes left rest n sent wrote is =
    sent-piece before mid now bytes left rest (take n left) sent (took E mid now left n wrote)
    (ap (λ l. take n left ++ l) is ∙ take-append-drop n left)

-- a front of a piece alone was written
pub sent-failed : (before mid now : Option (List ℕ)) (bytes left rest piece : List ℕ) → Sent before mid bytes left →
    AppendsFront mid now piece → piece ++ rest ≡ left → AppendsFront before now bytes
sent-failed before mid now bytes left rest piece sent wrote is =
    front-longer before now (sent.front ++ piece) bytes (rest, append_assoc sent.front piece rest ∙ ap (λ l. sent.front ++ l) is ∙ sent.parts) (front-behind before mid now sent.front piece sent.appended wrote)

pub written-err : {E : Type 0} (before now : Option (List ℕ)) (result : Result (Unit {0}) E) (text : List ℕ) → IsErr result →
    AppendsFront before now text → Written before now result text
written-err before now (Err e) text is front = front
written-err before now (Ok done) text is front = absurd (search (rules, is))

pub written-ok : {E : Type 0} (before now : Option (List ℕ)) (text other : List ℕ) (result : Result (Unit {0}) E) → other ≡ text →
    Written before now result other → Written before now result text
written-ok before now text other result is wrote = rw is at wrote

-- a text behind one that was written
pub written-behind : {E : Type 0} (before mid now : Option (List ℕ)) (first second : List ℕ) (result : Result (Unit {0}) E) → Appends before mid first → Written mid now result second → Written before now result (first ++ second)
written-behind before mid now first second (Ok done) wrote then = appends-append before mid now first second wrote then
written-behind before mid now first second (Err failed) wrote then = front-behind before mid now first second wrote then
