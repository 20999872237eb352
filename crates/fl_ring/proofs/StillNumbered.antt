-- Committed pages begin with their numbers after a seal or repairs, however these ended.
use Rattle.std.proofs.Common.{◌≡◌, ℕ, ◌+◌, ◌≤◌, Bool, true, false, if◌then◌else◌, List, [], ◌∷◌, ◌++◌, length, drop, None, sym, subst, arith, length-append, length-drop}
use Rattle.fl_model.specs.Within.{all_done}
use Rattle.fl_model.specs.Work.{Kind, Body, Mark, VoidMark, Erase, Device, PartProgress, PartPerforms}
use Rattle.fl_model.proofs.Fronts.{front-left}
use Rattle.fl_ring.specs.Newest.{number_of}
use Rattle.fl_ring.specs.Numbers.{IsNumbered}
use Rattle.fl_ring.specs.Operations.{change, seal_kinds, repair_kinds}
use Rattle.fl_ring.specs.Ring.{Shape, RingState, count, is_due, appended, sealed, voided, unerased, erased}
use Rattle.fl_ring.proofs.Numbered.{numbered_sealed, numbered_voided}

-- the operations of repairs
abbrev pub AreRepairs : List Kind → Type 0
AreRepairs [] = Unit {0}
AreRepairs (Body ∷ kinds) = ⊥
AreRepairs (Mark ∷ kinds) = ⊥
AreRepairs (VoidMark ∷ kinds) = AreRepairs kinds
AreRepairs (Erase ∷ kinds) = AreRepairs kinds

front_repairs : (front others : List Kind) → AreRepairs (front ++ others) → AreRepairs front
front_repairs [] others are = tt
front_repairs (Body ∷ front) others are = are
front_repairs (Mark ∷ front) others are = are
front_repairs (VoidMark ∷ front) others are = front_repairs front others are
front_repairs (Erase ∷ front) others are = front_repairs front others are

pub repairs_are : (r : Shape) (s : RingState) → AreRepairs (repair_kinds r s)
repairs_are r s = go s.torn (unerased r s).dirty
  where
    go : (a b : Bool) → AreRepairs ((if a then VoidMark ∷ [] else []) ++ (if b then Erase ∷ [] else []))
    go true true = tt
    go true false = tt
    go false true = tt
    go false false = tt

record Numbered (s : RingState) : Type 0 where
  few : count s ≤ s.next
  numbers : IsNumbered s

voided_few : (r : Shape) (s : RingState) → count s ≤ s.next → count (voided r s) ≤ (voided r s).next
voided_few r s few = go (is_due r (appended s None))
  where
    len : length (s.kept ++ None ∷ []) ≡ count s + 1
    len = length-append s.kept (None ∷ [])

    go : (b : Bool) → count (if b then record (appended s None) { kept = drop r.per_block (s.kept ++ None ∷ []); dirty = true } else appended s None)
        ≤ (if b then record (appended s None) { kept = drop r.per_block (s.kept ++ None ∷ []); dirty = true } else appended s None).next
    go true = omega (arith, len, length-drop r.per_block (s.kept ++ None ∷ []))
    go false = omega (arith, len)

all_numbered : (r : Shape) (body : List ℕ) (kinds : List Kind) (s : RingState) → AreRepairs kinds → Numbered s → Numbered (all_done (change r body) kinds s)
all_numbered r body [] s are numbered = numbered
all_numbered r body (Body ∷ kinds) s are numbered = absurd are
all_numbered r body (Mark ∷ kinds) s are numbered = absurd are
all_numbered r body (VoidMark ∷ kinds) s are numbered = all_numbered r body kinds (voided r s) are (record { few = voided_few r s numbered.few; numbers = numbered_voided r s numbered.few numbered.numbers })
all_numbered r body (Erase ∷ kinds) s are numbered = all_numbered r body kinds (erased s) are (record { few = numbered.few; numbers = numbered.numbers })

-- after repairs, or a front of them
pub repairs_numbered : (r : Shape) (body : List ℕ) (rose : Bool) (kinds : List Kind) (device : Device) (s : RingState) (now : PartProgress RingState) → AreRepairs kinds → count s ≤ s.next → IsNumbered s
    → PartPerforms (λ kind. kind) (change r body) rose kinds device s now → IsNumbered now.state
repairs_numbered r body rose kinds device s now are few numbered did =
    let done = front-left (λ kind. kind) (change r body) rose kinds device s now did in
    subst IsNumbered (sym done.state) (all_numbered r body done.front s (front_repairs done.front done.others (subst AreRepairs done.split are)) (record { few = few; numbers = numbered })).numbers

erases_numbered : (r : Shape) (body : List ℕ) (kinds others : List Kind) (b : Bool) (s : RingState) → (if b then Erase ∷ [] else []) ≡ kinds ++ others → IsNumbered s → IsNumbered (all_done (change r body) kinds s)
erases_numbered r body [] others b s split numbered = numbered
erases_numbered r body (Erase ∷ []) others b s split numbered = numbered
erases_numbered r body (kind ∷ kinds) others false s split numbered = absurd (cc split)
erases_numbered r body (Erase ∷ kind ∷ kinds) others true s split numbered = absurd (cc split)
erases_numbered r body (Body ∷ kinds) others true s split numbered = absurd (cc split)
erases_numbered r body (Mark ∷ kinds) others true s split numbered = absurd (cc split)
erases_numbered r body (VoidMark ∷ kinds) others true s split numbered = absurd (cc split)

seal_front : (r : Shape) (body : List ℕ) (front others : List Kind) (b : Bool) (s : RingState) → Body ∷ Mark ∷ (if b then Erase ∷ [] else []) ≡ front ++ others → count s ≤ s.next → IsNumbered s → number_of body ≡ s.next
    → IsNumbered (all_done (change r body) front s)
seal_front r body [] others b s split few numbered number = numbered
seal_front r body (Body ∷ []) others b s split few numbered number = numbered
seal_front r body (Body ∷ Mark ∷ front) others b s split few numbered number = erases_numbered r body front others b (sealed r s body) (cc) (numbered_sealed r s body few numbered number)
seal_front r body (Body ∷ Body ∷ front) others b s split few numbered number = absurd (cc split)
seal_front r body (Body ∷ VoidMark ∷ front) others b s split few numbered number = absurd (cc split)
seal_front r body (Body ∷ Erase ∷ front) others b s split few numbered number = absurd (cc split)
seal_front r body (Mark ∷ front) others b s split few numbered number = absurd (cc split)
seal_front r body (VoidMark ∷ front) others b s split few numbered number = absurd (cc split)
seal_front r body (Erase ∷ front) others b s split few numbered number = absurd (cc split)

-- after a seal, or a front of it
pub seal_numbered : (r : Shape) (body : List ℕ) (rose : Bool) (device : Device) (s : RingState) (now : PartProgress RingState) → count s ≤ s.next → IsNumbered s → number_of body ≡ s.next
    → PartPerforms (λ kind. kind) (change r body) rose (seal_kinds r s body) device s now → IsNumbered now.state
seal_numbered r body rose device s now few numbered number did =
    let done = front-left (λ kind. kind) (change r body) rose (seal_kinds r s body) device s now did in
    subst IsNumbered (sym done.state) (seal_front r body done.front done.others (sealed r s body).dirty s done.split few numbered number)
