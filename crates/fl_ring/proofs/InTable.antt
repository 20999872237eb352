-- The operations of a ring are those of its table.
use Rattle.std.proofs.Common.{◌≡◌, ℕ, Bool, true, false, cond, Option, Some, option_map, unwrap_or, Result, Ok, Err, List, [], ◌∷◌, ◌++◌, map, refl, sym, ◌∙◌, ap, subst, IsOk, IsErrOf}
use Rattle.fl_flash.specs.Flash.{FlashState}
use Rattle.fl_flash.specs.declared.flash.FlashFault.{FlashFault}
use Rattle.fl_flash.specs.declared.flash.FlashFault.TheVariants.{PowerLost, Media}
use Rattle.fl_model.specs.Record.{Plan}
use Rattle.fl_model.specs.Ring as model
use Rattle.fl_model.specs.Table.{Table, RingName, DataRing, IndexRing, VarRing, LogRing, ring_of, shape_of, seal_buffer, seal_page, is_dirty, is_torn}
use Rattle.fl_model.specs.Work.{Kind, Body, Mark, VoidMark, Erase, effect, Device, PartEnd, Whole, CutIn, FailedIn, PartProgress}
use Rattle.fl_model.specs.Within.{seal_within, repair_within, effect_within, TablePerforms}
use Rattle.fl_model.proofs.Performs.{performs-along, performs-map, EndsAlong, Somewhere}
use Rattle.fl_frame.specs.Device.{SameDevice}
use Rattle.fl_ring.specs.Counts.{ring_counts, model_shape}
use Rattle.fl_ring.specs.Operations.{change, seal_kinds, repair_kinds}
use Rattle.fl_ring.specs.Ring.{Shape, RingState, sealed, voided, unerased}
use Rattle.fl_ring.specs.Sealing.{Performed, AnswersEnd}
use Rattle.fl_ring.proofs.Counts.{counts_voided}

-- an operation of a ring
abbrev pub of_ring : RingName → Kind → RingName × Kind
of_ring ring kind = (ring, kind)

-- what is left of the operations of a seal, and of a repair
abbrev pub AreErases : List Kind → Type 0
AreErases [] = Unit {0}
AreErases (Erase ∷ kinds) = AreErases kinds
AreErases (Body ∷ kinds) = ⊥
AreErases (Mark ∷ kinds) = ⊥
AreErases (VoidMark ∷ kinds) = ⊥

abbrev pub BeginsMark : List Kind → Type 0
BeginsMark [] = Unit {0}
BeginsMark (Mark ∷ kinds) = AreErases kinds
BeginsMark (Body ∷ kinds) = ⊥
BeginsMark (VoidMark ∷ kinds) = ⊥
BeginsMark (Erase ∷ kinds) = ⊥

pub erases-where : (b : Bool) → AreErases (cond b (Erase ∷ []) [])
erases-where true = tt
erases-where false = tt

-- the first of these operations
pub erases-front : (front others : List Kind) → AreErases (front ++ others) → AreErases front
erases-front [] others h = tt
erases-front (Erase ∷ front) others h = erases-front front others h
erases-front (Body ∷ front) others h = h
erases-front (Mark ∷ front) others h = h
erases-front (VoidMark ∷ front) others h = h

pub begins-front : (front others : List Kind) → BeginsMark (front ++ others) → BeginsMark front
begins-front [] others h = tt
begins-front (Mark ∷ front) others h = erases-front front others h
begins-front (Body ∷ front) others h = h
begins-front (VoidMark ∷ front) others h = h
begins-front (Erase ∷ front) others h = h

-- what is left of the repairs alone, where only a torn page is given up
abbrev pub AreRepairs : Type 0 → List Kind → Type 0
AreRepairs Torn [] = Unit {0}
AreRepairs Torn (VoidMark ∷ kinds) = Torn × AreErases kinds
AreRepairs Torn (Erase ∷ kinds) = AreErases kinds
AreRepairs Torn (Body ∷ kinds) = ⊥
AreRepairs Torn (Mark ∷ kinds) = ⊥

pub erases-repair : (Torn : Type 0) (kinds : List Kind) → AreErases kinds → AreRepairs Torn kinds
erases-repair Torn [] h = tt
erases-repair Torn (Erase ∷ kinds) h = h
erases-repair Torn (Body ∷ kinds) h = h
erases-repair Torn (Mark ∷ kinds) h = h
erases-repair Torn (VoidMark ∷ kinds) h = absurd h

pub repairs-front : (Torn : Type 0) (front others : List Kind) → AreRepairs Torn (front ++ others) → AreRepairs Torn front
repairs-front Torn [] others h = tt
repairs-front Torn (VoidMark ∷ front) others h = (h.0, erases-front front others h.1)
repairs-front Torn (Erase ∷ front) others h = erases-front front others h
repairs-front Torn (Body ∷ front) others h = h
repairs-front Torn (Mark ∷ front) others h = h

pub repairs-come : (Torn : Type 0) (r : Shape) (s : RingState) → (s.torn ≡ true → Torn) → AreRepairs Torn (repair_kinds r s)
repairs-come Torn r s torn = by_tests s.torn torn (unerased r s).dirty
  where
    by_tests : (t : Bool) → (t ≡ true → Torn) → (d : Bool) → AreRepairs Torn ((cond t (VoidMark ∷ []) []) ++ (cond d (Erase ∷ []) []))
    by_tests true torn true = (torn refl, tt)
    by_tests true torn false = (torn refl, tt)
    by_tests false torn true = tt
    by_tests false torn false = tt

-- the operations of a seal, and of the repairs, in the words of the table
pub seal-operations : (ring : RingName) (plan : Plan) (table : Table) (r : Shape) (s : RingState) (body : List ℕ) → (sealed r s body).dirty ≡ is_dirty ring (seal_buffer plan ring table) →
    map (of_ring ring) (seal_kinds r s body) ≡ seal_within plan ring table
seal-operations ring plan table r s body same = by_dirt (sealed r s body).dirty ∙ ap (λ (d : Bool). (ring, Body) ∷ (ring, Mark) ∷ (cond d ((ring, Erase) ∷ []) [])) same
  where
    by_dirt : (d : Bool) → map (of_ring ring) (Body ∷ Mark ∷ (cond d (Erase ∷ []) [])) ≡ (ring, Body) ∷ (ring, Mark) ∷ (cond d ((ring, Erase) ∷ []) [])
    by_dirt true = refl
    by_dirt false = refl

pub repair-operations : (ring : RingName) (plan : Plan) (table : Table) (r : Shape) (s : RingState) → s.torn ≡ is_torn ring table →
    ((b : Bool) → s.torn ≡ b → (cond b (voided r s) s).dirty ≡ is_dirty ring (cond b (seal_page plan ring 0 table) table)) → map (of_ring ring) (repair_kinds r s) ≡ repair_within plan ring table
repair-operations ring plan table r s torn dirt =
    by_tests s.torn (unerased r s).dirty
    ∙ (ap (λ (d : Bool). (cond s.torn ((ring, VoidMark) ∷ []) []) ++ (cond d ((ring, Erase) ∷ []) [])) (dirt s.torn refl)
    ∙ ap (λ (b : Bool). (cond b ((ring, VoidMark) ∷ []) []) ++ (cond (is_dirty ring (cond b (seal_page plan ring 0 table) table)) ((ring, Erase) ∷ []) [])) torn)
  where
    by_tests : (t d : Bool) → map (of_ring ring) ((cond t (VoidMark ∷ []) []) ++ (cond d (Erase ∷ []) [])) ≡ (cond t ((ring, VoidMark) ∷ []) []) ++ (cond d ((ring, Erase) ∷ []) [])
    by_tests true true = refl
    by_tests true false = refl
    by_tests false true = refl
    by_tests false false = refl

-- .. where the state of the ring is that of the table's
pub counted-repairs : (ring : RingName) (plan : Plan) (table : Table) (count_of : List ℕ → ℕ) (r : Shape) (s : RingState) → model_shape r ≡ shape_of plan ring → ring_of ring table ≡ Some (ring_counts count_of s) →
    map (of_ring ring) (repair_kinds r s) ≡ repair_within plan ring table
counted-repairs ring plan table count_of r s here is =
    repair-operations ring plan table r s (ap (λ (o : Option model.Ring). unwrap_or (option_map (λ (x : model.Ring). x.torn) o) false) (sym is)) (λ b e. dirt b)
  where
    page_sealed : (ring : RingName) → ring_of ring (seal_page plan ring 0 table) ≡ option_map (model.sealed (shape_of plan ring) 0) (ring_of ring table)
    page_sealed DataRing = refl
    page_sealed IndexRing = refl
    page_sealed VarRing = refl
    page_sealed LogRing = refl

    dirt : (b : Bool) → (cond b (voided r s) s).dirty ≡ is_dirty ring (cond b (seal_page plan ring 0 table) table)
    dirt true =
        ap (λ (x : model.Ring). x.dirty) (counts_voided count_of r s ∙ ap (λ (m : model.Shape). model.sealed m 0 (ring_counts count_of s)) here)
        ∙ ap (λ (o : Option model.Ring). unwrap_or (option_map (λ (x : model.Ring). x.dirty) o) false) (ap (option_map (model.sealed (shape_of plan ring) 0)) (sym is) ∙ sym (page_sealed ring))
    dirt false = ap (λ (o : Option model.Ring). unwrap_or (option_map (λ (x : model.Ring). x.dirty) o) false) (sym is)

-- how the operations of a table ended, by the answer
abbrev pub TableAnswers : PartEnd Table → Result (Unit {0}) FlashFault → FlashState → Type 0
TableAnswers Whole result new = IsOk result × (new.is_on ≡ true)
TableAnswers (CutIn before) result new = IsErrOf result PowerLost × (new.is_on ≡ false)
TableAnswers (FailedIn before) result new = IsErrOf result Media × (new.is_on ≡ true)

pub all-whole : (e : PartEnd Table) (u : Unit {0}) (new : FlashState) → TableAnswers e (Ok u) new → (e ≡ Whole) × (new.is_on ≡ true)
all-whole Whole u new a = (refl, a.1)
all-whole (CutIn before) u new a = absurd (let e = a.0 in cc)
all-whole (FailedIn before) u new a = absurd (let e = a.0 in cc)

-- .. where one of them failed
pub answers-fault : (P : PartEnd Table → Type 0) (fault : FlashFault) (new : FlashState) → ((before : Table) → (fault ≡ PowerLost) × (new.is_on ≡ false) → P (CutIn before)) →
    ((before : Table) → (fault ≡ Media) × (new.is_on ≡ true) → P (FailedIn before)) → (e : PartEnd Table) → TableAnswers e (Err fault) new → P e
answers-fault P fault new cut failed Whole a = absurd (let e = a.0 in cc)
answers-fault P fault new cut failed (CutIn before) a = cut before (let e = a.0 in cc, a.1)
answers-fault P fault new cut failed (FailedIn before) a = failed before (let e = a.0 in cc, a.1)

-- operations of a table were done in order, until one failed, and the ring's state that this leaves stands to the table as `R` says
pub record TablePerformed (R : List Kind → RingState → Table → Type 0) (plan : Plan) (operations : List (RingName × Kind)) (table : Table) (rose : Bool) (device : Device) (result : Result (Unit {0}) FlashFault) (new : FlashState) (left : RingState) : Type 0 where
  pub now : PartProgress Table
  pub did : TablePerforms plan rose operations device table now
  pub answer : TableAnswers now.end result new
  pub counts : SameDevice new now.device
  pub kinds : List Kind
  pub is : R kinds left now.state

-- the same operations of the ring and of its table, where each keeps a relation between their states
module _ (R : List Kind → RingState → Table → Type 0) (r : Shape) (plan : Plan) (ring : RingName) (body : List ℕ)
    (step : (kind : Kind) (kinds : List Kind) (s : RingState) (table : Table) → R (kind ∷ kinds) s table → R kinds (change r body kind s) (effect plan ring kind table)) where
  pub performed-lifts : (rose : Bool) (kinds : List Kind) (device : Device) (s : RingState) (table : Table) (result : Result (Unit {0}) FlashFault) (new : FlashState) → R kinds s table →
      (h : Performed r (change r body) rose kinds device s result new) → TablePerformed R plan (map (of_ring ring) kinds) table rose device result new h.now.state
  performed-lifts rose kinds device s table result new is h =
      let along = performs-along R (λ kind. kind) (change r body) (effect plan ring) step rose kinds device s table h.now is h.did in
      let e = ends h.now.end along.other.end h.now.state along.other.state along.ends h.answer in
      record {
        now = along.other;
        did = performs-map (λ (o : RingName × Kind). o.1) (effect_within plan) (of_ring ring) rose kinds device table along.other along.performs;
        answer = e.1;
        counts = subst (λ (d : Device). SameDevice new d) (sym along.device_is) h.counts;
        kinds = e.0.0;
        is = e.0.1;
      }
    where
      ends : (a : PartEnd RingState) (b : PartEnd Table) (x : RingState) (t : Table) → EndsAlong R a b x t → AnswersEnd a result new → Somewhere R x t × TableAnswers b result new
      ends Whole Whole x t e a = (([], e), a)
      ends (CutIn s') (CutIn t') x t e a = (e.1, a)
      ends (FailedIn s') (FailedIn t') x t e a = (e.1, a)
      ends Whole (CutIn t') x t e a = absurd e
      ends Whole (FailedIn t') x t e a = absurd e
      ends (CutIn s') Whole x t e a = absurd e
      ends (CutIn s') (FailedIn t') x t e a = absurd e
      ends (FailedIn s') Whole x t e a = absurd e
      ends (FailedIn s') (CutIn t') x t e a = absurd e
