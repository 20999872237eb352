-- The operations of a ring of variable data are those of its table.
use Rattle.std.proofs.Common.{◌≡◌, ℕ, ◌+◌, ◌<◌, ◌≤◌, true, false, Option, Some, None, Err, List, [], ◌∷◌, ◌++◌, drop, refl, sym, ◌∙◌, ap, subst, arith}
use Rattle.std.specs.Prelude.{option_map, unwrap_or, take}
use Rattle.std.proofs.lemmas.List.{append-nil}
use Rattle.fl_flash.specs.Flash.{FlashState}
use Rattle.fl_flash.specs.declared.flash.FlashFault.{FlashFault}
use Rattle.fl_model.specs.Content.{content_page}
use Rattle.fl_model.specs.Facts.{IsContent}
use Rattle.fl_model.specs.Layout.{ContentPage, content_body}
use Rattle.fl_model.specs.Record.{Plan, content_per_page}
use Rattle.fl_model.specs.Ring as model
use Rattle.fl_model.specs.Table.{Table, VarRing, shape_of, full_pages, pages_given_up}
use Rattle.fl_model.specs.Work.{Kind, Body, Mark, VoidMark, Erase, effect, PartEnd}
use Rattle.fl_ring.specs.Counts.{model_shape}
use Rattle.fl_ring.specs.Operations.{change}
use Rattle.fl_ring.specs.Ring.{Shape, RingState, IsShape, count, oldest, sealed, voided}
use Rattle.fl_ring.proofs.Bodies.{HoldBodies, kept-known, kept-next, sealed-bodies, voided-bodies}
use Rattle.fl_ring.proofs.Counts.{counts_sealed, counts_voided}
use Rattle.fl_ring.proofs.InTable.{AreErases, BeginsMark, erases-front, begins-front, TableAnswers, answers-fault}
use Rattle.fl_var.specs.Placing.{FaultEnds}
use Rattle.fl_var.proofs.Bodies.{counted, once, IsBody, some-once}

-- the page that comes of bytes that wait
abbrev pub page_of : Plan → List ℕ → ContentPage
page_of plan buffered = content_page plan (take (content_per_page plan) buffered)

-- the body is that of the next page, which comes of the bytes that wait
pub record IsNext (plan : Plan) (body : List ℕ) (s : RingState) (buffered : List ℕ) : Type 0 where
  pub is : body ≡ content_body s.next (page_of plan buffered)
  pub good : IsContent plan (page_of plan buffered)
  pub small : s.next + 1 < 4294967296

abbrev pub HasCome : Plan → List ℕ → List Kind → RingState → List ℕ → Type 0
HasCome plan body [] s buffered = s.next < 4294967296
HasCome plan body (Body ∷ kinds) s buffered = IsNext plan body s buffered × BeginsMark kinds
HasCome plan body (Mark ∷ kinds) s buffered = IsNext plan body s buffered × AreErases kinds
HasCome plan body (VoidMark ∷ kinds) s buffered = (s.next + 1 < 4294967296) × AreErases kinds
HasCome plan body (Erase ∷ kinds) s buffered = (s.next < 4294967296) × AreErases kinds

-- the ring's state is that of the table, of which these operations are left
pub record IsRingOf (plan : Plan) (body : List ℕ) (kinds : List Kind) (s : RingState) (table : Table) : Type 0 where
  pub var_is : table.var ≡ Some (counted s)
  pub bodies : HoldBodies (IsBody plan) (oldest s) s.kept table.var_pages
  pub known : count s ≤ s.next
  pub come : HasCome plan body kinds s table.buffered

pub come-small : (plan : Plan) (body : List ℕ) (kinds : List Kind) (s : RingState) (buffered : List ℕ) → HasCome plan body kinds s buffered → s.next < 4294967296
come-small plan body [] s buffered h = h
come-small plan body (Body ∷ kinds) s buffered h = let k = h.0.small in omega (arith, k)
come-small plan body (Mark ∷ kinds) s buffered h = let k = h.0.small in omega (arith, k)
come-small plan body (VoidMark ∷ kinds) s buffered h = omega (arith, h.0)
come-small plan body (Erase ∷ kinds) s buffered h = h.0

erases-come : (plan : Plan) (body : List ℕ) (kinds : List Kind) (s : RingState) (buffered : List ℕ) → s.next < 4294967296 → AreErases kinds → HasCome plan body kinds s buffered
erases-come plan body [] s buffered small h = small
erases-come plan body (Erase ∷ kinds) s buffered small h = (small, h)
erases-come plan body (Body ∷ kinds) s buffered small h = absurd h
erases-come plan body (Mark ∷ kinds) s buffered small h = absurd h
erases-come plan body (VoidMark ∷ kinds) s buffered small h = absurd h

mark-comes : (plan : Plan) (body : List ℕ) (kinds : List Kind) (s t : RingState) (buffered : List ℕ) → s.next ≡ t.next → IsNext plan body s buffered → BeginsMark kinds → HasCome plan body kinds t buffered
mark-comes plan body [] s t buffered e m h = omega (arith, m.small, e)
mark-comes plan body (Mark ∷ kinds) s t buffered e m h = (record { is = m.is ∙ ap (λ n. content_body n (page_of plan buffered)) e; good = m.good; small = omega (arith, m.small, e) }, h)
mark-comes plan body (Body ∷ kinds) s t buffered e m h = absurd h
mark-comes plan body (VoidMark ∷ kinds) s t buffered e m h = absurd h
mark-comes plan body (Erase ∷ kinds) s t buffered e m h = absurd h

pub come-front : (plan : Plan) (body : List ℕ) (front others : List Kind) (s : RingState) (buffered : List ℕ) → HasCome plan body (front ++ others) s buffered → HasCome plan body front s buffered
come-front plan body [] others s buffered h = come-small plan body others s buffered h
come-front plan body (Body ∷ front) others s buffered h = (h.0, begins-front front others h.1)
come-front plan body (Mark ∷ front) others s buffered h = (h.0, erases-front front others h.1)
come-front plan body (VoidMark ∷ front) others s buffered h = (h.0, erases-front front others h.1)
come-front plan body (Erase ∷ front) others s buffered h = (h.0, erases-front front others h.1)

module _ (r : Shape) (plan : Plan) (body : List ℕ) (shape : IsShape r) (here : model_shape r ≡ shape_of plan VarRing) where
  -- the pages that the model gives up
  gone-is : (c : ℕ) (s : RingState) (table : Table) → table.var ≡ Some (counted s) → full_pages (model.given_up (model_shape r) c (counted s)) ≡ pages_given_up plan VarRing c table
  gone-is c s table e =
      ap (λ (m : model.Shape). full_pages (model.given_up m c (counted s))) here
      ∙ ap (λ (o : Option model.Ring). full_pages (unwrap_or (option_map (model.given_up (shape_of plan VarRing) c) o) [])) (sym e)

  -- each operation keeps it
  pub step-along : (kind : Kind) (kinds : List Kind) (s : RingState) (table : Table) → IsRingOf plan body (kind ∷ kinds) s table → IsRingOf plan body kinds (change r body kind s) (effect plan VarRing kind table)
  step-along Body kinds s table h = record {
    var_is = ap (option_map model.begun) h.var_is;
    bodies = h.bodies;
    known = h.known;
    come = mark-comes plan body kinds s (record s { torn = true }) table.buffered refl h.come.0 h.come.1;
  }
  step-along Mark kinds s table h =
      let m = h.come.0 in
      record {
        var_is = ap (option_map (model.sealed (shape_of plan VarRing) 1)) h.var_is
            ∙ ap (λ (ring : model.Ring). Some ring) (ap (λ (x : model.Shape). model.sealed x 1 (counted s)) (sym here) ∙ sym (counts_sealed once r s body));
        bodies = subst (λ g. HoldBodies (IsBody plan) (oldest (sealed r s body)) (sealed r s body).kept (drop g table.var_pages ++ page_of plan table.buffered ∷ [])) (gone-is 1 s table h.var_is)
            (sealed-bodies (IsBody plan) once (some-once plan) r s shape h.known table.var_pages body (page_of plan table.buffered) (m.is, m.good) h.bodies);
        known = kept-known r s (Some body) h.known;
        come = erases-come plan body kinds (change r body Mark s) _ (omega (arith, kept-next r s (Some body), m.small)) h.come.1;
      }
  step-along VoidMark kinds s table h = record {
    var_is = ap (option_map (model.sealed (shape_of plan VarRing) 0)) h.var_is
        ∙ ap (λ (ring : model.Ring). Some ring) (ap (λ (x : model.Shape). model.sealed x 0 (counted s)) (sym here) ∙ sym (counts_voided once r s));
    bodies = subst (λ (ps : List ContentPage). HoldBodies (IsBody plan) (oldest (voided r s)) (voided r s).kept ps)
        (append-nil (drop (full_pages (model.given_up (model_shape r) 0 (counted s))) table.var_pages) ∙ ap (λ g. drop g table.var_pages) (gone-is 0 s table h.var_is))
        (voided-bodies (IsBody plan) once (some-once plan) r s shape h.known table.var_pages h.bodies);
    known = kept-known r s None h.known;
    come = erases-come plan body kinds (change r body VoidMark s) _ (omega (arith, kept-next r s None, h.come.0)) h.come.1;
  }
  step-along Erase kinds s table h = record {
    var_is = ap (option_map model.erased) h.var_is;
    bodies = h.bodies;
    known = h.known;
    come = erases-come plan body kinds (record s { dirty = false }) _ h.come.0 h.come.1;
  }

-- the answer to a failed operation
pub fault-ends : (e : PartEnd Table) (fault : FlashFault) (new : FlashState) → TableAnswers e (Err fault) new → FaultEnds e fault new
fault-ends e fault new a = answers-fault (λ (x : PartEnd Table). FaultEnds x fault new) fault new (λ before h. h) (λ before h. h) e a
