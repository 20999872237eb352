-- Seals of the buffer, one after another.
use Rattle.std.proofs.Common.{◌≡◌, ℕ, zero, suc, ◌+◌, ◌*◌, Bool, Option, unwrap_or, List, [], ◌∷◌, ◌++◌, drop, replicate, refl, sym, ◌∙◌, ap, subst, arith}
use Rattle.std.specs.Prelude.{option_map, is_some}
use Rattle.std.proofs.lemmas.List.{drop-drop}
use Rattle.std.proofs.lemmas.Option.{same_Some}
use Rattle.fl_flash.specs.Flash.{FlashState, page_at}
use Rattle.fl_flash.specs.declared.flash.FlashFault.{FlashFault}
use Rattle.fl_model.specs.Record.{Record, Plan, content_per_page}
use Rattle.fl_model.specs.Layout.{ContentPage}
use Rattle.fl_model.specs.Ring.{Ring}
use Rattle.fl_model.specs.Table.{Table, RingName, VarRing, after_seal, after_seals, with_record}
use Rattle.fl_model.specs.Work.{Kind, Device, PartEnd, Whole, CutIn, FailedIn, PartProgress}
use Rattle.fl_model.specs.Within.{seals_within, effect_within, TablePerforms}
use Rattle.fl_model.proofs.Among.{seals-all_done, after_seals-append, within-append}
use Rattle.fl_model.proofs.Performs.{performs-whole, performs-more, performs-front}
use Rattle.fl_ring.specs.Kept.{PagesStand}
use Rattle.fl_ring.specs.Place as place_words
use Rattle.fl_ring.specs.Ring as rings
use Rattle.fl_ring.specs.Ring.{Shape}
use Rattle.fl_frame.specs.Watched.{IsWatched}
use Rattle.fl_ring.specs.declared.ring.Ring as memory
use Rattle.fl_var.specs.Memory.{page_in, var_shape, IsSamePlan}
use Rattle.fl_ring.specs.Mounting.{shape_at}
use Rattle.fl_base.specs.declared.types.Geometry.{Geometry}
use Rattle.fl_base.specs.declared.types.RingPlace.{RingPlace}
use Rattle.fl_model.proofs.Lists.{drop_none}
use Rattle.fl_var.specs.Placing.{Seals, Breaks, FaultEnds}
use Rattle.fl_var.specs.Standing.{IsVarRing, HasRing}
use Rattle.fl_var.specs.declared.var_data.VarData.{VarData}

pub stands-same : (ring : Ring) (at : ℕ → List ℕ) → PagesStand ring at ring at
stands-same ring at = record { later = omega arith; further = omega arith; bytes = λ n low high. refl }

pub stands-then : (a b c : Ring) (x y z : ℕ → List ℕ) → PagesStand a x b y → PagesStand b y c z → PagesStand a x c z
stands-then a b c x y z first second = record {
  later = omega (arith, first.later, second.later);
  further = omega (arith, first.further, second.further);
  bytes = λ n low high. second.bytes n low (omega (arith, high, first.further)) ∙ first.bytes n (omega (arith, low, second.later)) high;
}

-- where the ring lies doesn't change
pub same-shape : (a b : VarData) → IsSamePlan a b → var_shape b ≡ var_shape a
same-shape a b same = ap (λ (p : RingPlace). shape_at p b.geometry) same.place ∙ ap (λ (g : Geometry). shape_at a.place g) same.geometry

pub same-pages_in : (a b : VarData) (f : FlashState) → IsSamePlan a b → page_in b f ≡ page_in a f
same-pages_in a b f same = ap {B = ℕ → List ℕ} (λ (r : Shape). λ (n : ℕ). page_at f (rings.place r n)) (same-shape a b same)

-- another buffer
abbrev pub has-refilled : (v w : VarData) (f : FlashState) (plan : Plan) (table : Table) → w.ring ≡ v.ring → IsSamePlan v w → HasRing v f plan table → HasRing w f plan table
has-refilled v w f plan table ring same has = record {
  planned = record { geometry = has.planned.geometry ∙ sym same.geometry; blocks = has.planned.blocks ∙ ap (λ (p : RingPlace). p.blocks) (sym same.place) };
  mounted = ap is_some ring ∙ has.mounted;
  ring = has.ring;
  ring_is = has.ring_is;
  pages = subst (λ (at : ℕ → List ℕ). IsVarRing plan table.var_pages has.ring at) (sym (same-pages_in v w f same)) has.pages;
  whole = has.whole;
  clean = has.clean;
  next = ap (λ (o : Option memory.Ring). unwrap_or (option_map (λ r. place_words.next_of r) o) 0) ring ∙ has.next;
  oldest_is = ap (λ (o : Option memory.Ring). unwrap_or (option_map (λ r. place_words.oldest_of r) o) 0) ring ∙ has.oldest_is;
}

pub seals-refilled : (plan : Plan) (xs : List RingName) (table : Table) (rose : Bool) (device : Device) (old v w : VarData) (old_f f : FlashState) → w.ring ≡ v.ring → IsSamePlan v w → Seals plan xs table rose device old old_f v f → Seals plan xs table rose device old old_f w f
seals-refilled plan xs table rose device old v w old_f f ring same s = record {
  now = s.now;
  did = s.did;
  whole = s.whole;
  counts = s.counts;
  power = s.power;
  has = has-refilled v w f plan (after_seals plan xs table) ring same s.has;
  stand = λ before e. subst (λ (at : ℕ → List ℕ). PagesStand before (page_in old old_f) s.has.ring at) (sym (same-pages_in v w f same)) (s.stand before e);
}

-- another table with the same ring and pages
abbrev pub has-joined : (v : VarData) (f : FlashState) (plan : Plan) (item : Record) (table : Table) → HasRing v f plan table → HasRing v f plan (with_record plan item table)
has-joined v f plan item table has = record {
  planned = has.planned;
  mounted = has.mounted;
  ring = has.ring;
  ring_is = has.ring_is;
  pages = has.pages;
  whole = has.whole;
  clean = has.clean;
  next = has.next;
  oldest_is = has.oldest_is;
}

-- nothing was sealed
pub seals-none : (plan : Plan) (table : Table) (rose : Bool) (device : Device) (v w : VarData) (f : FlashState) → w.ring ≡ v.ring → IsSamePlan v w → HasRing v f plan table → IsWatched f f rose device → Seals plan [] table rose device v f w f
seals-none plan table rose device v w f ring same has watched = record {
  now = record { end = Whole; device = device; state = table };
  did = (refl, refl, refl);
  whole = refl;
  counts = watched.counts;
  power = watched.on;
  has = has-refilled v w f plan table ring same has;
  stand = λ before e.
      let is : before ≡ has.ring = same_Some before has.ring (sym e ∙ has.ring_is) in
      subst (λ (x : Ring). PagesStand x (page_in v f) has.ring (page_in w f)) (sym is)
      (subst (λ (at : ℕ → List ℕ). PagesStand has.ring (page_in v f) has.ring at) (sym (same-pages_in v w f same)) (stands-same has.ring (page_in v f)));
}

module _ (plan : Plan) (xs ys : List RingName) (table : Table) (rose : Bool) (device : Device) (old v : VarData) (old_f f : FlashState) (a : Seals plan xs table rose device old old_f v f) where
  state-is : a.now.state ≡ after_seals plan xs table
  state-is = (performs-whole (λ operation. operation.1) (effect_within plan) rose (seals_within plan xs table) device table a.now a.did a.whole).0 ∙ seals-all_done plan xs table

  more : (now : PartProgress Table) → TablePerforms plan rose (seals_within plan ys (after_seals plan xs table)) a.now.device (after_seals plan xs table) now → TablePerforms plan rose (seals_within plan (xs ++ ys) table) device table now
  more now did =
      subst (λ (ops : List (RingName × Kind)). TablePerforms plan rose ops device table now) (sym (within-append plan xs ys table))
      (performs-more (λ operation. operation.1) (effect_within plan) rose (seals_within plan xs table) (seals_within plan ys (after_seals plan xs table)) device table a.now now a.did a.whole
      (subst (λ (t : Table). TablePerforms plan rose (seals_within plan ys (after_seals plan xs table)) a.now.device t now) (sym state-is) did))

  pub seals-join : (w : VarData) (g : FlashState) → Seals plan ys (after_seals plan xs table) rose a.now.device v f w g → Seals plan (xs ++ ys) table rose device old old_f w g
  seals-join w g b = record {
    now = b.now;
    did = more b.now b.did;
    whole = b.whole;
    counts = b.counts;
    power = b.power;
    has = record {
      planned = b.has.planned;
      mounted = b.has.mounted;
      ring = b.has.ring;
      ring_is = ap (λ (t : Table). t.var) (after_seals-append plan xs ys table) ∙ b.has.ring_is;
      pages = subst (λ (ps : List ContentPage). IsVarRing plan ps b.has.ring (page_in w g)) (sym (ap (λ (t : Table). t.var_pages) (after_seals-append plan xs ys table))) b.has.pages;
      whole = b.has.whole;
      clean = b.has.clean;
      next = b.has.next;
      oldest_is = b.has.oldest_is;
    };
    stand = λ before e. stands-then before a.has.ring b.has.ring (page_in old old_f) (page_in v f) (page_in w g) (a.stand before e) (b.stand a.has.ring a.has.ring_is);
  }

  pub breaks-join : (fault : FlashFault) (g : FlashState) → IsSamePlan old v → Breaks plan ys (after_seals plan xs table) rose a.now.device fault v g → Breaks plan (xs ++ ys) table rose device fault old g
  breaks-join fault g same b =
      let at = same-pages_in old v g same in
      record {
        now = b.now;
        did = more b.now b.did;
        answer = b.answer;
        counts = b.counts;
        ring = b.ring;
        ring_is = b.ring_is;
        pages = subst (λ (pg : ℕ → List ℕ). IsVarRing plan b.now.state.var_pages b.ring pg) at b.pages;
      }

-- seals after one that failed don't come to their turn
pub breaks-front : (plan : Plan) (xs zs : List RingName) (table : Table) (rose : Bool) (device : Device) (fault : FlashFault) (old : VarData) (g : FlashState) → Breaks plan xs table rose device fault old g → Breaks plan (xs ++ zs) table rose device fault old g
breaks-front plan xs zs table rose device fault old g b = record {
  now = b.now;
  did = subst (λ (ops : List (RingName × Kind)). TablePerforms plan rose ops device table b.now) (sym (within-append plan xs zs table))
      (performs-front (λ operation. operation.1) (effect_within plan) rose (seals_within plan xs table) (seals_within plan zs (after_seals plan xs table)) device table b.now b.did (broken b.now.end b.answer));
  answer = b.answer;
  counts = b.counts;
  ring = b.ring;
  ring_is = b.ring_is;
  pages = b.pages;
}
  where
    broken : (e : PartEnd Table) → FaultEnds e fault g → e ≡ Whole → ⊥
    broken Whole answer is = answer
    broken (CutIn before) answer is = cc
    broken (FailedIn before) answer is = cc

-- pages sealed one after another
pub replicate-push : (n : ℕ) → replicate n VarRing ++ VarRing ∷ [] ≡ replicate (n + 1) VarRing
replicate-push zero = refl
replicate-push (suc n) = ap (λ (l : List RingName). VarRing ∷ l) (replicate-push n) ∙ ap (λ k. replicate k VarRing) (let e : suc (n + 1) ≡ suc n + 1 = omega arith in e)

pub replicate-split : (n m : ℕ) → replicate n VarRing ++ replicate m VarRing ≡ replicate (n + m) VarRing
replicate-split zero m = ap (λ k. replicate k VarRing) (omega arith)
replicate-split (suc n) m = ap (λ (l : List RingName). VarRing ∷ l) (replicate-split n m) ∙ ap (λ k. replicate k VarRing) (let e : suc (n + m) ≡ suc n + m = omega arith in e)

-- the bytes that wait after so many pages were sealed (belongs in fl_model)
pub buffered-after : (plan : Plan) (n : ℕ) (table : Table) → (after_seals plan (replicate n VarRing) table).buffered ≡ drop (n * content_per_page plan) table.buffered
buffered-after plan zero table =
    let none : 0 ≡ 0 * content_per_page plan = omega arith in
    sym (drop_none table.buffered) ∙ ap (λ k. drop k table.buffered) none
buffered-after plan (suc n) table =
    let more : content_per_page plan + n * content_per_page plan ≡ suc n * content_per_page plan = omega arith in
    buffered-after plan n (after_seal plan VarRing table)
    ∙ (drop-drop (n * content_per_page plan) (content_per_page plan) table.buffered ∙ ap (λ k. drop k table.buffered) more)
