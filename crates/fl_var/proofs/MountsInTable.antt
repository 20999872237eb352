-- The mount of the ring, in the words of its table.
use Rattle.std.proofs.Common.{◌≡◌, inl, inr, ℕ, ◌+◌, ◌-◌, ◌*◌, ◌<◌, ◌≤◌, Bool, true, false, cond, Option, Some, Result, Ok, Err, List, [], ◌∷◌, ◌++◌, map, length, refl, sym, ◌∙◌, ap, subst, arith, IsTrue, length-append}
use Rattle.std.specs.Prelude.{option_map, is_some}
use Rattle.std.proofs.lemmas.List.{map-append}
use Rattle.fl_base.specs.declared.types.Geometry.{Geometry}
use Rattle.fl_flash.specs.Flash.{FlashState, page_at}
use Rattle.fl_flash.specs.declared.flash.FlashFault.{FlashFault}
use Rattle.fl_flash.specs.declared.flash.FlashFault.TheVariants.{Media}
use Rattle.fl_model.specs.Layout.{le, ContentPage, content_body}
use Rattle.fl_model.specs.Mount as numbering
use Rattle.fl_model.specs.Mount.{renumber, blob_end, least_alike}
use Rattle.fl_model.specs.MountLimit.{ring_mount_limit, part_mount_limit}
use Rattle.fl_model.specs.Record.{Plan}
use Rattle.fl_model.specs.Ring as model
use Rattle.fl_model.specs.Table.{Table, RingName, VarRing, shape_of, seal_page, is_dirty, is_torn}
use Rattle.fl_model.specs.Work.{Kind, VoidMark, Erase, Device}
use Rattle.fl_model.specs.Within.{repair_within, TablePerforms, effect_within, all_done}
use Rattle.fl_model.proofs.Performs.{performs-whole}
use Rattle.fl_ring.specs.Head.{one}
use Rattle.fl_ring.specs.Mounting.{shape_at, IsGood, Mounted, RepairEnds}
use Rattle.fl_ring.specs.Mounting as ring_mounting
use Rattle.fl_ring.specs.Newest.{number_of}
use Rattle.fl_ring.specs.Numbers.{renumbered, voids_at_end}
use Rattle.fl_ring.specs.Operations.{repair_kinds}
use Rattle.fl_ring.specs.Ring.{Shape, RingState, OnRing, place, voided}
use Rattle.fl_ring.specs.declared.fault.RingFault.{RingFault}
use Rattle.fl_ring.specs.declared.fault.RingFault.TheVariants as ring_fault
use Rattle.fl_ring.specs.declared.ring.Ring as memory
use Rattle.fl_ring.proofs.Bodies.{bodies-numbered, renumbered-bodies}
use Rattle.fl_ring.proofs.Counts.{counts_length, counts_renumbered}
use Rattle.fl_ring.proofs.HeldPages.{IsStateOf}
use Rattle.fl_ring.proofs.InTable.{of_ring, erases-where, counted-repairs, performed-lifts, all-whole}
use Rattle.fl_ring.proofs.Mounts.{repair_end, mount_fault}
use Rattle.fl_ring.proofs.VoidsAtEnd.{voids_are}
use Rattle.fl_ring.proofs.SamePlaces.{renumbered_on, renumbered_same}
use Rattle.fl_schema.proofs.Numbers.{number_of-le}
use Rattle.fl_schema.proofs.References.{field_4}
use Rattle.fl_ring.proofs.Heads.{one-is}
use Rattle.fl_var.specs.Memory.{waiting_in, page_in, var_shape, IsSamePlan}
use Rattle.fl_var.specs.Mounting.{Rests, MountEnds}
use Rattle.fl_var.specs.Standing.{IsVarRing}
use Rattle.fl_var.specs.declared.var_data.VarData.{VarData}
use Rattle.fl_var.proofs.Bodies.{counted, once, IsBody, some-once}
use Rattle.fl_var.proofs.RingInTable.{HasCome, IsRingOf, come-front, come-small, step-along, fault-ends}
use Rattle.fl_var.proofs.SealsInTable.{shape-is, shape-here, next-is, oldest-is}
use Rattle.fl_var.proofs.States.{all-once, state_of, state-is, var-ring-of}

-- a body begins with its number
pub body-number : (plan : Plan) (n : ℕ) (body : List ℕ) (p : ContentPage) → IsBody plan n body p → n < 4294967296 → number_of body ≡ n
body-number plan n body p is small =
    ap number_of is.0 ∙ (field_4 (content_body n p) 0 0 0 4 refl refl (omega (arith, length-append (le 4 n ++ le 2 p.used ++ le 2 0) p.bytes)) ∙ number_of-le 4 n small)

-- repairs leave the bytes that wait
repairs-waits : (plan : Plan) (table : Table) → (all_done (effect_within plan) (repair_within plan VarRing table) table).buffered ≡ table.buffered
repairs-waits plan table = by_torn (is_torn VarRing table)
  where
    by_dirty : (d : Bool) (t : Table) → (all_done (effect_within plan) (cond d ((VarRing, Erase) ∷ []) []) t).buffered ≡ t.buffered
    by_dirty true t = refl
    by_dirty false t = refl

    by_torn : (b : Bool) → (all_done (effect_within plan) ((cond b ((VarRing, VoidMark) ∷ []) []) ++ (cond (is_dirty VarRing (cond b (seal_page plan VarRing 0 table) table)) ((VarRing, Erase) ∷ []) [])) table).buffered ≡ table.buffered
    by_torn true = by_dirty (is_dirty VarRing (seal_page plan VarRing 0 table)) (seal_page plan VarRing 0 table)
    by_torn false = by_dirty (is_dirty VarRing table) table

-- the limit on its reads, as the ring's mount has it
pub few-read : (v : VarData) (f g : FlashState) (plan : Plan) (table : Table) → Rests v f plan table → f.geometry ≡ v.geometry → ((n : ℕ) → length (page_at f (place (var_shape v) n)) ≡ v.geometry.page) →
    ((s : RingState) → OnRing (shape_at v.place f.geometry) (page_at f) s → g.work.reads ≤ f.work.reads + (v.place.blocks + 2 * f.geometry.block + 1 + voids_at_end s.kept)) →
    g.work.reads ≤ f.work.reads + part_mount_limit (shape_of plan VarRing) table.var
few-read v f g plan table rests geometry sizes few =
    let s = state_of rests.ring table.var_pages in
    let is = state-is (var_shape v) plan (page_at f) sizes (shape-is v) (shape-here v plan rests.planned) rests.ring table.var_pages rests.pages in
    let limit : part_mount_limit (shape_of plan VarRing) table.var ≡ plan.var_blocks + 2 * plan.geometry.block + 1 + voids_at_end s.kept =
    ap (λ (o : Option model.Ring). part_mount_limit (shape_of plan VarRing) o) rests.ring_is
    ∙ (ap (λ (x : model.Ring). ring_mount_limit (shape_of plan VarRing) x) (sym is.counts)
    ∙ ap (λ (n : ℕ). plan.var_blocks + 2 * plan.geometry.block + 1 + n) (voids_are once s (all-once s))) in
    let reads = few s (subst (λ (x : Geometry). OnRing (shape_at v.place x) (page_at f) s) (sym geometry) is.on) in
    omega (arith, reads, limit, rests.planned.blocks, ap (λ (x : Geometry). x.block) (geometry ∙ sym rests.planned.geometry))

module _ (v : VarData) (f g : FlashState) (plan : Plan) (table : Table) (at_least : ℕ) (rests : Rests v f plan table) (least_is : at_least ≡ blob_end table)
    (sizes : (n : ℕ) → length (page_at f (place (var_shape v) n)) ≡ v.geometry.page) (later_sizes : (n : ℕ) → length (page_at g (place (var_shape v) n)) ≡ v.geometry.page) where
  abbrev r : Shape
  r = var_shape v

  abbrev s : RingState
  s = state_of rests.ring table.var_pages

  abbrev numbered : RingState
  numbered = renumbered (var_shape v) at_least (state_of rests.ring table.var_pages)

  abbrev table_now : Table
  table_now = renumber plan VarRing table

  is : IsStateOf (IsBody plan) once (var_shape v) (page_at f) rests.ring table.var_pages (state_of rests.ring table.var_pages)
  is = state-is (var_shape v) plan (page_at f) sizes (shape-is v) (shape-here v plan rests.planned) rests.ring table.var_pages rests.pages

  on_now : OnRing (var_shape v) (page_at f) numbered
  on_now = renumbered_on (var_shape v) (page_at f) s at_least (shape-is v) is.on

  var_now : (renumber plan VarRing table).var ≡ Some (counted numbered)
  var_now =
      ap (option_map (numbering.renumbered (shape_of plan VarRing) (blob_end table))) rests.ring_is
      ∙ ap (λ (x : model.Ring). Some x)
      (ap (λ n. numbering.renumbered (shape_of plan VarRing) n rests.ring) (sym least_is)
      ∙ (ap (λ (x : model.Ring). numbering.renumbered (shape_of plan VarRing) at_least x) (sym is.counts)
      ∙ (ap (λ (m : model.Shape). numbering.renumbered m at_least (counted (state_of rests.ring table.var_pages))) (sym (shape-here v plan rests.planned))
      ∙ sym (counts_renumbered once (var_shape v) at_least s (all-once s)))))

  small : numbered.next + one numbered.torn < 4294967296
  small =
      let torn : one numbered.torn ≡ cond rests.ring.torn 1 0 = ap one (renumbered_same (var_shape v) s at_least) ∙ one-is rests.ring.torn in
      let k = rests.fits (counted numbered) var_now in
      omega (arith, torn, k)

  -- the ring is good
  pub good : IsTrue f.media.tells → IsGood f (var_shape v) at_least (state_of rests.ring table.var_pages)
  good told = record {
    told = told;
    on = is.on;
    numbered = bodies-numbered (IsBody plan) once (some-once plan) (body-number plan) s table.var_pages is.bodies is.on.ring.not_negative (let k = rests.pages.number in omega (arith, k));
    fits = let torn = renumbered_same (var_shape v) s at_least in subst (λ b. numbered.next + one b < 4294967296) torn small;
  }

  come : HasCome plan [] (repair_kinds (var_shape v) numbered) numbered table_now.buffered
  come = by_torn numbered.torn refl
    where
      by_dirty : (b : Bool) → numbered.next < 4294967296 → HasCome plan [] (cond b (Erase ∷ []) []) numbered table_now.buffered
      by_dirty true k = (k, tt)
      by_dirty false k = k

      by_torn : (b : Bool) → numbered.torn ≡ b → HasCome plan [] ((cond b (VoidMark ∷ []) []) ++ (cond (cond b (voided (var_shape v) numbered) numbered).dirty (Erase ∷ []) [])) numbered table_now.buffered
      by_torn true e = let k = subst (λ b. numbered.next + one b < 4294967296) e small in (k, erases-where (voided r numbered).dirty)
      by_torn false e = let k = subst (λ b. numbered.next + one b < 4294967296) e small in by_dirty numbered.dirty (omega (arith, k))

  begins : (kinds : List Kind) → HasCome plan [] kinds numbered table_now.buffered → IsRingOf plan [] kinds numbered (renumber plan VarRing table)
  begins kinds h = record { var_is = var_now; bodies = renumbered-bodies (IsBody plan) r at_least s table.var_pages is.bodies; known = on_now.ring.not_negative; come = h }

  kinds-are : map (of_ring VarRing) (repair_kinds (var_shape v) numbered) ≡ repair_within plan VarRing (renumber plan VarRing table)
  kinds-are = counted-repairs VarRing plan table_now once r numbered (shape-here v plan rests.planned) var_now

  -- all repairs were done
  pub mount-well : (rose : Bool) (device : Device) (w : VarData) (ring : memory.Ring) → Mounted (var_shape v) rose device numbered ring g → w.ring ≡ Some ring → IsSamePlan v w → page_in w g ≡ page_in v g → waiting_in w ≡ [] → MountEnds plan table rose device v (Ok tt) w g
  mount-well rose device w ring m ring_is same page_is empty =
      let kinds = repair_kinds r numbered in
      let l = performed-lifts (IsRingOf plan []) r plan VarRing [] (step-along r plan [] (shape-is v) (shape-here v plan rests.planned)) rose kinds device numbered table_now (Ok tt) g (begins (repair_kinds r numbered) come) m.performed in
      let all = all-whole l.now.end tt g l.answer in
      let did : TablePerforms plan rose (repair_within plan VarRing table_now) device table_now l.now = subst (λ (ops : List (RingName × Kind)). TablePerforms plan rose ops device table_now l.now) kinds-are l.did in
      let clean = repair_end (var_shape v) numbered rose device tt g m.performed in
      record {
        now = l.now;
        did = did;
        whole = all.0;
        counts = l.counts;
        power = all.1;
        stands = record {
          ring = record {
            planned = record { geometry = rests.planned.geometry ∙ sym same.geometry; blocks = rests.planned.blocks ∙ ap (λ p. p.blocks) (sym same.place) };
            mounted = ap is_some ring_is;
            ring = counted m.performed.now.state;
            ring_is = l.is.var_is;
            pages = subst (λ (pg : ℕ → List ℕ). IsVarRing plan l.now.state.var_pages (counted m.performed.now.state) pg) (sym page_is)
                (var-ring-of (var_shape v) plan (page_at g) later_sizes (shape-is v) (shape-here v plan rests.planned) m.performed.now.state l.now.state.var_pages m.performed.on l.is.bodies
                (come-small plan [] l.kinds m.performed.now.state l.now.state.buffered l.is.come));
            whole = clean.0;
            clean = clean.1;
            next = next-is w ring ring_is ∙ m.stands.next;
            oldest_is = oldest-is w ring ring_is ∙ (m.stands.oldest ∙ ap (λ n. m.performed.now.state.next - n) (sym (counts_length once m.performed.now.state)));
          };
          buffered = ap (λ (t : Table). t.buffered) (performs-whole (λ operation. operation.1) (effect_within plan) rose (repair_within plan VarRing table_now) device table_now l.now did all.0).0
              ∙ (repairs-waits plan table_now ∙ (rests.empty ∙ sym empty));
        };
      }

  -- a repair failed, or a read
  pub mount-badly : (rose : Bool) (device : Device) (fault : FlashFault) (w : VarData) → RepairEnds (var_shape v) rose (repair_kinds (var_shape v) numbered) device numbered (Err fault) g → MountEnds plan table rose device v (Err (ring_fault.Flash fault)) w g
  mount-badly rose device fault w (inl p) =
      let l = performed-lifts (IsRingOf plan []) r plan VarRing [] (step-along r plan [] (shape-is v) (shape-here v plan rests.planned)) rose (repair_kinds r numbered) device numbered table_now (Err fault) g (begins (repair_kinds r numbered) come) p in
      record {
        now = l.now;
        did = inl (subst (λ (ops : List (RingName × Kind)). TablePerforms plan rose ops device table_now l.now) kinds-are l.did, fault-ends l.now.end fault g l.answer);
        counts = l.counts;
        ring = counted p.now.state;
        ring_is = l.is.var_is;
        pages = var-ring-of (var_shape v) plan (page_at g) later_sizes (shape-is v) (shape-here v plan rests.planned) p.now.state l.now.state.var_pages p.on l.is.bodies
            (come-small plan [] l.kinds p.now.state l.now.state.buffered l.is.come);
      }
  mount-badly rose device fault w (inr u) =
      let l = performed-lifts (IsRingOf plan []) r plan VarRing [] (step-along r plan [] (shape-is v) (shape-here v plan rests.planned)) rose u.front device numbered table_now (Ok tt) g
      (begins u.front (come-front plan [] u.front u.others numbered table_now.buffered (subst (λ (kinds : List Kind). HasCome plan [] kinds numbered table_now.buffered) u.split come))) u.did in
      let all = all-whole l.now.end tt g l.answer in
      record {
        now = l.now;
        did = inr (
          record {
            may_fail = u.risen;
            front = map (of_ring VarRing) u.front;
            others = map (of_ring VarRing) u.others;
            split = sym kinds-are ∙ (ap (map (of_ring VarRing)) u.split ∙ map-append (of_ring VarRing) u.front u.others);
            did = l.did;
            whole = all.0;
          },
          is_media u.is,
        );
        counts = l.counts;
        ring = counted u.did.now.state;
        ring_is = l.is.var_is;
        pages = var-ring-of (var_shape v) plan (page_at g) later_sizes (shape-is v) (shape-here v plan rests.planned) u.did.now.state l.now.state.var_pages u.did.on l.is.bodies
            (come-small plan [] l.kinds u.did.now.state l.now.state.buffered l.is.come);
      }
    where
      is_media : ◌≡◌ {A = Result (Unit {0}) FlashFault} (Err fault) (Err Media) → fault ≡ Media
      is_media e = cc

-- how the mount of the ring ended
pub mount-fault : (plan : Plan) (table : Table) (rose : Bool) (device : Device) (v w : VarData) (g : FlashState) (r : Shape) (t : RingState) (result : Result (Unit {0}) RingFault) (e : RingFault) → result ≡ Err e →
    ring_mounting.MountEnds r rose device t (Err e) g → ((fault : FlashFault) → RepairEnds r rose (repair_kinds r t) device t (Err fault) g → MountEnds plan table rose device v (Err (ring_fault.Flash fault)) w g) →
    MountEnds plan table rose device v result w g
mount-fault plan table rose device v w g r t result e is h go =
    subst (λ (x : Result (Unit {0}) RingFault). MountEnds plan table rose device v x w g) (sym is) (mount_fault (λ (x : RingFault). MountEnds plan table rose device v (Err x) w g) r rose device t g e h go)
