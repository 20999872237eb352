-- The mount of a log's ring, in the words of its table.
use Rattle.std.proofs.Common.{◌≡◌, inl, inr, ℕ, ◌+◌, ◌-◌, ◌*◌, ◌<◌, ◌≤◌, Bool, true, false, cond, nat_lt, Option, Some, None, Result, Ok, Err, List, [], ◌∷◌, ◌++◌, map, length, refl, sym, ◌∙◌, ap, subst, arith, IsTrue}
use Rattle.std.specs.Prelude.{option_map, is_some}
use Rattle.std.specs.List.{list_any}
use Rattle.std.proofs.lemmas.List.{map-append}
use Rattle.std.proofs.Math.Nat.{mul-le-mul_right}
use Rattle.fl_base.specs.declared.types.Geometry.{Geometry}
use Rattle.fl_flash.specs.Flash.{FlashState, page_at}
use Rattle.fl_flash.specs.declared.flash.FlashFault.{FlashFault}
use Rattle.fl_flash.specs.declared.flash.FlashFault.TheVariants.{Media}
use Rattle.fl_model.specs.Bare.{bare_table}
use Rattle.fl_model.specs.Layout.{le}
use Rattle.fl_model.specs.Mount as numbering
use Rattle.fl_model.specs.Mount.{renumber, least_alike}
use Rattle.fl_model.specs.MountLimit.{ring_mount_limit, part_mount_limit}
use Rattle.fl_model.specs.Record.{Plan, rows_per_page}
use Rattle.fl_model.specs.Ring as model
use Rattle.fl_model.specs.Table.{Table, Entry, RingName, LogRing, shape_of, log_pages, has_rows}
use Rattle.fl_model.specs.Work.{Kind, Body, Mark, VoidMark, Erase, Device}
use Rattle.fl_model.specs.Within.{repair_within, TablePerforms}
use Rattle.fl_ring.specs.Head.{one}
use Rattle.fl_ring.specs.Mounting.{shape_at, IsGood, Mounted, RepairEnds}
use Rattle.fl_ring.specs.Mounting as ring_mounting
use Rattle.fl_ring.specs.Newest.{number_of}
use Rattle.fl_ring.specs.Numbers.{renumbered, voids_at_end}
use Rattle.fl_ring.specs.Operations.{repair_kinds}
use Rattle.fl_ring.specs.Ring.{Shape, RingState, OnRing, room, place, count, oldest, voided}
use Rattle.fl_ring.specs.declared.fault.RingFault.{RingFault}
use Rattle.fl_ring.specs.declared.fault.RingFault.TheVariants as ring_fault
use Rattle.fl_ring.specs.declared.newest.NewestPage.{NewestPage}
use Rattle.fl_ring.specs.declared.ring.Ring as memory
use Rattle.fl_ring.proofs.Bodies.{HoldBodies, bodies-numbered, holds-some, renumbered-bodies}
use Rattle.fl_ring.proofs.Counts.{counts_length, counts_renumbered}
use Rattle.fl_ring.proofs.HeldPages.{IsStateOf}
use Rattle.fl_ring.proofs.InTable.{of_ring, erases-front, begins-front, erases-where, counted-repairs, performed-lifts, all-whole}
use Rattle.fl_ring.proofs.Mounts.{repair_end, mount_fault}
use Rattle.fl_ring.proofs.SamePlaces.{renumbered_on, renumbered_same}
use Rattle.fl_ring.proofs.VoidsAtEnd.{voids_are}
use Rattle.fl_schema.proofs.Numbers.{length-le, number_of-le}
use Rattle.fl_schema.proofs.References.{from_le_bytes_4}
use Rattle.fl_ring.proofs.Heads.{one-is}
use Rattle.fl_parts.proofs.Plain.{least-below}
use Rattle.fl_parts.proofs.SealEnds.{fault-ends}
use Rattle.fl_rlc.specs.Memory.{page_in, log_shape, IsSamePlan}
use Rattle.fl_rlc.specs.Pages.{IsLogRing}
use Rattle.fl_rlc.specs.Repairing.{Rests, MountEnds}
use Rattle.fl_rlc.specs.declared.log.RecordLog.{RecordLog}
use Rattle.fl_rlc.proofs.Bodies.{counted, rows_of, IsBody, some-rows}
use Rattle.fl_rlc.proofs.RingInTable.{HasCome, IsRingOf, come-small, step-along}
use Rattle.fl_rlc.proofs.SealsInTable.{shape-is, shape-here, rows-few, next-is, oldest-is}
use Rattle.fl_rlc.proofs.States.{state_of, state-is, log-ring-of}

-- a body begins with its number
pub body-number : (plan : Plan) (n : ℕ) (body : List ℕ) (rows : List Entry) → IsBody plan n body rows → n < 4294967296 → number_of body ≡ n
body-number plan n body rows is small = ap number_of is.is ∙ (from_le_bytes_4 (le 4 n) (length-le 4 n) ∙ number_of-le 4 n small)

-- the limit on its reads, as the ring's mount has it
pub few-read : (l : RecordLog) (f g : FlashState) (first : ℕ) (plan : Plan) (table : Table) → Rests l f first plan table → f.geometry ≡ l.geometry → ((n : ℕ) → length (page_at f (place (log_shape l) n)) ≡ l.geometry.page) →
    ((s : RingState) → OnRing (shape_at l.place f.geometry) (page_at f) s → g.work.reads ≤ f.work.reads + (l.place.blocks + 2 * f.geometry.block + 1 + voids_at_end s.kept)) →
    g.work.reads ≤ f.work.reads + part_mount_limit (shape_of plan LogRing) table.log
few-read l f g first plan table rests geometry sizes reads-within =
    let s = state_of plan rests.ring (log_pages table) in
    let is = state-is (log_shape l) plan (page_at f) sizes (shape-is l) (shape-here l first plan rests.planned) (rows-few l first plan rests.planned) rests.ring (log_pages table) rests.pages in
    let limit : part_mount_limit (shape_of plan LogRing) table.log ≡ plan.log_blocks + 2 * plan.geometry.block + 1 + voids_at_end s.kept =
    ap (λ (o : Option model.Ring). part_mount_limit (shape_of plan LogRing) o) rests.ring_is
    ∙ (ap (λ (x : model.Ring). ring_mount_limit (shape_of plan LogRing) x) (sym is.counts)
    ∙ ap (λ (n : ℕ). plan.log_blocks + 2 * plan.geometry.block + 1 + n) (voids_are rows_of s (holds-some (IsBody plan) rows_of (some-rows plan) s (log_pages table) is.bodies))) in
    let reads = reads-within s (subst (λ (x : Geometry). OnRing (shape_at l.place x) (page_at f) s) (sym geometry) is.on) in
    omega (arith, reads, limit, rests.planned.blocks, ap (λ (x : Geometry). x.block) (geometry ∙ sym rests.planned.geometry))

module _ (l : RecordLog) (f g : FlashState) (first : ℕ) (plan : Plan) (table : Table) (rests : Rests l f first plan table)
    (sizes : (n : ℕ) → length (page_at f (place (log_shape l) n)) ≡ l.geometry.page) (later_sizes : (n : ℕ) → length (page_at g (place (log_shape l) n)) ≡ l.geometry.page) where
  abbrev r : Shape
  r = log_shape l

  abbrev s : RingState
  s = state_of plan rests.ring (log_pages table)

  abbrev numbered : RingState
  numbered = renumbered (log_shape l) 0 (state_of plan rests.ring (log_pages table))

  abbrev table_now : Table
  table_now = renumber plan LogRing table

  few : rows_per_page plan < 65536
  few = rows-few l first plan rests.planned

  is : IsStateOf (IsBody plan) rows_of (log_shape l) (page_at f) rests.ring (log_pages table) (state_of plan rests.ring (log_pages table))
  is = state-is (log_shape l) plan (page_at f) sizes (shape-is l) (shape-here l first plan rests.planned) (rows-few l first plan rests.planned) rests.ring (log_pages table) rests.pages

  on_now : OnRing (log_shape l) (page_at f) numbered
  on_now = renumbered_on (log_shape l) (page_at f) s 0 (shape-is l) is.on

  log_now : (renumber plan LogRing table).log ≡ Some (counted numbered)
  log_now =
      ap (option_map (numbering.renumbered (shape_of plan LogRing) 0)) rests.ring_is
      ∙ ap (λ (x : model.Ring). Some x)
      (ap (λ (x : model.Ring). numbering.renumbered (shape_of plan LogRing) 0 x) (sym is.counts)
      ∙ (ap (λ (m : model.Shape). numbering.renumbered m 0 (counted (state_of plan rests.ring (log_pages table)))) (sym (shape-here l first plan rests.planned))
      ∙ sym (counts_renumbered rows_of (log_shape l) 0 s (holds-some (IsBody plan) rows_of (some-rows plan) s (log_pages table) is.bodies))))

  -- no page of the log gets a greater number
  less : numbered.next ≤ rests.ring.next
  less = by_any (list_any is_some s.kept)
    where
      some : 0 < room (log_shape l)
      some = let k : 1 * l.geometry.block ≤ l.place.blocks * l.geometry.block = mul-le-mul_right l.geometry.block (omega (arith, l.some_blocks)) in omega (arith, k, l.served.block_least)

      by_any : (b : Bool) → (cond b (state_of plan rests.ring (log_pages table)) (record (state_of plan rests.ring (log_pages table)) { next = least_alike (room (log_shape l)) rests.ring.next (0 + count (state_of plan rests.ring (log_pages table))) })).next ≤ rests.ring.next
      by_any true = omega arith
      by_any false = least-below (room (log_shape l)) rests.ring.next (0 + count s) some (omega (arith, is.on.ring.not_negative))

  torn_same : numbered.torn ≡ rests.ring.torn
  torn_same = renumbered_same (log_shape l) s 0

  small : numbered.next + (cond numbered.torn 1 0) ≤ 4294967292
  small = let torn : ◌≡◌ {A = ℕ} (cond numbered.torn 1 0) (cond rests.ring.torn 1 0) = ap {B = ℕ} (λ (b : Bool). cond b 1 0) torn_same in omega (arith, torn, less, rests.pages.number)

  -- the ring is good
  pub good : IsTrue f.media.tells → IsGood f (log_shape l) 0 (state_of plan rests.ring (log_pages table))
  good told = record {
    told = told;
    on = is.on;
    numbered = bodies-numbered (IsBody plan) rows_of (some-rows plan) (body-number plan) s (log_pages table) is.bodies is.on.ring.not_negative (let k = rests.pages.number in omega (arith, k));
    fits = let torn : ◌≡◌ {A = ℕ} (one numbered.torn) (cond numbered.torn 1 0) = one-is numbered.torn in let same : ◌≡◌ {A = ℕ} (one rests.ring.torn) (one numbered.torn) = ap one (sym torn_same) in omega (arith, torn, same, small);
  }

  come : HasCome plan [] (bare_table table) (repair_kinds (log_shape l) numbered) numbered
  come = by_torn numbered.torn refl
    where
      by_dirty : (b : Bool) → HasCome plan [] (bare_table table) (cond b (Erase ∷ []) []) numbered
      by_dirty true = (small, tt)
      by_dirty false = small

      by_torn : (b : Bool) → numbered.torn ≡ b → HasCome plan [] (bare_table table) ((cond b (VoidMark ∷ []) []) ++ (cond (cond b (voided (log_shape l) numbered) numbered).dirty (Erase ∷ []) [])) numbered
      by_torn true e = let k = subst (λ (b : Bool). numbered.next + (cond b 1 0) ≤ 4294967292) e small in (k, erases-where (voided r numbered).dirty)
      by_torn false e = by_dirty numbered.dirty

  begins : (kinds : List Kind) → HasCome plan [] (bare_table table) kinds numbered → IsRingOf plan [] (bare_table table) kinds numbered (renumber plan LogRing table)
  begins kinds h = record {
    log_is = log_now;
    bodies = subst (λ (ps : List (List Entry)). HoldBodies (IsBody plan) (oldest numbered) numbered.kept ps) (sym pages-same) (renumbered-bodies (IsBody plan) r 0 s (log_pages table) is.bodies);
    logged_some = λ none. rests.logged_some (sym rows-same ∙ none);
    rest = refl;
    known = on_now.ring.not_negative;
    come = h;
  }
    where
      rows-same : has_rows (renumber plan LogRing table).log ≡ has_rows table.log
      rows-same = by_log table.log
        where
          by_any : (b : Bool) (n : ℕ) (x : model.Ring) → list_any (nat_lt 0) (cond b x (record x { next = n })).counts ≡ list_any (nat_lt 0) x.counts
          by_any true n x = refl
          by_any false n x = refl

          by_log : (o : Option model.Ring) → has_rows (option_map (numbering.renumbered (shape_of plan LogRing) 0) o) ≡ has_rows o
          by_log None = refl
          by_log (Some x) = by_any (list_any (nat_lt 0) x.counts) _ x

      pages-same : log_pages (renumber plan LogRing table) ≡ log_pages table
      pages-same = ap (λ (b : Bool). table.logged_before ++ cond b (table.logged ∷ []) []) rows-same

  kinds-are : map (of_ring LogRing) (repair_kinds (log_shape l) numbered) ≡ repair_within plan LogRing (renumber plan LogRing table)
  kinds-are = counted-repairs LogRing plan table_now rows_of r numbered (shape-here l first plan rests.planned) log_now

  -- all repairs were done
  pub mount-well : (rose : Bool) (device : Device) (newest : Option NewestPage) (w : RecordLog) (ring : memory.Ring) → Mounted (log_shape l) rose device numbered ring g → w.ring ≡ Some ring → IsSamePlan l w → page_in w g ≡ page_in l g →
      MountEnds first plan table rose device l (Ok newest) w g
  mount-well rose device newest w ring m ring_is same page_is =
      let kinds = repair_kinds r numbered in
      let v = performed-lifts (IsRingOf plan [] (bare_table table)) r plan LogRing [] (step-along r plan [] (bare_table table) (shape-is l) (shape-here l first plan rests.planned)) rose kinds device numbered table_now (Ok tt) g (begins (repair_kinds r numbered) come) m.performed in
      let all = all-whole v.now.end tt g v.answer in
      let did : TablePerforms plan rose (repair_within plan LogRing table_now) device table_now v.now = subst (λ (ops : List (RingName × Kind)). TablePerforms plan rose ops device table_now v.now) kinds-are v.did in
      let clean = repair_end (log_shape l) numbered rose device tt g m.performed in
      record {
        now = v.now;
        did = did;
        whole = all.0;
        counts = v.counts;
        power = all.1;
        ring = record {
          planned = record { geometry = rests.planned.geometry ∙ sym same.geometry; blocks = rests.planned.blocks ∙ ap (λ p. p.blocks) (sym same.place); begins = ap (λ p. p.first_block) same.place ∙ rests.planned.begins };
          mounted = ap is_some ring_is;
          ring = counted m.performed.now.state;
          ring_is = v.is.log_is;
          pages = subst (λ (pg : ℕ → List ℕ). IsLogRing plan (log_pages v.now.state) (counted m.performed.now.state) pg) (sym page_is)
              (log-ring-of (log_shape l) plan (page_at g) later_sizes (shape-is l) (shape-here l first plan rests.planned) few m.performed.now.state (log_pages v.now.state) m.performed.on v.is.bodies
              (come-small plan [] (bare_table table) v.kinds m.performed.now.state v.is.come));
          logged_some = v.is.logged_some;
          whole = clean.0;
          clean = clean.1;
          next = next-is w ring ring_is ∙ m.stands.next;
          oldest_is = oldest-is w ring ring_is ∙ (m.stands.oldest ∙ ap (λ n. m.performed.now.state.next - n) (sym (counts_length rows_of m.performed.now.state)));
        };
        rest = v.is.rest;
      }

  -- a repair failed, or a read
  pub mount-badly : (rose : Bool) (device : Device) (fault : FlashFault) (w : RecordLog) → RepairEnds (log_shape l) rose (repair_kinds (log_shape l) numbered) device numbered (Err fault) g → MountEnds first plan table rose device l (Err (ring_fault.Flash fault)) w g
  mount-badly rose device fault w (inl p) =
      let v = performed-lifts (IsRingOf plan [] (bare_table table)) r plan LogRing [] (step-along r plan [] (bare_table table) (shape-is l) (shape-here l first plan rests.planned)) rose (repair_kinds r numbered) device numbered table_now (Err fault) g (begins (repair_kinds r numbered) come) p in
      record {
        now = v.now;
        did = inl (subst (λ (ops : List (RingName × Kind)). TablePerforms plan rose ops device table_now v.now) kinds-are v.did, fault-ends v.now.end fault g v.answer);
        counts = v.counts;
        ring = counted p.now.state;
        ring_is = v.is.log_is;
        pages = log-ring-of (log_shape l) plan (page_at g) later_sizes (shape-is l) (shape-here l first plan rests.planned) few p.now.state (log_pages v.now.state) p.on v.is.bodies
            (come-small plan [] (bare_table table) v.kinds p.now.state v.is.come);
        logged_some = v.is.logged_some;
        rest = v.is.rest;
      }
  mount-badly rose device fault w (inr u) =
      let v = performed-lifts (IsRingOf plan [] (bare_table table)) r plan LogRing [] (step-along r plan [] (bare_table table) (shape-is l) (shape-here l first plan rests.planned)) rose u.front device numbered table_now (Ok tt) g
      (begins u.front (come-front u.front u.others (subst (λ (kinds : List Kind). HasCome plan [] (bare_table table) kinds numbered) u.split come))) u.did in
      let all = all-whole v.now.end tt g v.answer in
      record {
        now = v.now;
        did = inr (
          record {
            may_fail = u.risen;
            front = map (of_ring LogRing) u.front;
            others = map (of_ring LogRing) u.others;
            split = sym kinds-are ∙ (ap (map (of_ring LogRing)) u.split ∙ map-append (of_ring LogRing) u.front u.others);
            did = v.did;
            whole = all.0;
          },
          is_media u.is,
        );
        counts = v.counts;
        ring = counted u.did.now.state;
        ring_is = v.is.log_is;
        pages = log-ring-of (log_shape l) plan (page_at g) later_sizes (shape-is l) (shape-here l first plan rests.planned) few u.did.now.state (log_pages v.now.state) u.did.on v.is.bodies
            (come-small plan [] (bare_table table) v.kinds u.did.now.state v.is.come);
        logged_some = v.is.logged_some;
        rest = v.is.rest;
      }
    where
      is_media : ◌≡◌ {A = Result (Unit {0}) FlashFault} (Err fault) (Err Media) → fault ≡ Media
      is_media e = cc

      come-front : (front others : List Kind) → HasCome plan [] (bare_table table) (front ++ others) numbered → HasCome plan [] (bare_table table) front numbered
      come-front [] others h = small
      come-front (Body ∷ front) others h = (h.0, begins-front front others h.1)
      come-front (Mark ∷ front) others h = (h.0, erases-front front others h.1)
      come-front (VoidMark ∷ front) others h = (h.0, erases-front front others h.1)
      come-front (Erase ∷ front) others h = (h.0, erases-front front others h.1)

-- how the mount of the ring ended
pub mount-fault : (first : ℕ) (plan : Plan) (table : Table) (rose : Bool) (device : Device) (l w : RecordLog) (g : FlashState) (r : Shape) (t : RingState) (result : Result (Option NewestPage) RingFault) (e : RingFault) → result ≡ Err e →
    ring_mounting.MountEnds r rose device t (Err e) g → ((fault : FlashFault) → RepairEnds r rose (repair_kinds r t) device t (Err fault) g → MountEnds first plan table rose device l (Err (ring_fault.Flash fault)) w g) →
    MountEnds first plan table rose device l result w g
mount-fault first plan table rose device l w g r t result e is h go =
    subst (λ (x : Result (Option NewestPage) RingFault). MountEnds first plan table rose device l x w g) (sym is) (mount_fault (λ (x : RingFault). MountEnds first plan table rose device l (Err x) w g) r rose device t g e h go)
