-- The mount of variable data is the last part of the mount of their table.
use Rattle.std.proofs.Common.{◌≡◌, ℕ, ◌+◌, ◌-◌, ◌*◌, ◌<◌, ◌≤◌, Bool, true, cond, Option, Some, None, IfSome, Result, Ok, Err, List, [], ◌∷◌, length, map, refl, sym, ◌∙◌, ap, subst, arith, ◌⊎◌, inl, inr}
use Rattle.std.proofs.Math.Nat.{mul-le-mul_right}
use Rattle.std.proofs.lemmas.List.{take_all}
use Rattle.fl_flash.specs.Flash.{FlashState, page_at}
use Rattle.fl_flash.specs.declared.flash.FlashFault.{FlashFault}
use Rattle.fl_flash.specs.declared.flash.FlashFault.TheVariants.{Media}
use Rattle.fl_model.specs.Content.{ContentPage}
use Rattle.fl_model.specs.Facts.{IsSettled}
use Rattle.fl_model.specs.Mount.{Of, renumber, ready}
use Rattle.fl_model.specs.Record.{Plan, has_var}
use Rattle.fl_model.specs.Ring.{Ring}
use Rattle.fl_model.specs.MountLimit.{part_mount_limit}
use Rattle.fl_model.specs.Table.{Table, Entry, RingName, DataRing, VarRing, shape_of, written, lose}
use Rattle.fl_model.specs.Work.{Device, PartEnd, Whole, CutIn, FailedIn, PartProgress}
use Rattle.fl_model.specs.Within.{repair_within, TablePerforms, TableUnreads, TableGoesOn, TableMounts, TableMountEnd, TableMounted, TableStopped, TableUnread}
use Rattle.fl_frame.specs.Device.{SameDevice}
use Rattle.fl_frame.specs.Watched.{IsWatched}
use Rattle.fl_parts.specs.Bitmaps as bitmaps
use Rattle.fl_parts.specs.BlobMount as variable
use Rattle.fl_var.specs.Mounting as mounting
use Rattle.fl_parts.specs.BlobMount.{WithinEndsOf, WithinEnds}
use Rattle.fl_parts.specs.Blobs.{AreIn, ArePlanned, Stand, StandInPages, StandOutside, IsPlanned}
use Rattle.fl_parts.specs.Mountable.{IsPaged}
use Rattle.fl_parts.specs.MountLimits.{IsVarLimited}
use Rattle.fl_parts.proofs.MountLimits.{data-keeps, mount-repaired}
use Rattle.fl_parts.specs.Failing.{FaultEnds, MountsBadly, var_rings}
use Rattle.fl_parts.proofs.InTurn.{mounts-append, rings-fail}
use Rattle.fl_table.specs.Outcomes.{DataWell, DataEnds, RingsEnd, mounted_of}
use Rattle.fl_parts.specs.Pages.{HoldsTable, Rests}
use Rattle.fl_table.specs.Standing.{StandsAsTold, Stands}
use Rattle.fl_parts.specs.declared.mount_fault.MountFault.{MountFault}
use Rattle.fl_parts.specs.declared.mount_fault.MountFault.TheVariants as mount
use Rattle.fl_table.specs.declared.mount.FoundRows.{FoundRows}
use Rattle.fl_table.specs.declared.table.Table as code
use Rattle.fl_parts.proofs.BlobSeals.{with_var, facts-with_var, holds-with_var}
use Rattle.fl_parts.proofs.Outsides.{index-before}
use Rattle.fl_table.proofs.BlobStands.{bitmaps-stand, index-pages}
use Rattle.fl_parts.proofs.BlobTables.{IsBlobbed, IsLed, blobbed-in, ring-blobbed, ring-holds, ring-led, rests-var}
use Rattle.fl_parts.proofs.BlobsOfTable.{planned-none, planned-some}
use Rattle.fl_parts.proofs.Loose.{IsLoose, loose-paged, loose-with_var, paged-loose}
use Rattle.fl_parts.proofs.Renumbered.{IsMounting}
use Rattle.fl_parts.proofs.VarFacts.{blobs-as, front-of, in-some, led-some, placed-in}
use Rattle.fl_parts.proofs.Plain.{IsPlainTable, table-facts, table-parts}
use Rattle.fl_parts.proofs.Repaired.{IsIdle, idle-lost, lost-idle}
use Rattle.fl_table.proofs.SealAnswers.{planned-shape}
use Rattle.fl_parts.proofs.VarRepairs.{done-keeps, done-leaves, part-keeps, part-leaves}
use Rattle.fl_var.specs.Memory.{page_in}
use Rattle.fl_var.specs.Placing as placing
use Rattle.fl_var.specs.Standing as standing
use Rattle.fl_var.specs.Standing.{IsVarRing}
use Rattle.fl_var.specs.declared.var_data.VarData.{VarData}

-- ---- the ring of variable data behind the data ring

-- All of it was mounted.
pub record IsMountedAll (Left : Type 0) {KNOTS SLOTS : ℕ} (t : code.Table KNOTS SLOTS) (first : ℕ) (plan : Plan) (table st : Table) (rose : Bool) (device : Device) (left : Option VarData) (new : FlashState) : Type 0 where
  pub now : PartProgress Table
  pub did : TableMounts plan rose (map (λ ring. Of ring) (DataRing ∷ var_rings plan)) device table (TableMounted now)
  pub counts : SameDevice new now.device
  pub power : new.is_on ≡ true
  pub ring : Option Ring
  pub content : List ContentPage
  pub bytes : List ℕ
  pub is : now.state ≡ with_var st ring content bytes
  pub lost : with_var st ring content bytes ≡ lose (with_var st ring content bytes)
  pub paged : IsPaged plan (with_var st ring content bytes)
  pub facts : Left → IsPlainTable plan (with_var (ready plan st) ring content bytes)
  pub pages : HoldsTable (page_at new) first plan (lose (with_var (ready plan st) ring content bytes))
  pub bitmaps : bitmaps.Stand t.bitmaps new (first + plan.data_blocks) plan (with_var (ready plan st) ring content bytes)
  pub blobs : StandInPages left new (first + plan.data_blocks + plan.index_blocks) plan (with_var (ready plan st) ring content bytes)
  pub stand : Left → Stand left new (first + plan.data_blocks + plan.index_blocks) plan (with_var (ready plan st) ring content bytes)

module _ {KNOTS SLOTS : ℕ} (t : code.Table KNOTS SLOTS) (mid new : FlashState) (first : ℕ) (plan : Plan) (table : Table) (rose : Bool) (device : Device) (found : FoundRows) (w : DataWell first plan table rose device found t mid) (watched : IsWatched mid new rose w.now.device) where
  abbrev st : Table
  st = w.now.state

  idle : IsIdle w.now.state
  idle = lost-idle w.now.state w.lost

  loose : IsLoose plan w.now.state
  loose = paged-loose plan w.now.state w.planned.log idle.pending idle.buffered idle.waiting w.paged

  -- all facts, where they held
  facts : IsSettled plan table → IsPlainTable plan w.now.state
  facts settled = table-parts plan w.now.state w.planned.log (w.settled settled).facts

  ready_parts : IsSettled plan table → IsPlainTable plan (ready plan w.now.state)
  ready_parts settled = table-parts plan (ready plan w.now.state) w.planned.log (w.facts settled)

  some_rows : 0 < plan.data_blocks * plan.geometry.block
  some_rows =
      let shape = planned-shape t first plan w.planned in
      let k : 3 * plan.geometry.block ≤ plan.data_blocks * plan.geometry.block = mul-le-mul_right plan.geometry.block shape.blocks in
      omega (arith, k, shape.pages)

  some_index : (r : Ring) → w.now.state.index ≡ Some r → 0 < plan.index_blocks * plan.geometry.block
  some_index r is = index-pages t first plan w.now.state w.planned w.paged.has_rings.0 r is

  lost_pages : HoldsTable (page_at mid) first plan (lose w.now.state)
  lost_pages = subst (λ (x : Table). HoldsTable (page_at mid) first plan x) w.lost w.pages

  module _ (v : VarData) (is : t.blobs ≡ Some v) (outside : StandOutside (Some v) (page_at mid) (page_at new)) where
    planned : IsPlanned v (first + plan.data_blocks + plan.index_blocks) plan
    planned = subst (λ (o : Option VarData). ArePlanned o (first + plan.data_blocks + plan.index_blocks) plan) is w.planned.var

    has : has_var plan ≡ true
    has = planned-some v (first + plan.data_blocks + plan.index_blocks) plan planned

    some_var : 0 < plan.var_blocks * plan.geometry.block
    some_var =
        let k : 3 * plan.geometry.block ≤ plan.var_blocks * plan.geometry.block = mul-le-mul_right plan.geometry.block (omega (arith, planned.planned.blocks, v.some_blocks)) in
        omega (arith, k, (planned-shape t first plan w.planned).pages)

    at_rest : variable.Rests v mid (first + plan.data_blocks + plan.index_blocks) plan w.now.state
    at_rest = rests-var v mid first plan w.now.state planned loose.blobs w.before w.pages.var idle.pending idle.buffered

    -- its blobs are in its pages, where all facts hold
    inside : IsSettled plan table → AreIn plan at_rest.in_pages.ring w.now.state.entries
    inside settled =
        let all : written w.now.state ≡ w.now.state.entries = take_all (length w.now.state.entries - w.now.state.pending) w.now.state.entries (omega (arith, idle.pending)) in
        subst (λ (es : List Entry). AreIn plan at_rest.in_pages.ring es) all (blobbed-in plan w.now.state at_rest.in_pages.ring (written w.now.state) at_rest.in_pages.ring_is (facts settled).blobs.blobs)

    two_rings : var_rings plan ≡ VarRing ∷ []
    two_rings = ap (λ (b : Bool). cond b (VarRing ∷ []) []) has

    also : (how : TableMountEnd) → TableMounts plan rose (Of VarRing ∷ []) w.now.device w.now.state how → TableMounts plan rose (map (λ ring. Of ring) (DataRing ∷ var_rings plan)) device table how
    also how m =
        subst (λ (rings : List RingName). TableMounts plan rose (map (λ ring. Of ring) (DataRing ∷ rings)) device table how) (sym two_rings) (mounts-append plan rose (Of DataRing ∷ []) (Of VarRing ∷ []) device table w.now how w.did m)

    pub var-fails : (fault : FlashFault) → mounting.MountsBadly plan w.now.state rose w.now.device fault v new → MountsBadly first plan (DataRing ∷ var_rings plan) table rose device fault new
    var-fails fault b =
        let D = first + plan.data_blocks + plan.index_blocks in
        let left = part-leaves v mid D plan w.now.state at_rest some_var 4294967295 loose.blobs.number rose w.now.device fault new b.now b.did in
        let r = left.beside.0 in
        let p = left.beside.1 in
        let k = left.beside.2 in
        let state : b.now.state ≡ with_var w.now.state r p k = left.beside.3 in
        let emptied : k ≡ [] = sym (ap (λ (x : Table). x.buffered) state) ∙ (left.buffered ∙ idle.buffered) in
        let ring_is : r ≡ Some b.ring = sym (ap (λ (x : Table). x.var) state) ∙ b.ring_is in
        let pages : IsVarRing plan p b.ring (page_in v new) = subst (λ (ps : List ContentPage). IsVarRing plan ps b.ring (page_in v new)) (ap (λ (x : Table). x.var_pages) state) b.pages in
        let kept = subst (λ (x : Table). IsMounting (IsSettled plan table) plan x b.ring) state (part-keeps (IsSettled plan table) v mid D plan w.now.state at_rest inside rose w.now.device fault new b.now b.ring b.ring_is b.did) in
        let blobbed : IsSettled plan table → IsBlobbed plan (with_var w.now.state r p k) = λ settled.
        let strict = part-leaves v mid D plan w.now.state at_rest some_var 4294967292 (facts settled).blobs.number rose w.now.device fault new b.now b.did in
        let number = subst (λ (o : Option Ring). IfSome o (λ x. x.next + (cond x.torn 1 0) ≤ 4294967292)) b.ring_is strict.number in
        ring-blobbed plan (with_var w.now.state r p k) b.ring (page_in v new) ring_is has pages
        (in-some plan b.ring w.now.state.entries (written w.now.state) (front-of (length w.now.state.entries - w.now.state.pending) w.now.state.entries) (kept.inside settled)) kept.stand
        (omega (arith, ap length emptied)) number (λ q. absurd (q idle.pending)) in
        let number = subst (λ (o : Option Ring). IfSome o (λ x. x.next + (cond x.torn 1 0) ≤ 4294967295)) b.ring_is left.number in
        let led : IsLed plan (with_var w.now.state r p k) =
        ring-led plan (with_var w.now.state r p k) b.ring (page_in v new) ring_is has pages
        (led-some plan b.ring w.now.state.entries (written w.now.state) (front-of (length w.now.state.entries - w.now.state.pending) w.now.state.entries) kept.led) kept.stand
        (omega (arith, ap length emptied)) number in
        let lost : with_var w.now.state r p k ≡ lose (with_var w.now.state r p k) =
        idle-lost (with_var w.now.state r p k) (record { pending = idle.pending; buffered = emptied; waiting = idle.waiting; points = idle.points }) in
        let var = ring-holds v new first plan (with_var w.now.state r p k) b.ring planned ring_is pages in
        let holds = holds-with_var v (page_at mid) (page_at new) first plan w.now.state r p k planned outside some_rows some_index w.pages var in
        record {
          now = b.now;
          did = by_did b.did;
          counts = b.counts;
          lost = subst (λ (x : Table). x ≡ lose x) (sym state) lost;
          paged = subst (IsPaged plan) (sym state) (loose-paged plan (with_var w.now.state r p k) idle.pending (loose-with_var plan w.now.state r p k loose led));
          pages = subst (λ (x : Table). HoldsTable (page_at new) first plan x) (sym state) holds;
          rests = λ settled. subst (λ (x : Table). Rests new first plan x) (sym state) (record {
            settled = record {
              facts = table-facts plan (with_var w.now.state r p k) (facts-with_var plan w.now.state r p k (facts settled) (blobbed settled));
              lost = lost;
            };
            pages = holds;
          });
        }
      where
        stops : (now : PartProgress Table) (e : PartEnd Table) → now.end ≡ e → placing.FaultEnds e fault new →
            TableGoesOn now.end now (TableStopped now) (TableMounts plan rose [] now.device now.state (TableStopped now)) × FaultEnds e fault new
        stops now Whole k a = absurd a
        stops now (CutIn x) k a = (rw k refl, a)
        stops now (FailedIn x) k a = (rw k refl, a)

        by_did : (TablePerforms plan rose (repair_within plan VarRing (renumber plan VarRing w.now.state)) w.now.device (renumber plan VarRing w.now.state) b.now × placing.FaultEnds b.now.end fault new)
            ⊎ (TableUnreads plan rose (repair_within plan VarRing (renumber plan VarRing w.now.state)) w.now.device (renumber plan VarRing w.now.state) b.now × (fault ≡ Media)) →
            (TableMounts plan rose (map (λ ring. Of ring) (DataRing ∷ var_rings plan)) device table (TableStopped b.now) × FaultEnds b.now.end fault new) ⊎ (TableMounts plan rose (map (λ ring. Of ring) (DataRing ∷ var_rings plan)) device table (TableUnread b.now) × (fault ≡ Media))
        by_did (inl p) = let s = stops b.now b.now.end refl p.1 in inl (also (TableStopped b.now) (inr (b.now, p.0, s.0)), s.1)
        by_did (inr u) = inr (also (TableUnread b.now) (inl (b.now, u.0, refl)), u.1)

    pub var-mounts : (v' : VarData) → variable.MountsWell (first + plan.data_blocks + plan.index_blocks) plan w.now.state rose w.now.device v' new → IsMountedAll (IsSettled plan table) t first plan table w.now.state rose device (Some v') new
    var-mounts v' m =
        let D = first + plan.data_blocks + plan.index_blocks in
        let left = done-leaves v mid D plan w.now.state at_rest some_var 4294967295 loose.blobs.number rose w.now.device m.now m.did in
        let r = left.beside.0 in
        let p = left.beside.1 in
        let k = left.beside.2 in
        let state : m.now.state ≡ with_var w.now.state r p k = left.beside.3 in
        let emptied : k ≡ [] = sym (ap (λ (x : Table). x.buffered) state) ∙ (left.buffered ∙ idle.buffered) in
        let stood : standing.Stands v' new plan (with_var w.now.state r p k) = subst (λ (x : Table). standing.Stands v' new plan x) state m.in_pages in
        let ring = stood.ring in
        let ready_stood : standing.Stands v' new plan (with_var (ready plan w.now.state) r p k) = record {
          ring = record {
            planned = ring.planned;
            mounted = ring.mounted;
            ring = ring.ring;
            ring_is = ring.ring_is;
            pages = ring.pages;
            whole = ring.whole;
            clean = ring.clean;
            next = ring.next;
            oldest_is = ring.oldest_is;
          };
          buffered = stood.buffered;
        } in
        let there : m.now.state.var ≡ Some ring.ring = ap (λ (x : Table). x.var) state ∙ ring.ring_is in
        let number = subst (λ (o : Option Ring). IfSome o (λ x. x.next + (cond x.torn 1 0) ≤ 4294967295)) there left.number in
        let kept = subst (λ (x : Table). IsMounting (IsSettled plan table) plan x ring.ring) state (done-keeps (IsSettled plan table) v mid D plan w.now.state at_rest inside rose w.now.device m.now ring.ring there m.did) in
        let led : IsLed plan (with_var w.now.state r p k) =
        ring-led plan (with_var w.now.state r p k) ring.ring (page_in v' new) ring.ring_is has ring.pages
        (led-some plan ring.ring w.now.state.entries (written w.now.state) (front-of (length w.now.state.entries - w.now.state.pending) w.now.state.entries) kept.led) kept.stand
        (omega (arith, ap length emptied)) number in
        let blobbed : IsSettled plan table → IsBlobbed plan (with_var (ready plan w.now.state) r p k) = λ settled.
        let strict = done-leaves v mid D plan w.now.state at_rest some_var 4294967292 (facts settled).blobs.number rose w.now.device m.now m.did in
        let here = subst (λ (o : Option Ring). IfSome o (λ x. x.next + (cond x.torn 1 0) ≤ 4294967292)) there strict.number in
        ring-blobbed plan (with_var (ready plan w.now.state) r p k) ring.ring (page_in v' new) ring.ring_is has ring.pages
        (in-some plan ring.ring w.now.state.entries (written w.now.state) (front-of (length w.now.state.entries - w.now.state.pending) w.now.state.entries) (kept.inside settled))
        (blobs-as plan (with_var w.now.state r p k) (with_var (ready plan w.now.state) r p k) ring.ring ring.ring (λ i entry e. (i, e)) (λ page. refl) (λ number. refl) kept.stand)
        (omega (arith, ap length emptied)) here (λ q. absurd (q idle.pending)) in
        record {
          now = record { end = Whole; device = m.now.device; state = m.now.state };
          did = also (TableMounted (record { end = Whole; device = m.now.device; state = m.now.state })) (inr (m.now, m.did, goes m.now m.whole));
          counts = m.counts;
          power = m.power;
          ring = r;
          content = p;
          bytes = k;
          is = state;
          lost = idle-lost (with_var w.now.state r p k) (record { pending = idle.pending; buffered = emptied; waiting = idle.waiting; points = idle.points });
          paged = loose-paged plan (with_var w.now.state r p k) idle.pending (loose-with_var plan w.now.state r p k loose led);
          facts = λ settled. facts-with_var plan (ready plan w.now.state) r p k (ready_parts settled) (blobbed settled);
          pages = holds-with_var v (page_at mid) (page_at new) first plan (lose w.now.state) r p [] planned outside some_rows some_index lost_pages (ring-holds v' new first plan (with_var w.now.state r p k) ring.ring m.planned ring.ring_is ring.pages);
          bitmaps = bitmaps-stand t.bitmaps mid new first plan (ready plan w.now.state) r p k w.planned.index (planned-shape t first plan w.planned).pages (λ some. index-before (Some v) (page_at mid) (page_at new) first plan planned outside some) w.bitmaps;
          blobs = (m.planned, ready_stood);
          stand = λ settled. record { planned = m.planned; in_pages = ready_stood; placed = placed-in plan ring.ring w.now.state.entries (kept.inside settled) };
        }
      where
        goes : (last : PartProgress Table) → last.end ≡ Whole →
            TableGoesOn last.end last (TableMounted (record { end = Whole; device = last.device; state = last.state })) (TableMounted (record { end = Whole; device = last.device; state = last.state }) ≡ TableMounted (record { end = Whole; device = last.device; state = last.state }))
        goes last e = rw e refl

  -- how the calls end
  pub rows-fail : (blobs now : Option VarData) (e : MountFault) (t' : code.Table KNOTS SLOTS) → t.blobs ≡ blobs → StandOutside blobs (page_at mid) (page_at new) → WithinEndsOf blobs mid (first + plan.data_blocks + plan.index_blocks) plan w.now.state rose w.now.device (Err e) now new →
      RingsEnd first plan (DataRing ∷ var_rings plan) table rose device (Err e) t' new
  rows-fail None now e t' is outside h = absurd (no h.0)
    where
      no : ◌≡◌ {A = Result (Unit {0}) MountFault} (Err e) (Ok tt) → ⊥
      no k = cc
  rows-fail (Some v) None e t' is outside h = absurd h
  rows-fail (Some v) (Some v') e t' is outside h = by_fault e (h watched (at_rest v is outside))
    where
      by_fault : (e : MountFault) → WithinEnds (first + plan.data_blocks + plan.index_blocks) plan w.now.state rose w.now.device v (Err e) v' new → RingsEnd first plan (DataRing ∷ var_rings plan) table rose device (Err e) t' new
      by_fault (mount.Flash fault) b = var-fails v is outside fault b
      by_fault (mount.Ring fault) b = absurd b
      by_fault (mount.BadPage bad) b = absurd b
      by_fault (mount.BadKeys page last key) b = absurd b
      by_fault (mount.BadIndex end next) b = absurd b
      by_fault (mount.BadBlob page next) b = absurd b
      by_fault (mount.BadEntry page count limit) b = absurd b

  pub rows-mount : (blobs now : Option VarData) (u : Unit {0}) → t.blobs ≡ blobs → StandOutside blobs (page_at mid) (page_at new) → WithinEndsOf blobs mid (first + plan.data_blocks + plan.index_blocks) plan w.now.state rose w.now.device (Ok u) now new →
      IsMountedAll (IsSettled plan table) t first plan table w.now.state rose device now new
  rows-mount None now u is outside h =
      let none = planned-none (first + plan.data_blocks + plan.index_blocks) plan (subst (λ (o : Option VarData). ArePlanned o (first + plan.data_blocks + plan.index_blocks) plan) is w.planned.var) in
      let one : [] ≡ var_rings plan = sym (ap (λ (b : Bool). cond b (VarRing ∷ []) []) none) in
      let same = h.2 in
      record {
        now = w.now;
        did = subst (λ (rings : List RingName). TableMounts plan rose (map (λ ring. Of ring) (DataRing ∷ rings)) device table (TableMounted w.now)) one w.did;
        counts = subst (λ (x : FlashState). SameDevice x w.now.device) (sym same) w.counts;
        power = ap (λ (x : FlashState). x.is_on) same ∙ w.power;
        ring = w.now.state.var;
        content = w.now.state.var_pages;
        bytes = w.now.state.buffered;
        is = refl;
        lost = w.lost;
        paged = w.paged;
        facts = ready_parts;
        pages = subst (λ (x : FlashState). HoldsTable (page_at x) first plan (lose w.now.state)) (sym same) lost_pages;
        bitmaps = subst (λ (x : FlashState). bitmaps.Stand t.bitmaps x (first + plan.data_blocks) plan (ready plan w.now.state)) (sym same) w.bitmaps;
        blobs = subst (λ (o : Option VarData). StandInPages o new (first + plan.data_blocks + plan.index_blocks) plan (ready plan w.now.state)) (sym h.1) idle.buffered;
        stand = λ settled. subst (λ (o : Option VarData). Stand o new (first + plan.data_blocks + plan.index_blocks) plan (ready plan w.now.state)) (sym h.1) idle.buffered;
      }
  rows-mount (Some v) None u is outside h = absurd h
  rows-mount (Some v) (Some v') u is outside h = var-mounts v is outside v' (h watched (at_rest v is outside))

  -- what it reads at most
  pub var-limit : (blobs : Option VarData) → t.blobs ≡ blobs → StandOutside blobs (page_at mid) (page_at new) → IsVarLimited blobs mid (first + plan.data_blocks + plan.index_blocks) plan w.now.state new →
      new.work.reads ≤ mid.work.reads + part_mount_limit (shape_of plan VarRing) table.var
  var-limit None is outside few = omega (arith, few)
  var-limit (Some v) is outside few =
      let ring : w.now.state.var ≡ table.var = ap (λ (x : Table). x.var) (mount-repaired plan DataRing table rose device w.now w.did) ∙ data-keeps plan table in
      subst (λ (o : Option Ring). new.work.reads ≤ mid.work.reads + part_mount_limit (shape_of plan VarRing) o) ring (few (at_rest v is outside))

-- the table that was started
pub mounted-ends : {KNOTS SLOTS : ℕ} (t t' : code.Table KNOTS SLOTS) (new : FlashState) (first : ℕ) (plan : Plan) (table was : Table) (rose : Bool) (device : Device) (found : FoundRows) (left : Option VarData) → (h : IsMountedAll (IsSettled plan table) t first plan table was rose device left new) →
    found.mounted ≡ mounted_of (ready plan was) → t'.blobs ≡ left → StandsAsTold t' new first plan (with_var (ready plan was) h.ring h.content h.bytes) → RingsEnd first plan (DataRing ∷ var_rings plan) table rose device (Ok found.mounted) t' new
mounted-ends t t' new first plan table was rose device found left h answer here loaded = record {
  now = h.now;
  did = h.did;
  counts = h.counts;
  power = h.power;
  loaded = subst (λ (x : Table). StandsAsTold t' new first plan (ready plan x)) (sym h.is) loaded;
  stands = λ settled. subst (λ (x : Table). Stands t' new first plan (ready plan x)) (sym h.is) (stands settled);
  answer = subst (λ (x : Table). found.mounted ≡ mounted_of (ready plan x)) (sym h.is) answer;
}
  where
    stands : IsSettled plan table → Stands t' new first plan (with_var (ready plan was) h.ring h.content h.bytes)
    stands settled = record {
      planned = loaded.planned;
      facts = table-facts plan (with_var (ready plan was) h.ring h.content h.bytes) (h.facts settled);
      whole = loaded.whole;
      clean = loaded.clean;
      pages = loaded.pages;
      memory = loaded.memory;
      bitmaps = loaded.bitmaps;
      blobs = subst (λ (o : Option VarData). Stand o new (first + plan.data_blocks + plan.index_blocks) plan (with_var (ready plan was) h.ring h.content h.bytes)) (sym here) (h.stand settled);
      points = loaded.points;
    }

-- the data ring failed
pub data-fails : {KNOTS SLOTS : ℕ} (first : ℕ) (plan : Plan) (table : Table) (rose : Bool) (device : Device) (e : MountFault) (t t' : code.Table KNOTS SLOTS) (new : FlashState) → DataEnds first plan table rose device (Err e) t new → RingsEnd first plan (DataRing ∷ var_rings plan) table rose device (Err e) t' new
data-fails first plan table rose device (mount.Flash fault) t t' new h = rings-fail first plan (DataRing ∷ []) (var_rings plan) table rose device fault new h
data-fails first plan table rose device (mount.Ring fault) t t' new h = h
data-fails first plan table rose device (mount.BadPage bad) t t' new h = h
data-fails first plan table rose device (mount.BadKeys page last key) t t' new h = h
data-fails first plan table rose device (mount.BadIndex end next) t t' new h = h
data-fails first plan table rose device (mount.BadBlob page next) t t' new h = h
data-fails first plan table rose device (mount.BadEntry page count limit) t t' new h = h
