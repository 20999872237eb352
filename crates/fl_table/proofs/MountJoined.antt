-- A mount is that of the index, and then that of the data ring.
use Rattle.std.proofs.Common.{◌≡◌, ℕ, ◌+◌, ◌-◌, ◌*◌, ◌<◌, ◌≤◌, Bool, true, false, cond, Option, Some, None, IfSome, unwrap_or, Result, Ok, Err, List, [], ◌∷◌, ◌++◌, length, refl, sym, ◌∙◌, ap, subst, arith, inl, inr}
use Rattle.fl_model.specs.Index.{IndexPage}
use Rattle.std.proofs.Math.Nat.{mul-le-mul_right}
use Rattle.fl_base.specs.declared.types.Geometry.{Geometry}
use Rattle.fl_base.specs.declared.types.RingPlace.{RingPlace}
use Rattle.fl_flash.specs.Flash.{FlashState, page_at}
use Rattle.fl_index.specs.declared.index.BitmapIndex.{BitmapIndex}
use Rattle.fl_index.specs.Memory as memory
use Rattle.fl_index.specs.Outcomes as outcomes
use Rattle.fl_index.proofs.SealEnds.{planned-ring}
use Rattle.fl_model.specs.Facts.{is_some_ring}
use Rattle.fl_model.specs.Image.{IsRingImage, HoldsEntries}
use Rattle.fl_index.specs.Standing as standing
use Rattle.fl_ring.specs.Mounting.{shape_at, search_reads, HasNumbers, FailsAs}
use Rattle.fl_model.specs.Mount.{rings_of, index_end}
use Rattle.fl_model.specs.MountLimit.{repaired, all_repaired, part_mount_limit, mount_limit}
use Rattle.fl_model.specs.Record.{Plan, RowLayout, has_index}
use Rattle.fl_model.specs.Ring as model
use Rattle.fl_model.specs.Table.{Table, RingName, DataRing, IndexRing, VarRing, shape_of}
use Rattle.fl_model.specs.Work.{Device}
use Rattle.fl_frame.specs.Device.{SameDevice}
use Rattle.fl_ring.specs.Finding.{FoundFault}
use Rattle.fl_frame.specs.Reads.{OnlyReads}
use Rattle.fl_ring.specs.Place.{next_of, oldest_of}
use Rattle.fl_ring.specs.Ring.{Shape}
use Rattle.fl_frame.specs.Watched.{IsWatched}
use Rattle.fl_ring.specs.declared.fault.RingFault.{RingFault}
use Rattle.fl_ring.specs.declared.fault.RingFault.TheVariants as ring
use Rattle.fl_ring.specs.declared.ring.Ring.{Ring}
use Rattle.fl_schema.specs.Schema.{layout_of}
use Rattle.fl_parts.specs.Bitmaps.{ArePlanned, AreSamePlan, StandOutside, MountEndsOf, RemembersFound}
use Rattle.fl_parts.specs.BlobEnds.{least_of}
use Rattle.fl_parts.specs.BlobMount.{FindsBlobs, RefusesWithin}
use Rattle.fl_parts.specs.Faults.{of_ring}
use Rattle.fl_table.specs.Memory.{IsPlanned, IsSamePlan, ring_shape}
use Rattle.fl_parts.specs.ByEntries.{Come, facts_on, known_after, rows_of, voids_of, end_of, mount_fault}
use Rattle.fl_parts.specs.Coming.{StandFound, StandsFoundBy, WaitUnlisted, come_of, most_in}
use Rattle.fl_find.specs.Index.{error_in}
use Rattle.fl_table.specs.Mounting.{FindsRows, ReadsRing, HasBadPage, HasLearned, FindsData, RefusesData, RefusesRows, comes_in}
use Rattle.fl_parts.specs.Failing.{var_rings}
use Rattle.fl_table.specs.Outcomes.{RingsEnd, MountEnds}
use Rattle.fl_parts.specs.Pages.{RestsToMount, bytes_in}
use Rattle.fl_parts.specs.Reading.{pages_of}
use Rattle.fl_table.specs.declared.counts.Mounted.{Mounted as Found}
use Rattle.fl_parts.specs.declared.mount_fault.MountFault.{MountFault}
use Rattle.fl_parts.specs.declared.mount_fault.MountFault.TheVariants as mount
use Rattle.fl_table.specs.declared.table.Table as code
use Rattle.fl_parts.proofs.IndexOfTable.{planned-none, planned-some}
use Rattle.fl_parts.proofs.IndexAlone.{rows-stand, var-stand}
use Rattle.fl_var.specs.declared.var_data.VarData.{VarData}
use Rattle.fl_parts.specs.MountLimits.{IsIndexLimited, rows_mount_limit}
use Rattle.fl_parts.proofs.MountLimits.{done-repaired, index-within, limit-bare, limit-indexed}
use Rattle.fl_parts.proofs.IndexMounted.{index-fails, index-mounts}
use Rattle.fl_table.proofs.MountIndexed.{then-rows}
use Rattle.fl_parts.proofs.Loose.{IsLoose, has-listed, none-listed, paged-loose}
use Rattle.fl_parts.proofs.Repaired.{IsIdle, lost-idle}
use Rattle.fl_table.proofs.SealAnswers.{planned-shape, same-then}

module _ {KNOTS SLOTS : ℕ} (t : code.Table KNOTS SLOTS) (old new : FlashState) (first : ℕ) (plan : Plan) (table : Table) (rose : Bool) (device : Device) (planned : IsPlanned t first plan) (rests : RestsToMount old first plan table) (watched : IsWatched old new rose device) where
  idle : IsIdle table
  idle = lost-idle table rests.mountable.lost

  facts : IsLoose plan table
  facts = paged-loose plan table planned.log idle.pending idle.buffered idle.waiting rests.mountable.paged

  some_blocks : 0 < plan.data_blocks * plan.geometry.block
  some_blocks =
      let shape = planned-shape t first plan planned in
      let k : 3 * plan.geometry.block ≤ plan.data_blocks * plan.geometry.block = mul-le-mul_right plan.geometry.block shape.blocks in omega (arith, k, shape.pages)

  module _ (index : BitmapIndex) (is : t.bitmaps ≡ Some index) (outside : StandOutside (Some index) (page_at old) (page_at new)) where
    planned_index : memory.IsPlanned index (first + plan.data_blocks) plan
    planned_index = subst (λ (o : Option BitmapIndex). ArePlanned o (first + plan.data_blocks) plan) is planned.index

    some_pages : 0 < plan.index_blocks * plan.geometry.block
    some_pages =
        let k : 3 * plan.geometry.block ≤ plan.index_blocks * plan.geometry.block = mul-le-mul_right plan.geometry.block (omega (arith, planned_index.blocks, index.some_blocks)) in
        omega (arith, k, (planned-shape t first plan planned).pages)

    same_rows : (n : ℕ) → bytes_in (page_at new) first plan DataRing n ≡ bytes_in (page_at old) first plan DataRing n
    same_rows = rows-stand (page_at old) (page_at new) first plan (memory.ring_shape index) some_blocks (ap (λ (r : Shape). r.first) (planned-ring index (first + plan.data_blocks) plan planned_index)) outside

    same_var : (n : ℕ) → bytes_in (page_at new) first plan VarRing n ≡ bytes_in (page_at old) first plan VarRing n
    same_var = var-stand (Some index) (page_at old) (page_at new) first plan planned_index outside

    has : has_index plan ≡ true
    has = planned-some index (first + plan.data_blocks) plan planned_index

    ring_of_index : (o : Option model.Ring) → table.index ≡ o → is_some_ring o ≡ true → (r : model.Ring) × (table.index ≡ Some r)
    ring_of_index None e k = cc
    ring_of_index (Some r) e k = (r, e)

    rests_index : standing.Rests old (first + plan.data_blocks) plan table
    rests_index =
        let r = ring_of_index table.index refl (facts.index.has ∙ has) in
        record {
          ring = r.0;
          facts = has-listed plan table r.0 r.1 facts (omega (arith, ap length idle.waiting));
          idle = idle.waiting;
          pages = subst (λ (o : Option model.Ring). IfSome o (λ x. IsRingImage (shape_of plan IndexRing) x (bytes_in (page_at old) first plan IndexRing) (HoldsEntries plan table x))) r.1 rests.pages.index;
        }

  -- there is none, so it ends at 0
  none-ends : (end : Option ℕ) → ◌≡◌ {A = Result (Option ℕ) RingFault} (Ok end) (Ok None) → has_index plan ≡ false → unwrap_or end 0 ≡ index_end plan table
  none-ends end e none =
      let k : end ≡ None = cc in
      ap (λ (o : Option ℕ). unwrap_or o 0) k ∙ sym (ap (λ (pages : List IndexPage). index_end plan (record table { index_pages = pages })) (none-listed plan table none facts.index))

  -- the index failed
  pub mount-fails : (bitmaps now : Option BitmapIndex) (e : RingFault) (t' : code.Table KNOTS SLOTS) → t.bitmaps ≡ bitmaps → StandOutside bitmaps (page_at old) (page_at new) → MountEndsOf bitmaps old (first + plan.data_blocks) plan table rose device (Err e) now new →
      MountEnds first plan table rose device (Err (of_ring e)) t' new
  mount-fails None now e t' is outside h = absurd (no h.0)
    where
      no : ◌≡◌ {A = Result (Option ℕ) RingFault} (Err e) (Ok None) → ⊥
      no k = cc
  mount-fails (Some index) None e t' is outside h = absurd h
  mount-fails (Some index) (Some now) e t' is outside h = by_fault e (h watched (planned_index index is outside) (rests_index index is outside))
    where
      by_fault : (e : RingFault) → outcomes.EndsAs (RemembersFound (memory.form_in index).full now) (first + plan.data_blocks) plan table rose device (Err e) now new → MountEnds first plan table rose device (Err (of_ring e)) t' new
      by_fault (ring.Flash fault) m = index-fails old new first plan table rose device (has index is outside) (some_pages index is outside) planned.log rests (same_rows index is outside) (same_var index is outside) fault m
      by_fault (ring.BadHead heads) m = absurd m
      by_fault (ring.BadGap page) m = absurd m
      by_fault (ring.BadPage page wanted found) m = absurd m
      by_fault (ring.NoNumber least) m = absurd m

  -- the index was mounted, and then the data ring
  pub mount-then : (bitmaps now : Option BitmapIndex) (end : Option ℕ) (result : Result Found MountFault) (t' : code.Table KNOTS SLOTS) (last : FlashState) → t.bitmaps ≡ bitmaps → AreSamePlan bitmaps now → StandOutside bitmaps (page_at old) (page_at new) →
      MountEndsOf bitmaps old (first + plan.data_blocks) plan table rose device (Ok end) now new →
      ((x : Table) (later : Device) → new.is_on ≡ true → SameDevice new later → RestsToMount new first plan x → StandFound now new (first + plan.data_blocks) plan x → unwrap_or end 0 ≡ index_end plan x →
      RingsEnd first plan (DataRing ∷ var_rings plan) x rose later result t' last) → MountEnds first plan table rose device result t' last
  mount-then None now end result t' last is same outside h go =
      let none = planned-none (first + plan.data_blocks) plan (subst (λ (o : Option BitmapIndex). ArePlanned o (first + plan.data_blocks) plan) is planned.index) in
      let one : rings_of plan ≡ DataRing ∷ var_rings plan = ap (λ (b : Bool). (cond b (IndexRing ∷ []) []) ++ DataRing ∷ [] ++ var_rings plan) none in
      subst (λ (rings : List RingName). RingsEnd first plan rings table rose device result t' last) (sym one)
      (go table device (ap (λ (f : FlashState). f.is_on) h.2 ∙ watched.on) (subst (λ (f : FlashState). SameDevice f device) (sym h.2) watched.counts) (subst (λ (f : FlashState). RestsToMount f first plan table) (sym h.2) rests)
      (subst (λ (o : Option BitmapIndex). StandFound o new (first + plan.data_blocks) plan table) (sym h.1) tt) (none-ends end h.0 none))
  mount-then (Some index) None end result t' last is same outside h go = absurd h
  mount-then (Some index) (Some now) end result t' last is same outside h go =
      let Remembers = RemembersFound (memory.form_in index).full now in
      let m = h watched (planned_index index is outside) (rests_index index is outside) in
      let at_rest = index-mounts old new first plan table rose device (has index is outside) (some_pages index is outside) planned.log rests (same_rows index is outside) (same_var index is outside) Remembers end now m in
      let stands = subst (λ (full : Bool). StandsFoundBy full now new (first + plan.data_blocks) plan m.now.state) (sym same.full) m.stands in
      then-rows old new first plan table rose device (has index is outside) (some_pages index is outside) planned.log rests (same_rows index is outside) (same_var index is outside) Remembers end now m result t' last
      (go m.now.state m.now.device m.power m.counts at_rest stands (ap (λ (o : Option ℕ). unwrap_or o 0) m.answer))

  -- what it reads at most, where entries are full
  pub index-limit : (bitmaps : Option BitmapIndex) → t.bitmaps ≡ bitmaps → StandOutside bitmaps (page_at old) (page_at new) → IsIndexLimited bitmaps old (first + plan.data_blocks) plan table new → plan.full_index ≡ true →
      new.work.reads ≤ old.work.reads + mount_limit plan table
  index-limit None is outside few full = omega (arith, few)
  index-limit (Some index) is outside few full =
      let part = few (planned_index index is outside) (rests_index index is outside) full in
      omega (arith, part, index-within plan table (all_repaired plan (rings_of plan) table))

  -- .. and both
  pub limit-then : (bitmaps now : Option BitmapIndex) (end : Option ℕ) (last : FlashState) → t.bitmaps ≡ bitmaps → AreSamePlan bitmaps now → StandOutside bitmaps (page_at old) (page_at new) → MountEndsOf bitmaps old (first + plan.data_blocks) plan table rose device (Ok end) now new →
      IsIndexLimited bitmaps old (first + plan.data_blocks) plan table new → plan.full_index ≡ true →
      ((x : Table) (later : Device) → new.is_on ≡ true → SameDevice new later → RestsToMount new first plan x → StandFound now new (first + plan.data_blocks) plan x → unwrap_or end 0 ≡ index_end plan x →
      last.work.reads ≤ new.work.reads + (rows_mount_limit plan x (repaired plan DataRing x) + part_mount_limit (shape_of plan VarRing) x.var)) → last.work.reads ≤ old.work.reads + mount_limit plan table
  limit-then None now end last is same outside h few full go =
      let none = planned-none (first + plan.data_blocks) plan (subst (λ (o : Option BitmapIndex). ArePlanned o (first + plan.data_blocks) plan) is planned.index) in
      limit-bare plan table old.work.reads new.work.reads last.work.reads none few
      (go table device (ap (λ (f : FlashState). f.is_on) h.2 ∙ watched.on) (subst (λ (f : FlashState). SameDevice f device) (sym h.2) watched.counts) (subst (λ (f : FlashState). RestsToMount f first plan table) (sym h.2) rests)
      (subst (λ (o : Option BitmapIndex). StandFound o new (first + plan.data_blocks) plan table) (sym h.1) tt) (none-ends end h.0 none))
  limit-then (Some index) None end last is same outside h few full go = absurd h
  limit-then (Some index) (Some now) end last is same outside h few full go =
      let Remembers = RemembersFound (memory.form_in index).full now in
      let m = h watched (planned_index index is outside) (rests_index index is outside) in
      let at_rest = index-mounts old new first plan table rose device (has index is outside) (some_pages index is outside) planned.log rests (same_rows index is outside) (same_var index is outside) Remembers end now m in
      let stands = subst (λ (full : Bool). StandsFoundBy full now new (first + plan.data_blocks) plan m.now.state) (sym same.full) m.stands in
      limit-indexed plan table m.now.state old.work.reads new.work.reads last.work.reads (has index is outside) (done-repaired plan IndexRing table rose device m.now m.did m.whole)
      (few (planned_index index is outside) (rests_index index is outside) full) (go m.now.state m.now.device m.power m.counts at_rest stands (ap (λ (o : Option ℕ). unwrap_or o 0) m.answer))

-- what a mount of the data ring found, of a table of the same plan
shape_as : {KNOTS SLOTS : ℕ} (t t1 : code.Table KNOTS SLOTS) → IsSamePlan t t1 → ring_shape t1 ≡ ring_shape t
shape_as t t1 same = ap (λ (p : RingPlace). shape_at p t1.geometry) same.place ∙ ap (λ (g : Geometry). shape_at t.place g) same.geometry

reads_as : {KNOTS SLOTS : ℕ} (t t1 : code.Table KNOTS SLOTS) (bitmaps : Option BitmapIndex) (f new : FlashState) (least : ℕ) (ring : Ring) → IsSamePlan t t1 → ReadsRing t1 bitmaps f least ring new → ReadsRing t bitmaps f least ring new
reads_as t t1 bitmaps f new least ring same h = record {
  repaired = h.repaired;
  numbers = subst (λ (r : Shape). HasNumbers f r least ring h.repaired) (shape_as t t1 same) h.numbers;
  shape = h.shape ∙ shape_as t t1 same;
  within = h.within;
  reads = h.reads;
}

-- it comes to the same pages
comes_as : {KNOTS SLOTS : ℕ} (t t1 : code.Table KNOTS SLOTS) (bitmaps : Option BitmapIndex) (ring : Ring) (f : FlashState) → IsSamePlan t t1 → comes_in t1 bitmaps ring f ≡ comes_in t bitmaps ring f
comes_as t t1 bitmaps ring f same =
    ap (λ (l : RowLayout). come_of l (most_in t1.geometry.page l) bitmaps ring f) same.layout
    ∙ ap (λ (g : Geometry). come_of (layout_of t.schema) (most_in g.page (layout_of t.schema)) bitmaps ring f) same.geometry

data_as : {KNOTS SLOTS : ℕ} (t t1 : code.Table KNOTS SLOTS) (bitmaps : Option BitmapIndex) (f : FlashState) (least : ℕ) (ring : Ring) (mounted : Found) (last : Option ℕ) (end : ℕ) (new : FlashState) → IsSamePlan t t1 →
    FindsData t1 bitmaps f least ring mounted last end new → FindsData t bitmaps f least ring mounted last end new
data_as t t1 bitmaps f least ring mounted last end new same h =
    let pages = next_of ring - oldest_of ring in
    let comes = comes_as t t1 bitmaps ring new same in
    record {
      ring_reads = reads_as t t1 bitmaps f new least ring same h.ring_reads;
      fine = subst (λ (c : Come). mount_fault c ≡ None) comes h.fine;
      mounted_is = h.mounted_is ∙ ap (λ (c : Come). record { rows = rows_of (facts_on c) (oldest_of ring) pages; pages = pages; voids = voids_of (facts_on c) (oldest_of ring) pages }) comes;
      last_is = h.last_is ∙ ap (λ (c : Come). known_after c pages) comes;
      end_is = h.end_is ∙ ap (λ (c : Come). end_of (facts_on c) (oldest_of ring) pages) comes;
    }

pub finds-as : {KNOTS SLOTS : ℕ} (t t1 : code.Table KNOTS SLOTS) (bitmaps : Option BitmapIndex) (f : FlashState) (was least : ℕ) (mounted : Found) (now : code.Table KNOTS SLOTS) (new : FlashState) → FindsRows t1 bitmaps f was mounted now new → IsSamePlan t t1 →
    t1.blobs ≡ t.blobs → was ≡ least → FindsRows t bitmaps f least mounted now new
finds-as t t1 bitmaps f was least mounted now new h same blobs e = subst (λ (n : ℕ). FindsRows t bitmaps f n mounted now new) e (record {
  plan = same-then t t1 now same h.plan;
  ring = h.ring;
  ring_is = h.ring_is;
  end = h.end;
  between = h.between;
  pages = data_as t t1 bitmaps f was h.ring mounted now.last_key h.end h.between same h.pages;
  waits = subst (λ (c : Come). WaitUnlisted c (pages_of h.ring h.between) bitmaps was (next_of h.ring) now.bitmaps) (comes_as t t1 bitmaps h.ring h.between same) h.waits;
  firsts = h.firsts;
  empty = h.empty;
  learned = subst (λ (c : Come). HasLearned (error_in t.index) c now) (comes_as t t1 bitmaps h.ring h.between same)
      (subst (λ error. HasLearned error (comes_in t1 bitmaps h.ring h.between) now) same.error h.learned);
  counts = h.counts;
  blobs = subst (λ (o : Option VarData). FindsBlobs o h.between (least_of h.end) now.blobs new) blobs h.blobs;
  below = h.below;
})

bad_page_as : {KNOTS SLOTS : ℕ} (t t1 : code.Table KNOTS SLOTS) (bitmaps : Option BitmapIndex) (f : FlashState) (least : ℕ) (fault : MountFault) (new : FlashState) → IsSamePlan t t1 → HasBadPage t1 bitmaps f least fault new → HasBadPage t bitmaps f least fault new
bad_page_as t t1 bitmaps f least fault new same h = record {
  ring = h.ring;
  ring_reads = reads_as t t1 bitmaps f new least h.ring same h.ring_reads;
  refused = subst (λ (c : Come). mount_fault c ≡ Some fault) (comes_as t t1 bitmaps h.ring new same) h.refused;
}

refuses_as : {KNOTS SLOTS : ℕ} (t t1 : code.Table KNOTS SLOTS) (bitmaps : Option BitmapIndex) (f : FlashState) (least : ℕ) (fault : MountFault) (new : FlashState) → IsSamePlan t t1 → RefusesData t1 bitmaps f least fault new → RefusesData t bitmaps f least fault new
unfolding reads_as
refuses_as t t1 bitmaps f least (mount.Flash fault) new same (inl h) = inl (subst (λ (r : Shape). FailsAs f r least (ring.Flash fault) new) (shape_as t t1 same) h)
refuses_as t t1 bitmaps f least (mount.Flash fault) new same (inr h) = inr (record { ring = h.ring; ring_reads = reads_as t t1 bitmaps f new least h.ring same h.ring_reads; fails = h.fails })
refuses_as t t1 bitmaps f least (mount.Ring fault) new same h = record {
  found = subst (λ (r : Shape). FoundFault f r least fault) (shape_as t t1 same) h.found;
  reads = subst (λ (r : Shape). OnlyReads f (search_reads r) new) (shape_as t t1 same) h.reads;
}
refuses_as t t1 bitmaps f least (mount.BadPage bad) new same h = bad_page_as t t1 bitmaps f least (mount.BadPage bad) new same h
refuses_as t t1 bitmaps f least (mount.BadKeys page last first) new same h = bad_page_as t t1 bitmaps f least (mount.BadKeys page last first) new same h
refuses_as t t1 bitmaps f least (mount.BadIndex end next) new same h = record {
  ring = h.ring;
  numbers = subst (λ (r : Shape). HasNumbers f r least h.ring new) (shape_as t t1 same) h.numbers;
  end_is = h.end_is;
  next_is = h.next_is;
  beyond = h.beyond;
}
refuses_as t t1 bitmaps f least (mount.BadBlob page next) new same h = h
refuses_as t t1 bitmaps f least (mount.BadEntry page count limit) new same h = bad_page_as t t1 bitmaps f least (mount.BadEntry page count limit) new same h

pub refuses-by : {KNOTS SLOTS : ℕ} (t t1 : code.Table KNOTS SLOTS) (bitmaps : Option BitmapIndex) (f : FlashState) (was least : ℕ) (fault : MountFault) (new : FlashState) → RefusesRows t1 bitmaps f was fault new → IsSamePlan t t1 → t1.blobs ≡ t.blobs → was ≡ least → RefusesRows t bitmaps f least fault new
refuses-by t t1 bitmaps f was least fault new h same blobs e = subst (λ (n : ℕ). RefusesRows t bitmaps f n fault new) e (by_part h)
  where
    by_part : RefusesRows t1 bitmaps f was fault new → RefusesRows t bitmaps f was fault new
    by_part (inl h) = inl (refuses_as t t1 bitmaps f was fault new same h)
    by_part (inr b) = inr (record {
      ring = b.ring;
      mounted = b.mounted;
      last = b.last;
      end = b.end;
      between = b.between;
      pages = data_as t t1 bitmaps f was b.ring b.mounted b.last b.end b.between same b.pages;
      why = subst (λ (o : Option VarData). RefusesWithin o b.between b.end fault new) blobs b.why;
    })
