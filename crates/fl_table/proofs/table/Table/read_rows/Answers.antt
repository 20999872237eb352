use Rattle.std.proofs.Common.{◌≡◌, ◌+◌, ◌*◌, ◌-◌, ◌≤◌, ℕ, List, Ok, Err, length, arith, refl, sym, ◌∙◌, ap, subst, IsTrue, Result}
use Rattle.std.proofs.lemmas.Result.{err_from_is_err_and}
use Rattle.fl_find.specs.Index.{error_in}
use Rattle.fl_model.specs.MountLimit.{repaired}
use Rattle.fl_model.specs.Table.{DataRing}
use Rattle.fl_parts.proofs.BlobsOfTable as blobbing
use Rattle.fl_parts.proofs.IndexOfTable.{lies-goes, none-is, none-there, still-few}
use Rattle.fl_parts.proofs.Sizes.{index-fits}
use Rattle.fl_parts.proofs.Untouched.{no-success}
use Rattle.fl_parts.specs.Knowing.{KnowsWith}
use Rattle.fl_ring.specs.Mounting.{shape_at}
use Rattle.fl_ring.specs.Place.{next_of, oldest_of, shape_of}
use Rattle.fl_ring.specs.Ring.{room}
use Rattle.fl_ring.specs.declared.fault.RingFault.{RingFault}
use Rattle.fl_ring.specs.declared.ring.Ring.{Ring}
use Rattle.fl_ring.proofs.Exists.{lies_still}
use Rattle.fl_table.proofs.MountCalls.{same-shape, index-still, refuses-ring, refuses-end, refuses-page, finds-data, finds-firsts, learns, same-waits}
use Rattle.fl_parts.proofs.MountParts.{ring-cause, pages-cause}
use Rattle.fl_table.proofs.MountEnded.{mounting-of, ring-fails, ring-ends, ring-mounts, ends-within}
use Rattle.fl_table.proofs.MountKept.{kept-fails, kept-limit, kept-well, ring-limit}
use Rattle.fl_parts.proofs.MountLimits.{rows-within}
use Rattle.fl_table.proofs.MountReads.{kept-room}
use Rattle.fl_table.proofs.PagesInTable.{few-in, knows-in, refused-in, waits-in}
use Rattle.fl_table.proofs.RowsLeft.{leaves-read, leaves-ring}
use Rattle.fl_table.proofs.SealAnswers.{lies-size, plan-self, planned-ring, written-back}
use Rattle.fl_table.specs.Mounting.{comes_in}
use Rattle.fl_table.proofs.table.Table.read_rows.Goals as goal

-- the ring was refused
pub returns-in_err-ring-clause-ends : goal.returns-in_err-ring-clause-ends
returns-in_err-ring-clause-ends g c = λ first plan table rose device watched planned rests stands end.
    let t = c.args.self.now in
    let old = g.F.Flash.state c.args.flash.now in
    let new = g.F.Flash.state c.mount.new.flash in
    let lies = c.requires.lies in
    let ensures = c.in_err-ring.ensures.mounts in
    let goes = ensures.beside.goes in
    let is = mounting-of t old first plan table planned lies.geometry lies.within (g.met.F.Flash.reaches c.args.flash.now) rests in
    let sizes = lies-size t new first plan planned (goes.geometry ∙ lies.geometry) (omega (arith, goes.blocks, lies.within)) (g.met.F.Flash.reaches c.mount.new.flash) in
    let at = same-shape t t old (plan-self t) lies.geometry ∙ planned-ring t first plan planned in
    let still = index-still t old new first plan planned lies.geometry (ensures.beside.outside watched.told) in
    let p = err_from_is_err_and c.from_residual.result c.from_residual.ensures.1 in
    rw (p.1, p.2) (ring-fails first plan table rose device old is c.in_err-ring.field-0.0 t new sizes still
    (ring-ends first plan table rose device old is (shape_at t.place old.geometry) at c.args.end end new (Err c.in_err-ring.field-0.0) ensures.ends watched))

pub returns-in_err-ring-clause-refused : goal.returns-in_err-ring-clause-refused
returns-in_err-ring-clause-refused g c =
    let t = c.args.self.now in
    let old = g.F.Flash.state c.args.flash.now in
    let new = g.F.Flash.state c.mount.new.flash in
    let mounts = c.in_err-ring.ensures.mounts in
    let p = err_from_is_err_and c.from_residual.result c.from_residual.ensures.1 in
    rw (p.1, p.2) (record {
      refused = λ told. refuses-ring t t t.bitmaps old new c.args.end c.in_err-ring.field-0.0 (plan-self t) c.requires.lies.geometry mounts.fault mounts.fails;
      cause = ring-cause old new c.in_err-ring.field-0.0 mounts.cause;
    })

pub returns-in_err-ring-clause-leaves : goal.returns-in_err-ring-clause-leaves
returns-in_err-ring-clause-leaves g c = leaves-ring c.args.self.now (g.F.Flash.state c.args.flash.now) (g.F.Flash.state c.mount.new.flash) c.requires.forgotten c.requires.lies c.in_err-ring.ensures.mounts.beside c.requires.running

pub returns-in_err-ring-clause-buffer : goal.returns-in_err-ring-clause-buffer
returns-in_err-ring-clause-buffer g c = record { room = c.in_err-ring.ensures.room; holds = c.in_err-ring.ensures.holds }

pub returns-in_err-ring-clause-found : goal.returns-in_err-ring-clause-found
returns-in_err-ring-clause-found g c = no-success _ _ c.from_residual.result c.from_residual.ensures.1

pub returns-in_err-ring-clause-limit : goal.returns-in_err-ring-clause-limit
returns-in_err-ring-clause-limit g c = λ first plan table rose device watched planned rests stands end full.
    let t = c.args.self.now in
    let old = g.F.Flash.state c.args.flash.now in
    let few = ring-limit t first plan table old (g.F.Flash.state c.mount.new.flash) planned rests c.requires.lies (g.met.F.Flash.reaches c.args.flash.now) (λ s on. c.in_err-ring.ensures.mounts.reads s watched.told on) in
    omega (arith, few, rows-within plan table (repaired plan DataRing table))

-- the index ends behind it
pub returns-then-end-next-clause-ends : goal.returns-then-end-next-clause-ends
returns-then-end-next-clause-ends g c = λ first plan table rose device watched planned rests stands end.
    let t = c.args.self.now in
    let old = g.F.Flash.state c.args.flash.now in
    let mid = g.F.Flash.state c.mount.new.flash in
    let ring = c.in_ok-ring.ring in
    let lies = c.requires.lies in
    let is = mounting-of t old first plan table planned lies.geometry lies.within (g.met.F.Flash.reaches c.args.flash.now) rests in
    let at = same-shape t t old (plan-self t) lies.geometry ∙ planned-ring t first plan planned in
    let l = ring-mounts first plan table rose device old is ring mid
    (ring-ends first plan table rose device old is (shape_at t.place old.geometry) at c.args.end end mid (Ok ring) c.in_ok-ring.ensures.mounts.ends watched) in
    absurd (omega (arith, ends-within first plan table rose device old is ring mid l c.args.end end, c.if-end-next.true, c.next_number-next.ensures))

pub returns-then-end-next-clause-refused : goal.returns-then-end-next-clause-refused
returns-then-end-next-clause-refused g c =
    let t = c.args.self.now in
    record {
      refused = λ told.
          refuses-end t t t.bitmaps (g.F.Flash.state c.args.flash.now) (g.F.Flash.state c.mount.new.flash) c.args.end c.next_number-next.result c.in_ok-ring.ring (plan-self t) c.requires.lies.geometry c.in_ok-ring.ensures.mounts.found c.next_number-next.ensures (omega (arith, c.if-end-next.true));
      cause = tt;
    }

pub returns-then-end-next-clause-leaves : goal.returns-then-end-next-clause-leaves
returns-then-end-next-clause-leaves g c = leaves-ring c.args.self.now (g.F.Flash.state c.args.flash.now) (g.F.Flash.state c.mount.new.flash) c.requires.forgotten c.requires.lies c.in_ok-ring.ensures.mounts.beside c.requires.running

pub returns-then-end-next-clause-buffer : goal.returns-then-end-next-clause-buffer
returns-then-end-next-clause-buffer g c = record { room = c.in_ok-ring.ensures.room; holds = c.in_ok-ring.ensures.holds }

pub returns-then-end-next-clause-found : goal.returns-then-end-next-clause-found
returns-then-end-next-clause-found g c = tt

pub returns-then-end-next-clause-limit : goal.returns-then-end-next-clause-limit
returns-then-end-next-clause-limit g c = λ first plan table rose device watched planned rests stands end full.
    let t = c.args.self.now in
    let old = g.F.Flash.state c.args.flash.now in
    let few = ring-limit t first plan table old (g.F.Flash.state c.mount.new.flash) planned rests c.requires.lies (g.met.F.Flash.reaches c.args.flash.now) (λ s on. c.in_ok-ring.ensures.mounts.reads s watched.told on) in
    omega (arith, few, rows-within plan table (repaired plan DataRing table))

not-ok : (ring : Ring) (e : RingFault) → ◌≡◌ {A = Result Ring RingFault} (Ok ring) (Err e) → ⊥
not-ok ring e is = cc

pub returns-then-end-next-clause-off : goal.returns-then-end-next-clause-off
returns-then-end-next-clause-off g c = λ down. absurd (not-ok _ _ (c.in_ok-ring.ensures.mounts.off down).0)

pub returns-in_err-known-clause-off : goal.returns-in_err-known-clause-off
returns-in_err-known-clause-off g c = λ down. absurd (not-ok _ _ (c.in_ok-ring.ensures.mounts.off down).0)

pub returns-clause-off : goal.returns-clause-off
returns-clause-off g c = λ down. absurd (not-ok _ _ (c.in_ok-ring.ensures.mounts.off down).0)

-- the kept pages are read
pub read_kept-requires : goal.read_kept-requires
read_kept-requires g c =
    let t = c.args.self.now in
    let old = g.F.Flash.state c.args.flash.now in
    let mid = g.F.Flash.state c.mount.new.flash in
    let mounts = c.in_ok-ring.ensures.mounts in
    let goes = mounts.beside.goes in
    let shape : shape_of c.in_ok-ring.ring ≡ shape_at t.place t.geometry = mounts.shape ∙ same-shape t t old (plan-self t) c.requires.lies.geometry in
    let large : t.counts.len ≡ t.place.blocks * t.geometry.block = t.counted in
    let begin : length c.deref_mut.result.now ≡ t.place.blocks * t.geometry.block = ap length c.deref_mut.ensures.value ∙ (sym t.counts.ok.0 ∙ large) in
    let kept : IsTrue mid.media.tells → next_of c.in_ok-ring.ring - oldest_of c.in_ok-ring.ring ≤ t.place.blocks * t.geometry.block = λ told.
    kept-room t t old mid (plan-self t) c.requires.lies.geometry c.args.end c.in_ok-ring.ring mounts.found (subst IsTrue goes.tells told) in
    let end : c.args.end ≤ next_of c.in_ok-ring.ring = omega (arith, c.if-end-next.false, c.next_number-next.ensures) in
    let buffer = c.in_ok-ring.ensures.room ∙ (c.requires.room ∙ sym (ap (λ g. g.page) goes.geometry)) in (
      index-fits g.row.KNOTS g.row.SLOTS t.few_knots t.few_slots,
      (
        t.some_row,
        (
          mounts.lies,
          (
            lies-goes t.bitmaps old mid goes c.requires.lies.bitmaps,
            (c.requires.running, (c.requires.idle, (buffer, (c.in_ok-ring.ensures.holds, (begin ∙ sym (ap room shape), (λ told. omega (arith, begin, kept told), (end, c.requires.forgotten.index))))))),
          ),
        ),
      ),
    )

pub returns-in_err-known-clause-ends : goal.returns-in_err-known-clause-ends
returns-in_err-known-clause-ends g c = λ first plan table rose device watched planned rests stands end.
    let t = c.args.self.now in
    let old = g.F.Flash.state c.args.flash.now in
    let mid = g.F.Flash.state c.mount.new.flash in
    let new = g.F.Flash.state c.read_kept.new.flash in
    let ring = c.in_ok-ring.ring in
    let mounts = c.in_ok-ring.ensures.mounts in
    let kept = c.in_err-known.ensures in
    let size = mounts.beside.goes.geometry ∙ c.requires.lies.geometry in
    let told = subst IsTrue (sym mounts.beside.goes.tells) watched.told in
    let p = err_from_is_err_and c.from_residual-in_err-known.result c.from_residual-in_err-known.ensures.1 in
    rw (p.1, p.2) (kept-fails t first plan table rose device old mid new ring _ c.args.end watched planned rests stands end c.requires.lies
    (g.met.F.Flash.reaches c.args.flash.now) (g.met.F.Flash.reaches c.mount.new.flash) (g.met.F.Flash.reaches c.read_kept.new.flash) mounts.beside.goes (mounts.beside.outside watched.told) mounts.shape mounts.ends kept.leaves.reads
    _ c.in_err-known.field-0.0 kept.refused.only kept.refused.fails (refused-in t ring mid size c.in_err-known.field-0.0 (kept.refused.refused told)))

pub returns-in_err-known-clause-refused : goal.returns-in_err-known-clause-refused
returns-in_err-known-clause-refused g c =
    let t = c.args.self.now in
    let old = g.F.Flash.state c.args.flash.now in
    let mid = g.F.Flash.state c.mount.new.flash in
    let new = g.F.Flash.state c.read_kept.new.flash in
    let ring = c.in_ok-ring.ring in
    let mounts = c.in_ok-ring.ensures.mounts in
    let kept = c.in_err-known.ensures in
    let size = mounts.beside.goes.geometry ∙ c.requires.lies.geometry in
    let p = err_from_is_err_and c.from_residual-in_err-known.result c.from_residual-in_err-known.ensures.1 in
    rw (p.1, p.2) (record {
      refused = λ told.
          refuses-page t t old mid new _ (plan-self t) c.requires.lies.geometry kept.leaves.reads t.bitmaps ring c.args.end mounts.found mounts.shape (omega (arith, c.if-end-next.false, c.next_number-next.ensures)) refl c.in_err-known.field-0.0
          kept.refused.only kept.refused.fails (refused-in t ring mid size c.in_err-known.field-0.0 (kept.refused.refused (subst IsTrue (sym mounts.beside.goes.tells) told)));
      cause = pages-cause old mid new mounts.beside.goes mounts.power c.in_err-known.field-0.0 kept.refused.only kept.refused.fails;
    })

pub returns-in_err-known-clause-leaves : goal.returns-in_err-known-clause-leaves
returns-in_err-known-clause-leaves g c =
    let t = c.args.self.now in
    let old = g.F.Flash.state c.args.flash.now in
    let mid = g.F.Flash.state c.mount.new.flash in
    let new = g.F.Flash.state c.read_kept.new.flash in
    let ring = c.in_ok-ring.ring in
    let mounts = c.in_ok-ring.ensures.mounts in
    leaves-read t old mid c.requires.forgotten c.requires.lies mounts.beside _ new ring c.args.end mounts.found c.in_err-known.ensures.leaves
    (record { geometry = refl; layout = refl; place = refl; buckets = refl; error = c.in_err-known.ensures.error; bitmaps = c.in_err-known.ensures.leaves.same; blobs = blobbing.plan-same t.blobs; limit = refl }) (record { ring = refl; stopped = refl; writer = refl; bitmap = refl; blob_end = refl; blobs = refl })

pub returns-in_err-known-clause-buffer : goal.returns-in_err-known-clause-buffer
returns-in_err-known-clause-buffer g c = record { room = c.in_err-known.ensures.room ∙ c.in_ok-ring.ensures.room; holds = c.in_err-known.ensures.none }

pub returns-in_err-known-clause-limit : goal.returns-in_err-known-clause-limit
returns-in_err-known-clause-limit g c = λ first plan table rose device watched planned rests stands end full.
    let t = c.args.self.now in
    let old = g.F.Flash.state c.args.flash.now in
    let mid = g.F.Flash.state c.mount.new.flash in
    let new = g.F.Flash.state c.read_kept.new.flash in
    let ring = c.in_ok-ring.ring in
    let mounts = c.in_ok-ring.ensures.mounts in
    let kept = c.in_err-known.ensures in
    let size = mounts.beside.goes.geometry ∙ c.requires.lies.geometry in
    let told = subst IsTrue (sym mounts.beside.goes.tells) watched.told in
    kept-limit t first plan table rose device old mid new ring _ c.args.end watched planned rests stands end c.requires.lies
    (g.met.F.Flash.reaches c.args.flash.now) (g.met.F.Flash.reaches c.mount.new.flash) (g.met.F.Flash.reaches c.read_kept.new.flash) mounts.beside.goes (mounts.beside.outside watched.told) mounts.shape mounts.ends kept.leaves.reads
    full (ring-limit t first plan table old mid planned rests c.requires.lies (g.met.F.Flash.reaches c.args.flash.now) (λ s on. mounts.reads s watched.told on)) (few-in t ring mid size _ _ (kept.few_reads told))

pub returns-clause-leaves : goal.returns-clause-leaves
returns-clause-leaves g c =
    let t = c.args.self.now in
    let old = g.F.Flash.state c.args.flash.now in
    let mid = g.F.Flash.state c.mount.new.flash in
    let new = g.F.Flash.state c.read_kept.new.flash in
    let ring = c.in_ok-ring.ring in
    let mounts = c.in_ok-ring.ensures.mounts in
    leaves-read t old mid c.requires.forgotten c.requires.lies mounts.beside _ new ring c.args.end mounts.found c.in_ok-known.ensures.leaves
    (record { geometry = refl; layout = refl; place = refl; buckets = refl; error = c.in_ok-known.ensures.error; bitmaps = c.in_ok-known.ensures.leaves.same; blobs = blobbing.plan-same t.blobs; limit = refl }) (record { ring = refl; stopped = refl; writer = refl; bitmap = refl; blob_end = refl; blobs = refl })

pub returns-clause-buffer : goal.returns-clause-buffer
returns-clause-buffer g c = record { room = c.in_ok-known.ensures.room ∙ c.in_ok-ring.ensures.room; holds = c.in_ok-known.ensures.none }

pub returns-clause-limit : goal.returns-clause-limit
returns-clause-limit g c = λ first plan table rose device watched planned rests stands end full.
    let t = c.args.self.now in
    let old = g.F.Flash.state c.args.flash.now in
    let mid = g.F.Flash.state c.mount.new.flash in
    let new = g.F.Flash.state c.read_kept.new.flash in
    let ring = c.in_ok-ring.ring in
    let mounts = c.in_ok-ring.ensures.mounts in
    let kept = c.in_ok-known.ensures in
    let size = mounts.beside.goes.geometry ∙ c.requires.lies.geometry in
    let told = subst IsTrue (sym mounts.beside.goes.tells) watched.told in
    kept-limit t first plan table rose device old mid new ring _ c.args.end watched planned rests stands end c.requires.lies
    (g.met.F.Flash.reaches c.args.flash.now) (g.met.F.Flash.reaches c.mount.new.flash) (g.met.F.Flash.reaches c.read_kept.new.flash) mounts.beside.goes (mounts.beside.outside watched.told) mounts.shape mounts.ends kept.leaves.reads
    full (ring-limit t first plan table old mid planned rests c.requires.lies (g.met.F.Flash.reaches c.args.flash.now) (λ s on. mounts.reads s watched.told on)) (few-in t ring mid size _ _ (kept.few_reads told))

pub returns-in_err-known-clause-found : goal.returns-in_err-known-clause-found
returns-in_err-known-clause-found g c = no-success _ _ c.from_residual-in_err-known.result c.from_residual-in_err-known.ensures.1

-- all were read
pub returns-clause-ends : goal.returns-clause-ends
returns-clause-ends g c = λ first plan table rose device watched planned rests stands end.
    let t = c.args.self.now in
    let old = g.F.Flash.state c.args.flash.now in
    let mid = g.F.Flash.state c.mount.new.flash in
    let new = g.F.Flash.state c.read_kept.new.flash in
    let ring = c.in_ok-ring.ring in
    let mounts = c.in_ok-ring.ensures.mounts in
    let kept = c.in_ok-known.ensures in
    let size = mounts.beside.goes.geometry ∙ c.requires.lies.geometry in
    let come = comes_in t t.bitmaps ring mid in
    let back = written-back t.counts.items c.read_kept.new.counts t.counts.len (kept.size ∙ ap length c.deref_mut.ensures.value) t.counts.ok.0 in
    let known = λ (told : IsTrue mid.media.tells). subst (λ (cs : List ℕ). KnowsWith (error_in t.index) come come.index_pages come.pages c.in_ok-known.known cs c.read_kept.new.index) (sym back) (knows-in t ring mid size (error_in t.index) c.in_ok-known.known c.read_kept.new.counts c.read_kept.new.index (kept.knows told)) in
    let told = subst IsTrue (sym mounts.beside.goes.tells) watched.told in
    let forgotten = c.requires.forgotten in
    let next : c.next_number-next.result ≡ next_of ring = c.next_number-next.ensures in
    let oldest : c.oldest.result ≡ oldest_of ring = c.oldest.ensures in
    rw (next, oldest) (kept-well t first plan table rose device old mid new ring _ c.args.end watched planned rests stands end c.requires.lies
    (g.met.F.Flash.reaches c.args.flash.now) (g.met.F.Flash.reaches c.mount.new.flash) (g.met.F.Flash.reaches c.read_kept.new.flash) mounts.beside.goes (mounts.beside.outside watched.told) mounts.shape mounts.ends kept.leaves.reads
    _ c.in_ok-known.known (record { geometry = refl; layout = refl; place = refl; buckets = refl; error = c.in_ok-known.ensures.error; bitmaps = c.in_ok-known.ensures.leaves.same; blobs = blobbing.plan-same t.blobs; limit = refl }) forgotten.empty forgotten.bits forgotten.ends refl refl
    kept.found.counted (known told) (λ x h. kept.found.stands (first + plan.data_blocks) plan x told h) (waits-in t ring mid size c.args.end (next_of ring) c.read_kept.new.bitmaps (kept.found.waits told)))

pub returns-clause-found : goal.returns-clause-found
returns-clause-found g c =
    let t = c.args.self.now in
    let old = g.F.Flash.state c.args.flash.now in
    let mid = g.F.Flash.state c.mount.new.flash in
    let new = g.F.Flash.state c.read_kept.new.flash in
    let ring = c.in_ok-ring.ring in
    let mounts = c.in_ok-ring.ensures.mounts in
    let kept = c.in_ok-known.ensures in
    let size = mounts.beside.goes.geometry ∙ c.requires.lies.geometry in
    let come = comes_in t t.bitmaps ring mid in
    let back = written-back t.counts.items c.read_kept.new.counts t.counts.len (kept.size ∙ ap length c.deref_mut.ensures.value) t.counts.ok.0 in
    let known = λ (told : IsTrue mid.media.tells). subst (λ (cs : List ℕ). KnowsWith (error_in t.index) come come.index_pages come.pages c.in_ok-known.known cs c.read_kept.new.index) (sym back) (knows-in t ring mid size (error_in t.index) c.in_ok-known.known c.read_kept.new.counts c.read_kept.new.index (kept.knows told)) in
    let lies = c.requires.lies in
    let goes = mounts.beside.goes in
    let still = λ (told : IsTrue old.media.tells). subst IsTrue (sym goes.tells) told in
    let within : c.args.end ≤ next_of ring = omega (arith, c.if-end-next.false, c.next_number-next.ensures) in
    let next : c.next_number-next.result ≡ next_of ring = c.next_number-next.ensures in
    let oldest : c.oldest.result ≡ oldest_of ring = c.oldest.ensures in
    rw (next, oldest) (record {
      shape = mounts.shape ∙ same-shape t t old (plan-self t) lies.geometry;
      follow = kept.found.follow;
      lies = lies_still ring mid new mounts.lies kept.leaves.reads.goes;
      power = λ on. kept.leaves.reads.power ∙ mounts.power;
      found = λ told. finds-data t t old mid new _ (plan-self t) c.requires.lies.geometry kept.leaves.reads t.bitmaps ring c.args.end mounts.found mounts.shape within refl (error_in t.index) c.in_ok-known.known _ c.read_kept.new.index kept.found.counted (known (still told));
      learned = λ told. learns t t old mid new _ (plan-self t) c.requires.lies.geometry kept.leaves.reads t.bitmaps ring c.args.end mounts.found mounts.shape within refl (error_in t.index) c.in_ok-known.known _ c.read_kept.new.index kept.found.counted (known (still told));
      waits = λ told. same-waits t t old mid new _ (plan-self t) c.requires.lies.geometry kept.leaves.reads t.bitmaps ring c.args.end mounts.found mounts.shape within refl c.args.end (next_of ring) c.read_kept.new.bitmaps (waits-in t ring mid size c.args.end (next_of ring) c.read_kept.new.bitmaps (kept.found.waits (still told)));
      remembers = λ told.
          finds-firsts t t old mid new _ (plan-self t) c.requires.lies.geometry kept.leaves.reads t.bitmaps ring c.args.end mounts.found mounts.shape within refl (error_in t.index) c.in_ok-known.known _ c.read_kept.new.index c.read_kept.new.bitmaps kept.found.counted (known (still told))
          (c.requires.few told) (kept.found.remembers (still told));
    })

pub returns-clause-refused : goal.returns-clause-refused
returns-clause-refused g c = tt

pub invariant_of-self : goal.invariant_of-self
invariant_of-self g c =
    let t = c.args.self.now in
    record {
      few_knots = t.few_knots;
      few_slots = t.few_slots;
      served = t.served;
      some_blocks = t.some_blocks;
      few_blocks = t.few_blocks;
      some_columns = t.some_columns;
      few_columns = t.few_columns;
      some_row = t.some_row;
      room_for_row = t.room_for_row;
      has_blobs = t.has_blobs;
      blobs_fit = t.blobs_fit;
      page = t.page;
      rows_end = t.rows_end;
      rows_room = t.rows_room;
      blank_rest = t.blank_rest;
      counted = t.counted;
      lies = t.lies;
      left = t.left;
      few_pages = still-few (t.place.blocks * t.geometry.block + 6) t.bitmaps c.read_kept.new.bitmaps c.in_err-known.ensures.leaves.same t.few_pages;
      running = λ is. absurd (none-is t.ring c.requires.forgotten.down is);
      follow = λ ring is. absurd (none-there t.ring ring c.requires.forgotten.down is);
      pages_left = λ some. absurd (omega (arith, some, c.requires.forgotten.none));
      blobs_running = λ is. absurd (none-is t.ring c.requires.forgotten.down is);
      blobs_left = λ is. absurd (none-is t.ring c.requires.forgotten.down is);
    }

pub invariant_of-self-2 : goal.invariant_of-self-2
invariant_of-self-2 g c =
    let t = c.args.self.now in
    record {
      few_knots = t.few_knots;
      few_slots = t.few_slots;
      served = t.served;
      some_blocks = t.some_blocks;
      few_blocks = t.few_blocks;
      some_columns = t.some_columns;
      few_columns = t.few_columns;
      some_row = t.some_row;
      room_for_row = t.room_for_row;
      has_blobs = t.has_blobs;
      blobs_fit = t.blobs_fit;
      page = t.page;
      rows_end = t.rows_end;
      rows_room = t.rows_room;
      blank_rest = t.blank_rest;
      counted = t.counted;
      lies = t.lies;
      left = t.left;
      few_pages = still-few (t.place.blocks * t.geometry.block + 6) t.bitmaps c.read_kept.new.bitmaps c.in_ok-known.ensures.leaves.same t.few_pages;
      running = λ is. absurd (none-is t.ring c.requires.forgotten.down is);
      follow = λ ring is. absurd (none-there t.ring ring c.requires.forgotten.down is);
      pages_left = λ some. absurd (omega (arith, some, c.requires.forgotten.none));
      blobs_running = λ is. absurd (none-is t.ring c.requires.forgotten.down is);
      blobs_left = λ is. absurd (none-is t.ring c.requires.forgotten.down is);
    }

pub mount-requires-clause-blocks : goal.mount-requires-clause-blocks
mount-requires-clause-blocks g c = c.args.self.now.some_blocks

pub mount-requires-clause-lies : goal.mount-requires-clause-lies
mount-requires-clause-lies g c = c.requires.lies.within

pub mount-requires-clause-few : goal.mount-requires-clause-few
mount-requires-clause-few g c = c.requires.lies.few

pub mount-requires-clause-room : goal.mount-requires-clause-room
mount-requires-clause-room g c = c.requires.room
