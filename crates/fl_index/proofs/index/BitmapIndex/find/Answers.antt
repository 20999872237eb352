use Rattle.std.proofs.Common.{◌+◌, ◌-◌, ◌≤◌, false, None, Ok, Err, arith, refl, sym, ◌∙◌, ap, subst}
use Rattle.std.proofs.lemmas.Option.{same_Some}
use Rattle.std.proofs.lemmas.Result.{err_from_is_err_and}
use Rattle.fl_base.specs.declared.types.Geometry.{Geometry}
use Rattle.fl_base.specs.declared.types.RingPlace.{RingPlace}
use Rattle.fl_base.proofs.Tests.{none_from}
use Rattle.fl_flash.specs.Flash.{page_at}
use Rattle.fl_ring.specs.Mounting.{shape_at, search_reads}
use Rattle.fl_ring.specs.Place.{next_of, oldest_of, shape_of}
use Rattle.fl_ring.specs.declared.ring.Ring.{Ring}
use Rattle.fl_ring.specs.Repairing.{Beside}
use Rattle.fl_ring.specs.Ring.{Shape, place, OnRing}
use Rattle.fl_index.specs.Headers.{IsNewest, kept_page}
use Rattle.fl_index.specs.Memory.{oldest_in, per_page}
use Rattle.fl_index.specs.Page.{newest_of}
use Rattle.fl_index.specs.Standing.{RemembersBelow}
use Rattle.fl_index.proofs.HeaderPages.{newest-header}
use Rattle.fl_index.proofs.Lies.{lies-later, no-ring, this-ring}
use Rattle.fl_index.proofs.Memories.{planned-same}
use Rattle.fl_index.proofs.MountCalls.{same-shape, refuses-ring, refuses-end, finds-end}
use Rattle.fl_index.proofs.MountEnded.{mounting-of, limit-is, ring-fails, ring-ends, ring-mounts, no-bad-end, finds-well, end-is, bad-end}
use Rattle.fl_index.proofs.SealEnds.{planned-ring, lies-size}
use Rattle.fl_flash.specs.declared.flash.FlashFault.TheVariants.{PowerLost}
use Rattle.fl_ring.specs.declared.fault.RingFault.TheVariants.{Flash}
use Rattle.fl_ring.proofs.Mounts.{err_as}
use Rattle.fl_index.proofs.index.BitmapIndex.find.Goals as goal

pub returns-in_err-ring-clause-ends : goal.returns-in_err-ring-clause-ends
returns-in_err-ring-clause-ends g c = λ first plan table rose device watched planned rests.
    let t = c.args.self.now in
    let t1 = c.forget.new.self in
    let old = g.F.Flash.state c.args.flash.now in
    let new = g.F.Flash.state c.mount_with_newest.new.flash in
    let lies = c.requires.lies in
    let mounts = c.in_err-ring.ensures.mounts in
    let goes = mounts.beside.goes in
    let is = mounting-of t old first plan table planned lies (g.met.F.Flash.reaches c.args.flash.now) rests in
    let sizes = lies-size t new first plan planned (goes.geometry ∙ lies.geometry) (omega (arith, goes.blocks, lies.within)) (g.met.F.Flash.reaches c.mount_with_newest.new.flash) in
    let at = same-shape t t1 old c.forget.ensures.same lies.geometry ∙ planned-ring t first plan planned in
    let p = err_from_is_err_and c.from_residual.result c.from_residual.ensures.1 in
    rw (p.1, p.2) (ring-fails first plan table rose device old is (RemembersBelow (oldest_in t1)) c.in_err-ring.field-0.0 t1 new sizes
    (ring-ends first plan table rose device old is (shape_at t1.place old.geometry) at new (Err c.in_err-ring.field-0.0) mounts.ends watched))

pub returns-in_err-ring-clause-refused : goal.returns-in_err-ring-clause-refused
returns-in_err-ring-clause-refused g c =
    let t = c.args.self.now in
    let t1 = c.forget.new.self in
    let old = g.F.Flash.state c.args.flash.now in
    let new = g.F.Flash.state c.mount_with_newest.new.flash in
    let lies = c.requires.lies in
    let mounts = c.in_err-ring.ensures.mounts in
    let p = err_from_is_err_and c.from_residual.result c.from_residual.ensures.1 in
    rw (p.1, p.2) (λ told. refuses-ring t t1 old new c.in_err-ring.field-0.0 c.forget.ensures.same lies.geometry mounts.fault mounts.fails)

pub returns-in_err-ring-clause-reads : goal.returns-in_err-ring-clause-reads
returns-in_err-ring-clause-reads g c = λ first plan table told planned rests.
    let t = c.args.self.now in
    let t1 = c.forget.new.self in
    let old = g.F.Flash.state c.args.flash.now in
    let new = g.F.Flash.state c.mount_with_newest.new.flash in
    let lies = c.requires.lies in
    let is = mounting-of t old first plan table planned lies (g.met.F.Flash.reaches c.args.flash.now) rests in
    let at = same-shape t t1 old c.forget.ensures.same lies.geometry ∙ planned-ring t first plan planned in
    let few = c.in_err-ring.ensures.mounts.reads is.s told (subst (λ (r : Shape). OnRing r (page_at old) is.s) (sym at) is.on) in
    let blocks = ap (λ (p : RingPlace). p.blocks) c.forget.ensures.same.place in
    let block = ap (λ (x : Geometry). x.block) (lies.geometry ∙ sym planned.geometry) in
    omega (arith, few, limit-is first plan table false (record { armed = None; programs = 0; erases = 0 }) old is, blocks, planned.blocks, block)

pub returns-in_err-ring-clause-beside : goal.returns-in_err-ring-clause-beside
returns-in_err-ring-clause-beside g c =
    let old = g.F.Flash.state c.args.flash.now in
    let new = g.F.Flash.state c.mount_with_newest.new.flash in
    subst (λ (r : Shape). Beside r (search_reads r + r.per_block) 1 1 old new) (same-shape c.args.self.now c.forget.new.self old c.forget.ensures.same c.requires.lies.geometry) c.in_err-ring.ensures.mounts.beside

pub returns-in_err-end-clause-ends : goal.returns-in_err-end-clause-ends
returns-in_err-end-clause-ends g c = λ first plan table rose device watched planned rests.
    let t = c.args.self.now in
    let t1 = c.forget.new.self in
    let old = g.F.Flash.state c.args.flash.now in
    let new = g.F.Flash.state c.mount_with_newest.new.flash in
    let lies = c.requires.lies in
    let ring = c.in_ok-ring.ring in
    let mounts = c.in_ok-ring.ensures.mounts in
    let goes = mounts.beside.goes in
    let is = mounting-of t old first plan table planned lies (g.met.F.Flash.reaches c.args.flash.now) rests in
    let sizes = lies-size t new first plan planned (goes.geometry ∙ lies.geometry) (omega (arith, goes.blocks, lies.within)) (g.met.F.Flash.reaches c.mount_with_newest.new.flash) in
    let at = same-shape t t1 old c.forget.ensures.same lies.geometry ∙ planned-ring t first plan planned in
    let l = ring-mounts first plan table rose device old is ring new (ring-ends first plan table rose device old is (shape_at t1.place old.geometry) at new (Ok ring) mounts.ends watched) in
    let newest = subst (IsNewest (place (shape_of ring)) (kept_page ring new) (newest_of (kept_page ring new) (oldest_of ring) (next_of ring - oldest_of ring))) (sym c.header_of.ensures)
    (newest-header (page_at new) (shape_of ring) (oldest_of ring) (next_of ring) c.in_ok-ring.newest ring.ordered (c.in_ok-ring.ensures.newest watched.told)) in
    let p = err_from_is_err_and c.from_residual-in_err-end.result c.from_residual-in_err-end.ensures.1 in
    rw (p.1, p.2) (no-bad-end first plan table rose device old is ring new l sizes t1 c.in_err-end.field-0.0 _ (planned-same t t1 first plan planned c.forget.ensures.same) (mounts.shape ∙ at)
    (bad-end (place (shape_of ring)) (kept_page ring new) (per_page t1) _ c.header_of.result c.in_err-end.field-0.0 newest c.in_err-end.ensures.bad c.in_err-end.ensures.some))

pub returns-in_err-end-clause-refused : goal.returns-in_err-end-clause-refused
returns-in_err-end-clause-refused g c =
    let p = err_from_is_err_and c.from_residual-in_err-end.result c.from_residual-in_err-end.ensures.1 in
    rw (p.1, p.2) (λ told.
    let t = c.args.self.now in
    let t1 = c.forget.new.self in
    let old = g.F.Flash.state c.args.flash.now in
    let new = g.F.Flash.state c.mount_with_newest.new.flash in
    let lies = c.requires.lies in
    let ring = c.in_ok-ring.ring in
    let mounts = c.in_ok-ring.ensures.mounts in
    let goes = mounts.beside.goes in
    let newest = subst (IsNewest (place (shape_of ring)) (kept_page ring new) (newest_of (kept_page ring new) (oldest_of ring) (next_of ring - oldest_of ring))) (sym c.header_of.ensures)
    (newest-header (page_at new) (shape_of ring) (oldest_of ring) (next_of ring) c.in_ok-ring.newest ring.ordered (c.in_ok-ring.ensures.newest told)) in
    refuses-end t t1 old new c.forget.ensures.same lies.geometry ring mounts.found mounts.shape c.in_err-end.field-0.0
    (bad-end (place (shape_of ring)) (kept_page ring new) (per_page t1) _ c.header_of.result c.in_err-end.field-0.0 newest c.in_err-end.ensures.bad c.in_err-end.ensures.some))

pub returns-in_err-end-clause-reads : goal.returns-in_err-end-clause-reads
returns-in_err-end-clause-reads g c = λ first plan table told planned rests.
    let t = c.args.self.now in
    let t1 = c.forget.new.self in
    let old = g.F.Flash.state c.args.flash.now in
    let new = g.F.Flash.state c.mount_with_newest.new.flash in
    let lies = c.requires.lies in
    let is = mounting-of t old first plan table planned lies (g.met.F.Flash.reaches c.args.flash.now) rests in
    let at = same-shape t t1 old c.forget.ensures.same lies.geometry ∙ planned-ring t first plan planned in
    let few = c.in_ok-ring.ensures.mounts.reads is.s told (subst (λ (r : Shape). OnRing r (page_at old) is.s) (sym at) is.on) in
    let blocks = ap (λ (p : RingPlace). p.blocks) c.forget.ensures.same.place in
    let block = ap (λ (x : Geometry). x.block) (lies.geometry ∙ sym planned.geometry) in
    omega (arith, few, limit-is first plan table false (record { armed = None; programs = 0; erases = 0 }) old is, blocks, planned.blocks, block)

pub returns-in_err-end-clause-beside : goal.returns-in_err-end-clause-beside
returns-in_err-end-clause-beside g c =
    let old = g.F.Flash.state c.args.flash.now in
    let new = g.F.Flash.state c.mount_with_newest.new.flash in
    subst (λ (r : Shape). Beside r (search_reads r + r.per_block) 1 1 old new) (same-shape c.args.self.now c.forget.new.self old c.forget.ensures.same c.requires.lies.geometry) c.in_ok-ring.ensures.mounts.beside

pub returns-clause-ends : goal.returns-clause-ends
returns-clause-ends g c = λ first plan table rose device watched planned rests.
    let t = c.args.self.now in
    let t1 = c.forget.new.self in
    let old = g.F.Flash.state c.args.flash.now in
    let new = g.F.Flash.state c.mount_with_newest.new.flash in
    let lies = c.requires.lies in
    let ring = c.in_ok-ring.ring in
    let mounts = c.in_ok-ring.ensures.mounts in
    let goes = mounts.beside.goes in
    let is = mounting-of t old first plan table planned lies (g.met.F.Flash.reaches c.args.flash.now) rests in
    let sizes = lies-size t new first plan planned (goes.geometry ∙ lies.geometry) (omega (arith, goes.blocks, lies.within)) (g.met.F.Flash.reaches c.mount_with_newest.new.flash) in
    let at = same-shape t t1 old c.forget.ensures.same lies.geometry ∙ planned-ring t first plan planned in
    let l = ring-mounts first plan table rose device old is ring new (ring-ends first plan table rose device old is (shape_at t1.place old.geometry) at new (Ok ring) mounts.ends watched) in
    let newest = subst (IsNewest (place (shape_of ring)) (kept_page ring new) (newest_of (kept_page ring new) (oldest_of ring) (next_of ring - oldest_of ring))) (sym c.header_of.ensures)
    (newest-header (page_at new) (shape_of ring) (oldest_of ring) (next_of ring) c.in_ok-ring.newest ring.ordered (c.in_ok-ring.ensures.newest watched.told)) in
    finds-well first plan table rose device old is ring new l sizes _ c.in_ok-end.end
    (planned-same t _ first plan planned (record { geometry = c.forget.ensures.same.geometry; place = c.forget.ensures.same.place; bits = c.forget.ensures.same.bits; full = c.forget.ensures.same.full })) (mounts.shape ∙ at) refl c.forget.ensures.none
    (end-is (place (shape_of ring)) (kept_page ring new) (per_page t1) _ c.header_of.result c.in_ok-end.end newest c.in_ok-end.ensures.end)

pub returns-clause-found : goal.returns-clause-found
returns-clause-found g c = λ told.
    let t = c.args.self.now in
    let t1 = c.forget.new.self in
    let old = g.F.Flash.state c.args.flash.now in
    let new = g.F.Flash.state c.mount_with_newest.new.flash in
    let lies = c.requires.lies in
    let ring = c.in_ok-ring.ring in
    let mounts = c.in_ok-ring.ensures.mounts in
    let goes = mounts.beside.goes in
    let newest = subst (IsNewest (place (shape_of ring)) (kept_page ring new) (newest_of (kept_page ring new) (oldest_of ring) (next_of ring - oldest_of ring))) (sym c.header_of.ensures)
    (newest-header (page_at new) (shape_of ring) (oldest_of ring) (next_of ring) c.in_ok-ring.newest ring.ordered (c.in_ok-ring.ensures.newest told)) in
    finds-end t t1 old new c.forget.ensures.same lies.geometry ring mounts.found mounts.shape _ c.in_ok-end.end refl
    (end-is (place (shape_of ring)) (kept_page ring new) (per_page t1) _ c.header_of.result c.in_ok-end.end newest c.in_ok-end.ensures.end)

pub returns-clause-reads : goal.returns-clause-reads
returns-clause-reads g c = λ first plan table told planned rests.
    let t = c.args.self.now in
    let t1 = c.forget.new.self in
    let old = g.F.Flash.state c.args.flash.now in
    let new = g.F.Flash.state c.mount_with_newest.new.flash in
    let lies = c.requires.lies in
    let is = mounting-of t old first plan table planned lies (g.met.F.Flash.reaches c.args.flash.now) rests in
    let at = same-shape t t1 old c.forget.ensures.same lies.geometry ∙ planned-ring t first plan planned in
    let few = c.in_ok-ring.ensures.mounts.reads is.s told (subst (λ (r : Shape). OnRing r (page_at old) is.s) (sym at) is.on) in
    let blocks = ap (λ (p : RingPlace). p.blocks) c.forget.ensures.same.place in
    let block = ap (λ (x : Geometry). x.block) (lies.geometry ∙ sym planned.geometry) in
    omega (arith, few, limit-is first plan table false (record { armed = None; programs = 0; erases = 0 }) old is, blocks, planned.blocks, block)

pub returns-clause-beside : goal.returns-clause-beside
returns-clause-beside g c =
    let old = g.F.Flash.state c.args.flash.now in
    let new = g.F.Flash.state c.mount_with_newest.new.flash in
    subst (λ (r : Shape). Beside r (search_reads r + r.per_block) 1 1 old new) (same-shape c.args.self.now c.forget.new.self old c.forget.ensures.same c.requires.lies.geometry) c.in_ok-ring.ensures.mounts.beside

pub mount_with_newest-requires-clause-blocks : goal.mount_with_newest-requires-clause-blocks
mount_with_newest-requires-clause-blocks g c = c.forget.new.self.some_blocks

pub mount_with_newest-requires-clause-lies : goal.mount_with_newest-requires-clause-lies
mount_with_newest-requires-clause-lies g c = subst (λ (p : RingPlace). p.first_block + p.blocks ≤ (g.F.Flash.state c.args.flash.now).blocks) (sym c.forget.ensures.same.place) c.requires.lies.within

pub mount_with_newest-requires-clause-few : goal.mount_with_newest-requires-clause-few
mount_with_newest-requires-clause-few g c = c.requires.lies.few

pub mount_with_newest-requires-clause-room : goal.mount_with_newest-requires-clause-room
mount_with_newest-requires-clause-room g c = c.requires.room

pub returns-in_err-ring-clause-running : goal.returns-in_err-ring-clause-running
returns-in_err-ring-clause-running g c =
    let p = err_from_is_err_and c.from_residual.result c.from_residual.ensures.1 in
    rw p.1 c.forget.ensures.down

pub returns-in_err-ring-clause-idle : goal.returns-in_err-ring-clause-idle
returns-in_err-ring-clause-idle g c = c.forget.ensures.none

pub returns-in_err-ring-clause-unknown : goal.returns-in_err-ring-clause-unknown
returns-in_err-ring-clause-unknown g c = c.forget.ensures.unknown

pub returns-in_err-ring-clause-found : goal.returns-in_err-ring-clause-found
returns-in_err-ring-clause-found g c =
    let p = err_from_is_err_and c.from_residual.result c.from_residual.ensures.1 in
    rw p.1 tt

pub returns-in_err-ring-clause-power : goal.returns-in_err-ring-clause-power
returns-in_err-ring-clause-power g c =
    let p = err_from_is_err_and c.from_residual.result c.from_residual.ensures.1 in
    rw p.1 tt

pub returns-in_err-ring-clause-room : goal.returns-in_err-ring-clause-room
returns-in_err-ring-clause-room g c = c.mount_with_newest.ensures.room

pub returns-in_err-ring-clause-holds : goal.returns-in_err-ring-clause-holds
returns-in_err-ring-clause-holds g c = c.mount_with_newest.ensures.holds

pub returns-in_err-ring-clause-same : goal.returns-in_err-ring-clause-same
returns-in_err-ring-clause-same g c = c.forget.ensures.same

pub returns-in_err-ring-clause-cause : goal.returns-in_err-ring-clause-cause
returns-in_err-ring-clause-cause g c =
    let p = err_from_is_err_and c.from_residual.result c.from_residual.ensures.1 in
    rw (p.1, p.2) c.in_err-ring.ensures.mounts.cause

pub returns-in_err-ring-clause-lies : goal.returns-in_err-ring-clause-lies
returns-in_err-ring-clause-lies g c =
    lies-later c.args.self.now c.forget.new.self (g.F.Flash.state c.args.flash.now) (g.F.Flash.state c.mount_with_newest.new.flash) c.forget.ensures.same c.requires.lies c.in_err-ring.ensures.mounts.beside.goes (no-ring c.forget.new.self.ring (g.F.Flash.state c.mount_with_newest.new.flash) (none_from c.forget.new.self.ring c.forget.ensures.down))

pub returns-in_err-end-clause-running : goal.returns-in_err-end-clause-running
returns-in_err-end-clause-running g c =
    let p = err_from_is_err_and c.from_residual-in_err-end.result c.from_residual-in_err-end.ensures.1 in
    rw p.1 c.forget.ensures.down

pub returns-in_err-end-clause-idle : goal.returns-in_err-end-clause-idle
returns-in_err-end-clause-idle g c = c.forget.ensures.none

pub returns-in_err-end-clause-unknown : goal.returns-in_err-end-clause-unknown
returns-in_err-end-clause-unknown g c = c.forget.ensures.unknown

pub returns-in_err-end-clause-found : goal.returns-in_err-end-clause-found
returns-in_err-end-clause-found g c =
    let p = err_from_is_err_and c.from_residual-in_err-end.result c.from_residual-in_err-end.ensures.1 in
    rw p.1 tt

pub returns-in_err-end-clause-power : goal.returns-in_err-end-clause-power
returns-in_err-end-clause-power g c =
    let p = err_from_is_err_and c.from_residual-in_err-end.result c.from_residual-in_err-end.ensures.1 in
    rw p.1 tt

pub returns-in_err-end-clause-room : goal.returns-in_err-end-clause-room
returns-in_err-end-clause-room g c = c.mount_with_newest.ensures.room

pub returns-in_err-end-clause-holds : goal.returns-in_err-end-clause-holds
returns-in_err-end-clause-holds g c = c.mount_with_newest.ensures.holds

pub returns-in_err-end-clause-same : goal.returns-in_err-end-clause-same
returns-in_err-end-clause-same g c = c.forget.ensures.same

pub returns-in_err-end-clause-lies : goal.returns-in_err-end-clause-lies
returns-in_err-end-clause-lies g c =
    lies-later c.args.self.now c.forget.new.self (g.F.Flash.state c.args.flash.now) (g.F.Flash.state c.mount_with_newest.new.flash) c.forget.ensures.same c.requires.lies c.in_ok-ring.ensures.mounts.beside.goes (no-ring c.forget.new.self.ring (g.F.Flash.state c.mount_with_newest.new.flash) (none_from c.forget.new.self.ring c.forget.ensures.down))

pub returns-clause-running : goal.returns-clause-running
returns-clause-running g c = refl

pub returns-clause-idle : goal.returns-clause-idle
returns-clause-idle g c = c.forget.ensures.none

pub returns-clause-unknown : goal.returns-clause-unknown
returns-clause-unknown g c = c.forget.ensures.unknown

pub returns-clause-room : goal.returns-clause-room
returns-clause-room g c = c.mount_with_newest.ensures.room

pub returns-clause-holds : goal.returns-clause-holds
returns-clause-holds g c = c.mount_with_newest.ensures.holds

pub returns-clause-power : goal.returns-clause-power
returns-clause-power g c = c.in_ok-ring.ensures.mounts.power

pub returns-clause-same : goal.returns-clause-same
returns-clause-same g c = record { geometry = c.forget.ensures.same.geometry; place = c.forget.ensures.same.place; bits = c.forget.ensures.same.bits; full = c.forget.ensures.same.full }

pub returns-clause-lies : goal.returns-clause-lies
returns-clause-lies g c =
    lies-later c.args.self.now _ (g.F.Flash.state c.args.flash.now) (g.F.Flash.state c.mount_with_newest.new.flash) (record { geometry = c.forget.ensures.same.geometry; place = c.forget.ensures.same.place; bits = c.forget.ensures.same.bits; full = c.forget.ensures.same.full })
    c.requires.lies c.in_ok-ring.ensures.mounts.beside.goes (this-ring c.in_ok-ring.ring (g.F.Flash.state c.mount_with_newest.new.flash) c.in_ok-ring.ensures.mounts.lies)

pub invariant_of-self : goal.invariant_of-self
invariant_of-self g c =
    let t = c.forget.new.self in
    record {
      served = t.served;
      some_blocks = t.some_blocks;
      few_blocks = t.few_blocks;
      some_bits = t.some_bits;
      remembered = t.remembered;
      page = t.page;
      blank_rest = t.blank_rest;
      few = t.few;
      left = t.left;
      lies = λ r has.
          ap (λ (x : Ring). shape_of x) (sym (same_Some c.in_ok-ring.ring r has)) ∙ (c.in_ok-ring.ensures.mounts.shape ∙ ap (λ (x : Geometry). shape_at t.place x) (c.requires.lies.geometry ∙ sym c.forget.ensures.same.geometry));
    }

pub returns-in_err-ring-clause-off : goal.returns-in_err-ring-clause-off
returns-in_err-ring-clause-off g c =
    let p = err_from_is_err_and c.from_residual.result c.from_residual.ensures.1 in
    rw (p.1, p.2) (λ down. let x = c.in_err-ring.ensures.mounts.off down in (err_as c.in_err-ring.field-0.0 (Flash PowerLost) x.0, x.1))
