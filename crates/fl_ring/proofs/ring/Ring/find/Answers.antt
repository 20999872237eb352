use Rattle.std.proofs.Common.{◌+◌, ◌*◌, ◌^◌, ◌≤◌, ◌<◌, Ok, Err, inr, zero-le, refl, sym, ◌∙◌, ap, subst, arith}
use Rattle.std.proofs.lemmas.Result.{err_from_is_err_and}
use Rattle.fl_base.specs.declared.types.Geometry.{Geometry}
use Rattle.fl_flash.specs.Flash.{page_at}
use Rattle.fl_flash.specs.declared.flash.FlashFault.TheVariants.{PowerLost}
use Rattle.fl_ring.specs.declared.fault.RingFault.TheVariants.{Flash}
use Rattle.fl_ring.specs.Finding.{IsFound, FoundFault}
use Rattle.fl_frame.specs.Reads.{OnlyReads}
use Rattle.fl_ring.specs.Mounting.{shape_at, search_reads, RepairEnds}
use Rattle.fl_ring.specs.Newest.{NewestAmong}
use Rattle.fl_ring.specs.Numbers.{renumbered}
use Rattle.fl_ring.specs.Operations.{repair_kinds}
use Rattle.fl_ring.specs.Place.{StandsFor}
use Rattle.fl_ring.specs.Repairing.{Beside, RepairCalls}
use Rattle.fl_ring.specs.Ring.{Shape, OnRing, IsShape, repaired}
use Rattle.fl_ring.proofs.Besides.{beside_reads, beside_more, beside_up}
use Rattle.fl_frame.proofs.ReadsInTurn.{caused_later}
use Rattle.fl_ring.proofs.Exists.{place_exists, lies_still, reach_below}
use Rattle.fl_ring.proofs.Mounts.{shape_served, still_on, found_numbers, search_failed, search_cause, mount_done, refused_by, has_numbers, err_as, not_failed}
use Rattle.fl_ring.proofs.NewestPages.{newest_kept}
use Rattle.fl_ring.proofs.RepairSteps.{watched_still}
use Rattle.fl_ring.proofs.ring.Ring.find.Goals as goal

pub returns-in_err-numbers-clause-mounts : goal.returns-in_err-numbers-clause-mounts
returns-in_err-numbers-clause-mounts g c =
    let p = err_from_is_err_and c.from_residual.result c.from_residual.ensures.1 in
    let place = c.args.place in
    let f = g.F.Flash.state c.args.flash.now in
    let mid = g.F.Flash.state c.find_numbers.new.flash in
    let geo = c.geometry-geometry.result in
    let r = shape_at place f.geometry in
    let n = place.blocks + geo.block + place.blocks * geo.block in
    let shape = shape_served place f.geometry c.requires.blocks (g.met.F.Flash.serves c.args.flash.now) in
    let e = c.in_err-numbers.field-0.0 in
    let reads = subst (λ (y : Geometry). OnlyReads f (search_reads (shape_at place y)) mid) c.geometry-geometry.ensures c.find_numbers.ensures.reads in
    let fault = subst (λ (y : Geometry). FoundFault f (shape_at place y) c.args.at_least e) c.geometry-geometry.ensures c.in_err-numbers.ensures.fault in
    rw (p.1, p.2) (record {
      shape = tt;
      lies = tt;
      ends = λ s rose device good watched. search_failed f mid n r c.args.at_least s shape c.find_numbers.ensures.reads good rose device e watched fault c.in_err-numbers.ensures.fails;
      found = tt;
      fault = fault;
      fails = refused_by e f mid r c.args.at_least reads c.in_err-numbers.ensures.fails;
      reads = λ s told on.
          let few = c.find_numbers.ensures.few_reads s told (subst (λ (y : Geometry). OnRing (shape_at place y) (page_at f) s) (sym c.geometry-geometry.ensures) on) in
          let block = ap (λ (y : Geometry). y.block) c.geometry-geometry.ensures in
          omega (arith, few, block);
      beside = beside_up r (search_reads r) 0 0 (search_reads r + f.geometry.block) 1 1 f mid (omega arith) (omega arith) (omega arith) (beside_reads r (search_reads r) f mid reads);
      cause = search_cause e f mid c.in_err-numbers.ensures.fails;
      off = λ down. let x = c.in_err-numbers.ensures.off down in (err_as e (Flash PowerLost) x.0, x.1);
      power = tt;
    })

pub returns-in_err-repair-clause-mounts : goal.returns-in_err-repair-clause-mounts
returns-in_err-repair-clause-mounts g c =
    let p = err_from_is_err_and c.from_residual-in_err-repair.result c.from_residual-in_err-repair.ensures.1 in
    let place = c.args.place in
    let f = g.F.Flash.state c.args.flash.now in
    let mid = g.F.Flash.state c.find_numbers.new.flash in
    let new = g.F.Flash.state c.repair.new.flash in
    let geo = c.geometry-geometry.result in
    let r = shape_at place f.geometry in
    let n = place.blocks + geo.block + place.blocks * geo.block in
    let shape = shape_served place f.geometry c.requires.blocks (g.met.F.Flash.serves c.args.flash.now) in
    let reads = c.find_numbers.ensures.reads in
    let e = c.in_err-repair.field-0.0 in
    let numbers = c.in_ok-numbers.numbers in
    rw (p.1, p.2) (record {
      shape = tt;
      lies = tt;
      ends = λ s rose device good watched.
          let t = renumbered r c.args.at_least s in
          let x = found_numbers f mid n r c.args.at_least s shape reads good numbers (subst (λ (y : Geometry). IsFound f (shape_at place y) c.args.at_least numbers) c.geometry-geometry.ensures (c.in_ok-numbers.ensures.found good.told)) in
          let on_mid = subst (λ (y : Geometry). OnRing (shape_at place y) (page_at mid) t) (sym c.geometry-geometry.ensures) (still_on f mid n r c.args.at_least s shape reads good) in
          subst (λ (y : Geometry). RepairEnds (shape_at place y) rose (repair_kinds (shape_at place y) t) device t (Err e) new) c.geometry-geometry.ensures
          (c.in_err-repair.ensures.ends t rose device (record { next = x.0; oldest = x.1 }) on_mid x.2 (watched_still f mid new n rose device watched reads));
      found = tt;
      fault = tt;
      fails = inr (record {
        numbers = numbers;
        is_found = λ told. subst (λ (y : Geometry). IsFound f (shape_at place y) c.args.at_least numbers) c.geometry-geometry.ensures (c.in_ok-numbers.ensures.found told);
        found = mid;
        looks = subst (λ (y : Geometry). OnlyReads f (search_reads (shape_at place y)) mid) c.geometry-geometry.ensures reads;
        repairs = subst (λ (y : Geometry). RepairCalls (shape_at place y) numbers.next numbers.torn mid (Err e) new) c.geometry-geometry.ensures c.in_err-repair.ensures.calls;
      });
      reads = λ s told on.
          let few = c.find_numbers.ensures.few_reads s told (subst (λ (y : Geometry). OnRing (shape_at place y) (page_at f) s) (sym c.geometry-geometry.ensures) on) in
          let block = ap (λ (y : Geometry). y.block) c.geometry-geometry.ensures in
          omega (arith, few, block, c.repair.ensures.beside.few_reads);
      beside =
          let before = shape_at place geo in
          subst (λ (y : Geometry). Beside (shape_at place y) (search_reads (shape_at place y) + y.block) 1 1 f new) c.geometry-geometry.ensures
          (beside_more before (search_reads before) 0 0 geo.block 1 1 f mid new (beside_reads before (search_reads before) f mid reads) c.repair.ensures.beside);
      cause = caused_later f mid new e n reads c.in_err-repair.ensures.cause;
      off = λ down. absurd (not_failed _ _ (c.in_ok-numbers.ensures.off down).0);
      power = tt;
    })

pub returns-clause-mounts : goal.returns-clause-mounts
returns-clause-mounts g c =
    let place = c.args.place in
    let f = g.F.Flash.state c.args.flash.now in
    let mid = g.F.Flash.state c.find_numbers.new.flash in
    let new = g.F.Flash.state c.repair.new.flash in
    let geo = c.geometry-geometry.result in
    let r = shape_at place f.geometry in
    let n = place.blocks + geo.block + place.blocks * geo.block in
    let shape = shape_served place f.geometry c.requires.blocks (g.met.F.Flash.serves c.args.flash.now) in
    let reads = c.find_numbers.ensures.reads in
    let u = c.in_ok-repair.field-0 in
    let numbers = c.in_ok-numbers.numbers in
    record {
      shape = c.in_ok-repair.ensures.same ∙ ap (λ (y : Geometry). shape_at place y) c.geometry-geometry.ensures;
      lies =
          let goes = c.repair.ensures.beside.goes in
          let same = c.in_ok-repair.ensures.same in
          let geometry = goes.geometry ∙ reads.goes.geometry ∙ sym c.geometry-geometry.ensures in
          let blocks = ap (λ (x : Shape). x.blocks) same in
          record {
            page = ap (λ (y : Geometry). y.page) geometry ∙ sym (ap (λ (x : Shape). x.size) same);
            block = ap (λ (y : Geometry). y.block) geometry ∙ sym (ap (λ (x : Shape). x.per_block) same);
            within = omega (arith, c.requires.lies, goes.blocks, reads.goes.blocks, c.in_ok-repair.ensures.first, blocks);
          };
      ends = λ s rose device good watched.
          let t = renumbered r c.args.at_least s in
          let x = found_numbers f mid n r c.args.at_least s shape reads good numbers (subst (λ (y : Geometry). IsFound f (shape_at place y) c.args.at_least numbers) c.geometry-geometry.ensures (c.in_ok-numbers.ensures.found good.told)) in
          let on_mid = subst (λ (y : Geometry). OnRing (shape_at place y) (page_at mid) t) (sym c.geometry-geometry.ensures) (still_on f mid n r c.args.at_least s shape reads good) in
          let stands = subst (λ (y : Geometry). StandsFor c.repair.new.self (repaired (shape_at place y) t)) c.geometry-geometry.ensures (c.in_ok-repair.ensures.numbers t (record { next = x.0; oldest = x.1 }) on_mid.ring x.2) in
          let ends = subst (λ (y : Geometry). RepairEnds (shape_at place y) rose (repair_kinds (shape_at place y) t) device t (Ok u) new) c.geometry-geometry.ensures
          (c.in_ok-repair.ensures.ends t rose device (record { next = x.0; oldest = x.1 }) on_mid x.2 (watched_still f mid new n rose device watched reads)) in
          mount_done r rose device t c.repair.new.self new u stands ends;
      found = has_numbers place f mid new geo c.args.at_least numbers c.repair.new.self c.geometry-geometry.ensures c.in_ok-numbers.ensures.found reads c.in_ok-repair.ensures.next c.in_ok-repair.ensures.oldest c.in_ok-repair.ensures.calls;
      fault = tt;
      fails = tt;
      reads = λ s told on.
          let few = c.find_numbers.ensures.few_reads s told (subst (λ (y : Geometry). OnRing (shape_at place y) (page_at f) s) (sym c.geometry-geometry.ensures) on) in
          let block = ap (λ (y : Geometry). y.block) c.geometry-geometry.ensures in
          omega (arith, few, block, c.repair.ensures.beside.few_reads);
      beside =
          let before = shape_at place geo in
          subst (λ (y : Geometry). Beside (shape_at place y) (search_reads (shape_at place y) + y.block) 1 1 f new) c.geometry-geometry.ensures
          (beside_more before (search_reads before) 0 0 geo.block 1 1 f mid new (beside_reads before (search_reads before) f mid reads) c.repair.ensures.beside);
      cause = tt;
      off = λ down. absurd (not_failed _ _ (c.in_ok-numbers.ensures.off down).0);
      power = c.in_ok-repair.ensures.power c.in_ok-numbers.ensures.power;
    }

pub returns-clause-newest : goal.returns-clause-newest
returns-clause-newest g c = λ told.
    let place = c.args.place in
    let f = g.F.Flash.state c.args.flash.now in
    let mid = g.F.Flash.state c.find_numbers.new.flash in
    let new = g.F.Flash.state c.repair.new.flash in
    let geo = c.geometry-geometry.result in
    let r = shape_at place f.geometry in
    let served = g.met.F.Flash.serves c.args.flash.now in
    let shape = shape_served place f.geometry c.requires.blocks served in
    let numbers = c.in_ok-numbers.numbers in
    let newest = c.in_ok-numbers.newest in
    let ring = c.repair.new.self in
    let has = has_numbers place f mid new geo c.args.at_least numbers ring c.geometry-geometry.ensures c.in_ok-numbers.ensures.found c.find_numbers.ensures.reads c.in_ok-repair.ensures.next c.in_ok-repair.ensures.oldest c.in_ok-repair.ensures.calls in
    let among = subst (λ (y : Geometry). NewestAmong (page_at f) (shape_at place y) numbers.oldest numbers.next newest) c.geometry-geometry.ensures (c.in_ok-numbers.ensures.newest told) in
    subst (λ (x : Shape). NewestAmong (page_at new) x ring.oldest ring.next c.if_kept-kept.result) (sym (c.in_ok-repair.ensures.same ∙ ap (λ (y : Geometry). shape_at place y) c.geometry-geometry.ensures))
    (newest_kept f new r c.args.at_least ring shape told refl has refl (g.met.F.Flash.reaches c.args.flash.now) (place_exists place f numbers.next c.requires.blocks served.block_least c.requires.lies) newest c.if_kept-kept.result c.if_kept-kept.ensures among)

pub invariant_of-unnumbered : goal.invariant_of-unnumbered
invariant_of-unnumbered g c =
    let place = c.args.place in
    let f = g.F.Flash.state c.args.flash.now in
    let serves = g.met.F.Flash.serves c.args.flash.now in
    let same = sym c.geometry-geometry.ensures in
    record {
      served = subst (λ (y : Geometry). IsShape (shape_at place y)) same (shape_served place f.geometry c.requires.blocks serves);
      small_blocks = subst (λ (y : Geometry). y.block ≤ 256) same serves.block_greatest;
      small_pages = subst (λ (y : Geometry). y.page ≤ 4096) same serves.page_greatest;
      reach = subst (λ (y : Geometry). (place.first_block + place.blocks) * y.block < 2 ^ 32) same (reach_below place f c.requires.lies c.requires.few);
      ordered = zero-le;
    }

pub invariant_of-ring : goal.invariant_of-ring
invariant_of-ring g c =
    let place = c.args.place in
    let f = g.F.Flash.state c.args.flash.now in
    let serves = g.met.F.Flash.serves c.args.flash.now in
    let same = sym c.geometry-geometry.ensures in
    record {
      served = subst (λ (y : Geometry). IsShape (shape_at place y)) same (shape_served place f.geometry c.requires.blocks serves);
      small_blocks = subst (λ (y : Geometry). y.block ≤ 256) same serves.block_greatest;
      small_pages = subst (λ (y : Geometry). y.page ≤ 4096) same serves.page_greatest;
      reach = subst (λ (y : Geometry). (place.first_block + place.blocks) * y.block < 2 ^ 32) same (reach_below place f c.requires.lies c.requires.few);
      ordered = c.in_ok-numbers.ensures.ordered;
    }

pub find_numbers-requires-clause-lies : goal.find_numbers-requires-clause-lies
find_numbers-requires-clause-lies g c = record { page = sym (ap (λ (y : Geometry). y.page) c.geometry-geometry.ensures); block = sym (ap (λ (y : Geometry). y.block) c.geometry-geometry.ensures); within = c.requires.lies }

pub find_numbers-requires-clause-room : goal.find_numbers-requires-clause-room
find_numbers-requires-clause-room g c = c.requires.room ∙ sym (ap (λ (y : Geometry). y.page) c.geometry-geometry.ensures)

pub returns-in_err-numbers-clause-newest : goal.returns-in_err-numbers-clause-newest
returns-in_err-numbers-clause-newest g c =
    let p = err_from_is_err_and c.from_residual.result c.from_residual.ensures.1 in
    rw p.1 tt

pub returns-in_err-numbers-clause-room : goal.returns-in_err-numbers-clause-room
returns-in_err-numbers-clause-room g c = c.find_numbers.ensures.room ∙ (ap (λ (y : Geometry). y.page) c.geometry-geometry.ensures ∙ sym c.requires.room)

pub repair-requires-clause-lies : goal.repair-requires-clause-lies
repair-requires-clause-lies g c = lies_still _ (g.F.Flash.state c.args.flash.now) (g.F.Flash.state c.find_numbers.new.flash) (record { page = sym (ap (λ (y : Geometry). y.page) c.geometry-geometry.ensures); block = sym (ap (λ (y : Geometry). y.block) c.geometry-geometry.ensures); within = c.requires.lies }) c.find_numbers.ensures.reads.goes

pub repair-requires-clause-left : goal.repair-requires-clause-left
repair-requires-clause-left g c = c.in_ok-numbers.ensures.left

pub repair-requires-clause-room : goal.repair-requires-clause-room
repair-requires-clause-room g c = c.find_numbers.ensures.room

pub returns-in_err-repair-clause-newest : goal.returns-in_err-repair-clause-newest
returns-in_err-repair-clause-newest g c =
    let p = err_from_is_err_and c.from_residual-in_err-repair.result c.from_residual-in_err-repair.ensures.1 in
    rw p.1 tt

pub returns-in_err-repair-clause-room : goal.returns-in_err-repair-clause-room
returns-in_err-repair-clause-room g c = c.repair.ensures.room ∙ (c.find_numbers.ensures.room ∙ (ap (λ (y : Geometry). y.page) c.geometry-geometry.ensures ∙ sym c.requires.room))

pub returns-clause-room : goal.returns-clause-room
returns-clause-room g c = c.repair.ensures.room ∙ (c.find_numbers.ensures.room ∙ (ap (λ (y : Geometry). y.page) c.geometry-geometry.ensures ∙ sym c.requires.room))
