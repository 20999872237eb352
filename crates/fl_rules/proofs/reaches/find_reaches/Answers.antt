use Rattle.std.proofs.Common.{◌≡◌, ℕ, List, ◌+◌, ◌-◌, length, IsTrue, sym, ◌∙◌, ap, arith, subst, refl, ◌<◌, ◌≤◌, le_refl, le_antisymm}
use Rattle.fl_flash.specs.Flash.{page_at}
use Rattle.fl_ring.specs.Newest.{page_back}
use Rattle.fl_ring.specs.Place.{shape_of}
use Rattle.fl_ring.proofs.Exists.{page_exists}
use Rattle.fl_ring.proofs.ReadsInTurn.{fewer_reads, mark_fits}
use Rattle.fl_frame.proofs.ReadsInTurn.{more_reads, same_page, told_still, no_reads}
use Rattle.fl_rules.specs.Reaches.{reach, reach_from, AreReaches}
use Rattle.fl_rules.specs.References.{content_room}
use Rattle.fl_rules.proofs.BlobReaches.{reach_next, listed_next}
use Rattle.std.proofs.lemmas.Result.{err_from_is_err_and}
use Rattle.fl_rules.proofs.OneMorePage.{one_read, read_fails, look_room, page_long, some_more, more_few}
use Rattle.fl_rules.proofs.Rooms.{next_small, sum_small, index_small, offset_small}
use borrow.Author.Count.{below_none}
use Rattle.fl_rules.proofs.reaches.find_reaches.Goals as goal

listed-on : {now old kept i : ℕ} → now ≡ old → kept ≤ old → i < kept → i < now
listed-on same listed lt = omega (arith, same, listed, lt)

pub look-requires-clause-exists : goal.look-requires-clause-exists
look-requires-clause-exists g c =
    page_exists c.args.ring.now (g.F.Flash.state c.args.flash.now) (g.F.Flash.state c.loop-i.flash) c.loop-i.i c.page_back-page.result c.requires.lies c.loop-i.invariant.reads c.page_back-page.ensures.within

pub loop-i-preserved : goal.loop-i-preserved
loop-i-preserved g c =
    let f = g.F.Flash.state c.args.flash.now in
    let h = g.F.Flash.state c.loop-i.flash in
    let r = shape_of c.args.ring.now in
    let reads = c.loop-i.invariant.reads in
    let room : length c.look.new.buf.bytes ≡ r.size = c.look.ensures.room ∙ c.loop-i.invariant.room in
    let next : IsTrue f.media.tells → c.reach_from-reach.result ≡ reach (page_at f) r c.args.m.at (c.loop-i.i + 1) = λ told.
    let bytes : c.bytes.result.now ≡ page_at f (page_back r c.args.m.at (c.loop-i.i + 1)) = c.bytes.ensures ∙ c.in_ok-look.ensures.bytes (told_still f h c.loop-i.i reads told)
    ∙ same_page f h c.loop-i.i c.page_back-page.result reads ∙ ap (page_at f) c.page_back-page.ensures.page in
    let size : length c.bytes.result.now - 16 ≡ content_room r = ap (λ (l : List ℕ). length l - 16) c.bytes.ensures ∙ ap (λ (k : ℕ). k - 16) room in
    c.reach_from-reach.ensures.exact
    ∙ ap (λ (k : ℕ). reach_from k c.bytes.result.now c.loop-i.reach) size
    ∙ ap (λ (l : List ℕ). reach_from (content_room r) l c.loop-i.reach) bytes
    ∙ ap (λ (k : ℕ). reach_from (content_room r) (page_at f (page_back r c.args.m.at (c.loop-i.i + 1))) k) (c.loop-i.invariant.reach told)
    ∙ sym (reach_next (page_at f) r c.args.m.at c.loop-i.i) in
    record {
      reads = more_reads f h (g.F.Flash.state c.look.new.flash) c.loop-i.i 1 reads c.look.ensures.reads;
      room = room;
      few = omega (arith, c.reach_from-reach.ensures.few, c.loop-i.invariant.few);
      reach = next;
      reaches = λ told. listed_next (page_at f) r c.args.m.at c.loop-i.i c.loop-i.reaches c.reach_from-reach.result (omega (arith, c.loop-i.auto.reaches, c.requires.listed, c.loop-i-test.true)) (next told)
          (c.loop-i.invariant.reaches told);
    }

pub page_back-page-requires-clause-place : goal.page_back-page-requires-clause-place
page_back-page-requires-clause-place g c = c.requires.within.at

pub returns-in_err-look-clause-reads : goal.returns-in_err-look-clause-reads
returns-in_err-look-clause-reads g c = one_read (g.F.Flash.state c.args.flash.now) (g.F.Flash.state c.loop-i.flash) (g.F.Flash.state c.look.new.flash) c.loop-i.i c.args.m.kept c.loop-i.invariant.reads c.look.ensures.reads c.loop-i-test.true

pub returns-in_err-look-clause-room : goal.returns-in_err-look-clause-room
returns-in_err-look-clause-room g c = c.look.ensures.room ∙ c.loop-i.invariant.room

pub returns-in_err-look-clause-reaches : goal.returns-in_err-look-clause-reaches
returns-in_err-look-clause-reaches g c =
    let p = err_from_is_err_and c.from_residual.result c.from_residual.ensures.1 in
    rw p.1 tt

pub returns-in_err-look-clause-fails : goal.returns-in_err-look-clause-fails
returns-in_err-look-clause-fails g c =
    let p = err_from_is_err_and c.from_residual.result c.from_residual.ensures.1 in
    rw (p.1, p.2) (read_fails (g.F.Flash.state c.args.flash.now) (g.F.Flash.state c.loop-i.flash) (g.F.Flash.state c.look.new.flash) c.loop-i.i 0 c.loop-i.invariant.reads c.in_err-look.field-0.0 c.in_err-look.ensures.fails)

pub returns-clause-reads : goal.returns-clause-reads
returns-clause-reads g c = fewer_reads (g.F.Flash.state c.args.flash.now) (g.F.Flash.state c.loop-i.flash) c.loop-i.i c.args.m.kept c.loop-i.invariant.reads c.loop-i.auto.i-end

pub returns-clause-room : goal.returns-clause-room
returns-clause-room g c = c.loop-i.invariant.room

pub returns-clause-fails : goal.returns-clause-fails
returns-clause-fails g c = tt

pub look-requires-clause-room : goal.look-requires-clause-room
look-requires-clause-room g c = look_room c.args.ring.now (g.F.Flash.state c.args.flash.now) (g.F.Flash.state c.loop-i.flash) c.loop-i.i _ c.requires.lies c.loop-i.invariant.reads c.loop-i.invariant.room

pub look-requires-clause-size : goal.look-requires-clause-size
look-requires-clause-size g c = mark_fits _ _ c.loop-i.invariant.room c.args.ring.now.served.size

pub page_back-page-requires-clause-some : goal.page_back-page-requires-clause-some
page_back-page-requires-clause-some g c = some_more _

pub page_back-page-requires-clause-few : goal.page_back-page-requires-clause-few
page_back-page-requires-clause-few g c = more_few c.loop-i-test.true c.requires.within.kept

pub reach_from-reach-requires-clause-size : goal.reach_from-reach-requires-clause-size
reach_from-reach-requires-clause-size g c = page_long c.bytes.result.now c.look.new.buf.bytes c.bytes.ensures (c.look.ensures.room ∙ c.loop-i.invariant.room) c.args.ring.now.served.size

pub returns-clause-reaches : goal.returns-clause-reaches
returns-clause-reaches g c = λ told. subst (λ (k : ℕ). AreReaches (page_at (g.F.Flash.state c.args.flash.now)) (shape_of c.args.ring.now) c.args.m.at k c.loop-i.reaches) (le_antisymm c.loop-i.auto.i-end c.loop-i-test.false) (c.loop-i.invariant.reaches told)

pub loop-i-init : goal.loop-i-init
loop-i-init g c = record { reads = no_reads (g.F.Flash.state c.args.flash.now); room = c.requires.room; few = le_refl 0; reach = λ told. refl; reaches = λ told. below_none _ }

pub overflow_add-i : goal.overflow_add-i
overflow_add-i g c = record { fits = next_small c.loop-i.i c.args.m.kept c.args.ring.now.first_block c.args.ring.now.blocks c.args.ring.now.per_block c.loop-i-test.true c.requires.within.kept c.args.ring.now.reach }

pub reach_from-reach-requires-clause-few : goal.reach_from-reach-requires-clause-few
reach_from-reach-requires-clause-few g c = sum_small c.loop-i.i c.loop-i.invariant.few (next_small c.loop-i.i c.args.m.kept c.args.ring.now.first_block c.args.ring.now.blocks c.args.ring.now.per_block c.loop-i-test.true c.requires.within.kept c.args.ring.now.reach)

pub overflow_cast-reaches : goal.overflow_cast-reaches
overflow_cast-reaches g c = record { fits = index_small (next_small c.loop-i.i c.args.m.kept c.args.ring.now.first_block c.args.ring.now.blocks c.args.ring.now.per_block c.loop-i-test.true c.requires.within.kept c.args.ring.now.reach) }

pub offset_bounds-reaches-i : goal.offset_bounds-reaches-i
offset_bounds-reaches-i g c = record { fits = offset_small c.loop-i.i (next_small c.loop-i.i c.args.m.kept c.args.ring.now.first_block c.args.ring.now.blocks c.args.ring.now.per_block c.loop-i-test.true c.requires.within.kept c.args.ring.now.reach) }

pub bounds-reaches-i : goal.bounds-reaches-i
bounds-reaches-i g c = listed-on c.loop-i.auto.reaches c.requires.listed c.loop-i-test.true
