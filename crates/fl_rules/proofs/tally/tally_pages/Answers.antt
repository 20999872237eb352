use Rattle.std.proofs.Common.{◌≡◌, ℕ, List, sym, ◌∙◌, ap, subst, arith, le_antisymm}
use Rattle.fl_flash.specs.Flash.{page_at}
use Rattle.fl_ring.specs.Place.{shape_of}
use Rattle.fl_ring.proofs.Exists.{page_exists}
use Rattle.fl_ring.proofs.ReadsInTurn.{fewer_reads, mark_fits}
use Rattle.fl_frame.proofs.ReadsInTurn.{more_reads, same_page, told_still, no_reads}
use Rattle.fl_schema.specs.Schema.{layout_of}
use Rattle.fl_rules.specs.Marks.{kept_page}
use Rattle.fl_rules.specs.Rising.{HasRows}
use Rattle.fl_rules.specs.Tally.{with_page, tally_of}
use Rattle.fl_rules.specs.declared.tally.Tally.{Tally}
use Rattle.fl_rules.proofs.Tallies.{tally_next}
use Rattle.std.proofs.lemmas.Result.{err_from_is_err_and}
use Rattle.fl_rules.proofs.OneMorePage.{one_read, read_fails, some_back, few_back, look_room, page_long, page_short, none_least}
use Rattle.fl_rules.proofs.Rooms.{next_small, sum_small, count_left}
use Rattle.fl_rules.proofs.tally.tally_pages.Goals as goal

pub look-requires-clause-exists : goal.look-requires-clause-exists
look-requires-clause-exists g c =
    page_exists c.args.ring.now (g.F.Flash.state c.args.flash.now) (g.F.Flash.state c.loop-i.flash) c.loop-i.i c.page_back-page.result c.requires.lies c.loop-i.invariant.reads c.page_back-page.ensures.within

pub loop-i-preserved : goal.loop-i-preserved
loop-i-preserved g c =
    let first = g.F.Flash.state c.args.flash.now in
    let before = g.F.Flash.state c.loop-i.flash in
    let r = shape_of c.args.ring.now in
    let m = c.args.m in
    let layout = layout_of c.args.schema.now in
    let reads = c.loop-i.invariant.reads in
    record {
      reads = more_reads first before (g.F.Flash.state c.look.new.flash) c.loop-i.i 1 reads c.look.ensures.reads;
      room = omega (arith, c.look.ensures.room, c.loop-i.invariant.room);
      few_rows = omega (arith, c.with_page-tally.ensures.few, c.loop-i.invariant.few_rows);
      few_voids = omega (arith, c.with_page-tally.ensures.few_voids, c.loop-i.invariant.few_voids);
      tally = λ told have.
          let bytes : c.bytes.result.now ≡ page_at first (kept_page r m c.loop-i.i) = c.bytes.ensures ∙ c.in_ok-look.ensures.bytes (told_still first before c.loop-i.i reads told) ∙ same_page first before c.loop-i.i c.page_back-page.result reads
          ∙ ap (page_at first) c.page_back-page.ensures.page in
          c.with_page-tally.ensures.exact (subst (HasRows layout) (sym bytes) (have c.loop-i.i c.loop-i-test.true))
          ∙ ap (λ (b : List ℕ). with_page layout b c.loop-i.tally) bytes
          ∙ ap (λ (t : Tally). with_page layout (page_at first (kept_page r m c.loop-i.i)) t) (c.loop-i.invariant.tally told have)
          ∙ sym (tally_next layout (page_at first) r m c.loop-i.i);
    }

pub page_back-page-requires-clause-place : goal.page_back-page-requires-clause-place
page_back-page-requires-clause-place g c = c.requires.within.at

pub page_back-page-requires-clause-some : goal.page_back-page-requires-clause-some
page_back-page-requires-clause-some g c = some_back c.loop-i-test.true

pub page_back-page-requires-clause-few : goal.page_back-page-requires-clause-few
page_back-page-requires-clause-few g c = few_back _ c.requires.within.kept

pub returns-in_err-look-clause-reads : goal.returns-in_err-look-clause-reads
returns-in_err-look-clause-reads g c = one_read (g.F.Flash.state c.args.flash.now) (g.F.Flash.state c.loop-i.flash) (g.F.Flash.state c.look.new.flash) c.loop-i.i c.args.m.kept c.loop-i.invariant.reads c.look.ensures.reads c.loop-i-test.true

pub returns-in_err-look-clause-room : goal.returns-in_err-look-clause-room
returns-in_err-look-clause-room g c = c.look.ensures.room ∙ c.loop-i.invariant.room

pub returns-in_err-look-clause-tally : goal.returns-in_err-look-clause-tally
returns-in_err-look-clause-tally g c =
    let p = err_from_is_err_and c.from_residual.result c.from_residual.ensures.1 in
    rw p.1 tt

pub returns-in_err-look-clause-fails : goal.returns-in_err-look-clause-fails
returns-in_err-look-clause-fails g c =
    let p = err_from_is_err_and c.from_residual.result c.from_residual.ensures.1 in
    rw (p.1, p.2) (read_fails (g.F.Flash.state c.args.flash.now) (g.F.Flash.state c.loop-i.flash) (g.F.Flash.state c.look.new.flash) c.loop-i.i 0 c.loop-i.invariant.reads c.in_err-look.field-0.0 c.in_err-look.ensures.fails)

pub returns-clause-reads : goal.returns-clause-reads
returns-clause-reads g c = fewer_reads (g.F.Flash.state c.args.flash.now) (g.F.Flash.state c.loop-i.flash) c.loop-i.i c.args.m.kept c.loop-i.invariant.reads c.loop-i.auto.i-end

pub returns-clause-room : goal.returns-clause-room
returns-clause-room g c = c.loop-i.invariant.room

pub returns-clause-fails : goal.returns-clause-fails
returns-clause-fails g c = tt

pub look-requires-clause-room : goal.look-requires-clause-room
look-requires-clause-room g c = look_room c.args.ring.now (g.F.Flash.state c.args.flash.now) (g.F.Flash.state c.loop-i.flash) c.loop-i.i _ c.requires.lies c.loop-i.invariant.reads c.loop-i.invariant.room

pub look-requires-clause-size : goal.look-requires-clause-size
look-requires-clause-size g c = mark_fits _ _ c.loop-i.invariant.room c.args.ring.now.served.size

pub with_page-tally-requires-clause-size : goal.with_page-tally-requires-clause-size
with_page-tally-requires-clause-size g c = page_long c.bytes.result.now c.look.new.buf.bytes c.bytes.ensures (c.look.ensures.room ∙ c.loop-i.invariant.room) c.args.ring.now.served.size

pub with_page-tally-requires-clause-short : goal.with_page-tally-requires-clause-short
with_page-tally-requires-clause-short g c = page_short c.bytes.result.now c.look.new.buf.bytes c.bytes.ensures (c.look.ensures.room ∙ c.loop-i.invariant.room) c.args.ring.now.small_pages

pub returns-clause-tally : goal.returns-clause-tally
returns-clause-tally g c = λ told have. c.loop-i.invariant.tally told have ∙ ap (tally_of (layout_of c.args.schema.now) (page_at (g.F.Flash.state c.args.flash.now)) (shape_of c.args.ring.now) c.args.m) (le_antisymm c.loop-i.auto.i-end c.loop-i-test.false)

pub loop-i-init : goal.loop-i-init
loop-i-init g c =
    record {
      reads = no_reads (g.F.Flash.state c.args.flash.now);
      room = c.requires.room;
      few_rows = none_least (ap (λ (t : Tally). t.rows) c.of_no_pages-tally.ensures);
      few_voids = none_least (ap (λ (t : Tally). t.voids) c.of_no_pages-tally.ensures);
      tally = λ told have. c.of_no_pages-tally.ensures;
    }

pub overflow_sub-m : goal.overflow_sub-m
overflow_sub-m g c = c.loop-i.auto.i-end

pub with_page-tally-requires-clause-few : goal.with_page-tally-requires-clause-few
with_page-tally-requires-clause-few g c = sum_small c.loop-i.i c.loop-i.invariant.few_rows (next_small c.loop-i.i c.args.m.kept c.args.ring.now.first_block c.args.ring.now.blocks c.args.ring.now.per_block c.loop-i-test.true c.requires.within.kept c.args.ring.now.reach)

pub with_page-tally-requires-clause-few_voids : goal.with_page-tally-requires-clause-few_voids
with_page-tally-requires-clause-few_voids g c = count_left c.loop-i.invariant.few_voids (next_small c.loop-i.i c.args.m.kept c.args.ring.now.first_block c.args.ring.now.blocks c.args.ring.now.per_block c.loop-i-test.true c.requires.within.kept c.args.ring.now.reach)
