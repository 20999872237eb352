use Rattle.std.proofs.Common.{◌≡◌, ℕ, List, sym, ◌∙◌, ap, refl, le_antisymm}
use Rattle.std.proofs.lemmas.Result.{err_from_is_err_and}
use Rattle.fl_flash.specs.Flash.{page_at}
use Rattle.fl_ring.specs.Place.{shape_of}
use Rattle.fl_ring.proofs.Exists.{page_exists}
use Rattle.fl_ring.proofs.ReadsInTurn.{fewer_reads, mark_fits}
use Rattle.fl_frame.proofs.ReadsInTurn.{more_reads, same_page, told_still, no_reads}
use Rattle.fl_rules.specs.Marks.{kept_page}
use Rattle.fl_rules.specs.Tally.{listed_after, listed_to}
use Rattle.fl_rules.proofs.Tallies.{listed_next}
use Rattle.fl_rules.proofs.OneMorePage.{one_read, read_fails, some_back, few_back, look_room, page_long}
use Rattle.fl_rules.proofs.tally.find_end.Goals as goal

pub look-requires-clause-exists : goal.look-requires-clause-exists
look-requires-clause-exists g c =
    page_exists c.args.ring.now (g.F.Flash.state c.args.flash.now) (g.F.Flash.state c.loop-i.flash) c.loop-i.i c.page_back-page.result c.requires.lies c.loop-i.invariant.reads c.page_back-page.ensures.within

pub loop-i-preserved : goal.loop-i-preserved
loop-i-preserved g c =
    let first = g.F.Flash.state c.args.flash.now in
    let before = g.F.Flash.state c.loop-i.flash in
    let r = shape_of c.args.ring.now in
    let m = c.args.m in
    let reads = c.loop-i.invariant.reads in
    record {
      reads = more_reads first before (g.F.Flash.state c.look.new.flash) c.loop-i.i 1 reads c.look.ensures.reads;
      room = c.look.ensures.room ∙ c.loop-i.invariant.room;
      end = λ told.
          let bytes : c.look.new.buf.bytes ≡ page_at first (kept_page r m c.loop-i.i) = c.in_ok-look.ensures.bytes (told_still first before c.loop-i.i reads told) ∙ same_page first before c.loop-i.i c.page_back-page.result reads
          ∙ ap (page_at first) c.page_back-page.ensures.page in
          c.end_after-end.ensures
          ∙ ap (λ (b : List ℕ). listed_after c.args.per_page b c.loop-i.end) (c.bytes.ensures ∙ bytes)
          ∙ ap (λ (k : ℕ). listed_after c.args.per_page (page_at first (kept_page r m c.loop-i.i)) k) (c.loop-i.invariant.end told)
          ∙ sym (listed_next c.args.per_page (page_at first) r m c.loop-i.i);
    }

pub page_back-page-requires-clause-place : goal.page_back-page-requires-clause-place
page_back-page-requires-clause-place g c = c.requires.within.at

pub page_back-page-requires-clause-some : goal.page_back-page-requires-clause-some
page_back-page-requires-clause-some g c = some_back c.loop-i-test.true

pub page_back-page-requires-clause-few : goal.page_back-page-requires-clause-few
page_back-page-requires-clause-few g c = few_back _ c.requires.within.kept

pub returns-in_err-look-clause-reads : goal.returns-in_err-look-clause-reads
returns-in_err-look-clause-reads g c = one_read (g.F.Flash.state c.args.flash.now) (g.F.Flash.state c.loop-i.flash) (g.F.Flash.state c.look.new.flash) c.loop-i.i c.args.m.kept c.loop-i.invariant.reads c.look.ensures.reads c.loop-i-test.true

pub returns-in_err-look-clause-room : goal.returns-in_err-look-clause-room
returns-in_err-look-clause-room g c = c.look.ensures.room ∙ c.loop-i.invariant.room

pub returns-in_err-look-clause-end : goal.returns-in_err-look-clause-end
returns-in_err-look-clause-end g c =
    let p = err_from_is_err_and c.from_residual.result c.from_residual.ensures.1 in
    rw p.1 tt

pub returns-in_err-look-clause-fails : goal.returns-in_err-look-clause-fails
returns-in_err-look-clause-fails g c =
    let p = err_from_is_err_and c.from_residual.result c.from_residual.ensures.1 in
    rw (p.1, p.2) (read_fails (g.F.Flash.state c.args.flash.now) (g.F.Flash.state c.loop-i.flash) (g.F.Flash.state c.look.new.flash) c.loop-i.i 0 c.loop-i.invariant.reads c.in_err-look.field-0.0 c.in_err-look.ensures.fails)

pub returns-clause-reads : goal.returns-clause-reads
returns-clause-reads g c = fewer_reads (g.F.Flash.state c.args.flash.now) (g.F.Flash.state c.loop-i.flash) c.loop-i.i c.args.m.kept c.loop-i.invariant.reads c.loop-i.auto.i-end

pub returns-clause-room : goal.returns-clause-room
returns-clause-room g c = c.loop-i.invariant.room

pub look-requires-clause-room : goal.look-requires-clause-room
look-requires-clause-room g c = look_room c.args.ring.now (g.F.Flash.state c.args.flash.now) (g.F.Flash.state c.loop-i.flash) c.loop-i.i _ c.requires.lies c.loop-i.invariant.reads c.loop-i.invariant.room

pub look-requires-clause-size : goal.look-requires-clause-size
look-requires-clause-size g c = mark_fits _ _ c.loop-i.invariant.room c.args.ring.now.served.size

pub loop-i-init : goal.loop-i-init
loop-i-init g c = record { reads = no_reads (g.F.Flash.state c.args.flash.now); room = c.requires.room; end = λ told. refl }

pub end_after-end-requires : goal.end_after-end-requires
end_after-end-requires g c = page_long c.bytes.result.now c.look.new.buf.bytes c.bytes.ensures (c.look.ensures.room ∙ c.loop-i.invariant.room) c.args.ring.now.served.size

pub returns-clause-end : goal.returns-clause-end
returns-clause-end g c = λ told. c.loop-i.invariant.end told ∙ ap (listed_to c.args.per_page (page_at (g.F.Flash.state c.args.flash.now)) (shape_of c.args.ring.now) c.args.m) (le_antisymm c.loop-i.auto.i-end c.loop-i-test.false)

pub returns-clause-fails : goal.returns-clause-fails
returns-clause-fails g c = tt

pub overflow_sub-m : goal.overflow_sub-m
overflow_sub-m g c = c.loop-i.auto.i-end
