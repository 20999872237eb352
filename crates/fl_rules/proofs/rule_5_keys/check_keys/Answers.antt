use Rattle.std.proofs.Common.{rules, ℕ, IsTrue, ◌∙◌, ap, refl, subst, le_antisymm}
use Rattle.std.proofs.lemmas.Result.{err_from_is_err_and}
use borrow.Author.Count.{below_none}
use Rattle.fl_flash.specs.Flash.{page_at}
use Rattle.fl_ring.specs.Place.{shape_of}
use Rattle.fl_ring.proofs.Exists.{page_exists}
use Rattle.fl_frame.proofs.ReadsInTurn.{more_reads, same_page, told_still, no_reads}
use Rattle.fl_schema.specs.Schema.{layout_of}
use Rattle.fl_rules.proofs.LastKeys.{last_for, rise_more, falls_for}
use Rattle.fl_rules.proofs.OneMorePage.{one_read, read_fails, some_back, few_back, look_room, header_long}
use Rattle.fl_ring.proofs.ReadsInTurn.{mark_fits, fewer_reads}
use Rattle.fl_rules.specs.Claims.{AllBelow}
use Rattle.fl_rules.specs.Rising.{Rises}
use Rattle.fl_rules.proofs.rule_5_keys.check_keys.Goals as goal

pub look-requires-clause-exists : goal.look-requires-clause-exists
look-requires-clause-exists g c =
    page_exists c.args.ring.now (g.F.Flash.state c.args.flash.now) (g.F.Flash.state c.loop-i.flash) c.loop-i.i c.page_back-page.result c.requires.lies c.loop-i.invariant.reads c.page_back-page.ensures.within

pub returns-in_err-last-clause-broken : goal.returns-in_err-last-clause-broken
returns-in_err-last-clause-broken g c =
    let p = err_from_is_err_and c.from_residual-in_err-last.result c.from_residual-in_err-last.ensures.1 in
    let first = g.F.Flash.state c.args.flash.now in
    let before = g.F.Flash.state c.loop-i.flash in
    let reads = c.loop-i.invariant.reads in
    rw (p.1, p.2) (λ told rows.
    falls_for (layout_of c.args.schema.now) (page_at first) (shape_of c.args.ring.now) c.args.m c.loop-i.i c.loop-i.last c.bytes.result.now
    (c.bytes.ensures ∙ c.in_ok-look.ensures.bytes (told_still first before c.loop-i.i reads told) ∙ same_page first before c.loop-i.i c.page_back-page.result reads ∙ ap (λ (q : ℕ). page_at first q) c.page_back-page.ensures.page)
    (c.loop-i.invariant.last told) c.in_err-last.field-0.0 c.page_back-page.result c.loop-i-test.true (c.loop-i.invariant.rise told) c.in_err-last.ensures.falls rows c.in_err-last.ensures.broken c.page_back-page.ensures.page)

pub loop-i-preserved : goal.loop-i-preserved
loop-i-preserved g c =
    let first = g.F.Flash.state c.args.flash.now in
    let before = g.F.Flash.state c.loop-i.flash in
    let reads = c.loop-i.invariant.reads in
    let layout = layout_of c.args.schema.now in
    let r = shape_of c.args.ring.now in
    let same = λ (told : IsTrue (g.F.Flash.state c.args.flash.now).media.tells). c.bytes.ensures ∙ c.in_ok-look.ensures.bytes (told_still first before c.loop-i.i reads told) ∙ same_page first before c.loop-i.i c.page_back-page.result reads
    ∙ ap (λ (q : ℕ). page_at first q) c.page_back-page.ensures.page in
    record {
      reads = more_reads first before (g.F.Flash.state c.look.new.flash) c.loop-i.i 1 reads c.look.ensures.reads;
      room = c.look.ensures.room ∙ c.loop-i.invariant.room;
      last = λ told. last_for layout (page_at first) r c.args.m c.loop-i.i c.loop-i.last c.bytes.result.now (same told) (c.loop-i.invariant.last told) c.in_ok-last.last c.in_ok-last.ensures.last;
      rise = λ told. rise_more layout (page_at first) r c.args.m c.loop-i.i c.loop-i.last c.bytes.result.now (same told) (c.loop-i.invariant.last told) (c.loop-i.invariant.rise told) c.in_ok-last.ensures.rises;
    }

pub page_back-page-requires-clause-place : goal.page_back-page-requires-clause-place
page_back-page-requires-clause-place g c = c.requires.within.at

pub page_back-page-requires-clause-some : goal.page_back-page-requires-clause-some
page_back-page-requires-clause-some g c = some_back c.loop-i-test.true

pub page_back-page-requires-clause-few : goal.page_back-page-requires-clause-few
page_back-page-requires-clause-few g c = few_back _ c.requires.within.kept

pub returns-in_err-look-clause-reads : goal.returns-in_err-look-clause-reads
returns-in_err-look-clause-reads g c = one_read (g.F.Flash.state c.args.flash.now) (g.F.Flash.state c.loop-i.flash) (g.F.Flash.state c.look.new.flash) c.loop-i.i c.args.m.kept c.loop-i.invariant.reads c.look.ensures.reads c.loop-i-test.true

pub returns-in_err-look-clause-room : goal.returns-in_err-look-clause-room
returns-in_err-look-clause-room g c = c.look.ensures.room ∙ c.loop-i.invariant.room

pub returns-in_err-look-clause-keys : goal.returns-in_err-look-clause-keys
returns-in_err-look-clause-keys g c =
    let p = err_from_is_err_and c.from_residual.result c.from_residual.ensures.1 in
    rw p.1 tt

pub returns-in_err-last-clause-reads : goal.returns-in_err-last-clause-reads
returns-in_err-last-clause-reads g c = one_read (g.F.Flash.state c.args.flash.now) (g.F.Flash.state c.loop-i.flash) (g.F.Flash.state c.look.new.flash) c.loop-i.i c.args.m.kept c.loop-i.invariant.reads c.look.ensures.reads c.loop-i-test.true

pub returns-in_err-last-clause-room : goal.returns-in_err-last-clause-room
returns-in_err-last-clause-room g c = c.look.ensures.room ∙ c.loop-i.invariant.room

pub returns-in_err-last-clause-keys : goal.returns-in_err-last-clause-keys
returns-in_err-last-clause-keys g c =
    let p = err_from_is_err_and c.from_residual-in_err-last.result c.from_residual-in_err-last.ensures.1 in
    rw p.1 tt

pub returns-in_err-look-clause-broken : goal.returns-in_err-look-clause-broken
returns-in_err-look-clause-broken g c =
    let p = err_from_is_err_and c.from_residual.result c.from_residual.ensures.1 in
    rw (p.1, p.2) tt

pub returns-in_err-look-clause-fails : goal.returns-in_err-look-clause-fails
returns-in_err-look-clause-fails g c =
    let p = err_from_is_err_and c.from_residual.result c.from_residual.ensures.1 in
    rw (p.1, p.2) (read_fails (g.F.Flash.state c.args.flash.now) (g.F.Flash.state c.loop-i.flash) (g.F.Flash.state c.look.new.flash) c.loop-i.i 0 c.loop-i.invariant.reads c.in_err-look.field-0.0 c.in_err-look.ensures.fails)

pub returns-in_err-last-clause-fails : goal.returns-in_err-last-clause-fails
returns-in_err-last-clause-fails g c =
    let p = err_from_is_err_and c.from_residual-in_err-last.result c.from_residual-in_err-last.ensures.1 in
    rw (p.1, p.2) tt

pub returns-clause-room : goal.returns-clause-room
returns-clause-room g c = c.loop-i.invariant.room

pub returns-clause-broken : goal.returns-clause-broken
returns-clause-broken g c = tt

pub returns-clause-fails : goal.returns-clause-fails
returns-clause-fails g c = tt

pub look-requires-clause-room : goal.look-requires-clause-room
look-requires-clause-room g c = look_room c.args.ring.now (g.F.Flash.state c.args.flash.now) (g.F.Flash.state c.loop-i.flash) c.loop-i.i _ c.requires.lies c.loop-i.invariant.reads c.loop-i.invariant.room

pub look-requires-clause-size : goal.look-requires-clause-size
look-requires-clause-size g c = mark_fits _ _ c.loop-i.invariant.room c.args.ring.now.served.size

pub loop-i-init : goal.loop-i-init
loop-i-init g c = record { reads = no_reads (g.F.Flash.state c.args.flash.now); room = c.requires.room; last = λ told. refl; rise = λ told. below_none _ }

pub last_after-requires : goal.last_after-requires
last_after-requires g c = (search rules, header_long c.bytes.result.now c.look.new.buf.bytes c.bytes.ensures (c.look.ensures.room ∙ c.loop-i.invariant.room) c.args.ring.now.served.size)

pub returns-clause-reads : goal.returns-clause-reads
returns-clause-reads g c = fewer_reads (g.F.Flash.state c.args.flash.now) (g.F.Flash.state c.loop-i.flash) c.loop-i.i c.args.m.kept c.loop-i.invariant.reads c.loop-i.auto.i-end

pub returns-clause-keys : goal.returns-clause-keys
returns-clause-keys g c =
    λ told. subst (λ (k : ℕ). AllBelow (Rises (layout_of c.args.schema.now) (page_at (g.F.Flash.state c.args.flash.now)) (shape_of c.args.ring.now) c.args.m) k)
    (le_antisymm c.loop-i.auto.i-end c.loop-i-test.false) (c.loop-i.invariant.rise told)

pub overflow_sub-m : goal.overflow_sub-m
overflow_sub-m g c = c.loop-i.auto.i-end
