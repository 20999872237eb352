use Rattle.std.proofs.Common.{ℕ, ◌∙◌, ap, arith, ◌<◌, ◌≤◌, subst, le_refl}
use Rattle.fl_flash.specs.Flash.{page_at}
use Rattle.fl_ring.specs.Looking.{state_at}
use Rattle.fl_ring.specs.Place.{shape_of}
use Rattle.fl_ring.proofs.Exists.{page_exists}
use Rattle.fl_ring.proofs.ReadsInTurn.{same_state, fewer_reads, mark_fits}
use Rattle.fl_frame.proofs.ReadsInTurn.{more_reads, told_still, no_reads}
use Rattle.fl_rules.proofs.Heads.{stepped_for, gap_for, ordered_for}
use Rattle.std.proofs.lemmas.Result.{err_from_is_err_and}
use Rattle.fl_rules.proofs.OneMorePage.{one_read, read_fails, look_room, none_least, none_under, some_of, state_read}
use Rattle.fl_ring.specs.Head.{page_in}
use Rattle.fl_rules.proofs.marks.read_head.Goals as goal

pub look-requires-clause-exists : goal.look-requires-clause-exists
look-requires-clause-exists g c =
    page_exists c.args.ring.now (g.F.Flash.state c.args.flash.now) (g.F.Flash.state c.loop-i.flash) c.loop-i.i c.page_in-page.result c.requires.lies c.loop-i.invariant.reads c.page_in-page.ensures.within

pub loop-i-preserved : goal.loop-i-preserved
loop-i-preserved g c =
    let first = g.F.Flash.state c.args.flash.now in
    let before = g.F.Flash.state c.loop-i.flash in
    let r = shape_of c.args.ring.now in
    let reads = c.loop-i.invariant.reads in
    record {
      reads = more_reads first before (g.F.Flash.state c.look.new.flash) c.loop-i.i 1 reads c.look.ensures.reads;
      room = omega (arith, c.look.ensures.room, c.loop-i.invariant.room);
      front = λ told. stepped_for (page_at first) r c.args.head c.loop-i.i c.per_block-count.result c.loop-i.front c.step.new.self c.in_ok-state.state c.per_block-count.ensures.pages
          (c.step.ensures.front c.if-not-step.false) (c.loop-i.invariant.front told)
          (c.in_ok-state.ensures.state (told_still first before c.loop-i.i reads told) ∙ same_state first before c.loop-i.i c.page_in-page.result reads
          ∙ ap (λ (p : ℕ). state_at first p) c.page_in-page.ensures.page);
      sealed = c.step.ensures.sealed;
      below = omega (arith, c.step.ensures.below, c.per_block-count.ensures.pages);
    }

pub page_in-page-requires-clause-block : goal.page_in-page-requires-clause-block
page_in-page-requires-clause-block g c = c.requires.head

pub page_in-page-requires-clause-page : goal.page_in-page-requires-clause-page
page_in-page-requires-clause-page g c = subst (λ (k : ℕ). c.loop-i.i < k) c.per_block-count.ensures.pages c.loop-i-test.true

pub returns-in_err-state-clause-reads : goal.returns-in_err-state-clause-reads
returns-in_err-state-clause-reads g c =
    let r = shape_of c.args.ring.now in
    one_read (g.F.Flash.state c.args.flash.now) (g.F.Flash.state c.loop-i.flash) (g.F.Flash.state c.look.new.flash) c.loop-i.i r.per_block c.loop-i.invariant.reads c.look.ensures.reads
    (subst (λ (k : ℕ). c.loop-i.i < k) c.per_block-count.ensures.pages c.loop-i-test.true)

pub returns-in_err-state-clause-room : goal.returns-in_err-state-clause-room
returns-in_err-state-clause-room g c = c.look.ensures.room ∙ c.loop-i.invariant.room

pub returns-in_err-state-clause-ordered : goal.returns-in_err-state-clause-ordered
returns-in_err-state-clause-ordered g c =
    let p = err_from_is_err_and c.from_residual.result c.from_residual.ensures.1 in
    rw p.1 tt

pub returns-in_err-state-clause-sealed : goal.returns-in_err-state-clause-sealed
returns-in_err-state-clause-sealed g c =
    let p = err_from_is_err_and c.from_residual.result c.from_residual.ensures.1 in
    rw p.1 tt

pub returns-in_err-state-clause-within : goal.returns-in_err-state-clause-within
returns-in_err-state-clause-within g c =
    let p = err_from_is_err_and c.from_residual.result c.from_residual.ensures.1 in
    rw p.1 tt

pub returns-in_err-state-clause-fails : goal.returns-in_err-state-clause-fails
returns-in_err-state-clause-fails g c =
    let p = err_from_is_err_and c.from_residual.result c.from_residual.ensures.1 in
    rw (p.1, p.2) (read_fails (g.F.Flash.state c.args.flash.now) (g.F.Flash.state c.loop-i.flash) (g.F.Flash.state c.look.new.flash) c.loop-i.i 0 c.loop-i.invariant.reads c.in_err-state.field-0.0 c.in_err-state.ensures.fails)

pub returns-then-not-step-clause-reads : goal.returns-then-not-step-clause-reads
returns-then-not-step-clause-reads g c =
    let r = shape_of c.args.ring.now in
    one_read (g.F.Flash.state c.args.flash.now) (g.F.Flash.state c.loop-i.flash) (g.F.Flash.state c.look.new.flash) c.loop-i.i r.per_block c.loop-i.invariant.reads c.look.ensures.reads
    (subst (λ (k : ℕ). c.loop-i.i < k) c.per_block-count.ensures.pages c.loop-i-test.true)

pub returns-then-not-step-clause-room : goal.returns-then-not-step-clause-room
returns-then-not-step-clause-room g c = c.look.ensures.room ∙ c.loop-i.invariant.room

pub returns-then-not-step-clause-sealed : goal.returns-then-not-step-clause-sealed
returns-then-not-step-clause-sealed g c = subst (λ (k : ℕ). c.step.new.self.sealed < k) c.per_block-count.ensures.pages c.step.ensures.below

pub returns-then-not-step-clause-fails : goal.returns-then-not-step-clause-fails
returns-then-not-step-clause-fails g c = tt

pub returns-clause-reads : goal.returns-clause-reads
returns-clause-reads g c =
    fewer_reads (g.F.Flash.state c.args.flash.now) (g.F.Flash.state c.loop-i.flash) c.loop-i.i _ c.loop-i.invariant.reads (subst (λ (k : ℕ). c.loop-i.i ≤ k) c.per_block-count.ensures.pages c.loop-i.auto.i-end)

pub returns-clause-room : goal.returns-clause-room
returns-clause-room g c = c.loop-i.invariant.room

pub returns-clause-sealed : goal.returns-clause-sealed
returns-clause-sealed g c = c.loop-i.invariant.below

pub returns-clause-within : goal.returns-clause-within
returns-clause-within g c = subst (λ (k : ℕ). c.per_block-count.result ≤ k) c.per_block-count.ensures.pages (le_refl c.per_block-count.result)

pub returns-clause-fails : goal.returns-clause-fails
returns-clause-fails g c = tt

pub look-requires-clause-room : goal.look-requires-clause-room
look-requires-clause-room g c = look_room c.args.ring.now (g.F.Flash.state c.args.flash.now) (g.F.Flash.state c.loop-i.flash) c.loop-i.i _ c.requires.lies c.loop-i.invariant.reads c.loop-i.invariant.room

pub look-requires-clause-size : goal.look-requires-clause-size
look-requires-clause-size g c = mark_fits _ _ c.loop-i.invariant.room c.args.ring.now.served.size

pub loop-i-init : goal.loop-i-init
loop-i-init g c =
    record {
      reads = no_reads (g.F.Flash.state c.args.flash.now);
      room = c.requires.room;
      front = λ told. c.new-front.ensures.front _ _ (some_of c.args.ring.now.served.per_block);
      sealed = none_least c.new-front.ensures.sealed;
      below = none_under c.new-front.ensures.sealed c.args.ring.now.served.per_block;
    }

pub step-requires-clause-page : goal.step-requires-clause-page
step-requires-clause-page g c = c.loop-i-test.true

pub step-requires-clause-sealed : goal.step-requires-clause-sealed
step-requires-clause-sealed g c = c.loop-i.invariant.sealed

pub returns-then-not-step-clause-ordered : goal.returns-then-not-step-clause-ordered
returns-then-not-step-clause-ordered g c =
    let first = g.F.Flash.state c.args.flash.now in
    let before = g.F.Flash.state c.loop-i.flash in
    let r = shape_of c.args.ring.now in
    let reads = c.loop-i.invariant.reads in
    λ told.
    gap_for (page_at first) r c.args.head c.loop-i.i c.loop-i.front c.step.new.self c.in_ok-state.state (subst (λ (k : ℕ). c.loop-i.i < k) c.per_block-count.ensures.pages c.loop-i-test.true)
    (c.step.ensures.same c.if-not-step.true) (c.step.ensures.gap c.if-not-step.true)
    (state_read first before (g.F.Flash.state c.look.new.flash) c.loop-i.i 0 reads c.page_in-page.result (page_in r c.args.head c.loop-i.i) c.page_in-page.ensures.page told c.in_ok-state.state c.in_ok-state.ensures.state)
    (c.loop-i.invariant.front told)

pub returns-then-not-step-clause-within : goal.returns-then-not-step-clause-within
returns-then-not-step-clause-within g c = subst (λ (k : ℕ). c.loop-i.i ≤ k) c.per_block-count.ensures.pages c.loop-i.auto.i-end

pub returns-clause-ordered : goal.returns-clause-ordered
returns-clause-ordered g c =
    λ told.
    ordered_for (page_at (g.F.Flash.state c.args.flash.now)) (shape_of c.args.ring.now) c.args.head c.loop-i.i c.per_block-count.result c.loop-i.front c.per_block-count.ensures.pages c.loop-i.auto.i-end c.loop-i-test.false
    (c.loop-i.invariant.front told)
