use Rattle.std.proofs.Common.{ℕ, inl, inr, sym, ◌∙◌, ap, arith, subst, ◌≡◌, le_antisymm}
use Rattle.std.proofs.lemmas.Bool.{cases_eq, false≢true}
use Rattle.std.proofs.lemmas.Result.{err_from_is_err_and}
use borrow.Author.Count.{below_none}
use Rattle.fl_ring.specs.Head.{seals}
use Rattle.fl_ring.specs.Looking.{state_at}
use Rattle.fl_ring.specs.Place.{shape_of}
use Rattle.fl_ring.proofs.Exists.{page_exists}
use Rattle.fl_ring.proofs.ReadsInTurn.{same_state, fewer_reads, mark_fits}
use Rattle.fl_frame.proofs.ReadsInTurn.{more_reads, told_still, no_reads}
use Rattle.fl_rules.specs.Marks.{kept_page}
use Rattle.fl_flash.specs.Flash.{page_at}
use Rattle.fl_rules.specs.Claims.{AllBelow}
use Rattle.fl_rules.specs.States.{IsSealed}
use Rattle.fl_rules.proofs.OneMorePage.{one_read, read_fails, some_back, few_back, look_room, state_read}
use Rattle.fl_rules.proofs.rule_2_state.first_unsealed.Goals as goal

pub look-requires-clause-exists : goal.look-requires-clause-exists
look-requires-clause-exists g c =
    page_exists c.args.ring.now (g.F.Flash.state c.args.flash.now) (g.F.Flash.state c.loop-i.flash) c.loop-i.i c.page_back-page.result c.requires.lies c.loop-i.invariant.reads c.page_back-page.ensures.within

pub loop-i-preserved : goal.loop-i-preserved
loop-i-preserved g c =
    let first = g.F.Flash.state c.args.flash.now in
    let before = g.F.Flash.state c.loop-i.flash in
    let reads = c.loop-i.invariant.reads in
    record {
      reads = more_reads first before (g.F.Flash.state c.look.new.flash) c.loop-i.i 1 reads c.look.ensures.reads;
      room = c.look.ensures.room ∙ c.loop-i.invariant.room;
      sealed = λ told i lt. elim (cases_eq i c.loop-i.i) [
        | inl same ↦
            ap (λ (k : ℕ). seals (state_at first (kept_page (shape_of c.args.ring.now) c.args.m k))) same
            ∙ ap (λ (p : ℕ). seals (state_at first p)) (sym c.page_back-page.ensures.page)
            ∙ ap seals (sym (c.in_ok-state.ensures.state (told_still first before c.loop-i.i reads told) ∙ same_state first before c.loop-i.i c.page_back-page.result reads))
            ∙ sym c.is_sealed.ensures ∙ c.if-not-is_sealed.false
        | inr other ↦ c.loop-i.invariant.sealed told i (omega (arith, other, lt))
      ];
    }

pub page_back-page-requires-clause-place : goal.page_back-page-requires-clause-place
page_back-page-requires-clause-place g c = c.requires.within.at

pub page_back-page-requires-clause-some : goal.page_back-page-requires-clause-some
page_back-page-requires-clause-some g c = some_back c.loop-i-test.true

pub page_back-page-requires-clause-few : goal.page_back-page-requires-clause-few
page_back-page-requires-clause-few g c = few_back _ c.requires.within.kept

pub returns-in_err-state-clause-reads : goal.returns-in_err-state-clause-reads
returns-in_err-state-clause-reads g c = one_read (g.F.Flash.state c.args.flash.now) (g.F.Flash.state c.loop-i.flash) (g.F.Flash.state c.look.new.flash) c.loop-i.i c.args.m.kept c.loop-i.invariant.reads c.look.ensures.reads c.loop-i-test.true

pub returns-in_err-state-clause-room : goal.returns-in_err-state-clause-room
returns-in_err-state-clause-room g c = c.look.ensures.room ∙ c.loop-i.invariant.room

pub returns-in_err-state-clause-none : goal.returns-in_err-state-clause-none
returns-in_err-state-clause-none g c =
    let p = err_from_is_err_and c.from_residual.result c.from_residual.ensures.1 in
    rw p.1 tt

pub returns-in_err-state-clause-some : goal.returns-in_err-state-clause-some
returns-in_err-state-clause-some g c =
    let p = err_from_is_err_and c.from_residual.result c.from_residual.ensures.1 in
    rw p.1 tt

pub returns-in_err-state-clause-within : goal.returns-in_err-state-clause-within
returns-in_err-state-clause-within g c =
    let p = err_from_is_err_and c.from_residual.result c.from_residual.ensures.1 in
    rw p.1 tt

pub returns-in_err-state-clause-fails : goal.returns-in_err-state-clause-fails
returns-in_err-state-clause-fails g c =
    let p = err_from_is_err_and c.from_residual.result c.from_residual.ensures.1 in
    rw (p.1, p.2) (read_fails (g.F.Flash.state c.args.flash.now) (g.F.Flash.state c.loop-i.flash) (g.F.Flash.state c.look.new.flash) c.loop-i.i 0 c.loop-i.invariant.reads c.in_err-state.field-0.0 c.in_err-state.ensures.fails)

pub returns-then-not-is_sealed-clause-reads : goal.returns-then-not-is_sealed-clause-reads
returns-then-not-is_sealed-clause-reads g c = one_read (g.F.Flash.state c.args.flash.now) (g.F.Flash.state c.loop-i.flash) (g.F.Flash.state c.look.new.flash) c.loop-i.i c.args.m.kept c.loop-i.invariant.reads c.look.ensures.reads c.loop-i-test.true

pub returns-then-not-is_sealed-clause-room : goal.returns-then-not-is_sealed-clause-room
returns-then-not-is_sealed-clause-room g c = c.look.ensures.room ∙ c.loop-i.invariant.room

pub returns-then-not-is_sealed-clause-within : goal.returns-then-not-is_sealed-clause-within
returns-then-not-is_sealed-clause-within g c = c.loop-i-test.true

pub returns-clause-reads : goal.returns-clause-reads
returns-clause-reads g c = fewer_reads (g.F.Flash.state c.args.flash.now) (g.F.Flash.state c.loop-i.flash) c.loop-i.i c.args.m.kept c.loop-i.invariant.reads c.loop-i.auto.i-end

pub returns-clause-room : goal.returns-clause-room
returns-clause-room g c = c.loop-i.invariant.room

pub returns-clause-none : goal.returns-clause-none
returns-clause-none g c = λ told. subst (λ (k : ℕ). AllBelow (IsSealed (page_at (g.F.Flash.state c.args.flash.now)) (shape_of c.args.ring.now) c.args.m) k)
    (le_antisymm c.loop-i.auto.i-end c.loop-i-test.false) (c.loop-i.invariant.sealed told)

pub look-requires-clause-room : goal.look-requires-clause-room
look-requires-clause-room g c = look_room c.args.ring.now (g.F.Flash.state c.args.flash.now) (g.F.Flash.state c.loop-i.flash) c.loop-i.i _ c.requires.lies c.loop-i.invariant.reads c.loop-i.invariant.room

pub look-requires-clause-size : goal.look-requires-clause-size
look-requires-clause-size g c = mark_fits _ _ c.loop-i.invariant.room c.args.ring.now.served.size

pub loop-i-init : goal.loop-i-init
loop-i-init g c = record { reads = no_reads (g.F.Flash.state c.args.flash.now); room = c.requires.room; sealed = λ told. below_none _ }

pub returns-then-not-is_sealed-clause-none : goal.returns-then-not-is_sealed-clause-none
returns-then-not-is_sealed-clause-none g c = λ told. tt

pub returns-then-not-is_sealed-clause-some : goal.returns-then-not-is_sealed-clause-some
returns-then-not-is_sealed-clause-some g c =
    let f = g.F.Flash.state c.args.flash.now in
    let before = g.F.Flash.state c.loop-i.flash in
    let r = shape_of c.args.ring.now in
    λ told.
    let state : c.in_ok-state.state ≡ state_at f (kept_page r c.args.m c.loop-i.i) =
    state_read f before (g.F.Flash.state c.look.new.flash) c.loop-i.i 0 c.loop-i.invariant.reads c.page_back-page.result (kept_page r c.args.m c.loop-i.i) c.page_back-page.ensures.page told c.in_ok-state.state c.in_ok-state.ensures.state in
    record {
      within = c.loop-i-test.true;
      before = c.loop-i.invariant.sealed told;
      here = λ is. false≢true (sym c.if-not-is_sealed.true ∙ c.is_sealed.ensures ∙ ap seals state ∙ is);
    }

pub returns-then-not-is_sealed-clause-fails : goal.returns-then-not-is_sealed-clause-fails
returns-then-not-is_sealed-clause-fails g c = tt

pub returns-clause-some : goal.returns-clause-some
returns-clause-some g c = λ told. tt

pub returns-clause-within : goal.returns-clause-within
returns-clause-within g c = tt

pub returns-clause-fails : goal.returns-clause-fails
returns-clause-fails g c = tt

pub overflow_sub-m : goal.overflow_sub-m
overflow_sub-m g c = c.loop-i.auto.i-end
