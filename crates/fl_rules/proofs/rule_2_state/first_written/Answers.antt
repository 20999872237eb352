use Rattle.std.proofs.Common.{◌≡◌, ℕ, ◌+◌, ◌*◌, ◌<◌, ◌≤◌, List, inl, inr, sym, ◌∙◌, ap, subst, arith}
use Rattle.std.proofs.Math.Nat.{add-mul}
use Rattle.std.proofs.lemmas.Bool.{cases_eq, true≢false}
use Rattle.std.proofs.lemmas.Result.{err_from_is_err_and}
use Rattle.fl_flash.specs.Flash.{page_at}
use Rattle.fl_frame.proofs.ReadsInTurn.{more_reads, none_read}
use Rattle.fl_ring.specs.Front.{blanks}
use Rattle.fl_ring.specs.Looking.{state_at}
use Rattle.fl_ring.specs.Place.{shape_of}
use Rattle.fl_ring.specs.Ring.{Shape}
use Rattle.fl_ring.proofs.Exists.{page_exists}
use Rattle.fl_ring.proofs.ReadsInTurn.{fewer_reads, mark_fits}
use Rattle.fl_rules.specs.States.{IsBlankAfter, AreBlank, page_after}
use Rattle.fl_rules.proofs.OneMorePage.{one_read, read_fails, state_read, look_room}
use Rattle.fl_rules.proofs.rule_2_state.first_written.Goals as goal

-- ---- the pages so far

none-blank : (page : ℕ → List ℕ) (r : Shape) (at from : ℕ) → AreBlank page r at from from
none-blank page r at from k low high = absurd (omega (arith, low, high))

more-blank : (page : ℕ → List ℕ) (r : Shape) (at from j : ℕ) → AreBlank page r at from j → IsBlankAfter page r at j → AreBlank page r at from (j + 1)
more-blank page r at from j before here k low high = elim (cases_eq k j) [
  | inl same ↦ subst (IsBlankAfter page r at) (sym same) here
  | inr other ↦ before k low (omega (arith, other, high))
]

blank-to : (page : ℕ → List ℕ) (r : Shape) (at from j to : ℕ) → to ≤ j → AreBlank page r at from j → AreBlank page r at from to
blank-to page r at from j to end before k low high = before k low (omega (arith, end, high))

in-ring : (p first blocks per_block : ℕ) → p < first * per_block + blocks * per_block → p < (first + blocks) * per_block
in-ring p first blocks per_block lt = omega (arith, lt, add-mul first blocks per_block)

before-end : {j to room : ℕ} → j < to → to ≤ room → j ≤ room
before-end lt few = omega (arith, lt, few)

-- ---- the loop

pub look-requires-clause-exists : goal.look-requires-clause-exists
look-requires-clause-exists g c =
    let ring = c.args.ring.now in
    page_exists ring (g.F.Flash.state c.args.flash.now) (g.F.Flash.state c.loop-j.flash) c.loop-j.j c.page_after-page.result c.requires.lies c.loop-j.invariant.reads
    (in-ring c.page_after-page.result ring.first_block ring.blocks ring.per_block c.page_after-page.ensures.within)

pub loop-j-init : goal.loop-j-init
loop-j-init g c =
    let f = g.F.Flash.state c.args.flash.now in
    record {
      reads = none_read f c.args.from;
      room = c.requires.room;
      blank = λ told. none-blank (page_at f) (shape_of c.args.ring.now) c.args.at c.args.from;
    }

pub loop-j-preserved : goal.loop-j-preserved
loop-j-preserved g c =
    let f = g.F.Flash.state c.args.flash.now in
    let before = g.F.Flash.state c.loop-j.flash in
    let after = g.F.Flash.state c.look.new.flash in
    let r = shape_of c.args.ring.now in
    let reads = c.loop-j.invariant.reads in
    record {
      reads = more_reads f before after c.loop-j.j 1 reads c.look.ensures.reads;
      room = c.look.ensures.room ∙ c.loop-j.invariant.room;
      blank = λ told.
          let state : c.in_ok-state.state ≡ state_at f (page_after r c.args.at c.loop-j.j) =
          state_read f before after c.loop-j.j 0 reads c.page_after-page.result (page_after r c.args.at c.loop-j.j) c.page_after-page.ensures.page told c.in_ok-state.state c.in_ok-state.ensures.state in
          more-blank (page_at f) r c.args.at c.args.from c.loop-j.j (c.loop-j.invariant.blank told) (ap blanks (sym state) ∙ sym c.is_blank.ensures ∙ c.if-not-is_blank.false);
    }

-- ---- the ends

pub returns-in_err-state-clause-reads : goal.returns-in_err-state-clause-reads
returns-in_err-state-clause-reads g c = one_read (g.F.Flash.state c.args.flash.now) (g.F.Flash.state c.loop-j.flash) (g.F.Flash.state c.look.new.flash) c.loop-j.j c.args.to c.loop-j.invariant.reads c.look.ensures.reads c.loop-j-test.true

pub returns-in_err-state-clause-room : goal.returns-in_err-state-clause-room
returns-in_err-state-clause-room g c = c.look.ensures.room ∙ c.loop-j.invariant.room

pub returns-in_err-state-clause-none : goal.returns-in_err-state-clause-none
returns-in_err-state-clause-none g c =
    let p = err_from_is_err_and c.from_residual.result c.from_residual.ensures.1 in
    rw p.1 tt

pub returns-in_err-state-clause-some : goal.returns-in_err-state-clause-some
returns-in_err-state-clause-some g c =
    let p = err_from_is_err_and c.from_residual.result c.from_residual.ensures.1 in
    rw p.1 tt

pub returns-in_err-state-clause-within : goal.returns-in_err-state-clause-within
returns-in_err-state-clause-within g c =
    let p = err_from_is_err_and c.from_residual.result c.from_residual.ensures.1 in
    rw p.1 tt

pub returns-in_err-state-clause-fails : goal.returns-in_err-state-clause-fails
returns-in_err-state-clause-fails g c =
    let p = err_from_is_err_and c.from_residual.result c.from_residual.ensures.1 in
    rw (p.1, p.2) (read_fails (g.F.Flash.state c.args.flash.now) (g.F.Flash.state c.loop-j.flash) (g.F.Flash.state c.look.new.flash) c.loop-j.j 0 c.loop-j.invariant.reads c.in_err-state.field-0.0 c.in_err-state.ensures.fails)

pub returns-then-not-is_blank-clause-reads : goal.returns-then-not-is_blank-clause-reads
returns-then-not-is_blank-clause-reads g c = one_read (g.F.Flash.state c.args.flash.now) (g.F.Flash.state c.loop-j.flash) (g.F.Flash.state c.look.new.flash) c.loop-j.j c.args.to c.loop-j.invariant.reads c.look.ensures.reads c.loop-j-test.true

pub returns-then-not-is_blank-clause-room : goal.returns-then-not-is_blank-clause-room
returns-then-not-is_blank-clause-room g c = c.look.ensures.room ∙ c.loop-j.invariant.room

pub returns-then-not-is_blank-clause-none : goal.returns-then-not-is_blank-clause-none
returns-then-not-is_blank-clause-none g c = λ told. tt

pub returns-then-not-is_blank-clause-some : goal.returns-then-not-is_blank-clause-some
returns-then-not-is_blank-clause-some g c =
    let f = g.F.Flash.state c.args.flash.now in
    let before = g.F.Flash.state c.loop-j.flash in
    let after = g.F.Flash.state c.look.new.flash in
    let r = shape_of c.args.ring.now in
    let reads = c.loop-j.invariant.reads in
    λ told.
    let state : c.in_ok-state.state ≡ state_at f (page_after r c.args.at c.loop-j.j) =
    state_read f before after c.loop-j.j 0 reads c.page_after-page.result (page_after r c.args.at c.loop-j.j) c.page_after-page.ensures.page told c.in_ok-state.state c.in_ok-state.ensures.state in
    record {
      low = c.loop-j.auto.j;
      high = c.loop-j-test.true;
      before = c.loop-j.invariant.blank told;
      here = λ blank. true≢false (sym blank ∙ ap blanks (sym state) ∙ sym c.is_blank.ensures ∙ c.if-not-is_blank.true);
    }

pub returns-then-not-is_blank-clause-within : goal.returns-then-not-is_blank-clause-within
returns-then-not-is_blank-clause-within g c = c.loop-j-test.true

pub returns-then-not-is_blank-clause-fails : goal.returns-then-not-is_blank-clause-fails
returns-then-not-is_blank-clause-fails g c = tt

pub returns-clause-reads : goal.returns-clause-reads
returns-clause-reads g c = fewer_reads (g.F.Flash.state c.args.flash.now) (g.F.Flash.state c.loop-j.flash) c.loop-j.j c.args.to c.loop-j.invariant.reads (c.loop-j.auto.j-end c.requires.ordered)

pub returns-clause-room : goal.returns-clause-room
returns-clause-room g c = c.loop-j.invariant.room

pub returns-clause-none : goal.returns-clause-none
returns-clause-none g c = λ told. blank-to (page_at (g.F.Flash.state c.args.flash.now)) (shape_of c.args.ring.now) c.args.at c.args.from c.loop-j.j c.args.to c.loop-j-test.false (c.loop-j.invariant.blank told)

pub returns-clause-some : goal.returns-clause-some
returns-clause-some g c = λ told. tt

pub returns-clause-within : goal.returns-clause-within
returns-clause-within g c = tt

pub returns-clause-fails : goal.returns-clause-fails
returns-clause-fails g c = tt

pub page_after-page-requires-clause-place : goal.page_after-page-requires-clause-place
page_after-page-requires-clause-place g c = c.requires.place

pub page_after-page-requires-clause-few : goal.page_after-page-requires-clause-few
page_after-page-requires-clause-few g c = before-end c.loop-j-test.true c.requires.few

pub look-requires-clause-room : goal.look-requires-clause-room
look-requires-clause-room g c = look_room c.args.ring.now (g.F.Flash.state c.args.flash.now) (g.F.Flash.state c.loop-j.flash) c.loop-j.j _ c.requires.lies c.loop-j.invariant.reads c.loop-j.invariant.room

pub look-requires-clause-size : goal.look-requires-clause-size
look-requires-clause-size g c = mark_fits _ _ c.loop-j.invariant.room c.args.ring.now.served.size
