use Rattle.std.proofs.Common.{◌≡◌, ℕ, ◌+◌, List, [], ◌∷◌, ◌++◌, length, length-append, sym, ◌∙◌, ap, arith}
use Rattle.fl_flash.specs.Flash.{page_at}
use Rattle.fl_mark.specs.Mark.{state_of_page}
use Rattle.fl_mark.specs.declared.page_state.PageState.{PageState}
use Rattle.fl_ring.specs.Place.{shape_of}
use Rattle.fl_ring.specs.Ring.{room}
use Rattle.fl_ring.proofs.ReadsInTurn.{same_state, fewer_reads}
use Rattle.fl_frame.proofs.ReadsInTurn.{more_reads, same_page, told_still}
use Rattle.fl_map.specs.Pages.{states_to, with_page}
use Rattle.fl_map.specs.declared.note.Figures.{Figures}
use Rattle.fl_map.proofs.Pages.{states_next, figures_next, is_there}
use Rattle.fl_map.proofs.Ends.{none-if, none-on}
use Rattle.fl_map.proofs.ring.read_pages.Goals as goal

pub look-requires-clause-exists : goal.look-requires-clause-exists
look-requires-clause-exists g c =
    let there = is_there c.args.ring.now (g.F.Flash.state c.args.flash.now) (g.F.Flash.state c.loop-i.flash) c.loop-i.i c.loop-i.i c.requires.lies c.loop-i.invariant.reads
    (omega (arith, c.loop-i-test.true, c.room-i-end.ensures.pages)) in
    omega (arith, c.first_page.ensures, there)

pub returns-in_err-push-clause-reads : goal.returns-in_err-push-clause-reads
returns-in_err-push-clause-reads g c =
    fewer_reads (g.F.Flash.state c.args.flash.now) (g.F.Flash.state c.look.new.flash) (c.loop-i.i + 1) (room (shape_of c.args.ring.now)) (more_reads (g.F.Flash.state c.args.flash.now) (g.F.Flash.state c.loop-i.flash) (g.F.Flash.state c.look.new.flash) c.loop-i.i 1 c.loop-i.invariant.reads c.look.ensures.reads) (omega (arith, c.loop-i-test.true, c.room-i-end.ensures.pages))

pub loop-i-preserved : goal.loop-i-preserved
loop-i-preserved g c =
    let first = g.F.Flash.state c.args.flash.now in
    let before = g.F.Flash.state c.loop-i.flash in
    let r = shape_of c.args.ring.now in
    let reads = c.loop-i.invariant.reads in
    let place : c.first_page.result + c.loop-i.i ≡ r.first + c.loop-i.i = ap (λ (p : ℕ). p + c.loop-i.i) c.first_page.ensures in
    let page = c.first_page.result + c.loop-i.i in
    let row_len = c.args.row_len in
    record {
      reads = more_reads first before (g.F.Flash.state c.look.new.flash) c.loop-i.i 1 reads c.look.ensures.reads;
      room = omega (arith, c.look.ensures.room, c.loop-i.invariant.room);
      count = ap (λ (l : List PageState). length l) c.in_ok-push.ensures.items ∙ length-append c.loop-i.states.items (c.in_ok-state.state ∷ []) ∙ ap (λ (n : ℕ). n + 1) c.loop-i.invariant.count;
      few = omega (arith, c.with_page-figures.ensures.few, c.loop-i.invariant.few);
      few_rows = omega (arith, c.with_page-figures.ensures.few_rows, c.loop-i.invariant.few_rows);
      states = λ told.
          let state = c.in_ok-state.ensures.state (told_still first before c.loop-i.i reads told) ∙ same_state first before c.loop-i.i page reads ∙ ap (λ (p : ℕ). state_of_page (page_at first p)) place in
          c.in_ok-push.ensures.items
          ∙ ap (λ (l : List PageState). l ++ c.in_ok-state.state ∷ []) (c.loop-i.invariant.states told)
          ∙ ap (λ (s : PageState). states_to (page_at first) r.first c.loop-i.i ++ s ∷ []) state
          ∙ sym (states_next (page_at first) r.first c.loop-i.i);
      figures = λ told.
          let bytes : c.bytes.result.now ≡ page_at first (r.first + c.loop-i.i) =
          c.bytes.ensures ∙ c.in_ok-state.ensures.bytes (told_still first before c.loop-i.i reads told) ∙ same_page first before c.loop-i.i page reads ∙ ap (page_at first) place in
          c.with_page-figures.ensures.exact
          ∙ ap (λ (b : List ℕ). with_page row_len b c.loop-i.figures) bytes
          ∙ ap (λ (f : Figures). with_page row_len (page_at first (r.first + c.loop-i.i)) f) (c.loop-i.invariant.figures told)
          ∙ sym (figures_next row_len (page_at first) r.first c.loop-i.i);
    }

pub returns-in_err-state-clause-reads : goal.returns-in_err-state-clause-reads
returns-in_err-state-clause-reads g c =
    fewer_reads (g.F.Flash.state c.args.flash.now) (g.F.Flash.state c.look.new.flash) (c.loop-i.i + 1) (room (shape_of c.args.ring.now)) (more_reads (g.F.Flash.state c.args.flash.now) (g.F.Flash.state c.loop-i.flash) (g.F.Flash.state c.look.new.flash) c.loop-i.i 1 c.loop-i.invariant.reads c.look.ensures.reads) (omega (arith, c.loop-i-test.true, c.room-i-end.ensures.pages))

pub returns-in_err-state-clause-room : goal.returns-in_err-state-clause-room
returns-in_err-state-clause-room g c = c.look.ensures.room ∙ c.loop-i.invariant.room

pub returns-in_err-state-clause-count : goal.returns-in_err-state-clause-count
returns-in_err-state-clause-count g c = none-on c.from_residual.result _ c.from_residual.ensures.0

pub returns-in_err-state-clause-few : goal.returns-in_err-state-clause-few
returns-in_err-state-clause-few g c = none-on c.from_residual.result _ c.from_residual.ensures.0

pub returns-in_err-state-clause-states : goal.returns-in_err-state-clause-states
returns-in_err-state-clause-states g c = none-on c.from_residual.result _ c.from_residual.ensures.0

pub returns-in_err-state-clause-figures : goal.returns-in_err-state-clause-figures
returns-in_err-state-clause-figures g c = none-if c.from_residual.result _ c.from_residual.ensures.0

pub returns-in_err-push-clause-room : goal.returns-in_err-push-clause-room
returns-in_err-push-clause-room g c = c.look.ensures.room ∙ c.loop-i.invariant.room

pub returns-in_err-push-clause-count : goal.returns-in_err-push-clause-count
returns-in_err-push-clause-count g c = none-on c.from_residual-in_err-push.result _ c.from_residual-in_err-push.ensures.0

pub returns-in_err-push-clause-few : goal.returns-in_err-push-clause-few
returns-in_err-push-clause-few g c = none-on c.from_residual-in_err-push.result _ c.from_residual-in_err-push.ensures.0

pub returns-in_err-push-clause-states : goal.returns-in_err-push-clause-states
returns-in_err-push-clause-states g c = none-on c.from_residual-in_err-push.result _ c.from_residual-in_err-push.ensures.0

pub returns-in_err-push-clause-figures : goal.returns-in_err-push-clause-figures
returns-in_err-push-clause-figures g c = none-if c.from_residual-in_err-push.result _ c.from_residual-in_err-push.ensures.0

pub with_page-figures-requires-clause-least : goal.with_page-figures-requires-clause-least
with_page-figures-requires-clause-least g c = rw (c.bytes.ensures, c.look.ensures.room, c.loop-i.invariant.room) c.requires.size.0

pub with_page-figures-requires-clause-most : goal.with_page-figures-requires-clause-most
with_page-figures-requires-clause-most g c = rw (c.bytes.ensures, c.look.ensures.room, c.loop-i.invariant.room) c.requires.size.1

pub with_page-figures-requires-clause-short : goal.with_page-figures-requires-clause-short
with_page-figures-requires-clause-short g c = c.requires.short

pub returns-clause-room : goal.returns-clause-room
returns-clause-room g c = c.loop-i.invariant.room
