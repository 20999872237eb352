use Rattle.std.proofs.Common.{refl, ◌∙◌, ◌≡◌, ℕ, ◌+◌, ◌-◌, List, sym, ap, subst, arith, le-add_right, le_antisymm}
use Rattle.std.proofs.lemmas.Result.{err_from_is_err_and}
use Rattle.std.proofs.lemmas.Bool.{false≢true}
use Rattle.fl_ring.proofs.Exists.{page_exists}
use Rattle.fl_ring.proofs.ReadsInTurn.{fewer_reads, mark_fits}
use Rattle.fl_flash.specs.Flash.{page_at}
use Rattle.fl_ring.specs.Place.{shape_of}
use Rattle.fl_frame.proofs.ReadsInTurn.{no_reads, more_reads}
use Rattle.fl_rules.proofs.OneMorePage.{one_read, read_fails, some_back, few_back, bytes_read, state_read, look_room, page_long, page_brief}
use Rattle.fl_rules.proofs.OneMoreBody.{all_formed, one_formed, not_due, formed, not_committed, unformed}
use Rattle.fl_ring.specs.Looking.{state_at}
use Rattle.fl_ring.specs.Newest.{commits}
use Rattle.fl_rules.specs.Bodies.{HasBody}
use Rattle.fl_rules.specs.Claims.{AllBelow}
use Rattle.fl_rules.specs.Marks.{kept_page}
use Rattle.fl_rules.proofs.rule_4_body.first_unformed.Goals as goal
use Rattle.fl_rules.proofs.rule_4_body.first_unformed.Goals.{then-is_committed+else-not-is_of, else-is_committed}

pub look-requires-clause-exists : goal.look-requires-clause-exists
look-requires-clause-exists g c =
    page_exists c.args.ring.now (g.F.Flash.state c.args.flash.now) (g.F.Flash.state c.loop-i.flash) c.loop-i.i c.page_back-page.result c.requires.lies c.loop-i.invariant.reads c.page_back-page.ensures.within

pub loop-i-init : goal.loop-i-init
loop-i-init g c = record { reads = no_reads (g.F.Flash.state c.args.flash.now); room = c.requires.room; formed = λ told. all_formed (g.B.Form.holds c.args.form.now) (page_at (g.F.Flash.state c.args.flash.now)) (shape_of c.args.ring.now) c.args.n 0 refl }

pub page_back-page-requires-clause-place : goal.page_back-page-requires-clause-place
page_back-page-requires-clause-place g c = c.requires.within.at

pub page_back-page-requires-clause-some : goal.page_back-page-requires-clause-some
page_back-page-requires-clause-some g c = some_back c.loop-i-test.true

pub page_back-page-requires-clause-few : goal.page_back-page-requires-clause-few
page_back-page-requires-clause-few g c = few_back _ c.requires.within.kept

pub returns-in_err-state-clause-reads : goal.returns-in_err-state-clause-reads
returns-in_err-state-clause-reads g c = one_read (g.F.Flash.state c.args.flash.now) (g.F.Flash.state c.loop-i.flash) (g.F.Flash.state c.look.new.flash) c.loop-i.i c.args.n.marks.kept c.loop-i.invariant.reads c.look.ensures.reads c.loop-i-test.true

pub returns-in_err-state-clause-room : goal.returns-in_err-state-clause-room
returns-in_err-state-clause-room g c = c.look.ensures.room ∙ c.loop-i.invariant.room

pub returns-in_err-state-clause-fails : goal.returns-in_err-state-clause-fails
returns-in_err-state-clause-fails g c =
    let p = err_from_is_err_and c.from_residual.result c.from_residual.ensures.1 in
    rw (p.1, p.2) (read_fails (g.F.Flash.state c.args.flash.now) (g.F.Flash.state c.loop-i.flash) (g.F.Flash.state c.look.new.flash) c.loop-i.i 0 c.loop-i.invariant.reads c.in_err-state.field-0.0 c.in_err-state.ensures.fails)

pub returns-in_err-state-clause-none : goal.returns-in_err-state-clause-none
returns-in_err-state-clause-none g c =
    let p = err_from_is_err_and c.from_residual.result c.from_residual.ensures.1 in
    rw p.1 tt

pub returns-in_err-state-clause-some : goal.returns-in_err-state-clause-some
returns-in_err-state-clause-some g c =
    let p = err_from_is_err_and c.from_residual.result c.from_residual.ensures.1 in
    rw p.1 tt

pub returns-in_err-state-clause-within : goal.returns-in_err-state-clause-within
returns-in_err-state-clause-within g c =
    let p = err_from_is_err_and c.from_residual.result c.from_residual.ensures.1 in
    rw p.1 tt

pub returns-clause-room : goal.returns-clause-room
returns-clause-room g c = c.loop-i.invariant.room

pub returns-clause-some : goal.returns-clause-some
returns-clause-some g c = λ told. tt

pub returns-clause-within : goal.returns-clause-within
returns-clause-within g c = tt

pub returns-clause-fails : goal.returns-clause-fails
returns-clause-fails g c = tt

pub loop-i-preserved-in_default : goal.loop-i-preserved-in_default
loop-i-preserved-in_default g c =
    let f = g.F.Flash.state c.args.flash.now in
    let holds = g.B.Form.holds c.args.form.now in
    let r = shape_of c.args.ring.now in
    let i = c.loop-i.i in
    record {
      reads = fewer_reads f (g.F.Flash.state c.loop-i.flash) i (i + 1) c.loop-i.invariant.reads (le-add_right i 1);
      room = c.loop-i.invariant.room;
      formed = λ told. one_formed holds (page_at f) r c.args.n i (c.loop-i.invariant.formed told) (not_due holds (page_at f) r c.args.n i c.in_default.ensures);
    }

pub loop-i-preserved : goal.loop-i-preserved
loop-i-preserved g c =
    let f = g.F.Flash.state c.args.flash.now in
    let before = g.F.Flash.state c.loop-i.flash in
    let after = g.F.Flash.state c.look.new.flash in
    let r = shape_of c.args.ring.now in
    let n = c.args.n in
    let i = c.loop-i.i in
    let reads = c.loop-i.invariant.reads in
    let holds = g.B.Form.holds c.args.form.now in
    let is : c.in-Some.number + (n.marks.kept - i) ≡ n.next = omega (arith, c.in-Some.ensures) in
    record {
      reads = more_reads f before after i 1 reads c.look.ensures.reads;
      room = c.look.ensures.room ∙ c.loop-i.invariant.room;
      formed = λ told.
          let state : c.in_ok-state.state ≡ state_at f (kept_page r n.marks i) = state_read f before after i 0 reads c.page_back-page.result (kept_page r n.marks i) c.page_back-page.ensures.page told c.in_ok-state.state c.in_ok-state.ensures.state in
          let bytes : c.look.new.buf.bytes ≡ page_at f (kept_page r n.marks i) = bytes_read f before after i 0 reads c.page_back-page.result (kept_page r n.marks i) c.page_back-page.ensures.page told c.look.new.buf.bytes c.in_ok-state.ensures.bytes in
          one_formed holds (page_at f) r n i (c.loop-i.invariant.formed told) (elim c.if-is_committed.branch [
            | then-is_committed+else-not-is_of w ↦
                formed holds (page_at f) r n i c.in-Some.number is (subst (λ (l : List ℕ). holds c.in-Some.number l) (w.bytes.ensures ∙ bytes) (w.is_of.ensures.exact.0 w.if-not-is_of.false))
            | else-is_committed w ↦ not_committed holds (page_at f) r n i (ap commits (sym state) ∙ sym c.is_committed.ensures ∙ w.if-is_committed.false)
          ]);
    }

pub returns-then-not-is_of-clause-reads : goal.returns-then-not-is_of-clause-reads
returns-then-not-is_of-clause-reads g c = one_read (g.F.Flash.state c.args.flash.now) (g.F.Flash.state c.loop-i.flash) (g.F.Flash.state c.look.new.flash) c.loop-i.i c.args.n.marks.kept c.loop-i.invariant.reads c.look.ensures.reads c.loop-i-test.true

pub returns-then-not-is_of-clause-room : goal.returns-then-not-is_of-clause-room
returns-then-not-is_of-clause-room g c = c.look.ensures.room ∙ c.loop-i.invariant.room

pub returns-then-not-is_of-clause-some : goal.returns-then-not-is_of-clause-some
returns-then-not-is_of-clause-some g c =
    let f = g.F.Flash.state c.args.flash.now in
    let before = g.F.Flash.state c.loop-i.flash in
    let after = g.F.Flash.state c.look.new.flash in
    let r = shape_of c.args.ring.now in
    let n = c.args.n in
    let i = c.loop-i.i in
    let reads = c.loop-i.invariant.reads in
    let holds = g.B.Form.holds c.args.form.now in
    let is : c.in-Some.number + (n.marks.kept - i) ≡ n.next = omega (arith, c.in-Some.ensures) in
    λ told.
    let state : c.in_ok-state.state ≡ state_at f (kept_page r n.marks i) = state_read f before after i 0 reads c.page_back-page.result (kept_page r n.marks i) c.page_back-page.ensures.page told c.in_ok-state.state c.in_ok-state.ensures.state in
    let bytes : c.look.new.buf.bytes ≡ page_at f (kept_page r n.marks i) = bytes_read f before after i 0 reads c.page_back-page.result (kept_page r n.marks i) c.page_back-page.ensures.page told c.look.new.buf.bytes c.in_ok-state.ensures.bytes in
    unformed holds (page_at f) r n i c.loop-i-test.true (c.loop-i.invariant.formed told) c.in-Some.number is (ap commits (sym state) ∙ sym c.is_committed.ensures ∙ c.if-is_committed.true)
    (λ form. false≢true (sym c.if-not-is_of.true ∙ c.is_of.ensures.exact.1 (subst (λ (l : List ℕ). holds c.in-Some.number l) (sym (c.bytes.ensures ∙ bytes)) form)))

pub returns-then-not-is_of-clause-within : goal.returns-then-not-is_of-clause-within
returns-then-not-is_of-clause-within g c = c.loop-i-test.true

pub returns-clause-reads : goal.returns-clause-reads
returns-clause-reads g c = fewer_reads (g.F.Flash.state c.args.flash.now) (g.F.Flash.state c.loop-i.flash) c.loop-i.i c.args.n.marks.kept c.loop-i.invariant.reads c.loop-i.auto.i-end

pub returns-clause-none : goal.returns-clause-none
returns-clause-none g c = λ told. subst (λ (k : ℕ). AllBelow (HasBody (g.B.Form.holds c.args.form.now) (page_at (g.F.Flash.state c.args.flash.now)) (shape_of c.args.ring.now) c.args.n) k)
    (le_antisymm c.loop-i.auto.i-end c.loop-i-test.false) (c.loop-i.invariant.formed told)

pub look-requires-clause-room : goal.look-requires-clause-room
look-requires-clause-room g c = look_room c.args.ring.now (g.F.Flash.state c.args.flash.now) (g.F.Flash.state c.loop-i.flash) c.loop-i.i _ c.requires.lies c.loop-i.invariant.reads c.loop-i.invariant.room

pub look-requires-clause-size : goal.look-requires-clause-size
look-requires-clause-size g c = mark_fits _ _ c.loop-i.invariant.room c.args.ring.now.served.size

pub is_of-requires-clause-least : goal.is_of-requires-clause-least
is_of-requires-clause-least g c = page_long c.bytes.result.now c.look.new.buf.bytes c.bytes.ensures (c.look.ensures.room ∙ c.loop-i.invariant.room) c.args.ring.now.served.size

pub is_of-requires-clause-most : goal.is_of-requires-clause-most
is_of-requires-clause-most g c = page_brief c.bytes.result.now c.look.new.buf.bytes c.bytes.ensures (c.look.ensures.room ∙ c.loop-i.invariant.room) c.args.ring.now.small_pages

pub returns-then-not-is_of-clause-none : goal.returns-then-not-is_of-clause-none
returns-then-not-is_of-clause-none g c = λ told. tt

pub returns-then-not-is_of-clause-fails : goal.returns-then-not-is_of-clause-fails
returns-then-not-is_of-clause-fails g c = tt

pub overflow_sub-back : goal.overflow_sub-back
overflow_sub-back g c = c.loop-i.auto.i-end
