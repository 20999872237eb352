use Rattle.std.proofs.Common.{◌≡◌, ℕ, List, true, sym, ◌∙◌, ap, subst, arith}
use Rattle.std.proofs.lemmas.Bool.{true≢false}
use Rattle.std.proofs.lemmas.Result.{err_from_is_err_and}
use Rattle.fl_flash.specs.Flash.{page_at}
use Rattle.fl_mark.specs.Mark.{state_of_page}
use Rattle.fl_page.specs.Header.{page_number}
use Rattle.fl_page.specs.Page.{IsGoodPage, rows_in}
use Rattle.fl_ring.specs.Newest.{commits}
use Rattle.fl_ring.specs.Place.{shape_of}
use Rattle.fl_ring.proofs.Exists.{page_exists}
use Rattle.fl_ring.proofs.ReadsInTurn.{fewer_reads}
use Rattle.fl_frame.proofs.ReadsInTurn.{more_reads, same_page, told_still}
use Rattle.fl_schema.specs.Schema.{layout_of}
use Rattle.fl_rules.specs.Marks.{kept_page}
use Rattle.fl_rules.specs.References.{RowsLead}
use Rattle.fl_rules.proofs.OneMorePage.{one_read, read_fails, some_back, few_back}
use Rattle.fl_check.proofs.RowsLead.{page_not, page_next, committed_as}
use Rattle.fl_check.proofs.rule_7_blob.find_misleading.Goals as goal
use Rattle.fl_check.proofs.rule_7_blob.find_misleading.Goals.{then-is_committed+else-not-page_leads, else-is_committed}

pub look-requires-clause-exists : goal.look-requires-clause-exists
look-requires-clause-exists g c =
    page_exists c.args.ring.now (g.F.Flash.state c.args.flash.now) (g.F.Flash.state c.loop-i.flash) c.loop-i.i c.page_back-place.result c.requires.lies c.loop-i.invariant.reads c.page_back-place.ensures.within

pub returns-then-not-page_leads-clause-some : goal.returns-then-not-page_leads-clause-some
returns-then-not-page_leads-clause-some g c = λ told forms measured.
    let f = g.F.Flash.state c.args.flash.now in
    let h = g.F.Flash.state c.loop-i.flash in
    let reads = c.loop-i.invariant.reads in
    let r = shape_of c.args.blobs.now.ring.now in
    let n = c.args.blobs.now.numbering in
    let layout = layout_of c.args.schema.now in
    let place = c.page_back-place.result in
    let later = told_still f h c.loop-i.i reads told in
    let bytes_are : c.look.new.buf.bytes ≡ page_at f (kept_page (shape_of c.args.ring.now) c.args.m c.loop-i.i) =
    c.in_ok-state.ensures.bytes later ∙ same_page f h c.loop-i.i place reads ∙ ap (page_at f) c.page_back-place.ensures.page in
    let committed : commits (state_of_page c.look.new.buf.bytes) ≡ true =
    committed_as c.look.new.buf.bytes (page_at h place) c.in_ok-state.state c.is_committed.result (c.in_ok-state.ensures.bytes later) (c.in_ok-state.ensures.state later) c.is_committed.ensures ∙ c.if-is_committed.true in
    page_not (page_at f) layout (shape_of c.args.ring.now) c.args.m r n c.loop-i.i c.loop-i-test.true c.look.new.buf.bytes bytes_are place c.page_back-place.ensures.page committed
    (subst (λ (l : List ℕ). RowsLead (page_at f) r n (rows_in layout l) → ⊥) c.bytes.ensures (c.page_leads.ensures.no c.if-not-page_leads.true (page_at f) measured))
    (c.loop-i.invariant.lead told forms measured)

pub loop-i-preserved : goal.loop-i-preserved
loop-i-preserved g c =
    let f = g.F.Flash.state c.args.flash.now in
    let h = g.F.Flash.state c.loop-i.flash in
    let reads = c.loop-i.invariant.reads in
    let r = shape_of c.args.blobs.now.ring.now in
    let n = c.args.blobs.now.numbering in
    let layout = layout_of c.args.schema.now in
    let place = c.page_back-place.result in
    record {
      reads = more_reads f h (g.F.Flash.state c.look.new.flash) c.loop-i.i 1 reads c.look.ensures.reads;
      room = c.look.ensures.room ∙ c.loop-i.invariant.room;
      lead = λ told forms measured.
          let later = told_still f h c.loop-i.i reads told in
          let bytes_are : c.look.new.buf.bytes ≡ page_at f (kept_page (shape_of c.args.ring.now) c.args.m c.loop-i.i) =
          c.in_ok-state.ensures.bytes later ∙ same_page f h c.loop-i.i place reads ∙ ap (page_at f) c.page_back-place.ensures.page in
          let is : commits (state_of_page c.look.new.buf.bytes) ≡ c.is_committed.result =
          committed_as c.look.new.buf.bytes (page_at h place) c.in_ok-state.state c.is_committed.result (c.in_ok-state.ensures.bytes later) (c.in_ok-state.ensures.state later) c.is_committed.ensures in
          let here : commits (state_of_page c.look.new.buf.bytes) ≡ true → IsGoodPage layout (page_number c.look.new.buf.bytes) c.look.new.buf.bytes →
          RowsLead (page_at f) r n (rows_in layout c.look.new.buf.bytes) =
          λ committed good. elim c.if-is_committed.branch [
            | then-is_committed+else-not-page_leads w ↦
                subst (λ (l : List ℕ). IsGoodPage layout (page_number l) l → RowsLead (page_at f) r n (rows_in layout l)) w.bytes.ensures
                (w.page_leads.ensures.yes w.if-not-page_leads.false (page_at f) measured) good
            | else-is_committed w ↦ absurd (true≢false (sym committed ∙ is ∙ w.if-is_committed.false))
          ] in
          page_next (page_at f) layout (shape_of c.args.ring.now) c.args.m r n c.loop-i.i c.loop-i-test.true c.look.new.buf.bytes bytes_are here forms
          (c.loop-i.invariant.lead told forms measured);
    }

pub returns-clause-none : goal.returns-clause-none
returns-clause-none g c = λ told forms measured i lt. c.loop-i.invariant.lead told forms measured i (omega (arith, lt, c.loop-i-test.false))

pub page_back-place-requires-clause-place : goal.page_back-place-requires-clause-place
page_back-place-requires-clause-place g c = c.requires.within.at

pub page_back-place-requires-clause-some : goal.page_back-place-requires-clause-some
page_back-place-requires-clause-some g c = some_back c.loop-i-test.true

pub page_back-place-requires-clause-few : goal.page_back-place-requires-clause-few
page_back-place-requires-clause-few g c = few_back _ c.requires.within.kept

pub returns-in_err-state-clause-reads : goal.returns-in_err-state-clause-reads
returns-in_err-state-clause-reads g c = one_read (g.F.Flash.state c.args.flash.now) (g.F.Flash.state c.loop-i.flash) (g.F.Flash.state c.look.new.flash) c.loop-i.i c.args.m.kept c.loop-i.invariant.reads c.look.ensures.reads c.loop-i-test.true

pub returns-in_err-state-clause-room : goal.returns-in_err-state-clause-room
returns-in_err-state-clause-room g c = c.look.ensures.room ∙ c.loop-i.invariant.room

pub returns-then-not-page_leads-clause-reads : goal.returns-then-not-page_leads-clause-reads
returns-then-not-page_leads-clause-reads g c = one_read (g.F.Flash.state c.args.flash.now) (g.F.Flash.state c.loop-i.flash) (g.F.Flash.state c.look.new.flash) c.loop-i.i c.args.m.kept c.loop-i.invariant.reads c.look.ensures.reads c.loop-i-test.true

pub returns-then-not-page_leads-clause-room : goal.returns-then-not-page_leads-clause-room
returns-then-not-page_leads-clause-room g c = c.look.ensures.room ∙ c.loop-i.invariant.room

pub returns-in_err-state-clause-none : goal.returns-in_err-state-clause-none
returns-in_err-state-clause-none g c =
    let p = err_from_is_err_and c.from_residual.result c.from_residual.ensures.1 in
    rw p.1 tt

pub returns-in_err-state-clause-some : goal.returns-in_err-state-clause-some
returns-in_err-state-clause-some g c =
    let p = err_from_is_err_and c.from_residual.result c.from_residual.ensures.1 in
    rw p.1 tt

pub returns-in_err-state-clause-fails : goal.returns-in_err-state-clause-fails
returns-in_err-state-clause-fails g c =
    let p = err_from_is_err_and c.from_residual.result c.from_residual.ensures.1 in
    rw (p.1, p.2) (read_fails (g.F.Flash.state c.args.flash.now) (g.F.Flash.state c.loop-i.flash) (g.F.Flash.state c.look.new.flash) c.loop-i.i 0 c.loop-i.invariant.reads c.in_err-state.field-0.0 c.in_err-state.ensures.fails)

pub returns-clause-room : goal.returns-clause-room
returns-clause-room g c = c.loop-i.invariant.room

pub returns-then-not-page_leads-clause-none : goal.returns-then-not-page_leads-clause-none
returns-then-not-page_leads-clause-none g c = λ told forms measured. tt

pub returns-then-not-page_leads-clause-fails : goal.returns-then-not-page_leads-clause-fails
returns-then-not-page_leads-clause-fails g c = tt

pub returns-clause-reads : goal.returns-clause-reads
returns-clause-reads g c = fewer_reads (g.F.Flash.state c.args.flash.now) (g.F.Flash.state c.loop-i.flash) c.loop-i.i c.args.m.kept c.loop-i.invariant.reads c.loop-i.auto.i-end

pub returns-clause-some : goal.returns-clause-some
returns-clause-some g c = λ told forms measured. tt

pub returns-clause-fails : goal.returns-clause-fails
returns-clause-fails g c = tt
