use Rattle.std.proofs.Common.{rules, ◌≡◌, ◌<◌, refl, sym, ◌∙◌, ap, subst, arith, Ok}
use Rattle.std.proofs.lemmas.Result.{err_from_is_err_and}
use Rattle.fl_mark.specs.Mark.{state_of_page}
use Rattle.fl_mark.specs.declared.page_state.PageState.TheVariants.{Committed}
use Rattle.fl_frame.specs.Contents.{contents_of, Contents}
use Rattle.fl_page.specs.Page.{IsGoodPage}
use Rattle.fl_table.specs.Look.{layout_in, rows_noted}
use Rattle.fl_table.specs.Memory.{next_in}
use Rattle.fl_cursor.specs.Cursor.{IsPlaced}
use Rattle.fl_cursor.proofs.BehindLastPage.{pages-end, within-end}
use Rattle.fl_cursor.proofs.Indexed.{looked, looked-as, page-bytes, bad-index, bad-kept}
use Rattle.fl_cursor.proofs.NextPages.{page-skipped, page-beyond, page-missed, page-entered, page-void, page-fails, look-fails}
use Rattle.fl_page.proofs.ReadsInTurn.{IsCaused-later}
use Rattle.fl_frame.proofs.ContentsInTurn.{OnlyReads-then, OnlyReads-same}
use Rattle.std.proofs.lemmas.Result.{err_from_is_err_and}
use Rattle.fl_mark.specs.Mark.{state_of_page}
use Rattle.fl_mark.specs.declared.page_state.PageState.TheVariants.{Committed}
use Rattle.fl_cursor.proofs.Indexed.{told-bytes}
use Rattle.fl_cursor.proofs.SoundPages.{ahead-told, beyond-other, fresh-then, looked-told, missed-other, rows-same, sound-beyond, sound-done, sound-good, sound-missed, sound-read, sound-skipped, sound-void}
use Rattle.fl_cursor.specs.Reads.{has_last}
use Rattle.fl_parts.specs.declared.ahead.Ahead.TheVariants.{Missed, Beyond}
use Rattle.fl_cursor.proofs.PlacesLeft.{fewer-pending, fewer-behind, fewer-ended, fewer-entered}
use Rattle.fl_cursor.specs.Going.{is_start}
use Rattle.fl_parts.proofs.Sizes.{table-fits}
use Rattle.fl_cursor.proofs.Lying.{lies-held}
use Rattle.fl_cursor.proofs.cursor.Cursor.read_page.Goals as goal

pub returns-then-end-next-clause-goes : goal.returns-then-end-next-clause-goes
returns-then-end-next-clause-goes g c =
    let placed = subst (IsPlaced c.args.self.now.table.now c.args.self.now.rows_buf.now.bytes) c.requires.next c.requires.ready.placed in
    pages-end c.args.self.now c.args.next c.args.end c.requires.next placed.0 c.requires.end c.if-end-next.true (contents_of (g.F.Flash.state c.args.flash.now)) (g.F.Flash.state c.args.flash.now).work.reads

pub returns-then-rows_of-eq0-clause-goes : goal.returns-then-rows_of-eq0-clause-goes
returns-then-rows_of-eq0-clause-goes g c =
    let placed = subst (IsPlaced c.args.self.now.table.now c.args.self.now.rows_buf.now.bytes) c.requires.next c.requires.ready.placed in
    let before : c.args.next < next_in c.args.self.now.table.now = within-end c.args.self.now c.args.end c.args.next c.requires.end c.if-end-next.false in
    let none : rows_noted c.args.self.now.table.now c.args.next ≡ 0 = search rules in
    page-skipped c.args.self.now c.args.next c.requires.next placed.0 before (contents_of (g.F.Flash.state c.args.flash.now)) (g.F.Flash.state c.args.flash.now).work.reads none

pub returns-in_err-look_ahead-clause-fails : goal.returns-in_err-look_ahead-clause-fails
returns-in_err-look_ahead-clause-fails g c =
    let placed = subst (IsPlaced c.args.self.now.table.now c.args.self.now.rows_buf.now.bytes) c.requires.next c.requires.ready.placed in
    let before : c.args.next < next_in c.args.self.now.table.now = within-end c.args.self.now c.args.end c.args.next c.requires.end c.if-end-next.false in
    let some : rows_noted c.args.self.now.table.now c.args.next ≡ 0 → ⊥ = λ none. c.if-rows_of-eq0.false (c.rows_of.ensures.exact ∙ none) in
    let p = err_from_is_err_and c.from_residual.result c.from_residual.ensures.1 in
    let e = c.in_err-look_ahead.ensures in
    let l = looked c.args.self.now c.args.next c.requires.next placed.0 before (g.F.Flash.state c.args.flash.now) (g.F.Flash.state c.look_ahead.new.flash) _ _ e.one refl
    e.room e.counts e.good e.fresh e.looks e.shows e.misses in
    rw p.1 (look-fails c.args.self.now c.args.next c.requires.next placed.0 before (contents_of (g.F.Flash.state c.args.flash.now)) (g.F.Flash.state c.args.flash.now).work.reads _ some (g.F.Flash.state c.look_ahead.new.flash).work.reads _ l)

pub returns-in-Missed-clause-goes : goal.returns-in-Missed-clause-goes
returns-in-Missed-clause-goes g c =
    let placed = subst (IsPlaced c.args.self.now.table.now c.args.self.now.rows_buf.now.bytes) c.requires.next c.requires.ready.placed in
    let before : c.args.next < next_in c.args.self.now.table.now = within-end c.args.self.now c.args.end c.args.next c.requires.end c.if-end-next.false in
    let some : rows_noted c.args.self.now.table.now c.args.next ≡ 0 → ⊥ = λ none. c.if-rows_of-eq0.false (c.rows_of.ensures.exact ∙ none) in
    let e = c.in_ok-look_ahead.ensures in
    let l = looked c.args.self.now c.args.next c.requires.next placed.0 before (g.F.Flash.state c.args.flash.now) (g.F.Flash.state c.look_ahead.new.flash) (Ok c.in_ok-look_ahead.field-0) _ e.one refl
    e.room e.counts e.good e.fresh e.looks e.shows e.misses in
    page-missed c.args.self.now c.args.next c.requires.next placed.0 before (contents_of (g.F.Flash.state c.args.flash.now)) (g.F.Flash.state c.args.flash.now).work.reads _ some (g.F.Flash.state c.look_ahead.new.flash).work.reads
    (looked-as c.in-Missed.is l)

pub returns-in-Beyond-clause-goes : goal.returns-in-Beyond-clause-goes
returns-in-Beyond-clause-goes g c =
    let placed = subst (IsPlaced c.args.self.now.table.now c.args.self.now.rows_buf.now.bytes) c.requires.next c.requires.ready.placed in
    let before : c.args.next < next_in c.args.self.now.table.now = within-end c.args.self.now c.args.end c.args.next c.requires.end c.if-end-next.false in
    let some : rows_noted c.args.self.now.table.now c.args.next ≡ 0 → ⊥ = λ none. c.if-rows_of-eq0.false (c.rows_of.ensures.exact ∙ none) in
    let e = c.in_ok-look_ahead.ensures in
    let l = looked c.args.self.now c.args.next c.requires.next placed.0 before (g.F.Flash.state c.args.flash.now) (g.F.Flash.state c.look_ahead.new.flash) (Ok c.in_ok-look_ahead.field-0) _ e.one refl
    e.room e.counts e.good e.fresh e.looks e.shows e.misses in
    page-beyond c.args.self.now c.args.next c.requires.next placed.0 before (contents_of (g.F.Flash.state c.args.flash.now)) (g.F.Flash.state c.args.flash.now).work.reads _ some (g.F.Flash.state c.look_ahead.new.flash).work.reads
    (looked-as c.in-Beyond.is l)

pub returns-in_err-read_page-clause-reads_only : goal.returns-in_err-read_page-clause-reads_only
returns-in_err-read_page-clause-reads_only g c = OnlyReads-then _ _ _ c.look_ahead.ensures.counts c.read_page.ensures.counts

pub returns-then-not-branch-clause-reads_only : goal.returns-then-not-branch-clause-reads_only
returns-then-not-branch-clause-reads_only g c = OnlyReads-then _ _ _ c.look_ahead.ensures.counts c.read_page.ensures.counts

pub returns-clause-reads_only : goal.returns-clause-reads_only
returns-clause-reads_only g c = OnlyReads-then _ _ _ c.look_ahead.ensures.counts c.read_page.ensures.counts

pub returns-in_err-read_page-clause-cause : goal.returns-in_err-read_page-clause-cause
returns-in_err-read_page-clause-cause g c =
    let p = err_from_is_err_and c.from_residual-in_err-read_page.result c.from_residual-in_err-read_page.ensures.1 in
    rw (p.1, p.2) (IsCaused-later (g.F.Flash.state c.args.flash.now) (g.F.Flash.state c.look_ahead.new.flash) (g.F.Flash.state c.read_page.new.flash) c.in_err-read_page.field-0.0 c.look_ahead.ensures.counts c.in_err-read_page.ensures.cause)

pub returns-in_err-read_page-clause-fails : goal.returns-in_err-read_page-clause-fails
returns-in_err-read_page-clause-fails g c =
    let placed = subst (IsPlaced c.args.self.now.table.now c.args.self.now.rows_buf.now.bytes) c.requires.next c.requires.ready.placed in
    let before : c.args.next < next_in c.args.self.now.table.now = within-end c.args.self.now c.args.end c.args.next c.requires.end c.if-end-next.false in
    let some : rows_noted c.args.self.now.table.now c.args.next ≡ 0 → ⊥ = λ none. c.if-rows_of-eq0.false (c.rows_of.ensures.exact ∙ none) in
    let p = err_from_is_err_and c.from_residual-in_err-read_page.result c.from_residual-in_err-read_page.ensures.1 in
    let e = c.in_ok-look_ahead.ensures in
    let l = looked c.args.self.now c.args.next c.requires.next placed.0 before (g.F.Flash.state c.args.flash.now) (g.F.Flash.state c.look_ahead.new.flash) (Ok c.in_ok-look_ahead.field-0) _ e.one refl
    e.room e.counts e.good e.fresh e.looks e.shows e.misses in
    rw p.1 (page-fails c.args.self.now c.args.next c.requires.next placed.0 before (contents_of (g.F.Flash.state c.args.flash.now)) (g.F.Flash.state c.args.flash.now).work.reads _ some (g.F.Flash.state c.look_ahead.new.flash).work.reads
    (looked-as c.in-Wanted.is l)
    _ (g.F.Flash.state c.read_page.new.flash).work.reads refl c.read_page.ensures.room c.read_page.ensures.reads.reads)

pub returns-then-not-branch-clause-goes : goal.returns-then-not-branch-clause-goes
returns-then-not-branch-clause-goes g c =
    let placed = subst (IsPlaced c.args.self.now.table.now c.args.self.now.rows_buf.now.bytes) c.requires.next c.requires.ready.placed in
    let before : c.args.next < next_in c.args.self.now.table.now = within-end c.args.self.now c.args.end c.args.next c.requires.end c.if-end-next.false in
    let some : rows_noted c.args.self.now.table.now c.args.next ≡ 0 → ⊥ = λ none. c.if-rows_of-eq0.false (c.rows_of.ensures.exact ∙ none) in
    let one = c.in_ok-read_page.ensures.one in
    let other : state_of_page c.read_page.new.buf.bytes ≡ Committed → ⊥ = search rules in
    let e = c.in_ok-look_ahead.ensures in
    let l = looked c.args.self.now c.args.next c.requires.next placed.0 before (g.F.Flash.state c.args.flash.now) (g.F.Flash.state c.look_ahead.new.flash) (Ok c.in_ok-look_ahead.field-0) _ e.one refl
    e.room e.counts e.good e.fresh e.looks e.shows e.misses in
    page-void c.args.self.now c.args.next c.requires.next placed.0 before (contents_of (g.F.Flash.state c.args.flash.now)) (g.F.Flash.state c.args.flash.now).work.reads _ some (g.F.Flash.state c.look_ahead.new.flash).work.reads
    (looked-as c.in-Wanted.is l)
    _ (g.F.Flash.state c.read_page.new.flash).work.reads refl c.read_page.ensures.room c.read_page.ensures.reads.reads (λ lt. omega (arith, one, lt))
    (λ told. page-bytes c.args.self.now.table.now c.args.next (g.F.Flash.state c.args.flash.now) (g.F.Flash.state c.look_ahead.new.flash) c.read_page.new.buf.bytes told.standing c.look_ahead.ensures.counts c.in_ok-read_page.ensures.page) other

pub returns-clause-goes : goal.returns-clause-goes
returns-clause-goes g c =
    let placed = subst (IsPlaced c.args.self.now.table.now c.args.self.now.rows_buf.now.bytes) c.requires.next c.requires.ready.placed in
    let before : c.args.next < next_in c.args.self.now.table.now = within-end c.args.self.now c.args.end c.args.next c.requires.end c.if-end-next.false in
    let some : rows_noted c.args.self.now.table.now c.args.next ≡ 0 → ⊥ = λ none. c.if-rows_of-eq0.false (c.rows_of.ensures.exact ∙ none) in
    let one = c.in_ok-read_page.ensures.one in
    let good : IsGoodPage (layout_in c.args.self.now.table.now) c.args.next c.read_page.new.buf.bytes = search rules in
    let e = c.in_ok-look_ahead.ensures in
    let l = looked c.args.self.now c.args.next c.requires.next placed.0 before (g.F.Flash.state c.args.flash.now) (g.F.Flash.state c.look_ahead.new.flash) (Ok c.in_ok-look_ahead.field-0) _ e.one refl
    e.room e.counts e.good e.fresh e.looks e.shows e.misses in
    page-entered c.args.self.now c.args.next c.requires.next placed.0 before (contents_of (g.F.Flash.state c.args.flash.now)) (g.F.Flash.state c.args.flash.now).work.reads _ some (g.F.Flash.state c.look_ahead.new.flash).work.reads
    (looked-as c.in-Wanted.is l)
    _ (g.F.Flash.state c.read_page.new.flash).work.reads refl c.read_page.ensures.room c.read_page.ensures.reads.reads (λ lt. omega (arith, one, lt))
    (λ told. page-bytes c.args.self.now.table.now c.args.next (g.F.Flash.state c.args.flash.now) (g.F.Flash.state c.look_ahead.new.flash) c.read_page.new.buf.bytes told.standing c.look_ahead.ensures.counts c.in_ok-read_page.ensures.page) good

pub returns-then-end-next-clause-sound : goal.returns-then-end-next-clause-sound
returns-then-end-next-clause-sound g c = λ s tells fresh.
    sound-done c.args.self.now c.args.next c.args.end c.requires.next c.requires.end_is (contents_of (g.F.Flash.state c.args.flash.now)) c.if-end-next.true

pub returns-then-rows_of-eq0-clause-sound : goal.returns-then-rows_of-eq0-clause-sound
returns-then-rows_of-eq0-clause-sound g c = λ s tells fresh.
    let none : rows_noted c.args.self.now.table.now c.args.next ≡ 0 = search rules in
    sound-skipped c.args.self.now c.args.next c.args.end c.requires.next c.requires.end_is (contents_of (g.F.Flash.state c.args.flash.now)) c.if-end-next.false none (s tells fresh)

pub returns-in-Missed-clause-sound : goal.returns-in-Missed-clause-sound
returns-in-Missed-clause-sound g c = λ s tells fresh.
    let t = c.args.self.now.table.now in
    let f = g.F.Flash.state c.args.flash.now in
    let held = contents_of (g.F.Flash.state c.args.flash.now) in
    let e = c.in_ok-look_ahead.ensures in
    let now = fresh-then t f (g.F.Flash.state c.look_ahead.new.flash) c.args.self.now.index_buf.now c.look_ahead.new.buf e.counts e.fresh tells fresh in
    let told = ahead-told t f c.args.self.now.mark.span c.args.self.now.mark.top c.args.next c.args.self.now.index_buf.now c.in_ok-look_ahead.field-0 Missed e.told c.in-Missed.is missed-other tells fresh in
    sound-missed c.args.self.now c.args.next c.args.end c.requires.next c.requires.end_is held c.if-end-next.false told (s tells now)

pub returns-in-Beyond-clause-sound : goal.returns-in-Beyond-clause-sound
returns-in-Beyond-clause-sound g c = λ s tells fresh.
    let t = c.args.self.now.table.now in
    let f = g.F.Flash.state c.args.flash.now in
    let held = contents_of (g.F.Flash.state c.args.flash.now) in
    let e = c.in_ok-look_ahead.ensures in
    let told = ahead-told t f c.args.self.now.mark.span c.args.self.now.mark.top c.args.next c.args.self.now.index_buf.now c.in_ok-look_ahead.field-0 Beyond e.told c.in-Beyond.is beyond-other tells fresh in
    sound-beyond c.args.self.now c.args.next c.args.end c.requires.next c.requires.end_is held c.if-end-next.false told

pub returns-then-not-branch-clause-sound : goal.returns-then-not-branch-clause-sound
returns-then-not-branch-clause-sound g c = λ s tells fresh.
    let t = c.args.self.now.table.now in
    let f = g.F.Flash.state c.args.flash.now in
    let held = contents_of (g.F.Flash.state c.args.flash.now) in
    let e = c.in_ok-look_ahead.ensures in
    let now = fresh-then t f (g.F.Flash.state c.look_ahead.new.flash) c.args.self.now.index_buf.now c.look_ahead.new.buf e.counts e.fresh tells fresh in
    let other : state_of_page c.read_page.new.buf.bytes ≡ Committed → ⊥ = search rules in
    let same = told-bytes t c.args.next f (g.F.Flash.state c.look_ahead.new.flash) c.read_page.new.buf.bytes tells c.look_ahead.ensures.counts c.in_ok-read_page.ensures.page in
    sound-read c.args.self.now c.args.next c.args.end c.requires.next c.requires.end_is held c.if-end-next.false (sound-void t held c.args.next c.read_page.new.buf.bytes same other)
    (looked-told t f c.args.self.now.mark.span c.args.next c.args.self.now.index_buf.now e.looked_up tells fresh) (λ last. s tells now)

pub returns-clause-sound : goal.returns-clause-sound
returns-clause-sound g c = λ s tells fresh.
    let t = c.args.self.now.table.now in
    let f = g.F.Flash.state c.args.flash.now in
    let held = contents_of (g.F.Flash.state c.args.flash.now) in
    let e = c.in_ok-look_ahead.ensures in
    let now = fresh-then t f (g.F.Flash.state c.look_ahead.new.flash) c.args.self.now.index_buf.now c.look_ahead.new.buf e.counts e.fresh tells fresh in
    let good : IsGoodPage (layout_in c.args.self.now.table.now) c.args.next c.read_page.new.buf.bytes = search rules in
    let committed : state_of_page c.read_page.new.buf.bytes ≡ Committed = search rules in
    let same = told-bytes t c.args.next f (g.F.Flash.state c.look_ahead.new.flash) c.read_page.new.buf.bytes tells c.look_ahead.ensures.counts c.in_ok-read_page.ensures.page in
    sound-read c.args.self.now c.args.next c.args.end c.requires.next c.requires.end_is held c.if-end-next.false (sound-good t held c.args.next c.read_page.new.buf.bytes same good)
    (looked-told t f c.args.self.now.mark.span c.args.next c.args.self.now.index_buf.now e.looked_up tells fresh)
    (λ last. s tells now (ap (has_last c.args.self.now.mark.top) (sym (rows-same t held c.args.next c.read_page.new.buf.bytes same committed)) ∙ last))

pub returns-then-end-next-clause-cause : goal.returns-then-end-next-clause-cause
returns-then-end-next-clause-cause g c = tt

pub returns-then-end-next-clause-bad_page : goal.returns-then-end-next-clause-bad_page
returns-then-end-next-clause-bad_page g c = tt

pub returns-then-end-next-clause-fails : goal.returns-then-end-next-clause-fails
returns-then-end-next-clause-fails g c = tt

pub returns-then-end-next-clause-here : goal.returns-then-end-next-clause-here
returns-then-end-next-clause-here g c = refl

pub returns-then-end-next-clause-begun : goal.returns-then-end-next-clause-begun
returns-then-end-next-clause-begun g c = refl

pub returns-then-end-next-clause-fewer : goal.returns-then-end-next-clause-fewer
returns-then-end-next-clause-fewer g c = fewer-pending c.args.self.now c.args.next c.requires.next

pub returns-then-rows_of-eq0-clause-cause : goal.returns-then-rows_of-eq0-clause-cause
returns-then-rows_of-eq0-clause-cause g c = tt

pub returns-then-rows_of-eq0-clause-bad_page : goal.returns-then-rows_of-eq0-clause-bad_page
returns-then-rows_of-eq0-clause-bad_page g c = tt

pub returns-then-rows_of-eq0-clause-fails : goal.returns-then-rows_of-eq0-clause-fails
returns-then-rows_of-eq0-clause-fails g c = tt

pub returns-then-rows_of-eq0-clause-here : goal.returns-then-rows_of-eq0-clause-here
returns-then-rows_of-eq0-clause-here g c = refl

pub returns-then-rows_of-eq0-clause-begun : goal.returns-then-rows_of-eq0-clause-begun
returns-then-rows_of-eq0-clause-begun g c = refl

pub returns-then-rows_of-eq0-clause-fewer : goal.returns-then-rows_of-eq0-clause-fewer
returns-then-rows_of-eq0-clause-fewer g c = fewer-behind c.args.self.now c.args.next c.requires.next (within-end c.args.self.now c.args.end c.args.next c.requires.end c.if-end-next.false)

pub returns-in-Missed-clause-cause : goal.returns-in-Missed-clause-cause
returns-in-Missed-clause-cause g c = tt

pub returns-in-Missed-clause-bad_page : goal.returns-in-Missed-clause-bad_page
returns-in-Missed-clause-bad_page g c = tt

pub returns-in-Missed-clause-fails : goal.returns-in-Missed-clause-fails
returns-in-Missed-clause-fails g c = tt

pub returns-in-Missed-clause-here : goal.returns-in-Missed-clause-here
returns-in-Missed-clause-here g c = refl

pub returns-in-Missed-clause-begun : goal.returns-in-Missed-clause-begun
returns-in-Missed-clause-begun g c = refl

pub returns-in-Missed-clause-fewer : goal.returns-in-Missed-clause-fewer
returns-in-Missed-clause-fewer g c = fewer-behind c.args.self.now c.args.next c.requires.next (within-end c.args.self.now c.args.end c.args.next c.requires.end c.if-end-next.false)

pub returns-in-Beyond-clause-cause : goal.returns-in-Beyond-clause-cause
returns-in-Beyond-clause-cause g c = tt

pub returns-in-Beyond-clause-bad_page : goal.returns-in-Beyond-clause-bad_page
returns-in-Beyond-clause-bad_page g c = tt

pub returns-in-Beyond-clause-fails : goal.returns-in-Beyond-clause-fails
returns-in-Beyond-clause-fails g c = tt

pub returns-in-Beyond-clause-here : goal.returns-in-Beyond-clause-here
returns-in-Beyond-clause-here g c = refl

pub returns-in-Beyond-clause-begun : goal.returns-in-Beyond-clause-begun
returns-in-Beyond-clause-begun g c = refl

pub returns-in-Beyond-clause-fewer : goal.returns-in-Beyond-clause-fewer
returns-in-Beyond-clause-fewer g c = fewer-ended c.args.self.now c.args.next c.requires.next

pub returns-then-not-branch-clause-cause : goal.returns-then-not-branch-clause-cause
returns-then-not-branch-clause-cause g c = tt

pub returns-then-not-branch-clause-bad_page : goal.returns-then-not-branch-clause-bad_page
returns-then-not-branch-clause-bad_page g c = tt

pub returns-then-not-branch-clause-fails : goal.returns-then-not-branch-clause-fails
returns-then-not-branch-clause-fails g c = tt

pub returns-then-not-branch-clause-here : goal.returns-then-not-branch-clause-here
returns-then-not-branch-clause-here g c = refl

pub returns-then-not-branch-clause-begun : goal.returns-then-not-branch-clause-begun
returns-then-not-branch-clause-begun g c = refl

pub returns-then-not-branch-clause-fewer : goal.returns-then-not-branch-clause-fewer
returns-then-not-branch-clause-fewer g c = fewer-behind c.args.self.now c.args.next c.requires.next (within-end c.args.self.now c.args.end c.args.next c.requires.end c.if-end-next.false)

pub returns-clause-cause : goal.returns-clause-cause
returns-clause-cause g c = tt

pub returns-clause-bad_page : goal.returns-clause-bad_page
returns-clause-bad_page g c = tt

pub returns-clause-fails : goal.returns-clause-fails
returns-clause-fails g c = tt

pub returns-clause-here : goal.returns-clause-here
returns-clause-here g c = refl

pub returns-clause-begun : goal.returns-clause-begun
returns-clause-begun g c = refl

pub returns-clause-fewer : goal.returns-clause-fewer
returns-clause-fewer g c = fewer-entered c.args.self.now c.args.next c.requires.next

pub returns-then-end-next-clause-reads_only : goal.returns-then-end-next-clause-reads_only
returns-then-end-next-clause-reads_only g c = OnlyReads-same _

pub returns-then-rows_of-eq0-clause-reads_only : goal.returns-then-rows_of-eq0-clause-reads_only
returns-then-rows_of-eq0-clause-reads_only g c = OnlyReads-same _

pub returns-in_err-look_ahead-clause-reads_only : goal.returns-in_err-look_ahead-clause-reads_only
returns-in_err-look_ahead-clause-reads_only g c = c.look_ahead.ensures.counts

pub returns-in-Missed-clause-reads_only : goal.returns-in-Missed-clause-reads_only
returns-in-Missed-clause-reads_only g c = c.look_ahead.ensures.counts

pub returns-in-Beyond-clause-reads_only : goal.returns-in-Beyond-clause-reads_only
returns-in-Beyond-clause-reads_only g c = c.look_ahead.ensures.counts

pub returns-in_err-look_ahead-clause-goes : goal.returns-in_err-look_ahead-clause-goes
returns-in_err-look_ahead-clause-goes g c = let p = err_from_is_err_and c.from_residual.result c.from_residual.ensures.1 in rw p.1 tt

pub returns-in_err-look_ahead-clause-sound : goal.returns-in_err-look_ahead-clause-sound
returns-in_err-look_ahead-clause-sound g c = let p = err_from_is_err_and c.from_residual.result c.from_residual.ensures.1 in rw p.1 tt

pub returns-in_err-look_ahead-clause-fewer : goal.returns-in_err-look_ahead-clause-fewer
returns-in_err-look_ahead-clause-fewer g c = let p = err_from_is_err_and c.from_residual.result c.from_residual.ensures.1 in rw p.1 tt

pub returns-in_err-look_ahead-clause-here : goal.returns-in_err-look_ahead-clause-here
returns-in_err-look_ahead-clause-here g c = refl

pub returns-in_err-look_ahead-clause-begun : goal.returns-in_err-look_ahead-clause-begun
returns-in_err-look_ahead-clause-begun g c = ap is_start c.requires.next

pub returns-in_err-read_page-clause-goes : goal.returns-in_err-read_page-clause-goes
returns-in_err-read_page-clause-goes g c = let p = err_from_is_err_and c.from_residual-in_err-read_page.result c.from_residual-in_err-read_page.ensures.1 in rw p.1 tt

pub returns-in_err-read_page-clause-sound : goal.returns-in_err-read_page-clause-sound
returns-in_err-read_page-clause-sound g c = let p = err_from_is_err_and c.from_residual-in_err-read_page.result c.from_residual-in_err-read_page.ensures.1 in rw p.1 tt

pub returns-in_err-read_page-clause-fewer : goal.returns-in_err-read_page-clause-fewer
returns-in_err-read_page-clause-fewer g c = let p = err_from_is_err_and c.from_residual-in_err-read_page.result c.from_residual-in_err-read_page.ensures.1 in rw p.1 tt

pub returns-in_err-read_page-clause-here : goal.returns-in_err-read_page-clause-here
returns-in_err-read_page-clause-here g c = refl

pub returns-in_err-read_page-clause-begun : goal.returns-in_err-read_page-clause-begun
returns-in_err-read_page-clause-begun g c = ap is_start c.requires.next

pub returns-in_err-look_ahead-clause-cause : goal.returns-in_err-look_ahead-clause-cause
returns-in_err-look_ahead-clause-cause g c = let p = err_from_is_err_and c.from_residual.result c.from_residual.ensures.1 in rw (p.1, p.2) c.in_err-look_ahead.ensures.cause

pub returns-in_err-look_ahead-clause-bad_page : goal.returns-in_err-look_ahead-clause-bad_page
returns-in_err-look_ahead-clause-bad_page g c = let p = err_from_is_err_and c.from_residual.result c.from_residual.ensures.1 in rw (p.1, p.2) (bad-index c.args.self.now.table.now (g.F.Flash.state c.args.flash.now) c.args.self.now.index_buf.now c.in_err-look_ahead.field-0.0 c.requires.ready.index_good c.in_err-look_ahead.ensures.bad)

pub returns-in_err-read_page-clause-bad_page : goal.returns-in_err-read_page-clause-bad_page
returns-in_err-read_page-clause-bad_page g c =
    let placed = subst (IsPlaced c.args.self.now.table.now c.args.self.now.rows_buf.now.bytes) c.requires.next c.requires.ready.placed in
    let p = err_from_is_err_and c.from_residual-in_err-read_page.result c.from_residual-in_err-read_page.ensures.1 in
    rw (p.1, p.2) (bad-kept c.args.self.now.table.now (g.F.Flash.state c.args.flash.now) (g.F.Flash.state c.look_ahead.new.flash) c.args.next c.read_page.new.buf.bytes c.in_err-read_page.field-0.0 placed.0
    (within-end c.args.self.now c.args.end c.args.next c.requires.end c.if-end-next.false) c.look_ahead.ensures.counts c.in_err-read_page.ensures.found c.in_err-read_page.ensures.page)

pub rows_of-requires : goal.rows_of-requires
rows_of-requires g c = table-fits g.row.KNOTS g.row.SLOTS c.args.self.now.table.now.few_knots c.args.self.now.table.now.few_slots

pub look_ahead-requires : goal.look_ahead-requires
look_ahead-requires g c = (table-fits g.row.KNOTS g.row.SLOTS c.args.self.now.table.now.few_knots c.args.self.now.table.now.few_slots, ((lies-held c.requires.ready.flash (g.F.Flash.state c.args.flash.now) c.requires.ready.same c.args.self.now.table.now c.requires.ready.lies), c.requires.ready.index_room))

pub read_page-requires : goal.read_page-requires
read_page-requires g c =
    let placed = subst (IsPlaced c.args.self.now.table.now c.args.self.now.rows_buf.now.bytes) c.requires.next c.requires.ready.placed in
    let same = c.look_ahead.ensures.counts.contents in (
      table-fits g.row.KNOTS g.row.SLOTS c.args.self.now.table.now.few_knots c.args.self.now.table.now.few_slots,
      (
        lies-held c.requires.ready.flash (g.F.Flash.state c.look_ahead.new.flash) (c.requires.ready.same ∙ sym same) c.args.self.now.table.now c.requires.ready.lies,
        ((placed.0, within-end c.args.self.now c.args.end c.args.next c.requires.end c.if-end-next.false), c.requires.ready.rows_room ∙ sym (ap (λ (k : Contents). k.geometry.page) same)),
      ),
    )
