use Rattle.std.proofs.Common.{inl, sym, ◌∙◌}
use Rattle.std.proofs.lemmas.Result.{err_from_is_err_and}
use Rattle.fl_page.proofs.ReadsInTurn.{IsCaused-later}
use Rattle.fl_frame.proofs.ContentsInTurn.{OnlyReads-then}
use Rattle.fl_store.proofs.TablesOnlyRead.{page-read, stands-read, tells-read}
use Rattle.fl_ship.proofs.Gaps.{looks-empty, looks-failed, looks-found, looks-lacking, looks-missing, looks-unread}
use Rattle.fl_frame.specs.Contents.{contents_of}
use Rattle.fl_table.proofs.Finds.{lookup-caused}
use Rattle.fl_ship.proofs.BadPages.{find-bad, step-bad}
use Rattle.fl_ship.proofs.missing.look_for_gap.Goals as goal

pub returns-then-is_none-clause-looks : goal.returns-then-is_none-clause-looks
returns-then-is_none-clause-looks g c = λ first plan t tells stands.
    rw c.in-Some.is (inl (looks-empty t c.last_key.result (c.last_key.ensures.stands (g.A.Flash.state c.args.from.now) first plan t stands) c.if-is_none.ensures))

pub returns-in_err-find-clause-looks : goal.returns-in_err-find-clause-looks
returns-in_err-find-clause-looks g c = λ first plan t tells stands.
    let p = err_from_is_err_and c.from_residual.result c.from_residual.ensures.1 in
    rw (p.1, p.2) (looks-failed plan t c.in-Some.last (g.A.Flash.state c.args.from.now).work.reads (g.A.Flash.state c.find.new.flash).work.reads c.find.new.buf c.args.last c.in_err-find.field-0.0 (c.in_err-find.ensures.find.finds first plan t tells stands))

pub returns-in_err-find-clause-cause : goal.returns-in_err-find-clause-cause
returns-in_err-find-clause-cause g c =
    let p = err_from_is_err_and c.from_residual.result c.from_residual.ensures.1 in
    rw (p.1, p.2) (lookup-caused c.args.source.now (g.A.Flash.state c.args.from.now) (g.A.Flash.state c.find.new.flash) c.in_err-find.field-0.0 c.in_err-find.ensures.row.fails)

pub returns-then-is_some-clause-looks : goal.returns-then-is_some-clause-looks
returns-then-is_some-clause-looks g c = λ first plan t tells stands.
    rw c.in-Some.is (looks-found plan t c.in-Some.last c.find.new.buf c.in_ok-find.field-0 (c.in_ok-find.ensures.find.finds first plan t tells stands).entry c.if-is_some.ensures)

pub returns-in_err-oldest-clause-looks : goal.returns-in_err-oldest-clause-looks
returns-in_err-oldest-clause-looks g c = λ first plan t tells stands.
    let f = g.A.Flash.state c.args.from.now in
    let h = g.A.Flash.state c.find.new.flash in
    let p = err_from_is_err_and c.from_residual-in_err-oldest.result c.from_residual-in_err-oldest.ensures.1 in
    rw (p.1, p.2) (looks-unread t c.args.last c.in_err-oldest.field-0.0 (c.in_err-oldest.ensures.first first plan t (tells-read f h c.find.ensures.flash.counts tells) (stands-read f h c.find.ensures.flash.counts c.args.source.now first plan t stands)))

pub returns-in_err-oldest-clause-cause : goal.returns-in_err-oldest-clause-cause
returns-in_err-oldest-clause-cause g c =
    let p = err_from_is_err_and c.from_residual-in_err-oldest.result c.from_residual-in_err-oldest.ensures.1 in
    rw (p.1, p.2) (IsCaused-later (g.A.Flash.state c.args.from.now) (g.A.Flash.state c.find.new.flash) (g.A.Flash.state c.first_key.new.from) c.in_err-oldest.field-0.0 c.find.ensures.flash.counts c.in_err-oldest.ensures.cause)

pub returns-in_err-oldest-clause-reads_only : goal.returns-in_err-oldest-clause-reads_only
returns-in_err-oldest-clause-reads_only g c = OnlyReads-then _ _ _ c.find.ensures.flash.counts c.first_key.ensures.reads_only

pub returns-in-Some-2-clause-looks : goal.returns-in-Some-2-clause-looks
returns-in-Some-2-clause-looks g c = λ first plan t tells stands.
    let f = g.A.Flash.state c.args.from.now in
    let h = g.A.Flash.state c.find.new.flash in
    let one = rw c.in-Some-2.is at (c.in_ok-oldest.ensures.first first plan t (tells-read f h c.find.ensures.flash.counts tells) (stands-read f h c.find.ensures.flash.counts c.args.source.now first plan t stands)) in
    rw c.in-Some.is (looks-missing t c.in-Some.last c.in-Some-2.oldest (looks-lacking plan t c.in-Some.last c.find.new.buf c.in_ok-find.field-0 (c.in_ok-find.ensures.find.finds first plan t tells stands).entry c.if-is_some.ensures) one)

pub returns-in-Some-2-clause-reads_only : goal.returns-in-Some-2-clause-reads_only
returns-in-Some-2-clause-reads_only g c = OnlyReads-then _ _ _ c.find.ensures.flash.counts c.first_key.ensures.reads_only

pub returns-in-None-clause-looks : goal.returns-in-None-clause-looks
returns-in-None-clause-looks g c = λ first plan t tells stands.
    let f = g.A.Flash.state c.args.from.now in
    let h = g.A.Flash.state c.find.new.flash in
    let none = rw c.in-None.is at (c.in_ok-oldest.ensures.first first plan t (tells-read f h c.find.ensures.flash.counts tells) (stands-read f h c.find.ensures.flash.counts c.args.source.now first plan t stands)) in
    rw c.in-Some.is (inl none)

pub returns-in-None-clause-reads_only : goal.returns-in-None-clause-reads_only
returns-in-None-clause-reads_only g c = OnlyReads-then _ _ _ c.find.ensures.flash.counts c.first_key.ensures.reads_only

pub returns-in_err-find-clause-bad_page : goal.returns-in_err-find-clause-bad_page
returns-in_err-find-clause-bad_page g c = λ bad is.
    let p = err_from_is_err_and c.from_residual.result c.from_residual.ensures.1 in
    find-bad c.args.source.now (g.A.Flash.state c.args.from.now) (g.A.Flash.state c.find.new.flash) c.in_err-find.field-0.0 bad (rw (p.1, p.2) at is) c.in_err-find.ensures.row.fails

pub returns-in_err-oldest-clause-bad_page : goal.returns-in_err-oldest-clause-bad_page
returns-in_err-oldest-clause-bad_page g c = λ bad is.
    let p = err_from_is_err_and c.from_residual-in_err-oldest.result c.from_residual-in_err-oldest.ensures.1 in
    step-bad c.args.source.now (contents_of (g.A.Flash.state c.find.new.flash)) (contents_of (g.A.Flash.state c.args.from.now)) c.in_err-oldest.field-0.0 bad c.find.ensures.flash.counts.contents
    (rw (p.1, p.2) at is) c.in_err-oldest.ensures.bad_page

pub returns-in_err-find-clause-reads_only : goal.returns-in_err-find-clause-reads_only
returns-in_err-find-clause-reads_only g c = c.find.ensures.flash.counts

pub returns-in_err-find-clause-rows : goal.returns-in_err-find-clause-rows
returns-in_err-find-clause-rows g c = c.find.ensures.flash.room

pub returns-then-is_some-clause-reads_only : goal.returns-then-is_some-clause-reads_only
returns-then-is_some-clause-reads_only g c = c.find.ensures.flash.counts

pub returns-then-is_some-clause-rows : goal.returns-then-is_some-clause-rows
returns-then-is_some-clause-rows g c = c.find.ensures.flash.room

pub returns-in_err-oldest-clause-rows : goal.returns-in_err-oldest-clause-rows
returns-in_err-oldest-clause-rows g c = c.first_key.ensures.rows ∙ c.find.ensures.flash.room

pub returns-in-Some-2-clause-rows : goal.returns-in-Some-2-clause-rows
returns-in-Some-2-clause-rows g c = c.first_key.ensures.rows ∙ c.find.ensures.flash.room

pub returns-in-None-clause-rows : goal.returns-in-None-clause-rows
returns-in-None-clause-rows g c = c.first_key.ensures.rows ∙ c.find.ensures.flash.room

pub first_key-requires-clause-lies : goal.first_key-requires-clause-lies
first_key-requires-clause-lies g c = c.find.ensures.flash.lies

pub first_key-requires-clause-rows : goal.first_key-requires-clause-rows
first_key-requires-clause-rows g c = c.find.ensures.flash.room ∙ (c.requires.rows ∙ sym (page-read _ _ c.find.ensures.flash.counts))

pub first_key-requires-clause-index : goal.first_key-requires-clause-index
first_key-requires-clause-index g c = c.requires.index ∙ sym (page-read _ _ c.find.ensures.flash.counts)
