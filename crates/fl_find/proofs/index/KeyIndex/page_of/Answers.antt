use Rattle.std.proofs.Common.{◌≡◌, ℕ, true, false, sym, ap, subst, ◌∙◌, arith, ◌+◌, ◌≤◌}
use Rattle.std.specs.Prelude.{IfErr, OnOk, unwrap_or, IfOk}
use Rattle.std.proofs.lemmas.Result.{IfOk-weaker}
use Rattle.std.proofs.lemmas.Bool.{true≢false}
use Rattle.std.proofs.lemmas.Option.{IfSome_then}
use Rattle.fl_ring.specs.Place.{shape_of, oldest_of, next_of}
use Rattle.fl_search.specs.Search.{IsPageOf, RoseBy, looked_at}
use Rattle.fl_spline.proofs.Segments.{segment-covered}
use Rattle.fl_spline.specs.Spline.{kept}
use Rattle.fl_schema.specs.Schema.{layout_of}
use Rattle.fl_find.specs.Pages.{first_on}
use Rattle.fl_find.specs.Looking.{BlamesBelow, NoneIsBad}
use Rattle.fl_find.specs.Index.{window_end}
use Rattle.fl_find.proofs.Moves.{page-starts}
use Rattle.fl_find.proofs.Modelled.{near-found, near-limit, far-found, far-limit, ascend-ring}
use Rattle.fl_find.proofs.Indexed.{index-covered, index-end, window-before, reads-window}
use Rattle.fl_find.proofs.index.KeyIndex.page_of.Goals as goal

pub returns-in-Some-clause-far : goal.returns-in-Some-clause-far
returns-in-Some-clause-far g c = λ uncovered.
    absurd (true≢false (sym (segment-covered (kept c.args.self.now.spline) c.args.key c.in-Some.segment c.args.self.now.spline.rises c.in-Some.ensures.segment) ∙ uncovered))

pub returns-in-Some-clause-some : goal.returns-in-Some-clause-some
returns-in-Some-clause-some g c = λ uncovered.
    absurd (true≢false (sym (segment-covered (kept c.args.self.now.spline) c.args.key c.in-Some.segment c.args.self.now.spline.rises c.in-Some.ensures.segment) ∙ uncovered))

pub returns-in-Some-clause-few : goal.returns-in-Some-clause-few
returns-in-Some-clause-few g c = λ uncovered.
    absurd (true≢false (sym (segment-covered (kept c.args.self.now.spline) c.args.key c.in-Some.segment c.args.self.now.spline.rises c.in-Some.ensures.segment) ∙ uncovered))

pub returns-in-Some-clause-found : goal.returns-in-Some-clause-found
returns-in-Some-clause-found g c = λ plan table holds points index.
    let near = segment-covered (kept c.args.self.now.spline) c.args.key c.in-Some.segment c.args.self.now.spline.rises c.in-Some.ensures.segment in
    near-found (layout_of c.args.schema.now) c.args.ring.now (g.F.Flash.state c.args.flash.now) plan table holds g.row.KNOTS points c.args.key _ _ c.end_of_window-end.result (g.F.Flash.state c.page_downwards.new.flash)
    c.page_downwards.result index.rises (index-covered c.args.self.now plan.error c.args.key table.points true index near) (index-end c.args.self.now plan table c.args.key c.next_number.result c.end_of_window-end.result index (c.next_number.ensures ∙ holds.next) c.end_of_window-end.ensures)
    (c.page_downwards.ensures.page holds.tells) c.page_downwards.ensures.exact c.page_downwards.ensures.fails

pub returns-in-Some-clause-reads : goal.returns-in-Some-clause-reads
returns-in-Some-clause-reads g c = λ plan table holds points index pending.
    let near = segment-covered (kept c.args.self.now.spline) c.args.key c.in-Some.segment c.args.self.now.spline.rises c.in-Some.ensures.segment in
    near-limit (layout_of c.args.schema.now) c.args.ring.now (g.F.Flash.state c.args.flash.now) plan table holds g.row.KNOTS points c.args.key _ _ c.end_of_window-end.result
    index.rises (index-covered c.args.self.now plan.error c.args.key table.points true index near) pending (index-end c.args.self.now plan table c.args.key c.next_number.result c.end_of_window-end.result index (c.next_number.ensures ∙ holds.next) c.end_of_window-end.ensures)
    (λ page is. c.page_downwards.ensures.limit page holds.tells is)

pub returns-in-None-clause-found : goal.returns-in-None-clause-found
returns-in-None-clause-found g c = λ plan table holds points index.
    far-found (layout_of c.args.schema.now) c.args.ring.now (g.F.Flash.state c.args.flash.now) plan table holds g.row.KNOTS c.args.key _ _ (g.F.Flash.state c.page_by_halves.new.flash)
    c.page_by_halves.result (index-covered c.args.self.now plan.error c.args.key table.points false index c.in-None.ensures.segment)
    (c.page_by_halves.ensures.page holds.tells (ascend-ring (layout_of c.args.schema.now) c.args.ring.now (g.F.Flash.state c.args.flash.now) plan table holds)) c.page_by_halves.ensures.some c.page_by_halves.ensures.fails

pub returns-in-None-clause-reads : goal.returns-in-None-clause-reads
returns-in-None-clause-reads g c = λ plan table holds points index pending.
    far-limit (layout_of c.args.schema.now) c.args.ring.now (g.F.Flash.state c.args.flash.now) plan table holds g.row.KNOTS c.args.key _ _ (index-covered c.args.self.now plan.error c.args.key table.points false index c.in-None.ensures.segment) pending
    (c.page_by_halves.ensures.limit holds.tells)

pub returns-in-Some-clause-sound : goal.returns-in-Some-clause-sound
returns-in-Some-clause-sound g c = λ page covered told is.
    let end : c.end_of_window-end.result ≡ window_end c.args.self.now (next_of c.args.ring.now) c.args.key = c.end_of_window-end.ensures ∙ ap (λ (n : ℕ). window_end c.args.self.now n c.args.key) c.next_number.ensures in
    subst (λ (e : ℕ). IsPageOf (first_on (layout_of c.args.schema.now) (shape_of c.args.ring.now) (g.F.Flash.state c.args.flash.now)) (oldest_of c.args.ring.now) e c.args.key page →
    OnOk c.page_downwards.result (NoneIsBad (layout_of c.args.schema.now) c.args.ring.now (g.F.Flash.state c.args.flash.now) (unwrap_or page (oldest_of c.args.ring.now)) e))
    end (c.page_downwards.ensures.sound page told) is

pub returns-in-Some-clause-within : goal.returns-in-Some-clause-within
returns-in-Some-clause-within g c =
    let is = c.end_of_window-end.ensures in
    let next = c.next_number.ensures in
    IfOk-weaker c.page_downwards.result _ _ (λ page h. IfSome_then page h (λ n k. let before = k.1 in (k.0, omega (arith, before, is, next)))) c.page_downwards.ensures.within

pub returns-in-Some-clause-starts : goal.returns-in-Some-clause-starts
returns-in-Some-clause-starts g c = λ told.
    IfOk-weaker c.page_downwards.result _ _ (λ page is. page-starts (first_on (layout_of c.args.schema.now) (shape_of c.args.ring.now) (g.F.Flash.state c.args.flash.now)) (oldest_of c.args.ring.now) c.end_of_window-end.result c.args.key page is)
    (c.page_downwards.ensures.page told)

pub returns-in-None-clause-starts : goal.returns-in-None-clause-starts
returns-in-None-clause-starts g c = c.page_by_halves.ensures.starts

pub returns-in-Some-clause-blames : goal.returns-in-Some-clause-blames
returns-in-Some-clause-blames g c = λ covered.
    let end : c.end_of_window-end.result ≡ window_end c.args.self.now (next_of c.args.ring.now) c.args.key = c.end_of_window-end.ensures ∙ ap (λ (n : ℕ). window_end c.args.self.now n c.args.key) c.next_number.ensures in
    subst (λ (e : ℕ). IfErr c.page_downwards.result (BlamesBelow (layout_of c.args.schema.now) c.args.ring.now (g.F.Flash.state c.args.flash.now) e c.args.key)) end c.page_downwards.ensures.blames

pub returns-in-None-clause-blames : goal.returns-in-None-clause-blames
returns-in-None-clause-blames g c = λ covered. absurd (true≢false (sym covered ∙ c.in-None.ensures.segment))

pub returns-in-Some-clause-looks : goal.returns-in-Some-clause-looks
returns-in-Some-clause-looks g c = c.page_downwards.ensures.looks

pub returns-in-Some-clause-lies : goal.returns-in-Some-clause-lies
returns-in-Some-clause-lies g c = c.page_downwards.ensures.lies

pub returns-in-Some-clause-room : goal.returns-in-Some-clause-room
returns-in-Some-clause-room g c = c.page_downwards.ensures.room

pub returns-in-Some-clause-holds : goal.returns-in-Some-clause-holds
returns-in-Some-clause-holds g c = c.page_downwards.ensures.holds

pub returns-in-Some-clause-fresh : goal.returns-in-Some-clause-fresh
returns-in-Some-clause-fresh g c = c.page_downwards.ensures.fresh

pub returns-in-Some-clause-fails : goal.returns-in-Some-clause-fails
returns-in-Some-clause-fails g c = c.page_downwards.ensures.fails

pub returns-in-Some-clause-near : goal.returns-in-Some-clause-near
returns-in-Some-clause-near g c =
    λ covered told.
    let end : c.end_of_window-end.result ≡ window_end c.args.self.now (next_of c.args.ring.now) c.args.key = c.end_of_window-end.ensures ∙ ap (λ (n : ℕ). window_end c.args.self.now n c.args.key) c.next_number.ensures in
    subst (λ (e : ℕ). IfOk c.page_downwards.result (λ page. IsPageOf (first_on (layout_of c.args.schema.now) (shape_of c.args.ring.now) (g.F.Flash.state c.args.flash.now)) (oldest_of c.args.ring.now) e c.args.key page)) end (c.page_downwards.ensures.page told)

pub returns-in-Some-clause-exact : goal.returns-in-Some-clause-exact
returns-in-Some-clause-exact g c =
    λ covered.
    let end : c.end_of_window-end.result ≡ window_end c.args.self.now (next_of c.args.ring.now) c.args.key = c.end_of_window-end.ensures ∙ ap (λ (n : ℕ). window_end c.args.self.now n c.args.key) c.next_number.ensures in
    subst (λ (e : ℕ). IfOk c.page_downwards.result (λ page. RoseBy (looked_at (oldest_of c.args.ring.now) e page) (g.F.Flash.state c.args.flash.now).work.reads (g.F.Flash.state c.page_downwards.new.flash).work.reads)) end c.page_downwards.ensures.exact

pub returns-in-Some-clause-limit : goal.returns-in-Some-clause-limit
returns-in-Some-clause-limit g c =
    λ page covered told is.
    let end : c.end_of_window-end.result ≡ window_end c.args.self.now (next_of c.args.ring.now) c.args.key = c.end_of_window-end.ensures ∙ ap (λ (n : ℕ). window_end c.args.self.now n c.args.key) c.next_number.ensures in
    subst (λ (e : ℕ). IsPageOf (first_on (layout_of c.args.schema.now) (shape_of c.args.ring.now) (g.F.Flash.state c.args.flash.now)) (oldest_of c.args.ring.now) e c.args.key page → (g.F.Flash.state c.page_downwards.new.flash).work.reads ≤ (g.F.Flash.state c.args.flash.now).work.reads + looked_at (oldest_of c.args.ring.now) e page) end (c.page_downwards.ensures.limit page told) is

pub page_downwards-requires-clause-kept : goal.page_downwards-requires-clause-kept
page_downwards-requires-clause-kept g c =
    let end : c.end_of_window-end.result ≡ window_end c.args.self.now (next_of c.args.ring.now) c.args.key = c.end_of_window-end.ensures ∙ ap (λ (n : ℕ). window_end c.args.self.now n c.args.key) c.next_number.ensures in
    subst (λ (e : ℕ). e ≤ (next_of c.args.ring.now)) (sym end) (window-before c.args.self.now (next_of c.args.ring.now) c.args.key)

pub returns-in-Some-clause-most : goal.returns-in-Some-clause-most
returns-in-Some-clause-most g c =
    let end : c.end_of_window-end.result ≡ window_end c.args.self.now (next_of c.args.ring.now) c.args.key = c.end_of_window-end.ensures ∙ ap (λ (n : ℕ). window_end c.args.self.now n c.args.key) c.next_number.ensures in
    reads-window (oldest_of c.args.ring.now) (next_of c.args.ring.now) c.end_of_window-end.result (g.F.Flash.state c.args.flash.now).work.reads (g.F.Flash.state c.page_downwards.new.flash).work.reads (subst (λ (e : ℕ). e ≤ (next_of c.args.ring.now)) (sym end) (window-before c.args.self.now (next_of c.args.ring.now) c.args.key)) c.page_downwards.ensures.most

pub returns-in-None-clause-near : goal.returns-in-None-clause-near
returns-in-None-clause-near g c = λ covered. absurd (true≢false (sym covered ∙ c.in-None.ensures.segment))

pub returns-in-None-clause-exact : goal.returns-in-None-clause-exact
returns-in-None-clause-exact g c = λ covered. absurd (true≢false (sym covered ∙ c.in-None.ensures.segment))

pub returns-in-None-clause-limit : goal.returns-in-None-clause-limit
returns-in-None-clause-limit g c = λ page covered. absurd (true≢false (sym covered ∙ c.in-None.ensures.segment))

pub returns-in-None-clause-sound : goal.returns-in-None-clause-sound
returns-in-None-clause-sound g c = λ page covered. absurd (true≢false (sym covered ∙ c.in-None.ensures.segment))

pub returns-in-None-clause-looks : goal.returns-in-None-clause-looks
returns-in-None-clause-looks g c = c.page_by_halves.ensures.looks

pub returns-in-None-clause-lies : goal.returns-in-None-clause-lies
returns-in-None-clause-lies g c = c.page_by_halves.ensures.lies

pub returns-in-None-clause-room : goal.returns-in-None-clause-room
returns-in-None-clause-room g c = c.page_by_halves.ensures.room

pub returns-in-None-clause-most : goal.returns-in-None-clause-most
returns-in-None-clause-most g c = c.page_by_halves.ensures.most

pub returns-in-None-clause-holds : goal.returns-in-None-clause-holds
returns-in-None-clause-holds g c = c.page_by_halves.ensures.holds

pub returns-in-None-clause-within : goal.returns-in-None-clause-within
returns-in-None-clause-within g c = c.page_by_halves.ensures.within

pub returns-in-None-clause-fresh : goal.returns-in-None-clause-fresh
returns-in-None-clause-fresh g c = c.page_by_halves.ensures.fresh

pub returns-in-None-clause-fails : goal.returns-in-None-clause-fails
returns-in-None-clause-fails g c = c.page_by_halves.ensures.fails

pub returns-in-None-clause-far : goal.returns-in-None-clause-far
returns-in-None-clause-far g c = λ uncovered told up. c.page_by_halves.ensures.page told up

pub returns-in-None-clause-some : goal.returns-in-None-clause-some
returns-in-None-clause-some g c = λ uncovered. c.page_by_halves.ensures.some

pub returns-in-None-clause-few : goal.returns-in-None-clause-few
returns-in-None-clause-few g c = λ uncovered told. c.page_by_halves.ensures.limit told

pub returns-in-Some-clause-later : goal.returns-in-Some-clause-later
returns-in-Some-clause-later g c = c.segment.ensures.later

pub returns-in-Some-clause-comparisons : goal.returns-in-Some-clause-comparisons
returns-in-Some-clause-comparisons g c = c.segment.ensures.few

pub returns-in-None-clause-later : goal.returns-in-None-clause-later
returns-in-None-clause-later g c = c.segment.ensures.later

pub returns-in-None-clause-comparisons : goal.returns-in-None-clause-comparisons
returns-in-None-clause-comparisons g c = c.segment.ensures.few

pub page_downwards-requires-clause-lies : goal.page_downwards-requires-clause-lies
page_downwards-requires-clause-lies g c = c.requires.lies

pub page_downwards-requires-clause-room : goal.page_downwards-requires-clause-room
page_downwards-requires-clause-room g c = c.requires.room

pub page_by_halves-requires-clause-lies : goal.page_by_halves-requires-clause-lies
page_by_halves-requires-clause-lies g c = c.requires.lies

pub page_by_halves-requires-clause-room : goal.page_by_halves-requires-clause-room
page_by_halves-requires-clause-room g c = c.requires.room
