use Rattle.std.proofs.Common.{true, false, cond, refl, sym, ap, subst, ◌∙◌, ◌<◌}
use Rattle.std.specs.Prelude.{IfSome}
use Rattle.fl_spline.proofs.Segments.{segment-covered}
use Rattle.fl_spline.specs.Spline.{kept}
use Rattle.fl_model.specs.Spline.{page_at}
use Rattle.fl_find.specs.Index.{window_end}
use Rattle.fl_find.proofs.Ends.{end-past}
use Rattle.fl_find.proofs.Indexed.{index-ends}
use Rattle.fl_find.proofs.index.KeyIndex.end_of_pages.Goals as goal

pub returns-in-Some-clause-exact : goal.returns-in-Some-clause-exact
returns-in-Some-clause-exact g c =
    let near = segment-covered (kept c.args.self.now.spline) c.args.key c.in-Some.segment c.args.self.now.spline.rises c.in-Some.ensures.segment in
    c.end_of_window.ensures ∙ sym (ap (λ b. cond b (window_end c.args.self.now c.args.next c.args.key) c.args.next) near)

pub returns-in-Some-clause-table : goal.returns-in-Some-clause-table
returns-in-Some-clause-table g c = λ plan table index next.
    let near = segment-covered (kept c.args.self.now.spline) c.args.key c.in-Some.segment c.args.self.now.spline.rises c.in-Some.ensures.segment in
    index-ends c.args.self.now plan table c.args.key c.args.next c.end_of_window.result true index next near c.end_of_window.ensures

pub returns-in-Some-clause-past : goal.returns-in-Some-clause-past
returns-in-Some-clause-past g c = λ plan table facts points index next.
    let near = segment-covered (kept c.args.self.now.spline) c.args.key c.in-Some.segment c.args.self.now.spline.rises c.in-Some.ensures.segment in
    let is = index-ends c.args.self.now plan table c.args.key c.args.next c.end_of_window.result true index next near c.end_of_window.ensures in
    subst (λ end. IfSome (page_at table c.args.key) (λ page. page < end)) (sym is) (end-past g.row.KNOTS plan table c.args.key facts points index.rises)

pub returns-in-None-clause-past : goal.returns-in-None-clause-past
returns-in-None-clause-past g c = λ plan table facts points index next.
    let is = index-ends c.args.self.now plan table c.args.key c.args.next c.args.next false index next c.in-None.ensures.segment refl in
    subst (λ end. IfSome (page_at table c.args.key) (λ page. page < end)) (sym is) (end-past g.row.KNOTS plan table c.args.key facts points index.rises)
