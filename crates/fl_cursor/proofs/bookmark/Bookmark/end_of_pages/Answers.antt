use Rattle.std.proofs.Common.{ℕ, Option, sym, ◌∙◌, ap, subst}
use Rattle.fl_cursor.specs.Ends.{EndsPages}
use Rattle.fl_cursor.specs.Sound.{pages_end}
use Rattle.fl_cursor.proofs.BehindLastPage.{ends-by}
use Rattle.fl_parts.proofs.Sizes.{table-fits}
use Rattle.fl_cursor.proofs.bookmark.Bookmark.end_of_pages.Goals as goal

pub returns-in-Some-clause-ends : goal.returns-in-Some-clause-ends
returns-in-Some-clause-ends g c =
    subst (λ (top : Option ℕ). EndsPages c.args.table.now top c.end_of_pages.result) (sym c.in-Some.is)
    (ends-by c.args.table.now c.in-Some.top c.end_of_pages.result c.end_of_pages.ensures.within (λ contents h. c.end_of_pages.ensures.past h.flash h.first h.plan h.table h.stands))

pub returns-in-Some-clause-exact : goal.returns-in-Some-clause-exact
returns-in-Some-clause-exact g c = c.end_of_pages.ensures.exact ∙ ap (λ (top : Option ℕ). pages_end c.args.table.now top) (sym c.in-Some.is)

pub returns-in-None-clause-exact : goal.returns-in-None-clause-exact
returns-in-None-clause-exact g c = c.requires.next ∙ ap (λ (top : Option ℕ). pages_end c.args.table.now top) (sym c.in-None.is)

pub returns-in-None-clause-ends : goal.returns-in-None-clause-ends
returns-in-None-clause-ends g c = subst (λ (top : Option ℕ). EndsPages c.args.table.now top c.args.next) (sym c.in-None.is) c.requires.next

pub end_of_pages-requires : goal.end_of_pages-requires
end_of_pages-requires g c = table-fits g.row.KNOTS g.row.SLOTS c.args.table.now.few_knots c.args.table.now.few_slots
