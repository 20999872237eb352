use Rattle.std.proofs.Common.{ℕ, ◌≤◌, Bool, true, false, sym, ◌∙◌, ap, subst, arith}
use Rattle.std.specs.Prelude.{min, if◌then◌else◌}
use Rattle.fl_find.specs.Index.{knots_in, window_end}
use Rattle.fl_model.specs.Spline.{is_covered}
use Rattle.fl_parts.proofs.Sizes.{table-fits, index-fits}
use Rattle.fl_table.proofs.table.Table.end_of_pages.Goals as goal

-- the lesser of two, where a test holds
least : (b : Bool) (a n : ℕ) → (if b then min a n else n) ≤ n
least true a n = omega arith
least false a n = omega arith

pub returns-clause-past : goal.returns-clause-past
returns-clause-past g c = λ f first plan table stands.
    c.end_of_pages.ensures.past plan table stands.facts stands.points stands.memory.index (c.next_number.ensures.stands f first plan table stands)

pub next_number-requires : goal.next_number-requires
next_number-requires g c = table-fits g.row.KNOTS g.row.SLOTS c.args.self.now.few_knots c.args.self.now.few_slots

pub returns-clause-table : goal.returns-clause-table
returns-clause-table g c = λ f first plan table stands.
    c.end_of_pages.ensures.table plan table stands.memory.index (c.next_number.ensures.stands f first plan table stands)

pub end_of_pages-requires : goal.end_of_pages-requires
end_of_pages-requires g c = index-fits g.row.KNOTS g.row.SLOTS c.args.self.now.few_knots c.args.self.now.few_slots

pub returns-clause-within : goal.returns-clause-within
returns-clause-within g c = subst (λ (n : ℕ). c.end_of_pages.result ≤ n) c.next_number.ensures.exact
    (subst (λ (k : ℕ). k ≤ c.next_number.result) (sym c.end_of_pages.ensures.exact) (least _ _ _))

pub returns-clause-exact : goal.returns-clause-exact
returns-clause-exact g c =
    c.end_of_pages.ensures.exact ∙ ap (λ (n : ℕ). if is_covered (knots_in c.args.self.now.index) c.args.key then window_end c.args.self.now.index n c.args.key else n) c.next_number.ensures.exact
