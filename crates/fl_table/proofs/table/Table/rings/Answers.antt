use Rattle.std.proofs.Common.{ℕ, ◌≤◌, sym, ◌∙◌, subst}
use Rattle.fl_table.proofs.RingsKept.{rings-are, rings-told}
use Rattle.fl_parts.proofs.Sizes.{table-fits}
use Rattle.fl_table.proofs.table.Table.rings.Goals as goal

pub returns-clause-exact : goal.returns-clause-exact
returns-clause-exact g c =
    rings-told c.args.self.now c.next_number-next.result c.oldest-oldest.result c.index_pages.result c.blob_pages.result c.next_number-next.ensures.exact c.oldest-oldest.ensures.exact c.index_pages.ensures c.blob_pages.ensures

pub returns-clause-stands : goal.returns-clause-stands
returns-clause-stands g c = λ f first plan table stands.
    rings-told c.args.self.now c.next_number-next.result c.oldest-oldest.result c.index_pages.result c.blob_pages.result c.next_number-next.ensures.exact c.oldest-oldest.ensures.exact c.index_pages.ensures c.blob_pages.ensures
    ∙ rings-are c.args.self.now f first plan table stands

pub oldest-oldest-requires : goal.oldest-oldest-requires
oldest-oldest-requires g c = table-fits g.row.KNOTS g.row.SLOTS c.args.self.now.few_knots c.args.self.now.few_slots

pub next_number-next-requires : goal.next_number-next-requires
next_number-next-requires g c = table-fits g.row.KNOTS g.row.SLOTS c.args.self.now.few_knots c.args.self.now.few_slots

pub overflow_sub-result : goal.overflow_sub-result
overflow_sub-result g c = subst (λ (n : ℕ). n ≤ c.next_number-next.result) (sym c.oldest-oldest.ensures.exact) c.next_number-next.ensures.ordered
